-- What the judge makes of a trace from which a block is missing that the tap didn't see. Such a block was lost: nothing
-- reached the other end, and the terminal's waiting time ended after it.
use Rattle.std.specs.Prelude.{◌≡◌, ◌≤◌, ℕ, List, [], ◌∷◌, length, true, false, Option, Some, None}
use Rattle.block_core.specs.Block.{Parts}
use Rattle.block_core.specs.declared.pcb.Pcb.{Pcb}
use Rattle.block_core.specs.declared.pcb.Pcb.TheVariants.{Info, Ready, Request, Response}
use Rattle.block_core.specs.declared.side.Side.{Side}
use Rattle.block_core.specs.declared.side.Side.TheVariants.{Terminal, Card}
use Rattle.judge_core.specs.declared.courses.Heard.TheVariants.{Broken, Nothing}
use Rattle.judge_core.specs.declared.courses.Verdict.{Verdict}
use Rattle.judge_core.specs.declared.courses.Verdict.TheVariants.{Permitted, Unseen, Deviates}
use Rattle.judge_core.specs.declared.monitor.Monitor.{Monitor}
use Rattle.judge_core.specs.declared.monitor.Said.{Said}
use Rattle.judge_core.specs.declared.monitor.Watched.{Watched}
use Rattle.judge_core.specs.Sends.{is_foreign}
use Rattle.judge_core.specs.Doubts.{is_open, is_turn, judged_of}
use Rattle.judge_core.specs.Connections.{is_asked}
use Rattle.judge_core.specs.Monitored.{is_other, lost, midway_after, monitor_after, new_monitor, quiet_after, reset_after, said_in, Reaching, Seen}

-- the trace with the block, and without it
abbrev pub with_block : Monitor → Side → Seen → Monitor
with_block m from seen = quiet_after (monitor_after m from seen lost)

abbrev pub without_block : Monitor → Monitor
without_block m = quiet_after m

-- what a terminal does: its waiting time ends, or it sends octets, which reach the card in some way
pub data Act : Type 0 where
  waits : Act
  puts : (seen : Seen) (reaching : Reaching) → Act

abbrev pub after_act : Monitor → Act → Monitor
after_act m waits = quiet_after m
after_act m (puts seen reaching) = monitor_after m Terminal seen reaching

-- what the judge says of it
abbrev pub said_at : Monitor → Act → Option Said
said_at m waits = None
said_at m (puts seen reaching) = Some (said_in m Terminal seen)

abbrev pub after_acts : Monitor → List Act → Monitor
after_acts m [] = m
after_acts m (act ∷ acts) = after_acts (after_act m act) acts

abbrev pub said_of_acts : Monitor → List Act → List (Option Said)
said_of_acts m [] = []
said_of_acts m (act ∷ acts) = said_at m act ∷ said_of_acts (after_act m act) acts

-- The card's block is missing, after a block of the terminal. Whatever the terminal then does, the judge says the same of
-- it as with the block. The card may then send any block.
pub record ForgivesCard (m : Monitor) (seen : Seen) : Type 0 where
  pub terminal : (with_block m Card seen).terminal ≡ (without_block m).terminal
  pub said : (first : ℕ) → m.nad ≡ Some first → (acts : List Act)
      → said_of_acts (with_block m Card seen) acts ≡ said_of_acts (without_block m) acts
  pub card : (acts : List Act) → is_open (after_acts (without_block m) acts).card.doubt ≡ true

-- The terminal's block is missing, after a block of the card.
pub record ForgivesTerminal (m : Monitor) (seen : Seen) : Type 0 where
  pub card : (with_block m Terminal seen).card ≡ (without_block m).card
  pub terminal : is_open (without_block m).terminal.doubt ≡ true

-- The terminal waits for no answer of another logical connection: then the other end of this one has the turn.
abbrev pub Forgives : Monitor → Side → Seen → Type 0
Forgives m Card seen =
    is_asked m.last ≡ false → m.terminal.heard ≡ Broken → is_turn m.card.heard ≡ true → ForgivesCard m seen
Forgives m Terminal seen =
    is_asked m.last ≡ false → m.card.heard ≡ Nothing → is_turn m.terminal.heard ≡ true → ForgivesTerminal m seen

-- The terminal waits for an answer of another connection only directly after its own block of that one: not at the
-- beginning of a trace, and not after any other event. So with one connection it never does.
pub record WaitsElsewhere : Type 0 where
  pub begun : (ifsc : ℕ) → is_asked (new_monitor ifsc).last ≡ false
  pub reset : (m : Monitor) (ifsc : ℕ) → is_asked (reset_after m ifsc).last ≡ false
  pub midway : (m : Monitor) → is_asked (midway_after m).last ≡ false
  pub quiet : (m : Monitor) → is_asked (quiet_after m).last ≡ false
  pub card : (m : Monitor) (seen : Seen) (reaching : Reaching)
      → is_asked (monitor_after m Card seen reaching).last ≡ false
  pub terminal : (m : Monitor) (seen : Seen) (reaching : Reaching) → is_other Terminal m.nad seen ≡ false
      → is_asked (monitor_after m Terminal seen reaching).last ≡ false

-- the field isn't longer than what the other end takes (11.4.2)
abbrev pub IsWithin : ℕ → Pcb → List ℕ → Type 0
IsWithin room (Info number more) inf = length inf ≤ room
IsWithin room (Ready number fault) inf = Unit {0}
IsWithin room (Request s) inf = Unit {0}
IsWithin room (Response s) inf = Unit {0}

abbrev pub IsNoDeviation : Verdict → Type 0
IsNoDeviation Permitted = Unit {0}
IsNoDeviation Unseen = Unit {0}
IsNoDeviation (Deviates broken owed) = ⊥

-- An end that may send any block deviates by none, except by a request of the other end and by a field that is too long.
abbrev pub MaySendAny : Watched → Type 0
MaySendAny w = (block : Parts) → is_foreign w.«end».side block.pcb ≡ false
    → IsWithin w.«end».room block.pcb block.inf → IsNoDeviation (judged_of w block).verdict
