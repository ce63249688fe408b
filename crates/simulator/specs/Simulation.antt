-- The events of a session that is given in advance: its commands, the host's replies, and what happens to each block.
use Rattle.std.specs.Prelude.{◌≡◌, ◌<◌, ℕ, length, zero, suc, ◌+◌, ◌*◌, nat_eq, List, [], ◌∷◌, Bool, if◌then◌else◌, Option, Some, None, Result, Ok, Err}
use Rattle.std.specs.List.{list_any}
use Rattle.std.specs.HashSet.{contains, HashSet}
use Rattle.std.specs.declared.hash.BuildHasherDefault.{BuildHasherDefault}
use Rattle.std.specs.declared.hash.FoldHasher.{FoldHasher}
use Rattle.program_words.specs.declared.session.Pair.{Pair}
use Rattle.program_words.specs.declared.session.Session.{Session}
use Rattle.t1_core.specs.Terminal.{longest}
use Rattle.t1_core.specs.Link as link
use Rattle.t1_core.specs.declared.turns.TerminalTurn.TheVariants.{Send, Answered, IfsSet, GivenUp, Dead}
use Rattle.t1_core.specs.declared.turns.CardTurn.TheVariants.{Send as Sends, Asked}
use Rattle.exchange_text.specs.Exchange.{ExchangeParts}
use Rattle.exchange_core.specs.Recording.{Recording, closed, recorded}
use Rattle.exchange_core.specs.Faults.{atr_fault_name}
use Rattle.exchange_core.specs.Replay.{IsFound}
use Rattle.exchange_text.specs.Text.{exchange_text}
use Rattle.exchange_core.specs.declared.event.EventFault.{EventFault}
use Rattle.exchange_core.specs.declared.event.LastTurn.{LastTurn}
use Rattle.exchange_core.specs.declared.event.LastTurn.TheVariants.{Nothing, Terminal, Card}
use Rattle.exchange_text.specs.declared.exchange.Version.TheVariants.{One}
use Rattle.simulator.specs.declared.fates.Fates.{Fates}
use Rattle.simulator.specs.declared.fault.SimulationFault.{SimulationFault}
use Rattle.simulator.specs.declared.fault.SimulationFault.TheVariants.{Refused, TooLarge, Memory}

-- ---- what happens next

-- How far a session has come.
pub record Place : Type 0 where
  -- the pairs that haven't begun yet
  pub left : List Pair
  -- the reply of the pair that began last
  pub reply : List ℕ
  -- how many blocks were sent
  pub sent : ℕ

abbrev pub start : Session → Place
start s = record { left = s.pairs; reply = []; sent = 0 }

-- whether a list names the block with this number
abbrev pub is_named : ℕ → List ℕ → Bool
is_named number blocks = list_any (nat_eq number) blocks

-- What happens to the block with this number. If several lists name it, the first of these counts: lost, damaged,
-- spoiled.
abbrev pub fate : Session → ℕ → link.Event
fate s number =
    if is_named number s.lost then link.loses
    else (if is_named number s.damaged then link.damages
    else (if is_named number s.spoilt then link.spoils
    else link.delivers))

-- an event, and how far the session has come with it; None if the session ends
abbrev pub Next : Type 0
Next = Option (link.Event × Place)

-- the next block is sent
abbrev pub sends : Session → Place → Next
sends s at = Some (fate s (at.sent + 1), record at { sent = at.sent + 1 })

-- the next command, if a pair is left
abbrev pub begins : Place → List Pair → Next
begins at [] = None
begins at (pair ∷ left) = Some (link.transmits pair.command, record at { left = left; reply = pair.reply })

-- first the terminal asks for a size, if the session has one
abbrev pub opens : Place → Option ℕ → Next
opens at None = begins at at.left
opens at (Some size) = Some (link.asks_ifsd size, at)

-- what happens after this turn
abbrev pub next : Session → Place → LastTurn → Next
next s at Nothing = opens at s.ifsd
next s at (Terminal (Send block)) = sends s at
next s at (Terminal Answered) = begins at at.left
next s at (Terminal IfsSet) = begins at at.left
next s at (Terminal GivenUp) = begins at at.left
next s at (Terminal Dead) = None
next s at (Card (Sends block)) = sends s at
next s at (Card Asked) = Some (link.host_replies at.reply, at)

-- ---- the whole session

-- if an end refuses an event, the session ends before it
abbrev pub onward : (Recording → Option Recording) → Recording → Result Recording EventFault → Option Recording
onward go r (Ok after) = go after
onward go r (Err fault) = Some r

abbrev pub further : (Place → Recording → Option Recording) → Recording → Next → Option Recording
further go r None = Some r
further go r (Some step) = onward (go step.1) r (recorded r step.0)

-- The record at the end of a session that has come this far, if fewer than so many events lead to the end.
unfoldable pub simulated : ℕ → Session → Place → Recording → Option Recording
simulated zero s at r = None
simulated (suc most) s at r = further (simulated most s) r (next s at r.last)

-- a recorder with a new terminal and a new card
abbrev pub new_recording : List ℕ → ℕ → Recording
new_recording atr ifsc = record { atr = atr; ifsc = ifsc; lines = []; last = Nothing }

-- This is the record at the end of a session, with a card that takes fields of so many octets.
abbrev pub EndsAs : Session → ℕ → Recording → Type 0
EndsAs s ifsc r = (events : ℕ) × (simulated events s (start s) (new_recording s.atr ifsc) ≡ Some r)

-- the exchange of a recorder
abbrev pub exchange_of : Recording → ExchangeParts
exchange_of r = record { version = One; atr = r.atr; lines = closed r }

-- ---- the most events of a session

-- the octets of the replies
abbrev pub reply_octets : List Pair → ℕ
reply_octets [] = 0
reply_octets (pair ∷ left) = length pair.reply + reply_octets left

-- the events if every block arrives: eight for each octet of a command or reply, and 50 for each pair
abbrev pub pair_events : List Pair → ℕ
pair_events [] = 0
pair_events (pair ∷ left) = 8 * length pair.command + (8 * length pair.reply + (50 + pair_events left))

-- the further events for a block that is lost, damaged or spoiled: those of the longest command and of the replies
abbrev pub fault_events : Session → ℕ
fault_events s = 8 * longest.command + (8 * reply_octets s.pairs + 60)

-- how many numbers the three lists have
abbrev pub listed : Session → ℕ
listed s = length s.lost + (length s.damaged + length s.spoilt)

abbrev pub most_events : Session → ℕ
most_events s = listed s * fault_events s + (pair_events s.pairs + 11)

-- Each session with an answer to reset that can be used ends after fewer than so many events.
abbrev pub EachSessionEnds : Type 0
EachSessionEnds = (s : Session) (ifsc : ℕ) → IsFound s.atr (Ok ifsc)
    → (r : Recording) × (simulated (most_events s) s (start s) (new_recording s.atr ifsc) ≡ Some r)

-- ---- the result of a session

-- The result of a session: its exchange, or why there is none. It is too large only if the text of its exchange has
-- more than so many octets.
abbrev pub IsSimulated : ℕ → Session → Result ExchangeParts SimulationFault → Type 0
IsSimulated largest s (Ok e) = (ifsc : ℕ) × (r : Recording) × IsFound s.atr (Ok ifsc) × EndsAs s ifsc r
    × (e ≡ exchange_of r)
IsSimulated largest s (Err (Refused fault)) = IsFound s.atr (Err (atr_fault_name fault))
IsSimulated largest s (Err TooLarge) = (ifsc : ℕ) × IsFound s.atr (Ok ifsc)
    × ((r : Recording) → EndsAs s ifsc r → largest < length (exchange_text (exchange_of r)))
IsSimulated largest s (Err Memory) = Unit {0}

-- ---- the lists as sets

-- the set has the blocks that the list names
abbrev pub HasBlocks : HashSet ℕ (BuildHasherDefault FoldHasher) → List ℕ → Type 0
HasBlocks set blocks = (number : ℕ) → contains nat_eq set number ≡ is_named number blocks

-- the sets are the lists of a session
pub record AreFates (fates : Fates) (s : Session) : Type 0 where
  pub lost : HasBlocks fates.lost s.lost
  pub damaged : HasBlocks fates.damaged s.damaged
  pub spoilt : HasBlocks fates.spoilt s.spoilt

-- ---- the run of a session

-- P, if a run didn't end in time; a run never refuses the answer to reset
abbrev pub IfTooLarge : SimulationFault → Type 0 → Type 0
IfTooLarge (Refused fault) P = ⊥
IfTooLarge TooLarge P = P
IfTooLarge Memory P = Unit {0}

-- P, if a session is too large
abbrev pub WhereTooLarge : SimulationFault → Type 0 → Type 0
WhereTooLarge (Refused fault) P = Unit {0}
WhereTooLarge TooLarge P = P
WhereTooLarge Memory P = Unit {0}
