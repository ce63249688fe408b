-- How much an exchange of a terminal may still do on its line, as a number that falls with each event.
use Rattle.std.specs.Prelude.{◌≡◌, ◌≤◌, ◌<◌, ℕ, ◌+◌, ◌-◌, ◌*◌, List, length, Bool, true, false, ◌==◌, if◌then◌else◌}
use Rattle.session_core.specs.declared.event.Next.{Next}
use Rattle.session_core.specs.declared.event.Next.TheVariants.{Send, Wait}
use Rattle.session_core.specs.declared.progress.Phase.{Phase}
use Rattle.session_core.specs.declared.progress.Phase.TheVariants.{Idle, Late, Clearing, Settling, Sending, Echoing, Listening, Missing}
use Rattle.session_core.specs.declared.progress.Rules.{Rules}
use Rattle.session_core.specs.declared.lines.Line.{Line}
use Rattle.session_core.specs.declared.action.Action.{Action}
use Rattle.session_core.specs.declared.action.Action.TheVariants as action
use Rattle.session_core.specs.Wire.{Ruled, Doing, Step, ruled, seen, is_set}
use Rattle.line_core.specs.Bursts.{HasHeard}

-- How many events the line takes at most in each phase, before it stops or sends the next block. It still drops `left`
-- octets, `own` octets of its echo came, and the burst has `count` octets.
abbrev pub rest_in : Phase → ℕ → ℕ → ℕ → ℕ
rest_in Idle left own count = 0
rest_in Late left own count = 65538
rest_in Clearing left own count = left + 1
rest_in Settling left own count = left + 65798
rest_in Sending left own count = 65797
rest_in Echoing left own count = 65538 + (258 - own)
rest_in Listening left own count = 65536 - count + 1
rest_in Missing left own count = left + 1

-- how many events a block takes at most, with the silence before it
abbrev pub for_block : ℕ
for_block = 131335

-- how many blocks the exchange may still begin
abbrev pub to_begin : Ruled → Doing → ℕ
to_begin r p = r.most_blocks - p.blocks

-- how many events the exchange takes at most
abbrev pub rest : Ruled → Doing → ℕ → ℕ
rest r p count = to_begin r p * for_block + rest_in p.phase p.left p.own count

-- a block that was begun and isn't sent yet
abbrev pub held_in : Phase → ℕ
held_in Settling = 1
held_in phase = 0

-- how many blocks the exchange may still send
abbrev pub to_send : Ruled → Doing → ℕ
to_send r p = to_begin r p + held_in p.phase

-- how many blocks are sent by this
abbrev pub sent_by : Next → ℕ
sent_by Send = 1
sent_by next = 0

-- The step leaves less to do than `most`, and `blocks` blocks at most are sent by it and after it.
pub record IsLess (r : Ruled) (most blocks : ℕ) (step : Step) : Type 0 where
  pub less : rest r step.progress (length step.burst) < most
  pub sends : sent_by step.next + to_send r step.progress ≤ blocks

-- ---- the time of an exchange

-- the exchange has a limit of time, and its waits count, since there is no clock
pub record IsTimed (r : Ruled) : Type 0 where
  pub by_waits : r.has_clock ≡ false
  pub limited : (r.most_time == 18446744073709551615) ≡ false

-- After the step at least `floor` of the time is certainly over. If it waits, then no longer than what is left.
pub record IsTimely (r : Ruled) (floor : ℕ) (step : Step) : Type 0 where
  pub spent : floor ≤ step.progress.spent
  pub in_time : IsTimed r → (time : ℕ) → step.next ≡ Wait time
      → (step.progress.asked ≡ time) × (time ≤ r.most_time - step.progress.spent)

-- ---- what a session does

-- something else happens after this
abbrev pub goes : Action → Bool
goes (action.Send count) = true
goes (action.Wait time) = true
goes done = false

-- how many blocks are sent by it
abbrev pub sends : Action → ℕ
sends (action.Send count) = 1
sends other = 0

-- some octets are the burst that the line holds
abbrev pub HasBurst : Line → Type 0
HasBurst line = (burst : List ℕ) × HasHeard line.framer burst

-- how many events the line takes at most
abbrev pub rest_of : Line → ℕ
rest_of line = rest (ruled line.rules) (seen line.progress) line.framer.count

-- how many blocks the session sends at most, this action's too
abbrev pub blocks_of : Line → Action → ℕ
blocks_of line next = sends next + to_send (ruled line.rules) (seen line.progress)

-- The line of a session with these rules before its next action. If that isn't the last one, fewer events than `most`
-- are left, and at most `blocks` blocks are sent.
pub record IsNext (rules : Rules) (most blocks : ℕ) (line : Line) (next : Action) : Type 0 where
  pub rules_are : line.rules ≡ rules
  pub burst : HasBurst line
  pub less : goes next ≡ true → rest_of line < most
  pub few : goes next ≡ true → blocks_of line next ≤ blocks

-- how many more actions the session has at most
abbrev pub fuel : Line → Action → ℕ
fuel line next = if goes next then rest_of line + 1 else 0

-- a terminal that has sent so many blocks of an exchange, before its next action
pub record IsWithin (most sent : ℕ) (line : Line) (next : Action) : Type 0 where
  pub terminal : is_set line.rules.is_card ≡ false
  pub clock : is_set line.rules.has_clock ≡ false
  pub burst : HasBurst line
  pub counted : goes next ≡ true → line.rules.most_blocks ≤ 4294967295
  pub few : goes next ≡ true → sent + blocks_of line next ≤ most
  pub within : sent ≤ most

-- how long an end has waited by this event after this action: for a silence as long as the wait
abbrev pub waited_by : ℕ → Action → ℕ
waited_by event (action.Wait time) = if event == 3 then time else 0
waited_by event other = 0

-- A session that goes on. The time that it waited counts, and it waits no longer than what is left.
pub record IsInTime (most waited : ℕ) (line : Line) (next : Action) : Type 0 where
  pub limit : line.rules.most_time ≡ most
  pub by_waits : is_set line.rules.has_clock ≡ false
  pub counts : waited ≤ line.progress.spent
  pub no_longer : (time : ℕ) → next ≡ action.Wait time
      → (line.progress.asked ≡ time) × (time ≤ most - line.progress.spent)

-- a session that has waited so long, before its next action
pub record HasWaited (most waited : ℕ) (line : Line) (next : Action) : Type 0 where
  pub total : waited ≤ most
  pub going : goes next ≡ true → IsInTime most waited line next

-- a time is limited
abbrev pub is_limited : ℕ → Type 0
is_limited time = (time == 18446744073709551615) ≡ false

-- A number is that of something that happened, and of octets only if one or more came.
abbrev pub events_in : ℕ → ℕ → Type 0
events_in event count = ((event == 1) ≡ true → 1 ≤ count) × ((event == 2) ≡ true → 1 ≤ count)
