-- What a loop over the steps of a card's session does: each action becomes a call of the device or of the host. The
-- events of its card are those of a card that serves over a line (line_core), so the laws of such a card hold of it.
-- `takes_short` says whether the setup lets the host get messages of fewer than four octets too.
use Rattle.std.specs.Prelude.{◌≡◌, ◌≤◌, ◌<◌, ◌+◌, ℕ, List, [], ◌∷◌, ◌++◌, length, take, Bool, true, false, if◌then◌else◌, Some, Result, Ok, Err}
use Rattle.block_core.specs.Block.{Parts, spelling}
use Rattle.t1_core.specs.Card.{CardState, Waits, card_turn, turn_of, state_after}
use Rattle.t1_core.specs.CardViews.{owed}
use Rattle.t1_core.specs.declared.turns.CardTurn.{CardTurn}
use Rattle.t1_core.specs.declared.turns.CardTurn.TheVariants as own_turn
use Rattle.t1_core.specs.declared.turns.CardFault.{CardFault}
use Rattle.line_core.specs.Bursts.{HasHeard, handed}
use Rattle.line_core.specs.Line.{block}
use Rattle.line_core.specs.Timed.{Sound, Sounds, said}
use Rattle.line_core.specs.Timed as timed
use Rattle.line_core.specs.Service.{Event, came, asked, requested, sent, unsent, is_new, wrong_length, Gets, Happens, Doing, hears, says, asks, Ending, ServesFor}
use Rattle.session_core.specs.declared.event.Next.{Next}
use Rattle.session_core.specs.declared.event.Next.TheVariants.{Heard}
use Rattle.session_core.specs.declared.progress.Phase.{Phase}
use Rattle.session_core.specs.declared.progress.Phase.TheVariants.{Late, Clearing, Settling, Sending}
use Rattle.session_core.specs.declared.lines.Line.{Line}
use Rattle.session_core.specs.declared.lines.Start.TheVariants.{Exchange}
use Rattle.session_core.specs.declared.action.Action.{Action}
use Rattle.session_core.specs.declared.action.Action.TheVariants as action
use Rattle.session_core.specs.Wire.{Step, ruled, seen, serves, handed_over, forever}
use Rattle.session_core.specs.Lines.{stepped, first_of}
use Rattle.session_core.specs.Terminals.{IsSent}
use Rattle.session_core.specs.Cards.{TurnsTo, IsStepped, heard_in, is_for_host, asked_about}
use Rattle.session_laws.specs.declared.host.HostTurn.{HostTurn}
use Rattle.session_laws.specs.Hosts.{input_by, event_at, is_first}
use Rattle.session_laws.specs.Running.{IsAsked, event_of, octets_of}

-- a card's session before its next action
pub record Placed : Type 0 where
  pub card : CardState
  pub line : Line
  pub granted : ℕ
  pub own : ℕ
  pub out : List ℕ
  pub next : Action

abbrev pub placed : CardState → Line → ℕ → ℕ → List ℕ → Action → Placed
placed card line granted own out next =
    record { card = card; line = line; granted = granted; own = own; out = out; next = next }

-- the session goes on after this action
abbrev pub lives : Action → Bool
lives (action.Send count) = true
lives (action.Wait time) = true
lives (action.Asked count) = true
lives other = false

-- what the line makes of a call of the device
abbrev pub step_by : Placed → Sound → List ℕ → Step
step_by before sound burst = stepped (event_of sound) (ruled before.line.rules) (seen before.line.progress) burst
    (octets_of sound) 0 (take before.own before.out)

-- ---- the events of a step

-- the session replies 6700 for its host to a message that the host doesn't get
abbrev pub replied_for : Bool → Waits → Result CardTurn CardFault → CardState → List Event
replied_for takes_short waits (Ok own_turn.Asked) c =
    if is_for_host takes_short (asked_about c) then [] else (asked (is_new waits) c.command wrong_length ∷ [])
replied_for takes_short waits turn c = []

-- the card takes a burst
abbrev pub heard_as : Bool → CardState → List ℕ → List Event
heard_as takes_short c burst = came (block (take handed burst))
    ∷ replied_for takes_short c.waits (turn_of (card_turn c (heard_in c burst)))
    (state_after c (card_turn c (heard_in c burst)))

abbrev pub stepped_as : Bool → Next → Step → CardState → List Event
stepped_as takes_short Heard step c = heard_as takes_short c (handed_over step.progress.is_spoiled step.burst)
stepped_as takes_short next step c = []

-- the device sent the card's block
abbrev pub sent_as : Sound → List Event
sent_as (said octets) = sent octets ∷ []
sent_as sound = []

abbrev pub events_by : Bool → Placed → Sound → List ℕ → List Event
events_by takes_short before sound burst = sent_as sound
    ++ stepped_as takes_short (step_by before sound burst).next (step_by before sound burst) before.card

-- The events at the host: each message that it gets with its reply, and each of its requests. If it takes short
-- messages, it gets them all.
abbrev pub for_host : Bool → List Event → List Event
for_host takes_short [] = []
for_host takes_short (asked is_new command reply ∷ events) =
    if is_for_host takes_short (length command) then (asked is_new command reply ∷ for_host takes_short events)
    else for_host takes_short events
for_host takes_short (requested is_new command request ∷ events) =
    requested is_new command request ∷ for_host takes_short events
for_host takes_short (came arrival ∷ events) = for_host takes_short events
for_host takes_short (sent octets ∷ events) = for_host takes_short events
for_host takes_short (unsent octets fault ∷ events) = for_host takes_short events

-- ---- the turns of the loop

-- a call of the device, and the step of the session that follows from it
pub record IsLineTurn (takes_short : Bool) (before : Placed) (sound : Sound) (after : Placed) : Type 0 where
  pub asked_for : IsAsked before.next before.out sound
  pub burst : List ℕ
  pub heard : HasHeard before.line.framer burst
  pub stepped_so : IsStepped (step_by before sound burst).next (step_by before sound burst) before.line.rules
      before.card takes_short before.granted after.granted 0 after.card after.line before.own after.own before.out
      after.out (Ok after.next)

-- the host acts on its command, or goes on with it, and this is its turn, with this reply if it replies
pub record IsHostTurn (before : Placed) (command reply : List ℕ) (turn : HostTurn) (after : Placed) : Type 0 where
  pub count : ℕ
  pub asked_for : before.next ≡ action.Asked count
  pub owes : owed before.card before.card.waits ≡ Some command
  pub burst : List ℕ
  pub heard : HasHeard before.line.framer burst
  pub granted_is : after.granted ≡ before.granted
  pub called : TurnsTo before.card (input_by reply turn) Exchange before.line.rules (seen before.line.progress) burst 0
      after.card after.line before.own after.own before.out after.out (Ok after.next)

-- The turns since the loop began, with the calls of the device, the events of the card, and those of its host, in their
-- order.
pub data Turns (takes_short : Bool) (first : Placed) : List Sound → List Event → List Event → Placed → Type 0 where
  none : Turns takes_short first [] [] [] first
  by_line : (sounds : List Sound) (events acts : List Event) (before : Placed) (sound : Sound) (after : Placed)
      → Turns takes_short first sounds events acts before → (turn : IsLineTurn takes_short before sound after)
      → Turns takes_short first (sounds ++ sound ∷ []) (events ++ events_by takes_short before sound turn.burst) acts
      after
  by_host : (sounds : List Sound) (events acts : List Event) (before : Placed) (command reply : List ℕ)
      (turn : HostTurn) (after : Placed) → Turns takes_short first sounds events acts before
      → IsHostTurn before command reply turn after
      → Turns takes_short first sounds (events ++ event_at (is_first before.granted) command reply turn ∷ [])
      (acts ++ event_at (is_first before.granted) command reply turn ∷ []) after

-- the card began to listen
pub record IsBegun (card : CardState) (line : Line) (first : Placed) : Type 0 where
  pub burst : List ℕ
  pub heard : HasHeard line.framer burst
  pub card_is : first.card ≡ card
  pub begun : IsSent (serves (ruled line.rules) (first_of line forever) burst 0) line.rules 0 first.line first.next

-- What the loop has done: the calls of the device and of the host since it began, as turns that lead to where the
-- session stands.
pub record Ran {A B : Type 0} (takes_short : Bool) (old new : A → List Sound → Type 0)
    (old_host new_host : B → List Event → Type 0) (card : CardState) (line : Line) (events : List Event)
    (last : Placed) : Type 0 where
  pub first : Placed
  pub begun : IsBegun card line first
  pub sounds : List Sound
  pub adds : Sounds old new sounds
  pub acts : List Event
  pub acted : Happens old_host new_host acts
  pub turns : Turns takes_short first sounds events acts last

-- Why the loop made no more turns, each of which is a call of the device or a turn of the host. It made as many as it
-- may, or the last action ends the session, or nothing came in the last call, a wait without a limit.
pub data IsOver (most : ℕ) (sounds : List Sound) (acts : List Event) (last : Action) : Type 0 where
  all_made : length sounds + length acts ≡ most → IsOver most sounds acts last
  ended : length sounds + length acts ≤ most → lives last ≡ false → IsOver most sounds acts last
  no_more : (earlier : List Sound) → length sounds + length acts ≤ most → sounds ≡ earlier ++ timed.came forever [] ∷ []
      → IsOver most sounds acts last

-- ---- the run of the card's table

-- in these phases the block isn't sent yet
abbrev pub is_unsent : Phase → Bool
is_unsent Late = true
is_unsent Clearing = true
is_unsent Settling = true
is_unsent Sending = true
is_unsent phase = false

-- the card has to send the block at the front of `out`
abbrev pub IsToSend : List ℕ → Doing → Type 0
IsToSend octets doing = (sent : Parts) × (doing ≡ says sent) × (octets ≡ spelling sent)

abbrev pub IsToHear : Bool → List ℕ → Doing → Type 0
IsToHear true octets doing = IsToSend octets doing
IsToHear false octets doing = doing ≡ hears

-- What the card has to do before this action. A host that is asked owes the reply to a message that it gets. The session
-- knows whether the message is new to it.
abbrev pub IsDoing : Bool → Action → Placed → Doing → Type 0
IsDoing takes_short (action.Send count) s doing = (count ≡ s.own) × IsToSend (take s.own s.out) doing
IsDoing takes_short (action.Wait time) s doing =
    IsToHear (is_unsent (seen s.line.progress).phase) (take s.own s.out) doing
IsDoing takes_short (action.Asked count) s doing = (doing ≡ asks (is_first s.granted))
    × (owed s.card s.card.waits ≡ Some s.card.command)
    × Gets takes_short s.card.command
IsDoing takes_short other s doing = Unit {0}

-- These events begin a run of the card's table: whatever follows from the present state, follows them from the first
-- one.
pub record Begins (takes_short : Bool) (c0 : CardState) (events : List Event) (doing : Doing) (c : CardState)
    : Type 0 where
  pub follows : (most : ℕ) (more : List Event) (ending : Ending) (left : CardState)
      → ServesFor takes_short most doing c more ending left
      → (least : ℕ) × ServesFor takes_short least hears c0 (events ++ more) ending left

-- where the session stands in such a run
pub record IsServed (takes_short : Bool) (c0 : CardState) (events : List Event) (s : Placed) : Type 0 where
  pub doing : Doing
  pub is : IsDoing takes_short s.next s doing
  pub begins : Begins takes_short c0 events doing s.card

-- ---- a refusal

-- The card refused a burst, after this last call of the device, or the call of its host in this last turn of it.
pub data IsRefused (takes_short : Bool) (before : Placed) (fault : CardFault) : List Sound → List Event → Type 0 where
  burst_refused : (sound : Sound) (burst : List ℕ) (granted own : ℕ) (out : List ℕ) (card : CardState) (line : Line)
      → IsAsked before.next before.out sound → HasHeard before.line.framer burst
      → IsStepped (step_by before sound burst).next (step_by before sound burst) before.line.rules before.card
      takes_short before.granted granted 0 card line before.own own before.out out (Err fault)
      → IsRefused takes_short before fault (sound ∷ []) []
  turn_refused : (reply : List ℕ) (turn : HostTurn) → turn_of (card_turn before.card (input_by reply turn)) ≡ Err fault
      → IsRefused takes_short before fault [] (event_at (is_first before.granted) before.card.command reply turn ∷ [])

-- What the loop has done, if the card refused something after these turns, which are fewer than it may make.
pub record Stopped {A B : Type 0} (takes_short : Bool) (old new : A → List Sound → Type 0)
    (old_host new_host : B → List Event → Type 0) (card : CardState) (line : Line) (most : ℕ) (fault : CardFault)
    : Type 0 where
  pub first : Placed
  pub begun : IsBegun card line first
  pub sounds : List Sound
  pub events : List Event
  pub acts : List Event
  pub before : Placed
  pub turns : Turns takes_short first sounds events acts before
  pub few : length sounds + length acts < most
  pub last_sounds : List Sound
  pub last_acts : List Event
  pub refused : IsRefused takes_short before fault last_sounds last_acts
  pub adds : Sounds old new (sounds ++ last_sounds)
  pub acted : Happens old_host new_host (acts ++ last_acts)
