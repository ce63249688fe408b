-- A card that serves what comes over a line, by its table, what came and what its host replies.
use Rattle.std.specs.Prelude.{◌≡◌, ◌≤◌, ℕ, ◌-◌, List, [], ◌∷◌, ◌++◌, length, take, nat_lt, if◌then◌else◌, Bool, true, false, Result, Ok, Err}
use Rattle.std.specs.declared.io.Error.{Error}
use Rattle.block_core.specs.Block.{Parts, spelling}
use Rattle.t1_core.specs.Came.{class_of}
use Rattle.t1_core.specs.Card.{CardState, CardInput, CardRequest, size, time, Waits, asking, replies, more_time, ask_ifs, takes, card_turn, turn_of, state_after}
use Rattle.t1_core.specs.declared.turns.CardTurn.{CardTurn}
use Rattle.t1_core.specs.declared.turns.CardTurn.TheVariants.{Send, Asked}
use Rattle.t1_core.specs.declared.turns.CardFault.{CardFault}
use Rattle.line_core.specs.declared.serving.ServeFault.{ServeFault}
use Rattle.line_core.specs.declared.serving.ServeFault.TheVariants.{Line, UsedUp, Refused}
use Rattle.line_core.specs.Line.{Arrival, block, nothing, failure}

-- What happens at the card. Something came, or the line said that no more comes. The host owes the reply to a command,
-- which is new to it, or about which the terminal granted its request: this is its reply, or the reply for it, or what
-- it asks the terminal for first. A block was sent, or the line failed to send it, with this error.
pub data Event : Type 0 where
  came : (arrival : Arrival) → Event
  asked : (is_new : Bool) (command reply : List ℕ) → Event
  requested : (is_new : Bool) (command : List ℕ) (request : CardRequest) → Event
  sent : (octets : List ℕ) → Event
  unsent : (octets : List ℕ) (fault : Error) → Event

-- Fewer octets than a command has: CLA, INS, P1 and P2 (ISO/IEC 7816-4, clause 5.1).
abbrev pub is_short : List ℕ → Bool
is_short command = nat_lt (length command) 4

-- SW 6700, wrong length (ISO/IEC 7816-4, clause 5.1.3)
abbrev pub wrong_length : List ℕ
wrong_length = 0x67 ∷ 0x00 ∷ []

-- the reply to a message: 6700 for its host if the message is too short for a command (own), else that of the host
abbrev pub reply_by : Bool → List ℕ → List ℕ
reply_by true reply = wrong_length
reply_by false reply = reply

abbrev pub IsReplyTo : List ℕ → List ℕ → Type 0
IsReplyTo command reply = is_short command ≡ true → reply ≡ wrong_length

-- The same for a host that may take such messages too, as a card in steps may have: it gets each message then.
abbrev pub IsReplyFor : Bool → List ℕ → List ℕ → Type 0
IsReplyFor true command reply = Unit {0}
IsReplyFor false command reply = IsReplyTo command reply

-- the host gets this message, so it may ask for time or a size
abbrev pub Gets : Bool → List ℕ → Type 0
Gets true command = Unit {0}
Gets false command = is_short command ≡ false

-- the events on the line
abbrev pub on_line : List Event → List Event
on_line [] = []
on_line (asked is_new command reply ∷ events) = on_line events
on_line (requested is_new command request ∷ events) = on_line events
on_line (came arrival ∷ events) = came arrival ∷ on_line events
on_line (sent octets ∷ events) = sent octets ∷ on_line events
on_line (unsent octets fault ∷ events) = unsent octets fault ∷ on_line events

-- the events at a host that only replies: it acts on each command, and never on a message that is too short for one
abbrev pub at_host : List Event → List Event
at_host [] = []
at_host (asked is_new command reply ∷ events) =
    if is_short command then at_host events else (asked true command reply ∷ at_host events)
at_host (requested is_new command request ∷ events) = at_host events
at_host (came arrival ∷ events) = at_host events
at_host (sent octets ∷ events) = at_host events
at_host (unsent octets fault ∷ events) = at_host events

-- the event that a call to send a block adds
abbrev pub sending : {A : Type 0} → List ℕ → Result A Error → Event
sending octets (Ok done) = sent octets
sending octets (Err fault) = unsent octets fault

-- From any earlier state of the line, or of the host, these events came after those before, and nothing else did.
abbrev pub Happens : {A : Type 0} → (A → List Event → Type 0) → (A → List Event → Type 0) → List Event → Type 0
Happens {A} old new events = (first : A) (before : List Event) → old first before → new first (before ++ events)

-- How serving ends: no more comes, the line failed with this error, as many blocks came as the caller allows, or the
-- card refused what came or the reply.
pub data Ending : Type 0 where
  over : Ending
  line_failed : (fault : Error) → Ending
  used_up : Ending
  refused : (fault : CardFault) → Ending

abbrev pub ending_of : {A : Type 0} → Result A ServeFault → Ending
ending_of (Ok done) = over
ending_of (Err (Line inner)) = line_failed inner
ending_of (Err UsedUp) = used_up
ending_of (Err (Refused inner)) = refused inner

-- What the card does next: it waits for a block, it sends one, it asks its host about a command that is new to it or
-- not, or serving ends.
pub data Doing : Type 0 where
  hears : Doing
  says : (block : Parts) → Doing
  asks : (is_new : Bool) → Doing
  ends : (ending : Ending) → Doing

-- the host that is asked next gets a new command, unless the terminal granted its request
abbrev pub is_new : Waits → Bool
is_new (asking request) = false
is_new waits = true

-- what a card that waited for this does after a turn
abbrev pub doing_of : Waits → Result CardTurn CardFault → Doing
doing_of waits (Ok (Send parts)) = says parts
doing_of waits (Ok Asked) = asks (is_new waits)
doing_of waits (Err inner) = ends (refused inner)

-- what an input leads to
abbrev pub doing_by : CardState → CardInput → Doing
doing_by c input = doing_of c.waits (turn_of (card_turn c input))

-- the call by which the host asks for this
abbrev pub input_of : CardRequest → CardInput
input_of (size n) = ask_ifs n
input_of (time n) = more_time n

abbrev pub doing_after : CardState → Arrival → Doing
doing_after c (block octets) = doing_by c (takes (class_of c.ifsc octets))
doing_after c nothing = ends over
doing_after c (failure fault) = ends (line_failed fault)

abbrev pub left_after : CardState → Arrival → CardState
left_after c (block octets) = state_after c (card_turn c (takes (class_of c.ifsc octets)))
left_after c nothing = c
left_after c (failure fault) = c

-- The card is in state c, has this to do next, and at most so many blocks may come. Then these events happen, serving
-- ends so, and the card is left in this state. `takes_short` says whether its host takes messages that are too short for
-- a command.
abbrev pub ServesFor : Bool → ℕ → Doing → CardState → List Event → Ending → CardState → Type 0
ServesFor takes_short most hears c (came arrival ∷ events) ending left =
    (1 ≤ most) × ServesFor takes_short (most - 1) (doing_after c arrival) (left_after c arrival) events ending left
ServesFor takes_short most hears c [] ending left = (most ≡ 0) × (ending ≡ used_up) × (left ≡ c)
ServesFor takes_short most (asks new) c (asked is command reply ∷ events) ending left =
    (is ≡ new) × (command ≡ c.command) × IsReplyFor takes_short command reply
    × ServesFor takes_short most (doing_by c (replies reply))
    (state_after c (card_turn c (replies reply))) events ending left
ServesFor takes_short most (asks new) c (requested is command request ∷ events) ending left =
    (is ≡ new) × (command ≡ c.command) × Gets takes_short command
    × ServesFor takes_short most (doing_by c (input_of request))
    (state_after c (card_turn c (input_of request))) events ending left
ServesFor takes_short most (says parts) c (sent octets ∷ events) ending left =
    (octets ≡ spelling parts) × ServesFor takes_short most hears c events ending left
ServesFor takes_short most (says parts) c (unsent octets fault ∷ []) ending left =
    (octets ≡ spelling parts) × (ending ≡ line_failed fault) × (left ≡ c)
ServesFor takes_short most (ends how) c [] ending left = (ending ≡ how) × (left ≡ c)
ServesFor takes_short most doing c events ending left = ⊥

-- the same for a host that takes no such messages, as that of `serve`
abbrev pub Serves : ℕ → Doing → CardState → List Event → Ending → CardState → Type 0
Serves = ServesFor false

-- The front of the buffer has the block of this turn, or the call was refused with this fault.
abbrev pub IsReply : Result CardTurn CardFault → List ℕ → Result ℕ CardFault → Type 0
IsReply turn out (Ok count) = (parts : Parts) × (turn ≡ Ok (Send parts)) × (take count out ≡ spelling parts)
IsReply turn out (Err inner) = turn ≡ Err inner

-- These events answer a block: whatever follows them from the new state also follows from the old one.
abbrev pub IsAnswer : Doing → CardState → List Event → List ℕ → Result ℕ ServeFault → CardState → Type 0
IsAnswer doing c events out (Ok count) c' = (parts : Parts) × (take count out ≡ spelling parts)
    × ((most : ℕ) (more : List Event) (ending : Ending) (left : CardState)
    → Serves most (says parts) c' more ending left → Serves most doing c (events ++ more) ending left)
IsAnswer doing c events out (Err inner) c' = (most : ℕ) → Serves most doing c events (ending_of {A = ℕ} (Err inner)) c'

-- These events are a block that came and its answer, or they say that none came.
abbrev pub IsRound : CardState → List Event → Result Bool ServeFault → CardState → Type 0
IsRound c events (Ok true) c' = (most : ℕ) (more : List Event) (ending : Ending) (left : CardState) → 1 ≤ most
    → Serves (most - 1) hears c' more ending left → Serves most hears c (events ++ more) ending left
IsRound c events (Ok false) c' = (most : ℕ) → 1 ≤ most → Serves most hears c events over c'
IsRound c events (Err inner) c' = (most : ℕ) → 1 ≤ most
    → Serves most hears c events (ending_of {A = Bool} (Err inner)) c'
