-- What is promised of a terminal and a card over a line, whatever the line loses or damages.
use Rattle.std.specs.Prelude.{◌≡◌, ℕ, ◌*◌, ◌<◌, ◌≤◌, ◌⊎◌, List, [], ◌∷◌, ◌++◌, length, map, Some, Ok}
use Rattle.block_core.specs.Block.{spelling}
use Rattle.octet_core.specs.Octets.{AreOctets}
use Rattle.block_core.specs.declared.pcb.Pcb.{Pcb}
use Rattle.block_core.specs.declared.pcb.Pcb.TheVariants.{Info}
use Rattle.t1_core.specs.Came.{got, IsClass}
use Rattle.t1_core.specs.declared.turns.TerminalTurn.TheVariants.{GivenUp, Answered}
use Rattle.t1_core.specs.declared.turns.CardTurn.TheVariants.{Asked}
use Rattle.t1_core.specs.Terminal.{TerminalState, Mark, turn_of, TerminalInput, Waits, idle, dead, Limits}
use Rattle.t1_core.specs.Card.{CardState, CardInput, host}
use Rattle.t1_core.specs.Link.{Tables, Link, UnderWay, nothing, to_card, to_terminal, Exchange, answered, unanswered, given_up, command_of, Event, transmits, asks_ifsd, host_replies, host_asks_time, host_asks_ifsc, run, link_with}

-- The card's host got each answered command once, in order, and gave that answer. It got a command without an answer
-- once or not at all. The lists have the newest first.
abbrev pub Matches : List Exchange → List Exchange → Type 0
Matches [] [] = Unit {0}
Matches [] (h ∷ hs) = ⊥
Matches (answered m a ∷ es) [] = ⊥
Matches (answered m a ∷ es) (h ∷ hs) = (h ≡ answered m a) × Matches es hs
Matches (unanswered m ∷ es) [] = Matches es []
Matches (unanswered m ∷ es) (h ∷ hs) = Matches es (h ∷ hs) ⊎ ((command_of h ≡ m) × Matches es hs)
Matches (given_up m ∷ es) [] = Matches es []
Matches (given_up m ∷ es) (h ∷ hs) = Matches es (h ∷ hs) ⊎ ((command_of h ≡ m) × Matches es hs)

abbrev pub IsIdle : Waits → Type 0
IsIdle idle = Unit {0}
IsIdle waits = ⊥

abbrev pub IsDead : Waits → Type 0
IsDead dead = Unit {0}
IsDead waits = ⊥

-- an I-block has at most so many octets
abbrev pub FitsSize : ℕ → Pcb → List ℕ → Type 0
FitsSize size (Info number goes_on) inf = length inf ≤ size
FitsSize size pcb inf = Unit {0}

-- the I-block on the line fits the size that its receiver holds
abbrev pub Fits : Link → UnderWay → Type 0
Fits l nothing = Unit {0}
Fits l (to_card block) = FitsSize l.card.ifsc block.pcb block.inf
Fits l (to_terminal block) = FitsSize l.terminal.ifsd block.pcb block.inf

-- both ends hold the same sizes, and agree on the next number
pub record InStep (l : Link) : Type 0 where
  pub ifsc : l.terminal.ifsc ≡ l.card.ifsc
  pub ifsd : l.terminal.ifsd ≡ l.card.ifsd
  pub number : l.terminal.number ≡ l.card.expected

-- no exchange was given up
abbrev pub NoneGivenUp : List Exchange → Type 0
NoneGivenUp [] = Unit {0}
NoneGivenUp (given_up m ∷ es) = ⊥
NoneGivenUp (e ∷ es) = NoneGivenUp es

abbrev pub answered_only : List Exchange → List Exchange
answered_only [] = []
answered_only (answered m a ∷ es) = answered m a ∷ answered_only es
answered_only (e ∷ es) = answered_only es

-- The commands that the host got are the first that the terminal accepted. The answered exchanges are the first of the
-- host's services, with its replies. The lists have the newest first.
pub record Serves (es hs : List Exchange) : Type 0 where
  pub commands : (newer : List (List ℕ)) × (newer ++ map command_of hs ≡ map command_of es)
  pub answers : (newer : List Exchange) × (newer ++ answered_only es ≡ hs)

-- This holds whatever the limits of both ends, and whatever is lost or damaged. Each answer is the reply to its
-- command, and no command is acted on twice.
abbrev pub AlwaysMatches : Tables → Type 0
AlwaysMatches by = (at_terminal at_card : Limits) (ifsc : ℕ) (events : List Event)
    → Matches (run by events (link_with at_terminal at_card ifsc)).exchanges
    (run by events (link_with at_terminal at_card ifsc)).services

-- If no exchange was given up, the host got the commands in their order, and each answer is its reply.
abbrev pub ServesInOrder : Tables → Type 0
ServesInOrder by = (at_terminal at_card : Limits) (ifsc : ℕ) (events : List Event)
    → NoneGivenUp (run by events (link_with at_terminal at_card ifsc)).exchanges
    → Serves (run by events (link_with at_terminal at_card ifsc)).exchanges
    (run by events (link_with at_terminal at_card ifsc)).services

-- Whenever the terminal is idle, both ends are in step.
abbrev pub InStepWhenIdle : Tables → Type 0
InStepWhenIdle by = (at_terminal at_card : Limits) (ifsc : ℕ) (events : List Event)
    → IsIdle (run by events (link_with at_terminal at_card ifsc)).terminal.waits
    → InStep (run by events (link_with at_terminal at_card ifsc))

-- At every moment the I-block on the line fits the size that its receiver holds.
abbrev pub AlwaysFits : Tables → Type 0
AlwaysFits by = (at_terminal at_card : Limits) (ifsc : ℕ) (events : List Event)
    → Fits (run by events (link_with at_terminal at_card ifsc))
    (run by events (link_with at_terminal at_card ifsc)).under_way

-- The turn Answered leaves an answer, and Asked leaves the host its turn, so the histories miss no turn. This holds in
-- every state.
pub record Tells (by : Tables) : Type 0 where
  pub answer : (t next : TerminalState) (mark : Mark) (input : TerminalInput)
      → by.terminal t input ≡ Ok (Answered, next, mark) → (octets : List ℕ) × (next.answered ≡ Some octets)
  pub host : (c next : CardState) (input : CardInput) → by.card c input ≡ Ok (Asked, next) → next.waits ≡ host

-- After any input, the terminal gives up only if two blocks or more were lost or damaged since its exchange or question
-- began. It is dead only if five or more were. Its failures since then are at most twice those blocks.
pub record IsPatient (by : Tables) (l : Link) : Type 0 where
  pub given_up : (input : TerminalInput) → turn_of (by.terminal l.terminal input) ≡ Ok GivenUp → 2 ≤ l.disturbed
  pub dead : IsDead l.terminal.waits → 5 ≤ l.disturbed
  pub failures : l.failed ≤ 2 * l.disturbed

-- Each message that its sender accepts fits the limit of its receiver.
abbrev pub FitsReceiver : Limits → Limits → Event → Type 0
FitsReceiver at_terminal at_card (transmits m) = length m ≤ at_terminal.command → length m ≤ at_card.command
FitsReceiver at_terminal at_card (host_replies octets) =
    length octets ≤ at_card.answer → length octets ≤ at_terminal.answer
FitsReceiver at_terminal at_card event = Unit {0}

abbrev pub AllFit : Limits → Limits → List Event → Type 0
AllFit at_terminal at_card [] = Unit {0}
AllFit at_terminal at_card (e ∷ es) = FitsReceiver at_terminal at_card e × AllFit at_terminal at_card es

-- The terminal is patient if each message fits its receiver. Else the receiver takes the message's last blocks for an
-- error, until the exchange is given up.
abbrev pub AlwaysPatient : Tables → Type 0
AlwaysPatient by = (at_terminal at_card : Limits) (ifsc : ℕ) (events : List Event) → AllFit at_terminal at_card events
    → IsPatient by (run by events (link_with at_terminal at_card ifsc))

-- The terminal is patient between ends with the same limits, since each message fits there.
abbrev pub PatientWhereAlike : Tables → Type 0
PatientWhereAlike by = (limits : Limits) (ifsc : ℕ) (events : List Event)
    → IsPatient by (run by events (link_with limits limits ifsc))

-- The calls of an event pass octets.
abbrev pub HandsOctets : Event → Type 0
HandsOctets (transmits m) = AreOctets m
HandsOctets (asks_ifsd n) = n < 256
HandsOctets (host_replies octets) = AreOctets octets
HandsOctets (host_asks_time n) = n < 256
HandsOctets (host_asks_ifsc n) = n < 256
HandsOctets event = Unit {0}

abbrev pub AllHandOctets : List Event → Type 0
AllHandOctets [] = Unit {0}
AllHandOctets (e ∷ es) = HandsOctets e × AllHandOctets es

-- The octets of the block on the line are that block to its receiver. So a block that is delivered whole is never
-- damaged or invalid.
abbrev pub IsTaken : Link → UnderWay → Type 0
IsTaken l nothing = Unit {0}
IsTaken l (to_card block) = IsClass l.card.ifsc (spelling block) (got block.pcb block.inf)
IsTaken l (to_terminal block) = IsClass l.terminal.ifsd (spelling block) (got block.pcb block.inf)

abbrev pub AlwaysTaken : Tables → Type 0
AlwaysTaken by = (at_terminal at_card : Limits) (ifsc : ℕ) (events : List Event) → AllHandOctets events
    → IsTaken (run by events (link_with at_terminal at_card ifsc))
    (run by events (link_with at_terminal at_card ifsc)).under_way
