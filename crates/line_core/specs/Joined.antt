-- A line with two ends. What its terminal sends comes to its card, and the card's answer comes back, except what is
-- lost or damaged. So the calls of both ends are one history.
use Rattle.std.specs.Prelude.{◌≡◌, ◌≤◌, ◌<◌, ◌⊎◌, ℕ, ◌+◌, Bool, true, false, List, [], ◌∷◌, ◌++◌, take, Option, Some, None, Ok, Err}
use Rattle.std.proofs.Common.{inl, inr}
use Rattle.octet_core.specs.Octets.{AreOctets}
use Rattle.block_core.specs.Block.{Parts, IsProper, spelling}
use Rattle.t1_core.specs.Came.{got, damaged, invalid, quiet, class_of}
use Rattle.t1_core.specs.Terminal.{TerminalState, TerminalStep, TerminalInput, Waits, idle, ack, answer as for_answer, more as for_more, ifs, resynch, dead as found_dead, transmit, ask_ifs, takes, terminal_turn, turn_of, state_after, Limits, terminal_with}
use Rattle.t1_core.specs.Card.{CardState, CardRequest, size as of_size, time as of_time, card_with}
use Rattle.t1_core.specs.Link.{Link, Exchange, answered, unanswered, command_of, with_reply, without_answer, tables, run, link_with}
use Rattle.t1_core.specs.Link as link
use Rattle.t1_core.specs.Promises.{AllHandOctets, Matches, NoneGivenUp, Serves as InOrder}
use Rattle.line_core.specs.Bursts.{IsNoBlock, IsHarmed, handed}
use Rattle.line_core.specs.Line.{Arrival, block, nothing, failure, Talk}
use Rattle.line_core.specs.Exchange.{Ending, done, given_up, dead, line_failed, used_up, refused, Runs, next_of}
use Rattle.line_core.specs.Service.{Event, came, asked, requested, sent, unsent, hears, ServesFor}
use Rattle.line_core.specs.Service as at_card

-- These octets came for those that were sent: the same octets, or octets that no end takes for a block, whatever size
-- it accepts.
abbrev pub Passes : List ℕ → List ℕ → Type 0
Passes octets here = (here ≡ octets) ⊎ ((size : ℕ) → IsNoBlock (class_of size here))

-- An end gets a burst that came as it was sent, or with one octet changed, octets missing at its end, or octets after
-- it. What it gets passes: the octets that were sent, or octets that no end takes for a block.
abbrev pub AlwaysPasses : Type 0
AlwaysPasses = (sent : Parts) → IsProper 254 sent → (burst : List ℕ) → AreOctets burst
    → (burst ≡ spelling sent) ⊎ IsHarmed (spelling sent) burst → Passes (spelling sent) (take handed burst)

-- This came to the terminal after the card sent those octets. They may be lost, and the terminal's line may fail.
abbrev pub Returns : List ℕ → Arrival → Type 0
Returns octets (block here) = Passes octets here
Returns octets nothing = Unit {0}
Returns octets (failure fault) = Unit {0}

-- the card's last event after a block: it sent its answer, or its line failed to send it, in part or whole
abbrev pub IsSaid : List Event → Arrival → Type 0
IsSaid [] back = ⊥
IsSaid (sent octets ∷ []) back = Returns octets back
IsSaid (unsent octets fault ∷ []) back = Returns octets back
IsSaid (sent octets ∷ (event ∷ events)) back = ⊥
IsSaid (unsent octets fault ∷ (event ∷ events)) back = ⊥
IsSaid (came arrival ∷ events) back = ⊥
IsSaid (asked is_new command reply ∷ events) back = ⊥
IsSaid (requested is_new command request ∷ events) back = ⊥

-- a size or a multiple that a host passes to its card is an octet
abbrev pub IsOctet : CardRequest → Type 0
IsOctet (of_size n) = n < 256
IsOctet (of_time n) = n < 256

-- The card's host may be asked before that, and replies, or asks for time or a size. A card that refuses a block, or a
-- call of its host, sends nothing: the laws don't cover calls in which a card did so.
abbrev pub IsAnswered : List Event → Arrival → Type 0
IsAnswered [] back = ⊥
IsAnswered (asked is_new command reply ∷ events) back = AreOctets reply × IsSaid events back
IsAnswered (requested is_new command request ∷ events) back = IsOctet request × IsSaid events back
IsAnswered (sent octets ∷ events) back = IsSaid (sent octets ∷ events) back
IsAnswered (unsent octets fault ∷ events) back = IsSaid (unsent octets fault ∷ events) back
IsAnswered (came arrival ∷ events) back = ⊥

-- the terminal's block didn't come to the card, and nothing came back
abbrev pub IsLost : Arrival → Type 0
IsLost (block octets) = ⊥
IsLost nothing = Unit {0}
IsLost (failure fault) = Unit {0}

-- One block of the terminal, and what happened at the card meanwhile. Between two calls of `serve` the card may have
-- heard that no more comes, or that its line failed.
abbrev pub IsTrip : Talk → List Event → Type 0
IsTrip talk [] = IsLost talk.arrival
IsTrip talk (came (block octets) ∷ events) = Passes talk.sent octets × IsAnswered events talk.arrival
IsTrip talk (came nothing ∷ events) = IsTrip talk events
IsTrip talk (came (failure fault) ∷ events) = IsTrip talk events
IsTrip talk (asked is_new command reply ∷ events) = ⊥
IsTrip talk (requested is_new command request ∷ events) = ⊥
IsTrip talk (sent octets ∷ events) = ⊥
IsTrip talk (unsent octets fault ∷ events) = ⊥

pub record Trip : Type 0 where
  pub talk : Talk
  pub events : List Event
  pub passed : IsTrip talk events

abbrev pub talks_of : List Trip → List Talk
talks_of [] = []
talks_of (trip ∷ trips) = trip.talk ∷ talks_of trips

abbrev pub events_of : List Trip → List Event
events_of [] = []
events_of (trip ∷ trips) = trip.events ++ events_of trips

-- How many blocks were damaged or lost in a trip. If the terminal's line failed, its wait ends in the next call.
abbrev pub passing_faults : (octets here : List ℕ) → Passes octets here → ℕ
passing_faults octets here (inl same) = 0
passing_faults octets here (inr other) = 1

abbrev pub returning_faults : (octets : List ℕ) (back : Arrival) → Returns octets back → ℕ
returning_faults octets (block here) passed = passing_faults octets here passed
returning_faults octets nothing passed = 1
returning_faults octets (failure fault) passed = 0

abbrev pub said_faults : (events : List Event) (back : Arrival) → IsSaid events back → ℕ
said_faults [] back never = 0
said_faults (sent octets ∷ []) back passed = returning_faults octets back passed
said_faults (unsent octets fault ∷ []) back passed = returning_faults octets back passed
said_faults (sent octets ∷ (event ∷ events)) back never = 0
said_faults (unsent octets fault ∷ (event ∷ events)) back never = 0
said_faults (came arrival ∷ events) back never = 0
said_faults (asked is_new command reply ∷ events) back never = 0
said_faults (requested is_new command request ∷ events) back never = 0

abbrev pub answering_faults : (events : List Event) (back : Arrival) → IsAnswered events back → ℕ
answering_faults [] back never = 0
answering_faults (asked is_new command reply ∷ events) back passed = said_faults events back passed.1
answering_faults (requested is_new command request ∷ events) back passed = said_faults events back passed.1
answering_faults (sent octets ∷ events) back passed = said_faults (sent octets ∷ events) back passed
answering_faults (unsent octets fault ∷ events) back passed = said_faults (unsent octets fault ∷ events) back passed
answering_faults (came arrival ∷ events) back never = 0

abbrev pub losing_faults : (back : Arrival) → IsLost back → ℕ
losing_faults (block octets) never = 0
losing_faults nothing passed = 1
losing_faults (failure fault) passed = 0

abbrev pub trip_faults : (talk : Talk) (events : List Event) → IsTrip talk events → ℕ
trip_faults talk [] passed = losing_faults talk.arrival passed
trip_faults talk (came (block octets) ∷ events) passed =
    passing_faults talk.sent octets passed.0 + answering_faults events talk.arrival passed.1
trip_faults talk (came nothing ∷ events) passed = trip_faults talk events passed
trip_faults talk (came (failure fault) ∷ events) passed = trip_faults talk events passed
trip_faults talk (asked is_new command reply ∷ events) never = 0
trip_faults talk (requested is_new command request ∷ events) never = 0
trip_faults talk (sent octets ∷ events) never = 0
trip_faults talk (unsent octets fault ∷ events) never = 0

abbrev pub faults_of : List Trip → ℕ
faults_of [] = 0
faults_of (trip ∷ trips) = trip_faults trip.talk trip.events trip.passed + faults_of trips

-- A call of `exchange`, `ask_ifs` or `resume`. It has the input of the terminal, what was on the line meanwhile, how
-- the call ended, and the state of the terminal after it.
pub record Call : Type 0 where
  pub input : TerminalInput
  pub most : ℕ
  pub trips : List Trip
  pub ending : Ending
  pub left : TerminalState

abbrev pub IsCall : TerminalInput → Type 0
IsCall (transmit command) = AreOctets command
IsCall (ask_ifs size) = size < 256
IsCall (takes (got pcb inf)) = ⊥
IsCall (takes damaged) = ⊥
IsCall (takes invalid) = ⊥
IsCall (takes quiet) = Unit {0}

-- These are calls of a terminal, one after another, from this state to the last one.
abbrev pub HaveRun : TerminalState → List Call → TerminalState → Type 0
HaveRun t [] last = last ≡ t
HaveRun t (call ∷ calls) last = IsCall call.input
    × Runs call.most (next_of (turn_of (terminal_turn t call.input))) (state_after t (terminal_turn t call.input))
    (talks_of call.trips) call.ending call.left × HaveRun call.left calls last

-- what happened at the card during all these calls
abbrev pub events_in : List Call → List Event
events_in [] = []
events_in (call ∷ calls) = events_of call.trips ++ events_in calls

-- These are the events of calls of `serve`, one after another, from this state of the card to the last one. The host of
-- a card in steps may also take messages that are too short for a command.
abbrev pub HaveServed : CardState → List (List Event) → CardState → Type 0
HaveServed c [] last = last ≡ c
HaveServed c (events ∷ more) last = (takes_short : Bool) × (most : ℕ) × (ending : at_card.Ending) × (next : CardState)
    × ServesFor takes_short most hears c events ending next × HaveServed next more last

abbrev pub joined : List (List Event) → List Event
joined [] = []
joined (events ∷ more) = events ++ joined more

-- The commands that the terminal took, the newest first, each with its answer, or marked as given up.
abbrev pub begun : TerminalInput → TerminalStep → List Exchange → List Exchange
begun (transmit command) (Ok step) older = unanswered command ∷ older
begun (transmit command) (Err fault) older = older
begun (ask_ifs size) step older = older
begun (takes arrived) step older = older

-- whether a call is about a size: it asks for one, or resumes such a request
abbrev pub is_about_size : TerminalInput → Waits → Bool
is_about_size (transmit command) waits = false
is_about_size (ask_ifs size) waits = true
is_about_size (takes arrived) (ifs size) = true
is_about_size (takes arrived) idle = false
is_about_size (takes arrived) (ack field rest) = false
is_about_size (takes arrived) (for_answer field) = false
is_about_size (takes arrived) (for_more octets) = false
is_about_size (takes arrived) (resynch times) = false
is_about_size (takes arrived) found_dead = false

-- the answer, unless the call is about a size
abbrev pub answer_unless : Bool → Option (List ℕ) → Option (List ℕ)
answer_unless false answer = answer
answer_unless true answer = None

abbrev pub ended : Ending → Option (List ℕ) → List Exchange → List Exchange
ended done (Some answer) exchanges = with_reply exchanges answer
ended done None exchanges = exchanges
ended given_up answer exchanges = without_answer exchanges
ended dead answer exchanges = without_answer exchanges
ended (line_failed fault) answer exchanges = exchanges
ended used_up answer exchanges = exchanges
ended (refused fault) answer exchanges = exchanges

abbrev pub exchanges_of : TerminalState → List Call → List Exchange → List Exchange
exchanges_of t [] older = older
exchanges_of t (call ∷ calls) older = exchanges_of call.left calls
    (ended call.ending (answer_unless (is_about_size call.input t.waits) call.left.answered)
    (begun call.input (terminal_turn t call.input) older))

-- the services once the host owes the reply to a command, which is new to it or not
abbrev pub given : Bool → List ℕ → List Exchange → List Exchange
given true command older = unanswered command ∷ older
given false command older = older

-- The commands that the card's host was passed, each with its reply; the newest first. A command about which the host
-- asked for time or a size first is there once, without a reply until it replied.
abbrev pub services_of : List Event → List Exchange → List Exchange
services_of [] older = older
services_of (asked is_new command reply ∷ events) older =
    services_of events (with_reply (given is_new command older) reply)
services_of (requested is_new command request ∷ events) older = services_of events (given is_new command older)
services_of (came arrival ∷ events) older = services_of events older
services_of (sent octets ∷ events) older = services_of events older
services_of (unsent octets fault ∷ events) older = services_of events older

-- How many blocks were damaged or lost so far in the exchange, or the request for a size, that a call begins or
-- resumes. It is 0 if the call begins one, and one more than before if it resumes one.
abbrev pub faults_before : TerminalInput → TerminalStep → ℕ → ℕ
faults_before (transmit command) (Ok step) count = 0
faults_before (transmit command) (Err fault) count = count
faults_before (ask_ifs size) (Ok step) count = 0
faults_before (ask_ifs size) (Err fault) count = count
faults_before (takes arrived) step count = count + 1

-- an exchange is given up only after two damaged or lost blocks, and the card is dead only after five
abbrev pub IsPatientEnd : Ending → ℕ → Type 0
IsPatientEnd done count = Unit {0}
IsPatientEnd given_up count = 2 ≤ count
IsPatientEnd dead count = 5 ≤ count
IsPatientEnd (line_failed fault) count = Unit {0}
IsPatientEnd used_up count = Unit {0}
IsPatientEnd (refused fault) count = Unit {0}

-- each of these calls is patient, from this state on
abbrev pub ArePatient : TerminalState → List Call → ℕ → Type 0
ArePatient t [] count = Unit {0}
ArePatient t (call ∷ calls) count =
    let now : ℕ = faults_before call.input (terminal_turn t call.input) count + faults_of call.trips in
    IsPatientEnd call.ending now × ArePatient call.left calls now

-- The ends in this link are these, with these histories.
pub record IsLink (l : Link) (t : TerminalState) (c : CardState) (es hs : List Exchange) : Type 0 where
  pub terminal : l.terminal ≡ t
  pub card : l.card ≡ c
  pub exchanges : l.exchanges ≡ es
  pub services : l.services ≡ hs

-- Calls of a new terminal and of a new card, over a line with two ends.
pub record TwoEnds (of_terminal of_card : Limits) (ifsc : ℕ) (calls : List Call) (servings : List (List Event))
    (t : TerminalState) (c : CardState) : Type 0 where
  pub size : ifsc ≤ 254
  pub run : HaveRun (terminal_with of_terminal ifsc) calls t
  pub served : HaveServed (card_with of_card ifsc) servings c
  pub events : events_in calls ≡ joined servings

-- The calls are a history of the link.
abbrev pub AlwaysLinked : Type 0
AlwaysLinked = (of_terminal of_card : Limits) (ifsc : ℕ) (calls : List Call) (servings : List (List Event))
    (t : TerminalState) (c : CardState) → TwoEnds of_terminal of_card ifsc calls servings t c
    → (events : List link.Event) × AllHandOctets events
    × IsLink (run tables events (link_with of_terminal of_card ifsc)) t c
    (exchanges_of (terminal_with of_terminal ifsc) calls []) (services_of (events_in calls) [])

-- Each answer is the reply to its command, and no command is acted on twice.
abbrev pub AlwaysMatched : Type 0
AlwaysMatched = (of_terminal of_card : Limits) (ifsc : ℕ) (calls : List Call) (servings : List (List Event))
    (t : TerminalState) (c : CardState) → TwoEnds of_terminal of_card ifsc calls servings t c
    → Matches (exchanges_of (terminal_with of_terminal ifsc) calls []) (services_of (events_in calls) [])

-- If no exchange was given up, the host was passed the commands in their order.
abbrev pub AlwaysInOrder : Type 0
AlwaysInOrder = (of_terminal of_card : Limits) (ifsc : ℕ) (calls : List Call) (servings : List (List Event))
    (t : TerminalState) (c : CardState) → TwoEnds of_terminal of_card ifsc calls servings t c
    → NoneGivenUp (exchanges_of (terminal_with of_terminal ifsc) calls [])
    → InOrder (exchanges_of (terminal_with of_terminal ifsc) calls []) (services_of (events_in calls) [])

-- Between ends with the same limits, a single damaged or lost block gives up no exchange.
abbrev pub AlwaysPatientCalls : Type 0
AlwaysPatientCalls = (limits : Limits) (ifsc : ℕ) (calls : List Call) (servings : List (List Event))
    (t : TerminalState) (c : CardState) → TwoEnds limits limits ifsc calls servings t c
    → ArePatient (terminal_with limits ifsc) calls 0

-- The host was passed this command at most once, and no other.
abbrev pub WasGiven : List ℕ → List Exchange → Type 0
WasGiven command [] = Unit {0}
WasGiven command (service ∷ []) = command_of service ≡ command
WasGiven command (service ∷ (other ∷ services)) = ⊥

-- If the call ended with an answer, the host was passed the command, and the answer is its reply.
abbrev pub IsOnce : List ℕ → Ending → Option (List ℕ) → List Exchange → Type 0
IsOnce command done (Some answer) services = services ≡ answered command answer ∷ []
IsOnce command done None services = ⊥
IsOnce command given_up answer services = WasGiven command services
IsOnce command dead answer services = WasGiven command services
IsOnce command (line_failed fault) answer services = WasGiven command services
IsOnce command used_up answer services = WasGiven command services
IsOnce command (refused fault) answer services = WasGiven command services

-- One call of `exchange` by a new terminal over a line with two ends, and one of `serve` by a new card.
abbrev pub AlwaysOnce : Type 0
AlwaysOnce = (of_terminal of_card : Limits) (ifsc : ℕ) (command : List ℕ) (most : ℕ) (trips : List Trip)
    (ending : Ending) (left : TerminalState) (takes_short : Bool) (most_heard : ℕ) (end : at_card.Ending)
    (c : CardState) → ifsc ≤ 254
    → AreOctets command
    → Runs most (next_of (turn_of (terminal_turn (terminal_with of_terminal ifsc) (transmit command))))
    (state_after (terminal_with of_terminal ifsc) (terminal_turn (terminal_with of_terminal ifsc) (transmit command)))
    (talks_of trips) ending left
    → ServesFor takes_short most_heard hears (card_with of_card ifsc) (events_of trips) end c
    → IsOnce command ending left.answered (services_of (events_of trips) [])
