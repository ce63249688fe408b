-- The loops over one line: `exchange_ends`, `ask_ifs_ends` and `resynch_ends` at the terminal, and `serve_events` at
-- the card. What one end sends comes to the other, except what is lost or damaged (line_core, `specs/Joined.antt`). So
-- what line_core promises of `exchange`, `ask_ifs` and `serve` holds of the loops over steps.
use Rattle.std.specs.Prelude.{◌≡◌, ◌≤◌, ℕ, List, [], ◌∷◌, ◌++◌, Bool}
use Rattle.t1_core.specs.Came.{quiet}
use Rattle.t1_core.specs.Terminal.{TerminalState, takes, transmit, Limits, terminal_with}
use Rattle.t1_core.specs.Card.{CardState, card_with}
use Rattle.t1_core.specs.Promises.{Matches, NoneGivenUp, Serves as InOrder}
use Rattle.line_core.specs.Exchange.{given_up}
use Rattle.line_core.specs.Service.{Event, hears}
use Rattle.line_core.specs.Joined.{Call, IsCall, talks_of, events_of, events_in, exchanges_of, services_of, ArePatient, IsOnce, TwoEnds}
use Rattle.session_core.specs.Terminals.{asking_resynch}
use Rattle.session_laws.specs.Talking.{Spoken, IsRun}
use Rattle.session_laws.specs.Serving.{Placed, IsServed}

-- The terminal made this call, with a command or a size, by its steps from this state. The talks of the call are those of
-- its run.
pub record IsExchanged (t : TerminalState) (call : Call) : Type 0 where
  pub input : IsCall call.input
  pub spoken : List Spoken
  pub run : IsRun t call.input spoken call.ending call.left
  pub most : run.most ≡ call.most
  pub talks : run.talks ≡ talks_of call.trips

-- The terminal made these calls by its steps, one after another, from this state to the last one.
abbrev pub HaveExchanged : TerminalState → List Call → TerminalState → Type 0
HaveExchanged t [] last = last ≡ t
HaveExchanged t (call ∷ calls) last = IsExchanged t call × HaveExchanged call.left calls last

-- These are the events of a card in steps since it was in the first state, and it waits for the next block in the last.
pub record IsListening (first : CardState) (events : List Event) (last : CardState) : Type 0 where
  pub placed : Placed
  pub is : placed.card ≡ last
  pub takes_short : Bool
  pub served : IsServed takes_short first events placed
  pub listens : served.doing ≡ hears

-- a new terminal and a new card, both in steps, over a line with two ends
pub record TwoLoops (of_terminal of_card : Limits) (ifsc : ℕ) (calls : List Call) (t : TerminalState) (c : CardState)
    : Type 0 where
  pub size : ifsc ≤ 254
  pub exchanged : HaveExchanged (terminal_with of_terminal ifsc) calls t
  pub served : IsListening (card_with of_card ifsc) (events_in calls) c

-- The terminal asked for RESYNCH by its steps, from its state at the start, and the card answered (11.6.3.2). The ending
-- is that of `resynch_ends` whose last action is GivenUp.
pub record IsResynched (t : TerminalState) (opening : Call) : Type 0 where
  pub asked : opening.input ≡ takes quiet
  pub exchanged : IsExchanged (asking_resynch t) opening
  pub answered : opening.ending ≡ given_up

-- A terminal at its start that begins with RESYNCH, and a card in any state that waits for a block, over a line with two
-- ends. The card has these limits, and takes fields of ifsc octets at its start.
pub record LoopsAnew (of_terminal of_card : Limits) (ifsc : ℕ) (before : CardState) (opening : Call)
    (calls : List Call) (t : TerminalState) (c : CardState) : Type 0 where
  pub size : ifsc ≤ 254
  pub limits : before.limits ≡ of_card
  pub first : before.first_ifsc ≡ ifsc
  pub resynched : IsResynched (terminal_with of_terminal ifsc) opening
  pub exchanged : HaveExchanged opening.left calls t
  pub served : IsListening before (events_of opening.trips ++ events_in calls) c

-- the loops of two new ends, or of ends that begin with RESYNCH
pub data AreLoops (of_terminal of_card : Limits) (ifsc : ℕ) (calls : List Call) (t : TerminalState) (c : CardState)
    : Type 0 where
  new_ends : TwoLoops of_terminal of_card ifsc calls t c → AreLoops of_terminal of_card ifsc calls t c
  after_resynch : (before : CardState) (opening : Call)
      → LoopsAnew of_terminal of_card ifsc before opening calls t c → AreLoops of_terminal of_card ifsc calls t c

-- Such loops are calls of `exchange` and of `serve`, by what these promise.
abbrev pub AlwaysTwoEnds : Type 0
AlwaysTwoEnds = (of_terminal of_card : Limits) (ifsc : ℕ) (calls : List Call) (t : TerminalState) (c : CardState)
    → AreLoops of_terminal of_card ifsc calls t c
    → TwoEnds of_terminal of_card ifsc calls (events_in calls ∷ []) t c

-- Each answer is the reply to its command, and no command is acted on twice.
abbrev pub AlwaysMatched : Type 0
AlwaysMatched = (of_terminal of_card : Limits) (ifsc : ℕ) (calls : List Call) (t : TerminalState) (c : CardState)
    → AreLoops of_terminal of_card ifsc calls t c
    → Matches (exchanges_of (terminal_with of_terminal ifsc) calls []) (services_of (events_in calls) [])

-- If no exchange was given up, the host was passed the commands in their order.
abbrev pub AlwaysInOrder : Type 0
AlwaysInOrder = (of_terminal of_card : Limits) (ifsc : ℕ) (calls : List Call) (t : TerminalState) (c : CardState)
    → AreLoops of_terminal of_card ifsc calls t c
    → NoneGivenUp (exchanges_of (terminal_with of_terminal ifsc) calls [])
    → InOrder (exchanges_of (terminal_with of_terminal ifsc) calls []) (services_of (events_in calls) [])

-- Between ends with the same limits, a single damaged or lost block gives up no exchange.
abbrev pub AlwaysPatient : Type 0
AlwaysPatient = (limits : Limits) (ifsc : ℕ) (calls : List Call) (t : TerminalState) (c : CardState)
    → AreLoops limits limits ifsc calls t c → ArePatient (terminal_with limits ifsc) calls 0

-- For one exchange: the host was passed this command at most once, and no other. If the exchange ended with an answer,
-- the host was passed the command, and the answer is its reply.
abbrev pub AlwaysOnce : Type 0
AlwaysOnce = (of_terminal of_card : Limits) (ifsc : ℕ) (call : Call) (command : List ℕ) (t : TerminalState)
    (c : CardState) → call.input ≡ transmit command → AreLoops of_terminal of_card ifsc (call ∷ []) t c
    → IsOnce command call.ending call.left.answered (services_of (events_of call.trips) [])
