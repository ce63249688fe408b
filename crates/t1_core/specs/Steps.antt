-- What a call of an end did, from its state before and its state after. The step is a row of the end's table, as a
-- function of the state before.
use Rattle.std.specs.Prelude.{◌≡◌, ℕ, List, Result}
use Rattle.t1_core.specs.declared.sending.TerminalAct.{TerminalAct}
use Rattle.t1_core.specs.declared.sending.CardAct.{CardAct}
use Rattle.t1_core.specs.declared.turns.EncodedTerminalTurn.{EncodedTerminalTurn}
use Rattle.t1_core.specs.declared.turns.TerminalFault.{TerminalFault}
use Rattle.t1_core.specs.declared.turns.EncodedCardTurn.{EncodedCardTurn}
use Rattle.t1_core.specs.declared.turns.CardFault.{CardFault}
use Rattle.t1_core.specs.Terminal.{TerminalState, TerminalStep, turn_of, state_after}
use Rattle.t1_core.specs.Card.{CardState, CardStep, turn_of as card_turn_of, state_after as card_after}
use Rattle.t1_core.specs.Sending.{terminal_answers, card_answers}
use Rattle.t1_core.specs.Put.{IsTerminalPut, IsCardPut}

-- the terminal answered as the step says, and has the state after it
pub record TerminalTook (step : TerminalState → TerminalStep) (before after : TerminalState)
    (answer : Result TerminalAct TerminalFault) : Type 0 where
  pub turn : terminal_answers after answer ≡ turn_of (step before)
  pub state : after ≡ state_after before (step before)

-- the card answered as the step says, and has the state after it
pub record CardTook (step : CardState → CardStep) (before after : CardState) (answer : Result CardAct CardFault)
    : Type 0 where
  pub turn : card_answers after answer ≡ card_turn_of (step before)
  pub state : after ≡ card_after before (step before)

-- A call with `_into` of the terminal returned the turn of the step and put its block into the buffer, which had the
-- octets `old` before and `new` after. The terminal has the state after the step.
pub record TerminalWrote (step : TerminalState → TerminalStep) (before after : TerminalState) (old new : List ℕ)
    (result : Result EncodedTerminalTurn TerminalFault) : Type 0 where
  pub turn : IsTerminalPut (turn_of (step before)) old new result
  pub state : after ≡ state_after before (step before)

-- A call with `_into` of the card returned the turn of the step and put its block into the buffer, which had the octets
-- `old` before and `new` after. The card has the state after the step.
pub record CardWrote (step : CardState → CardStep) (before after : CardState) (old new : List ℕ)
    (result : Result EncodedCardTurn CardFault) : Type 0 where
  pub turn : IsCardPut (card_turn_of (step before)) old new result
  pub state : after ≡ card_after before (step before)
