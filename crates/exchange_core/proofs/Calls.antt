-- That a call of an engine gives what its step says.
use Rattle.std.proofs.Common.{◌≡◌, Result, Ok, Err}
use Rattle.t1_core.specs.Terminal.{TerminalState, TerminalStep, turn_of, state_after}
use Rattle.t1_core.specs.Card.{CardState, CardStep, turn_of as card_turn_of, state_after as card_state_after}
use Rattle.t1_core.specs.declared.turns.TerminalTurn.{TerminalTurn}
use Rattle.t1_core.specs.declared.turns.TerminalFault.{TerminalFault}
use Rattle.t1_core.specs.declared.turns.CardTurn.{CardTurn}
use Rattle.t1_core.specs.declared.turns.CardFault.{CardFault}
use Rattle.t1_core.specs.Names.{terminal_fault_name, card_fault_name}
use Rattle.exchange_text.specs.declared.line.Line.{Line}
use Rattle.exchange_core.specs.declared.end.Effect.TheVariants.{Called}
use Rattle.exchange_core.specs.Output.{effect_of}
use Rattle.exchange_core.specs.Replay.{called, terminal_end, terminal_gives, card_end, card_gives}

-- what the terminal answers, in the state that it leaves, is what comes of its step
pub terminal-called : (t after : TerminalState) (line : Line) (step : TerminalStep)
    (outcome : Result TerminalTurn TerminalFault) → outcome ≡ turn_of step → after ≡ state_after t step
    → called (terminal_gives step) ≡ effect_of terminal_end terminal_fault_name line after (Called outcome)
terminal-called t after line (Ok step) (Ok turn) e f = cc
terminal-called t after line (Err own) (Err fault) e f = cc
terminal-called t after line (Ok step) (Err fault) e f = cc
terminal-called t after line (Err own) (Ok turn) e f = cc

-- and so the card
pub card-called : (c after : CardState) (line : Line) (step : CardStep)
    (outcome : Result CardTurn CardFault) → outcome ≡ card_turn_of step → after ≡ card_state_after c step
    → called (card_gives step) ≡ effect_of card_end card_fault_name line after (Called outcome)
card-called c after line (Ok step) (Ok turn) e f = cc
card-called c after line (Err own) (Err fault) e f = cc
card-called c after line (Ok step) (Err fault) e f = cc
card-called c after line (Err own) (Ok turn) e f = cc
