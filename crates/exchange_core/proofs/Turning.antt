-- What an engine answers and leaves, as its step.
use Rattle.std.proofs.Common.{◌≡◌, refl, Ok, Err}
use Rattle.t1_core.specs.Terminal.{TerminalState, TerminalStep, Mark, turn_of, state_after}
use Rattle.t1_core.specs.declared.turns.TerminalTurn.{TerminalTurn}

-- where an engine answers with a turn, its step gave that turn and left that state
pub turns : (t after : TerminalState) (step : TerminalStep) (turn : TerminalTurn)
    → Ok turn ≡ turn_of step → after ≡ state_after t step → (mark : Mark) × (step ≡ Ok (turn, after, mark))
turns t after (Ok step) turn e f = let t-is : turn ≡ step.0 = cc in (step.2, rw (t-is, f) refl)
turns t after (Err fault) turn e f = cc
