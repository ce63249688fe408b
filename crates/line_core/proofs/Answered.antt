-- What a command comes to: never a size that the card took, so where its exchange is done the terminal has the answer.
use Rattle.std.proofs.Common.{◌≡◌, ℕ, List, [], ◌∷◌, ◌-◌, Result, Ok, Err, IsSome, OnOk, true, false}
use Rattle.t1_core.specs.declared.turns.TerminalTurn.TheVariants as turn
use Rattle.t1_core.specs.Came.{quiet, class_of}
use Rattle.t1_core.specs.Terminal.{TerminalState, TerminalStep, transmit, turn_of, state_after}
use Rattle.line_core.specs.declared.fault.TransceiveFault.{TransceiveFault}
use Rattle.line_core.specs.Line.{Arrival, block, nothing, failure, Talk}
use Rattle.line_core.specs.Exchange.{Ending, done, given_up, dead as is_dead, line_failed, used_up, refused, Next, sends, ends, next_of, next_after, left_after, Runs, HasRun, ending_of}
use Rattle.line_core.proofs.Steps.{IsAbout, Keeps, came-kept, transmit-kept}

abbrev IsFine : Next → TerminalState → Type 0
IsFine (sends sent) t = IsAbout false t.waits
IsFine (ends done) t = IsSome t.answered
IsFine (ends given_up) t = Unit {0}
IsFine (ends is_dead) t = Unit {0}
IsFine (ends (line_failed inner)) t = Unit {0}
IsFine (ends used_up) t = Unit {0}
IsFine (ends (refused inner)) t = Unit {0}

after-step : (t : TerminalState) (step : TerminalStep) → Keeps false t step
    → IsFine (next_of (turn_of step)) (state_after t step)
after-step t (Ok (turn.Send sent, next, mark)) k = k.0
after-step t (Ok (turn.Answered, next, mark)) k = k.2.2
after-step t (Ok (turn.IfsSet, next, mark)) k = let never : false ≡ true = k.2.0 in cc
after-step t (Ok (turn.GivenUp, next, mark)) k = tt
after-step t (Ok (turn.Dead, next, mark)) k = tt
after-step t (Err inner) k = tt

next-fine : (t : TerminalState) (arrival : Arrival) → IsAbout false t.waits
    → IsFine (next_after t arrival) (left_after t arrival)
next-fine t (block octets) h = after-step t _ (came-kept false t t.waits (class_of t.ifsd octets) h h)
next-fine t nothing h = after-step t _ (came-kept false t t.waits quiet h h)
next-fine t (failure inner) h = tt

ends-fine : (talks : List Talk) (most : ℕ) (next : Next) (t left : TerminalState) (ending : Ending) → IsFine next t
    → Runs most next t talks ending left → IsFine (ends ending) left
ends-fine (talk ∷ talks) most (sends sent) t left ending h (some, is, run) =
    ends-fine talks (most - 1) (next_after t talk.arrival) (left_after t talk.arrival) left ending
    (next-fine t talk.arrival h) run
ends-fine [] most (sends sent) t left ending h (none, is, stays) = rw is tt
ends-fine [] most (ends how) t left ending h (is, stays) = rw (is, stays) h
ends-fine (talk ∷ talks) most (ends how) t left ending h never = absurd never

done-fine : (r : Result (Unit {0}) TransceiveFault) (t : TerminalState) → IsFine (ends (ending_of r)) t
    → OnOk r (IsSome t.answered)
done-fine (Ok x) t h = h
done-fine (Err inner) t h = tt

-- A command that is done has an answer.
pub answered : {A : Type 0} (before after : A → List Talk → Type 0) (most : ℕ) (t left : TerminalState)
    (command : List ℕ) (r : Result (Unit {0}) TransceiveFault)
    → HasRun before after most t (transmit command) (ending_of r) left → OnOk r (IsSome left.answered)
answered before after most t left command r (talks, adds, run) =
    done-fine r left (ends-fine talks _ _ _ left _ (after-step t _ (transmit-kept t command)) run)
