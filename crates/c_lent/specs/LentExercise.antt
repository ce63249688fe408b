-- What the call says that tells which rules and states a block exercises.
use Rattle.std.specs.Prelude.{◌≡◌, ℕ, ◌^◌, bit_or, if◌then◌else◌, List, [], ◌∷◌, Option, Some, None}
use Rattle.judge_core.specs.declared.rule.Rule.{Rule}
use Rattle.judge_core.specs.declared.state.State.{State}
use Rattle.judge_core.specs.declared.state.State.TheVariants as state
use Rattle.judge_core.specs.declared.stakes.Stakes.{Stakes}
use Rattle.block_core.specs.declared.side.Side.{Side}
use Rattle.judge_core.specs.declared.monitor.Arrival.{Arrival}
use Rattle.judge_core.specs.declared.exercise.Exercise.{Exercise}
use Rattle.judge_core.specs.declared.exercise.Exercise.TheVariants.{Unknown, Keeps, Breaks}
use Rattle.judge_core.specs.Rules.{rules}
use Rattle.judge_core.specs.Stakes.{at_stake, came_in, Exercises}
use Rattle.c_lent.specs.KeptJudge.{monitor_of}
use Rattle.c_lent.specs.LentJudge.{rule_number}
use Rattle.c_lent.specs.declared.kept_judge.CJudge.{CJudge}
use Rattle.c_lent.specs.declared.lent_exercise.CExercise.{CExercise}

-- the number of what was due in a state; what is owed has the same number
abbrev pub state_number : State → ℕ
state_number state.Message = 1
state_number state.Chain = 2
state_number state.Acknowledgment = 3
state_number state.Repeat = 4
state_number state.Correction = 5
state_number state.Refusal = 6
state_number state.Request = 7
state_number state.Resynch = 8
state_number state.Size = 9
state_number state.Abort = 10
state_number state.Time = 11
state_number state.AfterAbort = 12
state_number state.Any = 13
state_number state.MessageOrCorrection = 14
state_number state.MessageOrRefusal = 15
state_number state.AcknowledgmentOrRefusal = 16

-- the number of the state that came, or 0
abbrev pub due_number : Option State → ℕ
due_number None = 0
due_number (Some state) = state_number state

-- the mark of a rule: the bit at its number
abbrev pub rule_mark : Rule → ℕ
rule_mark r = 2 ^ rule_number r

-- the mark of a rule that is at stake; of another one 0
abbrev pub mark_if : Stakes → Rule → ℕ
mark_if stakes r = if at_stake stakes r then rule_mark r else 0

-- these marks, and the marks of those of these rules that are at stake
abbrev pub marks_with : Stakes → List Rule → ℕ → ℕ
marks_with stakes [] marks = marks
marks_with stakes (r ∷ more) marks = marks_with stakes more (bit_or marks (mark_if stakes r))

-- A permitted block keeps each rule that is at stake, and another one breaks one rule.
abbrev pub exercise_shown : Exercise → CExercise
exercise_shown Unknown = record { kept = 0; broken = 0; due = 0 }
exercise_shown (Keeps stakes) =
    record { kept = marks_with stakes rules 0; broken = 0; due = due_number (came_in stakes) }
exercise_shown (Breaks broken state) = record { kept = 0; broken = rule_number broken; due = due_number state }

-- what octets of an end exercise, before the judge with this state takes them
pub record IsExercised (judge : CJudge) (from : Side) (octets : List ℕ) (arrival : Arrival) (out : CExercise)
    : Type 0 where
  pub exercise : Exercise
  pub exercises : Exercises (monitor_of judge) from octets arrival exercise
  pub told : out ≡ exercise_shown exercise
