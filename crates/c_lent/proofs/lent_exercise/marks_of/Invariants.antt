use Rattle.std.proofs.Common.{◌≡◌, drop}
use Rattle.c_lent.specs.LentExercise.{marks_with}
use Rattle.c_lent.proofs.lent_exercise.marks_of.Given as goal

abbrev pub invariant-loop-rule : goal.invariant-loop-rule
invariant-loop-rule l = marks_with l.stakes (drop l.rule-index l.rules) l.marks ≡ marks_with l.stakes l.rules 0
