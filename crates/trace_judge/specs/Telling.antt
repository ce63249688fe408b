-- What the judgment says about a trace in each layout: the text so far, and one more line or one more object.
use Rattle.std.specs.Prelude.{ℕ, List, ◌++◌}
use Rattle.block_core.specs.declared.side.Side.{Side}
use Rattle.judge_core.specs.declared.end.After.{After}
use Rattle.judge_core.specs.declared.rule.Rule.{Rule}
use Rattle.layouts.specs.Items.{with_item}
use Rattle.layouts.specs.declared.layout.Layout.{Layout}
use Rattle.layouts.specs.declared.layout.Layout.TheVariants.{Lines, Json}
use Rattle.trace_judge.specs.Objects.{certain_object, deviation_object, early_object, elsewhere_object, late_object, neither_object, possible_object, unseen_object, unwaited_object, Place}
use Rattle.trace_judge.specs.Saying.{certain_text, deviation_text, early_text, elsewhere_text, late_text, neither_text, possible_text, unseen_text, unwaited_text}
use Rattle.judge_times.specs.declared.timing.Early.{Early}
use Rattle.judge_times.specs.declared.timing.Late.{Late}

abbrev pub with_deviation : Layout → List ℕ → Place → ℕ → Side → Rule → After → List ℕ
with_deviation Lines text place number side broken due = text ++ deviation_text number side broken due
with_deviation Json items place number side broken due = with_item items (deviation_object place number side broken due)

abbrev pub with_unseen : Layout → List ℕ → Place → ℕ → Side → ℕ → List ℕ
with_unseen Lines text place number side before = text ++ unseen_text number side before
with_unseen Json items place number side before = with_item items (unseen_object place number side before)

abbrev pub with_elsewhere : Layout → List ℕ → Place → ℕ → Side → List ℕ
with_elsewhere Lines text place number side = text ++ elsewhere_text number side
with_elsewhere Json items place number side = with_item items (elsewhere_object place number side)

abbrev pub with_possible : Layout → List ℕ → ℕ → ℕ → List ℕ
with_possible Lines text line number = text ++ possible_text number
with_possible Json items line number = with_item items (possible_object line number)

abbrev pub with_certain : Layout → List ℕ → ℕ → ℕ → List ℕ
with_certain Lines text line number = text ++ certain_text number
with_certain Json items line number = with_item items (certain_object line number)

abbrev pub with_late : Layout → List ℕ → Place → ℕ → ℕ → Late → List ℕ
with_late Lines text place number before late = text ++ late_text number before late
with_late Json items place number before late = with_item items (late_object place number before late)

abbrev pub with_early : Layout → List ℕ → Place → ℕ → ℕ → Early → List ℕ
with_early Lines text place number before early = text ++ early_text number before early
with_early Json items place number before early = with_item items (early_object place number before early)

abbrev pub with_unwaited : Layout → List ℕ → ℕ → ℕ → List ℕ
with_unwaited Lines text line number = text ++ unwaited_text number
with_unwaited Json items line number = with_item items (unwaited_object line number)

abbrev pub with_neither : Layout → List ℕ → ℕ → List ℕ
with_neither Lines text number = text ++ neither_text number
with_neither Json items number = with_item items (neither_object number)
