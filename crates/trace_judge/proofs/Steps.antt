-- What calls tell of a block, and at the end.
use Rattle.std.proofs.Common.{◌≡◌, ◌∙◌, ◌&&◌, ℕ, List, Bool, true, false, if◌then◌else◌, Option, ap, length, refl, sym, is_some}
use Rattle.trace_judge.specs.Objects.{Place}
use Rattle.block_core.specs.declared.side.Side.{Side}
use Rattle.block_core.specs.declared.side.Side.TheVariants.{Terminal, Card}
use Rattle.judge_core.specs.declared.monitor.Arrival.{Arrival}
use Rattle.judge_core.specs.declared.monitor.Monitor.{Monitor}
use Rattle.judge_core.specs.declared.monitor.Report.{Report}
use Rattle.judge_core.specs.declared.exercise.Exercise.{Exercise}
use Rattle.judge_core.specs.declared.exercise.Exercise.TheVariants.{Unknown}
use Rattle.judge_core.specs.Monitored.{IsSent, Seen}
use Rattle.judge_core.specs.Stakes.{exercise_of}
use Rattle.trace_judge.specs.declared.coverage.Coverage.{Coverage}
use Rattle.trace_judge.specs.declared.standing.Judgment.{Judgment}
use Rattle.judge_times.specs.declared.timing.Early.{Early}
use Rattle.judge_times.specs.declared.timing.Late.{Late}
use Rattle.judge_times.specs.declared.timing.Timing.{Timing}
use Rattle.judge_times.specs.Waiting.{early_as, late_as, timed_as}
use Rattle.trace_judge.specs.Judging.{early_from, is_ok, judged_text, late_from, late_now, place_of, told_block, told_early, told_exercise, told_late, told_monitored, told_report, with_summary, ExercisesIf, IsConcluded, JudgeState}
use Rattle.trace_judge.specs.Coverage.{covered, with_coverage}

-- what is unknown counts for nothing
unknown-covers : (from : Side) (coverage : Coverage) → covered from Unknown coverage ≡ coverage
unknown-covers Terminal coverage = refl
unknown-covers Card coverage = refl

-- what a block exercises, if that was worked out only for an end that is judged
pub some-counted : (judged rules : Bool) (m : Monitor) (from : Side) (b : List ℕ) (arrival : Arrival) (seen : Seen)
    → IsSent b arrival seen → (x : Exercise) → ExercisesIf (rules && judged) m from b arrival x → (coverage : Coverage)
    → (y : Exercise) × ExercisesIf rules m from b arrival y
    × (covered from x coverage ≡ if judged then covered from y coverage else coverage)
some-counted true true m from b arrival seen sent x h coverage = (x, h, refl)
some-counted true false m from b arrival seen sent x h coverage = (x, h, refl)
some-counted false true m from b arrival seen sent x h coverage = (
  exercise_of m from seen,
  (seen, sent, refl),
  ap (λ (e : Exercise). covered from e coverage) h ∙ unknown-covers from coverage,
)
some-counted false false m from b arrival seen sent x h coverage =
    (x, h, ap (λ (e : Exercise). covered from e coverage) h ∙ unknown-covers from coverage)

-- the counts of an end that is judged
pub told-counted : (judged : Bool) (s : JudgeState) (more counted : Coverage)
    → counted ≡ (if judged then more else s.coverage)
    → record s { coverage = counted } ≡ (if judged then record s { coverage = more } else s)
told-counted true s more counted e = ap (λ (c : Coverage). record s { coverage = c }) e
told-counted false s more counted e = ap (λ (c : Coverage). record s { coverage = c }) e

-- a block: the report on it
pub told-report : (s old counted told : JudgeState) (monitor : Monitor) (from : Side) (b : List ℕ) (exercise : Exercise)
    (over : Bool) (report : Report) (timing : Timing) (place : Place) → s ≡ old → place ≡ place_of old b
    → timing ≡ timed_as report.said s.timing from (length b)
    → counted ≡ told_exercise (record s { monitor = monitor; begun = true; timing = timing }) from exercise
    → over ≡ is_some (late_now old) → told ≡ told_report counted place from over report
    → told ≡ told_monitored s monitor from b exercise report
told-report s old counted told monitor from b exercise over report timing place same here moved covers ended tells =
    tells ∙ ap (λ (p : Place). told_report counted p from over report)
    (here ∙ ap (λ (m : JudgeState). place_of m b) (sym same))
    ∙ ap (λ (m : JudgeState). told_report m (place_of s b) from over report) covers
    ∙ ap (λ (t : Timing). told_report (told_exercise
    (record s { monitor = monitor; begun = true; timing = t }) from exercise) (place_of s b) from over report) moved
    ∙ ap (λ (o : Bool). told_report (told_exercise
    (record s { monitor = monitor; begun = true; timing = timed_as report.said s.timing from (length b) })
    from exercise) (place_of s b) from o report)
    (ended ∙ ap (λ (m : JudgeState). is_some (late_now m)) (sym same))

-- and then whether it was late or early
pub told-by : (s old told later after : JudgeState) (monitor : Monitor) (from : Side) (b : List ℕ) (exercise : Exercise)
    (report : Report) (late : Option Late) (early : Option Early) (named_late : Option Late)
    (named_early : Option Early) (place : Place) → s ≡ old → place ≡ place_of old b
    → told ≡ told_monitored s monitor from b exercise report
    → late ≡ late_from old from → named_late ≡ late_as report.said late
    → later ≡ told_late told place s.monitor.terminal.number named_late → early ≡ early_from old from
    → named_early ≡ early_as report.said early → after ≡ told_early later place named_early
    → after ≡ told_block s monitor from b exercise report
told-by s old told later after monitor from b exercise report late early named_late named_early place same here tells is
    names_late follows too names_early last =
    let number = s.monitor.terminal.number in
    let at = here ∙ ap (λ (m : JudgeState). place_of m b) (sym same) in
    last ∙ ap (told_early later place) names_early
    ∙ ap (λ (p : Place). told_early later p (early_as report.said early)) at
    ∙ ap (λ (m : JudgeState). told_early m (place_of s b) (early_as report.said early))
    (follows ∙ ap (told_late told place number) names_late
    ∙ ap (λ (p : Place). told_late told p number (late_as report.said late)) at
    ∙ ap (λ (m : JudgeState). told_late m (place_of s b) number (late_as report.said late)) tells
    ∙ ap (λ (l : Option Late). told_late (told_monitored s monitor from b exercise report) (place_of s b) number
    (late_as report.said l))
    (is ∙ ap (λ (m : JudgeState). late_from m from) (sym same)))
    ∙ ap (λ (e : Option Early). told_early
    (told_late (told_monitored s monitor from b exercise report) (place_of s b) number
    (late_as report.said (late_from s from)))
    (place_of s b) (early_as report.said e))
    (too ∙ ap (λ (m : JudgeState). early_from m from) (sym same))

-- the end: what is said of rules and states, and then the counts
pub concluded-by : (s m : JudgeState) (judgment : Judgment) (covered : List ℕ) → m ≡ s
    → covered ≡ with_coverage m.scope.layout m.scope.rules m.text m.coverage
    → judgment.text ≡ with_summary m.scope.layout covered m.monitor.blocks m.tally
    → judgment.is_ok ≡ is_ok m.tally → IsConcluded s judgment
concluded-by s m judgment covered is counts text ok = record {
  text = text ∙ ap (λ (t : List ℕ). with_summary m.scope.layout t m.monitor.blocks m.tally) counts ∙ ap judged_text is;
  is_ok = ok ∙ ap (λ (e : JudgeState). is_ok e.tally) is;
}
