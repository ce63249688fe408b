use Rattle.std.proofs.Common.{Bool, ap, subst, sym, ◌∙◌}
use Rattle.trace_judge.specs.Judging.{counts, is_judged, ExercisesIf, IsTold, JudgeState}
use Rattle.trace_judge.proofs.Steps.{some-counted, told-by, told-counted, told-report}
use Rattle.trace_judge.proofs.standing.JudgeState.block.Goals as goal

pub returns-clause-said : goal.returns-clause-said
returns-clause-said c =
    let P : JudgeState → Type 0 = λ s. IsTold s c.args.from c.args.octets.now c.args.reach.now c.early.new.self in
    let s = c.self.inside in
    let arrival = c.arrival_of-arrival.result in
    let monitor = c.monitored-exercised.new.monitor in
    let report = c.monitored-exercised.result.report in
    let takes = c.monitored-exercised.ensures.takes in
    let judged = is_judged s.scope.only c.args.from in
    let is_counted = c.counts-is_counted.ensures ∙ ap (λ (t : JudgeState). counts t c.args.from) (sym c.self.view_is) in
    let counted = some-counted judged s.scope.rules s.monitor c.args.from c.args.octets.now arrival takes.seen
    takes.is_sent c.monitored-exercised.result.exercise
    (subst (λ (e : Bool). ExercisesIf e s.monitor c.args.from c.args.octets.now arrival
    c.monitored-exercised.result.exercise) is_counted c.monitored-exercised.ensures.exercises) s.coverage in
    let exercise = counted.0 in
    subst P c.self.view_is (record {
      arrival = arrival;
      is_arrival = c.arrival_of-arrival.ensures;
      monitor = monitor;
      report = report;
      takes = takes;
      exercise = exercise;
      exercises = counted.1;
      told = told-by _ c.args.self.now _ _ _ monitor c.args.from c.args.octets.now exercise report _ _ _ _ _
          c.self.view_is c.place-place.ensures
          (told-report _ c.args.self.now _ _ monitor c.args.from c.args.octets.now exercise _ report _ _
          c.self.view_is c.place-place.ensures c.timed_as-self-inside.ensures
          (told-counted judged _ _ _ (c.cover.ensures ∙ counted.2))
          c.times-times.ensures.over c.in_ok-report.ensures.said)
          c.times-times.ensures.late c.late_as.ensures c.in_ok-late.ensures.said c.times-times.ensures.early
          c.early_as.ensures c.in_ok-early.ensures.said;
    })
