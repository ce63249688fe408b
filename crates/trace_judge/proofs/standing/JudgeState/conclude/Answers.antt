use Rattle.std.proofs.Common.{◌∙◌}
use Rattle.trace_judge.proofs.Steps.{concluded-by}
use Rattle.trace_judge.proofs.standing.JudgeState.conclude.Goals as goal

pub returns : goal.returns
returns c =
    concluded-by c.args.self _ _ _ c.self.view_is c.in_ok-push_if.ensures (c.of.ensures ∙ c.in_ok-text.ensures)
    c.is_ok.ensures
