use Rattle.std.proofs.Common.{◌∙◌}
use Rattle.traces.proofs.Noted.{empty-marked}
use Rattle.traces.proofs.marking.marked.Goals as goal

pub returns-then-is_empty : goal.returns-then-is_empty
returns-then-is_empty c =
    c.of.ensures ∙ empty-marked c.args.unseen.now c.args.lines.items c.if-is_empty.ensures
