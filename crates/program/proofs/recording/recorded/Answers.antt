use Rattle.std.proofs.lemmas.Result.{IfOk-weaker}
use Rattle.program.proofs.Records.{of-items}
use Rattle.program.proofs.recording.recorded.Goals as goal

pub returns-in-Ok : goal.returns-in-Ok
returns-in-Ok c = IfOk-weaker c.recorded_items.result _ _
    (λ made h. of-items c.args.atr.now c.args.text.now c.in-Ok.trace made c.in-Ok.ensures h) c.recorded_items.ensures
