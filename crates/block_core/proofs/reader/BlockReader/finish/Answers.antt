use Rattle.std.proofs.Common.{◌∙◌, sym, ap, Ok}
use Rattle.block_core.proofs.Readings.{finished-short}
use Rattle.block_core.proofs.reader.BlockReader.finish.Goals as goal

pub returns : goal.returns
returns c =
    let way = sym c.answer.ensures ∙ c.in_ok-answer.was ∙ ap Ok c.if-branch.false in
    rw c.len.ensures.value (finished-short c.self.inside.ifs c.self.inside.held.items c.self.inside.stage
    c.args.self.now c.self.view_is c.self.invariant.3 c.self.invariant.4 way)
