use Rattle.line_core.proofs.Carrying.{moves-said, served-on}
use Rattle.line_core.proofs.streaming.UntimedLineCardLine.send.Goals as goal

pub returns-clause-moved : goal.returns-clause-moved
returns-clause-moved g c = moves-said _ _ _ c.args.block.now c.write_block.result c.write_block.ensures.all
    c.write_block.ensures.none_failed c.write_block.ensures.part c.write_block.ensures.failed_once
    c.write_block.ensures.failed

pub returns-clause-said : goal.returns-clause-said
returns-clause-said g c = λ first before held. served-on _ _ _ before _ held (returns-clause-moved g c)
