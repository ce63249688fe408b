use Rattle.line_core.specs.Line.{arrival_of}
use Rattle.line_core.proofs.Carrying.{moves-heard, served-on}
use Rattle.line_core.proofs.streaming.UntimedLineCardLine.receive.Goals as goal

pub returns-clause-moved : goal.returns-clause-moved
returns-clause-moved g c = moves-heard _ _ _ _ (arrival_of c.over_at_end.result c.read_block.new.room)
    (c.over_at_end.ensures.came c.read_block.new.room) c.read_block.ensures.came c.read_block.ensures.framed
    (c.over_at_end.ensures.told c.read_block.new.room _ _ _ c.read_block.ensures.told)

pub returns-clause-said : goal.returns-clause-said
returns-clause-said g c = λ first before held. served-on _ _ _ before _ held (returns-clause-moved g c)
