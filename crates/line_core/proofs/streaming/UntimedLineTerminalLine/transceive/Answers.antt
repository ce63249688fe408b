use Rattle.line_core.proofs.Carrying.{carries-all, carries-part, carried-on}
use Rattle.line_core.proofs.streaming.UntimedLineTerminalLine.transceive.Goals as goal

pub returns-in-Ok-clause-carried : goal.returns-in-Ok-clause-carried
returns-in-Ok-clause-carried g c =
    carries-all _ _ _ c.in-Ok.ensures.all c.in-Ok.ensures.none_failed c.read_block.ensures.came
    c.read_block.ensures.framed c.read_block.ensures.told

pub returns-in-Ok-clause-said : goal.returns-in-Ok-clause-said
returns-in-Ok-clause-said g c = λ first before held. carried-on _ _ _ before _ held (returns-in-Ok-clause-carried g c)

pub returns-in-Err-clause-carried : goal.returns-in-Err-clause-carried
returns-in-Err-clause-carried g c =
    let part = c.in-Err.ensures.part in
    carries-part _ _ _ c.args.block.now c.args._waiting part.0 _ part.1 part.2 c.in-Err.ensures.failed
    c.in-Err.ensures.failed_once

pub returns-in-Err-clause-said : goal.returns-in-Err-clause-said
returns-in-Err-clause-said g c = λ first before held. carried-on _ _ _ before _ held (returns-in-Err-clause-carried g c)
