use Rattle.std.proofs.Common.{sym}
use Rattle.atr_core.proofs.Feeding.{refused-open, short-open}
use Rattle.atr_core.proofs.decoding.len_by_octets.Goals as goal

pub returns-in-Err-clause-refused : goal.returns-in-Err-clause-refused
returns-in-Err-clause-refused c = refused-open _ c.args.octets.now c.take_octets.new.self c.in-Err.refusal
    c.stop.result c.new-partial.ensures.now.1 c.stop.ensures c.in-Err.ensures

pub returns-else-is_whole-clause-refused : goal.returns-else-is_whole-clause-refused
returns-else-is_whole-clause-refused c = short-open _ c.args.octets.now c.take_octets.new.self c.in-Ok.count
    c.new-partial.ensures.now.1 (sym c.if-is_whole.ensures) c.in-Ok.ensures
