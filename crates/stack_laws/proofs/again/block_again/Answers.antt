use Rattle.std.proofs.Common.{length, sym, subst}
use Rattle.octet_core.specs.Grammar.{self_ended}
use Rattle.block_core.specs.Block.{IsBlock, IsReason}
use Rattle.octet_core.proofs.Verdicts.{not_both}
use Rattle.stack_laws.proofs.Readings.{accepts-all}
use Rattle.stack_laws.proofs.again.block_again.Goals as goal

pub unreachable-requires : goal.unreachable-requires
unreachable-requires c =
    let b = c.as_slice.result.now in
    not_both self_ended (IsBlock 254) (IsReason 254) b c.args.block.now (length b) c.in-Err.field-0
    (accepts-all (IsBlock 254) c.args.block.now b
    (subst (IsBlock 254 c.args.block.now) (sym c.as_slice.ensures.value) c.encode-octets.ensures))
    c.in-Err.ensures.refused
