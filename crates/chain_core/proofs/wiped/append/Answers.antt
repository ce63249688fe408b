use Rattle.std.proofs.Common.{arith}
use Rattle.std.proofs.lemmas.Slice.{drop-put_mid}
use Rattle.chain_core.proofs.wiped.append.Goals as goal

pub returns-clause-rest : goal.returns-clause-rest
returns-clause-rest c =
    drop-put_mid c.args.count _ c.args.buffer.now _ _ (omega arith) (omega (arith, c.requires))
    (omega (arith, c.copy_from_slice.ensures.len))
