use Rattle.std.proofs.Common.{refl, length, arith}
use Rattle.octet_core.specs.declared.stop.Stop.TheVariants.{At}
use Rattle.c_lent.specs.declared.hexadecimal.HexReason.TheVariants.{Odd}
use Rattle.c_lent.proofs.Encoded.{digits-lack}
use Rattle.c_lent.proofs.hexadecimal.hex_decode.Goals as goal

pub returns-then-text-ne0-clause-refused : goal.returns-then-text-ne0-clause-refused
returns-then-text-ne0-clause-refused c = λ _.
    (At (length c.args.text.now) Odd, c.refused.ensures, (omega arith, refl))

pub returns-then-count-out-clause-written : goal.returns-then-count-out-clause-written
returns-then-count-out-clause-written c = λ _.
    digits-lack c.args.text.now c.args.out.now c.lacking.result (c.in_default.ensures.none) (omega arith)
    c.if-count-out.true c.lacking.ensures
