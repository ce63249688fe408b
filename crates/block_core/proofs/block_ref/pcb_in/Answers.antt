use Rattle.std.proofs.Common.{arith, refl}
use Rattle.block_core.specs.declared.stage.Stage.TheVariants.{Front}
use Rattle.block_core.proofs.Places.{refused-at-pcb}
use Rattle.block_core.proofs.Readings.{short-under-way}
use Rattle.block_core.proofs.block_ref.pcb_in.Goals as goal

pub returns-then-octets-lt2-clause-refused : goal.returns-then-octets-lt2-clause-refused
returns-then-octets-lt2-clause-refused c =
    rw c.short.ensures (short-under-way c.args.ifs Front c.args.octets.now (λ i. omega (arith, c.type_inv.octets i))
    c.if-octets-lt2.true refl)

pub returns-in-None-clause-refused : goal.returns-in-None-clause-refused
returns-in-None-clause-refused c =
    rw c.refused.ensures (refused-at-pcb c.args.ifs c.args.octets.now (λ i. omega (arith, c.type_inv.octets i))
    c.if-octets-lt2.false c.in-None.ensures.none)
