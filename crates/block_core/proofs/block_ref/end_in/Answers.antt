use Rattle.std.proofs.Common.{arith, refl}
use Rattle.block_core.specs.Stage.{IsHeaded}
use Rattle.block_core.specs.declared.stage.Stage.TheVariants.{Len, Size}
use Rattle.block_core.proofs.Places.{refused-at-len, refused-at-size}
use Rattle.block_core.proofs.Readings.{short-under-way}
use Rattle.block_core.proofs.block_ref.end_in.Goals as goal

pub returns-then-octets-lt3-clause-refused : goal.returns-then-octets-lt3-clause-refused
returns-then-octets-lt3-clause-refused c =
    rw c.short.ensures (short-under-way c.args.ifs (Len c.args.pcb) c.args.octets.now
    (λ i. omega (arith, c.type_inv.octets i))
    (omega (arith, c.requires.long, c.if-octets-lt3.true), c.requires.kind) refl)

pub returns-in-Some-clause-refused : goal.returns-in-Some-clause-refused
returns-in-Some-clause-refused c =
    rw c.refused.ensures (refused-at-len c.args.ifs c.args.octets.now c.args.pcb c.in-Some.reason c.requires.most
    (λ i. omega (arith, c.type_inv.octets i)) c.if-octets-lt3.false c.requires.kind c.in-Some.ensures.some)

pub returns-then-octets-lt4-clause-refused : goal.returns-then-octets-lt4-clause-refused
returns-then-octets-lt4-clause-refused c =
    let head : IsHeaded c.args.ifs c.args.pcb c.args.octets.now =
    record { kind = c.requires.kind; fits = c.in_default.ensures.none } in
    rw c.short-then-octets-lt4.ensures (short-under-way c.args.ifs (Size c.args.pcb) c.args.octets.now
    (λ i. omega (arith, c.type_inv.octets i))
    (omega (arith, c.if-octets-lt3.false, c.if-octets-lt4.true), head, c.if-is_about_ifs.ensures.0 refl) refl)

pub returns-then-refuses_first-clause-refused : goal.returns-then-refuses_first-clause-refused
returns-then-refuses_first-clause-refused c =
    let head : IsHeaded c.args.ifs c.args.pcb c.args.octets.now =
    record { kind = c.requires.kind; fits = c.in_default.ensures.none } in
    let known = c.if-refuses_first.ensures.0 refl in
    rw c.refused-then-refuses_first.ensures
    (refused-at-size c.args.ifs c.args.octets.now c.args.pcb (λ i. omega (arith, c.type_inv.octets i))
    c.if-octets-lt4.false head known.0 known.1)
