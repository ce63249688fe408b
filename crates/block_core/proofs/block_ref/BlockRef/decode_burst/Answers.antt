use Rattle.std.proofs.Common.{◌∙◌, ◌+◌, arith, refl, subst, sym, take}
use Rattle.block_core.specs.Block.{Parts, IsBlock}
use Rattle.block_core.specs.declared.stage.Stage.TheVariants.{Rest}
use Rattle.block_core.proofs.Places.{refused-at-lrc, begun-with}
use Rattle.block_core.proofs.Readings.{short-under-way}
use Rattle.block_core.proofs.block_ref.BlockRef.decode_burst.Goals as goal

pub returns-then-octets-end-clause-refused : goal.returns-then-octets-end-clause-refused
returns-then-octets-end-clause-refused c =
    let end = c.in_ok-end.ensures in
    rw c.short.ensures (short-under-way c.args.ifs (Rest c.in_ok-pcb.pcb c.in_ok-end.end) c.args.octets.now
    (λ i. omega (arith, c.type_inv.octets i))
    (end.long, c.if-octets-end.true, end.end, end.headed, end.about, end.sized) refl)

pub returns-then-sum_to-ne0-clause-refused : goal.returns-then-sum_to-ne0-clause-refused
returns-then-sum_to-ne0-clause-refused c =
    let end = c.in_ok-end.ensures in
    rw c.refused.ensures (refused-at-lrc c.args.ifs c.in_ok-end.end c.args.octets.now c.in_ok-pcb.pcb
    (λ i. omega (arith, c.type_inv.octets i)) c.if-octets-end.false end.end end.headed end.sized
    (λ e. c.if-sum_to-ne0.true (c.sum_to.ensures ∙ e)))

pub returns-clause-found : goal.returns-clause-found
returns-clause-found c =
    let end = c.in_ok-end.ensures in (
      omega (arith, c.if-octets-end.false),
      subst (λ (v : Parts). IsBlock c.args.ifs v (take (c.in_ok-end.end + 1) c.args.octets.now))
          (sym c.of_parts-block.ensures)
          (begun-with c.args.ifs c.in_ok-end.end c.args.octets.now c.in_ok-pcb.pcb
          (λ i. omega (arith, c.type_inv.octets i)) c.if-octets-end.false end.end end.headed end.sized
          (sym c.sum_to.ensures ∙ c.if-sum_to-ne0.false)),
    )
