use Rattle.std.proofs.Common.{ℕ, ◌∙◌, sym, ap, arith, get_or}
use Rattle.tlv_core.specs.Led.{value_from}
use Rattle.tlv_core.proofs.Leads.{inner-more}
use Rattle.tlv_core.proofs.lent.inner_from.Goals as goal

pub loop-end-preserved : goal.loop-end-preserved
loop-end-preserved c =
    let i : ℕ = c.loop-end.end-index in (
      c.value_from-place.ensures.is
          ∙ ap (λ (place : ℕ). value_from place (get_or c.args.ends.now i 0)) c.loop-end.invariant.0
          ∙ sym (inner-more 0 i c.args.ends.now c.loop-end-test.true),
      omega (arith, c.value_from-place.ensures.most, c.loop-end.invariant.1),
    )
