use Rattle.std.proofs.Common.{◌∙◌, [], refl, sym, ap, subst, Option}
use Rattle.tlv_core.specs.Check.{IsRefusable, refusal_at}
use Rattle.tlv_core.specs.declared.reason.TlvReason.{TlvReason}
use Rattle.tlv_core.specs.Lent.{kept_at}
use Rattle.tlv_core.proofs.Fed.{nothing_taken}
use Rattle.tlv_core.proofs.lent.LentCheck.begin.Goals as goal

pub returns-clause-nothing : goal.returns-clause-nothing
returns-clause-nothing c b =
    let law = nothing_taken c.args.max (kept_at c.lent.result) (c.lent.ensures.kept ∙ c.new.ensures) b in (
      λ h. law.0 h.taken,
      λ e. record {
        taken = law.1 e;
        none =
            ap (refusal_at c.lent.result.count) c.lent.ensures.reason;
      },
    )

pub returns-clause-fit : goal.returns-clause-fit
returns-clause-fit c =
    let p = c.lent.result in
    let law = nothing_taken c.args.max (kept_at p) (c.lent.ensures.kept ∙ c.new.ensures) [] in
    record {
      range = c.lent.ensures.range;
      led = ([], law.1 refl);
      may = subst (λ (r : Option TlvReason). IsRefusable (kept_at p) (refusal_at p.count r))
          (sym c.lent.ensures.reason) tt;
    }
