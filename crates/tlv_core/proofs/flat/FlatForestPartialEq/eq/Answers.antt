use Rattle.std.proofs.Common.{◌∙◌, sym}
use Rattle.std.specs.Bool.{one_answer}
use lib.Pointwise.{pointwise}
use Rattle.tlv_core.specs.Same.{same_part}
use Rattle.tlv_core.proofs.Alike.{parts_decide}
use Rattle.tlv_core.proofs.flat.FlatForestPartialEq.eq.Goals as goal

pub returns : goal.returns
returns c =
    let d = parts_decide c.args.self.now c.args.other.now in
    one_answer c.have_same.result (pointwise same_part c.args.self.now c.args.other.now) (
      λ e. sym c.parts.ensures ∙ c.have_same.ensures.0 e
          ∙ c.parts-2.ensures,
      λ e. c.have_same.ensures.1 (c.parts.ensures ∙ e ∙ sym c.parts-2.ensures),
    ) d
