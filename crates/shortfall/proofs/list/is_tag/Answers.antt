use Rattle.std.proofs.Common.{◌∙◌, arith}
use Rattle.shortfall.proofs.Listing.{tag-test}
use Rattle.shortfall.proofs.list.is_tag.Goals as goal

pub returns : goal.returns
returns c = c.is_some.ensures ∙ tag-test c.args.octets.now c.new.result (λ i. omega (arith, c.type_inv.octets i))
    c.new.ensures
