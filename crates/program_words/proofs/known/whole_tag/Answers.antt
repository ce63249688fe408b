use Rattle.std.proofs.Common.{◌∙◌, arith}
use Rattle.program_words.proofs.Values.{tag-is}
use Rattle.program_words.proofs.known.whole_tag.Goals as goal

pub returns : goal.returns
returns c = c.ok_or.ensures.value ∙ tag-is c.args.octets.now c.new.result (λ i. omega (arith, c.type_inv.octets i))
    c.new.ensures
