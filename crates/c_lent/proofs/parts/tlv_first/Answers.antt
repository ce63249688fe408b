use Rattle.c_lent.proofs.Firsts.{first-at}
use Rattle.c_lent.proofs.parts.tlv_first.Goals as goal

pub returns-clause-tree : goal.returns-clause-tree
returns-clause-tree c = λ t proper is. first-at c.args.path.now t c.args.parts.now c.first_of.result proper is
    c.first_of.ensures.found
