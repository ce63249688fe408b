use Rattle.std.proofs.Common.{sym, subst}
use Rattle.tlv_core.specs.Forest.{HasSpelling, largest}
use Rattle.tlv_core.proofs.Tidied.{tidy_spelling}
use Rattle.tlv_core.proofs.tidying.tidy.Goals as goal

pub of-requires : goal.of-requires
of-requires c = subst (HasSpelling largest) (sym c.in_ok-nodes.ensures)
    (tidy_spelling largest c.nodes.result.now c.nodes.ensures.spelled)
