use Rattle.std.proofs.Common.{[], refl, ◌∙◌}
use Rattle.octet_core.specs.Grammar.{whole}
use Rattle.tlv_core.specs.Forest.{IsForest}
use Rattle.tlv_core.specs.Reasons.{IsReason}
use Rattle.octet_core.proofs.Verdicts.{refuses_at}
use Rattle.c_lent.proofs.tlv.tlv_check.Goals as goal

pub returns-in-Err-clause-refused : goal.returns-in-Err-clause-refused
returns-in-Err-clause-refused c = λ _ _.
    let nothing = (c.new-check.ensures.nothing []).1 refl in
    let refused = rw c.new-check.ensures.limit at (c.in-Err.ensures.refused [] nothing) in (
      c.in-Err.stop,
      c.stopped.ensures,
      refuses_at whole (IsForest c.args.max) (IsReason c.args.max) c.args.octets.now
          c.in-Err.stop refused,
    )

pub returns-in-Ok-clause-ok : goal.returns-in-Ok-clause-ok
returns-in-Ok-clause-ok c = λ _.
    let nothing = (c.new-check.ensures.nothing []).1 refl in
    let limit = c.in_default.ensures.limit ∙ c.new-check.ensures.limit in
    rw limit at (c.in-Ok.ensures.verdict c.args.octets.now (c.in_default.ensures.taken [] nothing))

pub returns-in-Err-finish-clause-refused : goal.returns-in-Err-finish-clause-refused
returns-in-Err-finish-clause-refused c = λ _ _.
    let nothing = (c.new-check.ensures.nothing []).1 refl in
    let limit = c.in_default.ensures.limit ∙ c.new-check.ensures.limit in (
      c.in-Err-finish.stop,
      c.stopped-in-Err-finish.ensures,
      rw limit at (c.in-Err-finish.ensures.verdict c.args.octets.now (c.in_default.ensures.taken [] nothing)),
    )
