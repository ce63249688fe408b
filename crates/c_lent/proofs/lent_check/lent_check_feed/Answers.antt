use Rattle.std.proofs.Common.{◌++◌, ◌∙◌, Result, OnOk, IfErr, length, refl, sym, ap, subst}
use Rattle.octet_core.specs.Grammar.{RefusesAt, whole}
use Rattle.octet_core.specs.declared.stop.Stop.{Stop}
use Rattle.tlv_core.specs.declared.reason.TlvReason.{TlvReason}
use Rattle.tlv_core.specs.Forest.{IsForest}
use Rattle.tlv_core.specs.Reasons.{IsReason}
use Rattle.tlv_core.specs.Check.{Checked, HasChecked}
use Rattle.tlv_core.specs.Lent.{checked_at}
use Rattle.c_lent.specs.Pieces.{told_checked}
use Rattle.c_lent.specs.LentCheck.{FeedsCheck}
use Rattle.c_lent.proofs.Lending.{check-held-by}
use Rattle.c_lent.proofs.lent_check.lent_check_feed.Goals as goal

pub returns : goal.returns
returns c =
    let p = c.in-Some.check in
    let old : Checked = checked_at p in
    let new : Checked = checked_at c.feed-answer.new.self in
    let piece = c.args.piece.now in
    let answer = c.feed-answer.ensures.answer in
    record {
      none = λ none. absurd (none old (record {
        check = p;
        spelled = c.in-Some.ensures.some.0;
        fit = c.in-Some.ensures.some.1;
        held = refl;
      }));
      fed = λ k is.
          subst (λ (s : Checked). FeedsCheck s piece c.of.result c.checked.result)
          (sym (check-held-by c.args.state.now k p c.in-Some.ensures.some.0 is))
          (record {
            new = new;
            is = record {
              check = c.feed-answer.new.self;
              spelled = c.of.ensures.kept;
              fit =
                  c.feed-answer.ensures.fit;
              held = refl;
            };
            fed = record {
              limit = c.feed-answer.ensures.limit;
              repeats = c.feed-answer.ensures.repeats;
              taken = λ b h. subst (λ (r : Result (Unit {0}) (Stop TlvReason)). OnOk r (HasChecked (b ++ piece) new))
                  answer
                  (c.feed-answer.ensures.taken b h);
              refused = λ b h. subst (λ (r : Result (Unit {0}) (Stop TlvReason)).
                  IfErr r (RefusesAt whole (IsForest old.kept.max) (IsReason old.kept.max) (b ++ piece)))
                  answer (c.feed-answer.ensures.refused b h);
              verdict = c.checked.ensures ∙ ap (told_checked (length piece)) answer;
            };
          });
    }
