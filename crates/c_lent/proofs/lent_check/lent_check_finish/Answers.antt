use Rattle.std.proofs.Common.{refl, sym, subst}
use Rattle.tlv_core.specs.Check.{Checked}
use Rattle.tlv_core.specs.Lent.{checked_at}
use Rattle.c_lent.specs.Pieces.{EndsCheck}
use Rattle.c_lent.proofs.Lending.{check-held-by}
use Rattle.c_lent.proofs.lent_check.lent_check_finish.Goals as goal

pub returns-in-Some : goal.returns-in-Some
returns-in-Some c =
    let p = c.in-Some.check in
    record {
      none = λ none. absurd (none (checked_at p) (record {
        check = p;
        spelled = c.in-Some.ensures.some.0;
        fit = c.in-Some.ensures.some.1;
        held = refl;
      }));
      ended = λ k is.
          subst (λ (s : Checked). EndsCheck s c.ended.result)
          (sym (check-held-by c.args.state.now k p c.in-Some.ensures.some.0 is))
          (record {
            answer = c.finish.result;
            repeats = c.finish.ensures.repeats;
            all = c.finish.ensures.verdict;
            verdict = c.ended.ensures;
          });
    }
