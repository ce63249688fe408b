use Rattle.std.proofs.Common.{sym, ap, subst, ◌∙◌, inl}
use Rattle.std.proofs.lemmas.Bool.{false≢true}
use Rattle.atr_core.specs.Atr.{AtrParts, IsAtr, tck_of}
use Rattle.c_lent.specs.declared.verdict.Verdict.{Verdict}
use Rattle.c_owned.proofs.readers.answer_of.Goals as goal

pub returns-in-Some : goal.returns-in-Some
returns-in-Some c = record {
  answer = inl c.ok.ensures;
  value = λ z t h. (
    subst (λ (a : AtrParts). IsAtr a t) (sym c.tell.ensures.atr) (c.in-Some.ensures.value t h),
    c.tell.ensures.tck ∙ ap tck_of (sym c.tell.ensures.atr),
  );
  none = λ n. absurd (n (ap (λ (v : Verdict). v.status) c.ok.ensures));
  refused = λ h. absurd (false≢true (sym (c.in-Some.ensures.refused h)));
}
