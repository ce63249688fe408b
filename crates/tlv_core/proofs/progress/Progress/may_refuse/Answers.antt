use Rattle.std.proofs.Common.{◌≡◌, ◌∙◌, ℕ, inl, inr, sym, subst, arith}
use Rattle.std.proofs.lemmas.Bool.{cases_lt, false≢true}
use Rattle.octet_core.specs.Grammar.{IsFirst}
use Rattle.tlv_core.specs.Reasons.{tlv_reasons}
use Rattle.tlv_core.specs.Steps.{IsWrongAfter}
use Rattle.tlv_core.specs.Progress.{kept_of}
use Rattle.tlv_core.proofs.progress.Progress.may_refuse.Goals as goal

pub loop-octet-preserved : goal.loop-octet-preserved
loop-octet-preserved c = λ x lt first. elim (cases_lt x c.loop-octet.octet) [
  | inl below ↦ c.loop-octet.invariant x below first
  | inr le ↦
      let same : x ≡ c.loop-octet.octet = omega arith in
      false≢true (sym c.if-refuses.false ∙ c.refuses.ensures.no
      (subst (λ (y : ℕ). IsFirst tlv_reasons (IsWrongAfter (kept_of c.args.self.now) y) c.args.reason) same first))
]

pub returns-clause-no : goal.returns-clause-no
returns-clause-no c = λ x lt first.
    absurd (c.loop-octet.invariant x (omega (arith, lt, c.loop-octet-test.false)) first)
