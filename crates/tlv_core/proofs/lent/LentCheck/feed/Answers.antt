use Rattle.std.proofs.Common.{◌≡◌, ◌++◌, ℕ, List, take, IfErr, sym, ap, subst}
use Rattle.octet_core.specs.Grammar.{RefusesAt, whole}
use Rattle.tlv_core.specs.Forest.{IsForest}
use Rattle.tlv_core.specs.Reasons.{HasTaken, IsReason}
use Rattle.tlv_core.specs.Check.{Checked, HasChecked, MayRefuse, refusal_at}
use Rattle.tlv_core.specs.Checking.{checked_of}
use Rattle.tlv_core.specs.Lent.{checked_at}
use Rattle.tlv_core.proofs.lent.LentCheck.feed.Goals as goal

pub returns-clause-refused : goal.returns-clause-refused
returns-clause-refused c b h =
    let is = c.checking-checking.ensures in
    let max : c.checking-checking.result.progress.ends.max ≡ c.args.self.now.max =
    ap (λ (k : Checked). k.kept.max) is in
    subst (λ (m : ℕ). IfErr c.feed-answer.result (RefusesAt whole (IsForest m) (IsReason m) (b ++ c.args.piece.now)))
    max
    (c.feed-answer.ensures.refused b (subst (HasChecked b) (sym is) h))

pub returns-clause-fit : goal.returns-clause-fit
returns-clause-fit c =
    let is = c.checking-checking.ensures in
    let p = c.lent.result in
    let now = c.feed-answer.new.self in
    let kept = c.lent.ensures.kept in
    let some = c.feed-answer.ensures.some
    (subst (λ (k : Checked). (b : List ℕ) × HasTaken b k.kept) (sym is) c.requires.led) in
    let same : checked_of now ≡ checked_at p = sym (λ i. record {
      kept = kept i;
      refusal = refusal_at ((kept i).count) (c.lent.ensures.reason i);
    }) in
    record {
      range = c.lent.ensures.range;
      led = (some.0, subst (HasTaken some.0) (sym kept) some.1);
      may = subst MayRefuse same (c.feed-answer.ensures.may (subst MayRefuse (sym is) c.requires.may));
    }

pub returns-clause-led : goal.returns-clause-led
returns-clause-led c b h =
    let some = c.feed-answer.ensures.led b
    (subst (λ (k : Checked). HasTaken b k.kept) (sym c.checking-checking.ensures) h) in
    (some.0, some.1, subst (HasTaken (b ++ take some.0 c.args.piece.now)) (sym c.lent.ensures.kept) some.2)
