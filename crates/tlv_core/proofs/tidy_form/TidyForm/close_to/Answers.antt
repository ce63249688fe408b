use Rattle.std.proofs.Common.{◌≡◌, ◌∙◌, length, subst, inl, inr, arith}
use Rattle.std.proofs.lemmas.Bool.{cases_lt}
use Rattle.tlv_core.specs.TidyForm.{IsKeptOf}
use Rattle.tlv_core.proofs.TidyForms.{closed_none}
use Rattle.tlv_core.proofs.TidyKept.{closes, none_open, left_kept}
use Rattle.tlv_core.proofs.tidy_form.TidyForm.close_to.Goals as goal

pub loop-self-preserved : goal.loop-self-preserved
loop-self-preserved c = λ old g h.
    let was = c.loop-self.invariant old g h in
    let now = closes c.args.depth old c.loop-self.out c.close-self.new.out c.loop-self.self
    (record { starts = c.pop.new.self; end = c.close-self.result }) c.in-Some.start was.next.opened was.next.list
    c.in-Some.ensures.items (omega (arith, c.loop-self-test.true, c.len.ensures.value))
    (λ xs ys at put. c.close-self.ensures old xs ys at put) was.kept_now in
    record { next = now.next; kept_now = now.kept_now; same = now.same ∙ was.same }

pub returns-in-None : goal.returns-in-None
returns-in-None c = λ old g h.
    let was = c.loop-self.invariant old g h in
    let kept = c.loop-self.self in
    let none : length kept.starts.items ≡ 0 =
    elim (cases_lt 0 (length kept.starts.items)) [
      | inl some ↦ (let yes = c.in-None.ensures.variant.1 some in cc)
      | inr le ↦ omega arith
    ] in
    rw c.in-None.ensures.empty
    (subst (IsKeptOf old c.loop-self.out kept) was.same
    (left_kept c.args.depth old c.loop-self.out kept was.next
    (λ e. none_open c.args.depth was.next.opened was.next.list (omega (arith, e, none))) was.kept_now))

pub returns : goal.returns
returns c = λ old g h.
    let was = c.loop-self.invariant old g h in
    subst (IsKeptOf old c.loop-self.out c.loop-self.self) was.same
    (left_kept c.args.depth old c.loop-self.out c.loop-self.self was.next
    (λ e. closed_none c.args.depth was.next.opened was.next.list
    (omega (arith, e, c.loop-self-test.false, c.len.ensures.value))) was.kept_now)
