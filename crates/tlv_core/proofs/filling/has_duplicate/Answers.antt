use Rattle.std.proofs.Common.{◌+◌, ◌∙◌, sym, ap, refl}
use Rattle.std.specs.Prelude.{is_some}
use Rattle.tlv_core.specs.Fill.{known_for}
use Rattle.tlv_core.proofs.Knowns.{twice, once_more, never_twice, rest_is, copied_some}
use Rattle.tlv_core.proofs.filling.has_duplicate.Goals as goal

pub returns-then-is_some : goal.returns-then-is_some
returns-then-is_some c =
    let known = c.args.known.now in
    let place = c.loop-place.place in
    let x = c.index-known-place.result in
    let some = ap is_some (ap (known_for x.tag) (sym (rest_is known (place + 1)))) ∙ ap is_some (sym c.find.ensures)
    ∙ copied_some c.find.result ∙ sym c.is_some.ensures ∙ c.if-is_some.true in
    (λ _. twice known place x c.loop-place-test.true c.index-known-place.is some, λ _. refl)

pub loop-place-preserved : goal.loop-place-preserved
loop-place-preserved c =
    let known = c.args.known.now in
    let place = c.loop-place.place in
    let x = c.index-known-place.result in
    let none = ap is_some (ap (known_for x.tag) (sym (rest_is known (place + 1)))) ∙ ap is_some (sym c.find.ensures)
    ∙ copied_some c.find.result ∙ sym c.is_some.ensures ∙ c.if-is_some.false in
    once_more known place x c.loop-place-test.true c.index-known-place.is none c.loop-place.invariant

pub returns : goal.returns
returns c = (
  λ e. cc,
  λ h. absurd (never_twice c.args.known.now c.loop-place.place c.loop-place-test.false
      c.loop-place.invariant h),
)
