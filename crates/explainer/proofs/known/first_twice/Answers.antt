use Rattle.std.proofs.Common.{arith, ◌∙◌, sym, ap, refl, subst, take}
use Rattle.std.specs.Option.{option_copied}
use Rattle.tlv_core.specs.ByTag.{HasAll}
use Rattle.tlv_core.specs.Fill.{known_for}
use Rattle.tlv_core.proofs.ByTags.{added, more_known, never, none_placed, once_more}
use Rattle.explainer.proofs.Twice.{first-two}
use Rattle.explainer.proofs.known.first_twice.Goals as goal

pub loop-nth-init : goal.loop-nth-init
loop-nth-init c = (none_placed c.new-placed.result c.new-placed.ensures.empty, λ j l less g. absurd (omega arith))

pub returns-in-Ok-Some : goal.returns-in-Ok-Some
returns-in-Ok-Some c =
    let known = c.args.known.now in
    let n = c.loop-nth.nth in
    let x = c.index-known-nth.result in
    let had = sym c.in-Ok-Some.ensures.old ∙ c.in-Ok-Some.field-0-is in
    let found = ap (λ t. known_for t (take n known)) (sym c.octets.ensures.value)
    ∙ sym (c.loop-nth.invariant.0 c.octets.result) ∙ ap option_copied had in
    first-two known n x c.in-Ok-Some.field-0-0.now c.place_with.result c.loop-nth-test.true c.index-known-nth.is found
    c.loop-nth.invariant.1 c.place_with.ensures

pub loop-nth-preserved : goal.loop-nth-preserved
loop-nth-preserved c =
    let known = c.args.known.now in
    let n = c.loop-nth.nth in
    let x = c.index-known-nth.result in
    let none = sym c.in-Ok-None.ensures.old ∙ c.in-Ok-None.field-0-is in
    let unknown = ap (λ t. known_for t (take n known)) (sym c.octets.ensures.value)
    ∙ sym (c.loop-nth.invariant.0 c.octets.result) ∙ ap option_copied none in
    let more = added (take n known) c.loop-nth.placed c.octets.result x c.loop-nth.invariant.0 none
    c.octets.ensures.value c.insert.new.self c.in-Ok-None.ensures.updates refl in (
      subst (λ xs. HasAll xs c.insert.new.self) (sym (more_known known n x c.loop-nth-test.true c.index-known-nth.is))
          more,
      once_more known n x c.loop-nth-test.true c.index-known-nth.is unknown c.loop-nth.invariant.1,
    )

pub returns : goal.returns
returns c = never c.args.known.now c.loop-nth.nth (omega (arith, c.loop-nth-test.false)) c.loop-nth.invariant.1
