use Rattle.std.proofs.Common.{arith, ◌∙◌, sym, ap, subst, take, refl}
use Rattle.std.specs.Option.{option_copied}
use Rattle.tlv_core.specs.Fill.{known_for}
use Rattle.tlv_core.specs.ByTag.{HasAll}
use Rattle.tlv_core.proofs.ByTags.{none_placed, more_known, added, once_more, never, again, all_placed}
use Rattle.tlv_core.proofs.filling.by_tag.Goals as goal

pub loop-one-init : goal.loop-one-init
loop-one-init c = (none_placed c.new-placed.result c.new-placed.ensures.empty, λ j l less g. absurd (omega arith))

pub returns-in-Ok-Some-clause-fault : goal.returns-in-Ok-Some-clause-fault
returns-in-Ok-Some-clause-fault c =
    let known = c.args.known.now in
    let i = c.loop-one.one-index in
    let x = c.one-item.result in
    let had = sym c.in-Ok-Some.ensures.old ∙ c.in-Ok-Some.field-0-is in
    let found = ap (λ t. known_for t (take i known)) (sym c.octets.ensures.value)
    ∙ sym (c.loop-one.invariant.0 c.octets.result) ∙ ap option_copied had in
    again known i x c.in-Ok-Some.field-0-0.now c.loop-one-test.true c.one-item.is found

pub loop-one-preserved : goal.loop-one-preserved
loop-one-preserved c =
    let known = c.args.known.now in
    let i = c.loop-one.one-index in
    let x = c.one-item.result in
    let none = sym c.in-Ok-None.ensures.old ∙ c.in-Ok-None.field-0-is in
    let unknown = ap (λ t. known_for t (take i known)) (sym c.octets.ensures.value)
    ∙ sym (c.loop-one.invariant.0 c.octets.result) ∙ ap option_copied none in
    let more = added (take i known) c.loop-one.placed c.octets.result x c.loop-one.invariant.0 none
    c.octets.ensures.value c.insert.new.self c.in-Ok-None.ensures.updates refl in (
      subst (λ xs. HasAll xs c.insert.new.self) (sym (more_known known i x c.loop-one-test.true c.one-item.is)) more,
      once_more known i x c.loop-one-test.true c.one-item.is unknown c.loop-one.invariant.1,
    )

pub returns-clause-all : goal.returns-clause-all
returns-clause-all c = all_placed c.args.known.now c.loop-one.one-index c.loop-one.placed
    (omega (arith, c.loop-one-test.false)) c.loop-one.invariant.0

pub returns-clause-unique : goal.returns-clause-unique
returns-clause-unique c = never c.args.known.now c.loop-one.one-index (omega (arith, c.loop-one-test.false))
    c.loop-one.invariant.1
