use Rattle.std.proofs.Common.{◌∙◌, map, sym, refl, arith}
use Rattle.std.proofs.lemmas.List.{length-map}
use Rattle.tlv_core.proofs.Knowns.{never_twice}
use Rattle.c_lent.specs.Fill.{known_seen}
use Rattle.c_lent.proofs.FilledLists.{again, not-again}
use Rattle.c_lent.proofs.filling.has_duplicate.Goals as goal

pub returns-then-is_some : goal.returns-then-is_some
returns-then-is_some c = (
  λ _. again c.args.known.now c.loop-place.place _ c.octets_of.result.now c.find.result c.loop-place-test.true
      c.octets_of.ensures c.find.ensures.found c.find.ensures.none (sym c.is_some.ensures ∙ c.if-is_some.true),
  λ _. refl,
)

pub loop-place-preserved : goal.loop-place-preserved
loop-place-preserved c =
    not-again c.args.known.now c.loop-place.place _ c.octets_of.result.now c.find.result c.loop-place-test.true
    c.octets_of.ensures c.find.ensures.found c.find.ensures.none (sym c.is_some.ensures ∙ c.if-is_some.false)
    c.loop-place.invariant

pub returns : goal.returns
returns c = (
  λ e. cc,
  λ h. absurd (never_twice (map known_seen c.args.known.now) c.loop-place.place
      (omega (arith, length-map c.args.known.now known_seen, c.loop-place-test.false)) c.loop-place.invariant h),
)
