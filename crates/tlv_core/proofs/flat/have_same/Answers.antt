use Rattle.std.proofs.Common.{◌<◌, refl, map, length, rules, arith}
use Rattle.std.proofs.lemmas.Bool.{false≢true}
use Rattle.std.proofs.lemmas.List.{length-map}
use Rattle.tlv_core.specs.Flat.{part_seen}
use Rattle.tlv_core.proofs.Alike.{one_at, more_alike, whole_alike, seen_at}
use Rattle.tlv_core.proofs.flat.have_same.Goals as goal

pub returns-then-not-is_same : goal.returns-then-not-is_same
returns-then-not-is_same c =
    let xs = c.args.parts.now in
    let ys = c.args.others.now in
    let x = c.index-parts-place.result in
    let y = c.index-others-place.result in
    let i = c.loop-place.place in
    let lt = c.loop-place-test.true in
    let at = seen_at xs i x lt c.index-parts-place.is in
    let at' = seen_at ys i y (omega (arith, lt, c.if-parts-others.false)) c.index-others-place.is in (
      λ e. absurd (false≢true e),
      λ e. let same =
          one_at (map part_seen xs) (map part_seen ys) i (part_seen x) (part_seen y)
          (omega (arith, lt, length-map xs part_seen)) at at' e in search (rules, same),
    )

pub loop-place-preserved : goal.loop-place-preserved
loop-place-preserved c =
    let xs = c.args.parts.now in
    let ys = c.args.others.now in
    let x = c.index-parts-place.result in
    let y = c.index-others-place.result in
    let i = c.loop-place.place in
    let lt = c.loop-place-test.true in
    let lt' : i < length ys = omega (arith, lt, c.if-parts-others.false) in
    more_alike (map part_seen xs) (map part_seen ys) i (part_seen x) (part_seen y)
    (omega (arith, lt, length-map xs part_seen))
    (omega (arith, lt, c.if-parts-others.false, length-map ys part_seen))
    (seen_at xs i x lt c.index-parts-place.is) (seen_at ys i y lt' c.index-others-place.is)
    (c.is_same.ensures.0 c.if-not-is_same.false) c.loop-place.invariant

pub returns : goal.returns
returns c =
    let xs = c.args.parts.now in
    let ys = c.args.others.now in
    let le = c.loop-place-test.false in (
      λ _. whole_alike (map part_seen xs) (map part_seen ys) c.loop-place.place
          (omega (arith, le, length-map xs part_seen))
          (omega (arith, le, c.if-parts-others.false, length-map ys part_seen)) c.loop-place.invariant,
      λ e. refl,
    )
