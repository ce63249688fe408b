use Rattle.std.proofs.Common.{◌≡◌, List, [], ◌∷◌, ◌++◌, ℕ, ◌+◌, ◌<◌, length, map, refl, sym, ap, subst, ◌∙◌, arith}
use Rattle.std.specs.Prelude.{Option, Ok, IfSome, IfNone}
use Rattle.std.proofs.lemmas.List.{map-append, length-append}
use Rattle.std.proofs.lemmas.Result.{err_from_is_err_and}
use Rattle.octet_core.specs.Grammar.{Refuses, whole}
use Rattle.tlv_core.specs.declared.part.PlacedPart.{PlacedPart}
use Rattle.tlv_core.specs.Forest.{IsForest}
use Rattle.tlv_core.specs.Parts.{Placed}
use Rattle.tlv_core.specs.Reasons.{IsReason, Kept}
use Rattle.tlv_core.specs.Flat.{given_by, placed_of, AreAllParts, HasGiven}
use Rattle.c_lent.specs.declared.parts.CPart.{CPart}
use Rattle.c_lent.specs.Parts.{part_shown, part_put, ArePutSoFar}
use Rattle.c_lent.specs.Verdict.{filled}
use Rattle.c_lent.proofs.parts.put_parts.Goals as goal

-- one part more was given, and is put where the array has room
module _ (max : ℕ) (b : List ℕ) (old : List CPart) (walk next : Kept) (out now : List CPart) (count : ℕ)
    (part : PlacedPart) (so_far : ArePutSoFar max b old walk out count) (limit : next.max ≡ walk.max)
    (more : walk.count < next.count)
    (given : HasGiven b next (so_far.given ++ placed_of part ∷ []))
    (put : now ≡ filled (map part_shown so_far.given ++ part_put part ∷ []) old) where
  shown : map part_shown (so_far.given ++ placed_of part ∷ []) ≡ map part_shown so_far.given ++ part_put part ∷ []
  shown = map-append part_shown so_far.given (placed_of part ∷ [])

  one-more : ArePutSoFar max b old next now (count + 1)
  one-more = record {
    given = so_far.given ++ placed_of part ∷ [];
    has = given;
    limit = limit ∙ so_far.limit;
    within = omega (arith, more, so_far.within);
    number = omega (
      arith,
      so_far.number,
      ap length shown,
      length-append (map part_shown so_far.given) (part_put part ∷ []),
    );
    array = put ∙ ap (λ (p : List CPart). filled p old) (sym shown);
  }

pub loop-part-init : goal.loop-part-init
loop-part-init c = record {
  given = [];
  has = c.new-walk.ensures.nothing c.args.octets.now;
  limit = c.new-walk.ensures.limit;
  within = omega arith;
  number = refl;
  array = refl;
}

pub loop-part-2-smaller : goal.loop-part-2-smaller
loop-part-2-smaller c =
    let l = c.loop-part-2 in
    let given = c.in-Some.ensures.given l.invariant.1.given l.invariant.1.has in
    omega (arith, c.in-Some.ensures.more, given.within)

pub loop-part-2-preserved : goal.loop-part-2-preserved
loop-part-2-preserved c =
    let l = c.loop-part-2 in
    let so_far = l.invariant.1 in (
      omega (arith, l.invariant.0, c.in-Some.ensures.more),
      one-more c.args.max c.args.octets.now c.args.out.now l.walk c.next_short.new.self l.out c.put_at.new.out l.count
          c.in-Some.part so_far c.in-Some.ensures.limit c.in-Some.ensures.more
          (c.in-Some.ensures.given so_far.given so_far.has)
          (c.put_at.ensures (map part_shown so_far.given) c.args.out.now so_far.number so_far.array),
    )

pub returns-in_err-part-clause-refused : goal.returns-in_err-part-clause-refused
returns-in_err-part-clause-refused c =
    let so_far = c.loop-part-2.invariant.1 in
    let p = err_from_is_err_and c.from_residual.result c.from_residual.ensures.1 in
    let stays = c.in_default.ensures.none in
    rw (p.1, p.2) (subst (λ (max : ℕ). Refuses whole (IsForest max) (IsReason max) c.args.octets.now
    c.in_err-part.field-0.0) (ap (λ (k : Kept). k.max) stays ∙ so_far.limit)
    (c.in_err-part.ensures.refused so_far.given
    (subst (λ (k : Kept). HasGiven c.args.octets.now k so_far.given) (sym stays) so_far.has)))

pub returns-in-None-clause-ok : goal.returns-in-None-clause-ok
returns-in-None-clause-ok c =
    let so_far = c.loop-part-2.invariant.1 in
    let stays = c.in_default.ensures.none in
    let all = subst (λ (n : Option PlacedPart).
    IfNone n (AreAllParts c.next_short.new.self.max c.args.octets.now so_far.given))
    c.in-None.is (c.in_ok-part.ensures.all so_far.given
    (subst (λ (k : Kept). HasGiven c.args.octets.now k so_far.given) (sym stays) so_far.has)) in
    record {
      tree = all.tree;
      forest =
          subst (λ (max : ℕ). IsForest max all.tree c.args.octets.now) (ap (λ (k : Kept). k.max) stays ∙ so_far.limit)
          all.forest;
      number = so_far.number ∙ ap (λ (p : List Placed). length (map part_shown p)) all.are;
      array = so_far.array ∙ ap (λ (p : List Placed). filled (map part_shown p) c.args.out.now) all.are;
    }

pub loop-part-smaller : goal.loop-part-smaller
loop-part-smaller c =
    let l = c.loop-part-2 in
    let so_far = l.invariant.1 in
    let stays = c.in_default.ensures.none in
    let more = subst (λ (n : Option PlacedPart).
    IfSome n (λ _. c.next_short.new.self.count < c.next_part.new.self.count))
    c.in-Some-2.is c.in_ok-part.ensures.more in
    let given = c.in_ok-part.ensures.given so_far.given
    (subst (λ (k : Kept). HasGiven c.args.octets.now k so_far.given) (sym stays) so_far.has) in
    omega (arith, more, given.within, l.invariant.0, ap (λ (k : Kept). k.count) stays)

pub loop-part-preserved : goal.loop-part-preserved
loop-part-preserved c =
    let b = c.args.octets.now in
    let l = c.loop-part-2 in
    let so_far = l.invariant.1 in
    let stays = c.in_default.ensures.none in
    let part = c.in-Some-2.part in
    let more = subst (λ (n : Option PlacedPart).
    IfSome n (λ _. c.next_short.new.self.count < c.next_part.new.self.count))
    c.in-Some-2.is c.in_ok-part.ensures.more in
    one-more c.args.max b c.args.out.now l.walk c.next_part.new.self l.out c.put_at-in-Some-2.new.out l.count part
    so_far
    (c.in_ok-part.ensures.limit ∙ ap (λ (k : Kept). k.max) stays)
    (omega (arith, more, ap (λ (k : Kept). k.count) stays))
    (subst (λ (n : Option PlacedPart). HasGiven b c.next_part.new.self (so_far.given ++ given_by (Ok n))) c.in-Some-2.is
    (c.in_ok-part.ensures.given so_far.given (subst (λ (k : Kept). HasGiven b k so_far.given) (sym stays) so_far.has)))
    (c.put_at-in-Some-2.ensures (map part_shown so_far.given) c.args.out.now so_far.number so_far.array)
