use Rattle.std.proofs.Common.{◌≡◌, ◌<◌, ◌≤◌, ◌+◌, ◌-◌, ◌++◌, ◌∷◌, [], List, ℕ, take, length, refl, sym, ap, subst, ◌∙◌, inl, inr, nat_lt, lt-ltb, le-ltb, cond, Bool, arith}
use Rattle.std.specs.Prelude.{slice_set, slice_index, count_by}
use Rattle.std.proofs.lemmas.Bool.{cases_lt, cases_eq}
use Rattle.std.proofs.lemmas.List.Sums.{sum_by-set}
use Rattle.std.proofs.lemmas.List.{length-take, length-append, take_more_set, take-set-le, get_or-set_same, get_or-set_other}
use Rattle.tlv_core.specs.declared.open_ends.OpenEnds.{OpenEnds}
use Rattle.tlv_core.specs.Open.{AreEnds, AreNested, AreReached, open_after, rooms_to}
use Rattle.tlv_core.specs.Reasons.{room_of}
use Rattle.tlv_core.specs.OpenEnds.{ends_of}
use Rattle.tlv_core.proofs.Ends.{ends-all, ends-now, ends-push, nested-now, nested-push, from-room, from-less, fewer-now, room-within}
use Rattle.tlv_core.proofs.Counting.{Counted, counted, counted_reached, kept_up_to}
use Rattle.tlv_core.proofs.open_ends.OpenEnds.enter.Goals as goal

-- an object of so many octets fits
abbrev Fits : OpenEnds → ℕ → Type 0
Fits s whole = whole ≤ room_of (s.max - s.count) (rooms_to s.count (ends_of s))

-- the ends with that of the object
abbrev with_end : OpenEnds → ℕ → List ℕ
with_end s whole = ends_of s ++ (s.count + whole) ∷ []

-- it ends within the limit
within : (s : OpenEnds) (whole : ℕ) → Fits s whole → s.count + whole ≤ s.max
within s whole fits = omega (arith, fits, s.within, room-within s.max s.count (ends_of s) s.ahead s.within)

-- and no later than the others
nested : (s : OpenEnds) (whole : ℕ) → Fits s whole → AreNested (with_end s whole)
nested s whole fits =
    nested-push (s.count + whole) (ends_of s) s.nested
    (from-less (s.count + whole) (s.count + room_of (s.max - s.count) (rooms_to s.count (ends_of s))) (ends_of s)
    (omega (arith, fits)) (from-room s.max s.count (s.max - s.count) (ends_of s) s.ahead s.nested))

-- where that goes, and what it is then
record Placed (s : OpenEnds) (whole taken place : ℕ) : Type 0 where
  fits : Fits s whole
  within : taken ≤ whole
  shallow : s.level < 16
  all : length s.places ≡ 17
  opens : taken < whole → place ≡ s.level
  passes : whole ≤ taken → place ≡ 16

placed : (s : OpenEnds) (whole taken place : ℕ) → Fits s whole → taken ≤ whole → length (ends_of s) < 16
    → length s.places ≡ 17 → (taken < whole → place ≡ s.level) → (whole ≤ taken → place ≡ 16)
    → Placed s whole taken place
placed s whole taken place fits within shallow all opens passes = record {
  fits = fits;
  within = within;
  shallow = omega (arith, shallow, all, s.levels, length-take s.level s.places);
  all = all;
  opens = opens;
  passes = passes;
}

-- the places with its end
abbrev with_place : OpenEnds → ℕ → ℕ → List ℕ
with_place s whole place = slice_set s.places place (s.count + whole)

-- where all of it is taken, none of the other places is after the octets
reached_then : (s : OpenEnds) (whole taken place : ℕ) → Placed s whole taken place → whole ≤ taken
    → AreReached (s.count + taken) s.level (with_place s whole place)
reached_then s whole taken place h le i after =
    elim (cases_eq i place) [
      | inl same ↦ omega (
        arith,
        ap (λ (j : ℕ). slice_index (with_place s whole place) j) same,
        get_or-set_same s.places place (s.count + whole) 0 (omega (arith, h.passes le, h.all)),
        le,
      )
      | inr other ↦ omega (
        arith,
        get_or-set_other s.places place i (s.count + whole) 0 other,
        s.reached i after,
      )
    ]

-- after some of its octets
counted_then : (s : OpenEnds) (whole taken place k : ℕ) → Placed s whole taken place
    → k ≡ count_by (λ place. nat_lt (s.count + taken) place) (with_place s whole place)
    → Counted (s.count + taken) k (with_place s whole place) (with_end s whole)
counted_then s whole taken place k h is =
    let e = s.count + whole in
    let now = s.count + taken in
    elim (cases_lt taken whole) [
      | inl lt ↦ subst (λ (p : ℕ). k ≡ count_by (λ place. nat_lt now place) (with_place s whole p)
          → Counted now k (with_place s whole p) (with_end s whole)) (sym (h.opens lt))
          (λ is. counted now (s.level + 1) k (with_place s whole s.level) (with_end s whole)
          (take_more_set s.places s.level e (omega (arith, h.all, h.shallow))) (nested s whole h.fits)
          (λ i le. omega (
            arith,
            s.reached i (omega (arith, le)),
            get_or-set_other s.places s.level i e 0 (λ same. omega (arith, same, le)),
          )) is) is
      | inr le ↦ counted_reached now s.level k e (with_place s whole place) (ends_of s)
          (take-set-le s.level s.places place e (omega (arith, h.passes le, h.shallow))) s.nested
          (reached_then s whole taken place h le) (omega (arith, le)) is
    ]

-- the place is one of those
placed_at : (s : OpenEnds) (whole taken place : ℕ) → Placed s whole taken place → place < length s.places
placed_at s whole taken place h =
    elim (cases_lt taken whole) [
      | inl lt ↦ omega (arith, h.opens lt, h.all, h.shallow)
      | inr le ↦ omega (arith, h.passes le, h.all)
    ]

-- before it is written, that place isn't after the octets
before : (s : OpenEnds) (whole taken place : ℕ) → Placed s whole taken place
    → slice_index s.places place ≤ s.count + taken
before s whole taken place h =
    elim (cases_lt taken whole) [
      | inl lt ↦ omega (arith, s.reached place (omega (arith, h.opens lt)))
      | inr le ↦ omega (arith, s.reached place (omega (arith, h.passes le, h.shallow)))
    ]

-- an end is after the octets if some of the object are still to come
end_after : (count whole taken : ℕ) → nat_lt (count + taken) (count + whole) ≡ nat_lt taken whole
end_after count whole taken =
    elim (cases_lt taken whole) [
      | inl lt ↦ lt-ltb (count + taken) (count + whole) (omega (arith, lt)) ∙ sym (lt-ltb taken whole lt)
      | inr le ↦ le-ltb (count + taken) (count + whole) (omega (arith, le)) ∙ sym (le-ltb taken whole le)
    ]

-- so many places are after the octets with it: those before, and its own if it is open
with_own : (s : OpenEnds) (whole taken place n : ℕ) → Placed s whole taken place
    → n ≡ count_by (λ place. nat_lt (s.count + taken) place) s.places
    → n + cond (nat_lt taken whole) 1 0 ≡ count_by (λ place. nat_lt (s.count + taken) place) (with_place s whole place)
with_own s whole taken place n h is =
    let now = s.count + taken in
    let e = s.count + whole in
    let one : ℕ → ℕ = λ p. cond (nat_lt now p) 1 0 in
    omega (
      arith,
      sum_by-set one s.places place e 0 (placed_at s whole taken place h),
      ap {B = ℕ} (λ (b : Bool). cond b 1 0) (le-ltb now (slice_index s.places place) (before s whole taken place h)),
      ap {B = ℕ} (λ (b : Bool). cond b 1 0) (end_after s.count whole taken),
      is,
    )

-- around an object that is open, each object stays open
all_around : (s : OpenEnds) (whole taken place n : ℕ) → Placed s whole taken place → taken < whole
    → n ≡ count_by (λ place. nat_lt (s.count + taken) place) s.places → n ≡ s.level
all_around s whole taken place n h lt is =
    let now = s.count + taken in
    let yet : AreEnds s.max now (ends_of s) = λ i inside. (
      omega (arith, lt, h.fits, from-room s.max s.count (s.max - s.count) (ends_of s) s.ahead s.nested i inside),
      (s.ahead i inside).1,
    ) in
    let then = counted now s.level n s.places (ends_of s) refl s.nested (λ i le. omega (arith, s.reached i le)) is in
    omega (
      arith,
      then.number,
      ap length (ends-all s.max now (ends_of s) yet),
      length-take s.level s.places,
      h.all,
      s.levels,
    )

-- so many are open then
with_level : (s : OpenEnds) (whole taken place n k : ℕ) → Placed s whole taken place
    → n ≡ count_by (λ place. nat_lt (s.count + taken) place) s.places
    → (taken < whole → k ≡ s.level + 1) → (whole ≤ taken → k ≡ n)
    → k ≡ count_by (λ place. nat_lt (s.count + taken) place) (with_place s whole place)
with_level s whole taken place n k h is opens passes =
    elim (cases_lt taken whole) [
      | inl lt ↦ omega (
        arith,
        opens lt,
        all_around s whole taken place n h lt is,
        with_own s whole taken place n h is,
        ap {B = ℕ} (λ (b : Bool). cond b 1 0) (lt-ltb taken whole lt),
      )
      | inr le ↦ omega (
        arith,
        passes le,
        with_own s whole taken place n h is,
        ap {B = ℕ} (λ (b : Bool). cond b 1 0) (le-ltb taken whole le),
      )
    ]

pub overflow_add-self-2 : goal.overflow_add-self-2
overflow_add-self-2 c = omega (arith, within c.args.self.now c.args.whole c.requires.fits, c.args.self.now.limit)

pub overflow_add-end : goal.overflow_add-end
overflow_add-end c = omega (arith, within c.args.self.now c.args.whole c.requires.fits, c.args.self.now.limit)

pub overflow_cast-end : goal.overflow_cast-end
overflow_cast-end c = omega (arith, within c.args.self.now c.args.whole c.requires.fits, c.args.self.now.limit)

pub number_after-around-requires-clause-count : goal.number_after-around-requires-clause-count
number_after-around-requires-clause-count c =
    let s = c.args.self.now in
    omega (arith, within s c.args.whole c.requires.fits, c.requires.within, s.limit)

pub number_after-around-requires-clause-places : goal.number_after-around-requires-clause-places
number_after-around-requires-clause-places c =
    let s = c.args.self.now in
    λ i. omega (
      arith,
      kept_up_to s.max s.count s.level s.places (omega (arith, s.levels)) s.ahead s.reached s.within i,
      s.limit,
    )

pub number_after-around-requires-clause-spare : goal.number_after-around-requires-clause-spare
number_after-around-requires-clause-spare c =
    let s = c.args.self.now in
    omega (arith, s.reached 16 s.levels)

pub invariant_of-self : goal.invariant_of-self
invariant_of-self c =
    let s = c.args.self.now in
    record {
      limit = s.limit;
      within = omega (arith, within s c.args.whole c.requires.fits, c.requires.within);
      levels = omega arith;
      ahead = λ i lt. absurd (omega (arith, lt));
      nested = λ i lt. absurd (omega (arith, lt));
      reached = λ i le. omega (arith, s.reached i (omega (arith, c.if-self-eq0.true)));
    }

pub invariant_of-self-2 : goal.invariant_of-self-2
invariant_of-self-2 c =
    let s = c.args.self.now in
    let k = c.level_after-self.result in
    let now = s.count + c.args.taken in
    let all : List ℕ = with_end s c.args.whole in
    let places : List ℕ = with_place s c.args.whole c.place_for-place.result in
    let h = placed s c.args.whole c.args.taken c.place_for-place.result c.requires.fits c.requires.within
    c.requires.shallow (omega arith) c.place_for-place.ensures.open c.place_for-place.ensures.taken in
    let is = with_level s c.args.whole c.args.taken c.place_for-place.result c.number_after-around.result
    c.level_after-self.result h c.number_after-around.ensures c.level_after-self.ensures.open
    c.level_after-self.ensures.taken in
    let then = counted_then s c.args.whole c.args.taken c.place_for-place.result k h is in
    let most = within s c.args.whole c.requires.fits in
    record {
      limit = s.limit;
      within = omega (arith, most, c.requires.within);
      levels = omega (
        arith,
        then.number,
        fewer-now (open_after now all) all now refl,
        length-append (ends_of s) ((s.count + c.args.whole) ∷ []),
        c.requires.shallow,
      );
      ahead = ends-now s.max s.count c.args.taken all (take k places)
          (ends-push s.max s.count (s.count + c.args.whole) (ends_of s) s.ahead (omega (arith, c.requires.some)) most)
          then.front;
      nested = nested-now now all (take k places) (nested s c.args.whole c.requires.fits) then.front;
      reached = then.reached;
    }

pub returns-clause-ends : goal.returns-clause-ends
returns-clause-ends c =
    let s = c.args.self.now in
    let h = placed s c.args.whole c.args.taken c.place_for-place.result c.requires.fits c.requires.within
    c.requires.shallow (omega arith) c.place_for-place.ensures.open c.place_for-place.ensures.taken in
    let is = with_level s c.args.whole c.args.taken c.place_for-place.result c.number_after-around.result
    c.level_after-self.result h c.number_after-around.ensures c.level_after-self.ensures.open
    c.level_after-self.ensures.taken in
    (counted_then s c.args.whole c.args.taken c.place_for-place.result
    c.level_after-self.result h is).front
