-- How many objects are open: as many as there are kept places after the octets that came.
use Rattle.std.proofs.Common.{◌≡◌, ℕ, ◌+◌, ◌<◌, ◌≤◌, List, [], ◌∷◌, ◌++◌, length, take, refl, sym, ap, subst, ◌∙◌, inl, inr, arith, zero, suc, cond, Bool, nat_lt}
use Rattle.std.specs.Prelude.{count_by, slice_index}
use Rattle.std.specs.List.{prefix_len}
use borrow.Author.Tests.{lt-ltb, le-ltb}
use Rattle.std.proofs.lemmas.Bool.{cases_lt}
use Rattle.std.proofs.lemmas.List.{length-take, take-take, get_or-take}
use Rattle.std.proofs.lemmas.List.Sums.{sum_by-cons, prefix_len-le-length}
use Rattle.tlv_core.specs.Open.{AreEnds, AreFrom, AreNested, AreReached, AreUpTo, open_after, rooms_to}
use Rattle.tlv_core.specs.Steps.{entered}
use Rattle.tlv_core.proofs.Ends.{kept, same_rooms, ends-all, rooms-push, open-more, open-last}

-- so many of the places are after these octets
abbrev after : ℕ → List ℕ → ℕ
after count places = count_by (λ place. nat_lt count place) places

after-more : (count e : ℕ) (places : List ℕ) → count < e → after count (e ∷ places) ≡ suc (after count places)
after-more count e places lt =
    sum_by-cons (λ place. cond (nat_lt count place) 1 0) e places
    ∙ ap (λ (b : Bool). cond b 1 0 + after count places) (lt-ltb count e lt) ∙ omega arith

after-not : (count e : ℕ) (places : List ℕ) → e ≤ count → after count (e ∷ places) ≡ after count places
after-not count e places le =
    sum_by-cons (λ place. cond (nat_lt count place) 1 0) e places
    ∙ ap (λ (b : Bool). cond b 1 0 + after count places) (le-ltb count e le) ∙ omega arith

none_after : (count : ℕ) (places : List ℕ) → AreReached count 0 places → after count places ≡ 0
none_after count [] h = refl
none_after count (e ∷ places) h = after-not count e places (h 0 (omega arith))
    ∙ none_after count places (λ i le. h (suc i) (omega arith))

-- an outer end that is reached leaves none after it
all_reached : (count n e : ℕ) (places : List ℕ) → AreNested (e ∷ take n places) → AreReached count n places → e ≤ count
    → AreReached count 0 (e ∷ places)
all_reached count n e places nested h le zero some = le
all_reached count n e [] nested h le (suc i) some = omega arith
all_reached count zero e (f ∷ places) nested h le (suc i) some = h i (omega arith)
all_reached count (suc n) e (f ∷ places) nested h le (suc i) some =
    all_reached count n f places (λ i lt. nested (suc i) (omega arith)) (λ i le. h (suc i) (omega arith))
    (omega (arith, nested 0 (omega arith), le)) i (omega arith)

-- as many places are after the octets as objects are open then
number_open : (count n : ℕ) (places : List ℕ) → AreNested (take n places) → AreReached count n places
    → after count places ≡ length (open_after count (take n places))
number_open count zero places nested h = none_after count places h
number_open count (suc n) [] nested h = refl
number_open count (suc n) (e ∷ places) nested h =
    elim (cases_lt count e) [
      | inl lt ↦ after-more count e places lt
          ∙ ap suc (number_open count n places (λ i lt. nested (suc i) (omega arith)) (λ i le. h (suc i) (omega arith)))
          ∙ sym (ap length (open-more count e (take n places) lt))
      | inr le ↦ none_after count (e ∷ places)
          (all_reached count n e places nested (λ i le. h (suc i) (omega arith)) le)
          ∙ sym (ap length (open-last count e (take n places) le))
    ]

-- those at the front are theirs
front_open : (count n k : ℕ) (places : List ℕ) → k ≡ length (open_after count (take n places))
    → take k places ≡ open_after count (take n places)
front_open count n k places e =
    let m = prefix_len (λ end. nat_lt count end) (take n places) in
    let most = prefix_len-le-length (λ end. nat_lt count end) (take n places) in
    let same : k ≡ m = omega (arith, e, length-take m (take n places), most) in
    ap (λ (j : ℕ). take j places) same ∙ sym (take-take m n places (omega (arith, most, length-take n places)))

-- and none of the others is after the octets
rest_reached : (count n : ℕ) (places : List ℕ) → AreNested (take n places) → AreReached count n places
    → AreReached count (after count places) places
rest_reached count zero places nested h i le = h i (omega arith)
rest_reached count (suc n) [] nested h i le = omega arith
rest_reached count (suc n) (e ∷ places) nested h zero le =
    elim (cases_lt count e) [
      | inl lt ↦ absurd (omega (arith, le, after-more count e places lt))
      | inr ge ↦ ge
    ]
rest_reached count (suc n) (e ∷ places) nested h (suc i) le =
    elim (cases_lt count e) [
      | inl lt ↦ rest_reached count n places (λ j lt. nested (suc j) (omega arith)) (λ j le. h (suc j) (omega arith)) i
          (omega (arith, le, after-more count e places lt))
      | inr ge ↦ all_reached count n e places nested (λ j le. h (suc j) (omega arith)) ge (suc i) (omega arith)
    ]

-- ---- what a count gives

-- the first k places are those at which objects are open after these octets
pub record Counted (count k : ℕ) (places ends : List ℕ) : Type 0 where
  pub front : take k places ≡ open_after count ends
  pub number : k ≡ length (open_after count ends)
  pub reached : AreReached count k places

-- as many as there are after the octets, of places that begin with these ends
pub counted : (count n k : ℕ) (places ends : List ℕ) → take n places ≡ ends → AreNested ends
    → AreReached count n places → k ≡ count_by (λ place. nat_lt count place) places → Counted count k places ends
counted count n k places ends begins nested h is =
    let inner : AreNested (take n places) = subst AreNested (sym begins) nested in
    let same : open_after count (take n places) ≡ open_after count ends = ap (open_after count) begins in
    let number : k ≡ length (open_after count (take n places)) = is ∙ number_open count n places inner h in
    record {
      front = front_open count n k places number ∙ same;
      number = number ∙ ap length same;
      reached = subst (λ (j : ℕ). AreReached count j places) (sym is) (rest_reached count n places inner h);
    }

-- a last place that isn't after the octets doesn't count
pub but_last : (count n : ℕ) (places : List ℕ) → length places ≡ suc n → slice_index places n ≤ count
    → count_by (λ place. nat_lt count place) (take n places) ≡ count_by (λ place. nat_lt count place) places
but_last count n [] len h = absurd (omega (arith, len))
but_last count zero (e ∷ []) len h = sym (after-not count e [] h)
but_last count zero (e ∷ f ∷ places) len h = absurd (omega (arith, len))
but_last count (suc n) (e ∷ places) len h =
    elim (cases_lt count e) [
      | inl lt ↦ after-more count e (take n places) lt
          ∙ ap suc (but_last count n places (omega (arith, len)) h)
          ∙ sym (after-more count e places lt)
      | inr le ↦ after-not count e (take n places) le
          ∙ but_last count n places (omega (arith, len)) h
          ∙ sym (after-not count e places le)
    ]

-- ---- one end more

-- an end that is after these octets, and no later than any other, is that of one object more that is open
pub open_pushed : (place e : ℕ) (ends : List ℕ) → AreFrom e ends → place < e
    → open_after place (ends ++ e ∷ []) ≡ open_after place ends ++ e ∷ []
open_pushed place e [] from lt = open-more place e [] lt
open_pushed place e (f ∷ ends) from lt =
    let later : place < f = omega (arith, from 0 (omega arith), lt) in
    open-more place f (ends ++ e ∷ []) later
    ∙ ap (λ (l : List ℕ). f ∷ l) (open_pushed place e ends (λ i inside. from (suc i) (omega arith)) lt)
    ∙ ap (λ (l : List ℕ). l ++ e ∷ []) (sym (open-more place f ends later))

-- one that is reached is none
pub open_reached : (place e : ℕ) (ends : List ℕ) → e ≤ place
    → open_after place (ends ++ e ∷ []) ≡ open_after place ends
open_reached place e [] le = open-last place e [] le
open_reached place e (f ∷ ends) le =
    elim (cases_lt place f) [
      | inl lt ↦ open-more place f (ends ++ e ∷ []) lt
          ∙ ap (λ (l : List ℕ). f ∷ l) (open_reached place e ends le)
          ∙ sym (open-more place f ends lt)
      | inr ge ↦ open-last place f (ends ++ e ∷ []) ge ∙ sym (open-last place f ends ge)
    ]

-- so it needs no place among those that are counted
pub counted_reached : (count n k e : ℕ) (places ends : List ℕ) → take n places ≡ ends → AreNested ends
    → AreReached count n places → e ≤ count → k ≡ count_by (λ place. nat_lt count place) places
    → Counted count k places (ends ++ e ∷ [])
counted_reached count n k e places ends begins nested h le is =
    let inner = counted count n k places ends begins nested h is in
    let same = sym (open_reached count e ends le) in
    record {
      front = inner.front ∙ same;
      number = inner.number ∙ ap length same;
      reached = inner.reached;
    }

-- where an object is entered that is not empty, its end is one more
pub same_entered : (max count left limit place n bit : ℕ) (h ends now : List ℕ) → limit ≡ max → place ≡ count + 0
    → now ≡ open_after (count + 0) (ends ++ (count + n) ∷ []) → AreEnds max count ends → AreFrom (count + n) ends
    → 0 < n → bit ≡ 1
    → kept limit place (rooms_to place now) h left ≡ entered (kept max count (rooms_to count ends) h left) n bit
same_entered max count left limit place zero bit h ends now limit_is place_is is ahead from some one =
    absurd (omega arith)
same_entered max count left limit place (suc n) zero h ends now limit_is place_is is ahead from some one =
    absurd (omega arith)
same_entered max count left limit place (suc n) (suc bit) h ends now limit_is place_is is ahead from some one =
    let none : count + 0 ≡ count = omega arith in
    let e = count + suc n in
    let all : now ≡ ends ++ e ∷ [] = is ∙ ap (λ (p : ℕ). open_after p (ends ++ e ∷ [])) none
    ∙ open_pushed count e ends from (omega arith) ∙ ap (λ (l : List ℕ). l ++ e ∷ []) (ends-all max count ends ahead) in
    ap (λ (m : ℕ). kept m place (rooms_to place now) h left) limit_is
    ∙ ap (λ (p : ℕ). kept max p (rooms_to p now) h left) (place_is ∙ none)
    ∙ same_rooms max count left h (rooms_to count now) (rooms_to count ends ++ suc n ∷ [])
    (ap (rooms_to count) all ∙ rooms-push count (suc n) ends)

-- no kept place is after the limit: an open object ends within it, and the other places aren't after the octets
pub kept_up_to : (max count n : ℕ) (places : List ℕ) → n ≤ length places → AreEnds max count (take n places)
    → AreReached count n places → count ≤ max → AreUpTo max places
kept_up_to max count n places most ends h within i =
    elim (cases_lt i n) [
      | inl lt ↦ omega (
        arith,
        ends i (omega (arith, lt, most, length-take n places)),
        get_or-take n places i 0 lt,
      )
      | inr le ↦ omega (arith, h i le, within)
    ]
