-- How a text comes apart at the first octet that passes a test.
use Rattle.std.proofs.Common.{◌≡◌, ℕ, ◌+◌, ◌-◌, ◌<◌, List, [], ◌∷◌, length, take, drop, Bool, true, false, Option, Some, None, cond, nat_lt, refl, sym, ap, ◌∙◌, arith, rules}
use Rattle.std.specs.List.{slice_split, position_from, position_or_len, onto_first}
use Rattle.std.proofs.lemmas.List.Splits.{slice_split_first, slice_split-cons_no}
use Rattle.std.proofs.lemmas.List.{take_all, length-drop}
use Rattle.std.proofs.lemmas.Iterator.Adapters.{position_from-zero}

module _ (t : ℕ → Bool) where
  placed : (b : Bool) (n place : ℕ) → cond b (Some n) None ≡ Some place → (b ≡ true) × (n ≡ place)
  placed true n place e = (refl, cc)
  placed false n place e = cc

  passed : (b : Bool) (i : ℕ) (rest : Option ℕ) → cond b (Some i) rest ≡ None → (b ≡ false) × (rest ≡ None)
  passed true i rest e = cc
  passed false i rest e = (refl, e)

  -- the parts before and after the place of the first octet that passes
  pub is-cut : (xs : List ℕ) (place : ℕ) → position_from t 0 xs ≡ Some place
      → slice_split t xs ≡ take place xs ∷ slice_split t (drop (place + 1) xs)
  is-cut xs place e =
      let p = placed (nat_lt (position_or_len t xs) (length xs)) (position_or_len t xs) place
      (position_from-zero t xs ∙ e) in
      let inside : position_or_len t xs < length xs = search (rules, p.0) in
      rw (sym p.1) (slice_split_first t xs 0 inside)

  more : (i : ℕ) (xs : List ℕ) → position_from t i xs ≡ None → slice_split t xs ≡ xs ∷ []
  more i [] e = refl
  more i (x ∷ xs) e =
      let p = passed (t x) i (position_from t (i + 1) xs) e in
      slice_split-cons_no t x xs p.0 ∙ ap (onto_first x) (more (i + 1) xs p.1)

  -- where no octet passes, the text is one part
  pub none-cut : (xs : List ℕ) → position_from t 0 xs ≡ None → slice_split t xs ≡ xs ∷ []
  none-cut xs e = more 0 xs e

-- after the first n come as many as the list has more, and no other
pub all-of : {X : Type 0} (n : ℕ) (xs : List X) → take (length xs - n) (drop n xs) ≡ drop n xs
all-of n xs = take_all (length xs - n) (drop n xs) (omega (arith, length-drop n xs))
