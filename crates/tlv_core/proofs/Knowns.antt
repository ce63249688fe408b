-- Known values by tag.
use Rattle.std.proofs.Common.{◌≡◌, ℕ, ◌+◌, ◌-◌, ◌<◌, ◌≤◌, List, [], ◌∷◌, ◌++◌, length, take, drop, get_or, refl, sym, ap, ◌∙◌, inl, inr, arith, zero, suc, cond, Bool, true, false, append-nil, append_assoc}
use Rattle.std.specs.Prelude.{Option, Some, None, bytes_eq, slice_get, is_some}
use Rattle.std.specs.Option.{option_copied}
use denote.Bor.{Bor}
use Rattle.std.proofs.lemmas.List.{take_all, length-drop}
use Rattle.std.proofs.lemmas.Bool.{cases_lt, false≢true}
use Rattle.std.proofs.lemmas.Slice.Eq.{bytes_eq-Decides}
use Rattle.tlv_core.specs.declared.known.Known.{Known}
use Rattle.tlv_core.specs.Fill.{known_for, entry_part, filled, HasDuplicate}
use Rattle.tlv_core.proofs.Entries.{Entry}
use Rattle.tlv_core.proofs.Listing.{more_entries}

same_yes : (a b : List ℕ) → a ≡ b → bytes_eq a b ≡ true
same_yes a b e = (bytes_eq-Decides a b).1 e

-- there is a value at each place inside, and this is it
pub get_at : (xs : List Known) (i : ℕ) (x : Known) → i < length xs → x ≡ get_or xs i x → slice_get xs i ≡ Some x
get_at [] i x lt e = absurd (omega arith)
get_at (y ∷ xs) zero x lt e = ap Some (sym e)
get_at (y ∷ xs) (suc i) x lt e = get_at xs i x (omega arith) e

-- what is at place j after the first n values is at place n + j
pub get_behind : (xs : List Known) (n j : ℕ) → slice_get (drop n xs) j ≡ slice_get xs (n + j)
get_behind xs zero j = let e : j ≡ zero + j = omega arith in ap (slice_get xs) e
get_behind [] (suc n) j = refl
get_behind (y ∷ xs) (suc n) j = let e : suc (n + j) ≡ suc n + j =
    omega arith in get_behind xs n j ∙ ap (slice_get (y ∷ xs)) e

-- where a known value stands
pub record Found (tag : List ℕ) (xs : List Known) (l : Known) : Type 0 where
  pub place : ℕ
  pub inside : place < length xs
  pub is : slice_get xs place ≡ Some l
  pub same : tag ≡ l.tag

found_behind : (tag : List ℕ) (x : Known) (xs : List Known) (l : Known) → Found tag xs l → Found tag (x ∷ xs) l
found_behind tag x xs l f = record { place = suc f.place; inside = omega (arith, f.inside); is = f.is; same = f.same }

found_in : (tag : List ℕ) (x : Known) (xs : List Known) (l : Known) (t : Bool) → bytes_eq tag x.tag ≡ t
    → (known_for tag xs ≡ Some l → Found tag xs l) → cond t (Some x) (known_for tag xs) ≡ Some l → Found tag (x ∷ xs) l
found_in tag x xs l true b rest e = let same : x ≡ l =
    cc in record {
      place = 0;
      inside = omega arith;
      is = e;
      same =
          (bytes_eq-Decides tag x.tag).0 b ∙ ap (λ (k : Known). k.tag) same;
    }
found_in tag x xs l false b rest e = found_behind tag x xs l (rest e)

-- the known value for a tag is at some place, and has that tag
pub found_at : (tag : List ℕ) (xs : List Known) (l : Known) → known_for tag xs ≡ Some l → Found tag xs l
found_at tag [] l e = cc
found_at tag (x ∷ xs) l e = found_in tag x xs l (bytes_eq tag x.tag) refl (found_at tag xs l) e

none_tail : (tag : List ℕ) (x : Known) (t : Bool) (o : Option Known) → cond t (Some x) o ≡ None → (t ≡ false)
    × (o ≡ None)
none_tail tag x true o e = cc
none_tail tag x false o e = (refl, e)

-- where there is none, no value has the tag
pub none_at : (tag : List ℕ) (xs : List Known) (j : ℕ) (l : Known) → known_for tag xs ≡ None → slice_get xs j ≡ Some l
    → tag ≡ l.tag → ⊥
none_at tag [] j l n g same = cc
none_at tag (x ∷ xs) zero l n g same =
    let first : x ≡ l = cc in
    false≢true (sym (none_tail tag x (bytes_eq tag x.tag) (known_for tag xs) n).0
    ∙ same_yes tag x.tag (same ∙ ap (λ (k : Known). k.tag) (sym first)))
none_at tag (x ∷ xs) (suc j) l n g same =
    none_at tag xs j l (none_tail tag x (bytes_eq tag x.tag) (known_for tag xs) n).1 g same

some_of : (o : Option Known) → is_some o ≡ true → (l : Known) × (o ≡ Some l)
some_of None e = cc
some_of (Some l) e = (l, refl)

none_of : (o : Option Known) → is_some o ≡ false → o ≡ None
none_of None e = refl
none_of (Some l) e = cc

behind : (xs : List Known) (n j : ℕ) → j < length (drop n xs) → n + j < length xs
behind xs zero j lt = omega arith
behind [] (suc n) j lt = absurd (omega arith)
behind (x ∷ xs) (suc n) j lt = omega (arith, behind xs n j lt)

-- a value with the tag of the one at a place is after it
pub twice : (known : List Known) (place : ℕ) (x : Known) → place < length known → x ≡ get_or known place x
    → is_some (known_for x.tag (drop (place + 1) known)) ≡ true → HasDuplicate known
twice known place x lt e some =
    let l = some_of (known_for x.tag (drop (place + 1) known)) some in
    let f = found_at x.tag (drop (place + 1) known) l.0 l.1 in
    let j = place + 1 + f.place in
    let inside : j < length known = behind known (place + 1) f.place f.inside in (
      place,
      j,
      omega arith,
      inside,
      x,
      l.0,
      get_at known place x lt e,
      sym (get_behind known (place + 1) f.place)
          ∙ f.is,
      f.same,
    )

-- where the tag of the value at a place doesn't come after it, no tag up to there comes again
pub once_more : (known : List Known) (place : ℕ) (x : Known) → place < length known → x ≡ get_or known place x
    → is_some (known_for x.tag (drop (place + 1) known)) ≡ false
    → ((i : ℕ) (k : Known) → i < place → slice_get known i ≡ Some k → known_for k.tag (drop (i + 1) known) ≡ None)
    → (i : ℕ) (k : Known) → i < place + 1 → slice_get known i ≡ Some k → known_for k.tag (drop (i + 1) known) ≡ None
once_more known place x lt e none before i k less g =
    elim (cases_lt i place) [
      | inl h ↦ before i k h g
      | inr h ↦
          let at : place ≡ i = omega arith in
          let some : Some x ≡ Some k = sym (get_at known place x lt e) ∙ ap (slice_get known) at ∙ g in
          let same : x ≡ k = cc in
          sym (ap (λ (n : ℕ). known_for k.tag (drop (n + 1) known)) at)
          ∙ sym (ap (λ (y : Known). known_for y.tag (drop (place + 1) known)) same)
          ∙ none_of (known_for x.tag (drop (place + 1) known)) none
    ]

-- where none of all the tags comes again, no tag comes twice
pub never_twice : (known : List Known) (n : ℕ) → length known ≤ n
    → ((i : ℕ) (k : Known) → i < n → slice_get known i ≡ Some k → known_for k.tag (drop (i + 1) known) ≡ None)
    → HasDuplicate known → ⊥
never_twice known n le once (i, j, less, inside, k, l, gk, gl, same) =
    let rest : i + 1 + (j - (i + 1)) ≡ j = omega arith in
    none_at k.tag (drop (i + 1) known) (j - (i + 1)) l (once i k (omega arith) gk)
    (get_behind known (i + 1) (j - (i + 1)) ∙ ap (slice_get known) rest ∙ gl) same

-- ---- filling

-- the part of an entry more is put after those of the others
pub filled_append : (known : List Known) (es : List Entry) (e : Entry) → filled known (es ++ e ∷ []) ≡ filled known es
    ++ entry_part known e
filled_append known [] e = append-nil (entry_part known e)
filled_append known (f ∷ es) e = ap (λ (l : List ℕ). entry_part known f ++ l) (filled_append known es e)
    ∙ sym (append_assoc (entry_part known f) (filled known es) (entry_part known e))

-- the part of one entry more comes after what is filled
pub filled_more : (known : List Known) (es : List Entry) (i : ℕ) (e : Entry) (old now : List ℕ) → i < length es
    → e ≡ get_or es i e → old ≡ filled known (take i es) → now ≡ old ++ entry_part known e
    → now ≡ filled known (take (i + 1) es)
filled_more known es i e old now lt is before q =
    q ∙ ap (λ (l : List ℕ). l ++ entry_part known e) before ∙ sym (filled_append known (take i es) e)
    ∙ ap (filled known) (sym (more_entries es i e lt is))

-- ---- the rest of a slice, and what is found there

-- as many values as are left after the first n are all the rest
pub rest_is : (known : List Known) (n : ℕ) → take (length known - n) (drop n known) ≡ drop n known
rest_is known n = take_all (length known - n) (drop n known) (omega (arith, length-drop n known))

-- a copy of an option has a value exactly where the option has
pub copied_some : (o : Option (Bor Known)) → is_some (option_copied o) ≡ is_some o
copied_some None = refl
copied_some (Some k) = refl
