-- Known values by the octets of their tags: what a map of them has.
use Rattle.std.proofs.Common.{◌≡◌, ℕ, ◌+◌, ◌<◌, ◌≤◌, List, [], ◌∷◌, ◌++◌, length, take, get_or, refl, sym, ap, ◌∙◌, inl, inr, arith, zero, suc, cond, Bool, true, false}
use Rattle.std.specs.Prelude.{Option, Some, None, bytes_eq, slice_get}
use Rattle.std.specs.Option.{option_copied}
use Rattle.std.specs.Ordering.{nat_cmp, is_eq}
use Rattle.std.specs.Cmp.Lexicographic.{slice_cmp}
use Rattle.std.specs.BTreeMap.{BTreeMap, get, is_at, IsEmpty, Updates}
use Rattle.std.specs.Map.{lookup}
use Rattle.std.proofs.lemmas.List.{take_more, take_all}
use Rattle.std.proofs.lemmas.Cmp.{same_from_slice_cmp, nat_list_eq_equiv}
use Rattle.std.proofs.lemmas.Bool.{cases_lt}
use Rattle.std.proofs.lemmas.Bool.Decides.{nat_tests}
use Rattle.std.proofs.lemmas.Slice.Eq.{bytes_eq-Decides}
use denote.Bor.{Bor}
use Rattle.tlv_core.specs.declared.known.Known.{Known}
use Rattle.tlv_core.specs.Fill.{known_for, HasDuplicate}
use Rattle.tlv_core.specs.ByTag.{tag_cmp, HasAll}
use Rattle.tlv_core.proofs.Knowns.{found_at, none_at, get_at}

abbrev Placed : Type 0
Placed = BTreeMap (Bor (List ℕ)) (Bor Known)

-- two tags are one where the order of the map doesn't tell them apart
tied : (a b : List ℕ) → is_eq (slice_cmp nat_cmp a b) ≡ bytes_eq a b
tied a b = same_from_slice_cmp nat_cmp is_eq bytes_eq refl (λ _ _. refl) (λ _ _. refl)
    (λ x y xs ys o h. grind (arith, nat_tests)) a b (slice_cmp nat_cmp a b) refl

push_behind : (t : Bool) (y : Known) (o more r : Option Known) → cond t (Some y) o ≡ None → (o ≡ None → more ≡ r)
    → cond t (Some y) more ≡ r
push_behind true y o more r none rest = cc
push_behind false y o more r none rest = rest none

-- a value after those of which none has the tag
none_push : (tag : List ℕ) (xs : List Known) (x : Known) → known_for tag xs ≡ None
    → known_for tag (xs ++ x ∷ []) ≡ cond (bytes_eq tag x.tag) (Some x) None
none_push tag [] x none = refl
none_push tag (y ∷ xs) x none = push_behind (bytes_eq tag y.tag) y (known_for tag xs) (known_for tag (xs ++ x ∷ []))
    (cond (bytes_eq tag x.tag) (Some x) None) none (none_push tag xs x)

-- a value with another tag changes nothing
apart_push : (tag : List ℕ) (xs : List Known) (x : Known) → bytes_eq tag x.tag ≡ false
    → known_for tag (xs ++ x ∷ []) ≡ known_for tag xs
apart_push tag [] x other = ap (λ (t : Bool). cond t (Some x) None) other
apart_push tag (y ∷ xs) x other = ap (cond (bytes_eq tag y.tag) (Some y)) (apart_push tag xs x other)

other_tag : (a b c : List ℕ) → bytes_eq a b ≡ false → a ≡ c → bytes_eq b c ≡ false
other_tag a b c other e = ap (bytes_eq b) (sym e) ∙ nat_list_eq_equiv.symm b a ∙ other

-- the first i + 1 values are the first i and the one at place i
pub more_known : (xs : List Known) (i : ℕ) (x : Known) → i < length xs → x ≡ get_or xs i x → take (i + 1) xs ≡ take i xs
    ++ x ∷ []
more_known xs i x lt is = take_more xs i x lt ∙ ap (λ (y : Known). take i xs ++ y ∷ []) (sym is)

get_before : (xs : List Known) (n j : ℕ) → j < n → slice_get (take n xs) j ≡ slice_get xs j
get_before xs zero j lt = absurd (omega arith)
get_before [] (suc n) j lt = refl
get_before (y ∷ xs) (suc n) zero lt = refl
get_before (y ∷ xs) (suc n) (suc j) lt = get_before xs n j (omega arith)

take_upto : (xs : List Known) (n j : ℕ) → j < length (take n xs) → j < n
take_upto xs zero j lt = absurd (omega arith)
take_upto [] (suc n) j lt = absurd (omega arith)
take_upto (y ∷ xs) (suc n) zero lt = omega arith
take_upto (y ∷ xs) (suc n) (suc j) lt = omega (arith, take_upto xs n j (omega (arith, lt)))

-- ---- the map

-- an empty map has all of no values
pub none_placed : (placed : Placed) → IsEmpty placed → HasAll [] placed
none_placed placed empty tag = ap (λ (es : List (Bor (List ℕ) × Bor Known)).
    option_copied (lookup (is_at (tag_cmp tag)) es)) empty

module _ (xs : List Known) (old : Placed) (k : Bor (List ℕ)) (x : Known) (has : HasAll xs old)
    (none : get tag_cmp old k ≡ None) (key : k.now ≡ x.tag) where
  added_at : (v : Bor Known) → v.now ≡ x → (q : Bor (List ℕ)) (t : Bool) → is_eq (slice_cmp nat_cmp k.now q.now) ≡ t
      → option_copied (cond t (Some v) (get tag_cmp old q)) ≡ known_for q.now (xs ++ x ∷ [])
  added_at v value q true b =
      let e : k.now ≡ q.now = (bytes_eq-Decides k.now q.now).0 (sym (tied k.now q.now) ∙ b) in
      let before : known_for q.now xs ≡ None =
      ap (λ (l : List ℕ). known_for l xs) (sym e) ∙ sym (has k) ∙ ap option_copied none in
      ap Some value ∙ sym (none_push q.now xs x before
      ∙ ap (λ (t : Bool). cond t (Some x) None) ((bytes_eq-Decides q.now x.tag).1 (sym e ∙ key)))
  added_at v value q false b = has q ∙ sym
      (apart_push q.now xs x (other_tag k.now q.now x.tag (sym (tied k.now q.now) ∙ b) key))

  -- with the value put under its tag, where the map had none, the map has one value more
  pub added : (now : Placed) {v : Bor Known} → Updates tag_cmp old now k (Some v) → v.now ≡ x
      → HasAll (xs ++ x ∷ []) now
  added now {v} up value q = ap option_copied (up.0 q) ∙ added_at v value q (is_at (tag_cmp k) q) refl

-- ---- whether a tag comes twice

-- none of the first n values has the tag of one before it
abbrev pub Once : List Known → ℕ → Type 0
Once known n = (j : ℕ) (l : Known) → j < n → slice_get known j ≡ Some l → known_for l.tag (take j known) ≡ None

-- with the value at place n, where none before it has its tag, the first n + 1 are so too
pub once_more : (known : List Known) (n : ℕ) (x : Known) → n < length known → x ≡ get_or known n x
    → known_for x.tag (take n known) ≡ None → Once known n → Once known (n + 1)
once_more known n x lt is none once j l less g =
    elim (cases_lt j n) [
      | inl h ↦ once j l h g
      | inr h ↦
          let at : n ≡ j = omega arith in
          let some : Some x ≡ Some l = sym (get_at known n x lt is) ∙ ap (slice_get known) at ∙ g in
          let same : x ≡ l = cc in
          sym (ap (λ (i : ℕ). known_for l.tag (take i known)) at)
          ∙ sym (ap (λ (y : Known). known_for y.tag (take n known)) same) ∙ none
    ]

-- where all values are so, no tag comes twice
pub never : (known : List Known) (n : ℕ) → length known ≤ n → Once known n → HasDuplicate known → ⊥
never known n le once (i, j, less, inside, k, l, gk, gl, same) =
    none_at l.tag (take j known) i k (once j l (omega arith) gl) (get_before known j i less ∙ gk) (sym same)

-- where one before the value at place n has its tag, a tag comes twice
pub again : (known : List Known) (n : ℕ) (x l : Known) → n < length known → x ≡ get_or known n x
    → known_for x.tag (take n known) ≡ Some l → HasDuplicate known
again known n x l lt is some =
    let f = found_at x.tag (take n known) l some in
    let less : f.place < n = take_upto known n f.place f.inside in
    (f.place, n, less, lt, l, x, sym (get_before known n f.place less) ∙ f.is, get_at known n x lt is, sym f.same)

-- a map that has the first n values has all, where there are no more
pub all_placed : (known : List Known) (n : ℕ) (placed : Placed) → length known ≤ n → HasAll (take n known) placed
    → HasAll known placed
all_placed known n placed le has tag = has tag ∙ ap (known_for tag.now) (take_all n known le)
