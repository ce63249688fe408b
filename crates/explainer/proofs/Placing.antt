-- Where the words of a command line are, one word more.
use Rattle.std.proofs.Common.{◌≡◌, ◌∙◌, ◌<◌, ◌≤◌, ◌+◌, ◌-◌, ◌∷◌, [], ℕ, zero, suc, Bool, true, false, List, length, drop, get_or, min, refl, ap, sym, arith, inl, inr}
use Rattle.std.specs.Prelude.{bytes_eq, codes, not, if◌then◌else◌}
use Rattle.std.specs.List.{position_or_len, range_with_len}
use Rattle.std.proofs.Math.ListN.{get_or-eq_default}
use Rattle.std.proofs.lemmas.Bool.{cases_lt}
use Rattle.std.proofs.lemmas.List.{drop_more, length-drop}
use Rattle.std.proofs.lemmas.List.Sums.{prefix_len_passes, prefix_len_stops}
use Rattle.std.proofs.lemmas.List.FromFn.{get_or-range_with_len, length-range_with_len}
use Rattle.std.proofs.lemmas.Bool.Decides.{nat_tests}
use Rattle.explainer.specs.Places.{first_place, has_equals, has_next, is_equals, is_flag, is_option, place_of, places, places_from, word_at}

abbrev dashes : List ℕ → Bool
dashes word = bytes_eq word (codes "--")

-- the words that are left begin with the one at the place
pub words-at : (words : List (List ℕ)) (number : ℕ) → number < length words
    → drop number words ≡ word_at words number ∷ drop (number + 1) words
words-at words number inside = drop_more words number [] inside

-- ---- one word more

module _ (words : List (List ℕ)) (number left : ℕ) (is_value : Bool) (inside : number < length words) where
  abbrev nth : ℕ → Bool → ℕ → ℕ
  nth from value count = get_or (places_from from value (drop from words)) count (length words)

  abbrev word : List ℕ
  word = word_at words number

  abbrev rest : List (List ℕ)
  rest = drop (number + 1) words

  begun : nth number is_value left ≡ get_or (places_from number is_value (word ∷ rest)) left (length words)
  begun = ap (λ (l : List (List ℕ)). get_or (places_from number is_value l) left (length words))
      (words-at words number inside)

  pub at-value : dashes word ≡ false → is_value ≡ true → nth number is_value left ≡ nth (number + 1) false left
  at-value other value = begun ∙ rw (other, value) refl

  pub at-option : dashes word ≡ false → is_value ≡ false → is_option word ≡ true
      → nth number is_value left ≡ nth (number + 1) (has_next word) left
  at-option other free option = begun ∙ rw (other, free, option) refl

  pub at-first : dashes word ≡ false → is_value ≡ false → is_option word ≡ false → left ≡ 0
      → nth number is_value left ≡ number
  at-first other free word-alone here = begun ∙ rw (other, free, word-alone, here) refl

  pub at-later : dashes word ≡ false → is_value ≡ false → is_option word ≡ false → (count : ℕ) → left ≡ suc count
      → nth number is_value left ≡ nth (number + 1) false count
  at-later other free word-alone count more = begun ∙ rw (other, free, word-alone, more) refl

  pub at-end : dashes word ≡ true
      → nth number is_value left ≡ get_or (range_with_len (number + 1) (length rest)) left (length words)
  at-end ends = begun ∙ rw ends refl

-- so many after the next number, or the number past all words
pub counted-on : (number left count past : ℕ) → number + 1 + count ≡ past
    → get_or (range_with_len (number + 1) count) left past ≡ min (number + 1 + left) past
counted-on number left count past is = elim (cases_lt left count) [
  | inl h ↦ get_or-range_with_len (number + 1) count left past h ∙ omega arith
  | inr h ↦ get_or-eq_default (range_with_len (number + 1) count) past
      (rw (length-range_with_len (number + 1) count) h) ∙ omega arith
]

-- ---- all places

-- one of four lists has what each of them has
chosen : (P : List ℕ → Type 0) (a b c d : List ℕ) (x y z : Bool) → P a → P b → P c → P d
    → P (if x then a else (if y then b else (if z then c else d)))
chosen P a b c d true y z pa pb pc pd = pa
chosen P a b c d false true z pa pb pc pd = pb
chosen P a b c d false false true pa pb pc pd = pc
chosen P a b c d false false false pa pb pc pd = pd

-- they are numbers of words
record AreIn (number count : ℕ) (numbers : List ℕ) : Type 0 where
  few : length numbers ≤ count
  each : (i past : ℕ) → i < length numbers → get_or numbers i past < number + count

next-in : (number count : ℕ) (numbers : List ℕ) → AreIn (number + 1) count numbers → AreIn number (suc count) numbers
next-in number count numbers h = record {
  few = omega (arith, h.few);
  each = λ i past l. omega (arith, h.each i past l);
}

first-in : (number count : ℕ) (numbers : List ℕ) → AreIn (number + 1) count numbers
    → AreIn number (suc count) (number ∷ numbers)
first-in number count numbers h = record { few = omega (arith, h.few); each = go }
  where
    go : (i past : ℕ) → i < length (number ∷ numbers) → get_or (number ∷ numbers) i past < number + suc count
    go zero past l = omega arith
    go (suc i) past l = omega (arith, h.each i past (omega (arith, l)))

range-in : (number count : ℕ) → AreIn number (suc count) (range_with_len (number + 1) count)
range-in number count = record {
  few = rw (length-range_with_len (number + 1) count) (omega arith);
  each = λ i past l. let inside : i < count = rw (length-range_with_len (number + 1) count) at l in
      rw (get_or-range_with_len (number + 1) count i past inside) (omega arith);
}

all-in : (number : ℕ) (is_value : Bool) (words : List (List ℕ))
    → AreIn number (length words) (places_from number is_value words)
all-in number is_value [] = record { few = omega arith; each = λ i past l. absurd (omega arith) }
all-in number is_value (word ∷ words) = chosen (AreIn number (length (word ∷ words))) _ _ _ _ (dashes word) is_value
    (is_option word) (range-in number (length words))
    (next-in number (length words) (places_from (number + 1) false words) (all-in (number + 1) false words))
    (next-in number (length words) (places_from (number + 1) (has_next word) words)
    (all-in (number + 1) (has_next word) words))
    (first-in number (length words) (places_from (number + 1) false words) (all-in (number + 1) false words))

module _ (words : List (List ℕ)) where
  inside-all : AreIn (first_place words) (length (drop (first_place words) words)) (places words)
  inside-all = all-in (first_place words) false (drop (first_place words) words)

  -- there are no more places than words
  pub few-places : length (places words) ≤ length words
  few-places = omega (arith, inside-all.few, length-drop (first_place words) words)

  -- there is a word at each of them, and nowhere else
  pub place-inside : (nth : ℕ) → nth < length (places words) → place_of words nth < length words
  place-inside nth l = let h = inside-all.each nth (length words) l in
      omega (arith, h, inside-all.few, length-drop (first_place words) words)

  pub place-past : (nth : ℕ) → length (places words) ≤ nth → place_of words nth ≡ length words
  place-past nth l = get_or-eq_default (places words) (length words) l

-- ---- an equals sign

-- a word has one where it is at some place
pub equals-by : (word : List ℕ) (r : Bool)
    → (r ≡ true → (k : ℕ) × (k < length word) × (get_or word k 0 ≡ 61))
    × ((k : ℕ) → k < length word → get_or word k 0 ≡ 61 → r ≡ true)
    → r ≡ has_equals word
equals-by word true h =
    let at = h.0 refl in
    let stops : position_or_len is_equals word < length word = elim (cases_lt at.0 (position_or_len is_equals word)) [
      | inl before ↦ absurd (let no : not (is_equals (get_or word at.0 0)) ≡ true =
          prefix_len_passes (λ x. not (is_equals x)) word at.0 0 before in
          let yes : is_equals (get_or word at.0 0) ≡ true = rw at.2 refl in
          let bad : false ≡ true = sym (ap not yes) ∙ no in cc)
      | inr after ↦ omega (arith, after, at.1)
    ] in
    grind (arith, nat_tests)
equals-by word false h = elim (cases_lt (position_or_len is_equals word) (length word)) [
  | inl inside ↦
      let stops = prefix_len_stops (λ x. not (is_equals x)) word 0 inside in
      let here : get_or word (position_or_len is_equals word) 0 ≡ 61 = grind (arith, nat_tests) in
      absurd (let bad : false ≡ true = h.1 (position_or_len is_equals word) inside here in cc)
  | inr past ↦ grind (arith, nat_tests)
]

-- whether the next word is the value
pub next-by : (word : List ℕ) (flag equals : Bool) → flag ≡ false → flag ≡ is_flag word → equals ≡ has_equals word
    → not equals ≡ has_next word
next-by word flag equals none is same = rw (sym is ∙ none, sym same) refl
