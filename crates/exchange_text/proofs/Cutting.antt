-- How a text comes apart at the first octet that passes a test.
use Rattle.std.proofs.Common.{◌≡◌, ℕ, ◌+◌, ◌-◌, ◌<◌, List, [], ◌∷◌, length, take, drop, Bool, true, false, Option, Some, None, Err, cond, nat_lt, refl, sym, ap, ◌∙◌, arith, rules}
use Rattle.std.specs.List.{slice_split, position_from, position_or_len, after_first, onto_first}
use Rattle.std.proofs.lemmas.List.Splits.{slice_split_first, slice_split-cons_no, length-slice_split}
use Rattle.std.proofs.lemmas.List.{take_all, length-drop}
use Rattle.exchange_text.specs.Reading.{is_space, no_word, only_word, note_by, note_said, line_said}
use Rattle.exchange_text.specs.Names.{name_of}
use Rattle.exchange_text.specs.declared.name.Name.TheVariants as name
use Rattle.exchange_text.specs.declared.exchange.Version.{Version}
use Rattle.exchange_text.specs.declared.fault.LineFault.TheVariants.{Word}
use Rattle.std.proofs.lemmas.Iterator.Adapters.{position_from-zero}

-- a place is the first that passes
pub record IsCut (t : ℕ → Bool) (xs : List ℕ) (place : ℕ) : Type 0 where
  pub parts : slice_split t xs ≡ take place xs ∷ slice_split t (drop (place + 1) xs)
  pub after : drop (place + 1) xs ≡ after_first t xs

module _ (t : ℕ → Bool) where
  placed : (b : Bool) (n place : ℕ) → cond b (Some n) None ≡ Some place → (b ≡ true) × (n ≡ place)
  placed true n place e = (refl, cc)
  placed false n place e = cc

  passed : (b : Bool) (i : ℕ) (rest : Option ℕ) → cond b (Some i) rest ≡ None → (b ≡ false) × (rest ≡ None)
  passed true i rest e = cc
  passed false i rest e = (refl, e)

  -- the place of the first octet that passes is such a place
  pub is-cut : (xs : List ℕ) (place : ℕ) → position_from t 0 xs ≡ Some place → IsCut t xs place
  is-cut xs place e =
      let p = placed (nat_lt (position_or_len t xs) (length xs)) (position_or_len t xs) place
      (position_from-zero t xs ∙ e) in
      let inside : position_or_len t xs < length xs = search (rules, p.0) in
      rw (sym p.1) (record { parts = slice_split_first t xs 0 inside; after = refl })

  more : (i : ℕ) (xs : List ℕ) → position_from t i xs ≡ None → slice_split t xs ≡ xs ∷ []
  more i [] e = refl
  more i (x ∷ xs) e =
      let p = passed (t x) i (position_from t (i + 1) xs) e in
      slice_split-cons_no t x xs p.0 ∙ ap (onto_first x) (more (i + 1) xs p.1)

  -- where no octet passes, the text is one part
  pub none-cut : (xs : List ℕ) → position_from t 0 xs ≡ None → slice_split t xs ≡ xs ∷ []
  none-cut xs e = more 0 xs e

  -- a text has at least one part
  pub some-words : (xs : List ℕ) → slice_split t xs ≡ [] → ⊥
  some-words xs e =
      let l = length-slice_split t xs in
      let n : length (slice_split t xs) ≡ 0 = ap length e in
      omega arith

not-one : (word : List ℕ) (words : List (List ℕ)) → (words ≡ [] → ⊥) → only_word (word ∷ words) ≡ Err Word
not-one word [] h = absurd (h refl)
not-one word (x ∷ words) h = refl

no-word-of : (words : List (List ℕ)) → (words ≡ [] → ⊥) → no_word words ≡ Err Word
no-word-of [] h = absurd (h refl)
no-word-of (x ∷ words) h = refl

-- after a space there is a word
pub word-after : (rest : List ℕ) → no_word (slice_split is_space rest) ≡ Err Word
word-after rest = no-word-of (slice_split is_space rest) (some-words is_space rest)

-- after the first n come as many as the list has more, and no other
pub all-of : {X : Type 0} (n : ℕ) (xs : List X) → take (length xs - n) (drop n xs) ≡ drop n xs
all-of n xs = take_all (length xs - n) (drop n xs) (omega (arith, length-drop n xs))

-- a line of two words or more isn't one word
pub two-words : (rest after word : List ℕ) → slice_split is_space rest ≡ word ∷ slice_split is_space after
    → only_word (slice_split is_space rest) ≡ Err Word
two-words rest after word e = ap only_word e ∙ not-one word (slice_split is_space after) (some-words is_space after)

noted : (version : Version) (text : List ℕ) (words : List (List ℕ)) → (words ≡ [] → ⊥)
    → note_by version text words ≡ note_said version text
noted version text [] h = absurd (h refl)
noted version text (word ∷ words) h = refl

-- a line whose first word names a note
pub note-line : (version : Version) (line word text : List ℕ)
    → slice_split is_space line ≡ word ∷ slice_split is_space text → text ≡ after_first is_space line
    → name_of word ≡ Some name.Note → note_said version text ≡ line_said version line
note-line version line word text parts after named =
    rw parts (rw named (rw (sym after) (sym
    (noted version text (slice_split is_space text) (some-words is_space text)))))
