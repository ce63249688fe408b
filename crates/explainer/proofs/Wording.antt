-- The first word that is wrong, and the characters of words.
use Rattle.std.proofs.Common.{◌≡◌, ◌∙◌, ◌<◌, ◌≤◌, ◌+◌, ◌∷◌, ◌++◌, [], ℕ, Bool, true, false, List, String, string_bytes, length, drop, get_or, refl, ap, sym, arith, inl, inr, append_assoc, append-nil}
use Rattle.std.specs.Prelude.{◌||◌, bytes_eq, codes, encode_utf8, if◌then◌else◌, nat_eq, Some, None}
use Rattle.std.specs.Char.{is_ascii_hexdigit}
use Rattle.std.specs.String.{string_len}
use Rattle.std.specs.declared.alloc.Global.{Global}
use Rattle.std.proofs.lemmas.Bool.{cases_lt}
use Rattle.std.proofs.lemmas.Bool.Decides.{eqb_tells, nat_tests}
use Rattle.std.proofs.lemmas.List.{drop_all, drop_more}
use Rattle.std.proofs.lemmas.Slice.Eq.{bytes_eq-Decides}
use Rattle.explainer.specs.Notes.{word_note}
use Rattle.explainer.specs.Places.{nth_word, place_of, places, word_at}
use Rattle.explainer.specs.Words.{build_note, first_note, or_note, shown_character, shown_characters, stray_from, taken_note}
use Rattle.explainer.proofs.Placing.{few-places, place-inside, place-past}

-- ---- one note or another

or-empty : (note other : List ℕ) → length note ≡ 0 → or_note note other ≡ other
or-empty note other e = rw e refl

or-first : (note other : List ℕ) → (length note ≡ 0 → ⊥) → or_note note other ≡ note
or-first [] other some = absurd (some refl)
or-first (x ∷ note) other some = grind (arith, nat_tests)

-- a note that is there is the first
pub said-first : (note : String Global) (first other : List ℕ) (empty : Bool) → empty ≡ false
    → empty ≡ nat_eq (string_len note) 0 → string_bytes note ≡ first → string_bytes note ≡ or_note first other
said-first note first other empty there is same = same ∙ sym (or-first first other some)
  where
    some : length first ≡ 0 → ⊥
    some none = elim (eqb_tells (string_len note) 0) [
      | inl h ↦ let bad : true ≡ false = sym h.0 ∙ sym is ∙ there in absurd cc
      | inr h ↦ h.1 (omega (arith, ap length same, none, note.bytes.ok.0))
    ]

-- or else the other one counts
pub said-later : (note : String Global) (first other : List ℕ) (empty : Bool) → empty ≡ true
    → empty ≡ nat_eq (string_len note) 0 → string_bytes note ≡ first → or_note first other ≡ other
said-later note first other empty gone is same = or-empty first other none
  where
    none : length first ≡ 0
    none = elim (eqb_tells (string_len note) 0) [
      | inl h ↦ omega (arith, h.1, ap length same, note.bytes.ok.0)
      | inr h ↦ let bad : false ≡ true = sym h.0 ∙ sym is ∙ gone in absurd cc
    ]

-- ---- one word after another

module _ (said : ℕ → List ℕ → List ℕ) (words : List (List ℕ)) where
  abbrev pub from-place : ℕ → List ℕ
  from-place nth = first_note said words (drop nth (places words))

  -- there is a word at the place
  pub one-more : (nth place : ℕ) (word : List ℕ) → place ≡ place_of words nth → word ≡ word_at words place
      → place < length words → from-place nth ≡ or_note (said place word) (from-place (nth + 1))
  one-more nth place word at is inside = ap (first_note said words) (drop_more (places words) nth (length words) there)
      ∙ rw (is, at) refl
    where
      there : nth < length (places words)
      there = elim (cases_lt nth (length (places words))) [
        | inl h ↦ h
        | inr h ↦ absurd (omega (arith, place-past words nth h, at, inside))
      ]

  -- or none is left
  pub none-there : (nth : ℕ) → length words ≤ place_of words nth → from-place nth ≡ []
  none-there nth past = ap (first_note said words) (drop_all nth (places words) all)
    where
      all : length (places words) ≤ nth
      all = elim (cases_lt nth (length (places words))) [
        | inl h ↦ absurd (omega (arith, place-inside words nth h))
        | inr h ↦ h
      ]

  pub none-left : (nth : ℕ) → length words ≤ nth → from-place nth ≡ []
  none-left nth past = ap (first_note said words) (drop_all nth (places words) (omega (arith, few-places words)))

-- ---- characters

-- one character more of a word as it is shown
pub one-shown : (text : List ℕ) (n c pushed : ℕ) (old new : List ℕ) → (n < length text) × (c ≡ get_or text n c)
    → pushed ≡ shown_character c → new ≡ old ++ encode_utf8 pushed
    → old ++ shown_characters (drop n text) ≡ new ++ shown_characters (drop (n + 1) text)
one-shown text n c pushed old new at same more =
    ap (λ (l : List ℕ). old ++ shown_characters l) (drop_more text n c at.0)
    ∙ ap (λ (x : ℕ). old ++ (encode_utf8 (shown_character x) ++ shown_characters (drop (n + 1) text))) (sym at.1)
    ∙ ap (λ (x : ℕ). old ++ (encode_utf8 x ++ shown_characters (drop (n + 1) text))) (sym same)
    ∙ sym (append_assoc old (encode_utf8 pushed) (shown_characters (drop (n + 1) text)))
    ∙ ap (λ (l : List ℕ). l ++ shown_characters (drop (n + 1) text)) (sym more)

pub all-shown : (text : List ℕ) (n : ℕ) (old : List ℕ) → n ≡ length text
    → old ++ shown_characters (drop n text) ≡ old
all-shown text n old e = ap (λ (l : List ℕ). old ++ shown_characters l) (drop_all n text (omega (arith, e)))
    ∙ append-nil old

-- the first character that is no digit
pub one-digit : (text : List ℕ) (n c place : ℕ) → (n < length text) × (c ≡ get_or text n c) → is_ascii_hexdigit c ≡ true
    → stray_from place (drop n text) ≡ stray_from (place + 1) (drop (n + 1) text)
one-digit text n c place at digit = ap (stray_from place) (drop_more text n c at.0)
    ∙ rw (ap is_ascii_hexdigit (sym at.1) ∙ digit) refl

pub no-digit : (text : List ℕ) (n c place : ℕ) → (n < length text) × (c ≡ get_or text n c)
    → is_ascii_hexdigit c ≡ false → stray_from place (drop n text) ≡ Some (place, c)
no-digit text n c place at other = ap (stray_from place) (drop_more text n c at.0)
    ∙ rw (ap is_ascii_hexdigit (sym at.1) ∙ other) (ap (λ (x : ℕ). Some (place, x)) (sym at.1))

pub all-digits : (text : List ℕ) (n place : ℕ) → n ≡ length text → stray_from place (drop n text) ≡ None
all-digits text n place e = ap (stray_from place) (drop_all n text (omega (arith, e)))

-- ---- one of several words

pub differs : (a b : List ℕ) → (a ≡ b → ⊥) → bytes_eq a b ≡ false
differs a b other = go (bytes_eq a b) refl
  where
    go : (t : Bool) → bytes_eq a b ≡ t → bytes_eq a b ≡ false
    go true e = absurd (other ((bytes_eq-Decides a b).0 e))
    go false e = e

neither : (x y : Bool) → x ≡ false → y ≡ false → x || y ≡ false
neither x y e f = rw (e, f) refl

pub first-of-two : (a b : List ℕ) (x : Bool) → x ≡ true → (if x then a else b) ≡ a
first-of-two a b x e = rw e refl

pub second-of-three : (a b c : List ℕ) (x y : Bool) → x ≡ false → y ≡ true
    → (if x then a else (if y then b else c)) ≡ b
second-of-three a b c x y e f = rw (e, f) refl

pub third-of-three : (a b c : List ℕ) (x y : Bool) → x ≡ false → y ≡ false
    → (if x then a else (if y then b else c)) ≡ c
third-of-three a b c x y e f = rw (e, f) refl

last-of-four : (a b c d : List ℕ) (x y z : Bool) → x ≡ false → y ≡ false → z ≡ false
    → (if x then a else (if y then b else (if z then c else d))) ≡ d
last-of-four a b c d x y z e f g = rw (e, f, g) refl

last-of-seven : (a b c d e f g : List ℕ) (u v w x y z : Bool) → u ≡ false → v ≡ false → w ≡ false → x ≡ false
    → y ≡ false → z ≡ false → (if u then a else (if v then b else (if w then c else (if x then d else
    (if y then e else (if z then f else g)))))) ≡ g
last-of-seven a b c d e f g u v w x y z p q r s t i = rw (p, q, r, s, t, i) refl

-- nothing that is built
pub none-built : (words : List (List ℕ)) (what : List ℕ) → what ≡ nth_word words 0
    → (what ≡ codes "tidy" → ⊥) → (what ≡ codes "chain" → ⊥) → (what ≡ codes "fill" → ⊥)
    → build_note words ≡ word_note (place_of words 0) (codes "WHAT must be chain, tidy or fill")
none-built words what is tidy chain fill = last-of-four _ _ _ _ _ _ _
    (differs (nth_word words 0) (codes "tidy") (λ e. tidy (is ∙ e)))
    (differs (nth_word words 0) (codes "chain") (λ e. chain (is ∙ e)))
    (differs (nth_word words 0) (codes "fill") (λ e. fill (is ∙ e)))

-- no subcommand
pub none-named : (words : List (List ℕ)) (name : List ℕ) → (name ≡ codes "check" → ⊥) → (name ≡ codes "show" → ⊥)
    → (name ≡ codes "build" → ⊥) → (name ≡ codes "replay" → ⊥) → (name ≡ codes "record" → ⊥)
    → (name ≡ codes "judge" → ⊥) → (name ≡ codes "simulate" → ⊥) → taken_note words name ≡ codes
    "give a subcommand: check, show, build, replay, migrate, apdus, draw, record, judge or simulate\n"
none-named words name check show build replay recorded judge simulate = last-of-seven _ _ _ _ _ _ _ _ _ _ _ _ _
    (neither _ _ (differs name (codes "check") check) (differs name (codes "show") show))
    (differs name (codes "build") build) (differs name (codes "replay") replay) (differs name (codes "record") recorded)
    (differs name (codes "judge") judge) (differs name (codes "simulate") simulate)
