-- Cutting the notes off gives the text back.
use Rattle.std.proofs.Common.{◌≡◌, ◌≢◌, ◌∙◌, ◌==◌, ◌++◌, ℕ, List, [], ◌∷◌, Bool, true, false, ap, arith, refl, if◌then◌else◌}
use Rattle.std.proofs.lemmas.Bool.Decides.{nat_tests}
use Rattle.std.proofs.lemmas.List.Elements.{All-head, All-tail}
use Rattle.notes.specs.Noted.{IsAdded, IsNote, IsNoted, LacksSign, begins_note, cut_in, note, nothing}

other : (x n : ℕ) → x ≢ n → (x == n) ≡ false
other x n h = grind (arith, nat_tests)

-- what the octets of a note are not, and those of a text without a sign
abbrev is-no-end : ℕ → Type 0
is-no-end x = x ≢ 10

abbrev is-no-sign : ℕ → Type 0
is-no-sign x = x ≢ 35

-- ---- the first octets of a text

abbrev first : List ℕ → ℕ
first [] = 0
first (x ∷ rest) = x

abbrev second : List ℕ → ℕ
second [] = 0
second (x ∷ rest) = first rest

first-of : (x : ℕ) (added more : List ℕ) → x ≢ 35 → IsAdded x added → first (added ++ (x ∷ more)) ≢ 35
first-of x added more h (nothing empty) = rw empty h
first-of x added more h (note said ends is_note is) = rw is (λ bad. omega (arith, bad))

-- a text with notes begins with no sign, where the text has none
first-noted : (plain noted : List ℕ) → LacksSign plain → IsNoted plain noted → first noted ≢ 35
first-noted [] noted lacks h = rw h (λ bad. omega (arith, bad))
first-noted (x ∷ plain) noted lacks h = rw h.3 (first-of x h.0 h.1 (All-head is-no-sign x plain lacks) h.2)

second-of : (x : ℕ) (added more : List ℕ) → first more ≢ 35 → IsAdded x added → second (added ++ (x ∷ more)) ≢ 35
second-of x added more h (nothing empty) = rw empty h
second-of x added more h (note said ends is_note is) = rw is (λ bad. omega (arith, bad))

-- and its second octet is none
second-noted : (plain noted : List ℕ) → LacksSign plain → IsNoted plain noted → second noted ≢ 35
second-noted [] noted lacks h = rw h (λ bad. omega (arith, bad))
second-noted (x ∷ plain) noted lacks h = rw h.3
    (second-of x h.0 h.1 (first-noted plain h.1 (All-tail is-no-sign x plain lacks) h.4) h.2)

-- no note begins where the octet after the next is no sign
no-note : (x : ℕ) (rest : List ℕ) → second rest ≢ 35 → begins_note (x ∷ rest) ≡ false
no-note x [] h = refl
no-note x (b ∷ []) h = refl
no-note x (b ∷ c ∷ []) h = refl
no-note x (b ∷ c ∷ d ∷ rest) h = go (x == 32) (b == 32)
  where
    go : (t u : Bool) → (if t then (if u then (if c == 35 then d == 32 else false) else false) else false) ≡ false
    go true true = rw (other c 35 h) refl
    go true false = refl
    go false u = refl

-- ---- cutting

-- a note ends with its line
note-cut : (said more : List ℕ) → IsNote said → cut_in true (said ++ (10 ∷ more)) ≡ 10 ∷ cut_in false more
note-cut [] more h = refl
note-cut (x ∷ said) more h =
    let no : (x == 10) ≡ false = other x 10 (All-head is-no-end x said h) in
    rw no (note-cut said more (All-tail is-no-end x said h))

one-cut : (x : ℕ) (added more : List ℕ) → second more ≢ 35 → IsAdded x added
    → cut_in false (added ++ (x ∷ more)) ≡ x ∷ cut_in false more
one-cut x added more h (nothing empty) = rw (empty, no-note x more h) refl
one-cut x added more h (note said ends is_note is) =
    rw (is, ends) (note-cut said more is_note)

pub cut-noted : (plain noted : List ℕ) → LacksSign plain → IsNoted plain noted → cut_in false noted ≡ plain
cut-noted [] noted lacks h = rw h refl
cut-noted (x ∷ plain) noted lacks h =
    let rest = All-tail is-no-sign x plain lacks in
    rw h.3 (one-cut x h.0 h.1 (second-noted plain h.1 rest h.4) h.2
    ∙ ap (λ (l : List ℕ). x ∷ l) (cut-noted plain h.1 rest h.4))

-- ---- texts in a row

-- what comes before a line end is cut apart from what comes after it
begins-apart : (x : ℕ) (rest more : List ℕ) → begins_note (x ∷ (rest ++ (10 ∷ more))) ≡ begins_note (x ∷ rest)
begins-apart x [] [] = refl
begins-apart x [] (c ∷ []) = refl
begins-apart x [] (c ∷ d ∷ more) = go (x == 32)
  where
    go : (t : Bool) → (if t then false else false) ≡ false
    go true = refl
    go false = refl
begins-apart x (b ∷ []) [] = refl
begins-apart x (b ∷ []) (d ∷ more) = go (x == 32) (b == 32)
  where
    go : (t u : Bool) → (if t then (if u then false else false) else false) ≡ false
    go true true = refl
    go true false = refl
    go false u = refl
begins-apart x (b ∷ c ∷ []) more = go (x == 32) (b == 32) (c == 35)
  where
    go : (t u v : Bool) → (if t then (if u then (if v then false else false) else false) else false) ≡ false
    go true true true = refl
    go true true false = refl
    go true false v = refl
    go false u v = refl
begins-apart x (b ∷ c ∷ d ∷ rest) more = refl

none-at-end : (more : List ℕ) → begins_note (10 ∷ more) ≡ false
none-at-end [] = refl
none-at-end (b ∷ []) = refl
none-at-end (b ∷ c ∷ []) = refl
none-at-end (b ∷ c ∷ d ∷ more) = refl

chosen : (t : Bool) (a b c d more : List ℕ) → a ≡ c ++ more → b ≡ d ++ more
    → (if t then a else b) ≡ (if t then c else d) ++ more
chosen true a b c d more h g = h
chosen false a b c d more h g = g

pub cut-apart : (inside : Bool) (text more : List ℕ) → cut_in inside (text ++ (10 ∷ more)) ≡ cut_in inside text
    ++ (10 ∷ cut_in false more)
cut-apart true [] more = refl
cut-apart false [] more = rw (none-at-end more) refl
cut-apart true (x ∷ text) more =
    chosen (x == 10) _ _ _ _ (10 ∷ cut_in false more) (ap (λ (l : List ℕ). x ∷ l) (cut-apart false text more))
    (cut-apart true text more)
cut-apart false (x ∷ text) more =
    rw (begins-apart x text more) (chosen (begins_note (x ∷ text)) _ _ _ _ (10 ∷ cut_in false more)
    (cut-apart true text more) (ap (λ (l : List ℕ). x ∷ l) (cut-apart false text more)))

-- a text has notes where none is put
pub noted-by-none : (plain : List ℕ) → IsNoted plain plain
noted-by-none [] = refl
noted-by-none (x ∷ plain) = ([], plain, nothing refl, refl, noted-by-none plain)
