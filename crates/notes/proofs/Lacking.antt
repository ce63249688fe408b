-- Texts without some octet.
use Rattle.std.proofs.Common.{◌≡◌, ◌≢◌, ◌==◌, ◌&&◌, ◌<◌, ◌+◌, ◌/◌, ◌%◌, ◌++◌, ℕ, zero, suc, nat_lt, List, [], ◌∷◌, Bool, true, false, if◌then◌else◌, arith, refl}
use Rattle.std.specs.List.{All}
use Rattle.std.specs.Fmt.{decimal, digit_glyph, digits, digits_onto}
use Rattle.std.proofs.lemmas.Bool.Decides.{nat_tests}
use Rattle.std.proofs.lemmas.List.Elements.{All-cons, All-nil}

-- whether no octet of a text is this one
abbrev pub lacks : ℕ → List ℕ → Bool
lacks octet [] = true
lacks octet (x ∷ text) = if x == octet then false else lacks octet text

abbrev pub is-other : ℕ → ℕ → Type 0
is-other octet x = x ≢ octet

pub first-and-rest : (octet x : ℕ) (r t : Bool) → (x == octet) ≡ t → (if t then false else r) ≡ true
    → (x ≢ octet) × (r ≡ true)
first-and-rest octet x r true e h = absurd (cc h)
first-and-rest octet x r false e h = (λ is. grind (arith, nat_tests), h)

pub passed : (octet : ℕ) (text : List ℕ) → lacks octet text ≡ true → All (is-other octet) text
passed octet [] h = All-nil (is-other octet)
passed octet (x ∷ text) h =
    let both = first-and-rest octet x (lacks octet text) (x == octet) refl h in
    All-cons (is-other octet) x text both.0 (passed octet text both.1)

pub one-more : (octet x : ℕ) (text : List ℕ) → x ≢ octet → lacks octet text ≡ true → lacks octet (x ∷ text) ≡ true
one-more octet x text other h = let e : (x == octet) ≡ false = grind (arith, nat_tests) in rw e h

pub more : (octet : ℕ) (a b : List ℕ) → lacks octet a ≡ true → lacks octet b ≡ true → lacks octet (a ++ b) ≡ true
more octet [] b h g = g
more octet (x ∷ a) b h g =
    let both = first-and-rest octet x (lacks octet a) (x == octet) refl h in
    one-more octet x (a ++ b) both.0 (more octet a b both.1 g)

pub either : (octet : ℕ) (t : Bool) (a b : List ℕ) → lacks octet a ≡ true → lacks octet b ≡ true
    → lacks octet (if t then a else b) ≡ true
either octet true a b h g = h
either octet false a b h g = g

glyph-other : (octet d : ℕ) → octet < 48 → digit_glyph false d ≢ octet
glyph-other octet d low = go (nat_lt d 10)
  where
    go : (t : Bool) → (if t then 48 + d else 87 + d) ≢ octet
    go true e = omega (arith, low, e)
    go false e = omega (arith, low, e)

digits-lack : (octet k n : ℕ) (text : List ℕ) → octet < 48 → lacks octet text ≡ true
    → lacks octet (digits_onto k 10 false n text) ≡ true
digits-lack octet zero n text low h = h
digits-lack octet (suc k) n text low h =
    let longer : lacks octet (digit_glyph false (n % 10) ∷ text) ≡ true =
    one-more octet (digit_glyph false (n % 10)) text (glyph-other octet (n % 10) low) h in
    either octet (n / 10 == 0) (digit_glyph false (n % 10) ∷ text)
    (digits_onto k 10 false (n / 10) (digit_glyph false (n % 10) ∷ text)) longer
    (digits-lack octet k (n / 10) (digit_glyph false (n % 10) ∷ text) low longer)

pub decimal-lacks : (octet n : ℕ) → octet < 48 → lacks octet (decimal n) ≡ true
unfolding digits
decimal-lacks octet n low = digits-lack octet 64 n [] low refl

-- a number with a text after it
pub number-then : (octet n : ℕ) (b : List ℕ) → octet < 48 → lacks octet b ≡ true → lacks octet (decimal n ++ b) ≡ true
number-then octet n b low h = more octet (decimal n) b (decimal-lacks octet n low) h

pub both-true : (a b : Bool) → (a && b) ≡ true → (a ≡ true) × (b ≡ true)
both-true true b h = (refl, h)
both-true false b h = absurd (cc h)
