-- Decimal text of up to 15 digits: what it writes, and that `decimal` writes it.
use Rattle.std.proofs.Common.{◌≡◌, ℕ, zero, suc, ◌+◌, ◌<◌, ◌≤◌, ◌^◌, ◌&&◌, Result, cond, drop, ◌==◌, not, nat_le, List, [], ◌∷◌, length, Bool, true, false, Some, None, decimal, refl, sym, ap, ◌∙◌, subst, arith, rules, if◌then◌else◌, get_or, Ok, Err, inl, inr}
use Rattle.std.specs.List.{list_all}
use Rattle.std.specs.Char.{is_ascii_digit, digit_value}
use Rattle.std.specs.Int.{IsInRange}
use Rattle.std.specs.Str.{IsAscii, IsUtf8}
use Rattle.std.specs.Str.Parse.{AllDigits, digits_value, ParsesUnsigned, without_leading_plus}
use Rattle.std.proofs.lemmas.Str.Parse.{IsNumeralModel, digits_value_short, digit_from_value}
use Rattle.std.proofs.lemmas.Str.{digit_value_digit, IsUtf8-from_ascii}
use Rattle.std.proofs.lemmas.Fmt.{decimal-digits_value, decimal_is_IsNumeral, decimal_nonempty, length-decimal-le, first_decimal, decimal_digit}
use Rattle.std.proofs.lemmas.Bool.{cases_lt}
use Rattle.std.specs.Result.{result_ok}
use Rattle.octet_core.specs.Decimal.{is_decimal, decimal_number}

own : IsNumeralModel (AllDigits 10) (digits_value 10)
own = record { to = λ ds h. h; from = λ ds h. h; same = λ ds h. refl }

digit : (c : ℕ) → is_ascii_digit c ≡ true → IsInRange 48 57 c
digit c h = search (rules, h)

is_digit : (c : ℕ) → IsInRange 48 57 c → is_ascii_digit c ≡ true
is_digit c h = search (rules, h)

-- where the conjunction of two tests is true, each is
pub both : (a b : Bool) → a && b ≡ true → (a ≡ true) × (b ≡ true)
both true true h = (refl, refl)
both true false h = cc
both false b h = cc

-- and where each is true, so is their conjunction
pub joined : (a b : Bool) → a ≡ true → b ≡ true → a && b ≡ true
joined true true h k = refl
joined true false h k = k
joined false b h k = h

small : (c v : ℕ) → IsInRange 48 57 c → v + 48 ≡ c → v < 10
small c v h e = omega (arith, h.0, h.1)

digits : (ds : List ℕ) → list_all is_ascii_digit ds ≡ true → AllDigits 10 ds
digits [] h = tt
digits (c ∷ ds) h =
    let p = both (is_ascii_digit c) (list_all is_ascii_digit ds) h in
    let r = digit c p.0 in
    (small c (digit_value c) r (digit_value_digit c r), digits ds p.1)

below : (c : ℕ) → IsInRange 48 57 c → c < 128
below c h = omega (arith, h.0, h.1)

ascii : (ds : List ℕ) → list_all is_ascii_digit ds ≡ true → IsAscii ds
ascii [] h i = omega arith
ascii (c ∷ ds) h zero = below c (digit c (both (is_ascii_digit c) (list_all is_ascii_digit ds) h).0)
ascii (c ∷ ds) h (suc i) = ascii ds (both (is_ascii_digit c) (list_all is_ascii_digit ds) h).1 i

are_digits : (ds : List ℕ) → AllDigits 10 ds → list_all is_ascii_digit ds ≡ true
are_digits [] h = refl
are_digits (c ∷ ds) h = joined (is_ascii_digit c) (list_all is_ascii_digit ds) (is_digit c (digit_from_value c h.0))
    (are_digits ds h.1)

-- what a decimal text has
pub record HasDigits (text : List ℕ) : Type 0 where
  pub digits : list_all is_ascii_digit text ≡ true
  pub some : 0 < length text
  pub few : length text ≤ 15
  pub first : get_or text 0 0 ≡ 48 → length text ≡ 1

one_digit : (c : ℕ) → is_ascii_digit c ≡ true → list_all is_ascii_digit (c ∷ []) ≡ true
one_digit c h = joined (is_ascii_digit c) true h refl

other_first : (c : ℕ) (P : Type 0) → not (c == 48) ≡ true → c ≡ 48 → P
other_first c P h e = search (rules, h, e)

few_by : (n : ℕ) → nat_le n 15 ≡ true → n ≤ 15
few_by n h = search (rules, h)

-- the test of a decimal text shows what it has
pub has_digits : (text : List ℕ) → is_decimal text ≡ true → HasDigits text
has_digits [] h = cc
has_digits (c ∷ []) h = record { digits = one_digit c h; some = omega arith; few = omega arith; first = λ e. refl }
has_digits (c ∷ d ∷ ds) h =
    let p = both (not (c == 48)) (nat_le (length (c ∷ d ∷ ds)) 15 && list_all is_ascii_digit (c ∷ d ∷ ds)) h in
    let q = both (nat_le (length (c ∷ d ∷ ds)) 15) (list_all is_ascii_digit (c ∷ d ∷ ds)) p.1 in
    record {
      digits = q.1;
      some = omega arith;
      few = few_by (length (c ∷ d ∷ ds)) q.0;
      first = λ e. other_first c (length (c ∷ d ∷ ds) ≡ 1) p.0 e;
    }

-- the number of such a text has 15 digits at most
pub value-most : (text : List ℕ) → is_decimal text ≡ true → digits_value 10 text < 1000000000000000
value-most text h = let p = has_digits text h in digits_value_short own text 15 (digits text p.digits) p.few

-- and the text is what that number is written as
pub value-decimal : (text : List ℕ) → is_decimal text ≡ true → text ≡ decimal (digits_value 10 text)
value-decimal text h =
    let p = has_digits text h in
    sym (decimal-digits_value own text (digits text p.digits) p.some p.first (omega (arith, value-most text h)))

not_by : (c : ℕ) → 48 < c → not (c == 48) ≡ true
not_by c h = search (rules, h)

first_is : (n c d : ℕ) (ds : List ℕ) → decimal n ≡ c ∷ d ∷ ds → 48 < get_or (decimal n) 0 0 → 48 < c
first_is n c d ds e h = subst (λ (t : List ℕ). 48 < get_or t 0 0) e h

zero-by : (n : ℕ) → n ≤ 0 → n ≡ 0
zero-by n h = omega arith

two-one : (c d : ℕ) (ds : List ℕ) → c ∷ d ∷ ds ≡ (48 + 0) ∷ [] → ⊥
two-one c d ds e = let l : length (c ∷ d ∷ ds) ≡ 1 = ap length e in omega arith

first_not : (c d : ℕ) (ds : List ℕ) (n : ℕ) → n < 2 ^ 64 → decimal n ≡ c ∷ d ∷ ds → not (c == 48) ≡ true
first_not c d ds n lt e =
    elim (cases_lt 0 n) [
      | inl some ↦ not_by c (first_is n c d ds e (first_decimal n some lt))
      | inr none ↦ absurd (two-one c d ds (sym e ∙ ap decimal (zero-by n none) ∙ decimal_digit 0 (omega arith)))
    ]

few_test : (n : ℕ) → n ≤ 15 → nat_le n 15 ≡ true
few_test n h = search (rules, h)

is_decimal_by : (text : List ℕ) → list_all is_ascii_digit text ≡ true → 0 < length text → length text ≤ 15
    → ((c d : ℕ) (ds : List ℕ) → text ≡ c ∷ d ∷ ds → not (c == 48) ≡ true) → is_decimal text ≡ true
is_decimal_by [] h some few first = absurd (omega arith)
is_decimal_by (c ∷ []) h some few first = (both (is_ascii_digit c) true h).0
is_decimal_by (c ∷ d ∷ ds) h some few first =
    joined (not (c == 48)) (nat_le (length (c ∷ d ∷ ds)) 15 && list_all is_ascii_digit (c ∷ d ∷ ds)) (first c d ds refl)
    (joined (nat_le (length (c ∷ d ∷ ds)) 15) (list_all is_ascii_digit (c ∷ d ∷ ds))
    (few_test (length (c ∷ d ∷ ds)) few) h)

-- the text of a number is one, and gives the number back
pub decimal-is : (n : ℕ) → n < 1000000000000000 → is_decimal (decimal n) ≡ true
decimal-is n lt =
    let h : n < 2 ^ 64 = omega (arith, lt) in
    is_decimal_by (decimal n) (are_digits (decimal n) (decimal_is_IsNumeral n h).0.1) (decimal_nonempty n h)
    (length-decimal-le 15 n (omega arith) lt h) (λ c d ds e. first_not c d ds n h e)

-- what stands under a test that is true is there
pub number-by : (b : Bool) (n : ℕ) → b ≡ true → (if b then Some n else None) ≡ Some n
number-by true n h = refl
number-by false n h = cc

-- the text of a number below 10 ^ 15 writes that number
pub number-decimal : (n : ℕ) → n < 1000000000000000 → decimal_number (decimal n) ≡ Some n
number-decimal n lt =
    let h : n < 2 ^ 64 = omega (arith, lt) in
    number-by (is_decimal (decimal n)) (digits_value 10 (decimal n)) (decimal-is n lt)
    ∙ ap Some (decimal_is_IsNumeral n h).1

-- other texts are the text of no number below 10 ^ 15
pub none-decimal : (text : List ℕ) → is_decimal text ≡ false → (n : ℕ) → n < 1000000000000000 → text ≡ decimal n → ⊥
none-decimal text h n lt e =
    let is : is_decimal text ≡ true = subst (λ (t : List ℕ). is_decimal t ≡ true) (sym e) (decimal-is n lt) in
    cc

-- such a text is UTF-8
pub is-text : (text : List ℕ) → is_decimal text ≡ true → IsUtf8 text
is-text text h = IsUtf8-from_ascii text (ascii text (has_digits text h).digits)

not_plus : (c : ℕ) → IsInRange 48 57 c → c == 43 ≡ false
not_plus c h = search (rules, h)

no_plus : (c : ℕ) (cs : List ℕ) → is_ascii_digit c ≡ true → without_leading_plus (c ∷ cs) ≡ c ∷ cs
no_plus c cs h = let r = digit c h in ap (λ (b : Bool). drop (cond b 1 0) (c ∷ cs)) (not_plus c r)

first_digit : (text : List ℕ) → HasDigits text → without_leading_plus text ≡ text
first_digit [] h = absurd (omega (arith, h.some))
first_digit (c ∷ cs) h = no_plus c cs (both (is_ascii_digit c) (list_all is_ascii_digit cs) h.digits).0

parse-same : {E : Type 0} (text : List ℕ) (r : Result ℕ E) → is_decimal text ≡ true → ParsesUnsigned 64 10 text r
    → result_ok r ≡ Some (digits_value 10 text)
parse-same text (Ok n) h p = ap Some (p.1 ∙ ap (digits_value 10) (first_digit text (has_digits text h)))
parse-same text (Err e) h p =
    let d = has_digits text h in
    let same = first_digit text d in
    absurd (p (rw same (d.some, digits text d.digits), rw same (omega (arith, value-most text h))))

-- what a parse of it gives
pub parse-decimal : {E : Type 0} (text bs : List ℕ) (r : Result ℕ E) → bs ≡ text → is_decimal text ≡ true
    → ParsesUnsigned 64 10 bs r → result_ok r ≡ Some (digits_value 10 text)
parse-decimal text bs r e h p = parse-same text r h (subst (λ (t : List ℕ). ParsesUnsigned 64 10 t r) e p)
