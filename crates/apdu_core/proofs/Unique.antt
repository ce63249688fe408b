-- No octets spell two commands or two responses, and each pair of status bytes has one class.
use Rattle.std.proofs.Common.{◌≡◌, ℕ, zero, suc, ◌+◌, ◌-◌, ◌*◌, ◌/◌, ◌%◌, ◌<◌, ◌≤◌, ◌++◌, List, [], ◌∷◌, length, take, get_or, slice_index, refl, sym, ap, ◌∙◌, arith, inl, inr, cond, if◌then◌else◌, ◌==◌}
use Rattle.std.proofs.lemmas.List.{length-append}
use Rattle.std.proofs.Math.Seq.{take-append_seam, get_or-append_right}
use Rattle.std.proofs.lemmas.Bool.{cases_lt, eq-eqb, ne_eqb}
use Rattle.octet_core.proofs.Lists.{head_is, tail_is, split_same}
use Rattle.apdu_core.specs.declared.command.Body.{Body}
use Rattle.apdu_core.specs.declared.command.Body.TheVariants.{Empty, ShortLe, ShortPart, ShortBoth, LongLe, LongPart, LongBoth}
use Rattle.apdu_core.specs.Command.{CommandParts, IsCommand, FitsFields, IsCount, body_octets, short_of, long_of}
use Rattle.apdu_core.specs.Response.{ResponseParts, IsResponse}
use Rattle.apdu_core.specs.Status.{IsOfClass}
use Rattle.apdu_core.specs.declared.status.StatusClass.{StatusClass}
use Rattle.apdu_core.specs.declared.status.StatusClass.TheVariants.{Normal, Warning, Execution, Checking, Proprietary, Invalid}

-- ---- a plain reader of bodies

-- the number of a Le, where 0 stands for the greatest
le_of : ℕ → ℕ → ℕ
le_of most zero = most
le_of most (suc n) = suc n

-- what follows an Lc
short_with : ℕ → List ℕ → Body
short_with lc rest =
    if length rest == lc
    then ShortPart rest
    else ShortBoth (take lc rest) (le_of 256 (slice_index rest lc))

long_with : ℕ → List ℕ → Body
long_with lc rest =
    if length rest == lc
    then LongPart rest
    else LongBoth (take lc rest) (le_of 65536 (slice_index rest lc * 256 + slice_index rest (lc + 1)))

-- the body that the octets after a header spell, where they spell one
pub read_body : List ℕ → Body
read_body [] = Empty
read_body (x ∷ []) = ShortLe (le_of 256 x)
read_body (zero ∷ y ∷ []) = Empty
read_body (zero ∷ y ∷ z ∷ []) = LongLe (le_of 65536 (y * 256 + z))
read_body (zero ∷ y ∷ z ∷ a ∷ rest) = long_with (y * 256 + z) (a ∷ rest)
read_body (suc x ∷ y ∷ rest) = short_with (suc x) (y ∷ rest)

zero_sub : (n : ℕ) → n - n ≡ 0
zero_sub n = omega arith

-- what was added to a number is left when that number is taken away
pub below_sub : (n m k : ℕ) → n ≡ m + k → n - m ≡ k
below_sub n m k e = omega arith

le_of-back : (most x n : ℕ) → 1 ≤ n → n ≤ most → (n < most → x ≡ n) → (most ≤ n → x ≡ 0) → le_of most x ≡ n
unfolding le_of
le_of-back most zero n pos le small great =
    elim (cases_lt n most) [
      | inl lt ↦ absurd (omega (arith, small lt))
      | inr ge ↦ omega arith
    ]
le_of-back most (suc x) n pos le small great =
    elim (cases_lt n most) [
      | inl lt ↦ small lt
      | inr ge ↦ absurd (omega (arith, great ge))
    ]

short-back : (n : ℕ) → IsCount n 256 → le_of 256 (n % 256) ≡ n
short-back n h = le_of-back 256 (n % 256) n h.0 h.1 (λ lt. omega (arith, lt)) (λ ge. omega (arith, ge, h.1))

long-back : (n : ℕ) → IsCount n 65536 → le_of 65536 (n / 256 % 256 * 256 + n % 256) ≡ n
long-back n h = le_of-back 65536 (n / 256 % 256 * 256 + n % 256) n h.0 h.1 (λ lt. omega (arith, lt))
    (λ ge. omega (arith, ge, h.1))

-- a number of 65,535 at most is the one that its high and its low octet tell
pub long-same : (n : ℕ) → n ≤ 65535 → n / 256 % 256 * 256 + n % 256 ≡ n
long-same n le = omega arith

if-same : {A : Type 0} (a b : ℕ) (x y : A) → a ≡ b → (if a == b then x else y) ≡ x
if-same a b x y e = ap (λ t. cond t x y) (eq-eqb a b e)

if-other : {A : Type 0} (a b : ℕ) (x y : A) → (a ≡ b → ⊥) → (if a == b then x else y) ≡ y
if-other a b x y e = ap (λ t. cond t x y) (ne_eqb a b e)

short_with-part : (lc : ℕ) (part : List ℕ) → length part ≡ lc → short_with lc part ≡ ShortPart part
unfolding short_with
short_with-part lc part e = if-same (length part) lc (ShortPart part)
    (ShortBoth (take lc part) (le_of 256 (slice_index part lc))) e

long_with-part : (lc : ℕ) (part : List ℕ) → length part ≡ lc → long_with lc part ≡ LongPart part
unfolding long_with
long_with-part lc part e = if-same (length part) lc (LongPart part)
    (LongBoth (take lc part) (le_of 65536 (slice_index part lc * 256 + slice_index part (lc + 1)))) e

short_with-both : (part : List ℕ) (le : ℕ) → IsCount le 256
    → short_with (length part) (part ++ short_of le) ≡ ShortBoth part le
unfolding short_with
short_with-both part le h =
    let rest : List ℕ = part ++ short_of le in
    let at : slice_index rest (length part) ≡ le % 256 =
    get_or-append_right part (short_of le) (length part) 0 (omega arith)
    ∙ ap (λ (k : ℕ). get_or (short_of le) k 0) (zero_sub (length part)) in
    let number : le_of 256 (slice_index rest (length part)) ≡ le = ap (le_of 256) at ∙ short-back le h in
    let front : take (length part) rest ≡ part = take-append_seam part (short_of le) in
    if-other (length rest) (length part) (ShortPart rest)
    (ShortBoth (take (length part) rest) (le_of 256 (slice_index rest (length part))))
    (λ e. omega (arith, e, length-append part (short_of le)))
    ∙ (λ i. ShortBoth (front i) (number i))

long_with-both : (lc : ℕ) (part : List ℕ) (le : ℕ) → lc ≡ length part → IsCount le 65536
    → long_with lc (part ++ long_of le) ≡ LongBoth part le
unfolding long_with
long_with-both lc part le is h =
    let rest : List ℕ = part ++ long_of le in
    let high : slice_index rest lc ≡ le / 256 % 256 = get_or-append_right part (long_of le) lc 0 (omega arith)
    ∙ ap (λ (k : ℕ). get_or (long_of le) k 0) (below_sub lc (length part) 0 (omega arith)) in
    let low : slice_index rest (lc + 1) ≡ le % 256 = get_or-append_right part (long_of le) (lc + 1) 0 (omega arith)
    ∙ ap (λ (k : ℕ). get_or (long_of le) k 0) (below_sub (lc + 1) (length part) 1 (omega arith)) in
    let number : le_of 65536 (slice_index rest lc * 256 + slice_index rest (lc + 1)) ≡ le =
    (λ i. le_of 65536 (high i * 256 + low i)) ∙ long-back le h in
    let front : take lc rest ≡ part = ap (λ (k : ℕ). take k rest) is ∙ take-append_seam part (long_of le) in
    if-other (length rest) lc (LongPart rest)
    (LongBoth (take lc rest) (le_of 65536 (slice_index rest lc * 256 + slice_index rest (lc + 1))))
    (λ e. omega (arith, e, is, length-append part (long_of le)))
    ∙ (λ i. LongBoth (front i) (number i))

-- from the octets of a body that body is read back, where its numbers fit the length fields
pub read-back : (body : Body) → FitsFields body → read_body (body_octets body) ≡ body
unfolding read_body
read-back Empty h = refl
read-back (ShortLe le) h = ap ShortLe (short-back le h)
read-back (ShortPart []) h = absurd (omega (arith, h.0))
read-back (ShortPart (x ∷ part)) h = short_with-part (length (x ∷ part)) (x ∷ part) refl
read-back (ShortBoth [] le) h = absurd (omega (arith, h.0.0))
read-back (ShortBoth (x ∷ part) le) h = short_with-both (x ∷ part) le h.1
read-back (LongLe le) h = ap LongLe (long-back le h)
read-back (LongPart []) h = absurd (omega (arith, h.0))
read-back (LongPart (x ∷ part)) h = long_with-part (length (x ∷ part) / 256 % 256 * 256 + length (x ∷ part) % 256)
    (x ∷ part) (sym (long-same (length (x ∷ part)) h.1))
read-back (LongBoth [] le) h = absurd (omega (arith, h.0.0))
read-back (LongBoth (x ∷ part) le) h = long_with-both (length (x ∷ part) / 256 % 256 * 256 + length (x ∷ part) % 256)
    (x ∷ part) le (long-same (length (x ∷ part)) h.0.1) h.1

-- no octets spell two commands
pub one-command : (v w : CommandParts) (b : List ℕ) → IsCommand v b → IsCommand w b → v ≡ w
one-command v w b p q =
    let h = split_same v.header w.header (body_octets v.body) (body_octets w.body)
    (p.proper.header ∙ sym q.proper.header) (sym p.is ∙ q.is) in
    let bodies : v.body ≡ w.body = sym (read-back v.body p.proper.fits) ∙ ap read_body h.1
    ∙ read-back w.body q.proper.fits in
    λ i. record { header = h.0 i; body = bodies i }

-- ---- responses

-- no octets spell two responses
pub one-response : (v w : ResponseParts) (b : List ℕ) → IsResponse v b → IsResponse w b → v ≡ w
one-response v w b p q =
    let same : v.part ++ v.sw1 ∷ v.sw2 ∷ [] ≡ w.part ++ w.sw1 ∷ w.sw2 ∷ [] = sym p.is ∙ q.is in
    let len : length v.part ≡ length w.part = omega (
      arith,
      ap length same,
      length-append v.part (v.sw1 ∷ v.sw2 ∷ []),
      length-append w.part (w.sw1 ∷ w.sw2 ∷ []),
    ) in
    let h = split_same v.part w.part (v.sw1 ∷ v.sw2 ∷ []) (w.sw1 ∷ w.sw2 ∷ []) len same in
    let first : v.sw1 ≡ w.sw1 = head_is v.sw1 w.sw1 (v.sw2 ∷ []) (w.sw2 ∷ []) h.1 in
    let second : v.sw2 ≡ w.sw2 = head_is v.sw2 w.sw2 [] [] (tail_is v.sw1 w.sw1 (v.sw2 ∷ []) (w.sw2 ∷ []) h.1) in
    λ i. record { part = h.0 i; sw1 = first i; sw2 = second i }

-- each pair of status bytes has one class, at most
pub one-class : (c d : StatusClass) (sw1 sw2 : ℕ) → IsOfClass c sw1 sw2 → IsOfClass d sw1 sw2 → c ≡ d
one-class Normal Normal sw1 sw2 p q = refl
one-class Normal Warning sw1 sw2 p q = absurd (grind arith)
one-class Normal Execution sw1 sw2 p q = absurd (grind arith)
one-class Normal Checking sw1 sw2 p q = absurd (grind arith)
one-class Normal Proprietary sw1 sw2 p q = absurd (grind arith)
one-class Normal Invalid sw1 sw2 p q = absurd (grind arith)
one-class Warning Normal sw1 sw2 p q = absurd (grind arith)
one-class Warning Warning sw1 sw2 p q = refl
one-class Warning Execution sw1 sw2 p q = absurd (grind arith)
one-class Warning Checking sw1 sw2 p q = absurd (grind arith)
one-class Warning Proprietary sw1 sw2 p q = absurd (grind arith)
one-class Warning Invalid sw1 sw2 p q = absurd (grind arith)
one-class Execution Normal sw1 sw2 p q = absurd (grind arith)
one-class Execution Warning sw1 sw2 p q = absurd (grind arith)
one-class Execution Execution sw1 sw2 p q = refl
one-class Execution Checking sw1 sw2 p q = absurd (grind arith)
one-class Execution Proprietary sw1 sw2 p q = absurd (grind arith)
one-class Execution Invalid sw1 sw2 p q = absurd (grind arith)
one-class Checking Normal sw1 sw2 p q = absurd (grind arith)
one-class Checking Warning sw1 sw2 p q = absurd (grind arith)
one-class Checking Execution sw1 sw2 p q = absurd (grind arith)
one-class Checking Checking sw1 sw2 p q = refl
one-class Checking Proprietary sw1 sw2 p q = absurd (grind arith)
one-class Checking Invalid sw1 sw2 p q = absurd (grind arith)
one-class Proprietary Normal sw1 sw2 p q = absurd (grind arith)
one-class Proprietary Warning sw1 sw2 p q = absurd (grind arith)
one-class Proprietary Execution sw1 sw2 p q = absurd (grind arith)
one-class Proprietary Checking sw1 sw2 p q = absurd (grind arith)
one-class Proprietary Proprietary sw1 sw2 p q = refl
one-class Proprietary Invalid sw1 sw2 p q = absurd (grind arith)
one-class Invalid Normal sw1 sw2 p q = absurd (grind arith)
one-class Invalid Warning sw1 sw2 p q = absurd (grind arith)
one-class Invalid Execution sw1 sw2 p q = absurd (grind arith)
one-class Invalid Checking sw1 sw2 p q = absurd (grind arith)
one-class Invalid Proprietary sw1 sw2 p q = absurd (grind arith)
one-class Invalid Invalid sw1 sw2 p q = refl

nine : (sw1 sw2 : ℕ) → 0x90 ≤ sw1 → sw1 < 0xA0 → (c : StatusClass) × IsOfClass c sw1 sw2
nine sw1 sw2 le lt =
    elim (cases_lt 0x90 sw1) [
      | inl above ↦ (Proprietary, ((omega arith, omega arith), λ e f. omega arith))
      | inr at ↦ elim (cases_lt 0 sw2) [
        | inl some ↦ (Proprietary, ((omega arith, omega arith), λ e f. omega arith))
        | inr zero_sw2 ↦ (Normal, inl (omega arith, omega arith))
      ]
    ]

-- and each has one
pub some-class : (sw1 sw2 : ℕ) → (c : StatusClass) × IsOfClass c sw1 sw2
some-class sw1 sw2 =
    elim (cases_lt sw1 0x61) [
      | inl a ↦ (Invalid, inl (omega arith))
      | inr a ↦ elim (cases_lt sw1 0x62) [
        | inl b ↦ (Normal, inr (omega arith))
        | inr b ↦ elim (cases_lt sw1 0x64) [
          | inl c ↦ (Warning, (omega arith, omega arith))
          | inr c ↦ elim (cases_lt sw1 0x67) [
            | inl d ↦ (Execution, (omega arith, omega arith))
            | inr d ↦ elim (cases_lt sw1 0x70) [
              | inl e ↦ (Checking, (omega arith, omega arith))
              | inr e ↦ elim (cases_lt sw1 0x90) [
                | inl f ↦ (Invalid, inr (inl (omega arith, omega arith)))
                | inr f ↦ elim (cases_lt sw1 0xA0) [
                  | inl g ↦ nine sw1 sw2 f g
                  | inr g ↦ (Invalid, inr (inr g))
                ]
              ]
            ]
          ]
        ]
      ]
    ]
