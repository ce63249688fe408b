-- Numbers in octets, and back.
use Rattle.std.proofs.Common.{◌≡◌, ℕ, ◌+◌, ◌*◌, ◌/◌, ◌%◌, ◌^◌, ◌<◌, ◌≤◌, List, [], ◌∷◌, length, refl, ap, ◌∙◌, arith, zero, suc}
use native.Mathlib.Numerals.{unary_clauses}
use Rattle.std.proofs.lemmas.Nat.{mul-add-lt, div-mul-add, mod-mul-add, div-add-mod', div_below, mod_below}
use Rattle.octet_core.specs.Octets.{AreOctets}
use Rattle.octet_core.proofs.Lists.{octets-cons}
use Rattle.tlv_core.specs.Number.{number_of, high_first}

-- the rest of octets is octets
pub octets_tail : (x : ℕ) (b : List ℕ) → AreOctets (x ∷ b) → AreOctets b
octets_tail x b h i = h (suc i)

-- the empty list is octets
pub octets_nil : AreOctets []
octets_nil i = omega arith

-- the next power of 256 is 256 times as much
pub pow_suc : (k : ℕ) → 256 ^ suc k ≡ 256 ^ k * 256
pow_suc k = simp unary_clauses refl

-- no power of 256 is 0
pub pow256 : (k : ℕ) → 0 < 256 ^ k
pow256 zero = omega arith
pow256 (suc k) = omega (arith, pow256 k, pow_suc k)

-- what at most three octets say
pub power-of-few : (k : ℕ) → k < 4 → 256 ^ k < 4294967296
power-of-few zero lt = omega arith
power-of-few (suc zero) lt = omega arith
power-of-few (suc (suc zero)) lt = omega arith
power-of-few (suc (suc (suc zero))) lt = omega arith
power-of-few (suc (suc (suc (suc k)))) lt = absurd (omega arith)

-- a number in k octets has k octets
pub length-high_first : (k n : ℕ) → length (high_first k n) ≡ k
length-high_first zero n = refl
length-high_first (suc k) n = ap suc (length-high_first k (n % 256 ^ k))

-- these octets stand for the number, where it is below 256 ^ k
pub number-high_first : (k n : ℕ) → n < 256 ^ k → number_of (high_first k n) ≡ n
number-high_first zero n lt = omega arith
number-high_first (suc k) n lt =
    let rest : number_of (high_first k (n % 256 ^ k)) ≡ n % 256 ^ k =
    number-high_first k (n % 256 ^ k) (mod_below n (256 ^ k) (pow256 k)) in
    ap (λ (m : ℕ). n / 256 ^ k * 256 ^ m + number_of (high_first k (n % 256 ^ k))) (length-high_first k (n % 256 ^ k))
    ∙ ap (λ (m : ℕ). n / 256 ^ k * 256 ^ k + m) rest ∙ div-add-mod' n (256 ^ k)

-- and each of them is an octet
pub octets-high_first : (k n : ℕ) → n < 256 ^ k → AreOctets (high_first k n)
octets-high_first zero n lt = octets_nil
octets-high_first (suc k) n lt =
    octets-cons (n / 256 ^ k) (high_first k (n % 256 ^ k))
    (div_below n (256 ^ k) 256 (pow256 k) (omega (arith, pow_suc k)))
    (octets-high_first k (n % 256 ^ k) (mod_below n (256 ^ k) (pow256 k)))

-- k octets stand for a number below 256 ^ k
pub number_lt : (b : List ℕ) → AreOctets b → number_of b < 256 ^ length b
number_lt [] h = omega arith
number_lt (x ∷ b) h =
    let rest : number_of b < 256 ^ length b = number_lt b (octets_tail x b h) in
    let low : x < 256 = h 0 in
    omega (arith, pow_suc (length b), mul-add-lt x (256 ^ length b) (number_of b) 256 low rest)

-- the number of octets, written in as many octets, is these octets again
pub high_first-number : (b : List ℕ) → AreOctets b → high_first (length b) (number_of b) ≡ b
high_first-number [] h = refl
high_first-number (x ∷ b) h =
    let rest : number_of b < 256 ^ length b = number_lt b (octets_tail x b h) in
    let high : (x * 256 ^ length b + number_of b) / 256 ^ length b ≡ x =
    div-mul-add x (256 ^ length b) (number_of b) rest in
    let low : (x * 256 ^ length b + number_of b) % 256 ^ length b ≡ number_of b =
    mod-mul-add x (256 ^ length b) (number_of b) rest in
    ap (λ (y : ℕ). y ∷ high_first (length b) ((x * 256 ^ length b + number_of b) % 256 ^ length b)) high
    ∙ ap (λ (y : ℕ). x ∷ high_first (length b) y) low
    ∙ ap (λ (l : List ℕ). x ∷ l) (high_first-number b (octets_tail x b h))

-- a power of 256 with a greater exponent is no less
pub pow_up : (j k : ℕ) → j ≤ k → 256 ^ j ≤ 256 ^ k
pow_up zero k le = omega (arith, pow256 k)
pow_up (suc j) zero le = absurd (omega arith)
pow_up (suc j) (suc k) le = omega (arith, pow_suc j, pow_suc k, pow_up j k (omega arith))
