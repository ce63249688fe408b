-- How many more octets an answer to reset needs at least, TD by TD.
use Rattle.std.proofs.Common.{◌≡◌, ℕ, zero, suc, ◌+◌, ◌-◌, ◌<◌, ◌≤◌, List, [], ◌∷◌, length, drop, refl, sym, ap, ◌∙◌, arith, Bool, true, false}
use Rattle.std.specs.Prelude.{◌||◌, ◌==◌, ◌%◌, not}
use Rattle.atr_core.specs.Atr.{count_of}
use Rattle.shortfall.specs.Atr.{announces_td, atr_from, bytes_of}

-- the octets end before the TD that is due
pub from-within : (bytes k : ℕ) (tck : Bool) (b : List ℕ) → length b ≤ bytes
    → atr_from bytes true k tck b ≡ bytes - length b + 1 + k + count_of tck
from-within bytes k tck [] le = omega arith
from-within zero k tck (x ∷ b) le = absurd (omega arith)
from-within (suc bytes) k tck (x ∷ b) le = omega (arith, from-within bytes k tck b (omega arith))

-- the bytes that are due come
pub from-after : (bytes : ℕ) (td : Bool) (k : ℕ) (tck : Bool) (b : List ℕ) → bytes ≤ length b
    → atr_from bytes td k tck b ≡ atr_from 0 td k tck (drop bytes b)
from-after zero td k tck b le = refl
from-after (suc bytes) td k tck [] le = absurd (omega arith)
from-after (suc bytes) td k tck (x ∷ b) le = from-after bytes td k tck b (omega arith)

-- no TD is due
pub from-last : (bytes k : ℕ) (tck : Bool) (b : List ℕ)
    → atr_from bytes false k tck b ≡ (bytes + k + count_of tck) - length b
from-last bytes k tck [] = omega arith
from-last zero k tck (x ∷ b) = omega arith
from-last (suc bytes) k tck (x ∷ b) = omega (arith, from-last bytes k tck b)

-- a TD comes after the bytes that are due
pub next-td : (old k td bytes n : ℕ) (tck later : Bool) (b after : List ℕ) → announces_td old ≡ true
    → bytes ≡ bytes_of old → bytes < length b → drop bytes b ≡ td ∷ after → (tck || not (td % 16 == 0)) ≡ later
    → atr_from (bytes_of old) (announces_td old) k tck b ≡ n
    → atr_from (bytes_of td) (announces_td td) k later after ≡ n
next-td old k td bytes n tck later b after announced count lt is due least =
    ap (λ (t : Bool). atr_from (bytes_of td) (announces_td td) k t after) (sym due)
    ∙ ap (atr_from 0 true k tck) (sym is) ∙ sym (from-after bytes true k tck b (omega arith))
    ∙ ap (λ (t : Bool). atr_from bytes t k tck b) (sym announced)
    ∙ ap (λ (m : ℕ). atr_from m (announces_td old) k tck b) count ∙ least
