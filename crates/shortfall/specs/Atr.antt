-- Answers to reset: ISO/IEC 7816-3, clause 8.2.
use Rattle.std.specs.Prelude.{ℕ, zero, suc, ◌+◌, ◌-◌, ◌/◌, ◌%◌, List, [], ◌∷◌, length, Bool, true, false, not, ◌||◌, ◌==◌, nat_le}
use Rattle.atr_core.specs.Atr.{count_of}

-- how many of TA, TB and TC this T0 or TD announces
abbrev pub bytes_of : ℕ → ℕ
bytes_of octet = octet / 16 % 2 + octet / 32 % 2 + octet / 64 % 2

-- whether it announces a TD
abbrev pub announces_td : ℕ → Bool
announces_td octet = nat_le 128 octet

-- After these octets of an answer. `bytes` of TA, TB and TC are due, then a TD if `td`, `k` historical bytes, and TCK
-- if `tck`. A TD that offers another protocol than T=0 makes TCK due.
abbrev pub atr_from : ℕ → Bool → ℕ → Bool → List ℕ → ℕ
atr_from bytes td k tck [] = bytes + count_of td + k + count_of tck
atr_from (suc bytes) td k tck (x ∷ b) = atr_from bytes td k tck b
atr_from zero true k tck (x ∷ b) = atr_from (bytes_of x) (announces_td x) k (tck || not (x % 16 == 0)) b
atr_from zero false k tck (x ∷ b) = (k + count_of tck) - length (x ∷ b)

-- TS and T0 come first
abbrev pub atr_least : List ℕ → ℕ
atr_least [] = 2
atr_least (ts ∷ []) = 1
atr_least (ts ∷ t0 ∷ b) = atr_from (bytes_of t0) (announces_td t0) (t0 % 16) false b
