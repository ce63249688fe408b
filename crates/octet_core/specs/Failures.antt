-- Calls of readers and writers that failed, and how they are counted.
use Rattle.std.specs.Prelude.{◌≡◌, ℕ, ◌+◌, ◌-◌, ◌^◌, ◌<◌, ◌≤◌, ◌⊎◌, List, length, min, Result, MatchResult}

-- the greatest count
abbrev pub most_failures : ℕ
most_failures = 2 ^ 64 - 1

-- one failure more, unless the count is at its greatest value
abbrev pub next_count : ℕ → ℕ
next_count n = min (n + 1) most_failures

-- a call of read that failed
abbrev pub ReadFails : {E : Type 0} → Result ℕ E → Type 0
ReadFails r = MatchResult r (λ _. ⊥) (λ _. Unit {0})

-- a call of write that failed: by an error, or by taking none of some octets
abbrev pub WriteFails : {E : Type 0} → List ℕ → Result ℕ E → Type 0
WriteFails octets r = MatchResult r (λ taken. (taken ≡ 0) × (0 < length octets)) (λ _. Unit {0})

-- how a call changes the count
abbrev pub Counts : Type 0 → ℕ → ℕ → Type 0
Counts Fails old new = (Fails → new ≡ next_count old) × ((Fails → ⊥) → new ≡ old)

-- a call failed between the two counts, or there were too many failures to count
abbrev pub HasFailed : ℕ → ℕ → Type 0
HasFailed old new = (old < new) ⊎ (most_failures ≤ old)
