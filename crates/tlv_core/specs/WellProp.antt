-- What is known of an unfinished header is true in one way only. This proof is in specs/ since a field cites it.
use Rattle.std.specs.Prelude.{List, [], ◌∷◌, ℕ}
use Rattle.std.specs.Coded.{le_prop}
use Rattle.std.proofs.Math.Nat.{ℕ_set}
use Rattle.tlv_core.specs.declared.header.Header.{Header}
use Rattle.tlv_core.specs.declared.header.Header.TheVariants as header
use Rattle.tlv_core.specs.Header.{IsWell}
use Rattle.tlv_core.specs.Tag.{IsTag}

IsTag-prop : (tag : List ℕ) → IsProp (IsTag tag)
IsTag-prop [] = hlevel (le_prop, ℕ_set)
IsTag-prop (x ∷ []) = hlevel (le_prop, ℕ_set)
IsTag-prop (x ∷ y ∷ []) = hlevel (le_prop, ℕ_set)
IsTag-prop (x ∷ y ∷ z ∷ []) = hlevel (le_prop, ℕ_set)
IsTag-prop (x ∷ y ∷ z ∷ w ∷ more) = hlevel (le_prop, ℕ_set)

-- there is only one proof that a header is consistent
pub IsWell-prop : (h : Header) → IsProp (IsWell h)
IsWell-prop header.Nothing = hlevel (le_prop, ℕ_set)
IsWell-prop (header.First first) = hlevel (le_prop, ℕ_set)
IsWell-prop (header.Second first second) = hlevel (le_prop, ℕ_set)
IsWell-prop (header.Tagged tag) = IsTag-prop tag
IsWell-prop (header.Sized tag form read number) = let h : IsProp (IsTag tag) = IsTag-prop tag in hlevel (le_prop, ℕ_set)
