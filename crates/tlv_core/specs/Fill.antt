-- How a data object list is filled (EMV 4.3 Book 3, clause 5.4).
use Rattle.std.specs.Prelude.{◌≡◌, ℕ, ◌-◌, ◌<◌, List, [], ◌∷◌, ◌++◌, length, take, drop, replicate, find, bytes_eq, slice_get, Option, Some, None, if◌then◌else◌, ◌==◌}
use Rattle.octet_core.specs.declared.format.Format.{Format}
use Rattle.octet_core.specs.declared.format.Format.TheVariants.{Numeric, CompressedNumeric, Other}
use Rattle.tlv_core.specs.Tag.{constructed_bit}
use Rattle.tlv_core.specs.declared.known.Known.{Known}
use Rattle.tlv_core.specs.declared.filling.FillFault.{FillFault}
use Rattle.tlv_core.specs.declared.filling.FillFault.TheVariants.{Duplicate, Memory}

-- The value in n octets. If it is too long, it loses its leftmost octets if it is numeric, else its rightmost. If it
-- is too short, it gets leading 00 if it is numeric, trailing FF if it is compressed numeric, else trailing 00.
abbrev pub fitted : Format → ℕ → List ℕ → List ℕ
fitted Numeric n value = replicate (n - length value) 0 ++ drop (length value - n) value
fitted CompressedNumeric n value = take n value ++ replicate (n - length value) 255
fitted Other n value = take n value ++ replicate (n - length value) 0

-- the known value with this tag
abbrev pub known_for : List ℕ → List Known → Option Known
known_for tag known = find (λ k. bytes_eq tag k.tag) known

-- n octets: the known value, cut or padded; or zeros if there is none
abbrev pub part_of : ℕ → Option Known → List ℕ
part_of n None = replicate n 0
part_of n (Some k) = fitted k.format n k.value

-- What an entry asks for has the listed length. It is zeros if the tag is constructed, or has no known value.
abbrev pub entry_part : List Known → List ℕ × ℕ → List ℕ
entry_part known e = if constructed_bit e.0 == 1 then replicate e.1 0 else part_of e.1 (known_for e.0 known)

-- what the entries ask for, in their order
abbrev pub filled : List Known → List (List ℕ × ℕ) → List ℕ
filled known [] = []
filled known (e ∷ entries) = entry_part known e ++ filled known entries

-- two known values have one tag
abbrev pub HasDuplicate : List Known → Type 0
HasDuplicate known = (i j : ℕ) × (i < j) × (j < length known) × (k l : Known) × (slice_get known i ≡ Some k)
    × (slice_get known j ≡ Some l) × (k.tag ≡ l.tag)

-- why a list isn't filled: two known values have one tag; otherwise an allocation failed
abbrev pub IsFillFault : List Known → FillFault → Type 0
IsFillFault known Duplicate = HasDuplicate known
IsFillFault known Memory = HasDuplicate known → ⊥
