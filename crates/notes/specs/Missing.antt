-- What refused octets lack, and what would be right in their place.
use Rattle.std.specs.Prelude.{◌==◌, ◌+◌, ◌-◌, ◌/◌, ◌%◌, nat_lt, ℕ, List, [], ◌∷◌, length, if◌then◌else◌}
use Rattle.tlv_core.specs.declared.part.PlacedPart.{PlacedPart}
use Rattle.notes.specs.declared.atr_refusal.NextByte.{NextByte}
use Rattle.notes.specs.declared.atr_refusal.NextByte.TheVariants.{Ts, T0, Ta, Tb, Tc, Td, Historical, Tck}

-- ---- answers to reset (ISO/IEC 7816-3, 8.2)

-- the first of TA, TB, TC and TD with this number that bits 1, 2, 4 and 8 announce
abbrev pub first_announced : ℕ → ℕ → NextByte
first_announced bits number =
    if bits % 2 == 1 then Ta number
    else if bits / 2 % 2 == 1 then Tb number
    else if bits / 4 % 2 == 1 then Tc number
    else Td number

-- what the bits announce after that byte, which isn't a TD
abbrev pub announced_after : ℕ → ℕ
announced_after bits = if bits % 2 == 1 then bits - 1 else if bits / 2 % 2 == 1 then bits - 2 else bits - 4

-- which byte comes after these historical bytes
abbrev pub next_in_tail : ℕ → List ℕ → NextByte
next_in_tail historical tail = if nat_lt (length tail) historical then Historical (length tail + 1) else Tck

-- which byte comes after these octets; the bits announce the first of them
abbrev pub next_after : ℕ → ℕ → ℕ → List ℕ → NextByte
next_after bits number historical [] =
    if bits == 0 then next_in_tail historical [] else first_announced bits number
next_after bits number historical (x ∷ more) =
    if bits == 0 then next_in_tail historical (x ∷ more)
    else if bits == 8 then next_after (x / 16) (number + 1) historical more
    else next_after (announced_after bits) number historical more

-- which byte of an answer to reset comes after these octets, if one does
abbrev pub next_byte : List ℕ → NextByte
next_byte [] = Ts
next_byte (ts ∷ []) = T0
next_byte (ts ∷ t0 ∷ more) = next_after (t0 / 16) 1 (t0 % 16) more

-- ---- data objects

-- how many octets of an object's value are still needed after this many octets of the forest
abbrev pub wanted_of : PlacedPart → ℕ → ℕ
wanted_of part taken = part.place + part.len - taken
