-- Octets as hexadecimal text.
use Rattle.std.specs.Prelude.{◌≡◌, ℕ, ◌%◌, ◌<◌, List, length, take, slice_index, false}
use Rattle.std.specs.List.{AllPass}
use Rattle.hex.specs.Hex.{is_hex_digit}
use Rattle.octet_core.specs.declared.hexadecimal.HexFault.{HexFault}
use Rattle.octet_core.specs.declared.hexadecimal.HexFault.TheVariants.{Odd, Digit, Memory}

-- why a text isn't octets; a failed allocation may precede the fault of a digit
abbrev pub IsHexFault : List ℕ → HexFault → Type 0
IsHexFault text Odd = length text % 2 ≡ 1
IsHexFault text (Digit place) = (length text % 2 ≡ 0) × (place < length text)
    × (is_hex_digit (slice_index text place) ≡ false) × AllPass is_hex_digit (take place text)
IsHexFault text Memory = length text % 2 ≡ 0
