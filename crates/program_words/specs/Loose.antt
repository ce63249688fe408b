-- Octets as a text: hexadecimal in groups, separated by blanks.
use Rattle.std.specs.Prelude.{◌&&◌, ◌||◌, ◌==◌, ℕ, drop, List, [], ◌∷◌, Bool, false, Result, Ok, if◌then◌else◌}
use Rattle.std.specs.List.{list_all, slice_split}
use Rattle.hex.specs.Hex.{decode_of}
use Rattle.octet_core.specs.Words.{after_blanks, is_blank}
use Rattle.program_words.specs.Value.{all_said, hex_octets}
use Rattle.program_words.specs.declared.fault.Fault.{Fault}

-- 0x or 0X, and at least one octet after it
abbrev pub is_marked : List ℕ → Bool
is_marked (x ∷ y ∷ z ∷ more) = x == 48 && (y == 120 || y == 88)
is_marked _ = false

-- what comes after the 0x of a group, or the whole group
abbrev pub digits_of : List ℕ → List ℕ
digits_of group = if is_marked group then drop 2 group else group

-- the octets of a group: two digits for each, in either case
abbrev pub group_octets : List ℕ → Result (List ℕ) Fault
group_octets group = hex_octets (decode_of (digits_of group))

-- `none`, and then only blanks
abbrev pub is_none_before_blanks : List ℕ → Bool
is_none_before_blanks (a ∷ b ∷ c ∷ d ∷ more) =
    a == 110 && (b == 111 && (c == 110 && (d == 101 && list_all is_blank more)))
is_none_before_blanks _ = false

-- `none`, with or without blanks around it
abbrev pub is_none_alone : List ℕ → Bool
is_none_alone text = is_none_before_blanks (after_blanks text)

-- the octets of all groups; a group between two adjacent blanks is empty
abbrev pub grouped_octets : List ℕ → Result (List ℕ) Fault
grouped_octets text = all_said group_octets (slice_split is_blank text)

-- the octets of a text: `none` alone gives no octets
abbrev pub loose_octets : List ℕ → Result (List ℕ) Fault
loose_octets text = if is_none_alone text then Ok [] else grouped_octets text
