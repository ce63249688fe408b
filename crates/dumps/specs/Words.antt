-- The words of octets in a source, of at most four characters.
use Rattle.std.specs.Prelude.{ℕ, ◌==◌, ◌&&◌, ◌||◌, nat_le, Bool, true, false, Option, Some, None, if◌then◌else◌}
use Rattle.dumps.specs.Characters.{digit, is_digit, is_pair, octet_at}
use Rattle.dumps.specs.declared.word.Word.{Word}
use Rattle.dumps.specs.declared.word.Word.TheVariants.{Empty, One, Two, Three, Four}
use Rattle.dumps.specs.declared.word.Writing.{Writing}
use Rattle.dumps.specs.declared.word.Writing.TheVariants.{Plain, Marked, Suffixed, Escaped}

abbrev pub longer : Word → ℕ → Option Word
longer Empty x = Some (One x)
longer (One a) x = Some (Two a x)
longer (Two a b) x = Some (Three a b x)
longer (Three a b c) x = Some (Four a b c x)
longer (Four a b c d) x = None

abbrev pub written : Writing → Option ℕ → Option (Writing × ℕ)
written writing (Some octet) = Some (writing, octet)
written writing None = None

abbrev pub pair_of : ℕ → ℕ → Option ℕ
pair_of x y = if is_pair x y then Some (octet_at x y) else None

-- 0x or 0X
abbrev pub is_mark : ℕ → ℕ → Bool
is_mark a b = a == 48 && (b == 120 || b == 88)

-- \x
abbrev pub is_escape : ℕ → ℕ → Bool
is_escape a b = a == 92 && b == 120

-- one digit after its mark
abbrev pub marked : ℕ → Option (Writing × ℕ)
marked x = if digit x == 16 then None else Some (Marked, digit x)

-- two digits before h or H
abbrev pub suffixed : ℕ → ℕ → ℕ → Option (Writing × ℕ)
suffixed a b c = if c == 104 || c == 72 then written Suffixed (pair_of a b) else None

-- the octet of a word, and how it is written: 3B, 3Bh, 0x0, 0x3B or \x3b
abbrev pub octet_of : Word → Option (Writing × ℕ)
octet_of (Two a b) = written Plain (pair_of a b)
octet_of (Three a b c) = if is_mark a b then marked c else suffixed a b c
octet_of (Four a b c d) =
    if is_mark a b then written Marked (pair_of c d)
    else (if is_escape a b then written Escaped (pair_of c d)
    else None)
octet_of _ = None

-- a pair with a letter, or a word longer than a pair
abbrev pub has_letter : Word → Bool
has_letter (Two a b) = nat_le 58 a || nat_le 58 b
has_letter (Three a b c) = true
has_letter (Four a b c d) = true
has_letter _ = false

-- b or B, before a quote
abbrev pub is_prefix : Word → Bool
is_prefix (One a) = a == 98 || a == 66
is_prefix _ = false

-- the first character of a word, 0 for an empty word
abbrev pub first_of : Word → ℕ
first_of Empty = 0
first_of (One a) = a
first_of (Two a b) = a
first_of (Three a b c) = a
first_of (Four a b c d) = a

-- only hexadecimal digits
abbrev pub all_digits : Word → Bool
all_digits Empty = false
all_digits (One a) = is_digit a
all_digits (Two a b) = is_digit a && is_digit b
all_digits (Three a b c) = is_digit a && (is_digit b && is_digit c)
all_digits (Four a b c d) = is_digit a && (is_digit b && (is_digit c && is_digit d))

abbrev pub is_one : Word → Bool
is_one (One a) = true
is_one _ = false

-- byte or new
abbrev pub is_type : Word → Bool
is_type (Three a b c) = a == 110 && (b == 101 && c == 119)
is_type (Four a b c d) = a == 98 && (b == 121 && (c == 116 && d == 101))
is_type _ = false

-- u8
abbrev pub is_suffix : Word → Bool
is_suffix (Two a b) = a == 117 && b == 56
is_suffix _ = false
