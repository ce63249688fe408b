-- Numbers as decimal text.
use Rattle.std.specs.Prelude.{ℕ, ◌&&◌, ◌==◌, not, nat_le, List, [], ◌∷◌, length, Bool, false, Option, Some, None, if◌then◌else◌}
use Rattle.std.specs.List.{list_all}
use Rattle.std.specs.Char.{is_ascii_digit}
use Rattle.std.specs.Str.Parse.{digits_value}

-- 1 to 15 decimal digits without a leading 0, or 0 itself
abbrev pub is_decimal : List ℕ → Bool
is_decimal [] = false
is_decimal (digit ∷ []) = is_ascii_digit digit
is_decimal (first ∷ next ∷ digits) = not (first == 48) &&
    (nat_le (length (first ∷ next ∷ digits)) 15 && list_all is_ascii_digit (first ∷ next ∷ digits))

-- the number that such a text stands for
abbrev pub decimal_number : List ℕ → Option ℕ
decimal_number text = if is_decimal text then Some (digits_value 10 text) else None
