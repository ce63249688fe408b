-- Words of two octets as od writes them without an option: groups of six octal digits, between blanks.
use Rattle.std.specs.Prelude.{ℕ, ◌+◌, ◌==◌, ◌&&◌, ◌||◌, nat_lt, List, [], ◌∷◌, Bool, false, Option, Some, None, if◌then◌else◌}
use Rattle.octet_core.specs.Words.{is_blank}
use Rattle.dumps.specs.Characters.{is_within}

-- one more character: how many digits the group has then, and whether a whole group came
abbrev pub next_digit : ℕ → Bool → ℕ → Option (ℕ × Bool)
next_digit digits whole x =
    if is_within 48 55 x && nat_lt digits 6 then Some (digits + 1, whole)
    else (if is_blank x && (digits == 0 || digits == 6) then Some (0, whole || digits == 6)
    else None)

abbrev pub and_after : Option (ℕ × Bool) → (ℕ → Bool → Bool) → Bool
and_after (Some (digits, whole)) rest = rest digits whole
and_after None rest = false

abbrev pub words_from : ℕ → Bool → List ℕ → Bool
words_from digits whole [] = digits == 6 || (digits == 0 && whole)
words_from digits whole (x ∷ text) = and_after (next_digit digits whole x) (λ d w. words_from d w text)

-- one or more groups, and nothing else
abbrev pub is_octal_words : List ℕ → Bool
is_octal_words text = words_from 0 false text
