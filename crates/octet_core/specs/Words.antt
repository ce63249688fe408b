-- The words of a text, separated by blanks.
use Rattle.std.specs.Prelude.{◌||◌, ◌==◌, ℕ, drop, List, [], ◌∷◌, Bool, if◌then◌else◌}
use Rattle.std.specs.List.{before_first, position_or_len}

-- a space, a tab, or the end of a line: LF, CR
abbrev pub is_blank : ℕ → Bool
is_blank x = x == 32 || (x == 9 || (x == 10 || x == 13))

-- the text from its first octet that isn't a blank
abbrev pub after_blanks : List ℕ → List ℕ
after_blanks [] = []
after_blanks (x ∷ text) = if is_blank x then after_blanks text else x ∷ text

-- what comes before the next blank, and the rest from there on
abbrev pub at_blank : List ℕ → List ℕ × List ℕ
at_blank text = (before_first is_blank text, drop (position_or_len is_blank text) text)

-- the first word of a text, which is empty if the text has none, and the rest after it
abbrev pub first_word : List ℕ → List ℕ × List ℕ
first_word text = at_blank (after_blanks text)
