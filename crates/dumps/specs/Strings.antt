-- Strings of octets, as Python and Rust write them with a b before them: each character is an octet.
use Rattle.std.specs.Prelude.{ℕ, ◌==◌, ◌||◌, not, Bool, true, Option, Some, None, if◌then◌else◌}
use Rattle.dumps.specs.Characters.{is_digit, is_pair, is_within, octet_at}
use Rattle.dumps.specs.Turns.{is_between, is_listing, with_character, with_place, with_word, Turn}
use Rattle.dumps.specs.declared.turn.Now.{Now}
use Rattle.dumps.specs.declared.turn.Place.TheVariants as place
use Rattle.dumps.specs.declared.word.Word.{Word}
use Rattle.dumps.specs.declared.word.Word.TheVariants.{Empty, One, Two, Three}

-- a character that could come in a text of pairs
abbrev pub is_of_pairs : ℕ → Bool
is_of_pairs x = is_digit x || (is_between x || is_listing x)

-- a plain character, the quote that ends the string, or a \
abbrev pub plain_character : ℕ → Now → ℕ → Turn
plain_character quote now x =
    if x == quote then Some (with_place place.Code now, None)
    else (if x == 92 then Some (with_word (One 92) now, None)
    else (if is_within 32 126 x then Some (with_character (not (is_of_pairs x)) now, Some x)
    else None))

-- the octet of one character after a \
abbrev pub escaped : ℕ → Option ℕ
escaped x =
    if x == 110 then Some 10
    else (if x == 114 then Some 13
    else (if x == 116 then Some 9
    else (if x == 92 || (x == 39 || x == 34) then Some x
    else None)))

abbrev pub character : Now → Option ℕ → Turn
character now (Some octet) = Some (with_character true now, Some octet)
character now None = None

abbrev pub after_backslash : Now → ℕ → Turn
after_backslash now x = if x == 120 then Some (with_word (Two 92 120) now, None) else character now (escaped x)

abbrev pub first_digit : Now → ℕ → Turn
first_digit now x = if is_digit x then Some (with_word (Three 92 120 x) now, None) else None

abbrev pub last_digit : Now → ℕ → ℕ → Turn
last_digit now high x = character now (if is_pair high x then Some (octet_at high x) else None)

abbrev pub in_string : ℕ → Word → Now → ℕ → Turn
in_string quote Empty now x = plain_character quote now x
in_string quote (One a) now x = after_backslash now x
in_string quote (Two a b) now x = first_digit now x
in_string quote (Three a b high) now x = last_digit now high x
in_string quote _ now x = None
