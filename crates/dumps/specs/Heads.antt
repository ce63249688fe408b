-- The text that may come before the octets of a source, and after them: a label or a declaration.
use Rattle.std.specs.Prelude.{ℕ, ◌==◌, ◌&&◌, ◌||◌, not, Bool, true, false, Option, Some, None, is_some, if◌then◌else◌}
use Rattle.dumps.specs.Characters.{is_digit, is_within}
use Rattle.dumps.specs.Turns.{is_letter, is_part, is_skipped, is_space, with_declaration, with_end, with_label, with_place, with_word, Turn}
use Rattle.dumps.specs.Words.{all_digits, first_of, is_one, longer, octet_of}
use Rattle.dumps.specs.declared.turn.Now.{Now}
use Rattle.dumps.specs.declared.turn.Around.{Around}
use Rattle.dumps.specs.declared.turn.Around.TheVariants.{Nothing, Label, Typed}
use Rattle.dumps.specs.declared.turn.Place.TheVariants as place
use Rattle.dumps.specs.declared.word.Word.{Word}
use Rattle.dumps.specs.declared.word.Word.TheVariants.{Empty, Four}

-- the word that stands for any longer word that isn't an octet
abbrev pub long : Word
long = Four 95 95 95 95

-- a word of a head with one more character; from the fifth on, only whether all are digits is kept
abbrev pub or_long : Bool → Word → Option Word → Word
or_long digits word (Some longer) = longer
or_long digits word None = if digits then word else long

abbrev pub is_open : Around → Bool
is_open Nothing = true
is_open Label = true
is_open Typed = true
is_open _ = false

-- a label or a declaration may begin: there is no octet yet, and no =
abbrev pub may_name : Now → Bool
may_name now = not (is_some now.writing) && is_open now.around

-- the unfinished word begins a label or a declaration: it begins with a letter, and isn't only hexadecimal digits
abbrev pub is_name : Now → Bool
is_name now = may_name now && (is_letter (first_of now.word)
    && (not (is_some (octet_of now.word)) && (not (all_digits now.word) && not (is_skipped now now.word))))

abbrev pub named : Option Now → Turn
named (Some now) = Some (now, None)
named None = None

-- a character after a word of a head: one that is allowed in it, [ ; or , before a size, or one that ends it
abbrev pub mark_in_head : ℕ → Bool → Now → Option Now
mark_in_head x digits now =
    if is_space x || (x == 42 || (x == 38 || (x == 46 || (x == 60 || (x == 62 || x == 93))))) then Some now
    else (if x == 95 then Some (with_word long now)
    else (if x == 91 || (x == 59 || x == 44) then Some (with_place place.Size now)
    else (if x == 58 then Some (with_label digits now)
    else (if x == 61 then Some (with_declaration now)
    else None))))

-- a word that could be octets
abbrev pub is_octets : Word → Bool
is_octets word = is_some (octet_of word) || (all_digits word && not (is_one word))

-- no word of a head may look like octets
abbrev pub in_head : Now → ℕ → Turn
in_head now x =
    if is_part x
    then Some (with_word (or_long (all_digits now.word && is_digit x) now.word (longer now.word x)) now, None)
    else (if is_octets now.word then None
    else named (mark_in_head x (all_digits now.word) (with_word Empty now)))

-- a character of a size, up to ] or >
abbrev pub in_size : Now → ℕ → Turn
in_size now x =
    if is_part x || (x == 95 || is_space x) then Some (now, None)
    else (if x == 93 || x == 62 then Some (with_place place.Head now, None)
    else None)

-- ---- after a declaration

-- a blank, a comment, or another declaration of a number
abbrev pub after_declaration : Now → ℕ → Turn
after_declaration now x =
    if is_space x || x == 59 then Some (now, None)
    else (if is_letter x then Some (with_place place.Name now, None)
    else (if x == 47 then Some (with_place place.Slash now, None)
    else (if x == 35 then Some (with_place place.Line now, None)
    else None)))

abbrev pub in_name : Now → ℕ → Turn
in_name now x =
    if is_part x || (x == 95 || is_space x) then Some (now, None)
    else (if x == 61 then Some (with_place place.Count now, None)
    else None)

-- decimal digits up to ;
abbrev pub in_count : Now → ℕ → Turn
in_count now x =
    if is_within 48 57 x || is_space x then Some (now, None)
    else (if x == 59 then Some (with_end now, None)
    else None)
