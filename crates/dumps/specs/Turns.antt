-- The state of a source, and what a word that ends gives.
use Rattle.std.specs.Prelude.{ℕ, ◌==◌, ◌&&◌, ◌||◌, Bool, true, false, Option, Some, None, is_some, if◌then◌else◌}
use Rattle.dumps.specs.Characters.{is_digit, is_pair, is_within}
use Rattle.dumps.specs.Words.{has_letter, is_suffix, is_type, octet_of}
use Rattle.dumps.specs.declared.turn.Now.{Now}
use Rattle.dumps.specs.declared.turn.Around.TheVariants.{Label, Typed, Declared, Done}
use Rattle.dumps.specs.declared.turn.Place.{Place}
use Rattle.dumps.specs.declared.turn.Place.TheVariants as place
use Rattle.dumps.specs.declared.word.Word.{Word}
use Rattle.dumps.specs.declared.word.Word.TheVariants.{Empty, Two}
use Rattle.dumps.specs.declared.word.Writing.{Writing}
use Rattle.dumps.specs.declared.word.Writing.TheVariants.{Plain, Marked, Suffixed, Escaped}

-- ---- characters

-- a letter or a decimal digit
abbrev pub is_part : ℕ → Bool
is_part x = is_within 48 57 x || (is_within 65 90 x || is_within 97 122 x)

-- a blank, a line end, : - or _
abbrev pub is_between : ℕ → Bool
is_between x = x == 32 || (x == 9 || (x == 10 || (x == 13 || (x == 58 || (x == 45 || x == 95)))))

-- a character that lists are written with: , ; { } [ ] ( )
abbrev pub is_listing : ℕ → Bool
is_listing x = x == 44 || (x == 59 || (x == 123 || (x == 125 || (x == 91 || (x == 93 || (x == 40 || x == 41))))))

-- a blank or a line end
abbrev pub is_space : ℕ → Bool
is_space x = x == 32 || (x == 9 || (x == 10 || x == 13))

abbrev pub is_letter : ℕ → Bool
is_letter x = is_within 65 90 x || is_within 97 122 x

abbrev pub is_quote : ℕ → Bool
is_quote x = x == 34 || x == 39

-- ---- the state after the text so far

abbrev pub with_word : Word → Now → Now
with_word word now = record {
  word = word;
  place = now.place;
  writing = now.writing;
  listed = now.listed;
  lettered = now.lettered;
  parted = now.parted;
  prefixed = now.prefixed;
  around = now.around;
}

abbrev pub with_place : Place → Now → Now
with_place place now = record {
  word = now.word;
  place = place;
  writing = now.writing;
  listed = now.listed;
  lettered = now.lettered;
  parted = now.parted;
  prefixed = now.prefixed;
  around = now.around;
}

abbrev pub with_list : Now → Now
with_list now = record {
  word = now.word;
  place = now.place;
  writing = now.writing;
  listed = true;
  lettered = now.lettered;
  parted = now.parted;
  prefixed = now.prefixed;
  around = now.around;
}

abbrev pub with_parts : Now → Now
with_parts now = record {
  word = now.word;
  place = now.place;
  writing = now.writing;
  listed = now.listed;
  lettered = now.lettered;
  parted = true;
  prefixed = now.prefixed;
  around = now.around;
}

-- in a string of octets
abbrev pub with_prefix : Place → Now → Now
with_prefix place now = record {
  word = Empty;
  place = place;
  writing = now.writing;
  listed = now.listed;
  lettered = now.lettered;
  parted = now.parted;
  prefixed = true;
  around = now.around;
}

-- a word was an octet
abbrev pub with_octet : Writing → Now → Now
with_octet writing now = record {
  word = Empty;
  place = now.place;
  writing = Some writing;
  listed = now.listed;
  lettered = now.lettered || has_letter now.word;
  parted = now.parted;
  prefixed = now.prefixed;
  around = now.around;
}

-- a character of a string of octets was an octet; other: it couldn't be part of a pair
abbrev pub with_character : Bool → Now → Now
with_character other now = record {
  word = Empty;
  place = now.place;
  writing = Some Escaped;
  listed = now.listed;
  lettered = now.lettered || other;
  parted = now.parted;
  prefixed = now.prefixed;
  around = now.around;
}

-- a `:` ended a label; a label that ends with a digit could be octets, so no octets come before a `=`
abbrev pub with_label : Bool → Now → Now
with_label digits now = record {
  word = Empty;
  place = place.Code;
  writing = now.writing;
  listed = now.listed;
  lettered = now.lettered;
  parted = now.parted;
  prefixed = now.prefixed;
  around = if digits then Typed else Label;
}

-- octets come after a `=`, and decimal numbers are allowed too
abbrev pub with_declaration : Now → Now
with_declaration now = record {
  word = Empty;
  place = place.Code;
  writing = now.writing;
  listed = true;
  lettered = now.lettered;
  parted = now.parted;
  prefixed = now.prefixed;
  around = Declared;
}

-- a declaration ended
abbrev pub with_end : Now → Now
with_end now = record {
  word = Empty;
  place = place.Code;
  writing = now.writing;
  listed = now.listed;
  lettered = now.lettered;
  parted = now.parted;
  prefixed = now.prefixed;
  around = Done;
}

-- ---- words

abbrev pub is_same : Writing → Writing → Bool
is_same Plain Plain = true
is_same Marked Marked = true
is_same Suffixed Suffixed = true
is_same Escaped Escaped = true
is_same _ _ = false

-- all octets of a text are written in one way
abbrev pub fits : Option Writing → Writing → Bool
fits (Some writing) other = is_same writing other
fits None other = true

-- the state after a character, and the octet that ended before it
abbrev pub Turn : Type 0
Turn = Option (Now × Option ℕ)

abbrev pub taken_octet : Now → Option (Writing × ℕ) → Turn
taken_octet now (Some (writing, octet)) =
    if fits now.writing writing then Some (with_octet writing now, Some octet) else None
taken_octet now None = None

-- byte and new of Java, C# and Go give no octet, nor does Rust's u8 after an octet
abbrev pub is_skipped : Now → Word → Bool
is_skipped now word = is_type word || (is_suffix word && is_some now.writing)

-- a word ends
abbrev pub ended_by : Now → Word → Turn
ended_by now Empty = Some (now, None)
ended_by now word = if is_skipped now word then Some (with_word Empty now, None) else taken_octet now (octet_of word)

abbrev pub ended : Now → Turn
ended now = ended_by now now.word

-- one more character of a word
abbrev pub longer_by : Now → Option Word → Turn
longer_by now (Some word) = Some (with_word word now, None)
longer_by now None = None

-- in quotes, pairs may follow each other directly
abbrev pub is_cut : Word → ℕ → Bool
is_cut (Two a b) x = is_pair a b && is_digit x
is_cut _ x = false

-- an octet and the state after it
abbrev pub and_octet : Option ℕ → Option Now → Turn
and_octet octet (Some now) = Some (now, octet)
and_octet octet None = None

-- the state after the end of a word
abbrev pub then_now : Turn → (Now → Option Now) → Turn
then_now (Some (now, octet)) f = and_octet octet (f now)
then_now None f = None
