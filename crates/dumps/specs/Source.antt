-- Octets as programs write them: what each character of a source changes.
use Rattle.std.specs.Prelude.{ℕ, ◌==◌, ◌&&◌, ◌||◌, not, List, [], ◌∷◌, ◌++◌, Bool, true, false, Option, Some, None, is_some, Result, Ok, Err, if◌then◌else◌}
use Rattle.dumps.specs.Characters.{is_digit}
use Rattle.dumps.specs.Dump.{◌>>=◌}
use Rattle.dumps.specs.Heads.{after_declaration, in_count, in_head, in_name, in_size, is_name, long, may_name}
use Rattle.dumps.specs.Strings.{in_string}
pub use Rattle.dumps.specs.Turns.{and_octet, ended, ended_by, fits, is_between, is_cut, is_letter, is_listing, is_part, is_quote, is_same, is_skipped, is_space, longer_by, taken_octet, then_now, with_declaration, with_end, with_list, with_octet, with_parts, with_place, with_prefix, with_word, Turn}
use Rattle.dumps.specs.Words.{all_digits, first_of, is_prefix, longer}
use Rattle.dumps.specs.declared.fault.DumpFault.{DumpFault}
use Rattle.dumps.specs.declared.fault.DumpFault.TheVariants.{Form}
use Rattle.dumps.specs.declared.turn.Now.{Now}
use Rattle.dumps.specs.declared.turn.Around.{Around}
use Rattle.dumps.specs.declared.turn.Around.TheVariants.{Nothing, Label, Typed, Declared, Done}
use Rattle.dumps.specs.declared.turn.Place.{Place}
use Rattle.dumps.specs.declared.turn.Place.TheVariants as place
use Rattle.dumps.specs.declared.word.Word.{Word}
use Rattle.dumps.specs.declared.word.Word.TheVariants.{Empty, One}
use Rattle.dumps.specs.declared.word.Writing.{Writing}
use Rattle.dumps.specs.declared.word.Writing.TheVariants.{Plain, Escaped}

-- ---- at each place

abbrev pub is_labelled : Around → Bool
is_labelled Label = true
is_labelled Typed = true
is_labelled _ = false

abbrev pub is_typed : Around → Bool
is_typed Typed = true
is_typed _ = false

abbrev pub is_declared : Around → Bool
is_declared Declared = true
is_declared _ = false

abbrev pub is_done : Around → Bool
is_done Done = true
is_done _ = false

-- a character that isn't part of a word, after a word
abbrev pub mark_in_code : ℕ → Now → Option Now
mark_in_code x now =
    if is_between x then Some now
    else (if x == 59 && is_declared now.around then Some (with_end now)
    else (if x == 61 && (is_labelled now.around && not (is_some now.writing)) then Some (with_declaration now)
    else (if is_listing x || x == 38 then Some (with_list now)
    else (if x == 92 then Some (with_word (One 92) now)
    else (if x == 34 then Some (with_place place.Double now)
    else (if x == 39 then Some (with_place place.Single now)
    else (if x == 47 then Some (with_place place.Slash now)
    else (if x == 35 then Some (with_place place.Line now)
    else None))))))))

-- one more character of a word; a word longer than an octet may begin a head
abbrev pub part_in_code : Now → ℕ → Option Word → Turn
part_in_code now x (Some word) = Some (with_word word now, None)
part_in_code now x None = if may_name now
    && (is_letter (first_of now.word) && not (all_digits now.word && is_digit x))
    then Some (with_word long (with_place place.Head now), None) else None

-- the string of octets that a quote begins
abbrev pub string_at : ℕ → Place
string_at x = if x == 34 then place.DoubleString else place.SingleString

abbrev pub among_octets : Now → ℕ → Turn
among_octets now x =
    if is_part x then part_in_code now x (longer now.word x)
    else (if is_quote x && is_prefix now.word then Some (with_prefix (string_at x) now, None)
    else (if is_name now then in_head (with_place place.Head now) x
    else then_now (ended now) (mark_in_code x)))

abbrev pub in_code : Now → ℕ → Turn
in_code now x = if is_done now.around then after_declaration now x else among_octets now x

abbrev pub mark_in_quotes : ℕ → ℕ → Now → Option Now
mark_in_quotes quote x now =
    if x == quote then Some (with_place place.Code now)
    else (if is_between x then Some (with_parts now)
    else (if is_listing x then Some (with_list (with_parts now))
    else (if x == 92 then Some (with_word (One 92) now)
    else None)))

abbrev pub begun : ℕ → Now → Option Now
begun x now = Some (with_word (One x) now)

abbrev pub in_quotes : ℕ → Now → ℕ → Turn
in_quotes quote now x =
    if is_cut now.word x then then_now (ended now) (begun x)
    else (if is_part x then longer_by now (longer now.word x)
    else then_now (ended now) (mark_in_quotes quote x))

-- the place after a character of a comment
abbrev pub after_slash : ℕ → Option Place
after_slash x = if x == 47 then Some place.Line else (if x == 42 then Some place.Block else None)

abbrev pub in_line : ℕ → Place
in_line x = if x == 10 || x == 13 then place.Code else place.Line

abbrev pub in_block : ℕ → Place
in_block x = if x == 42 then place.Star else place.Block

abbrev pub after_star : ℕ → Place
after_star x = if x == 47 then place.Code else in_block x

abbrev pub placed : Now → Option Place → Turn
placed now (Some place) = Some (with_place place now, None)
placed now None = None

abbrev pub turn_at : Place → Now → ℕ → Turn
turn_at place.Code now x = in_code now x
turn_at place.Double now x = in_quotes 34 now x
turn_at place.Single now x = in_quotes 39 now x
turn_at place.DoubleString now x = in_string 34 now.word now x
turn_at place.SingleString now x = in_string 39 now.word now x
turn_at place.Head now x = in_head now x
turn_at place.Size now x = in_size now x
turn_at place.Name now x = in_name now x
turn_at place.Count now x = in_count now x
turn_at place.Slash now x = placed now (after_slash x)
turn_at place.Line now x = placed now (Some (in_line x))
turn_at place.Block now x = placed now (Some (in_block x))
turn_at place.Star now x = placed now (Some (after_star x))

-- ---- a text

abbrev pub may_end_at : Place → Bool
may_end_at place.Code = true
may_end_at place.Line = true
may_end_at _ = false

-- the octets can be read in only one way: a list of pairs without a letter could be decimal numbers, blanks between
-- escapes are characters, and the characters of a string of octets could be pairs
abbrev pub is_one_way : Option Writing → Now → Bool
is_one_way None now = true
is_one_way (Some Plain) now = not (is_typed now.around) && (not now.prefixed && (not now.listed || now.lettered))
is_one_way (Some Escaped) now = not (is_typed now.around) && (not now.parted && (not now.prefixed || now.lettered))
is_one_way (Some _) now = not (is_typed now.around) && not now.prefixed

abbrev pub those : Option ℕ → List ℕ
those (Some octet) = octet ∷ []
those None = []

-- the octet that ends with the text, if one does
abbrev pub last_octets : Turn → Result (List ℕ) DumpFault
last_octets (Some (now, octet)) =
    if may_end_at now.place && is_one_way now.writing now then Ok (those octet) else Err Form
last_octets None = Err Form

-- the octet that ended, and those after it
abbrev pub and_then : Turn → (Now → Result (List ℕ) DumpFault) → Result (List ℕ) DumpFault
and_then (Some (now, octet)) rest = rest now >>= (λ more. Ok (those octet ++ more))
and_then None rest = Err Form

-- the octets of the rest of a text
abbrev pub octets_from : Now → List ℕ → Result (List ℕ) DumpFault
octets_from now [] = last_octets (ended now)
octets_from now (x ∷ text) = and_then (turn_at now.place now x) (λ next. octets_from next text)

abbrev pub at_first : Now
at_first = record {
  word = Empty;
  place = place.Code;
  writing = None;
  listed = false;
  lettered = false;
  parted = false;
  prefixed = false;
  around = Nothing;
}

abbrev pub source_octets : List ℕ → Result (List ℕ) DumpFault
source_octets text = octets_from at_first text
