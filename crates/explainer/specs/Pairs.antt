-- The note on a text whose lines should be pairs of a session, and one isn't.
use Rattle.std.specs.Prelude.{ℕ, Bool, ◌+◌, ◌-◌, ◌%◌, List, ◌++◌, [], ◌∷◌, bytes_eq, codes, is_some, length, ◌==◌, Option, Some, None, if◌then◌else◌}
use Rattle.std.specs.Char.{is_ascii_hexdigit}
use Rattle.std.specs.List.{slice_split}
use Rattle.octet_core.specs.Words.{first_word}
use Rattle.program_words.specs.PairLines.{is_line_end}
use Rattle.explainer.specs.Texts.{wrong_note}
use Rattle.explainer.specs.declared.hexadecimal.Wrong.{Wrong}
use Rattle.explainer.specs.declared.hexadecimal.Wrong.TheVariants.{Digit, Odd, NoReply, Third}

-- ---- a word of octets, in hexadecimal or `none`

-- the first octet that isn't a digit
abbrev pub digit_from : ℕ → List ℕ → Option (ℕ × Wrong)
digit_from place [] = None
digit_from place (x ∷ word) = if is_ascii_hexdigit x then digit_from (place + 1) word else Some (place, Digit x)

abbrev pub or_odd : Option (ℕ × Wrong) → List ℕ → Option (ℕ × Wrong)
or_odd (Some stop) word = Some stop
or_odd None word = if length word % 2 == 1 then Some (0, Odd) else None

abbrev pub is_none : List ℕ → Bool
is_none word = bytes_eq word (codes "none")

abbrev pub wrong_word : List ℕ → Option (ℕ × Wrong)
wrong_word word = if is_none word then None else or_odd (digit_from 0 word) word

-- ---- a line

-- a place, moved by this many octets
abbrev pub placed : ℕ → Option (ℕ × Wrong) → Option (ℕ × Wrong)
placed start (Some (place, wrong)) = Some (start + place, wrong)
placed start None = None

abbrev pub or_later : Option (ℕ × Wrong) → Option (ℕ × Wrong) → Option (ℕ × Wrong)
or_later (Some stop) later = Some stop
or_later None later = later

-- the place of the first word of a text, by the word and what is left after it
abbrev pub word_place : List ℕ → List ℕ × List ℕ → ℕ
word_place text w = length text - length w.1 - length w.0

-- no word may come after the reply
abbrev pub third_stop : List ℕ → Option (ℕ × Wrong)
third_stop text = let w = first_word text in
    if length w.0 == 0 then None else Some (word_place text w, Third)

-- a reply must come after the command
abbrev pub reply_stop : List ℕ → Option (ℕ × Wrong)
reply_stop text = let w = first_word text in
    if length w.0 == 0 then Some (0, NoReply)
    else or_later (placed (word_place text w) (wrong_word w.0)) (placed (length text - length w.1) (third_stop w.1))

-- the first wrong place of a line; a line without a word has none
abbrev pub pair_stop : List ℕ → Option (ℕ × Wrong)
pair_stop line = let w = first_word line in
    if length w.0 == 0 then None
    else or_later (placed (word_place line w) (wrong_word w.0)) (placed (length line - length w.1) (reply_stop w.1))

-- ---- a text

-- the first wrong place of lines that begin at this place
abbrev pub lines_stop : ℕ → List (List ℕ) → Option (ℕ × Wrong)
lines_stop start [] = None
lines_stop start (line ∷ lines) = if is_some (pair_stop line) then placed start (pair_stop line)
    else lines_stop (start + (length line + 1)) lines

abbrev pub pairs_note : List ℕ → List ℕ
pairs_note text = wrong_note text (lines_stop 0 (slice_split is_line_end text)) ++ codes
    "standard input: a line is COMMAND REPLY, with blanks between; each is in hexadecimal, or none\n"
