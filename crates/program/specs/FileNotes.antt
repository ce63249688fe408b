-- Notes on the lines of a file.
use Rattle.std.specs.Prelude.{◌≡◌, ◌≢◌, ℕ, ◌+◌, ◌-◌, ◌==◌, ◌||◌, ◌&&◌, nat_le, nat_lt, Bool, false, List, [], ◌∷◌, ◌++◌, bytes_eq, codes, encode_utf8, length, take, Option, Some, None, if◌then◌else◌}
use Rattle.std.specs.List.{position_from, starts_with}
use Rattle.std.specs.Str.{trim_end}
use Rattle.exchange_text.specs.Exchange.{ExchangeParts}
use Rattle.exchange_text.specs.declared.fault.ExchangeFault.{ExchangeFault}
use Rattle.exchange_text.specs.declared.fault.ExchangeFault.TheVariants.{Header, End, Word, Hex, Falls, Memory}
use Rattle.exchange_core.specs.Waiting.{IsWaiting}
use Rattle.block_core.specs.declared.side.Side.{Side}
use Rattle.exchange_core.specs.declared.waiting.Waiting.{Waiting}
use Rattle.explainer.specs.Notes.{line_note, IsSessionNote}
use Rattle.explainer.specs.Texts.{character}
use Rattle.program.specs.Waits.{waiting_said}

-- the line that has a fault of a file
abbrev pub line_of : ExchangeFault → ℕ
line_of Header = 1
line_of (End line) = line
line_of (Word line) = line
line_of (Hex line) = line
line_of (Falls line) = line
line_of Memory = 0

-- ---- a line by its number

-- how many lines are left after an octet, which may end a line
abbrev pub lines_left : ℕ → ℕ → ℕ
lines_left left x = if x == 10 then left - 1 else left

-- a text from the line with this number on, counted from 1; empty if there is no such line
abbrev pub line_from : ℕ → List ℕ → List ℕ
line_from number [] = []
line_from number (x ∷ text) = if nat_le number 1 then x ∷ text else line_from (lines_left number x) text

-- the line at the front of a text, with a question mark for each octet that isn't a printable character
abbrev pub line_shown : List ℕ → List ℕ
line_shown [] = []
line_shown (x ∷ text) = if x == 10 then [] else encode_utf8 (character x) ++ line_shown text

-- the note: a line of a text, cut to the length that is shown, and what there is to say about it
abbrev pub line_text : List ℕ → ℕ → List ℕ → List ℕ
line_text text number what = line_note number (line_shown (take 80 (line_from number text))) what

-- ---- what is expected in a line

-- a line ends with a carriage return, if this octet comes before the text
abbrev pub returns_after : ℕ → List ℕ → Bool
returns_after last [] = last == 13
returns_after last (x ∷ text) = if x == 10 then last == 13 else returns_after x text

abbrev pub has_return : List ℕ → ℕ → Bool
has_return text number = returns_after 10 (line_from number text)

abbrev pub return_said : List ℕ
return_said = codes "it ends with a carriage return; expected: a line feed alone"

-- the byte order mark of UTF-8
abbrev pub begins_with_mark : List ℕ → Bool
begins_with_mark (a ∷ b ∷ c ∷ more) = a == 239 && (b == 187 && c == 191)
begins_with_mark _ = false

abbrev pub header_at : List ℕ → List ℕ
header_at text =
    if begins_with_mark text then codes
    "it begins with a byte order mark; expected: scard-exchange 1 or scard-exchange 2, and a line feed"
    else (if has_return text 1 then return_said
    else codes "expected: scard-exchange 1 or scard-exchange 2, and a line feed")

abbrev pub octets_at : List ℕ → ℕ → List ℕ
octets_at text number = if has_return text number then return_said
    else codes "expected: OCTETS in upper-case hexadecimal, two digits each, or none; HH is one octet"

-- an octet ends the first word of a line: a space or a line feed
abbrev pub ends_word : ℕ → Bool
ends_word x = x == 32 || x == 10

abbrev pub up_to : List ℕ → Option ℕ → List ℕ
up_to text None = text
up_to text (Some place) = take place text

abbrev pub first_word : List ℕ → List ℕ
first_word text = up_to text (position_from ends_word 0 text)

abbrev pub takes_octets : List ℕ → Bool
takes_octets word = bytes_eq word (codes "command") || (bytes_eq word (codes "answer")
    || (bytes_eq word (codes "reply") || bytes_eq word (codes "asked")))

abbrev pub takes_octet : List ℕ → Bool
takes_octet word =
    bytes_eq word (codes "ifsd") || (bytes_eq word (codes "time") || bytes_eq word (codes "ifsc"))

abbrev pub stands_alone : List ℕ → Bool
stands_alone word = bytes_eq word (codes "quiet") || (bytes_eq word (codes "ifs-set")
    || (bytes_eq word (codes "given-up") || bytes_eq word (codes "dead")))

-- what must come after a first word; for an unknown word, which words may come first
abbrev pub form_of : List ℕ → List ℕ
form_of word =
    if takes_octets word then codes "expected: this word and OCTETS"
    else (if takes_octet word then codes "expected: this word and HH"
    else (if stands_alone word then codes "expected: this word alone"
    else (if bytes_eq word (codes "t") then codes "expected: t OCTETS, t OCTETS lost or t OCTETS as OCTETS"
    else (if bytes_eq word (codes "c") then codes "expected: c OCTETS, c OCTETS lost or c OCTETS as OCTETS"
    else (if bytes_eq word (codes "at") then codes "expected: at N, N in 1 to 15 decimal digits, in version 2"
    else (if bytes_eq word (codes "note")
    then codes "expected: note TEXT, TEXT of 1 to 200 printable characters, in version 2"
    else codes "expected: a first word that a line can have, as command, t, c, asked, reply, answer or quiet"))))))

abbrev pub form_at : List ℕ → ℕ → List ℕ
form_at text number =
    if has_return text number then return_said
    else (if number == 2 then codes "expected: atr OCTETS" else form_of (first_word (line_from number text)))

-- what is expected in the line with a fault
abbrev pub expected : List ℕ → ExchangeFault → List ℕ
expected text Header = header_at text
expected text (End line) = codes "expected: a line feed at its end, and a line atr OCTETS after the header"
expected text (Word line) = form_at text line
expected text (Hex line) = octets_at text line
expected text (Falls line) = codes "expected: a number that isn't below that of an earlier line at N"
expected text Memory = []

-- what is expected in the line with a fault of a trace
abbrev pub expected_seen : List ℕ → ExchangeFault → List ℕ
expected_seen text (Word line) = codes
    "expected: t HEX or c HEX, with lost, parity or as HEX or not, quiet, reset, begins unknown, at N or until N"
expected_seen text (Hex line) = codes "expected: none, or an even number of hexadecimal digits"
expected_seen text fault = expected text fault

-- the note on the first fault of a text: its line, and what is expected there
abbrev pub fault_note : List ℕ → ExchangeFault → List ℕ
fault_note text fault = line_text text (line_of fault) (expected text fault)

abbrev pub trace_note : List ℕ → ExchangeFault → List ℕ
trace_note text fault = line_text text (line_of fault) (expected_seen text fault)

-- the same note, from the line alone
abbrev pub kept_note : List ℕ → ExchangeFault → List ℕ
kept_note line fault = line_note (line_of fault) (line_shown (take 80 line)) (expected_seen line fault)

-- ---- why an end differs from a line

-- why the end differs, by what it gives there, and whether that is past the lines of the file
abbrev pub reason : List ℕ → Bool → List ℕ
reason gives is_past =
    if starts_with (λ x y. x == y) gives (codes "refused ")
    then codes "the end refuses this call in the state that it is in"
    else (if bytes_eq gives (codes "nothing")
    then codes "this line has a turn of the end, which has none to give here"
    else (if is_past then codes "the file ends here, and no line has the last turn of the end"
    else codes
    "the end's turn has to be met by a line before anything else happens to it, and this is another line"))

-- For line 2 it is the note on the answer to reset, without the last line feed. For another line it also says what the
-- end waits for.
pub data IsWhy (e : ExchangeParts) (which : Side) (line : ℕ) (gives what : List ℕ) : Type 0 where
  no_session : (note : List ℕ) → line ≡ 2 → IsSessionNote e.atr note → what ≡ trim_end note
      → IsWhy e which line gives what
  otherwise : (waiting : Option Waiting) → line ≢ 2 → IsWaiting e.atr e.lines which line waiting
      → what ≡ reason gives (nat_lt (length e.lines + 2) line) ++ waiting_said gives waiting
      → IsWhy e which line gives what
