-- The notes on a text of standard input: that it isn't in its form, or that it is also a dump.
use Rattle.std.specs.Prelude.{ℕ, nat_le, nat_lt, max, not, Bool, true, false, ◌&&◌, ◌||◌, ◌+◌, ◌-◌, ◌%◌, List, ◌++◌, [], ◌∷◌, codes, decimal, drop, encode_utf8, is_some, length, slice_get, take, unwrap_or, ◌==◌, Option, Some, None, if◌then◌else◌, Result, Ok, Err}
use Rattle.std.specs.Char.{is_ascii_hexdigit, is_ascii_whitespace}
use Rattle.std.specs.List.{repeat, suffix_len}
use Rattle.hex.specs.Hex.{encode_upper}
use Rattle.octet_core.specs.Words.{is_blank}
use Rattle.program_words.specs.Given.{octets_in}
use Rattle.program_words.specs.declared.fault.Fault.{Fault}
use Rattle.program_words.specs.declared.given.Form.{Form}
use Rattle.program_words.specs.declared.given.Form.TheVariants as form
use Rattle.dumps.specs.Dump.{begins_with_offset}
use Rattle.dumps.specs.DumpStop.{dump_stop}
use Rattle.dumps.specs.OctalWords.{is_octal_words}
use Rattle.dumps.specs.SourceStop.{source_stop}
use Rattle.dumps.specs.declared.no_dump.DumpWrong.{DumpWrong}
use Rattle.dumps.specs.declared.no_source.SourceWrong.{SourceWrong}
use Rattle.dumps.specs.declared.no_source.SourceWrong.TheVariants as source
use Rattle.explainer.specs.Sentences.{dump_sentence, form_text}
use Rattle.explainer.specs.declared.hexadecimal.Wrong.{Wrong}
use Rattle.explainer.specs.declared.hexadecimal.Wrong.TheVariants.{Digit, Odd, Mark, NoReply, Third}

-- ---- a place of a text

-- a place of a text: its line and column, what is wrong there, the line, and a mark under the place
abbrev pub place_note : ℕ → ℕ → List ℕ → List ℕ → ℕ → List ℕ
place_note number column what line before =
    codes "line " ++ (decimal number ++ (codes ", column " ++ (decimal column
    ++ (codes ": " ++ (what ++ (codes "\n" ++ (line ++ (codes "\n"
    ++ (repeat before (codes " ") ++ codes "^\n")))))))))

-- the number of the line that has a place, from 1, and where it begins; `line` is that of the octets up to here
abbrev pub line_from : ℕ → ℕ × ℕ → ℕ → List ℕ → ℕ × ℕ
line_from at line place [] = line
line_from at line place (x ∷ more) =
    line_from (at + 1) (if x == 10 && nat_lt at place then (line.0 + 1, at + 1) else line) place more

abbrev pub is_printable : ℕ → Bool
is_printable x = nat_le 32 x && nat_le x 126

-- an octet as a character, or a question mark if it isn't printable
abbrev pub character : ℕ → ℕ
character x = if is_printable x then x else 63

-- the characters of a line up to its end
abbrev pub line_shown : List ℕ → List ℕ
line_shown [] = []
line_shown (x ∷ more) = if x == 10 || x == 13 then [] else encode_utf8 (character x) ++ line_shown more

-- the place of the first character that is shown: at most 40 characters of the line come before the marked place
abbrev pub shown_from : ℕ → ℕ → ℕ
shown_from start place = max start (place - 40)

-- a place of a text in this line, with what there is to say about it
abbrev pub marked_in : List ℕ → ℕ → List ℕ → ℕ × ℕ → List ℕ
marked_in text place what (number, start) = place_note number (place - start + 1) what
    (line_shown (take 60 (drop (shown_from start place) text))) (place - shown_from start place)

abbrev pub marked_text : List ℕ → ℕ → List ℕ → List ℕ
marked_text text place what = marked_in text place what (line_from 0 (1, 0) place text)

-- the name of an octet: its character, or its digits if it isn't printable
abbrev pub octet_named : ℕ → List ℕ
octet_named x = if is_printable x then codes "'" ++ (encode_utf8 x ++ codes "'")
    else codes "the octet " ++ encode_upper (x ∷ [])

-- a place of a text; for the end of the text, the place after its last character that isn't blank
abbrev pub shown_place : List ℕ → ℕ → ℕ
shown_place text place = if nat_lt place (length text) then place
    else length (take (length text - suffix_len is_ascii_whitespace text) text)

-- ---- hexadecimal

-- what is wrong at a place, in words
abbrev pub wrong_said : Wrong → List ℕ
wrong_said (Digit x) = octet_named x ++ codes " isn't a hexadecimal digit"
wrong_said Odd = codes "this group has an odd number of digits"
wrong_said Mark = codes "digits must follow this 0x"
wrong_said NoReply = codes "a reply must follow the command"
wrong_said Third = codes "a line has only a command and a reply"

-- two octets are a 0x
abbrev pub is_mark : ℕ → ℕ → Bool
is_mark last x = last == 48 && (x == 120 || x == 88)

-- an octet is allowed after these two: a digit, a blank, or the x of a 0x that begins a group
abbrev pub may_stand : ℕ → ℕ → ℕ → Bool
may_stand ahead last x = is_ascii_hexdigit x || (is_blank x || (is_blank ahead && is_mark last x))

-- the first octet from here on, after these two, that isn't allowed
abbrev pub stray_from : ℕ → ℕ → ℕ → List ℕ → Option (ℕ × Wrong)
stray_from place ahead last [] = None
stray_from place ahead last (x ∷ text) =
    if may_stand ahead last x then stray_from (place + 1) last x text else Some (place, Digit x)

-- what is wrong with a group of this many octets that ends here, after these two
abbrev pub group_end : ℕ → ℕ → ℕ → ℕ → Option (ℕ × Wrong)
group_end place count ahead last =
    if count == 2 && is_mark ahead last then Some (place - count, Mark)
    else (if count % 2 == 1 then Some (place - count, Odd) else None)

-- how many octets the group has after one more octet
abbrev pub count_after : ℕ → ℕ → ℕ
count_after count x = if is_blank x then 0 else count + 1

-- the first group that isn't pairs of digits; the unfinished group has this many octets here, after these two
abbrev pub group_from : ℕ → ℕ → ℕ → ℕ → List ℕ → Option (ℕ × Wrong)
group_from place count ahead last [] = group_end place count ahead last
group_from place count ahead last (x ∷ text) =
    if is_blank x && is_some (group_end place count ahead last) then group_end place count ahead last
    else group_from (place + 1) (count_after count x) last x text

abbrev pub or_group : Option (ℕ × Wrong) → List ℕ → Option (ℕ × Wrong)
or_group (Some stop) text = Some stop
or_group None text = group_from 0 0 32 32 text

-- the first wrong place of a text in hexadecimal: a wrong octet, or else a wrong group
abbrev pub hex_stop : List ℕ → Option (ℕ × Wrong)
hex_stop text = or_group (stray_from 0 32 32 text) text

abbrev pub wrong_note : List ℕ → Option (ℕ × Wrong) → List ℕ
wrong_note text None = []
wrong_note text (Some (place, wrong)) = marked_text text place (wrong_said wrong)

-- the note on the first wrong place of a line, by its column, counted from 1
abbrev pub column_note : Option (ℕ × Wrong) → List ℕ
column_note None = []
column_note (Some (place, wrong)) =
    codes "column " ++ (decimal (place + 1) ++ (codes ": " ++ (wrong_said wrong ++ codes "\n")))

-- ---- dumps and sources

abbrev pub dump_note : List ℕ → Option (ℕ × DumpWrong) → List ℕ
dump_note text None = []
dump_note text (Some (place, wrong)) = marked_text text (shown_place text place) (dump_sentence wrong)

-- what is wrong with a text that isn't a source
abbrev pub source_said : List ℕ → ℕ → SourceWrong → List ℕ
source_said text place source.Character =
    octet_named (unwrap_or (slice_get text place) 0) ++ codes " isn't allowed here"
source_said text place source.Word = codes "this isn't an octet, or it is written in another way than those before"
source_said text place source.Open = codes "a string, a comment or a declaration isn't closed"
source_said text place source.TwoWays = codes "these octets can be read in two ways"

abbrev pub source_note : List ℕ → Option (ℕ × SourceWrong) → List ℕ
source_note text None = []
source_note text (Some (place, wrong)) = marked_text text (shown_place text place) (source_said text place wrong)

-- ---- all forms

-- the note on the first wrong place of a text in a form
abbrev pub first_note : Form → List ℕ → List ℕ
first_note form.Hex text = wrong_note text (hex_stop text)
first_note form.Octets text = []
first_note form.Dump text = dump_note text (dump_stop text)
first_note form.Source text = source_note text (source_stop text)

abbrev pub is_form : Form → Form → Bool
is_form form.Hex form.Hex = true
is_form form.Octets form.Octets = true
is_form form.Dump form.Dump = true
is_form form.Source form.Source = true
is_form _ _ = false

-- a text is in a form
abbrev pub is_taken : Result (List ℕ) Fault → Bool
is_taken (Ok octets) = true
is_taken (Err fault) = false

abbrev pub takes : Form → List ℕ → Bool
takes other text = is_taken (octets_in other text)

-- a byte order mark of UTF-8 or UTF-16
abbrev pub begins_with_mark : List ℕ → Bool
begins_with_mark (a ∷ b ∷ c ∷ more) = (a == 239 && (b == 187 && c == 191))
    || ((a == 254 && b == 255) || (a == 255 && b == 254))
begins_with_mark (a ∷ b ∷ []) = (a == 254 && b == 255) || (a == 255 && b == 254)
begins_with_mark _ = false

abbrev pub mark_said : List ℕ → List ℕ
mark_said text = if begins_with_mark text
    then codes "standard input: this text begins with a byte order mark, which no form allows\n" else []

-- hexadecimal would read the offsets or the words of a text as other octets
abbrev pub has_other_octets : List ℕ → Bool
has_other_octets text = begins_with_offset text || is_octal_words text

-- The option for another form that reads a text, as a line. It is never hexadecimal for a text with offsets or octal
-- words, since hexadecimal would read them as other octets.
abbrev pub other_text : Form → List ℕ → List ℕ
other_text given text =
    if not (is_form given form.Hex) && (not (has_other_octets text) && takes form.Hex text)
    then codes "--stdin hex reads this text\n"
    else (if not (is_form given form.Dump) && takes form.Dump text then codes "--stdin dump reads this text\n"
    else (if not (is_form given form.Source) && takes form.Source text then codes "--stdin source reads this text\n"
    else []))

-- the note on that place, on a byte order mark, on how to write octets in the form, and on another form that reads the
-- text
abbrev pub text_note : Form → List ℕ → List ℕ
text_note given text = first_note given text ++ (mark_said text ++ (form_text given ++ other_text given text))

-- ---- texts that hexadecimal reads as other octets

-- a text that is read as hexadecimal is also a dump of some octets
abbrev pub offsets_said : Result (List ℕ) Fault → List ℕ
offsets_said (Ok octets) = if length octets == 0 then [] else codes
    "standard input: this text is also a dump, and --stdin hex reads its offsets as octets; --stdin dump skips them\n"
offsets_said (Err fault) = []

-- a text that is read as hexadecimal is words of od
abbrev pub words_said : List ℕ
words_said = codes
    "standard input: od wrote two octets as six octal digits, which --stdin hex reads as three octets; use od -tx1\n"

-- a dump without offsets has the same octets in hexadecimal
abbrev pub offsets_note : List ℕ → List ℕ
offsets_note text =
    if is_octal_words text then words_said
    else (if begins_with_offset text then offsets_said (octets_in form.Dump text)
    else [])
