-- The rows of a drawing: what each line of a recorded exchange adds, in order.
use Rattle.std.specs.Prelude.{ℕ, ◌+◌, ◌-◌, ◌==◌, nat_le, nat_lt, List, [], ◌∷◌, ◌++◌, Bool, true, false, codes, decimal, length, slice_index, take, Option, Some, None, if◌then◌else◌}
use Rattle.exchange_text.specs.Exchange.{ExchangeParts, is_added}
use Rattle.exchange_text.specs.Names.{name_text}
use Rattle.exchange_text.specs.Text.{octets_text}
use Rattle.exchange_text.specs.declared.line.Arrival.{Arrival}
use Rattle.exchange_text.specs.declared.line.Arrival.TheVariants.{Whole, Lost, Changed}
use Rattle.exchange_text.specs.declared.line.Line.{Line}
use Rattle.exchange_text.specs.declared.line.Line.TheVariants as line
use Rattle.exchange_text.specs.declared.name.Name.{Name}
use Rattle.exchange_text.specs.declared.name.Name.TheVariants as name
use Rattle.notes.specs.Says.{NoteText, pcb_says}
use Rattle.drawings.specs.declared.row.Course.{Course}
use Rattle.drawings.specs.declared.row.Course.TheVariants.{Arrives, Added}
use Rattle.drawings.specs.declared.row.Course.TheVariants as course
use Rattle.drawings.specs.declared.row.Row.{Row}
use Rattle.drawings.specs.declared.row.Row.TheVariants.{Said, Between, Block}
use Rattle.block_core.specs.Side.{other}
use Rattle.block_core.specs.declared.side.Side.{Side}
use Rattle.block_core.specs.declared.side.Side.TheVariants.{Terminal, Card}

-- ---- labels

-- the most octets in a row of a side, and in a row of a block; if there are more, so many fewer are shown
abbrev pub wide : ℕ
wide = 40

abbrev pub narrow : ℕ
narrow = 15

abbrev pub fewer : ℕ
fewer = 8

-- the most characters of a remark; if there are more, so many fewer are shown
abbrev pub longest_note : ℕ
longest_note = 68

abbrev pub fewer_of_note : ℕ
fewer_of_note = 18

-- that not everything is shown, and the whole count
abbrev pub rest_text : ℕ → List ℕ → List ℕ
rest_text count what = codes ".. " ++ (decimal count ++ what)

-- octets; if there are more than so many, the first of them and the whole count
abbrev pub shown_octets : ℕ → List ℕ → List ℕ
shown_octets most octets =
    if nat_le (length octets) most then octets_text octets
    else octets_text (take (most - fewer) octets) ++ rest_text (length octets) (codes " octets")

-- a word, and octets after it
abbrev pub message_label : List ℕ → List ℕ → List ℕ
message_label word octets = word ++ (codes " " ++ shown_octets wide octets)

abbrev pub moment_label : ℕ → List ℕ
moment_label moment = codes "at " ++ decimal moment

-- characters; if there are more than so many, the first of them and the whole count
abbrev pub cut_text : ℕ → List ℕ → List ℕ
cut_text most text =
    if nat_le (length text) most then text
    else take (most - fewer_of_note) text ++ rest_text (length text) (codes " characters")

abbrev pub note_label : List ℕ → List ℕ
note_label text = codes "note " ++ cut_text longest_note text

abbrev pub number_text : Option ℕ → List ℕ
number_text None = []
number_text (Some number) = decimal number

-- a note as words; octets without a note aren't a block
abbrev pub note_words : NoteText → List ℕ
note_words note =
    if length note.before == 0 then codes "no block"
    else note.before ++ (number_text note.number ++ note.after)

-- the first octet of a field of so many octets, or 0 if it has none
abbrev pub field_first : ℕ → ℕ → ℕ
field_first len first = if len == 0 then 0 else first

-- what a block says, from its PCB and the first octet of its field
abbrev pub block_words : List ℕ → List ℕ
block_words sent =
    if nat_lt (length sent) 4 then codes "no block"
    else note_words (pcb_says (slice_index sent 1) (field_first (slice_index sent 2) (slice_index sent 3)))

-- how a block arrived, unless it arrived as it was sent
abbrev pub fate : Arrival → List ℕ
fate Whole = []
fate Lost = codes "  lost"
fate (Changed octets) = codes "  damaged"

abbrev pub block_label : List ℕ → Arrival → List ℕ
block_label sent arrival = block_words sent ++ (codes "  " ++ (shown_octets narrow sent ++ fate arrival))

-- ---- rows

abbrev pub word_rows : Side → Name → List Row
word_rows side name = Said side (name_text name) ∷ []

abbrev pub message_rows : Side → List ℕ → List ℕ → List Row
message_rows side word octets = Said side (message_label word octets) ∷ []

-- the course of a block, from how it arrived and whether a line `note added` comes before it
abbrev pub course_of : Bool → Arrival → Course
course_of added Whole = Arrives
course_of true Lost = Added
course_of false Lost = course.Lost
course_of added (Changed octets) = Arrives

-- the octets that arrived instead of a damaged block
abbrev pub arrived_rows : Side → Arrival → List Row
arrived_rows side Whole = []
arrived_rows side Lost = []
arrived_rows side (Changed octets) = message_rows side (codes "arrives") octets

abbrev pub block_rows : ℕ → Bool → Side → List ℕ → Arrival → List Row
block_rows number added from sent arrival =
    Block number from (course_of added arrival) (block_label sent arrival) ∷ arrived_rows (other from) arrival

-- the calls and results of the terminal's application
abbrev pub terminal_rows : Line → List Row
terminal_rows (line.Command octets) = message_rows Terminal (codes "command") octets
terminal_rows (line.Ifsd size) = message_rows Terminal (codes "ifsd") (size ∷ [])
terminal_rows line.Quiet = word_rows Terminal name.Quiet
terminal_rows (line.Answer octets) = message_rows Terminal (codes "answer") octets
terminal_rows line.IfsSet = word_rows Terminal name.IfsSet
terminal_rows line.GivenUp = word_rows Terminal name.GivenUp
terminal_rows line.Dead = word_rows Terminal name.Dead
terminal_rows _ = []

-- the calls and results of the card's host
abbrev pub card_rows : Line → List Row
card_rows (line.Reply octets) = message_rows Card (codes "reply") octets
card_rows (line.Time multiple) = message_rows Card (codes "time") (multiple ∷ [])
card_rows (line.Ifsc size) = message_rows Card (codes "ifsc") (size ∷ [])
card_rows (line.Asked octets) = message_rows Card (codes "asked") octets
card_rows _ = []

-- the rows of a line; number is its number if it is a block, and added says whether a line `note added` comes before it
abbrev pub line_rows : ℕ → Bool → Line → List Row
line_rows number added (line.FromTerminal sent arrival) = block_rows number added Terminal sent arrival
line_rows number added (line.FromCard sent arrival) = block_rows number added Card sent arrival
line_rows number added (line.Moment moment) = Between (moment_label moment) ∷ []
line_rows number added (line.Note text) = Between (note_label text) ∷ []
line_rows number added (line.Reply octets) = card_rows (line.Reply octets)
line_rows number added (line.Time multiple) = card_rows (line.Time multiple)
line_rows number added (line.Ifsc size) = card_rows (line.Ifsc size)
line_rows number added (line.Asked octets) = card_rows (line.Asked octets)
line_rows number added said = terminal_rows said

-- how many blocks are sent after a line
abbrev pub sent_after : ℕ → Line → ℕ
sent_after sent (line.FromTerminal octets arrival) = sent + 1
sent_after sent (line.FromCard octets arrival) = sent + 1
sent_after sent _ = sent

-- the rows of lines after so many blocks; added says whether a line `note added` comes before them
abbrev pub rows_from : ℕ → Bool → List Line → List Row
rows_from sent added [] = []
rows_from sent added (line ∷ lines) =
    line_rows (sent + 1) added line ++ rows_from (sent_after sent line) (is_added line) lines

-- the rows of an exchange, first the answer to reset, which the card sends
abbrev pub rows_of : ExchangeParts → List Row
rows_of e = message_rows Card (codes "atr") e.atr ++ rows_from 0 false e.lines
