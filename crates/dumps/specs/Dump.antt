-- Octets as a dump: lines with an offset, groups of digits and, at their end, the characters.
use Rattle.std.specs.Prelude.{◌≡◌, ◌⊎◌, ℕ, zero, suc, ◌-◌, ◌/◌, ◌%◌, ◌==◌, ◌&&◌, ◌||◌, nat_le, nat_lt, not, List, [], ◌∷◌, ◌++◌, length, drop, min, take, Bool, true, false, Option, Some, None, Result, Ok, Err, if◌then◌else◌}
use Rattle.std.specs.List.{slice_split}
use Rattle.std.specs.Str.{bytes_eq}
use Rattle.octet_core.specs.Words.{is_blank, after_blanks as after_space}
use Rattle.dumps.specs.Characters.{after_blanks, after_shown, groups, is_after_blank, joined_to}
use Rattle.dumps.specs.Bases.{counts, offset_from}
use Rattle.dumps.specs.Editor.{addressed, after_column, characters, is_title, tabbed}
use Rattle.dumps.specs.declared.base.Base.{Base}
use Rattle.dumps.specs.declared.base.Base.TheVariants.{Hexadecimal, Decimal, Octal, Headed}
use Rattle.dumps.specs.declared.fault.DumpFault.{DumpFault}
use Rattle.dumps.specs.declared.fault.DumpFault.TheVariants.{Form, Memory}
use Rattle.dumps.specs.declared.row.Style.{Style}
use Rattle.dumps.specs.declared.row.Style.TheVariants as style
use Rattle.dumps.specs.declared.line.Before.{Before}
use Rattle.dumps.specs.declared.line.Before.TheVariants as before

-- the expected result, or memory ran out
abbrev pub UnlessMemory : {X : Type 0} → Result X DumpFault → Result X DumpFault → Type 0
UnlessMemory result expected = (result ≡ Err Memory) ⊎ (result ≡ expected)

-- the second step reads the result of the first; the first fault is the result
infixl 10 ◌>>=◌
abbrev pub ◌>>=◌ : {A B : Type 0} → Result A DumpFault → (A → Result B DumpFault) → Result B DumpFault
(Ok x) >>= f = f x
(Err e) >>= f = Err e

-- ---- a row, after its offset

abbrev pub is_none : List ℕ → Bool
is_none [] = true
is_none (x ∷ more) = false

-- after two blanks, a third one or an offset of fewer than eight digits makes a row Wireshark's instead of hexdump's
abbrev pub after_two_blanks : ℕ → List ℕ → Style × List ℕ
after_two_blanks digits text =
    if is_after_blank text then (style.Wireshark, drop 1 text)
    else (if nat_le 8 digits then (style.Hexdump, text)
    else (style.Wireshark, text))

-- the program that writes a text after an offset with this many digits, and the text after its blanks
abbrev pub style_of : ℕ → List ℕ → Option (Style × List ℕ)
style_of digits (x ∷ y ∷ text) =
    if x == 58 && (y == 32 && nat_le 8 digits) then Some (style.Xxd, text)
    else (if x == 32 && y == 32 then Some (after_two_blanks digits text)
    else (if x == 32 && nat_le 6 digits then Some (style.Od, y ∷ text)
    else None))
style_of digits _ = None

-- in hexdump's row two blanks separate eight octets from eight more
abbrev pub halves : List ℕ × List ℕ → List ℕ × List ℕ
halves first = if length first.0 == 8 then joined_to first.0 (groups false false first.1) else first

-- HxD and PowerShell have 16 columns for octets, and blanks in those without one
abbrev pub field_end : List ℕ → ℕ
field_end text = min (length text) 48

abbrev pub fielded : List ℕ → List ℕ × List ℕ → List ℕ × List ℕ
fielded text read = if is_none (after_blanks read.1) then (read.0, drop (field_end text) text) else ([], text)

-- the octets of a row, and the text after them and one blank
abbrev pub row_groups : Style → List ℕ → List ℕ × List ℕ
row_groups style.Xxd text = groups true true text
row_groups style.Od text = groups false true text
row_groups style.Bare text = groups false true text
row_groups style.Editor text = fielded text (groups false true (take (field_end text) text))
row_groups style.Gdb text = tabbed text
row_groups style.Wireshark text = groups false true text
row_groups style.Hexdump text = halves (groups false true text)

-- the mark that ends a column, and nothing after it
abbrev pub is_closed : ℕ → Option (List ℕ) → Bool
is_closed mark (Some (x ∷ [])) = x == mark
is_closed mark _ = false

-- blanks, a mark, the characters of the octets, a mark
abbrev pub is_marked : ℕ → ℕ → List ℕ → List ℕ → Bool
is_marked first last octets (x ∷ text) = x == first && is_closed last (after_shown octets text)
is_marked first last octets [] = false

abbrev pub is_whole : Option (List ℕ) → Bool
is_whole (Some []) = true
is_whole _ = false

-- a column without marks has as many characters as there are octets, after blanks
abbrev pub is_bare : ℕ → List ℕ → List ℕ → Bool
is_bare pad octets text = nat_le 1 pad &&
    (is_none (after_blanks (take pad text)) && is_whole (after_shown octets (drop pad text)))

-- a column in UTF-8 has as many characters as there are octets, after blanks
abbrev pub is_shown : ℕ → List ℕ → List ℕ → Bool
is_shown pad octets text =
    is_none (after_blanks (take pad text)) && is_whole (after_column octets (drop pad text))

-- after the octets of a row and one blank comes the column that shows them; od and Wireshark may leave it out, and
-- Wireshark may have blanks instead
abbrev pub has_column : Style → List ℕ → List ℕ → Bool
has_column style.Xxd octets text = is_bare (length text - length octets) octets text
has_column style.Hexdump octets text = is_after_blank text && is_marked 124 124 octets (after_blanks text)
has_column style.Od octets text = is_none text ||
    (is_after_blank text && is_marked 62 60 octets (after_blanks text))
has_column style.Bare octets text = is_none text ||
    (is_after_blank text && is_marked 62 60 octets (after_blanks text))
has_column style.Wireshark octets text = is_none (after_blanks text) ||
    is_bare (length text - length octets) octets text
has_column style.Editor octets text = is_shown (characters text - length octets) octets text
has_column style.Gdb octets text = is_none text

-- at least one octet, and the column that shows them
abbrev pub is_row : Style → List ℕ × List ℕ → Bool
is_row style read = not (is_none read.0) && has_column style read.0 read.1

-- the octets of a row
abbrev pub row_of : Style → List ℕ → Result (List ℕ) DumpFault
row_of style text = if is_row style (row_groups style text) then Ok (row_groups style text).0 else Err Form

-- ---- lines

-- the result of the lines so far: the octets, those of the last row, and what the last line was; also the base of the
-- offsets, and the first offset
pub record Taken : Type 0 where
  pub octets : List ℕ
  pub row : List ℕ
  pub before : Before
  pub base : Base
  pub start : ℕ

abbrev pub with_octets : List ℕ → Taken → Taken
with_octets octets taken =
    record { octets = octets; row = taken.row; before = taken.before; base = taken.base; start = taken.start }

abbrev pub with_before : Before → Taken → Taken
with_before line taken =
    record { octets = taken.octets; row = taken.row; before = line; base = taken.base; start = taken.start }

abbrev pub longer_by : List ℕ → Style → Taken → Taken
longer_by row style taken = record {
  octets = taken.octets ++ row;
  row = row;
  before = before.Row style;
  base = taken.base;
  start = taken.start;
}

-- this many copies of these octets
abbrev pub copies : ℕ → List ℕ → List ℕ
copies zero row = []
copies (suc count) row = row ++ copies count row

-- the octets up to an offset: a * stands for one or more rows like the last one
abbrev pub repeated : ℕ → Taken → Result (List ℕ) DumpFault
repeated more taken = if nat_le 1 more && more % 16 == 0 then Ok (taken.octets ++ copies (more / 16) taken.row)
    else Err Form

-- the octets so far end at this offset
abbrev pub is_next : ℕ → Taken → Bool
is_next at taken = nat_le taken.start at && at - taken.start == length taken.octets

abbrev pub up_to : ℕ → Before → Taken → Result (List ℕ) DumpFault
up_to at before.Star taken = if nat_le (at - taken.start) 4194304
    then repeated (at - taken.start - length taken.octets) taken else Err Form
up_to at before.End taken = Err Form
up_to at (before.Row style.Bare) taken = Err Form
up_to at (before.Row style.Gdb) taken = Err Form
up_to at _ taken = if is_next at taken then Ok taken.octets else Err Form

-- an offset alone ends the dump, and a row appends its octets
abbrev pub with_row : Taken → Option (Style × List ℕ) → Result Taken DumpFault
with_row taken (Some (style, text)) = row_of style text >>= (λ row. Ok (longer_by row style taken))
with_row taken None = Err Form

-- a row of a program that writes its offset in this base
abbrev pub counted : Base → ℕ → Option (Style × List ℕ) → Option (Style × List ℕ)
counted base digits (Some (style, text)) = if counts base digits style then Some (style, text) else None
counted base digits None = None

-- under a heading, blanks come between an offset of eight or more digits and the octets
abbrev pub headed_row : ℕ → Before → List ℕ → Option (Style × List ℕ)
headed_row digits before.Heading text = if nat_le 8 digits && is_after_blank text
    then Some (style.Editor, after_blanks text) else None
headed_row digits (before.Row style.Editor) text = if nat_le 8 digits && is_after_blank text
    then Some (style.Editor, after_blanks text) else None
headed_row digits _ text = None

-- the row after an offset with this many digits
abbrev pub row_after : Base → ℕ → Before → List ℕ → Option (Style × List ℕ)
row_after Headed digits before text = headed_row digits before text
row_after base digits before text = counted base digits (style_of digits text)

abbrev pub with_rest : Taken → ℕ → List ℕ → Result Taken DumpFault
with_rest taken digits [] = Ok (with_before before.End taken)
with_rest taken digits (x ∷ text) = with_row taken (row_after taken.base digits taken.before (x ∷ text))

-- an offset has four or more digits; an offset alone has six or more, and doesn't follow a row of Wireshark, nor come
-- under a heading
abbrev pub is_offset : ℕ → List ℕ → Before → Bool
is_offset digits (x ∷ text) before = nat_le 4 digits
is_offset digits [] (before.Row style.Wireshark) = false
is_offset digits [] (before.Row style.Editor) = false
is_offset digits [] _ = nat_le 6 digits

abbrev pub with_offset : ℕ → ℕ × List ℕ → Taken → Result Taken DumpFault
with_offset digits (at, text) taken = if is_offset digits text taken.before
    then up_to at taken.before taken >>= (λ octets. with_rest (with_octets octets taken) digits text) else Err Form

-- a row without an offset, as od -An writes it: the first row, or after others like it
abbrev pub bare_row : Before → List ℕ → Option (Style × List ℕ)
bare_row before.Nothing text = Some (style.Bare, text)
bare_row (before.Row style.Bare) text = Some (style.Bare, text)
bare_row _ text = None

-- a * follows a row of 16 octets; HxD, PowerShell and gdb don't write it, and after a row without an offset nothing
-- says how many rows it stands for
abbrev pub starred : Before → Taken → Result Taken DumpFault
starred (before.Row style.Bare) taken = Err Form
starred (before.Row style.Editor) taken = Err Form
starred (before.Row style.Gdb) taken = Err Form
starred (before.Row style) taken = if length taken.row == 16
    then Ok (with_before before.Star taken) else Err Form
starred _ taken = Err Form

-- a line that begins with an offset
abbrev pub line_of : List ℕ → Taken → Result Taken DumpFault
line_of line taken =
    let read = offset_from taken.base 0 line in with_offset (length line - length read.1) read taken

-- lines of a heading come before all rows
abbrev pub may_head : Before → Bool
may_head before.Nothing = true
may_head before.Heading = true
may_head _ = false

abbrev pub is_heading : Base → Before → List ℕ → Bool
is_heading Headed before line = may_head before && is_title (after_blanks line)
is_heading _ before line = false

-- gdb's rows follow only each other
abbrev pub may_be_gdb : Before → Bool
may_be_gdb before.Nothing = true
may_be_gdb (before.Row style.Gdb) = true
may_be_gdb _ = false

abbrev pub with_address : Option (ℕ × List ℕ) → List ℕ → Taken → Result Taken DumpFault
with_address (Some (at, text)) line taken = if may_be_gdb taken.before && is_next at taken
    then with_row taken (Some (style.Gdb, text)) else Err Form
with_address None line taken = line_of line taken

-- the result of one more line: an empty one adds nothing; other lines are one of a heading, a row after a blank, *
-- alone, a row of gdb, or begin with an offset
abbrev pub with_line : Taken → List ℕ → Result Taken DumpFault
with_line taken [] = Ok taken
with_line taken (x ∷ line) =
    if is_heading taken.base taken.before (x ∷ line) then Ok (with_before before.Heading taken)
    else (if x == 32 then with_row taken (bare_row taken.before line)
    else (if x == 42 && is_none line then starred taken.before taken
    else with_address (addressed (x ∷ line)) (x ∷ line) taken))

abbrev pub with_lines : Taken → List (List ℕ) → Result Taken DumpFault
with_lines taken [] = Ok taken
with_lines taken (line ∷ lines) = with_line taken line >>= (λ next. with_lines next lines)

-- ---- a text

-- a line ends with LF or CR; between CR and LF is an empty line
abbrev pub is_line_end : ℕ → Bool
is_line_end x = x == 10 || x == 13

abbrev pub nothing_taken : Base → ℕ → Taken
nothing_taken base start = record { octets = []; row = []; before = before.Nothing; base = base; start = start }

-- rows of hexdump and od end with an offset alone, and all others without one
abbrev pub may_end : Before → Bool
may_end before.Nothing = true
may_end (before.Row style.Xxd) = true
may_end (before.Row style.Wireshark) = true
may_end (before.Row style.Bare) = true
may_end (before.Row style.Editor) = true
may_end (before.Row style.Gdb) = true
may_end before.Heading = true
may_end before.End = true
may_end _ = false

-- the octets of a complete dump; no dump has more octets than an input
abbrev pub ended : Taken → Result (List ℕ) DumpFault
ended taken = if nat_le (length taken.octets) 4194304 && may_end taken.before then Ok taken.octets else Err Form

-- the offsets of xxd and gdb begin with that of the first row, if it is below 2 ^ 48, and all others with 0
abbrev pub or_from_zero : ℕ → ℕ
or_from_zero at = if nat_lt at 281474976710656 then at else 0

abbrev pub first_offset : ℕ → Option (Style × List ℕ) → ℕ
first_offset at (Some (style.Xxd, text)) = or_from_zero at
first_offset at _ = 0

abbrev pub first_of_row : Base → List ℕ → ℕ
first_of_row base row =
    let read = offset_from base 0 row in first_offset read.0 (style_of (length row - length read.1) read.1)

abbrev pub first_address : Option (ℕ × List ℕ) → ℕ → ℕ
first_address (Some (at, text)) other = or_from_zero at
first_address None other = other

abbrev pub start_of : Base → List ℕ → ℕ
start_of base text = let row = after_space text in first_address (addressed row) (first_of_row base row)

-- the octets of a text with offsets in this base
abbrev pub octets_by : Base → List ℕ → Result (List ℕ) DumpFault
octets_by base text = with_lines (nothing_taken base (start_of base text)) (slice_split is_line_end text) >>= ended

-- the octets of a reading, if it gives any
abbrev pub given : Result (List ℕ) DumpFault → Option (List ℕ)
given (Ok octets) = Some octets
given (Err fault) = None

-- the octets of two readings: those of the one that gives any, or of both if they agree; else a fault
abbrev pub agree : Option (List ℕ) → Option (List ℕ) → Result (Option (List ℕ)) DumpFault
agree (Some octets) (Some others) = if bytes_eq octets others then Ok (Some octets) else Err Form
agree (Some octets) None = Ok (Some octets)
agree None other = Ok other

abbrev pub found : Option (List ℕ) → Result (List ℕ) DumpFault
found (Some octets) = Ok octets
found None = Err Form

-- no text has two meanings: if its offsets fit two bases, they give the same octets
abbrev pub dump_octets : List ℕ → Result (List ℕ) DumpFault
dump_octets text = agree (given (octets_by Hexadecimal text)) (given (octets_by Decimal text))
    >>= (λ two. agree two (given (octets_by Octal text))) >>= (λ three. agree three (given (octets_by Headed text)))
    >>= found

-- ---- a text that isn't a dump

-- a text begins with a blank or a tab
abbrev pub is_gap : List ℕ → Bool
is_gap (x ∷ more) = is_blank x && not (is_line_end x)
is_gap [] = false

-- after blanks and empty lines, a text begins with an offset of four or more digits, and a blank or a tab after it
abbrev pub begins_with_offset : List ℕ → Bool
begins_with_offset text =
    let row = after_space text in
    let read = offset_from Hexadecimal 0 row in nat_le 4 (length row - length read.1) && is_gap read.1

-- ---- the results of calls

-- reading a row gave these octets, or the fault
abbrev pub IsRow : Result (List ℕ) DumpFault → List ℕ → Result (Unit {0}) DumpFault → Type 0
IsRow expected row (Ok _) = expected ≡ Ok row
IsRow expected row (Err fault) = UnlessMemory (Err fault) expected

-- what was taken became this, or there was the fault
abbrev pub Becomes : Result Taken DumpFault → Taken → Result (Unit {0}) DumpFault → Type 0
Becomes expected new (Ok _) = expected ≡ Ok new
Becomes expected new (Err fault) = UnlessMemory (Err fault) expected

-- the octets reached an offset, and everything else is as it was
abbrev pub ComesTo : Result (List ℕ) DumpFault → Taken → Taken → Result (Unit {0}) DumpFault → Type 0
ComesTo expected old new (Ok _) = (expected ≡ Ok new.octets) × (new ≡ with_octets new.octets old)
ComesTo expected old new (Err fault) = UnlessMemory (Err fault) expected
