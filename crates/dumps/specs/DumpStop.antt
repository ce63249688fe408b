-- The first place where a text isn't a dump, and what is wrong there.
use Rattle.std.specs.Prelude.{◌≡◌, ◌≤◌, ℕ, suc, ◌+◌, ◌-◌, ◌==◌, ◌&&◌, nat_lt, not, List, [], ◌∷◌, length, Bool, true, false, Option, Some, None, Result, Ok, Err, if◌then◌else◌}
use Rattle.std.specs.List.{slice_split}
use Rattle.dumps.specs.Bases.{offset_from}
use Rattle.dumps.specs.Dump.{dump_octets, ended, is_line_end, is_none, nothing_taken, row_groups, start_of, style_of, up_to, with_line, Taken}
use Rattle.dumps.specs.declared.base.Base.{Base}
use Rattle.dumps.specs.declared.base.Base.TheVariants.{Hexadecimal, Decimal, Octal, Headed}
use Rattle.dumps.specs.declared.fault.DumpFault.{DumpFault}
use Rattle.dumps.specs.declared.fault.DumpFault.TheVariants.{Form}
use Rattle.dumps.specs.declared.no_dump.DumpWrong.{DumpWrong}
use Rattle.dumps.specs.declared.no_dump.DumpWrong.TheVariants as wrong
use Rattle.dumps.specs.declared.row.Style.{Style}

-- ---- a line that can't continue the dump

abbrev pub is_star : List ℕ → Bool
is_star (x ∷ more) = x == 42 && is_none more
is_star [] = false

-- the dump continues at an offset
abbrev pub is_reached : Result (List ℕ) DumpFault → Bool
is_reached (Ok octets) = true
is_reached (Err fault) = false

-- how many characters are left after the octets of a row; all of them if no program's row has this text after its
-- offset
abbrev pub row_left : ℕ → Option (Style × List ℕ) → ℕ
row_left all (Some (style, row)) = length (row_groups style row).1
row_left all None = all

-- the offset of a line has too few digits, isn't the next one, or has no row after it
abbrev pub stop_after : Taken → ℕ → ℕ → ℕ × List ℕ → ℕ × DumpWrong
stop_after taken characters digits (at, text) =
    if nat_lt digits 4 then (digits, wrong.Offset)
    else (if is_reached (up_to at taken.before taken)
    then (characters - row_left (length text) (style_of digits text), wrong.Row)
    else (0, wrong.Place))

-- the column at which the line is wrong
abbrev pub stop_in : Taken → List ℕ → ℕ × DumpWrong
stop_in taken line =
    let read = offset_from taken.base 0 line in
    if is_star line then (0, wrong.Star)
    else stop_after taken (length line) (length line - length read.1) read

-- ---- a text with offsets in one base

abbrev pub stop_at_end : ℕ → Result (List ℕ) DumpFault → Option (ℕ × DumpWrong)
stop_at_end place (Ok octets) = None
stop_at_end place (Err fault) = Some (place, wrong.End)

abbrev pub placed : ℕ → ℕ × DumpWrong → ℕ × DumpWrong
placed start (column, why) = (start + column, why)

abbrev pub stopped_or : Result Taken DumpFault → ℕ × DumpWrong → (Taken → Option (ℕ × DumpWrong))
    → Option (ℕ × DumpWrong)
stopped_or (Ok next) stop more = more next
stopped_or (Err fault) stop more = Some stop

-- line after line: each begins after the end of the one before; the text of `end` characters ends after the last
abbrev pub stop_from : ℕ → ℕ → Taken → List (List ℕ) → Option (ℕ × DumpWrong)
stop_from end start taken [] = stop_at_end end (ended taken)
stop_from end start taken (line ∷ lines) =
    stopped_or (with_line taken line) (placed start (stop_in taken line))
    (λ next. stop_from end (start + suc (length line)) next lines)

abbrev pub stop_by : Base → List ℕ → Option (ℕ × DumpWrong)
stop_by base text =
    stop_from (length text) 0 (nothing_taken base (start_of base text)) (slice_split is_line_end text)

-- ---- in all bases

abbrev pub or_end : ℕ → Option (ℕ × DumpWrong) → ℕ × DumpWrong
or_end end (Some stop) = stop
or_end end None = (end, wrong.TwoWays)

abbrev pub is_short : DumpWrong → Bool
is_short wrong.Offset = true
is_short _ = false

-- an offset that is too short in another base doesn't count, since the hexadecimal reading reports it
abbrev pub further : ℕ × DumpWrong → ℕ × DumpWrong → ℕ × DumpWrong
further first other = if nat_lt first.0 other.0 && not (is_short other.1) then other else first

abbrev pub stop_or_end : Base → List ℕ → ℕ × DumpWrong
stop_or_end base text = or_end (length text) (stop_by base text)

-- the place in the base in which the text can be read furthest
abbrev pub furthest_stop : List ℕ → ℕ × DumpWrong
furthest_stop text =
    further (further (further (stop_or_end Hexadecimal text) (stop_or_end Decimal text)) (stop_or_end Octal text))
    (stop_or_end Headed text)

abbrev pub unless_octets : Result (List ℕ) DumpFault → ℕ × DumpWrong → Option (ℕ × DumpWrong)
unless_octets (Ok octets) stop = None
unless_octets (Err fault) stop = Some stop

-- no place if the text is a dump
abbrev pub dump_stop : List ℕ → Option (ℕ × DumpWrong)
dump_stop text = unless_octets (dump_octets text) (furthest_stop text)

-- a text has a wrong place in a base if it gives no octets in it, and none if it does
abbrev pub Agrees : Option (ℕ × DumpWrong) → Result (List ℕ) DumpFault → Type 0
Agrees None octets = (b : List ℕ) × (octets ≡ Ok b)
Agrees (Some stop) octets = (fault : DumpFault) × (octets ≡ Err fault)

-- ---- the result of a call

-- the dump took the line, or the line is wrong at this place
abbrev pub StopsAt : Taken → List ℕ → Taken → Option (ℕ × DumpWrong) → Type 0
StopsAt old line new None = with_line old line ≡ Ok new
StopsAt old line new (Some stop) = (with_line old line ≡ Err Form) × (stop ≡ stop_in old line) × (stop.0 ≤ length line)
