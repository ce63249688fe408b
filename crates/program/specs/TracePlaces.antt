-- Where the lines of a file are in the trace that it was recorded from. A line after `note added` has what nobody saw,
-- so its block isn't one of the trace.
use Rattle.std.specs.Prelude.{ℕ, ◌+◌, ◌-◌, ◌==◌, ◌&&◌, not, nat_lt, List, [], ◌∷◌, ◌++◌, take, codes, decimal, Bool, true, false, if◌then◌else◌}
use Rattle.exchange_text.specs.Exchange.{is_added}
use Rattle.exchange_text.specs.declared.line.Line.{Line}
use Rattle.exchange_text.specs.declared.line.Line.TheVariants.{FromTerminal, FromCard}

-- whether a line has a block of the trace; added: the line before it is `note added`
abbrev pub is_seen : Bool → Line → Bool
is_seen added (FromTerminal sent arrival) = not added
is_seen added (FromCard sent arrival) = not added
is_seen added line = false

abbrev pub seen_after : Bool → ℕ → Line → ℕ
seen_after added seen line = if is_seen added line then seen + 1 else seen

-- how many blocks of the trace there are up to the end of these lines, with this many before them
abbrev pub seen_over : ℕ → Bool → List Line → ℕ
seen_over seen added [] = seen
seen_over seen added (line ∷ lines) = seen_over (seen_after added seen line) (is_added line) lines

-- the place of a line that isn't a block of the trace, after this many blocks
abbrev pub after_text : ℕ → List ℕ
after_text before =
    if before == 0 then codes "; in the trace it comes before block 1"
    else codes "; in the trace it comes after block " ++ decimal before

-- the place of a line, by how many blocks of the trace come before it and how many there are up to its end
abbrev pub place_text : ℕ → ℕ → List ℕ
place_text before through =
    if nat_lt before through then codes "; in the trace it is block " ++ decimal through else after_text before

-- whether a file has `note added`
abbrev pub has_added : List Line → Bool
has_added [] = false
has_added (line ∷ lines) = if is_added line then true else has_added lines

-- whether a file has `note added`, and the line comes after the first two
abbrev pub is_placed : List Line → ℕ → Bool
is_placed lines number = nat_lt 2 number && has_added lines

-- the place of the line with this number, in such a file
abbrev pub trace_place : List Line → ℕ → List ℕ
trace_place lines number =
    if is_placed lines number
    then place_text (seen_over 0 false (take (number - 3) lines)) (seen_over 0 false (take (number - 2) lines))
    else []
