-- How the octets of a trace come to a judgment, or to the fault of a line.
use Rattle.std.specs.Prelude.{◌≡◌, ℕ, List, [], ◌∷◌, ◌++◌, Option, Some, None, Result, Ok, Err}
use Rattle.std.specs.List.{slice_split}
use Rattle.exchange_text.specs.declared.fault.ExchangeFault.{ExchangeFault}
use Rattle.program_words.specs.declared.fault.Fault.{Fault}
use Rattle.trace_text.specs.Reading.{is_line_end}
use Rattle.trace_judge.specs.Judging.{start, Fails, JudgesLine, JudgesLines, JudgeState}
use Rattle.trace_judge.specs.declared.standing.Scope.{Scope}
use Rattle.judge_times.specs.Waiting.{Offered}
use Rattle.program.specs.Calls.{Calls}
use Rattle.program.specs.Lines.{ended_lines, rest_after}
use Rattle.program.specs.Pieces.{IsAll, ReadsAll}
use Rattle.program.specs.declared.trace_lines.TraceLines.{TraceLines}

-- the lines of a text: the last one needs no line end, and no octets
abbrev pub lines_of : List ℕ → List (List ℕ)
lines_of text = slice_split is_line_end text

-- this line among them has this fault, and those before it are judged
pub record HasFault (offered : Offered) (scope : Scope) (lines : List (List ℕ)) (line : List ℕ) (fault : ExchangeFault)
    :
    Type 0 where
  pub before : List (List ℕ)
  pub after : List (List ℕ)
  pub are_all : lines ≡ before ++ (line ∷ after)
  pub standing : JudgeState
  pub are_judged : JudgesLines (start offered scope) before (Ok standing)
  pub fails : Fails standing line fault

-- the lines are judged so, or this one is the first with a fault
abbrev pub ComesTo : Offered → Scope → List (List ℕ) → JudgeState → List ℕ → Option ExchangeFault → Type 0
ComesTo offered scope lines s line None = JudgesLines (start offered scope) lines (Ok s)
ComesTo offered scope lines s line (Some fault) = HasFault offered scope lines line fault

-- what is known after these octets: what the lines that ended come to, and the unfinished line, if none is faulty
pub record HasCome (offered : Offered) (scope : Scope) (read : List ℕ) (s : JudgeState) (line : List ℕ)
    (fault : Option ExchangeFault) : Type 0 where
  pub come : ComesTo offered scope (ended_lines read) s line fault
  pub unfinished : fault ≡ None → line ≡ rest_after [] read

-- each result of judging the lines of an input that is read to its end
abbrev pub ReadsLines : Offered → Scope → Calls → Result TraceLines Fault → Type 0
ReadsLines offered scope reads (Ok made) = (text : List ℕ) × IsAll reads text
    × ComesTo offered scope (lines_of text) made.standing made.line.items made.fault
ReadsLines offered scope reads (Err fault) = ReadsAll reads (Err fault)

-- ---- one line

-- what taking a line does: it is judged, and another begins; or it has a fault, and is kept
abbrev pub Takes : JudgeState → List ℕ → JudgeState → List ℕ → Option ExchangeFault → Type 0
Takes s line s' line' None = JudgesLine s line s' × (line' ≡ [])
Takes s line s' line' (Some fault) = Fails s line fault × (line' ≡ line)

-- the number of the next line that is judged, or 0 if no more are
abbrev pub open_number : Option ExchangeFault → ℕ → ℕ
open_number None number = number
open_number (Some fault) number = 0
