-- That the answer to a line and the note on it are what is said of the line.
use Rattle.std.proofs.Common.{◌≡◌, ◌<◌, ◌≤◌, ◌≢◌, ◌∙◌, sym, inl, inr, arith, length, List, ℕ, Result, Ok, Err, IfOk, String, string_bytes}
use Rattle.std.specs.declared.alloc.Global.{Global}
use Rattle.std.proofs.lemmas.Bool.Decides.{nat_tests}
use Rattle.program_words.specs.Loose.{loose_octets}
use Rattle.program_octets.specs.Sayings.{faulted}
use Rattle.program_words.specs.Value.{UnlessMemory}
use Rattle.program_words.specs.declared.fault.Fault.{Fault}
use Rattle.program_words.specs.declared.fault.Fault.TheVariants.{Memory, TooLarge}
use Rattle.program_octets.specs.declared.status.Status.TheVariants as status
use Rattle.program_octets.specs.declared.answer.Answer.{Answer}
use Rattle.program.specs.Answers.{IsTold, IsToldOf}
use Rattle.program.specs.Judged.{AreOf, IsKindNote, SaysIf}
use Rattle.program.specs.LineNotes.{fault_note, said_text, IsLineSaid, IsNoteOfLine}
use Rattle.program.specs.Files.{largest_file}
use Rattle.program.specs.Lines.{line_octets}
use Rattle.program.specs.declared.judged.WithExplanation.{WithExplanation}
use Rattle.program.specs.declared.line_task.LineTask.{LineTask}

-- ---- the octets of a line

-- one that is too long has none
pub long-line : (line : List ℕ) → largest_file < length line → line_octets line ≡ Err TooLarge
long-line line long = grind (arith, nat_tests)

-- and another has those of its digits
pub short-line : (line : List ℕ) → length line ≤ largest_file → line_octets line ≡ loose_octets line
short-line line short = grind (arith, nat_tests)

abbrev taken-as : Fault → Result (List ℕ) Fault
taken-as fault = Err fault

abbrev given-as : List ℕ → Result (List ℕ) Fault
given-as b = Ok b

abbrev made-of : WithExplanation → Result WithExplanation Fault
made-of made = Ok made

-- the line of a fault for which a line has none
pub line-fault : {E : Type 0} (line_task : LineTask) (line : List ℕ) (octets : Result (List ℕ) Fault) (fault : Fault)
    (r : Result WithExplanation E) → octets ≡ Err fault
    → IfOk r (AreOf (λ said ended. (said ≡ faulted fault) × (ended ≡ status.Fault))
    (SaysIf line_task.explains (λ note. note ≡ fault_note line fault)))
    → IfOk r (AreOf (IsToldOf (IsTold line_task.task) octets)
    (SaysIf line_task.explains (IsNoteOfLine line_task.task line octets)))
line-fault line_task line octets fault r is h = rw is h

-- where it is no lack of memory
pub told-fault : {E : Type 0} (line_task : LineTask) (line : List ℕ) (fault : Fault) (r : Result WithExplanation E)
    → length line ≤ largest_file → UnlessMemory (taken-as fault) (loose_octets line) → IfOk r (λ _. fault ≢ Memory)
    → IfOk r (AreOf (λ said ended. (said ≡ faulted fault) × (ended ≡ status.Fault))
    (SaysIf line_task.explains (λ note. note ≡ fault_note line fault)))
    → IfOk r (AreOf (IsToldOf (IsTold line_task.task) (line_octets line))
    (SaysIf line_task.explains (IsNoteOfLine line_task.task line (line_octets line))))
told-fault line_task line fault (Ok made) short (inl memory) other h = absurd (other (cc memory))
told-fault line_task line fault (Ok made) short (inr is) other h =
    line-fault line_task line (line_octets line) fault (made-of made) (short-line line short ∙ sym is) h
told-fault line_task line fault (Err e) short is other h = tt

-- what is said of the octets of a line
line-octets : {E : Type 0} (line_task : LineTask) (line : List ℕ) (octets : Result (List ℕ) Fault) (b : List ℕ)
    (r : Result WithExplanation E) → octets ≡ Ok b
    → IfOk r (AreOf (IsTold line_task.task b)
    (SaysIf line_task.explains (IsKindNote line_task.task.expected.kind line_task.task.expected b)))
    → IfOk r (AreOf (IsToldOf (IsTold line_task.task) octets)
    (SaysIf line_task.explains (IsNoteOfLine line_task.task line octets)))
line-octets line_task line octets b r is h = rw is h

pub told-octets : {E : Type 0} (line_task : LineTask) (line b : List ℕ) (r : Result WithExplanation E)
    → length line ≤ largest_file → UnlessMemory (given-as b) (loose_octets line)
    → IfOk r (AreOf (IsTold line_task.task b)
    (SaysIf line_task.explains (IsKindNote line_task.task.expected.kind line_task.task.expected b)))
    → IfOk r (AreOf (IsToldOf (IsTold line_task.task) (line_octets line))
    (SaysIf line_task.explains (IsNoteOfLine line_task.task line (line_octets line))))
told-octets line_task line b r short (inl memory) h = absurd (cc memory)
told-octets line_task line b r short (inr is) h =
    line-octets line_task line (line_octets line) b r (short-line line short ∙ sym is) h

-- ---- answers to a line

-- an answer with its note
pub line-said : {E : Type 0} (line_task : LineTask) (line text : List ℕ) (answer : Answer)
    (note : Result (String Global) E) (said : String Global) → note ≡ Ok said
    → IsToldOf (IsTold line_task.task) (line_octets line) answer.said answer.status
    → IfOk note (λ n. SaysIf line_task.explains (IsNoteOfLine line_task.task line (line_octets line)) (string_bytes n))
    → text ≡ said_text line_task.task answer.said (string_bytes said)
    → IsLineSaid line_task line text answer.status
line-said line_task line text answer note said is told says same = record {
  told = answer.said;
  note = string_bytes said;
  is_told = told;
  is_note = rw is at says;
  is_text = same;
}
