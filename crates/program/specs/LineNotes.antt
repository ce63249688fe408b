-- The answer to each line of standard input, with an explanation after it if one is asked for.
use Rattle.std.specs.Prelude.{◌≡◌, ◌==◌, ◌++◌, ℕ, List, [], ◌∷◌, Bool, true, if◌then◌else◌, codes, Result, Ok, Err}
use Rattle.command_line.specs.Asked.{asks_to_explain}
use Rattle.program_words.specs.declared.fault.Fault.{Fault}
use Rattle.program_words.specs.declared.fault.Fault.TheVariants as fault
use Rattle.layouts.specs.declared.layout.Layout.{Layout}
use Rattle.layouts.specs.declared.layout.Layout.TheVariants as layout
use Rattle.program_words.specs.declared.request.Task.{Task}
use Rattle.program_octets.specs.declared.status.Status.{Status}
use Rattle.program_octets.specs.Sayings.{text_of}
use Rattle.program_octets.specs.Verdicts.{kind_name}
use Rattle.program_octets.specs.declared.said.Said.{Said}
use Rattle.program.specs.Answers.{has_notes, lines_text, object_as, IsTold, IsToldOf}
use Rattle.program.specs.InJson.{with_explanation}
use Rattle.program.specs.Judged.{IsKindNote, SaysIf}
use Rattle.program.specs.Files.{largest_file}
use Rattle.program.specs.Lines.{line_octets, AreTold}
use Rattle.explainer.specs.Notes.{large_note}
use Rattle.explainer.specs.Texts.{column_note, hex_stop}
use Rattle.program.specs.declared.line_task.LineTask.{LineTask}

-- how lines are answered for these words, which ask for them
abbrev pub line_task_of : List (List ℕ) → Task → LineTask
line_task_of words task = record { task = task; explains = asks_to_explain words }

-- each line of a text after two blanks; begins: the first octet begins a line
abbrev pub indented_from : Bool → List ℕ → List ℕ
indented_from begins [] = []
indented_from begins (x ∷ text) = (if begins then codes "  " else []) ++ (x ∷ indented_from (x == 10) text)

abbrev pub indented : List ℕ → List ℕ
indented text = indented_from true text

-- the note on a line that gives no octets
abbrev pub fault_note : List ℕ → Fault → List ℕ
fault_note line fault.Hex = column_note (hex_stop line)
fault_note line fault.TooLarge = large_note largest_file
fault_note line _ = []

-- the note on a line by its octets, or by its fault if it has none
abbrev pub IsNoteOfLine : Task → List ℕ → Result (List ℕ) Fault → List ℕ → Type 0
IsNoteOfLine task line (Ok b) = IsKindNote task.expected.kind task.expected b
IsNoteOfLine task line (Err fault) = λ note. note ≡ fault_note line fault

-- the text that answers a line, from its answer and a note, which may be empty
abbrev pub said_in : Layout → Task → Said → List ℕ → List ℕ
said_in layout.Lines task said note = lines_text task.aim (text_of said ++ indented note)
said_in layout.Json task said note =
    with_explanation (object_as (kind_name task.expected.kind) (has_notes task.aim) said) note

abbrev pub said_text : Task → Said → List ℕ → List ℕ
said_text task said note = said_in task.layout task said note

-- the text and the status of one line
pub record IsLineSaid (line_task : LineTask) (line text : List ℕ) (ended : Status) : Type 0 where
  pub told : Said
  pub note : List ℕ
  pub is_told : IsToldOf (IsTold line_task.task) (line_octets line) told ended
  pub is_note : SaysIf line_task.explains (IsNoteOfLine line_task.task line (line_octets line)) note
  pub is_text : text ≡ said_text line_task.task told note

abbrev pub AreLinesSaid : LineTask → List (List ℕ) → List ℕ → Status → Type 0
AreLinesSaid line_task lines text ended = AreTold (IsLineSaid line_task) lines text ended
