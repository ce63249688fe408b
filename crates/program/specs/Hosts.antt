-- What the program does on a system with words.
use Rattle.std.specs.Prelude.{◌≡◌, ◌⊎◌, ℕ, List}
use Rattle.program_words.specs.Texts.{fault_text}
use Rattle.program_words.specs.Words.{AskForLines}
use Rattle.program_words.specs.declared.fault.Fault.{Fault}
use Rattle.program_words.specs.declared.fault.Fault.TheVariants.{Memory, Words}
use Rattle.program_words.specs.declared.request.Task.{Task}
use Rattle.program_octets.specs.declared.status.Status.{Status}
use Rattle.program_octets.specs.declared.status.Status.TheVariants as status
use Rattle.program.specs.Calls.{Calls}
use Rattle.program.specs.Answers.{IsWritten, Writes}
use Rattle.program.specs.InJson.{IsRightAsked}
use Rattle.program.specs.LineAnswers.{AskForNoLines, WritesLines}
use Rattle.program.specs.LineNotes.{line_task_of}

-- the system gave no words: memory ran out, or a word isn't UTF-8
abbrev pub IsWithoutWords : Fault → Type 0
IsWithoutWords fault = (fault ≡ Memory) ⊎ (fault ≡ Words)

-- what the program writes for these words, and the status
pub record Runs (words : List (List ℕ)) (reads writes : Calls) (ended : Status) : Type 0 where
  pub written : AskForNoLines words
      → Writes (IsRightAsked words reads) writes ended
  pub lines : (task : Task) → AskForLines task words
      → WritesLines (line_task_of words task) reads writes ended

-- The text and the status belong together: they are right for some words, or for a fault without any.
pub data Does (reads writes : Calls)
    (ended : Status) : Type 0 where
  runs : (words : List (List ℕ)) → Runs words reads writes ended
      → Does reads writes ended
  faults : (fault : Fault) → IsWithoutWords fault
      → IsWritten (fault_text fault) status.Fault writes ended
      → Does reads writes ended
