-- What is written for each line of standard input.
use Rattle.std.specs.Prelude.{◌≡◌, ◌<◌, ◌≤◌, ◌⊎◌, ◌++◌, ◌+◌, ◌^◌, ◌-◌, ℕ, List, [], ◌∷◌, length, take}
use Rattle.std.specs.Io.KnownBytes.{Appends, Consumes, IsAtEnd}
use Rattle.octet_core.specs.Failures.{next_count, HasFailed}
use Rattle.program_words.specs.Texts.{fault_text}
use Rattle.program_words.specs.Words.{AskForLines}
use Rattle.program_words.specs.declared.fault.Fault.TheVariants.{Memory, Read, TooLarge}
use Rattle.program_words.specs.declared.request.Task.{Task}
use Rattle.program.specs.Calls.{Calls}
use Rattle.program.specs.declared.line_task.LineTask.{LineTask}
use Rattle.program.specs.Answers.{Writes}
use Rattle.program.specs.LineNotes.{AreLinesSaid}
use Rattle.program.specs.Conversations.{Event, Happens, heard, told, unheard, untold}
use Rattle.program.specs.Files.{largest_file}
use Rattle.program.specs.Lines.{all_lines, ended_lines, rest_after}
use Rattle.program_octets.specs.declared.status.Status.{Status}
use Rattle.program_octets.specs.declared.status.Status.TheVariants as status

-- words that don't ask for lines
abbrev pub AskForNoLines : List (List ℕ) → Type 0
AskForNoLines words = (task : Task) → AskForLines task words → ⊥

-- ---- with the lines from a reader

-- reading an input without an end stops after at least this many octets
abbrev pub most_read : ℕ
most_read = 2 ^ 64 - 1

-- The outcomes of reading lines.
pub data TellsLines (line_task : LineTask) (reads : Calls) (text : List ℕ)
    (ended : Status) : Type 0 where
  -- the reader ended: the answers to all lines of its octets
  whole : (read : List ℕ) → Consumes reads.from reads.to read → IsAtEnd reads.to → reads.after ≡ reads.before
      → AreLinesSaid line_task (all_lines read) text ended → TellsLines line_task reads text ended
  -- a call of the reader failed: the answers to the lines that ended before, and the line of that fault
  failed : (read told : List ℕ) (so_far : Status) → Consumes reads.from reads.to read
      → reads.after ≡ next_count reads.before
      → AreLinesSaid line_task (ended_lines read) told so_far
      → text ≡ told ++ fault_text Read → ended ≡ status.Fault → TellsLines line_task reads text ended
  -- memory ran out: the answers to the first lines, and the line of that fault
  wanting : (read told : List ℕ) (so_far : Status) (done more : List (List ℕ)) → Consumes reads.from reads.to read
      → reads.after ≡ reads.before → all_lines read ≡ done ++ more → AreLinesSaid line_task done told so_far
      → text ≡ told ++ fault_text Memory → ended ≡ status.Fault → TellsLines line_task reads text ended
  -- there were too many octets to count: the answers to the lines that ended, and the line of that fault
  endless : (read told : List ℕ) (so_far : Status) → Consumes reads.from reads.to read → reads.after ≡ reads.before
      → most_read ≤ length read
      → AreLinesSaid line_task (ended_lines read) told so_far
      → text ≡ told ++ fault_text TooLarge → ended ≡ status.Fault
      → TellsLines line_task reads text ended

-- The outcomes of writing the answers to lines.
pub data WritesLines (line_task : LineTask) (reads writes : Calls) (ended : Status) : Type 0 where
  -- one of these texts is written, or the writer failed within it
  answered : Writes (TellsLines line_task reads) writes ended
      → WritesLines line_task reads writes ended
  -- the writer failed within the text of the lines that had ended, and nothing was read after that
  stopped : (read text : List ℕ) (so_far : Status) → Consumes reads.from reads.to read → reads.after ≡ reads.before
      → AreLinesSaid line_task (ended_lines read) text so_far
      → (count : ℕ) → count < length text → Appends writes.from writes.to (take count text)
      → HasFailed writes.before writes.after
      → ended ≡ status.Fault → WritesLines line_task reads writes ended

-- ---- the lines so far

-- What is kept after octets were read: the unfinished line, up to one octet past the limit, and the answers to the
-- ended lines, whose front is written.
pub record HasSaid (line_task : LineTask) (read written line text : List ℕ) (ended : Status) : Type 0 where
  pub is_told : AreLinesSaid line_task (ended_lines read) (written ++ text) ended
  pub is_line : line ≡ take (largest_file + 1) (rest_after [] read)

-- the first of the lines are answered
pub record HasBegun (line_task : LineTask) (lines : List (List ℕ)) (text : List ℕ) : Type 0 where
  pub done : List (List ℕ)
  pub more : List (List ℕ)
  pub so_far : Status
  pub is_front : lines ≡ done ++ more
  pub is_told : AreLinesSaid line_task done text so_far

-- what is left to write at the end of the input, after what is already written
pub data IsRest (line_task : LineTask) (lines : List (List ℕ)) (written text : List ℕ) (ended : Status) : Type 0 where
  all_told : AreLinesSaid line_task lines (written ++ text) ended → IsRest line_task lines written text ended
  first_told : (told : List ℕ) → HasBegun line_task lines (written ++ told) → text ≡ told ++ fault_text Memory
      → ended ≡ status.Fault → IsRest line_task lines written text ended

-- ---- in a conversation
--
-- read and written are the octets that were read, and those of the texts that were written.

-- the lines that ended in what was read are answered, and nothing else is written
abbrev pub IsUpToDate : LineTask → List ℕ → List ℕ → Type 0
IsUpToDate line_task read written = (so_far : Status) × AreLinesSaid line_task (ended_lines read) written so_far

-- These events write a text, in one or more pieces, and read nothing between them. The whole text is written and the
-- program ends with the right status, or a write failed.
abbrev pub AreTelling : List ℕ → Status → List Event → Status → Type 0
AreTelling text right [] ended = (text ≡ []) × (ended ≡ right)
AreTelling text right (told part ∷ events) ended =
    (more : List ℕ) × (text ≡ part ++ more) × AreTelling more right events ended
AreTelling text right (untold part count ∷ events) ended =
    (events ≡ []) × ((more : List ℕ) × (text ≡ part ++ more)) × (ended ≡ status.Fault)
AreTelling text right (heard octets ∷ events) ended = ⊥
AreTelling text right (unheard ∷ events) ended = ⊥

-- The last events of a conversation about lines.
pub data Closes (line_task : LineTask) (read written : List ℕ) (events : List Event) (ended : Status) : Type 0 where
  -- the input ended, and the rest of the answers to all lines is written, with that to a last line without an end
  over : (more : List Event) (text : List ℕ) (right : Status) → events ≡ heard [] ∷ more
      → IsUpToDate line_task read written → IsRest line_task (all_lines read) written text right
      → AreTelling text right more ended → Closes line_task read written events ended
  -- a call to read failed, and the line of that fault is written
  unread : (more : List Event) → events ≡ unheard ∷ more → IsUpToDate line_task read written
      → AreTelling (fault_text Read) status.Fault more ended → Closes line_task read written events ended
  -- memory ran out: the answers to the first of the ended lines are written, and the line of that fault
  out_of_memory : (text : List ℕ) → HasBegun line_task (ended_lines read) (written ++ text)
      → AreTelling (text ++ fault_text Memory) status.Fault events ended → Closes line_task read written events ended
  -- there were too many octets to count
  uncounted : (text : List ℕ) → most_read ≤ length read → IsUpToDate line_task read (written ++ text)
      → AreTelling (text ++ fault_text TooLarge) status.Fault events ended → Closes line_task read written events ended
  -- writing the answers to the ended lines failed
  unwritten : (text : List ℕ) (count : ℕ) → events ≡ untold text count ∷ []
      → IsUpToDate line_task read (written ++ text) → ended ≡ status.Fault
      → Closes line_task read written events ended

-- A conversation about lines, after this much was read and written. It reads more only if exactly the lines that ended
-- before are answered.
abbrev pub AnswersLines : LineTask → List ℕ → List ℕ → List Event → Status → Type 0
AnswersLines line_task read written [] ended = Closes line_task read written [] ended
AnswersLines line_task read written (heard octets ∷ events) ended =
    Closes line_task read written (heard octets ∷ events) ended
    ⊎ ((0 < length octets) × IsUpToDate line_task read written
    × AnswersLines line_task (read ++ octets) written events ended)
AnswersLines line_task read written (told text ∷ events) ended =
    Closes line_task read written (told text ∷ events) ended
    ⊎ AnswersLines line_task read (written ++ text) events ended
AnswersLines line_task read written (unheard ∷ events) ended = Closes line_task read written (unheard ∷ events) ended
AnswersLines line_task read written (untold text count ∷ events) ended =
    Closes line_task read written (untold text count ∷ events) ended

-- a text that is right was written since the old state
pub record Tells {A : Type 0} (Right : List ℕ → Status → Type 0) (old new : A → List Event → Type 0) (ended : Status) :
    Type 0 where
  pub events : List Event
  pub text : List ℕ
  pub right : Status
  pub happened : Happens old new events
  pub is_right : Right text right
  pub are_telling : AreTelling text right events ended

-- the lines read since the old state were answered
pub record HasAnswered {A : Type 0} (line_task : LineTask) (old new : A → List Event → Type 0) (ended : Status) :
    Type 0 where
  pub events : List Event
  pub happened : Happens old new events
  pub are_answers : AnswersLines line_task [] [] events ended

-- ---- when more is read

-- the octets that were read, and those of the texts that were written
abbrev pub heard_by : List Event → List ℕ
heard_by [] = []
heard_by (heard octets ∷ events) = octets ++ heard_by events
heard_by (_ ∷ events) = heard_by events

abbrev pub told_by : List Event → List ℕ
told_by [] = []
told_by (told text ∷ events) = text ++ told_by events
told_by (_ ∷ events) = told_by events

-- a call to read
abbrev pub IsHearing : Event → Type 0
IsHearing (heard octets) = Unit {0}
IsHearing unheard = Unit {0}
IsHearing _ = ⊥
