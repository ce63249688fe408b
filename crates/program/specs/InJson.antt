-- The text for words as lines, or as a JSON object if they ask for it.
use Rattle.std.specs.Prelude.{◌≡◌, ℕ, List, [], ◌∷◌, ◌++◌, Result, Ok, Err, codes, Bool, false}
use Rattle.layouts.specs.declared.layout.Layout.TheVariants as layout
use Rattle.program_words.specs.Texts.{fault_text}
use Rattle.program_words.specs.Words.{layout_of}
use Rattle.program_words.specs.declared.fault.Fault.{Fault}
use Rattle.program_words.specs.declared.fault.Fault.TheVariants.{Memory}
use Rattle.program_words.specs.declared.request.FileTask.{FileTask}
use Rattle.program_words.specs.declared.request.FileTask.TheVariants.{Replay, Migrate, Apdus, Draw}
use Rattle.program_words.specs.declared.request.Request.{Request}
use Rattle.program_words.specs.declared.request.Request.TheVariants.{BuildChain, BuildTidy, BuildFill, Tell, File, Record, Judge, Simulate, SimulateLines, Help, Version}
use Rattle.program_octets.specs.Json.{with_member}
use Rattle.program_octets.specs.Verdicts.{kind_name}
use Rattle.answer_json.specs.Strings.{json_string}
use Rattle.program_octets.specs.declared.said.Said.{Said}
use Rattle.program_octets.specs.declared.status.Status.{Status}
use Rattle.program_octets.specs.declared.status.Status.TheVariants as status
use Rattle.program.specs.Calls.{Calls}
use Rattle.program.specs.Answers.{has_notes, object_as, IsReadFrom}
use Rattle.program.specs.Explained.{IsRightWith, IsSaid}

-- the subcommand's name, which is the subject of an answer about a file
abbrev pub file_subject : FileTask → List ℕ
file_subject (Replay ends how) = codes "replay"
file_subject Migrate = codes "migrate"
file_subject (Apdus how) = codes "apdus"
file_subject (Draw drawing) = codes "draw"

-- the subject of the object that answers a request: the kind of the octets, or the subcommand
abbrev pub subject : Request → List ℕ
subject (Tell task given) = kind_name task.expected.kind
subject (BuildChain ifs number message) = codes "chain"
subject (BuildTidy given) = codes "tlv"
subject (BuildFill list known) = codes "dol"
subject (File task) = file_subject task
subject (Record atr) = codes "record"
subject (Judge atr judging) = codes "judge"
subject (Simulate session) = codes "simulate"
subject (SimulateLines session) = codes "simulate"
subject (Help help) = codes "help"
subject Version = codes "version"

-- whether a request asks for notes
abbrev pub asks_for_notes : Request → Bool
asks_for_notes (Tell task given) = has_notes task.aim
asks_for_notes request = false

-- what an object is about, by what the words were read as, and whether notes are asked for
abbrev pub subject_of : Result Request Fault → List ℕ × Bool
subject_of (Ok request) = (subject request, asks_for_notes request)
subject_of (Err fault) = (codes "words", false)

-- the object of the answer to words, by what they were read as
abbrev pub object_by : Result Request Fault → Said → List ℕ
object_by read said = object_as (subject_of read).0 (subject_of read).1 said

-- the member for an explanation
abbrev pub explanation_member : List ℕ → List ℕ
explanation_member note = codes ",\"explanation\":" ++ json_string note

-- an object with its explanation, if there is one
abbrev pub with_explanation : List ℕ → List ℕ → List ℕ
with_explanation object [] = object
with_explanation object (x ∷ note) = with_member object (explanation_member (x ∷ note))

-- with what was read, words have an answer and a note
pub record HaveAnswer (words : List (List ℕ)) (reads : Calls) : Type 0 where
  pub said : Said
  pub note : List ℕ
  pub ended : Status
  pub is_said : IsSaid words reads said note ended

-- The object of what is right, with its status and its note; or memory ran out, and with what was read the words have
-- an answer.
pub data IsRightJson (words : List (List ℕ)) (reads : Calls) (whole : List ℕ)
    (ended : Status) : Type 0 where
  made : (read : Result Request Fault) (said : Said) (note : List ℕ) → IsReadFrom words read
      → IsSaid words reads said note ended
      → whole ≡ with_explanation (object_by read said) note
      → IsRightJson words reads whole ended
  unmade : HaveAnswer words reads → whole ≡ fault_text Memory → ended ≡ status.Fault
      → IsRightJson words reads whole ended

-- what is right for words, in their layout
pub data IsRightAsked (words : List (List ℕ)) (reads : Calls) (whole : List ℕ)
    (ended : Status) : Type 0 where
  in_lines : layout_of words ≡ layout.Lines → IsRightWith words reads whole ended
      → IsRightAsked words reads whole ended
  in_json : layout_of words ≡ layout.Json → IsRightJson words reads whole ended
      → IsRightAsked words reads whole ended
