-- What the program answers: what it says, and one status.
use Rattle.std.specs.Prelude.{◌≡◌, ◌<◌, ◌++◌, ◌&&◌, ℕ, ◌⊎◌, List, [], ◌∷◌, codes, length, take, Bool, true, false, Result, Err, MatchResult}
use Rattle.std.specs.Io.KnownBytes.{Appends}
use Rattle.octet_core.specs.Failures.{HasFailed}
use Rattle.octet_core.specs.declared.stop.Stop.{Stop}
use Rattle.program_octets.specs.Verdicts.{Checks, NotesBy, Shows, Tidies, IsFilled, codec_of, kind_name}
use Rattle.chain_core.specs.Chain.{chain_blocks}
use Rattle.program_octets.specs.ChainTexts.{blocks_text}
use Rattle.program_octets.specs.Codec.{Codec, Stops, Takes}
use Rattle.chain_core.specs.Cut.{cut_of}
use Rattle.program.specs.Calls.{Calls}
use Rattle.program.specs.ExchangeTexts.{TellsFile}
use Rattle.program.specs.SimulationTexts.{Simulates, SimulatesLines}
use Rattle.program.specs.RecordTexts.{Records}
use Rattle.program.specs.JudgeTexts.{JudgesTrace}
use Rattle.program.specs.Judged.{refusal_row}
use Rattle.program_octets.specs.Json.{with_notes}
use Rattle.program_octets.specs.Sayings.{faulted, object_of, text_of}
use Rattle.program_octets.specs.declared.said.Said.{Said}
use Rattle.program_octets.specs.declared.said.Said.TheVariants as saying
use Rattle.program_octets.specs.Rows.{Row, lines_of, notes_of}
use Rattle.program_octets.specs.Texts.{refused_text}
use Rattle.program.specs.Pieces.{ReadsFor}
use Rattle.program.specs.Lines.{all_lines, line_octets, AreTold}
use Rattle.program_words.specs.Given.{octets_given}
use Rattle.layouts.specs.Version.{version_line}
use Rattle.program_words.specs.Words.{asked_for, once_of, AreTaken, AskFor, IsRead, NeedsFile}
use Rattle.program_octets.specs.declared.status.Status.{Status}
use Rattle.program_octets.specs.declared.status.Status.TheVariants as status
use Rattle.program_words.specs.declared.fault.Fault.{Fault}
use Rattle.program_words.specs.declared.fault.Fault.TheVariants.{Memory}
use Rattle.program_words.specs.declared.request.Aim.{Aim}
use Rattle.program_words.specs.declared.request.Aim.TheVariants.{Check, Show, Note}
use Rattle.layouts.specs.declared.layout.Layout.{Layout}
use Rattle.layouts.specs.declared.layout.Layout.TheVariants as layout
use Rattle.program_words.specs.declared.request.Asked.{Asked}
use Rattle.program_words.specs.declared.request.Asked.TheVariants.{Once, Lines}
use Rattle.program_words.specs.declared.request.Expected.{Expected}
use Rattle.program_words.specs.declared.request.Kind.{Kind}
use Rattle.notes.specs.Noted.{IsNoted, without_notes}
use Rattle.program_words.specs.declared.request.Request.{Request}
use Rattle.program_words.specs.declared.request.Request.TheVariants.{BuildChain, BuildTidy, BuildFill, Tell, File, Record, Judge, Simulate, SimulateLines, Help, Version}
use Rattle.program_words.specs.declared.request.Task.{Task}

-- the answer about octets, or the fault if there are no octets
abbrev pub IsToldOf : (List ℕ → Said → Status → Type 0) → Result (List ℕ) Fault → Said → Status → Type 0
IsToldOf Told octets said ended = MatchResult octets (λ b. Told b said ended)
    (λ fault. (said ≡ faulted fault) × (ended ≡ status.Fault))

-- The value with the notes on its lines, or a refusal with some words as a note. Cut at its notes, the text is that of
-- `show` without them. A fault has no note. The words on a refusal are open.
pub record ShowsNoted (kind : Kind) (expected : Expected) (b : List ℕ) (said : Said) (ended : Status) : Type 0 where
  pub text : List ℕ
  pub is_text : said ≡ saying.Text text
  pub words : List ℕ
  pub has_notes : NotesBy (codec_of kind expected).codec words b text ended
  pub plain : Said
  pub is_shown : Shows layout.Lines kind expected b plain ended
  pub is_noted : IsNoted (text_of plain) text
  pub is_cut : without_notes text ≡ text_of plain
  pub unnoted : ended ≡ status.Fault → text ≡ text_of plain

-- the rows of the value, or that of the refusal, with some words as the note on its line
pub data AreRowsBy {V R : Type 0} (c : Codec V R) (b : List ℕ) (rows : List Row) (ended : Status) : Type 0 where
  of_value : (v : V) (n : ℕ) → Takes c b v n → rows ≡ c.rows v n → ended ≡ status.Accepted → AreRowsBy c b rows ended
  of_refusal : (stop : Stop R) (words : List ℕ) → Stops c b stop
      → rows ≡ refusal_row (refused_text c.name stop) words ∷ [] → ended ≡ status.Refused → AreRowsBy c b rows ended

-- The object of the value or of the refusal, with the notes of its rows. As lines these are the value or the refusal
-- with notes.
pub record ShowsNotedObject (kind : Kind) (expected : Expected) (b : List ℕ) (said : Said) (ended : Status) : Type 0
  where
    pub object : List ℕ
    pub is_shown : Shows layout.Json kind expected b (saying.Object object) ended
    pub rows : List Row
    pub are_rows : AreRowsBy (codec_of kind expected).codec b rows ended
    pub has_notes : ShowsNoted kind expected b (saying.Text (lines_of true rows)) ended
    pub is_said : said ≡ saying.Object (with_notes object (notes_of rows))

-- the answer about octets
abbrev pub Tells : Aim → Layout → Expected → List ℕ → Said → Status → Type 0
Tells Check how expected = Checks how expected.kind expected
Tells Show how expected = Shows how expected.kind expected
Tells Note layout.Lines expected = ShowsNoted expected.kind expected
Tells Note layout.Json expected = ShowsNotedObject expected.kind expected

abbrev pub IsTold : Task → List ℕ → Said → Status → Type 0
IsTold task = Tells task.aim task.layout task.expected

-- whether notes are asked for
abbrev pub has_notes : Aim → Bool
has_notes Check = false
has_notes Show = false
has_notes Note = true

abbrev pub is_refusal : Said → Bool
is_refusal (saying.Text lines) = false
is_refusal (saying.Object object) = false
is_refusal (saying.Refusal refusal) = true

-- an object, with an empty array of notes or without
abbrev pub noted_if : Bool → List ℕ → List ℕ
noted_if true object = with_notes object []
noted_if false object = object

-- The object of an answer about a subject. If notes are asked for, a refusal has an empty array of them: the notes of a
-- value, or of octets that are refused, are in its object already.
abbrev pub object_as : List ℕ → Bool → Said → List ℕ
object_as about noted said = noted_if (is_refusal said && noted) (object_of about said)

-- the lines that answer a line: a check has one, a value several and an empty one
abbrev pub lines_text : Aim → List ℕ → List ℕ
lines_text Check told = told
lines_text Show told = told ++ codes "\n"
lines_text Note told = told ++ codes "\n"

-- the text that answers a line, as lines or as a JSON object
abbrev pub line_text : Aim → Layout → Kind → Said → List ℕ
line_text aim layout.Lines kind said = lines_text aim (text_of said)
line_text aim layout.Json kind said = object_as (kind_name kind) (has_notes aim) said

-- the text that answers a line, by the task
abbrev pub answer_text : Task → Said → List ℕ
answer_text task said = line_text task.aim task.layout task.expected.kind said

-- the text and the status of one line
pub record IsLineTold (task : Task) (line text : List ℕ) (ended : Status) : Type 0 where
  pub told : Said
  pub is_told : IsToldOf (IsTold task) (line_octets line) told ended
  pub is_text : text ≡ answer_text task told

abbrev pub AreLinesTold : Task → List (List ℕ) → List ℕ → Status → Type 0
AreLinesTold task lines text ended = AreTold (IsLineTold task) lines text ended

-- what is said to a request, with which status, with the result of reading standard input
abbrev pub IsAnswerTo : Request → Result (List ℕ) Fault → Said → Status → Type 0
IsAnswerTo (Tell task given) file said ended = IsToldOf (IsTold task) (octets_given given file) said ended
IsAnswerTo (BuildChain ifs number message) file said ended =
    (said ≡ saying.Text (blocks_text (chain_blocks number (cut_of ifs message)))) × (ended ≡ status.Accepted)
IsAnswerTo (BuildTidy given) file said ended = IsToldOf Tidies (octets_given given file) said ended
IsAnswerTo (BuildFill list known) file said ended = IsFilled list known said ended
IsAnswerTo (File task) file said ended = IsToldOf (TellsFile task) file said ended
IsAnswerTo (Record atr) file said ended = IsToldOf (Records atr) file said ended
IsAnswerTo (Judge atr judging) file said ended = IsToldOf (JudgesTrace atr judging) file said ended
IsAnswerTo (Simulate session) file said ended = Simulates session said ended
IsAnswerTo (SimulateLines session) file said ended = IsToldOf (SimulatesLines session) file said ended
IsAnswerTo (Help help) file said ended = (said ≡ saying.Text help) × (ended ≡ status.Accepted)
IsAnswerTo Version file said ended = (said ≡ saying.Text version_line) × (ended ≡ status.Accepted)

-- the answers to lines as one text
abbrev pub AreLinesAnswered : Task → List (List ℕ) → Said → Status → Type 0
AreLinesAnswered task lines said ended =
    (text : List ℕ) × (said ≡ saying.Text text) × AreLinesTold task lines text ended

-- what is said to what is asked for, with which status, with the result of reading standard input
abbrev pub IsAnswerAsked : Asked → Result (List ℕ) Fault → Said → Status → Type 0
IsAnswerAsked (Once request) file said ended = IsAnswerTo request file said ended
IsAnswerAsked (Lines task) file said ended = IsToldOf (λ b. AreLinesAnswered task (all_lines b)) file said ended

-- ---- without notes

-- the same aim without notes
abbrev pub plain_aim : Aim → Aim
plain_aim Check = Check
plain_aim Show = Show
plain_aim Note = Show

abbrev pub plain_task : Task → Task
plain_task task = record task { aim = plain_aim task.aim }

abbrev pub plain_request : Request → Request
plain_request (Tell task given) = Tell (plain_task task) given
plain_request other = other

abbrev pub plain_asked : Asked → Asked
plain_asked (Once request) = Once (plain_request request)
plain_asked (Lines task) = Lines (plain_task task)

-- objects in a row, each with the items of its notes: without the notes, and with them
abbrev pub objects_plain : List (List ℕ × List ℕ) → List ℕ
objects_plain [] = []
objects_plain (one ∷ more) = one.0 ++ objects_plain more

abbrev pub objects_noted : List (List ℕ × List ℕ) → List ℕ
objects_noted [] = []
objects_noted (one ∷ more) = with_notes one.0 one.1 ++ objects_noted more

-- a text of objects with notes, and the same text without them; or the line of a fault, which isn't an object
pub data HaveNotes (text plain : List ℕ) : Type 0 where
  in_objects : (objects : List (List ℕ × List ℕ)) → text ≡ objects_noted objects → plain ≡ objects_plain objects
      → HaveNotes text plain
  no_object : text ≡ plain → HaveNotes text plain

-- an answer, and the same without notes: each line cut at its first note, or each object without the member
abbrev pub IsWithout : Aim → Layout → Said → Said → Type 0
IsWithout Check how said plain = plain ≡ said
IsWithout Show how said plain = plain ≡ said
IsWithout Note layout.Lines said plain = text_of plain ≡ without_notes (text_of said)
IsWithout Note layout.Json said plain = HaveNotes (text_of said) (text_of plain)

abbrev pub IsPlainOf : Request → Said → Said → Type 0
IsPlainOf (Tell task given) said plain = IsWithout task.aim task.layout said plain
IsPlainOf _ said plain = plain ≡ said

abbrev pub IsPlain : Asked → Said → Said → Type 0
IsPlain (Once request) said plain = IsPlainOf request said plain
IsPlain (Lines task) said plain = IsWithout task.aim task.layout said plain

-- two answers that are equal without notes
pub record AreAlike (asked : Asked) (said other : Said) : Type 0 where
  pub plain : Said
  pub first : IsPlain asked said plain
  pub second : IsPlain asked other plain

-- notes are asked for, in this layout
abbrev pub HasNotes : Layout → Task → Type 0
HasNotes how task = (task.aim ≡ Note) × (task.layout ≡ how)

abbrev pub AsksForNotes : Layout → Asked → Type 0
AsksForNotes how (Once (Tell task given)) = HasNotes how task
AsksForNotes how (Once _) = ⊥
AsksForNotes how (Lines task) = HasNotes how task

abbrev pub AskForNotes : Layout → List (List ℕ) → Type 0
AskForNotes how words =
    AreTaken words × MatchResult (asked_for words) (AsksForNotes how) (λ _. ⊥)

-- two answers to the same words: they are equal, or equal without notes if notes are asked for
pub data IsSameAnswer (words : List (List ℕ)) (said other : Said) : Type 0 where
  same : said ≡ other → IsSameAnswer words said other
  in_lines : AskForNotes layout.Lines words → without_notes (text_of said) ≡ without_notes (text_of other)
      → IsSameAnswer words said other
  in_objects : AskForNotes layout.Json words → (plain : List ℕ) → HaveNotes (text_of said) plain
      → HaveNotes (text_of other) plain → IsSameAnswer words said other

-- the request that words are read as, or memory ran out
abbrev pub IsReadFrom : List (List ℕ) → Result Request Fault → Type 0
IsReadFrom words read = (read ≡ Err Memory) ⊎ IsRead words (once_of read)

-- what is said to words, with which status: the answer to what they ask for, or the fault
pub record IsAnswer (words : List (List ℕ)) (file : Result (List ℕ) Fault) (said : Said) (ended : Status) : Type 0
  where
    pub read : Result Asked Fault
    pub is_read : IsRead words read
    pub is_answer : MatchResult read (λ asked. IsAnswerAsked asked file said ended)
        (λ fault. (said ≡ faulted fault) × (ended ≡ status.Fault))

-- ---- with the octets or the file from a reader

-- memory ran out: that fault, and no call of the reader failed
abbrev pub IsWanting : Calls → Said → Status → Type 0
IsWanting reads said ended = (said ≡ faulted Memory) × (ended ≡ status.Fault) × (reads.after ≡ reads.before)

-- words that ask for this request, which needs standard input
abbrev pub AskWithFile : Request → List (List ℕ) → Type 0
AskWithFile request = AskFor (λ asked. (asked ≡ request) × NeedsFile asked)

-- words that ask to judge a trace
abbrev pub IsJudge : Request → Type 0
IsJudge (Judge atr judging) = Unit {0}
IsJudge _ = ⊥

abbrev pub AskToJudge : List (List ℕ) → Type 0
AskToJudge = AskFor IsJudge

-- what is said to words, with what was read if they ask for it
pub record IsAnswerFrom (words : List (List ℕ)) (reads : Calls) (said : Said)
    (ended : Status) : Type 0 where
  pub file : Result (List ℕ) Fault
  pub is_file : (request : Request) → AskWithFile request words → ReadsFor request reads file
  pub is_answer : IsAnswer words file said ended

-- what is said to words, or memory ran out
abbrev pub IsRight : List (List ℕ) → Calls → Said → Status → Type 0
IsRight words reads said ended =
    IsAnswerFrom words reads said ended ⊎ IsWanting reads said ended

-- what is said to a request, with what was read if it needs that
pub record IsAnswerToFrom (request : Request) (reads : Calls) (said : Said)
    (ended : Status) : Type 0 where
  pub file : Result (List ℕ) Fault
  pub is_file : NeedsFile request → ReadsFor request reads file
  pub is_answer : IsAnswerTo request file said ended

abbrev pub IsRightTo : Request → Calls → Said → Status → Type 0
IsRightTo request reads said ended =
    IsAnswerToFrom request reads said ended ⊎ IsWanting reads said ended

-- how a text was written, and how the program ended
pub data IsWritten (text : List ℕ) (right : Status) (writes : Calls) (ended : Status) :
    Type 0 where
  -- the whole text is written without a failure, and the program ends with the right status
  all : Appends writes.from writes.to text → writes.after ≡ writes.before → ended ≡ right
      → IsWritten text right writes ended
  -- the writer failed, and a part of the text is written
  cut : (count : ℕ) → count < length text → Appends writes.from writes.to (take count text)
      → HasFailed writes.before writes.after
      → ended ≡ status.Fault → IsWritten text right writes ended

-- one text that is right is written
pub record Writes (Right : List ℕ → Status → Type 0) (writes : Calls) (ended : Status) :
    Type 0 where
  pub text : List ℕ
  pub right : Status
  pub is_right : Right text right
  pub is_written : IsWritten text right writes ended
