-- What the program prints for words: a text, and its explanation if they ask for one.
use Rattle.std.specs.Prelude.{◌≡◌, ◌⊎◌, ◌++◌, ℕ, List, [], length, Some, None, Result, Ok, Err, IfOk, IsOkAnd, MatchResult, String, string_bytes, Bool, false}
use Rattle.std.specs.declared.alloc.Global.{Global}
use Rattle.command_line.specs.Asked.{asks_to_explain}
use Rattle.program_words.specs.Given.{octets_given}
use Rattle.program_words.specs.Texts.{fault_text}
use Rattle.program_words.specs.Words.{IsRead, NeedsFile}
use Rattle.program_words.specs.declared.fault.Fault.{Fault}
use Rattle.program_words.specs.declared.fault.Fault.TheVariants as fault
use Rattle.program_words.specs.declared.given.Form.{Form}
use Rattle.program_words.specs.declared.given.Form.TheVariants as form
use Rattle.program_words.specs.declared.given.OctetSource.{OctetSource}
use Rattle.program_words.specs.declared.given.OctetSource.TheVariants.{Read}
use Rattle.program_words.specs.declared.request.Asked.TheVariants.{Once}
use Rattle.program_words.specs.declared.request.Ends.{Ends}
use Rattle.program_words.specs.declared.request.Ends.TheVariants as end
use Rattle.program_words.specs.declared.request.FileTask.{FileTask}
use Rattle.program_words.specs.declared.request.FileTask.TheVariants.{Replay}
use Rattle.program_words.specs.declared.request.Request.{Request}
use Rattle.program_words.specs.declared.request.Request.TheVariants.{BuildTidy, BuildFill, Tell, File, Record, Judge, Simulate, SimulateLines}
use Rattle.program_octets.specs.Sayings.{faulted, text_of}
use Rattle.program_octets.specs.declared.answer.Answer.{Answer}
use Rattle.program_octets.specs.declared.said.Said.{Said}
use Rattle.program_octets.specs.declared.status.Status.{Status}
use Rattle.program_octets.specs.declared.status.Status.TheVariants as status
use Rattle.exchange_text.specs.Exchange.{ExchangeParts}
use Rattle.exchange_text.specs.Reading.{exchange_said}
use Rattle.exchange_core.specs.Replay as replay
use Rattle.block_core.specs.declared.side.Side.{Side}
use Rattle.block_core.specs.declared.side.Side.TheVariants as side
use Rattle.tlv_core.specs.declared.known.Known.{Known}
use Rattle.explainer.specs.Notes.{large_note}
use Rattle.explainer.specs.Known.{known_note, IsTwiceNote}
use Rattle.explainer.specs.Texts as explained
use Rattle.explainer.specs.Texts.{offsets_note}
use Rattle.explainer.specs.Words.{IsWordsNote}
use Rattle.program.specs.Calls.{Calls}
use Rattle.program.specs.Answers.{IsAnswerTo, IsRight, IsRightTo}
use Rattle.program.specs.Files.{largest_file, IsTaken}
use Rattle.program.specs.Pieces.{ReadsFor}
use Rattle.program.specs.Judged.{IsForestNote, IsKindNote, IsListNote, SaysIf}
use Rattle.program.specs.declared.judged.WithExplanation.{WithExplanation}
use Rattle.program.specs.declared.program.AnswerText.{AnswerText}
use Rattle.program.specs.declared.replies.Taken.{Taken}
use Rattle.program.specs.declared.replies.Taken.TheVariants.{Given, Refused}
use Rattle.program.specs.FileNotes.{fault_note, line_text, IsWhy}
use Rattle.program.specs.TracePlaces.{trace_place}
use Rattle.program.specs.RecordTexts.{IsRecordNote}
use Rattle.program.specs.JudgeTexts.{IsJudgeNote}
use Rattle.program.specs.SimulationTexts.{IsLinesNote, IsSimulationNote}

-- ---- notes on files

-- the note on a replay: on the first line where the end differs, and where that is in the trace that was recorded
pub data IsDifferenceNote (file : List ℕ) (e : ExchangeParts) (which : Side) (note : List ℕ) : Type 0 where
  agrees : replay.Replays e.atr e.lines which None → note ≡ [] → IsDifferenceNote file e which note
  differs : (line : ℕ) (gives why : List ℕ) → replay.Replays e.atr e.lines which (Some (line, gives))
      → IsWhy e which line gives why → note ≡ line_text file line (why ++ trace_place e.lines line)
      → IsDifferenceNote file e which note

-- the notes on a replay at both ends: the terminal's, and then the card's
pub record AreDifferenceNotes (file : List ℕ) (e : ExchangeParts) (note : List ℕ) : Type 0 where
  pub terminal : List ℕ
  pub card : List ℕ
  pub is_terminal : IsDifferenceNote file e side.Terminal terminal
  pub is_card : IsDifferenceNote file e side.Card card
  pub is_note : note ≡ terminal ++ card

abbrev pub IsNoteAt : Ends → List ℕ → ExchangeParts → List ℕ → Type 0
IsNoteAt end.Terminal file e = IsDifferenceNote file e side.Terminal
IsNoteAt end.Card file e = IsDifferenceNote file e side.Card
IsNoteAt end.Both file e = AreDifferenceNotes file e

-- the note on the answer about an exchange: only a replay has one
abbrev pub IsNoteSo : FileTask → List ℕ → ExchangeParts → List ℕ → Type 0
IsNoteSo (Replay end how) file e = IsNoteAt end file e
IsNoteSo _ file e = λ note. note ≡ []

-- the note on a file: that on its exchange, or on the line with its first fault
abbrev pub IsFileNote : FileTask → List ℕ → List ℕ → Type 0
IsFileNote task text note = MatchResult (exchange_said text) (λ e. IsNoteSo task text e note)
    (λ fault. note ≡ fault_note text fault)

-- ---- notes on what a request is about

-- the note on words for known values: on the first that isn't one, or on the first two with the same tag
abbrev pub IsKnownNote : List (List ℕ) → Result (List Known) Fault → List ℕ → Type 0
IsKnownNote words (Ok known) note = IsTwiceNote words known note
IsKnownNote words (Err fault) note = note ≡ known_note words

-- The note on a list to fill: that on its octets; or, if there is none on them, that on the words for known values.
pub data IsFillNote (words : List (List ℕ)) (list : List ℕ) (known : Result (List Known) Fault) (note : List ℕ) :
    Type 0 where
  on_list : IsListNote list note → (length note ≡ 0 → ⊥) → IsFillNote words list known note
  on_known : IsListNote list [] → IsKnownNote words known note → IsFillNote words list known note

-- the note on a text in this form: for hexadecimal, that it is also a dump
abbrev pub text_note : Form → List ℕ → List ℕ
text_note form.Hex text = offsets_note text
text_note _ text = []

-- the note on the text that octets are taken from, if there is one
abbrev pub form_note : OctetSource → Result (List ℕ) Fault → List ℕ
form_note (Read form) (Ok text) = text_note form text
form_note _ _ = []

-- the note on a text that isn't in its form
abbrev pub IsFormNote : OctetSource → Result (List ℕ) Fault → List ℕ → Type 0
IsFormNote (Read form) (Ok text) note = note ≡ explained.text_note form text
IsFormNote _ _ note = ⊥

-- the note on octets, and after it the note on their text; or only that on the text, if it gives no octets
abbrev pub IsNoteOn : OctetSource → Result (List ℕ) Fault → (List ℕ → List ℕ → Type 0) → List ℕ → Type 0
IsNoteOn given file Note note = MatchResult (octets_given given file)
    (λ b. (first : List ℕ) × Note b first × (note ≡ first ++ form_note given file))
    (λ fault. IsFormNote given file note)

-- The note on the input of a request of these words, with the result of reading standard input.
abbrev pub IsNoteTo : List (List ℕ) → Request → Result (List ℕ) Fault → List ℕ → Type 0
IsNoteTo words (Tell task given) file note = IsNoteOn given file (IsKindNote task.expected.kind task.expected) note
IsNoteTo words (BuildTidy given) file note = IsNoteOn given file IsForestNote note
IsNoteTo words (BuildFill list known) file note = IsFillNote words list known note
IsNoteTo words (File task) file note = IsOkAnd file (λ text. IsFileNote task text note)
IsNoteTo words (Record atr) file note = IsOkAnd file (λ text. IsRecordNote atr text note)
IsNoteTo words (Judge atr judging) file note = IsOkAnd file (λ text. IsJudgeNote atr judging text note)
IsNoteTo words (Simulate session) file note = IsSimulationNote session note
IsNoteTo words (SimulateLines session) file note = IsOkAnd file (λ text. IsLinesNote session text note)
IsNoteTo words _ file note = ⊥

-- a note that fits what is said whatever the input was: none, that on words that aren't a request, or that on too many octets
pub data Fits (words : List (List ℕ)) (said : Said) (note : List ℕ) : Type 0 where
  silent : note ≡ [] → Fits words said note
  on_words : (told : Fault) → IsRead words (Err told) → said ≡ faulted told → IsWordsNote words note
      → Fits words said note
  too_large : said ≡ faulted fault.TooLarge → note ≡ large_note largest_file → Fits words said note

-- an answer to a request of these words, and the note on its input, which may be empty
pub record IsNotedFrom (words : List (List ℕ)) (request : Request) (reads : Calls)
    (said : Said) (note : List ℕ) (ended : Status) : Type 0 where
  pub file : Result (List ℕ) Fault
  pub is_file : NeedsFile request → ReadsFor request reads file
  pub is_answer : IsAnswerTo request file said ended
  pub is_note : IsNoteTo words request file note

-- an answer to words: its note is that on the input of a request, or it fits what is said alone
abbrev pub IsNoted : List (List ℕ) → Calls → Said → List ℕ → Status → Type 0
IsNoted words reads said note ended =
    (IsRight words reads said ended × Fits words said note)
    ⊎ ((request : Request) × IsRead words (Ok (Once request))
    × IsNotedFrom words request reads said note ended)

-- ---- octets with a note on their text

abbrev pub octets_of : Result Taken Fault → Result (List ℕ) Fault
octets_of (Ok (Given octets note)) = Ok octets
octets_of (Ok (Refused made)) = Err fault.Hex
octets_of (Err fault) = Err fault

-- the answer for a fault
pub record IsFaultAnswer (told : Fault) (answer : Answer) : Type 0 where
  pub status : answer.status ≡ status.Fault
  pub said : answer.said ≡ faulted told

-- Octets, and the note on their text, if it is asked for and memory for it was available; or the line of the fault of a
-- text that isn't in its form, with the note on it.
abbrev pub SaysOf : Bool → OctetSource → Result (List ℕ) Fault → Taken → Type 0
SaysOf explains given file (Given octets note) =
    IfOk note (λ text. SaysIf explains (λ said. said ≡ form_note given file) (string_bytes text))
SaysOf explains given file (Refused made) =
    IsFaultAnswer fault.Hex made.answer × IfOk made.explanation (λ note. IsFormNote given file (string_bytes note))

-- the result of taking octets, with the note on their text
pub record IsTakenWith (explains : Bool) (given : OctetSource) (reads : Calls)
    (result : Result Taken Fault) :
    Type 0 where
  pub taken : IsTaken given reads (octets_of result)
  pub unfailed : IfOk result (λ _. reads.after ≡ reads.before)
  pub is_note : IfOk result (SaysOf explains given taken.file)

-- ---- answers with notes

-- the note, empty if memory for it wasn't available
abbrev pub said_of : {E : Type 0} → Result (String Global) E → List ℕ
said_of (Ok note) = string_bytes note
said_of (Err _) = []

-- an answer to a request of these words, with the note on its input if memory for it was available
pub record IsReplyTo (words : List (List ℕ)) (request : Request) (reads : Calls)
    (made : WithExplanation) :
    Type 0 where
  pub file : Result (List ℕ) Fault
  pub is_file : NeedsFile request → ReadsFor request reads file
  pub is_answer : IsAnswerTo request file made.answer.said made.answer.status
  pub is_note : IfOk made.explanation (λ note. (string_bytes note ≡ [])
      ⊎ IsNoteTo words request file (string_bytes note))

-- the answer to a request, or the fault for which there is none
abbrev pub RepliesTo : List (List ℕ) → Request → Calls → Result WithExplanation Fault
    → Type 0
RepliesTo words request reads (Ok made) = IsReplyTo words request reads made
RepliesTo words request reads (Err fault) =
    IsRightTo request reads (faulted fault) status.Fault

-- what is said and a note that are right for words: the note is empty unless one is asked for
pub record IsSaid (words : List (List ℕ)) (reads : Calls) (said : Said) (note : List ℕ)
    (ended : Status) : Type 0 where
  pub is_right : IsRight words reads said ended
  pub is_noted : IsNoted words reads said note ended
  pub unasked : asks_to_explain words ≡ false → note ≡ []

-- the answer to words, or a fault
abbrev pub Replies : List (List ℕ) → Calls → Result WithExplanation Fault → Type 0
Replies words reads (Ok made) =
    IsSaid words reads made.answer.said (said_of made.explanation) made.answer.status
Replies words reads (Err fault) =
    IsSaid words reads (faulted fault) [] status.Fault

-- the answer to words with its note, whether or not one is asked for
abbrev pub AreNoted : List (List ℕ) → Calls → Result WithExplanation Fault → Type 0
AreNoted words reads (Ok made) =
    IsNoted words reads made.answer.said (said_of made.explanation) made.answer.status
AreNoted words reads (Err fault) =
    IsRight words reads (faulted fault) status.Fault

-- the line of a fault with a note that this holds of, or the fault itself
abbrev pub IsFaulted : Fault → (List ℕ → Type 0) → Result WithExplanation Fault → Type 0
IsFaulted told Note (Ok made) = IsFaultAnswer told made.answer
    × IfOk made.explanation (λ note. Note (string_bytes note))
IsFaulted told Note (Err same) = same ≡ told

-- the text of what is right for words, with the note after it
pub record IsRightWith (words : List (List ℕ)) (reads : Calls) (whole : List ℕ)
    (ended : Status) : Type 0 where
  pub said : Said
  pub note : List ℕ
  pub is_said : IsSaid words reads said note ended
  pub is_whole : whole ≡ text_of said ++ note

-- the text of an answer with the explanation after it is right, or the line of a fault is
abbrev pub Gives : (List ℕ → Status → Type 0) → Result AnswerText Fault → Type 0
Gives Right (Ok made) = Right (made.text ++ said_of made.explanation) made.status
Gives Right (Err fault) = Right (fault_text fault) status.Fault
