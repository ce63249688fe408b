-- Answers with a note from the same verdict.
use Rattle.std.specs.Prelude.{◌≡◌, ◌-◌, ◌∷◌, ℕ, List, [], length, take, Bool, true, false, Option, None, Result, IfOk, string_bytes}
use Rattle.octet_core.specs.declared.stop.Stop.{Stop}
use Rattle.program_words.specs.declared.request.Expected.{Expected}
use Rattle.program_words.specs.declared.request.Kind.{Kind}
use Rattle.program_words.specs.declared.request.Kind.TheVariants as kind
use Rattle.program_octets.specs.Codec.{Codec, IsVerdict, Stops}
use Rattle.program_octets.specs.AtrTexts.{atr_codec}
use Rattle.program_octets.specs.BlockTexts.{block_codec}
use Rattle.program_octets.specs.ChainTexts.{chain_codec}
use Rattle.program_octets.specs.CommandTexts.{command_codec}
use Rattle.program_octets.specs.ResponseTexts.{response_codec}
use Rattle.program_octets.specs.ForestTexts.{forest_codec}
use Rattle.program_octets.specs.ListTexts.{list_codec}
use Rattle.program_octets.specs.Rows.{Row, notes_of, row}
use Rattle.program_octets.specs.Texts.{refused_text}
use Rattle.notes.specs.Noted.{kept}
use Rattle.program_octets.specs.Verdicts.{codec_of}
use Rattle.program_octets.specs.declared.said.Said.{Said}
use Rattle.program_octets.specs.declared.status.Status.{Status}
use Rattle.program_octets.specs.declared.status.Status.TheVariants as status
use Rattle.layouts.specs.declared.layout.Layout.{Layout}
use Rattle.layouts.specs.declared.layout.Layout.TheVariants.{Json}
use Rattle.explainer.specs.Notes.{least_of, verdict_text}
use Rattle.explainer.specs.Sentences.{atr_sentence, block_sentence, chain_sentence, command_sentence, dol_sentence, response_sentence, tlv_sentence}
use Rattle.program.specs.declared.judged.ShownWithNotes.{ShownWithNotes}
use Rattle.program.specs.declared.judged.WithExplanation.{WithExplanation}

-- the note on octets by a codec's verdict on them, with the sentence of each reason, and with how many more octets are
-- needed at least, if that is known
abbrev pub IsNoteBy : {V R : Type 0} → Codec V R → (R → List ℕ) → Option ℕ → List ℕ → List ℕ → Type 0
IsNoteBy {V} {R} c says least b note =
    (verdict : Result ℕ (Stop R)) × IsVerdict c b verdict × (note ≡ verdict_text says b least verdict)

abbrev pub IsForestNote : List ℕ → List ℕ → Type 0
IsForestNote b = IsNoteBy forest_codec tlv_sentence None b

-- the note on a list to fill never says how many octets are needed
abbrev pub IsListNote : List ℕ → List ℕ → Type 0
IsListNote b = IsNoteBy list_codec dol_sentence None b

-- the note on octets by their kind
abbrev pub IsKindNote : Kind → Expected → List ℕ → List ℕ → Type 0
IsKindNote kind.Atr expected b = IsNoteBy atr_codec atr_sentence (least_of kind.Atr b) b
IsKindNote kind.Block expected b = IsNoteBy (block_codec expected.ifs) block_sentence (least_of kind.Block b) b
IsKindNote kind.Chain expected b =
    IsNoteBy (chain_codec expected.ifs expected.number) chain_sentence (least_of kind.Chain b) b
IsKindNote kind.Command expected b = IsNoteBy command_codec command_sentence (least_of kind.Command b) b
IsKindNote kind.Response expected b = IsNoteBy response_codec response_sentence (least_of kind.Response b) b
IsKindNote kind.Tlv expected b = IsForestNote b
IsKindNote kind.Dol expected b = IsNoteBy list_codec dol_sentence (least_of kind.Dol b) b

-- the note, if one is asked for; else an empty one
abbrev pub SaysIf : Bool → (List ℕ → Type 0) → List ℕ → Type 0
SaysIf true Note note = Note note
SaysIf false Note note = note ≡ []

-- this holds of an answer, and this of its note if memory for the note was available
abbrev pub AreOf : (Said → Status → Type 0) → (List ℕ → Type 0) → WithExplanation → Type 0
AreOf Told Note made = Told made.answer.said made.answer.status
    × IfOk made.explanation (λ note. Note (string_bytes note))

-- the row of a refusal with this line, and with words as its note; it is about no octets
abbrev pub refusal_row : List ℕ → List ℕ → Row
refusal_row line words = row (take (length line - 1) line) (kept words) []

-- the notes on the line of a refusal, with these words
abbrev pub refusal_notes : List ℕ → List ℕ → List ℕ
refusal_notes line words = notes_of (refusal_row line words ∷ [])

-- Octets are refused, and a line has the notes with these words that the line of the refusal has. If the words are no
-- note, any line has them.
abbrev pub IsRefusalBy : {V R : Type 0} → Codec V R → List ℕ → List ℕ → List ℕ → Type 0
IsRefusalBy {V} {R} c b words line = (stop : Stop R) × Stops c b stop
    × (refusal_notes line words ≡ refusal_notes (refused_text c.name stop) words)

-- the same by the kind of the octets
abbrev pub IsRefusalLine : Kind → Expected → List ℕ → List ℕ → List ℕ → Type 0
IsRefusalLine kind expected b = IsRefusalBy (codec_of kind expected).codec b

-- This holds of an answer, and this of its note. If notes are asked for, a refusal as an object also has a line for
-- them.
abbrev pub AreShownWithNotes : Bool → Layout → (Said → Status → Type 0) → (List ℕ → Type 0)
    → (List ℕ → List ℕ → Type 0) → ShownWithNotes → Type 0
AreShownWithNotes noted layout Told Note Line made = AreOf Told Note made.said
    × (noted ≡ true → layout ≡ Json → made.said.answer.status ≡ status.Refused
    → Line (string_bytes made.words) made.line)
