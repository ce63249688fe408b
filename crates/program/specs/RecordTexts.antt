-- What the program prints about the blocks that were seen on a line.
use Rattle.std.specs.Prelude.{◌≡◌, ◌<◌, ◌≤◌, ℕ, List, [], codes, length, Some, None, Ok, Err, MatchResult}
use Rattle.std.specs.List.{slice_split}
use Rattle.answer_json.specs.declared.refusal.Refusal.TheVariants.{AtLine}
use Rattle.program_octets.specs.Sayings.{refused_as}
use Rattle.program_octets.specs.declared.said.Said.{Said}
use Rattle.program_octets.specs.declared.said.Said.TheVariants as saying
use Rattle.program_octets.specs.declared.status.Status.{Status}
use Rattle.program_octets.specs.declared.status.Status.TheVariants as status
use Rattle.exchange_text.specs.Exchange.{ExchangeParts}
use Rattle.exchange_text.specs.Text.{exchange_text}
use Rattle.exchange_core.specs.Replay.{IsFound}
use Rattle.traces.specs.Faults.{unfit_name}
use Rattle.trace_text.specs.Reading.{is_line_end}
use Rattle.traces.specs.Reading.{trace_of}
use Rattle.traces.specs.declared.reading.TraceFault.{TraceFault}
use Rattle.traces.specs.declared.reading.TraceFault.TheVariants.{Text, Unfit as UnfitLine}
use Rattle.traces.specs.Recorded.{exchange_of}
use Rattle.traces.specs.Unfit.{item_line, unfit_in}
use Rattle.traces.specs.declared.trace.Item.{Item}
use Rattle.traces.specs.declared.unfit.Unfit.{Unfit}
use Rattle.traces.specs.declared.unfit.Unfit.TheVariants.{Pps, NodeAddress, Silence, Reset, Midway, Arrived}
use Rattle.explainer.specs.Notes.{IsSessionNote, large_note}
use Rattle.program.specs.FileNotes.{line_text, trace_note}
use Rattle.program.specs.ExchangeTexts.{file_faulted}
use Rattle.program.specs.Files.{largest_file}
use Rattle.program.specs.SimulationTexts.{IsFile}

-- the number of the text's line with an item
abbrev pub line_with : List ℕ → ℕ → ℕ
line_with file place = item_line 1 place (slice_split is_line_end file)

-- a line of the text can't be recorded, by this name
abbrev pub refused_line : ℕ → List ℕ → Said
refused_line line name = saying.Refusal (AtLine line name)

-- The answer about an answer to reset and the items of a text: the answer to reset can't be used, a line can't be
-- recorded, or the text of their exchange.
pub data RecordsItems (atr file : List ℕ) (items : List Item) (said : Said) (ended : Status) : Type 0 where
  refused : (name : List ℕ) → IsFound atr (Err name) → said ≡ refused_as name → ended ≡ status.Refused
      → RecordsItems atr file items said ended
  unfit : (ifsc place : ℕ) (why : Unfit) → IsFound atr (Ok ifsc) → unfit_in items ≡ Some (place, why)
      → said ≡ refused_line (line_with file place) (unfit_name why) → ended ≡ status.Refused
      → RecordsItems atr file items said ended
  whole : (ifsc : ℕ) → IsFound atr (Ok ifsc) → unfit_in items ≡ None → IsFile (exchange_of ifsc atr items) said ended
      → RecordsItems atr file items said ended

-- the answer about a text that is no trace to record: its first fault, or the line that can't be recorded
abbrev pub RefusesText : TraceFault → Said → Status → Type 0
RefusesText (Text fault) said ended = (said ≡ file_faulted fault) × (ended ≡ status.Fault)
RefusesText (UnfitLine line why) said ended = (said ≡ refused_line line (unfit_name why)) × (ended ≡ status.Refused)

-- the answer about a text: that about its items, or the first line that is wrong or can't be recorded
abbrev pub Records : List ℕ → List ℕ → Said → Status → Type 0
Records atr file said ended = MatchResult (trace_of file) (λ items. RecordsItems atr file items said ended)
    (λ fault. RefusesText fault said ended)

-- ---- notes

-- why a line can't be recorded
abbrev pub unfit_words : Unfit → List ℕ
unfit_words Pps = codes "this is PPS, and a session begins after it: leave it out"
unfit_words NodeAddress = codes "both ends use a node address other than 00, which record doesn't follow: judge does"
unfit_words Silence =
    codes "the terminal sends again after its own block: write quiet before this line where nothing came in between"
unfit_words Reset = codes "a reset begins another session: record each session by itself"
unfit_words Midway = codes "a session is recorded from its first block on: judge takes such a trace"
unfit_words Arrived =
    codes "other octets arrived than were seen, or with an error of parity: judge takes such a line"

abbrev pub unfit_note : List ℕ → ℕ → Unfit → List ℕ
unfit_note file line why = line_text file line (unfit_words why)

-- the note on the text of an exchange: empty if it fits a file, else how large a file may be
pub data IsSizeNote (e : ExchangeParts) (note : List ℕ) : Type 0 where
  fits : length (exchange_text e) ≤ largest_file → note ≡ [] → IsSizeNote e note
  over : largest_file < length (exchange_text e) → note ≡ large_note largest_file → IsSizeNote e note

-- The note on the items of a text: on an answer to reset that can't be used, on the line that can't be recorded, or on
-- the text of their exchange.
pub data IsItemsNote (atr file : List ℕ) (items : List Item) (note : List ℕ) : Type 0 where
  unusable : (name : List ℕ) → IsFound atr (Err name) → IsSessionNote atr note → IsItemsNote atr file items note
  unfit_line : (place : ℕ) (why : Unfit) → unfit_in items ≡ Some (place, why)
      → note ≡ unfit_note file (line_with file place) why → IsItemsNote atr file items note
  of_text : (ifsc : ℕ) → IsFound atr (Ok ifsc) → unfit_in items ≡ None
      → IsSizeNote (exchange_of ifsc atr items) note → IsItemsNote atr file items note

-- the note on the line of a text that is at fault, or that can't be recorded
abbrev pub IsRefusedNote : TraceFault → List ℕ → List ℕ → Type 0
IsRefusedNote (Text fault) file note = note ≡ trace_note file fault
IsRefusedNote (UnfitLine line why) file note = note ≡ unfit_note file line why

-- the note on a text: that on its items, or on the first line that is wrong or can't be recorded
abbrev pub IsRecordNote : List ℕ → List ℕ → List ℕ → Type 0
IsRecordNote atr file note = MatchResult (trace_of file) (λ items. IsItemsNote atr file items note)
    (λ fault. IsRefusedNote fault file note)
