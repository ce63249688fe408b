-- The exchange that is recorded from what was seen on a line.
use Rattle.std.specs.Prelude.{◌≡◌, ℕ, List, [], ◌∷◌, Some, None, Result, Ok, Err}
use Rattle.exchange_text.specs.Exchange.{ExchangeParts}
use Rattle.exchange_text.specs.declared.exchange.Version.{Version}
use Rattle.exchange_text.specs.declared.exchange.Version.TheVariants.{One, Two}
use Rattle.exchange_text.specs.declared.line.Line.{Line}
use Rattle.exchange_core.specs.Faults.{atr_fault_name}
use Rattle.exchange_core.specs.Replay.{IsFound}
use Rattle.traces.specs.declared.recording.RecordFault.{RecordFault}
use Rattle.traces.specs.declared.recording.RecordFault.TheVariants.{Refused, Unfit, Memory}
use Rattle.traces.specs.declared.trace.Item.{Item}
use Rattle.traces.specs.declared.trace.Item.TheVariants.{Moment}
use Rattle.traces.specs.Following.{after_items, begun, ended}
use Rattle.traces.specs.Marked.{marked}
use Rattle.traces.specs.Unfit.{unfit_in}
use Rattle.traces.specs.Unseen.{unseen_in}

-- the version of an exchange without notes: 2 if there is a moment
abbrev pub version_of : List Item → Version
version_of [] = One
version_of (Moment moment ∷ items) = Two
version_of (item ∷ items) = version_of items

-- the lines of what was seen, without notes, if the card at first takes fields of at most so many octets
unfoldable pub lines_of : ℕ → List Item → List Line
lines_of ifsc items = (ended (after_items (begun ifsc) items)).lines

-- these lines, with a note before each line that says what nobody saw
abbrev pub noted_lines : ℕ → List Item → List Line
noted_lines ifsc items = marked 0 (unseen_in ifsc items) (lines_of ifsc items)

-- the version: 2 if there is a note
abbrev pub version_with : List ℕ → Version → Version
version_with [] version = version
version_with (place ∷ places) version = Two

abbrev pub exchange_of : ℕ → List ℕ → List Item → ExchangeParts
exchange_of ifsc atr items = record {
  version = version_with (unseen_in ifsc items) (version_of items);
  atr = atr;
  lines = noted_lines ifsc items;
}

-- The result of recording: the exchange, or why there is none. It can be out of memory only if nothing else is wrong.
abbrev pub IsRecorded : List ℕ → List Item → Result ExchangeParts RecordFault → Type 0
IsRecorded atr items (Ok e) =
    (ifsc : ℕ) × IsFound atr (Ok ifsc) × (unfit_in items ≡ None) × (e ≡ exchange_of ifsc atr items)
IsRecorded atr items (Err (Refused fault)) = IsFound atr (Err (atr_fault_name fault))
IsRecorded atr items (Err (Unfit place why)) =
    (ifsc : ℕ) × IsFound atr (Ok ifsc) × (unfit_in items ≡ Some (place, why))
IsRecorded atr items (Err Memory) = (ifsc : ℕ) × IsFound atr (Ok ifsc) × (unfit_in items ≡ None)
