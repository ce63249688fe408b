-- What the program prints about a session that it simulates.
use Rattle.std.specs.Prelude.{◌≡◌, ◌<◌, ◌≤◌, ℕ, Bool, true, false, List, length, Ok, Err, MatchResult}
use Rattle.std.specs.List.{count_by}
use Rattle.program_words.specs.declared.fault.Fault.TheVariants.{TooLarge}
use Rattle.program_words.specs.PairLines.{pairs_in}
use Rattle.program_words.specs.declared.session.Session.{Session}
use Rattle.exchange_text.specs.Exchange.{ExchangeParts}
use Rattle.exchange_core.specs.Recording.{Recording}
use Rattle.exchange_core.specs.Replay.{IsFound}
use Rattle.exchange_text.specs.Text.{exchange_text}
use Rattle.exchange_text.specs.declared.line.Line.{Line}
use Rattle.exchange_text.specs.declared.line.Line.TheVariants.{FromTerminal, FromCard}
use Rattle.explainer.specs.Notes.{large_note, AreUnsentNotes, IsSessionNote}
use Rattle.explainer.specs.Pairs.{pairs_note}
use Rattle.simulator.specs.Simulation.{EndsAs, exchange_of}
use Rattle.program.specs.Files.{largest_file}
use Rattle.program_octets.specs.Sayings.{faulted, refused_as}
use Rattle.program_octets.specs.declared.said.Said.{Said}
use Rattle.program_octets.specs.declared.said.Said.TheVariants as saying
use Rattle.program_octets.specs.declared.status.Status.{Status}
use Rattle.program_octets.specs.declared.status.Status.TheVariants as status

-- the text of an exchange, or a fault if it is larger than a file
pub data IsFile (e : ExchangeParts) (said : Said) (ended : Status) : Type 0 where
  fits : length (exchange_text e) ≤ largest_file → said ≡ saying.Text (exchange_text e) → ended ≡ status.Accepted
      → IsFile e said ended
  over : largest_file < length (exchange_text e) → said ≡ faulted TooLarge → ended ≡ status.Fault
      → IsFile e said ended

-- The answer about a session: the answer to reset can't be used, the text of its exchange, or no text of it fits a
-- file.
pub data Simulates (s : Session) (said : Said) (ended : Status) : Type 0 where
  unusable : (name : List ℕ) → IsFound s.atr (Err name) → said ≡ refused_as name → ended ≡ status.Refused
      → Simulates s said ended
  whole : (ifsc : ℕ) (r : Recording) → IsFound s.atr (Ok ifsc) → EndsAs s ifsc r
      → length (exchange_text (exchange_of r)) ≤ largest_file
      → said ≡ saying.Text (exchange_text (exchange_of r)) → ended ≡ status.Accepted → Simulates s said ended
  too_large : (ifsc : ℕ) → IsFound s.atr (Ok ifsc)
      → ((r : Recording) → EndsAs s ifsc r → largest_file < length (exchange_text (exchange_of r)))
      → said ≡ faulted TooLarge → ended ≡ status.Fault → Simulates s said ended

-- the answer about a session whose pairs are the lines of a text, or the fault of a line
abbrev pub SimulatesLines : Session → List ℕ → Said → Status → Type 0
SimulatesLines s b said ended = MatchResult (pairs_in b)
    (λ pairs. Simulates (record s { pairs = pairs }) said ended)
    (λ fault. (said ≡ faulted fault) × (ended ≡ status.Fault))

-- ---- notes

abbrev pub is_block : Line → Bool
is_block (FromTerminal sent arrival) = true
is_block (FromCard sent arrival) = true
is_block _ = false

-- how many blocks both ends sent
abbrev pub blocks_in : List Line → ℕ
blocks_in lines = count_by is_block lines

-- The note on the exchange of a session: on the blocks that its lists name and that were never sent; or, if its text is
-- larger than a file, how large a file may be.
pub data IsExchangeNote (s : Session) (e : ExchangeParts) (note : List ℕ) : Type 0 where
  in_file : length (exchange_text e) ≤ largest_file → AreUnsentNotes s (blocks_in e.lines) note
      → IsExchangeNote s e note
  past_file : largest_file < length (exchange_text e) → note ≡ large_note largest_file → IsExchangeNote s e note

-- The note on a session: that on its exchange; that on its answer to reset, if it is refused; or how large a file may
-- be, if no text of it fits.
pub data IsSimulationNote (s : Session) (note : List ℕ) : Type 0 where
  refused : (name : List ℕ) → IsFound s.atr (Err name) → IsSessionNote s.atr note → IsSimulationNote s note
  recorded : (ifsc : ℕ) (r : Recording) → IsFound s.atr (Ok ifsc) → EndsAs s ifsc r
      → IsExchangeNote s (exchange_of r) note → IsSimulationNote s note
  too_long : (ifsc : ℕ) → IsFound s.atr (Ok ifsc)
      → ((r : Recording) → EndsAs s ifsc r → largest_file < length (exchange_text (exchange_of r)))
      → note ≡ large_note largest_file → IsSimulationNote s note

-- the note on a session whose pairs are the lines of a text, or on a line that isn't a pair
abbrev pub IsLinesNote : Session → List ℕ → List ℕ → Type 0
IsLinesNote s b note = MatchResult (pairs_in b) (λ pairs. IsSimulationNote (record s { pairs = pairs }) note)
    (λ _. note ≡ pairs_note b)
