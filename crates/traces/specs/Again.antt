-- The exchange of a recorder, made again from what was on its line.
use Rattle.std.specs.Prelude.{◌≡◌, ℕ, List, [], ◌∷◌, ◌++◌, Ok, true, false}
use Rattle.t1_core.specs.Link.{Event}
use Rattle.t1_core.specs.Promises.{AllHandOctets}
use Rattle.exchange_text.specs.declared.line.Arrival.{Arrival}
use Rattle.exchange_text.specs.declared.line.Arrival.TheVariants.{Whole, Lost, Changed}
use Rattle.exchange_text.specs.declared.line.Line.{Line}
use Rattle.exchange_text.specs.declared.line.Line.TheVariants as line
use Rattle.exchange_core.specs.Recording.{closed}
use Rattle.exchange_core.specs.Records as records
use Rattle.exchange_core.specs.Replay.{IsFound}
use Rattle.block_core.specs.declared.side.Side.{Side}
use Rattle.block_core.specs.declared.side.Side.TheVariants as side
use Rattle.traces.specs.declared.said.Numbers.{Numbers}
use Rattle.traces.specs.declared.trace.Item.{Item}
use Rattle.traces.specs.declared.trace.Item.TheVariants.{Block, Quiet, Moment}
use Rattle.traces.specs.Recorded.{lines_of, noted_lines}
use Rattle.traces.specs.Said.{application_is_cut, application_line, at_first, host_is_cut, host_line, numbers_after}

-- what was seen of a block; if it was changed, the octets that arrived
abbrev pub block_items : Side → List ℕ → Arrival → List Item
block_items from sent Whole = Block from sent false ∷ []
block_items from sent Lost = Block from sent true ∷ []
block_items from sent (Changed octets) = Block from octets false ∷ []

-- what was on the line, by a line of an exchange
abbrev pub line_items : Line → List Item
line_items (line.FromTerminal sent arrival) = block_items side.Terminal sent arrival
line_items (line.FromCard sent arrival) = block_items side.Card sent arrival
line_items line.Quiet = Quiet ∷ []
line_items (line.Moment moment) = Moment moment ∷ []
line_items line = []

-- Everything that was on the line, in order: a trace of the exchange, without the calls of the applications.
abbrev pub items_of : List Line → List Item
items_of [] = []
items_of (line ∷ lines) = line_items line ++ items_of lines

-- the numbers of the last I-blocks after these items
abbrev pub numbers_over : Numbers → List Item → Numbers
numbers_over n [] = n
numbers_over n (item ∷ items) = numbers_over (numbers_after n item) items

-- The call of an application is the one that the items after it show: a message was sent whole, and a request for a
-- size or for time was sent.
abbrev pub IsTold : Numbers → List Item → Line → Type 0
IsTold n items (line.Command octets) = application_line n items ≡ line.Command octets
IsTold n items (line.Ifsd size) = application_line n items ≡ line.Ifsd size
IsTold n items (line.Reply octets) = host_line n items ≡ line.Reply octets
IsTold n items (line.Time multiple) = host_line n items ≡ line.Time multiple
IsTold n items (line.Ifsc size) = host_line n items ≡ line.Ifsc size
IsTold n items line = Unit {0}

-- the items show each call of these lines
abbrev pub AreTold : Numbers → List Line → Type 0
AreTold n [] = Unit {0}
AreTold n (line ∷ lines) = IsTold n (items_of lines) line × AreTold (numbers_over n (line_items line)) lines

-- The message of a call was seen to its end in the items after it: no octet stands for octets that nobody saw.
abbrev pub IsSeenWhole : Numbers → List Item → Line → Type 0
IsSeenWhole n items (line.Command octets) = application_is_cut n items ≡ false
IsSeenWhole n items (line.Ifsd size) = application_is_cut n items ≡ false
IsSeenWhole n items (line.Reply octets) = host_is_cut n items ≡ false
IsSeenWhole n items (line.Time multiple) = host_is_cut n items ≡ false
IsSeenWhole n items (line.Ifsc size) = host_is_cut n items ≡ false
IsSeenWhole n items line = Unit {0}

-- the message of each call of these lines was seen to its end
abbrev pub AreSeenWhole : Numbers → List Line → Type 0
AreSeenWhole n [] = Unit {0}
AreSeenWhole n (line ∷ lines) =
    IsSeenWhole n (items_of lines) line × AreSeenWhole (numbers_over n (line_items line)) lines

-- Whatever happened to a recorder, the trace of its line is recorded with the recorder's lines. This needs blocks that
-- show what both applications called.
abbrev pub MadeAgain : Type 0
MadeAgain = (atr : List ℕ) (ifsc : ℕ) (events : List Event) → IsFound atr (Ok ifsc) → AllHandOctets events
    → AreTold at_first (closed (records.after_events events (records.begun atr ifsc)))
    → lines_of ifsc (items_of (closed (records.after_events events (records.begun atr ifsc))))
    ≡ closed (records.after_events events (records.begun atr ifsc))

-- If each message was also seen to its end, no note is added.
abbrev pub GetsNoNote : Type 0
GetsNoNote = (atr : List ℕ) (ifsc : ℕ) (events : List Event) → IsFound atr (Ok ifsc) → AllHandOctets events
    → AreTold at_first (closed (records.after_events events (records.begun atr ifsc)))
    → AreSeenWhole at_first (closed (records.after_events events (records.begun atr ifsc)))
    → noted_lines ifsc (items_of (closed (records.after_events events (records.begun atr ifsc))))
    ≡ closed (records.after_events events (records.begun atr ifsc))
