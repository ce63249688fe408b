-- Which lines of an exchange say what nobody saw, by their places among the lines, from 0. Such a line is a lost block
-- or an ended waiting time that isn't in the trace, or a message with an octet 00 for octets that nobody saw.
use Rattle.std.specs.Prelude.{ℕ, List, [], ◌∷◌, ◌++◌, length, Bool, true, false, not, ◌&&◌, if◌then◌else◌}
use Rattle.t1_core.specs.Awaited.{terminal_awaits_block, card_awaits_block}
use Rattle.block_core.specs.declared.side.Side.TheVariants as side
use Rattle.traces.specs.declared.standing.Standing.{Standing}
use Rattle.traces.specs.declared.standing.Standing.TheVariants.{Left, Waits, Sends}
use Rattle.traces.specs.declared.trace.Item.{Item}
use Rattle.traces.specs.declared.trace.Item.TheVariants.{Block, Quiet, Moment}
use Rattle.traces.specs.Following.{Following, after_begins, after_host, after_item, after_items, begun, is_waiting, misses, settled_card, settled_terminal}
use Rattle.traces.specs.Said.{application_is_cut, host_is_cut}

abbrev pub is_sending : Standing → Bool
is_sending (Sends block) = true
is_sending Left = false
is_sending Waits = false

-- the places, with that of the next line if nobody saw what it says
abbrev pub noted : Bool → Following → List ℕ → List ℕ
noted true f places = places ++ length f.lines ∷ []
noted false f places = places

-- a block that the terminal was to send and that wasn't seen
abbrev pub settling_terminal : Following → List ℕ → List ℕ
settling_terminal f places = noted (is_sending f.terminal_is) f places

abbrev pub settling_card : Following → List ℕ → List ℕ
settling_card f places = noted (is_sending f.card_is) f places

-- a call of the card's host, if nobody saw the end of its reply
abbrev pub asking_host : Following → List Item → List ℕ → List ℕ
asking_host f items places =
    if is_waiting f.card_is && not (card_awaits_block f.card.waits)
    then noted (host_is_cut f.numbers items) f places
    else places

-- the end of a waiting time, or a command whose end nobody saw
abbrev pub beginning : Following → List Item → List ℕ → List ℕ
beginning f items places =
    if not (is_waiting f.terminal_is) then places
    else (if terminal_awaits_block f.terminal.waits then noted true f places
    else noted (application_is_cut f.numbers items) f places)

-- if the terminal sent another block than it was to send: the lost block, and the end of its waiting time
abbrev pub going_again : Following → Bool → List ℕ → List ℕ → List ℕ
going_again f has_waited octets places =
    if not has_waited && misses f.terminal_is octets
    then noted true (settled_terminal f) (settling_terminal f places)
    else places

abbrev pub moving : Following → List ℕ → List Item → List ℕ → List ℕ
moving f octets items places =
    going_again (after_begins f items) (is_waiting f.terminal_is && terminal_awaits_block f.terminal.waits) octets
    (beginning f items places)

abbrev pub before_terminal : Following → List ℕ → List Item → List ℕ → List ℕ
before_terminal f octets items places =
    moving (settled_card (after_host f items)) octets items
    (settling_card (after_host f items) (asking_host f items places))

abbrev pub before_card : Following → List Item → List ℕ → List ℕ
before_card f items places = asking_host (settled_terminal f) items (settling_terminal f places)

abbrev pub before_quiet : Following → List Item → List ℕ → List ℕ
before_quiet f items places =
    settling_terminal (settled_card (after_host f items))
    (settling_card (after_host f items) (asking_host f items places))

-- the places that an item adds, the first of these items
abbrev pub before_item : Following → List Item → Item → List ℕ → List ℕ
before_item f items (Block side.Terminal octets lost) places = before_terminal f octets items places
before_item f items (Block side.Card octets lost) places = before_card f items places
before_item f items Quiet places = before_quiet f items places
before_item f items (Moment moment) places = places

abbrev pub over_items : Following → List Item → List ℕ → List ℕ
over_items f [] places = places
over_items f (item ∷ items) places =
    over_items (after_item f (item ∷ items) item) items (before_item f (item ∷ items) item places)

-- the places at the end of what was seen
abbrev pub ending : Following → List ℕ → List ℕ
ending f places = settling_card (settled_terminal f) (settling_terminal f places)

-- the places in the lines of what was seen, in rising order
unfoldable pub unseen_in : ℕ → List Item → List ℕ
unseen_in ifsc items = ending (after_items (begun ifsc) items) (over_items (begun ifsc) items [])
