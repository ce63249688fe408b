-- What each item adds. Both ends are called with what came to them. An end may need a call of its application, or the
-- end of its waiting time, to send what was seen. Then the line of that comes first.
use Rattle.std.specs.Prelude.{ℕ, List, [], ◌∷◌, ◌++◌, Bool, true, false, not, ◌&&◌, ◌||◌, if◌then◌else◌, Option, Some, None, Result, Ok, Err, bytes_eq, is_none}
use Rattle.block_core.specs.Block.{Parts, spelling}
use Rattle.t1_core.specs.Awaited.{terminal_awaits_block, card_awaits_block}
use Rattle.t1_core.specs.Terminal.{TerminalState, TerminalStep, terminal_turn, turn_of, state_after, new_terminal}
use Rattle.t1_core.specs.Card.{CardState, CardStep, card_turn, turn_of as card_turn_of, state_after as card_state_after, new_card}
use Rattle.t1_core.specs.declared.turns.TerminalTurn.{TerminalTurn}
use Rattle.t1_core.specs.declared.turns.TerminalTurn.TheVariants.{Send}
use Rattle.t1_core.specs.declared.turns.TerminalFault.{TerminalFault}
use Rattle.t1_core.specs.declared.turns.CardTurn.{CardTurn}
use Rattle.t1_core.specs.declared.turns.CardTurn.TheVariants.{Send as CardSend}
use Rattle.t1_core.specs.declared.turns.CardFault.{CardFault}
use Rattle.exchange_text.specs.declared.line.Arrival.{Arrival}
use Rattle.exchange_text.specs.declared.line.Arrival.TheVariants.{Whole, Lost, Changed}
use Rattle.exchange_text.specs.declared.line.Line.{Line}
use Rattle.exchange_text.specs.declared.line.Line.TheVariants as line
use Rattle.exchange_core.specs.Recording.{terminal_input, card_input, telling}
use Rattle.exchange_core.specs.declared.event.LastTurn.TheVariants.{Terminal, Card}
use Rattle.block_core.specs.declared.side.Side.TheVariants as side
use Rattle.traces.specs.declared.said.Numbers.{Numbers}
use Rattle.traces.specs.declared.standing.Standing.{Standing}
use Rattle.traces.specs.declared.standing.Standing.TheVariants.{Left, Waits, Sends}
use Rattle.traces.specs.declared.trace.Item.{Item}
use Rattle.traces.specs.declared.trace.Item.TheVariants.{Block, Quiet, Moment}
use Rattle.traces.specs.Seen.{seen}
use Rattle.traces.specs.Said.{application_line, at_first, host_line, is_resynch, numbers_after}

-- ---- an end and its next block that is seen

abbrev pub is_waiting : Standing → Bool
is_waiting Waits = true
is_waiting Left = false
is_waiting (Sends block) = false

abbrev pub is_spelled : Parts → List ℕ → Bool
is_spelled block octets = bytes_eq (spelling block) octets

-- whether octets can be how a block was seen: its own octets, or octets that aren't a block
abbrev pub meets : Parts → List ℕ → Bool
meets block octets = is_spelled block octets || is_none (seen octets)

abbrev pub is_met : Standing → List ℕ → Bool
is_met (Sends block) octets = meets block octets
is_met Left octets = false
is_met Waits octets = false

-- a block of RESYNCH, after which both ends begin again
abbrev pub begins_anew : Option Parts → Bool
begins_anew None = false
begins_anew (Some block) = is_resynch block.pcb

-- The end is about to send a block, and these octets are another one. A terminal that asks for RESYNCH before it is due
-- differs from its table. For that, no block that nobody saw is assumed.
abbrev pub misses : Standing → List ℕ → Bool
misses (Sends block) octets = not (meets block octets) && not (begins_anew (seen octets))
misses Left octets = false
misses Waits octets = false

-- The standing after these octets: an end that differs from its table isn't followed any more.
abbrev pub standing_after : Standing → List ℕ → Standing
standing_after standing octets = if is_met standing octets then Waits else Left

abbrev pub whole : Bool → Arrival
whole lost = if lost then Lost else Whole

abbrev pub arrival : Parts → List ℕ → Bool → Arrival
arrival block octets lost = if lost || is_spelled block octets then whole lost else Changed octets

-- what the end sent if these octets were seen, and how that arrived
abbrev pub sent_as : Standing → List ℕ → Bool → List ℕ × Arrival
sent_as (Sends block) octets lost =
    if meets block octets then (spelling block, arrival block octets lost) else (octets, whole lost)
sent_as Left octets lost = (octets, whole lost)
sent_as Waits octets lost = (octets, whole lost)

-- ---- both ends

-- Both ends, and how each stands to its next block that is seen; the numbers of the last I-blocks that were seen; the
-- last moment, if no line has it yet; and the lines so far.
pub record Following : Type 0 where
  pub terminal : TerminalState
  pub card : CardState
  pub terminal_is : Standing
  pub card_is : Standing
  pub numbers : Numbers
  pub held : Option ℕ
  pub lines : List Line

-- both ends new, with no line
abbrev pub begun : ℕ → Following
begun ifsc = record {
  terminal = new_terminal ifsc;
  card = new_card ifsc;
  terminal_is = Waits;
  card_is = Waits;
  numbers = at_first;
  held = None;
  lines = [];
}

abbrev pub adds : Following → List Line → Following
adds f more = record f { lines = f.lines ++ more }

abbrev pub writes : Following → Line → Following
writes f line = adds f (line ∷ [])

-- the line of a moment that had none yet is written
abbrev pub released_by : Following → Option ℕ → Following
released_by f None = f
released_by f (Some moment) = record f { held = None; lines = f.lines ++ line.Moment moment ∷ [] }

unfoldable pub released : Following → Following
released f = released_by f f.held

-- The terminal's result after a call, in the state after it. A block that it sends is kept until it is seen; the line
-- of another turn is written at once. After a refusal the terminal isn't followed any more.
abbrev pub terminal_did : Following → Result TerminalTurn TerminalFault → Following
terminal_did f (Ok (Send block)) = record f { terminal_is = Sends block }
terminal_did f (Ok turn) = record f {
  terminal_is = Waits;
  lines = f.lines ++ telling f.terminal f.card (Terminal turn);
}
terminal_did f (Err fault) = record f { terminal_is = Left }

abbrev pub terminal_stepped : Following → Line → TerminalStep → Following
terminal_stepped f line step =
    terminal_did (record f { terminal = state_after f.terminal step; lines = f.lines ++ line ∷ [] }) (turn_of step)

-- a line is written, and the terminal is called with it
unfoldable pub terminal_hears : Following → Line → Following
terminal_hears f line = terminal_stepped f line (terminal_turn f.terminal (terminal_input f.terminal line))

abbrev pub card_did : Following → Result CardTurn CardFault → Following
card_did f (Ok (CardSend block)) = record f { card_is = Sends block }
card_did f (Ok turn) = record f { card_is = Waits; lines = f.lines ++ telling f.terminal f.card (Card turn) }
card_did f (Err fault) = record f { card_is = Left }

abbrev pub card_stepped : Following → Line → CardStep → Following
card_stepped f line step =
    card_did (record f { card = card_state_after f.card step; lines = f.lines ++ line ∷ [] }) (card_turn_of step)

-- a line is written, and the card is called with it
unfoldable pub card_hears : Following → Line → Following
card_hears f line = card_stepped f line (card_turn f.card (card_input f.card line))

-- a block that wasn't seen is lost
abbrev pub terminal_settled : Following → Standing → Following
terminal_settled f (Sends block) = record f {
  terminal_is = Waits;
  lines = f.lines ++ line.FromTerminal (spelling block) Lost ∷ [];
}
terminal_settled f Left = f
terminal_settled f Waits = f

unfoldable pub settled_terminal : Following → Following
settled_terminal f = terminal_settled f f.terminal_is

abbrev pub card_settled : Following → Standing → Following
card_settled f (Sends block) = record f {
  card_is = Waits;
  lines = f.lines ++ line.FromCard (spelling block) Lost ∷ [];
}
card_settled f Left = f
card_settled f Waits = f

unfoldable pub settled_card : Following → Following
settled_card f = card_settled f f.card_is

-- the end of what was seen
abbrev pub ended : Following → Following
ended f = released (settled_card (settled_terminal f))

-- ---- items

-- if the card's host has to make a call, it makes the call
unfoldable pub after_host : Following → List Item → Following
after_host f items =
    if is_waiting f.card_is && not (card_awaits_block f.card.waits)
    then card_hears f (host_line f.numbers items)
    else f

-- if the terminal has no block to send, its waiting time ends, or its application makes a call
unfoldable pub after_begins : Following → List Item → Following
after_begins f items =
    if not (is_waiting f.terminal_is) then f
    else (if terminal_awaits_block f.terminal.waits then terminal_hears f line.Quiet
    else terminal_hears f (application_line f.numbers items))

-- if another block was seen than the one that the terminal is about to send, that one is lost, and its waiting time
-- ends
abbrev pub goes_again : Following → Bool → List ℕ → Following
goes_again f has_waited octets =
    if not has_waited && misses f.terminal_is octets then terminal_hears (settled_terminal f) line.Quiet else f

unfoldable pub after_moves : Following → List ℕ → List Item → Following
after_moves f octets items =
    goes_again (after_begins f items) (is_waiting f.terminal_is && terminal_awaits_block f.terminal.waits) octets

-- the line of a block to an end; the end takes it if the block arrived and the end is followed
unfoldable pub reaches_card : Following → Line → Bool → Following
reaches_card f line lost = if not lost && is_waiting f.card_is then card_hears f line else writes f line

unfoldable pub reaches_terminal : Following → Line → Bool → Following
reaches_terminal f line lost = if not lost && is_waiting f.terminal_is then terminal_hears f line else writes f line

abbrev pub terminal_sent : Following → List ℕ → Bool → Following
terminal_sent f octets lost =
    let sent = sent_as f.terminal_is octets lost in
    reaches_card (record f { terminal_is = standing_after f.terminal_is octets })
    (line.FromTerminal sent.0 sent.1) lost

-- A block of the terminal was seen. First comes what the card has to do before it, then what makes the terminal send
-- it.
unfoldable pub from_terminal : Following → List ℕ → Bool → List Item → Following
from_terminal f octets lost items =
    terminal_sent (released (after_moves (settled_card (after_host f items)) octets items)) octets lost

abbrev pub card_sent : Following → List ℕ → Bool → Following
card_sent f octets lost =
    let sent = sent_as f.card_is octets lost in
    reaches_terminal (record f { card_is = standing_after f.card_is octets }) (line.FromCard sent.0 sent.1) lost

-- A block of the card was seen.
unfoldable pub from_card : Following → List ℕ → Bool → List Item → Following
from_card f octets lost items = card_sent (released (after_host (settled_terminal f) items)) octets lost

-- the terminal's waiting time ended
unfoldable pub after_quiet : Following → List Item → Following
after_quiet f items =
    reaches_terminal (released (settled_terminal (settled_card (after_host f items)))) line.Quiet false

abbrev pub numbered : Following → Item → Following
numbered f item = record f { numbers = numbers_after f.numbers item }

-- an item, the first of these items; a moment is kept for the line of the next item
abbrev pub after_item : Following → List Item → Item → Following
after_item f items (Block side.Terminal octets lost) =
    numbered (from_terminal f octets lost items) (Block side.Terminal octets lost)
after_item f items (Block side.Card octets lost) =
    numbered (from_card f octets lost items) (Block side.Card octets lost)
after_item f items Quiet = after_quiet f items
after_item f items (Moment moment) = record (released f) { held = Some moment }

-- all items, one after another
abbrev pub after_items : Following → List Item → Following
after_items f [] = f
after_items f (item ∷ items) = after_items (after_item f (item ∷ items) item) items
