-- What a recorder holds: the lines that it wrote, and the link after the events of these lines.
use Rattle.std.specs.Prelude.{◌≡◌, ℕ, ◌++◌, List, [], ◌∷◌, ◌==◌, true, if◌then◌else◌, slice_index, Option, Some, None, Result, Ok, Err, bit_xor, ◌<◌}
use denote.Ref.{Bor}
use Rattle.octet_core.specs.Octets.{AreOctets, xor_of}
use Rattle.block_core.specs.Block.{Parts, front_of, spelling}
use Rattle.t1_core.specs.Came.{Came, got, damaged, invalid, quiet, class_of}
use Rattle.t1_core.specs.Terminal.{TerminalState, TerminalStep, TerminalInput, Mark, transmit, ask_ifs, takes, terminal_turn, new_terminal}
use Rattle.t1_core.specs.Card.{CardState, CardStep, CardInput, replies, more_time, ask_ifs as ask_ifsc, takes as card_takes, card_turn, new_card}
use Rattle.t1_core.specs.Link.{Link, UnderWay, nothing, to_card, to_terminal, tables, new_link, run, sent_by_terminal, sent_by_card}
use Rattle.t1_core.specs.Link as link
use Rattle.t1_core.specs.Promises.{AllHandOctets}
use Rattle.t1_core.specs.declared.turns.TerminalTurn.{TerminalTurn}
use Rattle.t1_core.specs.declared.turns.CardTurn.{CardTurn}
use Rattle.exchange_text.specs.Exchange.{are_proper}
use Rattle.exchange_text.specs.Exchange.{arrived}
use Rattle.exchange_core.specs.Faults.{atr_fault_name}
use Rattle.exchange_core.specs.Replay.{End, by_role, terminal_end, terminal_line, card_end, card_line, IsFound}
use Rattle.exchange_core.specs.Told.{Covers, told}
use Rattle.exchange_text.specs.declared.exchange.Version.TheVariants.{One}
use Rattle.exchange_text.specs.declared.line.Arrival.{Arrival}
use Rattle.exchange_text.specs.declared.line.Arrival.TheVariants.{Whole, Lost, Changed}
use Rattle.exchange_text.specs.declared.line.Line.{Line}
use Rattle.exchange_text.specs.declared.line.Line.TheVariants.{Command, Ifsd, Quiet, Reply, Time, Ifsc, FromTerminal, FromCard}
use Rattle.exchange_core.specs.declared.event.Event.{Event}
use Rattle.exchange_core.specs.declared.event.Event.TheVariants.{Deliver, Damage, Spoil, Lose, Transmit, AskIfsd, Reply as HostReply, MoreTime, AskIfsc}
use Rattle.exchange_core.specs.declared.event.EventFault.{EventFault}
use Rattle.exchange_core.specs.declared.event.EventFault.TheVariants.{NothingUnderWay, Terminal as AtTerminal, Card as AtCard, Memory}
use Rattle.exchange_core.specs.declared.event.LastTurn.{LastTurn}
use Rattle.exchange_core.specs.declared.event.LastTurn.TheVariants.{Nothing, Terminal, Card}
use Rattle.exchange_core.specs.declared.event.RecorderFault.{RecorderFault}
use Rattle.exchange_core.specs.declared.event.RecorderFault.TheVariants.{Refused, Memory as NoMemory}
use Rattle.exchange_core.specs.declared.carrying.Change.{Change}
use Rattle.exchange_core.specs.declared.carrying.Change.TheVariants.{Kept, Damaged, Spoilt}

-- ---- events

-- the event of the link
abbrev pub event_of : Event → link.Event
event_of Deliver = link.delivers
event_of Damage = link.damages
event_of Spoil = link.spoils
event_of Lose = link.loses
event_of (Transmit command) = link.transmits command.now
event_of (AskIfsd size) = link.asks_ifsd size
event_of (HostReply octets) = link.host_replies octets.now
event_of (MoreTime multiple) = link.host_asks_time multiple
event_of (AskIfsc size) = link.host_asks_ifsc size

-- the result of a step of an end: its turn, or why it refuses the call
abbrev pub terminal_outcome : TerminalStep → Result LastTurn EventFault
terminal_outcome (Ok step) = Ok (Terminal step.0)
terminal_outcome (Err fault) = Err (AtTerminal fault)

abbrev pub card_outcome : CardStep → Result LastTurn EventFault
card_outcome (Ok step) = Ok (Card step.0)
card_outcome (Err fault) = Err (AtCard fault)

-- the result if the block on the line comes to its receiver as this
abbrev pub arrival_outcome : Link → UnderWay → Came → Result LastTurn EventFault
arrival_outcome l nothing came = Err NothingUnderWay
arrival_outcome l (to_card block) came = card_outcome (card_turn l.card (card_takes came))
arrival_outcome l (to_terminal block) came = terminal_outcome (terminal_turn l.terminal (takes came))

abbrev pub whole : UnderWay → Came
whole nothing = quiet
whole (to_card block) = got block.pcb block.inf
whole (to_terminal block) = got block.pcb block.inf

abbrev pub loss_outcome : Link → UnderWay → Result LastTurn EventFault
loss_outcome l nothing = Err NothingUnderWay
loss_outcome l under_way = terminal_outcome (terminal_turn l.terminal (takes quiet))

-- the result of an event: the turn of the end that it calls, or why it changes nothing
abbrev pub outcome_of : Link → link.Event → Result LastTurn EventFault
outcome_of l link.delivers = arrival_outcome l l.under_way (whole l.under_way)
outcome_of l link.damages = arrival_outcome l l.under_way damaged
outcome_of l link.spoils = arrival_outcome l l.under_way invalid
outcome_of l link.loses = loss_outcome l l.under_way
outcome_of l (link.transmits command) = terminal_outcome (terminal_turn l.terminal (transmit command))
outcome_of l (link.asks_ifsd size) = terminal_outcome (terminal_turn l.terminal (ask_ifs size))
outcome_of l (link.host_replies octets) = card_outcome (card_turn l.card (replies octets))
outcome_of l (link.host_asks_time multiple) = card_outcome (card_turn l.card (more_time multiple))
outcome_of l (link.host_asks_ifsc size) = card_outcome (card_turn l.card (ask_ifsc size))

-- P, unless memory ran out
abbrev pub IfNotMemory : EventFault → Type 0 → Type 0
IfNotMemory Memory P = Unit {0}
IfNotMemory fault P = P

-- ---- lines

-- the octets of a block with the last one changed
abbrev pub damaged_octets : Parts → List ℕ
damaged_octets v = front_of v ++ bit_xor (xor_of (front_of v)) 1 ∷ []

-- the octets of the same block with node address 1
abbrev pub spoilt_octets : Parts → List ℕ
spoilt_octets v = spelling (record { nad = 1; pcb = v.pcb; inf = v.inf })

abbrev pub arrival_of : Change → Parts → Arrival
arrival_of Kept v = Whole
arrival_of Damaged v = Changed (damaged_octets v)
arrival_of Spoilt v = Changed (spoilt_octets v)

abbrev pub change_event : Change → link.Event
change_event Kept = link.delivers
change_event Damaged = link.damages
change_event Spoilt = link.spoils

-- the event of a block with this arrival; a damaged block still has the node address 0
abbrev pub arrival_event : Arrival → link.Event
arrival_event Whole = link.delivers
arrival_event Lost = link.loses
arrival_event (Changed octets) = if slice_index octets 0 == 0 then link.damages else link.spoils

-- the event of a line, if it has one
abbrev pub line_events : Line → List link.Event
line_events (Command octets) = link.transmits octets ∷ []
line_events (Ifsd size) = link.asks_ifsd size ∷ []
line_events (Reply octets) = link.host_replies octets ∷ []
line_events (Time multiple) = link.host_asks_time multiple ∷ []
line_events (Ifsc size) = link.host_asks_ifsc size ∷ []
line_events (FromTerminal sent arrival) = arrival_event arrival ∷ []
line_events (FromCard sent arrival) = arrival_event arrival ∷ []
line_events line = []

abbrev pub events_of : List Line → List link.Event
events_of [] = []
events_of (line ∷ lines) = line_events line ++ events_of lines

-- ---- the recorder

-- The answer to reset; the size of information fields that it states for the card; the lines so far; and the last turn,
-- which has no line yet.
pub record Recording : Type 0 where
  pub atr : List ℕ
  pub ifsc : ℕ
  pub lines : List Line
  pub last : LastTurn

-- The link of the law, after the events of the lines.
abbrev pub link_of : Recording → Link
link_of r = run tables (events_of r.lines) (new_link r.ifsc)

-- the line of a turn, with its block lost
abbrev pub as_lost : Line → Line
as_lost (FromTerminal sent arrival) = FromTerminal sent Lost
as_lost (FromCard sent arrival) = FromCard sent Lost
as_lost line = line

-- the line of the last turn
abbrev pub telling : TerminalState → CardState → LastTurn → List Line
telling t c Nothing = []
telling t c (Terminal turn) = as_lost (terminal_line t turn) ∷ []
telling t c (Card turn) = as_lost (card_line c turn) ∷ []

-- the line of the last turn, which has no line yet: a block that is still on the line counts as lost
abbrev pub untold : Recording → List Line
untold r = telling (link_of r).terminal (link_of r).card r.last

-- the lines of the exchange: those so far, and the line of the last turn
abbrev pub closed : Recording → List Line
closed r = r.lines ++ untold r

-- the line of the block that is on the line and comes to its receiver with this change
abbrev pub carried : UnderWay → Change → List Line
carried nothing change = []
carried (to_card block) change = FromTerminal (spelling block) (arrival_of change block) ∷ []
carried (to_terminal block) change = FromCard (spelling block) (arrival_of change block) ∷ []

-- The lines that an event adds. If a block is carried, its line is the line of the last turn. A call comes after that
-- line.
abbrev pub added : Recording → link.Event → List Line
added r link.delivers = carried (link_of r).under_way Kept
added r link.damages = carried (link_of r).under_way Damaged
added r link.spoils = carried (link_of r).under_way Spoilt
added r link.loses = untold r ++ Quiet ∷ []
added r (link.transmits command) = untold r ++ Command command ∷ []
added r (link.asks_ifsd size) = untold r ++ Ifsd size ∷ []
added r (link.host_replies octets) = untold r ++ Reply octets ∷ []
added r (link.host_asks_time multiple) = untold r ++ Time multiple ∷ []
added r (link.host_asks_ifsc size) = untold r ++ Ifsc size ∷ []

-- the recorder after an event with this outcome
abbrev pub with_outcome : Recording → link.Event → Result LastTurn EventFault → Result Recording EventFault
with_outcome r event (Ok last) = Ok (record r { lines = r.lines ++ added r event; last = last })
with_outcome r event (Err fault) = Err fault

-- The recorder after an event, or why the event changes nothing.
abbrev pub recorded : Recording → link.Event → Result Recording EventFault
recorded r event = with_outcome r event (outcome_of (link_of r) event)

-- ---- what holds for a recorder

abbrev pub under_way_of : LastTurn → UnderWay
under_way_of Nothing = nothing
under_way_of (Terminal turn) = sent_by_terminal turn
under_way_of (Card turn) = sent_by_card turn

-- the turn of an end that no line has matched yet
abbrev pub terminal_pending : LastTurn → Option TerminalTurn
terminal_pending (Terminal turn) = Some turn
terminal_pending last = None

abbrev pub card_pending : LastTurn → Option CardTurn
card_pending (Card turn) = Some turn
card_pending last = None

abbrev pub onward : {A : Type 0} → (A → Result A (List ℕ)) → Result A (List ℕ) → Result A (List ℕ)
onward next (Ok after) = next after
onward next (Err text) = Err text

-- lines replayed one after another: the state, and the turn that no line has matched yet
abbrev pub runs : {S T : Type 0} → End S T → List Line → S × Option T → Result (S × Option T) (List ℕ)
runs end [] at = Ok at
runs end (line ∷ lines) at = onward (λ after. runs end lines after) (by_role end at.0 at.1 line (end.role at.0 line))

-- The ends are those of the link. Each replays the lines to its present state, and no line has matched the last turn
-- yet. The lines of the record say what happened.
pub record IsRecording (r : Recording) (t : TerminalState) (c : CardState) : Type 0 where
  pub octets : AllHandOctets (events_of r.lines)
  pub terminal : (link_of r).terminal ≡ t
  pub card : (link_of r).card ≡ c
  pub under_way : (link_of r).under_way ≡ under_way_of r.last
  pub at_terminal : runs terminal_end r.lines (new_terminal r.ifsc, None) ≡ Ok (t, terminal_pending r.last)
  pub at_card : runs card_end r.lines (new_card r.ifsc, None) ≡ Ok (c, card_pending r.last)
  pub proper : are_proper One 0 r.lines ≡ true
  pub found : IsFound r.atr (Ok r.ifsc)
  pub covers : Covers (told (closed r)) (link_of r)

-- ---- calls of the ends

-- the call that a line is to the terminal; a line of another kind counts as quiet
abbrev pub terminal_input : TerminalState → Line → TerminalInput
terminal_input t (Command octets) = transmit octets
terminal_input t (Ifsd size) = ask_ifs size
terminal_input t (FromCard sent arrival) = takes (class_of t.ifsd (arrived sent arrival))
terminal_input t line = takes quiet

-- the call that a line is to the card; a line of another kind counts as a block without octets
abbrev pub card_input : CardState → Line → CardInput
card_input c (Reply octets) = replies octets
card_input c (Time multiple) = more_time multiple
card_input c (Ifsc size) = ask_ifsc size
card_input c (FromTerminal sent arrival) = card_takes (class_of c.ifsc (arrived sent arrival))
card_input c line = card_takes (class_of c.ifsc [])

abbrev pub Turns : TerminalState → TerminalInput → TerminalTurn → TerminalState → Type 0
Turns t input turn next = (mark : Mark) × (terminal_turn t input ≡ Ok (turn, next, mark))

-- an optional line as a list
abbrev pub as_list : Option Line → List Line
as_list None = []
as_list (Some line) = line ∷ []

-- a block is on the line
abbrev pub IsSent : UnderWay → Type 0
IsSent nothing = ⊥
IsSent under_way = Unit {0}

-- The terminal may be called with the line: a call of the application, or quiet after a block was lost.
abbrev pub MayCall : LastTurn → Line → Type 0
MayCall last (Command octets) = AreOctets octets
MayCall last (Ifsd size) = size < 256
MayCall last Quiet = IsSent (under_way_of last)
MayCall last line = ⊥

-- the card's host may call the card with the line
abbrev pub MayReply : Line → Type 0
MayReply (Reply octets) = AreOctets octets
MayReply (Time multiple) = multiple < 256
MayReply (Ifsc size) = size < 256
MayReply line = ⊥

-- the event of such a call
abbrev pub call_event : Line → link.Event
call_event (Command octets) = link.transmits octets
call_event (Ifsd size) = link.asks_ifsd size
call_event (Reply octets) = link.host_replies octets
call_event (Time multiple) = link.host_asks_time multiple
call_event (Ifsc size) = link.host_asks_ifsc size
call_event line = link.loses

-- the block on the line, borrowed
abbrev pub IsLent : Option (Bor Parts) → UnderWay → Type 0
IsLent None nothing = Unit {0}
IsLent (Some block) (to_card sent) = block.now ≡ sent
IsLent (Some block) (to_terminal sent) = block.now ≡ sent
IsLent lent under_way = ⊥

-- P, of the name of the fault of a refused answer to reset; nothing if memory ran out
abbrev pub IfRefused : RecorderFault → (List ℕ → Type 0) → Type 0
IfRefused (Refused fault) P = P (atr_fault_name fault)
IfRefused NoMemory P = Unit {0}
