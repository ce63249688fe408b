-- What each event that is taken does to both ends, and the lines that tell it.
use Rattle.std.proofs.Common.{◌≡◌, ℕ, ◌+◌, ◌++◌, List, [], ◌∷◌, refl, sym, ap, subst, ◌∙◌, true, Option, Some, None, Result, Ok, Err}
use denote.Ref.{Bor}
use Rattle.std.specs.Option.{is_some}
use Rattle.block_core.specs.Block.{Parts, spelling}
use Rattle.t1_core.specs.Came.{Came, got, damaged, invalid, quiet, class_of, IsClass}
use Rattle.t1_core.specs.Terminal.{TerminalState, TerminalInput, transmit, ask_ifs, takes, terminal_turn, idle, longest}
use Rattle.t1_core.specs.Card.{CardState, CardInput, replies, more_time, ask_ifs as ask_ifsc, takes as card_takes, card_turn, host}
use Rattle.t1_core.specs.Link.{Link, UnderWay, nothing, to_card, to_terminal, tables, happens, terminal_makes, card_makes, arrives, delivered, lost, Event, loses, transmits, asks_ifsd, host_replies, host_asks_time, host_asks_ifsc, unanswered, with_reply}
use Rattle.t1_core.specs.Promises.{HandsOctets, IsTaken, AlwaysTaken}
use Rattle.t1_core.specs.declared.turns.TerminalTurn.{TerminalTurn}
use Rattle.t1_core.specs.declared.turns.TerminalTurn.TheVariants.{Send}
use Rattle.t1_core.specs.declared.turns.CardTurn.{CardTurn}
use Rattle.t1_core.specs.declared.turns.CardTurn.TheVariants.{Send as Sends}
use Rattle.t1_core.proofs.Kept.{any_good}
use Rattle.exchange_text.specs.Exchange.{are_proper}
use Rattle.exchange_text.specs.Text.{line_text}
use Rattle.exchange_core.specs.Replay.{Replays, terminal_end, card_end, terminal_role, card_role, terminal_line, card_line, calls, terminal_gives, card_gives}
use Rattle.exchange_core.specs.Recording.{Recording, link_of, IsRecording, MayCall, MayReply, IsSent, Turns, terminal_input, card_input, call_event, change_event, outcome_of, terminal_outcome, card_outcome, arrival_outcome, loss_outcome, telling, terminal_pending, card_pending, under_way_of, events_of, runs, arrival_of, whole, recorded, added, untold, carried, IfNotMemory, IsLent}
use Rattle.exchange_text.specs.Exchange.{arrived}
use Rattle.exchange_core.specs.declared.carrying.Change.{Change}
use Rattle.exchange_core.specs.declared.carrying.Change.TheVariants.{Kept, Damaged, Spoilt}
use Rattle.exchange_text.specs.declared.exchange.Version.TheVariants.{One}
use Rattle.exchange_text.specs.declared.line.Arrival.{Arrival}
use Rattle.exchange_text.specs.declared.line.Line.{Line}
use Rattle.exchange_text.specs.declared.line.Line.TheVariants.{Command, Ifsd, Quiet, Answer, IfsSet, GivenUp, Dead, Reply, Time, Ifsc, Asked, FromTerminal, FromCard, Moment, Note}
use Rattle.exchange_core.specs.declared.event.EventFault.{EventFault}
use Rattle.exchange_core.specs.declared.event.EventFault.TheVariants.{NothingUnderWay, Terminal as AtTerminal, Card as AtCard, Memory}
use Rattle.exchange_core.specs.declared.event.LastTurn.{LastTurn}
use Rattle.exchange_core.specs.declared.event.LastTurn.TheVariants.{Terminal, Card}
use Rattle.block_core.specs.declared.side.Side.{Side}
use Rattle.block_core.specs.declared.side.Side.TheVariants as side
use Rattle.exchange_core.proofs.Folds.{runs-on, replays-none, meets, tells-terminal, tells-card, rests, loss, proper-told, proper-on, events-on}
use Rattle.exchange_core.proofs.Resting.{idle-rests, host-rests, taken-idle, taken-host}
use Rattle.exchange_core.proofs.Changed.{came_of, came, told-change}
use Rattle.exchange_core.proofs.Recorded.{Acts, keeps, has-recorded, has-stepped, refused, terminal-made, card-made, terminal-taken, card-taken, terminal-called, card-called}

-- ---- calls

-- the application is answered, or the host called, only where nothing is under way
idle-now : (r : Recording) (t : TerminalState) (c : CardState) → IsRecording r t c → t.waits ≡ idle
    → under_way_of r.last ≡ nothing
idle-now r t c h e = sym h.under_way ∙ idle-rests (link_of r) (any_good longest longest r.ifsc (events_of r.lines))
    (ap (λ (s : TerminalState). s.waits) h.terminal ∙ e)

host-now : (r : Recording) (t : TerminalState) (c : CardState) → IsRecording r t c → c.waits ≡ host
    → under_way_of r.last ≡ nothing
host-now r t c h e = sym h.under_way ∙ host-rests (link_of r) (any_good longest longest r.ifsc (events_of r.lines))
    (ap (λ (s : CardState). s.waits) h.card ∙ e)

-- the line of the last turn, by the states of both ends
pub told-is : (r : Recording) (t : TerminalState) (c : CardState) → IsRecording r t c → untold r ≡ telling t c r.last
told-is r t c h = ap (λ (s : TerminalState). telling s (link_of r).card r.last) h.terminal
    ∙ ap (λ (s : CardState). telling t s r.last) h.card

-- a line after the one of the last turn
one-event : (t : TerminalState) (c : CardState) (last : LastTurn) (line : Line) → under_way_of last ≡ nothing
    → events_of (telling t c last ++ line ∷ []) ≡ events_of (line ∷ [])
one-event t c last line e = events-on (telling t c last) (line ∷ [])
    ∙ ap (λ (es : List Event). es ++ events_of (line ∷ [])) (rests t c last e)

terminal-acts : (r : Recording) (t : TerminalState) (c : CardState) (line : Line) (input : TerminalInput)
    (turn : TerminalTurn) (next : TerminalState) (event : Event) (other : Link)
    → IsRecording r t c → Turns t input turn next
    → events_of (telling t c r.last ++ line ∷ []) ≡ event ∷ [] → HandsOctets event
    → happens tables (link_of r) event ≡ terminal_makes (link_of r) other (terminal_turn (link_of r).terminal input)
    → other.card ≡ (link_of r).card
    → outcome_of (link_of r) event ≡ terminal_outcome (terminal_turn (link_of r).terminal input)
    → added r event ≡ untold r ++ line ∷ []
    → terminal_role t line ≡ calls (terminal_gives (terminal_turn t input))
    → runs card_end (line ∷ []) (c, None) ≡ Ok (c, None)
    → are_proper One 0 (line ∷ []) ≡ true
    → Acts r t c (telling t c r.last ++ line ∷ []) event (Terminal turn) next c
terminal-acts r t c line input turn next event other h turns events octets happening same outcome adding role passing
    proper =
    let at_link : terminal_turn (link_of r).terminal input ≡ Ok (turn, next, turns.0) =
    ap (λ (s : TerminalState). terminal_turn s input) h.terminal ∙ turns.1 in
    let made = terminal-made (link_of r) other (terminal_turn (link_of r).terminal input) turn next turns.0 at_link in
    record {
      events = events;
      octets = octets;
      terminal = ap (λ (l : Link). l.terminal) happening ∙ made.0;
      card = ap (λ (l : Link). l.card) happening ∙ made.1 ∙ same ∙ h.card;
      under_way = ap (λ (l : Link). l.under_way) happening ∙ made.2;
      at_terminal = runs-on terminal_end (telling t c r.last) (line ∷ []) _ _ (tells-terminal t c r.last)
          ∙ terminal-called t line (terminal_turn t input) turn next turns.0 role turns.1;
      at_card = runs-on card_end (telling t c r.last) (line ∷ []) _ _ (tells-card t c r.last) ∙ passing;
      proper = proper-on (telling t c r.last) (line ∷ []) (proper-told t c r.last) proper;
      writes = adding ∙ ap (λ (l : List Line). l ++ line ∷ []) (told-is r t c h);
      outcome = outcome ∙ terminal-taken (terminal_turn (link_of r).terminal input) turn next turns.0 at_link;
    }

card-acts : (r : Recording) (t : TerminalState) (c : CardState) (line : Line) (input : CardInput) (turn : CardTurn)
    (next : CardState) (event : Event) (other : Link)
    → IsRecording r t c → card_turn c input ≡ Ok (turn, next)
    → events_of (telling t c r.last ++ line ∷ []) ≡ event ∷ [] → HandsOctets event
    → happens tables (link_of r) event ≡ card_makes (link_of r) other (card_turn (link_of r).card input)
    → other.terminal ≡ (link_of r).terminal
    → outcome_of (link_of r) event ≡ card_outcome (card_turn (link_of r).card input)
    → added r event ≡ untold r ++ line ∷ []
    → card_role c line ≡ calls (card_gives (card_turn c input))
    → runs terminal_end (line ∷ []) (t, None) ≡ Ok (t, None)
    → are_proper One 0 (line ∷ []) ≡ true
    → Acts r t c (telling t c r.last ++ line ∷ []) event (Card turn) t next
card-acts r t c line input turn next event other h turns events octets happening same outcome adding role passing
    proper =
    let at_link : card_turn (link_of r).card input ≡ Ok (turn, next) =
    ap (λ (s : CardState). card_turn s input) h.card ∙ turns in
    let made = card-made (link_of r) other (card_turn (link_of r).card input) turn next at_link in
    record {
      events = events;
      octets = octets;
      terminal = ap (λ (l : Link). l.terminal) happening ∙ made.0 ∙ same ∙ h.terminal;
      card = ap (λ (l : Link). l.card) happening ∙ made.1;
      under_way = ap (λ (l : Link). l.under_way) happening ∙ made.2;
      at_terminal = runs-on terminal_end (telling t c r.last) (line ∷ []) _ _ (tells-terminal t c r.last) ∙ passing;
      at_card = runs-on card_end (telling t c r.last) (line ∷ []) _ _ (tells-card t c r.last)
          ∙ card-called c line (card_turn c input) turn next role turns;
      proper = proper-on (telling t c r.last) (line ∷ []) (proper-told t c r.last) proper;
      writes = adding ∙ ap (λ (l : List Line). l ++ line ∷ []) (told-is r t c h);
      outcome = outcome ∙ card-taken (card_turn (link_of r).card input) turn next at_link;
    }

lost-is : (l : Link) (w : UnderWay) → IsSent w
    → lost tables l w ≡ terminal_makes l (record l { disturbed = l.disturbed + 1 })
    (terminal_turn l.terminal (takes quiet))
lost-is l nothing h = absurd h
lost-is l (to_card block) h = refl
lost-is l (to_terminal block) h = refl

loss-is : (l : Link) (w : UnderWay) → IsSent w
    → loss_outcome l w ≡ terminal_outcome (terminal_turn l.terminal (takes quiet))
loss-is l nothing h = absurd h
loss-is l (to_card block) h = refl
loss-is l (to_terminal block) h = refl

-- a call that the terminal takes: its line comes after the one of the last turn
pub called-acts : (r : Recording) (t : TerminalState) (c : CardState) (line : Line) (turn : TerminalTurn)
    (next : TerminalState)
    → IsRecording r t c → MayCall r.last line → Turns t (terminal_input t line) turn next
    → Acts r t c (telling t c r.last ++ line ∷ []) (call_event line) (Terminal turn) next c
called-acts r t c (Command m) turn next h may turns =
    let l = link_of r in
    terminal-acts r t c (Command m) (transmit m) turn next (transmits m)
    (record l { exchanges = unanswered m ∷ l.exchanges; disturbed = 0; failed = 0 }) h turns
    (one-event t c r.last (Command m) (idle-now r t c h (taken-idle t.waits _ turn next turns.0 turns.1))) may refl refl
    refl refl refl refl refl
called-acts r t c (Ifsd n) turn next h may turns =
    let l = link_of r in
    terminal-acts r t c (Ifsd n) (ask_ifs n) turn next (asks_ifsd n) (record l { disturbed = 0; failed = 0 }) h turns
    (one-event t c r.last (Ifsd n) (idle-now r t c h (taken-idle t.waits _ turn next turns.0 turns.1))) may refl refl
    refl refl refl refl refl
called-acts r t c Quiet turn next h may turns =
    let l = link_of r in
    let sent : IsSent l.under_way = subst IsSent (sym h.under_way) may in
    terminal-acts r t c Quiet (takes quiet) turn next loses (record l { disturbed = l.disturbed + 1 }) h turns
    (events-on (telling t c r.last) (Quiet ∷ [])
    ∙ ap (λ (es : List Event). es ++ events_of (Quiet ∷ [])) (loss t c r.last may)) tt
    (lost-is l l.under_way sent) refl (loss-is l l.under_way sent) refl refl refl refl
called-acts r t c (Answer octets) turn next h may turns = absurd may
called-acts r t c IfsSet turn next h may turns = absurd may
called-acts r t c GivenUp turn next h may turns = absurd may
called-acts r t c Dead turn next h may turns = absurd may
called-acts r t c (Reply octets) turn next h may turns = absurd may
called-acts r t c (Time n) turn next h may turns = absurd may
called-acts r t c (Ifsc n) turn next h may turns = absurd may
called-acts r t c (Asked octets) turn next h may turns = absurd may
called-acts r t c (FromTerminal sent arrival) turn next h may turns = absurd may
called-acts r t c (FromCard sent arrival) turn next h may turns = absurd may
called-acts r t c (Moment n) turn next h may turns = absurd may
called-acts r t c (Note text) turn next h may turns = absurd may

-- and a call of its host that the card takes
pub replied-acts : (r : Recording) (t : TerminalState) (c : CardState) (line : Line) (turn : CardTurn)
    (next : CardState)
    → IsRecording r t c → MayReply line → card_turn c (card_input c line) ≡ Ok (turn, next)
    → Acts r t c (telling t c r.last ++ line ∷ []) (call_event line) (Card turn) t next
replied-acts r t c (Reply m) turn next h may turns =
    let l = link_of r in
    card-acts r t c (Reply m) (replies m) turn next (host_replies m) (record l { services = with_reply l.services m }) h
    turns
    (one-event t c r.last (Reply m) (host-now r t c h (taken-host c.waits _ turn next turns))) may refl refl refl refl
    refl refl refl
replied-acts r t c (Time n) turn next h may turns =
    let l = link_of r in
    card-acts r t c (Time n) (more_time n) turn next (host_asks_time n) l h turns
    (one-event t c r.last (Time n) (host-now r t c h (taken-host c.waits _ turn next turns))) may refl refl refl refl
    refl refl refl
replied-acts r t c (Ifsc n) turn next h may turns =
    let l = link_of r in
    card-acts r t c (Ifsc n) (ask_ifsc n) turn next (host_asks_ifsc n) l h turns
    (one-event t c r.last (Ifsc n) (host-now r t c h (taken-host c.waits _ turn next turns))) may refl refl refl refl
    refl refl refl
replied-acts r t c (Command octets) turn next h may turns = absurd may
replied-acts r t c (Ifsd n) turn next h may turns = absurd may
replied-acts r t c Quiet turn next h may turns = absurd may
replied-acts r t c (Answer octets) turn next h may turns = absurd may
replied-acts r t c IfsSet turn next h may turns = absurd may
replied-acts r t c GivenUp turn next h may turns = absurd may
replied-acts r t c Dead turn next h may turns = absurd may
replied-acts r t c (Asked octets) turn next h may turns = absurd may
replied-acts r t c (FromTerminal sent arrival) turn next h may turns = absurd may
replied-acts r t c (FromCard sent arrival) turn next h may turns = absurd may
replied-acts r t c (Moment n) turn next h may turns = absurd may
replied-acts r t c (Note text) turn next h may turns = absurd may

-- ---- blocks that arrive

-- the link whose count of disturbed blocks a change raises
abbrev disturbed_by : Change → Link → Link
disturbed_by Kept l = l
disturbed_by Damaged l = record l { disturbed = l.disturbed + 1 }
disturbed_by Spoilt l = record l { disturbed = l.disturbed + 1 }

same-terminal : (change : Change) (l : Link) → (disturbed_by change l).terminal ≡ l.terminal
same-terminal Kept l = refl
same-terminal Damaged l = refl
same-terminal Spoilt l = refl

same-card : (change : Change) (l : Link) → (disturbed_by change l).card ≡ l.card
same-card Kept l = refl
same-card Damaged l = refl
same-card Spoilt l = refl

hands : (change : Change) → HandsOctets (change_event change)
hands Kept = tt
hands Damaged = tt
hands Spoilt = tt

to-card-is : (l : Link) (b : Parts) (change : Change) → l.under_way ≡ to_card b
    → happens tables l (change_event change) ≡ card_makes l (disturbed_by change l)
    (card_turn l.card (card_takes (came_of change b)))
to-card-is l b Kept e = ap (λ (w : UnderWay). delivered tables l w) e
to-card-is l b Damaged e = ap (λ (w : UnderWay). arrives tables l w damaged) e
to-card-is l b Spoilt e = ap (λ (w : UnderWay). arrives tables l w invalid) e

to-terminal-is : (l : Link) (b : Parts) (change : Change) → l.under_way ≡ to_terminal b
    → happens tables l (change_event change) ≡ terminal_makes l (disturbed_by change l)
    (terminal_turn l.terminal (takes (came_of change b)))
to-terminal-is l b Kept e = ap (λ (w : UnderWay). delivered tables l w) e
to-terminal-is l b Damaged e = ap (λ (w : UnderWay). arrives tables l w damaged) e
to-terminal-is l b Spoilt e = ap (λ (w : UnderWay). arrives tables l w invalid) e

card-outcome-is : (l : Link) (b : Parts) (change : Change) → l.under_way ≡ to_card b
    → outcome_of l (change_event change) ≡ card_outcome (card_turn l.card (card_takes (came_of change b)))
card-outcome-is l b Kept e = ap (λ (w : UnderWay). arrival_outcome l w (whole w)) e
card-outcome-is l b Damaged e = ap (λ (w : UnderWay). arrival_outcome l w damaged) e
card-outcome-is l b Spoilt e = ap (λ (w : UnderWay). arrival_outcome l w invalid) e

terminal-outcome-is : (l : Link) (b : Parts) (change : Change) → l.under_way ≡ to_terminal b
    → outcome_of l (change_event change) ≡ terminal_outcome (terminal_turn l.terminal (takes (came_of change b)))
terminal-outcome-is l b Kept e = ap (λ (w : UnderWay). arrival_outcome l w (whole w)) e
terminal-outcome-is l b Damaged e = ap (λ (w : UnderWay). arrival_outcome l w damaged) e
terminal-outcome-is l b Spoilt e = ap (λ (w : UnderWay). arrival_outcome l w invalid) e

added-is : (r : Recording) (change : Change) → added r (change_event change) ≡ carried (link_of r).under_way change
added-is r Kept = refl
added-is r Damaged = refl
added-is r Spoilt = refl

card-role : (c : CardState) (b : Parts) (change : Change)
    → card_role c (FromTerminal (spelling b) (arrival_of change b)) ≡ calls
    (card_gives (card_turn c (card_takes (class_of c.ifsc (arrived (spelling b) (arrival_of change b))))))
card-role c b Kept = refl
card-role c b Damaged = refl
card-role c b Spoilt = refl

terminal-role : (t : TerminalState) (b : Parts) (change : Change)
    → terminal_role t (FromCard (spelling b) (arrival_of change b)) ≡ calls
    (terminal_gives (terminal_turn t (takes (class_of t.ifsd (arrived (spelling b) (arrival_of change b))))))
terminal-role t b Kept = refl
terminal-role t b Damaged = refl
terminal-role t b Spoilt = refl

-- the block under way, and that its receiver takes it
way-of : (r : Recording) (t : TerminalState) (c : CardState) (last : LastTurn) → IsRecording r t c → r.last ≡ last
    → (link_of r).under_way ≡ under_way_of last
way-of r t c last h e = h.under_way ∙ ap under_way_of e

card-class : (r : Recording) (t : TerminalState) (c : CardState) (b : Parts) → AlwaysTaken tables → IsRecording r t c
    → r.last ≡ Terminal (Send b) → IsClass c.ifsc (spelling b) (got b.pcb b.inf)
card-class r t c b taken h e =
    subst (λ (s : CardState). IsClass s.ifsc (spelling b) (got b.pcb b.inf)) h.card
    (subst (λ (w : UnderWay). IsTaken (link_of r) w) (way-of r t c (Terminal (Send b)) h e)
    (taken longest longest r.ifsc (events_of r.lines) h.octets))

terminal-class : (r : Recording) (t : TerminalState) (c : CardState) (b : Parts) → AlwaysTaken tables
    → IsRecording r t c → r.last ≡ Card (Sends b) → IsClass t.ifsd (spelling b) (got b.pcb b.inf)
terminal-class r t c b taken h e =
    subst (λ (s : TerminalState). IsClass s.ifsd (spelling b) (got b.pcb b.inf)) h.terminal
    (subst (λ (w : UnderWay). IsTaken (link_of r) w) (way-of r t c (Card (Sends b)) h e)
    (taken longest longest r.ifsc (events_of r.lines) h.octets))

-- a block that the card takes, whole or changed: its line tells the terminal's turn
pub to-card-acts : (r : Recording) (t : TerminalState) (c : CardState) (b : Parts) (change : Change) (turn : CardTurn)
    (next : CardState)
    → AlwaysTaken tables → IsRecording r t c → r.last ≡ Terminal (Send b)
    → card_turn c (card_input c (FromTerminal (spelling b) (arrival_of change b))) ≡ Ok (turn, next)
    → Acts r t c (FromTerminal (spelling b) (arrival_of change b) ∷ []) (change_event change) (Card turn) t next
to-card-acts r t c b change turn next taken h e turns =
    let l = link_of r in
    let line : Line = FromTerminal (spelling b) (arrival_of change b) in
    let way : l.under_way ≡ to_card b = way-of r t c (Terminal (Send b)) h e in
    let class = card-class r t c b taken h e in
    let as_came : card_turn c (card_takes (came_of change b)) ≡ Ok (turn, next) =
    ap (λ (x : Came). card_turn c (card_takes x)) (sym (came c.ifsc b change class)) ∙ turns in
    let at_link : card_turn l.card (card_takes (came_of change b)) ≡ Ok (turn, next) =
    ap (λ (s : CardState). card_turn s (card_takes (came_of change b))) h.card ∙ as_came in
    let made = card-made l (disturbed_by change l) (card_turn l.card (card_takes (came_of change b))) turn next
    at_link in
    let happening = to-card-is l b change way in
    record {
      events = ap (λ (x : Event). x ∷ []) (told-change c.ifsc b change class);
      octets = hands change;
      terminal = ap (λ (x : Link). x.terminal) happening ∙ made.0 ∙ same-terminal change l ∙ h.terminal;
      card = ap (λ (x : Link). x.card) happening ∙ made.1;
      under_way = ap (λ (x : Link). x.under_way) happening ∙ made.2;
      at_terminal = ap (λ (last : LastTurn). runs terminal_end (line ∷ []) (t, terminal_pending last)) e
          ∙ meets (t, None) (spelling b) (line_text (terminal_line t (Send b)));
      at_card = ap (λ (last : LastTurn). runs card_end (line ∷ []) (c, card_pending last)) e
          ∙ card-called c line (card_turn c (card_input c line)) turn next (card-role c b change) turns;
      proper = refl;
      writes = added-is r change ∙ ap (λ (w : UnderWay). carried w change) way;
      outcome = card-outcome-is l b change way
          ∙ card-taken (card_turn l.card (card_takes (came_of change b))) turn next at_link;
    }

-- and one that the terminal takes, whose line tells the card's turn
pub to-terminal-acts : (r : Recording) (t : TerminalState) (c : CardState) (b : Parts) (change : Change)
    (turn : TerminalTurn) (next : TerminalState)
    → AlwaysTaken tables → IsRecording r t c → r.last ≡ Card (Sends b)
    → Turns t (terminal_input t (FromCard (spelling b) (arrival_of change b))) turn next
    → Acts r t c (FromCard (spelling b) (arrival_of change b) ∷ []) (change_event change) (Terminal turn) next c
to-terminal-acts r t c b change turn next taken h e turns =
    let l = link_of r in
    let line : Line = FromCard (spelling b) (arrival_of change b) in
    let way : l.under_way ≡ to_terminal b = way-of r t c (Card (Sends b)) h e in
    let class = terminal-class r t c b taken h e in
    let as_came : terminal_turn t (takes (came_of change b)) ≡ Ok (turn, next, turns.0) =
    ap (λ (x : Came). terminal_turn t (takes x)) (sym (came t.ifsd b change class)) ∙ turns.1 in
    let at_link : terminal_turn l.terminal (takes (came_of change b)) ≡ Ok (turn, next, turns.0) =
    ap (λ (s : TerminalState). terminal_turn s (takes (came_of change b))) h.terminal ∙ as_came in
    let made = terminal-made l (disturbed_by change l) (terminal_turn l.terminal (takes (came_of change b))) turn next
    turns.0 at_link in
    let happening = to-terminal-is l b change way in
    record {
      events = ap (λ (x : Event). x ∷ []) (told-change t.ifsd b change class);
      octets = hands change;
      terminal = ap (λ (x : Link). x.terminal) happening ∙ made.0;
      card = ap (λ (x : Link). x.card) happening ∙ made.1 ∙ same-card change l ∙ h.card;
      under_way = ap (λ (x : Link). x.under_way) happening ∙ made.2;
      at_terminal = ap (λ (last : LastTurn). runs terminal_end (line ∷ []) (t, terminal_pending last)) e
          ∙ terminal-called t line (terminal_turn t (terminal_input t line)) turn next turns.0
          (terminal-role t b change) turns.1;
      at_card = ap (λ (last : LastTurn). runs card_end (line ∷ []) (c, card_pending last)) e
          ∙ meets (c, None) (spelling b) (line_text (card_line c (Sends b)));
      proper = refl;
      writes = added-is r change ∙ ap (λ (w : UnderWay). carried w change) way;
      outcome = terminal-outcome-is l b change way
          ∙ terminal-taken (terminal_turn l.terminal (takes (came_of change b))) turn next turns.0 at_link;
    }

-- ---- the record that is closed

-- the record with the line of the last turn differs nowhere at either end
pub closes : (r : Recording) (t : TerminalState) (c : CardState) (which : Side) → IsRecording r t c
    → Replays r.atr (r.lines ++ telling t c r.last) which None
closes r t c side.Terminal h = record {
  found = Ok r.ifsc;
  is_found = h.found;
  is = replays-none terminal_end (r.lines ++ telling t c r.last) 3 _ t
      (runs-on terminal_end r.lines (telling t c r.last) _ _ h.at_terminal ∙ tells-terminal t c r.last);
}
closes r t c side.Card h = record {
  found = Ok r.ifsc;
  is_found = h.found;
  is = replays-none card_end (r.lines ++ telling t c r.last) 3 _ c
      (runs-on card_end r.lines (telling t c r.last) _ _ h.at_card ∙ tells-card t c r.last);
}

-- and its lines may come in an exchange of version 1
pub closed-proper : (r : Recording) (t : TerminalState) (c : CardState) → IsRecording r t c
    → are_proper One 0 (r.lines ++ telling t c r.last) ≡ true
closed-proper r t c h = proper-on r.lines (telling t c r.last) h.proper (proper-told t c r.last)

-- ---- what the calls of the recorder leave

-- the record with these lines and this last turn
abbrev pub with_lines : Recording → List Line → LastTurn → Recording
with_lines r lines last = record { atr = r.atr; ifsc = r.ifsc; lines = lines; last = last }

-- the recorder after an event, and its link
abbrev pub Follows : Recording → Recording → Event → Type 0
Follows old new event = (recorded old event ≡ Ok new) × (link_of new ≡ happens tables (link_of old) event)

-- both ends and the record after an event
pub leaves : (r : Recording) (t t' : TerminalState) (c c' : CardState) (more lines : List Line) (event : Event)
    (last : LastTurn)
    → lines ≡ r.lines ++ more → IsRecording r t c → Acts r t c more event last t' c'
    → IsRecording (with_lines r lines last) t' c' × Follows r (with_lines r lines last) event
leaves r t t' c c' more lines event last e h a =
    subst (λ (l : List Line). IsRecording (with_lines r l last) t' c' × Follows r (with_lines r l last) event) (sym e)
    (keeps h a, (has-recorded a, has-stepped a))

if-not-memory : {P Q : Type 0} (fault : EventFault) → (P → Q) → IfNotMemory fault P → IfNotMemory fault Q
if-not-memory Memory f h = tt
if-not-memory NothingUnderWay f h = f h
if-not-memory (AtTerminal own) f h = f h
if-not-memory (AtCard own) f h = f h

refuses : (r : Recording) (event : Event) (outcome : Result LastTurn EventFault) (fault : EventFault)
    → outcome_of (link_of r) event ≡ outcome → IfNotMemory fault (outcome ≡ Err fault)
    → IfNotMemory fault (recorded r event ≡ Err fault)
refuses r event outcome fault e h = if-not-memory fault (λ named. refused r event fault (e ∙ named)) h

-- where the terminal refuses a call, the event changes nothing, for the same fault
pub call-refused : (r : Recording) (t : TerminalState) (c : CardState) (line : Line) (fault : EventFault)
    → IsRecording r t c → MayCall r.last line
    → IfNotMemory fault (terminal_outcome (terminal_turn t (terminal_input t line)) ≡ Err fault)
    → IfNotMemory fault (recorded r (call_event line) ≡ Err fault)
call-refused r t c (Command m) fault h may named =
    refuses r (transmits m) _ fault (ap (λ (s : TerminalState). terminal_outcome (terminal_turn s (transmit m)))
    h.terminal) named
call-refused r t c (Ifsd n) fault h may named =
    refuses r (asks_ifsd n) _ fault (ap (λ (s : TerminalState). terminal_outcome (terminal_turn s (ask_ifs n)))
    h.terminal) named
call-refused r t c Quiet fault h may named =
    refuses r loses _ fault (loss-is (link_of r) (link_of r).under_way (subst IsSent (sym h.under_way) may)
    ∙ ap (λ (s : TerminalState). terminal_outcome (terminal_turn s (takes quiet))) h.terminal) named
call-refused r t c (Answer octets) fault h may named = absurd may
call-refused r t c IfsSet fault h may named = absurd may
call-refused r t c GivenUp fault h may named = absurd may
call-refused r t c Dead fault h may named = absurd may
call-refused r t c (Reply octets) fault h may named = absurd may
call-refused r t c (Time n) fault h may named = absurd may
call-refused r t c (Ifsc n) fault h may named = absurd may
call-refused r t c (Asked octets) fault h may named = absurd may
call-refused r t c (FromTerminal sent arrival) fault h may named = absurd may
call-refused r t c (FromCard sent arrival) fault h may named = absurd may
call-refused r t c (Moment n) fault h may named = absurd may
call-refused r t c (Note text) fault h may named = absurd may

-- and where the card refuses a call of its host
pub reply-refused : (r : Recording) (t : TerminalState) (c : CardState) (line : Line) (fault : EventFault)
    → IsRecording r t c → MayReply line → IfNotMemory fault (card_outcome (card_turn c (card_input c line)) ≡ Err fault)
    → IfNotMemory fault (recorded r (call_event line) ≡ Err fault)
reply-refused r t c (Reply m) fault h may named =
    refuses r (host_replies m) _ fault (ap (λ (s : CardState). card_outcome (card_turn s (replies m))) h.card) named
reply-refused r t c (Time n) fault h may named =
    refuses r (host_asks_time n) _ fault (ap (λ (s : CardState). card_outcome (card_turn s (more_time n))) h.card) named
reply-refused r t c (Ifsc n) fault h may named =
    refuses r (host_asks_ifsc n) _ fault (ap (λ (s : CardState). card_outcome (card_turn s (ask_ifsc n))) h.card) named
reply-refused r t c (Command octets) fault h may named = absurd may
reply-refused r t c (Ifsd n) fault h may named = absurd may
reply-refused r t c Quiet fault h may named = absurd may
reply-refused r t c (Answer octets) fault h may named = absurd may
reply-refused r t c IfsSet fault h may named = absurd may
reply-refused r t c GivenUp fault h may named = absurd may
reply-refused r t c Dead fault h may named = absurd may
reply-refused r t c (Asked octets) fault h may named = absurd may
reply-refused r t c (FromTerminal sent arrival) fault h may named = absurd may
reply-refused r t c (FromCard sent arrival) fault h may named = absurd may
reply-refused r t c (Moment n) fault h may named = absurd may
reply-refused r t c (Note text) fault h may named = absurd may

-- and where the card refuses a block that comes to it
pub to-card-refused : (r : Recording) (t : TerminalState) (c : CardState) (b : Parts) (change : Change)
    (fault : EventFault)
    → AlwaysTaken tables → IsRecording r t c → r.last ≡ Terminal (Send b)
    → IfNotMemory fault (card_outcome (card_turn c (card_input c (FromTerminal (spelling b) (arrival_of change b))))
    ≡ Err fault)
    → IfNotMemory fault (recorded r (change_event change) ≡ Err fault)
to-card-refused r t c b change fault taken h e named =
    refuses r (change_event change) _ fault (
    card-outcome-is (link_of r) b change (way-of r t c (Terminal (Send b)) h e)
    ∙ ap (λ (s : CardState). card_outcome (card_turn s (card_takes (came_of change b)))) h.card
    ∙ ap (λ (x : Came). card_outcome (card_turn c (card_takes x)))
    (sym (came c.ifsc b change (card-class r t c b taken h e)))) named

-- and where the terminal refuses one
pub to-terminal-refused : (r : Recording) (t : TerminalState) (c : CardState) (b : Parts) (change : Change)
    (fault : EventFault)
    → AlwaysTaken tables → IsRecording r t c → r.last ≡ Card (Sends b)
    → IfNotMemory fault (terminal_outcome
    (terminal_turn t (terminal_input t (FromCard (spelling b) (arrival_of change b)))) ≡ Err fault)
    → IfNotMemory fault (recorded r (change_event change) ≡ Err fault)
to-terminal-refused r t c b change fault taken h e named =
    refuses r (change_event change) _ fault (
    terminal-outcome-is (link_of r) b change (way-of r t c (Card (Sends b)) h e)
    ∙ ap (λ (s : TerminalState). terminal_outcome (terminal_turn s (takes (came_of change b)))) h.terminal
    ∙ ap (λ (x : Came). terminal_outcome (terminal_turn t (takes x)))
    (sym (came t.ifsd b change (terminal-class r t c b taken h e)))) named

-- the same of lines whose octets and arrival are known by equations
pub to-card-leaves : (r : Recording) (t : TerminalState) (c : CardState) (b : Parts) (change : Change) (sent : List ℕ)
    (arrival : Arrival) (turn : CardTurn) (next : CardState) (lines : List Line)
    → AlwaysTaken tables → IsRecording r t c → r.last ≡ Terminal (Send b) → sent ≡ spelling b
    → arrival ≡ arrival_of change b
    → card_turn c (card_input c (FromTerminal sent arrival)) ≡ Ok (turn, next)
    → lines ≡ r.lines ++ FromTerminal sent arrival ∷ []
    → IsRecording (with_lines r lines (Card turn)) t next
    × Follows r (with_lines r lines (Card turn)) (change_event change)
to-card-leaves r t c b change sent arrival turn next lines taken h e sent-is arrival-is turns lines-is =
    let now = subst (λ (x : Arrival). card_turn c (card_input c (FromTerminal (spelling b) x)) ≡ Ok (turn, next))
    arrival-is
    (subst (λ (s : List ℕ). card_turn c (card_input c (FromTerminal s arrival)) ≡ Ok (turn, next)) sent-is turns) in
    let written : lines ≡ r.lines ++ FromTerminal (spelling b) (arrival_of change b) ∷ [] =
    lines-is ∙ ap (λ (s : List ℕ). r.lines ++ FromTerminal s arrival ∷ []) sent-is
    ∙ ap (λ (x : Arrival). r.lines ++ FromTerminal (spelling b) x ∷ []) arrival-is in
    leaves r t t c next (FromTerminal (spelling b) (arrival_of change b) ∷ []) lines (change_event change) (Card turn)
    written h (to-card-acts r t c b change turn next taken h e now)

-- and where the block comes to the terminal
pub to-terminal-leaves : (r : Recording) (t : TerminalState) (c : CardState) (b : Parts) (change : Change)
    (sent : List ℕ) (arrival : Arrival) (turn : TerminalTurn) (next : TerminalState) (lines : List Line)
    → AlwaysTaken tables → IsRecording r t c → r.last ≡ Card (Sends b) → sent ≡ spelling b
    → arrival ≡ arrival_of change b
    → Turns t (terminal_input t (FromCard sent arrival)) turn next
    → lines ≡ r.lines ++ FromCard sent arrival ∷ []
    → IsRecording (with_lines r lines (Terminal turn)) next c
    × Follows r (with_lines r lines (Terminal turn)) (change_event change)
to-terminal-leaves r t c b change sent arrival turn next lines taken h e sent-is arrival-is turns lines-is =
    let now = subst (λ (x : Arrival). Turns t (terminal_input t (FromCard (spelling b) x)) turn next) arrival-is
    (subst (λ (s : List ℕ). Turns t (terminal_input t (FromCard s arrival)) turn next) sent-is turns) in
    let written : lines ≡ r.lines ++ FromCard (spelling b) (arrival_of change b) ∷ [] =
    lines-is ∙ ap (λ (s : List ℕ). r.lines ++ FromCard s arrival ∷ []) sent-is
    ∙ ap (λ (x : Arrival). r.lines ++ FromCard (spelling b) x ∷ []) arrival-is in
    leaves r t next c c (FromCard (spelling b) (arrival_of change b) ∷ []) lines (change_event change) (Terminal turn)
    written h (to-terminal-acts r t c b change turn next taken h e now)

-- where the card refuses such a block, the event changes nothing, for the same fault
pub to-card-refuses : (r : Recording) (t : TerminalState) (c : CardState) (b : Parts) (change : Change) (sent : List ℕ)
    (arrival : Arrival) (fault : EventFault)
    → AlwaysTaken tables → IsRecording r t c → r.last ≡ Terminal (Send b) → sent ≡ spelling b
    → arrival ≡ arrival_of change b
    → IfNotMemory fault (card_outcome (card_turn c (card_input c (FromTerminal sent arrival))) ≡ Err fault)
    → IfNotMemory fault (recorded r (change_event change) ≡ Err fault)
to-card-refuses r t c b change sent arrival fault taken h e sent-is arrival-is named =
    to-card-refused r t c b change fault taken h e
    (subst (λ (x : Arrival). IfNotMemory fault
    (card_outcome (card_turn c (card_input c (FromTerminal (spelling b) x))) ≡ Err fault)) arrival-is
    (subst (λ (s : List ℕ). IfNotMemory fault
    (card_outcome (card_turn c (card_input c (FromTerminal s arrival))) ≡ Err fault)) sent-is named))

-- and where the terminal refuses one
pub to-terminal-refuses : (r : Recording) (t : TerminalState) (c : CardState) (b : Parts) (change : Change)
    (sent : List ℕ) (arrival : Arrival) (fault : EventFault)
    → AlwaysTaken tables → IsRecording r t c → r.last ≡ Card (Sends b) → sent ≡ spelling b
    → arrival ≡ arrival_of change b
    → IfNotMemory fault (terminal_outcome (terminal_turn t (terminal_input t (FromCard sent arrival))) ≡ Err fault)
    → IfNotMemory fault (recorded r (change_event change) ≡ Err fault)
to-terminal-refuses r t c b change sent arrival fault taken h e sent-is arrival-is named =
    to-terminal-refused r t c b change fault taken h e
    (subst (λ (x : Arrival). IfNotMemory fault
    (terminal_outcome (terminal_turn t (terminal_input t (FromCard (spelling b) x))) ≡ Err fault)) arrival-is
    (subst (λ (s : List ℕ). IfNotMemory fault
    (terminal_outcome (terminal_turn t (terminal_input t (FromCard s arrival))) ≡ Err fault)) sent-is named))

-- a block that is lent is under way
pub lent-sent : (lent : Option (Bor Parts)) (w : UnderWay) → is_some lent ≡ true → IsLent lent w → IsSent w
lent-sent None nothing e h = cc
lent-sent (Some block) nothing e h = absurd h
lent-sent lent (to_card block) e h = tt
lent-sent lent (to_terminal block) e h = tt
