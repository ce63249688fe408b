-- The lines of a record tell what happened at the link, event by event.
use Rattle.std.proofs.Common.{◌≡◌, ◌+◌, ◌++◌, ℕ, List, [], ◌∷◌, Bool, true, false, refl, sym, ap, subst, ◌∙◌, Option, Some, None, Ok, Err}
use Rattle.std.specs.Prelude.{if◌then◌else◌, ◌==◌, ◌&&◌, nat_le, length, take, drop}
use Rattle.octet_core.proofs.Choice.{either}
use Rattle.block_core.specs.Block.{Parts, other}
use Rattle.block_core.specs.declared.pcb.S.TheVariants.{Resynch, Ifs, Abort, Wtx}
use Rattle.block_core.specs.declared.pcb.Pcb.TheVariants.{Info, Ready, Request, Response}
use Rattle.t1_core.specs.Came.{Came, got, damaged, invalid, quiet, carried as size_carried, same, request}
use Rattle.t1_core.specs.Terminal.{Limits, TerminalState, TerminalStep, TerminalInput, transmit, ask_ifs, takes, terminal_turn, if_idle, is_reserved, Mark, no_failure, Waits, idle, ack, answer, more, ifs, resynch, dead, longest}
use Rattle.t1_core.specs.Card.{CardState, CardStep, CardRequest, size, time, card_came, Waits as CardWaits, command, host, reply, asking, waiting as card_waiting, sends_saved, in_either, in_command, in_reply, in_asking, joins as card_joins, sends_next as card_sends_next, resynched, card_with, request_block, if_host}
use Rattle.t1_core.specs.declared.turns.TerminalFault.TheVariants.{Reserved}
use Rattle.t1_core.specs.declared.turns.CardFault.TheVariants.{TooLong, Reserved as CardReserved}
use Rattle.t1_core.specs.Link.{Link, UnderWay, nothing, to_card, to_terminal, tables, Exchange, unanswered, with_reply, without_answer, happens, delivered, arrives, lost, terminal_makes, card_makes, Event, delivers, damages, spoils, loses, transmits, asks_ifsd, host_replies, host_asks_time, host_asks_ifsc}
use Rattle.t1_core.specs.declared.turns.TerminalTurn.{TerminalTurn}
use Rattle.t1_core.specs.declared.turns.TerminalTurn.TheVariants.{Send, Answered, IfsSet, GivenUp, Dead}
use Rattle.t1_core.specs.declared.turns.CardTurn.TheVariants.{Send as Sends, Asked}
use Rattle.t1_core.proofs.Good.{Good}
use Rattle.t1_core.proofs.Kept.{any_good}
use Rattle.t1_core.proofs.Told.{tells}
use Rattle.exchange_core.specs.Recording.{Recording, link_of, closed, untold, added, carried, telling, events_of, outcome_of, terminal_outcome, card_outcome, arrival_outcome, loss_outcome, whole, under_way_of, IsSent}
use Rattle.exchange_core.specs.Told.{Told, Covers, IfAsking, IfAgain, MayAsk, Pauses, told, told_by, told_after, nothing_told}
use Rattle.exchange_core.specs.declared.carrying.Change.{Change}
use Rattle.exchange_core.specs.declared.carrying.Change.TheVariants.{Kept, Damaged, Spoilt}
use Rattle.exchange_text.specs.declared.line.Line.{Line}
use Rattle.exchange_text.specs.declared.line.Line.TheVariants as line
use Rattle.exchange_core.specs.declared.event.LastTurn.{LastTurn}
use Rattle.exchange_core.specs.declared.event.LastTurn.TheVariants as last
use Rattle.exchange_core.proofs.Pausing.{PausingStep, pausing, AsksNothing, idle-asks, Hears, WayHears, way-hears}

-- ---- lines after lines

told-on : (h : Told) (lines rest : List Line) → told_after h (lines ++ rest) ≡ told_after (told_after h lines) rest
told-on h [] rest = refl
told-on h (x ∷ lines) rest = told-on (told_by h x) lines rest

-- the line of a block tells nothing of a message
silent : (h : Told) (t : TerminalState) (c : CardState) (turn : LastTurn) → IsSent (under_way_of turn)
    → told_after h (telling t c turn) ≡ h
silent h t c last.Nothing sent = absurd sent
silent h t c (last.Terminal (Send block)) sent = refl
silent h t c (last.Terminal Answered) sent = absurd sent
silent h t c (last.Terminal IfsSet) sent = absurd sent
silent h t c (last.Terminal GivenUp) sent = absurd sent
silent h t c (last.Terminal Dead) sent = absurd sent
silent h t c (last.Card (Sends block)) sent = refl
silent h t c (last.Card Asked) sent = absurd sent

silent-carried : (h : Told) (way : UnderWay) (change : Change) → told_after h (carried way change) ≡ h
silent-carried h nothing change = refl
silent-carried h (to_card block) change = refl
silent-carried h (to_terminal block) change = refl

-- ---- the terminal's steps

if-again : (b : Bool) (P Q : Type 0) → (P → Q) → IfAgain b P → IfAgain b Q
if-again true P Q f h = f h
if-again false P Q f h = tt

may-ask : (c : CardWaits) (w next : Waits) → (Pauses w → Pauses next) → MayAsk c w → MayAsk c next
may-ask (command octets) w next f h = f h
may-ask host w next f h = f h
may-ask (reply field rest) w next f h = f h
may-ask (asking request) w next f h = tt

-- what its line tells after what is told, where it makes a step
abbrev TerminalCovers : Told → Link → Link → TerminalStep → Type 0
TerminalCovers h before l (Ok step) = Covers (told_after h (telling step.1 l.card (last.Terminal step.0)))
    (terminal_makes before l (Ok step))
TerminalCovers h before l (Err fault) = Unit {0}

-- no asked line comes after the step, where none was to come before it
abbrev AgainStep : Told → CardWaits → TerminalStep → Type 0
AgainStep h c (Ok step) = IfAgain h.again (MayAsk c step.1.waits)
AgainStep h c (Err fault) = Unit {0}

again-step : (h : Told) (c : CardWaits) (w : Waits) (step : TerminalStep) → (Pauses w → PausingStep step)
    → IfAgain h.again (MayAsk c w) → AgainStep h c step
again-step h c w (Ok step) f k = if-again h.again _ _ (may-ask c w step.1.waits f) k
again-step h c w (Err fault) f k = tt

-- the turn of a step is told
turned : (h : Told) (before l : Link) (turn : TerminalTurn) (next : TerminalState) (mark : Mark)
    → (turn ≡ Answered → (octets : List ℕ) × (next.answered ≡ Some octets)) → Covers h l
    → IfAgain h.again (MayAsk l.card.waits next.waits) → TerminalCovers h before l (Ok (turn, next, mark))
turned h before l (Send block) next mark some k again = record {
  exchanges = k.exchanges;
  services = k.services;
  asking = k.asking;
  again = again;
}
turned h before l Answered next mark some k again =
    let octets = some refl in
    record {
      exchanges = rw octets.1 (ap (λ (es : List Exchange). with_reply es octets.0) k.exchanges);
      services = k.services;
      asking = k.asking;
      again = again;
    }
turned h before l IfsSet next mark some k again = record {
  exchanges = k.exchanges;
  services = k.services;
  asking = k.asking;
  again = again;
}
turned h before l GivenUp next mark some k again = record {
  exchanges = ap without_answer k.exchanges;
  services = k.services;
  asking = k.asking;
  again = again;
}
turned h before l Dead next mark some k again = record {
  exchanges = ap without_answer k.exchanges;
  services = k.services;
  asking = k.asking;
  again = again;
}

stepped : (h : Told) (before l : Link) (input : TerminalInput) (step : TerminalStep)
    → terminal_turn l.terminal input ≡ step → Covers h l → AgainStep h l.card.waits step
    → TerminalCovers h before l step
stepped h before l input (Ok step) is k again = turned h before l step.0 step.1 step.2
    (λ e. tells.answer l.terminal step.1 step.2 input
    (is ∙ ap (λ (x : TerminalTurn). Ok (x, step.1, step.2)) e)) k again
stepped h before l input (Err fault) is k again = tt

-- where the step was taken
terminal-event : (h : Told) (before l : Link) (step : TerminalStep) (turn : LastTurn)
    → TerminalCovers h before l step → terminal_outcome step ≡ Ok turn
    → Covers (told_after h (telling (terminal_makes before l step).terminal (terminal_makes before l step).card turn))
    (terminal_makes before l step)
terminal-event h before l (Ok step) turn k e =
    let is : last.Terminal step.0 ≡ turn = cc in
    subst (λ (x : LastTurn). Covers (told_after h (telling step.1 l.card x)) (terminal_makes before l (Ok step))) is k
terminal-event h before l (Err fault) turn k e = cc

-- what comes to the terminal
took : (h : Told) (before l : Link) (came : Came) → Covers h l
    → TerminalCovers h before l (terminal_turn l.terminal (takes came))
took h before l came k = stepped h before l (takes came) _ refl k
    (again-step h l.card.waits l.terminal.waits _ (λ p. pausing l.terminal l.terminal.waits came p p) k.again)

-- ---- the card's steps

-- what its line tells after what is told, where it makes a step
abbrev CardCovers : Told → Link → Link → CardStep → Type 0
CardCovers h before l (Ok step) = Covers (told_after h (telling l.terminal step.1 (last.Card step.0)))
    (card_makes before l (Ok step))
CardCovers h before l (Err fault) = Unit {0}

-- where the step was taken
card-event : (h : Told) (before l : Link) (step : CardStep) (turn : LastTurn)
    → CardCovers h before l step → card_outcome step ≡ Ok turn
    → Covers (told_after h (telling (card_makes before l step).terminal (card_makes before l step).card turn))
    (card_makes before l step)
card-event h before l (Ok step) turn k e =
    let is : last.Card step.0 ≡ turn = cc in
    subst (λ (x : LastTurn). Covers (told_after h (telling l.terminal step.1 x)) (card_makes before l (Ok step))) is k
card-event h before l (Err fault) turn k e = cc

-- a block is sent, in this state
sent : (h : Told) (before l : Link) (block : Parts) (next : CardState) → h.exchanges ≡ l.exchanges
    → h.services ≡ l.services → IfAsking next.waits (h.again ≡ true)
    → IfAgain h.again (MayAsk next.waits l.terminal.waits) → CardCovers h before l (Ok (Sends block, next))
sent h before l block next exchanges services asks again = record {
  exchanges = exchanges;
  services = services;
  asking = asks;
  again = again;
}

not-again : (b : Bool) (P : Type 0) → (P → ⊥) → IfAgain b P → b ≡ false
not-again true P never h = absurd (never h)
not-again false P never h = refl

asks-cut : (field rest : List ℕ) (P : Type 0) → IfAsking (card_waiting field rest) P
asks-cut field [] P = tt
asks-cut field (x ∷ rest) P = tt

may-cut : (field rest : List ℕ) (b : Bool) (w : Waits) → IfAgain b (Pauses w)
    → IfAgain b (MayAsk (card_waiting field rest) w)
may-cut field [] b w h = h
may-cut field (x ∷ rest) b w h = h

-- what is left of a reply is cut
cut : (h : Told) (before l : Link) (c : CardState) (octets : List ℕ) → h.exchanges ≡ l.exchanges
    → h.services ≡ l.services → IfAgain h.again (Pauses l.terminal.waits)
    → CardCovers h before l (card_sends_next c octets)
cut h before l c octets exchanges services p =
    sent h before l _ _ exchanges services (asks-cut (take c.ifsd octets) (drop c.ifsd octets) _)
    (may-cut (take c.ifsd octets) (drop c.ifsd octets) h.again l.terminal.waits p)

-- what a block that comes to the card says of the terminal
abbrev HeardAs : Came → Waits → Type 0
HeardAs (got pcb inf) w = Hears pcb w
HeardAs damaged w = Unit {0}
HeardAs invalid w = Unit {0}
HeardAs quiet w = Unit {0}

module _ (h : Told) (b : Link) (d : ℕ) (k : Covers h b) where
  abbrev CameCovers : CardStep → Type 0
  CameCovers step = CardCovers h b (record b { disturbed = d }) step

  -- the card waits on, and sends a block
  stays : (block : Parts) (next : CardState) → next.waits ≡ b.card.waits → CameCovers (Ok (Sends block, next))
  stays block next e = sent h b (record b { disturbed = d }) block next k.exchanges k.services
      (subst (λ (w : CardWaits). IfAsking w (h.again ≡ true)) (sym e) k.asking)
      (subst (λ (w : CardWaits). IfAgain h.again (MayAsk w b.terminal.waits)) (sym e) k.again)

  restarted : (inf : List ℕ) → Pauses b.terminal.waits → CameCovers (resynched b.card)
  restarted inf p = sent h b (record b { disturbed = d }) _ (card_with b.card.limits b.card.first_ifsc) k.exchanges
      k.services tt
      (if-again h.again (MayAsk b.card.waits b.terminal.waits) _ (λ _. p) k.again)

  either-way : (came : Came) → CameCovers (in_either b.card came)
  either-way (got (Request Ifs) inf) = stays _ _ refl
  either-way (got (Request Resynch) inf) = stays _ _ refl
  either-way (got (Request Abort) inf) = stays _ _ refl
  either-way (got (Request Wtx) inf) = stays _ _ refl
  either-way (got (Info number goes_on) inf) = stays _ _ refl
  either-way (got (Ready number fault) inf) = stays _ _ refl
  either-way (got (Response kind) inf) = stays _ _ refl
  either-way damaged = stays _ _ refl
  either-way invalid = stays _ _ refl
  either-way quiet = stays _ _ refl

  pauses-in : (w : CardWaits) → b.card.waits ≡ w → AsksNothing w → IfAgain h.again (Pauses b.terminal.waits)
  pauses-in (command octets) e n = subst (λ (w : CardWaits). IfAgain h.again (MayAsk w b.terminal.waits)) e k.again
  pauses-in host e n = subst (λ (w : CardWaits). IfAgain h.again (MayAsk w b.terminal.waits)) e k.again
  pauses-in (reply field rest) e n =
      subst (λ (w : CardWaits). IfAgain h.again (MayAsk w b.terminal.waits)) e k.again
  pauses-in (asking q) e n = absurd n

  -- an I-block of the command is joined
  takes-info : (before octets : List ℕ) (goes_on : Bool) → b.card.waits ≡ command before
      → (Pauses b.terminal.waits → ⊥) → CameCovers (card_joins b.card octets goes_on)
  takes-info before octets true e never =
      sent h b (record b { disturbed = d }) _ _ k.exchanges k.services tt (pauses-in (command before) e tt)
  takes-info before octets false e never =
      let first : h.again ≡ false = not-again h.again _ never (pauses-in (command before) e tt) in
      record {
        exchanges = k.exchanges;
        services = rw (first, e) (ap (λ (es : List Exchange). unanswered octets ∷ es) k.services);
        asking = tt;
        again = tt;
      }

  saved : (field : Option (List ℕ)) (own : Bool) → CameCovers (sends_saved b.card field own)
  saved (Some field) true = stays _ _ refl
  saved (Some field) false = stays _ _ refl
  saved None own = stays _ _ refl

  in-command : (before : List ℕ) (came : Came) → b.card.waits ≡ command before → HeardAs came b.terminal.waits
      → CameCovers (in_command b.card before came)
  in-command before (got (Info number goes_on) inf) e hears =
      either CameCovers (same number b.card.expected && nat_le (length before + length inf) b.card.limits.command) _ _
      (takes-info before (before ++ inf) goes_on e hears) (either-way (got (Info number goes_on) inf))
  in-command before (got (Ready number fault) inf) e hears = saved b.card.saved (same number b.card.number)
  in-command before (got (Request kind) inf) e hears = either-way (got (Request kind) inf)
  in-command before (got (Response kind) inf) e hears = either-way (got (Response kind) inf)
  in-command before damaged e hears = either-way damaged
  in-command before invalid e hears = either-way invalid
  in-command before quiet e hears = either-way quiet

  in-reply : (field rest : List ℕ) (came : Came) → b.card.waits ≡ reply field rest
      → CameCovers (in_reply b.card field rest came)
  in-reply field rest (got (Ready number fault) inf) e =
      either CameCovers (same number b.card.number) _ _ (stays _ _ refl)
      (cut h b (record b { disturbed = d }) (record b.card { number = other b.card.number }) rest
      k.exchanges k.services
      (pauses-in (reply field rest) e tt))
  in-reply field rest (got (Info number goes_on) inf) e = either-way (got (Info number goes_on) inf)
  in-reply field rest (got (Request kind) inf) e = either-way (got (Request kind) inf)
  in-reply field rest (got (Response kind) inf) e = either-way (got (Response kind) inf)
  in-reply field rest damaged e = either-way damaged
  in-reply field rest invalid e = either-way invalid
  in-reply field rest quiet e = either-way quiet

  -- the host is asked once more about its command
  once-more : (request : CardRequest) (next : CardState) → b.card.waits ≡ asking request → next.waits ≡ host
      → CameCovers (Ok (Asked, next))
  once-more request next e is =
      let again : h.again ≡ true = subst (λ (w : CardWaits). IfAsking w (h.again ≡ true)) e k.asking in
      record {
        exchanges = k.exchanges;
        services = rw (again, e) k.services;
        asking = subst (λ (w : CardWaits). IfAsking w (false ≡ true)) (sym is) tt;
        again = tt;
      }

  in-asking : (request : CardRequest) (came : Came) → b.card.waits ≡ asking request
      → CameCovers (in_asking b.card request came)
  in-asking (size n) (got (Response Ifs) inf) e =
      either CameCovers (size_carried inf == n) _ _ (once-more (size n) _ e refl) (stays _ _ refl)
  in-asking (time n) (got (Response Wtx) inf) e =
      either CameCovers (size_carried inf == n) _ _ (once-more (time n) _ e refl) (stays _ _ refl)
  in-asking request came e = stays _ _ refl

  -- a block comes to the card
  arrived : (w : CardWaits) (came : Came) → b.card.waits ≡ w → HeardAs came b.terminal.waits
      → CameCovers (card_came b.card w came)
  arrived host came e hears = tt
  arrived (command before) (got (Request Resynch) inf) e hears = restarted inf hears
  arrived (reply field rest) (got (Request Resynch) inf) e hears = restarted inf hears
  arrived (asking request) (got (Request Resynch) inf) e hears = restarted inf hears
  arrived (command before) came e hears = in-command before came e hears
  arrived (reply field rest) came e hears = in-reply field rest came e
  arrived (asking request) came e hears = in-asking request came e

-- ---- calls

-- what a call's line tells
abbrev called : Told → Event → Told
called h delivers = h
called h damages = h
called h spoils = h
called h loses = h
called h (transmits m) = told_by h (line.Command m)
called h (asks_ifsd n) = h
called h (host_replies octets) = told_by h (line.Reply octets)
called h (host_asks_time n) = told_by h (line.Time n)
called h (host_asks_ifsc n) = told_by h (line.Ifsc n)

asks-not : (w : CardWaits) (P : Type 0) → AsksNothing w → IfAsking w P
asks-not (command before) P n = tt
asks-not host P n = tt
asks-not (reply field rest) P n = tt
asks-not (asking request) P n = absurd n

-- a step of the terminal with a new command
never-again : (h : Told) (c : CardWaits) (step : TerminalStep) → h.again ≡ false → AgainStep h c step
never-again h c (Ok step) e = rw e tt
never-again h c (Err fault) e = tt

pub outcome-idle : (w : Waits) (step : TerminalStep) (turn : LastTurn) → terminal_outcome (if_idle w step) ≡ Ok turn
    → w ≡ idle
outcome-idle idle step turn e = refl
outcome-idle (ack field rest) step turn e = cc
outcome-idle (answer field) step turn e = cc
outcome-idle (more octets) step turn e = cc
outcome-idle (ifs n) step turn e = cc
outcome-idle (resynch asked) step turn e = cc
outcome-idle dead step turn e = cc

pub outcome-host : (w : CardWaits) (step : CardStep) (turn : LastTurn) → card_outcome (if_host w step) ≡ Ok turn
    → w ≡ host
outcome-host (command before) step turn e = cc
outcome-host host step turn e = refl
outcome-host (reply field rest) step turn e = cc
outcome-host (asking q) step turn e = cc

asking-pauses : (t : TerminalState) (n : ℕ) (w : Waits) → PausingStep (if_idle w
    (if is_reserved n
    then Err Reserved
    else Ok (Send (request Ifs (n ∷ [])), record t { failures = 0; waits = ifs n }, no_failure)))
asking-pauses t n idle = either PausingStep (is_reserved n) _ _ tt tt
asking-pauses t n (ack field rest) = tt
asking-pauses t n (answer field) = tt
asking-pauses t n (more octets) = tt
asking-pauses t n (ifs k) = tt
asking-pauses t n (resynch asked) = tt
asking-pauses t n dead = tt

-- the host's calls, where it has its turn
host-replied : (h : Told) (l : Link) (octets : List ℕ) (w : CardWaits) → Covers h l → l.card.waits ≡ w
    → CardCovers (called h (host_replies octets)) l (record l { services = with_reply l.services octets })
    (if_host w (if nat_le (length octets) l.card.limits.answer then card_sends_next l.card octets else Err TooLong))
host-replied h l octets host k e =
    let again : IfAgain h.again (Pauses l.terminal.waits) =
    subst (λ (w : CardWaits). IfAgain h.again (MayAsk w l.terminal.waits)) e k.again in
    either (CardCovers (called h (host_replies octets)) l (record l { services = with_reply l.services octets }))
    (nat_le (length octets) l.card.limits.answer) _ _
    (cut (called h (host_replies octets)) l (record l { services = with_reply l.services octets }) l.card octets
    k.exchanges (ap (λ (hs : List Exchange). with_reply hs octets) k.services) again) tt
host-replied h l octets (command before) k e = tt
host-replied h l octets (reply field rest) k e = tt
host-replied h l octets (asking request) k e = tt

host-asked : (h : Told) (l : Link) (n : ℕ) (request : CardRequest) (w : CardWaits) → Covers h l
    → CardCovers (told_by h (line.Time n)) l l
    (if_host w (Ok (Sends (request_block request), record l.card { waits = asking request })))
host-asked h l n request host k = sent (told_by h (line.Time n)) l l _ _ k.exchanges k.services refl tt
host-asked h l n request (command before) k = tt
host-asked h l n request (reply field rest) k = tt
host-asked h l n request (asking q) k = tt

host-sized : (h : Told) (l : Link) (n : ℕ) (w : CardWaits) → Covers h l
    → CardCovers (told_by h (line.Ifsc n)) l l
    (if_host w
    (if is_reserved n
    then Err CardReserved
    else Ok (Sends (request_block (size n)), record l.card { waits = asking (size n) })))
host-sized h l n host k = either (CardCovers (told_by h (line.Ifsc n)) l l) (is_reserved n) _ _ tt
    (sent (told_by h (line.Ifsc n)) l l _ _ k.exchanges k.services refl tt)
host-sized h l n (command before) k = tt
host-sized h l n (reply field rest) k = tt
host-sized h l n (asking q) k = tt

-- ---- an event

-- the ends after an event, and what its lines and the one of the last turn tell
abbrev EventCovers : Told → Event → Link → LastTurn → Type 0
EventCovers h event l turn = Covers (told_after (called h event) (telling l.terminal l.card turn)) l

delivery : (h : Told) (l : Link) (way : UnderWay) (turn : LastTurn) → WayHears way l.terminal.waits → Covers h l
    → arrival_outcome l way (whole way) ≡ Ok turn → EventCovers h delivers (delivered tables l way) turn
delivery h l nothing turn hears k e = cc
delivery h l (to_card block) turn hears k e =
    card-event h l l _ turn (arrived h l l.disturbed k l.card.waits (got block.pcb block.inf) refl hears.1) e
delivery h l (to_terminal block) turn hears k e =
    terminal-event h l l _ turn (took h l l (got block.pcb block.inf) k) e

-- with a block lost or damaged more
disturbed : (h : Told) (l : Link) → Covers h l → Covers h (record l { disturbed = l.disturbed + 1 })
disturbed h l k = record { exchanges = k.exchanges; services = k.services; asking = k.asking; again = k.again }

arrival : (h : Told) (l : Link) (way : UnderWay) (came : Came) (turn : LastTurn) → HeardAs came l.terminal.waits
    → Covers h l → arrival_outcome l way came ≡ Ok turn → EventCovers h delivers (arrives tables l way came) turn
arrival h l nothing came turn hears k e = cc
arrival h l (to_card block) came turn hears k e =
    card-event h l (record l { disturbed = l.disturbed + 1 }) _ turn
    (arrived h l (l.disturbed + 1) k l.card.waits came refl hears) e
arrival h l (to_terminal block) came turn hears k e =
    terminal-event h l (record l { disturbed = l.disturbed + 1 }) _ turn
    (took h l (record l { disturbed = l.disturbed + 1 }) came (disturbed h l k)) e

loss : (h : Told) (l : Link) (way : UnderWay) (turn : LastTurn) → Covers h l → loss_outcome l way ≡ Ok turn
    → EventCovers h loses (lost tables l way) turn
loss h l nothing turn k e = cc
loss h l (to_card block) turn k e =
    terminal-event h l (record l { disturbed = l.disturbed + 1 }) _ turn
    (took h l (record l { disturbed = l.disturbed + 1 }) quiet (disturbed h l k)) e
loss h l (to_terminal block) turn k e =
    terminal-event h l (record l { disturbed = l.disturbed + 1 }) _ turn
    (took h l (record l { disturbed = l.disturbed + 1 }) quiet (disturbed h l k)) e

-- what is told before an event that is taken and by its lines is what happened
event-covers : {P : Type 0} {kt kc : Limits} (h : Told) (l : Link) (event : Event) (turn : LastTurn)
    → Good P kt kc l → Covers h l → outcome_of l event ≡ Ok turn → EventCovers h event (happens tables l event) turn
event-covers h l delivers turn g k e = delivery h l l.under_way turn (way-hears l g) k e
event-covers h l damages turn g k e = arrival h l l.under_way damaged turn tt k e
event-covers h l spoils turn g k e = arrival h l l.under_way invalid turn tt k e
event-covers h l loses turn g k e = loss h l l.under_way turn k e
event-covers h l (transmits m) turn g k e =
    let l' : Link = record l { exchanges = unanswered m ∷ l.exchanges; disturbed = 0; failed = 0 } in
    let h' : Told = called h (transmits m) in
    let k' : Covers h' l' = record {
      exchanges = ap (λ (es : List Exchange). unanswered m ∷ es) k.exchanges;
      services = k.services;
      asking = asks-not l.card.waits _ (idle-asks l g (outcome-idle l.terminal.waits _ turn e));
      again = tt;
    } in
    terminal-event h' l l' _ turn (stepped h' l l' (transmit m) _ refl k' (never-again h' l.card.waits _ refl)) e
event-covers h l (asks_ifsd n) turn g k e =
    let l' : Link = record l { disturbed = 0; failed = 0 } in
    let k' : Covers h l' = record {
      exchanges = k.exchanges;
      services = k.services;
      asking = k.asking;
      again = k.again;
    } in
    terminal-event h l l' _ turn (stepped h l l' (ask_ifs n) _ refl k'
    (again-step h l.card.waits l.terminal.waits _ (λ p. asking-pauses l.terminal n l.terminal.waits) k.again)) e
event-covers h l (host_replies octets) turn g k e = card-event (called h (host_replies octets)) l
    (record l { services = with_reply l.services octets }) _ turn
    (host-replied h l octets l.card.waits k refl) e
event-covers h l (host_asks_time n) turn g k e = card-event (called h (host_asks_time n)) l l _ turn
    (host-asked h l n (time n) l.card.waits k) e
event-covers h l (host_asks_ifsc n) turn g k e = card-event (called h (host_asks_ifsc n)) l l _ turn
    (host-sized h l n l.card.waits k) e

-- ---- the record

is-sent : (l : Link) (way : UnderWay) (came : Came) (turn : LastTurn) → arrival_outcome l way came ≡ Ok turn
    → IsSent way
is-sent l nothing came turn e = cc
is-sent l (to_card block) came turn e = tt
is-sent l (to_terminal block) came turn e = tt

-- the lines that an event adds, after the ones before
module _ (r : Recording) (turn : LastTurn) (way : (link_of r).under_way ≡ under_way_of r.last) where
  abbrev before : Told
  before = told (closed r)

  before-is : before ≡ told_after (told r.lines) (untold r)
  before-is = told-on nothing_told r.lines (untold r)

  calling : (x : Line) → told (r.lines ++ (untold r ++ x ∷ [])) ≡ told_by before x
  calling x =
      told-on nothing_told r.lines (untold r ++ x ∷ []) ∙ told-on (told r.lines) (untold r) (x ∷ [])
      ∙ ap (λ (h : Told). told_by h x) (sym before-is)

  carrying : (change : Change) → IsSent (link_of r).under_way
      → told (r.lines ++ carried (link_of r).under_way change) ≡ before
  carrying change on =
      told-on nothing_told r.lines (carried (link_of r).under_way change)
      ∙ silent-carried (told r.lines) (link_of r).under_way change
      ∙ sym (silent (told r.lines) (link_of r).terminal (link_of r).card r.last (subst IsSent way on))
      ∙ sym before-is

  adding : (event : Event) → outcome_of (link_of r) event ≡ Ok turn
      → told (r.lines ++ added r event) ≡ called before event
  adding delivers e = carrying Kept (is-sent (link_of r) (link_of r).under_way _ turn e)
  adding damages e = carrying Damaged (is-sent (link_of r) (link_of r).under_way _ turn e)
  adding spoils e = carrying Spoilt (is-sent (link_of r) (link_of r).under_way _ turn e)
  adding loses e = calling line.Quiet
  adding (transmits m) e = calling (line.Command m)
  adding (asks_ifsd n) e = calling (line.Ifsd n)
  adding (host_replies octets) e = calling (line.Reply octets)
  adding (host_asks_time n) e = calling (line.Time n)
  adding (host_asks_ifsc n) e = calling (line.Ifsc n)

-- The lines of a record tell what happened, also after an event that is taken.
pub still-covers : (r new : Recording) (event : Event) (turn : LastTurn) → (link_of r).under_way ≡ under_way_of r.last
    → Covers (told (closed r)) (link_of r) → outcome_of (link_of r) event ≡ Ok turn
    → new.lines ≡ r.lines ++ added r event → new.last ≡ turn → link_of new ≡ happens tables (link_of r) event
    → Covers (told (closed new)) (link_of new)
still-covers r new event turn way k e lines last link =
    let l : Link = happens tables (link_of r) event in
    let is : told (closed new) ≡ told_after (called (told (closed r)) event) (telling l.terminal l.card turn) =
    told-on nothing_told new.lines (untold new)
    ∙ ap (λ (h : Told). told_after h (untold new))
    (ap (λ (ls : List Line). told ls) lines ∙ adding r turn way event e)
    ∙ ap (λ (x : LastTurn). told_after (called (told (closed r)) event)
    (telling (link_of new).terminal (link_of new).card x)) last
    ∙ ap (λ (x : Link). told_after (called (told (closed r)) event) (telling x.terminal x.card turn)) link in
    subst (λ (h : Told). Covers h (link_of new)) (sym is)
    (subst (λ (x : Link). Covers (told_after (called (told (closed r)) event) (telling l.terminal l.card turn)) x)
    (sym link)
    (event-covers (told (closed r)) (link_of r) event turn (any_good longest longest r.ifsc (events_of r.lines)) k e))
