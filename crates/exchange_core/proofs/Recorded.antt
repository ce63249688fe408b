-- Each event keeps what holds of a recorder.
use Rattle.std.proofs.Common.{◌≡◌, ◌+◌, ◌++◌, List, [], ◌∷◌, refl, sym, ap, subst, ◌∙◌, true, Some, None, Result, Ok, Err}
use Rattle.t1_core.specs.Came.{Came, got, damaged, invalid, quiet}
use Rattle.t1_core.specs.Terminal.{TerminalState, TerminalStep, Mark, transmit, ask_ifs, takes, terminal_turn}
use Rattle.t1_core.specs.Card.{CardState, CardStep, replies, more_time, ask_ifs as ask_ifsc, takes as card_takes, card_turn}
use Rattle.t1_core.specs.Link.{Link, UnderWay, nothing, to_card, to_terminal, tables, new_link, run, sent_by_terminal, sent_by_card, happens, terminal_makes, card_makes, arrives, delivered, lost, Event, delivers, damages, spoils, loses, transmits, asks_ifsd, host_replies, host_asks_time, host_asks_ifsc, unanswered, with_reply}
use Rattle.t1_core.specs.Promises.{HandsOctets, AllHandOctets}
use Rattle.t1_core.specs.declared.turns.TerminalTurn.{TerminalTurn}
use Rattle.t1_core.specs.declared.turns.CardTurn.{CardTurn}
use Rattle.exchange_text.specs.Exchange.{are_proper}
use Rattle.exchange_core.specs.Replay.{terminal_end, card_end, terminal_role, card_role, calls, terminal_gives, card_gives}
use Rattle.exchange_core.specs.Recording.{Recording, link_of, IsRecording, recorded, with_outcome, added, outcome_of, terminal_outcome, card_outcome, arrival_outcome, loss_outcome, terminal_pending, card_pending, under_way_of, events_of, runs, whole}
use Rattle.exchange_text.specs.declared.exchange.Version.TheVariants.{One}
use Rattle.exchange_text.specs.declared.line.Line.{Line}
use Rattle.exchange_core.specs.declared.event.EventFault.{EventFault}
use Rattle.exchange_core.specs.declared.event.LastTurn.{LastTurn}
use Rattle.exchange_core.specs.declared.event.LastTurn.TheVariants.{Terminal, Card}
use Rattle.exchange_core.proofs.Telling.{still-covers}
use Rattle.exchange_core.proofs.Folds.{runs-on, proper-on, events-on, run-on, octets-on}

-- the record with more lines and another last turn
abbrev pub further : Recording → List Line → LastTurn → Recording
further r more last = record { atr = r.atr; ifsc = r.ifsc; lines = r.lines ++ more; last = last }

-- the recorder after an event that is taken
abbrev taken : Recording → List Line → LastTurn → Result Recording EventFault
taken r more last = Ok (further r more last)

-- What an event does: the lines that tell it, and where it leaves both ends.
pub record Acts (r : Recording) (t : TerminalState) (c : CardState) (more : List Line) (event : Event) (last : LastTurn)
    (t' : TerminalState) (c' : CardState) : Type 0 where
  pub events : events_of more ≡ event ∷ []
  pub octets : HandsOctets event
  pub terminal : (happens tables (link_of r) event).terminal ≡ t'
  pub card : (happens tables (link_of r) event).card ≡ c'
  pub under_way : (happens tables (link_of r) event).under_way ≡ under_way_of last
  pub at_terminal : runs terminal_end more (t, terminal_pending r.last) ≡ Ok (t', terminal_pending last)
  pub at_card : runs card_end more (c, card_pending r.last) ≡ Ok (c', card_pending last)
  pub proper : are_proper One 0 more ≡ true
  pub outcome : outcome_of (link_of r) event ≡ Ok last
  pub writes : added r event ≡ more

-- the link after the lines
links : (r : Recording) (more : List Line) (last : LastTurn) (event : Event) → events_of more ≡ event ∷ []
    → link_of (further r more last) ≡ happens tables (link_of r) event
links r more last event e =
    ap (λ (es : List Event). run tables es (new_link r.ifsc))
    (events-on r.lines more ∙ ap (λ (es : List Event). events_of r.lines ++ es) e)
    ∙ run-on (events_of r.lines) (event ∷ []) (new_link r.ifsc)

-- what holds of a recorder holds after the event, with the lines that tell it
pub keeps : {r : Recording} {t t' : TerminalState} {c c' : CardState} {more : List Line} {event : Event}
    {last : LastTurn}
    → IsRecording r t c → Acts r t c more event last t' c' → IsRecording (further r more last) t' c'
keeps {r} {t} {t'} {c} {c'} {more} {event} {last} h a =
    let link : link_of (further r more last) ≡ happens tables (link_of r) event = links r more last event a.events in
    record {
      octets = subst AllHandOctets (sym (events-on r.lines more))
          (octets-on (events_of r.lines) (events_of more) h.octets (subst AllHandOctets (sym a.events) (a.octets, tt)));
      terminal = ap (λ (l : Link). l.terminal) link ∙ a.terminal;
      card = ap (λ (l : Link). l.card) link ∙ a.card;
      under_way = ap (λ (l : Link). l.under_way) link ∙ a.under_way;
      at_terminal = runs-on terminal_end r.lines more _ _ h.at_terminal ∙ a.at_terminal;
      at_card = runs-on card_end r.lines more _ _ h.at_card ∙ a.at_card;
      proper = proper-on r.lines more h.proper a.proper;
      found = h.found;
      covers = still-covers r (further r more last) event last h.under_way h.covers a.outcome
          (ap (λ (l : List Line). r.lines ++ l) (sym a.writes)) refl link;
    }

-- the link steps, and the recorder with it
pub has-stepped : {r : Recording} {t t' : TerminalState} {c c' : CardState} {more : List Line} {event : Event}
    {last : LastTurn}
    → Acts r t c more event last t' c' → link_of (further r more last) ≡ happens tables (link_of r) event
has-stepped {r} {t} {t'} {c} {c'} {more} {event} {last} a = links r more last event a.events

-- and the recorder takes the event
pub has-recorded : {r : Recording} {t t' : TerminalState} {c c' : CardState} {more : List Line} {event : Event}
    {last : LastTurn}
    → Acts r t c more event last t' c' → recorded r event ≡ Ok (further r more last)
has-recorded {r} {t} {t'} {c} {c'} {more} {event} {last} a =
    ap (λ (outcome : Result LastTurn EventFault). with_outcome r event outcome) a.outcome
    ∙ ap (λ (l : List Line). taken r l last) a.writes

-- ---- what a refusal leaves

terminal-stays : (before l : Link) (step : TerminalStep) (fault : EventFault) → terminal_outcome step ≡ Err fault
    → terminal_makes before l step ≡ before
terminal-stays before l (Ok step) fault e = cc
terminal-stays before l (Err own) fault e = refl

card-stays : (before l : Link) (step : CardStep) (fault : EventFault) → card_outcome step ≡ Err fault
    → card_makes before l step ≡ before
card-stays before l (Ok step) fault e = cc
card-stays before l (Err own) fault e = refl

arrival-stays : (l : Link) (w : UnderWay) (x : Came) (fault : EventFault) → arrival_outcome l w x ≡ Err fault
    → arrives tables l w x ≡ l
arrival-stays l nothing x fault e = refl
arrival-stays l (to_card block) x fault e =
    card-stays l (record l { disturbed = l.disturbed + 1 }) (card_turn l.card (card_takes x)) fault e
arrival-stays l (to_terminal block) x fault e =
    terminal-stays l (record l { disturbed = l.disturbed + 1 }) (terminal_turn l.terminal (takes x)) fault e

delivery-stays : (l : Link) (w : UnderWay) (fault : EventFault) → arrival_outcome l w (whole w) ≡ Err fault
    → delivered tables l w ≡ l
delivery-stays l nothing fault e = refl
delivery-stays l (to_card block) fault e =
    card-stays l l (card_turn l.card (card_takes (got block.pcb block.inf))) fault e
delivery-stays l (to_terminal block) fault e =
    terminal-stays l l (terminal_turn l.terminal (takes (got block.pcb block.inf))) fault e

loss-stays : (l : Link) (w : UnderWay) (fault : EventFault) → loss_outcome l w ≡ Err fault → lost tables l w ≡ l
loss-stays l nothing fault e = refl
loss-stays l (to_card block) fault e = terminal-stays l (record l { disturbed = l.disturbed + 1 })
    (terminal_turn l.terminal (takes quiet)) fault e
loss-stays l (to_terminal block) fault e =
    terminal-stays l (record l { disturbed = l.disturbed + 1 }) (terminal_turn l.terminal (takes quiet)) fault e

stays : (l : Link) (event : Event) (fault : EventFault) → outcome_of l event ≡ Err fault → happens tables l event ≡ l
stays l delivers fault e = delivery-stays l l.under_way fault e
stays l damages fault e = arrival-stays l l.under_way damaged fault e
stays l spoils fault e = arrival-stays l l.under_way invalid fault e
stays l loses fault e = loss-stays l l.under_way fault e
stays l (transmits m) fault e = terminal-stays l
    (record l { exchanges = unanswered m ∷ l.exchanges; disturbed = 0; failed = 0 })
    (terminal_turn l.terminal (transmit m)) fault e
stays l (asks_ifsd n) fault e = terminal-stays l (record l { disturbed = 0; failed = 0 })
    (terminal_turn l.terminal (ask_ifs n)) fault e
stays l (host_replies m) fault e = card-stays l (record l { services = with_reply l.services m })
    (card_turn l.card (replies m)) fault e
stays l (host_asks_time n) fault e = card-stays l l (card_turn l.card (more_time n)) fault e
stays l (host_asks_ifsc n) fault e = card-stays l l (card_turn l.card (ask_ifsc n)) fault e

refused-outcome : (r : Recording) (event : Event) (outcome : Result LastTurn EventFault) (fault : EventFault)
    → with_outcome r event outcome ≡ Err fault → outcome ≡ Err fault
refused-outcome r event (Ok last) fault e = cc
refused-outcome r event (Err own) fault e = cc

-- an event that the recorder refuses leaves the link as it was
pub refused-stays : (r : Recording) (event : Event) (fault : EventFault) → recorded r event ≡ Err fault
    → happens tables (link_of r) event ≡ link_of r
refused-stays r event fault e = stays (link_of r) event fault
    (refused-outcome r event (outcome_of (link_of r) event) fault e)

-- an event that comes to a fault is refused with it
pub refused : (r : Recording) (event : Event) (fault : EventFault) → outcome_of (link_of r) event ≡ Err fault
    → recorded r event ≡ Err fault
refused r event fault e = ap (λ (outcome : Result LastTurn EventFault). with_outcome r event outcome) e

-- ---- what a step leaves

-- a step of the terminal leaves its next state and its block under way, and the card as it was
pub terminal-made : (before l : Link) (step : TerminalStep) (turn : TerminalTurn) (next : TerminalState) (mark : Mark)
    → step ≡ Ok (turn, next, mark)
    → ((terminal_makes before l step).terminal ≡ next) × ((terminal_makes before l step).card ≡ l.card)
    × ((terminal_makes before l step).under_way ≡ sent_by_terminal turn)
terminal-made before l step turn next mark e = rw e (refl, refl, refl)

-- and a step of the card the terminal as it was
pub card-made : (before l : Link) (step : CardStep) (turn : CardTurn) (next : CardState) → step ≡ Ok (turn, next)
    → ((card_makes before l step).terminal ≡ l.terminal) × ((card_makes before l step).card ≡ next)
    × ((card_makes before l step).under_way ≡ sent_by_card turn)
card-made before l step turn next e = rw e (refl, refl, refl)

-- a step that the terminal takes comes to its turn
pub terminal-taken : (step : TerminalStep) (turn : TerminalTurn) (next : TerminalState) (mark : Mark)
    → step ≡ Ok (turn, next, mark) → terminal_outcome step ≡ Ok (Terminal turn)
terminal-taken step turn next mark e = rw e refl

-- and one that the card takes
pub card-taken : (step : CardStep) (turn : CardTurn) (next : CardState) → step ≡ Ok (turn, next)
    → card_outcome step ≡ Ok (Card turn)
card-taken step turn next e = rw e refl

-- a call in the replay, where no turn is untold
pub terminal-called : (t : TerminalState) (line : Line) (step : TerminalStep) (turn : TerminalTurn)
    (next : TerminalState) (mark : Mark)
    → terminal_role t line ≡ calls (terminal_gives step) → step ≡ Ok (turn, next, mark)
    → runs terminal_end (line ∷ []) (t, None) ≡ Ok (next, Some turn)
terminal-called t line step turn next mark role e = rw (role, e) refl

-- and one of the card
pub card-called : (c : CardState) (line : Line) (step : CardStep) (turn : CardTurn) (next : CardState)
    → card_role c line ≡ calls (card_gives step) → step ≡ Ok (turn, next)
    → runs card_end (line ∷ []) (c, None) ≡ Ok (next, Some turn)
card-called c line step turn next role e = rw (role, e) refl
