-- The standard permits each block of both ends of a link.
use Rattle.std.proofs.Common.{ℕ, ◌+◌, List, [], ◌∷◌, refl, arith}
use Rattle.std.specs.Prelude.{false, Ok, Err}
use Rattle.t1_core.specs.declared.turns.TerminalTurn.{TerminalTurn}
use Rattle.t1_core.specs.declared.turns.TerminalTurn.TheVariants.{Send, Answered, IfsSet, GivenUp, Dead}
use Rattle.t1_core.specs.declared.turns.CardTurn.{CardTurn}
use Rattle.t1_core.specs.declared.turns.CardTurn.TheVariants.{Send as Sends, Asked}
use Rattle.t1_core.specs.Came.{Came, got, damaged, invalid, quiet}
use Rattle.t1_core.specs.Terminal.{first_ifsd, idle, terminal_with, Limits, TerminalState, TerminalInput, TerminalStep, transmit, ask_ifs, takes, terminal_turn}
use Rattle.t1_core.specs.Card.{card_with, command, CardState, CardInput, CardStep, replies, more_time, ask_ifs as card_ask_ifs, takes as card_takes, card_turn}
use Rattle.t1_core.specs.Link.{tables, Link, link_with, UnderWay, nothing, to_card, to_terminal, Exchange, unanswered, with_reply, sent_by_terminal, sent_by_card, exchanges_after, services_after, counted, terminal_makes, card_makes, arrives, delivered, lost, happens, Event, delivers, damages, spoils, loses, transmits, asks_ifsd, host_replies, host_asks_time, host_asks_ifsc}
use Rattle.block_core.specs.declared.pcb.Pcb.TheVariants.{Info, Ready, Request, Response}
use Rattle.judge_core.specs.declared.end.Pending.TheVariants.{Settled}
use Rattle.judge_core.specs.declared.end.Owed.TheVariants.{NewMessage}
use Rattle.judge_core.specs.declared.courses.Verdict.{Verdict}
use Rattle.judge_core.specs.declared.courses.Verdict.TheVariants.{Permitted}
use Rattle.judge_core.specs.declared.courses.Heard.{Heard}
use Rattle.judge_core.specs.declared.courses.Heard.TheVariants.{Beginning, Whole, Perhaps, Broken, Nothing}
use Rattle.judge_core.specs.declared.courses.Verdict.TheVariants.{Unseen, Deviates}
use Rattle.judge_core.specs.Followed.{IsCertain}
use Rattle.judge_core.specs.Ends.{no_row}
use Rattle.judge_core.specs.Watched.{AllPermitted, EndsArePermitted, Watch, Watched, arrival, at_card, at_terminal, by_card, by_terminal, card_hears, card_says, delivery, heard_of, loss, made, new_watch, terminal_hears, terminal_says, watch_all, watches}
use Rattle.judge_core.proofs.Passes.{Doubts, Fine, NoAbort, PlainCame, certain}
use Rattle.judge_core.proofs.Terminals.{from_start}
use Rattle.judge_core.proofs.Terminals as terminals
use Rattle.judge_core.proofs.Cards as cards

abbrev Plain : UnderWay → Type 0
Plain nothing = Unit {0}
Plain (to_card block) = NoAbort block.pcb
Plain (to_terminal block) = NoAbort block.pcb

-- ---- the judge knows what each end heard

-- the watched ends go with the link, and every verdict permitted a block
record Goes (l : Link) (w : Watch) : Type 0 where
  terminal : terminals.Fits (Unit {0}) l.terminal l.terminal.waits w.terminal
  card : cards.Fits l.card l.card.waits w.card
  plain : Plain l.under_way
  terminal_knows : IsCertain w.terminal.heard
  card_knows : IsCertain w.card.heard
  verdicts : AllPermitted w.verdicts

not_doubted : {A : Type 0} (heard : Heard) → IsCertain heard → Doubts heard → A
not_doubted Beginning h k = absurd k
not_doubted (Whole pcb octet) h k = absurd k
not_doubted (Perhaps pcb octet) h k = absurd h
not_doubted Broken h k = absurd k
not_doubted Nothing h k = absurd k

one_more : (heard : Heard) (v : Verdict) (vs : List Verdict) → IsCertain heard → Fine heard v → AllPermitted vs
    → AllPermitted (v ∷ vs)
one_more heard Permitted vs h fine ok = ok
one_more heard Unseen vs h fine ok = not_doubted heard h fine
one_more heard (Deviates broken owed) vs h fine ok = absurd fine

terminal_said : (turn : TerminalTurn) (next : TerminalState) (l : Link) (w : Watch) (t : Watched) (es : List Exchange)
    (d f : ℕ)
    → IsCertain t.heard → terminals.Said (Unit {0}) (λ n. ⊥) t turn next → Goes l w
    → Goes (record l { terminal = next; under_way = sent_by_terminal turn; exchanges = es; disturbed = d; failed = f })
    (terminal_says (record w { terminal = t }) turn)
terminal_said (Send b) next l w t es d f knows h goes = record {
  terminal = h.3;
  card = goes.card;
  plain = h.1;
  terminal_knows = tt;
  card_knows = goes.card_knows;
  verdicts = one_more t.heard _ w.verdicts knows h.0 goes.verdicts;
}
terminal_said Answered next l w t es d f knows h goes = record {
  terminal = h.1;
  card = goes.card;
  plain = tt;
  terminal_knows = knows;
  card_knows = goes.card_knows;
  verdicts = goes.verdicts;
}
terminal_said IfsSet next l w t es d f knows h goes = record {
  terminal = h.1;
  card = goes.card;
  plain = tt;
  terminal_knows = knows;
  card_knows = goes.card_knows;
  verdicts = goes.verdicts;
}
terminal_said GivenUp next l w t es d f knows h goes = record {
  terminal = h.1;
  card = goes.card;
  plain = tt;
  terminal_knows = knows;
  card_knows = goes.card_knows;
  verdicts = goes.verdicts;
}
terminal_said Dead next l w t es d f knows h goes = record {
  terminal = h.1;
  card = goes.card;
  plain = tt;
  terminal_knows = knows;
  card_knows = goes.card_knows;
  verdicts = goes.verdicts;
}

terminal_step : (step : TerminalStep) (input : TerminalInput) (l : Link) (w : Watch) (es : List Exchange) (d f : ℕ)
    → IsCertain (terminal_hears w.terminal input).heard
    → terminals.Outcome (Unit {0}) (λ n. ⊥) (terminal_hears w.terminal input) step
    → Goes l w
    → Goes (terminal_makes l (record l { exchanges = es; disturbed = d; failed = f }) step)
    (watches w (by_terminal input step))
terminal_step (Err fault) input l w es d f knows h goes = goes
terminal_step (Ok step) input l w es d f knows h goes =
    terminal_said step.0 step.1 l w (terminal_hears w.terminal input)
    (exchanges_after step.0 step.1.answered es) d (counted step.2 f) knows h goes

card_said : (turn : CardTurn) (next : CardState) (l : Link) (w : Watch) (c : Watched) (hs : List Exchange) (d : ℕ)
    → IsCertain c.heard → cards.Said (λ n. ⊥) (Unit {0}) (Unit {0}) c turn next → Goes l w
    → Goes (record l { card = next; under_way = sent_by_card turn; services = hs; disturbed = d })
    (card_says (record w { card = c }) turn)
card_said (Sends b) next l w c hs d knows h goes = record {
  terminal = goes.terminal;
  card = h.3;
  plain = h.1;
  terminal_knows = goes.terminal_knows;
  card_knows = tt;
  verdicts = one_more c.heard _ w.verdicts knows h.0 goes.verdicts;
}
card_said Asked next l w c hs d knows h goes = record {
  terminal = goes.terminal;
  card = h.1;
  plain = tt;
  terminal_knows = goes.terminal_knows;
  card_knows = knows;
  verdicts = goes.verdicts;
}

card_step : (step : CardStep) (input : CardInput) (l : Link) (w : Watch) (hs : List Exchange) (d : ℕ)
    → IsCertain (card_hears w.card input).heard
    → cards.Outcome (λ n. ⊥) (Unit {0}) (Unit {0}) (card_hears w.card input) step → Goes l w
    → Goes (card_makes l (record l { services = hs; disturbed = d }) step) (watches w (by_card input step))
card_step (Err fault) input l w hs d knows h goes = goes
card_step (Ok step) input l w hs d knows h goes = card_said step.0 step.1 l w (card_hears w.card input)
    (services_after step.0 l.card.waits step.1 hs) d knows h goes

knows_came : (came : Came) → IsCertain (heard_of came)
knows_came (got pcb inf) = tt
knows_came damaged = tt
knows_came invalid = tt
knows_came quiet = tt

surely : (came : Came) → PlainCame came → terminals.Plain (Unit {0}) certain came
surely (got (Info number goes_on) inf) h = tt
surely (got (Ready number fault) inf) h = tt
surely (got (Request s) inf) h = h
surely (got (Response s) inf) h = tt
surely damaged h = tt
surely invalid h = tt
surely quiet h = tt

terminal_takes : (came : Came) (l : Link) (w : Watch) (es : List Exchange) (d f : ℕ) → PlainCame came → Goes l w
    → Goes (terminal_makes l (record l { exchanges = es; disturbed = d; failed = f })
    (terminal_turn l.terminal (takes came)))
    (watches w (at_terminal tables l (takes came)))
terminal_takes came l w es d f h goes = terminal_step (terminal_turn l.terminal (takes came)) (takes came) l w es d f
    (knows_came came) (terminals.takes_well (Unit {0}) (λ n. ⊥) l.terminal w.terminal certain came goes.terminal
    (surely came h)) goes

taken : (came : Came) → PlainCame came → cards.Plain (Unit {0}) came
taken (got (Info number goes_on) inf) h = tt
taken (got (Ready number fault) inf) h = tt
taken (got (Request s) inf) h = h
taken (got (Response s) inf) h = tt
taken damaged h = tt
taken invalid h = tt
taken quiet h = tt

card_takes_block : (came : Came) (l : Link) (w : Watch) (hs : List Exchange) (d : ℕ) → PlainCame came → Goes l w
    → Goes (card_makes l (record l { services = hs; disturbed = d }) (card_turn l.card (card_takes came)))
    (watches w (at_card tables l (card_takes came)))
card_takes_block came l w hs d h goes = card_step (card_turn l.card (card_takes came)) (card_takes came) l w hs d
    (knows_came came) (cards.takes_well (λ n. ⊥) (Unit {0}) (Unit {0}) l.card w.card certain came goes.card
    (taken came h)) goes

arriving : (u : UnderWay) (came : Came) (l : Link) (w : Watch) → PlainCame came → Goes l w
    → Goes (arrives tables l u came) (watches w (arrival tables l u came))
arriving nothing came l w h goes = goes
arriving (to_card b) came l w h goes = card_takes_block came l w l.services (l.disturbed + 1) h goes
arriving (to_terminal b) came l w h goes = terminal_takes came l w l.exchanges (l.disturbed + 1) l.failed h goes

delivering : (u : UnderWay) (l : Link) (w : Watch) → Plain u → Goes l w
    → Goes (delivered tables l u) (watches w (delivery tables l u))
delivering nothing l w h goes = goes
delivering (to_card b) l w h goes = card_takes_block (got b.pcb b.inf) l w l.services l.disturbed h goes
delivering (to_terminal b) l w h goes = terminal_takes (got b.pcb b.inf) l w l.exchanges l.disturbed l.failed h goes

losing : (u : UnderWay) (l : Link) (w : Watch) → Goes l w → Goes (lost tables l u) (watches w (loss tables l u))
losing nothing l w goes = goes
losing (to_card b) l w goes = terminal_takes quiet l w l.exchanges (l.disturbed + 1) l.failed tt goes
losing (to_terminal b) l w goes = terminal_takes quiet l w l.exchanges (l.disturbed + 1) l.failed tt goes

each_event : (e : Event) (l : Link) (w : Watch) → Goes l w → Goes (happens tables l e) (watches w (made tables l e))
each_event delivers l w goes = delivering l.under_way l w goes.plain goes
each_event damages l w goes = arriving l.under_way damaged l w tt goes
each_event spoils l w goes = arriving l.under_way invalid l w tt goes
each_event loses l w goes = losing l.under_way l w goes
each_event (transmits m) l w goes =
    terminal_step (terminal_turn l.terminal (transmit m)) (transmit m) l w (unanswered m ∷ l.exchanges) 0 0
    goes.terminal_knows (terminals.calls_well (Unit {0}) (λ n. ⊥) l.terminal w.terminal (transmit m) tt goes.terminal)
    goes
each_event (asks_ifsd n) l w goes =
    terminal_step (terminal_turn l.terminal (ask_ifs n)) (ask_ifs n) l w l.exchanges 0 0
    goes.terminal_knows (terminals.calls_well (Unit {0}) (λ n. ⊥) l.terminal w.terminal (ask_ifs n) tt goes.terminal)
    goes
each_event (host_replies octets) l w goes =
    card_step (card_turn l.card (replies octets)) (replies octets) l w (with_reply l.services octets) l.disturbed
    goes.card_knows (cards.calls_well (λ n. ⊥) (Unit {0}) (Unit {0}) l.card w.card (replies octets) tt goes.card) goes
each_event (host_asks_time n) l w goes =
    card_step (card_turn l.card (more_time n)) (more_time n) l w l.services l.disturbed
    goes.card_knows (cards.calls_well (λ n. ⊥) (Unit {0}) (Unit {0}) l.card w.card (more_time n) tt goes.card) goes
each_event (host_asks_ifsc n) l w goes =
    card_step (card_turn l.card (card_ask_ifs n)) (card_ask_ifs n) l w l.services l.disturbed
    goes.card_knows (cards.calls_well (λ n. ⊥) (Unit {0}) (Unit {0}) l.card w.card (card_ask_ifs n) tt goes.card) goes

all_events : (events : List Event) (l : Link) (w : Watch) → Goes l w
    → AllPermitted (watch_all tables events l w).verdicts
all_events [] l w goes = goes.verdicts
all_events (e ∷ es) l w goes = all_events es (happens tables l e) (watches w (made tables l e)) (each_event e l w goes)

pub terminal_starts : (P : Type 0) (ifsc : ℕ) (limits : Limits)
    → terminals.Fits P (terminal_with limits ifsc) idle (new_watch ifsc).terminal
terminal_starts P ifsc limits = record {
  spare = record {
    before = NewMessage;
    room = ifsc;
    first = ifsc;
    largest = ifsc;
    room_ok = omega arith;
    first_ok = omega arith;
  };
  pending = Settled;
  tries = 0;
  row = no_row;
  aborted = false;
  owes = refl;
  sizes = record { side = refl; room = omega arith; first = omega arith };
  origin = from_start refl refl refl refl;
}

pub card_starts : (ifsc : ℕ) (limits : Limits) → cards.Fits (card_with limits ifsc) (command []) (new_watch ifsc).card
card_starts ifsc limits = (
  [],
  (
    record {
      before = NewMessage;
      room = first_ifsd;
      first = first_ifsd;
      largest = first_ifsd;
      tries = 0;
      row = no_row;
      room_ok = omega arith;
      first_ok =
          omega arith;
    },
    refl,
  ),
)

pub ends_are_permitted : EndsArePermitted tables
ends_are_permitted terminal_limits card_limits ifsc events =
    all_events events (link_with terminal_limits card_limits ifsc) (new_watch ifsc) (record {
      terminal = terminal_starts (Unit {0}) ifsc terminal_limits;
      card = card_starts ifsc card_limits;
      plain = tt;
      terminal_knows = tt;
      card_knows = tt;
      verdicts = tt;
    })
