-- A judge that only sees the blocks of a link accuses nobody.
use Rattle.std.proofs.Common.{inl, inr, ◌≡◌, ◌⊎◌, ℕ, ◌+◌, List, [], ◌∷◌, refl, sym, subst}
use Rattle.std.specs.Prelude.{Ok, Err}
use Rattle.t1_core.specs.declared.turns.TerminalTurn.{TerminalTurn}
use Rattle.t1_core.specs.declared.turns.TerminalTurn.TheVariants.{Send, Answered, IfsSet, GivenUp, Dead}
use Rattle.t1_core.specs.declared.turns.CardTurn.{CardTurn}
use Rattle.t1_core.specs.declared.turns.CardTurn.TheVariants.{Send as Sends, Asked}
use Rattle.t1_core.specs.Came.{Came, got, damaged, invalid, quiet, carried}
use Rattle.t1_core.specs.Terminal.{Waits, TerminalState, TerminalInput, TerminalStep, transmit, ask_ifs, takes, terminal_turn}
use Rattle.t1_core.specs.Card.{Waits as CardWaits, CardState, CardInput, CardStep, replies, more_time, ask_ifs as card_ask_ifs, takes as card_takes, card_turn}
use Rattle.t1_core.specs.Link.{tables, Link, link_with, UnderWay, nothing, to_card, to_terminal, Exchange, unanswered, with_reply, sent_by_terminal, sent_by_card, exchanges_after, services_after, counted, terminal_makes, card_makes, arrives, delivered, lost, happens, Event, delivers, damages, spoils, loses, transmits, asks_ifsd, host_replies, host_asks_time, host_asks_ifsc}
use Rattle.block_core.specs.declared.pcb.Pcb.{Pcb}
use Rattle.block_core.specs.declared.pcb.Pcb.TheVariants.{Info, Ready, Request, Response}
use Rattle.judge_core.specs.declared.courses.Verdict.{Verdict}
use Rattle.judge_core.specs.declared.courses.Verdict.TheVariants.{Permitted}
use Rattle.judge_core.specs.declared.courses.Heard.{Heard}
use Rattle.judge_core.specs.declared.courses.Heard.TheVariants.{Perhaps, Broken}
use Rattle.judge_core.specs.declared.courses.Verdict.TheVariants.{Unseen, Deviates}
use Rattle.judge_core.specs.Watched.{NobodyIsAccused, NoneDeviates, Watch, arrival, at_card, at_terminal, by_card, by_terminal, card_sends, delivery, hearing, loss, made, new_watch, tap_all, taps, terminal_sends}
use Rattle.judge_core.proofs.Passes.{Fine, NoAbort, PlainCame, View, certain, maybe, heard_at}
use Rattle.judge_core.proofs.Terminals as terminals
use Rattle.judge_core.proofs.Cards as cards
use Rattle.judge_core.proofs.Links.{terminal_starts, card_starts}

abbrev Plain : UnderWay → Type 0
Plain nothing = Unit {0}
Plain (to_card block) = NoAbort block.pcb
Plain (to_terminal block) = NoAbort block.pcb

-- whose turn it is
abbrev Turns : UnderWay → Waits → CardWaits → Type 0
Turns nothing t c = (terminals.IsAtRest t × cards.AwaitsBlock c) ⊎ (terminals.IsBusy t × cards.AwaitsHost c)
Turns (to_card block) t c = terminals.IsBusy t × cards.AwaitsBlock c
Turns (to_terminal block) t c = terminals.IsBusy t × cards.AwaitsBlock c

-- what the judge takes an end to have heard, while a block is under way
abbrev Seen : UnderWay → Watch → Type 0
Seen nothing w = Unit {0}
Seen (to_card block) w = (w.card.heard ≡ Perhaps block.pcb (carried block.inf)) × (w.terminal.heard ≡ Broken)
Seen (to_terminal block) w = w.terminal.heard ≡ Perhaps block.pcb (carried block.inf)

record Goes (l : Link) (w : Watch) : Type 0 where
  terminal : terminals.Fits ⊥ l.terminal l.terminal.waits w.terminal
  card : cards.Fits l.card l.card.waits w.card
  plain : Plain l.under_way
  turns : Turns l.under_way l.terminal.waits l.card.waits
  seen : Seen l.under_way w
  verdicts : NoneDeviates w.verdicts

at_rest_turn : (u : UnderWay) (t : Waits) (c : CardWaits) → Turns u t c → terminals.IsAtRest t → cards.AwaitsBlock c
at_rest_turn nothing t c (inl h) rest = h.1
at_rest_turn nothing t c (inr h) rest = absurd (rest h.0)
at_rest_turn (to_card b) t c h rest = h.1
at_rest_turn (to_terminal b) t c h rest = h.1

host_turn : (u : UnderWay) (t : Waits) (c : CardWaits) → Turns u t c → cards.AwaitsHost c → terminals.IsBusy t
host_turn nothing t c (inl h) host_now = absurd (host_now h.1)
host_turn nothing t c (inr h) host_now = h.0
host_turn (to_card b) t c h host_now = h.0
host_turn (to_terminal b) t c h host_now = h.0

one_more : (heard : Heard) (v : Verdict) (vs : List Verdict) → Fine heard v → NoneDeviates vs → NoneDeviates (v ∷ vs)
one_more heard Permitted vs fine ok = ok
one_more heard Unseen vs fine ok = ok
one_more heard (Deviates broken owed) vs fine ok = absurd fine

-- ---- an end makes a step

terminal_said : (turn : TerminalTurn) (next : TerminalState) (l : Link) (w : Watch) (es : List Exchange) (d f : ℕ)
    → cards.AwaitsBlock l.card.waits → terminals.Said ⊥ (λ n. ⊥) w.terminal turn next → Goes l w
    → Goes (record l { terminal = next; under_way = sent_by_terminal turn; exchanges = es; disturbed = d; failed = f })
    (terminal_sends w turn)
terminal_said (Send b) next l w es d f awaits h goes = record {
  terminal = h.3;
  card = cards.fits_hearing l.card.waits l.card w.card (Perhaps b.pcb (carried b.inf)) awaits goes.card;
  plain = h.1;
  turns = (h.2, awaits);
  seen = (refl, refl);
  verdicts = one_more w.terminal.heard _ w.verdicts h.0 goes.verdicts;
}
terminal_said Answered next l w es d f awaits h goes = record {
  terminal = h.1;
  card = goes.card;
  plain = tt;
  turns = inl (h.0, awaits);
  seen = tt;
  verdicts = goes.verdicts;
}
terminal_said IfsSet next l w es d f awaits h goes = record {
  terminal = h.1;
  card = goes.card;
  plain = tt;
  turns = inl (h.0, awaits);
  seen = tt;
  verdicts = goes.verdicts;
}
terminal_said GivenUp next l w es d f awaits h goes = record {
  terminal = h.1;
  card = goes.card;
  plain = tt;
  turns = inl (h.0, awaits);
  seen = tt;
  verdicts = goes.verdicts;
}
terminal_said Dead next l w es d f awaits h goes = record {
  terminal = h.1;
  card = goes.card;
  plain = tt;
  turns = inl (h.0, awaits);
  seen = tt;
  verdicts = goes.verdicts;
}

terminal_step : (step : TerminalStep) (input : TerminalInput) (l : Link) (w : Watch) (es : List Exchange) (d f : ℕ)
    → (terminals.IsOk step → cards.AwaitsBlock l.card.waits) → terminals.Outcome ⊥ (λ n. ⊥) w.terminal step → Goes l w
    → Goes (terminal_makes l (record l { exchanges = es; disturbed = d; failed = f }) step)
    (taps w (by_terminal input step))
terminal_step (Err fault) input l w es d f awaits h goes = goes
terminal_step (Ok step) input l w es d f awaits h goes = terminal_said step.0 step.1 l w
    (exchanges_after step.0 step.1.answered es) d (counted step.2 f) (awaits tt) h goes

card_said : (turn : CardTurn) (next : CardState) (l : Link) (w : Watch) (hs : List Exchange) (d : ℕ)
    → terminals.IsBusy l.terminal.waits → cards.Said (λ n. ⊥) (Unit {0}) (Unit {0}) w.card turn next → Goes l w
    → Goes (record l { card = next; under_way = sent_by_card turn; services = hs; disturbed = d }) (card_sends w turn)
card_said (Sends b) next l w hs d busy h goes = record {
  terminal = terminals.fits_hearing ⊥ l.terminal.waits l.terminal w.terminal (Perhaps b.pcb (carried b.inf)) busy
      goes.terminal;
  card = h.3;
  plain = h.1;
  turns = (busy, h.2);
  seen = refl;
  verdicts = one_more w.card.heard _ w.verdicts h.0 goes.verdicts;
}
card_said Asked next l w hs d busy h goes = record {
  terminal = goes.terminal;
  card = h.1;
  plain = tt;
  turns = inr (busy, h.0);
  seen = tt;
  verdicts = goes.verdicts;
}

card_step : (step : CardStep) (input : CardInput) (l : Link) (w : Watch) (hs : List Exchange) (d : ℕ)
    → (cards.IsOk step → terminals.IsBusy l.terminal.waits) → cards.Outcome (λ n. ⊥) (Unit {0}) (Unit {0}) w.card step
    → Goes l w
    → Goes (card_makes l (record l { services = hs; disturbed = d }) step) (taps w (by_card input step))
card_step (Err fault) input l w hs d busy h goes = goes
card_step (Ok step) input l w hs d busy h goes = card_said step.0 step.1 l w
    (services_after step.0 l.card.waits step.1 hs) d (busy tt) h goes

-- ---- a block comes, or doesn't

terminal_takes : (view : View) (came : Came) (l : Link) (w : Watch) (es : List Exchange) (d f : ℕ)
    → w.terminal.heard ≡ heard_at view came → cards.AwaitsBlock l.card.waits → terminals.Plain ⊥ view came → Goes l w
    → Goes (terminal_makes l (record l { exchanges = es; disturbed = d; failed = f })
    (terminal_turn l.terminal (takes came)))
    (taps w (at_terminal tables l (takes came)))
terminal_takes view came l w es d f seen awaits h goes =
    terminal_step (terminal_turn l.terminal (takes came)) (takes came) l w es d f (λ ok. awaits)
    (subst (λ heard. terminals.Outcome ⊥ (λ n. ⊥) (hearing w.terminal heard) (terminal_turn l.terminal (takes came)))
    (sym seen)
    (terminals.takes_well ⊥ (λ n. ⊥) l.terminal w.terminal view came goes.terminal h)) goes

taken : (came : Came) → PlainCame came → cards.Plain (Unit {0}) came
taken (got (Info number goes_on) inf) h = tt
taken (got (Ready number fault) inf) h = tt
taken (got (Request s) inf) h = h
taken (got (Response s) inf) h = tt
taken damaged h = tt
taken invalid h = tt
taken quiet h = tt

card_takes_block : (view : View) (came : Came) (l : Link) (w : Watch) (hs : List Exchange) (d : ℕ)
    → w.card.heard ≡ heard_at view came → terminals.IsBusy l.terminal.waits → PlainCame came → Goes l w
    → Goes (card_makes l (record l { services = hs; disturbed = d }) (card_turn l.card (card_takes came)))
    (taps w (at_card tables l (card_takes came)))
card_takes_block view came l w hs d seen busy h goes =
    card_step (card_turn l.card (card_takes came)) (card_takes came) l w hs d (λ ok. busy)
    (subst (λ heard. cards.Outcome (λ n. ⊥) (Unit {0}) (Unit {0}) (hearing w.card heard)
    (card_turn l.card (card_takes came))) (sym seen)
    (cards.takes_well (λ n. ⊥) (Unit {0}) (Unit {0}) l.card w.card view came goes.card (taken came h))) goes

perhaps : (pcb : Pcb) (inf : List ℕ) → NoAbort pcb
    → terminals.Plain ⊥ (maybe pcb (carried inf)) (got pcb inf)
perhaps (Info number goes_on) inf h = tt
perhaps (Ready number fault) inf h = tt
perhaps (Request s) inf h = h
perhaps (Response s) inf h = tt

delivering : (u : UnderWay) (l : Link) (w : Watch) → Plain u → Turns u l.terminal.waits l.card.waits → Seen u w
    → Goes l w
    → Goes (delivered tables l u) (taps w (delivery tables l u))
delivering nothing l w h turns seen goes = goes
delivering (to_card b) l w h turns seen goes =
    card_takes_block (maybe b.pcb (carried b.inf)) (got b.pcb b.inf) l w l.services
    l.disturbed seen.0 turns.0 h goes
delivering (to_terminal b) l w h turns seen goes = terminal_takes (maybe b.pcb (carried b.inf)) (got b.pcb b.inf) l w
    l.exchanges l.disturbed l.failed seen turns.1 (perhaps b.pcb b.inf h) goes

damaging : (u : UnderWay) (l : Link) (w : Watch) → Turns u l.terminal.waits l.card.waits → Seen u w → Goes l w
    → Goes (arrives tables l u damaged) (taps w (arrival tables l u damaged))
damaging nothing l w turns seen goes = goes
damaging (to_card b) l w turns seen goes = card_takes_block (maybe b.pcb (carried b.inf)) damaged l w l.services
    (l.disturbed + 1) seen.0 turns.0 tt goes
damaging (to_terminal b) l w turns seen goes = terminal_takes (maybe b.pcb (carried b.inf)) damaged l w l.exchanges
    (l.disturbed + 1) l.failed seen turns.1 tt goes

spoiling : (u : UnderWay) (l : Link) (w : Watch) → Turns u l.terminal.waits l.card.waits → Seen u w → Goes l w
    → Goes (arrives tables l u invalid) (taps w (arrival tables l u invalid))
spoiling nothing l w turns seen goes = goes
spoiling (to_card b) l w turns seen goes = card_takes_block (maybe b.pcb (carried b.inf)) invalid l w l.services
    (l.disturbed + 1) seen.0 turns.0 tt goes
spoiling (to_terminal b) l w turns seen goes = terminal_takes (maybe b.pcb (carried b.inf)) invalid l w l.exchanges
    (l.disturbed + 1) l.failed seen turns.1 tt goes

losing : (u : UnderWay) (l : Link) (w : Watch) → Turns u l.terminal.waits l.card.waits → Seen u w → Goes l w
    → Goes (lost tables l u) (taps w (loss tables l u))
losing nothing l w turns seen goes = goes
losing (to_card b) l w turns seen goes =
    terminal_takes certain quiet l w l.exchanges (l.disturbed + 1) l.failed seen.1 turns.1 tt goes
losing (to_terminal b) l w turns seen goes = terminal_takes (maybe b.pcb (carried b.inf)) quiet l w l.exchanges
    (l.disturbed + 1) l.failed seen turns.1 tt goes

-- ---- every event

terminal_calls : (input : TerminalInput) (l : Link) (w : Watch) (es : List Exchange) (d f : ℕ)
    → terminals.IsCall input → Goes l w
    → Goes (terminal_makes l (record l { exchanges = es; disturbed = d; failed = f }) (terminal_turn l.terminal input))
    (taps w (at_terminal tables l input))
terminal_calls input l w es d f h goes = terminal_step (terminal_turn l.terminal input) input l w es d f
    (λ ok. at_rest_turn l.under_way l.terminal.waits l.card.waits goes.turns
    (terminals.calls_at_rest l.terminal input h ok))
    (terminals.calls_well ⊥ (λ n. ⊥) l.terminal w.terminal input h goes.terminal) goes

card_calls : (input : CardInput) (l : Link) (w : Watch) (hs : List Exchange) (d : ℕ) → cards.IsCall input → Goes l w
    → Goes (card_makes l (record l { services = hs; disturbed = d }) (card_turn l.card input))
    (taps w (at_card tables l input))
card_calls input l w hs d h goes = card_step (card_turn l.card input) input l w hs d
    (λ ok. host_turn l.under_way l.terminal.waits l.card.waits goes.turns (cards.calls_at_turn l.card input h ok))
    (cards.calls_well (λ n. ⊥) (Unit {0}) (Unit {0}) l.card w.card input h goes.card) goes

each_event : (e : Event) (l : Link) (w : Watch) → Goes l w → Goes (happens tables l e) (taps w (made tables l e))
each_event delivers l w goes = delivering l.under_way l w goes.plain goes.turns goes.seen goes
each_event damages l w goes = damaging l.under_way l w goes.turns goes.seen goes
each_event spoils l w goes = spoiling l.under_way l w goes.turns goes.seen goes
each_event loses l w goes = losing l.under_way l w goes.turns goes.seen goes
each_event (transmits m) l w goes = terminal_calls (transmit m) l w (unanswered m ∷ l.exchanges) 0 0 tt goes
each_event (asks_ifsd n) l w goes = terminal_calls (ask_ifs n) l w l.exchanges 0 0 tt goes
each_event (host_replies octets) l w goes =
    card_calls (replies octets) l w (with_reply l.services octets) l.disturbed tt goes
each_event (host_asks_time n) l w goes = card_calls (more_time n) l w l.services l.disturbed tt goes
each_event (host_asks_ifsc n) l w goes = card_calls (card_ask_ifs n) l w l.services l.disturbed tt goes

all_events : (events : List Event) (l : Link) (w : Watch) → Goes l w → NoneDeviates (tap_all tables events l w).verdicts
all_events [] l w goes = goes.verdicts
all_events (e ∷ es) l w goes = all_events es (happens tables l e) (taps w (made tables l e)) (each_event e l w goes)

pub nobody_is_accused : NobodyIsAccused tables
nobody_is_accused terminal_limits card_limits ifsc events =
    all_events events (link_with terminal_limits card_limits ifsc) (new_watch ifsc) (record {
      terminal = terminal_starts ⊥ ifsc terminal_limits;
      card = card_starts ifsc card_limits;
      plain = tt;
      turns = inl ((λ b. b), tt);
      seen = tt;
      verdicts = tt;
    })
