-- A recorder goes from one event to the next as the link does.
use Rattle.std.proofs.Common.{◌≡◌, ◌+◌, ◌++◌, ℕ, List, [], ◌∷◌, refl, sym, ap, subst, ◌∙◌, Result, Ok, Err}
use Rattle.std.specs.Prelude.{if◌then◌else◌, ◌==◌}
use Rattle.t1_core.specs.Came.{Came, damaged, invalid}
use Rattle.t1_core.specs.Terminal.{TerminalState, TerminalStep, if_idle, longest}
use Rattle.t1_core.specs.Card.{CardState, CardStep, if_host}
use Rattle.t1_core.specs.Link.{Link, UnderWay, nothing, to_card, to_terminal, tables, new_link, run, happens, delivered, arrives, lost, terminal_makes, card_makes, Event, delivers, damages, spoils, loses, transmits, asks_ifsd, host_replies, host_asks_time, host_asks_ifsc, Exchange, unanswered, with_reply}
use Rattle.t1_core.specs.Promises.{Matches}
use Rattle.t1_core.proofs.Good.{Good}
use Rattle.t1_core.proofs.Kept.{any_good}
use Rattle.t1_core.proofs.Promised.{always_matches}
use Rattle.exchange_core.specs.Recording.{Recording, IsRecording, recorded, telling, with_outcome, link_of, closed, untold, added, carried, events_of, outcome_of, terminal_outcome, card_outcome, arrival_outcome, loss_outcome, whole, under_way_of, IsSent}
use Rattle.exchange_core.specs.Told.{Tells, Covers, told, AnswersAreReplies}
use Rattle.exchange_core.specs.Records.{begun, after_event, after_events, EachRecordTells}
use Rattle.exchange_core.specs.declared.carrying.Change.TheVariants.{Kept, Damaged, Spoilt}
use Rattle.exchange_text.specs.declared.line.Line.{Line}
use Rattle.exchange_text.specs.declared.line.Line.TheVariants as line
use Rattle.exchange_core.specs.declared.event.EventFault.{EventFault}
use Rattle.exchange_core.specs.declared.event.LastTurn.{LastTurn}
use Rattle.exchange_core.specs.declared.event.LastTurn.TheVariants as last
use Rattle.exchange_core.proofs.Acting.{told-is}
use Rattle.exchange_core.proofs.Folds.{events-on, run-on, rests, loss}
use Rattle.exchange_core.proofs.Pausing.{way-hears, WayHears}
use Rattle.exchange_core.proofs.Resting.{idle-rests, host-rests}
use Rattle.exchange_core.proofs.Telling.{outcome-idle, outcome-host, still-covers}

-- ---- the block under way

terminal-way : (before l : Link) (step : TerminalStep) (turn : LastTurn) → terminal_outcome step ≡ Ok turn
    → (terminal_makes before l step).under_way ≡ under_way_of turn
terminal-way before l (Ok step) turn e = let is : last.Terminal step.0 ≡ turn = cc in ap under_way_of is
terminal-way before l (Err fault) turn e = cc

card-way : (before l : Link) (step : CardStep) (turn : LastTurn) → card_outcome step ≡ Ok turn
    → (card_makes before l step).under_way ≡ under_way_of turn
card-way before l (Ok step) turn e = let is : last.Card step.0 ≡ turn = cc in ap under_way_of is
card-way before l (Err fault) turn e = cc

delivery-way : (l : Link) (way : UnderWay) (turn : LastTurn) → arrival_outcome l way (whole way) ≡ Ok turn
    → (delivered tables l way).under_way ≡ under_way_of turn
delivery-way l nothing turn e = cc
delivery-way l (to_card block) turn e = card-way l l _ turn e
delivery-way l (to_terminal block) turn e = terminal-way l l _ turn e

arrival-way : (l : Link) (way : UnderWay) (came : Came) (turn : LastTurn) → arrival_outcome l way came ≡ Ok turn
    → (arrives tables l way came).under_way ≡ under_way_of turn
arrival-way l nothing came turn e = cc
arrival-way l (to_card block) came turn e = card-way l (record l { disturbed = l.disturbed + 1 }) _ turn e
arrival-way l (to_terminal block) came turn e = terminal-way l (record l { disturbed = l.disturbed + 1 }) _ turn e

loss-way : (l : Link) (way : UnderWay) (turn : LastTurn) → loss_outcome l way ≡ Ok turn
    → (lost tables l way).under_way ≡ under_way_of turn
loss-way l nothing turn e = cc
loss-way l (to_card block) turn e = terminal-way l (record l { disturbed = l.disturbed + 1 }) _ turn e
loss-way l (to_terminal block) turn e = terminal-way l (record l { disturbed = l.disturbed + 1 }) _ turn e

-- the last turn has the block under way
pub way-after : (l : Link) (event : Event) (turn : LastTurn) → outcome_of l event ≡ Ok turn
    → (happens tables l event).under_way ≡ under_way_of turn
way-after l delivers turn e = delivery-way l l.under_way turn e
way-after l damages turn e = arrival-way l l.under_way damaged turn e
way-after l spoils turn e = arrival-way l l.under_way invalid turn e
way-after l loses turn e = loss-way l l.under_way turn e
way-after l (transmits m) turn e =
    terminal-way l (record l { exchanges = unanswered m ∷ l.exchanges; disturbed = 0; failed = 0 }) _ turn e
way-after l (asks_ifsd n) turn e = terminal-way l (record l { disturbed = 0; failed = 0 }) _ turn e
way-after l (host_replies octets) turn e =
    card-way l (record l { services = with_reply l.services octets }) _ turn e
way-after l (host_asks_time n) turn e = card-way l l _ turn e
way-after l (host_asks_ifsc n) turn e = card-way l l _ turn e

-- ---- the lines of an event tell it

own : (nad : ℕ) (x y : Event) → nad ≡ 0 → (if nad == 0 then x else y) ≡ x
own nad x y e = rw e refl

kept-line : (l : Link) (way : UnderWay) (turn : LastTurn) → arrival_outcome l way (whole way) ≡ Ok turn
    → events_of (carried way Kept) ≡ delivers ∷ []
kept-line l nothing turn e = cc
kept-line l (to_card block) turn e = refl
kept-line l (to_terminal block) turn e = refl

damaged-line : (l : Link) (way : UnderWay) (turn : LastTurn) → WayHears way l.terminal.waits
    → arrival_outcome l way damaged ≡ Ok turn → events_of (carried way Damaged) ≡ damages ∷ []
damaged-line l nothing turn h e = cc
damaged-line l (to_card block) turn h e = ap (λ (x : Event). x ∷ []) (own block.nad damages spoils h.0)
damaged-line l (to_terminal block) turn h e = ap (λ (x : Event). x ∷ []) (own block.nad damages spoils h)

spoilt-line : (l : Link) (way : UnderWay) (turn : LastTurn) → arrival_outcome l way invalid ≡ Ok turn
    → events_of (carried way Spoilt) ≡ spoils ∷ []
spoilt-line l nothing turn e = cc
spoilt-line l (to_card block) turn e = refl
spoilt-line l (to_terminal block) turn e = refl

lost-sent : (l : Link) (way : UnderWay) (turn : LastTurn) → loss_outcome l way ≡ Ok turn → IsSent way
lost-sent l nothing turn e = cc
lost-sent l (to_card block) turn e = tt
lost-sent l (to_terminal block) turn e = tt

module _ (r : Recording) (way : (link_of r).under_way ≡ under_way_of r.last) where
  good : Good ⊥ longest longest (link_of r)
  good = any_good longest longest r.ifsc (events_of r.lines)

  -- a call comes where no block is under way
  call-line : (x : Line) → (link_of r).under_way ≡ nothing → events_of (untold r ++ x ∷ []) ≡ events_of (x ∷ [])
  call-line x none =
      events-on (untold r) (x ∷ [])
      ∙ ap (λ (es : List Event). es ++ events_of (x ∷ []))
      (rests (link_of r).terminal (link_of r).card r.last (sym way ∙ none))

  terminal-line : (x : Line) (step : TerminalStep) (turn : LastTurn)
      → terminal_outcome (if_idle (link_of r).terminal.waits step) ≡ Ok turn
      → events_of (untold r ++ x ∷ []) ≡ events_of (x ∷ [])
  terminal-line x step turn e =
      call-line x (idle-rests (link_of r) good (outcome-idle (link_of r).terminal.waits step turn e))

  card-line : (x : Line) (step : CardStep) (turn : LastTurn)
      → card_outcome (if_host (link_of r).card.waits step) ≡ Ok turn
      → events_of (untold r ++ x ∷ []) ≡ events_of (x ∷ [])
  card-line x step turn e =
      call-line x (host-rests (link_of r) good (outcome-host (link_of r).card.waits step turn e))

  tell-it : (event : Event) (turn : LastTurn) → outcome_of (link_of r) event ≡ Ok turn
      → events_of (added r event) ≡ event ∷ []
  tell-it delivers turn e = kept-line (link_of r) (link_of r).under_way turn e
  tell-it damages turn e =
      damaged-line (link_of r) (link_of r).under_way turn (way-hears (link_of r) good) e
  tell-it spoils turn e = spoilt-line (link_of r) (link_of r).under_way turn e
  tell-it loses turn e =
      events-on (untold r) (line.Quiet ∷ [])
      ∙ ap (λ (es : List Event). es ++ events_of (line.Quiet ∷ [])) (loss (link_of r).terminal (link_of r).card r.last
      (subst IsSent way (lost-sent (link_of r) (link_of r).under_way turn e)))
  tell-it (transmits m) turn e = terminal-line (line.Command m) _ turn e
  tell-it (asks_ifsd n) turn e = terminal-line (line.Ifsd n) _ turn e
  tell-it (host_replies octets) turn e = card-line (line.Reply octets) _ turn e
  tell-it (host_asks_time n) turn e = card-line (line.Time n) _ turn e
  tell-it (host_asks_ifsc n) turn e = card-line (line.Ifsc n) _ turn e

  abbrev after : Event → LastTurn → Recording
  after event turn = record r { lines = r.lines ++ added r event; last = turn }

  -- the link after an event that is taken
  pub link-after : (event : Event) (turn : LastTurn) → outcome_of (link_of r) event ≡ Ok turn
      → link_of (after event turn) ≡ happens tables (link_of r) event
  link-after event turn e =
      ap (λ (es : List Event). run tables es (new_link r.ifsc))
      (events-on r.lines (added r event) ∙ ap (λ (es : List Event). events_of r.lines ++ es) (tell-it event turn e))
      ∙ run-on (events_of r.lines) (event ∷ []) (new_link r.ifsc)

-- ---- every record

-- The block under way is the last turn's, and the lines tell what happened.
pub record IsKept (r : Recording) : Type 0 where
  pub way : (link_of r).under_way ≡ under_way_of r.last
  pub covers : Covers (told (closed r)) (link_of r)

pub begun-kept : (atr : List ℕ) (ifsc : ℕ) → IsKept (begun atr ifsc)
begun-kept atr ifsc = record {
  way = refl;
  covers = record { exchanges = refl; services = refl; asking = tt; again = tt };
}

after-kept : (r : Recording) (event : Event) (outcome : Result LastTurn EventFault)
    → outcome_of (link_of r) event ≡ outcome → IsKept r → IsKept (after_event r (with_outcome r event outcome))
after-kept r event (Err fault) e k = k
after-kept r event (Ok turn) e k =
    let link = link-after r k.way event turn e in
    record {
      way = ap (λ (l : Link). l.under_way) link ∙ way-after (link_of r) event turn e;
      covers = still-covers r (after r k.way event turn) event turn k.way k.covers e refl refl link;
    }

pub events-kept : (events : List Event) (r : Recording) → IsKept r → IsKept (after_events events r)
events-kept [] r k = k
events-kept (event ∷ events) r k =
    events-kept events (after_event r (recorded r event)) (after-kept r event (outcome_of (link_of r) event) refl k)

pub covers-tells : (lines : List Line) (l : Link) → Covers (told lines) l → Tells lines l
covers-tells lines l k = record { exchanges = k.exchanges; services = k.services }

pub replies-told : (r : Recording) → Tells (closed r) (link_of r) → AnswersAreReplies (closed r)
replies-told r k =
    subst (λ (es : List Exchange). Matches es (told (closed r)).services) (sym k.exchanges)
    (subst (λ (hs : List Exchange). Matches (link_of r).exchanges hs) (sym k.services)
    (always_matches longest longest r.ifsc (events_of r.lines)))

-- the lines of a recorder with the one of its last turn
pub closed-replies : (r : Recording) (t : TerminalState) (c : CardState) → IsRecording r t c
    → AnswersAreReplies (r.lines ++ telling t c r.last)
closed-replies r t c h = subst (λ (lines : List Line). AnswersAreReplies (r.lines ++ lines)) (told-is r t c h)
    (replies-told r (covers-tells (closed r) (link_of r) h.covers))

pub each-record-tells : EachRecordTells
each-record-tells = record {
  tells = λ atr ifsc events. covers-tells _ _ (events-kept events (begun atr ifsc) (begun-kept atr ifsc)).covers;
  replies = λ atr ifsc events. replies-told (after_events events (begun atr ifsc))
      (covers-tells _ _ (events-kept events (begun atr ifsc) (begun-kept atr ifsc)).covers);
}
