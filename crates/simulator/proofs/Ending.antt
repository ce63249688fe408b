-- Each session of an answer to reset that can be used ends.
use Rattle.std.proofs.Common.{◌≡◌, ◌<◌, ◌≤◌, ◌⊎◌, ◌+◌, ◌*◌, ◌++◌, ◌∙◌, inl, inr, ℕ, zero, suc, List, [], ◌∷◌, length, Option, Some, None, Result, Ok, Err, refl, sym, ap, subst, arith}
use Rattle.std.specs.Prelude.{Bool, true, false, ◌||◌, ◌==◌, nat_eq, nat_lt, nat_le, if◌then◌else◌, take, drop}
use Rattle.std.proofs.lemmas.Bool.{cases_lt, lt-ltb, le-ltb, eqb-true}
use Rattle.std.proofs.lemmas.Nat.{mul-le}
use Rattle.std.proofs.Math.Nat.{suc-mul}
use Rattle.std.proofs.lemmas.List.{length-drop}
use Rattle.octet_core.proofs.Choice.{either}
use Rattle.block_core.specs.declared.pcb.Number.{Number}
use Rattle.block_core.specs.declared.pcb.S.TheVariants.{Ifs}
use Rattle.atr_core.specs.T1.{T1Values, ifsc_of, t1_values_of, offers_t1, chooses_crc}
use Rattle.atr_core.specs.declared.params.ParamFault.TheVariants.{NoT1, ReservedIfsc, Crc}
use Rattle.t1_core.specs.Came.{Came, damaged, invalid, same, request}
use Rattle.t1_core.specs.Terminal.{Limits, longest, Waits, idle, ack, answer, more, ifs, resynch, dead, TerminalStep, TerminalState, if_idle, sends_next, is_reserved, is_more, no_failure}
use Rattle.t1_core.specs.Card.{CardState, CardStep, Waits as CardWaits, host, command, reply, asking, if_host, sends_next as card_sends_next}
use Rattle.t1_core.specs.Link as link
use Rattle.t1_core.specs.Link.{Link, UnderWay, nothing, to_card, to_terminal, tables, happens, terminal_makes, card_makes, unanswered, with_reply, Event}
use Rattle.t1_core.specs.Promises.{AllFit, IsIdle}
use Rattle.t1_core.specs.declared.turns.TerminalTurn.TheVariants.{Send, Answered, IfsSet, GivenUp, Dead}
use Rattle.t1_core.specs.declared.turns.CardTurn.TheVariants.{Send as Sends, Asked}
use Rattle.t1_core.specs.declared.turns.TerminalFault.TheVariants.{TooLong, Reserved}
use Rattle.t1_core.specs.declared.turns.CardFault.TheVariants.{TooLong as ReplyTooLong}
use Rattle.t1_core.proofs.Good.{Good}
use Rattle.t1_core.proofs.Kept.{good_always}
use Rattle.t1_core.proofs.Promised.{in_step_when_idle}
use Rattle.program_words.specs.declared.session.Pair.{Pair}
use Rattle.program_words.specs.declared.session.Session.{Session}
use Rattle.exchange_core.specs.Recording.{Recording, link_of, events_of, outcome_of, recorded, with_outcome, under_way_of, added, terminal_outcome, card_outcome, arrival_outcome, loss_outcome, whole, IsSent}
use Rattle.exchange_core.specs.Records.{after_event}
use Rattle.exchange_core.specs.Replay.{IsFound, size_of}
use Rattle.exchange_core.specs.declared.event.EventFault.{EventFault}
use Rattle.exchange_core.specs.declared.event.LastTurn.{LastTurn}
use Rattle.exchange_core.specs.declared.event.LastTurn.TheVariants.{Nothing, Terminal, Card}
use Rattle.exchange_core.proofs.Reaching.{IsKept, begun-kept, events-kept, link-after}
use Rattle.exchange_core.proofs.Telling.{outcome-idle, outcome-host}
use Rattle.simulator.specs.Simulation.{Next, Place, begins, opens, sends, fate, is_named, further, next, onward, simulated, start, new_recording, reply_octets, pair_events, fault_events, listed, most_events, EachSessionEnds}
use Rattle.simulator.proofs.Roomy.{Roomy, IsSimple, roomy-after, new-roomy}
use Rattle.simulator.proofs.Working.{work, most-work, less_delivers, sending_less, replying_is, replying_small, same_self, served-is}

-- ---- between ends with the same limits each message fits

all_fit : (k : Limits) (es : List Event) → AllFit k k es
all_fit k [] = tt
all_fit k (link.delivers ∷ es) = (tt, all_fit k es)
all_fit k (link.damages ∷ es) = (tt, all_fit k es)
all_fit k (link.spoils ∷ es) = (tt, all_fit k es)
all_fit k (link.loses ∷ es) = (tt, all_fit k es)
all_fit k (link.transmits m ∷ es) = (λ h. h, all_fit k es)
all_fit k (link.asks_ifsd n ∷ es) = (tt, all_fit k es)
all_fit k (link.host_replies octets ∷ es) = (λ h. h, all_fit k es)
all_fit k (link.host_asks_time n ∷ es) = (tt, all_fit k es)
all_fit k (link.host_asks_ifsc n ∷ es) = (tt, all_fit k es)

good : (r : Recording) → Good (Unit {0}) longest longest (link_of r)
good r = good_always longest longest r.ifsc (events_of r.lines) (λ fit. all_fit longest (events_of r.lines))

-- ---- one event more

-- what holds of the record of a session
record Stands (r : Recording) : Type 0 where
  kept : IsKept r
  roomy : Roomy (link_of r)

-- the session ends from here, by fewer than so many events
abbrev Ends : ℕ → Session → Place → Recording → Type 0
Ends events s at r = (final : Recording) × (simulated events s at r ≡ Some final)

one-more : (events : ℕ) (s : Session) (at : Place) (r : Recording)
    → simulated (suc events) s at r ≡ further (simulated events s) r (next s at r.last)
unfolding simulated
one-more events s at r = refl

-- a recording after an event that is taken
abbrev grown : Recording → Event → LastTurn → Recording
grown r event turn = record r { lines = r.lines ++ added r event; last = turn }

grown-kept : (r : Recording) (event : Event) (turn : LastTurn) → outcome_of (link_of r) event ≡ Ok turn → IsKept r
    → IsKept (grown r event turn)
grown-kept r event turn e k = subst (λ (x : Result LastTurn EventFault).
    IsKept (after_event r (with_outcome r event x)))
    e (events-kept (event ∷ []) r k)

-- it stands, where the host asks for nothing
grown-stands : (r : Recording) (event : Event) (turn : LastTurn) → outcome_of (link_of r) event ≡ Ok turn
    → IsSimple event → Stands r → Stands (grown r event turn)
grown-stands r event turn e simple k = record {
  kept = grown-kept r event turn e k.kept;
  roomy = subst Roomy (sym (link-after r k.kept.way event turn e)) (roomy-after (link_of r) event simple k.roomy);
}

ends-by : (n : ℕ) (s : Session) (at onto : Place) (r : Recording) (event : Event)
    (outcome : Result LastTurn EventFault)
    → next s at r.last ≡ Some (event, onto) → outcome_of (link_of r) event ≡ outcome
    → ((turn : LastTurn) → outcome_of (link_of r) event ≡ Ok turn → Ends n s onto (grown r event turn))
    → Ends (suc n) s at r
ends-by n s at onto r event (Err fault) is e go = (
  r,
  one-more n s at r ∙ ap (further (simulated n s) r) is
      ∙ ap (λ (x : Result LastTurn EventFault). onward (simulated n s onto) r (with_outcome r event x)) e,
)
ends-by n s at onto r event (Ok turn) is e go =
    let rest = go turn e in (
      rest.0,
      one-more n s at r ∙ ap (further (simulated n s) r) is
          ∙ ap (λ (x : Result LastTurn EventFault). onward (simulated n s onto) r (with_outcome r event x)) e
          ∙ rest.1,
    )

-- ---- listed blocks

-- so many numbers of a list are above this one
abbrev above : ℕ → List ℕ → ℕ
above n [] = 0
above n (x ∷ xs) = (if nat_lt n x then 1 else 0) + above n xs

-- the listed blocks to come
abbrev to_come : Session → ℕ → ℕ
to_come s sent = above sent s.lost + (above sent s.damaged + above sent s.spoilt)

one-falls : (n x : ℕ) → (if nat_lt (n + 1) x then 1 else 0) ≤ (if nat_lt n x then 1 else 0)
one-falls n x =
    elim (cases_lt n x) [
      | inl lt ↦ rw (lt-ltb n x lt) (either (λ (k : ℕ). k ≤ 1) (nat_lt (n + 1) x) _ _ (omega arith) (omega arith))
      | inr le ↦ rw (le-ltb n x le, le-ltb (n + 1) x (omega arith)) (omega arith)
    ]

above-falls : (n : ℕ) (xs : List ℕ) → above (n + 1) xs ≤ above n xs
above-falls n [] = omega arith
above-falls n (x ∷ xs) = omega (arith, above-falls n xs, one-falls n x)

above-named : (n x : ℕ) (xs : List ℕ) (b : Bool) → nat_eq (n + 1) x ≡ b → (b || is_named (n + 1) xs) ≡ true
    → (is_named (n + 1) xs ≡ true → above (n + 1) xs < above n xs) → above (n + 1) (x ∷ xs) < above n (x ∷ xs)
above-named n x xs true e h go =
    let same : n + 1 ≡ x = eqb-true (n + 1) x e in
    let lt : n < x = omega arith in
    let le : x ≤ n + 1 = omega arith in
    rw (lt-ltb n x lt, le-ltb (n + 1) x le) (omega (arith, above-falls n xs))
above-named n x xs false e h go = omega (arith, go h, one-falls n x)

above-less : (n : ℕ) (xs : List ℕ) → is_named (n + 1) xs ≡ true → above (n + 1) xs < above n xs
above-less n [] h = cc
above-less n (x ∷ xs) h = above-named n x xs (nat_eq (n + 1) x) refl h (above-less n xs)

fate-cases : (s : Session) (n : ℕ) (lost hurt spoilt : Bool) → is_named (n + 1) s.lost ≡ lost
    → is_named (n + 1) s.damaged ≡ hurt → is_named (n + 1) s.spoilt ≡ spoilt
    → (fate s (n + 1) ≡ link.delivers) ⊎ (to_come s (n + 1) < to_come s n)
fate-cases s n true hurt spoilt a b c = inr (omega
    (arith, above-less n s.lost a, above-falls n s.damaged, above-falls n s.spoilt))
fate-cases s n false true spoilt a b c = inr (omega
    (arith, above-falls n s.lost, above-less n s.damaged b, above-falls n s.spoilt))
fate-cases s n false false true a b c = inr (omega
    (arith, above-falls n s.lost, above-falls n s.damaged, above-less n s.spoilt c))
fate-cases s n false false false a b c = inl (rw (a, b, c) refl)

-- ---- what is left to do in the session

abbrev opening : LastTurn → ℕ
opening Nothing = 10
opening (Terminal turn) = 0
opening (Card turn) = 0

abbrev total : Place → Recording → ℕ
total at r = pair_events at.left + (work (length at.reply) (link_of r) + opening r.last)

-- the turn of an event isn't Nothing
terminal-opens : (step : TerminalStep) (turn : LastTurn) → terminal_outcome step ≡ Ok turn → opening turn ≡ 0
terminal-opens (Ok step) turn e = let is : Terminal step.0 ≡ turn = cc in sym (ap opening is)
terminal-opens (Err fault) turn e = cc

card-opens : (step : CardStep) (turn : LastTurn) → card_outcome step ≡ Ok turn → opening turn ≡ 0
card-opens (Ok step) turn e = let is : Card step.0 ≡ turn = cc in sym (ap opening is)
card-opens (Err fault) turn e = cc

arrival-opens : (l : Link) (way : UnderWay) (came : Came) (turn : LastTurn) → arrival_outcome l way came ≡ Ok turn
    → opening turn ≡ 0
arrival-opens l nothing came turn e = cc
arrival-opens l (to_card block) came turn e = card-opens _ turn e
arrival-opens l (to_terminal block) came turn e = terminal-opens _ turn e

loss-opens : (l : Link) (way : UnderWay) (turn : LastTurn) → loss_outcome l way ≡ Ok turn → opening turn ≡ 0
loss-opens l nothing turn e = cc
loss-opens l (to_card block) turn e = terminal-opens _ turn e
loss-opens l (to_terminal block) turn e = terminal-opens _ turn e

any-opens : (l : Link) (event : Event) (turn : LastTurn) → outcome_of l event ≡ Ok turn → opening turn ≡ 0
any-opens l link.delivers turn e = arrival-opens l l.under_way (whole l.under_way) turn e
any-opens l link.damages turn e = arrival-opens l l.under_way damaged turn e
any-opens l link.spoils turn e = arrival-opens l l.under_way invalid turn e
any-opens l link.loses turn e = loss-opens l l.under_way turn e
any-opens l (link.transmits m) turn e = terminal-opens _ turn e
any-opens l (link.asks_ifsd n) turn e = terminal-opens _ turn e
any-opens l (link.host_replies octets) turn e = card-opens _ turn e
any-opens l (link.host_asks_time n) turn e = card-opens _ turn e
any-opens l (link.host_asks_ifsc n) turn e = card-opens _ turn e

-- what a session has left after an event
grown-total : (at : Place) (r : Recording) (event : Event) (turn : LastTurn)
    → (way : (link_of r).under_way ≡ under_way_of r.last) → outcome_of (link_of r) event ≡ Ok turn → opening turn ≡ 0
    → total at (grown r event turn)
    ≡ pair_events at.left + work (length at.reply) (happens tables (link_of r) event)
grown-total at r event turn way e none =
    ap (λ (l : Link). pair_events at.left + (work (length at.reply) l + opening turn)) (link-after r way event turn e)
    ∙ ap (λ (n : ℕ). pair_events at.left + (work (length at.reply) (happens tables (link_of r) event) + n)) none
    ∙ omega arith

fate-by : (lost hurt spoilt : Bool) → IsSimple
    (if lost then link.loses else (if hurt then link.damages else (if spoilt then link.spoils else link.delivers)))
fate-by true hurt spoilt = tt
fate-by false true spoilt = tt
fate-by false false true = tt
fate-by false false false = tt

fate-simple : (s : Session) (number : ℕ) → IsSimple (fate s number)
fate-simple s number = fate-by (is_named number s.lost) (is_named number s.damaged) (is_named number s.spoilt)

in-step : (r : Recording) → (link_of r).terminal.waits ≡ idle
    → (link_of r).terminal.number ≡ (link_of r).card.expected
in-step r e = (in_step_when_idle longest longest r.ifsc (events_of r.lines) (subst IsIdle (sym e) tt)).number

-- ---- what a call leaves to do

-- a command is begun by an idle terminal
transmits-by : (octets : ℕ) (m : List ℕ) (l : Link) (turn : LastTurn) → l.terminal.number ≡ l.card.expected
    → 1 ≤ l.terminal.ifsc → (w : Waits) (fits : Bool) → terminal_outcome (if_idle w
    (if fits
    then sends_next (record l.terminal { failures = 0; command = m; answered = None }) m
    else Err TooLong)) ≡ Ok turn
    → work octets (terminal_makes l (record l { exchanges = unanswered m ∷ l.exchanges; disturbed = 0; failed = 0 })
    (if_idle w
    (if fits
    then sends_next (record l.terminal { failures = 0; command = m; answered = None }) m
    else Err TooLong))) < 8 * length m + (8 * octets + 50)
transmits-by octets m l turn number room idle true e =
    let i : ℕ = l.terminal.ifsc in
    let after : Link = terminal_makes l
    (record l { exchanges = unanswered m ∷ l.exchanges; disturbed = 0; failed = 0 })
    (sends_next (record l.terminal { failures = 0; command = m; answered = None }) m) in
    sending_less octets (8 * length m + (8 * octets + 50)) after (take i m) (drop i m) refl
    (ap (λ (x : Number). same x l.card.expected) number ∙ same_self l.card.expected) refl
    (omega (arith, length-drop i m))
transmits-by octets m l turn number room idle false e = cc
transmits-by octets m l turn number room (ack field rest) fits e = cc
transmits-by octets m l turn number room (answer field) fits e = cc
transmits-by octets m l turn number room (more joined) fits e = cc
transmits-by octets m l turn number room (ifs n) fits e = cc
transmits-by octets m l turn number room (resynch asked) fits e = cc
transmits-by octets m l turn number room dead fits e = cc

-- a size is asked for by an idle terminal
asks-by : (octets n : ℕ) (l : Link) (turn : LastTurn) (w : Waits) (reserved : Bool) → terminal_outcome (if_idle w
    (if reserved
    then Err Reserved
    else Ok (Send (request Ifs (n ∷ [])), record l.terminal { failures = 0; waits = ifs n }, no_failure))) ≡ Ok turn
    → work octets (terminal_makes l (record l { disturbed = 0; failed = 0 }) (if_idle w
    (if reserved
    then Err Reserved
    else Ok (Send (request Ifs (n ∷ [])), record l.terminal { failures = 0; waits = ifs n }, no_failure)))) < 10
asks-by octets n l turn idle false e = omega arith
asks-by octets n l turn idle true e = cc
asks-by octets n l turn (ack field rest) reserved e = cc
asks-by octets n l turn (answer field) reserved e = cc
asks-by octets n l turn (more joined) reserved e = cc
asks-by octets n l turn (ifs k) reserved e = cc
asks-by octets n l turn (resynch asked) reserved e = cc
asks-by octets n l turn dead reserved e = cc

-- the host replies in its turn, and then the turn is a block
replies-by : (y : List ℕ) (l : Link) (turn : LastTurn) (field : List ℕ) → l.terminal.waits ≡ answer field
    → same l.terminal.number l.card.expected ≡ false → l.card.waits ≡ host → (w : CardWaits) (fits : Bool)
    → card_outcome (if_host w (if fits then card_sends_next l.card y else Err ReplyTooLong)) ≡ Ok turn
    → work (length y) (card_makes l (record l { services = with_reply l.services y })
    (if_host w (if fits then card_sends_next l.card y else Err ReplyTooLong))) < work (length y) l
replies-by y l turn field waits number now host true e =
    let j : ℕ = l.card.ifsd in
    rw (waits, number, now, replying_is (length y) (take j y) (drop j y))
    (omega (
      arith,
      length-drop j y,
      replying_small (same l.terminal.expected l.card.number) l.card.number
          (is_more (drop j y)) (take j y),
    ))
replies-by y l turn field waits number now host false e = cc
replies-by y l turn field waits number now (command joined) fits e = cc
replies-by y l turn field waits number now (reply f rest) fits e = cc
replies-by y l turn field waits number now (asking q) fits e = cc

-- ---- a step of a session

-- after a block, and with the next pair
abbrev sent_on : Place → Place
sent_on at = record at { sent = at.sent + 1 }

abbrev begun_on : Place → Pair → List Pair → Place
begun_on at pair left = record at { left = left; reply = pair.reply }

module _ (n : ℕ) (s : Session) (at : Place) (r : Recording) where
  abbrev l : Link
  l = link_of r

  -- how a session goes on from here
  record GoesOn : Type 0 where
    sends : IsSent (under_way_of r.last) → (turn : LastTurn) → outcome_of l (fate s (at.sent + 1)) ≡ Ok turn
        → Ends n s (sent_on at) (grown r (fate s (at.sent + 1)) turn)
    begins : (pair : Pair) (left : List Pair) → at.left ≡ pair ∷ left → (turn : LastTurn)
        → outcome_of l (link.transmits pair.command) ≡ Ok turn
        → Ends n s (begun_on at pair left) (grown r (link.transmits pair.command) turn)
    asks : (size : ℕ) → r.last ≡ Nothing → (turn : LastTurn) → outcome_of l (link.asks_ifsd size) ≡ Ok turn
        → Ends n s at (grown r (link.asks_ifsd size) turn)
    replies : r.last ≡ Card Asked → (turn : LastTurn) → outcome_of l (link.host_replies at.reply) ≡ Ok turn
        → Ends n s at (grown r (link.host_replies at.reply) turn)

  now-ends : next s at r.last ≡ None → Ends (suc n) s at r
  now-ends is = (r, one-more n s at r ∙ ap (further (simulated n s) r) is)

  sending : GoesOn → IsSent (under_way_of r.last) → next s at r.last ≡ sends s at → Ends (suc n) s at r
  sending go on is = ends-by n s at (sent_on at) r (fate s (at.sent + 1)) (outcome_of l (fate s (at.sent + 1))) is refl
      (go.sends on)

  beginning : GoesOn → (pairs : List Pair) → at.left ≡ pairs → next s at r.last ≡ begins at pairs → Ends (suc n) s at r
  beginning go [] e is = now-ends is
  beginning go (pair ∷ left) e is = ends-by n s at (begun_on at pair left) r (link.transmits pair.command)
      (outcome_of l (link.transmits pair.command)) is refl (go.begins pair left e)

  opening-by : GoesOn → r.last ≡ Nothing → (size : Option ℕ) → next s at r.last ≡ opens at size → Ends (suc n) s at r
  opening-by go none None is = beginning go at.left refl is
  opening-by go none (Some size) is = ends-by n s at at r (link.asks_ifsd size) (outcome_of l (link.asks_ifsd size)) is
      refl
      (go.asks size none)

  advance : GoesOn → (last : LastTurn) → r.last ≡ last → Ends (suc n) s at r
  advance go Nothing e = opening-by go e s.ifsd (ap (next s at) e)
  advance go (Terminal (Send block)) e = sending go (subst (λ (x : LastTurn). IsSent (under_way_of x)) (sym e) tt)
      (ap (next s at) e)
  advance go (Terminal Answered) e = beginning go at.left refl (ap (next s at) e)
  advance go (Terminal IfsSet) e = beginning go at.left refl (ap (next s at) e)
  advance go (Terminal GivenUp) e = beginning go at.left refl (ap (next s at) e)
  advance go (Terminal Dead) e = now-ends (ap (next s at) e)
  advance go (Card (Sends block)) e = sending go (subst (λ (x : LastTurn). IsSent (under_way_of x)) (sym e) tt)
      (ap (next s at) e)
  advance go (Card Asked) e = ends-by n s at at r (link.host_replies at.reply)
      (outcome_of l (link.host_replies at.reply)) (ap (next s at) e) refl (go.replies e)

-- ---- where no listed block is to come, each event leaves less to do

module _ (s : Session) (at : Place) (r : Recording) (k : Stands r) where
  delivered-less : fate s (at.sent + 1) ≡ link.delivers → IsSent (under_way_of r.last) → (turn : LastTurn)
      → outcome_of (link_of r) (fate s (at.sent + 1)) ≡ Ok turn
      → total (sent_on at) (grown r (fate s (at.sent + 1)) turn) < total at r
  delivered-less is on turn o =
      let taken : outcome_of (link_of r) link.delivers ≡ Ok turn =
      ap (λ (x : Event). outcome_of (link_of r) x) (sym is) ∙ o in
      let less = less_delivers (length at.reply) (link_of r) (good r) k.roomy.card.asks k.roomy.terminal.ifsc
      k.roomy.card.ifsd (subst IsSent (sym k.kept.way) on) in
      let grows = grown-total at r link.delivers turn k.kept.way taken
      (any-opens (link_of r) link.delivers turn taken) in
      subst (λ (x : Event). total at (grown r x turn) < total at r) (sym is) (rw grows (omega (arith, less)))

  begins-less : (pair : Pair) (left : List Pair) → at.left ≡ pair ∷ left → (turn : LastTurn)
      → outcome_of (link_of r) (link.transmits pair.command) ≡ Ok turn
      → total (begun_on at pair left) (grown r (link.transmits pair.command) turn) < total at r
  begins-less pair left e turn o =
      let t : TerminalState = (link_of r).terminal in
      let less = transmits-by (length pair.reply) pair.command (link_of r) turn
      (in-step r (outcome-idle t.waits _ turn o)) k.roomy.terminal.ifsc t.waits
      (nat_le (length pair.command) t.limits.command) o in
      let grows = grown-total (begun_on at pair left) r (link.transmits pair.command) turn k.kept.way o
      (terminal-opens _ turn o) in
      rw (grows, e) (omega (arith, less))

  asks-less : (size : ℕ) → r.last ≡ Nothing → (turn : LastTurn)
      → outcome_of (link_of r) (link.asks_ifsd size) ≡ Ok turn
      → total at (grown r (link.asks_ifsd size) turn) < total at r
  asks-less size e turn o =
      let less = asks-by (length at.reply) size (link_of r) turn (link_of r).terminal.waits (is_reserved size) o in
      let grows = grown-total at r (link.asks_ifsd size) turn k.kept.way o (terminal-opens _ turn o) in
      let ten : opening r.last ≡ 10 = ap opening e in
      rw grows (omega (arith, less, ten))

  replies-less : (turn : LastTurn) → outcome_of (link_of r) (link.host_replies at.reply) ≡ Ok turn
      → total at (grown r (link.host_replies at.reply) turn) < total at r
  replies-less turn o =
      let c : CardState = (link_of r).card in
      let now = outcome-host c.waits _ turn o in
      let on = served-is (link_of r) (good r) now in
      let less = replies-by at.reply (link_of r) turn on.0 on.1 on.2 now c.waits
      (nat_le (length at.reply) c.limits.answer) o in
      let grows = grown-total at r (link.host_replies at.reply) turn k.kept.way o (card-opens _ turn o) in
      rw grows (omega (arith, less))

  -- and none leaves more than the longest command and the replies
  sent-little : (turn : LastTurn) → outcome_of (link_of r) (fate s (at.sent + 1)) ≡ Ok turn
      → total (sent_on at) (grown r (fate s (at.sent + 1)) turn)
      ≤ pair_events at.left + (8 * longest.command + (8 * length at.reply + 50))
  sent-little turn o =
      let new : Recording = grown r (fate s (at.sent + 1)) turn in
      omega (
        arith,
        most-work (length at.reply) longest.command (link_of new) (good new) (omega arith) (omega arith),
        any-opens (link_of r) (fate s (at.sent + 1)) turn o,
      )

-- ---- listed blocks to come

le-of : {a b n : ℕ} → a < b → b < suc n → a < n
le-of h k = omega arith

stays-by : (c less d t u : ℕ) → less ≤ c → u < t → less * d + u < c * d + t
stays-by c less d t u h k = omega (arith, mul-le less d c d h (omega arith))

falls-by : (c less d t u : ℕ) → less < c → u < d + t → less * d + u < c * d + t
falls-by c less d t u h k = omega (arith, mul-le (suc less) d c d (omega arith) (omega arith), suc-mul less d)

-- the reply under way and those to come are the session's
abbrev Within : Session → Place → Type 0
Within s at = length at.reply + reply_octets at.left ≤ reply_octets s.pairs

abbrev left_of : Session → Place → Recording → ℕ
left_of s at r = to_come s at.sent * fault_events s + total at r

sends-less : (s : Session) (at : Place) (r : Recording) → Stands r → Within s at → IsSent (under_way_of r.last)
    → (turn : LastTurn) → outcome_of (link_of r) (fate s (at.sent + 1)) ≡ Ok turn
    → (fate s (at.sent + 1) ≡ link.delivers) ⊎ (to_come s (at.sent + 1) < to_come s at.sent)
    → left_of s (sent_on at) (grown r (fate s (at.sent + 1)) turn) < left_of s at r
sends-less s at r k within on turn o (inl is) =
    stays-by (to_come s at.sent) (to_come s (at.sent + 1)) (fault_events s) (total at r)
    (total (sent_on at) (grown r (fate s (at.sent + 1)) turn))
    (omega (arith, above-falls at.sent s.lost, above-falls at.sent s.damaged, above-falls at.sent s.spoilt))
    (delivered-less s at r k is on turn o)
sends-less s at r k within on turn o (inr fewer) =
    falls-by (to_come s at.sent) (to_come s (at.sent + 1)) (fault_events s) (total at r)
    (total (sent_on at) (grown r (fate s (at.sent + 1)) turn)) fewer
    (omega (arith, sent-little s at r k turn o, within))

same-less : (s : Session) (sent t u : ℕ) → u < t
    → to_come s sent * fault_events s + u < to_come s sent * fault_events s + t
same-less s sent t u h = stays-by (to_come s sent) (to_come s sent) (fault_events s) t u (omega arith) h

ends : (n : ℕ) (s : Session) (at : Place) (r : Recording) → Stands r → Within s at → left_of s at r < n → Ends n s at r
ends zero s at r k within less = let none : ⊥ = omega arith in absurd none
ends (suc n) s at r k within less = advance n s at r (record {
  sends = λ on turn o. ends n s (sent_on at) (grown r (fate s (at.sent + 1)) turn)
      (grown-stands r (fate s (at.sent + 1)) turn o (fate-simple s (at.sent + 1)) k) within
      (le-of (sends-less s at r k within on turn o (fate-cases s at.sent _ _ _ refl refl refl)) less);
  begins = λ pair left e turn o. ends n s (begun_on at pair left) (grown r (link.transmits pair.command) turn)
      (grown-stands r (link.transmits pair.command) turn o tt k)
      (omega (arith, within, ap (λ (pairs : List Pair). reply_octets pairs) e))
      (le-of (same-less s at.sent (total at r) (total (begun_on at pair left)
      (grown r (link.transmits pair.command) turn)) (begins-less s at r k pair left e turn o)) less);
  asks = λ size e turn o. ends n s at (grown r (link.asks_ifsd size) turn)
      (grown-stands r (link.asks_ifsd size) turn o tt k) within
      (le-of (same-less s at.sent (total at r) (total at (grown r (link.asks_ifsd size) turn))
      (asks-less s at r k size e turn o)) less);
  replies = λ e turn o. ends n s at (grown r (link.host_replies at.reply) turn)
      (grown-stands r (link.host_replies at.reply) turn o tt k) within
      (le-of (same-less s at.sent (total at r) (total at (grown r (link.host_replies at.reply) turn))
      (replies-less s at r k turn o)) less);
}) r.last refl

above-none : (xs : List ℕ) → above 0 xs ≤ length xs
above-none [] = omega arith
above-none (x ∷ xs) =
    omega (arith, above-none xs, either (λ (k : ℕ). k ≤ 1) (nat_lt 0 x) 1 0 (omega arith) (omega arith))

-- ---- each session

usable : (n : ℕ) → ((n == 0) || (n == 0xFF)) ≡ false → 1 ≤ n
usable zero e = cc
usable (suc n) e = omega arith

found-by : (n ifsc : ℕ) (values : T1Values) (offers reserved crc : Bool) → values.ifsc ≡ n
    → ((n == 0) || (n == 0xFF)) ≡ reserved → Ok ifsc ≡ size_of
    (if offers then (if reserved then Err ReservedIfsc else (if crc then Err Crc else Ok values)) else Err NoT1)
    → 1 ≤ ifsc
found-by n ifsc values true false false v e is = let same : ifsc ≡ n = cc in rw same (usable n e)
found-by n ifsc values true false true v e is = cc
found-by n ifsc values true true crc v e is = cc
found-by n ifsc values false reserved crc v e is = cc

found-room : (atr : List ℕ) (ifsc : ℕ) → IsFound atr (Ok ifsc) → 1 ≤ ifsc
found-room atr ifsc (inl (a, is, e)) =
    found-by (ifsc_of a) ifsc (t1_values_of a) (offers_t1 a.indicated) _ (chooses_crc a) refl refl e
found-room atr ifsc (inr (none, e)) = cc

at-most : (c most d p : ℕ) → c ≤ most → c * d + (p + (0 + 10)) < most * d + (p + 11)
at-most c most d p h = omega (arith, mul-le c d most d h (omega arith))

pub each-session-ends : EachSessionEnds
each-session-ends s ifsc found =
    let r : Recording = new_recording s.atr ifsc in
    let stands : Stands r = record {
      kept = begun-kept s.atr ifsc;
      roomy = new-roomy ifsc (found-room s.atr ifsc found);
    } in
    let named : to_come s 0 ≤ listed s =
    omega (arith, above-none s.lost, above-none s.damaged, above-none s.spoilt) in
    ends (most_events s) s (start s) r stands (omega arith)
    (at-most (to_come s 0) (listed s) (fault_events s) (pair_events s.pairs) named)

-- ---- enough events

abbrev Goes : Type 0
Goes = Place → Recording → Option Recording

sooner-onward : (n m : ℕ) (go goes : Recording → Option Recording)
    → ((r final : Recording) → go r ≡ None → goes r ≡ Some final → n < m) → (r final : Recording)
    (after : Result Recording EventFault) → onward go r after ≡ None → onward goes r after ≡ Some final → suc n < suc m
sooner-onward n m go goes below r final (Ok new) none h = omega (arith, below new final none h)
sooner-onward n m go goes below r final (Err fault) none h = cc none

sooner-further : (n m : ℕ) (go goes : Goes)
    → ((at : Place) (r final : Recording) → go at r ≡ None → goes at r ≡ Some final → n < m) → (r final : Recording)
    (step : Next) → further go r step ≡ None → further goes r step ≡ Some final → suc n < suc m
sooner-further n m go goes below r final None none h = cc none
sooner-further n m go goes below r final (Some step) none h =
    sooner-onward n m (go step.1) (goes step.1) (below step.1) r final (recorded r step.0) none h

-- a session that ends by fewer than m events and not by fewer than n
sooner : (n m : ℕ) (s : Session) (at : Place) (r final : Recording) → simulated n s at r ≡ None
    → simulated m s at r ≡ Some final → n < m
unfolding simulated
sooner n zero s at r final none h = cc h
sooner zero (suc m) s at r final none h = omega arith
sooner (suc n) (suc m) s at r final none h = sooner-further n m (simulated n s) (simulated m s)
    (λ onto new last. sooner n m s onto new last) r final (next s at r.last) none h

pub too-few : (n : ℕ) (s : Session) (ifsc : ℕ) → IsFound s.atr (Ok ifsc)
    → simulated n s (start s) (new_recording s.atr ifsc) ≡ None → n < most_events s
too-few n s ifsc found none =
    let end = each-session-ends s ifsc found in
    sooner n (most_events s) s (start s) (new_recording s.atr ifsc) end.0 none end.1
