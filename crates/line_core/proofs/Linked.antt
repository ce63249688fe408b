-- Calls of both ends, over a line with two ends, are a history of the link.
use Rattle.std.proofs.Common.{◌≡◌, ◌≤◌, ◌<◌, ◌⊎◌, ◌↔◌, ◌∙◌, ℕ, ◌+◌, ◌-◌, List, [], ◌∷◌, ◌++◌, length, Bool, true, false, Option, Some, None, Ok, Err, append_assoc, refl, sym, ap, subst, inl, inr, arith}
use Rattle.std.proofs.Math.Seq.{take-length}
use Rattle.std.specs.declared.io.Error.{Error}
use Rattle.octet_core.specs.Octets.{AreOctets, xor_of}
use Rattle.octet_core.proofs.Lists.{octets-append, octets-cons, xor-octet}
use Rattle.block_core.specs.Block.{Parts, IsProper, Suits, spelling, front_of, pcb_octet, supervisory_len}
use Rattle.block_core.specs.declared.pcb.Number.TheVariants.{Zero, One}
use Rattle.block_core.specs.declared.pcb.Fault.TheVariants.{Free, Redundancy, Other}
use Rattle.block_core.specs.declared.pcb.S.{S}
use Rattle.block_core.specs.declared.pcb.S.TheVariants.{Resynch, Ifs, Abort, Wtx}
use Rattle.block_core.specs.declared.pcb.Pcb.{Pcb}
use Rattle.block_core.specs.declared.pcb.Pcb.TheVariants.{Info, Ready, Request, Response}
use Rattle.t1_core.specs.declared.turns.TerminalTurn.{TerminalTurn}
use Rattle.t1_core.specs.declared.turns.TerminalTurn.TheVariants.{Send, Answered, IfsSet, GivenUp, Dead}
use Rattle.t1_core.specs.declared.turns.CardTurn.TheVariants.{Send as Sends, Asked}
use Rattle.t1_core.specs.declared.turns.TerminalFault.{TerminalFault}
use Rattle.t1_core.specs.declared.turns.TerminalFault.TheVariants.{Dead as IsDead, Idle}
use Rattle.t1_core.specs.Came.{Came, got, damaged, invalid, quiet, IsClass, class_of}
use Rattle.t1_core.specs.Terminal.{TerminalState, TerminalStep, TerminalInput, Mark, Waits, idle, ack, answer, more, ifs, resynch, dead, takes, transmit, ask_ifs, terminal_came, terminal_turn, turn_of, state_after, Limits, terminal_with}
use Rattle.t1_core.specs.Card.{CardState, CardStep, CardRequest, size as of_size, time as of_time, Waits as CardWaits, command, host, reply, asking, takes as card_takes, replies, card_turn, turn_of as card_turn_of, state_after as card_state_after}
use Rattle.t1_core.specs.Link.{Link, UnderWay, nothing, to_card, to_terminal, Exchange, unanswered, with_reply, tables, run, link_with, happens, Event, delivers, damages, spoils, loses, transmits, asks_ifsd, host_replies, host_asks_time, host_asks_ifsc, terminal_makes, card_makes, lost, exchanges_after, services_after}
use Rattle.t1_core.specs.Promises.{HandsOctets, AllHandOctets, AlwaysTaken, IsTaken, Matches, AlwaysMatches, NoneGivenUp, Serves as InOrder, ServesInOrder, PatientWhereAlike, IsPatient}
use Rattle.line_core.specs.Line.{Arrival, Talk}
use Rattle.line_core.specs.Line as line
use Rattle.line_core.specs.Exchange.{Ending, done, given_up, dead as is_dead, line_failed, used_up, refused, sends, ends, next_of, next_after, left_after, Runs}
use Rattle.line_core.specs.Service.{hears, says, doing_of, is_new, input_of}
use Rattle.line_core.specs.Service as at_card
use Rattle.line_core.specs.Bursts.{IsNoBlock}
use Rattle.line_core.specs.Joined.{Passes, Returns, IsSaid, IsOctet, IsAnswered, IsLost, IsTrip, Trip, talks_of, events_of, Call, IsCall, HaveRun, events_in, joined, begun, ended, exchanges_of, is_about_size, answer_unless, given, services_of, IsLink, TwoEnds, AlwaysLinked, AlwaysMatched, AlwaysInOrder, AlwaysPatientCalls, passing_faults, returning_faults, said_faults, answering_faults, losing_faults, trip_faults, faults_of, faults_before, IsPatientEnd, ArePatient}
use Rattle.line_core.proofs.Steps.{IsAbout, IsRest, Keeps, came-kept, transmit-kept, transmit-sends, ask-kept, ask-sends, about-now, dead-rests, IsSmallCard, CardKeeps, card-came-kept, replies-kept, request-kept}
use Rattle.line_core.proofs.Acting.{Acts, all-act}

-- the law by which a class is computed
abbrev pub Computes : Type 0
Computes = (size : ℕ) (octets : List ℕ) → size ≤ 254 → AreOctets octets → (came : Came)
    → IsClass size octets came ↔ (came ≡ class_of size octets)

-- ---- the octets of a block

pcb-small : (pcb : Pcb) → pcb_octet pcb < 256
pcb-small (Info Zero true) = omega arith
pcb-small (Info Zero false) = omega arith
pcb-small (Info One true) = omega arith
pcb-small (Info One false) = omega arith
pcb-small (Ready Zero Free) = omega arith
pcb-small (Ready Zero Redundancy) = omega arith
pcb-small (Ready Zero Other) = omega arith
pcb-small (Ready One Free) = omega arith
pcb-small (Ready One Redundancy) = omega arith
pcb-small (Ready One Other) = omega arith
pcb-small (Request Resynch) = omega arith
pcb-small (Request Ifs) = omega arith
pcb-small (Request Abort) = omega arith
pcb-small (Request Wtx) = omega arith
pcb-small (Response Resynch) = omega arith
pcb-small (Response Ifs) = omega arith
pcb-small (Response Abort) = omega arith
pcb-small (Response Wtx) = omega arith

supervisory-small : (kind : S) → supervisory_len kind < 256
supervisory-small Resynch = omega arith
supervisory-small Ifs = omega arith
supervisory-small Abort = omega arith
supervisory-small Wtx = omega arith

field-small : (size : ℕ) (pcb : Pcb) (inf : List ℕ) → size ≤ 254 → Suits size pcb inf → length inf < 256
field-small size (Info number goes_on) inf small h = omega (arith, small, h)
field-small size (Ready number fault) inf small h = omega (arith, h)
field-small size (Request kind) inf small h = omega (arith, h.0, supervisory-small kind)
field-small size (Response kind) inf small h = omega (arith, h.0, supervisory-small kind)

octets-none : AreOctets []
octets-none i = omega arith

spelled-octets : (size : ℕ) (v : Parts) → size ≤ 254 → IsProper size v → AreOctets (spelling v)
spelled-octets size v small p =
    let front : AreOctets (front_of v) = octets-cons v.nad (pcb_octet v.pcb ∷ length v.inf ∷ v.inf) p.nad
    (octets-cons (pcb_octet v.pcb) (length v.inf ∷ v.inf) (pcb-small v.pcb) (octets-cons (length v.inf) v.inf
    (field-small size v.pcb v.inf small p.suits) p.octets)) in
    octets-append (front_of v) (xor_of (front_of v) ∷ []) front
    (octets-cons (xor_of (front_of v)) [] (xor-octet (front_of v) front) octets-none)

-- a block that is a whole one to its receiver has that class
class-whole : Computes → (size : ℕ) (b : Parts) → size ≤ 254 → IsClass size (spelling b) (got b.pcb b.inf)
    → class_of size (spelling b) ≡ got b.pcb b.inf
class-whole classed size b small is =
    let octets : AreOctets (spelling b) = subst AreOctets (sym is.1.is ∙ take-length (spelling b))
    (spelled-octets size _ small is.1.proper) in
    sym ((classed size (spelling b) small octets (got b.pcb b.inf)).0 is)

-- ---- the link

run-on : (es : List Event) (e : Event) (l : Link) → run tables (es ++ e ∷ []) l ≡ happens tables (run tables es l) e
run-on [] e l = refl
run-on (x ∷ es) e l = run-on es e (happens tables l x)

octets-on : (es : List Event) (e : Event) → AllHandOctets es → HandsOctets e → AllHandOctets (es ++ e ∷ [])
octets-on [] e h k = (k, tt)
octets-on (x ∷ es) e h k = (h.0, octets-on es e h.1 k)

-- what holds of both ends
record Steady (t : TerminalState) (c : CardState) : Type 0 where
  small : IsSmallCard c
  taken : t.ifsd ≤ 254
  about : (q : Bool) × IsAbout q t.waits

card-steady : (t : TerminalState) (c next : CardState) → IsSmallCard next → Steady t c → Steady t next
card-steady t c next k s = record {
  small = k;
  taken = s.taken;
  about = s.about;
}

terminal-steady : (q : Bool) (t : TerminalState) (c : CardState) (turn : TerminalTurn) (next : TerminalState) (mark :
    Mark)
    → Keeps q t (Ok (turn, next, mark)) → Steady t c → Steady next c
terminal-steady q t c turn next mark k s = record {
  small = s.small;
  taken = elim k.1 [ inl e ↦ omega (arith, e, s.taken) | inr small ↦ small ];
  about = (q, k.0);
}

served-after : (w : CardWaits) (c : CardState) (hs : List Exchange)
    → services_after Asked w c hs ≡ given (is_new w) c.command hs
served-after (command joined) c hs = refl
served-after host c hs = refl
served-after (reply field rest) c hs = refl
served-after (asking asked) c hs = refl

services-append : (a b : List at_card.Event) (hs : List Exchange)
    → services_of (a ++ b) hs ≡ services_of b (services_of a hs)
services-append [] b hs = refl
services-append (at_card.came arrival ∷ a) b hs = services-append a b hs
services-append (at_card.asked is m r ∷ a) b hs = services-append a b (with_reply (given is m hs) r)
services-append (at_card.requested is m request ∷ a) b hs = services-append a b (given is m hs)
services-append (at_card.sent octets ∷ a) b hs = services-append a b hs
services-append (at_card.unsent octets fault ∷ a) b hs = services-append a b hs

-- where a command or an answer ends, by its turn
answered-after : (q : Bool) (a : Option (List ℕ)) (es : List Exchange) → q ≡ false
    → exchanges_after Answered a es ≡ ended done (answer_unless q a) es
answered-after false None es h = refl
answered-after false (Some octets) es h = refl
answered-after true a es h = cc

set-after : (q : Bool) (a : Option (List ℕ)) (es : List Exchange) → q ≡ true → es ≡ ended done (answer_unless q a) es
set-after true a es h = refl
set-after false a es h = cc

abbrev kept_by : TerminalStep → List Exchange → List Exchange → List Exchange
kept_by (Ok step) es older = es
kept_by (Err fault) es older = older

refuses-quiet : (t : TerminalState) (w : Waits) → IsRest w
    → (fault : TerminalFault) × (terminal_came t w quiet ≡ Err fault)
refuses-quiet t idle h = (Idle, refl)
refuses-quiet t dead h = (IsDead, refl)
refuses-quiet t (ack field rest) h = absurd h
refuses-quiet t (answer field) h = absurd h
refuses-quiet t (more joined) h = absurd h
refuses-quiet t (ifs size) h = absurd h
refuses-quiet t (resynch asked) h = absurd h

kept-same : (step : TerminalStep) (es : List Exchange) → kept_by step es es ≡ es
kept-same (Ok step) es = refl
kept-same (Err fault) es = refl

abbrev count_by : TerminalStep → ℕ → ℕ → ℕ
count_by (Ok step) now before = now
count_by (Err fault) now before = before

count-same : (step : TerminalStep) (n : ℕ) → count_by step n n ≡ n
count-same (Ok step) n = refl
count-same (Err fault) n = refl

count-asked : (size : ℕ) (step : TerminalStep) (n : ℕ) → count_by step 0 n ≡ faults_before (ask_ifs size) step n
count-asked size (Ok step) n = refl
count-asked size (Err fault) n = refl

count-begun : (m : List ℕ) (step : TerminalStep) (n : ℕ) → count_by step 0 n ≡ faults_before (transmit m) step n
count-begun m (Ok step) n = refl
count-begun m (Err fault) n = refl

begun-kept : (m : List ℕ) (step : TerminalStep) (es : List Exchange)
    → kept_by step (unanswered m ∷ es) es ≡ begun (transmit m) step es
begun-kept m (Ok step) es = refl
begun-kept m (Err fault) es = refl

at-card : (l : Link) (b : Parts) → l.under_way ≡ to_card b → l.under_way ≡ nothing → ⊥
at-card l b u none = let never : to_card b ≡ nothing = sym u ∙ none in cc

at-terminal : (l : Link) (b : Parts) → l.under_way ≡ to_terminal b → l.under_way ≡ nothing → ⊥
at-terminal l b u none = let never : to_terminal b ≡ nothing = sym u ∙ none in cc

under-way : (w : UnderWay) → (w ≡ nothing) ⊎ (w ≡ nothing → ⊥)
under-way nothing = inl refl
under-way (to_card b) = inr (λ none. cc)
under-way (to_terminal b) = inr (λ none. cc)

module _ (taken : AlwaysTaken tables) (classed : Computes) (alike : PatientWhereAlike tables) (kt kc : Limits) (ifsc :
    ℕ) where
  -- events that hand over octets lead to this link
  record Reached (l : Link) : Type 0 where
    events : List Event
    octets : AllHandOctets events
    is : run tables events (link_with kt kc ifsc) ≡ l

  reach : (l next : Link) (e : Event) → HandsOctets e → happens tables l e ≡ next → Reached l → Reached next
  reach l next e h is r = record {
    events = r.events ++ e ∷ [];
    octets = octets-on r.events e r.octets h;
    is = run-on r.events e (link_with kt kc ifsc) ∙ (ap (λ (x : Link). happens tables x e) r.is ∙ is);
  }

  way-taken : (l : Link) (w : UnderWay) → l.under_way ≡ w → Reached l → IsTaken l w
  way-taken l w u r = subst (λ (x : UnderWay). IsTaken l x) u
      (subst (λ (x : Link). IsTaken x x.under_way) r.is (taken kt kc ifsc r.events r.octets))

  -- it is patient, where both ends have the same limits
  patience : kc ≡ kt → (l : Link) → Reached l → IsPatient tables l
  patience same l r = subst (λ (x : Link). IsPatient tables x) r.is
      (subst (λ (x : Limits). IsPatient tables (run tables r.events (link_with kt x ifsc))) (sym same)
      (alike kt ifsc r.events))

  card-damaged : (l : Link) (b : Parts) (k : Came) → l.under_way ≡ to_card b → IsNoBlock k → Reached l
      → (d : ℕ) × (d ≡ l.disturbed + 1)
      × Reached (card_makes l (record l { disturbed = d }) (card_turn l.card (card_takes k)))
  card-damaged l b damaged u h r = (l.disturbed + 1, refl, reach l _ damages tt (rw u refl) r)
  card-damaged l b invalid u h r = (l.disturbed + 1, refl, reach l _ spoils tt (rw u refl) r)
  card-damaged l b quiet u h r = absurd h
  card-damaged l b (got pcb inf) u h r = absurd h

  -- the block under way came to the card, with so many faults more
  card-event : (l : Link) (b : Parts) (octets here : List ℕ) → l.under_way ≡ to_card b → octets ≡ spelling b
      → class_of l.card.ifsc (spelling b) ≡ got b.pcb b.inf → (p : Passes octets here) → Reached l
      → (d : ℕ) × (d ≡ l.disturbed + passing_faults octets here p)
      × Reached (card_makes l (record l { disturbed = d }) (card_turn l.card (card_takes (class_of l.card.ifsc here))))
  card-event l b octets here u is whole (inl e) r =
      let k : class_of l.card.ifsc here ≡ got b.pcb b.inf =
      ap (λ (x : List ℕ). class_of l.card.ifsc x) (e ∙ is) ∙ whole in
      (l.disturbed, omega arith, reach l _ delivers tt (rw (u, k) refl) r)
  card-event l b octets here u is whole (inr h) r =
      card-damaged l b (class_of l.card.ifsc here) u (h l.card.ifsc) r

  terminal-damaged : (l : Link) (b : Parts) (k : Came) → l.under_way ≡ to_terminal b → IsNoBlock k → Reached l
      → (d : ℕ) × (d ≡ l.disturbed + 1)
      × Reached (terminal_makes l (record l { disturbed = d }) (terminal_turn l.terminal (takes k)))
  terminal-damaged l b damaged u h r = (l.disturbed + 1, refl, reach l _ damages tt (rw u refl) r)
  terminal-damaged l b invalid u h r = (l.disturbed + 1, refl, reach l _ spoils tt (rw u refl) r)
  terminal-damaged l b quiet u h r = absurd h
  terminal-damaged l b (got pcb inf) u h r = absurd h

  -- and the same of the terminal
  terminal-event : (l : Link) (b : Parts) (octets here : List ℕ) → l.under_way ≡ to_terminal b → octets ≡ spelling b
      → class_of l.terminal.ifsd (spelling b) ≡ got b.pcb b.inf → (p : Passes octets here) → Reached l
      → (d : ℕ) × (d ≡ l.disturbed + passing_faults octets here p)
      × Reached (terminal_makes l (record l { disturbed = d })
      (terminal_turn l.terminal (takes (class_of l.terminal.ifsd here))))
  terminal-event l b octets here u is whole (inl e) r =
      let k : class_of l.terminal.ifsd here ≡ got b.pcb b.inf =
      ap (λ (x : List ℕ). class_of l.terminal.ifsd x) (e ∙ is) ∙ whole in
      (l.disturbed, omega arith, reach l _ delivers tt (rw (u, k) refl) r)
  terminal-event l b octets here u is whole (inr h) r =
      terminal-damaged l b (class_of l.terminal.ifsd here) u (h l.terminal.ifsd) r

  lost-way : (l : Link) (w : UnderWay) → (w ≡ nothing → ⊥) → lost tables l w
      ≡ terminal_makes l (record l { disturbed = l.disturbed + 1 }) (terminal_turn l.terminal (takes quiet))
  lost-way l nothing h = absurd (h refl)
  lost-way l (to_card b) h = refl
  lost-way l (to_terminal b) h = refl

  terminal-loses : (l : Link) → (l.under_way ≡ nothing → ⊥) → Reached l
      → Reached (terminal_makes l (record l { disturbed = l.disturbed + 1 })
      (terminal_turn l.terminal (takes quiet)))
  terminal-loses l h r = reach l _ loses tt (lost-way l l.under_way h) r

  -- ---- a block at the card

  -- The card has sent its answer, these are the terminal and both histories, and so many faults there were at most.
  record Met (t : TerminalState) (es hs : List Exchange) (count : ℕ) (back : Arrival) (others : List at_card.Event)
      (last : CardState) : Type 0 where
    now : Link
    answer : Parts
    octets : List ℕ
    spells : octets ≡ spelling answer
    reached : Reached now
    steady : Steady now.terminal now.card
    terminal : now.terminal ≡ t
    way : now.under_way ≡ to_terminal answer
    returns : Returns octets back
    few : now.disturbed + returning_faults octets back returns ≤ count
    acts : Acts hears now.card others last
    exchanges : now.exchanges ≡ es
    services : now.services ≡ hs

  met-by : (l : Link) (b : Parts) (octets : List ℕ) (hs : List Exchange) (count : ℕ) (back : Arrival)
      (others : List at_card.Event) (last : CardState) → Reached l → Steady l.terminal l.card
      → l.under_way ≡ to_terminal b → l.services ≡ hs → (h : Returns octets back)
      → l.disturbed + returning_faults octets back h ≤ count → octets ≡ spelling b
      → Acts hears l.card others last → Met l.terminal l.exchanges hs count back others last
  met-by l b octets hs count back others last r s u served h few e on = record {
    now = l;
    answer = b;
    octets = octets;
    spells = e;
    reached = r;
    steady = s;
    terminal = refl;
    way = u;
    returns = h;
    few = few;
    acts = on;
    exchanges = refl;
    services = served;
  }

  said : (l : Link) (b : Parts) (rest : List at_card.Event) (hs : List Exchange) (count : ℕ) (back : Arrival)
      (others : List at_card.Event) (last : CardState) → Reached l → Steady l.terminal l.card
      → l.under_way ≡ to_terminal b → l.services ≡ hs → (h : IsSaid rest back)
      → l.disturbed + said_faults rest back h ≤ count → Acts (says b) l.card (rest ++ others) last
      → Met l.terminal l.exchanges (services_of rest hs) count back others last
  said l b (at_card.sent octets ∷ []) hs count back others last r s u served h few (e, on) =
      met-by l b octets hs count back others last r s u served h few e on
  said l b (at_card.unsent octets fault ∷ []) hs count back others last r s u served h few (e, on) =
      met-by l b octets hs count back others last r s u served h few e on
  said l b [] hs count back others last r s u served h few on = absurd h
  said l b (at_card.sent octets ∷ (event ∷ events)) hs count back others last r s u served h few on = absurd h
  said l b (at_card.unsent octets fault ∷ (event ∷ events)) hs count back others last r s u served h few on = absurd h
  said l b (at_card.came arrival ∷ events) hs count back others last r s u served h few on = absurd h
  said l b (at_card.asked is m a ∷ events) hs count back others last r s u served h few on = absurd h
  said l b (at_card.requested is m request ∷ events) hs count back others last r s u served h few on = absurd h

  -- its host called it, and has these services
  host-called : (l : Link) (hs : List Exchange) (step : CardStep) (rest : List at_card.Event) (count : ℕ)
      (back : Arrival) (others : List at_card.Event) (last : CardState)
      → Reached (card_makes l (record l { services = hs }) step) → Steady l.terminal l.card
      → CardKeeps step → (h : IsSaid rest back) → l.disturbed + said_faults rest back h ≤ count
      → Acts (doing_of l.card.waits (card_turn_of step)) (card_state_after l.card step) (rest ++ others) last
      → Met l.terminal l.exchanges (services_of rest hs) count back others last
  host-called l hs (Ok (Sends b, next)) rest count back others last r s k h few on =
      said _ b rest hs count back others last r (card-steady l.terminal l.card next k s) refl refl h few on
  host-called l hs (Ok (Asked, next)) (at_card.sent octets ∷ rest) count back others last r s k h few on = absurd on
  host-called l hs (Ok (Asked, next)) (at_card.unsent octets fault ∷ rest) count back others last r s k h few on =
      absurd on
  host-called l hs (Ok (Asked, next)) [] count back others last r s k h few on = absurd h
  host-called l hs (Ok (Asked, next)) (at_card.came arrival ∷ rest) count back others last r s k h few on = absurd h
  host-called l hs (Ok (Asked, next)) (at_card.asked is m a ∷ rest) count back others last r s k h few on = absurd h
  host-called l hs (Ok (Asked, next)) (at_card.requested is m q ∷ rest) count back others last r s k h few on = absurd h
  host-called l hs (Err fault) (at_card.sent octets ∷ rest) count back others last r s k h few on = absurd on
  host-called l hs (Err fault) (at_card.unsent octets inner ∷ rest) count back others last r s k h few on = absurd on
  host-called l hs (Err fault) [] count back others last r s k h few on = absurd h
  host-called l hs (Err fault) (at_card.came arrival ∷ rest) count back others last r s k h few on = absurd h
  host-called l hs (Err fault) (at_card.asked is m a ∷ rest) count back others last r s k h few on = absurd h
  host-called l hs (Err fault) (at_card.requested is m q ∷ rest) count back others last r s k h few on = absurd h

  -- what it asks the terminal for is an event of the link
  request-event : (l : Link) (request : CardRequest) → IsOctet request → Reached l
      → Reached (card_makes l l (card_turn l.card (input_of request)))
  request-event l (of_size n) h r = reach l _ (host_asks_ifsc n) h refl r
  request-event l (of_time n) h r = reach l _ (host_asks_time n) h refl r

  -- the services of a card that asks its host
  host-asked : (is : Bool) (m : List ℕ) (w : CardWaits) (next : CardState) (hs : List Exchange) → is ≡ is_new w
      → m ≡ next.command → services_after Asked w next hs ≡ given is m hs
  host-asked is m w next hs same about = rw (same, about) (served-after w next hs)

  -- the card took the block
  taken-by-card : (l : Link) (d : ℕ) (step : CardStep) (rest : List at_card.Event) (count : ℕ) (back : Arrival)
      (others : List at_card.Event) (last : CardState) → Reached (card_makes l (record l { disturbed = d }) step)
      → Steady l.terminal l.card → CardKeeps step → (h : IsAnswered rest back)
      → d + answering_faults rest back h ≤ count
      → Acts (doing_of l.card.waits (card_turn_of step)) (card_state_after l.card step) (rest ++ others) last
      → Met l.terminal l.exchanges (services_of rest l.services) count back others last
  taken-by-card l d (Ok (Sends b, next)) (at_card.sent octets ∷ rest) count back others last r s k h few on =
      said _ b (at_card.sent octets ∷ rest) l.services count back others last r
      (card-steady l.terminal l.card next k s) refl refl h few on
  taken-by-card l d (Ok (Sends b, next)) (at_card.unsent octets fault ∷ rest) count back others last r s k h few on =
      said _ b (at_card.unsent octets fault ∷ rest) l.services count back others last r
      (card-steady l.terminal l.card next k s) refl refl h few on
  taken-by-card l d (Ok (Sends b, next)) (at_card.asked is m a ∷ rest) count back others last r s k h few on = absurd on
  taken-by-card l d (Ok (Sends b, next)) (at_card.requested is m q ∷ rest) count back others last r s k h few on =
      absurd on
  taken-by-card l d (Ok (Sends b, next)) [] count back others last r s k h few on = absurd h
  taken-by-card l d (Ok (Sends b, next)) (at_card.came arrival ∷ rest) count back others last r s k h few on = absurd h
  taken-by-card l d (Ok (Asked, next)) (at_card.asked is m a ∷ rest) count back others last r s k h few
      (same, about, on) =
      let now : Link = card_makes l (record l { disturbed = d }) (Ok (Asked, next)) in
      let served : now.services ≡ given is m l.services = host-asked is m l.card.waits next l.services same about in
      subst (λ (x : List Exchange). Met l.terminal l.exchanges (services_of rest (with_reply x a)) count back others
      last) served
      (host-called now (with_reply now.services a) (card_turn next (replies a)) rest count back others last
      (reach now _ (host_replies a) h.0 refl r) (card-steady l.terminal l.card next k s) (replies-kept next a k) h.1
      few on)
  taken-by-card l d (Ok (Asked, next)) (at_card.requested is m q ∷ rest) count back others last r s k h few
      (same, about, on) =
      let now : Link = card_makes l (record l { disturbed = d }) (Ok (Asked, next)) in
      let served : now.services ≡ given is m l.services = host-asked is m l.card.waits next l.services same about in
      subst (λ (x : List Exchange). Met l.terminal l.exchanges (services_of rest x) count back others last) served
      (host-called now now.services (card_turn next (input_of q)) rest count back others last
      (request-event now q h.0 r) (card-steady l.terminal l.card next k s) (request-kept next q h.0 k) h.1 few on)
  taken-by-card l d (Ok (Asked, next)) [] count back others last r s k h few on = absurd h
  taken-by-card l d (Ok (Asked, next)) (at_card.came arrival ∷ rest) count back others last r s k h few on = absurd h
  taken-by-card l d (Ok (Asked, next)) (at_card.sent octets ∷ rest) count back others last r s k h few on = absurd on
  taken-by-card l d (Ok (Asked, next)) (at_card.unsent octets fault ∷ rest) count back others last r s k h few on =
      absurd on
  taken-by-card l d (Err fault) [] count back others last r s k h few on = absurd h
  taken-by-card l d (Err fault) (at_card.came arrival ∷ rest) count back others last r s k h few on = absurd h
  taken-by-card l d (Err fault) (at_card.asked is m a ∷ rest) count back others last r s k h few on = absurd on
  taken-by-card l d (Err fault) (at_card.requested is m q ∷ rest) count back others last r s k h few on = absurd on
  taken-by-card l d (Err fault) (at_card.sent octets ∷ rest) count back others last r s k h few on = absurd on
  taken-by-card l d (Err fault) (at_card.unsent octets inner ∷ rest) count back others last r s k h few on = absurd on

  -- The block was lost, and nothing changed, or the card answered it.
  abbrev Meets : (l : Link) (talk : Talk) (events : List at_card.Event) → IsTrip talk events → List at_card.Event
      → CardState → Type 0
  Meets l talk events h others last = ((gone : IsLost talk.arrival)
      × (losing_faults talk.arrival gone ≡ trip_faults talk events h) × Acts hears l.card others last
      × (services_of events l.services ≡ l.services))
      ⊎ Met l.terminal l.exchanges (services_of events l.services) (l.disturbed + trip_faults talk events h)
      talk.arrival others last

  meets : (l : Link) (b : Parts) (talk : Talk) (events others : List at_card.Event) (last : CardState) → Reached l
      → Steady l.terminal l.card → l.under_way ≡ to_card b → talk.sent ≡ spelling b → (h : IsTrip talk events)
      → Acts hears l.card (events ++ others) last → Meets l talk events h others last
  meets l b talk [] others last r s u is h on = inl (h, refl, on, refl)
  meets l b talk (at_card.came line.nothing ∷ events) others last r s u is h on =
      meets l b talk events others last r s u is h on
  meets l b talk (at_card.came (line.failure fault) ∷ events) others last r s u is h on =
      meets l b talk events others last r s u is h on
  meets l b talk (at_card.came (line.block here) ∷ events) others last r s u is h on =
      let whole = class-whole classed l.card.ifsc b s.small.0 (way-taken l (to_card b) u r) in
      let went = card-event l b talk.sent here u is whole h.0 r in
      let few : went.0 + answering_faults events talk.arrival h.1
      ≤ l.disturbed + (passing_faults talk.sent here h.0 + answering_faults events talk.arrival h.1) =
      omega (arith, went.1) in
      inr (taken-by-card l went.0 _ events _ talk.arrival others last went.2 s
      (card-came-kept l.card l.card.waits (class_of l.card.ifsc here) s.small s.small.2) h.1 few on)
  meets l b talk (at_card.asked is_new m a ∷ events) others last r s u is h on = absurd h
  meets l b talk (at_card.requested is_new m q ∷ events) others last r s u is h on = absurd h
  meets l b talk (at_card.sent octets ∷ events) others last r s u is h on = absurd h
  meets l b talk (at_card.unsent octets fault ∷ events) others last r s u is h on = absurd h

  -- ---- the terminal's run

  -- Where a run, or the rest of one, has led: the terminal is this, these are both histories, and so many faults there
  -- were at most.
  record Done (ending : Ending) (left : TerminalState) (es hs : List Exchange) (count : ℕ)
      (others : List at_card.Event) (last : CardState) : Type 0 where
    now : Link
    reached : Reached now
    steady : Steady now.terminal now.card
    terminal : now.terminal ≡ left
    acts : Acts hears now.card others last
    exchanges : now.exchanges ≡ es
    services : now.services ≡ hs
    few : now.disturbed ≤ count
    patient : kc ≡ kt → IsPatientEnd ending count
    rests : now.under_way ≡ nothing → IsRest now.terminal.waits

  -- what a run does, from this link on
  abbrev Goes : Bool → List Trip → Type 0
  Goes q trips = (l : Link) (b : Parts) (count most : ℕ) (ending : Ending) (left : TerminalState)
      (others : List at_card.Event) (last : CardState) → Reached l → Steady l.terminal l.card
      → IsAbout q l.terminal.waits
      → l.disturbed ≤ count → l.under_way ≡ to_card b → Runs most (sends b) l.terminal (talks_of trips) ending left
      → Acts hears l.card (events_of trips ++ others) last
      → Done ending left (ended ending (answer_unless q left.answered) l.exchanges) (services_of (events_of trips)
      l.services)
      (count + faults_of trips) others last

  -- it ended
  stands : (q : Bool) (l : Link) (how ending : Ending) (left : TerminalState) (es : List Exchange) (count : ℕ)
      (others : List at_card.Event) (last : CardState) → Reached l → Steady l.terminal l.card → l.disturbed ≤ count
      → (kc ≡ kt → IsPatientEnd how count) → (l.under_way ≡ nothing → IsRest l.terminal.waits) → ending ≡ how
      → left ≡ l.terminal → l.exchanges ≡ ended how (answer_unless q l.terminal.answered) es
      → Acts hears l.card others last
      → Done ending left (ended ending (answer_unless q left.answered) es) l.services (count + 0) others last
  stands q l how ending left es count others last r s few patient rests is e exchanges on = record {
    now = l;
    reached = r;
    steady = s;
    terminal = sym e;
    acts = on;
    exchanges = rw (is, e) exchanges;
    services = refl;
    few = omega (arith, few);
    patient = λ same. let all : count ≡ count + 0 = omega arith in
        rw is (subst (λ (n : ℕ). IsPatientEnd how n) all (patient same));
    rests = rests;
  }

  -- the terminal took something, and goes on by its turn
  turned : (q : Bool) (trips : List Trip) (goes : Goes q trips) (l : Link) (es : List Exchange) (d f : ℕ) (step :
      TerminalStep)
      (count before most : ℕ) (ending : Ending) (left : TerminalState) (others : List at_card.Event)
      (last : CardState) → Reached (terminal_makes l (record l { exchanges = es; disturbed = d; failed = f }) step)
      → Keeps q l.terminal step → Steady l.terminal l.card → d ≤ count → l.disturbed ≤ before
      → (kc ≡ kt → turn_of step ≡ Ok GivenUp → 2 ≤ count) → (l.under_way ≡ nothing → IsRest l.terminal.waits)
      → Runs most (next_of (turn_of step)) (state_after l.terminal step) (talks_of trips) ending left
      → Acts hears l.card (events_of trips ++ others) last
      → Done ending left (ended ending (answer_unless q left.answered) (kept_by step es l.exchanges))
      (services_of (events_of trips) l.services) (count_by step count before + faults_of trips) others last
  turned q [] goes l es d f (Err fault) count before most ending left others last r k s few then gives rests (is, e) on
      =
      stands q l (refused fault) ending left l.exchanges before others last r s then (λ same. tt) rests is e refl on
  turned q (trip ∷ trips) goes l es d f (Err fault) count before most ending left others last r k s few then gives rests
      never on = absurd never
  turned q trips goes l es d f (Ok (Send b, next, mark)) count before most ending left others last r k s few then gives
      rests goes-on on =
      goes _ b count most ending left others last r (terminal-steady q l.terminal l.card (Send b) next mark k s) k.0
      few refl
      goes-on on
  turned q [] goes l es d f (Ok (Answered, next, mark)) count before most ending left others last r k s few then gives
      rests (is, e) on =
      stands q _ done ending left es count others last r (terminal-steady q l.terminal l.card Answered next mark k s)
      few
      (λ same. tt) (λ none. k.2.1) is e (answered-after q next.answered es k.2.0) on
  turned q (trip ∷ trips) goes l es d f (Ok (Answered, next, mark)) count before most ending left others last r k s few
      then gives rests never on = absurd never
  turned q [] goes l es d f (Ok (IfsSet, next, mark)) count before most ending left others last r k s few then gives
      rests (is, e) on =
      stands q _ done ending left es count others last r (terminal-steady q l.terminal l.card IfsSet next mark k s) few
      (λ same. tt) (λ none. k.2.1) is e (set-after q next.answered es k.2.0) on
  turned q (trip ∷ trips) goes l es d f (Ok (IfsSet, next, mark)) count before most ending left others last r k s few
      then gives rests never on = absurd never
  turned q [] goes l es d f (Ok (GivenUp, next, mark)) count before most ending left others last r k s few then gives
      rests (is, e) on =
      stands q _ given_up ending left es count others last r (terminal-steady q l.terminal l.card GivenUp next mark k
      s) few
      (λ same. gives same refl) (λ none. k.2) is e refl on
  turned q (trip ∷ trips) goes l es d f (Ok (GivenUp, next, mark)) count before most ending left others last r k s few
      then gives rests never on = absurd never
  turned q [] goes l es d f (Ok (Dead, next, mark)) count before most ending left others last r k s few then gives rests
      (is, e) on =
      stands q _ is_dead ending left es count others last r (terminal-steady q l.terminal l.card Dead next mark k s) few
      (λ same. let five = (patience same _ r).dead k.2 in omega (arith, five, few))
      (λ none. dead-rests next.waits k.2) is e refl on
  turned q (trip ∷ trips) goes l es d f (Ok (Dead, next, mark)) count before most ending left others last r k s few then
      gives rests never on = absurd never

  -- what came back was taken, and the terminal goes on
  comes-back : (q : Bool) (trips : List Trip) (goes : Goes q trips) (l : Link) (d : ℕ) (k : Came) (count most : ℕ)
      (ending : Ending) (left : TerminalState) (others : List at_card.Event) (last : CardState) → Reached l
      → Reached (terminal_makes l (record l { disturbed = d }) (terminal_turn l.terminal (takes k)))
      → Steady l.terminal l.card → IsAbout q l.terminal.waits → d ≤ count → l.disturbed ≤ count
      → (l.under_way ≡ nothing → IsRest l.terminal.waits)
      → Runs most (next_of (turn_of (terminal_turn l.terminal (takes k))))
      (state_after l.terminal (terminal_turn l.terminal (takes k))) (talks_of trips) ending left
      → Acts hears l.card (events_of trips ++ others) last
      → Done ending left (ended ending (answer_unless q left.answered) l.exchanges) (services_of (events_of trips)
      l.services)
      (count + faults_of trips) others last
  comes-back q trips goes l d k count most ending left others last before r s about few then rests goes-on on =
      let step : TerminalStep = terminal_turn l.terminal (takes k) in
      let hs : List Exchange = services_of (events_of trips) l.services in
      subst (λ (x : List Exchange). Done ending left (ended ending (answer_unless q left.answered) x) hs (count +
      faults_of trips) others
      last) (kept-same step l.exchanges)
      (subst (λ (n : ℕ). Done ending left (ended ending (answer_unless q left.answered) (kept_by step l.exchanges
      l.exchanges)) hs
      (n + faults_of trips) others last) (count-same step count)
      (turned q trips goes l l.exchanges d l.failed step count count most ending left others last r
      (came-kept q l.terminal l.terminal.waits k about about) s few then
      (λ same gives. let two = (patience same l before).given_up (takes k) gives in omega (arith, two, then)) rests
      goes-on on))

  -- the terminal's line failed
  failed-there : (q : Bool) (trips : List Trip) (l : Link) (fault : Error) (count most : ℕ) (ending : Ending)
      (left : TerminalState) (others : List at_card.Event) (last : CardState) → Reached l
      → Steady l.terminal l.card → l.disturbed ≤ count → (l.under_way ≡ nothing → IsRest l.terminal.waits)
      → Runs most (ends (line_failed fault)) l.terminal (talks_of trips) ending left
      → Acts hears l.card (events_of trips ++ others) last
      → Done ending left (ended ending (answer_unless q left.answered) l.exchanges) (services_of (events_of trips)
      l.services)
      (count + faults_of trips) others last
  failed-there q [] l fault count most ending left others last r s few rests (is, e) on =
      stands q l (line_failed fault) ending left l.exchanges count others last r s few (λ same. tt) rests is e refl on
  failed-there q (trip ∷ trips) l fault count most ending left others last r s few rests never on = absurd never

  -- the terminal's part, once the card sent its answer
  returned : (q : Bool) (trips : List Trip) (goes : Goes q trips) (l : Link) (b : Parts) (octets : List ℕ) (back :
      Arrival)
      (count most : ℕ) (ending : Ending) (left : TerminalState) (others : List at_card.Event) (last : CardState)
      → Reached l → Steady l.terminal l.card → IsAbout q l.terminal.waits → l.under_way ≡ to_terminal b
      → octets ≡ spelling b
      → (h : Returns octets back) → l.disturbed + returning_faults octets back h ≤ count
      → Runs most (next_after l.terminal back) (left_after l.terminal back) (talks_of trips) ending left
      → Acts hears l.card (events_of trips ++ others) last
      → Done ending left (ended ending (answer_unless q left.answered) l.exchanges) (services_of (events_of trips)
      l.services)
      (count + faults_of trips) others last
  returned q trips goes l b octets (line.block here) count most ending left others last r s about u is h few goes-on on
      =
      let whole = class-whole classed l.terminal.ifsd b s.taken (way-taken l (to_terminal b) u r) in
      let went = terminal-event l b octets here u is whole h r in
      comes-back q trips goes l went.0 (class_of l.terminal.ifsd here) count most ending left others last r went.2 s
      about
      (omega (arith, went.1, few)) (omega (arith, few)) (λ none. absurd (at-terminal l b u none)) goes-on on
  returned q trips goes l b octets line.nothing count most ending left others last r s about u is h few goes-on on =
      comes-back q trips goes l (l.disturbed + 1) quiet count most ending left others last r
      (terminal-loses l (at-terminal l b u) r) s about few (omega (arith, few)) (λ none. absurd (at-terminal l b u
      none))
      goes-on on
  returned q trips goes l b octets (line.failure fault) count most ending left others last r s about u is h few goes-on
      on =
      failed-there q trips l fault count most ending left others last r s (omega (arith, few))
      (λ none. absurd (at-terminal l b u none))
      goes-on on

  -- and where its block was lost
  not-heard : (q : Bool) (trips : List Trip) (goes : Goes q trips) (l : Link) (b : Parts) (back : Arrival) (count most
      : ℕ)
      (ending : Ending) (left : TerminalState) (others : List at_card.Event) (last : CardState) → Reached l
      → Steady l.terminal l.card → IsAbout q l.terminal.waits → l.under_way ≡ to_card b → (h : IsLost back)
      → l.disturbed + losing_faults back h ≤ count
      → Runs most (next_after l.terminal back) (left_after l.terminal back) (talks_of trips) ending left
      → Acts hears l.card (events_of trips ++ others) last
      → Done ending left (ended ending (answer_unless q left.answered) l.exchanges) (services_of (events_of trips)
      l.services)
      (count + faults_of trips) others last
  not-heard q trips goes l b (line.block here) count most ending left others last r s about u h few goes-on on = absurd
      h
  not-heard q trips goes l b line.nothing count most ending left others last r s about u h few goes-on on =
      comes-back q trips goes l (l.disturbed + 1) quiet count most ending left others last r
      (terminal-loses l (at-card l b u) r) s about few (omega (arith, few)) (λ none. absurd (at-card l b u none))
      goes-on on
  not-heard q trips goes l b (line.failure fault) count most ending left others last r s about u h few goes-on on =
      failed-there q trips l fault count most ending left others last r s (omega (arith, few))
      (λ none. absurd (at-card l b u none)) goes-on on

  -- the rest of a run, with the trip before it
  with-trip : (q : Bool) (trip : Trip) (trips : List Trip) (l before : Link) (count : ℕ) (ending : Ending) (left :
      TerminalState)
      (others : List at_card.Event) (last : CardState) → l.exchanges ≡ before.exchanges
      → l.services ≡ services_of trip.events before.services
      → Done ending left (ended ending (answer_unless q left.answered) l.exchanges) (services_of (events_of trips)
      l.services)
      (count + trip_faults trip.talk trip.events trip.passed + faults_of trips) others last
      → Done ending left (ended ending (answer_unless q left.answered) before.exchanges)
      (services_of (trip.events ++ events_of trips) before.services)
      (count + (trip_faults trip.talk trip.events trip.passed + faults_of trips)) others last
  with-trip q trip trips l before count ending left others last same served g =
      let n : ℕ = trip_faults trip.talk trip.events trip.passed in
      let sum : count + n + faults_of trips ≡ count + (n + faults_of trips) = omega arith in
      record {
        now = g.now;
        reached = g.reached;
        steady = g.steady;
        terminal = g.terminal;
        acts = g.acts;
        exchanges = g.exchanges ∙ ap (λ (x : List Exchange). ended ending (answer_unless q left.answered) x) same;
        services = g.services ∙ (ap (λ (x : List Exchange). services_of (events_of trips) x) served
            ∙ sym (services-append trip.events (events_of trips) before.services));
        few = omega (arith, g.few);
        patient = λ alike. subst (λ (x : ℕ). IsPatientEnd ending x) sum (g.patient alike);
        rests = g.rests;
      }

  goes-by : (q : Bool) (trips : List Trip) → Goes q trips
  goes-by q [] l b count most ending left others last r s about few u (none, is, e) on =
      stands q l used_up ending left l.exchanges count others last r s few (λ same. tt)
      (λ nowhere. absurd (at-card l b u nowhere)) is e refl on
  goes-by q (trip ∷ trips) l b count most ending left others last r s about few u (some, sent, goes-on) on =
      let there : Acts hears l.card (trip.events ++ (events_of trips ++ others)) last = rw (← append_assoc) on in
      let n : ℕ = trip_faults trip.talk trip.events trip.passed in
      elim (meets l b trip.talk trip.events (events_of trips ++ others) last r s u sent.0 trip.passed there) [
        | inl gone ↦ with-trip q trip trips l l count ending left others last refl (sym gone.3)
            (not-heard q trips (goes-by q trips) l b trip.talk.arrival (count + n) (most - 1) ending left others last r
            s about
            u gone.0 (omega (arith, few, gone.1)) goes-on gone.2)
        | inr met ↦ with-trip q trip trips met.now l count ending left others last met.exchanges met.services
            (returned q trips (goes-by q trips) met.now met.answer met.octets trip.talk.arrival (count + n) (most - 1)
            ending
            left others last met.reached met.steady
            (subst (λ (x : TerminalState). IsAbout q x.waits) (sym met.terminal) about) met.way met.spells met.returns
            (omega (arith, few, met.few))
            (subst (λ (x : TerminalState). Runs (most - 1) (next_after x trip.talk.arrival)
            (left_after x trip.talk.arrival) (talks_of trips) ending left) (sym met.terminal) goes-on) met.acts)
      ]

  -- ---- the calls

  -- a command, or a question about a size, is begun
  begun-run : (q : Bool) (call : Call) (l : Link) (es : List Exchange) (step : TerminalStep) (count : ℕ)
      (others : List at_card.Event) (last : CardState)
      → Reached (terminal_makes l (record l { exchanges = es; disturbed = 0; failed = 0 }) step)
      → Keeps q l.terminal step → Steady l.terminal l.card → l.disturbed ≤ count
      → (turn_of step ≡ Ok GivenUp → ⊥) → (l.under_way ≡ nothing → IsRest l.terminal.waits)
      → Runs call.most (next_of (turn_of step)) (state_after l.terminal step) (talks_of call.trips) call.ending
      call.left
      → Acts hears l.card (events_of call.trips ++ others) last
      → Done call.ending call.left
      (ended call.ending (answer_unless q call.left.answered) (kept_by step es l.exchanges))
      (services_of (events_of call.trips) l.services) (count_by step 0 count + faults_of call.trips) others last
  begun-run q call l es step count others last r k s few sends-first rests goes-on on =
      turned q call.trips (goes-by q call.trips) l es 0 0 step 0 count call.most call.ending call.left others last r k s
      (omega arith) few (λ same gives. absurd (sends-first gives)) rests goes-on on

  -- one call
  called : (call : Call) (l : Link) (count : ℕ) (others : List at_card.Event) (last : CardState) → Reached l
      → Steady l.terminal l.card → l.disturbed ≤ count → (l.under_way ≡ nothing → IsRest l.terminal.waits)
      → (input : TerminalInput) → IsCall input
      → Runs call.most (next_of (turn_of (terminal_turn l.terminal input)))
      (state_after l.terminal (terminal_turn l.terminal input)) (talks_of call.trips) call.ending call.left
      → Acts hears l.card (events_of call.trips ++ others) last
      → Done call.ending call.left
      (ended call.ending (answer_unless (is_about_size input l.terminal.waits) call.left.answered)
      (begun input (terminal_turn l.terminal input) l.exchanges))
      (services_of (events_of call.trips) l.services)
      (faults_before input (terminal_turn l.terminal input) count + faults_of call.trips) others last
  called call l count others last r s few rests (transmit m) h goes-on on =
      let step : TerminalStep = terminal_turn l.terminal (transmit m) in
      let hs : List Exchange = services_of (events_of call.trips) l.services in
      let n : ℕ = faults_before (transmit m) step count + faults_of call.trips in
      subst (λ (x : List Exchange). Done call.ending call.left (ended call.ending call.left.answered x) hs n others
      last)
      (begun-kept m step l.exchanges)
      (subst (λ (x : ℕ). Done call.ending call.left
      (ended call.ending call.left.answered (kept_by step (unanswered m ∷ l.exchanges) l.exchanges)) hs
      (x + faults_of call.trips) others last) (count-begun m step count)
      (begun-run false call l (unanswered m ∷ l.exchanges) step count others last (reach l _ (transmits m) h refl r)
      (transmit-kept l.terminal m) s few (transmit-sends l.terminal m) rests goes-on on))
  called call l count others last r s few rests (ask_ifs size) h goes-on on =
      let step : TerminalStep = terminal_turn l.terminal (ask_ifs size) in
      let hs : List Exchange = services_of (events_of call.trips) l.services in
      let n : ℕ = faults_before (ask_ifs size) step count + faults_of call.trips in
      subst (λ (x : List Exchange). Done call.ending call.left (ended call.ending None x) hs n others last)
      (kept-same step l.exchanges)
      (subst (λ (x : ℕ). Done call.ending call.left (ended call.ending None (kept_by step l.exchanges l.exchanges)) hs
      (x + faults_of call.trips) others last) (count-asked size step count)
      (begun-run true call l l.exchanges step count others last (reach l _ (asks_ifsd size) h refl r)
      (ask-kept l.terminal size h) s few (ask-sends l.terminal size) rests goes-on on))
  called call l count others last r s few rests (takes quiet) h goes-on on =
      let q : Bool = is_about_size (takes quiet) l.terminal.waits in
      let about : IsAbout q l.terminal.waits = about-now l.terminal.waits s.about.0 s.about.1 in
      elim (under-way l.under_way) [
        | inl none ↦ let fault = refuses-quiet l.terminal l.terminal.waits (rests none) in
            comes-back q call.trips (goes-by q call.trips) l l.disturbed quiet (count + 1) call.most call.ending
            call.left others last r (rw fault.1 r) s about (omega (arith, few)) (omega (arith, few)) rests goes-on on
        | inr some ↦ comes-back q call.trips (goes-by q call.trips) l (l.disturbed + 1) quiet (count + 1) call.most
            call.ending call.left others last r (terminal-loses l some r) s about (omega (arith, few))
            (omega (arith, few)) rests goes-on on
      ]
  called call l count others last r s few rests (takes (got pcb inf)) h goes-on on = absurd h
  called call l count others last r s few rests (takes damaged) h goes-on on = absurd h
  called call l count others last r s few rests (takes invalid) h goes-on on = absurd h

  -- the link after all calls, each of which was patient
  record Linked (t : TerminalState) (c : CardState) (es hs : List Exchange) (start : TerminalState)
      (calls : List Call) (count : ℕ) : Type 0 where
    now : Link
    reached : Reached now
    is : IsLink now t c es hs
    patient : kc ≡ kt → ArePatient start calls count

  all-called : (calls : List Call) (l : Link) (count : ℕ) (t : TerminalState) (c : CardState) → Reached l
      → Steady l.terminal l.card → l.disturbed ≤ count → (l.under_way ≡ nothing → IsRest l.terminal.waits)
      → HaveRun l.terminal calls t → Acts hears l.card (events_in calls) c
      → Linked t c (exchanges_of l.terminal calls l.exchanges) (services_of (events_in calls) l.services) l.terminal
      calls count
  all-called [] l count t c r s few rests e on = record {
    now = l;
    reached = r;
    is = record { terminal = sym e; card = sym on; exchanges = refl; services = refl };
    patient = λ same. tt;
  }
  all-called (call ∷ calls) l count t c r s few rests (h, goes-on, others) on =
      let g = called call l count (events_in calls) c r s few rests call.input h goes-on on in
      let n : ℕ = faults_before call.input (terminal_turn l.terminal call.input) count + faults_of call.trips in
      let rest = all-called calls g.now n t c g.reached g.steady g.few g.rests
      (subst (λ (x : TerminalState). HaveRun x calls t) (sym g.terminal) others) g.acts in
      record {
        now = rest.now;
        reached = rest.reached;
        is = record {
          terminal = rest.is.terminal;
          card = rest.is.card;
          exchanges = rest.is.exchanges ∙ (ap (λ (x : TerminalState). exchanges_of x calls g.now.exchanges) g.terminal
              ∙ ap (λ (x : List Exchange). exchanges_of call.left calls x) g.exchanges);
          services = rest.is.services ∙ (ap (λ (x : List Exchange). services_of (events_in calls) x) g.services
              ∙ sym (services-append (events_of call.trips) (events_in calls) l.services));
        };
        patient = λ same.
            (g.patient same, subst (λ (x : TerminalState). ArePatient x calls n) g.terminal (rest.patient same));
      }

-- calls of both ends that begin together
begins : (taken : AlwaysTaken tables) (classed : Computes) (alike : PatientWhereAlike tables) (kt kc : Limits)
    (ifsc : ℕ) (calls : List Call) (servings : List (List at_card.Event)) (t : TerminalState) (c : CardState)
    → TwoEnds kt kc ifsc calls servings t c → Linked taken classed alike kt kc ifsc t c
    (exchanges_of (terminal_with kt ifsc) calls []) (services_of (events_in calls) []) (terminal_with kt ifsc) calls 0
begins taken classed alike kt kc ifsc calls servings t c both =
    let start : Link = link_with kt kc ifsc in
    let steady : Steady start.terminal start.card = record {
      small = (both.size, both.size, tt);
      taken = omega arith;
      about = (false, tt);
    } in
    let on : Acts hears start.card (events_in calls) c =
    subst (λ (x : List at_card.Event). Acts hears start.card x c) (sym both.events)
    (all-act servings start.card c both.served) in
    all-called taken classed alike kt kc ifsc calls start 0 t c (record { events = []; octets = tt; is = refl }) steady
    (omega arith) (λ none. tt) both.run on

-- calls of both ends, new together, are a history of the link
pub always-linked : AlwaysTaken tables → Computes → PatientWhereAlike tables → AlwaysLinked
always-linked taken classed alike kt kc ifsc calls servings t c both =
    let g = begins taken classed alike kt kc ifsc calls servings t c both in (
      g.reached.events,
      g.reached.octets,
      subst (λ (x : Link). IsLink x t c (exchanges_of (terminal_with kt ifsc) calls []) (services_of (events_in calls)
          []))
          (sym g.reached.is) g.is,
    )

-- and patient
pub always-patient : AlwaysTaken tables → Computes → PatientWhereAlike tables → AlwaysPatientCalls
always-patient taken classed alike limits ifsc calls servings t c both =
    (begins taken classed alike limits limits ifsc calls servings t c both).patient refl

-- and so their histories match
pub always-matched : AlwaysMatches tables → AlwaysLinked → AlwaysMatched
always-matched matches linked kt kc ifsc calls servings t c both =
    let g = linked kt kc ifsc calls servings t c both in
    subst (λ (x : List Exchange). Matches x (services_of (events_in calls) [])) g.2.exchanges
    (subst (λ (x : List Exchange). Matches (run tables g.0 (link_with kt kc ifsc)).exchanges x) g.2.services
    (matches kt kc ifsc g.0))

-- in their order, too
pub always-in-order : ServesInOrder tables → AlwaysLinked → AlwaysInOrder
always-in-order serves linked kt kc ifsc calls servings t c both none =
    let g = linked kt kc ifsc calls servings t c both in
    let l : Link = run tables g.0 (link_with kt kc ifsc) in
    subst (λ (x : List Exchange). InOrder x (services_of (events_in calls) [])) g.2.exchanges
    (subst (λ (x : List Exchange). InOrder l.exchanges x) g.2.services
    (serves kt kc ifsc g.0 (subst NoneGivenUp (sym g.2.exchanges) none)))
