-- The monitor of a trace accuses neither end of `t1_core`.
use Rattle.std.proofs.Common.{inl, inr, true≢false, ◌≡◌, ◌⊎◌, ℕ, ◌+◌, List, [], ◌∷◌, ◌++◌, refl, sym, ap, ◌∙◌, subst}
use Rattle.std.specs.Prelude.{Bool, true, false, Some, None, Ok, Err}
use Rattle.block_core.specs.Block.{Parts}
use Rattle.t1_core.specs.declared.turns.TerminalTurn.{TerminalTurn}
use Rattle.t1_core.specs.declared.turns.TerminalTurn.TheVariants.{Send, Answered, IfsSet, GivenUp, Dead}
use Rattle.t1_core.specs.declared.turns.CardTurn.{CardTurn}
use Rattle.t1_core.specs.declared.turns.CardTurn.TheVariants.{Send as Sends, Asked}
use Rattle.t1_core.specs.Came.{Came, got, damaged, invalid, quiet, carried}
use Rattle.t1_core.specs.Terminal.{Limits, TerminalState, TerminalInput, TerminalStep, transmit, ask_ifs, takes, terminal_turn}
use Rattle.t1_core.specs.Card.{CardState, CardInput, CardStep, replies, more_time, ask_ifs as card_ask_ifs, takes as card_takes, card_turn}
use Rattle.t1_core.specs.Link.{tables, Link, link_with, UnderWay, nothing, to_card, to_terminal, unanswered, with_reply, sent_by_terminal, sent_by_card, terminal_makes, card_makes, arrives, delivered, lost, happens, Event, delivers, damages, spoils, loses, transmits, asks_ifsd, host_replies, host_asks_time, host_asks_ifsc}
use Rattle.t1_core.proofs.Good.{Good}
use Rattle.t1_core.proofs.Kept.{kept, any_good}
use Rattle.block_core.specs.declared.side.Side.TheVariants.{Terminal, Card}
use Rattle.judge_core.specs.declared.courses.Heard.{Heard}
use Rattle.judge_core.specs.declared.courses.Heard.TheVariants.{Beginning, Whole, Perhaps, Broken, Nothing}
use Rattle.judge_core.specs.declared.connection.Last.TheVariants.{Here}
use Rattle.judge_core.specs.declared.doubt.Doubt.{Doubt}
use Rattle.judge_core.specs.declared.doubt.Doubt.TheVariants.{Clear, Refusable, Open}
use Rattle.judge_core.specs.declared.monitor.Monitor.{Monitor}
use Rattle.judge_core.specs.declared.monitor.Said.{Said}
use Rattle.judge_core.specs.declared.monitor.Said.TheVariants.{Block}
use Rattle.judge_core.specs.declared.monitor.Watched.{Watched}
use Rattle.judge_core.specs.Doubts.{is_open, refused_doubt, waited_doubt, corrected, doubted_by, is_turn, judged_of, passed_over, waited}
use Rattle.judge_core.specs.Monitored.{after_silence, heard_in_time, known_after, listens, may_refuse, monitor_after, new_monitor, number_after, quiet_after, said_in, unsaid, whole}
use Rattle.judge_core.specs.Tapped.{AllPass, NoTraceAccuses, Passes, Traced, after_event, after_loss, all_said, said_at, said_of, said_of_loss, shown}
use Rattle.judge_core.proofs.Passes.{NoAbort}
use Rattle.judge_core.proofs.Terminals.{IsAtRest, IsBusy, IsCall, IsInfo, IsOk, Stale, calls_at_rest, silent}
use Rattle.judge_core.proofs.MissedTerminals.{FitsAny, IsPlainCame, Leaves, Says, Tells, hears_it, left, tap_heard}
use Rattle.judge_core.proofs.OpenTerminals.{AsksAgain, IsOwnWaits, stale_quiet}
use Rattle.judge_core.proofs.AnyTerminals.{IsQuiet, any_calls, any_hearing, any_left, any_stale, any_takes, any_waited}
use Rattle.judge_core.proofs.Cards.{AwaitsBlock, AwaitsHost, IsAnew, IsCall as IsCardCall, IsInfo as IsCardInfo, IsOk as CardIsOk, Plain as CardPlain, calls_at_turn, silent as card_silent}
use Rattle.judge_core.proofs.SeenTerminals.{plain_corrected, plain_of}
use Rattle.judge_core.proofs.SeenLinks.{ExpectsSame, FromCard, FromTerminal, Known, call_expects, card_expects, card_takes_ok, known, terminal_takes_ok}
use Rattle.block_core.specs.declared.pcb.Number.{Number}
use Rattle.block_core.specs.declared.pcb.S.TheVariants.{Resynch, Ifs, Abort, Wtx}
use Rattle.block_core.specs.declared.pcb.Pcb.TheVariants.{Info, Ready, Request, Response}
use Rattle.block_core.specs.declared.side.Side.{Side}
use Rattle.judge_core.proofs.Links.{terminal_starts, card_starts}
use Rattle.block_core.specs.declared.pcb.Pcb.{Pcb}
use Rattle.judge_core.proofs.MissedCards.{Due, FitsAny as CardFits, Leaves as CardLeaves, Says as CardSays, StaleAny, Tells as CardTells, left as card_left, left_anew}
use Rattle.judge_core.proofs.OpenCards.{IsAfterQuiet}
use Rattle.judge_core.proofs.AnyCards.{Allowed, AllowedStale, any_calls as card_any_calls, any_hearing as card_any_hearing, any_left as card_any_left, any_silent, any_takes as card_any_takes, stale_again, stale_hearing, stale_left, stale_takes}
use Rattle.judge_core.proofs.CardLinks.{AfterQuietTurn, AwaitsSame, Awaiting, BegunIn, CardKnown, IsAnewCame, IsBegun, IsDead, IsExchange, KeepsAwaiting, QuietStep, ToCard, ToTerminal, begun_calls, call_awaits, card_known, dead_calls, terminal_awaits, terminal_begun, terminal_quiet}
use Rattle.judge_core.specs.Watched as plain
use Rattle.judge_core.proofs.Passes.{watched}
use Rattle.block_core.specs.declared.pcb.Number.TheVariants.{Zero}

-- ---- one connection

-- no block of another connection was on the line
record IsAlone (m : Monitor) : Type 0 where
  last : m.last ≡ Here
  nad : (m.nad ≡ None) ⊎ (m.nad ≡ Some 0)

perhaps : (d : Doubt) (b : Parts) → doubted_by d (Perhaps b.pcb (carried b.inf)) ≡ Perhaps b.pcb (carried b.inf)
perhaps Clear b = refl
perhaps Refusable b = refl
perhaps Open b = refl

-- the monitor after a block of each end
abbrev after_terminal : Monitor → Parts → Monitor
after_terminal m b = record {
  terminal = known_after m.terminal b (number_after m.blocks);
  card = listens (corrected (passed_over m.card) (may_refuse b.pcb)) (Perhaps b.pcb (carried b.inf));
  nad = Some 0;
  pairs = m.pairs;
  last = Here;
  blocks = number_after m.blocks;
}

abbrev after_card : Monitor → Parts → Monitor
after_card m b = record {
  terminal = listens (corrected m.terminal (may_refuse b.pcb)) (Perhaps b.pcb (carried b.inf));
  card = known_after m.card b (number_after m.blocks);
  nad = Some 0;
  pairs = m.pairs;
  last = Here;
  blocks = number_after m.blocks;
}

shown_to_card : (m : Monitor) (b : Parts) → m.last ≡ Here → (m.nad ≡ None) ⊎ (m.nad ≡ Some 0) → b.nad ≡ 0
    → monitor_after m Terminal (whole b) unsaid ≡ after_terminal m b
shown_to_card m b here (inl none) zero = rw (here, none, zero, perhaps _ b) refl
shown_to_card m b here (inr some) zero = rw (here, some, zero, perhaps _ b) refl

shown_to_terminal : (m : Monitor) (b : Parts) → m.last ≡ Here → (m.nad ≡ None) ⊎ (m.nad ≡ Some 0) → b.nad ≡ 0
    → monitor_after m Card (whole b) unsaid ≡ after_card m b
shown_to_terminal m b here (inl none) zero = rw (here, none, zero, perhaps _ b) refl
shown_to_terminal m b here (inr some) zero = rw (here, some, zero, perhaps _ b) refl

said_by_terminal : (m : Monitor) (b : Parts) → (m.nad ≡ None) ⊎ (m.nad ≡ Some 0) → b.nad ≡ 0
    → said_in m Terminal (whole b) ≡ Block (judged_of m.terminal b).verdict
said_by_terminal m b (inl none) zero = rw (none, zero) refl
said_by_terminal m b (inr some) zero = rw (some, zero) refl

said_by_card : (m : Monitor) (b : Parts) → (m.nad ≡ None) ⊎ (m.nad ≡ Some 0) → b.nad ≡ 0
    → said_in m Card (whole b) ≡ Block (judged_of m.card b).verdict
said_by_card m b (inl none) zero = rw (none, zero) refl
said_by_card m b (inr some) zero = rw (some, zero) refl

-- the monitor after the end of a waiting time
abbrev after_quiet : Monitor → Monitor
after_quiet m = record m {
  terminal = waited m.terminal;
  last = Here;
  card = listens (corrected (passed_over m.card) true) (heard_in_time m.card.heard);
}

quiet_now : (m : Monitor) → m.last ≡ Here → quiet_after m ≡ after_quiet m
quiet_now m here = rw here refl

-- ---- both ends

-- the card expects this number
abbrev Expecting : CardState → Number → Type 0
Expecting c = λ n. c.expected ≡ n

-- if its waiting time ends now, the terminal may have sent a block that the tap missed
abbrev IsDoubtful : Watched → Type 0
IsDoubtful w = (is_turn w.heard ≡ true) ⊎ (w.doubt ≡ Clear → ⊥)

-- the terminal sent this block, which the tap didn't see yet
record Sent (t : TerminalState) (c : CardState) (w : Watched) (b : Parts) : Type 0 where
  told : Tells (Expecting c) t w b
  missed : (IsInfo ⊥ b.pcb → c.expected ≡ t.number) → Stale ⊥ (Expecting c) t t.waits (silent ⊥ (plain_of w))
  doubtful : IsDoubtful w

-- the watched card goes with the card, as the terminal is
abbrev CFits : TerminalState → CardState → Watched → Type 0
CFits t c w = CardFits (Awaiting t) (IsBegun t.waits) c w

abbrev CStale : TerminalState → CardState → plain.Watched → Type 0
CStale t c w = StaleAny (Awaiting t) (IsBegun t.waits) (IsExchange t.waits) c w

-- the card sent this block, which the tap didn't see yet
record SentBack (t : TerminalState) (c : CardState) (w : Watched) (b : Parts) : Type 0 where
  told : CardTells (Awaiting t) (IsBegun t.waits) c w b
  missed : (IsCardInfo b.pcb → t.expected ≡ c.number) → (IsAnew b.pcb → IsBegun t.waits)
      → CStale t c (card_silent (plain_of w))
  turn : is_turn w.heard ≡ true

-- what is known of a card that awaits a block: where it is, or a block of it was missed
abbrev Knows : TerminalState → CardState → Watched → Type 0
Knows t c w = (CFits t c w × IsQuiet w.heard) ⊎ (CStale t c (plain_of w) × (w.doubt ≡ Open) × IsQuiet w.heard)

abbrev KnowsFor : TerminalState → CardState → Watched → Pcb → Type 0
KnowsFor t c w pcb = (CFits t c w × IsQuiet w.heard)
    ⊎ (CStale t c (plain_of w) × (w.doubt ≡ Open) × IsQuiet w.heard × IsAfterQuiet pcb)

-- what holds of the watched ends, while this block is under way
abbrev Ends : UnderWay → TerminalState → CardState → Monitor → Type 0
Ends nothing t c m = FitsAny (Expecting c) t t.waits m.terminal
    × ((IsAtRest t.waits × AwaitsBlock c.waits × IsDoubtful m.terminal
    × ((CFits t c m.card × IsQuiet m.card.heard) ⊎ IsDead t.waits))
    ⊎ (IsBusy t.waits × AwaitsHost c.waits × IsQuiet m.terminal.heard × CFits t c m.card
    × (is_turn m.card.heard ≡ true)))
Ends (to_card b) t c m = Sent t c m.terminal b × IsBusy t.waits × KnowsFor t c m.card b.pcb
    × AwaitsBlock c.waits × NoAbort b.pcb
Ends (to_terminal b) t c m = SentBack t c m.card b × AwaitsBlock c.waits
    × FitsAny (Expecting c) t t.waits m.terminal × IsBusy t.waits × IsQuiet m.terminal.heard × NoAbort b.pcb

abbrev EndsOf : Link → Monitor → Type 0
EndsOf l m = Ends l.under_way l.terminal l.card m

at_rest_turn : (u : UnderWay) (t : TerminalState) (c : CardState) (m : Monitor) → Ends u t c m → IsAtRest t.waits
    → (IsDead t.waits → ⊥)
    → AwaitsBlock c.waits × CFits t c m.card × IsQuiet m.card.heard × FitsAny (Expecting c) t t.waits m.terminal
    × IsDoubtful m.terminal
at_rest_turn nothing t c m (fits, inl (rest, awaits, doubtful, inl card)) now alive =
    (awaits, card.0, card.1, fits, doubtful)
at_rest_turn nothing t c m (fits, inl (rest, awaits, doubtful, inr dead_now)) now alive = absurd (alive dead_now)
at_rest_turn nothing t c m (fits, inr turn) now alive = absurd (now turn.0)
at_rest_turn (to_card b) t c m (sent, busy_now, card, awaits, plain) now alive = absurd (now busy_now)
at_rest_turn (to_terminal b) t c m (told, awaits, fits, busy_now, hush, plain) now alive = absurd (now busy_now)

host_turn : (u : UnderWay) (t : TerminalState) (c : CardState) (m : Monitor) → Ends u t c m → AwaitsHost c.waits
    → IsBusy t.waits × CFits t c m.card × FitsAny (Expecting c) t t.waits m.terminal
    × IsQuiet m.terminal.heard × (is_turn m.card.heard ≡ true)
host_turn nothing t c m (fits, inl turn) now = absurd (now turn.1)
host_turn nothing t c m (fits, inr turn) now = (turn.0, turn.3, fits, turn.2, turn.4)
host_turn (to_card b) t c m (sent, busy_now, card, awaits, plain) now = absurd (now awaits)
host_turn (to_terminal b) t c m (told, awaits, fits, busy_now, hush, plain) now = absurd (now awaits)

-- ---- an end makes a step

terminal_said : (turn : TerminalTurn) (next : TerminalState) (c : CardState) (m : Monitor) → AwaitsBlock c.waits
    → CFits next c m.card → IsQuiet m.card.heard → IsDoubtful m.terminal → Says (Expecting c) m.terminal turn next
    → Ends (sent_by_terminal turn) next c m
terminal_said (Send b) next c m awaits card hush doubtful h =
    (record { told = h.0; missed = h.3; doubtful = doubtful }, h.2, inl (card, hush), awaits, h.1)
terminal_said Answered next c m awaits card hush doubtful h = (h.1, inl (h.0, awaits, doubtful, inl (card, hush)))
terminal_said IfsSet next c m awaits card hush doubtful h = (h.1, inl (h.0, awaits, doubtful, inl (card, hush)))
terminal_said GivenUp next c m awaits card hush doubtful h = (h.1, inl (h.0, awaits, doubtful, inl (card, hush)))
terminal_said Dead next c m awaits card hush doubtful h = (h.1, inl (h.0, awaits, doubtful, inl (card, hush)))

knows_for : (t : TerminalState) (c : CardState) (w : Watched) (pcb : Pcb) → IsAfterQuiet pcb → Knows t c w
    → KnowsFor t c w pcb
knows_for t c w pcb h (inl k) = inl k
knows_for t c w pcb h (inr k) = inr (k.0, k.1, k.2, h)

-- after a silence
quiet_said : (turn : TerminalTurn) (next : TerminalState) (c : CardState) (m : Monitor) → AwaitsBlock c.waits
    → Knows next c m.card → IsDoubtful m.terminal → AfterQuietTurn turn next.waits
    → Says (Expecting c) m.terminal turn next
    → Ends (sent_by_terminal turn) next c m
quiet_said (Send b) next c m awaits card doubtful a h =
    (record { told = h.0; missed = h.3; doubtful = doubtful }, h.2, knows_for next c m.card b.pcb a card, awaits, h.1)
quiet_said Answered next c m awaits card doubtful a h = absurd a
quiet_said IfsSet next c m awaits card doubtful a h = absurd a
quiet_said GivenUp next c m awaits card doubtful a h = absurd a
quiet_said Dead next c m awaits card doubtful a h = (h.1, inl (h.0, awaits, doubtful, inr a))

card_said : (turn : CardTurn) (t : TerminalState) (next : CardState) (m : Monitor) → IsBusy t.waits
    → FitsAny (Expecting next) t t.waits m.terminal → IsQuiet m.terminal.heard → is_turn m.card.heard ≡ true
    → CardSays (Awaiting t) (IsBegun t.waits) (IsExchange t.waits) m.card turn next
    → Ends (sent_by_card turn) t next m
card_said (Sends b) t next m busy_now fits hush turn h =
    (record { told = h.0; missed = h.3; turn = turn }, h.2, fits, busy_now, hush, h.1)
card_said Asked t next m busy_now fits hush turn h = (fits, inr (busy_now, h.0, hush, h.1, turn))

-- the card's block leaves this of the terminal
abbrev TFollows : TerminalState → Pcb → TerminalStep → Number → Type 0
TFollows t pcb (Ok step) n = (card_left (Awaiting t) pcb n → step.1.expected ≡ n)
    × (left_anew (IsBegun t.waits) pcb → IsBegun step.1.waits)
TFollows t pcb (Err fault) n = Unit {0}

-- it takes what came
terminal_takes : (step : TerminalStep) (pcb : Pcb) (before l : Link) (m : Monitor) → IsOk step
    → AwaitsBlock l.card.waits
    → CardFits (card_left (Awaiting l.terminal) pcb) (left_anew (IsBegun l.terminal.waits) pcb) l.card m.card
    → IsQuiet m.card.heard → TFollows l.terminal pcb step l.card.number → IsDoubtful m.terminal
    → Leaves (Expecting l.card) m.terminal step
    → EndsOf (terminal_makes before l step) m
terminal_takes (Ok step) pcb before l m ok awaits card hush follows doubtful h =
    terminal_said step.0 step.1 l.card m awaits
    (card_any_left _ (Awaiting step.1) _ (IsBegun step.1.waits) l.card m.card follows.0 follows.1 card) hush doubtful h
terminal_takes (Err fault) pcb before l m ok awaits card hush follows doubtful h = absurd ok

-- or nothing came
abbrev TQuiet : TerminalState → TerminalStep → Type 0
TQuiet t step = AwaitsSame t step × (IsBegun t.waits → BegunIn step) × QuietStep t step

knows_next : (t next : TerminalState) (c : CardState) (w : Watched) → next.expected ≡ t.expected
    → (IsBegun t.waits → IsBegun next.waits) → (IsExchange t.waits → IsExchange next.waits) → Knows t c w
    → Knows next c w
knows_next t next c w same b e (inl (fits, hush)) =
    inl (
      card_any_left (Awaiting t) (Awaiting next) (IsBegun t.waits) (IsBegun next.waits) c w (λ h. same ∙ h) b fits,
      hush,
    )
knows_next t next c w same b e (inr (stale, free, hush)) =
    inr (
      stale_left (Awaiting t) (Awaiting next) (IsBegun t.waits) (IsBegun next.waits) (IsExchange t.waits)
          (IsExchange next.waits) c (plain_of w) (λ h. same ∙ h) (λ h. sym same ∙ h) b e stale,
      free,
      hush,
    )

terminal_quiets : (step : TerminalStep) (before l : Link) (m : Monitor) → IsOk step → AwaitsBlock l.card.waits
    → Knows l.terminal l.card m.card → TQuiet l.terminal step → IsDoubtful m.terminal
    → Leaves (Expecting l.card) m.terminal step
    → EndsOf (terminal_makes before l step) m
terminal_quiets (Ok step) before l m ok awaits card quiet_now doubtful h =
    quiet_said step.0 step.1 l.card m awaits
    (knows_next l.terminal step.1 l.card m.card quiet_now.0 quiet_now.1 quiet_now.2.0 card) doubtful quiet_now.2.1 h
terminal_quiets (Err fault) before l m ok awaits card quiet_now doubtful h = absurd ok

-- what the terminal's block leaves, after the card took it or something else
abbrev Follows : (Number → Type 0) → CardState → CardStep → Number → Type 0
Follows Q c (Ok step) n = Q n → step.1.expected ≡ n
Follows Q c (Err fault) n = Unit {0}

card_takes_block : (step : CardStep) (Q : Number → Type 0) (before l : Link) (m : Monitor) → CardIsOk step
    → IsBusy l.terminal.waits
    → FitsAny Q l.terminal l.terminal.waits m.terminal → Follows Q l.card step l.terminal.number
    → IsQuiet m.terminal.heard → is_turn m.card.heard ≡ true
    → CardLeaves (Awaiting l.terminal) (IsBegun l.terminal.waits) (IsExchange l.terminal.waits) m.card step
    → EndsOf (card_makes before l step) m
card_takes_block (Ok step) Q before l m ok busy_now fits follows hush turn h =
    card_said step.0 l.terminal step.1 m busy_now
    (any_left Q (Expecting step.1) l.terminal m.terminal follows fits) hush turn h
card_takes_block (Err fault) Q before l m ok busy_now fits follows hush turn h = absurd ok

-- or it is called; a refused call changes nothing
terminal_called : (step : TerminalStep) (before l : Link) (m : Monitor) → AwaitsSame l.terminal step
    → (IsOk step → AwaitsBlock l.card.waits × CFits l.terminal l.card m.card × IsQuiet m.card.heard
    × IsDoubtful m.terminal × (IsBegun l.terminal.waits → ⊥) × Leaves (Expecting l.card) m.terminal step)
    → EndsOf before m → EndsOf (terminal_makes before l step) m
terminal_called (Ok step) before l m same h ends =
    let now = h tt in
    terminal_said step.0 step.1 l.card m now.0
    (card_any_left (Awaiting l.terminal) (Awaiting step.1) (IsBegun l.terminal.waits) (IsBegun step.1.waits) l.card
    m.card
    (λ k. same ∙ k) (λ k. absurd (now.4 k)) now.1) now.2 now.3 now.5
terminal_called (Err fault) before l m same h ends = ends

card_called : (step : CardStep) (before l : Link) (m : Monitor)
    → (CardIsOk step → IsBusy l.terminal.waits
    × FitsAny (Expecting l.card) l.terminal l.terminal.waits m.terminal × IsQuiet m.terminal.heard
    × (is_turn m.card.heard ≡ true)
    × CardLeaves (Awaiting l.terminal) (IsBegun l.terminal.waits) (IsExchange l.terminal.waits) m.card step)
    → Follows (Expecting l.card) l.card step l.terminal.number
    → EndsOf before m → EndsOf (card_makes before l step) m
card_called (Ok step) before l m h follows ends =
    let now = h tt in
    card_said step.0 l.terminal step.1 m now.0
    (any_left (Expecting l.card) (Expecting step.1) l.terminal m.terminal follows now.1) now.2 now.3 now.4
card_called (Err fault) before l m h follows ends = ends

-- ---- what the monitor keeps

refused_open : (d : Doubt) → d ≡ Open → refused_doubt d ≡ Open
refused_open d h = rw h refl

-- a card whose turn it isn't
not_passed : (w : Watched) → IsQuiet w.heard → passed_over w ≡ w
not_passed w h = go w.heard h refl
  where
    go : (heard : Heard) → IsQuiet heard → w.heard ≡ heard → passed_over w ≡ w
    go Beginning h is = absurd h
    go (Whole pcb octet) h is = absurd h
    go (Perhaps pcb octet) h is = absurd h
    go Broken h is = rw is refl
    go Nothing h is = rw is refl

card_corrected : (t : TerminalState) (c : CardState) (w : Watched) (refused : Bool) → AwaitsBlock c.waits → CFits t c w
    → CFits t c (corrected w refused)
card_corrected t c w true awaits fits =
    card_any_hearing (Awaiting t) (IsBegun t.waits) (IsExchange t.waits) c w w.heard (refused_doubt w.doubt) awaits
    (refused_open w.doubt) fits
card_corrected t c w false awaits fits = fits

stale_corrected : (w : Watched) (refused : Bool) → w.doubt ≡ Open → (corrected w refused).doubt ≡ Open
stale_corrected w true h = refused_open w.doubt h
stale_corrected w false h = h

heard_quiet : (heard : Heard) → IsQuiet heard → IsQuiet (heard_in_time heard)
heard_quiet Beginning h = absurd h
heard_quiet (Whole pcb octet) h = absurd h
heard_quiet (Perhaps pcb octet) h = absurd h
heard_quiet Broken h = tt
heard_quiet Nothing h = tt

-- a silence after it sent its block, or after a silence
knows_quiet : (t : TerminalState) (c : CardState) (w : Watched) → AwaitsBlock c.waits → Knows t c w
    → Knows t c (listens (corrected (passed_over w) true) (heard_in_time w.heard))
knows_quiet t c w awaits (inl (fits, hush)) =
    subst (λ (v : Watched). Knows t c (listens (corrected v true) (heard_in_time w.heard))) (sym (not_passed w hush))
    (inl (
      card_any_hearing (Awaiting t) (IsBegun t.waits) (IsExchange t.waits) c w (heard_in_time w.heard)
          (refused_doubt w.doubt) awaits (refused_open w.doubt) fits,
      heard_quiet w.heard hush,
    ))
knows_quiet t c w awaits (inr (stale, free, hush)) =
    subst (λ (v : Watched). Knows t c (listens (corrected v true) (heard_in_time w.heard))) (sym (not_passed w hush))
    (inr (
      stale_hearing (Awaiting t) (IsBegun t.waits) (IsExchange t.waits) c (plain_of w) (heard_in_time w.heard) awaits
          stale,
      refused_open w.doubt free,
      heard_quiet w.heard hush,
    ))

forget : (t : TerminalState) (c : CardState) (w : Watched) (pcb : Pcb) → KnowsFor t c w pcb → Knows t c w
forget t c w pcb (inl k) = inl k
forget t c w pcb (inr (stale, free, hush, a)) = inr (stale, free, hush)

-- a silence after its turn
passed_quiet : (t : TerminalState) (c : CardState) (w : Watched) → AwaitsBlock c.waits → is_turn w.heard ≡ true
    → CStale t c (card_silent (plain_of w))
    → Knows t c (listens (corrected (passed_over w) true) (heard_in_time w.heard))
passed_quiet t c w awaits turn stale = go w.heard turn refl
  where
    go : (heard : Heard) → is_turn heard ≡ true → w.heard ≡ heard
        → Knows t c (listens (corrected (passed_over w) true) (heard_in_time w.heard))
    go Beginning k is = rw is (inr (
      stale_hearing (Awaiting t) (IsBegun t.waits) (IsExchange t.waits) c _ Broken awaits
          (subst (λ (h : Heard). CStale t c (card_silent (watched w.«end» h w.last.items))) is stale),
      refl,
      tt,
    ))
    go (Whole pcb octet) k is = rw is (inr (
      stale_hearing (Awaiting t) (IsBegun t.waits) (IsExchange t.waits) c _ Broken
          awaits (subst (λ (h : Heard). CStale t c (card_silent (watched w.«end» h w.last.items))) is stale),
      refl,
      tt,
    ))
    go (Perhaps pcb octet) k is = rw is (inr (
      stale_hearing (Awaiting t) (IsBegun t.waits) (IsExchange t.waits) c _ Broken
          awaits (subst (λ (h : Heard). CStale t c (card_silent (watched w.«end» h w.last.items))) is stale),
      refl,
      tt,
    ))
    go Broken k is = absurd (true≢false (sym k))
    go Nothing k is = absurd (true≢false (sym k))

-- the terminal after a block was sent to it
terminal_heard : (Q : Number → Type 0) (t : TerminalState) (w : Watched) (refused : Bool) (heard : Heard)
    → IsBusy t.waits
    → FitsAny Q t t.waits w → FitsAny Q t t.waits (listens (corrected w refused) heard)
terminal_heard Q t w true heard busy_now fits =
    any_hearing Q t w heard (refused_doubt w.doubt) busy_now (refused_open w.doubt) fits
terminal_heard Q t w false heard busy_now fits = any_hearing Q t w heard w.doubt busy_now (λ h. h) fits

-- after its own block it heard nothing
own_quiet : (side : Side) → IsQuiet (after_silence side)
own_quiet Terminal = tt
own_quiet Card = tt

abbrev is_clear : Doubt → Bool
is_clear Clear = true
is_clear Refusable = false
is_clear Open = false

still_doubtful : (b : Bool) (d : Doubt) → waited_doubt b d ≡ Clear → ⊥
still_doubtful true d h = true≢false (ap is_open h)
still_doubtful false Clear h = true≢false (sym (ap is_clear h))
still_doubtful false Refusable h = true≢false (ap is_open h)
still_doubtful false Open h = true≢false (ap is_open h)

opens : (w : Watched) → IsDoubtful w → (waited w).doubt ≡ Open
opens w (inl turn) = ap (λ (b : Bool). waited_doubt b w.doubt) turn
opens w (inr h) = go (is_turn w.heard) w.doubt h
  where
    go : (b : Bool) (d : Doubt) → (d ≡ Clear → ⊥) → waited_doubt b d ≡ Open
    go true d h = refl
    go false Clear h = absurd (h refl)
    go false Refusable h = refl
    go false Open h = refl

abbrev Still : Link → Monitor → Type 0
Still l m = (m.last ≡ Here) × ((m.nad ≡ None) ⊎ (m.nad ≡ Some 0)) × EndsOf l m

-- ---- a block leaves the line

-- what the event leaves
abbrev Results : List Said → Link → Monitor → Type 0
Results said l m = AllPass said × Still l m

-- the terminal's block was on the line
record ShownBlock (b : Parts) (l : Link) (m : Monitor) : Type 0 where
  said : AllPass (said_of m (to_card b))
  terminal : FitsAny (left (Expecting l.card) b.pcb) l.terminal l.terminal.waits (after_terminal m b).terminal

shows_to_card : (b : Parts) (l : Link) (m : Monitor) → (m.nad ≡ None) ⊎ (m.nad ≡ Some 0)
    → FromTerminal l.terminal l.card b → Sent l.terminal l.card m.terminal b → ShownBlock b l m
shows_to_card b l m nad from sent =
    let told = sent.told from.talks from.within (number_after m.blocks) in record {
      said = (subst Passes (sym (said_by_terminal m b nad from.nad)) told.0, tt);
      terminal = told.1;
    }

record ShownAnswer (b : Parts) (l : Link) (m : Monitor) : Type 0 where
  said : AllPass (said_of m (to_terminal b))
  terminal : FitsAny (Expecting l.card) l.terminal l.terminal.waits (after_card m b).terminal
  card : CardFits (card_left (Awaiting l.terminal) b.pcb) (left_anew (IsBegun l.terminal.waits) b.pcb) l.card
      (after_card m b).card

shows_to_terminal : (b : Parts) (l : Link) (m : Monitor) → (m.nad ≡ None) ⊎ (m.nad ≡ Some 0)
    → FromCard l.terminal l.card b → ToTerminal l.terminal l.card b → Ends (to_terminal b) l.terminal l.card m
    → ShownAnswer b l m
shows_to_terminal b l m nad from to (sent, awaits, fits, busy_now, hush, plain) =
    let told = sent.told from.talks to.within (number_after m.blocks) in record {
      said = (subst Passes (sym (said_by_card m b nad from.nad)) told.0, tt);
      terminal = terminal_heard (Expecting l.card) l.terminal m.terminal (may_refuse b.pcb)
          (Perhaps b.pcb (carried b.inf)) busy_now fits;
      card = told.1;
    }

-- what the terminal's block tells of the card that takes this
follows_none : (c : CardState) (step : CardStep) (n : Number) → Follows (λ m. ⊥) c step n
follows_none c (Ok step) n = λ h. absurd h
follows_none c (Err fault) n = tt

follows_same : (c : CardState) (step : CardStep) (n : Number) → ExpectsSame c step → Follows (Expecting c) c step n
follows_same c (Ok step) n same = λ h. same ∙ h
follows_same c (Err fault) n same = tt

follows_got : (c : CardState) (pcb : Pcb) (inf : List ℕ) (n : Number)
    → Follows (left (Expecting c) pcb) c (card_turn c (card_takes (got pcb inf))) n
follows_got c (Info number goes_on) inf n = follows_none c _ n
follows_got c (Ready number fault) inf n =
    follows_same c (card_turn c (card_takes (got (Ready number fault) inf))) n
    (card_expects c (got (Ready number fault) inf) tt)
follows_got c (Request Resynch) inf n = follows_none c _ n
follows_got c (Request Ifs) inf n =
    follows_same c (card_turn c (card_takes (got (Request Ifs) inf))) n (card_expects c (got (Request Ifs) inf) tt)
follows_got c (Request Abort) inf n =
    follows_same c (card_turn c (card_takes (got (Request Abort) inf))) n (card_expects c (got (Request Abort) inf) tt)
follows_got c (Request Wtx) inf n =
    follows_same c (card_turn c (card_takes (got (Request Wtx) inf))) n (card_expects c (got (Request Wtx) inf) tt)
follows_got c (Response s) inf n =
    follows_same c (card_turn c (card_takes (got (Response s) inf))) n (card_expects c (got (Response s) inf) tt)

follows_left : (c : CardState) (pcb : Pcb) (step : CardStep) (n : Number) → ExpectsSame c step
    → Follows (left (Expecting c) pcb) c step n
follows_left c (Info number goes_on) step n same = follows_none c step n
follows_left c (Ready number fault) step n same = follows_same c step n same
follows_left c (Request Resynch) step n same = follows_none c step n
follows_left c (Request Ifs) step n same = follows_same c step n same
follows_left c (Request Abort) step n same = follows_same c step n same
follows_left c (Request Wtx) step n same = follows_same c step n same
follows_left c (Response s) step n same = follows_same c step n same

-- without another step of the terminal
stays_card : (Q : Number → Type 0) (pcb : Pcb) (n : Number) → card_left Q pcb n → Q n
stays_card Q (Info number goes_on) n h = absurd h
stays_card Q (Ready number fault) n h = h
stays_card Q (Request s) n h = h
stays_card Q (Response Resynch) n h = absurd h
stays_card Q (Response Ifs) n h = h
stays_card Q (Response Abort) n h = h
stays_card Q (Response Wtx) n h = h

stays_anew : (R : Type 0) (pcb : Pcb) → left_anew R pcb → R
stays_anew R (Info number goes_on) h = h
stays_anew R (Ready number fault) h = h
stays_anew R (Request s) h = h
stays_anew R (Response Resynch) h = absurd h
stays_anew R (Response Ifs) h = h
stays_anew R (Response Abort) h = h
stays_anew R (Response Wtx) h = h

-- without another step of the card
stays_left : (Q : Number → Type 0) (pcb : Pcb) (n : Number) → left Q pcb n → Q n
stays_left Q (Info number goes_on) n h = absurd h
stays_left Q (Ready number fault) n h = h
stays_left Q (Request Resynch) n h = absurd h
stays_left Q (Request Ifs) n h = h
stays_left Q (Request Abort) n h = h
stays_left Q (Request Wtx) n h = h
stays_left Q (Response s) n h = h

-- what the card's block tells of the terminal that takes this
follows_terminal : (t : TerminalState) (pcb : Pcb) (came : Came) (step : TerminalStep) (n : Number)
    → (IsCardInfo pcb → ⊥) → (IsAnew pcb → ⊥)
    → AwaitsSame t step → (IsBegun t.waits → BegunIn step) → TFollows t pcb step n
follows_terminal t (Info number goes_on) came step n i a same b = absurd (i tt)
follows_terminal t (Ready number fault) came (Ok step) n i a same b = ((λ h. same ∙ h), b)
follows_terminal t (Ready number fault) came (Err fault1) n i a same b = tt
follows_terminal t (Request s) came (Ok step) n i a same b = ((λ h. same ∙ h), b)
follows_terminal t (Request s) came (Err fault1) n i a same b = tt
follows_terminal t (Response Resynch) came step n i a same b = absurd (a tt)
follows_terminal t (Response Ifs) came (Ok step) n i a same b = ((λ h. same ∙ h), b)
follows_terminal t (Response Ifs) came (Err fault1) n i a same b = tt
follows_terminal t (Response Abort) came (Ok step) n i a same b = ((λ h. same ∙ h), b)
follows_terminal t (Response Abort) came (Err fault1) n i a same b = tt
follows_terminal t (Response Wtx) came (Ok step) n i a same b = ((λ h. same ∙ h), b)
follows_terminal t (Response Wtx) came (Err fault1) n i a same b = tt

follows_info : (t : TerminalState) (number : Number) (goes_on : Bool) (step : TerminalStep) (n : Number)
    → (IsBegun t.waits → BegunIn step) → TFollows t (Info number goes_on) step n
follows_info t number goes_on (Ok step) n b = ((λ h. absurd h), b)
follows_info t number goes_on (Err fault) n b = tt

follows_anew : (t : TerminalState) (step : TerminalStep) (n : Number) → TFollows t (Response Resynch) step n
follows_anew t (Ok step) n = ((λ h. absurd h), (λ h. absurd h))
follows_anew t (Err fault) n = tt

follows_came : (t : TerminalState) (pcb : Pcb) (came : Came) (n : Number) → (IsCardInfo pcb → ⊥) → (IsAnew pcb → ⊥)
    → KeepsAwaiting came → (IsAnewCame came → ⊥) → TFollows t pcb (terminal_turn t (takes came)) n
follows_came t pcb came n i a keeps never = follows_terminal t pcb came (terminal_turn t (takes came)) n i a
    (terminal_awaits t came keeps) (terminal_begun t came never)

follows_block : (t : TerminalState) (pcb : Pcb) (inf : List ℕ) (n : Number)
    → TFollows t pcb (terminal_turn t (takes (got pcb inf))) n
follows_block t (Info number goes_on) inf n = follows_info t number goes_on _ n
    (terminal_begun t (got (Info number goes_on) inf) (λ h. h))
follows_block t (Ready number fault) inf n =
    follows_came t (Ready number fault) (got (Ready number fault) inf) n (λ h. h) (λ h. h) tt (λ h. h)
follows_block t (Request s) inf n = follows_came t (Request s) (got (Request s) inf) n (λ h. h) (λ h. h) tt (λ h. h)
follows_block t (Response Resynch) inf n = follows_anew t _ n
follows_block t (Response Ifs) inf n =
    follows_came t (Response Ifs) (got (Response Ifs) inf) n (λ h. h) (λ h. h) tt (λ h. h)
follows_block t (Response Abort) inf n =
    follows_came t (Response Abort) (got (Response Abort) inf) n (λ h. h) (λ h. h) tt (λ h. h)
follows_block t (Response Wtx) inf n =
    follows_came t (Response Wtx) (got (Response Wtx) inf) n (λ h. h) (λ h. h) tt (λ h. h)

follows_other : (t : TerminalState) (pcb : Pcb) (came : Came) (n : Number) → KeepsAwaiting came
    → (IsAnewCame came → ⊥) → TFollows t pcb (terminal_turn t (takes came)) n
follows_other t (Info number goes_on) came n keeps never =
    follows_info t number goes_on _ n (terminal_begun t came never)
follows_other t (Ready number fault) came n keeps never =
    follows_came t (Ready number fault) came n (λ h. h) (λ h. h) keeps never
follows_other t (Request s) came n keeps never = follows_came t (Request s) came n (λ h. h) (λ h. h) keeps never
follows_other t (Response Resynch) came n keeps never = follows_anew t _ n
follows_other t (Response Ifs) came n keeps never = follows_came t (Response Ifs) came n (λ h. h) (λ h. h) keeps never
follows_other t (Response Abort) came n keeps never =
    follows_came t (Response Abort) came n (λ h. h) (λ h. h) keeps never
follows_other t (Response Wtx) came n keeps never = follows_came t (Response Wtx) came n (λ h. h) (λ h. h) keeps never

-- what a card may take
abbrev CAllowed : TerminalState → CardState → Pcb → Came → Type 0
CAllowed t c sent came = AllowedStale (Awaiting t) (IsBegun t.waits) (IsExchange t.waits) c sent came

abbrev CPlain : TerminalState → CardState → Pcb → Came → Type 0
CPlain t c sent came = Allowed (Awaiting t) (IsBegun t.waits) (IsExchange t.waits) c sent came

plain_got : (t : TerminalState) (c : CardState) (pcb : Pcb) (inf : List ℕ) → NoAbort pcb
    → Due (Awaiting t) (IsBegun t.waits) (IsExchange t.waits) c pcb
    → CardPlain (Due (Awaiting t) (IsBegun t.waits) (IsExchange t.waits) c (Info Zero true)) (got pcb inf)
plain_got t c (Info number goes_on) inf spared due = due
plain_got t c (Ready number fault) inf spared due = tt
plain_got t c (Request s) inf spared due = spared
plain_got t c (Response s) inf spared due = tt

allowed_got : (t : TerminalState) (c : CardState) (b : Parts) → NoAbort b.pcb → ToCard t c b
    → CPlain t c b.pcb (got b.pcb b.inf)
allowed_got t c b spared to = record {
  plain = plain_got t c b.pcb b.inf spared to.due;
  due = to.due;
  own = to.own b.inf;
  anew = to.anew b.inf;
}

stale_got : (t : TerminalState) (c : CardState) (b : Parts) → NoAbort b.pcb → ToCard t c b → IsAfterQuiet b.pcb
    → CAllowed t c b.pcb (got b.pcb b.inf)
stale_got t c b spared to a = record {
  allowed = allowed_got t c b spared to;
  quiet_now = a;
  ready = λ now e taken. to.ready b.inf now e taken a;
  request = λ asked is. to.request b.inf asked is a;
}

allowed_damaged : (t : TerminalState) (c : CardState) (b : Parts) → ToCard t c b → CPlain t c b.pcb damaged
allowed_damaged t c b to = record {
  plain = tt;
  due = to.due;
  own = λ own lags. (tt, (to.own b.inf own lags).1);
  anew = λ now r. (tt, (to.anew b.inf now r).1);
}

allowed_invalid : (t : TerminalState) (c : CardState) (b : Parts) → ToCard t c b → CPlain t c b.pcb invalid
allowed_invalid t c b to = record {
  plain = tt;
  due = to.due;
  own = λ own lags. (tt, (to.own b.inf own lags).1);
  anew = λ now r. (tt, (to.anew b.inf now r).1);
}

-- the card takes what came
knows_takes : (t : TerminalState) (c : CardState) (w : Watched) (b : Parts) (came : Came) (refused : Bool)
    → AwaitsBlock c.waits
    → CPlain t c b.pcb came → (IsAfterQuiet b.pcb → CAllowed t c b.pcb came) → KnowsFor t c w b.pcb
    → CardLeaves (Awaiting t) (IsBegun t.waits) (IsExchange t.waits)
    (listens (corrected (passed_over w) refused) (tap_heard b.pcb (carried b.inf) came)) (card_turn c (card_takes came))
knows_takes t c w b came refused awaits allowed stale_allowed (inl (fits, hush)) =
    subst (λ (v : Watched). CardLeaves (Awaiting t) (IsBegun t.waits) (IsExchange t.waits)
    (listens (corrected v refused) (tap_heard b.pcb (carried b.inf) came)) (card_turn c (card_takes came)))
    (sym (not_passed w hush))
    (card_any_takes (Awaiting t) (IsBegun t.waits) (IsExchange t.waits) c (corrected w refused) b.pcb (carried b.inf)
    came
    allowed (card_corrected t c w refused awaits fits))
knows_takes t c w b came refused awaits allowed stale_allowed (inr (stale, free, hush, a)) =
    subst (λ (v : Watched). CardLeaves (Awaiting t) (IsBegun t.waits) (IsExchange t.waits)
    (listens (corrected v refused) (tap_heard b.pcb (carried b.inf) came)) (card_turn c (card_takes came)))
    (sym (not_passed w hush))
    (stale_takes (Awaiting t) (IsBegun t.waits) (IsExchange t.waits) c (corrected w refused) b.pcb (carried b.inf) came
    (stale_corrected w refused free) (stale_allowed a)
    (subst (CStale t c) (sym (plain_corrected w refused)) stale))

card_gets : (b : Parts) (came : Came) (before l : Link) (m : Monitor) → m.last ≡ Here
    → (m.nad ≡ None) ⊎ (m.nad ≡ Some 0)
    → FromTerminal l.terminal l.card b → Ends (to_card b) l.terminal l.card m
    → CPlain l.terminal l.card b.pcb came → (IsAfterQuiet b.pcb → CAllowed l.terminal l.card b.pcb came)
    → tap_heard b.pcb (carried b.inf) came ≡ Perhaps b.pcb (carried b.inf)
    → Follows (left (Expecting l.card) b.pcb) l.card (card_turn l.card (card_takes came)) l.terminal.number
    → Results (said_of m (to_card b)) (card_makes before l (card_turn l.card (card_takes came))) (shown m (to_card b))
card_gets b came before l m here nad from ends allowed stale_allowed heard follows =
    let (sent, busy_now, card, awaits, no_abort) = ends in
    let now = shows_to_card b l m nad from sent in
    let m1 = after_terminal m b in
    subst (λ m2. Results (said_of m (to_card b)) (card_makes before l (card_turn l.card (card_takes came))) m2)
    (sym (shown_to_card m b here nad from.nad)) (
      now.said,
      (
        refl,
        inr refl,
        card_takes_block (card_turn l.card (card_takes came)) (left (Expecting l.card) b.pcb) before l m1
            (card_takes_ok l.card came awaits) busy_now now.terminal follows (own_quiet m.terminal.«end».side) refl
            (subst (λ h. CardLeaves (Awaiting l.terminal) (IsBegun l.terminal.waits) (IsExchange l.terminal.waits)
            (listens (corrected (passed_over m.card) (may_refuse b.pcb)) h) (card_turn l.card (card_takes came))) heard
            (knows_takes l.terminal l.card m.card b came (may_refuse b.pcb) awaits allowed stale_allowed card)),
      ),
    )

terminal_gets : (b : Parts) (came : Came) (before l : Link) (m : Monitor) → m.last ≡ Here
    → (m.nad ≡ None) ⊎ (m.nad ≡ Some 0)
    → FromCard l.terminal l.card b → ToTerminal l.terminal l.card b → Ends (to_terminal b) l.terminal l.card m
    → tap_heard b.pcb (carried b.inf) came ≡ Perhaps b.pcb (carried b.inf) → IsPlainCame came
    → (IsOwnWaits l.terminal.waits → l.card.expected ≡ l.terminal.number → AsksAgain l.terminal.number came)
    → TFollows l.terminal b.pcb (terminal_turn l.terminal (takes came)) l.card.number
    → Results (said_of m (to_terminal b)) (terminal_makes before l (terminal_turn l.terminal (takes came)))
    (shown m (to_terminal b))
terminal_gets b came before l m here nad from to ends heard plain asks follows =
    let (sent, awaits, fits, busy_now, hush, no_abort) = ends in
    let now = shows_to_terminal b l m nad from to ends in
    let m1 = after_card m b in
    subst (λ m2. Results (said_of m (to_terminal b)) (terminal_makes before l (terminal_turn l.terminal (takes came)))
    m2)
    (sym (shown_to_terminal m b here nad from.nad)) (
      now.said,
      (
        refl,
        inr refl,
        terminal_takes (terminal_turn l.terminal (takes came)) b.pcb before l m1
            (terminal_takes_ok l.terminal came busy_now)
            awaits now.card (own_quiet m.card.«end».side) follows (inl refl)
            (subst (λ h. Leaves (Expecting l.card) (hears_it m1.terminal h) (terminal_turn l.terminal (takes came)))
            heard
            (any_takes (Expecting l.card) l.terminal m1.terminal b.pcb (carried b.inf) came plain asks now.terminal)),
      ),
    )

-- nothing came to the terminal
goes_quiet : (before l : Link) (m : Monitor) → m.last ≡ Here → (m.nad ≡ None) ⊎ (m.nad ≡ Some 0)
    → IsBusy l.terminal.waits → AwaitsBlock l.card.waits
    → Knows l.terminal l.card (listens (corrected (passed_over m.card) true) (heard_in_time m.card.heard))
    → Leaves (Expecting l.card) (waited m.terminal) (terminal_turn l.terminal (takes quiet))
    → Still (terminal_makes before l (terminal_turn l.terminal (takes quiet))) (quiet_after m)
goes_quiet before l m here nad busy_now awaits card leaves =
    subst (Still (terminal_makes before l (terminal_turn l.terminal (takes quiet)))) (sym (quiet_now m here)) (
      refl,
      nad,
      terminal_quiets (terminal_turn l.terminal (takes quiet)) before l (after_quiet m)
          (terminal_takes_ok l.terminal quiet busy_now) awaits card
          (terminal_awaits l.terminal quiet tt, terminal_begun l.terminal quiet (λ h. h), terminal_quiet l.terminal)
          (inr (still_doubtful (is_turn m.terminal.heard) m.terminal.doubt)) leaves,
    )

-- ---- every event

abbrev AllKnown : UnderWay → TerminalState → CardState → Type 0
AllKnown u t c = Known u t c × CardKnown u t c

delivering : (u : UnderWay) (l : Link) (m : Monitor) → m.last ≡ Here → (m.nad ≡ None) ⊎ (m.nad ≡ Some 0)
    → Known u l.terminal l.card → CardKnown u l.terminal l.card → Ends u l.terminal l.card m → EndsOf l m
    → Results (said_of m u) (delivered tables l u) (shown m u)
delivering nothing l m here nad from to ends now = (tt, (here, nad, now))
delivering (to_card b) l m here nad from to ends now =
    card_gets b (got b.pcb b.inf) l l m here nad from ends (allowed_got l.terminal l.card b ends.4 to)
    (stale_got l.terminal l.card b ends.4 to) refl (follows_got l.card b.pcb b.inf l.terminal.number)
delivering (to_terminal b) l m here nad from to ends now =
    terminal_gets b (got b.pcb b.inf) l l m here nad from to ends refl ends.5 (from.asks b.inf)
    (follows_block l.terminal b.pcb b.inf l.card.number)

stale_damaged : (t : TerminalState) (c : CardState) (b : Parts) → ToCard t c b → IsAfterQuiet b.pcb
    → CAllowed t c b.pcb damaged
stale_damaged t c b to a =
    record { allowed = allowed_damaged t c b to; quiet_now = a; ready = λ now e taken. tt; request = λ asked is. tt }

stale_invalid : (t : TerminalState) (c : CardState) (b : Parts) → ToCard t c b → IsAfterQuiet b.pcb
    → CAllowed t c b.pcb invalid
stale_invalid t c b to a =
    record { allowed = allowed_invalid t c b to; quiet_now = a; ready = λ now e taken. tt; request = λ asked is. tt }

damaging : (u : UnderWay) (l : Link) (m : Monitor) → m.last ≡ Here → (m.nad ≡ None) ⊎ (m.nad ≡ Some 0)
    → Known u l.terminal l.card → CardKnown u l.terminal l.card → Ends u l.terminal l.card m → EndsOf l m
    → Results (said_of m u) (arrives tables l u damaged) (shown m u)
damaging nothing l m here nad from to ends now = (tt, (here, nad, now))
damaging (to_card b) l m here nad from to ends now =
    card_gets b damaged l (record l { disturbed = l.disturbed + 1 }) m here nad from ends
    (allowed_damaged l.terminal l.card b to) (stale_damaged l.terminal l.card b to) refl
    (follows_left l.card b.pcb (card_turn l.card (card_takes damaged)) l.terminal.number
    (card_expects l.card damaged tt))
damaging (to_terminal b) l m here nad from to ends now =
    terminal_gets b damaged l (record l { disturbed = l.disturbed + 1 }) m here nad from to ends refl tt (λ own h. tt)
    (follows_other l.terminal b.pcb damaged l.card.number tt (λ h. h))

spoiling : (u : UnderWay) (l : Link) (m : Monitor) → m.last ≡ Here → (m.nad ≡ None) ⊎ (m.nad ≡ Some 0)
    → Known u l.terminal l.card → CardKnown u l.terminal l.card → Ends u l.terminal l.card m → EndsOf l m
    → Results (said_of m u) (arrives tables l u invalid) (shown m u)
spoiling nothing l m here nad from to ends now = (tt, (here, nad, now))
spoiling (to_card b) l m here nad from to ends now =
    card_gets b invalid l (record l { disturbed = l.disturbed + 1 }) m here nad from ends
    (allowed_invalid l.terminal l.card b to) (stale_invalid l.terminal l.card b to) refl
    (follows_left l.card b.pcb (card_turn l.card (card_takes invalid)) l.terminal.number
    (card_expects l.card invalid tt))
spoiling (to_terminal b) l m here nad from to ends now =
    terminal_gets b invalid l (record l { disturbed = l.disturbed + 1 }) m here nad from to ends refl tt (λ own h. tt)
    (follows_other l.terminal b.pcb invalid l.card.number tt (λ h. h))

-- a block that was sent to the card was seen, and lost
lost_quiet : (t : TerminalState) (c : CardState) (w : Watched) (b : Parts) (refused : Bool) → AwaitsBlock c.waits
    → ToCard t c b → KnowsFor t c w b.pcb
    → Knows t c (listens (corrected (passed_over
    (listens (corrected (passed_over w) refused) (Perhaps b.pcb (carried b.inf)))) true) Broken)
lost_quiet t c w b refused awaits to (inl (fits, hush)) =
    subst (λ (v : Watched). Knows t c (listens (corrected (passed_over
    (listens (corrected v refused) (Perhaps b.pcb (carried b.inf)))) true) Broken)) (sym (not_passed w hush))
    (inr (
      stale_hearing (Awaiting t) (IsBegun t.waits) (IsExchange t.waits) c _ Broken awaits
          (any_silent (Awaiting t) (IsBegun t.waits) (IsExchange t.waits) c (corrected w refused) b.pcb (carried b.inf)
          awaits
          to.due (card_corrected t c w refused awaits fits)),
      refl,
      tt,
    ))
lost_quiet t c w b refused awaits to (inr (stale, free, hush, a)) =
    subst (λ (v : Watched). Knows t c (listens (corrected (passed_over
    (listens (corrected v refused) (Perhaps b.pcb (carried b.inf)))) true) Broken)) (sym (not_passed w hush))
    (inr (
      stale_hearing (Awaiting t) (IsBegun t.waits) (IsExchange t.waits) c _ Broken awaits
          (stale_again (Awaiting t) (IsBegun t.waits) (IsExchange t.waits) c (corrected w refused) b.pcb (carried b.inf)
          awaits a
          to.due (subst (CStale t c) (sym (plain_corrected w refused)) stale)),
      refl,
      tt,
    ))

losing : (u : UnderWay) (missed : Bool) (l : Link) (m : Monitor) → m.last ≡ Here → (m.nad ≡ None) ⊎ (m.nad ≡ Some 0)
    → Known u l.terminal l.card → CardKnown u l.terminal l.card → Ends u l.terminal l.card m → EndsOf l m
    → Results (said_of_loss m u missed) (lost tables l u) (after_loss m u missed)
losing nothing missed l m here nad from to ends now = (tt, (here, nad, now))
losing (to_card b) true l m here nad from to (sent, busy_now, card, awaits, plain) now = (
  tt,
  goes_quiet l (record l { disturbed = l.disturbed + 1 }) m here nad busy_now awaits
      (knows_quiet l.terminal l.card m.card awaits (forget l.terminal l.card m.card b.pcb card))
      (stale_quiet (Expecting l.card) l.terminal (waited m.terminal) (opens m.terminal sent.doubtful)
      (sent.missed from.lags)),
)
losing (to_card b) false l m here nad from to (sent, busy_now, card, awaits, plain) now =
    let shown_now = shows_to_card b l m nad from sent in
    let m1 = after_terminal m b in (
      shown_now.said,
      subst (λ m2. Still (lost tables l (to_card b)) (quiet_after m2)) (sym (shown_to_card m b here nad from.nad))
          (goes_quiet l (record l { disturbed = l.disturbed + 1 }) m1 refl (inr refl) busy_now awaits
          (lost_quiet l.terminal l.card m.card b (may_refuse b.pcb) awaits to card)
          (any_takes (Expecting l.card) l.terminal (waited m1.terminal) b.pcb (carried b.inf) quiet tt (λ own h. tt)
          (any_waited (Expecting l.card) l.terminal m1.terminal busy_now (own_quiet m.terminal.«end».side)
          (any_left (left (Expecting l.card) b.pcb) (Expecting l.card) l.terminal m1.terminal
          (stays_left (Expecting l.card) b.pcb l.terminal.number) shown_now.terminal)))),
    )
losing (to_terminal b) true l m here nad from to (sent, awaits, fits, busy_now, hush, plain) now = (
  tt,
  goes_quiet l (record l { disturbed = l.disturbed + 1 }) m here nad busy_now awaits
      (passed_quiet l.terminal l.card m.card awaits sent.turn (sent.missed to.own to.anew))
      (any_takes (Expecting l.card) l.terminal (waited m.terminal) b.pcb (carried b.inf) quiet tt (λ own h. tt)
      (any_waited (Expecting l.card) l.terminal m.terminal busy_now hush fits)),
)
losing (to_terminal b) false l m here nad from to ends now =
    let (sent, awaits, fits, busy_now, hush, plain) = ends in
    let shown_now = shows_to_terminal b l m nad from to ends in
    let m1 = after_card m b in (
      shown_now.said,
      subst (λ m2. Still (lost tables l (to_terminal b)) (quiet_after m2))
          (sym (shown_to_terminal m b here nad from.nad))
          (goes_quiet l (record l { disturbed = l.disturbed + 1 }) m1 refl (inr refl) busy_now awaits
          (knows_quiet l.terminal l.card m1.card awaits (inl (
            card_any_left _ (Awaiting l.terminal) _ (IsBegun l.terminal.waits)
                l.card m1.card (stays_card (Awaiting l.terminal) b.pcb l.card.number)
                (stays_anew (IsBegun l.terminal.waits) b.pcb) shown_now.card,
            own_quiet m.card.«end».side,
          )))
          (stale_quiet (Expecting l.card) l.terminal (waited m1.terminal) (opens m1.terminal (inl refl))
          (any_stale (Expecting l.card) l.terminal m1.terminal busy_now shown_now.terminal))),
    )

terminal_calls : (input : TerminalInput) (before l : Link) (m : Monitor) → IsCall input
    → m.last ≡ Here → (m.nad ≡ None) ⊎ (m.nad ≡ Some 0)
    → EndsOf l m → EndsOf before m
    → Results [] (terminal_makes before l (terminal_turn l.terminal input)) m
terminal_calls input before l m call here nad ends ends_before = (
  tt,
  (
    here,
    nad,
    terminal_called (terminal_turn l.terminal input) before l m (call_awaits l.terminal input call)
        (λ ok. let now = at_rest_turn l.under_way l.terminal l.card m ends (calls_at_rest l.terminal input call ok)
        (dead_calls l.terminal input call ok) in (
          now.0,
          now.1,
          now.2,
          now.4,
          begun_calls l.terminal input call ok,
          any_calls (Expecting l.card) l.terminal m.terminal input call now.3,
        )) ends_before,
  ),
)

card_calls : (input : CardInput) (before l : Link) (m : Monitor) → IsCardCall input
    → m.last ≡ Here → (m.nad ≡ None) ⊎ (m.nad ≡ Some 0)
    → EndsOf l m → EndsOf before m
    → Results [] (card_makes before l (card_turn l.card input)) m
card_calls input before l m call here nad ends ends_before = (
  tt,
  (
    here,
    nad,
    card_called (card_turn l.card input) before l m
        (λ ok. let now = host_turn l.under_way l.terminal l.card m ends (calls_at_turn l.card input call ok) in (
          now.0,
          now.2,
          now.3,
          now.4,
          card_any_calls (Awaiting l.terminal) (IsBegun l.terminal.waits) (IsExchange l.terminal.waits) l.card m.card
              input call
              now.1,
        ))
        (follows_same l.card (card_turn l.card input) l.terminal.number (call_expects l.card input call)) ends_before,
  ),
)

record Goes (kt kc : Limits) (l : Link) (m : Monitor) : Type 0 where
  good : Good ⊥ kt kc l
  last : m.last ≡ Here
  nad : (m.nad ≡ None) ⊎ (m.nad ≡ Some 0)
  ends : EndsOf l m

each_event : (e : Event) (missed : Bool) (l : Link) (m : Monitor) → m.last ≡ Here → (m.nad ≡ None) ⊎ (m.nad ≡ Some 0)
    → Known l.under_way l.terminal l.card → CardKnown l.under_way l.terminal l.card → EndsOf l m
    → Results (said_at m l.under_way e missed) (happens tables l e) (after_event m l.under_way e missed)
each_event delivers missed l m here nad known_now to ends = delivering l.under_way l m here nad known_now to ends ends
each_event damages missed l m here nad known_now to ends = damaging l.under_way l m here nad known_now to ends ends
each_event spoils missed l m here nad known_now to ends = spoiling l.under_way l m here nad known_now to ends ends
each_event loses missed l m here nad known_now to ends = losing l.under_way missed l m here nad known_now to ends ends
each_event (transmits command) missed l m here nad known_now to ends =
    terminal_calls (transmit command) l
    (record l { exchanges = unanswered command ∷ l.exchanges; disturbed = 0; failed = 0 }) m tt here nad ends ends
each_event (asks_ifsd n) missed l m here nad known_now to ends =
    terminal_calls (ask_ifs n) l (record l { disturbed = 0; failed = 0 }) m tt here nad ends ends
each_event (host_replies octets) missed l m here nad known_now to ends =
    card_calls (replies octets) l (record l { services = with_reply l.services octets }) m tt here nad ends ends
each_event (host_asks_time n) missed l m here nad known_now to ends =
    card_calls (more_time n) l l m tt here nad ends ends
each_event (host_asks_ifsc n) missed l m here nad known_now to ends =
    card_calls (card_ask_ifs n) l l m tt here nad ends ends

both : (xs ys : List Said) → AllPass xs → AllPass ys → AllPass (xs ++ ys)
both [] ys h k = k
both (x ∷ xs) ys h k = (h.0, both xs ys h.1 k)

all_events : {kt kc : Limits} (trace : List Traced) (l : Link) (m : Monitor) → Goes kt kc l m
    → AllPass (all_said tables trace l m)
all_events [] l m goes = tt
all_events (x ∷ xs) l m goes =
    let after = each_event x.event x.missed l m goes.last goes.nad (known l goes.good) (card_known l goes.good)
    goes.ends in
    both (said_at m l.under_way x.event x.missed) _ after.0
    (all_events xs (happens tables l x.event) (after_event m l.under_way x.event x.missed) (record {
      good = kept x.event (λ none. absurd none) l goes.good;
      last = after.1.0;
      nad = after.1.1;
      ends = after.1.2;
    }))

pub no_trace_accuses : NoTraceAccuses tables
no_trace_accuses terminal_limits card_limits ifsc trace =
    all_events trace (link_with terminal_limits card_limits ifsc) (new_monitor ifsc) (record {
      good = any_good terminal_limits card_limits ifsc [];
      last = refl;
      nad = inl refl;
      ends = (
        inl (terminal_starts ⊥ ifsc terminal_limits),
        inl ((λ b. b), tt, inl refl, inl (inl (card_starts ifsc card_limits), tt)),
      );
    })
