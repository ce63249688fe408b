-- The terminal of `t1_core`, where the tap misses blocks.
use Rattle.std.proofs.Common.{inl, inr, true≢false, ◌≡◌, ◌⊎◌, ℕ, ◌+◌, ◌≤◌, List, [], ◌∷◌, ◌++◌, length, take, drop, refl, sym, ap, ◌∙◌, subst, arith}
use Rattle.std.specs.Prelude.{Bool, true, false, not, ◌&&◌, max, nat_le, nat_lt, Some, None, Ok, Err}
use Rattle.std.proofs.lemmas.Bool.Decides.{nat_tests}
use Rattle.block_core.specs.Block.{Parts, other}
use Rattle.block_core.specs.declared.pcb.Number.{Number}
use Rattle.block_core.specs.declared.pcb.Number.TheVariants.{Zero, One}
use Rattle.block_core.specs.declared.pcb.Fault.{Fault}
use Rattle.block_core.specs.declared.pcb.Fault.TheVariants.{Free, Redundancy, Other}
use Rattle.block_core.specs.declared.pcb.S.TheVariants.{Resynch, Ifs, Abort, Wtx}
use Rattle.block_core.specs.declared.pcb.Pcb.{Pcb}
use Rattle.block_core.specs.declared.pcb.Pcb.TheVariants.{Info, Ready, Request, Response}
use Rattle.block_core.specs.declared.side.Side.TheVariants.{Terminal}
use Rattle.t1_core.specs.declared.turns.TerminalTurn.{TerminalTurn}
use Rattle.t1_core.specs.declared.turns.TerminalTurn.TheVariants.{Send, Answered, IfsSet, GivenUp, Dead}
use Rattle.t1_core.specs.Came.{Came, got, damaged, invalid, quiet, same, carried, info, ready, request, response}
use Rattle.t1_core.specs.Terminal.{TerminalState, TerminalStep, Waits, idle, ack, answer, more, ifs, resynch, dead, most_repeats, fails, joins, sends_next, in_exchange, in_ack, in_answer, in_more, is_more, waiting}
use Rattle.judge_core.specs.declared.end.Pending.{Pending}
use Rattle.judge_core.specs.declared.end.Pending.TheVariants.{Settled, Chain, Last}
use Rattle.judge_core.specs.declared.end.Asked.TheVariants.{Size, Anew}
use Rattle.judge_core.specs.declared.end.Owed.{Owed}
use Rattle.judge_core.specs.declared.end.Owed.TheVariants.{NewMessage, NextBlock, Acknowledgment, SameBlock, Correction, Refusal, SameRequest, Answer, EitherBlock, MessageOrCorrection, MessageOrRefusal, AcknowledgmentOrRefusal, AnyBlock}
use Rattle.judge_core.specs.declared.end.End.{End}
use Rattle.judge_core.specs.declared.end.After.{After}
use Rattle.judge_core.specs.declared.courses.Heard.{Heard}
use Rattle.judge_core.specs.declared.courses.Heard.TheVariants.{Beginning, Whole, Perhaps, Broken, Nothing}
use Rattle.judge_core.specs.declared.doubt.Doubt.{Doubt}
use Rattle.judge_core.specs.declared.doubt.Doubt.TheVariants.{Clear, Refusable, Open}
use Rattle.judge_core.specs.declared.monitor.Said.TheVariants.{Block}
use Rattle.judge_core.specs.declared.monitor.Watched.{Watched}
use Rattle.judge_core.specs.Courses.{got_whole, judges}
use Rattle.judge_core.specs.Doubts.{is_open, judged_of, overlooked, sent_openly, still_open, tried, tried_after}
use Rattle.judge_core.specs.Ends.{after, hears_unknown, no_row, repeatable, widest}
use Rattle.judge_core.specs.Followed.{last_after}
use Rattle.judge_core.specs.Missed.{IsWithin}
use Rattle.judge_core.specs.Monitored.{after_silence, known_after}
use Rattle.judge_core.specs.Sends.{is_next, pending_of, sends}
use Rattle.judge_core.specs.Tapped.{Passes}
use Rattle.judge_core.specs.Watched as plain
use Rattle.judge_core.proofs.Openly.{doubt_still, overlooked_unknown}
use Rattle.judge_core.proofs.Passes.{Course, NoAbort, first_of_both, is_then, passes, watched, with_test}
use Rattle.judge_core.proofs.SeenTerminals.{IsTalk, TalksIn, Told, fine_judged, fine_passes, plain_of, told_fits, told_passes}
use Rattle.judge_core.proofs.Terminals.{Fits, HasSizes, IsOwn, waits_of, last_of, IsAtRest, IsBusy, IsInfo, IsExact, Kind, Outcome, Said, Stale, TalkOf, at, beginning, chain, ends, further, is_unknown, silent, sizes_first, sizes_overlooked}

-- ---- what the monitor may know instead

abbrev pub is_settled : Pending → Bool
is_settled Settled = true
is_settled Chain = false
is_settled Last = false

-- the number that an unknown end expects, if its next I-block can tell it
abbrev pub Numbers : Number → End → Type 0
Numbers expected e = (e.before ≡ AnyBlock) ⊎ ((is_settled e.pending ≡ false) ⊎ (e.expects ≡ expected))

-- nothing is known of the end
pub record IsUnknown (t : TerminalState) (w : Watched) : Type 0 where
  pub base : End
  pub is : w.«end» ≡ record base { side = Terminal; known = false }
  pub room : t.ifsc ≤ base.room
  pub first : t.first_ifsc ≤ base.first_room
  pub numbers : Numbers t.expected base

-- it asked for a size, and nothing is known of it else, or it may send any block
pub record IsSizing (t : TerminalState) (size : ℕ) (w : Watched) : Type 0 where
  pub base : End
  pub is : w.«end» ≡ record base { side = Terminal; known = true; asked = Some (Size size) }
  pub room : t.ifsc ≤ base.room
  pub first : t.first_ifsc ≤ base.first_room
  pub kind : (base.before ≡ AnyBlock) ⊎ IsExact t.number t.expected base
  pub bound : (w.doubt ≡ Open) ⊎ ((base.before ≡ AnyBlock) × (base.tries ≤ t.failures + 1))

-- it asked for RESYNCH, and may send any block
pub record IsBeginning (t : TerminalState) (w : Watched) : Type 0 where
  pub base : End
  pub is : w.«end» ≡ record base { side = Terminal; known = true; asked = Some Anew }
  pub room : t.first_ifsc ≤ base.room
  pub first : t.first_ifsc ≤ base.first_room
  pub free : w.doubt ≡ Open

-- it may begin a message, and nothing is known of it else
pub record RestsUnknown (t : TerminalState) (w : Watched) : Type 0 where
  pub base : End
  pub owes : got_whole w.«end» w.heard ≡ Some (after (record base { side = Terminal }) AnyBlock)
  pub room : t.ifsc ≤ base.room
  pub first : t.first_ifsc ≤ base.first_room
  pub numbers : Numbers t.expected base
  pub sizes : HasSizes t.ifsc t.first_ifsc w.«end»
  pub was : (w.«end».known ≡ false)
      ⊎ ((size : ℕ) × (w.«end».known ≡ true) × (w.«end».asked ≡ Some (Size size)) × (w.«end».before ≡ AnyBlock))

-- ---- a block that passes

-- the monitor after a block that passes and leads to this end
abbrev pub kept_after : Watched → Parts → ℕ → End → Watched
kept_after w b n e = record w {
  «end» = tried_after w.doubt b.pcb e;
  heard = after_silence w.«end».side;
  last = record { items = last_after w.last.items b.pcb b.inf };
  number = n;
  doubt = still_open w.doubt b.pcb;
}

pub is_kept : (w : Watched) (b : Parts) (n : ℕ) (e : End) → Passes (Block (judged_of w b).verdict)
    → (judged_of w b).«end» ≡ e → known_after w b n ≡ kept_after w b n e
is_kept w b n e passed is =
    ap (λ (d : Doubt). record w {
      «end» = tried_after w.doubt b.pcb (judged_of w b).«end»;
      heard = after_silence w.«end».side;
      last = record { items = last_after w.last.items b.pcb b.inf };
      number = n;
      doubt = d;
    }) (doubt_still w.doubt b.pcb (judged_of w b).verdict passed)
    ∙ ap (kept_after w b n) is

-- on some course
pub on_course : (w : Watched) (b : Parts) (due : After) (e : End) → Course w.«end» w.heard due
    → sends due.«end» due.owed w.last.items b.pcb b.inf ≡ Ok e
    → Passes (Block (judged_of w b).verdict) × ((judged_of w b).«end» ≡ e)
on_course w b due e course is =
    let judged = judges w.«end» w.heard w.last.items b.pcb b.inf in
    let now = passes w.«end» w.heard w.last.items b.pcb b.inf due e course is in
    let one = fine_judged (is_open w.doubt) judged (sent_openly w b) w.heard now.0 in
    (subst (λ j. Passes (Block j.verdict)) (sym one) (fine_passes w.heard _ now.0), ap (λ j. j.«end») one ∙ now.1)

-- R-blocks and S-blocks show nothing of tries
pub not_tried : (d : Doubt) (e : End) → tried (is_open d && false) e ≡ e
not_tried Clear e = refl
not_tried Refusable e = refl
not_tried Open e = refl

-- as many tries as there may be
pub most : (free : Bool) (e : End) → tried free (record e { tries = most_repeats }) ≡ record e { tries = most_repeats }
most true e = refl
most false e = refl

-- ---- an end that owes any block

-- it owes any block on some course
pub record AnyCourse (ifsc first_ifsc : ℕ) (w : Watched) : Type 0 where
  pub due : End
  pub course : Course w.«end» w.heard (after (record due { side = Terminal }) AnyBlock)
  pub room : ifsc ≤ due.room
  pub first : first_ifsc ≤ due.first_room

-- an I-block: the end is known again, or it isn't
pub within_room : (n ifsc room largest : ℕ) → n ≤ ifsc → ifsc ≤ room → nat_le n (max room largest) ≡ true
within_room n ifsc room largest h k = grind (arith, nat_tests)

abbrev pub any_info_end : End → Number → Bool → Bool → End
any_info_end e number goes_on known = record e {
  side = Terminal;
  next = other number;
  pending = pending_of goes_on;
  asked = None;
  tries = most_repeats;
  row = no_row;
  known = known;
  aborted = false;
}

pub unsettled : (goes_on : Bool) → is_settled (pending_of goes_on) ≡ false
unsettled true = refl
unsettled false = refl

-- a known end expects the number that the terminal does
next_known : (before : Owed) (pending : Pending) (next : Bool) → is_next before pending next ≡ true
    → (before ≡ AnyBlock) ⊎ (is_settled pending ≡ false) → ⊥
next_known before pending next h (inl any) = true≢false (sym h ∙ ap (λ (b : Owed). is_next b pending next) any)
next_known before Settled next h (inr k) = true≢false k
next_known before Chain next h (inr k) = go before h
  where
    go : (b : Owed) → is_next b Chain next ≡ true → ⊥
    go NewMessage h = true≢false (sym h)
    go NextBlock h = true≢false (sym h)
    go Acknowledgment h = true≢false (sym h)
    go SameBlock h = true≢false (sym h)
    go Correction h = true≢false (sym h)
    go Refusal h = true≢false (sym h)
    go SameRequest h = true≢false (sym h)
    go (Answer s n) h = true≢false (sym h)
    go EitherBlock h = true≢false (sym h)
    go MessageOrCorrection h = true≢false (sym h)
    go MessageOrRefusal h = true≢false (sym h)
    go AcknowledgmentOrRefusal h = true≢false (sym h)
    go AnyBlock h = true≢false (sym h)
next_known before Last next h (inr k) = go before h
  where
    go : (b : Owed) → is_next b Last next ≡ true → ⊥
    go NewMessage h = true≢false (sym h)
    go NextBlock h = true≢false (sym h)
    go Acknowledgment h = true≢false (sym h)
    go SameBlock h = true≢false (sym h)
    go Correction h = true≢false (sym h)
    go Refusal h = true≢false (sym h)
    go SameRequest h = true≢false (sym h)
    go (Answer s n) h = true≢false (sym h)
    go EitherBlock h = true≢false (sym h)
    go MessageOrCorrection h = true≢false (sym h)
    go MessageOrRefusal h = true≢false (sym h)
    go AcknowledgmentOrRefusal h = true≢false (sym h)
    go AnyBlock h = true≢false (sym h)

-- whether the I-block under way has M=1
abbrev pub goes_on_of : Kind → Bool
goes_on_of (chain field rest) = true
goes_on_of (ends field) = false
goes_on_of (further joined last) = false

abbrev known_info : (t : TerminalState) (e : End) → t.ifsc ≤ e.room → t.first_ifsc ≤ e.first_room → TalkOf ⊥ t
known_info t e room first = record {
  spare = record {
    before = e.before;
    room = e.room;
    first = e.first_room;
    largest = e.largest_room;
    room_ok = room;
    first_ok = first;
  };
  row = no_row;
  tries = most_repeats;
  few = omega arith;
  fewer = omega arith;
  enough = λ p. absurd p;
}

pub numbers_of : (before : Owed) (pending : Pending) (next : Bool) (expects expected : Number)
    → (before ≡ AnyBlock) ⊎ ((is_settled pending ≡ false) ⊎ (expects ≡ expected))
    → is_next before pending next ≡ true → expects ≡ expected
numbers_of before pending next expects expected (inl any) h = absurd (next_known before pending next h (inl any))
numbers_of before pending next expects expected (inr (inl k)) h = absurd (next_known before pending next h (inr k))
numbers_of before pending next expects expected (inr (inr is)) h = is

-- ---- an end of which nothing is known takes what came

-- what an end seems to hear: what came, or the block that was sent
abbrev pub tap_heard : Pcb → ℕ → Came → Heard
tap_heard sent octet (got pcb inf) = Perhaps pcb (carried inf)
tap_heard sent octet damaged = Perhaps sent octet
tap_heard sent octet invalid = Perhaps sent octet
tap_heard sent octet quiet = Broken

abbrev pub IsTapped : Heard → Type 0
IsTapped Beginning = ⊥
IsTapped (Whole pcb octet) = ⊥
IsTapped (Perhaps pcb octet) = Unit {0}
IsTapped Broken = Unit {0}
IsTapped Nothing = ⊥

pub is_tapped : (sent : Pcb) (octet : ℕ) (came : Came) → IsTapped (tap_heard sent octet came)
is_tapped sent octet (got pcb inf) = tt
is_tapped sent octet damaged = tt
is_tapped sent octet invalid = tt
is_tapped sent octet quiet = tt

abbrev pub untaken_end : End → Heard → End
untaken_end e (Perhaps pcb octet) = (hears_unknown e pcb).«end»
untaken_end e heard = e

course_by : (e : End) (pcb : Pcb) (octet : ℕ)
    → Course (record e { side = Terminal; known = false }) (Perhaps pcb octet)
    (after (record (hears_unknown (record e { known = false }) pcb).«end» { side = Terminal }) AnyBlock)
course_by e (Info number goes_on) octet = inl refl
course_by e (Ready number fault) octet = inl refl
course_by e (Request s) octet = inl refl
course_by e (Response s) octet = inl refl

pub course_unknown : (e : End) (heard : Heard) → IsTapped heard
    → Course (record e { side = Terminal; known = false }) heard
    (after (record (untaken_end (record e { known = false }) heard) { side = Terminal }) AnyBlock)
course_unknown e Beginning h = absurd h
course_unknown e (Whole pcb octet) h = absurd h
course_unknown e (Perhaps pcb octet) h = course_by e pcb octet
course_unknown e Broken h = inr refl
course_unknown e Nothing h = absurd h

untaken_by : (e : End) (pcb : Pcb) → ((hears_unknown e pcb).«end».room ≡ e.room)
    × ((hears_unknown e pcb).«end».first_room ≡ e.first_room)
untaken_by e (Info number goes_on) = (refl, refl)
untaken_by e (Ready number fault) = (refl, refl)
untaken_by e (Request s) = (refl, refl)
untaken_by e (Response s) = (refl, refl)

pub untaken_sizes : (e : End) (heard : Heard) → ((untaken_end e heard).room ≡ e.room)
    × ((untaken_end e heard).first_room ≡ e.first_room)
untaken_sizes e Beginning = (refl, refl)
untaken_sizes e (Whole pcb octet) = (refl, refl)
untaken_sizes e (Perhaps pcb octet) = untaken_by e pcb
untaken_sizes e Broken = (refl, refl)
untaken_sizes e Nothing = (refl, refl)

abbrev pub hears_it : Watched → Heard → Watched
hears_it w heard = record w { heard = heard }

abbrev pub any_course : (t : TerminalState) (w : Watched) (heard : Heard) → IsTapped heard → IsUnknown t w
    → AnyCourse t.ifsc t.first_ifsc (hears_it w heard)
any_course t w heard tapped u =
    let due = untaken_end (record u.base { known = false }) heard in
    let sizes = untaken_sizes (record u.base { known = false }) heard in
    record {
      due = due;
      course = subst (λ e. Course e heard (after (record due { side = Terminal }) AnyBlock)) (sym u.is)
          (course_unknown u.base heard tapped);
      room = subst (λ n. t.ifsc ≤ n) (sym sizes.0) u.room;
      first = subst (λ n. t.first_ifsc ≤ n) (sym sizes.1) u.first;
    }

abbrev pub any_first : (ifsc first_ifsc : ℕ) (w : Watched) → AnyCourse ifsc first_ifsc w → AnyCourse 0 first_ifsc w
any_first ifsc first_ifsc w a = record { due = a.due; course = a.course; room = omega arith; first = a.first }

-- and if the tap misses its block
pub unknown_sizes : (t : TerminalState) (w : Watched) (heard : Heard) → IsUnknown t w
    → HasSizes t.ifsc t.first_ifsc (overlooked w.«end» heard)
unknown_sizes t w heard u = sizes_overlooked t.ifsc t.first_ifsc w.«end» heard
    (subst (HasSizes t.ifsc t.first_ifsc) (sym u.is) (record { side = refl; room = u.room; first = u.first }))

pub stays_unknown : (t : TerminalState) (w : Watched) (heard : Heard) → IsUnknown t w
    → (overlooked w.«end» heard).known ≡ false
stays_unknown t w heard u = overlooked_unknown w.«end» heard (ap (λ (e : End). e.known) u.is)

pub talk_busy : (waits : Waits) → IsTalk waits → IsBusy waits
talk_busy idle h = absurd h
talk_busy (ack field rest) h = tt
talk_busy (answer field) h = tt
talk_busy (more joined) h = tt
talk_busy (ifs size) h = absurd h
talk_busy (resynch asked) h = absurd h
talk_busy dead h = absurd h

pub own_talk : (k : Kind) → IsTalk (waits_of k)
own_talk (chain field rest) = tt
own_talk (ends field) = tt
own_talk (further joined last) = tt

pub waiting_talk : (field rest : List ℕ) → IsTalk (waiting field rest)
waiting_talk field [] = tt
waiting_talk field (octet ∷ rest) = tt

-- what a terminal may take, but for an R-block
abbrev pub IsPlainCame : Came → Type 0
IsPlainCame (got pcb inf) = NoAbort pcb
IsPlainCame damaged = Unit {0}
IsPlainCame invalid = Unit {0}
IsPlainCame quiet = Unit {0}

size_room : (t : TerminalState) (w : Watched) (n : ℕ) → IsUnknown t w
    → HasSizes n t.first_ifsc (overlooked w.«end» (Perhaps (Request Ifs) n))
size_room t w n u = subst (λ (e : End). HasSizes n t.first_ifsc (overlooked e (Perhaps (Request Ifs) n))) (sym u.is)
    (record { side = refl; room = omega arith; first = u.first })

-- an I-block of the answer
pub same_is : (x y : Number) → same x y ≡ true → x ≡ y
same_is Zero Zero h = refl
same_is One One h = refl
same_is Zero One h = absurd (true≢false (sym h))
same_is One Zero h = absurd (true≢false (sym h))

pub again : (t t1 : TerminalState) (w : Watched) → IsUnknown t w → t1.ifsc ≡ t.ifsc → t1.first_ifsc ≡ t.first_ifsc
    → t1.expected ≡ t.expected → IsUnknown t1 w
again t t1 w u i f x = record {
  base = u.base;
  is = u.is;
  room = subst (λ n. n ≤ u.base.room) (sym i) u.room;
  first = subst (λ n. n ≤ u.base.first_room) (sym f) u.first;
  numbers = subst (λ n. Numbers n u.base) (sym x) u.numbers;
}

-- the I-block under way was never seen
pub record IsUntold (Q : Number → Type 0) (t : TerminalState) (w : Watched) : Type 0 where
  pub base : End
  pub is : w.«end» ≡ record base { side = Terminal; known = true; asked = None; next = t.number; expects = t.expected }
  pub room : t.ifsc ≤ base.room
  pub first : t.first_ifsc ≤ base.first_room
  pub free : w.doubt ≡ Open
  pub lags : Q t.number

abbrev pub Loose : (Number → Type 0) → TerminalState → Waits → Watched → Type 0
Loose Q t idle w = RestsUnknown t w
Loose Q t (ack field rest) w = IsUntold Q t w ⊎ IsUnknown t w
Loose Q t (answer field) w = IsUntold Q t w ⊎ IsUnknown t w
Loose Q t (more joined) w = IsUnknown t w
Loose Q t (ifs size) w = IsSizing t size w
Loose Q t (resynch asked) w = IsBeginning t w
Loose Q t dead w = Unit {0}

-- the watched end goes with the terminal's state
abbrev pub FitsAny : (Number → Type 0) → TerminalState → Waits → Watched → Type 0
FitsAny Q t waits w = Fits ⊥ t waits (plain_of w) ⊎ Loose Q t waits w

-- what is known of the card after this block
abbrev pub left : (Number → Type 0) → Pcb → Number → Type 0
left Q (Info number goes_on) = λ n. ⊥
left Q (Ready number fault) = Q
left Q (Request Resynch) = λ n. ⊥
left Q (Request Ifs) = Q
left Q (Request Abort) = Q
left Q (Request Wtx) = Q
left Q (Response s) = Q

-- ---- what a turn leaves

-- the monitor accuses nobody, and still fits
abbrev pub Tells : (Number → Type 0) → TerminalState → Watched → Parts → Type 0
Tells Q t w b = TalksIn b.pcb t.waits → IsWithin t.ifsc b.pcb b.inf → (n : ℕ)
    → Passes (Block (judged_of w b).verdict) × FitsAny (left Q b.pcb) t t.waits (known_after w b n)

abbrev pub Says : (Number → Type 0) → Watched → TerminalTurn → TerminalState → Type 0
Says Q w (Send b) t = Tells Q t w b × NoAbort b.pcb × IsBusy t.waits
    × ((IsInfo ⊥ b.pcb → Q t.number) → Stale ⊥ Q t t.waits (silent ⊥ (plain_of w)))
Says Q w Answered t = IsAtRest t.waits × FitsAny Q t t.waits w
Says Q w IfsSet t = IsAtRest t.waits × FitsAny Q t t.waits w
Says Q w GivenUp t = IsAtRest t.waits × FitsAny Q t t.waits w
Says Q w Dead t = IsAtRest t.waits × FitsAny Q t t.waits w

abbrev pub Leaves : (Number → Type 0) → Watched → TerminalStep → Type 0
Leaves Q w (Ok step) = Says Q w step.0 step.1
Leaves Q w (Err fault) = Unit {0}

-- where Q holds of a number, the card didn't take the I-block with it
module _ (Q : Number → Type 0) where
  -- ---- where the end is known

  says_known : (w : Watched) (turn : TerminalTurn) (t : TerminalState) → Said ⊥ Q (plain_of w) turn t → Says Q w turn t
  says_known w (Send b) t h =
      let told : Told t w b = record { fine = h.0; fits = h.3 } in (
        (λ talks within n. (told_passes t w b told, inl (told_fits t w b n h.2 talks told))),
        h.1,
        h.2,
        h.4 (λ none. none),
      )
  says_known w Answered t h = (h.0, inl h.1)
  says_known w IfsSet t h = (h.0, inl h.1)
  says_known w GivenUp t h = (h.0, inl h.1)
  says_known w Dead t h = (h.0, inl h.1)

  pub leaves_known : (w : Watched) (step : TerminalStep) → Outcome ⊥ Q (plain_of w) step → Leaves Q w step
  leaves_known w (Ok step) h = says_known w step.0 step.1 h
  leaves_known w (Err fault) h = tt

  pub tells : (t : TerminalState) (w : Watched) (b : Parts) (n : ℕ) (e : End) → Passes (Block (judged_of w b).verdict)
      → (judged_of w b).«end» ≡ e → FitsAny (left Q b.pcb) t t.waits (kept_after w b n e)
      → Passes (Block (judged_of w b).verdict) × FitsAny (left Q b.pcb) t t.waits (known_after w b n)
  tells t w b n e passed is fits = (
    passed,
    subst (FitsAny (left Q b.pcb) t t.waits) (sym (is_kept w b n e passed is)) fits,
  )

  pub unknown_fits : (t : TerminalState) (waits : Waits) (w : Watched) → IsTalk waits → IsUnknown t w
      → FitsAny Q t waits w
  unknown_fits t idle w h u = absurd h
  unknown_fits t (ack field rest) w h u = inr (inr u)
  unknown_fits t (answer field) w h u = inr (inr u)
  unknown_fits t (more joined) w h u = inr u
  unknown_fits t (ifs size) w h u = absurd h
  unknown_fits t (resynch asked) w h u = absurd h
  unknown_fits t dead w h u = absurd h

  -- an R-block says which number its sender expects
  pub any_ready : (t : TerminalState) (w : Watched) (fault : Fault) → IsTalk t.waits
      → AnyCourse t.ifsc t.first_ifsc w → Tells Q t w (ready t.expected fault)
  any_ready t w fault talk a talks within n =
      let e = record a.due { side = Terminal; expects = t.expected; asked = None; known = false } in
      let b = ready t.expected fault in
      let now = on_course w b (after (record a.due { side = Terminal }) AnyBlock) e a.course refl in
      tells t w b n e now.0 now.1 (unknown_fits t t.waits (kept_after w b n e) talk (record {
        base = record a.due { expects = t.expected; asked = None };
        is = not_tried w.doubt e;
        room = a.room;
        first = a.first;
        numbers = inr (inr refl);
      }))

  -- the response to a request for time or for a size
  any_time : (t : TerminalState) (w : Watched) (inf : List ℕ) → IsTalk t.waits
      → (a : AnyCourse t.ifsc t.first_ifsc w) → Numbers t.expected a.due → Tells Q t w (response Wtx inf)
  any_time t w inf talk a numbers talks within n =
      let e = record a.due { side = Terminal; asked = None; known = false; row = no_row } in
      let b = response Wtx inf in
      let now = on_course w b (after (record a.due { side = Terminal }) AnyBlock) e a.course refl in
      tells t w b n e now.0 now.1 (unknown_fits t t.waits (kept_after w b n e) talk (record {
        base = record a.due { asked = None; row = no_row };
        is = not_tried w.doubt e;
        room = a.room;
        first = a.first;
        numbers = numbers;
      }))

  any_size : (t : TerminalState) (w : Watched) (inf : List ℕ) → IsTalk t.waits → t.ifsc ≤ carried inf
      → (a : AnyCourse 0 t.first_ifsc w) → Numbers t.expected a.due → Tells Q t w (response Ifs inf)
  any_size t w inf talk room a numbers talks within n =
      let e = record a.due {
        side = Terminal;
        asked = None;
        known = false;
        room = carried inf;
        largest_room = repeatable a.due;
        row = no_row;
      } in
      let b = response Ifs inf in
      let now = on_course w b (after (record a.due { side = Terminal }) AnyBlock) e a.course refl in
      tells t w b n e now.0 now.1 (unknown_fits t t.waits (kept_after w b n e) talk (record {
        base = record a.due { asked = None; room = carried inf; largest_room = repeatable a.due; row = no_row };
        is = not_tried w.doubt e;
        room = room;
        first = a.first;
        numbers = numbers;
      }))

  -- RESYNCH
  pub any_resynch : (t : TerminalState) (w : Watched) → AnyCourse 0 t.first_ifsc w
      → Tells Q (record t { waits = resynch 1 }) w (request Resynch [])
  any_resynch t w a talks within n =
      let e = beginning ⊥ (widest a.due) a.due.first_room (widest a.due) 1 in
      let b = request Resynch [] in
      let now = on_course w b (after (record a.due { side = Terminal }) AnyBlock) e a.course refl in
      tells (record t { waits = resynch 1 }) w b n e now.0 now.1 (inl (
        widest a.due,
        a.due.first_room,
        widest a.due,
        w.last.items,
        1,
        omega arith,
        a.first,
        omega (arith, a.first),
        ap (λ (f : End). watched f Broken w.last.items) (not_tried w.doubt e),
      ))

  -- the I-block of this field, and what is then known
  pub info_fits : (t : TerminalState) (k : Kind) (w : Watched) (n : ℕ) (e : End) (known : Bool) → IsOwn ⊥ k
      → t.ifsc ≤ e.room → t.first_ifsc ≤ e.first_room → (known ≡ true → e.expects ≡ t.expected)
      → FitsAny (λ n. ⊥) (at ⊥ (waits_of k) t) (waits_of k)
      (kept_after w (info t.number (goes_on_of k) (last_of k)) n (any_info_end e t.number (goes_on_of k) known))
  info_fits t (ends field) w n e true own room first numbers = inl (
    known_info t e room first,
    ap (λ (f : End). watched f Broken field)
        (most (is_open w.doubt && true) (any_info_end e t.number false true)
        ∙ ap (λ (x : Number). record (any_info_end e t.number false true) { expects = x }) (numbers refl)),
  )
  info_fits t (chain field rest) w n e true own room first numbers = inl (
    known_info t e room first,
    ap (λ (f : End). watched f Broken field)
        (most (is_open w.doubt && true) (any_info_end e t.number true true)
        ∙ ap (λ (x : Number). record (any_info_end e t.number true true) { expects = x }) (numbers refl)),
  )
  info_fits t (ends field) w n e false own room first numbers = inr (inr (record {
    base = any_info_end e t.number false false;
    is = most (is_open w.doubt && true) (any_info_end e t.number false false);
    room = room;
    first = first;
    numbers = inr (inl refl);
  }))
  info_fits t (chain field rest) w n e false own room first numbers = inr (inr (record {
    base = any_info_end e t.number true false;
    is = most (is_open w.doubt && true) (any_info_end e t.number true false);
    room = room;
    first = first;
    numbers = inr (inl refl);
  }))
  info_fits t (further joined last) w n e known own room first numbers = absurd own

  any_info : (t : TerminalState) (k : Kind) (w : Watched) → IsOwn ⊥ k → (a : AnyCourse t.ifsc t.first_ifsc w)
      → Numbers t.expected a.due
      → Tells Q (at ⊥ (waits_of k) t) w (info t.number (goes_on_of k) (last_of k))
  any_info t k w own a numbers talks within n =
      let next = same t.number a.due.next && not a.due.aborted in
      let known = is_next a.due.before a.due.pending next in
      let e = any_info_end (record a.due { before = NewMessage }) t.number (goes_on_of k) known in
      let b = info t.number (goes_on_of k) (last_of k) in
      let now = on_course w b (after (record a.due { side = Terminal }) AnyBlock) e a.course
      (is_then (nat_le (length (last_of k)) (repeatable a.due)) _ _
      (within_room (length (last_of k)) t.ifsc a.due.room a.due.largest_room within a.room)) in
      tells (at ⊥ (waits_of k) t) w b n e now.0 now.1
      (info_fits t k w n (record a.due { before = NewMessage }) known own a.room a.first
      (numbers_of a.due.before a.due.pending next a.due.expects t.expected numbers))

  pub unknown_stale : (t : TerminalState) (waits : Waits) (w : plain.Watched) → IsTalk waits
      → HasSizes t.ifsc t.first_ifsc w.«end» → w.«end».known ≡ false → Stale ⊥ Q t waits w
  unknown_stale t idle w h sizes k = absurd h
  unknown_stale t (ack field rest) w h sizes k = (sizes, is_unknown k)
  unknown_stale t (answer field) w h sizes k = (sizes, is_unknown k)
  unknown_stale t (more joined) w h sizes k = (sizes, ([], is_unknown k))
  unknown_stale t (ifs size) w h sizes k = absurd h
  unknown_stale t (resynch asked) w h sizes k = absurd h
  unknown_stale t dead w h sizes k = absurd h

  -- a failure
  unknown_fails : (t : TerminalState) (w : Watched) (heard : Heard) (b : Parts) → IsTalk t.waits → IsTapped heard
      → IsUnknown t w → NoAbort b.pcb
      → Tells Q (record t { failures = t.failures + 1 }) (hears_it w heard) b
      → Leaves Q (hears_it w heard) (fails t b)
  unknown_fails t w heard b talk tapped u no_abort told =
      let sizes = unknown_sizes t w heard u in
      with_test (Leaves Q (hears_it w heard)) (nat_lt t.failures most_repeats) _ _
      (λ h. (
        told,
        no_abort,
        talk_busy t.waits talk,
        λ lags. unknown_stale (record t { failures = t.failures + 1 }) t.waits (silent ⊥ (plain_of (hears_it w heard)))
            talk sizes
            (stays_unknown t w heard u),
      ))
      (λ h. (
        any_resynch t (hears_it w heard) (any_first _ _ _ (any_course t w heard tapped u)),
        tt,
        tt,
        λ lags. sizes_first ⊥ _ _ _ sizes,
      ))

  unknown_errs : (t : TerminalState) (w : Watched) (heard : Heard) (fault : Fault) → IsTalk t.waits → IsTapped heard
      → IsUnknown t w
      → Leaves Q (hears_it w heard) (fails t (ready t.expected fault))
  unknown_errs t w heard fault talk tapped u = unknown_fails t w heard (ready t.expected fault) talk tapped u tt
      (any_ready (record t { failures = t.failures + 1 }) (hears_it w heard) fault talk (any_course t w heard tapped u))

  -- the I-block under way again
  unknown_repeats : (t : TerminalState) (k : Kind) (w : Watched) (number : Number) (fault : Fault) (octet : ℕ)
      → IsOwn ⊥ k → IsUnknown t w
      → Leaves Q (hears_it w (Perhaps (Ready number fault) octet))
      (fails (at ⊥ (waits_of k) t) (info t.number (goes_on_of k) (last_of k)))
  unknown_repeats t k w number fault octet own u =
      let heard = Perhaps (Ready number fault) octet in
      unknown_fails (at ⊥ (waits_of k) t) w heard (info t.number (goes_on_of k) (last_of k)) (own_talk k) tt
      (record { base = u.base; is = u.is; room = u.room; first = u.first; numbers = u.numbers }) tt
      (any_info (record t { failures = t.failures + 1 }) k (hears_it w heard) own (any_course t w heard tt u) u.numbers)

  -- the next I-block of a message
  pub any_begins : (t : TerminalState) (w : Watched) (field rest : List ℕ) → (a : AnyCourse t.ifsc t.first_ifsc w)
      → Numbers t.expected a.due
      → Tells Q (record t { waits = waiting field rest }) w (info t.number (is_more rest) field)
  any_begins t w field [] a numbers = any_info t (ends field) w tt a numbers
  any_begins t w field (octet ∷ rest) a numbers = any_info t (chain field (octet ∷ rest)) w tt a numbers

  unknown_next : (t : TerminalState) (w : Watched) (number : Number) (fault : Fault) (octet : ℕ) (octets : List ℕ)
      → IsUnknown t w
      → Leaves Q (hears_it w (Perhaps (Ready number fault) octet)) (sends_next (record t { failures = 0 }) octets)
  unknown_next t w number fault octet octets u =
      let heard = Perhaps (Ready number fault) octet in
      let field = take t.ifsc octets in
      let rest = drop t.ifsc octets in (
        any_begins (record t { failures = 0 }) (hears_it w heard) field rest (any_course t w heard tt u) u.numbers,
        tt,
        talk_busy (waiting field rest) (waiting_talk field rest),
        λ lags. unknown_stale (record t { failures = 0; waits = waiting field rest }) (waiting field rest)
            (silent ⊥ (plain_of (hears_it w heard))) (waiting_talk field rest) (unknown_sizes t w heard u)
            (stays_unknown t w heard u),
      )

  unknown_exchange : (t : TerminalState) (w : Watched) (sent : Pcb) (octet : ℕ) (came : Came) → IsTalk t.waits
      → IsPlainCame came → IsUnknown t w
      → Leaves Q (hears_it w (tap_heard sent octet came)) (in_exchange t came)
  unknown_exchange t w sent octet (got (Info number goes_on) inf) talk h u =
      unknown_errs t w (Perhaps (Info number goes_on) (carried inf)) Other talk tt u
  unknown_exchange t w sent octet (got (Ready number fault) inf) talk h u =
      unknown_errs t w (Perhaps (Ready number fault) (carried inf)) Other talk tt u
  unknown_exchange t w sent octet (got (Request Resynch) inf) talk h u =
      unknown_errs t w (Perhaps (Request Resynch) (carried inf)) Other talk tt u
  unknown_exchange t w sent octet (got (Request Ifs) inf) talk h u =
      let heard = Perhaps (Request Ifs) (carried inf) in
      let t1 = record t { ifsc = carried inf } in (
        any_size t1 (hears_it w heard) inf talk (omega arith) (any_first _ _ _ (any_course t w heard tt u)) u.numbers,
        tt,
        talk_busy t.waits talk,
        λ lags. unknown_stale t1 t.waits (silent ⊥ (plain_of (hears_it w heard))) talk (size_room t w (carried inf) u)
            (stays_unknown t w heard u),
      )
  unknown_exchange t w sent octet (got (Request Abort) inf) talk h u = absurd h
  unknown_exchange t w sent octet (got (Request Wtx) inf) talk h u =
      let heard = Perhaps (Request Wtx) (carried inf) in (
        any_time t (hears_it w heard) inf talk (any_course t w heard tt u) u.numbers,
        tt,
        talk_busy t.waits talk,
        λ lags. unknown_stale t t.waits (silent ⊥ (plain_of (hears_it w heard))) talk (unknown_sizes t w heard u)
            (stays_unknown t w heard u),
      )
  unknown_exchange t w sent octet (got (Response s) inf) talk h u =
      unknown_errs t w (Perhaps (Response s) (carried inf)) Other talk tt u
  unknown_exchange t w sent octet damaged talk h u = unknown_errs t w (Perhaps sent octet) Redundancy talk tt u
  unknown_exchange t w sent octet invalid talk h u = unknown_errs t w (Perhaps sent octet) Other talk tt u
  unknown_exchange t w sent octet quiet talk h u = unknown_errs t w Broken Free talk tt u

  unknown_joins : (t : TerminalState) (w : Watched) (number : Number) (goes_on : Bool) (octet : ℕ) (joined : List ℕ)
      → IsTalk t.waits → same number t.expected ≡ true → IsUnknown t w
      → Leaves Q (hears_it w (Perhaps (Info number goes_on) octet)) (joins t joined goes_on)
  unknown_joins t w number true octet joined talk in_order u =
      let heard = Perhaps (Info number true) octet in
      let t1 = record t { failures = 0; expected = other t.expected; waits = more joined } in (
        any_ready t1 (hears_it w heard) Free tt (any_course t w heard tt u),
        tt,
        tt,
        λ lags. unknown_stale t1 (more joined) (silent ⊥ (plain_of (hears_it w heard))) tt (unknown_sizes t w heard u)
            (stays_unknown t w heard u),
      )
  unknown_joins t w number false octet joined talk in_order u =
      let heard = Perhaps (Info number false) octet in (
        (λ b. b),
        inr (record {
          base = record u.base { known = false; expects = other number; pending = Settled; aborted = false };
          owes = subst (λ (e : End). got_whole e heard ≡ Some (after (record u.base {
            side = Terminal;
            known = false;
            expects = other number;
            pending = Settled;
            aborted = false;
          }) AnyBlock)) (sym u.is) refl;
          room = u.room;
          first = u.first;
          numbers = inr (inr (ap other (same_is number t.expected in_order)));
          sizes = subst (HasSizes t.ifsc t.first_ifsc) (sym u.is)
              (record { side = refl; room = u.room; first = u.first });
          was = inl (ap (λ (e : End). e.known) u.is);
        }),
      )

  pub unknown_ack : (t : TerminalState) (field rest : List ℕ) (w : Watched) (sent : Pcb) (octet : ℕ) (came : Came)
      → IsPlainCame came → IsUnknown t w
      → Leaves Q (hears_it w (tap_heard sent octet came)) (in_ack (at ⊥ (ack field rest) t) field rest came)
  unknown_ack t field rest w sent octet (got (Ready number fault) inf) h u =
      with_test (Leaves Q (hears_it w (Perhaps (Ready number fault) (carried inf)))) (same number t.number) _ _
      (λ k. unknown_repeats t (chain field rest) w number fault (carried inf) tt u)
      (λ k. unknown_next (record t { number = other t.number; waits = ack field rest }) w number fault (carried inf)
      rest
      (again t (record t { number = other t.number; waits = ack field rest }) w u refl refl refl))
  unknown_ack t field rest w sent octet (got (Info number goes_on) inf) h u =
      unknown_exchange (at ⊥ (ack field rest) t) w sent octet (got (Info number goes_on) inf) tt h
      (again t (at ⊥ (ack field rest) t) w u refl refl refl)
  unknown_ack t field rest w sent octet (got (Request s) inf) h u =
      unknown_exchange (at ⊥ (ack field rest) t) w sent octet (got (Request s) inf) tt h
      (again t (at ⊥ (ack field rest) t) w u refl refl refl)
  unknown_ack t field rest w sent octet (got (Response s) inf) h u =
      unknown_exchange (at ⊥ (ack field rest) t) w sent octet (got (Response s) inf) tt h
      (again t (at ⊥ (ack field rest) t) w u refl refl refl)
  unknown_ack t field rest w sent octet damaged h u =
      unknown_exchange (at ⊥ (ack field rest) t) w sent octet damaged tt tt
      (again t (at ⊥ (ack field rest) t) w u refl refl refl)
  unknown_ack t field rest w sent octet invalid h u =
      unknown_exchange (at ⊥ (ack field rest) t) w sent octet invalid tt tt
      (again t (at ⊥ (ack field rest) t) w u refl refl refl)
  unknown_ack t field rest w sent octet quiet h u = unknown_exchange (at ⊥ (ack field rest) t) w sent octet quiet tt tt
      (again t (at ⊥ (ack field rest) t) w u refl refl refl)

  pub unknown_answer : (t : TerminalState) (field : List ℕ) (w : Watched) (sent : Pcb) (octet : ℕ) (came : Came)
      → IsPlainCame came → IsUnknown t w
      → Leaves Q (hears_it w (tap_heard sent octet came)) (in_answer (at ⊥ (answer field) t) field came)
  unknown_answer t field w sent octet (got (Ready number fault) inf) h u =
      with_test (Leaves Q (hears_it w (Perhaps (Ready number fault) (carried inf)))) (same number t.number) _ _
      (λ k. unknown_repeats t (ends field) w number fault (carried inf) tt u)
      (λ k. unknown_errs (at ⊥ (answer field) t) w (Perhaps (Ready number fault) (carried inf)) Free tt tt
      (again t (at ⊥ (answer field) t) w u refl refl refl))
  unknown_answer t field w sent octet (got (Info number goes_on) inf) h u =
      let t1 = at ⊥ (answer field) t in
      let now = again t t1 w u refl refl refl in
      with_test (Leaves Q (hears_it w (Perhaps (Info number goes_on) (carried inf))))
      (same number t.expected && nat_le (length inf) t.limits.answer) _ _
      (λ k. unknown_joins (record t1 { number = other t.number }) w number goes_on (carried inf) inf tt
      (first_of_both _ _ k) (again t (record t1 { number = other t.number }) w u refl refl refl))
      (λ k. unknown_exchange t1 w sent octet (got (Info number goes_on) inf) tt h now)
  unknown_answer t field w sent octet (got (Request s) inf) h u =
      unknown_exchange (at ⊥ (answer field) t) w sent octet (got (Request s) inf) tt h
      (again t (at ⊥ (answer field) t) w u refl refl refl)
  unknown_answer t field w sent octet (got (Response s) inf) h u =
      unknown_exchange (at ⊥ (answer field) t) w sent octet (got (Response s) inf) tt h
      (again t (at ⊥ (answer field) t) w u refl refl refl)
  unknown_answer t field w sent octet damaged h u = unknown_exchange (at ⊥ (answer field) t) w sent octet damaged tt tt
      (again t (at ⊥ (answer field) t) w u refl refl refl)
  unknown_answer t field w sent octet invalid h u = unknown_exchange (at ⊥ (answer field) t) w sent octet invalid tt tt
      (again t (at ⊥ (answer field) t) w u refl refl refl)
  unknown_answer t field w sent octet quiet h u = unknown_exchange (at ⊥ (answer field) t) w sent octet quiet tt tt
      (again t (at ⊥ (answer field) t) w u refl refl refl)

  pub unknown_more : (t : TerminalState) (joined : List ℕ) (w : Watched) (sent : Pcb) (octet : ℕ) (came : Came)
      → IsPlainCame came → IsUnknown t w
      → Leaves Q (hears_it w (tap_heard sent octet came)) (in_more (at ⊥ (more joined) t) joined came)
  unknown_more t joined w sent octet (got (Ready number fault) inf) h u =
      unknown_errs (at ⊥ (more joined) t) w (Perhaps (Ready number fault) (carried inf)) Free tt tt
      (again t (at ⊥ (more joined) t) w u refl refl refl)
  unknown_more t joined w sent octet (got (Info number goes_on) inf) h u =
      let t1 = at ⊥ (more joined) t in
      let now = again t t1 w u refl refl refl in
      with_test (Leaves Q (hears_it w (Perhaps (Info number goes_on) (carried inf))))
      (same number t.expected && nat_le (length joined + length inf) t.limits.answer) _ _
      (λ k. unknown_joins t1 w number goes_on (carried inf) (joined ++ inf) tt (first_of_both _ _ k) now)
      (λ k. unknown_exchange t1 w sent octet (got (Info number goes_on) inf) tt h now)
  unknown_more t joined w sent octet (got (Request s) inf) h u =
      unknown_exchange (at ⊥ (more joined) t) w sent octet (got (Request s) inf) tt h
      (again t (at ⊥ (more joined) t) w u refl refl refl)
  unknown_more t joined w sent octet (got (Response s) inf) h u =
      unknown_exchange (at ⊥ (more joined) t) w sent octet (got (Response s) inf) tt h
      (again t (at ⊥ (more joined) t) w u refl refl refl)
  unknown_more t joined w sent octet damaged h u = unknown_exchange (at ⊥ (more joined) t) w sent octet damaged tt tt
      (again t (at ⊥ (more joined) t) w u refl refl refl)
  unknown_more t joined w sent octet invalid h u = unknown_exchange (at ⊥ (more joined) t) w sent octet invalid tt tt
      (again t (at ⊥ (more joined) t) w u refl refl refl)
  unknown_more t joined w sent octet quiet h u = unknown_exchange (at ⊥ (more joined) t) w sent octet quiet tt tt
      (again t (at ⊥ (more joined) t) w u refl refl refl)
