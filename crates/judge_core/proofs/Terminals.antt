-- The standard permits each block of the terminal of `t1_core`.
use Rattle.std.proofs.Common.{inl, inr, ◌≡◌, ◌⊎◌, ℕ, ◌+◌, ◌≤◌, List, [], ◌∷◌, ◌++◌, length, take, drop, refl, sym, ap, ◌∙◌, subst, arith}
use Rattle.std.specs.Prelude.{Bool, true, false, ◌&&◌, ◌==◌, if◌then◌else◌, max, min, Some, None, Ok, Err, nat_le, nat_lt, bytes_eq}
use Rattle.std.proofs.lemmas.Bool.Decides.{nat_tests}
use Rattle.block_core.specs.Block.{Parts, other}
use Rattle.block_core.specs.declared.pcb.Number.{Number}
use Rattle.block_core.specs.declared.pcb.Number.TheVariants.{Zero, One}
use Rattle.block_core.specs.declared.pcb.Fault.{Fault}
use Rattle.block_core.specs.declared.pcb.Fault.TheVariants.{Free, Redundancy, Other}
use Rattle.block_core.specs.declared.pcb.S.TheVariants.{Resynch, Ifs, Abort, Wtx}
use Rattle.block_core.specs.declared.pcb.Pcb.{Pcb}
use Rattle.block_core.specs.declared.pcb.Pcb.TheVariants.{Info, Ready, Request, Response}
use Rattle.t1_core.specs.declared.turns.TerminalTurn.{TerminalTurn}
use Rattle.t1_core.specs.declared.turns.TerminalTurn.TheVariants.{Send, Answered, IfsSet, GivenUp, Dead}
use Rattle.t1_core.specs.declared.turns.TerminalFault.TheVariants.{TooLong, Reserved}
use Rattle.t1_core.specs.Came.{Came, got, damaged, invalid, quiet, same, carried, info, ready, request, response}
use Rattle.t1_core.specs.Terminal.{no_failure, TerminalState, TerminalStep, TerminalInput, transmit, ask_ifs, takes, fails, joins, sends_next, in_exchange, in_ack, in_answer, in_more, in_ifs, in_resynch, terminal_came, terminal_turn, if_idle, is_reserved, is_more, Waits, idle, ack, answer, more, ifs, resynch, dead, waiting, most_repeats, most_resynchs}
use Rattle.block_core.specs.declared.side.Side.TheVariants.{Terminal}
use Rattle.judge_core.specs.declared.end.Pending.{Pending}
use Rattle.judge_core.specs.declared.end.Pending.TheVariants.{Settled, Chain, Last}
use Rattle.judge_core.specs.declared.end.Asked.TheVariants.{Size, Anew}
use Rattle.judge_core.specs.declared.end.Owed.{Owed}
use Rattle.judge_core.specs.declared.end.Owed.TheVariants.{AnyBlock, NewMessage, NextBlock, Acknowledgment, SameBlock, Correction, Refusal, SameRequest, Answer}
use Rattle.judge_core.specs.declared.end.Row.{Row}
use Rattle.judge_core.specs.declared.end.End.{End}
use Rattle.judge_core.specs.declared.end.After.{After}
use Rattle.judge_core.specs.declared.rule.Rule.TheVariants.{TooManyRepeats}
use Rattle.judge_core.specs.declared.courses.Heard.{Heard}
use Rattle.judge_core.specs.declared.courses.Heard.TheVariants.{Beginning, Whole, Perhaps, Broken, Nothing}
use Rattle.judge_core.specs.Ends.{hears_unknown, no_row, after, due_after, hears, hears_info, hears_ready, is_chain, repeatable}
use Rattle.judge_core.specs.Sends.{is_waiting, sends, sends_info as judge_info, one_more, is_pending, pending_of}
use Rattle.judge_core.specs.Courses.{got_whole}
use Rattle.judge_core.specs.Followed.{last_after}
use Rattle.judge_core.specs.Doubts.{overlooked, presumed, sized, sized_by}
use Rattle.judge_core.specs.Watched.{Watched, after_sending, hearing, judged_of}
use Rattle.judge_core.proofs.Passes.{Course, Fewer, Fine, Passes, View, certain, maybe, heard_at, whole_at, broken_at, asking_at, passes, NoAbort, Spare, watched, fits_size, settled_ready, is_then, is_else, first_of_both, same_self, same_next, same_other, differs_other, equal_self, bytes_self, with_test}

-- ---- the ends that go with the terminal's states

abbrev pub SpareOf : TerminalState → Type 0
SpareOf t = Spare t.ifsc t.first_ifsc

-- in an exchange, what is under way
pub data Kind : Type 0 where
  chain : (field rest : List ℕ) → Kind
  ends : (field : List ℕ) → Kind
  further : (joined last : List ℕ) → Kind

abbrev pub waits_of : Kind → Waits
waits_of (chain field rest) = ack field rest
waits_of (ends field) = answer field
waits_of (further joined last) = more joined

abbrev pub last_of : Kind → List ℕ
last_of (chain field rest) = field
last_of (ends field) = field
last_of (further joined last) = last

abbrev pub pending_with : Kind → Pending
pending_with (chain field rest) = Chain
pending_with (ends field) = Last
pending_with (further joined last) = Settled

abbrev pub next_with : Kind → Number → Number
next_with (chain field rest) number = other number
next_with (ends field) number = other number
next_with (further joined last) number = number

abbrev pub busy : Number → Number → Pending → Owed → ℕ → Row → ℕ → ℕ → ℕ → End
busy next expects pending before tries row room first largest = record {
  side = Terminal;
  next = next;
  expects = expects;
  pending = pending;
  asked = None;
  before = before;
  tries = tries;
  row = row;
  room = room;
  first_room = first;
  largest_room = largest;
  known = true;
  aborted = false;
}

-- ---- whose turn it is

-- the terminal awaits a block
abbrev pub IsBusy : Waits → Type 0
IsBusy idle = ⊥
IsBusy (ack field rest) = Unit {0}
IsBusy (answer field) = Unit {0}
IsBusy (more joined) = Unit {0}
IsBusy (ifs size) = Unit {0}
IsBusy (resynch asked) = Unit {0}
IsBusy dead = ⊥

abbrev pub IsAtRest : Waits → Type 0
IsAtRest waits = IsBusy waits → ⊥

abbrev pub IsOk : TerminalStep → Type 0
IsOk (Ok step) = Unit {0}
IsOk (Err fault) = ⊥

only_at_rest : (waits : Waits) (step : TerminalStep) → IsOk (if_idle waits step) → IsAtRest waits
only_at_rest idle step h = λ b. b
only_at_rest dead step h = absurd h
only_at_rest (ack field rest) step h = absurd h
only_at_rest (answer field) step h = absurd h
only_at_rest (more joined) step h = absurd h
only_at_rest (ifs size) step h = absurd h
only_at_rest (resynch asked) step h = absurd h

-- a call of the application
abbrev pub IsCall : TerminalInput → Type 0
IsCall (transmit m) = Unit {0}
IsCall (ask_ifs n) = Unit {0}
IsCall (takes came) = ⊥

pub calls_at_rest : (t : TerminalState) (input : TerminalInput) → IsCall input → IsOk (terminal_turn t input)
    → IsAtRest t.waits
calls_at_rest t (transmit m) h ok = only_at_rest t.waits _ ok
calls_at_rest t (ask_ifs n) h ok = only_at_rest t.waits _ ok
calls_at_rest t (takes came) h ok = absurd h

-- ---- what the monitor knows of sizes

-- the sizes are at least those of the engine
pub record HasSizes (ifsc first_ifsc : ℕ) (e : End) : Type 0 where
  pub side : e.side ≡ Terminal
  pub room : ifsc ≤ e.room
  pub first : first_ifsc ≤ e.first_room

sizes_by : (ifsc first_ifsc : ℕ) (e : End) (pcb : Pcb) (octet : ℕ) → HasSizes ifsc first_ifsc e
    → HasSizes ifsc first_ifsc (sized_by e pcb octet)
sizes_by ifsc first_ifsc e (Info number goes_on) octet h = record { side = h.side; room = h.room; first = h.first }
sizes_by ifsc first_ifsc e (Ready number fault) octet h = h
sizes_by ifsc first_ifsc e (Request Resynch) octet h = h
sizes_by ifsc first_ifsc e (Request Ifs) octet h =
    record { side = h.side; room = omega (arith, h.room); first = h.first }
sizes_by ifsc first_ifsc e (Request Abort) octet h = h
sizes_by ifsc first_ifsc e (Request Wtx) octet h = h
sizes_by ifsc first_ifsc e (Response s) octet h = h

sizes_unknown : (ifsc first_ifsc : ℕ) (e : End) (pcb : Pcb) → HasSizes ifsc first_ifsc e
    → HasSizes ifsc first_ifsc (hears_unknown e pcb).«end»
sizes_unknown ifsc first_ifsc e (Info number goes_on) h = record { side = h.side; room = h.room; first = h.first }
sizes_unknown ifsc first_ifsc e (Ready number fault) h = h
sizes_unknown ifsc first_ifsc e (Request s) h = h
sizes_unknown ifsc first_ifsc e (Response s) h = h

sizes_presumed_by : (ifsc first_ifsc : ℕ) (e : End) (pcb : Pcb) (octet : ℕ) → HasSizes ifsc first_ifsc e
    → HasSizes ifsc first_ifsc (record (sized_by (hears_unknown e pcb).«end» pcb octet) { aborted = e.aborted })
sizes_presumed_by ifsc first_ifsc e pcb octet h =
    let k = sizes_by ifsc first_ifsc (hears_unknown e pcb).«end» pcb octet (sizes_unknown ifsc first_ifsc e pcb h) in
    record { side = k.side; room = k.room; first = k.first }

sizes_sized : (ifsc first_ifsc : ℕ) (e : End) (heard : Heard) → HasSizes ifsc first_ifsc e
    → HasSizes ifsc first_ifsc (sized e heard)
sizes_sized ifsc first_ifsc e Beginning h = h
sizes_sized ifsc first_ifsc e (Whole pcb octet) h = sizes_by ifsc first_ifsc e pcb octet h
sizes_sized ifsc first_ifsc e (Perhaps pcb octet) h = sizes_by ifsc first_ifsc e pcb octet h
sizes_sized ifsc first_ifsc e Broken h = h
sizes_sized ifsc first_ifsc e Nothing h = h

sizes_presumed : (ifsc first_ifsc : ℕ) (e : End) (heard : Heard) → HasSizes ifsc first_ifsc e
    → HasSizes ifsc first_ifsc (presumed e heard)
sizes_presumed ifsc first_ifsc e Beginning h = h
sizes_presumed ifsc first_ifsc e (Whole pcb octet) h = sizes_presumed_by ifsc first_ifsc e pcb octet h
sizes_presumed ifsc first_ifsc e (Perhaps pcb octet) h = sizes_presumed_by ifsc first_ifsc e pcb octet h
sizes_presumed ifsc first_ifsc e Broken h = h
sizes_presumed ifsc first_ifsc e Nothing h = h

pub sizes_overlooked : (ifsc first_ifsc : ℕ) (e : End) (heard : Heard) → HasSizes ifsc first_ifsc e
    → HasSizes ifsc first_ifsc (overlooked e heard)
sizes_overlooked ifsc first_ifsc e heard h = with_test (HasSizes ifsc first_ifsc) e.known _ _
    (λ k. sizes_sized ifsc first_ifsc e heard h) (λ k. sizes_presumed ifsc first_ifsc e heard h)

-- what a silence keeps of an end whose last block is known
abbrev pub Core : End → End → Type 0
Core e f = (f.known ≡ e.known) × (f.asked ≡ e.asked) × (f.before ≡ e.before) × (f.next ≡ e.next)
    × (f.expects ≡ e.expects)

core_by : (e : End) (pcb : Pcb) (octet : ℕ) → Core e (sized_by e pcb octet)
core_by e (Info number goes_on) octet = (refl, refl, refl, refl, refl)
core_by e (Ready number fault) octet = (refl, refl, refl, refl, refl)
core_by e (Request Resynch) octet = (refl, refl, refl, refl, refl)
core_by e (Request Ifs) octet = (refl, refl, refl, refl, refl)
core_by e (Request Abort) octet = (refl, refl, refl, refl, refl)
core_by e (Request Wtx) octet = (refl, refl, refl, refl, refl)
core_by e (Response s) octet = (refl, refl, refl, refl, refl)

core_sized : (e : End) (heard : Heard) → Core e (sized e heard)
core_sized e Beginning = (refl, refl, refl, refl, refl)
core_sized e (Whole pcb octet) = core_by e pcb octet
core_sized e (Perhaps pcb octet) = core_by e pcb octet
core_sized e Broken = (refl, refl, refl, refl, refl)
core_sized e Nothing = (refl, refl, refl, refl, refl)

pub core_overlooked : (e : End) (heard : Heard) → e.known ≡ true → Core e (overlooked e heard)
core_overlooked e heard h =
    subst (Core e) (sym (is_then e.known (sized e heard) (presumed e heard) h)) (core_sized e heard)

-- ---- the watched ends that go with these states

-- how a terminal at rest came to be so, and what the monitor still knows of the time before
pub data Origin (number expected : Number) (e : End) : Type 0 where
  from_start : e.known ≡ true → e.asked ≡ None → e.next ≡ number → e.expects ≡ expected → Origin number expected e
  from_talk : e.known ≡ true → e.asked ≡ None → same expected e.expects ≡ false → Origin number expected e
  from_size : (size : ℕ) → e.known ≡ true → e.asked ≡ Some (Size size) → e.before ≡ NewMessage → e.next ≡ number
      → e.expects ≡ expected → Origin number expected e
  from_resynch : e.known ≡ true → e.asked ≡ Some Anew → Origin number expected e

-- the end after its own question for a size
abbrev pub IsExact : Number → Number → End → Type 0
IsExact number expected e = (e.before ≡ NewMessage) × (e.next ≡ number) × (e.expects ≡ expected)

-- Where P holds, it is known how often the terminal tried.
module _ (P : Type 0) where
  -- In an exchange it repeated no more often in a row than it counts failures. It tried as often, or so often that it may
  -- ask for RESYNCH in place of a refusal.
  pub record Talk (ifsc first_ifsc failures : ℕ) : Type 0 where
    pub spare : Spare ifsc first_ifsc
    pub row : Row
    pub tries : ℕ
    pub few : row.repeats ≤ failures
    pub fewer : row.corrections ≤ failures
    pub enough : P → min failures most_repeats ≤ tries

  abbrev pub TalkOf : TerminalState → Type 0
  TalkOf t = Talk t.ifsc t.first_ifsc t.failures

  abbrev pub in_talk : (t : TerminalState) → TalkOf t → Kind → End
  in_talk t x k =
      busy (next_with k t.number) t.expected (pending_with k) x.spare.before x.tries x.row x.spare.room x.spare.first
      x.spare.largest

  -- it may begin a message
  abbrev pub rested : (t : TerminalState) → SpareOf t → Pending → ℕ → Row → Bool → End
  rested t x pending tries row aborted = record
      (busy t.number t.expected pending x.before tries row x.room x.first x.largest)
      { aborted = aborted }

  -- it asked for a size
  abbrev pub sizing : (t : TerminalState) → SpareOf t → Pending → Bool → ℕ → ℕ → End
  sizing t x pending aborted tries size = record (rested t x pending tries no_row aborted) {
    asked = Some (Size size);
    before = NewMessage;
  }

  -- it asked for RESYNCH so often
  abbrev pub beginning : ℕ → ℕ → ℕ → ℕ → End
  beginning room first largest tries = record (busy Zero Zero Settled NewMessage tries no_row room first largest)
      { asked = Some Anew }

  abbrev pub InTalk : TerminalState → Kind → Watched → Type 0
  InTalk t k w = (x : TalkOf t) × (hearing w Broken ≡ watched (in_talk t x k) Broken (last_of k))

  pub record Rests (t : TerminalState) (w : Watched) : Type 0 where
    pub spare : SpareOf t
    pub pending : Pending
    pub tries : ℕ
    pub row : Row
    pub aborted : Bool
    pub owes : got_whole w.«end» w.heard ≡ Some (after (rested t spare pending tries row aborted) NewMessage)
    pub sizes : HasSizes t.ifsc t.first_ifsc w.«end»
    pub origin : Origin t.number t.expected w.«end»

  -- the watched end goes with the terminal's state
  abbrev pub Fits : TerminalState → Waits → Watched → Type 0
  Fits t idle w = Rests t w
  Fits t (ack field rest) w = InTalk t (chain field rest) w
  Fits t (answer field) w = InTalk t (ends field) w
  Fits t (more joined) w = (last : List ℕ) × InTalk t (further joined last) w
  Fits t (ifs size) w = (x : SpareOf t) × (pending : Pending) × (aborted : Bool) × (last : List ℕ) × (tries : ℕ)
      × (tries ≤ t.failures + 1) × (hearing w Broken ≡ watched (sizing t x pending aborted tries size) Broken last)
  Fits t (resynch asked) w = (room : ℕ) × (first : ℕ) × (largest : ℕ) × (last : List ℕ) × (tries : ℕ)
      × (tries ≤ asked) × (t.first_ifsc ≤ first) × (t.first_ifsc ≤ room)
      × (hearing w Broken ≡ watched (beginning room first largest tries) Broken last)
  Fits t dead w = Unit {0}

  abbrev pub at : Waits → TerminalState → TerminalState
  at waits t = record t { waits = waits }

  fits_talk : (t : TerminalState) (k : Kind) (x : TalkOf t)
      → Fits (at (waits_of k) t) (waits_of k) (watched (in_talk t x k) Broken (last_of k))
  fits_talk t (chain field rest) x = (x, refl)
  fits_talk t (ends field) x = (x, refl)
  fits_talk t (further joined last) x = (last, (x, refl))

  -- ---- a block that the tap misses

  -- the end after a silence in which the tap missed its block, if it did
  abbrev pub silent : Watched → Watched
  silent w = watched (overlooked w.«end» w.heard) Broken w.last

  -- an I-block of the terminal's own is under way
  abbrev pub IsOwn : Kind → Type 0
  IsOwn (chain field rest) = Unit {0}
  IsOwn (ends field) = Unit {0}
  IsOwn (further joined last) = ⊥

  -- It asked for a size: nothing is known, or it asked before, or for RESYNCH, or the question was never seen.
  pub data StaleSize (number expected : Number) (e : End) : Type 0 where
    size_unknown : e.known ≡ false → StaleSize number expected e
    size_untold : e.known ≡ true → e.asked ≡ None → StaleSize number expected e
    size_anew : e.known ≡ true → e.asked ≡ Some Anew → StaleSize number expected e
    size_before : (size : ℕ) → e.known ≡ true → e.asked ≡ Some (Size size)
        → (e.before ≡ AnyBlock) ⊎ IsExact number expected e
        → StaleSize number expected e

  -- while a block is under way, what the watched end heard doesn't matter
  pub fits_hearing : (waits : Waits) (t : TerminalState) (w : Watched) (heard : Heard) → IsBusy waits → Fits t waits w
      → Fits t waits (hearing w heard)
  fits_hearing idle t w heard h fits = absurd h
  fits_hearing (ack field rest) t w heard h fits = fits
  fits_hearing (answer field) t w heard h fits = fits
  fits_hearing (more joined) t w heard h fits = fits
  fits_hearing (ifs size) t w heard h fits = fits
  fits_hearing (resynch asked) t w heard h fits = fits
  fits_hearing dead t w heard h fits = absurd h

  -- for RESYNCH only the first size matters
  pub sizes_first : (ifsc first_ifsc : ℕ) (e : End) → HasSizes ifsc first_ifsc e → HasSizes 0 first_ifsc e
  sizes_first ifsc first_ifsc e h = record { side = h.side; room = omega arith; first = h.first }

  -- how often it tried matters where an I-block certainly came whole
  abbrev IsSure : View → Type 0
  IsSure certain = P
  IsSure (maybe sent octet) = Unit {0}

  -- what no end asks for doesn't come
  abbrev pub Plain : View → Came → Type 0
  Plain view (got (Info number goes_on) inf) = IsSure view
  Plain view (got (Ready number fault) inf) = Unit {0}
  Plain view (got (Request s) inf) = NoAbort (Request s)
  Plain view (got (Response s) inf) = Unit {0}
  Plain view damaged = Unit {0}
  Plain view invalid = Unit {0}
  Plain view quiet = Unit {0}

  -- a block with a new number may be one
  abbrev pub IsInfo : Pcb → Type 0
  IsInfo (Info number goes_on) = Unit {0}
  IsInfo (Ready number fault) = ⊥
  IsInfo (Request s) = ⊥
  IsInfo (Response s) = ⊥

  -- where Q holds of a number, the card didn't take the I-block with it
  module _ (Q : Number → Type 0) where
    -- In an exchange: the missed block changed nothing, or nothing is known of the end, or it still seems to ask, or to
    -- expect the block that it took, or the I-block under way was never seen.
    pub data StaleTalk (t : TerminalState) (k : Kind) (w : Watched) : Type 0 where
      keeps : InTalk t k w → StaleTalk t k w
      is_unknown : w.«end».known ≡ false → StaleTalk t k w
      is_asking : w.«end».known ≡ true → is_waiting w.«end».asked ≡ true → StaleTalk t k w
      is_behind : w.«end».known ≡ true → w.«end».asked ≡ None → same t.expected w.«end».expects ≡ false
          → StaleTalk t k w
      is_untold : IsOwn k → w.«end».known ≡ true → w.«end».asked ≡ None → w.«end».next ≡ t.number
          → w.«end».expects ≡ t.expected → Q t.number → StaleTalk t k w

    abbrev pub Stale : TerminalState → Waits → Watched → Type 0
    Stale t idle w = Unit {0}
    Stale t (ack field rest) w = HasSizes t.ifsc t.first_ifsc w.«end» × StaleTalk t (chain field rest) w
    Stale t (answer field) w = HasSizes t.ifsc t.first_ifsc w.«end» × StaleTalk t (ends field) w
    Stale t (more joined) w =
        HasSizes t.ifsc t.first_ifsc w.«end» × ((last : List ℕ) × StaleTalk t (further joined last) w)
    Stale t (ifs size) w = HasSizes t.ifsc t.first_ifsc w.«end» × StaleSize t.number t.expected w.«end»
    Stale t (resynch asked) w = HasSizes 0 t.first_ifsc w.«end»
    Stale t dead w = Unit {0}

    stale_kind : (t : TerminalState) (k : Kind) (w : Watched) → HasSizes t.ifsc t.first_ifsc w.«end» → StaleTalk t k w
        → Stale t (waits_of k) w
    stale_kind t (chain field rest) w h stale = (h, stale)
    stale_kind t (ends field) w h stale = (h, stale)
    stale_kind t (further joined last) w h stale = (h, (last, stale))

    -- it had so much room, and has more
    talk_by : (t : TerminalState) (k : Kind) (x : TalkOf t) (pcb : Pcb) (octet : ℕ)
        → InTalk t k (watched (sized_by (in_talk t x k) pcb octet) Broken (last_of k))
    talk_by t k x (Info number goes_on) octet = (x, refl)
    talk_by t k x (Ready number fault) octet = (x, refl)
    talk_by t k x (Request Resynch) octet = (x, refl)
    talk_by t k x (Request Ifs) octet = (
      record x {
        spare = record x.spare { room = max x.spare.room octet; room_ok = omega (arith, x.spare.room_ok) };
      },
      refl,
    )
    talk_by t k x (Request Abort) octet = (x, refl)
    talk_by t k x (Request Wtx) octet = (x, refl)
    talk_by t k x (Response s) octet = (x, refl)

    talk_sized : (t : TerminalState) (k : Kind) (x : TalkOf t) (heard : Heard)
        → InTalk t k (watched (sized (in_talk t x k) heard) Broken (last_of k))
    talk_sized t k x Beginning = (x, refl)
    talk_sized t k x (Whole pcb octet) = talk_by t k x pcb octet
    talk_sized t k x (Perhaps pcb octet) = talk_by t k x pcb octet
    talk_sized t k x Broken = (x, refl)
    talk_sized t k x Nothing = (x, refl)

    -- after a failure more
    talk_later : (P → ⊥) → (t : TerminalState) (k : Kind) (w : Watched) → InTalk t k w
        → InTalk (record t { failures = t.failures + 1 }) k w
    talk_later none t k w (x, is) = (
      record {
        spare = x.spare;
        row = x.row;
        tries = x.tries;
        few = omega (arith, x.few);
        fewer = omega (arith, x.fewer);
        enough = λ p. absurd (none p);
      },
      is,
    )

    sizes_talk : (t : TerminalState) (k : Kind) (x : TalkOf t) → HasSizes t.ifsc t.first_ifsc (in_talk t x k)
    sizes_talk t k x = record { side = refl; room = x.spare.room_ok; first = x.spare.first_ok }

    sizes_silent : (t : TerminalState) (k : Kind) (x : TalkOf t) (heard : Heard)
        → HasSizes t.ifsc t.first_ifsc (overlooked (in_talk t x k) heard)
    sizes_silent t k x heard = sizes_overlooked t.ifsc t.first_ifsc (in_talk t x k) heard (sizes_talk t k x)

    -- an I-block of its own that was never seen
    data StaleInfo (number expected : Number) (e : End) : Type 0 where
      info_asking : e.known ≡ true → is_waiting e.asked ≡ true → StaleInfo number expected e
      info_behind : e.known ≡ true → e.asked ≡ None → same expected e.expects ≡ false → StaleInfo number expected e
      info_untold : e.known ≡ true → e.asked ≡ None → e.next ≡ number → e.expects ≡ expected
          → StaleInfo number expected e

    stale_talk : (t : TerminalState) (k : Kind) (w : Watched) → IsOwn k → Q t.number
        → StaleInfo t.number t.expected w.«end»
        → StaleTalk t k w
    stale_talk t k w own lags (info_asking h q) = is_asking h q
    stale_talk t k w own lags (info_behind h q x) = is_behind h q x
    stale_talk t k w own lags (info_untold h q n x) = is_untold own h q n x lags

    stale_next : (t : TerminalState) (field rest : List ℕ) (w : Watched) → HasSizes t.ifsc t.first_ifsc w.«end»
        → Q t.number → StaleInfo t.number t.expected w.«end»
        → Stale (record t { failures = 0; waits = waiting field rest }) (waiting field rest) w
    stale_next t field [] w h lags stale =
        (h, stale_talk (record t { failures = 0; waits = answer field }) (ends field) w tt lags stale)
    stale_next t field (octet ∷ rest) w h lags stale = (
      h,
      stale_talk (record t { failures = 0; waits = ack field (octet ∷ rest) }) (chain field (octet ∷ rest)) w tt lags
          stale,
    )

    -- one that begins a message
    info_begun : (number expected : Number) (e f : End) → Origin number expected e → Core e f
        → StaleInfo number expected f
    info_begun number expected e f (from_start h q n x) c = info_untold (c.0 ∙ h) (c.1 ∙ q) (c.3 ∙ n) (c.4 ∙ x)
    info_begun number expected e f (from_talk h q x) c =
        info_behind (c.0 ∙ h) (c.1 ∙ q) (ap (λ (n : Number). same expected n) c.4 ∙ x)
    info_begun number expected e f (from_size size h q b n x) c = info_asking (c.0 ∙ h) (ap is_waiting (c.1 ∙ q))
    info_begun number expected e f (from_resynch h q) c = info_asking (c.0 ∙ h) (ap is_waiting (c.1 ∙ q))

    -- and a question for a size
    size_begun : (number expected : Number) (e f : End) → Origin number expected e → Core e f
        → StaleSize number expected f
    size_begun number expected e f (from_start h q n x) c = size_untold (c.0 ∙ h) (c.1 ∙ q)
    size_begun number expected e f (from_talk h q x) c = size_untold (c.0 ∙ h) (c.1 ∙ q)
    size_begun number expected e f (from_size size h q b n x) c =
        size_before size (c.0 ∙ h) (c.1 ∙ q) (inr (c.2 ∙ b, c.3 ∙ n, c.4 ∙ x))
    size_begun number expected e f (from_resynch h q) c = size_anew (c.0 ∙ h) (c.1 ∙ q)

    known_origin : (number expected : Number) (e : End) → Origin number expected e → e.known ≡ true
    known_origin number expected e (from_start h q n x) = h
    known_origin number expected e (from_talk h q x) = h
    known_origin number expected e (from_size size h q b n x) = h
    known_origin number expected e (from_resynch h q) = h

    -- the terminal took another block than the monitor knows
    differs : (x : Number) → same (other x) x ≡ false
    differs Zero = refl
    differs One = refl

    -- a block that the terminal would send again
    stale_again : (P → ⊥) → (t : TerminalState) (k : Kind) (x : TalkOf t) (heard : Heard)
        → Stale (record t { failures = t.failures + 1 }) (waits_of k)
        (silent (watched (in_talk t x k) heard (last_of k)))
    stale_again none t k x heard =
        stale_kind (record t { failures = t.failures + 1 }) k (silent (watched (in_talk t x k) heard (last_of k)))
        (sizes_silent t k x heard)
        (keeps (talk_later none t k (silent (watched (in_talk t x k) heard (last_of k))) (talk_sized t k x heard)))

    -- ---- what a turn leaves

    abbrev pub Said : Watched → TerminalTurn → TerminalState → Type 0
    Said w (Send b) t =
        Fine w.heard (judged_of w b).verdict × NoAbort b.pcb × IsBusy t.waits
        × Fits t t.waits (after_sending Broken w b)
        × ((P → ⊥) → (IsInfo b.pcb → Q t.number) → Stale t t.waits (silent w))
    Said w Answered t = IsAtRest t.waits × Fits t t.waits w
    Said w IfsSet t = IsAtRest t.waits × Fits t t.waits w
    Said w GivenUp t = IsAtRest t.waits × Fits t t.waits w
    Said w Dead t = IsAtRest t.waits × Fits t t.waits w

    abbrev pub Outcome : Watched → TerminalStep → Type 0
    Outcome w (Ok step) = Said w step.0 step.1
    Outcome w (Err fault) = Unit {0}

    -- A block that some course permits, and that leads to this end, which goes with the next state.
    said : (w : Watched) (b : Parts) (t : TerminalState) (e : End) → Passes w.heard (judged_of w b) e → NoAbort b.pcb
        → IsBusy t.waits → Fits t t.waits (watched e Broken (last_after w.last b.pcb b.inf))
        → ((P → ⊥) → (IsInfo b.pcb → Q t.number) → Stale t t.waits (silent w)) → Said w (Send b) t
    said w b t e h plain busy_now fits stale = (
      h.0,
      plain,
      busy_now,
      subst (λ f. Fits t t.waits (watched f Broken (last_after w.last b.pcb b.inf))) (sym h.1) fits,
      stale,
    )

    -- ---- failures

    early : (n tries : ℕ) → min n most_repeats ≤ tries → nat_lt n most_repeats ≡ false
        → nat_le most_repeats tries ≡ true
    early n tries h k = grind (arith, nat_tests)

    failing : (w : Watched) (t : TerminalState) (b : Parts) (e1 : End) (due : After) (room first : ℕ)
        → IsBusy t.waits → NoAbort b.pcb → Course w.«end» w.heard due → t.first_ifsc ≤ first
        → (nat_lt t.failures most_repeats ≡ true → sends due.«end» due.owed w.last b.pcb b.inf ≡ Ok e1)
        → (nat_lt t.failures most_repeats ≡ false
        → sends due.«end» due.owed w.last (Request Resynch) [] ≡ Ok (beginning room first room 1))
        → t.first_ifsc ≤ room
        → Fits (record t { failures = t.failures + 1 }) t.waits (watched e1 Broken (last_after w.last b.pcb b.inf))
        → ((P → ⊥) → (IsInfo b.pcb → Q t.number) → Stale (record t { failures = t.failures + 1 }) t.waits (silent w))
        → HasSizes 0 t.first_ifsc (overlooked w.«end» w.heard)
        → Outcome w (fails t b)
    failing w t b e1 due room first busy_now plain course ok once again room_ok fits stale sizes =
        with_test (Outcome w) (nat_lt t.failures most_repeats) _ _
        (λ h. said w b (record t { failures = t.failures + 1 }) e1
        (passes w.«end» w.heard w.last b.pcb b.inf due e1 course (once h)) plain busy_now fits stale)
        (λ h. said w (request Resynch []) (record t { waits = resynch 1 }) (beginning room first room 1)
        (passes w.«end» w.heard w.last (Request Resynch) [] due (beginning room first room 1) course (again h)) tt tt
        (room, first, room, w.last, 1, omega arith, ok, room_ok, refl) (λ none lags. sizes))

    busy_kind : (k : Kind) → IsBusy (waits_of k)
    busy_kind (chain field rest) = tt
    busy_kind (ends field) = tt
    busy_kind (further joined last) = tt

    rarely : (n count : ℕ) → count ≤ n → nat_lt n most_repeats ≡ true → nat_lt count most_repeats ≡ true
    rarely n count h k = grind (arith, nat_tests)

    at_most : (n m : ℕ) → n ≤ m → one_more n ≤ m + 1
    at_most n m h = omega (arith, h)

    -- a try more, as a failure more
    at_least : (n tries : ℕ) → min n most_repeats ≤ tries → min (n + 1) most_repeats ≤ one_more tries
    at_least n tries h = omega (arith, h)

    abbrev corrected_once : (t : TerminalState) → TalkOf t → TalkOf (record t { failures = t.failures + 1 })
    corrected_once t x = record {
      spare = x.spare;
      row = record x.row { corrections = one_more x.row.corrections };
      tries = one_more x.tries;
      few = omega (arith, x.few);
      fewer = at_most x.row.corrections t.failures x.fewer;
      enough = λ p. at_least t.failures x.tries (x.enough p);
    }

    abbrev repeated_once : (t : TerminalState) → TalkOf t → TalkOf (record t { failures = t.failures + 1 })
    repeated_once t x = record {
      spare = x.spare;
      row = record x.row { repeats = one_more x.row.repeats };
      tries = one_more x.tries;
      few = at_most x.row.repeats t.failures x.few;
      fewer = omega (arith, x.fewer);
      enough = λ p. at_least t.failures x.tries (x.enough p);
    }

    once_more : (t : TerminalState) (count : ℕ) (row : Row) (e : End) → count ≤ t.failures
        → nat_lt t.failures most_repeats ≡ true
        → (if nat_lt count most_repeats then Ok (record e { tries = one_more e.tries; row = row }) else Err
        TooManyRepeats) ≡ Ok (record e { tries = one_more e.tries; row = row })
    once_more t count row e few h = is_then (nat_lt count most_repeats) _ _ (rarely t.failures count few h)

    -- an R-block after an error
    correcting : (t : TerminalState) (k : Kind) (x : TalkOf t) (heard : Heard) (fault : Fault)
        → Course (in_talk t x k) heard (after (in_talk t x k) Correction)
        → Outcome (watched (in_talk t x k) heard (last_of k)) (fails (at (waits_of k) t) (ready t.expected fault))
    correcting t k x heard fault course =
        let e = in_talk t x k in
        failing (watched e heard (last_of k)) (at (waits_of k) t) (ready t.expected fault)
        (record e { tries = one_more x.tries; row = (corrected_once t x).row }) (after e Correction)
        (max x.spare.room x.spare.first) x.spare.first (busy_kind k) tt course
        x.spare.first_ok
        (λ h. is_then (same t.expected t.expected) _ _ (same_self t.expected)
        ∙ once_more t x.row.corrections (corrected_once t x).row e x.fewer h)
        (λ h. refl) (omega (arith, x.spare.first_ok))
        (fits_talk (record t { failures = t.failures + 1 }) k (corrected_once t x))
        (λ none lags. stale_again none (at (waits_of k) t) k x heard)
        (sizes_first _ _ _ (sizes_silent t k x heard))

    -- an I-block is refused, as one that came, or as one that didn't
    refusing : (t : TerminalState) (k : Kind) (x : TalkOf t) (view : View) (number : Number) (goes_on : Bool)
        (inf : List ℕ) → IsSure view
        → Outcome (watched (in_talk t x k) (heard_at view (got (Info number goes_on) inf)) (last_of k))
        (fails (at (waits_of k) t) (ready t.expected Other))
    refusing t k x certain number goes_on inf h_sure =
        let e = in_talk t x k in
        failing (watched e (Whole (Info number goes_on) (carried inf)) (last_of k)) (at (waits_of k) t)
        (ready t.expected Other)
        (record e { tries = one_more x.tries; row = (corrected_once t x).row }) (after e Refusal)
        (max x.spare.room x.spare.first) x.spare.first (busy_kind k) tt (inr refl)
        x.spare.first_ok
        (λ h. is_then (same t.expected t.expected) _ _ (same_self t.expected)
        ∙ once_more t x.row.corrections (corrected_once t x).row e x.fewer h)
        (λ h. is_then (nat_le most_repeats x.tries) _ _ (early t.failures x.tries (x.enough h_sure) h))
        (omega (arith, x.spare.first_ok))
        (fits_talk (record t { failures = t.failures + 1 }) k (corrected_once t x))
        (λ none lags. stale_again none (at (waits_of k) t) k x (Whole (Info number goes_on) (carried inf)))
        (sizes_first _ _ _ (sizes_silent t k x (Whole (Info number goes_on) (carried inf))))
    refusing t k x (maybe sent octet) number goes_on inf h_sure =
        correcting t k x (Perhaps (Info number goes_on) (carried inf)) Other (inr refl)

    -- the I-block under way once more
    repeating : (t : TerminalState) (k : Kind) (x : TalkOf t) (heard : Heard) (goes_on : Bool)
        → Course (in_talk t x k) heard (after (in_talk t x k) SameBlock)
        → same t.number (next_with k t.number) ≡ false → is_pending (pending_with k) goes_on ≡ true
        → Outcome (watched (in_talk t x k) heard (last_of k))
        (fails (at (waits_of k) t) (info t.number goes_on (last_of k)))
    repeating t k x heard goes_on course other_number pending =
        let e = in_talk t x k in
        failing (watched e heard (last_of k)) (at (waits_of k) t) (info t.number goes_on (last_of k))
        (record e { tries = one_more x.tries; row = (repeated_once t x).row }) (after e SameBlock)
        (max x.spare.room x.spare.first) x.spare.first (busy_kind k) tt course
        x.spare.first_ok
        (λ h. is_else (same t.number (next_with k t.number)) _ _ other_number
        ∙ is_then (is_pending (pending_with k) goes_on) _ _ pending
        ∙ is_then (bytes_eq (last_of k) (last_of k)) _ _ (bytes_self (last_of k))
        ∙ once_more t x.row.repeats (repeated_once t x).row e x.few h)
        (λ h. refl) (omega (arith, x.spare.first_ok))
        (fits_talk (record t { failures = t.failures + 1 }) k (repeated_once t x))
        (λ none lags. stale_again none (at (waits_of k) t) k x heard)
        (sizes_first _ _ _ (sizes_silent t k x heard))

    -- ---- a block of a message

    -- it met no failure
    abbrev new_talk : (t : TerminalState) → SpareOf t → Talk t.ifsc t.first_ifsc 0
    new_talk t x = record {
      spare = x;
      row = no_row;
      tries = 0;
      few = omega arith;
      fewer = omega arith;
      enough = λ p. omega arith;
    }

    -- or none since it answered a request
    abbrev answering_talk : (t : TerminalState) → TalkOf t → TalkOf t
    answering_talk t x = record x { row = no_row; few = omega arith; fewer = omega arith }

    -- the rest of the message goes out
    fits_next : (t : TerminalState) (x : SpareOf t) (field rest : List ℕ)
        → Fits (record t { failures = 0; waits = waiting field rest }) (waiting field rest)
        (watched (busy (other t.number) t.expected (pending_of (is_more rest)) x.before 0 no_row x.room x.first
        x.largest)
        Broken
        field)
    fits_next t x field [] = (new_talk (record t { failures = 0 }) x, refl)
    fits_next t x field (octet ∷ rest) = (new_talk (record t { failures = 0 }) x, refl)

    busy_next : (field rest : List ℕ) → IsBusy (waiting field rest)
    busy_next field [] = tt
    busy_next field (octet ∷ rest) = tt

    cutting : (w : Watched) (t : TerminalState) (x : SpareOf t) (pending : Pending) (tries : ℕ) (row : Row)
        (aborted : Bool)
        (owed : Owed) (octets : List ℕ)
        → Course w.«end» w.heard (after (rested t x pending tries row aborted) owed)
        → ((number : Number) (more : Bool) (inf : List ℕ)
        → sends (rested t x pending tries row aborted) owed w.last (Info number more) inf
        ≡ judge_info (rested t x pending tries row aborted) number more inf)
        → HasSizes t.ifsc t.first_ifsc (overlooked w.«end» w.heard)
        → StaleInfo t.number t.expected (overlooked w.«end» w.heard)
        → Outcome w (sends_next (record t { failures = 0 }) octets)
    cutting w t x pending tries row aborted owed octets course as_info sizes stale =
        let field = take t.ifsc octets in
        let rest = drop t.ifsc octets in
        let e = rested t x pending tries row aborted in
        said w (info t.number (is_more rest) field) (record t { failures = 0; waits = waiting field rest })
        (busy (other t.number) t.expected (pending_of (is_more rest)) x.before 0 no_row x.room x.first x.largest)
        (passes w.«end» w.heard w.last (Info t.number (is_more rest)) field (after e owed) _ course
        (as_info t.number (is_more rest) field
        ∙ is_then (same t.number t.number) _ _ (same_self t.number)
        ∙ is_then (nat_le (length field) x.room) _ _ (fits_size t.ifsc octets x.room x.room_ok)))
        tt (busy_next field rest) (fits_next t x field rest)
        (λ none lags. stale_next t field rest (silent w) sizes (lags tt) stale)

    -- ---- in an exchange

    -- it takes another size
    abbrev roomy : (t : TerminalState) → SpareOf t → (n : ℕ) → SpareOf (record t { ifsc = n })
    roomy t x n = record {
      before = x.before;
      room = n;
      first = x.first;
      largest = max x.room x.largest;
      room_ok = omega arith;
      first_ok = x.first_ok;
    }

    size_kept : (t : TerminalState) (k : Kind) (x : TalkOf t) (n : ℕ)
        → Stale (record t { ifsc = n; waits = waits_of k }) (waits_of k)
        (watched (record (in_talk t x k) { room = max x.spare.room n }) Broken (last_of k))
    size_kept t k x n =
        let spare : Spare n t.first_ifsc = record {
          before = x.spare.before;
          room = max x.spare.room n;
          first = x.spare.first;
          largest = x.spare.largest;
          room_ok = omega arith;
          first_ok = x.spare.first_ok;
        } in
        stale_kind (record t { ifsc = n; waits = waits_of k }) k _
        (record { side = refl; room = spare.room_ok; first = x.spare.first_ok })
        (keeps (
          record {
            spare = spare;
            row = x.row;
            tries = x.tries;
            few = x.few;
            fewer = x.fewer;
            enough = x.enough;
          },
          refl,
        ))

    stale_size : (t : TerminalState) (k : Kind) (x : TalkOf t) (view : View) (inf : List ℕ)
        → Stale (record t { ifsc = carried inf; waits = waits_of k }) (waits_of k)
        (silent (watched (in_talk t x k) (heard_at view (got (Request Ifs) inf)) (last_of k)))
    stale_size t k x certain inf = size_kept t k x (carried inf)
    stale_size t k x (maybe sent octet) inf = size_kept t k x (carried inf)

    size_told : (t : TerminalState) (k : Kind) (x : TalkOf t) (view : View) (inf : List ℕ)
        → Outcome (watched (in_talk t x k) (heard_at view (got (Request Ifs) inf)) (last_of k))
        (in_exchange (at (waits_of k) t) (got (Request Ifs) inf))
    size_told t k x view inf =
        let e = in_talk t x k in
        let n = carried inf in
        said (watched e (heard_at view (got (Request Ifs) inf)) (last_of k)) (response Ifs inf)
        (record t { ifsc = n; waits = waits_of k })
        (record e { room = n; largest_room = repeatable e; row = no_row })
        (passes e (heard_at view (got (Request Ifs) inf)) (last_of k) (Response Ifs) inf (after e (Answer Ifs n))
        (record e { room = n; largest_room = repeatable e; row = no_row })
        (inl (whole_at view e (Request Ifs) inf)) (is_then (n == n) _ _ (equal_self n))) tt (busy_kind k)
        (fits_talk (record t { ifsc = n }) k (record {
          spare = roomy t x.spare n;
          row = no_row;
          tries = x.tries;
          few = omega arith;
          fewer = omega arith;
          enough = x.enough;
        }))
        (λ none lags. stale_size t k x view inf)

    time_told : (t : TerminalState) (k : Kind) (x : TalkOf t) (view : View) (inf : List ℕ)
        → Outcome (watched (in_talk t x k) (heard_at view (got (Request Wtx) inf)) (last_of k))
        (in_exchange (at (waits_of k) t) (got (Request Wtx) inf))
    time_told t k x view inf =
        let e = in_talk t x k in
        let n = carried inf in
        said (watched e (heard_at view (got (Request Wtx) inf)) (last_of k)) (response Wtx inf)
        (record t { waits = waits_of k }) (record e { row = no_row })
        (passes e (heard_at view (got (Request Wtx) inf)) (last_of k) (Response Wtx) inf (after e (Answer Wtx n))
        (record e { row = no_row })
        (inl (whole_at view e (Request Wtx) inf)) (is_then (n == n) _ _ (equal_self n))) tt (busy_kind k)
        (fits_talk t k (answering_talk t x))
        (λ none lags. stale_kind (record t { waits = waits_of k }) k
        (silent (watched e (heard_at view (got (Request Wtx) inf)) (last_of k)))
        (sizes_silent t k x (heard_at view (got (Request Wtx) inf)))
        (keeps (talk_sized t k x (heard_at view (got (Request Wtx) inf)))))

    -- what a terminal may take, but for an R-block, which goes by the kind
    abbrev NotReady : View → Came → Type 0
    NotReady view (got (Info number goes_on) inf) = IsSure view
    NotReady view (got (Ready number fault) inf) = ⊥
    NotReady view (got (Request s) inf) = NoAbort (Request s)
    NotReady view (got (Response s) inf) = Unit {0}
    NotReady view damaged = Unit {0}
    NotReady view invalid = Unit {0}
    NotReady view quiet = Unit {0}

    exchanging : (t : TerminalState) (k : Kind) (x : TalkOf t) (view : View) (came : Came) → NotReady view came
        → Outcome (watched (in_talk t x k) (heard_at view came) (last_of k)) (in_exchange (at (waits_of k) t) came)
    exchanging t k x view (got (Info number goes_on) inf) h = refusing t k x view number goes_on inf h
    exchanging t k x view (got (Ready number fault) inf) h = absurd h
    exchanging t k x view (got (Request Resynch) inf) h =
        correcting t k x (heard_at view (got (Request Resynch) inf)) Other
        (inl (whole_at view (in_talk t x k) (Request Resynch) inf))
    exchanging t k x view (got (Request Ifs) inf) h = size_told t k x view inf
    exchanging t k x view (got (Request Abort) inf) h = absurd h
    exchanging t k x view (got (Request Wtx) inf) h = time_told t k x view inf
    exchanging t k x view (got (Response s) inf) h =
        correcting t k x (heard_at view (got (Response s) inf)) Other
        (inl (whole_at view (in_talk t x k) (Response s) inf))
    exchanging t k x view damaged h =
        correcting t k x (heard_at view damaged) Redundancy (inr (broken_at view damaged (in_talk t x k) tt))
    exchanging t k x view invalid h =
        correcting t k x (heard_at view invalid) Other (inr (broken_at view invalid (in_talk t x k) tt))
    exchanging t k x view quiet h =
        correcting t k x (heard_at view quiet) Free (inr (broken_at view quiet (in_talk t x k) tt))

    -- an I-block of the answer is joined
    taken : (t : TerminalState) (k : Kind) (x : TalkOf t) (number : Number) (goes_on : Bool)
        → is_chain (pending_with k) ≡ false → same number t.expected ≡ true
        → hears_info (in_talk t x k) number goes_on
        ≡ after (record (in_talk t x k) { expects = other t.expected; pending = Settled }) (due_after goes_on)
    taken t k x number goes_on h in_order =
        is_else (is_chain (pending_with k)) _ _ h ∙ is_then (same number t.expected) _ _ in_order

    joining : (t : TerminalState) (k : Kind) (x : TalkOf t) (view : View) (joined : List ℕ)
        (number : Number) (goes_on : Bool) (inf : List ℕ)
        → is_chain (pending_with k) ≡ false → same number t.expected ≡ true
        → Outcome (watched (in_talk t x k) (heard_at view (got (Info number goes_on) inf)) (last_of k))
        (joins (record t { number = next_with k t.number; waits = waits_of k }) joined goes_on)
    joining t k x view joined number true inf h in_order =
        let e = in_talk t x k in
        let e1 = record e { expects = other t.expected; pending = Settled } in
        let heard = heard_at view (got (Info number true) inf) in
        let c = core_overlooked e heard refl in
        said (watched e (heard_at view (got (Info number true) inf)) (last_of k)) (ready (other t.expected) Free)
        (record t { number = next_with k t.number; failures = 0; expected = other t.expected; waits = more joined })
        (record e1 { tries = 0; row = no_row })
        (passes e (heard_at view (got (Info number true) inf)) (last_of k) (Ready (other t.expected) Free) []
        (after e1 Acknowledgment)
        (record e1 { tries = 0; row = no_row }) (inl (whole_at view e (Info number true) inf
        ∙ ap Some (taken t k x number true h in_order)))
        (is_then (same (other t.expected) (other t.expected)) _ _ (same_self (other t.expected)))) tt tt
        (last_of k, (new_talk t x.spare, refl))
        (λ none lags. (
          sizes_silent t k x heard,
          (
            last_of k,
            is_behind c.0 c.1 (ap (λ (n : Number). same (other t.expected) n) c.4 ∙ differs t.expected),
          ),
        ))
    joining t k x view joined number false inf h in_order = (
      (λ b. b),
      record {
        spare = x.spare;
        pending = Settled;
        tries = x.tries;
        row = x.row;
        aborted = false;
        owes = whole_at view (in_talk t x k) (Info number false) inf ∙ ap Some (taken t k x number false h in_order);
        sizes = sizes_talk t k x;
        origin = from_talk refl refl (differs t.expected);
      },
    )

    -- ---- an R-block, by the kind

    acking : (t : TerminalState) (field rest : List ℕ) (x : TalkOf t) (view : View) (number : Number) (fault : Fault)
        (inf : List ℕ)
        → Outcome (watched (in_talk t x (chain field rest)) (heard_at view (got (Ready number fault) inf)) field)
        (in_ack (at (ack field rest) t) field rest (got (Ready number fault) inf))
    acking t field rest x view number fault inf =
        let e = in_talk t x (chain field rest) in
        let w = watched e (heard_at view (got (Ready number fault) inf)) field in
        with_test (Outcome w) (same number t.number) _ _
        (λ h. repeating t (chain field rest) x (heard_at view (got (Ready number fault) inf)) true
        (inl (whole_at view e (Ready number fault) inf
        ∙ ap (λ b. Some (hears_ready e Chain b)) (same_other number t.number h))) (same_next t.number) refl)
        (λ h. cutting w (record t { number = other t.number; waits = ack field rest }) x.spare Settled x.tries x.row
        false NextBlock
        rest
        (inl (whole_at view e (Ready number fault) inf
        ∙ ap (λ b. Some (hears_ready e Chain b)) (differs_other number t.number h))) (λ n m i. refl)
        (sizes_silent t (chain field rest) x (heard_at view (got (Ready number fault) inf)))
        (let c = core_overlooked e (heard_at view (got (Ready number fault) inf)) refl in
        info_untold c.0 c.1 c.3 c.4))

    answering : (t : TerminalState) (field : List ℕ) (x : TalkOf t) (view : View) (number : Number) (fault : Fault)
        (inf : List ℕ)
        → Outcome (watched (in_talk t x (ends field)) (heard_at view (got (Ready number fault) inf)) field)
        (in_answer (at (answer field) t) field (got (Ready number fault) inf))
    answering t field x view number fault inf =
        let e = in_talk t x (ends field) in
        with_test (Outcome (watched e (heard_at view (got (Ready number fault) inf)) field)) (same number t.number) _ _
        (λ h. repeating t (ends field) x (heard_at view (got (Ready number fault) inf)) false
        (inl (whole_at view e (Ready number fault) inf
        ∙ ap (λ b. Some (hears_ready e Last b)) (same_other number t.number h))) (same_next t.number) refl)
        (λ h. correcting t (ends field) x (heard_at view (got (Ready number fault) inf)) Free
        (inl (whole_at view e (Ready number fault) inf
        ∙ ap (λ b. Some (hears_ready e Last b)) (differs_other number t.number h))))

    hearing_more : (t : TerminalState) (joined last : List ℕ) (x : TalkOf t) (view : View) (number : Number)
        (fault : Fault) (inf : List ℕ)
        → Outcome (watched (in_talk t x (further joined last)) (heard_at view (got (Ready number fault) inf)) last)
        (in_more (at (more joined) t) joined (got (Ready number fault) inf))
    hearing_more t joined last x view number fault inf =
        let e = in_talk t x (further joined last) in
        correcting t (further joined last) x (heard_at view (got (Ready number fault) inf)) Free
        (inl (whole_at view e (Ready number fault) inf ∙ ap Some (settled_ready e (same number t.number))))

    -- ---- all that comes in an exchange

    all_ack : (t : TerminalState) (field rest : List ℕ) (x : TalkOf t) (view : View) (came : Came) → Plain view came
        → Outcome (watched (in_talk t x (chain field rest)) (heard_at view came) field)
        (in_ack (at (ack field rest) t) field rest came)
    all_ack t field rest x view (got (Ready number fault) inf) h = acking t field rest x view number fault inf
    all_ack t field rest x view (got (Info number goes_on) inf) h =
        exchanging t (chain field rest) x view (got (Info number goes_on) inf) h
    all_ack t field rest x view (got (Request s) inf) h = exchanging t (chain field rest) x view (got (Request s) inf) h
    all_ack t field rest x view (got (Response s) inf) h =
        exchanging t (chain field rest) x view (got (Response s) inf) h
    all_ack t field rest x view damaged h = exchanging t (chain field rest) x view damaged h
    all_ack t field rest x view invalid h = exchanging t (chain field rest) x view invalid h
    all_ack t field rest x view quiet h = exchanging t (chain field rest) x view quiet h

    all_answer : (t : TerminalState) (field : List ℕ) (x : TalkOf t) (view : View) (came : Came) → Plain view came
        → Outcome (watched (in_talk t x (ends field)) (heard_at view came) field)
        (in_answer (at (answer field) t) field came)
    all_answer t field x view (got (Ready number fault) inf) h = answering t field x view number fault inf
    all_answer t field x view (got (Info number goes_on) inf) h =
        with_test (Outcome (watched (in_talk t x (ends field)) (heard_at view (got (Info number goes_on) inf)) field))
        (same number t.expected && nat_le (length inf) t.limits.answer) _ _
        (λ e. joining t (ends field) x view inf number goes_on inf refl (first_of_both _ _ e))
        (λ e. exchanging t (ends field) x view (got (Info number goes_on) inf) h)
    all_answer t field x view (got (Request s) inf) h = exchanging t (ends field) x view (got (Request s) inf) h
    all_answer t field x view (got (Response s) inf) h = exchanging t (ends field) x view (got (Response s) inf) h
    all_answer t field x view damaged h = exchanging t (ends field) x view damaged h
    all_answer t field x view invalid h = exchanging t (ends field) x view invalid h
    all_answer t field x view quiet h = exchanging t (ends field) x view quiet h

    all_more : (t : TerminalState) (joined last : List ℕ) (x : TalkOf t) (view : View) (came : Came) → Plain view came
        → Outcome (watched (in_talk t x (further joined last)) (heard_at view came) last)
        (in_more (at (more joined) t) joined came)
    all_more t joined last x view (got (Ready number fault) inf) h = hearing_more t joined last x view number fault inf
    all_more t joined last x view (got (Info number goes_on) inf) h =
        with_test (Outcome (watched (in_talk t x (further joined last)) (heard_at view (got (Info number goes_on) inf))
        last))
        (same number t.expected && nat_le (length joined + length inf) t.limits.answer) _ _
        (λ e. joining t (further joined last) x view (joined ++ inf) number goes_on inf refl (first_of_both _ _ e))
        (λ e. exchanging t (further joined last) x view (got (Info number goes_on) inf) h)
    all_more t joined last x view (got (Request s) inf) h =
        exchanging t (further joined last) x view (got (Request s) inf) h
    all_more t joined last x view (got (Response s) inf) h =
        exchanging t (further joined last) x view (got (Response s) inf) h
    all_more t joined last x view damaged h = exchanging t (further joined last) x view damaged h
    all_more t joined last x view invalid h = exchanging t (further joined last) x view invalid h
    all_more t joined last x view quiet h = exchanging t (further joined last) x view quiet h

    -- ---- a size was asked for

    one_asked : (n m : ℕ) → m ≤ n + 1 → nat_lt n most_repeats ≡ true → nat_lt m (most_repeats + 1) ≡ true
    one_asked n m h k = grind (arith, nat_tests)

    sizes_sizing : (t : TerminalState) (size : ℕ) (x : SpareOf t) (pending : Pending) (aborted : Bool) (tries : ℕ)
        → HasSizes t.ifsc t.first_ifsc (sizing t x pending aborted tries size)
    sizes_sizing t size x pending aborted tries = record { side = refl; room = x.room_ok; first = x.first_ok }

    asking_size : (t : TerminalState) (size : ℕ) (x : SpareOf t) (pending : Pending) (aborted : Bool) (last : List ℕ)
        (heard : Heard) (first_tries tries : ℕ) → tries ≤ t.failures + 1
        → Course (sizing t x pending aborted first_tries size) heard
        (after (sizing t x pending aborted tries size) SameRequest)
        → Outcome (watched (sizing t x pending aborted first_tries size) heard last)
        (fails (at (ifs size) t) (request Ifs (size ∷ [])))
    asking_size t size x pending aborted last heard first_tries tries few course =
        let e = sizing t x pending aborted first_tries size in
        let due = sizing t x pending aborted tries size in
        let c = core_overlooked e heard refl in
        let sizes = sizes_overlooked t.ifsc t.first_ifsc e heard (sizes_sizing t size x pending aborted first_tries) in
        failing (watched e heard last) (at (ifs size) t) (request Ifs (size ∷ []))
        (record due { tries = tries + 1 }) (after due SameRequest) (max x.room x.first) x.first tt tt course x.first_ok
        (λ h. is_then (size == size) _ _ (equal_self size)
        ∙ is_then (nat_lt tries (most_repeats + 1)) _ _ (one_asked t.failures tries few h))
        (λ h. refl) (omega (arith, x.first_ok))
        (x, pending, aborted, last, tries + 1, omega arith, refl)
        (λ none lags. (sizes, size_before size c.0 c.1 (inr (c.2, c.3, c.4))))
        (sizes_first _ _ _ sizes)

    asking_size_on : (t : TerminalState) (size : ℕ) (x : SpareOf t) (pending : Pending) (aborted : Bool) (last : List ℕ)
        (view : View) (pcb : Pcb) (inf : List ℕ) (tries : ℕ) → tries ≤ t.failures + 1
        → hears (sizing t x pending aborted tries size) pcb (carried inf)
        ≡ after (sizing t x pending aborted tries size) SameRequest
        → Outcome (watched (sizing t x pending aborted tries size) (heard_at view (got pcb inf)) last)
        (fails (at (ifs size) t) (request Ifs (size ∷ [])))
    asking_size_on t size x pending aborted last view pcb inf tries few h =
        let e = sizing t x pending aborted tries size in
        asking_size t size x pending aborted last (heard_at view (got pcb inf)) tries tries few
        (inl (whole_at view e pcb inf ∙ ap Some h))

    asking_size_broken : (t : TerminalState) (size : ℕ) (x : SpareOf t) (pending : Pending) (aborted : Bool)
        (last : List ℕ)
        (heard : Heard) (tries : ℕ) → tries ≤ t.failures + 1 → Fewer (sizing t x pending aborted tries size) heard
        → Outcome (watched (sizing t x pending aborted tries size) heard last)
        (fails (at (ifs size) t) (request Ifs (size ∷ [])))
    asking_size_broken t size x pending aborted last heard tries few h =
        asking_size t size x pending aborted last heard tries h.0
        (omega (arith, few, h.1)) (inr h.2)

    all_ifs : (t : TerminalState) (size : ℕ) (x : SpareOf t) (pending : Pending) (aborted : Bool) (last : List ℕ)
        (tries : ℕ)
        (view : View) (came : Came) → tries ≤ t.failures + 1
        → Outcome (watched (sizing t x pending aborted tries size) (heard_at view came) last)
        (in_ifs (at (ifs size) t) size came)
    all_ifs t size x pending aborted last tries view (got (Response Ifs) inf) few =
        let e = sizing t x pending aborted tries size in
        with_test (Outcome (watched e (heard_at view (got (Response Ifs) inf)) last)) (carried inf == size) _ _
        (λ h. (
          (λ b. b),
          record {
            spare = record {
              before = NewMessage;
              room = x.room;
              first = x.first;
              largest = x.largest;
              room_ok = x.room_ok;
              first_ok =
                  x.first_ok;
            };
            pending = pending;
            tries = tries;
            row = no_row;
            aborted = aborted;
            owes = whole_at view e (Response Ifs) inf ∙ ap Some (is_then (carried inf == size) _ _ h);
            sizes = sizes_sizing t size x pending aborted tries;
            origin = from_size size refl refl refl refl refl;
          },
        ))
        (λ h. asking_size_on t size x pending aborted last view (Response Ifs) inf tries few
        (is_else (carried inf == size) _ _ h))
    all_ifs t size x pending aborted last tries view (got (Info number goes_on) inf) few =
        asking_size_on t size x pending aborted last view (Info number goes_on) inf tries few refl
    all_ifs t size x pending aborted last tries view (got (Ready number fault) inf) few =
        asking_size_on t size x pending aborted last view (Ready number fault) inf tries few refl
    all_ifs t size x pending aborted last tries view (got (Request s) inf) few =
        asking_size_on t size x pending aborted last view (Request s) inf tries few refl
    all_ifs t size x pending aborted last tries view (got (Response Resynch) inf) few =
        asking_size_on t size x pending aborted last view (Response Resynch) inf tries few refl
    all_ifs t size x pending aborted last tries view (got (Response Abort) inf) few =
        asking_size_on t size x pending aborted last view (Response Abort) inf tries few refl
    all_ifs t size x pending aborted last tries view (got (Response Wtx) inf) few =
        asking_size_on t size x pending aborted last view (Response Wtx) inf tries few refl
    all_ifs t size x pending aborted last tries view damaged few =
        asking_size_broken t size x pending aborted last (heard_at view damaged) tries few
        (asking_at view damaged (sizing t x pending aborted tries size) (Size size) tt)
    all_ifs t size x pending aborted last tries view invalid few =
        asking_size_broken t size x pending aborted last (heard_at view invalid) tries few
        (asking_at view invalid (sizing t x pending aborted tries size) (Size size) tt)
    all_ifs t size x pending aborted last tries view quiet few =
        asking_size_broken t size x pending aborted last (heard_at view quiet) tries few
        (asking_at view quiet (sizing t x pending aborted tries size) (Size size) tt)

    -- ---- RESYNCH was asked for

    -- no more than the terminal counts
    still : (asked n : ℕ) → n ≤ asked → nat_lt asked most_resynchs ≡ true → nat_lt n most_resynchs ≡ true
    still asked n h k = grind (arith, nat_tests)

    abbrev resynch_step : TerminalState → ℕ → TerminalStep
    resynch_step t asked =
        if nat_lt asked most_resynchs
        then Ok (Send (request Resynch []), record t { waits = resynch (asked + 1) }, no_failure)
        else Ok (Dead, record t { waits = dead }, no_failure)

    sizes_beginning : (room first largest tries first_ifsc : ℕ) (heard : Heard) → first_ifsc ≤ first
        → HasSizes 0 first_ifsc (overlooked (beginning room first largest tries) heard)
    sizes_beginning room first largest tries first_ifsc heard h =
        sizes_overlooked 0 first_ifsc (beginning room first largest tries) heard
        (record { side = refl; room = omega arith; first = h })

    asking_resynch : (t : TerminalState) (asked room first largest : ℕ) (last : List ℕ) (heard : Heard)
        (first_tries tries : ℕ) → tries ≤ asked → t.first_ifsc ≤ first
        → Course (beginning room first largest first_tries) heard
        (after (beginning room first largest tries) SameRequest)
        → Outcome (watched (beginning room first largest first_tries) heard last) (resynch_step t asked)
    asking_resynch t asked room first largest last heard first_tries tries few ok course =
        let e = beginning room first largest first_tries in
        with_test (Outcome (watched e heard last)) (nat_lt asked most_resynchs) _ _
        (λ h. said (watched e heard last) (request Resynch []) (record t { waits = resynch (asked + 1) })
        (beginning (max room first) first (max room first) (tries + 1))
        (passes e heard last (Request Resynch) [] (after (beginning room first largest tries) SameRequest)
        (beginning (max room first) first (max room first) (tries + 1)) course
        (is_then (nat_lt tries most_resynchs) _ _ (still asked tries few h))) tt tt (
          max room first,
          first,
          max room first,
          last,
          tries + 1,
          omega arith,
          ok,
          omega (arith, ok),
          refl,
        )
        (λ none lags. sizes_beginning room first largest first_tries t.first_ifsc heard ok))
        (λ h. ((λ b. b), tt))

    asking_resynch_on : (t : TerminalState) (asked room first largest : ℕ) (last : List ℕ) (view : View) (pcb : Pcb)
        (inf : List ℕ)
        (tries : ℕ) → tries ≤ asked → t.first_ifsc ≤ first
        → hears (beginning room first largest tries) pcb (carried inf) ≡ after (beginning room first largest tries)
        SameRequest
        → Outcome (watched (beginning room first largest tries) (heard_at view (got pcb inf)) last)
        (resynch_step t asked)
    asking_resynch_on t asked room first largest last view pcb inf tries few ok h =
        asking_resynch t asked room first largest last (heard_at view (got pcb inf)) tries tries few ok
        (inl (whole_at view (beginning room first largest tries) pcb inf ∙ ap Some h))

    asking_resynch_broken : (t : TerminalState) (asked room first largest : ℕ) (last : List ℕ) (heard : Heard)
        (tries : ℕ)
        → tries ≤ asked → t.first_ifsc ≤ first → Fewer (beginning room first largest tries) heard
        → Outcome (watched (beginning room first largest tries) heard last) (resynch_step t asked)
    asking_resynch_broken t asked room first largest last heard tries few ok h =
        asking_resynch t asked room first largest last heard tries h.0 (omega (arith, few, h.1)) ok (inr h.2)

    all_resynch : (t : TerminalState) (asked room first largest : ℕ) (last : List ℕ) (tries : ℕ) (view : View)
        (came : Came)
        → tries ≤ asked → t.first_ifsc ≤ first → t.first_ifsc ≤ room
        → Outcome (watched (beginning room first largest tries) (heard_at view came) last)
        (in_resynch (at (resynch asked) t) asked came)
    all_resynch t asked room first largest last tries view (got (Response Resynch) inf) few ok room_ok = (
      (λ b. b),
      record {
        spare = record {
          before = NewMessage;
          room = max room first;
          first = first;
          largest = max room first;
          room_ok = omega arith;
          first_ok = ok;
        };
        pending = Settled;
        tries = 0;
        row = no_row;
        aborted = false;
        owes = whole_at view (beginning room first largest tries) (Response Resynch) inf;
        sizes = record { side = refl; room = room_ok; first = ok };
        origin = from_resynch refl refl;
      },
    )
    all_resynch t asked room first largest last tries view (got (Info number goes_on) inf) few ok room_ok =
        asking_resynch_on t asked room first largest last view (Info number goes_on) inf tries few ok refl
    all_resynch t asked room first largest last tries view (got (Ready number fault) inf) few ok room_ok =
        asking_resynch_on t asked room first largest last view (Ready number fault) inf tries few ok refl
    all_resynch t asked room first largest last tries view (got (Request s) inf) few ok room_ok =
        asking_resynch_on t asked room first largest last view (Request s) inf tries few ok refl
    all_resynch t asked room first largest last tries view (got (Response Ifs) inf) few ok room_ok =
        asking_resynch_on t asked room first largest last view (Response Ifs) inf tries few ok refl
    all_resynch t asked room first largest last tries view (got (Response Abort) inf) few ok room_ok =
        asking_resynch_on t asked room first largest last view (Response Abort) inf tries few ok refl
    all_resynch t asked room first largest last tries view (got (Response Wtx) inf) few ok room_ok =
        asking_resynch_on t asked room first largest last view (Response Wtx) inf tries few ok refl
    all_resynch t asked room first largest last tries view damaged few ok room_ok =
        asking_resynch_broken t asked room first largest last (heard_at view damaged) tries few ok
        (asking_at view damaged (beginning room first largest tries) Anew tt)
    all_resynch t asked room first largest last tries view invalid few ok room_ok =
        asking_resynch_broken t asked room first largest last (heard_at view invalid) tries few ok
        (asking_at view invalid (beginning room first largest tries) Anew tt)
    all_resynch t asked room first largest last tries view quiet few ok room_ok =
        asking_resynch_broken t asked room first largest last (heard_at view quiet) tries few ok
        (asking_at view quiet (beginning room first largest tries) Anew tt)

    -- ---- the terminal's host

    sending : (t : TerminalState) (w : Watched) (m : List ℕ) → Rests t w
        → Outcome w (if nat_le (length m) t.limits.command
        then sends_next (record t { failures = 0; command = m; answered = None }) m else Err TooLong)
    sending t w m r = with_test (Outcome w) (nat_le (length m) t.limits.command) _ _
        (λ h. cutting w (record t { command = m; answered = None }) r.spare r.pending r.tries r.row r.aborted NewMessage
        m
        (inl r.owes) (λ n b i. refl)
        (sizes_overlooked t.ifsc t.first_ifsc w.«end» w.heard r.sizes)
        (info_begun t.number t.expected w.«end» (overlooked w.«end» w.heard) r.origin
        (core_overlooked w.«end» w.heard (known_origin t.number t.expected w.«end» r.origin))))
        (λ h. tt)

    sizing_up : (t : TerminalState) (w : Watched) (n : ℕ) → Rests t w
        → Outcome w (if is_reserved n then Err Reserved
        else Ok (Send (request Ifs (n ∷ [])), record t { failures = 0; waits = ifs n }, no_failure))
    sizing_up t w n r =
        let e = rested t r.spare r.pending r.tries r.row r.aborted in
        let t1 = record t { failures = 0; waits = ifs n } in
        with_test (Outcome w) (is_reserved n) _ _
        (λ h. tt)
        (λ h. said w (request Ifs (n ∷ [])) t1 (sizing t1 r.spare r.pending r.aborted 1 n)
        (passes w.«end» w.heard w.last (Request Ifs) (n ∷ []) (after e NewMessage)
        (sizing t1 r.spare r.pending r.aborted 1 n)
        (inl r.owes) refl) tt tt (r.spare, r.pending, r.aborted, w.last, 1, omega arith, refl)
        (λ none lags. (
          sizes_overlooked t.ifsc t.first_ifsc w.«end» w.heard r.sizes,
          size_begun t.number t.expected w.«end» (overlooked w.«end» w.heard) r.origin
              (core_overlooked w.«end» w.heard (known_origin t.number t.expected w.«end» r.origin)),
        )))

    -- ---- any turn of the terminal

    -- the watched end is this one
    moved : (w v : Watched) (heard : Heard) (step : TerminalStep) → hearing w Broken ≡ v
        → Outcome (hearing v heard) step
        → Outcome (hearing w heard) step
    moved w v heard step h k = subst (λ u. Outcome (hearing u heard) step) (sym h) k

    taking : (waits : Waits) (t : TerminalState) (w : Watched) (view : View) (came : Came) → Fits t waits w
        → Plain view came
        → Outcome (hearing w (heard_at view came)) (terminal_came (at waits t) waits came)
    taking idle t w view came fits h = tt
    taking (ack field rest) t w view came fits h =
        moved w (watched (in_talk t fits.0 (chain field rest)) Broken field) (heard_at view came) _ fits.1
        (all_ack t field rest fits.0 view came h)
    taking (answer field) t w view came fits h =
        moved w (watched (in_talk t fits.0 (ends field)) Broken field) (heard_at view came) _ fits.1
        (all_answer t field fits.0 view came h)
    taking (more joined) t w view came fits h =
        moved w (watched (in_talk t fits.1.0 (further joined fits.0)) Broken fits.0) (heard_at view came) _ fits.1.1
        (all_more t joined fits.0 fits.1.0 view came h)
    taking (ifs size) t w view came fits h =
        moved w (watched (sizing t fits.0 fits.1 fits.2 fits.4 size) Broken fits.3) (heard_at view came) _ fits.6
        (all_ifs t size fits.0 fits.1 fits.2 fits.3 fits.4 view came fits.5)
    taking (resynch asked) t w view came fits h =
        moved w (watched (beginning fits.0 fits.1 fits.2 fits.4) Broken fits.3) (heard_at view came) _ fits.8
        (all_resynch t asked fits.0 fits.1 fits.2 fits.3 fits.4 view came fits.5 fits.6 fits.7)
    taking dead t w view came fits h = tt

    -- whatever came, as it was seen
    pub takes_well : (t : TerminalState) (w : Watched) (view : View) (came : Came) → Fits t t.waits w → Plain view came
        → Outcome (hearing w (heard_at view came)) (terminal_turn t (takes came))
    takes_well t w view came fits h = taking t.waits t w view came fits h

    if_rests : (waits : Waits) (t : TerminalState) (w : Watched) (step : TerminalStep) → Fits t waits w
        → (Rests t w → Outcome w step) → Outcome w (if_idle waits step)
    if_rests idle t w step fits h = h fits
    if_rests dead t w step fits h = tt
    if_rests (ack field rest) t w step fits h = tt
    if_rests (answer field) t w step fits h = tt
    if_rests (more joined) t w step fits h = tt
    if_rests (ifs size) t w step fits h = tt
    if_rests (resynch asked) t w step fits h = tt

    pub calls_well : (t : TerminalState) (w : Watched) (input : TerminalInput) → IsCall input → Fits t t.waits w
        → Outcome w (terminal_turn t input)
    calls_well t w (transmit m) h fits = if_rests t.waits t w _ fits (sending t w m)
    calls_well t w (ask_ifs n) h fits = if_rests t.waits t w _ fits (sizing_up t w n)
    calls_well t w (takes came) h fits = absurd h
