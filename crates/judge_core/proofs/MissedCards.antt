-- The card of `t1_core`, where the tap misses blocks.
use Rattle.std.proofs.Common.{inl, inr, ◌≡◌, ◌⊎◌, ℕ, ◌+◌, ◌≤◌, List, [], ◌∷◌, ◌++◌, length, take, drop, refl, sym, ap, ◌∙◌, subst, arith}
use Rattle.std.specs.Prelude.{Bool, true, false, not, ◌&&◌, nat_le, Some, None, Ok, Err}
use Rattle.block_core.specs.Block.{Parts, other}
use Rattle.block_core.specs.declared.pcb.Number.{Number}
use Rattle.block_core.specs.declared.pcb.Number.TheVariants.{Zero}
use Rattle.block_core.specs.declared.pcb.Fault.{Fault}
use Rattle.block_core.specs.declared.pcb.Fault.TheVariants.{Free, Redundancy, Other}
use Rattle.block_core.specs.declared.pcb.S.TheVariants.{Resynch, Ifs, Abort, Wtx}
use Rattle.block_core.specs.declared.pcb.Pcb.{Pcb}
use Rattle.block_core.specs.declared.pcb.Pcb.TheVariants.{Info, Ready, Request, Response}
use Rattle.t1_core.specs.Came.{Came, got, damaged, invalid, quiet, same, carried, info, ready, response}
use Rattle.judge_core.specs.declared.end.Pending.TheVariants.{Settled}
use Rattle.judge_core.specs.declared.end.Owed.TheVariants.{NewMessage, Answer, AnyBlock}
use Rattle.judge_core.specs.declared.end.End.{End}
use Rattle.judge_core.specs.declared.courses.Heard.{Heard}
use Rattle.judge_core.specs.declared.courses.Heard.TheVariants.{Beginning, Whole, Perhaps, Broken, Nothing}
use Rattle.judge_core.specs.declared.doubt.Doubt.TheVariants.{Open}
use Rattle.judge_core.specs.declared.monitor.Said.TheVariants.{Block}
use Rattle.judge_core.specs.declared.monitor.Watched.{Watched}
use Rattle.judge_core.specs.Courses.{got_whole}
use Rattle.judge_core.specs.Doubts.{is_open, judged_of, overlooked}
use Rattle.judge_core.specs.Ends.{after, begun, no_row, repeatable, widest}
use Rattle.judge_core.specs.Missed.{IsWithin}
use Rattle.judge_core.specs.Monitored.{known_after}
use Rattle.judge_core.specs.Sends.{is_next, pending_of}
use Rattle.judge_core.specs.Tapped.{Passes}
use Rattle.judge_core.specs.Watched as plain
use Rattle.judge_core.proofs.Openly.{overlooked_unknown}
use Rattle.judge_core.proofs.Passes.{Course, NoAbort, first_of_both, is_then, watched, with_test}
use Rattle.std.specs.Prelude.{Option}
use Rattle.std.specs.Prelude.{Option}
use Rattle.block_core.specs.declared.side.Side.TheVariants.{Card}
use Rattle.t1_core.specs.declared.turns.CardTurn.{CardTurn}
use Rattle.t1_core.specs.declared.turns.CardTurn.TheVariants.{Send, Asked as Asks}
use Rattle.t1_core.specs.Terminal.{Limits, first_ifsd, is_more, most_repeats}
use Rattle.t1_core.specs.Card.{CardState, CardStep, CardRequest, Waits, command, host, reply, asking, card_came, card_with, in_either, joins, number_after, resynched, saving, sends_next, sends_saved, waiting}
use Rattle.judge_core.proofs.SeenTerminals.{plain_of}
use Rattle.judge_core.proofs.SeenCards.{IsTalk, TalksIn, Told, told_fits, told_passes}
use Rattle.judge_core.proofs.MissedTerminals.{IsTapped, Numbers, hears_it, is_kept, kept_after, most, not_tried, numbers_of, on_course, same_is, tap_heard, untaken_end, untaken_sizes, within_room}
use Rattle.judge_core.proofs.Cards.{AwaitsBlock, AwaitsHost, Fits, HasSizes, IsAnew, IsCommand, IsExact, IsInfo, IsOwnWaits, Kind, Outcome, Plain, Said, SpareOf, Stale, at, behind_unknown, chain, ended, last_of, listens, owes_anew, owes_ready, question, silent, sizes_overlooked}

-- ---- what the monitor may know instead

-- nothing is known of the end
pub record IsUnknown (c : CardState) (w : Watched) : Type 0 where
  pub base : End
  pub is : w.«end» ≡ record base { side = Card; known = false }
  pub room : c.ifsd ≤ base.room
  pub first : first_ifsd ≤ base.first_room
  pub numbers : Numbers c.expected base

-- the I-block under way was never seen
pub record IsUntold (Q : Number → Type 0) (c : CardState) (w : Watched) : Type 0 where
  pub base : End
  pub is : w.«end» ≡ record base { side = Card; known = true; asked = None; next = c.number; expects = c.expected }
  pub room : c.ifsd ≤ base.room
  pub first : first_ifsd ≤ base.first_room
  pub free : w.doubt ≡ Open
  pub lags : Q c.number

-- the response to RESYNCH was never seen
pub record IsAnewDue (R : Type 0) (w : Watched) : Type 0 where
  pub base : End
  pub is : w.«end» ≡ record base { side = Card }
  pub first : first_ifsd ≤ base.first_room
  pub free : w.doubt ≡ Open
  pub anew : R

-- it asked, and little is known of it else
pub record IsAsking (c : CardState) (asked : CardRequest) (w : Watched) : Type 0 where
  pub base : End
  pub is : w.«end» ≡ record base { side = Card; known = true; asked = Some (question asked) }
  pub room : c.ifsd ≤ base.room
  pub first : first_ifsd ≤ base.first_room
  pub kind : (base.before ≡ AnyBlock) ⊎ IsExact c.number c.expected base

-- its host has its turn, and nothing is known of it else
pub record RestsUnknown (c : CardState) (w : Watched) : Type 0 where
  pub base : End
  pub owes : got_whole w.«end» w.heard ≡ Some (after (record base { side = Card }) AnyBlock)
  pub room : c.ifsd ≤ base.room
  pub first : first_ifsd ≤ base.first_room
  pub numbers : Numbers c.expected base
  pub sizes : HasSizes c.ifsd first_ifsd (overlooked w.«end» w.heard)
  pub was : (((overlooked w.«end» w.heard).known ≡ false) × Numbers c.expected (overlooked w.«end» w.heard))
      ⊎ ((asked : CardRequest) × ((overlooked w.«end» w.heard).known ≡ true)
      × ((overlooked w.«end» w.heard).asked ≡ Some (question asked))
      × ((overlooked w.«end» w.heard).before ≡ AnyBlock))

pub data Loose (Q : Number → Type 0) (R : Type 0) (c : CardState) (w : Watched) : Type 0 where
  loose_untold : IsOwnWaits c.saved c.waits → IsUntold Q c w → Loose Q R c w
  loose_unknown : IsTalk c.waits → IsUnknown c w → Loose Q R c w
  loose_anew : IsCommand c.waits → IsAnewDue R w → Loose Q R c w
  loose_asking : (asked : CardRequest) → c.waits ≡ asking asked → IsAsking c asked w → Loose Q R c w
  loose_rests : c.waits ≡ host → RestsUnknown c w → Loose Q R c w

abbrev pub FitsAny : (Number → Type 0) → Type 0 → CardState → Watched → Type 0
FitsAny Q R c w = Fits c c.waits (plain_of w) ⊎ Loose Q R c w

-- what is known of the terminal after this block
abbrev pub left : (Number → Type 0) → Pcb → Number → Type 0
left Q (Info number goes_on) = λ n. ⊥
left Q (Ready number fault) = Q
left Q (Request s) = Q
left Q (Response Resynch) = λ n. ⊥
left Q (Response Ifs) = Q
left Q (Response Abort) = Q
left Q (Response Wtx) = Q

abbrev pub left_anew : Type 0 → Pcb → Type 0
left_anew R (Info number goes_on) = R
left_anew R (Ready number fault) = R
left_anew R (Request s) = R
left_anew R (Response Resynch) = ⊥
left_anew R (Response Ifs) = R
left_anew R (Response Abort) = R
left_anew R (Response Wtx) = R

-- ---- what a turn leaves

-- the monitor accuses nobody, and still fits
abbrev pub Tells : (Number → Type 0) → Type 0 → CardState → Watched → Parts → Type 0
Tells Q R c w b = TalksIn b.pcb c.waits → IsWithin c.ifsd b.pcb b.inf → (n : ℕ)
    → Passes (Block (judged_of w b).verdict) × FitsAny (left Q b.pcb) (left_anew R b.pcb) c (known_after w b n)

-- what it knows if the tap misses the block
pub data StaleAny (Q : Number → Type 0) (R T : Type 0) (c : CardState) (w : plain.Watched) : Type 0 where
  stale_known : Stale Q R T c w → StaleAny Q R T c w
  stale_unknown : IsTalk c.waits → HasSizes c.ifsd first_ifsd w.«end» → w.«end».known ≡ false
      → Numbers c.expected w.«end» → StaleAny Q R T c w

abbrev pub Says : (Number → Type 0) → Type 0 → Type 0 → Watched → CardTurn → CardState → Type 0
Says Q R T w (Send b) c = Tells Q R c w b × NoAbort b.pcb × AwaitsBlock c.waits
    × ((IsInfo b.pcb → Q c.number) → (IsAnew b.pcb → R) → StaleAny Q R T c (silent (plain_of w)))
Says Q R T w Asks c = AwaitsHost c.waits × FitsAny Q R c w

abbrev pub Leaves : (Number → Type 0) → Type 0 → Type 0 → Watched → CardStep → Type 0
Leaves Q R T w (Ok step) = Says Q R T w step.0 step.1
Leaves Q R T w (Err fault) = Unit {0}

-- it owes any block on some course
pub record AnyCourse (ifsd first_ifsd : ℕ) (w : Watched) : Type 0 where
  pub due : End
  pub course : Course w.«end» w.heard (after (record due { side = Card }) AnyBlock)
  pub room : ifsd ≤ due.room
  pub first : first_ifsd ≤ due.first_room

abbrev pub any_info_end : End → Number → Bool → Bool → End
any_info_end e number goes_on known = record e {
  side = Card;
  next = other number;
  pending = pending_of goes_on;
  asked = None;
  tries = most_repeats;
  row = no_row;
  known = known;
  aborted = false;
}

abbrev pub goes_on_of : Kind → Bool
goes_on_of (listens joined last) = false
goes_on_of (ended joined field) = false
goes_on_of (chain field rest) = true

abbrev pub IsOwn : Kind → Type 0
IsOwn (listens joined last) = ⊥
IsOwn (ended joined field) = Unit {0}
IsOwn (chain field rest) = Unit {0}

pub own_talk : (k : Kind) (c : CardState) → IsTalk (at k c).waits
own_talk (listens joined last) c = tt
own_talk (ended joined field) c = tt
own_talk (chain field rest) c = tt

pub own_waits : (k : Kind) (c : CardState) → IsOwn k → IsOwnWaits (at k c).saved (at k c).waits
own_waits (listens joined last) c h = absurd h
own_waits (ended joined field) c h = tt
own_waits (chain field rest) c h = tt

pub talk_awaits : (waits : Waits) → IsTalk waits → AwaitsBlock waits
talk_awaits (command joined) h = tt
talk_awaits host h = absurd h
talk_awaits (reply field rest) h = tt
talk_awaits (asking asked) h = absurd h

pub own_is_talk : (saved : Option (List ℕ)) (waits : Waits) → IsOwnWaits saved waits → IsTalk waits
own_is_talk saved (command joined) h = tt
own_is_talk saved host h = absurd h
own_is_talk saved (reply field rest) h = tt
own_is_talk saved (asking asked) h = absurd h

pub course_unknown : (e : End) (heard : Heard) → IsTapped heard
    → Course (record e { side = Card; known = false }) heard
    (after (record (untaken_end (record e { known = false }) heard) { side = Card }) AnyBlock)
course_unknown e Beginning h = absurd h
course_unknown e (Whole pcb octet) h = absurd h
course_unknown e (Perhaps (Info number goes_on) octet) h = inr refl
course_unknown e (Perhaps (Ready number fault) octet) h = inr refl
course_unknown e (Perhaps (Request s) octet) h = inr refl
course_unknown e (Perhaps (Response s) octet) h = inr refl
course_unknown e Broken h = inr refl
course_unknown e Nothing h = absurd h

abbrev pub any_course : (c : CardState) (w : Watched) (heard : Heard) → IsTapped heard → IsUnknown c w
    → AnyCourse c.ifsd first_ifsd (hears_it w heard)
any_course c w heard tapped u =
    let due = untaken_end (record u.base { known = false }) heard in
    let sizes = untaken_sizes (record u.base { known = false }) heard in
    record {
      due = due;
      course = subst (λ e. Course e heard (after (record due { side = Card }) AnyBlock)) (sym u.is)
          (course_unknown u.base heard tapped);
      room = subst (λ n. c.ifsd ≤ n) (sym sizes.0) u.room;
      first = subst (λ n. first_ifsd ≤ n) (sym sizes.1) u.first;
    }

pub unknown_sizes : (c : CardState) (w : Watched) (heard : Heard) → IsUnknown c w
    → HasSizes c.ifsd first_ifsd (overlooked w.«end» heard)
unknown_sizes c w heard u = sizes_overlooked c.ifsd first_ifsd w.«end» heard
    (subst (HasSizes c.ifsd first_ifsd) (sym u.is) (record { side = refl; room = u.room; first = u.first }))

pub stays_unknown : (c : CardState) (w : Watched) (heard : Heard) → IsUnknown c w
    → (overlooked w.«end» heard).known ≡ false
stays_unknown c w heard u = overlooked_unknown w.«end» heard (ap (λ (e : End). e.known) u.is)

-- what stays known of its numbers, if it took no I-block
abbrev pub IsQuietPcb : Pcb → Type 0
IsQuietPcb (Info number goes_on) = ⊥
IsQuietPcb (Ready number fault) = Unit {0}
IsQuietPcb (Request s) = Unit {0}
IsQuietPcb (Response s) = Unit {0}

numbers_stay : (c : CardState) (w : Watched) (pcb : Pcb) (octet : ℕ) → IsQuietPcb pcb → (u : IsUnknown c w)
    → Numbers c.expected (overlooked w.«end» (Perhaps pcb octet))
numbers_stay c w (Info number goes_on) octet h u = absurd h
numbers_stay c w (Ready number fault) octet h u =
    subst (λ (e : End). Numbers c.expected (overlooked e (Perhaps (Ready number fault) octet))) (sym u.is) u.numbers
numbers_stay c w (Request Resynch) octet h u =
    subst (λ (e : End). Numbers c.expected (overlooked e (Perhaps (Request Resynch) octet))) (sym u.is) u.numbers
numbers_stay c w (Request Ifs) octet h u =
    subst (λ (e : End). Numbers c.expected (overlooked e (Perhaps (Request Ifs) octet))) (sym u.is) u.numbers
numbers_stay c w (Request Abort) octet h u =
    subst (λ (e : End). Numbers c.expected (overlooked e (Perhaps (Request Abort) octet))) (sym u.is) u.numbers
numbers_stay c w (Request Wtx) octet h u =
    subst (λ (e : End). Numbers c.expected (overlooked e (Perhaps (Request Wtx) octet))) (sym u.is) u.numbers
numbers_stay c w (Response s) octet h u =
    subst (λ (e : End). Numbers c.expected (overlooked e (Perhaps (Response s) octet))) (sym u.is) u.numbers

known_info : (c : CardState) (e : End) → c.ifsd ≤ e.room → first_ifsd ≤ e.first_room → SpareOf c
known_info c e room first = record {
  before = e.before;
  room = e.room;
  first = e.first_room;
  largest = e.largest_room;
  tries = most_repeats;
  row = no_row;
  room_ok = room;
  first_ok = first;
}

-- where Q, R and T say the same of the terminal
module _ (Q : Number → Type 0) (R T : Type 0) where
  says_known : (w : Watched) (turn : CardTurn) (c : CardState) → Said Q R T (plain_of w) turn c → Says Q R T w turn c
  says_known w (Send b) c h =
      let told : Told c w b = record { fine = h.0; fits = h.3 } in (
        (λ talks within n. (told_passes c w b told, inl (told_fits c w b n h.2 talks told))),
        h.1,
        h.2,
        λ own anew. stale_known (h.4 own anew),
      )
  says_known w Asks c h = (h.0, inl h.1)

  pub leaves_known : (w : Watched) (step : CardStep) → Outcome Q R T (plain_of w) step → Leaves Q R T w step
  leaves_known w (Ok step) h = says_known w step.0 step.1 h
  leaves_known w (Err fault) h = tt

  pub tells : (c : CardState) (w : Watched) (b : Parts) (n : ℕ) (e : End) → Passes (Block (judged_of w b).verdict)
      → (judged_of w b).«end» ≡ e → FitsAny (left Q b.pcb) (left_anew R b.pcb) c (kept_after w b n e)
      → Passes (Block (judged_of w b).verdict) × FitsAny (left Q b.pcb) (left_anew R b.pcb) c (known_after w b n)
  tells c w b n e passed is fits =
      (passed, subst (FitsAny (left Q b.pcb) (left_anew R b.pcb) c) (sym (is_kept w b n e passed is)) fits)

  -- ---- an end that owes any block

  pub any_ready : (c : CardState) (w : Watched) (fault : Fault) → IsTalk c.waits
      → AnyCourse c.ifsd first_ifsd w → Tells Q R c w (ready c.expected fault)
  any_ready c w fault talk a talks within n =
      let e = record a.due { side = Card; expects = c.expected; asked = None; known = false } in
      let b = ready c.expected fault in
      let now = on_course w b (after (record a.due { side = Card }) AnyBlock) e a.course refl in
      tells c w b n e now.0 now.1 (inr (loose_unknown talk (record {
        base = record a.due { expects = c.expected; asked = None };
        is = not_tried w.doubt e;
        room = a.room;
        first = a.first;
        numbers = inr (inr refl);
      })))

  pub any_size : (c : CardState) (w : Watched) (inf : List ℕ) → IsTalk c.waits → c.ifsd ≤ carried inf
      → (a : AnyCourse 0 first_ifsd w) → Numbers c.expected a.due → Tells Q R c w (response Ifs inf)
  any_size c w inf talk room a numbers talks within n =
      let e = record a.due {
        side = Card;
        asked = None;
        known = false;
        room = carried inf;
        largest_room = repeatable a.due;
        row = no_row;
      } in
      let b = response Ifs inf in
      let now = on_course w b (after (record a.due { side = Card }) AnyBlock) e a.course refl in
      tells c w b n e now.0 now.1 (inr (loose_unknown talk (record {
        base = record a.due { asked = None; room = carried inf; largest_room = repeatable a.due; row = no_row };
        is = not_tried w.doubt e;
        room = room;
        first = a.first;
        numbers = numbers;
      })))

  pub info_fits : (c : CardState) (k : Kind) (w : Watched) (n : ℕ) (e : End) (known : Bool) → IsOwn k
      → c.ifsd ≤ e.room → first_ifsd ≤ e.first_room → (known ≡ true → e.expects ≡ c.expected)
      → FitsAny (λ m. ⊥) R (at k c)
      (kept_after w (info c.number (goes_on_of k) (last_of k)) n (any_info_end e c.number (goes_on_of k) known))
  info_fits c (listens joined last) w n e known own room first numbers = absurd own
  info_fits c (ended joined field) w n e true own room first numbers = inl (
    record {
      before = e.before;
      room = e.room;
      first = e.first_room;
      largest = e.largest_room;
      tries = most_repeats;
      row = no_row;
      room_ok = room;
      first_ok = first;
    },
    ap (λ (f : End). watched f Nothing field)
        (most (is_open w.doubt && true) (any_info_end e c.number false true)
        ∙ ap (λ (x : Number). record (any_info_end e c.number false true) { expects = x }) (numbers refl)),
  )
  info_fits c (chain field rest) w n e true own room first numbers = inl (
    record {
      before = e.before;
      room = e.room;
      first = e.first_room;
      largest = e.largest_room;
      tries = most_repeats;
      row = no_row;
      room_ok = room;
      first_ok = first;
    },
    ap (λ (f : End). watched f Nothing field)
        (most (is_open w.doubt && true) (any_info_end e c.number true true)
        ∙ ap (λ (x : Number). record (any_info_end e c.number true true) { expects = x }) (numbers refl)),
  )
  info_fits c (ended joined field) w n e false own room first numbers = inr (loose_unknown tt (record {
    base = any_info_end e c.number false false;
    is = most (is_open w.doubt && true) (any_info_end e c.number false false);
    room = room;
    first = first;
    numbers = inr (inl refl);
  }))
  info_fits c (chain field rest) w n e false own room first numbers = inr (loose_unknown tt (record {
    base = any_info_end e c.number true false;
    is = most (is_open w.doubt && true) (any_info_end e c.number true false);
    room = room;
    first = first;
    numbers = inr (inl refl);
  }))

  pub any_info : (c : CardState) (k : Kind) (w : Watched) → IsOwn k → (a : AnyCourse c.ifsd first_ifsd w)
      → Numbers c.expected a.due
      → Tells Q R (at k c) w (info c.number (goes_on_of k) (last_of k))
  any_info c k w own a numbers talks within n =
      let next = same c.number a.due.next && not a.due.aborted in
      let known = is_next a.due.before a.due.pending next in
      let e = any_info_end (record a.due { before = NewMessage }) c.number (goes_on_of k) known in
      let b = info c.number (goes_on_of k) (last_of k) in
      let now = on_course w b (after (record a.due { side = Card }) AnyBlock) e a.course
      (is_then (nat_le (length (last_of k)) (repeatable a.due)) _ _
      (within_room (length (last_of k)) c.ifsd a.due.room a.due.largest_room (in_room k c within) a.room)) in
      tells (at k c) w b n e now.0 now.1
      (info_fits c k w n (record a.due { before = NewMessage }) known own a.room a.first
      (numbers_of a.due.before a.due.pending next a.due.expects c.expected numbers))
    where
      in_room : (k : Kind) (c : CardState)
          → IsWithin (at k c).ifsd (Info c.number (goes_on_of k)) (last_of k) → length (last_of k) ≤ c.ifsd
      in_room (listens joined last) c h = h
      in_room (ended joined field) c h = h
      in_room (chain field rest) c h = h

  -- ---- RESYNCH, whatever is known

  anew_tells : (limits : Limits) (ifsc : ℕ) (w : Watched) (e : End) (octet : ℕ) → w.«end» ≡ record e { side = Card }
      → first_ifsd ≤ e.first_room
      → Tells Q R (card_with limits ifsc) (hears_it w (Perhaps (Request Resynch) octet)) (response Resynch [])
  anew_tells limits ifsc w e octet is first talks within n =
      let heard = Perhaps (Request Resynch) octet in
      let e0 = record e { side = Card } in
      let e1 = begun e0 in
      let b = response Resynch [] in
      let now = on_course (hears_it w heard) b (after e0 (Answer Resynch 0)) e1
      (inl (subst (λ (x : End). got_whole x heard ≡ Some (after e0 (Answer Resynch 0))) (sym is) refl)) refl in
      tells (card_with limits ifsc) (hears_it w heard) b n e1 now.0 now.1 (inl (
        w.last.items,
        (
          record {
            before = NewMessage;
            room = widest e;
            first = e.first_room;
            largest = widest e;
            tries = 0;
            row = no_row;
            room_ok = omega (arith, first);
            first_ok = first;
          },
          ap (λ (f : End). watched f Nothing w.last.items) (not_tried w.doubt e1),
        ),
      ))

  pub anew_says : (c : CardState) (w : Watched) (e : End) (octet : ℕ) → w.«end» ≡ record e { side = Card }
      → first_ifsd ≤ e.first_room
      → Leaves Q R T (hears_it w (Perhaps (Request Resynch) octet)) (resynched c)
  anew_says c w e octet is first = (
    anew_tells c.limits c.first_ifsc w e octet is first,
    tt,
    tt,
    λ own anew. stale_known (owes_anew tt (anew tt) (sizes_overlooked 0 first_ifsd w.«end»
        (Perhaps (Request Resynch) octet)
        (subst (HasSizes 0 first_ifsd) (sym is) (record { side = refl; room = omega arith; first = first })))),
  )

  -- ---- an end of which nothing is known takes what came

  abbrev again : (c c1 : CardState) (w : Watched) → IsUnknown c w → c1.ifsd ≡ c.ifsd → c1.expected ≡ c.expected
      → IsUnknown c1 w
  again c c1 w u i x = record {
    base = u.base;
    is = u.is;
    room = subst (λ n. n ≤ u.base.room) (sym i) u.room;
    first = u.first;
    numbers = subst (λ n. Numbers n u.base) (sym x) u.numbers;
  }

  -- an I-block comes to a card that waits for one, and whose last reply was taken
  abbrev pub Due : CardState → Pcb → Type 0
  Due c (Info number goes_on) = IsCommand c.waits × T × ((c.saved ≡ None) ⊎ (Q c.number → ⊥))
  Due c (Ready number fault) = Unit {0}
  Due c (Request s) = Unit {0}
  Due c (Response s) = Unit {0}

  pub unknown_stale : (c c1 : CardState) (w : Watched) (pcb : Pcb) (octet : ℕ) → IsTalk c1.waits → c1.ifsd ≡ c.ifsd
      → c1.expected ≡ c.expected → Due c1 pcb → IsUnknown c w
      → StaleAny Q R T c1 (silent (plain_of (hears_it w (Perhaps pcb octet))))
  unknown_stale c c1 w (Info number goes_on) octet talk i x (waiting_now, t, taken) u =
      let v = again c c1 w u i x in
      stale_known (owes_ready waiting_now t taken (unknown_sizes c1 w (Perhaps (Info number goes_on) octet) v)
      (behind_unknown (stays_unknown c1 w (Perhaps (Info number goes_on) octet) v)))
  unknown_stale c c1 w (Ready number fault) octet talk i x due u =
      let v = again c c1 w u i x in
      stale_unknown talk (unknown_sizes c1 w (Perhaps (Ready number fault) octet) v)
      (stays_unknown c1 w (Perhaps (Ready number fault) octet) v) (numbers_stay c1 w (Ready number fault) octet tt v)
  unknown_stale c c1 w (Request s) octet talk i x due u =
      let v = again c c1 w u i x in
      stale_unknown talk (unknown_sizes c1 w (Perhaps (Request s) octet) v)
      (stays_unknown c1 w (Perhaps (Request s) octet) v) (numbers_stay c1 w (Request s) octet tt v)
  unknown_stale c c1 w (Response s) octet talk i x due u =
      let v = again c c1 w u i x in
      stale_unknown talk (unknown_sizes c1 w (Perhaps (Response s) octet) v)
      (stays_unknown c1 w (Perhaps (Response s) octet) v) (numbers_stay c1 w (Response s) octet tt v)

  unknown_errs : (c : CardState) (w : Watched) (pcb : Pcb) (octet : ℕ) (fault : Fault) → IsTalk c.waits → Due c pcb
      → IsUnknown c w
      → Leaves Q R T (hears_it w (Perhaps pcb octet)) (Ok (Send (ready c.expected fault), c))
  unknown_errs c w pcb octet fault talk due u = (
    any_ready c (hears_it w (Perhaps pcb octet)) fault talk (any_course c w (Perhaps pcb octet) tt u),
    tt,
    talk_awaits c.waits talk,
    λ own anew. unknown_stale c c w pcb octet talk refl refl due u,
  )

  size_room : (c : CardState) (w : Watched) (n : ℕ) → IsUnknown c w
      → HasSizes n first_ifsd (overlooked w.«end» (Perhaps (Request Ifs) n))
  size_room c w n u = subst (λ (e : End). HasSizes n first_ifsd (overlooked e (Perhaps (Request Ifs) n))) (sym u.is)
      (record { side = refl; room = omega arith; first = u.first })

  unknown_either : (c : CardState) (w : Watched) (sent : Pcb) (octet : ℕ) (came : Came) → IsTalk c.waits
      → Plain (Due c (Info Zero true)) came → Due c sent → IsUnknown c w
      → Leaves Q R T (hears_it w (tap_heard sent octet came)) (in_either c came)
  unknown_either c w sent octet (got (Info number goes_on) inf) talk h due u =
      unknown_errs c w (Info number goes_on) (carried inf) Other talk h u
  unknown_either c w sent octet (got (Ready number fault) inf) talk h due u =
      unknown_errs c w (Ready number fault) (carried inf) Other talk tt u
  unknown_either c w sent octet (got (Request Resynch) inf) talk h due u =
      unknown_errs c w (Request Resynch) (carried inf) Other talk tt u
  unknown_either c w sent octet (got (Request Ifs) inf) talk h due u =
      let heard = Perhaps (Request Ifs) (carried inf) in
      let c1 = record c { ifsd = carried inf } in
      let a = any_course c w heard tt u in (
        any_size c1 (hears_it w heard) inf talk (omega arith)
            (record { due = a.due; course = a.course; room = omega arith; first = a.first }) u.numbers,
        tt,
        talk_awaits c.waits talk,
        λ own anew. stale_unknown talk (size_room c w (carried inf) u) (stays_unknown c w heard u)
            (numbers_stay c w (Request Ifs) (carried inf) tt u),
      )
  unknown_either c w sent octet (got (Request Abort) inf) talk h due u = absurd h
  unknown_either c w sent octet (got (Request Wtx) inf) talk h due u =
      unknown_errs c w (Request Wtx) (carried inf) Other talk tt u
  unknown_either c w sent octet (got (Response s) inf) talk h due u =
      unknown_errs c w (Response s) (carried inf) Other talk tt u
  unknown_either c w sent octet damaged talk h due u = unknown_errs c w sent octet Redundancy talk due u
  unknown_either c w sent octet invalid talk h due u = unknown_errs c w sent octet Other talk due u
  unknown_either c w sent octet quiet talk h due u = (
    any_ready c (hears_it w Broken) Other talk (any_course c w Broken tt u),
    tt,
    talk_awaits c.waits talk,
    λ own anew. stale_unknown talk (unknown_sizes c w Broken u) (stays_unknown c w Broken u)
        (subst (λ (e : End). Numbers c.expected (overlooked e Broken)) (sym u.is) u.numbers),
  )

  -- the I-block under way again
  unknown_repeats : (c : CardState) (k : Kind) (w : Watched) (number : Number) (fault : Fault) (octet : ℕ)
      → IsOwn k → IsUnknown c w
      → Leaves Q R T (hears_it w (Perhaps (Ready number fault) octet))
      (Ok (Send (info c.number (goes_on_of k) (last_of k)), at k c))
  unknown_repeats c (listens joined last) w number fault octet own u = absurd own
  unknown_repeats c (ended joined field) w number fault octet own u = (
    any_info c (ended joined field) (hears_it w (Perhaps (Ready number fault) octet)) tt
        (any_course c w (Perhaps (Ready number fault) octet) tt u) u.numbers,
    tt,
    tt,
    λ later anew. unknown_stale c (at (ended joined field) c) w (Ready number fault) octet tt refl refl tt u,
  )
  unknown_repeats c (chain field rest) w number fault octet own u = (
    any_info c (chain field rest) (hears_it w (Perhaps (Ready number fault) octet)) tt
        (any_course c w (Perhaps (Ready number fault) octet) tt u) u.numbers,
    tt,
    tt,
    λ later anew. unknown_stale c (at (chain field rest) c) w (Ready number fault) octet tt refl refl tt u,
  )

  -- the next one
  pub any_begins : (c : CardState) (w : Watched) (field rest : List ℕ) → (a : AnyCourse c.ifsd first_ifsd w)
      → Numbers c.expected a.due
      → Tells Q R (record c { saved = saving c.saved field rest; waits = waiting field rest }) w
      (info c.number (is_more rest) field)
  any_begins c w field [] a numbers = any_info c (ended [] field) w tt a numbers
  any_begins c w field (octet ∷ rest) a numbers = any_info c (chain field (octet ∷ rest)) w tt a numbers

  pub waiting_talk : (field rest : List ℕ) → IsTalk (waiting field rest)
  waiting_talk field [] = tt
  waiting_talk field (octet ∷ rest) = tt

  unknown_next : (c : CardState) (w : Watched) (number : Number) (fault : Fault) (octet : ℕ) (octets : List ℕ)
      → IsUnknown c w
      → Leaves Q R T (hears_it w (Perhaps (Ready number fault) octet)) (sends_next c octets)
  unknown_next c w number fault octet octets u =
      let heard = Perhaps (Ready number fault) octet in
      let field = take c.ifsd octets in
      let rest = drop c.ifsd octets in (
        any_begins c (hears_it w heard) field rest (any_course c w heard tt u) u.numbers,
        tt,
        talk_awaits (waiting field rest) (waiting_talk field rest),
        λ own anew. unknown_stale c (record c { saved = saving c.saved field rest; waits = waiting field rest }) w
            (Ready number fault) octet (waiting_talk field rest) refl refl tt u,
      )

  -- an I-block of the command
  unknown_joins : (c : CardState) (w : Watched) (joined : List ℕ) (number : Number) (goes_on : Bool) (octet : ℕ)
      → same number c.expected ≡ true → T → IsUnknown c w
      → Leaves Q R T (hears_it w (Perhaps (Info number goes_on) octet)) (joins c joined goes_on)
  unknown_joins c w joined number true octet in_order t u =
      let heard = Perhaps (Info number true) octet in
      let c1 = record c {
        number = number_after c.saved c.number;
        saved = None;
        expected = other c.expected;
        command = [];
        waits = command joined;
      } in
      let a = any_course c w heard tt u in (
        any_ready c1 (hears_it w heard) Free tt
            (record { due = a.due; course = a.course; room = a.room; first = a.first }),
        tt,
        tt,
        λ own anew. stale_known (owes_ready tt t (inl refl) (unknown_sizes c w heard u)
            (behind_unknown (stays_unknown c w heard u))),
      )
  unknown_joins c w joined number false octet in_order t u =
      let heard = Perhaps (Info number false) octet in
      let e1 = record u.base { known = false; expects = other number; pending = Settled; aborted = false } in
      let expects : other number ≡ other c.expected = ap other (same_is number c.expected in_order) in (
        (λ b. b),
        inr (loose_rests refl (record {
          base = e1;
          owes = subst (λ (e : End). got_whole e heard ≡ Some (after (record e1 { side = Card }) AnyBlock)) (sym u.is)
              refl;
          room = u.room;
          first = u.first;
          numbers = inr (inr expects);
          sizes = unknown_sizes c w heard u;
          was = inl (
            stays_unknown c w heard u,
            inr (inr (subst (λ (e : End). (overlooked e heard).expects ≡ other c.expected) (sym u.is) expects)),
          );
        })),
      )

  unknown_saved : (c : CardState) (joined : List ℕ) (saved : Option (List ℕ)) (is_own : Bool) (w : Watched)
      (number : Number) (fault : Fault) (octet : ℕ) → IsUnknown c w
      → Leaves Q R T (hears_it w (Perhaps (Ready number fault) octet))
      (sends_saved (record c { saved = saved; waits = command joined }) saved is_own)
  unknown_saved c joined None is_own w number fault octet u =
      unknown_errs (record c { saved = None; waits = command joined }) w (Ready number fault) octet Free tt tt
      (again c (record c { saved = None; waits = command joined }) w u refl refl)
  unknown_saved c joined (Some field) true w number fault octet u =
      unknown_repeats c (ended joined field) w number fault octet tt u
  unknown_saved c joined (Some field) false w number fault octet u =
      unknown_errs (record c { saved = Some field; waits = command joined }) w (Ready number fault) octet Free tt tt
      (again c (record c { saved = Some field; waits = command joined }) w u refl refl)

  unknown_side : (c : CardState) (w : Watched) → (u : IsUnknown c w)
      → w.«end» ≡ record (record u.base { known = false }) { side = Card }
  unknown_side c w u = u.is

  pub unknown_command : (c : CardState) (joined : List ℕ) (w : Watched) (sent : Pcb) (octet : ℕ) (came : Came)
      → Plain (Due (record c { waits = command joined }) (Info Zero true)) came
      → Due (record c { waits = command joined }) sent → IsUnknown c w
      → Leaves Q R T (hears_it w (tap_heard sent octet came))
      (card_came (record c { waits = command joined }) (command joined) came)
  unknown_command c joined w sent octet (got (Info number goes_on) inf) h due u =
      let c1 = record c { waits = command joined } in
      let v = again c c1 w u refl refl in
      with_test (Leaves Q R T (hears_it w (Perhaps (Info number goes_on) (carried inf))))
      (same number c.expected && nat_le (length joined + length inf) c.limits.command) _ _
      (λ k. unknown_joins c1 w (joined ++ inf) number goes_on (carried inf) (first_of_both _ _ k) h.1 v)
      (λ k. unknown_either c1 w sent octet (got (Info number goes_on) inf) tt h due v)
  unknown_command c joined w sent octet (got (Ready number fault) inf) h due u =
      unknown_saved c joined c.saved (same number c.number) w number fault (carried inf) u
  unknown_command c joined w sent octet (got (Request Resynch) inf) h due u =
      anew_says (record c { waits = command joined }) w (record u.base { known = false }) (carried inf) u.is u.first
  unknown_command c joined w sent octet (got (Request Ifs) inf) h due u =
      unknown_either (record c { waits = command joined }) w sent octet (got (Request Ifs) inf) tt tt due
      (again c (record c { waits = command joined }) w u refl refl)
  unknown_command c joined w sent octet (got (Request Abort) inf) h due u = absurd h
  unknown_command c joined w sent octet (got (Request Wtx) inf) h due u =
      unknown_either (record c { waits = command joined }) w sent octet (got (Request Wtx) inf) tt tt due
      (again c (record c { waits = command joined }) w u refl refl)
  unknown_command c joined w sent octet (got (Response s) inf) h due u =
      unknown_either (record c { waits = command joined }) w sent octet (got (Response s) inf) tt tt due
      (again c (record c { waits = command joined }) w u refl refl)
  unknown_command c joined w sent octet damaged h due u =
      unknown_either (record c { waits = command joined }) w sent octet damaged tt tt due
      (again c (record c { waits = command joined }) w u refl refl)
  unknown_command c joined w sent octet invalid h due u =
      unknown_either (record c { waits = command joined }) w sent octet invalid tt tt due
      (again c (record c { waits = command joined }) w u refl refl)
  unknown_command c joined w sent octet quiet h due u =
      unknown_either (record c { waits = command joined }) w sent octet quiet tt tt due
      (again c (record c { waits = command joined }) w u refl refl)

  pub unknown_reply : (c : CardState) (field rest : List ℕ) (w : Watched) (sent : Pcb) (octet : ℕ) (came : Came)
      → Plain (Due (record c { waits = reply field rest }) (Info Zero true)) came
      → Due (record c { waits = reply field rest }) sent → IsUnknown c w
      → Leaves Q R T (hears_it w (tap_heard sent octet came))
      (card_came (record c { waits = reply field rest }) (reply field rest) came)
  unknown_reply c field rest w sent octet (got (Info number goes_on) inf) h due u = absurd h.0
  unknown_reply c field rest w sent octet (got (Ready number fault) inf) h due u =
      with_test (Leaves Q R T (hears_it w (Perhaps (Ready number fault) (carried inf)))) (same number c.number) _ _
      (λ k. unknown_repeats c (chain field rest) w number fault (carried inf) tt u)
      (λ k. unknown_next (record c { number = other c.number; waits = reply field rest }) w number fault (carried inf)
      rest
      (again c (record c { number = other c.number; waits = reply field rest }) w u refl refl))
  unknown_reply c field rest w sent octet (got (Request Resynch) inf) h due u =
      anew_says (record c { waits = reply field rest }) w (record u.base { known = false }) (carried inf) u.is u.first
  unknown_reply c field rest w sent octet (got (Request Ifs) inf) h due u =
      unknown_either (record c { waits = reply field rest }) w sent octet (got (Request Ifs) inf) tt tt due
      (again c (record c { waits = reply field rest }) w u refl refl)
  unknown_reply c field rest w sent octet (got (Request Abort) inf) h due u = absurd h
  unknown_reply c field rest w sent octet (got (Request Wtx) inf) h due u =
      unknown_either (record c { waits = reply field rest }) w sent octet (got (Request Wtx) inf) tt tt due
      (again c (record c { waits = reply field rest }) w u refl refl)
  unknown_reply c field rest w sent octet (got (Response s) inf) h due u =
      unknown_either (record c { waits = reply field rest }) w sent octet (got (Response s) inf) tt tt due
      (again c (record c { waits = reply field rest }) w u refl refl)
  unknown_reply c field rest w sent octet damaged h due u =
      unknown_either (record c { waits = reply field rest }) w sent octet damaged tt tt due
      (again c (record c { waits = reply field rest }) w u refl refl)
  unknown_reply c field rest w sent octet invalid h due u =
      unknown_either (record c { waits = reply field rest }) w sent octet invalid tt tt due
      (again c (record c { waits = reply field rest }) w u refl refl)
  unknown_reply c field rest w sent octet quiet h due u =
      unknown_either (record c { waits = reply field rest }) w sent octet quiet tt tt due
      (again c (record c { waits = reply field rest }) w u refl refl)
