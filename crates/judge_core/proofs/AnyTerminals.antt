-- The terminal of `t1_core`, whatever the monitor knows of it.
use Rattle.std.proofs.Common.{inl, inr, ◌≡◌, ◌⊎◌, ℕ, ◌+◌, ◌≤◌, List, [], ◌∷◌, length, take, drop, refl, sym, ap, ◌∙◌, subst, arith}
use Rattle.std.specs.Prelude.{Bool, true, false, ◌==◌, if◌then◌else◌, nat_le, nat_lt, Some, None, Ok, Err}
use Rattle.std.proofs.lemmas.Bool.Decides.{nat_tests}
use Rattle.block_core.specs.declared.pcb.Number.{Number}
use Rattle.block_core.specs.declared.pcb.Number.TheVariants.{Zero}
use Rattle.block_core.specs.declared.pcb.S.TheVariants.{Resynch, Ifs, Abort, Wtx}
use Rattle.block_core.specs.declared.pcb.Pcb.{Pcb}
use Rattle.block_core.specs.declared.pcb.Pcb.TheVariants.{Info, Ready, Request, Response}
use Rattle.block_core.specs.declared.side.Side.TheVariants.{Terminal}
use Rattle.t1_core.specs.declared.turns.TerminalTurn.TheVariants.{Send, Dead}
use Rattle.t1_core.specs.declared.turns.TerminalFault.TheVariants.{TooLong, Reserved}
use Rattle.t1_core.specs.Came.{Came, got, damaged, invalid, quiet, carried, request}
use Rattle.t1_core.specs.Terminal.{first_ifsd, TerminalState, TerminalStep, TerminalInput, Waits, idle, ack, answer, more, ifs, resynch, dead, most_repeats, most_resynchs, transmit, ask_ifs, takes, fails, sends_next, in_ack, in_answer, in_ifs, in_resynch, terminal_came, terminal_turn, if_idle, is_reserved, waiting, no_failure}
use Rattle.judge_core.specs.declared.end.Pending.TheVariants.{Settled}
use Rattle.judge_core.specs.declared.end.Asked.TheVariants.{Size, Anew}
use Rattle.judge_core.specs.declared.end.Owed.{Owed}
use Rattle.judge_core.specs.declared.end.Owed.TheVariants.{NewMessage, SameRequest, AnyBlock}
use Rattle.judge_core.specs.declared.end.End.{End}
use Rattle.judge_core.specs.declared.end.After.{After}
use Rattle.judge_core.specs.declared.courses.Heard.{Heard}
use Rattle.judge_core.specs.declared.courses.Heard.TheVariants.{Beginning, Whole, Perhaps, Broken, Nothing}
use Rattle.judge_core.specs.declared.doubt.Doubt.{Doubt}
use Rattle.judge_core.specs.declared.doubt.Doubt.TheVariants.{Open}
use Rattle.judge_core.specs.declared.monitor.Watched.{Watched}
use Rattle.judge_core.specs.Courses.{got_whole}
use Rattle.judge_core.specs.Doubts.{overlooked, waited}
use Rattle.judge_core.specs.Ends.{after, answers, begun, no_row, widest}
use Rattle.judge_core.specs.Sends.{is_waiting, sends}
use Rattle.judge_core.specs.Watched as plain
use Rattle.judge_core.proofs.Openly.{overlooked_again, overlooked_unknown}
use Rattle.judge_core.proofs.Passes.{Fewer, asking_at, equal_self, Course, certain, maybe, is_then, watched, with_test}
use Rattle.judge_core.proofs.SeenTerminals.{plain_of}
use Rattle.judge_core.proofs.Terminals.{IsCall, Core, sizing, core_overlooked, Fits, HasSizes, InTalk, IsBusy, IsExact, Kind, Stale, at, beginning, chain, ends, further, fits_hearing, from_resynch, from_size, is_asking, keeps, silent, size_before, size_unknown, sizes_overlooked, takes_well, calls_well}
use Rattle.judge_core.proofs.MissedTerminals.{unknown_stale, AnyCourse, FitsAny, IsBeginning, IsPlainCame, IsSizing, IsTapped, Leaves, Loose, RestsUnknown, Tells, any_begins, hears_it, leaves_known, not_tried, on_course, stays_unknown, talk_busy, tap_heard, tells, unknown_ack, unknown_answer, unknown_more, unknown_sizes, waiting_talk}
use Rattle.judge_core.specs.Sends.{after_answer}
use Rattle.judge_core.specs.Doubts.{is_turn, waited_doubt}
use Rattle.judge_core.proofs.SeenTerminals.{waited_fits}
use Rattle.judge_core.proofs.OpenTerminals.{AsksAgain, IsOwnWaits, SizeEnd, is_end, no_due, one_due, open_end, open_resynch, open_tells, opened, size_again_out, size_end, size_end_fits, size_openly, untold_ack, untold_answer, untold_end, untold_stale}

-- ---- what the monitor keeps after a silence

-- the sizes of a known end
fits_sizes : (t : TerminalState) (k : Kind) (w : plain.Watched) → InTalk ⊥ t k w → HasSizes t.ifsc t.first_ifsc w.«end»
fits_sizes t k w (x, is) = subst (λ (u : plain.Watched). HasSizes t.ifsc t.first_ifsc u.«end») (sym is)
    (record { side = refl; room = x.spare.room_ok; first = x.spare.first_ok })

-- nothing was heard since its block
abbrev pub IsQuiet : Heard → Type 0
IsQuiet Beginning = ⊥
IsQuiet (Whole pcb octet) = ⊥
IsQuiet (Perhaps pcb octet) = ⊥
IsQuiet Broken = Unit {0}
IsQuiet Nothing = Unit {0}

quiet_same : (e : End) (heard : Heard) → IsQuiet heard → overlooked e heard ≡ e
quiet_same e Beginning h = absurd h
quiet_same e (Whole pcb octet) h = absurd h
quiet_same e (Perhaps pcb octet) h = absurd h
quiet_same e Broken h = overlooked_again e
quiet_same e Nothing h = overlooked_again e

still_free : (b : Bool) (d : Doubt) → d ≡ Open → waited_doubt b d ≡ Open
still_free true d h = refl
still_free false d h = rw h refl

-- where Q holds of a number, the card didn't take the I-block with it
module _ (Q : Number → Type 0) where
  -- the monitor would go on from what it knows, if the tap missed the next block
  size_stale : (t : TerminalState) (size : ℕ) (w : Watched) (e : End) (heard : Heard)
      → w.«end» ≡ record e { side = Terminal; known = true; asked = Some (Size size) }
      → t.ifsc ≤ e.room → t.first_ifsc ≤ e.first_room → (e.before ≡ AnyBlock) ⊎ IsExact t.number t.expected e
      → Stale ⊥ Q t (ifs size) (silent ⊥ (plain_of (hears_it w heard)))
  size_stale t size w e heard is room first kind =
      let f = record e { side = Terminal; known = true; asked = Some (Size size) } in
      let c = core_overlooked f heard refl in
      subst (λ (x : End). Stale ⊥ Q t (ifs size) (silent ⊥ (watched x heard w.last.items))) (sym is) (
        sizes_overlooked t.ifsc t.first_ifsc f heard (record { side = refl; room = room; first = first }),
        size_before size c.0 c.1 (go kind c),
      )
    where
      go : (e.before ≡ AnyBlock) ⊎ IsExact t.number t.expected e
          → Core (record e { side = Terminal; known = true; asked = Some (Size size) })
          (overlooked (record e { side = Terminal; known = true; asked = Some (Size size) }) heard)
          → ((overlooked (record e { side = Terminal; known = true; asked = Some (Size size) }) heard).before ≡
          AnyBlock)
          ⊎ IsExact t.number t.expected
          (overlooked (record e { side = Terminal; known = true; asked = Some (Size size) }) heard)
      go (inl any) c = inl (c.2 ∙ any)
      go (inr (b, n, x)) c = inr (c.2 ∙ b, c.3 ∙ n, c.4 ∙ x)

  known_stale : (t : TerminalState) (waits : Waits) (w : Watched) → IsBusy waits → Fits ⊥ t waits (plain_of w)
      → Fits ⊥ t waits (plain_of (waited w))
      → Stale ⊥ Q t waits (silent ⊥ (plain_of w))
  known_stale t idle w h fits after = absurd h
  known_stale t (ack field rest) w h fits after = (
    sizes_overlooked t.ifsc t.first_ifsc w.«end» w.heard (fits_sizes t (chain field rest) (plain_of w) fits),
    keeps after,
  )
  known_stale t (answer field) w h fits after = (
    sizes_overlooked t.ifsc t.first_ifsc w.«end» w.heard (fits_sizes t (ends field) (plain_of w) fits),
    keeps after,
  )
  known_stale t (more joined) w h fits after = (
    sizes_overlooked t.ifsc t.first_ifsc w.«end» w.heard
        (fits_sizes t (further joined fits.0) (plain_of w) fits.1),
    (after.0, keeps after.1),
  )
  known_stale t (ifs size) w h (x, pending, aborted, last, tries, few, is) after =
      size_stale t size w (sizing ⊥ t x pending aborted tries size) w.heard
      (ap (λ (u : plain.Watched). u.«end») is) x.room_ok x.first_ok (inr (refl, refl, refl))
  known_stale t (resynch asked) w h (room, first, largest, last, tries, few, ok, room_ok, is) after =
      sizes_overlooked 0 t.first_ifsc w.«end» w.heard
      (subst (λ (u : plain.Watched). HasSizes 0 t.first_ifsc u.«end») (sym is)
      (record { side = refl; room = omega arith; first = ok }))
  known_stale t dead w h fits after = absurd h

  loose_stale : (t : TerminalState) (waits : Waits) (w : Watched) → IsBusy waits → Loose Q t waits w
      → Stale ⊥ Q t waits (silent ⊥ (plain_of w))
  loose_stale t idle w h loose = absurd h
  loose_stale t (ack field rest) w h (inl u) =
      subst (λ (v : Watched). Stale ⊥ Q t (ack field rest) (silent ⊥ (plain_of v)))
      (sym (opened w (untold_end t u.base) w.heard u.is u.free))
      (untold_stale Q t (ack field rest) w u.base w.heard tt u.lags u.room u.first)
  loose_stale t (ack field rest) w h (inr u) =
      unknown_stale Q t (ack field rest) (silent ⊥ (plain_of w)) tt (unknown_sizes t w w.heard u)
      (stays_unknown t w w.heard u)
  loose_stale t (answer field) w h (inl u) =
      subst (λ (v : Watched). Stale ⊥ Q t (answer field) (silent ⊥ (plain_of v)))
      (sym (opened w (untold_end t u.base) w.heard u.is u.free))
      (untold_stale Q t (answer field) w u.base w.heard tt u.lags u.room u.first)
  loose_stale t (answer field) w h (inr u) =
      unknown_stale Q t (answer field) (silent ⊥ (plain_of w)) tt (unknown_sizes t w w.heard u)
      (stays_unknown t w w.heard u)
  loose_stale t (more joined) w h u =
      unknown_stale Q t (more joined) (silent ⊥ (plain_of w)) tt (unknown_sizes t w w.heard u)
      (stays_unknown t w w.heard u)
  loose_stale t (ifs size) w h s = size_stale t size w s.base w.heard s.is s.room s.first s.kind
  loose_stale t (resynch asked) w h b =
      sizes_overlooked 0 t.first_ifsc w.«end» w.heard
      (subst (HasSizes 0 t.first_ifsc) (sym b.is) (record { side = refl; room = omega arith; first = b.first }))
  loose_stale t dead w h loose = absurd h

  pub any_stale : (t : TerminalState) (w : Watched) → IsBusy t.waits → FitsAny Q t t.waits w
      → Stale ⊥ Q t t.waits (silent ⊥ (plain_of w))
  any_stale t w h (inl fits) = known_stale t t.waits w h fits (waited_fits t w h fits)
  any_stale t w h (inr loose) = loose_stale t t.waits w h loose

  -- a silence after its own block changes nothing
  loose_waited : (t : TerminalState) (waits : Waits) (w : Watched) → IsBusy waits → IsQuiet w.heard
      → Loose Q t waits w → Loose Q t waits (waited w)
  loose_waited t idle w h quiet_now loose = absurd h
  loose_waited t (ack field rest) w h quiet_now (inl u) = inl (record {
    base = u.base;
    is = quiet_same w.«end» w.heard quiet_now ∙ u.is;
    room = u.room;
    first = u.first;
    free = still_free (is_turn w.heard) w.doubt u.free;
    lags = u.lags;
  })
  loose_waited t (ack field rest) w h quiet_now (inr u) = inr (record {
    base = u.base;
    is = quiet_same w.«end» w.heard quiet_now ∙ u.is;
    room = u.room;
    first = u.first;
    numbers = u.numbers;
  })
  loose_waited t (answer field) w h quiet_now (inl u) = inl (record {
    base = u.base;
    is = quiet_same w.«end» w.heard quiet_now ∙ u.is;
    room = u.room;
    first = u.first;
    free = still_free (is_turn w.heard) w.doubt u.free;
    lags = u.lags;
  })
  loose_waited t (answer field) w h quiet_now (inr u) = inr (record {
    base = u.base;
    is = quiet_same w.«end» w.heard quiet_now ∙ u.is;
    room = u.room;
    first = u.first;
    numbers = u.numbers;
  })
  loose_waited t (more joined) w h quiet_now u = record {
    base = u.base;
    is = quiet_same w.«end» w.heard quiet_now ∙ u.is;
    room = u.room;
    first = u.first;
    numbers = u.numbers;
  }
  loose_waited t (ifs size) w h quiet_now s = record {
    base = s.base;
    is = quiet_same w.«end» w.heard quiet_now ∙ s.is;
    room = s.room;
    first = s.first;
    kind = s.kind;
    bound = go s.bound;
  }
    where
      go : (w.doubt ≡ Open) ⊎ ((s.base.before ≡ AnyBlock) × (s.base.tries ≤ t.failures + 1))
          → (waited_doubt (is_turn w.heard) w.doubt ≡ Open)
          ⊎ ((s.base.before ≡ AnyBlock) × (s.base.tries ≤ t.failures + 1))
      go (inl free) = inl (still_free (is_turn w.heard) w.doubt free)
      go (inr few) = inr few
  loose_waited t (resynch asked) w h quiet_now b = record {
    base = b.base;
    is = quiet_same w.«end» w.heard quiet_now ∙ b.is;
    room = b.room;
    first = b.first;
    free = still_free (is_turn w.heard) w.doubt b.free;
  }
  loose_waited t dead w h quiet_now loose = absurd h

  pub any_waited : (t : TerminalState) (w : Watched) → IsBusy t.waits → IsQuiet w.heard → FitsAny Q t t.waits w
      → FitsAny Q t t.waits (waited w)
  any_waited t w h quiet_now (inl fits) = inl (waited_fits t w h fits)
  any_waited t w h quiet_now (inr loose) = inr (loose_waited t t.waits w h quiet_now loose)

  -- what it hears, or that its block may be refused, changes nothing
  loose_hearing : (t : TerminalState) (waits : Waits) (w : Watched) (heard : Heard) (d : Doubt) → IsBusy waits
      → (w.doubt ≡ Open → d ≡ Open) → Loose Q t waits w
      → Loose Q t waits (record w { heard = heard; doubt = d })
  loose_hearing t idle w heard d h free loose = absurd h
  loose_hearing t (ack field rest) w heard d h free (inl u) = inl (record {
    base = u.base;
    is = u.is;
    room = u.room;
    first = u.first;
    free = free u.free;
    lags = u.lags;
  })
  loose_hearing t (ack field rest) w heard d h free (inr u) =
      inr (record { base = u.base; is = u.is; room = u.room; first = u.first; numbers = u.numbers })
  loose_hearing t (answer field) w heard d h free (inl u) = inl (record {
    base = u.base;
    is = u.is;
    room = u.room;
    first = u.first;
    free = free u.free;
    lags = u.lags;
  })
  loose_hearing t (answer field) w heard d h free (inr u) =
      inr (record { base = u.base; is = u.is; room = u.room; first = u.first; numbers = u.numbers })
  loose_hearing t (more joined) w heard d h free u =
      record { base = u.base; is = u.is; room = u.room; first = u.first; numbers = u.numbers }
  loose_hearing t (ifs size) w heard d h free s =
      record { base = s.base; is = s.is; room = s.room; first = s.first; kind = s.kind; bound = go s.bound }
    where
      go : (w.doubt ≡ Open) ⊎ ((s.base.before ≡ AnyBlock) × (s.base.tries ≤ t.failures + 1))
          → (d ≡ Open) ⊎ ((s.base.before ≡ AnyBlock) × (s.base.tries ≤ t.failures + 1))
      go (inl open_now) = inl (free open_now)
      go (inr few) = inr few
  loose_hearing t (resynch asked) w heard d h free b =
      record { base = b.base; is = b.is; room = b.room; first = b.first; free = free b.free }
  loose_hearing t dead w heard d h free loose = absurd h

  pub any_hearing : (t : TerminalState) (w : Watched) (heard : Heard) (d : Doubt) → IsBusy t.waits
      → (w.doubt ≡ Open → d ≡ Open) → FitsAny Q t t.waits w
      → FitsAny Q t t.waits (record w { heard = heard; doubt = d })
  any_hearing t w heard d h free (inl fits) = inl (fits_hearing ⊥ t.waits t (plain_of w) heard h fits)
  any_hearing t w heard d h free (inr loose) = inr (loose_hearing t t.waits w heard d h free loose)

  -- ---- a question for a size, of which little is known

  abbrev sizing_end : ℕ → End → End
  sizing_end size e = record e { side = Terminal; known = true; asked = Some (Size size) }

  -- what it owes then: the same question, or what it owed before
  data SizeDue (size : ℕ) (e : End) (due : After) : Type 0 where
    asks_on : (tries : ℕ) → due ≡ after (record (sizing_end size e) { tries = tries }) SameRequest → SizeDue size e due
    asks_anew : due ≡ after (record e { side = Terminal; known = true; asked = None }) e.before → SizeDue size e due

  size_due : (size : ℕ) (e : End) (heard : Heard) (due : After) → IsTapped heard → Course (sizing_end size e) heard due
      → SizeDue size e due
  size_due size e Beginning due h course = absurd h
  size_due size e (Whole pcb octet) due h course = absurd h
  size_due size e (Perhaps pcb octet) due h (inl is) =
      subst (SizeDue size e) (one_due _ due is) (with_test (SizeDue size e) (answers (Size size) pcb octet) _ _
      (λ k. asks_anew refl) (λ k. asks_on e.tries refl))
  size_due size e (Perhaps pcb octet) due h (inr is) =
      subst (SizeDue size e) (one_due _ due is)
      (with_test (λ (x : End). SizeDue size e (after x SameRequest)) (answers (Size size) pcb octet) _ _
      (λ k. asks_on 0 refl) (λ k. asks_on e.tries refl))
  size_due size e Broken due h (inl is) = no_due due is
  size_due size e Broken due h (inr is) = subst (SizeDue size e) (one_due _ due is) (asks_on e.tries refl)
  size_due size e Nothing due h course = absurd h

  size_none : (size : ℕ) (e : End) (heard : Heard) → IsTapped heard → Fewer (sizing_end size e) heard
  size_none size e Beginning h = absurd h
  size_none size e (Whole pcb octet) h = absurd h
  size_none size e (Perhaps pcb octet) h =
      asking_at (maybe pcb octet) damaged (record e { side = Terminal }) (Size size) tt
  size_none size e Broken h = asking_at certain quiet (record e { side = Terminal }) (Size size) tt
  size_none size e Nothing h = absurd h

  size_anew_out : (t : TerminalState) (size : ℕ) (e : End) (last : List ℕ) (f : End)
      → t.ifsc ≤ e.room → t.first_ifsc ≤ e.first_room → (e.before ≡ AnyBlock) ⊎ IsExact t.number t.expected e
      → sends (record e { side = Terminal; known = true; asked = None }) e.before last (Request Ifs) (size ∷ []) ≡ Ok f
      → SizeEnd t size f
  size_anew_out t size e last f room first (inl any) is = size_openly t size e f room first
      (is_end _ f (subst (λ (o : Owed). sends (record e { side = Terminal; known = true; asked = None }) o last
      (Request Ifs)
      (size ∷ []) ≡ Ok f) any is))
  size_anew_out t size e last f room first (inr (b, n, x)) is =
      size_end (record e { before = NewMessage; tries = 1; row = no_row }) room first (inr (refl, n, x))
      (is_end _ f (subst (λ (o : Owed). sends (record e { side = Terminal; known = true; asked = None }) o last
      (Request Ifs)
      (size ∷ []) ≡ Ok f) b is))

  size_open : (t : TerminalState) (size : ℕ) (w : Watched) (e : End) (heard : Heard) → IsTapped heard
      → t.ifsc ≤ e.room → t.first_ifsc ≤ e.first_room → (e.before ≡ AnyBlock) ⊎ IsExact t.number t.expected e
      → Tells Q (record t { waits = ifs size }) (open_end w (sizing_end size e) heard) (request Ifs (size ∷ []))
  size_open t size w e heard tapped room first kind =
      open_tells Q (record t { waits = ifs size }) (open_end w (sizing_end size e) heard) (request Ifs (size ∷ []))
      (SizeEnd t size) refl refl (λ within. tt)
      (λ e1 p. go e1 p.due p.sent (size_due size e heard p.due tapped p.course))
      (λ e1 is. size_openly t size e e1 room first (is_end _ e1 is))
      (λ n e1 end_now. size_end_fits Q t size w (sizing_end size e) heard n e1 end_now)
    where
      go : (e1 : End) (due : After) → sends due.«end» due.owed w.last.items (Request Ifs) (size ∷ []) ≡ Ok e1
          → SizeDue size e due → SizeEnd t size e1
      go e1 due is (asks_on tries same_due) =
          size_again_out t size size (record e { tries = tries }) w.last.items e1 room first kind
          (subst (λ (d : After). sends d.«end» d.owed w.last.items (Request Ifs) (size ∷ []) ≡ Ok e1) same_due is)
      go e1 due is (asks_anew same_due) =
          size_anew_out t size e w.last.items e1 room first kind
          (subst (λ (d : After). sends d.«end» d.owed w.last.items (Request Ifs) (size ∷ []) ≡ Ok e1) same_due is)

  few_asked : (n m : ℕ) → m ≤ n + 1 → nat_lt n most_repeats ≡ true → nat_lt m (most_repeats + 1) ≡ true
  few_asked n m h k = grind (arith, nat_tests)

  abbrev sizing_watch : Watched → ℕ → End → Heard → Watched
  sizing_watch w size e heard = record w { «end» = sizing_end size e; heard = heard }

  -- the same question, counted
  size_counted : (t : TerminalState) (size : ℕ) (w : Watched) (e : End) (heard : Heard) → IsTapped heard
      → t.ifsc ≤ e.room → t.first_ifsc ≤ e.first_room → e.before ≡ AnyBlock → e.tries ≤ t.failures + 1
      → nat_lt t.failures most_repeats ≡ true
      → Tells Q (record t { failures = t.failures + 1; waits = ifs size }) (sizing_watch w size e heard)
      (request Ifs (size ∷ []))
  size_counted t size w e heard tapped room first any few h talks within n =
      let none = size_none size e heard tapped in
      let e1 = record (sizing_end size e) { before = after_answer e.before Terminal; tries = none.0 + 1; row = no_row }
      in
      let w1 = sizing_watch w size e heard in
      let b = request Ifs (size ∷ []) in
      let now = on_course w1 b (after (record (sizing_end size e) { tries = none.0 }) SameRequest) e1 (inr none.2)
      (is_then (size == size) _ _ (equal_self size)
      ∙ is_then (nat_lt none.0 (most_repeats + 1)) _ _
      (few_asked t.failures none.0 (omega (arith, few, none.1)) h)) in
      let any1 : after_answer e.before Terminal ≡ AnyBlock = ap (λ (o : Owed). after_answer o Terminal) any in
      tells Q (record t { failures = t.failures + 1; waits = ifs size }) w1 b n e1 now.0 now.1 (inr (record {
        base = record e { before = after_answer e.before Terminal; tries = none.0 + 1; row = no_row };
        is = not_tried w.doubt e1;
        room = room;
        first = first;
        kind = inl any1;
        bound = inr (any1, omega (arith, few, none.1));
      }))

  size_told : (t : TerminalState) (size : ℕ) (w : Watched) (s : IsSizing t size w) (heard : Heard) → IsTapped heard
      → nat_lt t.failures most_repeats ≡ true
      → Tells Q (record t { failures = t.failures + 1; waits = ifs size }) (hears_it w heard) (request Ifs (size ∷ []))
  size_told t size w s heard tapped h = go s.bound
    where
      go : (w.doubt ≡ Open) ⊎ ((s.base.before ≡ AnyBlock) × (s.base.tries ≤ t.failures + 1))
          → Tells Q (record t { failures = t.failures + 1; waits = ifs size }) (hears_it w heard)
          (request Ifs (size ∷ []))
      go (inl free) = subst (λ (v : Watched). Tells Q (record t { failures = t.failures + 1; waits = ifs size }) v
          (request Ifs (size ∷ []))) (sym (opened w (sizing_end size s.base) heard s.is free))
          (size_open (record t { failures = t.failures + 1 }) size w s.base heard tapped s.room s.first s.kind)
      go (inr (any, few)) = subst (λ (e : End). Tells Q (record t { failures = t.failures + 1; waits = ifs size })
          (record w { «end» = e; heard = heard }) (request Ifs (size ∷ []))) (sym s.is)
          (size_counted t size w s.base heard tapped s.room s.first any few h)

  size_resynch : (t : TerminalState) (size : ℕ) (w : Watched) (e : End) (heard : Heard) → IsTapped heard
      → t.first_ifsc ≤ e.first_room
      → Tells Q (record t { waits = resynch 1 }) (sizing_watch w size e heard) (request Resynch [])
  size_resynch t size w e heard tapped first talks within n =
      let none = size_none size e heard tapped in
      let e1 = beginning ⊥ (widest e) e.first_room (widest e) 1 in
      let w1 = sizing_watch w size e heard in
      let b = request Resynch [] in
      let now = on_course w1 b (after (record (sizing_end size e) { tries = none.0 }) SameRequest) e1 (inr none.2) refl
      in
      tells Q (record t { waits = resynch 1 }) w1 b n e1 now.0 now.1 (inl (
        widest e,
        e.first_room,
        widest e,
        w.last.items,
        1,
        omega arith,
        first,
        omega (arith, first),
        ap (λ (f : End). watched f Broken w.last.items) (not_tried w.doubt e1),
      ))

  size_fails : (t : TerminalState) (size : ℕ) (w : Watched) (s : IsSizing t size w) (heard : Heard) → IsTapped heard
      → Leaves Q (hears_it w heard) (fails (at ⊥ (ifs size) t) (request Ifs (size ∷ [])))
  size_fails t size w s heard tapped =
      with_test (Leaves Q (hears_it w heard)) (nat_lt t.failures most_repeats) _ _
      (λ h. (
        size_told t size w s heard tapped h,
        tt,
        tt,
        λ later. size_stale (record t { failures = t.failures + 1 }) size w s.base heard s.is s.room s.first s.kind,
      ))
      (λ h. (
        subst (λ (e : End). Tells Q (record t { waits = resynch 1 }) (record w { «end» = e; heard = heard })
            (request Resynch []))
            (sym s.is) (size_resynch t size w s.base heard tapped s.first),
        tt,
        tt,
        λ later. sizes_overlooked 0 t.first_ifsc w.«end» heard
            (subst (HasSizes 0 t.first_ifsc) (sym s.is)
            (record { side = refl; room = omega arith; first = s.first })),
      ))

  -- the size is set
  size_set : (t : TerminalState) (size : ℕ) (w : Watched) (s : IsSizing t size w) (octet : ℕ) → (octet == size) ≡ true
      → FitsAny Q (record t { failures = 0; ifsd = size; waits = idle }) idle
      (hears_it w (Perhaps (Response Ifs) octet))
  size_set t size w s octet h = go s.kind
    where
      owes : got_whole w.«end» (Perhaps (Response Ifs) octet)
          ≡ Some (after (record s.base { side = Terminal; known = true; asked = None }) s.base.before)
      owes = subst (λ (e : End). got_whole e (Perhaps (Response Ifs) octet)
          ≡ Some (after (record s.base { side = Terminal; known = true; asked = None }) s.base.before)) (sym s.is)
          (ap Some (is_then (octet == size) _ _ h))

      sizes : HasSizes t.ifsc t.first_ifsc w.«end»
      sizes = subst (HasSizes t.ifsc t.first_ifsc) (sym s.is)
          (record { side = refl; room = s.room; first = s.first })

      go : (s.base.before ≡ AnyBlock) ⊎ IsExact t.number t.expected s.base
          → FitsAny Q (record t { failures = 0; ifsd = size; waits = idle }) idle
          (hears_it w (Perhaps (Response Ifs) octet))
      go (inl any) = inr (record {
        base = record s.base { known = true; asked = None };
        owes = owes ∙ ap (λ (o : Owed). Some (after (record s.base { side = Terminal; known = true; asked = None }) o))
            any;
        room = s.room;
        first = s.first;
        numbers = inl any;
        sizes = sizes;
        was = inr (
          size,
          ap (λ (e : End). e.known) s.is,
          ap (λ (e : End). e.asked) s.is,
          ap (λ (e : End). e.before) s.is ∙ any,
        );
      })
      go (inr (b, n, x)) = inl (record {
        spare = record {
          before = s.base.before;
          room = s.base.room;
          first = s.base.first_room;
          largest = s.base.largest_room;
          room_ok = s.room;
          first_ok = s.first;
        };
        pending = s.base.pending;
        tries = s.base.tries;
        row = s.base.row;
        aborted = s.base.aborted;
        owes = owes
            ∙ ap (λ (o : Owed). Some (after (record s.base { side = Terminal; known = true; asked = None }) o)) b
            ∙ ap (λ (m : Number). Some (after (record s.base { side = Terminal; known = true; asked = None; next = m })
            NewMessage)) n
            ∙ ap (λ (m : Number). Some (after (record s.base {
              side = Terminal;
              known = true;
              asked = None;
              next = t.number;
              expects = m;
            }) NewMessage)) x;
        sizes = sizes;
        origin = from_size size (ap (λ (e : End). e.known) s.is) (ap (λ (e : End). e.asked) s.is)
            (ap (λ (e : End). e.before) s.is ∙ b) (ap (λ (e : End). e.next) s.is ∙ n)
            (ap (λ (e : End). e.expects) s.is ∙ x);
      })

  size_takes : (t : TerminalState) (size : ℕ) (w : Watched) (s : IsSizing t size w) (sent : Pcb) (octet : ℕ)
      (came : Came) → Leaves Q (hears_it w (tap_heard sent octet came)) (in_ifs (at ⊥ (ifs size) t) size came)
  size_takes t size w s sent octet (got (Response Ifs) inf) =
      with_test (Leaves Q (hears_it w (Perhaps (Response Ifs) (carried inf)))) (carried inf == size) _ _
      (λ h. ((λ b. b), size_set t size w s (carried inf) h))
      (λ h. size_fails t size w s (Perhaps (Response Ifs) (carried inf)) tt)
  size_takes t size w s sent octet (got (Info number goes_on) inf) =
      size_fails t size w s (Perhaps (Info number goes_on) (carried inf)) tt
  size_takes t size w s sent octet (got (Ready number fault) inf) =
      size_fails t size w s (Perhaps (Ready number fault) (carried inf)) tt
  size_takes t size w s sent octet (got (Request k) inf) =
      size_fails t size w s (Perhaps (Request k) (carried inf)) tt
  size_takes t size w s sent octet (got (Response Resynch) inf) =
      size_fails t size w s (Perhaps (Response Resynch) (carried inf)) tt
  size_takes t size w s sent octet (got (Response Abort) inf) =
      size_fails t size w s (Perhaps (Response Abort) (carried inf)) tt
  size_takes t size w s sent octet (got (Response Wtx) inf) =
      size_fails t size w s (Perhaps (Response Wtx) (carried inf)) tt
  size_takes t size w s sent octet damaged = size_fails t size w s (Perhaps sent octet) tt
  size_takes t size w s sent octet invalid = size_fails t size w s (Perhaps sent octet) tt
  size_takes t size w s sent octet quiet = size_fails t size w s Broken tt

  -- ---- RESYNCH was asked for, and any block is permitted

  abbrev anew_end : End → End
  anew_end e = record e { side = Terminal; known = true; asked = Some Anew }

  anew_due : (t : TerminalState) (e : End) (heard : Heard) (due : After) → IsTapped heard → t.first_ifsc ≤ e.first_room
      → Course (anew_end e) heard due
      → (f : End) × (due.«end» ≡ record f { side = Terminal }) × (t.first_ifsc ≤ f.first_room)
  anew_due t e Beginning due h first course = absurd h
  anew_due t e (Whole pcb octet) due h first course = absurd h
  anew_due t e (Perhaps pcb octet) due h first (inl is) =
      subst (λ (d : After). (f : End) × (d.«end» ≡ record f { side = Terminal }) × (t.first_ifsc ≤ f.first_room))
      (one_due _ due is)
      (with_test (λ (d : After). (f : End) × (d.«end» ≡ record f { side = Terminal }) × (t.first_ifsc ≤ f.first_room))
      (answers Anew pcb octet) _ _
      (λ k. (begun (anew_end e), refl, first)) (λ k. (anew_end e, refl, first)))
  anew_due t e (Perhaps pcb octet) due h first (inr is) =
      subst (λ (d : After). (f : End) × (d.«end» ≡ record f { side = Terminal }) × (t.first_ifsc ≤ f.first_room))
      (one_due _ due is)
      (with_test (λ (x : End). (f : End) × (x ≡ record f { side = Terminal }) × (t.first_ifsc ≤ f.first_room))
      (answers Anew pcb octet) _ _
      (λ k. (record (anew_end e) { tries = 0 }, refl, first)) (λ k. (anew_end e, refl, first)))
  anew_due t e Broken due h first (inl is) = no_due due is
  anew_due t e Broken due h first (inr is) =
      subst (λ (d : After). (f : End) × (d.«end» ≡ record f { side = Terminal }) × (t.first_ifsc ≤ f.first_room))
      (one_due _ due is) (anew_end e, refl, first)
  anew_due t e Nothing due h first course = absurd h

  anew_again : (t : TerminalState) (asked : ℕ) (w : Watched) (b : IsBeginning t w) (heard : Heard) → IsTapped heard
      → Leaves Q (hears_it w heard) (if nat_lt asked most_resynchs
      then Ok (Send (request Resynch []), record t { waits = resynch (asked + 1) }, no_failure)
      else Ok (Dead, record t { waits = dead }, no_failure))
  anew_again t asked w b heard tapped =
      with_test (Leaves Q (hears_it w heard)) (nat_lt asked most_resynchs) _ _
      (λ h. (
        subst (λ (v : Watched). Tells Q (record t { waits = resynch (asked + 1) }) v (request Resynch []))
            (sym (opened w (anew_end b.base) heard b.is b.free))
            (open_resynch Q t (asked + 1) w (anew_end b.base) heard b.first
            (λ due course. anew_due t b.base heard due tapped b.first course)),
        tt,
        tt,
        λ later. sizes_overlooked 0 t.first_ifsc w.«end» heard
            (subst (HasSizes 0 t.first_ifsc) (sym b.is)
            (record { side = refl; room = omega arith; first = b.first })),
      ))
      (λ h. ((λ x. x), inr tt))

  anew_done : (t : TerminalState) (w : Watched) (b : IsBeginning t w) (octet : ℕ)
      → FitsAny Q (record t {
        number = Zero;
        expected = Zero;
        failures = 0;
        ifsc = t.first_ifsc;
        ifsd = first_ifsd;
        waits = idle;
      }) idle (hears_it w (Perhaps (Response Resynch) octet))
  anew_done t w b octet = inl (record {
    spare = record {
      before = NewMessage;
      room = widest b.base;
      first = b.base.first_room;
      largest = widest b.base;
      room_ok = omega (arith, b.first);
      first_ok = b.first;
    };
    pending = Settled;
    tries = 0;
    row = no_row;
    aborted = false;
    owes = ap (λ (e : End). got_whole e (Perhaps (Response Resynch) octet)) b.is;
    sizes = subst (HasSizes t.first_ifsc t.first_ifsc) (sym b.is)
        (record { side = refl; room = b.room; first = b.first });
    origin = from_resynch (ap (λ (e : End). e.known) b.is) (ap (λ (e : End). e.asked) b.is);
  })

  anew_takes : (t : TerminalState) (asked : ℕ) (w : Watched) (b : IsBeginning t w) (sent : Pcb) (octet : ℕ)
      (came : Came) → Leaves Q (hears_it w (tap_heard sent octet came)) (in_resynch (at ⊥ (resynch asked) t) asked came)
  anew_takes t asked w b sent octet (got (Response Resynch) inf) = ((λ x. x), anew_done t w b (carried inf))
  anew_takes t asked w b sent octet (got (Info number goes_on) inf) =
      anew_again t asked w b (Perhaps (Info number goes_on) (carried inf)) tt
  anew_takes t asked w b sent octet (got (Ready number fault) inf) =
      anew_again t asked w b (Perhaps (Ready number fault) (carried inf)) tt
  anew_takes t asked w b sent octet (got (Request s) inf) =
      anew_again t asked w b (Perhaps (Request s) (carried inf)) tt
  anew_takes t asked w b sent octet (got (Response Ifs) inf) =
      anew_again t asked w b (Perhaps (Response Ifs) (carried inf)) tt
  anew_takes t asked w b sent octet (got (Response Abort) inf) =
      anew_again t asked w b (Perhaps (Response Abort) (carried inf)) tt
  anew_takes t asked w b sent octet (got (Response Wtx) inf) =
      anew_again t asked w b (Perhaps (Response Wtx) (carried inf)) tt
  anew_takes t asked w b sent octet damaged = anew_again t asked w b (Perhaps sent octet) tt
  anew_takes t asked w b sent octet invalid = anew_again t asked w b (Perhaps sent octet) tt
  anew_takes t asked w b sent octet quiet = anew_again t asked w b Broken tt

  -- ---- the terminal takes what came

  known_takes : (t : TerminalState) (w : Watched) (sent : Pcb) (octet : ℕ) (came : Came)
      → IsPlainCame came → Fits ⊥ t t.waits (plain_of w)
      → Leaves Q (hears_it w (tap_heard sent octet came)) (terminal_turn t (takes came))
  known_takes t w sent octet (got (Info number goes_on) inf) h fits =
      leaves_known Q (hears_it w (Perhaps (Info number goes_on) (carried inf))) _
      (takes_well ⊥ Q t (plain_of w) (maybe sent octet) (got (Info number goes_on) inf) fits tt)
  known_takes t w sent octet (got (Ready number fault) inf) h fits =
      leaves_known Q (hears_it w (Perhaps (Ready number fault) (carried inf))) _
      (takes_well ⊥ Q t (plain_of w) (maybe sent octet) (got (Ready number fault) inf) fits tt)
  known_takes t w sent octet (got (Request s) inf) h fits =
      leaves_known Q (hears_it w (Perhaps (Request s) (carried inf))) _
      (takes_well ⊥ Q t (plain_of w) (maybe sent octet) (got (Request s) inf) fits h)
  known_takes t w sent octet (got (Response s) inf) h fits =
      leaves_known Q (hears_it w (Perhaps (Response s) (carried inf))) _
      (takes_well ⊥ Q t (plain_of w) (maybe sent octet) (got (Response s) inf) fits tt)
  known_takes t w sent octet damaged h fits =
      leaves_known Q (hears_it w (Perhaps sent octet)) _
      (takes_well ⊥ Q t (plain_of w) (maybe sent octet) damaged fits tt)
  known_takes t w sent octet invalid h fits =
      leaves_known Q (hears_it w (Perhaps sent octet)) _
      (takes_well ⊥ Q t (plain_of w) (maybe sent octet) invalid fits tt)
  known_takes t w sent octet quiet h fits =
      leaves_known Q (hears_it w Broken) _ (takes_well ⊥ Q t (plain_of w) certain quiet fits tt)

  loose_takes : (waits : Waits) (t : TerminalState) (w : Watched) (sent : Pcb) (octet : ℕ) (came : Came)
      → IsPlainCame came → (IsOwnWaits waits → Q t.number → AsksAgain t.number came) → Loose Q t waits w
      → Leaves Q (hears_it w (tap_heard sent octet came)) (terminal_came (at ⊥ waits t) waits came)
  loose_takes idle t w sent octet came h again_now loose = tt
  loose_takes (ack field rest) t w sent octet came h again_now (inl u) =
      subst (λ (v : Watched). Leaves Q v (in_ack (at ⊥ (ack field rest) t) field rest came))
      (sym (opened w (untold_end t u.base) (tap_heard sent octet came) u.is u.free))
      (untold_ack Q t field rest w u.base sent octet came (again_now tt u.lags) u.lags u.room u.first)
  loose_takes (ack field rest) t w sent octet came h again_now (inr u) =
      unknown_ack Q t field rest w sent octet came h u
  loose_takes (answer field) t w sent octet came h again_now (inl u) =
      subst (λ (v : Watched). Leaves Q v (in_answer (at ⊥ (answer field) t) field came))
      (sym (opened w (untold_end t u.base) (tap_heard sent octet came) u.is u.free))
      (untold_answer Q t field w u.base sent octet came (again_now tt u.lags) u.lags u.room u.first)
  loose_takes (answer field) t w sent octet came h again_now (inr u) = unknown_answer Q t field w sent octet came h u
  loose_takes (more joined) t w sent octet came h again_now u = unknown_more Q t joined w sent octet came h u
  loose_takes (ifs size) t w sent octet came h again_now s = size_takes t size w s sent octet came
  loose_takes (resynch asked) t w sent octet came h again_now b = anew_takes t asked w b sent octet came
  loose_takes dead t w sent octet came h again_now loose = tt

  pub any_takes : (t : TerminalState) (w : Watched) (sent : Pcb) (octet : ℕ) (came : Came)
      → IsPlainCame came → (IsOwnWaits t.waits → Q t.number → AsksAgain t.number came) → FitsAny Q t t.waits w
      → Leaves Q (hears_it w (tap_heard sent octet came)) (terminal_turn t (takes came))
  any_takes t w sent octet came h again_now (inl fits) = known_takes t w sent octet came h fits
  any_takes t w sent octet came h again_now (inr loose) = loose_takes t.waits t w sent octet came h again_now loose

  -- ---- the terminal's host

  rests_course : (t : TerminalState) (w : Watched) → RestsUnknown t w → AnyCourse t.ifsc t.first_ifsc w
  rests_course t w r = record { due = r.base; course = inl r.owes; room = r.room; first = r.first }

  rests_begin : (t : TerminalState) (field rest : List ℕ) (w : Watched) → HasSizes t.ifsc t.first_ifsc w.«end»
      → (w.«end».known ≡ false)
      ⊎ ((size : ℕ) × (w.«end».known ≡ true) × (w.«end».asked ≡ Some (Size size)) × (w.«end».before ≡ AnyBlock))
      → Stale ⊥ Q (record t { failures = 0; waits = waiting field rest }) (waiting field rest) (silent ⊥ (plain_of w))
  rests_begin t field rest w sizes (inl unknown) =
      unknown_stale Q (record t { failures = 0; waits = waiting field rest }) (waiting field rest)
      (silent ⊥ (plain_of w))
      (waiting_talk field rest)
      (sizes_overlooked t.ifsc t.first_ifsc w.«end» w.heard sizes) (overlooked_unknown w.«end» w.heard unknown)
  rests_begin t field [] w sizes (inr (size, known, asked, before)) =
      let c = core_overlooked w.«end» w.heard known in (
        sizes_overlooked t.ifsc t.first_ifsc w.«end» w.heard sizes,
        is_asking (c.0 ∙ known) (ap is_waiting (c.1 ∙ asked)),
      )
  rests_begin t field (octet ∷ rest) w sizes (inr (size, known, asked, before)) =
      let c = core_overlooked w.«end» w.heard known in (
        sizes_overlooked t.ifsc t.first_ifsc w.«end» w.heard sizes,
        is_asking (c.0 ∙ known) (ap is_waiting (c.1 ∙ asked)),
      )

  rests_ask : (t : TerminalState) (n : ℕ) (w : Watched) → HasSizes t.ifsc t.first_ifsc w.«end»
      → (w.«end».known ≡ false)
      ⊎ ((size : ℕ) × (w.«end».known ≡ true) × (w.«end».asked ≡ Some (Size size)) × (w.«end».before ≡ AnyBlock))
      → Stale ⊥ Q (record t { failures = 0; waits = ifs n }) (ifs n) (silent ⊥ (plain_of w))
  rests_ask t n w sizes (inl unknown) = (
    sizes_overlooked t.ifsc t.first_ifsc w.«end» w.heard sizes,
    size_unknown (overlooked_unknown w.«end» w.heard unknown),
  )
  rests_ask t n w sizes (inr (size, known, asked, before)) =
      let c = core_overlooked w.«end» w.heard known in (
        sizes_overlooked t.ifsc t.first_ifsc w.«end» w.heard sizes,
        size_before size (c.0 ∙ known) (c.1 ∙ asked) (inl (c.2 ∙ before)),
      )

  rests_transmits : (t : TerminalState) (w : Watched) (m : List ℕ) → RestsUnknown t w
      → Leaves Q w (if nat_le (length m) t.limits.command
      then sends_next (record t { failures = 0; command = m; answered = None }) m else Err TooLong)
  rests_transmits t w m r = with_test (Leaves Q w) (nat_le (length m) t.limits.command) _ _
      (λ h. (
        any_begins Q (record t { failures = 0; command = m; answered = None }) w (take t.ifsc m) (drop t.ifsc m)
            (record { due = r.base; course = inl r.owes; room = r.room; first = r.first }) r.numbers,
        tt,
        talk_busy (waiting (take t.ifsc m) (drop t.ifsc m)) (waiting_talk (take t.ifsc m) (drop t.ifsc m)),
        λ later. rests_begin (record t { command = m; answered = None }) (take t.ifsc m) (drop t.ifsc m) w r.sizes
            r.was,
      ))
      (λ h. tt)

  rests_asks : (t : TerminalState) (w : Watched) (n : ℕ) → RestsUnknown t w
      → Leaves Q w (if is_reserved n then Err Reserved
      else Ok (Send (request Ifs (n ∷ [])), record t { failures = 0; waits = ifs n }, no_failure))
  rests_asks t w n r = with_test (Leaves Q w) (is_reserved n) _ _
      (λ h. tt)
      (λ h. (
        (λ talks within number.
            let e1 = record r.base {
              side = Terminal;
              known = true;
              asked = Some (Size n);
              before = AnyBlock;
              tries = 1;
              row = no_row;
            } in
            let b = request Ifs (n ∷ []) in
            let now = on_course w b (after (record r.base { side = Terminal }) AnyBlock) e1 (inl r.owes) refl in
            tells Q (record t { failures = 0; waits = ifs n }) w b number e1 now.0 now.1 (inr (record {
              base = record r.base { before = AnyBlock; tries = 1; row = no_row };
              is = not_tried w.doubt e1;
              room = r.room;
              first = r.first;
              kind = inl refl;
              bound = inr (refl, omega arith);
            }))),
        tt,
        tt,
        λ later. rests_ask t n w r.sizes r.was,
      ))

  loose_calls : (waits : Waits) (t : TerminalState) (w : Watched) (step : TerminalStep) → Loose Q t waits w
      → (RestsUnknown t w → Leaves Q w step) → Leaves Q w (if_idle waits step)
  loose_calls idle t w step r h = h r
  loose_calls dead t w step r h = tt
  loose_calls (ack field rest) t w step r h = tt
  loose_calls (answer field) t w step r h = tt
  loose_calls (more joined) t w step r h = tt
  loose_calls (ifs size) t w step r h = tt
  loose_calls (resynch asked) t w step r h = tt

  pub any_calls : (t : TerminalState) (w : Watched) (input : TerminalInput) → IsCall input → FitsAny Q t t.waits w
      → Leaves Q w (terminal_turn t input)
  any_calls t w input h (inl fits) = leaves_known Q w _ (calls_well ⊥ Q t (plain_of w) input h fits)
  any_calls t w (transmit m) h (inr loose) = loose_calls t.waits t w _ loose (rests_transmits t w m)
  any_calls t w (ask_ifs n) h (inr loose) = loose_calls t.waits t w _ loose (rests_asks t w n)
  any_calls t w (takes came) h (inr loose) = absurd h

-- the card took no other block since
loose_left : (Q R : Number → Type 0) (t : TerminalState) (waits : Waits) (w : Watched) → (Q t.number → R t.number)
    → Loose Q t waits w → Loose R t waits w
loose_left Q R t idle w f loose = loose
loose_left Q R t (ack field rest) w f (inl u) =
    inl (record { base = u.base; is = u.is; room = u.room; first = u.first; free = u.free; lags = f u.lags })
loose_left Q R t (ack field rest) w f (inr u) = inr u
loose_left Q R t (answer field) w f (inl u) =
    inl (record { base = u.base; is = u.is; room = u.room; first = u.first; free = u.free; lags = f u.lags })
loose_left Q R t (answer field) w f (inr u) = inr u
loose_left Q R t (more joined) w f loose = loose
loose_left Q R t (ifs size) w f loose = loose
loose_left Q R t (resynch asked) w f loose = loose
loose_left Q R t dead w f loose = loose

pub any_left : (Q R : Number → Type 0) (t : TerminalState) (w : Watched) → (Q t.number → R t.number)
    → FitsAny Q t t.waits w → FitsAny R t t.waits w
any_left Q R t w f (inl fits) = inl fits
any_left Q R t w f (inr loose) = inr (loose_left Q R t t.waits w f loose)
