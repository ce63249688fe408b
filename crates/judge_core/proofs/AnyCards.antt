-- The card of `t1_core` takes what came, whatever the monitor knows of it.
use Rattle.std.proofs.Common.{inl, inr, true≢false, ◌≡◌, ◌⊎◌, ℕ, ◌≤◌, List, [], ◌∷◌, length, take, drop, refl, sym, ap, ◌∙◌, subst, arith}
use Rattle.std.specs.Prelude.{Bool, true, false, ◌==◌, if◌then◌else◌, nat_le, Some, None, Ok, Err}
use Rattle.block_core.specs.declared.pcb.Number.{Number}
use Rattle.block_core.specs.declared.pcb.Number.TheVariants.{Zero}
use Rattle.block_core.specs.declared.pcb.Fault.{Fault}
use Rattle.block_core.specs.declared.pcb.Fault.TheVariants.{Free, Redundancy, Other}
use Rattle.block_core.specs.declared.pcb.S.TheVariants.{Resynch, Ifs, Abort, Wtx}
use Rattle.block_core.specs.declared.pcb.Pcb.{Pcb}
use Rattle.block_core.specs.declared.pcb.Pcb.TheVariants.{Info, Ready, Request, Response}
use Rattle.t1_core.specs.Came.{Came, got, damaged, invalid, quiet, same, carried, ready}
use Rattle.judge_core.specs.declared.end.Asked.{Asked}
use Rattle.judge_core.specs.declared.end.Asked.TheVariants.{Size, Time}
use Rattle.judge_core.specs.declared.end.Owed.{Owed}
use Rattle.judge_core.specs.declared.end.Owed.TheVariants.{SameRequest, Answer, MessageOrRefusal, AnyBlock}
use Rattle.judge_core.specs.declared.end.End.{End}
use Rattle.judge_core.specs.declared.end.After.{After}
use Rattle.judge_core.specs.declared.courses.Heard.{Heard}
use Rattle.judge_core.specs.declared.courses.Heard.TheVariants.{Beginning, Whole, Perhaps, Broken, Nothing}
use Rattle.judge_core.specs.declared.doubt.Doubt.{Doubt}
use Rattle.judge_core.specs.declared.doubt.Doubt.TheVariants.{Open}
use Rattle.judge_core.specs.declared.monitor.Watched.{Watched}
use Rattle.judge_core.specs.Courses.{got_whole}
use Rattle.judge_core.specs.Doubts.{overlooked}
use Rattle.judge_core.specs.Ends.{after, no_row}
use Rattle.judge_core.specs.Missed.{IsWithin}
use Rattle.judge_core.specs.Sends.{is_waiting, sends}
use Rattle.judge_core.specs.Watched as plain
use Rattle.judge_core.proofs.Passes.{Course, NoAbort, certain, maybe, is_then, watched, with_test}
use Rattle.std.specs.Prelude.{Option}
use Rattle.judge_core.specs.Sends.{is_foreign}
use Rattle.judge_core.specs.Sends.{after_answer}
use Rattle.std.specs.Prelude.{Option}
use Rattle.block_core.specs.declared.side.Side.TheVariants.{Card}
use Rattle.t1_core.specs.declared.turns.CardTurn.TheVariants.{Send}
use Rattle.t1_core.specs.declared.turns.CardFault.TheVariants.{TooLong}
use Rattle.t1_core.specs.Terminal.{first_ifsd, is_reserved}
use Rattle.t1_core.specs.Card.{CardState, CardStep, CardInput, CardRequest, Waits, command, host, reply, asking, size, time, replies, more_time, ask_ifs, takes, card_came, card_turn, if_host, request_block, saving, sends_next, sends_saved, waiting}
use Rattle.judge_core.specs.declared.rule.Rule.TheVariants.{ResponseDue}
use Rattle.judge_core.specs.Sends.{is_foreign}
use Rattle.judge_core.proofs.Passes.{equal_self}
use Rattle.judge_core.proofs.SeenTerminals.{plain_of}
use Rattle.judge_core.proofs.SeenCards.{IsTalk}
use Rattle.judge_core.proofs.Terminals.{Core, core_overlooked}
use Rattle.judge_core.proofs.MissedTerminals.{IsTapped, Numbers, hears_it, kept_after, not_tried, on_course, tap_heard}
use Rattle.judge_core.proofs.OpenTerminals.{is_end, one_due, open_end, opened, refused}
use Rattle.judge_core.proofs.Cards.{AwaitsBlock, Fits, HasSizes, IsBeforeRequest, IsBehind, IsCall, IsCommand, IsExact, IsOwnWaits, Plain, Stale, before_asking, behind_asking, behind_free, behind_unknown, calls_well, is_untold, keeps, owes_anew, owes_info, owes_ready, owes_request, question, request_asked, request_free, request_unknown, silent, sizes_overlooked, takes_well}
use Rattle.judge_core.specs.Sends.{after_answer}
use Rattle.judge_core.proofs.Passes.{Fewer, asking_at}
use Rattle.judge_core.proofs.MissedCards.{unknown_stale, any_course, AnyCourse, Due, FitsAny, IsAsking, IsUnknown, Leaves, Loose, RestsUnknown, StaleAny, Tells, any_begins, any_ready, anew_says, leaves_known, left, left_anew, loose_anew, loose_asking, loose_rests, loose_unknown, loose_untold, own_is_talk, stale_known, stale_unknown, talk_awaits, tells, unknown_command, unknown_reply, waiting_talk}
use Rattle.judge_core.specs.Watched.{hearing}
use Rattle.judge_core.proofs.Passes.{certain, maybe}
use Rattle.judge_core.proofs.Cards.{fits_hearing, from_request}
use Rattle.judge_core.proofs.SeenCards.{passed_fits}
use Rattle.judge_core.proofs.OpenCards.{info_stays, AsksAnew, AsksOwn, AsksReady, AsksRequest, AskedDue, IsAfterQuiet, asked_end, asks_on, begins_anew, behind_stays, card_free, due_asked, due_free, due_none, free_sided, info_own, none_request, open_tells, openly_ready, ready_none_asked, ready_none_free, ready_out, request_again, request_stays, sided, untold_own}

pub own_request : (asked : CardRequest) → is_foreign Card (request_block asked).pcb ≡ false
own_request (size n) = refl
own_request (time n) = refl

within_request : (asked : CardRequest) (n m : ℕ) → IsWithin n (request_block asked).pcb (request_block asked).inf
    → IsWithin m (request_block asked).pcb (request_block asked).inf
within_request (size k) n m h = tt
within_request (time k) n m h = tt

plain_request : (asked : CardRequest) → NoAbort (request_block asked).pcb
plain_request (size n) = tt
plain_request (time n) = tt

-- what a question leaves
abbrev AskEnd : CardState → CardRequest → End → Type 0
AskEnd c asked e = (base : End) × (c.ifsd ≤ base.room) × (first_ifsd ≤ base.first_room)
    × ((base.before ≡ AnyBlock) ⊎ IsExact c.number c.expected base)
    × (e ≡ record base { side = Card; known = true; asked = Some (question asked) })

any_asked : (c : CardState) (asked : CardRequest) (f e : End) (last : List ℕ) → c.ifsd ≤ f.room
    → first_ifsd ≤ f.first_room
    → sends (record f { side = Card }) AnyBlock last (request_block asked).pcb (request_block asked).inf ≡ Ok e
    → AskEnd c asked e
any_asked c (size n) f e last room first is =
    (record f { before = AnyBlock; tries = 0; row = no_row }, room, first, inl refl, is_end _ e is)
any_asked c (time n) f e last room first is =
    (record f { before = AnyBlock; tries = 0; row = no_row }, room, first, inl refl, is_end _ e is)

exact_again : (number expected : Number) (f : End) → (f.before ≡ AnyBlock) ⊎ IsExact number expected f
    → (after_answer f.before Card ≡ AnyBlock)
    ⊎ ((after_answer f.before Card ≡ MessageOrRefusal) × (f.next ≡ number) × (f.expects ≡ expected))
exact_again number expected f (inl any) = inl (ap (λ (o : Owed). after_answer o Card) any)
exact_again number expected f (inr (b, n, x)) = inr (ap (λ (o : Owed). after_answer o Card) b, n, x)

-- where Q, R and T say the same of the terminal
module _ (Q : Number → Type 0) (R T : Type 0) where
  -- ---- an R-block is due

  ready_tells : (c : CardState) (w : Watched) (f : End) (pcb : Pcb) (octet : ℕ) (fault : Fault) → IsAfterQuiet pcb
      → IsTalk c.waits → HasSizes c.ifsd first_ifsd f → IsBehind c.expected f
      → Tells Q R c (open_end w f (Perhaps pcb octet)) (ready c.expected fault)
  ready_tells c w f pcb octet fault quiet_now talk sizes (behind_unknown h) =
      let c1 = record c { expected = f.expects } in
      let u : IsUnknown c1 (open_end w f Broken) = record {
        base = f;
        is = sided f sizes.side ∙ ap (λ b. record f { side = Card; known = b }) h;
        room = sizes.room;
        first = sizes.first;
        numbers = inr (inr refl);
      } in
      let a = any_course c1 (open_end w f Broken) (Perhaps pcb octet) tt u in
      any_ready Q R T c (open_end w f (Perhaps pcb octet)) fault talk
      (record { due = a.due; course = a.course; room = a.room; first = a.first })
  ready_tells c w f pcb octet fault quiet_now talk sizes (behind_asking h q) =
      subst (λ (x : End). Tells Q R c (open_end w x (Perhaps pcb octet)) (ready c.expected fault))
      (sym (sided f sizes.side))
      (openly_ready Q R T c w f (Perhaps pcb octet) fault talk sizes.room sizes.first
      (ready_none_asked Q R T f c.expected pcb octet w.last.items fault quiet_now h q))
  ready_tells c w f pcb octet fault quiet_now talk sizes (behind_free h q x) =
      subst (λ (y : End). Tells Q R c (open_end w y (Perhaps pcb octet)) (ready c.expected fault))
      (sym (sided f sizes.side))
      (openly_ready Q R T c w f (Perhaps pcb octet) fault talk sizes.room sizes.first
      (ready_none_free Q R T f c.expected pcb octet w.last.items fault quiet_now h q x))

  ready_says : (c : CardState) (w : Watched) (f : End) (pcb : Pcb) (octet : ℕ) (fault : Fault) → IsAfterQuiet pcb
      → IsCommand c.waits → IsTalk c.waits → T → (c.saved ≡ None) ⊎ (Q c.number → ⊥) → HasSizes c.ifsd first_ifsd f
      → IsBehind c.expected f
      → Leaves Q R T (open_end w f (Perhaps pcb octet)) (Ok (Send (ready c.expected fault), c))
  ready_says c w f pcb octet fault quiet_now now talk t taken sizes behind = (
    ready_tells c w f pcb octet fault quiet_now talk sizes behind,
    tt,
    talk_awaits c.waits talk,
    λ own anew. stale_known (owes_ready now t taken (sizes_overlooked c.ifsd first_ifsd f (Perhaps pcb octet) sizes)
        (behind_stays Q R T c f pcb octet behind)),
  )

  ready_saved : (c : CardState) (joined : List ℕ) (saved : Option (List ℕ)) (w : Watched) (f : End) (number : Number)
      (fault : Fault) (octet : ℕ) → (saved ≡ None) ⊎ (same number c.number ≡ false) → T
      → (saved ≡ None) ⊎ (Q c.number → ⊥) → HasSizes c.ifsd first_ifsd f → IsBehind c.expected f
      → Leaves Q R T (open_end w f (Perhaps (Ready number fault) octet))
      (sends_saved (record c { saved = saved; waits = command joined }) saved (same number c.number))
  ready_saved c joined None w f number fault octet none t taken sizes behind =
      ready_says (record c { saved = None; waits = command joined }) w f (Ready number fault) octet Free tt tt tt t
      taken
      sizes behind
  ready_saved c joined (Some field) w f number fault octet (inl none) t taken sizes behind =
      absurd (true≢false (ap no_saved (sym none)))
    where
      no_saved : Option (List ℕ) → Bool
      no_saved None = true
      no_saved (Some x) = false
  ready_saved c joined (Some field) w f number fault octet (inr differs) t taken sizes behind =
      subst (λ (b : Bool). Leaves Q R T (open_end w f (Perhaps (Ready number fault) octet))
      (sends_saved (record c { saved = Some field; waits = command joined }) (Some field) b)) (sym differs)
      (ready_says (record c { saved = Some field; waits = command joined }) w f (Ready number fault) octet Free tt tt tt
      t
      taken sizes behind)

  ready_takes : (waits : Waits) (c : CardState) (w : Watched) (f : End) (sent : Pcb) (octet : ℕ) (came : Came)
      → IsAfterQuiet sent → IsCommand waits → AsksReady c came → T → (c.saved ≡ None) ⊎ (Q c.number → ⊥)
      → HasSizes c.ifsd first_ifsd f → IsBehind c.expected f
      → Leaves Q R T (open_end w f (tap_heard sent octet came)) (card_came (record c { waits = waits }) waits came)
  ready_takes host c w f sent octet came quiet_now now h t taken sizes behind = absurd now
  ready_takes (reply field rest) c w f sent octet came quiet_now now h t taken sizes behind = absurd now
  ready_takes (asking asked) c w f sent octet came quiet_now now h t taken sizes behind = absurd now
  ready_takes (command joined) c w f sent octet (got (Info number goes_on) inf) quiet_now now h t taken sizes behind =
      absurd h
  ready_takes (command joined) c w f sent octet (got (Ready number fault) inf) quiet_now now h t taken sizes behind =
      ready_saved c joined c.saved w f number fault (carried inf) h t taken sizes behind
  ready_takes (command joined) c w f sent octet (got (Request Resynch) inf) quiet_now now h t taken sizes behind =
      anew_says Q R T (record c { waits = command joined }) (open_end w f Broken) f (carried inf) (sided f sizes.side)
      sizes.first
  ready_takes (command joined) c w f sent octet (got (Request Ifs) inf) quiet_now now h t taken sizes behind = absurd h
  ready_takes (command joined) c w f sent octet (got (Request Abort) inf) quiet_now now h t taken sizes behind =
      absurd h
  ready_takes (command joined) c w f sent octet (got (Request Wtx) inf) quiet_now now h t taken sizes behind = absurd h
  ready_takes (command joined) c w f sent octet (got (Response s) inf) quiet_now now h t taken sizes behind = absurd h
  ready_takes (command joined) c w f sent octet damaged quiet_now now h t taken sizes behind =
      ready_says (record c { waits = command joined }) w f sent octet Redundancy quiet_now tt tt t taken sizes behind
  ready_takes (command joined) c w f sent octet invalid quiet_now now h t taken sizes behind =
      ready_says (record c { waits = command joined }) w f sent octet Other quiet_now tt tt t taken sizes behind
  ready_takes (command joined) c w f sent octet quiet quiet_now now h t taken sizes behind = absurd h

  -- ---- a question is due

  ask_fits : (c : CardState) (asked : CardRequest) (w : Watched) (f : End) (heard : Heard) (n : ℕ) (e : End)
      → AskEnd c asked e
      → FitsAny (left Q (request_block asked).pcb) (left_anew R (request_block asked).pcb)
      (record c { waits = asking asked }) (kept_after (open_end w f heard) (request_block asked) n e)
  ask_fits c (size k) w f heard n e (base, room, first, kind, is) =
      inr (loose_asking (size k) refl (record { base = base; is = is; room = room; first = first; kind = kind }))
  ask_fits c (time k) w f heard n e (base, room, first, kind, is) =
      inr (loose_asking (time k) refl (record { base = base; is = is; room = room; first = first; kind = kind }))

  open_asks : (c : CardState) (asked : CardRequest) (w : Watched) (f : End) (heard : Heard) → c.ifsd ≤ f.room
      → first_ifsd ≤ f.first_room
      → ((due : After) (e1 : End) → Course (record f { side = Card }) heard due
      → sends due.«end» due.owed w.last.items (request_block asked).pcb (request_block asked).inf ≡ Ok e1
      → AskEnd c asked e1)
      → Tells Q R (record c { waits = asking asked }) (open_end w (record f { side = Card }) heard)
      (request_block asked)
  open_asks c asked w f heard room first permits =
      let e = record f { side = Card } in
      open_tells Q R T (record c { waits = asking asked }) (open_end w e heard) (request_block asked) (AskEnd c asked)
      refl
      (own_request asked) (within_request asked c.ifsd f.room)
      (λ e1 p. permits p.due e1 p.course p.sent)
      (λ e1 is. any_asked c asked (record f { known = false; before = AnyBlock }) e1 w.last.items room first is)
      (λ n e1 end_now. ask_fits c asked w e heard n e1 end_now)

  -- and where nothing is known
  any_asks : (c : CardState) (asked : CardRequest) (w : Watched) → AnyCourse c.ifsd first_ifsd w
      → Tells Q R (record c { waits = asking asked }) w (request_block asked)
  any_asks c (size k) w a talks within n =
      let e = record a.due {
        side = Card;
        known = true;
        asked = Some (Size k);
        before = AnyBlock;
        tries = 0;
        row = no_row;
      } in
      let b = request_block (size k) in
      let now = on_course w b (after (record a.due { side = Card }) AnyBlock) e a.course refl in
      tells Q R T (record c { waits = asking (size k) }) w b n e now.0 now.1 (inr (loose_asking (size k) refl (record {
        base = record a.due { before = AnyBlock; tries = 0; row = no_row };
        is = not_tried w.doubt e;
        room = a.room;
        first = a.first;
        kind = inl refl;
      })))
  any_asks c (time k) w a talks within n =
      let e = record a.due {
        side = Card;
        known = true;
        asked = Some (Time k);
        before = AnyBlock;
        tries = 0;
        row = no_row;
      } in
      let b = request_block (time k) in
      let now = on_course w b (after (record a.due { side = Card }) AnyBlock) e a.course refl in
      tells Q R T (record c { waits = asking (time k) }) w b n e now.0 now.1 (inr (loose_asking (time k) refl (record {
        base = record a.due { before = AnyBlock; tries = 0; row = no_row };
        is = not_tried w.doubt e;
        room = a.room;
        first = a.first;
        kind = inl refl;
      })))

  request_tells : (c : CardState) (asked : CardRequest) (w : Watched) (f : End) (pcb : Pcb) (octet : ℕ)
      → IsAfterQuiet pcb → HasSizes c.ifsd first_ifsd f → IsBeforeRequest c.number c.expected f
      → Tells Q R (record c { waits = asking asked }) (open_end w f (Perhaps pcb octet)) (request_block asked)
  request_tells c asked w f pcb octet quiet_now sizes (request_unknown h) =
      let c1 = record c { expected = f.expects } in
      let u : IsUnknown c1 (open_end w f Broken) = record {
        base = f;
        is = sided f sizes.side ∙ ap (λ b. record f { side = Card; known = b }) h;
        room = sizes.room;
        first = sizes.first;
        numbers = inr (inr refl);
      } in
      let a = any_course c1 (open_end w f Broken) (Perhaps pcb octet) tt u in
      any_asks c asked (open_end w f (Perhaps pcb octet))
      (record { due = a.due; course = a.course; room = a.room; first = a.first })
  request_tells c asked w f pcb octet quiet_now sizes (request_free h q p a) =
      subst (λ (x : End). Tells Q R (record c { waits = asking asked }) (open_end w x (Perhaps pcb octet))
      (request_block asked)) (sym (sided f sizes.side))
      (open_asks c asked w f (Perhaps pcb octet) sizes.room sizes.first
      (λ due e1 course is.
      let shape = free_sided (record f { side = Card }) refl h q in
      let d = due_none f pcb octet due quiet_now p a
      (subst (λ (x : End). Course x (Perhaps pcb octet) due) shape course) in
      absurd (none_request f due.owed w.last.items asked e1 d.owed
      (subst (λ (x : End). sends x due.owed w.last.items (request_block asked).pcb (request_block asked).inf ≡ Ok e1)
      d.is
      is))))
  request_tells c asked w f pcb octet quiet_now sizes (request_asked before h q kind) =
      subst (λ (x : End). Tells Q R (record c { waits = asking asked }) (open_end w x (Perhaps pcb octet))
      (request_block asked)) (sym (sided f sizes.side))
      (open_asks c asked w f (Perhaps pcb octet) sizes.room sizes.first
      (λ due e1 course is. go due e1 is (due_asked f (question before) pcb octet due quiet_now
      (subst (λ (x : End). Course x (Perhaps pcb octet) due) shape course))))
    where
      shape : record f { side = Card } ≡ asked_end f (question before)
      shape = ap (λ b. record f { side = Card; known = b }) h
          ∙ ap (λ (a : Option Asked). record f { side = Card; known = true; asked = a }) q

      go : (due : After) (e1 : End)
          → sends due.«end» due.owed w.last.items (request_block asked).pcb (request_block asked).inf ≡ Ok e1
          → AskedDue (asked_end f (question before)) due → AskEnd c asked e1
      go due e1 is (asks_on same_due) =
          let (base, r, i, k, e) = request_again c.number c.expected f asked before w.last.items e1 kind
          (subst (λ (d : After). sends d.«end» d.owed w.last.items (request_block asked).pcb (request_block asked).inf
          ≡ Ok e1) same_due is) in
          (base, subst (λ n. c.ifsd ≤ n) (sym r) sizes.room, subst (λ n. first_ifsd ≤ n) (sym i) sizes.first, k, e)
      go due e1 is (begins_anew same_due) = absurd (answers_no asked e1
          (subst (λ (d : After). sends d.«end» d.owed w.last.items (request_block asked).pcb (request_block asked).inf
          ≡ Ok e1) same_due is))
        where
          answers_no : (asked : CardRequest) (e1 : End)
              → sends (asked_end f (question before)) (Answer Resynch 0) w.last.items (request_block asked).pcb
              (request_block asked).inf ≡ Ok e1 → ⊥
          answers_no (size n) e1 is = refused ResponseDue e1 is
          answers_no (time n) e1 is = refused ResponseDue e1 is

  request_says : (c : CardState) (asked : CardRequest) (w : Watched) (f : End) (pcb : Pcb) (octet : ℕ)
      → IsAfterQuiet pcb → HasSizes c.ifsd first_ifsd f → IsBeforeRequest c.number c.expected f
      → Leaves Q R T (open_end w f (Perhaps pcb octet))
      (Ok (Send (request_block asked), record c { waits = asking asked }))
  request_says c asked w f pcb octet quiet_now sizes before = (
    request_tells c asked w f pcb octet quiet_now sizes before,
    plain_request asked,
    tt,
    λ own anew. stale_known (owes_request asked refl (sizes_overlooked c.ifsd first_ifsd f (Perhaps pcb octet) sizes)
        (request_stays Q R T c f pcb octet quiet_now before)),
  )

  request_takes : (c : CardState) (asked : CardRequest) (w : Watched) (f : End) (sent : Pcb) (octet : ℕ) (came : Came)
      → IsAfterQuiet sent → AsksRequest came → HasSizes c.ifsd first_ifsd f → IsBeforeRequest c.number c.expected f
      → Leaves Q R T (open_end w f (tap_heard sent octet came))
      (card_came (record c { waits = asking asked }) (asking asked) came)
  request_takes c asked w f sent octet (got (Info number goes_on) inf) quiet_now h sizes before = absurd h
  request_takes c (size n) w f sent octet (got (Ready number fault) inf) quiet_now h sizes before =
      request_says c (size n) w f (Ready number fault) (carried inf) tt sizes before
  request_takes c (time n) w f sent octet (got (Ready number fault) inf) quiet_now h sizes before =
      request_says c (time n) w f (Ready number fault) (carried inf) tt sizes before
  request_takes c asked w f sent octet (got (Request Resynch) inf) quiet_now h sizes before =
      anew_says Q R T (record c { waits = asking asked }) (open_end w f Broken) f (carried inf) (sided f sizes.side)
      sizes.first
  request_takes c asked w f sent octet (got (Request Ifs) inf) quiet_now h sizes before = absurd h
  request_takes c asked w f sent octet (got (Request Abort) inf) quiet_now h sizes before = absurd h
  request_takes c asked w f sent octet (got (Request Wtx) inf) quiet_now h sizes before = absurd h
  request_takes c asked w f sent octet (got (Response s) inf) quiet_now h sizes before = absurd h
  request_takes c (size n) w f sent octet damaged quiet_now h sizes before =
      request_says c (size n) w f sent octet quiet_now sizes before
  request_takes c (time n) w f sent octet damaged quiet_now h sizes before =
      request_says c (time n) w f sent octet quiet_now sizes before
  request_takes c (size n) w f sent octet invalid quiet_now h sizes before =
      request_says c (size n) w f sent octet quiet_now sizes before
  request_takes c (time n) w f sent octet invalid quiet_now h sizes before =
      request_says c (time n) w f sent octet quiet_now sizes before
  request_takes c asked w f sent octet quiet quiet_now h sizes before = absurd h

  -- ---- it asked, and little is known of it else

  abbrev asking_end : CardRequest → End → End
  asking_end asked e = record e { side = Card; known = true; asked = Some (question asked) }

  asking_none : (asked : CardRequest) (e : End) (heard : Heard) → IsTapped heard → Fewer (asking_end asked e) heard
  asking_none asked e Beginning h = absurd h
  asking_none asked e (Whole pcb octet) h = absurd h
  asking_none asked e (Perhaps pcb octet) h =
      asking_at (maybe pcb octet) damaged (record e { side = Card }) (question asked) tt
  asking_none asked e Broken h = asking_at certain quiet (record e { side = Card }) (question asked) tt
  asking_none asked e Nothing h = absurd h

  asking_tells : (c : CardState) (asked : CardRequest) (w : Watched) (e : End) (heard : Heard) → IsTapped heard
      → c.ifsd ≤ e.room → first_ifsd ≤ e.first_room → (e.before ≡ AnyBlock) ⊎ IsExact c.number c.expected e
      → Tells Q R (record c { waits = asking asked }) (record w { «end» = asking_end asked e; heard = heard })
      (request_block asked)
  asking_tells c (size k) w e heard tapped room first kind talks within n =
      let none = asking_none (size k) e heard tapped in
      let e1 = record (asking_end (size k) e) { before = after_answer e.before Card; tries = 0; row = no_row } in
      let w1 = record w { «end» = asking_end (size k) e; heard = heard } in
      let b = request_block (size k) in
      let now = on_course w1 b (after (record (asking_end (size k) e) { tries = none.0 }) SameRequest) e1 (inr none.2)
      (is_then (k == k) _ _ (equal_self k)) in
      tells Q R T (record c { waits = asking (size k) }) w1 b n e1 now.0 now.1 (inr (loose_asking (size k) refl (record {
        base = record e { before = after_answer e.before Card; tries = 0; row = no_row };
        is = not_tried w.doubt e1;
        room = room;
        first = first;
        kind = exact_again c.number c.expected e kind;
      })))
  asking_tells c (time k) w e heard tapped room first kind talks within n =
      let none = asking_none (time k) e heard tapped in
      let e1 = record (asking_end (time k) e) { before = after_answer e.before Card; tries = 0; row = no_row } in
      let w1 = record w { «end» = asking_end (time k) e; heard = heard } in
      let b = request_block (time k) in
      let now = on_course w1 b (after (record (asking_end (time k) e) { tries = none.0 }) SameRequest) e1 (inr none.2)
      (is_then (k == k) _ _ (equal_self k)) in
      tells Q R T (record c { waits = asking (time k) }) w1 b n e1 now.0 now.1 (inr (loose_asking (time k) refl (record {
        base = record e { before = after_answer e.before Card; tries = 0; row = no_row };
        is = not_tried w.doubt e1;
        room = room;
        first = first;
        kind = exact_again c.number c.expected e kind;
      })))

  asking_stale : (c : CardState) (asked : CardRequest) (w : Watched) (s : IsAsking c asked w) (heard : Heard)
      → Stale Q R T (record c { waits = asking asked }) (silent (plain_of (hears_it w heard)))
  asking_stale c asked w s heard =
      let e = asking_end asked s.base in
      subst (λ (x : End). Stale Q R T (record c { waits = asking asked }) (silent (watched x heard w.last.items)))
      (sym s.is)
      (owes_request asked refl
      (sizes_overlooked c.ifsd first_ifsd e heard (record { side = refl; room = s.room; first = s.first }))
      (go s.kind))
    where
      go : (s.base.before ≡ AnyBlock) ⊎ IsExact c.number c.expected s.base
          → IsBeforeRequest c.number c.expected (overlooked (asking_end asked s.base) heard)
      go (inl any) =
          let k = core_overlooked (asking_end asked s.base) heard refl in
          request_asked asked k.0 k.1 (inl (k.2 ∙ any))
      go (inr (b, n, x)) =
          let k = core_overlooked (asking_end asked s.base) heard refl in
          request_asked asked k.0 k.1 (inr (k.2 ∙ b, k.3 ∙ n, k.4 ∙ x))

  asking_again : (c : CardState) (asked : CardRequest) (w : Watched) (s : IsAsking c asked w) (heard : Heard)
      → IsTapped heard
      → Leaves Q R T (hears_it w heard) (Ok (Send (request_block asked), record c { waits = asking asked }))
  asking_again c asked w s heard tapped = (
    subst (λ (e : End). Tells Q R (record c { waits = asking asked }) (record w { «end» = e; heard = heard })
        (request_block asked)) (sym s.is) (asking_tells c asked w s.base heard tapped s.room s.first s.kind),
    plain_request asked,
    tt,
    λ own anew. stale_known (asking_stale c asked w s heard),
  )

  -- its request is answered
  asking_done : (c : CardState) (asked : CardRequest) (w : Watched) (s : IsAsking c asked w) (ifsc : ℕ) (pcb : Pcb)
      (octet : ℕ)
      → got_whole (asking_end asked s.base) (Perhaps pcb octet)
      ≡ Some (after (record s.base { side = Card; known = true; asked = None }) s.base.before)
      → FitsAny Q R (record c { ifsc = ifsc; waits = host }) (hears_it w (Perhaps pcb octet))
  asking_done c asked w s ifsc pcb octet answered_now = go s.kind
    where
      heard : Heard
      heard = Perhaps pcb octet

      owes : got_whole w.«end» (Perhaps pcb octet)
          ≡ Some (after (record s.base { side = Card; known = true; asked = None }) s.base.before)
      owes = subst (λ (e : End). got_whole e (Perhaps pcb octet)
          ≡ Some (after (record s.base { side = Card; known = true; asked = None }) s.base.before)) (sym s.is)
          answered_now

      sizes : HasSizes c.ifsd first_ifsd (overlooked w.«end» (Perhaps pcb octet))
      sizes = sizes_overlooked c.ifsd first_ifsd w.«end» (Perhaps pcb octet)
          (subst (HasSizes c.ifsd first_ifsd) (sym s.is)
          (record { side = refl; room = s.room; first = s.first }))

      core : Core (asking_end asked s.base) (overlooked w.«end» (Perhaps pcb octet))
      core = subst (λ (e : End). Core (asking_end asked s.base) (overlooked e (Perhaps pcb octet))) (sym s.is)
          (core_overlooked (asking_end asked s.base) (Perhaps pcb octet) refl)

      go : (s.base.before ≡ AnyBlock) ⊎ IsExact c.number c.expected s.base
          → FitsAny Q R (record c { ifsc = ifsc; waits = host }) (hears_it w (Perhaps pcb octet))
      go (inl any) = inr (loose_rests refl (record {
        base = record s.base { known = true; asked = None };
        owes = owes ∙ ap (λ (o : Owed). Some (after (record s.base { side = Card; known = true; asked = None }) o)) any;
        room = s.room;
        first = s.first;
        numbers = inl any;
        sizes = sizes;
        was = inr (asked, core.0, core.1, core.2 ∙ any);
      }))
      go (inr (b, n, x)) = inl (record {
        spare = record {
          before = MessageOrRefusal;
          room = s.base.room;
          first = s.base.first_room;
          largest = s.base.largest_room;
          tries = s.base.tries;
          row = s.base.row;
          room_ok = s.room;
          first_ok = s.first;
        };
        pending = s.base.pending;
        aborted = s.base.aborted;
        owed = MessageOrRefusal;
        owes = owes
            ∙ ap (λ (o : Owed). Some (after (record s.base { side = Card; known = true; asked = None; before = o }) o))
            b
            ∙ ap (λ (m : Number). Some (after (record s.base {
              side = Card;
              known = true;
              asked = None;
              before = MessageOrRefusal;
              next = m;
            }) MessageOrRefusal)) n
            ∙ ap (λ (m : Number). Some (after (record s.base {
              side = Card;
              known = true;
              asked = None;
              before = MessageOrRefusal;
              next = c.number;
              expects = m;
            }) MessageOrRefusal)) x;
        message = ((λ last n m i. refl), (λ last n. refl), (λ last n. refl));
        sizes = sizes;
        origin = from_request asked core.0 core.1 (core.2 ∙ b, core.3 ∙ n, core.4 ∙ x);
      })

  asking_takes : (c : CardState) (asked : CardRequest) (w : Watched) (s : IsAsking c asked w) (sent : Pcb) (octet : ℕ)
      (came : Came) → Leaves Q R T (hears_it w (tap_heard sent octet came))
      (card_came (record c { waits = asking asked }) (asking asked) came)
  asking_takes c asked w s sent octet (got (Request Resynch) inf) =
      anew_says Q R T (record c { waits = asking asked }) w (asking_end asked s.base) (carried inf) s.is s.first
  asking_takes c (size n) w s sent octet (got (Response Ifs) inf) =
      with_test (Leaves Q R T (hears_it w (Perhaps (Response Ifs) (carried inf)))) (carried inf == n) _ _
      (λ h. (
        (λ x. x),
        asking_done c (size n) w s n (Response Ifs) (carried inf)
            (ap Some (is_then (carried inf == n) _ _ h)),
      ))
      (λ h. asking_again c (size n) w s (Perhaps (Response Ifs) (carried inf)) tt)
  asking_takes c (time n) w s sent octet (got (Response Wtx) inf) =
      with_test (Leaves Q R T (hears_it w (Perhaps (Response Wtx) (carried inf)))) (carried inf == n) _ _
      (λ h. (
        (λ x. x),
        asking_done c (time n) w s c.ifsc (Response Wtx) (carried inf)
            (ap Some (is_then (carried inf == n) _ _ h)),
      ))
      (λ h. asking_again c (time n) w s (Perhaps (Response Wtx) (carried inf)) tt)
  asking_takes c (size n) w s sent octet (got (Info number goes_on) inf) =
      asking_again c (size n) w s (Perhaps (Info number goes_on) (carried inf)) tt
  asking_takes c (size n) w s sent octet (got (Ready number fault) inf) =
      asking_again c (size n) w s (Perhaps (Ready number fault) (carried inf)) tt
  asking_takes c (size n) w s sent octet (got (Request Ifs) inf) =
      asking_again c (size n) w s (Perhaps (Request Ifs) (carried inf)) tt
  asking_takes c (size n) w s sent octet (got (Request Abort) inf) =
      asking_again c (size n) w s (Perhaps (Request Abort) (carried inf)) tt
  asking_takes c (size n) w s sent octet (got (Request Wtx) inf) =
      asking_again c (size n) w s (Perhaps (Request Wtx) (carried inf)) tt
  asking_takes c (size n) w s sent octet (got (Response Resynch) inf) =
      asking_again c (size n) w s (Perhaps (Response Resynch) (carried inf)) tt
  asking_takes c (size n) w s sent octet (got (Response Abort) inf) =
      asking_again c (size n) w s (Perhaps (Response Abort) (carried inf)) tt
  asking_takes c (size n) w s sent octet (got (Response Wtx) inf) =
      asking_again c (size n) w s (Perhaps (Response Wtx) (carried inf)) tt
  asking_takes c (size n) w s sent octet damaged = asking_again c (size n) w s (Perhaps sent octet) tt
  asking_takes c (size n) w s sent octet invalid = asking_again c (size n) w s (Perhaps sent octet) tt
  asking_takes c (size n) w s sent octet quiet = asking_again c (size n) w s Broken tt
  asking_takes c (time n) w s sent octet (got (Info number goes_on) inf) =
      asking_again c (time n) w s (Perhaps (Info number goes_on) (carried inf)) tt
  asking_takes c (time n) w s sent octet (got (Ready number fault) inf) =
      asking_again c (time n) w s (Perhaps (Ready number fault) (carried inf)) tt
  asking_takes c (time n) w s sent octet (got (Request Ifs) inf) =
      asking_again c (time n) w s (Perhaps (Request Ifs) (carried inf)) tt
  asking_takes c (time n) w s sent octet (got (Request Abort) inf) =
      asking_again c (time n) w s (Perhaps (Request Abort) (carried inf)) tt
  asking_takes c (time n) w s sent octet (got (Request Wtx) inf) =
      asking_again c (time n) w s (Perhaps (Request Wtx) (carried inf)) tt
  asking_takes c (time n) w s sent octet (got (Response Resynch) inf) =
      asking_again c (time n) w s (Perhaps (Response Resynch) (carried inf)) tt
  asking_takes c (time n) w s sent octet (got (Response Abort) inf) =
      asking_again c (time n) w s (Perhaps (Response Abort) (carried inf)) tt
  asking_takes c (time n) w s sent octet (got (Response Ifs) inf) =
      asking_again c (time n) w s (Perhaps (Response Ifs) (carried inf)) tt
  asking_takes c (time n) w s sent octet damaged = asking_again c (time n) w s (Perhaps sent octet) tt
  asking_takes c (time n) w s sent octet invalid = asking_again c (time n) w s (Perhaps sent octet) tt
  asking_takes c (time n) w s sent octet quiet = asking_again c (time n) w s Broken tt

  -- ---- the card's host, and nothing is known

  rests_course : (c : CardState) (w : Watched) → RestsUnknown c w → AnyCourse c.ifsd first_ifsd w
  rests_course c w r = record { due = r.base; course = inl r.owes; room = r.room; first = r.first }

  rests_stale : (c : CardState) (field rest : List ℕ) (w : Watched) → (r : RestsUnknown c w) → Q c.number
      → StaleAny Q R T (record c { saved = saving c.saved field rest; waits = waiting field rest })
      (silent (plain_of w))
  rests_stale c field rest w r lags = go rest r.was
    where
      go : (rest : List ℕ)
          → (((overlooked w.«end» w.heard).known ≡ false) × Numbers c.expected (overlooked w.«end» w.heard))
          ⊎ ((asked : CardRequest) × ((overlooked w.«end» w.heard).known ≡ true)
          × ((overlooked w.«end» w.heard).asked ≡ Some (question asked))
          × ((overlooked w.«end» w.heard).before ≡ AnyBlock))
          → StaleAny Q R T (record c { saved = saving c.saved field rest; waits = waiting field rest })
          (silent (plain_of w))
      go [] (inl (h, numbers)) = stale_unknown tt r.sizes h numbers
      go (x ∷ rest) (inl (h, numbers)) = stale_unknown tt r.sizes h numbers
      go [] (inr (asked, h, q, any)) =
          stale_known (owes_info tt r.sizes lags (before_asking h (ap is_waiting q)))
      go (x ∷ rest) (inr (asked, h, q, any)) =
          stale_known (owes_info tt r.sizes lags (before_asking h (ap is_waiting q)))

  rests_replies : (c : CardState) (w : Watched) (octets : List ℕ) → RestsUnknown c w
      → Leaves Q R T w (if nat_le (length octets) c.limits.answer then sends_next c octets else Err TooLong)
  rests_replies c w octets r = with_test (Leaves Q R T w) (nat_le (length octets) c.limits.answer) _ _
      (λ h. (
        any_begins Q R T c w (take c.ifsd octets) (drop c.ifsd octets)
            (record { due = r.base; course = inl r.owes; room = r.room; first = r.first }) r.numbers,
        tt,
        talk_awaits (waiting (take c.ifsd octets) (drop c.ifsd octets))
            (waiting_talk Q R T (take c.ifsd octets) (drop c.ifsd octets)),
        λ own anew. rests_stale c (take c.ifsd octets) (drop c.ifsd octets) w r (own tt),
      ))
      (λ h. tt)

  rests_asks : (c : CardState) (w : Watched) (asked : CardRequest) → RestsUnknown c w
      → Leaves Q R T w (Ok (Send (request_block asked), record c { waits = asking asked }))
  rests_asks c w asked r = (
    any_asks c asked w (rests_course c w r),
    plain_request asked,
    tt,
    λ own anew. stale_known (owes_request asked refl r.sizes (go r.was)),
  )
    where
      go : (((overlooked w.«end» w.heard).known ≡ false) × Numbers c.expected (overlooked w.«end» w.heard))
          ⊎ ((asked : CardRequest) × ((overlooked w.«end» w.heard).known ≡ true)
          × ((overlooked w.«end» w.heard).asked ≡ Some (question asked))
          × ((overlooked w.«end» w.heard).before ≡ AnyBlock))
          → IsBeforeRequest c.number c.expected (overlooked w.«end» w.heard)
      go (inl (h, numbers)) = request_unknown h
      go (inr (asked, h, q, any)) = request_asked asked h q (inl any)

  -- ---- the response to RESYNCH was never seen

  data UnknownDue (f : End) (due : After) : Type 0 where
    any_due : due ≡ after (record f { side = Card; known = false }) AnyBlock → UnknownDue f due
    anew_now : due ≡ after (record f { side = Card; known = false }) (Answer Resynch 0) → UnknownDue f due

  unknown_due : (f : End) (pcb : Pcb) (octet : ℕ) (due : After) → IsAfterQuiet pcb
      → Course (record f { side = Card; known = false }) (Perhaps pcb octet) due → UnknownDue f due
  unknown_due f (Info number goes_on) octet due h course = absurd h
  unknown_due f (Response k) octet due h course = absurd h
  unknown_due f (Ready number fault) octet due h (inl is) = any_due (sym (one_due _ due is))
  unknown_due f (Ready number fault) octet due h (inr is) = any_due (sym (one_due _ due is))
  unknown_due f (Request Resynch) octet due h (inl is) = anew_now (sym (one_due _ due is))
  unknown_due f (Request Ifs) octet due h (inl is) = any_due (sym (one_due _ due is))
  unknown_due f (Request Abort) octet due h (inl is) = any_due (sym (one_due _ due is))
  unknown_due f (Request Wtx) octet due h (inl is) = any_due (sym (one_due _ due is))
  unknown_due f (Request k) octet due h (inr is) = any_due (sym (one_due _ due is))

  anew_fits : (c : CardState) (w : Watched) (f : End) (pcb : Pcb) (octet : ℕ) (fault : Fault) → IsCommand c.waits → R
      → (n : ℕ) (e : End) → (base : End) × (first_ifsd ≤ base.first_room) × (e ≡ record base { side = Card })
      → FitsAny Q R c (kept_after (open_end w f (Perhaps pcb octet)) (ready c.expected fault) n e)
  anew_fits c w f pcb octet fault now r n e (base, first, is) =
      inr (loose_anew now (record { base = base; is = is; first = first; free = refl; anew = r }))

  anew_ready : (c : CardState) (w : Watched) (f : End) (pcb : Pcb) (octet : ℕ) (fault : Fault) → IsAfterQuiet pcb
      → IsCommand c.waits → R → f.side ≡ Card → first_ifsd ≤ f.first_room
      → (known : Bool) (asked : Option Asked) → f.known ≡ known → f.asked ≡ asked
      → Tells Q R c (open_end w f (Perhaps pcb octet)) (ready c.expected fault)
  anew_ready c w f pcb octet fault quiet_now now r side first false asked h q =
      subst (λ (x : End). Tells Q R c (open_end w x (Perhaps pcb octet)) (ready c.expected fault))
      (sym (sided f side ∙ ap (λ b. record f { side = Card; known = b }) h))
      (open_tells Q R T c (open_end w (record f { side = Card; known = false }) (Perhaps pcb octet))
      (ready c.expected fault)
      (λ e. (base : End) × (first_ifsd ≤ base.first_room) × (e ≡ record base { side = Card }))
      refl refl (λ within. within)
      (λ e1 p. go e1 p.due p.sent (unknown_due f pcb octet p.due quiet_now p.course))
      (λ e1 is. (
        record f { known = false; before = AnyBlock; asked = None; expects = c.expected },
        first,
        is_end _ e1 is,
      ))
      (anew_fits c w (record f { side = Card; known = false }) pcb octet fault now r))
    where
      go : (e1 : End) (due : After) → sends due.«end» due.owed w.last.items (Ready c.expected fault) [] ≡ Ok e1
          → UnknownDue f due
          → (base : End) × (first_ifsd ≤ base.first_room) × (e1 ≡ record base { side = Card })
      go e1 due is (any_due same_due) = (
        record f { known = false; asked = None; expects = c.expected },
        first,
        is_end _ e1
            (subst (λ (d : After). sends d.«end» d.owed w.last.items (Ready c.expected fault) [] ≡ Ok e1) same_due is),
      )
      go e1 due is (anew_now same_due) = refused ResponseDue e1
          (subst (λ (d : After). sends d.«end» d.owed w.last.items (Ready c.expected fault) [] ≡ Ok e1) same_due is)
  anew_ready c w f pcb octet fault quiet_now now r side first true (Some a) h q =
      subst (λ (x : End). Tells Q R c (open_end w x (Perhaps pcb octet)) (ready c.expected fault)) (sym (sided f side))
      (open_tells Q R T c (open_end w (record f { side = Card }) (Perhaps pcb octet)) (ready c.expected fault)
      (λ e. (base : End) × (first_ifsd ≤ base.first_room) × (e ≡ record base { side = Card }))
      refl refl (λ within. within)
      (λ e1 p. absurd (ready_none_asked Q R T f c.expected pcb octet w.last.items fault quiet_now h (ap is_waiting q)
      p.due e1 p.course p.sent))
      (λ e1 is. (
        record f { known = false; before = AnyBlock; asked = None; expects = c.expected },
        first,
        is_end _ e1 is,
      ))
      (anew_fits c w (record f { side = Card }) pcb octet fault now r))
  anew_ready c w f pcb octet fault quiet_now now r side first true None h q =
      subst (λ (x : End). Tells Q R c (open_end w x (Perhaps pcb octet)) (ready c.expected fault))
      (sym (free_sided f side h q))
      (open_tells Q R T c (open_end w (card_free f) (Perhaps pcb octet)) (ready c.expected fault)
      (λ e. (base : End) × (first_ifsd ≤ base.first_room) × (e ≡ record base { side = Card }))
      refl refl (λ within. within)
      (λ e1 p. let d = due_free f pcb octet p.due quiet_now p.course in
      let out = ready_out (record f { pending = d.pending }) p.due.owed w.last.items c.expected fault e1 d.owed
      (subst (λ (x : End). sends x p.due.owed w.last.items (Ready c.expected fault) [] ≡ Ok e1) d.is p.sent) in (
        record f {
          pending = d.pending;
          known = true;
          asked = None;
          expects = c.expected;
          tries = out.tries;
          row = out.row;
        },
        first,
        out.is,
      ))
      (λ e1 is. (
        record f { known = false; before = AnyBlock; asked = None; expects = c.expected },
        first,
        is_end _ e1 is,
      ))
      (anew_fits c w (card_free f) pcb octet fault now r))

  anew_errs : (c : CardState) (w : Watched) (f : End) (pcb : Pcb) (octet : ℕ) (fault : Fault) → IsAfterQuiet pcb
      → IsCommand c.waits → IsTalk c.waits → R → HasSizes 0 first_ifsd f
      → Leaves Q R T (open_end w f (Perhaps pcb octet)) (Ok (Send (ready c.expected fault), c))
  anew_errs c w f pcb octet fault quiet_now now talk r sizes = (
    anew_ready c w f pcb octet fault quiet_now now r sizes.side sizes.first f.known f.asked refl refl,
    tt,
    talk_awaits c.waits talk,
    λ own anew. stale_known (owes_anew now r (sizes_overlooked 0 first_ifsd f (Perhaps pcb octet) sizes)),
  )

  anew_takes : (waits : Waits) (c : CardState) (w : Watched) (f : End) (sent : Pcb) (octet : ℕ) (came : Came)
      → IsAfterQuiet sent → IsCommand waits → AsksAnew came → R → HasSizes 0 first_ifsd f
      → Leaves Q R T (open_end w f (tap_heard sent octet came)) (card_came (record c { waits = waits }) waits came)
  anew_takes host c w f sent octet came quiet_now now h r sizes = absurd now
  anew_takes (reply field rest) c w f sent octet came quiet_now now h r sizes = absurd now
  anew_takes (asking asked) c w f sent octet came quiet_now now h r sizes = absurd now
  anew_takes (command joined) c w f sent octet (got (Info number goes_on) inf) quiet_now now h r sizes = absurd h
  anew_takes (command joined) c w f sent octet (got (Ready number fault) inf) quiet_now now h r sizes = absurd h
  anew_takes (command joined) c w f sent octet (got (Request Resynch) inf) quiet_now now h r sizes =
      anew_says Q R T (record c { waits = command joined }) (open_end w f Broken) f (carried inf) (sided f sizes.side)
      sizes.first
  anew_takes (command joined) c w f sent octet (got (Request Ifs) inf) quiet_now now h r sizes = absurd h
  anew_takes (command joined) c w f sent octet (got (Request Abort) inf) quiet_now now h r sizes = absurd h
  anew_takes (command joined) c w f sent octet (got (Request Wtx) inf) quiet_now now h r sizes = absurd h
  anew_takes (command joined) c w f sent octet (got (Response s) inf) quiet_now now h r sizes = absurd h
  anew_takes (command joined) c w f sent octet damaged quiet_now now h r sizes =
      anew_errs (record c { waits = command joined }) w f sent octet Redundancy quiet_now tt tt r sizes
  anew_takes (command joined) c w f sent octet invalid quiet_now now h r sizes =
      anew_errs (record c { waits = command joined }) w f sent octet Other quiet_now tt tt r sizes
  anew_takes (command joined) c w f sent octet quiet quiet_now now h r sizes = absurd h

  -- ---- the card takes what came

  -- what is known of the terminal's block
  pub record Allowed (c : CardState) (sent : Pcb) (came : Came) : Type 0 where
    pub plain : Plain (Due Q R T c (Info Zero true)) came
    pub due : Due Q R T c sent
    pub own : IsOwnWaits c.saved c.waits → Q c.number → AsksOwn c.number came × IsAfterQuiet sent
    pub anew : IsCommand c.waits → R → AsksAnew came × IsAfterQuiet sent

  plain_talk : (came : Came) (A B : Type 0) → (A → B) → Plain A came → Plain B came
  plain_talk (got (Info number goes_on) inf) A B f h = f h
  plain_talk (got (Ready number fault) inf) A B f h = h
  plain_talk (got (Request s) inf) A B f h = h
  plain_talk (got (Response s) inf) A B f h = h
  plain_talk damaged A B f h = h
  plain_talk invalid A B f h = h
  plain_talk quiet A B f h = h

  known_takes : (c : CardState) (w : Watched) (sent : Pcb) (octet : ℕ) (came : Came) → Plain T came
      → Fits c c.waits (plain_of w)
      → Leaves Q R T (hears_it w (tap_heard sent octet came)) (card_turn c (takes came))
  known_takes c w sent octet (got (Info number goes_on) inf) h fits =
      leaves_known Q R T (hears_it w (Perhaps (Info number goes_on) (carried inf))) _
      (takes_well Q R T c (plain_of w) (maybe sent octet) (got (Info number goes_on) inf) fits h)
  known_takes c w sent octet (got (Ready number fault) inf) h fits =
      leaves_known Q R T (hears_it w (Perhaps (Ready number fault) (carried inf))) _
      (takes_well Q R T c (plain_of w) (maybe sent octet) (got (Ready number fault) inf) fits h)
  known_takes c w sent octet (got (Request s) inf) h fits =
      leaves_known Q R T (hears_it w (Perhaps (Request s) (carried inf))) _
      (takes_well Q R T c (plain_of w) (maybe sent octet) (got (Request s) inf) fits h)
  known_takes c w sent octet (got (Response s) inf) h fits =
      leaves_known Q R T (hears_it w (Perhaps (Response s) (carried inf))) _
      (takes_well Q R T c (plain_of w) (maybe sent octet) (got (Response s) inf) fits h)
  known_takes c w sent octet damaged h fits =
      leaves_known Q R T (hears_it w (Perhaps sent octet)) _
      (takes_well Q R T c (plain_of w) (maybe sent octet) damaged fits h)
  known_takes c w sent octet invalid h fits =
      leaves_known Q R T (hears_it w (Perhaps sent octet)) _
      (takes_well Q R T c (plain_of w) (maybe sent octet) invalid fits h)
  known_takes c w sent octet quiet h fits =
      leaves_known Q R T (hears_it w Broken) _ (takes_well Q R T c (plain_of w) certain quiet fits h)

  unknown_waits : (waits : Waits) (c : CardState) (w : Watched) (sent : Pcb) (octet : ℕ) (came : Came) → IsTalk waits
      → Plain (Due Q R T (record c { waits = waits }) (Info Zero true)) came
      → Due Q R T (record c { waits = waits }) sent → IsUnknown c w
      → Leaves Q R T (hears_it w (tap_heard sent octet came)) (card_came (record c { waits = waits }) waits came)
  unknown_waits (command joined) c w sent octet came talk h due u =
      unknown_command Q R T c joined w sent octet came h due u
  unknown_waits host c w sent octet came talk h due u = absurd talk
  unknown_waits (reply field rest) c w sent octet came talk h due u =
      unknown_reply Q R T c field rest w sent octet came h due u
  unknown_waits (asking asked) c w sent octet came talk h due u = absurd talk

  asking_waits : (waits : Waits) (asked : CardRequest) (c : CardState) (w : Watched) (sent : Pcb) (octet : ℕ)
      (came : Came)
      → waits ≡ asking asked → IsAsking c asked w
      → Leaves Q R T (hears_it w (tap_heard sent octet came)) (card_came (record c { waits = waits }) waits came)
  asking_waits waits asked c w sent octet came is s =
      subst (λ (x : Waits). Leaves Q R T (hears_it w (tap_heard sent octet came))
      (card_came (record c { waits = x }) x came))
      (sym is) (asking_takes c asked w s sent octet came)

  host_waits : (waits : Waits) (c : CardState) (w : Watched) (came : Came) → waits ≡ host
      → Leaves Q R T w (card_came (record c { waits = waits }) waits came)
  host_waits waits c w came is =
      subst (λ (x : Waits). Leaves Q R T w (card_came (record c { waits = x }) x came)) (sym is) tt

  pub any_takes : (c : CardState) (w : Watched) (sent : Pcb) (octet : ℕ) (came : Came) → Allowed c sent came
      → FitsAny Q R c w
      → Leaves Q R T (hears_it w (tap_heard sent octet came)) (card_turn c (takes came))
  any_takes c w sent octet came allowed (inl fits) =
      known_takes c w sent octet came
      (plain_talk came (Due Q R T c (Info Zero true)) T (λ due. due.1) allowed.plain) fits
  any_takes c w sent octet came allowed (inr (loose_untold own u)) =
      let now = allowed.own own u.lags in
      subst (λ (v : Watched). Leaves Q R T v (card_turn c (takes came)))
      (sym (opened w (record u.base {
        side = Card;
        known = true;
        asked = None;
        next = c.number;
        expects = c.expected;
      }) (tap_heard sent octet came) u.is u.free))
      (untold_own Q R T c.waits c.saved c w u.base sent octet came own now.1 now.0 u.lags u.room u.first)
  any_takes c w sent octet came allowed (inr (loose_unknown talk u)) =
      unknown_waits c.waits c w sent octet came talk allowed.plain allowed.due u
  any_takes c w sent octet came allowed (inr (loose_anew now a)) =
      let asks = allowed.anew now a.anew in
      subst (λ (v : Watched). Leaves Q R T v (card_turn c (takes came)))
      (sym (opened w (record a.base { side = Card }) (tap_heard sent octet came) a.is a.free))
      (anew_takes c.waits c w (record a.base { side = Card }) sent octet came asks.1 now asks.0 a.anew
      (record { side = refl; room = omega arith; first = a.first }))
  any_takes c w sent octet came allowed (inr (loose_asking asked is s)) =
      asking_waits c.waits asked c w sent octet came is s
  any_takes c w sent octet came allowed (inr (loose_rests is r)) =
      host_waits c.waits c (hears_it w (tap_heard sent octet came)) came is

  -- ---- after a block that the tap missed

  -- what is known of the terminal's block after its waiting time
  pub record AllowedStale (c : CardState) (sent : Pcb) (came : Came) : Type 0 where
    pub allowed : Allowed c sent came
    pub quiet_now : IsAfterQuiet sent
    pub ready : IsCommand c.waits → T → (c.saved ≡ None) ⊎ (Q c.number → ⊥) → AsksReady c came
    pub request : (asked : CardRequest) → c.waits ≡ asking asked → AsksRequest came

  request_waits : (waits : Waits) (asked : CardRequest) (c : CardState) (w : Watched) (f : End) (sent : Pcb) (octet : ℕ)
      (came : Came) → waits ≡ asking asked
      → IsAfterQuiet sent → AsksRequest came → HasSizes c.ifsd first_ifsd f → IsBeforeRequest c.number c.expected f
      → Leaves Q R T (open_end w f (tap_heard sent octet came)) (card_came (record c { waits = waits }) waits came)
  request_waits waits asked c w f sent octet came is quiet_now h sizes before =
      subst (λ (x : Waits). Leaves Q R T (open_end w f (tap_heard sent octet came))
      (card_came (record c { waits = x }) x came)) (sym is)
      (request_takes c asked w f sent octet came quiet_now h sizes before)

  opened_as : (w : Watched) (heard : Heard) → w.doubt ≡ Open → hears_it w heard ≡ open_end w w.«end» heard
  opened_as w heard free = opened w w.«end» heard refl free

  pub stale_takes : (c : CardState) (w : Watched) (sent : Pcb) (octet : ℕ) (came : Came) → w.doubt ≡ Open
      → AllowedStale c sent came → StaleAny Q R T c (plain_of w)
      → Leaves Q R T (hears_it w (tap_heard sent octet came)) (card_turn c (takes came))
  stale_takes c w sent octet came free allowed (stale_unknown talk sizes h numbers) =
      any_takes c w sent octet came allowed.allowed (inr (loose_unknown talk (record {
        base = w.«end»;
        is = sided w.«end» sizes.side ∙ ap (λ b. record w.«end» { side = Card; known = b }) h;
        room = sizes.room;
        first = sizes.first;
        numbers = numbers;
      })))
  stale_takes c w sent octet came free allowed (stale_known (keeps fits)) =
      any_takes c w sent octet came allowed.allowed (inl fits)
  stale_takes c w sent octet came free allowed (stale_known (is_untold own sizes h q n x lags)) =
      any_takes c w sent octet came allowed.allowed (inr (loose_untold own (record {
        base = w.«end»;
        is = sided w.«end» sizes.side ∙ ap (λ b. record w.«end» { side = Card; known = b }) h
            ∙ ap (λ (a : Option Asked). record w.«end» { side = Card; known = true; asked = a }) q
            ∙ ap (λ (m : Number). record w.«end» { side = Card; known = true; asked = None; next = m }) n
            ∙ ap (λ (m : Number). record w.«end» {
              side = Card;
              known = true;
              asked = None;
              next = c.number;
              expects = m;
            }) x;
        room = sizes.room;
        first = sizes.first;
        free = free;
        lags = lags;
      })))
  stale_takes c w sent octet came free allowed (stale_known (owes_ready now t taken sizes behind)) =
      subst (λ (v : Watched). Leaves Q R T v (card_turn c (takes came)))
      (sym (opened_as w (tap_heard sent octet came) free))
      (ready_takes c.waits c w w.«end» sent octet came allowed.quiet_now now (allowed.ready now t taken) t taken sizes
      behind)
  stale_takes c w sent octet came free allowed (stale_known (owes_info own sizes lags before)) =
      let now = allowed.allowed.own own lags in
      subst (λ (v : Watched). Leaves Q R T v (card_turn c (takes came)))
      (sym (opened_as w (tap_heard sent octet came) free))
      (info_own Q R T c.waits c.saved c w w.«end» sent octet came own now.1 now.0 lags sizes before)
  stale_takes c w sent octet came free allowed (stale_known (owes_request asked is sizes before)) =
      subst (λ (v : Watched). Leaves Q R T v (card_turn c (takes came)))
      (sym (opened_as w (tap_heard sent octet came) free))
      (request_waits c.waits asked c w w.«end» sent octet came is allowed.quiet_now (allowed.request asked is) sizes
      before)
  stale_takes c w sent octet came free allowed (stale_known (owes_anew now r sizes)) =
      let asks = allowed.allowed.anew now r in
      subst (λ (v : Watched). Leaves Q R T v (card_turn c (takes came)))
      (sym (opened_as w (tap_heard sent octet came) free))
      (anew_takes c.waits c w w.«end» sent octet came asks.1 now asks.0 r sizes)

  -- ---- the card's host

  known_calls : (c : CardState) (w : Watched) (input : CardInput) → IsCall input → Fits c c.waits (plain_of w)
      → Leaves Q R T w (card_turn c input)
  known_calls c w input h fits = leaves_known Q R T w _ (calls_well Q R T c (plain_of w) input h fits)

  not_host : (waits : Waits) (w : Watched) (step : CardStep) → IsTalk waits → Leaves Q R T w (if_host waits step)
  not_host (command joined) w step h = tt
  not_host host w step h = absurd h
  not_host (reply field rest) w step h = tt
  not_host (asking asked) w step h = tt

  command_talk : (waits : Waits) → IsCommand waits → IsTalk waits
  command_talk (command joined) h = tt
  command_talk host h = absurd h
  command_talk (reply field rest) h = absurd h
  command_talk (asking asked) h = absurd h

  host_calls : (c : CardState) (w : Watched) (step : CardStep) → Loose Q R c w
      → (RestsUnknown c w → Leaves Q R T w step) → Leaves Q R T w (if_host c.waits step)
  host_calls c w step (loose_untold own u) h = not_host c.waits w step (own_is_talk c.saved c.waits own)
  host_calls c w step (loose_unknown talk u) h = not_host c.waits w step talk
  host_calls c w step (loose_anew now a) h = not_host c.waits w step (command_talk c.waits now)
  host_calls c w step (loose_asking asked is s) h =
      subst (λ (x : Waits). Leaves Q R T w (if_host x step)) (sym is) tt
  host_calls c w step (loose_rests is r) h =
      subst (λ (x : Waits). Leaves Q R T w (if_host x step)) (sym is) (h r)

  pub any_calls : (c : CardState) (w : Watched) (input : CardInput) → IsCall input → FitsAny Q R c w
      → Leaves Q R T w (card_turn c input)
  any_calls c w input h (inl fits) = known_calls c w input h fits
  any_calls c w (replies octets) h (inr loose) = host_calls c w _ loose (rests_replies c w octets)
  any_calls c w (more_time n) h (inr loose) = host_calls c w _ loose (rests_asks c w (time n))
  any_calls c w (ask_ifs n) h (inr loose) = host_calls c w _ loose
      (λ r. with_test (Leaves Q R T w) (is_reserved n) _ _ (λ k. tt) (λ k. rests_asks c w (size n) r))
  any_calls c w (takes came) h (inr loose) = absurd h

  -- ---- what stays known

  -- what it hears, or that its block may be refused, changes nothing
  pub any_hearing : (c : CardState) (w : Watched) (heard : Heard) (d : Doubt) → AwaitsBlock c.waits
      → (w.doubt ≡ Open → d ≡ Open) → FitsAny Q R c w → FitsAny Q R c (record w { heard = heard; doubt = d })
  any_hearing c w heard d awaits free (inl fits) = inl (fits_hearing c.waits c (plain_of w) heard awaits fits)
  any_hearing c w heard d awaits free (inr (loose_untold own u)) = inr (loose_untold own (record {
    base = u.base;
    is = u.is;
    room = u.room;
    first = u.first;
    free = free u.free;
    lags = u.lags;
  }))
  any_hearing c w heard d awaits free (inr (loose_unknown talk u)) = inr (loose_unknown talk
      (record { base = u.base; is = u.is; room = u.room; first = u.first; numbers = u.numbers }))
  any_hearing c w heard d awaits free (inr (loose_anew now a)) = inr (loose_anew now
      (record { base = a.base; is = a.is; first = a.first; free = free a.free; anew = a.anew }))
  any_hearing c w heard d awaits free (inr (loose_asking asked is s)) = inr (loose_asking asked is
      (record { base = s.base; is = s.is; room = s.room; first = s.first; kind = s.kind }))
  any_hearing c w heard d awaits free (inr (loose_rests is r)) =
      absurd (subst AwaitsBlock is awaits)

  -- a block that was sent to it was seen, and lost
  as_asking : (c : CardState) (asked : CardRequest) → c.waits ≡ asking asked → record c { waits = asking asked } ≡ c
  as_asking c asked is = ap (λ (x : Waits). record c { waits = x }) (sym is)

  pub any_silent : (c : CardState) (w : Watched) (pcb : Pcb) (octet : ℕ) → AwaitsBlock c.waits → Due Q R T c pcb
      → FitsAny Q R c w → StaleAny Q R T c (silent (plain_of (hears_it w (Perhaps pcb octet))))
  any_silent c w pcb octet awaits due (inl fits) =
      stale_known (keeps (passed_fits c (hears_it w (Perhaps pcb octet)) Nothing awaits
      (fits_hearing c.waits c (plain_of w) (Perhaps pcb octet) awaits fits)))
  any_silent c w pcb octet awaits due (inr (loose_untold own u)) =
      let f = record u.base { side = Card; known = true; asked = None; next = c.number; expects = c.expected } in
      let k = core_overlooked f (Perhaps pcb octet) refl in
      subst (λ (e : End). StaleAny Q R T c (silent (plain_of (record w { «end» = e; heard = Perhaps pcb octet }))))
      (sym u.is)
      (stale_known (is_untold own (sizes_overlooked c.ifsd first_ifsd f (Perhaps pcb octet)
      (record { side = refl; room = u.room; first = u.first })) k.0 k.1 k.3 k.4 u.lags))
  any_silent c w pcb octet awaits due (inr (loose_unknown talk u)) =
      unknown_stale Q R T c c w pcb octet talk refl refl due u
  any_silent c w pcb octet awaits due (inr (loose_anew now a)) =
      stale_known (owes_anew now a.anew (sizes_overlooked 0 first_ifsd w.«end» (Perhaps pcb octet)
      (subst (HasSizes 0 first_ifsd) (sym a.is) (record { side = refl; room = omega arith; first = a.first }))))
  any_silent c w pcb octet awaits due (inr (loose_asking asked is s)) =
      stale_known (subst (λ (x : CardState). Stale Q R T x (silent (plain_of (hears_it w (Perhaps pcb octet)))))
      (as_asking c asked is) (asking_stale c asked w s (Perhaps pcb octet)))
  any_silent c w pcb octet awaits due (inr (loose_rests is r)) = absurd (subst AwaitsBlock is awaits)

  -- and once more, after a silence
  pub stale_again : (c : CardState) (w : Watched) (pcb : Pcb) (octet : ℕ) → AwaitsBlock c.waits → IsAfterQuiet pcb
      → Due Q R T c pcb
      → StaleAny Q R T c (plain_of w) → StaleAny Q R T c (silent (plain_of (hears_it w (Perhaps pcb octet))))
  stale_again c w pcb octet awaits quiet_now due (stale_unknown talk sizes h numbers) =
      any_silent c w pcb octet awaits due (inr (loose_unknown talk (record {
        base = w.«end»;
        is = sided w.«end» sizes.side ∙ ap (λ b. record w.«end» { side = Card; known = b }) h;
        room = sizes.room;
        first = sizes.first;
        numbers = numbers;
      })))
  stale_again c w pcb octet awaits quiet_now due (stale_known (keeps fits)) =
      any_silent c w pcb octet awaits due (inl fits)
  stale_again c w pcb octet awaits quiet_now due (stale_known (is_untold own sizes h q n x lags)) =
      let k = core_overlooked w.«end» (Perhaps pcb octet) h in
      stale_known (is_untold own (sizes_overlooked c.ifsd first_ifsd w.«end» (Perhaps pcb octet) sizes)
      (k.0 ∙ h) (k.1 ∙ q) (k.3 ∙ n) (k.4 ∙ x) lags)
  stale_again c w pcb octet awaits quiet_now due (stale_known (owes_ready now t taken sizes behind)) =
      stale_known (owes_ready now t taken (sizes_overlooked c.ifsd first_ifsd w.«end» (Perhaps pcb octet) sizes)
      (behind_stays Q R T c w.«end» pcb octet behind))
  stale_again c w pcb octet awaits quiet_now due (stale_known (owes_info own sizes lags before)) =
      stale_known (owes_info own (sizes_overlooked c.ifsd first_ifsd w.«end» (Perhaps pcb octet) sizes) lags
      (info_stays Q R T c w.«end» pcb octet quiet_now before))
  stale_again c w pcb octet awaits quiet_now due (stale_known (owes_request asked is sizes before)) =
      stale_known (owes_request asked is (sizes_overlooked c.ifsd first_ifsd w.«end» (Perhaps pcb octet) sizes)
      (request_stays Q R T c w.«end» pcb octet quiet_now before))
  stale_again c w pcb octet awaits quiet_now due (stale_known (owes_anew now r sizes)) =
      stale_known (owes_anew now r (sizes_overlooked 0 first_ifsd w.«end» (Perhaps pcb octet) sizes))

  -- what it hears changes nothing
  pub stale_hearing : (c : CardState) (w : plain.Watched) (heard : Heard) → AwaitsBlock c.waits → StaleAny Q R T c w
      → StaleAny Q R T c (hearing w heard)
  stale_hearing c w heard awaits (stale_unknown talk sizes h numbers) = stale_unknown talk sizes h numbers
  stale_hearing c w heard awaits (stale_known (keeps fits)) =
      stale_known (keeps (fits_hearing c.waits c w heard awaits fits))
  stale_hearing c w heard awaits (stale_known (is_untold own sizes h q n x lags)) =
      stale_known (is_untold own sizes h q n x lags)
  stale_hearing c w heard awaits (stale_known (owes_ready now t taken sizes behind)) =
      stale_known (owes_ready now t taken sizes behind)
  stale_hearing c w heard awaits (stale_known (owes_info own sizes lags before)) =
      stale_known (owes_info own sizes lags before)
  stale_hearing c w heard awaits (stale_known (owes_request asked is sizes before)) =
      stale_known (owes_request asked is sizes before)
  stale_hearing c w heard awaits (stale_known (owes_anew now r sizes)) = stale_known (owes_anew now r sizes)

-- the terminal goes on
pub any_left : (Q Q1 : Number → Type 0) (R R1 : Type 0) (c : CardState) (w : Watched) → (Q c.number → Q1 c.number)
    → (R → R1) → FitsAny Q R c w → FitsAny Q1 R1 c w
any_left Q Q1 R R1 c w f g (inl fits) = inl fits
any_left Q Q1 R R1 c w f g (inr (loose_untold own u)) = inr (loose_untold own
    (record { base = u.base; is = u.is; room = u.room; first = u.first; free = u.free; lags = f u.lags }))
any_left Q Q1 R R1 c w f g (inr (loose_unknown talk u)) = inr (loose_unknown talk u)
any_left Q Q1 R R1 c w f g (inr (loose_anew now a)) = inr (loose_anew now
    (record { base = a.base; is = a.is; first = a.first; free = a.free; anew = g a.anew }))
any_left Q Q1 R R1 c w f g (inr (loose_asking asked is s)) = inr (loose_asking asked is s)
any_left Q Q1 R R1 c w f g (inr (loose_rests is r)) = inr (loose_rests is r)

taken_left : (Q Q1 : Number → Type 0) (c : CardState) → (Q1 c.number → Q c.number)
    → (c.saved ≡ None) ⊎ (Q c.number → ⊥) → (c.saved ≡ None) ⊎ (Q1 c.number → ⊥)
taken_left Q Q1 c f (inl none) = inl none
taken_left Q Q1 c f (inr never) = inr (λ q. never (f q))

pub stale_left : (Q Q1 : Number → Type 0) (R R1 T T1 : Type 0) (c : CardState) (w : plain.Watched)
    → (Q c.number → Q1 c.number) → (Q1 c.number → Q c.number) → (R → R1) → (T → T1)
    → StaleAny Q R T c w → StaleAny Q1 R1 T1 c w
stale_left Q Q1 R R1 T T1 c w f b g h (stale_unknown talk sizes k numbers) = stale_unknown talk sizes k numbers
stale_left Q Q1 R R1 T T1 c w f b g h (stale_known (keeps fits)) = stale_known (keeps fits)
stale_left Q Q1 R R1 T T1 c w f b g h (stale_known (is_untold own sizes k q n x lags)) =
    stale_known (is_untold own sizes k q n x (f lags))
stale_left Q Q1 R R1 T T1 c w f b g h (stale_known (owes_ready now t taken sizes behind)) =
    stale_known (owes_ready now (h t) (taken_left Q Q1 c b taken) sizes behind)
stale_left Q Q1 R R1 T T1 c w f b g h (stale_known (owes_info own sizes lags before)) =
    stale_known (owes_info own sizes (f lags) before)
stale_left Q Q1 R R1 T T1 c w f b g h (stale_known (owes_request asked is sizes before)) =
    stale_known (owes_request asked is sizes before)
stale_left Q Q1 R R1 T T1 c w f b g h (stale_known (owes_anew now r sizes)) =
    stale_known (owes_anew now (g r) sizes)
