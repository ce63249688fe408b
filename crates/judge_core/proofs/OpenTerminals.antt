-- The terminal of `t1_core`, where the monitor permits it any block.
use Rattle.std.proofs.Common.{inl, inr, true≢false, ◌≡◌, ◌⊎◌, ℕ, ◌+◌, ◌≤◌, List, [], ◌∷◌, length, refl, sym, ap, ◌∙◌, subst, arith}
use Rattle.std.specs.Prelude.{Bool, true, false, ◌==◌, if◌then◌else◌, nat_le, nat_lt, Some, None, Ok, Err}
use Rattle.block_core.specs.Block.{Parts, other}
use Rattle.block_core.specs.declared.pcb.Number.{Number}
use Rattle.block_core.specs.declared.pcb.Fault.{Fault}
use Rattle.block_core.specs.declared.pcb.Fault.TheVariants.{Free, Redundancy, Other}
use Rattle.block_core.specs.declared.pcb.S.TheVariants.{Resynch, Ifs, Abort, Wtx}
use Rattle.block_core.specs.declared.pcb.Pcb.{Pcb}
use Rattle.block_core.specs.declared.pcb.Pcb.TheVariants.{Info, Ready, Request, Response}
use Rattle.block_core.specs.declared.side.Side.TheVariants.{Terminal}
use Rattle.t1_core.specs.Came.{Came, got, damaged, invalid, quiet, same, carried, info, ready, request}
use Rattle.t1_core.specs.Terminal.{TerminalState, Waits, idle, ack, answer, more, ifs, resynch, dead, most_repeats, most_resynchs, takes, fails, in_ack, in_answer, in_resynch, terminal_came, terminal_turn}
use Rattle.judge_core.specs.declared.end.Pending.{Pending}
use Rattle.judge_core.specs.declared.end.Pending.TheVariants.{Settled, Chain, Last}
use Rattle.judge_core.specs.declared.end.Asked.{Asked}
use Rattle.judge_core.specs.declared.end.Asked.TheVariants.{Size}
use Rattle.judge_core.specs.declared.end.Owed.{Owed}
use Rattle.judge_core.specs.declared.end.Owed.TheVariants.{NewMessage, NextBlock, Acknowledgment, SameBlock, Correction, Refusal, SameRequest, Answer, EitherBlock, MessageOrCorrection, MessageOrRefusal, AcknowledgmentOrRefusal, AnyBlock}
use Rattle.judge_core.specs.declared.end.End.{End}
use Rattle.judge_core.specs.declared.end.After.{After}
use Rattle.judge_core.specs.declared.courses.Heard.{Heard}
use Rattle.judge_core.specs.declared.courses.Heard.TheVariants.{Beginning, Whole, Perhaps, Broken, Nothing}
use Rattle.judge_core.specs.declared.doubt.Doubt.{Doubt}
use Rattle.judge_core.specs.declared.doubt.Doubt.TheVariants.{Clear, Open}
use Rattle.judge_core.specs.declared.monitor.Watched.{Watched}
use Rattle.judge_core.specs.Courses.{Permits}
use Rattle.judge_core.specs.Doubts.{judged_of, overlooked, sent_openly}
use Rattle.judge_core.specs.Ends.{after, hears, hears_ready, no_row, repeatable, widest}
use Rattle.judge_core.specs.Missed.{IsWithin}
use Rattle.judge_core.specs.Monitored.{after_silence}
use Rattle.judge_core.specs.declared.rule.Rule.TheVariants.{CorrectionDue, RequestDue, TooManyRepeats, SequenceNumber, ErrorCode, FieldSize, EarlyResynch}
use Rattle.judge_core.specs.Sends.{Sent, acknowledged, sends_info, asking, informed, is_waiting, sends}
use Rattle.judge_core.specs.Watched as plain
use Rattle.judge_core.proofs.Openly.{open_cases, overlooked_again}
use Rattle.judge_core.proofs.Passes.{Course, NoAbort, certain, is_else, is_then, same_self, watched, with_test}
use Rattle.judge_core.proofs.SeenTerminals.{IsTalk, plain_of}
use Rattle.judge_core.proofs.Terminals.{core_overlooked, Fits, HasSizes, InTalk, IsOwn, waits_of, last_of, IsBusy, IsExact, Kind, Stale, StaleSize, StaleTalk, at, beginning, chain, ends, further, is_asking, is_behind, is_unknown, is_untold, keeps, silent, size_anew, size_before, size_unknown, size_untold, sizes_first, sizes_overlooked, takes_well}
use Rattle.judge_core.proofs.MissedTerminals.{left, any_course, any_first, any_ready, unknown_stale, FitsAny, IsTapped, IsUnknown, IsUntold, Leaves, Numbers, Tells, any_info_end, any_resynch, goes_on_of, hears_it, info_fits, kept_after, leaves_known, own_talk, same_is, stays_unknown, talk_busy, tap_heard, tells, unknown_fits, unknown_sizes}
use Rattle.judge_core.specs.declared.rule.Rule.{Rule}
use Rattle.judge_core.specs.declared.end.Row.{Row}
use Rattle.judge_core.specs.Ends.{missed, missed_asking, due_after, is_chain}
use Rattle.std.specs.Prelude.{Option}
use Rattle.judge_core.specs.Sends.{is_foreign}
use Rattle.judge_core.specs.Sends.{after_answer, is_asked, one_more}

-- ---- what a permitted block makes of an end

abbrev pub is_sent : Sent → Bool
is_sent (Ok e) = true
is_sent (Err r) = false

pub refused : {T : Type 0} (r : Rule) (e : End) → ◌≡◌ {A = Sent} (Err r) (Ok e) → T
refused r e h = absurd (true≢false (sym (ap is_sent h)))

abbrev pub sent_end : End → Sent → End
sent_end e (Ok f) = f
sent_end e (Err r) = e

pub is_end : (e f : End) → ◌≡◌ {A = Sent} (Ok e) (Ok f) → f ≡ e
is_end e f h = sym (ap (sent_end e) h)

-- an end that waits for no response
abbrev pub free_end : End → End
free_end e = record e { side = Terminal; known = true; asked = None }

-- an R-block: only what the end expects is known
abbrev ReadySent : End → Number → End → Type 0
ReadySent f x e = (known : Bool) × (tries : ℕ) × (row : Row)
    × (e ≡ record f { side = Terminal; known = known; asked = None; expects = x; tries = tries; row = row })

sends_ready_out : (f : End) (x : Number) (e : End)
    → (if same x f.expects
    then (if nat_lt f.row.corrections most_repeats
    then Ok (record (free_end f) {
      tries = one_more f.tries;
      row = record f.row { corrections = one_more f.row.corrections };
    })
    else Err TooManyRepeats)
    else Err SequenceNumber) ≡ Ok e
    → ReadySent f x e
sends_ready_out f x e = with_test (λ (s : Sent). s ≡ Ok e → ReadySent f x e) (same x f.expects) _ _
    (λ h. with_test (λ (s : Sent). s ≡ Ok e → ReadySent f x e) (nat_lt f.row.corrections most_repeats) _ _
    (λ k is. (
      true,
      one_more f.tries,
      record f.row { corrections = one_more f.row.corrections },
      is_end _ e is
          ∙ ap (λ (n : Number). record (free_end f) {
            expects = n;
            tries = one_more f.tries;
            row = record f.row { corrections = one_more f.row.corrections };
          }) (sym (same_is x f.expects h)),
    ))
    (λ k is. refused TooManyRepeats e is))
    (λ h is. refused SequenceNumber e is)

acknowledged_out : (f : End) (x : Number) (fault : Fault) (e : End)
    → acknowledged (free_end f) x fault ≡ Ok e → ReadySent f x e
acknowledged_out f x Free e = with_test (λ (s : Sent). s ≡ Ok e → ReadySent f x e) (same x f.expects) _ _
    (λ h is. (
      true,
      0,
      no_row,
      is_end _ e is
          ∙ ap (λ (n : Number). record (free_end f) { expects = n; tries = 0; row = no_row })
          (sym (same_is x f.expects h)),
    ))
    (λ h is. refused SequenceNumber e is)
acknowledged_out f x Redundancy e = λ is. refused ErrorCode e is
acknowledged_out f x Other e = λ is. refused ErrorCode e is

-- what it owes when it waits for no response
abbrev pub IsPlainOwed : Owed → Type 0
IsPlainOwed NewMessage = Unit {0}
IsPlainOwed NextBlock = Unit {0}
IsPlainOwed Acknowledgment = Unit {0}
IsPlainOwed SameBlock = Unit {0}
IsPlainOwed Correction = Unit {0}
IsPlainOwed Refusal = Unit {0}
IsPlainOwed SameRequest = ⊥
IsPlainOwed (Answer s n) = Unit {0}
IsPlainOwed EitherBlock = ⊥
IsPlainOwed MessageOrCorrection = Unit {0}
IsPlainOwed MessageOrRefusal = ⊥
IsPlainOwed AcknowledgmentOrRefusal = ⊥
IsPlainOwed AnyBlock = ⊥

ready_out : (f : End) (owed : Owed) (last : List ℕ) (x : Number) (fault : Fault) (e : End) → IsPlainOwed owed
    → sends (free_end f) owed last (Ready x fault) [] ≡ Ok e → ReadySent f x e
ready_out f NewMessage last x fault e h is = refused _ e is
ready_out f NextBlock last x fault e h is = refused _ e is
ready_out f Acknowledgment last x fault e h is = acknowledged_out f x fault e is
ready_out f SameBlock last x fault e h is = refused _ e is
ready_out f Correction last x fault e h is = sends_ready_out f x e is
ready_out f Refusal last x Free e h is = refused _ e is
ready_out f Refusal last x Redundancy e h is = refused _ e is
ready_out f Refusal last x Other e h is = sends_ready_out f x e is
ready_out f SameRequest last x fault e h is = absurd h
ready_out f (Answer s n) last x fault e h is = refused _ e is
ready_out f EitherBlock last x fault e h is = absurd h
ready_out f MessageOrCorrection last x fault e h is = sends_ready_out f x e is
ready_out f MessageOrRefusal last x fault e h is = absurd h
ready_out f AcknowledgmentOrRefusal last x fault e h is = absurd h
ready_out f AnyBlock last x fault e h is = absurd h

-- an I-block with the next number: the end is known as before
abbrev InfoSent : End → Number → Bool → End → Type 0
InfoSent f number goes_on e = e ≡ informed (free_end f) number goes_on

sends_info_out : (f : End) (number : Number) (goes_on : Bool) (inf : List ℕ) (e : End)
    → sends_info (free_end f) number goes_on inf ≡ Ok e → InfoSent f number goes_on e
sends_info_out f number goes_on inf e = with_test (λ (s : Sent). s ≡ Ok e → InfoSent f number goes_on e)
    (same number f.next) _ _
    (λ h. with_test (λ (s : Sent). s ≡ Ok e → InfoSent f number goes_on e) (nat_le (length inf) f.room) _ _
    (λ k is. is_end _ e is) (λ k is. refused FieldSize e is))
    (λ h is. refused SequenceNumber e is)

repeated_out : (f : End) (last : List ℕ) (number : Number) (goes_on : Bool) (inf : List ℕ) (e : End)
    → f.next ≡ number → sends (free_end f) SameBlock last (Info number goes_on) inf ≡ Ok e
    → InfoSent f number goes_on e
repeated_out f last number goes_on inf e next is =
    refused SequenceNumber e (sym (is_then (same number f.next) _ _ (subst (λ n. same number n ≡ true) (sym next)
    (same_self number))) ∙ is)

info_out : (f : End) (owed : Owed) (last : List ℕ) (number : Number) (goes_on : Bool) (inf : List ℕ) (e : End)
    → IsPlainOwed owed → f.next ≡ number → sends (free_end f) owed last (Info number goes_on) inf ≡ Ok e
    → InfoSent f number goes_on e
info_out f NewMessage last number goes_on inf e h next is = sends_info_out f number goes_on inf e is
info_out f NextBlock last number goes_on inf e h next is = sends_info_out f number goes_on inf e is
info_out f Acknowledgment last number goes_on inf e h next is = refused _ e is
info_out f SameBlock last number goes_on inf e h next is = repeated_out f last number goes_on inf e next is
info_out f Correction last number goes_on inf e h next is = refused _ e is
info_out f Refusal last number goes_on inf e h next is = refused _ e is
info_out f SameRequest last number goes_on inf e h next is = absurd h
info_out f (Answer s n) last number goes_on inf e h next is = refused _ e is
info_out f EitherBlock last number goes_on inf e h next is = absurd h
info_out f MessageOrCorrection last number goes_on inf e h next is = sends_info_out f number goes_on inf e is
info_out f MessageOrRefusal last number goes_on inf e h next is = absurd h
info_out f AcknowledgmentOrRefusal last number goes_on inf e h next is = absurd h
info_out f AnyBlock last number goes_on inf e h next is = absurd h

-- RESYNCH: everything begins again
abbrev pub ResynchSent : End → End → Type 0
ResynchSent f e = (tries : ℕ) × (e ≡ beginning ⊥ (widest f) f.first_room (widest f) tries)

again_out : (f : End) (asked : Bool) (e : End) (r : Rule)
    → (if asked
    then (if nat_lt f.tries most_resynchs
    then Ok (record (asking (record f { side = Terminal }) f.before Resynch 0) { tries = f.tries + 1 })
    else Err TooManyRepeats)
    else (if is_waiting f.asked then Ok (asking (record f { side = Terminal }) NewMessage Resynch 0)
    else (if nat_le most_repeats f.tries then Ok (asking (record f { side = Terminal }) NewMessage Resynch 0)
    else Err r))) ≡ Ok e
    → ResynchSent f e
again_out f asked e r = with_test (λ (s : Sent). s ≡ Ok e → ResynchSent f e) asked _ _
    (λ h. with_test (λ (s : Sent). s ≡ Ok e → ResynchSent f e) (nat_lt f.tries most_resynchs) _ _
    (λ k is. (f.tries + 1, is_end _ e is)) (λ k is. refused TooManyRepeats e is))
    (λ h. with_test (λ (s : Sent). s ≡ Ok e → ResynchSent f e) (is_waiting f.asked) _ _
    (λ k is. (1, is_end _ e is))
    (λ k. with_test (λ (s : Sent). s ≡ Ok e → ResynchSent f e) (nat_le most_repeats f.tries) _ _
    (λ q is. (1, is_end _ e is)) (λ q is. refused r e is)))

pub resynch_out : (f : End) (owed : Owed) (last : List ℕ) (e : End)
    → sends (record f { side = Terminal }) owed last (Request Resynch) [] ≡ Ok e → ResynchSent f e
resynch_out f NewMessage last e is = (1, is_end _ e is)
resynch_out f NextBlock last e is = refused _ e is
resynch_out f Acknowledgment last e is = refused _ e is
resynch_out f SameBlock last e is = (1, is_end _ e is)
resynch_out f Correction last e is = (1, is_end _ e is)
resynch_out f Refusal last e is = again_out f (is_asked f.asked Resynch 0) e EarlyResynch is
resynch_out f SameRequest last e is = again_out f (is_asked f.asked Resynch 0) e EarlyResynch is
resynch_out f (Answer s n) last e is = refused _ e is
resynch_out f EitherBlock last e is = (1, is_end _ e is)
resynch_out f MessageOrCorrection last e is = (1, is_end _ e is)
resynch_out f MessageOrRefusal last e is = (1, is_end _ e is)
resynch_out f AcknowledgmentOrRefusal last e is = refused _ e is
resynch_out f AnyBlock last e is = (1, is_end _ e is)

-- ---- what an end owes that waits for no response

abbrev pub some_due : After → Option After → After
some_due d None = d
some_due d (Some e) = e

abbrev pub is_due : Option After → Bool
is_due None = false
is_due (Some d) = true

pub no_due : {T : Type 0} (d : After) → ◌≡◌ {A = Option After} None (Some d) → T
no_due d h = absurd (true≢false (sym (ap is_due h)))

pub one_due : (d e : After) → ◌≡◌ {A = Option After} (Some d) (Some e) → d ≡ e
one_due d e h = ap (some_due d) h

-- its numbers may be others then
record FreeDue (f : End) (due : After) : Type 0 where
  owed : IsPlainOwed due.owed
  expects : Number
  pending : Pending
  aborted : Bool
  is : due.«end» ≡ record (free_end f) { expects = expects; pending = pending; aborted = aborted }

same_due : (f : End) (owed : Owed) → IsPlainOwed owed → FreeDue f (after (free_end f) owed)
same_due f owed h =
    record { owed = h; expects = f.expects; pending = f.pending; aborted = f.aborted; is = refl }

info_due : (f : End) (goes_on : Bool)
    → FreeDue f (after (record (free_end f) { expects = other f.expects; pending = Settled; aborted = false })
    (due_after goes_on))
info_due f true =
    record { owed = tt; expects = other f.expects; pending = Settled; aborted = false; is = refl }
info_due f false =
    record { owed = tt; expects = other f.expects; pending = Settled; aborted = false; is = refl }

settled_due : (f : End) (b aborted : Bool) → f.aborted ≡ aborted
    → FreeDue f (if aborted then after (free_end f) MessageOrCorrection else after (free_end f) Correction)
settled_due f b true h = same_due f MessageOrCorrection tt
settled_due f b false h = same_due f Correction tt

ready_due : (f : End) (pending : Pending) (b : Bool) → FreeDue f (hears_ready (free_end f) pending b)
ready_due f Chain true =
    record { owed = tt; expects = f.expects; pending = Settled; aborted = f.aborted; is = refl }
ready_due f Chain false = same_due f SameBlock tt
ready_due f Last true = same_due f Correction tt
ready_due f Last false = same_due f SameBlock tt
ready_due f Settled true = settled_due f true f.aborted refl
ready_due f Settled false = same_due f Correction tt

free_hears : (f : End) (pcb : Pcb) (octet : ℕ) → FreeDue f (hears (free_end f) pcb octet)
free_hears f (Info number goes_on) octet = with_test (FreeDue f) (is_chain f.pending) _ _
    (λ h. same_due f Correction tt)
    (λ h. with_test (FreeDue f) (same number f.expects) _ _ (λ k. info_due f goes_on) (λ k. same_due f Correction tt))
free_hears f (Ready number fault) octet = ready_due f f.pending (same number f.next)
free_hears f (Request Resynch) octet = same_due f Correction tt
free_hears f (Request Ifs) octet = same_due f (Answer Ifs octet) tt
free_hears f (Request Abort) octet = same_due f (Answer Abort 0) tt
free_hears f (Request Wtx) octet = same_due f (Answer Wtx octet) tt
free_hears f (Response s) octet = same_due f Correction tt

due_free : (f : End) (heard : Heard) (due : After) → IsTapped heard → Course (free_end f) heard due → FreeDue f due
due_free f Beginning due h course = absurd h
due_free f (Whole pcb octet) due h course = absurd h
due_free f (Perhaps pcb octet) due h (inl is) = subst (FreeDue f) (one_due _ due is) (free_hears f pcb octet)
due_free f (Perhaps pcb octet) due h (inr is) = subst (FreeDue f) (one_due _ due is) (same_due f Correction tt)
due_free f Broken due h (inl is) = no_due due is
due_free f Broken due h (inr is) = subst (FreeDue f) (one_due _ due is) (same_due f Correction tt)
due_free f Nothing due h course = absurd h

-- after an R-block it expects what it did
record ReadyDue (f : End) (due : After) : Type 0 where
  owed : IsPlainOwed due.owed
  pending : Pending
  is : due.«end» ≡ record (free_end f) { pending = pending }

same_ready : (f : End) (owed : Owed) → IsPlainOwed owed → ReadyDue f (after (free_end f) owed)
same_ready f owed h = record { owed = h; pending = f.pending; is = refl }

settled_ready_due : (f : End) (aborted : Bool)
    → ReadyDue f (if aborted then after (free_end f) MessageOrCorrection else after (free_end f) Correction)
settled_ready_due f true = same_ready f MessageOrCorrection tt
settled_ready_due f false = same_ready f Correction tt

after_ready : (f : End) (pending : Pending) (b : Bool) → ReadyDue f (hears_ready (free_end f) pending b)
after_ready f Chain true = record { owed = tt; pending = Settled; is = refl }
after_ready f Chain false = same_ready f SameBlock tt
after_ready f Last true = same_ready f Correction tt
after_ready f Last false = same_ready f SameBlock tt
after_ready f Settled true = settled_ready_due f f.aborted
after_ready f Settled false = same_ready f Correction tt

due_ready : (f : End) (number : Number) (fault : Fault) (octet : ℕ) (due : After)
    → Course (free_end f) (Perhaps (Ready number fault) octet) due → ReadyDue f due
due_ready f number fault octet due (inl is) =
    subst (ReadyDue f) (one_due _ due is) (after_ready f f.pending (same number f.next))
due_ready f number fault octet due (inr is) = subst (ReadyDue f) (one_due _ due is) (same_ready f Correction tt)

-- ---- a block that may be any

pub is_within : (pcb : Pcb) (inf : List ℕ) (n m : ℕ) → n ≤ m → IsWithin n pcb inf → IsWithin m pcb inf
is_within (Info number goes_on) inf n m h within = omega (arith, h, within)
is_within (Ready number fault) inf n m h within = tt
is_within (Request s) inf n m h within = tt
is_within (Response s) inf n m h within = tt

-- an end that may send any block
abbrev pub open_end : Watched → End → Heard → Watched
open_end w e heard = record w { «end» = e; heard = heard; doubt = Open }

-- what an R-block leaves: the I-block under way is still unseen, or nothing is known
data TalkEnd (t : TerminalState) (e : End) : Type 0 where
  still_untold : (base : End) → t.ifsc ≤ base.room → t.first_ifsc ≤ base.first_room
      → e ≡ record base { side = Terminal; known = true; asked = None; next = t.number; expects = t.expected }
      → TalkEnd t e
  now_unknown : (base : End) → t.ifsc ≤ base.room → t.first_ifsc ≤ base.first_room → Numbers t.expected base
      → e ≡ record base { side = Terminal; known = false }
      → TalkEnd t e

abbrev pub IsOwnWaits : Waits → Type 0
IsOwnWaits idle = ⊥
IsOwnWaits (ack field rest) = Unit {0}
IsOwnWaits (answer field) = Unit {0}
IsOwnWaits (more joined) = ⊥
IsOwnWaits (ifs size) = ⊥
IsOwnWaits (resynch asked) = ⊥
IsOwnWaits dead = ⊥

own_is_talk : (waits : Waits) → IsOwnWaits waits → IsTalk waits
own_is_talk idle h = absurd h
own_is_talk (ack field rest) h = tt
own_is_talk (answer field) h = tt
own_is_talk (more joined) h = absurd h
own_is_talk (ifs size) h = absurd h
own_is_talk (resynch asked) h = absurd h
own_is_talk dead h = absurd h

abbrev pub untold_end : TerminalState → End → End
untold_end t e = record e { side = Terminal; known = true; asked = None; next = t.number; expects = t.expected }

known_or : (t : TerminalState) (f : End) (e : End) → t.ifsc ≤ f.room → t.first_ifsc ≤ f.first_room
    → f.next ≡ t.number → ReadySent f t.expected e → TalkEnd t e
known_or t f e room first next (true, tries, row, is) = still_untold (record f { tries = tries; row = row }) room first
    (is ∙ ap (λ (n : Number). record f {
      side = Terminal;
      known = true;
      asked = None;
      expects = t.expected;
      tries = tries;
      row = row;
      next = n;
    }) next)
known_or t f e room first next (false, tries, row, is) =
    now_unknown (record f { asked = None; expects = t.expected; tries = tries; row = row }) room first
    (inr (inr refl)) is

-- what an I-block leaves
data InfoEnd (t : TerminalState) (k : Kind) (e : End) : Type 0 where
  info_end : (base : End) (known : Bool) → t.ifsc ≤ base.room → t.first_ifsc ≤ base.first_room
      → (known ≡ true → base.expects ≡ t.expected)
      → record e { tries = most_repeats } ≡ any_info_end base t.number (goes_on_of k) known
      → InfoEnd t k e

-- RESYNCH of an end that may send any block
pub record BeginEnd (t : TerminalState) (e : End) : Type 0 where
  room : ℕ
  first : ℕ
  tries : ℕ
  room_ok : t.first_ifsc ≤ room
  first_ok : t.first_ifsc ≤ first
  is : e ≡ beginning ⊥ room first room tries

pub begin_end : (t : TerminalState) (f e : End) → t.first_ifsc ≤ f.first_room → ResynchSent f e → BeginEnd t e
begin_end t f e h (tries, is) = record {
  room = widest f;
  first = f.first_room;
  tries = tries;
  room_ok = omega (arith, h);
  first_ok = h;
  is = is;
}

-- ---- an end whose I-block under way was never seen

pub opened : (w : Watched) (e : End) (heard : Heard) → w.«end» ≡ e → w.doubt ≡ Open
    → hears_it w heard ≡ open_end w e heard
opened w e heard is free =
    ap (λ (x : End). record w { «end» = x; heard = heard }) is
    ∙ ap (λ (d : Doubt). record w { «end» = e; heard = heard; doubt = d }) free

pub untold_sizes : (t : TerminalState) (e : End) (heard : Heard) → t.ifsc ≤ e.room → t.first_ifsc ≤ e.first_room
    → HasSizes t.ifsc t.first_ifsc (overlooked (untold_end t e) heard)
untold_sizes t e heard room first = sizes_overlooked t.ifsc t.first_ifsc (untold_end t e) heard
    (record { side = refl; room = room; first = first })

own_waits : (k : Kind) → IsOwn ⊥ k → IsOwnWaits (waits_of k)
own_waits (chain field rest) h = tt
own_waits (ends field) h = tt
own_waits (further joined last) h = absurd h

-- A card that took nothing asks for that block again.
abbrev pub AsksAgain : Number → Came → Type 0
AsksAgain x (got (Info number goes_on) inf) = ⊥
AsksAgain x (got (Ready number fault) inf) = same number x ≡ true
AsksAgain x (got (Request s) inf) = ⊥
AsksAgain x (got (Response s) inf) = ⊥
AsksAgain x damaged = Unit {0}
AsksAgain x invalid = Unit {0}
AsksAgain x quiet = Unit {0}

-- ---- a silence after a block that the tap missed

-- what it owes after a silence
broken_due : (e : End) (due : After) → Course e Broken due → due ≡ after e (missed e)
broken_due e due (inl is) = no_due due is
broken_due e due (inr is) = sym (one_due _ due is)

-- nothing is known after its R-block
abbrev UnknownEnd : TerminalState → End → Type 0
UnknownEnd t e = (base : End) × (t.ifsc ≤ base.room) × (t.first_ifsc ≤ base.first_room) × Numbers t.expected base
    × (e ≡ record base { side = Terminal; known = false })

stale_talk_fits : (t : TerminalState) (k : Kind) (w : plain.Watched) → InTalk ⊥ t k w
    → Fits ⊥ (at ⊥ (waits_of k) t) (waits_of k) w
stale_talk_fits t (chain field rest) w h = h
stale_talk_fits t (ends field) w h = h
stale_talk_fits t (further joined last) w h = (last, h)

kind_quiet : (t : TerminalState) (k : Kind)
    → terminal_came (at ⊥ (waits_of k) t) (waits_of k) quiet ≡ fails (at ⊥ (waits_of k) t) (ready t.expected Free)
kind_quiet t (chain field rest) = refl
kind_quiet t (ends field) = refl
kind_quiet t (further joined last) = refl

-- the terminal sends an R-block, or asks for RESYNCH
pub sided : (e : End) → e.side ≡ Terminal → e ≡ record e { side = Terminal }
sided e h = ap (λ s. record e { side = s }) h

asked_owes : (e : End) → e.known ≡ true → is_waiting e.asked ≡ true → missed e ≡ SameRequest
asked_owes e known waiting_now = go e.asked waiting_now
  where
    go : (asked : Option Asked) → is_waiting asked ≡ true → missed (record e { asked = asked }) ≡ SameRequest
    go None h = absurd (true≢false (sym h))
    go (Some a) h = is_then e.known SameRequest AnyBlock known

free_owes : (e : End) → e.known ≡ true → e.asked ≡ None → missed e ≡ Correction
free_owes e known none =
    is_then e.known (missed_asking e.asked) AnyBlock known ∙ ap missed_asking none

-- ---- a question for a size

-- what the question leaves
pub data SizeEnd (t : TerminalState) (size : ℕ) (e : End) : Type 0 where
  size_end : (base : End) → t.ifsc ≤ base.room → t.first_ifsc ≤ base.first_room
      → (base.before ≡ AnyBlock) ⊎ IsExact t.number t.expected base
      → e ≡ record base { side = Terminal; known = true; asked = Some (Size size) }
      → SizeEnd t size e

-- the same question again
pub exact_again : (number expected : Number) (e : End) → (e.before ≡ AnyBlock) ⊎ IsExact number expected e
    → (after_answer e.before Terminal ≡ AnyBlock)
    ⊎ ((after_answer e.before Terminal ≡ NewMessage) × (e.next ≡ number) × (e.expects ≡ expected))
exact_again number expected e (inl any) = inl (ap (λ (o : Owed). after_answer o Terminal) any)
exact_again number expected e (inr (b, n, x)) = inr (ap (λ (o : Owed). after_answer o Terminal) b, n, x)

pub size_again_out : (t : TerminalState) (size n : ℕ) (f : End) (last : List ℕ) (e : End)
    → t.ifsc ≤ f.room → t.first_ifsc ≤ f.first_room → (f.before ≡ AnyBlock) ⊎ IsExact t.number t.expected f
    → sends (record f { side = Terminal; known = true; asked = Some (Size n) }) SameRequest last
    (Request Ifs) (size ∷ []) ≡ Ok e
    → SizeEnd t size e
size_again_out t size n f last e room first kind =
    with_test (λ (s : Sent). s ≡ Ok e → SizeEnd t size e) (size == n) _ _
    (λ h. with_test (λ (s : Sent). s ≡ Ok e → SizeEnd t size e) (nat_lt f.tries (most_repeats + 1)) _ _
    (λ k is. size_end
    (record f { before = after_answer f.before Terminal; tries = f.tries + 1; row = no_row }) room first
    (exact_again t.number t.expected f kind) (is_end _ e is))
    (λ k is. refused TooManyRepeats e is))
    (λ h is. refused RequestDue e is)

-- or the first one
pub size_openly : (t : TerminalState) (size : ℕ) (f e : End) → t.ifsc ≤ f.room → t.first_ifsc ≤ f.first_room
    → e ≡ record f {
      side = Terminal;
      known = true;
      asked = Some (Size size);
      before = AnyBlock;
      tries = 1;
      row = no_row;
    } → SizeEnd t size e
size_openly t size f e room first is =
    size_end (record f { before = AnyBlock; tries = 1; row = no_row }) room first (inl refl) is

size_sends : (t : TerminalState) (size : ℕ) (f : End) (last : List ℕ) (e : End) → t.ifsc ≤ f.room
    → t.first_ifsc ≤ f.first_room
    → StaleSize ⊥ t.number t.expected f
    → sends (record f { side = Terminal }) (missed (record f { side = Terminal })) last (Request Ifs) (size ∷ []) ≡ Ok e
    → SizeEnd t size e
size_sends t size f last e room first (size_unknown h) is =
    size_openly t size f e room first
    (is_end _ e (subst (λ (o : Owed). sends (record f { side = Terminal }) o last (Request Ifs) (size ∷ []) ≡ Ok e)
    (is_else f.known (missed_asking f.asked) AnyBlock h) is))
size_sends t size f last e room first (size_untold h q) is =
    refused CorrectionDue e (subst
    (λ (o : Owed). sends (record f { side = Terminal }) o last (Request Ifs) (size ∷ []) ≡ Ok e)
    (free_owes (record f { side = Terminal }) h q) is)
size_sends t size f last e room first (size_anew h q) is =
    refused RequestDue e (subst
    (λ (a : Option Asked). sends (record f { side = Terminal; asked = a }) SameRequest last (Request Ifs) (size ∷ []) ≡
    Ok e)
    q (subst (λ (o : Owed). sends (record f { side = Terminal }) o last (Request Ifs) (size ∷ []) ≡ Ok e)
    (asked_owes (record f { side = Terminal }) h (ap is_waiting q)) is))
size_sends t size f last e room first (size_before n h q kind) is =
    size_again_out t size n f last e room first kind
    (subst
    (λ (b : Bool). sends (record f { side = Terminal; known = b; asked = Some (Size n) }) SameRequest last (Request Ifs)
    (size ∷ []) ≡ Ok e) h
    (subst (λ (a : Option Asked). sends (record f { side = Terminal; asked = a }) SameRequest last (Request Ifs)
    (size ∷ []) ≡ Ok e) q
    (subst (λ (o : Owed). sends (record f { side = Terminal }) o last (Request Ifs) (size ∷ []) ≡ Ok e)
    (asked_owes (record f { side = Terminal }) h (ap is_waiting q)) is)))

stale_size_as : (t : TerminalState) (e f : End) → f ≡ e → StaleSize ⊥ t.number t.expected e
    → StaleSize ⊥ t.number t.expected f
stale_size_as t e f is stale = subst (StaleSize ⊥ t.number t.expected) (sym is) stale

-- where Q holds of a number, the card didn't take the I-block with it
module _ (Q : Number → Type 0) where
  pub open_tells : (t : TerminalState) (w : Watched) (b : Parts) (G : End → Type 0) → w.doubt ≡ Open
      → is_foreign w.«end».side b.pcb ≡ false → (IsWithin t.ifsc b.pcb b.inf → IsWithin w.«end».room b.pcb b.inf)
      → ((e : End) → Permits w.«end» w.heard w.last.items b.pcb b.inf e → G e)
      → ((e : End) → sent_openly w b ≡ Ok e → G e)
      → ((n : ℕ) (e : End) → G e → FitsAny (left Q b.pcb) t t.waits (kept_after w b n e))
      → Tells Q t w b
  open_tells t w b G free own room permits openly fits talks within n =
      let (passed, way) = open_cases w b free own (room within) in
      tells Q t w b n (judged_of w b).«end» passed refl (fits n (judged_of w b).«end» (go way))
    where
      go : Permits w.«end» w.heard w.last.items b.pcb b.inf (judged_of w b).«end»
          ⊎ (sent_openly w b ≡ Ok (judged_of w b).«end») → G (judged_of w b).«end»
      go (inl p) = permits (judged_of w b).«end» p
      go (inr s) = openly (judged_of w b).«end» s

  untold_fits : (t : TerminalState) (waits : Waits) (w : Watched) → IsOwnWaits waits → IsUntold Q t w
      → FitsAny Q t waits w
  untold_fits t idle w h u = absurd h
  untold_fits t (ack field rest) w h u = inr (inl u)
  untold_fits t (answer field) w h u = inr (inl u)
  untold_fits t (more joined) w h u = absurd h
  untold_fits t (ifs size) w h u = absurd h
  untold_fits t (resynch asked) w h u = absurd h
  untold_fits t dead w h u = absurd h

  talk_end_fits : (t : TerminalState) (w : Watched) (f : End) (heard : Heard) (fault : Fault) (n : ℕ) (e : End)
      → IsOwnWaits t.waits → Q t.number → TalkEnd t e
      → FitsAny Q t t.waits (kept_after (open_end w f heard) (ready t.expected fault) n e)
  talk_end_fits t w f heard fault n e own lags (still_untold base room first is) =
      untold_fits t t.waits _ own (record
      { base = base; is = is; room = room; first = first; free = refl; lags = lags })
  talk_end_fits t w f heard fault n e own lags (now_unknown base room first numbers is) =
      unknown_fits Q t t.waits _ (own_is_talk t.waits own)
      (record { base = base; is = is; room = room; first = first; numbers = numbers })

  untold_ready : (t : TerminalState) (w : Watched) (e : End) (heard : Heard) (fault : Fault) → IsTapped heard
      → IsOwnWaits t.waits → Q t.number → t.ifsc ≤ e.room → t.first_ifsc ≤ e.first_room
      → Tells Q t (open_end w (untold_end t e) heard) (ready t.expected fault)
  untold_ready t w e heard fault tapped own lags room first =
      let w1 = open_end w (untold_end t e) heard in
      let b = ready t.expected fault in
      let f = record e { next = t.number; expects = t.expected } in
      open_tells t w1 b (TalkEnd t) refl refl (λ within. within)
      (λ e1 p. let d = due_free f heard p.due tapped p.course in
      known_or t (record f { expects = d.expects; pending = d.pending; aborted = d.aborted }) e1 room first refl
      (ready_out (record f { expects = d.expects; pending = d.pending; aborted = d.aborted }) p.due.owed w.last.items
      t.expected fault e1 d.owed
      (subst (λ (x : End). sends x p.due.owed w.last.items (Ready t.expected fault) [] ≡ Ok e1) d.is p.sent)))
      (λ e1 is. now_unknown (record f { before = AnyBlock; asked = None }) room first (inl refl) (is_end _ e1 is))
      (λ n e1 end_now. talk_end_fits t w (untold_end t e) heard fault n e1 own lags end_now)

  info_end_fits : (t : TerminalState) (k : Kind) (w : Watched) (f : End) (heard : Heard) (n : ℕ) (e : End) → IsOwn ⊥ k
      → InfoEnd t k e
      → FitsAny (λ n. ⊥) (at ⊥ (waits_of k) t) (waits_of k)
      (kept_after (open_end w f heard) (info t.number (goes_on_of k) (last_of k)) n e)
  info_end_fits t k w f heard n e own (info_end base known room first numbers is) =
      let b = info t.number (goes_on_of k) (last_of k) in
      subst (λ (x : End). FitsAny (λ n. ⊥) (at ⊥ (waits_of k) t) (waits_of k) (record (open_end w f heard) {
        «end» = x;
        heard = after_silence f.side;
        last = record { items = last_of k };
        number = n;
        doubt = Clear;
      })) (sym is) (info_fits Q t k (open_end w f heard) n base known own room first numbers)

  untold_info : (t : TerminalState) (k : Kind) (w : Watched) (e : End) (number : Number) (fault : Fault) (octet : ℕ)
      → IsOwn ⊥ k → t.ifsc ≤ e.room → t.first_ifsc ≤ e.first_room
      → Tells Q (at ⊥ (waits_of k) t) (open_end w (untold_end t e) (Perhaps (Ready number fault) octet))
      (info t.number (goes_on_of k) (last_of k))
  untold_info t k w e number fault octet own room first =
      let heard = Perhaps (Ready number fault) octet in
      let b = info t.number (goes_on_of k) (last_of k) in
      let f = record e { next = t.number; expects = t.expected } in
      open_tells (at ⊥ (waits_of k) t) (open_end w (untold_end t e) heard) b (InfoEnd t k) refl refl
      (λ within. is_within (Info t.number (goes_on_of k)) (last_of k) t.ifsc e.room room within)
      (λ e1 p. let d = due_ready f number fault octet p.due p.course in
      info_end (record f { pending = d.pending }) true room first (λ k. refl)
      (ap (λ (x : End). record x { tries = most_repeats })
      (info_out (record f { pending = d.pending }) p.due.owed w.last.items t.number (goes_on_of k) (last_of k) e1 d.owed
      refl
      (subst (λ (x : End). sends x p.due.owed w.last.items (Info t.number (goes_on_of k)) (last_of k) ≡ Ok e1) d.is
      p.sent))))
      (λ e1. with_test (λ (s : Sent). s ≡ Ok e1 → InfoEnd t k e1)
      (nat_le (length (last_of k)) (repeatable e)) _ _
      (λ h is. info_end (record f { before = NewMessage }) false room first (λ no. absurd (true≢false (sym no)))
      (ap (λ (x : End). record x { tries = most_repeats }) (is_end _ e1 is)))
      (λ h is. refused FieldSize e1 is))
      (λ n e1 end_now. info_end_fits t k w (untold_end t e) heard n e1 own end_now)

  pub begin_end_fits : (t : TerminalState) (asked : ℕ) (w : Watched) (f : End) (heard : Heard) (n : ℕ) (e : End)
      → BeginEnd t e
      → FitsAny (λ n. ⊥) (record t { waits = resynch asked }) (resynch asked)
      (kept_after (open_end w f heard) (request Resynch []) n e)
  begin_end_fits t asked w f heard n e b = inr (record {
    base = beginning ⊥ b.room b.first b.room b.tries;
    is = b.is;
    room = b.room_ok;
    first = b.first_ok;
    free = refl;
  })

  -- whatever course permits it
  pub open_resynch : (t : TerminalState) (asked : ℕ) (w : Watched) (e : End) (heard : Heard)
      → t.first_ifsc ≤ e.first_room
      → ((due : After) → Course (record e { side = Terminal }) heard due
      → (f : End) × (due.«end» ≡ record f { side = Terminal }) × (t.first_ifsc ≤ f.first_room))
      → Tells Q (record t { waits = resynch asked }) (open_end w (record e { side = Terminal }) heard)
      (request Resynch [])
  open_resynch t asked w e heard first dues =
      open_tells (record t { waits = resynch asked }) (open_end w (record e { side = Terminal }) heard)
      (request Resynch [])
      (BeginEnd t) refl refl (λ within. tt)
      (λ e1 p. let (f, is, ok) = dues p.due p.course in
      begin_end t f e1 ok (resynch_out f p.due.owed w.last.items e1
      (subst (λ (x : End). sends x p.due.owed w.last.items (Request Resynch) [] ≡ Ok e1) is p.sent)))
      (λ e1 is. begin_end t e e1 first (1, is_end _ e1 is))
      (λ n e1 end_now. begin_end_fits t asked w (record e { side = Terminal }) heard n e1 end_now)

  pub untold_stale : (t : TerminalState) (waits : Waits) (w : Watched) (e : End) (heard : Heard) → IsOwnWaits waits
      → Q t.number
      → t.ifsc ≤ e.room → t.first_ifsc ≤ e.first_room
      → Stale ⊥ Q t waits (silent ⊥ (plain_of (open_end w (untold_end t e) heard)))
  untold_stale t idle w e heard h lags room first = absurd h
  untold_stale t (ack field rest) w e heard h lags room first =
      let c = core_overlooked (untold_end t e) heard refl in
      (untold_sizes t e heard room first, is_untold tt c.0 c.1 c.3 c.4 lags)
  untold_stale t (answer field) w e heard h lags room first =
      let c = core_overlooked (untold_end t e) heard refl in
      (untold_sizes t e heard room first, is_untold tt c.0 c.1 c.3 c.4 lags)
  untold_stale t (more joined) w e heard h lags room first = absurd h
  untold_stale t (ifs size) w e heard h lags room first = absurd h
  untold_stale t (resynch asked) w e heard h lags room first = absurd h
  untold_stale t dead w e heard h lags room first = absurd h

  untold_fails : (t : TerminalState) (w : Watched) (e : End) (heard : Heard) (b : Parts) → IsTapped heard
      → IsOwnWaits t.waits → Q t.number → t.ifsc ≤ e.room → t.first_ifsc ≤ e.first_room → NoAbort b.pcb
      → Tells Q (record t { failures = t.failures + 1 }) (open_end w (untold_end t e) heard) b
      → Leaves Q (open_end w (untold_end t e) heard) (fails t b)
  untold_fails t w e heard b tapped own lags room first no_abort told =
      let f = record e { next = t.number; expects = t.expected } in
      with_test (Leaves Q (open_end w (untold_end t e) heard)) (nat_lt t.failures most_repeats) _ _
      (λ h. (
        told,
        no_abort,
        talk_busy t.waits (own_is_talk t.waits own),
        λ later. untold_stale (record t { failures = t.failures + 1 }) t.waits w e heard own lags room first,
      ))
      (λ h. (
        open_resynch t 1 w (untold_end t e) heard first
            (λ due course. let d = due_free f heard due tapped course in
            (record (free_end f) { expects = d.expects; pending = d.pending; aborted = d.aborted }, d.is, first)),
        tt,
        tt,
        λ later. sizes_first ⊥ _ _ _ (untold_sizes t e heard room first),
      ))

  untold_errs : (t : TerminalState) (w : Watched) (e : End) (heard : Heard) (fault : Fault) → IsTapped heard
      → IsOwnWaits t.waits → Q t.number → t.ifsc ≤ e.room → t.first_ifsc ≤ e.first_room
      → Leaves Q (open_end w (untold_end t e) heard) (fails t (ready t.expected fault))
  untold_errs t w e heard fault tapped own lags room first =
      untold_fails t w e heard (ready t.expected fault) tapped own lags room first tt
      (untold_ready (record t { failures = t.failures + 1 }) w e heard fault tapped own lags room first)

  untold_repeats : (t : TerminalState) (k : Kind) (w : Watched) (e : End) (number : Number) (fault : Fault) (octet : ℕ)
      → IsOwn ⊥ k → Q t.number → t.ifsc ≤ e.room → t.first_ifsc ≤ e.first_room
      → Leaves Q (open_end w (untold_end t e) (Perhaps (Ready number fault) octet))
      (fails (at ⊥ (waits_of k) t) (info t.number (goes_on_of k) (last_of k)))
  untold_repeats t k w e number fault octet own lags room first =
      untold_fails (at ⊥ (waits_of k) t) w e (Perhaps (Ready number fault) octet)
      (info t.number (goes_on_of k) (last_of k)) tt (own_waits k own) lags room first tt
      (untold_info (record t { failures = t.failures + 1 }) k w e number fault octet own room first)

  pub untold_ack : (t : TerminalState) (field rest : List ℕ) (w : Watched) (e : End) (sent : Pcb) (octet : ℕ)
      (came : Came)
      → AsksAgain t.number came → Q t.number → t.ifsc ≤ e.room → t.first_ifsc ≤ e.first_room
      → Leaves Q (open_end w (untold_end t e) (tap_heard sent octet came))
      (in_ack (at ⊥ (ack field rest) t) field rest came)
  untold_ack t field rest w e sent octet (got (Info number goes_on) inf) h lags room first = absurd h
  untold_ack t field rest w e sent octet (got (Ready number fault) inf) h lags room first =
      with_test (Leaves Q (open_end w (untold_end t e) (Perhaps (Ready number fault) (carried inf))))
      (same number t.number)
      _ _
      (λ k. untold_repeats t (chain field rest) w e number fault (carried inf) tt lags room first)
      (λ k. absurd (true≢false (sym h ∙ k)))
  untold_ack t field rest w e sent octet (got (Request s) inf) h lags room first = absurd h
  untold_ack t field rest w e sent octet (got (Response s) inf) h lags room first = absurd h
  untold_ack t field rest w e sent octet damaged h lags room first =
      untold_errs (at ⊥ (ack field rest) t) w e (Perhaps sent octet) Redundancy tt tt lags room first
  untold_ack t field rest w e sent octet invalid h lags room first =
      untold_errs (at ⊥ (ack field rest) t) w e (Perhaps sent octet) Other tt tt lags room first
  untold_ack t field rest w e sent octet quiet h lags room first =
      untold_errs (at ⊥ (ack field rest) t) w e Broken Free tt tt lags room first

  pub untold_answer : (t : TerminalState) (field : List ℕ) (w : Watched) (e : End) (sent : Pcb) (octet : ℕ)
      (came : Came)
      → AsksAgain t.number came → Q t.number → t.ifsc ≤ e.room → t.first_ifsc ≤ e.first_room
      → Leaves Q (open_end w (untold_end t e) (tap_heard sent octet came))
      (in_answer (at ⊥ (answer field) t) field came)
  untold_answer t field w e sent octet (got (Info number goes_on) inf) h lags room first = absurd h
  untold_answer t field w e sent octet (got (Ready number fault) inf) h lags room first =
      with_test (Leaves Q (open_end w (untold_end t e) (Perhaps (Ready number fault) (carried inf))))
      (same number t.number)
      _ _
      (λ k. untold_repeats t (ends field) w e number fault (carried inf) tt lags room first)
      (λ k. absurd (true≢false (sym h ∙ k)))
  untold_answer t field w e sent octet (got (Request s) inf) h lags room first = absurd h
  untold_answer t field w e sent octet (got (Response s) inf) h lags room first = absurd h
  untold_answer t field w e sent octet damaged h lags room first =
      untold_errs (at ⊥ (answer field) t) w e (Perhaps sent octet) Redundancy tt tt lags room first
  untold_answer t field w e sent octet invalid h lags room first =
      untold_errs (at ⊥ (answer field) t) w e (Perhaps sent octet) Other tt tt lags room first
  untold_answer t field w e sent octet quiet h lags room first =
      untold_errs (at ⊥ (answer field) t) w e Broken Free tt tt lags room first

  -- it asks for RESYNCH
  broken_resynch : (t : TerminalState) (asked : ℕ) (w : Watched) (e : End) → t.first_ifsc ≤ e.first_room
      → Tells Q (record t { waits = resynch asked }) (open_end w (record e { side = Terminal }) Broken)
      (request Resynch [])
  broken_resynch t asked w e first = open_resynch t asked w e Broken first
      (λ due course. (e, ap (λ (d : After). d.«end») (broken_due (record e { side = Terminal }) due course), first))

  unknown_ready : (t : TerminalState) (w : Watched) (f : End) (fault : Fault) → IsTalk t.waits
      → t.ifsc ≤ f.room → t.first_ifsc ≤ f.first_room
      → ((e1 : End) → sends (record f { side = Terminal }) (missed (record f { side = Terminal })) w.last.items
      (Ready t.expected fault) [] ≡ Ok e1 → ⊥)
      → Tells Q t (open_end w (record f { side = Terminal }) Broken) (ready t.expected fault)
  unknown_ready t w f fault talk room first none =
      let e = record f { side = Terminal } in
      open_tells t (open_end w e Broken) (ready t.expected fault) (UnknownEnd t) refl refl (λ within. within)
      (λ e1 p. absurd (none e1 (subst (λ (d : After).
      sends d.«end» d.owed w.last.items (Ready t.expected fault) [] ≡ Ok e1)
      (broken_due e p.due p.course) p.sent)))
      (λ e1 is. (
        record f { before = AnyBlock; asked = None; expects = t.expected },
        room,
        first,
        inl refl,
        is_end _ e1 is,
      ))
      (λ n e1 (base, room1, first1, numbers, is). unknown_fits Q t t.waits _ talk
      (record { base = base; is = is; room = room1; first = first1; numbers = numbers }))

  -- a failure, whose block may be missed again
  pub stale_fails : (t : TerminalState) (w : Watched) (f : End) (b : Parts) → IsBusy t.waits → NoAbort b.pcb
      → t.first_ifsc ≤ f.first_room
      → Tells Q (record t { failures = t.failures + 1 }) (open_end w (record f { side = Terminal }) Broken) b
      → Stale ⊥ Q (record t { failures = t.failures + 1 }) t.waits
      (watched (record f { side = Terminal }) Broken w.last.items)
      → Leaves Q (open_end w (record f { side = Terminal }) Broken) (fails t b)
  stale_fails t w f b busy_now no_abort first told stale =
      let e = record f { side = Terminal } in
      with_test (Leaves Q (open_end w e Broken)) (nat_lt t.failures most_repeats) _ _
      (λ h. (
        told,
        no_abort,
        busy_now,
        λ later. subst (λ (x : End). Stale ⊥ Q (record t { failures = t.failures + 1 }) t.waits
            (watched x Broken w.last.items))
            (sym (overlooked_again e)) stale,
      ))
      (λ h. (
        broken_resynch t 1 w f first,
        tt,
        tt,
        λ later. subst (HasSizes 0 t.first_ifsc) (sym (overlooked_again e))
            (record { side = refl; room = omega arith; first = first }),
      ))

  stale_kind_again : (t : TerminalState) (k : Kind) (w : plain.Watched)
      → HasSizes t.ifsc t.first_ifsc w.«end» → StaleTalk ⊥ Q (record t { failures = t.failures + 1 }) k w
      → Stale ⊥ Q (record (at ⊥ (waits_of k) t) { failures = t.failures + 1 }) (waits_of k) w
  stale_kind_again t (chain field rest) w h stale = (h, stale_as stale)
    where
      stale_as : StaleTalk ⊥ Q (record t { failures = t.failures + 1 }) (chain field rest) w
          → StaleTalk ⊥ Q (record (at ⊥ (ack field rest) t) { failures = t.failures + 1 }) (chain field rest) w
      stale_as (keeps talk) = keeps talk
      stale_as (is_unknown k) = is_unknown k
      stale_as (is_asking k q) = is_asking k q
      stale_as (is_behind k q x) = is_behind k q x
      stale_as (is_untold own k q n x lags) = is_untold own k q n x lags
  stale_kind_again t (ends field) w h stale = (h, stale_as stale)
    where
      stale_as : StaleTalk ⊥ Q (record t { failures = t.failures + 1 }) (ends field) w
          → StaleTalk ⊥ Q (record (at ⊥ (answer field) t) { failures = t.failures + 1 }) (ends field) w
      stale_as (keeps talk) = keeps talk
      stale_as (is_unknown k) = is_unknown k
      stale_as (is_asking k q) = is_asking k q
      stale_as (is_behind k q x) = is_behind k q x
      stale_as (is_untold own k q n x lags) = is_untold own k q n x lags
  stale_kind_again t (further joined last) w h stale = (h, (last, stale_as stale))
    where
      stale_as : StaleTalk ⊥ Q (record t { failures = t.failures + 1 }) (further joined last) w
          → StaleTalk ⊥ Q (record (at ⊥ (more joined) t) { failures = t.failures + 1 }) (further joined last) w
      stale_as (keeps talk) = keeps talk
      stale_as (is_unknown k) = is_unknown k
      stale_as (is_asking k q) = is_asking k q
      stale_as (is_behind k q x) = is_behind k q x
      stale_as (is_untold own k q n x lags) = is_untold own k q n x lags

  stale_talk_quiet : (t : TerminalState) (k : Kind) (w : Watched) → w.doubt ≡ Open
      → HasSizes t.ifsc t.first_ifsc w.«end» → StaleTalk ⊥ Q t k (plain_of (hears_it w Broken))
      → Leaves Q (hears_it w Broken) (fails (at ⊥ (waits_of k) t) (ready t.expected Free))
  stale_talk_quiet t k w free sizes (keeps talk) =
      subst (Leaves Q (hears_it w Broken)) (kind_quiet t k)
      (leaves_known Q (hears_it w Broken) _
      (takes_well ⊥ Q (at ⊥ (waits_of k) t) (plain_of (hears_it w Broken)) certain quiet (stale_talk_fits t k _ talk)
      tt))
  stale_talk_quiet t k w free sizes (is_unknown h) =
      let e = record w.«end» { side = Terminal; known = false } in
      let is : w.«end» ≡ e = sided w.«end» sizes.side ∙ ap (λ b. record w.«end» { side = Terminal; known = b }) h in
      let t1 = at ⊥ (waits_of k) t in
      let u : IsUnknown (record t1 { expected = w.«end».expects }) w = record {
        base = w.«end»;
        is = is;
        room = sizes.room;
        first = sizes.first;
        numbers = inr (inr refl);
      } in
      let course = any_course (record t1 { expected = w.«end».expects }) w Broken tt u in
      let sizes1 = unknown_sizes (record t1 { expected = w.«end».expects }) w Broken u in
      with_test (Leaves Q (hears_it w Broken)) (nat_lt t.failures most_repeats) _ _
      (λ few. (
        any_ready Q (record t1 { failures = t.failures + 1 }) (hears_it w Broken) Free (own_talk k) course,
        tt,
        talk_busy (waits_of k) (own_talk k),
        λ later. unknown_stale Q (record t1 { failures = t.failures + 1 }) (waits_of k) _ (own_talk k) sizes1
            (stays_unknown (record t1 { expected = w.«end».expects }) w Broken u),
      ))
      (λ many. (
        any_resynch Q t1 (hears_it w Broken) (any_first _ _ _ course),
        tt,
        tt,
        λ later. sizes_first ⊥ _ _ _ sizes1,
      ))
  stale_talk_quiet t k w free sizes (is_asking h q) =
      let t1 = at ⊥ (waits_of k) t in
      subst (λ (v : Watched). Leaves Q v (fails t1 (ready t.expected Free)))
      (sym (opened w (record w.«end» { side = Terminal }) Broken (sided w.«end» sizes.side) free))
      (stale_fails t1 w w.«end» (ready t.expected Free) (talk_busy (waits_of k) (own_talk k)) tt sizes.first
      (unknown_ready (record t1 { failures = t.failures + 1 }) w w.«end» Free (own_talk k) sizes.room sizes.first
      (λ e1 is. refused RequestDue e1
      (subst (λ (o : Owed). sends (record w.«end» { side = Terminal }) o w.last.items (Ready t.expected Free) [] ≡ Ok
      e1)
      (asked_owes (record w.«end» { side = Terminal }) h q) is)))
      (stale_kind_again t k _ (record { side = refl; room = sizes.room; first = sizes.first }) (is_asking h q)))
  stale_talk_quiet t k w free sizes (is_behind h q x) =
      let t1 = at ⊥ (waits_of k) t in
      subst (λ (v : Watched). Leaves Q v (fails t1 (ready t.expected Free)))
      (sym (opened w (record w.«end» { side = Terminal }) Broken (sided w.«end» sizes.side) free))
      (stale_fails t1 w w.«end» (ready t.expected Free) (talk_busy (waits_of k) (own_talk k)) tt sizes.first
      (unknown_ready (record t1 { failures = t.failures + 1 }) w w.«end» Free (own_talk k) sizes.room sizes.first
      (λ e1 is. refused SequenceNumber e1
      (sym (is_else (same t.expected w.«end».expects) _ _ x)
      ∙ subst (λ (o : Owed). sends (record w.«end» { side = Terminal }) o w.last.items (Ready t.expected Free) [] ≡ Ok
      e1)
      (free_owes (record w.«end» { side = Terminal }) h q) is)))
      (stale_kind_again t k _ (record { side = refl; room = sizes.room; first = sizes.first }) (is_behind h q x)))
  stale_talk_quiet t k w free sizes (is_untold own h q n x lags) =
      let t1 = at ⊥ (waits_of k) t in
      subst (λ (v : Watched). Leaves Q v (fails t1 (ready t.expected Free)))
      (sym (opened w (untold_end t w.«end») Broken
      (sided w.«end» sizes.side
      ∙ ap (λ b. record w.«end» { side = Terminal; known = b }) h
      ∙ ap (λ (a : Option Asked). record w.«end» { side = Terminal; known = true; asked = a }) q
      ∙ ap (λ (m : Number). record w.«end» { side = Terminal; known = true; asked = None; next = m }) n
      ∙ ap (λ (m : Number). record w.«end»
      { side = Terminal; known = true; asked = None; next = t.number; expects = m }) x)
      free))
      (untold_errs t1 w w.«end» Broken Free tt (own_waits k own) lags sizes.room sizes.first)

  pub size_end_fits : (t : TerminalState) (size : ℕ) (w : Watched) (f : End) (heard : Heard) (n : ℕ) (e : End)
      → SizeEnd t size e
      → FitsAny Q (record t { waits = ifs size }) (ifs size)
      (kept_after (open_end w f heard) (request Ifs (size ∷ [])) n e)
  size_end_fits t size w f heard n e (size_end base room first kind is) =
      inr (record { base = base; is = is; room = room; first = first; kind = kind; bound = inl refl })

  -- after a silence
  broken_size : (t : TerminalState) (size : ℕ) (w : Watched) (f : End) → t.ifsc ≤ f.room → t.first_ifsc ≤ f.first_room
      → ((e : End) → sends (record f { side = Terminal }) (missed (record f { side = Terminal })) w.last.items
      (Request Ifs) (size ∷ []) ≡ Ok e → SizeEnd t size e)
      → Tells Q (record t { waits = ifs size }) (open_end w (record f { side = Terminal }) Broken)
      (request Ifs (size ∷ []))
  broken_size t size w f room first course =
      let e = record f { side = Terminal } in
      open_tells (record t { waits = ifs size }) (open_end w e Broken) (request Ifs (size ∷ [])) (SizeEnd t size) refl
      refl
      (λ within. tt)
      (λ e1 p. course e1 (subst
      (λ (d : After). sends d.«end» d.owed w.last.items (Request Ifs) (size ∷ []) ≡ Ok e1)
      (broken_due e p.due p.course) p.sent))
      (λ e1 is. size_openly t size f e1 room first (is_end _ e1 is))
      (λ n e1 end_now. size_end_fits t size w e Broken n e1 end_now)

  stale_size_quiet : (t : TerminalState) (size : ℕ) (w : Watched) → w.doubt ≡ Open
      → HasSizes t.ifsc t.first_ifsc w.«end» → StaleSize ⊥ t.number t.expected w.«end»
      → Leaves Q (hears_it w Broken) (fails (at ⊥ (ifs size) t) (request Ifs (size ∷ [])))
  stale_size_quiet t size w free sizes stale =
      let t1 = at ⊥ (ifs size) t in
      let sided_now = sided w.«end» sizes.side in
      subst (λ (v : Watched). Leaves Q v (fails t1 (request Ifs (size ∷ []))))
      (sym (opened w (record w.«end» { side = Terminal }) Broken sided_now free))
      (stale_fails t1 w w.«end» (request Ifs (size ∷ [])) tt tt sizes.first
      (broken_size (record t { failures = t.failures + 1 }) size w w.«end» sizes.room sizes.first
      (λ e is. size_sends (record t { failures = t.failures + 1 }) size w.«end» w.last.items e sizes.room sizes.first
      stale
      is))
      (record { side = refl; room = sizes.room; first = sizes.first }, stale_size_as t w.«end» _ (sym sided_now) stale))

  -- ---- RESYNCH was asked for

  stale_resynch_quiet : (t : TerminalState) (asked : ℕ) (w : Watched) → w.doubt ≡ Open
      → HasSizes 0 t.first_ifsc w.«end»
      → Leaves Q (hears_it w Broken) (in_resynch (at ⊥ (resynch asked) t) asked quiet)
  stale_resynch_quiet t asked w free sizes =
      let e = record w.«end» { side = Terminal } in
      subst (λ (v : Watched). Leaves Q v (in_resynch (at ⊥ (resynch asked) t) asked quiet))
      (sym (opened w e Broken (sided w.«end» sizes.side) free))
      (with_test (Leaves Q (open_end w e Broken)) (nat_lt asked most_resynchs) _ _
      (λ h. (
        broken_resynch t (asked + 1) w w.«end» sizes.first,
        tt,
        tt,
        λ later. subst (HasSizes 0 t.first_ifsc) (sym (overlooked_again e))
            (record { side = refl; room = omega arith; first = sizes.first }),
      ))
      (λ h. ((λ b. b), inr tt)))

  -- ---- whatever the tap missed, the terminal goes on after the silence

  stale_waits : (waits : Waits) (t : TerminalState) (w : Watched) → w.doubt ≡ Open
      → Stale ⊥ Q t waits (plain_of (hears_it w Broken))
      → Leaves Q (hears_it w Broken) (terminal_came (at ⊥ waits t) waits quiet)
  stale_waits idle t w free stale = tt
  stale_waits (ack field rest) t w free (sizes, stale) = stale_talk_quiet t (chain field rest) w free sizes stale
  stale_waits (answer field) t w free (sizes, stale) = stale_talk_quiet t (ends field) w free sizes stale
  stale_waits (more joined) t w free (sizes, (last, stale)) =
      stale_talk_quiet t (further joined last) w free sizes stale
  stale_waits (ifs size) t w free (sizes, stale) = stale_size_quiet t size w free sizes stale
  stale_waits (resynch asked) t w free sizes = stale_resynch_quiet t asked w free sizes
  stale_waits dead t w free stale = tt

  pub stale_quiet : (t : TerminalState) (w : Watched) → w.doubt ≡ Open
      → Stale ⊥ Q t t.waits (plain_of (hears_it w Broken))
      → Leaves Q (hears_it w Broken) (terminal_turn t (takes quiet))
  stale_quiet t w free stale = stale_waits t.waits t w free stale
