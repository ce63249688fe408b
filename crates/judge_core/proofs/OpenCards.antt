-- The card of `t1_core`, whatever the monitor knows of it.
use Rattle.std.proofs.Common.{inl, inr, true≢false, ◌≡◌, ◌⊎◌, ℕ, ◌≤◌, List, [], length, refl, sym, ap, ◌∙◌, subst}
use Rattle.std.specs.Prelude.{Bool, true, false, ◌==◌, if◌then◌else◌, nat_le, Some, None, Ok, Err}
use Rattle.block_core.specs.Block.{Parts, other}
use Rattle.block_core.specs.declared.pcb.Number.{Number}
use Rattle.block_core.specs.declared.pcb.Number.TheVariants.{Zero, One}
use Rattle.block_core.specs.declared.pcb.Fault.{Fault}
use Rattle.block_core.specs.declared.pcb.Fault.TheVariants.{Free, Redundancy, Other}
use Rattle.block_core.specs.declared.pcb.S.{S}
use Rattle.block_core.specs.declared.pcb.S.TheVariants.{Resynch, Ifs, Abort, Wtx}
use Rattle.block_core.specs.declared.pcb.Pcb.{Pcb}
use Rattle.block_core.specs.declared.pcb.Pcb.TheVariants.{Info, Ready, Request, Response}
use Rattle.t1_core.specs.Came.{Came, got, damaged, invalid, quiet, same, carried, info, ready}
use Rattle.judge_core.specs.declared.end.Pending.{Pending}
use Rattle.judge_core.specs.declared.end.Pending.TheVariants.{Settled, Chain, Last}
use Rattle.judge_core.specs.declared.end.Asked.{Asked}
use Rattle.judge_core.specs.declared.end.Asked.TheVariants.{Size, Time, Stop, Anew}
use Rattle.judge_core.specs.declared.end.Owed.{Owed}
use Rattle.judge_core.specs.declared.end.Owed.TheVariants.{NewMessage, NextBlock, Acknowledgment, SameBlock, Correction, Refusal, SameRequest, Answer, EitherBlock, MessageOrCorrection, MessageOrRefusal, AcknowledgmentOrRefusal, AnyBlock}
use Rattle.judge_core.specs.declared.end.End.{End}
use Rattle.judge_core.specs.declared.end.After.{After}
use Rattle.judge_core.specs.declared.courses.Heard.{Heard}
use Rattle.judge_core.specs.declared.courses.Heard.TheVariants.{Perhaps, Broken}
use Rattle.judge_core.specs.declared.doubt.Doubt.TheVariants.{Clear, Open}
use Rattle.judge_core.specs.declared.monitor.Watched.{Watched}
use Rattle.judge_core.specs.Courses.{Permits}
use Rattle.judge_core.specs.Doubts.{judged_of, overlooked, sent_openly}
use Rattle.judge_core.specs.Ends.{after, hears, hears_ready, no_row, repeatable}
use Rattle.judge_core.specs.Missed.{IsWithin}
use Rattle.judge_core.specs.Monitored.{after_silence}
use Rattle.judge_core.specs.declared.rule.Rule.TheVariants.{CorrectionDue, RequestDue, SequenceNumber, ErrorCode, FieldSize}
use Rattle.judge_core.specs.Sends.{Sent, acknowledged, sends_info, informed, is_waiting, sends}
use Rattle.judge_core.proofs.Openly.{open_cases, overlooked_unknown}
use Rattle.judge_core.proofs.Passes.{Course, is_then, same_self, with_test}
use Rattle.judge_core.specs.declared.end.Row.{Row}
use Rattle.judge_core.specs.Ends.{is_chain}
use Rattle.std.specs.Prelude.{Option}
use Rattle.judge_core.specs.Sends.{is_foreign}
use Rattle.judge_core.specs.Sends.{after_answer}
use Rattle.std.specs.Prelude.{Option}
use Rattle.block_core.specs.declared.side.Side.TheVariants.{Card}
use Rattle.t1_core.specs.declared.turns.CardTurn.TheVariants.{Send}
use Rattle.t1_core.specs.Terminal.{first_ifsd, most_repeats}
use Rattle.t1_core.specs.Card.{CardState, CardRequest, Waits, command, host, reply, asking, size, time, card_came, request_block, sends_saved}
use Rattle.judge_core.specs.declared.rule.Rule.TheVariants.{CorrectionDue, RequestDue, ResponseDue, SequenceNumber, ErrorCode, FieldSize}
use Rattle.judge_core.specs.Courses.{uncounted}
use Rattle.judge_core.specs.Ends.{is_chain}
use Rattle.judge_core.specs.Sends.{acknowledged, is_foreign, sends_info}
use Rattle.judge_core.specs.Doubts.{presumed, sized, sized_by}
use Rattle.judge_core.proofs.SeenTerminals.{plain_of}
use Rattle.judge_core.proofs.SeenCards.{IsTalk}
use Rattle.judge_core.proofs.Terminals.{Core, core_overlooked}
use Rattle.judge_core.proofs.MissedTerminals.{Numbers, kept_after, same_is, tap_heard}
use Rattle.judge_core.proofs.OpenTerminals.{IsPlainOwed, is_end, is_within, one_due, open_end, refused}
use Rattle.judge_core.proofs.Cards.{HasSizes, IsBeforeInfo, IsBeforeRequest, IsBehind, IsExact, IsOwnWaits, Kind, at, before_asking, before_free, behind_asking, behind_free, behind_unknown, chain, ended, is_untold, last_of, listens, owes_info, question, request_asked, request_free, request_unknown, silent, sizes_overlooked}
use Rattle.judge_core.specs.declared.rule.Rule.TheVariants.{RepeatDue}
use Rattle.judge_core.specs.Sends.{after_answer}
use Rattle.judge_core.proofs.MissedCards.{FitsAny, IsOwn, Leaves, StaleAny, Tells, any_info_end, anew_says, goes_on_of, info_fits, left, left_anew, loose_unknown, loose_untold, own_is_talk, stale_known, talk_awaits, tells}

-- ---- what a permitted block makes of an end

abbrev pub card_free : End → End
card_free e = record e { side = Card; known = true; asked = None }

-- an R-block has the number that the end expects
pub record ReadySent (f : End) (x : Number) (e : End) : Type 0 where
  pub same_one : same x f.expects ≡ true
  pub tries : ℕ
  pub row : Row
  pub is : e ≡ record f { side = Card; known = true; asked = None; expects = x; tries = tries; row = row }

sends_ready_out : (f : End) (x : Number) (e : End)
    → (if same x f.expects then Ok (card_free f) else Err SequenceNumber) ≡ Ok e → ReadySent f x e
sends_ready_out f x e = with_test (λ (s : Sent). s ≡ Ok e → ReadySent f x e) (same x f.expects) _ _
    (λ h is. record {
      same_one = h;
      tries = f.tries;
      row = f.row;
      is = is_end _ e is ∙ ap (λ (n : Number). record (card_free f) { expects = n }) (sym (same_is x f.expects h));
    })
    (λ h is. refused SequenceNumber e is)

acknowledged_out : (f : End) (x : Number) (fault : Fault) (e : End)
    → acknowledged (card_free f) x fault ≡ Ok e → ReadySent f x e
acknowledged_out f x Free e = with_test (λ (s : Sent). s ≡ Ok e → ReadySent f x e) (same x f.expects) _ _
    (λ h is. record {
      same_one = h;
      tries = 0;
      row = no_row;
      is = is_end _ e is
          ∙ ap (λ (n : Number). record (card_free f) { expects = n; tries = 0; row = no_row })
          (sym (same_is x f.expects h));
    })
    (λ h is. refused SequenceNumber e is)
acknowledged_out f x Redundancy e = λ is. refused ErrorCode e is
acknowledged_out f x Other e = λ is. refused ErrorCode e is

pub ready_out : (f : End) (owed : Owed) (last : List ℕ) (x : Number) (fault : Fault) (e : End) → IsPlainOwed owed
    → sends (card_free f) owed last (Ready x fault) [] ≡ Ok e → ReadySent f x e
ready_out f NewMessage last x fault e h is = refused _ e is
ready_out f NextBlock last x fault e h is = refused _ e is
ready_out f Acknowledgment last x fault e h is = acknowledged_out f x fault e is
ready_out f SameBlock last x fault e h is = refused _ e is
ready_out f Correction last x fault e h is = sends_ready_out f x e is
ready_out f Refusal last x Free e h is = refused _ e is
ready_out f Refusal last x Redundancy e h is = refused _ e is
ready_out f Refusal last x Other e h is = sends_ready_out f x e is
ready_out f SameRequest last x fault e h is = absurd h
ready_out f (Answer s n) last x fault e h is = refused _ e is
ready_out f EitherBlock last x fault e h is = absurd h
ready_out f MessageOrCorrection last x fault e h is = sends_ready_out f x e is
ready_out f MessageOrRefusal last x fault e h is = absurd h
ready_out f AcknowledgmentOrRefusal last x fault e h is = absurd h
ready_out f AnyBlock last x fault e h is = absurd h

abbrev InfoSent : End → Number → Bool → End → Type 0
InfoSent f number goes_on e = e ≡ informed (card_free f) number goes_on

sends_info_out : (f : End) (number : Number) (goes_on : Bool) (inf : List ℕ) (e : End)
    → sends_info (card_free f) number goes_on inf ≡ Ok e → InfoSent f number goes_on e
sends_info_out f number goes_on inf e = with_test (λ (s : Sent). s ≡ Ok e → InfoSent f number goes_on e)
    (same number f.next) _ _
    (λ h. with_test (λ (s : Sent). s ≡ Ok e → InfoSent f number goes_on e) (nat_le (length inf) f.room) _ _
    (λ k is. is_end _ e is) (λ k is. refused FieldSize e is))
    (λ h is. refused SequenceNumber e is)

repeated_out : (f : End) (last : List ℕ) (number : Number) (goes_on : Bool) (inf : List ℕ) (e : End)
    → f.next ≡ number → sends (card_free f) SameBlock last (Info number goes_on) inf ≡ Ok e
    → InfoSent f number goes_on e
repeated_out f last number goes_on inf e next is =
    refused SequenceNumber e (sym (is_then (same number f.next) _ _ (subst (λ n. same number n ≡ true) (sym next)
    (same_self number))) ∙ is)

info_out : (f : End) (owed : Owed) (last : List ℕ) (number : Number) (goes_on : Bool) (inf : List ℕ) (e : End)
    → IsPlainOwed owed → f.next ≡ number → sends (card_free f) owed last (Info number goes_on) inf ≡ Ok e
    → InfoSent f number goes_on e
info_out f NewMessage last number goes_on inf e h next is = sends_info_out f number goes_on inf e is
info_out f NextBlock last number goes_on inf e h next is = sends_info_out f number goes_on inf e is
info_out f Acknowledgment last number goes_on inf e h next is = refused _ e is
info_out f SameBlock last number goes_on inf e h next is = repeated_out f last number goes_on inf e next is
info_out f Correction last number goes_on inf e h next is = refused _ e is
info_out f Refusal last number goes_on inf e h next is = refused _ e is
info_out f SameRequest last number goes_on inf e h next is = absurd h
info_out f (Answer s n) last number goes_on inf e h next is = refused _ e is
info_out f EitherBlock last number goes_on inf e h next is = absurd h
info_out f MessageOrCorrection last number goes_on inf e h next is = sends_info_out f number goes_on inf e is
info_out f MessageOrRefusal last number goes_on inf e h next is = absurd h
info_out f AcknowledgmentOrRefusal last number goes_on inf e h next is = absurd h
info_out f AnyBlock last number goes_on inf e h next is = absurd h

-- ---- what it owes after what a terminal sends when its waiting time ended

abbrev pub IsAfterQuiet : Pcb → Type 0
IsAfterQuiet (Info number goes_on) = ⊥
IsAfterQuiet (Ready number fault) = Unit {0}
IsAfterQuiet (Request s) = Unit {0}
IsAfterQuiet (Response s) = ⊥

pub record FreeDue (f : End) (due : After) : Type 0 where
  pub owed : IsPlainOwed due.owed
  pub pending : Pending
  pub is : due.«end» ≡ record (card_free f) { pending = pending }

same_due : (f : End) (owed : Owed) → IsPlainOwed owed → FreeDue f (after (card_free f) owed)
same_due f owed h = record { owed = h; pending = f.pending; is = refl }

settled_due : (f : End) (aborted : Bool)
    → FreeDue f (if aborted then after (card_free f) MessageOrCorrection else after (card_free f) Correction)
settled_due f true = same_due f MessageOrCorrection tt
settled_due f false = same_due f Correction tt

after_ready : (f : End) (pending : Pending) (b : Bool) → FreeDue f (hears_ready (card_free f) pending b)
after_ready f Chain true = record { owed = tt; pending = Settled; is = refl }
after_ready f Chain false = same_due f SameBlock tt
after_ready f Last true = same_due f Correction tt
after_ready f Last false = same_due f SameBlock tt
after_ready f Settled true = settled_due f f.aborted
after_ready f Settled false = same_due f Correction tt

free_hears : (f : End) (pcb : Pcb) (octet : ℕ) → IsAfterQuiet pcb → FreeDue f (hears (card_free f) pcb octet)
free_hears f (Info number goes_on) octet h = absurd h
free_hears f (Ready number fault) octet h = after_ready f f.pending (same number f.next)
free_hears f (Request Resynch) octet h = same_due f (Answer Resynch 0) tt
free_hears f (Request Ifs) octet h = same_due f (Answer Ifs octet) tt
free_hears f (Request Abort) octet h = same_due f (Answer Abort 0) tt
free_hears f (Request Wtx) octet h = same_due f Correction tt
free_hears f (Response s) octet h = absurd h

pub due_free : (f : End) (pcb : Pcb) (octet : ℕ) (due : After) → IsAfterQuiet pcb
    → Course (card_free f) (Perhaps pcb octet) due → FreeDue f due
due_free f pcb octet due h (inl is) = subst (FreeDue f) (one_due _ due is) (free_hears f pcb octet h)
due_free f pcb octet due h (inr is) = subst (FreeDue f) (one_due _ due is) (same_due f Correction tt)

-- an end that waits for a response
pub data AskedDue (e : End) (due : After) : Type 0 where
  asks_on : due ≡ after e SameRequest → AskedDue e due
  begins_anew : due ≡ after e (Answer Resynch 0) → AskedDue e due

abbrev pub asked_end : End → Asked → End
asked_end e a = record e { side = Card; known = true; asked = Some a }

asked_hears : (e : End) (a : Asked) (pcb : Pcb) (octet : ℕ) → IsAfterQuiet pcb
    → AskedDue (asked_end e a) (hears (asked_end e a) pcb octet)
asked_hears e a (Info number goes_on) octet h = absurd h
asked_hears e a (Response s) octet h = absurd h
asked_hears e (Size n) (Ready number fault) octet h = asks_on refl
asked_hears e (Time n) (Ready number fault) octet h = asks_on refl
asked_hears e Stop (Ready number fault) octet h = asks_on refl
asked_hears e Anew (Ready number fault) octet h = asks_on refl
asked_hears e a (Request Resynch) octet h = begins_anew refl
asked_hears e (Size n) (Request Ifs) octet h = asks_on refl
asked_hears e (Time n) (Request Ifs) octet h = asks_on refl
asked_hears e Stop (Request Ifs) octet h = asks_on refl
asked_hears e Anew (Request Ifs) octet h = asks_on refl
asked_hears e (Size n) (Request Abort) octet h = asks_on refl
asked_hears e (Time n) (Request Abort) octet h = asks_on refl
asked_hears e Stop (Request Abort) octet h = asks_on refl
asked_hears e Anew (Request Abort) octet h = asks_on refl
asked_hears e (Size n) (Request Wtx) octet h = asks_on refl
asked_hears e (Time n) (Request Wtx) octet h = asks_on refl
asked_hears e Stop (Request Wtx) octet h = asks_on refl
asked_hears e Anew (Request Wtx) octet h = asks_on refl

asked_none : (e : End) (a : Asked) (pcb : Pcb) (octet : ℕ) → IsAfterQuiet pcb
    → AskedDue (asked_end e a) (after (uncounted (asked_end e a) pcb octet) SameRequest)
asked_none e a (Info number goes_on) octet h = absurd h
asked_none e a (Response s) octet h = absurd h
asked_none e (Size n) (Ready number fault) octet h = asks_on refl
asked_none e (Time n) (Ready number fault) octet h = asks_on refl
asked_none e Stop (Ready number fault) octet h = asks_on refl
asked_none e Anew (Ready number fault) octet h = asks_on refl
asked_none e (Size n) (Request s) octet h = asks_on refl
asked_none e (Time n) (Request s) octet h = asks_on refl
asked_none e Stop (Request s) octet h = asks_on refl
asked_none e Anew (Request s) octet h = asks_on refl

pub due_asked : (e : End) (a : Asked) (pcb : Pcb) (octet : ℕ) (due : After) → IsAfterQuiet pcb
    → Course (asked_end e a) (Perhaps pcb octet) due → AskedDue (asked_end e a) due
due_asked e a pcb octet due h (inl is) =
    subst (AskedDue (asked_end e a)) (one_due _ due is) (asked_hears e a pcb octet h)
due_asked e a pcb octet due h (inr is) =
    subst (AskedDue (asked_end e a)) (one_due _ due is) (asked_none e a pcb octet h)

-- it sends neither an R-block nor an I-block then
asked_ready : (e : End) (a : Asked) (due : After) (last : List ℕ) (x : Number) (fault : Fault) (e1 : End)
    → AskedDue (asked_end e a) due → sends due.«end» due.owed last (Ready x fault) [] ≡ Ok e1 → ⊥
asked_ready e a due last x fault e1 (asks_on same_due) is = refused RequestDue e1
    (subst (λ (d : After). sends d.«end» d.owed last (Ready x fault) [] ≡ Ok e1) same_due is)
asked_ready e a due last x fault e1 (begins_anew same_due) is = refused ResponseDue e1
    (subst (λ (d : After). sends d.«end» d.owed last (Ready x fault) [] ≡ Ok e1) same_due is)

asked_info : (e : End) (a : Asked) (due : After) (last : List ℕ) (x : Number) (goes_on : Bool) (inf : List ℕ) (e1 : End)
    → AskedDue (asked_end e a) due → sends due.«end» due.owed last (Info x goes_on) inf ≡ Ok e1 → ⊥
asked_info e a due last x goes_on inf e1 (asks_on same_due) is = refused RequestDue e1
    (subst (λ (d : After). sends d.«end» d.owed last (Info x goes_on) inf ≡ Ok e1) same_due is)
asked_info e a due last x goes_on inf e1 (begins_anew same_due) is = refused ResponseDue e1
    (subst (λ (d : After). sends d.«end» d.owed last (Info x goes_on) inf ≡ Ok e1) same_due is)

-- an end between messages: it owes no message
abbrev pub IsNone : Owed → Type 0
IsNone Correction = Unit {0}
IsNone SameBlock = Unit {0}
IsNone (Answer s n) = Unit {0}
IsNone NewMessage = ⊥
IsNone NextBlock = ⊥
IsNone Acknowledgment = ⊥
IsNone Refusal = ⊥
IsNone SameRequest = ⊥
IsNone EitherBlock = ⊥
IsNone MessageOrCorrection = ⊥
IsNone MessageOrRefusal = ⊥
IsNone AcknowledgmentOrRefusal = ⊥
IsNone AnyBlock = ⊥

pub record NoneDue (f : End) (due : After) : Type 0 where
  pub owed : IsNone due.owed
  pub is : due.«end» ≡ card_free f

none_ready : (f : End) (pending : Pending) (b : Bool) → is_chain pending ≡ false → f.aborted ≡ false
    → NoneDue f (hears_ready (card_free f) pending b)
none_ready f Chain b h a = absurd (true≢false h)
none_ready f Last true h a = record { owed = tt; is = refl }
none_ready f Last false h a = record { owed = tt; is = refl }
none_ready f Settled true h a = subst (λ (b : Bool). NoneDue f
    (if b then after (card_free f) MessageOrCorrection else after (card_free f) Correction)) (sym a)
    (record { owed = tt; is = refl })
none_ready f Settled false h a = record { owed = tt; is = refl }

none_hears : (f : End) (pcb : Pcb) (octet : ℕ) → IsAfterQuiet pcb → is_chain f.pending ≡ false → f.aborted ≡ false
    → NoneDue f (hears (card_free f) pcb octet)
none_hears f (Info number goes_on) octet h p a = absurd h
none_hears f (Ready number fault) octet h p a = none_ready f f.pending (same number f.next) p a
none_hears f (Request Resynch) octet h p a = record { owed = tt; is = refl }
none_hears f (Request Ifs) octet h p a = record { owed = tt; is = refl }
none_hears f (Request Abort) octet h p a = record { owed = tt; is = refl }
none_hears f (Request Wtx) octet h p a = record { owed = tt; is = refl }
none_hears f (Response s) octet h p a = absurd h

pub due_none : (f : End) (pcb : Pcb) (octet : ℕ) (due : After) → IsAfterQuiet pcb → is_chain f.pending ≡ false
    → f.aborted ≡ false → Course (card_free f) (Perhaps pcb octet) due → NoneDue f due
due_none f pcb octet due h p a (inl is) = subst (NoneDue f) (one_due _ due is) (none_hears f pcb octet h p a)
due_none f pcb octet due h p a (inr is) =
    subst (NoneDue f) (one_due _ due is) (record { owed = tt; is = refl })

none_info : (f : End) (owed : Owed) (last : List ℕ) (x : Number) (goes_on : Bool) (inf : List ℕ) (e1 : End)
    → f.next ≡ x → IsNone owed → sends (card_free f) owed last (Info x goes_on) inf ≡ Ok e1 → ⊥
none_info f Correction last x goes_on inf e1 next h is = refused CorrectionDue e1 is
none_info f SameBlock last x goes_on inf e1 next h is =
    refused SequenceNumber e1 (sym (is_then (same x f.next) _ _ (subst (λ n. same x n ≡ true) (sym next)
    (same_self x))) ∙ is)
none_info f (Answer s n) last x goes_on inf e1 next h is = refused ResponseDue e1 is
none_info f NewMessage last x goes_on inf e1 next h is = absurd h
none_info f NextBlock last x goes_on inf e1 next h is = absurd h
none_info f Acknowledgment last x goes_on inf e1 next h is = absurd h
none_info f Refusal last x goes_on inf e1 next h is = absurd h
none_info f SameRequest last x goes_on inf e1 next h is = absurd h
none_info f EitherBlock last x goes_on inf e1 next h is = absurd h
none_info f MessageOrCorrection last x goes_on inf e1 next h is = absurd h
none_info f MessageOrRefusal last x goes_on inf e1 next h is = absurd h
none_info f AcknowledgmentOrRefusal last x goes_on inf e1 next h is = absurd h
none_info f AnyBlock last x goes_on inf e1 next h is = absurd h

abbrev kind_of_request : CardRequest → S
kind_of_request (size n) = Ifs
kind_of_request (time n) = Wtx

abbrev octet_of_request : CardRequest → ℕ
octet_of_request (size n) = n
octet_of_request (time n) = n

pub none_request : (f : End) (owed : Owed) (last : List ℕ) (asked : CardRequest) (e1 : End) → IsNone owed
    → sends (card_free f) owed last (request_block asked).pcb (request_block asked).inf ≡ Ok e1 → ⊥
none_request f Correction last (size n) e1 h is = refused CorrectionDue e1 is
none_request f Correction last (time n) e1 h is = refused CorrectionDue e1 is
none_request f SameBlock last (size n) e1 h is = refused RepeatDue e1 is
none_request f SameBlock last (time n) e1 h is = refused RepeatDue e1 is
none_request f (Answer s k) last (size n) e1 h is = refused ResponseDue e1 is
none_request f (Answer s k) last (time n) e1 h is = refused ResponseDue e1 is
none_request f NewMessage last asked e1 h is = absurd h
none_request f NextBlock last asked e1 h is = absurd h
none_request f Acknowledgment last asked e1 h is = absurd h
none_request f Refusal last asked e1 h is = absurd h
none_request f SameRequest last asked e1 h is = absurd h
none_request f EitherBlock last asked e1 h is = absurd h
none_request f MessageOrCorrection last asked e1 h is = absurd h
none_request f MessageOrRefusal last asked e1 h is = absurd h
none_request f AcknowledgmentOrRefusal last asked e1 h is = absurd h
none_request f AnyBlock last asked e1 h is = absurd h

-- the same question again
pub request_again : (number expected : Number) (f : End) (asked before : CardRequest) (last : List ℕ) (e1 : End)
    → (f.before ≡ AnyBlock) ⊎ IsExact number expected f
    → sends (asked_end f (question before)) SameRequest last (request_block asked).pcb (request_block asked).inf ≡ Ok e1
    → (base : End) × (base.room ≡ f.room) × (base.first_room ≡ f.first_room)
    × ((base.before ≡ AnyBlock) ⊎ IsExact number expected base)
    × (e1 ≡ record base { side = Card; known = true; asked = Some (question asked) })
request_again number expected f (size n) (size m) last e1 kind =
    with_test (λ (s : Sent). s ≡ Ok e1 → (base : End) × (base.room ≡ f.room) × (base.first_room ≡ f.first_room)
    × ((base.before ≡ AnyBlock) ⊎ IsExact number expected base)
    × (e1 ≡ record base { side = Card; known = true; asked = Some (Size n) })) (n == m) _ _
    (λ h is. (
      record f { before = after_answer f.before Card; tries = 0; row = no_row },
      refl,
      refl,
      still number expected f kind,
      is_end _ e1 is,
    ))
    (λ h is. refused RequestDue e1 is)
  where
    still : (number expected : Number) (f : End) → (f.before ≡ AnyBlock) ⊎ IsExact number expected f
        → (after_answer f.before Card ≡ AnyBlock)
        ⊎ ((after_answer f.before Card ≡ MessageOrRefusal) × (f.next ≡ number) × (f.expects ≡ expected))
    still number expected f (inl any) = inl (ap (λ (o : Owed). after_answer o Card) any)
    still number expected f (inr (b, n, x)) = inr (ap (λ (o : Owed). after_answer o Card) b, n, x)
request_again number expected f (time n) (time m) last e1 kind =
    with_test (λ (s : Sent). s ≡ Ok e1 → (base : End) × (base.room ≡ f.room) × (base.first_room ≡ f.first_room)
    × ((base.before ≡ AnyBlock) ⊎ IsExact number expected base)
    × (e1 ≡ record base { side = Card; known = true; asked = Some (Time n) })) (n == m) _ _
    (λ h is. (
      record f { before = after_answer f.before Card; tries = 0; row = no_row },
      refl,
      refl,
      still number expected f kind,
      is_end _ e1 is,
    ))
    (λ h is. refused RequestDue e1 is)
  where
    still : (number expected : Number) (f : End) → (f.before ≡ AnyBlock) ⊎ IsExact number expected f
        → (after_answer f.before Card ≡ AnyBlock)
        ⊎ ((after_answer f.before Card ≡ MessageOrRefusal) × (f.next ≡ number) × (f.expects ≡ expected))
    still number expected f (inl any) = inl (ap (λ (o : Owed). after_answer o Card) any)
    still number expected f (inr (b, n, x)) = inr (ap (λ (o : Owed). after_answer o Card) b, n, x)
request_again number expected f (size n) (time m) last e1 kind = λ is. refused RequestDue e1 is
request_again number expected f (time n) (size m) last e1 kind = λ is. refused RequestDue e1 is

-- what came to a card that awaits its own block's acknowledgment, an R-block's or a response
abbrev pub AsksOwn : Number → Came → Type 0
AsksOwn x (got (Info number goes_on) inf) = ⊥
AsksOwn x (got (Ready number fault) inf) = same number x ≡ true
AsksOwn x (got (Request Resynch) inf) = Unit {0}
AsksOwn x (got (Request Ifs) inf) = ⊥
AsksOwn x (got (Request Abort) inf) = ⊥
AsksOwn x (got (Request Wtx) inf) = ⊥
AsksOwn x (got (Response s) inf) = ⊥
AsksOwn x damaged = Unit {0}
AsksOwn x invalid = Unit {0}
AsksOwn x quiet = ⊥

abbrev pub AsksReady : CardState → Came → Type 0
AsksReady c (got (Info number goes_on) inf) = ⊥
AsksReady c (got (Ready number fault) inf) = (c.saved ≡ None) ⊎ (same number c.number ≡ false)
AsksReady c (got (Request Resynch) inf) = Unit {0}
AsksReady c (got (Request Ifs) inf) = ⊥
AsksReady c (got (Request Abort) inf) = ⊥
AsksReady c (got (Request Wtx) inf) = ⊥
AsksReady c (got (Response s) inf) = ⊥
AsksReady c damaged = Unit {0}
AsksReady c invalid = Unit {0}
AsksReady c quiet = ⊥

abbrev pub AsksRequest : Came → Type 0
AsksRequest (got (Info number goes_on) inf) = ⊥
AsksRequest (got (Ready number fault) inf) = Unit {0}
AsksRequest (got (Request Resynch) inf) = Unit {0}
AsksRequest (got (Request Ifs) inf) = ⊥
AsksRequest (got (Request Abort) inf) = ⊥
AsksRequest (got (Request Wtx) inf) = ⊥
AsksRequest (got (Response s) inf) = ⊥
AsksRequest damaged = Unit {0}
AsksRequest invalid = Unit {0}
AsksRequest quiet = ⊥

abbrev pub AsksAnew : Came → Type 0
AsksAnew (got (Info number goes_on) inf) = ⊥
AsksAnew (got (Ready number fault) inf) = ⊥
AsksAnew (got (Request Resynch) inf) = Unit {0}
AsksAnew (got (Request Ifs) inf) = ⊥
AsksAnew (got (Request Abort) inf) = ⊥
AsksAnew (got (Request Wtx) inf) = ⊥
AsksAnew (got (Response s) inf) = ⊥
AsksAnew damaged = Unit {0}
AsksAnew invalid = Unit {0}
AsksAnew quiet = ⊥

abbrev untold_end : CardState → End → End
untold_end c e = record e { side = Card; known = true; asked = None; next = c.number; expects = c.expected }

pub sided : (e : End) → e.side ≡ Card → e ≡ record e { side = Card }
sided e h = ap (λ s. record e { side = s }) h

pub free_sided : (e : End) → e.side ≡ Card → e.known ≡ true → e.asked ≡ None → e ≡ card_free e
free_sided e s h q = sided e s ∙ ap (λ b. record e { side = Card; known = b }) h
    ∙ ap (λ (a : Option Asked). record e { side = Card; known = true; asked = a }) q

pub asked_as : (e : End) → e.side ≡ Card → e.known ≡ true → is_waiting e.asked ≡ true
    → (a : Asked) × (e ≡ asked_end e a)
asked_as e s h q = go e.asked refl q
  where
    go : (asked : Option Asked) → e.asked ≡ asked → is_waiting asked ≡ true → (a : Asked) × (e ≡ asked_end e a)
    go None is q = absurd (true≢false (sym q))
    go (Some a) is q = (
      a,
      sided e s ∙ ap (λ b. record e { side = Card; known = b }) h
          ∙ ap (λ (x : Option Asked). record e { side = Card; known = true; asked = x }) is,
    )

-- where Q, R and T say the same of the terminal
module _ (Q : Number → Type 0) (R T : Type 0) where
  pub open_tells : (c : CardState) (w : Watched) (b : Parts) (G : End → Type 0) → w.doubt ≡ Open
      → is_foreign w.«end».side b.pcb ≡ false → (IsWithin c.ifsd b.pcb b.inf → IsWithin w.«end».room b.pcb b.inf)
      → ((e : End) → Permits w.«end» w.heard w.last.items b.pcb b.inf e → G e)
      → ((e : End) → sent_openly w b ≡ Ok e → G e)
      → ((n : ℕ) (e : End) → G e → FitsAny (left Q b.pcb) (left_anew R b.pcb) c (kept_after w b n e))
      → Tells Q R c w b
  open_tells c w b G free own room permits openly fits talks within n =
      let (passed, way) = open_cases w b free own (room within) in
      tells Q R T c w b n (judged_of w b).«end» passed refl (fits n (judged_of w b).«end» (go way))
    where
      go : Permits w.«end» w.heard w.last.items b.pcb b.inf (judged_of w b).«end»
          ⊎ (sent_openly w b ≡ Ok (judged_of w b).«end») → G (judged_of w b).«end»
      go (inl p) = permits (judged_of w b).«end» p
      go (inr s) = openly (judged_of w b).«end» s

  -- ---- an R-block of an end that may send any block

  -- on no course: then nothing is known
  pub openly_ready : (c : CardState) (w : Watched) (f : End) (heard : Heard) (fault : Fault) → IsTalk c.waits
      → c.ifsd ≤ f.room → first_ifsd ≤ f.first_room
      → ((due : After) (e1 : End) → Course (record f { side = Card }) heard due
      → sends due.«end» due.owed w.last.items (Ready c.expected fault) [] ≡ Ok e1 → ⊥)
      → Tells Q R c (open_end w (record f { side = Card }) heard) (ready c.expected fault)
  openly_ready c w f heard fault talk room first none =
      open_tells c (open_end w (record f { side = Card }) heard) (ready c.expected fault)
      (λ e. e ≡ record f { side = Card; known = false; before = AnyBlock; asked = None; expects = c.expected })
      refl refl (λ within. within)
      (λ e1 p. absurd (none p.due e1 p.course p.sent))
      (λ e1 is. is_end _ e1 is)
      (λ n e1 is. inr (loose_unknown talk (record {
        base = record f { before = AnyBlock; asked = None; expects = c.expected };
        is = is;
        room = room;
        first = first;
        numbers = inl refl;
      })))

  -- on some course: the I-block under way is still unseen
  untold_ready : (c : CardState) (w : Watched) (e : End) (pcb : Pcb) (octet : ℕ) (fault : Fault) → IsAfterQuiet pcb
      → IsOwnWaits c.saved c.waits → Q c.number → c.ifsd ≤ e.room → first_ifsd ≤ e.first_room
      → Tells Q R c (open_end w (untold_end c e) (Perhaps pcb octet)) (ready c.expected fault)
  untold_ready c w e pcb octet fault quiet_now own lags room first =
      let f = record e { next = c.number; expects = c.expected } in
      open_tells c (open_end w (untold_end c e) (Perhaps pcb octet)) (ready c.expected fault)
      (λ x. (base : End) × (c.ifsd ≤ base.room) × (first_ifsd ≤ base.first_room)
      × ((x ≡ untold_end c base) ⊎ (Numbers c.expected base × (x ≡ record base { side = Card; known = false }))))
      refl refl (λ within. within)
      (λ e1 p. let d = due_free f pcb octet p.due quiet_now p.course in
      let out = ready_out (record f { pending = d.pending }) p.due.owed w.last.items c.expected fault e1 d.owed
      (subst (λ (x : End). sends x p.due.owed w.last.items (Ready c.expected fault) [] ≡ Ok e1) d.is p.sent) in
      (record f { pending = d.pending; tries = out.tries; row = out.row }, room, first, inl out.is))
      (λ e1 is. (record f { before = AnyBlock; asked = None }, room, first, inr (inl refl, is_end _ e1 is)))
      (λ n e1 (base, room1, first1, way). go n e1 base room1 first1 way)
    where
      go : (n : ℕ) (e1 base : End) → c.ifsd ≤ base.room → first_ifsd ≤ base.first_room
          → (e1 ≡ untold_end c base) ⊎ (Numbers c.expected base × (e1 ≡ record base { side = Card; known = false }))
          → FitsAny Q R c (kept_after (open_end w (untold_end c e) (Perhaps pcb octet)) (ready c.expected fault) n e1)
      go n e1 base room1 first1 (inl is) = inr (loose_untold own (record {
        base = base;
        is = is;
        room = room1;
        first = first1;
        free = refl;
        lags = lags;
      }))
      go n e1 base room1 first1 (inr (numbers, is)) = inr (loose_unknown (own_is_talk c.saved c.waits own)
          (record { base = base; is = is; room = room1; first = first1; numbers = numbers }))

  -- ---- an I-block of an end that may send any block

  kind_within : (c : CardState) (k : Kind) → IsWithin (at k c).ifsd (Info c.number (goes_on_of k)) (last_of k)
      → length (last_of k) ≤ c.ifsd
  kind_within c (listens joined last) h = h
  kind_within c (ended joined field) h = h
  kind_within c (chain field rest) h = h

  info_end_fits : (c : CardState) (k : Kind) (w : Watched) (f : End) (heard : Heard) (n : ℕ) (e base : End)
      (known : Bool)
      → IsOwn k
      → c.ifsd ≤ base.room → first_ifsd ≤ base.first_room → (known ≡ true → base.expects ≡ c.expected)
      → record e { tries = most_repeats } ≡ any_info_end base c.number (goes_on_of k) known
      → FitsAny (λ m. ⊥) R (at k c)
      (kept_after (open_end w f heard) (info c.number (goes_on_of k) (last_of k)) n e)
  info_end_fits c k w f heard n e base known own room first numbers is =
      subst (λ (x : End). FitsAny (λ m. ⊥) R (at k c) (record (open_end w f heard) {
        «end» = x;
        heard = after_silence f.side;
        last = record { items = last_of k };
        number = n;
        doubt = Clear;
      })) (sym is) (info_fits Q R T c k (open_end w f heard) n base known own room first numbers)

  abbrev InfoLeft : CardState → Kind → End → Type 0
  InfoLeft c k e = (base : End) × (known : Bool) × (c.ifsd ≤ base.room) × (first_ifsd ≤ base.first_room)
      × (known ≡ true → base.expects ≡ c.expected)
      × (record e { tries = most_repeats } ≡ any_info_end base c.number (goes_on_of k) known)

  open_info : (c : CardState) (k : Kind) (w : Watched) (f : End) (heard : Heard) → IsOwn k
      → c.ifsd ≤ f.room → first_ifsd ≤ f.first_room
      → ((due : After) (e1 : End) → Course (record f { side = Card }) heard due
      → sends due.«end» due.owed w.last.items (Info c.number (goes_on_of k)) (last_of k) ≡ Ok e1 → InfoLeft c k e1)
      → Tells Q R (at k c) (open_end w (record f { side = Card }) heard) (info c.number (goes_on_of k) (last_of k))
  open_info c k w f heard own room first permits =
      let e = record f { side = Card } in
      open_tells (at k c) (open_end w e heard) (info c.number (goes_on_of k) (last_of k)) (InfoLeft c k) refl refl
      (λ within. is_within (Info c.number (goes_on_of k)) (last_of k) c.ifsd f.room room (kind_within c k within))
      (λ e1 p. permits p.due e1 p.course p.sent)
      (λ e1. with_test (λ (s : Sent). s ≡ Ok e1 → InfoLeft c k e1)
      (nat_le (length (last_of k)) (repeatable f)) _ _
      (λ h is. (
        record f { before = NewMessage },
        false,
        room,
        first,
        (λ no. absurd (true≢false (sym no))),
        ap (λ (x : End). record x { tries = most_repeats }) (is_end _ e1 is),
      ))
      (λ h is. refused FieldSize e1 is))
      (λ n e1 (base, known, room1, first1, numbers, is). info_end_fits c k w e heard n e1 base known own room1 first1
      numbers is)

  untold_info : (c : CardState) (k : Kind) (w : Watched) (e : End) (number : Number) (fault : Fault) (octet : ℕ)
      → IsOwn k
      → c.ifsd ≤ e.room → first_ifsd ≤ e.first_room
      → Tells Q R (at k c) (open_end w (untold_end c e) (Perhaps (Ready number fault) octet))
      (info c.number (goes_on_of k) (last_of k))
  untold_info c k w e number fault octet own room first =
      let f = record e { next = c.number; expects = c.expected } in
      open_info c k w (untold_end c e) (Perhaps (Ready number fault) octet) own room first
      (λ due e1 course is. let d = due_free f (Ready number fault) octet due tt course in (
        record f { pending = d.pending },
        true,
        room,
        first,
        (λ yes. refl),
        ap (λ (x : End). record x { tries = most_repeats })
            (info_out (record f { pending = d.pending }) due.owed w.last.items c.number (goes_on_of k) (last_of k) e1
            d.owed refl
            (subst (λ (x : End). sends x due.owed w.last.items (Info c.number (goes_on_of k)) (last_of k) ≡ Ok e1) d.is
            is)),
      ))

  -- ---- what stays known after one more silence

  pub info_stays : (c : CardState) (e : End) (pcb : Pcb) (octet : ℕ) → IsAfterQuiet pcb
      → IsBeforeInfo c.number c.expected e → IsBeforeInfo c.number c.expected (overlooked e (Perhaps pcb octet))
  info_stays c e pcb octet quiet_now (before_asking h q) =
      let k = core_overlooked e (Perhaps pcb octet) h in
      before_asking (k.0 ∙ h) (ap is_waiting k.1 ∙ q)
  info_stays c e pcb octet quiet_now (before_free h q x n p a) =
      let k = core_overlooked e (Perhaps pcb octet) h in
      let same_end = overlooked_same e pcb octet quiet_now h in
      before_free (k.0 ∙ h) (k.1 ∙ q) (ap (λ (m : Number). same c.expected m) k.4 ∙ x) (k.3 ∙ n)
      (ap is_chain same_end.0 ∙ p) (same_end.1 ∙ a)
    where
      sized_same : (e : End) (pcb : Pcb) (octet : ℕ) → IsAfterQuiet pcb
          → ((sized_by e pcb octet).pending ≡ e.pending) × ((sized_by e pcb octet).aborted ≡ e.aborted)
      sized_same e (Info number goes_on) octet h = absurd h
      sized_same e (Ready number fault) octet h = (refl, refl)
      sized_same e (Request Resynch) octet h = (refl, refl)
      sized_same e (Request Ifs) octet h = (refl, refl)
      sized_same e (Request Abort) octet h = (refl, refl)
      sized_same e (Request Wtx) octet h = (refl, refl)
      sized_same e (Response s) octet h = absurd h

      overlooked_same : (e : End) (pcb : Pcb) (octet : ℕ) → IsAfterQuiet pcb → e.known ≡ true
          → ((overlooked e (Perhaps pcb octet)).pending ≡ e.pending)
          × ((overlooked e (Perhaps pcb octet)).aborted ≡ e.aborted)
      overlooked_same e pcb octet quiet_now h =
          subst (λ (x : End). (x.pending ≡ e.pending) × (x.aborted ≡ e.aborted))
          (sym (is_then e.known (sized e (Perhaps pcb octet)) (presumed e (Perhaps pcb octet)) h))
          (sized_same e pcb octet quiet_now)

  pub request_stays : (c : CardState) (e : End) (pcb : Pcb) (octet : ℕ) → IsAfterQuiet pcb
      → IsBeforeRequest c.number c.expected e → IsBeforeRequest c.number c.expected (overlooked e (Perhaps pcb octet))
  request_stays c e pcb octet quiet_now (request_unknown h) =
      request_unknown (overlooked_unknown e (Perhaps pcb octet) h)
  request_stays c e pcb octet quiet_now (request_free h q p a) = go (info_stays
      (record c { number = e.next; expected = other e.expects }) e pcb octet quiet_now
      (before_free h q (differs_other e.expects) refl p a))
    where
      differs_other : (x : Number) → same (other x) x ≡ false
      differs_other Zero = refl
      differs_other One = refl

      go : IsBeforeInfo e.next (other e.expects) (overlooked e (Perhaps pcb octet))
          → IsBeforeRequest c.number c.expected (overlooked e (Perhaps pcb octet))
      go (before_asking h2 q2) = absurd (true≢false
          (sym q2 ∙ ap is_waiting ((core_overlooked e (Perhaps pcb octet) h).1 ∙ q)))
      go (before_free h2 q2 x2 n2 p2 a2) = request_free h2 q2 p2 a2
  request_stays c e pcb octet quiet_now (request_asked asked h q kind) =
      let k = core_overlooked e (Perhaps pcb octet) h in
      request_asked asked (k.0 ∙ h) (k.1 ∙ q) (go k kind)
    where
      go : Core e (overlooked e (Perhaps pcb octet)) → (e.before ≡ AnyBlock) ⊎ IsExact c.number c.expected e
          → ((overlooked e (Perhaps pcb octet)).before ≡ AnyBlock)
          ⊎ IsExact c.number c.expected (overlooked e (Perhaps pcb octet))
      go k (inl any) = inl (k.2 ∙ any)
      go k (inr (b, n, x)) = inr (k.2 ∙ b, k.3 ∙ n, k.4 ∙ x)

  pub behind_stays : (c : CardState) (e : End) (pcb : Pcb) (octet : ℕ) → IsBehind c.expected e
      → IsBehind c.expected (overlooked e (Perhaps pcb octet))
  behind_stays c e pcb octet (behind_unknown h) = behind_unknown (overlooked_unknown e (Perhaps pcb octet) h)
  behind_stays c e pcb octet (behind_asking h q) =
      let k = core_overlooked e (Perhaps pcb octet) h in behind_asking (k.0 ∙ h) (ap is_waiting k.1 ∙ q)
  behind_stays c e pcb octet (behind_free h q x) =
      let k = core_overlooked e (Perhaps pcb octet) h in
      behind_free (k.0 ∙ h) (k.1 ∙ q) (ap (λ (m : Number). same c.expected m) k.4 ∙ x)

  -- ---- its own I-block was never seen

  untold_sizes : (c : CardState) (e : End) (heard : Heard) → c.ifsd ≤ e.room → first_ifsd ≤ e.first_room
      → HasSizes c.ifsd first_ifsd (overlooked (untold_end c e) heard)
  untold_sizes c e heard room first = sizes_overlooked c.ifsd first_ifsd (untold_end c e) heard
      (record { side = refl; room = room; first = first })

  untold_stale : (c : CardState) (w : Watched) (e : End) (heard : Heard) → IsOwnWaits c.saved c.waits → Q c.number
      → c.ifsd ≤ e.room → first_ifsd ≤ e.first_room
      → StaleAny Q R T c (silent (plain_of (open_end w (untold_end c e) heard)))
  untold_stale c w e heard own lags room first =
      let k = core_overlooked (untold_end c e) heard refl in
      stale_known (is_untold own (untold_sizes c e heard room first) k.0 k.1 k.3 k.4 lags)

  untold_errs : (c : CardState) (w : Watched) (e : End) (pcb : Pcb) (octet : ℕ) (fault : Fault) → IsAfterQuiet pcb
      → IsOwnWaits c.saved c.waits → Q c.number → c.ifsd ≤ e.room → first_ifsd ≤ e.first_room
      → Leaves Q R T (open_end w (untold_end c e) (Perhaps pcb octet)) (Ok (Send (ready c.expected fault), c))
  untold_errs c w e pcb octet fault quiet_now own lags room first = (
    untold_ready c w e pcb octet fault quiet_now own lags room first,
    tt,
    talk_awaits c.waits (own_is_talk c.saved c.waits own),
    λ later anew. untold_stale c w e (Perhaps pcb octet) own lags room first,
  )

  untold_again : (c : CardState) (k : Kind) (w : Watched) (e : End) (number : Number) (fault : Fault) (octet : ℕ)
      → IsOwn k
      → Q c.number → c.ifsd ≤ e.room → first_ifsd ≤ e.first_room
      → Leaves Q R T (open_end w (untold_end c e) (Perhaps (Ready number fault) octet))
      (Ok (Send (info c.number (goes_on_of k) (last_of k)), at k c))
  untold_again c (listens joined last) w e number fault octet own lags room first = absurd own
  untold_again c (ended joined field) w e number fault octet own lags room first = (
    untold_info c (ended joined field) w e number fault octet tt room first,
    tt,
    tt,
    λ later anew. untold_stale (at (ended joined field) c) w e (Perhaps (Ready number fault) octet) tt lags room first,
  )
  untold_again c (chain field rest) w e number fault octet own lags room first = (
    untold_info c (chain field rest) w e number fault octet tt room first,
    tt,
    tt,
    λ later anew. untold_stale (at (chain field rest) c) w e (Perhaps (Ready number fault) octet) tt lags room first,
  )

  untold_side : (c : CardState) (e : End) → untold_end c e ≡ record (untold_end c e) { side = Card }
  untold_side c e = refl

  untold_reply : (c : CardState) (field rest : List ℕ) (w : Watched) (e : End) (sent : Pcb) (octet : ℕ) (came : Came)
      → IsAfterQuiet sent → AsksOwn c.number came → Q c.number → c.ifsd ≤ e.room → first_ifsd ≤ e.first_room
      → Leaves Q R T (open_end w (untold_end c e) (tap_heard sent octet came))
      (card_came (record c { waits = reply field rest }) (reply field rest) came)
  untold_reply c field rest w e sent octet (got (Info number goes_on) inf) quiet_now h lags room first = absurd h
  untold_reply c field rest w e sent octet (got (Ready number fault) inf) quiet_now h lags room first =
      with_test (Leaves Q R T (open_end w (untold_end c e) (Perhaps (Ready number fault) (carried inf))))
      (same number c.number) _ _
      (λ k. untold_again c (chain field rest) w e number fault (carried inf) tt lags room first)
      (λ k. absurd (true≢false (sym h ∙ k)))
  untold_reply c field rest w e sent octet (got (Request Resynch) inf) quiet_now h lags room first =
      anew_says Q R T (record c { waits = reply field rest }) (open_end w (untold_end c e) Broken) (untold_end c e)
      (carried inf) refl first
  untold_reply c field rest w e sent octet (got (Request Ifs) inf) quiet_now h lags room first = absurd h
  untold_reply c field rest w e sent octet (got (Request Abort) inf) quiet_now h lags room first = absurd h
  untold_reply c field rest w e sent octet (got (Request Wtx) inf) quiet_now h lags room first = absurd h
  untold_reply c field rest w e sent octet (got (Response s) inf) quiet_now h lags room first = absurd h
  untold_reply c field rest w e sent octet damaged quiet_now h lags room first =
      untold_errs (record c { waits = reply field rest }) w e sent octet Redundancy quiet_now tt lags room first
  untold_reply c field rest w e sent octet invalid quiet_now h lags room first =
      untold_errs (record c { waits = reply field rest }) w e sent octet Other quiet_now tt lags room first
  untold_reply c field rest w e sent octet quiet quiet_now h lags room first = absurd h

  untold_ended : (c : CardState) (joined field : List ℕ) (w : Watched) (e : End) (sent : Pcb) (octet : ℕ) (came : Came)
      → IsAfterQuiet sent → AsksOwn c.number came → Q c.number → c.ifsd ≤ e.room → first_ifsd ≤ e.first_room
      → Leaves Q R T (open_end w (untold_end c e) (tap_heard sent octet came))
      (card_came (record c { saved = Some field; waits = command joined }) (command joined) came)
  untold_ended c joined field w e sent octet (got (Info number goes_on) inf) quiet_now h lags room first = absurd h
  untold_ended c joined field w e sent octet (got (Ready number fault) inf) quiet_now h lags room first =
      subst (λ (b : Bool). Leaves Q R T (open_end w (untold_end c e) (Perhaps (Ready number fault) (carried inf)))
      (sends_saved (record c { saved = Some field; waits = command joined }) (Some field) b)) (sym h)
      (untold_again c (ended joined field) w e number fault (carried inf) tt lags room first)
  untold_ended c joined field w e sent octet (got (Request Resynch) inf) quiet_now h lags room first =
      anew_says Q R T (record c { saved = Some field; waits = command joined }) (open_end w (untold_end c e) Broken)
      (untold_end c e) (carried inf) refl first
  untold_ended c joined field w e sent octet (got (Request Ifs) inf) quiet_now h lags room first = absurd h
  untold_ended c joined field w e sent octet (got (Request Abort) inf) quiet_now h lags room first = absurd h
  untold_ended c joined field w e sent octet (got (Request Wtx) inf) quiet_now h lags room first = absurd h
  untold_ended c joined field w e sent octet (got (Response s) inf) quiet_now h lags room first = absurd h
  untold_ended c joined field w e sent octet damaged quiet_now h lags room first =
      untold_errs (record c { saved = Some field; waits = command joined }) w e sent octet Redundancy quiet_now tt lags
      room first
  untold_ended c joined field w e sent octet invalid quiet_now h lags room first =
      untold_errs (record c { saved = Some field; waits = command joined }) w e sent octet Other quiet_now tt lags
      room first
  untold_ended c joined field w e sent octet quiet quiet_now h lags room first = absurd h

  pub untold_own : (waits : Waits) (saved : Option (List ℕ)) (c : CardState) (w : Watched) (e : End) (sent : Pcb)
      (octet : ℕ)
      (came : Came)
      → IsOwnWaits saved waits → IsAfterQuiet sent → AsksOwn c.number came → Q c.number → c.ifsd ≤ e.room
      → first_ifsd ≤ e.first_room
      → Leaves Q R T (open_end w (untold_end c e) (tap_heard sent octet came))
      (card_came (record c { saved = saved; waits = waits }) waits came)
  untold_own (command joined) None c w e sent octet came own quiet_now h lags room first = absurd own
  untold_own (command joined) (Some field) c w e sent octet came own quiet_now h lags room first =
      untold_ended c joined field w e sent octet came quiet_now h lags room first
  untold_own host saved c w e sent octet came own quiet_now h lags room first = absurd own
  untold_own (reply field rest) saved c w e sent octet came own quiet_now h lags room first =
      untold_reply (record c { saved = saved }) field rest w e sent octet came quiet_now h lags room first
  untold_own (asking asked) saved c w e sent octet came own quiet_now h lags room first = absurd own

  -- ---- the first I-block of a reply was never seen

  info_none : (c : CardState) (f : End) (pcb : Pcb) (octet : ℕ) (last : List ℕ) (goes_on : Bool) (inf : List ℕ)
      → IsAfterQuiet pcb → f.side ≡ Card → IsBeforeInfo c.number c.expected f
      → (due : After) (e1 : End) → Course (record f { side = Card }) (Perhaps pcb octet) due
      → sends due.«end» due.owed last (Info c.number goes_on) inf ≡ Ok e1 → ⊥
  info_none c f pcb octet last goes_on inf quiet_now side (before_asking h q) due e1 course is =
      let (a, shape) = asked_as (record f { side = Card }) refl h q in
      asked_info f a due last c.number goes_on inf e1
      (due_asked f a pcb octet due quiet_now (subst (λ (x : End). Course x (Perhaps pcb octet) due) shape course)) is
  info_none c f pcb octet last goes_on inf quiet_now side (before_free h q x n p a) due e1 course is =
      let shape = free_sided (record f { side = Card }) refl h q in
      let d = due_none f pcb octet due quiet_now p a
      (subst (λ (x : End). Course x (Perhaps pcb octet) due) shape course) in
      none_info f due.owed last c.number goes_on inf e1 n d.owed
      (subst (λ (x : End). sends x due.owed last (Info c.number goes_on) inf ≡ Ok e1) d.is is)

  pub ready_none_free : (f : End) (expected : Number) (pcb : Pcb) (octet : ℕ) (last : List ℕ) (fault : Fault)
      → IsAfterQuiet pcb → f.known ≡ true → f.asked ≡ None → same expected f.expects ≡ false
      → (due : After) (e1 : End) → Course (record f { side = Card }) (Perhaps pcb octet) due
      → sends due.«end» due.owed last (Ready expected fault) [] ≡ Ok e1 → ⊥
  ready_none_free f expected pcb octet last fault quiet_now h q x due e1 course is =
      let shape = free_sided (record f { side = Card }) refl h q in
      let d = due_free f pcb octet due quiet_now (subst (λ (y : End). Course y (Perhaps pcb octet) due) shape course) in
      let out = ready_out (record f { pending = d.pending }) due.owed last expected fault e1 d.owed
      (subst (λ (y : End). sends y due.owed last (Ready expected fault) [] ≡ Ok e1) d.is is) in
      true≢false (sym out.same_one ∙ x)

  pub ready_none_asked : (f : End) (expected : Number) (pcb : Pcb) (octet : ℕ) (last : List ℕ) (fault : Fault)
      → IsAfterQuiet pcb → f.known ≡ true → is_waiting f.asked ≡ true
      → (due : After) (e1 : End) → Course (record f { side = Card }) (Perhaps pcb octet) due
      → sends due.«end» due.owed last (Ready expected fault) [] ≡ Ok e1 → ⊥
  ready_none_asked f expected pcb octet last fault quiet_now h q due e1 course is =
      let (a, shape) = asked_as (record f { side = Card }) refl h q in
      asked_ready f a due last expected fault e1
      (due_asked f a pcb octet due quiet_now (subst (λ (x : End). Course x (Perhaps pcb octet) due) shape course)) is

  info_ready : (c : CardState) (f : End) (pcb : Pcb) (octet : ℕ) (last : List ℕ) (fault : Fault)
      → IsAfterQuiet pcb → IsBeforeInfo c.number c.expected f
      → (due : After) (e1 : End) → Course (record f { side = Card }) (Perhaps pcb octet) due
      → sends due.«end» due.owed last (Ready c.expected fault) [] ≡ Ok e1 → ⊥
  info_ready c f pcb octet last fault quiet_now (before_asking h q) =
      ready_none_asked f c.expected pcb octet last fault quiet_now h q
  info_ready c f pcb octet last fault quiet_now (before_free h q x n p a) =
      ready_none_free f c.expected pcb octet last fault quiet_now h q x

  info_stale : (c : CardState) (w : Watched) (f : End) (pcb : Pcb) (octet : ℕ) → IsAfterQuiet pcb
      → IsOwnWaits c.saved c.waits → Q c.number → HasSizes c.ifsd first_ifsd f → IsBeforeInfo c.number c.expected f
      → StaleAny Q R T c (silent (plain_of (open_end w f (Perhaps pcb octet))))
  info_stale c w f pcb octet quiet_now own lags sizes before =
      stale_known (owes_info own (sizes_overlooked c.ifsd first_ifsd f (Perhaps pcb octet) sizes) lags
      (info_stays c f pcb octet quiet_now before))

  info_errs : (c : CardState) (w : Watched) (f : End) (pcb : Pcb) (octet : ℕ) (fault : Fault) → IsAfterQuiet pcb
      → IsOwnWaits c.saved c.waits → Q c.number → HasSizes c.ifsd first_ifsd f → IsBeforeInfo c.number c.expected f
      → Leaves Q R T (open_end w f (Perhaps pcb octet)) (Ok (Send (ready c.expected fault), c))
  info_errs c w f pcb octet fault quiet_now own lags sizes before = (
    subst (λ (x : End). Tells Q R c (open_end w x (Perhaps pcb octet)) (ready c.expected fault))
        (sym (sided f sizes.side))
        (openly_ready c w f (Perhaps pcb octet) fault (own_is_talk c.saved c.waits own) sizes.room sizes.first
        (info_ready c f pcb octet w.last.items fault quiet_now before)),
    tt,
    talk_awaits c.waits (own_is_talk c.saved c.waits own),
    λ later anew. info_stale c w f pcb octet quiet_now own lags sizes before,
  )

  info_tells : (c : CardState) (k : Kind) (w : Watched) (f : End) (number : Number) (fault : Fault) (octet : ℕ)
      → IsOwn k
      → HasSizes c.ifsd first_ifsd f → IsBeforeInfo c.number c.expected f
      → Tells Q R (at k c) (open_end w f (Perhaps (Ready number fault) octet))
      (info c.number (goes_on_of k) (last_of k))
  info_tells c k w f number fault octet own sizes before =
      subst (λ (x : End). Tells Q R (at k c) (open_end w x (Perhaps (Ready number fault) octet))
      (info c.number (goes_on_of k) (last_of k))) (sym (sided f sizes.side))
      (open_info c k w f (Perhaps (Ready number fault) octet) own sizes.room sizes.first
      (λ due e1 course is. absurd (info_none c f (Ready number fault) octet w.last.items (goes_on_of k) (last_of k) tt
      sizes.side before due e1 course is)))

  info_again : (c : CardState) (k : Kind) (w : Watched) (f : End) (number : Number) (fault : Fault) (octet : ℕ)
      → IsOwn k
      → Q c.number → HasSizes c.ifsd first_ifsd f → IsBeforeInfo c.number c.expected f
      → Leaves Q R T (open_end w f (Perhaps (Ready number fault) octet))
      (Ok (Send (info c.number (goes_on_of k) (last_of k)), at k c))
  info_again c (listens joined last) w f number fault octet own lags sizes before = absurd own
  info_again c (ended joined field) w f number fault octet own lags sizes before = (
    info_tells c (ended joined field) w f number fault octet tt sizes before,
    tt,
    tt,
    λ later anew. info_stale (at (ended joined field) c) w f (Ready number fault) octet tt tt lags sizes before,
  )
  info_again c (chain field rest) w f number fault octet own lags sizes before = (
    info_tells c (chain field rest) w f number fault octet tt sizes before,
    tt,
    tt,
    λ later anew. info_stale (at (chain field rest) c) w f (Ready number fault) octet tt tt lags sizes before,
  )

  pub info_own : (waits : Waits) (saved : Option (List ℕ)) (c : CardState) (w : Watched) (f : End) (sent : Pcb)
      (octet : ℕ)
      (came : Came)
      → IsOwnWaits saved waits → IsAfterQuiet sent → AsksOwn c.number came → Q c.number
      → HasSizes c.ifsd first_ifsd f → IsBeforeInfo c.number c.expected f
      → Leaves Q R T (open_end w f (tap_heard sent octet came))
      (card_came (record c { saved = saved; waits = waits }) waits came)
  info_own host saved c w f sent octet came own quiet_now h lags sizes before = absurd own
  info_own (asking asked) saved c w f sent octet came own quiet_now h lags sizes before = absurd own
  info_own (command joined) None c w f sent octet came own quiet_now h lags sizes before = absurd own
  info_own (command joined) (Some field) c w f sent octet (got (Info number goes_on) inf) own quiet_now h lags sizes
      before =
      absurd h
  info_own (command joined) (Some field) c w f sent octet (got (Ready number fault) inf) own quiet_now h lags sizes
      before =
      subst (λ (b : Bool). Leaves Q R T (open_end w f (Perhaps (Ready number fault) (carried inf)))
      (sends_saved (record c { saved = Some field; waits = command joined }) (Some field) b)) (sym h)
      (info_again c (ended joined field) w f number fault (carried inf) tt lags sizes before)
  info_own (command joined) (Some field) c w f sent octet (got (Request Resynch) inf) own quiet_now h lags sizes before
      =
      anew_says Q R T (record c { saved = Some field; waits = command joined }) (open_end w f Broken) f (carried inf)
      (sided f sizes.side) sizes.first
  info_own (command joined) (Some field) c w f sent octet (got (Request Ifs) inf) own quiet_now h lags sizes before =
      absurd h
  info_own (command joined) (Some field) c w f sent octet (got (Request Abort) inf) own quiet_now h lags sizes before =
      absurd h
  info_own (command joined) (Some field) c w f sent octet (got (Request Wtx) inf) own quiet_now h lags sizes before =
      absurd h
  info_own (command joined) (Some field) c w f sent octet (got (Response s) inf) own quiet_now h lags sizes before =
      absurd h
  info_own (command joined) (Some field) c w f sent octet damaged own quiet_now h lags sizes before =
      info_errs (record c { saved = Some field; waits = command joined }) w f sent octet Redundancy quiet_now tt lags
      sizes
      before
  info_own (command joined) (Some field) c w f sent octet invalid own quiet_now h lags sizes before =
      info_errs (record c { saved = Some field; waits = command joined }) w f sent octet Other quiet_now tt lags sizes
      before
  info_own (command joined) (Some field) c w f sent octet quiet own quiet_now h lags sizes before = absurd h
  info_own (reply field rest) saved c w f sent octet (got (Info number goes_on) inf) own quiet_now h lags sizes before =
      absurd h
  info_own (reply field rest) saved c w f sent octet (got (Ready number fault) inf) own quiet_now h lags sizes before =
      with_test (Leaves Q R T (open_end w f (Perhaps (Ready number fault) (carried inf)))) (same number c.number) _ _
      (λ k. info_again (record c { saved = saved }) (chain field rest) w f number fault (carried inf) tt lags sizes
      before)
      (λ k. absurd (true≢false (sym h ∙ k)))
  info_own (reply field rest) saved c w f sent octet (got (Request Resynch) inf) own quiet_now h lags sizes before =
      anew_says Q R T (record c { saved = saved; waits = reply field rest }) (open_end w f Broken) f (carried inf)
      (sided f sizes.side) sizes.first
  info_own (reply field rest) saved c w f sent octet (got (Request Ifs) inf) own quiet_now h lags sizes before =
      absurd h
  info_own (reply field rest) saved c w f sent octet (got (Request Abort) inf) own quiet_now h lags sizes before =
      absurd h
  info_own (reply field rest) saved c w f sent octet (got (Request Wtx) inf) own quiet_now h lags sizes before =
      absurd h
  info_own (reply field rest) saved c w f sent octet (got (Response s) inf) own quiet_now h lags sizes before = absurd h
  info_own (reply field rest) saved c w f sent octet damaged own quiet_now h lags sizes before =
      info_errs (record c { saved = saved; waits = reply field rest }) w f sent octet Redundancy quiet_now tt lags sizes
      before
  info_own (reply field rest) saved c w f sent octet invalid own quiet_now h lags sizes before =
      info_errs (record c { saved = saved; waits = reply field rest }) w f sent octet Other quiet_now tt lags sizes
      before
  info_own (reply field rest) saved c w f sent octet quiet own quiet_now h lags sizes before = absurd h
