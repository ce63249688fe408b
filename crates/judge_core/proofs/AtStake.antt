-- What a block breaks was at stake.
use Rattle.std.proofs.Common.{◌≡◌, ◌≤◌, ◌&&◌, ◌||◌, ◌==◌, not, nat_le, nat_lt, ℕ, List, [], ◌∷◌, length, refl, ap, arith, if◌then◌else◌}
use Rattle.std.proofs.lemmas.Bool.Decides.{nat_tests}
use Rattle.std.specs.Prelude.{Bool, true, false, Option, Some, None, Ok, Err}
use Rattle.block_core.specs.Block.{Suits}
use Rattle.block_core.specs.declared.pcb.Number.{Number}
use Rattle.block_core.specs.declared.pcb.Fault.{Fault}
use Rattle.block_core.specs.declared.pcb.Fault.TheVariants.{Free, Redundancy, Other}
use Rattle.block_core.specs.declared.pcb.S.{S}
use Rattle.block_core.specs.declared.pcb.S.TheVariants.{Resynch, Ifs, Abort, Wtx}
use Rattle.block_core.specs.declared.pcb.Pcb.{Pcb}
use Rattle.block_core.specs.declared.pcb.Pcb.TheVariants.{Info, Ready, Request, Response}
use Rattle.t1_core.specs.Came.{same, carried}
use Rattle.t1_core.specs.Terminal.{most_repeats}
use Rattle.block_core.specs.declared.side.Side.{Side}
use Rattle.block_core.specs.declared.side.Side.TheVariants.{Terminal, Card}
use Rattle.judge_core.specs.declared.end.Pending.{Pending}
use Rattle.judge_core.specs.declared.end.Pending.TheVariants.{Settled, Chain, Last}
use Rattle.judge_core.specs.declared.end.Asked.{Asked}
use Rattle.judge_core.specs.declared.end.Asked.TheVariants.{Size, Time, Stop as Aborting, Anew}
use Rattle.judge_core.specs.declared.end.Owed.{Owed}
use Rattle.judge_core.specs.declared.end.Owed.TheVariants.{NewMessage, NextBlock, Acknowledgment, SameBlock, Correction, Refusal, SameRequest, Answer, EitherBlock, MessageOrCorrection, MessageOrRefusal, AcknowledgmentOrRefusal, AnyBlock}
use Rattle.judge_core.specs.declared.end.Row.{Row}
use Rattle.judge_core.specs.declared.end.End.{End}
use Rattle.judge_core.specs.declared.rule.Rule.{Rule}
use Rattle.judge_core.specs.declared.rule.Rule.TheVariants as rule
use Rattle.judge_core.specs.Ends.{repeatable}
use Rattle.judge_core.specs.Sends.{Sent, acknowledged, acknowledges, again_as, any_block, asked_again, asks, asks_again, begins_or_corrects, corrects, corrects_again, either, is_asked, is_between, is_foreign, is_pending, is_refusal, is_waiting, is_within, messages, most_asked, or_refuses, refuses, refuses_with, repeats, repeats_again, repeats_info, repeats_request, responds, resynchs, resynchs_refusing, same_subject, sends, sends_info, sends_owed, sends_ready}
use Rattle.std.specs.Prelude.{bytes_eq}
use Rattle.judge_core.specs.Stakes.{acknowledgment_breaks, any_breaks, asked_so_often, begun_or_corrected_breaks, can_break, carries, correction_breaks, either_breaks, is_asked_out, is_corrected_out, is_early, is_early_alone, is_repeated_out, is_terminal, is_unsettled, message_breaks, or_refusal_breaks, owed_breaks, refusal_breaks, repeat_breaks, request_breaks, response_breaks, takes_less}

-- ---- tests

pub both : (a b : Bool) → a ≡ true → b ≡ true → a && b ≡ true
both a b h g = rw (h, g)

pub first : (a b : Bool) → a && b ≡ true → a ≡ true
first true b h = refl
first false b h = cc h

pub second : (a b : Bool) → a && b ≡ true → b ≡ true
second true b h = h
second false b h = cc h

in-left : (a b : Bool) → a ≡ true → a || b ≡ true
in-left true b h = refl
in-left false b h = cc h

pub in-right : (a b : Bool) → b ≡ true → a || b ≡ true
in-right true b h = refl
in-right false b h = h

-- ---- what a block does is permitted, or breaks a rule that it can break

abbrev pub IsKnown : (Rule → Bool) → Sent → Type 0
IsKnown breaks (Ok e) = Unit {0}
IsKnown breaks (Err r) = breaks r ≡ true

on-test : (breaks : Rule → Bool) (b : Bool) (x y : Sent) → (b ≡ true → IsKnown breaks x)
    → (b ≡ false → IsKnown breaks y) → IsKnown breaks (if b then x else y)
on-test breaks true x y h g = h refl
on-test breaks false x y h g = g refl

-- ---- what may be repeated

again-known : (breaks : Rule → Bool) (side : Side) (e : End) (count : ℕ) (row : Row)
    → (is_terminal side && not (nat_lt count most_repeats) ≡ true → breaks rule.TooManyRepeats ≡ true)
    → IsKnown breaks (again_as side e count row)
again-known breaks Terminal e count row h =
    on-test breaks (nat_lt count most_repeats) (Ok _) (Err rule.TooManyRepeats) (λ _. tt) (λ no. h (ap not no))
again-known breaks Card e count row h = tt

ready-known : (breaks : Rule → Bool) (e : End) (number : Number) → breaks rule.SequenceNumber ≡ true
    → (is_corrected_out e ≡ true → breaks rule.TooManyRepeats ≡ true) → IsKnown breaks (sends_ready e number)
ready-known breaks e number h g =
    on-test breaks (same number e.expects) (corrects_again e) (Err rule.SequenceNumber)
    (λ _. again-known breaks e.side e e.row.corrections _ g) (λ _. h)

less-room : (n room : ℕ) → n ≤ 254 → nat_le n room ≡ false → nat_lt room 254 ≡ true
less-room n room h g = grind (arith, nat_tests)

info-known : (breaks : Rule → Bool) (e : End) (number : Number) (more : Bool) (inf : List ℕ) → length inf ≤ 254
    → breaks rule.SequenceNumber ≡ true → (takes_less e.room ≡ true → breaks rule.FieldSize ≡ true)
    → IsKnown breaks (sends_info e number more inf)
info-known breaks e number more inf short h g =
    on-test breaks (same number e.next) (if nat_le (length inf) e.room then Ok _ else Err rule.FieldSize)
    (Err rule.SequenceNumber)
    (λ _. on-test breaks (nat_le (length inf) e.room) (Ok _) (Err rule.FieldSize) (λ _. tt)
    (λ no. g (less-room (length inf) e.room short no)))
    (λ _. h)

acknowledged-known : (breaks : Rule → Bool) (e : End) (number : Number) (fault : Fault)
    → breaks rule.SequenceNumber ≡ true → breaks rule.ErrorCode ≡ true → IsKnown breaks (acknowledged e number fault)
acknowledged-known breaks e number Free h g =
    on-test breaks (same number e.expects) (Ok _) (Err rule.SequenceNumber) (λ _. tt) (λ _. h)
acknowledged-known breaks e number Redundancy h g = g
acknowledged-known breaks e number Other h g = g

-- ---- requests

resynch-of-terminal : (side : Side) → is_foreign side (Request Resynch) ≡ false → is_terminal side ≡ true
resynch-of-terminal Terminal h = refl
resynch-of-terminal Card h = cc h

time-of-card : (side : Side) → is_foreign side (Request Wtx) ≡ false → is_terminal side ≡ true → ⊥
time-of-card Terminal h g = cc h
time-of-card Card h g = cc g

asks-known : (breaks : Rule → Bool) (e : End) (owed : Owed) (s : S) (n : ℕ) → is_foreign e.side (Request s) ≡ false
    → (is_terminal e.side && not (is_between owed) ≡ true → breaks rule.EarlyResynch ≡ true)
    → (not (is_within owed) ≡ true → breaks rule.NoChain ≡ true) → IsKnown breaks (asks e owed s n)
asks-known breaks e owed Resynch n own h g =
    on-test breaks (is_between owed) (Ok _) (Err rule.EarlyResynch) (λ _. tt)
    (λ no. h (both (is_terminal e.side) (not (is_between owed)) (resynch-of-terminal e.side own) (ap not no)))
asks-known breaks e owed Ifs n own h g = tt
asks-known breaks e owed Abort n own h g =
    on-test breaks (is_within owed) (Ok _) (Err rule.NoChain) (λ _. tt) (λ no. g (ap not no))
asks-known breaks e owed Wtx n own h g = tt

resynchs-known : (breaks : Rule → Bool) (e : End) (s : S) (broken : Rule) → breaks broken ≡ true
    → IsKnown breaks (resynchs e s broken)
resynchs-known breaks e Resynch broken h = tt
resynchs-known breaks e Ifs broken h = h
resynchs-known breaks e Abort broken h = h
resynchs-known breaks e Wtx broken h = h

resynchs_refusing-known : (breaks : Rule → Bool) (e : End) (s : S) (broken : Rule)
    → is_foreign e.side (Request s) ≡ false → breaks broken ≡ true
    → (is_early e ≡ true → breaks rule.EarlyResynch ≡ true) → IsKnown breaks (resynchs_refusing e s broken)
resynchs_refusing-known breaks e Resynch broken own h g =
    on-test breaks (nat_le most_repeats e.tries) (Ok _) (Err rule.EarlyResynch) (λ _. tt)
    (λ no. g (both (is_terminal e.side) (not (nat_le most_repeats e.tries)) (resynch-of-terminal e.side own)
    (ap not no)))
resynchs_refusing-known breaks e Ifs broken own h g = h
resynchs_refusing-known breaks e Abort broken own h g = h
resynchs_refusing-known breaks e Wtx broken own h g = h

asked_again-known : (breaks : Rule → Bool) (side : Side) (e : End) (s : S) (octet : ℕ)
    → (is_terminal side && not (nat_lt e.tries (most_asked s)) ≡ true → breaks rule.TooManyRepeats ≡ true)
    → IsKnown breaks (asked_again side e s octet)
asked_again-known breaks Terminal e s octet h =
    on-test breaks (nat_lt e.tries (most_asked s)) (Ok _) (Err rule.TooManyRepeats) (λ _. tt) (λ no. h (ap not no))
asked_again-known breaks Card e s octet h = tt

asked-out : (e : End) (asked : Option Asked) (s : S) (octet : ℕ) → is_foreign e.side (Request s) ≡ false
    → is_asked asked s octet ≡ true → asked_so_often e s ≡ true → is_asked_out e asked ≡ true
asked-out e None s octet own is out = cc is
asked-out e (Some (Size n)) Resynch octet own is out = cc is
asked-out e (Some (Size n)) Ifs octet own is out = out
asked-out e (Some (Size n)) Abort octet own is out = cc
asked-out e (Some (Size n)) Wtx octet own is out = cc
asked-out e (Some (Time n)) Resynch octet own is out = cc is
asked-out e (Some (Time n)) Ifs octet own is out = cc is
asked-out e (Some (Time n)) Abort octet own is out = cc is
asked-out e (Some (Time n)) Wtx octet own is out =
    absurd (time-of-card e.side own (first (is_terminal e.side) _ out))
asked-out e (Some Aborting) Resynch octet own is out = cc is
asked-out e (Some Aborting) Ifs octet own is out = cc
asked-out e (Some Aborting) Abort octet own is out = out
asked-out e (Some Aborting) Wtx octet own is out = cc
asked-out e (Some Anew) Resynch octet own is out = out
asked-out e (Some Anew) Ifs octet own is out = cc is
asked-out e (Some Anew) Abort octet own is out = cc is
asked-out e (Some Anew) Wtx octet own is out = cc is

repeats_request-known : (breaks : Rule → Bool) (e : End) (s : S) (octet : ℕ) (broken : Rule)
    → is_foreign e.side (Request s) ≡ false → breaks broken ≡ true
    → (is_asked_out e e.asked ≡ true → breaks rule.TooManyRepeats ≡ true)
    → (is_early_alone e ≡ true → breaks rule.EarlyResynch ≡ true) → IsKnown breaks (repeats_request e s octet broken)
repeats_request-known breaks e s octet broken own h out early =
    on-test breaks (is_asked e.asked s octet) (asked_again e.side e s octet)
    (if is_waiting e.asked then resynchs e s broken else resynchs_refusing e s broken)
    (λ is. asked_again-known breaks e.side e s octet (λ often. out (asked-out e e.asked s octet own is often)))
    (λ _. on-test breaks (is_waiting e.asked) (resynchs e s broken) (resynchs_refusing e s broken)
    (λ _. resynchs-known breaks e s broken h)
    (λ no. resynchs_refusing-known breaks e s broken own h
    (λ soon. early (both (is_early e) (not (is_waiting e.asked)) soon (ap not no)))))

-- ---- what is owed

messages-known : (e : End) (owed : Owed) (pcb : Pcb) (inf : List ℕ) → Suits 254 pcb inf → is_foreign e.side pcb ≡ false
    → IsKnown (message_breaks e owed) (messages e owed pcb inf)
messages-known e owed (Info number more) inf suits own =
    info-known (message_breaks e owed) e number more inf suits refl (λ h. h)
messages-known e owed (Ready number fault) inf suits own = refl
messages-known e owed (Request s) inf suits own =
    asks-known (message_breaks e owed) e owed s (carried inf) own (λ h. h) (λ h. h)
messages-known e owed (Response s) inf suits own = refl

acknowledges-known : (e : End) (pcb : Pcb) (inf : List ℕ) → is_foreign e.side pcb ≡ false
    → IsKnown (acknowledgment_breaks e) (acknowledges e pcb inf)
acknowledges-known e (Info number more) inf own = refl
acknowledges-known e (Ready number fault) inf own =
    acknowledged-known (acknowledgment_breaks e) e number fault refl refl
acknowledges-known e (Request s) inf own =
    asks-known (acknowledgment_breaks e) e Acknowledgment s (carried inf) own (λ h. first (is_terminal e.side) _ h)
    (λ h. absurd (cc h))
acknowledges-known e (Response s) inf own = refl

pending-known : (pending : Pending) (more : Bool) → is_pending pending more ≡ true → is_unsettled pending ≡ true
pending-known Settled more h = cc h
pending-known Chain more h = refl
pending-known Last more h = refl

repeated-out : (e : End) (more : Bool) → is_pending e.pending more ≡ true
    → is_terminal e.side && not (nat_lt e.row.repeats most_repeats) ≡ true → is_repeated_out e ≡ true
repeated-out e more h g =
    both (is_terminal e.side) (not (nat_lt e.row.repeats most_repeats) && is_unsettled e.pending)
    (first (is_terminal e.side) _ g)
    (both (not (nat_lt e.row.repeats most_repeats)) (is_unsettled e.pending) (second (is_terminal e.side) _ g)
    (pending-known e.pending more h))

repeats_info-known : (e : End) (last : List ℕ) (number : Number) (more : Bool) (inf : List ℕ)
    → IsKnown (repeat_breaks e) (repeats_info e last number more inf)
repeats_info-known e last number more inf =
    on-test (repeat_breaks e) (same number e.next) (Err rule.SequenceNumber) _ (λ _. refl)
    (λ _. on-test (repeat_breaks e) (is_pending e.pending more)
    (if bytes_eq inf last then repeats_again e else Err rule.RepeatedOctets) (Err rule.RepeatedOctets)
    (λ is. on-test (repeat_breaks e) (bytes_eq inf last) (repeats_again e) (Err rule.RepeatedOctets)
    (λ _. again-known (repeat_breaks e) e.side e e.row.repeats _ (λ out. repeated-out e more is out))
    (λ _. refl))
    (λ _. refl))

repeats-known : (e : End) (last : List ℕ) (pcb : Pcb) (inf : List ℕ) → is_foreign e.side pcb ≡ false
    → IsKnown (repeat_breaks e) (repeats e last pcb inf)
repeats-known e last (Info number more) inf own = repeats_info-known e last number more inf
repeats-known e last (Ready number fault) inf own = refl
repeats-known e last (Request s) inf own = resynchs-known (repeat_breaks e) e s rule.RepeatDue refl
repeats-known e last (Response s) inf own = refl

corrects-known : (e : End) (pcb : Pcb) → is_foreign e.side pcb ≡ false → IsKnown (correction_breaks e) (corrects e pcb)
corrects-known e (Info number more) own = refl
corrects-known e (Ready number fault) own = ready-known (correction_breaks e) e number refl (λ h. h)
corrects-known e (Request s) own = resynchs-known (correction_breaks e) e s rule.CorrectionDue refl
corrects-known e (Response s) own = refl

refuses_with-known : (e : End) (number : Number) (fault : Fault)
    → IsKnown (refusal_breaks e) (refuses_with e number fault)
refuses_with-known e number Free = refl
refuses_with-known e number Redundancy = refl
refuses_with-known e number Other = ready-known (refusal_breaks e) e number refl (λ h. in-left (is_corrected_out e) _ h)

refuses-known : (e : End) (pcb : Pcb) (inf : List ℕ) → is_foreign e.side pcb ≡ false
    → IsKnown (refusal_breaks e) (refuses e pcb inf)
refuses-known e (Info number more) inf own = refl
refuses-known e (Ready number fault) inf own = refuses_with-known e number fault
refuses-known e (Request s) inf own =
    repeats_request-known (refusal_breaks e) e s (carried inf) rule.CorrectionDue own refl
    (λ h. in-right (is_corrected_out e) (is_asked_out e e.asked) h) (λ h. h)
refuses-known e (Response s) inf own = refl

asks_again-known : (e : End) (pcb : Pcb) (inf : List ℕ) → is_foreign e.side pcb ≡ false
    → IsKnown (request_breaks e) (asks_again e pcb inf)
asks_again-known e (Info number more) inf own = refl
asks_again-known e (Ready number fault) inf own = refl
asks_again-known e (Request s) inf own =
    repeats_request-known (request_breaks e) e s (carried inf) rule.RequestDue own refl (λ h. h) (λ h. h)
asks_again-known e (Response s) inf own = refl

-- a response that carries none carries 0
none-carried : (n : ℕ) (inf : List ℕ) → length inf ≡ 0 → carried inf == n ≡ false → not (n == 0) ≡ true
none-carried n [] h g = grind (arith, nat_tests)
none-carried n (x ∷ inf) h g = absurd (omega arith)

octet-known : (s said : S) (n : ℕ) (inf : List ℕ) → same_subject s said ≡ true → Suits 254 (Response said) inf
    → carried inf == n ≡ false → carries s || not (n == 0) ≡ true
octet-known Ifs said n inf is suits differs = refl
octet-known Wtx said n inf is suits differs = refl
octet-known Resynch Resynch n inf is suits differs = none-carried n inf suits.0 differs
octet-known Abort Abort n inf is suits differs = none-carried n inf suits.0 differs
octet-known Resynch Ifs n inf is suits differs = cc is
octet-known Resynch Abort n inf is suits differs = cc is
octet-known Resynch Wtx n inf is suits differs = cc is
octet-known Abort Resynch n inf is suits differs = cc is
octet-known Abort Ifs n inf is suits differs = cc is
octet-known Abort Wtx n inf is suits differs = cc is

responds-known : (e : End) (s : S) (n : ℕ) (pcb : Pcb) (inf : List ℕ) → Suits 254 pcb inf
    → IsKnown (response_breaks s n) (responds e s n pcb inf)
responds-known e s n (Info number more) inf suits = refl
responds-known e s n (Ready number fault) inf suits = refl
responds-known e s n (Request t) inf suits = refl
responds-known e s n (Response said) inf suits =
    on-test (response_breaks s n) (same_subject s said)
    (if carried inf == n then Ok _ else Err rule.ResponseOctet) (Err rule.ResponseDue)
    (λ is. on-test (response_breaks s n) (carried inf == n) (Ok _) (Err rule.ResponseOctet) (λ _. tt)
    (λ differs. octet-known s said n inf is suits differs))
    (λ _. refl)

either-known : (e : End) (pcb : Pcb) (inf : List ℕ) → Suits 254 pcb inf → is_foreign e.side pcb ≡ false
    → IsKnown (either_breaks e) (either e pcb inf)
either-known e (Info number more) inf suits own = info-known (either_breaks e) e number more inf suits refl (λ h. h)
either-known e (Ready number fault) inf suits own = acknowledged-known (either_breaks e) e number fault refl refl
either-known e (Request s) inf suits own =
    asks-known (either_breaks e) e EitherBlock s (carried inf) own
    (λ h. absurd (cc (second (is_terminal e.side) false h))) (λ h. refl)
either-known e (Response s) inf suits own = refl

begins_or_corrects-known : (e : End) (pcb : Pcb) (inf : List ℕ) → Suits 254 pcb inf → is_foreign e.side pcb ≡ false
    → IsKnown (begun_or_corrected_breaks e) (begins_or_corrects e pcb inf)
begins_or_corrects-known e (Info number more) inf suits own =
    info-known (begun_or_corrected_breaks e) e number more inf suits refl (λ h. h)
begins_or_corrects-known e (Ready number fault) inf suits own =
    ready-known (begun_or_corrected_breaks e) e number refl (λ h. h)
begins_or_corrects-known e (Request s) inf suits own =
    asks-known (begun_or_corrected_breaks e) e MessageOrCorrection s (carried inf) own
    (λ h. absurd (cc (second (is_terminal e.side) false h))) (λ h. refl)
begins_or_corrects-known e (Response s) inf suits own = refl

widened : (e : End) (breaks : Rule → Bool) → breaks rule.TooManyRepeats ≡ false → (sent : Sent) → IsKnown breaks sent
    → IsKnown (λ r. or_refusal_breaks e r (breaks r)) sent
widened e breaks never (Ok f) h = tt
widened e breaks never (Err rule.TooManyRepeats) h = absurd (cc (never, h))
widened e breaks never (Err r) h = h

or_refuses-known : (e : End) (breaks : Rule → Bool) → breaks rule.TooManyRepeats ≡ false
    → breaks rule.SequenceNumber ≡ true → (pcb : Pcb) (sent : Sent) → IsKnown breaks sent
    → IsKnown (λ r. or_refusal_breaks e r (breaks r)) (or_refuses e pcb sent)
or_refuses-known e breaks never numbers pcb sent h =
    on-test (λ r. or_refusal_breaks e r (breaks r)) (is_refusal e pcb)
    (corrects_again (record e { expects = _; tries = 0 })) sent
    (λ _. again-known (λ r. or_refusal_breaks e r (breaks r)) e.side _ e.row.corrections _ (λ out. out))
    (λ _. widened e breaks never sent h)

any-known : (e : End) (pcb : Pcb) (inf : List ℕ) → Suits 254 pcb inf → IsKnown (any_breaks e) (any_block e pcb inf)
any-known e (Info number more) inf suits =
    on-test (any_breaks e) (nat_le (length inf) (repeatable e)) (Ok _) (Err rule.FieldSize) (λ _. tt)
    (λ no. less-room (length inf) (repeatable e) suits no)
any-known e (Ready number fault) inf suits = tt
any-known e (Request s) inf suits = tt
any-known e (Response s) inf suits = tt

owed-known : (e : End) (owed : Owed) (last : List ℕ) (pcb : Pcb) (inf : List ℕ) → Suits 254 pcb inf
    → is_foreign e.side pcb ≡ false → IsKnown (owed_breaks e owed) (sends_owed e owed last pcb inf)
owed-known e NewMessage last pcb inf suits own = messages-known e NewMessage pcb inf suits own
owed-known e NextBlock last pcb inf suits own = messages-known e NextBlock pcb inf suits own
owed-known e Acknowledgment last pcb inf suits own = acknowledges-known e pcb inf own
owed-known e SameBlock last pcb inf suits own = repeats-known e last pcb inf own
owed-known e Correction last pcb inf suits own = corrects-known e pcb own
owed-known e Refusal last pcb inf suits own = refuses-known e pcb inf own
owed-known e SameRequest last pcb inf suits own = asks_again-known e pcb inf own
owed-known e (Answer s n) last pcb inf suits own = responds-known e s n pcb inf suits
owed-known e EitherBlock last pcb inf suits own = either-known e pcb inf suits own
owed-known e MessageOrCorrection last pcb inf suits own = begins_or_corrects-known e pcb inf suits own
owed-known e MessageOrRefusal last pcb inf suits own =
    or_refuses-known e (message_breaks e MessageOrRefusal) refl refl pcb (messages e MessageOrRefusal pcb inf)
    (messages-known e MessageOrRefusal pcb inf suits own)
owed-known e AcknowledgmentOrRefusal last pcb inf suits own =
    or_refuses-known e (acknowledgment_breaks e) refl refl pcb (acknowledges e pcb inf)
    (acknowledges-known e pcb inf own)
owed-known e AnyBlock last pcb inf suits own = any-known e pcb inf suits

with-foreign : (e : End) (owed : Owed) (sent : Sent) → IsKnown (owed_breaks e owed) sent
    → IsKnown (can_break e owed) sent
with-foreign e owed (Ok f) h = tt
with-foreign e owed (Err rule.ForeignRequest) h = refl
with-foreign e owed (Err r) h = h

-- what an end sends that owes this
pub sends-known : (e : End) (owed : Owed) (last : List ℕ) (pcb : Pcb) (inf : List ℕ) → Suits 254 pcb inf
    → IsKnown (can_break e owed) (sends e owed last pcb inf)
sends-known e owed last pcb inf suits =
    on-test (can_break e owed) (is_foreign e.side pcb) (Err rule.ForeignRequest) (sends_owed e owed last pcb inf)
    (λ _. refl)
    (λ own. with-foreign e owed (sends_owed e owed last pcb inf) (owed-known e owed last pcb inf suits own))
