-- Where both courses permit a block, they lead to the same end.
use Rattle.std.proofs.Common.{◌≡◌, ℕ, List, refl, ap, arith}
use Rattle.std.specs.Prelude.{Bool, true, false, if◌then◌else◌, max, Option, Some, None, Ok, Err, nat_le, ◌==◌}
use Rattle.block_core.specs.Block.{other}
use Rattle.block_core.specs.declared.pcb.Number.{Number}
use Rattle.block_core.specs.declared.pcb.Number.TheVariants.{Zero, One}
use Rattle.block_core.specs.declared.pcb.Fault.TheVariants.{Free, Redundancy, Other}
use Rattle.block_core.specs.declared.pcb.S.{S}
use Rattle.block_core.specs.declared.pcb.S.TheVariants.{Resynch, Ifs, Abort, Wtx}
use Rattle.block_core.specs.declared.pcb.Pcb.{Pcb}
use Rattle.block_core.specs.declared.pcb.Pcb.TheVariants.{Info, Ready, Request, Response}
use Rattle.t1_core.specs.Came.{same, carried}
use Rattle.t1_core.specs.Terminal.{most_repeats}
use Rattle.block_core.specs.declared.side.Side.{Side}
use Rattle.block_core.specs.declared.side.Side.TheVariants.{Terminal, Card}
use Rattle.judge_core.specs.declared.end.Pending.{Pending}
use Rattle.judge_core.specs.declared.end.Pending.TheVariants.{Settled, Chain, Last}
use Rattle.judge_core.specs.declared.end.Asked.{Asked}
use Rattle.judge_core.specs.declared.end.Asked.TheVariants.{Size, Time, Stop, Anew}
use Rattle.judge_core.specs.declared.end.Owed.{Owed}
use Rattle.judge_core.specs.declared.end.Owed.TheVariants.{NewMessage, NextBlock, Acknowledgment, SameBlock, Correction, Refusal, SameRequest, Answer, EitherBlock, MessageOrCorrection, MessageOrRefusal, AcknowledgmentOrRefusal, AnyBlock}
use Rattle.judge_core.specs.declared.end.End.{End}
use Rattle.judge_core.specs.declared.end.After.{After}
use Rattle.judge_core.specs.declared.rule.Rule.{Rule}
use Rattle.judge_core.specs.declared.rule.Rule.TheVariants.{CorrectionDue, RequestDue, SequenceNumber}
use Rattle.judge_core.specs.declared.courses.Heard.{Heard}
use Rattle.judge_core.specs.declared.courses.Heard.TheVariants.{Beginning, Whole, Perhaps, Broken, Nothing}
use Rattle.judge_core.specs.Ends.{after, begun, no_row, answered, answers, hears, hears_info, hears_ready, hears_free, hears_asking, hears_request, hears_unknown, due_after, begins_again, missed, stopped}
use Rattle.judge_core.specs.Sends.{Sent, sends, sends_owed, is_foreign, asking, repeats_request, sends_ready, asked_again}
use Rattle.judge_core.specs.Courses.{attempted, got_whole, got_none, perhaps_answers, uncounted, untaken}

-- two blocks' ends are the same, where both are permitted
abbrev Same : Sent → Sent → Type 0
Same (Ok a) (Ok b) = a ≡ b
Same (Ok a) (Err s) = Unit {0}
Same (Err r) y = Unit {0}

abbrev pub Agree : Option Sent → Option Sent → Type 0
Agree (Some x) (Some y) = Same x y
Agree (Some x) None = Unit {0}
Agree None y = Unit {0}

itself : (x : Sent) → Same x x
itself (Ok a) = refl
itself (Err r) = tt

by_first : (x : Sent) (r : Rule) → Same x (Err r)
by_first (Ok a) r = tt
by_first (Err s) r = tt

where_both : (b : Bool) (x y : Sent) (r s : Rule) → Same x y → Same (if b then x else Err r) (if b then y else Err s)
where_both true x y r s h = h
where_both false x y r s h = tt

guarded : (b : Bool) (x y : Sent) (r : Rule) → Same x y → Same (if b then Err r else x) (if b then Err r else y)
guarded true x y r h = tt
guarded false x y r h = h

where_then : (b : Bool) (a : End) (r : Rule) → Same (Ok a) (if b then Ok a else Err r)
where_then true a r = refl
where_then false a r = tt

then_where : (b : Bool) (a : End) (r : Rule) → Same (if b then Ok a else Err r) (Ok a)
then_where true a r = refl
then_where false a r = tt

-- what both owe, the same wherever both permit a block
abbrev Alike : After → After → Type 0
Alike a b = (last : List ℕ) (pcb : Pcb) (inf : List ℕ)
    → Same (sends_owed a.«end» a.owed last pcb inf) (sends_owed b.«end» b.owed last pcb inf)

alike : (a : After) → Alike a a
alike a last pcb inf = itself (sends_owed a.«end» a.owed last pcb inf)

-- ---- an end that waits for no response

abbrev free : End → End
free e = record e { asked = None }

correction_refusal : (e : End) → Alike (after (free e) Correction) (after (free e) Refusal)
correction_refusal e last (Info number more) inf = tt
correction_refusal e last (Ready number Free) inf = by_first (sends_ready (free e) number) _
correction_refusal e last (Ready number Redundancy) inf = by_first (sends_ready (free e) number) _
correction_refusal e last (Ready number Other) inf = itself (sends_ready (free e) number)
correction_refusal e last (Request Resynch) inf =
    where_then (nat_le most_repeats e.tries) (asking (free e) NewMessage Resynch 0) _
correction_refusal e last (Request Ifs) inf = tt
correction_refusal e last (Request Abort) inf = tt
correction_refusal e last (Request Wtx) inf = tt
correction_refusal e last (Response s) inf = tt

-- after an I-block in its order
abbrev taking : End → Number → End
taking e x = record e { expects = other x; pending = Settled; asked = None; aborted = false }

abbrev expecting : End → Number → End
expecting e x = record e { expects = x; asked = None }

acknowledgment_refusal : (e : End) (x : Number)
    → Alike (after (taking e x) Acknowledgment) (after (expecting e x) Refusal)
acknowledgment_refusal e x last (Info number more) inf = tt
acknowledgment_refusal e x last (Ready number Free) inf =
    by_first (if same number (other x) then Ok (record (taking e x) { tries = 0; row = no_row }) else Err
    SequenceNumber) _
acknowledgment_refusal e x last (Ready number Redundancy) inf = tt
acknowledgment_refusal e x last (Ready number Other) inf = tt
acknowledgment_refusal e x last (Request Resynch) inf = tt
acknowledgment_refusal e x last (Request Ifs) inf = tt
acknowledgment_refusal e x last (Request Abort) inf = tt
acknowledgment_refusal e x last (Request Wtx) inf = tt
acknowledgment_refusal e x last (Response s) inf = tt

acknowledgment_correction : (e : End) (x : Number)
    → Alike (after (taking e x) Acknowledgment) (after (expecting e x) Correction)
acknowledgment_correction e x last (Info number more) inf = tt
acknowledgment_correction e Zero last (Ready Zero Free) inf = tt
acknowledgment_correction e Zero last (Ready One Free) inf = tt
acknowledgment_correction e One last (Ready Zero Free) inf = tt
acknowledgment_correction e One last (Ready One Free) inf = tt
acknowledgment_correction e x last (Ready number Redundancy) inf = tt
acknowledgment_correction e x last (Ready number Other) inf = tt
acknowledgment_correction e x last (Request Resynch) inf = tt
acknowledgment_correction e x last (Request Ifs) inf = tt
acknowledgment_correction e x last (Request Abort) inf = tt
acknowledgment_correction e x last (Request Wtx) inf = tt
acknowledgment_correction e x last (Response s) inf = tt

-- a message differs by what RESYNCH begins again
message_correction : (e : End) (next expects : Number) (pending : Pending) (aborted : Bool)
    → Alike (after (record e { next = next; expects = expects; pending = pending; asked = None; aborted = aborted })
    NewMessage)
    (after (free e) Correction)
message_correction e next expects pending aborted last (Info number more) inf = by_first _ _
message_correction e next expects pending aborted last (Ready number fault) inf = tt
message_correction e next expects pending aborted last (Request Resynch) inf = refl
message_correction e next expects pending aborted last (Request Ifs) inf = tt
message_correction e next expects pending aborted last (Request Abort) inf = tt
message_correction e next expects pending aborted last (Request Wtx) inf = tt
message_correction e next expects pending aborted last (Response s) inf = tt

message_refusal : (e : End) (next expects : Number) (pending : Pending) (aborted : Bool)
    → Alike (after (record e { next = next; expects = expects; pending = pending; asked = None; aborted = aborted })
    NewMessage)
    (after (free e) Refusal)
message_refusal e next expects pending aborted last (Info number more) inf = by_first _ _
message_refusal e next expects pending aborted last (Ready number fault) inf = tt
message_refusal e next expects pending aborted last (Request Resynch) inf =
    where_then (nat_le most_repeats e.tries) (asking (free e) NewMessage Resynch 0) _
message_refusal e next expects pending aborted last (Request Ifs) inf = tt
message_refusal e next expects pending aborted last (Request Abort) inf = tt
message_refusal e next expects pending aborted last (Request Wtx) inf = tt
message_refusal e next expects pending aborted last (Response s) inf = tt

next_correction : (e : End) (pending : Pending)
    → Alike (after (record e { pending = pending; asked = None }) NextBlock) (after (free e) Correction)
next_correction e pending last (Info number more) inf = by_first _ _
next_correction e pending last (Ready number fault) inf = tt
next_correction e pending last (Request Resynch) inf = tt
next_correction e pending last (Request Ifs) inf = tt
next_correction e pending last (Request Abort) inf = tt
next_correction e pending last (Request Wtx) inf = tt
next_correction e pending last (Response s) inf = tt

repeat_correction : (e : End) → Alike (after (free e) SameBlock) (after (free e) Correction)
repeat_correction e last (Info number more) inf = by_first _ _
repeat_correction e last (Ready number fault) inf = tt
repeat_correction e last (Request Resynch) inf = refl
repeat_correction e last (Request Ifs) inf = tt
repeat_correction e last (Request Abort) inf = tt
repeat_correction e last (Request Wtx) inf = tt
repeat_correction e last (Response s) inf = tt

either_correction : (e : End) → Alike (after (free e) MessageOrCorrection) (after (free e) Correction)
either_correction e last (Info number more) inf = by_first _ _
either_correction e last (Ready number fault) inf = itself (sends_ready (free e) number)
either_correction e last (Request Resynch) inf = refl
either_correction e last (Request Ifs) inf = tt
either_correction e last (Request Abort) inf = tt
either_correction e last (Request Wtx) inf = tt
either_correction e last (Response s) inf = tt

answer_correction : (e f : End) (s : S) (n : ℕ) → Alike (after e (Answer s n)) (after f Correction)
answer_correction e f s n last (Info number more) inf = tt
answer_correction e f s n last (Ready number fault) inf = tt
answer_correction e f s n last (Request t) inf = tt
answer_correction e f s n last (Response t) inf = by_first _ _

-- ---- an end that waits for a response

abbrev waiting : End → Asked → End
waiting e asked = record e { asked = Some asked }

the_same : (e : End) (asked : Asked) (s : S) (octet : ℕ)
    → Same (repeats_request (waiting e asked) s octet RequestDue)
    (repeats_request (waiting e asked) s octet CorrectionDue)
the_same e (Size n) Resynch octet = refl
the_same e (Size n) Ifs octet = where_both (octet == n) _ _ _ _
    (itself (asked_again e.side (waiting e (Size n)) Ifs octet))
the_same e (Size n) Abort octet = tt
the_same e (Size n) Wtx octet = tt
the_same e (Time n) Resynch octet = refl
the_same e (Time n) Ifs octet = tt
the_same e (Time n) Abort octet = tt
the_same e (Time n) Wtx octet = where_both (octet == n) _ _ _ _
    (itself (asked_again e.side (waiting e (Time n)) Wtx octet))
the_same e Stop Resynch octet = refl
the_same e Stop Ifs octet = tt
the_same e Stop Abort octet = itself (asked_again e.side (waiting e Stop) Abort octet)
the_same e Stop Wtx octet = tt
the_same e Anew Resynch octet = itself (asked_again e.side (waiting e Anew) Resynch octet)
the_same e Anew Ifs octet = tt
the_same e Anew Abort octet = tt
the_same e Anew Wtx octet = tt

request_refusal : (e : End) (asked : Asked)
    → Alike (after (waiting e asked) SameRequest) (after (waiting e asked) Refusal)
request_refusal e asked last (Info number more) inf = tt
request_refusal e asked last (Ready number fault) inf = tt
request_refusal e asked last (Request s) inf = the_same e asked s (carried inf)
request_refusal e asked last (Response s) inf = tt

answer_request : (e f : End) (s : S) (n : ℕ) → Alike (after e (Answer s n)) (after f SameRequest)
answer_request e f s n last (Info number more) inf = tt
answer_request e f s n last (Ready number fault) inf = tt
answer_request e f s n last (Request t) inf = tt
answer_request e f s n last (Response t) inf = by_first _ _

-- the response may have come: what was owed before, or the same request, which counts as a first one
abbrev asked_with : End → Asked → Owed → End
asked_with e asked owed = record e { asked = Some asked; before = owed; tries = 0 }

abbrev answered_with : End → Owed → End
answered_with e owed = record e { asked = None; before = owed }

-- the same request, as a first one and as a repeat
first_size : (side : Side) (e : End) (owed : Owed) (asked : Asked) (b : Bool) (octet : ℕ) → Same
    (Ok (asking (record (answered_with e owed) { side = side }) owed Ifs octet))
    (if b then asked_again side (record (asked_with e asked owed) { side = side }) Ifs octet else Err RequestDue)
first_size Terminal e owed asked true octet = refl
first_size Card e owed asked true octet = refl
first_size side e owed asked false octet = tt

first_time : (side : Side) (e : End) (owed : Owed) (asked : Asked) (b : Bool) (octet : ℕ) → Same
    (Ok (asking (record (answered_with e owed) { side = side }) owed Wtx octet))
    (if b then asked_again side (record (asked_with e asked owed) { side = side }) Wtx octet else Err RequestDue)
first_time Terminal e owed asked true octet = refl
first_time Card e owed asked true octet = refl
first_time side e owed asked false octet = tt

-- RESYNCH, whatever is owed
resynch_row : (e : End) (asked : Asked) (owed : Owed) (last inf : List ℕ) → Same
    (sends_owed (answered_with e owed) owed last (Request Resynch) inf)
    (Ok (asking (asked_with e asked owed) NewMessage Resynch 0))
resynch_row e asked NewMessage last inf = refl
resynch_row e asked NextBlock last inf = tt
resynch_row e asked Acknowledgment last inf = tt
resynch_row e asked SameBlock last inf = refl
resynch_row e asked Correction last inf = refl
resynch_row e asked Refusal last inf =
    then_where (nat_le most_repeats e.tries) (asking (free e) NewMessage Resynch 0) _
resynch_row e asked SameRequest last inf =
    then_where (nat_le most_repeats e.tries) (asking (free e) NewMessage Resynch 0) _
resynch_row e asked (Answer s n) last inf = tt
resynch_row e asked EitherBlock last inf = refl
resynch_row e asked MessageOrCorrection last inf = refl
resynch_row e asked MessageOrRefusal last inf = refl
resynch_row e asked AcknowledgmentOrRefusal last inf = tt
resynch_row e asked AnyBlock last inf = refl

size_row : (e : End) (n : ℕ) (owed : Owed) (last inf : List ℕ) → Same
    (sends_owed (answered_with e owed) owed last (Request Ifs) inf)
    (repeats_request (asked_with e (Size n) owed) Ifs (carried inf) RequestDue)
size_row e n NewMessage last inf = first_size e.side e NewMessage (Size n) (carried inf == n) (carried inf)
size_row e n NextBlock last inf = first_size e.side e NextBlock (Size n) (carried inf == n) (carried inf)
size_row e n Acknowledgment last inf = first_size e.side e Acknowledgment (Size n) (carried inf == n) (carried inf)
size_row e n SameBlock last inf = tt
size_row e n Correction last inf = tt
size_row e n Refusal last inf = tt
size_row e n SameRequest last inf = tt
size_row e n (Answer s m) last inf = tt
size_row e n EitherBlock last inf = first_size e.side e EitherBlock (Size n) (carried inf == n) (carried inf)
size_row e n MessageOrCorrection last inf =
    first_size e.side e MessageOrCorrection (Size n) (carried inf == n) (carried inf)
size_row e n MessageOrRefusal last inf =
    first_size e.side e MessageOrRefusal (Size n) (carried inf == n) (carried inf)
size_row e n AcknowledgmentOrRefusal last inf =
    first_size e.side e AcknowledgmentOrRefusal (Size n) (carried inf == n) (carried inf)
size_row e n AnyBlock last inf = first_size e.side e AnyBlock (Size n) (carried inf == n) (carried inf)

time_row : (e : End) (n : ℕ) (owed : Owed) (last inf : List ℕ) → Same
    (sends_owed (answered_with e owed) owed last (Request Wtx) inf)
    (repeats_request (asked_with e (Time n) owed) Wtx (carried inf) RequestDue)
time_row e n NewMessage last inf = first_time e.side e NewMessage (Time n) (carried inf == n) (carried inf)
time_row e n NextBlock last inf = first_time e.side e NextBlock (Time n) (carried inf == n) (carried inf)
time_row e n Acknowledgment last inf = first_time e.side e Acknowledgment (Time n) (carried inf == n) (carried inf)
time_row e n SameBlock last inf = tt
time_row e n Correction last inf = tt
time_row e n Refusal last inf = tt
time_row e n SameRequest last inf = tt
time_row e n (Answer s m) last inf = tt
time_row e n EitherBlock last inf = first_time e.side e EitherBlock (Time n) (carried inf == n) (carried inf)
time_row e n MessageOrCorrection last inf =
    first_time e.side e MessageOrCorrection (Time n) (carried inf == n) (carried inf)
time_row e n MessageOrRefusal last inf =
    first_time e.side e MessageOrRefusal (Time n) (carried inf == n) (carried inf)
time_row e n AcknowledgmentOrRefusal last inf =
    first_time e.side e AcknowledgmentOrRefusal (Time n) (carried inf == n) (carried inf)
time_row e n AnyBlock last inf = first_time e.side e AnyBlock (Time n) (carried inf == n) (carried inf)

size_request : (e : End) (n : ℕ) (owed : Owed)
    → Alike (after (answered_with e owed) owed) (after (asked_with e (Size n) owed) SameRequest)
size_request e n owed last (Info number more) inf = by_first _ _
size_request e n owed last (Ready number fault) inf = by_first _ _
size_request e n owed last (Request Resynch) inf = resynch_row e (Size n) owed last inf
size_request e n owed last (Request Ifs) inf = size_row e n owed last inf
size_request e n owed last (Request Abort) inf = by_first _ _
size_request e n owed last (Request Wtx) inf = by_first _ _
size_request e n owed last (Response s) inf = by_first _ _

time_request : (e : End) (n : ℕ) (owed : Owed)
    → Alike (after (answered_with e owed) owed) (after (asked_with e (Time n) owed) SameRequest)
time_request e n owed last (Info number more) inf = by_first _ _
time_request e n owed last (Ready number fault) inf = by_first _ _
time_request e n owed last (Request Resynch) inf = resynch_row e (Time n) owed last inf
time_request e n owed last (Request Ifs) inf = by_first _ _
time_request e n owed last (Request Abort) inf = by_first _ _
time_request e n owed last (Request Wtx) inf = time_row e n owed last inf
time_request e n owed last (Response s) inf = by_first _ _

stop_request : (e : End) (owed : Owed) → Alike
    (after (record (answered_with e owed) { pending = Settled }) EitherBlock)
    (after (asked_with e Stop owed) SameRequest)
stop_request e owed last (Info number more) inf = by_first _ _
stop_request e owed last (Ready number fault) inf = by_first _ _
stop_request e owed last (Request Resynch) inf = refl
stop_request e owed last (Request Ifs) inf = tt
stop_request e owed last (Request Abort) inf = tt
stop_request e owed last (Request Wtx) inf = tt
stop_request e owed last (Response s) inf = tt

-- the same of an end about which nothing is known
first_stop : (side : Side) (e : End) (octet : ℕ) → Same
    (Ok (asking (record (answered_with e AnyBlock) { side = side }) AnyBlock Abort octet))
    (asked_again side (record (asked_with e Stop AnyBlock) { side = side }) Abort octet)
first_stop Terminal e octet = refl
first_stop Card e octet = refl

any_request : (e : End) → Alike (after (answered_with e AnyBlock) AnyBlock)
    (after (asked_with e Stop AnyBlock) SameRequest)
any_request e last (Info number more) inf = by_first _ _
any_request e last (Ready number fault) inf = tt
any_request e last (Request Resynch) inf = resynch_row e Stop AnyBlock last inf
any_request e last (Request Ifs) inf = tt
any_request e last (Request Abort) inf = first_stop e.side e (carried inf)
any_request e last (Request Wtx) inf = tt
any_request e last (Response s) inf = tt

-- the larger of the sizes, taken twice
begun_twice : (room first : ℕ) → max (max room first) first ≡ max room first
begun_twice room first = omega arith

abbrev roomy : Side → End → Owed → ℕ → End
roomy side e owed room = record (asking (record (asked_with e Anew owed) { side = side }) NewMessage Resynch 0)
    { room = room; largest_room = room }

anew_row : (side : Side) (e : End) (owed : Owed) (octet : ℕ) → Same
    (Ok (asking (begun (record (asked_with e Anew owed) { side = side })) NewMessage Resynch octet))
    (asked_again side (record (asked_with e Anew owed) { side = side }) Resynch octet)
anew_row Terminal e owed octet = ap (roomy Terminal e owed) (begun_twice e.room e.first_room)
anew_row Card e owed octet = ap (roomy Card e owed) (begun_twice e.room e.first_room)

anew_request : (e : End) (owed : Owed)
    → Alike (after (begun (asked_with e Anew owed)) NewMessage) (after (asked_with e Anew owed) SameRequest)
anew_request e owed last (Info number more) inf = by_first _ _
anew_request e owed last (Ready number fault) inf = tt
anew_request e owed last (Request Resynch) inf = anew_row e.side e owed (carried inf)
anew_request e owed last (Request Ifs) inf = tt
anew_request e owed last (Request Abort) inf = tt
anew_request e owed last (Request Wtx) inf = tt
anew_request e owed last (Response s) inf = tt

-- ---- both courses

abbrev Both : After → After → Type 0
Both a b = (last : List ℕ) (pcb : Pcb) (inf : List ℕ)
    → Same (sends a.«end» a.owed last pcb inf) (sends b.«end» b.owed last pcb inf)

both : (a : After) → Both a a
both a last pcb inf = itself (sends a.«end» a.owed last pcb inf)

abbrev on : Side → End → End
on side e = record e { side = side }

together : (side : Side) (e f : End) (o p : Owed) → Alike (after (on side e) o) (after (on side f) p)
    → Both (after (on side e) o) (after (on side f) p)
together side e f o p h last pcb inf = guarded (is_foreign side pcb) _ _ _ (h last pcb inf)

chosen_by : (b : Bool) (x y n : After) → Both x n → Both y n → Both (if b then x else y) n
chosen_by true x y n h k = h
chosen_by false x y n h k = k

-- ---- an I-block, or an R-block, to an end that waits for no response

info_refusal : (b more : Bool) (e : End) (x : Number)
    → Both (if b then after (taking e x) (due_after more) else after (expecting e x) Correction)
    (after (expecting e x) Refusal)
info_refusal true true e x =
    together e.side (taking e x) (expecting e x) Acknowledgment Refusal (acknowledgment_refusal e x)
info_refusal true false e x =
    together e.side (taking e x) (expecting e x) NewMessage Refusal
    (message_refusal (expecting e x) e.next (other x) Settled false)
info_refusal false more e x =
    together e.side (expecting e x) (expecting e x) Correction Refusal (correction_refusal (expecting e x))

info_correction : (b more : Bool) (e : End) (x : Number)
    → Both (if b then after (taking e x) (due_after more) else after (expecting e x) Correction)
    (after (expecting e x) Correction)
info_correction true true e x =
    together e.side (taking e x) (expecting e x) Acknowledgment Correction (acknowledgment_correction e x)
info_correction true false e x =
    together e.side (taking e x) (expecting e x) NewMessage Correction
    (message_correction (expecting e x) e.next (other x) Settled false)
info_correction false more e x = both (after (expecting e x) Correction)

abbrev having : End → Pending → End
having e pending = record e { pending = pending; asked = None }

refused_free : (e : End) (pending : Pending) (number : Number) (more : Bool)
    → Both (hears_info (having e pending) number more) (after (having e pending) Refusal)
refused_free e Chain number more =
    together e.side (having e Chain) (having e Chain) Correction Refusal (correction_refusal (having e Chain))
refused_free e Settled number more = info_refusal (same number e.expects) more (having e Settled) e.expects
refused_free e Last number more = info_refusal (same number e.expects) more (having e Last) e.expects

missed_info : (e : End) (pending : Pending) (number : Number) (more : Bool)
    → Both (hears_info (having e pending) number more) (after (having e pending) Correction)
missed_info e Chain number more = both (after (having e Chain) Correction)
missed_info e Settled number more = info_correction (same number e.expects) more (having e Settled) e.expects
missed_info e Last number more = info_correction (same number e.expects) more (having e Last) e.expects

missed_ready : (e : End) (pending : Pending) (is_next aborted : Bool)
    → Both (hears_ready (record (having e pending) { aborted = aborted }) pending is_next)
    (after (record (having e pending) { aborted = aborted }) Correction)
missed_ready e Chain true aborted = together e.side (record (having e Settled) { aborted = aborted })
    (record (having e Chain) { aborted = aborted }) NextBlock Correction
    (next_correction (record (having e Chain) { aborted = aborted }) Settled)
missed_ready e Chain false aborted = together e.side (record (having e Chain) { aborted = aborted })
    (record (having e Chain) { aborted = aborted }) SameBlock Correction
    (repeat_correction (record (having e Chain) { aborted = aborted }))
missed_ready e Last true aborted = both (after (record (having e Last) { aborted = aborted }) Correction)
missed_ready e Last false aborted = together e.side (record (having e Last) { aborted = aborted })
    (record (having e Last) { aborted = aborted }) SameBlock Correction
    (repeat_correction (record (having e Last) { aborted = aborted }))
missed_ready e Settled true true = together e.side (record (having e Settled) { aborted = true })
    (record (having e Settled) { aborted = true }) MessageOrCorrection Correction
    (either_correction (record (having e Settled) { aborted = true }))
missed_ready e Settled true false = both (after (record (having e Settled) { aborted = false }) Correction)
missed_ready e Settled false aborted = both (after (record (having e Settled) { aborted = aborted }) Correction)

told_request : (e : End) (side : Side) (s : S) (octet : ℕ)
    → Both (after (on side (free e)) (Answer s octet)) (after (on side (free e)) Correction)
told_request e side s octet = together side (free e) (free e) (Answer s octet) Correction
    (answer_correction (on side (free e)) (on side (free e)) s octet)

missed_request : (e : End) (side : Side) (s : S) (octet : ℕ)
    → Both (hears_request (on side (free e)) side s octet) (after (on side (free e)) Correction)
missed_request e side Ifs octet = told_request e side Ifs octet
missed_request e side Abort octet = told_request e side Abort 0
missed_request e Terminal Wtx octet = told_request e Terminal Wtx octet
missed_request e Card Wtx octet = both (after (on Card (free e)) Correction)
missed_request e Terminal Resynch octet = both (after (on Terminal (free e)) Correction)
missed_request e Card Resynch octet = told_request e Card Resynch 0

missed_free : (e : End) (pcb : Pcb) (octet : ℕ) → Both (hears_free (free e) pcb octet) (after (free e) Correction)
missed_free e (Info number more) octet = missed_info e e.pending number more
missed_free e (Ready number fault) octet = missed_ready e e.pending (same number e.next) e.aborted
missed_free e (Request s) octet = missed_request e e.side s octet
missed_free e (Response s) octet = both (after (free e) Correction)

-- ---- an end that waits for a response

missed_stop : (e : End) (owed : Owed) → Both (stopped (record (waiting e Stop) { before = owed }) owed)
    (after (record (waiting e Stop) { before = owed; tries = 0 }) SameRequest)
missed_stop e AnyBlock = together e.side (answered_with e AnyBlock) (asked_with e Stop AnyBlock) AnyBlock SameRequest
    (any_request e)
missed_stop e owed = together e.side (record (answered_with e owed) { pending = Settled }) (asked_with e Stop owed)
    EitherBlock SameRequest (stop_request e owed)

missed_answered : (b : Bool) (e : End) (asked : Asked)
    → Both (if b then answered (waiting e asked) asked else after (waiting e asked) SameRequest)
    (after (if b then record (waiting e asked) { tries = 0 } else waiting e asked) SameRequest)
missed_answered true e (Size n) =
    together e.side (free e) (record (waiting e (Size n)) { tries = 0 }) e.before SameRequest
    (size_request e n e.before)
missed_answered true e (Time n) =
    together e.side (free e) (record (waiting e (Time n)) { tries = 0 }) e.before SameRequest
    (time_request e n e.before)
missed_answered true e Stop = missed_stop e e.before
missed_answered true e Anew = together e.side (begun e) (record (waiting e Anew) { tries = 0 }) NewMessage SameRequest
    (anew_request e e.before)
missed_answered false e asked = both (after (waiting e asked) SameRequest)

missed_known : (e : End) (asked : Option Asked) (pcb : Pcb) (octet : ℕ)
    → Both (hears_asking (record e { asked = asked }) asked pcb octet)
    (after (uncounted (record e { asked = asked }) pcb octet) (missed (record e { asked = asked; known = true })))
missed_known e None pcb octet = missed_free e pcb octet
missed_known e (Some asked) pcb octet = missed_answered (answers asked pcb octet) e asked

refused_known : (e : End) (asked : Option Asked) (number : Number) (more : Bool) (octet : ℕ)
    → Both (hears_asking (record e { asked = asked }) asked (Info number more) octet)
    (after (record e { asked = asked }) Refusal)
refused_known e None number more octet = refused_free e e.pending number more
refused_known e (Some (Size n)) number more octet =
    together e.side (waiting e (Size n)) (waiting e (Size n)) SameRequest Refusal (request_refusal e (Size n))
refused_known e (Some (Time n)) number more octet =
    together e.side (waiting e (Time n)) (waiting e (Time n)) SameRequest Refusal (request_refusal e (Time n))
refused_known e (Some Stop) number more octet =
    together e.side (waiting e Stop) (waiting e Stop) SameRequest Refusal (request_refusal e Stop)
refused_known e (Some Anew) number more octet =
    together e.side (waiting e Anew) (waiting e Anew) SameRequest Refusal (request_refusal e Anew)

-- ---- RESYNCH to a card

resynch_refusal : (e f : End) (s : S) (n : ℕ) → Alike (after e (Answer s n)) (after f Refusal)
resynch_refusal e f s n last (Info number more) inf = tt
resynch_refusal e f s n last (Ready number fault) inf = tt
resynch_refusal e f s n last (Request t) inf = tt
resynch_refusal e f s n last (Response t) inf = by_first _ _

resynch_any : (e : End) (expects : Number) (pending : Pending) (aborted : Bool) → Alike (after e (Answer Resynch 0))
    (after (record e { expects = expects; pending = pending; aborted = aborted }) AnyBlock)
resynch_any e expects pending aborted last (Info number more) inf = tt
resynch_any e expects pending aborted last (Ready number fault) inf = tt
resynch_any e expects pending aborted last (Request t) inf = tt
resynch_any e expects pending aborted last (Response Resynch) inf = then_where (carried inf == 0) (begun e) _
resynch_any e expects pending aborted last (Response Ifs) inf = tt
resynch_any e expects pending aborted last (Response Abort) inf = tt
resynch_any e expects pending aborted last (Response Wtx) inf = tt

resynch_unknown : (e : End) (pcb : Pcb) → Both (after e (Answer Resynch 0)) (hears_unknown e pcb)
resynch_unknown e (Info number more) =
    together e.side e (record e { expects = other number; pending = Settled; aborted = false })
    (Answer Resynch 0) AnyBlock (resynch_any e (other number) Settled false)
resynch_unknown e (Ready number fault) =
    together e.side e e (Answer Resynch 0) AnyBlock (resynch_any e e.expects e.pending e.aborted)
resynch_unknown e (Request s) =
    together e.side e e (Answer Resynch 0) AnyBlock (resynch_any e e.expects e.pending e.aborted)
resynch_unknown e (Response s) =
    together e.side e e (Answer Resynch 0) AnyBlock (resynch_any e e.expects e.pending e.aborted)

resynch_missed : (b : Bool) (e : End) (asked : Option Asked) → Both (after e (Answer Resynch 0))
    (after (if b then record e { tries = 0 } else e) (missed (record e { asked = asked; known = true })))
resynch_missed true e None = together e.side e (record e { tries = 0 }) (Answer Resynch 0) Correction
    (answer_correction e (record e { tries = 0 }) Resynch 0)
resynch_missed false e None = together e.side e e (Answer Resynch 0) Correction (answer_correction e e Resynch 0)
resynch_missed true e (Some asked) = together e.side e (record e { tries = 0 }) (Answer Resynch 0) SameRequest
    (answer_request e (record e { tries = 0 }) Resynch 0)
resynch_missed false e (Some asked) =
    together e.side e e (Answer Resynch 0) SameRequest (answer_request e e Resynch 0)

-- ---- any end

abbrev knowing : Bool → End → End
knowing known e = record e { known = known }

refused : (known : Bool) (e : End) (number : Number) (more : Bool) (octet : ℕ)
    → Both (hears (knowing known e) (Info number more) octet)
    (untaken (knowing known e) (Info number more) (after (knowing known e) Refusal))
refused true e number more octet = chosen_by (begins_again e.side (Info number more))
    (after (knowing true e) (Answer Resynch 0)) (hears_asking (knowing true e) e.asked (Info number more) octet)
    (after (knowing true e) Refusal)
    (together e.side (knowing true e) (knowing true e) (Answer Resynch 0) Refusal
    (resynch_refusal (knowing true e) (knowing true e) Resynch 0))
    (refused_known (knowing true e) e.asked number more octet)
refused false e number more octet = chosen_by (begins_again e.side (Info number more))
    (after (knowing false e) (Answer Resynch 0)) (hears_unknown (knowing false e) (Info number more))
    (hears_unknown (knowing false e) (Info number more))
    (resynch_unknown (knowing false e) (Info number more)) (both (hears_unknown (knowing false e) (Info number more)))

not_taken : (known : Bool) (e : End) (pcb : Pcb) (octet : ℕ)
    → Both (hears (knowing known e) pcb octet)
    (untaken (knowing known e) pcb (after (uncounted (knowing known e) pcb octet) (missed (knowing known e))))
not_taken true e pcb octet = chosen_by (begins_again e.side pcb)
    (after (knowing true e) (Answer Resynch 0)) (hears_asking (knowing true e) e.asked pcb octet)
    (after (uncounted (knowing true e) pcb octet) (missed (knowing true e)))
    (resynch_missed (perhaps_answers e.asked pcb octet) (knowing true e) e.asked)
    (missed_known (knowing true e) e.asked pcb octet)
not_taken false e pcb octet = chosen_by (begins_again e.side pcb)
    (after (knowing false e) (Answer Resynch 0)) (hears_unknown (knowing false e) pcb)
    (hears_unknown (knowing false e) pcb)
    (resynch_unknown (knowing false e) pcb) (both (hears_unknown (knowing false e) pcb))

pub agree : (e : End) (heard : Heard) (last : List ℕ) (pcb : Pcb) (inf : List ℕ)
    → Agree (attempted (got_whole e heard) last pcb inf) (attempted (got_none e heard) last pcb inf)
agree e Beginning last pcb inf = tt
agree e (Whole (Info number more) octet) last pcb inf = refused e.known e number more octet last pcb inf
agree e (Whole (Ready number fault) octet) last pcb inf = tt
agree e (Whole (Request s) octet) last pcb inf = tt
agree e (Whole (Response s) octet) last pcb inf = tt
agree e (Perhaps heard octet) last pcb inf = not_taken e.known e heard octet last pcb inf
agree e Broken last pcb inf = tt
agree e Nothing last pcb inf = tt
