-- Some block breaks each rule that an end can break.
use Rattle.std.proofs.Common.{◌≡◌, ◌∙◌, ◌≤◌, ◌&&◌, ◌||◌, ◌==◌, not, nat_le, nat_lt, ℕ, List, [], ◌∷◌, length, replicate, refl, ap, arith, if◌then◌else◌}
use Rattle.std.proofs.lemmas.Bool.Decides.{nat_tests}
use Rattle.std.proofs.lemmas.List.{length-replicate}
use Rattle.std.proofs.lemmas.Slice.Eq.{bytes_eq-Decides}
use Rattle.octet_core.specs.Sizes.{IsFieldSize}
use Rattle.std.specs.Prelude.{Bool, true, false, bytes_eq, Option, Some, None, Err}
use Rattle.block_core.specs.Block.{other, Suits}
use Rattle.block_core.specs.declared.pcb.Number.{Number}
use Rattle.block_core.specs.declared.pcb.Number.TheVariants.{Zero, One}
use Rattle.block_core.specs.declared.pcb.Fault.TheVariants.{Free, Redundancy, Other}
use Rattle.block_core.specs.declared.pcb.S.{S}
use Rattle.block_core.specs.declared.pcb.S.TheVariants.{Resynch, Ifs, Abort, Wtx}
use Rattle.block_core.specs.declared.pcb.Pcb.{Pcb}
use Rattle.block_core.specs.declared.pcb.Pcb.TheVariants.{Info, Ready, Request, Response}
use Rattle.t1_core.specs.Came.{same, carried}
use Rattle.t1_core.specs.Terminal.{most_repeats}
use Rattle.block_core.specs.declared.side.Side.{Side}
use Rattle.block_core.specs.declared.side.Side.TheVariants.{Terminal, Card}
use Rattle.judge_core.specs.declared.end.Pending.{Pending}
use Rattle.judge_core.specs.declared.end.Pending.TheVariants.{Settled, Chain, Last}
use Rattle.judge_core.specs.declared.end.Asked.{Asked}
use Rattle.judge_core.specs.declared.end.Asked.TheVariants.{Size, Time, Stop, Anew}
use Rattle.judge_core.specs.declared.end.Owed.{Owed}
use Rattle.judge_core.specs.declared.end.Owed.TheVariants.{NewMessage, NextBlock, Acknowledgment, SameBlock, Correction, Refusal, SameRequest, Answer, EitherBlock, MessageOrCorrection, MessageOrRefusal, AcknowledgmentOrRefusal, AnyBlock}
use Rattle.judge_core.specs.declared.end.Row.{Row}
use Rattle.judge_core.specs.declared.end.End.{End}
use Rattle.judge_core.specs.declared.rule.Rule.{Rule}
use Rattle.judge_core.specs.declared.rule.Rule.TheVariants as rule
use Rattle.judge_core.specs.Ends.{repeatable}
use Rattle.judge_core.specs.Sends.{Sent, acknowledges, again_as, asked_again, is_asked, is_foreign, is_pending, is_refusal, is_waiting, is_within, is_between, messages, most_asked, or_refuses, sends_owed, sends_info, sends_ready, repeats_request}
use Rattle.judge_core.specs.Stakes.{acknowledgment_breaks, any_breaks, asked_so_often, begun_or_corrected_breaks, can_break, carries, correction_breaks, either_breaks, is_asked_out, is_corrected_out, is_early, is_terminal, is_unsettled, message_breaks, or_refusal_breaks, owed_breaks, refusal_breaks, repeat_breaks, request_breaks, response_breaks, takes_less, CanBeSent, IsBreakable}
use Rattle.judge_core.proofs.AtStake.{both, first, second}

-- ---- tests

yes : {A : Type 0} (b : Bool) (x y : A) → b ≡ true → (if b then x else y) ≡ x
yes b x y h = rw h

no : {A : Type 0} (b : Bool) (x y : A) → b ≡ false → (if b then x else y) ≡ y
no b x y h = rw h

not-so : (b : Bool) → not b ≡ true → b ≡ false
not-so true h = cc h
not-so false h = refl

same-self : (n : Number) → same n n ≡ true
same-self Zero = refl
same-self One = refl

not-same : (n : Number) → same (other n) n ≡ false
not-same Zero = refl
not-same One = refl

self-equal : (n : ℕ) → n == n ≡ true
self-equal n = grind (arith, nat_tests)

same-octets : (l : List ℕ) → bytes_eq l l ≡ true
same-octets l = (bytes_eq-Decides l l).1 refl

-- ---- whose blocks are whose

own-info : (side : Side) (number : Number) (more : Bool) → is_foreign side (Info number more) ≡ false
own-info Terminal number more = refl
own-info Card number more = refl

own-free : (side : Side) (number : Number) → is_foreign side (Ready number Free) ≡ false
own-free Terminal number = refl
own-free Card number = refl

own-other : (side : Side) (number : Number) → is_foreign side (Ready number Other) ≡ false
own-other Terminal number = refl
own-other Card number = refl

own-redundancy : (side : Side) (number : Number) → is_foreign side (Ready number Redundancy) ≡ false
own-redundancy Terminal number = refl
own-redundancy Card number = refl

own-response : (side : Side) (s : S) → is_foreign side (Response s) ≡ false
own-response Terminal s = refl
own-response Card s = refl

own-abort : (side : Side) → is_foreign side (Request Abort) ≡ false
own-abort Terminal = refl
own-abort Card = refl

own-size : (side : Side) → is_foreign side (Request Ifs) ≡ false
own-size Terminal = refl
own-size Card = refl

own-resynch : (side : Side) → is_terminal side ≡ true → is_foreign side (Request Resynch) ≡ false
own-resynch Terminal h = refl
own-resynch Card h = cc h

-- ---- limits

again-out : (side : Side) (e : End) (count : ℕ) (row : Row)
    → is_terminal side && not (nat_lt count most_repeats) ≡ true
    → again_as side e count row ≡ Err rule.TooManyRepeats
again-out Terminal e count row h = no (nat_lt count most_repeats) _ _ (not-so (nat_lt count most_repeats) h)
again-out Card e count row h = cc h

asked-again-out : (side : Side) (e : End) (s : S) (octet : ℕ)
    → is_terminal side && not (nat_lt e.tries (most_asked s)) ≡ true
    → asked_again side e s octet ≡ Err rule.TooManyRepeats
asked-again-out Terminal e s octet h =
    no (nat_lt e.tries (most_asked s)) _ _ (not-so (nat_lt e.tries (most_asked s)) h)
asked-again-out Card e s octet h = cc h

-- the request that an end waits for, once more
pub record IsRequest (e : End) (asked : Option Asked) : Type 0 where
  pub about : S
  pub inf : List ℕ
  pub suits : Suits 254 (Request about) inf
  pub own : is_foreign e.side (Request about) ≡ false
  pub asks : is_asked asked about (carried inf) ≡ true
  pub out : asked_so_often e about ≡ true

request-out : (e : End) (asked : Option Asked) → CanBeSent asked → is_asked_out e asked ≡ true → IsRequest e asked
request-out e None sized h = cc h
request-out e (Some (Size n)) sized h =
    record {
      about = Ifs;
      inf = n ∷ [];
      suits = (refl, sized);
      own = own-size e.side;
      asks = self-equal n;
      out = h;
    }
request-out e (Some (Time n)) sized h = cc h
request-out e (Some Stop) sized h =
    record { about = Abort; inf = []; suits = (refl, tt); own = own-abort e.side; asks = refl; out = h }
request-out e (Some Anew) sized h =
    record {
      about = Resynch;
      inf = [];
      suits = (refl, tt);
      own = own-resynch e.side (first (is_terminal e.side) _ h);
      asks = refl;
      out = h;
    }

none-asked : (asked : Option Asked) (s : S) (octet : ℕ) → is_waiting asked ≡ false → is_asked asked s octet ≡ false
none-asked None s octet h = refl
none-asked (Some asked) s octet h = cc h

-- an I-block that isn't the one that is pending, and the one that is
abbrev wrong-more : Pending → Bool
wrong-more Settled = false
wrong-more Chain = false
wrong-more Last = true

wrong-pending : (pending : Pending) → is_pending pending (wrong-more pending) ≡ false
wrong-pending Settled = refl
wrong-pending Chain = refl
wrong-pending Last = refl

abbrev right-more : Pending → Bool
right-more Settled = false
right-more Chain = true
right-more Last = false

right-pending : (pending : Pending) → is_unsettled pending ≡ true → is_pending pending (right-more pending) ≡ true
right-pending Settled h = cc h
right-pending Chain h = refl
right-pending Last h = refl

-- another octet, which a block about a size can carry
abbrev another : ℕ → ℕ
another n = if n == 1 then 2 else 1

differs : (n : ℕ) → another n == n ≡ false
differs n = go (n == 1) refl
  where
    go : (b : Bool) → n == 1 ≡ b → (if b then 2 else 1) == n ≡ false
    go true h = grind (arith, nat_tests)
    go false h = grind (arith, nat_tests)

is-size : (n : ℕ) → IsFieldSize (another n)
is-size n = go (n == 1)
  where
    go : (b : Bool) → IsFieldSize (if b then 2 else 1)
    go true = (omega arith, omega arith)
    go false = (omega arith, omega arith)

zero-differs : (n : ℕ) → not (n == 0) ≡ true → 0 == n ≡ false
zero-differs n h = grind (arith, nat_tests)

module _ (e : End) (last : List ℕ) (short : length last ≤ 254) (sized : CanBeSent e.asked) where
  abbrev Shown : Owed → Rule → Type 0
  Shown owed r = IsBreakable e owed last r

  -- a block that this end may send, and that breaks the rule
  shown : (owed : Owed) (r : Rule) (pcb : Pcb) (inf : List ℕ) → Suits 254 pcb inf → is_foreign e.side pcb ≡ false
      → sends_owed e owed last pcb inf ≡ Err r → Shown owed r
  shown owed r pcb inf suits own h =
      record { pcb = pcb; inf = inf; suits = suits; breaks = no (is_foreign e.side pcb) _ _ own ∙ h }

  info : (owed : Owed) (r : Rule) (number : Number) (more : Bool)
      → sends_owed e owed last (Info number more) [] ≡ Err r → Shown owed r
  info owed r number more h = shown owed r (Info number more) [] (omega arith) (own-info e.side number more) h

  free : (owed : Owed) (r : Rule) (number : Number) → sends_owed e owed last (Ready number Free) [] ≡ Err r
      → Shown owed r
  free owed r number h = shown owed r (Ready number Free) [] refl (own-free e.side number) h

  response : (owed : Owed) (r : Rule) → sends_owed e owed last (Response Abort) [] ≡ Err r → Shown owed r
  response owed r h = shown owed r (Response Abort) [] (refl, tt) (own-response e.side Abort) h

  abort : (owed : Owed) (r : Rule) → sends_owed e owed last (Request Abort) [] ≡ Err r → Shown owed r
  abort owed r h = shown owed r (Request Abort) [] (refl, tt) (own-abort e.side) h

  resynch : (owed : Owed) (r : Rule) → is_terminal e.side ≡ true
      → sends_owed e owed last (Request Resynch) [] ≡ Err r → Shown owed r
  resynch owed r terminal h = shown owed r (Request Resynch) [] (refl, tt) (own-resynch e.side terminal) h

  -- a field with more octets than the other end takes
  long : (room : ℕ) (inf : List ℕ) → length inf ≡ 254 → takes_less room ≡ true → nat_le (length inf) room ≡ false
  long room inf h less = grind (arith, nat_tests)

  too-long : (owed : Owed) (room : ℕ) → takes_less room ≡ true
      → ((inf : List ℕ) → nat_le (length inf) room ≡ false
      → sends_owed e owed last (Info e.next false) inf ≡ Err rule.FieldSize) → Shown owed rule.FieldSize
  too-long owed room less h =
      let filled : length {A = ℕ} (replicate 254 0) ≡ 254 = length-replicate {A = ℕ} 254 0 in
      shown owed rule.FieldSize (Info e.next false) (replicate 254 0) (omega (arith, filled))
      (own-info e.side e.next false) (h (replicate 254 0) (long room (replicate 254 0) filled less))

  info-long : (inf : List ℕ) → nat_le (length inf) e.room ≡ false
      → sends_info e e.next false inf ≡ Err rule.FieldSize
  info-long inf h =
      yes (same e.next e.next) _ _ (same-self e.next) ∙ no (nat_le (length inf) e.room) _ _ h

  info-wrong : sends_info e (other e.next) false [] ≡ Err rule.SequenceNumber
  info-wrong = no (same (other e.next) e.next) _ _ (not-same e.next)

  ready-wrong : sends_ready e (other e.expects) ≡ Err rule.SequenceNumber
  ready-wrong = no (same (other e.expects) e.expects) _ _ (not-same e.expects)

  ready-out : is_corrected_out e ≡ true → sends_ready e e.expects ≡ Err rule.TooManyRepeats
  ready-out h =
      yes (same e.expects e.expects) _ _ (same-self e.expects)
      ∙ again-out e.side e e.row.corrections _ h

  early-so : is_early e ≡ true → nat_le most_repeats e.tries ≡ false
  early-so h = not-so (nat_le most_repeats e.tries) (second (is_terminal e.side) _ h)

  -- where no refusal comes in between
  abbrev Plainly : Owed → (Pcb → List ℕ → Sent) → Type 0
  Plainly owed sent = (pcb : Pcb) (inf : List ℕ) → is_refusal e pcb ≡ false
      → sends_owed e owed last pcb inf ≡ sent pcb inf

  message-shown : (owed : Owed) → Plainly owed (messages e owed) → (r : Rule) → message_breaks e owed r ≡ true
      → Shown owed r
  message-shown owed plain rule.FieldSize h =
      too-long owed e.room h (λ inf more. plain (Info e.next false) inf refl ∙ info-long inf more)
  message-shown owed plain rule.SequenceNumber h =
      info owed rule.SequenceNumber (other e.next) false (plain (Info (other e.next) false) [] refl ∙ info-wrong)
  message-shown owed plain rule.BlockDue h = free owed rule.BlockDue Zero (plain (Ready Zero Free) [] refl)
  message-shown owed plain rule.Unasked h = response owed rule.Unasked (plain (Response Abort) [] refl)
  message-shown owed plain rule.NoChain h =
      abort owed rule.NoChain (plain (Request Abort) [] refl ∙ no (is_within owed) _ _ (not-so (is_within owed) h))
  message-shown owed plain rule.EarlyResynch h =
      resynch owed rule.EarlyResynch (first (is_terminal e.side) _ h)
      (plain (Request Resynch) [] refl
      ∙ no (is_between owed) _ _ (not-so (is_between owed) (second (is_terminal e.side) _ h)))
  message-shown owed plain r h = absurd (cc h)

  acknowledgment-shown : (owed : Owed) → Plainly owed (acknowledges e) → (r : Rule)
      → acknowledgment_breaks e r ≡ true → Shown owed r
  acknowledgment-shown owed plain rule.SequenceNumber h =
      free owed rule.SequenceNumber (other e.expects) (plain (Ready (other e.expects) Free) [] refl
      ∙ no (same (other e.expects) e.expects) _ _ (not-same e.expects))
  acknowledgment-shown owed plain rule.AcknowledgmentDue h =
      info owed rule.AcknowledgmentDue Zero false (plain (Info Zero false) [] refl)
  acknowledgment-shown owed plain rule.ErrorCode h =
      shown owed rule.ErrorCode (Ready Zero Redundancy) [] refl (own-redundancy e.side Zero)
      (plain (Ready Zero Redundancy) [] refl)
  acknowledgment-shown owed plain rule.Unasked h = response owed rule.Unasked (plain (Response Abort) [] refl)
  acknowledgment-shown owed plain rule.EarlyResynch h =
      resynch owed rule.EarlyResynch h (plain (Request Resynch) [] refl)
  acknowledgment-shown owed plain r h = absurd (cc h)

  repeat-shown : (r : Rule) → repeat_breaks e r ≡ true → Shown SameBlock r
  repeat-shown rule.SequenceNumber h =
      info SameBlock rule.SequenceNumber e.next false (yes (same e.next e.next) _ _ (same-self e.next))
  repeat-shown rule.RepeatDue h = free SameBlock rule.RepeatDue Zero refl
  repeat-shown rule.RepeatedOctets h =
      info SameBlock rule.RepeatedOctets (other e.next) (wrong-more e.pending)
      (no (same (other e.next) e.next) _ _ (not-same e.next)
      ∙ no (is_pending e.pending (wrong-more e.pending)) _ _ (wrong-pending e.pending))
  repeat-shown rule.Unasked h = response SameBlock rule.Unasked refl
  repeat-shown rule.TooManyRepeats h =
      let rest = second (is_terminal e.side) (not (nat_lt e.row.repeats most_repeats) && is_unsettled e.pending) h in
      let often = first (not (nat_lt e.row.repeats most_repeats)) (is_unsettled e.pending) rest in
      let held = second (not (nat_lt e.row.repeats most_repeats)) (is_unsettled e.pending) rest in
      shown SameBlock rule.TooManyRepeats (Info (other e.next) (right-more e.pending)) last short
      (own-info e.side (other e.next) (right-more e.pending))
      (no (same (other e.next) e.next) _ _ (not-same e.next)
      ∙ yes (is_pending e.pending (right-more e.pending)) _ _ (right-pending e.pending held)
      ∙ yes (bytes_eq last last) _ _ (same-octets last)
      ∙ again-out e.side e e.row.repeats _ (both (is_terminal e.side) (not (nat_lt e.row.repeats most_repeats))
      (first (is_terminal e.side) _ h) often))
  repeat-shown r h = absurd (cc h)

  correction-shown : (r : Rule) → correction_breaks e r ≡ true → Shown Correction r
  correction-shown rule.SequenceNumber h = free Correction rule.SequenceNumber (other e.expects) ready-wrong
  correction-shown rule.CorrectionDue h = info Correction rule.CorrectionDue Zero false refl
  correction-shown rule.Unasked h = response Correction rule.Unasked refl
  correction-shown rule.TooManyRepeats h = free Correction rule.TooManyRepeats e.expects (ready-out h)
  correction-shown r h = absurd (cc h)

  -- RESYNCH in place of an end's request or R-block, where it waits for no response
  early-alone : (owed : Owed) (broken : Rule)
      → sends_owed e owed last (Request Resynch) [] ≡ repeats_request e Resynch 0 broken
      → is_early e && not (is_waiting e.asked) ≡ true → Shown owed rule.EarlyResynch
  early-alone owed broken is h =
      let early = first (is_early e) (not (is_waiting e.asked)) h in
      let alone = not-so (is_waiting e.asked) (second (is_early e) (not (is_waiting e.asked)) h) in
      resynch owed rule.EarlyResynch (first (is_terminal e.side) _ early)
      (is ∙ no (is_asked e.asked Resynch 0) _ _ (none-asked e.asked Resynch 0 alone)
      ∙ no (is_waiting e.asked) _ _ alone ∙ no (nat_le most_repeats e.tries) _ _ (early-so early))

  -- the request once more
  request-again : (owed : Owed) (broken : Rule)
      → ((s : S) (inf : List ℕ) → sends_owed e owed last (Request s) inf ≡ repeats_request e s (carried inf) broken)
      → is_asked_out e e.asked ≡ true → Shown owed rule.TooManyRepeats
  request-again owed broken is h =
      let asked = request-out e e.asked sized h in
      shown owed rule.TooManyRepeats (Request asked.about) asked.inf asked.suits asked.own
      (is asked.about asked.inf ∙ yes (is_asked e.asked asked.about (carried asked.inf)) _ _ asked.asks
      ∙ asked-again-out e.side e asked.about (carried asked.inf) asked.out)

  refused-too-often : (b : Bool) → is_corrected_out e ≡ b → b || is_asked_out e e.asked ≡ true
      → Shown Refusal rule.TooManyRepeats
  refused-too-often true out h =
      shown Refusal rule.TooManyRepeats (Ready e.expects Other) [] refl (own-other e.side e.expects) (ready-out out)
  refused-too-often false out h = request-again Refusal rule.CorrectionDue (λ s inf. refl) h

  refusal-shown : (r : Rule) → refusal_breaks e r ≡ true → Shown Refusal r
  refusal-shown rule.SequenceNumber h =
      shown Refusal rule.SequenceNumber (Ready (other e.expects) Other) [] refl (own-other e.side (other e.expects))
      ready-wrong
  refusal-shown rule.CorrectionDue h = info Refusal rule.CorrectionDue Zero false refl
  refusal-shown rule.EarlyResynch h = early-alone Refusal rule.CorrectionDue refl h
  refusal-shown rule.TooManyRepeats h = refused-too-often (is_corrected_out e) refl h
  refusal-shown r h = absurd (cc h)

  request-shown : (r : Rule) → request_breaks e r ≡ true → Shown SameRequest r
  request-shown rule.RequestDue h = info SameRequest rule.RequestDue Zero false refl
  request-shown rule.EarlyResynch h = early-alone SameRequest rule.RequestDue refl h
  request-shown rule.TooManyRepeats h = request-again SameRequest rule.RequestDue (λ s inf. refl) h
  request-shown r h = absurd (cc h)

  octet-shown : (s : S) (n : ℕ) → carries s || not (n == 0) ≡ true → Shown (Answer s n) rule.ResponseOctet
  octet-shown Ifs n h =
      shown (Answer Ifs n) rule.ResponseOctet (Response Ifs) (another n ∷ []) (refl, is-size n)
      (own-response e.side Ifs) (no (another n == n) _ _ (differs n))
  octet-shown Wtx n h =
      shown (Answer Wtx n) rule.ResponseOctet (Response Wtx) (another n ∷ []) (refl, tt)
      (own-response e.side Wtx) (no (another n == n) _ _ (differs n))
  octet-shown Resynch n h =
      shown (Answer Resynch n) rule.ResponseOctet (Response Resynch) [] (refl, tt)
      (own-response e.side Resynch) (no (0 == n) _ _ (zero-differs n h))
  octet-shown Abort n h =
      shown (Answer Abort n) rule.ResponseOctet (Response Abort) [] (refl, tt)
      (own-response e.side Abort) (no (0 == n) _ _ (zero-differs n h))

  response-shown : (s : S) (n : ℕ) (r : Rule) → response_breaks s n r ≡ true → Shown (Answer s n) r
  response-shown s n rule.ResponseDue h = info (Answer s n) rule.ResponseDue Zero false refl
  response-shown s n rule.ResponseOctet h = octet-shown s n h
  response-shown s n r h = absurd (cc h)

  either-shown : (r : Rule) → either_breaks e r ≡ true → Shown EitherBlock r
  either-shown rule.FieldSize h = too-long EitherBlock e.room h info-long
  either-shown rule.SequenceNumber h = info EitherBlock rule.SequenceNumber (other e.next) false info-wrong
  either-shown rule.ErrorCode h =
      shown EitherBlock rule.ErrorCode (Ready Zero Redundancy) [] refl (own-redundancy e.side Zero) refl
  either-shown rule.Unasked h = response EitherBlock rule.Unasked refl
  either-shown rule.NoChain h = abort EitherBlock rule.NoChain refl
  either-shown r h = absurd (cc h)

  begun_or_corrected-shown : (r : Rule) → begun_or_corrected_breaks e r ≡ true → Shown MessageOrCorrection r
  begun_or_corrected-shown rule.FieldSize h = too-long MessageOrCorrection e.room h info-long
  begun_or_corrected-shown rule.SequenceNumber h =
      info MessageOrCorrection rule.SequenceNumber (other e.next) false info-wrong
  begun_or_corrected-shown rule.Unasked h = response MessageOrCorrection rule.Unasked refl
  begun_or_corrected-shown rule.NoChain h = abort MessageOrCorrection rule.NoChain refl
  begun_or_corrected-shown rule.TooManyRepeats h =
      free MessageOrCorrection rule.TooManyRepeats e.expects (ready-out h)
  begun_or_corrected-shown r h = absurd (cc h)

  any-shown : (r : Rule) → any_breaks e r ≡ true → Shown AnyBlock r
  any-shown rule.FieldSize h = too-long AnyBlock (repeatable e) h
      (λ inf more. no (nat_le (length inf) (repeatable e)) _ _ more)
  any-shown r h = absurd (cc h)

  -- a refusal is one correction more
  refusal-out : (owed : Owed) (sent : Pcb → List ℕ → Sent)
      → ((pcb : Pcb) (inf : List ℕ) → sends_owed e owed last pcb inf ≡ or_refuses e pcb (sent pcb inf))
      → is_corrected_out e ≡ true → Shown owed rule.TooManyRepeats
  refusal-out owed sent is h =
      shown owed rule.TooManyRepeats (Ready (other e.expects) Other) [] refl (own-other e.side (other e.expects))
      (is (Ready (other e.expects) Other) []
      ∙ yes (same (other e.expects) (other e.expects)) _ _ (same-self (other e.expects))
      ∙ again-out e.side _ e.row.corrections _ h)

  plain-or : (pcb : Pcb) (sent : Sent) → is_refusal e pcb ≡ false → or_refuses e pcb sent ≡ sent
  plain-or pcb sent h = no (is_refusal e pcb) _ _ h

  or-message-shown : (r : Rule) → or_refusal_breaks e r (message_breaks e MessageOrRefusal r) ≡ true
      → Shown MessageOrRefusal r
  or-message-shown rule.TooManyRepeats h =
      refusal-out MessageOrRefusal (messages e MessageOrRefusal) (λ pcb inf. refl) h
  or-message-shown r h =
      message-shown MessageOrRefusal (λ pcb inf other. plain-or pcb (messages e MessageOrRefusal pcb inf) other) r h

  or-acknowledgment-shown : (r : Rule) → or_refusal_breaks e r (acknowledgment_breaks e r) ≡ true
      → Shown AcknowledgmentOrRefusal r
  or-acknowledgment-shown rule.TooManyRepeats h =
      refusal-out AcknowledgmentOrRefusal (acknowledges e) (λ pcb inf. refl) h
  or-acknowledgment-shown r h =
      acknowledgment-shown AcknowledgmentOrRefusal (λ pcb inf other. plain-or pcb (acknowledges e pcb inf) other) r h

  owed-shown : (owed : Owed) (r : Rule) → owed_breaks e owed r ≡ true → Shown owed r
  owed-shown NewMessage r h = message-shown NewMessage (λ pcb inf other. refl) r h
  owed-shown NextBlock r h = message-shown NextBlock (λ pcb inf other. refl) r h
  owed-shown Acknowledgment r h = acknowledgment-shown Acknowledgment (λ pcb inf other. refl) r h
  owed-shown SameBlock r h = repeat-shown r h
  owed-shown Correction r h = correction-shown r h
  owed-shown Refusal r h = refusal-shown r h
  owed-shown SameRequest r h = request-shown r h
  owed-shown (Answer s n) r h = response-shown s n r h
  owed-shown EitherBlock r h = either-shown r h
  owed-shown MessageOrCorrection r h = begun_or_corrected-shown r h
  owed-shown MessageOrRefusal r h = or-message-shown r h
  owed-shown AcknowledgmentOrRefusal r h = or-acknowledgment-shown r h
  owed-shown AnyBlock r h = any-shown r h

  foreign-shown : (owed : Owed) (side : Side) → e.side ≡ side → Shown owed rule.ForeignRequest
  foreign-shown owed Terminal is = record {
    pcb = Request Wtx;
    inf = 1 ∷ [];
    suits = (refl, tt);
    breaks = yes (is_foreign e.side (Request Wtx)) _ _ (ap (λ (s : Side). is_foreign s (Request Wtx)) is);
  }
  foreign-shown owed Card is = record {
    pcb = Request Resynch;
    inf = [];
    suits = (refl, tt);
    breaks = yes (is_foreign e.side (Request Resynch)) _ _ (ap (λ (s : Side). is_foreign s (Request Resynch)) is);
  }

  pub breakable : (owed : Owed) (r : Rule) → can_break e owed r ≡ true → IsBreakable e owed last r
  breakable owed rule.ForeignRequest h = foreign-shown owed e.side refl
  breakable owed r h = owed-shown owed r h
