-- What an end of T=1 may send if it owes this (ISO/IEC 7816-3:2006, clause 11.6), and which rule another block breaks.
use Rattle.std.specs.Prelude.{ℕ, ◌+◌, ◌==◌, ◌&&◌, not, nat_lt, nat_le, min, List, length, bytes_eq, Bool, true, false, if◌then◌else◌, Option, Some, None, Result, Ok, Err}
use Rattle.block_core.specs.Block.{other}
use Rattle.block_core.specs.declared.pcb.Number.{Number}
use Rattle.block_core.specs.declared.pcb.Fault.{Fault}
use Rattle.block_core.specs.declared.pcb.Fault.TheVariants.{Free, Redundancy, Other}
use Rattle.block_core.specs.declared.pcb.S.{S}
use Rattle.block_core.specs.declared.pcb.S.TheVariants.{Resynch, Ifs, Abort, Wtx}
use Rattle.block_core.specs.declared.pcb.Pcb.{Pcb}
use Rattle.block_core.specs.declared.pcb.Pcb.TheVariants.{Info, Ready, Request, Response}
use Rattle.t1_core.specs.Came.{same, carried}
use Rattle.t1_core.specs.Terminal.{most_repeats, most_resynchs}
use Rattle.block_core.specs.declared.side.Side.{Side}
use Rattle.block_core.specs.declared.side.Side.TheVariants.{Terminal, Card}
use Rattle.judge_core.specs.declared.end.Pending.{Pending}
use Rattle.judge_core.specs.declared.end.Pending.TheVariants.{Settled, Chain, Last}
use Rattle.judge_core.specs.declared.end.Asked.{Asked}
use Rattle.judge_core.specs.declared.end.Asked.TheVariants.{Size, Time, Stop, Anew}
use Rattle.judge_core.specs.declared.end.Owed.{Owed}
use Rattle.judge_core.specs.declared.end.Owed.TheVariants.{NewMessage, NextBlock, Acknowledgment, SameBlock, Correction, Refusal, SameRequest, Answer, EitherBlock, MessageOrCorrection, MessageOrRefusal, AcknowledgmentOrRefusal, AnyBlock}
use Rattle.judge_core.specs.declared.end.Row.{Row}
use Rattle.judge_core.specs.declared.end.End.{End}
use Rattle.judge_core.specs.declared.rule.Rule.{Rule}
use Rattle.judge_core.specs.declared.rule.Rule.TheVariants as rule
use Rattle.judge_core.specs.Ends.{begun, no_row, repeatable}

-- the end after a block that it may send, or the rule that the block breaks
abbrev pub Sent : Type 0
Sent = Result End Rule

-- ---- what may be repeated, and how often

-- The limits of a terminal; a card has none. It repeats an I-block at most so many times in a row before it asks for
-- RESYNCH, and corrects at most as often (rule 7.4). It asks for RESYNCH at most so many times. A response to a request
-- of the card ends both rows. Rule 7.4 doesn't say how few repeats are enough, so RESYNCH may come at once after an
-- error. So each limit follows the reading that permits more.

-- a count stays at its greatest value
abbrev pub one_more : ℕ → ℕ
one_more n = min (n + 1) 255

-- the end after one more of its kind, if fewer than the limit came in a row; row is the row then
abbrev pub again_as : Side → End → ℕ → Row → Sent
again_as Terminal e count row =
    if nat_lt count most_repeats then Ok (record e { tries = one_more e.tries; row = row }) else Err rule.TooManyRepeats
again_as Card e count row = Ok e

abbrev pub repeats_again : End → Sent
repeats_again e = again_as e.side e e.row.repeats (record e.row { repeats = one_more e.row.repeats })

abbrev pub corrects_again : End → Sent
corrects_again e = again_as e.side e e.row.corrections (record e.row { corrections = one_more e.row.corrections })

-- ---- requests

-- only the terminal asks for RESYNCH (rule 6.1), and only the card for time (rule 3)
abbrev pub is_foreign : Side → Pcb → Bool
is_foreign Card (Request Resynch) = true
is_foreign Terminal (Request Wtx) = true
is_foreign side pcb = false

-- for a terminal the first sending of a request counts too
abbrev pub first_tries : Side → ℕ
first_tries Terminal = 1
first_tries Card = 0

-- What an end owes after the response to its request for a size or for time: what it owed before. It may still refuse
-- the I-block that it took before it asked. A card asks only after an I-block; a terminal may ask before there was one.
abbrev pub after_answer : Owed → Side → Owed
after_answer NewMessage Terminal = NewMessage
after_answer NewMessage Card = MessageOrRefusal
after_answer NextBlock side = NextBlock
after_answer Acknowledgment side = AcknowledgmentOrRefusal
after_answer SameBlock side = SameBlock
after_answer Correction side = Correction
after_answer Refusal side = Refusal
after_answer SameRequest side = SameRequest
after_answer (Answer s n) side = Answer s n
after_answer EitherBlock side = EitherBlock
after_answer MessageOrCorrection side = MessageOrCorrection
after_answer MessageOrRefusal side = MessageOrRefusal
after_answer AcknowledgmentOrRefusal side = AcknowledgmentOrRefusal
after_answer AnyBlock side = AnyBlock

-- the end after it asks
abbrev pub asks_for : End → Owed → Asked → End
asks_for e owed asked = record e {
  asked = Some asked;
  before = after_answer owed e.side;
  tries = first_tries e.side;
  row = no_row;
  known = true;
}

-- The end after its request. After RESYNCH everything begins again, whatever it owed.
abbrev pub asking : End → Owed → S → ℕ → End
asking e owed Resynch n = asks_for (begun e) NewMessage Anew
asking e owed Ifs n = asks_for e owed (Size n)
asking e owed Abort n = asks_for e owed Stop
asking e owed Wtx n = asks_for e owed (Time n)

-- between messages, where a terminal may begin again
abbrev pub is_between : Owed → Bool
is_between NewMessage = true
is_between EitherBlock = true
is_between MessageOrCorrection = true
is_between MessageOrRefusal = true
is_between owed = false

-- within a chain, which either end may abort (rule 9)
abbrev pub is_within : Owed → Bool
is_within NextBlock = true
is_within Acknowledgment = true
is_within owed = false

-- A request instead of what is owed. A request for a size or for time may come at any time (rules 3 and 4).
abbrev pub asks : End → Owed → S → ℕ → Sent
asks e owed Resynch n = if is_between owed then Ok (asking e owed Resynch n) else Err rule.EarlyResynch
asks e owed Ifs n = Ok (asking e owed Ifs n)
asks e owed Abort n = if is_within owed then Ok (asking e owed Abort n) else Err rule.NoChain
asks e owed Wtx n = Ok (asking e owed Wtx n)

-- RESYNCH instead of what is due after an error (rules 6.1 and 7.4); no other request is permitted
abbrev pub resynchs : End → S → Rule → Sent
resynchs e Resynch broken = Ok (asking e NewMessage Resynch 0)
resynchs e Ifs broken = Err broken
resynchs e Abort broken = Err broken
resynchs e Wtx broken = Err broken

-- RESYNCH instead of the refusal of an I-block that came whole. A block without an error ends the attempts of rule 7.4.
-- So the end must have repeated and corrected as often as a terminal does, together since its last new block.
abbrev pub resynchs_refusing : End → S → Rule → Sent
resynchs_refusing e Resynch broken =
    if nat_le most_repeats e.tries then Ok (asking e NewMessage Resynch 0) else Err rule.EarlyResynch
resynchs_refusing e Ifs broken = Err broken
resynchs_refusing e Abort broken = Err broken
resynchs_refusing e Wtx broken = Err broken

-- whether it is the request that the end sent before
abbrev pub is_asked : Option Asked → S → ℕ → Bool
is_asked (Some (Size n)) Ifs octet = octet == n
is_asked (Some (Time n)) Wtx octet = octet == n
is_asked (Some Stop) Abort octet = true
is_asked (Some Anew) Resynch octet = true
is_asked asked s octet = false

-- how often a terminal may send a request in a row
abbrev pub most_asked : S → ℕ
most_asked Resynch = most_resynchs
most_asked Ifs = most_repeats + 1
most_asked Abort = most_repeats + 1
most_asked Wtx = most_repeats + 1

abbrev pub is_waiting : Option Asked → Bool
is_waiting None = false
is_waiting (Some asked) = true

-- the end sends its request again
abbrev pub asked_again : Side → End → S → ℕ → Sent
asked_again Terminal e s octet =
    if nat_lt e.tries (most_asked s)
    then Ok (record (asking e e.before s octet) { tries = e.tries + 1 })
    else Err rule.TooManyRepeats
asked_again Card e s octet = Ok (asking e e.before s octet)

-- The end sends the same request again (rule 7.3), or RESYNCH. It may also refuse an I-block that came whole.
abbrev pub repeats_request : End → S → ℕ → Rule → Sent
repeats_request e s octet broken =
    if is_asked e.asked s octet then asked_again e.side e s octet
    else (if is_waiting e.asked then resynchs e s broken else resynchs_refusing e s broken)

-- ---- messages

abbrev pub pending_of : Bool → Pending
pending_of true = Chain
pending_of false = Last

-- the end after a new I-block
abbrev pub informed : End → Number → Bool → End
informed e number more = record e {
  next = other number;
  pending = pending_of more;
  asked = None;
  tries = 0;
  row = no_row;
  known = true;
  aborted = false;
}

-- A new I-block has the next number (rule 2.1), and at most as many octets as the other end takes (11.4.2).
abbrev pub sends_info : End → Number → Bool → List ℕ → Sent
sends_info e number more inf =
    if same number e.next
    then (if nat_le (length inf) e.room then Ok (informed e number more) else Err rule.FieldSize)
    else Err rule.SequenceNumber

-- A message begins or goes on (rules 2.1, 2.2 and 5).
abbrev pub messages : End → Owed → Pcb → List ℕ → Sent
messages e owed (Info number more) inf = sends_info e number more inf
messages e owed (Ready number fault) inf = Err rule.BlockDue
messages e owed (Request s) inf = asks e owed s (carried inf)
messages e owed (Response s) inf = Err rule.Unasked

-- ---- R-blocks

-- An R-block has the number of the I-block that its sender expects (rule 7.1).
abbrev pub sends_ready : End → Number → Sent
sends_ready e number = if same number e.expects then corrects_again e else Err rule.SequenceNumber

-- An acknowledgment reports no error (rule 2.2).
abbrev pub acknowledged : End → Number → Fault → Sent
acknowledged e number Free =
    if same number e.expects then Ok (record e { tries = 0; row = no_row }) else Err rule.SequenceNumber
acknowledged e number Redundancy = Err rule.ErrorCode
acknowledged e number Other = Err rule.ErrorCode

abbrev pub acknowledges : End → Pcb → List ℕ → Sent
acknowledges e (Info number more) inf = Err rule.AcknowledgmentDue
acknowledges e (Ready number fault) inf = acknowledged e number fault
acknowledges e (Request s) inf = asks e Acknowledgment s (carried inf)
acknowledges e (Response s) inf = Err rule.Unasked

-- An R-block after an error, with any error code (rules 7.1 and 7.2).
abbrev pub corrects : End → Pcb → Sent
corrects e (Info number more) = Err rule.CorrectionDue
corrects e (Ready number fault) = sends_ready e number
corrects e (Request s) = resynchs e s rule.CorrectionDue
corrects e (Response s) = Err rule.Unasked

-- An end that has no room for an I-block refuses it with the error code for other errors (11.3.2.2).
abbrev pub refuses_with : End → Number → Fault → Sent
refuses_with e number Free = Err rule.CorrectionDue
refuses_with e number Redundancy = Err rule.CorrectionDue
refuses_with e number Other = sends_ready e number

abbrev pub refuses : End → Pcb → List ℕ → Sent
refuses e (Info number more) inf = Err rule.CorrectionDue
refuses e (Ready number fault) inf = refuses_with e number fault
refuses e (Request s) inf = repeats_request e s (carried inf) rule.CorrectionDue
refuses e (Response s) inf = Err rule.CorrectionDue

-- An end that asked for a size or for time after it took an I-block may still refuse that I-block (11.3.2.2).
abbrev pub is_refusal : End → Pcb → Bool
is_refusal e (Info number more) = false
is_refusal e (Ready number Free) = false
is_refusal e (Ready number Redundancy) = false
is_refusal e (Ready number Other) = same number (other e.expects)
is_refusal e (Request s) = false
is_refusal e (Response s) = false

abbrev pub or_refuses : End → Pcb → Sent → Sent
or_refuses e pcb sent = if is_refusal e pcb then corrects_again (record e { expects = other e.expects; tries = 0 }) else
    sent

-- ---- repeats and answers

abbrev pub is_pending : Pending → Bool → Bool
is_pending Settled more = false
is_pending Chain more = more
is_pending Last true = false
is_pending Last false = true

-- The last I-block again, with the same octets (rule 7.1).
abbrev pub repeats_info : End → List ℕ → Number → Bool → List ℕ → Sent
repeats_info e last number more inf =
    if same number e.next then Err rule.SequenceNumber
    else (if is_pending e.pending more
    then (if bytes_eq inf last then repeats_again e else Err rule.RepeatedOctets)
    else Err rule.RepeatedOctets)

abbrev pub repeats : End → List ℕ → Pcb → List ℕ → Sent
repeats e last (Info number more) inf = repeats_info e last number more inf
repeats e last (Ready number fault) inf = Err rule.RepeatDue
repeats e last (Request s) inf = resynchs e s rule.RepeatDue
repeats e last (Response s) inf = Err rule.Unasked

-- The same request again (rule 7.3).
abbrev pub asks_again : End → Pcb → List ℕ → Sent
asks_again e (Info number more) inf = Err rule.RequestDue
asks_again e (Ready number fault) inf = Err rule.RequestDue
asks_again e (Request s) inf = repeats_request e s (carried inf) rule.RequestDue
asks_again e (Response s) inf = Err rule.RequestDue

-- The end after its response: a size holds from then on (rule 4), a chain is over (rule 9), or everything begins again
-- (rule 6).
abbrev pub responded : End → S → ℕ → End
responded e Resynch n = begun e
responded e Ifs n = record e { room = n; largest_room = repeatable e; row = no_row }
responded e Abort n = record e { pending = Settled; row = no_row; aborted = true }
responded e Wtx n = record e { row = no_row }

abbrev pub same_subject : S → S → Bool
same_subject Resynch Resynch = true
same_subject Ifs Ifs = true
same_subject Abort Abort = true
same_subject Wtx Wtx = true
same_subject s t = false

-- The response to a request, with the octet of the request (rules 3, 4, 6 and 9).
abbrev pub responds : End → S → ℕ → Pcb → List ℕ → Sent
responds e s n (Info number more) inf = Err rule.ResponseDue
responds e s n (Ready number fault) inf = Err rule.ResponseDue
responds e s n (Request t) inf = Err rule.ResponseDue
responds e s n (Response t) inf =
    if same_subject s t
    then (if carried inf == n then Ok (responded e s n) else Err rule.ResponseOctet)
    else Err rule.ResponseDue

-- After ABORT: a message, or an R-block that hands over the right to send (rule 9).
abbrev pub either : End → Pcb → List ℕ → Sent
either e (Info number more) inf = sends_info e number more inf
either e (Ready number fault) inf = acknowledged e number fault
either e (Request s) inf = asks e EitherBlock s (carried inf)
either e (Response s) inf = Err rule.Unasked

-- After an R-block that hands over the right to send or asks for the last R-block again: a message, or an R-block with
-- any error code.
abbrev pub begins_or_corrects : End → Pcb → List ℕ → Sent
begins_or_corrects e (Info number more) inf = sends_info e number more inf
begins_or_corrects e (Ready number fault) inf = sends_ready e number
begins_or_corrects e (Request s) inf = asks e MessageOrCorrection s (carried inf)
begins_or_corrects e (Response s) inf = Err rule.Unasked

-- ---- going on

-- The end that its own block suggests, if nothing is known about it or the block broke a rule.
abbrev pub suggested : End → Pcb → ℕ → End
suggested e (Info number more) n = informed (record e { before = NewMessage }) number more
suggested e (Ready number fault) n = record e { expects = number; asked = None; before = NewMessage; known = true }
suggested e (Request s) n =
    if is_foreign e.side (Request s) then record e { known = false } else asking e NewMessage s n
suggested e (Response s) n = responded (record e { asked = None; before = NewMessage; known = true }) s n

-- Whether an end that the line hid is known again: it has sent an I-block since, it heard one after that, and this one
-- has the next number. An ABORT ends a chain too, and after it nobody knows what the end heard.
abbrev pub is_next : Owed → Pending → Bool → Bool
is_next AnyBlock pending next = false
is_next owed Settled next = next
is_next owed Chain next = false
is_next owed Last next = false

-- Any block of an end whose last block nobody knows. It is known again after a second I-block, or after RESYNCH. The
-- block may repeat one that the end sent before a smaller size was agreed (rule 7.1), and nobody knows how often the end
-- tried, so it may ask for RESYNCH in place of a refusal (rule 7.4).
abbrev pub any_block : End → Pcb → List ℕ → Sent
any_block e (Info number more) inf =
    if nat_le (length inf) (repeatable e)
    then Ok (record (informed e number more) {
      known = is_next e.before e.pending (same number e.next && not e.aborted);
      before = NewMessage;
      tries = most_repeats;
    })
    else Err rule.FieldSize
any_block e (Ready number fault) inf = Ok (record e { expects = number; asked = None; known = false })
any_block e (Request s) inf = Ok (asking e AnyBlock s (carried inf))
any_block e (Response s) inf = Ok (responded (record e { asked = None; known = false }) s (carried inf))

-- ---- everything that an end may owe

abbrev pub sends_owed : End → Owed → List ℕ → Pcb → List ℕ → Sent
sends_owed e NewMessage last pcb inf = messages e NewMessage pcb inf
sends_owed e NextBlock last pcb inf = messages e NextBlock pcb inf
sends_owed e Acknowledgment last pcb inf = acknowledges e pcb inf
sends_owed e SameBlock last pcb inf = repeats e last pcb inf
sends_owed e Correction last pcb inf = corrects e pcb
sends_owed e Refusal last pcb inf = refuses e pcb inf
sends_owed e SameRequest last pcb inf = asks_again e pcb inf
sends_owed e (Answer s n) last pcb inf = responds e s n pcb inf
sends_owed e EitherBlock last pcb inf = either e pcb inf
sends_owed e MessageOrCorrection last pcb inf = begins_or_corrects e pcb inf
sends_owed e MessageOrRefusal last pcb inf = or_refuses e pcb (messages e MessageOrRefusal pcb inf)
sends_owed e AcknowledgmentOrRefusal last pcb inf = or_refuses e pcb (acknowledges e pcb inf)
sends_owed e AnyBlock last pcb inf = any_block e pcb inf

-- What an end may send if it owes this. Its last I-block had the field last, and the block has the field inf.
abbrev pub sends : End → Owed → List ℕ → Pcb → List ℕ → Sent
sends e owed last pcb inf =
    if is_foreign e.side pcb then Err rule.ForeignRequest else sends_owed e owed last pcb inf
