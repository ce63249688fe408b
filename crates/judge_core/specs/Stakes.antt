-- Which rules an end can keep or break with the block that it sends next, and which of them a block kept or broke.
use Rattle.std.specs.Prelude.{◌≡◌, ℕ, ◌&&◌, ◌||◌, ◌==◌, not, nat_le, nat_lt, List, Bool, true, false, if◌then◌else◌, Option, Some, None, Ok, Err}
use Rattle.octet_core.specs.Sizes.{IsFieldSize}
use Rattle.block_core.specs.Block.{Suits}
use Rattle.block_core.specs.declared.pcb.Pcb.{Pcb}
use Rattle.block_core.specs.declared.pcb.S.{S}
use Rattle.block_core.specs.declared.pcb.S.TheVariants.{Resynch, Ifs, Abort, Wtx}
use Rattle.t1_core.specs.Terminal.{most_repeats}
use Rattle.block_core.specs.declared.side.Side.{Side}
use Rattle.block_core.specs.declared.side.Side.TheVariants.{Terminal, Card}
use Rattle.judge_core.specs.declared.end.Pending.{Pending}
use Rattle.judge_core.specs.declared.end.Pending.TheVariants.{Settled, Chain, Last}
use Rattle.judge_core.specs.declared.end.Asked.{Asked}
use Rattle.judge_core.specs.declared.end.Asked.TheVariants.{Size, Time, Stop, Anew}
use Rattle.judge_core.specs.declared.end.Owed.{Owed}
use Rattle.judge_core.specs.declared.end.Owed.TheVariants.{NewMessage, NextBlock, Acknowledgment, SameBlock, Correction, Refusal, SameRequest, Answer, EitherBlock, MessageOrCorrection, MessageOrRefusal, AcknowledgmentOrRefusal, AnyBlock}
use Rattle.judge_core.specs.declared.end.End.{End}
use Rattle.judge_core.specs.declared.end.After.{After}
use Rattle.judge_core.specs.declared.rule.Rule.{Rule}
use Rattle.judge_core.specs.declared.rule.Rule.TheVariants as rule
use Rattle.judge_core.specs.declared.state.State.{State}
use Rattle.judge_core.specs.declared.courses.Heard.{Heard}
use Rattle.judge_core.specs.declared.courses.Heard.TheVariants.{Beginning, Whole, Perhaps, Broken, Nothing}
use Rattle.judge_core.specs.declared.courses.Verdict.TheVariants.{Permitted, Unseen, Deviates}
use Rattle.judge_core.specs.declared.monitor.Watched.{Watched}
use Rattle.judge_core.specs.declared.monitor.Monitor.{Monitor}
use Rattle.judge_core.specs.declared.monitor.Arrival.{Arrival}
use Rattle.judge_core.specs.declared.monitor.Said.{Said}
use Rattle.judge_core.specs.declared.monitor.Said.TheVariants.{Damage, Elsewhere, Block}
use Rattle.judge_core.specs.declared.stakes.Stakes.{Stakes}
use Rattle.judge_core.specs.declared.exercise.Exercise.{Exercise}
use Rattle.judge_core.specs.declared.exercise.Exercise.TheVariants as exercise
use Rattle.judge_core.specs.Sends.{Sent, is_between, is_within, is_waiting, most_asked, sends}
use Rattle.judge_core.specs.Courses.{attempted, got_none, got_whole, is_sure, judges}
use Rattle.judge_core.specs.Doubts.{is_open, only_openly, sent_openly, unknown_end}
use Rattle.judge_core.specs.Monitored.{due, said_in, sender, IsSent, Seen, whole, malformed, damage}
use Rattle.judge_core.specs.Ends.{after, repeatable}
use Rattle.judge_core.specs.States.{state_of}

abbrev pub is_terminal : Side → Bool
is_terminal Terminal = true
is_terminal Card = false

abbrev pub is_card : Side → Bool
is_card Terminal = false
is_card Card = true

-- ---- what an end that owes something can break

-- the other end takes so few octets that a block can have more (11.4.2)
abbrev pub takes_less : ℕ → Bool
takes_less room = nat_lt room 254

-- a terminal corrected as often as it may; only a terminal has limits and asks for RESYNCH (rules 6.1 and 7.4)
abbrev pub is_corrected_out : End → Bool
is_corrected_out e = is_terminal e.side && not (nat_lt e.row.corrections most_repeats)

abbrev pub is_unsettled : Pending → Bool
is_unsettled Settled = false
is_unsettled Chain = true
is_unsettled Last = true

abbrev pub is_repeated_out : End → Bool
is_repeated_out e = is_terminal e.side && (not (nat_lt e.row.repeats most_repeats) && is_unsettled e.pending)

abbrev pub asked_so_often : End → S → Bool
asked_so_often e s = is_terminal e.side && not (nat_lt e.tries (most_asked s))

-- a terminal asked as often as it may; it doesn't ask for time
abbrev pub is_asked_out : End → Option Asked → Bool
is_asked_out e None = false
is_asked_out e (Some (Size n)) = asked_so_often e Ifs
is_asked_out e (Some (Time n)) = false
is_asked_out e (Some Stop) = asked_so_often e Abort
is_asked_out e (Some Anew) = asked_so_often e Resynch

-- RESYNCH would be too early in place of the refusal of an I-block that came whole
abbrev pub is_early : End → Bool
is_early e = is_terminal e.side && not (nat_le most_repeats e.tries)

-- the same; while a request waits for its response, RESYNCH may replace it at any time
abbrev pub is_early_alone : End → Bool
is_early_alone e = is_early e && not (is_waiting e.asked)

-- the rules of a message that begins or goes on
abbrev pub message_breaks : End → Owed → Rule → Bool
message_breaks e owed rule.FieldSize = takes_less e.room
message_breaks e owed rule.SequenceNumber = true
message_breaks e owed rule.BlockDue = true
message_breaks e owed rule.Unasked = true
message_breaks e owed rule.NoChain = not (is_within owed)
message_breaks e owed rule.EarlyResynch = is_terminal e.side && not (is_between owed)
message_breaks e owed r = false

abbrev pub acknowledgment_breaks : End → Rule → Bool
acknowledgment_breaks e rule.SequenceNumber = true
acknowledgment_breaks e rule.AcknowledgmentDue = true
acknowledgment_breaks e rule.ErrorCode = true
acknowledgment_breaks e rule.Unasked = true
acknowledgment_breaks e rule.EarlyResynch = is_terminal e.side
acknowledgment_breaks e r = false

abbrev pub repeat_breaks : End → Rule → Bool
repeat_breaks e rule.SequenceNumber = true
repeat_breaks e rule.RepeatDue = true
repeat_breaks e rule.RepeatedOctets = true
repeat_breaks e rule.Unasked = true
repeat_breaks e rule.TooManyRepeats = is_repeated_out e
repeat_breaks e r = false

abbrev pub correction_breaks : End → Rule → Bool
correction_breaks e rule.SequenceNumber = true
correction_breaks e rule.CorrectionDue = true
correction_breaks e rule.Unasked = true
correction_breaks e rule.TooManyRepeats = is_corrected_out e
correction_breaks e r = false

abbrev pub refusal_breaks : End → Rule → Bool
refusal_breaks e rule.SequenceNumber = true
refusal_breaks e rule.CorrectionDue = true
refusal_breaks e rule.EarlyResynch = is_early_alone e
refusal_breaks e rule.TooManyRepeats = is_corrected_out e || is_asked_out e e.asked
refusal_breaks e r = false

abbrev pub request_breaks : End → Rule → Bool
request_breaks e rule.RequestDue = true
request_breaks e rule.EarlyResynch = is_early_alone e
request_breaks e rule.TooManyRepeats = is_asked_out e e.asked
request_breaks e r = false

-- whether a request of this kind carries an octet
abbrev pub carries : S → Bool
carries Resynch = false
carries Ifs = true
carries Abort = false
carries Wtx = true

-- the rules of a response; one without an octet counts as carrying 0
abbrev pub response_breaks : S → ℕ → Rule → Bool
response_breaks s octet rule.ResponseDue = true
response_breaks s octet rule.ResponseOctet = carries s || not (octet == 0)
response_breaks s octet r = false

-- the rules after ABORT
abbrev pub either_breaks : End → Rule → Bool
either_breaks e rule.FieldSize = takes_less e.room
either_breaks e rule.SequenceNumber = true
either_breaks e rule.ErrorCode = true
either_breaks e rule.Unasked = true
either_breaks e rule.NoChain = true
either_breaks e r = false

-- the rules after an R-block that hands over the right to send or asks for the last R-block again
abbrev pub begun_or_corrected_breaks : End → Rule → Bool
begun_or_corrected_breaks e rule.FieldSize = takes_less e.room
begun_or_corrected_breaks e rule.SequenceNumber = true
begun_or_corrected_breaks e rule.Unasked = true
begun_or_corrected_breaks e rule.NoChain = true
begun_or_corrected_breaks e rule.TooManyRepeats = is_corrected_out e
begun_or_corrected_breaks e r = false

-- an end that may refuse too can also correct too often
abbrev pub or_refusal_breaks : End → Rule → Bool → Bool
or_refusal_breaks e rule.TooManyRepeats breaks = is_corrected_out e
or_refusal_breaks e r breaks = breaks

abbrev pub any_breaks : End → Rule → Bool
any_breaks e rule.FieldSize = takes_less (repeatable e)
any_breaks e r = false

abbrev pub owed_breaks : End → Owed → Rule → Bool
owed_breaks e NewMessage r = message_breaks e NewMessage r
owed_breaks e NextBlock r = message_breaks e NextBlock r
owed_breaks e Acknowledgment r = acknowledgment_breaks e r
owed_breaks e SameBlock r = repeat_breaks e r
owed_breaks e Correction r = correction_breaks e r
owed_breaks e Refusal r = refusal_breaks e r
owed_breaks e SameRequest r = request_breaks e r
owed_breaks e (Answer s octet) r = response_breaks s octet r
owed_breaks e EitherBlock r = either_breaks e r
owed_breaks e MessageOrCorrection r = begun_or_corrected_breaks e r
owed_breaks e MessageOrRefusal r = or_refusal_breaks e r (message_breaks e MessageOrRefusal r)
owed_breaks e AcknowledgmentOrRefusal r = or_refusal_breaks e r (acknowledgment_breaks e r)
owed_breaks e AnyBlock r = any_breaks e r

-- Whether some block of an end that owes this breaks the rule. Each end has a request that only the other end makes.
abbrev pub can_break : End → Owed → Rule → Bool
can_break e owed rule.ForeignRequest = true
can_break e owed r = owed_breaks e owed r

-- A request that can be on the line: if it is about a size, the size isn't reserved (11.4.2).
abbrev pub CanBeSent : Option Asked → Type 0
CanBeSent None = Unit {0}
CanBeSent (Some (Size n)) = IsFieldSize n
CanBeSent (Some (Time n)) = Unit {0}
CanBeSent (Some Stop) = Unit {0}
CanBeSent (Some Anew) = Unit {0}

-- some block breaks the rule, if its sender owes this and its last I-block had the field last
pub record IsBreakable (e : End) (owed : Owed) (last : List ℕ) (r : Rule) : Type 0 where
  pub pcb : Pcb
  pub inf : List ℕ
  pub suits : Suits 254 pcb inf
  pub breaks : sends e owed last pcb inf ≡ Err r

-- ---- what is at stake

-- it is the other end's turn
abbrev pub is_nothing : Heard → Bool
is_nothing Beginning = false
is_nothing (Whole pcb octet) = false
is_nothing (Perhaps pcb octet) = false
is_nothing Broken = false
is_nothing Nothing = true

-- Whether an end that sends a block keeps or breaks the rule. A card can send out of turn, and it owes a block if it
-- received one.
abbrev pub at_stake : Stakes → Rule → Bool
at_stake s rule.NodeAddress = true
at_stake s rule.ControlOctet = true
at_stake s rule.Length = true
at_stake s rule.CheckOctet = true
at_stake s rule.ReservedSize = true
at_stake s rule.Turn = is_card s.due.«end».side || is_nothing s.heard
at_stake s rule.Silence = is_card s.due.«end».side && is_sure s.heard
at_stake s r = not (is_nothing s.heard) && can_break s.due.«end» s.due.owed r

-- ---- what a block did

-- The course on which a block is judged: the first, unless only the other course permits the block, or only an unknown
-- last block of its sender.
abbrev pub fitting : After → Option After → Option Sent → Option Sent → After
fitting first second (Some (Ok e)) other = first
fitting first (Some second) course (Some (Ok e)) = second
fitting first second course other = first

-- the same for a deviation of an end whose last block nobody knows
abbrev pub open_course : Watched → After → Sent → After
open_course w due (Ok e) = after (unknown_end w.«end») AnyBlock
open_course w due (Err broken) = due

abbrev pub course_of : Watched → Seen → After
course_of w (whole block) =
    if is_open w.doubt && only_openly (judges w.«end» w.heard w.last.items block.pcb block.inf).verdict
    (sent_openly w block)
    then after (unknown_end w.«end») AnyBlock
    else fitting (due w) (got_none w.«end» w.heard)
    (attempted (got_whole w.«end» w.heard) w.last.items block.pcb block.inf)
    (attempted (got_none w.«end» w.heard) w.last.items block.pcb block.inf)
course_of w (malformed broken) = due w
course_of w damage = due w

abbrev pub stakes_of : Watched → Seen → Stakes
stakes_of w seen = record { heard = w.heard; due = course_of w seen }

-- what was due from an end, if it was its turn
abbrev pub came_in : Stakes → Option State
came_in s = if is_nothing s.heard then None else Some (state_of s.due.owed)

-- A permitted block keeps each rule that was at stake. Another block breaks the rule that the judge names. Nothing is
-- known about damage, and about a block of another logical connection.
abbrev pub exercise_by : Stakes → Said → Exercise
exercise_by s Damage = exercise.Unknown
exercise_by s Elsewhere = exercise.Unknown
exercise_by s (Block Permitted) = exercise.Keeps s
exercise_by s (Block Unseen) = exercise.Keeps s
exercise_by s (Block (Deviates broken owed)) = exercise.Breaks broken (came_in s)

-- what octets of an end exercise, before the monitor takes them
abbrev pub exercise_of : Monitor → Side → Seen → Exercise
exercise_of m from seen = exercise_by (stakes_of (sender m from) seen) (said_in m from seen)

abbrev pub Exercises : Monitor → Side → List ℕ → Arrival → Exercise → Type 0
Exercises m from octets arrival x = (seen : Seen) × IsSent octets arrival seen × (x ≡ exercise_of m from seen)
