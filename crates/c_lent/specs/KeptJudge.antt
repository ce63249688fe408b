-- The state of a judge of a line as C keeps it.
use Rattle.std.specs.Prelude.{ℕ, ◌==◌, if◌then◌else◌, take, Bool, true, false, Option, Some, None}
use Rattle.std.specs.Option.{unwrap_or}
use Rattle.block_core.specs.declared.pcb.Number.{Number}
use Rattle.block_core.specs.declared.pcb.Number.TheVariants.{One}
use Rattle.block_core.specs.declared.pcb.Fault.{Fault}
use Rattle.block_core.specs.declared.pcb.Fault.TheVariants.{Other}
use Rattle.block_core.specs.declared.pcb.S.{S}
use Rattle.block_core.specs.declared.pcb.S.TheVariants.{Resynch, Ifs, Abort, Wtx}
use Rattle.block_core.specs.declared.pcb.Pcb.{Pcb}
use Rattle.block_core.specs.declared.pcb.Pcb.TheVariants.{Info, Ready, Request, Response}
use Rattle.block_core.specs.declared.side.Side.{Side}
use Rattle.block_core.specs.declared.side.Side.TheVariants.{Terminal, Card}
use Rattle.judge_core.specs.declared.end.Pending.{Pending}
use Rattle.judge_core.specs.declared.end.Pending.TheVariants.{Settled, Chain, Last}
use Rattle.judge_core.specs.declared.end.Asked.{Asked}
use Rattle.judge_core.specs.declared.end.Asked.TheVariants.{Size, Time, Stop, Anew}
use Rattle.judge_core.specs.declared.end.Owed.{Owed}
use Rattle.judge_core.specs.declared.end.Owed.TheVariants.{NewMessage, NextBlock, Acknowledgment, SameBlock, Correction, Refusal, SameRequest, Answer, EitherBlock, MessageOrCorrection, MessageOrRefusal, AcknowledgmentOrRefusal, AnyBlock}
use Rattle.judge_core.specs.declared.end.End.{End}
use Rattle.judge_core.specs.declared.courses.Heard.{Heard}
use Rattle.judge_core.specs.declared.courses.Heard.TheVariants.{Beginning, Whole, Perhaps, Broken, Nothing}
use Rattle.judge_core.specs.declared.connection.Last.{Last as LastOctets}
use Rattle.judge_core.specs.declared.connection.Last.TheVariants as octets
use Rattle.judge_core.specs.declared.connection.Pairs.{Pairs}
use Rattle.judge_core.specs.declared.connection.Pairs.TheVariants as pairs
use Rattle.judge_core.specs.declared.doubt.Doubt.{Doubt}
use Rattle.judge_core.specs.declared.doubt.Doubt.TheVariants.{Clear, Refusable, Open}
use Rattle.judge_core.specs.declared.monitor.Watched.{Watched}
use Rattle.judge_core.specs.declared.monitor.Monitor.{Monitor}
use Rattle.c_lent.specs.Number.{number_of, fault_of, subject_of}
use Rattle.c_lent.specs.Kept.{mark_of}
use Rattle.c_lent.specs.declared.kept_judge.CEnd.{CEnd}
use Rattle.c_lent.specs.declared.kept_judge.CHeard.{CHeard}
use Rattle.c_lent.specs.declared.kept_judge.CWatched.{CWatched}
use Rattle.c_lent.specs.declared.kept_judge.CJudge.{CJudge}

-- Each octet spells a value. An octet that isn't the number of one spells the last value of its list.

abbrev pub mark_in : ℕ → Bool
mark_in n = unwrap_or (mark_of n) true

abbrev pub number_in : ℕ → Number
number_in n = unwrap_or (number_of n) One

abbrev pub fault_in : ℕ → Fault
fault_in n = unwrap_or (fault_of n) Other

abbrev pub subject_in : ℕ → S
subject_in n = unwrap_or (subject_of n) Wtx

-- an end by its number
abbrev pub side_of : ℕ → Option Side
side_of n = if n == 0 then Some Terminal else (if n == 1 then Some Card else None)

abbrev pub side_in : ℕ → Side
side_in n = unwrap_or (side_of n) Card

abbrev pub doubt_in : ℕ → Doubt
doubt_in n = if n == 0 then Clear else (if n == 1 then Refusable else Open)

abbrev pub pending_in : ℕ → Pending
pending_in n = if n == 0 then Settled else (if n == 1 then Chain else Last)

-- a request by its number, with the octet that it carries
abbrev pub asked_in : ℕ → ℕ → Option Asked
asked_in kind octet =
    if kind == 0 then None
    else (if kind == 1 then Some (Size octet)
    else (if kind == 2 then Some (Time octet)
    else (if kind == 3 then Some Stop else Some Anew)))

-- the number of a request, 0 for none, and the octet that it carries
abbrev pub asked_shown : Option Asked → ℕ × ℕ
asked_shown None = (0, 0)
asked_shown (Some (Size octet)) = (1, octet)
asked_shown (Some (Time octet)) = (2, octet)
asked_shown (Some Stop) = (3, 0)
asked_shown (Some Anew) = (4, 0)

-- what is due by its number, with the octet that a response carries; no value has the number 0
abbrev pub owed_in : ℕ → ℕ → Owed
owed_in kind octet =
    if kind == 1 then NewMessage
    else (if kind == 2 then NextBlock
    else (if kind == 3 then Acknowledgment
    else (if kind == 4 then SameBlock
    else (if kind == 5 then Correction
    else (if kind == 6 then Refusal
    else (if kind == 7 then SameRequest
    else (if kind == 8 then Answer Resynch octet
    else (if kind == 9 then Answer Ifs octet
    else (if kind == 10 then Answer Abort octet
    else (if kind == 11 then Answer Wtx octet
    else (if kind == 12 then EitherBlock
    else (if kind == 14 then MessageOrCorrection
    else (if kind == 15 then MessageOrRefusal
    else (if kind == 16 then AcknowledgmentOrRefusal else AnyBlock))))))))))))))

-- the number of what is due, and the octet that a response carries
abbrev pub owed_shown : Owed → ℕ × ℕ
owed_shown NewMessage = (1, 0)
owed_shown NextBlock = (2, 0)
owed_shown Acknowledgment = (3, 0)
owed_shown SameBlock = (4, 0)
owed_shown Correction = (5, 0)
owed_shown Refusal = (6, 0)
owed_shown SameRequest = (7, 0)
owed_shown (Answer Resynch octet) = (8, octet)
owed_shown (Answer Ifs octet) = (9, octet)
owed_shown (Answer Abort octet) = (10, octet)
owed_shown (Answer Wtx octet) = (11, octet)
owed_shown EitherBlock = (12, 0)
owed_shown AnyBlock = (13, 0)
owed_shown MessageOrCorrection = (14, 0)
owed_shown MessageOrRefusal = (15, 0)
owed_shown AcknowledgmentOrRefusal = (16, 0)

-- a control octet by its kind, its number or subject, and whether more blocks follow or its fault
abbrev pub pcb_in : ℕ → ℕ → ℕ → Pcb
pcb_in kind about detail =
    if kind == 0 then Info (number_in about) (mark_in detail)
    else (if kind == 1 then Ready (number_in about) (fault_in detail)
    else (if kind == 2 then Request (subject_in about) else Response (subject_in about)))

abbrev pub heard_as : ℕ → Pcb → ℕ → Heard
heard_as kind pcb octet =
    if kind == 0 then Beginning
    else (if kind == 1 then Whole pcb octet
    else (if kind == 2 then Perhaps pcb octet
    else (if kind == 3 then Broken else Nothing)))

abbrev pub heard_of : CHeard → Heard
heard_of c = heard_as c.kind (pcb_in c.block c.about c.detail) c.octet

abbrev pub end_of : CEnd → End
end_of c = record {
  side = side_in c.side;
  next = number_in c.next;
  expects = number_in c.expects;
  pending = pending_in c.pending;
  asked = asked_in c.asked c.asked_octet;
  before = owed_in c.before c.before_octet;
  tries = c.tries;
  row = record { repeats = c.repeats; corrections = c.corrections };
  room = c.room;
  first_room = c.first_room;
  largest_room = c.largest_room;
  known = mark_in c.known;
  aborted = mark_in c.aborted;
}

abbrev pub watched_of : CWatched → Watched
watched_of c = record {
  «end» = end_of c.«end»;
  heard = heard_of c.heard;
  last = record { items = take c.last_len c.last };
  number = c.number;
  doubt = doubt_in c.doubt;
}

abbrev pub nad_in : Bool → ℕ → Option ℕ
nad_in false nad = None
nad_in true nad = Some nad

-- the pairs of node addresses by their number, with the second pair
abbrev pub pairs_in : ℕ → ℕ → Pairs
pairs_in kind other = if kind == 0 then pairs.First else (if kind == 1 then pairs.Two other else pairs.Many)

abbrev pub last_in : ℕ → LastOctets
last_in n =
    if n == 0 then octets.Here
    else (if n == 1 then octets.Unclear
    else (if n == 2 then octets.Asked
    else (if n == 3 then octets.Late else octets.Answered)))

-- The monitor with this state. Any state is one.
abbrev pub monitor_of : CJudge → Monitor
monitor_of c = record {
  terminal = watched_of c.terminal;
  card = watched_of c.card;
  nad = nad_in (mark_in c.has_nad) c.nad;
  pairs = pairs_in c.pairs c.other;
  last = last_in c.last;
  blocks = c.blocks;
}
