-- The state of an end of T=1, and what it owes after a block that it heard (ISO/IEC 7816-3:2006, clause 11.6). The
-- rules are those of 11.6.2.3 (1 to 5) and 11.6.3.2 (6 to 9).
use Rattle.std.specs.Prelude.{ℕ, ◌==◌, Bool, true, false, if◌then◌else◌, max, Option, Some, None}
use Rattle.block_core.specs.Block.{other}
use Rattle.block_core.specs.declared.pcb.Number.{Number}
use Rattle.block_core.specs.declared.pcb.Number.TheVariants.{Zero}
use Rattle.block_core.specs.declared.pcb.S.{S}
use Rattle.block_core.specs.declared.pcb.S.TheVariants.{Resynch, Ifs, Abort, Wtx}
use Rattle.block_core.specs.declared.pcb.Pcb.{Pcb}
use Rattle.block_core.specs.declared.pcb.Pcb.TheVariants.{Info, Ready, Request, Response}
use Rattle.t1_core.specs.Came.{same}
use Rattle.block_core.specs.declared.side.Side.{Side}
use Rattle.block_core.specs.declared.side.Side.TheVariants.{Terminal, Card}
use Rattle.judge_core.specs.declared.end.Pending.{Pending}
use Rattle.judge_core.specs.declared.end.Pending.TheVariants.{Settled, Chain, Last}
use Rattle.judge_core.specs.declared.end.Asked.{Asked}
use Rattle.judge_core.specs.declared.end.Asked.TheVariants.{Size, Time, Stop, Anew}
use Rattle.judge_core.specs.declared.end.Owed.{Owed}
use Rattle.judge_core.specs.declared.end.Owed.TheVariants.{NewMessage, NextBlock, Acknowledgment, SameBlock, Correction, SameRequest, Answer, EitherBlock, MessageOrCorrection, AnyBlock}
use Rattle.judge_core.specs.declared.end.Row.{Row}
use Rattle.judge_core.specs.declared.end.End.{End}
use Rattle.judge_core.specs.declared.end.After.{After}

abbrev pub after : End → Owed → After
after e owed = record { «end» = e; owed = owed }

-- nothing was repeated or corrected
abbrev pub no_row : Row
no_row = record { repeats = 0; corrections = 0 }

-- An end at a reset of the card, with the largest field that it may send: for the terminal the IFSC of the answer to
-- reset, for the card 32 octets (11.4.2). Numbers begin at 0 (rule 2.1).
abbrev pub new_end : Side → ℕ → End
new_end side room = record {
  side = side;
  next = Zero;
  expects = Zero;
  pending = Settled;
  asked = None;
  before = NewMessage;
  tries = 0;
  row = no_row;
  room = room;
  first_room = room;
  largest_room = room;
  known = true;
  aborted = false;
}

-- The larger one of the size that holds and of that at the start.
abbrev pub widest : End → ℕ
widest e = max e.room e.first_room

-- The longest field that the end may repeat. It may have sent that block when another size held (rule 7.1).
abbrev pub repeatable : End → ℕ
repeatable e = max e.room e.largest_room

-- After RESYNCH numbers begin again (rule 6.5). Whether sizes do too isn't certain, so the larger size is permitted.
abbrev pub begun : End → End
begun e = record e {
  next = Zero;
  expects = Zero;
  pending = Settled;
  asked = None;
  before = NewMessage;
  tries = 0;
  row = no_row;
  room = widest e;
  largest_room = widest e;
  known = true;
  aborted = false;
}

-- whether the response answers the request: a size or a multiple has to be repeated unchanged (rules 3 and 4)
abbrev pub answers : Asked → Pcb → ℕ → Bool
answers (Size n) (Response Ifs) carried = carried == n
answers (Time n) (Response Wtx) carried = carried == n
answers Stop (Response Abort) carried = true
answers Anew (Response Resynch) carried = true
answers asked pcb carried = false

-- The end's ABORT was answered, and it owed this before. Its chain is over. It may begin a message, or hand over the right
-- to send by an R-block (rule 9). Of an end about which nothing is known, the response says nothing either.
abbrev pub stopped : End → Owed → After
stopped e AnyBlock = after (record e { asked = None }) AnyBlock
stopped e owed = after (record e { asked = None; pending = Settled }) EitherBlock

-- The end's request was answered: it owes what it owed before. After RESYNCH it begins again (rule 6).
abbrev pub answered : End → Asked → After
answered e (Size n) = after (record e { asked = None }) e.before
answered e (Time n) = after (record e { asked = None }) e.before
answered e Stop = stopped e e.before
answered e Anew = after (begun e) NewMessage

-- After the other end's R-block, with the number of this end's next I-block or of its last one. After a chain's block
-- the next number acknowledges it (rule 2.2). The number of the last I-block asks for that again (rule 7.1). Else the
-- other end lacks a block that this end can't know, and this end says which I-block it expects itself (rule 7.1). After
-- ABORT an R-block may hand over the right to send (rule 9), or ask for this end's R-block again. The end can't tell
-- which.
abbrev pub hears_ready : End → Pending → Bool → After
hears_ready e Chain true = after (record e { pending = Settled }) NextBlock
hears_ready e Chain false = after e SameBlock
hears_ready e Last true = after e Correction
hears_ready e Last false = after e SameBlock
hears_ready e Settled true = if e.aborted then after e MessageOrCorrection else after e Correction
hears_ready e Settled false = after e Correction

-- After the other end's request: only the terminal asks for RESYNCH (rule 6.1), and only the card for time (rule 3).
abbrev pub hears_request : End → Side → S → ℕ → After
hears_request e side Ifs carried = after e (Answer Ifs carried)
hears_request e side Abort carried = after e (Answer Abort 0)
hears_request e Terminal Wtx carried = after e (Answer Wtx carried)
hears_request e Card Wtx carried = after e Correction
hears_request e Terminal Resynch carried = after e Correction
hears_request e Card Resynch carried = after e (Answer Resynch 0)

-- after an I-block with the expected number: an acknowledgment if its chain goes on (rule 2.2), else a message (rule
-- 2.1)
abbrev pub due_after : Bool → Owed
due_after true = Acknowledgment
due_after false = NewMessage

-- an I-block of the other end acknowledges the last block of a message, but not an earlier block of it (rules 2.1, 2.2)
abbrev pub is_chain : Pending → Bool
is_chain Settled = false
is_chain Chain = true
is_chain Last = false

abbrev pub hears_info : End → Number → Bool → After
hears_info e number more =
    if is_chain e.pending then after e Correction
    else (if same number e.expects
    then after (record e { expects = other e.expects; pending = Settled; aborted = false }) (due_after more)
    else after e Correction)

-- What an end owes if it waits for no response.
abbrev pub hears_free : End → Pcb → ℕ → After
hears_free e (Info number more) carried = hears_info e number more
hears_free e (Ready number fault) carried = hears_ready e e.pending (same number e.next)
hears_free e (Request s) carried = hears_request e e.side s carried
hears_free e (Response s) carried = after e Correction

-- An end that waits for a response takes every other block for an error, and asks again (rule 7.3).
abbrev pub hears_asking : End → Option Asked → Pcb → ℕ → After
hears_asking e None pcb carried = hears_free e pcb carried
hears_asking e (Some asked) pcb carried =
    if answers asked pcb carried then answered e asked else after e SameRequest

-- The line damaged the end's own last block, so nobody knows it. The numbers of the other end's block hold.
abbrev pub hears_unknown : End → Pcb → After
hears_unknown e (Info number more) =
    after (record e { expects = other number; pending = Settled; aborted = false }) AnyBlock
hears_unknown e (Ready number fault) = after e AnyBlock
hears_unknown e (Request s) = after e AnyBlock
hears_unknown e (Response s) = after e AnyBlock

-- a card accepts RESYNCH whatever it waits for (rule 6)
abbrev pub begins_again : Side → Pcb → Bool
begins_again Card (Request Resynch) = true
begins_again side pcb = false

-- What an end owes after a block of the other end. The octet is the size or the multiple that the block carries.
abbrev pub hears : End → Pcb → ℕ → After
hears e pcb carried =
    if begins_again e.side pcb then after e (Answer Resynch 0)
    else (if e.known then hears_asking e e.asked pcb carried else hears_unknown e pcb)

abbrev pub missed_asking : Option Asked → Owed
missed_asking None = Correction
missed_asking (Some asked) = SameRequest

-- What an end owes after octets that aren't a block, or, for a terminal, after silence: an R-block (rules 7.1 and 7.2),
-- or the same request (rule 7.3).
abbrev pub missed : End → Owed
missed e = if e.known then missed_asking e.asked else AnyBlock
