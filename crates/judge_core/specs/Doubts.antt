-- What is doubtful about an end: whether its last block was the one that the tap saw. The clauses are those of
-- ISO/IEC 7816-3:2006.
use Rattle.std.specs.Prelude.{ℕ, ◌&&◌, max, Bool, true, false, if◌then◌else◌, Ok, Err}
use Rattle.block_core.specs.Block.{Parts}
use Rattle.block_core.specs.declared.pcb.S.TheVariants.{Resynch, Ifs, Abort, Wtx}
use Rattle.block_core.specs.declared.pcb.Pcb.{Pcb}
use Rattle.block_core.specs.declared.pcb.Pcb.TheVariants.{Info, Ready, Request, Response}
use Rattle.judge_core.specs.declared.end.End.{End}
use Rattle.judge_core.specs.declared.end.Owed.TheVariants.{AnyBlock}
use Rattle.judge_core.specs.declared.courses.Heard.{Heard}
use Rattle.judge_core.specs.declared.courses.Heard.TheVariants.{Beginning, Whole, Perhaps, Broken, Nothing}
use Rattle.judge_core.specs.declared.courses.Verdict.{Verdict}
use Rattle.judge_core.specs.declared.courses.Verdict.TheVariants.{Permitted, Unseen, Deviates}
use Rattle.judge_core.specs.declared.courses.Judged.{Judged}
use Rattle.judge_core.specs.declared.doubt.Doubt.{Doubt}
use Rattle.judge_core.specs.declared.doubt.Doubt.TheVariants.{Clear, Refusable, Open}
use Rattle.judge_core.specs.declared.monitor.Watched.{Watched}
use Rattle.t1_core.specs.Terminal.{most_repeats}
use Rattle.judge_core.specs.Ends.{hears_unknown}
use Rattle.judge_core.specs.Sends.{Sent, sends}
use Rattle.judge_core.specs.Courses.{judges, judgment}

-- ---- an end that may have sent another block than the one that was seen

abbrev pub is_open : Doubt → Bool
is_open Clear = false
is_open Refusable = false
is_open Open = true

-- the end as if nobody knew its last block
abbrev pub unknown_end : End → End
unknown_end e = record e { known = false; before = AnyBlock }

-- whether only an unknown last block permits the block
abbrev pub only_openly : Verdict → Sent → Bool
only_openly Permitted sent = false
only_openly Unseen sent = false
only_openly (Deviates broken owed) (Ok e) = true
only_openly (Deviates broken owed) (Err q) = false

abbrev pub openly : Judged → Sent → Judged
openly judged (Ok e) = judgment Permitted e
openly judged (Err q) = judged

abbrev pub or_openly : Bool → Judged → Sent → Judged
or_openly is_free judged sent = if is_free && only_openly judged.verdict sent then openly judged sent else judged

-- the block as one of an end whose last block nobody knows
abbrev pub sent_openly : Watched → Parts → Sent
sent_openly w block = sends (unknown_end w.«end») AnyBlock w.last.items block.pcb block.inf

-- The verdict on a block. If no course permits it, and its sender may have sent a block that the tap didn't see, or may
-- correct its own, then it may be any block.
abbrev pub judged_of : Watched → Parts → Judged
judged_of w block = or_openly (is_open w.doubt) (judges w.«end» w.heard w.last.items block.pcb block.inf)
    (sent_openly w block)

-- An end that may have sent a block which the tap didn't see shows by its next I-block where it is. An R-block or an
-- S-block doesn't show that.
abbrev pub still_open : Doubt → Pcb → Doubt
still_open Clear pcb = Clear
still_open Refusable pcb = Clear
still_open Open (Info number more) = Clear
still_open Open (Ready number fault) = Open
still_open Open (Request s) = Open
still_open Open (Response s) = Open

abbrev pub is_info : Pcb → Bool
is_info (Info number more) = true
is_info (Ready number fault) = false
is_info (Request s) = false
is_info (Response s) = false

-- The end after its block. If the tap may have missed a block of it, nobody knows how often it tried before this I-block,
-- so it may ask for RESYNCH in place of a refusal (rule 7.4).
abbrev pub tried : Bool → End → End
tried openly e = if openly then record e { tries = most_repeats } else e

abbrev pub tried_after : Doubt → Pcb → End → End
tried_after doubt pcb e = tried (is_open doubt && is_info pcb) e

-- the other end may refuse a block that breaks a rule
abbrev pub doubt_after : Doubt → Pcb → Verdict → Doubt
doubt_after doubt pcb Permitted = still_open doubt pcb
doubt_after doubt pcb Unseen = still_open doubt pcb
doubt_after doubt pcb (Deviates broken owed) = Refusable

-- ---- what the tap didn't see

-- The end as if it answered the request for a size that it heard (11.4.2): then it may send longer fields. If it took an
-- I-block after ABORT, it owes no longer what is due after ABORT.
abbrev pub sized_by : End → Pcb → ℕ → End
sized_by e (Info number more) octet = record e { aborted = false }
sized_by e (Ready number fault) octet = e
sized_by e (Request Resynch) octet = e
sized_by e (Request Ifs) octet = record e { room = max e.room octet }
sized_by e (Request Abort) octet = e
sized_by e (Request Wtx) octet = e
sized_by e (Response s) octet = e

abbrev pub sized : End → Heard → End
sized e Beginning = e
sized e (Whole pcb octet) = sized_by e pcb octet
sized e (Perhaps pcb octet) = sized_by e pcb octet
sized e Broken = e
sized e Nothing = e

-- The end as if it took the I-block or the request that it heard. If it sends an I-block next, it did, except after an
-- ABORT: then an R-block lets it begin a message (rule 9).
abbrev pub presumed : End → Heard → End
presumed e Beginning = e
presumed e (Whole pcb octet) = record (sized_by (hears_unknown e pcb).«end» pcb octet) { aborted = e.aborted }
presumed e (Perhaps pcb octet) = record (sized_by (hears_unknown e pcb).«end» pcb octet) { aborted = e.aborted }
presumed e Broken = e
presumed e Nothing = e

-- whether it was this end's turn: it heard a block, or may have, or begins
abbrev pub is_turn : Heard → Bool
is_turn Beginning = true
is_turn (Whole pcb octet) = true
is_turn (Perhaps pcb octet) = true
is_turn Broken = false
is_turn Nothing = false

-- What is kept of a block that the end heard, or may have: a size, and its number if nobody knows the end's own last
-- block.
abbrev pub overlooked : End → Heard → End
overlooked e heard = if e.known then sized e heard else presumed e heard

-- An end whose turn passed without a block. It may have sent one that was lost before the tap, or that came late (rules
-- 1 and 7 of 11.6). So it may send any block next, and its silence is said once.
abbrev pub passed_over : Watched → Watched
passed_over w = if is_turn w.heard then record w { «end» = overlooked w.«end» w.heard; doubt = Open } else w

-- ---- a block that the other end may refuse

-- An end after octets of the other end that may refuse its block. If that block broke a rule, what it sends next may
-- correct it.
abbrev pub refused_doubt : Doubt → Doubt
refused_doubt Clear = Clear
refused_doubt Refusable = Open
refused_doubt Open = Open

abbrev pub corrected : Watched → Bool → Watched
corrected w refused = if refused then record w { doubt = refused_doubt w.doubt } else w

-- Octets that came to the terminal and are no block: it sends next. A terminal waits only after a block of its own, so if
-- its waiting time ends next, it sent one that the tap didn't see.
abbrev pub is_noise : Heard → Bool
is_noise Beginning = false
is_noise (Whole pcb octet) = false
is_noise (Perhaps pcb octet) = false
is_noise Broken = true
is_noise Nothing = false

abbrev pub turned : Doubt → Doubt
turned Clear = Refusable
turned Refusable = Refusable
turned Open = Open

abbrev pub given_turn : Bool → Watched → Watched
given_turn came w = if came && is_noise w.heard then record w { doubt = turned w.doubt } else w

-- What an end heard of a block that breaks a rule, whatever the trace says of its arrival: the end may take it or refuse
-- it.
abbrev pub in_doubt : Heard → Heard
in_doubt Beginning = Beginning
in_doubt (Whole pcb octet) = Perhaps pcb octet
in_doubt (Perhaps pcb octet) = Perhaps pcb octet
in_doubt Broken = Broken
in_doubt Nothing = Nothing

abbrev pub doubted_by : Doubt → Heard → Heard
doubted_by Clear heard = heard
doubted_by Refusable heard = in_doubt heard
doubted_by Open heard = heard

-- ---- waiting times

-- The terminal's waiting time ended: it heard nothing, whatever the card sent. A terminal waits only after a block of its
-- own. So if it was its turn, or if another waiting time ended since its last block, it sent a block that the tap didn't
-- see.
abbrev pub waited_doubt : Bool → Doubt → Doubt
waited_doubt true doubt = Open
waited_doubt false Clear = Refusable
waited_doubt false Refusable = Open
waited_doubt false Open = Open

abbrev pub waited : Watched → Watched
waited w = record w {
  «end» = overlooked w.«end» w.heard;
  heard = Broken;
  doubt = waited_doubt (is_turn w.heard) w.doubt;
}
