-- What an end may have heard, and what some course of it permits. A tap on the line doesn't see whether an end received
-- a block whole.
use Rattle.std.specs.Prelude.{◌≡◌, ◌⊎◌, ℕ, List, Bool, true, false, if◌then◌else◌, Option, Some, None, Ok, Err}
use Rattle.block_core.specs.declared.pcb.Pcb.{Pcb}
use Rattle.block_core.specs.declared.pcb.Pcb.TheVariants.{Info, Ready, Request, Response}
use Rattle.t1_core.specs.Came.{carried}
use Rattle.judge_core.specs.declared.end.Owed.TheVariants.{NewMessage, Refusal}
use Rattle.judge_core.specs.declared.end.End.{End}
use Rattle.judge_core.specs.declared.end.After.{After}
use Rattle.judge_core.specs.declared.rule.Rule.TheVariants.{Turn}
use Rattle.judge_core.specs.declared.courses.Heard.{Heard}
use Rattle.judge_core.specs.declared.courses.Heard.TheVariants.{Beginning, Whole, Perhaps, Broken, Nothing}
use Rattle.judge_core.specs.declared.courses.Verdict.{Verdict}
use Rattle.judge_core.specs.declared.courses.Verdict.TheVariants.{Permitted, Unseen, Deviates}
use Rattle.judge_core.specs.declared.courses.Judged.{Judged}
use Rattle.judge_core.specs.Ends.{after, answers, hears, hears_unknown, missed}
use Rattle.judge_core.specs.declared.end.Asked.{Asked}
use Rattle.judge_core.specs.Sends.{Sent, sends, suggested}

-- ---- the courses

-- a block certainly came whole
abbrev pub is_sure : Heard → Bool
is_sure Beginning = false
is_sure (Whole pcb octet) = true
is_sure (Perhaps pcb octet) = false
is_sure Broken = false
is_sure Nothing = false

-- What the end owes on the course on which it received the last block whole. A terminal begins (rule 1).
abbrev pub got_whole : End → Heard → Option After
got_whole e Beginning = Some (after e NewMessage)
got_whole e (Whole pcb octet) = Some (hears e pcb octet)
got_whole e (Perhaps pcb octet) = Some (hears e pcb octet)
got_whole e Broken = None
got_whole e Nothing = None

-- What an end owes if it didn't take the block. If its own last block isn't known, the numbers of the received block
-- hold nevertheless.
abbrev pub untaken : End → Pcb → After → After
untaken e pcb due = if e.known then due else hears_unknown e pcb

-- a block certainly came whole: if it is an I-block, the end may still refuse it
abbrev pub got_refused : End → Pcb → Option After
got_refused e (Info number more) = Some (untaken e (Info number more) (after e Refusal))
got_refused e (Ready number fault) = None
got_refused e (Request s) = None
got_refused e (Response s) = None

-- Whether the block answers the end's request. If it may have come, the next such request counts as a first one.
abbrev pub perhaps_answers : Option Asked → Pcb → ℕ → Bool
perhaps_answers None pcb octet = false
perhaps_answers (Some asked) pcb octet = answers asked pcb octet

abbrev pub uncounted : End → Pcb → ℕ → End
uncounted e pcb octet = if perhaps_answers e.asked pcb octet then record e { tries = 0 } else e

-- What the end owes on the course on which it received the last block damaged, or, for a terminal, heard nothing.
abbrev pub got_none : End → Heard → Option After
got_none e Beginning = None
got_none e (Whole pcb octet) = got_refused e pcb
got_none e (Perhaps pcb octet) = Some (untaken e pcb (after (uncounted e pcb octet) (missed e)))
got_none e Broken = Some (after e (missed e))
got_none e Nothing = None

-- The end may send this block on some course, and is then e'.
pub record Permits (e : End) (heard : Heard) (last : List ℕ) (pcb : Pcb) (inf : List ℕ) (e' : End) : Type 0 where
  pub due : After
  pub course : (got_whole e heard ≡ Some due) ⊎ (got_none e heard ≡ Some due)
  pub sent : sends due.«end» due.owed last pcb inf ≡ Ok e'

-- ---- the decision

-- the result of the block on a course, if there is that course
abbrev pub attempted : Option After → List ℕ → Pcb → List ℕ → Option Sent
attempted None last pcb inf = None
attempted (Some due) last pcb inf = Some (sends due.«end» due.owed last pcb inf)

-- the verdict on a block that only damage permits: damage to an earlier block that was seen whole, or to octets that
-- weren't a block anyway
abbrev pub by_damage : Heard → Verdict
by_damage Beginning = Permitted
by_damage (Whole pcb octet) = Permitted
by_damage (Perhaps pcb octet) = Unseen
by_damage Broken = Permitted
by_damage Nothing = Permitted

-- the first course, if there is one
abbrev pub first_course : End → Option After → Option After → After
first_course e (Some due) other = due
first_course e None (Some due) = due
first_course e None None = after e NewMessage

abbrev pub judgment : Verdict → End → Judged
judgment verdict e = record { verdict = verdict; «end» = e }

-- If no course permits the block, the judge names the rule of the first course. It goes on from the end that the block
-- suggests.
abbrev pub chosen : Heard → After → Pcb → ℕ → Option Sent → Option Sent → Judged
chosen heard due pcb octet (Some (Ok e)) other = judgment Permitted e
chosen heard due pcb octet whole (Some (Ok e)) = judgment (by_damage heard) e
chosen heard due pcb octet (Some (Err broken)) other =
    judgment (Deviates broken due) (suggested due.«end» pcb octet)
chosen heard due pcb octet None (Some (Err broken)) =
    judgment (Deviates broken due) (suggested due.«end» pcb octet)
chosen heard due pcb octet None None = judgment (Deviates Turn due) (suggested due.«end» pcb octet)

-- The judge's verdict on a block, and the end that the judge goes on from.
abbrev pub judges : End → Heard → List ℕ → Pcb → List ℕ → Judged
judges e heard last pcb inf = chosen heard (first_course e (got_whole e heard) (got_none e heard)) pcb (carried inf)
    (attempted (got_whole e heard) last pcb inf)
    (attempted (got_none e heard) last pcb inf)
