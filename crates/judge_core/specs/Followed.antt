-- A whole course of an end: the blocks that it sends in order, each permitted by what it may have heard.
use Rattle.std.specs.Prelude.{◌≡◌, ◌⊎◌, ℕ, List, [], ◌∷◌, Option, Some, None, Ok}
use Rattle.block_core.specs.declared.pcb.Pcb.{Pcb}
use Rattle.block_core.specs.declared.pcb.Pcb.TheVariants.{Info, Ready, Request, Response}
use Rattle.judge_core.specs.declared.end.End.{End}
use Rattle.judge_core.specs.declared.end.After.{After}
use Rattle.judge_core.specs.declared.courses.Heard.{Heard}
use Rattle.judge_core.specs.declared.courses.Heard.TheVariants.{Beginning, Whole, Perhaps, Broken, Nothing}
use Rattle.judge_core.specs.Sends.{sends}
use Rattle.judge_core.specs.declared.courses.Verdict.{Verdict}
use Rattle.judge_core.specs.declared.courses.Verdict.TheVariants.{Permitted, Unseen, Deviates}
use Rattle.judge_core.specs.declared.courses.Judged.{Judged}
use Rattle.judge_core.specs.Courses.{Permits, got_none, got_whole, judges}

-- it is certain whether the other end's last block came whole
abbrev pub IsCertain : Heard → Type 0
IsCertain Beginning = Unit {0}
IsCertain (Whole pcb octet) = Unit {0}
IsCertain (Perhaps pcb octet) = ⊥
IsCertain Broken = Unit {0}
IsCertain Nothing = Unit {0}

-- The end may send this block, and is then e', even if there was no unseen damage.
pub record PermitsSurely (e : End) (heard : Heard) (last : List ℕ) (pcb : Pcb) (inf : List ℕ) (e' : End) : Type 0 where
  pub due : After
  pub course : (got_whole e heard ≡ Some due) ⊎ (IsCertain heard × (got_none e heard ≡ Some due))
  pub sent : sends due.«end» due.owed last pcb inf ≡ Ok e'

-- A block of an end, and what the end may have heard before it.
pub record Sending : Type 0 where
  pub heard : Heard
  pub pcb : Pcb
  pub inf : List ℕ

-- the field of the last I-block, after a block
abbrev pub last_after : List ℕ → Pcb → List ℕ → List ℕ
last_after last (Info number more) inf = inf
last_after last (Ready number fault) inf = last
last_after last (Request s) inf = last
last_after last (Response s) inf = last

-- The end may send these blocks in order, each on some course, and is then e'. Its last I-block had the field last.
abbrev pub Follows : List Sending → End → List ℕ → End → Type 0
Follows [] e last e' = e ≡ e'
Follows (s ∷ ss) e last e' =
    (e1 : End) × Permits e s.heard last s.pcb s.inf e1 × Follows ss e1 (last_after last s.pcb s.inf) e'

-- ---- the decision

-- the end after a block that isn't a deviation
abbrev pub passed : Verdict → End → Option End
passed Permitted e = Some e
passed Unseen e = Some e
passed (Deviates broken owed) e = None

abbrev pub permitted : Judged → Option End
permitted judged = passed judged.verdict judged.«end»

abbrev pub goes_on : (End → List ℕ → Option End) → Option End → List ℕ → Option End
goes_on rest None last = None
goes_on rest (Some e) last = rest e last

-- The end after these blocks, or None at the first deviation.
abbrev pub followed : List Sending → End → List ℕ → Option End
followed [] e last = Some e
followed (s ∷ ss) e last =
    goes_on (followed ss) (permitted (judges e s.heard last s.pcb s.inf)) (last_after last s.pcb s.inf)
