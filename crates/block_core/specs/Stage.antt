-- The stage of a block whose first octets a reader holds.
use Rattle.std.specs.Prelude.{Bool, true, false, Result, Ok, Err, ◌≡◌, ℕ, ◌+◌, ◌-◌, ◌<◌, ◌≤◌, List, length, slice_index, Option, None, Some}
use Rattle.octet_core.specs.Grammar.{self_ended, RefusesAt}
use Rattle.octet_core.specs.Sizes.{IsFieldSize}
use Rattle.octet_core.specs.declared.stop.Refusal.{Refusal}
use Rattle.octet_core.specs.declared.stop.Stop.{Stop}
use Rattle.octet_core.specs.declared.stop.Stop.TheVariants.{At}
use Rattle.block_core.specs.Block.{IsBlock, IsReason, IsAboutIfs, FitsLen, pcb_octet}
use Rattle.block_core.specs.declared.pcb.Pcb.{Pcb}
use Rattle.block_core.specs.declared.reason.BlockReason.{BlockReason}
use Rattle.block_core.specs.declared.stage.Stage.{Stage}
use Rattle.block_core.specs.declared.stage.Stage.TheVariants.{Front, Len, Size, Rest, Done, Refused}

-- how many octets there are up to and including the one that is tested next, 0 if no octet is
-- tested
abbrev pub tested_len : Stage → ℕ
tested_len Front = 2
tested_len (Len pcb) = 3
tested_len (Size pcb) = 4
tested_len (Rest pcb end) = end + 1
tested_len (Done block) = 0
tested_len (Refused refusal) = 0

abbrev pub refusal_at : Stage → Option (Refusal BlockReason)
refusal_at Front = None
refusal_at (Len pcb) = None
refusal_at (Size pcb) = None
refusal_at (Rest pcb end) = None
refusal_at (Done block) = None
refusal_at (Refused refusal) = Some refusal

-- whether the block is whole, or the refusal
abbrev pub answer_of : Stage → Result Bool (Stop BlockReason)
answer_of Front = Ok false
answer_of (Len pcb) = Ok false
answer_of (Size pcb) = Ok false
answer_of (Rest pcb end) = Ok false
answer_of (Done block) = Ok true
answer_of (Refused refusal) = Err (At refusal.place refusal.reason)

-- the size in a block about IFS isn't 0 or 255
abbrev pub IsSized : Pcb → ℕ → Type 0
IsSized pcb size = IsAboutIfs pcb → IsFieldSize size

-- the octets held have a kind, and a length that fits it
pub record IsHeaded (ifs : ℕ) (pcb : Pcb) (held : List ℕ) : Type 0 where
  pub kind : pcb_octet pcb ≡ slice_index held 1
  pub fits : FitsLen ifs pcb (slice_index held 2)

-- the stage of a reader that holds these octets
abbrev pub IsAt : ℕ → Stage → List ℕ → Type 0
IsAt ifs Front held = length held < 2
IsAt ifs (Len pcb) held = (length held ≡ 2) × (pcb_octet pcb ≡ slice_index held 1)
IsAt ifs (Size pcb) held = (length held ≡ 3) × IsHeaded ifs pcb held × IsAboutIfs pcb
IsAt ifs (Rest pcb end) held = (3 ≤ length held) × (length held ≤ end) × (end ≡ 3 + slice_index held 2)
    × IsHeaded ifs pcb held × (IsAboutIfs pcb → 3 < length held) × IsSized pcb (slice_index held 3)
IsAt ifs (Done block) held = IsBlock ifs block held
IsAt ifs (Refused refusal) held = RefusesAt self_ended (IsBlock ifs) (IsReason ifs) held
    (At refusal.place refusal.reason)

-- the last of these octets is the one that is tested
abbrev pub IsTested : ℕ → Stage → List ℕ → Type 0
IsTested ifs Front held = length held ≡ 2
IsTested ifs (Len pcb) held = (length held ≡ 3) × (pcb_octet pcb ≡ slice_index held 1)
IsTested ifs (Size pcb) held = (length held ≡ 4) × IsHeaded ifs pcb held × IsAboutIfs pcb
IsTested ifs (Rest pcb end) held = (length held ≡ end + 1) × (end ≡ 3 + slice_index held 2) × IsHeaded ifs pcb held
    × IsSized pcb (slice_index held 3)
IsTested ifs (Done block) held = ⊥
IsTested ifs (Refused refusal) held = ⊥

-- no block can continue after the last of the octets held, for this reason
abbrev pub IsRefused : ℕ → List ℕ → BlockReason → Type 0
IsRefused ifs held reason = RefusesAt self_ended (IsBlock ifs) (IsReason ifs) held (At (length held - 1) reason)
