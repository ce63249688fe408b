-- The state of a check of a forest, as its caller keeps it.
use Rattle.std.specs.Prelude.{◌≢◌, ℕ, ◌+◌, ◌<◌, ◌≤◌, List, take}
use Rattle.tlv_core.specs.declared.header.Header.TheVariants.{Nothing}
use Rattle.tlv_core.specs.declared.lent.LentCheck.{LentCheck}
use Rattle.tlv_core.specs.Header.{IsWell, header_octets}
use Rattle.tlv_core.specs.Open.{AreEnds, AreNested, rooms_to}
use Rattle.tlv_core.specs.Reasons.{Kept, HasTaken}
use Rattle.tlv_core.specs.Check.{Checked, MayRefuse, refusal_at}

-- the places at which the open objects end, outermost first
abbrev pub ends_at : LentCheck → List ℕ
ends_at p = take p.level p.ends

-- The numbers are in the ranges that a check keeps to. Open objects end after the octets that came, within the limit,
-- and no later than the object around them. The unfinished value ends within the limit. No header is unfinished inside
-- an object of the greatest depth.
pub record AreInRange (p : LentCheck) : Type 0 where
  pub limit : p.max ≤ 1048576
  pub within : p.count + p.value_left ≤ p.max
  pub levels : p.level ≤ 16
  pub ahead : AreEnds p.max p.count (ends_at p)
  pub nested : AreNested (ends_at p)
  pub well : IsWell p.header
  pub shallow : p.header ≢ Nothing → p.level < 16

-- what the octets so far leave open
abbrev pub kept_at : LentCheck → Kept
kept_at p = record {
  max = p.max;
  count = p.count;
  rooms = rooms_to p.count (ends_at p);
  header =
      header_octets p.header;
  value_left = p.value_left;
}

-- the check with this state
abbrev pub checked_at : LentCheck → Checked
checked_at p = record { kept = kept_at p; refusal = refusal_at p.count p.refused }

-- This is the state of a check: some octets lead to it. If the next octet was refused, some octet is refused for this
-- reason.
pub record IsLentCheck (p : LentCheck) : Type 0 where
  pub range : AreInRange p
  pub led : (b : List ℕ) × HasTaken b (kept_at p)
  pub may : MayRefuse (checked_at p)
