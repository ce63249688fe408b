-- The state of a check of octets that come in pieces.
use Rattle.std.specs.Prelude.{◌≡◌, ℕ, ◌<◌, List, Option, Some, None, Result, Ok, Err}
use Rattle.octet_core.specs.Grammar.{IsFirst}
use Rattle.octet_core.specs.declared.stop.Stop.{Stop}
use Rattle.octet_core.specs.declared.stop.Stop.TheVariants.{At}
use Rattle.tlv_core.specs.declared.reason.TlvReason.{TlvReason}
use Rattle.octet_core.specs.declared.stop.Refusal.{Refusal}
use Rattle.tlv_core.specs.Reasons.{Kept, HasTaken, tlv_reasons}
use Rattle.tlv_core.specs.Steps.{IsWrongAfter}

-- what the octets so far leave open, and why the next one was refused, if it was
pub record Checked : Type 0 where
  pub kept : Kept
  pub refusal : Option (Refusal TlvReason)

-- A check with this state has taken the octets b, and refused none.
pub record HasChecked (b : List ℕ) (k : Checked) : Type 0 where
  pub taken : HasTaken b k.kept
  pub none : k.refusal ≡ None

-- what the check returns from then on
abbrev pub answer_of : Option (Refusal TlvReason) → Result (Unit {0}) (Stop TlvReason)
answer_of None = Ok tt
answer_of (Some r) = Err (At r.place r.reason)

-- the refusal of the octet at this place, if any
abbrev pub refusal_at : ℕ → Option TlvReason → Option (Refusal TlvReason)
refusal_at count None = None
refusal_at count (Some reason) = Some (record { place = count; reason = reason })

-- some octet may come next that is refused for this reason, if there is a reason; no octet of a
-- value is due then
abbrev pub IsRefusable : Kept → Option (Refusal TlvReason) → Type 0
IsRefusable k None = Unit {0}
IsRefusable k (Some r) = (k.value_left ≡ 0) × (x : ℕ) × (x < 256) × IsFirst tlv_reasons (IsWrongAfter k x) r.reason

-- the refusal that was kept is such a refusal
abbrev pub MayRefuse : Checked → Type 0
MayRefuse k = IsRefusable k.kept k.refusal
