-- What the calls of a check of a forest do if the caller keeps the state.
use Rattle.std.specs.Prelude.{◌≡◌, ℕ, ◌↔◌, List, []}
use Rattle.tlv_core.specs.Check.{Checked, HasChecked}
use Rattle.c_lent.specs.Verdict.{ok_at, wrong_argument}
use Rattle.c_lent.specs.Pieces.{FeedsForest, EndsCheck}
use Rattle.c_lent.specs.KeptCheck.{IsCheck}
use Rattle.c_lent.specs.declared.verdict.Verdict.{Verdict}
use Rattle.c_lent.specs.declared.kept_check.CCheck.{CCheck}

-- the state is a check of a forest of at most this many octets, with no octets taken
pub record IsBegunCheck (max : ℕ) (c : CCheck) (v : Verdict) : Type 0 where
  pub check : Checked
  pub is : IsCheck c check
  pub limit : check.kept.max ≡ max
  pub nothing : (b : List ℕ) → HasChecked b check ↔ (b ≡ [])
  pub verdict : v ≡ ok_at 0

-- the state isn't a check
abbrev pub IsNoCheck : CCheck → Type 0
IsNoCheck c = (k : Checked) → IsCheck c k → ⊥

-- a check takes a piece, or refuses an octet of it, and the state is the check after that
pub record FeedsCheck (old : Checked) (piece : List ℕ) (c : CCheck) (v : Verdict) : Type 0 where
  pub new : Checked
  pub is : IsCheck c new
  pub fed : FeedsForest old new piece v

-- A piece for a check, or for a state that isn't a check.
pub record CheckFed (old new : CCheck) (piece : List ℕ) (v : Verdict) : Type 0 where
  pub none : IsNoCheck old → (v ≡ wrong_argument 0) × (new ≡ old)
  pub fed : (k : Checked) → IsCheck old k → FeedsCheck k piece new v

-- The end of the octets for a check, or for a state that isn't a check.
pub record CheckEnded (c : CCheck) (v : Verdict) : Type 0 where
  pub none : IsNoCheck c → v ≡ wrong_argument 0
  pub ended : (k : Checked) → IsCheck c k → EndsCheck k v
