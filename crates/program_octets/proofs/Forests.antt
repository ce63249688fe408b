-- What a new check of a forest answers to a whole list.
use Rattle.std.proofs.Common.{◌≡◌, ◌++◌, ◌∙◌, ℕ, List, [], Result, MatchResult, subst}
use Rattle.octet_core.specs.Grammar.{Refuses, RefusesAt, whole}
use Rattle.octet_core.specs.declared.stop.Stop.{Stop}
use Rattle.octet_core.proofs.Verdicts.{refuses_at}
use Rattle.tlv_core.specs.Check.{Checked, HasChecked}
use Rattle.tlv_core.specs.Forest.{largest, IsForest}
use Rattle.tlv_core.specs.Reasons.{IsReason}
use Rattle.tlv_core.specs.Tree.{Tree}
use Rattle.tlv_core.specs.declared.reason.TlvReason.{TlvReason}

-- where a new check refuses the octets that it is fed, that is the verdict on them
pub fed-refused : (old : Checked) (b : List ℕ) (stop : Stop TlvReason) → old.kept.max ≡ largest → HasChecked [] old
    → ((t : List ℕ) → HasChecked t old → RefusesAt whole (IsForest old.kept.max) (IsReason old.kept.max) (t ++ b) stop)
    → Refuses whole (IsForest largest) (IsReason largest) b stop
fed-refused old b stop limit nothing refused =
    refuses_at whole (IsForest largest) (IsReason largest) b stop
    (subst (λ (m : ℕ). RefusesAt whole (IsForest m) (IsReason m) b stop) limit (refused [] nothing))

-- and where it takes them, what it says at the end is
pub fed-verdict : (old new : Checked) (b : List ℕ) (end : Result Unit (Stop TlvReason)) → old.kept.max ≡ largest
    → HasChecked [] old → new.kept.max ≡ old.kept.max
    → ((t : List ℕ) → HasChecked t old → HasChecked (t ++ b) new)
    → ((t : List ℕ) → HasChecked t new
    → MatchResult end (λ _. (s : Tree) × IsForest new.kept.max s t)
    (Refuses whole (IsForest new.kept.max) (IsReason new.kept.max) t))
    → MatchResult end (λ _. (s : Tree) × IsForest largest s b) (Refuses whole (IsForest largest) (IsReason largest) b)
fed-verdict old new b end limit nothing same taken verdict =
    subst (λ (m : ℕ). MatchResult end (λ _. (s : Tree) × IsForest m s b) (Refuses whole (IsForest m) (IsReason m) b))
    (same ∙ limit) (verdict b (taken [] nothing))
