use Rattle.std.proofs.Common.{ℕ, ◌≡◌, ◌<◌, ◌+◌, drop}
use Rattle.std.specs.Prelude.{None, Some, slice_get}
use Rattle.tlv_core.specs.declared.known.Known.{Known}
use Rattle.tlv_core.specs.Fill.{known_for}
use Rattle.tlv_core.proofs.filling.has_duplicate.Given as goal

abbrev pub invariant-loop-place : goal.invariant-loop-place
invariant-loop-place l = (i : ℕ) (k : Known) → i < l.place → slice_get l.known i ≡ Some k
    → known_for k.tag (drop (i + 1) l.known) ≡ None
