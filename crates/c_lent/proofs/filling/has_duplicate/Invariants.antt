use Rattle.std.proofs.Common.{ℕ, ◌≡◌, ◌<◌, ◌+◌, drop, map}
use Rattle.std.specs.Prelude.{None, Some, slice_get}
use Rattle.tlv_core.specs.declared.known.Known.{Known}
use Rattle.tlv_core.specs.Fill.{known_for}
use Rattle.c_lent.specs.Fill.{known_seen}
use Rattle.c_lent.proofs.filling.has_duplicate.Given as goal

-- the tag of none of the first ones comes again
abbrev pub invariant-loop-place : goal.invariant-loop-place
invariant-loop-place l = (i : ℕ) (k : Known) → i < l.place → slice_get (map known_seen l.known) i ≡ Some k
    → known_for k.tag (drop (i + 1) (map known_seen l.known)) ≡ None
