use Rattle.std.specs.Prelude.{ℕ, ◌<◌, ◌≤◌, slice_index}
use Rattle.std.proofs.Common.{suc}
use Rattle.tlv_core.proofs.lent.are_nested.Given as goal

abbrev pub invariant-loop-inner : goal.invariant-loop-inner
invariant-loop-inner l = (i : ℕ) → suc i < l.inner → slice_index l.ends (suc i) ≤ slice_index l.ends i
