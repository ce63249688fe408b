use Rattle.std.proofs.Common.{◌≡◌, take, nat_lt}
use Rattle.std.specs.Prelude.{count_by}
use Rattle.tlv_core.proofs.open_ends.number_after.Given as goal

abbrev pub invariant-loop-index : goal.invariant-loop-index
invariant-loop-index l = l.number ≡ count_by (λ place. nat_lt l.count place) (take l.index l.places)
