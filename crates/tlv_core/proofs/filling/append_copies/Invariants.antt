use Rattle.std.proofs.Common.{◌≡◌, ◌++◌}
use Rattle.std.specs.Prelude.{replicate}
use Rattle.tlv_core.proofs.filling.append_copies.Given as goal

abbrev pub invariant-loop-added : goal.invariant-loop-added
invariant-loop-added l = l.out.items ≡ l.fn.out.items ++ replicate l.added l.octet
