use Rattle.std.proofs.Common.{◌≡◌, ◌++◌}
use Rattle.dumps.specs.Dump.{copies, with_octets}
use Rattle.dumps.specs.Taking.{taken}
use Rattle.dumps.proofs.line.Dump.copy.Given as goal

abbrev pub invariant-loop-done : goal.invariant-loop-done
invariant-loop-done l = record {
  rest : taken l.self ≡ with_octets l.self.octets.items (taken l.fn.self);
  octets : l.self.octets.items ≡ l.fn.self.octets.items ++ copies l.done l.fn.self.row.items;
}
