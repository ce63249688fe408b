use Rattle.std.proofs.Common.{rules}
use Rattle.dumps.proofs.Lines.{copied}
use Rattle.dumps.proofs.line.Dump.copy.Goals as goal

pub loop-done-preserved : goal.loop-done-preserved
loop-done-preserved c = record {
  rest = search rules;
  octets = copied c.args.self.now.octets.items c.loop-done.self.octets.items c.extend_from_slice.new.self.items
      c.args.self.now.row.items c.loop-done.done c.loop-done.invariant.octets (search rules);
}
