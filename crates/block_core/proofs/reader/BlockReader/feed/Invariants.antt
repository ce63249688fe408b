use Rattle.std.proofs.Common.{length, ◌-◌, ◌≡◌, ◌≤◌, ◌++◌, take}
use Rattle.block_core.specs.Taking.{IsClosed}
use Rattle.block_core.proofs.reader.BlockReader.feed.Given as goal

-- what was taken so far; a reader that took no more is as it was
abbrev pub invariant-loop-taken : goal.invariant-loop-taken
invariant-loop-taken l = record {
  inside : l.taken ≤ length l.piece;
  so_far : l.self.taken ≡ l.fn.self.taken ++ take l.taken l.piece;
  size : l.self.ifs ≡ l.fn.self.ifs;
  closed : IsClosed l.fn.self → (l.self ≡ l.fn.self) × (l.taken ≡ 0);
}

abbrev pub decreases-loop-taken : goal.decreases-loop-taken
decreases-loop-taken l = length l.piece - l.taken
