use Rattle.std.proofs.Common.{◌≡◌, ◌-◌, ◌≤◌, ℕ, List, ◌++◌, length, take}
use Rattle.tlv_core.specs.Read.{HasRead}
use Rattle.tlv_core.proofs.reader.ForestReader.feed.Given as goal

abbrev pub invariant-loop-taken : goal.invariant-loop-taken
invariant-loop-taken l = (l.taken ≤ length l.piece) × (l.self.kept.max ≡ l.fn.self.kept.max)
    × ((b : List ℕ) → HasRead b l.fn.self → HasRead (b ++ take l.taken l.piece) l.self)

abbrev pub decreases-loop-taken : goal.decreases-loop-taken
decreases-loop-taken l = length l.piece - l.taken
