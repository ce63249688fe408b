use Rattle.std.proofs.Common.{◌≡◌, length}
use Rattle.traces.specs.Following.{after_items}
use Rattle.traces.specs.Unseen.{over_items}
use Rattle.traces.proofs.follower.Follower.follow.Given as goal

abbrev pub invariant-loop-rest : goal.invariant-loop-rest
invariant-loop-rest l =
    (after_items l.self l.rest ≡ after_items l.fn.self l.items)
    × (over_items l.self l.rest l.unseen.items ≡ over_items l.fn.self l.items l.fn.unseen.items)

abbrev pub decreases-loop-rest : goal.decreases-loop-rest
decreases-loop-rest l = length l.rest
