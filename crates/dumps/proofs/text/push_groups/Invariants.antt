use Rattle.std.proofs.Common.{◌≡◌, length}
use Rattle.dumps.specs.Characters.{groups, joined_to}
use Rattle.dumps.proofs.text.push_groups.Given as goal

abbrev pub invariant-loop-octet : goal.invariant-loop-octet
invariant-loop-octet l =
    joined_to l.octets.items (groups l.joins l.may_begin l.rest)
    ≡ joined_to l.fn.octets.items (groups l.joins l.spaced l.text)

abbrev pub decreases-loop-octet : goal.decreases-loop-octet
decreases-loop-octet l = length l.rest
