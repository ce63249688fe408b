use Rattle.std.proofs.Common.{◌≡◌, ◌++◌, ◌-◌, codes, string_bytes}
use Rattle.std.specs.List.{repeat}
use Rattle.program_octets.proofs.forest.push_indent.Given as goal

-- the spaces so far and those that are left
abbrev pub invariant-loop-left : goal.invariant-loop-left
invariant-loop-left l = string_bytes l.text ++ repeat l.left (codes "  ")
    ≡ string_bytes l.fn.text ++ repeat (l.fn.depth - 1) (codes "  ")

abbrev pub decreases-loop-left : goal.decreases-loop-left
decreases-loop-left l = l.left
