use Rattle.std.proofs.Common.{◌≡◌, ◌≤◌, drop, false}
use Rattle.program.specs.TracePlaces.{seen_over}
use Rattle.program.proofs.trace_place.blocks_seen.Given as goal

-- what the lines that are left come to; a line is one block at most
abbrev pub invariant-loop-line : goal.invariant-loop-line
invariant-loop-line l =
    (seen_over l.seen l.added (drop l.line-index l.lines) ≡ seen_over 0 false l.lines) × (l.seen ≤ l.line-index)
