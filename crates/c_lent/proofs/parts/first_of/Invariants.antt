use Rattle.std.proofs.Common.{◌≡◌, ◌<◌, drop}
use Rattle.c_lent.specs.Parts.{found}
use Rattle.c_lent.proofs.parts.first_of.Given as goal

-- what is found in the parts that are left is what is found
abbrev pub invariant-loop-index : goal.invariant-loop-index
invariant-loop-index l = record {
  small : l.met < 256;
  left : found l.path l.met (drop l.index l.parts) ≡ found l.path 0 l.parts;
}
