use Rattle.std.proofs.Common.{◌≡◌, ◌≤◌, length}
use Rattle.dumps.specs.Bases.{offset_from}
use Rattle.dumps.proofs.text.offset.Given as goal

abbrev pub invariant-loop-rest : goal.invariant-loop-rest
invariant-loop-rest l = record {
  read : offset_from l.base 0 l.text ≡ offset_from l.base l.number l.rest;
  most : l.number ≤ 562949953421312;
}

abbrev pub decreases-loop-rest : goal.decreases-loop-rest
decreases-loop-rest l = length l.rest
