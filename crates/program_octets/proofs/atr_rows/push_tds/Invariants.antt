use Rattle.std.proofs.Common.{◌≡◌, ◌+◌, ◌<◌, length}
use Rattle.std.specs.List.{AllByRecursion}
use Rattle.program_octets.specs.AtrTexts.{tds_rows}
use Rattle.program_octets.specs.Rows.{with_rows}
use Rattle.program_octets.proofs.atr_rows.push_tds.Given as goal

-- the rows so far and those of the TDs that are left make the whole
abbrev pub invariant-loop-rest : goal.invariant-loop-rest
invariant-loop-rest l = record {
  whole : with_rows l.to (tds_rows l.number l.rest l.at) ≡ with_rows l.fn.to (tds_rows 1 l.indicated l.from);
  count : l.number + length l.rest ≡ length l.indicated + 1;
  protocols : AllByRecursion (λ x. x.protocol < 16) l.rest;
}

abbrev pub decreases-loop-rest : goal.decreases-loop-rest
decreases-loop-rest l = length l.rest
