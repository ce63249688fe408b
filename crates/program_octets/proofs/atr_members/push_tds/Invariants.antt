use Rattle.std.proofs.Common.{◌≡◌, ◌+◌, ◌<◌, length, string_bytes}
use Rattle.std.specs.List.{AllByRecursion}
use Rattle.program_octets.specs.AtrTexts.{with_tds}
use Rattle.program_octets.proofs.atr_members.push_tds.Given as goal

-- the TDs that are left, added to the items so far, make the whole
abbrev pub invariant-loop-rest : goal.invariant-loop-rest
invariant-loop-rest l = record {
  whole : with_tds (string_bytes l.items) l.number l.rest ≡ with_tds (string_bytes l.fn.items) 1 l.indicated;
  count : l.number + length l.rest ≡ length l.indicated + 1;
  protocols : AllByRecursion (λ x. x.protocol < 16) l.rest;
}

abbrev pub decreases-loop-rest : goal.decreases-loop-rest
decreases-loop-rest l = length l.rest
