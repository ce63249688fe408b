use Rattle.std.proofs.Common.{◌≡◌, ◌<◌, length}
use Rattle.shortfall.specs.Atr.{announces_td, atr_from, atr_least, bytes_of}
use Rattle.shortfall.proofs.atr.atr_least.Given as goal

-- what the last T0 or TD announces begins here, and what is due then is what all octets need
abbrev pub invariant-loop-bytes : goal.invariant-loop-bytes
invariant-loop-bytes l = record {
  few : l.historical < 16;
  least : atr_from (bytes_of l.announcing) (announces_td l.announcing) l.historical l.tck l.rest ≡ atr_least l.octets;
}

abbrev pub decreases-loop-bytes : goal.decreases-loop-bytes
decreases-loop-bytes l = length l.rest
