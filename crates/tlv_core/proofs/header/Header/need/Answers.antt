use Rattle.std.proofs.Common.{subst, arith, ◌-◌}
use Rattle.tlv_core.specs.Header.{IsWell}
use Rattle.tlv_core.proofs.Octet.{number_fits}
use Rattle.tlv_core.proofs.header.Header.need.Goals as goal

pub least_length-requires-clause-fits : goal.least_length-requires-clause-fits
least_length-requires-clause-fits c =
    let well = subst IsWell c.in-Sized.is c.requires in
    number_fits c.in-Sized.read (c.further.result - c.in-Sized.read) c.in-Sized.number
    (omega (arith, c.further.ensures.value, c.further.ensures.most, well.1)) well.2
