use Rattle.std.proofs.Common.{◌≤◌, length, arith}
use Rattle.tlv_core.specs.Short.{taken_of}
use Rattle.tlv_core.proofs.Shorts.{at_front, header_taken}
use Rattle.tlv_core.proofs.short.header_within.Goals as goal

pub returns : goal.returns
returns c =
    let o = c.in_ok-found.found in
    let here : taken_of o ≤ length c.args.octets.now = omega (arith, c.taken.ensures, c.if-taken-octets.false) in
    let inside : o.header ≤ length c.args.octets.now = omega (arith, header_taken o, here) in
    (at_front c.args.octets.now c.args.front.now o c.requires.front (omega arith) inside c.in_ok-found.ensures, here)
