use Rattle.std.proofs.Common.{◌-◌, ℕ, List, length, arith}
use Rattle.std.proofs.lemmas.List.{length-take}
use Rattle.octet_core.specs.Octets.{AreOctets}
use Rattle.apdu_core.proofs.Refusals.{short-status, too-long}
use Rattle.apdu_core.proofs.response_ref.ResponseRef.decode.Goals as goal

pub returns-in_default-clause-refused : goal.returns-in_default-clause-refused
returns-in_default-clause-refused c =
    let b : List ℕ = c.args.octets.now in
    let octets : AreOctets b = λ i. omega (arith, c.type_inv.octets i) in
    short-status b octets (omega arith)

pub returns-then-part-gt-LONGEST_PART-clause-refused : goal.returns-then-part-gt-LONGEST_PART-clause-refused
returns-then-part-gt-LONGEST_PART-clause-refused c =
    let b : List ℕ = c.args.octets.now in
    let octets : AreOctets b = λ i. omega (arith, c.type_inv.octets i) in
    too-long b octets (omega (arith, c.if-part-gt-LONGEST_PART.true, length-take (length b - 2) b))
