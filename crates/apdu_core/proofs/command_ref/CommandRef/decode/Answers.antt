use Rattle.std.proofs.Common.{ℕ, List, arith, sym, subst}
use Rattle.octet_core.specs.Octets.{AreOctets}
use Rattle.octet_core.specs.Grammar.{whole, Refuses}
use Rattle.apdu_core.specs.Command.{IsCommand, IsReason}
use Rattle.apdu_core.proofs.Refusals.{short-header}
use Rattle.apdu_core.proofs.command_ref.CommandRef.decode.Goals as goal

pub returns-in_default-clause-refused : goal.returns-in_default-clause-refused
returns-in_default-clause-refused c =
    let b : List ℕ = c.args.octets.now in
    let octets : AreOctets b = λ i. omega (arith, c.type_inv.octets i) in
    subst (Refuses whole IsCommand IsReason b) (sym c.short.ensures)
    (short-header b octets (omega (arith, c.in_default.ensures.cases)))
