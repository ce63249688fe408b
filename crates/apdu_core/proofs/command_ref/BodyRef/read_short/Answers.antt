use Rattle.std.proofs.Common.{◌-◌, ℕ, List, length, drop, arith, sym, subst}
use Rattle.std.proofs.lemmas.List.{length-drop, length-take}
use Rattle.octet_core.specs.Octets.{AreOctets}
use Rattle.octet_core.specs.Grammar.{whole, Refuses}
use Rattle.apdu_core.specs.Command.{IsCommand, IsReason}
use Rattle.apdu_core.proofs.Refusals.{short-part, trailing-short}
use Rattle.apdu_core.proofs.command_ref.BodyRef.read_short.Goals as goal

pub returns-in_default-clause-refused : goal.returns-in_default-clause-refused
returns-in_default-clause-refused c =
    let b : List ℕ = c.args.octets.now in
    let octets : AreOctets b = λ i. omega (arith, c.type_inv.octets i) in
    subst (Refuses whole IsCommand IsReason b) (sym c.short.ensures)
    (short-part b octets c.requires.lc c.requires.more
    (omega (arith, c.in_default.ensures.cases, length-take (length b - 5) (drop 5 b), length-drop 5 b)))

pub returns-in_default-rest-clause-refused : goal.returns-in_default-rest-clause-refused
returns-in_default-rest-clause-refused c =
    let b : List ℕ = c.args.octets.now in
    let octets : AreOctets b = λ i. omega (arith, c.type_inv.octets i) in
    subst (Refuses whole IsCommand IsReason b) (sym c.trailing.ensures)
    (trailing-short b octets c.requires.lc (omega (
      arith,
      c.in-Some.ensures.cases.4,
      c.in_default-rest.len_at_least,
      length-take (length b - 5) (drop 5 b),
      length-drop 5 b,
    )))
