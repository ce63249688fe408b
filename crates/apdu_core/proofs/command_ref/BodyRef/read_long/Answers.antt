use Rattle.std.proofs.Common.{◌≡◌, ◌<◌, ◌≤◌, ◌==◌, ◌+◌, ◌*◌, ◌-◌, ℕ, Bool, false, List, length, drop, take, arith, sym, subst}
use Rattle.std.proofs.lemmas.Bool.Decides.{nat_tests}
use Rattle.std.proofs.lemmas.List.{length-drop, length-take}
use Rattle.octet_core.specs.Octets.{AreOctets}
use Rattle.octet_core.specs.Grammar.{whole, Refuses}
use Rattle.octet_core.specs.declared.stop.Stop.TheVariants.{At}
use Rattle.apdu_core.specs.Command.{IsCommand, IsReason, long_count}
use Rattle.apdu_core.specs.declared.reason.CommandReason.TheVariants.{Trailing}
use Rattle.apdu_core.proofs.Refusals.{short-long, short-long_part, short-long_le, trailing-long_le, trailing-long}
use Rattle.apdu_core.proofs.command_ref.BodyRef.read_long.Goals as goal

-- more than seven octets, where some are left after these
more_than_seven : (b : List ℕ) (empty : Bool) → 7 ≤ length b → empty ≡ (length (take (length b - 7) (drop 7 b)) == 0)
    → empty ≡ false → 7 < length b
more_than_seven b empty le tells none =
    let left : 0 < length (take (length b - 7) (drop 7 b)) = grind (arith, nat_tests) in
    omega (arith, length-take (length b - 7) (drop 7 b), length-drop 7 b)

pub returns-in_default-clause-refused : goal.returns-in_default-clause-refused
returns-in_default-clause-refused c =
    let b : List ℕ = c.args.octets.now in
    let octets : AreOctets b = λ i. omega (arith, c.type_inv.octets i) in
    subst (Refuses whole IsCommand IsReason b) (sym c.short.ensures)
    (short-long b octets c.requires.long c.requires.more c.in_default.len_below)

pub returns-then-lc-eq0-clause-refused : goal.returns-then-lc-eq0-clause-refused
returns-then-lc-eq0-clause-refused c =
    let b : List ℕ = c.args.octets.now in
    let octets : AreOctets b = λ i. omega (arith, c.type_inv.octets i) in
    subst (Refuses whole IsCommand IsReason b) (sym c.trailing.ensures)
    (trailing-long_le b octets c.requires.long (omega (arith, c.from.ensures, c.from-2.ensures, c.if-lc-eq0.true))
    (more_than_seven b c.is_empty.result c.in-len7-up.len_at_least c.is_empty.ensures c.if-is_empty.false))

pub returns-in_default-split_at_checked-clause-refused : goal.returns-in_default-split_at_checked-clause-refused
returns-in_default-split_at_checked-clause-refused c =
    let b : List ℕ = c.args.octets.now in
    let octets : AreOctets b = λ i. omega (arith, c.type_inv.octets i) in
    subst (Refuses whole IsCommand IsReason b) (sym c.short-in_default-split_at_checked.ensures)
    (short-long_part b octets c.requires.long
    (more_than_seven b c.is_empty.result c.in-len7-up.len_at_least c.is_empty.ensures c.if-is_empty.false)
    (omega (
      arith,
      c.from.ensures,
      c.from-2.ensures,
      c.in_default-split_at_checked.ensures.cases,
      length-take (length b - 7) (drop 7 b),
      length-drop 7 b,
    )))

pub returns-in-len1-clause-refused : goal.returns-in-len1-clause-refused
returns-in-len1-clause-refused c =
    let b : List ℕ = c.args.octets.now in
    let octets : AreOctets b = λ i. omega (arith, c.type_inv.octets i) in
    subst (Refuses whole IsCommand IsReason b) (sym c.short-in-len1.ensures)
    (short-long_le b octets c.requires.long (λ e. omega (arith, e, c.from.ensures, c.from-2.ensures, c.if-lc-eq0.false))
    (omega (
      arith,
      c.from.ensures,
      c.from-2.ensures,
      c.in-Some.ensures.cases.4,
      c.in-len1.len_at_least,
      c.in-len1.len_below,
      length-take (length b - 7) (drop 7 b),
      length-drop 7 b,
    )))

pub returns-in_default-rest-clause-refused : goal.returns-in_default-rest-clause-refused
returns-in_default-rest-clause-refused c =
    let b : List ℕ = c.args.octets.now in
    let octets : AreOctets b = λ i. omega (arith, c.type_inv.octets i) in
    let count : long_count b ≡ c.from.result * 256 + c.from-2.result =
    omega (arith, c.from.ensures, c.from-2.ensures) in
    subst (Refuses whole IsCommand IsReason b) (sym c.trailing-in_default-rest.ensures)
    (subst (λ (n : ℕ). Refuses whole IsCommand IsReason b (At (n + 9) Trailing)) count
    (trailing-long b octets c.requires.long (λ e. omega (arith, e, count, c.if-lc-eq0.false))
    (omega (
      arith,
      count,
      c.in-Some.ensures.cases.4,
      c.in_default-rest.len_at_least,
      length-take (length b - 7) (drop 7 b),
      length-drop 7 b,
    ))))
