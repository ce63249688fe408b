use Rattle.std.proofs.Common.{◌≡◌, ℕ, true, sym, ◌∙◌, subst}
use Rattle.std.specs.List.{AllPass}
use Rattle.std.proofs.lemmas.List.{take_all}
use Rattle.std.proofs.lemmas.List.Elements.{All-more}
use Rattle.hex.specs.Hex.{is_hex_digit}
use Rattle.c_lent.proofs.hexadecimal.no_digit.Goals as goal

pub loop-place-preserved : goal.loop-place-preserved
loop-place-preserved c =
    All-more (λ (x : ℕ). is_hex_digit x ≡ true) c.args.text.now c.loop-place.place 0 c.loop-place-test.true
    c.loop-place.invariant (sym c.is_digit.ensures ∙ c.if-not-is_digit.false)

pub returns-clause-none : goal.returns-clause-none
returns-clause-none c =
    subst (AllPass is_hex_digit) (take_all c.loop-place.place c.args.text.now c.loop-place-test.false)
    c.loop-place.invariant
