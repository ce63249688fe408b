use Rattle.std.proofs.Common.{◌/◌, ◌<◌, ℕ, sym, ◌∙◌, arith}
use Rattle.std.proofs.Math.Nat.{mod-lt, div-add-mod}
use Rattle.chain_core.proofs.Parity.{after-even, after-odd}
use Rattle.chain_core.proofs.lent.LentReceiver.number.Goals as goal

pub returns-then-self-eq0 : goal.returns-then-self-eq0
returns-then-self-eq0 c =
    let n : ℕ = c.args.self.now.blocks in
    sym (after-even c.args.self.now.first n (n / 2) (omega (arith, div-add-mod n 2, c.if-self-eq0.true)))

pub returns-else-self-eq0 : goal.returns-else-self-eq0
returns-else-self-eq0 c =
    let n : ℕ = c.args.self.now.blocks in
    let two : 0 < 2 = omega arith in
    c.other.ensures ∙ sym (after-odd c.args.self.now.first n (n / 2)
    (omega (arith, div-add-mod n 2, mod-lt n two, c.if-self-eq0.false)))
