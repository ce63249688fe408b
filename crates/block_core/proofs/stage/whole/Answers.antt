use Rattle.std.proofs.Common.{◌≡◌, ◌-◌, ◌∙◌, arith, sym, subst, take, drop, get_or, List, ℕ}
use Rattle.block_core.specs.Block.{Parts, IsBlock}
use Rattle.block_core.proofs.Stages.{refused-lrc, whole-is}
use Rattle.block_core.proofs.stage.whole.Goals as goal

pub returns-then-sum-ne0-clause-refused : goal.returns-then-sum-ne0-clause-refused
returns-then-sum-ne0-clause-refused c =
    refused-lrc c.args.ifs c.args.end c.args.held.now c.args.pcb (λ i. omega (arith, c.type_inv.held i)) c.requires.len
    c.requires.end c.requires.headed c.requires.sized (λ e. c.if-sum-ne0.true (c.requires.sum ∙ e))

pub returns-clause-on : goal.returns-clause-on
returns-clause-on c =
    let b : List ℕ = c.args.held.now in
    let made : Parts = record { nad = get_or b 0 0; pcb = c.args.pcb; inf = take (c.args.end - 3) (drop 3 b) } in
    let is : c.unwrap-block.result ≡ made = (rw c.unwrap-block.ensures at c.made.ensures).1 in
    subst (λ (v : Parts). IsBlock c.args.ifs v b) (sym is)
    (whole-is c.args.ifs c.args.end b c.args.pcb (λ i. omega (arith, c.type_inv.held i)) c.requires.len c.requires.end
    c.requires.headed c.requires.sized (sym c.requires.sum ∙ c.if-sum-ne0.false))
