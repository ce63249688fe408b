use Rattle.std.proofs.Common.{◌∷◌, [], ◌∙◌, ℕ, List, arith, drop, ap, sym, length}
use Rattle.std.proofs.lemmas.List.{take_rest}
use Rattle.block_core.specs.Block.{Parts, other}
use Rattle.block_core.specs.declared.pcb.Number.{Number}
use Rattle.chain_core.specs.Chain.{chain_blocks}
use Rattle.chain_core.specs.Cut.{cut_of, blocks_left}
use Rattle.chain_core.proofs.Cuts.{first-short, first-long}
use Rattle.chain_core.proofs.blocks.CutIterator.next.Goals as goal
use Rattle.chain_core.proofs.blocks.CutIterator.next.Goals.{then-rest-len, else-rest-len}

pub returns-clause-steps : goal.returns-clause-steps
returns-clause-steps c =
    let ifs : ℕ = c.self.inside.ifs in
    let n : Number = c.self.inside.number in
    let rest : List ℕ = c.in_ok-rest.rest.now in
    let before = sym c.self.view_is ∙ ap (blocks_left ifs n) c.in_ok-rest.was in
    elim c.if-rest-len.branch [
      | then-rest-len w ↦
          before ∙ first-long n ifs rest c.self.invariant.0 w.if-rest-len.true
          ∙ ap (λ (b : Parts). b ∷ chain_blocks (other n) (cut_of ifs (drop ifs rest))) (sym c.block_at-block.ensures)
          ∙ ap (λ (m : Number). c.block_at-block.result ∷ chain_blocks m (cut_of ifs (drop ifs rest)))
          (sym c.other-self-inside.ensures)
          ∙ ap (λ (t : List ℕ). c.block_at-block.result ∷ chain_blocks c.other-self-inside.result (cut_of ifs t))
          (sym (take_rest rest ifs))
          ∙ ap (λ o. c.block_at-block.result ∷ blocks_left ifs c.other-self-inside.result o) (sym w.self-is)
      | else-rest-len w ↦
          before ∙ first-short n ifs rest c.self.invariant.0 w.if-rest-len.false
          ∙ ap (λ (b : Parts). b ∷ []) (sym c.block_at-block.ensures)
          ∙ ap (λ o. c.block_at-block.result ∷ blocks_left ifs c.other-self-inside.result o) (sym w.self-is)
    ]

pub returns-clause-goes : goal.returns-clause-goes
returns-clause-goes c = record {
  on = λ _. (tt, tt, omega (arith, ap length (returns-clause-steps c)));
  keeps = tt;
  rests = λ _. tt;
}
