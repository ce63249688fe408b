use Rattle.std.proofs.Common.{◌≡◌, ◌++◌, ℕ, List, length, drop, arith, sym, ap, ◌∙◌, []}
use Rattle.std.proofs.lemmas.List.{length-drop}
use Rattle.chain_core.specs.Chain.{spelling, octets_of}
use Rattle.chain_core.specs.Cut.{cut_of}
use Rattle.chain_core.proofs.Cuts.{length-cut-most}
use Rattle.chain_core.proofs.Writes.{part-inside, part-left}
use Rattle.c_lent.proofs.chain.chain_len.Goals as goal

pub overflow_add-count : goal.overflow_add-count
overflow_add-count c =
    let all : List ℕ = spelling c.args.number (cut_of c.args.ifs c.args.message.now) in
    let i : ℕ = c.loop-block.count in
    let p : List ℕ = c.encode-octets.result.items in
    let rest : List ℕ = octets_of c.next.new.self in
    let left : drop i all ≡ p ++ rest = c.loop-block.invariant.left ∙ ap octets_of c.in-Some.ensures.steps
    ∙ ap (λ (l : List ℕ). l ++ rest) (sym c.encode-octets.ensures.is) in
    omega (
      arith,
      part-inside all p rest i c.loop-block.invariant.inside left,
      length-cut-most c.args.number c.args.ifs c.args.message.now c.requires.limit,
      c.len-count.ensures.value,
    )

pub loop-block-preserved : goal.loop-block-preserved
loop-block-preserved c =
    let all : List ℕ = spelling c.args.number (cut_of c.args.ifs c.args.message.now) in
    let i : ℕ = c.loop-block.count in
    let p : List ℕ = c.encode-octets.result.items in
    let rest : List ℕ = octets_of c.next.new.self in
    let left : drop i all ≡ p ++ rest = c.loop-block.invariant.left ∙ ap octets_of c.in-Some.ensures.steps
    ∙ ap (λ (l : List ℕ). l ++ rest) (sym c.encode-octets.ensures.is) in
    let count : c.len-count.result ≡ length p = c.len-count.ensures.value in
    rw count (record {
      inside = part-inside all p rest i c.loop-block.invariant.inside left;
      left = part-left all p rest i c.loop-block.invariant.inside left;
    })

pub returns : goal.returns
returns c =
    let all : List ℕ = spelling c.args.number (cut_of c.args.ifs c.args.message.now) in
    let i : ℕ = c.loop-block.count in
    let e : octets_of c.loop-block.block-iterator ≡ [] = ap octets_of c.in-None.ensures.steps.0 in
    let whole : i ≡ length all = omega (
      arith,
      length-drop i all,
      ap length c.loop-block.invariant.left,
      ap length e,
      c.loop-block.invariant.inside,
    ) in
    whole
