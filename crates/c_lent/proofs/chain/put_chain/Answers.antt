use Rattle.std.proofs.Common.{◌≡◌, ◌++◌, ◌+◌, ℕ, List, length, take, drop, arith, sym, ap, ◌∙◌, []}
use Rattle.std.proofs.lemmas.List.{length-drop, length-append, length-take}
use Rattle.std.proofs.Math.Seq.{take-length}
use Rattle.chain_core.specs.Chain.{spelling, octets_of}
use Rattle.chain_core.specs.Cut.{cut_of}
use Rattle.chain_core.proofs.Writes.{part-inside, part-left}
use Rattle.c_lent.proofs.Puts.{put-more}
use Rattle.c_lent.proofs.chain.put_chain.Goals as goal

pub put_at-requires : goal.put_at-requires
put_at-requires c =
    let all : List ℕ = spelling c.args.number (cut_of c.args.ifs c.args.message.now) in
    let i : ℕ = c.loop-block.count in
    let p : List ℕ = c.encode-octets.result.items in
    let rest : List ℕ = octets_of c.next.new.self in
    let left : drop i all ≡ p ++ rest = c.loop-block.invariant.left ∙ ap octets_of c.in-Some.ensures.steps
    ∙ ap (λ (l : List ℕ). l ++ rest) (sym c.encode-octets.ensures.is) in
    let old : List ℕ = c.args.out.now in
    let inside = part-inside all p rest i c.loop-block.invariant.inside left in
    let room : length c.loop-block.out ≡ length old =
    ap length c.loop-block.invariant.so_far ∙ length-append (take i all) (drop i old)
    ∙ omega (arith, length-take i all, length-drop i old, c.loop-block.invariant.inside, c.requires.room) in
    omega (arith, inside, room, c.requires.room, ap length c.as_slice.ensures.value)

pub loop-block-preserved : goal.loop-block-preserved
loop-block-preserved c =
    let all : List ℕ = spelling c.args.number (cut_of c.args.ifs c.args.message.now) in
    let i : ℕ = c.loop-block.count in
    let p : List ℕ = c.encode-octets.result.items in
    let rest : List ℕ = octets_of c.next.new.self in
    let left : drop i all ≡ p ++ rest = c.loop-block.invariant.left ∙ ap octets_of c.in-Some.ensures.steps
    ∙ ap (λ (l : List ℕ). l ++ rest) (sym c.encode-octets.ensures.is) in
    let count : c.len-count.result ≡ length p = c.len-count.ensures.value in
    let put : c.put_at.new.out ≡ take i c.loop-block.out ++ (p ++ drop (i + length p) c.loop-block.out) =
    c.put_at.ensures ∙ ap (λ (l : List ℕ). take i c.loop-block.out ++ (l ++ drop (i + length l) c.loop-block.out))
    c.as_slice.ensures.value in
    rw count (record {
      inside = part-inside all p rest i c.loop-block.invariant.inside left;
      left = part-left all p rest i c.loop-block.invariant.inside left;
      so_far = put ∙ put-more all p rest c.args.out.now c.loop-block.out i c.loop-block.invariant.inside left
          c.loop-block.invariant.so_far;
    })

pub returns : goal.returns
returns c =
    let all : List ℕ = spelling c.args.number (cut_of c.args.ifs c.args.message.now) in
    let i : ℕ = c.loop-block.count in
    let e : octets_of c.loop-block.block-iterator ≡ [] = ap octets_of c.in-None.ensures.steps.0 in
    let whole : i ≡ length all = omega (
      arith,
      length-drop i all,
      ap length c.loop-block.invariant.left,
      ap length e,
      c.loop-block.invariant.inside,
    ) in
    let old : List ℕ = c.args.out.now in
    c.loop-block.invariant.so_far ∙ ap (λ (k : ℕ). take k all ++ drop k old) whole
    ∙ ap (λ (l : List ℕ). l ++ drop (length all) old) (take-length all)
