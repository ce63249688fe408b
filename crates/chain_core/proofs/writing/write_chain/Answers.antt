use Rattle.std.proofs.Common.{◌≡◌, ◌++◌, ℕ, List, length, take, drop, arith, sym, ap, subst, ◌∙◌, []}
use Rattle.std.specs.Io.KnownBytes.{Appends}
use Rattle.std.proofs.lemmas.List.{length-drop}
use Rattle.std.proofs.Math.Seq.{take-length}
use Rattle.octet_core.proofs.Failures.{Appends-then}
use Rattle.chain_core.specs.Chain.{spelling, octets_of}
use Rattle.chain_core.specs.Cut.{cut_of}
use Rattle.chain_core.proofs.Cuts.{length-cut-most}
use Rattle.chain_core.proofs.Writes.{part-inside, part-taken, part-all, part-left}
use Rattle.chain_core.proofs.writing.write_chain.Goals as goal

pub overflow_add-written : goal.overflow_add-written
overflow_add-written g c =
    let all : List ℕ = spelling c.args.number (cut_of c.args.ifs c.args.msg.now) in
    let p : List ℕ = c.encode-octets.result.items in
    let rest : List ℕ = octets_of c.next.new.self in
    let left : drop c.loop-block.written all ≡ p ++ rest =
    c.loop-block.invariant.left ∙ ap octets_of c.in-Some.ensures.steps
    ∙ ap (λ (l : List ℕ). l ++ rest) (sym c.encode-octets.ensures.is) in
    omega (
      arith,
      part-inside all p rest c.loop-block.written c.loop-block.invariant.inside left,
      length-cut-most c.args.number c.args.ifs c.args.msg.now c.requires.limit,
      c.len-written.ensures.value,
    )

pub loop-block-preserved : goal.loop-block-preserved
loop-block-preserved g c =
    let all : List ℕ = spelling c.args.number (cut_of c.args.ifs c.args.msg.now) in
    let i : ℕ = c.loop-block.written in
    let p : List ℕ = c.encode-octets.result.items in
    let rest : List ℕ = octets_of c.next.new.self in
    let left : drop i all ≡ p ++ rest = c.loop-block.invariant.left ∙ ap octets_of c.in-Some.ensures.steps
    ∙ ap (λ (l : List ℕ). l ++ rest) (sym c.encode-octets.ensures.is) in
    let count : c.len-written.result ≡ length p = c.len-written.ensures.value in
    let now : Appends (g.W.Sink.contents c.loop-block.writer) (g.W.Sink.contents c.write_octets.new.writer) p =
    subst (Appends (g.W.Sink.contents c.loop-block.writer) (g.W.Sink.contents c.write_octets.new.writer))
    c.as_slice.ensures.value c.in-Ok.ensures.all in
    rw count (record {
      inside = part-inside all p rest i c.loop-block.invariant.inside left;
      so_far = subst (Appends (g.W.Sink.contents c.args.writer.now) (g.W.Sink.contents c.write_octets.new.writer))
          (sym (part-all all p rest i c.loop-block.invariant.inside left))
          (Appends-then (g.W.Sink.contents c.args.writer.now) (g.W.Sink.contents c.loop-block.writer)
          (g.W.Sink.contents c.write_octets.new.writer) (take i all) p c.loop-block.invariant.so_far now);
      left = part-left all p rest i c.loop-block.invariant.inside left;
      count = c.in-Ok.ensures.none_failed ∙ c.loop-block.invariant.count;
    })

pub overflow_add-result : goal.overflow_add-result
overflow_add-result g c =
    let all : List ℕ = spelling c.args.number (cut_of c.args.ifs c.args.msg.now) in
    let p : List ℕ = c.encode-octets.result.items in
    let rest : List ℕ = octets_of c.next.new.self in
    let left : drop c.loop-block.written all ≡ p ++ rest =
    c.loop-block.invariant.left ∙ ap octets_of c.in-Some.ensures.steps
    ∙ ap (λ (l : List ℕ). l ++ rest) (sym c.encode-octets.ensures.is) in
    omega (
      arith,
      part-inside all p rest c.loop-block.written c.loop-block.invariant.inside left,
      length-cut-most c.args.number c.args.ifs c.args.msg.now c.requires.limit,
      c.in-Err.ensures.fewer,
      ap length c.as_slice.ensures.value,
    )

pub returns-in-Err-clause-fewer : goal.returns-in-Err-clause-fewer
returns-in-Err-clause-fewer g c =
    let all : List ℕ = spelling c.args.number (cut_of c.args.ifs c.args.msg.now) in
    let p : List ℕ = c.encode-octets.result.items in
    let rest : List ℕ = octets_of c.next.new.self in
    let left : drop c.loop-block.written all ≡ p ++ rest =
    c.loop-block.invariant.left ∙ ap octets_of c.in-Some.ensures.steps
    ∙ ap (λ (l : List ℕ). l ++ rest) (sym c.encode-octets.ensures.is) in
    omega (
      arith,
      part-inside all p rest c.loop-block.written c.loop-block.invariant.inside left,
      c.in-Err.ensures.fewer,
      ap length c.as_slice.ensures.value,
    )

pub returns-in-Err-clause-first : goal.returns-in-Err-clause-first
returns-in-Err-clause-first g c =
    let all : List ℕ = spelling c.args.number (cut_of c.args.ifs c.args.msg.now) in
    let i : ℕ = c.loop-block.written in
    let n : ℕ = c.in-Err.fault.written in
    let p : List ℕ = c.encode-octets.result.items in
    let rest : List ℕ = octets_of c.next.new.self in
    let left : drop i all ≡ p ++ rest = c.loop-block.invariant.left ∙ ap octets_of c.in-Some.ensures.steps
    ∙ ap (λ (l : List ℕ). l ++ rest) (sym c.encode-octets.ensures.is) in
    let now : Appends (g.W.Sink.contents c.loop-block.writer) (g.W.Sink.contents c.write_octets.new.writer) (take n p) =
    subst (λ (l : List ℕ). Appends (g.W.Sink.contents c.loop-block.writer)
    (g.W.Sink.contents c.write_octets.new.writer) (take n l)) c.as_slice.ensures.value c.in-Err.ensures.first in
    subst (Appends (g.W.Sink.contents c.args.writer.now) (g.W.Sink.contents c.write_octets.new.writer))
    (sym (part-taken all p rest i c.loop-block.invariant.inside left n
    (omega (arith, c.in-Err.ensures.fewer, ap length c.as_slice.ensures.value))))
    (Appends-then (g.W.Sink.contents c.args.writer.now) (g.W.Sink.contents c.loop-block.writer)
    (g.W.Sink.contents c.write_octets.new.writer) (take i all) (take n p) c.loop-block.invariant.so_far now)

pub returns-clause-all : goal.returns-clause-all
returns-clause-all g c =
    let all : List ℕ = spelling c.args.number (cut_of c.args.ifs c.args.msg.now) in
    let i : ℕ = c.loop-block.written in
    let none : drop i all ≡ octets_of c.loop-block.block-iterator = c.loop-block.invariant.left in
    let e : octets_of c.loop-block.block-iterator ≡ [] = ap octets_of c.in-None.ensures.steps.0 in
    let whole : i ≡ length all = omega (
      arith,
      length-drop i all,
      ap length none,
      ap length e,
      c.loop-block.invariant.inside,
    ) in
    subst (Appends (g.W.Sink.contents c.args.writer.now) (g.W.Sink.contents c.loop-block.writer))
    (ap (λ (k : ℕ). take k all) whole ∙ take-length all) c.loop-block.invariant.so_far
