use Rattle.std.proofs.Common.{◌≡◌, ◌≤◌, ◌-◌, ℕ, List, take, drop, length, arith, sym, subst, ◌∙◌}
use Rattle.std.proofs.lemmas.List.{length-drop, take_rest}
use Rattle.std.proofs.Math.Seq.{take-add}
use Rattle.std.specs.Io.KnownBytes.{Appends}
use Rattle.octet_core.proofs.Failures.{Appends-then}
use Rattle.octet_core.proofs.stream.write_octets.Goals as goal

pub loop-written-preserved : goal.loop-written-preserved
loop-written-preserved g c =
    let all : List ℕ = c.args.octets.now in
    let i : ℕ = c.loop-written.written in
    let n : ℕ = c.in-Some.taken in
    let rest-is : take (length all - i) (drop i all) ≡ drop i all = take_rest all i in
    let bound : n ≤ length (drop i all) = subst (λ (l : List ℕ). n ≤ length l) rest-is c.in-Some.ensures.some.1 in
    let now : Appends (g.W.Sink.contents c.loop-written.writer) (g.W.Sink.contents c.write_some.new.writer)
    (take n (drop i all)) =
    subst (λ (l : List ℕ). Appends (g.W.Sink.contents c.loop-written.writer) (g.W.Sink.contents c.write_some.new.writer)
    (take n l)) rest-is c.in-Some.ensures.taken in
    record {
      inside = omega (arith, length-drop i all);
      so_far = subst (Appends (g.W.Sink.contents c.args.writer.now) (g.W.Sink.contents c.write_some.new.writer))
          (sym (take-add i n all))
          (Appends-then (g.W.Sink.contents c.args.writer.now) (g.W.Sink.contents c.loop-written.writer)
          (g.W.Sink.contents c.write_some.new.writer) (take i all) (take n (drop i all))
          c.loop-written.invariant.so_far now);
      count = c.in-Some.ensures.kept ∙ c.loop-written.invariant.count;
    }
