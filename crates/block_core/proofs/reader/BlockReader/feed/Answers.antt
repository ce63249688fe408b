use Rattle.std.proofs.Common.{◌≡◌, ◌≤◌, ◌-◌, ◌++◌, ◌∙◌, ◌⊎◌, inl, inr, ℕ, List, length, take, drop, arith, sym, ap, subst, append_assoc, Ok, Err}
use Rattle.std.proofs.lemmas.List.{length-drop, take_rest}
use Rattle.std.proofs.lemmas.Result.{err_from_is_err_and}
use Rattle.std.proofs.Math.Seq.{take-add}
use Rattle.block_core.specs.Taking.{IsOpen, IsClosed}
use Rattle.block_core.proofs.Readings.{Fed, fed-of, fed-answered, open-not-closed}
use Rattle.block_core.proofs.reader.BlockReader.feed.Goals as goal
use Rattle.block_core.proofs.reader.BlockReader.feed.Goals.{then-loop-taken-test+else-is_open, else-loop-taken-test}

pub loop-taken-preserved : goal.loop-taken-preserved
loop-taken-preserved c =
    let piece : List ℕ = c.args.piece.now in
    let i : ℕ = c.loop-taken.taken in
    let n : ℕ = c.take_run-taken.result in
    let rest-is : take (length piece - i) (drop i piece) ≡ drop i piece = take_rest piece i in
    let waits : IsOpen c.loop-taken.self = rw c.if-is_open.true at c.is_open.ensures in
    record {
      inside = omega (arith, c.take_run-taken.ensures.most, ap length rest-is, length-drop i piece);
      so_far = c.take_run-taken.ensures.taken
          ∙ ap (λ (l : List ℕ). c.loop-taken.self.taken ++ take n l) rest-is
          ∙ ap (λ (l : List ℕ). l ++ take n (drop i piece)) c.loop-taken.invariant.so_far
          ∙ append_assoc c.args.self.now.taken (take i piece) (take n (drop i piece))
          ∙ ap (λ (l : List ℕ). c.args.self.now.taken ++ l) (sym (take-add i n piece));
      size = c.take_run-taken.ensures.size ∙ c.loop-taken.invariant.size;
      closed = λ closed. absurd (open-not-closed c.loop-taken.self waits
          (subst IsClosed (sym (c.loop-taken.invariant.closed closed).0) closed));
    }

pub returns-clause-fed : goal.returns-clause-fed
returns-clause-fed c =
    let exit : (length c.args.piece.now ≤ c.loop-taken.taken) ⊎ IsClosed c.loop-taken.self =
    elim c.loop-taken-test.branch [
      | then-loop-taken-test+else-is_open w ↦
          inr (rw w.if-is_open.false at w.is_open.ensures)
      | else-loop-taken-test w ↦ inl (omega arith)
    ] in
    let invariant = c.loop-taken.invariant in
    let f : Fed c.self-2.inside.stage c.args.self.now c.loop-taken.self c.args.piece.now c.loop-taken.taken =
    fed-of (c.self-2.inside.ifs) c.self-2.inside.held.items c.self-2.inside.stage c.args.self.now c.loop-taken.self
    c.args.piece.now c.loop-taken.taken c.self-2.view_is c.self-2.invariant.3 c.self-2.invariant.4 invariant.inside
    invariant.so_far invariant.closed exit invariant.size in
    fed-answered c.self-2.inside.stage c.args.self.now c.loop-taken.self c.args.piece.now c.loop-taken.taken
    (Ok c.in_ok-done.done) f c.in_ok-done.ensures

pub returns-in_err-done-clause-fed : goal.returns-in_err-done-clause-fed
returns-in_err-done-clause-fed c =
    let exit : (length c.args.piece.now ≤ c.loop-taken.taken) ⊎ IsClosed c.loop-taken.self =
    elim c.loop-taken-test.branch [
      | then-loop-taken-test+else-is_open w ↦
          inr (rw w.if-is_open.false at w.is_open.ensures)
      | else-loop-taken-test w ↦ inl (omega arith)
    ] in
    let invariant = c.loop-taken.invariant in
    let f : Fed c.self-2.inside.stage c.args.self.now c.loop-taken.self c.args.piece.now c.loop-taken.taken =
    fed-of (c.self-2.inside.ifs) c.self-2.inside.held.items c.self-2.inside.stage c.args.self.now c.loop-taken.self
    c.args.piece.now c.loop-taken.taken c.self-2.view_is c.self-2.invariant.3 c.self-2.invariant.4 invariant.inside
    invariant.so_far invariant.closed exit invariant.size in
    let p = err_from_is_err_and c.from_residual.result c.from_residual.ensures.1 in
    rw (p.1, p.2) (fed-answered c.self-2.inside.stage c.args.self.now c.loop-taken.self c.args.piece.now
    c.loop-taken.taken (Err c.in_err-done.field-0.0) f c.in_err-done.ensures)
