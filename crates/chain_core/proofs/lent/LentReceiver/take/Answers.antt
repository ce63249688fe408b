use Rattle.std.proofs.Common.{◌≡◌, ◌-◌, ◌∙◌, ◌++◌, inl, inr, ℕ, List, length, take, drop, arith, sym, ap, subst, append_assoc}
use Rattle.std.proofs.lemmas.List.{length-drop, length-take, take_rest}
use Rattle.std.proofs.Math.Seq.{take-add}
use Rattle.chain_core.specs.Taking.{Taking, HasTaken, IsOpen, IsClosed}
use Rattle.chain_core.specs.Receiving.{Goes}
use Rattle.chain_core.specs.Lent.{received_at, Brings}
use Rattle.chain_core.proofs.Feeds.{goes-then, open-not-closed}
use Rattle.chain_core.proofs.Leads.{open-brings, run-brings}
use Rattle.chain_core.proofs.lent.LentReceiver.take.Goals as goal

pub loop-taken-preserved : goal.loop-taken-preserved
loop-taken-preserved g c =
    let kept = g.S.MessageStore.kept in
    let piece : List ℕ = c.args.piece.now in
    let held : List ℕ = kept c.loop-taken.store in
    let more_held : List ℕ = kept c.take_run-taken.new.store in
    let old : Taking = received_at c.args.self.now (kept c.args.store.now) in
    let mid : Taking = received_at c.loop-taken.self held in
    let new : Taking = received_at c.take_run-taken.new.self more_held in
    let i : ℕ = c.loop-taken.taken in
    let n : ℕ = c.take_run-taken.result in
    let rest-is : take (length piece - i) (drop i piece) ≡ drop i piece = take_rest piece i in
    let waits : IsOpen mid = rw c.if-is_open.true at (c.is_open.ensures held) in
    let more : Goes mid new (take n (drop i piece)) =
    subst (λ (l : List ℕ). Goes mid new (take n l)) rest-is c.take_run-taken.ensures.goes in
    record {
      inside = omega (arith, c.take_run-taken.ensures.most, ap length rest-is, length-drop i piece);
      stored = c.take_run-taken.ensures.stored;
      loan = c.take_run-taken.ensures.loan ∙ c.loop-taken.invariant.loan;
      brings = λ t b.
          let xs : List ℕ = take n (drop i piece) in
          let h : HasTaken mid (t ++ take i piece) =
          open-brings mid (t ++ take i piece) waits.0 (c.loop-taken.invariant.brings t b) in
          let one : length xs ≡ n =
          omega (arith, length-take n (drop i piece), c.take_run-taken.ensures.most, ap length rest-is) in
          let both : Brings c.take_run-taken.new.self.refusal new ((t ++ take i piece) ++ xs) =
          run-brings c.loop-taken.self c.take_run-taken.new.self held more_held xs (t ++ take i piece)
          (λ some. let s = c.take_run-taken.ensures.stays some in (s.0, ap kept s.1, one ∙ s.2)) more h in
          subst (Brings c.take_run-taken.new.self.refusal new)
          (append_assoc t (take i piece) xs ∙ ap (λ (l : List ℕ). t ++ l) (sym (take-add i n piece))) both;
      goes = subst (Goes old new) (sym (take-add i n piece))
          (goes-then old mid new (take i piece) (take n (drop i piece)) c.loop-taken.invariant.goes waits more);
      closed = λ closed. absurd (open-not-closed mid waits
          (subst IsClosed (sym (c.loop-taken.invariant.closed closed).0) closed));
    }

pub returns-else-is_open-clause-fed : goal.returns-else-is_open-clause-fed
returns-else-is_open-clause-fed g c =
    let held : List ℕ = g.S.MessageStore.kept c.loop-taken.store in
    let closed : IsClosed (received_at c.loop-taken.self held) = rw c.if-is_open.false at (c.is_open.ensures held) in
    record {
      goes = c.loop-taken.invariant.goes;
      inside = c.loop-taken.invariant.inside;
      closed = c.loop-taken.invariant.closed;
      exit = inr closed;
    }

pub returns-after-loop-taken-clause-fed : goal.returns-after-loop-taken-clause-fed
returns-after-loop-taken-clause-fed g c = record {
  goes = c.loop-taken.invariant.goes;
  inside = c.loop-taken.invariant.inside;
  closed = c.loop-taken.invariant.closed;
  exit = inl (omega arith);
}
