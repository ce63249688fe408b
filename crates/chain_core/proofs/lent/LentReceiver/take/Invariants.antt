use Rattle.std.proofs.Common.{length, ◌-◌, ◌≡◌, ◌≤◌, ◌++◌, take, ℕ, List}
use Rattle.chain_core.specs.Taking.{IsClosed}
use Rattle.chain_core.specs.Receiving.{Goes}
use Rattle.chain_core.specs.Lent.{received_at, IsStored, Brings}
use Rattle.chain_core.proofs.lent.LentReceiver.take.Given as goal

-- what was taken so far; a receiver that took no more is as it was
abbrev pub invariant-loop-taken : goal.invariant-loop-taken
invariant-loop-taken g l =
    let kept = g.S.MessageStore.kept in
    record {
      inside : l.taken ≤ length l.piece;
      stored : IsStored l.self (kept l.store) (g.S.MessageStore.room l.store) (g.S.MessageStore.ends_after l.store);
      loan : g.S.MessageStore.loan l.store ≡ g.S.MessageStore.loan l.fn.store;
      goes : Goes (received_at l.fn.self (kept l.fn.store)) (received_at l.self (kept l.store)) (take l.taken l.piece);
      brings : (t : List ℕ) → Brings l.fn.self.refusal (received_at l.fn.self (kept l.fn.store)) t
          → Brings l.self.refusal (received_at l.self (kept l.store)) (t ++ take l.taken l.piece);
      closed : IsClosed (received_at l.fn.self (kept l.fn.store))
          → (received_at l.self (kept l.store) ≡ received_at l.fn.self (kept l.fn.store)) × (l.taken ≡ 0);
    }

abbrev pub decreases-loop-taken : goal.decreases-loop-taken
decreases-loop-taken g l = length l.piece - l.taken
