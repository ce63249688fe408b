-- What is spelled is accepted.
use Rattle.std.proofs.Common.{ℕ, List, length, sym, subst, arith}
use Rattle.std.proofs.Math.Seq.{take-length}
use Rattle.octet_core.specs.Grammar.{Accepts, self_ended}

-- what spells a value is accepted to its end
pub accepts-all : {V : Type 0} (S : V → List ℕ → Type 0) (v : V) (b : List ℕ) → S v b
    → Accepts self_ended S b v (length b)
accepts-all S v b h = (omega arith, subst (S v) (sym (take-length b)) h)
