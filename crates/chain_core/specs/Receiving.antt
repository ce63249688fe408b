-- How a receiver changes over octets, and what it returns.
use Rattle.std.specs.Prelude.{◌≡◌, ℕ, ◌+◌, ◌*◌, ◌≤◌, ◌⊎◌, List, ◌++◌, length, take, Bool, true, false, Option, Some, None, Result, Ok, Err}
use Rattle.octet_core.specs.Grammar.{self_ended, RefusesAt}
use Rattle.octet_core.specs.declared.stop.Refusal.{Refusal}
use Rattle.octet_core.specs.declared.stop.Stop.{Stop}
use Rattle.octet_core.specs.declared.stop.Stop.TheVariants.{Short, At}
use Rattle.chain_core.specs.Chain.{IsChain, IsReason}
use Rattle.chain_core.specs.Taking.{Taking, HasTaken, AreBefore, IsClosed}
use Rattle.chain_core.specs.declared.reason.ChainReason.{ChainReason}

-- how a receiver changes over the octets that come: it takes them or refuses one
pub record Goes (old new : Taking) (piece : List ℕ) : Type 0 where
  pub ifs : new.ifs ≡ old.ifs
  pub number : new.number ≡ old.number
  pub max : new.max ≡ old.max
  pub on : new.refusal ≡ None → (t : List ℕ) → HasTaken old t → HasTaken new (t ++ piece)
  pub refused : (refusal : Refusal ChainReason) → new.refusal ≡ Some refusal → (t : List ℕ) → HasTaken old t
      → RefusesAt self_ended (IsChain old.ifs old.number old.max) (IsReason old.ifs old.number old.max) (t ++ piece)
      (At refusal.place refusal.reason)
  pub before : (refusal : Refusal ChainReason) → new.refusal ≡ Some refusal → (t : List ℕ) → HasTaken old t
      → AreBefore old.number new.blocks new.joined (take refusal.place (t ++ piece))

-- How a receiver changes over the first n octets of a piece. They are the whole piece, unless it refused an octet or
-- has a whole chain. A receiver that had refused, or had a whole chain, stays as it was.
pub record Fed (old new : Taking) (piece : List ℕ) (n : ℕ) : Type 0 where
  pub goes : Goes old new (take n piece)
  pub inside : n ≤ length piece
  pub closed : IsClosed old → (new ≡ old) × (n ≡ 0)
  pub exit : (length piece ≤ n) ⊎ IsClosed new

-- the result for a piece of which the receiver took `taken` octets
abbrev pub fed_answer : Option (Refusal ChainReason) → Bool → ℕ → Result (ℕ × Bool) (Stop ChainReason)
fed_answer (Some refusal) done taken = Err (At refusal.place refusal.reason)
fed_answer None done taken = Ok (taken, done)

-- the result at the end, after `count` octets
abbrev pub answer_after : Option (Refusal ChainReason) → Bool → ℕ → Result Unit (Stop ChainReason)
answer_after (Some refusal) done count = Err (At refusal.place refusal.reason)
answer_after None true count = Ok tt
answer_after None false count = Err (Short count)

abbrev pub end_answer : Taking → Result Unit (Stop ChainReason)
end_answer r = answer_after r.refusal r.done (length r.joined + r.blocks * 4 + length r.under_way)
