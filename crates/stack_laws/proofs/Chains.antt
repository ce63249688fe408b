-- A receiver that is fed a chain in two pieces has its message, by the laws of chains.
use Rattle.std.proofs.Common.{◌≡◌, ℕ, List, [], ◌++◌, ap, sym, subst, ◌∙◌, Bool, true, None, Result}
use Rattle.octet_core.specs.Reader.{IsFed}
use Rattle.octet_core.specs.declared.stop.Stop.{Stop}
use Rattle.block_core.specs.declared.pcb.Number.{Number}
use Rattle.chain_core.specs.Chain.{IsChain, IsReason, message_of}
use Rattle.chain_core.specs.Taking.{Taking, HasTaken, nothing_taken, refusal_of}
use Rattle.chain_core.specs.declared.reason.ChainReason.{ChainReason}
use Rattle.stack_laws.proofs.Takings.{two-pieces}

-- it takes chains under these conditions
abbrev Takes : Taking → ℕ → Number → ℕ → Type 0
Takes r ifs number max = (r.ifs ≡ ifs) × (r.number ≡ number) × (r.max ≡ max)

at-its : (P : ℕ → Number → ℕ → Type 0) (r : Taking) (ifs : ℕ) (number : Number) (max : ℕ) → Takes r ifs number max
    → P r.ifs r.number r.max → P ifs number max
at-its P r ifs number max e p = subst (λ (m : ℕ). P ifs number m) e.2
    (subst (λ (n : Number). P ifs n r.max) e.1 (subst (λ (i : ℕ). P i r.number r.max) e.0 p))

from-its : (P : ℕ → Number → ℕ → Type 0) (r : Taking) (ifs : ℕ) (number : Number) (max : ℕ) → Takes r ifs number max
    → P ifs number max → P r.ifs r.number r.max
from-its P r ifs number max e p = subst (λ (m : ℕ). P r.ifs r.number m) (sym e.2)
    (subst (λ (n : Number). P r.ifs n max) (sym e.1) (subst (λ (i : ℕ). P i number max) (sym e.0) p))

-- what a feed promises, under some conditions
abbrev pub Feeds : ℕ → Number → ℕ → Taking → Taking → List ℕ → Result (ℕ × Bool) (Stop ChainReason) → Type 0
Feeds ifs number max old new piece result =
    IsFed (IsChain ifs number max) (IsReason ifs number max) HasTaken refusal_of old new piece result

-- a feed leaves the conditions as they were
abbrev pub Keeps : Taking → Taking → Type 0
Keeps old new = Takes new old.ifs old.number old.max

module _ (one : (ifs jfs max nax : ℕ) (number : Number) (fs gs : List (List ℕ)) (b more : List ℕ)
    → IsChain ifs number max fs b → IsChain jfs number nax gs (b ++ more) → (fs ≡ gs) × (more ≡ []))
    (taken : (r : Taking) (t : List ℕ) (v : List (List ℕ)) → HasTaken r t → IsChain r.ifs r.number r.max v t
    → (r.done ≡ true) × (r.joined ≡ message_of v)) where
  -- a new receiver that is fed a chain in two pieces has its whole message, and no refusal
  pub arrived : (ifs : ℕ) (number : Number) (max : ℕ) (old mid new : Taking) (x y : List ℕ) (v : List (List ℕ))
      (first second : Result (ℕ × Bool) (Stop ChainReason)) → old ≡ nothing_taken ifs number max
      → HasTaken (nothing_taken ifs number max) []
      → IsChain ifs number max v (x ++ y) → Feeds old.ifs old.number old.max old mid x first → Keeps old mid
      → Feeds mid.ifs mid.number mid.max mid new y second → Keeps mid new
      → (new.refusal ≡ None) × (new.done ≡ true) × (new.joined ≡ message_of v)
  arrived ifs number max old mid new x y v first second is nothing chained fed kept fed_more kept_more =
      let own : Takes old ifs number max =
      (ap (λ (r : Taking). r.ifs) is, ap (λ (r : Taking). r.number) is, ap (λ (r : Taking). r.max) is) in
      let then : Takes mid ifs number max = (kept.0 ∙ own.0, kept.1 ∙ own.1, kept.2 ∙ own.2) in
      let last : Takes new ifs number max = (kept_more.0 ∙ then.0, kept_more.1 ∙ then.1, kept_more.2 ∙ then.2) in
      let f = at-its (λ i n m. Feeds i n m old mid x first) old ifs number max own fed in
      let g = at-its (λ i n m. Feeds i n m mid new y second) mid ifs number max then fed_more in
      let all = two-pieces (IsChain ifs number max) (IsReason ifs number max) HasTaken refusal_of
      (one ifs ifs max max number) old mid new x y v first second
      (subst (λ (r : Taking). HasTaken r []) (sym is) nothing) chained f g in
      let told = taken new all.0 v all.1 (from-its (λ i n m. IsChain i n m v all.0) new ifs number max last all.2) in
      (all.1.kept, told.0, told.1)
