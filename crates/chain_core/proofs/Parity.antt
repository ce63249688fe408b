-- The numbers of a chain's blocks alternate.
use Rattle.std.proofs.Common.{◌≡◌, ℕ, zero, suc, ◌+◌, refl, sym, ap, ◌∙◌, arith}
use Rattle.block_core.specs.declared.pcb.Number.{Number}
use Rattle.block_core.specs.declared.pcb.Number.TheVariants.{Zero, One}
use Rattle.block_core.specs.Block.{other}
use Rattle.chain_core.specs.Chain.{number_after}

back : (number : Number) → other (other number) ≡ number
back Zero = refl
back One = refl

abbrev twice : ℕ → ℕ
twice zero = zero
twice (suc k) = suc (suc (twice k))

twice-is : (k : ℕ) → twice k ≡ k + k
twice-is zero = refl
twice-is (suc k) = omega (arith, twice-is k)

even : (number : Number) (k : ℕ) → number_after number (twice k) ≡ number
even number zero = refl
even number (suc k) = even (other (other number)) k ∙ back number

-- after an even number of blocks comes the first number
pub after-even : (number : Number) (n k : ℕ) → n ≡ k + k → number_after number n ≡ number
after-even number n k e = ap (number_after number) (e ∙ sym (twice-is k)) ∙ even number k

-- and after an odd one the other
pub after-odd : (number : Number) (n k : ℕ) → n ≡ suc (k + k) → number_after number n ≡ other number
after-odd number n k e = ap (number_after number) (e ∙ ap suc (sym (twice-is k))) ∙ even (other number) k
