-- What `==` tells of two answers to reset: with these lemmas `search` finds that it is equality.
use Rattle.std.proofs.Common.{◌≡◌, List, ℕ, Decides, nat_eq, rules}
use Rattle.std.specs.Cmp.Lexicographic.{pointwise, pointwise_decides}
use Rattle.atr_core.specs.declared.atr.Indicated.{Indicated}
use Rattle.atr_core.specs.contracts.atr.IndicatedPartialEq.TheImpl as impl

-- the comparison of two lists of TDs tells whether they are the same
pub tds_decide : (xs ys : List Indicated) → Decides (pointwise impl.eq-value.it xs ys) (xs ≡ ys)
tds_decide = pointwise_decides (λ x y. search rules)

-- and so does that of two lists of octets
pub octets_decide : (xs ys : List ℕ) → Decides (pointwise nat_eq xs ys) (xs ≡ ys)
octets_decide = pointwise_decides (λ x y. search rules)
