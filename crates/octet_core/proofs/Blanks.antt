-- How a text comes apart at its blanks.
use Rattle.std.proofs.Common.{◌≡◌, ◌≤◌, ◌∙◌, ap, ℕ, List, length, Option, Some, None, arith, cond, ltb, sym}
use Rattle.std.specs.List.{position_from, position_or_len}
use Rattle.std.specs.Option.{unwrap_or}
use Rattle.std.proofs.lemmas.Bool.Decides.{nat_tests}
use Rattle.std.proofs.lemmas.Iterator.Adapters.{position_from-zero}
use Rattle.std.proofs.lemmas.List.Sums.{prefix_len-le-length}
use Rattle.octet_core.specs.Words.{is_blank}

abbrev place-in : ℕ → ℕ → Option ℕ
place-in place len = cond (ltb place len) (Some place) None

or-len : (place len : ℕ) → place ≤ len → unwrap_or (place-in place len) len ≡ place
or-len place len inside = grind (arith, nat_tests)

-- the place of the first blank, or how long the text is
pub blank-or-len : (text : List ℕ)
    → unwrap_or (position_from is_blank 0 text) (length text) ≡ position_or_len is_blank text
blank-or-len text =
    ap (λ (p : Option ℕ). unwrap_or p (length text)) (sym (position_from-zero is_blank text))
    ∙ or-len (position_or_len is_blank text) (length text) (prefix_len-le-length _ text)
