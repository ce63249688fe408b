-- How the first of some TDs is added to the items of an array.
use Rattle.std.proofs.Common.{◌≡◌, ◌≤◌, ◌∙◌, ◌∷◌, ◌+◌, ◌-◌, ◌==◌, not, ℕ, List, [], Bool, suc, ap, arith, drop, get_or, length, refl, take}
use Rattle.std.proofs.lemmas.Bool.Decides.{nat_tests}
use Rattle.std.proofs.lemmas.List.{take_all}
use Rattle.std.specs.List.{AllByRecursion}
use Rattle.atr_core.specs.Atr.{announcing, goes_on}
use Rattle.atr_core.specs.declared.atr.Indicated.{Indicated}
use Rattle.program_octets.specs.AtrTexts.{with_td, with_tds}

-- more TDs come where some are left
more-come : (xs : List Indicated) → not (length xs == 0) ≡ goes_on xs
more-come [] = refl
more-come (x ∷ xs) = grind (arith, nat_tests)

pub first-td : (items : List ℕ) (number : ℕ) (rest : List Indicated) (otherwise : Indicated) (octet : ℕ) (empty : Bool)
    → 1 ≤ length rest → empty ≡ (length (take (length rest - 1) (drop 1 rest)) == 0)
    → octet ≡ announcing (get_or rest 0 otherwise).bytes (not empty) (get_or rest 0 otherwise).protocol
    → with_tds (with_td items number (get_or rest 0 otherwise).bytes octet) (number + 1)
    (take (length rest - 1) (drop 1 rest)) ≡ with_tds items number rest
first-td items number [] otherwise octet empty some none is = absurd (omega arith)
first-td items number (x ∷ xs) otherwise octet empty some none is =
    let after : take (suc (length xs) - 1) xs ≡ xs = take_all (suc (length xs) - 1) xs (omega arith) in
    let goes : not empty ≡ goes_on xs = ap not (none ∙ ap (λ (l : List Indicated). length l == 0) after)
    ∙ more-come xs in
    rw (after, is, goes) refl

-- what holds of all holds of all but the first
pub all-after : (P : Indicated → Type 0) (rest : List Indicated) → 1 ≤ length rest → AllByRecursion P rest
    → AllByRecursion P (take (length rest - 1) (drop 1 rest))
all-after P [] some h = absurd (omega arith)
all-after P (x ∷ xs) some h =
    let after : take (suc (length xs) - 1) xs ≡ xs = take_all (suc (length xs) - 1) xs (omega arith) in
    rw after h.1
