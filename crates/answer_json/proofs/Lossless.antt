-- That no two refusals have one line.
use Rattle.std.proofs.Common.{◌≡◌, ◌∙◌, ℕ, ◌<◌, ◌++◌, ◌==◌, List, [], ◌∷◌, length, true, false, not, nat_eq, get_or, unwrap_or, Option, Some, ap, arith, refl, sym, subst, decimal, drop, if◌then◌else◌}
use Rattle.std.specs.List.{list_all}
use Rattle.std.specs.Char.{is_ascii_digit}
use Rattle.std.proofs.lemmas.List.{append_cancel_left, append_cancel_right}
use Rattle.std.proofs.lemmas.List.Folds.{list_all-append}
use Rattle.octet_core.specs.Decimal.{decimal_number}
use Rattle.octet_core.proofs.Decimals.{both, decimal-is, has_digits, number-decimal}
use Rattle.answer_json.specs.Refusals.{has_no_blank, line_of, most, IsPlain}
use Rattle.answer_json.specs.declared.refusal.Refusal.{Refusal}
use Rattle.answer_json.specs.declared.refusal.Refusal.TheVariants.{Short, At, AtLine, Whole, FaultAt, Fault}

-- ---- numbers

-- the digits in front of a text
abbrev digits : List ℕ → List ℕ
digits [] = []
digits (x ∷ text) = if is_ascii_digit x then x ∷ digits text else []

digits-of : (xs : List ℕ) (y : ℕ) (rest : List ℕ) → list_all is_ascii_digit xs ≡ true → is_ascii_digit y ≡ false
    → digits (xs ++ (y ∷ rest)) ≡ xs
digits-of [] y rest h other = rw other refl
digits-of (x ∷ xs) y rest h other =
    let parts = both (is_ascii_digit x) (list_all is_ascii_digit xs) h in
    rw parts.0 (ap (λ (l : List ℕ). x ∷ l) (digits-of xs y rest parts.1 other))

of-decimal : (n y : ℕ) (rest : List ℕ) → n < most → is_ascii_digit y ≡ false
    → digits (decimal n ++ (y ∷ rest)) ≡ decimal n
of-decimal n y rest few other =
    digits-of (decimal n) y rest (has_digits (decimal n) (decimal-is n few)).digits other

abbrev tail : List ℕ → List ℕ
tail [] = []
tail (x ∷ xs) = xs

-- a number and what comes after it
same-number : (m n y : ℕ) (rest other : List ℕ) → m < most → n < most → is_ascii_digit y ≡ false
    → decimal m ++ (y ∷ rest) ≡ decimal n ++ (y ∷ other) → (m ≡ n) × (rest ≡ other)
same-number m n y rest other few small stops e =
    let text : decimal m ≡ decimal n =
    sym (of-decimal m y rest few stops) ∙ ap digits e ∙ of-decimal n y other small stops in
    let number : Some m ≡ Some n =
    sym (number-decimal m few) ∙ ap decimal_number text ∙ number-decimal n small in (
      ap (λ (o : Option ℕ). unwrap_or o m) number,
      ap tail (append_cancel_left (decimal n) (y ∷ rest) (y ∷ other)
          (ap (λ (l : List ℕ). l ++ (y ∷ rest)) (sym text) ∙ e)),
    )

-- no number begins with a letter
no-letter : (n y x : ℕ) (rest other : List ℕ) → n < most → is_ascii_digit y ≡ false → is_ascii_digit x ≡ false
    → decimal n ++ (y ∷ rest) ≡ x ∷ other → ⊥
no-letter n y x rest other few stops letter e =
    let none : decimal n ≡ [] = sym (of-decimal n y rest few stops) ∙ ap digits e ∙ rw letter refl in
    let some = (has_digits (decimal n) (decimal-is n few)).some in
    omega (arith, some, ap length none)

-- ---- lines

-- lines that differ in one octet
apart : (line other : List ℕ) (i : ℕ) → nat_eq (get_or line i 0) (get_or other i 0) ≡ false → line ≡ other → ⊥
apart line other i differ e =
    let bad : nat_eq (get_or other i 0) (get_or other i 0) ≡ false =
    subst (λ (l : List ℕ). nat_eq (get_or l i 0) (get_or other i 0) ≡ false) e differ in
    absurd (let same : nat_eq (get_or other i 0) (get_or other i 0) ≡ true = grind (arith) in cc (bad, same))

-- a name without a blank isn't another name after the words of a line
no-line : (name rest : List ℕ) → has_no_blank name ≡ true
    → name ++ (10 ∷ []) ≡ 108 ∷ 105 ∷ 110 ∷ 101 ∷ 32 ∷ rest → ⊥
no-line name rest plain e =
    let all : has_no_blank (name ++ (10 ∷ [])) ≡ true =
    list_all-append (λ x. not (x == 32)) name (10 ∷ []) ∙ rw plain refl in
    let bad : has_no_blank (108 ∷ 105 ∷ 110 ∷ 101 ∷ 32 ∷ rest) ≡ true =
    subst (λ (l : List ℕ). has_no_blank l ≡ true) e all in
    cc bad

same-name : (name other : List ℕ) → name ++ (10 ∷ []) ≡ other ++ (10 ∷ []) → name ≡ other
same-name name other e = append_cancel_right name other (10 ∷ []) e

-- equal lines are those of equal refusals
pub one-refusal : (one other : Refusal) → IsPlain one → IsPlain other → line_of one ≡ line_of other → one ≡ other
one-refusal (Short m) (Short n) h g e =
    ap Short (same-number m n 10 [] [] h g refl (ap (drop 9) e)).0
one-refusal (At m reason) (At n why) h g e =
    let same = same-number m n 58 _ _ h g refl (ap (drop 11) e) in
    ap (λ (p : ℕ). At p reason) same.0 ∙ ap (At n) (same-name reason why (ap tail same.1))
one-refusal (AtLine m reason) (AtLine n why) h g e =
    let same = same-number m n 58 _ _ h g refl (ap (drop 16) e) in
    ap (λ (p : ℕ). AtLine p reason) same.0 ∙ ap (AtLine n) (same-name reason why (ap tail same.1))
one-refusal (Whole reason) (Whole why) h g e = ap Whole (same-name reason why (ap (drop 9) e))
one-refusal (FaultAt m fault) (FaultAt n what) h g e =
    let same = same-number m n 58 _ _ h g refl (ap (drop 12) e) in
    ap (λ (p : ℕ). FaultAt p fault) same.0 ∙ ap (FaultAt n) (same-name fault what (ap tail same.1))
one-refusal (Fault fault) (Fault what) h g e = ap Fault (same-name fault what (ap (drop 7) e))
one-refusal (At m reason) (AtLine n why) h g e = absurd (no-letter m 58 108 _ _ h refl refl (ap (drop 11) e))
one-refusal (AtLine m reason) (At n why) h g e = absurd (no-letter n 58 108 _ _ g refl refl (sym (ap (drop 11) e)))
one-refusal (FaultAt m fault) (Fault what) h g e = absurd (no-line what _ g (sym (ap (drop 7) e)))
one-refusal (Fault fault) (FaultAt n what) h g e = absurd (no-line fault _ h (ap (drop 7) e))
one-refusal (At m reason) (Whole why) h g e = absurd (apart _ _ 7 refl e)
one-refusal (AtLine m reason) (Whole why) h g e = absurd (apart _ _ 7 refl e)
one-refusal (Whole reason) (At n why) h g e = absurd (apart _ _ 7 refl e)
one-refusal (Whole reason) (AtLine n why) h g e = absurd (apart _ _ 7 refl e)
one-refusal (Short m) (At n why) h g e = absurd (apart _ _ 0 refl e)
one-refusal (Short m) (AtLine n why) h g e = absurd (apart _ _ 0 refl e)
one-refusal (Short m) (Whole why) h g e = absurd (apart _ _ 0 refl e)
one-refusal (Short m) (FaultAt n what) h g e = absurd (apart _ _ 0 refl e)
one-refusal (Short m) (Fault what) h g e = absurd (apart _ _ 0 refl e)
one-refusal (At m reason) (Short n) h g e = absurd (apart _ _ 0 refl e)
one-refusal (At m reason) (FaultAt n what) h g e = absurd (apart _ _ 0 refl e)
one-refusal (At m reason) (Fault what) h g e = absurd (apart _ _ 0 refl e)
one-refusal (AtLine m reason) (Short n) h g e = absurd (apart _ _ 0 refl e)
one-refusal (AtLine m reason) (FaultAt n what) h g e = absurd (apart _ _ 0 refl e)
one-refusal (AtLine m reason) (Fault what) h g e = absurd (apart _ _ 0 refl e)
one-refusal (Whole reason) (Short n) h g e = absurd (apart _ _ 0 refl e)
one-refusal (Whole reason) (FaultAt n what) h g e = absurd (apart _ _ 0 refl e)
one-refusal (Whole reason) (Fault what) h g e = absurd (apart _ _ 0 refl e)
one-refusal (FaultAt m fault) (Short n) h g e = absurd (apart _ _ 0 refl e)
one-refusal (FaultAt m fault) (At n why) h g e = absurd (apart _ _ 0 refl e)
one-refusal (FaultAt m fault) (AtLine n why) h g e = absurd (apart _ _ 0 refl e)
one-refusal (FaultAt m fault) (Whole why) h g e = absurd (apart _ _ 0 refl e)
one-refusal (Fault fault) (Short n) h g e = absurd (apart _ _ 0 refl e)
one-refusal (Fault fault) (At n why) h g e = absurd (apart _ _ 0 refl e)
one-refusal (Fault fault) (AtLine n why) h g e = absurd (apart _ _ 0 refl e)
one-refusal (Fault fault) (Whole why) h g e = absurd (apart _ _ 0 refl e)
