-- The first line of a text that is no pair.
use Rattle.std.proofs.Common.{◌≡◌, ◌<◌, ◌∙◌, ℕ, List, [], ◌∷◌, true, false, Option, refl, ap, sym, ◌+◌, arith, length, get_or, drop}
use Rattle.std.specs.Prelude.{is_some, None}
use Rattle.std.proofs.lemmas.List.{drop_more, drop_all}
use Rattle.explainer.specs.Pairs.{lines_stop, pair_stop, placed}
use Rattle.explainer.specs.declared.hexadecimal.Wrong.{Wrong}

module _ (start : ℕ) (line : List ℕ) (lines : List (List ℕ)) (i : ℕ) (all : Option (ℕ × Wrong)) where
  next : (i < length lines) × (line ≡ get_or lines i line) → drop i lines ≡ line ∷ drop (i + 1) lines
  next at = drop_more lines i line at.0 ∙ ap (λ (l : List ℕ). l ∷ drop (i + 1) lines) (sym at.1)

  -- a line is right
  pub line-right : (i < length lines) × (line ≡ get_or lines i line) → is_some (pair_stop line) ≡ false
      → lines_stop start (drop i lines) ≡ all → lines_stop (start + (length line + 1)) (drop (i + 1) lines) ≡ all
  line-right at is kept =
      let one : lines_stop start (line ∷ drop (i + 1) lines)
      ≡ lines_stop (start + (length line + 1)) (drop (i + 1) lines) = rw is refl in
      sym one ∙ ap (lines_stop start) (sym (next at)) ∙ kept

  -- or it is the first that is wrong
  pub line-wrong : (i < length lines) × (line ≡ get_or lines i line) → is_some (pair_stop line) ≡ true
      → lines_stop start (drop i lines) ≡ all → placed start (pair_stop line) ≡ all
  line-wrong at is kept =
      let one : lines_stop start (line ∷ drop (i + 1) lines) ≡ placed start (pair_stop line) = rw is refl in
      sym one ∙ ap (lines_stop start) (sym (next at)) ∙ kept

-- no line is left
pub lines-right : (start : ℕ) (lines : List (List ℕ)) (i : ℕ) (all : Option (ℕ × Wrong)) → i ≡ length lines
    → lines_stop start (drop i lines) ≡ all → None ≡ all
lines-right start lines i all e kept =
    let none : drop i lines ≡ [] = rw e (drop_all (length lines) lines (omega arith)) in
    ap (lines_stop start) (sym none) ∙ kept
