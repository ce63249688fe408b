-- Octets that are written block by block.
use Rattle.std.proofs.Common.{◌≡◌, ℕ, ◌+◌, ◌≤◌, ◌++◌, List, length, take, drop, sym, ap, ◌∙◌, arith}
use Rattle.std.proofs.lemmas.List.{length-append, length-drop, length-take, take-append-drop, take-append-le}
use Rattle.std.proofs.Math.Seq.{take-add, take-append_seam, drop-append_seam, drop-append-add}

module _ (all p rest : List ℕ) (i : ℕ) (inside : i ≤ length all) (left : drop i all ≡ p ++ rest) where
  -- the octets p come after the first i
  pub part-inside : i + length p ≤ length all
  part-inside = omega (arith, length-drop i all, ap length left, length-append p rest)

  -- the first i octets and some of p are the front of all
  pub part-taken : (n : ℕ) → n ≤ length p → take (i + n) all ≡ take i all ++ take n p
  part-taken n le = take-add i n all ∙ ap (λ (l : List ℕ). take i all ++ l)
      (ap (take n) left ∙ take-append-le n p rest le)

  -- and so are the first i and all of p
  pub part-all : take (i + length p) all ≡ take i all ++ p
  part-all = take-add i (length p) all ∙ ap (λ (l : List ℕ). take i all ++ l)
      (ap (take (length p)) left ∙ take-append_seam p rest)

  -- and after these comes the rest
  pub part-left : drop (i + length p) all ≡ rest
  part-left =
      let front : length (take i all) ≡ i = omega (arith, length-take i all) in
      ap (λ (k : ℕ). drop (k + length p) all) (sym front)
      ∙ ap (drop (length (take i all) + length p)) (sym (take-append-drop i all))
      ∙ drop-append-add (take i all) (drop i all) (length p) ∙ ap (drop (length p)) left ∙ drop-append_seam p rest
