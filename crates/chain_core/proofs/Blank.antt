-- What is written after a message leaves the rest of its memory as it was.
use Rattle.std.proofs.Common.{◌≡◌, ◌∙◌, ℕ, ◌+◌, ◌-◌, ◌≤◌, List, length, take, drop, replicate, ◌++◌, arith, sym, ap, subst}
use Rattle.std.proofs.lemmas.List.{drop-drop, drop-replicate, take_at}
use Rattle.chain_core.specs.Collecting.{IsBlank}

pub blank-after : (count end : ℕ) (old new : List ℕ) → count ≤ end → end ≤ length new → length new ≡ length old
    → drop end new ≡ drop end old → IsBlank count old → IsBlank end new
blank-after count end old new le inside same rest blank = record {
  inside = inside;
  after =
      rest
      ∙ ap (λ n. drop n old) (let at : end ≡ count + (end - count) = omega (arith, le) in at)
      ∙ sym (drop-drop (end - count) count old)
      ∙ ap (drop (end - count)) blank.after
      ∙ drop-replicate (end - count) (length old - count) 0
      ∙ ap (λ n. replicate n 0) (omega (arith, le, same, inside));
}

-- the same of the front of a larger memory
pub blank-front : (count end size : ℕ) (old new rest : List ℕ) → length new ≡ size → count ≤ end → end ≤ length new
    → length new ≡ length old → drop end new ≡ drop end old → IsBlank count old → IsBlank end (take size (new ++ rest))
blank-front count end size old new rest at le inside same after blank =
    subst (IsBlank end) (sym (take_at new rest size at)) (blank-after count end old new le inside same after blank)
