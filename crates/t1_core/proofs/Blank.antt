-- The command's buffer after the command: no octet of an earlier command is in it.
use Rattle.std.proofs.Common.{◌≡◌, ◌∙◌, ℕ, ◌+◌, ◌-◌, ◌≤◌, List, length, drop, replicate, ◌++◌, arith, ap}
use Rattle.std.proofs.lemmas.List.{drop-replicate, replicate-append-replicate}
use Rattle.chain_core.specs.Collecting as chain
use Rattle.chain_core.proofs.Blank.{blank-after}
use Rattle.t1_core.specs.CardViews.{IsBlankAfter}

-- the front is overwritten, and the rest was 0
pub blank-all : (count : ℕ) (old new : List ℕ) → count ≤ length old → new ≡ replicate count 0 ++ drop count old
    → length new ≡ length old → IsBlankAfter count old → (taken : ℕ) → IsBlankAfter taken new
blank-all count old new inside is same blank taken =
    let size : count + (length old - count) ≡ length new = omega (arith, inside, same) in
    let zeros : new ≡ replicate (length new) 0 =
    is ∙ ap (λ l. replicate count 0 ++ l) blank ∙ replicate-append-replicate count (length old - count) 0
    ∙ ap (λ n. replicate n 0) size in
    ap (drop taken) zeros ∙ drop-replicate taken (length new) 0

-- octets are put after the first `count`
pub blank-put : (count end : ℕ) (old new : List ℕ) → count ≤ end → end ≤ length new → length new ≡ length old
    → drop end new ≡ drop end old → IsBlankAfter count old → IsBlankAfter end new
blank-put count end old new le inside same rest blank =
    let was : chain.IsBlank count old = record { inside = omega (arith, le, inside, same); after = blank } in
    let is : chain.IsBlank end new = blank-after count end old new le inside same rest was in
    is.after
