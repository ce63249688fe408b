-- How many more octets a chain needs at least, block by block.
use Rattle.std.proofs.Common.{◌≡◌, ℕ, zero, suc, ◌+◌, ◌-◌, ◌<◌, ◌≤◌, List, [], ◌∷◌, length, take, drop, get_or, refl, sym, ap, ◌∙◌, arith, Bool, true, false}
use Rattle.std.proofs.lemmas.List.{length-drop, take_all}
use Rattle.shortfall.specs.Chain.{after_block, chain_from, chain_least, says_more}

-- the octets end within the block under way
pub from-within : (left : ℕ) (more : Bool) (b : List ℕ) → length b < left
    → chain_from left more b ≡ left - length b + after_block more
from-within zero more b lt = absurd (omega arith)
from-within (suc left) more [] lt = omega arith
from-within (suc left) more (x ∷ b) lt = omega (arith, from-within left more b (omega arith))

-- the block under way ends in these octets
pub from-after : (left : ℕ) (more : Bool) (b : List ℕ) → left ≤ length b
    → chain_from left more b ≡ chain_from 0 more (drop left b)
from-after zero more b le = refl
from-after (suc left) more [] le = absurd (omega arith)
from-after (suc left) more (x ∷ b) le = from-after left more b (omega arith)

-- three octets or more are NAD, PCB and LEN, and what comes after
pub front-is : (b : List ℕ) (len : ℕ) → 3 ≤ length b → len ≡ get_or b 2 0
    → chain_from (len + 1) (says_more (get_or b 1 0)) (take (length b - 3) (drop 3 b)) ≡ chain_least b
front-is [] len le e = absurd (omega arith)
front-is (nad ∷ []) len le e = absurd (omega arith)
front-is (nad ∷ pcb ∷ []) len le e = absurd (omega arith)
front-is (nad ∷ pcb ∷ n ∷ b) len le e =
    let left : length (nad ∷ pcb ∷ n ∷ b) - 3 ≡ length b = omega arith in
    ap (λ (k : ℕ). chain_from (len + 1) (says_more pcb) (take k b)) left
    ∙ ap (λ (k : ℕ). chain_from (k + 1) (says_more pcb) (take (length b) b)) e
    ∙ ap (chain_from (n + 1) (says_more pcb)) (take_all (length b) b (omega arith))

-- what follows a block that says so is as the whole
pub goes-on : (left : ℕ) (more : Bool) (b : List ℕ) → left ≤ length b → more ≡ true
    → chain_least (take (length b - left) (drop left b)) ≡ chain_from left more b
goes-on left more b le e =
    ap chain_least (take_all (length b - left) (drop left b) (omega (arith, length-drop left b)))
    ∙ sym (from-after left more b le ∙ ap (λ (m : Bool). chain_from 0 m (drop left b)) e)

-- nothing follows the last block
pub ends : (left : ℕ) (more : Bool) (b : List ℕ) → left ≤ length b → more ≡ false → 0 ≡ chain_from left more b
ends left more b le e = sym (from-after left more b le ∙ ap (λ (m : Bool). chain_from 0 m (drop left b)) e)
