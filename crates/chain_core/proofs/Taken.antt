-- What follows of what a receiver has taken.
use Rattle.std.proofs.Common.{◌≡◌, ℕ, ◌+◌, ◌*◌, ◌++◌, List, [], length, sym, ap, subst, ◌∙◌, arith, Bool, true, false}
use Rattle.std.proofs.lemmas.List.{append-nil, length-append}
use Rattle.octet_core.proofs.Lists.{nil_of}
use Rattle.block_core.specs.declared.pcb.Number.{Number}
use Rattle.chain_core.specs.Chain.{IsChain, message_of, open_blocks, octets_of, spelling}
use Rattle.chain_core.specs.Taking.{Taking, nothing_taken, AreTaken, HasTaken}
use Rattle.chain_core.proofs.Lengths.{open-length, blocks-length}
use Rattle.chain_core.proofs.Unique.{spelling-split}

-- only the empty list stands for a new receiver
pub fresh-taken : (ifs : ℕ) (number : Number) (max : ℕ) (t : List ℕ) → HasTaken (nothing_taken ifs number max) t
    → t ≡ []
fresh-taken ifs number max t h =
    let none : h.fields ≡ [] = nil_of h.fields h.blocks in
    h.taken.1 ∙ ap (λ (fs : List (List ℕ)). octets_of (open_blocks number fs) ++ []) none

done-chain : (ifs : ℕ) (number : Number) (max : ℕ) (fields gs : List (List ℕ)) (c t more : List ℕ)
    → AreTaken true number fields c t → IsChain ifs number max gs (t ++ more) → IsChain ifs number max fields t
done-chain ifs number max fields gs c t more taken h =
    let same = spelling-split number fields gs more [] taken.0 h.proper.some
    (ap (λ (l : List ℕ). l ++ more) (sym taken.2) ∙ h.is ∙ sym (append-nil (spelling number gs))) in
    subst (λ (fs : List (List ℕ)). IsChain ifs number max fs t) (sym same.0)
    (record { proper = h.proper; is = taken.2 ∙ ap (spelling number) same.0 })

-- a receiver that is done has taken a chain with its number of blocks and its message
pub done-spelled : (r : Taking) (t : List ℕ) (h : HasTaken r t) → r.done ≡ true
    → IsChain r.ifs r.number r.max h.fields t
done-spelled r t h done = done-chain r.ifs r.number r.max h.fields h.begun.0 r.under_way t h.begun.1
    (subst (λ (d : Bool). AreTaken d r.number h.fields r.under_way t) done h.taken) h.begun.2

taken-length : (done : Bool) (number : Number) (fields : List (List ℕ)) (c t : List ℕ) → AreTaken done number fields c t
    → length t ≡ length (message_of fields) + length fields * 4 + length c
taken-length true number fields c t h = omega (arith, ap length h.1, ap length h.2, blocks-length number fields)
taken-length false number fields c t h = omega
    (arith, ap length h.1, length-append (octets_of (open_blocks number fields)) c, open-length number fields)

-- how many octets were taken is known from what is kept
pub length-taken : (r : Taking) (t : List ℕ) → HasTaken r t
    → length t ≡ length r.joined + r.blocks * 4 + length r.under_way
length-taken r t h = omega (
  arith,
  taken-length r.done r.number h.fields r.under_way t h.taken,
  h.blocks,
  ap length h.joined,
)
