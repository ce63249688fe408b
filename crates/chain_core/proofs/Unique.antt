-- No octets spell two chains, and no spelling begins another.
use Rattle.std.proofs.Common.{◌≡◌, ℕ, ◌+◌, ◌<◌, ◌++◌, List, [], ◌∷◌, length, drop, refl, sym, ap, ◌∙◌, arith, Bool, true, false, append_assoc}
use Rattle.std.proofs.lemmas.List.{append-nil, length-drop, take-append-drop}
use Rattle.octet_core.specs.Octets.{xor_of}
use Rattle.octet_core.specs.Grammar.{Accepts, self_ended}
use Rattle.octet_core.proofs.Lists.{head_is, tail_is, split_same, never}
use Rattle.block_core.specs.declared.pcb.Number.{Number}
use Rattle.block_core.specs.declared.pcb.Pcb.TheVariants.{Info}
use Rattle.block_core.specs.Block as block
use Rattle.block_core.specs.Block.{other, pcb_octet, number_bit, front_of}
use Rattle.chain_core.specs.Chain.{chain_block, spelling, IsChain}

plain : (number : Number) → pcb_octet (Info number false) ≡ number_bit number 64
plain number = omega arith

differ : (number : Number) → number_bit number 64 + 32 ≡ number_bit number 64 → ⊥
differ number e = omega arith

-- equal control octets of I-blocks say the same of what follows
pub more-back : (number : Number) (m n : Bool) → pcb_octet (Info number m) ≡ pcb_octet (Info number n) → m ≡ n
more-back number false false e = refl
more-back number false true e = absurd (differ number (sym e ∙ plain number))
more-back number true false e = absurd (differ number (e ∙ plain number))
more-back number true true e = refl

-- the same octets begin with one block of this number, and go on in one way
pub block-split : (number : Number) (m n : Bool) (f g s t : List ℕ) → block.spelling (chain_block number m f)
    ++ s ≡ block.spelling (chain_block number n g) ++ t → (m ≡ n) × (f ≡ g) × (s ≡ t)
block-split number m n f g s t e =
    let sum_f : ℕ = xor_of (front_of (chain_block number m f)) in
    let sum_g : ℕ = xor_of (front_of (chain_block number n g)) in
    let pcb_f : ℕ = pcb_octet (Info number m) in
    let pcb_g : ℕ = pcb_octet (Info number n) in
    let rest_f : List ℕ = (f ++ sum_f ∷ []) ++ s in
    let rest_g : List ℕ = (g ++ sum_g ∷ []) ++ t in
    let one : pcb_f ∷ length f ∷ rest_f ≡ pcb_g ∷ length g ∷ rest_g =
    tail_is 0 0 (pcb_f ∷ length f ∷ rest_f) (pcb_g ∷ length g ∷ rest_g) e in
    let two : length f ∷ rest_f ≡ length g ∷ rest_g = tail_is pcb_f pcb_g (length f ∷ rest_f) (length g ∷ rest_g) one in
    let more : m ≡ n = more-back number m n (head_is pcb_f pcb_g (length f ∷ rest_f) (length g ∷ rest_g) one) in
    let len : length f ≡ length g = head_is (length f) (length g) rest_f rest_g two in
    let three : rest_f ≡ rest_g = tail_is (length f) (length g) rest_f rest_g two in
    let fields = split_same f g (sum_f ∷ s) (sum_g ∷ t) len
    (sym (append_assoc f (sum_f ∷ []) s) ∙ three ∙ append_assoc g (sum_g ∷ []) t) in
    (more, fields.0, tail_is sum_f sum_g s t fields.1)

-- what two spellings with what follows them have in common
pub spelling-split : (number : Number) (fs gs : List (List ℕ)) (s t : List ℕ) → 0 < length fs → 0 < length gs
    → spelling number fs ++ s ≡ spelling number gs ++ t → (fs ≡ gs) × (s ≡ t)
spelling-split number [] gs s t p q e = absurd (omega arith)
spelling-split number (f ∷ fs) [] s t p q e = absurd (omega arith)
spelling-split number (f ∷ []) (g ∷ []) s t p q e =
    let a : List ℕ = block.spelling (chain_block number false f) in
    let b : List ℕ = block.spelling (chain_block number false g) in
    let h = block-split number false false f g s t
    (ap (λ (l : List ℕ). l ++ s) (sym (append-nil a)) ∙ e ∙ ap (λ (l : List ℕ). l ++ t) (append-nil b)) in
    (ap (λ (x : List ℕ). x ∷ []) h.1, h.2)
spelling-split number (f ∷ []) (g ∷ k ∷ gs) s t p q e =
    let a : List ℕ = block.spelling (chain_block number false f) in
    let b : List ℕ = block.spelling (chain_block number true g) in
    let rest : List ℕ = spelling (other number) (k ∷ gs) in
    never (block-split number false true f g s (rest ++ t)
    (ap (λ (l : List ℕ). l ++ s) (sym (append-nil a)) ∙ e ∙ append_assoc b rest t)).0
spelling-split number (f ∷ k ∷ fs) (g ∷ []) s t p q e =
    let a : List ℕ = block.spelling (chain_block number true f) in
    let b : List ℕ = block.spelling (chain_block number false g) in
    let rest : List ℕ = spelling (other number) (k ∷ fs) in
    never (sym (block-split number true false f g (rest ++ s) t
    (sym (append_assoc a rest s) ∙ e ∙ ap (λ (l : List ℕ). l ++ t) (append-nil b))).0)
spelling-split number (f ∷ k ∷ fs) (g ∷ l ∷ gs) s t p q e =
    let a : List ℕ = block.spelling (chain_block number true f) in
    let b : List ℕ = block.spelling (chain_block number true g) in
    let rest_f : List ℕ = spelling (other number) (k ∷ fs) in
    let rest_g : List ℕ = spelling (other number) (l ∷ gs) in
    let h = block-split number true true f g (rest_f ++ s) (rest_g ++ t)
    (sym (append_assoc a rest_f s) ∙ e ∙ append_assoc b rest_g t) in
    let r = spelling-split (other number) (k ∷ fs) (l ∷ gs) s t (omega arith) (omega arith) h.2 in
    (λ i. h.1 i ∷ r.0 i, r.1)

-- no octets spell two chains, and no spelling begins another
pub one-spelled : (ifs jfs max nax : ℕ) (number : Number) (fs gs : List (List ℕ)) (b more : List ℕ)
    → IsChain ifs number max fs b → IsChain jfs number nax gs (b ++ more) → (fs ≡ gs) × (more ≡ [])
one-spelled ifs jfs max nax number fs gs b more p q =
    spelling-split number fs gs more [] p.proper.some q.proper.some
    (ap (λ (l : List ℕ). l ++ more) (sym p.is) ∙ q.is ∙ sym (append-nil (spelling number gs)))

-- what is accepted is one value and one length, whatever the sizes
pub one-accepted : (ifs jfs max nax : ℕ) (number : Number) (b : List ℕ) (fs gs : List (List ℕ)) (n m : ℕ)
    → Accepts self_ended (IsChain ifs number max) b fs n → Accepts self_ended (IsChain jfs number nax) b gs m
    → (fs ≡ gs) × (n ≡ m)
one-accepted ifs jfs max nax number b fs gs n m p q =
    let h = spelling-split number fs gs (drop n b) (drop m b) p.1.proper.some q.1.proper.some
    (ap (λ (l : List ℕ). l ++ drop n b) (sym p.1.is) ∙ take-append-drop n b ∙ sym (take-append-drop m b)
    ∙ ap (λ (l : List ℕ). l ++ drop m b) q.1.is) in
    (h.0, omega (arith, p.0, q.0, length-drop n b, length-drop m b, ap length h.1))
