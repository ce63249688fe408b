-- What a buffer holds once octets were put to its front, one part after another.
use Rattle.std.proofs.Common.{◌≡◌, ◌∙◌, ◌+◌, ◌++◌, ◌∷◌, [], ℕ, List, take, drop, length, refl, sym, ap, append_assoc, arith, bit_xor}
use Rattle.std.proofs.lemmas.List.{length-append}
use Rattle.std.proofs.lemmas.Slice.{drop-append-drop}
use Rattle.std.proofs.Math.Seq.{take-append_seam}
use Rattle.octet_core.specs.Octets.{xor_of}
use Rattle.block_core.specs.Block.{Parts, IsProper, IsPut, pcb_octet, front_of, spelling}
use Rattle.block_core.proofs.Blocks.{spelling-len}
use Rattle.block_core.proofs.Readings.{xor-more}

-- a buffer whose front is as the old one's
abbrev HasFront : List ℕ → List ℕ → List ℕ → Type 0
HasFront old front buffer = buffer ≡ front ++ drop (length front) old

-- one part more
more-put : (old front part buffer new : List ℕ) (n : ℕ) → n ≡ length front → HasFront old front buffer
    → new ≡ take n buffer ++ (part ++ drop (n + length part) buffer) → HasFront old (front ++ part) new
more-put old front part buffer new n n-is is new-is =
    let seam : take n buffer ≡ front = ap (λ (k : ℕ). take k buffer) n-is ∙ ap (take (length front)) is
    ∙ take-append_seam front (drop (length front) old) in
    let rest : drop (n + length part) buffer ≡ drop (length (front ++ part)) old =
    ap (drop (n + length part)) is ∙ drop-append-drop (length front) old front (n + length part) (omega arith) refl
    ∙ ap (λ (k : ℕ). drop k old) (let e : n + length part ≡ length (front ++ part) =
    omega (arith, length-append front part) in e) in
    new-is ∙ ap (λ (l : List ℕ). l ++ (part ++ drop (n + length part) buffer)) seam
    ∙ ap (λ (l : List ℕ). front ++ (part ++ l)) rest ∙ sym (append_assoc front part (drop (length (front ++ part)) old))

-- NAD, PCB and LEN, then the field, then the LRC
pub block-put : (v : Parts) (old one two new : List ℕ) (pcb first rest : ℕ) → IsProper 254 v
    → pcb ≡ pcb_octet v.pcb
    → one ≡ take 0 old ++ ((v.nad ∷ pcb ∷ length v.inf ∷ []) ++ drop 3 old)
    → two ≡ take 3 one ++ (v.inf ++ drop (3 + length v.inf) one)
    → first ≡ xor_of (v.nad ∷ pcb ∷ length v.inf ∷ []) → rest ≡ xor_of v.inf
    → new ≡ take (length v.inf + 3) two ++ ((bit_xor first rest ∷ []) ++ drop (length v.inf + 3 + 1) two)
    → IsPut v old new (length v.inf + 4)
block-put v old one two new pcb first rest proper pcb-is one-is two-is first-is rest-is new-is =
    let sum : ℕ = bit_xor first rest in
    let head : List ℕ = v.nad ∷ pcb ∷ length v.inf ∷ [] in
    let held : HasFront old head one = one-is in
    let both : HasFront old (head ++ v.inf) two = more-put old head v.inf one two 3 refl held two-is in
    let front-is : head ++ v.inf ≡ front_of v = ap (λ (p : ℕ). v.nad ∷ p ∷ length v.inf ∷ v.inf) pcb-is in
    let count : length v.inf + 3 ≡ length (head ++ v.inf) = omega (arith, length-append head v.inf) in
    let all : HasFront old ((head ++ v.inf) ++ (sum ∷ [])) new =
    more-put old (head ++ v.inf) (sum ∷ []) two new (length v.inf + 3) count both new-is in
    let sum-is : sum ≡ xor_of (front_of v) = xor-more first rest head v.inf first-is rest-is ∙ ap xor_of front-is in
    let spelled : (head ++ v.inf) ++ (sum ∷ []) ≡ spelling v =
    ap (λ (s : ℕ). (head ++ v.inf) ++ (s ∷ [])) sum-is
    ∙ ap (λ (l : List ℕ). l ++ (xor_of (front_of v) ∷ [])) front-is in
    record {
      octets = spelling v;
      spells = record { proper = proper; is = refl };
      counted = sym (spelling-len v);
      buffer = all ∙ ap (λ (l : List ℕ). l ++ drop (length l) old) spelled
          ∙ ap (λ (k : ℕ). spelling v ++ drop k old) (spelling-len v);
    }
