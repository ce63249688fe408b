-- Where the whole blocks end of octets that are refused, and what of them is the reason.
use Rattle.std.proofs.Common.{◌≡◌, ◌≢◌, ◌⊎◌, inl, inr, ℕ, ◌+◌, ◌<◌, ◌≤◌, ◌++◌, List, [], ◌∷◌, length, refl, sym, ap, subst, ◌∙◌, arith, true, append_assoc, slice_index}
use Rattle.std.proofs.lemmas.List.{append-nil, length-append}
use Rattle.octet_core.specs.Octets.{xor_of}
use Rattle.octet_core.specs.Grammar.{IsFirst}
use Rattle.octet_core.proofs.Lists.{nil_of}
use Rattle.octet_core.proofs.Firsts.{IsFirst-alike}
use Rattle.block_core.specs.declared.pcb.Number.{Number}
use Rattle.block_core.specs.Block as block
use Rattle.block_core.specs.Block.{other, Parts}
use Rattle.block_core.proofs.Blocks.{spelling-len, spelling-xor}
use Rattle.chain_core.specs.declared.reason.ChainReason.{ChainReason}
use Rattle.chain_core.specs.declared.reason.ChainReason.TheVariants.{BadLrc}
use Rattle.chain_core.specs.Chain.{chain_block, open_blocks, octets_of, MeetsInBlock, Meets, IsReason, all_reasons}
use Rattle.chain_core.proofs.Unique.{block-split}

-- the octets begin with no whole block
pub IsPart : List ℕ → Type 0
IsPart c = (b : Parts) (s : List ℕ) → c ≡ block.spelling b ++ s → ⊥

-- three octets or fewer begin with no whole block
pub part-short : (c : List ℕ) → length c ≤ 3 → IsPart c
unfolding IsPart
part-short c le b s e = omega (arith, ap length e, length-append (block.spelling b) s, spelling-len b)

len-at : (b : Parts) (s : List ℕ) → slice_index (block.spelling b ++ s) 2 ≡ length b.inf
len-at b s = refl

-- there are fewer than LEN tells
pub part-under : (c : List ℕ) → length c < slice_index c 2 + 4 → IsPart c
unfolding IsPart
part-under c lt b s e = omega (
  arith,
  ap length e,
  length-append (block.spelling b) s,
  spelling-len b,
  ap (λ (l : List ℕ). slice_index l 2) e,
  len-at b s,
)

-- nor do as many as LEN tells, where their check sum is wrong
pub part-sum : (c : List ℕ) → length c ≡ slice_index c 2 + 4 → xor_of c ≢ 0 → IsPart c
unfolding IsPart
part-sum c len bad b s e =
    let told : slice_index c 2 ≡ length b.inf = ap (λ (l : List ℕ). slice_index l 2) e ∙ len-at b s in
    let none : s ≡ [] = nil_of s (omega (
      arith,
      len,
      told,
      ap length e,
      length-append (block.spelling b) s,
      spelling-len b,
    )) in
    let all : c ≡ block.spelling b = e ∙ ap (λ (l : List ℕ). block.spelling b ++ l) none
    ∙ append-nil (block.spelling b) in
    bad (ap xor_of all ∙ spelling-xor b)

-- octets come apart in one way into whole blocks that go on and a part of a block
pub part-split : (number : Number) (fs gs : List (List ℕ)) (c d : List ℕ) → IsPart c → IsPart d
    → octets_of (open_blocks number fs) ++ c ≡ octets_of (open_blocks number gs) ++ d → (fs ≡ gs) × (c ≡ d)
unfolding IsPart
part-split number [] [] c d p q e = (refl, e)
part-split number [] (g ∷ gs) c d p q e =
    absurd (p (chain_block number true g) (octets_of (open_blocks (other number) gs) ++ d)
    (e ∙ append_assoc (block.spelling (chain_block number true g)) (octets_of (open_blocks (other number) gs)) d))
part-split number (f ∷ fs) [] c d p q e =
    absurd (q (chain_block number true f) (octets_of (open_blocks (other number) fs) ++ c)
    (sym e ∙ append_assoc (block.spelling (chain_block number true f)) (octets_of (open_blocks (other number) fs)) c))
part-split number (f ∷ fs) (g ∷ gs) c d p q e =
    let a : List ℕ = block.spelling (chain_block number true f) in
    let b : List ℕ = block.spelling (chain_block number true g) in
    let u : List ℕ = octets_of (open_blocks (other number) fs) in
    let v : List ℕ = octets_of (open_blocks (other number) gs) in
    let h = block-split number true true f g (u ++ c) (v ++ d) (sym (append_assoc a u c) ∙ e ∙ append_assoc b v d) in
    let r = part-split (other number) fs gs c d p q h.2 in
    (λ i. h.1 i ∷ r.0 i, r.1)

-- octets that meet a line of the table begin with no whole block
pub part-meets : (ifs : ℕ) (number : Number) (max : ℕ) (fields : List (List ℕ)) (c : List ℕ) (r : ChainReason)
    → MeetsInBlock ifs number max fields c r → IsPart c
part-meets ifs number max fields c BadLrc h = part-sum c h.0 h.1
part-meets ifs number max fields c _ h = part-short c (omega (arith, h.0))

-- a reason is of the first three octets of a block, or of all of them
pub meets-length : (ifs : ℕ) (number : Number) (max : ℕ) (fields : List (List ℕ)) (c : List ℕ) (r : ChainReason)
    → MeetsInBlock ifs number max fields c r → (length c ≤ 3) ⊎ (length c ≡ slice_index c 2 + 4)
meets-length ifs number max fields c BadLrc h = inr h.0
meets-length ifs number max fields c _ h = inl (omega (arith, h.0))

-- the reason is that of the block under way
pub reason-in_block : (ifs : ℕ) (number : Number) (max : ℕ) (fields : List (List ℕ)) (c b : List ℕ) (r : ChainReason)
    → b ≡ octets_of (open_blocks number fields) ++ c → IsPart c
    → IsFirst all_reasons (MeetsInBlock ifs number max fields c) r → IsReason ifs number max r b
reason-in_block ifs number max fields c b r is part first =
    IsFirst-alike all_reasons
    (MeetsInBlock ifs number max fields c) (Meets ifs number max b) r
    (λ line h. (fields, c, is, h))
    (λ line h.
    let same = part-split number h.0 fields h.1 c (part-meets ifs number max h.0 h.1 line h.3) part (sym h.2 ∙ is) in
    subst (λ (x : List ℕ). MeetsInBlock ifs number max fields x line) same.1
    (subst (λ (fs : List (List ℕ)). MeetsInBlock ifs number max fs h.1 line) same.0 h.3))
    first
