-- How a message is cut.
use Rattle.std.proofs.Common.{◌≡◌, ℕ, zero, suc, ◌+◌, ◌-◌, ◌*◌, ◌/◌, ◌<◌, ◌≤◌, ◌++◌, List, [], ◌∷◌, length, take, drop, refl, sym, ap, subst, ◌∙◌, arith, suc-mul, div-le_self, Bool, true, false, nat_lt}
use Rattle.std.proofs.lemmas.List.{append-nil, length-append, length-drop, length-take, take-append-drop}
use Rattle.std.proofs.Math.Nat.{div-mul-le_self, div-eq_of_lt-le, lt-div-mul-add}
use Rattle.octet_core.proofs.Lists.{split_same}
use Rattle.std.specs.List.{AllByRecursion}
use Rattle.octet_core.specs.Octets.{AreOctets}
use Rattle.octet_core.specs.Grammar.{Accepts, self_ended}
use Rattle.octet_core.proofs.Begun.{spelled-accepted}
use Rattle.block_core.specs.declared.pcb.Number.{Number}
use Rattle.chain_core.proofs.Unique.{one-accepted}
use Rattle.chain_core.specs.Chain.{message_of, IsChain, spelling, chain_block, chain_blocks}
use Rattle.block_core.specs.Block.{other}
use Rattle.chain_core.specs.Cut.{pieces, cut_of, leading_block, IsFull, IsCut}
use Rattle.chain_core.proofs.Lengths.{blocks-length}
use Rattle.std.proofs.lemmas.Bool.{le-ltb, lt-ltb}

-- the pieces of a message, joined again, are the message
pub message_of-pieces : (size count : ℕ) (m : List ℕ) → message_of (pieces size count m) ≡ m
message_of-pieces size zero m = append-nil m
message_of-pieces size (suc count) m = ap (λ (l : List ℕ). take size m ++ l)
    (message_of-pieces size count (drop size m)) ∙ take-append-drop size m

-- full pieces and what is left after them are one more than the full ones
pub length-pieces : (size count : ℕ) (m : List ℕ) → length (pieces size count m) ≡ count + 1
length-pieces size zero m = omega arith
length-pieces size (suc count) m = omega (arith, length-pieces size count (drop size m))

-- no piece has more octets than the size, where what is left for the last one hasn't
pub pieces-sizes : (size count : ℕ) (m : List ℕ) → length m ≤ count * size + size
    → AllByRecursion (λ f. length f ≤ size) (pieces size count m)
pieces-sizes size zero m le = (omega arith, tt)
pieces-sizes size (suc count) m le =
    let more : (suc count) * size ≡ count * size + size = omega arith in
    (omega (arith, length-take size m), pieces-sizes size count (drop size m) (omega (arith, length-drop size m, more)))

-- the message of a cut is the message
pub message_of-cut_of : (size : ℕ) (m : List ℕ) → message_of (cut_of size m) ≡ m
message_of-cut_of size m = message_of-pieces size ((length m - 1) / size) m

cover : (size n : ℕ) → 1 ≤ size → n ≤ ((n - 1) / size) * size + size
cover size n pos = omega arith

-- no field of a cut has more octets than the size, where that isn't 0
pub cut_of-sizes : (size : ℕ) (m : List ℕ) → 1 ≤ size → AllByRecursion (λ f. length f ≤ size) (cut_of size m)
cut_of-sizes size m pos = pieces-sizes size ((length m - 1) / size) m (cover size (length m) pos)

-- how many fields a message is cut into
pub length-cut_of : (size : ℕ) (m : List ℕ) → length (cut_of size m) ≡ (length m - 1) / size + 1
length-cut_of size m = length-pieces size ((length m - 1) / size) m

add_one_mul : (q size : ℕ) → (q + 1) * size ≡ q * size + size
add_one_mul q size = omega arith

last-count : (size n : ℕ) → 1 ≤ size → n ≤ size → (n - 1) / size ≡ 0
last-count size n pos le = div-eq_of_lt-le {k = 0} size {m = n - 1} (omega arith) (omega arith)

next-count : (size n : ℕ) → 1 ≤ size → size < n → (n - 1) / size ≡ suc ((n - size - 1) / size)
next-count size n pos lt =
    let q : ℕ = (n - size - 1) / size in
    let low : q * size ≤ n - size - 1 = div-mul-le_self (n - size - 1) size in
    let high : n - size - 1 < q * size + size = lt-div-mul-add {a = n - size - 1} {b = size} pos in
    let one : (suc q) * size ≡ q * size + size = suc-mul q size in
    let two : (suc q + 1) * size ≡ (suc q) * size + size = add_one_mul (suc q) size in
    div-eq_of_lt-le {k = suc q} size {m = n - 1} (omega (arith, low, one)) (omega (arith, high, one, two))

-- ---- the cut of a message is the one list of fields with this message, full but for the last

full-pieces : (size count : ℕ) (m : List ℕ) → count * size < length m → length m ≤ count * size + size
    → IsFull size (pieces size count m)
full-pieces size zero m lt le = (omega arith, omega arith)
full-pieces size (suc zero) m lt le =
    let one : 1 * size ≡ size = omega arith in (
      omega (arith, length-take size m, one),
      (omega (arith, length-drop size m, one), omega (arith, length-drop size m, one)),
    )
full-pieces size (suc (suc count)) m lt le =
    let more : (suc (suc count)) * size ≡ (suc count) * size + size = omega arith in (
      omega (arith, length-take size m, more),
      full-pieces size (suc count) (drop size m) (omega (arith, length-drop size m, more))
          (omega (arith, length-drop size m, more)),
    )

below : (size n : ℕ) → 1 ≤ size → 1 ≤ n → ((n - 1) / size) * size < n
below size n pos some = omega (arith, div-mul-le_self (n - 1) size)

nothing : (size count : ℕ) (pos : 1 ≤ size) → pieces size ((0 - 1) / size) [] ≡ [] ∷ []
nothing size count pos = ap (λ (k : ℕ). pieces size k []) (last-count size 0 pos (omega arith))

full-some : (size : ℕ) (fs : List (List ℕ)) → 1 ≤ size → IsFull size fs → 0 < length (message_of fs)
full-some size [] pos p = absurd p
full-some size (f ∷ []) pos p = omega (arith, p.0, length-append f [])
full-some size (f ∷ g ∷ fs) pos p = omega (arith, p.0, length-append f (message_of (g ∷ fs)))

-- the cut of a message carries it, in full fields but for the last, where the size isn't 0
pub cut_of-is_cut : (size : ℕ) (m : List ℕ) → 1 ≤ size → IsCut size m (cut_of size m)
cut_of-is_cut size [] pos = nothing size ((0 - 1) / size) pos
cut_of-is_cut size (x ∷ m) pos = (
  message_of-cut_of size (x ∷ m),
  full-pieces size ((length (x ∷ m) - 1) / size) (x ∷ m) (below size (length (x ∷ m)) pos (omega arith))
      (cover size (length (x ∷ m)) pos),
)

full-same : (size : ℕ) (fs gs : List (List ℕ)) → 1 ≤ size → IsFull size fs → IsFull size gs
    → message_of fs ≡ message_of gs → fs ≡ gs
full-same size [] gs pos p q e = absurd p
full-same size (f ∷ fs) [] pos p q e = absurd q
full-same size (f ∷ []) (g ∷ []) pos p q e = ap (λ (x : List ℕ). x ∷ []) (sym (append-nil f) ∙ e ∙ append-nil g)
full-same size (f ∷ []) (g ∷ k ∷ gs) pos p q e =
    absurd (omega (
      arith,
      p.0,
      p.1,
      q.0,
      full-some size (k ∷ gs) pos q.1,
      length-append f [],
      length-append g (message_of (k ∷ gs)),
      ap length e,
    ))
full-same size (f ∷ k ∷ fs) (g ∷ []) pos p q e =
    absurd (omega (
      arith,
      q.0,
      q.1,
      p.0,
      full-some size (k ∷ fs) pos p.1,
      length-append g [],
      length-append f (message_of (k ∷ fs)),
      ap length e,
    ))
full-same size (f ∷ k ∷ fs) (g ∷ l ∷ gs) pos p q e =
    let h = split_same f g (message_of (k ∷ fs)) (message_of (l ∷ gs)) (p.0 ∙ sym q.0) e in
    let r = full-same size (k ∷ fs) (l ∷ gs) pos p.1 q.1 h.1 in
    λ i. h.0 i ∷ r i

-- and no other fields do
pub one-cut : (size : ℕ) (m : List ℕ) (fs : List (List ℕ)) → 1 ≤ size → IsCut size m fs → fs ≡ cut_of size m
one-cut size [] fs pos p = p ∙ sym (cut_of-is_cut size [] pos)
one-cut size (x ∷ m) fs pos p =
    let own = cut_of-is_cut size (x ∷ m) pos in
    full-same size fs (cut_of size (x ∷ m)) pos p.1 own.1 (p.0 ∙ sym own.0)

-- ---- the blocks of a cut, one by one

-- a message of no more octets than the size is its only field
pub cut_of-short : (size : ℕ) (m : List ℕ) → 1 ≤ size → length m ≤ size → cut_of size m ≡ m ∷ []
cut_of-short size m pos le = ap (λ (k : ℕ). pieces size k m) (last-count size (length m) pos le)

-- a longer one has a full field of its first octets, and then the cut of what is left
pub cut_of-long : (size : ℕ) (m : List ℕ) → 1 ≤ size → size < length m
    → cut_of size m ≡ take size m ∷ cut_of size (drop size m)
cut_of-long size m pos lt =
    ap (λ (k : ℕ). pieces size k m) (next-count size (length m) pos lt)
    ∙ ap (λ (n : ℕ). take size m ∷ pieces size ((n - 1) / size) (drop size m)) (sym (length-drop size m))

-- ---- what a chain of a cut is

-- the fields of a cut carry octets, where the message has octets
pub AreOctets-cut_of : (size : ℕ) (m : List ℕ) → AreOctets m → AreOctets (message_of (cut_of size m))
AreOctets-cut_of size m h = subst AreOctets (sym (message_of-cut_of size m)) h

div-most : (n size : ℕ) → n / size ≤ n
div-most n size = div-le_self n size

AllByRecursion-weaker : (size ifs : ℕ) (fields : List (List ℕ)) → size ≤ ifs
    → AllByRecursion (λ f. length f ≤ size) fields → AllByRecursion (λ f. length f ≤ ifs) fields
AllByRecursion-weaker size ifs [] le h = tt
AllByRecursion-weaker size ifs (f ∷ fields) le h = (omega (arith, h.0), AllByRecursion-weaker size ifs fields le h.1)

-- a cut is a chain, under each size that is not below its own
pub cut_of-chain : (size ifs max : ℕ) (number : Number) (m : List ℕ) → 1 ≤ size → size ≤ ifs → length m ≤ max
    → length m ≤ 131072 → AreOctets m → IsChain ifs number max (cut_of size m) (spelling number (cut_of size m))
cut_of-chain size ifs max number m pos le fits few octets = record {
  proper = record {
    some = omega (arith, length-cut_of size m);
    few = omega (arith, length-cut_of size m, div-most (length m - 1) size);
    sizes = AllByRecursion-weaker size ifs (cut_of size m) le (cut_of-sizes size m pos);
    octets = AreOctets-cut_of size m octets;
    fits = omega (arith, ap length (message_of-cut_of size m));
  };
  is = refl;
}

-- and accepted, whatever follows
pub cut_of-accepted : (size ifs max : ℕ) (number : Number) (m more : List ℕ) → 1 ≤ size → size ≤ ifs → length m ≤ max
    → length m ≤ 131072 → AreOctets m
    → Accepts self_ended (IsChain ifs number max) (spelling number (cut_of size m) ++ more) (cut_of size m)
    (length (spelling number (cut_of size m)))
cut_of-accepted size ifs max number m more pos le fits few octets =
    spelled-accepted (IsChain ifs number max) (cut_of size m) (spelling number (cut_of size m)) more
    (cut_of-chain size ifs max number m pos le fits few octets)

-- and nothing else is
pub cut_of-only : (size ifs max : ℕ) (number : Number) (m more : List ℕ) (fields : List (List ℕ)) (n : ℕ) → 1 ≤ size
    → size ≤ ifs → length m ≤ max → length m ≤ 131072 → AreOctets m
    → Accepts self_ended (IsChain ifs number max) (spelling number (cut_of size m) ++ more) fields n
    → (fields ≡ cut_of size m) × (n ≡ length (spelling number (cut_of size m)))
cut_of-only size ifs max number m more fields n pos le fits few octets a =
    one-accepted ifs ifs max max number (spelling number (cut_of size m) ++ more) fields (cut_of size m) n
    (length (spelling number (cut_of size m))) a
    (cut_of-accepted size ifs max number m more pos le fits few octets)

-- ---- the first block of a cut

-- a message of no more octets than the size goes into one block, which says that none follows
pub blocks-short : (number : Number) (size : ℕ) (m : List ℕ) → 1 ≤ size → length m ≤ size
    → chain_blocks number (cut_of size m) ≡ chain_block number false m ∷ []
blocks-short number size m pos le = ap (chain_blocks number) (cut_of-short size m pos le)

more-pieces : (number : Number) (f : List ℕ) (size count : ℕ) (m : List ℕ)
    → chain_blocks number (f ∷ pieces size count m) ≡ chain_block number true f ∷ chain_blocks (other number)
    (pieces size count m)
more-pieces number f size zero m = refl
more-pieces number f size (suc count) m = refl

-- a longer one has a full block, which says that more follow, and then the blocks of what is left
pub blocks-long : (number : Number) (size : ℕ) (m : List ℕ) → 1 ≤ size → size < length m
    → chain_blocks number (cut_of size m) ≡ chain_block number true (take size m) ∷ chain_blocks (other number)
    (cut_of size (drop size m))
blocks-long number size m pos lt = ap (chain_blocks number) (cut_of-long size m pos lt)
    ∙ more-pieces number (take size m) size ((length (drop size m) - 1) / size) (drop size m)

take-all : (n : ℕ) (l : List ℕ) → length l ≤ n → take n l ≡ l
take-all zero [] le = refl
take-all zero (x ∷ l) le = absurd (omega arith)
take-all (suc n) [] le = refl
take-all (suc n) (x ∷ l) le = ap (λ (t : List ℕ). x ∷ t) (take-all n l (omega arith))

-- the block of a message that is cut, and those after it
pub first-short : (number : Number) (size : ℕ) (m : List ℕ) → 1 ≤ size → length m ≤ size
    → chain_blocks number (cut_of size m) ≡ leading_block size number m ∷ []
first-short number size m pos le =
    blocks-short number size m pos le ∙ ap (λ (go : Bool). chain_block number go m ∷ [])
    (sym (le-ltb size (length m) le))
    ∙ ap (λ (t : List ℕ). chain_block number (nat_lt size (length m)) t ∷ []) (sym (take-all size m le))

-- a longer message has this block first, and then the blocks of what is left, from the other number on
pub first-long : (number : Number) (size : ℕ) (m : List ℕ) → 1 ≤ size → size < length m
    → chain_blocks number (cut_of size m) ≡ leading_block size number m ∷ chain_blocks (other number)
    (cut_of size (drop size m))
first-long number size m pos lt =
    blocks-long number size m pos lt ∙ ap (λ (go : Bool).
    chain_block number go (take size m) ∷ chain_blocks (other number) (cut_of size (drop size m)))
    (sym (lt-ltb size (length m) lt))

-- a chain of a cut has an octet for each of the message, and four for each block
pub length-cut : (number : Number) (size : ℕ) (m : List ℕ)
    → length (spelling number (cut_of size m)) ≤ length m + ((length m - 1) / size + 1) * 4
length-cut number size m = omega (
  arith,
  blocks-length number (cut_of size m),
  ap length (message_of-cut_of size m),
  length-cut_of size m,
)

-- and no more than 655,364 octets, where the message has at most 131,072
pub length-cut-most : (number : Number) (size : ℕ) (m : List ℕ) → length m ≤ 131072
    → length (spelling number (cut_of size m)) ≤ 655364
length-cut-most number size m le = omega (arith, length-cut number size m, div-most (length m - 1) size)
