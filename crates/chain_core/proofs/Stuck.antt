-- Where octets meet a line of the table of reasons, no chain goes on.
use Rattle.std.proofs.Common.{◌≡◌, ℕ, ◌+◌, ◌<◌, ◌≤◌, ◌++◌, List, [], ◌∷◌, length, sym, ap, subst, ◌∙◌, arith, Bool, true, false, append_assoc, slice_index}
use Rattle.std.proofs.lemmas.List.{length-append}
use Rattle.std.specs.List.{AllByRecursion}
use Rattle.octet_core.specs.Octets.{xor_of}
use Rattle.octet_core.specs.Grammar.{Begins}
use Rattle.octet_core.proofs.Lists.{split_same, never, octet-at}
use Rattle.block_core.specs.declared.pcb.Number.{Number}
use Rattle.block_core.specs.declared.pcb.Number.TheVariants.{Zero, One}
use Rattle.block_core.specs.declared.pcb.Pcb.TheVariants.{Info}
use Rattle.block_core.specs.Block as block
use Rattle.block_core.specs.Block.{other, pcb_octet}
use Rattle.block_core.proofs.Blocks.{spelling-len, spelling-xor}
use Rattle.block_core.proofs.Computed.{pcb-back}
use Rattle.chain_core.specs.declared.reason.ChainReason.{ChainReason}
use Rattle.chain_core.specs.declared.reason.ChainReason.TheVariants.{BadNad, BadPcb, NotInfo, BadSequence, TooManyBlocks, BadLen, OverIfs, TooLong, BadLrc}
use Rattle.chain_core.specs.Chain.{IsChain, message_of, open_blocks, octets_of, chain_block, number_after, spelling, MeetsInBlock, Meets}
use Rattle.chain_core.proofs.Unique.{block-split}

-- the block of a chain after those with the fields before
pub record Next (ifs max : ℕ) (number : Number) (before gs : List (List ℕ)) (c : List ℕ) : Type 0 where
  pub more : Bool
  pub field : List ℕ
  pub rest : List ℕ
  pub is : c ≡ block.spelling (chain_block (number_after number (length before)) more field) ++ rest
  pub size : length field ≤ ifs
  pub fits : length (message_of before) + length field ≤ length (message_of gs)
  pub blocks : more ≡ true → length before + 1 < length gs

next-later : (ifs max : ℕ) (number : Number) (f : List ℕ) (before gs : List (List ℕ)) (c : List ℕ)
    → Next ifs max (other number) before gs c → Next ifs max number (f ∷ before) (f ∷ gs) c
next-later ifs max number f before gs c n = record {
  more = n.more;
  field = n.field;
  rest = n.rest;
  is = n.is;
  size = n.size;
  fits = omega (arith, n.fits, length-append f (message_of before), length-append f (message_of gs));
  blocks = λ e. omega (arith, n.blocks e);
}

-- what comes after whole blocks of a chain begins with its next block
pub next-block : (ifs max : ℕ) (number : Number) (before gs : List (List ℕ)) (c : List ℕ) → 0 < length gs
    → AllByRecursion (λ f. length f ≤ ifs) gs
    → spelling number gs ≡ octets_of (open_blocks number before) ++ c → Next ifs max number before gs c
next-block ifs max number before [] c some sizes e = absurd (omega arith)
next-block ifs max number [] (g ∷ []) c some sizes e = record {
  more = false;
  field = g;
  rest = [];
  is = sym e;
  size = sizes.0;
  fits = omega (arith, length-append g []);
  blocks = λ x. never x;
}
next-block ifs max number [] (g ∷ k ∷ gs) c some sizes e = record {
  more = true;
  field = g;
  rest = spelling (other number) (k ∷ gs);
  is = sym e;
  size = sizes.0;
  fits = omega (arith, length-append g (message_of (k ∷ gs)));
  blocks = λ x. omega arith;
}
next-block ifs max number (f ∷ before) (g ∷ []) c some sizes e =
    let a : List ℕ = block.spelling (chain_block number true f) in
    let u : List ℕ = octets_of (open_blocks (other number) before) in
    never (block-split number false true g f [] (u ++ c) (e ∙ append_assoc a u c)).0
next-block ifs max number (f ∷ before) (g ∷ k ∷ gs) c some sizes e =
    let a : List ℕ = block.spelling (chain_block number true f) in
    let u : List ℕ = octets_of (open_blocks (other number) before) in
    let h = block-split number true true g f (spelling (other number) (k ∷ gs)) (u ++ c) (e ∙ append_assoc a u c) in
    subst (λ (x : List ℕ). Next ifs max number (f ∷ before) (x ∷ k ∷ gs) c) (sym h.1)
    (next-later ifs max number f before (k ∷ gs) c
    (next-block ifs max (other number) before (k ∷ gs) c (omega arith) sizes.1 h.2))

-- equal I-blocks have the same number
pub same-number : (n m : Number) (x y : Bool) → Info n x ≡ Info m y → n ≡ m
same-number n m x y e = cc

same-more : (n m : Number) (x y : Bool) → Info n x ≡ Info m y → x ≡ y
same-more n m x y e = cc

-- no number is the other one
pub not-other : (n : Number) → other n ≡ n → ⊥
not-other Zero e = cc
not-other One e = cc

in-block : (ifs max : ℕ) (number : Number) (before gs : List (List ℕ)) (c more : List ℕ) (r : ChainReason) → ifs ≤ 254
    → length (message_of gs) ≤ max → length gs ≤ 131072
    → MeetsInBlock ifs number max before c r → Next ifs max number before gs (c ++ more) → ⊥
in-block ifs max number before gs c more BadNad small fits few m n =
    m.1 (octet-at c more (block.spelling (chain_block (number_after number (length before)) n.more n.field) ++ n.rest) 0
    (omega (arith, m.0)) n.is)
in-block ifs max number before gs c more BadPcb small fits few m n =
    m.1 (Info (number_after number (length before)) n.more)
    (sym (octet-at c more (block.spelling (chain_block (number_after number (length before)) n.more n.field) ++ n.rest)
    1
    (omega (arith, m.0)) n.is))
in-block ifs max number before gs c more NotInfo small fits few m n =
    m.1 (Info (number_after number (length before)) n.more)
    (sym (octet-at c more (block.spelling (chain_block (number_after number (length before)) n.more n.field) ++ n.rest)
    1
    (omega (arith, m.0)) n.is)) tt
in-block ifs max number before gs c more BadSequence small fits few m n =
    let own : Number = number_after number (length before) in
    let e : pcb_octet (Info (other own) m.1) ≡ pcb_octet (Info own n.more) =
    m.2 ∙ octet-at c more (block.spelling (chain_block own n.more n.field) ++ n.rest) 1 (omega (arith, m.0)) n.is in
    not-other own (same-number (other own) own m.1 n.more (pcb-back (Info (other own) m.1) (Info own n.more) e))
in-block ifs max number before gs c more TooManyBlocks small fits few m n =
    let own : Number = number_after number (length before) in
    let e : pcb_octet (Info m.2 true) ≡ pcb_octet (Info own n.more) =
    m.3 ∙ octet-at c more (block.spelling (chain_block own n.more n.field) ++ n.rest) 1 (omega (arith, m.0)) n.is in
    omega (arith, m.1, n.blocks (sym (same-more m.2 own true n.more (pcb-back (Info m.2 true) (Info own n.more) e))))
in-block ifs max number before gs c more BadLen small fits few m n =
    omega (
      arith,
      m.1,
      n.size,
      octet-at c more
          (block.spelling (chain_block (number_after number (length before)) n.more n.field) ++ n.rest) 2
          (omega (arith, m.0))
          n.is,
    )
in-block ifs max number before gs c more OverIfs small fits few m n =
    omega (
      arith,
      m.1,
      n.size,
      octet-at c more
          (block.spelling (chain_block (number_after number (length before)) n.more n.field) ++ n.rest) 2
          (omega (arith, m.0))
          n.is,
    )
in-block ifs max number before gs c more TooLong small fits few m n =
    omega (
      arith,
      m.1,
      n.fits,
      octet-at c more
          (block.spelling (chain_block (number_after number (length before)) n.more n.field) ++ n.rest) 2
          (omega (arith, m.0))
          n.is,
    )
in-block ifs max number before gs c more BadLrc small fits few m n =
    let own = chain_block (number_after number (length before)) n.more n.field in
    let len : slice_index c 2 ≡ length n.field =
    octet-at c more (block.spelling own ++ n.rest) 2 (omega (arith, m.0)) n.is in
    let same = split_same c (block.spelling own) more n.rest (omega (arith, m.0, len, spelling-len own)) n.is in
    m.1 (ap xor_of same.0 ∙ spelling-xor own)

-- octets that meet a line of the table begin no chain
pub meets-stuck : (ifs max : ℕ) (number : Number) (b : List ℕ) (r : ChainReason) → ifs ≤ 254 → Meets ifs number max b r
    → Begins (IsChain ifs number max) b → ⊥
meets-stuck ifs max number b r small m h =
    let e : spelling number h.0 ≡ octets_of (open_blocks number m.0) ++ (m.1 ++ h.1) =
    sym h.2.is ∙ ap (λ (l : List ℕ). l ++ h.1) m.2 ∙ append_assoc (octets_of (open_blocks number m.0)) m.1 h.1 in
    in-block ifs max number m.0 h.0 m.1 h.1 r small h.2.proper.fits h.2.proper.few m.3
    (next-block ifs max number m.0 h.0 (m.1 ++ h.1) h.2.proper.some h.2.proper.sizes e)
