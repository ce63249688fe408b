-- How a chain gets on while its octets come.
use Rattle.std.proofs.Common.{◌≡◌, ℕ, ◌+◌, ◌-◌, ◌<◌, ◌≤◌, ◌++◌, List, [], ◌∷◌, length, drop, refl, sym, ap, subst, ◌∙◌, arith, true, false, append_assoc, slice_index}
use Rattle.std.proofs.lemmas.List.{length-append, length-replicate}
use Rattle.std.proofs.Math.ListN.{replicate}
use Rattle.std.specs.List.{AllByRecursion}
use Rattle.octet_core.specs.Octets.{AreOctets, xor_of}
use Rattle.octet_core.specs.Grammar.{Begins, RefusesAt, self_ended}
use Rattle.octet_core.specs.declared.stop.Stop.TheVariants.{At}
use Rattle.octet_core.proofs.Firsts.{first_holds}
use Rattle.octet_core.specs.Grammar.{IsFirst}
use Rattle.octet_core.proofs.Lists.{octets-append, octets-left, octets-right, never, zeros-octets}
use Rattle.octet_core.proofs.Answered.{refused-next}
use Rattle.block_core.specs.declared.pcb.Number.{Number}
use Rattle.block_core.specs.declared.pcb.Pcb.TheVariants.{Info}
use Rattle.block_core.specs.Block as block
use Rattle.block_core.specs.Block.{other, pcb_octet, front_of}
use Rattle.block_core.proofs.Blocks.{spelling-len}
use Rattle.chain_core.specs.declared.reason.ChainReason.{ChainReason}
use Rattle.chain_core.specs.declared.stage.BlockStage as stage
use Rattle.chain_core.specs.declared.stage.BlockStage.TheVariants as stages
use Rattle.chain_core.specs.Chain.{IsChain, IsReason, MeetsInBlock, all_reasons, message_of, open_blocks, octets_of, chain_block, number_after, spelling}
use Rattle.chain_core.specs.Lent.{under_way_of, IsUnderWay}
use Rattle.chain_core.proofs.Unique.{block-split, one-accepted}
use Rattle.chain_core.proofs.Goes.{Taken, part-begins}
use Rattle.chain_core.proofs.Reasons.{IsPart, reason-in_block}
use Rattle.chain_core.proofs.Stuck.{Next, next-block, meets-stuck}

-- the whole blocks that begin a chain have what its blocks have
pub opened-taken : (ifs : ℕ) (number : Number) (fields gs : List (List ℕ)) (s : List ℕ)
    → AllByRecursion (λ f. length f ≤ ifs) gs → AreOctets (message_of gs)
    → spelling number gs ≡ octets_of (open_blocks number fields) ++ s → Taken ifs fields
opened-taken ifs number [] gs s sizes octets e = record { sizes = tt; octets = λ i. omega arith }
opened-taken ifs number (f ∷ fs) [] s sizes octets e =
    let a : List ℕ = block.spelling (chain_block number true f) in
    absurd (omega (
      arith,
      ap length e,
      length-append (a ++ octets_of (open_blocks (other number) fs)) s,
      length-append a (octets_of (open_blocks (other number) fs)),
      spelling-len (chain_block number true f),
    ))
opened-taken ifs number (f ∷ fs) (g ∷ []) s sizes octets e =
    let a : List ℕ = block.spelling (chain_block number true f) in
    let u : List ℕ = octets_of (open_blocks (other number) fs) in
    never (block-split number false true g f [] (u ++ s) (e ∙ append_assoc a u s)).0
opened-taken ifs number (f ∷ fs) (g ∷ k ∷ gs) s sizes octets e =
    let a : List ℕ = block.spelling (chain_block number true f) in
    let u : List ℕ = octets_of (open_blocks (other number) fs) in
    let h = block-split number true true g f (spelling (other number) (k ∷ gs)) (u ++ s) (e ∙ append_assoc a u s) in
    let rest : Taken ifs fs = opened-taken ifs (other number) fs (k ∷ gs) s sizes.1
    (octets-right g (message_of (k ∷ gs)) octets) h.2 in
    record {
      sizes = (subst (λ (x : List ℕ). length x ≤ ifs) h.1 sizes.0, rest.sizes);
      octets = octets-append f (message_of fs) (subst AreOctets h.1 (octets-left g (message_of (k ∷ gs)) octets))
          rest.octets;
    }

-- and so have those before the octets of a block under way, where all of them begin a chain
pub begun-taken : (ifs max : ℕ) (number : Number) (fields : List (List ℕ)) (c t : List ℕ)
    → t ≡ octets_of (open_blocks number fields) ++ c → Begins (IsChain ifs number max) t → Taken ifs fields
begun-taken ifs max number fields c t is (gs, more, h) =
    opened-taken ifs number fields gs (c ++ more) h.proper.sizes h.proper.octets
    (sym h.is ∙ ap (λ (l : List ℕ). l ++ more) is ∙ append_assoc (octets_of (open_blocks number fields)) c more)

-- ---- the block under way

-- fewer octets than a block has
pub way-under : (number : Number) (ifs max blocks joined came : ℕ) (p : stage.BlockStage) (field : List ℕ)
    → length field ≤ came → IsUnderWay ifs max blocks joined came p
    → 3 < length (under_way_of number p field)
    → length (under_way_of number p field) < slice_index (under_way_of number p field) 2 + 4
way-under number ifs max blocks joined came stages.Nad field short h lt = absurd (omega arith)
way-under number ifs max blocks joined came stages.Pcb field short h lt = absurd (omega arith)
way-under number ifs max blocks joined came (stages.Len more) field short h lt = absurd (omega arith)
way-under number ifs max blocks joined came (stages.Rest more len) field short h lt = omega (arith, short, h.3)

-- whole blocks and what there is of the next begin a chain
pub way-begins : (ifs : ℕ) (number : Number) (max : ℕ) (before : List (List ℕ)) (came : ℕ) (p : stage.BlockStage)
    (field : List ℕ) → Taken ifs before → length before + 1 ≤ 131072 → length (message_of before) ≤ max
    → length field ≤ came → IsUnderWay ifs max (length before) (length (message_of before)) came p → AreOctets field
    → Begins (IsChain ifs number max)
    (octets_of (open_blocks number before) ++ under_way_of (number_after number (length before)) p field)
way-begins ifs number max before came stages.Nad field taken few fits short h octets =
    part-begins ifs number max before false [] []
    (block.spelling (chain_block (number_after number (length before)) false []))
    taken (omega arith) (omega arith) (λ i. omega arith) (omega arith) refl
way-begins ifs number max before came stages.Pcb field taken few fits short h octets =
    part-begins ifs number max before false [] (0 ∷ [])
    (drop 1 (block.spelling (chain_block (number_after number (length before)) false []))) taken (omega arith)
    (omega arith) (λ i. omega arith) (omega arith) refl
way-begins ifs number max before came (stages.Len more) field taken few fits short h octets =
    let own : Number = number_after number (length before) in
    part-begins ifs number max before more [] (0 ∷ pcb_octet (Info own more) ∷ [])
    (drop 2 (block.spelling (chain_block own more []))) taken h (omega arith) (λ i. omega arith) (omega arith) refl
way-begins ifs number max before came (stages.Rest more len) field taken few fits short h octets =
    let own : Number = number_after number (length before) in
    let left : List ℕ = replicate (len - length field) 0 in
    let all : List ℕ = field ++ left in
    let sum : List ℕ = xor_of (front_of (chain_block own more all)) ∷ [] in
    let count : len ≡ length all = omega (
      arith,
      length-append field left,
      length-replicate {A = ℕ} (len - length field) 0,
      short,
      h.3,
    ) in
    let text : field ++ (left ++ sum) ≡ all ++ sum = sym (append_assoc field left sum) in
    part-begins ifs number max before more all (0 ∷ pcb_octet (Info own more) ∷ len ∷ field) (left ++ sum) taken h.0
    (omega (arith, count, h.1)) (octets-append field left octets (zeros-octets (len - length field)))
    (omega (arith, count, h.2)) (λ i. 0 ∷ pcb_octet (Info own more) ∷ count i ∷ text i)

-- and are none
pub not-chain : (ifs max : ℕ) (number : Number) (before : List (List ℕ)) (c : List ℕ)
    → (3 < length c → length c < slice_index c 2 + 4) → (gs : List (List ℕ))
    → IsChain ifs number max gs (octets_of (open_blocks number before) ++ c) → ⊥
not-chain ifs max number before c part gs h =
    let n : Next ifs max number before gs c =
    next-block ifs max number before gs c h.proper.some h.proper.sizes (sym h.is) in
    let own = chain_block (number_after number (length before)) n.more n.field in
    let long : length c ≡ length n.field + 4 + length n.rest =
    omega (arith, ap length n.is, length-append (block.spelling own) n.rest, spelling-len own) in
    let two : slice_index c 2 ≡ length n.field = ap (λ (l : List ℕ). slice_index l 2) n.is in
    omega (arith, part (omega (arith, long)), long, two)

-- ---- refusals

-- the next octet of the block under way
pub refused-in_block : (ifs max : ℕ) (number : Number) (before : List (List ℕ)) (c : List ℕ) (x : ℕ) (r : ChainReason)
    → ifs ≤ 254 → Begins (IsChain ifs number max) (octets_of (open_blocks number before) ++ c)
    → (3 < length c → length c < slice_index c 2 + 4) → IsPart (c ++ x ∷ [])
    → IsFirst all_reasons (MeetsInBlock ifs number max before (c ++ x ∷ [])) r
    → RefusesAt self_ended (IsChain ifs number max) (IsReason ifs number max)
    ((octets_of (open_blocks number before) ++ c) ++ x ∷ [])
    (At (length (octets_of (open_blocks number before) ++ c)) r)
refused-in_block ifs max number before c x r small begun under part first =
    let opened : List ℕ = octets_of (open_blocks number before) in
    let parts_is : (opened ++ c) ++ x ∷ [] ≡ opened ++ (c ++ x ∷ []) = append_assoc opened c (x ∷ []) in
    refused-next (IsChain ifs number max) (IsReason ifs number max) (one-accepted ifs ifs max max number) (opened ++ c)
    x r begun (not-chain ifs max number before c under)
    (λ h. meets-stuck ifs max number (opened ++ (c ++ x ∷ [])) r small
    (before, c ++ x ∷ [], refl, first_holds all_reasons (MeetsInBlock ifs number max before (c ++ x ∷ [])) r first)
    (subst (Begins (IsChain ifs number max)) parts_is h))
    (reason-in_block ifs number max before (c ++ x ∷ []) ((opened ++ c) ++ x ∷ []) r parts_is part first)
