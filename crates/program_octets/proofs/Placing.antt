-- How the places of lines are added one after another, and how the LEN of each block gives the fields of a chain.
use Rattle.std.proofs.Common.{◌≡◌, ◌∙◌, ◌<◌, ◌+◌, ◌-◌, ◌++◌, ◌∷◌, ℕ, Bool, true, false, List, [], suc, ap, append_assoc, arith, drop, get_or, length, refl, subst, sym, length-append}
use Rattle.std.proofs.Math.Seq.{drop-append_seam}
use Rattle.std.proofs.lemmas.List.{drop-drop, get_or-drop, take-append-drop}
use Rattle.std.specs.Prelude.{slice_index, is_some, if◌then◌else◌, Option, Some, None}
use Rattle.atr_core.specs.Atr.{AtrParts, checked_octets, count_of, needs_tck, tck_of}
use Rattle.octet_core.specs.Grammar.{Accepts, self_ended}
use Rattle.octet_core.specs.Octets.{xor_of}
use Rattle.block_core.specs.Block.{Parts, front_of, other, spelling}
use Rattle.block_core.specs.declared.pcb.Number.{Number}
use Rattle.chain_core.specs.Chain.{IsChain, chain_block, chain_blocks, message_of, octets_of}
use Rattle.program_words.specs.declared.request.Kind.{Kind}
use Rattle.layouts.specs.declared.layout.Layout.{Layout}
use Rattle.tlv_core.specs.Flat.{PartValue, parts_of}
use Rattle.tlv_core.specs.Tree.{Tree}
use Rattle.program_octets.specs.BlockTexts.{block_codec, lrc_members, lrc_rows}
use Rattle.program_octets.specs.ChainTexts.{chain_codec, chain_members, field_ranges, joined_members, joined_rows, longest_message}
use Rattle.program_octets.specs.Codec.{said_by}
use Rattle.program_octets.specs.ForestTexts.{forest_codec, parts_members, parts_rows}
use Rattle.program_octets.specs.Places.{ranges_in, with_ranges}
use Rattle.program_octets.specs.Verdicts.{laid_out, shown_in}

-- the field of the first of some blocks
pub one-field : (ranges new b : List ℕ) (blocks counter at len : ℕ) → counter < blocks → len ≡ slice_index b (at + 2)
    → new ≡ with_ranges ranges ((at + 3, at + 3 + len) ∷ [])
    → with_ranges new (ranges_in (blocks - (counter + 1)) (at + 3 + len + 1) b)
    ≡ with_ranges ranges (ranges_in (blocks - counter) at b)
one-field ranges new b blocks counter at len inside third is =
    let left : blocks - counter ≡ suc (blocks - (counter + 1)) = omega arith in
    rw (left, is, third) refl

-- whether there is a TCK
tck-there : (a : AtrParts) → is_some (tck_of a) ≡ needs_tck a.indicated
tck-there a = elim (needs_tck a.indicated) as (λ (needs : Bool).
    is_some (if needs then Some (xor_of (checked_octets a)) else None) ≡ needs) [ true ↦ refl | false ↦ refl ]

-- how many octets TCK has
pub tck-size : (a : AtrParts) (tck : Option ℕ) (is : Bool) → tck ≡ tck_of a → is ≡ is_some tck
    → count_of is ≡ count_of (needs_tck a.indicated)
tck-size a tck is same there = ap count_of (there ∙ ap is_some same ∙ tck-there a)

-- ---- the blocks of a chain

third-octet : (b : List ℕ) (at : ℕ) (v : Parts) (rest : List ℕ) → drop at b ≡ spelling v ++ rest
    → slice_index b (at + 2) ≡ length v.inf
third-octet b at v rest is = sym (get_or-drop at b 2 0) ∙ ap (λ (l : List ℕ). get_or l 2 0) is

after-block : (b : List ℕ) (at : ℕ) (v : Parts) (rest : List ℕ) → drop at b ≡ spelling v ++ rest
    → drop (at + 3 + length v.inf + 1) b ≡ rest
after-block b at v rest is =
    let size : at + 3 + length v.inf + 1 ≡ at + length (spelling v) =
    omega (arith, length-append (front_of v) (xor_of (front_of v) ∷ [])) in
    ap (λ (k : ℕ). drop k b) size ∙ sym (drop-drop (length (spelling v)) at b) ∙ ap (drop (length (spelling v))) is
    ∙ drop-append_seam (spelling v) rest

first-field : (b : List ℕ) (at : ℕ) (v : Parts) (rest : List ℕ) (fields : List (List ℕ))
    → drop at b ≡ spelling v ++ rest
    → (drop (at + 3 + length v.inf + 1) b ≡ rest → ranges_in (length fields) (at + 3 + length v.inf + 1) b
    ≡ field_ranges (at + 3 + length v.inf + 1) fields)
    → ranges_in (suc (length fields)) at b ≡ field_ranges at (v.inf ∷ fields)
first-field b at v rest fields is others =
    rw (third-octet b at v rest is) (ap (λ (l : List (ℕ × ℕ)). (at + 3, at + 3 + length v.inf) ∷ l)
    (others (after-block b at v rest is)))

-- the LENs give the fields
ranges-of : (number : Number) (fields : List (List ℕ)) (b : List ℕ) (at : ℕ) (more : List ℕ)
    → drop at b ≡ octets_of (chain_blocks number fields) ++ more
    → ranges_in (length fields) at b ≡ field_ranges at fields
ranges-of number [] b at more is = refl
ranges-of number (field ∷ []) b at more is =
    let v : Parts = chain_block number false field in
    first-field b at v more [] (is ∙ append_assoc (spelling v) [] more) (λ rest. refl)
ranges-of number (field ∷ next ∷ fields) b at more is =
    let v : Parts = chain_block number true field in
    let others : List ℕ = octets_of (chain_blocks (other number) (next ∷ fields)) in
    first-field b at v (others ++ more) (next ∷ fields) (is ∙ append_assoc (spelling v) others more)
    (λ rest. ranges-of (other number) (next ∷ fields) b (at + 3 + length field + 1) more rest)

chain-ranges : (ifs : ℕ) (number : Number) (fields : List (List ℕ)) (b : List ℕ) (n : ℕ)
    → Accepts self_ended (IsChain ifs number longest_message) b fields n
    → ranges_in (length fields) 0 b ≡ field_ranges 0 fields
chain-ranges ifs number fields b n h =
    ranges-of number fields b 0 (drop n b)
    (sym (take-append-drop n b) ∙ ap (λ (l : List ℕ). l ++ drop n b) h.1.is)

module _ (noted : Bool) (layout : Layout) (kind : Kind) where
  -- what shows the blocks and the message of a receiver shows the chain
  pub joined-shown : (ifs : ℕ) (number : Number) (fields : List (List ℕ)) (b : List ℕ) (n blocks : ℕ)
      (message octets text : List ℕ) → Accepts self_ended (IsChain ifs number longest_message) b fields n
      → blocks ≡ length fields → message ≡ message_of fields → octets ≡ b
      → text ≡ laid_out layout kind (said_by layout noted (joined_rows blocks message (ranges_in blocks 0 octets) n)
      (joined_members blocks message)) n
      → text ≡ shown_in noted layout kind (chain_codec ifs number) fields n
  joined-shown ifs number fields b n blocks message octets text h count joined same said =
      let told : List (ℕ × ℕ) → List ℕ = λ ranges. laid_out layout kind (said_by layout noted
      (joined_rows (length fields) (message_of fields) ranges n) (chain_members fields)) n in
      let made : text ≡ told (ranges_in (length fields) 0 b) = rw (count, joined, same) at said in
      made ∙ ap told (chain-ranges ifs number fields b n h)

  -- what shows a block with its LRC shows the block
  pub lrc-shown : (ifs : ℕ) (v : Parts) (n lrc : ℕ) (text : List ℕ) → lrc ≡ xor_of (front_of v)
      → text ≡ laid_out layout kind (said_by layout noted (lrc_rows v lrc n) (lrc_members v lrc)) n
      → text ≡ shown_in noted layout kind (block_codec ifs) v n
  lrc-shown ifs v n lrc text is said =
      subst (λ (x : ℕ). text ≡ laid_out layout kind (said_by layout noted (lrc_rows v x n) (lrc_members v x)) n) is
      said

  -- what shows the parts of a forest shows the forest
  pub parts-shown : (t : Tree) (n : ℕ) (parts : List PartValue) (text : List ℕ) → parts ≡ parts_of 1 0 t
      → text ≡ laid_out layout kind (said_by layout noted (parts_rows parts n) (parts_members parts)) n
      → text ≡ shown_in noted layout kind forest_codec t n
  parts-shown t n parts text is said =
      subst (λ (p : List PartValue). text ≡ laid_out layout kind (said_by layout noted (parts_rows p n)
      (parts_members p)) n) is said
