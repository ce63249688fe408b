-- Where a chain goes on, and that every input has one verdict.
use Rattle.std.proofs.Common.{◌≡◌, ◌≢◌, ℕ, suc, ◌+◌, ◌-◌, ◌<◌, ◌≤◌, ◌++◌, List, [], ◌∷◌, length, drop, get_or, refl, sym, ap, subst, ◌∙◌, arith, Bool, true, false, append_assoc, bit_xor, inl, inr, ◌⊎◌}
use Rattle.std.proofs.lemmas.Bool.{cases_lt}
use Rattle.std.proofs.lemmas.List.{append-nil, length-append, length-replicate}
use Rattle.std.proofs.lemmas.List.Sums.{fold-append}
use Rattle.std.proofs.Math.ListN.{replicate}
use Rattle.std.specs.List.{AllByRecursion}
use Rattle.octet_core.specs.Octets.{AreOctets, xor_of}
use Rattle.octet_core.specs.Grammar.{Begins, OneVerdict, self_ended, IsFirst}
use Rattle.octet_core.proofs.Begun.{begins-front}
use Rattle.octet_core.proofs.Firsts.{first_once, first_holds}
use Rattle.octet_core.proofs.Told.{same}
use Rattle.octet_core.proofs.Lists.{head_is, nil_of, never, cut_at, octets-append, octets-left, octets-right, octets-cons, zeros-octets}
use Rattle.octet_core.proofs.Verdicts.{Steps, one_verdict}
use Rattle.block_core.specs.declared.pcb.Number.{Number}
use Rattle.block_core.specs.declared.pcb.Number.TheVariants.{Zero, One}
use Rattle.block_core.specs.declared.pcb.Pcb.{Pcb}
use Rattle.block_core.specs.declared.pcb.Pcb.TheVariants.{Info, Ready, Request, Response}
use Rattle.block_core.specs.Block as block
use Rattle.block_core.specs.Block.{other, pcb_octet, front_of}
use Rattle.block_core.proofs.Blocks.{xor-zero}
use Rattle.block_core.proofs.Computed.{pcb-known}
use Rattle.chain_core.specs.declared.reason.ChainReason.{ChainReason}
use Rattle.chain_core.specs.declared.reason.ChainReason.TheVariants.{BadNad, BadPcb, NotInfo, BadSequence, TooManyBlocks, BadLen, OverIfs, TooLong, BadLrc}
use Rattle.chain_core.specs.Chain.{IsChain, message_of, open_blocks, octets_of, chain_block, number_after, spelling, MeetsInBlock, Meets, IsReason, all_reasons}
use Rattle.chain_core.specs.Stage.{more_count, IsPcbFault, IsLenFault}
use Rattle.chain_core.proofs.Unique.{one-accepted}
use Rattle.chain_core.proofs.Reasons.{IsPart, part-short, part-sum, reason-in_block}
use Rattle.chain_core.proofs.Heads.{first-pcb, first-len, first-lrc}
use Rattle.chain_core.proofs.Stuck.{meets-stuck}

-- ---- chains by their blocks

mid-step : (number : Number) (f : List ℕ) (fs : List (List ℕ)) (g : List ℕ) (rest : List (List ℕ))
    → spelling number (f ∷ (fs ++ g ∷ rest)) ≡ block.spelling (chain_block number true f)
    ++ spelling (other number) (fs ++ g ∷ rest)
mid-step number f [] g rest = refl
mid-step number f (k ∷ fs) g rest = refl

-- a chain is spelled by the blocks before one of its fields, and then as the chain from that field on
pub spelling-mid : (number : Number) (before : List (List ℕ)) (g : List ℕ) (rest : List (List ℕ))
    → spelling number (before ++ g ∷ rest) ≡ octets_of (open_blocks number before)
    ++ spelling (number_after number (length before)) (g ∷ rest)
spelling-mid number [] g rest = refl
spelling-mid number (f ∷ fs) g rest =
    let a : List ℕ = block.spelling (chain_block number true f) in
    mid-step number f fs g rest ∙ ap (λ (l : List ℕ). a ++ l) (spelling-mid (other number) fs g rest)
    ∙ sym (append_assoc a (octets_of (open_blocks (other number) fs))
    (spelling (number_after number (length (f ∷ fs))) (g ∷ rest)))

-- fields and more of them carry the octets of the first and then those of the others
pub message-append : (fs gs : List (List ℕ)) → message_of (fs ++ gs) ≡ message_of fs ++ message_of gs
message-append [] gs = refl
message-append (f ∷ fs) gs = ap (λ (l : List ℕ). f ++ l) (message-append fs gs)
    ∙ sym (append_assoc f (message_of fs) (message_of gs))

-- they are as many as both together
pub count-append : (fs gs : List (List ℕ)) → length (fs ++ gs) ≡ length fs + length gs
count-append [] gs = omega arith
count-append (f ∷ fs) gs = omega (arith, count-append fs gs)

-- none of them has more than ifs octets, where none of either has
pub sizes-append : (ifs : ℕ) (fs gs : List (List ℕ)) → AllByRecursion (λ f. length f ≤ ifs) fs
    → AllByRecursion (λ f. length f ≤ ifs) gs → AllByRecursion (λ f. length f ≤ ifs) (fs ++ gs)
sizes-append ifs [] gs p q = q
sizes-append ifs (f ∷ fs) gs p q = (p.0, sizes-append ifs fs gs p.1 q)

-- the fields from the one under way on
closing : List ℕ → Bool → List (List ℕ)
closing field false = field ∷ []
closing field true = field ∷ [] ∷ []

-- what blocks of a chain have in common
pub record Taken (ifs : ℕ) (before : List (List ℕ)) : Type 0 where
  pub sizes : AllByRecursion (λ f. length f ≤ ifs) before
  pub octets : AreOctets (message_of before)

-- blocks that go on, and one more, begin a chain
pub chain-begins : (ifs : ℕ) (number : Number) (max : ℕ) (before : List (List ℕ)) (go : Bool) (field : List ℕ)
    → Taken ifs before → length before + 1 + more_count go ≤ 131072
    → length field ≤ ifs → AreOctets field → length (message_of before) + length field ≤ max
    → Begins (IsChain ifs number max)
    (octets_of (open_blocks number before)
    ++ block.spelling (chain_block (number_after number (length before)) go field))
chain-begins ifs number max before false field taken few size octets fits =
    let own : Number = number_after number (length before) in
    let fields : List (List ℕ) = before ++ field ∷ [] in
    let text : List ℕ = octets_of (open_blocks number before) ++ block.spelling (chain_block own false field) in (
      fields,
      [],
      record {
        proper = record {
          some = omega (arith, count-append before (field ∷ []));
          few = omega (arith, count-append before (field ∷ []), few);
          sizes = sizes-append ifs before (field ∷ []) taken.sizes (size, tt);
          octets = subst AreOctets (sym (message-append before (field ∷ [])))
              (octets-append (message_of before) (field ++ []) taken.octets
              (subst AreOctets (sym (append-nil field)) octets));
          fits = omega (
            arith,
            ap length (message-append before (field ∷ [])),
            length-append (message_of before) (field ++ []),
            length-append field [],
            fits,
          );
        };
        is = append-nil text ∙ ap (λ (l : List ℕ). octets_of (open_blocks number before) ++ l)
            (sym (append-nil (block.spelling (chain_block own false field))))
            ∙ sym (spelling-mid number before field []);
      },
    )
chain-begins ifs number max before true field taken few size octets fits =
    let own : Number = number_after number (length before) in
    let last : List ℕ = block.spelling (chain_block (other own) false []) ++ [] in
    let opened : List ℕ = octets_of (open_blocks number before) in
    let fields : List (List ℕ) = before ++ field ∷ [] ∷ [] in (
      fields,
      last,
      record {
        proper = record {
          some = omega (arith, count-append before (field ∷ [] ∷ []));
          few = omega (arith, count-append before (field ∷ [] ∷ []), few);
          sizes = sizes-append ifs before (field ∷ [] ∷ []) taken.sizes (size, (omega arith, tt));
          octets = subst AreOctets (sym (message-append before (field ∷ [] ∷ [])))
              (octets-append (message_of before) (field ++ []) taken.octets
              (subst AreOctets (sym (append-nil field)) octets));
          fits = omega (
            arith,
            ap length (message-append before (field ∷ [] ∷ [])),
            length-append (message_of before) (field ++ []),
            length-append field [],
            fits,
          );
        };
        is = append_assoc opened (block.spelling (chain_block own true field)) last
            ∙ sym (spelling-mid number before field ([] ∷ []));
      },
    )

-- and so do the blocks that go on with the first octets of that one more
pub part-begins : (ifs : ℕ) (number : Number) (max : ℕ) (before : List (List ℕ)) (go : Bool) (field part rest : List ℕ)
    → Taken ifs before → length before + 1 + more_count go ≤ 131072
    → length field ≤ ifs → AreOctets field → length (message_of before) + length field ≤ max → part
    ++ rest ≡ block.spelling (chain_block (number_after number (length before)) go field)
    → Begins (IsChain ifs number max) (octets_of (open_blocks number before) ++ part)
part-begins ifs number max before go field part rest taken few size octets fits e =
    let opened : List ℕ = octets_of (open_blocks number before) in
    begins-front (IsChain ifs number max) (opened ++ part) rest
    (subst (Begins (IsChain ifs number max))
    (ap (λ (l : List ℕ). opened ++ l) (sym e) ∙ sym (append_assoc opened part rest))
    (chain-begins ifs number max before go field taken few size octets fits))

-- ---- the block under way

record UnderWay (ifs : ℕ) (number : Number) (gs : List (List ℕ)) (c : List ℕ) (y : ℕ) : Type 0 where
  before : List (List ℕ)
  part : List ℕ
  field : List ℕ
  go : Bool
  left : List ℕ
  is : c ≡ octets_of (open_blocks number before) ++ part
  told : block.spelling (chain_block (number_after number (length before)) go field) ≡ part ++ y ∷ left
  few : length before + 1 + more_count go ≤ length gs
  sizes : AllByRecursion (λ f. length f ≤ ifs) before
  size : length field ≤ ifs
  octets : AreOctets (message_of before)
  own_octets : AreOctets field
  fits : length (message_of before) + length field ≤ length (message_of gs)

under_way : (ifs : ℕ) (number : Number) (gs : List (List ℕ)) (c : List ℕ) (y : ℕ) (more : List ℕ)
    → AllByRecursion (λ f. length f ≤ ifs) gs → AreOctets (message_of gs) → spelling number gs ≡ c ++ y ∷ more
    → UnderWay ifs number gs c y
under_way ifs number [] c y more sizes octets e = absurd (omega (arith, ap length e, length-append c (y ∷ more)))
under_way ifs number (g ∷ []) c y more sizes octets e =
    elim (cut_at (block.spelling (chain_block number false g)) [] c y more e) [
      | inl h ↦ record {
        before = [];
        part = c;
        field = g;
        go = false;
        left = h.0;
        is = refl;
        told = h.1;
        few = omega arith;
        sizes = tt;
        size = sizes.0;
        octets = λ i. omega arith;
        own_octets = octets-left g [] octets;
        fits = omega (arith, length-append g []);
      }
      | inr h ↦ absurd (omega (arith, ap length h.2, length-append h.0 (y ∷ more)))
    ]
under_way ifs number (g ∷ n ∷ gs) c y more sizes octets e =
    let a : List ℕ = block.spelling (chain_block number true g) in
    elim (cut_at a (spelling (other number) (n ∷ gs)) c y more e) [
      | inl h ↦ record {
        before = [];
        part = c;
        field = g;
        go = true;
        left = h.0;
        is = refl;
        told = h.1;
        few = omega arith;
        sizes = tt;
        size = sizes.0;
        octets = λ i. omega arith;
        own_octets = octets-left g (message_of (n ∷ gs)) octets;
        fits = omega (arith, length-append g (message_of (n ∷ gs)));
      }
      | inr h ↦
          let u = under_way ifs (other number) (n ∷ gs) h.0 y more sizes.1 (octets-right g (message_of (n ∷ gs)) octets)
          h.2 in
          record {
            before = g ∷ u.before;
            part = u.part;
            field = u.field;
            go = u.go;
            left = u.left;
            is = h.1 ∙ ap (λ (l : List ℕ). a ++ l) u.is
                ∙ sym (append_assoc a (octets_of (open_blocks (other number) u.before)) u.part);
            told = u.told;
            few = omega (arith, u.few);
            sizes = (sizes.0, u.sizes);
            size = u.size;
            octets = octets-append g (message_of u.before) (octets-left g (message_of (n ∷ gs)) octets) u.octets;
            own_octets = u.own_octets;
            fits = omega (arith, u.fits, length-append g (message_of u.before), length-append g (message_of (n ∷ gs)));
          }
    ]

-- ---- one octet more

abbrev Goes : ℕ → Number → ℕ → List ℕ → Type 0
Goes ifs number max b = Begins (IsChain ifs number max) b ⊎ ((r : ChainReason) × IsReason ifs number max r b)

refused : (ifs : ℕ) (number : Number) (max : ℕ) (before : List (List ℕ)) (part : List ℕ) (r : ChainReason) → IsPart part
    → IsFirst all_reasons (MeetsInBlock ifs number max before part) r
    → Goes ifs number max (octets_of (open_blocks number before) ++ part)
refused ifs number max before part r whole first =
    inr (
      r,
      reason-in_block ifs number max before part (octets_of (open_blocks number before) ++ part) r refl whole
          first,
    )

number-told : (n m : Number) → (n ≡ m) ⊎ (n ≡ other m)
number-told Zero Zero = inl refl
number-told Zero One = inr refl
number-told One Zero = inr refl
number-told One One = inl refl

goes-nad : (ifs : ℕ) (number : Number) (max : ℕ) (before : List (List ℕ)) (x : ℕ) → Taken ifs before
    → length before + 1 ≤ 131072 → length (message_of before) ≤ max
    → Goes ifs number max (octets_of (open_blocks number before) ++ x ∷ [])
unfolding IsFirst
goes-nad ifs number max before x taken few fits =
    let own : Number = number_after number (length before) in
    elim (same x 0) [
      | inl e ↦ inl (part-begins ifs number max before false [] (x ∷ [])
          (drop 1 (block.spelling (chain_block own false [])))
          taken (omega arith) (omega arith) (λ i. omega arith) (omega arith)
          (ap (λ (z : ℕ). z ∷ drop 1 (block.spelling (chain_block own false []))) e))
      | inr ne ↦ refused ifs number max before (x ∷ []) BadNad (part-short (x ∷ []) (omega arith))
          (inl ((omega arith, ne), refl))
    ]

-- a control octet that is refused
pcb-refused : (ifs : ℕ) (number : Number) (max : ℕ) (before : List (List ℕ)) (x : ℕ) (last : Bool) (r : ChainReason)
    → (last ≡ true → length before + 1 ≡ 131072) → IsPcbFault (number_after number (length before)) last x r
    → Goes ifs number max (octets_of (open_blocks number before) ++ 0 ∷ x ∷ [])
pcb-refused ifs number max before x last r full h =
    refused ifs number max before (0 ∷ x ∷ []) r (part-short (0 ∷ x ∷ []) (omega arith))
    (first-pcb ifs number max before (0 ∷ x ∷ []) last r refl full h)

-- M=1 in the last block that a chain can have
crowded : (ifs : ℕ) (number : Number) (max : ℕ) (before : List (List ℕ)) (x : ℕ) (go : Bool)
    → pcb_octet (Info (number_after number (length before)) go) ≡ x → length before + 1 ≤ 131072
    → 131073 ≤ length before + 1 + more_count go
    → Goes ifs number max (octets_of (open_blocks number before) ++ 0 ∷ x ∷ [])
crowded ifs number max before x false e few over = absurd (omega arith)
crowded ifs number max before x true e few over =
    pcb-refused ifs number max before x true TooManyBlocks (λ full. omega arith) (refl, e)

goes-pcb : (ifs : ℕ) (number : Number) (max : ℕ) (before : List (List ℕ)) (x : ℕ) (p : Pcb) → pcb_octet p ≡ x
    → Taken ifs before → length before + 1 ≤ 131072 → length (message_of before) ≤ max
    → Goes ifs number max (octets_of (open_blocks number before) ++ 0 ∷ x ∷ [])
goes-pcb ifs number max before x (Ready n f) e taken few fits =
    pcb-refused ifs number max before x false NotInfo (λ full. never full) (Ready n f, e, λ i. i)
goes-pcb ifs number max before x (Request s) e taken few fits =
    pcb-refused ifs number max before x false NotInfo (λ full. never full) (Request s, e, λ i. i)
goes-pcb ifs number max before x (Response s) e taken few fits =
    pcb-refused ifs number max before x false NotInfo (λ full. never full) (Response s, e, λ i. i)
goes-pcb ifs number max before x (Info n go) e taken few fits =
    let own : Number = number_after number (length before) in
    elim (number-told n own) [
      | inr bad ↦ pcb-refused ifs number max before x false BadSequence (λ full. never full)
          (go, ap (λ (k : Number). pcb_octet (Info k go)) (sym bad) ∙ e)
      | inl good ↦
          let told : pcb_octet (Info own go) ≡ x = ap (λ (k : Number). pcb_octet (Info k go)) (sym good) ∙ e in
          let rest : List ℕ = drop 2 (block.spelling (chain_block own go [])) in
          elim (cases_lt (length before + 1 + more_count go) 131073) [
            | inl lt ↦ inl (part-begins ifs number max before go [] (0 ∷ x ∷ []) rest taken (omega arith) (omega arith)
                (λ i. omega arith) (omega arith) (ap (λ (z : ℕ). 0 ∷ z ∷ rest) (sym told)))
            | inr over ↦ crowded ifs number max before x go told few (omega arith)
          ]
    ]

goes-len : (ifs : ℕ) (number : Number) (max : ℕ) (before : List (List ℕ)) (go : Bool) (x : ℕ) → Taken ifs before
    → length before + 1 + more_count go ≤ 131072 → length (message_of before) ≤ max
    → Goes ifs number max (octets_of (open_blocks number before)
    ++ 0 ∷ pcb_octet (Info (number_after number (length before)) go) ∷ x ∷ [])
goes-len ifs number max before go x taken few enough =
    let own : Number = number_after number (length before) in
    let room : ℕ = max - length (message_of before) in
    let part : List ℕ = 0 ∷ pcb_octet (Info own go) ∷ x ∷ [] in
    let bad : (r : ChainReason) → IsLenFault ifs room x r
    → Goes ifs number max (octets_of (open_blocks number before) ++ part) =
    λ r h. refused ifs number max before part r (part-short part (omega arith))
    (first-len ifs number max before part room r refl enough refl h) in
    elim (same x 255) [
      | inl e ↦ bad BadLen e
      | inr ne ↦ elim (cases_lt ifs x) [
        | inl over ↦ bad OverIfs (ne, over)
        | inr size ↦ elim (cases_lt room x) [
          | inl over ↦ bad TooLong (ne, size, over)
          | inr fits ↦
              let field : List ℕ = replicate x 0 in
              let count : length field ≡ x = length-replicate {A = ℕ} x 0 in
              let rest : List ℕ = field ++ xor_of (front_of (chain_block own go field)) ∷ [] in
              inl (part-begins ifs number max before go field part rest taken few (omega (arith, count))
              (zeros-octets x) (omega (arith, count, fits, enough))
              (ap (λ (n : ℕ). 0 ∷ pcb_octet (Info own go) ∷ n ∷ rest) (sym count)))
        ]
      ]
    ]

-- a wrong check sum
goes-sum : (ifs : ℕ) (number : Number) (max : ℕ) (before : List (List ℕ)) (go : Bool) (field : List ℕ) (x : ℕ)
    → x ≢ xor_of (front_of (chain_block (number_after number (length before)) go field))
    → Goes ifs number max (octets_of (open_blocks number before)
    ++ (front_of (chain_block (number_after number (length before)) go field) ++ x ∷ []))
goes-sum ifs number max before go field x ne =
    let front : List ℕ = front_of (chain_block (number_after number (length before)) go field) in
    let part : List ℕ = front ++ x ∷ [] in
    let long : length part ≡ length field + 4 = omega (arith, length-append field (x ∷ [])) in
    let bad : xor_of part ≢ 0 = λ z. ne (xor-zero (xor_of front) x (sym (fold-append bit_xor 0 front (x ∷ [])) ∙ z)) in
    refused ifs number max before part BadLrc (part-sum part long bad)
    (first-lrc ifs number max before part (omega (arith, long)) long bad)

-- an octet of a field, or another check sum
goes-field : (ifs : ℕ) (number : Number) (max : ℕ) (before : List (List ℕ)) (go : Bool) (field s left : List ℕ)
    (y x : ℕ) → Taken ifs before → length before + 1 + more_count go ≤ 131072
    → length field ≤ ifs → AreOctets field → length (message_of before) + length field ≤ max → x < 256 → x ≢ y
    → field ++ xor_of (front_of (chain_block (number_after number (length before)) go field)) ∷ [] ≡ s ++ y ∷ left
    → Goes ifs number max (octets_of (open_blocks number before)
    ++ 0 ∷ pcb_octet (Info (number_after number (length before)) go) ∷ length field ∷ (s ++ x ∷ []))
goes-field ifs number max before go field s left y x taken few size octets fits lt ne e =
    let own : Number = number_after number (length before) in
    let sum : ℕ = xor_of (front_of (chain_block own go field)) in
    let pcb : ℕ = pcb_octet (Info own go) in
    elim (cut_at field (sum ∷ []) s y left e) [
      | inl h ↦
          let new : List ℕ = s ++ x ∷ h.0 in
          let count : length new ≡ length field =
          omega (arith, ap length h.1, length-append s (y ∷ h.0), length-append s (x ∷ h.0)) in
          let old : AreOctets (s ++ y ∷ h.0) = subst AreOctets h.1 octets in
          let last : List ℕ = xor_of (front_of (chain_block own go new)) ∷ [] in
          let new-octets : AreOctets new =
          octets-append s (x ∷ h.0) (octets-left s (y ∷ h.0) old)
          (octets-cons x h.0 lt (λ i. octets-right s (y ∷ h.0) old (suc i))) in
          let joined : (s ++ x ∷ []) ++ (h.0 ++ last) ≡ new ++ last =
          append_assoc s (x ∷ []) (h.0 ++ last) ∙ sym (append_assoc s (x ∷ h.0) last) in
          let back : length field ≡ length new = sym count in
          inl (part-begins ifs number max before go new (0 ∷ pcb ∷ length field ∷ (s ++ x ∷ [])) (h.0 ++ last) taken few
          (omega (arith, count, size)) new-octets (omega (arith, count, fits)) (λ i. 0 ∷ pcb ∷ back i ∷ joined i))
      | inr h ↦
          let none : h.0 ≡ [] = nil_of h.0 (omega (arith, ap length h.2, length-append h.0 (y ∷ left))) in
          let told : sum ≡ y = head_is sum y [] left (h.2 ∙ ap (λ (l : List ℕ). l ++ y ∷ left) none) in
          let s-is : s ≡ field = h.1 ∙ ap (λ (l : List ℕ). field ++ l) none ∙ append-nil field in
          subst (λ (l : List ℕ). Goes ifs number max
          (octets_of (open_blocks number before) ++ 0 ∷ pcb ∷ length field ∷ (l ++ x ∷ []))) (sym s-is)
          (goes-sum ifs number max before go field x (λ z. ne (z ∙ told)))
    ]

in-block : (ifs : ℕ) (number : Number) (max : ℕ) (before : List (List ℕ)) (go : Bool) (field part left : List ℕ)
    (y x : ℕ) → Taken ifs before → length before + 1 + more_count go ≤ 131072
    → length field ≤ ifs → AreOctets field → length (message_of before) + length field ≤ max → x < 256 → x ≢ y
    → block.spelling (chain_block (number_after number (length before)) go field) ≡ part ++ y ∷ left
    → Goes ifs number max (octets_of (open_blocks number before) ++ (part ++ x ∷ []))
in-block ifs number max before go field [] left y x taken few size octets fits lt ne e =
    goes-nad ifs number max before x taken (omega (arith, few)) (omega (arith, fits))
in-block ifs number max before go field (a ∷ []) left y x taken few size octets fits lt ne e =
    let nad : 0 ≡ a = ap (λ (l : List ℕ). get_or l 0 0) e in
    subst (λ (z : ℕ). Goes ifs number max (octets_of (open_blocks number before) ++ z ∷ x ∷ [])) nad
    (elim (pcb-known x) [
      | inl p ↦ goes-pcb ifs number max before x p.0 p.1 taken (omega (arith, few)) (omega (arith, fits))
      | inr unknown ↦ pcb-refused ifs number max before x false BadPcb (λ full. never full) unknown
    ])
in-block ifs number max before go field (a ∷ c ∷ []) left y x taken few size octets fits lt ne e =
    let nad : 0 ≡ a = ap (λ (l : List ℕ). get_or l 0 0) e in
    let pcb : pcb_octet (Info (number_after number (length before)) go) ≡ c = ap (λ (l : List ℕ). get_or l 1 0) e in
    let is : 0 ∷ pcb_octet (Info (number_after number (length before)) go) ∷ x ∷ [] ≡ a ∷ c ∷ x ∷ [] =
    λ i. nad i ∷ pcb i ∷ x ∷ [] in
    subst (λ (l : List ℕ). Goes ifs number max (octets_of (open_blocks number before) ++ l)) is
    (goes-len ifs number max before go x taken few (omega (arith, fits)))
in-block ifs number max before go field (a ∷ c ∷ l ∷ s) left y x taken few size octets fits lt ne e =
    let nad : 0 ≡ a = ap (λ (t : List ℕ). get_or t 0 0) e in
    let pcb : pcb_octet (Info (number_after number (length before)) go) ≡ c = ap (λ (t : List ℕ). get_or t 1 0) e in
    let len : length field ≡ l = ap (λ (t : List ℕ). get_or t 2 0) e in
    let is : 0 ∷ pcb_octet (Info (number_after number (length before)) go) ∷ length field ∷ (s ++ x ∷ []) ≡ a ∷ c ∷ l ∷
    (s ++ x ∷ []) = λ i. nad i ∷ pcb i ∷ len i ∷ (s ++ x ∷ []) in
    subst (λ (t : List ℕ). Goes ifs number max (octets_of (open_blocks number before) ++ t)) is
    (goes-field ifs number max before go field s left y x taken few size octets fits lt ne (ap (drop 3) e))

next : (ifs : ℕ) (number : Number) (max : ℕ) (c : List ℕ) (x : ℕ) → AreOctets (c ++ x ∷ [])
    → (gs : List (List ℕ)) (y : ℕ) (more : List ℕ) → IsChain ifs number max gs (c ++ y ∷ more)
    → Goes ifs number max (c ++ x ∷ [])
next ifs number max c x octets gs y more h =
    elim (same x y) [
      | inl e ↦ inl (
        gs,
        more,
        subst (IsChain ifs number max gs)
            (sym (append_assoc c (x ∷ []) more ∙ ap (λ (z : ℕ). c ++ z ∷ more) e)) h,
      )
      | inr ne ↦
          let u : UnderWay ifs number gs c y =
          under_way ifs number gs c y more h.proper.sizes h.proper.octets (sym h.is) in
          let opened : List ℕ = octets_of (open_blocks number u.before) in
          let is : opened ++ (u.part ++ x ∷ []) ≡ c ++ x ∷ [] =
          sym (ap (λ (l : List ℕ). l ++ x ∷ []) u.is ∙ append_assoc opened u.part (x ∷ [])) in
          subst (Goes ifs number max) is
          (in-block ifs number max u.before u.go u.field u.part u.left y x
          (record { sizes = u.sizes; octets = u.octets }) (omega (arith, u.few, h.proper.few)) u.size u.own_octets
          (omega (arith, u.fits, h.proper.fits)) (octets-right c (x ∷ []) octets 0) ne u.told)
    ]

-- octet by octet, a chain goes on or there is one reason why not, where the size is at most 254
pub steps : (ifs : ℕ) (number : Number) (max : ℕ) → ifs ≤ 254 → Steps (IsChain ifs number max) (IsReason ifs number max)
steps ifs number max small = record {
  one_value = one-accepted ifs ifs max max number;
  one_reason = λ r s c. first_once all_reasons (Meets ifs number max c) r s;
  stops = λ r c reason. meets-stuck ifs max number c r small
      (first_holds all_reasons (Meets ifs number max c) r reason);
  nothing = begins-front (IsChain ifs number max) [] (block.spelling (chain_block number false []))
      (chain-begins ifs number max [] false [] (record { sizes = tt; octets = λ i. omega arith }) (omega arith)
      (omega arith) (λ i. omega arith) (omega arith));
  next = next ifs number max;
}

-- every input has one verdict
pub one-verdict : (ifs : ℕ) (number : Number) (max : ℕ) (b : List ℕ) → ifs ≤ 254 → AreOctets b
    → OneVerdict self_ended (IsChain ifs number max) (IsReason ifs number max) b
one-verdict ifs number max b small octets =
    one_verdict (IsChain ifs number max) (IsReason ifs number max) (steps ifs number max small) b octets
