-- Places that some octets lead to fit.
use Rattle.std.proofs.Common.{◌≡◌, ◌≢◌, ℕ, ◌+◌, ◌-◌, ◌*◌, ◌<◌, ◌≤◌, ◌++◌, List, [], ◌∷◌, length, take, drop, refl, sym, ap, subst, ◌∙◌, arith, Bool, true, false, append_assoc, Option, Some, None, inl, inr, suc-mul, slice_index, bit_xor}
use Rattle.std.proofs.lemmas.List.{length-append, length-take, length-drop, take-append-le}
use Rattle.std.proofs.lemmas.List.Sums.{fold-append}
use Rattle.std.proofs.lemmas.Bool.{cases_lt}
use Rattle.std.proofs.Math.Seq.{take-length}
use Rattle.std.specs.List.{AllByRecursion}
use Rattle.octet_core.specs.Octets.{AreOctets, xor_of}
use Rattle.octet_core.specs.Grammar.{Accepts, Begins, self_ended}
use Rattle.octet_core.specs.declared.stop.Refusal.{Refusal}
use Rattle.octet_core.proofs.Begun.{begins-take, spelled-accepted}
use Rattle.octet_core.proofs.Firsts.{first_holds, first_once}
use Rattle.octet_core.proofs.Lists.{octets-right}
use Rattle.octet_core.proofs.Told.{same}
use Rattle.block_core.specs.declared.pcb.Number.{Number}
use Rattle.block_core.specs.declared.pcb.Pcb.TheVariants.{Info}
use Rattle.block_core.specs.Block as block
use Rattle.block_core.specs.Block.{other, pcb_octet}
use Rattle.block_core.proofs.Blocks.{xor-zero}
use Rattle.chain_core.specs.declared.reason.ChainReason.{ChainReason}
use Rattle.chain_core.specs.declared.reason.ChainReason.TheVariants.{BadNad, BadPcb, NotInfo, BadSequence, TooManyBlocks, BadLen, OverIfs, TooLong, BadLrc}
use Rattle.chain_core.specs.declared.stage.BlockStage as stage
use Rattle.chain_core.specs.declared.stage.BlockStage.TheVariants as stages
use Rattle.chain_core.specs.declared.lent.LentReceiver.{LentReceiver}
use Rattle.chain_core.specs.Chain.{IsChain, IsReason, Meets, MeetsInBlock, all_reasons, message_of, chain_block, open_blocks, octets_of, number_after, spelling}
use Rattle.chain_core.specs.Stage.{IsLenFault, more_count, place_of, came_of}
use Rattle.chain_core.specs.Taking.{HasTaken, AreTaken, unrefused}
use Rattle.chain_core.specs.Lent.{under_way_of, number_at, field_at, held_at, taken_at, received_at, IsUnderWay, IsAmong, IsKept, IsNextReason, IsPcbReason, IsLenReason, IsLentReceiver, AreLedTo, Brings}
use Rattle.chain_core.proofs.Feeds.{bool_cases}
use Rattle.chain_core.proofs.Heads.{first-len}
use Rattle.chain_core.proofs.Reasons.{IsPart, part-short, part-under, part-sum, part-meets, part-split, reason-in_block}
use Rattle.chain_core.proofs.Receiving.{begun-taken}
use Rattle.chain_core.proofs.Steps.{way-of, joined-len, lrc-on, with_rest, front_at}
use Rattle.chain_core.proofs.Stuck.{Next, next-block}
use Rattle.chain_core.proofs.Taken.{done-spelled, length-taken}
use Rattle.chain_core.proofs.Unique.{block-split, more-back}

-- ---- how many blocks and octets there are

-- fields of at most ifs octets carry at most so many
message-most : (ifs : ℕ) (fs : List (List ℕ)) → AllByRecursion (λ f. length f ≤ ifs) fs
    → length (message_of fs) ≤ length fs * ifs
message-most ifs [] sizes = omega arith
message-most ifs (f ∷ fs) sizes = omega (
  arith,
  length-append f (message_of fs),
  sizes.0,
  message-most ifs fs sizes.1,
  suc-mul (length fs) ifs,
)

-- a chain that begins with blocks that go on has more blocks
opened-few : (number : Number) (fields gs : List (List ℕ)) (s : List ℕ) → 0 < length gs
    → spelling number gs ≡ octets_of (open_blocks number fields) ++ s → length fields < length gs
opened-few number [] gs s some e = some
opened-few number (f ∷ fs) [] s some e = absurd (omega arith)
opened-few number (f ∷ fs) (g ∷ []) s some e =
    let a : List ℕ = block.spelling (chain_block number true f) in
    let u : List ℕ = octets_of (open_blocks (other number) fs) in
    let h = block-split number false true g f [] (u ++ s) (e ∙ append_assoc a u s) in
    absurd (let bad : false ≡ true = h.0 in cc)
opened-few number (f ∷ fs) (g ∷ k ∷ gs) s some e =
    let a : List ℕ = block.spelling (chain_block number true f) in
    let u : List ℕ = octets_of (open_blocks (other number) fs) in
    let h = block-split number true true g f (spelling (other number) (k ∷ gs)) (u ++ s) (e ∙ append_assoc a u s) in
    omega (arith, opened-few (other number) fs (k ∷ gs) s (omega arith) h.2)

counted : (more next : Bool) (blocks count : ℕ) → more ≡ next → (next ≡ true → blocks + 1 < count) → blocks < count
    → count ≤ 131072 → blocks + 1 + more_count more ≤ 131072
counted false next blocks count is go few most = omega arith
counted true next blocks count is go few most = omega (arith, go (sym is))

-- ---- the block under way

-- the octets of the block under way
abbrev way_at : LentReceiver → List ℕ → List ℕ
way_at p m = under_way_of (number_at p) p.stage (field_at p m)

-- are as many as are counted
way-len : (number : Number) (q : stage.BlockStage) (came : ℕ) (field : List ℕ) → length field ≡ came
    → length (under_way_of number q field) ≡ place_of q + came_of q came
way-len number stages.Nad came field e = refl
way-len number stages.Pcb came field e = refl
way-len number (stages.Len more) came field e = refl
way-len number (stages.Rest more len) came field e = omega (arith, e)

-- as many octets of the field are in the buffer as are counted
pub field-count : (p : LentReceiver) (m : List ℕ) → held_at p ≤ length m → came_of p.stage p.came ≡ p.came
    → length (field_at p m) ≡ p.came
field-count p m held idle =
    omega (arith, length-take p.came (drop p.joined m), length-drop p.joined m, held, idle)

-- what begins a block of a chain is under way
way-next : (ifs max : ℕ) (number : Number) (fields gs : List (List ℕ)) (came : ℕ) (q : stage.BlockStage)
    (field more : List ℕ) → length gs ≤ 131072 → length fields < length gs → length (message_of gs) ≤ max
    → length field ≡ came → (3 < length (under_way_of (number_after number (length fields)) q field)
    → length (under_way_of (number_after number (length fields)) q field)
    < slice_index (under_way_of (number_after number (length fields)) q field) 2 + 4)
    → Next ifs max number fields gs (under_way_of (number_after number (length fields)) q field ++ more)
    → IsUnderWay ifs max (length fields) (length (message_of fields)) came q
way-next ifs max number fields gs came stages.Nad field more most few fits count part n = tt
way-next ifs max number fields gs came stages.Pcb field more most few fits count part n = tt
way-next ifs max number fields gs came (stages.Len go) field more most few fits count part n =
    let own : Number = number_after number (length fields) in
    let kind : pcb_octet (Info own go) ≡ pcb_octet (Info own n.more) =
    ap (λ (l : List ℕ). slice_index l 1) n.is in
    counted go n.more (length fields) (length gs) (more-back own go n.more kind) n.blocks few most
way-next ifs max number fields gs came (stages.Rest go len) field more most few fits count part n =
    let own : Number = number_after number (length fields) in
    let kind : pcb_octet (Info own go) ≡ pcb_octet (Info own n.more) =
    ap (λ (l : List ℕ). slice_index l 1) n.is in
    let size : len ≡ length n.field = ap (λ (l : List ℕ). slice_index l 2) n.is in (
      counted go n.more (length fields) (length gs) (more-back own go n.more kind) n.blocks few most,
      omega (arith, size, n.size),
      omega (arith, size, n.fits, fits),
      elim (cases_lt 0 came) [
        | inl some ↦ omega (arith, part (omega (arith, count)), count)
        | inr none ↦ omega arith
      ],
    )

-- ---- places that refused nothing

open-among : (p : LentReceiver) (m t : List ℕ) → held_at p ≤ length m → came_of p.stage p.came ≡ p.came
    → p.done ≡ false → HasTaken (unrefused (received_at p m)) t
    → IsAmong false p × (p.joined ≤ p.max) × (p.joined ≤ p.blocks * p.ifs)
open-among p m t held idle still h =
    let fields : List (List ℕ) = h.fields in
    let opened : List ℕ = octets_of (open_blocks p.first fields) in
    let c : List ℕ = way_at p m in
    let own : AreTaken false p.first fields c t = subst (λ (d : Bool). AreTaken d p.first fields c t) still h.taken in
    let gs : List (List ℕ) = h.begun.0 in
    let more : List ℕ = h.begun.1 in
    let chain = h.begun.2 in
    let text : spelling p.first gs ≡ opened ++ (c ++ more) =
    sym chain.is ∙ ap (λ (l : List ℕ). l ++ more) own.1 ∙ append_assoc opened c more in
    let few : length fields < length gs = opened-few p.first fields gs (c ++ more) chain.proper.some text in
    let n : Next p.ifs p.max p.first fields gs (c ++ more) =
    next-block p.ifs p.max p.first fields gs (c ++ more) chain.proper.some chain.proper.sizes text in
    let taken = begun-taken p.ifs p.max p.first fields c t own.1 h.begun in
    let long : length (message_of fields) ≡ p.joined =
    omega (arith, ap length h.joined, joined-len p m (omega (arith, held))) in
    let part_of : ℕ → List ℕ = λ (k : ℕ). under_way_of (number_after p.first k) p.stage (field_at p m) in
    let back : p.blocks ≡ length fields = sym h.blocks in
    let way : IsUnderWay p.ifs p.max (length fields) (length (message_of fields)) p.came p.stage =
    way-next p.ifs p.max p.first fields gs p.came p.stage (field_at p m) more chain.proper.few few chain.proper.fits
    (field-count p m held idle)
    (subst (λ (k : ℕ). 3 < length (part_of k) → length (part_of k) < slice_index (part_of k) 2 + 4) back own.0)
    (subst (λ (k : ℕ). Next p.ifs p.max p.first fields gs (part_of k ++ more)) back n) in (
      (
        omega (arith, few, chain.proper.few, h.blocks),
        subst (λ (k : ℕ). IsUnderWay p.ifs p.max k p.joined p.came p.stage) h.blocks
            (subst (λ (k : ℕ). IsUnderWay p.ifs p.max (length fields) k p.came p.stage) long way),
      ),
      omega (arith, n.fits, chain.proper.fits, long),
      subst (λ (k : ℕ). p.joined ≤ k * p.ifs) h.blocks
          (omega (arith, message-most p.ifs fields taken.sizes, long)),
    )

way-nad : (number : Number) (q : stage.BlockStage) (field : List ℕ) → under_way_of number q field ≡ [] → q ≡ stages.Nad
way-nad number stages.Nad field e = refl
way-nad number stages.Pcb field e = absurd (omega (arith, ap length e))
way-nad number (stages.Len more) field e = absurd (omega (arith, ap length e))
way-nad number (stages.Rest more len) field e = absurd (omega (arith, ap length e))

done-among : (p : LentReceiver) (m t : List ℕ) → held_at p ≤ length m → p.done ≡ true
    → HasTaken (unrefused (received_at p m)) t
    → IsAmong true p × (p.joined ≤ p.max) × (p.joined ≤ p.blocks * p.ifs) × (p.blocks ≤ 131072)
done-among p m t held done h =
    let chain = done-spelled (unrefused (received_at p m)) t h done in
    let own : AreTaken true p.first h.fields (way_at p m) t =
    subst (λ (d : Bool). AreTaken d p.first h.fields (way_at p m) t) done h.taken in
    let long : length (message_of h.fields) ≡ p.joined =
    omega (arith, ap length h.joined, joined-len p m (omega (arith, held))) in (
      (way-nad (number_at p) p.stage (field_at p m) own.1, omega (arith, own.0, h.blocks)),
      omega (arith, chain.proper.fits, long),
      subst (λ (k : ℕ). p.joined ≤ k * p.ifs) h.blocks
          (omega (arith, message-most p.ifs h.fields chain.proper.sizes, long)),
      omega (arith, chain.proper.few, h.blocks),
    )

-- places without a refusal fit, where some octets led to them
unrefused-reached : (p : LentReceiver) (m t : List ℕ) → AreLedTo p m t → (s : List ℕ)
    → HasTaken (unrefused (received_at p m)) s → IsLentReceiver (record p { refusal = None }) (length m)
unrefused-reached p m t l s h = elim (bool_cases p.done) [
  | inl done ↦
      let a = done-among p m s l.held done h in
      record {
        least = l.least;
        most = l.most;
        limit = l.limit;
        reserved = l.reserved;
        joined = a.1;
        full = a.2;
        blocks = a.3;
        idle = l.idle;
        among = subst (λ (d : Bool). IsAmong d (record p { refusal = None })) (sym done) a.0;
        kept = tt;
      }
  | inr still ↦
      let a = open-among p m s l.held l.idle still h in
      record {
        least = l.least;
        most = l.most;
        limit = l.limit;
        reserved = l.reserved;
        joined = a.1;
        full = a.2;
        blocks = omega (arith, a.0.0);
        idle = l.idle;
        among = subst (λ (d : Bool). IsAmong d (record p { refusal = None })) (sym still) a.0;
        kept = tt;
      }
]

-- ---- a refusal

-- an octet x after octets s that may have been taken, which is refused for this reason
record Off (p : LentReceiver) (m : List ℕ) (reason : ChainReason) (s : List ℕ) (x : ℕ) : Type 0 where
  octet : x < 256
  taken : HasTaken (unrefused (received_at p m)) s
  opened : s ≡ octets_of (open_blocks p.first taken.fields) ++ way_at p m
  stuck : Begins (IsChain p.ifs p.first p.max) (s ++ x ∷ []) → ⊥
  first : IsReason p.ifs p.first p.max reason (s ++ x ∷ [])

-- it comes in the block under way
off-text : (p : LentReceiver) (m : List ℕ) (reason : ChainReason) (s : List ℕ) (x : ℕ) (o : Off p m reason s x)
    → s ++ x ∷ [] ≡ octets_of (open_blocks p.first o.taken.fields) ++ (way_at p m ++ x ∷ [])
off-text p m reason s x o = ap (λ (l : List ℕ). l ++ x ∷ []) o.opened
    ∙ append_assoc (octets_of (open_blocks p.first o.taken.fields)) (way_at p m) (x ∷ [])

-- and meets the line of the table there, where the block isn't whole
off-meets : (p : LentReceiver) (m : List ℕ) (reason : ChainReason) (s : List ℕ) (x : ℕ) (o : Off p m reason s x)
    → IsPart (way_at p m ++ x ∷ [])
    → MeetsInBlock p.ifs p.first p.max o.taken.fields (way_at p m ++ x ∷ []) reason
off-meets p m reason s x o part =
    let b : List ℕ = s ++ x ∷ [] in
    let c : List ℕ = way_at p m ++ x ∷ [] in
    let h = first_holds all_reasons (Meets p.ifs p.first p.max b) reason o.first in
    let both = part-split p.first h.0 o.taken.fields h.1 c
    (part-meets p.ifs p.first p.max h.0 h.1 reason h.3) part (sym h.2 ∙ off-text p m reason s x o) in
    subst (λ (l : List ℕ). MeetsInBlock p.ifs p.first p.max o.taken.fields l reason) both.1
    (subst (λ (fs : List (List ℕ)). MeetsInBlock p.ifs p.first p.max fs h.1 reason) both.0 h.3)

nad-reached : (ifs max x : ℕ) (number : Number) (fields : List (List ℕ)) (reason : ChainReason)
    → MeetsInBlock ifs number max fields (x ∷ []) reason → reason ≡ BadNad
nad-reached ifs max x number fields BadNad h = refl
nad-reached ifs max x number fields _ h = absurd (omega (arith, h.0))

pcb-reached : (ifs max x : ℕ) (number : Number) (fields : List (List ℕ)) (reason : ChainReason)
    → MeetsInBlock ifs number max fields (0 ∷ x ∷ []) reason → IsPcbReason (length fields) reason
pcb-reached ifs max x number fields BadPcb h = tt
pcb-reached ifs max x number fields NotInfo h = tt
pcb-reached ifs max x number fields BadSequence h = tt
pcb-reached ifs max x number fields TooManyBlocks h = h.1
pcb-reached ifs max x number fields _ h = absurd (omega (arith, h.0))

len-reached : (ifs max x pcb room : ℕ) (number : Number) (fields : List (List ℕ)) (reason : ChainReason) → x < 256
    → length (message_of fields) ≤ max → room ≡ max - length (message_of fields)
    → ((r : ChainReason) → IsLenFault ifs room x r → r ≡ reason)
    → MeetsInBlock ifs number max fields (0 ∷ pcb ∷ x ∷ []) reason → IsLenReason ifs room reason
len-reached ifs max x pcb room number fields BadLen octet fits is one h = tt
len-reached ifs max x pcb room number fields OverIfs octet fits is one h = elim (same x 255) [
  | inl e ↦ absurd (let bad : BadLen ≡ OverIfs = one BadLen e in cc)
  | inr ne ↦ let apart : x ≢ 255 = ne in omega (arith, h.1, octet)
]
len-reached ifs max x pcb room number fields TooLong octet fits is one h = elim (same x 255) [
  | inl e ↦ absurd (let bad : BadLen ≡ TooLong = one BadLen e in cc)
  | inr ne ↦ elim (cases_lt ifs x) [
    | inl over ↦ absurd (let bad : OverIfs ≡ TooLong = one OverIfs (ne, over) in cc)
    | inr le ↦ omega (arith, h.1, is, le, fits)
  ]
]
len-reached ifs max x pcb room number fields _ octet fits is one h = absurd (omega (arith, h.0))

sum-reached : (ifs max x pcb len : ℕ) (number : Number) (fields : List (List ℕ)) (field : List ℕ)
    (reason : ChainReason) → MeetsInBlock ifs number max fields (0 ∷ pcb ∷ len ∷ (field ++ x ∷ [])) reason
    → (length field ≡ len) × (reason ≡ BadLrc)
sum-reached ifs max x pcb len number fields field BadLrc h =
    (omega (arith, h.0, length-append field (x ∷ [])), refl)
sum-reached ifs max x pcb len number fields field _ h = absurd (omega (arith, h.0, length-append field (x ∷ [])))

meets-by : (p : LentReceiver) (m : List ℕ) (reason : ChainReason) (s : List ℕ) (x : ℕ) (q : stage.BlockStage)
    (o : Off p m reason s x) → p.stage ≡ q → IsPart (under_way_of (number_at p) q (field_at p m) ++ x ∷ [])
    → MeetsInBlock p.ifs p.first p.max o.taken.fields (under_way_of (number_at p) q (field_at p m) ++ x ∷ []) reason
meets-by p m reason s x q o is partial =
    let text : way_at p m ++ x ∷ [] ≡ under_way_of (number_at p) q (field_at p m) ++ x ∷ [] =
    ap (λ (k : stage.BlockStage). under_way_of (number_at p) k (field_at p m) ++ x ∷ []) is in
    subst (λ (l : List ℕ). MeetsInBlock p.ifs p.first p.max o.taken.fields l reason) text
    (off-meets p m reason s x o (subst IsPart (sym text) partial))

-- there is one reason
len-one : (p : LentReceiver) (m : List ℕ) (reason : ChainReason) (s : List ℕ) (x : ℕ) (more : Bool)
    (o : Off p m reason s x) → p.stage ≡ stages.Len more → length (message_of o.taken.fields) ≤ p.max
    → p.max - p.joined ≡ p.max - length (message_of o.taken.fields) → (r : ChainReason)
    → IsLenFault p.ifs (p.max - p.joined) x r → r ≡ reason
len-one p m reason s x more o is fits room r fault =
    let b : List ℕ = s ++ x ∷ [] in
    let c : List ℕ = 0 ∷ pcb_octet (Info (number_at p) more) ∷ x ∷ [] in
    let fields : List (List ℕ) = o.taken.fields in
    let text : b ≡ octets_of (open_blocks p.first fields) ++ c =
    off-text p m reason s x o ∙ ap (λ (k : stage.BlockStage). octets_of (open_blocks p.first fields)
    ++ (under_way_of (number_at p) k (field_at p m) ++ x ∷ [])) is in
    first_once all_reasons (Meets p.ifs p.first p.max b) r reason
    (reason-in_block p.ifs p.first p.max fields c b r text (part-short c (omega arith))
    (first-len p.ifs p.first p.max fields c (p.max - p.joined) r refl fits room fault)) o.first

-- the sum of a whole block isn't 0, since that would be taken
sum-wrong : (p : LentReceiver) (m : List ℕ) (reason : ChainReason) (s : List ℕ) (x : ℕ) (more : Bool) (len : ℕ)
    → Off p m reason s x → p.done ≡ false → p.stage ≡ stages.Rest more len → p.came ≡ len
    → IsLentReceiver (record p { refusal = None }) (length m) → AreOctets m
    → xor_of (under_way_of (number_at p) (stages.Rest more len) (field_at p m) ++ x ∷ []) ≡ 0 → ⊥
sum-wrong p m reason s x more len o still is all fit octets none =
    let q : LentReceiver = record p { refusal = None } in
    let whole : LentReceiver = with_rest q more len in
    let same : q ≡ whole = λ i. record q { stage = is i; came = all i } in
    let front : List ℕ = front_at q more len m in
    let text : under_way_of (number_at p) (stages.Rest more len) (field_at p m) ≡ front =
    ap (λ (k : ℕ). 0 ∷ pcb_octet (Info (number_at p) more) ∷ len ∷ take k (drop p.joined m)) all in
    let own : xor_of (front ++ x ∷ []) ≡ 0 = ap (λ (l : List ℕ). xor_of (l ++ x ∷ [])) (sym text) ∙ none in
    let sum : x ≡ xor_of front = xor-zero (xor_of front) x (sym (fold-append bit_xor 0 front (x ∷ [])) ∙ own) in
    let fits : IsLentReceiver whole (length m) =
    subst (λ (k : LentReceiver). IsLentReceiver k (length m)) same fit in
    let way = way-of whole (length m) fits still in
    let goes = lrc-on q more len x (length m) m octets fits (omega (arith, way.1.2, fit.reserved)) refl still sum in
    let taken : HasTaken (received_at whole m) s =
    subst (λ (k : LentReceiver). HasTaken (received_at k m) s) same o.taken in
    o.stuck (goes.on refl s taken).begun

reason-reached : (p : LentReceiver) (m : List ℕ) (reason : ChainReason) (s : List ℕ) (x : ℕ) (q : stage.BlockStage)
    → Off p m reason s x → p.done ≡ false → p.stage ≡ q → length (field_at p m) ≡ p.came
    → IsLentReceiver (record p { refusal = None }) (length m) → AreOctets m
    → IsNextReason p.ifs p.max p.blocks p.joined p.came q reason
reason-reached p m reason s x stages.Nad o still is count fit octets =
    nad-reached p.ifs p.max x p.first o.taken.fields reason
    (meets-by p m reason s x stages.Nad o is (part-short (x ∷ []) (omega arith)))
reason-reached p m reason s x stages.Pcb o still is count fit octets =
    subst (λ (k : ℕ). IsPcbReason k reason) o.taken.blocks
    (pcb-reached p.ifs p.max x p.first o.taken.fields reason
    (meets-by p m reason s x stages.Pcb o is (part-short (0 ∷ x ∷ []) (omega arith))))
reason-reached p m reason s x (stages.Len more) o still is count fit octets =
    let pcb : ℕ = pcb_octet (Info (number_at p) more) in
    let long : length (message_of o.taken.fields) ≡ p.joined =
    omega (arith, ap length o.taken.joined, joined-len p m (omega (arith, fit.joined, fit.reserved))) in
    let fits : length (message_of o.taken.fields) ≤ p.max = omega (arith, long, fit.joined) in
    let room : p.max - p.joined ≡ p.max - length (message_of o.taken.fields) = omega (arith, long) in
    len-reached p.ifs p.max x pcb (p.max - p.joined) p.first o.taken.fields reason o.octet fits room
    (len-one p m reason s x more o is fits room)
    (meets-by p m reason s x (stages.Len more) o is (part-short (0 ∷ pcb ∷ x ∷ []) (omega arith)))
reason-reached p m reason s x (stages.Rest more len) o still is count fit octets =
    let pcb : ℕ = pcb_octet (Info (number_at p) more) in
    let field : List ℕ = field_at p m in
    let c : List ℕ = 0 ∷ pcb ∷ len ∷ (field ++ x ∷ []) in
    let long : length c ≡ p.came + 4 = omega (arith, count, length-append field (x ∷ [])) in
    let few : p.came ≤ len = (subst (IsUnderWay p.ifs p.max p.blocks p.joined p.came) is
    (way-of (record p { refusal = None }) (length m) fit still).1).3 in
    let partial : IsPart c = elim (cases_lt p.came len) [
      | inl lt ↦ part-under c (omega (arith, long, lt))
      | inr le ↦
          let all : p.came ≡ len = omega (arith, le, few) in
          part-sum c (omega (arith, long, all)) (sum-wrong p m reason s x more len o still is all fit octets)
    ] in
    let r = sum-reached p.ifs p.max x pcb len p.first o.taken.fields field reason
    (meets-by p m reason s x (stages.Rest more len) o is partial) in
    (omega (arith, r.0, count), r.1)

-- ---- any places that some octets lead to

among-kept : (done : Bool) (p : LentReceiver) → IsAmong done (record p { refusal = None }) → IsAmong done p
among-kept true p h = h
among-kept false p h = h

-- the octets before the refused one begin a chain, so it is the last
refused-last : (S : List (List ℕ) → List ℕ → Type 0) (s t : List ℕ) (x n : ℕ) → t ≡ s ++ x ∷ [] → Begins S s
    → n < length t → (Begins S (take (n + 1) t) → ⊥) → n ≡ length s
refused-last S s t x n is begun inside stuck =
    let long : length t ≡ length s + 1 = omega (arith, ap length is, length-append s (x ∷ [])) in
    elim (cases_lt n (length s)) [
      | inl lt ↦ absurd (stuck (subst (Begins S)
          (sym (take-append-le (n + 1) s (x ∷ []) (omega (arith, lt))) ∙ ap (take (n + 1)) (sym is))
          (begins-take S (n + 1) (length s) s (omega (arith, lt)) (subst (Begins S) (sym (take-length s)) begun))))
      | inr le ↦ omega (arith, inside, long, le)
    ]

reached-by : (p : LentReceiver) (m t : List ℕ) (o : Option (Refusal ChainReason)) → p.refusal ≡ o → AreOctets m
    → AreLedTo p m t → Brings o (received_at p m) t → IsLentReceiver p (length m)
reached-by p m t None e octets l brings =
    let h : HasTaken (unrefused (received_at p m)) t =
    subst (λ (k : Option (Refusal ChainReason)). HasTaken (record (received_at p m) { refusal = k }) t) e brings in
    subst (λ (k : Option (Refusal ChainReason)). IsLentReceiver (record p { refusal = k }) (length m)) (sym e)
    (unrefused-reached p m t l t h)
reached-by p m t (Some refusal) e octets l brings =
    let S : List (List ℕ) → List ℕ → Type 0 = IsChain p.ifs p.first p.max in
    let s : List ℕ = brings.0 in
    let x : ℕ = brings.1 in
    let is : t ≡ s ++ x ∷ [] = brings.2 in
    let h : HasTaken (unrefused (received_at p m)) s = brings.3 in
    let stuck = (brings.4).0 in
    let fit = unrefused-reached p m t l s h in
    let still : p.done ≡ false = elim (bool_cases p.done) [
      | inl done ↦ absurd (stuck.none h.fields (length s)
          (subst (λ (b : List ℕ). Accepts self_ended S b h.fields (length s)) (sym is)
          (spelled-accepted S h.fields s (x ∷ []) (done-spelled (unrefused (received_at p m)) s h done))))
      | inr still ↦ still
    ] in
    let last : refusal.place ≡ length s = refused-last S s t x refusal.place is h.begun stuck.inside stuck.stuck in
    let long : length t ≡ length s + 1 = omega (arith, ap length is, length-append s (x ∷ [])) in
    let all : take (refusal.place + 1) t ≡ s ++ x ∷ [] =
    ap (λ (k : ℕ). take k t) (let k : refusal.place + 1 ≡ length t = omega (arith, last, long) in k) ∙ take-length t
    ∙ is in
    let count = field-count p m l.held l.idle in
    let off : Off p m refusal.reason s x =
    record {
      octet = octets-right s (x ∷ []) (subst AreOctets is l.octets) 0;
      taken = h;
      opened = (subst (λ (d : Bool). AreTaken d p.first h.fields (way_at p m) s) still h.taken).1;
      stuck = λ b. stuck.stuck (subst (Begins S) (sym all) b);
      first = subst (IsReason p.ifs p.first p.max refusal.reason) all (brings.4).1;
    } in
    let place : refusal.place ≡ taken_at p = omega (
      arith,
      last,
      length-taken (unrefused (received_at p m)) s h,
      joined-len p m (omega (arith, l.held)),
      way-len (number_at p) p.stage p.came (field_at p m) count,
    ) in
    record {
      least = fit.least;
      most = fit.most;
      limit = fit.limit;
      reserved = fit.reserved;
      joined = fit.joined;
      full = fit.full;
      blocks = fit.blocks;
      idle = fit.idle;
      among = among-kept p.done p fit.among;
      kept = subst (λ (k : Option (Refusal ChainReason)). IsKept k p) (sym e)
          (still, place, reason-reached p m refusal.reason s x p.stage off still refl count fit octets);
    }

-- places and a buffer to which some octets lead fit
pub led-fit : (p : LentReceiver) (m t : List ℕ) → AreOctets m → AreLedTo p m t → IsLentReceiver p (length m)
led-fit p m t octets l = reached-by p m t p.refusal refl octets l l.brings
