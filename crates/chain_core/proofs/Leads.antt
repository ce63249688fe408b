-- Some octets lead a receiver to any places that fit.
use Rattle.std.proofs.Common.{◌≡◌, ◌≢◌, ℕ, zero, suc, ◌+◌, ◌-◌, ◌*◌, ◌<◌, ◌≤◌, ◌++◌, List, [], ◌∷◌, length, take, drop, refl, sym, ap, subst, arith, Bool, true, false, Option, Some, None, IsSome, inl, inr, suc-mul, nat_eq}
use Rattle.std.proofs.lemmas.List.{length-take}
use Rattle.std.specs.List.{AllByRecursion}
use Rattle.octet_core.specs.Octets.{AreOctets, xor_of}
use Rattle.octet_core.specs.Grammar.{Begins, RefusesAt, self_ended}
use Rattle.octet_core.specs.declared.stop.Refusal.{Refusal}
use Rattle.octet_core.specs.declared.stop.Stop.TheVariants.{At}
use Rattle.octet_core.proofs.Begun.{spelled-begins}
use Rattle.octet_core.proofs.Lists.{nil_of, octets-append, octets-left, octets-right, octets-cons, octets-take, octets-drop, xor-octet}
use Rattle.octet_core.proofs.Told.{same}
use Rattle.block_core.specs.declared.pcb.Number.{Number}
use Rattle.block_core.specs.declared.pcb.Number.TheVariants.{Zero, One}
use Rattle.block_core.specs.declared.pcb.Fault.TheVariants.{Free}
use Rattle.block_core.specs.declared.pcb.Pcb.TheVariants.{Info, Ready}
use Rattle.block_core.specs.Block as block
use Rattle.block_core.specs.Block.{other, pcb_octet, front_of}
use Rattle.block_core.proofs.Computed.{among_none}
use Rattle.chain_core.specs.declared.reason.ChainReason.{ChainReason}
use Rattle.chain_core.specs.declared.reason.ChainReason.TheVariants.{BadPcb, NotInfo, BadSequence, TooManyBlocks, BadLen, OverIfs, TooLong, BadLrc}
use Rattle.chain_core.specs.declared.stage.BlockStage as stage
use Rattle.chain_core.specs.declared.stage.BlockStage.TheVariants as stages
use Rattle.chain_core.specs.declared.lent.LentReceiver.{LentReceiver}
use Rattle.chain_core.specs.Chain.{IsChain, IsReason, message_of, chain_block, chain_blocks, open_blocks, octets_of, number_after, spelling}
use Rattle.chain_core.specs.Cut.{pieces}
use Rattle.chain_core.specs.Stage.{IsHead, IsPcbFault, IsLenFault, IsHeadFault, place_of}
use Rattle.chain_core.specs.Taking.{Taking, HasTaken, AreTaken, unrefused}
use Rattle.chain_core.specs.Receiving.{Goes}
use Rattle.chain_core.specs.Lent.{under_way_of, number_at, field_at, taken_at, received_at, IsUnderWay, IsAmong, IsKept, IsNextReason, IsPcbReason, IsLenReason, IsLentReceiver, AreLedTo, Brings}
use Rattle.chain_core.proofs.Cuts.{message_of-pieces, length-pieces, pieces-sizes}
use Rattle.chain_core.proofs.Feeds.{bool_cases}
use Rattle.chain_core.proofs.Goes.{Taken}
use Rattle.chain_core.proofs.Receiving.{way-under, way-begins}
use Rattle.chain_core.proofs.Steps.{way-of, held-room, joined-len, head-off, head-came, lrc-off, sum-off, with_rest, front_at}

-- ---- fields that carry a message, as many as are wanted

abbrev fields_for : ℕ → ℕ → List ℕ → List (List ℕ)
fields_for size zero m = []
fields_for size (suc n) m = pieces size n m

fields-message : (size count : ℕ) (m : List ℕ) → length m ≤ count * size → message_of (fields_for size count m) ≡ m
fields-message size zero m le = sym (nil_of m (omega arith))
fields-message size (suc n) m le = message_of-pieces size n m

fields-count : (size count : ℕ) (m : List ℕ) → length (fields_for size count m) ≡ count
fields-count size zero m = refl
fields-count size (suc n) m = omega (arith, length-pieces size n m)

fields-sizes : (size count : ℕ) (m : List ℕ) → length m ≤ count * size
    → AllByRecursion (λ f. length f ≤ size) (fields_for size count m)
fields-sizes size zero m le = tt
fields-sizes size (suc n) m le = pieces-sizes size n m (omega (arith, le, suc-mul n size))

-- ---- their blocks are octets

info-octet : (number : Number) (more : Bool) → pcb_octet (Info number more) < 256
info-octet Zero false = omega arith
info-octet Zero true = omega arith
info-octet One false = omega arith
info-octet One true = omega arith

no-octets : AreOctets []
no-octets i = omega arith

block-octets : (number : Number) (more : Bool) (field : List ℕ) → length field ≤ 254 → AreOctets field
    → AreOctets (block.spelling (chain_block number more field))
block-octets number more field size octets =
    let front : List ℕ = front_of (chain_block number more field) in
    let all : AreOctets front =
    octets-cons 0 (pcb_octet (Info number more) ∷ length field ∷ field) (omega arith)
    (octets-cons (pcb_octet (Info number more)) (length field ∷ field) (info-octet number more)
    (octets-cons (length field) field (omega (arith, size)) octets)) in
    octets-append front (xor_of front ∷ []) all (octets-cons (xor_of front) [] (xor-octet front all) no-octets)

open-octets : (number : Number) (ifs : ℕ) (fs : List (List ℕ)) → ifs ≤ 254
    → AllByRecursion (λ f. length f ≤ ifs) fs → AreOctets (message_of fs)
    → AreOctets (octets_of (open_blocks number fs))
open-octets number ifs [] most sizes octets = no-octets
open-octets number ifs (f ∷ fs) most sizes octets =
    octets-append (block.spelling (chain_block number true f)) (octets_of (open_blocks (other number) fs))
    (block-octets number true f (omega (arith, sizes.0, most)) (octets-left f (message_of fs) octets))
    (open-octets (other number) ifs fs most sizes.1 (octets-right f (message_of fs) octets))

chain-octets : (number : Number) (ifs : ℕ) (fs : List (List ℕ)) → ifs ≤ 254
    → AllByRecursion (λ f. length f ≤ ifs) fs → AreOctets (message_of fs)
    → AreOctets (octets_of (chain_blocks number fs))
chain-octets number ifs [] most sizes octets = no-octets
chain-octets number ifs (f ∷ []) most sizes octets =
    octets-append (block.spelling (chain_block number false f)) []
    (block-octets number false f (omega (arith, sizes.0, most)) (octets-left f [] octets)) no-octets
chain-octets number ifs (f ∷ g ∷ fs) most sizes octets =
    octets-append (block.spelling (chain_block number true f)) (octets_of (chain_blocks (other number) (g ∷ fs)))
    (block-octets number true f (omega (arith, sizes.0, most)) (octets-left f (message_of (g ∷ fs)) octets))
    (chain-octets (other number) ifs (g ∷ fs) most sizes.1 (octets-right f (message_of (g ∷ fs)) octets))

under-octets : (number : Number) (ifs max blocks joined came : ℕ) (p : stage.BlockStage) (field : List ℕ) → ifs ≤ 254
    → IsUnderWay ifs max blocks joined came p → AreOctets field → AreOctets (under_way_of number p field)
under-octets number ifs max blocks joined came stages.Nad field most h octets = no-octets
under-octets number ifs max blocks joined came stages.Pcb field most h octets =
    octets-cons 0 [] (omega arith) no-octets
under-octets number ifs max blocks joined came (stages.Len more) field most h octets =
    octets-cons 0 (pcb_octet (Info number more) ∷ []) (omega arith)
    (octets-cons (pcb_octet (Info number more)) [] (info-octet number more) no-octets)
under-octets number ifs max blocks joined came (stages.Rest more len) field most h octets =
    octets-cons 0 (pcb_octet (Info number more) ∷ len ∷ field) (omega arith)
    (octets-cons (pcb_octet (Info number more)) (len ∷ field) (info-octet number more)
    (octets-cons len field (omega (arith, h.1, most)) octets))

-- ---- the octets that were taken

record Led (r : Taking) : Type 0 where
  octets : List ℕ
  are : AreOctets octets
  taken : HasTaken r octets

-- the fields of the whole blocks
abbrev fields_at : LentReceiver → List ℕ → List (List ℕ)
fields_at p m = fields_for p.ifs p.blocks (take p.joined m)

fields-fit : (p : LentReceiver) (m : List ℕ) → IsLentReceiver p (length m)
    → length (take p.joined m) ≤ p.blocks * p.ifs
fields-fit p m fit = omega (arith, joined-len p m (omega (arith, fit.joined, fit.reserved)), fit.full)

fields-text : (p : LentReceiver) (m : List ℕ) → IsLentReceiver p (length m)
    → message_of (fields_at p m) ≡ take p.joined m
fields-text p m fit = fields-message p.ifs p.blocks (take p.joined m) (fields-fit p m fit)

fields-taken : (p : LentReceiver) (m : List ℕ) → IsLentReceiver p (length m) → AreOctets m
    → Taken p.ifs (fields_at p m)
fields-taken p m fit octets = record {
  sizes = fields-sizes p.ifs p.blocks (take p.joined m) (fields-fit p m fit);
  octets = subst AreOctets (sym (fields-text p m fit)) (octets-take p.joined m octets);
}

-- blocks that go on, and what there is of the next
open-led : (p : LentReceiver) (m : List ℕ) → IsLentReceiver p (length m) → AreOctets m → p.done ≡ false
    → Led (unrefused (received_at p m))
open-led p m fit octets still =
    let fields : List (List ℕ) = fields_at p m in
    let field : List ℕ = field_at p m in
    let way = way-of p (length m) fit still in
    let taken : Taken p.ifs fields = fields-taken p m fit octets in
    let count : length fields ≡ p.blocks = fields-count p.ifs p.blocks (take p.joined m) in
    let text : message_of fields ≡ take p.joined m = fields-text p m fit in
    let long : length (message_of fields) ≡ p.joined =
    omega (arith, ap length text, joined-len p m (omega (arith, fit.joined, fit.reserved))) in
    let short : length field ≤ p.came = omega (arith, length-take p.came (drop p.joined m)) in
    let field-octets : AreOctets field = octets-take p.came (drop p.joined m) (octets-drop p.joined m octets) in
    let own : IsUnderWay p.ifs p.max (length fields) (length (message_of fields)) p.came p.stage =
    subst (λ (n : ℕ). IsUnderWay p.ifs p.max n (length (message_of fields)) p.came p.stage) (sym count)
    (subst (λ (n : ℕ). IsUnderWay p.ifs p.max p.blocks n p.came p.stage) (sym long) way.1) in
    record {
      octets = octets_of (open_blocks p.first fields) ++ under_way_of (number_at p) p.stage field;
      are = octets-append (octets_of (open_blocks p.first fields)) (under_way_of (number_at p) p.stage field)
          (open-octets p.first p.ifs fields fit.most taken.sizes taken.octets)
          (under-octets (number_at p) p.ifs p.max p.blocks p.joined p.came p.stage field fit.most way.1 field-octets);
      taken = record {
        kept = refl;
        begun = subst (λ (n : ℕ). Begins (IsChain p.ifs p.first p.max)
            (octets_of (open_blocks p.first fields) ++ under_way_of (number_after p.first n) p.stage field)) count
            (way-begins p.ifs p.first p.max fields p.came p.stage field taken (omega (arith, way.0, count))
            (omega (arith, long, fit.joined)) short own field-octets);
        fields = fields;
        blocks = count;
        joined = text;
        taken = subst (λ (d : Bool). AreTaken d p.first fields (under_way_of (number_at p) p.stage field)
            (octets_of (open_blocks p.first fields) ++ under_way_of (number_at p) p.stage field)) (sym still) (
              way-under (number_at p) p.ifs p.max p.blocks p.joined p.came p.stage field short way.1,
              refl,
            );
      };
    }

-- a whole chain
done-led : (p : LentReceiver) (m : List ℕ) → IsLentReceiver p (length m) → AreOctets m → p.done ≡ true
    → Led (unrefused (received_at p m))
done-led p m fit octets done =
    let fields : List (List ℕ) = fields_at p m in
    let taken : Taken p.ifs fields = fields-taken p m fit octets in
    let count : length fields ≡ p.blocks = fields-count p.ifs p.blocks (take p.joined m) in
    let text : message_of fields ≡ take p.joined m = fields-text p m fit in
    let among : (p.stage ≡ stages.Nad) × (1 ≤ p.blocks) = subst (λ (d : Bool). IsAmong d p) done fit.among in
    let chain : IsChain p.ifs p.first p.max fields (spelling p.first fields) =
    record {
      proper = record {
        some = omega (arith, count, among.1);
        few = omega (arith, count, fit.blocks);
        sizes = taken.sizes;
        octets = taken.octets;
        fits = omega (arith, ap length text, joined-len p m (omega (arith, fit.joined, fit.reserved)), fit.joined);
      };
      is = refl;
    } in
    record {
      octets = spelling p.first fields;
      are = chain-octets p.first p.ifs fields fit.most taken.sizes taken.octets;
      taken = record {
        kept = refl;
        begun = spelled-begins (IsChain p.ifs p.first p.max) fields (spelling p.first fields) chain;
        fields = fields;
        blocks = count;
        joined = text;
        taken = subst (λ (d : Bool). AreTaken d p.first fields (under_way_of (number_at p) p.stage (field_at p m))
            (spelling p.first fields)) (sym done) (
              omega (arith, count, among.1),
              ap (λ (q : stage.BlockStage). under_way_of (number_at p) q (field_at p m)) among.0,
              refl,
            );
      };
    }

-- ---- an octet that is refused

below : (a b : ℕ) → a < b → a ≢ b
below a b lt = λ e. omega arith

above : (a b : ℕ) → b < a → a ≢ b
above a b lt = λ e. omega arith

pcb-octet : (number : Number) (blocks : ℕ) (r : ChainReason) → IsPcbReason blocks r
    → (x : ℕ) × (x < 256) × IsPcbFault number (nat_eq (blocks + 1) 131072) x r
pcb-octet number blocks BadPcb h = (255, omega arith, λ q e. among_none 255 q refl e)
pcb-octet number blocks NotInfo h = (128, omega arith, (Ready Zero Free, refl, λ i. i))
pcb-octet number blocks BadSequence h =
    (pcb_octet (Info (other number) false), info-octet (other number) false, (false, refl))
pcb-octet number blocks TooManyBlocks h = (
  pcb_octet (Info number true),
  info-octet number true,
  (ap (λ (n : ℕ). nat_eq n 131072) h, refl),
)
pcb-octet number blocks _ h = absurd h

len-octet : (ifs room : ℕ) (r : ChainReason) → ifs ≤ 254 → IsLenReason ifs room r
    → (x : ℕ) × (x < 256) × IsLenFault ifs room x r
len-octet ifs room BadLen most h = (255, omega arith, refl)
len-octet ifs room OverIfs most h = (254, omega arith, (below 254 255 (omega arith), h))
len-octet ifs room TooLong most h =
    (ifs, omega (arith, most), (below ifs 255 (omega (arith, most)), omega arith, h))
len-octet ifs room _ most h = absurd h

-- for each reason for which one of the first three octets of a block can be refused there is one
head-octet : (number : Number) (ifs max blocks joined came : ℕ) (p : stage.BlockStage) (r : ChainReason) → ifs ≤ 254
    → IsHead p → IsNextReason ifs max blocks joined came p r
    → (x : ℕ) × (x < 256) × IsHeadFault number (nat_eq (blocks + 1) 131072) ifs (max - joined) p x r
head-octet number ifs max blocks joined came stages.Nad r most head h =
    (1, omega arith, (above 1 0 (omega arith), h))
head-octet number ifs max blocks joined came stages.Pcb r most head h = pcb-octet number blocks r h
head-octet number ifs max blocks joined came (stages.Len more) r most head h = len-octet ifs (max - joined) r most h
head-octet number ifs max blocks joined came (stages.Rest more len) r most head h = absurd head

-- no octets have every check sum
other-sum : (sum : ℕ) → (x : ℕ) × (x < 256) × (sum ≢ x)
other-sum sum = elim (same sum 0) [
  | inl e ↦ (1, omega arith, below sum 1 (omega (arith, e)))
  | inr ne ↦ (0, omega arith, ne)
]

-- an octet that is refused after those that the places may have taken, for this reason
record Refusable (p : LentReceiver) (m : List ℕ) (reason : ChainReason) : Type 0 where
  octet : ℕ
  is : octet < 256
  refused : (t : List ℕ) → HasTaken (unrefused (received_at p m)) t
      → RefusesAt self_ended (IsChain p.ifs p.first p.max) (IsReason p.ifs p.first p.max) (t ++ octet ∷ [])
      (At (taken_at p) reason)

head-refusable : (p : LentReceiver) (m : List ℕ) (reason : ChainReason)
    → IsLentReceiver (record p { refusal = None }) (length m) → p.done ≡ false → IsHead p.stage
    → IsNextReason p.ifs p.max p.blocks p.joined p.came p.stage reason → Refusable p m reason
head-refusable p m reason fit still head may =
    let q : LentReceiver = record p { refusal = None } in
    let x = head-octet (number_at p) p.ifs p.max p.blocks p.joined p.came p.stage reason fit.most head may in
    let place : ℕ = p.joined + 4 * p.blocks + place_of p.stage in
    let here : place ≡ taken_at p = omega (arith, head-came p.stage p.came head) in
    let goes = head-off q x.0 (length m) reason m fit (held-room q (length m) fit) refl still head x.2 in
    record {
      octet = x.0;
      is = x.1;
      refused = λ t h.
          subst (λ (n : ℕ). RefusesAt self_ended (IsChain p.ifs p.first p.max) (IsReason p.ifs p.first p.max)
          (t ++ x.0 ∷ []) (At n reason)) here
          (goes.refused (record { place = place; reason = reason }) refl t h);
    }

lrc-refusable : (p : LentReceiver) (m : List ℕ) (more : Bool) (len : ℕ)
    → IsLentReceiver (record (with_rest p more len) { refusal = None }) (length m) → p.done ≡ false
    → Refusable (with_rest p more len) m BadLrc
lrc-refusable p m more len fit still =
    let q : LentReceiver = record p { refusal = None } in
    let x = other-sum (xor_of (front_at q more len m)) in
    let place : ℕ = p.joined + 4 * p.blocks + (3 + len) in
    let goes = lrc-off q more len x.0 (length m) m fit (held-room (with_rest q more len) (length m) fit) refl still
    (sum-off (front_at q more len m) x.0 x.2) in
    record {
      octet = x.0;
      is = x.1;
      refused = λ t h. goes.refused (record { place = place; reason = BadLrc }) refl t h;
    }

refusable-by : (p : LentReceiver) (m : List ℕ) (reason : ChainReason) (q : stage.BlockStage)
    → IsLentReceiver (record p { refusal = None }) (length m) → p.done ≡ false → p.stage ≡ q
    → IsNextReason p.ifs p.max p.blocks p.joined p.came q reason → Refusable p m reason
refusable-by p m reason (stages.Rest more len) fit still is may =
    let same : with_rest p more len ≡ p = λ i. record p { stage = sym is i; came = sym may.0 i } in
    subst (λ (r : ChainReason). Refusable p m r) (sym may.1)
    (subst (λ (s : LentReceiver). Refusable s m BadLrc) same
    (lrc-refusable p m more len
    (subst (λ (s : LentReceiver). IsLentReceiver (record s { refusal = None }) (length m)) (sym same) fit)
    still))
refusable-by p m reason stages.Nad fit still is may =
    head-refusable p m reason fit still (subst IsHead (sym is) tt)
    (subst (λ (k : stage.BlockStage). IsNextReason p.ifs p.max p.blocks p.joined p.came k reason) (sym is) may)
refusable-by p m reason stages.Pcb fit still is may =
    head-refusable p m reason fit still (subst IsHead (sym is) tt)
    (subst (λ (k : stage.BlockStage). IsNextReason p.ifs p.max p.blocks p.joined p.came k reason) (sym is) may)
refusable-by p m reason (stages.Len more) fit still is may =
    head-refusable p m reason fit still (subst IsHead (sym is) tt)
    (subst (λ (k : stage.BlockStage). IsNextReason p.ifs p.max p.blocks p.joined p.came k reason) (sym is) may)

-- ---- any places that fit

unrefused-among : (done : Bool) (p : LentReceiver) → IsAmong done p → IsAmong done (record p { refusal = None })
unrefused-among true p h = h
unrefused-among false p h = h

-- places that fit do so without their refusal
unrefused-fit : (p : LentReceiver) (room : ℕ) → IsLentReceiver p room
    → IsLentReceiver (record p { refusal = None }) room
unrefused-fit p room fit = record {
  least = fit.least;
  most = fit.most;
  limit = fit.limit;
  reserved = fit.reserved;
  joined = fit.joined;
  full = fit.full;
  blocks = fit.blocks;
  idle = fit.idle;
  among = unrefused-among p.done p fit.among;
  kept = tt;
}

led : (p : LentReceiver) (m : List ℕ) → IsLentReceiver p (length m) → AreOctets m
    → Led (unrefused (received_at p m))
led p m fit octets = elim (bool_cases p.done) [
  | inl done ↦ done-led p m fit octets done
  | inr still ↦ open-led p m fit octets still
]

record Brought (p : LentReceiver) (m : List ℕ) (refusal : Option (Refusal ChainReason)) : Type 0 where
  octets : List ℕ
  are : AreOctets octets
  brings : Brings refusal (received_at p m) octets

brought : (p : LentReceiver) (m : List ℕ) (o : Option (Refusal ChainReason)) → p.refusal ≡ o
    → IsLentReceiver p (length m) → AreOctets m → Brought p m o
brought p m None e fit octets =
    let l = led p m fit octets in
    record {
      octets = l.octets;
      are = l.are;
      brings = subst (λ (o : Option (Refusal ChainReason)).
          HasTaken (record (received_at p m) { refusal = o }) l.octets)
          (sym e) l.taken;
    }
brought p m (Some refusal) e fit octets =
    let kept : IsKept (Some refusal) p = subst (λ (o : Option (Refusal ChainReason)). IsKept o p) e fit.kept in
    let l = led p m fit octets in
    let x = refusable-by p m refusal.reason p.stage (unrefused-fit p (length m) fit) kept.0 refl kept.2 in
    record {
      octets = l.octets ++ x.octet ∷ [];
      are = octets-append l.octets (x.octet ∷ []) l.are (octets-cons x.octet [] x.is no-octets);
      brings = (
        l.octets,
        x.octet,
        refl,
        l.taken,
        subst (λ (n : ℕ). RefusesAt self_ended (IsChain p.ifs p.first p.max) (IsReason p.ifs p.first p.max)
            (l.octets ++ x.octet ∷ []) (At n refusal.reason)) (sym kept.1) (x.refused l.octets l.taken),
      );
    }

-- places that fit and are brought there by octets are led to by them
pub brought-led : (p : LentReceiver) (m t : List ℕ) → IsLentReceiver p (length m) → AreOctets t
    → Brings p.refusal (received_at p m) t → AreLedTo p m t
brought-led p m t fit octets brings = record {
  least = fit.least;
  most = fit.most;
  limit = fit.limit;
  reserved = fit.reserved;
  octets = octets;
  held = held-room p (length m) fit;
  idle = fit.idle;
  brings = brings;
}

-- whatever octets are in the buffer, some octets lead to places that fit it and to these
pub fit-led : (p : LentReceiver) (m : List ℕ) → IsLentReceiver p (length m) → AreOctets m
    → (t : List ℕ) × AreLedTo p m t
fit-led p m fit octets =
    let b = brought p m p.refusal refl fit octets in (
      b.octets,
      brought-led p m b.octets fit b.are b.brings,
    )

-- ---- octets that come

-- what a receiver that refused nothing is brought by it has taken
pub open-brings : (r : Taking) (t : List ℕ) → r.refusal ≡ None → Brings r.refusal r t → HasTaken r t
open-brings r t none b = subst (λ (o : Option (Refusal ChainReason)). Brings o r t) none b

-- an octet that is refused changes nothing but the refusal
abbrev pub Stays : LentReceiver → LentReceiver → List ℕ → List ℕ → ℕ → Type 0
Stays p q m m' n = IsSome q.refusal → ((record q { refusal = None }) ≡ p) × (m' ≡ m) × (n ≡ 1)

one-octet : (p q : LentReceiver) (m m' xs t : List ℕ) (f : Refusal ChainReason) → (record q { refusal = None }) ≡ p
    → m' ≡ m → length xs ≡ 1 → q.refusal ≡ Some f → Goes (received_at p m) (received_at q m') xs
    → HasTaken (received_at p m) t → Brings (Some f) (received_at q m') (t ++ xs)
one-octet p q m m' [] t f same buffer one e goes h = absurd (omega arith)
one-octet p q m m' (x ∷ y ∷ xs) t f same buffer one e goes h = absurd (omega arith)
one-octet p q m m' (x ∷ []) t f same buffer one e goes h =
    let before : HasTaken (received_at (record q { refusal = None }) m') t =
    subst (λ (s : LentReceiver). HasTaken (received_at s m') t) (sym same)
    (subst (λ (l : List ℕ). HasTaken (received_at p l) t) (sym buffer) h) in (
      t,
      x,
      refl,
      before,
      subst (λ (s : LentReceiver). RefusesAt self_ended (IsChain s.ifs s.first s.max) (IsReason s.ifs s.first s.max)
          (t ++ x ∷ []) (At f.place f.reason)) (sym same) (goes.refused f e t h),
    )

run-by : (p q : LentReceiver) (m m' xs t : List ℕ) (o : Option (Refusal ChainReason)) → q.refusal ≡ o
    → Stays p q m m' (length xs) → Goes (received_at p m) (received_at q m') xs → HasTaken (received_at p m) t
    → Brings o (received_at q m') (t ++ xs)
run-by p q m m' xs t None e stays goes h = goes.on e t h
run-by p q m m' xs t (Some f) e stays goes h =
    let s = stays (rw e refl) in one-octet p q m m' xs t f s.0 s.1 s.2 e goes h

-- so the octets that lead to places that are open, and those that these take, lead to what they are then
pub run-brings : (p q : LentReceiver) (m m' xs t : List ℕ) → Stays p q m m' (length xs)
    → Goes (received_at p m) (received_at q m') xs → HasTaken (received_at p m) t
    → Brings q.refusal (received_at q m') (t ++ xs)
run-brings p q m m' xs t stays goes h = run-by p q m m' xs t q.refusal refl stays goes h
