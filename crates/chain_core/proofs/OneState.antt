-- The same octets lead to the same places.
use Rattle.std.proofs.Common.{◌≡◌, ℕ, ◌+◌, ◌<◌, ◌++◌, List, [], ◌∷◌, length, take, drop, refl, sym, ap, subst, ◌∙◌, arith, Bool, true, false, Option, Some, None, inl, inr, slice_index}
use Rattle.std.proofs.lemmas.List.{append-nil, length-append}
use Rattle.std.proofs.lemmas.Bool.{cases_lt}
use Rattle.std.proofs.Math.Seq.{take-length}
use Rattle.octet_core.specs.Grammar.{Begins, RefusesAt, self_ended}
use Rattle.octet_core.specs.declared.stop.Refusal.{Refusal}
use Rattle.octet_core.specs.declared.stop.Stop.TheVariants.{At}
use Rattle.octet_core.proofs.Begun.{begins-take, one-place}
use Rattle.octet_core.proofs.Firsts.{first_once}
use Rattle.octet_core.proofs.Lists.{split_same}
use Rattle.block_core.specs.declared.pcb.Number.{Number}
use Rattle.chain_core.specs.declared.reason.ChainReason.{ChainReason}
use Rattle.chain_core.specs.declared.stage.BlockStage as stage
use Rattle.chain_core.specs.declared.stage.BlockStage.TheVariants as stages
use Rattle.chain_core.specs.declared.lent.LentReceiver.{LentReceiver}
use Rattle.chain_core.specs.Chain.{IsChain, IsReason, Meets, all_reasons, message_of, number_after, spelling}
use Rattle.chain_core.specs.Stage.{came_of}
use Rattle.chain_core.specs.Taking.{Taking, HasTaken, AreTaken, unrefused}
use Rattle.chain_core.specs.Lent.{under_way_of, number_at, field_at, received_at, AreLedTo, Brings}
use Rattle.chain_core.proofs.Feeds.{full-done, chain-at}
use Rattle.chain_core.proofs.Reached.{field-count}
use Rattle.chain_core.proofs.Reasons.{IsPart, part-short, part-under, part-split}
use Rattle.chain_core.proofs.Steps.{joined-len}
use Rattle.chain_core.proofs.Taken.{done-spelled}
use Rattle.chain_core.proofs.Unique.{spelling-split, more-back}

-- ---- what has taken the same octets

partial : (c : List ℕ) → (3 < length c → length c < slice_index c 2 + 4) → IsPart c
partial c short = elim (cases_lt 3 (length c)) [
  | inl lt ↦ part-under c (short lt)
  | inr le ↦ part-short c le
]

one-fields : (d : Bool) (number : Number) (fs gs : List (List ℕ)) (a b t : List ℕ) → AreTaken d number fs a t
    → AreTaken d number gs b t → (fs ≡ gs) × (a ≡ b)
one-fields true number fs gs a b t h g =
    let same = spelling-split number fs gs [] [] h.0 g.0
    (append-nil (spelling number fs) ∙ sym h.2 ∙ g.2 ∙ sym (append-nil (spelling number gs))) in
    (same.0, h.1 ∙ sym g.1)
one-fields false number fs gs a b t h g = part-split number fs gs a b (partial a h.0) (partial b g.0) (sym h.1 ∙ g.1)

-- what a receiver keeps beside its conditions
record Same (r s : Taking) : Type 0 where
  done : r.done ≡ s.done
  blocks : r.blocks ≡ s.blocks
  joined : r.joined ≡ s.joined
  under_way : r.under_way ≡ s.under_way

done-too : (r s : Taking) (t : List ℕ) → r.ifs ≡ s.ifs → r.number ≡ s.number → r.max ≡ s.max → HasTaken r t
    → HasTaken s t → r.done ≡ true → s.done ≡ true
done-too r s t e f g h k done =
    full-done s t h.fields k (chain-at s r h.fields t e f g (done-spelled r t h done))

one-done : (d e : Bool) → (d ≡ true → e ≡ true) → (e ≡ true → d ≡ true) → d ≡ e
one-done true e f g = sym (f refl)
one-done false true f g = g refl
one-done false false f g = refl

one-taking : (r s : Taking) (t : List ℕ) → r.ifs ≡ s.ifs → r.number ≡ s.number → r.max ≡ s.max → HasTaken r t
    → HasTaken s t → Same r s
one-taking r s t e f g h k =
    let done : r.done ≡ s.done =
    one-done r.done s.done (done-too r s t e f g h k) (done-too s r t (sym e) (sym f) (sym g) k h) in
    let other : AreTaken r.done r.number k.fields s.under_way t =
    subst (λ (d : Bool). AreTaken d r.number k.fields s.under_way t) (sym done)
    (subst (λ (n : Number). AreTaken s.done n k.fields s.under_way t) (sym f) k.taken) in
    let same = one-fields r.done r.number h.fields k.fields r.under_way s.under_way t h.taken other in
    record {
      done = done;
      blocks = sym h.blocks ∙ ap length same.0 ∙ k.blocks;
      joined = sym h.joined ∙ ap message_of same.0 ∙ k.joined;
      under_way = same.1;
    }

-- ---- the block under way

one-part : (number : Number) (k l : stage.BlockStage) (a b : ℕ) (f g : List ℕ) → length f ≡ a → length g ≡ b
    → came_of k a ≡ a → came_of l b ≡ b → under_way_of number k f ≡ under_way_of number l g → (k ≡ l) × (a ≡ b)
one-part number stages.Nad stages.Nad a b f g fa gb ia ib e = (refl, sym ia ∙ ib)
one-part number stages.Pcb stages.Pcb a b f g fa gb ia ib e = (refl, sym ia ∙ ib)
one-part number (stages.Len m) (stages.Len n) a b f g fa gb ia ib e =
    let go : m ≡ n = more-back number m n (ap (λ (l : List ℕ). slice_index l 1) e) in
    (ap (λ (d : Bool). stages.Len d) go, sym ia ∙ ib)
one-part number (stages.Rest m x) (stages.Rest n y) a b f g fa gb ia ib e =
    let go : m ≡ n = more-back number m n (ap (λ (l : List ℕ). slice_index l 1) e) in
    let len : x ≡ y = ap (λ (l : List ℕ). slice_index l 2) e in
    (λ i. stages.Rest (go i) (len i), sym fa ∙ ap (λ (l : List ℕ). length (drop 3 l)) e ∙ gb)
one-part number k l a b f g fa gb ia ib e = absurd (omega (arith, ap length e))

-- ---- places

aligned : (P : ℕ → Number → ℕ → Type 0) (p q : LentReceiver) → p.ifs ≡ q.ifs → p.first ≡ q.first → p.max ≡ q.max
    → P q.ifs q.first q.max → P p.ifs p.first p.max
aligned P p q e f g h =
    subst (λ (m : ℕ). P p.ifs p.first m) (sym g)
    (subst (λ (n : Number). P p.ifs n q.max) (sym f) (subst (λ (i : ℕ). P i q.first q.max) (sym e) h))

-- places that have taken the same octets, but for a refused one, are the same with the same refusal
same-places : (p q : LentReceiver) (m n t s : List ℕ) → p.ifs ≡ q.ifs → p.first ≡ q.first → p.max ≡ q.max
    → AreLedTo p m t → AreLedTo q n t → HasTaken (unrefused (received_at p m)) s
    → HasTaken (unrefused (received_at q n)) s → p.refusal ≡ q.refusal
    → (p ≡ q) × (take p.joined m ≡ take q.joined n)
same-places p q m n t s e f g l k h j o =
    let r = one-taking (unrefused (received_at p m)) (unrefused (received_at q n)) s e f g h j in
    let joined : p.joined ≡ q.joined = omega (
      arith,
      ap length r.joined,
      joined-len p m (omega (arith, l.held)),
      joined-len q n (omega (arith, k.held)),
    ) in
    let number : number_at q ≡ number_at p =
    ap (λ (x : Number). number_after x q.blocks) (sym f) ∙ ap (number_after p.first) (sym r.blocks) in
    let way : under_way_of (number_at p) p.stage (field_at p m) ≡ under_way_of (number_at p) q.stage (field_at q n) =
    r.under_way ∙ ap (λ (x : Number). under_way_of x q.stage (field_at q n)) number in
    let under = one-part (number_at p) p.stage q.stage p.came q.came (field_at p m) (field_at q n)
    (field-count p m l.held l.idle) (field-count q n k.held k.idle) l.idle k.idle way in (
      λ i. record {
        ifs = e i;
        first = f i;
        max = g i;
        blocks = r.blocks i;
        joined = joined i;
        stage = under.0 i;
        came = under.1 i;
        done = r.done i;
        refusal = o i;
      },
      r.joined,
    )

-- what was taken isn't refused
not-both : (S : List (List ℕ) → List ℕ → Type 0) (t : List ℕ) (n : ℕ) → Begins S t → n < length t
    → (Begins S (take (n + 1) t) → ⊥) → ⊥
not-both S t n begun inside stuck =
    stuck (begins-take S (n + 1) (length t) t (omega (arith, inside)) (subst (Begins S) (sym (take-length t)) begun))

one-by : (p q : LentReceiver) (m n t : List ℕ) (o u : Option (Refusal ChainReason)) → p.ifs ≡ q.ifs
    → p.first ≡ q.first → p.max ≡ q.max → AreLedTo p m t → AreLedTo q n t → p.refusal ≡ o → q.refusal ≡ u
    → Brings o (received_at p m) t → Brings u (received_at q n) t
    → (p ≡ q) × (take p.joined m ≡ take q.joined n)
one-by p q m n t None None e f g l k a b h j =
    same-places p q m n t t e f g l k
    (subst (λ (o : Option (Refusal ChainReason)). HasTaken (record (received_at p m) { refusal = o }) t) a h)
    (subst (λ (o : Option (Refusal ChainReason)). HasTaken (record (received_at q n) { refusal = o }) t) b j)
    (a ∙ sym b)
one-by p q m n t None (Some x) e f g l k a b h j =
    let stuck = aligned (λ (ifs : ℕ) (first : Number) (max : ℕ). Begins (IsChain ifs first max) (take (x.place + 1) t)
    → ⊥)
    p q e f g ((j.4).0).stuck in
    absurd (not-both (IsChain p.ifs p.first p.max) t x.place h.begun (((j.4).0).inside) stuck)
one-by p q m n t (Some x) None e f g l k a b h j =
    let begun = aligned (λ (ifs : ℕ) (first : Number) (max : ℕ). Begins (IsChain ifs first max) t) p q e f g j.begun in
    absurd (not-both (IsChain p.ifs p.first p.max) t x.place begun (((h.4).0).inside) ((h.4).0).stuck)
one-by p q m n t (Some x) (Some y) e f g l k a b h j =
    let text : h.0 ++ h.1 ∷ [] ≡ j.0 ++ j.1 ∷ [] = sym h.2 ∙ j.2 in
    let long : length h.0 ≡ length j.0 =
    omega (arith, ap length text, length-append h.0 (h.1 ∷ []), length-append j.0 (j.1 ∷ [])) in
    let same = split_same h.0 j.0 (h.1 ∷ []) (j.1 ∷ []) long text in
    let other = aligned (λ (ifs : ℕ) (first : Number) (max : ℕ). RefusesAt self_ended (IsChain ifs first max)
    (IsReason ifs first max) t (At y.place y.reason)) p q e f g j.4 in
    let place : x.place ≡ y.place = one-place (IsChain p.ifs p.first p.max) self_ended t x.place y.place h.4.0 other.0
    in
    let reason : x.reason ≡ y.reason =
    first_once all_reasons (Meets p.ifs p.first p.max (take (x.place + 1) t)) x.reason y.reason h.4.1
    (subst (λ (i : ℕ). IsReason p.ifs p.first p.max y.reason (take (i + 1) t)) (sym place) other.1) in
    let refusal : x ≡ y = λ i. record { place = place i; reason = reason i } in
    same-places p q m n t h.0 e f g l k h.3
    (subst (λ (s : List ℕ). HasTaken (unrefused (received_at q n)) s) (sym same.0) j.3)
    (a ∙ ap (λ (z : Refusal ChainReason). Some z) refusal ∙ sym b)

-- the same octets lead to one state of a receiver, and put the same octets into its buffer
pub one-state : (p q : LentReceiver) (m n t : List ℕ) → p.ifs ≡ q.ifs → p.first ≡ q.first → p.max ≡ q.max
    → AreLedTo p m t → AreLedTo q n t → (p ≡ q) × (take p.joined m ≡ take q.joined n)
one-state p q m n t e f g l k = one-by p q m n t p.refusal q.refusal e f g l k refl refl l.brings k.brings
