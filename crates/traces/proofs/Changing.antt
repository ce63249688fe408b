-- What is seen of a block that a recorder writes as whole or changed on its way.
use Rattle.std.proofs.Common.{◌≡◌, ◌∙◌, inl, inr, ap, sym, refl, ℕ, ◌+◌, List, Bool, true, false, length, take, drop, arith, tests, nat_lt}
use Rattle.std.specs.Prelude.{◌&&◌, ◌||◌, ◌==◌, if◌then◌else◌, slice_index, Option, Some, None, bytes_eq, is_none}
use Rattle.std.proofs.Math.Seq.{take-length}
use Rattle.std.proofs.lemmas.Slice.Eq.{bytes_eq-Decides}
use Rattle.octet_core.specs.Octets.{xor_of}
use Rattle.block_core.specs.Block.{Parts, front_of, spelling}
use Rattle.block_core.specs.Computed.{all_pcbs, pcb_among, suits}
use Rattle.block_core.specs.declared.pcb.Pcb.{Pcb}
use Rattle.block_core.proofs.Blocks.{spelling-xor}
use Rattle.t1_core.specs.Came.{got, damaged, invalid, class_with}
use Rattle.exchange_text.specs.declared.line.Arrival.{Arrival}
use Rattle.exchange_text.specs.declared.line.Arrival.TheVariants.{Whole, Lost, Changed}
use Rattle.exchange_text.specs.Exchange.{arrived}
use Rattle.exchange_core.specs.Recording.{damaged_octets, spoilt_octets}
use Rattle.exchange_core.proofs.Changed.{damaged-sum}
use Rattle.exchange_core.proofs.Folds.{equal-octets}
use Rattle.exchange_core.proofs.Stepping.{Becomes}
use Rattle.traces.specs.Seen.{block_of, seen}
use Rattle.traces.specs.Following.{arrival, is_spelled, meets}
use Rattle.traces.proofs.Followed.{left-both, right-both}

-- ---- they are no block

no-block : (fits sum ends : Bool) (pcb : Pcb) (inf : List ℕ) → (ends ≡ true → sum ≡ false)
    → block_of (if fits then (if sum then (if ends then got pcb inf else invalid) else damaged) else invalid) ≡ None
no-block false sum ends pcb inf h = refl
no-block true false ends pcb inf h = refl
no-block true true false pcb inf h = refl
no-block true true true pcb inf h = let e : true ≡ false = h refl in cc

unseen-with : (b : List ℕ) (n : ℕ) (pcb : Option Pcb)
    → ((length b == n + 1) && (slice_index b 0 == 0) ≡ true → (xor_of (take (n + 1) b) == 0) ≡ false)
    → block_of (class_with 254 b n pcb) ≡ None
unseen-with b n None h = refl
unseen-with b n (Some p) h =
    no-block (nat_lt n (length b) && suits 254 p (drop 3 (take n b))) (xor_of (take (n + 1) b) == 0)
    ((length b == n + 1) && (slice_index b 0 == 0)) p (drop 3 (take n b)) h

equal-is : (m n : ℕ) → (m == n) ≡ true → m ≡ n
equal-is m n e = search (tests, arith)

apart : (m : ℕ) → m ≡ 0 → m ≡ 1 → ⊥
apart m e f = omega (arith, e, f)

unseen-sum : (b : List ℕ) → xor_of b ≡ 1 → seen b ≡ None
unfolding seen
unseen-sum b e = unseen-with b (slice_index b 2 + 3) (pcb_among all_pcbs (slice_index b 1)) (λ ends.
    let len : length b ≡ slice_index b 2 + 3 + 1 = equal-is _ _ (left-both _ _ ends) in
    let all : take (slice_index b 2 + 3 + 1) b ≡ b = ap (λ (k : ℕ). take k b) (sym len) ∙ take-length b in
    ap (λ (x : ℕ). x == 0) (ap (λ (l : List ℕ). xor_of l) all ∙ e))

unseen-nad : (b : List ℕ) → slice_index b 0 ≡ 1 → seen b ≡ None
unfolding seen
unseen-nad b e = unseen-with b (slice_index b 2 + 3) (pcb_among all_pcbs (slice_index b 1))
    (λ ends. absurd (apart (slice_index b 0) (equal-is (slice_index b 0) 0 (right-both _ _ ends)) e))

-- ---- nor are they those of the block

by-test : (b : Bool) → (b ≡ true → ⊥) → b ≡ false
by-test true h = absurd (h refl)
by-test false h = refl

unequal : (x y : List ℕ) → (x ≡ y → ⊥) → bytes_eq x y ≡ false
unequal x y h = by-test (bytes_eq x y) (λ e. h ((bytes_eq-Decides x y).0 e))

another-sum : (v : Parts) → spelling v ≡ damaged_octets v → ⊥
another-sum v e = apart (xor_of (spelling v)) (spelling-xor v)
    (ap (λ (l : List ℕ). xor_of l) e ∙ damaged-sum (front_of v))

another-nad : (v : Parts) → v.nad ≡ 0 → spelling v ≡ spoilt_octets v → ⊥
another-nad v h e = apart v.nad h (ap (λ (l : List ℕ). slice_index l 0) e)

-- ---- what is seen of the block

or-true : (a b : Bool) → b ≡ true → a || b ≡ true
or-true true b e = refl
or-true false b e = e

unseen-meets : (v : Parts) (octets : List ℕ) → seen octets ≡ None → meets v octets ≡ true
unseen-meets v octets e = or-true (is_spelled v octets) _ (ap (λ (o : Option Parts). is_none o) e)

-- the octets can be what came of the block
pub meets-arrived : (v : Parts) (a : Arrival) → Becomes v a → meets v (arrived (spelling v) a) ≡ true
meets-arrived v Whole h = ap (λ (b : Bool). b || is_none (seen (spelling v))) (equal-octets (spelling v))
meets-arrived v Lost h = absurd h
meets-arrived v (Changed octets) (inl e) =
    unseen-meets v octets (unseen-sum octets (ap (λ (l : List ℕ). xor_of l) e ∙ damaged-sum (front_of v)))
meets-arrived v (Changed octets) (inr e) =
    unseen-meets v octets (unseen-nad octets (ap (λ (l : List ℕ). slice_index l 0) e))

unspelled : (v : Parts) (octets : List ℕ) → v.nad ≡ 0 → Becomes v (Changed octets) → spelling v ≡ octets → ⊥
unspelled v octets h (inl e) same = another-sum v (same ∙ e)
unspelled v octets h (inr e) same = another-nad v h (same ∙ e)

-- and they tell what became of it
pub arrival-arrived : (v : Parts) (a : Arrival) → v.nad ≡ 0 → Becomes v a
    → arrival v (arrived (spelling v) a) false ≡ a
arrival-arrived v Whole h b = ap (λ (b : Bool). if b then Whole else Changed (spelling v)) (equal-octets (spelling v))
arrival-arrived v Lost h b = absurd b
arrival-arrived v (Changed octets) h b =
    ap (λ (b : Bool). if b then Whole else Changed octets) (unequal (spelling v) octets (unspelled v octets h b))
