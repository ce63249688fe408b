-- What the first octets are that a reader has room for, all are.
use Rattle.std.proofs.Common.{◌≡◌, ℕ, ◌+◌, ◌-◌, ◌≤◌, ◌<◌, List, ◌++◌, length, take, min, sym, ap, subst, ◌∙◌, arith, inl, inr}
use Rattle.std.proofs.lemmas.Bool.{cases_lt}
use Rattle.std.proofs.lemmas.List.{length-append, length-take, length-take-le, take-take, take_all, take_min, append-nil}
use Rattle.std.proofs.lemmas.Slice.{take-put_mid}
use Rattle.std.proofs.Math.Seq.{take-append-add, take-length}
use borrow.Rule.Slice.PartMut.{put_mid}
use Rattle.octet_core.proofs.Lists.{nil_of}
use Rattle.octet_core.specs.Grammar.{self_ended, Accepts, Begins, IsStuck, IsShort}
use Rattle.atr_core.specs.Atr.{AtrParts, IsAtr}
use Rattle.block_core.proofs.Blocks.{spelling-len}
use Rattle.block_core.specs.Block.{Parts, IsBlock, Suits, supervisory_len}
use Rattle.block_core.specs.declared.pcb.Pcb.{Pcb}
use Rattle.block_core.specs.declared.pcb.Pcb.TheVariants.{Info, Ready, Request, Response}
use Rattle.block_core.specs.declared.pcb.S.{S as Subject}
use Rattle.block_core.specs.declared.pcb.S.TheVariants.{Resynch, Ifs, Abort, Wtx}
use Rattle.c_lent.specs.LentReaders.{Reads, Feeds}
use Rattle.c_lent.specs.declared.verdict.Verdict.{Verdict}

module _ {V R : Type 0} (S : V → List ℕ → Type 0) (Reason : R → List ℕ → Type 0) (number : R → ℕ) (most : ℕ)
    (bounded : (v : V) (b : List ℕ) → S v b → length b ≤ most) where
  accepts-all : (b : List ℕ) (v : V) (n : ℕ) → Accepts self_ended S (take most b) v n → Accepts self_ended S b v n
  accepts-all b v n a =
      let le : n ≤ most = omega (arith, length-take most b, a.0) in
      (omega (arith, length-take most b, a.0), subst (S v) (take-take n most b le) a.1)

  accepts-front : (b : List ℕ) (v : V) (n : ℕ) → Accepts self_ended S b v n → Accepts self_ended S (take most b) v n
  accepts-front b v n a =
      let le : n ≤ most = omega (arith, length-take-le n b a.0, bounded v (take n b) a.1) in
      (omega (arith, length-take most b, a.0), subst (S v) (sym (take-take n most b le)) a.1)

  stuck-all : (b : List ℕ) (p : ℕ) → IsStuck self_ended S (take most b) p → IsStuck self_ended S b p
  stuck-all b p h =
      let lt : p < most = omega (arith, length-take most b, h.inside) in
      record {
        none = λ v n a. h.none v n (accepts-front b v n a);
        inside = omega (arith, length-take most b, h.inside);
        begun = subst (Begins S) (take-take p most b (omega arith)) h.begun;
        stuck = λ begun. h.stuck (subst (Begins S) (sym (take-take (p + 1) most b (omega arith))) begun);
      }

  -- as many octets as there is room for are never short where more come
  short-all : (b : List ℕ) (p : ℕ) → most < length b → IsShort self_ended S (take most b) p → ⊥
  short-all b p lt h =
      let front : List ℕ = take most b in
      let long : length front ≡ most = length-take-le most b (omega arith) in
      let v : V = h.begun.0 in
      let more : List ℕ = h.begun.1 in
      let none : length more ≡ 0 =
      omega (arith, long, length-append front more, bounded v (front ++ more) h.begun.2) in
      let same : front ++ more ≡ front = ap (λ (l : List ℕ). front ++ l) (nil_of more none) ∙ append-nil front in
      h.none v (length front)
      (omega arith, subst (S v) (same ∙ sym (take-length front)) h.begun.2)

  reads-all : (b : List ℕ) (held count : ℕ) (v : Verdict) → Reads S Reason number (take most b) held count v
      → Reads S Reason number b held count v
  reads-all b held count v (inl h) =
      inl (record { value = h.value; accepts = accepts-all b h.value count h.accepts; verdict = h.verdict })
  reads-all b held count v (inr (inl h)) =
      let lt : h.place < most = omega (arith, length-take most b, h.refuses.0.inside) in
      inr (inl (record {
        place = h.place;
        reason = h.reason;
        refuses = (
          stuck-all b h.place h.refuses.0,
          subst (Reason h.reason) (take-take (h.place + 1) most b (omega arith)) h.refuses.1,
        );
        counted = h.counted;
        verdict = h.verdict;
      }))
  reads-all b held count v (inr (inr h)) = elim (cases_lt most (length b)) [
    | inl lt ↦ absurd (short-all b count lt h.short)
    | inr le ↦
        inr (inr (record {
          short = subst (λ (l : List ℕ). IsShort self_ended S l count) (take_all most b le) h.short;
          verdict = h.verdict;
        }))
  ]

  -- a reader keeps no more than it was given
  reads-len : (b : List ℕ) (held count : ℕ) (v : Verdict) → Reads S Reason number b held count v → count ≤ length b
  reads-len b held count v (inl h) = h.accepts.0
  reads-len b held count v (inr (inl h)) = omega (arith, h.counted, h.refuses.0.inside)
  reads-len b held count v (inr (inr h)) = omega (arith, h.short.end)

  -- what a reader does with as much of a piece as it has room for, it does with the piece
  pub feeds : (held piece octets : List ℕ) (end count : ℕ) (v : Verdict)
      → take end octets ≡ take most (held ++ piece) → Reads S Reason number (take end octets) (length held) count v
      → Feeds S Reason number held piece (take count octets) v
  feeds held piece octets end count v same reads =
      let all : List ℕ = held ++ piece in
      let le : count ≤ end =
      omega (arith, reads-len (take end octets) (length held) count v reads, length-take end octets) in
      let front : Reads S Reason number (take most all) (length held) count v =
      subst (λ (l : List ℕ). Reads S Reason number l (length held) count v) same reads in
      let few : count ≤ most =
      omega (arith, reads-len (take most all) (length held) count v front, length-take most all) in
      record {
        count = count;
        reads = reads-all all (length held) count v front;
        kept = sym (take-take count end octets le) ∙ ap (take count) same ∙ take-take count most all few;
      }

supervisory-few : (s : Subject) → supervisory_len s ≤ 1
supervisory-few Resynch = omega arith
supervisory-few Ifs = omega arith
supervisory-few Abort = omega arith
supervisory-few Wtx = omega arith

field-few : (ifs : ℕ) (p : Pcb) (inf : List ℕ) → ifs ≤ 254 → Suits ifs p inf → length inf ≤ 254
field-few ifs (Info n more) inf le h = omega (arith, h)
field-few ifs (Ready n fault) inf le h = omega (arith, h)
field-few ifs (Request s) inf le h = omega (arith, h.0, supervisory-few s)
field-few ifs (Response s) inf le h = omega (arith, h.0, supervisory-few s)

-- a block has at most 258 octets
pub block-few : (ifs : ℕ) → ifs ≤ 254 → (v : Parts) (b : List ℕ) → IsBlock ifs v b → length b ≤ 258
block-few ifs le v b h =
    omega (arith, ap length h.is, spelling-len v, field-few ifs v.pcb v.inf le h.proper.suits)

-- an answer to reset has at most 33
pub atr-few : (v : AtrParts) (b : List ℕ) → IsAtr v b → length b ≤ 33
atr-few v b h = omega (arith, ap length h.is, h.proper.most)

-- as much of a piece as there is room for, after the first octets of a buffer
pub put-after : (octets piece run : List ℕ) (held more k : ℕ) → held ≤ length octets
    → more ≡ min (length piece) (length octets - held) → run ≡ take more piece
    → take (held + more) (put_mid held k octets run) ≡ take (length octets) (take held octets ++ piece)
put-after octets piece run held more k le more-is run-is =
    let front : List ℕ = take held octets in
    let long : length front ≡ held = length-take-le held octets le in
    let ran : length run ≡ more = ap length run-is ∙ length-take more piece
    ∙ (let e : min more (length piece) ≡ more = omega arith in e) in
    let left : ℕ = length octets - held in
    let part : take left piece ≡ run = sym (take_min left piece)
    ∙ ap (λ (n : ℕ). take n piece) (let e : min left (length piece) ≡ more = omega arith in e) ∙ sym run-is in
    let seam : length octets ≡ length front + left = omega arith in
    take-put_mid held k octets run (held + more) (omega arith) le ∙ ap (λ (l : List ℕ). front ++ l) (sym part)
    ∙ sym (take-append-add front piece left) ∙ ap (λ (n : ℕ). take n (front ++ piece)) (sym seam)

-- the octets that a reader holds, by their number
pub held-same : (octets : List ℕ) (count held most : ℕ) → length octets ≡ most → held ≡ min count most
    → (take held octets ≡ take count octets) × (length (take count octets) ≡ held)
held-same octets count held most room held-is = (
  ap (λ (n : ℕ). take n octets) (let e : held ≡ min count (length octets) = omega arith in e) ∙ take_min count octets,
  omega (arith, length-take count octets),
)
