-- What a framer keeps of a burst, and what that says of it.
use Rattle.std.proofs.Common.{◌≡◌, ℕ, ◌+◌, ◌-◌, ◌<◌, ◌&&◌, ◌==◌, List, ◌++◌, length, take, min, Bool, true, refl, sym, ap, ◌∙◌, arith, inl, inr, get_or, slice_index, eq-eqb}
use Rattle.std.proofs.lemmas.List.{length-append, length-take, take-append-le, take_all, take_min, append-nil, get_or-take}
use Rattle.std.proofs.lemmas.Slice.{take-put_mid}
use Rattle.std.proofs.lemmas.Bool.{cases_lt}
use Rattle.std.proofs.Math.Seq.{take-append-add}
use borrow.Rule.Slice.PartMut.{put_mid}
use Rattle.octet_core.specs.Octets.{xor_of}
use Rattle.line_core.specs.declared.framing.Framer.{Framer}
use Rattle.block_core.specs.Block.{is_whole}
use Rattle.line_core.specs.Bursts.{HasHeard, handed, most_counted}

-- the first octets of joined lists are those of the one, and then of the other
pub take-joined : (n : ℕ) (a b : List ℕ) → take n (a ++ b) ≡ take n a ++ take (n - length a) b
take-joined n a b = elim (cases_lt n (length a)) [
  | inl lt ↦
      let none : n - length a ≡ 0 = omega arith in
      take-append-le n a b (omega arith) ∙ sym (append-nil (take n a))
      ∙ ap (λ (k : ℕ). take n a ++ take k b) (sym none)
  | inr le ↦
      let whole : n ≡ length a + (n - length a) = omega arith in
      ap (λ (k : ℕ). take k (a ++ b)) whole ∙ take-append-add a b (n - length a)
      ∙ ap (λ (l : List ℕ). l ++ take (n - length a) b) (sym (take_all n a le))
]

-- a piece goes after what is kept, as far as there is room
pub fed : (f new : Framer) (burst piece run : List ℕ) (held more : ℕ) → HasHeard f burst
    → held ≡ min f.count handed → more ≡ min (length piece) (handed - held) → length f.octets ≡ handed
    → run ≡ take more piece → (k : ℕ) → new.octets ≡ put_mid held k f.octets run
    → new.count ≡ min (f.count + length piece) most_counted → HasHeard new (burst ++ piece)
fed f new burst piece run held more h held-is more-is room run-is k octets-is count-is =
    let held-of : held ≡ min (length burst) handed = omega (arith, h.counted) in
    let long : length run ≡ more = ap length run-is ∙ length-take more piece
    ∙ (let e : min more (length piece) ≡ more = omega arith in e) in
    let all : min (length (burst ++ piece)) handed ≡ held + length run =
    omega (arith, length-append burst piece) in
    let room-left : handed - length burst ≡ handed - held = omega arith in
    let part : take (handed - length burst) piece ≡ run =
    ap (λ (n : ℕ). take n piece) room-left ∙ sym (take_min (handed - held) piece)
    ∙ ap (λ (n : ℕ). take n piece) (let e : min (handed - held) (length piece) ≡ more = omega arith in e)
    ∙ sym run-is in
    let front : take handed burst ≡ take held f.octets =
    h.kept ∙ ap (λ (n : ℕ). take n f.octets) (sym held-of) in
    record {
      counted = omega (arith, length-append burst piece, count-is, h.counted);
      kept = take-joined handed burst piece ∙ ap (λ (l : List ℕ). l ++ take (handed - length burst) piece) front
          ∙ ap (λ (l : List ℕ). take held f.octets ++ l) part
          ∙ sym (take-put_mid held k f.octets run (held + length run) refl (omega arith))
          ∙ ap (λ (l : List ℕ). take (held + length run) l) (sym octets-is)
          ∙ ap (λ (n : ℕ). take n new.octets) (sym all);
    }

-- a framer whose count is that of the block that it keeps has a whole one where the exclusive-or is 0
pub whole : (f : Framer) (burst part : List ℕ) (len sum : ℕ) → HasHeard f burst → len < 256
    → len ≡ get_or f.octets 2 0 → f.count ≡ len + 4 → part ≡ take handed burst → sum ≡ xor_of part
    → (sum == 0) ≡ is_whole burst
whole f burst part len sum h small len-is count-is part-is sum-is =
    let long : length burst ≡ len + 4 = omega (arith, h.counted) in
    let all : take handed burst ≡ burst = take_all handed burst (omega arith) in
    let third : get_or burst 2 0 ≡ len =
    ap (λ (l : List ℕ). get_or l 2 0) (sym all ∙ h.kept)
    ∙ get_or-take (min (length burst) handed) f.octets 2 0 (omega arith) ∙ sym len-is in
    let same : (length burst == slice_index burst 2 + 4) ≡ true =
    eq-eqb (length burst) (slice_index burst 2 + 4) (omega arith) in
    let sums : sum ≡ xor_of burst = sum-is ∙ ap xor_of (part-is ∙ all) in
    ap (λ (s : ℕ). s == 0) sums ∙ ap (λ (b : Bool). b && (xor_of burst == 0)) (sym same)
