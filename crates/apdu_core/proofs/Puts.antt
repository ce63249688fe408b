-- Octets that are put into a buffer one part after another.
use Rattle.std.proofs.Common.{◌≡◌, ◌≤◌, ◌∙◌, ◌+◌, ◌++◌, ℕ, List, take, drop, length, refl, sym, ap, append_assoc, arith}
use Rattle.std.proofs.lemmas.List.{length-append, length-take-le, length-drop, drop-drop}
use Rattle.std.proofs.Math.Seq.{take-append_seam, drop-append_seam}
use Rattle.apdu_core.specs.Put.{IsPutAt}

-- one part more
pub puts-on : (start mid end : ℕ) (one two old between new : List ℕ) → IsPutAt start one old between mid
    → IsPutAt mid two between new end → IsPutAt start (one ++ two) old new end
puts-on start mid end one two old between new first second =
    let more : mid + length two ≡ end = sym second.ends in
    let further : (l : List ℕ) → drop end l ≡ drop (length two) (drop mid l) =
    λ l. sym (drop-drop (length two) mid l ∙ ap (λ (k : ℕ). drop k l) more) in
    record {
      ends = omega (arith, length-append one two, first.ends, second.ends);
      long = second.long ∙ first.long;
      front = second.front ∙ ap (λ (l : List ℕ). l ++ two) first.front ∙ append_assoc (take start old) one two;
      kept = second.kept ∙ further between ∙ ap (drop (length two)) first.kept ∙ sym (further old);
    }

-- what a copy of octets into the buffer leaves
pub puts-at : (start : ℕ) (octets old new : List ℕ) → start + length octets ≤ length old
    → new ≡ take start old ++ (octets ++ drop (start + length octets) old)
    → IsPutAt start octets old new (start + length octets)
puts-at start octets old new room is =
    let front : List ℕ = take start old ++ octets in
    let rest : List ℕ = drop (start + length octets) old in
    let count : start + length octets ≡ length front =
    omega (arith, length-append (take start old) octets, length-take-le start old (omega (arith, room))) in
    let both : new ≡ front ++ rest = is ∙ sym (append_assoc (take start old) octets rest) in
    record {
      ends = refl;
      long = ap length both ∙ (let e : length (front ++ rest) ≡ length old =
          omega (arith, room, count, length-append front rest, length-drop (start + length octets) old) in e);
      front = ap (take (start + length octets)) both ∙ ap (λ (k : ℕ). take k (front ++ rest)) count
          ∙ take-append_seam front rest;
      kept = ap (drop (start + length octets)) both ∙ ap (λ (k : ℕ). drop k (front ++ rest)) count
          ∙ drop-append_seam front rest;
    }
