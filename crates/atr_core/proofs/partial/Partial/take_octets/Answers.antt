use Rattle.std.proofs.Common.{◌≡◌, ◌∙◌, ◌++◌, ◌∷◌, [], ◌+◌, ℕ, List, length, take, get_or, arith, sym, ap, subst}
use Rattle.std.proofs.Math.Seq.{take-append-add}
use Rattle.std.proofs.lemmas.List.{get_or-append-add, length-append}
use Rattle.atr_core.specs.Atr.{IsReason}
use Rattle.atr_core.specs.Partial.{taken_of}
use Rattle.atr_core.proofs.Completed.{Unfinished, goes-on, refused-at}
use Rattle.atr_core.proofs.Feeding.{holds-few}
use Rattle.atr_core.proofs.partial.Partial.take_octets.Goals as goal

pub overflow_add-place_ever : goal.overflow_add-place_ever
overflow_add-place_ever c = omega (
  arith,
  holds-few c.args.self.now c.requires.holds,
  c.requires.count,
  c.loop-place-test.true,
  c.type_inv.piece,
)

pub returns-in-Err : goal.returns-in-Err
returns-in-Err c =
    let t : List ℕ = taken_of c.args.self.now in
    let b : List ℕ = t ++ c.args.piece.now in
    let i : ℕ = c.loop-place.place in
    let p : ℕ = c.args.count + i in
    let place : p ≡ length t + i = ap (λ (n : ℕ). n + i) c.requires.count in
    let before : taken_of c.loop-place.self ≡ take p b =
    c.loop-place.invariant.taken ∙ sym (take-append-add t c.args.piece.now i)
    ∙ ap (λ (n : ℕ). take n b) (sym place) in
    let octet : get_or c.args.piece.now i 0 ≡ get_or b p 0 =
    sym (get_or-append-add t c.args.piece.now i 0) ∙ ap (λ (n : ℕ). get_or b n 0) (sym place) in
    let u : Unfinished (take p b) = subst Unfinished before
    (goes-on c.loop-place.self c.loop-place.invariant.holds c.loop-place.invariant.unended) in
    let reason : IsReason c.in-Err.reason (take p b ++ get_or c.args.piece.now i 0 ∷ []) =
    subst (λ (l : List ℕ). IsReason c.in-Err.reason (l ++ get_or c.args.piece.now i 0 ∷ [])) before
    c.in-Err.ensures.refused in
    let refused = refused-at b p c.in-Err.reason (get_or c.args.piece.now i 0)
    (omega (arith, place, c.loop-place-test.true, length-append t c.args.piece.now)) octet u reason in
    (refused.0, refused.1)
