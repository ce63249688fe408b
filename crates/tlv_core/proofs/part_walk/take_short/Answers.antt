use Rattle.std.proofs.Common.{◌≡◌, List, [], ◌∷◌, ◌++◌, ℕ, ◌+◌, ◌-◌, length, take, drop, sym, ap, subst, ◌∙◌, arith}
use Rattle.std.proofs.lemmas.List.{take_rest}
use Rattle.octet_core.specs.Octets.{AreOctets}
use Rattle.tlv_core.specs.Parts.{Placed}
use Rattle.tlv_core.specs.Reasons.{Kept}
use Rattle.tlv_core.specs.Progress.{kept_of}
use Rattle.tlv_core.specs.Short.{MayCome}
use Rattle.tlv_core.specs.Flat.{placed_of, HasGiven}
use Rattle.tlv_core.proofs.AtOnce.{added, given_at_once}
use Rattle.tlv_core.proofs.Walked.{same_placed}
use Rattle.tlv_core.proofs.part_walk.take_short.Goals as goal

pub returns-clause-some : goal.returns-clause-some
returns-clause-some c parts h =
    let b = c.args.octets.now in
    let k = kept_of c.args.progress.now in
    let o = c.in_ok-short.short in
    let octets : AreOctets b = λ i. omega (arith, c.type_inv.octets i) in
    let from = c.count-count.result in
    let first : take (length b - from) (drop from b) ≡ drop k.count b =
    take_rest b from ∙ ap (λ (n : ℕ). drop n b) c.count-count.ensures in
    let may : MayCome k (drop k.count b) o = subst (λ (l : List ℕ). MayCome k l o) first c.in_ok-short.ensures.some in
    let given : placed_of c.of-part.result ∷ [] ≡ added k o.header o.len o.tag o.form =
    ap (λ (p : Placed). p ∷ []) (c.of-part.ensures
    ∙ same_placed (c.level.result + 1) (1 + length k.rooms) (from + c.from.result) (k.count + o.header)
    c.object.result (record { tag = o.tag; form = o.form; len = o.len })
    (omega (arith, c.level.ensures)) (omega (arith, c.count-count.ensures, c.from.ensures)) c.object.ensures) in
    subst (λ (l : List Placed). HasGiven b (kept_of c.pass.new.self) (parts ++ l)) (sym given)
    (subst (λ (j : Kept). HasGiven b j (parts ++ added k o.header o.len o.tag o.form)) (sym c.pass.ensures.after)
    (given_at_once b k parts o octets may h))
