use Rattle.std.proofs.Common.{ℕ, List, take, drop, get_or, length, false, ◌≤◌, ◌-◌, ◌+◌, ◌%◌, refl, arith, ap, ◌∙◌, sym}
use Rattle.std.proofs.lemmas.Option.{IfSome_then}
use Rattle.std.proofs.lemmas.List.{drop_more, drop-drop, length-drop}
use Rattle.atr_core.specs.Whole.{HasHead}
use Rattle.atr_core.proofs.OnePass.{all-skipped, first-and-rest, whole-passed}
use Rattle.atr_core.proofs.length.whole_len.Goals as goal

pub returns : goal.returns
returns c =
    let octets : List ℕ = c.args.octets.now in
    let from : List ℕ = take (length octets - 1) (drop 1 octets) in
    let place : ℕ = c.in_ok-needed.place in
    let t0 : ℕ = get_or from 0 0 in
    let split = c.in_ok-checked.ensures.cases in
    let few : place ≤ length from = omega (arith, split.0, c.from.ensures) in
    let head : HasHead t0 (drop 1 from) c.in_ok-needed.needed false (drop place from) =
    c.in_ok-needed.ensures.passed few in
    IfSome_then c.ended_after.result c.ended_after.ensures
    (λ count ended. whole-passed c.in-Ok.field-0 octets from (drop 1 from) head.tds (drop place from)
    c.in_ok-checked.tck.now (get_or octets 0 0) t0 head.td c.in_ok-needed.needed count
    (λ i. omega (arith, c.type_inv.octets i)) (first-and-rest octets (omega arith))
    (drop_more from 0 0 c.in-len1-up-from.len_at_least) c.in-Ok.ensures.is
    head.first (all-skipped head.td head.tds c.in_ok-needed.needed false (drop place from) head.others refl)
    (omega (arith, split.0, c.from.ensures, length-drop place from))
    (split.2 ∙ ap (λ (k : ℕ). drop (place + k) from) c.from.ensures ∙ sym (drop-drop (t0 % 16) place from)) ended)
