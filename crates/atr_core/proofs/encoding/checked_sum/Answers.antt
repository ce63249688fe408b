use Rattle.std.proofs.Common.{◌≡◌, ◌∙◌, not, length, ap, bit_xor}
use Rattle.std.specs.List.{fold}
use Rattle.atr_core.specs.Atr.{AtrParts, announcing, goes_on, octets_of, td_octets}
use Rattle.atr_core.proofs.Built.{sum-built, goes_on-is}
use Rattle.atr_core.proofs.encoding.checked_sum.Goals as goal

pub returns : goal.returns
returns c =
    let a : AtrParts = c.args.atr.now in
    let g = goes_on-is a.indicated in
    let e : not c.is_empty.result ≡ goes_on a.indicated = cc in
    let told : c.announcing-t0.result ≡ announcing a.first (goes_on a.indicated) (length a.historical) = cc in
    sum-built a c.announcing-t0.result c.with_bytes.result c.with_indicated-sum.result c.with_octets.result told
    (c.with_bytes.ensures ∙ ap (λ f. fold bit_xor c.announcing-t0.result (octets_of f)) c.first-2.ensures)
    (c.with_indicated-sum.ensures ∙ ap (λ xs. fold bit_xor c.with_bytes.result (td_octets xs))
    c.indicated-2.ensures.value)
    (c.with_octets.ensures ∙ ap (fold bit_xor c.with_indicated-sum.result) c.historical-historical.ensures.value)
