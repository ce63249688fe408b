use Rattle.std.proofs.Common.{◌+◌, ◌∷◌, length, ap, arith}
use Rattle.std.proofs.lemmas.List.{length-append}
use Rattle.tlv_core.specs.declared.header.Header.{Header}
use Rattle.tlv_core.specs.Form.{further}
use Rattle.tlv_core.specs.Header.{header_octets}
use Rattle.tlv_core.specs.Number.{high_first}
use Rattle.tlv_core.proofs.Numbers.{length-high_first}
use Rattle.tlv_core.proofs.header.Header.count.Goals as goal

pub returns-in-Sized : goal.returns-in-Sized
returns-in-Sized c =
    let s = c.in-Sized in
    let more = (128 + further s.form) ∷ high_first s.read s.number in
    omega (
      arith,
      ap length c.octets-in-Sized.ensures.value,
      c.from.ensures,
      length-append s.tag more,
      length-high_first s.read s.number,
      ap (λ (h : Header). length (header_octets h)) s.is,
    )
