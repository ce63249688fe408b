use Rattle.std.proofs.Common.{◌≡◌, ◌-◌, ◌+◌, ◌*◌, ◌^◌, ℕ, ap, sym, subst, ◌∙◌, arith}
use Rattle.tlv_core.specs.Form.{further}
use Rattle.tlv_core.specs.Header.{IsWell, header_need}
use Rattle.tlv_core.proofs.Octet.{number_fits}
use Rattle.shortfall.proofs.Forests.{field-octets}
use Rattle.shortfall.proofs.forest.header_need.Goals as goal

pub overflow_sub-octets-in-Sized : goal.overflow_sub-octets-in-Sized
overflow_sub-octets-in-Sized c =
    let well = subst IsWell c.in-Sized.is c.requires in
    omega (arith, c.octets.ensures.field 0, field-octets c.in-Sized.form, c.from.ensures, well.1)

pub least_length-requires-clause-few : goal.least_length-requires-clause-few
least_length-requires-clause-few c = omega (arith, c.octets.ensures.most)

pub least_length-requires-clause-fits : goal.least_length-requires-clause-fits
least_length-requires-clause-fits c =
    let well = subst IsWell c.in-Sized.is c.requires in
    number_fits c.in-Sized.read (c.octets.result - 1 - c.from.result) c.in-Sized.number
    (omega (
      arith,
      c.octets.ensures.field 0,
      field-octets c.in-Sized.form,
      c.octets.ensures.most,
      c.from.ensures,
      well.1,
    ))
    well.2

pub returns-in-Sized : goal.returns-in-Sized
returns-in-Sized c =
    let left : c.octets.result - 1 - c.from.result ≡ further c.in-Sized.form - c.in-Sized.read =
    omega (arith, c.octets.ensures.field 0, field-octets c.in-Sized.form, c.from.ensures) in
    c.least_length.ensures ∙ ap (λ (k : ℕ). k + c.in-Sized.number * 256 ^ k) left
    ∙ ap header_need (sym c.in-Sized.is)
