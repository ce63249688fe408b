use Rattle.std.proofs.Common.{◌+◌, ◌<◌, arith}
use Rattle.tlv_core.specs.Form.{further}
use Rattle.tlv_core.proofs.Forms.{last_form}
use Rattle.tlv_core.proofs.Octet.{number_small, number_next, field_next, field_last}
use Rattle.tlv_core.proofs.header.after_part.Goals as goal

pub overflow_mul-number : goal.overflow_mul-number
overflow_mul-number c = omega (
  arith,
  number_small c.args.read c.args.number
      (omega (arith, c.requires.1, last_form c.args.form)) c.requires.2,
)

pub overflow_add-number : goal.overflow_add-number
overflow_add-number c = omega (
  arith,
  number_small c.args.read c.args.number
      (omega (arith, c.requires.1, last_form c.args.form)) c.requires.2,
  c.from.ensures,
)

pub returns-then-read-further : goal.returns-then-read-further
returns-then-read-further c =
    let last = field_last c.args.tag c.args.form c.args.read c.args.number c.args.octet
    (omega (arith, c.further.ensures.value)) c.requires.2 (omega arith) in
    rw c.from.ensures (c.requires.0, last.0, last.1)

pub returns-else-read-further : goal.returns-else-read-further
returns-else-read-further c =
    let more : c.args.read + 1 < further c.args.form = omega (arith, c.further.ensures.value, c.requires.1) in
    rw c.from.ensures (
      (
        c.requires.0,
        more,
        number_next c.args.read c.args.number c.args.octet c.requires.2 (omega arith),
      ),
      field_next c.args.tag c.args.form c.args.read c.args.number c.args.octet c.requires.2 (omega arith),
    )
