use Rattle.std.proofs.Common.{◌≡◌, length, rules}
use Rattle.tlv_core.specs.Tag.{length_field}
use Rattle.c_lent.proofs.parts.put_part.Goals as goal

pub returns : goal.returns
returns c =
    let part = c.args.part.now in
    let field : c.octets.result ≡ length (length_field part.form part.len) = c.octets.ensures.field part.len in
    search rules
