use Rattle.std.proofs.Common.{◌≡◌, ◌++◌, append_assoc, codes, refl, string_bytes}
use Rattle.program_octets.specs.CommandTexts.{command_members, le_or}
use Rattle.program_octets.proofs.Pushes.{last-added}
use Rattle.program_octets.proofs.command.push_members.Goals as goal

pub returns : goal.returns
returns c =
    let whole : string_bytes c.push_str-4.new.self ++ le_or (codes "null") c.le.result ≡ string_bytes c.args.text.now
    ++ command_members c.args.command.now =
    simp (
      c.le.ensures,
      c.in_ok-push_str-4.ensures.bytes,
      c.in_ok-push_hex-2.ensures,
      c.part.ensures,
      c.in_ok-push_str-3.ensures.bytes,
      c.in_ok-push_hex.ensures,
      c.header.ensures,
      c.in_ok-push_str-2.ensures.bytes,
      c.in_ok-push_str.ensures.bytes,
      c.shape_members.ensures,
      c.shape.ensures,
      append_assoc,
    ) refl in
    last-added c.push_le.result _ _ _ whole c.push_le.ensures
