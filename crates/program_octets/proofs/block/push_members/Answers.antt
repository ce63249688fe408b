use Rattle.std.proofs.Common.{◌≡◌, ◌++◌, append_assoc, codes, refl, string_bytes}
use Rattle.program_octets.specs.BlockTexts.{lrc_members}
use Rattle.program_octets.proofs.Pushes.{last-pushed}
use Rattle.program_octets.proofs.block.push_members.Goals as goal

pub returns : goal.returns
returns c =
    let whole : string_bytes c.push_octet-2.new.text ++ codes "\"" ≡ string_bytes c.args.text.now
    ++ lrc_members c.args.block.now c.args.lrc =
    simp (
      c.in_ok-push_octet-2.ensures,
      c.in_ok-push_str-4.ensures.bytes,
      c.in_ok-push_hex.ensures,
      c.inf.ensures.octets,
      c.in_ok-push_str-3.ensures.bytes,
      c.in_ok-push_object.ensures,
      c.pcb.ensures,
      c.in_ok-push_str-2.ensures.bytes,
      c.in_ok-push_octet.ensures,
      c.nad.ensures,
      c.in_ok-push_str.ensures.bytes,
      append_assoc,
    ) refl in
    last-pushed c.push_str-5.result _ _ _ _ whole c.push_str-5.ensures.bytes
