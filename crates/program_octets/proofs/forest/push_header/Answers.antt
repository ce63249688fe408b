use Rattle.std.proofs.Common.{◌≡◌, ◌++◌, append_assoc, codes, refl, string_bytes}
use Rattle.program_octets.specs.ForestTexts.{header_members}
use Rattle.tlv_core.specs.Flat.{part_seen}
use Rattle.program_octets.proofs.Pushes.{last-pushed}
use Rattle.program_octets.proofs.forest.push_header.Goals as goal

pub returns : goal.returns
returns c =
    let whole : string_bytes c.push_hex-2.new.text ++ codes "\"" ≡ string_bytes c.args.text.now
    ++ header_members (part_seen c.args.part.now) =
    simp (
      c.in_ok-push_hex-2.ensures,
      c.as_slice.ensures.value,
      c.length_field.ensures,
      c.in_ok-push_str-2.ensures.bytes,
      c.in_ok-push_hex.ensures,
      c.octets.ensures.value,
      c.in_ok-push_str.ensures.bytes,
      append_assoc,
    ) refl in
    last-pushed c.push_str-3.result _ _ _ _ whole c.push_str-3.ensures.bytes
