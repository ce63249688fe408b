use Rattle.std.proofs.Common.{◌≡◌, ◌++◌, append_assoc, codes, refl, string_bytes}
use Rattle.program_octets.specs.ForestTexts.{part_object}
use Rattle.tlv_core.specs.Flat.{part_seen}
use Rattle.program_octets.proofs.Pushes.{last-pushed}
use Rattle.program_octets.proofs.forest.push_object.Goals as goal

pub returns : goal.returns
returns c =
    let whole : string_bytes c.push_value_member.new.text ++ codes "}" ≡ string_bytes c.args.text.now
    ++ part_object (part_seen c.args.part.now) =
    simp (
      c.in_ok-push_value_member.ensures,
      c.in_ok-push_header.ensures,
      c.in_ok-push_places.ensures,
      c.in_ok-push_str.ensures.bytes,
      append_assoc,
    ) refl in
    last-pushed c.push_str-2.result _ _ _ _ whole c.push_str-2.ensures.bytes
