use Rattle.std.proofs.Common.{◌≡◌, ◌++◌, append_assoc, codes, refl, string_bytes}
use Rattle.program_octets.specs.ResponseTexts.{status_members}
use Rattle.program_octets.proofs.Pushes.{last-pushed}
use Rattle.program_octets.proofs.response.push_status.Goals as goal

pub returns : goal.returns
returns c =
    let whole : string_bytes c.push_str-3.new.self ++ codes "\"" ≡ string_bytes c.args.text.now
    ++ status_members c.args.sw1 c.args.sw2 =
    simp (
      c.in_ok-push_str-3.ensures.bytes,
      c.class_name.ensures,
      c.in_ok-push_str-2.ensures.bytes,
      c.in_ok-push_hex.ensures,
      c.in_ok-push_str.ensures.bytes,
      append_assoc,
    ) refl in
    last-pushed c.push_str-4.result _ _ _ _ whole c.push_str-4.ensures.bytes
