use Rattle.std.proofs.Common.{◌≡◌, ◌++◌, append_assoc, refl, string_bytes}
use Rattle.program_octets.specs.ResponseTexts.{response_members, status_members}
use Rattle.program_octets.proofs.Pushes.{last-added}
use Rattle.program_octets.proofs.response.push_members.Goals as goal

pub returns : goal.returns
returns c =
    let whole : string_bytes c.push_str-2.new.self
    ++ status_members c.sw1.result c.sw2.result ≡ string_bytes c.args.text.now
    ++ response_members c.args.response.now =
    simp (
      c.sw2.ensures,
      c.sw1.ensures,
      c.in_ok-push_str-2.ensures.bytes,
      c.in_ok-push_hex.ensures,
      c.part.ensures,
      c.in_ok-push_str.ensures.bytes,
      append_assoc,
    ) refl in
    last-added c.push_status.result _ _ _ whole c.push_status.ensures
