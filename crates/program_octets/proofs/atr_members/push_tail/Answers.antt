use Rattle.std.proofs.Common.{◌≡◌, ◌++◌, append_assoc, refl, string_bytes}
use Rattle.program_octets.specs.AtrTexts.{meaning_members, tail_members}
use Rattle.program_octets.proofs.Pushes.{last-added}
use Rattle.program_octets.proofs.atr_members.push_tail.Goals as goal

pub returns : goal.returns
returns c =
    let whole : string_bytes c.push_tck.new.text ++ meaning_members c.args.atr.now ≡ string_bytes c.args.text.now
    ++ tail_members c.args.atr.now =
    simp (
      c.in_ok-push_tck.ensures,
      c.tck.ensures,
      c.in_ok-push_str-2.ensures.bytes,
      c.in_ok-push_hex.ensures,
      c.historical.ensures.value,
      c.in_ok-push_str.ensures.bytes,
      append_assoc,
    ) refl in
    last-added c.push_meaning.result _ _ _ whole c.push_meaning.ensures
