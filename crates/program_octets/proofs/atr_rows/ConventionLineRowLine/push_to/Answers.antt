use Rattle.std.proofs.Common.{◌≡◌, ◌++◌, append_assoc, codes, refl, string_bytes}
use Rattle.program_octets.specs.AtrTexts.{convention_text}
use Rattle.program_octets.proofs.Pushes.{last-pushed}
use Rattle.program_octets.proofs.atr_rows.ConventionLineRowLine.push_to.Goals as goal

pub returns : goal.returns
returns c =
    let whole : string_bytes c.push_str.new.self ++ c.convention_name.result.now
    ≡ string_bytes c.args.text.now ++ (codes "convention " ++ convention_text c.args.self.now.convention) =
    simp (c.in_ok-push_str.ensures.bytes, c.convention_name.ensures, append_assoc) refl in
    last-pushed c.push_str-2.result _ _ _ _ whole c.push_str-2.ensures.bytes
