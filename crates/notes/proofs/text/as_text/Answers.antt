use Rattle.std.proofs.Common.{◌∙◌, sym}
use Rattle.notes.proofs.Ends.{text-utf8}
use Rattle.notes.proofs.text.as_text.Goals as goal

pub returns-in-Err : goal.returns-in-Err
returns-in-Err c =
    absurd (c.in-Err.ensures.cases.0 (text-utf8 c.args.octets.now (sym c.is_text.ensures ∙ c.if-not-is_text.false)))
