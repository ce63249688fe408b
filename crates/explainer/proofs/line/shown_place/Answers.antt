use Rattle.std.proofs.Common.{ap, arith, length}
use Rattle.std.proofs.lemmas.Bool.Decides.{nat_tests}
use Rattle.std.proofs.lemmas.Str.Ascii.{trim_ascii_end_is}
use Rattle.explainer.proofs.line.shown_place.Goals as goal

pub returns-else-place-text : goal.returns-else-place-text
returns-else-place-text c =
    let end = ap length
    (trim_ascii_end_is c.args.text.now c.trim_ascii_end.result.now c.trim_ascii_end.ensures.value) in
    grind (arith, nat_tests, end)
