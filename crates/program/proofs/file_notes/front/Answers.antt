use Rattle.std.proofs.Common.{arith, sym}
use Rattle.std.proofs.lemmas.List.{length-take, take_all}
use Rattle.program.proofs.file_notes.front.Goals as goal

pub slice_bounds-result-end : goal.slice_bounds-result-end
slice_bounds-result-end c = omega (arith, c.if-text-gt-SHOWN.true, length-take 80 c.args.text.now)

pub returns-else-text-gt-SHOWN : goal.returns-else-text-gt-SHOWN
returns-else-text-gt-SHOWN c = sym (take_all 80 c.args.text.now (omega (arith, c.if-text-gt-SHOWN.false)))
