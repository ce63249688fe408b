use Rattle.std.proofs.Common.{◌∙◌, sym}
use Rattle.traces.proofs.Blocks.{accepted-seen, refused-seen}
use Rattle.traces.proofs.seen.by_verdict.Goals as goal

pub returns-then-nad-eq0 : goal.returns-then-nad-eq0
returns-then-nad-eq0 c = accepted-seen c.args.octets.now c.in-Ok.block c.in-Ok.taken c.in-Ok.ensures.found
    c.if-taken-octets.true (sym c.nad.ensures ∙ c.if-nad-eq0.true)

pub returns-in-Err : goal.returns-in-Err
returns-in-Err c = refused-seen c.args.octets.now c.in-Err.field-0 c.in-Err.ensures.refused
