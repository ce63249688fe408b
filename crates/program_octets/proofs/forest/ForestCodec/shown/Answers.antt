use Rattle.std.proofs.Common.{length}
use Rattle.program_octets.specs.ForestTexts.{forest_codec}
use Rattle.program_octets.proofs.Placing.{parts-shown}
use Rattle.program_octets.proofs.Telling.{is-shown}
use Rattle.program_octets.proofs.forest.ForestCodec.shown.Goals as goal

pub returns-clause-found : goal.returns-clause-found
returns-clause-found c =
    let found = c.in_ok-forest.ensures.found in
    is-shown c.args.noted c.args.layout c.args.expected.kind forest_codec c.args.octets.now found.0
    (length c.args.octets.now) c.in_ok-of.field-0.taken _ found.1 c.in_ok-of.ensures.taken
    (parts-shown c.args.noted c.args.layout c.args.expected.kind found.0 (length c.args.octets.now)
    c.in_ok-forest.forest
    _ (c.in_ok-forest.ensures.values found.0 found.1.1) c.in_ok-of.ensures.text)
