use Rattle.program_octets.specs.AtrTexts.{atr_codec}
use Rattle.program_octets.proofs.Telling.{is-shown}
use Rattle.program_octets.proofs.atr.AtrCodec.shown.Goals as goal

pub returns-clause-found : goal.returns-clause-found
returns-clause-found c =
    is-shown c.args.noted c.args.layout c.args.expected.kind atr_codec c.args.octets.now c.in_ok-atr.atr
    c.in_ok-atr.taken
    c.in_ok-of.field-0.taken _ c.in_ok-atr.ensures.found c.in_ok-of.ensures.taken c.in_ok-of.ensures.text
