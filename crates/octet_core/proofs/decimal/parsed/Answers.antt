use Rattle.std.proofs.Common.{◌∙◌}
use Rattle.octet_core.proofs.Decimals.{is-text, parse-decimal}
use Rattle.octet_core.proofs.decimal.parsed.Goals as goal

pub returns-in-Ok : goal.returns-in-Ok
returns-in-Ok c = c.ok.ensures.value ∙ parse-decimal c.args.text.now c.in-Ok.text.now c.parse.result
    c.in-Ok.ensures.cases.0 c.requires c.parse.ensures.value.0

pub returns-in-Err : goal.returns-in-Err
returns-in-Err c = absurd (c.in-Err.ensures.cases.0 (is-text c.args.text.now c.requires))
