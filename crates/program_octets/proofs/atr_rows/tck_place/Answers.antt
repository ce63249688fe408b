use Rattle.std.proofs.Common.{◌∙◌, ◌-◌, ℕ, ap}
use Rattle.atr_core.proofs.Partials.{byte-count}
use Rattle.program_octets.proofs.Placing.{tck-size}
use Rattle.program_octets.proofs.atr_rows.tck_place.Goals as goal

pub returns : goal.returns
returns c =
    c.saturating_sub.ensures ∙ ap (λ (k : ℕ). c.args.taken - k) (c.from.ensures ∙ byte-count c.is_some.result
    ∙ tck-size c.args.atr.now c.tck.result c.is_some.result c.tck.ensures c.is_some.ensures)
