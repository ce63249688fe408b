use Rattle.std.proofs.Common.{ℕ, ◌<◌, length, take, subst, sym, ◌∙◌, arith}
use Rattle.tlv_core.specs.Header.{header_octets}
use Rattle.tlv_core.proofs.Refusals.{need_header}
use Rattle.shortfall.proofs.Forests.{none-open}
use Rattle.shortfall.proofs.forest.open_rest.Goals as goal

pub returns-in-empty : goal.returns-in-empty
returns-in-empty c =
    let p = c.args.check.now in
    none-open p.count (take p.level p.ends) (header_octets p.header) p.value_left c.header_need.result
    (let none : length (take p.level p.ends) < 1 =
    subst (λ (n : ℕ). length (take n p.ends) < 1) c.from.ensures c.in-empty.len_below in omega arith)
    (need_header p.header c.requires.range.well ∙ sym c.header_need.ensures)
