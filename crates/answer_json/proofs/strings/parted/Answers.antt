use Rattle.std.proofs.Common.{◌∙◌, sym, ◌+◌, ◌==◌, ap}
use Rattle.answer_json.specs.Strings.{cut_at}
use Rattle.answer_json.proofs.Cutting.{is-cut, all-of, none-cut}
use Rattle.answer_json.proofs.strings.parted.Goals as goal

pub returns-in-Some-clause-parted : goal.returns-in-Some-clause-parted
returns-in-Some-clause-parted c = rw (all-of (c.in-Some.place + 1) c.args.octets.now)
    (ap (cut_at c.args.octets.now) (sym c.in-Some.is ∙ c.place_of.ensures.place))

pub returns-in-Some-clause-split : goal.returns-in-Some-clause-split
returns-in-Some-clause-split c = rw (all-of (c.in-Some.place + 1) c.args.octets.now)
    (is-cut (λ x. x == c.args.mark) c.args.octets.now c.in-Some.place (sym c.place_of.ensures.place ∙ c.in-Some.is))

pub returns-in-None-clause-parted : goal.returns-in-None-clause-parted
returns-in-None-clause-parted c = ap (cut_at c.args.octets.now) (sym c.in-None.is ∙ c.place_of.ensures.place)

pub returns-in-None-clause-split : goal.returns-in-None-clause-split
returns-in-None-clause-split c = none-cut (λ x. x == c.args.mark) c.args.octets.now
    (sym c.place_of.ensures.place ∙ c.in-None.is)
