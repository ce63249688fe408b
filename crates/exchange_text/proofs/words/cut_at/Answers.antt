use Rattle.std.proofs.Common.{◌∙◌, sym, ◌+◌, ◌==◌}
use Rattle.exchange_text.proofs.Cutting.{is-cut, all-of, none-cut}
use Rattle.exchange_text.proofs.words.cut_at.Goals as goal

pub returns-in-Some-clause-parts : goal.returns-in-Some-clause-parts
returns-in-Some-clause-parts c = rw (all-of (c.in-Some.place + 1) c.args.octets.now)
    (is-cut (λ octet. octet == c.args.mark) c.args.octets.now c.in-Some.place
    (sym c.place_of.ensures.place ∙ c.in-Some.is)).parts

pub returns-in-Some-clause-after : goal.returns-in-Some-clause-after
returns-in-Some-clause-after c = rw (all-of (c.in-Some.place + 1) c.args.octets.now)
    (is-cut (λ octet. octet == c.args.mark) c.args.octets.now c.in-Some.place
    (sym c.place_of.ensures.place ∙ c.in-Some.is)).after

pub returns-in-None-clause-parts : goal.returns-in-None-clause-parts
returns-in-None-clause-parts c = none-cut (λ octet. octet == c.args.mark) c.args.octets.now
    (sym c.place_of.ensures.place ∙ c.in-None.is)
