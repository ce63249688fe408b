use Rattle.std.proofs.Common.{◌∙◌, sym}
use Rattle.tlv_core.proofs.Leads.{come-led, led-come}
use Rattle.tlv_core.proofs.lent.LentCheck.fit.Goals as goal

pub returns-then-not-are_in_range-clause-no : goal.returns-then-not-are_in_range-clause-no
returns-then-not-are_in_range-clause-no c = λ fit.
    sym c.if-not-are_in_range.true ∙ c.are_in_range.ensures.no fit.range

pub returns-then-not-can_come-clause-no : goal.returns-then-not-can_come-clause-no
returns-then-not-can_come-clause-no c = λ fit.
    sym c.if-not-can_come.true ∙ c.can_come.ensures.no (led-come c.args.self.now fit.range fit.led)

pub returns-clause-yes : goal.returns-clause-yes
returns-clause-yes c = λ yes.
    let range = c.are_in_range.ensures.yes c.if-not-are_in_range.false in
    record {
      range = range;
      led = come-led c.args.self.now range (c.can_come.ensures.yes c.if-not-can_come.false);
      may = c.may_refuse.ensures.yes yes;
    }
