use Rattle.std.proofs.Common.{◌++◌, ◌-◌}
use Rattle.program_words.specs.Session.{numbers_from}
use Rattle.program_words.proofs.Numbers.{next-number}
use Rattle.program_words.proofs.session.with_numbers.Goals as goal

pub loop-number-preserved : goal.loop-number-preserved
loop-number-preserved c =
    next-number c.loop-number.numbers.items c.push.new.self.items
    (c.args.named ++ numbers_from c.args.first (c.args.end - c.args.first)) c.loop-number.number c.args.end
    c.loop-number-test.true c.in_ok-push.ensures.items c.loop-number.invariant
