use Rattle.t1_core.proofs.Blank.{blank-all}
use Rattle.t1_core.proofs.lent.LentCard.opened.Goals as goal

pub returns-then-taken-eq0-clause-blank : goal.returns-then-taken-eq0-clause-blank
returns-then-taken-eq0-clause-blank c = λ blank.
    blank-all c.args.self.now.command_len c.args.command_buffer.now c.overwrite_front.new.octets
    c.requires.held c.overwrite_front.ensures.octets c.overwrite_front.ensures.count blank
    c.taken_len-taken.result
