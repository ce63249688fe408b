use Rattle.std.proofs.Common.{arith}
use Rattle.t1_core.proofs.Blank.{blank-put}
use Rattle.t1_core.proofs.lent.LentCard.joins.Goals as goal

pub returns-then-more-clause-blank : goal.returns-then-more-clause-blank
returns-then-more-clause-blank c = λ blank.
    blank-put c.opened-taken.result c.append-self.result c.opened-taken.new.command_buffer c.append-self.new.buffer
    (omega (arith, c.append-self.ensures.count))
    (omega (
      arith,
      c.append-self.ensures.count,
      c.append-self.ensures.room,
      c.opened-taken.ensures.taken,
      c.opened-taken.ensures.room,
      c.requires.fits,
      c.requires.fit.most_command,
    ))
    c.append-self.ensures.room c.append-self.ensures.rest (c.opened-taken.ensures.blank blank)

pub returns-else-more-clause-blank : goal.returns-else-more-clause-blank
returns-else-more-clause-blank c = λ blank.
    blank-put c.opened-taken.result c.append-self.result c.opened-taken.new.command_buffer c.append-self.new.buffer
    (omega (arith, c.append-self.ensures.count))
    (omega (
      arith,
      c.append-self.ensures.count,
      c.append-self.ensures.room,
      c.opened-taken.ensures.taken,
      c.opened-taken.ensures.room,
      c.requires.fits,
      c.requires.fit.most_command,
    ))
    c.append-self.ensures.room c.append-self.ensures.rest (c.opened-taken.ensures.blank blank)
