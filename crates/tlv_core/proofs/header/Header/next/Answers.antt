use Rattle.tlv_core.proofs.header.Header.next.Goals as goal

pub returns-in-First-clause-err : goal.returns-in-First-clause-err
returns-in-First-clause-err c = rw c.in-First.is c.after_first.ensures.err

pub returns-in-Second-clause-err : goal.returns-in-Second-clause-err
returns-in-Second-clause-err c = rw c.in-Second.is c.after_second.ensures.err

pub returns-in-Tagged-clause-err : goal.returns-in-Tagged-clause-err
returns-in-Tagged-clause-err c = rw c.in-Tagged.is c.after_tag.ensures.err
