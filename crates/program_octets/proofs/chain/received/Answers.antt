use Rattle.program_octets.proofs.Chains.{received-whole, received-short, received-refused}
use Rattle.program_octets.proofs.chain.received.Goals as goal

pub returns-in-Ok-default-true-clause-found : goal.returns-in-Ok-default-true-clause-found
returns-in-Ok-default-true-clause-found c =
    received-whole c.args.ifs c.args.number c.in-Ok.receiver c.feed.new.self c.args.octets.now
    c.in-Ok-default-true.taken c.in-Ok-default-true.field-0-1 (rw c.get.ensures.value at c.in-Ok.ensures)
    c.in-Ok-default-true.ensures.fed c.in-Ok-default-true.ensures.kept c.in-Ok-default-true.field-0-1-test

pub returns-in-Ok-default-false-clause-refused : goal.returns-in-Ok-default-false-clause-refused
returns-in-Ok-default-false-clause-refused c =
    received-short c.args.ifs c.args.number c.in-Ok.receiver c.feed.new.self c.args.octets.now
    c.in-Ok-default-false.field-0-0 c.in-Ok-default-false.field-0-1 (rw c.get.ensures.value at c.in-Ok.ensures)
    c.in-Ok-default-false.ensures.fed c.in-Ok-default-false.ensures.kept c.in-Ok-default-false.field-0-1-test

pub returns-in-Err-clause-refused : goal.returns-in-Err-clause-refused
returns-in-Err-clause-refused c = received-refused c.args.ifs c.args.number c.in-Ok.receiver c.feed.new.self
    c.args.octets.now c.in-Err.stop (rw c.get.ensures.value at c.in-Ok.ensures) c.in-Err.ensures.fed
