use Rattle.std.proofs.Common.{Some, rules}
use Rattle.dumps.proofs.Reading.{blank-read, none-read, octet-read, read-shorter}
use Rattle.dumps.proofs.text.push_groups.Goals as goal

pub loop-octet-preserved-in-None : goal.loop-octet-preserved-in-None
loop-octet-preserved-in-None c = blank-read c.loop-octet.octets.items c.args.joins c.loop-octet.may_begin
    c.loop-octet.rest.now c.in-Some.after.now _ (search rules) c.loop-octet.invariant

pub loop-octet-preserved : goal.loop-octet-preserved
loop-octet-preserved c = octet-read c.loop-octet.octets.items c.push.new.self.items c.in-Some-octet.octet c.args.joins
    c.loop-octet.may_begin c.loop-octet.rest.now c.in-Some.after.now _ (search rules) (search rules)
    c.loop-octet.invariant

pub loop-octet-smaller : goal.loop-octet-smaller
loop-octet-smaller c = read-shorter c.args.joins c.loop-octet.may_begin c.loop-octet.rest.now c.in-Some.after.now
    (Some c.in-Some-octet.octet) (search rules)

pub returns : goal.returns
returns c = none-read c.loop-octet.octets.items c.args.joins c.loop-octet.may_begin c.loop-octet.rest.now _
    (search rules) c.loop-octet.invariant
