use Rattle.std.proofs.Common.{[], arith}
use Rattle.tlv_core.proofs.TidyKept.{puts_twice}
use Rattle.tlv_core.proofs.tidy_form.put_tidy.Goals as goal

pub returns-then-count-out-clause-tidied : goal.returns-then-count-out-clause-tidied
returns-then-count-out-clause-tidied c =
    puts_twice c.args.max c.args.octets.now c.args.out.now c.put_objects-put.new.out [] c.put_objects.new.out
    c.in_ok-count.count c.put_objects-put.result c.in_ok-count.ensures.ok c.put_objects-put.ensures.ok
    c.put_objects-put.ensures.refused (omega (arith, c.if-count-out.true))
