use Rattle.std.proofs.Common.{rules}
use Rattle.dumps.proofs.Sources.{turned-first}
use Rattle.dumps.proofs.source.source_octets.Goals as goal

pub loop-rest-preserved : goal.loop-rest-preserved
loop-rest-preserved c =
    let room = c.in-len1-up.len_at_least in
    turned-first c.loop-rest.octets.items c.push.new.octets.items c.loop-rest.now c.in_ok-next.next
    c.in_ok-next.octet c.loop-rest.rest.now _ room (search rules) c.in_ok-push.ensures c.loop-rest.invariant
