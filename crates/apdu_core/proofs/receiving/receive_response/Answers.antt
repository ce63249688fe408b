use Rattle.apdu_core.specs.Response.{IsResponse, IsReason}
use Rattle.apdu_core.proofs.Arriving.{arrives-only}
use Rattle.apdu_core.proofs.Unique.{one-response}
use Rattle.apdu_core.proofs.receiving.receive_response.Goals as goal

pub returns-clause-arrives : goal.returns-clause-arrives
returns-clause-arrives g c = λ v sent b more chained spelled held.
    arrives-only IsResponse IsReason one-response 65538 c.args.ifs c.args.number g.R.Source.remaining
    g.R.Source.failures c.args.reader.now c.read.new.reader v sent b more
    chained spelled held c.read.result c.read.ensures.received c.read.ensures.fault
