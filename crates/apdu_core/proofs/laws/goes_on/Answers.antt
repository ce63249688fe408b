use Rattle.apdu_core.proofs.Reasons.{trailing-stuck, begins-unless, long-stuck, response-begins}
use Rattle.apdu_core.proofs.laws.goes_on.Goals as goal

pub returns : goal.returns
returns c = record {
  command_stops = trailing-stuck;
  command_begins = begins-unless;
  response_stops = long-stuck;
  response_begins = response-begins;
}
