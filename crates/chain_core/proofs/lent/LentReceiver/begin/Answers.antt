use Rattle.std.proofs.Common.{refl, arith}
use Rattle.chain_core.proofs.Feeds.{taken-fresh}
use Rattle.chain_core.proofs.lent.LentReceiver.begin.Goals as goal

pub returns-clause-led : goal.returns-clause-led
returns-clause-led c = λ message room. record {
  least = c.requires.least;
  most = c.requires.most;
  limit = c.requires.limit;
  reserved = room;
  octets = λ i. omega arith;
  held = omega arith;
  idle = refl;
  brings = taken-fresh c.args.ifs c.args.number c.args.max;
}
