use Rattle.std.proofs.Common.{refl}
use Rattle.atr_core.specs.Partial.{taken_of}
use Rattle.atr_core.proofs.Feeding.{accepted-open, refused-open, short-open}
use Rattle.atr_core.proofs.decoding.AtrRoom.decode.Goals as goal

pub returns-in-Err : goal.returns-in-Err
returns-in-Err c = record {
  found = tt;
  refused = refused-open _ c.args.octets.now c.take_piece.new.self c.in-Err.refusal c.stop.result
      c.restart.ensures.now.1 c.stop.ensures c.in-Err.ensures;
}

pub returns-in-Some : goal.returns-in-Some
returns-in-Some c = record {
  found = accepted-open _ c.args.octets.now c.take_piece.new.self c.in-Ok.count c.in-Some.atr.now
      c.restart.ensures.now.1 (c.in-Some.ensures.value (taken_of c.take_piece.new.self) refl) c.in-Ok.ensures;
  refused = tt;
}

pub returns-in-None : goal.returns-in-None
returns-in-None c = record {
  found = tt;
  refused = short-open _ c.args.octets.now c.take_piece.new.self c.in-Ok.count c.restart.ensures.now.1
      (c.in-None.ensures.unended refl) c.in-Ok.ensures;
}
