use Rattle.std.proofs.Common.{◌+◌, ◌-◌, arith}
use Rattle.tlv_core.specs.OpenEnds.{ends_of}
use Rattle.tlv_core.specs.Short.{whole_of}
use Rattle.tlv_core.specs.Reasons.{room_of}
use Rattle.tlv_core.specs.Open.{rooms_to}
use Rattle.tlv_core.proofs.Ends.{from-room, from-less}
use Rattle.tlv_core.proofs.Shorts.{kept_short, taken_within}
use Rattle.tlv_core.proofs.open_ends.OpenEnds.pass.Goals as goal

pub enter-requires-clause-within : goal.enter-requires-clause-within
enter-requires-clause-within c = omega (arith, c.whole.ensures, c.taken.ensures, taken_within c.args.object)

pub returns : goal.returns
returns c =
    let s = c.args.self.now in
    let o = c.args.object in
    let now = c.enter.new.self in
    kept_short s.max s.count now.max now.count c.taken.result c.whole.result o (ends_of s) (ends_of now)
    (from-less (s.count + whole_of o) (s.count + room_of (s.max - s.count) (rooms_to s.count (ends_of s))) (ends_of s)
    (omega (arith, c.requires.fits)) (from-room s.max s.count (s.max - s.count) (ends_of s) s.ahead s.nested))
    c.enter.ensures.max c.enter.ensures.count c.taken.ensures c.whole.ensures c.enter.ensures.ends
