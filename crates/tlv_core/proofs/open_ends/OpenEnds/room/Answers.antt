use Rattle.std.proofs.Common.{◌≡◌, ◌-◌, ◌<◌, subst, take, length, ℕ, arith, suc}
use Rattle.std.specs.Prelude.{slice_index}
use Rattle.tlv_core.specs.Open.{rooms_to}
use Rattle.tlv_core.specs.Reasons.{room_of}
use Rattle.tlv_core.proofs.Ends.{room-at}
use Rattle.tlv_core.proofs.open_ends.OpenEnds.room.Goals as goal

pub returns : goal.returns
returns c =
    let s = c.args.self.now in
    let inside : s.level - 1 < length s.places = omega (arith, c.if-self-eq0.false, s.levels) in
    let level : suc (s.level - 1) ≡ s.level = omega (arith, c.if-self-eq0.false) in
    subst (λ (n : ℕ). slice_index s.places (s.level - 1) - s.count ≡ room_of (s.max - s.count)
    (rooms_to s.count (take n s.places))) level
    (room-at (s.max - s.count) s.count (s.level - 1) s.places inside)
