use Rattle.std.proofs.Common.{◌≡◌, ◌+◌, ◌-◌, ◌<◌, ℕ, take, refl, sym, nat_lt, arith}
use Rattle.std.specs.Prelude.{count_by}
use Rattle.std.proofs.lemmas.List.{length-take}
use Rattle.tlv_core.specs.declared.open_ends.OpenEnds.{OpenEnds}
use Rattle.tlv_core.specs.Open.{AreEnds, open_after, rooms_to}
use Rattle.tlv_core.specs.Reasons.{room_of}
use Rattle.tlv_core.specs.OpenEnds.{ends_of}
use Rattle.tlv_core.proofs.Ends.{ends-all, ends-now, nested-now, fewer-now, from-room}
use Rattle.tlv_core.proofs.Counting.{Counted, counted, kept_up_to}
use Rattle.tlv_core.proofs.open_ends.OpenEnds.go.Goals as goal

-- the octets to the end of the innermost open object, or to the limit
abbrev room : OpenEnds → ℕ
room s = room_of (s.max - s.count) (rooms_to s.count (ends_of s))

-- after fewer octets the same objects are open
open_yet : (s : OpenEnds) (taken : ℕ) → taken < room s → AreEnds s.max (s.count + taken) (ends_of s)
open_yet s taken lt i inside = (
  omega (arith, lt, from-room s.max s.count (s.max - s.count) (ends_of s) s.ahead s.nested i inside),
  (s.ahead i inside).1,
)

-- the places after so many octets more
counted_then : (s : OpenEnds) (taken k : ℕ) → k ≡ count_by (λ place. nat_lt (s.count + taken) place) s.places
    → Counted (s.count + taken) k s.places (ends_of s)
counted_then s taken k is =
    counted (s.count + taken) s.level k s.places (ends_of s) refl s.nested (λ i le. omega (arith, s.reached i le)) is

pub number_after-self-requires-clause-places : goal.number_after-self-requires-clause-places
number_after-self-requires-clause-places c =
    let s = c.args.self.now in
    let here = kept_up_to s.max s.count s.level s.places (omega (arith, s.levels)) s.ahead s.reached s.within in
    λ i. omega (arith, here i, s.limit)

pub returns-then-is_open_yet-clause-ends : goal.returns-then-is_open_yet-clause-ends
returns-then-is_open_yet-clause-ends c =
    let s = c.args.self.now in
    sym (ends-all s.max (s.count + c.args.taken) (ends_of s)
    (open_yet s c.args.taken (omega (arith, c.if-is_open_yet.true, c.room.ensures))))

pub invariant_of-self : goal.invariant_of-self
invariant_of-self c =
    let s = c.args.self.now in
    record {
      limit = s.limit;
      within = c.requires;
      levels = s.levels;
      ahead = open_yet s c.args.taken (omega (arith, c.if-is_open_yet.true, c.room.ensures));
      nested = s.nested;
      reached = λ i le. omega (arith, s.reached i le);
    }

pub invariant_of-self-2 : goal.invariant_of-self-2
invariant_of-self-2 c =
    let s = c.args.self.now in
    let k = c.number_after-self.result in
    let now = s.count + c.args.taken in
    let then = counted_then s c.args.taken k c.number_after-self.ensures in
    record {
      limit = s.limit;
      within = c.requires;
      levels = omega (
        arith,
        then.number,
        fewer-now (open_after now (ends_of s)) (ends_of s) now refl,
        length-take s.level s.places,
        s.levels,
      );
      ahead = ends-now s.max s.count c.args.taken (ends_of s) (take k s.places) s.ahead then.front;
      nested = nested-now now (ends_of s) (take k s.places) s.nested then.front;
      reached = then.reached;
    }

pub returns-clause-ends : goal.returns-clause-ends
returns-clause-ends c =
    (counted_then c.args.self.now c.args.taken c.number_after-self.result c.number_after-self.ensures).front
