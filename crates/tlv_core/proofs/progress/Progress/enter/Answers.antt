use Rattle.std.proofs.Common.{◌≤◌, ◌+◌, ◌-◌, ℕ, arith}
use Rattle.tlv_core.specs.declared.progress.Progress.{Progress}
use Rattle.tlv_core.specs.Header.{header_octets}
use Rattle.tlv_core.specs.Reasons.{room_of}
use Rattle.tlv_core.specs.Open.{rooms_to}
use Rattle.tlv_core.specs.OpenEnds.{ends_of}
use Rattle.tlv_core.specs.Tag.{constructed_bit}
use Rattle.tlv_core.proofs.Ends.{room-within, from-less, from-room}
use Rattle.tlv_core.proofs.Counting.{same_entered}
use Rattle.tlv_core.proofs.progress.Progress.enter.Goals as goal

-- the object ends within the limit
within : (s : Progress) (len : ℕ) → len ≤ room_of (s.ends.max - s.ends.count) (rooms_to s.ends.count (ends_of s.ends))
    → s.ends.count + len ≤ s.ends.max
within s len fits =
    let e = s.ends in omega (arith, fits, e.within, room-within e.max e.count (ends_of e) e.ahead e.within)

pub invariant_of-self-else-is_constructed : goal.invariant_of-self-else-is_constructed
invariant_of-self-else-is_constructed c =
    let s = c.args.self.now in
    record {
      within = within s c.args.object.len c.requires.fits;
      well = s.well;
      shallow = λ h. absurd (h c.requires.whole);
    }

pub invariant_of-self : goal.invariant_of-self
invariant_of-self c =
    let s = c.args.self.now in
    record {
      within = omega (arith, s.within, c.enter.ensures.max, c.enter.ensures.count);
      well = s.well;
      shallow = λ h. absurd (h c.requires.whole);
    }

pub returns-then-is_constructed : goal.returns-then-is_constructed
returns-then-is_constructed c =
    let s = c.args.self.now in
    let e = s.ends in
    let o = c.args.object in
    let now = c.enter.new.self in
    same_entered e.max e.count s.value_left now.max now.count o.len (constructed_bit o.tag) (header_octets s.header)
    (ends_of e) (ends_of now) c.enter.ensures.max c.enter.ensures.count c.enter.ensures.ends e.ahead
    (from-less (e.count + o.len) (e.count + room_of (e.max - e.count) (rooms_to e.count (ends_of e))) (ends_of e)
    (omega (arith, c.requires.fits)) (from-room e.max e.count (e.max - e.count) (ends_of e) e.ahead e.nested))
    (omega (arith, c.if-len-eq0.false)) (c.is_constructed.ensures.0 c.if-is_constructed.true)
