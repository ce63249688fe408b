use Rattle.std.proofs.Common.{◌+◌, ◌-◌, arith}
use Rattle.tlv_core.specs.Header.{header_octets}
use Rattle.tlv_core.specs.OpenEnds.{ends_of}
use Rattle.tlv_core.proofs.Ends.{same_open, fewer-now}
use Rattle.tlv_core.proofs.progress.Progress.skip.Goals as goal

pub invariant_of-self : goal.invariant_of-self
invariant_of-self c =
    let s = c.args.self.now in
    let now = c.go.new.self in
    record {
      within = omega (arith, s.within, c.requires, c.go.ensures.max, c.go.ensures.count);
      well = s.well;
      shallow = λ h. omega (
        arith,
        s.shallow h,
        fewer-now (ends_of now) (ends_of s.ends) (s.ends.count + c.args.run) c.go.ensures.ends,
      );
    }

pub returns : goal.returns
returns c =
    let s = c.args.self.now in
    let now = c.go.new.self in
    same_open s.ends.max s.ends.count c.args.run (s.value_left - c.args.run) now.max now.count (header_octets s.header)
    (ends_of s.ends) (ends_of now) c.go.ensures.max c.go.ensures.count c.go.ensures.ends
