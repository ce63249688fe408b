use Rattle.std.proofs.Common.{[]}
use Rattle.std.specs.Prelude.{None}
use Rattle.tlv_core.specs.Progress.{kept_of}
use Rattle.tlv_core.specs.Read.{grown_of}
use Rattle.tlv_core.proofs.Reading.{none_begun, none_read}
use Rattle.tlv_core.proofs.reader.ForestReader.new.Goals as goal

pub invariant_of-result : goal.invariant_of-result
invariant_of-result c = (
  [],
  none_begun c.args.max (kept_of c.new.result) (grown_of c.in_ok-new.field-0) None
      c.new.ensures c.in_ok-new.ensures,
)

pub returns-clause-nothing : goal.returns-clause-nothing
returns-clause-nothing c b = none_read c.args.max (kept_of c.new.result) (grown_of c.in_ok-new.field-0) b c.new.ensures
    c.in_ok-new.ensures
