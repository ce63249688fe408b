use Rattle.std.proofs.Common.{◌-◌, ◌≡◌, ◌∙◌, length}
use denote.Enum.Bare.{true_same}
use Rattle.tlv_core.specs.contracts.reason.TlvReason.{the_type}
use Rattle.octet_core.proofs.Firsts.{first_holds, first_once}
use Rattle.tlv_core.specs.Reasons.{Kept, room_of, tlv_reasons}
use Rattle.tlv_core.specs.Steps.{IsWrongAfter}
use Rattle.tlv_core.specs.Progress.{kept_of}
use Rattle.tlv_core.proofs.Leads.{step-right}
use Rattle.tlv_core.proofs.progress.Progress.refuses.Goals as goal

pub returns-in-Ok-clause-no : goal.returns-in-Ok-clause-no
returns-in-Ok-clause-no c = λ first.
    let s = c.args.self.now in
    let k : Kept = kept_of s in
    let step = c.in-Ok.ensures.ok in
    absurd (step-right s.header c.args.octet c.in-Ok._next (length k.rooms) (room_of (k.max - k.count) k.rooms)
    c.args.reason s.well step.follows step.shallow step.room
    (first_holds tlv_reasons (IsWrongAfter k c.args.octet) c.args.reason first))

pub returns-in-Err-clause-no : goal.returns-in-Err-clause-no
returns-in-Err-clause-no c = λ first.
    let is : c.in-Err.found ≡ c.args.reason =
    first_once tlv_reasons (IsWrongAfter (kept_of c.args.self.now) c.args.octet) c.in-Err.found c.args.reason
    c.in-Err.ensures.err first in
    c.eq.ensures ∙ true_same the_type c.in-Err.found c.args.reason is
