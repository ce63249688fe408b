use Rattle.std.proofs.Common.{refl, []}
use Rattle.tlv_core.proofs.Fed.{nothing_taken}
use Rattle.tlv_core.specs.Progress.{kept_of}
use Rattle.tlv_core.proofs.check.ForestCheck.new.Goals as goal

pub returns-clause-nothing : goal.returns-clause-nothing
returns-clause-nothing c b =
    let law = nothing_taken c.args.max (kept_of c.new.result) c.new.ensures b in
    (λ h. law.0 h.taken, λ e. record { taken = law.1 e; none = refl })

pub invariant_of-result : goal.invariant_of-result
invariant_of-result c = ([], (nothing_taken c.args.max (kept_of c.new.result) c.new.ensures []).1 refl)
