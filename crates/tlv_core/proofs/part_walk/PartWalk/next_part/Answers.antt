use Rattle.std.proofs.Common.{subst, ◌∙◌}
use Rattle.std.specs.Prelude.{IfErr}
use Rattle.octet_core.specs.Grammar.{Refuses, whole}
use Rattle.tlv_core.specs.Forest.{IsForest}
use Rattle.tlv_core.specs.Reasons.{Kept, IsReason}
use Rattle.tlv_core.specs.Flat.{HasGiven}
use Rattle.tlv_core.proofs.part_walk.PartWalk.next_part.Goals as goal

pub returns-clause-refused : goal.returns-clause-refused
returns-clause-refused c parts h =
    let b = c.args.octets.now in
    subst (λ (k : Kept). HasGiven b k parts
    → IfErr c.next_part.result (Refuses whole (IsForest k.max) (IsReason k.max) b))
    (c.self.view_is ∙ c.in_default.ensures.none) (c.next_part.ensures.refused parts) h
