use Rattle.std.proofs.Common.{List, sym, subst, arith, append-nil}
use Rattle.std.specs.Prelude.{IfErr}
use Rattle.octet_core.specs.Octets.{AreOctets}
use Rattle.octet_core.specs.Grammar.{Refuses, whole}
use Rattle.tlv_core.specs.declared.progress.Progress.{Progress}
use Rattle.tlv_core.specs.Forest.{IsForest}
use Rattle.tlv_core.specs.Parts.{Placed}
use Rattle.tlv_core.specs.Reasons.{Kept, IsReason}
use Rattle.tlv_core.specs.Progress.{kept_of}
use Rattle.tlv_core.specs.Flat.{HasGiven}
use Rattle.tlv_core.proofs.Walked.{given_run}
use Rattle.tlv_core.proofs.part_walk.advance.Goals as goal

pub returns-then-left-gt0-clause-given : goal.returns-then-left-gt0-clause-given
returns-then-left-gt0-clause-given c parts h =
    let b = c.args.octets.now in
    let octets : AreOctets b = λ i. omega (arith, c.type_inv.octets i) in
    subst (HasGiven b (kept_of c.skip.new.self)) (sym (append-nil parts))
    (subst (λ (k : Kept). HasGiven b k parts) (sym c.skip.ensures)
    (given_run b (kept_of c.args.progress.now) parts c.min.result octets
    (omega (arith, c.min.ensures, c.value_left-left.ensures, c.count.ensures, c.requires))
    (omega (arith, c.min.ensures, c.value_left-left.ensures))
    (omega (arith, c.min.ensures, c.count.ensures)) h))

pub returns-clause-refused : goal.returns-clause-refused
returns-clause-refused c parts h =
    let b = c.args.octets.now in
    subst (λ (s : Progress). (given : List Placed) → HasGiven b (kept_of s) given
    → IfErr c.take_first.result (Refuses whole (IsForest s.ends.max) (IsReason s.ends.max) b))
    c.in_default.ensures.none c.take_first.ensures.refused parts h
