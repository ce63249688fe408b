use Rattle.std.proofs.Common.{ℕ, sym, subst, ◌∙◌, arith}
use Rattle.std.proofs.lemmas.Bool.{false≢true}
use Rattle.std.proofs.lemmas.Result.{err_from_is_err_and}
use Rattle.octet_core.specs.Grammar.{Refuses, IsShort, whole}
use Rattle.tlv_core.specs.Forest.{IsForest}
use Rattle.tlv_core.specs.Reasons.{IsReason}
use Rattle.tlv_core.specs.Progress.{kept_of}
use Rattle.tlv_core.specs.Flat.{AreAllParts}
use Rattle.tlv_core.proofs.Walked.{given_all, given_short}
use Rattle.tlv_core.proofs.part_walk.next_part.Goals as goal

pub returns-in_err-part-clause-refused : goal.returns-in_err-part-clause-refused
returns-in_err-part-clause-refused c parts h =
    let l = c.loop-progress in
    let p = err_from_is_err_and c.from_residual.result c.from_residual.ensures.1 in
    rw (p.1, p.2) (subst (λ (max : ℕ). Refuses whole (IsForest max) (IsReason max) c.args.octets.now
    c.in_err-part.field-0.0) l.invariant.max (c.in_err-part.ensures.refused parts (l.invariant.given parts h)))

pub returns-then-is_idle-clause-all : goal.returns-then-is_idle-clause-all
returns-then-is_idle-clause-all c parts h =
    let b = c.args.octets.now in
    let l = c.loop-progress in
    subst (λ (max : ℕ). AreAllParts max b parts) l.invariant.max
    (given_all b (kept_of l.progress) parts (l.invariant.given parts h)
    (omega (arith, c.loop-progress-test.false, c.count.ensures)) (c.is_idle.ensures.0 c.if-is_idle.true))

pub returns-clause-refused : goal.returns-clause-refused
returns-clause-refused c parts h =
    let b = c.args.octets.now in
    let l = c.loop-progress in
    subst (λ (max : ℕ). IsShort whole (IsForest max) b c.count-2.result) l.invariant.max
    (subst (IsShort whole (IsForest l.progress.ends.max) b) (sym c.count-2.ensures)
    (given_short b (kept_of l.progress) parts (l.invariant.given parts h)
    (omega (arith, c.loop-progress-test.false, c.count.ensures))
    (λ idle. false≢true (sym c.if-is_idle.false ∙ c.is_idle.ensures.1 idle))))
