use Rattle.std.proofs.Common.{◌++◌, ◌∷◌, [], sym, subst}
use Rattle.std.proofs.lemmas.Result.{err_from_is_err_and}
use Rattle.atr_core.specs.Atr.{IsReason}
use Rattle.atr_core.specs.Partial.{taken_in}
use Rattle.atr_core.specs.declared.partial.Phase.{Phase}
use Rattle.atr_core.proofs.partial.Partial.take.Goals as goal

pub returns-in_err-opened-in-Start-clause-refused : goal.returns-in_err-opened-in-Start-clause-refused
returns-in_err-opened-in-Start-clause-refused c =
    let p = err_from_is_err_and c.from_residual.result c.from_residual.ensures.1 in
    rw (p.1, p.2) (subst (λ (s : Phase).
    IsReason c.in_err-opened-in-Start.field-0.0 (taken_in c.args.self.now.atr s ++ c.args.octet ∷ []))
    (sym c.in-Start.is)
    c.in_err-opened-in-Start.ensures.refused)

pub returns-in_err-take-in-Header-clause-refused : goal.returns-in_err-take-in-Header-clause-refused
returns-in_err-take-in-Header-clause-refused c =
    let p = err_from_is_err_and c.from_residual-in_err-take-in-Header.result
    c.from_residual-in_err-take-in-Header.ensures.1 in
    rw (p.1, p.2) (subst (λ (s : Phase). IsReason c.in_err-take-in-Header.field-0.0
    (taken_in c.args.self.now.atr s ++ c.args.octet ∷ []))
    (sym c.in-Header.is) c.in_err-take-in-Header.ensures.refused)

pub returns-in_err-take-in-Tail-clause-refused : goal.returns-in_err-take-in-Tail-clause-refused
returns-in_err-take-in-Tail-clause-refused c =
    let p = err_from_is_err_and c.from_residual-in_err-take-in-Tail.result c.from_residual-in_err-take-in-Tail.ensures.1
    in
    rw (p.1, p.2) (subst (λ (s : Phase). IsReason c.in_err-take-in-Tail.field-0.0
    (taken_in c.args.self.now.atr s ++ c.args.octet ∷ []))
    (sym c.in-Tail.is) c.in_err-take-in-Tail.ensures)
