use Rattle.std.proofs.Common.{[], ℕ, refl, ap, sym, subst, ◌∙◌, arith}
use Rattle.octet_core.specs.Grammar.{Begins, whole}
use Rattle.tlv_core.specs.Forest.{IsForest, largest}
use Rattle.tlv_core.specs.Reasons.{IsReason}
use Rattle.tlv_core.proofs.Taken.{taken_laws}
use Rattle.shortfall.specs.Forest.{open_rest}
use Rattle.shortfall.proofs.Forests.{refused-begins}
use Rattle.shortfall.proofs.forest.forest_least.Goals as goal

pub returns-in-Ok-clause-open : goal.returns-in-Ok-clause-open
returns-in-Ok-clause-open c = λ k max taken.
    let b = c.args.octets.now in
    let checked = c.in-Ok.ensures.taken [] ((c.begin-check.ensures.nothing []).1 refl) in
    c.open_rest.ensures
    ∙ ap open_rest ((taken_laws largest b (λ i. omega (arith, c.type_inv.octets i))).one _ k
    (c.feed.ensures.limit ∙ c.begin-check.ensures.limit ∙ sym max) checked.taken taken)

pub returns-in-Ok-clause-none : goal.returns-in-Ok-clause-none
returns-in-Ok-clause-none c = λ no.
    let checked = c.in-Ok.ensures.taken [] ((c.begin-check.ensures.nothing []).1 refl) in
    absurd (no (subst (λ (m : ℕ). Begins (IsForest m) c.args.octets.now)
    (c.feed.ensures.limit ∙ c.begin-check.ensures.limit) checked.taken.begun))

pub returns-in-Err-clause-open : goal.returns-in-Err-clause-open
returns-in-Err-clause-open c = λ k max taken.
    absurd (refused-begins whole (IsForest c.begin-check.result.max) (IsReason c.begin-check.result.max)
    c.args.octets.now c.in-Err.field-0
    (c.in-Err.ensures.refused [] ((c.begin-check.ensures.nothing []).1 refl))
    (subst (λ (m : ℕ). Begins (IsForest m) c.args.octets.now) (max ∙ sym c.begin-check.ensures.limit) taken.begun))
