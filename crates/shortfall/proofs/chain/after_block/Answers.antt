use Rattle.std.proofs.Common.{◌≡◌, ℕ, subst}
use Rattle.std.specs.Prelude.{IfOk, IfErr}
use Rattle.shortfall.specs.Chain.{chain_least}
use Rattle.shortfall.proofs.Chains.{front-is}
use Rattle.shortfall.proofs.chain.after_block.Goals as goal

pub returns-in-len3-up-clause-same : goal.returns-in-len3-up-clause-same
returns-in-len3-up-clause-same c =
    subst (λ (n : ℕ). IfOk c.after_field.result (λ rest. chain_least rest.now ≡ n))
    (front-is c.args.octets.now c.from.result c.in-len3-up.len_at_least c.from.ensures) c.after_field.ensures.same

pub returns-in-len3-up-clause-least : goal.returns-in-len3-up-clause-least
returns-in-len3-up-clause-least c =
    subst (λ (n : ℕ). IfErr c.after_field.result (λ least. least ≡ n))
    (front-is c.args.octets.now c.from.result c.in-len3-up.len_at_least c.from.ensures) c.after_field.ensures.least
