use Rattle.std.proofs.Common.{◌≡◌, ◌∙◌, ℕ, List, None, arith, ap, subst}
use Rattle.chain_core.specs.Taking.{Taking, HasTaken}
use Rattle.chain_core.specs.Receiving.{end_answer}
use Rattle.chain_core.proofs.Feeds.{ended-finished, says}
use Rattle.chain_core.proofs.receiver.Receiver.finish.Goals as goal

-- what it answers
answered : (c : goal.After-finish) → c.finish.result ≡ end_answer c.args.self.now
answered c =
    c.finish.ensures.answer c.self.inside.message.octets (omega (arith, c.self.invariant.stored.after))
    ∙ ap end_answer c.self.view_is

pub finish-requires : goal.finish-requires
finish-requires c = (_, c.self.invariant.stored.fit)

pub returns-clause-finished : goal.returns-clause-finished
returns-clause-finished c =
    ended-finished c.args.self.now c.finish.result (answered c)
    (subst (λ (r : Taking). r.refusal ≡ None → (t : List ℕ) × HasTaken r t) c.self.view_is c.self.invariant.taken)

pub returns-clause-done : goal.returns-clause-done
returns-clause-done c = (says c.args.self.now c.finish.result (answered c)).done

pub returns-clause-waits : goal.returns-clause-waits
returns-clause-waits c = (says c.args.self.now c.finish.result (answered c)).waits
