use Rattle.std.proofs.Common.{◌≡◌, ◌≤◌, ◌∙◌, ℕ, List, length, Option, IfSome, sym, subst}
use Rattle.block_core.specs.declared.pcb.Number.{Number}
use Rattle.chain_core.specs.Chain.{longest_message}
use Rattle.chain_core.specs.Taking.{nothing_taken}
use Rattle.c_lent.specs.Verdict.{ok_at}
use Rattle.c_lent.specs.KeptReceiver.{IsReceiver}
use Rattle.c_lent.proofs.lent_receiver.lent_receiver_begin.Goals as goal

pub returns-clause-ok : goal.returns-clause-ok
returns-clause-ok c = λ _.
    subst (λ (o : Option Number). IfSome o
    (λ number. c.args.max ≤ longest_message → (c.ok.result ≡ ok_at 0)
    × ((message : List ℕ) → c.args.max ≤ length message
    → IsReceiver c.of.result message (nothing_taken c.args.ifs number c.args.max))))
    (sym c.in-Some.is ∙ c.number_of.ensures)
    (λ few. (
      c.ok.ensures,
      λ message room. record {
        receiver = c.begin.result;
        spelled = c.of.ensures.kept;
        fit = c.begin.ensures.fit (length message) room;
        held = sym (c.begin.ensures.fresh message);
      },
    ))
