use Rattle.std.proofs.Common.{refl, sym, subst, ap, arith, ◌∙◌, length}
use Rattle.std.specs.Prelude.{Option, unwrap_or}
use Rattle.block_core.specs.declared.pcb.Number.{Number}
use Rattle.chain_core.specs.Taking.{Taking}
use Rattle.chain_core.specs.Lent.{received_at}
use Rattle.c_lent.specs.LentReceiver.{BeginsAnew, ReceiverRestarted}
use Rattle.c_lent.proofs.Lending.{receiver-held-by}
use Rattle.c_lent.proofs.lent_receiver.lent_receiver_restart.Goals as goal

pub returns : goal.returns
returns c =
    let p = c.in-Some.receiver in
    let old = c.args.state.now in
    let message = c.args.message.now in
    let after = c.overwrite.new.octets in
    let spelled = c.in-Some.ensures.some.0 in
    let fit = c.in-Some.ensures.some.1 in
    subst (λ (o : Option Number). ReceiverRestarted old message o c.of.result after c.ok.result)
    (sym c.in-Some-number_of.is ∙ c.number_of.ensures)
    (record {
      none = λ none. absurd (none (received_at p message) (record {
        receiver = p;
        spelled = spelled;
        fit = fit;
        held = refl;
      }));
      unnumbered = λ wrong. search;
      anew = λ r is first same.
          subst (λ (s : Taking). BeginsAnew s first old c.of.result message after c.ok.result)
          (sym (receiver-held-by old message r p spelled is))
          (subst (λ (f : Number). BeginsAnew (received_at p message) f old c.of.result message after c.ok.result)
          (ap (λ (o : Option Number). unwrap_or o c.in-Some-number_of.number) same)
          (record {
            is = record {
              receiver = c.begin.result;
              spelled = c.of.ensures.kept;
              fit = c.begin.ensures.fit (length after) (omega (arith, c.overwrite.ensures.count, fit.reserved));
              held = sym (c.begin.ensures.fresh after);
            };
            wiped = c.overwrite.ensures.octets;
            verdict = c.ok.ensures;
          }));
    })
