use Rattle.std.proofs.Common.{refl, sym, subst}
use Rattle.t1_core.specs.Terminal.{TerminalState}
use Rattle.t1_core.specs.Views.{terminal_held}
use Rattle.c_lent.specs.Lent.{IsAtFront}
use Rattle.c_lent.proofs.Lending.{held-by, answer-at-front}
use Rattle.c_lent.proofs.lent.lent_terminal_answer.Goals as goal

pub returns-in-Some-clause-answer : goal.returns-in-Some-clause-answer
returns-in-Some-clause-answer c = λ t is.
    let p = c.in-Some.end in
    subst (λ (s : TerminalState). IsAtFront s.answered c.args.answer.now c.at_front.result)
    (sym (held-by c.args.state.now c.args.command.now c.args.answer.now t p c.in-Some.ensures.some.0 is))
    (answer-at-front p.is_answered p.answer_len c.args.answer.now c.answer.result c.at_front.result
    c.in-Some.ensures.some.1.answer_held (c.answer.ensures c.args.command.now) c.at_front.ensures.some
    c.at_front.ensures.none)

pub returns-in-Some-clause-none : goal.returns-in-Some-clause-none
returns-in-Some-clause-none c = λ none.
    absurd (none (terminal_held c.in-Some.end c.args.command.now c.args.answer.now) (record {
      end = c.in-Some.end;
      spelled = c.in-Some.ensures.some.0;
      fit = c.in-Some.ensures.some.1;
      held = refl;
    }))
