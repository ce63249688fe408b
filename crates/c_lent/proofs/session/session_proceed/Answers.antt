use Rattle.std.proofs.Common.{◌≡◌, Some, refl, sym, subst}
use Rattle.t1_core.specs.Terminal.{TerminalState}
use Rattle.t1_core.specs.Views.{terminal_held}
use Rattle.c_lent.specs.Kept.{terminal_of}
use Rattle.c_lent.specs.Lent.{lent}
use Rattle.c_lent.specs.Session.{Proceeds}
use Rattle.c_lent.proofs.Lending.{held-by}
use Rattle.c_lent.proofs.session.session_proceed.Goals as goal

pub returns : goal.returns
returns c = λ t is step rules g.
    let p = c.in-Some.end in
    let spells : terminal_of c.args.session.now.terminal ≡ Some p = sym c.in-Some.ensures.terminal in
    subst (λ (s : TerminalState). Proceeds s step rules c.args.now
    (lent c.args.session.now c.args.command.now c.args.answer.now)
    (lent (record {
      terminal = c.of-session.result;
      line = c.proceed-acted.new.line;
      most_time = c.args.session.now.most_time;
      most_blocks = c.args.session.now.most_blocks;
      own = c.proceed-acted.new.own;
    }) c.args.command.now c.proceed-acted.new.answer)
    c.args.out.now c.proceed-acted.new.out c.of_terminal.result)
    (sym (held-by c.args.session.now.terminal c.args.command.now c.args.answer.now t p spells is))
    (record {
      t_after = terminal_held c.proceed-acted.new.end c.args.command.now c.proceed-acted.new.answer;
      result = c.proceed-acted.result;
      end = record {
        end = c.proceed-acted.new.end;
        spelled = c.of-session.ensures.kept;
        fit = c.proceed-acted.ensures.fit;
        held = refl;
      };
      stepped_so = c.proceed-acted.ensures.step step rules g;
      next_is = c.of_terminal.ensures;
      most_time = refl;
      most_blocks = refl;
    })
