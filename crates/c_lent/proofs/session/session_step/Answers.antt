use Rattle.std.proofs.Common.{take, refl, sym, ap, ◌∙◌, arith}
use Rattle.t1_core.specs.Views.{terminal_held}
use Rattle.session_core.specs.Wire.{ruled, seen}
use Rattle.session_core.specs.Lines.{stepped}
use Rattle.c_lent.specs.SessionNext.{acted}
use Rattle.c_lent.proofs.Sessions.{goes-alone}
use Rattle.c_lent.proofs.session.session_step.Goals as goal

pub returns-then-is_for_end : goal.returns-then-is_for_end
returns-then-is_for_end c =
    let fits = c.if-not-is_fitting.ensures.some refl in
    record {
      room = λ lt. absurd (omega (arith, lt, c.if-out-lt-LONGEST_BLOCK.false));
      none = λ le none. absurd (none (terminal_held fits.0 c.args.command.now c.args.answer.now) (record {
        end = fits.0;
        spelled = fits.1;
        fit = fits.2;
        held = refl;
      }));
      called = λ le t is burst h.
          let q = c.session_proceed.ensures t is
          (stepped c.args.event (ruled c.args.session.now.line.rules) (seen c.args.session.now.line.progress) burst
          c.args.octets.now c.args.now (take c.args.session.now.own c.args.out.now))
          c.args.session.now.line.rules (rw c.own_block.ensures at (c.happen-next.ensures.goes burst h)) in
          record {
            t_after = q.t_after;
            result = q.result;
            end = q.end;
            stepped_so = q.stepped_so;
            next_is = q.next_is;
            most_time = q.most_time;
            most_blocks = q.most_blocks;
          };
    }

pub returns-else-is_for_end : goal.returns-else-is_for_end
returns-else-is_for_end c =
    let fits = c.if-not-is_fitting.ensures.some refl in
    record {
      room = λ lt. absurd (omega (arith, lt, c.if-out-lt-LONGEST_BLOCK.false));
      none = λ le none. absurd (none (terminal_held fits.0 c.args.command.now c.args.answer.now) (record {
        end = fits.0;
        spelled = fits.1;
        fit = fits.2;
        held = refl;
      }));
      called = λ le t is burst h. record {
        t_after = t;
        result = _;
        end = is;
        stepped_so = goes-alone c.happen-next.result
            (stepped c.args.event (ruled c.args.session.now.line.rules) (seen c.args.session.now.line.progress) burst
            c.args.octets.now c.args.now (take c.args.session.now.own c.args.out.now))
            c.args.session.now.line.rules t c.args.now c.happen-next.new.self c.args.session.now.own c.args.out.now
            (sym c.if-is_for_end.ensures) (rw c.own_block.ensures at (c.happen-next.ensures.goes burst h));
        next_is = c.acts.ensures ∙ ap acted c.of.ensures;
        most_time = refl;
        most_blocks = refl;
      };
    }
