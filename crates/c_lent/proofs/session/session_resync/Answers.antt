use Rattle.std.proofs.Common.{[], ◌≡◌, ◌∙◌, length, sym, ap, refl, arith}
use Rattle.atr_core.specs.T1.{T1Values}
use Rattle.t1_core.specs.Terminal.{at_most, terminal_with}
use Rattle.t1_core.specs.Views.{terminal_held}
use Rattle.session_core.specs.declared.progress.Rules.{Rules}
use Rattle.session_core.specs.Setup.{t1_of, rules_of}
use Rattle.session_core.specs.Wire.{seen, fresh, ruled}
use Rattle.c_lent.proofs.Sessions.{resynched, same-rules, not-none}
use Rattle.c_lent.proofs.session.session_resync.Goals as goal

pub returns : goal.returns
returns c =
    record {
      room = λ lt. absurd (omega (arith, lt, c.if-out-lt-LONGEST_BLOCK.false));
      ok = λ le rules usable e.
          let values : c.in-Some.params ≡ t1_of c.args.setup.now = c.in-Some.ensures.1 in
          let same : c.in-Some-rules.rules ≡ rules =
          same-rules (rules_of c.args.setup.now (t1_of c.args.setup.now) 0) c.in-Some-rules.rules rules
          (sym (c.in-Some-rules.ensures ∙ ap (λ (v : T1Values). rules_of c.args.setup.now v 0) values)) e in
          record {
            t_after = terminal_held c.resynch-acted.new.end c.begin-end.new.command_buffer
                c.begin-end.new.answer_buffer;
            result = c.resynch-acted.result;
            end = record {
              end = c.resynch-acted.new.end;
              spelled = c.of-session.ensures.kept;
              fit = c.resynch-acted.ensures.fit;
              held = refl;
            };
            turn =
                resynched
                (terminal_held c.begin-end.result c.begin-end.new.command_buffer c.begin-end.new.answer_buffer) _
                c.begin.new.self.rules rules (seen c.begin.new.self.progress) c.args.now _ _ _ _ _ _ _
                (c.begin-end.ensures.state ∙ ap (λ (v : T1Values).
                terminal_with (at_most (length c.args.command.now) (length c.args.answer.now)) v.ifsc) values)
                (c.begin.ensures.rules ∙ same)
                (c.begin.ensures.progress ∙ ap (λ (r : Rules). fresh (ruled r)) same)
                (c.resynch-acted.ensures.turn [] c.begin.ensures.burst);
            next_is = c.of_terminal.ensures;
            most_time = refl;
            most_blocks = refl;
          };
      unusable = λ le no. absurd (no c.in-Some.ensures.0);
      invalid = λ le e.
          absurd (not-none (rules_of c.args.setup.now (t1_of c.args.setup.now) 0) c.in-Some-rules.rules
          (sym (c.in-Some-rules.ensures ∙ ap (λ (v : T1Values). rules_of c.args.setup.now v 0) c.in-Some.ensures.1)) e);
    }
