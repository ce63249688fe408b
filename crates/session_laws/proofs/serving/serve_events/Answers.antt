use Rattle.std.proofs.Common.{◌≡◌, rules, arith, [], refl, sym}
use Rattle.std.proofs.lemmas.Result.{err_from_is_err_and}
use Rattle.t1_core.specs.CardViews.{card_held}
use Rattle.session_laws.specs.Serving.{placed, all_made, ended, no_more}
use Rattle.session_laws.proofs.Services.{ran-at, ran-acts}
use Rattle.session_laws.proofs.Served.{begun-ran, line-ran, host-ran, step-of, owes-command, none-counted, line-counted, host-counted, made-so-far, silent-of, line-stopped, host-stopped}
use Rattle.session_laws.proofs.serving.serve_events.Goals as goal

pub loop-left-init : goal.loop-left-init
unfolding begun-ran
loop-left-init g c = (
  rw c.serve-action.ensures.card c.requires.fit,
  search rules,
  c.requires.room,
  search rules,
  (
    [],
    begun-ran _ (g.D.TimedDevice.heard c.args.device.now) (g.H.AskingHost.served c.args.host.now) _ _ _ record {
      burst = c.requires.burst.0;
      heard = c.requires.burst.1;
      card_is = rw c.serve-action.ensures.card refl;
      begun = c.serve-action.ensures.line _ c.requires.burst.1;
    },
    none-counted _,
  ),
)

pub host_turn-requires-clause-owes : goal.host_turn-requires-clause-owes
host_turn-requires-clause-owes g c = owes-command _ _ _ _ c.in-Asked.field-0
    (ran-at _ _ _ _ _ _ _ _ _ c.loop-left.invariant.4.1) c.in-Asked.is

pub returns-in_err-action-clause-refused : goal.returns-in_err-action-clause-refused
returns-in_err-action-clause-refused g c =
    let at = ran-at _ _ _ _ _ _ _ _ _ c.loop-left.invariant.4.1 in
    let called = c.in_err-action.ensures.called in
    let p = err_from_is_err_and c.from_residual.result c.from_residual.ensures.1 in
    rw (p.1, p.2) (host-stopped _ (g.D.TimedDevice.heard c.args.device.now) (g.D.TimedDevice.heard c.loop-left.device)
    (g.H.AskingHost.served c.args.host.now) (g.H.AskingHost.served c.loop-left.host)
    (g.H.AskingHost.served c.host_turn.new.host) _ _ _ _ _
    _ called.0 called.1 _ _ _ _ _ c.loop-left.invariant.4.1 (omega (arith, c.loop-left.invariant.4.2)) called.2
    (called.3 at.burst.0 at.burst.1))

pub loop-left-preserved-in-Asked : goal.loop-left-preserved-in-Asked
unfolding host-ran
loop-left-preserved-in-Asked g c =
    let at = ran-at _ _ _ _ _ _ _ _ _ c.loop-left.invariant.4.1 in
    let called = c.in_ok-action.ensures.called in (
      c.host_turn.ensures.fit,
      search rules,
      c.loop-left.invariant.2,
      search rules,
      (
        _,
        host-ran _ (g.D.TimedDevice.heard c.args.device.now) (g.D.TimedDevice.heard c.loop-left.device)
            (g.H.AskingHost.served c.args.host.now) (g.H.AskingHost.served c.loop-left.host)
            (g.H.AskingHost.served c.host_turn.new.host)
            _ _ _ _ _ called.0 called.1 _ c.loop-left.invariant.4.1 called.2 record {
              count = c.in-Asked.field-0;
              asked_for = c.in-Asked.is;
              owes = owes-command _ _ _ _ c.in-Asked.field-0 at c.in-Asked.is;
              burst = at.burst.0;
              heard = at.burst.1;
              granted_is = c.host_turn.ensures.host.0;
              called = called.3 at.burst.0 at.burst.1;
            },
        host-counted c.loop-left.invariant.4.1.sounds c.loop-left.invariant.4.1.acts _ _ _
            (omega (arith, c.loop-left.invariant.4.2)),
      ),
    )

pub returns-in_err-action-2 : goal.returns-in_err-action-2
returns-in_err-action-2 g c =
    let at = ran-at _ _ _ _ _ _ _ _ _ c.loop-left.invariant.4.1 in
    let (sound, adds, asked_for, event, octets) = c.done-event.ensures.called in
    let short : c.loop-left.session.takes_short ≡ c.args.session.now.takes_short = c.loop-left.invariant.3 in
    let before = placed (card_held c.loop-left.session.card c.loop-left.command c.loop-left.reply)
    c.loop-left.session.line
    c.loop-left.session.granted c.loop-left.session.own c.loop-left.out c.loop-left.action in
    let after = card_held c.step.new.self.card c.step.new.command c.step.new.reply in
    let p = err_from_is_err_and c.from_residual-in_err-action-2.result c.from_residual-in_err-action-2.ensures.1 in
    rw (p.1, p.2) record {
      fit = c.step.ensures.fit;
      again = tt;
      short = search rules;
      run = tt;
      refused = line-stopped _ (g.D.TimedDevice.heard c.args.device.now) (g.D.TimedDevice.heard c.loop-left.device)
          (g.D.TimedDevice.heard c.done-event.new.device) (g.H.AskingHost.served c.args.host.now)
          (g.H.AskingHost.served c.loop-left.host) _ _ _ _ _ before sound at.burst.0 c.step.new.self.granted
          c.step.new.self.own
          c.step.new.out
          after c.step.new.self.line c.loop-left.invariant.4.1 (omega (arith, c.loop-left.invariant.4.2)) adds asked_for
          at.burst.1
          (step-of before sound _ _ at.burst.0 after c.step.new.self.line c.step.new.self.granted c.step.new.self.own
          c.step.new.out _ _ _
          event octets short (c.in_err-action-2.ensures.step at.burst.0 at.burst.1));
    }

pub loop-left-preserved : goal.loop-left-preserved
unfolding line-ran
loop-left-preserved g c =
    let at = ran-at _ _ _ _ _ _ _ _ _ c.loop-left.invariant.4.1 in
    let (sound, adds, asked_for, event, octets) = c.done-event.ensures.called in
    let short : c.loop-left.session.takes_short ≡ c.args.session.now.takes_short = c.loop-left.invariant.3 in
    let before = placed (card_held c.loop-left.session.card c.loop-left.command c.loop-left.reply)
    c.loop-left.session.line
    c.loop-left.session.granted c.loop-left.session.own c.loop-left.out c.loop-left.action in
    let after = card_held c.step.new.self.card c.step.new.command c.step.new.reply in (
      c.step.ensures.fit,
      search rules,
      search rules,
      search rules,
      (
        _,
        line-ran _ (g.D.TimedDevice.heard c.args.device.now) (g.D.TimedDevice.heard c.loop-left.device)
            (g.D.TimedDevice.heard c.done-event.new.device) (g.H.AskingHost.served c.args.host.now)
            (g.H.AskingHost.served c.loop-left.host) _ _ _ before sound
            (placed after c.step.new.self.line c.step.new.self.granted c.step.new.self.own c.step.new.out
            c.in_ok-action-2.action)
            c.loop-left.invariant.4.1 adds record {
              asked_for = asked_for;
              burst = at.burst.0;
              heard = at.burst.1;
              stepped_so = step-of before sound _ _ at.burst.0 after c.step.new.self.line c.step.new.self.granted
                  c.step.new.self.own
                  c.step.new.out _ _ _ event octets short (c.in_ok-action-2.ensures.step at.burst.0 at.burst.1);
            },
        line-counted c.loop-left.invariant.4.1.sounds sound c.loop-left.invariant.4.1.acts _ _
            (omega (arith, c.loop-left.invariant.4.2)),
      ),
    )

pub returns-then-is_last : goal.returns-then-is_last
unfolding line-ran
returns-then-is_last g c =
    let now = c.loop-left.invariant.4.1 in
    let at = ran-at _ _ _ _ _ _ _ _ _ now in
    let (sound, adds, asked_for, event, octets) = c.done-event.ensures.called in
    let short : c.loop-left.session.takes_short ≡ c.args.session.now.takes_short = c.loop-left.invariant.3 in
    let before = placed (card_held c.loop-left.session.card c.loop-left.command c.loop-left.reply)
    c.loop-left.session.line
    c.loop-left.session.granted c.loop-left.session.own c.loop-left.out c.loop-left.action in
    let after = card_held c.step.new.self.card c.step.new.command c.step.new.reply in
    let last = placed after c.step.new.self.line c.step.new.self.granted c.step.new.self.own c.step.new.out
    c.in_ok-action-2.action in
    let quiet = c.is_over-is_last.ensures c.if-is_last.true in
    let ran = line-ran _ (g.D.TimedDevice.heard c.args.device.now) (g.D.TimedDevice.heard c.loop-left.device)
    (g.D.TimedDevice.heard c.done-event.new.device) (g.H.AskingHost.served c.args.host.now)
    (g.H.AskingHost.served c.loop-left.host) _ _ _ before sound last now adds record {
      asked_for = asked_for;
      burst = at.burst.0;
      heard = at.burst.1;
      stepped_so = step-of before sound _ _ at.burst.0 after c.step.new.self.line c.step.new.self.granted
          c.step.new.self.own
          c.step.new.out _ _ _ event octets short (c.in_ok-action-2.ensures.step at.burst.0 at.burst.1);
    } in
    let over = ran-at _ _ _ _ _ _ _ _ _ ran in
    let same = silent-of c.loop-left.action c.loop-left.out sound asked_for quiet.0 (rw (sym event) quiet.1) in
    record {
      fit = c.step.ensures.fit;
      again = over.burst;
      short = search rules;
      run = (
        c.step.new.out,
        _,
        ran,
        no_more now.sounds (made-so-far now.sounds sound now.acts c.args.most _ c.loop-left.invariant.4.2
            (search rules))
            (rw same refl),
        ran-acts _ _ _ _ _ _ _ _ _ ran,
        over.served,
      );
      refused = tt;
    }

pub returns-else-lives-clause-again : goal.returns-else-lives-clause-again
returns-else-lives-clause-again g c = (ran-at _ _ _ _ _ _ _ _ _ c.loop-left.invariant.4.1).burst

pub returns-else-lives-clause-run : goal.returns-else-lives-clause-run
returns-else-lives-clause-run g c =
    let ran = c.loop-left.invariant.4 in (
      c.loop-left.out,
      ran.0,
      ran.1,
      ended (omega (arith, ran.2)) (search rules),
      ran-acts _ _ _ _ _ _ _ _ _ ran.1,
      (ran-at _ _ _ _ _ _ _ _ _ ran.1).served,
    )

pub returns-after-loop-left-clause-again : goal.returns-after-loop-left-clause-again
returns-after-loop-left-clause-again g c = (ran-at _ _ _ _ _ _ _ _ _ c.loop-left.invariant.4.1).burst

pub returns-after-loop-left-clause-run : goal.returns-after-loop-left-clause-run
returns-after-loop-left-clause-run g c =
    let ran = c.loop-left.invariant.4 in (
      c.loop-left.out,
      ran.0,
      ran.1,
      all_made (omega (arith, ran.2)),
      ran-acts _ _ _ _ _ _ _ _ _ ran.1,
      (ran-at _ _ _ _ _ _ _ _ _ ran.1).served,
    )
