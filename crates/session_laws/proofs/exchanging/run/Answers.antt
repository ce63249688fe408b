use Rattle.std.proofs.Common.{rules, [], ◌≡◌, ◌+◌, true}
use Rattle.std.proofs.lemmas.Result.{err_from_is_err_and}
use Rattle.t1_core.specs.Views.{terminal_held}
use Rattle.session_laws.specs.Ending.{goes, sends}
use Rattle.session_laws.specs.Running.{standing}
use Rattle.session_laws.proofs.Sessions.{stepped-within, front-fits, front-short}
use Rattle.session_laws.proofs.Runs.{none-gone, more-gone, turn-of}
use Rattle.session_laws.proofs.Refusals.{burst-stopped, step-of}
use Rattle.session_laws.proofs.Waits.{stepped-waited}
use Rattle.session_laws.proofs.exchanging.run.Goals as goal

pub loop-action-init : goal.loop-action-init
loop-action-init g c = (
  c.requires.fit,
  c.requires.within,
  c.requires.waited,
  search rules,
  c.requires.room,
  ([], none-gone (g.D.TimedDevice.heard c.args.device.now) _),
)

pub loop-action-smaller : goal.loop-action-smaller
loop-action-smaller g c =
    let on : goes c.loop-action.action ≡ true = search rules in
    let count : c.loop-action.blocks + c.sends-blocks.result ≡ c.loop-action.blocks + sends c.loop-action.action =
    search rules in
    (stepped-within c.args.limits.blocks c.loop-action.blocks (c.loop-action.blocks + c.sends-blocks.result) _
    c.loop-action.session.line _ _ _ _ _ _ _ _ _ _ _ c.loop-action.action _ c.loop-action.invariant.1 on count
    c.loop-action.invariant.1.burst.1 (c.in_ok-action.ensures.step _ c.loop-action.invariant.1.burst.1)
    (front-fits _ _ _ c.done-event.ensures.fits c.done-event.ensures.some)
    (front-short _ _ c.loop-action.invariant.3)).1

pub loop-action-preserved : goal.loop-action-preserved
loop-action-preserved g c =
    let on : goes c.loop-action.action ≡ true = search rules in
    let count : c.loop-action.blocks + c.sends-blocks.result ≡ c.loop-action.blocks + sends c.loop-action.action =
    search rules in (
      c.step.ensures.fit,
      (stepped-within c.args.limits.blocks c.loop-action.blocks (c.loop-action.blocks + c.sends-blocks.result) _
          c.loop-action.session.line _ _ _ _ _ _ _ _ _ _ _ c.loop-action.action _ c.loop-action.invariant.1 on count
          c.loop-action.invariant.1.burst.1 (c.in_ok-action.ensures.step _ c.loop-action.invariant.1.burst.1)
          (front-fits _ _ _ c.done-event.ensures.fits c.done-event.ensures.some)
          (front-short _ _ c.loop-action.invariant.3)).0,
      (λ limited. stepped-waited c.args.limits.time c.loop-action.time _ _ c.loop-action.session.line _ _ _ _ _ _ _ _ _
          _ _
          c.loop-action.action _ (c.loop-action.invariant.2 limited) on (search rules) (search rules) limited
          (c.in_ok-action.ensures.step _ c.loop-action.invariant.1.burst.1)
          (front-fits _ _ _ c.done-event.ensures.fits c.done-event.ensures.some)),
      search rules,
      search rules,
      (
        _,
        more-gone _ (g.D.TimedDevice.heard c.loop-action.device) _ _ _ _ _ _ c.loop-action.blocks c.loop-action.time
            c.sends-blocks.result c.done-event.result.0 _ c.loop-action.invariant.5.1 c.done-event.ensures.called.1
            (turn-of _ _ _ _ _ _ c.done-event.ensures.called.2 on c.done-event.ensures.called.3
            c.done-event.ensures.called.4 c.loop-action.invariant.1.burst.1
            (c.in_ok-action.ensures.step _ c.loop-action.invariant.1.burst.1))
            (search rules) c.done-event.ensures.called.3 (search rules),
      ),
    )

pub returns-in_err-action-clause-stopped : goal.returns-in_err-action-clause-stopped
returns-in_err-action-clause-stopped g c =
    let (sound, adds, asked_for, event, octets) = c.done-event.ensures.called in
    let burst = c.loop-action.invariant.1.burst in
    let before = standing (terminal_held c.loop-action.session.terminal c.args.command.now c.loop-action.answer)
    c.loop-action.session.line c.loop-action.session.own c.loop-action.out c.loop-action.action in
    let after = terminal_held c.step.new.self.terminal c.args.command.now c.step.new.answer in
    let p = err_from_is_err_and c.from_residual.result c.from_residual.ensures.1 in
    rw (p.1, p.2) (burst-stopped (g.D.TimedDevice.heard c.args.device.now)
    (g.D.TimedDevice.heard c.loop-action.device) (g.D.TimedDevice.heard c.done-event.new.device) _ _ _ before _ _ sound
    burst.0 after c.step.new.self.line c.step.new.self.own c.step.new.out c.loop-action.invariant.5.1 adds asked_for
    burst.1
    (step-of before sound _ _ burst.0 after c.step.new.self.line c.step.new.self.own c.step.new.out _ event octets
    (c.in_err-action.ensures.step burst.0 burst.1)))
