use Rattle.std.proofs.Common.{rules, []}
use Rattle.std.proofs.lemmas.Result.{err_from_is_err_and}
use Rattle.session_laws.specs.Running.{size_within}
use Rattle.session_laws.proofs.Sessions.{begun-within}
use Rattle.session_laws.proofs.Runs.{no-sounds, ok-by, err-by}
use Rattle.session_laws.proofs.Refusals.{opening-refused, opened-stopped}
use Rattle.session_laws.proofs.Links.{gone-run}
use Rattle.session_laws.proofs.Waits.{begun-waited}
use Rattle.session_laws.proofs.exchanging.ask_ifs_ends.Goals as goal

pub run-requires-clause-within : goal.run-requires-clause-within
run-requires-clause-within g c =
    begun-within _ _ c.args.limits c.args.session.now.line _ _ _ _ _ _ _ _ _ c.requires.terminal c.requires.clock
    (search rules)
    (c.in_ok-action.ensures.turn _ c.requires.burst.1)

pub run-requires-clause-waited : goal.run-requires-clause-waited
run-requires-clause-waited g c =
    begun-waited _ _ c.args.limits c.args.session.now.line _ _ _ _ _ _ _ _ _ c.requires.clock
    (c.in_ok-action.ensures.turn _ c.requires.burst.1)

pub returns-clause-run : goal.returns-clause-run
returns-clause-run g c =
    ok-by _ _ _ c.run.result
    (λ ended gone off. gone-run (g.D.TimedDevice.heard c.args.device.now) (g.D.TimedDevice.heard c.run.new.device) _
    c.args.session.now.line (size_within c.args.size c.args.limits) _ gone.0 _ _ _ record {
      out = _;
      burst = _;
      heard = c.requires.burst.1;
      turns = c.in_ok-action.ensures.turn _ c.requires.burst.1;
    } gone.1 off)
    c.run.ensures.gone c.run.ensures.over

pub returns-clause-refused : goal.returns-clause-refused
returns-clause-refused g c =
    err-by _ _ c.run.result
    (λ fault is. opened-stopped (g.D.TimedDevice.heard c.args.device.now) (g.D.TimedDevice.heard c.run.new.device) _
    c.args.session.now.line (size_within c.args.size c.args.limits) _ fault record {
      out = _;
      burst = _;
      heard = c.requires.burst.1;
      turns = c.in_ok-action.ensures.turn _ c.requires.burst.1;
    } is)
    c.run.ensures.stopped

pub returns-in_err-action-clause-refused : goal.returns-in_err-action-clause-refused
returns-in_err-action-clause-refused g c =
    let p = err_from_is_err_and c.from_residual.result c.from_residual.ensures.1 in
    rw (p.1, p.2) (
      [],
      no-sounds (g.D.TimedDevice.heard c.args.device.now),
      opening-refused _ _ (size_within c.args.size c.args.limits) _ _ _ _ _ _ _ _ _
          (c.in_err-action.ensures.turn _ c.requires.burst.1),
    )
