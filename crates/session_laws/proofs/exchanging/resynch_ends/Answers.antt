use Rattle.std.proofs.Common.{rules}
use Rattle.session_core.specs.Setup.{no_limits}
use Rattle.session_laws.specs.Running.{resynchronising}
use Rattle.session_laws.proofs.Sessions.{cleared-within}
use Rattle.session_laws.proofs.Runs.{ok-by, err-by}
use Rattle.session_laws.proofs.Refusals.{opened-stopped}
use Rattle.session_laws.proofs.Links.{gone-run}
use Rattle.session_laws.proofs.exchanging.resynch_ends.Goals as goal

pub run-requires-clause-within : goal.run-requires-clause-within
run-requires-clause-within g c =
    cleared-within _ _ no_limits c.args.session.now.line _ _ _ _ _ _ _ _ _ c.requires.terminal c.requires.clock
    (search rules)
    (c.in_ok-action.ensures.turn _ c.requires.burst.1)

pub returns-clause-run : goal.returns-clause-run
returns-clause-run g c =
    ok-by _ _ _ c.run.result
    (λ ended gone off. gone-run (g.D.TimedDevice.heard c.args.device.now) (g.D.TimedDevice.heard c.run.new.device) _
    c.args.session.now.line resynchronising _ gone.0 _ _ _ record {
      out = _;
      burst = _;
      heard = c.requires.burst.1;
      turns = c.in_ok-action.ensures.turn _ c.requires.burst.1;
    } gone.1 off)
    c.run.ensures.gone c.run.ensures.over

pub returns-clause-refused : goal.returns-clause-refused
returns-clause-refused g c =
    err-by _ _ c.run.result
    (λ fault is. opened-stopped (g.D.TimedDevice.heard c.args.device.now) (g.D.TimedDevice.heard c.run.new.device) _
    c.args.session.now.line resynchronising _ fault record {
      out = _;
      burst = _;
      heard = c.requires.burst.1;
      turns = c.in_ok-action.ensures.turn _ c.requires.burst.1;
    } is)
    c.run.ensures.stopped
