use Rattle.std.proofs.Common.{◌≡◌, ◌≤◌, ◌-◌}
use Rattle.simulator.specs.Simulation.{simulated, start}
use Rattle.simulator.proofs.simulation.run.Given as goal

abbrev pub invariant-events : goal.invariant-events
invariant-events l = record {
  few : l.at.sent ≤ l.done;
  same : simulated (l.most - l.done) l.session l.at l.recorder ≡ simulated l.most l.session (start l.session)
      l.fn.recorder;
}
