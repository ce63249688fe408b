use Rattle.std.proofs.Common.{subst, IfOk}
use Rattle.program_words.specs.declared.session.Session.{Session}
use Rattle.program.specs.Judged.{AreOf}
use Rattle.program.specs.SimulationTexts.{IsSimulationNote, Simulates}
use Rattle.program.proofs.Simulations.{of-lines}
use Rattle.program.proofs.simulation.lines_simulated.Goals as goal

pub returns-in-Ok : goal.returns-in-Ok
returns-in-Ok c = of-lines c.args.session c.args.text.now c.in-Ok.pairs c.simulated.result c.in-Ok.ensures
    (subst (λ (s : Session). IfOk c.simulated.result (AreOf (Simulates s) (IsSimulationNote s)))
    c.with_pairs.ensures c.simulated.ensures)
