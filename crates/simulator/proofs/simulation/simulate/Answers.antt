use Rattle.std.proofs.lemmas.Result.{err_from_is_err_and}
use Rattle.simulator.proofs.Running.{made, not-made, enough}
use Rattle.simulator.proofs.simulation.simulate.Goals as goal

pub returns-in_err-run-clause-simulated : goal.returns-in_err-run-clause-simulated
returns-in_err-run-clause-simulated c =
    let fault = err_from_is_err_and c.from_residual-in_err-run.result c.from_residual-in_err-run.ensures.1 in
    let recorder = c.in_ok-recorder in
    rw (fault.1, fault.2) (not-made c.args.largest c.args.session.now _ c.get.ensures recorder.recorder
    recorder.ensures.empty recorder.ensures.found _ c.in_err-run.ensures.fault)

pub returns-clause-simulated : goal.returns-clause-simulated
returns-clause-simulated c =
    let recorder = c.in_ok-recorder in
    made c.args.largest c.args.session.now _ c.get.ensures recorder.recorder recorder.ensures.empty
    recorder.ensures.found _ _ c.in_ok-run.ensures.ended c.in_ok-exchange.ensures.is

pub returns-in_err-run-clause-enough : goal.returns-in_err-run-clause-enough
returns-in_err-run-clause-enough c =
    let fault = err_from_is_err_and c.from_residual-in_err-run.result c.from_residual-in_err-run.ensures.1 in
    let recorder = c.in_ok-recorder in
    rw (fault.1, fault.2) (enough c.args.largest c.args.session.now _ c.get.ensures recorder.recorder
    recorder.ensures.empty recorder.ensures.found _ c.in_err-run.ensures.fault)
