use Rattle.std.proofs.Common.{◌≡◌, ◌∙◌, Some, ap, sym, arith}
use Rattle.exchange_core.specs.Recording.{Recording, event_of}
use Rattle.simulator.specs.Simulation.{next}
use Rattle.simulator.proofs.Running.{ends, goes-on, not-memory, on-ok, runs-out, sent-few, stops}
use Rattle.simulator.proofs.simulation.run.Goals as goal

pub returns-in_default-clause-ended : goal.returns-in_default-clause-ended
returns-in_default-clause-ended c =
    sym c.events.invariant.same ∙ ends _ _ c.args.session.now c.events.at c.events.recorder c.events-test.true
    (rw c.last.ensures at c.in_default.ensures)

pub returns-clause-fault : goal.returns-clause-fault
returns-clause-fault c =
    sym c.events.invariant.same ∙ runs-out _ _ c.args.session.now c.events.at c.events.recorder c.events-test.false

pub events-preserved : goal.events-preserved
events-preserved c =
    let event = event_of c.in-Some.event in
    let n : next c.args.session.now c.events.at c.events.recorder.last ≡ Some (event, c.next.new.at) =
    rw c.last.ensures at c.in-Some.ensures in
    record {
      few = omega (arith, sent-few c.args.session.now c.events.at c.next.new.at c.events.recorder.last event n);
      same = sym (goes-on _ _ c.args.session.now c.events.at c.next.new.at c.events.recorder c.happens.new.self event
          c.events-test.true n c.in-Ok.ensures.recorded) ∙ c.events.invariant.same;
    }

pub returns-in-Err-clause-ended : goal.returns-in-Err-clause-ended
returns-in-Err-clause-ended c =
    let event = event_of c.in-Some.event in
    let n : next c.args.session.now c.events.at c.events.recorder.last ≡ Some (event, c.next.new.at) =
    rw c.last.ensures at c.in-Some.ensures in
    on-ok c.refused.result (λ other.
    sym c.events.invariant.same
    ∙ stops _ _ c.args.session.now c.events.at c.next.new.at c.events.recorder event c.in-Err.fault c.events-test.true n
    (not-memory c.in-Err.fault _ other c.in-Err.ensures.refused)
    ∙ ap (λ (r : Recording). Some r) (sym c.in-Err.ensures.kept)) c.refused.ensures.other
