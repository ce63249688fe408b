use Rattle.std.proofs.Common.{◌++◌, ◌∷◌, [], List, ℕ, arith, append_assoc, get_or, subst, take, take_all}
use Rattle.std.proofs.lemmas.List.{take_more}
use Rattle.program.specs.TraceLines.{HasCome}
use Rattle.program.proofs.trace_lines.TraceLines.feed.Goals as goal

pub loop-octet-preserved : goal.loop-octet-preserved
loop-octet-preserved c =
    let done = take c.loop-octet.octet-index c.args.piece.now in record {
      come = λ offered scope read h.
          rw (
            take_more c.args.piece.now c.loop-octet.octet-index 0 c.loop-octet-test.true,
            ← append_assoc read done (get_or c.args.piece.now c.loop-octet.octet-index 0 ∷ []),
          ) (c.in_ok-take.ensures.come offered scope (read ++ done) (c.loop-octet.invariant.come offered scope read h));
      number = omega (arith, c.in_ok-take.ensures.number, c.loop-octet.invariant.number);
    }

pub returns-clause-come : goal.returns-clause-come
returns-clause-come c = λ offered scope read h.
    subst (λ (l : List ℕ). HasCome offered scope (read ++ l) c.loop-octet.self.standing c.loop-octet.self.line.items
    c.loop-octet.self.fault)
    (take_all c.loop-octet.octet-index c.args.piece.now (omega (arith, c.loop-octet-test.false)))
    (c.loop-octet.invariant.come offered scope read h)
