use Rattle.std.proofs.Common.{◌≡◌, ◌==◌, ◌&&◌, length}
use Rattle.notes.specs.Says.{named}
use Rattle.notes.proofs.response.named.Given as goal

abbrev pub invariant-loop-rest : goal.invariant-loop-rest
invariant-loop-rest l =
    named (λ row. row.0 == l.sw1 && row.1 == l.sw2) (λ row. row.2.now) l.rows
    ≡ named (λ row. row.0 == l.sw1 && row.1 == l.sw2) (λ row. row.2.now) l.rest

abbrev pub decreases-loop-rest : goal.decreases-loop-rest
decreases-loop-rest l = length l.rest
