use Rattle.std.proofs.Common.{◌≡◌, drop, nat_eq}
use Rattle.std.specs.List.{starts_with}
use Rattle.session_core.proofs.sending.begin_with.Given as goal

-- the octets before this place are equal
abbrev pub invariant-loop-place : goal.invariant-loop-place
invariant-loop-place l =
    starts_with nat_eq l.octets l.first ≡ starts_with nat_eq (drop l.place l.octets) (drop l.place l.first)
