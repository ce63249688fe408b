-- The places of stops.
use Rattle.std.specs.Prelude.{ℕ}
use Rattle.octet_core.specs.declared.stop.Stop.{Stop}
use Rattle.octet_core.specs.declared.stop.Stop.TheVariants.{Short, At}

-- the place of a stop: the first octet after which nothing can continue, or the end of octets that are short
abbrev pub stop_place : {R : Type 0} → Stop R → ℕ
stop_place (Short place) = place
stop_place (At place reason) = place
