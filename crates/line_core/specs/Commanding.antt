-- The response in the terminal's answer.
use Rattle.std.specs.Prelude.{List, ℕ, length, Option, Some, None, Result, Ok, Err}
use Rattle.octet_core.specs.Grammar.{whole, Accepts, Refuses}
use Rattle.octet_core.specs.declared.stop.Stop.{Stop}
use Rattle.apdu_core.specs.Response.{ResponseParts, IsResponse, IsReason}
use Rattle.apdu_core.specs.declared.reason.ResponseReason.{ResponseReason}

-- The verdict of the grammar of responses on the answer, if there is one.
abbrev pub IsResponseOf : Option (List ℕ) → Option (Result ResponseParts (Stop ResponseReason)) → Type 0
IsResponseOf (Some answer) (Some (Ok response)) = Accepts whole IsResponse answer response (length answer)
IsResponseOf (Some answer) (Some (Err stop)) = Refuses whole IsResponse IsReason answer stop
IsResponseOf (Some answer) None = ⊥
IsResponseOf None (Some verdict) = ⊥
IsResponseOf None None = Unit {0}
