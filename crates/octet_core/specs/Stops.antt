-- Stops with other reasons, and as text.
use Rattle.std.specs.Prelude.{◌≡◌, ⊤, ℕ, List, ◌++◌, Option, Some, codes, decimal}
use Rattle.std.specs.Fmt.{◌++?◌}
use Rattle.octet_core.specs.declared.stop.Stop.{Stop}
use Rattle.octet_core.specs.declared.stop.Stop.TheVariants.{Short, At}
use Rattle.octet_core.specs.declared.stop.Refused.{Refused}
use Rattle.octet_core.specs.declared.stop.Refused.TheVariants as refused
use Rattle.octet_core.specs.declared.hexadecimal.HexFault.{HexFault}
use Rattle.octet_core.specs.declared.hexadecimal.HexFault.TheVariants.{Odd, Digit, Memory}

-- the reason, if there is one, has this property
abbrev pub ForReason : {R : Type 0} → Stop R → (R → Type 0) → Type 0
ForReason (Short place) P = ⊤
ForReason (At place reason) P = P reason

-- the other stop has the same place, and a reason in this relation to the reason
abbrev pub IsMapped : {R T : Type 0} → (R → T → Type 0) → Stop R → Stop T → Type 0
IsMapped gives (Short place) (Short q) = q ≡ place
IsMapped gives (Short place) (At q other) = ⊥
IsMapped gives (At place reason) (Short q) = ⊥
IsMapped gives (At place reason) (At q other) = (q ≡ place) × gives reason other

-- the text of a stop, if that of its reason is known
abbrev pub stop_text : {R : Type 0} → (R → Option (List ℕ)) → Stop R → Option (List ℕ)
stop_text output (Short place) = Some (codes "short at " ++ decimal place)
stop_text output (At place reason) = Some (codes "refused at " ++ (decimal place ++ codes ": ")) ++? output reason

abbrev pub refused_text : {R : Type 0} → (R → Option (List ℕ)) → Refused R → Option (List ℕ)
refused_text output (refused.Stop stop) = stop_text output stop
refused_text output refused.Memory = Some (codes "memory")

abbrev pub hex_fault_text : HexFault → List ℕ
hex_fault_text Odd = codes "Odd"
hex_fault_text (Digit place) = codes "Digit at " ++ decimal place
hex_fault_text Memory = codes "memory"
