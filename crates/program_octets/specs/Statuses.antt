-- The statuses of the program, and their numbers.
use Rattle.std.specs.Prelude.{ℕ}
use Rattle.answer_json.specs.declared.refusal.Refusal.{Refusal}
use Rattle.answer_json.specs.declared.refusal.Refusal.TheVariants as refusal
use Rattle.program_octets.specs.declared.status.Status.{Status}
use Rattle.program_octets.specs.declared.status.Status.TheVariants.{Accepted, Refused, Fault}

abbrev pub exit_number : Status → ℕ
exit_number Accepted = 0
exit_number Refused = 1
exit_number Fault = 2

-- the status of a refusal or a fault
abbrev pub refusal_status : Refusal → Status
refusal_status (refusal.Short place) = Refused
refusal_status (refusal.At place reason) = Refused
refusal_status (refusal.AtLine line reason) = Refused
refusal_status (refusal.Whole reason) = Refused
refusal_status (refusal.FaultAt line fault) = Fault
refusal_status (refusal.Fault fault) = Fault
