-- The names of reasons and faults: the names of their variants.
use Rattle.std.specs.Prelude.{ℕ, List, ◌++◌, Option, Some, codes, decimal}
use Rattle.std.specs.Fmt.{◌++?◌}
use Rattle.octet_core.specs.Stops.{stop_text}
use Rattle.chain_core.specs.Names.{reason_name}
use Rattle.apdu_core.specs.declared.sending.SendFault.{SendFault}
use Rattle.apdu_core.specs.declared.sending.SendFault.TheVariants as send
use Rattle.apdu_core.specs.declared.receiving.ReceiveFault.{ReceiveFault}
use Rattle.apdu_core.specs.declared.receiving.ReceiveFault.TheVariants as receive
use Rattle.apdu_core.specs.declared.reason.CommandReason.{CommandReason}
use Rattle.apdu_core.specs.declared.reason.CommandReason.TheVariants as command
use Rattle.apdu_core.specs.declared.reason.ResponseReason.{ResponseReason}
use Rattle.apdu_core.specs.declared.reason.ResponseReason.TheVariants as response

abbrev pub command_reason_name : CommandReason → List ℕ
command_reason_name command.Trailing = codes "Trailing"

abbrev pub response_reason_name : ResponseReason → List ℕ
response_reason_name response.TooLong = codes "TooLong"

abbrev pub send_fault_text : SendFault → List ℕ
send_fault_text send.Memory = codes "memory"
send_fault_text (send.Write written) = codes "Write after " ++ (decimal written ++ codes " octets")

abbrev pub receive_fault_text : {R : Type 0} → (R → Option (List ℕ)) → ReceiveFault R → Option (List ℕ)
receive_fault_text output receive.Memory = Some (codes "memory")
receive_fault_text output (receive.Read taken) = Some (codes "Read after " ++ (decimal taken ++ codes " octets"))
receive_fault_text output (receive.Chain stop) =
    Some (codes "Chain: ") ++? stop_text (λ reason. Some (reason_name reason)) stop
receive_fault_text output (receive.Apdu stop) = Some (codes "Apdu: ") ++? stop_text output stop
