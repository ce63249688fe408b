-- The texts of faults.
use Rattle.std.specs.Prelude.{ℕ, List, ◌++◌, codes, decimal}
use Rattle.exchange_core.specs.Faults.{atr_fault_name}
use Rattle.traces.specs.declared.recording.RecordFault.{RecordFault}
use Rattle.traces.specs.declared.recording.RecordFault.TheVariants as fault
use Rattle.exchange_text.specs.Faults.{exchange_fault_text}
use Rattle.traces.specs.declared.reading.TraceFault.{TraceFault}
use Rattle.traces.specs.declared.reading.TraceFault.TheVariants.{Text, Unfit}
use Rattle.traces.specs.declared.unfit.Unfit as unfit
use Rattle.traces.specs.declared.unfit.Unfit.TheVariants.{Pps, NodeAddress, Silence, Reset, Midway, Arrived}

abbrev pub unfit_name : unfit.Unfit → List ℕ
unfit_name Pps = codes "Pps"
unfit_name NodeAddress = codes "NodeAddress"
unfit_name Silence = codes "Silence"
unfit_name Reset = codes "Reset"
unfit_name Midway = codes "Midway"
unfit_name Arrived = codes "Arrived"

abbrev pub record_fault_text : RecordFault → List ℕ
record_fault_text (fault.Refused why) = codes "Refused: " ++ atr_fault_name why
record_fault_text (fault.Unfit place why) = codes "Unfit at " ++ (decimal place ++ (codes ": " ++ unfit_name why))
record_fault_text fault.Memory = codes "memory"

abbrev pub trace_fault_text : TraceFault → List ℕ
trace_fault_text (Text why) = exchange_fault_text why
trace_fault_text (Unfit line why) = codes "line " ++ (decimal line ++ (codes ": " ++ unfit_name why))
