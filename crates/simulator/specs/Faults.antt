-- Why there is no recorder, as a fault of a simulation, and its text.
use Rattle.std.specs.Prelude.{ℕ, List, ◌++◌, codes}
use Rattle.exchange_core.specs.Faults.{atr_fault_name}
use Rattle.exchange_core.specs.declared.event.RecorderFault.{RecorderFault}
use Rattle.exchange_core.specs.declared.event.RecorderFault.TheVariants as recorder
use Rattle.simulator.specs.declared.fault.SimulationFault.{SimulationFault}
use Rattle.simulator.specs.declared.fault.SimulationFault.TheVariants.{Refused, TooLarge, Memory}

abbrev pub simulation_fault : RecorderFault → SimulationFault
simulation_fault (recorder.Refused fault) = Refused fault
simulation_fault recorder.Memory = Memory

abbrev pub simulation_fault_text : SimulationFault → List ℕ
simulation_fault_text (Refused fault) = codes "Refused: " ++ atr_fault_name fault
simulation_fault_text TooLarge = codes "TooLarge"
simulation_fault_text Memory = codes "memory"
