-- The texts of faults.
use Rattle.std.specs.Prelude.{ℕ, List, ◌++◌, codes}
use Rattle.atr_core.specs.Names.{param_fault_name}
use Rattle.t1_core.specs.Names.{terminal_fault_name, card_fault_name}
use Rattle.exchange_core.specs.declared.event.EventFault.{EventFault}
use Rattle.exchange_core.specs.declared.event.EventFault.TheVariants as event
use Rattle.exchange_core.specs.declared.event.RecorderFault.{RecorderFault}
use Rattle.exchange_core.specs.declared.event.RecorderFault.TheVariants as recorder
use Rattle.exchange_core.specs.declared.params.AtrFault.{AtrFault}
use Rattle.exchange_core.specs.declared.params.AtrFault.TheVariants.{BadAtr, Params}
use Rattle.exchange_core.specs.declared.replaying.ReplayFault.{ReplayFault}
use Rattle.exchange_core.specs.declared.replaying.ReplayFault.TheVariants as replay
use Rattle.exchange_text.specs.Faults.{at_line}

abbrev pub event_fault_text : EventFault → List ℕ
event_fault_text event.NothingUnderWay = codes "NothingUnderWay"
event_fault_text (event.Terminal fault) = codes "Terminal: " ++ terminal_fault_name fault
event_fault_text (event.Card fault) = codes "Card: " ++ card_fault_name fault
event_fault_text event.Memory = codes "memory"

abbrev pub atr_fault_name : AtrFault → List ℕ
atr_fault_name BadAtr = codes "BadAtr"
atr_fault_name (Params fault) = param_fault_name fault

abbrev pub recorder_fault_text : RecorderFault → List ℕ
recorder_fault_text (recorder.Refused fault) = codes "Refused: " ++ atr_fault_name fault
recorder_fault_text recorder.Memory = codes "memory"

abbrev pub replay_fault_text : ReplayFault → List ℕ
replay_fault_text (replay.Differs line gives) = at_line line (codes "Differs")
replay_fault_text replay.Memory = codes "memory"
