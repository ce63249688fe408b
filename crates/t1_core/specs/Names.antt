-- The names of reasons and faults: each is its variant's name.
use Rattle.std.specs.Prelude.{ℕ, List, codes}
use Rattle.t1_core.specs.declared.turns.TerminalFault.{TerminalFault}
use Rattle.t1_core.specs.declared.turns.TerminalFault.TheVariants as terminal
use Rattle.t1_core.specs.declared.turns.CardFault.{CardFault}
use Rattle.t1_core.specs.declared.turns.CardFault.TheVariants as card

abbrev pub terminal_fault_name : TerminalFault → List ℕ
terminal_fault_name terminal.Dead = codes "Dead"
terminal_fault_name terminal.Busy = codes "Busy"
terminal_fault_name terminal.TooLong = codes "TooLong"
terminal_fault_name terminal.Reserved = codes "Reserved"
terminal_fault_name terminal.Idle = codes "Idle"

abbrev pub card_fault_name : CardFault → List ℕ
card_fault_name card.Order = codes "Order"
card_fault_name card.TooLong = codes "TooLong"
card_fault_name card.Reserved = codes "Reserved"
