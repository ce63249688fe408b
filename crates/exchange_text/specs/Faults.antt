-- The texts of faults.
use Rattle.std.specs.Prelude.{ℕ, List, ◌++◌, codes, decimal, Option, None, Some}
use Rattle.exchange_text.specs.declared.fault.ExchangeFault.{ExchangeFault}
use Rattle.exchange_text.specs.declared.fault.ExchangeFault.TheVariants.{Header, End, Word, Hex, Falls, Memory}

-- the text of a fault of a line, with its number
abbrev pub at_line : ℕ → List ℕ → List ℕ
at_line line name = codes "line " ++ (decimal line ++ (codes ": " ++ name))

abbrev pub exchange_fault_name : ExchangeFault → List ℕ
exchange_fault_name Header = codes "Header"
exchange_fault_name (End line) = codes "End"
exchange_fault_name (Word line) = codes "Word"
exchange_fault_name (Hex line) = codes "Hex"
exchange_fault_name (Falls line) = codes "Falls"
exchange_fault_name Memory = codes "memory"

-- the line that a fault is in
abbrev pub exchange_fault_line : ExchangeFault → Option ℕ
exchange_fault_line Header = None
exchange_fault_line (End line) = Some line
exchange_fault_line (Word line) = Some line
exchange_fault_line (Hex line) = Some line
exchange_fault_line (Falls line) = Some line
exchange_fault_line Memory = None

abbrev pub fault_text_in : Option ℕ → List ℕ → List ℕ
fault_text_in None name = name
fault_text_in (Some line) name = at_line line name

abbrev pub exchange_fault_text : ExchangeFault → List ℕ
exchange_fault_text fault = fault_text_in (exchange_fault_line fault) (exchange_fault_name fault)
