-- Faults of other crates as faults of the program.
use Rattle.std.specs.Prelude.{ℕ, List}
use Rattle.std.specs.Str.{trim_end}
use Rattle.octet_core.specs.declared.hexadecimal.HexFault.{HexFault}
use Rattle.octet_core.specs.declared.hexadecimal.HexFault.TheVariants.{Odd, Digit, Memory}
use Rattle.program_words.specs.declared.fault.Fault.{Fault}
use Rattle.program_words.specs.declared.fault.Fault.TheVariants as fault
use Rattle.program_words.specs.Texts.{fault_text}

abbrev pub fault_of_hex : HexFault → Fault
fault_of_hex Odd = fault.Hex
fault_of_hex (Digit place) = fault.Hex
fault_of_hex Memory = fault.Memory

-- the line that the program prints, without its line feed
abbrev pub fault_shown : Fault → List ℕ
fault_shown shown = trim_end (fault_text shown)
