-- The names and the lines of faults.
use Rattle.std.specs.Prelude.{ℕ, List, ◌++◌, codes}
use Rattle.program_words.specs.declared.fault.Fault.{Fault}
use Rattle.program_words.specs.declared.fault.Fault.TheVariants.{Words, Hex, Memory, Read, TooLarge}

abbrev pub fault_name : Fault → List ℕ
fault_name Words = codes "words"
fault_name Hex = codes "hex"
fault_name Memory = codes "memory"
fault_name Read = codes "read"
fault_name TooLarge = codes "TooLarge"

-- the line that the program prints
abbrev pub fault_text : Fault → List ℕ
fault_text fault = codes "fault: " ++ (fault_name fault ++ codes "\n")
