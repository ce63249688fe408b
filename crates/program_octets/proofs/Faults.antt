-- The line of a fault.
use Rattle.std.proofs.Common.{◌≡◌, refl}
use Rattle.program_words.specs.Texts.{fault_text}
use Rattle.program_words.specs.declared.fault.Fault.{Fault}
use Rattle.program_words.specs.declared.fault.Fault.TheVariants.{Words, Hex, Memory, Read, TooLarge}
use Rattle.program_octets.specs.Sayings.{faulted, text_of}

-- a fault that is said has the line that is written where memory runs out
pub fault-line : (fault : Fault) → text_of (faulted fault) ≡ fault_text fault
fault-line Words = refl
fault-line Hex = refl
fault-line Memory = refl
fault-line Read = refl
fault-line TooLarge = refl
