use Rattle.std.proofs.Common.{◌≡◌, ◌++◌, append_assoc, codes, refl}
use Rattle.exchange_text.specs.Faults.{exchange_fault_text}
use Rattle.exchange_text.specs.declared.fault.ExchangeFault.{ExchangeFault}
use Rattle.exchange_text.specs.declared.fault.ExchangeFault.TheVariants.{Header, End, Word, Hex, Falls, Memory}
use Rattle.program.specs.ExchangeTexts.{file_faulted}
use Rattle.program_octets.specs.Sayings.{text_of}
use Rattle.program.proofs.laws.file_fault_lines.Goals as goal

line : (fault : ExchangeFault) → text_of (file_faulted fault)
    ≡ codes "fault: " ++ (exchange_fault_text fault ++ codes "\n")
line Header = refl
line (End place) = simp append_assoc refl
line (Word place) = simp append_assoc refl
line (Hex place) = simp append_assoc refl
line (Falls place) = simp append_assoc refl
line Memory = refl

pub returns : goal.returns
returns c = line
