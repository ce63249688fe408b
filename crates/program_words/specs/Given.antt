-- Where octets come from: a word, or standard input in a form.
use Rattle.std.specs.Prelude.{List, ℕ, codes, Bool, false, Option, Some, None, Result, Ok, Err, if◌then◌else◌}
use Rattle.std.specs.Str.{bytes_eq}
use Rattle.octet_core.specs.Octets.{AreOctets}
use Rattle.dumps.specs.Dump.{dump_octets}
use Rattle.dumps.specs.Source.{source_octets}
use Rattle.dumps.specs.declared.fault.DumpFault.{DumpFault}
use Rattle.dumps.specs.declared.fault.DumpFault.TheVariants as dump
use Rattle.program_words.specs.Loose.{loose_octets}
use Rattle.program_words.specs.Value.{◌>>=◌, octets_of_word}
use Rattle.program_words.specs.declared.fault.Fault.{Fault}
use Rattle.program_words.specs.declared.fault.Fault.TheVariants.{Hex, Memory, Words}
use Rattle.program_words.specs.declared.given.Form.{Form}
use Rattle.program_words.specs.declared.given.Form.TheVariants as form
use Rattle.program_words.specs.declared.given.OctetSource.{OctetSource}
use Rattle.program_words.specs.declared.given.OctetSource.TheVariants.{Word, Read}

-- ---- as words

abbrev pub form_of : List ℕ → Result Form Fault
form_of word =
    if bytes_eq word (codes "hex") then Ok form.Hex
    else (if bytes_eq word (codes "octets") then Ok form.Octets
    else (if bytes_eq word (codes "dump") then Ok form.Dump
    else (if bytes_eq word (codes "source") then Ok form.Source
    else Err Words)))

-- a HEX word, or a form of standard input, and not both
abbrev pub given_of : Option (List ℕ) → Option (List ℕ) → Result OctetSource Fault
given_of (Some hex) None = octets_of_word hex >>= (λ octets. Ok (Word octets))
given_of None (Some word) = form_of word >>= (λ form. Ok (Read form))
given_of _ _ = Err Words

-- the words ask for lines of standard input, and have no HEX
abbrev pub asks_for_lines : Option (List ℕ) → Option (List ℕ) → Bool
asks_for_lines None (Some word) = bytes_eq word (codes "lines")
asks_for_lines _ _ = false

-- ---- the octets

-- a text that isn't in its form counts as not hexadecimal
abbrev pub of_dump : Result (List ℕ) DumpFault → Result (List ℕ) Fault
of_dump (Ok octets) = Ok octets
of_dump (Err dump.Form) = Err Hex
of_dump (Err dump.Memory) = Err Memory

-- the octets that a text in this form gives
abbrev pub octets_in : Form → List ℕ → Result (List ℕ) Fault
octets_in form.Hex text = loose_octets text
octets_in form.Octets text = Ok text
octets_in form.Dump text = of_dump (dump_octets text)
octets_in form.Source text = of_dump (source_octets text)

-- the octets, with the result of reading standard input
abbrev pub octets_given : OctetSource → Result (List ℕ) Fault → Result (List ℕ) Fault
octets_given (Word octets) file = Ok octets
octets_given (Read form) file = file >>= octets_in form

-- the octets come from standard input
abbrev pub IsFromReader : OctetSource → Type 0
IsFromReader (Word octets) = ⊥
IsFromReader (Read form) = Unit {0}

-- the octets are standard input itself
abbrev pub IsAsRead : OctetSource → Type 0
IsAsRead (Read form.Octets) = Unit {0}
IsAsRead _ = ⊥

-- each number that a word gives is an octet
abbrev pub GivesOctets : OctetSource → Type 0
GivesOctets (Word octets) = AreOctets octets
GivesOctets (Read form) = Unit {0}
