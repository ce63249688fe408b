-- Hexadecimal text as C has it.
use Rattle.std.specs.Prelude.{◌≡◌, ℕ, List, length, Ok}
use Rattle.hex.specs.Hex.{decode_of}
use Rattle.octet_core.specs.declared.stop.Stop.{Stop}
use Rattle.octet_core.specs.declared.stop.Stop.TheVariants.{Short, At}
use Rattle.octet_core.specs.declared.hexadecimal.HexFault.TheVariants as fault
use Rattle.octet_core.specs.Hexadecimal.{IsHexFault}
use Rattle.c_lent.specs.Verdict.{put_verdict, put_into}
use Rattle.c_lent.specs.declared.verdict.Verdict.{Verdict}
use Rattle.c_lent.specs.declared.hexadecimal.HexReason.{HexReason}
use Rattle.c_lent.specs.declared.hexadecimal.HexReason.TheVariants.{Digit, Odd}

abbrev pub hex_reason : HexReason → ℕ
hex_reason Digit = 1
hex_reason Odd = 2

-- why a text isn't octets: its first octet that isn't a digit, or an odd length
abbrev pub RefusesText : List ℕ → Stop HexReason → Type 0
RefusesText text (Short place) = ⊥
RefusesText text (At place Digit) = IsHexFault text (fault.Digit place)
RefusesText text (At place Odd) = IsHexFault text fault.Odd × (place ≡ length text)

-- the octets that the text encodes are put into the buffer
pub record PutsText (text old new : List ℕ) (v : Verdict) : Type 0 where
  pub octets : List ℕ
  pub decoded : decode_of text ≡ Ok octets
  pub verdict : v ≡ put_verdict octets old
  pub buffer : new ≡ put_into octets old
