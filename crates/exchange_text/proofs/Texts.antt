-- One session as a value and as a text, computed from the definitions.
use Rattle.std.proofs.Common.{◌≡◌, ◌∷◌, ◌++◌, [], ℕ, List, codes, decimal, Ok, refl, sym, ap, ◌∙◌}
use Rattle.octet_core.proofs.Decimals.{value-decimal}
use Rattle.exchange_text.specs.Exchange.{ExchangeParts}
use Rattle.exchange_text.specs.Reading.{exchange_said}
use Rattle.exchange_text.specs.Text.{exchange_text}
use Rattle.exchange_text.specs.declared.exchange.Version.TheVariants.{Two}
use Rattle.exchange_text.specs.declared.line.Arrival.TheVariants.{Whole, Lost, Changed}
use Rattle.exchange_text.specs.declared.line.Line.TheVariants.{Command, FromCard, FromTerminal, Ifsd, Moment, Note, Quiet, Reply}
use Rattle.hex.specs.Hex.{encode_with, decode_pairs}

abbrev session : ExchangeParts
session = record {
  version = Two;
  atr = 0x3B ∷ 0x80 ∷ 0x81 ∷ 0x31 ∷ 0x20 ∷ 0x45 ∷ 0x55 ∷ [];
  lines =
      Moment 0
      ∷ Command (0x00 ∷ 0xA4 ∷ [])
      ∷ FromTerminal (0x00 ∷ 0x80 ∷ 0x00 ∷ 0x80 ∷ []) Lost
      ∷ Note (codes "nothing came")
      ∷ Quiet
      ∷ Moment 1500
      ∷ FromCard (0x00 ∷ []) (Changed [])
      ∷ Reply []
      ∷ FromCard (0x90 ∷ 0x00 ∷ []) Whole
      ∷ Ifsd 0xFE
      ∷ [];
}

-- its text with the texts of its two moments
abbrev text_with : List ℕ → List ℕ → List ℕ
text_with first second =
    codes "scard-exchange 2\natr 3B808131204555\nat "
    ++ (first ++ (codes "\ncommand 00A4\nt 00800080 lost\nnote nothing came\nquiet\nat "
    ++ (second ++ codes "\nc 00 as none\nreply none\nc 9000\nifsd FE\n")))

abbrev text : List ℕ
text = codes
    "scard-exchange 2\natr 3B808131204555\nat 0\ncommand 00A4\nt 00800080 lost\nnote nothing came\nquiet\nat 1500\nc 00 as none\nreply none\nc 9000\nifsd FE\n"

parted : exchange_text session ≡ text_with (decimal 0) (decimal 1500)
unfolding encode_with
parted = refl

session-text : exchange_text session ≡ text
session-text =
    parted
    ∙ ap (λ (first : List ℕ). text_with first (decimal 1500)) (sym (value-decimal (codes "0") refl))
    ∙ ap (λ (second : List ℕ). text_with (codes "0") second) (sym (value-decimal (codes "1500") refl))

text-session : exchange_said text ≡ Ok session
unfolding decode_pairs
text-session = refl
