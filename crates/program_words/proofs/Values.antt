-- How known values are read.
use Rattle.std.proofs.Common.{◌≡◌, inl, inr, ℕ, List, false, true, Bool, Option, Some, None, Result, Ok, Err, refl}
use Rattle.std.specs.Option.{MatchOption, ok_or}
use Rattle.hex.specs.Hex.{decode_of}
use Rattle.hex.specs.declared.error.FromHexError.{FromHexError}
use Rattle.octet_core.specs.Octets.{AreOctets}
use Rattle.octet_core.specs.Hexadecimal.{IsHexFault}
use Rattle.octet_core.specs.declared.hexadecimal.HexFault.{HexFault}
use Rattle.octet_core.specs.declared.hexadecimal.HexFault.TheVariants as hex
use Rattle.octet_core.proofs.HexadecimalLemmas.{fault-refused}
use Rattle.tlv_core.specs.Tag.{IsTag, is_tag}
use Rattle.tlv_core.proofs.TagTests.{tested-tag, tag-tests}
use Rattle.program_words.specs.Faults.{fault_of_hex}
use Rattle.program_words.specs.Known.{tag_of, tag_of_word}
use Rattle.program_words.specs.Value.{◌>>=◌, hex_octets, UnlessMemory}
use Rattle.program_words.specs.declared.fault.Fault.TheVariants.{Words, Hex}

-- ---- tags

-- the tag of octets, where they are one
pub tag-is : (b : List ℕ) (r : Option (List ℕ)) → AreOctets b → MatchOption r (IsTag b → ⊥) (λ tag. IsTag b × (tag ≡ b))
    → ok_or r Words ≡ tag_of b
tag-is b (Some tag) octets h = rw (tag-tests b h.0, h.1) refl
tag-is b None octets h = go (is_tag b) refl
  where
    go : (t : Bool) → is_tag b ≡ t → Err Words ≡ tag_of b
    go true e = absurd (h (tested-tag b octets e))
    go false e = rw e refl

refused : (read : Result (List ℕ) FromHexError) → ((octets : List ℕ) → read ≡ Ok octets → ⊥)
    → Err Hex ≡ hex_octets read >>= tag_of
refused (Ok octets) no_octets = absurd (no_octets octets refl)
refused (Err f) no_octets = refl

-- a fault of the hexadecimal text of a tag
pub refused-tag : (word : List ℕ) (fault : HexFault) → IsHexFault word fault
    → UnlessMemory {X = List ℕ} (Err (fault_of_hex fault)) (tag_of_word word)
refused-tag word hex.Odd h = inr (refused (decode_of word)
    (λ octets ok. let bad : hex.Odd ≡ hex.Memory = fault-refused word octets hex.Odd h ok in cc))
refused-tag word (hex.Digit place) h = inr
    (refused (decode_of word) (λ octets ok. let bad : hex.Digit place ≡ hex.Memory =
    fault-refused word octets (hex.Digit place) h ok in cc))
refused-tag word hex.Memory h = inl refl
