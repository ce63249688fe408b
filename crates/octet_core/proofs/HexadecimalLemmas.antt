-- What a refused text is.
use Rattle.std.proofs.Common.{◌≡◌, ℕ, ◌+◌, ◌%◌, ◌<◌, ◌⊎◌, inl, inr, List, length, get_or, false, arith, sym, subst, ◌∙◌, zero-add, Result, Ok, Err, true, refl}
use Rattle.std.proofs.lemmas.Bool.{cases_eq}
use Rattle.hex.specs.Hex.{decode_of, is_hex_digit}
use Rattle.hex.specs.declared.error.FromHexError.{FromHexError}
use Rattle.hex.specs.declared.error.FromHexError.TheVariants.{InvalidHexCharacter, OddLength, InvalidStringLength, OutOfMemory}
use Rattle.hex.proofs.HexLemmas.{decode_of-err, decode_of-odd, decode_of-ok}
use Rattle.octet_core.specs.Hexadecimal.{IsHexFault}
use Rattle.octet_core.specs.declared.hexadecimal.HexFault.{HexFault}
use Rattle.octet_core.specs.declared.hexadecimal.HexFault.TheVariants.{Odd, Digit, Memory}

same_place : (c d i j : ℕ) → InvalidHexCharacter c i ≡ InvalidHexCharacter d j → i ≡ j
same_place c d i j e = cc

same_fault : (r : Result (List ℕ) FromHexError) (e f : FromHexError) → r ≡ Err e → r ≡ Err f → e ≡ f
same_fault r e f h g = cc

-- where the decoder names a place, that place has the first octet that is no digit, in a text of even length
pub digit-fault : (text : List ℕ) (c place : ℕ)
    → (InvalidHexCharacter c place ≡ OutOfMemory) ⊎ (decode_of text ≡ Err (InvalidHexCharacter c place))
    → IsHexFault text (Digit place)
digit-fault text c place (inl e) = absurd (cc)
digit-fault text c place (inr e) =
    elim (cases_eq (length text % 2) 1) [
      | inl odd ↦ absurd (let bad : OddLength ≡ InvalidHexCharacter c place =
          same_fault (decode_of text) OddLength (InvalidHexCharacter c place) (decode_of-odd text odd) e in cc)
      | inr even ↦ elim (decode_of-err text (InvalidHexCharacter c place) e) [
        | inl h ↦ absurd (omega (arith, h.0))
        | inr h ↦
            let at : place ≡ h.0 = same_place c (get_or text h.0 0) place (0 + h.0) h.1 ∙ zero-add h.0 in (
              omega arith,
              subst (λ (k : ℕ). k < length text) (sym at) h.2,
              subst (λ (k : ℕ). is_hex_digit (get_or text k 0) ≡ false) (sym at) h.3,
              rw at h.4,
            )
      ]
    ]

-- where it says that the length is odd, it is
pub odd-fault : (text : List ℕ) → (OddLength ≡ OutOfMemory) ⊎ (decode_of text ≡ Err OddLength) → length text % 2 ≡ 1
odd-fault text (inl e) = absurd (cc)
odd-fault text (inr e) =
    elim (decode_of-err text OddLength e) [
      | inl h ↦ h.0
      | inr h ↦ absurd (let bad : OddLength ≡ InvalidHexCharacter (get_or text h.0 0) (0 + h.0) = h.1 in cc)
    ]

-- it never says that the length is wrong in another way
pub never-sized : (text : List ℕ) → (InvalidStringLength ≡ OutOfMemory) ⊎ (decode_of text ≡ Err InvalidStringLength) → ⊥
never-sized text (inl e) = cc
never-sized text (inr e) =
    elim (decode_of-err text InvalidStringLength e) [
      | inl h ↦ let bad : InvalidStringLength ≡ OddLength = h.1 in cc
      | inr h ↦ let bad : InvalidStringLength ≡ InvalidHexCharacter (get_or text h.0 0) (0 + h.0) = h.1 in cc
    ]

-- a text that is refused is no octets, unless memory stood in the place of the refusal
pub fault-refused : (text octets : List ℕ) (fault : HexFault) → IsHexFault text fault
    → decode_of text ≡ Ok octets → fault ≡ Memory
fault-refused text octets Odd h ok = absurd (omega (arith, h, (decode_of-ok text octets ok).0))
fault-refused text octets (Digit place) h ok =
    let digit : is_hex_digit (get_or text place 0) ≡ true = (decode_of-ok text octets ok).1 place 0 h.1 in
    absurd (let bad : false ≡ true = sym h.2 ∙ digit in cc)
fault-refused text octets Memory h ok = refl
