-- The meaning of the status bytes of a response: ISO/IEC 7816-4, clause 5.1, and ISO/IEC 7816-3, clause 12.
use Rattle.std.specs.Prelude.{◌≡◌, ◌⊎◌, ℕ, ◌≤◌, ◌&&◌, ◌==◌, nat_le, if◌then◌else◌}
use Rattle.apdu_core.specs.declared.status.StatusClass.{StatusClass}
use Rattle.apdu_core.specs.declared.status.StatusClass.TheVariants.{Normal, Warning, Execution, Checking, Proprietary, Invalid}

-- the first octet is between these
abbrev pub IsWithin : ℕ → ℕ → ℕ → Type 0
IsWithin least most x = (least ≤ x) × (x ≤ most)

-- The class of the status bytes. The meaning of 90XX other than 9000 and of 91XX to 9FXX is left to the card.
-- What no card may send is invalid.
abbrev pub IsOfClass : StatusClass → ℕ → ℕ → Type 0
IsOfClass Normal sw1 sw2 = ((sw1 ≡ 0x90) × (sw2 ≡ 0)) ⊎ (sw1 ≡ 0x61)
IsOfClass Warning sw1 sw2 = IsWithin 0x62 0x63 sw1
IsOfClass Execution sw1 sw2 = IsWithin 0x64 0x66 sw1
IsOfClass Checking sw1 sw2 = IsWithin 0x67 0x6F sw1
IsOfClass Proprietary sw1 sw2 = IsWithin 0x90 0x9F sw1 × (sw1 ≡ 0x90 → sw2 ≡ 0 → ⊥)
IsOfClass Invalid sw1 sw2 = (sw1 ≤ 0x60) ⊎ IsWithin 0x70 0x8F sw1 ⊎ (0xA0 ≤ sw1)

-- the class, computed by the first octet in rising order
abbrev pub class_of : ℕ → ℕ → StatusClass
class_of sw1 sw2 =
    if nat_le sw1 0x60 then Invalid
    else (if sw1 == 0x61 then Normal
    else (if nat_le sw1 0x63 then Warning
    else (if nat_le sw1 0x66 then Execution
    else (if nat_le sw1 0x6F then Checking
    else (if nat_le sw1 0x8F then Invalid
    else (if sw1 == 0x90 && sw2 == 0 then Normal
    else (if nat_le sw1 0x9F then Proprietary
    else Invalid)))))))
