-- What an answer to reset says about T=1: ISO/IEC 7816-3, clause 11.4.
use Rattle.std.specs.Prelude.{ℕ, ◌/◌, ◌%◌, ◌<◌, ◌≤◌, ◌==◌, ◌||◌, List, [], ◌∷◌, drop, Bool, if◌then◌else◌, Option, None, unwrap_or, Result, Ok, Err}
use Rattle.std.specs.Option.{option_or}
use Rattle.std.specs.List.{list_any}
use Rattle.atr_core.specs.declared.atr.Interface.{Interface}
use Rattle.atr_core.specs.declared.atr.Indicated.{Indicated}
use Rattle.atr_core.specs.declared.params.ParamFault.{ParamFault}
use Rattle.atr_core.specs.declared.params.ParamFault.TheVariants.{NoT1, ReservedIfsc, Crc}
use Rattle.atr_core.specs.Atr.{AtrParts}

-- the card's information field size and the indexes of its waiting times
pub record T1Values : Type 0 where
  pub ifsc : ℕ
  pub bwi : ℕ
  pub cwi : ℕ

-- the size isn't 00 or FF, which are reserved, and the indexes fit in nibbles
pub record IsUsable (p : T1Values) : Type 0 where
  pub least : 1 ≤ p.ifsc
  pub most : p.ifsc ≤ 254
  pub bwi : p.bwi < 16
  pub cwi : p.cwi < 16

-- whether some TD indicates T=1
abbrev pub offers_t1 : List Indicated → Bool
offers_t1 xs = list_any (λ x. x.protocol == 1) xs

-- the first such byte after a TD that indicates T=1
abbrev pub first_after_t1 : (Interface → Option ℕ) → List Indicated → Option ℕ
first_after_t1 byte [] = None
first_after_t1 byte (x ∷ xs) = if x.protocol == 1 then option_or (byte x.bytes) (first_after_t1 byte xs) else
    first_after_t1 byte xs

-- the first such byte for T=1: the bytes after TD1 are not specific, so the search begins at TD2
abbrev pub first_for_t1 : (Interface → Option ℕ) → AtrParts → Option ℕ
first_for_t1 byte a = first_after_t1 byte (drop 1 a.indicated)

-- the first TA for T=1 is IFSC
abbrev pub ifsc_of : AtrParts → ℕ
ifsc_of a = unwrap_or (first_for_t1 (λ bytes. bytes.ta) a) 32

-- the first TB for T=1 holds BWI and CWI
abbrev pub waiting_of : AtrParts → ℕ
waiting_of a = unwrap_or (first_for_t1 (λ bytes. bytes.tb) a) 0x4D

-- bit 1 of the first TC for T=1 chooses the CRC
abbrev pub chooses_crc : AtrParts → Bool
chooses_crc a = unwrap_or (first_for_t1 (λ bytes. bytes.tc) a) 0 % 2 == 1

abbrev pub t1_values_of : AtrParts → T1Values
t1_values_of a = record { ifsc = ifsc_of a; bwi = waiting_of a / 16; cwi = waiting_of a % 16 }

-- the parameters of T=1, or the first fault that holds
abbrev pub t1_params_of : AtrParts → Result T1Values ParamFault
t1_params_of a =
    if offers_t1 a.indicated
    then (if (ifsc_of a == 0) || (ifsc_of a == 0xFF) then Err ReservedIfsc else
    (if chooses_crc a then Err Crc else Ok (t1_values_of a)))
    else Err NoT1
