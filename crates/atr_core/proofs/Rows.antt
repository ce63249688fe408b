-- Answers to reset, computed by the definitions.
use Rattle.std.proofs.Common.{◌≡◌, ℕ, List, [], ◌∷◌, ◌++◌, refl, arith, inl, inr, count_ones, ◌/◌, Option, Some, None, Ok, Err}
use Rattle.octet_core.specs.Grammar.{IsFirst, self_ended, Accepts}
use Rattle.octet_core.proofs.Lists.{octets_by}
use Rattle.atr_core.specs.declared.atr.Convention.TheVariants.{Direct, Inverse}
use Rattle.atr_core.specs.declared.atr.Interface.{Interface}
use Rattle.atr_core.specs.declared.atr.Indicated.{Indicated}
use Rattle.atr_core.specs.declared.reason.AtrReason.TheVariants.{BadTs, TooLong, BadTck}
use Rattle.atr_core.specs.declared.params.ParamFault.TheVariants.{NoT1, ReservedIfsc, Crc}
use Rattle.atr_core.specs.Atr.{AtrParts, IsAtr, IsReason, spelling, tck_of}
use Rattle.atr_core.proofs.Unique.{no-td}
use Rattle.atr_core.specs.T1.{t1_params_of}
use Rattle.atr_core.specs.Rates.{rates_of}

abbrev bytes : Option ℕ → Option ℕ → Option ℕ → Interface
bytes a b c = record { ta = a; tb = b; tc = c }

abbrev indicates : ℕ → Interface → Indicated
indicates t i = record { protocol = t; bytes = i }

abbrev plain : Interface
plain = bytes None None None

abbrev direct : Interface → List Indicated → List ℕ → AtrParts
direct i xs h = record { convention = Direct; first = i; indicated = xs; historical = h }

-- no interface bytes and no historical ones
abbrev least : AtrParts
least = direct plain [] []

-- 3B 00 is accepted as that
pub least-accepted : Accepts self_ended IsAtr (0x3B ∷ 0x00 ∷ []) least 2
least-accepted = (
  omega arith,
  record {
    proper = record {
      nibbles = record { protocols = tt; historical = omega arith };
      most = omega arith;
    };
    octets = octets_by (spelling least) refl;
    is = refl;
  },
)

-- the inverse convention
abbrev inverse : AtrParts
inverse = record { convention = Inverse; first = plain; indicated = []; historical = [] }

-- 3F 00 is accepted as that
pub inverse-accepted : Accepts self_ended IsAtr (0x3F ∷ 0x00 ∷ []) inverse 2
inverse-accepted = (
  omega arith,
  record {
    proper = record {
      nibbles = record { protocols = tt; historical = omega arith };
      most = omega arith;
    };
    octets = octets_by (spelling inverse) refl;
    is = refl;
  },
)

-- T=0, T=1, fifteen historical bytes and TCK; an octet after them is left
abbrev both : AtrParts
both = direct plain (indicates 0 plain ∷ indicates 1 plain ∷ [])
    (0x80 ∷ 0x4F ∷ 0x0C ∷ 0xA0 ∷ 0x00 ∷ 0x00 ∷ 0x03 ∷ 0x06 ∷ 0x03 ∷ 0x00 ∷ 0x01 ∷ 0x00 ∷ 0x00 ∷ 0x00 ∷ 0x00 ∷ [])

-- the first 20 of 21 octets are accepted as that
pub both-accepted : Accepts self_ended IsAtr
    (0x3B ∷ 0x8F ∷ 0x80 ∷ 0x01 ∷ 0x80 ∷ 0x4F ∷ 0x0C ∷ 0xA0 ∷ 0x00 ∷ 0x00 ∷ 0x03 ∷ 0x06 ∷ 0x03 ∷ 0x00 ∷ 0x01 ∷ 0x00 ∷
    0x00 ∷ 0x00 ∷ 0x00 ∷ 0x6A ∷ 0xFF ∷ []) both 20
both-accepted = (
  omega arith,
  record {
    proper = record {
      nibbles = record { protocols = (omega arith, (omega arith, tt)); historical = omega arith };
      most = omega arith;
    };
    octets = octets_by (spelling both) refl;
    is = refl;
  },
)

-- T=1 before T=0: TCK stands too
abbrev falling : AtrParts
falling = direct plain (indicates 1 plain ∷ indicates 0 plain ∷ []) []

-- 3B 80 81 00 01 is accepted as that
pub falling-accepted : Accepts self_ended IsAtr (0x3B ∷ 0x80 ∷ 0x81 ∷ 0x00 ∷ 0x01 ∷ []) falling 5
falling-accepted = (
  omega arith,
  record {
    proper = record {
      nibbles = record { protocols = (omega arith, (omega arith, tt)); historical = omega arith };
      most = omega arith;
    };
    octets = octets_by (spelling falling) refl;
    is = refl;
  },
)

-- parameters of T=1
abbrev waits : AtrParts
waits = direct plain (indicates 1 plain ∷ indicates 1 (bytes (Some 0x20) (Some 0x45) None) ∷ []) []

-- 3B 80 81 31 20 45 55 is accepted as that
pub waits-accepted : Accepts self_ended IsAtr (0x3B ∷ 0x80 ∷ 0x81 ∷ 0x31 ∷ 0x20 ∷ 0x45 ∷ 0x55 ∷ []) waits 7
waits-accepted = (
  omega arith,
  record {
    proper = record {
      nibbles = record { protocols = (omega arith, (omega arith, tt)); historical = omega arith };
      most = omega arith;
    };
    octets = octets_by (spelling waits) refl;
    is = refl;
  },
)

abbrev waits_front : List ℕ
waits_front = 0x3B ∷ 0x80 ∷ 0x81 ∷ 0x31 ∷ 0x20 ∷ 0x45 ∷ []

-- 33 octets
abbrev longest : AtrParts
longest = direct (bytes (Some 0) (Some 0) (Some 0))
    (indicates 1 (bytes (Some 0) (Some 0) (Some 0)) ∷ indicates 1 (bytes (Some 0) (Some 0) (Some 0)) ∷ indicates 1
    (bytes (Some 0) (Some 0) (Some 0)) ∷ [])
    (0x00 ∷ 0x00 ∷ 0x00 ∷ 0x00 ∷ 0x00 ∷ 0x00 ∷ 0x00 ∷ 0x00 ∷ 0x00 ∷ 0x00 ∷ 0x00 ∷ 0x00 ∷ 0x00 ∷ 0x00 ∷ 0x00 ∷ [])

-- all 33 are accepted as that
pub longest-accepted : Accepts self_ended IsAtr
    (0x3B ∷ 0xFF ∷ 0x00 ∷ 0x00 ∷ 0x00 ∷ 0xF1 ∷ 0x00 ∷ 0x00 ∷ 0x00 ∷ 0xF1 ∷ 0x00 ∷ 0x00 ∷ 0x00 ∷ 0x71 ∷ 0x00 ∷ 0x00 ∷
    0x00 ∷ 0x00 ∷ 0x00 ∷ 0x00 ∷ 0x00 ∷ 0x00 ∷ 0x00 ∷ 0x00 ∷ 0x00 ∷ 0x00 ∷ 0x00 ∷ 0x00 ∷ 0x00 ∷ 0x00 ∷ 0x00 ∷ 0x00 ∷ 0x8E
    ∷ []) longest 33
longest-accepted = (
  omega arith,
  record {
    proper = record {
      nibbles = record { protocols = (omega arith, (omega arith, (omega arith, tt))); historical = omega arith };
      most = omega arith;
    };
    octets = octets_by (spelling longest) refl;
    is = refl;
  },
)

-- ---- refusals

-- 3A is no TS
pub bad_ts : IsReason BadTs (0x3A ∷ [])
unfolding IsFirst
bad_ts = inl ((refl, λ e. omega (arith, e), λ e. omega (arith, e)), refl)

-- after the third TD at least 34 octets
pub too_long : IsReason TooLong (0x3B ∷ 0xFF ∷ 0x11 ∷ 0x22 ∷ 0x33 ∷ 0xF1 ∷ 0x44 ∷ 0x55 ∷ 0x66 ∷ 0xF1 ∷ 0x77 ∷ 0x88 ∷
    0x99 ∷ 0xF1 ∷ [])
unfolding IsFirst lib.Count.ones
too_long = inr (
  λ m. omega (arith, m.0),
  inl (
    (
      15,
      indicates 1 (bytes (Some 0x44) (Some 0x55) (Some 0x66)) ∷ indicates 1 (bytes (Some 0x77) (Some 0x88) (Some 0x99))
          ∷ [],
      0xF1,
      record {
        few = omega arith;
        protocols = (omega arith, (omega arith, tt));
        convention = Direct;
        first =
            bytes (Some 0x11) (Some 0x22) (Some 0x33);
        is = refl;
      },
      let four : count_ones (0xF1 / 16) ≡ 4 = refl in
          omega (arith, four),
    ),
    refl,
  ),
)

-- a wrong TCK, where no TD ends the octets after which too many must follow
pub bad_tck : IsReason BadTck (waits_front ++ 0x54 ∷ [])
unfolding IsFirst
bad_tck = inr (
  λ m. omega (arith, m.0),
  inr (
    λ m. no-td waits 0x54 m.0 m.2 m.1 (record
        { protocols = (omega arith, (omega arith, tt)); historical = omega arith }) m.3,
    inl (
      (
        waits,
        0x54,
        record { protocols = (omega arith, (omega arith, tt)); historical = omega arith },
        refl,
        refl,
        λ e. omega (arith, e),
      ),
      refl,
    ),
  ),
)

-- ---- what an answer tells

-- an answer without a TD offers no T=1
pub least-t1 : t1_params_of least ≡ Err NoT1
least-t1 = refl

-- TA 20 and TB 45 after TD2 are an IFSC of 32, BWI 4 and CWI 5
pub waits-t1 : t1_params_of waits ≡ Ok (record { ifsc = 32; bwi = 4; cwi = 5 })
waits-t1 = refl

-- where no such bytes stand, IFSC is 32, BWI 4 and CWI 13
pub both-t1 : t1_params_of both ≡ Ok (record { ifsc = 32; bwi = 4; cwi = 13 })
both-t1 = refl

-- an IFSC of FF is reserved
pub reserved-t1 : t1_params_of (direct plain (indicates 1 plain ∷ indicates 1 (bytes (Some 0xFF) None None) ∷ []) []) ≡
    Err ReservedIfsc
reserved-t1 = refl

-- TC 01 after TD2 chooses the CRC
pub crc-t1 : t1_params_of (direct plain (indicates 1 plain ∷ indicates 1 (bytes None None (Some 1)) ∷ []) []) ≡ Err Crc
crc-t1 = refl

-- TA1 97 indicates Fi 512 and Di 64
pub fast-rates : rates_of (direct (bytes (Some 0x97) None None) [] []) ≡ (Some 512, Some 64)
fast-rates = refl

-- in TA1 7A both are reserved
pub reserved-rates : rates_of (direct (bytes (Some 0x7A) None None) [] []) ≡ (None, None)
reserved-rates = refl

-- without TA1 they are 372 and 1
pub default-rates : rates_of both ≡ (Some 372, Some 1)
default-rates = refl

-- TCK of the answer for T=0 and T=1 is 6A
pub both-tck : tck_of both ≡ Some 0x6A
both-tck = refl
