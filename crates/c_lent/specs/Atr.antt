-- Answers to reset as C has them.
use Rattle.std.specs.Prelude.{◌≡◌, ◌≤◌, ℕ, ◌-◌, ◌==◌, List, ◌++◌, length, map, replicate, take, if◌then◌else◌, Option, None, Some, unwrap_or, Result, Ok, Err}
use Rattle.octet_core.specs.Grammar.{self_ended, Accepts}
use Rattle.atr_core.specs.declared.atr.Convention.{Convention}
use Rattle.atr_core.specs.declared.atr.Convention.TheVariants.{Direct, Inverse}
use Rattle.atr_core.specs.declared.atr.Interface.{Interface}
use Rattle.atr_core.specs.declared.atr.Indicated.{Indicated}
use Rattle.atr_core.specs.declared.reason.AtrReason.{AtrReason}
use Rattle.atr_core.specs.declared.reason.AtrReason.TheVariants.{BadTs, TooLong, BadTck}
use Rattle.atr_core.specs.declared.params.ParamFault.{ParamFault}
use Rattle.atr_core.specs.declared.params.ParamFault.TheVariants.{NoT1, ReservedIfsc, Crc}
use Rattle.atr_core.specs.Atr.{AtrParts, IsAtr, IsProper, tck_of}
use Rattle.atr_core.specs.T1.{T1Values}
use Rattle.c_lent.specs.declared.verdict.Verdict.{Verdict}
use Rattle.c_lent.specs.declared.atr.CInterface.{CInterface}
use Rattle.c_lent.specs.declared.atr.CIndicated.{CIndicated}
use Rattle.c_lent.specs.declared.atr.CAtr.{CAtr}
use Rattle.c_lent.specs.declared.atr.CT1.{CT1}
use Rattle.c_lent.specs.declared.atr.CRates.{CRates}

abbrev pub atr_reason : AtrReason → ℕ
atr_reason BadTs = 1
atr_reason TooLong = 2
atr_reason BadTck = 3

-- a byte, which is present if its mark isn't 0
abbrev pub byte_of : ℕ → ℕ → Option ℕ
byte_of mark byte = if mark == 0 then None else Some byte

abbrev pub interface_of : CInterface → Interface
interface_of c = record { ta = byte_of c.has_ta c.ta; tb = byte_of c.has_tb c.tb; tc = byte_of c.has_tc c.tc }

abbrev pub indicated_of : CIndicated → Indicated
indicated_of c = record { protocol = c.protocol; bytes = interface_of c.bytes }

abbrev pub convention_of : ℕ → Convention
convention_of n = if n == 0 then Direct else Inverse

-- the answer to reset that the struct describes
abbrev pub atr_of : CAtr → AtrParts
atr_of c = record {
  convention = convention_of c.convention;
  first = interface_of c.first;
  indicated = map indicated_of (take c.indicated_count c.indicated);
  historical = take c.historical_count c.historical;
}

-- ---- the struct that the library writes

-- the mark is 1 if there is a byte, else 0; the byte is 0 if there is none
abbrev pub mark_shown : Option ℕ → ℕ
mark_shown None = 0
mark_shown (Some byte) = 1

abbrev pub byte_shown : Option ℕ → ℕ
byte_shown None = 0
byte_shown (Some byte) = byte

abbrev pub interface_shown : Interface → CInterface
interface_shown i = record {
  has_ta = mark_shown i.ta;
  ta = byte_shown i.ta;
  has_tb = mark_shown i.tb;
  tb = byte_shown i.tb;
  has_tc = mark_shown i.tc;
  tc = byte_shown i.tc;
}

abbrev pub indicated_shown : Indicated → CIndicated
indicated_shown x = record { protocol = x.protocol; bytes = interface_shown x.bytes }

abbrev pub convention_shown : Convention → ℕ
convention_shown Direct = 0
convention_shown Inverse = 1

-- an unused entry after the last TD
abbrev pub no_indicated : CIndicated
no_indicated = indicated_shown (record { protocol = 0; bytes = record { ta = None; tb = None; tc = None } })

-- The struct describes this answer: each mark is 0 or 1, the counts are those of the answer, and what is absent is 0.
pub record IsTold (a : AtrParts) (c : CAtr) : Type 0 where
  pub convention : c.convention ≡ convention_shown a.convention
  pub first : c.first ≡ interface_shown a.first
  pub indicated_count : c.indicated_count ≡ length a.indicated
  pub indicated : c.indicated ≡ map indicated_shown a.indicated ++ replicate (31 - length a.indicated) no_indicated
  pub historical_count : c.historical_count ≡ length a.historical
  pub historical : c.historical ≡ a.historical ++ replicate (15 - length a.historical) 0
  pub has_tck : c.has_tck ≡ mark_shown (tck_of a)
  pub tck : c.tck ≡ byte_shown (tck_of a)

-- ---- verdicts

-- the struct describes an answer: the counts fit its arrays, and the answer has a spelling
pub record SaysAtr (c : CAtr) : Type 0 where
  pub indicated : c.indicated_count ≤ 31
  pub historical : c.historical_count ≤ 15
  pub proper : IsProper (atr_of c)

-- the octets begin with the answer that the struct describes, and the counts fit its arrays
pub record IsDecoded (octets : List ℕ) (v : Verdict) (out : CAtr) : Type 0 where
  pub accepts : Accepts self_ended IsAtr octets (atr_of out) v.place
  pub indicated : out.indicated_count ≤ 31
  pub historical : out.historical_count ≤ 15
  pub tck_is : byte_of out.has_tck out.tck ≡ tck_of (atr_of out)

-- the parameters of T=1 in the struct
abbrev pub t1_values : CT1 → T1Values
t1_values c = record { ifsc = c.ifsc; bwi = c.bwi; cwi = c.cwi }

-- the status and the struct of C for the parameters of T=1
abbrev pub IsT1 : Result T1Values ParamFault → CT1 → CT1 → ℕ → Type 0
IsT1 (Ok values) old new status = (status ≡ 0)
    × (new ≡ record { ifsc = values.ifsc; bwi = values.bwi; cwi = values.cwi })
IsT1 (Err NoT1) old new status = (status ≡ 1) × (new ≡ old)
IsT1 (Err ReservedIfsc) old new status = (status ≡ 2) × (new ≡ old)
IsT1 (Err Crc) old new status = (status ≡ 3) × (new ≡ old)

-- Fi and Di: 0 for a reserved one
abbrev pub rates_seen : Option ℕ × Option ℕ → CRates
rates_seen rates = record { fi = unwrap_or rates.0 0; di = unwrap_or rates.1 0 }
