-- Answers to reset, and their encoding: ISO/IEC 7816-3, clause 8.2.
use Rattle.std.specs.Prelude.{◌≡◌, ◌≢◌, ℕ, ◌+◌, ◌/◌, ◌%◌, ◌<◌, ◌≤◌, ◌==◌, ◌||◌, not, List, [], ◌∷◌, ◌++◌, length, Bool, true, false, if◌then◌else◌, IsTrue, Option, Some, None, option_to_list, slice_index, count_ones}
use Rattle.std.specs.List.{AllByRecursion, list_any}
use Rattle.octet_core.specs.Octets.{AreOctets, xor_of}
use Rattle.octet_core.specs.Grammar.{IsFirst}
use Rattle.atr_core.specs.declared.atr.Convention.{Convention}
use Rattle.atr_core.specs.declared.atr.Convention.TheVariants.{Direct, Inverse}
use Rattle.atr_core.specs.declared.atr.Interface.{Interface}
use Rattle.atr_core.specs.declared.atr.Indicated.{Indicated}
use Rattle.atr_core.specs.declared.reason.AtrReason.{AtrReason}
use Rattle.atr_core.specs.declared.reason.AtrReason.TheVariants.{BadTs, TooLong, BadTck}

-- the parts of an answer to reset, with the protocol that each TD indicates and the bytes after it
pub record AtrParts : Type 0 where
  pub convention : Convention
  pub first : Interface
  pub indicated : List Indicated
  pub historical : List ℕ

-- TS
abbrev pub ts_of : Convention → ℕ
ts_of Direct = 0x3B
ts_of Inverse = 0x3F

-- the bit that announces an interface byte, 0 if the byte is absent
abbrev pub bit_of : Option ℕ → ℕ → ℕ
bit_of None weight = 0
bit_of (Some byte) weight = weight

-- 1 if the flag is true, 0 if it isn't
abbrev pub count_of : Bool → ℕ
count_of flag = if flag then 1 else 0

-- whether another TD follows
abbrev pub goes_on : List Indicated → Bool
goes_on [] = false
goes_on (x ∷ xs) = true

-- the bit that announces a TD
abbrev pub td_bit : Bool → ℕ
td_bit false = 0
td_bit true = 0x80

-- T0 or a TD: the high nibble announces TA, TB, TC and TD, and `low` is the low nibble
abbrev pub announcing : Interface → Bool → ℕ → ℕ
announcing bytes td low = bit_of bytes.ta 0x10 + bit_of bytes.tb 0x20 + bit_of bytes.tc 0x40 + td_bit td + low

-- the TA, TB and TC that are present
abbrev pub octets_of : Interface → List ℕ
octets_of bytes = option_to_list bytes.ta ++ option_to_list bytes.tb ++ option_to_list bytes.tc

-- the interface bytes: those after T0, and then each TD and those after it
abbrev pub interface_octets : Interface → List Indicated → List ℕ
interface_octets bytes [] = octets_of bytes
interface_octets bytes (x ∷ xs) = octets_of bytes
    ++ announcing x.bytes (goes_on xs) x.protocol ∷ interface_octets x.bytes xs

-- each TD and the interface bytes after it
abbrev pub td_octets : List Indicated → List ℕ
td_octets [] = []
td_octets (x ∷ xs) = announcing x.bytes (goes_on xs) x.protocol ∷ octets_of x.bytes ++ td_octets xs

-- whether a protocol other than T=0 is indicated
abbrev pub needs_tck : List Indicated → Bool
needs_tck xs = list_any (λ x. not (x.protocol == 0)) xs

-- the octets from T0 to the last historical byte
abbrev pub checked_octets : AtrParts → List ℕ
checked_octets a = announcing a.first (goes_on a.indicated) (length a.historical) ∷ interface_octets a.first a.indicated
    ++ a.historical

-- TCK: absent if only T=0 is indicated, otherwise the octet that makes the exclusive-or of all octets from T0 on 0
abbrev pub tck_of : AtrParts → Option ℕ
tck_of a = if needs_tck a.indicated then Some (xor_of (checked_octets a)) else None

abbrev pub spelling : AtrParts → List ℕ
spelling a = ts_of a.convention ∷ checked_octets a ++ option_to_list (tck_of a)

-- the protocols and the number of historical bytes fit in their low nibbles
pub record HasNibbles (a : AtrParts) : Type 0 where
  pub protocols : AllByRecursion (λ x. x.protocol < 16) a.indicated
  pub historical : length a.historical < 16

-- the answer has an encoding, in which at most 32 octets follow TS
pub record IsProper (a : AtrParts) : Type 0 where
  pub nibbles : HasNibbles a
  pub most : length (spelling a) ≤ 33

-- the octets b encode the answer a
pub record IsAtr (a : AtrParts) (b : List ℕ) : Type 0 where
  pub proper : IsProper a
  pub octets : AreOctets b
  pub is : b ≡ spelling a

-- the octets after T0, whose bytes are `bytes`, up to the TD `td` after the TDs of xs
abbrev pub up_to_td : Interface → List Indicated → ℕ → List ℕ
up_to_td bytes [] td = octets_of bytes ++ td ∷ []
up_to_td bytes (x ∷ xs) td = octets_of bytes ++ announcing x.bytes true x.protocol ∷ up_to_td x.bytes xs td

-- the octets b end in the TD td; before it are the TDs of xs, and a T0 that announces k historical bytes
pub record EndsInTd (b : List ℕ) (k : ℕ) (xs : List Indicated) (td : ℕ) : Type 0 where
  pub few : k < 16
  pub protocols : AllByRecursion (λ x. x.protocol < 16) xs
  pub convention : Convention
  pub first : Interface
  pub is : b ≡ ts_of convention ∷ announcing first true k ∷ up_to_td first xs td

-- the least number of octets of an answer whose first n octets end in the TD td
abbrev pub least_total : ℕ → ℕ → List Indicated → ℕ → ℕ
least_total n k xs td = n + count_ones (td / 16) + k + count_of (not (td % 16 == 0) || needs_tck xs)

-- The first octets b meet this line of the table of reasons (clause 8.2): TS isn't 3B or 3F; a TD announces so much
-- that the answer would be longer than TS and 32 octets; the exclusive-or of the octets from T0 to TCK isn't 00.
abbrev pub Meets : List ℕ → AtrReason → Type 0
Meets b BadTs = (length b ≡ 1) × (slice_index b 0 ≢ 0x3B) × (slice_index b 0 ≢ 0x3F)
Meets b TooLong = (k : ℕ) × (xs : List Indicated) × (td : ℕ) × EndsInTd b k xs td
    × (33 < least_total (length b) k xs td)
Meets b BadTck = (a : AtrParts) × (tck : ℕ) × HasNibbles a × IsTrue (needs_tck a.indicated)
    × (b ≡ ts_of a.convention ∷ checked_octets a ++ tck ∷ []) × (tck ≢ xor_of (checked_octets a))

-- the octets up to and including the refused one meet this line of the table, and no line before it
abbrev pub IsReason : AtrReason → List ℕ → Type 0
IsReason r b = IsFirst (BadTs ∷ TooLong ∷ BadTck ∷ []) (Meets b) r
