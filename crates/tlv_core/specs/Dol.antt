-- Data object lists (EMV 4.3 Book 3, clause 5.4).
use Rattle.std.specs.Prelude.{◌≡◌, ℕ, ◌+◌, ◌%◌, ◌<◌, ◌≤◌, List, [], ◌∷◌, ◌++◌, length, take, Option, Some, None, Result, Ok, Err}
use Rattle.octet_core.specs.declared.stop.Stop.{Stop}
use Rattle.octet_core.specs.Grammar.{IsFirst, OneVerdict, whole}
use Rattle.tlv_core.specs.Tag.{IsTag}
use Rattle.tlv_core.specs.TagPart.{part_octets, IsTagPart}
use Rattle.tlv_core.specs.declared.tag_part.TagPart.{TagPart}
use Rattle.tlv_core.specs.declared.tag_part.TagPart.TheVariants as part
use Rattle.tlv_core.specs.Reasons.{AwaitsSecond, AwaitsThird}
use Rattle.tlv_core.specs.declared.reason.DolReason.{DolReason}
use Rattle.tlv_core.specs.declared.reason.DolReason.TheVariants.{TagZero, TagSecond, TagLong}

-- an entry is a tag and one octet of length
abbrev pub entry_octets : List ℕ × ℕ → List ℕ
entry_octets e = e.0 ++ e.1 ∷ []

-- each entry has a tag, and a length of one octet
abbrev pub AreEntries : List (List ℕ × ℕ) → Type 0
AreEntries [] = Unit {0}
AreEntries (e ∷ entries) = IsTag e.0 × (e.1 < 256) × AreEntries entries

-- the encoding of a list is the octets of its entries, in their order
abbrev pub dol_spelling : List (List ℕ × ℕ) → List ℕ
dol_spelling [] = []
dol_spelling (e ∷ entries) = entry_octets e ++ dol_spelling entries

-- the octets b encode the list
pub record IsDol (entries : List (List ℕ × ℕ)) (b : List ℕ) : Type 0 where
  pub each : AreEntries entries
  pub is : b ≡ dol_spelling entries

-- ---- a walk over the entries

-- A walk over the octets b at this place has returned these entries, whose octets are those before the place.
pub record HasListed (b : List ℕ) (place : ℕ) (entries : List (List ℕ × ℕ)) : Type 0 where
  pub within : place ≤ length b
  pub each : AreEntries entries
  pub is : take place b ≡ dol_spelling entries

-- the entries that one call of a walk returns: one or none
abbrev pub listed_by : Result (Option (List ℕ × ℕ)) (Stop DolReason) → List (List ℕ × ℕ)
listed_by (Ok (Some entry)) = entry ∷ []
listed_by (Ok None) = []
listed_by (Err stop) = []

-- the place after an entry that begins at this one
abbrev pub place_after : ℕ → List ℕ × ℕ → ℕ
place_after place entry = place + (length entry.0 + 1)

-- ---- refusals

-- h is the start of an entry: nothing, or its first octets without the last
pub record IsBegunEntry (h : List ℕ) : Type 0 where
  pub entry : List ℕ × ℕ
  pub next : ℕ
  pub more : List ℕ
  pub is_tag : IsTag entry.0
  pub is : h ++ next ∷ more ≡ entry_octets entry

-- What is wrong with the octet x after the start h of an entry: no tag begins with 00; the low seven bits of a second
-- tag octet are 0; a third tag octet says that a fourth follows.
abbrev pub IsWrongEntry : List ℕ → ℕ → DolReason → Type 0
IsWrongEntry h x TagZero = (h ≡ []) × (x ≡ 0)
IsWrongEntry h x TagSecond = AwaitsSecond h × (x % 128 ≡ 0)
IsWrongEntry h x TagLong = AwaitsThird h × (128 ≤ x)

-- the lines of the table, in their order
abbrev pub dol_reasons : List DolReason
dol_reasons = TagZero ∷ TagSecond ∷ TagLong ∷ []

-- the start of an entry after the octet x: nothing if the old start was a whole tag, else one octet more
abbrev pub IsPartAfter : TagPart → ℕ → TagPart → Type 0
IsPartAfter (part.Tagged tag) x next = next ≡ part.Nothing
IsPartAfter begun x next = IsTagPart next × (part_octets next ≡ part_octets begun ++ x ∷ [])

-- the octets before a place are these entries, and the start of one more
abbrev pub AreAllBefore : List ℕ → List (List ℕ × ℕ) → ℕ → Type 0
AreAllBefore b entries place = (h : List ℕ) × IsBegunEntry h × (take place b ≡ dol_spelling entries ++ h)

-- b is whole entries, the start of one, and an octet
pub record EndsInEntry (b : List ℕ) : Type 0 where
  pub done : List (List ℕ × ℕ)
  pub each : AreEntries done
  pub header : List ℕ
  pub begun : IsBegunEntry header
  pub octet : ℕ
  pub is : b ≡ dol_spelling done ++ (header ++ octet ∷ [])

-- the last octet of b meets this line of the table
abbrev pub MeetsEntry : List ℕ → DolReason → Type 0
MeetsEntry b r = (e : EndsInEntry b) × IsWrongEntry e.header e.octet r

-- the reason of a refusal at the last octet of b: the first line of the table that it meets
abbrev pub IsDolReason : DolReason → List ℕ → Type 0
IsDolReason r b = (e : EndsInEntry b) × IsFirst dol_reasons (IsWrongEntry e.header e.octet) r

-- every input is a data object list or is refused, with one value, one place and one reason
abbrev pub DolVerdict : List ℕ → Type 0
DolVerdict b = OneVerdict whole IsDol IsDolReason b
