-- Why a list of nodes isn't a forest (EMV 4.3 Book 3, Annex B; the limits are this project's).
use Rattle.std.specs.Prelude.{◌≢◌, ℕ, ◌+◌, ◌<◌, ◌≤◌, ◌⊎◌, ◌↔◌, List, [], ◌∷◌, length}
use Rattle.octet_core.specs.Octets.{AreOctets}
use Rattle.octet_core.specs.Grammar.{IsFirst}
use Rattle.tlv_core.specs.Tag.{IsTag, constructed_bit}
use Rattle.tlv_core.specs.Form.{capacity}
use Rattle.tlv_core.specs.Tree.{Tree, End, Filler, Primitive, Constructed}
use Rattle.tlv_core.specs.Forest.{spelling, deepest, HasSpelling}
use Rattle.tlv_core.specs.declared.form.Form.{Form}
use Rattle.tlv_core.specs.declared.survey.Fault.{Fault}
use Rattle.tlv_core.specs.declared.survey.Fault.TheVariants as fault
use Rattle.tlv_core.specs.declared.forest.Improper.{Improper}
use Rattle.tlv_core.specs.declared.forest.Improper.TheVariants as improper

-- `Is` holds for some object of the list, at any depth. It takes the object's depth, the bit for constructed that its
-- kind has, its tag, its form, and the number of octets of its value.
abbrev pub SomeObject : (ℕ → ℕ → List ℕ → Form → ℕ → Type 0) → ℕ → Tree → Type 0
SomeObject Is d End = ⊥
SomeObject Is d (Filler rest) = SomeObject Is d rest
SomeObject Is d (Primitive tag form value rest) = Is d 0 tag form (length value) ⊎ SomeObject Is d rest
SomeObject Is d (Constructed tag form nodes rest) =
    Is d 1 tag form (length (spelling nodes)) ⊎ (SomeObject Is (d + 1) nodes ⊎ SomeObject Is d rest)

-- each tag is one whole tag, and each primitive value is octets
abbrev pub AreObjects : Tree → Type 0
AreObjects End = Unit {0}
AreObjects (Filler rest) = AreObjects rest
AreObjects (Primitive tag form value rest) = IsTag tag × AreOctets value × AreObjects rest
AreObjects (Constructed tag form nodes rest) = IsTag tag × AreObjects nodes × AreObjects rest

-- an object at depth d is too deep
abbrev pub IsDeep : ℕ → ℕ → List ℕ → Form → ℕ → Type 0
IsDeep d bit tag form n = deepest < d

-- bit 6 of the tag disagrees with the kind of the object
abbrev pub IsOtherKind : ℕ → ℕ → List ℕ → Form → ℕ → Type 0
IsOtherKind d bit tag form n = constructed_bit tag ≢ bit

-- the length is too large for its form
abbrev pub IsUnfit : ℕ → ℕ → List ℕ → Form → ℕ → Type 0
IsUnfit d bit tag form n = capacity form ≤ n

-- an object has this fault
abbrev pub HasFault : Fault → ℕ → ℕ → List ℕ → Form → ℕ → Type 0
HasFault fault.Depth = IsDeep
HasFault fault.Tag = IsOtherKind
HasFault fault.Form = IsUnfit

-- Some object has the fault, or the whole list is too long.
abbrev pub IsImproper : ℕ → Tree → Improper → Type 0
IsImproper max t improper.Depth = SomeObject IsDeep 1 t
IsImproper max t improper.Tag = SomeObject IsOtherKind 1 t
IsImproper max t improper.Form = SomeObject IsUnfit 1 t
IsImproper max t improper.Size = max < length (spelling t)

-- the first of these reasons that holds anywhere
abbrev pub IsFirstImproper : ℕ → Tree → Improper → Type 0
IsFirstImproper max t r = IsFirst (improper.Depth ∷ improper.Tag ∷ improper.Form ∷ improper.Size ∷ [])
    (IsImproper max t) r

-- A list of objects has an encoding if and only if nothing in it is improper.
abbrev pub ImproperLaw : ℕ → Tree → Type 0
ImproperLaw max t = HasSpelling max t ↔ ((r : Improper) → IsImproper max t r → ⊥)
