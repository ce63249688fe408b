-- Command APDUs, and their encoding: ISO/IEC 7816-3, clause 12, and ISO/IEC 7816-4, clause 5.1.
use Rattle.std.specs.Prelude.{◌≡◌, ◌≢◌, ◌⊎◌, ℕ, ◌+◌, ◌*◌, ◌/◌, ◌%◌, ◌<◌, ◌≤◌, List, [], ◌∷◌, ◌++◌, length, slice_index, slice_range, Option, None, Some}
use Rattle.octet_core.specs.Octets.{AreOctets}
use Rattle.octet_core.specs.Grammar.{IsFirst}
use Rattle.apdu_core.specs.declared.command.Body.{Body}
use Rattle.apdu_core.specs.declared.command.Body.TheVariants.{Empty, ShortLe, ShortPart, ShortBoth, LongLe, LongPart, LongBoth}
use Rattle.apdu_core.specs.declared.command.Shape.{Shape}
use Rattle.apdu_core.specs.declared.command.Shape.TheVariants as shapes
use Rattle.apdu_core.specs.declared.reason.CommandReason.{CommandReason}
use Rattle.apdu_core.specs.declared.reason.CommandReason.TheVariants.{Trailing}

-- what a command carries: CLA, INS, P1 and P2, and a body
pub record CommandParts : Type 0 where
  pub header : List ℕ
  pub body : Body

-- Le in one octet; 00 means 256
abbrev pub short_of : ℕ → List ℕ
short_of n = n % 256 ∷ []

-- Lc or Le in two octets, the high one first; an Le of 0000 means 65,536
abbrev pub long_of : ℕ → List ℕ
long_of n = n / 256 % 256 ∷ n % 256 ∷ []

-- the octets of a body
abbrev pub body_octets : Body → List ℕ
body_octets Empty = []
body_octets (ShortLe le) = short_of le
body_octets (ShortPart part) = length part ∷ part
body_octets (ShortBoth part le) = length part ∷ part ++ short_of le
body_octets (LongLe le) = 0 ∷ long_of le
body_octets (LongPart part) = 0 ∷ long_of (length part) ++ part
body_octets (LongBoth part le) = 0 ∷ long_of (length part) ++ part ++ long_of le

-- a number from 1 to the greatest one
abbrev pub IsCount : ℕ → ℕ → Type 0
IsCount n most = (1 ≤ n) × (n ≤ most)

-- the numbers of a body fit its length fields
abbrev pub FitsFields : Body → Type 0
FitsFields Empty = Unit {0}
FitsFields (ShortLe le) = IsCount le 256
FitsFields (ShortPart part) = IsCount (length part) 255
FitsFields (ShortBoth part le) = IsCount (length part) 255 × IsCount le 256
FitsFields (LongLe le) = IsCount le 65536
FitsFields (LongPart part) = IsCount (length part) 65535
FitsFields (LongBoth part le) = IsCount (length part) 65535 × IsCount le 65536

-- the shape of a body, one of seven
abbrev pub shape_of : Body → Shape
shape_of Empty = shapes.Empty
shape_of (ShortLe le) = shapes.ShortLe
shape_of (ShortPart part) = shapes.ShortPart
shape_of (ShortBoth part le) = shapes.ShortBoth
shape_of (LongLe le) = shapes.LongLe
shape_of (LongPart part) = shapes.LongPart
shape_of (LongBoth part le) = shapes.LongBoth

-- the data field, which is empty if there is none
abbrev pub part_of : Body → List ℕ
part_of Empty = []
part_of (ShortLe le) = []
part_of (ShortPart part) = part
part_of (ShortBoth part le) = part
part_of (LongLe le) = []
part_of (LongPart part) = part
part_of (LongBoth part le) = part

-- the greatest number of octets that the response may have in its data field, if the body has an Le
abbrev pub le_of : Body → Option ℕ
le_of Empty = None
le_of (ShortLe le) = Some le
le_of (ShortPart part) = None
le_of (ShortBoth part le) = Some le
le_of (LongLe le) = Some le
le_of (LongPart part) = None
le_of (LongBoth part le) = Some le

-- the place of the data field, after the header and Lc; of a body without one, the place after the header
abbrev pub part_place : Body → ℕ
part_place Empty = 4
part_place (ShortLe le) = 4
part_place (ShortPart part) = 5
part_place (ShortBoth part le) = 5
part_place (LongLe le) = 4
part_place (LongPart part) = 7
part_place (LongBoth part le) = 7

-- the data field is the slice of the octets b from its place on
abbrev pub IsPlaced : Body → List ℕ → Type 0
IsPlaced body b = part_of body ≡ slice_range b (part_place body) (part_place body + length (part_of body))

-- the octets of a command
abbrev pub spelling : CommandParts → List ℕ
spelling c = c.header ++ body_octets c.body

-- the command has an encoding
pub record IsProper (c : CommandParts) : Type 0 where
  pub header : length c.header ≡ 4
  pub fits : FitsFields c.body

-- the octets b encode the command c
pub record IsCommand (c : CommandParts) (b : List ℕ) : Type 0 where
  pub proper : IsProper c
  pub octets : AreOctets b
  pub is : b ≡ spelling c

-- some octets encode the command
abbrev pub HasSpelling : CommandParts → Type 0
HasSpelling c = (b : List ℕ) × IsCommand c b

-- the number in the octets at places 5 and 6
abbrev pub long_count : List ℕ → ℕ
long_count b = slice_index b 5 * 256 + slice_index b 6

-- The last octet of b is after the last one that the length fields allow: a short Lc, an extended Le alone, or an
-- extended Lc.
abbrev pub IsTrailing : List ℕ → Type 0
IsTrailing b = ((slice_index b 4 ≢ 0) × (slice_index b 4 + 6 < length b))
    ⊎ ((slice_index b 4 ≡ 0) × (long_count b ≡ 0) × (7 < length b))
    ⊎ ((slice_index b 4 ≡ 0) × (long_count b ≢ 0) × (long_count b + 9 < length b))

-- The first octets b meet this line of the table of reasons: none of the seven shapes can continue with so many
-- octets.
abbrev pub Meets : List ℕ → CommandReason → Type 0
Meets b Trailing = IsTrailing b

-- the octets up to and including the refused one meet this line of the table, and no line before it
abbrev pub IsReason : CommandReason → List ℕ → Type 0
IsReason r b = IsFirst (Trailing ∷ []) (Meets b) r
