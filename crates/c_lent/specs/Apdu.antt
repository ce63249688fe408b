-- Commands and responses as C has them.
use Rattle.std.specs.Prelude.{Bool, ◌≡◌, ℕ, ◌==◌, ◌&&◌, List, [], ◌∷◌, length, slice_index, Option, None, Some, is_some, unwrap_or, if◌then◌else◌}
use Rattle.octet_core.specs.Grammar.{whole, Accepts}
use Rattle.apdu_core.specs.declared.command.Shape.{Shape}
use Rattle.apdu_core.specs.declared.command.Shape.TheVariants.{Empty, ShortLe, ShortPart, ShortBoth, LongLe, LongPart, LongBoth}
use Rattle.apdu_core.specs.declared.reason.CommandReason.{CommandReason}
use Rattle.apdu_core.specs.declared.reason.CommandReason.TheVariants.{Trailing}
use Rattle.apdu_core.specs.declared.reason.ResponseReason.{ResponseReason}
use Rattle.apdu_core.specs.declared.reason.ResponseReason.TheVariants.{TooLong}
use Rattle.apdu_core.specs.declared.status.StatusClass.{StatusClass}
use Rattle.apdu_core.specs.declared.status.StatusClass.TheVariants.{Normal, Warning, Execution, Checking, Proprietary, Invalid}
use Rattle.apdu_core.specs.declared.command.Body.{Body}
use Rattle.apdu_core.specs.declared.command.Body.TheVariants as body
use Rattle.apdu_core.specs.Command.{CommandParts, FitsFields, IsCommand, shape_of, part_of, le_of}
use Rattle.apdu_core.specs.Response.{ResponseParts, IsResponse}
use Rattle.c_lent.specs.declared.apdu.CCommand.{CCommand}
use Rattle.c_lent.specs.declared.apdu.CResponse.{CResponse}

abbrev pub command_reason : CommandReason → ℕ
command_reason Trailing = 1

abbrev pub response_reason : ResponseReason → ℕ
response_reason TooLong = 1

abbrev pub shape_number : Shape → ℕ
shape_number Empty = 1
shape_number ShortLe = 2
shape_number ShortPart = 3
shape_number ShortBoth = 4
shape_number LongLe = 5
shape_number LongPart = 6
shape_number LongBoth = 7

-- the offset of the data field in the octets of a command; without a data field, the end of the header
abbrev pub data_place : Shape → ℕ
data_place Empty = 4
data_place ShortLe = 4
data_place ShortPart = 5
data_place ShortBoth = 5
data_place LongLe = 4
data_place LongPart = 7
data_place LongBoth = 7

-- 1 for what is present, else 0
abbrev pub mark_of : Bool → ℕ
mark_of is = if is then 1 else 0

-- the struct is this command, with its data field at its place in the octets
pub record IsSeen (c : CommandParts) (out : CCommand) : Type 0 where
  pub cla : out.cla ≡ slice_index c.header 0
  pub ins : out.ins ≡ slice_index c.header 1
  pub p1 : out.p1 ≡ slice_index c.header 2
  pub p2 : out.p2 ≡ slice_index c.header 3
  pub shape : out.shape ≡ shape_number (shape_of c.body)
  pub has_le : out.has_le ≡ mark_of (is_some (le_of c.body))
  pub le : out.le ≡ unwrap_or (le_of c.body) 0
  pub place : out.data_place ≡ data_place (shape_of c.body)
  pub len : out.data_len ≡ length (part_of c.body)

-- all the octets are the command in the struct
abbrev pub IsDecoded : List ℕ → CCommand → Type 0
IsDecoded octets out = (c : CommandParts) × Accepts whole IsCommand octets c (length octets) × IsSeen c out

-- the struct of a response: its data field is the front of the octets
abbrev pub response_seen : ResponseParts → CResponse
response_seen r = record { sw1 = r.sw1; sw2 = r.sw2; data_len = length r.part }

-- all the octets are the response in the struct
abbrev pub IsDecodedResponse : List ℕ → CResponse → Type 0
IsDecodedResponse octets out = (r : ResponseParts) × Accepts whole IsResponse octets r (length octets)
    × (out ≡ response_seen r)

abbrev pub class_number : StatusClass → ℕ
class_number Normal = 1
class_number Warning = 2
class_number Execution = 3
class_number Checking = 4
class_number Proprietary = 5
class_number Invalid = 6

-- the body with this shape, data field and Le: none if the shape excludes that data field or Le
abbrev pub body_with : ℕ → ℕ → List ℕ → Option Body
body_with shape le field =
    if (shape == 1) && ((le == 0) && (length field == 0)) then Some body.Empty
    else if (shape == 2) && (length field == 0) then Some (body.ShortLe le)
    else if (shape == 3) && (le == 0) then Some (body.ShortPart field)
    else if shape == 4 then Some (body.ShortBoth field le)
    else if (shape == 5) && (length field == 0) then Some (body.LongLe le)
    else if (shape == 6) && (le == 0) then Some (body.LongPart field)
    else if shape == 7 then Some (body.LongBoth field le)
    else None

-- the command with the header of a struct and this body
abbrev pub command_with : CCommand → Body → CommandParts
command_with c body = record { header = c.cla ∷ c.ins ∷ c.p1 ∷ c.p2 ∷ []; body = body }

-- there is a body from the caller's struct, and it fits its length fields
abbrev pub HasBody : Option Body → Type 0
HasBody None = ⊥
HasBody (Some body) = FitsFields body
