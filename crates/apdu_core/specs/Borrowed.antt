-- Bodies whose data field is borrowed from the octets that were decoded.
use Rattle.std.specs.Prelude.{◌≡◌, ℕ, List, drop}
use Rattle.apdu_core.specs.declared.command.Body.{Body}
use Rattle.apdu_core.specs.declared.command.Body.TheVariants.{Empty, ShortLe, ShortPart, ShortBoth, LongLe, LongPart, LongBoth}
use Rattle.apdu_core.specs.declared.command_ref.BodyRef.{BodyRef}
use Rattle.apdu_core.specs.declared.command_ref.BodyRef.TheVariants as lent
use Rattle.apdu_core.specs.Command.{FitsFields, IsPlaced, body_octets}

-- the body as one that owns its data field
abbrev pub body_of : BodyRef → Body
body_of lent.Empty = Empty
body_of (lent.ShortLe le) = ShortLe le
body_of (lent.ShortPart part) = ShortPart part.now
body_of (lent.ShortBoth part le) = ShortBoth part.now le
body_of (lent.LongLe le) = LongLe le
body_of (lent.LongPart part) = LongPart part.now
body_of (lent.LongBoth part le) = LongBoth part.now le

-- the octets b are a header and this body
pub record IsBodyOf (b : List ℕ) (body : Body) : Type 0 where
  pub fits : FitsFields body
  pub octets : drop 4 b ≡ body_octets body
  pub placed : IsPlaced body b
