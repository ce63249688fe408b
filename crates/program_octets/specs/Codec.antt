-- The codecs of the kinds, as the program uses them.
use Rattle.std.specs.Prelude.{ℕ, List, ◌++◌, Bool, true, false, Result, Ok, Err}
use Rattle.octet_core.specs.Grammar.{Ending, Accepts, Refuses, RefusesUnlessMemory}
use Rattle.octet_core.specs.declared.stop.Refused.{Refused}
use Rattle.octet_core.specs.declared.stop.Stop.{Stop}
use Rattle.layouts.specs.declared.layout.Layout.{Layout}
use Rattle.layouts.specs.declared.layout.Layout.TheVariants.{Lines, Json}
use Rattle.program_octets.specs.Json.{notes_member}
use Rattle.program_octets.specs.Places.{places_member}
use Rattle.program_octets.specs.Rows.{Row, lines_of, notes_of, places_of}

-- where a value V ends, which octets spell it, why octets are refused, the names of these reasons R, the rows of a value,
-- if it takes so many octets, and its members of a JSON object, each after a comma
pub record Codec (V R : Type 0) : Type 1 where
  pub ending : Ending
  pub Spells : V → List ℕ → Type 0
  pub IsReason : R → List ℕ → Type 0
  pub name : R → List ℕ
  pub rows : V → ℕ → List Row
  pub members : V → List ℕ

-- the octets of each row as a member of an object; if they are noted, also their notes as one
abbrev pub rows_members : Bool → List Row → List ℕ
rows_members true rows = places_member (places_of rows) ++ notes_member (notes_of rows)
rows_members false rows = places_member (places_of rows)

-- rows as lines, or members of an object and those of the rows
abbrev pub said_by : Layout → Bool → List Row → List ℕ → List ℕ
said_by Lines noted rows members = lines_of noted rows
said_by Json noted rows members = members ++ rows_members noted rows

-- a value of n octets as lines or as members of an object, with notes if it is noted
abbrev pub said_in : {V R : Type 0} → Bool → Layout → Codec V R → V → ℕ → List ℕ
said_in noted layout c v n = said_by layout noted (c.rows v n) (c.members v)

-- the first n octets of b spell v
abbrev pub Takes : {V R : Type 0} → Codec V R → List ℕ → V → ℕ → Type 0
Takes c b v n = Accepts c.ending c.Spells b v n

abbrev pub Stops : {V R : Type 0} → Codec V R → List ℕ → Stop R → Type 0
Stops c b stop = Refuses c.ending c.Spells c.IsReason b stop

abbrev pub StopsUnlessMemory : {V R : Type 0} → Codec V R → List ℕ → Refused R → Type 0
StopsUnlessMemory c b refused = RefusesUnlessMemory c.ending c.Spells c.IsReason b refused

-- the verdict on octets: how many of them the value takes, or the refusal
abbrev pub IsVerdict : {V R : Type 0} → Codec V R → List ℕ → Result ℕ (Stop R) → Type 0
IsVerdict {V} {R} c b (Ok n) = (v : V) × Takes c b v n
IsVerdict {V} {R} c b (Err stop) = Stops c b stop
