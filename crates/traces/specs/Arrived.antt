-- Which blocks arrive in an exchange, and which were seen to arrive.
use Rattle.std.specs.Prelude.{ℕ, List, [], ◌∷◌, ◌++◌, false}
use Rattle.exchange_text.specs.declared.line.Arrival.{Arrival}
use Rattle.exchange_text.specs.declared.line.Arrival.TheVariants.{Whole, Lost, Changed}
use Rattle.exchange_text.specs.declared.line.Line.{Line}
use Rattle.exchange_text.specs.declared.line.Line.TheVariants.{FromTerminal, FromCard}
use Rattle.block_core.specs.declared.side.Side.{Side}
use Rattle.block_core.specs.declared.side.Side.TheVariants.{Terminal, Card}
use Rattle.traces.specs.declared.trace.Item.{Item}
use Rattle.traces.specs.declared.trace.Item.TheVariants.{Block}

-- the octets that arrive, with the end that they are from
abbrev pub arrives : Side → List ℕ → Arrival → List (Side × List ℕ)
arrives from sent Whole = (from, sent) ∷ []
arrives from sent Lost = []
arrives from sent (Changed octets) = (from, octets) ∷ []

abbrev pub line_arrives : Line → List (Side × List ℕ)
line_arrives (FromTerminal sent arrival) = arrives Terminal sent arrival
line_arrives (FromCard sent arrival) = arrives Card sent arrival
line_arrives line = []

-- the blocks that arrive in these lines, in order
abbrev pub arrived_of : List Line → List (Side × List ℕ)
arrived_of [] = []
arrived_of (line ∷ lines) = line_arrives line ++ arrived_of lines

abbrev pub item_arrives : Item → List (Side × List ℕ)
item_arrives (Block from octets false) = (from, octets) ∷ []
item_arrives item = []

-- the blocks that were seen and not lost
abbrev pub arrived_in : List Item → List (Side × List ℕ)
arrived_in [] = []
arrived_in (item ∷ items) = item_arrives item ++ arrived_in items
