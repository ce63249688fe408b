-- The two ends of a line.
use Rattle.std.specs.Prelude.{Bool, true, false}
use Rattle.block_core.specs.declared.side.Side.{Side}
use Rattle.block_core.specs.declared.side.Side.TheVariants.{Terminal, Card}

-- the other end
abbrev pub other : Side → Side
other Terminal = Card
other Card = Terminal

-- whether both are the same end
abbrev pub same_side : Side → Side → Bool
same_side Terminal Terminal = true
same_side Terminal Card = false
same_side Card Terminal = false
same_side Card Card = true
