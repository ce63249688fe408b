-- The item that was decoded.
use Rattle.traces.specs.declared.seen.What.{What}
use Rattle.traces.specs.declared.seen.What.TheVariants as seen
use Rattle.traces.specs.declared.trace.Item.{Item}
use Rattle.traces.specs.declared.trace.Item.TheVariants.{Block, Quiet, Moment}

abbrev pub item_of : What → Item
item_of (seen.Block from octets lost) = Block from octets lost
item_of seen.Quiet = Quiet
item_of (seen.Moment moment) = Moment moment
