-- Classed octets in the code, as contracts see them.
use Rattle.judge_core.specs.declared.class.Class.{Class}
use Rattle.judge_core.specs.declared.class.Class.TheVariants.{Whole, Malformed, Damage}
use Rattle.judge_core.specs.declared.reach.Reached.{Reached}
use Rattle.judge_core.specs.declared.reach.Reached.TheVariants.{Unsaid, Lost, Came}
use Rattle.judge_core.specs.Monitored as seen
use Rattle.judge_core.specs.Monitored.{Seen, Reaching}

abbrev pub seen_of : Class → Seen
seen_of (Whole block) = seen.whole block
seen_of (Malformed broken) = seen.malformed broken
seen_of Damage = seen.damage

abbrev pub reaching_of : Reached → Reaching
reaching_of Unsaid = seen.unsaid
reaching_of Lost = seen.lost
reaching_of (Came class) = seen.came (seen_of class)
