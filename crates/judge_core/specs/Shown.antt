-- What is printed of a trace's word on how a block arrived: how many octets there are, and none of them.
use Rattle.std.specs.Prelude.{ℕ, List, ◌++◌, length, codes, decimal}
use Rattle.judge_core.specs.declared.monitor.Arrival.{Arrival}
use Rattle.judge_core.specs.declared.monitor.Arrival.TheVariants.{Unsaid, Lost, Came}

abbrev pub arrival_text : Arrival → List ℕ
arrival_text Unsaid = codes "Unsaid"
arrival_text Lost = codes "Lost"
arrival_text (Came octets) = codes "Came(" ++ (decimal (length octets.now) ++ codes " octets)")
