-- How octets that were seen from an end match the block that it was about to send, and the consequences.
use Rattle.std.specs.Prelude.{List, ℕ, Bool, true, false, if◌then◌else◌, is_none}
use Rattle.block_core.specs.Block.{Parts, spelling}
use Rattle.exchange_text.specs.declared.line.Arrival.{Arrival}
use Rattle.exchange_text.specs.declared.line.Arrival.TheVariants as arrival
use Rattle.traces.specs.declared.matching.Match.{Match}
use Rattle.traces.specs.declared.matching.Match.TheVariants.{Whole, Changed, Other}
use Rattle.traces.specs.declared.standing.Standing.{Standing}
use Rattle.traces.specs.declared.standing.Standing.TheVariants.{Left, Waits, Sends}
use Rattle.traces.specs.Following.{is_spelled, whole}
use Rattle.traces.specs.Seen.{seen}

-- Octets that are the block match it whole. If they aren't a block with node address 0, they are the block, changed on
-- the way.
abbrev pub match_with : Parts → List ℕ → Match
match_with block octets =
    if is_spelled block octets then Whole (spelling block)
    else (if is_none (seen octets) then Changed (spelling block) else Other)

-- only an end that is about to send a block can have sent the octets
abbrev pub match_of : Standing → List ℕ → Match
match_of (Sends block) octets = match_with block octets
match_of Left octets = Other
match_of Waits octets = Other

abbrev pub is_other : Match → Bool
is_other Other = true
is_other (Whole sent) = false
is_other (Changed sent) = false

-- the standing of the end after them
abbrev pub standing_by : Match → Standing
standing_by (Whole sent) = Waits
standing_by (Changed sent) = Waits
standing_by Other = Left

-- what the end sent, and how it arrived
abbrev pub sent_by : Match → List ℕ → Bool → List ℕ × Arrival
sent_by (Whole sent) octets lost = (sent, whole lost)
sent_by (Changed sent) octets lost = (sent, if lost then arrival.Lost else arrival.Changed octets)
sent_by Other octets lost = (octets, whole lost)
