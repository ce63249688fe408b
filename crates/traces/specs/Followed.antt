-- An end that did as it should replays its recording.
use Rattle.std.specs.Prelude.{◌≡◌, ℕ, List, Bool, true, false, None, Ok}
use Rattle.exchange_core.specs.Replay.{replay_from}
use Rattle.block_core.specs.declared.side.Side.{Side}
use Rattle.block_core.specs.declared.side.Side.TheVariants.{Terminal, Card}
use Rattle.traces.specs.declared.standing.Standing.{Standing}
use Rattle.traces.specs.declared.standing.Standing.TheVariants.{Left, Waits, Sends}
use Rattle.traces.specs.declared.trace.Item.{Item}
use Rattle.traces.specs.Following.{Following, after_items, begun}
use Rattle.traces.specs.Recorded.{noted_lines}

abbrev pub is_followed : Standing → Bool
is_followed Left = false
is_followed Waits = true
is_followed (Sends block) = true

abbrev pub standing_of : Side → Following → Standing
standing_of Terminal f = f.terminal_is
standing_of Card f = f.card_is

-- an end that is followed to the end of what was seen replays the recording
abbrev pub FollowedReplays : Type 0
FollowedReplays = (side : Side) (ifsc : ℕ) (items : List Item)
    → is_followed (standing_of side (after_items (begun ifsc) items)) ≡ true
    → replay_from (Ok ifsc) (noted_lines ifsc items) side ≡ None
