-- Several logical connections on one line (ISO/IEC 7816-3:2006, 11.3.2.1): which pairs of node addresses the terminal
-- used, and of which connection the last octets were. A pair is the node address of the terminal's blocks. The judge
-- follows the connection of the first block, and no other.
use Rattle.std.specs.Prelude.{ℕ, ◌==◌, ◌&&◌, ◌||◌, not, Bool, true, false, if◌then◌else◌}
use Rattle.judge_core.specs.declared.connection.Pairs.{Pairs}
use Rattle.judge_core.specs.declared.connection.Pairs.TheVariants.{First, Two, Many}
use Rattle.judge_core.specs.declared.connection.Last.{Last}
use Rattle.judge_core.specs.declared.connection.Last.TheVariants.{Here, Unclear, Asked, Late, Answered}

-- whether the terminal used this pair, which isn't that of the first block
abbrev pub is_among : Pairs → ℕ → Bool
is_among First nad = false
is_among (Two other) nad = other == nad
is_among Many nad = true

abbrev pub pairs_with : Pairs → ℕ → Pairs
pairs_with First nad = Two nad
pairs_with (Two other) nad = if other == nad then Two other else Many
pairs_with Many nad = Many

-- the terminal's octets weren't a block, and a card that answers them may use any pair
abbrev pub is_unclear : Last → Bool
is_unclear Here = false
is_unclear Unclear = true
is_unclear Asked = false
is_unclear Late = false
is_unclear Answered = false

-- the terminal waits for the answer to a block of another connection
abbrev pub is_asked : Last → Bool
is_asked Here = false
is_asked Unclear = false
is_asked Asked = true
is_asked Late = false
is_asked Answered = false

-- the card may still answer a block of another connection
abbrev pub is_outstanding : Last → Bool
is_outstanding Here = false
is_outstanding Unclear = false
is_outstanding Asked = true
is_outstanding Late = true
is_outstanding Answered = false

-- octets of the card that aren't a block may be of another connection
abbrev pub is_away : Last → Bool
is_away Here = false
is_away Unclear = false
is_away Asked = true
is_away Late = true
is_away Answered = true

-- Whether a block of the card with this pair may be of another connection: the terminal used that pair, and the card
-- doesn't certainly owe an answer of the first connection. A card opens no connection.
abbrev pub is_open_to : Pairs → Last → Bool → ℕ → Bool
is_open_to pairs last owes nad = is_unclear last || (is_among pairs nad && (not owes || is_outstanding last))

-- after octets of the terminal in the first connection: a card that didn't answer a block of another one may do so late
abbrev pub gone_on : Last → Last
gone_on Here = Here
gone_on Unclear = Unclear
gone_on Asked = Late
gone_on Late = Late
gone_on Answered = Here

-- after the end of the terminal's waiting time
abbrev pub gone_quiet : Last → Last
gone_quiet Here = Here
gone_quiet Unclear = Unclear
gone_quiet Asked = Late
gone_quiet Late = Late
gone_quiet Answered = Answered

-- after octets of the card that are of the first connection, or of an unknown one
abbrev pub settled : Last → Last
settled Here = Here
settled Unclear = Here
settled Asked = Late
settled Late = Late
settled Answered = Here
