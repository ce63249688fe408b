-- What a monitor keeps of a trace, and its report on each block: as the block was on the line, and as it reached the
-- other end if the trace says so. The clauses are those of ISO/IEC 7816-3:2006.
use Rattle.std.specs.Prelude.{◌≡◌, ◌≢◌, ◌⊎◌, ℕ, ◌+◌, ◌*◌, ◌/◌, ◌%◌, ◌==◌, ◌&&◌, ◌||◌, not, bit_and, bytes_eq, min, List, [], length, slice_index, Bool, true, false, if◌then◌else◌, Option, Some, None}
use Rattle.octet_core.specs.Grammar.{self_ended, Accepts, Refuses}
use Rattle.octet_core.specs.declared.stop.Stop.{Stop}
use Rattle.octet_core.specs.declared.stop.Stop.TheVariants.{At, Short}
use Rattle.block_core.specs.Block.{Parts, IsBlock, IsReason, is_whole}
use Rattle.block_core.specs.declared.pcb.Pcb.{Pcb}
use Rattle.block_core.specs.declared.pcb.Pcb.TheVariants.{Info, Ready, Request, Response}
use Rattle.block_core.specs.declared.pcb.S.TheVariants.{Resynch, Ifs, Abort, Wtx}
use Rattle.block_core.specs.declared.reason.BlockReason.{BlockReason}
use Rattle.block_core.specs.declared.reason.BlockReason.TheVariants.{BadPcb, BadLen, OverIfs, BadIfs, BadLrc}
use Rattle.line_core.specs.Bursts.{most_counted}
use Rattle.t1_core.specs.Came.{carried}
use Rattle.t1_core.specs.Terminal.{first_ifsd}
use Rattle.block_core.specs.declared.side.Side.{Side}
use Rattle.block_core.specs.declared.side.Side.TheVariants.{Terminal, Card}
use Rattle.judge_core.specs.declared.end.After.{After}
use Rattle.judge_core.specs.declared.rule.Rule.{Rule}
use Rattle.judge_core.specs.declared.rule.Rule.TheVariants.{NodeAddress, ControlOctet, Length, CheckOctet, ReservedSize}
use Rattle.judge_core.specs.declared.courses.Heard.{Heard}
use Rattle.judge_core.specs.declared.courses.Heard.TheVariants.{Beginning, Whole, Perhaps, Broken, Nothing}
use Rattle.judge_core.specs.declared.courses.Verdict.TheVariants.{Deviates}
use Rattle.judge_core.specs.declared.doubt.Doubt.TheVariants.{Clear}
use Rattle.judge_core.specs.declared.monitor.Watched.{Watched}
use Rattle.judge_core.specs.declared.monitor.Monitor.{Monitor}
use Rattle.judge_core.specs.declared.monitor.Silence.{Silence}
use Rattle.judge_core.specs.declared.monitor.Silence.TheVariants.{No, Possible, Certain}
use Rattle.judge_core.specs.declared.monitor.Arrival.{Arrival}
use Rattle.judge_core.specs.declared.monitor.Arrival.TheVariants.{Unsaid, Lost, Came}
use Rattle.judge_core.specs.declared.monitor.Said.{Said}
use Rattle.judge_core.specs.declared.monitor.Said.TheVariants.{Damage, Elsewhere, Block}
use Rattle.judge_core.specs.declared.monitor.Report.{Report}
use Rattle.judge_core.specs.declared.connection.Pairs.{Pairs}
use Rattle.judge_core.specs.declared.connection.Pairs.TheVariants.{First, Many}
use Rattle.judge_core.specs.declared.connection.Last.{Last}
use Rattle.judge_core.specs.declared.connection.Last.TheVariants.{Here, Unclear, Asked, Answered}
use Rattle.judge_core.specs.declared.end.End.{End}
use Rattle.judge_core.specs.Connections.{gone_on, gone_quiet, is_asked, is_away, is_open_to, pairs_with, settled}
use Rattle.judge_core.specs.Ends.{new_end, widest}
use Rattle.judge_core.specs.Followed.{last_after}
use Rattle.judge_core.specs.Courses.{got_whole, got_none, first_course, is_sure}
use Rattle.judge_core.specs.Doubts.{corrected, doubt_after, doubted_by, given_turn, in_doubt, is_open, is_turn, judged_of, passed_over, presumed, tried_after, unknown_end, waited}

-- the most octets that a field can have (11.3.2.3)
abbrev pub most_size : ℕ
most_size = 254

-- ---- octets on the line

-- What octets on the line are: a block; octets with the length and the check octet of a block, but of no valid block;
-- or damage.
pub data Seen : Type 0 where
  whole : (block : Parts) → Seen
  malformed : (broken : Rule) → Seen
  damage : Seen

-- the rule that such octets break (11.3.2.2, 11.3.2.3, 11.4.2); a wrong check octet breaks none
abbrev pub rule_of : BlockReason → Option Rule
rule_of BadPcb = Some ControlOctet
rule_of BadLen = Some Length
rule_of OverIfs = Some Length
rule_of BadIfs = Some ReservedSize
rule_of BadLrc = None

abbrev pub rule_at : Stop BlockReason → Option Rule
rule_at (Short place) = None
rule_at (At place reason) = rule_of reason

-- octets that aren't a block break a rule only if their length and their check octet are right; else they are damage
abbrev pub refused_as : Bool → Option Rule → Seen
refused_as true (Some broken) = malformed broken
refused_as true None = damage
refused_as false broken = damage

abbrev pub IsSeen : List ℕ → Seen → Type 0
IsSeen octets (whole block) = Accepts self_ended (IsBlock 254) octets block (length octets)
IsSeen octets seen =
    ((block : Parts) × (n : ℕ) × Accepts self_ended (IsBlock 254) octets block n × (n ≢ length octets)
    × (seen ≡ damage))
    ⊎ ((stop : Stop BlockReason) × Refuses self_ended (IsBlock 254) (IsReason 254) octets stop
    × (seen ≡ refused_as (is_whole octets) (rule_at stop)))

-- ---- octets that their sender made wrong

-- whether LEN says how many octets there are (11.3.2.3)
abbrev pub has_length : List ℕ → Bool
has_length octets = length octets == slice_index octets 2 + 4

-- The rule that octets break which aren't a block, if their sender made them so: the length, or else the check octet,
-- which makes the exclusive-or of all octets 00 (11.3.4).
abbrev pub rule_made : List ℕ → Rule
rule_made octets = if has_length octets then CheckOctet else Length

-- whether the trace says that the very same octets reached the other end, so that the line changed none
abbrev pub is_unchanged : List ℕ → Arrival → Bool
is_unchanged octets Unsaid = false
is_unchanged octets Lost = false
is_unchanged octets (Came arrived) = bytes_eq arrived.now octets

-- damage that the line didn't make is a deviation of the sender
abbrev pub made_as : Seen → Bool → Rule → Seen
made_as (whole block) made broken = whole block
made_as (malformed other) made broken = malformed other
made_as damage true broken = malformed broken
made_as damage false broken = damage

-- what octets are as their sender made them
abbrev pub IsSent : List ℕ → Arrival → Seen → Type 0
IsSent octets arrival sent = (seen : Seen) × IsSeen octets seen
    × (sent ≡ made_as seen (is_unchanged octets arrival) (rule_made octets))

-- ---- node addresses

-- the node address with its halves swapped: an answer goes back to the sender of the block (11.3.2.1)
abbrev pub swapped : ℕ → ℕ
swapped nad = (nad % 16) * 16 + nad / 16

-- Bits 4 and 8 of a node address are 0, and both addresses in it differ, unless both are 0 (11.3.2.1).
abbrev pub is_address : ℕ → Bool
is_address nad = (bit_and nad 0x88 == 0) && (nad == 0 || not (nad / 16 == nad % 16))

-- the node address of the terminal's blocks, from the node address of a block of this end
abbrev pub nad_of : Side → ℕ → ℕ
nad_of Terminal nad = nad
nad_of Card nad = swapped nad

abbrev pub is_addressed : Option ℕ → ℕ → Bool
is_addressed None nad = true
is_addressed (Some first) nad = nad == first

-- ---- what reached the other end

-- What the trace says about it: nothing, that the block was lost, or which octets came.
pub data Reaching : Type 0 where
  unsaid : Reaching
  lost : Reaching
  came : (seen : Seen) → Reaching

-- after silence a terminal may send again, and a card may not
abbrev pub after_silence : Side → Heard
after_silence Terminal = Broken
after_silence Card = Nothing

abbrev pub perhaps_heard : Bool → Seen → Heard
perhaps_heard true (whole block) = Perhaps block.pcb (carried block.inf)
perhaps_heard true (malformed broken) = Broken
perhaps_heard true damage = Broken
perhaps_heard false seen = Broken

abbrev pub surely_heard : Bool → Seen → Heard
surely_heard true (whole block) = Whole block.pcb (carried block.inf)
surely_heard true (malformed broken) = Broken
surely_heard true damage = Broken
surely_heard false seen = Broken

-- what this end has heard after a block of the other end; the two flags say whether the block, and the octets that
-- arrived, have the right node address
abbrev pub heard_of : Side → Bool → Bool → Seen → Reaching → Heard
heard_of side addressed came_addressed seen unsaid = perhaps_heard addressed seen
heard_of side addressed came_addressed seen lost = after_silence side
heard_of side addressed came_addressed seen (came arrived) = surely_heard came_addressed arrived

-- ---- the monitor

abbrev pub new_watched : Side → ℕ → Heard → Watched
new_watched side room heard = record {
  «end» = new_end side room;
  heard = heard;
  last = record { items = [] };
  number = 0;
  doubt = Clear;
}

-- The monitor at a reset of a card that takes fields of so many octets. The terminal sends first (rule 1 of 11.6.2.3).
abbrev pub new_monitor : ℕ → Monitor
new_monitor ifsc = record {
  terminal = new_watched Terminal ifsc Beginning;
  card = new_watched Card first_ifsd Nothing;
  nad = None;
  pairs = First;
  last = Here;
  blocks = 0;
}

-- what an end owes on the first course that it has
abbrev pub due : Watched → After
due w = first_course w.«end» (got_whole w.«end» w.heard) (got_none w.«end» w.heard)

-- What the monitor says about octets of this end. Damage is nobody's deviation.
abbrev pub said_of : Watched → Bool → Seen → Said
said_of w addressed damage = Damage
said_of w addressed (malformed broken) = Block (Deviates broken (due w))
said_of w true (whole block) = Block (judged_of w block).verdict
said_of w false (whole block) = Block (Deviates NodeAddress (due w))

-- an end whose last block nobody knows: it was damaged, wasn't a block, or had another address
abbrev pub unknown_after : Watched → ℕ → Watched
unknown_after w number = record w {
  «end» = unknown_end (presumed w.«end» w.heard);
  heard = after_silence w.«end».side;
  number = number;
  doubt = Clear;
}

abbrev pub known_after : Watched → Parts → ℕ → Watched
known_after w block number = record w {
  «end» = tried_after w.doubt block.pcb (judged_of w block).«end»;
  heard = after_silence w.«end».side;
  last = record { items = last_after w.last.items block.pcb block.inf };
  number = number;
  doubt = doubt_after w.doubt block.pcb (judged_of w block).verdict;
}

abbrev pub sender_after : Watched → Bool → Seen → ℕ → Watched
sender_after w addressed damage number = unknown_after w number
sender_after w addressed (malformed broken) number = unknown_after w number
sender_after w true (whole block) number = known_after w block number
sender_after w false (whole block) number = unknown_after w number

abbrev pub listens : Watched → Heard → Watched
listens w heard = record w { heard = heard }

-- ---- refusals and silences

-- whether these octets may say that their sender refused the block before: an R-block (rule 7.1), or no block
abbrev pub may_refuse : Pcb → Bool
may_refuse (Info number more) = false
may_refuse (Ready number fault) = true
may_refuse (Request s) = false
may_refuse (Response s) = false

abbrev pub is_refusing : Seen → Bool
is_refusing (whole block) = may_refuse block.pcb
is_refusing (malformed broken) = true
is_refusing damage = true

-- the silence of a card that heard a block, or may have, and sent none
abbrev pub silence_of : Heard → ℕ → Silence
silence_of Beginning number = No
silence_of (Whole pcb octet) number = Certain number
silence_of (Perhaps pcb octet) number = Possible number
silence_of Broken number = No
silence_of Nothing number = No

-- whether the octets have the right node address; the first whole block with an address sets the addresses
abbrev pub addressed_by : Side → Option ℕ → Seen → Bool
addressed_by from nad (whole block) = is_address block.nad && is_addressed nad (nad_of from block.nad)
addressed_by from nad (malformed broken) = true
addressed_by from nad damage = true

abbrev pub nad_set : Bool → Option ℕ → ℕ → Option ℕ
nad_set true None nad = Some nad
nad_set false None nad = None
nad_set known (Some first) nad = Some first

abbrev pub nad_after : Side → Option ℕ → Seen → Option ℕ
nad_after from nad (whole block) = nad_set (is_address block.nad) nad (nad_of from block.nad)
nad_after from nad (malformed broken) = nad
nad_after from nad damage = nad

abbrev pub came_by : Side → Option ℕ → Reaching → Bool
came_by from nad unsaid = true
came_by from nad lost = true
came_by from nad (came seen) = addressed_by from nad seen

-- blocks are counted from 1; the count stays at its greatest value
abbrev pub number_after : ℕ → ℕ
number_after blocks = min (blocks + 1) most_counted

-- each end after octets of its own
abbrev pub terminal_after : Monitor → Seen → Watched
terminal_after m seen = sender_after m.terminal (addressed_by Terminal m.nad seen) seen (number_after m.blocks)

abbrev pub card_after : Monitor → Seen → Watched
card_after m seen = sender_after m.card (addressed_by Card m.nad seen) seen (number_after m.blocks)

-- A card that sent nothing in time may send its block late. One that received nothing sends none.
abbrev pub heard_in_time : Heard → Heard
heard_in_time Beginning = Broken
heard_in_time (Whole pcb octet) = Broken
heard_in_time (Perhaps pcb octet) = Broken
heard_in_time Broken = Broken
heard_in_time Nothing = Nothing

-- ---- other logical connections

-- whether these octets are a block with a pair of node addresses that isn't the first one (11.3.2.1)
abbrev pub is_other : Side → Option ℕ → Seen → Bool
is_other from None seen = false
is_other from (Some first) (whole block) = is_address block.nad && not (nad_of from block.nad == first)
is_other from (Some first) (malformed broken) = false
is_other from (Some first) damage = false

-- the pair of a block
abbrev pub pair_of : Side → Seen → ℕ
pair_of from (whole block) = nad_of from block.nad
pair_of from (malformed broken) = 0
pair_of from damage = 0

-- whether octets are a block of another connection, which isn't judged: the terminal may open any, and the card may
-- answer in one that the terminal used
abbrev pub is_elsewhere : Monitor → Side → Seen → Bool
is_elsewhere m Terminal seen = is_other Terminal m.nad seen
is_elsewhere m Card seen =
    is_other Card m.nad seen && is_open_to m.pairs m.last (is_sure m.card.heard) (pair_of Card seen)

-- the pairs with that of this block
abbrev pub opened_by : Side → Option ℕ → Pairs → Seen → Pairs
opened_by from nad pairs seen = if is_other from nad seen then pairs_with pairs (pair_of from seen) else pairs

-- what came may have another pair than what was sent
abbrev pub opened_on_arrival : Option ℕ → Pairs → Reaching → Pairs
opened_on_arrival nad pairs unsaid = pairs
opened_on_arrival nad pairs lost = pairs
opened_on_arrival nad pairs (came seen) = opened_by Terminal nad pairs seen

-- whether nobody knows the pair: neither what was sent nor what came is a block
abbrev pub is_no_block : Seen → Bool
is_no_block (whole block) = false
is_no_block (malformed broken) = true
is_no_block damage = true

abbrev pub no_block_came : Reaching → Bool
no_block_came unsaid = true
no_block_came lost = true
no_block_came (came seen) = is_no_block seen

-- of which connection the last octets were, after octets of the terminal that aren't of another one
abbrev pub last_sent : Last → Seen → Reaching → Last
last_sent last seen reaching = if is_no_block seen && no_block_came reaching then Unclear else gone_on last

-- What the card of the first connection heard since its last block, after the terminal sent a block of another one. A
-- card that doesn't take another pair may refuse the block in the first connection, as one that it can't use. If the
-- block was damaged on its way, the card doesn't know its connection, and may answer in the first.
abbrev pub heard_aside : Option ℕ → Heard → Reaching → Heard
heard_aside nad heard unsaid = Broken
heard_aside nad heard lost = heard_in_time heard
heard_aside nad heard (came seen) =
    if is_other Terminal nad seen then Broken
    else in_doubt (surely_heard (addressed_by Terminal nad seen) seen)

-- The card of the first connection after it sent a block of another one: it answered, and owes no more, unless it may
-- be late.
abbrev pub heard_no_more : Heard → Heard
heard_no_more Beginning = Beginning
heard_no_more (Whole pcb octet) = Perhaps pcb octet
heard_no_more (Perhaps pcb octet) = Perhaps pcb octet
heard_no_more Broken = Nothing
heard_no_more Nothing = Nothing

abbrev pub answered_aside : Watched → Watched
answered_aside w = listens w (if is_open w.doubt then in_doubt w.heard else heard_no_more w.heard)

-- The terminal of the first connection, while another one is open, after octets of the card of which it heard this.
-- Octets that it can't use may be of either connection. A block of the first may come although its turn isn't over.
abbrev pub overhears : Watched → Heard → Watched
overhears w Broken = listens w (in_doubt w.heard)
overhears w heard = listens (passed_over w) heard

abbrev pub answers_terminal : Last → Watched → Heard → Watched
answers_terminal last w heard = if is_away last then overhears w heard else listens w heard

-- the terminal of the first connection after the card sent a block of another one, which may have come damaged
abbrev pub hears_aside : Option ℕ → Watched → Reaching → Watched
hears_aside nad w unsaid = listens w (in_doubt w.heard)
hears_aside nad w lost = w
hears_aside nad w (came seen) =
    if is_other Card nad seen then w else overhears w (surely_heard (addressed_by Card nad seen) seen)

-- RESYNCH in another connection may begin the first one anew, too: nobody knows the numbers then
abbrev pub is_resynch : Pcb → Bool
is_resynch (Info number more) = false
is_resynch (Ready number fault) = false
is_resynch (Request Resynch) = true
is_resynch (Request Ifs) = false
is_resynch (Request Abort) = false
is_resynch (Request Wtx) = false
is_resynch (Response s) = false

abbrev pub asks_resynch : Seen → Bool
asks_resynch (whole block) = is_resynch block.pcb
asks_resynch (malformed broken) = false
asks_resynch damage = false

abbrev pub shaken_end : End → End
shaken_end e = unknown_end (record e { room = widest e })

abbrev pub shaken : Bool → Watched → Watched
shaken resynch w = if resynch then record w { «end» = shaken_end w.«end» } else w

abbrev pub is_lost : Reaching → Bool
is_lost unsaid = false
is_lost lost = true
is_lost (came seen) = false

-- ---- the monitor after octets

-- each end's octets of the first connection, or of an unknown one
abbrev pub here_after : Monitor → Side → Seen → Reaching → Monitor
here_after m Terminal seen reaching = record {
  terminal = terminal_after m seen;
  card = listens (corrected (passed_over m.card) (is_refusing seen)) (doubted_by (terminal_after m seen).doubt
      (heard_of Card (addressed_by Terminal m.nad seen)
      (came_by Terminal (nad_after Terminal m.nad seen) reaching) seen reaching));
  nad = nad_after Terminal m.nad seen;
  pairs = opened_on_arrival (nad_after Terminal m.nad seen) m.pairs reaching;
  last = last_sent m.last seen reaching;
  blocks = number_after m.blocks;
}
here_after m Card seen reaching = record {
  terminal = given_turn (not (is_lost reaching)) (answers_terminal m.last (corrected m.terminal (is_refusing seen))
      (doubted_by (card_after m seen).doubt (heard_of Terminal (addressed_by Card m.nad seen)
      (came_by Card (nad_after Card m.nad seen) reaching) seen reaching)));
  card = card_after m seen;
  nad = nad_after Card m.nad seen;
  pairs = m.pairs;
  last = settled m.last;
  blocks = number_after m.blocks;
}

-- A block of another connection changes no number, chain or size of the first, except that after RESYNCH nobody knows
-- whether the first began anew too.
abbrev pub asked_elsewhere : Monitor → Seen → Reaching → Monitor
asked_elsewhere m seen reaching = record m {
  terminal = shaken (asks_resynch seen) m.terminal;
  card = listens (shaken (asks_resynch seen && not (is_lost reaching)) (passed_over m.card))
      (heard_aside m.nad m.card.heard reaching);
  pairs = opened_on_arrival m.nad m.pairs reaching;
  last = Asked;
}

abbrev pub answered_elsewhere : Monitor → Reaching → Monitor
answered_elsewhere m reaching = record m {
  terminal = hears_aside m.nad m.terminal reaching;
  card = answered_aside m.card;
  last = Answered;
}

-- the monitor with one more block of another connection
abbrev pub counted_elsewhere : Monitor → Side → Seen → Monitor
counted_elsewhere m from seen =
    record m { pairs = opened_by from m.nad m.pairs seen; blocks = number_after m.blocks }

abbrev pub elsewhere_after : Monitor → Side → Seen → Reaching → Monitor
elsewhere_after m Terminal seen reaching = asked_elsewhere (counted_elsewhere m Terminal seen) seen reaching
elsewhere_after m Card seen reaching = answered_elsewhere (counted_elsewhere m Card seen) reaching

abbrev pub monitor_after : Monitor → Side → Seen → Reaching → Monitor
monitor_after m from seen reaching =
    if is_elsewhere m from seen then elsewhere_after m from seen reaching else here_after m from seen reaching

-- ---- reports

-- The report on a block, and on a card that sent none before it. It has the number of the other end's last block.
abbrev pub report_with : Monitor → Side → Said → Report
report_with m Terminal said = record {
  silence = silence_of m.card.heard m.terminal.number;
  said = said;
  before = m.card.number;
}
report_with m Card said = record { silence = No; said = said; before = m.terminal.number }

abbrev pub sender : Monitor → Side → Watched
sender m Terminal = m.terminal
sender m Card = m.card

abbrev pub said_here : Monitor → Side → Seen → Said
said_here m from seen = said_of (sender m from) (addressed_by from m.nad seen) seen

-- what the monitor says of octets of an end
abbrev pub said_in : Monitor → Side → Seen → Said
said_in m from seen = if is_elsewhere m from seen then Elsewhere else said_here m from seen

abbrev pub report_here : Monitor → Side → Seen → Report
report_here m from seen = report_with m from (said_here m from seen)

abbrev pub report_of : Monitor → Side → Seen → Report
report_of m from seen = report_with m from (said_in m from seen)

abbrev pub IsReaching : Arrival → Reaching → Type 0
IsReaching Unsaid reaching = reaching ≡ unsaid
IsReaching Lost reaching = reaching ≡ lost
IsReaching (Came octets) reaching = (seen : Seen) × IsSeen octets.now seen × (reaching ≡ came seen)

-- The monitor takes these octets of an end, and is then m'.
pub record Takes (m : Monitor) (from : Side) (octets : List ℕ) (arrival : Arrival) (m' : Monitor) (report : Report)
    : Type 0 where
  pub seen : Seen
  pub is_sent : IsSent octets arrival seen
  pub reaching : Reaching
  pub is_reaching : IsReaching arrival reaching
  pub after : m' ≡ monitor_after m from seen reaching
  pub reports : report ≡ report_of m from seen

-- While the terminal waits for the answer to a block of another connection, its first connection rests. If the last
-- block was of another connection and the first one's turn is the terminal's, it heard nothing of that block, or sent
-- one that the tap didn't see, perhaps in the first connection.
abbrev pub waited_aside : Last → Watched → Watched
waited_aside last w = if is_away last && is_turn w.heard then passed_over w else waited w

abbrev pub waited_here : Last → Watched → Watched
waited_here last w = if is_asked last then w else waited_aside last w

abbrev pub quiet_after : Monitor → Monitor
quiet_after m = record m {
  terminal = waited_here m.last m.terminal;
  last = gone_quiet m.last;
  card = listens (corrected (passed_over m.card) true) (heard_in_time m.card.heard);
}

-- The monitor of a trace that begins in the midst of a session: nobody knows the state of the ends, the sizes that hold
-- or the addresses, and either end may send first. The terminal may have used any pairs. Blocks are counted on.
abbrev pub met : Side → Watched
met side = record (new_watched side most_size Broken) { «end» = unknown_end (new_end side most_size) }

abbrev pub midway_after : Monitor → Monitor
midway_after m = record {
  terminal = met Terminal;
  card = met Card;
  nad = None;
  pairs = Many;
  last = Here;
  blocks = m.blocks;
}

-- The monitor after a reset of the card: both ends begin again, and blocks are counted on.
abbrev pub reset_after : Monitor → ℕ → Monitor
reset_after m ifsc = record (new_monitor ifsc) { blocks = m.blocks }
