-- What the applications said, from the blocks that are still to come: what the I-blocks of an end say, and which call
-- made it send its next block.
use Rattle.std.specs.Prelude.{ℕ, List, [], ◌∷◌, ◌++◌, Bool, true, false, not, if◌then◌else◌, Option, Some, None}
use Rattle.block_core.specs.Block.{Parts, other}
use Rattle.block_core.specs.declared.pcb.Number.{Number}
use Rattle.block_core.specs.declared.pcb.Number.TheVariants.{One}
use Rattle.block_core.specs.declared.pcb.S.TheVariants.{Resynch, Ifs, Wtx}
use Rattle.block_core.specs.declared.pcb.Pcb.{Pcb}
use Rattle.block_core.specs.declared.pcb.Pcb.TheVariants.{Info, Request, Response}
use Rattle.t1_core.specs.Came.{carried, same}
use Rattle.block_core.specs.Side.{other as opposite, same_side}
use Rattle.block_core.specs.declared.side.Side.{Side}
use Rattle.block_core.specs.declared.side.Side.TheVariants.{Terminal, Card}
use Rattle.exchange_text.specs.declared.line.Line.{Line}
use Rattle.exchange_text.specs.declared.line.Line.TheVariants as line
use Rattle.traces.specs.declared.trace.Item.{Item}
use Rattle.traces.specs.declared.said.Numbers.{Numbers}
use Rattle.traces.specs.Seen.{block_in}

-- ---- the numbers of the last I-blocks that were seen

-- before any I-block, and after RESYNCH, as if the last I-block of each end had the number 1
abbrev pub at_first : Numbers
at_first = record { terminal = One; card = One }

abbrev pub number_of : Side → Numbers → Number
number_of Terminal n = n.terminal
number_of Card n = n.card

abbrev pub with_number : Numbers → Side → Number → Numbers
with_number n Terminal number = record { terminal = number; card = n.card }
with_number n Card number = record { terminal = n.terminal; card = number }

abbrev pub is_resynch : Pcb → Bool
is_resynch (Request Resynch) = true
is_resynch (Response Resynch) = true
is_resynch pcb = false

abbrev pub numbers_with : Numbers → Side → Pcb → Numbers
numbers_with n side (Info number more) = with_number n side number
numbers_with n side (Request Resynch) = at_first
numbers_with n side (Response Resynch) = at_first
numbers_with n side pcb = n

abbrev pub numbers_by : Numbers → Option (Side × Parts) → Numbers
numbers_by n None = n
numbers_by n (Some (side, block)) = numbers_with n side block.pcb

-- the numbers after an item
abbrev pub numbers_after : Numbers → Item → Numbers
numbers_after n item = numbers_by n (block_in item)

-- ---- messages

-- How much of a message was seen: the end that sends it; the number of the other end's last I-block before it; the
-- number of its next block, if one was seen; its octets; and whether its last block said that more follows.
pub record Said : Type 0 where
  pub from : Side
  pub last : Number
  pub next : Option Number
  pub octets : List ℕ
  pub more_comes : Bool

abbrev pub begun : Side → Numbers → Said
begun from n = record {
  from = from;
  last = number_of (opposite from) n;
  next = None;
  octets = [];
  more_comes = false;
}

-- A block of the other end ends the message: an I-block with another number than the last one, a response, or RESYNCH.
-- Each such block comes after the whole message.
abbrev pub turns_over : Number → Pcb → Bool
turns_over last (Info number more) = not (same number last)
turns_over last (Response kind) = true
turns_over last (Request Resynch) = true
turns_over last pcb = false

-- the first block of a message may have either number
abbrev pub is_next : Option Number → Number → Bool
is_next None number = true
is_next (Some next) number = same number next

-- a block of the message's end: its next I-block is joined, RESYNCH ends the message, and other blocks are skipped
abbrev pub joins : Said → List ℕ → Pcb → Said × Bool
joins s inf (Info number more) =
    if is_next s.next number
    then (
      record { from = s.from; last = s.last; next = Some (other number); octets = s.octets ++ inf; more_comes = more },
      not more,
    )
    else (s, false)
joins s inf pcb = (s, is_resynch pcb)

abbrev pub takes_block : Said → Option (Side × Parts) → Said × Bool
takes_block s None = (s, false)
takes_block s (Some (side, block)) =
    if same_side side s.from then joins s block.inf block.pcb else (s, turns_over s.last block.pcb)

-- an item, and whether the message ends with it
abbrev pub takes : Said → Item → Said × Bool
takes s item = takes_block s (block_in item)

-- if more was to come, one octet stands for what nobody saw
abbrev pub unseen : Bool → List ℕ
unseen true = 0 ∷ []
unseen false = []

abbrev pub closed : Said → List ℕ
closed s = s.octets ++ unseen s.more_comes

abbrev pub unless_ended : (Said → List ℕ) → Said × Bool → List ℕ
unless_ended rest (s, true) = closed s
unless_ended rest (s, false) = rest s

abbrev pub said_from : List Item → Said → List ℕ
said_from [] s = closed s
said_from (item ∷ items) s = unless_ended (λ next. said_from items next) (takes s item)

-- what the I-blocks of an end say from these items on
abbrev pub message : Side → Numbers → List Item → List ℕ
message from n items = said_from items (begun from n)

abbrev pub cut_unless_ended : (Said → Bool) → Said × Bool → Bool
cut_unless_ended rest (s, true) = s.more_comes
cut_unless_ended rest (s, false) = rest s

abbrev pub cut_from : List Item → Said → Bool
cut_from [] s = s.more_comes
cut_from (item ∷ items) s = cut_unless_ended (λ next. cut_from items next) (takes s item)

-- whether more of that was to come, so that its last octet stands for what nobody saw
abbrev pub is_cut : Side → Numbers → List Item → Bool
is_cut from n items = cut_from items (begun from n)

-- ---- calls

abbrev pub first_by : Side → Number → Option Parts → Option (Side × Parts) → Option Parts
first_by from last rest None = rest
first_by from last rest (Some (side, block)) =
    if same_side side from then Some block else (if turns_over last block.pcb then None else rest)

-- the first block of an end, before the other end goes on to something else
abbrev pub first_block : Side → Number → List Item → Option Parts
first_block from last [] = None
first_block from last (item ∷ items) = first_by from last (first_block from last items) (block_in item)

abbrev pub host_says : Numbers → List Item → List ℕ → Pcb → Line
host_says n items inf (Request Ifs) = line.Ifsc (carried inf)
host_says n items inf (Request Wtx) = line.Time (carried inf)
host_says n items inf pcb = line.Reply (message Card n items)

abbrev pub host_by : Numbers → List Item → Option Parts → Line
host_by n items None = line.Reply (message Card n items)
host_by n items (Some block) = host_says n items block.inf block.pcb

-- What the card's host says next: it asks for a size or for time if the card's next block is that request; else it
-- replies with what the card's I-blocks say.
abbrev pub host_line : Numbers → List Item → Line
host_line n items = host_by n items (first_block Card n.terminal items)

abbrev pub application_says : Numbers → List Item → List ℕ → Pcb → Line
application_says n items inf (Request Ifs) = line.Ifsd (carried inf)
application_says n items inf pcb = line.Command (message Terminal n items)

abbrev pub application_by : Numbers → List Item → Option Parts → Line
application_by n items None = line.Command (message Terminal n items)
application_by n items (Some block) = application_says n items block.inf block.pcb

-- What the application says next: it asks for a size if the terminal's next block is that request; else it passes the
-- command that the terminal's I-blocks say.
abbrev pub application_line : Numbers → List Item → Line
application_line n items = application_by n items (first_block Terminal n.card items)

-- ---- calls whose end nobody saw

abbrev pub host_cut : Numbers → List Item → Pcb → Bool
host_cut n items (Request Ifs) = false
host_cut n items (Request Wtx) = false
host_cut n items pcb = is_cut Card n items

abbrev pub host_cut_by : Numbers → List Item → Option Parts → Bool
host_cut_by n items None = is_cut Card n items
host_cut_by n items (Some block) = host_cut n items block.pcb

abbrev pub host_is_cut : Numbers → List Item → Bool
host_is_cut n items = host_cut_by n items (first_block Card n.terminal items)

abbrev pub application_cut : Numbers → List Item → Pcb → Bool
application_cut n items (Request Ifs) = false
application_cut n items pcb = is_cut Terminal n items

abbrev pub application_cut_by : Numbers → List Item → Option Parts → Bool
application_cut_by n items None = is_cut Terminal n items
application_cut_by n items (Some block) = application_cut n items block.pcb

abbrev pub application_is_cut : Numbers → List Item → Bool
application_is_cut n items = application_cut_by n items (first_block Terminal n.card items)
