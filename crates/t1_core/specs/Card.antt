-- The card of the T=1 protocol (ISO/IEC 7816-3, clause 11.6). It counts no failures, and what RESYNCH leaves is this
-- project's profile.
use Rattle.std.specs.Prelude.{ℕ, ◌+◌, List, [], ◌∷◌, ◌++◌, length, take, drop, Bool, true, false, ◌&&◌, ◌==◌, nat_le, if◌then◌else◌, Option, Some, None, Result, Ok, Err}
use Rattle.block_core.specs.Block.{Parts}
use Rattle.block_core.specs.declared.pcb.Number.{Number}
use Rattle.block_core.specs.declared.pcb.Number.TheVariants.{Zero}
use Rattle.block_core.specs.declared.pcb.Fault.TheVariants.{Free, Redundancy, Other}
use Rattle.block_core.specs.declared.pcb.S.TheVariants.{Resynch, Ifs, Wtx}
use Rattle.block_core.specs.declared.pcb.Pcb.TheVariants.{Info, Ready, Request, Response}
use Rattle.t1_core.specs.declared.turns.CardTurn.{CardTurn}
use Rattle.t1_core.specs.declared.turns.CardTurn.TheVariants.{Send, Asked}
use Rattle.t1_core.specs.declared.turns.CardFault.{CardFault}
use Rattle.t1_core.specs.declared.turns.CardFault.TheVariants.{Order, TooLong, Reserved}
use Rattle.block_core.specs.Block.{other}
use Rattle.t1_core.specs.Came.{Came, got, damaged, same, carried, info, ready, request, response}
use Rattle.t1_core.specs.Terminal.{Limits, longest, first_ifsd, is_reserved, is_more}

-- What the card has asked the terminal for, for its host.
pub data CardRequest : Type 0 where
  size : (size : ℕ) → CardRequest
  time : (multiple : ℕ) → CardRequest

-- What the card waits for.
pub data Waits : Type 0 where
  -- a command: these octets of it came so far
  command : (joined : List ℕ) → Waits
  -- its host, which owes the reply to the command
  host : Waits
  -- the R-block after the I-block with this field, which the rest of the reply follows
  reply : (field rest : List ℕ) → Waits
  -- the response to a request; the host still owes the reply
  asking : (asked : CardRequest) → Waits

-- What the card holds.
pub record CardState : Type 0 where
  -- the number of the I-block that it has sent or sends next, and the number that it expects from the terminal
  pub number : Number
  pub expected : Number
  -- the field of its last I-block, until something acknowledges it
  pub saved : Option (List ℕ)
  -- the most octets of a field that the card takes, that the terminal takes, and that the card takes at the start
  pub ifsc : ℕ
  pub ifsd : ℕ
  pub first_ifsc : ℕ
  -- the last whole command that its host got, until the next command begins
  pub command : List ℕ
  pub waits : Waits
  -- the most octets of a command, and of a reply
  pub limits : Limits

-- the card at the start, with room for messages of so many octets
abbrev pub card_with : Limits → ℕ → CardState
card_with limits ifsc = record {
  number = Zero;
  expected = Zero;
  saved = None;
  ifsc = ifsc;
  ifsd = first_ifsd;
  first_ifsc = ifsc;
  command = [];
  waits = command [];
  limits = limits;
}

abbrev pub new_card : ℕ → CardState
new_card ifsc = card_with longest ifsc

abbrev pub CardStep : Type 0
CardStep = Result (CardTurn × CardState) CardFault

-- the last block of a reply is saved; then what the card waits for
abbrev pub saving : Option (List ℕ) → List ℕ → List ℕ → Option (List ℕ)
saving saved field [] = Some field
saving saved field (octet ∷ rest) = saved

abbrev pub waiting : List ℕ → List ℕ → Waits
waiting field [] = command []
waiting field (octet ∷ rest) = reply field (octet ∷ rest)

-- It sends the next I-block of the rest of the reply, cut at the present IFSD.
abbrev pub sends_info : CardState → List ℕ → List ℕ → CardStep
sends_info c field rest = Ok (
  Send (info c.number (is_more rest) field),
  record c { saved = saving c.saved field rest; waits = waiting field rest },
)

abbrev pub sends_next : CardState → List ℕ → CardStep
sends_next c octets = sends_info c (take c.ifsd octets) (drop c.ifsd octets)

-- The number after an I-block of the terminal, which acknowledges a saved block.
abbrev pub number_after : Option (List ℕ) → Number → Number
number_after None number = number
number_after (Some field) number = other number

-- An I-block of the command that fits is joined to it.
abbrev pub joins : CardState → List ℕ → Bool → CardStep
joins c joined true = Ok (
  Send (ready (other c.expected) Free),
  record c {
    number = number_after c.saved c.number;
    saved = None;
    expected = other c.expected;
    command = [];
    waits = command joined;
  },
)
joins c joined false = Ok (
  Asked,
  record c {
    number = number_after c.saved c.number;
    saved = None;
    expected = other c.expected;
    command = joined;
    waits = host;
  },
)

-- after an R-block with its own number it sends the saved block again
abbrev pub sends_saved : CardState → Option (List ℕ) → Bool → CardStep
sends_saved c (Some field) true = Ok (Send (info c.number false field), c)
sends_saved c saved is_own = Ok (Send (ready c.expected Free), c)

-- What the card does alike while it waits for a block of the command or for an R-block.
abbrev pub in_either : CardState → Came → CardStep
in_either c (got (Request Ifs) inf) = Ok (Send (response Ifs inf), record c { ifsd = carried inf })
in_either c damaged = Ok (Send (ready c.expected Redundancy), c)
in_either c came = Ok (Send (ready c.expected Other), c)

-- The card waits for a command.
abbrev pub in_command : CardState → List ℕ → Came → CardStep
in_command c joined (got (Info number goes_on) inf) =
    if same number c.expected && nat_le (length joined + length inf) c.limits.command
    then joins c (joined ++ inf) goes_on
    else in_either c (got (Info number goes_on) inf)
in_command c joined (got (Ready number fault) inf) = sends_saved c c.saved (same number c.number)
in_command c joined came = in_either c came

-- The card has sent an I-block of the reply with M=1.
abbrev pub in_reply : CardState → List ℕ → List ℕ → Came → CardStep
in_reply c field rest (got (Ready number fault) inf) =
    if same number c.number
    then Ok (Send (info c.number true field), c)
    else sends_next (record c { number = other c.number }) rest
in_reply c field rest came = in_either c came

abbrev pub request_block : CardRequest → Parts
request_block (size n) = request Ifs (n ∷ [])
request_block (time n) = request Wtx (n ∷ [])

-- The card waits for the response to a request.
abbrev pub in_asking : CardState → CardRequest → Came → CardStep
in_asking c (size n) (got (Response Ifs) inf) =
    if carried inf == n
    then Ok (Asked, record c { ifsc = n; waits = host })
    else Ok (Send (request_block (size n)), c)
in_asking c (time n) (got (Response Wtx) inf) =
    if carried inf == n
    then Ok (Asked, record c { waits = host })
    else Ok (Send (request_block (time n)), c)
in_asking c asked came = Ok (Send (request_block asked), c)

-- RESYNCH: the card is as at the start, with no command.
abbrev pub resynched : CardState → CardStep
resynched c = Ok (Send (response Resynch []), card_with c.limits c.first_ifsc)

-- A block came.
abbrev pub card_came : CardState → Waits → Came → CardStep
card_came c host came = Err Order
card_came c waits (got (Request Resynch) inf) = resynched c
card_came c (command joined) came = in_command c joined came
card_came c (reply field rest) came = in_reply c field rest came
card_came c (asking asked) came = in_asking c asked came

-- The calls of the host, and what the line delivered.
pub data CardInput : Type 0 where
  replies : (octets : List ℕ) → CardInput
  more_time : (multiple : ℕ) → CardInput
  ask_ifs : (size : ℕ) → CardInput
  takes : (came : Came) → CardInput

-- a call that the card accepts only while the host owes its reply
abbrev pub if_host : Waits → CardStep → CardStep
if_host host step = step
if_host waits step = Err Order

abbrev pub card_turn : CardState → CardInput → CardStep
card_turn c (replies octets) =
    if_host c.waits
    (if nat_le (length octets) c.limits.answer
    then sends_next c octets
    else Err TooLong)
card_turn c (more_time n) = if_host c.waits (Ok (Send (request_block (time n)), record c { waits = asking (time n) }))
card_turn c (ask_ifs n) =
    if_host c.waits
    (if is_reserved n
    then Err Reserved
    else Ok (Send (request_block (size n)), record c { waits = asking (size n) }))
card_turn c (takes came) = card_came c c.waits came

-- What a call returns, and the state after it.
abbrev pub turn_of : CardStep → Result CardTurn CardFault
turn_of (Ok step) = Ok step.0
turn_of (Err fault) = Err fault

abbrev pub state_after : CardState → CardStep → CardState
state_after c (Ok step) = step.1
state_after c (Err fault) = c
