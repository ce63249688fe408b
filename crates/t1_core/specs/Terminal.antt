-- The terminal of the T=1 protocol (ISO/IEC 7816-3, clause 11.6). The counts of repeats, and what RESYNCH leaves, are
-- this project's profile.
use Rattle.std.specs.Prelude.{ℕ, ◌+◌, List, [], ◌∷◌, ◌++◌, length, take, drop, Bool, true, false, ◌&&◌, ◌==◌, nat_lt, nat_le, min, if◌then◌else◌, Option, Some, None, Result, Ok, Err}
pub use Rattle.octet_core.specs.Sizes.{is_reserved}
use Rattle.chain_core.specs.Longest.{longest_command, longest_response}
use Rattle.block_core.specs.Block.{Parts}
use Rattle.block_core.specs.declared.pcb.Number.{Number}
use Rattle.block_core.specs.declared.pcb.Number.TheVariants.{Zero}
use Rattle.block_core.specs.declared.pcb.Fault.TheVariants.{Free, Redundancy, Other}
use Rattle.block_core.specs.declared.pcb.S.TheVariants.{Resynch, Ifs, Wtx}
use Rattle.block_core.specs.declared.pcb.Pcb.TheVariants.{Info, Ready, Request, Response}
use Rattle.t1_core.specs.declared.turns.TerminalTurn.{TerminalTurn}
use Rattle.t1_core.specs.declared.turns.TerminalTurn.TheVariants.{Send, Answered, IfsSet, GivenUp, Dead}
use Rattle.t1_core.specs.declared.turns.TerminalFault.{TerminalFault}
use Rattle.t1_core.specs.declared.turns.TerminalFault.TheVariants.{Dead as IsDead, Busy, TooLong, Reserved, Idle}
use Rattle.block_core.specs.Block.{other}
use Rattle.t1_core.specs.Came.{Came, got, damaged, quiet, same, carried, info, ready, request, response}

-- What the terminal waits for.
pub data Waits : Type 0 where
  -- a call: nothing is in progress
  idle : Waits
  -- the R-block after the I-block with this field, which the rest of the command follows
  ack : (field rest : List ℕ) → Waits
  -- the first block of the answer; the command's last I-block has this field
  answer : (field : List ℕ) → Waits
  -- the next block of the answer, which has these octets so far
  more : (joined : List ℕ) → Waits
  -- the response to its request for a size of information fields
  ifs : (size : ℕ) → Waits
  -- the response to RESYNCH, after so many requests
  resynch : (asked : ℕ) → Waits
  -- nothing: the card doesn't answer any more
  dead : Waits

-- The most octets of a message that an end has room for.
pub record Limits : Type 0 where
  pub command : ℕ
  pub answer : ℕ

-- the longest command and response (ISO/IEC 7816-4, clause 5.1)
abbrev pub longest : Limits
longest = record { command = longest_command; answer = longest_response }

-- Limits of so many octets, but no more than the longest messages have.
abbrev pub at_most : ℕ → ℕ → Limits
at_most m n = record { command = min m longest_command; answer = min n longest_response }

-- The most octets of a field that a terminal takes at the start and after RESYNCH (ISO/IEC 7816-3, clause 11.4).
abbrev pub first_ifsd : ℕ
first_ifsd = 32

-- How many failures in a row the terminal meets with a block. The next failure leads to RESYNCH.
abbrev pub most_repeats : ℕ
most_repeats = 3

-- How many times in a row the terminal asks for RESYNCH before it finds the card dead.
abbrev pub most_resynchs : ℕ
most_resynchs = 3

-- What the terminal holds.
pub record TerminalState : Type 0 where
  -- the number of the I-block that it has sent or sends next, and the number that it expects from the card
  pub number : Number
  pub expected : Number
  -- failures in a row
  pub failures : ℕ
  -- the most octets of a field that the card takes, that the terminal takes, and that the card takes at the start
  pub ifsc : ℕ
  pub ifsd : ℕ
  pub first_ifsc : ℕ
  -- the whole command of its exchange, until the next exchange begins
  pub command : List ℕ
  pub waits : Waits
  -- the last answer
  pub answered : Option (List ℕ)
  -- the most octets of a command, and of an answer
  pub limits : Limits

-- the terminal at the start, with room for messages of so many octets
abbrev pub terminal_with : Limits → ℕ → TerminalState
terminal_with limits ifsc = record {
  number = Zero;
  expected = Zero;
  failures = 0;
  ifsc = ifsc;
  ifsd = first_ifsd;
  first_ifsc = ifsc;
  command = [];
  waits = idle;
  answered = None;
  limits = limits;
}

abbrev pub new_terminal : ℕ → TerminalState
new_terminal ifsc = terminal_with longest ifsc

-- Whether a step is a failure. The rows that repeat a block, or that ask for RESYNCH instead of a fourth repeat, are
-- failures.
pub data Mark : Type 0 where
  failure : Mark
  no_failure : Mark

-- What a call does: a turn, the state after it and its mark; or a refusal, which changes nothing.
abbrev pub TerminalStep : Type 0
TerminalStep = Result (TerminalTurn × TerminalState × Mark) TerminalFault

-- whether a block follows; then what the terminal waits for
abbrev pub is_more : List ℕ → Bool
is_more [] = false
is_more (octet ∷ rest) = true

abbrev pub waiting : List ℕ → List ℕ → Waits
waiting field [] = answer field
waiting field (octet ∷ rest) = ack field (octet ∷ rest)

-- It sends the next I-block of the rest of the command, cut at the present IFSC (chaining, clause 11.6).
abbrev pub sends_info : TerminalState → List ℕ → List ℕ → TerminalStep
sends_info t field rest = Ok (
  Send (info t.number (is_more rest) field),
  record t { waits = waiting field rest },
  no_failure,
)

abbrev pub sends_next : TerminalState → List ℕ → TerminalStep
sends_next t octets = sends_info t (take t.ifsc octets) (drop t.ifsc octets)

-- A failure: the terminal sends the block. After the most repeats in a row it asks for RESYNCH instead (clause 11.6;
-- the count is this project's).
abbrev pub fails : TerminalState → Parts → TerminalStep
fails t block =
    if nat_lt t.failures most_repeats
    then Ok (Send block, record t { failures = t.failures + 1 }, failure)
    else Ok (Send (request Resynch []), record t { waits = resynch 1 }, failure)

-- An I-block of the answer that fits is joined to it.
abbrev pub joins : TerminalState → List ℕ → Bool → TerminalStep
joins t joined true = Ok (
  Send (ready (other t.expected) Free),
  record t { failures = 0; expected = other t.expected; waits = more joined },
  no_failure,
)
joins t joined false = Ok (
  Answered,
  record t { failures = 0; expected = other t.expected; waits = idle; answered = Some joined },
  no_failure,
)

-- What the terminal does alike in each state of an exchange. It answers the card's requests with what they carry;
-- everything else is a failure.
abbrev pub in_exchange : TerminalState → Came → TerminalStep
in_exchange t (got (Request Ifs) inf) = Ok (Send (response Ifs inf), record t { ifsc = carried inf }, no_failure)
in_exchange t (got (Request Wtx) inf) = Ok (Send (response Wtx inf), t, no_failure)
in_exchange t damaged = fails t (ready t.expected Redundancy)
in_exchange t quiet = fails t (ready t.expected Free)
in_exchange t came = fails t (ready t.expected Other)

-- The terminal has sent an I-block with M=1.
abbrev pub in_ack : TerminalState → List ℕ → List ℕ → Came → TerminalStep
in_ack t field rest (got (Ready number fault) inf) =
    if same number t.number
    then fails t (info t.number true field)
    else sends_next (record t { failures = 0; number = other t.number }) rest
in_ack t field rest came = in_exchange t came

-- The terminal has sent the last I-block of the command.
abbrev pub in_answer : TerminalState → List ℕ → Came → TerminalStep
in_answer t field (got (Ready number fault) inf) =
    if same number t.number
    then fails t (info t.number false field)
    else fails t (ready t.expected Free)
in_answer t field (got (Info number goes_on) inf) =
    if same number t.expected && nat_le (length inf) t.limits.answer
    then joins (record t { number = other t.number }) inf goes_on
    else in_exchange t (got (Info number goes_on) inf)
in_answer t field came = in_exchange t came

-- A part of the answer came, and more follows.
abbrev pub in_more : TerminalState → List ℕ → Came → TerminalStep
in_more t joined (got (Ready number fault) inf) = fails t (ready t.expected Free)
in_more t joined (got (Info number goes_on) inf) =
    if same number t.expected && nat_le (length joined + length inf) t.limits.answer
    then joins t (joined ++ inf) goes_on
    else in_exchange t (got (Info number goes_on) inf)
in_more t joined came = in_exchange t came

-- The terminal has asked for a size.
abbrev pub in_ifs : TerminalState → ℕ → Came → TerminalStep
in_ifs t size (got (Response Ifs) inf) =
    if carried inf == size
    then Ok (IfsSet, record t { failures = 0; ifsd = size; waits = idle }, no_failure)
    else fails t (request Ifs (size ∷ []))
in_ifs t size came = fails t (request Ifs (size ∷ []))

-- The terminal has asked for RESYNCH.
abbrev pub in_resynch : TerminalState → ℕ → Came → TerminalStep
in_resynch t asked (got (Response Resynch) inf) =
    Ok (
      GivenUp,
      record t {
        number = Zero;
        expected = Zero;
        failures = 0;
        ifsc = t.first_ifsc;
        ifsd = first_ifsd;
        waits = idle;
      },
      no_failure,
    )
in_resynch t asked came =
    if nat_lt asked most_resynchs
    then Ok (Send (request Resynch []), record t { waits = resynch (asked + 1) }, no_failure)
    else Ok (Dead, record t { waits = dead }, no_failure)

-- A block came, or none within the waiting time.
abbrev pub terminal_came : TerminalState → Waits → Came → TerminalStep
terminal_came t idle came = Err Idle
terminal_came t (ack field rest) came = in_ack t field rest came
terminal_came t (answer field) came = in_answer t field came
terminal_came t (more joined) came = in_more t joined came
terminal_came t (ifs size) came = in_ifs t size came
terminal_came t (resynch asked) came = in_resynch t asked came
terminal_came t dead came = Err IsDead

-- The calls of the application, and what the line delivered.
pub data TerminalInput : Type 0 where
  transmit : (command : List ℕ) → TerminalInput
  ask_ifs : (size : ℕ) → TerminalInput
  takes : (came : Came) → TerminalInput

-- a call that only an idle terminal accepts
abbrev pub if_idle : Waits → TerminalStep → TerminalStep
if_idle idle step = step
if_idle dead step = Err IsDead
if_idle waits step = Err Busy

abbrev pub terminal_turn : TerminalState → TerminalInput → TerminalStep
terminal_turn t (transmit command) =
    if_idle t.waits
    (if nat_le (length command) t.limits.command
    then sends_next (record t { failures = 0; command = command; answered = None }) command
    else Err TooLong)
terminal_turn t (ask_ifs size) =
    if_idle t.waits
    (if is_reserved size
    then Err Reserved
    else Ok (Send (request Ifs (size ∷ [])), record t { failures = 0; waits = ifs size }, no_failure))
terminal_turn t (takes came) = terminal_came t t.waits came

-- What a call returns, and the state after it.
abbrev pub turn_of : TerminalStep → Result TerminalTurn TerminalFault
turn_of (Ok step) = Ok step.0
turn_of (Err fault) = Err fault

abbrev pub state_after : TerminalState → TerminalStep → TerminalState
state_after t (Ok step) = step.1
state_after t (Err fault) = t
