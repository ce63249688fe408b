-- The ends' buffers, and ends over caller-owned buffers, seen as states.
use Rattle.std.specs.Prelude.{◌≡◌, ℕ, ◌+◌, ◌<◌, ◌≤◌, ◌==◌, List, [], take, drop, Bool, true, false, Option, Some, None}
use Rattle.t1_core.specs.declared.turns.Cut.{Cut}
use Rattle.t1_core.specs.declared.turns.TerminalWait.{TerminalWait}
use Rattle.t1_core.specs.declared.turns.TerminalWait.TheVariants.{Idle, Ack, Answer, More, Ifs, Resynch, Dead}
use Rattle.t1_core.specs.declared.class.Arrived.{Arrived}
use Rattle.t1_core.specs.declared.class.Arrived.TheVariants.{Whole, Damaged, Invalid}
use denote.Ref.{Bor}
pub use Rattle.octet_core.specs.Sizes.{IsFieldSize as IsSize}
use Rattle.block_core.specs.declared.pcb.S.TheVariants.{Ifs as Size}
use Rattle.block_core.specs.declared.pcb.Pcb.TheVariants.{Response}
use Rattle.t1_core.specs.Came.{Came, got, damaged, invalid, carried}
use Rattle.t1_core.specs.declared.lent.LentTerminal.{LentTerminal}
use Rattle.t1_core.specs.Terminal.{TerminalState, Waits, idle, ack, answer, more, ifs, resynch, dead, most_resynchs}

abbrev pub came_of : Arrived → Came
came_of (Whole block) = got block.pcb block.inf
came_of Damaged = damaged
came_of Invalid = invalid

-- the field of the last I-block, and the octets after it
abbrev pub field_at : Cut → List ℕ → List ℕ
field_at cut message = take cut.size (drop cut.place message)

abbrev pub rest_at : Cut → List ℕ → List ℕ
rest_at cut message = drop cut.size (drop cut.place message)

-- what the terminal waits for
abbrev pub waits_of : TerminalWait → List ℕ → List ℕ → Waits
waits_of Idle command joined = idle
waits_of (Ack cut) command joined = ack (field_at cut command) (rest_at cut command)
waits_of (Answer cut) command joined = answer (field_at cut command)
waits_of More command joined = more joined
waits_of (Ifs size) command joined = ifs size
waits_of (Resynch asked) command joined = resynch asked
waits_of Dead command joined = dead

abbrev pub answered_of : Bool → List ℕ → Option (List ℕ)
answered_of true joined = Some joined
answered_of false joined = None

-- the octets of the answer that came so far
abbrev pub joined_of : Waits → List ℕ
joined_of (more joined) = joined
joined_of waits = []

-- the terminal waits for the answer, so an I-block of it can be joined
abbrev pub IsJoining : TerminalWait → Type 0
IsJoining (Answer cut) = Unit {0}
IsJoining More = Unit {0}
IsJoining wait = ⊥

-- this cut is a block of a message of so many octets, and more of the message follows it, or nothing does
abbrev pub IsInner : Cut → ℕ → Type 0
IsInner cut octets = IsSize cut.size × (cut.place + cut.size < octets)

abbrev pub IsLast : Cut → ℕ → Type 0
IsLast cut octets = IsSize cut.size × (cut.place ≤ octets) × (octets ≤ cut.place + cut.size)

-- an unfinished exchange has no answer yet, and nothing is joined before the answer's first block; the numbers are the
-- octets of the two messages
abbrev pub IsWait : TerminalWait → ℕ → ℕ → Bool → Type 0
IsWait Idle command joined is_answered = Unit {0}
IsWait (Ack cut) command joined is_answered = IsInner cut command × (joined ≡ 0) × (is_answered ≡ false)
IsWait (Answer cut) command joined is_answered = IsLast cut command × (joined ≡ 0) × (is_answered ≡ false)
IsWait More command joined is_answered = is_answered ≡ false
IsWait (Ifs size) command joined is_answered = IsSize size
IsWait (Resynch asked) command joined is_answered = asked ≤ most_resynchs
IsWait Dead command joined is_answered = Unit {0}

-- the slice that a call returns, if any
abbrev pub IsSlice : Option (Bor (List ℕ)) → Option (List ℕ) → Type 0
IsSlice None None = Unit {0}
IsSlice None (Some octets) = ⊥
IsSlice (Some slice) None = ⊥
IsSlice (Some slice) (Some octets) = slice.now ≡ octets

-- whether it is the response to a question about a size
abbrev pub is_response_with : ℕ → Came → Bool
is_response_with size (got (Response Size) inf) = carried inf == size
is_response_with size came = false

-- ---- the terminal and its two buffers, whether it or its caller owns them

abbrev pub terminal_seen : LentTerminal → List ℕ → List ℕ → TerminalState
terminal_seen p command joined = record {
  number = p.number;
  expected = p.expected;
  failures = p.failures;
  ifsc = p.ifsc;
  ifsd = p.ifsd;
  first_ifsc = p.first_ifsc;
  command = command;
  waits = waits_of p.wait command joined;
  answered = answered_of p.is_answered joined;
  limits = record { command = p.most_command; answer = p.most_answer };
}

-- the terminal's state, if its messages are the first octets of two buffers
abbrev pub terminal_held : LentTerminal → List ℕ → List ℕ → TerminalState
terminal_held p command joined = terminal_seen p (take p.command_len command) (take p.answer_len joined)

-- this is a terminal whose buffers have room for so many octets
pub record IsLentTerminal (p : LentTerminal) (room answer_room : ℕ) : Type 0 where
  pub wait : IsWait p.wait p.command_len p.answer_len p.is_answered
  pub ifsc : IsSize p.ifsc
  pub ifsd : IsSize p.ifsd
  pub first_ifsc : IsSize p.first_ifsc
  -- what the buffers hold, and the most that they may hold
  pub command_held : p.command_len ≤ room
  pub answer_held : p.answer_len ≤ answer_room
  pub most_command : p.most_command ≤ room
  pub most_answer : p.most_answer ≤ answer_room
