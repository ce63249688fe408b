-- The turns of both ends of T=1 as C has them.
use Rattle.std.specs.Prelude.{◌≡◌, ℕ, ◌++◌, ◌&&◌, List, length, drop, Option, None, Some, is_none, if◌then◌else◌, Result, Ok, Err}
use Rattle.block_core.specs.Block.{Parts, IsBlock}
use Rattle.t1_core.specs.declared.turns.TerminalTurn.{TerminalTurn}
use Rattle.t1_core.specs.declared.turns.TerminalTurn.TheVariants.{Send, Answered, IfsSet, GivenUp, Dead}
use Rattle.t1_core.specs.declared.turns.TerminalFault.{TerminalFault}
use Rattle.t1_core.specs.declared.turns.TerminalFault.TheVariants as fault
use Rattle.t1_core.specs.declared.turns.CardTurn.{CardTurn}
use Rattle.t1_core.specs.declared.turns.CardTurn.TheVariants as card_turns
use Rattle.t1_core.specs.declared.turns.CardFault.{CardFault}
use Rattle.t1_core.specs.declared.turns.CardFault.TheVariants as card_fault
use Rattle.t1_core.specs.Waiting.{waiting_times}
use Rattle.c_lent.specs.declared.turn.CTurn.{CTurn}
use Rattle.chain_core.specs.Taking.{Taking}

-- a turn that sends nothing
abbrev pub turned : ℕ → CTurn
turned kind = record { kind = kind; wait = 0; count = 0 }

-- the handle holds no such end
abbrev pub no_end : CTurn
no_end = turned 32

-- the buffer is too small for the longest block
abbrev pub no_room : CTurn
no_room = record { kind = 33; wait = 0; count = 258 }

-- the octets of a block are put into the buffer, to be sent; the end then waits this many block waiting times
pub record Sends (wait : ℕ) (block : Parts) (old new : List ℕ) (turn : CTurn) : Type 0 where
  pub octets : List ℕ
  pub spells : IsBlock 254 block octets
  pub turn_is : turn ≡ record { kind = 0; wait = wait; count = length octets }
  pub buffer : new ≡ octets ++ drop (length octets) old

-- a turn without a block leaves the buffer
abbrev pub IsTurned : ℕ → List ℕ → List ℕ → CTurn → Type 0
IsTurned kind old new turn = (turn ≡ turned kind) × (new ≡ old)

-- C's turn for the result of a call of a terminal
abbrev pub IsTerminalTurn : Result TerminalTurn TerminalFault → List ℕ → List ℕ → CTurn → Type 0
IsTerminalTurn (Ok (Send block)) old new turn = Sends (waiting_times (Send block)) block old new turn
IsTerminalTurn (Ok Answered) old new turn = IsTurned 1 old new turn
IsTerminalTurn (Ok IfsSet) old new turn = IsTurned 2 old new turn
IsTerminalTurn (Ok GivenUp) old new turn = IsTurned 3 old new turn
IsTerminalTurn (Ok Dead) old new turn = IsTurned 4 old new turn
IsTerminalTurn (Err fault.Dead) old new turn = IsTurned 16 old new turn
IsTerminalTurn (Err fault.Busy) old new turn = IsTurned 17 old new turn
IsTerminalTurn (Err fault.TooLong) old new turn = IsTurned 18 old new turn
IsTerminalTurn (Err fault.Reserved) old new turn = IsTurned 19 old new turn
IsTerminalTurn (Err fault.Idle) old new turn = IsTurned 20 old new turn

-- C's turn for the result of a call of a card; a card waits for its terminal without end
abbrev pub IsCardTurn : Result CardTurn CardFault → List ℕ → List ℕ → CTurn → Type 0
IsCardTurn (Ok (card_turns.Send block)) old new turn = Sends 0 block old new turn
IsCardTurn (Ok card_turns.Asked) old new turn = IsTurned 1 old new turn
IsCardTurn (Err card_fault.Order) old new turn = IsTurned 21 old new turn
IsCardTurn (Err card_fault.TooLong) old new turn = IsTurned 18 old new turn
IsCardTurn (Err card_fault.Reserved) old new turn = IsTurned 19 old new turn

-- the message of a chain, once it is complete
abbrev pub joined_of : Taking → Option (List ℕ)
joined_of r = if is_none r.refusal && r.done then Some r.joined else None
