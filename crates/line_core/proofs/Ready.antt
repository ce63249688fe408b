-- A call that puts a block into a buffer leaves the next turn there.
use Rattle.std.proofs.Common.{◌≡◌, ℕ, List, take, Result, Ok, Err, refl, arith}
use Rattle.std.proofs.lemmas.Grind.{common_steps}
use Rattle.block_core.specs.Block.{Parts, IsPut, spelling}
use Rattle.t1_core.specs.Put.{IsTerminalPut}
use Rattle.t1_core.specs.declared.turns.TerminalTurn.{TerminalTurn}
use Rattle.t1_core.specs.declared.turns.TerminalTurn.TheVariants.{Send, Answered, IfsSet, GivenUp, Dead}
use Rattle.t1_core.specs.declared.turns.EncodedTerminalTurn.{EncodedTerminalTurn}
use Rattle.t1_core.specs.declared.turns.TerminalFault.{TerminalFault}
use Rattle.line_core.specs.declared.fault.TransceiveFault.{TransceiveFault}
use Rattle.line_core.specs.declared.fault.TransceiveFault.TheVariants as fault
use Rattle.line_core.specs.Exchange.{next_of, IsReady}

-- what the caller is told of a refusal
abbrev pub lifted : Result EncodedTerminalTurn TerminalFault → Result EncodedTerminalTurn TransceiveFault
lifted (Ok turn) = Ok turn
lifted (Err inner) = Err (fault.Refused inner)

front : (sent : Parts) (old new : List ℕ) (count : ℕ) → IsPut sent old new count → take count new ≡ spelling sent
front sent old new count is = grind (arith, common_steps, is.counted, is.buffer, is.spells.is)

-- the turn is in the caller's hands: its block is at the front of the buffer, or it ends the exchange
pub ready : (turn : Result TerminalTurn TerminalFault) (old new : List ℕ)
    (answer : Result EncodedTerminalTurn TerminalFault)
    → IsTerminalPut turn old new answer → IsReady (next_of turn) new (lifted answer)
ready (Ok (Send sent)) old new answer (count, is, placed) = rw is (sent, refl, front sent old new count placed, refl)
ready (Ok Answered) old new answer (is, kept) = rw is refl
ready (Ok IfsSet) old new answer (is, kept) = rw is refl
ready (Ok GivenUp) old new answer (is, kept) = rw is refl
ready (Ok Dead) old new answer (is, kept) = rw is refl
ready (Err inner) old new answer (is, kept) = rw is refl
