-- One exchange over a line, by the terminal's table and what came.
use Rattle.std.specs.Prelude.{◌≡◌, ◌≤◌, ℕ, ◌-◌, List, [], ◌∷◌, take, Some, Result, Ok, Err, IfOk}
use Rattle.std.specs.declared.io.Error.{Error}
use Rattle.block_core.specs.Block.{Parts, spelling}
use Rattle.t1_core.specs.Came.{class_of, quiet}
use Rattle.t1_core.specs.Terminal.{TerminalState, takes, terminal_turn, turn_of, state_after, TerminalInput}
use Rattle.t1_core.specs.Waiting.{waiting_times}
use Rattle.t1_core.specs.declared.turns.TerminalTurn.{TerminalTurn}
use Rattle.t1_core.specs.declared.turns.TerminalTurn.TheVariants.{Send, Answered, IfsSet, GivenUp, Dead}
use Rattle.t1_core.specs.declared.turns.EncodedTerminalTurn.{EncodedTerminalTurn}
use Rattle.t1_core.specs.declared.turns.EncodedTerminalTurn.TheVariants as put
use Rattle.t1_core.specs.declared.turns.TerminalFault.{TerminalFault}
use Rattle.line_core.specs.declared.fault.TransceiveFault.{TransceiveFault}
use Rattle.line_core.specs.declared.fault.TransceiveFault.TheVariants as fault
use Rattle.line_core.specs.Line.{Arrival, block, nothing, failure, Talk, Adds}
use denote.Ref.{Bor}

-- How an exchange, or a request for a size, ends: its answer came, or the size was accepted; it was given up; the card
-- is dead; the line failed with this error; no more blocks are allowed; or the terminal refused the call.
pub data Ending : Type 0 where
  done : Ending
  given_up : Ending
  dead : Ending
  line_failed : (fault : Error) → Ending
  used_up : Ending
  refused : (fault : TerminalFault) → Ending

abbrev pub ending_of : {A : Type 0} → Result A TransceiveFault → Ending
ending_of (Ok answer) = done
ending_of (Err fault.GivenUp) = given_up
ending_of (Err fault.Dead) = dead
ending_of (Err (fault.Line inner)) = line_failed inner
ending_of (Err fault.UsedUp) = used_up
ending_of (Err (fault.Refused inner)) = refused inner

-- What the terminal does next: it sends a block, or it ends.
pub data Next : Type 0 where
  sends : (sent : Parts) → Next
  ends : (ending : Ending) → Next

abbrev pub next_of : Result TerminalTurn TerminalFault → Next
next_of (Ok (Send sent)) = sends sent
next_of (Ok Answered) = ends done
next_of (Ok IfsSet) = ends done
next_of (Ok GivenUp) = ends given_up
next_of (Ok Dead) = ends dead
next_of (Err inner) = ends (refused inner)

-- What the terminal does, and its state, after this came. Octets are classified first. The terminal isn't called for a
-- failure of the line.
abbrev pub next_after : TerminalState → Arrival → Next
next_after t (block octets) = next_of (turn_of (terminal_turn t (takes (class_of t.ifsd octets))))
next_after t nothing = next_of (turn_of (terminal_turn t (takes quiet)))
next_after t (failure inner) = ends (line_failed inner)

abbrev pub left_after : TerminalState → Arrival → TerminalState
left_after t (block octets) = state_after t (terminal_turn t (takes (class_of t.ifsd octets)))
left_after t nothing = state_after t (terminal_turn t (takes quiet))
left_after t (failure inner) = t

-- The octets of the block were sent, with the wait that belongs to it.
abbrev pub IsSent : Parts → Talk → Type 0
IsSent sent talk = (talk.sent ≡ spelling sent) × (talk.waiting ≡ waiting_times (Send sent))

-- The terminal is in state t, has this to do next, and may send at most so many blocks. Then these are the talks on the
-- line, the exchange ends so, and the terminal is left in this state.
abbrev pub Runs : ℕ → Next → TerminalState → List Talk → Ending → TerminalState → Type 0
Runs most (sends sent) t (talk ∷ talks) ending left =
    (1 ≤ most) × IsSent sent talk × Runs (most - 1) (next_after t talk.arrival) (left_after t talk.arrival) talks ending
    left
Runs most (sends sent) t [] ending left = (most ≡ 0) × (ending ≡ used_up) × (left ≡ t)
Runs most (ends how) t [] ending left = (ending ≡ how) × (left ≡ t)
Runs most (ends how) t (talk ∷ talks) ending left = ⊥

-- The caller has the next turn: the block to send, at the front of the buffer, or how the exchange ends.
abbrev pub IsReady : Next → List ℕ → Result EncodedTerminalTurn TransceiveFault → Type 0
IsReady next out (Ok (put.Send count waiting)) =
    (sent : Parts) × (next ≡ sends sent) × (take count out ≡ spelling sent) × (waiting ≡ waiting_times (Send sent))
IsReady next out (Ok put.Answered) = next ≡ ends done
IsReady next out (Ok put.IfsSet) = next ≡ ends done
IsReady next out (Ok put.GivenUp) = next ≡ ends given_up
IsReady next out (Ok put.Dead) = next ≡ ends dead
IsReady next out (Err inner) = next ≡ ends (ending_of {A = EncodedTerminalTurn} (Err inner))

-- The terminal in state t takes this call. What is added to the line, and the state of the terminal after it, are those
-- of such a run.
abbrev pub HasRun : {A : Type 0} → (A → List Talk → Type 0) → (A → List Talk → Type 0) → ℕ → TerminalState
    → TerminalInput → Ending → TerminalState → Type 0
HasRun before after most t input ending left = (talks : List Talk) × Adds before after talks
    × Runs most (next_of (turn_of (terminal_turn t input))) (state_after t (terminal_turn t input)) talks ending left

-- the answer is the one that the terminal holds
abbrev pub IsAnswer : TerminalState → Result (Bor (List ℕ)) TransceiveFault → Type 0
IsAnswer left result = IfOk result (λ answer. left.answered ≡ Some answer.now)
