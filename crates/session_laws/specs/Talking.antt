-- The talks of a session: each block that the terminal sent, and what its line made of what came after it. These are
-- the talks of an exchange over a line (line_core), so its laws hold of them.
use Rattle.std.specs.Prelude.{◌≡◌, ℕ, List, [], ◌∷◌, ◌++◌, take}
use Rattle.std.specs.declared.io.Error.{Error}
use Rattle.t1_core.specs.Terminal.{TerminalState, TerminalInput, terminal_turn, turn_of, state_after}
use Rattle.line_core.specs.Bursts.{handed}
use Rattle.line_core.specs.Line.{Arrival, block, nothing, failure, Talk}
use Rattle.line_core.specs.Exchange.{Ending, done, given_up, dead, line_failed, Runs, next_of}
use Rattle.session_core.specs.declared.event.Next.{Next}
use Rattle.session_core.specs.declared.event.Next.TheVariants.{Heard, Quiet}
use Rattle.session_core.specs.declared.action.Action.{Action}
use Rattle.session_core.specs.declared.action.Action.TheVariants as action
use Rattle.session_core.specs.Wire.{Step, handed_over}

-- a block that was sent, and what came
pub record Spoken : Type 0 where
  pub sent : List ℕ
  pub arrival : Arrival

-- What a step of the line ends: the terminal takes a burst, or nothing came.
abbrev pub spoken_in : Next → Step → List ℕ → List Spoken
spoken_in Heard step sent = record {
  sent = sent;
  arrival = block (take handed (handed_over step.progress.is_spoiled step.burst));
} ∷ []
spoken_in Quiet step sent = record { sent = sent; arrival = nothing } ∷ []
spoken_in next step sent = []

abbrev pub spoken_of : Talk → Spoken
spoken_of talk = record { sent = talk.sent; arrival = talk.arrival }

abbrev pub all_spoken : List Talk → List Spoken
all_spoken [] = []
all_spoken (talk ∷ talks) = spoken_of talk ∷ all_spoken talks

-- How an exchange ends whose last action is this. The end didn't learn what came after its last block if the line
-- failed or its limits were used up.
abbrev pub ending_by : Error → Action → Ending
ending_by fault (action.Answered count) = done
ending_by fault (action.NoStatus count) = done
ending_by fault action.IfsSet = done
ending_by fault action.GivenUp = given_up
ending_by fault action.Dead = dead
ending_by fault other = line_failed fault

-- the blocks and what came after each, and possibly a last block after which the line failed for the end
pub data AreSpoken (spoken : List Spoken) : List Talk → Type 0 where
  all : (talks : List Talk) → all_spoken talks ≡ spoken → AreSpoken spoken talks
  all_but_one : (talks : List Talk) (last : Talk) (fault : Error) → all_spoken talks ≡ spoken
      → last.arrival ≡ failure fault → AreSpoken spoken (talks ++ last ∷ [])

-- A call with this input is a run of the terminal's table over these talks, as calls of line_core are.
pub record IsRun (t : TerminalState) (input : TerminalInput) (spoken : List Spoken) (ending : Ending)
    (left : TerminalState)
    : Type 0 where
  pub most : ℕ
  pub talks : List Talk
  pub are : AreSpoken spoken talks
  pub runs : Runs most (next_of (turn_of (terminal_turn t input))) (state_after t (terminal_turn t input)) talks ending
      left
