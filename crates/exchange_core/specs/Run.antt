-- What an end gives over the calls among the lines of a file, and which lines the file says that it gives.
use Rattle.std.specs.Prelude.{◌≡◌, List, [], ◌∷◌, ℕ, Bool, true, false, Option, Some, None, Ok, Err, map}
use Rattle.std.specs.Option.{option_map}
use Rattle.std.specs.List.{filter}
use Rattle.t1_core.specs.Card.{new_card}
use Rattle.t1_core.specs.Terminal.{new_terminal}
use Rattle.exchange_text.specs.declared.line.Arrival.TheVariants.{Whole}
use Rattle.exchange_text.specs.declared.line.Line.{Line}
use Rattle.exchange_text.specs.declared.line.Line.TheVariants.{Answer, IfsSet, GivenUp, Dead, Asked, FromTerminal, FromCard}
use Rattle.block_core.specs.declared.side.Side.{Side}
use Rattle.block_core.specs.declared.side.Side.TheVariants.{Terminal, Card}
use Rattle.exchange_core.specs.Replay.{Role, calls, gives, passes, End, terminal_end, card_end, IsFound}

-- whether the file says that this end gives the line
abbrev pub is_said : Side → Line → Bool
is_said Terminal (Answer octets) = true
is_said Terminal IfsSet = true
is_said Terminal GivenUp = true
is_said Terminal Dead = true
is_said Terminal (FromTerminal sent arrival) = true
is_said Card (Asked octets) = true
is_said Card (FromCard sent arrival) = true
is_said side line = false

-- the line as its end sees it: the end never learns what happened to a block on its way
abbrev pub as_sent : Line → Line
as_sent (FromTerminal sent arrival) = FromTerminal sent Whole
as_sent (FromCard sent arrival) = FromCard sent Whole
as_sent line = line

-- what the end gives at a line, and then at the next lines
abbrev pub given_by : {S T : Type 0} → End S T → (S → Option (List Line)) → S → Role S T → Option (List Line)
given_by end next s (calls (Ok step)) = option_map (λ rest. end.line step.1 step.0 ∷ rest) (next step.1)
given_by end next s (calls (Err name)) = None
given_by end next s gives = next s
given_by end next s passes = next s

-- all turns of the end over the calls among these lines, as lines; None if it refuses a call
abbrev pub given_over : {S T : Type 0} → End S T → List Line → S → Option (List Line)
given_over end [] s = Some []
given_over end (line ∷ lines) s = given_by end (λ after. given_over end lines after) s (end.role s line)

-- all turns of a new end on this side over the calls among these lines
abbrev pub given_at : Side → ℕ → List Line → Option (List Line)
given_at Terminal ifsc lines = given_over terminal_end lines (new_terminal ifsc)
given_at Card ifsc lines = given_over card_end lines (new_card ifsc)

-- The lines are a run of the end, after this answer to reset. The end refuses none of its calls among the lines. The
-- lines that the file says it gives are, in order, all that it gives.
pub record IsRun (atr : List ℕ) (lines : List Line) (side : Side) : Type 0 where
  pub ifsc : ℕ
  pub is_found : IsFound atr (Ok ifsc)
  pub same : given_at side ifsc lines ≡ Some (map as_sent (filter (is_said side) lines))
