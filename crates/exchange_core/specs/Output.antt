-- The code's view of an end: what a line does at it, and the line of a turn, with the messages of the end borrowed.
use Rattle.std.specs.Prelude.{ℕ, List, Option, Some, Result, Ok, Err}
use Rattle.block_core.specs.Block.{spelling}
use Rattle.exchange_core.specs.declared.end.Effect.{Effect}
use Rattle.exchange_core.specs.declared.end.Effect.TheVariants.{Passed, Said, Early, Called}
use Rattle.exchange_core.specs.declared.output.Output.{Output}
use Rattle.exchange_core.specs.declared.output.Output.TheVariants as given
use Rattle.exchange_text.specs.declared.line.Arrival.TheVariants.{Whole}
use Rattle.exchange_text.specs.declared.line.Line.{Line}
use Rattle.exchange_text.specs.declared.line.Line.TheVariants.{Answer, IfsSet, GivenUp, Dead, Asked, FromTerminal, FromCard}
use Rattle.exchange_text.specs.Text.{line_text}
use Rattle.exchange_core.specs.Replay.{End, gives, passes, by_role, refused}

abbrev pub line_of : Output → Line
line_of (given.FromTerminal block) = FromTerminal (spelling block.now) Whole
line_of (given.FromCard block) = FromCard (spelling block.now) Whole
line_of (given.Answer octets) = Answer octets.now
line_of (given.Asked octets) = Asked octets.now
line_of given.IfsSet = IfsSet
line_of given.GivenUp = GivenUp
line_of given.Dead = Dead

-- The result of a line with this effect at an end, whose state after it is s. The name function gives the names of its
-- refusals.
abbrev pub effect_of : {S T F : Type 0} → End S T → (F → List ℕ) → Line → S → Effect T F
    → Result (S × Option T) (List ℕ)
effect_of end name line s (Passed pending) = by_role end s pending line passes
effect_of end name line s (Said pending) = by_role end s pending line gives
effect_of end name line s (Early turn) = Err (line_text (end.line s turn))
effect_of end name line s (Called (Ok turn)) = Ok (s, Some turn)
effect_of end name line s (Called (Err fault)) = Err (refused (name fault))
