-- The calls of both ends in handles.
use Rattle.std.specs.Prelude.{ℕ, List, Option}
use Rattle.c_owned.specs.declared.call.Call.{Call}
use Rattle.c_owned.specs.declared.call.Call.TheVariants as call
use Rattle.c_owned.specs.declared.engine.Engine.{Engine}
use Rattle.c_lent.specs.declared.turn.CTurn.{CTurn}
use Rattle.c_owned.specs.Ends.{TerminalTakes, CardTakes}
use Rattle.c_lent.specs.Calls.{terminal_input, card_input}

-- how a call changes the engine in a handle
abbrev pub Takes : Call → Option Engine → Option Engine → List ℕ → List ℕ → CTurn → Type 0
Takes (call.Terminal made) engine now old new turn = TerminalTakes (terminal_input made) engine now old new turn
Takes (call.Card made) engine now old new turn = CardTakes (card_input made) engine now old new turn
