-- How a command is put together. Each step takes the result of the step before, which may be out of memory.
use Rattle.std.specs.Prelude.{◌≡◌, false, Result, IfOk}
use Rattle.clap.specs.Words.{App, Rule, app_of, rule_of, with_rule, with_subcommand}
use Rattle.clap.specs.declared.builder.arg.Arg.{Arg}
use Rattle.clap.specs.declared.builder.command.Command.{Command}
use Rattle.clap.specs.declared.builder.command.Command.TheViews.{out-Command}

-- the command that was built has this form
abbrev pub HasForm : {E : Type 0} → App → Result Command E → Type 0
HasForm app built = IfOk built (λ command. app_of command ≡ app)

-- none of its arguments belongs to all subcommands
abbrev pub IsLocal : {E : Type 0} → Result Command E → Type 0
IsLocal built = IfOk built (λ command. (out-Command command).has_globals ≡ false)

-- an argument is added that doesn't belong to all subcommands
abbrev pub AddsTo : {E : Type 0} → Result Command E → Arg → Result Command E → Type 0
AddsTo old arg new = (app : App) → (rule : Rule) → HasForm app old → rule_of arg ≡ rule → arg.global ≡ false
    → HasForm (with_rule app rule) new

-- the command stays local, if the added argument is
abbrev pub StaysLocal : {E : Type 0} → Result Command E → Arg → Result Command E → Type 0
StaysLocal old arg new = IsLocal old → arg.global ≡ false → IsLocal new

-- a subcommand is added
abbrev pub AddsSubcommandTo : {E : Type 0} → Result Command E → Result Command E → Result Command E → Type 0
AddsSubcommandTo old sub new = (app below : App) → HasForm app old → HasForm below sub → IsLocal sub
    → HasForm (with_subcommand app below.top) new
