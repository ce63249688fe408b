-- The form of the words that the program takes, as clap has it; each value has a name in help.
use Rattle.std.specs.Prelude.{ℕ, pos, List, codes, Some, true, map, String, string_bytes}
use Rattle.std.specs.declared.alloc.Global.{Global}
use Rattle.clap.specs.Words.{App, Rule, new_app, new_rule, with_rule, with_subcommand}
use Rattle.clap.specs.declared.builder.value_parser.ValueParser.TheVariants as parser
use Rattle.clap.specs.declared.builder.action.ArgAction.TheVariants.{Append, SetTrue}

-- an option without a value
abbrev pub flag_rule : List ℕ → Rule
flag_rule name = record (new_rule name) { long = Some name; action = Some SetTrue }

-- the option that asks for an explanation; the program and every subcommand have it
abbrev pub explain_rule : Rule
explain_rule = flag_rule (codes "explain")

abbrev pub begun_app : List ℕ → App
begun_app name = with_rule (new_app name) explain_rule

-- a word that is required
abbrev pub required_rule : List ℕ → Rule
required_rule name = record (new_rule name) { required = true; value_names = 1 }

abbrev pub kind_rule : Rule
kind_rule = required_rule (codes "kind")

abbrev pub hex_rule : Rule
hex_rule = record (new_rule (codes "hex")) { value_names = 1 }

-- an option that takes one word, whatever it is
abbrev pub option_rule : List ℕ → Rule
option_rule name = record (new_rule name) { long = Some name; value_names = 1 }

-- the option with the form of octets on standard input
abbrev pub stdin_rule : Rule
stdin_rule = option_rule (codes "stdin")

abbrev pub ifs_rule : Rule
ifs_rule = record (new_rule (codes "ifs"))
    { long = Some (codes "ifs"); value_names = 1; parser = Some (parser.Signed (pos 1) (pos 254)) }

abbrev pub number_rule : Rule
number_rule = record (new_rule (codes "number"))
    { long = Some (codes "number"); value_names = 1; parser = Some (parser.Signed (pos 0) (pos 1)) }

-- a subcommand with the expected kind of octets, an information size and a first number
abbrev pub expected_app : List ℕ → App
expected_app name = with_rule (with_rule (with_rule (begun_app name) kind_rule) ifs_rule) number_rule

-- the option that makes an answer a JSON object
abbrev pub json_rule : Rule
json_rule = flag_rule (codes "json")

-- such a subcommand, which also takes the octets
abbrev pub input_app : List ℕ → App
input_app name = with_rule (with_rule (with_rule (expected_app name) hex_rule) stdin_rule) json_rule

-- the option of the subcommand show that adds notes
abbrev pub notes_rule : Rule
notes_rule = flag_rule (codes "notes")

abbrev pub show_app : App
show_app = with_rule (input_app (codes "show")) notes_rule

abbrev pub what_rule : Rule
what_rule = required_rule (codes "what")

abbrev pub words_rule : Rule
words_rule = record (new_rule (codes "words")) { value_names = 1; action = Some Append }

-- the subcommand that builds what its first word says, from the words after it
abbrev pub build_app : App
build_app =
    with_rule (with_rule (with_rule (with_rule (begun_app (codes "build")) what_rule) words_rule) stdin_rule) json_rule

abbrev pub end_rule : Rule
end_rule = record (new_rule (codes "end")) { long = Some (codes "end"); value_names = 1; required = true }

-- the subcommand that replays recorded exchanges at an end
abbrev pub replay_app : App
replay_app = with_rule (with_rule (begun_app (codes "replay")) end_rule) json_rule

-- the subcommand that converts recorded exchanges to the newest version; it takes no words
abbrev pub migrate_app : App
migrate_app = with_rule (begun_app (codes "migrate")) json_rule

-- the subcommand that lists the commands and answers of recorded exchanges
abbrev pub apdus_app : App
apdus_app = with_rule (begun_app (codes "apdus")) json_rule

-- the option of the subcommand draw that asks for a picture
abbrev pub svg_rule : Rule
svg_rule = flag_rule (codes "svg")

abbrev pub draw_app : App
draw_app = with_rule (with_rule (begun_app (codes "draw")) svg_rule) json_rule

abbrev pub atr_rule : Rule
atr_rule = required_rule (codes "atr")

-- the subcommand that makes recorded exchanges from the blocks that were seen on a line
abbrev pub record_app : App
record_app = with_rule (with_rule (begun_app (codes "record")) atr_rule) json_rule

-- the option that names the one end that is judged
abbrev pub judged_rule : Rule
judged_rule = option_rule (codes "end")

-- the option that gives the frequency of the card's clock
abbrev pub clock_rule : Rule
clock_rule = option_rule (codes "clock")

-- the option that counts rules and states
abbrev pub rules_rule : Rule
rules_rule = flag_rule (codes "rules")

-- the subcommand that judges the blocks that were seen on a line, here with its words and the end
abbrev pub judged_app : App
judged_app = with_rule (with_rule (begun_app (codes "judge")) atr_rule) judged_rule

abbrev pub judge_app : App
judge_app = with_rule (with_rule (with_rule judged_app clock_rule) rules_rule) json_rule

abbrev pub pairs_rule : Rule
pairs_rule = record (new_rule (codes "pairs")) { value_names = 1; action = Some Append }

abbrev pub ifsd_rule : Rule
ifsd_rule = record (new_rule (codes "ifsd"))
    { long = Some (codes "ifsd"); value_names = 1; parser = Some (parser.Signed (pos 1) (pos 254)) }

-- the subcommand that records a session of both ends, here with its words, the size that the terminal asks for, and
-- where the pairs come from
abbrev pub session_app : App
session_app = with_rule (with_rule (with_rule (with_rule
    (with_rule (begun_app (codes "simulate")) atr_rule) pairs_rule) ifsd_rule) stdin_rule) json_rule

abbrev pub simulate_app : App
simulate_app = with_rule (with_rule (with_rule session_app (option_rule (codes "lose"))) (option_rule (codes "damage")))
    (option_rule (codes "spoil"))

-- the program as a command, here with its subcommands for octets; it has the option for an explanation too
abbrev pub octets_app : App
octets_app = with_subcommand (with_subcommand
    (with_subcommand (begun_app (codes "scard")) (input_app (codes "check")).top) show_app.top)
    build_app.top

-- the program with its subcommands for octets and recorded exchanges
abbrev pub exchanges_app : App
exchanges_app = with_subcommand (with_subcommand
    (with_subcommand (with_subcommand octets_app replay_app.top) migrate_app.top) apdus_app.top)
    draw_app.top

-- the program with its subcommands for octets, recorded exchanges and traces of a line
abbrev pub traces_app : App
traces_app = with_subcommand (with_subcommand exchanges_app record_app.top) judge_app.top

unfoldable pub scard : App
scard = with_subcommand traces_app simulate_app.top

abbrev pub texts : List (String Global) → List (List ℕ)
texts words = map string_bytes words
