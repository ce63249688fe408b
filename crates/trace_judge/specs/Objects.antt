-- What the judgment says about a trace, as objects of a JSON array. Each object has the values of a line.
use Rattle.std.specs.Prelude.{ℕ, ◌==◌, ◌&&◌, List, [], codes, decimal, Option, Some, None, if◌then◌else◌}
use Rattle.hex.specs.Hex.{encode_upper}
use Rattle.block_core.specs.declared.side.Side.{Side}
use Rattle.block_core.specs.declared.side.Side.TheVariants.{Terminal, Card}
use Rattle.judge_core.specs.declared.end.After.{After}
use Rattle.judge_core.specs.declared.rule.Rule.{Rule}
use Rattle.judge_core.specs.declared.rule.Rule.TheVariants.{NodeAddress, Silence}
use Rattle.judge_core.specs.declared.state.State.{State}
use Rattle.judge_core.specs.Rules.{rule_clause, rule_name}
use Rattle.judge_core.specs.States.{state_name}
use Rattle.layouts.specs.Members.{object_of, with_number, with_string, with_value}
use Rattle.trace_judge.specs.Saying.{due_text, side_text}
use Rattle.judge_times.specs.declared.timing.Early.{Early}
use Rattle.judge_times.specs.declared.timing.Late.{Late}

-- Where in a trace a block is: its line from 1, the moment at which it began if that is known, and its octets.
pub record Place : Type 0 where
  pub line : ℕ
  pub moment : Option ℕ
  pub octets : List ℕ

-- the members so far, and those for the end and the kind of the object
abbrev pub with_kind : List ℕ → Side → List ℕ → List ℕ
with_kind members side kind = with_string (with_string members (codes "end") (side_text side)) (codes "kind") kind

-- the same, and the line of the trace
abbrev pub with_line : List ℕ → Side → List ℕ → ℕ → List ℕ
with_line members side kind line = with_number (with_kind members side kind) (codes "line") line

-- the moment at which a block began, if the trace has it
abbrev pub with_moment : List ℕ → Option ℕ → List ℕ
with_moment members None = members
with_moment members (Some moment) = with_number members (codes "moment") moment

-- the same, the moment, and the octets
abbrev pub with_place : List ℕ → Side → List ℕ → Place → List ℕ
with_place members side kind place = with_string
    (with_moment (with_line members side kind place.line) place.moment) (codes "octets") (encode_upper place.octets)

-- a block that breaks a rule
abbrev pub deviation_object : Place → ℕ → Side → Rule → After → List ℕ
deviation_object place number side broken due = object_of (with_string
    (with_place (with_string (with_string (with_number [] (codes "block") number) (codes "clause") (rule_clause broken))
    (codes "due") (due_text due.«end» due.owed)) side (codes "deviation") place)
    (codes "rule") (rule_name broken))

-- a block that is permitted only after unseen damage
abbrev pub unseen_object : Place → ℕ → Side → ℕ → List ℕ
unseen_object place number side before =
    object_of (with_place (with_number (with_number [] (codes "before") before) (codes "block") number) side
    (codes "unseen") place)

-- a block of another logical connection
abbrev pub elsewhere_object : Place → ℕ → Side → List ℕ
elsewhere_object place number side = object_of (with_place
    (with_string (with_number [] (codes "block") number) (codes "clause") (rule_clause NodeAddress)) side
    (codes "elsewhere") place)

-- a card that sent nothing, and may not have received the block
abbrev pub possible_object : ℕ → ℕ → List ℕ
possible_object line number =
    object_of (with_line (with_number [] (codes "before") number) Card (codes "unseen") line)

-- a card that sent nothing, although it received one
abbrev pub certain_object : ℕ → ℕ → List ℕ
certain_object line number = object_of (with_string
    (with_line (with_string (with_number [] (codes "before") number) (codes "clause") (rule_clause Silence)) Card
    (codes "deviation") line)
    (codes "rule") (rule_name Silence))

-- a card's block that came too late after a terminal's
abbrev pub late_object : Place → ℕ → ℕ → Late → List ℕ
late_object place number before late = object_of (with_number
    (with_place (with_string (with_number (with_number (with_number [] (codes "after") late.elapsed)
    (codes "before") before) (codes "block") number) (codes "clause") (codes "11.4.3")) Card (codes "late") place)
    (codes "permitted") late.permitted)

-- a terminal's block that came too early after the block before
abbrev pub early_object : Place → ℕ → ℕ → Early → List ℕ
early_object place number before early = object_of (with_number
    (with_place (with_string (with_number (with_number (with_number [] (codes "after") early.elapsed)
    (codes "before") before) (codes "block") number) (codes "clause") (codes "11.4.3")) Terminal (codes "early") place)
    (codes "permitted") early.least)

-- a card that sent nothing before the terminal's next block, although it got one
abbrev pub unwaited_object : ℕ → ℕ → List ℕ
unwaited_object line number =
    object_of (with_line (with_number [] (codes "before") number) Card (codes "unwaited") line)

-- octets before the first block that aren't PPS and aren't a block, by the line of the trace
abbrev pub neither_object : ℕ → List ℕ
neither_object number = object_of (with_number (with_string [] (codes "kind") (codes "neither")) (codes "line") number)

-- a rate, or null if its index is reserved
abbrev pub rate_or_null : Option ℕ → List ℕ
rate_or_null None = codes "null"
rate_or_null (Some rate) = decimal rate

-- PPS, with D and F
abbrev pub pps_object : Option ℕ → Option ℕ → List ℕ
pps_object f d = object_of (with_string
    (with_value (with_value [] (codes "D") (rate_or_null d)) (codes "F") (rate_or_null f))
    (codes "kind") (codes "pps"))

-- what never came
abbrev pub never_object : List ℕ → List ℕ → List ℕ
never_object kind name =
    object_of (with_string (with_value (with_string [] (codes "kind") kind) (codes "never") (codes "true")) kind name)

-- how often the card kept a rule and broke it
unfoldable pub card_members : Rule → ℕ → ℕ → List ℕ
card_members r kept broken = with_string (with_string (with_number (with_number [] (codes "card_broken") broken)
    (codes "card_kept") kept) (codes "kind") (codes "rule")) (codes "rule") (rule_name r)

-- how often each end kept a rule and broke it
abbrev pub counted_rule : Rule → ℕ → ℕ → ℕ → ℕ → List ℕ
counted_rule r terminal_kept terminal_broken card_kept card_broken = object_of (with_number (with_number
    (card_members r card_kept card_broken)
    (codes "terminal_broken") terminal_broken) (codes "terminal_kept") terminal_kept)

abbrev pub rule_object : Rule → ℕ → ℕ → ℕ → ℕ → List ℕ
rule_object r terminal_kept terminal_broken card_kept card_broken =
    if (terminal_kept == 0 && terminal_broken == 0) && (card_kept == 0 && card_broken == 0)
    then never_object (codes "rule") (rule_name r)
    else counted_rule r terminal_kept terminal_broken card_kept card_broken

-- how often a state came at each end
abbrev pub counted_state : State → ℕ → ℕ → List ℕ
counted_state state terminal card = object_of (with_number (with_string (with_string
    (with_number [] (codes "card") card) (codes "kind") (codes "state")) (codes "state") (state_name state))
    (codes "terminal") terminal)

abbrev pub state_object : State → ℕ → ℕ → List ℕ
state_object state terminal card =
    if terminal == 0 && card == 0 then never_object (codes "state") (state_name state)
    else counted_state state terminal card
