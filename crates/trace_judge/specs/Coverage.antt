-- The counts of a trace, and what the judgment says of them: how often each end kept and broke each rule, and how often
-- each state was due.
use Rattle.std.specs.Prelude.{ℕ, ◌==◌, ◌&&◌, List, [], ◌∷◌, ◌++◌, codes, decimal, replicate, slice_index, slice_set, Bool, true, false, Option, Some, None, if◌then◌else◌}
use Rattle.block_core.specs.declared.side.Side.{Side}
use Rattle.block_core.specs.declared.side.Side.TheVariants.{Terminal, Card}
use Rattle.judge_core.specs.declared.rule.Rule.{Rule}
use Rattle.judge_core.specs.declared.state.State.{State}
use Rattle.judge_core.specs.declared.stakes.Stakes.{Stakes}
use Rattle.judge_core.specs.declared.exercise.Exercise.{Exercise}
use Rattle.judge_core.specs.declared.exercise.Exercise.TheVariants.{Unknown, Keeps, Breaks}
use Rattle.judge_core.specs.Monitored.{number_after}
use Rattle.judge_core.specs.Rules.{rule_name, rule_place, rules}
use Rattle.judge_core.specs.Stakes.{at_stake, came_in}
use Rattle.judge_core.specs.States.{state_name, state_place, states}
use Rattle.layouts.specs.Items.{with_item}
use Rattle.layouts.specs.declared.layout.Layout.{Layout}
use Rattle.layouts.specs.declared.layout.Layout.TheVariants.{Lines, Json}
use Rattle.trace_judge.specs.Objects.{rule_object, state_object}
use Rattle.trace_judge.specs.declared.coverage.Counts.{Counts}
use Rattle.trace_judge.specs.declared.coverage.Coverage.{Coverage}

-- ---- counting

abbrev pub no_counts : Counts
no_counts = record { kept = replicate 23 0; broken = replicate 23 0; states = replicate 16 0 }

abbrev pub nothing_covered : Coverage
nothing_covered = record { terminal = no_counts; card = no_counts }

-- the counts with one more at a place
abbrev pub bumped : ℕ → List ℕ → List ℕ
bumped place counts = slice_set counts place (number_after (slice_index counts place))

-- the counts with one more at the place of a rule, if the rule was at stake
abbrev pub kept_one : Stakes → Rule → List ℕ → List ℕ
kept_one stakes r counts = if at_stake stakes r then bumped (rule_place r) counts else counts

abbrev pub kept_of : Stakes → List Rule → List ℕ → List ℕ
kept_of stakes [] counts = counts
kept_of stakes (r ∷ more) counts = kept_of stakes more (kept_one stakes r counts)

abbrev pub came : Option State → List ℕ → List ℕ
came None counts = counts
came (Some state) counts = bumped (state_place state) counts

-- the counts after a block of an end
abbrev pub counted_by : Exercise → Counts → Counts
counted_by Unknown counts = counts
counted_by (Keeps stakes) counts = record counts {
  kept = kept_of stakes rules counts.kept;
  states = came (came_in stakes) counts.states;
}
counted_by (Breaks broken state) counts = record counts {
  broken = bumped (rule_place broken) counts.broken;
  states = came state counts.states;
}

abbrev pub covered : Side → Exercise → Coverage → Coverage
covered Terminal exercise coverage = record coverage { terminal = counted_by exercise coverage.terminal }
covered Card exercise coverage = record coverage { card = counted_by exercise coverage.card }

-- ---- the lines

abbrev pub kept_and_broken : ℕ → ℕ → List ℕ
kept_and_broken kept broken = codes " kept " ++ (decimal kept ++ (codes " broken " ++ decimal broken))

-- a rule that no end kept or broke is reported as never
abbrev pub of_rule : ℕ → ℕ → ℕ → ℕ → List ℕ
of_rule terminal_kept terminal_broken card_kept card_broken =
    if (terminal_kept == 0 && terminal_broken == 0) && (card_kept == 0 && card_broken == 0) then codes ": never\n"
    else codes ": terminal" ++ (kept_and_broken terminal_kept terminal_broken
    ++ (codes ", card" ++ (kept_and_broken card_kept card_broken ++ codes "\n")))

abbrev pub rule_line : Coverage → Rule → List ℕ
rule_line coverage r = codes "rule " ++ (rule_name r ++ of_rule
    (slice_index coverage.terminal.kept (rule_place r)) (slice_index coverage.terminal.broken (rule_place r))
    (slice_index coverage.card.kept (rule_place r)) (slice_index coverage.card.broken (rule_place r)))

-- the text so far, and a line or an object about a rule
abbrev pub with_rule : Layout → List ℕ → Coverage → Rule → List ℕ
with_rule Lines text coverage r = text ++ rule_line coverage r
with_rule Json items coverage r = with_item items (rule_object r
    (slice_index coverage.terminal.kept (rule_place r)) (slice_index coverage.terminal.broken (rule_place r))
    (slice_index coverage.card.kept (rule_place r)) (slice_index coverage.card.broken (rule_place r)))

abbrev pub with_rules : Layout → List ℕ → Coverage → List Rule → List ℕ
with_rules how text coverage [] = text
with_rules how text coverage (r ∷ more) = with_rules how (with_rule how text coverage r) coverage more

abbrev pub of_state : ℕ → ℕ → List ℕ
of_state terminal card =
    if terminal == 0 && card == 0 then codes ": never\n"
    else codes ": terminal " ++ (decimal terminal ++ (codes ", card " ++ (decimal card ++ codes "\n")))

abbrev pub state_line : Coverage → State → List ℕ
state_line coverage state = codes "state " ++ (state_name state ++ of_state
    (slice_index coverage.terminal.states (state_place state)) (slice_index coverage.card.states (state_place state)))

-- the text so far, and a line or an object about a state
abbrev pub with_state : Layout → List ℕ → Coverage → State → List ℕ
with_state Lines text coverage state = text ++ state_line coverage state
with_state Json items coverage state = with_item items (state_object state
    (slice_index coverage.terminal.states (state_place state)) (slice_index coverage.card.states (state_place state)))

abbrev pub with_states : Layout → List ℕ → Coverage → List State → List ℕ
with_states how text coverage [] = text
with_states how text coverage (state ∷ more) = with_states how (with_state how text coverage state) coverage more

-- the text so far, and lines or objects about each rule and each state, if they are counted
abbrev pub with_coverage : Layout → Bool → List ℕ → Coverage → List ℕ
with_coverage how true text coverage = with_states how (with_rules how text coverage rules) coverage states
with_coverage how false text coverage = text
