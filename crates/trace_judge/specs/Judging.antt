-- What is reported about a whole trace, line by line and at its end.
use Rattle.std.specs.Prelude.{◌≡◌, ◌⊎◌, ◌+◌, ◌-◌, ◌/◌, ◌%◌, ◌<◌, ◌≤◌, ◌==◌, ◌&&◌, not, min, ℕ, List, [], ◌∷◌, ◌++◌, length, slice_index, slice_index_or, codes, decimal, Bool, true, false, Option, Some, None, Result, Ok, Err, if◌then◌else◌, bit_and, count_ones, MatchResult}
use Rattle.std.specs.List.{slice_split}
use Rattle.std.specs.Option.{is_some}
use Rattle.octet_core.specs.Octets.{xor_of}
use Rattle.line_core.specs.Bursts.{most_counted}
use Rattle.layouts.specs.Items.{with_item}
use Rattle.layouts.specs.Members.{with_array, with_number, with_string}
use Rattle.layouts.specs.Version.{program_name}
use Rattle.layouts.specs.declared.layout.Layout.{Layout}
use Rattle.layouts.specs.declared.layout.Layout.TheVariants.{Lines, Json}
use Rattle.atr_core.specs.Rates.{baud_rates, clock_rates}
use Rattle.exchange_text.specs.declared.fault.ExchangeFault.{ExchangeFault}
use Rattle.exchange_text.specs.declared.fault.ExchangeFault.TheVariants.{Falls, Memory}
use Rattle.block_core.specs.Side.{same_side}
use Rattle.block_core.specs.declared.side.Side.{Side}
use Rattle.block_core.specs.declared.side.Side.TheVariants.{Terminal, Card}
use Rattle.judge_core.specs.declared.courses.Verdict.{Verdict}
use Rattle.judge_core.specs.declared.courses.Verdict.TheVariants.{Permitted, Unseen, Deviates}
use Rattle.judge_core.specs.declared.monitor.Monitor.{Monitor}
use Rattle.judge_core.specs.declared.monitor.Report.{Report}
use Rattle.judge_core.specs.declared.monitor.Said.{Said}
use Rattle.judge_core.specs.declared.monitor.Said.TheVariants.{Damage, Elsewhere, Block as Judged}
use Rattle.judge_core.specs.declared.monitor.Silence.{Silence}
use Rattle.judge_core.specs.declared.monitor.Silence.TheVariants.{No, Possible, Certain}
use Rattle.judge_core.specs.declared.monitor.Arrival.{Arrival}
use Rattle.judge_core.specs.declared.monitor.Arrival.TheVariants as arrived
use Rattle.judge_core.specs.declared.rule.Rule.TheVariants.{Silence as SilenceRule}
use Rattle.judge_core.specs.declared.exercise.Exercise.{Exercise}
use Rattle.judge_core.specs.declared.exercise.Exercise.TheVariants.{Unknown, Breaks}
use Rattle.judge_core.specs.Stakes.{Exercises}
use Rattle.judge_core.specs.Monitored.{Takes, midway_after, new_monitor, number_after, quiet_after, reset_after, silence_of}
use Rattle.trace_text.specs.Reading.{entry_of, is_line_end}
use Rattle.trace_text.specs.declared.entry.Entry.{Entry}
use Rattle.trace_text.specs.declared.entry.Entry.TheVariants.{Nothing, Block, Quiet, Reset, Midway, Moment, Until}
use Rattle.trace_text.specs.declared.entry.Reach.{Reach}
use Rattle.trace_text.specs.declared.entry.Reach.TheVariants.{Unsaid, Lost, Parity, Came}
use denote.Ref.{Bor}
use Rattle.trace_judge.specs.declared.tally.Tally.{Tally}
use Rattle.trace_judge.specs.declared.standing.Scope.{Scope}
use Rattle.judge_times.specs.declared.timing.Early.{Early}
use Rattle.judge_times.specs.declared.timing.Late.{Late}
use Rattle.judge_times.specs.declared.timing.Timing.{Timing}
use Rattle.trace_judge.specs.declared.standing.Judgment.{Judgment}
use Rattle.trace_judge.specs.declared.coverage.Coverage.{Coverage}
use Rattle.trace_judge.specs.Coverage.{covered, nothing_covered, with_coverage}
use Rattle.trace_judge.specs.Objects.{pps_object, Place}
use Rattle.trace_judge.specs.Telling.{with_certain, with_deviation, with_early, with_elsewhere, with_late, with_neither, with_possible, with_unseen, with_unwaited}
use Rattle.judge_times.specs.Waiting.{earliness, early_as, late_as, lateness, new_timing, past, timed_as, untimed, Offered, Rates}

-- The state of the judgment after the lines so far.
pub record JudgeState : Type 0 where
  pub monitor : Monitor
  -- what the card's answer to reset offers
  pub offered : Offered
  -- which parts of the trace are judged
  pub scope : Scope
  -- whether a block has come
  pub begun : Bool
  -- the last moment, and the number of the next line
  pub least : ℕ
  pub number : ℕ
  -- what is known about the times on the line
  pub timing : Timing
  pub tally : Tally
  -- which rules and states were exercised
  pub coverage : Coverage
  pub text : List ℕ

abbrev pub nothing_told : Tally
nothing_told = record {
  terminal = 0;
  card = 0;
  unseen = 0;
  late = 0;
  early = 0;
  elsewhere = 0;
  terminal_damaged = 0;
  card_damaged = 0;
}

abbrev pub start : Offered → Scope → JudgeState
start offered scope = record {
  monitor = new_monitor offered.values.ifsc;
  offered = offered;
  scope = scope;
  begun = false;
  least = 0;
  number = 1;
  timing = new_timing offered.rates;
  tally = nothing_told;
  coverage = nothing_covered;
  text = [];
}

-- ---- reports

-- whether this end is judged
abbrev pub is_judged : Option Side → Side → Bool
is_judged None side = true
is_judged (Some only) side = same_side only side

-- whether what this end exercises is counted
abbrev pub counts : JudgeState → Side → Bool
counts s side = s.scope.rules && is_judged s.scope.only side

-- the tally with one more deviation of an end
abbrev pub deviation_of : Side → Tally → Tally
deviation_of Terminal tally = record tally { terminal = number_after tally.terminal }
deviation_of Card tally = record tally { card = number_after tally.card }

abbrev pub unseen_in : Tally → Tally
unseen_in tally = record tally { unseen = number_after tally.unseen }

abbrev pub late_in : Tally → Tally
late_in tally = record tally { late = number_after tally.late }

abbrev pub early_in : Tally → Tally
early_in tally = record tally { early = number_after tally.early }

abbrev pub elsewhere_in : Tally → Tally
elsewhere_in tally = record tally { elsewhere = number_after tally.elsewhere }

-- the tally with one more damaged block of an end
abbrev pub damaged_of : Side → Tally → Tally
damaged_of Terminal tally = record tally { terminal_damaged = number_after tally.terminal_damaged }
damaged_of Card tally = record tally { card_damaged = number_after tally.card_damaged }

-- the standing with this text and this tally, if this end is judged
abbrev pub tells : JudgeState → Side → Tally → List ℕ → JudgeState
tells s side tally text =
    if is_judged s.scope.only side then record s { tally = tally; text = text } else s

-- the standing with what a block of an end exercised, if this end is judged
abbrev pub told_exercise : JudgeState → Side → Exercise → JudgeState
told_exercise s side exercise =
    if is_judged s.scope.only side then record s { coverage = covered side exercise s.coverage } else s

-- the standing after a card sent no block
abbrev pub told_silence : JudgeState → Silence → JudgeState
told_silence s No = s
told_silence s (Possible number) =
    tells s Card (unseen_in s.tally) (with_possible s.scope.layout s.text s.number number)
told_silence s (Certain number) =
    told_exercise (tells s Card (deviation_of Card s.tally) (with_certain s.scope.layout s.text s.number number)) Card
    (Breaks SilenceRule None)

-- the standing after a block of an end
abbrev pub told_verdict : JudgeState → Place → Side → ℕ → Verdict → JudgeState
told_verdict s place from before Permitted = s
told_verdict s place from before Unseen =
    tells s from (unseen_in s.tally) (with_unseen s.scope.layout s.text place s.monitor.blocks from before)
told_verdict s place from before (Deviates broken due) =
    tells s from (deviation_of from s.tally)
    (with_deviation s.scope.layout s.text place s.monitor.blocks from broken due)

-- The standing after a block of another logical connection. The judgment names it whichever end is judged, since nobody
-- judges what the other end owes there.
abbrev pub told_elsewhere : JudgeState → Place → Side → JudgeState
told_elsewhere s place from = record s {
  tally = elsewhere_in s.tally;
  text = with_elsewhere s.scope.layout s.text place s.monitor.blocks from;
}

abbrev pub told_said : JudgeState → Place → Side → ℕ → Said → JudgeState
told_said s place from before Damage = tells s from (damaged_of from s.tally) s.text
told_said s place from before Elsewhere = told_elsewhere s place from
told_said s place from before (Judged verdict) = told_verdict s place from before verdict

-- The standing after a card sent no block before the terminal's next one. If it got the terminal's block, it deviates
-- only if its time was over; else the terminal may have sent too early.
abbrev pub told_missing : JudgeState → Bool → Silence → JudgeState
told_missing s over No = s
told_missing s over (Possible number) = told_silence s (Possible number)
told_missing s true (Certain number) = told_silence s (Certain number)
told_missing s false (Certain number) =
    tells s Card (unseen_in s.tally) (with_unwaited s.scope.layout s.text s.number number)

abbrev pub told_report : JudgeState → Place → Side → Bool → Report → JudgeState
told_report s place from over report =
    told_said (told_missing s over report.silence) place from report.before report.said

-- by how much a card's block would be late now
abbrev pub late_now : JudgeState → Option Late
late_now s = lateness s.offered.values s.scope.clock s.timing s.monitor.card.heard

-- Whether a card's block is late, from what was known before it.
abbrev pub late_from : JudgeState → Side → Option Late
late_from s Terminal = None
late_from s Card = late_now s

-- Whether a terminal's block is early, from what was known before it.
abbrev pub early_from : JudgeState → Side → Option Early
early_from s Terminal = earliness s.offered.values s.scope.clock s.timing s.monitor.card.heard
early_from s Card = None

abbrev pub told_late : JudgeState → Place → ℕ → Option Late → JudgeState
told_late s place before None = s
told_late s place before (Some late) =
    tells s Card (late_in s.tally) (with_late s.scope.layout s.text place s.monitor.blocks before late)

-- the block before a terminal's early one is the last of both ends
abbrev pub told_early : JudgeState → Place → Option Early → JudgeState
told_early s place None = s
told_early s place (Some early) = tells s Terminal (early_in s.tally)
    (with_early s.scope.layout s.text place s.monitor.blocks (s.monitor.blocks - 1) early)

-- ---- before the first block: PPS (ISO/IEC 7816-3:2006, clause 9)

-- PPSS, PPS0, an octet for each set bit of three in PPS0, and PCK, which makes the exclusive-or of all octets 00
abbrev pub is_pps : List ℕ → Bool
is_pps octets = (length octets == 3 + count_ones (bit_and (slice_index octets 1) 112)) && (xor_of octets == 0)

-- PPS1, which has the indexes of F and D as TA1 has them; without it, the indexes of the values in use
abbrev pub pps1_of : List ℕ → ℕ
pps1_of octets = if bit_and (slice_index octets 1) 16 == 0 then 0x11 else slice_index octets 2

abbrev pub rate_text : Option ℕ → List ℕ
rate_text None = codes "reserved"
rate_text (Some rate) = decimal rate

-- F and D from the tables of TA1
abbrev pub rates_at : ℕ → Rates
rates_at pps1 = (slice_index_or clock_rates (pps1 / 16) None, slice_index_or baud_rates (pps1 % 16) None)

abbrev pub rates_text : Option ℕ → Option ℕ → List ℕ
rates_text f d = codes "pps F " ++ (rate_text f ++ (codes " D " ++ (rate_text d ++ codes "\n")))

-- octets before the first block, with FF instead of a node address
abbrev pub is_before : JudgeState → List ℕ → Bool
is_before s octets = not s.begun && (slice_index octets 0 == 255)

abbrev pub with_pps : Layout → List ℕ → ℕ → List ℕ
with_pps Lines text pps1 = text ++ rates_text (rates_at pps1).0 (rates_at pps1).1
with_pps Json items pps1 = with_item items (pps_object (rates_at pps1).0 (rates_at pps1).1)

-- What is said of PPS: the card's answer is in force.
abbrev pub with_pps_of : Layout → List ℕ → Side → List ℕ → List ℕ
with_pps_of how text Terminal octets = text
with_pps_of how text Card octets = with_pps how text (pps1_of octets)

abbrev pub pps_timed : Timing → Side → List ℕ → Timing
pps_timed timing Terminal octets = past timing
pps_timed timing Card octets = record (past timing) { rates = rates_at (pps1_of octets) }

abbrev pub told_before : JudgeState → Side → List ℕ → JudgeState
told_before s from octets = record s {
  timing = if is_pps octets then pps_timed s.timing from octets else past s.timing;
  text = if is_pps octets then with_pps_of s.scope.layout s.text from octets
      else with_neither s.scope.layout s.text s.number;
}

-- ---- lines

-- these octets arrived
abbrev pub HasCome : List ℕ → Arrival → Type 0
HasCome octets arrival = (slice : Bor (List ℕ)) × (slice.now ≡ octets) × (arrival ≡ arrived.Came slice)

-- How a block arrived, as a monitor takes it. With an error of parity it is damaged, as no octet is.
abbrev pub IsArrival : Reach → Arrival → Type 0
IsArrival Unsaid arrival = arrival ≡ arrived.Unsaid
IsArrival Lost arrival = arrival ≡ arrived.Lost
IsArrival Parity arrival = HasCome [] arrival
IsArrival (Came octets) arrival = HasCome octets arrival

-- what octets of an end exercise, if that is counted
abbrev pub ExercisesIf : Bool → Monitor → Side → List ℕ → Arrival → Exercise → Type 0
ExercisesIf true monitor from octets arrival exercise = Exercises monitor from octets arrival exercise
ExercisesIf false monitor from octets arrival exercise = exercise ≡ Unknown

-- where octets are that come now
abbrev pub place_of : JudgeState → List ℕ → Place
place_of s octets = record { line = s.number; moment = s.timing.now; octets = octets }

-- the standing with what the monitor says of a block
abbrev pub told_monitored : JudgeState → Monitor → Side → List ℕ → Exercise → Report → JudgeState
told_monitored s monitor from octets exercise report = told_report (told_exercise (record s {
  monitor = monitor;
  begun = true;
  timing = timed_as report.said s.timing from (length octets);
}) from exercise) (place_of s octets) from (is_some (late_now s)) report

-- The standing after a block: it counts what the block exercised, reports what the monitor says, and then whether the
-- block was late or early.
abbrev pub told_block : JudgeState → Monitor → Side → List ℕ → Exercise → Report → JudgeState
told_block s monitor from octets exercise report = told_early (told_late
    (told_monitored s monitor from octets exercise report) (place_of s octets) s.monitor.terminal.number
    (late_as report.said (late_from s from)))
    (place_of s octets) (early_as report.said (early_from s from))

-- The monitor takes octets of an end, and s' is the standing with its report.
pub record IsTold (s : JudgeState) (from : Side) (octets : List ℕ) (reach : Reach) (s' : JudgeState) : Type 0 where
  pub arrival : Arrival
  pub is_arrival : IsArrival reach arrival
  pub monitor : Monitor
  pub report : Report
  pub takes : Takes s.monitor from octets arrival monitor report
  pub exercise : Exercise
  pub exercises : ExercisesIf s.scope.rules s.monitor from octets arrival exercise
  pub told : s' ≡ told_block s monitor from octets exercise report

abbrev pub IsBlockTold : Bool → JudgeState → Side → List ℕ → Reach → JudgeState → Type 0
IsBlockTold true s from octets reach s' = s' ≡ told_before s from octets
IsBlockTold false s from octets reach s' = IsTold s from octets reach s'

abbrev pub quietened : JudgeState → JudgeState
quietened s = told_silence (record s { monitor = quiet_after s.monitor; timing = past s.timing })
    (silence_of s.monitor.card.heard s.monitor.terminal.number)

abbrev pub renewed : JudgeState → JudgeState
renewed s = record s {
  monitor = reset_after s.monitor s.offered.values.ifsc;
  begun = false;
  timing = new_timing s.offered.rates;
}

-- the standing at a place where the trace begins in the midst of a session
abbrev pub midway : JudgeState → JudgeState
midway s = record s {
  monitor = midway_after s.monitor;
  begun = true;
  timing = untimed s.timing;
}

abbrev pub at_moment : JudgeState → ℕ → JudgeState
at_moment s moment = record s { least = moment; timing = record s.timing { now = Some moment; until = None } }

abbrev pub until_moment : JudgeState → ℕ → JudgeState
until_moment s moment = record s { least = moment; timing = record s.timing { until = Some moment } }

abbrev pub IsEntered : JudgeState → Entry → JudgeState → Type 0
IsEntered s Nothing s' = s' ≡ s
IsEntered s Quiet s' = s' ≡ quietened s
IsEntered s Reset s' = s' ≡ renewed s
IsEntered s Midway s' = s' ≡ midway s
IsEntered s (Moment moment) s' = (s.least ≤ moment) × (s' ≡ at_moment s moment)
IsEntered s (Until moment) s' = (s.least ≤ moment) × (s' ≡ until_moment s moment)
IsEntered s (Block from octets reach) s' = IsBlockTold (is_before s octets) s from octets reach s'

abbrev pub IsFalling : JudgeState → Entry → Type 0
IsFalling s Nothing = ⊥
IsFalling s Quiet = ⊥
IsFalling s Reset = ⊥
IsFalling s Midway = ⊥
IsFalling s (Moment moment) = moment < s.least
IsFalling s (Until moment) = moment < s.least
IsFalling s (Block from octets reach) = ⊥

-- A line is taken, or has a fault.
abbrev pub JudgesLine : JudgeState → List ℕ → JudgeState → Type 0
JudgesLine s line s' = MatchResult (entry_of s.number line)
    (λ entry. (m : JudgeState) × IsEntered s entry m × (s' ≡ record m { number = s.number + 1 }))
    (λ fault. ⊥)

abbrev pub Fails : JudgeState → List ℕ → ExchangeFault → Type 0
Fails s line fault = MatchResult (entry_of s.number line)
    (λ entry. IsFalling s entry × (fault ≡ Falls s.number))
    (λ wrong. fault ≡ wrong)

abbrev pub JudgesLines : JudgeState → List (List ℕ) → Result JudgeState ExchangeFault → Type 0
JudgesLines s [] result = result ≡ Ok s
JudgesLines s (line ∷ lines) result =
    ((m : JudgeState) × JudgesLine s line m × JudgesLines m lines result)
    ⊎ ((fault : ExchangeFault) × Fails s line fault × (result ≡ Err fault))

-- ---- the end

abbrev pub deviations : Tally → ℕ
deviations tally = min (tally.terminal + tally.card + tally.late + tally.early) most_counted

abbrev pub unseen_part : ℕ → List ℕ
unseen_part unseen = codes ", unseen " ++ decimal unseen

-- a number with its name, if there are any
abbrev pub time_part : List ℕ → ℕ → List ℕ
time_part name number = if number == 0 then [] else name ++ decimal number

-- how many blocks of each end were damaged on the line
unfoldable pub damaged_terminal : ℕ → List ℕ
damaged_terminal damaged = codes ", damaged terminal " ++ decimal damaged

unfoldable pub damaged_card : ℕ → List ℕ
damaged_card damaged = codes " card " ++ decimal damaged

abbrev pub damaged_text : Tally → List ℕ
damaged_text tally = damaged_terminal tally.terminal_damaged ++ damaged_card tally.card_damaged

abbrev pub is_undamaged : Tally → Bool
is_undamaged tally = (tally.terminal_damaged == 0) && (tally.card_damaged == 0)

abbrev pub damaged_part : Tally → List ℕ
damaged_part tally = if is_undamaged tally then [] else damaged_text tally

-- no block needs damage that nobody saw, and each was judged
abbrev pub is_sure : Tally → Bool
is_sure tally = (tally.unseen == 0) && (tally.elsewhere == 0)

-- each block is permitted, and that is sure
abbrev pub is_ok : Tally → Bool
is_ok tally = (deviations tally == 0) && is_sure tally

-- a number with the name of what it counts
abbrev pub counted : ℕ → List ℕ → List ℕ
counted number name = decimal number ++ (name ++ (if number == 1 then [] else codes "s"))

-- A trace without a deviation is `ok`, or `unsure` if some block needs damage that nobody saw or wasn't judged.
abbrev pub verdict_name : Tally → List ℕ
verdict_name tally = if is_sure tally then codes "ok" else codes "unsure"

-- how many blocks were of another logical connection, if any
unfoldable pub elsewhere_part : Tally → List ℕ
elsewhere_part tally = time_part (codes ", not judged ") tally.elsewhere

abbrev pub ok_text : ℕ → Tally → List ℕ
ok_text blocks tally = verdict_name tally ++ (codes " " ++ (counted blocks (codes " block")
    ++ ((if tally.unseen == 0 then [] else unseen_part tally.unseen)
    ++ (elsewhere_part tally ++ (damaged_part tally ++ codes "\n")))))

-- the parts for what nobody can say
abbrev pub unsure_part : Tally → List ℕ
unsure_part tally = unseen_part tally.unseen ++ elsewhere_part tally

-- the parts for the deviations in time
unfoldable pub times_part : Tally → List ℕ
times_part tally = time_part (codes ", late ") tally.late ++ time_part (codes ", early ") tally.early

abbrev pub ends_text : Tally → List ℕ
ends_text tally = decimal tally.terminal ++ (codes ", card " ++ (decimal tally.card
    ++ (unsure_part tally ++ (times_part tally ++ (damaged_part tally ++ codes "\n")))))

abbrev pub deviations_text : ℕ → Tally → List ℕ
deviations_text blocks tally = counted blocks (codes " block") ++ (codes ", "
    ++ (counted (deviations tally) (codes " deviation") ++ (codes ": terminal " ++ ends_text tally)))

abbrev pub summary : ℕ → Tally → List ℕ
summary blocks tally =
    if deviations tally == 0 then ok_text blocks tally else deviations_text blocks tally

-- a member with a number, unless that is 0
unfoldable pub with_unless_zero : List ℕ → List ℕ → ℕ → List ℕ
with_unless_zero members name n = if n == 0 then members else with_number members name n

-- the members for blocks of another connection, if there are any, and for the program
unfoldable pub with_program : List ℕ → Tally → List ℕ
with_program members tally =
    with_string (with_unless_zero members (codes "not_judged") tally.elsewhere) (codes "program") program_name

-- the members for the counts of the blocks, if no end deviates
unfoldable pub ok_counts : ℕ → Tally → List ℕ
ok_counts blocks tally = with_unless_zero
    (with_program (with_unless_zero (with_number [] (codes "blocks") blocks) (codes "card_damaged") tally.card_damaged)
    tally) (codes "terminal_damaged") tally.terminal_damaged

-- the members of an object if no end deviates, with an array of these items
abbrev pub ok_members : ℕ → Tally → List ℕ → List ℕ
ok_members blocks tally items = with_string
    (with_unless_zero (with_array (ok_counts blocks tally) (codes "told") items) (codes "unseen") tally.unseen)
    (codes "verdict") (verdict_name tally)

-- the members for the counts of the blocks and of what the card sent
unfoldable pub card_counts : ℕ → Tally → List ℕ
card_counts blocks tally = with_unless_zero (with_number (with_number [] (codes "blocks") blocks)
    (codes "card") tally.card) (codes "card_damaged") tally.card_damaged

-- the members for the counts of the blocks and the deviations
unfoldable pub deviation_counts : ℕ → Tally → List ℕ
deviation_counts blocks tally = with_unless_zero (with_number
    (with_program (with_unless_zero (with_unless_zero (with_number (card_counts blocks tally)
    (codes "deviations") (deviations tally)) (codes "early") tally.early) (codes "late") tally.late) tally)
    (codes "terminal") tally.terminal) (codes "terminal_damaged") tally.terminal_damaged

-- the members of an object if an end deviates, with an array of these items
abbrev pub deviations_members : ℕ → Tally → List ℕ → List ℕ
deviations_members blocks tally items = with_string (with_number
    (with_array (deviation_counts blocks tally) (codes "told") items) (codes "unseen") tally.unseen)
    (codes "verdict") (codes "deviates")

abbrev pub summary_members : ℕ → Tally → List ℕ → List ℕ
summary_members blocks tally items =
    if deviations tally == 0 then ok_members blocks tally items else deviations_members blocks tally items

-- the text about a trace with its summary: its lines and a last one, or the members of an object
abbrev pub with_summary : Layout → List ℕ → ℕ → Tally → List ℕ
with_summary Lines text blocks tally = text ++ summary blocks tally
with_summary Json items blocks tally = summary_members blocks tally items

-- The whole text of a standing at the end. That a card sent nothing is said after the terminal's waiting time or at its
-- next block, and not at the end: no time passes there.
abbrev pub judged_text : JudgeState → List ℕ
judged_text s = with_summary s.scope.layout (with_coverage s.scope.layout s.scope.rules s.text s.coverage)
    s.monitor.blocks s.tally

pub record IsConcluded (s : JudgeState) (judgment : Judgment) : Type 0 where
  pub text : judgment.text ≡ judged_text s
  pub is_ok : judgment.is_ok ≡ is_ok s.tally

abbrev pub Concludes : Result JudgeState ExchangeFault → Result Judgment ExchangeFault → Type 0
Concludes (Ok s) result = MatchResult result (IsConcluded s) (λ fault. ⊥)
Concludes (Err fault) result = result ≡ Err fault

-- The judgment on a text for a card that offers this: its lines, or the first fault; or out of memory.
abbrev pub Judges : Offered → Scope → List ℕ → Result Judgment ExchangeFault → Type 0
Judges offered scope text result = (result ≡ Err Memory)
    ⊎ ((all : Result JudgeState ExchangeFault)
    × JudgesLines (start offered scope) (slice_split is_line_end text) all × Concludes all result)
