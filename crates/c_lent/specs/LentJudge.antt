-- What the calls of a judge of a line do if the caller keeps the state.
use Rattle.std.specs.Prelude.{◌≡◌, ℕ, ◌==◌, if◌then◌else◌, List, [], ◌∷◌, Option, Some, None}
use Rattle.std.specs.Borrow.{Bor}
use Rattle.block_core.specs.Block.{number_bit}
use Rattle.judge_core.specs.declared.rule.Rule.{Rule}
use Rattle.judge_core.specs.declared.rule.Rule.TheVariants as rule
use Rattle.block_core.specs.declared.side.Side.{Side}
use Rattle.judge_core.specs.declared.end.After.{After}
use Rattle.judge_core.specs.declared.courses.Verdict.TheVariants.{Permitted, Unseen, Deviates}
use Rattle.judge_core.specs.declared.monitor.Monitor.{Monitor}
use Rattle.judge_core.specs.declared.monitor.Silence.{Silence}
use Rattle.judge_core.specs.declared.monitor.Silence.TheVariants.{No, Possible, Certain}
use Rattle.judge_core.specs.declared.monitor.Arrival.{Arrival}
use Rattle.judge_core.specs.declared.monitor.Arrival.TheVariants.{Unsaid, Lost, Came}
use Rattle.judge_core.specs.declared.monitor.Said.{Said}
use Rattle.judge_core.specs.declared.monitor.Said.TheVariants.{Damage, Elsewhere, Block}
use Rattle.judge_core.specs.declared.monitor.Report.{Report}
use Rattle.judge_core.specs.Monitored.{silence_of, Takes}
use Rattle.judge_core.specs.Rules.{rule_name, rule_clause}
use Rattle.c_lent.specs.Names.{named}
use Rattle.c_lent.specs.KeptJudge.{asked_shown, owed_shown, monitor_of}
use Rattle.c_lent.specs.declared.kept_judge.CJudge.{CJudge}
use Rattle.c_lent.specs.declared.lent_judge.CDue.{CDue}
use Rattle.c_lent.specs.declared.lent_judge.CJudgment.{CJudgment}

-- what is known about how octets reached the other end, by its number, with the octets that arrived
abbrev pub arrival_of : ℕ → Bor (List ℕ) → Option Arrival
arrival_of n octets =
    if n == 0 then Some Unsaid
    else (if n == 1 then Some Lost
    else (if n == 2 then Some (Came octets) else None))

-- the number of a rule, from 1
abbrev pub rule_number : Rule → ℕ
rule_number rule.NodeAddress = 1
rule_number rule.ControlOctet = 2
rule_number rule.Length = 3
rule_number rule.ReservedSize = 4
rule_number rule.FieldSize = 5
rule_number rule.Turn = 6
rule_number rule.ForeignRequest = 7
rule_number rule.SequenceNumber = 8
rule_number rule.BlockDue = 9
rule_number rule.AcknowledgmentDue = 10
rule_number rule.ErrorCode = 11
rule_number rule.RepeatDue = 12
rule_number rule.RepeatedOctets = 13
rule_number rule.CorrectionDue = 14
rule_number rule.RequestDue = 15
rule_number rule.ResponseDue = 16
rule_number rule.ResponseOctet = 17
rule_number rule.Unasked = 18
rule_number rule.NoChain = 19
rule_number rule.EarlyResynch = 20
rule_number rule.TooManyRepeats = 21
rule_number rule.Silence = 22
rule_number rule.CheckOctet = 23

abbrev pub all_rules : List Rule
all_rules = rule.NodeAddress ∷ rule.ControlOctet ∷ rule.Length ∷ rule.ReservedSize ∷ rule.FieldSize ∷ rule.Turn
    ∷ rule.ForeignRequest ∷ rule.SequenceNumber ∷ rule.BlockDue ∷ rule.AcknowledgmentDue ∷ rule.ErrorCode
    ∷ rule.RepeatDue ∷ rule.RepeatedOctets ∷ rule.CorrectionDue ∷ rule.RequestDue ∷ rule.ResponseDue
    ∷ rule.ResponseOctet ∷ rule.Unasked ∷ rule.NoChain ∷ rule.EarlyResynch ∷ rule.TooManyRepeats ∷ rule.Silence
    ∷ rule.CheckOctet ∷ []

-- by the number of a rule: what breaks it, in a few words, and its clause
abbrev pub rule_words : ℕ → List ℕ
rule_words = named rule_number rule_name all_rules

abbrev pub clause_words : ℕ → List ℕ
clause_words = named rule_number rule_clause all_rules

-- the struct of what was due from an end
abbrev pub due_of : After → CDue
due_of a = record {
  owed = (owed_shown a.owed).0;
  octet = (owed_shown a.owed).1;
  next = number_bit a.«end».next 1;
  expects = number_bit a.«end».expects 1;
  asked = (asked_shown a.«end».asked).0;
}

abbrev pub no_due : CDue
no_due = record { owed = 0; octet = 0; next = 0; expects = 0; asked = 0 }

abbrev pub verdict_number : Said → ℕ
verdict_number (Block Permitted) = 0
verdict_number Damage = 1
verdict_number (Block Unseen) = 2
verdict_number (Block (Deviates broken due)) = 3
verdict_number Elsewhere = 4

-- the number of the broken rule, or 0
abbrev pub rule_shown : Said → ℕ
rule_shown (Block Permitted) = 0
rule_shown Damage = 0
rule_shown Elsewhere = 0
rule_shown (Block Unseen) = 0
rule_shown (Block (Deviates broken due)) = rule_number broken

abbrev pub due_shown : Said → CDue
due_shown (Block Permitted) = no_due
due_shown Damage = no_due
due_shown Elsewhere = no_due
due_shown (Block Unseen) = no_due
due_shown (Block (Deviates broken due)) = due_of due

abbrev pub silence_number : Silence → ℕ
silence_number No = 0
silence_number (Possible number) = 1
silence_number (Certain number) = 2

-- the number of the block that has no answer, or 0
abbrev pub unanswered_by : Silence → ℕ
unanswered_by No = 0
unanswered_by (Possible number) = number
unanswered_by (Certain number) = number

-- the judgment on the block with this number
abbrev pub judgment_of : ℕ → Report → CJudgment
judgment_of number report = record {
  number = number;
  before = report.before;
  unanswered = unanswered_by report.silence;
  verdict = verdict_number report.said;
  rule = rule_shown report.said;
  silence = silence_number report.silence;
  due = due_shown report.said;
}

-- the judgment on a card's silence alone
abbrev pub silence_shown : Silence → CJudgment
silence_shown silence = record {
  number = 0;
  before = 0;
  unanswered = unanswered_by silence;
  verdict = 0;
  rule = 0;
  silence = silence_number silence;
  due = no_due;
}

-- whether the card owes a block now
abbrev pub owes_block : Monitor → Silence
owes_block m = silence_of m.card.heard m.terminal.number

-- octets of an end were judged as a block: its number is the count of blocks so far
pub record JudgesBlock (old : CJudge) (from : Side) (octets : List ℕ) (arrival : Arrival) (new : CJudge)
    (out : CJudgment) : Type 0 where
  pub report : Report
  pub takes : Takes (monitor_of old) from octets arrival (monitor_of new) report
  pub told : out ≡ judgment_of new.blocks report
