-- The texts about the blocks of a trace: rules, what was due, and what nobody can see.
use Rattle.std.specs.Prelude.{ℕ, List, ◌++◌, codes, decimal, Option, Some, None}
use Rattle.block_core.specs.Block.{other}
use Rattle.block_core.specs.declared.pcb.Number.{Number}
use Rattle.block_core.specs.declared.pcb.Number.TheVariants.{Zero, One}
use Rattle.block_core.specs.declared.pcb.S.{S}
use Rattle.block_core.specs.declared.pcb.S.TheVariants.{Resynch, Ifs, Abort, Wtx}
use Rattle.block_core.specs.declared.side.Side.{Side}
use Rattle.block_core.specs.declared.side.Side.TheVariants.{Terminal, Card}
use Rattle.judge_core.specs.declared.end.Asked.{Asked}
use Rattle.judge_core.specs.declared.end.Asked.TheVariants.{Size, Time, Stop, Anew}
use Rattle.judge_core.specs.declared.end.Owed.{Owed}
use Rattle.judge_core.specs.declared.end.Owed.TheVariants.{NewMessage, NextBlock, Acknowledgment, SameBlock, Correction, Refusal, SameRequest, Answer, EitherBlock, MessageOrCorrection, MessageOrRefusal, AcknowledgmentOrRefusal, AnyBlock}
use Rattle.judge_core.specs.declared.end.End.{End}
use Rattle.judge_core.specs.declared.end.After.{After}
use Rattle.judge_core.specs.declared.rule.Rule.{Rule}
use Rattle.judge_core.specs.declared.rule.Rule.TheVariants.{NodeAddress, Silence}
use Rattle.judge_core.specs.Rules.{rule_clause, rule_name}
use Rattle.judge_times.specs.declared.timing.Early.{Early}
use Rattle.judge_times.specs.declared.timing.Late.{Late}

abbrev pub side_text : Side → List ℕ
side_text Terminal = codes "terminal"
side_text Card = codes "card"

abbrev pub digit_text : Number → List ℕ
digit_text Zero = codes "0"
digit_text One = codes "1"

abbrev pub subject_text : S → List ℕ
subject_text Resynch = codes "RESYNCH"
subject_text Ifs = codes "IFS"
subject_text Abort = codes "ABORT"
subject_text Wtx = codes "WTX"

abbrev pub asked_text : Option Asked → List ℕ
asked_text None = codes "its"
asked_text (Some (Size n)) = codes "IFS"
asked_text (Some (Time n)) = codes "WTX"
asked_text (Some Stop) = codes "ABORT"
asked_text (Some Anew) = codes "RESYNCH"

abbrev pub i_block : End → List ℕ
i_block e = codes "I-block " ++ digit_text e.next

abbrev pub r_block : End → List ℕ
r_block e = codes "R-block " ++ digit_text e.expects

abbrev pub either_block : End → List ℕ
either_block e = i_block e ++ (codes " or R-block " ++ digit_text e.expects)

-- what is due from an end
abbrev pub due_text : End → Owed → List ℕ
due_text e NewMessage = i_block e
due_text e NextBlock = i_block e
due_text e Acknowledgment = r_block e
due_text e SameBlock = codes "I-block " ++ (digit_text (other e.next) ++ codes " again")
due_text e Correction = r_block e
due_text e Refusal = r_block e
due_text e SameRequest = asked_text e.asked ++ codes " request again"
due_text e (Answer s n) = subject_text s ++ codes " response"
due_text e EitherBlock = either_block e
due_text e MessageOrCorrection = either_block e
due_text e MessageOrRefusal = i_block e
due_text e AcknowledgmentOrRefusal = r_block e
due_text e AnyBlock = codes "any block"

-- a block with its number
abbrev pub block_text : ℕ → Side → List ℕ
block_text number side = codes "block " ++ (decimal number ++ (codes " " ++ side_text side))

abbrev pub clause_text : Rule → List ℕ
clause_text broken = codes "  (" ++ (rule_clause broken ++ codes ")\n")

-- a block that breaks a rule: `block 12 card: sequence number, due I-block 0  (CLAUSE)`
abbrev pub deviation_text : ℕ → Side → Rule → After → List ℕ
deviation_text number side broken due = block_text number side ++ (codes ": " ++ (rule_name broken
    ++ (codes ", due " ++ (due_text due.«end» due.owed ++ clause_text broken))))

-- a block that is permitted only after unseen damage
abbrev pub condition_text : ℕ → List ℕ
condition_text before = codes ": permitted if block " ++ (decimal before ++ codes " was damaged or lost unseen\n")

abbrev pub unseen_text : ℕ → Side → ℕ → List ℕ
unseen_text number side before = block_text number side ++ condition_text before

-- a block of another logical connection
abbrev pub elsewhere_text : ℕ → Side → List ℕ
elsewhere_text number side =
    block_text number side ++ (codes ": another logical connection, not judged" ++ clause_text NodeAddress)

-- a card that sent nothing, and may not have received the block
abbrev pub possible_text : ℕ → List ℕ
possible_text number =
    codes "card: no answer to block " ++ (decimal number ++ codes ", permitted if that was lost unseen\n")

abbrev pub certain_text : ℕ → List ℕ
certain_text number =
    codes "card: no answer to block " ++ (decimal number ++ (codes ", which it got" ++ clause_text Silence))

abbrev pub elapsed_text : ℕ → List ℕ
elapsed_text elapsed = codes ": late, " ++ (decimal elapsed ++ codes " microseconds")

abbrev pub after_text : ℕ → List ℕ
after_text before = codes " after block " ++ (decimal before ++ codes ", ")

abbrev pub permitted_text : ℕ → List ℕ
permitted_text permitted = codes "permitted " ++ (decimal permitted ++ codes "  (11.4.3)\n")

-- a card's block that came too late after a terminal's
abbrev pub late_text : ℕ → ℕ → Late → List ℕ
late_text number before late =
    block_text number Card ++ (elapsed_text late.elapsed ++ (after_text before ++ permitted_text late.permitted))

abbrev pub least_text : ℕ → List ℕ
least_text least = codes "permitted from " ++ (decimal least ++ codes "  (11.4.3)\n")

abbrev pub early_elapsed : ℕ → List ℕ
early_elapsed elapsed = codes ": early, " ++ (decimal elapsed ++ codes " microseconds")

-- a terminal's block that came too early after the block before
abbrev pub early_text : ℕ → ℕ → Early → List ℕ
early_text number before early =
    block_text number Terminal ++ (early_elapsed early.elapsed ++ (after_text before ++ least_text early.least))

-- a card that sent nothing before the terminal's next block, although it got one: the terminal may have sent too early
abbrev pub unwaited_text : ℕ → List ℕ
unwaited_text number = codes "card: no answer to block "
    ++ (decimal number ++ codes ", permitted if the terminal sent before its waiting time ended\n")

-- octets before the first block that aren't PPS and aren't a block, by the line of the trace
abbrev pub neither_text : ℕ → List ℕ
neither_text number = codes "line " ++ (decimal number ++ codes ": neither PPS nor a block\n")
