-- The places of rules and of states are below how many there are.
use Rattle.std.proofs.Common.{◌<◌, lit<}
use Rattle.judge_core.specs.declared.rule.Rule.{Rule}
use Rattle.judge_core.specs.declared.rule.Rule.TheVariants as rule
use Rattle.judge_core.specs.declared.state.State.{State}
use Rattle.judge_core.specs.declared.state.State.TheVariants as state
use Rattle.judge_core.specs.Rules.{rule_place}
use Rattle.judge_core.specs.States.{state_place}

pub rule-below : (r : Rule) → rule_place r < 23
rule-below rule.NodeAddress = lit< tt
rule-below rule.ControlOctet = lit< tt
rule-below rule.Length = lit< tt
rule-below rule.CheckOctet = lit< tt
rule-below rule.ReservedSize = lit< tt
rule-below rule.FieldSize = lit< tt
rule-below rule.Turn = lit< tt
rule-below rule.ForeignRequest = lit< tt
rule-below rule.SequenceNumber = lit< tt
rule-below rule.BlockDue = lit< tt
rule-below rule.AcknowledgmentDue = lit< tt
rule-below rule.ErrorCode = lit< tt
rule-below rule.RepeatDue = lit< tt
rule-below rule.RepeatedOctets = lit< tt
rule-below rule.CorrectionDue = lit< tt
rule-below rule.RequestDue = lit< tt
rule-below rule.ResponseDue = lit< tt
rule-below rule.ResponseOctet = lit< tt
rule-below rule.Unasked = lit< tt
rule-below rule.NoChain = lit< tt
rule-below rule.EarlyResynch = lit< tt
rule-below rule.TooManyRepeats = lit< tt
rule-below rule.Silence = lit< tt

pub state-below : (s : State) → state_place s < 16
state-below state.Message = lit< tt
state-below state.Chain = lit< tt
state-below state.Acknowledgment = lit< tt
state-below state.Repeat = lit< tt
state-below state.Correction = lit< tt
state-below state.Refusal = lit< tt
state-below state.Request = lit< tt
state-below state.Resynch = lit< tt
state-below state.Size = lit< tt
state-below state.Abort = lit< tt
state-below state.Time = lit< tt
state-below state.AfterAbort = lit< tt
state-below state.MessageOrCorrection = lit< tt
state-below state.MessageOrRefusal = lit< tt
state-below state.AcknowledgmentOrRefusal = lit< tt
state-below state.Any = lit< tt
