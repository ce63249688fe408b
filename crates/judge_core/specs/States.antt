-- What may be due from an end when it sends a block, and the texts of these states.
use Rattle.std.specs.Prelude.{ℕ, List, [], ◌∷◌, codes}
use Rattle.block_core.specs.declared.pcb.S.{S}
use Rattle.block_core.specs.declared.pcb.S.TheVariants.{Resynch, Ifs, Abort, Wtx}
use Rattle.judge_core.specs.declared.end.Owed.{Owed}
use Rattle.judge_core.specs.declared.end.Owed.TheVariants.{NewMessage, NextBlock, Acknowledgment, SameBlock, Correction, Refusal, SameRequest, Answer, EitherBlock, MessageOrCorrection, MessageOrRefusal, AcknowledgmentOrRefusal, AnyBlock}
use Rattle.judge_core.specs.declared.state.State.{State}
use Rattle.judge_core.specs.declared.state.State.TheVariants as state

abbrev pub response_state : S → State
response_state Resynch = state.Resynch
response_state Ifs = state.Size
response_state Abort = state.Abort
response_state Wtx = state.Time

-- the state of an end that owes this
abbrev pub state_of : Owed → State
state_of NewMessage = state.Message
state_of NextBlock = state.Chain
state_of Acknowledgment = state.Acknowledgment
state_of SameBlock = state.Repeat
state_of Correction = state.Correction
state_of Refusal = state.Refusal
state_of SameRequest = state.Request
state_of (Answer s octet) = response_state s
state_of EitherBlock = state.AfterAbort
state_of MessageOrCorrection = state.MessageOrCorrection
state_of MessageOrRefusal = state.MessageOrRefusal
state_of AcknowledgmentOrRefusal = state.AcknowledgmentOrRefusal
state_of AnyBlock = state.Any

abbrev pub state_name : State → List ℕ
state_name state.Message = codes "first I-block of a message"
state_name state.Chain = codes "next I-block of a chain"
state_name state.Acknowledgment = codes "acknowledgment"
state_name state.Repeat = codes "I-block again"
state_name state.Correction = codes "R-block after an error"
state_name state.Refusal = codes "R-block that refuses"
state_name state.Request = codes "request again"
state_name state.Resynch = codes "RESYNCH response"
state_name state.Size = codes "IFS response"
state_name state.Abort = codes "ABORT response"
state_name state.Time = codes "WTX response"
state_name state.AfterAbort = codes "I-block or R-block after ABORT"
state_name state.MessageOrCorrection = codes "I-block or R-block after an error"
state_name state.MessageOrRefusal = codes "I-block or R-block that refuses"
state_name state.AcknowledgmentOrRefusal = codes "acknowledgment or R-block that refuses"
state_name state.Any = codes "any block"

-- all states
abbrev pub states : List State
states =
    state.Message ∷ state.Chain ∷ state.Acknowledgment ∷ state.Repeat ∷ state.Correction ∷ state.Refusal ∷ state.Request
    ∷ state.Resynch ∷ state.Size ∷ state.Abort ∷ state.Time ∷ state.AfterAbort ∷ state.MessageOrCorrection ∷
    state.MessageOrRefusal ∷ state.AcknowledgmentOrRefusal ∷ state.Any ∷ []

-- the place of a state among all states, from 0
abbrev pub state_place : State → ℕ
state_place state.Message = 0
state_place state.Chain = 1
state_place state.Acknowledgment = 2
state_place state.Repeat = 3
state_place state.Correction = 4
state_place state.Refusal = 5
state_place state.Request = 6
state_place state.Resynch = 7
state_place state.Size = 8
state_place state.Abort = 9
state_place state.Time = 10
state_place state.AfterAbort = 11
state_place state.MessageOrCorrection = 12
state_place state.MessageOrRefusal = 13
state_place state.AcknowledgmentOrRefusal = 14
state_place state.Any = 15
