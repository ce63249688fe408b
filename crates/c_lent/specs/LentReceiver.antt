-- What the calls of a receiver of a chain do if the caller owns the state and the buffer.
use Rattle.std.specs.Prelude.{◌≡◌, ℕ, List, Result, Option, None, Some, length, replicate}
use Rattle.octet_core.specs.declared.stop.Stop.{Stop}
use Rattle.block_core.specs.declared.pcb.Number.{Number}
use Rattle.chain_core.specs.Taking.{Taking, nothing_taken}
use Rattle.chain_core.specs.Lent.{IsFinishedHere}
use Rattle.chain_core.specs.declared.reason.ChainReason.{ChainReason}
use Rattle.c_lent.specs.Chain.{chain_reason}
use Rattle.c_lent.specs.Verdict.{ok_at, told_end, wrong_argument}
use Rattle.c_lent.specs.Pieces.{FeedsChain}
use Rattle.c_lent.specs.KeptReceiver.{IsReceiver}
use Rattle.c_lent.specs.declared.verdict.Verdict.{Verdict}
use Rattle.c_lent.specs.declared.kept_receiver.CReceiver.{CReceiver}

-- the state and the buffer aren't a receiver
abbrev pub IsNoReceiver : CReceiver → List ℕ → Type 0
IsNoReceiver c message = (r : Taking) → IsReceiver c message r → ⊥

-- a receiver takes a piece, or refuses an octet of it, and the state and the buffer are the receiver after that
pub record FeedsReceiver (old : Taking) (piece : List ℕ) (c : CReceiver) (message : List ℕ) (v : Verdict) : Type 0
  where
    pub new : Taking
    pub is : IsReceiver c message new
    pub fed : FeedsChain old new piece v

-- A piece for a receiver, or for a state and a buffer that aren't a receiver.
pub record ReceiverFed (old : CReceiver) (message piece : List ℕ) (new : CReceiver) (after : List ℕ) (v : Verdict) :
    Type 0 where
  pub none : IsNoReceiver old message → (v ≡ wrong_argument 0) × (new ≡ old) × (after ≡ message)
  pub fed : (r : Taking) → IsReceiver old message r → FeedsReceiver r piece new after v

-- a receiver begins anew with a first block of this number, and each octet of its buffer is 0
pub record BeginsAnew (r : Taking) (first : Number) (old new : CReceiver) (message after : List ℕ) (v : Verdict)
    : Type 0 where
  pub is : IsReceiver new after (nothing_taken r.ifs first r.max)
  pub wiped : after ≡ replicate (length message) 0
  pub verdict : v ≡ ok_at 0

-- A new beginning for a receiver with a first block of this number, if there is such a number, or for a state and a
-- buffer that aren't a receiver.
pub record ReceiverRestarted (old : CReceiver) (message : List ℕ) (number : Option Number) (new : CReceiver)
    (after : List ℕ) (v : Verdict) : Type 0 where
  pub none : IsNoReceiver old message → (v ≡ wrong_argument 0) × (new ≡ old) × (after ≡ message)
  pub unnumbered : number ≡ None → (v ≡ wrong_argument 0) × (new ≡ old) × (after ≡ message)
  pub anew : (r : Taking) → IsReceiver old message r → (first : Number) → number ≡ Some first
      → BeginsAnew r first old new message after v

-- the verdict on all the octets that a receiver was fed
pub record EndsReceiver (r : Taking) (v : Verdict) : Type 0 where
  pub answer : Result (Unit {0}) (Stop ChainReason)
  pub finished : IsFinishedHere r answer
  pub verdict : v ≡ told_end chain_reason answer

-- The end of the octets for a receiver, or for a state and a buffer that aren't a receiver.
pub record ReceiverEnded (c : CReceiver) (message : List ℕ) (v : Verdict) : Type 0 where
  pub none : IsNoReceiver c message → v ≡ wrong_argument 0
  pub ended : (r : Taking) → IsReceiver c message r → EndsReceiver r v
