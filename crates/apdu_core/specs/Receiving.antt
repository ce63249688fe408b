-- What a call that receives an APDU as a chain returns, and what it leaves. `remaining` is what a reader still holds,
-- if it is known, and `failures` is how many of its calls failed.
use Rattle.std.specs.Prelude.{◌≡◌, ◌⊎◌, ℕ, List, length, Option, Some, Result, Ok, Err}
use Rattle.std.specs.Io.KnownBytes.{Consumes, IsAtEnd}
use Rattle.octet_core.specs.Failures.{HasFailed, next_count}
use Rattle.octet_core.specs.Grammar.{Accepts, Begins, Refuses, self_ended, whole}
use Rattle.octet_core.specs.declared.stop.Stop.{Stop}
use Rattle.octet_core.specs.declared.stop.Stop.TheVariants.{Short, At}
use Rattle.block_core.specs.declared.pcb.Number.{Number}
use Rattle.chain_core.specs.Chain as chain
use Rattle.chain_core.specs.Chain.{IsChain, message_of}
use Rattle.chain_core.specs.Reads.{EndsNear}
use Rattle.chain_core.specs.declared.reason.ChainReason.{ChainReason}
use Rattle.chain_core.specs.declared.reading.ReadRefusal.{ReadRefusal}
use Rattle.chain_core.specs.declared.reading.ReadRefusal.TheVariants as refusals
use Rattle.octet_core.specs.declared.stop.Refused.{Refused}
use Rattle.octet_core.specs.declared.stop.Refused.TheVariants as refusal
use Rattle.apdu_core.specs.declared.receiving.ReceiveFault.{ReceiveFault}
use Rattle.apdu_core.specs.declared.receiving.ReceiveFault.TheVariants.{Memory, Read, Chain, Apdu}

module _ {Reader : Type 0} (limit ifs : ℕ) (number : Number) (remaining : Reader → Option (List ℕ))
    (failures : Reader → ℕ) (old new : Reader) where
  -- a whole chain of these fields was read, and no more
  pub record ReadsWhole (fields : List (List ℕ)) : Type 0 where
    pub read : List ℕ
    pub from : Consumes (remaining old) (remaining new) read
    pub chain : IsChain ifs number limit fields read
    pub none_failed : failures new ≡ failures old

  -- `taken` octets were read, with which a chain begins, and then exactly one call of the reader failed
  pub record BreaksOff (taken : ℕ) : Type 0 where
    pub read : List ℕ
    pub from : Consumes (remaining old) (remaining new) read
    pub count : length read ≡ taken
    pub begun : Begins (IsChain ifs number limit) read
    pub failed : HasFailed (failures old) (failures new)
    pub failed_once : failures new ≡ next_count (failures old)

  -- where the octets read end: at the end of the input, or near the refused octet
  abbrev pub EndsAt : List ℕ → Stop ChainReason → Type 0
  EndsAt read (Short p) = IsAtEnd (remaining new)
  EndsAt read (At p r) = EndsNear number read p

  -- what was read is refused as a chain
  pub record IsNoChain (stop : Stop ChainReason) : Type 0 where
    pub read : List ℕ
    pub from : Consumes (remaining old) (remaining new) read
    pub refused : Refuses self_ended (IsChain ifs number limit) (chain.IsReason ifs number limit) read stop
    pub end : EndsAt read stop
    pub none_failed : failures new ≡ failures old

-- a chain was read whose message encodes v
pub record IsReceived {V Reader : Type 0} (S : V → List ℕ → Type 0) (limit ifs : ℕ) (number : Number)
    (remaining : Reader → Option (List ℕ)) (failures : Reader → ℕ) (old new : Reader) (v : V) : Type 0 where
  pub fields : List (List ℕ)
  pub all : ReadsWhole limit ifs number remaining failures old new fields
  pub value : Accepts whole S (message_of fields) v (length (message_of fields))

-- a chain was read whose message is refused
pub record IsNoApdu {V R Reader : Type 0} (S : V → List ℕ → Type 0) (Reason : R → List ℕ → Type 0) (limit ifs : ℕ)
    (number : Number) (remaining : Reader → Option (List ℕ)) (failures : Reader → ℕ) (old new : Reader) (stop : Stop R)
    : Type 0 where
  pub fields : List (List ℕ)
  pub all : ReadsWhole limit ifs number remaining failures old new fields
  pub refused : Refuses whole S Reason (message_of fields) stop

-- what each fault leaves; if an allocation failed, nothing was read, or a chain whose message encodes an APDU
abbrev pub IsReceiveFault : {V R Reader : Type 0} (S : V → List ℕ → Type 0) (Reason : R → List ℕ → Type 0)
    (limit ifs : ℕ) (number : Number) (remaining : Reader → Option (List ℕ)) (failures : Reader → ℕ) (old new : Reader)
    → ReceiveFault R → Type 0
IsReceiveFault {V} S Reason limit ifs number remaining failures old new Memory =
    (new ≡ old) ⊎ ((v : V) × IsReceived S limit ifs number remaining failures old new v)
IsReceiveFault S Reason limit ifs number remaining failures old new (Read taken) =
    BreaksOff limit ifs number remaining failures old new taken
IsReceiveFault S Reason limit ifs number remaining failures old new (Chain stop) =
    IsNoChain limit ifs number remaining failures old new stop
IsReceiveFault S Reason limit ifs number remaining failures old new (Apdu stop) =
    IsNoApdu S Reason limit ifs number remaining failures old new stop

-- the fault for a refusal by read_chain
abbrev pub fault_of_chain : {R : Type 0} → ReadRefusal → ReceiveFault R
fault_of_chain (refusals.Read taken) = Read taken
fault_of_chain (refusals.Stop stop) = Chain stop

-- the fault for a refusal by a decoder
abbrev pub fault_of_apdu : {R : Type 0} → Refused R → ReceiveFault R
fault_of_apdu (refusal.Stop stop) = Apdu stop
fault_of_apdu refusal.Memory = Memory

-- The possible results if the reader held a chain whose message encodes v, and more octets after it. The result is v,
-- with those octets left, unless an allocation or a call of the reader failed.
abbrev pub ArrivesUnlessFault : {V R : Type 0} → V → List ℕ → Option (List ℕ) → Result V (ReceiveFault R) → Type 0
ArrivesUnlessFault v more left (Ok w) = (w ≡ v) × (left ≡ Some more)
ArrivesUnlessFault v more left (Err Memory) = Unit {0}
ArrivesUnlessFault v more left (Err (Read taken)) = Unit {0}
ArrivesUnlessFault v more left (Err (Chain stop)) = ⊥
ArrivesUnlessFault v more left (Err (Apdu stop)) = ⊥
