-- What a call that sends an APDU as a chain leaves. `contents` is what a writer holds, if it is known, and `failures`
-- is how many of its calls failed.
use Rattle.std.specs.Prelude.{◌≡◌, ℕ, ◌<◌, List, length, take, Option}
use Rattle.std.specs.Io.KnownBytes.{Appends}
use Rattle.octet_core.specs.Failures.{HasFailed, next_count}
use Rattle.block_core.specs.declared.pcb.Number.{Number}
use Rattle.chain_core.specs.Chain.{spelling}
use Rattle.chain_core.specs.Cut.{cut_of}
use Rattle.apdu_core.specs.declared.sending.SendFault.{SendFault}
use Rattle.apdu_core.specs.declared.sending.SendFault.TheVariants.{Memory, Write}

-- the octets of the chain for these octets
abbrev pub chain_of : ℕ → Number → List ℕ → List ℕ
chain_of ifs number octets = spelling number (cut_of ifs octets)

-- the octets that encode v were written as a chain
pub record IsSent {V W : Type 0} (S : V → List ℕ → Type 0) (v : V) (ifs : ℕ) (number : Number)
    (contents : W → Option (List ℕ)) (failures : W → ℕ) (old new : W) : Type 0 where
  pub octets : List ℕ
  pub spelled : S v octets
  pub all : Appends (contents old) (contents new) (chain_of ifs number octets)
  pub none_failed : failures new ≡ failures old

-- only the first `written` octets of that chain were written, and then exactly one call of the writer failed
pub record IsCutShort {V W : Type 0} (S : V → List ℕ → Type 0) (v : V) (ifs : ℕ) (number : Number)
    (contents : W → Option (List ℕ)) (failures : W → ℕ) (old new : W) (written : ℕ) : Type 0 where
  pub octets : List ℕ
  pub spelled : S v octets
  pub fewer : written < length (chain_of ifs number octets)
  pub first : Appends (contents old) (contents new) (take written (chain_of ifs number octets))
  pub failed : HasFailed (failures old) (failures new)
  pub failed_once : failures new ≡ next_count (failures old)

-- what each fault leaves
abbrev pub IsSendFault : {V W : Type 0} (S : V → List ℕ → Type 0) (v : V) (ifs : ℕ) (number : Number)
    (contents : W → Option (List ℕ)) (failures : W → ℕ) (old new : W) → SendFault → Type 0
IsSendFault S v ifs number contents failures old new Memory = new ≡ old
IsSendFault S v ifs number contents failures old new (Write written) =
    IsCutShort S v ifs number contents failures old new written
