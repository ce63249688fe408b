-- Octets on a line with the silences between them: bursts, and what may happen to one on its way. The clauses are those
-- of ISO/IEC 7816-3:2006.
use Rattle.std.specs.Prelude.{◌≡◌, ◌≢◌, ◌<◌, ◌⊎◌, ℕ, ◌+◌, List, [], ◌∷◌, ◌++◌, length, take, min, if◌then◌else◌}
use Rattle.octet_core.specs.Octets.{AreOctets}
use Rattle.block_core.specs.Block.{Parts, IsProper, is_whole, spelling}
use Rattle.t1_core.specs.Came.{Came, got, damaged, invalid, quiet, class_of}
use Rattle.line_core.specs.declared.framing.Framer.{Framer}

-- A burst is octets that follow one another without the silence that ends it (11.4.3).

-- how many octets of a burst are passed to an end at most: one more than the longest block has (11.3)
abbrev pub handed : ℕ
handed = 259

-- a block with a wrong check octet
abbrev pub damaged_block : List ℕ
damaged_block = 0x00 ∷ 0x00 ∷ 0x00 ∷ 0x01 ∷ []

-- How long a silence must be to end the burst: before the first octet, the wait for it; inside a block, CWT (11.4.3);
-- after a whole block, a shorter one, which is BGT unless another was asked for (11.4.3) *(own)*.
abbrev pub wait_of : ℕ → ℕ → ℕ → List ℕ → ℕ
wait_of first inside after [] = first
wait_of first inside after (octet ∷ octets) = if is_whole (octet ∷ octets) then after else inside

-- the greatest number that a count holds
abbrev pub most_counted : ℕ
most_counted = 18446744073709551615

-- The framer took these octets since its burst began: it has counted them, and kept the first.
pub record HasHeard (framer : Framer) (burst : List ℕ) : Type 0 where
  pub counted : framer.count ≡ min (length burst) most_counted
  pub kept : take handed burst ≡ take (min (length burst) handed) framer.octets

-- ---- what may happen to a burst on its way

-- one octet was changed
pub record IsChanged (sent burst : List ℕ) : Type 0 where
  pub before : List ℕ
  pub after : List ℕ
  pub was : ℕ
  pub came : ℕ
  pub sent_is : sent ≡ before ++ was ∷ after
  pub burst_is : burst ≡ before ++ came ∷ after
  pub other : came ≢ was

-- any number of octets is missing at the end, possibly all of them
pub record IsCut (sent burst : List ℕ) : Type 0 where
  pub missing : List ℕ
  pub some : 0 < length missing
  pub sent_is : sent ≡ burst ++ missing

-- any number of octets follows
pub record IsExtended (sent burst : List ℕ) : Type 0 where
  pub more : List ℕ
  pub some : 0 < length more
  pub burst_is : burst ≡ sent ++ more

abbrev pub IsHarmed : List ℕ → List ℕ → Type 0
IsHarmed sent burst = IsChanged sent burst ⊎ (IsCut sent burst ⊎ IsExtended sent burst)

-- neither a block nor quiet
abbrev pub IsNoBlock : Came → Type 0
IsNoBlock (got pcb inf) = ⊥
IsNoBlock damaged = Unit {0}
IsNoBlock invalid = Unit {0}
IsNoBlock quiet = ⊥

-- Whatever block was sent and harmed in this way, no end takes the burst for a block, whatever size the end accepts.
abbrev pub AlwaysNoBlock : Type 0
AlwaysNoBlock = (block : Parts) → IsProper 254 block → (burst : List ℕ) → AreOctets burst
    → IsHarmed (spelling block) burst → (size : ℕ) → IsNoBlock (class_of size (take handed burst))
