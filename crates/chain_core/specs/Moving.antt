-- What single calls of a source bring to a receiver, and what all calls so far have brought.
--
-- `held` and `left` are the octets that the source held before and after, if they are known.
use Rattle.std.specs.Prelude.{◌≡◌, ℕ, ◌+◌, ◌*◌, ◌≤◌, List, ◌++◌, length, Option, Some, None}
use Rattle.std.specs.Io.KnownBytes.{Consumes, IsAtEnd}
use Rattle.octet_core.specs.declared.stop.Refusal.{Refusal}
use Rattle.chain_core.specs.Chain.{longest_message}
use Rattle.chain_core.specs.Taking.{Taking, HasTaken, IsOpen}
use Rattle.chain_core.specs.Reads.{EndsNear}
use Rattle.chain_core.specs.Receiving.{Goes}
use Rattle.chain_core.specs.declared.reason.ChainReason.{ChainReason}

-- ---- one call of the source

-- `count` octets of the unfinished block came, or none at the end of the input
pub record MovesOn (held left : Option (List ℕ)) (old new : Taking) (count : ℕ) : Type 0 where
  pub piece : List ℕ
  pub long : length piece ≡ count
  pub few : count ≤ 255
  pub from : Consumes held left piece
  pub goes : Goes old new piece
  pub end : count ≡ 0 → IsAtEnd left
  pub still : count ≡ 0 → IsOpen new
  pub near : (refusal : Refusal ChainReason) → new.refusal ≡ Some refusal → (t : List ℕ) → HasTaken old t
      → EndsNear old.number (t ++ piece) refusal.place
  -- some octets were taken before
  pub before : (t : List ℕ) × HasTaken old t
  pub limit : old.max ≤ longest_message

-- ---- the calls so far

-- `taken` octets were read; the receiver took them, or refused one, and then the source was asked for
-- no more
pub record HasRead (held left : Option (List ℕ)) (old new : Taking) (taken : ℕ) : Type 0 where
  pub read : List ℕ
  pub count : length read ≡ taken
  pub from : Consumes held left read
  pub goes : Goes old new read
  pub near : (refusal : Refusal ChainReason) → new.refusal ≡ Some refusal → IsOpen old → (t : List ℕ) → HasTaken old t
      → EndsNear old.number (t ++ read) refusal.place
  -- these are some of the octets that the receiver has taken
  pub most : new.refusal ≡ None → taken ≤ length new.joined + new.blocks * 4 + length new.under_way
