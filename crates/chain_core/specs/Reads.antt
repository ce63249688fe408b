-- What a call that reads a chain from a source returns, and what it leaves.
--
-- `held` and `left` are the octets that the source held before and after, if they are known.
use Rattle.std.specs.Prelude.{◌≡◌, ◌⊎◌, ℕ, ◌+◌, ◌≤◌, List, ◌++◌, length, take, true, Option, Some, None, Result, Ok, Err}
use Rattle.std.specs.Io.KnownBytes.{Consumes, IsAtEnd}
use Rattle.octet_core.specs.Failures.{HasFailed, next_count}
use Rattle.octet_core.specs.Grammar.{self_ended, Refuses, RefusesAt}
use Rattle.octet_core.specs.declared.stop.Stop.TheVariants.{Short, At}
use Rattle.block_core.specs.declared.pcb.Number.{Number}
use Rattle.chain_core.specs.Chain.{IsChain, IsReason, message_of, open_blocks, octets_of}
use Rattle.chain_core.specs.Taking.{Taking, HasTaken, AreBefore}
use Rattle.chain_core.specs.declared.reason.ChainReason.{ChainReason}
use Rattle.chain_core.specs.declared.reading.ReadRefusal.{ReadRefusal}
use Rattle.chain_core.specs.declared.reading.ReadRefusal.TheVariants.{Read, Stop}

-- the octets read were the first that the source held, and the receiver took them after those that it took before
pub record IsTaken (held left : Option (List ℕ)) (old new : Taking) (read : List ℕ) : Type 0 where
  pub from : Consumes held left read
  pub taken : (t : List ℕ) → HasTaken old t → HasTaken new (t ++ read)

-- the octets b are whole blocks and the start of one more; place p is in that one, and b ends with its first three
-- octets or with place p
pub record EndsNear (number : Number) (b : List ℕ) (p : ℕ) : Type 0 where
  pub fields : List (List ℕ)
  pub part : List ℕ
  pub is : b ≡ octets_of (open_blocks number fields) ++ part
  pub place : length (octets_of (open_blocks number fields)) ≤ p
  pub near : (length part ≤ 3) ⊎ (length b ≡ p + 1)

-- the chain was whole: the octets taken before and those read are a chain with the message that the receiver joined, so
-- what is left follows the chain
pub record ReadsChain (held left : Option (List ℕ)) (old new : Taking) : Type 0 where
  pub read : List ℕ
  pub is : IsTaken held left old new read
  pub chain : (t : List ℕ) → HasTaken old t → (v : List (List ℕ)) × IsChain old.ifs old.number old.max v (t ++ read)
      × (new.joined ≡ message_of v)
  pub done : new.done ≡ true
  pub kept : new.refusal ≡ None

-- the source failed after `taken` octets
pub record ReadsPart (held left : Option (List ℕ)) (old new : Taking) (taken : ℕ) : Type 0 where
  pub read : List ℕ
  pub is : IsTaken held left old new read
  pub count : length read ≡ taken

-- the source ended at this place before the chain was whole
pub record ReadsShort (held left : Option (List ℕ)) (old new : Taking) (p : ℕ) : Type 0 where
  pub read : List ℕ
  pub is : IsTaken held left old new read
  pub end : IsAtEnd left
  pub short : (t : List ℕ) → HasTaken old t
      → Refuses self_ended (IsChain old.ifs old.number old.max) (IsReason old.ifs old.number old.max) (t ++ read)
      (Short p)

-- the chain was refused at this place, and no octet was read past the first three of its block, or past the place
-- itself
pub record ReadsRefused (held left : Option (List ℕ)) (old new : Taking) (p : ℕ) (r : ChainReason) : Type 0 where
  pub read : List ℕ
  pub from : Consumes held left read
  pub refused : (t : List ℕ) → HasTaken old t
      → RefusesAt self_ended (IsChain old.ifs old.number old.max) (IsReason old.ifs old.number old.max) (t ++ read)
      (At p r)
  pub near : (t : List ℕ) → HasTaken old t → EndsNear old.number (t ++ read) p
  pub kept : new.refusal ≡ Some (record { place = p; reason = r })
  pub before : (t : List ℕ) → HasTaken old t → AreBefore old.number new.blocks new.joined (take p (t ++ read))

-- what holds for each result; a refusal that the receiver kept before is repeated
abbrev pub Reads : Option (List ℕ) → Option (List ℕ) → Taking → Taking → Result Unit ReadRefusal → Type 0
Reads held left old new (Ok done) = ReadsChain held left old new
Reads held left old new (Err (Read taken)) = ReadsPart held left old new taken
Reads held left old new (Err (Stop (Short p))) = ReadsShort held left old new p
Reads held left old new (Err (Stop (At p r))) = old.refusal ≡ None → ReadsRefused held left old new p r

-- the count of failed calls rose by one if the result says that the source failed, and not otherwise
abbrev pub CountsFault : Result Unit ReadRefusal → ℕ → ℕ → Type 0
CountsFault (Ok done) before after = after ≡ before
CountsFault (Err (Read taken)) before after = HasFailed before after × (after ≡ next_count before)
CountsFault (Err (Stop stop)) before after = after ≡ before
