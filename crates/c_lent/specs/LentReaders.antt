-- Readers of a block and of an answer to reset if the caller keeps the state. A state is the octets that were taken;
-- after a refusal they end with the refused octet. Each call decodes them again.
use Rattle.std.specs.Prelude.{◌≡◌, ◌≢◌, ◌⊎◌, ℕ, ◌+◌, ◌-◌, List, ◌++◌, length, take}
use Rattle.octet_core.specs.Grammar.{self_ended, Accepts, Refuses, IsShort}
use Rattle.octet_core.specs.Sizes.{IsReserved}
use Rattle.octet_core.specs.declared.stop.Stop.{Stop}
use Rattle.octet_core.specs.declared.stop.Stop.TheVariants.{Short, At}
use Rattle.atr_core.specs.Atr.{AtrParts, IsAtr, IsReason as IsAtrReason}
use Rattle.block_core.specs.Block.{Parts, IsBlock, IsReason as IsBlockReason}
use Rattle.c_lent.specs.Atr.{atr_reason, IsDecoded as IsAtrDecoded}
use Rattle.c_lent.specs.Block.{block_reason, IsDecoded as IsBlockDecoded}
use Rattle.c_lent.specs.Verdict.{ok_at, more_at, told, wrong_argument, Tells}
use Rattle.c_lent.specs.declared.atr.CAtr.{CAtr}
use Rattle.c_lent.specs.declared.block.CBlock.{CBlock}
use Rattle.c_lent.specs.declared.lent_readers.CAtrReader.{CAtrReader}
use Rattle.c_lent.specs.declared.lent_readers.CBlockReader.{CBlockReader}
use Rattle.c_lent.specs.declared.verdict.Verdict.{Verdict}

-- the octets that a reader of a block took
abbrev pub block_held : CBlockReader → List ℕ
block_held c = take c.count c.octets

-- the octets that a reader of an answer to reset took
abbrev pub atr_held : CAtrReader → List ℕ
atr_held c = take c.count c.octets

-- S v b: the octets b spell v. Reason r b: r is why the last octet of b is refused. Each reason has its number.
module _ {V R : Type 0} (S : V → List ℕ → Type 0) (Reason : R → List ℕ → Type 0) (number : R → ℕ) where
  -- a reader that held this many of the octets b keeps the first count of them: a spelling
  pub record ReadsWhole (b : List ℕ) (held count : ℕ) (v : Verdict) : Type 0 where
    pub value : V
    pub accepts : Accepts self_ended S b value count
    pub verdict : v ≡ ok_at (count - held)

  -- it keeps the octets up to the refused one, inclusive
  pub record ReadsRefused (b : List ℕ) (held count : ℕ) (v : Verdict) : Type 0 where
    pub place : ℕ
    pub reason : R
    pub refuses : Refuses self_ended S Reason b (At place reason)
    pub counted : count ≡ place + 1
    pub verdict : v ≡ told number (At place reason)

  -- it keeps all of them, and a spelling could continue
  pub record ReadsFront (b : List ℕ) (held count : ℕ) (v : Verdict) : Type 0 where
    pub short : IsShort self_ended S b count
    pub verdict : v ≡ more_at (count - held)

  abbrev pub Reads : List ℕ → ℕ → ℕ → Verdict → Type 0
  Reads b held count v = ReadsWhole b held count v ⊎ (ReadsRefused b held count v ⊎ ReadsFront b held count v)

  -- a reader that held these octets is fed a piece
  pub record Feeds (held piece new : List ℕ) (v : Verdict) : Type 0 where
    pub count : ℕ
    pub reads : Reads (held ++ piece) (length held) count v
    pub kept : new ≡ take count (held ++ piece)

  -- the end of the octets for a reader that holds these
  abbrev pub Ends : List ℕ → Verdict → Type 0
  Ends held v = ((value : V) × (n : ℕ) × Accepts self_ended S held value n × (v ≡ ok_at 0))
      ⊎ Tells number (Refuses self_ended S Reason held) v

-- what a reader holds of the octets b with this verdict: all of them, or those up to the refused one, inclusive
abbrev pub kept_at : {R : Type 0} → List ℕ → Stop R → List ℕ
kept_at b (Short p) = b
kept_at b (At p r) = take (p + 1) b

-- the reader's answer then, if it held this many octets before
abbrev pub answer_at : {R : Type 0} → (R → ℕ) → ℕ → Stop R → Verdict
answer_at number had (Short p) = more_at (p - had)
answer_at number had (At p r) = told number (At p r)

module _ {V R : Type 0} (S : V → List ℕ → Type 0) (Reason : R → List ℕ → Type 0) where
  -- after all the octets b that a reader was ever fed, it holds these
  pub record Holds (b held : List ℕ) : Type 0 where
    pub whole : (v : V) (n : ℕ) → Accepts self_ended S b v n → held ≡ take n b
    pub stopped : (stop : Stop R) → Refuses self_ended S Reason b stop → held ≡ kept_at b stop

  -- its answer to the last piece of all the octets b that it was ever fed, if it held this many before
  pub record Answers (number : R → ℕ) (b : List ℕ) (had : ℕ) (v : Verdict) : Type 0 where
    pub whole : (value : V) (n : ℕ) → Accepts self_ended S b value n → v ≡ ok_at (n - had)
    pub stopped : (stop : Stop R) → Refuses self_ended S Reason b stop → v ≡ answer_at number had stop

-- a piece for a reader of a block, or for a state that isn't a reader
pub record BlockFed (old : CBlockReader) (piece : List ℕ) (new : CBlockReader) (v : Verdict) : Type 0 where
  pub size : new.ifs ≡ old.ifs
  pub fed : (IsReserved old.ifs → ⊥)
      → Feeds (IsBlock old.ifs) (IsBlockReason old.ifs) block_reason (block_held old) piece (block_held new) v
  pub none : IsReserved old.ifs → (v ≡ wrong_argument 0) × (new ≡ old)

-- a piece for a reader of an answer to reset
abbrev pub AtrFed : CAtrReader → List ℕ → CAtrReader → Verdict → Type 0
AtrFed old piece new v = Feeds IsAtr IsAtrReason atr_reason (atr_held old) piece (atr_held new) v

-- the end of the octets for a reader of a block, or for a state that isn't a reader
pub record BlockEnded (c : CBlockReader) (v : Verdict) : Type 0 where
  pub ended : (IsReserved c.ifs → ⊥) → Ends (IsBlock c.ifs) (IsBlockReason c.ifs) block_reason (block_held c) v
  pub none : IsReserved c.ifs → v ≡ wrong_argument 0

-- the end of the octets for a reader of an answer to reset
abbrev pub AtrEnded : CAtrReader → Verdict → Type 0
AtrEnded c v = Ends IsAtr IsAtrReason atr_reason (atr_held c) v

-- the block that a reader has, once it is complete
pub record BlockGiven (c : CBlockReader) (old new : CBlock) (v : Verdict) : Type 0 where
  pub value : v.status ≡ 0 → (v ≡ ok_at v.place) × IsBlockDecoded c.ifs (block_held c) v new
  pub none : v.status ≢ 0 → (v ≡ wrong_argument 0) × (new ≡ old)
  pub unread : v.status ≢ 0 → (IsReserved c.ifs → ⊥)
      → (block : Parts) (n : ℕ) → Accepts self_ended (IsBlock c.ifs) (block_held c) block n → ⊥

-- the answer to reset that a reader has, once it is complete
pub record AtrGiven (c : CAtrReader) (old new : CAtr) (v : Verdict) : Type 0 where
  pub value : v.status ≡ 0 → (v ≡ ok_at v.place) × IsAtrDecoded (atr_held c) v new
  pub none : v.status ≢ 0 → (v ≡ wrong_argument 0) × (new ≡ old)
  pub unread : v.status ≢ 0 → (atr : AtrParts) (n : ℕ) → Accepts self_ended IsAtr (atr_held c) atr n → ⊥
