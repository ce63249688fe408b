-- Readers of octets that come in pieces, in handles, as C has them.
use Rattle.std.specs.Prelude.{◌≡◌, ◌≢◌, ◌⊎◌, ◌↔◌, ℕ, List, [], Bool, Option, None, Some, Result, IsSome}
use Rattle.octet_core.specs.Reader.{IsFed, IsFinished}
use Rattle.octet_core.specs.declared.stop.Stop.{Stop}
use Rattle.atr_core.specs.Atr.{AtrParts, IsAtr, IsReason as IsAtrReason, tck_of}
use Rattle.atr_core.specs.Taking as atr_reader
use Rattle.atr_core.specs.Taking.{Taking as AtrTaking}
use Rattle.atr_core.specs.declared.reason.AtrReason.{AtrReason}
use Rattle.block_core.specs.Block.{Parts, IsBlock, IsReason as IsBlockReason}
use Rattle.block_core.specs.Taking as block_reader
use Rattle.block_core.specs.Taking.{Taking as BlockTaking}
use Rattle.block_core.specs.declared.reason.BlockReason.{BlockReason}
use Rattle.chain_core.specs.Chain.{IsChain, IsReason as IsChainReason}
use Rattle.chain_core.specs.Taking as receiver
use Rattle.chain_core.specs.Taking.{Taking as ChainTaking}
use Rattle.chain_core.specs.declared.reason.ChainReason.{ChainReason}
use Rattle.tlv_core.specs.Check.{Checked, HasChecked}
use Rattle.c_lent.specs.Verdict.{ok_at, told_fed, told_end, wrong_argument, Puts}
use Rattle.c_lent.specs.Atr.{atr_reason, atr_of, byte_of}
use Rattle.c_lent.specs.Block.{block_reason, block_seen}
use Rattle.c_lent.specs.Chain.{chain_reason}
use Rattle.c_lent.specs.declared.verdict.Verdict.{Verdict}
use Rattle.c_lent.specs.declared.atr.CAtr.{CAtr}
use Rattle.c_lent.specs.declared.block.CBlock.{CBlock}
use Rattle.c_owned.specs.declared.engine.Engine.{Engine}
use Rattle.c_owned.specs.declared.engine.Engine.TheVariants.{Terminal, Card, InPieces}
use Rattle.c_owned.specs.declared.reader.Reader.{Reader}
use Rattle.c_owned.specs.declared.reader.Reader.TheVariants.{Atr, Block, Chain, Forest}
use Rattle.c_lent.specs.Pieces.{EndsCheck, FeedsChain, FeedsForest}

-- ---- how a piece changes a reader

pub record FeedsAtr (old new : AtrTaking) (piece : List ℕ) (v : Verdict) : Type 0 where
  pub answer : Result (ℕ × Bool) (Stop AtrReason)
  pub fed : IsFed IsAtr IsAtrReason atr_reader.HasTaken atr_reader.refusal_of old new piece answer
  pub verdict : v ≡ told_fed atr_reason answer

pub record FeedsBlock (old new : BlockTaking) (piece : List ℕ) (v : Verdict) : Type 0 where
  pub answer : Result (ℕ × Bool) (Stop BlockReason)
  pub fed : IsFed (IsBlock old.ifs) (IsBlockReason old.ifs) block_reader.HasTaken block_reader.refusal_of old new piece
      answer
  pub size : new.ifs ≡ old.ifs
  pub verdict : v ≡ told_fed block_reason answer

abbrev pub ReaderFeeds : Reader → List ℕ → Reader → Verdict → Type 0
ReaderFeeds (Atr old) piece now v = (new : AtrTaking) × (now ≡ Atr new) × FeedsAtr old new piece v
ReaderFeeds (Block old) piece now v = (new : BlockTaking) × (now ≡ Block new) × FeedsBlock old new piece v
ReaderFeeds (Chain old) piece now v = (new : ChainTaking) × (now ≡ Chain new) × FeedsChain old new piece v
ReaderFeeds (Forest old) piece now v = (new : Checked) × (now ≡ Forest new) × FeedsForest old new piece v

-- the handle holds no reader
abbrev pub IsNone : Option Engine → Option Engine → Verdict → Type 0
IsNone old now v = (now ≡ old) × (v ≡ wrong_argument 0)

abbrev pub Feeds : Option Engine → List ℕ → Option Engine → Verdict → Type 0
Feeds None piece now v = IsNone None now v
Feeds (Some (Terminal t)) piece now v = IsNone (Some (Terminal t)) now v
Feeds (Some (Card c)) piece now v = IsNone (Some (Card c)) now v
Feeds (Some (InPieces r)) piece now v = (s : Reader) × (now ≡ Some (InPieces s)) × ReaderFeeds r piece s v

-- ---- its verdict after the last octet

pub record EndsAtr (s : AtrTaking) (v : Verdict) : Type 0 where
  pub answer : Result (Unit {0}) (Stop AtrReason)
  pub finished : IsFinished IsAtr IsAtrReason atr_reader.HasTaken atr_reader.refusal_of s answer
  pub verdict : v ≡ told_end atr_reason answer

pub record EndsBlock (s : BlockTaking) (v : Verdict) : Type 0 where
  pub answer : Result (Unit {0}) (Stop BlockReason)
  pub finished : IsFinished (IsBlock s.ifs) (IsBlockReason s.ifs) block_reader.HasTaken block_reader.refusal_of s answer
  pub verdict : v ≡ told_end block_reason answer

pub record EndsChain (s : ChainTaking) (v : Verdict) : Type 0 where
  pub answer : Result (Unit {0}) (Stop ChainReason)
  pub finished : IsFinished (IsChain s.ifs s.number s.max) (IsChainReason s.ifs s.number s.max) receiver.HasTaken
      receiver.refusal_of s answer
  pub verdict : v ≡ told_end chain_reason answer

pub record EndsForest (s : Checked) (v : Verdict) : Type 0 where
  pub ends : EndsCheck s v
  pub some_taken : s.refusal ≡ None → (b : List ℕ) × HasChecked b s

abbrev pub ReaderEnds : Reader → Verdict → Type 0
ReaderEnds (Atr s) v = EndsAtr s v
ReaderEnds (Block s) v = EndsBlock s v
ReaderEnds (Chain s) v = EndsChain s v
ReaderEnds (Forest s) v = EndsForest s v

abbrev pub Ends : Option Engine → Verdict → Type 0
Ends None v = v ≡ wrong_argument 0
Ends (Some (Terminal t)) v = v ≡ wrong_argument 0
Ends (Some (Card c)) v = v ≡ wrong_argument 0
Ends (Some (InPieces r)) v = ReaderEnds r v

-- ---- what it has read

-- the answer to reset that it has, once it is complete
pub record GivesAtr (s : AtrTaking) (old new : CAtr) (v : Verdict) : Type 0 where
  pub answer : (v ≡ ok_at 0) ⊎ (v ≡ wrong_argument 0)
  pub value : v.status ≡ 0 → (t : List ℕ) → atr_reader.HasTaken s t → IsAtr (atr_of new) t
      × (byte_of new.has_tck new.tck ≡ tck_of (atr_of new))
  pub none : v.status ≢ 0 → (new ≡ old) × ((t : List ℕ) → atr_reader.HasTaken s t → (a : AtrParts) → IsAtr a t → ⊥)
  pub refused : IsSome (atr_reader.refusal_of s) → v ≡ wrong_argument 0

abbrev pub HasNone : {A : Type 0} → A → A → Verdict → Type 0
HasNone old new v = (v ≡ wrong_argument 0) × (new ≡ old)

abbrev pub AtrOf : Option Engine → CAtr → CAtr → Verdict → Type 0
AtrOf None old new v = HasNone old new v
AtrOf (Some (Terminal t)) old new v = HasNone old new v
AtrOf (Some (Card c)) old new v = HasNone old new v
AtrOf (Some (InPieces (Atr s))) old new v = GivesAtr s old new v
AtrOf (Some (InPieces (Block s))) old new v = HasNone old new v
AtrOf (Some (InPieces (Chain s))) old new v = HasNone old new v
AtrOf (Some (InPieces (Forest s))) old new v = HasNone old new v

-- the block that it has, once it is complete, with its octets
pub record WholeBlock (s : BlockTaking) (old new : CBlock) (room out : List ℕ) (v : Verdict) : Type 0 where
  pub block : Parts
  pub kept : block_reader.HasTaken s s.taken
  pub is : IsBlock s.ifs block s.taken
  pub octets : Puts (IsBlock 254 block) room out v
  pub seen : v.status ≡ 0 → new ≡ block_seen block
  pub stays : v.status ≢ 0 → new ≡ old

pub record NoBlock (s : BlockTaking) (old new : CBlock) (room out : List ℕ) (v : Verdict) : Type 0 where
  pub none : (b : Parts) → block_reader.HasTaken s s.taken → IsBlock s.ifs b s.taken → ⊥
  pub verdict : v ≡ wrong_argument 0
  pub stays : new ≡ old
  pub buffer : out ≡ room

abbrev pub HasNeither : CBlock → CBlock → List ℕ → List ℕ → Verdict → Type 0
HasNeither old new room out v = (v ≡ wrong_argument 0) × (new ≡ old) × (out ≡ room)

abbrev pub BlockOf : Option Engine → CBlock → CBlock → List ℕ → List ℕ → Verdict → Type 0
BlockOf None old new room out v = HasNeither old new room out v
BlockOf (Some (Terminal t)) old new room out v = HasNeither old new room out v
BlockOf (Some (Card c)) old new room out v = HasNeither old new room out v
BlockOf (Some (InPieces (Atr s))) old new room out v = HasNeither old new room out v
BlockOf (Some (InPieces (Block s))) old new room out v = WholeBlock s old new room out v ⊎ NoBlock s old new room out v
BlockOf (Some (InPieces (Chain s))) old new room out v = HasNeither old new room out v
BlockOf (Some (InPieces (Forest s))) old new room out v = HasNeither old new room out v

-- a check of a forest of at most this many octets, with no octets taken
abbrev pub IsNewCheck : ℕ → Option Engine → Type 0
IsNewCheck max engine = (s : Checked) × (engine ≡ Some (InPieces (Forest s))) × (s.kept.max ≡ max)
    × ((b : List ℕ) → HasChecked b s ↔ (b ≡ []))
