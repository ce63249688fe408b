use Rattle.atr_core.proofs.Goes.{one-verdict}
use Rattle.atr_core.specs.Atr.{IsAtr, IsReason}
use Rattle.c_lent.specs.Atr.{atr_reason}
use Rattle.c_lent.proofs.InPieces.{any-cut, begun-holds}
use Rattle.c_lent.proofs.reader_laws.atrs_in_any_pieces.Goals as goal

pub returns : goal.returns
returns c = record {
  begun = begun-holds IsAtr IsReason;
  fed = any-cut IsAtr IsReason atr_reason one-verdict;
}
