use Rattle.block_core.proofs.Goes.{one-verdict}
use Rattle.block_core.specs.Block.{IsBlock, IsReason}
use Rattle.c_lent.specs.Block.{block_reason}
use Rattle.c_lent.proofs.InPieces.{any-cut, begun-holds}
use Rattle.c_lent.proofs.reader_laws.blocks_in_any_pieces.Goals as goal

pub returns : goal.returns
returns c = record {
  begun = λ ifs. begun-holds (IsBlock ifs) (IsReason ifs);
  fed = λ ifs t held piece new v le.
      any-cut (IsBlock ifs) (IsReason ifs) block_reason (λ b octets. one-verdict ifs b le octets) t held piece new v;
}
