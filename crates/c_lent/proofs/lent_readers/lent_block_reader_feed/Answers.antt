use Rattle.std.proofs.Common.{◌≡◌, ℕ, List, ◌++◌, length, take, ap, refl, sym, subst, ◌∙◌, arith, inl, inr, rules}
use Rattle.octet_core.specs.Sizes.{IsFieldSize}
use Rattle.block_core.specs.Block.{IsBlock, IsReason}
use Rattle.c_lent.specs.Block.{block_reason}
use Rattle.c_lent.specs.LentReaders.{block_held, Reads}
use Rattle.c_lent.proofs.Reading.{block-few, feeds, held-same}
use Rattle.c_lent.proofs.lent_readers.lent_block_reader_feed.Goals as goal

pub returns : goal.returns
returns c =
    let old : List ℕ = c.args.state.now.octets in
    let ifs : ℕ = c.args.state.now.ifs in
    let piece : List ℕ = c.args.piece.now in
    let new : List ℕ = c.put_after-end.new.octets in
    let room : length old ≡ 258 = search rules in
    let sized : IsFieldSize ifs = c.if-is_reserved.ensures.no refl in
    let n : ℕ = c.held-held.result in
    let end : ℕ = c.put_after-end.result in
    let same = held-same old c.args.state.now.count n 258 room c.held-held.ensures in
    let put : take end new ≡ take 258 (block_held c.args.state.now ++ piece) =
    c.put_after-end.ensures.put ∙ ap (λ (m : ℕ). take m (take n old ++ piece)) room
    ∙ ap (λ (l : List ℕ). take 258 (l ++ piece)) same.0 in
    record {
      size = refl;
      fed = λ _. feeds (IsBlock ifs) (IsReason ifs) block_reason 258 (block-few ifs sized.1)
          (block_held c.args.state.now) piece new end c.read_block-count.result.0 c.read_block-count.result.1 put
          (subst (λ (k : ℕ). Reads (IsBlock ifs) (IsReason ifs) block_reason (take end new) k
          c.read_block-count.result.0 c.read_block-count.result.1) (sym same.1) c.read_block-count.ensures);
      none = λ reserved. absurd (elim reserved [
        | inl zero ↦ omega (arith, zero, sized.0)
        | inr most ↦ omega (arith, most, sized.1)
      ]);
    }
