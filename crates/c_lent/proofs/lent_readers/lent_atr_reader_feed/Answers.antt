use Rattle.std.proofs.Common.{◌≡◌, ℕ, List, ◌++◌, length, take, ap, sym, subst, ◌∙◌, rules}
use Rattle.atr_core.specs.Atr.{IsAtr, IsReason}
use Rattle.c_lent.specs.Atr.{atr_reason}
use Rattle.c_lent.specs.LentReaders.{atr_held, Reads}
use Rattle.c_lent.proofs.Reading.{atr-few, feeds, held-same}
use Rattle.c_lent.proofs.lent_readers.lent_atr_reader_feed.Goals as goal

pub returns : goal.returns
returns c =
    let old : List ℕ = c.args.state.now.octets in
    let piece : List ℕ = c.args.piece.now in
    let new : List ℕ = c.put_after-end.new.octets in
    let room : length old ≡ 33 = search rules in
    let n : ℕ = c.held-held.result in
    let end : ℕ = c.put_after-end.result in
    let same = held-same old c.args.state.now.count n 33 room c.held-held.ensures in
    let put : take end new ≡ take 33 (atr_held c.args.state.now ++ piece) =
    c.put_after-end.ensures.put ∙ ap (λ (m : ℕ). take m (take n old ++ piece)) room
    ∙ ap (λ (l : List ℕ). take 33 (l ++ piece)) same.0 in
    feeds IsAtr IsReason atr_reason 33 atr-few (atr_held c.args.state.now) piece new end c.read_atr-count.result.0
    c.read_atr-count.result.1 put
    (subst (λ (k : ℕ). Reads IsAtr IsReason atr_reason (take end new) k c.read_atr-count.result.0
    c.read_atr-count.result.1) (sym same.1) c.read_atr-count.ensures)
