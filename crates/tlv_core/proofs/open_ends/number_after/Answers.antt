use Rattle.std.proofs.Common.{◌≡◌, ℕ, take, ap, ◌∙◌, arith, nat_lt}
use Rattle.std.specs.Prelude.{count_by}
use Rattle.tlv_core.proofs.Counting.{but_last}
use Rattle.tlv_core.proofs.open_ends.number_after.Goals as goal

pub returns : goal.returns
returns c =
    let all : c.loop-index.index ≡ 16 = omega (arith, c.loop-index-test.false, c.loop-index.auto.index-end) in
    c.loop-index.invariant
    ∙ ap (λ (n : ℕ). count_by (λ place. nat_lt c.args.count place) (take n c.args.places.now)) all
    ∙ but_last c.args.count 16 c.args.places.now c.told-places c.requires.spare
