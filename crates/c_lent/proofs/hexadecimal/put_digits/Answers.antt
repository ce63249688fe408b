use Rattle.std.proofs.Common.{ℕ, arith, slice_index, refl, ap}
use Rattle.std.proofs.lemmas.Nat.{and_mask}
use Rattle.hex.specs.Hex.{upper_digits}
use Rattle.hex.proofs.Pairs.{encode_step, encode_done}
use Rattle.c_lent.proofs.hexadecimal.put_digits.Goals as goal

pub loop-place-preserved : goal.loop-place-preserved
loop-place-preserved c =
    let l = c.loop-place in
    let octet : ℕ = slice_index c.args.octets.now l.place in
    encode_step upper_digits c.args.octets.now l.out l.place _ _ (omega arith) (omega arith) refl
    (ap (λ (k : ℕ). slice_index upper_digits k) (and_mask octet 4)) l.invariant

pub returns : goal.returns
returns c = encode_done _ _ _ c.loop-place.place (omega arith) (omega arith) c.loop-place.invariant
