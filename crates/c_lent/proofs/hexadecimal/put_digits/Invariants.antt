use Rattle.std.proofs.Common.{◌≡◌, ◌*◌, ◌++◌, take, drop}
use Rattle.hex.specs.Hex.{encode_upper}
use Rattle.c_lent.proofs.hexadecimal.put_digits.Given as goal

-- the text of the first octets was put
abbrev pub invariant-loop-place : goal.invariant-loop-place
invariant-loop-place l = take (2 * l.place) l.out ++ encode_upper (drop l.place l.octets) ≡ encode_upper l.octets
