use Rattle.std.proofs.Common.{take}
use Rattle.std.specs.List.{AllPass}
use Rattle.hex.specs.Hex.{is_hex_digit}
use Rattle.c_lent.proofs.hexadecimal.no_digit.Given as goal

-- the first ones are digits
abbrev pub invariant-loop-place : goal.invariant-loop-place
invariant-loop-place l = AllPass is_hex_digit (take l.place l.text)
