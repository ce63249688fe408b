use Rattle.std.proofs.Common.{◌≡◌, ◌++◌, drop, string_bytes}
use Rattle.hex.specs.Hex.{encode_upper}
use Rattle.program_octets.proofs.text.push_hex.Given as goal

-- the text so far and the octets that are left make the whole
abbrev pub invariant-loop-octet : goal.invariant-loop-octet
invariant-loop-octet l = string_bytes l.text ++ encode_upper (drop l.octet-index l.octets)
    ≡ string_bytes l.fn.text ++ encode_upper l.octets
