use Rattle.std.proofs.Common.{◌≡◌, ◌*◌, ◌∙◌, ℕ, List, length, sym, ap, arith}
use Rattle.hex.specs.Hex.{encode_upper, upper_digits}
use Rattle.hex.proofs.HexLemmas.{length-encode_with}
use Rattle.c_lent.specs.Verdict.{wrong_argument}
use Rattle.c_lent.proofs.Puts.{verdict-lacks, buffer-lacks}
use Rattle.c_lent.proofs.hexadecimal.hex_encode.Goals as goal

pub returns-then-count-out-clause-verdict : goal.returns-then-count-out-clause-verdict
returns-then-count-out-clause-verdict c =
    let octets : List ℕ = c.args.octets.now in
    let twice : length (encode_upper octets) ≡ 2 * length octets = length-encode_with upper_digits octets in
    c.lacking.ensures ∙ ap wrong_argument (sym twice)
    ∙ sym (verdict-lacks (encode_upper octets) c.args.out.now (omega (arith, twice)))

pub returns-then-count-out-clause-text : goal.returns-then-count-out-clause-text
returns-then-count-out-clause-text c =
    let octets : List ℕ = c.args.octets.now in
    let twice : length (encode_upper octets) ≡ 2 * length octets = length-encode_with upper_digits octets in
    sym (buffer-lacks (encode_upper octets) c.args.out.now (omega (arith, twice)))
