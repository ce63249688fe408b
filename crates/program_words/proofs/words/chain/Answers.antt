use Rattle.std.proofs.Common.{◌∙◌, [], ap, get_or, inr, length, sym, arith, Bor, List, ℕ}
use Rattle.program_words.proofs.Reading.{chain-is, chain-built}
use Rattle.program_words.proofs.words.chain.Goals as goal

pub returns : goal.returns
returns c =
    let none : Bor (List ℕ) = record { ref_ptr = (0, 0); now = [] } in
    let word : ℕ → List ℕ = λ i. (get_or c.args.words.now i none).now in
    inr (chain-built (word 0) (word 1) (word 2) c.in_ok-ifs.ifs c.in_ok-number.number c.in_ok-message.message
    c.octets.result (sym c.size.ensures ∙ c.in_ok-ifs.was) (sym c.number.ensures ∙ c.in_ok-number.was)
    c.in_ok-message.was c.octets.ensures
    (omega (arith, c.if-get-gt-LONGEST_MESSAGE.false, ap length c.get.ensures))
    ∙ sym (chain-is c.args.words.now none (omega arith)))
