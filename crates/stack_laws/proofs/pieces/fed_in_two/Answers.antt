use Rattle.std.proofs.Common.{◌≡◌, ◌++◌, ◌∙◌, ℕ, List, sym, subst, arith}
use Rattle.std.proofs.lemmas.List.{take-append-drop}
use Rattle.chain_core.specs.Longest.{longest_command}
use Rattle.block_core.specs.declared.pcb.Number.{Number}
use Rattle.chain_core.specs.Chain.{IsChain}
use Rattle.chain_core.specs.Cut.{cut_of}
use Rattle.stack_laws.proofs.Chains.{arrived}
use Rattle.stack_laws.proofs.pieces.fed_in_two.Goals as goal

pub returns : goal.returns
returns c = λ b octets few is.
    let i : ℕ = c.args.ifs in
    let k : Number = c.args.number in
    let v : List (List ℕ) = cut_of i b in
    let x : List ℕ = c.split_at.result.0.now in
    let y : List ℕ = c.split_at.result.1.now in
    let parts : x ++ y ≡ c.args.chain.now =
    (λ j. c.split_at.ensures.front j ++ c.split_at.ensures.back j)
    ∙ take-append-drop c.min.result c.args.chain.now in
    let chained : IsChain i k longest_command v (x ++ y) =
    subst (IsChain i k longest_command v) (sym (parts ∙ is))
    (c.cut_is_a_chain.ensures.chain i i longest_command k b c.requires.least (omega arith) few (omega (arith, few))
    octets) in
    let all = arrived c.one_spelled.ensures c.taken.ensures.chain i k longest_command c.in_ok-receiver.receiver
    c.feed-front.new.self c.feed-back.new.self x y v c.feed-front.result c.feed-back.result c.in_ok-receiver.ensures
    (c.taken.ensures.new i k longest_command) chained c.feed-front.ensures.fed c.feed-front.ensures.kept
    c.feed-back.ensures.fed
    c.feed-back.ensures.kept in
    (all.0, all.1, all.2 ∙ c.cut_is_a_chain.ensures.message i b)
