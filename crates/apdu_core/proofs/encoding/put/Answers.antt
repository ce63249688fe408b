use Rattle.std.proofs.Common.{◌≡◌, ◌+◌, ◌-◌, ◌++◌, ◌∙◌, ℕ, List, take, drop, length, ap, arith}
use Rattle.std.proofs.lemmas.List.{drop-drop}
use Rattle.apdu_core.proofs.Puts.{puts-at}
use Rattle.apdu_core.proofs.encoding.put.Goals as goal

pub returns : goal.returns
returns c =
    let old : List ℕ = c.args.out.now in
    let count : ℕ = c.args.start + length c.args.octets.now - c.args.start in
    let end : c.args.start + count ≡ c.args.start + length c.args.octets.now = omega arith in
    puts-at c.args.start c.args.octets.now old _ c.requires
    (ap (λ (l : List ℕ). take c.args.start old ++ (l ++ drop count (drop c.args.start old)))
    c.copy_from_slice.ensures.after
    ∙ ap (λ (l : List ℕ). take c.args.start old ++ (c.args.octets.now ++ l))
    (drop-drop count c.args.start old ∙ ap (λ (k : ℕ). drop k old) end))
