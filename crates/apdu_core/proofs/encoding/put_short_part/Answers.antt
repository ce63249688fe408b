use Rattle.std.proofs.Common.{◌≡◌, ◌%◌, ◌∷◌, [], ◌∙◌, ℕ, List, length, ap, subst, arith}
use Rattle.apdu_core.specs.Put.{IsPutAt}
use Rattle.apdu_core.proofs.Puts.{puts-on}
use Rattle.apdu_core.proofs.encoding.put_short_part.Goals as goal

pub returns : goal.returns
returns c =
    let count : length c.args.part.now % 256 ≡ length c.args.part.now = omega (arith, c.requires.count.1) in
    let lc : c.short.result ≡ length c.args.part.now ∷ [] = c.short.ensures ∙ ap (λ (n : ℕ). n ∷ []) count in
    puts-on _ _ _ _ _ _ _ _ (subst (λ (l : List ℕ).
    IsPutAt c.args.start l c.args.out.now c.put-end.new.out c.put-end.result) lc c.put-end.ensures) c.put.ensures
