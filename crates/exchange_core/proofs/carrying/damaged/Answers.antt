use Rattle.std.proofs.Common.{ℕ, List, [], ◌∷◌, ◌++◌, ◌-◌, length, get_or, bit_xor, ap, ◌∙◌}
use Rattle.exchange_core.proofs.Changed.{damaged-is}
use Rattle.exchange_core.proofs.carrying.damaged.Goals as goal

pub returns : goal.returns
returns c =
    let b = c.as_slice-octets.result.now in
    c.of.ensures ∙ c.in_ok-push.ensures.items
    ∙ ap (λ (l : List ℕ). l ++ bit_xor (get_or b (length b - 1) 0) 1 ∷ []) c.in_ok-damaged.ensures.items
    ∙ damaged-is c.args.block.now b (c.as_slice-octets.ensures.value ∙ c.encode-sent.ensures.is)
