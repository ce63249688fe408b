use Rattle.std.proofs.Common.{◌≡◌, ◌%◌, ℕ, List, [], ◌∷◌, refl, ap, sym, ◌∙◌}
use Rattle.notes.specs.Missing.{next_after, next_in_tail}
use Rattle.notes.proofs.atr_refusal.next_after.Goals as goal

-- where nothing more is announced, what comes next is in the tail
none-announced : (bits number historical : ℕ) (b : List ℕ) → bits ≡ 0
    → next_after bits number historical b ≡ next_in_tail historical b
none-announced bits number historical [] none = rw none refl
none-announced bits number historical (x ∷ b) none = rw none refl

pub returns : goal.returns
returns c =
    let tail = none-announced c.loop-bits.bits c.loop-bits.number (c.args.t0 % 16) c.loop-bits.rest.now
    c.loop-bits-test.false in
    let from = ap (λ h. next_in_tail h c.loop-bits.rest.now) c.from.ensures in
    c.next_in_tail.ensures ∙ from ∙ sym tail ∙ c.loop-bits.invariant.0
