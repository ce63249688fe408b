-- Texts to which some others were added in turn.
use Rattle.std.proofs.Common.{◌≡◌, ◌∙◌, ◌++◌, ◌<◌, ◌-◌, List, ℕ, Result, Ok, Err, ap, append_assoc, arith, codes, if◌then◌else◌, suc, zero}
use Rattle.std.specs.List.{repeat}
use Rattle.std.specs.Prelude.{OnOk, is_ok}

-- where the last call succeeds it adds its own
pub last-added : {T E : Type 0} (r : Result T E) (text more whole : List ℕ) → more ≡ whole → OnOk r (text ≡ more)
    → OnOk r (text ≡ whole)
last-added (Ok v) text more whole is h = h ∙ is
last-added (Err e) text more whole is h = tt

-- the same, and else the text stays
pub last-pushed : {T E : Type 0} (r : Result T E) (old text more whole : List ℕ) → more ≡ whole
    → text ≡ (if is_ok r then more else old) → OnOk r (text ≡ whole)
last-pushed (Ok v) old text more whole is h = h ∙ is
last-pushed (Err e) old text more whole is h = tt

-- two spaces, and those that are left
pub indent-then : (text new : List ℕ) (left : ℕ) → 0 < left → new ≡ text ++ codes "  "
    → new ++ repeat (left - 1) (codes "  ") ≡ text ++ repeat left (codes "  ")
indent-then text new zero some is = absurd (omega (arith, some))
indent-then text new (suc n) some is =
    let fewer : suc n - 1 ≡ n = omega arith in
    ap (λ (k : ℕ). new ++ repeat k (codes "  ")) fewer ∙ ap (λ (l : List ℕ). l ++ repeat n (codes "  ")) is
    ∙ append_assoc text (codes "  ") (repeat n (codes "  "))
