-- Times in microseconds.
use Rattle.std.proofs.Common.{◌≡◌, ◌≤◌, ℕ, ◌+◌, ◌-◌, ◌*◌, ◌/◌, ◌%◌, ◌∙◌, sym, ap}
use Rattle.std.proofs.Math.Nat.{add-mul, add_assoc, mul_right_comm, mul-add-div_right}
use Rattle.std.proofs.lemmas.Nat.{div-add-mod'}
use Rattle.session_core.specs.Setup.{micros}

split : (q s r m d : ℕ) → (q * s + r) * m + d ≡ q * m * s + (r * m + d)
split q s r m d =
    ap (λ (n : ℕ). n + d) (add-mul (q * s) r m) ∙ ap (λ (n : ℕ). n + r * m + d) (mul_right_comm q s m)
    ∙ add_assoc (q * m * s) (r * m) d

pub rounded-up : (parts s : ℕ) → 1 ≤ s
    → parts / s * 1000000 + (parts % s * 1000000 + (s - 1)) / s ≡ micros parts s
rounded-up parts s least =
    sym (mul-add-div_right least (parts / s * 1000000) (parts % s * 1000000 + (s - 1)))
    ∙ ap (λ (n : ℕ). n / s) (sym (split (parts / s) s (parts % s) 1000000 (s - 1)))
    ∙ ap (λ (n : ℕ). (n * 1000000 + (s - 1)) / s) (div-add-mod' parts s)
