-- When two readers of answers to reset are equal.
use Rattle.std.specs.Prelude.{Bool, ℕ, List, [], ◌∷◌, ◌==◌, Option, Some, None}
use Rattle.std.specs.Ordering.{on, eq_of_both}
use Rattle.std.specs.Cmp.{IsEquivalence}
use Rattle.std.proofs.lemmas.Cmp.{on_equiv, and_equiv, nat_list_eq_equiv}
use lib.Pointwise.{pointwise}
use Rattle.octet_core.specs.declared.stop.Refusal.{Refusal}
use Rattle.atr_core.specs.declared.reason.AtrReason.{AtrReason}
use Rattle.atr_core.specs.declared.reason.AtrReason.TheVariants.{BadTs, TooLong, BadTck}
use Rattle.atr_core.specs.Taking.{Taking}

-- a number for each reason
abbrev pub reason_number : AtrReason → ℕ
reason_number BadTs = 0
reason_number TooLong = 1
reason_number BadTck = 2

-- a list of numbers for each refusal
abbrev pub refusal_numbers : Option (Refusal AtrReason) → List ℕ
refusal_numbers None = []
refusal_numbers (Some refusal) = refusal.place ∷ reason_number refusal.reason ∷ []

-- the readers have taken the same octets, or keep the same refusal
abbrev pub same_taking : Taking → Taking → Bool
same_taking = eq_of_both (on (λ s. s.octets) (pointwise ◌==◌)) (on (λ s. refusal_numbers s.refusal) (pointwise ◌==◌))

-- ---- the law of this comparison

pub taking_equiv : IsEquivalence same_taking
taking_equiv = and_equiv (on_equiv (λ s. s.octets) nat_list_eq_equiv)
    (on_equiv (λ s. refusal_numbers s.refusal) nat_list_eq_equiv)
