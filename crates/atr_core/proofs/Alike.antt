-- Readers of answers to reset that are the same.
use Rattle.std.proofs.Common.{◌≡◌, ℕ, List, [], ◌∷◌, Decides, refl, sym, ap, zero, suc, ◌∙◌, Option, Some, None, rules}
use Rattle.octet_core.specs.declared.stop.Refusal.{Refusal}
use Rattle.atr_core.specs.declared.reason.AtrReason.{AtrReason}
use Rattle.atr_core.specs.declared.reason.AtrReason.TheVariants.{BadTs, TooLong, BadTck}
use Rattle.atr_core.specs.Taking.{Taking}
use Rattle.atr_core.specs.Same.{reason_number, refusal_numbers, same_taking}
use Rattle.atr_core.proofs.Equal.{octets_decide}

abbrev reason_of : ℕ → AtrReason
reason_of zero = BadTs
reason_of (suc zero) = TooLong
reason_of (suc (suc n)) = BadTck

reason_back : (r : AtrReason) → reason_of (reason_number r) ≡ r
reason_back BadTs = refl
reason_back TooLong = refl
reason_back BadTck = refl

abbrev refusal_of : List ℕ → Option (Refusal AtrReason)
refusal_of (place ∷ number ∷ []) = Some (record { place = place; reason = reason_of number })
refusal_of xs = None

refusal_back : (r : Option (Refusal AtrReason)) → refusal_of (refusal_numbers r) ≡ r
refusal_back None = refl
refusal_back (Some r) = ap (λ (x : AtrReason). Some (record { place = r.place; reason = x })) (reason_back r.reason)

-- refusals with the same numbers are one
pub one_refusal : (r s : Option (Refusal AtrReason)) → refusal_numbers r ≡ refusal_numbers s → r ≡ s
one_refusal r s e = sym (refusal_back r) ∙ ap refusal_of e ∙ refusal_back s

-- the comparison of two readers tells whether they are the same
pub taking_decides : (s t : Taking) → Decides (same_taking s t) (s ≡ t)
taking_decides s t = search (rules, octets_decide, one_refusal)
