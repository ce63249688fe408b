-- One text with one status.
use Rattle.std.proofs.Common.{◌≡◌, ◌∙◌, sym, refl}
use Rattle.program_octets.specs.declared.status.Status.{Status}
use Rattle.program_octets.specs.declared.status.Status.TheVariants as status

-- there is one text, or one thing said, with one status of which P holds
pub record OneText {A : Type 0} (P : A → Status → Type 0) : Type 0 where
  pub one : (t u : A) (s q : Status) → P t s → P u q → (t ≡ u) × (s ≡ q)
  pub some : (t : A) × (s : Status) × P t s

-- this one with this status is it
pub ended-by : {A : Type 0} (text : A) (right : Status) → OneText (λ (t : A) s. (t ≡ text) × (s ≡ right))
ended-by text right = record { one = λ t u s q h g. (h.0 ∙ sym g.0, h.1 ∙ sym g.1); some = (text, right, (refl, refl)) }

-- and this one with the status of what is accepted
pub plain : {A : Type 0} (text : A) → OneText (λ (t : A) s. (t ≡ text) × (s ≡ status.Accepted))
plain text = ended-by text status.Accepted
