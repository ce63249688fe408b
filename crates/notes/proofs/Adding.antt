-- Texts with notes in a row.
use Rattle.std.proofs.Common.{◌∙◌, ◌++◌, ℕ, List, [], ◌∷◌, ap, append_assoc, refl}
use Rattle.notes.specs.Noted.{IsAdded, IsNoted}
use Rattle.notes.proofs.Cutting.{noted-by-none}

-- two texts with notes in a row are one
noted-append : (a b s t : List ℕ) → IsNoted a s → IsNoted b t → IsNoted (a ++ b) (s ++ t)
noted-append [] b s t h g = rw h g
noted-append (x ∷ a) b s t h g = (
  h.0,
  h.1 ++ t,
  h.2,
  ap (λ (l : List ℕ). l ++ t) h.3 ∙ append_assoc h.0 (x ∷ h.1) t,
  noted-append a b h.1 t h.4 g,
)

-- the same as a word of its own
pub record HasNotes (plain noted : List ℕ) : Type 0 where
  pub is : IsNoted plain noted

pub same : (a : List ℕ) → HasNotes a a
same a = record { is = noted-by-none a }

-- octets before a text, and a line end with a note before it
pub same-then : (a s t : List ℕ) → HasNotes s t → HasNotes (a ++ s) (a ++ t)
same-then a s t h = record { is = noted-append a s a t (noted-by-none a) h.is }

pub end-then : (added s t : List ℕ) → IsAdded 10 added → HasNotes s t → HasNotes (10 ∷ s) (added ++ (10 ∷ t))
end-then added s t h g = record { is = (added, t, h, refl, g.is) }

pub in-row : (a b s t : List ℕ) → HasNotes a s → HasNotes b t → HasNotes (a ++ b) (s ++ t)
in-row a b s t h g = record { is = noted-append a b s t h.is g.is }
