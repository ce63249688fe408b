-- Whether more follows a field, and what an end then waits in.
use Rattle.std.proofs.Common.{◌≡◌, ℕ, ◌<◌, List, [], ◌∷◌, length, drop, true, None, refl, arith}
use Rattle.std.proofs.lemmas.List.{length-drop}
use Rattle.t1_core.specs.Terminal.{is_more, ack, waiting}
use Rattle.t1_core.specs.Card.{reply, saving, waiting as card_waiting}

some_more : (l : List ℕ) → 0 < length l → is_more l ≡ true
some_more [] lt = absurd (omega arith)
some_more (x ∷ l) lt = refl

-- after the first n octets of a longer message more follows
pub more_follows : (n : ℕ) (l : List ℕ) → n < length l → is_more (drop n l) ≡ true
more_follows n l lt = some_more (drop n l) (omega (arith, length-drop n l))

-- what the card waits in, and holds saved, where more follows
pub reply-goes-on : (field rest : List ℕ) → 0 < length rest → reply field rest ≡ card_waiting field rest
reply-goes-on field [] lt = absurd (omega arith)
reply-goes-on field (x ∷ rest) lt = refl

-- and no field is saved then
pub none-saved : (field rest : List ℕ) → 0 < length rest → None ≡ saving None field rest
none-saved field [] lt = absurd (omega arith)
none-saved field (x ∷ rest) lt = refl

-- what the terminal waits in, where more follows
pub command-goes-on : (field rest : List ℕ) → 0 < length rest → ack field rest ≡ waiting field rest
command-goes-on field [] lt = absurd (omega arith)
command-goes-on field (x ∷ rest) lt = refl
