-- How many more octets a forest needs at least, by what a check keeps.
use Rattle.std.proofs.Common.{◌≡◌, ℕ, ◌+◌, List, [], ◌∷◌, length, refl, sym, ap, subst, arith}
use Rattle.std.proofs.Math.Seq.{take-length}
use Rattle.octet_core.specs.Grammar.{Begins, Ending, RefusesAt}
use Rattle.octet_core.specs.declared.stop.Stop.{Stop}
use Rattle.octet_core.specs.declared.stop.Stop.TheVariants.{Short, At}
use Rattle.octet_core.proofs.Begun.{begins-take}
use Rattle.tlv_core.specs.Form.{further}
use Rattle.tlv_core.specs.Open.{rooms_to}
use Rattle.tlv_core.specs.Reasons.{need}
use Rattle.tlv_core.specs.Tag.{length_field}
use Rattle.tlv_core.specs.declared.form.Form.{Form}
use Rattle.tlv_core.specs.declared.form.Form.TheVariants.{One, Two, Three, Four, Five}
use Rattle.shortfall.specs.Forest.{rest_after}

-- how many octets a length field of a form has
pub field-octets : (form : Form) → length (length_field form 0) ≡ 1 + further form
field-octets One = refl
field-octets Two = refl
field-octets Three = refl
field-octets Four = refl
field-octets Five = refl

-- the rest of a header or a value, where no object is open
pub none-open : (count : ℕ) (ends header : List ℕ) (left n : ℕ) → length ends ≡ 0 → need header ≡ n
    → n + left ≡ rest_after (rooms_to count ends) header left
none-open count [] header left n none e = ap (λ (k : ℕ). k + left) (sym e)
none-open count (end ∷ ends) header left n none e = absurd (omega arith)

-- no value begins with octets of which one is refused
pub refused-begins : {V R : Type 0} (e : Ending) (S : V → List ℕ → Type 0) (Reason : R → List ℕ → Type 0) (b : List ℕ)
    (s : Stop R) → RefusesAt e S Reason b s → Begins S b → ⊥
refused-begins e S Reason b (Short p) h begun = absurd h
refused-begins e S Reason b (At p r) h begun =
    h.0.stuck (begins-take S (p + 1) (length b) b (omega (arith, h.0.inside))
    (subst (Begins S) (sym (take-length b)) begun))
