-- A list of objects has a spelling exactly where nothing is improper.
use Rattle.std.proofs.Common.{◌≢◌, ℕ, ◌+◌, ◌<◌, ◌≤◌, List, length, refl, inl, inr, arith}
use Rattle.std.proofs.lemmas.Bool.{cases_lt, cases_eq}
use Rattle.tlv_core.specs.Tag.{IsTag, constructed_bit}
use Rattle.tlv_core.specs.Form.{capacity}
use Rattle.tlv_core.specs.Tree.{Tree, End, Filler, Primitive, Constructed}
use Rattle.tlv_core.specs.Forest.{spelling, IsProper, IsObject, HasSpelling, deepest}
use Rattle.tlv_core.specs.Improper.{SomeObject, AreObjects, IsDeep, IsOtherKind, IsUnfit, IsImproper, IsFirstImproper, ImproperLaw}
use Rattle.octet_core.specs.Grammar.{IsFirst}
use Rattle.tlv_core.specs.declared.form.Form.{Form}
use Rattle.tlv_core.specs.declared.forest.Improper.{Improper}
use Rattle.tlv_core.specs.declared.forest.Improper.TheVariants as improper

none_some : (Is : ℕ → ℕ → List ℕ → Form → ℕ → Type 0)
    → ((d bit : ℕ) (tag : List ℕ) (form : Form) (n : ℕ) → IsObject d bit tag form n → Is d bit tag form n → ⊥)
    → (d : ℕ) (t : Tree) → IsProper d t → SomeObject Is d t → ⊥
none_some Is apart d End h s = s
none_some Is apart d (Filler rest) h s = none_some Is apart d rest h s
none_some Is apart d (Primitive tag form value rest) h s =
    elim s [ inl a ↦ apart d 0 tag form (length value) h.0 a | inr a ↦ none_some Is apart d rest h.2 a ]
none_some Is apart d (Constructed tag form nodes rest) h s =
    elim s [
      | inl a ↦ apart d 1 tag form (length (spelling nodes)) h.0 a
      | inr a ↦ elim a [ inl b ↦ none_some Is apart (d + 1) nodes h.1 b | inr b ↦ none_some Is apart d rest h.2 b ]
    ]

object_of : (d bit : ℕ) (tag : List ℕ) (form : Form) (n : ℕ) → IsTag tag → (deepest < d → ⊥)
    → (constructed_bit tag ≢ bit → ⊥) → (capacity form ≤ n → ⊥) → IsObject d bit tag form n
object_of d bit tag form n h deep other long =
    record {
      depth = elim (cases_lt deepest d) [ inl lt ↦ absurd (deep lt) | inr le ↦ le ];
      is_tag = h;
      is_bit = elim (cases_eq (constructed_bit tag) bit) [ inl e ↦ e | inr ne ↦ absurd (other ne) ];
      fits = elim (cases_lt n (capacity form)) [ inl lt ↦ lt | inr le ↦ absurd (long le) ];
    }

proper_of : (d : ℕ) (t : Tree) → AreObjects t → (SomeObject IsDeep d t → ⊥) → (SomeObject IsOtherKind d t → ⊥)
    → (SomeObject IsUnfit d t → ⊥) → IsProper d t
proper_of d End h a b c = tt
proper_of d (Filler rest) h a b c = proper_of d rest h a b c
proper_of d (Primitive tag form value rest) h a b c = (
  object_of d 0 tag form (length value) h.0 (λ x. a (inl x)) (λ x. b (inl x)) (λ x. c (inl x)),
  h.1,
  proper_of d rest h.2 (λ x. a (inr x)) (λ x. b (inr x)) (λ x. c (inr x)),
)
proper_of d (Constructed tag form nodes rest) h a b c = (
  object_of d 1 tag form (length (spelling nodes)) h.0 (λ x. a (inl x)) (λ x. b (inl x)) (λ x. c (inl x)),
  proper_of (d + 1) nodes h.1 (λ x. a (inr (inl x))) (λ x. b (inr (inl x))) (λ x. c (inr (inl x))),
  proper_of d rest h.2 (λ x. a (inr (inr x))) (λ x. b (inr (inr x))) (λ x. c (inr (inr x))),
)

none_of : (max : ℕ) (t : Tree) → HasSpelling max t → (r : Improper) → IsImproper max t r → ⊥
none_of max t h improper.Depth s = none_some IsDeep (λ d bit tag form n o lt. omega (arith, o.depth)) 1 t h.proper s
none_of max t h improper.Tag s = none_some IsOtherKind (λ d bit tag form n o ne. ne o.is_bit) 1 t h.proper s
none_of max t h improper.Form s = none_some IsUnfit (λ d bit tag form n o le. omega (arith, o.fits)) 1 t h.proper s
none_of max t h improper.Size s = omega (arith, h.size)

-- a list of tags and octets has a spelling exactly where nothing is improper
pub improper_law : (max : ℕ) (t : Tree) → AreObjects t → ImproperLaw max t
improper_law max t h = (
  none_of max t,
  λ none. record {
    proper = proper_of 1 t h (none improper.Depth) (none improper.Tag) (none improper.Form);
    is = refl;
    size = elim (cases_lt max (length (spelling t))) [ inl lt ↦ absurd (none improper.Size lt) | inr le ↦ le ];
  },
)

-- ---- the first that holds

-- where some object is too deep, that is the first that holds
pub first_depth : (max : ℕ) (t : Tree) → SomeObject IsDeep 1 t → IsFirstImproper max t improper.Depth
unfolding IsFirst
first_depth max t h = inl (h, refl)

-- else, where bit 6 of some tag disagrees with its kind, that is
pub first_tag : (max : ℕ) (t : Tree) → (SomeObject IsDeep 1 t → ⊥) → SomeObject IsOtherKind 1 t
    → IsFirstImproper max t improper.Tag
unfolding IsFirst
first_tag max t a h = inr (a, inl (h, refl))

-- else, where some length doesn't fit its form, that is
pub first_form : (max : ℕ) (t : Tree) → (SomeObject IsDeep 1 t → ⊥) → (SomeObject IsOtherKind 1 t → ⊥)
    → SomeObject IsUnfit 1 t → IsFirstImproper max t improper.Form
unfolding IsFirst
first_form max t a b h = inr (a, inr (b, inl (h, refl)))

-- else, where the whole is too long, that is
pub first_size : (max : ℕ) (t : Tree) → (SomeObject IsDeep 1 t → ⊥) → (SomeObject IsOtherKind 1 t → ⊥)
    → (SomeObject IsUnfit 1 t → ⊥) → max < length (spelling t) → IsFirstImproper max t improper.Size
unfolding IsFirst
first_size max t a b c h = inr (a, inr (b, inr (c, inl (h, refl))))

-- and where none of them holds, the list has a spelling
pub none_improper : (max : ℕ) (t : Tree) → AreObjects t → (SomeObject IsDeep 1 t → ⊥) → (SomeObject IsOtherKind 1 t → ⊥)
    → (SomeObject IsUnfit 1 t → ⊥) → length (spelling t) ≤ max → HasSpelling max t
none_improper max t h a b c le = record { proper = proper_of 1 t h a b c; is = refl; size = le }
