-- Tidying twice is once, what is said stays, and nothing that says the same is shorter.
use Rattle.std.proofs.Common.{◌≡◌, ℕ, ◌+◌, ◌<◌, ◌≤◌, List, [], ◌∷◌, ◌++◌, length, refl, ap, ◌∙◌, arith, length-append, Some, None}
use Rattle.tlv_core.specs.Tag.{length_field, header_of}
use Rattle.tlv_core.specs.Form.{shortest, capacity, further}
use Rattle.tlv_core.specs.Tree.{Tree, End, Filler, Primitive, Constructed}
use Rattle.tlv_core.specs.Forest.{spelling, IsProper, HasSpelling}
use Rattle.tlv_core.specs.Tidy.{tidy, Said, said, TidyLaws}
use Rattle.tlv_core.specs.declared.form.Form.{Form}
use Rattle.tlv_core.proofs.Forms.{length-field, best}

twice : (t : Tree) → tidy (tidy t) ≡ tidy t
twice End = refl
twice (Filler rest) = twice rest
twice (Primitive tag form value rest) = ap (Primitive tag (shortest (length value)) value) (twice rest)
twice (Constructed tag form nodes rest) =
    ap (λ (n : Tree). Constructed tag (shortest (length (spelling n))) n (tidy (tidy rest))) (twice nodes)
    ∙ ap (Constructed tag (shortest (length (spelling (tidy nodes)))) (tidy nodes)) (twice rest)

stays : (d : ℕ) (t : Tree) → said d (tidy t) ≡ said d t
stays d End = refl
stays d (Filler rest) = stays d rest
stays d (Primitive tag form value rest) =
    ap (λ (l : List Said). record { depth = d; tag = tag; value = Some value } ∷ l) (stays d rest)
stays d (Constructed tag form nodes rest) =
    ap (λ (l : List Said). record { depth = d; tag = tag; value = None } ∷ (l ++ said d (tidy rest)))
    (stays (d + 1) nodes) ∙ ap (λ (l : List Said).
    record { depth = d; tag = tag; value = None } ∷ (said (d + 1) nodes ++ l)) (stays d rest)

-- fewer octets never need a longer form
best_of : (form : Form) (m n : ℕ) → m ≤ n → n < capacity form → (m < capacity (shortest m))
    × (further (shortest m) ≤ further form)
best_of form m n le lt = best form m (omega arith)

size : (tag : List ℕ) (form : Form) (n : ℕ) (value rest : List ℕ)
    → length (header_of tag form n ++ (value ++ rest)) ≡ length tag + (1 + further form) + length value + length rest
size tag form n value rest = omega (
  arith,
  length-append (header_of tag form n) (value ++ rest),
  length-append value rest,
  length-append tag (length_field form n),
  length-field form n,
)

-- the tidy form of a proper list is proper, and has no more octets
pub shorter : (d : ℕ) (t : Tree) → IsProper d t → IsProper d (tidy t)
    × (length (spelling (tidy t)) ≤ length (spelling t))
shorter d End h = (tt, omega arith)
shorter d (Filler rest) h = let r = shorter d rest h in (r.0, omega (arith, r.1))
shorter d (Primitive tag form value rest) h =
    let r = shorter d rest h.2 in
    let b = best form (length value) h.0.fits in (
      (record { depth = h.0.depth; is_tag = h.0.is_tag; is_bit = h.0.is_bit; fits = b.0 }, h.1, r.0),
      omega (
        arith,
        r.1,
        b.1,
        size tag (shortest (length value)) (length value) value (spelling (tidy rest)),
        size tag form (length value) value (spelling rest),
      ),
    )
shorter d (Constructed tag form nodes rest) h =
    let r = shorter d rest h.2 in
    let i = shorter (d + 1) nodes h.1 in
    let b = best_of form (length (spelling (tidy nodes))) (length (spelling nodes)) i.1 h.0.fits in (
      (record { depth = h.0.depth; is_tag = h.0.is_tag; is_bit = h.0.is_bit; fits = b.0 }, i.0, r.0),
      omega (
        arith,
        r.1,
        i.1,
        b.1,
        size tag (shortest (length (spelling (tidy nodes)))) (length (spelling (tidy nodes))) (spelling (tidy nodes))
            (spelling (tidy rest)),
        size tag form (length (spelling nodes)) (spelling nodes) (spelling rest),
      ),
    )

-- so the tidy form of a forest is one
pub tidy_spelling : (max : ℕ) (t : Tree) → HasSpelling max t → HasSpelling max (tidy t)
tidy_spelling max t h = let s = shorter 1 t h.proper in
    record { proper = s.0; is = refl; size = omega (arith, s.1, h.size) }

-- ---- what is said makes the tidy form

-- every object stands at depth d or deeper
abbrev AreFrom : ℕ → List Said → Type 0
AreFrom d [] = Unit {0}
AreFrom d (x ∷ xs) = (d ≤ x.depth) × AreFrom d xs

from-append : (d : ℕ) (xs ys : List Said) → AreFrom d xs → AreFrom d ys → AreFrom d (xs ++ ys)
from-append d [] ys h g = g
from-append d (x ∷ xs) ys h g = (h.0, from-append d xs ys h.1 g)

from-less : (d e : ℕ) (xs : List Said) → d ≤ e → AreFrom e xs → AreFrom d xs
from-less d e [] le h = tt
from-less d e (x ∷ xs) le h = (omega (arith, h.0), from-less d e xs le h.1)

said-from : (d : ℕ) (t : Tree) → AreFrom d (said d t)
said-from d End = tt
said-from d (Filler rest) = said-from d rest
said-from d (Primitive tag form value rest) = (omega arith, said-from d rest)
said-from d (Constructed tag form nodes rest) = (
  omega arith,
  from-append d (said (d + 1) nodes) (said d rest)
      (from-less d (d + 1) (said (d + 1) nodes) (omega arith) (said-from (d + 1) nodes)) (said-from d rest),
)

-- nothing, or an object at depth d first
abbrev IsAtDepth : ℕ → List Said → Type 0
IsAtDepth d [] = Unit {0}
IsAtDepth d (x ∷ xs) = x.depth ≡ d

said-first : (d : ℕ) (t : Tree) → IsAtDepth d (said d t)
said-first d End = tt
said-first d (Filler rest) = said-first d rest
said-first d (Primitive tag form value rest) = refl
said-first d (Constructed tag form nodes rest) = refl

first_same : {x y : Said} {xs ys : List Said} → x ∷ xs ≡ y ∷ ys → x ≡ y
first_same e = cc

rest_same : {x y : Said} {xs ys : List Said} → x ∷ xs ≡ y ∷ ys → xs ≡ ys
rest_same e = cc

parted : (d : ℕ) (xs ys zs ws : List Said) → AreFrom (d + 1) xs → AreFrom (d + 1) zs → IsAtDepth d ys → IsAtDepth d ws
    → xs ++ ys ≡ zs ++ ws → (xs ≡ zs) × (ys ≡ ws)
parted d [] ys [] ws hx hz hy hw e = (refl, e)
parted d [] [] (z ∷ zs) ws hx hz hy hw e = cc
parted d [] (y ∷ ys) (z ∷ zs) ws hx hz hy hw e =
    absurd (omega (arith, hz.0, hy, ap (λ (s : Said). s.depth) (first_same e)))
parted d (x ∷ xs) ys [] [] hx hz hy hw e = cc
parted d (x ∷ xs) ys [] (w ∷ ws) hx hz hy hw e =
    absurd (omega (arith, hx.0, hw, ap (λ (s : Said). s.depth) (first_same e)))
parted d (x ∷ xs) ys (z ∷ zs) ws hx hz hy hw e =
    let r = parted d xs ys zs ws hx.1 hz.1 hy hw (rest_same e) in
    (ap (λ (s : Said). s ∷ xs) (first_same e) ∙ ap (λ (l : List Said). z ∷ l) r.0, r.1)

value_same : {x y : Said} → x ≡ y → x.value ≡ y.value
value_same e = ap (λ (s : Said). s.value) e

some_same : {v w : List ℕ} → Some v ≡ Some w → v ≡ w
some_same e = cc

-- lists that say the same have one tidy form
one_tidy : (s t : Tree) (d : ℕ) → said d s ≡ said d t → tidy s ≡ tidy t
one_tidy End End d e = refl
one_tidy End (Filler t) d e = one_tidy End t d e
one_tidy End (Primitive tag form value t) d e = cc
one_tidy End (Constructed tag form nodes t) d e = cc
one_tidy (Filler s) t d e = one_tidy s t d e
one_tidy (Primitive tag form value s) End d e = cc
one_tidy (Primitive tag form value s) (Filler t) d e = one_tidy (Primitive tag form value s) t d e
one_tidy (Primitive tag form value s) (Primitive tag' form' value' t) d e =
    let tags : tag ≡ tag' = ap (λ (x : Said). x.tag) (first_same e) in
    let values : value ≡ value' = some_same (value_same (first_same e)) in
    ap (λ (g : List ℕ). Primitive g (shortest (length value)) value (tidy s)) tags
    ∙ ap (λ (v : List ℕ). Primitive tag' (shortest (length v)) v (tidy s)) values
    ∙ ap (Primitive tag' (shortest (length value')) value') (one_tidy s t d (rest_same e))
one_tidy (Primitive tag form value s) (Constructed tag' form' nodes' t) d e = let none : Some value ≡ None =
    value_same (first_same e) in cc
one_tidy (Constructed tag form nodes s) End d e = cc
one_tidy (Constructed tag form nodes s) (Filler t) d e = one_tidy (Constructed tag form nodes s) t d e
one_tidy (Constructed tag form nodes s) (Primitive tag' form' value' t) d e = let none : None ≡ Some value' =
    value_same (first_same e) in cc
one_tidy (Constructed tag form nodes s) (Constructed tag' form' nodes' t) d e =
    let tags : tag ≡ tag' = ap (λ (x : Said). x.tag) (first_same e) in
    let parts = parted d (said (d + 1) nodes) (said d s) (said (d + 1) nodes') (said d t) (said-from (d + 1) nodes)
    (said-from (d + 1) nodes') (said-first d s) (said-first d t) (rest_same e) in
    let inner : tidy nodes ≡ tidy nodes' = one_tidy nodes nodes' (d + 1) parts.0 in
    let outer : tidy s ≡ tidy t = one_tidy s t d parts.1 in
    ap (λ (g : List ℕ). Constructed g (shortest (length (spelling (tidy nodes)))) (tidy nodes) (tidy s)) tags
    ∙ ap (λ (n : Tree). Constructed tag' (shortest (length (spelling n))) n (tidy s)) inner
    ∙ ap (Constructed tag' (shortest (length (spelling (tidy nodes')))) (tidy nodes')) outer

least : (d : ℕ) (s t : Tree) → IsProper d s → IsProper d t → said d s ≡ said d t
    → length (spelling (tidy t)) ≤ length (spelling s)
least d s t hs ht e = omega (arith, (shorter d s hs).1, ap (λ (u : Tree). length (spelling u)) (one_tidy s t d e))

-- the laws of tidying hold
pub tidy_laws : TidyLaws
tidy_laws = record { twice = twice; stays = stays; proper = λ d t h. (shorter d t h).0; least = least }
