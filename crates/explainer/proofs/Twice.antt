-- Known values of one tag: the first two.
use Rattle.std.proofs.Common.{◌≡◌, ◌∙◌, ◌<◌, ◌≤◌, ◌+◌, ◌∷◌, [], ℕ, zero, suc, Bool, true, false, List, length, length-take, take, take-take, get_or, refl, ap, sym, arith, cond, inl, inr}
use Rattle.std.specs.Prelude.{Option, Some, None, bytes_eq, ltb, not, slice_get}
use Rattle.std.specs.List.{position_or_len}
use Rattle.std.specs.Option.{unwrap_or}
use Rattle.std.proofs.lemmas.Bool.{cases_lt}
use Rattle.std.proofs.lemmas.Bool.Decides.{nat_tests}
use Rattle.std.proofs.lemmas.List.Sums.{prefix_len-le-length}
use Rattle.tlv_core.specs.Fill.{known_for, HasDuplicate}
use Rattle.tlv_core.specs.declared.known.Known.{Known}
use Rattle.tlv_core.proofs.ByTags.{never, Once}
use Rattle.tlv_core.proofs.Knowns.{found_at, get_at}
use Rattle.explainer.specs.Known.{IsFirstTwice}

abbrev with-tag : List ℕ → Known → Bool
with-tag tag one = bytes_eq tag one.tag

-- the place of a value with a tag, or the number of all values
pub placed-or-past : (tag : List ℕ) (known : List Known)
    → unwrap_or (cond (ltb (position_or_len (with-tag tag) known) (length known))
    (Some (position_or_len (with-tag tag) known)) None) (length known) ≡ position_or_len (with-tag tag) known
placed-or-past tag known =
    let few = prefix_len-le-length (λ one. not (with-tag tag one)) known in
    elim (cases_lt (position_or_len (with-tag tag) known) (length known)) [
      | inl inside ↦ grind (arith, nat_tests)
      | inr past ↦ grind (arith, nat_tests)
    ]

first-or-later : (x : Known) (known : List Known) (t : Bool) (o : Option Known) (l : Known) (n : ℕ)
    → cond t (Some x) o ≡ Some l → (o ≡ Some l → slice_get known n ≡ Some l)
    → slice_get (x ∷ known) (cond (not t) (1 + n) 0) ≡ Some l
first-or-later x known true o l n e rest = e
first-or-later x known false o l n e rest = let more : 1 + n ≡ suc n = omega arith in rw more (rest e)

-- the first value with a tag is at that place
found-there : (tag : List ℕ) (known : List Known) (l : Known) → known_for tag known ≡ Some l
    → slice_get known (position_or_len (with-tag tag) known) ≡ Some l
found-there tag [] l e = cc
found-there tag (x ∷ known) l e =
    first-or-later x known (with-tag tag x) (known_for tag known) l (position_or_len (with-tag tag) known) e
    (found-there tag known l)

-- ---- values before a place

get-before : (known : List Known) (n j : ℕ) → j < n → slice_get (take n known) j ≡ slice_get known j
get-before known zero j less = absurd (omega arith)
get-before [] (suc n) j less = refl
get-before (x ∷ known) (suc n) zero less = refl
get-before (x ∷ known) (suc n) (suc j) less = get-before known n j (omega arith)

kept : (x : Known) (t : Bool) (o p : Option Known) (l : Known) → cond t (Some x) o ≡ Some l
    → (o ≡ Some l → p ≡ Some l) → cond t (Some x) p ≡ Some l
kept x true o p l e rest = e
kept x false o p l e rest = rest e

-- one of the first n values is one of all
known-before : (tag : List ℕ) (known : List Known) (n : ℕ) (l : Known) → known_for tag (take n known) ≡ Some l
    → known_for tag known ≡ Some l
known-before tag known zero l e = cc
known-before tag [] (suc n) l e = cc
known-before tag (x ∷ known) (suc n) l e =
    kept x (with-tag tag x) (known_for tag (take n known)) (known_for tag known) l
    e (known-before tag known n l)

nearer : (x : Known) (t : Bool) (o : Option Known) (l : Known) (place n : ℕ) → cond t (Some x) o ≡ Some l
    → (o ≡ Some l → place < n) → cond (not t) (1 + place) 0 < suc n
nearer x true o l place n e rest = omega arith
nearer x false o l place n e rest = omega (arith, rest e)

-- and the first such value is one of the first n
within : (tag : List ℕ) (known : List Known) (n : ℕ) (l : Known) → known_for tag (take n known) ≡ Some l
    → position_or_len (with-tag tag) known < n
within tag known zero l e = cc
within tag [] (suc n) l e = cc
within tag (x ∷ known) (suc n) l e = nearer x (with-tag tag x) (known_for tag (take n known)) l
    (position_or_len (with-tag tag) known) n e (within tag known n l)

-- ---- the first two values of one tag

-- the first n values have a tag each
apart-so-far : (known : List Known) (n : ℕ) → n ≤ length known → Once known n → HasDuplicate (take n known) → ⊥
apart-so-far known n few once = never (take n known) n (omega (arith, length-take n known))
    (λ j l less g. ap (known_for l.tag) (take-take j n known (omega (arith, less)))
    ∙ once j l less (sym (get-before known n j less) ∙ g))

-- the value at place n has the tag of an earlier one
pub first-two : (known : List Known) (n : ℕ) (x l : Known) (first : ℕ) → n < length known → x ≡ get_or known n x
    → known_for x.tag (take n known) ≡ Some l → Once known n
    → first ≡ position_or_len (with-tag x.tag) known → IsFirstTwice known first n
first-two known n x l first inside is some once at =
    let found : known_for x.tag known ≡ Some l = known-before x.tag known n l some in
    let same : x.tag ≡ l.tag = (found_at x.tag known l found).same in
    record {
      one = l;
      other = x;
      is_one = ap (slice_get known) at ∙ found-there x.tag known l found;
      is_other = get_at known n x inside is;
      order = rw at (within x.tag known n l some);
      inside = inside;
      same = sym same;
      apart = apart-so-far known n (omega (arith, inside)) once;
    }

-- the second of them, as the value at its place
pub that-other : (known : List Known) (first second : ℕ) (x : Known) (pair : IsFirstTwice known first second)
    → x ≡ get_or known second x → x.tag ≡ pair.other.tag
that-other known first second x pair is =
    let here : Some x ≡ Some pair.other = sym (get_at known second x pair.inside is) ∙ pair.is_other in
    let same : x ≡ pair.other = cc in
    ap (λ (k : Known). k.tag) same
