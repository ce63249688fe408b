-- No octets spell two forests.
use Rattle.std.proofs.Common.{inl, inr, ◌≡◌, ℕ, ◌+◌, ◌%◌, ◌^◌, ◌<◌, List, [], ◌∷◌, ◌++◌, length, refl, sym, ap, subst, ◌∙◌, arith, append-nil, append_assoc}
use Rattle.octet_core.specs.Octets.{AreOctets}
use Rattle.octet_core.proofs.Lists.{split_same, regroup}
use Rattle.tlv_core.specs.Number.{number_of, high_first}
use Rattle.tlv_core.specs.Tag.{IsTag, constructed_bit, length_field, header_of}
use Rattle.tlv_core.specs.Form.{further, capacity}
use Rattle.tlv_core.specs.Tree.{Tree, End, Filler, Primitive, Constructed}
use Rattle.tlv_core.specs.Forest.{spelling, IsProper, IsObject, IsForest}
use Rattle.tlv_core.specs.declared.form.Form.{Form}
use Rattle.tlv_core.proofs.Forms.{form_cases, further_one, field-one, capacity-one}
use Rattle.tlv_core.proofs.Numbers.{length-high_first, number-high_first}

-- ---- lists

-- two lists with the same octets, split at the same length
pub split : (a b c d : List ℕ) → length a ≡ length c → a ++ b ≡ c ++ d → (a ≡ c) × (b ≡ d)
split a b c d len e = split_same a c b d len e

-- ---- headers

-- what is known where two headers are one
pub record IsSame (tag tag' : List ℕ) (form form' : Form) (n n' : ℕ) (rest rest' : List ℕ) : Type 0 where
  pub tags : tag ≡ tag'
  pub forms : form ≡ form'
  pub lengths : n ≡ n'
  pub rests : rest ≡ rest'

-- no tag begins another
pub tag_one : (tag tag' rest rest' : List ℕ) → IsTag tag → IsTag tag' → tag ++ rest ≡ tag' ++ rest' → (tag ≡ tag')
    × (rest ≡ rest')
tag_one [] tag' rest rest' h h' e = absurd h
tag_one (x ∷ tag) [] rest rest' h h' e = absurd h'
tag_one (x ∷ []) (x' ∷ []) rest rest' h h' e = split (x ∷ []) rest (x' ∷ []) rest' refl e
tag_one (x ∷ []) (x' ∷ y' ∷ []) rest rest' h h' e = let same : x ≡ x' =
    cc in absurd (h.2 (ap (λ (z : ℕ). z % 32) same ∙ h'.1))
tag_one (x ∷ []) (x' ∷ y' ∷ z' ∷ []) rest rest' h h' e = let same : x ≡ x' =
    cc in absurd (h.2 (ap (λ (z : ℕ). z % 32) same ∙ h'.1))
tag_one (x ∷ []) (x' ∷ y' ∷ z' ∷ w' ∷ m') rest rest' h h' e = absurd h'
tag_one (x ∷ y ∷ []) (x' ∷ []) rest rest' h h' e = let same : x' ≡ x =
    cc in absurd (h'.2 (ap (λ (z : ℕ). z % 32) same ∙ h.1))
tag_one (x ∷ y ∷ []) (x' ∷ y' ∷ []) rest rest' h h' e = split (x ∷ y ∷ []) rest (x' ∷ y' ∷ []) rest' refl e
tag_one (x ∷ y ∷ []) (x' ∷ y' ∷ z' ∷ []) rest rest' h h' e = let same : y ≡ y' = cc in absurd (omega arith)
tag_one (x ∷ y ∷ []) (x' ∷ y' ∷ z' ∷ w' ∷ m') rest rest' h h' e = absurd h'
tag_one (x ∷ y ∷ z ∷ []) (x' ∷ []) rest rest' h h' e = let same : x' ≡ x =
    cc in absurd (h'.2 (ap (λ (z : ℕ). z % 32) same ∙ h.1))
tag_one (x ∷ y ∷ z ∷ []) (x' ∷ y' ∷ []) rest rest' h h' e = let same : y ≡ y' = cc in absurd (omega arith)
tag_one (x ∷ y ∷ z ∷ []) (x' ∷ y' ∷ z' ∷ []) rest rest' h h' e =
    split (x ∷ y ∷ z ∷ []) rest (x' ∷ y' ∷ z' ∷ []) rest' refl e
tag_one (x ∷ y ∷ z ∷ []) (x' ∷ y' ∷ z' ∷ w' ∷ m') rest rest' h h' e = absurd h'
tag_one (x ∷ y ∷ z ∷ w ∷ m) (x' ∷ tag') rest rest' h h' e = absurd h

field_high : (k n n' : ℕ) (rest rest' : List ℕ) → n < 256 ^ k → n' < 256 ^ k → high_first k n ++ rest ≡ high_first k n'
    ++ rest' → (n ≡ n') × (rest ≡ rest')
field_high k n n' rest rest' lt lt' e =
    let both = split (high_first k n) rest (high_first k n') rest'
    (length-high_first k n ∙ sym (length-high_first k n')) e in
    (sym (number-high_first k n lt) ∙ ap number_of both.0 ∙ number-high_first k n' lt', both.1)

-- equal lists have the same first octet
pub head_of : {x y : ℕ} {a b : List ℕ} → x ∷ a ≡ y ∷ b → x ≡ y
head_of e = cc

-- and the same rest
pub tail_of : {x y : ℕ} {a b : List ℕ} → x ∷ a ≡ y ∷ b → a ≡ b
tail_of e = cc

-- no length field begins another
pub field_one : (form form' : Form) (n n' : ℕ) (rest rest' : List ℕ) → n < capacity form → n' < capacity form'
    → length_field form n ++ rest ≡ length_field form' n' ++ rest'
    → (form ≡ form') × (n ≡ n') × (rest ≡ rest')
field_one form form' n n' rest rest' lt lt' e =
    elim (form_cases form) [
      | inl one ↦
          let short : length_field form n ≡ n ∷ [] = field-one form n one in
          elim (form_cases form') [
            | inl one' ↦
                let all : n ∷ rest ≡ n' ∷ rest' =
                ap (λ (l : List ℕ). l ++ rest) (sym short) ∙ e
                ∙ ap (λ (l : List ℕ). l ++ rest') (field-one form' n' one') in
                (one ∙ sym one', head_of all, tail_of all)
            | inr long' ↦
                let all : n ∷ rest ≡ (128 + further form') ∷ (high_first (further form') n' ++ rest') =
                ap (λ (l : List ℕ). l ++ rest) (sym short) ∙ e ∙ ap (λ (l : List ℕ). l ++ rest') (long'.field n') in
                absurd (omega (arith, head_of all, capacity-one form one))
          ]
      | inr long ↦ elim (form_cases form') [
        | inl one' ↦
            let all : (128 + further form) ∷ (high_first (further form) n ++ rest) ≡ n' ∷ rest' =
            ap (λ (l : List ℕ). l ++ rest) (sym (long.field n)) ∙ e
            ∙ ap (λ (l : List ℕ). l ++ rest') (field-one form' n' one') in
            absurd (omega (arith, head_of all, capacity-one form' one'))
        | inr long' ↦
            let all : (128 + further form) ∷ (high_first (further form) n ++ rest) ≡ (128 + further form') ∷
            (high_first (further form') n' ++ rest') =
            ap (λ (l : List ℕ). l ++ rest) (sym (long.field n)) ∙ e
            ∙ ap (λ (l : List ℕ). l ++ rest') (long'.field n') in
            let same : further form' ≡ further form = omega (arith, head_of all) in
            let both = field_high (further form) n n' rest rest' (omega (arith, long.capacity_is))
            (subst (λ (k : ℕ). n' < 256 ^ k) same (omega (arith, long'.capacity_is)))
            (tail_of all ∙ ap (λ (k : ℕ). high_first k n' ++ rest') same) in
            (further_one form form' (sym same), both.0, both.1)
      ]
    ]

-- no header begins another
pub header_one : (tag tag' : List ℕ) (form form' : Form) (n n' : ℕ) (rest rest' : List ℕ) → IsTag tag → IsTag tag'
    → n < capacity form → n' < capacity form'
    → header_of tag form n ++ rest ≡ header_of tag' form' n' ++ rest' → IsSame tag tag' form form' n n' rest rest'
header_one tag tag' form form' n n' rest rest' h h' lt lt' e =
    let tags = tag_one tag tag' (length_field form n ++ rest) (length_field form' n' ++ rest') h h'
    (sym (append_assoc tag (length_field form n) rest) ∙ e ∙ append_assoc tag' (length_field form' n') rest') in
    let fields = field_one form form' n n' rest rest' lt lt' tags.1 in
    record { tags = tags.0; forms = fields.0; lengths = fields.1; rests = fields.2 }

-- ---- lists of objects

-- one list after another
abbrev pub join : Tree → Tree → Tree
join End t = t
join (Filler rest) t = Filler (join rest t)
join (Primitive tag form value rest) t = Primitive tag form value (join rest t)
join (Constructed tag form nodes rest) t = Constructed tag form nodes (join rest t)

-- the empty list after another adds nothing
pub join-end : (t : Tree) → join t End ≡ t
join-end End = refl
join-end (Filler rest) = ap Filler (join-end rest)
join-end (Primitive tag form value rest) = ap (Primitive tag form value) (join-end rest)
join-end (Constructed tag form nodes rest) = ap (Constructed tag form nodes) (join-end rest)

-- no header is a filler or nothing
pub header_not_zero : (tag : List ℕ) (form : Form) (n : ℕ) (rest more : List ℕ) → IsTag tag → header_of tag form n
    ++ rest ≡ 0 ∷ more → ⊥
header_not_zero [] form n rest more h e = h
header_not_zero (x ∷ []) form n rest more h e = let zero_is : x ≡ 0 = head_of e in omega arith
header_not_zero (x ∷ y ∷ []) form n rest more h e = let zero_is : x ≡ 0 = head_of e in let long : 0 % 32 ≡ 31 =
    ap (λ (z : ℕ). z % 32) (sym zero_is) ∙ h.1 in omega (arith, long)
header_not_zero (x ∷ y ∷ z ∷ []) form n rest more h e = let zero_is : x ≡ 0 = head_of e in let long : 0 % 32 ≡ 31 =
    ap (λ (z : ℕ). z % 32) (sym zero_is) ∙ h.1 in omega (arith, long)
header_not_zero (x ∷ y ∷ z ∷ w ∷ m) form n rest more h e = h

-- octets that begin with a header aren't none
pub header_not_nil : (tag : List ℕ) (form : Form) (n : ℕ) (rest : List ℕ) → IsTag tag → header_of tag form n
    ++ rest ≡ [] → ⊥
header_not_nil [] form n rest h e = h
header_not_nil (x ∷ tag) form n rest h e = cc

-- a list with no octets is empty
pub nil_end : (t : Tree) (d : ℕ) → IsProper d t → spelling t ≡ [] → t ≡ End
nil_end End d h e = refl
nil_end (Filler rest) d h e = cc
nil_end (Primitive tag form value rest) d h e =
    absurd (header_not_nil tag form (length value) (value ++ spelling rest) h.0.is_tag e)
nil_end (Constructed tag form nodes rest) d h e =
    absurd (header_not_nil tag form (length (spelling nodes)) (spelling nodes ++ spelling rest) h.0.is_tag e)

-- what is left of a list after one that its octets begin with
pub record IsAfter (d : ℕ) (s t : Tree) (rest : List ℕ) : Type 0 where
  pub left : Tree
  pub proper : IsProper d left
  pub is : spelling left ≡ rest
  pub whole : t ≡ join s left

-- a list whose octets begin with the header of a primitive object
pub record FirstPrimitive (d : ℕ) (tag : List ℕ) (form : Form) (n : ℕ) (more : List ℕ) (t : Tree) : Type 0 where
  pub value : List ℕ
  pub rest : Tree
  pub object : IsObject d 0 tag form (length value)
  pub octets : AreOctets value
  pub proper : IsProper d rest
  pub is : t ≡ Primitive tag form value rest
  pub len : length value ≡ n
  pub more_is : more ≡ value ++ spelling rest

-- a list whose octets begin with the header of a constructed object
pub record FirstConstructed (d : ℕ) (tag : List ℕ) (form : Form) (n : ℕ) (more : List ℕ) (t : Tree) : Type 0 where
  pub nodes : Tree
  pub rest : Tree
  pub object : IsObject d 1 tag form (length (spelling nodes))
  pub inner : IsProper (d + 1) nodes
  pub proper : IsProper d rest
  pub is : t ≡ Constructed tag form nodes rest
  pub len : length (spelling nodes) ≡ n
  pub more_is : more ≡ spelling nodes ++ spelling rest

-- a proper list whose octets begin with the header of a primitive object has that object first
pub primitive_first : (t : Tree) (d : ℕ) (tag : List ℕ) (form : Form) (n : ℕ) (more : List ℕ) → IsTag tag
    → constructed_bit tag ≡ 0 → n < capacity form → IsProper d t
    → spelling t ≡ header_of tag form n ++ more → FirstPrimitive d tag form n more t
primitive_first End d tag form n more h bit lt ht e = absurd (header_not_nil tag form n more h (sym e))
primitive_first (Filler rest) d tag form n more h bit lt ht e =
    absurd (header_not_zero tag form n more (spelling rest) h (sym e))
primitive_first (Primitive tag' form' value rest) d tag form n more h bit lt ht e =
    let same = header_one tag' tag form' form (length value) n (value ++ spelling rest) more ht.0.is_tag h ht.0.fits lt
    e in
    record {
      value = value;
      rest = rest;
      object = subst (λ (g : List ℕ). IsObject d 0 g form (length value)) same.tags
          (subst (λ (f : Form). IsObject d 0 tag' f (length value)) same.forms ht.0);
      octets = ht.1;
      proper = ht.2;
      is = ap (λ (g : List ℕ). Primitive g form' value rest) same.tags
          ∙ ap (λ (f : Form). Primitive tag f value rest) same.forms;
      len = same.lengths;
      more_is = sym same.rests;
    }
primitive_first (Constructed tag' form' nodes rest) d tag form n more h bit lt ht e =
    let same = header_one tag' tag form' form (length (spelling nodes)) n (spelling nodes ++ spelling rest) more
    ht.0.is_tag h ht.0.fits lt e in
    let bits : constructed_bit tag' ≡ constructed_bit tag = ap constructed_bit same.tags in
    absurd (omega (arith, bits, bit, ht.0.is_bit))

-- and one whose octets begin with the header of a constructed object has that
pub constructed_first : (t : Tree) (d : ℕ) (tag : List ℕ) (form : Form) (n : ℕ) (more : List ℕ) → IsTag tag
    → constructed_bit tag ≡ 1 → n < capacity form → IsProper d t
    → spelling t ≡ header_of tag form n ++ more → FirstConstructed d tag form n more t
constructed_first End d tag form n more h bit lt ht e = absurd (header_not_nil tag form n more h (sym e))
constructed_first (Filler rest) d tag form n more h bit lt ht e =
    absurd (header_not_zero tag form n more (spelling rest) h (sym e))
constructed_first (Primitive tag' form' value rest) d tag form n more h bit lt ht e =
    let same = header_one tag' tag form' form (length value) n (value ++ spelling rest) more ht.0.is_tag h ht.0.fits lt
    e in
    let bits : constructed_bit tag' ≡ constructed_bit tag = ap constructed_bit same.tags in
    absurd (omega (arith, bits, bit, ht.0.is_bit))
constructed_first (Constructed tag' form' nodes rest) d tag form n more h bit lt ht e =
    let same = header_one tag' tag form' form (length (spelling nodes)) n (spelling nodes ++ spelling rest) more
    ht.0.is_tag h ht.0.fits lt e in
    record {
      nodes = nodes;
      rest = rest;
      object = subst (λ (g : List ℕ). IsObject d 1 g form (length (spelling nodes))) same.tags
          (subst (λ (f : Form). IsObject d 1 tag' f (length (spelling nodes))) same.forms ht.0);
      inner = ht.1;
      proper = ht.2;
      is = ap (λ (g : List ℕ). Constructed g form' nodes rest) same.tags
          ∙ ap (λ (f : Form). Constructed tag f nodes rest) same.forms;
      len = same.lengths;
      more_is = sym same.rests;
    }

-- a list whose octets begin with those of another has that one first
pub skip : (s t : Tree) (d e : ℕ) (rest : List ℕ) → IsProper e s → IsProper d t → spelling t ≡ spelling s ++ rest
    → IsAfter d s t rest
skip End t d e rest hs ht eq = record { left = t; proper = ht; is = eq; whole = refl }
skip (Filler s) End d e rest hs ht eq = cc
skip (Filler s) (Filler t) d e rest hs ht eq =
    let after = skip s t d e rest hs ht (tail_of eq) in
    record { left = after.left; proper = after.proper; is = after.is; whole = ap Filler after.whole }
skip (Filler s) (Primitive tag form value t) d e rest hs ht eq =
    absurd (header_not_zero tag form (length value) (value ++ spelling t) (spelling s ++ rest) ht.0.is_tag eq)
skip (Filler s) (Constructed tag form nodes t) d e rest hs ht eq =
    absurd (header_not_zero tag form (length (spelling nodes)) (spelling nodes ++ spelling t) (spelling s ++ rest)
    ht.0.is_tag eq)
skip (Primitive tag form value s) t d e rest hs ht eq =
    let f = primitive_first t d tag form (length value) (value ++ (spelling s ++ rest)) hs.0.is_tag hs.0.is_bit
    hs.0.fits ht (eq ∙ regroup (header_of tag form (length value)) value (spelling s) rest) in
    let parts = split value (spelling s ++ rest) f.value (spelling f.rest) (sym f.len) f.more_is in
    let after = skip s f.rest d e rest hs.2 f.proper (sym parts.1) in
    record {
      left = after.left;
      proper = after.proper;
      is = after.is;
      whole = f.is ∙ ap (λ (v : List ℕ). Primitive tag form v f.rest) (sym parts.0)
          ∙ ap (Primitive tag form value) after.whole;
    }
skip (Constructed tag form nodes s) t d e rest hs ht eq =
    let f = constructed_first t d tag form (length (spelling nodes)) (spelling nodes ++ (spelling s ++ rest))
    hs.0.is_tag hs.0.is_bit hs.0.fits ht
    (eq ∙ regroup (header_of tag form (length (spelling nodes))) (spelling nodes) (spelling s) rest) in
    let parts = split (spelling nodes) (spelling s ++ rest) (spelling f.nodes) (spelling f.rest) (sym f.len) f.more_is
    in
    let inner = skip nodes f.nodes (d + 1) (e + 1) [] hs.1 f.inner (sym parts.0 ∙ sym (append-nil (spelling nodes))) in
    let inside : f.nodes ≡ nodes = inner.whole ∙ ap (join nodes) (nil_end inner.left (d + 1) inner.proper inner.is)
    ∙ join-end nodes in
    let after = skip s f.rest d e rest hs.2 f.proper (sym parts.1) in
    record {
      left = after.left;
      proper = after.proper;
      is = after.is;
      whole = f.is ∙ ap (λ (v : Tree). Constructed tag form v f.rest) inside
          ∙ ap (Constructed tag form nodes) after.whole;
    }

-- lists at any depths that have the same octets are the same
pub one_list : (s t : Tree) (d e : ℕ) → IsProper e s → IsProper d t → spelling t ≡ spelling s → t ≡ s
one_list s t d e hs ht eq =
    let after = skip s t d e [] hs ht (eq ∙ sym (append-nil (spelling s))) in
    after.whole ∙ ap (join s) (nil_end after.left d after.proper after.is) ∙ join-end s

-- no octets spell two forests
pub one_forest : (m n : ℕ) (s t : Tree) (b : List ℕ) → IsForest m s b → IsForest n t b → s ≡ t
one_forest m n s t b hs ht = one_list t s 1 1 ht.proper hs.proper (sym hs.is ∙ ht.is)
