-- After an octet that meets a reason no forest goes on.
use Rattle.std.proofs.Common.{◌≡◌, ℕ, ◌+◌, ◌-◌, ◌%◌, ◌<◌, ◌≤◌, List, [], ◌∷◌, ◌++◌, length, refl, sym, ap, subst, ◌∙◌, inl, inr, ◌⊎◌, arith, zero, suc, append-nil, append_assoc, length-append}
use Rattle.std.proofs.lemmas.Bool.{cases_lt}
use Rattle.tlv_core.specs.Number.{high_first, zeros}
use Rattle.tlv_core.specs.Laws.{EndsInLong}
use Rattle.octet_core.specs.Grammar.{Begins}
use Rattle.tlv_core.specs.Tag.{IsTag, IsLong, length_field, header_of}
use Rattle.tlv_core.specs.Form.{further, capacity}
use Rattle.tlv_core.specs.Tree.{Tree, End, Filler, Primitive, Constructed}
use Rattle.tlv_core.specs.Forest.{spelling, IsProper, IsForest, deepest}
use Rattle.tlv_core.specs.Reasons.{Opens, IsBegun, need, room_of, BeginsLength, IsWrong, Meets}
use Rattle.tlv_core.specs.declared.form.Form.{Form}
use Rattle.tlv_core.specs.declared.reason.TlvReason.{TlvReason}
use Rattle.tlv_core.specs.declared.reason.TlvReason.TheVariants.{TooDeep, TagSecond, TagLong, LengthForm, Overrun, TooLong}
use Rattle.tlv_core.proofs.Forms.{form_cases, field-one}
use Rattle.tlv_core.proofs.Needs.{need-zero, need_header, long_positive}
use Rattle.tlv_core.proofs.One.{head_of, tail_of, tag_one, header_one, skip, constructed_first, header_not_zero}

-- The innermost open list, in a forest that goes on after `before` with the octet x.
pub record Bottom (d room : ℕ) (h : List ℕ) (x : ℕ) (all : List ℕ) : Type 0 where
  pub list : Tree
  pub more : List ℕ
  pub proper : IsProper d list
  pub is : spelling list ≡ h ++ x ∷ more
  pub size : 1 + length more ≤ room
  pub after : List ℕ
  pub all_is : all ≡ more ++ after

-- a list is a front of one that is longer
pub front : (a b c d : List ℕ) (x : ℕ) → a ++ x ∷ b ≡ c ++ d → length a < length c → (more : List ℕ)
    × (c ≡ a ++ x ∷ more) × (b ≡ more ++ d)
front [] b [] d x e lt = absurd (omega arith)
front [] b (y ∷ c) d x e lt = (c, ap (λ (z : ℕ). z ∷ c) (sym (head_of e)), tail_of e)
front (z ∷ a) b [] d x e lt = absurd (omega arith)
front (z ∷ a) b (y ∷ c) d x e lt =
    let r = front a b c d x (tail_of e) (omega arith) in
    (r.0, ap (λ (w : ℕ). w ∷ c) (sym (head_of e)) ∙ ap (λ (l : List ℕ). z ∷ l) r.1, r.2)

regrouped : (before a b c d : List ℕ) → before ≡ a ++ (b ++ c) → before ++ d ≡ a ++ (b ++ (c ++ d))
regrouped before a b c d e = ap (λ (l : List ℕ). l ++ d) e ∙ simp append_assoc

-- a list that goes on with the octet x after `before` has an innermost open list that does
pub descend : (rooms : List ℕ) (d left : ℕ) (t : Tree) (before h more : List ℕ) (x : ℕ) → IsProper d t
    → spelling t ≡ before ++ x ∷ more → 1 + length more ≤ left → Opens d rooms h before
    → Bottom (d + length rooms) (room_of left rooms) h x more
descend [] d left t before h more x ht e le opens =
    let after = skip opens.done t d d (h ++ x ∷ more) opens.proper ht
    (e ∙ ap (λ (l : List ℕ). l ++ x ∷ more) opens.is ∙ append_assoc (spelling opens.done) h (x ∷ more)) in
    record {
      list = after.left;
      more = more;
      proper =
          subst (λ (k : ℕ). IsProper k after.left) (omega arith) after.proper;
      is = after.is;
      size = le;
      after =
          [];
      all_is = sym (append-nil more);
    }
descend (room ∷ rooms) d left t before h more x ht e le opens =
    let value = opens.0 in
    let o = opens.1 in
    let n = length value + room in
    let header = header_of o.tag o.form n in
    let whole_is : spelling t ≡ spelling o.done ++ (header ++ (value ++ x ∷ more)) =
    e ∙ regrouped before (spelling o.done) header value (x ∷ more) o.is in
    let after = skip o.done t d d (header ++ (value ++ x ∷ more)) o.proper ht whole_is in
    let f = constructed_first after.left d o.tag o.form n (value ++ x ∷ more) o.object.is_tag o.object.is_bit
    o.object.fits after.proper after.is in
    let parts = front value more (spelling f.nodes) (spelling f.rest) x f.more_is (omega (arith, f.len, o.open_yet)) in
    let size : 1 + length parts.0 ≤ room = omega (arith, f.len, ap length parts.1, length-append value (x ∷ parts.0)) in
    let inner = descend rooms (d + 1) room f.nodes value h parts.0 x f.inner parts.1 size opens.2 in
    record {
      list = inner.list;
      more = inner.more;
      proper =
          subst (λ (k : ℕ). IsProper k inner.list) (omega arith) inner.proper;
      is = inner.is;
      size = inner.size;
      after =
          inner.after ++ spelling f.rest;
      all_is =
          parts.2 ∙ ap (λ (l : List ℕ). l ++ spelling f.rest) inner.all_is
          ∙ append_assoc inner.more inner.after (spelling f.rest);
    }

-- ---- what a list begins with

-- the octets begin with the header of an object at depth d, and its value is there
pub record FirstObject (d : ℕ) (b : List ℕ) : Type 0 where
  pub tag : List ℕ
  pub form : Form
  pub n : ℕ
  pub rest : List ℕ
  pub depth : d ≤ deepest
  pub is_tag : IsTag tag
  pub fits : n < capacity form
  pub is : b ≡ header_of tag form n ++ rest
  pub size : n ≤ length rest

-- a list that has octets begins with 00, or with an object
pub first_of : (t : Tree) (d x : ℕ) (more : List ℕ) → IsProper d t → spelling t ≡ x ∷ more → (x ≡ 0)
    ⊎ FirstObject d (x ∷ more)
first_of End d x more ht e = cc
first_of (Filler rest) d x more ht e = inl (sym (head_of e))
first_of (Primitive tag form value rest) d x more ht e =
    inr (record {
      tag = tag;
      form = form;
      n = length value;
      rest = value ++ spelling rest;
      depth = ht.0.depth;
      is_tag =
          ht.0.is_tag;
      fits = ht.0.fits;
      is = sym e;
      size = omega (arith, length-append value (spelling rest));
    })
first_of (Constructed tag form nodes rest) d x more ht e =
    inr (record {
      tag = tag;
      form = form;
      n = length (spelling nodes);
      rest = spelling nodes ++ spelling rest;
      depth =
          ht.0.depth;
      is_tag = ht.0.is_tag;
      fits = ht.0.fits;
      is = sym e;
      size =
          omega (arith, length-append (spelling nodes) (spelling rest));
    })

not_long_zero : (x : ℕ) → IsLong x → x ≡ 0 → ⊥
not_long_zero x h e = omega (arith, long_positive x h)

-- ---- each reason

-- no header has a second tag octet whose low seven bits are all 0
pub second_header : (tag : List ℕ) (form : Form) (n x y : ℕ) (rest more : List ℕ) → IsTag tag → IsLong x → y % 128 ≡ 0
    → x ∷ y ∷ more ≡ header_of tag form n ++ rest → ⊥
second_header [] form n x y rest more h long bad e = h
second_header (t ∷ []) form n x y rest more h long bad e = h.2 (ap (λ (z : ℕ). z % 32) (sym (head_of e)) ∙ long)
second_header (t ∷ u ∷ []) form n x y rest more h long bad e = let same : y ≡ u = head_of (tail_of e) in omega arith
second_header (t ∷ u ∷ v ∷ []) form n x y rest more h long bad e = let same : y ≡ u = head_of (tail_of e) in omega arith
second_header (t ∷ u ∷ v ∷ w ∷ m) form n x y rest more h long bad e = h

-- no header has a third tag octet with bit 8 set
pub third_header : (tag : List ℕ) (form : Form) (n x y z : ℕ) (rest more : List ℕ) → IsTag tag → IsLong x → 128 ≤ y
    → 128 ≤ z → x ∷ y ∷ z ∷ more ≡ header_of tag form n ++ rest → ⊥
third_header [] form n x y z rest more h long two bad e = h
third_header (t ∷ []) form n x y z rest more h long two bad e = h.2 (ap (λ (q : ℕ). q % 32) (sym (head_of e)) ∙ long)
third_header (t ∷ u ∷ []) form n x y z rest more h long two bad e = let same : y ≡ u =
    head_of (tail_of e) in omega arith
third_header (t ∷ u ∷ v ∷ []) form n x y z rest more h long two bad e = let same : z ≡ v =
    head_of (tail_of (tail_of e)) in omega arith
third_header (t ∷ u ∷ v ∷ w ∷ m) form n x y z rest more h long two bad e = h

field_begins : (form : Form) (n x : ℕ) (rest more : List ℕ) → n < capacity form → x ∷ more ≡ length_field form n ++ rest
    → BeginsLength x
field_begins form n x rest more lt e =
    elim (form_cases form) [
      | inl one ↦
          let first : x ≡ n = head_of (e ∙ ap (λ (l : List ℕ). l ++ rest) (field-one form n one)) in
          (form, n, [], lt, field-one form n one ∙ ap (λ (y : ℕ). y ∷ []) (sym first))
      | inr long ↦
          let first : x ≡ 128 + further form = head_of (e ∙ ap (λ (l : List ℕ). l ++ rest) (long.field n)) in (
            form,
            n,
            high_first (further form) n,
            lt,
            long.field n
                ∙ ap (λ (y : ℕ). y ∷ high_first (further form) n) (sym first),
          )
    ]

-- no tag begins with 00
pub tag_not_zero : (x : ℕ) (h : List ℕ) → IsTag (x ∷ h) → x ≡ 0 → ⊥
tag_not_zero x [] h e = omega arith
tag_not_zero x (y ∷ []) h e = not_long_zero x h.1 e
tag_not_zero x (y ∷ z ∷ []) h e = not_long_zero x h.1 e
tag_not_zero x (y ∷ z ∷ w ∷ m) h e = h

-- a whole header is not a front of a part of one
longer : (tag tag' : List ℕ) (form form' : Form) (n n' : ℕ) (a b : List ℕ) (x : ℕ) → IsTag tag → IsTag tag'
    → n < capacity form → n' < capacity form'
    → a ++ x ∷ b ≡ header_of tag' form' n' → length (header_of tag form n) ≤ length a → (more : List ℕ)
    → a ≡ header_of tag form n ++ more → ⊥
longer tag tag' form form' n n' a b x h h' lt lt' e le more is =
    let same = header_one tag tag' form form' n n' (more ++ x ∷ b) [] h h' lt lt'
    (sym (append_assoc (header_of tag form n) more (x ∷ b)) ∙ ap (λ (l : List ℕ). l ++ x ∷ b) (sym is) ∙ e
    ∙ sym (append-nil (header_of tag' form' n'))) in
    omega (arith, ap length same.rests, length-append more (x ∷ b))

-- a list that is shorter is a front of the other
pub front_of : (a b c d : List ℕ) → a ++ b ≡ c ++ d → length c ≤ length a → (more : List ℕ) × (a ≡ c ++ more)
front_of a b [] d e le = (a, refl)
front_of [] b (y ∷ c) d e le = absurd (omega arith)
front_of (x ∷ a) b (y ∷ c) d e le =
    let r = front_of a b c d (tail_of e) (omega arith) in
    (r.0, ap (λ (z : ℕ). z ∷ a) (head_of e) ∙ ap (λ (l : List ℕ). y ∷ l) r.1)

need_part : (h : List ℕ) (x : ℕ) (tag : List ℕ) (form : Form) (n : ℕ) (m : List ℕ) {k : ℕ} → IsTag tag
    → n < capacity form → header_of tag form n ≡ h ++ x ∷ m → length m + n ≤ k → need (h ++ x ∷ []) ≤ k
need_part [] x tag form n m h lt e le = omega (arith, need_header tag form n x [] m h lt e)
need_part (y ∷ h) x tag form n m is_tag lt e le =
    omega (
      arith,
      need_header tag form n y (h ++ x ∷ []) m is_tag lt
          (e ∙ ap (λ (l : List ℕ). y ∷ l) (sym (append_assoc h (x ∷ []) m))),
    )

need_object : (d : ℕ) (h more : List ℕ) (x : ℕ) → FirstObject d (h ++ x ∷ more) → IsBegun h
    → need (h ++ x ∷ []) ≤ length more
need_object d h more x o begun =
    let header : List ℕ = header_of o.tag o.form o.n in
    elim (cases_lt (length h) (length header)) [
      | inl lt ↦
          let parts = front h more header o.rest x o.is lt in
          need_part h x o.tag o.form o.n parts.0 o.is_tag o.fits parts.1
          (omega (arith, ap length parts.2, length-append parts.0 o.rest, o.size))
      | inr le ↦
          let part = front_of h (x ∷ more) header o.rest o.is le in
          absurd (longer o.tag begun.tag o.form begun.form o.n begun.n h begun.more begun.next o.is_tag begun.is_tag
          o.fits begun.fits begun.is le part.0 part.1)
    ]

-- what comes is at least what is needed
pub need_comes : (t : Tree) (d : ℕ) (h more : List ℕ) (x : ℕ) → IsProper d t → IsBegun h → spelling t ≡ h ++ x ∷ more
    → need (h ++ x ∷ []) ≤ length more
need_comes t d [] more x ht begun e =
    elim (first_of t d x more ht e) [
      | inl z ↦ omega (arith, ap (λ (y : ℕ). need (y ∷ [])) z, need-zero [])
      | inr o ↦ need_object d [] more x o begun
    ]
need_comes t d (y ∷ h) more x ht begun e = elim (first_of t d y (h ++ x ∷ more) ht e) [
  | inl z ↦ absurd (header_not_zero begun.tag begun.form begun.n [] (h ++ begun.next ∷ begun.more) begun.is_tag
      (append-nil (header_of begun.tag begun.form begun.n) ∙ sym begun.is
      ∙ ap (λ (q : ℕ). q ∷ (h ++ begun.next ∷ begun.more)) z))
  | inr o ↦ need_object d (y ∷ h) more x o begun
]

-- where the innermost list goes on with an octet, that octet meets no reason
pub wrong : (d level room : ℕ) (h : List ℕ) (x : ℕ) (r : TlvReason) {all : List ℕ} → d ≡ 1 + level
    → Bottom d room h x all → IsBegun h → IsWrong level room h x r → ⊥
wrong d level room h x TooDeep de b begun w =
    let is : spelling b.list ≡ x ∷ b.more = subst (λ (l : List ℕ). spelling b.list ≡ l ++ x ∷ b.more) w.0 b.is in
    elim (first_of b.list d x b.more b.proper is) [
      | inl z ↦ w.2 z
      | inr o ↦ omega (arith, o.depth, w.1)
    ]
wrong d level room [] x TagSecond de b begun w = w.0
wrong d level room (y ∷ []) x TagSecond de b begun w =
    elim (first_of b.list d y (x ∷ b.more) b.proper b.is) [
      | inl z ↦ not_long_zero y w.0 z
      | inr o ↦ second_header o.tag o.form o.n y x o.rest b.more o.is_tag w.0 w.1 o.is
    ]
wrong d level room (y ∷ z ∷ h) x TagSecond de b begun w = w.0
wrong d level room [] x TagLong de b begun w = w.0
wrong d level room (y ∷ []) x TagLong de b begun w = w.0
wrong d level room (y ∷ z ∷ []) x TagLong de b begun w =
    elim (first_of b.list d y (z ∷ x ∷ b.more) b.proper b.is) [
      | inl q ↦ not_long_zero y w.0.0 q
      | inr o ↦ third_header o.tag o.form o.n y z x o.rest b.more o.is_tag w.0.0 w.0.1 w.1 o.is
    ]
wrong d level room (y ∷ z ∷ q ∷ h) x TagLong de b begun w = w.0
wrong d level room [] x LengthForm de b begun w = w.0
wrong d level room (y ∷ h) x LengthForm de b begun w =
    elim (first_of b.list d y (h ++ x ∷ b.more) b.proper b.is) [
      | inl z ↦ tag_not_zero y h w.0 z
      | inr o ↦
          let tags = tag_one (y ∷ h) o.tag (x ∷ b.more) (length_field o.form o.n ++ o.rest) w.0 o.is_tag
          (o.is ∙ append_assoc o.tag (length_field o.form o.n) o.rest) in
          w.1 (field_begins o.form o.n x o.rest b.more o.fits tags.1)
    ]
wrong d level room h x Overrun de b begun w =
    omega (arith, need_comes b.list d h b.more x b.proper begun b.is, b.size, w.1)
wrong d level room h x TooLong de b begun w =
    omega (arith, need_comes b.list d h b.more x b.proper begun b.is, b.size, w.1)

-- no forest goes on after an octet that meets a reason
pub refused : (max : ℕ) (b : List ℕ) (r : TlvReason) → Meets max b r → Begins (IsForest max) b → ⊥
refused max b r m h =
    let e = m.0 in
    let t : Tree = h.0 in
    let is : spelling t ≡ e.before ++ e.octet ∷ h.1 =
    sym h.2.is ∙ ap (λ (l : List ℕ). l ++ h.1) e.is ∙ append_assoc e.before (e.octet ∷ []) h.1 in
    let size : 1 + length h.1 ≤ max - length e.before =
    omega (arith, h.2.size, ap length h.2.is, ap length is, length-append e.before (e.octet ∷ h.1)) in
    wrong (1 + length e.rooms) (length e.rooms) (room_of (max - length e.before) e.rooms) e.header e.octet r refl
    (descend e.rooms 1 (max - length e.before) t e.before e.header h.1 e.octet h.2.proper is size e.opens) e.begun
    m.1

zeros_head : (n y : ℕ) (l : List ℕ) → zeros n ≡ y ∷ l → y ≡ 0
zeros_head zero y l e = cc
zeros_head (suc n) y l e = sym (head_of e)

not_alone : (tag : List ℕ) (form : Form) (n x : ℕ) (rest : List ℕ) → IsTag tag → IsLong x
    → x ∷ [] ≡ header_of tag form n ++ rest → ⊥
not_alone [] form n x rest h long e = h
not_alone (t ∷ []) form n x rest h long e = h.2 (ap (λ (q : ℕ). q % 32) (sym (head_of e)) ∙ long)
not_alone (t ∷ u ∷ more) form n x rest h long e = let none : [] ≡ u ∷ ((more ++ length_field form n) ++ rest) =
    tail_of e in cc

-- after a first tag octet that others follow, zeros are not enough
long_zeros : (d room n x : ℕ) (more after : List ℕ) (t : Tree) → IsProper d t → IsLong x → spelling t ≡ x ∷ more
    → zeros n ≡ more ++ after → ⊥
long_zeros d room n x [] after t ht long e z =
    elim (first_of t d x [] ht e) [
      | inl q ↦ not_long_zero x long q
      | inr o ↦ not_alone o.tag o.form o.n x o.rest o.is_tag long o.is
    ]
long_zeros d room n x (y ∷ more) after t ht long e z =
    let zero_is : y ≡ 0 = zeros_head n y (more ++ after) z in
    elim (first_of t d x (y ∷ more) ht e) [
      | inl q ↦ not_long_zero x long q
      | inr o ↦ second_header o.tag o.form o.n x y o.rest more o.is_tag long (omega arith) o.is
    ]

-- octets that end in a first tag octet which others follow, and then zeros, are no forest
pub needs_one : (max n : ℕ) (b : List ℕ) (t : Tree) → EndsInLong b → IsForest max t (b ++ zeros n) → ⊥
needs_one max n b t e h =
    let is : spelling t ≡ e.before ++ e.octet ∷ zeros n =
    sym h.is ∙ ap (λ (l : List ℕ). l ++ zeros n) e.is ∙ append_assoc e.before (e.octet ∷ []) (zeros n) in
    let bottom = descend e.rooms 1 (1 + length (zeros n)) t e.before [] (zeros n) e.octet h.proper is (omega arith)
    e.opens in
    long_zeros (1 + length e.rooms) 0 n e.octet bottom.more bottom.after bottom.list bottom.proper e.long bottom.is
    bottom.all_is
