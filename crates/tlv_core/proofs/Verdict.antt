-- Every input has one verdict.
use Rattle.std.proofs.Common.{◌≡◌, ℕ, ◌+◌, ◌-◌, ◌%◌, ◌<◌, ◌≤◌, List, [], ◌∷◌, ◌++◌, length, get_or, take, refl, sym, ap, subst, ◌∙◌, inl, inr, ◌⊎◌, arith, suc, append-nil, append_assoc, length-append, length-take}
use Rattle.std.proofs.lemmas.Bool.{cases_eq}
use Rattle.std.proofs.lemmas.List.{take_all}
use Rattle.octet_core.specs.Octets.{AreOctets}
use Rattle.tlv_core.specs.Number.{zeros}
use Rattle.octet_core.specs.Grammar.{Begins, IsFirst}
use Rattle.tlv_core.specs.Tag.{IsTag, constructed_bit, header_of}
use Rattle.tlv_core.specs.Form.{capacity}
use Rattle.tlv_core.specs.Tree.{Tree, End, Filler, Primitive, Constructed}
use Rattle.tlv_core.specs.Forest.{spelling, IsProper, IsForest}
use Rattle.tlv_core.specs.Reasons.{OpensOne, Opens, IsBegun, need, room_of, AwaitsSecond, AwaitsThird, IsWrong, Meets, IsReason, tlv_reasons}
use Rattle.tlv_core.specs.Laws.{ForestVerdict}
use Rattle.tlv_core.specs.declared.form.Form.{Form}
use Rattle.tlv_core.specs.declared.reason.TlvReason.{TlvReason}
use Rattle.tlv_core.specs.declared.reason.TlvReason.TheVariants.{TooDeep, TagSecond, TagLong, LengthForm, Overrun, TooLong}
use Rattle.tlv_core.proofs.One.{split, head_of, tail_of, header_one, header_not_zero, header_not_nil, one_list, one_forest}
use Rattle.octet_core.proofs.Firsts.{first_once, first_holds, first_dec, some_first}
use Rattle.octet_core.proofs.Told.{less, at-most, Dec, and2, and3, and4, and5, not_dec}
use Rattle.octet_core.proofs.Lists.{regroup}
use Rattle.octet_core.proofs.Verdicts.{Scan, whole_verdict}
use Rattle.tlv_core.proofs.Refused.{refused}
use Rattle.tlv_core.proofs.Stands.{Stands, Under, Nothing, First, Second, Tagged, Sized, Valued, IsUnder, IsHeader, under_octets, repair}
use Rattle.tlv_core.proofs.Completion.{begins_cases, stands_more, ends_in_header, under_begun, completed}

-- ---- one decomposition

-- the header of an object, and less than its value
pub record IsOpenTail (a : List ℕ) : Type 0 where
  pub tag : List ℕ
  pub form : Form
  pub n : ℕ
  pub value : List ℕ
  pub is_tag : IsTag tag
  pub fits : n < capacity form
  pub less : length value < n
  pub is : a ≡ header_of tag form n ++ value

-- less than an object
abbrev pub IsPartial : List ℕ → Type 0
IsPartial a = IsBegun a ⊎ IsOpenTail a

-- less than an object doesn't begin with 00
pub partial_not_zero : (a l : List ℕ) → IsPartial a → a ≡ 0 ∷ l → ⊥
partial_not_zero a l p e =
    elim p [
      | inl h ↦ header_not_zero h.tag h.form h.n [] (l ++ h.next ∷ h.more) h.is_tag
          (append-nil (header_of h.tag h.form h.n) ∙ sym h.is ∙ ap (λ (k : List ℕ). k ++ h.next ∷ h.more) e)
      | inr o ↦ header_not_zero o.tag o.form o.n o.value l o.is_tag (sym o.is ∙ e)
    ]

-- a part of a header doesn't begin with a whole one
pub begun_not_object : (a : List ℕ) (h : IsBegun a) (tag : List ℕ) (form : Form) (n : ℕ) (rest : List ℕ) → IsTag tag
    → n < capacity form → a ≡ header_of tag form n ++ rest → ⊥
begun_not_object a h tag form n rest is_tag fits e =
    let same = header_one tag h.tag form h.form n h.n (rest ++ h.next ∷ h.more) [] is_tag h.is_tag fits h.fits
    (sym (append_assoc (header_of tag form n) rest (h.next ∷ h.more))
    ∙ ap (λ (k : List ℕ). k ++ h.next ∷ h.more) (sym e) ∙ h.is ∙ sym (append-nil (header_of h.tag h.form h.n))) in
    omega (arith, ap length same.rests, length-append rest (h.next ∷ h.more))

partial_not_object : (a : List ℕ) (tag : List ℕ) (form : Form) (n : ℕ) (rest : List ℕ) → IsTag tag → n < capacity form
    → n ≤ length rest → IsPartial a → a ≡ header_of tag form n ++ rest → ⊥
partial_not_object a tag form n rest is_tag fits le p e =
    elim p [
      | inl h ↦ begun_not_object a h tag form n rest is_tag fits e
      | inr o ↦
          let same = header_one o.tag tag o.form form o.n n o.value rest o.is_tag is_tag o.fits fits (sym o.is ∙ e) in
          omega (arith, same.lengths, ap length same.rests, o.less)
    ]

-- octets are a list, and then less than an object, in one way only
pub same_done : (s t : Tree) (d e : ℕ) (a b : List ℕ) → IsProper d s → IsProper e t → IsPartial a → IsPartial b
    → spelling s ++ a ≡ spelling t ++ b → (s ≡ t) × (a ≡ b)
same_done End End d e a b hs ht pa pb q = (refl, q)
same_done End (Filler t) d e a b hs ht pa pb q = absurd (partial_not_zero a (spelling t ++ b) pa q)
same_done End (Primitive tag form value t) d e a b hs ht pa pb q =
    absurd (partial_not_object a tag form (length value) (value ++ (spelling t ++ b)) ht.0.is_tag ht.0.fits
    (omega (arith, length-append value (spelling t ++ b))) pa
    (q ∙ regroup (header_of tag form (length value)) value (spelling t) b))
same_done End (Constructed tag form nodes t) d e a b hs ht pa pb q =
    absurd
    (partial_not_object a tag form (length (spelling nodes)) (spelling nodes ++ (spelling t ++ b)) ht.0.is_tag ht.0.fits
    (omega (arith, length-append (spelling nodes) (spelling t ++ b))) pa
    (q ∙ regroup (header_of tag form (length (spelling nodes))) (spelling nodes) (spelling t) b))
same_done (Filler s) End d e a b hs ht pa pb q = absurd (partial_not_zero b (spelling s ++ a) pb (sym q))
same_done (Filler s) (Filler t) d e a b hs ht pa pb q = let r =
    same_done s t d e a b hs ht pa pb (tail_of q) in (ap Filler r.0, r.1)
same_done (Filler s) (Primitive tag form value t) d e a b hs ht pa pb q =
    absurd (header_not_zero tag form (length value) (value ++ (spelling t ++ b)) (spelling s ++ a) ht.0.is_tag
    (sym (regroup (header_of tag form (length value)) value (spelling t) b) ∙ sym q))
same_done (Filler s) (Constructed tag form nodes t) d e a b hs ht pa pb q =
    absurd (header_not_zero tag form (length (spelling nodes)) (spelling nodes ++ (spelling t ++ b)) (spelling s ++ a)
    ht.0.is_tag (sym (regroup (header_of tag form (length (spelling nodes))) (spelling nodes) (spelling t) b)
    ∙ sym q))
same_done (Primitive tag form value s) End d e a b hs ht pa pb q =
    absurd (partial_not_object b tag form (length value) (value ++ (spelling s ++ a)) hs.0.is_tag hs.0.fits
    (omega (arith, length-append value (spelling s ++ a))) pb
    (sym q ∙ regroup (header_of tag form (length value)) value (spelling s) a))
same_done (Primitive tag form value s) (Filler t) d e a b hs ht pa pb q =
    absurd (header_not_zero tag form (length value) (value ++ (spelling s ++ a)) (spelling t ++ b) hs.0.is_tag
    (sym (regroup (header_of tag form (length value)) value (spelling s) a) ∙ q))
same_done (Primitive tag form value s) (Primitive tag' form' value' t) d e a b hs ht pa pb q =
    let same = header_one tag tag' form form' (length value) (length value') (value ++ (spelling s ++ a))
    (value' ++ (spelling t ++ b)) hs.0.is_tag ht.0.is_tag hs.0.fits ht.0.fits
    (sym (regroup (header_of tag form (length value)) value (spelling s) a) ∙ q
    ∙ regroup (header_of tag' form' (length value')) value' (spelling t) b) in
    let parts = split value (spelling s ++ a) value' (spelling t ++ b) same.lengths same.rests in
    let r = same_done s t d e a b hs.2 ht.2 pa pb parts.1 in
    let rest : s ≡ t = r.0 in
    let values : value ≡ value' = parts.0 in
    let tags : tag ≡ tag' = same.tags in
    let forms : form ≡ form' = same.forms in (
      ap (λ (g : List ℕ). Primitive g form value s) tags ∙ ap (λ (f : Form). Primitive tag' f value s) forms
          ∙ ap (λ (v : List ℕ). Primitive tag' form' v s) values ∙ ap (Primitive tag' form' value') rest,
      r.1,
    )
same_done (Primitive tag form value s) (Constructed tag' form' nodes t) d e a b hs ht pa pb q =
    let n = length (spelling nodes) in
    let same = header_one tag tag' form form' (length value) n (value ++ (spelling s ++ a))
    (spelling nodes ++ (spelling t ++ b)) hs.0.is_tag ht.0.is_tag hs.0.fits ht.0.fits
    (sym (regroup (header_of tag form (length value)) value (spelling s) a) ∙ q
    ∙ regroup (header_of tag' form' n) (spelling nodes) (spelling t) b) in
    absurd (omega (arith, ap constructed_bit same.tags, hs.0.is_bit, ht.0.is_bit))
same_done (Constructed tag form nodes s) End d e a b hs ht pa pb q =
    absurd
    (partial_not_object b tag form (length (spelling nodes)) (spelling nodes ++ (spelling s ++ a)) hs.0.is_tag hs.0.fits
    (omega (arith, length-append (spelling nodes) (spelling s ++ a))) pb
    (sym q ∙ regroup (header_of tag form (length (spelling nodes))) (spelling nodes) (spelling s) a))
same_done (Constructed tag form nodes s) (Filler t) d e a b hs ht pa pb q =
    absurd (header_not_zero tag form (length (spelling nodes)) (spelling nodes ++ (spelling s ++ a)) (spelling t ++ b)
    hs.0.is_tag (sym (regroup (header_of tag form (length (spelling nodes))) (spelling nodes) (spelling s) a) ∙ q))
same_done (Constructed tag form nodes s) (Primitive tag' form' value t) d e a b hs ht pa pb q =
    let n = length (spelling nodes) in
    let same = header_one tag tag' form form' n (length value) (spelling nodes ++ (spelling s ++ a))
    (value ++ (spelling t ++ b)) hs.0.is_tag ht.0.is_tag hs.0.fits ht.0.fits
    (sym (regroup (header_of tag form n) (spelling nodes) (spelling s) a) ∙ q
    ∙ regroup (header_of tag' form' (length value)) value (spelling t) b) in
    absurd (omega (arith, ap constructed_bit same.tags, hs.0.is_bit, ht.0.is_bit))
same_done (Constructed tag form nodes s) (Constructed tag' form' nodes' t) d e a b hs ht pa pb q =
    let n = length (spelling nodes) in
    let n' = length (spelling nodes') in
    let same = header_one tag tag' form form' n n' (spelling nodes ++ (spelling s ++ a))
    (spelling nodes' ++ (spelling t ++ b)) hs.0.is_tag ht.0.is_tag hs.0.fits ht.0.fits
    (sym (regroup (header_of tag form n) (spelling nodes) (spelling s) a) ∙ q
    ∙ regroup (header_of tag' form' n') (spelling nodes') (spelling t) b) in
    let parts = split (spelling nodes) (spelling s ++ a) (spelling nodes') (spelling t ++ b) same.lengths same.rests in
    let r = same_done s t d e a b hs.2 ht.2 pa pb parts.1 in
    let rest : s ≡ t = r.0 in
    let inner : nodes ≡ nodes' = one_list nodes' nodes (d + 1) (e + 1) ht.1 hs.1 parts.0 in
    let tags : tag ≡ tag' = same.tags in
    let forms : form ≡ form' = same.forms in (
      ap (λ (g : List ℕ). Constructed g form nodes s) tags ∙ ap (λ (f : Form). Constructed tag' f nodes s) forms
          ∙ ap (λ (v : Tree). Constructed tag' form' v s) inner ∙ ap (Constructed tag' form' nodes') rest,
      r.1,
    )

-- the header of an open object and its value so far are less than an object
pub open_tail : (d room : ℕ) (value b : List ℕ) (o : OpensOne d room value b)
    → IsOpenTail (header_of o.tag o.form (length value + room) ++ value)
open_tail d room value b o = record {
  tag = o.tag;
  form = o.form;
  n = length value + room;
  value = value;
  is_tag =
      o.object.is_tag;
  fits = o.object.fits;
  less = omega (arith, o.open_yet);
  is = refl;
}

-- octets leave rooms open, and a part of a header, in one way only
pub one_opening : (rooms rooms' : List ℕ) (d : ℕ) (h h' b : List ℕ) → Opens d rooms h b → Opens d rooms' h' b
    → IsBegun h → IsBegun h' → (rooms ≡ rooms') × (h ≡ h')
one_opening [] [] d h h' b o o' g g' = (
  refl,
  (same_done o.done o'.done d d h h' o.proper o'.proper (inl g) (inl g') (sym o.is ∙ o'.is)).1,
)
one_opening [] (room ∷ rooms) d h h' b o o' g g' =
    let p = o'.1 in
    let tail = open_tail d room o'.0 b p in
    let same = same_done o.done p.done d d h (header_of p.tag p.form (length o'.0 + room) ++ o'.0) o.proper p.proper
    (inl g) (inr tail) (sym o.is ∙ p.is) in
    absurd (begun_not_object h g p.tag p.form (length o'.0 + room) o'.0 p.object.is_tag p.object.fits same.1)
one_opening (room ∷ rooms) [] d h h' b o o' g g' =
    let p = o.1 in
    let tail = open_tail d room o.0 b p in
    let same = same_done o'.done p.done d d h' (header_of p.tag p.form (length o.0 + room) ++ o.0) o'.proper p.proper
    (inl g') (inr tail) (sym o'.is ∙ p.is) in
    absurd (begun_not_object h' g' p.tag p.form (length o.0 + room) o.0 p.object.is_tag p.object.fits same.1)
one_opening (room ∷ rooms) (room' ∷ rooms') d h h' b o o' g g' =
    let p = o.1 in
    let p' = o'.1 in
    let same = same_done p.done p'.done d d (header_of p.tag p.form (length o.0 + room) ++ o.0)
    (header_of p'.tag p'.form (length o'.0 + room') ++ o'.0) p.proper p'.proper (inr (open_tail d room o.0 b p))
    (inr (open_tail d room' o'.0 b p')) (sym p.is ∙ p'.is) in
    let one = header_one p.tag p'.tag p.form p'.form (length o.0 + room) (length o'.0 + room') o.0 o'.0 p.object.is_tag
    p'.object.is_tag p.object.fits p'.object.fits same.1 in
    let values : o'.0 ≡ o.0 = sym one.rests in
    let room_is : room ≡ room' = omega (arith, one.lengths, ap length values) in
    let inner = one_opening rooms rooms' (d + 1) h h' o.0 o.2
    (subst (λ (v : List ℕ). Opens (d + 1) rooms' h' v) values o'.2) g g' in
    let rooms_is : rooms ≡ rooms' = inner.0 in
    (ap (λ (r : ℕ). r ∷ rooms) room_is ∙ ap (λ (l : List ℕ). room' ∷ l) rooms_is, inner.1)

-- ---- one reason

abbrev lines : List TlvReason
lines = tlv_reasons

-- the reason of a refusal is a line that the octet meets
pub reason_meets : (max : ℕ) (r : TlvReason) (b : List ℕ) → IsReason max r b → Meets max b r
reason_meets max r b h = (
  h.0,
  first_holds lines
      (IsWrong (length h.0.rooms) (room_of (max - length h.0.before) h.0.rooms) h.0.header h.0.octet) r h.1,
)

-- equal lists have the same last octet, and the same before it
pub last_of : (a c : List ℕ) (x y : ℕ) → a ++ x ∷ [] ≡ c ++ y ∷ [] → (a ≡ c) × (x ≡ y)
last_of a c x y e =
    let len : length a ≡ length c = omega (arith, ap length e, length-append a (x ∷ []), length-append c (y ∷ [])) in
    let parts = split a (x ∷ []) c (y ∷ []) len e in
    (parts.0, head_of parts.1)

same_lines : (level level' room room' : ℕ) (h h' : List ℕ) (x x' : ℕ) (r : TlvReason) → level ≡ level' → room ≡ room'
    → h ≡ h' → x ≡ x' → IsFirst lines (IsWrong level' room' h' x') r → IsFirst lines (IsWrong level room h x) r
same_lines level level' room room' h h' x x' r a b c d w =
    subst (λ (k : ℕ). IsFirst lines (IsWrong k room h x) r) (sym a)
    (subst (λ (k : ℕ). IsFirst lines (IsWrong level' k h x) r) (sym b)
    (subst (λ (l : List ℕ). IsFirst lines (IsWrong level' room' l x) r) (sym c)
    (subst (λ (k : ℕ). IsFirst lines (IsWrong level' room' h' k) r) (sym d) w)))

-- a refusal has one reason
pub one_reason : (max : ℕ) (r s : TlvReason) (b : List ℕ) → IsReason max r b → IsReason max s b → r ≡ s
one_reason max r s b h g =
    let e = h.0 in
    let f = g.0 in
    let ends = last_of e.before f.before e.octet f.octet (sym e.is ∙ f.is) in
    let before : f.before ≡ e.before = sym ends.0 in
    let opening = one_opening e.rooms f.rooms 1 e.header f.header e.before e.opens
    (subst (λ (l : List ℕ). Opens 1 f.rooms f.header l) before f.opens) e.begun f.begun in
    let left : max - length e.before ≡ max - length f.before = ap (λ (l : List ℕ). max - length l) ends.0 in
    first_once lines (IsWrong (length e.rooms) (room_of (max - length e.before) e.rooms) e.header e.octet) r s h.1
    (same_lines (length e.rooms) (length f.rooms) (room_of (max - length e.before) e.rooms)
    (room_of (max - length f.before) f.rooms) e.header f.header e.octet f.octet s (ap length opening.0)
    (ap (room_of (max - length e.before)) opening.0 ∙ ap (λ (k : ℕ). room_of k f.rooms) left) opening.1 ends.1 g.1)

-- ---- some verdict

-- octets are none or some
pub nil_dec : (h : List ℕ) → Dec (h ≡ [])
nil_dec [] = inl refl
nil_dec (x ∷ h) = inr (λ e. cc)

-- a second tag octet is awaited or isn't
pub second_dec : (h : List ℕ) → Dec (AwaitsSecond h)
second_dec [] = inr (λ e. e)
second_dec (x ∷ []) = cases_eq (x % 32) 31
second_dec (x ∷ y ∷ h) = inr (λ e. e)

-- and so it is with a third
pub third_dec : (h : List ℕ) → Dec (AwaitsThird h)
third_dec [] = inr (λ e. e)
third_dec (x ∷ []) = inr (λ e. e)
third_dec (x ∷ y ∷ []) = and2 (cases_eq (x % 32) 31) (at-most 128 y)
third_dec (x ∷ y ∷ z ∷ h) = inr (λ e. e)

-- octets are a tag or aren't
pub tag_dec : (h : List ℕ) → Dec (IsTag h)
tag_dec [] = inr (λ e. e)
tag_dec (x ∷ []) = and3 (less 0 x) (less x 256) (not_dec (cases_eq (x % 32) 31))
tag_dec (x ∷ y ∷ []) = and4 (less x 256) (cases_eq (x % 32) 31) (less 0 y) (less y 128)
tag_dec (x ∷ y ∷ z ∷ []) = and5 (less x 256) (cases_eq (x % 32) 31) (less 128 y) (less y 256) (less z 128)
tag_dec (x ∷ y ∷ z ∷ w ∷ h) = inr (λ e. e)

line_dec : (level room : ℕ) (h : List ℕ) (x : ℕ) (r : TlvReason) → Dec (IsWrong level room h x r)
line_dec level room h x TooDeep = and3 (nil_dec h) (cases_eq level 16) (not_dec (cases_eq x 0))
line_dec level room h x TagSecond = and2 (second_dec h) (cases_eq (x % 128) 0)
line_dec level room h x TagLong = and2 (third_dec h) (at-most 128 x)
line_dec level room h x LengthForm = and2 (tag_dec h) (not_dec (begins_cases x))
line_dec level room h x Overrun = and2 (less 0 level) (less room (1 + need (h ++ x ∷ [])))
line_dec level room h x TooLong = and2 (cases_eq level 0) (less room (1 + need (h ++ x ∷ [])))

is_line : (r : TlvReason) → IsFirst lines (λ s. s ≡ r) r
unfolding IsFirst
is_line TooDeep = inl (refl, refl)
is_line TagSecond = inr (λ e. cc, inl (refl, refl))
is_line TagLong = inr (λ e. cc, inr (λ e. cc, inl (refl, refl)))
is_line LengthForm = inr (λ e. cc, inr (λ e. cc, inr (λ e. cc, inl (refl, refl))))
is_line Overrun = inr (λ e. cc, inr (λ e. cc, inr (λ e. cc, inr (λ e. cc, inl (refl, refl)))))
is_line TooLong = inr (λ e. cc, inr (λ e. cc, inr (λ e. cc, inr (λ e. cc, inr (λ e. cc, inl (refl, refl))))))

-- ---- the whole input

-- a forest begins with octets that leave open what fits the limit
pub stands_begins : (max : ℕ) (b : List ℕ) → length b ≤ max → Stands 1 (max - length b) b → Begins (IsForest max) b
stands_begins max b le s =
    let c = completed max b s le in
    (c.0, repair s.under ++ zeros c.1, subst (IsForest max c.0) (append_assoc b (repair s.under) (zeros c.1)) c.2)

-- the reason at a place, where the octets before it are known
reason_at : (max n : ℕ) (b : List ℕ) (r : TlvReason) → n < length b → (s : Stands 1 (max - n) (take n b))
    → IsHeader s.under → IsFirst lines (IsWrong (length s.rooms) (room_of (max - n) s.rooms) (under_octets s.under)
    (get_or b n 0)) r
    → IsReason max r (take (n + 1) b)
reason_at max n b r lt s h first =
    let count : length (take n b) ≡ n = omega (arith, length-take n b) in (
      ends_in_header n max b lt s h,
      subst
          (λ (k : ℕ). IsFirst lines (IsWrong (length s.rooms) (room_of (max - k) s.rooms) (under_octets s.under)
          (get_or b n 0)) r) (sym count) first,
    )

header_dec : (u : Under) → Dec (IsHeader u)
header_dec Nothing = inl tt
header_dec (First x) = inl tt
header_dec (Second x y) = inl tt
header_dec (Tagged tag) = inl tt
header_dec (Sized tag form more) = inl tt
header_dec (Valued tag form value left) = inr (λ e. e)

-- what is known of the first n octets, where a forest goes on from them
abbrev Known : ℕ → List ℕ → ℕ → Type 0
Known max b n = (n ≤ max) × Stands 1 (max - n) (take n b)

-- one octet more: a forest goes on from it, or it meets a reason
known_more : (max : ℕ) (b : List ℕ) → AreOctets b → (n : ℕ) → n < length b → Known max b n
    → Known max b (n + 1) ⊎ ((r : TlvReason) × IsReason max r (take (n + 1) b))
known_more max b octets n lt (le, s) =
    let x = get_or b n 0 in
    let next : suc n ≡ n + 1 = omega arith in
    elim (header_dec s.under) [
      | inr value ↦ inl (subst (Known max b) next (stands_more n max b octets lt le s (λ h r w. value h)))
      | inl h ↦ elim (first_dec lines (IsWrong (length s.rooms) (room_of (max - n) s.rooms) (under_octets s.under) x)
          (line_dec (length s.rooms) (room_of (max - n) s.rooms) (under_octets s.under) x)) [
            | inl first ↦ inr (first.0, reason_at max n b first.0 lt s h first.1)
            | inr none ↦ inl (subst (Known max b) next (stands_more n max b octets lt le s
                (λ g r w. some_first lines
                (IsWrong (length s.rooms) (room_of (max - n) s.rooms) (under_octets s.under) x)
                (line_dec (length s.rooms) (room_of (max - n) s.rooms) (under_octets s.under) x) r (is_line r) none w)))
          ]
    ]

begun_nil : IsBegun []
begun_nil = under_begun Nothing 1 (omega arith) tt

under_partial : (u : Under) (d : ℕ) → IsUnder d u → IsPartial (under_octets u)
under_partial Nothing d ok = inl (under_begun Nothing d ok tt)
under_partial (First x) d ok = inl (under_begun (First x) d ok tt)
under_partial (Second x y) d ok = inl (under_begun (Second x y) d ok tt)
under_partial (Tagged tag) d ok = inl (under_begun (Tagged tag) d ok tt)
under_partial (Sized tag form more) d ok = inl (under_begun (Sized tag form more) d ok tt)
under_partial (Valued tag form value left) d ok =
    inr (record {
      tag = tag;
      form = form;
      n = length value + left;
      value = value;
      is_tag = ok.0.is_tag;
      fits =
          ok.0.fits;
      less = omega (arith, ok.2);
      is = refl;
    })

-- something is under way
under_empty : (u : Under) (d : ℕ) → IsUnder d u → under_octets u ≡ [] → (u ≡ Nothing → ⊥) → ⊥
under_empty Nothing d ok e idle = idle refl
under_empty (First x) d ok e idle = cc
under_empty (Second x y) d ok e idle = cc
under_empty (Tagged tag) d ok e idle = subst IsTag e ok.1
under_empty (Sized [] form more) d ok e idle = ok.1
under_empty (Sized (x ∷ tag) form more) d ok e idle = cc
under_empty (Valued tag form value left) d ok e idle = header_not_nil tag form (length value + left) value ok.0.is_tag e

-- octets that leave something under way are no forest
pub busy : (rooms : List ℕ) (u : Under) (b : List ℕ) (t : Tree) → Opens 1 rooms (under_octets u) b
    → IsUnder (1 + length rooms) u → IsProper 1 t → b ≡ spelling t → (u ≡ Nothing → ⊥) → ⊥
busy [] u b t o ok ht e idle = under_empty u (1 + 0) ok
    (sym (same_done t o.done 1 1 [] (under_octets u) ht o.proper (inl begun_nil) (under_partial u (1 + 0) ok)
    (append-nil (spelling t) ∙ sym e ∙ o.is)).1) idle
busy (room ∷ rooms) u b t o ok ht e idle =
    let p = o.1 in
    let header = header_of p.tag p.form (length o.0 + room) in
    header_not_nil p.tag p.form (length o.0 + room) o.0 p.object.is_tag
    (sym (same_done t p.done 1 1 [] (header ++ o.0) ht p.proper (inl begun_nil) (inr (open_tail 1 room o.0 b p))
    (append-nil (spelling t) ∙ sym e ∙ p.is)).1)

-- whether octets after which nothing or something is open are a forest
at_end : (rooms : List ℕ) (u : Under) (b : List ℕ) → Opens 1 rooms (under_octets u) b → IsUnder (1 + length rooms) u
    → ((done : Tree) × IsProper 1 done × (b ≡ spelling done)) ⊎ ((t : Tree) → IsProper 1 t → b ≡ spelling t → ⊥)
at_end [] u b o ok =
    elim (nil_dec (under_octets u)) [
      | inl e ↦ inl (
        o.done,
        o.proper,
        o.is ∙ ap (λ (l : List ℕ). spelling o.done ++ l) e
            ∙ append-nil (spelling o.done),
      )
      | inr ne ↦ inr (λ t ht e. ne (sym (same_done t o.done 1 1 [] (under_octets u) ht o.proper (inl begun_nil)
          (under_partial u (1 + 0) ok) (append-nil (spelling t) ∙ sym e ∙ o.is)).1))
    ]
at_end (room ∷ rooms) u b o ok =
    let p = o.1 in
    let header = header_of p.tag p.form (length o.0 + room) in
    inr (λ t ht e. header_not_nil p.tag p.form (length o.0 + room) o.0 p.object.is_tag
    (sym (same_done t p.done 1 1 [] (header ++ o.0) ht p.proper (inl begun_nil) (inr (open_tail 1 room o.0 b p))
    (append-nil (spelling t) ∙ sym e ∙ p.is)).1))

known_all : (max : ℕ) (b : List ℕ) → Known max b (length b)
    → ((t : Tree) × IsForest max t b) ⊎ ((t : Tree) → IsForest max t b → ⊥)
known_all max b (le, stands) =
    let s : Stands 1 (max - length b) b =
    subst (λ (l : List ℕ). Stands 1 (max - length b) l) (take_all (length b) b (omega arith)) stands in
    elim (at_end s.rooms s.under b s.opens s.ok) [
      | inl done ↦ inl (done.0, record { proper = done.1; is = done.2; size = le })
      | inr none ↦ inr (λ t h. none t h.proper h.is)
    ]

forest-scan : (max : ℕ) (b : List ℕ) → AreOctets b → Scan (IsForest max) (IsReason max) b (Known max b)
forest-scan max b octets = record {
  one_value = λ v w p q. one_forest max max v w b p q;
  one_reason = one_reason max;
  stops = λ r c reason. refused max c r (reason_meets max r c reason);
  nothing = (
    omega arith,
    record {
      rooms = [];
      under = Nothing;
      opens = record { done = End; proper = tt; is = refl };
      ok = omega arith;
      fits = omega arith;
    },
  );
  next = known_more max b octets;
  begun = λ n le known.
      let count : n ≡ length (take n b) = omega (arith, length-take n b, le) in
      stands_begins max (take n b) (omega (arith, count, known.0))
      (subst (λ (k : ℕ). Stands 1 (max - k) (take n b)) count known.1);
  told = known_all max b;
}

-- every input is a forest or is refused, in one way
pub one_verdict : (max : ℕ) (b : List ℕ) → AreOctets b → ForestVerdict max b
one_verdict max b octets = whole_verdict (IsForest max) (IsReason max) b (Known max b) (forest-scan max b octets)
