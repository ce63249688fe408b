-- Where octets stand that may begin a forest: each octet that meets no reason leads to such a place, and from each zeros lead to a forest.
use Rattle.std.proofs.Common.{◌≡◌, ◌≢◌, ℕ, ◌+◌, ◌*◌, ◌-◌, ◌/◌, ◌%◌, ◌^◌, ◌<◌, ◌≤◌, List, [], ◌∷◌, ◌++◌, length, refl, sym, ap, subst, ◌∙◌, inl, inr, ◌⊎◌, arith, zero, suc, append-nil, append_assoc, length-append}
use Rattle.std.proofs.lemmas.Bool.{cases_lt, cases_eq}
use Rattle.octet_core.specs.Octets.{AreOctets}
use Rattle.tlv_core.specs.Number.{number_of, high_first, zeros}
use Rattle.tlv_core.specs.Tag.{IsTag, IsLong, constructed_bit, length_field, header_of}
use Rattle.tlv_core.specs.Form.{further, capacity}
use Rattle.tlv_core.specs.Tree.{Tree, End, Filler, Primitive, Constructed}
use Rattle.tlv_core.specs.Forest.{spelling, IsProper, IsObject, deepest}
use Rattle.tlv_core.specs.Reasons.{OpensOne, EndsIn, Opens, need, need_in_length, room_of, AwaitsSecond, AwaitsThird, BeginsLength}
use Rattle.tlv_core.specs.declared.form.Form.{Form}
use Rattle.tlv_core.specs.declared.form.Form.TheVariants.{One}
use Rattle.tlv_core.proofs.Forms.{form_cases, field-one, capacity-one}
use Rattle.octet_core.proofs.Lists.{octets-cons, octets-append, regroup}
use Rattle.tlv_core.proofs.Numbers.{octets_nil, high_first-number, number_lt}
use Rattle.tlv_core.proofs.Needs.{need-short, need-long, need_after-last, need_after-more, need_in-one, need_in-more, number-append}
use Rattle.tlv_core.proofs.One.{join, head_of}

-- ---- lists of objects, joined

-- the octets of one list after another are those of both, joined
pub spelling-join : (s t : Tree) → spelling (join s t) ≡ spelling s ++ spelling t
spelling-join End t = refl
spelling-join (Filler rest) t = ap (λ (l : List ℕ). 0 ∷ l) (spelling-join rest t)
spelling-join (Primitive tag form value rest) t =
    ap (λ (l : List ℕ). header_of tag form (length value) ++ (value ++ l)) (spelling-join rest t)
    ∙ sym (regroup (header_of tag form (length value)) value (spelling rest) (spelling t))
spelling-join (Constructed tag form nodes rest) t =
    ap (λ (l : List ℕ). header_of tag form (length (spelling nodes)) ++ (spelling nodes ++ l)) (spelling-join rest t)
    ∙ sym (regroup (header_of tag form (length (spelling nodes))) (spelling nodes) (spelling rest) (spelling t))

-- and where both are proper, so is this
pub proper-join : (s t : Tree) (d : ℕ) → IsProper d s → IsProper d t → IsProper d (join s t)
proper-join End t d hs ht = ht
proper-join (Filler rest) t d hs ht = proper-join rest t d hs ht
proper-join (Primitive tag form value rest) t d hs ht = (hs.0, hs.1, proper-join rest t d hs.2 ht)
proper-join (Constructed tag form nodes rest) t d hs ht = (hs.0, hs.1, proper-join rest t d hs.2 ht)

-- so many fillers
abbrev pub fillers : ℕ → Tree
fillers zero = End
fillers (suc n) = Filler (fillers n)

-- their octets are zeros
pub spelling-fillers : (n : ℕ) → spelling (fillers n) ≡ zeros n
spelling-fillers zero = refl
spelling-fillers (suc n) = ap (λ (l : List ℕ). 0 ∷ l) (spelling-fillers n)

-- they are proper at each depth
pub proper-fillers : (n d : ℕ) → IsProper d (fillers n)
proper-fillers zero d = tt
proper-fillers (suc n) d = proper-fillers n d

-- n zeros are n octets
pub length-zeros : (n : ℕ) → length (zeros n) ≡ n
length-zeros zero = refl
length-zeros (suc n) = ap suc (length-zeros n)

-- m zeros and n more are m + n zeros
pub zeros-append : (m n : ℕ) → zeros m ++ zeros n ≡ zeros (m + n)
zeros-append zero n = let e : n ≡ zero + n = omega arith in ap zeros e
zeros-append (suc m) n = let e : suc (m + n) ≡ suc m + n =
    omega arith in ap (λ (l : List ℕ). 0 ∷ l) (zeros-append m n) ∙ ap zeros e

-- zeros are octets
pub octets-zeros : (n : ℕ) → AreOctets (zeros n)
octets-zeros zero = octets_nil
octets-zeros (suc n) = octets-cons 0 (zeros n) (omega arith) (octets-zeros n)

-- ---- one object with an empty value or one of zeros

-- bit 6 of a tag is 0 or 1
pub bit_cases : (tag : List ℕ) → (constructed_bit tag ≡ 0) ⊎ (constructed_bit tag ≡ 1)
bit_cases [] = inl refl
bit_cases (x ∷ more) = elim (cases_lt (x / 32 % 2) 1) [ inl h ↦ inl (omega arith) | inr h ↦ inr (omega arith) ]

-- an object whose value is zeros
pub record IsZeros (d : ℕ) (tag : List ℕ) (form : Form) (n : ℕ) : Type 0 where
  pub list : Tree
  pub proper : IsProper d list
  pub is : spelling list ≡ header_of tag form n ++ zeros n

-- there is one for each tag, and each length that fits the form, at each depth of objects
pub of_zeros : (d : ℕ) (tag : List ℕ) (form : Form) (n : ℕ) → d ≤ deepest → IsTag tag → n < capacity form
    → IsZeros d tag form n
of_zeros d tag form n le h lt =
    elim (bit_cases tag) [
      | inl bit ↦ record {
        list = Primitive tag form (zeros n) End;
        proper = (
          record {
            depth = le;
            is_tag = h;
            is_bit = bit;
            fits =
                subst (λ (m : ℕ). m < capacity form) (sym (length-zeros n)) lt;
          },
          octets-zeros n,
          tt,
        );
        is = ap (λ (l : List ℕ). header_of tag form (length (zeros n)) ++ l) (append-nil (zeros n))
            ∙ ap (λ (m : ℕ). header_of tag form m ++ zeros n) (length-zeros n);
      }
      | inr bit ↦
          let len : length (spelling (fillers n)) ≡ n = ap length (spelling-fillers n) ∙ length-zeros n in
          record {
            list = Constructed tag form (fillers n) End;
            proper = (
              record {
                depth = le;
                is_tag = h;
                is_bit = bit;
                fits =
                    subst (λ (m : ℕ). m < capacity form) (sym len) lt;
              },
              proper-fillers n (d + 1),
              tt,
            );
            is = ap (λ (l : List ℕ). header_of tag form (length (spelling (fillers n))) ++ l)
                (append-nil (spelling (fillers n)) ∙ spelling-fillers n)
                ∙ ap (λ (m : ℕ). header_of tag form m ++ zeros n) len;
          }
    ]

-- ---- what is under way in the innermost open list

-- what is under way: nothing, a part of a header, or a header with a part of a primitive value
pub data Under : Type 0 where
  Nothing : Under
  First : (x : ℕ) → Under
  Second : (x y : ℕ) → Under
  Tagged : (tag : List ℕ) → Under
  Sized : (tag : List ℕ) (form : Form) (more : List ℕ) → Under
  Valued : (tag : List ℕ) (form : Form) (value : List ℕ) (left : ℕ) → Under

-- its octets
abbrev pub under_octets : Under → List ℕ
under_octets Nothing = []
under_octets (First x) = x ∷ []
under_octets (Second x y) = x ∷ y ∷ []
under_octets (Tagged tag) = tag
under_octets (Sized tag form more) = tag ++ (128 + further form) ∷ more
under_octets (Valued tag form value left) = header_of tag form (length value + left) ++ value

-- it is of the kind that is said, in a list at depth d
abbrev pub IsUnder : ℕ → Under → Type 0
IsUnder d Nothing = d ≤ 17
IsUnder d (First x) = (d ≤ deepest) × (x < 256) × IsLong x
IsUnder d (Second x y) = (d ≤ deepest) × (x < 256) × IsLong x × (128 < y) × (y < 256)
IsUnder d (Tagged tag) = (d ≤ deepest) × IsTag tag
IsUnder d (Sized tag form more) = (d ≤ deepest) × IsTag tag × (length more < further form) × AreOctets more
IsUnder d (Valued tag form value left) = IsObject d 0 tag form (length value + left) × AreOctets value × (0 < left)

-- the least number of octets that must still come of it
abbrev pub under_need : Under → ℕ
under_need Nothing = 0
under_need (First x) = 2
under_need (Second x y) = 2
under_need (Tagged tag) = 1
under_need (Sized tag form more) = (further form - length more) + number_of more * 256 ^ (further form - length more)
under_need (Valued tag form value left) = left

-- a first tag octet that a second one follows is completed by 01
abbrev pub repair : Under → List ℕ
repair Nothing = []
repair (First x) = 1 ∷ []
repair (Second x y) = []
repair (Tagged tag) = []
repair (Sized tag form more) = []
repair (Valued tag form value left) = []

-- ---- from each place zeros lead to a list

-- the octets b, and some zeros after them, spell a list at depth d, with at most so many octets
pub record Completes (d most : ℕ) (b : List ℕ) : Type 0 where
  pub list : Tree
  pub count : ℕ
  pub proper : IsProper d list
  pub is : spelling list ≡ b ++ zeros count
  pub size : length (spelling list) ≤ most

number-zeros : (n : ℕ) → number_of (zeros n) ≡ 0
number-zeros zero = refl
number-zeros (suc n) = omega (arith, number-zeros n)

-- the length that further octets say, as many as the form has: it fits the form, and they are those of its field
pub field_more : (form : Form) (more : List ℕ) → length more ≡ further form → 0 < further form → AreOctets more
    → (number_of more < capacity form) × (length_field form (number_of more) ≡ (128 + further form) ∷ more)
field_more form more len pos h =
    elim (form_cases form) [
      | inl one ↦ absurd (omega (arith, ap further one))
      | inr long ↦
          let below : number_of more < 256 ^ further form =
          subst (λ (k : ℕ). number_of more < 256 ^ k) len (number_lt more h) in (
            omega (arith, below, long.capacity_is),
            long.field (number_of more) ∙ ap (λ (l : List ℕ). (128 + further form) ∷ l)
                (subst (λ (k : ℕ). high_first k (number_of more) ≡ more) len (high_first-number more h)),
          )
    ]

regroup_sized : (t g : List ℕ) (x : ℕ) (a b : List ℕ) → (t ++ x ∷ (g ++ a)) ++ b ≡ (t ++ x ∷ g) ++ (a ++ b)
regroup_sized t g x a b = simp append_assoc

-- what is under way and its repair are completed by zeros, with no more octets than must still come
pub complete_under : (d : ℕ) (u : Under) → IsUnder d u
    → Completes d (length (under_octets u) + under_need u) (under_octets u ++ repair u)
complete_under d Nothing h = record { list = End; count = 0; proper = tt; is = refl; size = omega arith }
complete_under d (First x) h =
    let o = of_zeros d (x ∷ 1 ∷ []) One 0 h.0 (h.1, h.2, omega arith, omega arith) (omega arith) in
    record { list = o.list; count = 1; proper = o.proper; is = o.is; size = omega (arith, ap length o.is) }
complete_under d (Second x y) h =
    let o = of_zeros d (x ∷ y ∷ 0 ∷ []) One 0 h.0 (h.1, h.2, h.3, h.4, omega arith) (omega arith) in
    record { list = o.list; count = 2; proper = o.proper; is = o.is; size = omega (arith, ap length o.is) }
complete_under d (Tagged tag) h =
    let o = of_zeros d tag One 0 h.0 h.1 (omega arith) in
    let is : spelling o.list ≡ (tag ++ []) ++ zeros 1 =
    o.is ∙ append-nil (tag ++ 0 ∷ []) ∙ ap (λ (l : List ℕ). l ++ 0 ∷ []) (sym (append-nil tag)) in
    record {
      list = o.list;
      count = 1;
      proper = o.proper;
      is = is;
      size =
          omega (arith, ap length o.is, length-append tag (0 ∷ []), length-append (tag ++ 0 ∷ []) []);
    }
complete_under d (Sized tag form more) h =
    let k = further form - length more in
    let all = more ++ zeros k in
    let n = number_of all in
    let len : length all ≡ further form = omega (arith, length-append more (zeros k), length-zeros k, h.2) in
    let field = field_more form all len (omega (arith, h.2)) (octets-append more (zeros k) h.3 (octets-zeros k)) in
    let o = of_zeros d tag form n h.0 h.1 field.0 in
    let number : n ≡ number_of more * 256 ^ k =
    number-append more (zeros k) ∙ ap (λ (m : ℕ). number_of more * 256 ^ m + number_of (zeros k)) (length-zeros k)
    ∙ omega (arith, number-zeros k) in
    let is : spelling o.list ≡ ((tag ++ (128 + further form) ∷ more) ++ []) ++ zeros (k + n) =
    o.is ∙ ap (λ (l : List ℕ). (tag ++ l) ++ zeros n) field.1
    ∙ regroup_sized tag more (128 + further form) (zeros k) (zeros n)
    ∙ ap (λ (l : List ℕ). (tag ++ (128 + further form) ∷ more) ++ l) (zeros-append k n)
    ∙ ap (λ (l : List ℕ). l ++ zeros (k + n)) (sym (append-nil (tag ++ (128 + further form) ∷ more))) in
    record {
      list = o.list;
      count = k + n;
      proper = o.proper;
      is = is;
      size = omega (
        arith,
        ap length is,
        length-append ((tag ++ (128 + further form) ∷ more) ++ []) (zeros (k + n)),
        length-append (tag ++ (128 + further form) ∷ more) [],
        length-zeros (k + n),
        number,
      );
    }
complete_under d (Valued tag form value left) h =
    let all = value ++ zeros left in
    let len : length all ≡ length value + left = omega (arith, length-append value (zeros left), length-zeros left) in
    let is : header_of tag form (length all)
    ++ (all ++ []) ≡ ((header_of tag form (length value + left) ++ value) ++ []) ++ zeros left =
    ap (λ (l : List ℕ). header_of tag form (length all) ++ l) (append-nil all)
    ∙ ap (λ (m : ℕ). header_of tag form m ++ all) len
    ∙ sym (append_assoc (header_of tag form (length value + left)) value (zeros left))
    ∙ ap (λ (l : List ℕ). l ++ zeros left) (sym (append-nil (header_of tag form (length value + left) ++ value))) in
    record {
      list = Primitive tag form all End;
      count = left;
      proper = (
        subst (λ (m : ℕ). IsObject d 0 tag form m) (sym len) h.0,
        octets-append value (zeros left) h.1 (octets-zeros left),
        tt,
      );
      is = is;
      size = omega (
        arith,
        ap length is,
        length-append ((header_of tag form (length value + left) ++ value) ++ [])
            (zeros left),
        length-append (header_of tag form (length value + left) ++ value) [],
        length-zeros left,
      );
    }

-- ---- the rooms

-- what is needed fits the innermost room, and each room the one before
abbrev pub FitsIn : ℕ → List ℕ → ℕ → Type 0
FitsIn left [] k = k ≤ left
FitsIn left (room ∷ rooms) k = (room ≤ left) × FitsIn room rooms k

-- what fits all the rooms fits the innermost one
pub fits_need : (rooms : List ℕ) (left k : ℕ) → FitsIn left rooms k → k ≤ room_of left rooms
fits_need [] left k h = h
fits_need (room ∷ rooms) left k h = fits_need rooms room k h.1

-- the innermost room is no more than the whole
pub fits_room : (rooms : List ℕ) (left k : ℕ) → FitsIn left rooms k → room_of left rooms ≤ left
fits_room [] left k h = omega arith
fits_room (room ∷ rooms) left k h = omega (arith, h.0, fits_room rooms room k h.1)

-- the innermost list stands at most one below the deepest object
pub opens_depth : (rooms : List ℕ) (d : ℕ) (last b : List ℕ) → d ≤ 17 → Opens d rooms last b → d + length rooms ≤ 17
opens_depth [] d last b le h = omega arith
opens_depth (room ∷ rooms) d last b le h =
    omega (arith, opens_depth rooms (d + 1) last h.0 (omega (arith, h.1.object.depth)) h.2)

-- ---- from each place to a list

regroup_done : (a b c d : List ℕ) → a ++ ((b ++ c) ++ d) ≡ ((a ++ b) ++ c) ++ d
regroup_done a b c d = simp append_assoc

regroup_open : (a b c d e : List ℕ) → a ++ (b ++ ((c ++ d) ++ e)) ≡ ((a ++ (b ++ c)) ++ d) ++ e
regroup_open a b c d e = simp append_assoc

-- octets that leave objects open, with that repair, are completed by zeros, within what is left of the whole
pub complete : (rooms : List ℕ) (d left : ℕ) (u : Under) (b : List ℕ) → Opens d rooms (under_octets u) b
    → IsUnder (d + length rooms) u → FitsIn left rooms (under_need u)
    → Completes d (length b + left) (b ++ repair u)
complete [] d left u b opens under fits =
    let c = complete_under (d + 0) u under in
    let depth : d + 0 ≡ d = omega arith in
    let is : spelling (join opens.done c.list) ≡ (b ++ repair u) ++ zeros c.count =
    spelling-join opens.done c.list ∙ ap (λ (l : List ℕ). spelling opens.done ++ l) c.is
    ∙ regroup_done (spelling opens.done) (under_octets u) (repair u) (zeros c.count)
    ∙ ap (λ (l : List ℕ). (l ++ repair u) ++ zeros c.count) (sym opens.is) in
    record {
      list = join opens.done c.list;
      count = c.count;
      proper = proper-join opens.done c.list d opens.proper (subst (λ (k : ℕ). IsProper k c.list) depth c.proper);
      is = is;
      size = omega (
        arith,
        ap length (spelling-join opens.done c.list),
        length-append (spelling opens.done) (spelling c.list),
        c.size,
        fits,
        ap length opens.is,
        length-append (spelling opens.done) (under_octets u),
      );
    }
complete (room ∷ rooms) d left u b opens under fits =
    let value = opens.0 in
    let o = opens.1 in
    let n = length value + room in
    let depth : d + length (room ∷ rooms) ≡ d + 1 + length rooms = omega arith in
    let c = complete rooms (d + 1) room u value opens.2 (subst (λ (k : ℕ). IsUnder k u) depth under) fits.1 in
    let pad = n - length (spelling c.list) in
    let nodes = join c.list (fillers pad) in
    let inside : spelling nodes ≡ (value ++ repair u) ++ zeros (c.count + pad) =
    spelling-join c.list (fillers pad) ∙ ap (λ (l : List ℕ). l ++ spelling (fillers pad)) c.is
    ∙ append_assoc (value ++ repair u) (zeros c.count) (spelling (fillers pad))
    ∙ ap (λ (l : List ℕ). (value ++ repair u) ++ l)
    (ap (λ (l : List ℕ). zeros c.count ++ l) (spelling-fillers pad) ∙ zeros-append c.count pad) in
    let len : length (spelling nodes) ≡ n =
    omega (
      arith,
      ap length (spelling-join c.list (fillers pad)),
      length-append (spelling c.list) (spelling (fillers pad)),
      ap length (spelling-fillers pad),
      length-zeros pad,
      c.size,
    ) in
    let header = header_of o.tag o.form n in
    let object : Tree = Constructed o.tag o.form nodes End in
    let spelled : spelling object ≡ header ++ ((value ++ repair u) ++ zeros (c.count + pad)) =
    ap (λ (l : List ℕ). header_of o.tag o.form (length (spelling nodes)) ++ l) (append-nil (spelling nodes) ∙ inside)
    ∙ ap (λ (m : ℕ). header_of o.tag o.form m ++ ((value ++ repair u) ++ zeros (c.count + pad))) len in
    let is : spelling (join o.done object) ≡ (b ++ repair u) ++ zeros (c.count + pad) =
    spelling-join o.done object ∙ ap (λ (l : List ℕ). spelling o.done ++ l) spelled
    ∙ regroup_open (spelling o.done) header value (repair u) (zeros (c.count + pad))
    ∙ ap (λ (l : List ℕ). (l ++ repair u) ++ zeros (c.count + pad)) (sym o.is) in
    record {
      list = join o.done object;
      count = c.count + pad;
      proper = proper-join o.done object d o.proper (
        subst (λ (m : ℕ). IsObject d 1 o.tag o.form m) (sym len) o.object,
        proper-join c.list (fillers pad) (d + 1) c.proper (proper-fillers pad (d + 1)),
        tt,
      );
      is = is;
      size =
          omega (
            arith,
            ap length (spelling-join o.done object),
            length-append (spelling o.done) (spelling object),
            ap length spelled,
            length-append header ((value ++ repair u) ++ zeros (c.count + pad)),
            ap length inside,
            len,
            fits.0,
            ap length o.is,
            length-append (spelling o.done) (header ++ value),
            length-append header value,
          );
    }

-- ---- the next octet of a header

-- the octet x may come after h, in a list at depth d with this room
pub record Allowed (d room : ℕ) (h : List ℕ) (x : ℕ) : Type 0 where
  pub deep : h ≡ [] → d ≡ 17 → x ≡ 0
  pub second : AwaitsSecond h → x % 128 ≢ 0
  pub third : AwaitsThird h → x < 128
  pub length_form : IsTag h → BeginsLength x
  pub room_left : 1 + need (h ++ x ∷ []) ≤ room

-- the octets h are something under way in a list at depth d, which needs what they need
pub record NextUnder (d : ℕ) (h : List ℕ) : Type 0 where
  pub under : Under
  pub ok : IsUnder d under
  pub octets : under_octets under ≡ h
  pub needs : under_need under ≡ need h

-- the octets h are the header of an object at depth d, whose value has as many octets as they need
pub record Whole (d : ℕ) (h : List ℕ) : Type 0 where
  pub tag : List ℕ
  pub form : Form
  pub n : ℕ
  pub depth : d ≤ deepest
  pub is_tag : IsTag tag
  pub fits : n < capacity form
  pub is : h ≡ header_of tag form n
  pub needs : n ≡ need h

-- the octets h are a filler, something under way, or a whole header
abbrev pub Next : ℕ → List ℕ → Type 0
Next d h = (h ≡ 0 ∷ []) ⊎ (NextUnder d h ⊎ Whole d h)

-- after a tag, the octets of the length field say what is needed
pub need-tag : (tag f : List ℕ) → IsTag tag → need (tag ++ f) ≡ need_in_length f
need-tag [] f h = absurd h
need-tag (x ∷ []) f h = need-short x f h.0 h.2
need-tag (x ∷ y ∷ []) f h = need-long x (y ∷ f) h.1 ∙ need_after-last y f (omega arith)
need-tag (x ∷ y ∷ z ∷ []) f h = need-long x (y ∷ z ∷ f) h.1 ∙ need_after-more y (z ∷ f) (omega arith)
need-tag (x ∷ y ∷ z ∷ w ∷ more) f h = absurd h

next_nothing : (d room x : ℕ) → d ≤ 17 → x < 256 → Allowed d room [] x → Next d (x ∷ [])
next_nothing d room x le lt a =
    elim (cases_eq x 0) [
      | inl z ↦ inl (ap (λ (y : ℕ). y ∷ []) z)
      | inr nz ↦
          let shallow : d ≤ 16 = elim (cases_eq d 17) [ inl e ↦ absurd (nz (a.deep refl e)) | inr ne ↦ omega arith ] in
          elim (cases_eq (x % 32) 31) [
            | inl long ↦ inr (inl (record
                { under = First x; ok = (shallow, lt, long); octets = refl; needs = sym (need-long x [] long) }))
            | inr short ↦
                let pos : 0 < x = omega arith in
                inr (inl (record {
                  under = Tagged (x ∷ []);
                  ok = (shallow, (pos, lt, short));
                  octets = refl;
                  needs =
                      sym (need-short x [] pos short);
                }))
          ]
    ]

next_first : (d room a x : ℕ) → d ≤ deepest → a < 256 → IsLong a → x < 256 → Allowed d room (a ∷ []) x
    → Next d (a ∷ x ∷ [])
next_first d room a x le small long lt allowed =
    let ne : x % 128 ≢ 0 = allowed.second long in
    elim (cases_lt x 128) [
      | inl last ↦
          let pos : 0 < x = omega arith in
          inr (inl (record {
            under = Tagged (a ∷ x ∷ []);
            ok = (le, (small, long, pos, last));
            octets = refl;
            needs =
                sym (need-long a (x ∷ []) long ∙ need_after-last x [] last);
          }))
      | inr more ↦
          let above : 128 < x = omega arith in
          inr (inl (record {
            under = Second a x;
            ok = (le, small, long, above, lt);
            octets = refl;
            needs =
                sym (need-long a (x ∷ []) long ∙ need_after-more x [] more);
          }))
    ]

next_second : (d room a b x : ℕ) → d ≤ deepest → a < 256 → IsLong a → 128 < b → b < 256 → Allowed d room (a ∷ b ∷ []) x
    → Next d (a ∷ b ∷ x ∷ [])
next_second d room a b x le small long above lt allowed =
    let last : x < 128 = allowed.third (long, omega arith) in
    inr (inl (record {
      under = Tagged (a ∷ b ∷ x ∷ []);
      ok = (le, (small, long, above, lt, last));
      octets =
          refl;
      needs = sym (need-long a (b ∷ x ∷ []) long ∙ need_after-more b (x ∷ []) (omega arith));
    }))

next_tagged_form : (d x : ℕ) (tag : List ℕ) (form : Form) (n : ℕ) (more : List ℕ) → d ≤ deepest → IsTag tag
    → n < capacity form → length_field form n ≡ x ∷ more → Next d (tag ++ x ∷ [])
next_tagged_form d x tag form n more le h lt e =
    elim (form_cases form) [
      | inl one ↦
          let is : n ≡ x = head_of (sym (field-one form n one) ∙ e) in
          inr (inr (record {
            tag = tag;
            form = One;
            n = x;
            depth = le;
            is_tag = h;
            fits =
                omega (arith, capacity-one form one);
            is = refl;
            needs =
                sym (need-tag tag (x ∷ []) h ∙ need_in-one x (omega (arith, capacity-one form one)));
          }))
      | inr long ↦
          let is : 128 + further form ≡ x = head_of (sym (long.field n) ∙ e) in
          inr
          (
          inl
          (record {
            under = Sized tag form [];
            ok = (le, h, long.some, octets_nil);
            octets = ap (λ (y : ℕ). tag ++ y ∷ []) is;
            needs = sym (ap (λ (y : ℕ). need (tag ++ y ∷ [])) (sym is) ∙ need-tag tag ((128 + further form) ∷ []) h
                ∙ need_in-more (further form) []);
          })
          )
    ]

number_left : (n k : ℕ) → k ≡ 0 → n ≡ k + n * 256 ^ k
number_left n zero e = omega arith
number_left n (suc k) e = absurd (omega arith)

next_sized : (d x : ℕ) (tag : List ℕ) (form : Form) (more : List ℕ) → d ≤ deepest → IsTag tag
    → length more < further form → AreOctets more → x < 256 → Next d ((tag ++ (128 + further form) ∷ more) ++ x ∷ [])
next_sized d x tag form more le h lt octets small =
    let all = more ++ x ∷ [] in
    let all_octets : AreOctets all = octets-append more (x ∷ []) octets (octets-cons x [] small octets_nil) in
    let len : length all ≡ length more + 1 = length-append more (x ∷ []) in
    let is : (tag ++ (128 + further form) ∷ more) ++ x ∷ [] ≡ tag ++ (128 + further form) ∷ all =
    append_assoc tag ((128 + further form) ∷ more) (x ∷ []) in
    let needed : need ((tag ++ (128 + further form) ∷ more) ++ x ∷ []) ≡ (further form - length all) + number_of all *
    256 ^ (further form - length all) =
    ap need is ∙ need-tag tag ((128 + further form) ∷ all) h ∙ need_in-more (further form) all in
    elim (cases_lt (length all) (further form)) [
      | inl on ↦ inr (inl (record {
        under = Sized tag form all;
        ok = (le, h, on, all_octets);
        octets = sym is;
        needs =
            sym needed;
      }))
      | inr end ↦
          let full : length all ≡ further form = omega arith in
          let field = field_more form all full (omega arith) all_octets in
          let none : further form - length all ≡ 0 = omega arith in
          let number : number_of all ≡ (further form - length all) + number_of all * 256 ^ (further form - length all) =
          number_left (number_of all) (further form - length all) none in
          inr (inr (record {
            tag = tag;
            form = form;
            n = number_of all;
            depth = le;
            is_tag = h;
            fits = field.0;
            is =
                is ∙ ap (λ (l : List ℕ). tag ++ l) (sym field.1);
            needs = number ∙ sym needed;
          }))
    ]

-- ---- one octet more

-- what the octets b leave open in a list at depth d: the rooms, and what is under way in the innermost list;
-- what must still come of it fits, with `left` octets left of the whole
pub record Stands (d left : ℕ) (b : List ℕ) : Type 0 where
  pub rooms : List ℕ
  pub under : Under
  pub opens : Opens d rooms (under_octets under) b
  pub ok : IsUnder (d + length rooms) under
  pub fits : FitsIn left rooms (under_need under)

-- the octets end in whole objects and fillers
stands_done : (d left : ℕ) (done : Tree) (b : List ℕ) → d ≤ 17 → IsProper d done → b ≡ spelling done → Stands d left b
stands_done d left done b le h e =
    record {
      rooms = [];
      under = Nothing;
      opens =
          record { done = done; proper = h; is = e ∙ sym (append-nil (spelling done)) };
      ok = omega arith;
      fits =
          omega arith;
    }

stands_filler : (d left : ℕ) (done : Tree) (b : List ℕ) → d ≤ 17 → IsProper d done → b ≡ spelling done ++ 0 ∷ []
    → Stands d left b
stands_filler d left done b le h e = stands_done d left (join done (Filler End)) b le
    (proper-join done (Filler End) d h tt) (e ∙ sym (spelling-join done (Filler End)))

plus_zero : (tag : List ℕ) (form : Form) (n : ℕ) → header_of tag form n ≡ header_of tag form (0 + n)
plus_zero tag form n = let e : n ≡ 0 + n = omega arith in ap (header_of tag form) e

stands_whole : (d left : ℕ) (done : Tree) (b : List ℕ) → IsProper d done → (w : Whole d b) → (front : List ℕ)
    → front ≡ spelling done ++ b → w.n ≤ left → Stands d left front
stands_whole d left done b h w front e le =
    elim (cases_eq w.n 0) [
      | inl empty ↦
          let o = of_zeros d w.tag w.form w.n w.depth w.is_tag w.fits in
          let is : front ≡ spelling (join done o.list) =
          e ∙ ap (λ (l : List ℕ). spelling done ++ l)
          (w.is ∙ sym (append-nil (header_of w.tag w.form w.n))
          ∙ ap (λ (m : ℕ). header_of w.tag w.form w.n ++ zeros m) (sym empty) ∙ sym o.is)
          ∙ sym (spelling-join done o.list) in
          stands_done d left (join done o.list) front (omega (arith, w.depth)) (proper-join done o.list d h o.proper) is
      | inr more ↦ elim (bit_cases w.tag) [
        | inl bit ↦ record {
          rooms = [];
          under = Valued w.tag w.form [] w.n;
          opens = record {
            done = done;
            proper = h;
            is =
                e ∙ ap (λ (l : List ℕ). spelling done ++ l)
                (w.is ∙ plus_zero w.tag w.form w.n ∙ sym (append-nil (header_of w.tag w.form (0 + w.n))));
          };
          ok = (
            record {
              depth = omega (arith, w.depth);
              is_tag = w.is_tag;
              is_bit = bit;
              fits =
                  omega (arith, w.fits);
            },
            octets_nil,
            omega arith,
          );
          fits = le;
        }
        | inr bit ↦ record {
          rooms = w.n ∷ [];
          under = Nothing;
          opens = (
            [],
            record {
              done = done;
              proper = h;
              tag = w.tag;
              form = w.form;
              object = record { depth = w.depth; is_tag = w.is_tag; is_bit = bit; fits = omega (arith, w.fits) };
              open_yet = omega arith;
              is = e ∙ ap (λ (l : List ℕ). spelling done ++ l)
                  (w.is ∙ plus_zero w.tag w.form w.n ∙ sym (append-nil (header_of w.tag w.form (0 + w.n))));
            },
            record { done = End; proper = tt; is = refl },
          );
          ok = omega (arith, w.depth);
          fits = (le, omega arith);
        }
      ]
    ]

stands_next : (d left : ℕ) (done : Tree) (h front : List ℕ) → d ≤ 17 → IsProper d done → front ≡ spelling done ++ h
    → 1 + need h ≤ left → Next d h → Stands d (left - 1) front
stands_next d left done h front le proper e room next =
    elim next [
      | inl filler ↦ stands_filler d (left - 1) done front le proper
          (e ∙ ap (λ (l : List ℕ). spelling done ++ l) filler)
      | inr rest ↦ elim rest [
        | inl n ↦
            let depth : d ≡ d + 0 = omega arith in
            record {
              rooms = [];
              under = n.under;
              opens = record {
                done = done;
                proper = proper;
                is =
                    e ∙ ap (λ (l : List ℕ). spelling done ++ l) (sym n.octets);
              };
              ok = subst (λ (k : ℕ). IsUnder k n.under) depth n.ok;
              fits = omega (arith, n.needs);
            }
        | inr w ↦ stands_whole d (left - 1) done h proper w front e (omega (arith, w.needs))
      ]
    ]

regroup_value : (a b c x : List ℕ) → (a ++ (b ++ c)) ++ x ≡ a ++ (b ++ ((c ++ x) ++ []))
regroup_value a b c x = simp (append_assoc, append-nil)

regroup_part : (a b c x : List ℕ) → (a ++ (b ++ c)) ++ x ≡ a ++ (b ++ (c ++ x))
regroup_part a b c x = simp append_assoc

stands_value : (d left k : ℕ) (done : Tree) (tag : List ℕ) (form : Form) (value b : List ℕ) (x : ℕ) → IsProper d done
    → IsUnder d (Valued tag form value k) → b ≡ spelling done ++ (header_of tag form (length value + k) ++ value)
    → k ≤ left → x < 256
    → Stands d (left - 1) (b ++ x ∷ [])
stands_value d left k done tag form value b x proper u e le small =
    let all = value ++ x ∷ [] in
    let len : length all ≡ length value + 1 = length-append value (x ∷ []) in
    let octets : AreOctets all = octets-append value (x ∷ []) u.1 (octets-cons x [] small octets_nil) in
    elim (cases_eq k 1) [
      | inl last ↦
          let full : length value + k ≡ length all = omega arith in
          let object : Tree = Primitive tag form all End in
          let is : b ++ x ∷ [] ≡ spelling (join done object) =
          ap (λ (l : List ℕ). l ++ x ∷ []) e
          ∙ regroup_value (spelling done) (header_of tag form (length value + k)) value (x ∷ [])
          ∙ ap (λ (m : ℕ). spelling done ++ (header_of tag form m ++ (all ++ []))) full
          ∙ sym (spelling-join done object) in
          stands_done d (left - 1) (join done object) (b ++ x ∷ []) (omega (arith, u.0.depth))
          (proper-join done object d proper (subst (λ (m : ℕ). IsObject d 0 tag form m) full u.0, octets, tt)) is
      | inr more ↦
          let same : length value + k ≡ length all + (k - 1) = omega (arith, u.2) in
          let depth : d ≡ d + 0 = omega arith in
          record {
            rooms = [];
            under = Valued tag form all (k - 1);
            opens =
                record {
                  done = done;
                  proper = proper;
                  is = ap (λ (l : List ℕ). l ++ x ∷ []) e
                      ∙ regroup_part (spelling done) (header_of tag form (length value + k)) value (x ∷ [])
                      ∙ ap (λ (m : ℕ). spelling done ++ (header_of tag form m ++ all)) same;
                };
            ok = (
              subst (λ (j : ℕ). IsObject j 0 tag form (length all + (k - 1))) depth
                  (subst (λ (m : ℕ). IsObject d 0 tag form m) same u.0),
              octets,
              omega (arith, u.2),
            );
            fits = omega arith;
          }
    ]

-- an octet of a header is to come next
abbrev pub IsHeader : Under → Type 0
IsHeader Nothing = Unit {0}
IsHeader (First x) = Unit {0}
IsHeader (Second x y) = Unit {0}
IsHeader (Tagged tag) = Unit {0}
IsHeader (Sized tag form more) = Unit {0}
IsHeader (Valued tag form value left) = ⊥

next_tagged : (d room x : ℕ) (tag : List ℕ) → d ≤ deepest → IsTag tag → Allowed d room tag x → Next d (tag ++ x ∷ [])
next_tagged d room x tag le h a = let b = a.length_form h in next_tagged_form d x tag b.0 b.1 b.2 le h b.3 b.4

next_of : (u : Under) (d room x : ℕ) → IsUnder d u → x < 256 → IsHeader u → Allowed d room (under_octets u) x
    → Next d (under_octets u ++ x ∷ [])
next_of Nothing d room x ok small h a = next_nothing d room x ok small a
next_of (First y) d room x ok small h a = next_first d room y x ok.0 ok.1 ok.2 small a
next_of (Second y z) d room x ok small h a = next_second d room y z x ok.0 ok.1 ok.2 ok.3 ok.4 a
next_of (Tagged tag) d room x ok small h a = next_tagged d room x tag ok.0 ok.1 a
next_of (Sized tag form more) d room x ok small h a = next_sized d x tag form more ok.0 ok.1 ok.2 ok.3 small
next_of (Valued tag form value left) d room x ok small h a = absurd h

step_header : (u : Under) (d left x : ℕ) (b : List ℕ) → d ≤ 17 → EndsIn d (under_octets u) b → IsUnder d u → x < 256
    → IsHeader u → Allowed d left (under_octets u) x → Stands d (left - 1) (b ++ x ∷ [])
step_header u d left x b le ends ok small h a =
    stands_next d left ends.done (under_octets u ++ x ∷ []) (b ++ x ∷ []) le ends.proper
    (ap (λ (l : List ℕ). l ++ x ∷ []) ends.is ∙ append_assoc (spelling ends.done) (under_octets u) (x ∷ []))
    a.room_left (next_of u d left x ok small h a)

step_base : (u : Under) (d left x : ℕ) (b : List ℕ) → d ≤ 17 → EndsIn d (under_octets u) b → IsUnder d u
    → under_need u ≤ left → x < 256 → (IsHeader u → Allowed d left (under_octets u) x)
    → Stands d (left - 1) (b ++ x ∷ [])
step_base Nothing d left x b le ends ok fits small a = step_header Nothing d left x b le ends ok small tt (a tt)
step_base (First y) d left x b le ends ok fits small a = step_header (First y) d left x b le ends ok small tt (a tt)
step_base (Second y z) d left x b le ends ok fits small a =
    step_header (Second y z) d left x b le ends ok small tt (a tt)
step_base (Tagged tag) d left x b le ends ok fits small a =
    step_header (Tagged tag) d left x b le ends ok small tt (a tt)
step_base (Sized tag form more) d left x b le ends ok fits small a =
    step_header (Sized tag form more) d left x b le ends ok small tt (a tt)
step_base (Valued tag form value k) d left x b le ends ok fits small a =
    stands_value d left k ends.done tag form value b x ends.proper ok ends.is fits small

-- the place that is left of a room of nothing
closed_under : (u : Under) (d : ℕ) (b : List ℕ) → EndsIn d (under_octets u) b → IsUnder (d + 0) u → under_need u ≤ 0
    → (done : Tree) × IsProper d done × (b ≡ spelling done)
closed_under Nothing d b ends ok fits = (ends.done, ends.proper, ends.is ∙ append-nil (spelling ends.done))
closed_under (First x) d b ends ok fits = absurd (omega arith)
closed_under (Second x y) d b ends ok fits = absurd (omega arith)
closed_under (Tagged tag) d b ends ok fits = absurd (omega arith)
closed_under (Sized tag form more) d b ends ok fits = absurd (omega (arith, ok.2))
closed_under (Valued tag form value left) d b ends ok fits = absurd (omega (arith, ok.2))

closed_at : (rooms : List ℕ) (d : ℕ) (u : Under) (b : List ℕ) → Opens d rooms (under_octets u) b
    → IsUnder (d + length rooms) u → FitsIn 0 rooms (under_need u) → (done : Tree) × IsProper d done
    × (b ≡ spelling done)
closed_at [] d u b opens ok fits = closed_under u d b opens ok fits
closed_at (room ∷ rooms) d u b opens ok fits = absurd (omega (arith, fits.0, opens.1.open_yet))

closed : (d : ℕ) (b : List ℕ) (s : Stands d 0 b) → (done : Tree) × IsProper d done × (b ≡ spelling done)
closed d b s = closed_at s.rooms d s.under b s.opens s.ok s.fits

step_open : (d left room : ℕ) (value b : List ℕ) (x : ℕ) → d ≤ 17 → OpensOne d room value b → room ≤ left
    → Stands (d + 1) (room - 1) (value ++ x ∷ []) → Stands d (left - 1) (b ++ x ∷ [])
step_open d left room value b x le o fits s =
    let all = value ++ x ∷ [] in
    let len : length all ≡ length value + 1 = length-append value (x ∷ []) in
    elim (cases_eq room 1) [
      | inl last ↦
          let none : room - 1 ≡ 0 = omega arith in
          let c = closed (d + 1) all (subst (λ (k : ℕ). Stands (d + 1) k all) none s) in
          let full : length value + room ≡ length (spelling c.0) = omega (arith, ap length c.2) in
          let object : Tree = Constructed o.tag o.form c.0 End in
          let is : b ++ x ∷ [] ≡ spelling (join o.done object) =
          ap (λ (l : List ℕ). l ++ x ∷ []) o.is
          ∙ regroup_value (spelling o.done) (header_of o.tag o.form (length value + room)) value (x ∷ [])
          ∙ ap (λ (l : List ℕ). spelling o.done ++ (header_of o.tag o.form (length value + room) ++ (l ++ []))) c.2
          ∙ ap (λ (m : ℕ). spelling o.done ++ (header_of o.tag o.form m ++ (spelling c.0 ++ []))) full
          ∙ sym (spelling-join o.done object) in
          stands_done d (left - 1) (join o.done object) (b ++ x ∷ []) le
          (proper-join o.done object d o.proper
          (subst (λ (m : ℕ). IsObject d 1 o.tag o.form m) full o.object, c.1, tt)) is
      | inr more ↦
          let same : length value + room ≡ length all + (room - 1) = omega (arith, o.open_yet) in
          let depth : d + 1 + length s.rooms ≡ d + length ((room - 1) ∷ s.rooms) = omega arith in
          record {
            rooms = (room - 1) ∷ s.rooms;
            under = s.under;
            opens = (
              all,
              record {
                done = o.done;
                proper = o.proper;
                tag = o.tag;
                form = o.form;
                object = subst (λ (m : ℕ). IsObject d 1 o.tag o.form m) same o.object;
                open_yet = omega (arith, o.open_yet);
                is = ap (λ (l : List ℕ). l ++ x ∷ []) o.is
                    ∙ regroup_part (spelling o.done) (header_of o.tag o.form (length value + room)) value (x ∷ [])
                    ∙ ap (λ (m : ℕ). spelling o.done ++ (header_of o.tag o.form m ++ all)) same;
              },
              s.opens,
            );
            ok = subst (λ (k : ℕ). IsUnder k s.under) depth s.ok;
            fits = (omega arith, s.fits);
          }
    ]

-- one octet more leaves open what fits, where an octet of a header is allowed
pub step : (rooms : List ℕ) (d left : ℕ) (u : Under) (b : List ℕ) (x : ℕ) → d ≤ 17 → Opens d rooms (under_octets u) b
    → IsUnder (d + length rooms) u → FitsIn left rooms (under_need u) → x < 256
    → (IsHeader u → Allowed (d + length rooms) (room_of left rooms) (under_octets u) x)
    → Stands d (left - 1) (b ++ x ∷ [])
step [] d left u b x le opens ok fits small a =
    let depth : d + 0 ≡ d = omega arith in
    step_base u d left x b le opens (subst (λ (k : ℕ). IsUnder k u) depth ok) fits small
    (λ h. subst (λ (k : ℕ). Allowed k left (under_octets u) x) depth (a h))
step (room ∷ rooms) d left u b x le opens ok fits small a =
    let value = opens.0 in
    let o = opens.1 in
    let depth : d + length (room ∷ rooms) ≡ d + 1 + length rooms = omega arith in
    let s = step rooms (d + 1) room u value x (omega (arith, o.object.depth)) opens.2
    (subst (λ (k : ℕ). IsUnder k u) depth ok) fits.1 small
    (λ h. subst (λ (k : ℕ). Allowed k (room_of room rooms) (under_octets u) x) depth (a h)) in
    step_open d left room value b x le o fits.0 s
