-- The tree so far, as objects with a short header are taken at once.
use Rattle.std.proofs.Common.{◌≡◌, ℕ, ◌+◌, ◌-◌, ◌<◌, ◌≤◌, List, [], ◌∷◌, ◌++◌, length, take, drop, refl, sym, ap, subst, ◌∙◌, arith, Bool, true, false, cond, zero, suc, inl, inr, append-nil, append_assoc}
use Rattle.std.specs.Prelude.{None}
use Rattle.std.proofs.lemmas.List.{length-take, length-drop}
use Rattle.octet_core.specs.Octets.{AreOctets}
use Rattle.octet_core.proofs.Lists.{octets-take, octets-drop}
use Rattle.tlv_core.specs.declared.form.Form.{Form}
use Rattle.tlv_core.specs.declared.header.ObjectHeader.{ObjectHeader}
use Rattle.tlv_core.specs.declared.short.ShortHeader.{ShortHeader}
use Rattle.tlv_core.specs.Form.{capacity}
use Rattle.tlv_core.specs.Tag.{IsTag, constructed_bit, header_of}
use Rattle.tlv_core.specs.Tree.{Tree, End, Primitive, Constructed}
use Rattle.tlv_core.specs.Forest.{spelling, IsProper, IsObject, deepest}
use Rattle.tlv_core.specs.Reasons.{Kept, HasTaken, room_of}
use Rattle.tlv_core.specs.Short.{MayCome, taken_of, value_in, opened, after_short}
use Rattle.tlv_core.specs.Steps.{spent}
use Rattle.tlv_core.specs.Grown.{Opened, Grown, AreOpen, HasGrown}
use Rattle.tlv_core.specs.Read.{TakesShort, entering}
use Rattle.tlv_core.proofs.One.{join}
use Rattle.tlv_core.proofs.Stands.{FitsIn, fits_need}
use Rattle.tlv_core.proofs.Steps.{fits_more}
use Rattle.tlv_core.proofs.Taken.{held_of}
use Rattle.tlv_core.proofs.Ends.{kept}
use Rattle.tlv_core.proofs.Shorts.{primitive_spelled}
use Rattle.tlv_core.proofs.Growing.{ClosingSome, item_grown, all_stay, open_last}
use Rattle.tlv_core.proofs.Grows.{AtHeader, at_header, step_fits, IsWholeItem}

-- after these octets a header of m octets fits that says n
pub record Fits (b : List ℕ) (k : Kept) (m n : ℕ) (tag : List ℕ) (form : Form) (outer : List Opened) (list : Tree) :
    Type 0 where
  pub none : k.header ≡ []
  pub count : length b ≡ k.count
  pub deep : 1 + length k.rooms ≤ deepest
  pub is_tag : IsTag tag
  pub small : n < capacity form
  pub len : length (header_of tag form n) ≡ m
  pub fits : FitsIn (k.max - length b) k.rooms (m + n)
  pub at : AtHeader b k outer list

-- where an object with a short header may come, its header and its value fit
pub short_fits : (b octets : List ℕ) (k : Kept) (o : ShortHeader) (g : Grown) → HasTaken b k → MayCome k octets o
    → HasGrown b k g → Fits b k o.header o.len o.tag o.form g.opened g.list
short_fits b octets k o g taken may h =
    let short = may.short in
    let len : length (header_of o.tag o.form o.len) ≡ o.header =
    omega (arith, ap length short.is, length-take o.header octets, short.within) in
    let room : o.header + o.len ≤ room_of (k.max - length b) k.rooms =
    subst (λ (c : ℕ). o.header + o.len ≤ room_of (k.max - c) k.rooms) (sym taken.count) may.room in
    record {
      none = may.nothing;
      count = taken.count;
      deep = omega (arith, may.shallow);
      is_tag = short.is_tag;
      small = short.fits;
      len = len;
      fits = step_fits b k (held_of b k taken) (o.header + o.len) room;
      at = at_header b k g h may.idle;
    }

-- an object that is taken whole
pub item_added : (b : List ℕ) (k : Kept) (m n taken : ℕ) (add tag : List ℕ) (form : Form) (outer : List Opened)
    (list item : Tree) → Fits b k m n tag form outer list → taken ≤ m + n → length add ≡ taken → add ≡ spelling item
    → IsProper (1 + length k.rooms) item
    → ClosingSome (b ++ add) (spent taken k.rooms) outer (join list item)
item_added b k m n taken add tag form outer list item h le len is proper =
    let fits : FitsIn (k.max - length b) k.rooms taken =
    fits_more (k.max - length b) k.rooms (m + n) taken h.fits
    (omega (arith, le, fits_need k.rooms (k.max - length b) (m + n) h.fits)) in
    item_grown outer k.rooms list k.header b taken (k.max - length b) add item h.at.opened_yet h.at.proper len fits
    (ap (λ (l : List ℕ). l ++ add) h.none ∙ is) proper

-- an object that is open once its header was taken
pub open_added : (b : List ℕ) (k : Kept) (m n : ℕ) (add tag : List ℕ) (form : Form) (outer : List Opened) (list : Tree)
    → Fits b k m n tag form outer list → 0 < n → length add ≡ m → add ≡ header_of tag form n → constructed_bit tag ≡ 1
    → HasGrown (b ++ add) (kept k.max (k.count + m) (spent m k.rooms ++ n ∷ []) [] 0)
    (record {
      opened = outer ++ record { before = list; tag = tag; form = form; len = n } ∷ [];
      list = End;
      value =
          None;
    })
open_added b k m n add tag form outer list h some len is bit =
    let q : Opened = record { before = list; tag = tag; form = form; len = n } in
    let s = all_stay outer k.rooms (spelling list ++ k.header) b m (k.max - length b) n add h.at.opened_yet len some
    h.fits in
    let octets : (spelling list ++ k.header) ++ add ≡ spelling list ++ header_of tag form n =
    append_assoc (spelling list) k.header add
    ∙ ap (λ (l : List ℕ). spelling list ++ l) (ap (λ (l : List ℕ). l ++ add) h.none ∙ is) in
    let object : IsObject (1 + length k.rooms) 1 tag form n =
    record { depth = h.deep; is_tag = h.is_tag; is_bit = bit; fits = h.small } in
    let proper_now : IsProper (1 + length (spent m k.rooms)) list =
    subst (λ (j : ℕ). IsProper (1 + j) list) (sym s.level) h.at.proper in
    let object_now : IsObject (1 + length (spent m k.rooms)) 1 tag form n =
    subst (λ (j : ℕ). IsObject (1 + j) 1 tag form n) (sym s.level) object in
    record {
      opened = open_last outer (spent m k.rooms) 1 q (b ++ add) proper_now object_now
          (subst (λ (l : List ℕ). AreOpen 1 outer (spent m k.rooms) l (b ++ add)) octets s.opened_yet);
      proper =
          tt;
      under = refl;
    }

-- ---- by the kinds of objects

two_bits : (n : ℕ) → n ≡ 0 → n ≡ 1 → ⊥
two_bits n z o = omega (arith, z, o)

-- the octets of the value
same_value : (octets : List ℕ) (m n : ℕ) → take (m + n - m) (drop m octets) ≡ take n (drop m octets)
same_value octets m n = ap (λ (j : ℕ). take j (drop m octets)) (omega arith)

kind_item : (b octets : List ℕ) (k : Kept) (m n : ℕ) (c : Bool) (o : ObjectHeader) (outer : List Opened)
    (list item : Tree) → Fits b k m n o.tag o.form outer list → AreOctets octets → constructed_bit o.tag ≡ cond c 1 0
    → cond c m (m + n) ≤ length octets → take m octets ≡ header_of o.tag o.form n
    → opened c n ≡ [] → IsWholeItem o (take (cond c m (m + n) - m) (drop m octets)) item
    → ClosingSome (b ++ take (cond c m (m + n)) octets) (spent (cond c m (m + n)) k.rooms ++ opened c n) outer
    (join list item)
kind_item b octets k m n false o outer list item h are bit inside is none (inl e) =
    let value : List ℕ = take n (drop m octets) in
    let len : length value ≡ n = omega (arith, length-take n (drop m octets), length-drop m octets) in
    let object : IsObject (1 + length k.rooms) 0 o.tag o.form n =
    record { depth = h.deep; is_tag = h.is_tag; is_bit = bit; fits = h.small } in
    let item_is : Primitive o.tag o.form value End ≡ item =
    ap (λ (v : List ℕ). Primitive o.tag o.form v End) (sym (same_value octets m n)) ∙ sym e.1 in
    subst (λ (rooms : List ℕ). ClosingSome (b ++ take (m + n) octets) rooms outer (join list item))
    (sym (append-nil (spent (m + n) k.rooms)))
    (subst (λ (i : Tree). ClosingSome (b ++ take (m + n) octets) (spent (m + n) k.rooms) outer (join list i)) item_is
    (item_added b k m n (m + n) (take (m + n) octets) o.tag o.form outer list (Primitive o.tag o.form value End) h
    (omega arith) (omega (arith, length-take (m + n) octets)) (primitive_spelled octets m n o.tag o.form inside is) (
      subst (IsObject (1 + length k.rooms) 0 o.tag o.form) (sym len) object,
      octets-take n (drop m octets) (octets-drop m octets are),
      tt,
    )))
kind_item b octets k m n false o outer list item h are bit inside is none (inr e) =
    absurd (two_bits (constructed_bit o.tag) bit e.0)
kind_item b octets k m n true o outer list item h are bit inside is none (inl e) =
    absurd (two_bits (constructed_bit o.tag) e.0 bit)
kind_item b octets k m zero true o outer list item h are bit inside is none (inr e) =
    let object : IsObject (1 + length k.rooms) 1 o.tag o.form 0 =
    record { depth = h.deep; is_tag = h.is_tag; is_bit = bit; fits = h.small } in
    subst (λ (rooms : List ℕ). ClosingSome (b ++ take m octets) rooms outer (join list item))
    (sym (append-nil (spent m k.rooms)))
    (subst (λ (i : Tree). ClosingSome (b ++ take m octets) (spent m k.rooms) outer (join list i)) (sym e.1)
    (item_added b k m 0 m (take m octets) o.tag o.form outer list (Constructed o.tag o.form End End) h (omega arith)
    (omega (arith, length-take m octets)) (is ∙ sym (append-nil (header_of o.tag o.form 0))) (object, tt, tt)))
kind_item b octets k m (suc n) true o outer list item h are bit inside is none (inr e) =
    absurd (omega (arith, ap length none))

kind_open : (b octets : List ℕ) (k : Kept) (m n : ℕ) (c : Bool) (o : ObjectHeader) (outer : List Opened) (list : Tree)
    (room : ℕ) → Fits b k m n o.tag o.form outer list → o.len ≡ n → constructed_bit o.tag ≡ cond c 1 0
    → cond c m (m + n) ≤ length octets → take m octets ≡ header_of o.tag o.form n
    → opened c n ≡ room ∷ [] → HasGrown (b ++ take (cond c m (m + n)) octets)
    (kept k.max (k.count + cond c m (m + n)) (spent (cond c m (m + n)) k.rooms ++ opened c n) [] 0)
    (record {
      opened = outer ++ record { before = list; tag = o.tag; form = o.form; len = o.len } ∷ [];
      list =
          End;
      value = None;
    })
kind_open b octets k m n false o outer list room h same bit inside is some = absurd (omega (arith, ap length some))
kind_open b octets k m zero true o outer list room h same bit inside is some = absurd (omega (arith, ap length some))
kind_open b octets k m (suc n) true o outer list room h same bit inside is some =
    let now = open_added b k m (suc n) (take m octets) o.tag o.form outer list h (omega arith)
    (omega (arith, length-take m octets)) is bit in
    subst (λ (l : ℕ). HasGrown (b ++ take m octets) (kept k.max (k.count + m) (spent m k.rooms ++ suc n ∷ []) [] 0)
    (record {
      opened = outer ++ record { before = list; tag = o.tag; form = o.form; len = l } ∷ [];
      list =
          End;
      value = None;
    })) (sym same) now

-- what a short header says of its object
abbrev pub object_of : ShortHeader → ObjectHeader
object_of o = record { tag = o.tag; form = o.form; len = o.len }

-- an object with a short header is whole
pub short_item : (b octets : List ℕ) (k : Kept) (o : ShortHeader) (g : Grown) (item : Tree) → TakesShort b k octets o g
    → opened o.is_constructed o.len ≡ [] → IsWholeItem (object_of o) (value_in octets o) item
    → ClosingSome (b ++ take (taken_of o) octets) (after_short k o).rooms g.opened (join g.list item)
short_item b octets k o g item t none is =
    let short = t.may.short in
    kind_item b octets k o.header o.len o.is_constructed (object_of o) g.opened g.list item
    (short_fits b octets k o g t.taken t.may t.grown) t.are short.bit t.may.here short.is none is

-- or it is open
pub short_open : (b octets : List ℕ) (k : Kept) (o : ShortHeader) (g : Grown) (room : ℕ) → TakesShort b k octets o g
    → opened o.is_constructed o.len ≡ room ∷ []
    → HasGrown (b ++ take (taken_of o) octets) (after_short k o) (entering g (object_of o))
short_open b octets k o g room t some =
    let short = t.may.short in
    kind_open b octets k o.header o.len o.is_constructed (object_of o) g.opened g.list room
    (short_fits b octets k o g t.taken t.may t.grown) refl short.bit t.may.here short.is some
