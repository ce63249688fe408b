-- The parts of a forest so far, as objects with a short header are taken at once.
use Rattle.std.proofs.Common.{◌≡◌, ℕ, ◌+◌, ◌<◌, ◌≤◌, List, [], ◌∷◌, ◌++◌, length, take, drop, refl, sym, ap, subst, ◌∙◌, arith, Bool, true, false, cond, zero, suc, append-nil}
use Rattle.std.specs.Prelude.{None}
use Rattle.std.proofs.lemmas.List.{length-take, length-drop}
use Rattle.octet_core.specs.Octets.{AreOctets}
use Rattle.octet_core.proofs.Lists.{octets-take, octets-drop}
use Rattle.tlv_core.specs.declared.form.Form.{Form}
use Rattle.tlv_core.specs.declared.short.ShortHeader.{ShortHeader}
use Rattle.tlv_core.specs.Tag.{constructed_bit, header_of}
use Rattle.tlv_core.specs.Tree.{Tree, End, Primitive, Constructed}
use Rattle.tlv_core.specs.Forest.{spelling, IsProper, IsObject}
use Rattle.tlv_core.specs.Parts.{Placed, preorder, value_place}
use Rattle.tlv_core.specs.Reasons.{Kept, HasTaken}
use Rattle.tlv_core.specs.Short.{MayCome, taken_of, opened, after_short}
use Rattle.tlv_core.specs.Steps.{spent}
use Rattle.tlv_core.specs.Grown.{Opened, Grown, HasGrown}
use Rattle.tlv_core.specs.Flat.{placed_at, placed_list, placed, HasGiven}
use Rattle.tlv_core.proofs.One.{join}
use Rattle.tlv_core.proofs.Ends.{kept}
use Rattle.tlv_core.proofs.Fed.{take_taken_more}
use Rattle.tlv_core.proofs.Shorts.{primitive_spelled, short_taken}
use Rattle.tlv_core.proofs.Entering.{Fits, item_added, open_added, short_fits}
use Rattle.tlv_core.proofs.Growing.{open_length}
use Rattle.tlv_core.proofs.Placing.{inner_place, inner_place-is, inside, placed-more, placed-last, preorder-join}
use Rattle.tlv_core.proofs.Flattening.{Grew, All, closed_grew, none_placed}
use Rattle.tlv_core.proofs.Walked.{given_grew}

-- its object, at the depth of the innermost list
abbrev pub added : Kept → ℕ → ℕ → List ℕ → Form → List Placed
added k m n tag form = record { depth = 1 + length k.rooms; tag = tag; form = form; place = k.count + m; len = n } ∷ []

-- the place after the header
value_at : (b : List ℕ) (k : Kept) (m n : ℕ) (tag : List ℕ) (form : Form) (outer : List Opened) (list : Tree)
    → Fits b k m n tag form outer list → value_place (inner_place 0 outer + length (spelling list)) tag form n ≡ k.count
    + m
value_at b k m n tag form outer list h =
    let bare : length (spelling list ++ k.header) ≡ length (spelling list) =
    ap (λ (l : List ℕ). length (spelling list ++ l)) h.none ∙ ap length (append-nil (spelling list)) in
    omega (arith, inner_place-is outer k.rooms 1 0 (spelling list ++ k.header) b h.at.opened_yet, bare, h.len, h.count)

object_at : (b : List ℕ) (k : Kept) (m n : ℕ) (tag : List ℕ) (form : Form) (outer : List Opened) (list : Tree)
    → Fits b k m n tag form outer list
    → placed_at (1 + length outer) (inner_place 0 outer + length (spelling list)) tag form n ∷ [] ≡ added k m n tag form
object_at b k m n tag form outer list h =
    let place = inner_place 0 outer + length (spelling list) in
    ap (λ (d : ℕ). placed_at (1 + d) place tag form n ∷ [])
    (open_length outer k.rooms 1 (spelling list ++ k.header) b h.at.opened_yet)
    ∙ ap (λ (p : ℕ). record { depth = 1 + length k.rooms; tag = tag; form = form; place = p; len = n } ∷ [])
    (value_at b k m n tag form outer list h)

-- an object that is taken whole: its item is placed after the list
item_placed : (list item : Tree) (tag : List ℕ) (form : Form) (n d place : ℕ)
    → ((at : ℕ) → preorder d at item ≡ placed_at d at tag form n ∷ [])
    → placed_list (join list item) None d place ≡ placed_list list None d place
    ++ placed_at d (place + length (spelling list)) tag form n ∷ []
item_placed list item tag form n d place one =
    let p = placed_at d (place + length (spelling list)) tag form n ∷ [] in
    append-nil (preorder d place (join list item)) ∙ preorder-join list item d place
    ∙ ap (λ (l : List Placed). preorder d place list ++ l) (one (place + length (spelling list)))
    ∙ ap (λ (l : List Placed). l ++ p) (sym (append-nil (preorder d place list)))

item_grew : (b : List ℕ) (k : Kept) (m n taken : ℕ) (add tag : List ℕ) (form : Form) (outer : List Opened)
    (list item : Tree) → Fits b k m n tag form outer list → taken ≤ m + n → length add ≡ taken → add ≡ spelling item
    → IsProper (1 + length k.rooms) item
    → ((d at : ℕ) → preorder d at item ≡ placed_at d at tag form n ∷ [])
    → Grew (b ++ add) (kept k.max (k.count + taken) (spent taken k.rooms ++ []) [] 0)
    (All outer list ++ added k m n tag form)
item_grew b k m n taken add tag form outer list item h le len is proper one =
    let d = 1 + length outer in
    let place = inner_place 0 outer in
    let p = placed_at d (place + length (spelling list)) tag form n ∷ [] in
    let all = placed-more outer 1 0 (placed_list (join list item) None) (placed_list list None) p
    (item_placed list item tag form n d place (one d)) in
    let some = item_added b k m n taken add tag form outer list item h le len is proper in
    subst (λ (rooms : List ℕ). Grew (b ++ add) (kept k.max (k.count + taken) rooms [] 0)
    (All outer list ++ added k m n tag form)) (sym (append-nil (spent taken k.rooms)))
    (
    closed_grew (b ++ add) (kept k.max (k.count + taken) (spent taken k.rooms) [] 0) outer (join list item)
    (All outer list ++ added k m n tag form) refl refl some
    (all ∙ ap (λ (l : List Placed). All outer list ++ l) (object_at b k m n tag form outer list h))
    )

-- an object that is open once its header was taken
open_grew : (b : List ℕ) (k : Kept) (m n : ℕ) (add tag : List ℕ) (form : Form) (outer : List Opened) (list : Tree)
    → Fits b k m n tag form outer list → 0 < n → length add ≡ m → add ≡ header_of tag form n → constructed_bit tag ≡ 1
    → Grew (b ++ add) (kept k.max (k.count + m) (spent m k.rooms ++ n ∷ []) [] 0)
    (All outer list ++ added k m n tag form)
open_grew b k m n add tag form outer list h some len is bit =
    let q : Opened = record { before = list; tag = tag; form = form; len = n } in
    let d = 1 + length outer in
    let place = inner_place 0 outer in
    let p = placed_at d (place + length (spelling list)) tag form n ∷ [] in
    let all = placed-more outer 1 0 (inside q (placed_list End None)) (placed_list list None) p
    (ap (λ (l : List Placed). l ++ p) (sym (append-nil (preorder d place list)))) in
    record {
      tree = record { opened = outer ++ q ∷ []; list = End; value = None };
      grown = open_added b k m n add tag form outer list h some len is bit;
      placed_is = placed-last outer 1 0 q (placed_list End None) ∙ all
          ∙ ap (λ (l : List Placed). All outer list ++ l) (object_at b k m n tag form outer list h);
    }

-- so it is with each kind of object
kind_grew : (b octets : List ℕ) (k : Kept) (m n : ℕ) (c : Bool) (tag : List ℕ) (form : Form) (outer : List Opened)
    (list : Tree) → Fits b k m n tag form outer list → AreOctets octets → constructed_bit tag ≡ cond c 1 0
    → cond c m (m + n) ≤ length octets → take m octets ≡ header_of tag form n
    → Grew (b ++ take (cond c m (m + n)) octets)
    (kept k.max (k.count + cond c m (m + n)) (spent (cond c m (m + n)) k.rooms ++ opened c n) [] 0)
    (All outer list ++ added k m n tag form)
kind_grew b octets k m n false tag form outer list h are bit inside is =
    let value : List ℕ = take n (drop m octets) in
    let len : length value ≡ n = omega (arith, length-take n (drop m octets), length-drop m octets) in
    let object : IsObject (1 + length k.rooms) 0 tag form n =
    record { depth = h.deep; is_tag = h.is_tag; is_bit = bit; fits = h.small } in
    item_grew b k m n (m + n) (take (m + n) octets) tag form outer list (Primitive tag form value End) h (omega arith)
    (omega (arith, length-take (m + n) octets)) (primitive_spelled octets m n tag form inside is) (
      subst (IsObject (1 + length k.rooms) 0 tag form) (sym len) object,
      octets-take n (drop m octets) (octets-drop m octets are),
      tt,
    )
    (λ d at. ap (λ (j : ℕ). placed_at d at tag form j ∷ []) len)
kind_grew b octets k m zero true tag form outer list h are bit inside is =
    let object : IsObject (1 + length k.rooms) 1 tag form 0 =
    record { depth = h.deep; is_tag = h.is_tag; is_bit = bit; fits = h.small } in
    item_grew b k m 0 m (take m octets) tag form outer list (Constructed tag form End End) h (omega arith)
    (omega (arith, length-take m octets)) (is ∙ sym (append-nil (header_of tag form 0))) (object, tt, tt)
    (λ d at. refl)
kind_grew b octets k m (suc n) true tag form outer list h are bit inside is =
    open_grew b k m (suc n) (take m octets) tag form outer list h (omega arith) (omega (arith, length-take m octets)) is
    bit

-- the tree after an object with a short header, and what is placed in it
at_once_grew : (b octets : List ℕ) (k : Kept) (o : ShortHeader) (g : Grown) → HasTaken b k → MayCome k octets o
    → AreOctets octets → HasGrown b k g
    → Grew (b ++ take (taken_of o) octets) (after_short k o)
    (placed g ++ added k o.header o.len o.tag o.form)
at_once_grew b octets k o g taken may are h =
    let short = may.short in
    let fits = short_fits b octets k o g taken may h in
    subst (λ (l : List Placed). Grew (b ++ take (taken_of o) octets) (after_short k o)
    (l ++ added k o.header o.len o.tag o.form)) (sym (none_placed b k g h may.idle))
    (kind_grew b octets k o.header o.len o.is_constructed o.tag o.form g.opened g.list fits are short.bit
    may.here short.is)

-- the parts so far, with that of the object
pub given_at_once : (b : List ℕ) (k : Kept) (parts : List Placed) (o : ShortHeader) → AreOctets b
    → MayCome k (drop k.count b) o → HasGiven b k parts
    → HasGiven b (after_short k o) (parts ++ added k o.header o.len o.tag o.form)
given_at_once b k parts o octets may h =
    let rest = drop k.count b in
    let are : AreOctets rest = octets-drop k.count b octets in
    let now = take k.count b in
    let more = added k o.header o.len o.tag o.form in
    given_grew b (after_short k o) (now ++ take (taken_of o) rest) (placed h.tree ++ more) (parts ++ more)
    (omega (arith, may.here, length-drop k.count b, h.within)) (take_taken_more k.count (taken_of o) b)
    (short_taken now rest k o may are h.taken)
    (at_once_grew now rest k o h.tree h.taken may are h.grown)
    (ap (λ (l : List Placed). l ++ more) h.are)
