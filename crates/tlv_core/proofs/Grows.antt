-- What each step of a check makes of the tree so far.
use Rattle.std.proofs.Common.{◌≡◌, ◌⊎◌, ℕ, ◌+◌, ◌-◌, ◌<◌, ◌≤◌, List, [], ◌∷◌, ◌++◌, length, refl, sym, ap, subst, ◌∙◌, inl, inr, arith, zero, suc, append-nil, append_assoc, length-append}
use Rattle.std.specs.Prelude.{Option, Some, None}
use Rattle.octet_core.specs.Octets.{AreOctets}
use Rattle.octet_core.proofs.Lists.{octets-append, regroup}
use Rattle.tlv_core.specs.declared.header.Header.{Header}
use Rattle.tlv_core.specs.declared.header.ObjectHeader.{ObjectHeader}
use Rattle.tlv_core.specs.declared.header.Next.TheVariants as next
use Rattle.tlv_core.specs.Tag.{constructed_bit, header_of}
use Rattle.tlv_core.specs.Tree.{Tree, End, Filler, Primitive, Constructed}
use Rattle.tlv_core.specs.Forest.{spelling, IsProper, IsObject, IsForest, deepest}
use Rattle.tlv_core.specs.Header.{header_octets, header_need}
use Rattle.tlv_core.specs.Reasons.{Kept, HasTaken, IsIdle, room_of}
use Rattle.tlv_core.specs.Steps.{spent, after_octet, entered, after_next, after_run, IsStep}
use Rattle.tlv_core.specs.Grown.{Opened, ValueSoFar, Grown, AreOpen, under_way, IsUnderWay, HasGrown}
use Rattle.tlv_core.proofs.Numbers.{octets_nil}
use Rattle.tlv_core.proofs.One.{join}
use Rattle.tlv_core.proofs.Stands.{Under, Nothing, First, Second, Tagged, Sized, Valued, under_need, FitsIn}
use Rattle.tlv_core.proofs.Steps.{fits_more}
use Rattle.tlv_core.proofs.Taken.{kept_at, Held, held_of}
use Rattle.tlv_core.proofs.Taking.{some_need}
use Rattle.tlv_core.proofs.Advances.{before_of, depth_of, object_not_filler}
use Rattle.tlv_core.proofs.Growing.{ClosingSome, item_grown, Stays, all_stay, open_last}

-- ---- before an octet of a header

-- what was taken, where no value is under way
pub record AtHeader (b : List ℕ) (k : Kept) (opened : List Opened) (list : Tree) : Type 0 where
  pub opened_yet : AreOpen 1 opened k.rooms (spelling list ++ k.header) b
  pub proper : IsProper (1 + length k.rooms) list

-- where no octet of a value is to come, none is under way
pub none_under : (d : ℕ) (value : Option ValueSoFar) (header : List ℕ) (left : ℕ) → IsUnderWay d value header left
    → left ≡ 0 → value ≡ None
none_under d None header left h z = refl
none_under d (Some v) header left h z = absurd (omega (arith, h.3))

-- and then the octets are those of the tree so far and of the header under way
pub at_header : (b : List ℕ) (k : Kept) (g : Grown) → HasGrown b k g → k.value_left ≡ 0 → AtHeader b k g.opened g.list
at_header b k g h z =
    let none = none_under (1 + length k.rooms) g.value k.header k.value_left h.under z in
    record {
      opened_yet = subst (λ (v : Option ValueSoFar).
          AreOpen 1 g.opened k.rooms (spelling g.list ++ under_way v k.header) b) none h.opened;
      proper = h.proper;
    }

-- the tree where no value is under way
pub none_kept : (b : List ℕ) (k : Kept) (g : Grown) → HasGrown b k g → k.value_left ≡ 0
    → g ≡ record { opened = g.opened; list = g.list; value = None }
none_kept b k g h z = ap (λ (v : Option ValueSoFar). record { opened = g.opened; list = g.list; value = v })
    (none_under (1 + length k.rooms) g.value k.header k.value_left h.under z)

-- what fits into the innermost room fits into each room
pub step_fits : (b : List ℕ) (k : Kept) (s : Held b k) (m : ℕ) → m ≤ room_of (k.max - length b) k.rooms
    → FitsIn (k.max - length b) k.rooms m
step_fits b k s m le = fits_more (k.max - length b) k.rooms _ m s.fits le

-- ---- after it

-- a filler is added to the innermost list, and then objects are to be closed, or none
pub filler_grown : (b : List ℕ) (k : Kept) (x : ℕ) (opened : List Opened) (list : Tree) → HasTaken b k
    → k.value_left ≡ 0 → IsStep k x next.Filler → AtHeader b k opened list
    → ClosingSome (b ++ x ∷ []) (spent 1 k.rooms) opened (join list (Filler End))
filler_grown b k x opened list taken z step h =
    let p = before_of b k x next.Filler taken z step in
    let octets : k.header ++ x ∷ [] ≡ 0 ∷ [] =
    ap (λ (l : List ℕ). l ++ x ∷ []) step.follows.0 ∙ ap (λ (y : ℕ). y ∷ []) step.follows.1 in
    item_grown opened k.rooms list k.header b 1 (k.max - length b) (x ∷ []) (Filler End) h.opened_yet h.proper refl
    (step_fits b k p.held 1 (omega (arith, p.room))) octets tt

-- while a header is under way the tree stays the same
pub under_grown : (b : List ℕ) (k : Kept) (x : ℕ) (longer : Header) (opened : List Opened) (list : Tree) → HasTaken b k
    → k.value_left ≡ 0 → IsStep k x (next.Under longer) → AtHeader b k opened list
    → HasGrown (b ++ x ∷ []) (after_next k (next.Under longer)) (record { opened = opened; list = list; value = None })
under_grown b k x longer opened list taken z step h =
    let p = before_of b k x (next.Under longer) taken z step in
    let some : 0 < header_need longer = some_need longer step.follows.0
    (λ none. omega (arith, ap length (sym step.follows.1 ∙ none), length-append k.header (x ∷ []))) in
    let s = all_stay opened k.rooms (spelling list ++ k.header) b 1 (k.max - length b) (header_need longer) (x ∷ [])
    h.opened_yet refl some (step_fits b k p.held (1 + header_need longer) (omega (arith, p.room))) in
    let octets : (spelling list ++ k.header) ++ x ∷ [] ≡ spelling list ++ header_octets longer =
    append_assoc (spelling list) k.header (x ∷ []) ∙ ap (λ (l : List ℕ). spelling list ++ l) (sym step.follows.1) in
    record {
      opened = subst (λ (l : List ℕ). AreOpen 1 opened (spent 1 k.rooms) l (b ++ x ∷ [])) octets s.opened_yet;
      proper = subst (λ (n : ℕ). IsProper (1 + n) list) (sym s.level) h.proper;
      under = refl;
    }

-- ---- the header of an object is whole

-- an object may be at this depth, and the last octet of its header and its value fit
pub record AtObject (b : List ℕ) (k : Kept) (x : ℕ) (o : ObjectHeader) : Type 0 where
  pub deep : 1 + length k.rooms ≤ deepest
  pub fits : FitsIn (k.max - length b) k.rooms (1 + o.len)

-- so it is where an octet that may come makes a header whole
pub at_object : (b : List ℕ) (k : Kept) (x : ℕ) (o : ObjectHeader) → HasTaken b k → k.value_left ≡ 0
    → IsStep k x (next.Object o) → AtObject b k x o
at_object b k x o taken z step =
    let p = before_of b k x (next.Object o) taken z step in
    record {
      deep = depth_of b k x (next.Object o) p step
          (object_not_filler k.header x o.tag o.form o.len step.follows.0 step.follows.2);
      fits =
          step_fits b k p.held (1 + o.len) (omega (arith, p.room));
    }

-- and then it is an object, of the kind that bit 6 of its tag says
pub object_is : (b : List ℕ) (k : Kept) (x : ℕ) (o : ObjectHeader) (bit : ℕ) → AtObject b k x o
    → IsStep k x (next.Object o) → constructed_bit o.tag ≡ bit → IsObject (1 + length k.rooms) bit o.tag o.form o.len
object_is b k x o bit at step e = record { depth = at.deep; is_tag = step.follows.0; is_bit = e; fits = step.follows.1 }

-- an object that is whole: a primitive one with this value, or a constructed one that is empty
abbrev pub IsWholeItem : ObjectHeader → List ℕ → Tree → Type 0
IsWholeItem o value item = ((constructed_bit o.tag ≡ 0) × (item ≡ Primitive o.tag o.form value End))
    ⊎ ((constructed_bit o.tag ≡ 1) × (item ≡ Constructed o.tag o.form End End))

empty_item : (d : ℕ) (o : ObjectHeader) (item : Tree) → IsWholeItem o [] item
    → ((bit : ℕ) → constructed_bit o.tag ≡ bit → IsObject d bit o.tag o.form 0) → IsProper d item
    × (header_of o.tag o.form 0 ≡ spelling item)
empty_item d o item (inl e) object = (
  subst (IsProper d) (sym e.1) (object 0 e.0, octets_nil, tt),
  sym (append-nil (header_of o.tag o.form 0)) ∙ ap spelling (sym e.1),
)
empty_item d o item (inr e) object = (
  subst (IsProper d) (sym e.1) (object 1 e.0, tt, tt),
  sym (append-nil (header_of o.tag o.form 0)) ∙ ap spelling (sym e.1),
)

-- an object whose value is empty is whole, and is added to the innermost list
pub empty_grown : (b : List ℕ) (k : Kept) (x : ℕ) (o : ObjectHeader) (item : Tree) (opened : List Opened) (list : Tree)
    → HasTaken b k → k.value_left ≡ 0 → IsStep k x (next.Object o) → o.len ≡ 0 → IsWholeItem o [] item
    → AtHeader b k opened list
    → ClosingSome (b ++ x ∷ []) (spent 1 k.rooms) opened (join list item)
empty_grown b k x o item opened list taken z step none is h =
    let at = at_object b k x o taken z step in
    let fits : FitsIn (k.max - length b) k.rooms 1 =
    subst (λ (n : ℕ). FitsIn (k.max - length b) k.rooms (1 + n)) none at.fits in
    let i = empty_item (1 + length k.rooms) o item is
    (λ bit e. subst (IsObject (1 + length k.rooms) bit o.tag o.form) none (object_is b k x o bit at step e)) in
    let octets : k.header ++ x ∷ [] ≡ spelling item = sym step.follows.2 ∙ ap (header_of o.tag o.form) none ∙ i.1 in
    item_grown opened k.rooms list k.header b 1 (k.max - length b) (x ∷ []) item h.opened_yet h.proper refl fits octets
    i.0

-- the octets after the list, where the header is whole
header_stays : (b : List ℕ) (k : Kept) (x : ℕ) (o : ObjectHeader) (opened : List Opened) (list : Tree)
    → AtObject b k x o → IsStep k x (next.Object o) → 0 < o.len → AtHeader b k opened list
    → Stays opened (spent 1 k.rooms) (spelling list ++ header_of o.tag o.form o.len) (b ++ x ∷ []) (length k.rooms)
header_stays b k x o opened list at step some h =
    let s = all_stay opened k.rooms (spelling list ++ k.header) b 1 (k.max - length b) o.len (x ∷ []) h.opened_yet refl
    some at.fits in
    let octets : (spelling list ++ k.header) ++ x ∷ [] ≡ spelling list ++ header_of o.tag o.form o.len =
    append_assoc (spelling list) k.header (x ∷ []) ∙ ap (λ (l : List ℕ). spelling list ++ l) (sym step.follows.2) in
    record {
      opened_yet = subst (λ (l : List ℕ). AreOpen 1 opened (spent 1 k.rooms) l (b ++ x ∷ [])) octets
          s.opened_yet;
      level = s.level;
    }

entered_value : (k : Kept) (n bit : ℕ) → 0 < n → bit ≡ 0
    → record { max = k.max; count = k.count; rooms = k.rooms; header = k.header; value_left = n } ≡ entered k n bit
entered_value k zero bit some e = absurd (omega arith)
entered_value k (suc n) zero some e = refl
entered_value k (suc n) (suc bit) some e = absurd (omega arith)

entered_open : (k : Kept) (n bit : ℕ) → 0 < n → bit ≡ 1
    → record { max = k.max; count = k.count; rooms = k.rooms ++ n ∷ []; header = k.header; value_left = k.value_left } ≡
    entered k n bit
entered_open k zero bit some e = absurd (omega arith)
entered_open k (suc n) zero some e = absurd (omega arith)
entered_open k (suc n) (suc bit) some e = refl

entered_none : (k : Kept) (n bit : ℕ) → n ≡ 0 → k ≡ entered k n bit
entered_none k zero bit e = refl
entered_none k (suc n) bit e = absurd (omega arith)

-- where the value is empty, nothing is under way after the header
pub empty_kept : (k : Kept) (o : ObjectHeader) → o.len ≡ 0 → after_octet k [] ≡ after_next k (next.Object o)
empty_kept k o e = entered_none (after_octet k []) o.len (constructed_bit o.tag) e

-- the value of a primitive object is under way, with no octets yet
pub value_grown : (b : List ℕ) (k : Kept) (x : ℕ) (o : ObjectHeader) (opened : List Opened) (list : Tree) → HasTaken b k
    → k.value_left ≡ 0 → IsStep k x (next.Object o) → 0 < o.len → constructed_bit o.tag ≡ 0 → AtHeader b k opened list
    → HasGrown (b ++ x ∷ []) (after_next k (next.Object o))
    (record {
      opened = opened;
      list = list;
      value =
          Some (record { tag = o.tag; form = o.form; len = o.len; octets = [] });
    })
value_grown b k x o opened list taken z step some bit h =
    let at = at_object b k x o taken z step in
    let s = header_stays b k x o opened list at step some h in
    let g : Grown = record {
      opened = opened;
      list = list;
      value =
          Some (record { tag = o.tag; form = o.form; len = o.len; octets = [] });
    } in
    subst (λ (l : Kept). HasGrown (b ++ x ∷ []) l g)
    (entered_value (after_octet k []) o.len (constructed_bit o.tag) some bit)
    (record {
      opened = subst (λ (l : List ℕ). AreOpen 1 opened (spent 1 k.rooms) (spelling list ++ l) (b ++ x ∷ []))
          (sym (append-nil (header_of o.tag o.form o.len))) s.opened_yet;
      proper = subst (λ (n : ℕ). IsProper (1 + n) list) (sym s.level) h.proper;
      under = (
        refl,
        subst (λ (n : ℕ). IsObject (1 + n) 0 o.tag o.form o.len) (sym s.level)
            (object_is b k x o 0 at step bit),
        octets_nil,
        some,
        omega arith,
      );
    })

-- a constructed object is open, with an empty list inside
pub open_grown : (b : List ℕ) (k : Kept) (x : ℕ) (o : ObjectHeader) (opened : List Opened) (list : Tree) → HasTaken b k
    → k.value_left ≡ 0 → IsStep k x (next.Object o) → 0 < o.len → constructed_bit o.tag ≡ 1 → AtHeader b k opened list
    → HasGrown (b ++ x ∷ []) (after_next k (next.Object o))
    (record {
      opened = opened ++ record { before = list; tag = o.tag; form = o.form; len = o.len } ∷ [];
      list =
          End;
      value = None;
    })
open_grown b k x o opened list taken z step some bit h =
    let at = at_object b k x o taken z step in
    let s = header_stays b k x o opened list at step some h in
    let p : Opened = record { before = list; tag = o.tag; form = o.form; len = o.len } in
    let g : Grown = record { opened = opened ++ p ∷ []; list = End; value = None } in
    let proper : IsProper (1 + length (spent 1 k.rooms)) list =
    subst (λ (n : ℕ). IsProper (1 + n) list) (sym s.level) h.proper in
    let object : IsObject (1 + length (spent 1 k.rooms)) 1 o.tag o.form o.len =
    subst (λ (n : ℕ). IsObject (1 + n) 1 o.tag o.form o.len) (sym s.level) (object_is b k x o 1 at step bit) in
    subst (λ (l : Kept). HasGrown (b ++ x ∷ []) l g)
    (entered_open (after_octet k []) o.len (constructed_bit o.tag) some bit)
    (record {
      opened = open_last opened (spent 1 k.rooms) 1 p (b ++ x ∷ []) proper object s.opened_yet;
      proper =
          tt;
      under = refl;
    })

-- ---- a run of a value

-- octets of the value, and more of it is to come
pub part_grown : (b : List ℕ) (k : Kept) (m : ℕ) (add : List ℕ) (opened : List Opened) (list : Tree) (v : ValueSoFar)
    → FitsIn (k.max - length b) k.rooms k.value_left → length add ≡ m → AreOctets add → m < k.value_left
    → HasGrown b k (record { opened = opened; list = list; value = Some v })
    → HasGrown (b ++ add) (after_run k m)
    (record {
      opened = opened;
      list = list;
      value =
          Some (record { tag = v.tag; form = v.form; len = v.len; octets = v.octets ++ add });
    })
part_grown b k m add opened list v fits len octets lt h =
    let s = all_stay opened k.rooms (spelling list ++ (header_of v.tag v.form v.len ++ v.octets)) b m (k.max - length b)
    (k.value_left - m) add h.opened len (omega arith) (subst (FitsIn (k.max - length b) k.rooms) (omega arith) fits)
    in
    record {
      opened = subst (λ (l : List ℕ). AreOpen 1 opened (spent m k.rooms) l (b ++ add))
          (regroup (spelling list) (header_of v.tag v.form v.len) v.octets add) s.opened_yet;
      proper = subst (λ (n : ℕ). IsProper (1 + n) list) (sym s.level) h.proper;
      under = (
        h.under.0,
        subst (λ (n : ℕ). IsObject (1 + n) 0 v.tag v.form v.len) (sym s.level) h.under.1,
        octets-append v.octets add h.under.2 octets,
        omega arith,
        omega (arith, length-append v.octets add, h.under.4),
      );
    }

-- the last octets of the value
pub whole_grown : (b : List ℕ) (k : Kept) (m : ℕ) (add : List ℕ) (opened : List Opened) (list : Tree) (v : ValueSoFar)
    → FitsIn (k.max - length b) k.rooms k.value_left → length add ≡ m → AreOctets add → m ≡ k.value_left
    → HasGrown b k (record { opened = opened; list = list; value = Some v })
    → ClosingSome (b ++ add) (spent m k.rooms) opened (join list (Primitive v.tag v.form (v.octets ++ add) End))
whole_grown b k m add opened list v fits len octets is h =
    let all = v.octets ++ add in
    let full : v.len ≡ length all = omega (arith, length-append v.octets add, h.under.4) in
    let header = header_of v.tag v.form v.len in
    let item : Tree = Primitive v.tag v.form all End in
    let octets_is : (header ++ v.octets) ++ add ≡ spelling item =
    append_assoc header v.octets add ∙ ap (λ (n : ℕ). header_of v.tag v.form n ++ all) full
    ∙ ap (λ (l : List ℕ). header_of v.tag v.form (length all) ++ l) (sym (append-nil all)) in
    item_grown opened k.rooms list (header ++ v.octets) b m (k.max - length b) add item h.opened h.proper len
    (subst (FitsIn (k.max - length b) k.rooms) (sym is) fits) octets_is (
      subst (IsObject (1 + length k.rooms) 0 v.tag v.form) full h.under.1,
      octets-append v.octets add h.under.2 octets,
      tt,
    )

-- ---- the end

none_open : (opened : List Opened) (list b : List ℕ) → AreOpen 1 opened [] (list ++ []) b → b ≡ list
none_open [] list b h = h ∙ append-nil list
none_open (o ∷ opened) list b h = absurd h

-- where nothing is under way, the octets are the forest that the list is
pub idle_grown : (b : List ℕ) (k : Kept) (g : Grown) → HasTaken b k → HasGrown b k g → IsIdle k
    → IsForest k.max g.list b
idle_grown b k g taken h idle =
    let at = at_header b k g h idle.2 in
    let one : AreOpen 1 g.opened [] (spelling g.list ++ []) b =
    subst (λ (r : List ℕ). AreOpen 1 g.opened r (spelling g.list ++ []) b) idle.0
    (subst (λ (l : List ℕ). AreOpen 1 g.opened k.rooms (spelling g.list ++ l) b) idle.1 at.opened_yet) in
    record {
      proper = subst (λ (r : List ℕ). IsProper (1 + length r) g.list) idle.0 h.proper;
      is =
          none_open g.opened (spelling g.list) b one;
      size = (held_of b k taken).size;
    }

-- ---- how many octets of a value fit

under_left : (b : List ℕ) (k : Kept) (s : Held b k) (u : Under) → s.under ≡ u
    → FitsIn (k.max - length b) k.rooms k.value_left
under_left b k s Nothing e = step_fits b k s k.value_left
    (omega (arith, ap (λ (j : Kept). j.value_left) (s.is ∙ ap (kept_at k.max (length b) k.rooms) e)))
under_left b k s (First x) e = step_fits b k s k.value_left
    (omega (arith, ap (λ (j : Kept). j.value_left) (s.is ∙ ap (kept_at k.max (length b) k.rooms) e)))
under_left b k s (Second x y) e = step_fits b k s k.value_left
    (omega (arith, ap (λ (j : Kept). j.value_left) (s.is ∙ ap (kept_at k.max (length b) k.rooms) e)))
under_left b k s (Tagged tag) e = step_fits b k s k.value_left
    (omega (arith, ap (λ (j : Kept). j.value_left) (s.is ∙ ap (kept_at k.max (length b) k.rooms) e)))
under_left b k s (Sized tag form more) e =
    step_fits b k s k.value_left (omega (
      arith,
      ap (λ (j : Kept). j.value_left) (s.is ∙ ap (kept_at k.max (length b) k.rooms) e),
    ))
under_left b k s (Valued tag form value left) e =
    let left_is : left ≡ k.value_left = sym
    (ap (λ (j : Kept). j.value_left) (s.is ∙ ap (kept_at k.max (length b) k.rooms) e)) in
    subst (FitsIn (k.max - length b) k.rooms) left_is
    (subst (λ (w : Under). FitsIn (k.max - length b) k.rooms (under_need w)) e s.fits)

-- what is to come of a value fits into each room
pub value_fits : (b : List ℕ) (k : Kept) → HasTaken b k → FitsIn (k.max - length b) k.rooms k.value_left
value_fits b k taken = let s = held_of b k taken in under_left b k s s.under refl
