-- The parts of a forest so far, as more of its octets come.
use Rattle.std.proofs.Common.{◌≡◌, ◌⊎◌, ℕ, ◌+◌, ◌<◌, ◌≤◌, List, [], ◌∷◌, ◌++◌, length, refl, sym, ap, subst, ◌∙◌, inl, inr, arith, append-nil, length-append}
use Rattle.std.specs.Prelude.{Option, Some, None}
use Rattle.std.proofs.lemmas.Bool.{cases_lt}
use Rattle.octet_core.specs.Octets.{AreOctets}
use Rattle.tlv_core.specs.declared.header.ObjectHeader.{ObjectHeader}
use Rattle.tlv_core.specs.declared.header.Next.{Next}
use Rattle.tlv_core.specs.declared.header.Next.TheVariants as next
use Rattle.tlv_core.specs.Tag.{constructed_bit}
use Rattle.tlv_core.specs.Tree.{Tree, End, Filler, Primitive, Constructed}
use Rattle.tlv_core.specs.Forest.{spelling}
use Rattle.tlv_core.specs.Parts.{Placed, preorder, value_place}
use Rattle.tlv_core.specs.Reasons.{Kept, HasTaken}
use Rattle.tlv_core.specs.Steps.{after_octet, after_next, after_run, IsStep}
use Rattle.tlv_core.specs.Grown.{Opened, ValueSoFar, Grown, HasGrown}
use Rattle.tlv_core.specs.Flat.{placed_at, placed_in, placed_list, placed}
use Rattle.tlv_core.proofs.One.{join}
use Rattle.tlv_core.proofs.Stands.{bit_cases}
use Rattle.tlv_core.proofs.Growing.{ClosingSome, closing_done, open_length}
use Rattle.tlv_core.proofs.Grows.{AtHeader, at_header, none_under, filler_grown, under_grown, empty_grown, empty_kept, value_grown, open_grown, part_grown, whole_grown, value_fits}
use Rattle.tlv_core.proofs.Placing.{inner_place, inner_place-is, inside, placed-more, placed-same, placed-last, preorder-join, all_closed}

-- ---- trees that grew, with what is placed in them

-- a tree of these octets, in which so much is placed
pub record Grew (b : List ℕ) (k : Kept) (all : List Placed) : Type 0 where
  pub tree : Grown
  pub grown : HasGrown b k tree
  pub placed_is : placed tree ≡ all

-- with an item after the innermost list, all is closed that can be
pub closed_grew : (b : List ℕ) (k : Kept) (opened : List Opened) (list : Tree) (all : List Placed) → k.header ≡ []
    → k.value_left ≡ 0 → ClosingSome b k.rooms opened list → placed_in 1 0 opened (placed_list list None) ≡ all
    → Grew b k all
closed_grew b k opened list all none z h e =
    let c = all_closed h.closed b k.rooms opened list h.closing in
    record {
      tree = record { opened = c.opened_now; list = c.list_now; value = None };
      grown =
          closing_done b k c.opened_now c.list_now none z c.closing;
      placed_is = c.placed_same ∙ e;
    }

-- ---- an octet of a header

-- where the header of an object is whole, it is placed
abbrev pub placed_next : ℕ → ℕ → Next → List Placed
placed_next d count next.Filler = []
placed_next d count (next.Under longer) = []
placed_next d count (next.Object o) = record { depth = d; tag = o.tag; form = o.form; place = count; len = o.len } ∷ []

-- an octet may come after these octets: the open objects, the list, and a part of a header
record Comes (b : List ℕ) (k : Kept) (x : ℕ) (next : Next) (opened : List Opened) (list : Tree) : Type 0 where
  pub taken : HasTaken b k
  pub zero_left : k.value_left ≡ 0
  pub step : IsStep k x next
  pub at : AtHeader b k opened list

-- the place after the header that is whole
value_at : (b : List ℕ) (k : Kept) (x : ℕ) (o : ObjectHeader) (opened : List Opened) (list : Tree)
    → Comes b k x (next.Object o) opened list
    → value_place (inner_place 0 opened + length (spelling list)) o.tag o.form o.len ≡ k.count + 1
value_at b k x o opened list h =
    omega (
      arith,
      inner_place-is opened k.rooms 1 0 (spelling list ++ k.header) b h.at.opened_yet,
      length-append (spelling list) k.header,
      ap length h.step.follows.2,
      length-append k.header (x ∷ []),
      h.taken.count,
    )

-- an object with this header, at the depth of the innermost list
object_at : (b : List ℕ) (k : Kept) (x : ℕ) (o : ObjectHeader) (opened : List Opened) (list : Tree)
    → Comes b k x (next.Object o) opened list
    → placed_at (1 + length opened) (inner_place 0 opened + length (spelling list)) o.tag o.form o.len ∷ [] ≡
    placed_next (1 + length k.rooms) (k.count + 1) (next.Object o)
object_at b k x o opened list h =
    let place = inner_place 0 opened + length (spelling list) in
    ap (λ (d : ℕ). placed_at (1 + d) place o.tag o.form o.len ∷ [])
    (open_length opened k.rooms 1 (spelling list ++ k.header) b h.at.opened_yet)
    ∙ ap (λ (p : ℕ). record { depth = 1 + length k.rooms; tag = o.tag; form = o.form; place = p; len = o.len } ∷ [])
    (value_at b k x o opened list h)

-- an empty object is placed after the list
empty_placed : (o : ObjectHeader) (list item : Tree) (d place : ℕ)
    → ((constructed_bit o.tag ≡ 0) × (item ≡ Primitive o.tag o.form [] End))
    ⊎ ((constructed_bit o.tag ≡ 1) × (item ≡ Constructed o.tag o.form End End)) → o.len ≡ 0
    → placed_list (join list item) None d place ≡ placed_list list None d place
    ++ placed_at d (place + length (spelling list)) o.tag o.form o.len ∷ []
empty_placed o list item d place is e =
    let at = place + length (spelling list) in
    let one : preorder d at item ≡ placed_at d at o.tag o.form 0 ∷ [] =
    elim is [ inl h ↦ ap (preorder d at) h.1 | inr h ↦ ap (preorder d at) h.1 ] in
    append-nil (preorder d place (join list item)) ∙ preorder-join list item d place
    ∙ ap (λ (l : List Placed). preorder d place list ++ l)
    (one ∙ ap (λ (n : ℕ). placed_at d at o.tag o.form n ∷ []) (sym e))
    ∙ ap (λ (l : List Placed). l ++ placed_at d at o.tag o.form o.len ∷ []) (sym (append-nil (preorder d place list)))

filler_placed : (list : Tree) (d place : ℕ)
    → placed_list (join list (Filler End)) None d place ≡ placed_list list None d place
filler_placed list d place = append-nil (preorder d place (join list (Filler End)))
    ∙ preorder-join list (Filler End) d place

-- what is placed in open objects and the innermost list, where no value is under way
abbrev pub All : List Opened → Tree → List Placed
All opened list = placed_in 1 0 opened (placed_list list None)

-- so it is with each kind of object
empty_grew : (b : List ℕ) (k : Kept) (x : ℕ) (o : ObjectHeader) (item : Tree) (opened : List Opened) (list : Tree)
    → Comes b k x (next.Object o) opened list → o.len ≡ 0
    → ((constructed_bit o.tag ≡ 0) × (item ≡ Primitive o.tag o.form [] End))
    ⊎ ((constructed_bit o.tag ≡ 1) × (item ≡ Constructed o.tag o.form End End))
    → Grew (b ++ x ∷ []) (after_next k (next.Object o))
    (All opened list ++ placed_next (1 + length k.rooms) (k.count + 1) (next.Object o))
empty_grew b k x o item opened list h e is =
    let all = placed-more opened 1 0 (placed_list (join list item) None) (placed_list list None)
    (placed_at (1 + length opened) (inner_place 0 opened + length (spelling list)) o.tag o.form o.len ∷ [])
    (empty_placed o list item (1 + length opened) (inner_place 0 opened) is e) in
    subst (λ (l : Kept). Grew (b ++ x ∷ []) l
    (All opened list ++ placed_next (1 + length k.rooms) (k.count + 1) (next.Object o))) (empty_kept k o e)
    (closed_grew (b ++ x ∷ []) (after_octet k []) opened (join list item)
    (All opened list ++ placed_next (1 + length k.rooms) (k.count + 1) (next.Object o)) refl refl
    (empty_grown b k x o item opened list h.taken h.zero_left h.step e is h.at)
    (all ∙ ap (λ (l : List Placed). All opened list ++ l) (object_at b k x o opened list h)))

value_grew : (b : List ℕ) (k : Kept) (x : ℕ) (o : ObjectHeader) (opened : List Opened) (list : Tree)
    → Comes b k x (next.Object o) opened list → 0 < o.len → constructed_bit o.tag ≡ 0
    → Grew (b ++ x ∷ []) (after_next k (next.Object o))
    (All opened list ++ placed_next (1 + length k.rooms) (k.count + 1) (next.Object o))
value_grew b k x o opened list h some bit =
    let v : ValueSoFar = record { tag = o.tag; form = o.form; len = o.len; octets = [] } in
    let d = 1 + length opened in
    let place = inner_place 0 opened in
    let p = placed_at d (place + length (spelling list)) o.tag o.form o.len ∷ [] in
    let all = placed-more opened 1 0 (placed_list list (Some v)) (placed_list list None) p
    (ap (λ (l : List Placed). l ++ p) (sym (append-nil (preorder d place list)))) in
    record {
      tree = record { opened = opened; list = list; value = Some v };
      grown = value_grown b k x o opened list h.taken h.zero_left h.step some bit h.at;
      placed_is = all ∙ ap (λ (l : List Placed). All opened list ++ l) (object_at b k x o opened list h);
    }

open_grew : (b : List ℕ) (k : Kept) (x : ℕ) (o : ObjectHeader) (opened : List Opened) (list : Tree)
    → Comes b k x (next.Object o) opened list → 0 < o.len → constructed_bit o.tag ≡ 1
    → Grew (b ++ x ∷ []) (after_next k (next.Object o))
    (All opened list ++ placed_next (1 + length k.rooms) (k.count + 1) (next.Object o))
open_grew b k x o opened list h some bit =
    let q : Opened = record { before = list; tag = o.tag; form = o.form; len = o.len } in
    let d = 1 + length opened in
    let place = inner_place 0 opened in
    let p = placed_at d (place + length (spelling list)) o.tag o.form o.len ∷ [] in
    let all = placed-more opened 1 0 (inside q (placed_list End None)) (placed_list list None) p
    (ap (λ (l : List Placed). l ++ p) (sym (append-nil (preorder d place list)))) in
    record {
      tree = record { opened = opened ++ q ∷ []; list = End; value = None };
      grown = open_grown b k x o opened list h.taken h.zero_left h.step some bit h.at;
      placed_is = placed-last opened 1 0 q (placed_list End None) ∙ all
          ∙ ap (λ (l : List Placed). All opened list ++ l) (object_at b k x o opened list h);
    }

next_grew : (b : List ℕ) (k : Kept) (x : ℕ) (next : Next) (opened : List Opened) (list : Tree)
    → Comes b k x next opened list → Grew (b ++ x ∷ []) (after_next k next)
    (All opened list ++ placed_next (1 + length k.rooms) (k.count + 1) next)
next_grew b k x next.Filler opened list h =
    closed_grew (b ++ x ∷ []) (after_next k next.Filler) opened (join list (Filler End)) (All opened list ++ []) refl
    refl (filler_grown b k x opened list h.taken h.zero_left h.step h.at)
    (placed-same opened 1 0 (placed_list (join list (Filler End)) None) (placed_list list None)
    (filler_placed list (1 + length opened) (inner_place 0 opened)) ∙ sym (append-nil (All opened list)))
next_grew b k x (next.Under longer) opened list h =
    record {
      tree = record { opened = opened; list = list; value = None };
      grown =
          under_grown b k x longer opened list h.taken h.zero_left h.step h.at;
      placed_is =
          sym (append-nil (All opened list));
    }
next_grew b k x (next.Object o) opened list h =
    elim (cases_lt 0 o.len) [
      | inl some ↦ elim (bit_cases o.tag)
          [ inl bit ↦ value_grew b k x o opened list h some bit | inr bit ↦ open_grew b k x o opened list h some bit ]
      | inr none ↦
          elim (bit_cases o.tag) [
            | inl bit ↦ empty_grew b k x o (Primitive o.tag o.form [] End) opened list h (omega arith) (inl (bit, refl))
            | inr bit ↦ empty_grew b k x o (Constructed o.tag o.form End End) opened list h (omega arith)
                (inr (bit, refl))
          ]
    ]

-- where no octet of a value is to come, that is all that is placed
pub none_placed : (b : List ℕ) (k : Kept) (g : Grown) → HasGrown b k g → k.value_left ≡ 0
    → placed g ≡ All g.opened g.list
none_placed b k g h z = ap (λ (v : Option ValueSoFar). placed_in 1 0 g.opened (placed_list g.list v))
    (none_under (1 + length k.rooms) g.value k.header k.value_left h.under z)

-- the tree grows by an octet that may come; an object is placed where its header is whole then
pub octet_grew : (b : List ℕ) (k : Kept) (x : ℕ) (next : Next) (g : Grown) → HasTaken b k → k.value_left ≡ 0
    → IsStep k x next → HasGrown b k g → Grew (b ++ x ∷ []) (after_next k next)
    (placed g ++ placed_next (1 + length k.rooms) (k.count + 1) next)
octet_grew b k x next g taken z step h =
    subst (λ (l : List Placed). Grew (b ++ x ∷ []) (after_next k next)
    (l ++ placed_next (1 + length k.rooms) (k.count + 1) next)) (sym (none_placed b k g h z))
    (next_grew b k x next g.opened g.list
    (record { taken = taken; zero_left = z; step = step; at = at_header b k g h z }))

-- ---- a run of a value

run_of : (b : List ℕ) (k : Kept) (m : ℕ) (add : List ℕ) (opened : List Opened) (list : Tree) (value : Option ValueSoFar)
    → HasTaken b k → length add ≡ m → AreOctets add → 0 < m → m ≤ k.value_left
    → HasGrown b k (record { opened = opened; list = list; value = value })
    → Grew (b ++ add) (after_run k m) (placed_in 1 0 opened (placed_list list value))
run_of b k m add opened list None taken len octets some le h = absurd (omega (arith, h.under))
run_of b k m add opened list (Some v) taken len octets some le h =
    let fits = value_fits b k taken in
    let now = v.octets ++ add in
    elim (cases_lt m k.value_left) [
      | inl lt ↦ record {
        tree = record {
          opened = opened;
          list = list;
          value =
              Some (record { tag = v.tag; form = v.form; len = v.len; octets = now });
        };
        grown = part_grown b k m add opened list v fits len octets lt h;
        placed_is = refl;
      }
      | inr ge ↦
          let item : Tree = Primitive v.tag v.form now End in
          let full : length now ≡ v.len = omega (arith, length-append v.octets add, h.under.4) in
          let d = 1 + length opened in
          let place = inner_place 0 opened in
          let at = place + length (spelling list) in
          let same : placed_list (join list item) None d place ≡ placed_list list (Some v) d place =
          append-nil (preorder d place (join list item)) ∙ preorder-join list item d place
          ∙ ap (λ (n : ℕ). preorder d place list ++ placed_at d at v.tag v.form n ∷ []) full in
          closed_grew (b ++ add) (after_run k m) opened (join list item)
          (placed_in 1 0 opened (placed_list list (Some v))) h.under.0 (omega arith)
          (whole_grown b k m add opened list v fits len octets (omega arith) h)
          (placed-same opened 1 0 (placed_list (join list item) None) (placed_list list (Some v)) same)
    ]

-- the tree grows by a run of the value, and what is placed stays the same
pub run_grew : (b : List ℕ) (k : Kept) (m : ℕ) (add : List ℕ) (g : Grown) → HasTaken b k → length add ≡ m
    → AreOctets add → 0 < m → m ≤ k.value_left → HasGrown b k g → Grew (b ++ add) (after_run k m) (placed g)
run_grew b k m add g taken len octets some le h = run_of b k m add g.opened g.list g.value taken len octets some le h
