-- The tidy form that grows as the objects of a forest come is that of the forest.
use Rattle.std.proofs.Common.{◌≡◌, ℕ, ◌+◌, ◌<◌, ◌≤◌, List, [], ◌∷◌, ◌++◌, length, refl, sym, ap, ◌∙◌, inl, inr, arith, append-nil, append_assoc, length-append, cond, Bool}
use borrow.Author.Tests.{lt-ltb, le-ltb}
use Rattle.std.proofs.lemmas.Bool.{cases_lt}
use Rattle.tlv_core.specs.Tag.{length_field, constructed_bit}
use Rattle.tlv_core.specs.Form.{shortest}
use Rattle.tlv_core.specs.Tree.{Tree, End, Filler, Primitive, Constructed}
use Rattle.tlv_core.specs.Forest.{spelling, deepest, IsProper}
use Rattle.tlv_core.specs.Parts.{value_place}
use Rattle.tlv_core.specs.Tidy.{tidy}
use Rattle.tlv_core.specs.Flat.{PartValue, parts_of}
use Rattle.tlv_core.specs.TidyForm.{Growing, so_far, with_length, closed_to, after_tag, with_part, grown_by}

-- ---- closing

-- what the open objects that are no deeper leave as it is
abbrev kept : List ℕ → List (List ℕ) → List ℕ → Growing
kept before opened list = record { opened = before ∷ opened; list = list }

-- an object at this depth or deeper is closed
pub closed_on : (d : ℕ) (before : List ℕ) (opened : List (List ℕ)) (list : List ℕ) → d ≤ length opened + 1
    → closed_to d (before ∷ opened) list ≡ closed_to d opened (before ++ with_length list)
closed_on d before opened list le = ap (λ (b : Bool). cond b (kept before opened list)
    (closed_to d opened (before ++ with_length list))) (le-ltb (length opened + 1) d le)

-- one that is less deep stays open
pub closed_none : (d : ℕ) (opened : List (List ℕ)) (list : List ℕ) → length opened < d
    → closed_to d opened list ≡ record { opened = opened; list = list }
closed_none d [] list lt = refl
closed_none d (before ∷ opened) list lt = ap (λ (b : Bool). cond b (kept before opened list)
    (closed_to d opened (before ++ with_length list))) (lt-ltb (length opened + 1) d (omega arith))

-- the objects at this depth and deeper are closed
abbrev pub closed : ℕ → Growing → Growing
closed d g = closed_to d g.opened g.list

-- those at depth f and deeper may be closed first
closed_twice : (e f : ℕ) (opened : List (List ℕ)) (list : List ℕ) → e ≤ f
    → closed e (closed_to f opened list) ≡ closed_to e opened list
closed_twice e f [] list le = refl
closed_twice e f (before ∷ opened) list le =
    elim (cases_lt (length opened + 1) f) [
      | inl lt ↦ ap (closed e) (closed_none f (before ∷ opened) list (omega arith))
      | inr ge ↦ ap (closed e) (closed_on f before opened list ge)
          ∙ closed_twice e f opened (before ++ with_length list) le
          ∙ sym (closed_on e before opened list (omega arith))
    ]

-- ---- a list of objects

pub grown-append : (xs ys : List PartValue) (g : Growing) → grown_by (xs ++ ys) g ≡ grown_by ys (grown_by xs g)
grown-append [] ys g = refl
grown-append (x ∷ xs) ys g = grown-append xs ys (with_part g x)

-- the next object closes what stands at its depth or deeper
part_after : (g : Growing) (p : PartValue) → with_part (closed p.depth g) p ≡ with_part g p
part_after g p = ap (λ (c : Growing). after_tag (constructed_bit p.tag) p.value c.opened (c.list ++ p.tag))
    (closed_twice p.depth p.depth g.opened g.list (omega arith))

-- so do the objects of a list, and its end
grown_after : (t : Tree) (d at : ℕ) (g : Growing)
    → closed d (grown_by (parts_of d at t) (closed d g)) ≡ closed d (grown_by (parts_of d at t) g)
grown_after End d at g = closed_twice d d g.opened g.list (omega arith)
grown_after (Filler rest) d at g = grown_after rest d (at + 1) g
grown_after (Primitive tag form value rest) d at g =
    let p : PartValue = record {
      depth = d;
      tag = tag;
      form = form;
      place = value_place at tag form (length value);
      value = value;
    } in
    ap (λ (h : Growing). closed d (grown_by (parts_of d (value_place at tag form (length value) + length value) rest)
    h))
    (part_after g p)
grown_after (Constructed tag form nodes rest) d at g =
    let place = value_place at tag form (length (spelling nodes)) in
    let p : PartValue = record { depth = d; tag = tag; form = form; place = place; value = spelling nodes } in
    let more = parts_of (d + 1) place nodes ++ parts_of d (place + length (spelling nodes)) rest in
    ap (λ (h : Growing). closed d (grown_by more h)) (part_after g p)

-- a primitive object is added
primitive_part : (p : PartValue) (opened : List (List ℕ)) (list : List ℕ) → length opened < p.depth
    → constructed_bit p.tag ≡ 0 → with_part (record { opened = opened; list = list }) p
    ≡ record { opened = opened; list = (list ++ p.tag) ++ with_length p.value }
primitive_part p opened list lt bit =
    ap (λ (c : Growing). after_tag (constructed_bit p.tag) p.value c.opened (c.list ++ p.tag))
    (closed_none p.depth opened list lt)
    ∙ ap (λ (b : ℕ). after_tag b p.value opened (list ++ p.tag)) bit

-- a constructed one is opened
constructed_part : (p : PartValue) (opened : List (List ℕ)) (list : List ℕ) → length opened < p.depth
    → p.depth ≤ deepest → constructed_bit p.tag ≡ 1 → with_part (record { opened = opened; list = list }) p
    ≡ record { opened = (list ++ p.tag) ∷ opened; list = [] }
constructed_part p opened list lt le bit =
    ap (λ (c : Growing). after_tag (constructed_bit p.tag) p.value c.opened (c.list ++ p.tag))
    (closed_none p.depth opened list lt)
    ∙ ap (λ (b : ℕ). after_tag b p.value opened (list ++ p.tag)) bit
    ∙ ap (λ (b : Bool). cond b (record { opened = (list ++ p.tag) ∷ opened; list = [] })
    (record { opened = opened; list = list ++ p.tag })) (lt-ltb (length opened) deepest (omega arith))

regroup : (list tag field value rest : List ℕ)
    → ((list ++ tag) ++ (field ++ value)) ++ rest ≡ list ++ ((tag ++ field) ++ (value ++ rest))
regroup list tag field value rest = simp append_assoc refl

-- the objects of a list add its tidy form
pub grown_tidy : (t : Tree) (d at : ℕ) (opened : List (List ℕ)) (list : List ℕ) → IsProper d t → length opened + 1 ≡ d
    → closed d (grown_by (parts_of d at t) (record { opened = opened; list = list }))
    ≡ record { opened = opened; list = list ++ spelling (tidy t) }
grown_tidy End d at opened list h e =
    closed_none d opened list (omega arith)
    ∙ ap (λ (l : List ℕ). record { opened = opened; list = l }) (sym (append-nil list))
grown_tidy (Filler rest) d at opened list h e = grown_tidy rest d (at + 1) opened list h e
grown_tidy (Primitive tag form value rest) d at opened list h e =
    let place = value_place at tag form (length value) in
    let p : PartValue = record { depth = d; tag = tag; form = form; place = place; value = value } in
    let field = length_field (shortest (length value)) (length value) in
    ap (λ (g : Growing). closed d (grown_by (parts_of d (place + length value) rest) g))
    (primitive_part p opened list (omega arith) h.0.is_bit)
    ∙ grown_tidy rest d (place + length value) opened ((list ++ tag) ++ with_length value) h.2 e
    ∙ ap (λ (l : List ℕ). record { opened = opened; list = l })
    (regroup list tag field value (spelling (tidy rest)))
grown_tidy (Constructed tag form nodes rest) d at opened list h e =
    let n = length (spelling nodes) in
    let place = value_place at tag form n in
    let p : PartValue = record { depth = d; tag = tag; form = form; place = place; value = spelling nodes } in
    let inner = parts_of (d + 1) place nodes in
    let outer = parts_of d (place + n) rest in
    let start : Growing = record { opened = opened; list = list } in
    let first : Growing = record { opened = (list ++ tag) ∷ opened; list = [] } in
    let within : Growing = grown_by inner first in
    let tidied : List ℕ = spelling (tidy nodes) in
    let done : Growing = record { opened = opened; list = (list ++ tag) ++ with_length tidied } in
    let field = length_field (shortest (length tidied)) (length tidied) in
    let inside : closed (d + 1) within ≡ record { opened = (list ++ tag) ∷ opened; list = tidied } =
    grown_tidy nodes (d + 1) place ((list ++ tag) ∷ opened) [] h.1 (omega arith) in
    let now : closed d within ≡ done =
    sym (closed_twice d (d + 1) within.opened within.list (omega arith)) ∙ ap (closed d) inside
    ∙ closed_on d (list ++ tag) opened tidied (omega arith)
    ∙ closed_none d opened ((list ++ tag) ++ with_length tidied) (omega arith) in
    ap (λ (g : Growing). closed d (grown_by (inner ++ outer) g))
    (constructed_part p opened list (omega arith) h.0.depth h.0.is_bit)
    ∙ ap (closed d) (grown-append inner outer first)
    ∙ sym (grown_after rest d (place + n) within)
    ∙ ap (λ (g : Growing). closed d (grown_by outer g)) now
    ∙ grown_tidy rest d (place + n) opened ((list ++ tag) ++ with_length tidied) h.2 e
    ∙ ap (λ (l : List ℕ). record { opened = opened; list = l })
    (regroup list tag field tidied (spelling (tidy rest)))

-- ---- how many octets there are

-- what is added to the innermost list is added to all
pub so_far-append : (opened : List (List ℕ)) (xs ys : List ℕ) → so_far opened (xs ++ ys) ≡ so_far opened xs ++ ys
so_far-append [] xs ys = refl
so_far-append (before ∷ opened) xs ys = sym (append_assoc (so_far opened before) xs ys)

-- they don't get fewer where objects are closed
pub closed_longer : (d : ℕ) (opened : List (List ℕ)) (list : List ℕ)
    → length (so_far opened list) ≤ length (so_far (closed_to d opened list).opened (closed_to d opened list).list)
closed_longer d [] list = omega arith
closed_longer d (before ∷ opened) list =
    elim (cases_lt (length opened + 1) d) [
      | inl lt ↦
          let same = closed_none d (before ∷ opened) list (omega arith) in
          omega (arith, ap (λ (g : Growing). length (so_far g.opened g.list)) same)
      | inr ge ↦
          let same = closed_on d before opened list ge in
          let next = before ++ with_length list in
          let field = length_field (shortest (length list)) (length list) in
          omega (
            arith,
            ap (λ (g : Growing). length (so_far g.opened g.list)) same,
            closed_longer d opened next,
            ap length (so_far-append opened before (with_length list)),
            length-append (so_far opened before) (with_length list),
            length-append (so_far opened before) list,
            length-append field list,
          )
    ]
