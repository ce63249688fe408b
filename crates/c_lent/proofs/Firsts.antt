-- The first object on a path, found among the parts of a forest.
use Rattle.std.proofs.Common.{◌≡◌, ℕ, ◌+◌, ◌-◌, ◌≤◌, min, Bool, true, false, List, [], ◌∷◌, ◌++◌, length, drop, map, refl, sym, ap, ◌∙◌, arith, append-nil, append_assoc, zero, suc}
use Rattle.std.specs.Prelude.{◌==◌, ◌&&◌, Option, Some, None, slice_get, cond, if◌then◌else◌, bytes_eq}
use Rattle.std.proofs.lemmas.Bool.{ne_eqb, eq-eqb}
use Rattle.std.proofs.lemmas.List.{length-drop, map-append, drop-drop}
use Rattle.tlv_core.specs.Tag.{IsTag}
use Rattle.tlv_core.specs.Tree.{Tree, End, Filler, Primitive, Constructed}
use Rattle.tlv_core.specs.Forest.{IsProper, spelling}
use Rattle.tlv_core.specs.Parts.{Placed, preorder, value_place, first_on, or_else}
use Rattle.tlv_core.specs.declared.node.Node.{Node}
use Rattle.tlv_core.specs.declared.node.Node.TheVariants as node
use Rattle.c_lent.specs.declared.parts.CTag.{CTag}
use Rattle.c_lent.specs.declared.parts.CPart.{CPart}
use Rattle.c_lent.specs.Parts.{tag_of, tag_shown, tag_is, is_on, found, part_shown, parts_shown, first_placed, first_shown, or_placed, IsSameObject, FindsFirst}

tag-back : (tag : List ℕ) → IsTag tag → tag_of (tag_shown tag) ≡ tag
tag-back [] h = absurd h
tag-back (x ∷ []) h = refl
tag-back (x ∷ y ∷ []) h = refl
tag-back (x ∷ y ∷ z ∷ []) h = refl
tag-back (x ∷ y ∷ z ∷ w ∷ more) h = absurd h

get-front : {A : Type 0} (xs : List A) (k : ℕ) → slice_get xs k ≡ slice_get (drop k xs) 0
get-front [] zero = refl
get-front [] (suc k) = refl
get-front (x ∷ xs) zero = refl
get-front (x ∷ xs) (suc k) = get-front xs k

abbrev First : List CPart → Option CPart
First parts = slice_get parts 0

abbrev or_shown : Option Placed → Option CPart → Option CPart
or_shown None other = other
or_shown (Some p) other = Some (part_shown p)

-- the parts begin at most so deep
abbrev Shallow : ℕ → List CPart → Type 0
Shallow d [] = Unit {0}
Shallow d (p ∷ ps) = p.depth ≤ d

shallow-more : (d : ℕ) (ps : List CPart) → Shallow d ps → Shallow (d + 1) ps
shallow-more d [] h = tt
shallow-more d (p ∷ ps) h = omega (arith, h)

shallow-tree : (t : Tree) (d at e : ℕ) (ps : List CPart) → d ≤ e → Shallow e ps
    → Shallow e (map part_shown (preorder d at t) ++ ps)
shallow-tree End d at e ps h s = s
shallow-tree (Filler rest) d at e ps h s = shallow-tree rest d (at + 1) e ps h s
shallow-tree (Primitive tag form value rest) d at e ps h s = h
shallow-tree (Constructed tag form nodes rest) d at e ps h s = h

-- ---- what a test makes of the first

pick : (b : Bool) (p : Placed) (xs ys : List CPart) (o : Option Placed) (q : Option CPart) → First ys ≡ or_shown o q
    → First (if b then part_shown p ∷ xs else ys) ≡ or_shown (cond b (Some p) o) q
pick true p xs ys o q h = refl
pick false p xs ys o q h = h

either : (b : Bool) (xs ys : List CPart) (q : Option CPart) → First xs ≡ q → First ys ≡ q
    → First (if b then xs else ys) ≡ q
either true xs ys q h k = h
either false xs ys q h k = k

inner : (b : Bool) (o r : Option Placed) (xs ys : List CPart) (q : Option CPart) → First xs ≡ or_shown o (or_shown r q)
    → First ys ≡ or_shown r q → First (if b then xs else ys) ≡ or_shown (or_placed (cond b o None) r) q
inner true None r xs ys q h k = h
inner true (Some p) r xs ys q h k = h
inner false o r xs ys q h k = k

module _ (path : List CTag) where
  abbrev Body : CPart → List CPart → ℕ → List CPart
  Body p ps k = if is_on path k p then (if k + 1 == length path then p ∷ ps else found path (k + 1) ps) else found path
      k ps

  -- what was met deeper no longer counts
  same-met : (d m n : ℕ) (ps : List CPart) → d ≤ m + 1 → d ≤ n + 1 → Shallow d ps → found path m ps ≡ found path n ps
  same-met d m n [] h k s = refl
  same-met d m n (p ∷ ps) h k s = let e : min m (p.depth - 1) ≡ min n (p.depth - 1) =
      omega (arith, h, k, s) in ap (Body p ps) e

  -- an object inside one that isn't met is passed
  deep-one : (m : ℕ) (p : CPart) (ps : List CPart) → m + 2 ≤ p.depth → found path m (p ∷ ps) ≡ found path m ps
  deep-one m p ps h =
      let e : min m (p.depth - 1) ≡ m = omega (arith, h) in
      let off : is_on path m p ≡ false = ap (λ (b : Bool). b && tag_is (slice_get path m) (tag_of p.tag))
      (ne_eqb p.depth (m + 1) (λ e. omega (arith, h, e))) in
      ap (Body p ps) e ∙ ap (λ (b : Bool).
      if b then (if m + 1 == length path then p ∷ ps else found path (m + 1) ps) else found path m ps) off

  split : (p : CPart) (xs ys : List Placed) (ps : List CPart)
      → p ∷ (map part_shown (xs ++ ys) ++ ps) ≡ p ∷ (map part_shown xs ++ (map part_shown ys ++ ps))
  split p xs ys ps = ap (λ (l : List CPart). p ∷ (l ++ ps)) (map-append part_shown xs ys)
      ∙ ap (λ (l : List CPart). p ∷ l) (append_assoc (map part_shown xs) (map part_shown ys) ps)

  deep-tree : (t : Tree) (d at m : ℕ) (ps : List CPart) → m + 2 ≤ d
      → found path m (map part_shown (preorder d at t) ++ ps) ≡ found path m ps
  deep-tree End d at m ps h = refl
  deep-tree (Filler rest) d at m ps h = deep-tree rest d (at + 1) m ps h
  deep-tree (Primitive tag form value rest) d at m ps h =
      let v = value_place at tag form (length value) in
      let p = part_shown (record { depth = d; tag = tag; form = form; place = v; len = length value }) in
      deep-one m p (map part_shown (preorder d (v + length value) rest) ++ ps) h
      ∙ deep-tree rest d (v + length value) m ps h
  deep-tree (Constructed tag form nodes rest) d at m ps h =
      let s = spelling nodes in
      let v = value_place at tag form (length s) in
      let p = part_shown (record { depth = d; tag = tag; form = form; place = v; len = length s }) in
      let outer = preorder d (v + length s) rest in
      ap (found path m) (split p (preorder (d + 1) v nodes) outer ps)
      ∙ deep-one m p (map part_shown (preorder (d + 1) v nodes) ++ (map part_shown outer ++ ps)) h
      ∙ deep-tree nodes (d + 1) v m (map part_shown outer ++ ps) (omega (arith, h))
      ∙ deep-tree rest d (v + length s) m ps h

  -- an object in one that is met
  at-depth : (m k : ℕ) (tag : CTag) (tags : List CTag) (own : List ℕ) (p : CPart) (ps : List CPart) (last : Bool)
      → drop k path ≡ tag ∷ tags → p.depth ≡ k + 1 → p.tag ≡ tag_shown own → IsTag own → k ≤ m
      → (k + 1 == length path) ≡ last
      → found path m (p ∷ ps) ≡ (if bytes_eq (tag_of tag) own then (if last then p ∷ ps else found path (k + 1) ps) else
      found path k ps)
  at-depth m k tag tags own p ps last e depth tag_is' is_tag h is_last =
      let met : min m (p.depth - 1) ≡ k = omega (arith, h, depth) in
      let here = get-front path k ∙ ap (λ (l : List CTag). slice_get l 0) e in
      let on : is_on path k p ≡ bytes_eq (tag_of tag) own =
      ap (λ (b : Bool). b && tag_is (slice_get path k) (tag_of p.tag)) (eq-eqb p.depth (k + 1) depth)
      ∙ ap (λ (o : Option CTag). tag_is o (tag_of p.tag)) here
      ∙ ap (bytes_eq (tag_of tag)) (ap tag_of tag_is' ∙ tag-back own is_tag) in
      ap (Body p ps) met ∙ ap (λ (b : Bool).
      if b then (if k + 1 == length path then p ∷ ps else found path (k + 1) ps) else found path k ps) on
      ∙ ap (λ (b : Bool). if bytes_eq (tag_of tag) own then (if b then p ∷ ps else found path (k + 1) ps) else found
      path k ps) is_last

  ends : (k : ℕ) (tag : CTag) → drop k path ≡ tag ∷ [] → (k + 1 == length path) ≡ true
  ends k tag e = eq-eqb (k + 1) (length path) (omega (arith, length-drop k path, ap length e))

  goes-on : (k : ℕ) (tag next : CTag) (tags : List CTag) → drop k path ≡ tag ∷ next ∷ tags
      → (k + 1 == length path) ≡ false
  goes-on k tag next tags e = ne_eqb (k + 1) (length path) (λ is. omega (arith, length-drop k path, ap length e, is))

  inward : (k : ℕ) (tag next : CTag) (tags : List CTag) → drop k path ≡ tag ∷ next ∷ tags
      → drop (k + 1) path ≡ next ∷ tags
  inward k tag next tags e = sym (drop-drop 1 k path) ∙ ap (drop 1) e

  first-tree : (t : Tree) (tag : CTag) (tags : List CTag) (k at m : ℕ) (ps : List CPart) → drop k path ≡ tag ∷ tags
      → k ≤ m → IsProper (k + 1) t → Shallow (k + 1) ps
      → First (found path m (map part_shown (preorder (k + 1) at t) ++ ps)) ≡ or_shown
      (first_placed (map tag_of (tag ∷ tags)) (k + 1) at t) (First (found path k ps))
  first-tree End tag [] k at m ps e h proper s = ap First (same-met (k + 1) m k ps (omega (arith, h)) (omega arith) s)
  first-tree End tag (next ∷ tags) k at m ps e h proper s =
      ap First (same-met (k + 1) m k ps (omega (arith, h)) (omega arith) s)
  first-tree (Filler rest) tag [] k at m ps e h proper s = first-tree rest tag [] k (at + 1) m ps e h proper s
  first-tree (Filler rest) tag (next ∷ tags) k at m ps e h proper s =
      first-tree rest tag (next ∷ tags) k (at + 1) m ps e h proper s
  first-tree (Primitive own form value rest) tag [] k at m ps e h proper s =
      let v = value_place at own form (length value) in
      let p : Placed = record { depth = k + 1; tag = own; form = form; place = v; len = length value } in
      let xs = map part_shown (preorder (k + 1) (v + length value) rest) ++ ps in
      ap First (at-depth m k tag [] own (part_shown p) xs true e refl refl proper.0.is_tag h (ends k tag e))
      ∙ pick (bytes_eq (tag_of tag) own) p xs (found path k xs)
      (first_placed (tag_of tag ∷ []) (k + 1) (v + length value) rest) (First (found path k ps))
      (first-tree rest tag [] k (v + length value) k ps e (omega arith) proper.2 s)
  first-tree (Primitive own form value rest) tag (next ∷ tags) k at m ps e h proper s =
      let v = value_place at own form (length value) in
      let p : Placed = record { depth = k + 1; tag = own; form = form; place = v; len = length value } in
      let xs = map part_shown (preorder (k + 1) (v + length value) rest) ++ ps in
      ap First (at-depth m k tag (next ∷ tags) own (part_shown p) xs false e refl refl proper.0.is_tag h
      (goes-on k tag next tags e))
      ∙ either (bytes_eq (tag_of tag) own) (found path (k + 1) xs) (found path k xs)
      (or_shown (first_placed (map tag_of (tag ∷ next ∷ tags)) (k + 1) (v + length value) rest)
      (First (found path k ps)))
      (first-tree rest tag (next ∷ tags) k (v + length value) (k + 1) ps e (omega arith) proper.2 s)
      (first-tree rest tag (next ∷ tags) k (v + length value) k ps e (omega arith) proper.2 s)
  first-tree (Constructed own form nodes rest) tag [] k at m ps e h proper s =
      let n = length (spelling nodes) in
      let v = value_place at own form n in
      let p : Placed = record { depth = k + 1; tag = own; form = form; place = v; len = n } in
      let outer = preorder (k + 1) (v + n) rest in
      let xs = map part_shown (preorder (k + 1 + 1) v nodes) ++ (map part_shown outer ++ ps) in
      ap (λ (l : List CPart). First (found path m l)) (split (part_shown p) (preorder (k + 1 + 1) v nodes) outer ps)
      ∙ ap First (at-depth m k tag [] own (part_shown p) xs true e refl refl proper.0.is_tag h (ends k tag e))
      ∙ pick (bytes_eq (tag_of tag) own) p xs (found path k xs) (first_placed (tag_of tag ∷ []) (k + 1) (v + n) rest)
      (First (found path k ps))
      (ap First (deep-tree nodes (k + 1 + 1) v k (map part_shown outer ++ ps) (omega arith))
      ∙ first-tree rest tag [] k (v + n) k ps e (omega arith) proper.2 s)
  first-tree (Constructed own form nodes rest) tag (next ∷ tags) k at m ps e h proper s =
      let n = length (spelling nodes) in
      let v = value_place at own form n in
      let p : Placed = record { depth = k + 1; tag = own; form = form; place = v; len = n } in
      let outer = preorder (k + 1) (v + n) rest in
      let xs = map part_shown (preorder (k + 1 + 1) v nodes) ++ (map part_shown outer ++ ps) in
      let after : Option Placed = first_placed (map tag_of (tag ∷ next ∷ tags)) (k + 1) (v + n) rest in
      let inside : Option Placed = first_placed (map tag_of (next ∷ tags)) (k + 1 + 1) v nodes in
      ap (λ (l : List CPart). First (found path m l)) (split (part_shown p) (preorder (k + 1 + 1) v nodes) outer ps)
      ∙ ap First (at-depth m k tag (next ∷ tags) own (part_shown p) xs false e refl refl proper.0.is_tag h
      (goes-on k tag next tags e))
      ∙ inner (bytes_eq (tag_of tag) own) inside after (found path (k + 1) xs) (found path k xs)
      (First (found path k ps))
      (first-tree nodes next tags (k + 1) v (k + 1) (map part_shown outer ++ ps) (inward k tag next tags e)
      (omega arith) proper.1
      (shallow-tree rest (k + 1) (v + n) (k + 1 + 1) ps (omega arith) (shallow-more (k + 1) ps s))
      ∙ ap (or_shown inside) (first-tree rest tag (next ∷ tags) k (v + n) (k + 1) ps e (omega arith) proper.2 s))
      (ap First (deep-tree nodes (k + 1 + 1) v k (map part_shown outer ++ ps) (omega arith))
      ∙ first-tree rest tag (next ∷ tags) k (v + n) k ps e (omega arith) proper.2 s)

and-false : (b : Bool) → (b && false) ≡ false
and-false true = refl
and-false false = refl

found-nothing : (m : ℕ) (ps : List CPart) → found [] m ps ≡ []
found-nothing m [] = refl
found-nothing m (p ∷ ps) =
    let k = min m (p.depth - 1) in
    ap (λ (b : Bool). if b then (if k + 1 == 0 then p ∷ ps else found [] (k + 1) ps) else found [] k ps)
    (and-false (p.depth == k + 1)) ∙ found-nothing k ps

or-none : (o : Option Placed) → or_shown o None ≡ first_shown o
or-none None = refl
or-none (Some p) = refl

first-found : (path : List CTag) (t : Tree) → IsProper 1 t
    → First (found path 0 (parts_shown t)) ≡ first_shown (first_placed (map tag_of path) 1 0 t)
first-found [] t proper = ap First (found-nothing 0 (parts_shown t))
first-found (tag ∷ tags) t proper =
    let path = tag ∷ tags in
    ap (λ (l : List CPart). First (found path 0 l)) (sym (append-nil (parts_shown t)))
    ∙ first-tree path t tag tags 0 0 0 [] refl (omega arith) proper tt
    ∙ or-none (first_placed (map tag_of path) 1 0 t)

-- ---- the search with places goes as the one without

same-cond : (b : Bool) (x y : Option Node) (p q : Option Placed) → IsSameObject x p → IsSameObject y q
    → IsSameObject (cond b x y) (cond b p q)
same-cond true x y p q h k = h
same-cond false x y p q h k = k

same-else : (x y : Option Node) (p q : Option Placed) → IsSameObject x p → IsSameObject y q
    → IsSameObject (or_else x y) (or_placed p q)
same-else None y None q h k = k
same-else None y (Some p) q h k = absurd h
same-else (Some n) y None q h k = absurd h
same-else (Some n) y (Some p) q h k = h

same-first : (path : List (List ℕ)) (t : Tree) (d at : ℕ) → IsSameObject (first_on path t) (first_placed path d at t)
same-first [] t d at = tt
same-first (tag ∷ []) End d at = tt
same-first (tag ∷ []) (Filler rest) d at = same-first (tag ∷ []) rest d (at + 1)
same-first (tag ∷ []) (Primitive own form value rest) d at =
    let n = length value in
    let v = value_place at own form n in
    same-cond (bytes_eq tag own) (Some (node.Primitive own form value)) (first_on (tag ∷ []) rest)
    (Some (record { depth = d; tag = own; form = form; place = v; len = n }))
    (first_placed (tag ∷ []) d (v + n) rest)
    (refl, refl, refl) (same-first (tag ∷ []) rest d (v + n))
same-first (tag ∷ []) (Constructed own form nodes rest) d at =
    let n = length (spelling nodes) in
    let v = value_place at own form n in
    same-cond (bytes_eq tag own) (Some (node.Constructed own form nodes)) (first_on (tag ∷ []) rest)
    (Some (record { depth = d; tag = own; form = form; place = v; len = n }))
    (first_placed (tag ∷ []) d (v + n) rest)
    (refl, refl, refl) (same-first (tag ∷ []) rest d (v + n))
same-first (tag ∷ next ∷ path) End d at = tt
same-first (tag ∷ next ∷ path) (Filler rest) d at = same-first (tag ∷ next ∷ path) rest d (at + 1)
same-first (tag ∷ next ∷ path) (Primitive own form value rest) d at =
    same-first (tag ∷ next ∷ path) rest d (value_place at own form (length value) + length value)
same-first (tag ∷ next ∷ path) (Constructed own form nodes rest) d at =
    let n = length (spelling nodes) in
    let v = value_place at own form n in
    same-else (cond (bytes_eq tag own) (first_on (next ∷ path) nodes) None) (first_on (tag ∷ next ∷ path) rest)
    (cond (bytes_eq tag own) (first_placed (next ∷ path) (d + 1) v nodes) None)
    (first_placed (tag ∷ next ∷ path) d (v + n) rest)
    (same-cond (bytes_eq tag own) (first_on (next ∷ path) nodes) None (first_placed (next ∷ path) (d + 1) v nodes) None
    (same-first (next ∷ path) nodes (d + 1) v) tt)
    (same-first (tag ∷ next ∷ path) rest d (v + n))

-- the part at the place from which on the rest is what is found
pub first-at : (path : List CTag) (t : Tree) (parts : List CPart) (place : ℕ) → IsProper 1 t → parts ≡ parts_shown t
    → drop place parts ≡ found path 0 parts
    → FindsFirst (map tag_of path) t (slice_get parts place)
first-at path t parts place proper is e = record {
  is = get-front parts place ∙ ap First e ∙ ap (λ (l : List CPart). First (found path 0 l)) is
      ∙ first-found path t proper;
  same = same-first (map tag_of path) t 1 0;
}
