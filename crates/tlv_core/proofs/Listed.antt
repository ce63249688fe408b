-- Lists of nodes by place, and the trees that contracts see.
use Rattle.std.proofs.Common.{◌≡◌, ℕ, ◌+◌, ◌-◌, ◌^◌, ◌<◌, ◌≤◌, List, [], ◌∷◌, ◌++◌, length, take, get_or, min, refl, sym, ap, subst, ◌∙◌, arith, suc, zero, append_assoc, append-nil}
use Rattle.std.proofs.lemmas.List.{length-append}
use Rattle.tlv_core.specs.declared.form.Form.{Form}
use Rattle.tlv_core.specs.declared.node.Node.{Node}
use Rattle.tlv_core.specs.declared.node.Node.TheVariants as node
use Rattle.tlv_core.specs.Form.{further}
use Rattle.tlv_core.specs.Tag.{header_of, length_field}
use Rattle.tlv_core.proofs.Forms.{length-field}
use Rattle.tlv_core.specs.Tree.{Tree, End, Filler, Primitive, Constructed, tree_size}
use Rattle.tlv_core.specs.Nodes.{tree_of}
use Rattle.tlv_core.specs.Forest.{spelling, IsProper, IsObject}
use Rattle.tlv_core.specs.Improper.{AreObjects}
use Rattle.std.proofs.Common.{cond, ltb, Bool, inl, inr}
use borrow.Author.Tests.{lt-ltb, le-ltb}
use Rattle.std.proofs.lemmas.Bool.{cases_lt}
use Rattle.tlv_core.specs.declared.form.Form.TheVariants.{One, Two, Three, Four, Five}
use Rattle.tlv_core.specs.Form.{shortest, capacity}
use Rattle.tlv_core.specs.Tidy.{tidy}
use Rattle.tlv_core.proofs.One.{join, join-end}
use Rattle.tlv_core.proofs.Stands.{spelling-join}

-- the tree of two lists joined is that of the second after that of the first
pub tree-append : (xs ys : List Node) → tree_of (xs ++ ys) ≡ join (tree_of xs) (tree_of ys)
tree-append [] ys = refl
tree-append (node.Filler ∷ xs) ys = ap Filler (tree-append xs ys)
tree-append (node.Primitive tag form value ∷ xs) ys = ap (Primitive tag form value) (tree-append xs ys)
tree-append (node.Constructed tag form nodes ∷ xs) ys = ap (Constructed tag form nodes) (tree-append xs ys)

take-more : (xs : List Node) (i : ℕ) (x : Node) → i < length xs → x ≡ get_or xs i x → take (i + 1) xs ≡ take i xs
    ++ x ∷ []
take-more [] i x lt e = absurd (omega arith)
take-more (y ∷ xs) zero x lt e = ap (λ (z : Node). z ∷ []) (sym e)
take-more (y ∷ xs) (suc i) x lt e = let more : suc i + 1 ≡ suc (i + 1) =
    omega arith in ap (λ (k : ℕ). take k (y ∷ xs)) more
    ∙ ap (λ (l : List Node). y ∷ l) (take-more xs i x (omega arith) e)

-- one node more
pub tree_more : (xs : List Node) (i : ℕ) (x : Node) → i < length xs → x ≡ get_or xs i x
    → tree_of (take (i + 1) xs) ≡ join (tree_of (take i xs)) (tree_of (x ∷ []))
tree_more xs i x lt e = ap tree_of (take-more xs i x lt e) ∙ tree-append (take i xs) (x ∷ [])

-- the octets of one node more come after those of the others
pub spelling_more : (xs : List Node) (i : ℕ) (x : Node) → i < length xs → x ≡ get_or xs i x
    → spelling (tree_of (take (i + 1) xs)) ≡ spelling (tree_of (take i xs)) ++ spelling (tree_of (x ∷ []))
spelling_more xs i x lt e = ap spelling (tree_more xs i x lt e) ∙ spelling-join (tree_of (take i xs)) (tree_of (x ∷ []))

fewer_behind : (y : Node) (xs : List Node) → tree_size (tree_of xs) < tree_size (tree_of (y ∷ xs))
fewer_behind node.Filler xs = omega arith
fewer_behind (node.Primitive tag form value) xs = omega arith
fewer_behind (node.Constructed tag form nodes) xs = omega arith

-- the nodes of an object are fewer than the list has
pub child_fewer : (xs : List Node) (i : ℕ) (tag : List ℕ) (form : Form) (nodes : Tree) (x : Node) → i < length xs
    → x ≡ get_or xs i x → x ≡ node.Constructed tag form nodes → tree_size nodes < tree_size (tree_of xs)
child_fewer [] i tag form nodes x lt e is = absurd (omega arith)
child_fewer (y ∷ xs) zero tag form nodes x lt e is =
    let all : tree_size (tree_of (y ∷ xs)) ≡ tree_size (tree_of (node.Constructed tag form nodes ∷ xs)) =
    ap (λ (z : Node). tree_size (tree_of (z ∷ xs))) (sym e ∙ is) in omega (arith, all)
child_fewer (y ∷ xs) (suc i) tag form nodes x lt e is =
    omega (arith, child_fewer xs i tag form nodes x (omega arith) e is, fewer_behind y xs)

-- ---- lengths

-- a header has the octets of its tag, one more, and the further ones of its form
pub length-header : (tag : List ℕ) (form : Form) (n : ℕ) → length (header_of tag form n) ≡ length tag + 1 + further form
length-header tag form n = omega (arith, length-append tag (length_field form n), length-field form n)

-- a primitive object has the octets of its header and its value
pub length_primitive : (tag : List ℕ) (form : Form) (value : List ℕ)
    → length (spelling (tree_of (node.Primitive tag form value ∷ []))) ≡ length (header_of tag form (length value)) +
    length value
length_primitive tag form value = omega (
  arith,
  length-append (header_of tag form (length value)) (value ++ []),
  length-append value [],
)

-- a constructed object has the octets of its header and its nodes
pub length_constructed : (tag : List ℕ) (form : Form) (nodes : Tree)
    → length (spelling (tree_of (node.Constructed tag form nodes ∷ []))) ≡ length
    (header_of tag form (length (spelling nodes))) + length (spelling nodes)
length_constructed tag form nodes = omega (
  arith,
  length-append (header_of tag form (length (spelling nodes))) (spelling nodes ++ []),
  length-append (spelling nodes) [],
)

-- one node more adds as many octets as it has
pub more_octets : (xs : List Node) (i : ℕ) (x : Node) → i < length xs → x ≡ get_or xs i x
    → length (spelling (tree_of (take (i + 1) xs))) ≡ length (spelling (tree_of (take i xs))) + length
    (spelling (tree_of (x ∷ [])))
more_octets xs i x lt e = ap length (spelling_more xs i x lt e)
    ∙ length-append (spelling (tree_of (take i xs))) (spelling (tree_of (x ∷ [])))

-- ---- one node of a list

-- each node of a proper list is proper by itself
pub proper_at : (xs : List Node) (i d : ℕ) (x : Node) → i < length xs → x ≡ get_or xs i x → IsProper d (tree_of xs)
    → IsProper d (tree_of (x ∷ []))
proper_at [] i d x lt e h = absurd (omega arith)
proper_at (node.Filler ∷ xs) zero d x lt e h = subst (λ (z : Node). IsProper d (tree_of (z ∷ []))) (sym e) tt
proper_at (node.Primitive tag form value ∷ xs) zero d x lt e h =
    subst (λ (z : Node). IsProper d (tree_of (z ∷ []))) (sym e) (h.0, h.1, tt)
proper_at (node.Constructed tag form nodes ∷ xs) zero d x lt e h =
    subst (λ (z : Node). IsProper d (tree_of (z ∷ []))) (sym e) (h.0, h.1, tt)
proper_at (node.Filler ∷ xs) (suc i) d x lt e h = proper_at xs i d x (omega arith) e h
proper_at (node.Primitive tag form value ∷ xs) (suc i) d x lt e h = proper_at xs i d x (omega arith) e h.2
proper_at (node.Constructed tag form nodes ∷ xs) (suc i) d x lt e h = proper_at xs i d x (omega arith) e h.2

spelling_behind : (y : Node) (xs : List Node) → spelling (tree_of (y ∷ xs)) ≡ spelling (tree_of (y ∷ []))
    ++ spelling (tree_of xs)
spelling_behind y xs = ap spelling (tree-append (y ∷ []) xs) ∙ spelling-join (tree_of (y ∷ [])) (tree_of xs)

-- no node has more octets than the list
pub size_at : (xs : List Node) (i : ℕ) (x : Node) → i < length xs → x ≡ get_or xs i x
    → length (spelling (tree_of (x ∷ []))) ≤ length (spelling (tree_of xs))
size_at [] i x lt e = absurd (omega arith)
size_at (y ∷ xs) zero x lt e = omega (
  arith,
  ap (λ (z : Node). length (spelling (tree_of (z ∷ [])))) e,
  ap length (spelling_behind y xs),
  length-append (spelling (tree_of (y ∷ []))) (spelling (tree_of xs)),
)
size_at (y ∷ xs) (suc i) x lt e = omega (
  arith,
  size_at xs i x (omega arith) e,
  ap length (spelling_behind y xs),
  length-append (spelling (tree_of (y ∷ []))) (spelling (tree_of xs)),
)

-- a constructed object of a list
pub record Inside (d : ℕ) (xs : List Node) (tag : List ℕ) (form : Form) (nodes : Tree) : Type 0 where
  pub object : IsObject d 1 tag form (length (spelling nodes))
  pub proper : IsProper (d + 1) nodes
  pub size : length (spelling nodes) ≤ length (spelling (tree_of xs))

-- each constructed node of a proper list is such an object
pub inside_at : (xs : List Node) (i d : ℕ) (x : Node) (tag : List ℕ) (form : Form) (nodes : Tree) → i < length xs
    → x ≡ get_or xs i x → x ≡ node.Constructed tag form nodes → IsProper d (tree_of xs) → Inside d xs tag form nodes
inside_at xs i d x tag form nodes lt e is h =
    let p : IsProper d (tree_of (node.Constructed tag form nodes ∷ [])) =
    subst (λ (z : Node). IsProper d (tree_of (z ∷ []))) is (proper_at xs i d x lt e h) in
    record {
      object = p.0;
      proper = p.1;
      size =
          omega (
            arith,
            size_at xs i x lt e,
            ap (λ (z : Node). length (spelling (tree_of (z ∷ [])))) is,
            length_constructed tag form nodes,
          );
    }

-- each primitive node of a proper list is an object
pub value_at : (xs : List Node) (i d : ℕ) (x : Node) (tag : List ℕ) (form : Form) (value : List ℕ) → i < length xs
    → x ≡ get_or xs i x → x ≡ node.Primitive tag form value → IsProper d (tree_of xs)
    → IsObject d 0 tag form (length value)
value_at xs i d x tag form value lt e is h = let p : IsProper d (tree_of (node.Primitive tag form value ∷ [])) =
    subst (λ (z : Node). IsProper d (tree_of (z ∷ []))) is (proper_at xs i d x lt e h) in p.0

-- ---- octets that are added

-- the header and the value of a node are added to those before it
pub added_node : (now old front : List ℕ) (xs : List Node) (i : ℕ) (x : Node) → i < length xs → x ≡ get_or xs i x
    → now ≡ (old ++ front) ++ spelling (tree_of (x ∷ [])) → front ≡ spelling (tree_of (take i xs)) → now ≡ old
    ++ spelling (tree_of (take (i + 1) xs))
added_node now old front xs i x lt e is front_is =
    is ∙ append_assoc old front (spelling (tree_of (x ∷ [])))
    ∙ ap (λ (l : List ℕ). old ++ (l ++ spelling (tree_of (x ∷ [])))) front_is
    ∙ ap (λ (l : List ℕ). old ++ l) (sym (spelling_more xs i x lt e))

-- a header and a value, added one after the other, are a primitive object
pub added_primitive : (a : List ℕ) (tag : List ℕ) (form : Form) (value : List ℕ)
    → (a ++ header_of tag form (length value)) ++ value ≡ a ++ spelling (tree_of (node.Primitive tag form value ∷ []))
added_primitive a tag form value = append_assoc a (header_of tag form (length value)) value
    ∙ ap (λ (l : List ℕ). a ++ (header_of tag form (length value) ++ l)) (sym (append-nil value))

-- a header and the octets of nodes, added so, are a constructed object
pub added_constructed : (a : List ℕ) (tag : List ℕ) (form : Form) (nodes : Tree)
    → (a ++ header_of tag form (length (spelling nodes))) ++ spelling nodes ≡ a
    ++ spelling (tree_of (node.Constructed tag form nodes ∷ []))
added_constructed a tag form nodes = append_assoc a (header_of tag form (length (spelling nodes))) (spelling nodes)
    ∙ ap (λ (l : List ℕ). a ++ (header_of tag form (length (spelling nodes)) ++ l)) (sym (append-nil (spelling nodes)))

-- for a filler 00 is added
pub by_filler : (now start a : List ℕ) (x : Node) → now ≡ start ++ 0 ∷ [] → start ≡ a → x ≡ node.Filler → now ≡ a
    ++ spelling (tree_of (x ∷ []))
by_filler now start a x p q e = p ∙ ap (λ (l : List ℕ). l ++ 0 ∷ []) q
    ∙ ap (λ (z : Node). a ++ spelling (tree_of (z ∷ []))) (sym e)

-- for a primitive object its header and its value are added
pub by_primitive : (now mid start a v w : List ℕ) (tag : List ℕ) (form : Form) (value : List ℕ) (x : Node) → now ≡ mid
    ++ w → mid ≡ start ++ header_of tag form (length v) → start ≡ a → v ≡ value → w ≡ value
    → x ≡ node.Primitive tag form value → now ≡ a ++ spelling (tree_of (x ∷ []))
by_primitive now mid start a v w tag form value x p q s ev ew e =
    p ∙ ap (λ (l : List ℕ). l ++ w) q ∙ ap (λ (l : List ℕ). (l ++ header_of tag form (length v)) ++ w) s
    ∙ ap (λ (l : List ℕ). (a ++ header_of tag form (length l)) ++ w) ev
    ∙ ap (λ (l : List ℕ). (a ++ header_of tag form (length value)) ++ l) ew
    ∙ added_primitive a tag form value ∙ ap (λ (z : Node). a ++ spelling (tree_of (z ∷ []))) (sym e)

-- for a constructed object its header and the octets of its nodes are added
pub by_constructed : (now mid start a : List ℕ) (n : ℕ) (tag : List ℕ) (form : Form) (nodes : Tree) (x : Node)
    → now ≡ mid ++ spelling nodes → mid ≡ start ++ header_of tag form n → start ≡ a → n ≡ length (spelling nodes)
    → x ≡ node.Constructed tag form nodes → now ≡ a ++ spelling (tree_of (x ∷ []))
by_constructed now mid start a n tag form nodes x p q s en e =
    p ∙ ap (λ (l : List ℕ). l ++ spelling nodes) q
    ∙ ap (λ (l : List ℕ). (l ++ header_of tag form n) ++ spelling nodes) s
    ∙ ap (λ (m : ℕ). (a ++ header_of tag form m) ++ spelling nodes) en ∙ added_constructed a tag form nodes
    ∙ ap (λ (z : Node). a ++ spelling (tree_of (z ∷ []))) (sym e)

-- ---- tags and octets

objects_join : (s t : Tree) → AreObjects s → AreObjects t → AreObjects (join s t)
objects_join End t h g = g
objects_join (Filler rest) t h g = objects_join rest t h g
objects_join (Primitive tag form value rest) t h g = (h.0, h.1, objects_join rest t h.2 g)
objects_join (Constructed tag form nodes rest) t h g = (h.0, h.1, objects_join rest t h.2 g)

-- where the nodes so far and one more are of tags and octets, so are all of them
pub objects_more : (xs : List Node) (i : ℕ) (x : Node) → i < length xs → x ≡ get_or xs i x
    → AreObjects (tree_of (take i xs)) → AreObjects (tree_of (x ∷ [])) → AreObjects (tree_of (take (i + 1) xs))
objects_more xs i x lt e h g = subst AreObjects (sym (tree_more xs i x lt e))
    (objects_join (tree_of (take i xs)) (tree_of (x ∷ [])) h g)

-- ---- tidying

tidy_join : (s t : Tree) → tidy (join s t) ≡ join (tidy s) (tidy t)
tidy_join End t = refl
tidy_join (Filler rest) t = tidy_join rest t
tidy_join (Primitive tag form value rest) t = ap (Primitive tag (shortest (length value)) value) (tidy_join rest t)
tidy_join (Constructed tag form nodes rest) t =
    ap (Constructed tag (shortest (length (spelling (tidy nodes)))) (tidy nodes)) (tidy_join rest t)

-- the tidy form of one node more comes after that of the others
pub tidy_more : (xs : List Node) (i : ℕ) (x : Node) → i < length xs → x ≡ get_or xs i x
    → tidy (tree_of (take (i + 1) xs)) ≡ join (tidy (tree_of (take i xs))) (tidy (tree_of (x ∷ [])))
tidy_more xs i x lt e = ap tidy (tree_more xs i x lt e) ∙ tidy_join (tree_of (take i xs)) (tree_of (x ∷ []))

-- a filler adds nothing to the tidy list
pub tidy_filler : (xs : List Node) (i : ℕ) (x : Node) (done now : List Node) → i < length xs → x ≡ get_or xs i x
    → x ≡ node.Filler → now ≡ done → tree_of done ≡ tidy (tree_of (take i xs))
    → tree_of now ≡ tidy (tree_of (take (i + 1) xs))
tidy_filler xs i x done now lt e is same h =
    ap tree_of same ∙ h ∙ sym (tidy_more xs i x lt e
    ∙ ap (λ (z : Node). join (tidy (tree_of (take i xs))) (tidy (tree_of (z ∷ [])))) is
    ∙ join-end (tidy (tree_of (take i xs))))

-- a node that is pushed is the tidy one
pub tidy_pushed : (xs : List Node) (i : ℕ) (x y : Node) (done now : List Node) → i < length xs → x ≡ get_or xs i x
    → tree_of (y ∷ []) ≡ tidy (tree_of (x ∷ [])) → now ≡ done ++ y ∷ [] → tree_of done ≡ tidy (tree_of (take i xs))
    → tree_of now ≡ tidy (tree_of (take (i + 1) xs))
tidy_pushed xs i x y done now lt e is same h =
    ap tree_of same ∙ tree-append done (y ∷ []) ∙ ap (λ (s : Tree). join s (tree_of (y ∷ []))) h
    ∙ ap (join (tidy (tree_of (take i xs)))) is ∙ sym (tidy_more xs i x lt e)

below_alike : (n m c : ℕ) → c ≤ m → ltb (min n m) c ≡ ltb n c
below_alike n m c le =
    elim (cases_lt n c) [
      | inl lt ↦ lt-ltb (min n m) c (omega arith) ∙ sym (lt-ltb n c lt)
      | inr ge ↦ le-ltb (min n m) c (omega arith) ∙ sym (le-ltb n c ge)
    ]

-- a length that a form can say is not the greatest number
pub shortest_min : (n : ℕ) → shortest (min n (2 ^ 64 - 1)) ≡ shortest n
shortest_min n =
    let m = 2 ^ 64 - 1 in
    ap (λ (b : Bool). cond b One (cond (ltb (min n m) (capacity Two)) Two
    (cond (ltb (min n m) (capacity Three)) Three (cond (ltb (min n m) (capacity Four)) Four Five))))
    (below_alike n m (capacity One) (omega arith))
    ∙ ap (λ (b : Bool). cond (ltb n (capacity One)) One
    (cond b Two (cond (ltb (min n m) (capacity Three)) Three (cond (ltb (min n m) (capacity Four)) Four Five))))
    (below_alike n m (capacity Two) (omega arith))
    ∙ ap (λ (b : Bool). cond (ltb n (capacity One)) One
    (cond (ltb n (capacity Two)) Two (cond b Three (cond (ltb (min n m) (capacity Four)) Four Five))))
    (below_alike n m (capacity Three) (omega arith))
    ∙ ap (λ (b : Bool). cond (ltb n (capacity One)) One
    (cond (ltb n (capacity Two)) Two (cond (ltb n (capacity Three)) Three (cond b Four Five))))
    (below_alike n m (capacity Four) (omega arith))
