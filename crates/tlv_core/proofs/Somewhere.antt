-- Objects that are so somewhere in a list, found node by node.
use Rattle.std.proofs.Common.{◌≡◌, ℕ, ◌+◌, ◌-◌, ◌^◌, ◌<◌, ◌⊎◌, ◌↔◌, List, [], ◌∷◌, length, take, get_or, min, sym, subst, inl, inr, arith, suc, zero}
use Rattle.std.proofs.lemmas.Bool.{cases_lt}
use Rattle.tlv_core.specs.declared.form.Form.{Form}
use Rattle.tlv_core.specs.declared.node.Node.{Node}
use Rattle.tlv_core.specs.declared.node.Node.TheVariants as node
use Rattle.tlv_core.specs.Tree.{Tree, End, Filler, Primitive, Constructed}
use Rattle.tlv_core.specs.Nodes.{tree_of}
use Rattle.tlv_core.specs.declared.survey.Fault.{Fault}
use Rattle.tlv_core.specs.declared.survey.Fault.TheVariants as fault
use Rattle.tlv_core.specs.Forest.{deepest, spelling}
use Rattle.tlv_core.specs.Improper.{SomeObject, HasFault}
use Rattle.tlv_core.specs.Own.{OwnIs}
use Rattle.tlv_core.proofs.One.{join}
use Rattle.tlv_core.proofs.Listed.{tree_more}

module _ (Is : ℕ → ℕ → List ℕ → Form → ℕ → Type 0) where
  some_join : (d : ℕ) (s t : Tree) → SomeObject Is d (join s t) → SomeObject Is d s ⊎ SomeObject Is d t
  some_join d End t h = inr h
  some_join d (Filler rest) t h = some_join d rest t h
  some_join d (Primitive tag form value rest) t h =
      elim h [ inl a ↦ inl (inl a) | inr a ↦ elim (some_join d rest t a) [ inl b ↦ inl (inr b) | inr b ↦ inr b ] ]
  some_join d (Constructed tag form nodes rest) t h =
      elim h [
        | inl a ↦ inl (inl a)
        | inr a ↦ elim a [
          | inl b ↦ inl (inr (inl b))
          | inr b ↦ elim (some_join d rest t b) [ inl e ↦ inl (inr (inr e)) | inr e ↦ inr e ]
        ]
      ]

  -- a node of the list is so by itself, or has such an object inside
  some_one : (d : ℕ) (x : Node) → SomeObject Is d (tree_of (x ∷ [])) → OwnIs Is d x
      ⊎ ((tag : List ℕ) × (form : Form) × (nodes : Tree) × (x ≡ node.Constructed tag form nodes)
      × SomeObject Is (d + 1) nodes)
  some_one d node.Filler h = absurd h
  some_one d (node.Primitive tag form value) h = elim h [ inl a ↦ inl a | inr a ↦ absurd a ]
  some_one d (node.Constructed tag form nodes) h =
      elim h [
        | inl a ↦ inl a
        | inr a ↦ elim a
            [ inl b ↦ inr (tag, form, nodes, λ _. node.Constructed tag form nodes, b) | inr b ↦ absurd b ]
      ]

  some_head : (d : ℕ) (x : Node) (xs : List Node) → SomeObject Is d (tree_of (x ∷ []))
      → SomeObject Is d (tree_of (x ∷ xs))
  some_head d node.Filler xs h = absurd h
  some_head d (node.Primitive tag form value) xs h = elim h [ inl a ↦ inl a | inr a ↦ absurd a ]
  some_head d (node.Constructed tag form nodes) xs h =
      elim h [ inl a ↦ inl a | inr a ↦ elim a [ inl b ↦ inr (inl b) | inr b ↦ absurd b ] ]

  some_tail : (d : ℕ) (x : Node) (xs : List Node) → SomeObject Is d (tree_of xs) → SomeObject Is d (tree_of (x ∷ xs))
  some_tail d node.Filler xs h = h
  some_tail d (node.Primitive tag form value) xs h = inr h
  some_tail d (node.Constructed tag form nodes) xs h = inr (inr h)

  some_at : (d : ℕ) (xs : List Node) (i : ℕ) (x : Node) → i < length xs → x ≡ get_or xs i x
      → SomeObject Is d (tree_of (x ∷ [])) → SomeObject Is d (tree_of xs)
  some_at d [] i x lt e h = absurd (omega arith)
  some_at d (y ∷ xs) zero x lt e h = some_head d y xs (subst (λ (z : Node). SomeObject Is d (tree_of (z ∷ []))) e h)
  some_at d (y ∷ xs) (suc i) x lt e h = some_tail d y xs (some_at d xs i x (omega arith) e h)

  own_one : (d : ℕ) (x : Node) → OwnIs Is d x → SomeObject Is d (tree_of (x ∷ []))
  own_one d node.Filler h = absurd h
  own_one d (node.Primitive tag form value) h = inl h
  own_one d (node.Constructed tag form nodes) h = inl h

  -- where a node of a list is so by itself, some object of the list is
  pub some_own : (d : ℕ) (xs : List Node) (i : ℕ) (x : Node) → i < length xs → x ≡ get_or xs i x → OwnIs Is d x
      → SomeObject Is d (tree_of xs)
  some_own d xs i x lt e h = some_at d xs i x lt e (own_one d x h)

  -- and where some object is so in the nodes of one
  pub some_inner : (d : ℕ) (xs : List Node) (i : ℕ) (x : Node) (tag : List ℕ) (form : Form) (nodes : Tree)
      → i < length xs → x ≡ get_or xs i x → x ≡ node.Constructed tag form nodes → SomeObject Is (d + 1) nodes
      → SomeObject Is d (tree_of xs)
  some_inner d xs i x tag form nodes lt e is h =
      some_at d xs i x lt e (subst (λ (z : Node). SomeObject Is d (tree_of (z ∷ []))) (sym is) (inr (inl h)))

  -- where none so far is so, nor one node more, nor any object inside it, none of them all is
  pub none_more : (d : ℕ) (xs : List Node) (i : ℕ) (x : Node) → i < length xs → x ≡ get_or xs i x
      → (SomeObject Is d (tree_of (take i xs)) → ⊥) → (OwnIs Is d x → ⊥)
      → ((tag : List ℕ) (form : Form) (nodes : Tree) → x ≡ node.Constructed tag form nodes → SomeObject Is (d + 1) nodes
      → ⊥)
      → SomeObject Is d (tree_of (take (i + 1) xs)) → ⊥
  none_more d xs i x lt e before own inner h =
      elim (some_join d (tree_of (take i xs)) (tree_of (x ∷ [])) (subst (SomeObject Is d) (tree_more xs i x lt e) h)) [
        | inl a ↦ before a
        | inr a ↦ elim (some_one d x a) [ inl b ↦ own b | inr b ↦ inner b.0 b.1 b.2 b.3 b.4 ]
      ]

-- a constructed node has one list of nodes
pub same_nodes : (tag tag' : List ℕ) (form form' : Form) (nodes nodes' : Tree) (x : Node)
    → x ≡ node.Constructed tag form nodes → x ≡ node.Constructed tag' form' nodes' → nodes ≡ nodes'
same_nodes tag tag' form form' nodes nodes' x p q = cc

-- ---- a depth greater than 16 is like any other

fault_alike : (f : Fault) (d e bit : ℕ) (tag : List ℕ) (form : Form) (n : ℕ) → deepest < e
    → HasFault f d bit tag form n → HasFault f e bit tag form n
fault_alike fault.Depth d e bit tag form n lt h = lt
fault_alike fault.Tag d e bit tag form n lt h = h
fault_alike fault.Form d e bit tag form n lt h = h

too_deep_alike : (f : Fault) (d e : ℕ) (t : Tree) → deepest < e → SomeObject (HasFault f) d t
    → SomeObject (HasFault f) e t
too_deep_alike f d e End lt h = h
too_deep_alike f d e (Filler rest) lt h = too_deep_alike f d e rest lt h
too_deep_alike f d e (Primitive tag form value rest) lt h =
    elim h [
      | inl a ↦ inl (fault_alike f d e 0 tag form (length value) lt a)
      | inr a ↦ inr (too_deep_alike f d e rest lt a)
    ]
too_deep_alike f d e (Constructed tag form nodes rest) lt h =
    elim h [
      | inl a ↦ inl (fault_alike f d e 1 tag form (length (spelling nodes)) lt a)
      | inr a ↦ elim a [
        | inl b ↦ inr (inl (too_deep_alike f (d + 1) (e + 1) nodes (omega arith) b))
        | inr b ↦ inr (inr (too_deep_alike f d e rest lt b))
      ]
    ]

-- so the next depth may stop at the greatest number
pub one_deeper : (f : Fault) (d e : ℕ) (t : Tree) → e ≡ min (d + 1) (2 ^ 64 - 1)
    → SomeObject (HasFault f) e t ↔ SomeObject (HasFault f) (d + 1) t
one_deeper f d e t is =
    elim (cases_lt deepest d) [
      | inl lt ↦ (too_deep_alike f e (d + 1) t (omega arith), too_deep_alike f (d + 1) e t (omega arith))
      | inr le ↦
          let same : e ≡ d + 1 = omega arith in (
            subst (λ (k : ℕ). SomeObject (HasFault f) k t) same,
            subst (λ (k : ℕ). SomeObject (HasFault f) k t) (sym same),
          )
    ]
