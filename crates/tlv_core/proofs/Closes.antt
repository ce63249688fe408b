-- Open objects in the code, and how they are closed.
use Rattle.std.proofs.Common.{◌≡◌, inl, inr, ℕ, ◌+◌, ◌<◌, ◌≤◌, List, [], ◌∷◌, ◌++◌, length, sym, ap, subst, ◌∙◌, arith, zero, suc, length-append}
use Rattle.std.specs.Prelude.{map, Option, None}
use Rattle.std.proofs.lemmas.List.{map-append, length-map}
use Rattle.tlv_core.specs.declared.node.Node.{Node}
use Rattle.tlv_core.specs.declared.node.Node.TheVariants as node
use Rattle.tlv_core.specs.declared.header.ObjectHeader.{ObjectHeader}
use Rattle.tlv_core.specs.declared.partial.OpenObject.{OpenObject}
use Rattle.tlv_core.specs.declared.partial.OpenValue.{OpenValue}
use Rattle.tlv_core.specs.declared.partial.Partial.{Partial}
use Rattle.tlv_core.specs.Number.{zeros}
use Rattle.tlv_core.specs.Tree.{Tree, End}
use Rattle.tlv_core.specs.Forest.{spelling}
use Rattle.tlv_core.specs.Nodes.{tree_of}
use Rattle.tlv_core.specs.Reasons.{Kept}
use Rattle.tlv_core.specs.Grown.{Opened, HasGrown, Closing}
use Rattle.tlv_core.specs.Read.{opened_of, value_of, grown_of, entering, IsWholeNode}
use Rattle.tlv_core.proofs.One.{join}
use Rattle.tlv_core.proofs.Listed.{tree-append}
use Rattle.tlv_core.proofs.Stands.{length-zeros}
use Rattle.tlv_core.proofs.Growing.{ClosingSome, open_length, close_one, closed_list, closing_done}
use Rattle.tlv_core.proofs.Grows.{IsWholeItem}

-- some of the objects are closed, and as many more can be
pub record ClosesOn (b rooms : List ℕ) (opened : List OpenObject) (list : List Node) : Type 0 where
  pub closed : ℕ
  pub closing : Closing b rooms closed (map opened_of opened) (tree_of list)

closing_length : (b rooms : List ℕ) (closed : ℕ) (opened : List Opened) (list : Tree)
    → Closing b rooms closed opened list → length opened ≡ length rooms + closed
closing_length b rooms closed opened list h =
    open_length opened (rooms ++ zeros closed) 1 (spelling list) b h.opened_yet ∙ length-append rooms (zeros closed)
    ∙ ap (λ (n : ℕ). length rooms + n) (length-zeros closed)

closes_last : (b rooms : List ℕ) (closed : ℕ) (opened : List OpenObject) (o : OpenObject) (nodes : Tree)
    → length rooms < length opened + 1 → Closing b rooms closed (map opened_of opened ++ opened_of o ∷ []) nodes
    → (left : ℕ) × Closing b rooms left (map opened_of opened) (closed_list (opened_of o) nodes)
closes_last b rooms zero opened o nodes lt h =
    absurd (omega (
      arith,
      closing_length b rooms 0 (map opened_of opened ++ opened_of o ∷ []) nodes h,
      length-append (map opened_of opened) (opened_of o ∷ []),
      length-map opened opened_of,
    ))
closes_last b rooms (suc n) opened o nodes lt h =
    (n, (close_one b rooms n (map opened_of opened) (opened_of o) nodes h).0)

-- the innermost open object is closed
pub closes_more : (b rooms : List ℕ) (before after : List OpenObject) (o : OpenObject) (list now : List Node)
    → length rooms < length before → before ≡ after ++ o ∷ [] → now ≡ o.before.items
    ++ node.Constructed o.header.tag o.header.form (tree_of list) ∷ [] → ClosesOn b rooms before list
    → ClosesOn b rooms after now
closes_more b rooms before after o list now lt is now_is h =
    let all : map opened_of before ≡ map opened_of after ++ opened_of o ∷ [] =
    ap (map opened_of) is ∙ map-append opened_of after (o ∷ []) in
    let c = closes_last b rooms h.closed after o (tree_of list)
    (omega (arith, ap length is, length-append after (o ∷ [])))
    (subst (λ (l : List Opened). Closing b rooms h.closed l (tree_of list)) all h.closing) in
    let tree : closed_list (opened_of o) (tree_of list) ≡ tree_of now =
    sym (tree-append o.before.items (node.Constructed o.header.tag o.header.form (tree_of list) ∷ []))
    ∙ ap tree_of (sym now_is) in
    record { closed = c.0; closing = subst (Closing b rooms c.0 (map opened_of after)) tree c.1 }

-- none is left to be closed
pub closes_all : (b rooms : List ℕ) (opened : List OpenObject) (list : List Node) → length opened ≤ length rooms
    → ClosesOn b rooms opened list → Closing b rooms 0 (map opened_of opened) (tree_of list)
closes_all b rooms opened list le h =
    let none : h.closed ≡ 0 = omega (
      arith,
      closing_length b rooms h.closed (map opened_of opened) (tree_of list) h.closing,
      length-map opened opened_of,
    ) in
    subst (λ (n : ℕ). Closing b rooms n (map opened_of opened) (tree_of list)) none h.closing

-- ---- what a header adds

-- a node is added, and all is closed that can be
pub item_done : (b : List ℕ) (k : Kept) (old new : Partial) (y : Node) (item : Tree) → tree_of (y ∷ []) ≡ item
    → k.header ≡ [] → k.value_left ≡ 0 → new.value ≡ None
    → ClosingSome b k.rooms (map opened_of old.opened.items) (join (tree_of old.list.items) item)
    → ((closed : ℕ) → Closing b k.rooms closed (map opened_of old.opened.items) (tree_of (old.list.items ++ y ∷ []))
    → Closing b k.rooms 0 (map opened_of new.opened.items) (tree_of new.list.items)) → HasGrown b k (grown_of new)
item_done b k old new y item item_is none z idle h close =
    let tree : join (tree_of old.list.items) item ≡ tree_of (old.list.items ++ y ∷ []) =
    ap (join (tree_of old.list.items)) (sym item_is) ∙ sym (tree-append old.list.items (y ∷ [])) in
    let before = subst (Closing b k.rooms h.closed (map opened_of old.opened.items)) tree h.closing in
    subst (λ (v : Option OpenValue). HasGrown b k
    (record { opened = map opened_of new.opened.items; list = tree_of new.list.items; value = value_of v }))
    (sym idle) (closing_done b k (map opened_of new.opened.items) (tree_of new.list.items) none z
    (close h.closed before))

-- a node that is a whole object is a whole item of a tree
pub whole_tree : (h : ObjectHeader) (value : List ℕ) (y : Node) → IsWholeNode h value y
    → IsWholeItem h value (tree_of (y ∷ []))
whole_tree h value y (inl e) = inl (e.0, ap (λ (n : Node). tree_of (n ∷ [])) e.1)
whole_tree h value y (inr e) = inr (e.0, ap (λ (n : Node). tree_of (n ∷ [])) e.1)

-- an object is open after the others
pub open_done : (old : Partial) (now : List OpenObject) (o : OpenObject) (list : List Node) (value : Option OpenValue)
    → old.value ≡ None → value ≡ old.value → now ≡ old.opened.items ++ o ∷ [] → o.before.items ≡ old.list.items
    → list ≡ []
    → record { opened = map opened_of now; list = tree_of list; value = value_of value } ≡ entering (grown_of old)
    o.header
open_done old now o list value idle same is list_is none =
    let g = grown_of old in
    let h = o.header in
    let all : map opened_of now ≡ map opened_of old.opened.items
    ++ record { before = tree_of old.list.items; tag = h.tag; form = h.form; len = h.len } ∷ [] =
    ap (map opened_of) is ∙ map-append opened_of old.opened.items (o ∷ [])
    ∙ ap (λ (l : List Node). map opened_of old.opened.items
    ++ record { before = tree_of l; tag = h.tag; form = h.form; len = h.len } ∷ []) list_is in
    ap (λ (l : List Opened). record { opened = l; list = tree_of list; value = value_of value }) all
    ∙ ap (λ (l : List Node). record { opened = (entering g h).opened; list = tree_of l; value = value_of value }) none
    ∙ ap (λ (v : Option OpenValue). record { opened = (entering g h).opened; list = End; value = value_of v })
    (same ∙ idle)
