use Rattle.std.proofs.Common.{◌≡◌, ◌∙◌, ℕ, List, [], ◌∷◌, ◌++◌, length, refl, sym, ap, subst, arith, inl, inr}
use Rattle.std.specs.Prelude.{Some}
use Rattle.std.proofs.lemmas.Bool.{false≢true}
use Rattle.std.proofs.lemmas.List.{length-map}
use Rattle.tlv_core.specs.declared.header.Next.TheVariants as next
use Rattle.tlv_core.specs.Tag.{constructed_bit}
use Rattle.tlv_core.specs.Nodes.{tree_of}
use Rattle.tlv_core.specs.Reasons.{Kept}
use Rattle.tlv_core.specs.Steps.{after_octet, after_next}
use Rattle.tlv_core.specs.Grown.{HasGrown}
use Rattle.tlv_core.specs.Read.{opened_of, grown_of, IsWholeNode}
use Rattle.tlv_core.proofs.Stands.{bit_cases}
use Rattle.tlv_core.proofs.Growing.{open_length}
use Rattle.tlv_core.proofs.Grows.{at_header, at_object, empty_grown, empty_kept, value_grown, open_grown}
use Rattle.tlv_core.proofs.Closes.{item_done, whole_tree}
use Rattle.tlv_core.proofs.partial.Partial.enter.Goals as goal

pub open-requires-clause-shallow : goal.open-requires-clause-shallow
open-requires-clause-shallow c =
    let old = c.args.self.now in
    let g = grown_of old in
    let k = c.requires.step.1 in
    let t = c.requires.step.3 in
    let at = at_object c.requires.step.0 k c.requires.step.2 c.args.header t.taken t.idle t.step in
    omega (
      arith,
      at.deep,
      open_length g.opened k.rooms 1 _ c.requires.step.0 t.grown.opened,
      length-map old.opened.items opened_of,
    )

pub returns-then-header-eq0 : goal.returns-then-header-eq0
returns-then-header-eq0 c b k x t e =
    let old = c.args.self.now in
    let new = c.add.new.self in
    let h = c.args.header in
    let g = grown_of old in
    let y = c.whole-node.result in
    let none : h.len ≡ 0 = c.if-header-eq0.true in
    let kept = empty_kept k h none in
    let some = empty_grown b k x h (tree_of (y ∷ [])) g.opened g.list t.taken t.idle t.step none
    (whole_tree h [] y (subst (λ (l : List ℕ). IsWholeNode h l y) c.new.ensures.items c.whole-node.ensures))
    (at_header b k g t.grown t.idle) in
    subst (λ (l : Kept). HasGrown (b ++ x ∷ []) l (grown_of new)) kept
    (item_done (b ++ x ∷ []) (after_octet k []) old new y (tree_of (y ∷ [])) refl refl refl c.add.ensures.idle some
    (λ closed. c.add.ensures.closed (b ++ x ∷ []) (after_octet k []).rooms closed
    (ap (λ (l : Kept). length l.rooms) kept ∙ e)))

pub returns-then-is_constructed : goal.returns-then-is_constructed
returns-then-is_constructed c b k x t e =
    let old = c.args.self.now in
    let h = c.args.header in
    let g = grown_of old in
    let some = open_grown b k x h g.opened g.list t.taken t.idle t.step (omega (arith, c.if-header-eq0.false))
    (c.is_constructed.ensures.0 c.if-is_constructed.true) (at_header b k g t.grown t.idle) in
    subst (HasGrown (b ++ x ∷ []) (after_next k (next.Object h))) (sym c.open.ensures) some

pub returns-else-is_constructed : goal.returns-else-is_constructed
returns-else-is_constructed c b k x t e =
    let old = c.args.self.now in
    let h = c.args.header in
    let g = grown_of old in
    let bit : constructed_bit h.tag ≡ 0 =
    elim (bit_cases h.tag) [
      | inl z ↦ z
      | inr o ↦ absurd (false≢true (sym c.if-is_constructed.false ∙ c.is_constructed.ensures.1 o))
    ] in
    let some = value_grown b k x h g.opened g.list t.taken t.idle t.step (omega (arith, c.if-header-eq0.false)) bit
    (at_header b k g t.grown t.idle) in
    subst (λ (l : List ℕ). HasGrown (b ++ x ∷ []) (after_next k (next.Object h))
    (record {
      opened = g.opened;
      list = g.list;
      value =
          Some (record { tag = h.tag; form = h.form; len = h.len; octets = l });
    }))
    (sym c.new-else-is_constructed.ensures.items) some
