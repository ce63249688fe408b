use Rattle.std.proofs.Common.{◌∙◌, ℕ, List, [], ◌∷◌, ◌++◌, take, refl, sym, ap, subst, arith}
use Rattle.std.proofs.lemmas.List.{length-map}
use Rattle.tlv_core.specs.declared.header.ObjectHeader.{ObjectHeader}
use Rattle.tlv_core.specs.Nodes.{tree_of}
use Rattle.tlv_core.specs.Short.{after_short, taken_of, value_in}
use Rattle.tlv_core.specs.Grown.{HasGrown}
use Rattle.tlv_core.specs.Read.{opened_of, grown_of, entering}
use Rattle.tlv_core.proofs.Growing.{open_length}
use Rattle.tlv_core.proofs.Grows.{IsWholeItem}
use Rattle.tlv_core.proofs.Closes.{item_done, whole_tree}
use Rattle.tlv_core.proofs.Entering.{short_item, short_open}
use Rattle.tlv_core.proofs.partial.Partial.take_short.Goals as goal

pub open-requires-clause-shallow : goal.open-requires-clause-shallow
open-requires-clause-shallow c =
    let old = c.args.self.now in
    let g = grown_of old in
    let t = c.requires.step.3 in
    omega (
      arith,
      t.may.shallow,
      open_length g.opened c.requires.step.2.rooms 1 _ c.requires.step.0 t.grown.opened,
      length-map old.opened.items opened_of,
    )

pub returns-in-Some : goal.returns-in-Some
returns-in-Some c b octets k t v e =
    let g = grown_of c.args.self.now in
    let o = c.args.short in
    subst (HasGrown (b ++ take (taken_of o) octets) (after_short k o))
    (sym (c.open.ensures ∙ ap (entering g) c.object-header.ensures))
    (short_open b octets k o g _ t c.in-Some.ensures.some.2)

pub returns-in-None : goal.returns-in-None
returns-in-None c b octets k t v e =
    let old = c.args.self.now in
    let new = c.add.new.self in
    let o = c.args.short in
    let y = c.whole-node.result in
    let all = b ++ take (taken_of o) octets in
    let whole = subst (λ (v : List ℕ). IsWholeItem c.object-header.result v (tree_of (y ∷ []))) v
    (whole_tree c.object-header.result c.args.value.items y c.whole-node.ensures) in
    let is = subst (λ (h : ObjectHeader). IsWholeItem h (value_in octets o) (tree_of (y ∷ []))) c.object-header.ensures
    whole in
    item_done all (after_short k o) old new y (tree_of (y ∷ [])) refl refl refl c.add.ensures.idle
    (short_item b octets k o (grown_of old) (tree_of (y ∷ [])) t c.in-None.ensures.none is)
    (λ closed. c.add.ensures.closed all (after_short k o).rooms closed e)
