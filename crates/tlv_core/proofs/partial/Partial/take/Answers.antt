use Rattle.std.proofs.Common.{◌≡◌, ℕ, List, [], ◌∷◌, ◌++◌, length, refl, sym, subst}
use Rattle.tlv_core.specs.declared.header.Next.{Next}
use Rattle.tlv_core.specs.declared.header.Next.TheVariants as next
use Rattle.tlv_core.specs.declared.node.Node.TheVariants as node
use Rattle.tlv_core.specs.declared.partial.Partial.{Partial}
use Rattle.tlv_core.specs.Tree.{End, Filler}
use Rattle.tlv_core.specs.Reasons.{Kept}
use Rattle.tlv_core.specs.Steps.{after_next}
use Rattle.tlv_core.specs.Grown.{HasGrown}
use Rattle.tlv_core.specs.Read.{grown_of, TakesNext}
use Rattle.tlv_core.proofs.Grows.{at_header, filler_grown, under_grown, none_kept}
use Rattle.tlv_core.proofs.Closes.{item_done}
use Rattle.tlv_core.proofs.partial.Partial.take.Goals as goal

-- what is promised where this is made of the header
abbrev Promise : Partial → Partial → ℕ → Next → Type 0
Promise old new level next =
    (b : List ℕ) (k : Kept) (x : ℕ) → TakesNext b k x next (grown_of old) → length (after_next k next).rooms ≡ level
    → HasGrown (b ++ x ∷ []) (after_next k next) (grown_of new)

pub returns-in-Filler : goal.returns-in-Filler
returns-in-Filler c =
    let old = c.args.self.now in
    let new = c.add.new.self in
    let filler : Promise old new c.args.level next.Filler = λ b k x t e.
    let g = grown_of old in
    let some = filler_grown b k x g.opened g.list t.taken t.idle t.step (at_header b k g t.grown t.idle) in
    item_done (b ++ x ∷ []) (after_next k next.Filler) old new node.Filler (Filler End) refl refl refl
    c.add.ensures.idle some (λ closed. c.add.ensures.closed (b ++ x ∷ []) (after_next k next.Filler).rooms closed e)
    in
    subst (Promise old new c.args.level) (sym c.in-Filler.is) filler

pub returns-in-Under : goal.returns-in-Under
returns-in-Under c =
    let old = c.args.self.now in
    let under : Promise old old c.args.level (next.Under c.in-Under.field-0) = λ b k x t e.
    let g = grown_of old in
    subst (HasGrown (b ++ x ∷ []) (after_next k (next.Under c.in-Under.field-0))) (sym (none_kept b k g t.grown t.idle))
    (under_grown b k x c.in-Under.field-0 g.opened g.list t.taken t.idle t.step (at_header b k g t.grown t.idle)) in
    subst (Promise old old c.args.level) (sym c.in-Under.is) under

pub returns-in-Object : goal.returns-in-Object
returns-in-Object c = subst (Promise c.args.self.now c.enter.new.self c.args.level) (sym c.in-Object.is) c.enter.ensures
