use Rattle.std.proofs.Common.{List, [], ◌∷◌, ◌++◌, ℕ, ◌<◌, map, refl, sym, ap, subst, ◌∙◌, arith}
use Rattle.std.specs.Prelude.{Option, Ok, IfSome}
use Rattle.std.proofs.lemmas.List.{map-append}
use Rattle.std.proofs.lemmas.Result.{err_from_is_err_and}
use Rattle.octet_core.specs.Grammar.{Refuses, whole}
use Rattle.tlv_core.specs.declared.part.PlacedPart.{PlacedPart}
use Rattle.tlv_core.specs.Forest.{IsForest}
use Rattle.tlv_core.specs.Parts.{preorder}
use Rattle.tlv_core.specs.Reasons.{IsReason}
use Rattle.tlv_core.specs.Flat.{placed_of, given_by, HasGiven}
use Rattle.tlv_core.proofs.One.{one_forest}
use Rattle.tlv_core.proofs.Listing.{pushed, where_none}
use Rattle.tlv_core.proofs.walk.walk.Goals as goal

pub loop-parts-init : goal.loop-parts-init
loop-parts-init g c =
    let b = c.args.octets.now in (
      c.new-walk.ensures.limit,
      [],
      c.new-walk.ensures.nothing b,
      ap (map g.K.Keep.seen) c.new-parts.ensures.items,
    )

pub loop-parts-smaller : goal.loop-parts-smaller
loop-parts-smaller g c =
    let l = c.loop-parts in
    let more = subst (λ (n : Option PlacedPart). IfSome n (λ _. l.walk.count < c.next_part.new.self.count)) c.in-Some.is
    c.in_ok-part.ensures.more in
    let given = c.in_ok-part.ensures.given l.invariant.1 l.invariant.2 in
    omega (arith, more, given.within)

pub loop-parts-preserved : goal.loop-parts-preserved
loop-parts-preserved g c =
    let b = c.args.octets.now in
    let see = g.K.Keep.seen in
    let at = g.K.Keep.seen_in b in
    let l = c.loop-parts in
    let given = l.invariant.1 in
    let part = c.in-Some.part in (
      c.in_ok-part.ensures.limit ∙ l.invariant.0,
      given ++ placed_of part ∷ [],
      subst (λ (n : Option PlacedPart). HasGiven b c.next_part.new.self (given ++ given_by (Ok n))) c.in-Some.is
          (c.in_ok-part.ensures.given given l.invariant.2),
      ap (map see) (pushed _ c.is_err.result l.parts.items c.push.new.self.items c.kept.result c.push.ensures.items
          c.is_err.ensures.negation c.if-is_err.false)
          ∙ map-append see l.parts.items (c.kept.result ∷ [])
          ∙ ap (λ (v : g.K.Keep.Seen). map see l.parts.items ++ v ∷ []) c.kept.ensures
          ∙ ap (λ (seen : List g.K.Keep.Seen). seen ++ at (placed_of part) ∷ []) l.invariant.3
          ∙ sym (map-append at given (placed_of part ∷ [])),
    )

pub returns-clause-found : goal.returns-clause-found
returns-clause-found g c =
    let l = c.loop-parts in
    let all = where_none c.in_ok-part.field-0 c.in_default.not-Some
    (c.in_ok-part.ensures.all l.invariant.1 l.invariant.2) in
    (all.tree, (refl, subst (λ (max : ℕ). IsForest max all.tree c.args.octets.now) l.invariant.0 all.forest))

pub returns-clause-places : goal.returns-clause-places
returns-clause-places g c t h =
    let b = c.args.octets.now in
    let l = c.loop-parts in
    let all = where_none c.in_ok-part.field-0 c.in_default.not-Some
    (c.in_ok-part.ensures.all l.invariant.1 l.invariant.2) in
    l.invariant.3 ∙ ap (map (g.K.Keep.seen_in b)) (all.are
    ∙ ap (preorder 1 0) (one_forest l.walk.max c.args.max all.tree t b all.forest h))

pub returns-in_err-part-clause-refused : goal.returns-in_err-part-clause-refused
returns-in_err-part-clause-refused g c =
    let l = c.loop-parts in
    let p = err_from_is_err_and c.from_residual.result c.from_residual.ensures.1 in
    rw (p.1, p.2) (subst (λ (max : ℕ). Refuses whole (IsForest max) (IsReason max) c.args.octets.now
    c.in_err-part.field-0.0) l.invariant.0 (c.in_err-part.ensures.refused l.invariant.1 l.invariant.2))
