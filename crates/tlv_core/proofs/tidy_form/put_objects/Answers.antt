use Rattle.std.proofs.Common.{[], ◌∷◌, ◌++◌, ℕ, ◌<◌, map, sym, ap, subst, ◌∙◌, arith}
use Rattle.std.specs.Prelude.{Option, Ok, IfSome}
use Rattle.std.proofs.lemmas.Result.{err_from_is_err_and}
use Rattle.octet_core.specs.Grammar.{Refuses, whole}
use Rattle.tlv_core.specs.declared.part.PlacedPart.{PlacedPart}
use Rattle.tlv_core.specs.Forest.{IsForest}
use Rattle.tlv_core.specs.Reasons.{IsReason}
use Rattle.tlv_core.specs.Flat.{AreAllParts, placed_of, part_in, given_by, HasGiven}
use Rattle.tlv_core.specs.TidyForm.{Growing, IsKeptOf, grown_by, with_part, nothing_yet}
use Rattle.tlv_core.proofs.Listing.{where_none}
use Rattle.tlv_core.proofs.TidyKept.{grown_next, grown_whole}
use Rattle.tlv_core.proofs.tidy_form.put_objects.Goals as goal

pub loop-part-init : goal.loop-part-init
loop-part-init c =
    (c.new-walk.ensures.limit, [], c.new-walk.ensures.nothing c.args.octets.now, c.new-form.ensures c.args.out.now)

pub loop-part-smaller : goal.loop-part-smaller
loop-part-smaller c =
    let l = c.loop-part in
    let more = subst (λ (n : Option PlacedPart). IfSome n (λ _. l.walk.count < c.next_part.new.self.count)) c.in-Some.is
    c.in_ok-part.ensures.more in
    let given = c.in_ok-part.ensures.given l.invariant.1 l.invariant.2 in
    omega (arith, more, given.within)

pub loop-part-preserved : goal.loop-part-preserved
loop-part-preserved c =
    let b = c.args.octets.now in
    let old = c.args.out.now in
    let l = c.loop-part in
    let given = l.invariant.1 in
    let part = c.in-Some.part in
    let was : Growing = grown_by (map (part_in b) given) nothing_yet in (
      c.in_ok-part.ensures.limit ∙ l.invariant.0,
      given ++ placed_of part ∷ [],
      subst (λ (n : Option PlacedPart). HasGiven b c.next_part.new.self (given ++ given_by (Ok n))) c.in-Some.is
          (c.in_ok-part.ensures.given given l.invariant.2),
      subst (IsKeptOf old c.take.new.out c.take.new.self)
          (ap (with_part was) c.kept.ensures ∙ sym (grown_next b given (placed_of part) nothing_yet))
          (c.take.ensures old was l.invariant.3),
    )

pub returns-clause-ok : goal.returns-clause-ok
returns-clause-ok c =
    let b = c.args.octets.now in
    let old = c.args.out.now in
    let l = c.loop-part in
    let given = l.invariant.1 in
    let all = where_none c.in_ok-part.field-0 c.in_default.not-Some (c.in_ok-part.ensures.all given l.invariant.2) in
    grown_whole c.args.max b old c.close_to.new.out c.close_to.new.self given c.requires
    (subst (λ (max : ℕ). AreAllParts max b given) l.invariant.0 all)
    (c.close_to.ensures old (grown_by (map (part_in b) given) nothing_yet) l.invariant.3)

pub returns-in_err-part-clause-refused : goal.returns-in_err-part-clause-refused
returns-in_err-part-clause-refused c =
    let l = c.loop-part in
    let p = err_from_is_err_and c.from_residual.result c.from_residual.ensures.1 in
    rw (p.1, p.2) (subst (λ (max : ℕ). Refuses whole (IsForest max) (IsReason max) c.args.octets.now
    c.in_err-part.field-0.0) l.invariant.0 (c.in_err-part.ensures.refused l.invariant.1 l.invariant.2))
