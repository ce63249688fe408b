use Rattle.std.proofs.Common.{◌++◌, ◌<◌, refl, sym, subst, arith}
use Rattle.std.specs.Prelude.{Option, Ok, IfSome}
use Rattle.std.proofs.lemmas.Result.{err_from_is_err_and}
use Rattle.tlv_core.specs.Dol.{HasListed, listed_by}
use Rattle.tlv_core.proofs.Entries.{Entry}
use Rattle.tlv_core.proofs.Listing.{pushed, where_none}
use Rattle.tlv_core.proofs.dol.Dol.decode.Goals as goal

pub loop-entries-smaller : goal.loop-entries-smaller
loop-entries-smaller c =
    let l = c.loop-entries in
    let more = subst (λ (n : Option Entry). IfSome n (λ _. l.walk < c.next_entry.new.self)) c.in-Some.is
    c.in_ok-entry.ensures.more in
    let given = c.in_ok-entry.ensures.given l.entries.items l.invariant in
    omega (arith, more, given.within)

pub loop-entries-preserved : goal.loop-entries-preserved
loop-entries-preserved c =
    let b = c.args.octets.now in
    let l = c.loop-entries in
    subst (HasListed b c.next_entry.new.self)
    (sym (pushed _ c.is_err.result l.entries.items c.push.new.self.items c.in-Some.entry c.push.ensures.items
    c.is_err.ensures.negation c.if-is_err.false))
    (subst (λ (n : Option Entry). HasListed b c.next_entry.new.self (l.entries.items ++ listed_by (Ok n))) c.in-Some.is
    (c.in_ok-entry.ensures.given l.entries.items l.invariant))

pub returns-clause-found : goal.returns-clause-found
returns-clause-found c =
    let l = c.loop-entries in (
      refl,
      where_none c.in_ok-entry.field-0 c.in_default.not-Some (c.in_ok-entry.ensures.all l.entries.items l.invariant),
    )

pub returns-in_err-entry-clause-refused : goal.returns-in_err-entry-clause-refused
returns-in_err-entry-clause-refused c =
    let l = c.loop-entries in
    let p = err_from_is_err_and c.from_residual.result c.from_residual.ensures.1 in
    rw (p.1, p.2) (c.in_err-entry.ensures.refused l.entries.items l.invariant)
