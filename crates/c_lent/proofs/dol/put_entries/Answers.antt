use Rattle.std.proofs.Common.{◌≡◌, List, [], ◌∷◌, ◌++◌, ◌<◌, length, map, set, refl, sym, ap, subst, ◌∙◌, arith}
use Rattle.std.specs.Prelude.{Option, Ok, IfSome}
use Rattle.std.proofs.lemmas.List.{map-append, length-append}
use Rattle.std.proofs.lemmas.Result.{err_from_is_err_and}
use Rattle.tlv_core.specs.Dol.{HasListed, listed_by}
use Rattle.tlv_core.proofs.Entries.{Entry}
use Rattle.tlv_core.proofs.Listing.{where_none}
use Rattle.c_lent.specs.declared.dol.CEntry.{CEntry}
use Rattle.c_lent.specs.Dol.{entry_shown}
use Rattle.c_lent.specs.Verdict.{filled}
use Rattle.c_lent.proofs.Puts.{put-next, left-out}
use Rattle.c_lent.proofs.dol.put_entries.Goals as goal
use Rattle.c_lent.proofs.dol.put_entries.Goals.{then-count-out, else-count-out}

pub loop-entry-init : goal.loop-entry-init
loop-entry-init c = ([], c.new-walk.ensures c.args.octets.now, refl, omega arith, refl)

pub loop-entry-smaller : goal.loop-entry-smaller
loop-entry-smaller c =
    let l = c.loop-entry in
    let more = subst (λ (n : Option Entry). IfSome n (λ _. l.walk < c.next_entry.new.self)) c.in-Some.is
    c.in_ok-entry.ensures.more in
    let given = c.in_ok-entry.ensures.given l.invariant.0 l.invariant.1 in
    omega (arith, more, given.within)

pub loop-entry-preserved : goal.loop-entry-preserved
loop-entry-preserved c =
    let b = c.args.octets.now in
    let old = c.args.out.now in
    let l = c.loop-entry in
    let given = l.invariant.0 in
    let all : List CEntry = map entry_shown given in
    let entry : Entry = c.in-Some.entry in
    let next = given ++ entry ∷ [] in
    let now = c.if-count-out.out in
    let more = subst (λ (n : Option Entry). IfSome n (λ _. l.walk < c.next_entry.new.self)) c.in-Some.is
    c.in_ok-entry.ensures.more in
    let shown : map entry_shown next ≡ all ++ entry_shown entry ∷ [] = map-append entry_shown given (entry ∷ []) in
    let array : now ≡ filled (all ++ entry_shown entry ∷ []) old =
    elim c.if-count-out.branch [
      | then-count-out w ↦
          put-next all old l.out now l.count (entry_shown entry) l.invariant.4 l.invariant.2 w.if-count-out.true
          (w.out-is ∙ ap (λ (x : CEntry). set l.out l.count x) w.entry_shown.ensures)
      | else-count-out w ↦
          left-out all old l.out now l.count (entry_shown entry) l.invariant.4 l.invariant.2 w.if-count-out.false
          w.out-is
    ] in (
      next,
      subst (λ (n : Option Entry). HasListed b c.next_entry.new.self (given ++ listed_by (Ok n))) c.in-Some.is
          (c.in_ok-entry.ensures.given given l.invariant.1),
      omega (arith, l.invariant.2, ap length shown, length-append all (entry_shown entry ∷ [])),
      omega (arith, more, l.invariant.3),
      array ∙ ap (λ (p : List CEntry). filled p old) (sym shown),
    )

pub returns-clause-ok : goal.returns-clause-ok
returns-clause-ok c =
    let l = c.loop-entry in
    record {
      entries = l.invariant.0;
      list = where_none c.in_ok-entry.field-0 c.in_default.not-Some
          (c.in_ok-entry.ensures.all l.invariant.0 l.invariant.1);
      number = l.invariant.2;
      array = l.invariant.4;
    }

pub returns-in_err-entry-clause-refused : goal.returns-in_err-entry-clause-refused
returns-in_err-entry-clause-refused c =
    let l = c.loop-entry in
    let p = err_from_is_err_and c.from_residual.result c.from_residual.ensures.1 in
    rw (p.1, p.2) (c.in_err-entry.ensures.refused l.invariant.0 l.invariant.1)
