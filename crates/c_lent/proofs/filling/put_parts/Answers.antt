use Rattle.std.proofs.Common.{List, [], ◌∷◌, ◌++◌, ◌∙◌, ◌<◌, map, subst, arith}
use Rattle.std.specs.Prelude.{Option, Ok, IfSome}
use Rattle.tlv_core.specs.Dol.{HasListed, listed_by}
use Rattle.tlv_core.specs.declared.known.Known.{Known}
use Rattle.tlv_core.proofs.Entries.{Entry}
use Rattle.c_lent.specs.Fill.{known_seen}
use Rattle.c_lent.proofs.FilledLists.{length-more, put-entry}
use Rattle.c_lent.proofs.filling.put_parts.Goals as goal

pub loop-entry-preserved-then-end-out : goal.loop-entry-preserved-then-end-out
loop-entry-preserved-then-end-out c =
    let l = c.loop-entry in
    let known : List Known = map known_seen c.args.known.now in
    let given = l.invariant.0 in
    let entry : Entry = c.in-Some.entry in
    let more = subst (λ (n : Option Entry). IfSome n (λ _. l.walk < c.next_entry.new.self)) c.in-Some.is
    c.in_ok-entry.ensures.more in
    let number = length-more known given entry in
    let put = put-entry known given entry c.args.out.now l.out l.count l.invariant.2
    (l.invariant.5 (omega (arith, c.if-end-out.true, l.invariant.4))) in (
      given ++ entry ∷ [],
      subst (λ (n : Option Entry). HasListed c.args.list.now c.next_entry.new.self (given ++ listed_by (Ok n)))
          c.in-Some.is (c.in_ok-entry.ensures.given given l.invariant.1),
      omega (arith, number, l.invariant.2),
      omega (arith, more, l.invariant.3),
      omega (arith, l.invariant.4),
      λ _. c.put_at.ensures ∙ put,
    )

pub loop-entry-preserved : goal.loop-entry-preserved
loop-entry-preserved c =
    let l = c.loop-entry in
    let known : List Known = map known_seen c.args.known.now in
    let given = l.invariant.0 in
    let entry : Entry = c.in-Some.entry in
    let more = subst (λ (n : Option Entry). IfSome n (λ _. l.walk < c.next_entry.new.self)) c.in-Some.is
    c.in_ok-entry.ensures.more in
    let number = length-more known given entry in (
      given ++ entry ∷ [],
      subst (λ (n : Option Entry). HasListed c.args.list.now c.next_entry.new.self (given ++ listed_by (Ok n)))
          c.in-Some.is (c.in_ok-entry.ensures.given given l.invariant.1),
      omega (arith, number, l.invariant.2),
      omega (arith, more, l.invariant.3),
      l.invariant.4,
      λ le. absurd (omega (arith, le, c.if-end-out.false, l.invariant.4)),
    )
