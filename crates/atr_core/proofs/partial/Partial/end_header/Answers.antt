use Rattle.std.proofs.Common.{◌∙◌, sym, subst, ap}
use Rattle.atr_core.specs.declared.tail.Tail.{Tail}
use Rattle.atr_core.specs.Atr.{AtrParts}
use Rattle.atr_core.specs.Partial.{FitsIn, HeaderHolds, HeaderParts, TailHolds, heading, tail_after, tail_taken, tailing, taken_in}
use Rattle.atr_core.proofs.Partials.{closed-proper, td-room, ended, end-taken, end-holds}
use Rattle.atr_core.proofs.partial.Partial.end_header.Goals as goal

pub close_section-requires : goal.close_section-requires
close_section-requires c =
    let a : AtrParts = c.args.self.now.atr in
    let h : HeaderParts = heading a c.in-Header.header in
    let holds : HeaderHolds h = subst (FitsIn a) c.in-Header.is c.requires in
    record { room = td-room h holds; proper = closed-proper h holds }

pub returns-then-not-awaits-clause-holds : goal.returns-then-not-awaits-clause-holds
unfolding ended
returns-then-not-awaits-clause-holds c =
    let a : AtrParts = c.args.self.now.atr in
    let h : HeaderParts = heading a c.in-Header.header in
    let holds : HeaderHolds h = subst (FitsIn a) c.in-Header.is c.requires in
    subst (λ (t : Tail). TailHolds (tailing c.close_section.new.atr t)) (sym c.tail.ensures)
    (subst (λ (b : AtrParts). TailHolds (tailing b (tail_after c.in-Header.header))) (sym c.close_section.ensures)
    (end-holds h holds (sym c.if-not-awaits.ensures)))

pub returns-then-not-awaits-clause-taken : goal.returns-then-not-awaits-clause-taken
unfolding ended
returns-then-not-awaits-clause-taken c =
    let a : AtrParts = c.args.self.now.atr in
    let h : HeaderParts = heading a c.in-Header.header in
    let holds : HeaderHolds h = subst (FitsIn a) c.in-Header.is c.requires in
    ap (λ (t : Tail). tail_taken (tailing c.close_section.new.atr t)) c.tail.ensures
    ∙ ap (λ (b : AtrParts). tail_taken (tailing b (tail_after c.in-Header.header))) c.close_section.ensures
    ∙ end-taken h holds (sym c.if-not-awaits.ensures)
    ∙ sym (ap (taken_in a) c.in-Header.is)
