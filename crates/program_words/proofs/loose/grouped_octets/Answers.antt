use Rattle.std.proofs.Common.{rules, tests, length, inr}
use Rattle.std.proofs.lemmas.Iterator.Consumers.{YieldsList-at, YieldsList-turn, YieldsList-end}
use Rattle.std.proofs.lemmas.Iterator.Splits.{YieldsList-from_slice_split}
use Rattle.std.proofs.lemmas.List.{length_push}
use Rattle.std.proofs.lemmas.Result.{err_from_is_err_and}
use Rattle.std.specs.List.{slice_split}
use Rattle.octet_core.specs.Words.{is_blank}
use Rattle.program_words.specs.Loose.{group_octets, grouped_octets}
use Rattle.program_words.proofs.Groups.{next-fault, next-group, no-more, none-yet}
use Rattle.program_words.proofs.loose.grouped_octets.Goals as goal

pub loop-group-init : goal.loop-group-init
loop-group-init c = none-yet group_octets c.in_ok-octets.octets.items (slice_split is_blank c.args.text.now)
    (search rules)

pub loop-group-preserved : goal.loop-group-preserved
loop-group-preserved c =
    let at = YieldsList-turn (YieldsList-at c.into_iter-group-iterator.ensures.into_iter_gives
    (YieldsList-from_slice_split _ is_blank c.args.text.now c.split-group-items.ensures.rest
    c.split-group-items.ensures.done c.split-group-items.ensures.closure (λ x r q k. search (rules, tests))))
    c.loop-group.yielded _ c.loop-group.yielded_by _ _ c.in-Some.group c.in-Some.is c.next.ensures.steps in
    rw (length_push c.loop-group.yielded c.in-Some.group)
    (next-group group_octets c.loop-group.octets.items c.push_group.new.octets.items c.in-Some.group.now
    (slice_split is_blank c.args.text.now) (length c.loop-group.yielded) (grouped_octets c.args.text.now) at
    c.in_ok-push_group.ensures c.loop-group.invariant)

pub returns-in_err-push_group : goal.returns-in_err-push_group
returns-in_err-push_group c =
    let at = YieldsList-turn (YieldsList-at c.into_iter-group-iterator.ensures.into_iter_gives
    (YieldsList-from_slice_split _ is_blank c.args.text.now c.split-group-items.ensures.rest
    c.split-group-items.ensures.done c.split-group-items.ensures.closure (λ x r q k. search (rules, tests))))
    c.loop-group.yielded _ c.loop-group.yielded_by _ _ c.in-Some.group c.in-Some.is c.next.ensures.steps in
    let fault = err_from_is_err_and c.from_residual-in_err-push_group.result c.from_residual-in_err-push_group.ensures.1
    in
    rw (fault.1, fault.2) (next-fault group_octets c.loop-group.octets.items c.push_group.new.octets.items
    c.in-Some.group.now
    (slice_split is_blank c.args.text.now) (length c.loop-group.yielded) (grouped_octets c.args.text.now)
    c.in_err-push_group.field-0.0 at c.in_err-push_group.ensures c.loop-group.invariant)

pub returns : goal.returns
returns c =
    let end = YieldsList-end (YieldsList-at c.into_iter-group-iterator.ensures.into_iter_gives
    (YieldsList-from_slice_split _ is_blank c.args.text.now c.split-group-items.ensures.rest
    c.split-group-items.ensures.done c.split-group-items.ensures.closure (λ x r q k. search (rules, tests))))
    c.loop-group.yielded _ c.loop-group.yielded_by _ _ c.in-None.is c.next.ensures.steps in
    rw c.of.ensures (inr (no-more group_octets c.loop-group.octets.items (slice_split is_blank c.args.text.now)
    (length c.loop-group.yielded) (grouped_octets c.args.text.now) end.1 c.loop-group.invariant))
