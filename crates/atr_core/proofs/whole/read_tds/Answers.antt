use Rattle.std.proofs.Common.{ℕ, List, take, drop, get_or, length, ◌-◌, arith, sym, subst}
use Rattle.atr_core.specs.declared.atr.Indicated.{Indicated}
use Rattle.atr_core.specs.Whole.{AreTdsSoFar}
use Rattle.atr_core.proofs.OnePass.{first-and-rest, no-td-yet, one-td-more, all-tds}
use Rattle.atr_core.proofs.whole.read_tds.Goals as goal

pub loop-td-init : goal.loop-td-init
loop-td-init c = subst (λ (ys : List Indicated). AreTdsSoFar c.args.td c.args.octets.now ys c.args.td c.args.octets.now)
    (sym c.requires) (no-td-yet c.args.td c.args.octets.now)

pub loop-td-preserved : goal.loop-td-preserved
loop-td-preserved c =
    let rest : List ℕ = c.loop-td.rest.now in
    let section = c.in_ok-section.section in
    subst (λ (ys : List Indicated). AreTdsSoFar c.args.td c.args.octets.now ys section.td section.rest.now)
    (sym c.push.ensures.items)
    (one-td-more c.args.td c.args.octets.now c.loop-td.indicated.items c.loop-td.td rest (get_or rest 0 0)
    (take (length rest - 1) (drop 1 rest)) section.bytes section.td section.rest.now
    c.loop-td.invariant c.loop-td-test.true (first-and-rest rest (omega arith)) c.in_ok-section.ensures)

pub returns : goal.returns
returns c = all-tds c.args.td c.args.octets.now c.loop-td.indicated.items c.loop-td.td c.loop-td.rest.now
    c.loop-td.invariant c.loop-td-test.false
