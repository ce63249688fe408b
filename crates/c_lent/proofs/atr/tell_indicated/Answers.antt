use Rattle.std.proofs.Common.{◌∙◌, ◌++◌, ◌-◌, ℕ, List, ap, map, replicate, take, arith}
use Rattle.std.proofs.Math.ListN.{set}
use Rattle.atr_core.specs.declared.atr.Indicated.{Indicated}
use Rattle.c_lent.specs.declared.atr.CIndicated.{CIndicated}
use Rattle.c_lent.specs.Atr.{indicated_shown, no_indicated}
use Rattle.c_lent.proofs.Told.{one-told, said}
use Rattle.c_lent.proofs.atr.tell_indicated.Goals as goal

pub loop-place-preserved : goal.loop-place-preserved
loop-place-preserved c =
    let xs : List Indicated = c.args.indicated.now in
    let i : ℕ = c.loop-place.place in
    ap (λ (l : List CIndicated). set l i c.indicated_seen.result) c.loop-place.invariant
    ∙ ap (λ (y : CIndicated). set (map indicated_shown (take i xs) ++ replicate (31 - i) no_indicated) i y)
    c.indicated_seen.ensures.shown
    ∙ one-told xs i _ c.loop-place-test.true c.requires

pub returns-clause-said : goal.returns-clause-said
returns-clause-said c = said c.args.indicated.now c.loop-place.place _ c.loop-place.out c.loop-place.invariant
    (omega (arith, c.loop-place-test.false))
