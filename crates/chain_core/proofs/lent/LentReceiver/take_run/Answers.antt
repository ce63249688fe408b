use Rattle.std.proofs.Common.{◌≡◌, ◌+◌, ◌<◌, ◌≤◌, ℕ, List, length, take, arith, subst}
use Rattle.std.proofs.lemmas.List.{length-take}
use Rattle.chain_core.specs.Stage.{left_of}
use Rattle.chain_core.specs.Receiving.{Goes}
use Rattle.chain_core.specs.Lent.{received_at, held_at}
use Rattle.chain_core.specs.declared.lent.LentReceiver.{LentReceiver}
use Rattle.chain_core.proofs.Steps.{field-on}
use Rattle.chain_core.proofs.lent.LentReceiver.take_run.Goals as goal

pub returns-clause-goes : goal.returns-clause-goes
returns-clause-goes g c =
    let p : LentReceiver = c.args.self.now in
    let m : List ℕ = g.S.MessageStore.kept c.args.store.now in
    let m' : List ℕ = g.S.MessageStore.kept c.put.new.self in
    let n : ℕ = c.min-run.result in
    let xs : List ℕ = take n c.args.piece.now in
    let some : 0 < left_of p.stage p.came =
    omega (arith, c.min-run.ensures, c.if-run-eq0.false, c.field_left.ensures, c.requires.some) in
    let le : n ≤ left_of p.stage p.came = omega (arith, c.min-run.ensures, c.field_left.ensures) in
    let long : length xs ≡ n = omega (arith, length-take n c.args.piece.now, c.min-run.ensures) in
    let held : held_at p ≤ length m = g.met.S.MessageStore.inside c.args.store.now (held_at p) c.requires.stored.after
    in
    let inside : p.joined + p.came ≤ length m = omega (arith, held, c.requires.stored.fit.idle) in
    let goes : Goes (received_at p m) (received_at (record p { came = p.came + length xs }) m') xs =
    field-on p (g.S.MessageStore.room c.args.store.now) m m' xs (c.put.ensures.octets c.requires.stored.octets)
    c.requires.stored.fit
    inside c.requires.open.0 c.requires.open.1 some (omega (arith, long, le)) c.put.ensures.text in
    subst (λ (i : ℕ). Goes (received_at p m) (received_at (record p { came = p.came + i }) m') xs) long goes
