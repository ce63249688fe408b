use Rattle.std.proofs.Common.{◌≡◌, ◌+◌, ◌*◌, ◌<◌, ℕ, Some, sym, ap, subst, ◌∙◌, ◌∷◌, [], arith}
use Rattle.chain_core.specs.Stage.{place_of}
use Rattle.chain_core.specs.Receiving.{Goes}
use Rattle.chain_core.specs.Lent.{held_at, received_at, IsLentReceiver}
use Rattle.chain_core.specs.declared.lent.LentReceiver.{LentReceiver}
use Rattle.chain_core.proofs.Steps.{IsNext, IsOff, head-on, head-off, head-fit, head-held, off-fit}
use Rattle.chain_core.proofs.lent.LentReceiver.take_head.Goals as goal

pub returns-in-Ok-clause-fit : goal.returns-in-Ok-clause-fit
returns-in-Ok-clause-fit c = λ room fit.
    let p : LentReceiver = c.args.self.now in
    let after : IsNext p c.args.octet c.in-Ok.stage = rw c.number.ensures at c.in-Ok.ensures.on in
    head-fit p c.in-Ok.stage c.args.octet room c.requires.open.0 c.requires.open.1 after fit

pub returns-in-Ok-clause-goes : goal.returns-in-Ok-clause-goes
returns-in-Ok-clause-goes c = λ m held.
    let p : LentReceiver = c.args.self.now in
    let after : IsNext p c.args.octet c.in-Ok.stage = rw c.number.ensures at c.in-Ok.ensures.on in
    head-on p c.in-Ok.stage c.args.octet c.requires.fit.0 m c.requires.fit.1 held c.requires.open.0 c.requires.open.1
    after

pub returns-in-Err-clause-fit : goal.returns-in-Err-clause-fit
returns-in-Err-clause-fit c = λ room fit.
    let p : LentReceiver = c.args.self.now in
    let fault : IsOff p c.args.octet c.in-Err.reason = rw c.number.ensures at c.in-Err.ensures.refused in
    let octet : c.args.octet < 256 = omega arith in
    subst (λ (q : LentReceiver). IsLentReceiver q room)
    (sym (c.refuse.ensures ∙ ap (λ (k : ℕ). record p
    { refusal = Some (record { place = p.joined + 4 * p.blocks + k; reason = c.in-Err.reason }) }) c.place.ensures))
    (off-fit p c.args.octet room c.in-Err.reason octet c.requires.open.1 c.requires.head fault fit)

pub returns-in-Err-clause-goes : goal.returns-in-Err-clause-goes
returns-in-Err-clause-goes c = λ m held.
    let p : LentReceiver = c.args.self.now in
    let fault : IsOff p c.args.octet c.in-Err.reason = rw c.number.ensures at c.in-Err.ensures.refused in
    let is : c.refuse.new.self ≡ record p
    { refusal = Some (record { place = p.joined + 4 * p.blocks + place_of p.stage; reason = c.in-Err.reason }) } =
    c.refuse.ensures ∙ ap (λ (k : ℕ). record p
    { refusal = Some (record { place = p.joined + 4 * p.blocks + k; reason = c.in-Err.reason }) }) c.place.ensures
    in
    subst (λ (q : LentReceiver). Goes (received_at p m) (received_at q m) (c.args.octet ∷ [])) (sym is)
    (head-off p c.args.octet c.requires.fit.0 c.in-Err.reason m c.requires.fit.1 held c.requires.open.0
    c.requires.open.1 c.requires.head fault)

pub returns-in-Ok-clause-held : goal.returns-in-Ok-clause-held
returns-in-Ok-clause-held c = head-held c.args.self.now c.in-Ok.stage c.requires.head

pub returns-in-Err-clause-held : goal.returns-in-Err-clause-held
returns-in-Err-clause-held c = ap held_at c.refuse.ensures
