use Rattle.std.proofs.Common.{◌≡◌, ◌+◌, ◌*◌, ℕ, List, [], ◌∷◌, Bool, arith, sym, ap, subst, ◌∙◌, Some, bit_xor}
use Rattle.octet_core.specs.Octets.{AreOctets, xor_of}
use Rattle.chain_core.specs.Receiving.{Goes}
use Rattle.chain_core.specs.Lent.{received_at, IsLentReceiver}
use Rattle.chain_core.specs.declared.lent.LentReceiver.{LentReceiver}
use Rattle.chain_core.specs.declared.reason.ChainReason.TheVariants.{BadLrc}
use Rattle.chain_core.proofs.Steps.{with_rest, closed_at, front_at, front-sum, sum-off, lrc-on, lrc-off, closed-fit, sum-fit}
use Rattle.chain_core.proofs.lent.LentReceiver.take_lrc.Goals as goal

pub returns-then-lrc-octet-clause-goes : goal.returns-then-lrc-octet-clause-goes
returns-then-lrc-octet-clause-goes c =
    let p : LentReceiver = c.args.self.now in
    let m : List ℕ = c.args.message.now in
    let more : Bool = c.args.more in
    let len : ℕ = c.args.len in
    let x : ℕ = c.args.octet in
    let q : LentReceiver = with_rest p more len in
    let same : p ≡ q = λ i. record p { stage = c.requires.stage i; came = c.requires.came i } in
    let fit : IsLentReceiver q c.requires.fit.0 =
    subst (λ (s : LentReceiver). IsLentReceiver s c.requires.fit.0) same c.requires.fit.1 in
    let sum : bit_xor c.lrc.result c.lrc-2.result ≡ xor_of (front_at p more len m) =
    front-sum p more c.number.result len c.octet.result c.lrc.result c.lrc-2.result m c.number.ensures c.octet.ensures
    c.lrc.ensures c.lrc-2.ensures in
    let goes = lrc-off p more len x c.requires.fit.0 m fit c.requires.held c.requires.open.0 c.requires.open.1
    (sum-off (front_at p more len m) x (λ e. c.if-lrc-octet.true (sum ∙ e))) in
    let kept : record q { refusal = Some (record { place = p.joined + 4 * p.blocks + (3 + len); reason = BadLrc }) } ≡
    c.refuse.new.self =
    ap (λ (s : LentReceiver). record s {
      refusal = Some (record { place = p.joined + 4 * p.blocks + (3 + len); reason = BadLrc });
    }) (sym same)
    ∙ sym c.refuse.ensures in
    subst (λ (s : LentReceiver). Goes (received_at s m) (received_at c.refuse.new.self m) (x ∷ [])) (sym same)
    (subst (λ (s : LentReceiver). Goes (received_at q m) (received_at s m) (x ∷ [])) kept goes)

pub returns-then-lrc-octet-clause-fit : goal.returns-then-lrc-octet-clause-fit
returns-then-lrc-octet-clause-fit c = λ room fit.
    let p : LentReceiver = c.args.self.now in
    let q : LentReceiver = with_rest p c.args.more c.args.len in
    let same : p ≡ q = λ i. record p { stage = c.requires.stage i; came = c.requires.came i } in
    subst (λ (s : LentReceiver). IsLentReceiver s room)
    (ap (λ (s : LentReceiver). record s {
      refusal = Some (record { place = p.joined + 4 * p.blocks + (3 + c.args.len); reason = BadLrc });
    }) (sym same)
    ∙ sym c.refuse.ensures)
    (sum-fit p c.args.more c.args.len room c.requires.open.1
    (subst (λ (s : LentReceiver). IsLentReceiver s room) same fit))

pub returns-clause-fit : goal.returns-clause-fit
returns-clause-fit c = λ room fit.
    let p : LentReceiver = c.args.self.now in
    let same : p ≡ with_rest p c.args.more c.args.len =
    λ i. record p { stage = c.requires.stage i; came = c.requires.came i } in
    closed-fit p c.args.more c.args.len room c.requires.open.0 c.requires.open.1
    (subst (λ (s : LentReceiver). IsLentReceiver s room) same fit)

pub returns-clause-goes : goal.returns-clause-goes
returns-clause-goes c =
    let p : LentReceiver = c.args.self.now in
    let m : List ℕ = c.args.message.now in
    let more : Bool = c.args.more in
    let len : ℕ = c.args.len in
    let x : ℕ = c.args.octet in
    let q : LentReceiver = with_rest p more len in
    let same : p ≡ q = λ i. record p { stage = c.requires.stage i; came = c.requires.came i } in
    let octets : AreOctets m = λ i. omega (arith, c.type_inv.message i) in
    let fit : IsLentReceiver q c.requires.fit.0 =
    subst (λ (s : LentReceiver). IsLentReceiver s c.requires.fit.0) same c.requires.fit.1 in
    let sum : bit_xor c.lrc.result c.lrc-2.result ≡ xor_of (front_at p more len m) =
    front-sum p more c.number.result len c.octet.result c.lrc.result c.lrc-2.result m c.number.ensures c.octet.ensures
    c.lrc.ensures c.lrc-2.ensures in
    subst (λ (s : LentReceiver). Goes (received_at s m) (received_at (closed_at p more len) m) (x ∷ [])) (sym same)
    (lrc-on p more len x c.requires.fit.0 m octets fit c.requires.held c.requires.open.0 c.requires.open.1
    (sym c.if-lrc-octet.false ∙ sum))
