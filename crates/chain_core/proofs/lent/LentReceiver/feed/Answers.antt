use Rattle.std.proofs.Common.{ℕ, List, ◌++◌, take, arith, subst, rules}
use Rattle.octet_core.specs.Octets.{AreOctets}
use Rattle.octet_core.specs.Reader.{IsFed}
use Rattle.octet_core.proofs.Lists.{octets-append, octets-take}
use Rattle.chain_core.specs.Chain.{IsChain, IsReason}
use Rattle.chain_core.specs.Taking.{HasTaken, refusal_of}
use Rattle.chain_core.specs.declared.lent.LentReceiver.{LentReceiver}
use Rattle.chain_core.specs.Lent.{received_at, AreLedTo}
use Rattle.chain_core.proofs.Feeds.{fed-answered}
use Rattle.chain_core.proofs.Leads.{brought-led}
use Rattle.chain_core.proofs.lent.LentReceiver.feed.Goals as goal

pub returns-clause-fed : goal.returns-clause-fed
returns-clause-fed c =
    let p : LentReceiver = c.args.self.now in
    subst (λ (m : List ℕ). IsFed (IsChain p.ifs p.first p.max) (IsReason p.ifs p.first p.max) HasTaken refusal_of
    (received_at p c.args.message.now) (received_at c.take-taken.new.self m) c.args.piece.now c.answer.result)
    (search rules)
    (fed-answered (received_at p c.args.message.now)
    (received_at c.take-taken.new.self c.take-taken.new.store.octets.now) c.args.piece.now c.take-taken.result
    c.answer.result c.take-taken.ensures.fed c.answer.ensures)

pub returns-clause-led : goal.returns-clause-led
returns-clause-led c = λ t led.
    let piece : List ℕ = c.args.piece.now in
    let n : ℕ = c.take-taken.result in
    let octets : AreOctets piece = λ i. omega (arith, c.type_inv.piece i) in (
      n,
      c.take-taken.ensures.fed.inside,
      subst (λ (m : List ℕ). AreLedTo c.take-taken.new.self m (t ++ take n piece)) (search rules)
          (brought-led c.take-taken.new.self c.take-taken.new.store.octets.now (t ++ take n piece)
          c.take-taken.ensures.stored.fit
          (octets-append t (take n piece) led.octets (octets-take n piece octets))
          (c.take-taken.ensures.brings t led.brings)),
    )
