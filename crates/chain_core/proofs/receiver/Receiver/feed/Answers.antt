use Rattle.std.proofs.Common.{subst}
use Rattle.chain_core.specs.Taking.{Taking}
use Rattle.chain_core.specs.Receiving.{Fed}
use Rattle.chain_core.specs.Lent.{received_at}
use Rattle.chain_core.proofs.Feeds.{before-all, fed-answered, fed-taken}
use Rattle.chain_core.proofs.receiver.Receiver.feed.Goals as goal

-- what the receiver is after the piece
abbrev after : goal.After-answer → Taking
after c = received_at c.take-taken.new.self c.take-taken.new.store.octets

-- what it did over the piece
fed : (c : goal.After-answer) → Fed c.args.self.now (after c) c.args.piece.now c.take-taken.result
fed c = subst (λ (r : Taking). Fed r (after c) c.args.piece.now c.take-taken.result) c.self.view_is
    c.take-taken.ensures.fed

pub invariant_of-self : goal.invariant_of-self
invariant_of-self c = record {
  stored = c.take-taken.ensures.stored;
  taken = fed-taken (received_at c.self.inside.state c.self.inside.message.octets) (after c) c.args.piece.now
      c.take-taken.result c.take-taken.ensures.fed c.self.invariant.taken;
}

pub returns-clause-fed : goal.returns-clause-fed
returns-clause-fed c =
    fed-answered c.args.self.now (after c) c.args.piece.now c.take-taken.result c.answer.result (fed c)
    c.answer.ensures

pub returns-clause-before : goal.returns-clause-before
returns-clause-before c = λ refusal some t h.
    before-all c.args.self.now (after c) c.args.piece.now c.take-taken.result refusal (fed c) some t h
