use Rattle.std.proofs.Common.{List, ℕ, take, drop, ap, sym, arith}
use Rattle.std.proofs.lemmas.List.{length-drop}
use Rattle.t1_core.specs.Came.{info}
use Rattle.t1_core.proofs.Cuts.{more_follows, reply-goes-on, none-saved}
use Rattle.t1_core.proofs.replying.next_block.Goals as goal

pub returns-then-reply-place-clause-waits : goal.returns-then-reply-place-clause-waits
returns-then-reply-place-clause-waits c = λ buffer.
    let left : List ℕ = drop c.args.place c.args.reply.now in
    reply-goes-on (take c.args.size left) (drop c.args.size left)
    (omega (arith, length-drop c.args.place c.args.reply.now, length-drop c.args.size left))

pub returns-then-reply-place-clause-saved : goal.returns-then-reply-place-clause-saved
returns-then-reply-place-clause-saved c =
    let left : List ℕ = drop c.args.place c.args.reply.now in
    none-saved (take c.args.size left) (drop c.args.size left)
    (omega (arith, length-drop c.args.place c.args.reply.now, length-drop c.args.size left))

pub returns-then-reply-place-clause-block : goal.returns-then-reply-place-clause-block
returns-then-reply-place-clause-block c = λ number buffer.
    let left : List ℕ = drop c.args.place c.args.reply.now in
    ap (λ more. info number more (take c.args.size left))
    (sym (more_follows c.args.size left (omega (arith, length-drop c.args.place c.args.reply.now))))
