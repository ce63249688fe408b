use Rattle.std.proofs.Common.{Bor, List, ℕ, [], map}
use Rattle.program_words.specs.Known.{known_of, knowns_of}
use Rattle.program_words.proofs.Each.{next-one}
use Rattle.program_words.proofs.known.knowns.Goals as goal

abbrev none : Bor (List ℕ)
none = record { ref_ptr = (0, 0); now = [] }

pub loop-word-preserved : goal.loop-word-preserved
loop-word-preserved c =
    next-one known_of c.loop-word.list.items c.push.new.list.items c.in_ok-known.known c.args.words.now
    c.loop-word.word-index none (knowns_of (map (λ word. word.now) c.args.words.now)) c.loop-word-test.true
    c.in_ok-known.ensures c.in_ok-push.ensures c.loop-word.invariant
