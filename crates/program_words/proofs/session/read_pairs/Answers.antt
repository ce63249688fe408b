use Rattle.std.proofs.Common.{Bor, List, ℕ, [], map}
use Rattle.program_words.specs.Session.{pair_of, pairs_of}
use Rattle.program_words.proofs.Each.{next-one}
use Rattle.program_words.proofs.session.read_pairs.Goals as goal

abbrev none : Bor (List ℕ)
none = record { ref_ptr = (0, 0); now = [] }

pub loop-word-preserved : goal.loop-word-preserved
loop-word-preserved c =
    next-one pair_of c.loop-word.list.items c.push_pair.new.list.items c.in_ok-pair.pair c.args.words.now
    c.loop-word.word-index none (pairs_of (map (λ word. word.now) c.args.words.now)) c.loop-word-test.true
    c.in_ok-pair.ensures c.in_ok-push_pair.ensures c.loop-word.invariant
