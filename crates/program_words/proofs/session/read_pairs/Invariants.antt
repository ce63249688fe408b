use Rattle.std.proofs.Common.{◌≡◌, map, drop}
use Rattle.program_words.specs.Session.{pairs_of}
use Rattle.program_words.proofs.Each.{then}
use Rattle.program_words.proofs.session.read_pairs.Given as goal

-- the pairs read so far and those of the words that are left are those of all words
abbrev pub invariant-loop-word : goal.invariant-loop-word
invariant-loop-word l = then l.list.items (pairs_of (map (λ word. word.now) (drop l.word-index l.words))) ≡ pairs_of
    (map (λ word. word.now) l.words)
