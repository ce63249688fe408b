use Rattle.std.proofs.Common.{◌≡◌, map, drop}
use Rattle.program_words.specs.Known.{knowns_of}
use Rattle.program_words.proofs.Each.{then}
use Rattle.program_words.proofs.known.knowns.Given as goal

-- the values read so far and those of the words that are left are those of all words
abbrev pub invariant-loop-word : goal.invariant-loop-word
invariant-loop-word l = then l.list.items (knowns_of (map (λ word. word.now) (drop l.word-index l.words))) ≡ knowns_of
    (map (λ word. word.now) l.words)
