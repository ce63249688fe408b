use Rattle.std.proofs.Common.{◌≡◌, drop}
use Rattle.command_line.specs.Form.{texts}
use Rattle.explainer.specs.Places.{places}
use Rattle.explainer.specs.Words.{first_note, pair_note, pairs_note}
use Rattle.explainer.proofs.session_words.pairs_note.Given as goal

-- no word so far has a note, so the first is that of the words that are left
abbrev pub invariant-loop-nth : goal.invariant-loop-nth
invariant-loop-nth l =
    first_note pair_note (texts l.words) (drop l.nth (places (texts l.words))) ≡ pairs_note (texts l.words)
