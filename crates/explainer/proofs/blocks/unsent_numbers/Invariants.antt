use Rattle.std.proofs.Common.{◌≡◌, [], None, drop, string_bytes}
use Rattle.explainer.specs.Notes.{unsent_shown}
use Rattle.explainer.proofs.blocks.unsent_numbers.Given as goal

-- the numbers that are left bring the text so far to that of all
abbrev pub invariant-loop-number : goal.invariant-loop-number
invariant-loop-number l =
    unsent_shown l.sent (drop l.number-index l.blocks) (string_bytes l.text) l.run ≡ unsent_shown l.sent l.blocks []
    None
