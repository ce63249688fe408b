use Rattle.std.proofs.Common.{◌≡◌, drop, length}
use Rattle.command_line.specs.Form.{texts}
use Rattle.explainer.specs.Places.{option_from, option_place}
use Rattle.explainer.proofs.place.option_place.Given as goal

-- no word so far has the value, so it is in the words that are left
abbrev pub invariant-loop-number : goal.invariant-loop-number
invariant-loop-number l =
    option_from l.name (length (texts l.words)) l.number (drop l.number (texts l.words))
    ≡ option_place (texts l.words) l.name
