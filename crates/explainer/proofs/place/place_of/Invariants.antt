use Rattle.std.proofs.Common.{◌≡◌, drop, get_or, length}
use Rattle.command_line.specs.Form.{texts}
use Rattle.explainer.specs.Places.{place_of, places_from}
use Rattle.explainer.proofs.place.place_of.Given as goal

-- so many of the words that are left come before the word that is looked for
abbrev pub invariant-loop-number : goal.invariant-loop-number
invariant-loop-number l =
    get_or (places_from l.number l.is_value (drop l.number (texts l.words))) l.left (length (texts l.words))
    ≡ place_of (texts l.words) l.nth
