use Rattle.std.proofs.Common.{◌≡◌, ◌++◌, drop}
use Rattle.drawings.specs.Picture.{escaped}
use Rattle.drawings.proofs.picture.push_escaped.Given as goal

abbrev pub invariant-loop-octet : goal.invariant-loop-octet
invariant-loop-octet l =
    l.text.items ++ escaped (drop l.octet-index l.label) ≡ l.fn.text.items ++ escaped l.label
