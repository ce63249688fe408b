use Rattle.std.proofs.Common.{◌≡◌, length}
use Rattle.dumps.specs.Editor.{tabbed}
use Rattle.dumps.specs.Characters.{joined_to}
use Rattle.dumps.proofs.editor.push_tabbed.Given as goal

abbrev pub invariant-loop-octet : goal.invariant-loop-octet
invariant-loop-octet l =
    joined_to l.octets.items (tabbed l.rest) ≡ joined_to l.fn.octets.items (tabbed l.text)

abbrev pub decreases-loop-octet : goal.decreases-loop-octet
decreases-loop-octet l = length l.rest
