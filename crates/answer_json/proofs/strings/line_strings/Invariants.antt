use Rattle.std.proofs.Common.{◌≡◌, ◌==◌, length, string_bytes}
use Rattle.std.specs.List.{slice_split}
use Rattle.answer_json.specs.Strings.{line_strings, with_strings}
use Rattle.answer_json.proofs.strings.line_strings.Given as goal

abbrev pub invariant-lines : goal.invariant-lines
invariant-lines l = line_strings l.text ≡ with_strings (string_bytes l.items) (slice_split (λ x. x == 10) l.left)

abbrev pub decreases-lines : goal.decreases-lines
decreases-lines l = length l.left
