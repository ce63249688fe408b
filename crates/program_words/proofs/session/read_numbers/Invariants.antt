use Rattle.std.proofs.Common.{◌≡◌, ◌==◌, length}
use Rattle.std.specs.List.{slice_split}
use denote.Text.{Utf8}
use denote.Shadow.{shadow}
use Rattle.program_words.specs.Session.{block_numbers, with_parts}
use Rattle.program_words.proofs.session.read_numbers.Given as goal

-- the numbers that are named so far and the parts that are left come to what the word does
abbrev pub invariant-parts : goal.invariant-parts
invariant-parts l =
    shadow (Utf8 l.rest) × (with_parts l.named (slice_split (λ x. x == 44) l.rest) ≡ block_numbers l.word)

abbrev pub decreases-parts : goal.decreases-parts
decreases-parts l = length l.rest
