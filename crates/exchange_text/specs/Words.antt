-- What follows the first word of a line.
use Rattle.std.specs.Prelude.{ℕ, List, [], Option, Some, None, option_map}
use Rattle.std.specs.List.{slice_split}
use Rattle.std.specs.Borrow.{Bor}
use Rattle.exchange_text.specs.Reading.{is_space}

-- the octets of a reference, if there is one
abbrev pub words_in : Option (Bor (List ℕ)) → Option (List ℕ)
words_in rest = option_map (λ (r : Bor (List ℕ)). r.now) rest

-- the words after a space, if there is one
abbrev pub words_after : Option (List ℕ) → List (List ℕ)
words_after None = []
words_after (Some rest) = slice_split is_space rest
