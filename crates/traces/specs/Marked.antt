-- The notes before lines that say what nobody saw.
use Rattle.std.specs.Prelude.{ℕ, nat_eq, ◌+◌, List, [], ◌∷◌, ◌++◌, if◌then◌else◌}
use Rattle.exchange_text.specs.declared.line.Line.{Line}
use Rattle.exchange_text.specs.Exchange.{added_note}

-- the line at this place, after a note if the place is the next one
abbrev pub put_as : ℕ → List ℕ → Line → List Line
put_as place [] line = line ∷ []
put_as place (next ∷ places) line = if nat_eq next place then added_note ∷ line ∷ [] else line ∷ []

abbrev pub left_after : ℕ → List ℕ → List ℕ
left_after place [] = []
left_after place (next ∷ places) = if nat_eq next place then places else next ∷ places

-- the lines from this place on, each after a note if its place is among these places, which are in rising order
abbrev pub marked : ℕ → List ℕ → List Line → List Line
marked place places [] = []
marked place places (line ∷ lines) =
    put_as place places line ++ marked (place + 1) (left_after place places) lines
