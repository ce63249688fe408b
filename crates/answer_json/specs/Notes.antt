-- The notes on lines as an array of objects.
use Rattle.std.specs.Prelude.{ℕ, List, [], ◌∷◌, ◌++◌, codes}
use Rattle.answer_json.specs.Strings.{line_string}
use Rattle.layouts.specs.Items.{with_item}

-- a line and its note as an object
abbrev pub note_object : List ℕ → List ℕ → List ℕ
note_object line note =
    codes "{\"line\":" ++ (line_string line ++ (codes ",\"note\":" ++ (line_string note ++ codes "}")))

abbrev pub with_object : List ℕ → List ℕ → List ℕ → List ℕ
with_object items line note = with_item items (note_object line note)

-- the items of an array, and a line if it has a note
abbrev pub with_note : List ℕ → List ℕ → List ℕ → List ℕ
with_note items line [] = items
with_note items line (x ∷ note) = with_object items line (x ∷ note)
