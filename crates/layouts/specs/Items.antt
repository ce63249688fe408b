-- The items of a JSON array.
use Rattle.std.specs.Prelude.{ℕ, List, [], ◌∷◌, ◌++◌, codes}

-- what separates the items of an array from the next item
abbrev pub separator : List ℕ → List ℕ
separator [] = []
separator (x ∷ items) = codes ","

-- the items of an array, with one item appended
abbrev pub with_item : List ℕ → List ℕ → List ℕ
with_item items item = items ++ (separator items ++ item)
