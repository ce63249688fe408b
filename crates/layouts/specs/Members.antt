-- The members of a JSON object, in their order, with a comma between two.
use Rattle.std.specs.Prelude.{ℕ, List, ◌++◌, codes, decimal}
use Rattle.layouts.specs.Items.{with_item}

-- the members so far, and one with this name and this value
unfoldable pub with_value : List ℕ → List ℕ → List ℕ → List ℕ
with_value members name value = with_item members (codes "\"" ++ (name ++ (codes "\":" ++ value)))

unfoldable pub with_number : List ℕ → List ℕ → ℕ → List ℕ
with_number members name n = with_value members name (decimal n)

-- a string whose characters stand for themselves
unfoldable pub with_string : List ℕ → List ℕ → List ℕ → List ℕ
with_string members name value = with_value members name (codes "\"" ++ (value ++ codes "\""))

-- an array with these items
unfoldable pub with_array : List ℕ → List ℕ → List ℕ → List ℕ
with_array members name items = with_value members name (codes "[" ++ (items ++ codes "]"))

-- the object with these members
unfoldable pub object_of : List ℕ → List ℕ
object_of members = codes "{" ++ (members ++ codes "}")
