-- Words that ask for the version of the program.
use Rattle.std.specs.Prelude.{◌||◌, ◌&&◌, ℕ, List, [], ◌∷◌, codes, Bool, false}
use Rattle.std.specs.Str.{bytes_eq}

abbrev pub is_version : List ℕ → Bool
is_version word = bytes_eq word (codes "--version") || bytes_eq word (codes "-V")

abbrev pub is_json : List ℕ → Bool
is_json word = bytes_eq word (codes "--json")

-- one word after the program's name, with --json before or after it or without
abbrev pub asks_for_version : List (List ℕ) → Bool
asks_for_version (name ∷ word ∷ []) = is_version word
asks_for_version (name ∷ first ∷ second ∷ []) =
    (is_version first && is_json second) || (is_json first && is_version second)
asks_for_version _ = false
