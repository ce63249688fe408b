-- Words that ask for an explanation or for JSON.
use Rattle.std.specs.Prelude.{ℕ, List, [], ◌∷◌, codes, Bool, true, false, if◌then◌else◌}
use Rattle.std.specs.Str.{bytes_eq}

-- one of the words is this option, and no word before it is --
abbrev pub asked_in : List ℕ → List (List ℕ) → Bool
asked_in option [] = false
asked_in option (word ∷ words) =
    if bytes_eq word (codes "--") then false
    else (if bytes_eq word option then true
    else asked_in option words)

-- one of the words after the program's name is this option
abbrev pub asks_for : List ℕ → List (List ℕ) → Bool
asks_for option [] = false
asks_for option (name ∷ words) = asked_in option words

abbrev pub asks_to_explain : List (List ℕ) → Bool
asks_to_explain words = asks_for (codes "--explain") words

abbrev pub asks_for_json : List (List ℕ) → Bool
asks_for_json words = asks_for (codes "--json") words
