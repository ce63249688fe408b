-- The places of the words of a command line: those after the subcommand that aren't options or their values, and the
-- options. Words are numbered from 0, the program's name.
use Rattle.std.specs.Prelude.{ℕ, nat_lt, not, Bool, false, ◌&&◌, ◌||◌, ◌+◌, List, [], ◌∷◌, bytes_eq, codes, drop, length, slice_index_or, ◌==◌, if◌then◌else◌}
use Rattle.std.specs.List.{after_first, before_first, position_or_len, range_with_len, starts_with}

-- the word with this number, or an empty word if there is none
abbrev pub word_at : List (List ℕ) → ℕ → List ℕ
word_at words number = slice_index_or words number []

-- the subcommand is the first word, or the second after --explain
abbrev pub subcommand_place : List (List ℕ) → ℕ
subcommand_place words = if bytes_eq (word_at words 1) (codes "--explain") then 2 else 1

abbrev pub subcommand : List (List ℕ) → List ℕ
subcommand words = word_at words (subcommand_place words)

-- the number of the first word after the subcommand
abbrev pub first_place : List (List ℕ) → ℕ
first_place words = subcommand_place words + 1

-- ---- options

abbrev pub is_equals : ℕ → Bool
is_equals x = x == 61

abbrev pub has_equals : List ℕ → Bool
has_equals word = nat_lt (position_or_len is_equals word) (length word)

abbrev pub is_option : List ℕ → Bool
is_option word = starts_with (λ x y. x == y) word (codes "--")

-- an option without a value
abbrev pub is_flag : List ℕ → Bool
is_flag word =
    bytes_eq word (codes "--explain")
    || (bytes_eq word (codes "--json")
    || (bytes_eq word (codes "--notes")
    || (bytes_eq word (codes "--rules")
    || bytes_eq word (codes "--svg"))))

-- the value of an option is the next word, unless the option has none or has it after an equals sign
abbrev pub has_next : List ℕ → Bool
has_next word = not (is_flag word) && not (has_equals word)

-- a word is this option with its value
abbrev pub is_given_in : List ℕ → List ℕ → Bool
is_given_in word name = has_equals word && bytes_eq (before_first is_equals word) name

-- Of words that begin with this number, the number of the one with the value of an option. Options end before --. If no
-- word has the value, it is the number past all words.
abbrev pub option_from : List ℕ → ℕ → ℕ → List (List ℕ) → ℕ
option_from name past number [] = past
option_from name past number (word ∷ words) =
    if bytes_eq word (codes "--") then past
    else (if bytes_eq word name then number + 1
    else (if is_given_in word name then number
    else option_from name past (number + 1) words))

abbrev pub option_place : List (List ℕ) → List ℕ → ℕ
option_place words name = option_from name (length words) (first_place words) (drop (first_place words) words)

abbrev pub has_option : List (List ℕ) → List ℕ → Bool
has_option words name = nat_lt (option_place words name) (length words)

-- the value in that word
abbrev pub value_in : List ℕ → List ℕ → List ℕ
value_in name word = if is_given_in word name then after_first is_equals word else word

abbrev pub option_value : List (List ℕ) → List ℕ → List ℕ
option_value words name = value_in name (word_at words (option_place words name))

-- ---- other words

-- The numbers of the words that aren't options or their values, of words that begin with this number. is_value: the
-- first of them is the value of an option. After -- no word is an option.
abbrev pub places_from : ℕ → Bool → List (List ℕ) → List ℕ
places_from number is_value [] = []
places_from number is_value (word ∷ words) =
    if bytes_eq word (codes "--") then range_with_len (number + 1) (length words)
    else (if is_value then places_from (number + 1) false words
    else (if is_option word then places_from (number + 1) (has_next word) words
    else number ∷ places_from (number + 1) false words))

-- the numbers of these words after the subcommand
abbrev pub places : List (List ℕ) → List ℕ
places words = places_from (first_place words) false (drop (first_place words) words)

-- the number of the word with this index among them; if there is none, the number past all words
abbrev pub place_of : List (List ℕ) → ℕ → ℕ
place_of words nth = slice_index_or (places words) nth (length words)

abbrev pub has_place : List (List ℕ) → ℕ → Bool
has_place words nth = nat_lt (place_of words nth) (length words)

-- the word with this index among them, or an empty word
abbrev pub nth_word : List (List ℕ) → ℕ → List ℕ
nth_word words nth = word_at words (place_of words nth)
