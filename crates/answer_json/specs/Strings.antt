-- Lines as an array of strings.
use Rattle.std.specs.Prelude.{ℕ, ◌+◌, ◌==◌, List, [], ◌∷◌, ◌++◌, take, drop, Option, Some, None, option_map, encode_utf8}
use Rattle.std.specs.List.{position_from, slice_split}
use Rattle.std.specs.Borrow.{Bor}
use Rattle.serde_json.specs.Data.{string}
use Rattle.serde_json.specs.Written.{compact_text}
use Rattle.layouts.specs.Items.{with_item}

-- octets as text: each becomes the character with its number
abbrev pub characters : List ℕ → List ℕ
characters [] = []
characters (x ∷ octets) = encode_utf8 x ++ characters octets

-- a text as a JSON string, with its quotation marks
abbrev pub json_string : List ℕ → List ℕ
json_string text = compact_text (string text)

-- a line as a string: each octet becomes the character with its number
abbrev pub line_string : List ℕ → List ℕ
line_string line = json_string (characters line)

-- a line after the items of an array; an empty line is left out
abbrev pub with_string : List ℕ → List ℕ → List ℕ
with_string items [] = items
with_string items (x ∷ line) = with_item items (line_string (x ∷ line))

abbrev pub with_strings : List ℕ → List (List ℕ) → List ℕ
with_strings items [] = items
with_strings items (line ∷ lines) = with_strings (with_string items line) lines

-- the lines of a text, with a comma between two
unfoldable pub line_strings : List ℕ → List ℕ
line_strings text = with_strings [] (slice_split (λ x. x == 10) text)

-- ---- parts of a text

-- the octets behind a reference, if there is one
abbrev pub lent : Option (Bor (List ℕ)) → Option (List ℕ)
lent rest = option_map (λ (r : Bor (List ℕ)). r.now) rest

-- the octets before a place, and those after it
abbrev pub cut_at : List ℕ → Option ℕ → List ℕ × Option (List ℕ)
cut_at octets None = (octets, None)
cut_at octets (Some place) = (take place octets, Some (drop (place + 1) octets))

-- the octets before the first mark, and those after it if there is one
abbrev pub parted : ℕ → List ℕ → List ℕ × Option (List ℕ)
parted mark octets = cut_at octets (position_from (λ x. x == mark) 0 octets)

-- the octets after a mark, if there is one, split at the marks
abbrev pub after_mark : ℕ → Option (List ℕ) → List (List ℕ)
after_mark mark None = []
after_mark mark (Some rest) = slice_split (λ x. x == mark) rest
