-- The notes on words of `build fill` that aren't known values, and on two values of one tag.
use Rattle.std.specs.Prelude.{◌≡◌, ℕ, ◌+◌, ◌<◌, List, [], ◌++◌, codes, decimal, drop, is_ok, length, slice_get, take, Some, Result, Ok, Err, if◌then◌else◌}
use Rattle.hex.specs.Hex.{encode_upper}
use Rattle.tlv_core.specs.Fill.{HasDuplicate}
use Rattle.tlv_core.specs.declared.known.Known.{Known}
use Rattle.program_words.specs.Known.{format_of, tag_of_word}
use Rattle.program_words.specs.Value.{parted}
use Rattle.program_words.specs.declared.fault.Fault.{Fault}
use Rattle.explainer.specs.Notes.{word_note}
use Rattle.explainer.specs.Places.{place_of, places}
use Rattle.explainer.specs.Words.{digits_note, first_note, hex_note, or_note}

-- `fill` and the list come before the known values
abbrev pub before_values : ℕ
before_values = 2

-- ---- a word that isn't a known value

abbrev pub tag_note : ℕ → List ℕ → List ℕ
tag_note number tag = or_note (digits_note number tag)
    (if is_ok (tag_of_word tag) then [] else word_note number (codes "TAG must be one whole tag"))

abbrev pub tagged_note : ℕ → List ℕ → List ℕ → List ℕ → List ℕ
tagged_note number format tag value =
    if is_ok (format_of format) then or_note (tag_note number tag) (hex_note number value)
    else word_note number (codes "F must be n (numeric), c (compressed numeric) or o (any other)")

abbrev pub whole_note : ℕ → List ℕ
whole_note number = word_note number (codes "a known value must have the form F:TAG:VALUE")

abbrev pub rest_note : ℕ → List ℕ → Result (List ℕ × List ℕ) Fault → List ℕ
rest_note number format (Ok both) = tagged_note number format both.0 both.1
rest_note number format (Err fault) = whole_note number

abbrev pub parts_note : ℕ → Result (List ℕ × List ℕ) Fault → List ℕ
parts_note number (Ok both) = rest_note number both.0 (parted both.1)
parts_note number (Err fault) = whole_note number

-- F:TAG:VALUE
abbrev pub value_note : ℕ → List ℕ → List ℕ
value_note number word = parts_note number (parted word)

-- the note on the first word that isn't a known value
abbrev pub known_note : List (List ℕ) → List ℕ
known_note words = first_note value_note words (drop before_values (places words))

-- ---- two values of one tag

-- the first value whose tag an earlier one has, and that one, by their places
pub record IsFirstTwice (known : List Known) (first second : ℕ) : Type 0 where
  pub one : Known
  pub other : Known
  pub is_one : slice_get known first ≡ Some one
  pub is_other : slice_get known second ≡ Some other
  pub order : first < second
  pub inside : second < length known
  pub same : one.tag ≡ other.tag
  pub apart : HasDuplicate (take second known) → ⊥

-- the words of both values, and their tag
abbrev pub twice_note : List (List ℕ) → ℕ → ℕ → List ℕ → List ℕ
twice_note words first second tag =
    codes "words " ++ (decimal (place_of words (first + before_values)) ++ (codes " and "
    ++ (decimal (place_of words (second + before_values)) ++ (codes ": both give a value for tag "
    ++ (encode_upper tag ++ codes "\n")))))

-- The note on known values: empty if each has another tag, else on the first two of one tag.
pub data IsTwiceNote (words : List (List ℕ)) (known : List Known) (note : List ℕ) : Type 0 where
  all_apart : (HasDuplicate known → ⊥) → note ≡ [] → IsTwiceNote words known note
  twice : (first second : ℕ) (pair : IsFirstTwice known first second)
      → note ≡ twice_note words first second pair.other.tag → IsTwiceNote words known note
