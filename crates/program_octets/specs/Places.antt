-- The places of an answer's lines among the octets, as a member of its object.
use Rattle.std.specs.Prelude.{ℕ, zero, suc, ◌+◌, List, [], ◌∷◌, ◌++◌, codes, decimal, slice_index}
use Rattle.layouts.specs.Items.{with_item}
use Rattle.program_octets.specs.declared.places.Place.{Place}
use Rattle.program_octets.specs.declared.places.Place.TheVariants.{Range, Fields}

-- a place and another one: the octets from the first, and before the second
abbrev pub range_text : ℕ × ℕ → List ℕ
range_text r = decimal r.0 ++ (codes "," ++ decimal r.1)

-- ranges after other items
abbrev pub with_ranges : List ℕ → List (ℕ × ℕ) → List ℕ
with_ranges items [] = items
with_ranges items (r ∷ ranges) = with_ranges (with_item items (range_text r)) ranges

-- the octets of a line as an array: the two places of each of their ranges
abbrev pub place_text : List (ℕ × ℕ) → List ℕ
place_text ranges = codes "[" ++ (with_ranges [] ranges ++ codes "]")

-- the places of lines after other items
abbrev pub with_places : List ℕ → List (List (ℕ × ℕ)) → List ℕ
with_places items [] = items
with_places items (ranges ∷ places) = with_places (with_item items (place_text ranges)) places

-- the member with the places of lines
abbrev pub places_member : List (List (ℕ × ℕ)) → List ℕ
places_member places = codes ",\"places\":[" ++ (with_places [] places ++ codes "]")

-- the octets in a row from a place, and before another one
abbrev pub from_to : ℕ → ℕ → List (ℕ × ℕ)
from_to begin end = (begin, end) ∷ []

-- the fields of so many blocks from this place of the octets b on, by the LEN of each: a field is after NAD, PCB and LEN,
-- and before the LRC
abbrev pub ranges_in : ℕ → ℕ → List ℕ → List (ℕ × ℕ)
ranges_in zero at b = []
ranges_in (suc blocks) at b = (at + 3, at + 3 + slice_index b (at + 2))
    ∷ ranges_in blocks (at + 3 + slice_index b (at + 2) + 1) b

-- the ranges of a place
abbrev pub ranges_of : Place → List (ℕ × ℕ)
ranges_of (Range begin end) = from_to begin end
ranges_of (Fields blocks octets) = ranges_in blocks 0 octets.now
