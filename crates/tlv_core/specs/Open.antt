-- The places at which open objects end, as the code keeps them.
use Rattle.std.specs.Prelude.{ℕ, ◌-◌, ◌<◌, ◌≤◌, List, length, slice_index, nat_lt, map}
use Rattle.std.proofs.Common.{suc}
use Rattle.std.specs.List.{take_while}

-- each of these places is after the octets that came, and within the limit
abbrev pub AreEnds : ℕ → ℕ → List ℕ → Type 0
AreEnds max count ends = (i : ℕ) → i < length ends → (count < slice_index ends i) × (slice_index ends i ≤ max)

-- each object ends no later than the one before it, which is around it
abbrev pub AreNested : List ℕ → Type 0
AreNested ends = (i : ℕ) → suc i < length ends → slice_index ends (suc i) ≤ slice_index ends i

-- no object ends before this place
abbrev pub AreFrom : ℕ → List ℕ → Type 0
AreFrom place ends = (i : ℕ) → i < length ends → place ≤ slice_index ends i

-- no kept place from index `level` on is after the octets that came
abbrev pub AreReached : ℕ → ℕ → List ℕ → Type 0
AreReached count level places = (i : ℕ) → level ≤ i → slice_index places i ≤ count

-- no kept place is greater than this one
abbrev pub AreUpTo : ℕ → List ℕ → Type 0
AreUpTo most places = (i : ℕ) → slice_index places i ≤ most

-- the rooms of objects that end at these places
abbrev pub rooms_to : ℕ → List ℕ → List ℕ
rooms_to count ends = map (λ end. end - count) ends

-- the ends of the objects that are still open
abbrev pub open_after : ℕ → List ℕ → List ℕ
open_after count ends = take_while (λ end. nat_lt count end) ends
