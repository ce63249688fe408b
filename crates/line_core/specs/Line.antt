-- What was on a line between two ends.
use Rattle.std.specs.Prelude.{◌≤◌, ℕ, List, ◌++◌, length, take, Result, Ok, Err}
use Rattle.std.specs.declared.io.Error.{Error}
use Rattle.line_core.specs.declared.line.Received.{Received}
use Rattle.line_core.specs.declared.line.Received.TheVariants.{Octets, Nothing}

-- What came after a block: these octets as one block, nothing within the waiting time, or a failure of the line
-- with this error.
pub data Arrival : Type 0 where
  block : (octets : List ℕ) → Arrival
  nothing : Arrival
  failure : (fault : Error) → Arrival

-- A block that was sent, how many block waiting times its answer had, and what came.
pub record Talk : Type 0 where
  pub sent : List ℕ
  pub waiting : ℕ
  pub arrival : Arrival

-- what came, if this is the buffer that the line filled
abbrev pub arrived : Received → List ℕ → Arrival
arrived (Octets count) room = block (take count room)
arrived Nothing room = nothing

-- what came, by the result of a call of the line
abbrev pub arrival_of : Result Received Error → List ℕ → Arrival
arrival_of (Ok heard) room = arrived heard room
arrival_of (Err fault) room = failure fault

-- what came is in the buffer
abbrev pub FitsRoom : Received → List ℕ → Type 0
FitsRoom (Octets count) room = count ≤ length room
FitsRoom Nothing room = Unit {0}

-- From any earlier state of the line, these talks came after those before, and nothing else did.
abbrev pub Adds : {A : Type 0} → (A → List Talk → Type 0) → (A → List Talk → Type 0) → List Talk → Type 0
Adds {A} old new talks = (first : A) (before : List Talk) → old first before → new first (before ++ talks)
