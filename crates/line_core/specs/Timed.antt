-- A device with a time limit: what it heard and said, call by call.
use Rattle.std.specs.Prelude.{ℕ, List, ◌++◌, take, Result, Ok, Err}
use Rattle.std.specs.declared.io.Error.{Error}

-- One call of the device: these octets came within so many microseconds, or none did; or it failed. Or the end sent
-- these octets, or failed to.
pub data Sound : Type 0 where
  came : (limit : ℕ) (piece : List ℕ) → Sound
  deaf : (limit : ℕ) (fault : Error) → Sound
  said : (octets : List ℕ) → Sound
  unsaid : (octets : List ℕ) (fault : Error) → Sound

abbrev pub sound_of : ℕ → Result ℕ Error → List ℕ → Sound
sound_of limit (Ok count) room = came limit (take count room)
sound_of limit (Err fault) room = deaf limit fault

abbrev pub saying : {A : Type 0} → List ℕ → Result A Error → Sound
saying octets (Ok done) = said octets
saying octets (Err fault) = unsaid octets fault

-- From any earlier state of the device, these sounds came after those before, and nothing else did.
abbrev pub Sounds : {A : Type 0} → (A → List Sound → Type 0) → (A → List Sound → Type 0) → List Sound → Type 0
Sounds {A} old new sounds = (first : A) (before : List Sound) → old first before → new first (before ++ sounds)
