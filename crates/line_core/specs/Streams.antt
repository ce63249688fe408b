-- A line that writes its octets to a writer and reads them from a reader.
use Rattle.std.specs.Prelude.{◌≡◌, ◌≢◌, ◌≤◌, ◌<◌, ◌⊎◌, ℕ, ◌+◌, List, [], ◌∷◌, ◌++◌, length, take, slice_index, Option, Result, Ok, Err, IfOk, IfErr}
use Rattle.std.specs.Io.KnownBytes.{Appends, Consumes, IsAtEnd}
use Rattle.std.specs.IoError.{error_kind}
use Rattle.std.specs.declared.io.Error.{Error}
use Rattle.std.specs.declared.io.ErrorKind.{ErrorKind}
use Rattle.std.specs.declared.io.ErrorKind.TheVariants.{TimedOut, WouldBlock, UnexpectedEof, WriteZero}
use Rattle.octet_core.specs.Failures.{next_count, most_failures}
use Rattle.line_core.specs.declared.line.Received.{Received}
use Rattle.line_core.specs.declared.line.Received.TheVariants.{Octets, Nothing}
use Rattle.line_core.specs.Line.{Arrival, block, nothing, failure, Talk}
use Rattle.line_core.specs.Service.{Event}
use Rattle.line_core.specs.Service as at_card
use Rattle.line_core.specs.declared.streaming.AfterRead.{AfterRead}
use Rattle.line_core.specs.declared.streaming.AfterRead.TheVariants.{More, Over}
use Rattle.line_core.specs.declared.streaming.UntimedLine.{UntimedLine}

-- The octets that are left to read and those that were written, if they are known, and how many calls of the reader and
-- of the writer failed.
pub record Wire : Type 0 where
  pub left : Option (List ℕ)
  pub written : Option (List ℕ)
  pub not_read : ℕ
  pub not_written : ℕ

-- the octets that came
abbrev pub came_of : Arrival → List ℕ
came_of (block octets) = octets
came_of nothing = []
came_of (failure fault) = []

-- no octet is after the end of the block, by its third octet
abbrev pub IsFramed : List ℕ → Type 0
IsFramed octets = 3 ≤ length octets → length octets ≤ slice_index octets 2 + 4

-- the octets are a whole block, by its third octet
abbrev pub IsWholeBlock : List ℕ → Type 0
IsWholeBlock octets = (3 ≤ length octets) × (length octets ≡ slice_index octets 2 + 4)

-- A block was read; the calls of the reader failed so many times before and after it, and these octets are left. The
-- block has an octet. It is whole if no call failed, unless the reader ended. If it is whole, no call failed. A failed
-- call is the last one.
pub record IsRead (octets : List ℕ) (before after : ℕ) (left : Option (List ℕ)) : Type 0 where
  pub some : 0 < length octets
  pub whole : after ≡ before → before < most_failures → IsAtEnd left ⊎ IsWholeBlock octets
  pub once : IsWholeBlock octets → after ≡ before
  pub last : (after ≡ before) ⊎ (after ≡ next_count before)

-- the kinds of a failed call that say that nothing came
abbrev pub IsSilence : ErrorKind → Type 0
IsSilence kind = (kind ≡ TimedOut) ⊎ (kind ≡ WouldBlock)

-- The result for a block of which `count` octets came before this failure.
abbrev pub IsBrokenOff : ℕ → Error → Result Received Error → Type 0
IsBrokenOff count fault (Ok (Octets heard)) = (heard ≡ count) × (0 < count)
IsBrokenOff count fault (Ok Nothing) = (count ≡ 0) × IsSilence (error_kind fault)
IsBrokenOff count fault (Err own) = (own ≡ fault) × (count ≡ 0) × (IsSilence (error_kind fault) → ⊥)

-- No more octets of the block come, because of an error for which P holds.
abbrev pub EndsBlock : ℕ → (Error → Type 0) → AfterRead → Type 0
EndsBlock count P (More more) = ⊥
EndsBlock count P (Over heard) = (fault : Error) × P fault × IsBrokenOff count fault heard

-- The reader ended, and no call of it failed.
abbrev pub HasEnded : ℕ → ℕ → Option (List ℕ) → Type 0
HasEnded before after left = (after ≡ before) × IsAtEnd left

-- What a terminal takes the calls of its reader for. Nothing came if one failed. The line failed if a call failed and
-- its kind doesn't say that nothing came, or if the reader ended.
abbrev pub IsTold : Arrival → ℕ → ℕ → Option (List ℕ) → Type 0
IsTold (block octets) before after left = IsRead octets before after left
IsTold nothing before after left = after ≡ next_count before
IsTold (failure fault) before after left = (IsSilence (error_kind fault) → ⊥)
    × ((after ≡ next_count before) ⊎ ((error_kind fault ≡ UnexpectedEof) × HasEnded before after left))

-- What a card takes the calls of its reader for. Unlike at a terminal, nothing came if the reader ended.
abbrev pub IsHeard : Arrival → ℕ → ℕ → Option (List ℕ) → Type 0
IsHeard (block octets) before after left = IsRead octets before after left
IsHeard nothing before after left = (after ≡ next_count before) ⊎ HasEnded before after left
IsHeard (failure fault) before after left = (IsSilence (error_kind fault) → ⊥)
    × (error_kind fault ≢ UnexpectedEof) × (after ≡ next_count before)

-- `count` of the octets that were sent are written: all, unless the line failed
abbrev pub IsWritten : Arrival → List ℕ → ℕ → Type 0
IsWritten (block octets) sent count = count ≡ length sent
IsWritten nothing sent count = count ≡ length sent
IsWritten (failure fault) sent count = count ≤ length sent

-- the writer failed once, and nothing was read
abbrev pub IsBroken : Wire → Arrival → Wire → Type 0
IsBroken old (block octets) new = ⊥
IsBroken old nothing new = ⊥
IsBroken old (failure fault) new = (error_kind fault ≡ WriteZero) × (new.not_written ≡ next_count old.not_written)
    × (new.not_read ≡ old.not_read) × (new.left ≡ old.left)

-- What was sent is written. What came is read, and ends with its block or before. If all was written, what came is what
-- the terminal takes the calls of the reader for, and no call of the writer failed.
pub record Carries (old : Wire) (talk : Talk) (new : Wire) : Type 0 where
  pub count : ℕ
  pub whole : IsWritten talk.arrival talk.sent count
  pub sent : Appends old.written new.written (take count talk.sent)
  pub came : Consumes old.left new.left (came_of talk.arrival)
  pub framed : IsFramed (came_of talk.arrival)
  pub told : count ≡ length talk.sent → IsTold talk.arrival old.not_read new.not_read new.left
      × (new.not_written ≡ old.not_written)
  pub broken : count < length talk.sent → IsBroken old talk.arrival new

-- the talks are carried one after another
abbrev pub HasCarried : Wire → List Talk → Wire → Type 0
HasCarried first [] now = first ≡ now
HasCarried first (talk ∷ talks) now = (next : Wire) × Carries first talk next × HasCarried next talks now

-- One event on the line of a card. What came is read, ends with its block or before, and is what the card takes the
-- calls of the reader for. What is sent is written, all of it unless the writer failed once. Nothing else changes.
abbrev pub Moves : Wire → Event → Wire → Type 0
Moves old (at_card.came arrival) new = Consumes old.left new.left (came_of arrival) × IsFramed (came_of arrival)
    × (new.written ≡ old.written) × IsHeard arrival old.not_read new.not_read new.left
    × (new.not_written ≡ old.not_written)
Moves old (at_card.sent octets) new = (new.left ≡ old.left) × Appends old.written new.written octets
    × (new.not_read ≡ old.not_read) × (new.not_written ≡ old.not_written)
Moves old (at_card.unsent octets fault) new = (new.left ≡ old.left)
    × ((count : ℕ) × (count < length octets) × Appends old.written new.written (take count octets))
    × (new.not_read ≡ old.not_read) × (new.not_written ≡ next_count old.not_written)
    × (error_kind fault ≡ WriteZero)
Moves old (at_card.asked is_new command reply) new = ⊥
Moves old (at_card.requested is_new command request) new = ⊥

-- the events happen one after another
abbrev pub HasServed : Wire → List Event → Wire → Type 0
HasServed first [] now = first ≡ now
HasServed first (event ∷ events) now = (next : Wire) × Moves first event next × HasServed next events now

module _ {R W : Type 0} where
  abbrev pub source_of : UntimedLine R W → R
  source_of line = line.source

  abbrev pub sink_of : UntimedLine R W → W
  sink_of line = line.sink

  -- what is known of the reader and the writer of a line, by these functions
  abbrev pub wire_of : (R → Option (List ℕ)) → (R → ℕ) → (W → Option (List ℕ)) → (W → ℕ) → UntimedLine R W → Wire
  wire_of remaining not_read contents not_written line = record {
    left = remaining line.source;
    written = contents line.sink;
    not_read = not_read line.source;
    not_written = not_written line.sink;
  }

-- One call of the reader, with `count` octets at the front of the buffer before it.
abbrev pub MovesOn : {E : Type 0} → Option (List ℕ) → Option (List ℕ) → List ℕ → List ℕ → ℕ → Result ℕ E → Type 0
MovesOn held left old new count result =
    IfOk result (λ more. (piece : List ℕ) × (length piece ≡ more) × (take (count + more) new ≡ take count old ++ piece)
    × Consumes held left piece)
    × IfErr result (λ _. (take count new ≡ take count old) × Consumes held left [])
