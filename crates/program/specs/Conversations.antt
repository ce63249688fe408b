-- The octets that a conversation reads and the texts that it writes, in order.
use Rattle.std.specs.Prelude.{◌≡◌, ◌<◌, ℕ, List, [], ◌∷◌, ◌++◌, length, take, Option, Result, Ok, Err}
use Rattle.std.specs.Io.KnownBytes.{Appends, Consumes, IsAtEnd}
use Rattle.octet_core.specs.Failures.{next_count}
use Rattle.octet_core.specs.declared.stream.WriteFault.{WriteFault}
use Rattle.program.specs.declared.conversation.Streams.{Streams}

-- An event: octets are read, none at the end of the input; a call to read failed; a text is written; or a call to write
-- one failed after this many of its octets.
pub data Event : Type 0 where
  heard : (octets : List ℕ) → Event
  unheard : Event
  told : (text : List ℕ) → Event
  untold : (text : List ℕ) (count : ℕ) → Event

-- the event of a call to read octets, with this buffer after it
abbrev pub hearing : {E : Type 0} → Result ℕ E → List ℕ → Event
hearing (Ok count) room = heard (take count room)
hearing (Err fault) room = unheard

-- the event of a call to write a text
abbrev pub telling : {A : Type 0} → List ℕ → Result A WriteFault → Event
telling text (Ok done) = told text
telling text (Err fault) = untold text fault.written

-- These events came after the old state, whatever came before it, and no other event did.
abbrev pub Happens : {A : Type 0} → (A → List Event → Type 0) → (A → List Event → Type 0) → List Event → Type 0
Happens {A} old new events = (first : A) (before : List Event) → old first before → new first (before ++ events)

-- ---- over a reader and a writer

-- The octets left to read and those that were written, if known, and how many calls of the reader and of the writer
-- failed.
pub record Wire : Type 0 where
  pub left : Option (List ℕ)
  pub written : Option (List ℕ)
  pub not_read : ℕ
  pub not_written : ℕ

-- One event: octets are read from the reader; or a text is written, whole, or its first octets if a call failed.
-- Nothing else changes.
abbrev pub Moves : Wire → Event → Wire → Type 0
Moves old (heard octets) new = Consumes old.left new.left octets × (octets ≡ [] → IsAtEnd new.left)
    × (new.not_read ≡ old.not_read) × (new.written ≡ old.written) × (new.not_written ≡ old.not_written)
Moves old unheard new = Consumes old.left new.left [] × (new.not_read ≡ next_count old.not_read)
    × (new.written ≡ old.written) × (new.not_written ≡ old.not_written)
Moves old (told text) new = (new.left ≡ old.left) × (new.not_read ≡ old.not_read)
    × Appends old.written new.written text × (new.not_written ≡ old.not_written)
Moves old (untold text count) new = (new.left ≡ old.left) × (new.not_read ≡ old.not_read) × (count < length text)
    × Appends old.written new.written (take count text) × (new.not_written ≡ next_count old.not_written)

-- one event after another
abbrev pub HaveMoved : Wire → List Event → Wire → Type 0
HaveMoved first [] now = first ≡ now
HaveMoved first (event ∷ events) now = (next : Wire) × Moves first event next × HaveMoved next events now

module _ {R W : Type 0} where
  -- what is known about the reader and the writer of streams
  abbrev pub wire_of : (R → Option (List ℕ)) → (R → ℕ) → (W → Option (List ℕ)) → (W → ℕ) → Streams R W → Wire
  wire_of remaining not_read contents not_written streams = record {
    left = remaining streams.reader.now;
    written = contents streams.writer.now;
    not_read = not_read streams.reader.now;
    not_written = not_written streams.writer.now;
  }

  -- the reader and the writer are the same
  abbrev pub AreSame : Streams R W → Streams R W → Type 0
  AreSame a b = (a.reader.ghost_name ≡ b.reader.ghost_name) × (a.writer.ghost_name ≡ b.writer.ghost_name)
