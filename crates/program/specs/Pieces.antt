-- The result of reading an input that has no limit, piece by piece.
use Rattle.std.specs.Prelude.{◌≡◌, ◌≤◌, ◌^◌, ℕ, List, length, take, Result, Ok, Err}
use Rattle.std.specs.Io.KnownBytes.{Consumes, IsAtEnd, Keeps}
use Rattle.octet_core.specs.Failures.{next_count}
use Rattle.program_words.specs.declared.fault.Fault.{Fault}
use Rattle.program_words.specs.declared.fault.Fault.TheVariants.{Memory, Read, TooLarge}
use Rattle.program_words.specs.declared.request.Request.{Request}
use Rattle.program_words.specs.declared.request.Request.TheVariants.{Judge}
use Rattle.program.specs.Calls.{Calls}
use Rattle.program.specs.Files.{ReadsWhole}

-- reading an input without an end stops after this many calls that read octets
abbrev pub most_pieces : ℕ
most_pieces = 2 ^ 50

-- these octets are all that the reader had, and no call failed
pub record IsAll (reads : Calls) (text : List ℕ) : Type 0 where
  pub from : Consumes reads.from reads.to text
  pub end : IsAtEnd reads.to
  pub count : reads.after ≡ reads.before

-- some of the first octets were read
pub record IsFront (reads : Calls) : Type 0 where
  pub read : List ℕ
  pub from : Consumes reads.from reads.to read

-- so many octets were read that the input counts as one without an end, and no call failed
pub record IsEndless (reads : Calls) : Type 0 where
  pub read : List ℕ
  pub from : Consumes reads.from reads.to read
  pub many : most_pieces ≤ length read
  pub count : reads.after ≡ reads.before

-- each result of reading an input to its end, without a limit
abbrev pub ReadsAll : Calls → Result (List ℕ) Fault → Type 0
ReadsAll reads (Ok text) = IsAll reads text
ReadsAll reads (Err TooLarge) = IsEndless reads
ReadsAll reads (Err Read) = IsFront reads × (reads.after ≡ next_count reads.before)
ReadsAll reads (Err Memory) = IsFront reads × (reads.after ≡ reads.before)
ReadsAll reads (Err _) = ⊥

-- each result of reading for a request: a trace that is judged has no limit
abbrev pub ReadsFor : Request → Calls → Result (List ℕ) Fault → Type 0
ReadsFor (Judge atr judging) reads file = ReadsAll reads file
ReadsFor _ reads file = ReadsWhole reads file

-- the input was read to its end, or why it wasn't
abbrev pub ReadsPast : {A : Type 0} → Calls → Result A Fault → Type 0
ReadsPast reads (Ok done) = (text : List ℕ) × IsAll reads text
ReadsPast reads (Err fault) = ReadsAll reads (Err fault)

-- ---- one call of the reader

-- one call read this many octets into the front of the room; 0 at the end of the input
pub record IsPiece (reads : Calls) (room : List ℕ) (count : ℕ) : Type 0 where
  pub inside : count ≤ length room
  pub from : Consumes reads.from reads.to (take count room)
  pub end : count ≡ 0 → IsAtEnd reads.to
  pub none_failed : reads.after ≡ reads.before

abbrev pub ReadsPiece : Calls → List ℕ → Result ℕ Fault → Type 0
ReadsPiece reads room (Ok count) = IsPiece reads room count
ReadsPiece reads room (Err Read) = Keeps reads.from reads.to × (reads.after ≡ next_count reads.before)
ReadsPiece reads room (Err _) = ⊥
