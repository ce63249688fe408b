-- The result of reading a whole input, and what is left to read.
use Rattle.std.specs.Prelude.{◌≡◌, ◌⊎◌, ℕ, ◌+◌, ◌≤◌, List, drop, length, nat_le, take, Result, Ok, Err, IfOk, if◌then◌else◌}
use Rattle.std.specs.Io.KnownBytes.{Consumes, IsAtEnd, Keeps}
use Rattle.octet_core.specs.Failures.{next_count}
use Rattle.program_words.specs.Given.{octets_given, IsFromReader}
use Rattle.program_words.specs.declared.given.OctetSource.{OctetSource}
use Rattle.program_words.specs.declared.fault.Fault.{Fault}
use Rattle.program_words.specs.declared.fault.Fault.TheVariants.{Memory, Read, TooLarge}
use Rattle.program.specs.Calls.{Calls}

-- the most octets that a file may have
abbrev pub largest_file : ℕ
largest_file = 4194304

-- these octets are all that the reader had, and no call failed
pub record IsWhole (reads : Calls) (file : List ℕ) : Type 0 where
  pub from : Consumes reads.from reads.to file
  pub end : IsAtEnd reads.to
  pub fits : length file ≤ largest_file
  pub count : reads.after ≡ reads.before

-- some of the first octets were read, at most this many
pub record IsBegun (reads : Calls) (most : ℕ) : Type 0 where
  pub read : List ℕ
  pub from : Consumes reads.from reads.to read
  pub few : length read ≤ most

-- one octet more than a file may have was read, and no call failed
pub record IsTooLarge (reads : Calls) : Type 0 where
  pub read : List ℕ
  pub from : Consumes reads.from reads.to read
  pub many : length read ≡ largest_file + 1
  pub count : reads.after ≡ reads.before

-- the result of reading these octets, if memory suffices and no call fails
abbrev pub file_of : List ℕ → Result (List ℕ) Fault
file_of b = if nat_le (length b) largest_file then Ok b else Err TooLarge

-- each result of reading a whole input
abbrev pub ReadsWhole : Calls → Result (List ℕ) Fault → Type 0
ReadsWhole reads (Ok file) = IsWhole reads file
ReadsWhole reads (Err TooLarge) = IsTooLarge reads
ReadsWhole reads (Err Read) = IsBegun reads largest_file × (reads.after ≡ next_count reads.before)
ReadsWhole reads (Err Memory) = IsBegun reads largest_file × (reads.after ≡ reads.before)
ReadsWhole reads (Err _) = ⊥

-- The result of taking the octets: those of the word, or those that were read in this form; or their fault; or memory
-- ran out without a failed call.
pub record IsTaken (given : OctetSource) (reads : Calls)
    (taken : Result (List ℕ) Fault) :
    Type 0 where
  pub file : Result (List ℕ) Fault
  pub is_file : IsFromReader given → ReadsWhole reads file
  pub is_taken : (taken ≡ octets_given given file) ⊎ ((taken ≡ Err Memory) × (reads.after ≡ reads.before))
  pub count : IfOk taken (λ _. reads.after ≡ reads.before)

-- ---- one call of the reader

-- one call read this many octets after the first ones of the buffer, which stay; 0 at the end of the input
pub record IsMore (reads : Calls) (old new : List ℕ) (filled count : ℕ) : Type 0 where
  pub inside : filled + count ≤ length new
  pub most : length new ≤ largest_file + 1
  pub kept : take filled new ≡ take filled old
  pub from : Consumes reads.from reads.to (take count (drop filled new))
  pub end : count ≡ 0 → IsAtEnd reads.to
  pub none_failed : reads.after ≡ reads.before

abbrev pub ReadsMore : Calls → List ℕ → List ℕ → ℕ → Result ℕ Fault → Type 0
ReadsMore reads old new filled (Ok count) = IsMore reads old new filled count
ReadsMore reads old new filled (Err Read) = Keeps reads.from reads.to × (reads.after ≡ next_count reads.before)
ReadsMore reads old new filled (Err Memory) = Keeps reads.from reads.to × (reads.after ≡ reads.before)
ReadsMore reads old new filled (Err _) = ⊥

-- ---- the calls so far

-- this many octets were read into the front of the buffer, and no call failed
pub record IsHeld (reads : Calls) (items : List ℕ) (filled : ℕ) : Type 0 where
  pub inside : filled ≤ length items
  pub most : length items ≤ largest_file + 1
  pub from : Consumes reads.from reads.to (take filled items)
  pub count : reads.after ≡ reads.before
