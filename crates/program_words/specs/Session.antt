-- A simulated session as words: an answer to reset, pairs COMMAND:REPLY, and lists of blocks.
use Rattle.std.specs.Prelude.{◌==◌, ◌&&◌, ◌||◌, ◌+◌, ◌-◌, ◌++◌, ℕ, Bool, zero, suc, nat_le, nat_lt, length, List, [], ◌∷◌, Option, Some, None, Result, Ok, Err, if◌then◌else◌}
use Rattle.std.specs.List.{slice_split, position_or_len, before_first, after_first}
use Rattle.octet_core.specs.Decimal.{decimal_number}
use Rattle.octet_core.specs.Octets.{AreOctets}
use Rattle.program_words.specs.Value.{◌>>=◌, each, octets_of_word, parted}
use Rattle.program_words.specs.declared.fault.Fault.{Fault}
use Rattle.program_words.specs.declared.fault.Fault.TheVariants.{Words}
use Rattle.program_words.specs.declared.session.Pair.{Pair}

-- ---- command and reply

abbrev pub pair_by : List ℕ → List ℕ → Result Pair Fault
pair_by command_word reply_word = do
  command ← octets_of_word command_word
  reply ← octets_of_word reply_word
  Ok (record { command = command; reply = reply })

-- COMMAND:REPLY, cut at its first colon before its parts are read
abbrev pub pair_of : List ℕ → Result Pair Fault
pair_of word = do
  both ← parted word
  pair_by both.0 both.1

abbrev pub pairs_of : List (List ℕ) → Result (List Pair) Fault
pairs_of = each pair_of

-- ---- blocks by their numbers

-- a number from 1, in decimal digits without a leading 0, below 10 to the power of 15
abbrev pub counted : Option ℕ → Result ℕ Fault
counted None = Err Words
counted (Some n) = if nat_lt 0 n then Ok n else Err Words

abbrev pub block_number : List ℕ → Result ℕ Fault
block_number word = counted (decimal_number word)

abbrev pub is_dash : ℕ → Bool
is_dash x = x == 45

-- A part of a list: a number, or the first and the last number of a range, with a dash between them.
abbrev pub block_range : List ℕ → Result (ℕ × ℕ) Fault
block_range word =
    if position_or_len is_dash word == length word then block_number word >>= (λ n. Ok (n, n))
    else block_number (before_first is_dash word) >>= (λ first.
    block_number (after_first is_dash word) >>= (λ last. Ok (first, last)))

-- this many numbers, from the first on
abbrev pub numbers_from : ℕ → ℕ → List ℕ
numbers_from first zero = []
numbers_from first (suc count) = first ∷ numbers_from (first + 1) count

-- the most blocks that a list may name up to the end of a range, each counted as often as it is named
abbrev pub most_named : ℕ
most_named = 1000000

-- the numbers of a range, after those of the parts before it; the last isn't below the first; a single number always
-- fits
abbrev pub with_range : List ℕ → ℕ → ℕ → Result (List ℕ) Fault
with_range numbers first last =
    if nat_le first last && (first == last || nat_le (length numbers + (last + 1 - first)) most_named)
    then Ok (numbers ++ numbers_from first (last + 1 - first))
    else Err Words

abbrev pub with_part : List ℕ → List ℕ → Result (List ℕ) Fault
with_part numbers word = block_range word >>= (λ range. with_range numbers range.0 range.1)

abbrev pub with_parts : List ℕ → List (List ℕ) → Result (List ℕ) Fault
with_parts numbers [] = Ok numbers
with_parts numbers (word ∷ words) = with_part numbers word >>= (λ longer. with_parts longer words)

-- the numbers of one or more parts, separated by commas
abbrev pub block_numbers : List ℕ → Result (List ℕ) Fault
block_numbers word = with_parts [] (slice_split (λ x. x == 44) word)

-- no blocks if there is no word
abbrev pub blocks_of : Option (List ℕ) → Result (List ℕ) Fault
blocks_of None = Ok []
blocks_of (Some word) = block_numbers word

-- ---- what holds of a session from words

abbrev pub AreOctetPairs : List Pair → Type 0
AreOctetPairs [] = Unit {0}
AreOctetPairs (pair ∷ pairs) = AreOctets pair.command × AreOctets pair.reply × AreOctetPairs pairs
