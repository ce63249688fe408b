-- That what a line has for octets are octets, and that memory isn't wanting in what it says.
use Rattle.std.proofs.Common.{◌≡◌, ◌≢◌, ◌&&◌, not, ℕ, List, [], codes, Bool, true, false, Option, Some, None, Result, Ok, Err, MatchResult, if◌then◌else◌, refl, rules, tests}
use Rattle.std.specs.Str.{bytes_eq}
use Rattle.hex.specs.Hex.{decode_of}
use Rattle.hex.specs.declared.error.FromHexError.{FromHexError}
use Rattle.hex.proofs.HexLemmas.{decode_of-ok}
use Rattle.octet_core.specs.Octets.{AreOctets}
use Rattle.octet_core.specs.Decimal.{decimal_number}
use Rattle.exchange_text.specs.Names.{name_text}
use Rattle.exchange_text.specs.declared.name.Name.TheVariants as name
use Rattle.exchange_text.specs.declared.fault.ExchangeFault.{ExchangeFault}
use Rattle.exchange_text.specs.declared.fault.ExchangeFault.TheVariants.{Memory, Word}
use Rattle.block_core.specs.declared.side.Side.{Side}
use Rattle.block_core.specs.declared.side.Side.TheVariants as side
use Rattle.trace_text.specs.declared.entry.Entry.{Entry}
use Rattle.trace_text.specs.declared.entry.Entry.TheVariants.{Nothing, Block, Quiet, Reset, Midway, Moment, Until}
use Rattle.trace_text.specs.declared.entry.Reach.{Reach}
use Rattle.trace_text.specs.declared.entry.Reach.TheVariants.{Unsaid, Lost, Parity, Came}
use Rattle.trace_text.specs.Reading.{◌>>=◌, block_said, entry_of, event_said, is_empty, is_none, is_silent, is_unknown, is_wrong, moment_by, moment_said, named_said, octets_by, octets_said, reach_by, reach_said, words_of, Words}

-- what was read is so, or the line is at fault, and memory isn't wanting
abbrev pub IsRead : {A : Type 0} → (A → Type 0) → Result A ExchangeFault → Type 0
IsRead Holds read = MatchResult read Holds (λ fault. fault ≢ Memory)

-- what came are octets
abbrev pub IsOfOctets : Reach → Type 0
IsOfOctets Unsaid = Unit {0}
IsOfOctets Lost = Unit {0}
IsOfOctets Parity = Unit {0}
IsOfOctets (Came octets) = AreOctets octets

-- what an entry has for octets are octets
abbrev pub HasOctets : Entry → Type 0
HasOctets (Block from octets reach) = AreOctets octets × IsOfOctets reach
HasOctets Nothing = Unit {0}
HasOctets Quiet = Unit {0}
HasOctets Reset = Unit {0}
HasOctets Midway = Unit {0}
HasOctets (Moment moment) = Unit {0}
HasOctets (Until moment) = Unit {0}

either : {A : Type 0} (Holds : A → Type 0) (b : Bool) (x y : Result A ExchangeFault) → IsRead Holds x → IsRead Holds y
    → IsRead Holds (if b then x else y)
either Holds true x y h g = h
either Holds false x y h g = g

then-read : {A B : Type 0} (Holds : A → Type 0) (Also : B → Type 0) (r : Result A ExchangeFault)
    (f : A → Result B ExchangeFault) → IsRead Holds r → ((a : A) → Holds a → IsRead Also (f a)) → IsRead Also (r >>= f)
then-read Holds Also (Ok a) f h g = g a h
then-read Holds Also (Err fault) f h g = h

none-are : AreOctets []
none-are = search (rules, tests)

hex-read : (number : ℕ) (word : List ℕ) → IsRead AreOctets (octets_by number (decode_of word))
hex-read number word = go (decode_of word) refl
  where
    go : (r : Result (List ℕ) FromHexError) → decode_of word ≡ r → IsRead AreOctets (octets_by number r)
    go (Ok octets) e = (decode_of-ok word octets e).3
    go (Err fault) e = λ same. cc same

octets-read : (number : ℕ) (word : List ℕ) → IsRead AreOctets (octets_said number word)
octets-read number word = either AreOctets (is_none word) (Ok []) _ none-are (hex-read number word)

come-read : (number : ℕ) (w : Words) → IsRead IsOfOctets (reach_by number w)
come-read number w =
    either IsOfOctets (is_empty w.third) (Ok Unsaid) _ tt
    (either IsOfOctets (bytes_eq w.third (codes "lost") && is_empty w.fourth) (Ok Lost) _ tt
    (either IsOfOctets (bytes_eq w.third (codes "parity") && is_empty w.fourth) (Ok Parity) _ tt
    (either IsOfOctets (bytes_eq w.third (codes "as") && not (is_empty w.fourth)) _ (Err (Word number))
    (then-read AreOctets IsOfOctets (octets_said number w.fourth) _ (octets-read number w.fourth) (λ octets h. h))
    (λ same. cc same))))

reach-read : (number : ℕ) (w : Words) → IsRead IsOfOctets (reach_said number w)
reach-read number w =
    either IsOfOctets (is_wrong w) (Err (Word number)) (reach_by number w) (λ same. cc same) (come-read number w)

block-read : (number : ℕ) (from : Side) (w : Words) → IsRead HasOctets (block_said number from w)
block-read number from w =
    then-read IsOfOctets HasOctets (reach_said number w) _ (reach-read number w) (λ reach came.
    then-read AreOctets HasOctets (octets_said number w.second) _ (octets-read number w.second) (λ octets h. (h, came)))

abbrev Known : ℕ → Type 0
Known moment = Unit {0}

known-read : (number : ℕ) (alone : Bool) (moment : Option ℕ) → IsRead Known (moment_by number alone moment)
known-read number true (Some moment) = tt
known-read number false (Some moment) = λ same. cc same
known-read number alone None = λ same. cc same

moment-read : (number : ℕ) (w : Words) → IsRead Known (moment_said number w)
moment-read number w = known-read number (is_empty w.third) (decimal_number w.second)

event-read : (number : ℕ) (w : Words) → IsRead HasOctets (event_said number w)
event-read number w =
    either HasOctets (bytes_eq w.first (name_text name.Quiet) && is_empty w.second) (Ok Quiet) _ tt
    (either HasOctets (bytes_eq w.first (codes "reset") && is_empty w.second) (Ok Reset) _ tt
    (either HasOctets (bytes_eq w.first (codes "begins") && is_unknown w) (Ok Midway) _ tt
    (either HasOctets (bytes_eq w.first (name_text name.Moment)) _ _
    (then-read Known HasOctets (moment_said number w) _ (moment-read number w) (λ moment h. tt))
    (either HasOctets (bytes_eq w.first (codes "until")) _ (Err (Word number))
    (then-read Known HasOctets (moment_said number w) _ (moment-read number w) (λ moment h. tt))
    (λ same. cc same)))))

named-read : (number : ℕ) (w : Words) → IsRead HasOctets (named_said number w)
named-read number w =
    either HasOctets (bytes_eq w.first (name_text name.FromTerminal)) _ _ (block-read number side.Terminal w)
    (either HasOctets (bytes_eq w.first (name_text name.FromCard)) _ _ (block-read number side.Card w)
    (event-read number w))

pub entry-read : (number : ℕ) (line : List ℕ) → IsRead HasOctets (entry_of number line)
entry-read number line =
    either HasOctets (is_silent (words_of line)) (Ok Nothing) (named_said number (words_of line)) tt
    (named-read number (words_of line))
