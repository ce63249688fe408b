-- What a line of a trace says.
use Rattle.std.specs.Prelude.{◌≡◌, ◌≤◌, ◌⊎◌, ◌==◌, ◌||◌, ◌&&◌, not, ℕ, List, [], length, slice_index, codes, Bool, true, false, Option, Some, None, Result, Ok, Err, if◌then◌else◌}
use Rattle.std.specs.Str.{bytes_eq}
use Rattle.hex.specs.Hex.{decode_of}
use Rattle.hex.specs.declared.error.FromHexError.{FromHexError}
use Rattle.octet_core.specs.Decimal.{decimal_number}
use Rattle.octet_core.specs.Words.{first_word}
use Rattle.exchange_text.specs.Exchange.{latest_moment}
use Rattle.exchange_text.specs.Names.{name_text}
use Rattle.exchange_text.specs.declared.name.Name.TheVariants as name
use Rattle.exchange_text.specs.declared.fault.ExchangeFault.{ExchangeFault}
use Rattle.exchange_text.specs.declared.fault.ExchangeFault.TheVariants.{Word, Hex, Memory}
use Rattle.block_core.specs.declared.side.Side.{Side}
use Rattle.block_core.specs.declared.side.Side.TheVariants.{Terminal, Card}
use Rattle.trace_text.specs.declared.entry.Entry.{Entry}
use Rattle.trace_text.specs.declared.entry.Entry.TheVariants.{Nothing, Block, Quiet, Reset, Midway, Moment, Until}
use Rattle.trace_text.specs.declared.entry.Reach.{Reach}
use Rattle.trace_text.specs.declared.entry.Reach.TheVariants.{Unsaid, Lost, Parity, Came}

-- the first fault is the result
infixl 10 ◌>>=◌
abbrev pub ◌>>=◌ : {A B E : Type 0} → Result A E → (A → Result B E) → Result B E
(Ok x) >>= f = f x
(Err e) >>= f = Err e

-- the result is the expected one, or out of memory
abbrev pub UnlessMemory : {X : Type 0} → Result X ExchangeFault → Result X ExchangeFault → Type 0
UnlessMemory result expected = (result ≡ Err Memory) ⊎ (result ≡ expected)

-- ---- words, separated by spaces, tabs and CR; a line has no LF

-- the first four words of a line, empty if the line has fewer, and the next word
pub record Words : Type 0 where
  pub first : List ℕ
  pub second : List ℕ
  pub third : List ℕ
  pub fourth : List ℕ
  pub more : List ℕ

abbrev pub words_of : List ℕ → Words
words_of line =
    let a = first_word line in
    let b = first_word a.1 in
    let c = first_word b.1 in
    let d = first_word c.1 in
    record { first = a.0; second = b.0; third = c.0; fourth = d.0; more = (first_word d.1).0 }

abbrev pub is_empty : List ℕ → Bool
is_empty word = length word == 0

abbrev pub is_none : List ℕ → Bool
is_none word = bytes_eq word (codes "none")

-- ---- octets

-- octets in upper-case or lower-case hexadecimal
abbrev pub octets_by : ℕ → Result (List ℕ) FromHexError → Result (List ℕ) ExchangeFault
octets_by number (Ok octets) = Ok octets
octets_by number (Err e) = Err (Hex number)

-- the word none stands for no octet
abbrev pub octets_said : ℕ → List ℕ → Result (List ℕ) ExchangeFault
octets_said number word = if is_none word then Ok [] else octets_by number (decode_of word)

-- ---- blocks

-- a line of a block has its octets, and at most two words more; after no octet it has none
abbrev pub is_wrong : Words → Bool
is_wrong w = is_empty w.second || (not (is_empty w.more) || (is_none w.second && not (is_empty w.third)))

-- how octets of an end reached the other end, if the line says so: not at all, with an error of parity, or as other
-- octets
abbrev pub reach_by : ℕ → Words → Result Reach ExchangeFault
reach_by number w =
    if is_empty w.third then Ok Unsaid
    else (if bytes_eq w.third (codes "lost") && is_empty w.fourth then Ok Lost
    else (if bytes_eq w.third (codes "parity") && is_empty w.fourth then Ok Parity
    else (if bytes_eq w.third (codes "as") && not (is_empty w.fourth)
    then octets_said number w.fourth >>= (λ octets. Ok (Came octets))
    else Err (Word number))))

abbrev pub reach_said : ℕ → Words → Result Reach ExchangeFault
reach_said number w = if is_wrong w then Err (Word number) else reach_by number w

abbrev pub block_said : ℕ → Side → Words → Result Entry ExchangeFault
block_said number from w = reach_said number w >>= (λ reach. octets_said number w.second >>= (λ octets.
    Ok (Block from octets reach)))

-- ---- moments

-- the one word after the first, as a number
abbrev pub moment_by : ℕ → Bool → Option ℕ → Result ℕ ExchangeFault
moment_by number true (Some moment) = Ok moment
moment_by number false (Some moment) = Err (Word number)
moment_by number alone None = Err (Word number)

abbrev pub moment_said : ℕ → Words → Result ℕ ExchangeFault
moment_said number w = moment_by number (is_empty w.third) (decimal_number w.second)

-- ---- lines

-- whether the second word is the last one and says that nothing is known
abbrev pub is_unknown : Words → Bool
is_unknown w = bytes_eq w.second (codes "unknown") && is_empty w.third

-- what the words of a line say that isn't a block
abbrev pub event_said : ℕ → Words → Result Entry ExchangeFault
event_said number w =
    if bytes_eq w.first (name_text name.Quiet) && is_empty w.second then Ok Quiet
    else (if bytes_eq w.first (codes "reset") && is_empty w.second then Ok Reset
    else (if bytes_eq w.first (codes "begins") && is_unknown w then Ok Midway
    else (if bytes_eq w.first (name_text name.Moment) then moment_said number w >>= (λ moment. Ok (Moment moment))
    else (if bytes_eq w.first (codes "until") then moment_said number w >>= (λ moment. Ok (Until moment))
    else Err (Word number)))))

-- what the words of a line say; the first word names the line
abbrev pub named_said : ℕ → Words → Result Entry ExchangeFault
named_said number w =
    if bytes_eq w.first (name_text name.FromTerminal) then block_said number Terminal w
    else (if bytes_eq w.first (name_text name.FromCard) then block_said number Card w
    else event_said number w)

-- whether a line has no word, or is a remark; 35 is the number sign
abbrev pub is_silent : Words → Bool
is_silent w = is_empty w.first || (slice_index w.first 0 == 35)

abbrev pub entry_said : ℕ → Words → Result Entry ExchangeFault
entry_said number w = if is_silent w then Ok Nothing else named_said number w

-- what the line with this number says, or its fault
abbrev pub entry_of : ℕ → List ℕ → Result Entry ExchangeFault
entry_of number line = entry_said number (words_of line)

-- a moment that the file of an exchange may have
abbrev pub IsEarly : Entry → Type 0
IsEarly (Moment moment) = moment ≤ latest_moment
IsEarly (Until moment) = moment ≤ latest_moment
IsEarly Nothing = Unit {0}
IsEarly (Block from octets reach) = Unit {0}
IsEarly Quiet = Unit {0}
IsEarly Reset = Unit {0}
IsEarly Midway = Unit {0}

-- ---- texts

-- what separates the lines of a text
abbrev pub is_line_end : ℕ → Bool
is_line_end x = x == 10
