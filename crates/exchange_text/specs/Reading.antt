-- What a text says: an exchange, or its first fault. A line ends at its line feed. Each space separates two words of
-- it, and a word may be empty.
use Rattle.std.specs.Prelude.{◌≡◌, ◌⊎◌, ◌&&◌, ◌||◌, ◌==◌, ◌+◌, ℕ, nat_le, nat_lt, List, [], ◌∷◌, length, codes, Bool, false, Option, Some, None, Result, Ok, Err, if◌then◌else◌}
use Rattle.std.specs.Str.{bytes_eq}
use Rattle.std.specs.List.{list_all, slice_split, after_first}
use Rattle.hex.specs.Hex.{decode_of, decode_sized}
use Rattle.hex.specs.declared.error.FromHexError.{FromHexError}
use Rattle.octet_core.specs.Decimal.{decimal_number}
use Rattle.exchange_text.specs.Exchange.{ExchangeParts, is_note, moment_after}
use Rattle.exchange_text.specs.Names.{name_of}
use Rattle.exchange_text.specs.declared.fault.LineFault.{LineFault}
use Rattle.exchange_text.specs.declared.fault.LineFault.TheVariants.{Word, Hex, Memory}
use Rattle.exchange_text.specs.declared.fault.ExchangeFault.{ExchangeFault}
use Rattle.exchange_text.specs.declared.fault.ExchangeFault.TheVariants as fault
use Rattle.exchange_text.specs.declared.exchange.Version.{Version}
use Rattle.exchange_text.specs.declared.exchange.Version.TheVariants.{One, Two}
use Rattle.exchange_text.specs.declared.line.Arrival.{Arrival}
use Rattle.exchange_text.specs.declared.line.Arrival.TheVariants.{Whole, Lost, Changed}
use Rattle.exchange_text.specs.declared.line.Line.{Line}
use Rattle.exchange_text.specs.declared.line.Line.TheVariants.{Command, Ifsd, Quiet, Answer, IfsSet, GivenUp, Dead, Reply, Time, Ifsc, Asked, FromTerminal, FromCard, Moment, Note}
use Rattle.exchange_text.specs.declared.name.Name.{Name}
use Rattle.exchange_text.specs.declared.name.Name.TheVariants as name

-- the first error is the result
infixl 10 ◌>>=◌
abbrev pub ◌>>=◌ : {A B E : Type 0} → Result A E → (A → Result B E) → Result B E
(Ok x) >>= f = f x
(Err e) >>= f = Err e

abbrev pub is_line_feed : ℕ → Bool
is_line_feed octet = octet == 10

abbrev pub is_space : ℕ → Bool
is_space octet = octet == 32

-- the words of a line
abbrev pub words_of : List ℕ → List (List ℕ)
words_of line = slice_split is_space line

-- ---- words

-- a hexadecimal digit in upper case
abbrev pub is_upper_digit : ℕ → Bool
is_upper_digit c = (nat_le 48 c && nat_le c 57) || (nat_le 65 c && nat_le c 70)

abbrev pub are_upper_digits : List ℕ → Bool
are_upper_digits word = nat_le 1 (length word) && list_all is_upper_digit word

abbrev pub octets_of : Result (List ℕ) FromHexError → Result (List ℕ) LineFault
octets_of (Ok octets) = Ok octets
octets_of (Err e) = Err Hex

-- OCTETS: the word none, or hexadecimal digits in upper case, an even number and at least 2
abbrev pub octets_said : List ℕ → Result (List ℕ) LineFault
octets_said word =
    if bytes_eq word (codes "none") then Ok []
    else (if are_upper_digits word then octets_of (decode_of word) else Err Hex)

abbrev pub octet_of : Result (List ℕ) FromHexError → Result ℕ LineFault
octet_of (Ok (octet ∷ octets)) = Ok octet
octet_of (Ok []) = Err Hex
octet_of (Err e) = Err Hex

-- HH: two hexadecimal digits in upper case
abbrev pub octet_said : List ℕ → Result ℕ LineFault
octet_said word = if are_upper_digits word then octet_of (decode_sized word 1) else Err Hex

-- ---- lines

-- the one word of a list
abbrev pub only_word : List (List ℕ) → Result (List ℕ) LineFault
only_word (word ∷ []) = Ok word
only_word words = Err Word

-- no word is left
abbrev pub no_word : List (List ℕ) → Result (Unit {0}) LineFault
no_word [] = Ok tt
no_word (word ∷ words) = Err Word

-- the one word that is left, as OCTETS
abbrev pub one_octets : List (List ℕ) → Result (List ℕ) LineFault
one_octets words = only_word words >>= octets_said

-- the one word that is left, as HH
abbrev pub one_octet : List (List ℕ) → Result ℕ LineFault
one_octet words = only_word words >>= octet_said

-- how a block arrived, from the words after its octets
abbrev pub arrival_said : List (List ℕ) → Result Arrival LineFault
arrival_said [] = Ok Whole
arrival_said (way ∷ words) =
    if bytes_eq way (codes "lost") then no_word words >>= (λ u. Ok Lost)
    else (if bytes_eq way (codes "as") then one_octets words >>= (λ octets. Ok (Changed octets))
    else Err Word)

-- a block's octets, and how it arrived; a fault of the words comes before a fault of the octets
abbrev pub block_said : List (List ℕ) → Result (List ℕ × Arrival) LineFault
block_said [] = Err Word
block_said (word ∷ words) = arrival_said words >>= (λ arrival. octets_said word >>= (λ sent. Ok (sent, arrival)))

abbrev pub moment_by : Option ℕ → Result Line LineFault
moment_by (Some moment) = Ok (Moment moment)
moment_by None = Err Word

-- what only version 2 has
abbrev pub in_two : Version → Result Line LineFault → Result Line LineFault
in_two One said = Err Word
in_two Two said = said

-- the one word that is left, as a moment
abbrev pub moment_said : Version → List (List ℕ) → Result Line LineFault
moment_said version words = in_two version (only_word words >>= (λ word. moment_by (decimal_number word)))

-- the note with this text
abbrev pub note_said : Version → List ℕ → Result Line LineFault
note_said version text = in_two version (if is_note text then Ok (Note text) else Err Word)

-- the note with everything after the first space, if there is a space
abbrev pub note_by : Version → List ℕ → List (List ℕ) → Result Line LineFault
note_by version rest [] = Err Word
note_by version rest (word ∷ words) = note_said version rest

-- a line, from the name of its first word, everything after that word, and the words in that
abbrev pub line_by : Version → List ℕ → List (List ℕ) → Name → Result Line LineFault
line_by version rest words name.Command = one_octets words >>= (λ octets. Ok (Command octets))
line_by version rest words name.Ifsd = one_octet words >>= (λ size. Ok (Ifsd size))
line_by version rest words name.Quiet = no_word words >>= (λ u. Ok Quiet)
line_by version rest words name.Answer = one_octets words >>= (λ octets. Ok (Answer octets))
line_by version rest words name.IfsSet = no_word words >>= (λ u. Ok IfsSet)
line_by version rest words name.GivenUp = no_word words >>= (λ u. Ok GivenUp)
line_by version rest words name.Dead = no_word words >>= (λ u. Ok Dead)
line_by version rest words name.Reply = one_octets words >>= (λ octets. Ok (Reply octets))
line_by version rest words name.Time = one_octet words >>= (λ multiple. Ok (Time multiple))
line_by version rest words name.Ifsc = one_octet words >>= (λ size. Ok (Ifsc size))
line_by version rest words name.Asked = one_octets words >>= (λ octets. Ok (Asked octets))
line_by version rest words name.FromTerminal = block_said words >>= (λ b. Ok (FromTerminal b.0 b.1))
line_by version rest words name.FromCard = block_said words >>= (λ b. Ok (FromCard b.0 b.1))
line_by version rest words name.Moment = moment_said version words
line_by version rest words name.Note = note_by version rest words

abbrev pub known : Option Name → Result Name LineFault
known None = Err Word
known (Some name) = Ok name

abbrev pub line_of : Version → List ℕ → List (List ℕ) → Result Line LineFault
line_of version rest [] = Err Word
line_of version rest (word ∷ words) = known (name_of word) >>= line_by version rest words

-- what a line says in a text of this version, or its fault
abbrev pub line_said : Version → List ℕ → Result Line LineFault
line_said version line = line_of version (after_first is_space line) (words_of line)

abbrev pub atr_by : List (List ℕ) → Result (List ℕ) LineFault
atr_by (word ∷ octets ∷ []) = if bytes_eq word (codes "atr") then octets_said octets else Err Word
atr_by words = Err Word

-- the answer to reset in the second line
abbrev pub atr_said : List ℕ → Result (List ℕ) LineFault
atr_said line = atr_by (words_of line)

-- ---- texts

-- the fault of a line, with its number
abbrev pub fault_at : ℕ → LineFault → ExchangeFault
fault_at number Word = fault.Word number
fault_at number Hex = fault.Hex number
fault_at number Memory = fault.Memory

abbrev pub at : {A : Type 0} → ℕ → Result A LineFault → Result A ExchangeFault
at number (Ok x) = Ok x
at number (Err e) = Err (fault_at number e)

-- a moment that is below an earlier one
abbrev pub falls : ℕ → Line → Bool
falls least (Moment moment) = nat_lt moment least
falls least line = false

-- a line, refused if it is a moment below an earlier one
abbrev pub rising : ℕ → ℕ → Line → Result Line ExchangeFault
rising number least line = if falls least line then Err (fault.Falls number) else Ok line

-- the line with this number, after this moment
abbrev pub line_at : Version → ℕ → ℕ → List ℕ → Result Line ExchangeFault
line_at version number least line = at number (line_said version line) >>= rising number least

-- where a text ends: after the line feed of its last line
abbrev pub ended : ℕ → List ℕ → Result (List Line) ExchangeFault
ended number [] = Ok []
ended number (octet ∷ octets) = Err (fault.End number)

-- the lines from the line with this number, after this moment; the text is split at its line feeds
abbrev pub lines_said : Version → ℕ → ℕ → List (List ℕ) → Result (List Line) ExchangeFault
lines_said version number least [] = Ok []
lines_said version number least (rest ∷ []) = ended number rest
lines_said version number least (line ∷ next ∷ parts) =
    line_at version number least line >>= (λ first.
    lines_said version (number + 1) (moment_after least first) (next ∷ parts) >>= (λ more.
    Ok (first ∷ more)))

abbrev pub version_said : List ℕ → Result Version ExchangeFault
version_said line =
    if bytes_eq line (codes "scard-exchange 1") then Ok One
    else (if bytes_eq line (codes "scard-exchange 2") then Ok Two
    else Err fault.Header)

-- what a text says after its header
abbrev pub parts_said : Version → List (List ℕ) → Result ExchangeParts ExchangeFault
parts_said version (line ∷ next ∷ parts) =
    at 2 (atr_said line) >>= (λ atr.
    lines_said version 3 0 (next ∷ parts) >>= (λ lines.
    Ok (record { version = version; atr = atr; lines = lines })))
parts_said version parts = Err (fault.End 2)

abbrev pub exchange_by : List (List ℕ) → Result ExchangeParts ExchangeFault
exchange_by (header ∷ next ∷ parts) = version_said header >>= (λ version. parts_said version (next ∷ parts))
exchange_by parts = Err fault.Header

-- what a text says
abbrev pub exchange_said : List ℕ → Result ExchangeParts ExchangeFault
exchange_said text = exchange_by (slice_split is_line_feed text)

-- the result is the expected one, or out of memory
abbrev pub LineUnlessMemory : {X : Type 0} → Result X LineFault → Result X LineFault → Type 0
LineUnlessMemory result expected = (result ≡ Err Memory) ⊎ (result ≡ expected)

abbrev pub UnlessMemory : {X : Type 0} → Result X ExchangeFault → Result X ExchangeFault → Type 0
UnlessMemory result expected = (result ≡ Err fault.Memory) ⊎ (result ≡ expected)
