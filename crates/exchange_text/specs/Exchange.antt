-- An exchange as a value, and which lines it may have.
use Rattle.std.specs.Prelude.{◌≡◌, ◌&&◌, ◌<◌, ℕ, nat_le, List, [], ◌∷◌, codes, length, Bool, true, false}
use Rattle.std.specs.Str.{bytes_eq}
use Rattle.std.specs.List.{list_all}
use Rattle.octet_core.specs.Octets.{AreOctets}
use Rattle.exchange_text.specs.declared.exchange.Version.{Version}
use Rattle.exchange_text.specs.declared.exchange.Version.TheVariants.{One, Two}
use Rattle.exchange_text.specs.declared.line.Arrival.{Arrival}
use Rattle.exchange_text.specs.declared.line.Arrival.TheVariants.{Whole, Lost, Changed}
use Rattle.exchange_text.specs.declared.line.Line.{Line}
use Rattle.exchange_text.specs.declared.line.Line.TheVariants.{Command, Ifsd, Quiet, Answer, IfsSet, GivenUp, Dead, Reply, Time, Ifsc, Asked, FromTerminal, FromCard, Moment, Note}

-- the version of its text, the octets of the answer to reset, and the lines after it
pub record ExchangeParts : Type 0 where
  pub version : Version
  pub atr : List ℕ
  pub lines : List Line

-- whether a note may have this character
abbrev pub is_printable : ℕ → Bool
is_printable c = nat_le 0x20 c && nat_le c 0x7E

abbrev pub is_note : List ℕ → Bool
is_note text = nat_le 1 (length text) && nat_le (length text) 200 && list_all is_printable text

-- the note before a line that says what nobody saw
abbrev pub added_text : List ℕ
added_text = codes "added"

abbrev pub added_note : Line
added_note = Note added_text

abbrev pub is_added : Line → Bool
is_added (Note text) = bytes_eq text added_text
is_added line = false

-- the latest moment, in microseconds
abbrev pub latest_moment : ℕ
latest_moment = 999999999999999

-- whether an exchange of this version may have this line after this moment
abbrev pub may_follow : Version → ℕ → Line → Bool
may_follow One least (Moment moment) = false
may_follow Two least (Moment moment) = nat_le least moment && nat_le moment latest_moment
may_follow One least (Note text) = false
may_follow Two least (Note text) = is_note text
may_follow version least line = true

-- the moment after a line
abbrev pub moment_after : ℕ → Line → ℕ
moment_after least (Moment moment) = moment
moment_after least line = least

-- whether an exchange of this version may have these lines, in this order, after this moment
abbrev pub are_proper : Version → ℕ → List Line → Bool
are_proper version least [] = true
are_proper version least (line ∷ lines) =
    may_follow version least line && are_proper version (moment_after least line) lines

-- an exchange in version 2, with the same answer to reset and lines
abbrev pub migrated : ExchangeParts → ExchangeParts
migrated e = record { version = Two; atr = e.atr; lines = e.lines }

-- the octets of an arrival are octets
abbrev pub ArriveAsOctets : Arrival → Type 0
ArriveAsOctets Whole = Unit {0}
ArriveAsOctets Lost = Unit {0}
ArriveAsOctets (Changed octets) = AreOctets octets

abbrev pub HasOctets : Line → Type 0
HasOctets (Command octets) = AreOctets octets
HasOctets (Ifsd size) = size < 256
HasOctets Quiet = Unit {0}
HasOctets (Answer octets) = AreOctets octets
HasOctets IfsSet = Unit {0}
HasOctets GivenUp = Unit {0}
HasOctets Dead = Unit {0}
HasOctets (Reply octets) = AreOctets octets
HasOctets (Time multiple) = multiple < 256
HasOctets (Ifsc size) = size < 256
HasOctets (Asked octets) = AreOctets octets
HasOctets (FromTerminal sent arrival) = AreOctets sent × ArriveAsOctets arrival
HasOctets (FromCard sent arrival) = AreOctets sent × ArriveAsOctets arrival
HasOctets (Moment moment) = Unit {0}
HasOctets (Note text) = Unit {0}

abbrev pub AllHaveOctets : List Line → Type 0
AllHaveOctets [] = Unit {0}
AllHaveOctets (line ∷ lines) = HasOctets line × AllHaveOctets lines

-- this is an exchange: its lines are proper, and its octets are octets
pub record IsExchange (e : ExchangeParts) : Type 0 where
  pub proper : are_proper e.version 0 e.lines ≡ true
  pub atr : AreOctets e.atr
  pub octets : AllHaveOctets e.lines

-- the octets that arrive if these were sent; none if the block is lost
abbrev pub arrived : List ℕ → Arrival → List ℕ
arrived sent Whole = sent
arrived sent Lost = []
arrived sent (Changed octets) = octets
