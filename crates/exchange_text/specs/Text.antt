-- The text of an exchange: a header, the answer to reset, and the lines. A line feed ends each.
use Rattle.std.specs.Prelude.{ℕ, List, [], ◌∷◌, ◌++◌, codes, decimal}
use Rattle.hex.specs.Hex.{encode_upper}
use Rattle.exchange_text.specs.Exchange.{ExchangeParts}
use Rattle.exchange_text.specs.declared.exchange.Version.{Version}
use Rattle.exchange_text.specs.declared.exchange.Version.TheVariants.{One, Two}
use Rattle.exchange_text.specs.declared.line.Arrival.{Arrival}
use Rattle.exchange_text.specs.declared.line.Arrival.TheVariants.{Whole, Lost, Changed}
use Rattle.exchange_text.specs.declared.line.Line.{Line}
use Rattle.exchange_text.specs.declared.line.Line.TheVariants.{Command, Ifsd, Quiet, Answer, IfsSet, GivenUp, Dead, Reply, Time, Ifsc, Asked, FromTerminal, FromCard, Moment, Note}

-- OCTETS: two hexadecimal digits in upper case for each octet, or the word none
abbrev pub octets_text : List ℕ → List ℕ
octets_text [] = codes "none"
octets_text (octet ∷ octets) = encode_upper (octet ∷ octets)

-- HH: an octet as two hexadecimal digits in upper case
abbrev pub octet_text : ℕ → List ℕ
octet_text octet = encode_upper (octet ∷ [])

-- how a block arrived, after its octets
abbrev pub arrival_text : Arrival → List ℕ
arrival_text Whole = []
arrival_text Lost = codes " lost"
arrival_text (Changed octets) = codes " as " ++ octets_text octets

-- a line, without its line feed
abbrev pub line_text : Line → List ℕ
line_text (Command octets) = codes "command " ++ octets_text octets
line_text (Ifsd size) = codes "ifsd " ++ octet_text size
line_text Quiet = codes "quiet"
line_text (Answer octets) = codes "answer " ++ octets_text octets
line_text IfsSet = codes "ifs-set"
line_text GivenUp = codes "given-up"
line_text Dead = codes "dead"
line_text (Reply octets) = codes "reply " ++ octets_text octets
line_text (Time multiple) = codes "time " ++ octet_text multiple
line_text (Ifsc size) = codes "ifsc " ++ octet_text size
line_text (Asked octets) = codes "asked " ++ octets_text octets
line_text (FromTerminal sent arrival) = codes "t " ++ (octets_text sent ++ arrival_text arrival)
line_text (FromCard sent arrival) = codes "c " ++ (octets_text sent ++ arrival_text arrival)
line_text (Moment moment) = codes "at " ++ decimal moment
line_text (Note text) = codes "note " ++ text

abbrev pub header_text : Version → List ℕ
header_text One = codes "scard-exchange 1"
header_text Two = codes "scard-exchange 2"

abbrev pub lines_text : List Line → List ℕ
lines_text [] = []
lines_text (line ∷ lines) = line_text line ++ (codes "\n" ++ lines_text lines)

abbrev pub exchange_text : ExchangeParts → List ℕ
exchange_text e =
    header_text e.version ++ (codes "\n" ++ ((codes "atr " ++ octets_text e.atr) ++ (codes "\n" ++ lines_text e.lines)))
