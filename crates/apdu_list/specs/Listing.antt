-- The exchanges of command and answer in a recorded exchange, as a text with a line for each: the result of its lines
-- in order.
use Rattle.std.specs.Prelude.{ℕ, ◌+◌, ◌-◌, List, [], ◌∷◌, ◌++◌, codes, decimal, Option, Some, None}
use Rattle.exchange_text.specs.Text.{octets_text}
use Rattle.exchange_text.specs.declared.line.Arrival.{Arrival}
use Rattle.exchange_text.specs.declared.line.Arrival.TheVariants.{Whole, Lost, Changed}
use Rattle.exchange_text.specs.declared.line.Line.{Line}
use Rattle.exchange_text.specs.declared.line.Line.TheVariants.{Command, Answer, GivenUp, Dead, FromTerminal, FromCard, Moment}
use Rattle.apdu_list.specs.declared.account.Account.{Account}
use Rattle.apdu_list.specs.declared.account.Begun.{Begun}
use Rattle.apdu_list.specs.declared.span.Span.{Span}
use Rattle.apdu_list.specs.declared.span.Span.TheVariants.{Unknown, Since, Between}

-- ---- moments

-- a span with one more moment
abbrev pub until : Span → ℕ → Span
until Unknown moment = Since moment
until (Since first) moment = Between first moment
until (Between first last) moment = Between first moment

-- the span that begins with the last moment
abbrev pub from_last : Span → Span
from_last Unknown = Unknown
from_last (Since moment) = Since moment
from_last (Between first last) = Since last

-- ---- what is kept after each line

abbrev pub start : Account
start = record { commands = 0; sent = 0; span = Unknown; begun = None }

-- the application passes a command: its exchange begins with the last moment, if one came since the exchange before it
-- ended
abbrev pub begins : Account → Account
begins a = record {
  commands = a.commands + 1;
  sent = a.sent;
  span = from_last a.span;
  begun = Some (record { before = a.sent; lost = []; damaged = [] });
}

-- the unfinished exchange ends
abbrev pub ends : Account → Account
ends a = record { commands = a.commands; sent = a.sent; span = Unknown; begun = None }

-- an exchange with the arrival of the block with this number
abbrev pub with_block : ℕ → Arrival → Begun → Begun
with_block number Whole begun = begun
with_block number Lost begun =
    record { before = begun.before; lost = begun.lost ++ number ∷ []; damaged = begun.damaged }
with_block number (Changed octets) begun =
    record { before = begun.before; lost = begun.lost; damaged = begun.damaged ++ number ∷ [] }

abbrev pub with_block_in : ℕ → Arrival → Option Begun → Option Begun
with_block_in number arrival None = None
with_block_in number arrival (Some begun) = Some (with_block number arrival begun)

-- an end sends a block; blocks are counted from 1
abbrev pub sends : Account → Arrival → Account
sends a arrival = record {
  commands = a.commands;
  sent = a.sent + 1;
  span = a.span;
  begun = with_block_in (a.sent + 1) arrival a.begun;
}

abbrev pub comes : Account → ℕ → Account
comes a moment = record { commands = a.commands; sent = a.sent; span = until a.span moment; begun = a.begun }

abbrev pub after : Account → Line → Account
after a (Command octets) = begins a
after a (Answer octets) = ends a
after a GivenUp = ends a
after a Dead = ends a
after a (FromTerminal sent arrival) = sends a arrival
after a (FromCard sent arrival) = sends a arrival
after a (Moment moment) = comes a moment
after a _ = a

-- ---- what each line adds to the text

-- numbers with commas between them
abbrev pub more_text : List ℕ → List ℕ
more_text [] = []
more_text (number ∷ numbers) = codes "," ++ (decimal number ++ more_text numbers)

-- the same, or a word if there are none
abbrev pub numbers_or : List ℕ → List ℕ → List ℕ
numbers_or none [] = none
numbers_or none (number ∷ numbers) = decimal number ++ more_text numbers

-- the microseconds between two moments, or a word if they are unknown
abbrev pub time_or : List ℕ → Span → List ℕ
time_or none Unknown = none
time_or none (Since first) = none
time_or none (Between first last) = decimal (last - first)

-- how many blocks were sent, and which of them were lost or damaged
abbrev pub blocks_text : Account → Begun → List ℕ
blocks_text a begun =
    codes " blocks " ++ (decimal (a.sent - begun.before)
    ++ (codes " lost " ++ (numbers_or (codes "none") begun.lost
    ++ (codes " damaged " ++ numbers_or (codes "none") begun.damaged))))

-- what comes after an answer
abbrev pub rest_text : Account → Begun → List ℕ
rest_text a begun = blocks_text a begun ++ (codes " time " ++ (time_or (codes "none") a.span ++ codes "\n"))

-- the end of a line, if one is begun
abbrev pub ended_by : Account → List ℕ → Option Begun → List ℕ
ended_by a answer None = []
ended_by a answer (Some begun) = codes " answer " ++ (answer ++ rest_text a begun)

abbrev pub end_text : Account → List ℕ → List ℕ
end_text a answer = ended_by a answer a.begun

abbrev pub answer_text : Account → List ℕ → List ℕ
answer_text a octets = end_text a (octets_text octets)

-- the beginning of a line
abbrev pub command_text : ℕ → List ℕ → List ℕ
command_text number octets = codes "exchange " ++ (decimal number ++ (codes " command " ++ octets_text octets))

-- if an exchange is unfinished when the next command comes, it stays open
abbrev pub told : Account → Line → List ℕ
told a (Command octets) = end_text a (codes "open") ++ command_text (a.commands + 1) octets
told a (Answer octets) = answer_text a octets
told a GivenUp = end_text a (codes "given-up")
told a Dead = end_text a (codes "dead")
told a _ = []

-- ---- the text

-- an exchange that is unfinished at the end stays open too
abbrev pub text_from : Account → List Line → List ℕ
text_from a [] = end_text a (codes "open")
text_from a (line ∷ lines) = told a line ++ text_from (after a line) lines

abbrev pub apdus_text : List Line → List ℕ
apdus_text lines = text_from start lines
