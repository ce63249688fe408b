-- The exchanges of command and answer in a recorded exchange, as the items of a JSON array: the result of its lines in
-- order.
use Rattle.std.specs.Prelude.{ℕ, ◌-◌, List, [], ◌∷◌, codes, Option, Some, None}
use Rattle.hex.specs.Hex.{encode_upper}
use Rattle.exchange_text.specs.declared.line.Line.{Line}
use Rattle.exchange_text.specs.declared.line.Line.TheVariants.{Command, Answer, GivenUp, Dead}
use Rattle.layouts.specs.Items.{with_item}
use Rattle.layouts.specs.Members.{object_of, with_array, with_number, with_string, with_value}
use Rattle.apdu_list.specs.Listing.{after, numbers_or, start, time_or}
use Rattle.apdu_list.specs.declared.account.Account.{Account}
use Rattle.apdu_list.specs.declared.account.Begun.{Begun}

-- the members of an exchange: the answer, how many blocks were sent for it, and the command
abbrev pub command_members : Account → Begun → List ℕ → List ℕ → List ℕ
command_members a begun command answer =
    with_string (with_number (with_string [] (codes "answer") answer) (codes "blocks") (a.sent - begun.before))
    (codes "command") (encode_upper command)

-- the members so far, and the others: which blocks were damaged, the number of the command, which blocks were lost, and
-- the time
abbrev pub with_rest : List ℕ → Account → Begun → List ℕ
with_rest members a begun =
    with_value (with_array (with_number (with_array members (codes "damaged") (numbers_or [] begun.damaged))
    (codes "exchange") a.commands)
    (codes "lost") (numbers_or [] begun.lost))
    (codes "time") (time_or (codes "null") a.span)

-- an exchange as an object
abbrev pub exchange_object : Account → Begun → List ℕ → List ℕ → List ℕ
exchange_object a begun command answer = object_of (with_rest (command_members a begun command answer) a begun)

-- the items so far, and the exchange that ends, if one is begun
abbrev pub with_begun : List ℕ → Account → List ℕ → List ℕ → Option Begun → List ℕ
with_begun items a command answer None = items
with_begun items a command answer (Some begun) = with_item items (exchange_object a begun command answer)

abbrev pub with_ended : List ℕ → Account → List ℕ → List ℕ → List ℕ
with_ended items a command answer = with_begun items a command answer a.begun

-- if an exchange is unfinished when the next command comes, it stays open
abbrev pub with_told : List ℕ → Account → List ℕ → Line → List ℕ
with_told items a command (Command octets) = with_ended items a command (codes "open")
with_told items a command (Answer octets) = with_ended items a command (encode_upper octets)
with_told items a command GivenUp = with_ended items a command (codes "given-up")
with_told items a command Dead = with_ended items a command (codes "dead")
with_told items a command _ = items

-- the last command
abbrev pub command_after : List ℕ → Line → List ℕ
command_after command (Command octets) = octets
command_after command _ = command

-- an exchange that is unfinished at the end stays open too
abbrev pub items_from : List ℕ → Account → List ℕ → List Line → List ℕ
items_from items a command [] = with_ended items a command (codes "open")
items_from items a command (line ∷ lines) =
    items_from (with_told items a command line) (after a line) (command_after command line) lines

abbrev pub apdu_items : List Line → List ℕ
apdu_items lines = items_from [] start [] lines
