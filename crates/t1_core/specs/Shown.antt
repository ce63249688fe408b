-- What an end prints of itself: states, sizes, limits and how many octets it holds. It prints no octet of a message.
use Rattle.std.specs.Prelude.{ℕ, ◌+◌, List, ◌++◌, length, Bool, Option, Some, None, is_some, codes, decimal, if◌then◌else◌}
use Rattle.block_core.specs.declared.pcb.Number.{Number}
use Rattle.block_core.specs.declared.pcb.Number.TheVariants.{Zero, One}
use Rattle.t1_core.specs.Awaited.{awaited_by_card, awaited_by_terminal}
use Rattle.t1_core.specs.Card.{CardState}
use Rattle.t1_core.specs.CardViews.{field_of, rest_of, taken_of}
use Rattle.t1_core.specs.Terminal.{TerminalState, Waits}
use Rattle.t1_core.specs.Views.{joined_of}
use Rattle.t1_core.specs.declared.turns.CardAwaits.{CardAwaits}
use Rattle.t1_core.specs.declared.turns.CardAwaits.TheVariants as card
use Rattle.t1_core.specs.declared.turns.TerminalAwaits.{TerminalAwaits}
use Rattle.t1_core.specs.declared.turns.TerminalAwaits.TheVariants as terminal

-- ---- parts

abbrev pub number_name : Number → List ℕ
number_name Zero = codes "Zero"
number_name One = codes "One"

abbrev pub truth_text : Bool → List ℕ
truth_text is_so = if is_so then codes "true" else codes "false"

-- a name, and a number in parentheses
abbrev pub of_number : List ℕ → ℕ → List ℕ
of_number name n = name ++ (decimal n ++ codes ")")

abbrev pub terminal_awaits_text : TerminalAwaits → List ℕ
terminal_awaits_text terminal.Call = codes "Call"
terminal_awaits_text terminal.Acknowledgement = codes "Acknowledgement"
terminal_awaits_text terminal.Answer = codes "Answer"
terminal_awaits_text terminal.MoreAnswer = codes "MoreAnswer"
terminal_awaits_text (terminal.Size n) = of_number (codes "Size(") n
terminal_awaits_text (terminal.Resynch n) = of_number (codes "Resynch(") n
terminal_awaits_text terminal.Nothing = codes "Nothing"

abbrev pub card_awaits_text : CardAwaits → List ℕ
card_awaits_text card.Command = codes "Command"
card_awaits_text card.Host = codes "Host"
card_awaits_text card.Acknowledgement = codes "Acknowledgement"
card_awaits_text (card.Size n) = of_number (codes "Size(") n
card_awaits_text (card.Time n) = of_number (codes "Time(") n

abbrev pub sizes_text : Number → Number → ℕ → ℕ → List ℕ
sizes_text number expected ifsc ifsd = codes "number: " ++ (number_name number ++ (codes ", expected: "
    ++ (number_name expected ++ (codes ", ifsc: " ++ (decimal ifsc ++ (codes ", ifsd: " ++ decimal ifsd))))))

-- how many octets there are, and how many there may be
abbrev pub limits_text : ℕ → List ℕ → ℕ → List ℕ
limits_text command other most = codes ", most_command: " ++ (decimal command ++ (other ++ decimal most))

-- ---- a terminal

-- how many octets of the answer it holds: the whole answer, or what came so far
abbrev pub octets_of_answer : Option (List ℕ) → Waits → ℕ
octets_of_answer (Some answer) waits = length answer
octets_of_answer None waits = length (joined_of waits)

abbrev pub terminal_messages_text : ℕ → ℕ → Bool → ℕ → ℕ → List ℕ
terminal_messages_text command answer is_answered most_command most_answer = codes "command_octets: "
    ++ (decimal command ++ (codes ", answer_octets: " ++ (decimal answer ++ (codes ", is_answered: "
    ++ (truth_text is_answered ++ limits_text most_command (codes ", most_answer: ") most_answer)))))

abbrev pub terminal_text : TerminalState → List ℕ
terminal_text t = codes "Terminal { awaits: " ++ (terminal_awaits_text (awaited_by_terminal t.waits)
    ++ (codes ", failures: " ++ (decimal t.failures ++ (codes ", "
    ++ (sizes_text t.number t.expected t.ifsc t.ifsd ++ (codes ", "
    ++ (terminal_messages_text (length t.command) (octets_of_answer t.answered t.waits) (is_some t.answered)
    t.limits.command t.limits.answer ++ codes " }")))))))

-- ---- a card

-- how many octets of the reply aren't acknowledged yet, until the last block is sent
abbrev pub octets_of_reply : CardState → ℕ
octets_of_reply c = length (field_of c.waits) + length (rest_of c.waits)

abbrev pub card_messages_text : ℕ → ℕ → Bool → ℕ → ℕ → List ℕ
card_messages_text command reply is_saved most_command most_reply = codes "command_octets: "
    ++ (decimal command ++ (codes ", reply_octets: " ++ (decimal reply ++ (codes ", is_saved: "
    ++ (truth_text is_saved ++ limits_text most_command (codes ", most_reply: ") most_reply)))))

abbrev pub card_text : CardState → List ℕ
card_text c = codes "Card { awaits: " ++ (card_awaits_text (awaited_by_card c.waits) ++ (codes ", "
    ++ (sizes_text c.number c.expected c.ifsc c.ifsd ++ (codes ", "
    ++ (card_messages_text (length c.command + length (taken_of c.waits)) (octets_of_reply c) (is_some c.saved)
    c.limits.command c.limits.answer ++ codes " }")))))
