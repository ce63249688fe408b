-- What an end waits for, as its readers return it. It has no octets of a message.
use Rattle.std.specs.Prelude.{Bool, true, false}
use Rattle.t1_core.specs.declared.turns.TerminalAwaits.{TerminalAwaits}
use Rattle.t1_core.specs.declared.turns.TerminalAwaits.TheVariants as terminal_awaits
use Rattle.t1_core.specs.declared.turns.CardAwaits.{CardAwaits}
use Rattle.t1_core.specs.declared.turns.CardAwaits.TheVariants as card_awaits
use Rattle.t1_core.specs.Terminal.{Waits, idle, ack, answer, more, ifs, resynch, dead}
use Rattle.t1_core.specs.Card.{CardRequest, size, time, Waits as CardWaits, command, host, reply, asking}

abbrev pub awaited_by_terminal : Waits → TerminalAwaits
awaited_by_terminal idle = terminal_awaits.Call
awaited_by_terminal (ack field rest) = terminal_awaits.Acknowledgement
awaited_by_terminal (answer field) = terminal_awaits.Answer
awaited_by_terminal (more joined) = terminal_awaits.MoreAnswer
awaited_by_terminal (ifs n) = terminal_awaits.Size n
awaited_by_terminal (resynch asked) = terminal_awaits.Resynch asked
awaited_by_terminal dead = terminal_awaits.Nothing

-- whether the terminal waits for a block
abbrev pub terminal_awaits_block : Waits → Bool
terminal_awaits_block idle = false
terminal_awaits_block dead = false
terminal_awaits_block waits = true

abbrev pub is_dead : Waits → Bool
is_dead dead = true
is_dead waits = false

abbrev pub asked_for : CardRequest → CardAwaits
asked_for (size n) = card_awaits.Size n
asked_for (time n) = card_awaits.Time n

abbrev pub awaited_by_card : CardWaits → CardAwaits
awaited_by_card (command joined) = card_awaits.Command
awaited_by_card host = card_awaits.Host
awaited_by_card (reply field rest) = card_awaits.Acknowledgement
awaited_by_card (asking asked) = asked_for asked

abbrev pub card_awaits_block : CardWaits → Bool
card_awaits_block host = false
card_awaits_block waits = true
