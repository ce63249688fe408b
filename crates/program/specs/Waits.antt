-- What an end that differs from a line waits for, or waited for when it was last called.
use Rattle.std.specs.Prelude.{ℕ, ◌==◌, ◌||◌, Bool, List, [], ◌++◌, Option, Some, None, bytes_eq, codes, decimal, if◌then◌else◌}
use Rattle.std.specs.List.{starts_with}
use Rattle.exchange_core.specs.declared.waiting.Awaits.{Awaits}
use Rattle.exchange_core.specs.declared.waiting.Awaits.TheVariants.{Terminal, Card}
use Rattle.exchange_core.specs.declared.waiting.Call.{Call}
use Rattle.exchange_core.specs.declared.waiting.Waiting.{Waiting}
use Rattle.t1_core.specs.declared.turns.TerminalAwaits.{TerminalAwaits}
use Rattle.t1_core.specs.declared.turns.TerminalAwaits.TheVariants as terminal
use Rattle.t1_core.specs.declared.turns.CardAwaits.{CardAwaits}
use Rattle.t1_core.specs.declared.turns.CardAwaits.TheVariants as card

-- ---- the states of docs/SESSION.md

abbrev pub terminal_state : TerminalAwaits → List ℕ
terminal_state terminal.Call = codes "a call (state Idle"
terminal_state terminal.Acknowledgement = codes "the acknowledgment of a block of its command (state Ack"
terminal_state terminal.Answer = codes "the answer (state Answer"
terminal_state terminal.MoreAnswer = codes "the next block of the answer (state More"
terminal_state (terminal.Size size) = codes "the response to its IFS request (state Ifs"
terminal_state (terminal.Resynch asked) = codes "the response to its RESYNCH request (state Resynch"
terminal_state terminal.Nothing = codes "nothing (state Dead"

abbrev pub card_state : CardAwaits → List ℕ
card_state card.Command = codes "a block of a command (state Command"
card_state card.Host = codes "its host (state Host"
card_state card.Acknowledgement = codes "the acknowledgment of a block of its reply (state Reply"
card_state (card.Size size) = codes "the response to its IFS request (state Asking"
card_state (card.Time multiple) = codes "the response to its WTX request (state Asking"

abbrev pub state_of : Awaits → List ℕ
state_of (Terminal awaits) = terminal_state awaits
state_of (Card awaits) = card_state awaits

abbrev pub in_session : List ℕ
in_session = codes " in SESSION.md)"

-- ---- the texts

-- a refused call, and a turn that the end doesn't have, are about its state at the line
abbrev pub is_about_now : List ℕ → Bool
is_about_now gives =
    starts_with (λ x y. x == y) gives (codes "refused ") || bytes_eq gives (codes "nothing")

-- a turn that the end has comes from its last call
abbrev pub call_said : Option Call → List ℕ
call_said None = []
call_said (Some call) = codes "; line " ++ (decimal call.line
    ++ (codes " called it while it waited for " ++ (state_of call.awaits ++ in_session)))

abbrev pub waiting_said : List ℕ → Option Waiting → List ℕ
waiting_said gives None = []
waiting_said gives (Some waiting) =
    if is_about_now gives then codes "; it waits for " ++ (state_of waiting.now ++ in_session)
    else call_said waiting.call
