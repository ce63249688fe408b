-- The block that an end sends, from what the end keeps.
use Rattle.std.specs.Prelude.{ℕ, List, [], true, false, Option, Some, None, Result, Ok, Err}
use Rattle.block_core.specs.Block.{Parts}
use Rattle.block_core.specs.declared.pcb.Number.{Number}
use Rattle.t1_core.specs.declared.sending.Sent.{Sent}
use Rattle.t1_core.specs.declared.sending.Sent.TheVariants.{Inner, Last, Other}
use Rattle.t1_core.specs.declared.sending.TerminalAct.{TerminalAct}
use Rattle.t1_core.specs.declared.sending.TerminalAct.TheVariants as act
use Rattle.t1_core.specs.declared.sending.CardAct.{CardAct}
use Rattle.t1_core.specs.declared.sending.CardAct.TheVariants as card_act
use Rattle.t1_core.specs.declared.turns.TerminalTurn.{TerminalTurn}
use Rattle.t1_core.specs.declared.turns.TerminalTurn.TheVariants.{Send, Answered, IfsSet, GivenUp, Dead}
use Rattle.t1_core.specs.declared.turns.TerminalFault.{TerminalFault}
use Rattle.t1_core.specs.declared.turns.CardTurn.{CardTurn}
use Rattle.t1_core.specs.declared.turns.CardTurn.TheVariants as card_turns
use Rattle.t1_core.specs.declared.turns.CardFault.{CardFault}
use Rattle.t1_core.specs.Came.{info}
use Rattle.t1_core.specs.Terminal.{TerminalState, Waits, ack, answer}
use Rattle.t1_core.specs.Card.{CardState}
use Rattle.t1_core.specs.CardViews.{field_of}

-- the block, if the last I-block has this number and one of these fields
abbrev pub sent_by : Number → List ℕ → List ℕ → Sent → Parts
sent_by number inner last Inner = info number true inner
sent_by number inner last Last = info number false last
sent_by number inner last (Other block) = block

-- the field of the command's unacknowledged I-block
abbrev pub field_sent : Waits → List ℕ
field_sent (ack field rest) = field
field_sent (answer field) = field
field_sent waits = []

abbrev pub terminal_sends : TerminalState → Sent → Parts
terminal_sends t sent = sent_by t.number (field_sent t.waits) (field_sent t.waits) sent

-- the terminal's next action, in this state
abbrev pub terminal_does : TerminalState → TerminalAct → TerminalTurn
terminal_does t (act.Send sent) = Send (terminal_sends t sent)
terminal_does t act.Answered = Answered
terminal_does t act.IfsSet = IfsSet
terminal_does t act.GivenUp = GivenUp
terminal_does t act.Dead = Dead

abbrev pub terminal_answers : TerminalState → Result TerminalAct TerminalFault → Result TerminalTurn TerminalFault
terminal_answers t (Ok act) = Ok (terminal_does t act)
terminal_answers t (Err fault) = Err fault

-- the field of the last I-block, until something acknowledges it
abbrev pub field_saved : Option (List ℕ) → List ℕ
field_saved None = []
field_saved (Some field) = field

abbrev pub card_sends : CardState → Sent → Parts
card_sends c sent = sent_by c.number (field_of c.waits) (field_saved c.saved) sent

-- the card's next action, in this state
abbrev pub card_does : CardState → CardAct → CardTurn
card_does c (card_act.Send sent) = card_turns.Send (card_sends c sent)
card_does c card_act.Asked = card_turns.Asked

abbrev pub card_answers : CardState → Result CardAct CardFault → Result CardTurn CardFault
card_answers c (Ok act) = Ok (card_does c act)
card_answers c (Err fault) = Err fault
