-- The calls of both ends of a session, as C makes them.
use Rattle.std.specs.Prelude.{Result, Ok, Err}
use Rattle.t1_core.specs.Came.{class_of, quiet}
use Rattle.t1_core.specs.Terminal.{TerminalState, TerminalInput, transmit, ask_ifs, takes}
use Rattle.t1_core.specs.Card.{CardState, CardInput, replies, more_time}
use Rattle.t1_core.specs.Card as card
use Rattle.t1_core.specs.declared.turns.EncodedTerminalTurn.{EncodedTerminalTurn}
use Rattle.t1_core.specs.declared.turns.EncodedTerminalTurn.TheVariants.{Send, Answered, IfsSet, GivenUp, Dead}
use Rattle.t1_core.specs.declared.turns.TerminalFault.{TerminalFault}
use Rattle.t1_core.specs.declared.turns.TerminalFault.TheVariants as fault
use Rattle.t1_core.specs.declared.turns.EncodedCardTurn.{EncodedCardTurn}
use Rattle.t1_core.specs.declared.turns.EncodedCardTurn.TheVariants as card_put
use Rattle.t1_core.specs.declared.turns.CardFault.{CardFault}
use Rattle.t1_core.specs.declared.turns.CardFault.TheVariants as card_fault
use Rattle.c_lent.specs.declared.call.TerminalCall.{TerminalCall}
use Rattle.c_lent.specs.declared.call.TerminalCall.TheVariants as terminal_call
use Rattle.c_lent.specs.declared.call.CardCall.{CardCall}
use Rattle.c_lent.specs.declared.call.CardCall.TheVariants as card_call
use Rattle.c_lent.specs.declared.turn.CTurn.{CTurn}
use Rattle.c_lent.specs.Turns.{turned}

-- the input of a terminal from a call of C, in this state
abbrev pub terminal_input : TerminalCall → TerminalState → TerminalInput
terminal_input (terminal_call.Transmit command) t = transmit command.now
terminal_input (terminal_call.Received octets) t = takes (class_of t.ifsd octets.now)
terminal_input terminal_call.Quiet t = takes quiet
terminal_input (terminal_call.AskIfs size) t = ask_ifs size

-- the input of a card from a call of C, in this state
abbrev pub card_input : CardCall → CardState → CardInput
card_input (card_call.Received octets) c = card.takes (class_of c.ifsc octets.now)
card_input (card_call.Reply octets) c = replies octets.now
card_input (card_call.MoreTime multiple) c = more_time multiple
card_input (card_call.AskIfs size) c = card.ask_ifs size

-- C's turn for the result of a call of a terminal, with the octets of its block in the buffer
abbrev pub told_terminal : Result EncodedTerminalTurn TerminalFault → CTurn
told_terminal (Ok (Send count waiting)) = record { kind = 0; wait = waiting; count = count }
told_terminal (Ok Answered) = turned 1
told_terminal (Ok IfsSet) = turned 2
told_terminal (Ok GivenUp) = turned 3
told_terminal (Ok Dead) = turned 4
told_terminal (Err fault.Dead) = turned 16
told_terminal (Err fault.Busy) = turned 17
told_terminal (Err fault.TooLong) = turned 18
told_terminal (Err fault.Reserved) = turned 19
told_terminal (Err fault.Idle) = turned 20

-- C's turn for the result of a call of a card, with the octets of its block in the buffer
abbrev pub told_card : Result EncodedCardTurn CardFault → CTurn
told_card (Ok (card_put.Send count)) = record { kind = 0; wait = 0; count = count }
told_card (Ok card_put.Asked) = turned 1
told_card (Err card_fault.Order) = turned 21
told_card (Err card_fault.TooLong) = turned 18
told_card (Err card_fault.Reserved) = turned 19
