-- What a session does next, as C has it.
use Rattle.std.specs.Prelude.{ℕ, Result, Ok, Err}
use Rattle.t1_core.specs.declared.turns.TerminalFault.{TerminalFault}
use Rattle.t1_core.specs.declared.turns.TerminalFault.TheVariants as fault
use Rattle.t1_core.specs.declared.turns.CardFault.{CardFault}
use Rattle.t1_core.specs.declared.turns.CardFault.TheVariants as card_fault
use Rattle.session_core.specs.declared.action.Action.{Action}
use Rattle.session_core.specs.declared.action.Action.TheVariants.{Send, Wait, Answered, NoStatus, IfsSet, GivenUp, Dead, Asked, Failed, UsedUp, Echo, Order}
use Rattle.c_lent.specs.declared.session_next.CSessionNext.{CSessionNext}

-- what is next, with zeros in the octets that have no name in C
abbrev pub next_with : ℕ → ℕ → ℕ → CSessionNext
next_with kind count wait =
    record { kind = kind; fill_8 = 0; fill_16 = 0; fill_32 = 0; count = count; wait = wait }

-- what is next without a wait
abbrev pub done : ℕ → ℕ → CSessionNext
done kind count = next_with kind count 0

abbrev pub waiting : ℕ → CSessionNext
waiting time = next_with 68 0 time

-- the buffer is too small for the longest block
abbrev pub no_room : CSessionNext
no_room = done 33 258

abbrev pub acted : Action → CSessionNext
acted (Send count) = done 0 count
acted (Answered count) = done 1 count
acted (Asked count) = done 1 count
acted IfsSet = done 2 0
acted GivenUp = done 3 0
acted Dead = done 4 0
acted Order = done 21 0
acted Failed = done 64 0
acted UsedUp = done 65 0
acted (NoStatus count) = done 66 count
acted Echo = done 67 0
acted (Wait time) = waiting time

abbrev pub terminal_shown : Result Action TerminalFault → CSessionNext
terminal_shown (Ok action) = acted action
terminal_shown (Err fault.Dead) = done 16 0
terminal_shown (Err fault.Busy) = done 17 0
terminal_shown (Err fault.TooLong) = done 18 0
terminal_shown (Err fault.Reserved) = done 19 0
terminal_shown (Err fault.Idle) = done 20 0

abbrev pub card_shown : Result Action CardFault → CSessionNext
card_shown (Ok action) = acted action
card_shown (Err card_fault.Order) = done 21 0
card_shown (Err card_fault.TooLong) = done 18 0
card_shown (Err card_fault.Reserved) = done 19 0
