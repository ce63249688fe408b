-- What C is told of a turn whose octets were put into the buffer is what it is told of the turn.
use Rattle.std.proofs.Common.{◌≡◌, ℕ, ◌<◌, ◌++◌, List, drop, sym, ap, subst, ◌∙◌, arith}
use Rattle.std.specs.Prelude.{Result, Ok, Err}
use Rattle.t1_core.specs.declared.turns.TerminalTurn.{TerminalTurn}
use Rattle.t1_core.specs.declared.turns.TerminalTurn.TheVariants.{Send, Answered, IfsSet, GivenUp, Dead}
use Rattle.t1_core.specs.declared.turns.EncodedTerminalTurn.{EncodedTerminalTurn}
use Rattle.t1_core.specs.declared.turns.EncodedTerminalTurn.TheVariants as put
use Rattle.t1_core.specs.declared.turns.TerminalFault.{TerminalFault}
use Rattle.t1_core.specs.declared.turns.TerminalFault.TheVariants as fault
use Rattle.t1_core.specs.declared.turns.CardTurn.{CardTurn}
use Rattle.t1_core.specs.declared.turns.CardTurn.TheVariants as card_turns
use Rattle.t1_core.specs.declared.turns.EncodedCardTurn.{EncodedCardTurn}
use Rattle.t1_core.specs.declared.turns.EncodedCardTurn.TheVariants as card_put
use Rattle.t1_core.specs.declared.turns.CardFault.{CardFault}
use Rattle.t1_core.specs.declared.turns.CardFault.TheVariants as card_fault
use Rattle.t1_core.specs.Put.{IsTerminalPut, IsCardPut}
use Rattle.t1_core.specs.Waiting.{waiting_times}
use Rattle.block_core.specs.Block.{Parts, IsPut}
use Rattle.c_lent.specs.declared.turn.CTurn.{CTurn}
use Rattle.c_lent.specs.Turns.{Sends, IsTerminalTurn, IsCardTurn}
use Rattle.c_lent.specs.Calls.{told_terminal, told_card}

sent : (wait : ℕ) (block : Parts) (old new : List ℕ) (count : ℕ) (turn : CTurn)
    → turn ≡ record { kind = 0; wait = wait; count = count } → IsPut block old new count → Sends wait block old new turn
sent wait block old new count turn is put = record {
  octets = put.octets;
  spells = put.spells;
  turn_is = is ∙ ap (λ (n : ℕ). record { kind = 0; wait = wait; count = n }) put.counted;
  buffer = put.buffer ∙ ap (λ (n : ℕ). put.octets ++ drop n old) put.counted;
}

terminal-told : (given : Result TerminalTurn TerminalFault) (old new : List ℕ)
    (answer : Result EncodedTerminalTurn TerminalFault) → IsTerminalPut given old new answer
    → IsTerminalTurn given old new (told_terminal answer)
terminal-told (Ok (Send block)) old new answer (count, is, put) =
    sent (waiting_times (Send block)) block old new count (told_terminal answer) (ap told_terminal is) put
terminal-told (Ok Answered) old new answer (is, same) = (ap told_terminal is, same)
terminal-told (Ok IfsSet) old new answer (is, same) = (ap told_terminal is, same)
terminal-told (Ok GivenUp) old new answer (is, same) = (ap told_terminal is, same)
terminal-told (Ok Dead) old new answer (is, same) = (ap told_terminal is, same)
terminal-told (Err fault.Dead) old new answer (is, same) = (ap told_terminal is, same)
terminal-told (Err fault.Busy) old new answer (is, same) = (ap told_terminal is, same)
terminal-told (Err fault.TooLong) old new answer (is, same) = (ap told_terminal is, same)
terminal-told (Err fault.Reserved) old new answer (is, same) = (ap told_terminal is, same)
terminal-told (Err fault.Idle) old new answer (is, same) = (ap told_terminal is, same)

card-told : (given : Result CardTurn CardFault) (old new : List ℕ) (answer : Result EncodedCardTurn CardFault)
    → IsCardPut given old new answer → IsCardTurn given old new (told_card answer)
card-told (Ok (card_turns.Send block)) old new answer (count, is, put) =
    sent 0 block old new count (told_card answer) (ap told_card is) put
card-told (Ok card_turns.Asked) old new answer (is, same) = (ap told_card is, same)
card-told (Err card_fault.Order) old new answer (is, same) = (ap told_card is, same)
card-told (Err card_fault.TooLong) old new answer (is, same) = (ap told_card is, same)
card-told (Err card_fault.Reserved) old new answer (is, same) = (ap told_card is, same)

-- what C is told of a terminal's turn whose octets were put into the buffer is what it is told of the turn
pub terminal_shown : (given : Result TerminalTurn TerminalFault) (old new : List ℕ)
    (answer : Result EncodedTerminalTurn TerminalFault) (turn : CTurn) → IsTerminalPut given old new answer
    → turn ≡ told_terminal answer → IsTerminalTurn given old new turn
terminal_shown given old new answer turn put is =
    subst (λ (t : CTurn). IsTerminalTurn given old new t) (sym is) (terminal-told given old new answer put)

-- the same of a card's turn
pub card_shown : (given : Result CardTurn CardFault) (old new : List ℕ) (answer : Result EncodedCardTurn CardFault)
    (turn : CTurn) → IsCardPut given old new answer → turn ≡ told_card answer → IsCardTurn given old new turn
card_shown given old new answer turn put is =
    subst (λ (t : CTurn). IsCardTurn given old new t) (sym is) (card-told given old new answer put)

-- C is told no refusal of a turn that is taken
pub terminal-taken : (turn : EncodedTerminalTurn) → (told_terminal (Ok turn)).kind < 16
terminal-taken (put.Send count waiting) = omega arith
terminal-taken put.Answered = omega arith
terminal-taken put.IfsSet = omega arith
terminal-taken put.GivenUp = omega arith
terminal-taken put.Dead = omega arith

pub card-taken : (turn : EncodedCardTurn) → (told_card (Ok turn)).kind < 16
card-taken (card_put.Send count) = omega arith
card-taken card_put.Asked = omega arith

-- a call that is refused leaves the buffer for a block
pub terminal-leaves : (given : Result TerminalTurn TerminalFault) (old new : List ℕ) (fault : TerminalFault)
    → IsTerminalPut given old new (Err fault) → new ≡ old
terminal-leaves (Ok (Send block)) old new fault (count, is, put) = cc
terminal-leaves (Ok Answered) old new fault (is, same) = same
terminal-leaves (Ok IfsSet) old new fault (is, same) = same
terminal-leaves (Ok GivenUp) old new fault (is, same) = same
terminal-leaves (Ok Dead) old new fault (is, same) = same
terminal-leaves (Err other) old new fault (is, same) = same

pub card-leaves : (given : Result CardTurn CardFault) (old new : List ℕ) (fault : CardFault)
    → IsCardPut given old new (Err fault) → new ≡ old
card-leaves (Ok (card_turns.Send block)) old new fault (count, is, put) = cc
card-leaves (Ok card_turns.Asked) old new fault (is, same) = same
card-leaves (Err other) old new fault (is, same) = same
