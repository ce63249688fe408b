-- What the calls of a card leave in the buffer.
use Rattle.std.proofs.Common.{◌≡◌, ℕ, List, take, Result, Ok, Err, refl, arith}
use Rattle.std.proofs.lemmas.Grind.{common_steps}
use Rattle.block_core.specs.Block.{Parts, IsPut, spelling}
use Rattle.t1_core.specs.Put.{IsCardPut}
use Rattle.t1_core.specs.Card.{CardState, CardStep, host, turn_of, state_after}
use Rattle.t1_core.specs.declared.turns.CardTurn.{CardTurn}
use Rattle.t1_core.specs.declared.turns.CardTurn.TheVariants.{Send, Asked}
use Rattle.t1_core.specs.declared.turns.EncodedCardTurn.{EncodedCardTurn}
use Rattle.t1_core.specs.declared.turns.EncodedCardTurn.TheVariants as put
use Rattle.t1_core.specs.declared.turns.CardFault.{CardFault}

-- the turn, by what the call answers
abbrev pub IsGiven : Result CardTurn CardFault → List ℕ → Result EncodedCardTurn CardFault → Type 0
IsGiven turn out (Ok (put.Send count)) = (parts : Parts) × (turn ≡ Ok (Send parts)) × (take count out ≡ spelling parts)
IsGiven turn out (Ok put.Asked) = turn ≡ Ok Asked
IsGiven turn out (Err inner) = turn ≡ Err inner

front : (parts : Parts) (old new : List ℕ) (count : ℕ) → IsPut parts old new count → take count new ≡ spelling parts
front parts old new count is = grind (arith, common_steps, is.counted, is.buffer, is.spells.is)

-- what the call answers tells the turn, whose block is at the front of the buffer
pub given : (turn : Result CardTurn CardFault) (old new : List ℕ) (answer : Result EncodedCardTurn CardFault)
    → IsCardPut turn old new answer → IsGiven turn new answer
given (Ok (Send parts)) old new answer (count, is, placed) = rw is (parts, refl, front parts old new count placed)
given (Ok Asked) old new answer (is, kept) = rw is refl
given (Err inner) old new answer (is, kept) = rw is refl

-- The turn Asked is about a command that the host owes the reply to.
pub waits-for-host : (c : CardState) (step : CardStep)
    → ((next : CardState) → step ≡ Ok (Asked, next) → next.waits ≡ host) → turn_of step ≡ Ok Asked
    → (state_after c step).waits ≡ host
waits-for-host c (Ok (turn, next)) law e = let k : turn ≡ Asked = cc in law next (rw k refl)
waits-for-host c (Err inner) law e = cc
