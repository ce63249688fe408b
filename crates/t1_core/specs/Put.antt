-- What a call with `_into` returns. It puts the octets of its block at the front of the caller's buffer; a call that
-- sends no block leaves the buffer unchanged.
use Rattle.std.specs.Prelude.{◌≡◌, ◌≤◌, ℕ, List, Result, Ok, Err}
use Rattle.block_core.specs.Block.{IsPut}
use Rattle.t1_core.specs.declared.turns.TerminalTurn.{TerminalTurn}
use Rattle.t1_core.specs.declared.turns.TerminalTurn.TheVariants.{Send, Answered, IfsSet, GivenUp, Dead}
use Rattle.t1_core.specs.declared.turns.EncodedTerminalTurn.{EncodedTerminalTurn}
use Rattle.t1_core.specs.declared.turns.EncodedTerminalTurn.TheVariants as put
use Rattle.t1_core.specs.declared.turns.TerminalFault.{TerminalFault}
use Rattle.t1_core.specs.declared.turns.CardTurn.{CardTurn}
use Rattle.t1_core.specs.declared.turns.CardTurn.TheVariants as card_turns
use Rattle.t1_core.specs.declared.turns.EncodedCardTurn.{EncodedCardTurn}
use Rattle.t1_core.specs.declared.turns.EncodedCardTurn.TheVariants as card_put
use Rattle.t1_core.specs.declared.turns.CardFault.{CardFault}
use Rattle.t1_core.specs.Waiting.{waiting_times}

abbrev pub IsTerminalPut : Result TerminalTurn TerminalFault → List ℕ → List ℕ
    → Result EncodedTerminalTurn TerminalFault → Type 0
IsTerminalPut (Ok (Send block)) old new answer =
    (count : ℕ) × (answer ≡ Ok (put.Send count (waiting_times (Send block)))) × IsPut block old new count
IsTerminalPut (Ok Answered) old new answer = (answer ≡ Ok put.Answered) × (new ≡ old)
IsTerminalPut (Ok IfsSet) old new answer = (answer ≡ Ok put.IfsSet) × (new ≡ old)
IsTerminalPut (Ok GivenUp) old new answer = (answer ≡ Ok put.GivenUp) × (new ≡ old)
IsTerminalPut (Ok Dead) old new answer = (answer ≡ Ok put.Dead) × (new ≡ old)
IsTerminalPut (Err fault) old new answer = (answer ≡ Err fault) × (new ≡ old)

abbrev pub IsCardPut : Result CardTurn CardFault → List ℕ → List ℕ → Result EncodedCardTurn CardFault → Type 0
IsCardPut (Ok (card_turns.Send block)) old new answer =
    (count : ℕ) × (answer ≡ Ok (card_put.Send count)) × IsPut block old new count
IsCardPut (Ok card_turns.Asked) old new answer = (answer ≡ Ok card_put.Asked) × (new ≡ old)
IsCardPut (Err fault) old new answer = (answer ≡ Err fault) × (new ≡ old)

-- a block has at least 4 and at most 258 octets
abbrev pub IsBlockLen : ℕ → Type 0
IsBlockLen count = (4 ≤ count) × (count ≤ 258)

abbrev pub FitsTerminalPut : EncodedTerminalTurn → Type 0
FitsTerminalPut (put.Send count waiting) = IsBlockLen count × (1 ≤ waiting)
FitsTerminalPut put.Answered = Unit {0}
FitsTerminalPut put.IfsSet = Unit {0}
FitsTerminalPut put.GivenUp = Unit {0}
FitsTerminalPut put.Dead = Unit {0}

abbrev pub FitsCardPut : EncodedCardTurn → Type 0
FitsCardPut (card_put.Send count) = IsBlockLen count
FitsCardPut card_put.Asked = Unit {0}
