-- What the calls of both ends do if the caller owns the state and the buffers.
use Rattle.std.specs.Prelude.{◌≡◌, ◌≤◌, ◌<◌, ℕ, List, length, take, Option, Some, None}
use Rattle.t1_core.specs.Terminal.{TerminalState, TerminalInput, terminal_turn, turn_of, state_after}
use Rattle.t1_core.specs.Card as card
use Rattle.t1_core.specs.Card.{CardState, CardInput}
use Rattle.t1_core.specs.CardViews.{IsBlankAfter}
use Rattle.c_lent.specs.Verdict.{ok_at, wrong_argument}
use Rattle.c_lent.specs.Turns.{no_end, no_room, IsTerminalTurn, IsCardTurn}
use Rattle.c_lent.specs.Kept.{IsTerminal, IsCard}
use Rattle.c_lent.specs.declared.verdict.Verdict.{Verdict}
use Rattle.c_lent.specs.declared.turn.CTurn.{CTurn}
use Rattle.c_lent.specs.declared.kept.CTerminal.{CTerminal}
use Rattle.c_lent.specs.declared.kept.CCard.{CCard}

-- a state and its two buffers
pub record Lent (C : Type 0) : Type 0 where
  pub state : C
  pub command : List ℕ
  pub answer : List ℕ

abbrev pub lent : {C : Type 0} → C → List ℕ → List ℕ → Lent C
lent state command answer = record { state = state; command = command; answer = answer }

-- nothing changes, and the turn is this
pub record IsLeft {C T : Type 0} (told : T) (old new : Lent C) (out out_after : List ℕ) (turn : T) : Type 0 where
  pub turn_is : turn ≡ told
  pub stays : new ≡ old
  pub buffer : out_after ≡ out

-- a call of a terminal: its turn and the terminal after it, as `terminal_turn` gives them
pub record TurnsTerminal (t : TerminalState) (input : TerminalInput) (new : Lent CTerminal) (out out_after : List ℕ)
    (turn : CTurn) : Type 0 where
  pub state : IsTerminal new.state new.command new.answer (state_after t (terminal_turn t input))
  pub turn_is : IsTerminalTurn (turn_of (terminal_turn t input)) out out_after turn

-- A call of a terminal, by the size of the buffer for a block, and by whether the state and its buffers are a terminal.
-- A call that is refused, with a turn from 16 on, changes nothing.
pub record TerminalCalled (input : TerminalState → TerminalInput) (old new : Lent CTerminal) (out out_after : List ℕ)
    (turn : CTurn) : Type 0 where
  pub room : length out < 258 → IsLeft no_room old new out out_after turn
  pub none : 258 ≤ length out → ((t : TerminalState) → IsTerminal old.state old.command old.answer t → ⊥)
      → IsLeft no_end old new out out_after turn
  pub called : 258 ≤ length out → (t : TerminalState) → IsTerminal old.state old.command old.answer t
      → TurnsTerminal t (input t) new out out_after turn
  pub refused : 16 ≤ turn.kind → (new ≡ old) × (out_after ≡ out)

-- a call of a card: its turn and the card after it, as `card_turn` gives them
pub record TurnsCard (c : CardState) (input : CardInput) (new : Lent CCard) (out out_after : List ℕ) (turn : CTurn) :
    Type 0 where
  pub state : IsCard new.state new.command new.answer (card.state_after c (card.card_turn c input))
  pub turn_is : IsCardTurn (card.turn_of (card.card_turn c input)) out out_after turn

-- each octet of the command's buffer after the command is 0
abbrev pub IsBlank : Lent CCard → Type 0
IsBlank l = IsBlankAfter l.state.command_len l.command

-- A call of a card, by the size of the buffer for a block, and by whether the state and its buffers are a card. A call
-- that is refused, with a turn from 16 on, changes nothing. No octet of an earlier command stays after a command.
pub record CardCalled (input : CardState → CardInput) (old new : Lent CCard) (out out_after : List ℕ) (turn : CTurn) :
    Type 0 where
  pub room : length out < 258 → IsLeft no_room old new out out_after turn
  pub none : 258 ≤ length out → ((c : CardState) → IsCard old.state old.command old.answer c → ⊥)
      → IsLeft no_end old new out out_after turn
  pub called : 258 ≤ length out → (c : CardState) → IsCard old.state old.command old.answer c
      → TurnsCard c (input c) new out out_after turn
  pub refused : 16 ≤ turn.kind → (new ≡ old) × (out_after ≡ out)
  pub blank : IsBlank old → IsBlank new

-- the message, if there is one, is at the front of a buffer
abbrev pub IsAtFront : Option (List ℕ) → List ℕ → Verdict → Type 0
IsAtFront None buffer v = v ≡ wrong_argument 0
IsAtFront (Some message) buffer v = (v ≡ ok_at (length message)) × (take (length message) buffer ≡ message)
