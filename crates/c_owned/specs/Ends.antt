-- Both ends of T=1 in handles, as C has them.
use Rattle.std.specs.Prelude.{◌≡◌, ℕ, List, Option, None, Some}
use Rattle.t1_core.specs.Terminal.{TerminalState, TerminalInput, terminal_turn, turn_of, state_after}
use Rattle.t1_core.specs.Card as card
use Rattle.t1_core.specs.Card.{CardState, CardInput}
use Rattle.t1_core.specs.CardViews.{owed}
use Rattle.chain_core.specs.Longest.{longest_command, longest_response}
use Rattle.c_lent.specs.Verdict.{put_verdict, put_into, wrong_argument}
use Rattle.c_lent.specs.declared.verdict.Verdict.{Verdict}
use Rattle.c_lent.specs.declared.turn.CTurn.{CTurn}
use Rattle.c_owned.specs.declared.engine.Engine.{Engine}
use Rattle.c_owned.specs.declared.engine.Engine.TheVariants.{Terminal, Card, InPieces}
use Rattle.c_owned.specs.declared.reader.Reader.TheVariants.{Atr, Block, Chain, Forest}
use Rattle.c_lent.specs.Turns.{IsCardTurn, IsTerminalTurn, joined_of, no_end}

-- a handle holds a terminal, or a card, that takes the longest messages, as each call that opens one creates it
abbrev pub HoldsTerminal : Option Engine → Type 0
HoldsTerminal (Some (Terminal t)) = (t.limits.command ≡ longest_command) × (t.limits.answer ≡ longest_response)
HoldsTerminal _ = ⊥

abbrev pub HoldsCard : Option Engine → Type 0
HoldsCard (Some (Card c)) = (c.limits.command ≡ longest_command) × (c.limits.answer ≡ longest_response)
HoldsCard _ = ⊥

-- a call on the wrong kind of handle changes nothing
pub record IsNoEnd (engine now : Option Engine) (old new : List ℕ) (turn : CTurn) : Type 0 where
  pub stays : now ≡ engine
  pub turn_is : turn ≡ no_end
  pub buffer : new ≡ old

-- a call of a terminal: its turn and the terminal after it, as `terminal_turn` gives them
pub record TakesTurn (t : TerminalState) (input : TerminalInput) (now : Option Engine) (old new : List ℕ) (turn : CTurn)
    : Type 0 where
  pub state : now ≡ Some (Terminal (state_after t (terminal_turn t input)))
  pub turn_is : IsTerminalTurn (turn_of (terminal_turn t input)) old new turn

-- a call of a card: its turn and the card after it, as `card_turn` gives them
pub record TakesCardTurn (c : CardState) (input : CardInput) (now : Option Engine) (old new : List ℕ) (turn : CTurn) :
    Type 0 where
  pub state : now ≡ Some (Card (card.state_after c (card.card_turn c input)))
  pub turn_is : IsCardTurn (card.turn_of (card.card_turn c input)) old new turn

-- how a call of a terminal changes the engine in a handle
abbrev pub TerminalTakes : (TerminalState → TerminalInput) → Option Engine → Option Engine → List ℕ → List ℕ → CTurn
    → Type 0
TerminalTakes input None now old new turn = IsNoEnd None now old new turn
TerminalTakes input (Some (Card c)) now old new turn = IsNoEnd (Some (Card c)) now old new turn
TerminalTakes input (Some (InPieces r)) now old new turn = IsNoEnd (Some (InPieces r)) now old new turn
TerminalTakes input (Some (Terminal t)) now old new turn = TakesTurn t (input t) now old new turn

-- how a call of a card changes the engine in a handle
abbrev pub CardTakes : (CardState → CardInput) → Option Engine → Option Engine → List ℕ → List ℕ → CTurn → Type 0
CardTakes input None now old new turn = IsNoEnd None now old new turn
CardTakes input (Some (Terminal t)) now old new turn = IsNoEnd (Some (Terminal t)) now old new turn
CardTakes input (Some (InPieces r)) now old new turn = IsNoEnd (Some (InPieces r)) now old new turn
CardTakes input (Some (Card c)) now old new turn = TakesCardTurn c (input c) now old new turn

-- the answer of a terminal, the command for which a card's host owes the reply, or the message of a complete chain
abbrev pub message_of : Option Engine → Option (List ℕ)
message_of None = None
message_of (Some (InPieces (Atr s))) = None
message_of (Some (InPieces (Block s))) = None
message_of (Some (InPieces (Chain s))) = joined_of s
message_of (Some (InPieces (Forest s))) = None
message_of (Some (Terminal t)) = t.answered
message_of (Some (Card c)) = owed c c.waits

-- a message is put into a buffer, if there is one
abbrev pub PutsMessage : Option (List ℕ) → List ℕ → List ℕ → Verdict → Type 0
PutsMessage None old new v = (v ≡ wrong_argument 0) × (new ≡ old)
PutsMessage (Some message) old new v = (v ≡ put_verdict message old) × (new ≡ put_into message old)
