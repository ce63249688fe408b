-- How replay calls an end with the lines that go into it, and compares its turns with the lines that it should give.
use Rattle.std.specs.Prelude.{◌≡◌, ◌⊎◌, ℕ, ◌+◌, List, [], ◌∷◌, ◌++◌, codes, Bool, true, false, if◌then◌else◌, Option, Some, None, unwrap_or, Result, Ok, Err, bytes_eq}
use Rattle.atr_core.specs.Atr.{AtrParts, IsAtr}
use Rattle.atr_core.specs.T1.{T1Values, t1_params_of}
use Rattle.atr_core.specs.declared.params.ParamFault.{ParamFault}
use Rattle.atr_core.specs.Names.{param_fault_name}
use Rattle.block_core.specs.Block.{spelling}
use Rattle.t1_core.specs.Came.{class_of, quiet}
use Rattle.t1_core.specs.Terminal.{TerminalState, TerminalStep, transmit, ask_ifs, takes, terminal_turn, new_terminal}
use Rattle.t1_core.specs.Card.{CardState, CardStep, replies, more_time, ask_ifs as ask_ifsc, takes as card_takes, card_turn, new_card}
use Rattle.t1_core.specs.CardViews.{owed}
use Rattle.t1_core.specs.declared.turns.TerminalTurn.{TerminalTurn}
use Rattle.t1_core.specs.declared.turns.TerminalTurn.TheVariants.{Send, Answered, IfsSet as SetIfs, GivenUp as GaveUp, Dead as Died}
use Rattle.t1_core.specs.Names.{terminal_fault_name, card_fault_name}
use Rattle.t1_core.specs.declared.turns.CardTurn.{CardTurn}
use Rattle.t1_core.specs.declared.turns.CardTurn.TheVariants.{Send as Sends, Asked as AskedHost}
use Rattle.exchange_text.specs.Text.{line_text}
use Rattle.exchange_text.specs.declared.line.Arrival.{Arrival}
use Rattle.exchange_text.specs.declared.line.Arrival.TheVariants.{Whole, Lost, Changed}
use Rattle.exchange_text.specs.declared.line.Line.{Line}
use Rattle.exchange_text.specs.declared.line.Line.TheVariants.{Command, Ifsd, Quiet, Answer, IfsSet, GivenUp, Dead, Reply, Time, Ifsc, Asked, FromTerminal, FromCard, Moment, Note}
use Rattle.block_core.specs.declared.side.Side.{Side}
use Rattle.block_core.specs.declared.side.Side.TheVariants.{Terminal, Card}
use Rattle.exchange_core.specs.declared.replaying.ReplayFault.{ReplayFault}
use Rattle.exchange_core.specs.declared.replaying.ReplayFault.TheVariants.{Differs, Memory}

-- ---- any end

-- What a line is to an end with states S and turns T: a call, which returns a turn and the state after it, or the name
-- of a refusal; a line that the end itself should give; or nothing to this end.
pub data Role (S T : Type 0) : Type 0 where
  calls : (given : Result (T × S) (List ℕ)) → Role S T
  gives : Role S T
  passes : Role S T

-- An end: what a line is to it in a state, and the line of its last turn.
pub record End (S T : Type 0) : Type 0 where
  pub role : S → Line → Role S T
  pub line : S → T → Line

-- the text of a refused call
abbrev pub refused : List ℕ → List ℕ
refused name = codes "refused " ++ name

-- Whether a line of the file is the line of the end's turn. The end never sees what happened to its block on the way.
abbrev pub is_met : Line → Line → Bool
is_met (Answer octets) (Answer recorded) = bytes_eq octets recorded
is_met (Asked octets) (Asked recorded) = bytes_eq octets recorded
is_met (FromTerminal octets arrival) (FromTerminal sent recorded) = bytes_eq octets sent
is_met (FromCard octets arrival) (FromCard sent recorded) = bytes_eq octets sent
is_met IfsSet IfsSet = true
is_met GivenUp GivenUp = true
is_met Dead Dead = true
is_met given line = false

-- the result of a call
abbrev pub called : {S T : Type 0} → Result (T × S) (List ℕ) → Result (S × Option T) (List ℕ)
called (Ok step) = Ok (step.1, Some step.0)
called (Err name) = Err (refused name)

-- the result of a line with this role; the turn, if any, is one that no line has matched yet
abbrev pub by_role : {S T : Type 0} → End S T → S → Option T → Line → Role S T → Result (S × Option T) (List ℕ)
by_role end s None line (calls given) = called given
by_role end s (Some turn) line (calls given) = Err (line_text (end.line s turn))
by_role end s None line gives = Err (codes "nothing")
by_role end s (Some turn) line gives =
    if is_met (end.line s turn) line
    then Ok (s, None)
    else Err (line_text (end.line s turn))
by_role end s pending line passes = Ok (s, pending)

-- The result of a line in a state: the state after it, and the turn that no line has matched yet; or what the end gives
-- instead.
abbrev pub replay_line : {S T : Type 0} → End S T → S → Option T → Line → Result (S × Option T) (List ℕ)
replay_line end s pending line = by_role end s pending line (end.role s line)

abbrev pub goes_on : {A : Type 0} → (A → Option (ℕ × List ℕ)) → ℕ → Result A (List ℕ) → Option (ℕ × List ℕ)
goes_on next number (Ok after) = next after
goes_on next number (Err text) = Some (number, text)

-- The first line, counted from this number, at which the end gives something else, and the text of that. If no line has
-- matched the last turn, the file differs after its last line.
abbrev pub replay_lines : {S T : Type 0} → End S T → List Line → ℕ → S → Option T → Option (ℕ × List ℕ)
replay_lines end [] number s None = None
replay_lines end [] number s (Some turn) = Some (number, line_text (end.line s turn))
replay_lines end (line ∷ lines) number s pending =
    goes_on (λ after. replay_lines end lines (number + 1) after.0 after.1) number (replay_line end s pending line)

-- ---- the two ends

-- a block that arrives is a call; a lost block is nothing to its receiver
abbrev pub arriving : {S T : Type 0} → (List ℕ → Role S T) → List ℕ → Arrival → Role S T
arriving taking sent Whole = taking sent
arriving taking sent Lost = passes
arriving taking sent (Changed octets) = taking octets

abbrev pub terminal_gives : TerminalStep → Result (TerminalTurn × TerminalState) (List ℕ)
terminal_gives (Ok step) = Ok (step.0, step.1)
terminal_gives (Err fault) = Err (terminal_fault_name fault)

abbrev pub terminal_role : TerminalState → Line → Role TerminalState TerminalTurn
terminal_role t (Command octets) = calls (terminal_gives (terminal_turn t (transmit octets)))
terminal_role t (Ifsd size) = calls (terminal_gives (terminal_turn t (ask_ifs size)))
terminal_role t Quiet = calls (terminal_gives (terminal_turn t (takes quiet)))
terminal_role t (FromCard sent arrival) =
    arriving (λ octets. calls (terminal_gives (terminal_turn t (takes (class_of t.ifsd octets))))) sent arrival
terminal_role t (Answer octets) = gives
terminal_role t IfsSet = gives
terminal_role t GivenUp = gives
terminal_role t Dead = gives
terminal_role t (FromTerminal sent arrival) = gives
terminal_role t (Reply octets) = passes
terminal_role t (Time multiple) = passes
terminal_role t (Ifsc size) = passes
terminal_role t (Asked octets) = passes
terminal_role t (Moment moment) = passes
terminal_role t (Note text) = passes

abbrev pub terminal_line : TerminalState → TerminalTurn → Line
terminal_line t (Send block) = FromTerminal (spelling block) Whole
terminal_line t Answered = Answer (unwrap_or t.answered [])
terminal_line t SetIfs = IfsSet
terminal_line t GaveUp = GivenUp
terminal_line t Died = Dead

abbrev pub terminal_end : End TerminalState TerminalTurn
terminal_end = record { role = terminal_role; line = terminal_line }

abbrev pub card_gives : CardStep → Result (CardTurn × CardState) (List ℕ)
card_gives (Ok step) = Ok (step.0, step.1)
card_gives (Err fault) = Err (card_fault_name fault)

abbrev pub card_role : CardState → Line → Role CardState CardTurn
card_role c (Reply octets) = calls (card_gives (card_turn c (replies octets)))
card_role c (Time multiple) = calls (card_gives (card_turn c (more_time multiple)))
card_role c (Ifsc size) = calls (card_gives (card_turn c (ask_ifsc size)))
card_role c (FromTerminal sent arrival) =
    arriving (λ octets. calls (card_gives (card_turn c (card_takes (class_of c.ifsc octets))))) sent arrival
card_role c (Asked octets) = gives
card_role c (FromCard sent arrival) = gives
card_role c (Command octets) = passes
card_role c (Ifsd size) = passes
card_role c Quiet = passes
card_role c (Answer octets) = passes
card_role c IfsSet = passes
card_role c GivenUp = passes
card_role c Dead = passes
card_role c (Moment moment) = passes
card_role c (Note text) = passes

abbrev pub card_line : CardState → CardTurn → Line
card_line c (Sends block) = FromCard (spelling block) Whole
card_line c AskedHost = Asked (unwrap_or (owed c c.waits) [])

abbrev pub card_end : End CardState CardTurn
card_end = record { role = card_role; line = card_line }

-- ---- the whole file

-- the size of information fields that the card takes at first, or the name of the fault
abbrev pub size_of : Result T1Values ParamFault → Result ℕ (List ℕ)
size_of (Ok values) = Ok values.ifsc
size_of (Err fault) = Err (param_fault_name fault)

-- What the octets of an answer to reset say about T=1, if they are one whole answer.
abbrev pub IsFound : List ℕ → Result ℕ (List ℕ) → Type 0
IsFound atr found =
    ((a : AtrParts) × IsAtr a atr × (found ≡ size_of (t1_params_of a)))
    ⊎ (((a : AtrParts) → IsAtr a atr → ⊥) × (found ≡ Err (codes "BadAtr")))

-- The result of a new end over the lines, which begin at line 3. Line 1 is the header, line 2 the answer to reset.
abbrev pub replay_from : Result ℕ (List ℕ) → List Line → Side → Option (ℕ × List ℕ)
replay_from (Err name) lines side = Some (2, refused name)
replay_from (Ok ifsc) lines Terminal = replay_lines terminal_end lines 3 (new_terminal ifsc) None
replay_from (Ok ifsc) lines Card = replay_lines card_end lines 3 (new_card ifsc) None

-- The result of replaying the file with this answer to reset and these lines at one side: it has no difference, or it
-- differs first at this line, where the end gives this text.
pub record Replays (atr : List ℕ) (lines : List Line) (side : Side) (difference : Option (ℕ × List ℕ)) : Type 0 where
  pub found : Result ℕ (List ℕ)
  pub is_found : IsFound atr found
  pub is : replay_from found lines side ≡ difference

-- P, of the line and the text of a difference; nothing if memory ran out
abbrev pub IfDiffers : ReplayFault → (ℕ → List ℕ → Type 0) → Type 0
IfDiffers (Differs line text) P = P line text
IfDiffers Memory P = Unit {0}
