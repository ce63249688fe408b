-- Where no line differs, the lines that an end is said to give are those that it gives.
use Rattle.std.proofs.Common.{◌≡◌, ◌+◌, ℕ, List, [], ◌∷◌, Bool, true, false, map, if◌then◌else◌, Option, Some, None, Result, Ok, Err, refl, sym, ◌∙◌, ap}
use Rattle.std.specs.List.{filter}
use Rattle.std.specs.Option.{option_map}
use Rattle.std.specs.Str.{bytes_eq}
use Rattle.std.proofs.lemmas.Slice.Eq.{bytes_eq-Decides}
use Rattle.t1_core.specs.Terminal.{TerminalState, new_terminal}
use Rattle.t1_core.specs.Card.{CardState, new_card}
use Rattle.t1_core.specs.declared.turns.TerminalTurn.{TerminalTurn}
use Rattle.t1_core.specs.declared.turns.TerminalTurn.TheVariants as terminal
use Rattle.t1_core.specs.declared.turns.CardTurn.{CardTurn}
use Rattle.t1_core.specs.declared.turns.CardTurn.TheVariants as card
use Rattle.exchange_text.specs.declared.line.Arrival.TheVariants.{Whole, Lost, Changed}
use Rattle.exchange_text.specs.declared.line.Line.{Line}
use Rattle.exchange_text.specs.declared.line.Line.TheVariants.{Command, Ifsd, Quiet, Answer, IfsSet, GivenUp, Dead, Reply, Time, Ifsc, Asked, FromTerminal, FromCard, Moment, Note}
use Rattle.block_core.specs.declared.side.Side.{Side}
use Rattle.block_core.specs.declared.side.Side.TheVariants.{Terminal, Card}
use Rattle.exchange_core.specs.Replay.{Role, calls, gives, passes, End, is_met, by_role, replay_lines, goes_on, terminal_end, terminal_role, terminal_line, card_end, card_role, card_line, IsFound, Replays, replay_from}
use Rattle.exchange_text.specs.Text.{line_text}
use Rattle.exchange_core.specs.Run.{is_said, as_sent, given_by, given_over, IsRun}

abbrev is_given : {S T : Type 0} → Role S T → Bool
is_given (calls given) = false
is_given gives = true
is_given passes = false

-- an end with the lines that it is said to give, whose turns are lines as it sees them
record Says {S T : Type 0} (end : End S T) (said : Line → Bool) : Type 0 where
  role : (s : S) (line : Line) → said line ≡ is_given (end.role s line)
  line : (s : S) (turn : T) → as_sent (end.line s turn) ≡ end.line s turn

-- what the turn that no line has met gives, and all turns after it
abbrev given_from : {S T : Type 0} → End S T → List Line → S → Option T → Option (List Line)
given_from end lines s None = given_over end lines s
given_from end lines s (Some turn) = option_map (λ rest. end.line s turn ∷ rest) (given_over end lines s)

met-octets : (given recorded : List ℕ) (f : List ℕ → Line) → bytes_eq given recorded ≡ true → f recorded ≡ f given
met-octets given recorded f e =
    ap f (sym ((bytes_eq-Decides given recorded).0 e))

-- a line that is met is the one that the end gives
met-same : (given line : Line) → is_met given line ≡ true → as_sent line ≡ as_sent given
met-same (Answer octets) (Answer recorded) e = met-octets octets recorded (λ x. Answer x) e
met-same (Asked octets) (Asked recorded) e = met-octets octets recorded (λ x. Asked x) e
met-same (FromTerminal octets arrival) (FromTerminal sent recorded) e =
    met-octets octets sent (λ x. FromTerminal x Whole) e
met-same (FromCard octets arrival) (FromCard sent recorded) e = met-octets octets sent (λ x. FromCard x Whole) e
met-same IfsSet IfsSet e = refl
met-same GivenUp GivenUp e = refl
met-same Dead Dead e = refl
met-same given line e = cc

-- all turns from a line on, by what the line is to the end
abbrev given_with : {S T : Type 0} → End S T → List Line → S → Role S T → Option T → Option (List Line)
given_with end lines s role None = given_by end (λ after. given_over end lines after) s role
given_with end lines s role (Some turn) =
    option_map (λ rest. end.line s turn ∷ rest) (given_by end (λ after. given_over end lines after) s role)

-- the lines after one agree, from wherever they are begun
abbrev Agree : {S T : Type 0} → End S T → (Line → Bool) → List Line → Type 0
Agree end said lines = (number : ℕ) (s : _) (pending : Option _) → replay_lines end lines number s pending ≡ None
    → given_from end lines s pending ≡ Some (map as_sent (filter said lines))

-- what the fold goes on with after a line
abbrev NoneAfter : {S T : Type 0} → End S T → List Line → ℕ → Result (S × Option T) (List ℕ) → Type 0
NoneAfter {S} {T} end lines number after =
    goes_on {A = S × Option T} (λ x. replay_lines end lines (number + 1) x.0 x.1) number after ≡ None

module _ {S T : Type 0} (end : End S T) (said : Line → Bool) (says : Says end said) where
  -- the line of a turn
  met-line : (line : Line) (lines : List Line) → Agree end said lines
      → (number : ℕ) (s : S) (turn : T) → said line ≡ true
      → (met : Bool) → is_met (end.line s turn) line ≡ met
      → NoneAfter end lines number (if met then Ok (s, None) else Err (line_text (end.line s turn)))
      → option_map (λ rest. end.line s turn ∷ rest) (given_over end lines s)
      ≡ Some (map as_sent (filter said (line ∷ lines)))
  met-line line lines after number s turn own true met e =
      let same : as_sent line ≡ end.line s turn = met-same _ _ met ∙ says.line s turn in
      let rest : given_over end lines s ≡ Some (map as_sent (filter said lines)) = after (number + 1) s None e in
      rw (rest, own) (cc)
  met-line line lines after number s turn own false met e = cc

  -- any line, by its role
  agree-line : (line : Line) (lines : List Line) → Agree end said lines → (number : ℕ) (s : S) (pending : Option T)
      → (role : Role S T) → said line ≡ is_given role → NoneAfter end lines number (by_role end s pending line role)
      → given_with end lines s role pending ≡ Some (map as_sent (filter said (line ∷ lines)))
  agree-line line lines after number s None (calls (Ok step)) own e =
      rw own (after (number + 1) step.1 (Some step.0) e)
  agree-line line lines after number s None (calls (Err name)) own e = cc
  agree-line line lines after number s (Some turn) (calls given) own e = cc
  agree-line line lines after number s None gives own e = cc
  agree-line line lines after number s (Some turn) gives own e =
      met-line line lines after number s turn own (is_met (end.line s turn) line) refl e
  agree-line line lines after number s None passes own e = rw own (after (number + 1) s None e)
  agree-line line lines after number s (Some turn) passes own e = rw own (after (number + 1) s (Some turn) e)

  agree : (lines : List Line) → Agree end said lines
  agree [] number s None e = refl
  agree [] number s (Some turn) e = cc
  agree (line ∷ lines) number s None e =
      agree-line line lines (agree lines) number s None (end.role s line) (says.role s line) e
  agree (line ∷ lines) number s (Some turn) e =
      agree-line line lines (agree lines) number s (Some turn) (end.role s line) (says.role s line) e

-- ---- the two ends

terminal-said : (t : TerminalState) (line : Line) → is_said Terminal line ≡ is_given (terminal_role t line)
terminal-said t (Command octets) = refl
terminal-said t (Ifsd size) = refl
terminal-said t Quiet = refl
terminal-said t (Answer octets) = refl
terminal-said t IfsSet = refl
terminal-said t GivenUp = refl
terminal-said t Dead = refl
terminal-said t (Reply octets) = refl
terminal-said t (Time multiple) = refl
terminal-said t (Ifsc size) = refl
terminal-said t (Asked octets) = refl
terminal-said t (FromTerminal sent arrival) = refl
terminal-said t (FromCard sent Whole) = refl
terminal-said t (FromCard sent Lost) = refl
terminal-said t (FromCard sent (Changed octets)) = refl
terminal-said t (Moment moment) = refl
terminal-said t (Note text) = refl

terminal-sent : (t : TerminalState) (turn : TerminalTurn) → as_sent (terminal_line t turn) ≡ terminal_line t turn
terminal-sent t (terminal.Send block) = refl
terminal-sent t terminal.Answered = refl
terminal-sent t terminal.IfsSet = refl
terminal-sent t terminal.GivenUp = refl
terminal-sent t terminal.Dead = refl

card-said : (c : CardState) (line : Line) → is_said Card line ≡ is_given (card_role c line)
card-said c (Command octets) = refl
card-said c (Ifsd size) = refl
card-said c Quiet = refl
card-said c (Answer octets) = refl
card-said c IfsSet = refl
card-said c GivenUp = refl
card-said c Dead = refl
card-said c (Reply octets) = refl
card-said c (Time multiple) = refl
card-said c (Ifsc size) = refl
card-said c (Asked octets) = refl
card-said c (FromTerminal sent Whole) = refl
card-said c (FromTerminal sent Lost) = refl
card-said c (FromTerminal sent (Changed octets)) = refl
card-said c (FromCard sent arrival) = refl
card-said c (Moment moment) = refl
card-said c (Note text) = refl

card-sent : (c : CardState) (turn : CardTurn) → as_sent (card_line c turn) ≡ card_line c turn
card-sent c (card.Send block) = refl
card-sent c card.Asked = refl

-- ---- a file that agrees

terminal-says : Says terminal_end (is_said Terminal)
terminal-says = record { role = terminal-said; line = terminal-sent }

card-says : Says card_end (is_said Card)
card-says = record { role = card-said; line = card-sent }

found-run : (atr : List ℕ) (lines : List Line) (side : Side) (found : Result ℕ (List ℕ))
    → IsFound atr found → replay_from found lines side ≡ None → IsRun atr lines side
found-run atr lines side (Err name) is e = cc
found-run atr lines Terminal (Ok ifsc) is e =
    record {
      ifsc = ifsc;
      is_found = is;
      same = agree terminal_end (is_said Terminal) terminal-says lines 3 (new_terminal ifsc) None e;
    }
found-run atr lines Card (Ok ifsc) is e =
    record {
      ifsc = ifsc;
      is_found = is;
      same = agree card_end (is_said Card) card-says lines 3 (new_card ifsc) None e;
    }

-- lines that differ nowhere at an end are a run of it
pub agreeing-run : (atr : List ℕ) (lines : List Line) (side : Side) → Replays atr lines side None → IsRun atr lines side
agreeing-run atr lines side h = found-run atr lines side h.found h.is_found h.is
