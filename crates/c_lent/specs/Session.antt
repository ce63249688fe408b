-- What the calls of a session do if the caller owns its state and the buffers.
use Rattle.std.specs.Prelude.{◌≡◌, ◌≤◌, ◌<◌, ℕ, List, [], length, take, replicate, Some, None, Result, IfErr, ◌==◌, not}
use Rattle.atr_core.specs.T1.{IsUsable}
use Rattle.t1_core.specs.Came.{quiet}
use Rattle.t1_core.specs.Terminal.{TerminalState, TerminalInput, transmit, ask_ifs, takes, at_most, terminal_with}
use Rattle.t1_core.specs.Card as card
use Rattle.t1_core.specs.Card.{CardState, CardInput, card_with, replies, more_time}
use Rattle.t1_core.specs.declared.turns.TerminalFault.{TerminalFault}
use Rattle.t1_core.specs.declared.turns.CardFault.{CardFault}
use Rattle.line_core.specs.Bursts.{HasHeard}
use Rattle.session_core.specs.declared.action.Action.{Action}
use Rattle.session_core.specs.declared.progress.Rules.{Rules}
use Rattle.session_core.specs.declared.setup.Setup.{Setup}
use Rattle.session_core.specs.declared.lines.Line.{Line}
use Rattle.session_core.specs.declared.lines.Start.TheVariants.{Exchange, Clear}
use Rattle.session_core.specs.Wire.{Step, ruled, seen, fresh, forever, serves}
use Rattle.session_core.specs.Lines.{stepped, first_of}
use Rattle.session_core.specs.Setup.{t1_of, rules_of, limits_of, no_limits}
use Rattle.session_core.specs.Terminals.{TurnsTo, IsStepped, asking_resynch, IsSent}
use Rattle.session_core.specs.Cards as cards
use Rattle.c_lent.specs.declared.verdict.Verdict.{Verdict}
use Rattle.c_lent.specs.declared.session.CSession.{CSession}
use Rattle.c_lent.specs.declared.session.SessionCall.{SessionCall}
use Rattle.c_lent.specs.declared.session.SessionCall.TheVariants as call
use Rattle.c_lent.specs.declared.card_session.CCardSession.{CCardSession}
use Rattle.c_lent.specs.declared.card_session.HostCall.{HostCall}
use Rattle.c_lent.specs.declared.card_session.HostCall.TheVariants as host
use Rattle.c_lent.specs.declared.session_next.CSessionNext.{CSessionNext}
use Rattle.c_lent.specs.Verdict.{ok_at, wrong_argument}
use Rattle.c_lent.specs.Kept.{IsTerminal, IsCard}
use Rattle.c_lent.specs.Lent.{Lent, lent, IsLeft, IsBlank}
use Rattle.c_lent.specs.SessionNext.{done, no_room, acted, terminal_shown, card_shown}

-- the line of an end that hasn't used it yet, by these rules
pub record IsFresh (line : Line) (rules : Rules) : Type 0 where
  pub rules_are : line.rules ≡ rules
  pub progress : seen line.progress ≡ fresh (ruled rules)
  pub burst_is : HasHeard line.framer []

-- ---- the session of a terminal

-- the state and its buffers are this terminal
abbrev pub IsEnd : Lent CSession → TerminalState → Type 0
IsEnd l t = IsTerminal l.state.terminal l.command l.answer t

-- a new session over buffers of these sizes
pub record IsBegun (s : Setup) (rules : Rules) (old new : Lent CSession) (verdict : Verdict) : Type 0 where
  pub verdict_is : verdict ≡ ok_at 0
  pub end : IsEnd new (terminal_with (at_most (length old.command) (length old.answer)) s.ifsc)
  pub line : IsFresh new.state.line rules
  pub own : new.state.own ≡ 0
  pub most_time : new.state.most_time ≡ s.most_time
  pub most_blocks : new.state.most_blocks ≡ s.most_blocks
  pub command : new.command ≡ replicate (length old.command) 0
  pub answer : new.answer ≡ replicate (length old.answer) 0

-- a session begins, if its setup is valid
pub record SessionBegun (s : Setup) (old new : Lent CSession) (verdict : Verdict) : Type 0 where
  pub ok : (rules : Rules) → IsUsable (t1_of s) → rules_of s (t1_of s) 0 ≡ Some rules → IsBegun s rules old new verdict
  pub unusable : (IsUsable (t1_of s) → ⊥) → (verdict ≡ wrong_argument 0) × (new ≡ old)
  pub invalid : rules_of s (t1_of s) 0 ≡ None → (verdict ≡ wrong_argument 0) × (new ≡ old)

-- the input of the terminal from a call of its application
abbrev pub input_of : SessionCall → TerminalInput
input_of (call.Exchange octets) = transmit octets.now
input_of (call.AskIfs size) = ask_ifs size

-- the terminal takes a call within the limits of the session; a call that is refused changes nothing
pub record Turns (t : TerminalState) (input : TerminalInput) (now : ℕ) (burst : List ℕ) (old new : Lent CSession)
    (out out_after : List ℕ) (next : CSessionNext) : Type 0 where
  pub t_after : TerminalState
  pub result : Result Action TerminalFault
  pub end : IsEnd new t_after
  pub turn : TurnsTo t input Exchange (limits_of old.state.most_time old.state.most_blocks) old.state.line.rules
      (seen old.state.line.progress) burst now t_after new.state.line old.state.own new.state.own out out_after result
  pub next_is : next ≡ terminal_shown result
  pub most_time : new.state.most_time ≡ old.state.most_time
  pub most_blocks : new.state.most_blocks ≡ old.state.most_blocks
  pub refused : IfErr result (λ _. new ≡ old)

-- A call of a terminal's session, by the size of the buffer for a block, and by whether there is such a session.
pub record SessionCalled (input : TerminalInput) (now : ℕ) (old new : Lent CSession) (out out_after : List ℕ)
    (next : CSessionNext) : Type 0 where
  pub room : length out < 258 → IsLeft no_room old new out out_after next
  pub none : 258 ≤ length out → ((t : TerminalState) → IsEnd old t → ⊥)
      → IsLeft (done 32 0) old new out out_after next
  pub called : 258 ≤ length out → (t : TerminalState) → IsEnd old t → (burst : List ℕ)
      → HasHeard old.state.line.framer burst → Turns t input now burst old new out out_after next

-- the line of a session came here by this step of its table, and the session does what the line says next
pub record Proceeds (t : TerminalState) (step : Step) (rules : Rules) (now : ℕ) (old new : Lent CSession)
    (out out_after : List ℕ) (next : CSessionNext) : Type 0 where
  pub t_after : TerminalState
  pub result : Result Action TerminalFault
  pub end : IsEnd new t_after
  pub stepped_so : IsStepped step.next step rules t now t_after new.state.line old.state.own new.state.own out out_after
      result
  pub next_is : next ≡ terminal_shown result
  pub most_time : new.state.most_time ≡ old.state.most_time
  pub most_blocks : new.state.most_blocks ≡ old.state.most_blocks

-- this happened on the line, and the session does what its table says
abbrev pub Happens : TerminalState → ℕ → List ℕ → ℕ → List ℕ → Lent CSession → Lent CSession → List ℕ → List ℕ
    → CSessionNext → Type 0
Happens t event octets now burst old new out out_after next =
    Proceeds t (stepped event (ruled old.state.line.rules) (seen old.state.line.progress) burst octets now
    (take old.state.own out)) old.state.line.rules now old new out out_after next

-- a step of a terminal's session
pub record SessionStepped (event : ℕ) (octets : List ℕ) (now : ℕ) (old new : Lent CSession) (out out_after : List ℕ)
    (next : CSessionNext) : Type 0 where
  pub room : length out < 258 → IsLeft no_room old new out out_after next
  pub none : 258 ≤ length out → ((t : TerminalState) → IsEnd old t → ⊥)
      → IsLeft (done 32 0) old new out out_after next
  pub called : 258 ≤ length out → (t : TerminalState) → IsEnd old t → (burst : List ℕ)
      → HasHeard old.state.line.framer burst → Happens t event octets now burst old new out out_after next

-- a session that begins with RESYNCH
pub record IsResynched (s : Setup) (rules : Rules) (now : ℕ) (old new : Lent CSession) (out out_after : List ℕ)
    (next : CSessionNext) : Type 0 where
  pub t_after : TerminalState
  pub result : Result Action TerminalFault
  pub end : IsEnd new t_after
  pub turn : TurnsTo (asking_resynch (terminal_with (at_most (length old.command) (length old.answer)) s.ifsc))
      (takes quiet) Clear no_limits rules (fresh (ruled rules)) [] now t_after new.state.line 0 new.state.own out
      out_after result
  pub next_is : next ≡ terminal_shown result
  pub most_time : new.state.most_time ≡ s.most_time
  pub most_blocks : new.state.most_blocks ≡ s.most_blocks

pub record SessionResynched (s : Setup) (now : ℕ) (old new : Lent CSession) (out out_after : List ℕ)
    (next : CSessionNext) : Type 0 where
  pub room : length out < 258 → IsLeft no_room old new out out_after next
  pub ok : 258 ≤ length out → (rules : Rules) → IsUsable (t1_of s) → rules_of s (t1_of s) 0 ≡ Some rules
      → IsResynched s rules now old new out out_after next
  pub unusable : 258 ≤ length out → (IsUsable (t1_of s) → ⊥) → IsLeft (done 32 0) old new out out_after next
  pub invalid : 258 ≤ length out → rules_of s (t1_of s) 0 ≡ None → IsLeft (done 32 0) old new out out_after next

-- ---- the session of a card

abbrev pub IsCardEnd : Lent CCardSession → CardState → Type 0
IsCardEnd l c = IsCard l.state.card l.command l.answer c

pub record IsCardBegun (s : Setup) (rules : Rules) (old new : Lent CCardSession) (verdict : Verdict) : Type 0 where
  pub verdict_is : verdict ≡ ok_at 0
  pub end : IsCardEnd new (card_with (at_most (length old.command) (length old.answer)) s.ifsc)
  pub line : IsFresh new.state.line rules
  pub own : new.state.own ≡ 0
  pub granted : new.state.granted ≡ 0
  pub takes_short : new.state.host_takes_short ≡ s.host_takes_short
  pub command : new.command ≡ replicate (length old.command) 0
  pub reply : new.answer ≡ replicate (length old.answer) 0

pub record CardSessionBegun (s : Setup) (old new : Lent CCardSession) (verdict : Verdict) : Type 0 where
  pub ok : (rules : Rules) → IsUsable (t1_of s) → rules_of s (t1_of s) 1 ≡ Some rules
      → IsCardBegun s rules old new verdict
  pub unusable : (IsUsable (t1_of s) → ⊥) → (verdict ≡ wrong_argument 0) × (new ≡ old)
  pub invalid : rules_of s (t1_of s) 1 ≡ None → (verdict ≡ wrong_argument 0) × (new ≡ old)

-- the input of the card from a call of its host
abbrev pub host_input : HostCall → CardInput
host_input (host.Reply octets) = replies octets.now
host_input (host.MoreTime multiple) = more_time multiple
host_input (host.AskIfs size) = card.ask_ifs size

-- each octet of the command's buffer after the command is 0
abbrev pub IsBlankEnd : Lent CCardSession → Type 0
IsBlankEnd l = IsBlank (lent l.state.card l.command l.answer)

-- the card takes a call of its host; a call that is refused changes nothing
pub record CardTurns (c : CardState) (input : CardInput) (now : ℕ) (burst : List ℕ) (old new : Lent CCardSession)
    (out out_after : List ℕ) (next : CSessionNext) : Type 0 where
  pub c_after : CardState
  pub result : Result Action CardFault
  pub end : IsCardEnd new c_after
  pub turn : cards.TurnsTo c input Exchange old.state.line.rules (seen old.state.line.progress) burst now c_after
      new.state.line old.state.own new.state.own out out_after result
  pub next_is : next ≡ card_shown result
  pub granted : new.state.granted ≡ old.state.granted
  pub takes_short : new.state.host_takes_short ≡ old.state.host_takes_short
  pub refused : IfErr result (λ _. new ≡ old)

pub record CardSessionCalled (input : CardInput) (now : ℕ) (old new : Lent CCardSession) (out out_after : List ℕ)
    (next : CSessionNext) : Type 0 where
  pub room : length out < 258 → IsLeft no_room old new out out_after next
  pub none : 258 ≤ length out → ((c : CardState) → IsCardEnd old c → ⊥) → IsLeft (done 32 0) old new out out_after next
  pub called : 258 ≤ length out → (c : CardState) → IsCardEnd old c → (burst : List ℕ)
      → HasHeard old.state.line.framer burst → CardTurns c input now burst old new out out_after next
  pub blank : IsBlankEnd old → IsBlankEnd new

pub record CardProceeds (c : CardState) (step : Step) (rules : Rules) (now : ℕ) (old new : Lent CCardSession)
    (out out_after : List ℕ) (next : CSessionNext) : Type 0 where
  pub c_after : CardState
  pub result : Result Action CardFault
  pub end : IsCardEnd new c_after
  pub stepped_so : cards.IsStepped step.next step rules c (not (old.state.host_takes_short == 0)) old.state.granted
      new.state.granted now c_after new.state.line old.state.own new.state.own out out_after result
  pub next_is : next ≡ card_shown result
  pub takes_short : new.state.host_takes_short ≡ old.state.host_takes_short

abbrev pub CardHappens : CardState → ℕ → List ℕ → ℕ → List ℕ → Lent CCardSession → Lent CCardSession → List ℕ
    → List ℕ → CSessionNext → Type 0
CardHappens c event octets now burst old new out out_after next =
    CardProceeds c (stepped event (ruled old.state.line.rules) (seen old.state.line.progress) burst octets now
    (take old.state.own out)) old.state.line.rules now old new out out_after next

pub record CardSessionStepped (event : ℕ) (octets : List ℕ) (now : ℕ) (old new : Lent CCardSession)
    (out out_after : List ℕ) (next : CSessionNext) : Type 0 where
  pub room : length out < 258 → IsLeft no_room old new out out_after next
  pub none : 258 ≤ length out → ((c : CardState) → IsCardEnd old c → ⊥) → IsLeft (done 32 0) old new out out_after next
  pub called : 258 ≤ length out → (c : CardState) → IsCardEnd old c → (burst : List ℕ)
      → HasHeard old.state.line.framer burst → CardHappens c event octets now burst old new out out_after next
  pub blank : IsBlankEnd old → IsBlankEnd new

-- a card begins to serve its terminal, or goes on
pub record CardServes (now : ℕ) (burst : List ℕ) (old new : CCardSession) (next : CSessionNext) : Type 0 where
  pub action : Action
  pub line : IsSent (serves (ruled old.line.rules) (first_of old.line forever) burst now) old.line.rules 0 new.line
      action
  pub card : new.card ≡ old.card
  pub own : new.own ≡ 0
  pub granted : new.granted ≡ old.granted
  pub takes_short : new.host_takes_short ≡ old.host_takes_short
  pub next_is : next ≡ acted action

pub record CardSessionServes (now : ℕ) (command reply : List ℕ) (old new : CCardSession) (next : CSessionNext) :
    Type 0 where
  pub none : ((c : CardState) → IsCard old.card command reply c → ⊥) → (new ≡ old) × (next ≡ done 32 0)
  pub called : (c : CardState) → IsCard old.card command reply c → (burst : List ℕ)
      → HasHeard old.line.framer burst → CardServes now burst old new next
