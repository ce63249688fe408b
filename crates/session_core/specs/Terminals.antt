-- The session of a terminal: its line, and the terminal of T=1 above it. The clauses are those of ISO/IEC 7816-3:2006.
use Rattle.std.specs.Prelude.{◌≡◌, ℕ, ◌*◌, List, take, Result, Ok, Err}
use Rattle.t1_core.specs.Came.{class_of, quiet}
use Rattle.t1_core.specs.Terminal.{TerminalState, TerminalInput, takes, terminal_turn, turn_of, state_after, resynch}
use Rattle.t1_core.specs.Put.{IsTerminalPut}
use Rattle.t1_core.specs.declared.turns.EncodedTerminalTurn.{EncodedTerminalTurn}
use Rattle.t1_core.specs.declared.turns.EncodedTerminalTurn.TheVariants as turn
use Rattle.t1_core.specs.declared.turns.TerminalFault.{TerminalFault}
use Rattle.line_core.specs.Bursts.{handed}
use Rattle.session_core.specs.declared.event.Next.{Next}
use Rattle.session_core.specs.declared.event.Next.TheVariants.{Heard, Quiet}
use Rattle.session_core.specs.declared.progress.Rules.{Rules}
use Rattle.session_core.specs.declared.lines.Line.{Line}
use Rattle.session_core.specs.declared.lines.Start.{Start}
use Rattle.session_core.specs.declared.lines.Start.TheVariants.{Talk}
use Rattle.session_core.specs.declared.setup.Limits.{Limits}
use Rattle.session_core.specs.declared.action.Action.{Action}
use Rattle.session_core.specs.declared.action.Action.TheVariants.{IfsSet, GivenUp, Dead}
use Rattle.session_core.specs.Wire.{Doing, Step, step_of, ruled, capped, handed_over}
use Rattle.session_core.specs.Lines.{IsMoved, started}
use Rattle.session_core.specs.Actions.{action_of, answered_with, count_of}

-- the limits that are in the rules
abbrev pub limits_in : Rules → Limits
limits_in rules = record { time = rules.most_time; blocks = rules.most_blocks }

abbrev pub limited : Rules → Limits → Rules
limited rules limits = record rules { most_time = limits.time; most_blocks = limits.blocks }

-- the line did nothing
abbrev pub IsStill : Rules → Doing → List ℕ → Line → Type 0
IsStill rules p burst line = IsMoved (step_of p burst Quiet) rules line

-- The end begins to send a block within these limits. Then it waits so many block waiting times (11.4.3).
abbrev pub sending : Start → Limits → Rules → Doing → List ℕ → ℕ → ℕ → Step
sending start limits rules p burst waiting now =
    started start (ruled (limited rules limits)) (record p { first = capped (rules.bwt * waiting) }) burst now

pub record IsSent (step : Step) (rules : Rules) (count : ℕ) (line : Line) (action : Action) : Type 0 where
  pub moved : IsMoved step rules line
  pub action_is : action ≡ action_of step.next count

-- the session after a turn that sends nothing
pub record IsOver (rules : Rules) (p : Doing) (burst : List ℕ) (line : Line) (own own_after : ℕ)
    (action wanted : Action) : Type 0 where
  pub still : IsStill rules p burst line
  pub own_is : own_after ≡ own
  pub action_is : action ≡ wanted

-- The session after a turn of its terminal, whose answer has so many octets. If the turn sends a block, that is the
-- session's own block from then on.
abbrev pub IsTurned : EncodedTerminalTurn → ℕ → Start → Limits → Rules → Doing → List ℕ → ℕ → Line → ℕ → ℕ → Action
    → Type 0
IsTurned (turn.Send count waiting) answer start limits rules p burst now line own own_after action =
    (own_after ≡ count)
    × IsSent (sending start limits rules p burst waiting now) (limited rules limits) count line action
IsTurned turn.Answered answer start limits rules p burst now line own own_after action =
    IsOver rules p burst line own own_after action (answered_with answer)
IsTurned turn.IfsSet answer start limits rules p burst now line own own_after action =
    IsOver rules p burst line own own_after action IfsSet
IsTurned turn.GivenUp answer start limits rules p burst now line own own_after action =
    IsOver rules p burst line own own_after action GivenUp
IsTurned turn.Dead answer start limits rules p burst now line own own_after action =
    IsOver rules p burst line own own_after action Dead

-- the same for a turn that may be refused
abbrev pub AfterTurn : Result EncodedTerminalTurn TerminalFault → ℕ → Start → Limits → Rules → Doing → List ℕ → ℕ
    → Line → ℕ → ℕ → Result Action TerminalFault → Type 0
AfterTurn (Ok turn) answer start limits rules p burst now line own own_after result =
    (action : Action) × (result ≡ Ok action)
    × IsTurned turn answer start limits rules p burst now line own own_after action
AfterTurn (Err fault) answer start limits rules p burst now line own own_after result =
    (result ≡ Err fault) × IsStill rules p burst line × (own_after ≡ own)

-- The terminal takes an input, and the session does what its turn says.
pub record TurnsTo (t : TerminalState) (input : TerminalInput) (start : Start) (limits : Limits) (rules : Rules)
    (p : Doing) (burst : List ℕ) (now : ℕ) (t_after : TerminalState) (line : Line) (own own_after : ℕ)
    (out out_after : List ℕ) (result : Result Action TerminalFault) : Type 0 where
  pub acted : Result EncodedTerminalTurn TerminalFault
  pub put : IsTerminalPut (turn_of (terminal_turn t input)) out out_after acted
  pub state : t_after ≡ state_after t (terminal_turn t input)
  pub after : AfterTurn acted (count_of t_after.answered) start limits rules p burst now line own own_after result

-- what the terminal gets from a step of its line that ends a burst
abbrev pub heard_in : TerminalState → Step → TerminalInput
heard_in t step = takes (class_of t.ifsd (take handed (handed_over step.progress.is_spoiled step.burst)))

-- The line said what is next. The terminal takes a burst, or that none came; otherwise it isn't asked.
abbrev pub IsStepped : Next → Step → Rules → TerminalState → ℕ → TerminalState → Line → ℕ → ℕ → List ℕ → List ℕ
    → Result Action TerminalFault → Type 0
IsStepped Heard step rules t now t_after line own own_after out out_after result =
    TurnsTo t (heard_in t step) Talk (limits_in rules) rules step.progress
    (handed_over step.progress.is_spoiled step.burst) now t_after line own own_after out out_after result
IsStepped Quiet step rules t now t_after line own own_after out out_after result =
    TurnsTo t (takes quiet) Talk (limits_in rules) rules step.progress step.burst now t_after line own own_after out
    out_after result
IsStepped next step rules t now t_after line own own_after out out_after result =
    IsMoved step rules line × (t_after ≡ t) × (own_after ≡ own) × (out_after ≡ out)
    × (result ≡ Ok (action_of next own))

-- A terminal that is about to ask for RESYNCH for the first time. Nothing came, so it asks (11.6.3.2).
abbrev pub asking_resynch : TerminalState → TerminalState
asking_resynch t = record t { waits = resynch 0 }
