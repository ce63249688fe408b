-- What a loop over the steps of a terminal's session does: each action becomes a call of the device, and its result is
-- the next event.
use Rattle.std.specs.Prelude.{◌≡◌, ℕ, ◌+◌, List, [], ◌∷◌, ◌++◌, take, min, true, Ok, Err}
use Rattle.t1_core.specs.Came.{quiet}
use Rattle.t1_core.specs.Terminal.{TerminalState, TerminalInput, transmit, ask_ifs, takes, terminal_turn, turn_of}
use Rattle.t1_core.specs.declared.turns.TerminalFault.{TerminalFault}
use Rattle.line_core.specs.Timed.{Sound, Sounds, came, deaf, said, unsaid}
use Rattle.line_core.specs.Bursts.{HasHeard}
use Rattle.session_core.specs.declared.lines.Line.{Line}
use Rattle.session_core.specs.declared.lines.Start.{Start}
use Rattle.session_core.specs.declared.lines.Start.TheVariants.{Clear, Exchange}
use Rattle.session_core.specs.declared.setup.Limits.{Limits}
use Rattle.session_core.specs.declared.action.Action.{Action}
use Rattle.session_core.specs.declared.action.Action.TheVariants as action
use Rattle.session_core.specs.Wire.{Step, forever, ruled, seen}
use Rattle.session_core.specs.Lines.{stepped}
use Rattle.session_core.specs.Setup.{no_limits}
use Rattle.session_core.specs.Terminals.{IsStepped, TurnsTo}
use Rattle.session_laws.specs.Ending.{goes}
use Rattle.session_laws.specs.Talking.{Spoken, spoken_in}

-- a session before its next action
pub record Standing : Type 0 where
  pub terminal : TerminalState
  pub line : Line
  pub own : ℕ
  pub out : List ℕ
  pub next : Action

-- the number of the event that a call of the device is (the numbers are those of `stepped`)
abbrev pub event_of : Sound → ℕ
event_of (came limit []) = 3
event_of (came limit (octet ∷ octets)) = 1
event_of (deaf limit fault) = 4
event_of (said octets) = 0
event_of (unsaid octets fault) = 4

-- the octets that came
abbrev pub octets_of : Sound → List ℕ
octets_of (came limit octets) = octets
octets_of (deaf limit fault) = []
octets_of (said octets) = []
octets_of (unsaid octets fault) = []

-- how many blocks the device was to send in these calls
abbrev pub sent_in : List Sound → ℕ
sent_in [] = 0
sent_in (said octets ∷ sounds) = 1 + sent_in sounds
sent_in (unsaid octets fault ∷ sounds) = 1 + sent_in sounds
sent_in (came limit octets ∷ sounds) = sent_in sounds
sent_in (deaf limit fault ∷ sounds) = sent_in sounds

-- how long the waits of these calls were together in which nothing came
abbrev pub silent_in : List Sound → ℕ
silent_in [] = 0
silent_in (came limit [] ∷ sounds) = limit + silent_in sounds
silent_in (came limit (octet ∷ octets) ∷ sounds) = silent_in sounds
silent_in (deaf limit fault ∷ sounds) = silent_in sounds
silent_in (said octets ∷ sounds) = silent_in sounds
silent_in (unsaid octets fault ∷ sounds) = silent_in sounds

-- The call is the one that the action asks for: the octets at the front of `out` are sent, or the device waits so long.
abbrev pub IsAsked : Action → List ℕ → Sound → Type 0
IsAsked (action.Send count) out (said octets) = octets ≡ take count out
IsAsked (action.Send count) out (unsaid octets fault) = octets ≡ take count out
IsAsked (action.Wait time) out (came limit octets) = limit ≡ time
IsAsked (action.Wait time) out (deaf limit fault) = limit ≡ time
IsAsked other out sound = ⊥

-- what the line makes of a call of the device
abbrev pub step_by : Standing → Sound → List ℕ → Step
step_by before sound burst = stepped (event_of sound) (ruled before.line.rules) (seen before.line.progress) burst
    (octets_of sound) 0 (take before.own before.out)

-- one turn of the loop: a call of the device, and the step of the session that follows from it
pub record IsTurn (before : Standing) (sound : Sound) (after : Standing) : Type 0 where
  pub asked : IsAsked before.next before.out sound
  pub goes_on : goes before.next ≡ true
  pub burst : List ℕ
  pub heard : HasHeard before.line.framer burst
  pub stepped_so : IsStepped (step_by before sound burst).next (step_by before sound burst) before.line.rules
      before.terminal 0 after.terminal after.line before.own after.own before.out after.out (Ok after.next)

-- the block that this turn ends, and what came after it
abbrev pub spoken_by : (before : Standing) (sound : Sound) (burst : List ℕ) → List Spoken
spoken_by before sound burst =
    spoken_in (step_by before sound burst).next (step_by before sound burst) (take before.own before.out)

-- the turns of the loop since it began, with the calls of the device and the talks in their order
pub data Turns (first : Standing) : List Sound → List Spoken → Standing → Type 0 where
  none : Turns first [] [] first
  more : (sounds : List Sound) (spoken : List Spoken) (before : Standing) (sound : Sound) (after : Standing)
      → Turns first sounds spoken before → (turn : IsTurn before sound after)
      → Turns first (sounds ++ sound ∷ []) (spoken ++ spoken_by before sound turn.burst) after

-- The calls of the device since the session was in the first state, as turns that lead to where it is. They sent so many
-- blocks, and waited so long in silences that were as long as asked for, or the greatest number.
pub record Gone {A : Type 0} (old new : A → List Sound → Type 0) (first : Standing) (spoken : List Spoken)
    (last : Standing) (blocks waited : ℕ) : Type 0 where
  pub sounds : List Sound
  pub adds : Sounds old new sounds
  pub turns : Turns first sounds spoken last
  pub blocks_are : blocks ≡ sent_in sounds
  pub waited_is : waited ≡ min (silent_in sounds) forever

-- How an application begins: the input of the terminal's table, how its first block is sent, and within which limits.
pub record Opening : Type 0 where
  pub input : TerminalInput
  pub start : Start
  pub limits : Limits

-- a command within these limits
abbrev pub command_within : List ℕ → Limits → Opening
command_within octets limits = record { input = transmit octets; start = Exchange; limits = limits }

-- a request for a size within these limits
abbrev pub size_within : ℕ → Limits → Opening
size_within size limits = record { input = ask_ifs size; start = Exchange; limits = limits }

-- RESYNCH at the beginning, of a terminal that is about to ask for it (11.6.3.2)
abbrev pub resynchronising : Opening
resynchronising = record { input = takes quiet; start = Clear; limits = no_limits }

-- the session began so
pub record IsBegun (terminal : TerminalState) (line : Line) (opening : Opening) (first : Standing) : Type 0 where
  pub out : List ℕ
  pub burst : List ℕ
  pub heard : HasHeard line.framer burst
  pub turns : TurnsTo terminal opening.input opening.start opening.limits line.rules (seen line.progress) burst 0
      first.terminal first.line 0 first.own out first.out (Ok first.next)

-- what the loop has done since it began
pub record Ran {A : Type 0} (old new : A → List Sound → Type 0) (terminal : TerminalState) (line : Line)
    (opening : Opening) (spoken : List Spoken) (last : Standing) (blocks waited : ℕ) : Type 0 where
  pub first : Standing
  pub begun : IsBegun terminal line opening first
  pub gone : Gone old new first spoken last blocks waited

abbrev pub standing : TerminalState → Line → ℕ → List ℕ → Action → Standing
standing terminal line own out next =
    record { terminal = terminal; line = line; own = own; out = out; next = next }

-- The terminal refused what came, after these calls of the device since it was in the first state.
pub data IsStopped (first : Standing) (fault : TerminalFault) : List Sound → Type 0 where
  burst_refused : (sounds : List Sound) (spoken : List Spoken) (before : Standing) (sound : Sound) (burst : List ℕ)
      (after : TerminalState) (line_after : Line) (own : ℕ) (out : List ℕ) → Turns first sounds spoken before
      → IsAsked before.next before.out sound → HasHeard before.line.framer burst
      → IsStepped (step_by before sound burst).next (step_by before sound burst) before.line.rules before.terminal 0
      after line_after before.own own before.out out (Err fault)
      → IsStopped first fault (sounds ++ sound ∷ [])

-- The terminal refused the call, or what came: after these calls of the device.
pub data IsRefused (terminal : TerminalState) (line : Line) (opening : Opening) (fault : TerminalFault)
    : List Sound → Type 0 where
  call_refused : turn_of (terminal_turn terminal opening.input) ≡ Err fault → IsRefused terminal line opening fault []
  stopped : (first : Standing) (sounds : List Sound) → IsBegun terminal line opening first
      → IsStopped first fault sounds → IsRefused terminal line opening fault sounds
