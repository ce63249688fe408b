-- What a replayed end waits for before a line of the file.
use Rattle.std.specs.Prelude.{◌≡◌, ℕ, ◌+◌, ◌-◌, List, [], ◌∷◌, Option, Some, None, Result, Ok, Err, take}
use Rattle.t1_core.specs.Awaited.{awaited_by_terminal, awaited_by_card}
use Rattle.t1_core.specs.Terminal.{TerminalState, new_terminal}
use Rattle.t1_core.specs.Card.{CardState, new_card}
use Rattle.exchange_text.specs.declared.line.Line.{Line}
use Rattle.exchange_core.specs.Replay.{End, replay_line, terminal_end, card_end, IsFound}
use Rattle.block_core.specs.declared.side.Side.{Side}
use Rattle.block_core.specs.declared.side.Side.TheVariants.{Terminal, Card}
use Rattle.exchange_core.specs.declared.waiting.Awaits.{Awaits}
use Rattle.exchange_core.specs.declared.waiting.Awaits.TheVariants as awaits
use Rattle.exchange_core.specs.declared.waiting.Call.{Call}
use Rattle.exchange_core.specs.declared.waiting.Waiting.{Waiting}

-- what each end waits for in a state
abbrev pub terminal_awaits : TerminalState → Awaits
terminal_awaits t = awaits.Terminal (awaited_by_terminal t.waits)

abbrev pub card_awaits : CardState → Awaits
card_awaits c = awaits.Card (awaited_by_card c.waits)

-- The last call after a line. The line is a call if no turn was pending before it, and one is after it. Else the last
-- call stays.
abbrev pub call_after : {T : Type 0} → ℕ → Awaits → Option T → Option T → Option Call → Option Call
call_after number waited None (Some turn) call = Some (record { line = number; awaits = waited })
call_after number waited pending after call = call

abbrev pub onwards : {A : Type 0} → (A → Option Waiting) → Result A (List ℕ) → Option Waiting
onwards next (Ok after) = next after
onwards next (Err text) = None

-- What an end waits for after lines, and its last call. None if the end gives something else at a line.
abbrev pub waiting_from : {S T : Type 0} → End S T → (S → Awaits) → List Line → ℕ → S → Option T → Option Call
    → Option Waiting
waiting_from end waits [] number s pending call = Some (record { now = waits s; call = call })
waiting_from end waits (line ∷ lines) number s pending call =
    onwards (λ after. waiting_from end waits lines (number + 1) after.0 after.1
    (call_after number (waits s) pending after.1 call)) (replay_line end s pending line)

-- a new end of this side after these lines, which begin at line 3
abbrev pub waiting_after : ℕ → List Line → Side → Option Waiting
waiting_after ifsc lines Terminal = waiting_from terminal_end terminal_awaits lines 3 (new_terminal ifsc) None None
waiting_after ifsc lines Card = waiting_from card_end card_awaits lines 3 (new_card ifsc) None None

-- what an end waits for after the lines before the line with this number
abbrev pub waiting_before : Result ℕ (List ℕ) → List Line → Side → ℕ → Option Waiting
waiting_before (Ok ifsc) lines side line = waiting_after ifsc (take (line - 3) lines) side
waiting_before (Err name) lines side line = None

-- What an end waits for before a line, with the parameters of the answer to reset, if it has any.
pub record IsWaiting (atr : List ℕ) (lines : List Line) (side : Side) (line : ℕ) (waiting : Option Waiting) : Type 0
  where
    pub found : Result ℕ (List ℕ)
    pub is_found : IsFound atr found
    pub is : waiting ≡ waiting_before found lines side line
