-- How long the terminal waits after a turn (ISO/IEC 7816-3, clause 11.4).
use Rattle.std.specs.Prelude.{ℕ, ◌==◌, List, [], ◌∷◌, if◌then◌else◌}
use Rattle.block_core.specs.declared.pcb.S.TheVariants.{Wtx}
use Rattle.block_core.specs.declared.pcb.Pcb.{Pcb}
use Rattle.block_core.specs.declared.pcb.Pcb.TheVariants.{Response}
use Rattle.t1_core.specs.declared.turns.TerminalTurn.{TerminalTurn}
use Rattle.t1_core.specs.declared.turns.TerminalTurn.TheVariants.{Send}

-- The multiple of the waiting time that a response grants; 0 counts as 1.
abbrev pub granted : Pcb → List ℕ → ℕ
granted (Response Wtx) (multiple ∷ []) = if multiple == 0 then 1 else multiple
granted pcb inf = 1

-- how many block waiting times
abbrev pub waiting_times : TerminalTurn → ℕ
waiting_times (Send block) = granted block.pcb block.inf
waiting_times turn = 1
