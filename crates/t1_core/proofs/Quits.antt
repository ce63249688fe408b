-- The terminal gives up only while it asks for RESYNCH.
use Rattle.std.proofs.Common.{true≢false, ◌≡◌, ℕ, ◌+◌, List, ◌++◌, length, refl, sym, ap, ◌∙◌}
use Rattle.std.specs.Prelude.{Result, Bool, true, false, ◌&&◌, ◌==◌, nat_lt, nat_le, if◌then◌else◌, Ok, Err}
use Rattle.block_core.specs.Block.{Parts}
use Rattle.block_core.specs.declared.pcb.S.TheVariants.{Resynch, Ifs, Abort, Wtx}
use Rattle.block_core.specs.declared.pcb.Pcb.TheVariants.{Info, Ready, Request, Response}
use Rattle.t1_core.specs.declared.turns.TerminalTurn.{TerminalTurn}
use Rattle.t1_core.specs.declared.turns.TerminalTurn.TheVariants.{Send, Answered, IfsSet, GivenUp, Dead}
use Rattle.block_core.specs.Block.{other}
use Rattle.t1_core.specs.Came.{Came, got, damaged, invalid, quiet, same, carried}
use Rattle.t1_core.specs.Terminal.{TerminalState, turn_of, TerminalStep, fails, joins, in_exchange, terminal_came, terminal_turn, TerminalInput, transmit, ask_ifs, takes, if_idle, is_reserved, Waits, idle, ack, answer, more, ifs, resynch, dead, most_repeats}
use Rattle.t1_core.specs.declared.turns.TerminalFault.{TerminalFault}

abbrev is_given_up : TerminalTurn → Bool
is_given_up (Send block) = false
is_given_up Answered = false
is_given_up IfsSet = false
is_given_up GivenUp = true
is_given_up Dead = false

abbrev gives_up : Result TerminalTurn TerminalFault → Bool
gives_up (Ok turn) = is_given_up turn
gives_up (Err fault) = false

-- whether the terminal waits for the answer to RESYNCH
abbrev pub is_resynch : Waits → Bool
is_resynch (resynch asked) = true
is_resynch waits = false

abbrev GoesOn : TerminalStep → Type 0
GoesOn step = gives_up (turn_of step) ≡ false

either : (x : Bool) (a b : TerminalStep) → GoesOn a → GoesOn b → GoesOn (if x then a else b)
either true a b p q = p
either false a b p q = q

failing : (t : TerminalState) (b : Parts) → GoesOn (fails t b)
failing t b = either (nat_lt t.failures most_repeats) _ _ refl refl

joining : (t : TerminalState) (joined : List ℕ) (goes_on : Bool) → GoesOn (joins t joined goes_on)
joining t joined true = refl
joining t joined false = refl

exchanging : (t : TerminalState) (came : Came) → GoesOn (in_exchange t came)
exchanging t (got (Request Ifs) inf) = refl
exchanging t (got (Request Wtx) inf) = refl
exchanging t (got (Request Resynch) inf) = failing t _
exchanging t (got (Request Abort) inf) = failing t _
exchanging t (got (Info number goes_on) inf) = failing t _
exchanging t (got (Ready number fault) inf) = failing t _
exchanging t (got (Response kind) inf) = failing t _
exchanging t damaged = failing t _
exchanging t invalid = failing t _
exchanging t quiet = failing t _

going : (t : TerminalState) (w : Waits) (came : Came) → is_resynch w ≡ false → GoesOn (terminal_came t w came)
going t idle came e = refl
going t dead came e = refl
going t (resynch asked) came e = absurd (true≢false e)
going t (ack field rest) (got (Ready number fault) inf) e = either (same number t.number) _ _ (failing t _) refl
going t (ack field rest) (got (Info number goes_on) inf) e = exchanging t (got (Info number goes_on) inf)
going t (ack field rest) (got (Request kind) inf) e = exchanging t (got (Request kind) inf)
going t (ack field rest) (got (Response kind) inf) e = exchanging t (got (Response kind) inf)
going t (ack field rest) damaged e = exchanging t damaged
going t (ack field rest) invalid e = exchanging t invalid
going t (ack field rest) quiet e = exchanging t quiet
going t (answer field) (got (Ready number fault) inf) e = either (same number t.number) _ _ (failing t _) (failing t _)
going t (answer field) (got (Info number goes_on) inf) e =
    either (same number t.expected && nat_le (length inf) t.limits.answer) _ _
    (joining (record t { number = other t.number }) inf goes_on) (exchanging t (got (Info number goes_on) inf))
going t (answer field) (got (Request kind) inf) e = exchanging t (got (Request kind) inf)
going t (answer field) (got (Response kind) inf) e = exchanging t (got (Response kind) inf)
going t (answer field) damaged e = exchanging t damaged
going t (answer field) invalid e = exchanging t invalid
going t (answer field) quiet e = exchanging t quiet
going t (more joined) (got (Ready number fault) inf) e = failing t _
going t (more joined) (got (Info number goes_on) inf) e =
    either (same number t.expected && nat_le (length joined + length inf) t.limits.answer) _ _
    (joining t (joined ++ inf) goes_on) (exchanging t (got (Info number goes_on) inf))
going t (more joined) (got (Request kind) inf) e = exchanging t (got (Request kind) inf)
going t (more joined) (got (Response kind) inf) e = exchanging t (got (Response kind) inf)
going t (more joined) damaged e = exchanging t damaged
going t (more joined) invalid e = exchanging t invalid
going t (more joined) quiet e = exchanging t quiet
going t (ifs size) (got (Response Ifs) inf) e = either (carried inf == size) _ _ refl (failing t _)
going t (ifs size) (got (Response Resynch) inf) e = failing t _
going t (ifs size) (got (Response Abort) inf) e = failing t _
going t (ifs size) (got (Response Wtx) inf) e = failing t _
going t (ifs size) (got (Request kind) inf) e = failing t _
going t (ifs size) (got (Info number goes_on) inf) e = failing t _
going t (ifs size) (got (Ready number fault) inf) e = failing t _
going t (ifs size) damaged e = failing t _
going t (ifs size) invalid e = failing t _
going t (ifs size) quiet e = failing t _

by_test : (x : Bool) → (x ≡ false → ⊥) → x ≡ true
by_test true h = refl
by_test false h = absurd (h refl)

calling : (w : Waits) (step : TerminalStep) → GoesOn step → GoesOn (if_idle w step)
calling idle step h = h
calling dead step h = refl
calling (ack field rest) step h = refl
calling (answer field) step h = refl
calling (more joined) step h = refl
calling (ifs n) step h = refl
calling (resynch asked) step h = refl

turning : (t : TerminalState) (input : TerminalInput) → is_resynch t.waits ≡ false → GoesOn (terminal_turn t input)
turning t (transmit m) e = calling t.waits _ (either (nat_le (length m) t.limits.command) _ _ refl refl)
turning t (ask_ifs n) e = calling t.waits _ (either (is_reserved n) _ _ refl refl)
turning t (takes came) e = going t t.waits came e

-- a terminal that gives up has asked for RESYNCH
pub gives_up-resynch : (t : TerminalState) (input : TerminalInput) → turn_of (terminal_turn t input) ≡ Ok GivenUp
    → is_resynch t.waits ≡ true
gives_up-resynch t input e = by_test (is_resynch t.waits) (λ h. true≢false (sym (ap gives_up e) ∙ turning t input h))
