-- The turn Answered leaves an answer, and Asked the host's turn.
use Rattle.std.proofs.Common.{◌≡◌, ℕ, ◌+◌, List, ◌++◌, length, refl, subst}
use Rattle.std.specs.Prelude.{Bool, true, false, ◌&&◌, ◌==◌, nat_lt, nat_le, Option, Some, None, Ok, Err}
use Rattle.octet_core.proofs.Choice.{either}
use Rattle.block_core.specs.Block.{Parts}
use Rattle.block_core.specs.declared.pcb.S.TheVariants.{Resynch, Ifs, Abort, Wtx}
use Rattle.block_core.specs.declared.pcb.Pcb.TheVariants.{Info, Ready, Request, Response}
use Rattle.t1_core.specs.declared.turns.TerminalTurn.{TerminalTurn}
use Rattle.t1_core.specs.declared.turns.TerminalTurn.TheVariants.{Answered}
use Rattle.t1_core.specs.declared.turns.CardTurn.{CardTurn}
use Rattle.t1_core.specs.declared.turns.CardTurn.TheVariants.{Asked}
use Rattle.block_core.specs.Block.{other}
use Rattle.t1_core.specs.Came.{Came, got, damaged, invalid, quiet, same, carried}
use Rattle.t1_core.specs.Terminal.{TerminalState, TerminalStep, fails, joins, in_exchange, terminal_came, terminal_turn, TerminalInput, transmit, ask_ifs, takes, if_idle, is_reserved, Waits, idle, ack, answer, more, ifs, resynch, dead, most_repeats, most_resynchs}
use Rattle.t1_core.specs.Card.{CardState, CardStep, Waits as CardWaits, command, host, reply, asking, size, time, joins as card_joins, sends_saved, card_came, CardInput, replies, more_time, ask_ifs as card_ask_ifs, takes as card_takes, card_turn, if_host}
use Rattle.t1_core.specs.Promises.{Tells}
use Rattle.t1_core.specs.Link.{tables}

abbrev Says : TerminalTurn → Option (List ℕ) → Type 0
Says Answered None = ⊥
Says turn octets = Unit {0}

abbrev Tell : TerminalStep → Type 0
Tell (Ok step) = Says step.0 step.1.answered
Tell (Err fault) = Unit {0}

failing : (t : TerminalState) (b : Parts) → Tell (fails t b)
failing t b = either Tell (nat_lt t.failures most_repeats) _ _ tt tt

joining : (t : TerminalState) (joined : List ℕ) (goes_on : Bool) → Tell (joins t joined goes_on)
joining t joined true = tt
joining t joined false = tt

exchanging : (t : TerminalState) (came : Came) → Tell (in_exchange t came)
exchanging t (got (Request Ifs) inf) = tt
exchanging t (got (Request Wtx) inf) = tt
exchanging t (got (Request Resynch) inf) = failing t _
exchanging t (got (Request Abort) inf) = failing t _
exchanging t (got (Info number goes_on) inf) = failing t _
exchanging t (got (Ready number fault) inf) = failing t _
exchanging t (got (Response kind) inf) = failing t _
exchanging t damaged = failing t _
exchanging t invalid = failing t _
exchanging t quiet = failing t _

going : (t : TerminalState) (w : Waits) (came : Came) → Tell (terminal_came t w came)
going t idle came = tt
going t dead came = tt
going t (resynch asked) (got (Response Resynch) inf) = tt
going t (resynch asked) (got (Response Ifs) inf) = either Tell (nat_lt asked most_resynchs) _ _ tt tt
going t (resynch asked) (got (Response Abort) inf) = either Tell (nat_lt asked most_resynchs) _ _ tt tt
going t (resynch asked) (got (Response Wtx) inf) = either Tell (nat_lt asked most_resynchs) _ _ tt tt
going t (resynch asked) (got (Request kind) inf) = either Tell (nat_lt asked most_resynchs) _ _ tt tt
going t (resynch asked) (got (Info number goes_on) inf) = either Tell (nat_lt asked most_resynchs) _ _ tt tt
going t (resynch asked) (got (Ready number fault) inf) = either Tell (nat_lt asked most_resynchs) _ _ tt tt
going t (resynch asked) damaged = either Tell (nat_lt asked most_resynchs) _ _ tt tt
going t (resynch asked) invalid = either Tell (nat_lt asked most_resynchs) _ _ tt tt
going t (resynch asked) quiet = either Tell (nat_lt asked most_resynchs) _ _ tt tt
going t (ack field rest) (got (Ready number fault) inf) = either Tell (same number t.number) _ _ (failing t _) tt
going t (ack field rest) (got (Info number goes_on) inf) = exchanging t (got (Info number goes_on) inf)
going t (ack field rest) (got (Request kind) inf) = exchanging t (got (Request kind) inf)
going t (ack field rest) (got (Response kind) inf) = exchanging t (got (Response kind) inf)
going t (ack field rest) damaged = exchanging t damaged
going t (ack field rest) invalid = exchanging t invalid
going t (ack field rest) quiet = exchanging t quiet
going t (answer field) (got (Ready number fault) inf) =
    either Tell (same number t.number) _ _ (failing t _) (failing t _)
going t (answer field) (got (Info number goes_on) inf) =
    either Tell (same number t.expected && nat_le (length inf) t.limits.answer) _ _
    (joining (record t { number = other t.number }) inf goes_on) (exchanging t (got (Info number goes_on) inf))
going t (answer field) (got (Request kind) inf) = exchanging t (got (Request kind) inf)
going t (answer field) (got (Response kind) inf) = exchanging t (got (Response kind) inf)
going t (answer field) damaged = exchanging t damaged
going t (answer field) invalid = exchanging t invalid
going t (answer field) quiet = exchanging t quiet
going t (more joined) (got (Ready number fault) inf) = failing t _
going t (more joined) (got (Info number goes_on) inf) =
    either Tell (same number t.expected && nat_le (length joined + length inf) t.limits.answer) _ _
    (joining t (joined ++ inf) goes_on) (exchanging t (got (Info number goes_on) inf))
going t (more joined) (got (Request kind) inf) = exchanging t (got (Request kind) inf)
going t (more joined) (got (Response kind) inf) = exchanging t (got (Response kind) inf)
going t (more joined) damaged = exchanging t damaged
going t (more joined) invalid = exchanging t invalid
going t (more joined) quiet = exchanging t quiet
going t (ifs v) (got (Response Ifs) inf) = either Tell (carried inf == v) _ _ tt (failing t _)
going t (ifs v) (got (Response Resynch) inf) = failing t _
going t (ifs v) (got (Response Abort) inf) = failing t _
going t (ifs v) (got (Response Wtx) inf) = failing t _
going t (ifs v) (got (Request kind) inf) = failing t _
going t (ifs v) (got (Info number goes_on) inf) = failing t _
going t (ifs v) (got (Ready number fault) inf) = failing t _
going t (ifs v) damaged = failing t _
going t (ifs v) invalid = failing t _
going t (ifs v) quiet = failing t _

calling : (w : Waits) (step : TerminalStep) → Tell step → Tell (if_idle w step)
calling idle step h = h
calling dead step h = tt
calling (ack field rest) step h = tt
calling (answer field) step h = tt
calling (more joined) step h = tt
calling (ifs n) step h = tt
calling (resynch asked) step h = tt

turning : (t : TerminalState) (input : TerminalInput) → Tell (terminal_turn t input)
turning t (transmit m) = calling t.waits _ (either Tell (nat_le (length m) t.limits.command) _ _ tt tt)
turning t (ask_ifs n) = calling t.waits _ (either Tell (is_reserved n) _ _ tt tt)
turning t (takes came) = going t t.waits came

an_answer : (a : Option (List ℕ)) → Says Answered a → (octets : List ℕ) × (a ≡ Some octets)
an_answer None h = absurd h
an_answer (Some octets) h = (octets, refl)

-- ---- the card

abbrev CardSays : CardTurn → CardWaits → Type 0
CardSays Asked host = Unit {0}
CardSays Asked waits = ⊥
CardSays turn waits = Unit {0}

abbrev CardTell : CardStep → Type 0
CardTell (Ok step) = CardSays step.0 step.1.waits
CardTell (Err fault) = Unit {0}

card_joining : (c : CardState) (joined : List ℕ) (goes_on : Bool) → CardTell (card_joins c joined goes_on)
card_joining c joined true = tt
card_joining c joined false = tt

saved_again : (c : CardState) (saved : Option (List ℕ)) (x : Bool) → CardTell (sends_saved c saved x)
saved_again c None true = tt
saved_again c None false = tt
saved_again c (Some field) true = tt
saved_again c (Some field) false = tt

card_going : (c : CardState) (w : CardWaits) (came : Came) → CardTell (card_came c w came)
card_going c host came = tt
card_going c (command joined) (got (Info number goes_on) inf) =
    either CardTell (same number c.expected && nat_le (length joined + length inf) c.limits.command) _ _
    (card_joining c (joined ++ inf) goes_on) tt
card_going c (command joined) (got (Ready number fault) inf) = saved_again c c.saved (same number c.number)
card_going c (command joined) (got (Request Resynch) inf) = tt
card_going c (command joined) (got (Request Ifs) inf) = tt
card_going c (command joined) (got (Request Abort) inf) = tt
card_going c (command joined) (got (Request Wtx) inf) = tt
card_going c (command joined) (got (Response Resynch) inf) = tt
card_going c (command joined) (got (Response Ifs) inf) = tt
card_going c (command joined) (got (Response Abort) inf) = tt
card_going c (command joined) (got (Response Wtx) inf) = tt
card_going c (command joined) damaged = tt
card_going c (command joined) invalid = tt
card_going c (command joined) quiet = tt
card_going c (reply field rest) (got (Info number goes_on) inf) = tt
card_going c (reply field rest) (got (Ready number fault) inf) = either CardTell (same number c.number) _ _ tt tt
card_going c (reply field rest) (got (Request Resynch) inf) = tt
card_going c (reply field rest) (got (Request Ifs) inf) = tt
card_going c (reply field rest) (got (Request Abort) inf) = tt
card_going c (reply field rest) (got (Request Wtx) inf) = tt
card_going c (reply field rest) (got (Response Resynch) inf) = tt
card_going c (reply field rest) (got (Response Ifs) inf) = tt
card_going c (reply field rest) (got (Response Abort) inf) = tt
card_going c (reply field rest) (got (Response Wtx) inf) = tt
card_going c (reply field rest) damaged = tt
card_going c (reply field rest) invalid = tt
card_going c (reply field rest) quiet = tt
card_going c (asking (size n)) (got (Info number goes_on) inf) = tt
card_going c (asking (size n)) (got (Ready number fault) inf) = tt
card_going c (asking (size n)) (got (Request Resynch) inf) = tt
card_going c (asking (size n)) (got (Request Ifs) inf) = tt
card_going c (asking (size n)) (got (Request Abort) inf) = tt
card_going c (asking (size n)) (got (Request Wtx) inf) = tt
card_going c (asking (size n)) (got (Response Resynch) inf) = tt
card_going c (asking (size n)) (got (Response Ifs) inf) = either CardTell (carried inf == n) _ _ tt tt
card_going c (asking (size n)) (got (Response Abort) inf) = tt
card_going c (asking (size n)) (got (Response Wtx) inf) = tt
card_going c (asking (size n)) damaged = tt
card_going c (asking (size n)) invalid = tt
card_going c (asking (size n)) quiet = tt
card_going c (asking (time n)) (got (Info number goes_on) inf) = tt
card_going c (asking (time n)) (got (Ready number fault) inf) = tt
card_going c (asking (time n)) (got (Request Resynch) inf) = tt
card_going c (asking (time n)) (got (Request Ifs) inf) = tt
card_going c (asking (time n)) (got (Request Abort) inf) = tt
card_going c (asking (time n)) (got (Request Wtx) inf) = tt
card_going c (asking (time n)) (got (Response Resynch) inf) = tt
card_going c (asking (time n)) (got (Response Ifs) inf) = tt
card_going c (asking (time n)) (got (Response Abort) inf) = tt
card_going c (asking (time n)) (got (Response Wtx) inf) = either CardTell (carried inf == n) _ _ tt tt
card_going c (asking (time n)) damaged = tt
card_going c (asking (time n)) invalid = tt
card_going c (asking (time n)) quiet = tt

in_turn : (w : CardWaits) (step : CardStep) → CardTell step → CardTell (if_host w step)
in_turn host step h = h
in_turn (command joined) step h = tt
in_turn (reply field rest) step h = tt
in_turn (asking q) step h = tt

card_turning : (c : CardState) (input : CardInput) → CardTell (card_turn c input)
card_turning c (replies octets) = in_turn c.waits _ (either CardTell (nat_le (length octets) c.limits.answer) _ _ tt tt)
card_turning c (more_time n) = in_turn c.waits _ tt
card_turning c (card_ask_ifs n) = in_turn c.waits _ (either CardTell (is_reserved n) _ _ tt tt)
card_turning c (card_takes came) = card_going c c.waits came

its_turn : (w : CardWaits) → CardSays Asked w → w ≡ host
its_turn host h = refl
its_turn (command joined) h = absurd h
its_turn (reply field rest) h = absurd h
its_turn (asking q) h = absurd h

-- a turn that tells of an answer leaves one, and a turn that asks the host leaves it its turn
pub tells : Tells tables
tells = record {
  answer = λ t next mark input e. an_answer next.answered (subst Tell e (turning t input));
  host = λ c next input e. its_turn next.waits (subst CardTell e (card_turning c input));
}
