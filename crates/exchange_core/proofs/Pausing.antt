-- Between a command that was given up and the next one the card's host is asked about nothing.
use Rattle.std.proofs.Common.{◌≡◌, ◌+◌, ℕ, List, [], ◌∷◌, refl, Ok, Err}
use Rattle.std.specs.Prelude.{if◌then◌else◌, nat_lt, ◌==◌}
use Rattle.octet_core.proofs.Choice.{either}
use Rattle.block_core.specs.Block.{Parts}
use Rattle.block_core.specs.declared.pcb.S.TheVariants.{Resynch, Ifs, Abort, Wtx}
use Rattle.block_core.specs.declared.pcb.Pcb.{Pcb}
use Rattle.block_core.specs.declared.pcb.Pcb.TheVariants.{Info, Ready, Request, Response}
use Rattle.t1_core.specs.Came.{Came, got, damaged, invalid, quiet, carried, request}
use Rattle.t1_core.specs.Terminal.{Limits, TerminalState, TerminalStep, Waits, idle, ack, answer, more, ifs, resynch, dead, waiting, fails, terminal_came, most_repeats, most_resynchs, no_failure}
use Rattle.t1_core.specs.declared.turns.TerminalTurn.TheVariants.{Send, Dead}
use Rattle.t1_core.specs.Card.{Waits as CardWaits, command, host, reply, asking}
use Rattle.t1_core.specs.Link.{Link, UnderWay, nothing, to_card, to_terminal}
use Rattle.t1_core.proofs.Good.{Good, at_rest, size_asked, size_taken, size_doubted, asks_resynch, resynched, resynch_doubted, over, sends, sends_asked, sends_doubted, taken_asked, taken_told, served, size_wanted, size_given, size_missed, time_wanted, time_given, time_missed, replying, replies_asked, replies_doubted, joined_told, joined_doubted}
use Rattle.exchange_core.specs.Told.{Pauses}
use Rattle.exchange_core.proofs.Resting.{listens}

-- ---- the terminal pauses until the next command

abbrev pub PausingStep : TerminalStep → Type 0
PausingStep (Ok step) = Pauses step.1.waits
PausingStep (Err fault) = Unit {0}

failing : (t : TerminalState) (b : Parts) → Pauses t.waits → PausingStep (fails t b)
failing t b h = either PausingStep (nat_lt t.failures most_repeats) _ _ h tt

asking_again : (t : TerminalState) (asked : ℕ) (came : Came) → (terminal_came t (resynch asked) came
    ≡ (if nat_lt asked most_resynchs
    then Ok (Send (request Resynch []), record t { waits = resynch (asked + 1) }, no_failure)
    else Ok (Dead, record t { waits = dead }, no_failure))) → PausingStep (terminal_came t (resynch asked) came)
asking_again t asked came e = rw e (either PausingStep (nat_lt asked most_resynchs) _ _ tt tt)

-- whatever comes
pub pausing : (t : TerminalState) (w : Waits) (came : Came) → Pauses t.waits → Pauses w
    → PausingStep (terminal_came t w came)
pausing t idle came h k = tt
pausing t dead came h k = tt
pausing t (ack field rest) came h k = absurd k
pausing t (answer field) came h k = absurd k
pausing t (more joined) came h k = absurd k
pausing t (resynch asked) (got (Response Resynch) inf) h k = tt
pausing t (resynch asked) (got (Info number goes_on) inf) h k =
    asking_again t asked (got (Info number goes_on) inf) refl
pausing t (resynch asked) (got (Ready number fault) inf) h k = asking_again t asked (got (Ready number fault) inf) refl
pausing t (resynch asked) (got (Request kind) inf) h k = asking_again t asked (got (Request kind) inf) refl
pausing t (resynch asked) (got (Response Ifs) inf) h k = asking_again t asked (got (Response Ifs) inf) refl
pausing t (resynch asked) (got (Response Abort) inf) h k = asking_again t asked (got (Response Abort) inf) refl
pausing t (resynch asked) (got (Response Wtx) inf) h k = asking_again t asked (got (Response Wtx) inf) refl
pausing t (resynch asked) damaged h k = asking_again t asked damaged refl
pausing t (resynch asked) invalid h k = asking_again t asked invalid refl
pausing t (resynch asked) quiet h k = asking_again t asked quiet refl
pausing t (ifs size) (got (Response Ifs) inf) h k =
    either PausingStep (carried inf == size) _ _ tt (failing t (request Ifs (size ∷ [])) h)
pausing t (ifs size) (got (Info number goes_on) inf) h k = failing t (request Ifs (size ∷ [])) h
pausing t (ifs size) (got (Ready number fault) inf) h k = failing t (request Ifs (size ∷ [])) h
pausing t (ifs size) (got (Request kind) inf) h k = failing t (request Ifs (size ∷ [])) h
pausing t (ifs size) (got (Response Resynch) inf) h k = failing t (request Ifs (size ∷ [])) h
pausing t (ifs size) (got (Response Abort) inf) h k = failing t (request Ifs (size ∷ [])) h
pausing t (ifs size) (got (Response Wtx) inf) h k = failing t (request Ifs (size ∷ [])) h
pausing t (ifs size) damaged h k = failing t (request Ifs (size ∷ [])) h
pausing t (ifs size) invalid h k = failing t (request Ifs (size ∷ [])) h
pausing t (ifs size) quiet h k = failing t (request Ifs (size ∷ [])) h

-- ---- what the card may hear

-- The card isn't in the middle of a request of its host.
abbrev pub AsksNothing : CardWaits → Type 0
AsksNothing (command joined) = Unit {0}
AsksNothing host = Unit {0}
AsksNothing (reply field rest) = Unit {0}
AsksNothing (asking asked) = ⊥

-- where the terminal is idle
pub idle-asks : {P : Type 0} {kt kc : Limits} (l : Link) → Good P kt kc l → l.terminal.waits ≡ idle
    → AsksNothing l.card.waits
idle-asks _ (at_rest _ _) e = tt
idle-asks _ (size_asked _ _) e = tt
idle-asks _ (size_taken _ _) e = tt
idle-asks _ (size_doubted _ _) e = tt
idle-asks _ (asks_resynch w _ _ _) e = cc
idle-asks _ (resynched _ _) e = tt
idle-asks _ (resynch_doubted w pcb _ _ _ _) e = cc
idle-asks _ (over w _ _ _) e = cc
idle-asks _ (sends joined field rest _ _ _ _ _) e = tt
idle-asks _ (sends_asked joined field rest _ _ _ _ _) e = tt
idle-asks _ (sends_doubted joined field rest _ _ _ _ _) e = tt
idle-asks _ (taken_asked _ _ _ _) e = tt
idle-asks _ (taken_told _ _ _ _) e = tt
idle-asks _ (served _ _) e = tt
idle-asks _ (size_wanted _ _) e = cc
idle-asks _ (size_given _ _) e = cc
idle-asks _ (size_missed _ _) e = cc
idle-asks _ (time_wanted _ _) e = cc
idle-asks _ (time_given _ _) e = cc
idle-asks _ (time_missed _ _) e = cc
idle-asks _ (replying ear field rest _ _ _ _ _) e = absurd (listens ear e)
idle-asks _ (replies_asked ear field rest _ _ _ _ _) e = absurd (listens ear e)
idle-asks _ (replies_doubted ear field rest _ _ _ _ _) e = absurd (listens ear e)
idle-asks _ (joined_told _ _ _ _) e = cc
idle-asks _ (joined_doubted _ _ _ _) e = cc

-- A block of a command comes from a terminal that doesn't pause, RESYNCH from one that does.
abbrev pub Hears : Pcb → Waits → Type 0
Hears (Info number goes_on) w = Pauses w → ⊥
Hears (Ready number fault) w = Unit {0}
Hears (Request Resynch) w = Pauses w
Hears (Request Ifs) w = Unit {0}
Hears (Request Abort) w = Unit {0}
Hears (Request Wtx) w = Unit {0}
Hears (Response kind) w = Unit {0}

-- what holds of the block under way, whose node address is 0
abbrev pub WayHears : UnderWay → Waits → Type 0
WayHears nothing w = Unit {0}
WayHears (to_card block) w = (block.nad ≡ 0) × Hears block.pcb w
WayHears (to_terminal block) w = block.nad ≡ 0

no-pause : (field rest : List ℕ) → Pauses (waiting field rest) → ⊥
no-pause field [] h = h
no-pause field (x ∷ rest) h = h

pub way-hears : {P : Type 0} {kt kc : Limits} (l : Link) → Good P kt kc l → WayHears l.under_way l.terminal.waits
way-hears _ (at_rest _ _) = tt
way-hears _ (size_asked _ _) = (refl, tt)
way-hears _ (size_taken _ _) = refl
way-hears _ (size_doubted _ _) = refl
way-hears _ (asks_resynch w _ _ _) = (refl, tt)
way-hears _ (resynched _ _) = refl
way-hears _ (resynch_doubted w pcb _ _ _ _) = refl
way-hears _ (over w _ _ _) = tt
way-hears _ (sends joined field rest _ _ _ _ _) = (refl, no-pause field rest)
way-hears _ (sends_asked joined field rest _ _ _ _ _) = (refl, tt)
way-hears _ (sends_doubted joined field rest _ _ _ _ _) = refl
way-hears _ (taken_asked _ _ _ _) = (refl, tt)
way-hears _ (taken_told _ _ _ _) = refl
way-hears _ (served _ _) = tt
way-hears _ (size_wanted _ _) = refl
way-hears _ (size_given _ _) = (refl, tt)
way-hears _ (size_missed _ _) = (refl, tt)
way-hears _ (time_wanted _ _) = refl
way-hears _ (time_given _ _) = (refl, tt)
way-hears _ (time_missed _ _) = (refl, tt)
way-hears _ (replying ear field rest _ _ _ _ _) = refl
way-hears _ (replies_asked ear field rest _ _ _ _ _) = (refl, tt)
way-hears _ (replies_doubted ear field rest _ _ _ _ _) = refl
way-hears _ (joined_told _ _ _ _) = (refl, tt)
way-hears _ (joined_doubted _ _ _ _) = refl
