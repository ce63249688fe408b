-- Where the terminal takes a call, or the card's host has its turn, no block is under way.
use Rattle.std.proofs.Common.{◌≡◌, ℕ, List, [], ◌∷◌, refl, Ok}
use Rattle.t1_core.specs.Terminal.{Limits, TerminalState, TerminalStep, Mark, Waits, idle, ack, answer, more, ifs, resynch, dead, waiting, if_idle}
use Rattle.t1_core.specs.Card.{CardState, CardStep, Waits as CardWaits, host, command, reply, asking, if_host, waiting as card_waiting}
use Rattle.t1_core.specs.Link.{Link, nothing}
use Rattle.t1_core.specs.declared.turns.TerminalTurn.{TerminalTurn}
use Rattle.t1_core.specs.declared.turns.CardTurn.{CardTurn}
use Rattle.t1_core.proofs.Good.{Good, at_rest, size_asked, size_taken, size_doubted, asks_resynch, resynched, resynch_doubted, over, sends, sends_asked, sends_doubted, taken_asked, taken_told, served, size_wanted, size_given, size_missed, time_wanted, time_given, time_missed, replying, replies_asked, replies_doubted, joined_told, joined_doubted, NoHost, Ear, ear_waits, first, further}

pub busy : (field rest : List ℕ) → waiting field rest ≡ idle → ⊥
busy field [] e = cc
busy field (x ∷ rest) e = cc

pub listens : (ear : Ear) → ear_waits ear ≡ idle → ⊥
listens (first field) e = cc
listens (further joined) e = cc

-- where the terminal is idle, no block is under way
pub idle-rests : {P : Type 0} {kt kc : Limits} (l : Link) → Good P kt kc l → l.terminal.waits ≡ idle
    → l.under_way ≡ nothing
idle-rests _ (at_rest _ _) e = refl
idle-rests _ (size_asked _ _) e = cc
idle-rests _ (size_taken _ _) e = cc
idle-rests _ (size_doubted _ _) e = cc
idle-rests _ (asks_resynch w _ _ _) e = cc
idle-rests _ (resynched _ _) e = cc
idle-rests _ (resynch_doubted w pcb _ _ _ _) e = cc
idle-rests _ (over w _ _ _) e = refl
idle-rests _ (sends joined field rest _ _ _ _ _) e = absurd (busy field rest e)
idle-rests _ (sends_asked joined field rest _ _ _ _ _) e = absurd (busy field rest e)
idle-rests _ (sends_doubted joined field rest _ _ _ _ _) e = absurd (busy field rest e)
idle-rests _ (taken_asked _ _ _ _) e = cc
idle-rests _ (taken_told _ _ _ _) e = cc
idle-rests _ (served _ _) e = refl
idle-rests _ (size_wanted _ _) e = cc
idle-rests _ (size_given _ _) e = cc
idle-rests _ (size_missed _ _) e = cc
idle-rests _ (time_wanted _ _) e = cc
idle-rests _ (time_given _ _) e = cc
idle-rests _ (time_missed _ _) e = cc
idle-rests _ (replying ear field rest _ _ _ _ _) e = absurd (listens ear e)
idle-rests _ (replies_asked ear field rest _ _ _ _ _) e = absurd (listens ear e)
idle-rests _ (replies_doubted ear field rest _ _ _ _ _) e = absurd (listens ear e)
idle-rests _ (joined_told _ _ _ _) e = cc
idle-rests _ (joined_doubted _ _ _ _) e = cc

no-host : (w : CardWaits) → NoHost w → w ≡ host → ⊥
no-host (command joined) h e = cc
no-host host h e = h
no-host (reply field rest) h e = cc
no-host (asking q) h e = cc

sending : (field rest : List ℕ) → card_waiting field rest ≡ host → ⊥
sending field [] e = cc
sending field (x ∷ rest) e = cc

-- nor where the card's host has its turn
pub host-rests : {P : Type 0} {kt kc : Limits} (l : Link) → Good P kt kc l → l.card.waits ≡ host → l.under_way ≡ nothing
host-rests _ (at_rest _ _) e = refl
host-rests _ (size_asked _ _) e = cc
host-rests _ (size_taken _ _) e = cc
host-rests _ (size_doubted _ _) e = cc
host-rests _ (asks_resynch w _ nh _) e = absurd (no-host w nh e)
host-rests _ (resynched _ _) e = cc
host-rests _ (resynch_doubted w pcb _ nh _ _) e = absurd (no-host w nh e)
host-rests _ (over w _ _ _) e = refl
host-rests _ (sends joined field rest _ _ _ _ _) e = cc
host-rests _ (sends_asked joined field rest _ _ _ _ _) e = cc
host-rests _ (sends_doubted joined field rest _ _ _ _ _) e = cc
host-rests _ (taken_asked _ _ _ _) e = cc
host-rests _ (taken_told _ _ _ _) e = cc
host-rests _ (served _ _) e = refl
host-rests _ (size_wanted _ _) e = cc
host-rests _ (size_given _ _) e = cc
host-rests _ (size_missed _ _) e = cc
host-rests _ (time_wanted _ _) e = cc
host-rests _ (time_given _ _) e = cc
host-rests _ (time_missed _ _) e = cc
host-rests _ (replying ear field rest _ _ _ _ _) e = absurd (sending field rest e)
host-rests _ (replies_asked ear field rest _ _ _ _ _) e = absurd (sending field rest e)
host-rests _ (replies_doubted ear field rest _ _ _ _ _) e = absurd (sending field rest e)
host-rests _ (joined_told _ _ _ _) e = cc
host-rests _ (joined_doubted _ _ _ _) e = cc

-- a call that is taken is taken by an idle terminal, or in the host's turn
pub taken-idle : (w : Waits) (step : TerminalStep) (turn : TerminalTurn) (next : TerminalState) (mark : Mark)
    → if_idle w step ≡ Ok (turn, next, mark) → w ≡ idle
taken-idle idle step turn next mark e = refl
taken-idle (ack field rest) step turn next mark e = cc
taken-idle (answer field) step turn next mark e = cc
taken-idle (more joined) step turn next mark e = cc
taken-idle (ifs size) step turn next mark e = cc
taken-idle (resynch asked) step turn next mark e = cc
taken-idle dead step turn next mark e = cc

-- the same of a call of the card's host
pub taken-host : (w : CardWaits) (step : CardStep) (turn : CardTurn) (next : CardState)
    → if_host w step ≡ Ok (turn, next) → w ≡ host
taken-host (command joined) step turn next e = cc
taken-host host step turn next e = refl
taken-host (reply field rest) step turn next e = cc
taken-host (asking q) step turn next e = cc
