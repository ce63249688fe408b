-- Who waits for a block, at a terminal and a card that talk over a line.
use Rattle.std.proofs.Common.{◌≡◌, ap, sym, refl, ℕ, List, [], ◌∷◌, true}
use Rattle.std.specs.Prelude.{not}
use Rattle.t1_core.specs.Awaited.{terminal_awaits_block, card_awaits_block}
use Rattle.t1_core.specs.Terminal.{Limits, Waits, waiting}
use Rattle.t1_core.specs.Card.{Waits as CardWaits, command, host, reply, asking, waiting as card_waiting}
use Rattle.t1_core.specs.Link.{Link, UnderWay, nothing, to_card, to_terminal}
use Rattle.t1_core.proofs.Good.{Good, at_rest, size_asked, size_taken, size_doubted, asks_resynch, resynched, resynch_doubted, over, sends, sends_asked, sends_doubted, taken_asked, taken_told, served, size_wanted, size_given, size_missed, time_wanted, time_given, time_missed, replying, replies_asked, replies_doubted, joined_told, joined_doubted, NoHost, Ear, ear_waits, first, further}

-- Where a block is under way both ends wait for one, and where none is just one of them does.
abbrev pub Awaits : UnderWay → Waits → CardWaits → Type 0
Awaits nothing w c = terminal_awaits_block w ≡ not (card_awaits_block c)
Awaits (to_card block) w c = (terminal_awaits_block w ≡ true) × (card_awaits_block c ≡ true)
Awaits (to_terminal block) w c = (terminal_awaits_block w ≡ true) × (card_awaits_block c ≡ true)

sending : (field rest : List ℕ) → terminal_awaits_block (waiting field rest) ≡ true
sending field [] = refl
sending field (x ∷ rest) = refl

hearing : (ear : Ear) → terminal_awaits_block (ear_waits ear) ≡ true
hearing (first field) = refl
hearing (further joined) = refl

replying-awaits : (field rest : List ℕ) → card_awaits_block (card_waiting field rest) ≡ true
replying-awaits field [] = refl
replying-awaits field (x ∷ rest) = refl

without-host : (w : CardWaits) → NoHost w → card_awaits_block w ≡ true
without-host (command joined) h = refl
without-host host h = absurd h
without-host (reply field rest) h = refl
without-host (asking q) h = refl

pub awaits : {P : Type 0} {kt kc : Limits} (l : Link) → Good P kt kc l
    → Awaits l.under_way l.terminal.waits l.card.waits
awaits _ (at_rest _ _) = refl
awaits _ (size_asked _ _) = (refl, refl)
awaits _ (size_taken _ _) = (refl, refl)
awaits _ (size_doubted _ _) = (refl, refl)
awaits _ (asks_resynch w _ nh _) = (refl, without-host w nh)
awaits _ (resynched _ _) = (refl, refl)
awaits _ (resynch_doubted w pcb _ nh _ _) = (refl, without-host w nh)
awaits _ (over w _ nh _) = sym (ap not (without-host w nh))
awaits _ (sends joined field rest _ _ _ _ _) = (sending field rest, refl)
awaits _ (sends_asked joined field rest _ _ _ _ _) = (sending field rest, refl)
awaits _ (sends_doubted joined field rest _ _ _ _ _) = (sending field rest, refl)
awaits _ (taken_asked _ _ _ _) = (refl, refl)
awaits _ (taken_told _ _ _ _) = (refl, refl)
awaits _ (served _ _) = refl
awaits _ (size_wanted _ _) = (refl, refl)
awaits _ (size_given _ _) = (refl, refl)
awaits _ (size_missed _ _) = (refl, refl)
awaits _ (time_wanted _ _) = (refl, refl)
awaits _ (time_given _ _) = (refl, refl)
awaits _ (time_missed _ _) = (refl, refl)
awaits _ (replying ear field rest _ _ _ _ _) = (hearing ear, replying-awaits field rest)
awaits _ (replies_asked ear field rest _ _ _ _ _) = (hearing ear, replying-awaits field rest)
awaits _ (replies_doubted ear field rest _ _ _ _ _) = (hearing ear, replying-awaits field rest)
awaits _ (joined_told _ _ _ _) = (refl, refl)
awaits _ (joined_doubted _ _ _ _) = (refl, refl)
