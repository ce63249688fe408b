-- The blocks that the ends send are proper.
use Rattle.std.proofs.Common.{inl, inr, ◌≡◌, ℕ, zero, suc, ◌+◌, ◌<◌, ◌≤◌, List, [], ◌∷◌, ◌++◌, length, take, drop, refl, arith}
use Rattle.std.specs.Prelude.{Bool, true, false, ◌&&◌, ◌==◌, nat_lt, nat_le, if◌then◌else◌, Option, Some, None, Ok, Err}
use Rattle.std.proofs.lemmas.List.{get_or-take, get_or_past, get_or-drop, length-take}
use Rattle.std.proofs.lemmas.Bool.{cases_lt}
use Rattle.std.proofs.lemmas.Bool.Decides.{nat_tests}
use Rattle.octet_core.proofs.Choice.{either}
use Rattle.octet_core.specs.Octets.{AreOctets}
use Rattle.block_core.specs.Block.{Parts, IsProper, Suits, IsSize, supervisory_len}
use Rattle.block_core.specs.declared.pcb.Number.{Number}
use Rattle.block_core.specs.declared.pcb.Fault.{Fault}
use Rattle.block_core.specs.declared.pcb.Fault.TheVariants.{Free, Redundancy, Other}
use Rattle.block_core.specs.declared.pcb.S.TheVariants.{Resynch, Ifs, Abort, Wtx}
use Rattle.block_core.specs.declared.pcb.Pcb.{Pcb}
use Rattle.block_core.specs.declared.pcb.Pcb.TheVariants.{Info, Ready, Request, Response}
use Rattle.t1_core.specs.declared.turns.TerminalTurn.{TerminalTurn}
use Rattle.t1_core.specs.declared.turns.TerminalTurn.TheVariants.{Send, Answered, IfsSet, GivenUp, Dead}
use Rattle.t1_core.specs.declared.turns.CardTurn.{CardTurn}
use Rattle.t1_core.specs.declared.turns.CardTurn.TheVariants.{Send as Sends, Asked}
use Rattle.block_core.specs.Block.{other}
use Rattle.t1_core.specs.Came.{Came, got, damaged, invalid, quiet, same, carried, info, ready, request, response}
use Rattle.t1_core.specs.Terminal.{TerminalState, TerminalStep, fails, joins, sends_next, in_exchange, terminal_came, terminal_turn, transmit, ask_ifs, if_idle, is_reserved, is_more, Waits, idle, ack, answer, more, ifs, resynch, dead, waiting, most_repeats, most_resynchs}
use Rattle.t1_core.specs.Card.{CardState, CardStep, Waits as CardWaits, command, host, reply, asking, size, time, saving, waiting as card_waiting, joins as card_joins, sends_next as card_sends_next, sends_saved, in_either, card_came, card_turn, if_host, replies, more_time, ask_ifs as card_ask_ifs}
use Rattle.t1_core.specs.Link.{tables, Link, UnderWay, nothing, to_card, to_terminal, sent_by_terminal, sent_by_card, unanswered, with_reply, delivered, arrives, lost, Exchange, terminal_makes, card_makes, happens, run, link_with, Event, delivers, damages, spoils, loses, transmits, asks_ifsd, host_replies, host_asks_time, host_asks_ifsc}
use Rattle.t1_core.specs.Promises.{HandsOctets, AllHandOctets, IsTaken, AlwaysTaken, Fits, FitsSize}
use Rattle.t1_core.proofs.Classes.{whole-class}
use Rattle.t1_core.proofs.Promised.{always_fits}

octets-take : (n : ℕ) (b : List ℕ) → AreOctets b → AreOctets (take n b)
octets-take n b h i =
    elim (cases_lt i n) [
      | inl lt ↦ rw (get_or-take n b i 0 lt) (h i)
      | inr le ↦ rw (get_or_past (take n b) i 0 (omega (arith, length-take n b))) (omega arith)
    ]

octets-drop : (n : ℕ) (b : List ℕ) → AreOctets b → AreOctets (drop n b)
octets-drop n b h i = rw get_or-drop (h (n + i))

octets-none : AreOctets []
octets-none i = omega arith

octets-one : (v : ℕ) → v < 256 → AreOctets (v ∷ [])
octets-one v h zero = h
octets-one v h (suc i) = omega arith

-- all that a block needs but for the length of an I-block
abbrev SuitsBut : Pcb → List ℕ → Type 0
SuitsBut (Info number goes_on) inf = Unit {0}
SuitsBut (Ready number fault) inf = length inf ≡ 0
SuitsBut (Request kind) inf = (length inf ≡ supervisory_len kind) × IsSize kind inf
SuitsBut (Response kind) inf = (length inf ≡ supervisory_len kind) × IsSize kind inf

record Sound (b : Parts) : Type 0 where
  nad : b.nad ≡ 0
  octets : AreOctets b.inf
  suits : SuitsBut b.pcb b.inf

abbrev SoundWaits : Waits → Type 0
SoundWaits (ack field rest) = AreOctets field × AreOctets rest
SoundWaits (answer field) = AreOctets field
SoundWaits (ifs n) = (1 ≤ n) × (n ≤ 254)
SoundWaits waits = Unit {0}

abbrev SoundTurn : TerminalTurn → Type 0
SoundTurn (Send b) = Sound b
SoundTurn turn = Unit {0}

abbrev SoundStep : TerminalStep → Type 0
SoundStep (Ok step) = SoundTurn step.0 × SoundWaits step.1.waits
SoundStep (Err fault) = Unit {0}

abbrev SoundCame : Came → Type 0
SoundCame (got pcb inf) = AreOctets inf × SuitsBut pcb inf
SoundCame came = Unit {0}

ready-sound : (x : Number) (f : Fault) → Sound (ready x f)
ready-sound x f = record { nad = refl; octets = octets-none; suits = refl }

info-sound : (x : Number) (m : Bool) (field : List ℕ) → AreOctets field → Sound (info x m field)
info-sound x m field h = record { nad = refl; octets = h; suits = tt }

size-sound : (n : ℕ) → 1 ≤ n → n ≤ 254 → Sound (request Ifs (n ∷ []))
size-sound n h k = record { nad = refl; octets = octets-one n (omega arith); suits = (refl, (h, k)) }

resynch-sound : Sound (request Resynch [])
resynch-sound = record { nad = refl; octets = octets-none; suits = (refl, tt) }

failing : (t : TerminalState) (b : Parts) → SoundWaits t.waits → Sound b → SoundStep (fails t b)
failing t b w h = either SoundStep (nat_lt t.failures most_repeats) _ _ (h, w) (resynch-sound, tt)

waiting-sound : (field rest : List ℕ) → AreOctets field → AreOctets rest → SoundWaits (waiting field rest)
waiting-sound field [] h k = h
waiting-sound field (x ∷ rest) h k = (h, k)

cutting : (t : TerminalState) (octets : List ℕ) → AreOctets octets → SoundStep (sends_next t octets)
cutting t octets h = (
  info-sound t.number (is_more (drop t.ifsc octets)) (take t.ifsc octets) (octets-take t.ifsc octets h),
  waiting-sound (take t.ifsc octets) (drop t.ifsc octets) (octets-take t.ifsc octets h) (octets-drop t.ifsc octets h),
)

joining : (t : TerminalState) (joined : List ℕ) (goes_on : Bool) → SoundStep (joins t joined goes_on)
joining t joined true = (ready-sound (other t.expected) Free, tt)
joining t joined false = (tt, tt)

exchanging : (t : TerminalState) (came : Came) → SoundWaits t.waits → SoundCame came → SoundStep (in_exchange t came)
exchanging t (got (Request Ifs) inf) w h = (record { nad = refl; octets = h.0; suits = h.1 }, w)
exchanging t (got (Request Wtx) inf) w h = (record { nad = refl; octets = h.0; suits = h.1 }, w)
exchanging t (got (Request Resynch) inf) w h = failing t _ w (ready-sound t.expected Other)
exchanging t (got (Request Abort) inf) w h = failing t _ w (ready-sound t.expected Other)
exchanging t (got (Info number goes_on) inf) w h = failing t _ w (ready-sound t.expected Other)
exchanging t (got (Ready number fault) inf) w h = failing t _ w (ready-sound t.expected Other)
exchanging t (got (Response kind) inf) w h = failing t _ w (ready-sound t.expected Other)
exchanging t damaged w h = failing t _ w (ready-sound t.expected Redundancy)
exchanging t invalid w h = failing t _ w (ready-sound t.expected Other)
exchanging t quiet w h = failing t _ w (ready-sound t.expected Free)

going : (t : TerminalState) (w : Waits) (came : Came) → SoundWaits t.waits → SoundWaits w → SoundCame came
    → SoundStep (terminal_came t w came)
going t idle came tw h k = tt
going t dead came tw h k = tt
going t (resynch asked) (got (Response Resynch) inf) tw h k = (tt, tt)
going t (resynch asked) (got (Info number goes_on) inf) tw h k =
    either SoundStep (nat_lt asked most_resynchs) _ _ (resynch-sound, tt) (tt, tt)
going t (resynch asked) (got (Ready number fault) inf) tw h k =
    either SoundStep (nat_lt asked most_resynchs) _ _ (resynch-sound, tt) (tt, tt)
going t (resynch asked) (got (Request kind) inf) tw h k =
    either SoundStep (nat_lt asked most_resynchs) _ _ (resynch-sound, tt) (tt, tt)
going t (resynch asked) (got (Response Ifs) inf) tw h k =
    either SoundStep (nat_lt asked most_resynchs) _ _ (resynch-sound, tt) (tt, tt)
going t (resynch asked) (got (Response Abort) inf) tw h k =
    either SoundStep (nat_lt asked most_resynchs) _ _ (resynch-sound, tt) (tt, tt)
going t (resynch asked) (got (Response Wtx) inf) tw h k =
    either SoundStep (nat_lt asked most_resynchs) _ _ (resynch-sound, tt) (tt, tt)
going t (resynch asked) damaged tw h k = either SoundStep (nat_lt asked most_resynchs) _ _ (resynch-sound, tt) (tt, tt)
going t (resynch asked) invalid tw h k = either SoundStep (nat_lt asked most_resynchs) _ _ (resynch-sound, tt) (tt, tt)
going t (resynch asked) quiet tw h k = either SoundStep (nat_lt asked most_resynchs) _ _ (resynch-sound, tt) (tt, tt)
going t (ifs n) (got (Response Ifs) inf) tw h k =
    either SoundStep (carried inf == n) _ _ (tt, tt) (failing t _ tw (size-sound n h.0 h.1))
going t (ifs n) (got (Info number goes_on) inf) tw h k = failing t _ tw (size-sound n h.0 h.1)
going t (ifs n) (got (Ready number fault) inf) tw h k = failing t _ tw (size-sound n h.0 h.1)
going t (ifs n) (got (Request kind) inf) tw h k = failing t _ tw (size-sound n h.0 h.1)
going t (ifs n) (got (Response Resynch) inf) tw h k = failing t _ tw (size-sound n h.0 h.1)
going t (ifs n) (got (Response Abort) inf) tw h k = failing t _ tw (size-sound n h.0 h.1)
going t (ifs n) (got (Response Wtx) inf) tw h k = failing t _ tw (size-sound n h.0 h.1)
going t (ifs n) damaged tw h k = failing t _ tw (size-sound n h.0 h.1)
going t (ifs n) invalid tw h k = failing t _ tw (size-sound n h.0 h.1)
going t (ifs n) quiet tw h k = failing t _ tw (size-sound n h.0 h.1)
going t (ack field rest) (got (Ready number fault) inf) tw h k =
    either SoundStep (same number t.number) _ _ (failing t _ tw (info-sound t.number true field h.0))
    (cutting (record t { failures = 0; number = other t.number }) rest h.1)
going t (ack field rest) (got (Info number goes_on) inf) tw h k = exchanging t (got (Info number goes_on) inf) tw k
going t (ack field rest) (got (Request kind) inf) tw h k = exchanging t (got (Request kind) inf) tw k
going t (ack field rest) (got (Response kind) inf) tw h k = exchanging t (got (Response kind) inf) tw k
going t (ack field rest) damaged tw h k = exchanging t damaged tw k
going t (ack field rest) invalid tw h k = exchanging t invalid tw k
going t (ack field rest) quiet tw h k = exchanging t quiet tw k
going t (answer field) (got (Ready number fault) inf) tw h k =
    either SoundStep (same number t.number) _ _ (failing t _ tw (info-sound t.number false field h))
    (failing t _ tw (ready-sound t.expected Free))
going t (answer field) (got (Info number goes_on) inf) tw h k =
    either SoundStep (same number t.expected && nat_le (length inf) t.limits.answer) _ _
    (joining (record t { number = other t.number }) inf goes_on) (exchanging t (got (Info number goes_on) inf) tw k)
going t (answer field) (got (Request kind) inf) tw h k = exchanging t (got (Request kind) inf) tw k
going t (answer field) (got (Response kind) inf) tw h k = exchanging t (got (Response kind) inf) tw k
going t (answer field) damaged tw h k = exchanging t damaged tw k
going t (answer field) invalid tw h k = exchanging t invalid tw k
going t (answer field) quiet tw h k = exchanging t quiet tw k
going t (more joined) (got (Ready number fault) inf) tw h k = failing t _ tw (ready-sound t.expected Free)
going t (more joined) (got (Info number goes_on) inf) tw h k =
    either SoundStep (same number t.expected && nat_le (length joined + length inf) t.limits.answer) _ _
    (joining t (joined ++ inf) goes_on) (exchanging t (got (Info number goes_on) inf) tw k)
going t (more joined) (got (Request kind) inf) tw h k = exchanging t (got (Request kind) inf) tw k
going t (more joined) (got (Response kind) inf) tw h k = exchanging t (got (Response kind) inf) tw k
going t (more joined) damaged tw h k = exchanging t damaged tw k
going t (more joined) invalid tw h k = exchanging t invalid tw k
going t (more joined) quiet tw h k = exchanging t quiet tw k

if_idle-sound : (w : Waits) (step : TerminalStep) → SoundStep step → SoundStep (if_idle w step)
if_idle-sound idle step h = h
if_idle-sound dead step h = tt
if_idle-sound (ack field rest) step h = tt
if_idle-sound (answer field) step h = tt
if_idle-sound (more joined) step h = tt
if_idle-sound (ifs n) step h = tt
if_idle-sound (resynch asked) step h = tt

with_test : {A : Type 0} (P : A → Type 0) (x : Bool) (a b : A) → P a → (x ≡ false → P b) → P (if x then a else b)
with_test P true a b p q = p
with_test P false a b p q = q refl

size_ok : (n : ℕ) → n < 256 → is_reserved n ≡ false → (1 ≤ n) × (n ≤ 254)
size_ok n h e = (grind (arith, nat_tests), grind (arith, nat_tests))

asking_size : (t : TerminalState) (n : ℕ) → n < 256 → SoundStep (terminal_turn t (ask_ifs n))
asking_size t n h = if_idle-sound t.waits _ (with_test SoundStep (is_reserved n) _ _ tt
    (λ e. (size-sound n (size_ok n h e).0 (size_ok n h e).1, size_ok n h e)))

transmitting : (t : TerminalState) (m : List ℕ) → AreOctets m → SoundStep (terminal_turn t (transmit m))
transmitting t m h = if_idle-sound t.waits _ (either SoundStep (nat_le (length m) t.limits.command) _ _
    (cutting (record t { failures = 0; command = m; answered = None }) m h) tt)

-- ---- the card

abbrev SoundCardWaits : CardWaits → Type 0
SoundCardWaits (command joined) = Unit {0}
SoundCardWaits host = Unit {0}
SoundCardWaits (reply field rest) = AreOctets field × AreOctets rest
SoundCardWaits (asking (size n)) = (1 ≤ n) × (n ≤ 254)
SoundCardWaits (asking (time n)) = n < 256

abbrev SoundSaved : Option (List ℕ) → Type 0
SoundSaved None = Unit {0}
SoundSaved (Some field) = AreOctets field

abbrev SoundCardTurn : CardTurn → Type 0
SoundCardTurn (Sends b) = Sound b
SoundCardTurn Asked = Unit {0}

abbrev SoundCardStep : CardStep → Type 0
SoundCardStep (Ok step) = SoundCardTurn step.0 × SoundCardWaits step.1.waits × SoundSaved step.1.saved
SoundCardStep (Err fault) = Unit {0}

time-sound : (n : ℕ) → n < 256 → Sound (request Wtx (n ∷ []))
time-sound n h = record { nad = refl; octets = octets-one n h; suits = (refl, tt) }

saving-sound : (saved : Option (List ℕ)) (field rest : List ℕ) → SoundSaved saved → AreOctets field
    → SoundSaved (saving saved field rest)
saving-sound saved field [] h k = k
saving-sound saved field (x ∷ rest) h k = h

card_waiting-sound : (field rest : List ℕ) → AreOctets field → AreOctets rest → SoundCardWaits (card_waiting field rest)
card_waiting-sound field [] h k = tt
card_waiting-sound field (x ∷ rest) h k = (h, k)

card_cutting : (c : CardState) (octets : List ℕ) → AreOctets octets → SoundSaved c.saved
    → SoundCardStep (card_sends_next c octets)
card_cutting c octets h k =
    let f = octets-take c.ifsd octets h in
    let r = octets-drop c.ifsd octets h in (
      info-sound c.number (is_more (drop c.ifsd octets)) (take c.ifsd octets) f,
      card_waiting-sound (take c.ifsd octets) (drop c.ifsd octets) f r,
      saving-sound c.saved (take c.ifsd octets) (drop c.ifsd octets) k f,
    )

card_joining : (c : CardState) (joined : List ℕ) (goes_on : Bool) → SoundCardStep (card_joins c joined goes_on)
card_joining c joined true = (ready-sound (other c.expected) Free, tt, tt)
card_joining c joined false = (tt, tt, tt)

saved-sound : (c : CardState) (saved : Option (List ℕ)) (x : Bool) → SoundSaved saved → SoundCardWaits c.waits
    → SoundSaved c.saved → SoundCardStep (sends_saved c saved x)
saved-sound c None true h w k = (ready-sound c.expected Free, w, k)
saved-sound c None false h w k = (ready-sound c.expected Free, w, k)
saved-sound c (Some field) true h w k = (info-sound c.number false field h, w, k)
saved-sound c (Some field) false h w k = (ready-sound c.expected Free, w, k)

either_way : (c : CardState) (came : Came) → SoundCardWaits c.waits → SoundSaved c.saved → SoundCame came
    → SoundCardStep (in_either c came)
either_way c (got (Request Ifs) inf) w s h = (record { nad = refl; octets = h.0; suits = h.1 }, w, s)
either_way c (got (Request Resynch) inf) w s h = (ready-sound c.expected Other, w, s)
either_way c (got (Request Abort) inf) w s h = (ready-sound c.expected Other, w, s)
either_way c (got (Request Wtx) inf) w s h = (ready-sound c.expected Other, w, s)
either_way c (got (Info number goes_on) inf) w s h = (ready-sound c.expected Other, w, s)
either_way c (got (Ready number fault) inf) w s h = (ready-sound c.expected Other, w, s)
either_way c (got (Response kind) inf) w s h = (ready-sound c.expected Other, w, s)
either_way c invalid w s h = (ready-sound c.expected Other, w, s)
either_way c quiet w s h = (ready-sound c.expected Other, w, s)
either_way c damaged w s h = (ready-sound c.expected Redundancy, w, s)

resynch_answer : Sound (response Resynch [])
resynch_answer = record { nad = refl; octets = octets-none; suits = (refl, tt) }

card_going : (c : CardState) (w : CardWaits) (came : Came) → SoundCardWaits c.waits → SoundCardWaits w
    → SoundSaved c.saved → SoundCame came → SoundCardStep (card_came c w came)
card_going c host came cw h s k = tt
card_going c (command joined) (got (Request Resynch) inf) cw h s k = (resynch_answer, tt, tt)
card_going c (reply field rest) (got (Request Resynch) inf) cw h s k = (resynch_answer, tt, tt)
card_going c (asking q) (got (Request Resynch) inf) cw h s k = (resynch_answer, tt, tt)
card_going c (command joined) (got (Info number goes_on) inf) cw h s k =
    either SoundCardStep (same number c.expected && nat_le (length joined + length inf) c.limits.command) _ _
    (card_joining c (joined ++ inf) goes_on) (either_way c (got (Info number goes_on) inf) cw s k)
card_going c (command joined) (got (Ready number fault) inf) cw h s k =
    saved-sound c c.saved (same number c.number) s cw s
card_going c (reply field rest) (got (Ready number fault) inf) cw h s k =
    either SoundCardStep (same number c.number) _ _ (info-sound c.number true field h.0, cw, s)
    (card_cutting (record c { number = other c.number }) rest h.1 s)
card_going c (reply field rest) (got (Info number goes_on) inf) cw h s k =
    either_way c (got (Info number goes_on) inf) cw s k
card_going c (asking (size n)) (got (Response Ifs) inf) cw h s k =
    either SoundCardStep (carried inf == n) _ _ (tt, tt, s) (size-sound n h.0 h.1, cw, s)
card_going c (asking (time n)) (got (Response Wtx) inf) cw h s k =
    either SoundCardStep (carried inf == n) _ _ (tt, tt, s) (time-sound n h, cw, s)
card_going c (command joined) (got (Request Ifs) inf) cw h s k = either_way c (got (Request Ifs) inf) cw s k
card_going c (command joined) (got (Request Abort) inf) cw h s k = either_way c (got (Request Abort) inf) cw s k
card_going c (command joined) (got (Request Wtx) inf) cw h s k = either_way c (got (Request Wtx) inf) cw s k
card_going c (command joined) (got (Response kind) inf) cw h s k = either_way c (got (Response kind) inf) cw s k
card_going c (command joined) damaged cw h s k = either_way c damaged cw s k
card_going c (command joined) invalid cw h s k = either_way c invalid cw s k
card_going c (command joined) quiet cw h s k = either_way c quiet cw s k
card_going c (reply field rest) (got (Request Ifs) inf) cw h s k = either_way c (got (Request Ifs) inf) cw s k
card_going c (reply field rest) (got (Request Abort) inf) cw h s k = either_way c (got (Request Abort) inf) cw s k
card_going c (reply field rest) (got (Request Wtx) inf) cw h s k = either_way c (got (Request Wtx) inf) cw s k
card_going c (reply field rest) (got (Response kind) inf) cw h s k = either_way c (got (Response kind) inf) cw s k
card_going c (reply field rest) damaged cw h s k = either_way c damaged cw s k
card_going c (reply field rest) invalid cw h s k = either_way c invalid cw s k
card_going c (reply field rest) quiet cw h s k = either_way c quiet cw s k
card_going c (asking (size n)) (got (Request Ifs) inf) cw h s k = (size-sound n h.0 h.1, cw, s)
card_going c (asking (size n)) (got (Request Abort) inf) cw h s k = (size-sound n h.0 h.1, cw, s)
card_going c (asking (size n)) (got (Request Wtx) inf) cw h s k = (size-sound n h.0 h.1, cw, s)
card_going c (asking (size n)) (got (Response Resynch) inf) cw h s k = (size-sound n h.0 h.1, cw, s)
card_going c (asking (size n)) (got (Response Abort) inf) cw h s k = (size-sound n h.0 h.1, cw, s)
card_going c (asking (size n)) (got (Response Wtx) inf) cw h s k = (size-sound n h.0 h.1, cw, s)
card_going c (asking (size n)) (got (Info number goes_on) inf) cw h s k = (size-sound n h.0 h.1, cw, s)
card_going c (asking (size n)) (got (Ready number fault) inf) cw h s k = (size-sound n h.0 h.1, cw, s)
card_going c (asking (size n)) damaged cw h s k = (size-sound n h.0 h.1, cw, s)
card_going c (asking (size n)) invalid cw h s k = (size-sound n h.0 h.1, cw, s)
card_going c (asking (size n)) quiet cw h s k = (size-sound n h.0 h.1, cw, s)
card_going c (asking (time n)) (got (Request Ifs) inf) cw h s k = (time-sound n h, cw, s)
card_going c (asking (time n)) (got (Request Abort) inf) cw h s k = (time-sound n h, cw, s)
card_going c (asking (time n)) (got (Request Wtx) inf) cw h s k = (time-sound n h, cw, s)
card_going c (asking (time n)) (got (Response Resynch) inf) cw h s k = (time-sound n h, cw, s)
card_going c (asking (time n)) (got (Response Ifs) inf) cw h s k = (time-sound n h, cw, s)
card_going c (asking (time n)) (got (Response Abort) inf) cw h s k = (time-sound n h, cw, s)
card_going c (asking (time n)) (got (Info number goes_on) inf) cw h s k = (time-sound n h, cw, s)
card_going c (asking (time n)) (got (Ready number fault) inf) cw h s k = (time-sound n h, cw, s)
card_going c (asking (time n)) damaged cw h s k = (time-sound n h, cw, s)
card_going c (asking (time n)) invalid cw h s k = (time-sound n h, cw, s)
card_going c (asking (time n)) quiet cw h s k = (time-sound n h, cw, s)

if_host-sound : (w : CardWaits) (step : CardStep) → SoundCardStep step → SoundCardStep (if_host w step)
if_host-sound host step h = h
if_host-sound (command joined) step h = tt
if_host-sound (reply field rest) step h = tt
if_host-sound (asking q) step h = tt

replying_ : (c : CardState) (octets : List ℕ) → AreOctets octets → SoundSaved c.saved
    → SoundCardStep (card_turn c (replies octets))
replying_ c octets h s = if_host-sound c.waits _
    (either SoundCardStep (nat_le (length octets) c.limits.answer) _ _ (card_cutting c octets h s) tt)

asking_time : (c : CardState) (n : ℕ) → n < 256 → SoundSaved c.saved → SoundCardStep (card_turn c (more_time n))
asking_time c n h s = if_host-sound c.waits _ ((time-sound n h, h, s))

card_asking_size : (c : CardState) (n : ℕ) → n < 256 → SoundSaved c.saved → SoundCardStep (card_turn c (card_ask_ifs n))
card_asking_size c n h s = if_host-sound c.waits _ (with_test SoundCardStep (is_reserved n) _ _ tt
    (λ e. (size-sound n (size_ok n h e).0 (size_ok n h e).1, size_ok n h e, s)))

-- ---- the link

abbrev SoundWay : UnderWay → Type 0
SoundWay nothing = Unit {0}
SoundWay (to_card b) = Sound b
SoundWay (to_terminal b) = Sound b

record SoundLink (l : Link) : Type 0 where
  terminal : SoundWaits l.terminal.waits
  card : SoundCardWaits l.card.waits
  saved : SoundSaved l.card.saved
  way : SoundWay l.under_way

sent : (turn : TerminalTurn) → SoundTurn turn → SoundWay (sent_by_terminal turn)
sent (Send b) h = h
sent Answered h = tt
sent IfsSet h = tt
sent GivenUp h = tt
sent Dead h = tt

card_sent : (turn : CardTurn) → SoundCardTurn turn → SoundWay (sent_by_card turn)
card_sent (Sends b) h = h
card_sent Asked h = tt

terminal_made : (before l : Link) (step : TerminalStep) → SoundLink before → SoundLink l → SoundStep step
    → SoundLink (terminal_makes before l step)
terminal_made before l (Ok step) g k h = record
    { terminal = h.1; card = k.card; saved = k.saved; way = sent step.0 h.0 }
terminal_made before l (Err fault) g k h = g

card_made : (before l : Link) (step : CardStep) → SoundLink before → SoundLink l → SoundCardStep step
    → SoundLink (card_makes before l step)
card_made before l (Ok step) g k h = record
    { terminal = k.terminal; card = h.1; saved = h.2; way = card_sent step.0 h.0 }
card_made before l (Err fault) g k h = g

-- the same ends and the same block under way, with other histories
other_counts : (l : Link) (es hs : List Exchange) (d f : ℕ) → SoundLink l
    → SoundLink (record l { exchanges = es; services = hs; disturbed = d; failed = f })
other_counts l es hs d f g = record { terminal = g.terminal; card = g.card; saved = g.saved; way = g.way }

delivering : (l : Link) (u : UnderWay) → SoundWay u → SoundLink l → SoundLink (delivered tables l u)
delivering l nothing h g = g
delivering l (to_card b) h g = card_made l l _ g g
    (card_going l.card l.card.waits (got b.pcb b.inf) g.card g.card g.saved (h.octets, h.suits))
delivering l (to_terminal b) h g = terminal_made l l _ g g
    (going l.terminal l.terminal.waits (got b.pcb b.inf) g.terminal g.terminal (h.octets, h.suits))

arriving : (l : Link) (u : UnderWay) (came : Came) → SoundCame came → SoundLink l → SoundLink (arrives tables l u came)
arriving l nothing came h g = g
arriving l (to_card b) came h g = card_made l _ _ g (other_counts l l.exchanges l.services (l.disturbed + 1) l.failed g)
    (card_going l.card l.card.waits came g.card g.card g.saved h)
arriving l (to_terminal b) came h g = terminal_made l _ _ g
    (other_counts l l.exchanges l.services (l.disturbed + 1) l.failed g)
    (going l.terminal l.terminal.waits came g.terminal g.terminal h)

losing : (l : Link) (u : UnderWay) → SoundLink l → SoundLink (lost tables l u)
losing l nothing g = g
losing l (to_card b) g = terminal_made l _ _ g (other_counts l l.exchanges l.services (l.disturbed + 1) l.failed g)
    (going l.terminal l.terminal.waits quiet g.terminal g.terminal tt)
losing l (to_terminal b) g = terminal_made l _ _ g (other_counts l l.exchanges l.services (l.disturbed + 1) l.failed g)
    (going l.terminal l.terminal.waits quiet g.terminal g.terminal tt)

kept_sound : (e : Event) (l : Link) → HandsOctets e → SoundLink l → SoundLink (happens tables l e)
kept_sound delivers l h g = delivering l l.under_way g.way g
kept_sound damages l h g = arriving l l.under_way damaged tt g
kept_sound spoils l h g = arriving l l.under_way invalid tt g
kept_sound loses l h g = losing l l.under_way g
kept_sound (transmits m) l h g = terminal_made l _ _ g (other_counts l (unanswered m ∷ l.exchanges) l.services 0 0 g)
    (transmitting l.terminal m h)
kept_sound (asks_ifsd n) l h g = terminal_made l _ _ g (other_counts l l.exchanges l.services 0 0 g)
    (asking_size l.terminal n h)
kept_sound (host_replies octets) l h g = card_made l _ _ g
    (other_counts l l.exchanges (with_reply l.services octets) l.disturbed l.failed g)
    (replying_ l.card octets h g.saved)
kept_sound (host_asks_time n) l h g = card_made l l _ g g (asking_time l.card n h g.saved)
kept_sound (host_asks_ifsc n) l h g = card_made l l _ g g (card_asking_size l.card n h g.saved)

always_sound : (es : List Event) (l : Link) → AllHandOctets es → SoundLink l → SoundLink (run tables es l)
always_sound [] l h g = g
always_sound (e ∷ es) l h g = always_sound es (happens tables l e) h.1 (kept_sound e l h.0 g)

suits_all : (n : ℕ) (pcb : Pcb) (inf : List ℕ) → FitsSize n pcb inf → SuitsBut pcb inf → Suits n pcb inf
suits_all n (Info number goes_on) inf h k = h
suits_all n (Ready number fault) inf h k = k
suits_all n (Request kind) inf h k = k
suits_all n (Response kind) inf h k = k

proper : (n : ℕ) (b : Parts) → FitsSize n b.pcb b.inf → Sound b → IsProper n b
proper n b h k = record { nad = omega (arith, k.nad); octets = k.octets; suits = suits_all n b.pcb b.inf h k.suits }

taking : (l : Link) (u : UnderWay) → Fits l u → SoundWay u → IsTaken l u
taking l nothing h k = tt
taking l (to_card b) h k = whole-class l.card.ifsc b k.nad (proper l.card.ifsc b h k)
taking l (to_terminal b) h k = whole-class l.terminal.ifsd b k.nad (proper l.terminal.ifsd b h k)

-- the octets of the block under way are that block to its receiver, where the calls hand over octets
pub always_taken : AlwaysTaken tables
always_taken kt kc ifsc es h =
    let l = run tables es (link_with kt kc ifsc) in
    let g = always_sound es (link_with kt kc ifsc) h (record { terminal = tt; card = tt; saved = tt; way = tt }) in
    taking l l.under_way (always_fits kt kc ifsc es) g.way
