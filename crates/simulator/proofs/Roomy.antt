-- Where the card's host asks for nothing, each end takes fields of at least an octet.
use Rattle.std.proofs.Common.{◌≤◌, ◌+◌, ◌++◌, ℕ, zero, suc, List, [], ◌∷◌, length, arith, Option, Some, None, Ok, Err}
use Rattle.std.specs.Prelude.{Bool, true, false, ◌&&◌, nat_lt, nat_le, if◌then◌else◌, take, drop, ◌==◌}
use Rattle.octet_core.proofs.Choice.{either}
use Rattle.block_core.specs.Block.{Parts, other}
use Rattle.block_core.specs.declared.pcb.Fault.TheVariants.{Free, Redundancy, Other}
use Rattle.block_core.specs.declared.pcb.S.TheVariants.{Resynch, Ifs, Abort, Wtx}
use Rattle.block_core.specs.declared.pcb.Pcb.{Pcb}
use Rattle.block_core.specs.declared.pcb.Pcb.TheVariants.{Info, Ready, Request, Response}
use Rattle.t1_core.specs.Came.{Came, got, damaged, invalid, quiet, same, carried, info, ready, request}
use Rattle.t1_core.specs.Terminal.{TerminalState, TerminalStep, Waits, idle, ack, answer, more, ifs, resynch, dead, waiting, fails, joins, sends_next, in_exchange, terminal_came, terminal_turn, takes, if_idle, is_reserved, no_failure, most_repeats, most_resynchs}
use Rattle.t1_core.specs.Card.{CardState, CardStep, Waits as CardWaits, command, host, reply, asking, joins as card_joins, sends_next as card_sends_next, sends_saved, in_either, card_came, card_turn, if_host, takes as card_takes, waiting as card_waiting}
use Rattle.t1_core.specs.Link.{tables, Link, UnderWay, nothing, to_card, to_terminal, sent_by_terminal, sent_by_card, unanswered, with_reply, delivered, arrives, lost, terminal_makes, card_makes, happens, new_link, Event, delivers, damages, spoils, loses, transmits, asks_ifsd, host_replies, host_asks_time, host_asks_ifsc}
use Rattle.t1_core.specs.declared.turns.TerminalTurn.TheVariants.{Send, Dead}
use Rattle.t1_core.specs.declared.turns.TerminalFault.TheVariants.{Reserved}
use Rattle.exchange_core.proofs.Pausing.{AsksNothing}

-- a size that is asked for
abbrev pub BlockRoom : Pcb → List ℕ → Type 0
BlockRoom (Request Ifs) inf = 1 ≤ carried inf
BlockRoom (Request Resynch) inf = Unit {0}
BlockRoom (Request Abort) inf = Unit {0}
BlockRoom (Request Wtx) inf = Unit {0}
BlockRoom (Info number goes_on) inf = Unit {0}
BlockRoom (Ready number fault) inf = Unit {0}
BlockRoom (Response kind) inf = Unit {0}

abbrev pub WayRoom : UnderWay → Type 0
WayRoom nothing = Unit {0}
WayRoom (to_card block) = BlockRoom block.pcb block.inf
WayRoom (to_terminal block) = BlockRoom block.pcb block.inf

abbrev CameRoom : Came → Type 0
CameRoom (got pcb inf) = BlockRoom pcb inf
CameRoom damaged = Unit {0}
CameRoom invalid = Unit {0}
CameRoom quiet = Unit {0}

abbrev pub WaitsRoom : Waits → Type 0
WaitsRoom idle = Unit {0}
WaitsRoom (ack field rest) = Unit {0}
WaitsRoom (answer field) = Unit {0}
WaitsRoom (more joined) = Unit {0}
WaitsRoom (ifs size) = 1 ≤ size
WaitsRoom (resynch asked) = Unit {0}
WaitsRoom dead = Unit {0}

pub record TermRoom (t : TerminalState) : Type 0 where
  pub ifsc : 1 ≤ t.ifsc
  pub first : 1 ≤ t.first_ifsc
  pub waits : WaitsRoom t.waits

pub record HasRoom (c : CardState) : Type 0 where
  pub ifsd : 1 ≤ c.ifsd
  pub asks : AsksNothing c.waits

pub record Roomy (l : Link) : Type 0 where
  pub terminal : TermRoom l.terminal
  pub card : HasRoom l.card
  pub way : WayRoom l.under_way

-- ---- the terminal

abbrev StepRoom : TerminalStep → Type 0
StepRoom (Ok step) = TermRoom step.1 × WayRoom (sent_by_terminal step.0)
StepRoom (Err fault) = Unit {0}

failing : (t : TerminalState) (b : Parts) → TermRoom t → BlockRoom b.pcb b.inf → StepRoom (fails t b)
failing t b k h = either StepRoom (nat_lt t.failures most_repeats) _ _
    (record { ifsc = k.ifsc; first = k.first; waits = k.waits }, h)
    (record { ifsc = k.ifsc; first = k.first; waits = tt }, tt)

waiting-room : (field rest : List ℕ) → WaitsRoom (waiting field rest)
waiting-room field [] = tt
waiting-room field (x ∷ rest) = tt

cutting : (t : TerminalState) (octets : List ℕ) → 1 ≤ t.ifsc → 1 ≤ t.first_ifsc → StepRoom (sends_next t octets)
cutting t octets k h = (
  record { ifsc = k; first = h; waits = waiting-room (take t.ifsc octets) (drop t.ifsc octets) },
  tt,
)

joining : (t : TerminalState) (octets : List ℕ) (goes_on : Bool) → TermRoom t → StepRoom (joins t octets goes_on)
joining t octets true k = (record { ifsc = k.ifsc; first = k.first; waits = tt }, tt)
joining t octets false k = (record { ifsc = k.ifsc; first = k.first; waits = tt }, tt)

exchanging : (t : TerminalState) (came : Came) → TermRoom t → CameRoom came → StepRoom (in_exchange t came)
exchanging t (got (Request Ifs) inf) k h = (record { ifsc = h; first = k.first; waits = k.waits }, tt)
exchanging t (got (Request Wtx) inf) k h = (k, tt)
exchanging t (got (Request Resynch) inf) k h = failing t (ready t.expected Other) k tt
exchanging t (got (Request Abort) inf) k h = failing t (ready t.expected Other) k tt
exchanging t (got (Info number goes_on) inf) k h = failing t (ready t.expected Other) k tt
exchanging t (got (Ready number fault) inf) k h = failing t (ready t.expected Other) k tt
exchanging t (got (Response kind) inf) k h = failing t (ready t.expected Other) k tt
exchanging t damaged k h = failing t (ready t.expected Redundancy) k tt
exchanging t invalid k h = failing t (ready t.expected Other) k tt
exchanging t quiet k h = failing t (ready t.expected Free) k tt

abbrev AsksAgain : TerminalState → ℕ → TerminalStep
AsksAgain t asked =
    if nat_lt asked most_resynchs
    then Ok (Send (request Resynch []), record t { waits = resynch (asked + 1) }, no_failure)
    else Ok (Dead, record t { waits = dead }, no_failure)

asking_again : (t : TerminalState) (asked : ℕ) → TermRoom t → StepRoom (AsksAgain t asked)
asking_again t asked k = either StepRoom (nat_lt asked most_resynchs) _ _
    (record { ifsc = k.ifsc; first = k.first; waits = tt }, tt)
    (record { ifsc = k.ifsc; first = k.first; waits = tt }, tt)

going : (t : TerminalState) (w : Waits) (came : Came) → TermRoom t → WaitsRoom w → CameRoom came
    → StepRoom (terminal_came t w came)
going t idle came k w h = tt
going t dead came k w h = tt
going t (resynch asked) (got (Response Resynch) inf) k w h =
    (record { ifsc = k.first; first = k.first; waits = tt }, tt)
going t (resynch asked) (got (Response Ifs) inf) k w h = asking_again t asked k
going t (resynch asked) (got (Response Abort) inf) k w h = asking_again t asked k
going t (resynch asked) (got (Response Wtx) inf) k w h = asking_again t asked k
going t (resynch asked) (got (Info number goes_on) inf) k w h = asking_again t asked k
going t (resynch asked) (got (Ready number fault) inf) k w h = asking_again t asked k
going t (resynch asked) (got (Request kind) inf) k w h = asking_again t asked k
going t (resynch asked) damaged k w h = asking_again t asked k
going t (resynch asked) invalid k w h = asking_again t asked k
going t (resynch asked) quiet k w h = asking_again t asked k
going t (ifs n) (got (Response Ifs) inf) k w h = either StepRoom (carried inf == n) _ _
    (record { ifsc = k.ifsc; first = k.first; waits = tt }, tt) (failing t (request Ifs (n ∷ [])) k w)
going t (ifs n) (got (Response Resynch) inf) k w h = failing t (request Ifs (n ∷ [])) k w
going t (ifs n) (got (Response Abort) inf) k w h = failing t (request Ifs (n ∷ [])) k w
going t (ifs n) (got (Response Wtx) inf) k w h = failing t (request Ifs (n ∷ [])) k w
going t (ifs n) (got (Info number goes_on) inf) k w h = failing t (request Ifs (n ∷ [])) k w
going t (ifs n) (got (Ready number fault) inf) k w h = failing t (request Ifs (n ∷ [])) k w
going t (ifs n) (got (Request kind) inf) k w h = failing t (request Ifs (n ∷ [])) k w
going t (ifs n) damaged k w h = failing t (request Ifs (n ∷ [])) k w
going t (ifs n) invalid k w h = failing t (request Ifs (n ∷ [])) k w
going t (ifs n) quiet k w h = failing t (request Ifs (n ∷ [])) k w
going t (ack field rest) (got (Ready number fault) inf) k w h =
    either StepRoom (same number t.number) _ _ (failing t (info t.number true field) k tt)
    (cutting (record t { failures = 0; number = other t.number }) rest k.ifsc k.first)
going t (ack field rest) (got (Info number goes_on) inf) k w h = exchanging t (got (Info number goes_on) inf) k h
going t (ack field rest) (got (Request kind) inf) k w h = exchanging t (got (Request kind) inf) k h
going t (ack field rest) (got (Response kind) inf) k w h = exchanging t (got (Response kind) inf) k h
going t (ack field rest) damaged k w h = exchanging t damaged k h
going t (ack field rest) invalid k w h = exchanging t invalid k h
going t (ack field rest) quiet k w h = exchanging t quiet k h
going t (answer field) (got (Ready number fault) inf) k w h =
    either StepRoom (same number t.number) _ _ (failing t (info t.number false field) k tt)
    (failing t (ready t.expected Free) k tt)
going t (answer field) (got (Info number goes_on) inf) k w h =
    either StepRoom (same number t.expected && nat_le (length inf) t.limits.answer) _ _
    (joining (record t { number = other t.number }) inf goes_on
    (record { ifsc = k.ifsc; first = k.first; waits = k.waits })) (exchanging t (got (Info number goes_on) inf) k h)
going t (answer field) (got (Request kind) inf) k w h = exchanging t (got (Request kind) inf) k h
going t (answer field) (got (Response kind) inf) k w h = exchanging t (got (Response kind) inf) k h
going t (answer field) damaged k w h = exchanging t damaged k h
going t (answer field) invalid k w h = exchanging t invalid k h
going t (answer field) quiet k w h = exchanging t quiet k h
going t (more octets) (got (Ready number fault) inf) k w h = failing t (ready t.expected Free) k tt
going t (more octets) (got (Info number goes_on) inf) k w h =
    either StepRoom (same number t.expected && nat_le (length octets + length inf) t.limits.answer) _ _
    (joining t (octets ++ inf) goes_on k) (exchanging t (got (Info number goes_on) inf) k h)
going t (more octets) (got (Request kind) inf) k w h = exchanging t (got (Request kind) inf) k h
going t (more octets) (got (Response kind) inf) k w h = exchanging t (got (Response kind) inf) k h
going t (more octets) damaged k w h = exchanging t damaged k h
going t (more octets) invalid k w h = exchanging t invalid k h
going t (more octets) quiet k w h = exchanging t quiet k h

in_turn : (w : Waits) (step : TerminalStep) → StepRoom step → StepRoom (if_idle w step)
in_turn idle step h = h
in_turn (ack field rest) step h = tt
in_turn (answer field) step h = tt
in_turn (more octets) step h = tt
in_turn (ifs n) step h = tt
in_turn (resynch asked) step h = tt
in_turn dead step h = tt

-- a size that may be asked for
asked : (t : TerminalState) (n : ℕ) → TermRoom t → StepRoom
    (if is_reserved n
    then Err Reserved
    else Ok (Send (request Ifs (n ∷ [])), record t { failures = 0; waits = ifs n }, no_failure))
asked t zero k = tt
asked t (suc n) k = either StepRoom (is_reserved (suc n)) _ _ tt
    (record { ifsc = k.ifsc; first = k.first; waits = omega arith }, omega arith)

-- ---- the card

abbrev CardRoom : CardStep → Type 0
CardRoom (Ok step) = HasRoom step.1 × WayRoom (sent_by_card step.0)
CardRoom (Err fault) = Unit {0}

asks-waiting : (field rest : List ℕ) → AsksNothing (card_waiting field rest)
asks-waiting field [] = tt
asks-waiting field (x ∷ rest) = tt

card-cutting : (c : CardState) (octets : List ℕ) → 1 ≤ c.ifsd → CardRoom (card_sends_next c octets)
card-cutting c octets k = (
  record { ifsd = k; asks = asks-waiting (take c.ifsd octets) (drop c.ifsd octets) },
  tt,
)

card-joining : (c : CardState) (octets : List ℕ) (goes_on : Bool) → HasRoom c
    → CardRoom (card_joins c octets goes_on)
card-joining c octets true k = (record { ifsd = k.ifsd; asks = tt }, tt)
card-joining c octets false k = (record { ifsd = k.ifsd; asks = tt }, tt)

saved-room : (c : CardState) (saved : Option (List ℕ)) (own : Bool) → HasRoom c → CardRoom (sends_saved c saved own)
saved-room c (Some field) true k = (k, tt)
saved-room c (Some field) false k = (k, tt)
saved-room c None own k = (k, tt)

either-room : (c : CardState) (came : Came) → HasRoom c → CameRoom came → CardRoom (in_either c came)
either-room c (got (Request Ifs) inf) k h = (record { ifsd = h; asks = k.asks }, tt)
either-room c (got (Request Resynch) inf) k h = (k, tt)
either-room c (got (Request Abort) inf) k h = (k, tt)
either-room c (got (Request Wtx) inf) k h = (k, tt)
either-room c (got (Info number goes_on) inf) k h = (k, tt)
either-room c (got (Ready number fault) inf) k h = (k, tt)
either-room c (got (Response kind) inf) k h = (k, tt)
either-room c damaged k h = (k, tt)
either-room c invalid k h = (k, tt)
either-room c quiet k h = (k, tt)

card-going : (c : CardState) (w : CardWaits) (came : Came) → HasRoom c → AsksNothing w → CameRoom came
    → CardRoom (card_came c w came)
card-going c host came k a h = tt
card-going c (asking q) came k a h = absurd a
card-going c (command octets) (got (Request Resynch) inf) k a h = (record { ifsd = omega arith; asks = tt }, tt)
card-going c (command octets) (got (Request Ifs) inf) k a h = either-room c (got (Request Ifs) inf) k h
card-going c (command octets) (got (Request Abort) inf) k a h = either-room c (got (Request Abort) inf) k h
card-going c (command octets) (got (Request Wtx) inf) k a h = either-room c (got (Request Wtx) inf) k h
card-going c (command octets) (got (Info number goes_on) inf) k a h =
    either CardRoom (same number c.expected && nat_le (length octets + length inf) c.limits.command) _ _
    (card-joining c (octets ++ inf) goes_on k) (either-room c (got (Info number goes_on) inf) k h)
card-going c (command octets) (got (Ready number fault) inf) k a h =
    saved-room c c.saved (same number c.number) k
card-going c (command octets) (got (Response kind) inf) k a h = either-room c (got (Response kind) inf) k h
card-going c (command octets) damaged k a h = either-room c damaged k h
card-going c (command octets) invalid k a h = either-room c invalid k h
card-going c (command octets) quiet k a h = either-room c quiet k h
card-going c (reply field rest) (got (Request Resynch) inf) k a h = (record { ifsd = omega arith; asks = tt }, tt)
card-going c (reply field rest) (got (Request Ifs) inf) k a h = either-room c (got (Request Ifs) inf) k h
card-going c (reply field rest) (got (Request Abort) inf) k a h = either-room c (got (Request Abort) inf) k h
card-going c (reply field rest) (got (Request Wtx) inf) k a h = either-room c (got (Request Wtx) inf) k h
card-going c (reply field rest) (got (Info number goes_on) inf) k a h =
    either-room c (got (Info number goes_on) inf) k h
card-going c (reply field rest) (got (Ready number fault) inf) k a h =
    either CardRoom (same number c.number) _ _ (k, tt)
    (card-cutting (record c { number = other c.number }) rest k.ifsd)
card-going c (reply field rest) (got (Response kind) inf) k a h = either-room c (got (Response kind) inf) k h
card-going c (reply field rest) damaged k a h = either-room c damaged k h
card-going c (reply field rest) invalid k a h = either-room c invalid k h
card-going c (reply field rest) quiet k a h = either-room c quiet k h

in_its_turn : (w : CardWaits) (step : CardStep) → CardRoom step → CardRoom (if_host w step)
in_its_turn host step h = h
in_its_turn (command octets) step h = tt
in_its_turn (reply field rest) step h = tt
in_its_turn (asking q) step h = tt

-- ---- the link

terminal-room : (before l : Link) (step : TerminalStep) → Roomy before → HasRoom l.card → StepRoom step
    → Roomy (terminal_makes before l step)
terminal-room before l (Ok step) k c h = record { terminal = h.0; card = c; way = h.1 }
terminal-room before l (Err fault) k c h = k

card-room : (before l : Link) (step : CardStep) → Roomy before → TermRoom l.terminal → CardRoom step
    → Roomy (card_makes before l step)
card-room before l (Ok step) k t h = record { terminal = t; card = h.0; way = h.1 }
card-room before l (Err fault) k t h = k

took : (before l : Link) (came : Came) → Roomy before → TermRoom l.terminal → HasRoom l.card → CameRoom came
    → Roomy (terminal_makes before l (terminal_turn l.terminal (takes came)))
took before l came k t c h =
    terminal-room before l _ k c (going l.terminal l.terminal.waits came t t.waits h)

card-took : (before l : Link) (came : Came) → Roomy before → TermRoom l.terminal → HasRoom l.card → CameRoom came
    → Roomy (card_makes before l (card_turn l.card (card_takes came)))
card-took before l came k t c h = card-room before l _ k t (card-going l.card l.card.waits came c c.asks h)

delivery : (l : Link) (way : UnderWay) → Roomy l → WayRoom way → Roomy (delivered tables l way)
delivery l nothing k w = k
delivery l (to_card block) k w = card-took l l (got block.pcb block.inf) k k.terminal k.card w
delivery l (to_terminal block) k w = took l l (got block.pcb block.inf) k k.terminal k.card w

arrival : (l : Link) (way : UnderWay) (came : Came) → Roomy l → CameRoom came → Roomy (arrives tables l way came)
arrival l nothing came k h = k
arrival l (to_card block) came k h =
    card-took l (record l { disturbed = l.disturbed + 1 }) came k k.terminal k.card h
arrival l (to_terminal block) came k h =
    took l (record l { disturbed = l.disturbed + 1 }) came k k.terminal k.card h

loss : (l : Link) (way : UnderWay) → Roomy l → Roomy (lost tables l way)
loss l nothing k = k
loss l (to_card block) k = took l (record l { disturbed = l.disturbed + 1 }) quiet k k.terminal k.card tt
loss l (to_terminal block) k = took l (record l { disturbed = l.disturbed + 1 }) quiet k k.terminal k.card tt

-- the host replies, and asks for nothing
abbrev pub IsSimple : Event → Type 0
IsSimple delivers = Unit {0}
IsSimple damages = Unit {0}
IsSimple spoils = Unit {0}
IsSimple loses = Unit {0}
IsSimple (transmits m) = Unit {0}
IsSimple (asks_ifsd n) = Unit {0}
IsSimple (host_replies octets) = Unit {0}
IsSimple (host_asks_time n) = ⊥
IsSimple (host_asks_ifsc n) = ⊥

pub roomy-after : (l : Link) (event : Event) → IsSimple event → Roomy l → Roomy (happens tables l event)
roomy-after l delivers simple k = delivery l l.under_way k k.way
roomy-after l damages simple k = arrival l l.under_way damaged k tt
roomy-after l spoils simple k = arrival l l.under_way invalid k tt
roomy-after l loses simple k = loss l l.under_way k
roomy-after l (transmits m) simple k =
    terminal-room l (record l { exchanges = unanswered m ∷ l.exchanges; disturbed = 0; failed = 0 }) _ k k.card
    (in_turn l.terminal.waits _ (either StepRoom (nat_le (length m) l.terminal.limits.command) _ _
    (cutting (record l.terminal { failures = 0; command = m; answered = None }) m k.terminal.ifsc k.terminal.first) tt))
roomy-after l (asks_ifsd n) simple k = terminal-room l (record l { disturbed = 0; failed = 0 }) _ k k.card
    (in_turn l.terminal.waits _ (asked l.terminal n k.terminal))
roomy-after l (host_replies octets) simple k =
    card-room l (record l { services = with_reply l.services octets }) _ k k.terminal
    (in_its_turn l.card.waits _ (either CardRoom (nat_le (length octets) l.card.limits.answer) _ _
    (card-cutting l.card octets k.card.ifsd) tt))
roomy-after l (host_asks_time n) simple k = absurd simple
roomy-after l (host_asks_ifsc n) simple k = absurd simple

-- both ends at the start
pub new-roomy : (ifsc : ℕ) → 1 ≤ ifsc → Roomy (new_link ifsc)
new-roomy ifsc h = record {
  terminal = record { ifsc = h; first = h; waits = tt };
  card = record { ifsd = omega arith; asks = tt };
  way = tt;
}
