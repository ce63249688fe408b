-- What a step of a terminal, and of a card, keeps.
use Rattle.std.proofs.Common.{IsSome, ◌≡◌, ◌≤◌, ◌<◌, ◌⊎◌, ℕ, ◌+◌, List, [], ◌∷◌, ◌++◌, length, Bool, true, false, Ok, Err, Option, Some, None, refl, inl, inr, arith, if◌then◌else◌, ◌&&◌, nat_lt, nat_le}
use Rattle.std.specs.Prelude.{◌==◌}
use Rattle.std.proofs.lemmas.Bool.Decides.{nat_tests}
use Rattle.octet_core.proofs.Choice.{either}
use Rattle.block_core.specs.Block.{Parts, other}
use Rattle.block_core.specs.declared.pcb.S.TheVariants.{Resynch, Ifs, Abort, Wtx}
use Rattle.block_core.specs.declared.pcb.Pcb.TheVariants.{Info, Ready, Request, Response}
use Rattle.t1_core.specs.declared.turns.TerminalTurn.{TerminalTurn}
use Rattle.t1_core.specs.declared.turns.TerminalTurn.TheVariants as turn
use Rattle.t1_core.specs.declared.turns.TerminalFault.TheVariants.{TooLong, Reserved}
use Rattle.t1_core.specs.Promises.{IsDead}
use Rattle.t1_core.specs.Came.{Came, got, damaged, invalid, quiet, same, carried, request}
use Rattle.t1_core.specs.Terminal.{TerminalState, TerminalStep, Waits, idle, ack, answer, more, ifs, resynch, dead, fails, joins, waiting, in_exchange, in_ack, in_answer, in_more, in_resynch, in_ifs, terminal_came, if_idle, is_reserved, no_failure, sends_next, transmit, ask_ifs, takes, terminal_turn, turn_of}
use Rattle.line_core.specs.Service.{input_of}
use Rattle.line_core.specs.Joined.{is_about_size, IsOctet}
use Rattle.t1_core.specs.Card.{CardState, CardStep, CardRequest, size as of_size, time as of_time, Waits as CardWaits, command, host, reply, asking, in_either, in_command, in_reply, in_asking, sends_saved, joins as card_joins, card_came, card_turn, if_host, replies, waiting as card_waiting}

-- What is under way is about a size, which any end may ask for, or isn't.
abbrev pub IsAbout : Bool → Waits → Type 0
IsAbout is_size idle = Unit {0}
IsAbout is_size (ack field rest) = is_size ≡ false
IsAbout is_size (answer field) = is_size ≡ false
IsAbout is_size (more joined) = is_size ≡ false
IsAbout is_size (ifs size) = (is_size ≡ true) × (size ≤ 254)
IsAbout is_size (resynch asked) = Unit {0}
IsAbout is_size dead = Unit {0}

-- nothing is under way
abbrev pub IsRest : Waits → Type 0
IsRest idle = Unit {0}
IsRest dead = Unit {0}
IsRest (ifs size) = ⊥
IsRest (ack field rest) = ⊥
IsRest (answer field) = ⊥
IsRest (more joined) = ⊥
IsRest (resynch asked) = ⊥

-- a turn that ends it leaves nothing under way, and the answer where there is one
abbrev pub IsTurn : Bool → TerminalTurn → TerminalState → Type 0
IsTurn is_size (turn.Send block) t = Unit {0}
IsTurn is_size turn.Answered t = (is_size ≡ false) × IsRest t.waits × IsSome t.answered
IsTurn is_size turn.IfsSet t = (is_size ≡ true) × IsRest t.waits
IsTurn is_size turn.GivenUp t = IsRest t.waits
IsTurn is_size turn.Dead t = IsDead t.waits

-- where it is dead, nothing is
pub dead-rests : (waits : Waits) → IsDead waits → IsRest waits
dead-rests dead h = tt
dead-rests idle h = absurd h
dead-rests (ifs size) h = absurd h
dead-rests (ack field rest) h = absurd h
dead-rests (answer field) h = absurd h
dead-rests (more joined) h = absurd h
dead-rests (resynch asked) h = absurd h

-- the size that the terminal takes stays, or is one that any end may ask for
abbrev pub Keeps : Bool → TerminalState → TerminalStep → Type 0
Keeps is_size t (Ok step) = IsAbout is_size step.1.waits × ((step.1.ifsd ≡ t.ifsd) ⊎ (step.1.ifsd ≤ 254))
    × IsTurn is_size step.0 step.1
Keeps is_size t (Err fault) = Unit {0}

repeats : (q : Bool) (t : TerminalState) (sent : Parts) → IsAbout q t.waits → Keeps q t (fails t sent)
repeats q t sent h = either (Keeps q t) (nat_lt t.failures 3) _ _ (h, inl refl, tt) (tt, inl refl, tt)

waits-kept : (q : Bool) (field rest : List ℕ) → q ≡ false → IsAbout q (waiting field rest)
waits-kept q field [] e = e
waits-kept q field (octet ∷ rest) e = e

joins-kept : (q : Bool) (t u : TerminalState) (joined : List ℕ) (goes_on : Bool) → q ≡ false → u.ifsd ≡ t.ifsd
    → Keeps q t (joins u joined goes_on)
joins-kept q t u joined true is e = (is, inl e, tt)
joins-kept q t u joined false is e = (tt, inl e, (is, tt, refl))

exchange-kept : (q : Bool) (t : TerminalState) (came : Came) → IsAbout q t.waits → Keeps q t (in_exchange t came)
exchange-kept q t (got (Info number goes_on) inf) h = repeats q t _ h
exchange-kept q t (got (Ready number inner) inf) h = repeats q t _ h
exchange-kept q t (got (Request Resynch) inf) h = repeats q t _ h
exchange-kept q t (got (Request Ifs) inf) h = (h, inl refl, tt)
exchange-kept q t (got (Request Abort) inf) h = repeats q t _ h
exchange-kept q t (got (Request Wtx) inf) h = (h, inl refl, tt)
exchange-kept q t (got (Response s) inf) h = repeats q t _ h
exchange-kept q t damaged h = repeats q t _ h
exchange-kept q t invalid h = repeats q t _ h
exchange-kept q t quiet h = repeats q t _ h

ack-kept : (q : Bool) (t : TerminalState) (field rest : List ℕ) (came : Came) → q ≡ false → IsAbout q t.waits
    → Keeps q t (in_ack t field rest came)
ack-kept q t field rest (got (Ready number inner) inf) e h =
    either (Keeps q t) (same number t.number) _ _ (repeats q t _ h) (waits-kept q _ _ e, inl refl, tt)
ack-kept q t field rest (got (Info number goes_on) inf) e h = exchange-kept q t (got (Info number goes_on) inf) h
ack-kept q t field rest (got (Request s) inf) e h = exchange-kept q t (got (Request s) inf) h
ack-kept q t field rest (got (Response s) inf) e h = exchange-kept q t (got (Response s) inf) h
ack-kept q t field rest damaged e h = exchange-kept q t damaged h
ack-kept q t field rest invalid e h = exchange-kept q t invalid h
ack-kept q t field rest quiet e h = exchange-kept q t quiet h

answer-kept : (q : Bool) (t : TerminalState) (field : List ℕ) (came : Came) → q ≡ false → IsAbout q t.waits
    → Keeps q t (in_answer t field came)
answer-kept q t field (got (Ready number inner) inf) e h =
    either (Keeps q t) (same number t.number) _ _ (repeats q t _ h) (repeats q t _ h)
answer-kept q t field (got (Info number goes_on) inf) e h =
    either (Keeps q t) (same number t.expected && nat_le (length inf) t.limits.answer) _ _
    (joins-kept q t (record t { number = other t.number }) inf goes_on e refl)
    (exchange-kept q t (got (Info number goes_on) inf) h)
answer-kept q t field (got (Request s) inf) e h = exchange-kept q t (got (Request s) inf) h
answer-kept q t field (got (Response s) inf) e h = exchange-kept q t (got (Response s) inf) h
answer-kept q t field damaged e h = exchange-kept q t damaged h
answer-kept q t field invalid e h = exchange-kept q t invalid h
answer-kept q t field quiet e h = exchange-kept q t quiet h

more-kept : (q : Bool) (t : TerminalState) (joined : List ℕ) (came : Came) → q ≡ false → IsAbout q t.waits
    → Keeps q t (in_more t joined came)
more-kept q t joined (got (Ready number inner) inf) e h = repeats q t _ h
more-kept q t joined (got (Info number goes_on) inf) e h =
    either (Keeps q t) (same number t.expected && nat_le (length joined + length inf) t.limits.answer) _ _
    (joins-kept q t t _ goes_on e refl) (exchange-kept q t (got (Info number goes_on) inf) h)
more-kept q t joined (got (Request s) inf) e h = exchange-kept q t (got (Request s) inf) h
more-kept q t joined (got (Response s) inf) e h = exchange-kept q t (got (Response s) inf) h
more-kept q t joined damaged e h = exchange-kept q t damaged h
more-kept q t joined invalid e h = exchange-kept q t invalid h
more-kept q t joined quiet e h = exchange-kept q t quiet h

asks-on : (q : Bool) (t : TerminalState) (asked : ℕ) → Keeps q t (in_resynch t asked damaged)
asks-on q t asked = either (Keeps q t) (nat_lt asked 3) _ _ (tt, inl refl, tt) (tt, inl refl, tt)

resynch-kept : (q : Bool) (t : TerminalState) (asked : ℕ) (came : Came) → Keeps q t (in_resynch t asked came)
resynch-kept q t asked (got (Response Resynch) inf) = (tt, inr (omega arith), tt)
resynch-kept q t asked (got (Response Ifs) inf) = asks-on q t asked
resynch-kept q t asked (got (Response Abort) inf) = asks-on q t asked
resynch-kept q t asked (got (Response Wtx) inf) = asks-on q t asked
resynch-kept q t asked (got (Request s) inf) = asks-on q t asked
resynch-kept q t asked (got (Info number goes_on) inf) = asks-on q t asked
resynch-kept q t asked (got (Ready number inner) inf) = asks-on q t asked
resynch-kept q t asked damaged = asks-on q t asked
resynch-kept q t asked invalid = asks-on q t asked
resynch-kept q t asked quiet = asks-on q t asked

ifs-kept : (q : Bool) (t : TerminalState) (size : ℕ) (came : Came) → (q ≡ true) × (size ≤ 254) → IsAbout q t.waits
    → Keeps q t (in_ifs t size came)
ifs-kept q t size (got (Response Ifs) inf) k h =
    either (Keeps q t) (carried inf == size) _ _ (tt, inr k.1, (k.0, tt)) (repeats q t _ h)
ifs-kept q t size (got (Response Resynch) inf) k h = repeats q t _ h
ifs-kept q t size (got (Response Abort) inf) k h = repeats q t _ h
ifs-kept q t size (got (Response Wtx) inf) k h = repeats q t _ h
ifs-kept q t size (got (Request s) inf) k h = repeats q t _ h
ifs-kept q t size (got (Info number goes_on) inf) k h = repeats q t _ h
ifs-kept q t size (got (Ready number inner) inf) k h = repeats q t _ h
ifs-kept q t size damaged k h = repeats q t _ h
ifs-kept q t size invalid k h = repeats q t _ h
ifs-kept q t size quiet k h = repeats q t _ h

-- what came is taken
pub came-kept : (q : Bool) (t : TerminalState) (waits : Waits) (came : Came) → IsAbout q t.waits → IsAbout q waits
    → Keeps q t (terminal_came t waits came)
came-kept q t idle came h k = tt
came-kept q t (ack field rest) came h k = ack-kept q t field rest came k h
came-kept q t (answer field) came h k = answer-kept q t field came k h
came-kept q t (more joined) came h k = more-kept q t joined came k h
came-kept q t (ifs size) came h k = ifs-kept q t size came k h
came-kept q t (resynch asked) came h k = resynch-kept q t asked came
came-kept q t dead came h k = tt

begins-kept : (q : Bool) (t : TerminalState) (waits : Waits) (step : TerminalStep) → Keeps q t step
    → Keeps q t (if_idle waits step)
begins-kept q t idle step h = h
begins-kept q t (ack field rest) step h = tt
begins-kept q t (answer field) step h = tt
begins-kept q t (more joined) step h = tt
begins-kept q t (ifs size) step h = tt
begins-kept q t (resynch asked) step h = tt
begins-kept q t dead step h = tt

asked-sends : (waits : Waits) (reserved : Bool) (t : TerminalState) (size : ℕ)
    → turn_of (if_idle waits (if reserved then Err Reserved
    else Ok (turn.Send (request Ifs (size ∷ [])), record t { failures = 0; waits = ifs size }, no_failure)))
    ≡ Ok turn.GivenUp → ⊥
asked-sends idle true t size e = cc
asked-sends idle false t size e = cc
asked-sends (ack field rest) reserved t size e = cc
asked-sends (answer field) reserved t size e = cc
asked-sends (more joined) reserved t size e = cc
asked-sends (ifs other) reserved t size e = cc
asked-sends (resynch asked) reserved t size e = cc
asked-sends dead reserved t size e = cc

begun-sends : (waits : Waits) (fits : Bool) (t : TerminalState) (message : List ℕ)
    → turn_of (if_idle waits (if fits then sends_next t message else Err TooLong)) ≡ Ok turn.GivenUp → ⊥
begun-sends idle true t message e = cc
begun-sends idle false t message e = cc
begun-sends (ack field rest) fits t message e = cc
begun-sends (answer field) fits t message e = cc
begun-sends (more joined) fits t message e = cc
begun-sends (ifs size) fits t message e = cc
begun-sends (resynch asked) fits t message e = cc
begun-sends dead fits t message e = cc

-- and a command is begun, or a size asked for
pub transmit-kept : (t : TerminalState) (message : List ℕ) → Keeps false t (terminal_turn t (transmit message))
transmit-kept t message = begins-kept false t t.waits _
    (either (Keeps false t) (nat_le (length message) t.limits.command) _ _ (waits-kept false _ _ refl, inl refl, tt) tt)

with-test : {A : Type 0} (P : A → Type 0) (b : Bool) (x y : A) → P x → (b ≡ false → P y) → P (if b then x else y)
with-test P true x y h k = h
with-test P false x y h k = k refl

size-small : (size : ℕ) → size < 256 → is_reserved size ≡ false → size ≤ 254
size-small size h e = grind (arith, nat_tests)

pub ask-kept : (t : TerminalState) (size : ℕ) → size < 256 → Keeps true t (terminal_turn t (ask_ifs size))
ask-kept t size h = begins-kept true t t.waits _
    (with-test (Keeps true t) (is_reserved size) _ _ tt (λ e. ((refl, size-small size h e), inl refl, tt)))

-- which gives nothing up
pub transmit-sends : (t : TerminalState) (message : List ℕ)
    → turn_of (terminal_turn t (transmit message)) ≡ Ok turn.GivenUp → ⊥
transmit-sends t message e = begun-sends t.waits (nat_le (length message) t.limits.command)
    (record t { failures = 0; command = message; answered = None }) message e

pub ask-sends : (t : TerminalState) (size : ℕ) → turn_of (terminal_turn t (ask_ifs size)) ≡ Ok turn.GivenUp → ⊥
ask-sends t size e = asked-sends t.waits (is_reserved size) t size e

-- what is under way is about a size where the terminal waits for one
pub about-now : (waits : Waits) (q : Bool) → IsAbout q waits → IsAbout (is_about_size (takes quiet) waits) waits
about-now idle q h = tt
about-now (ack field rest) q h = refl
about-now (answer field) q h = refl
about-now (more joined) q h = refl
about-now (ifs size) q h = (refl, h.1)
about-now (resynch asked) q h = tt
about-now dead q h = tt

-- ---- the card

-- a size that it asks for is one of a field
abbrev pub IsSmallRequest : CardWaits → Type 0
IsSmallRequest (command joined) = Unit {0}
IsSmallRequest host = Unit {0}
IsSmallRequest (reply field rest) = Unit {0}
IsSmallRequest (asking (of_size n)) = n ≤ 254
IsSmallRequest (asking (of_time n)) = Unit {0}

-- and so is each size that it holds
abbrev pub IsSmallCard : CardState → Type 0
IsSmallCard c = (c.ifsc ≤ 254) × (c.first_ifsc ≤ 254) × IsSmallRequest c.waits

abbrev pub CardKeeps : CardStep → Type 0
CardKeeps (Ok step) = IsSmallCard step.1
CardKeeps (Err fault) = Unit {0}

either_way : (c : CardState) (came : Came) → IsSmallCard c → CardKeeps (in_either c came)
either_way c (got (Request Ifs) inf) h = h
either_way c (got (Request Resynch) inf) h = h
either_way c (got (Request Abort) inf) h = h
either_way c (got (Request Wtx) inf) h = h
either_way c (got (Info number goes_on) inf) h = h
either_way c (got (Ready number fault) inf) h = h
either_way c (got (Response kind) inf) h = h
either_way c invalid h = h
either_way c quiet h = h
either_way c damaged h = h

card-joins-kept : (c : CardState) (joined : List ℕ) (goes_on : Bool) → IsSmallCard c
    → CardKeeps (card_joins c joined goes_on)
card-joins-kept c joined true h = (h.0, h.1, tt)
card-joins-kept c joined false h = (h.0, h.1, tt)

card-waits-kept : (field rest : List ℕ) → IsSmallRequest (card_waiting field rest)
card-waits-kept field [] = tt
card-waits-kept field (octet ∷ rest) = tt

saved-kept : (c : CardState) (saved : Option (List ℕ)) (is_own : Bool) → IsSmallCard c
    → CardKeeps (sends_saved c saved is_own)
saved-kept c None true h = h
saved-kept c None false h = h
saved-kept c (Some field) true h = h
saved-kept c (Some field) false h = h

-- the terminal granted its request, or the card asks again
asking-kept : (c : CardState) (asked : CardRequest) (came : Came) → IsSmallCard c → IsSmallRequest (asking asked)
    → CardKeeps (in_asking c asked came)
asking-kept c (of_size n) (got (Response Ifs) inf) h k = either CardKeeps (carried inf == n) _ _ (k, h.1, tt) h
asking-kept c (of_time n) (got (Response Wtx) inf) h k = either CardKeeps (carried inf == n) _ _ (h.0, h.1, tt) h
asking-kept c asked came h k = h

command-kept : (c : CardState) (joined : List ℕ) (came : Came) → IsSmallCard c → CardKeeps (in_command c joined came)
command-kept c joined (got (Info number goes_on) inf) h =
    either CardKeeps (same number c.expected && nat_le (length joined + length inf) c.limits.command) _ _
    (card-joins-kept c (joined ++ inf) goes_on h) (either_way c (got (Info number goes_on) inf) h)
command-kept c joined (got (Ready number fault) inf) h = saved-kept c c.saved (same number c.number) h
command-kept c joined came h = either_way c came h

reply-kept : (c : CardState) (field rest : List ℕ) (came : Came) → IsSmallCard c
    → CardKeeps (in_reply c field rest came)
reply-kept c field rest (got (Ready number fault) inf) h =
    either CardKeeps (same number c.number) _ _ h (h.0, h.1, card-waits-kept _ _)
reply-kept c field rest came h = either_way c came h

-- what came is taken
pub card-came-kept : (c : CardState) (waits : CardWaits) (came : Came) → IsSmallCard c → IsSmallRequest waits
    → CardKeeps (card_came c waits came)
card-came-kept c host came h k = tt
card-came-kept c (command joined) (got (Request Resynch) inf) h k = (h.1, h.1, tt)
card-came-kept c (reply field rest) (got (Request Resynch) inf) h k = (h.1, h.1, tt)
card-came-kept c (asking asked) (got (Request Resynch) inf) h k = (h.1, h.1, tt)
card-came-kept c (command joined) came h k = command-kept c joined came h
card-came-kept c (reply field rest) came h k = reply-kept c field rest came h
card-came-kept c (asking asked) came h k = asking-kept c asked came h k

if_host-kept : (waits : CardWaits) (step : CardStep) → CardKeeps step → CardKeeps (if_host waits step)
if_host-kept host step h = h
if_host-kept (command joined) step h = tt
if_host-kept (reply field rest) step h = tt
if_host-kept (asking asked) step h = tt

-- its host replies
pub replies-kept : (c : CardState) (octets : List ℕ) → IsSmallCard c → CardKeeps (card_turn c (replies octets))
replies-kept c octets h = if_host-kept c.waits _
    (either CardKeeps (nat_le (length octets) c.limits.answer) _ _ (h.0, h.1, card-waits-kept _ _) tt)

-- or it asks for something
pub request-kept : (c : CardState) (request : CardRequest) → IsOctet request → IsSmallCard c
    → CardKeeps (card_turn c (input_of request))
request-kept c (of_size n) octet h = if_host-kept c.waits _
    (with-test CardKeeps (is_reserved n) _ _ tt (λ e. (h.0, h.1, size-small n octet e)))
request-kept c (of_time n) octet h = if_host-kept c.waits _ (h.0, h.1, tt)
