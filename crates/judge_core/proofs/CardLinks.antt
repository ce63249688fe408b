-- What a card of `t1_core` knows of the terminal.
use Rattle.std.proofs.Common.{◌≡◌, ℕ, List, [], ◌∷◌, length, refl}
use Rattle.std.specs.Prelude.{Bool, true, false, ◌==◌, if◌then◌else◌, nat_le, nat_lt, Option, Some, None, Ok, Err}
use Rattle.t1_core.specs.Came.{Came, got, damaged, invalid, quiet, same, carried}
use Rattle.t1_core.specs.Terminal.{TerminalInput, transmit, ask_ifs as ask_size, if_idle, is_reserved, Limits, TerminalState, TerminalStep, Waits, idle, ack, answer, more, ifs, resynch, dead, fails, in_exchange, in_ack, in_answer, in_more, in_ifs, in_resynch, terminal_came, terminal_turn, takes, waiting, most_repeats, most_resynchs}
use Rattle.t1_core.specs.Card.{CardRequest, CardState, Waits as CardWaits, command, host, reply, asking, waiting as card_waiting}
use Rattle.block_core.specs.Block.{Parts, other}
use Rattle.block_core.specs.declared.pcb.S.TheVariants.{Resynch, Ifs, Abort, Wtx}
use Rattle.block_core.specs.declared.pcb.Number.{Number}
use Rattle.block_core.specs.declared.pcb.Number.TheVariants.{Zero, One}
use Rattle.judge_core.specs.Missed.{IsWithin}
use Rattle.judge_core.proofs.Terminals.{IsOk}
use Rattle.block_core.specs.declared.pcb.Pcb.TheVariants.{Info, Ready, Request, Response}
use Rattle.t1_core.specs.Link.{Link, UnderWay, nothing, to_card, to_terminal}
use Rattle.t1_core.proofs.Good.{Good, at_rest, size_asked, size_taken, size_doubted, asks_resynch, resynched, resynch_doubted, over, sends, sends_asked, sends_doubted, taken_asked, taken_told, served, size_wanted, size_given, size_missed, time_wanted, time_given, time_missed, replying, replies_asked, replies_doubted, joined_told, joined_doubted, Ear, ear_waits, first, further}
use Rattle.t1_core.specs.declared.turns.TerminalTurn.{TerminalTurn}
use Rattle.t1_core.specs.declared.turns.TerminalTurn.TheVariants.{Send as Sends, Answered, IfsSet, GivenUp, Dead}
use Rattle.judge_core.proofs.Terminals.{IsCall as IsTerminalCall}
use Rattle.judge_core.proofs.OpenCards.{AsksAnew, AsksOwn, AsksReady, AsksRequest, IsAfterQuiet}
use Rattle.judge_core.proofs.MissedCards.{Due}
use Rattle.judge_core.proofs.SeenLinks.{differs, same_one}
use Rattle.judge_core.proofs.Cards.{IsAnew, IsCommand, IsInfo as IsCardInfo, IsOwnSaved, IsOwnWaits as CardOwns}
use Rattle.std.proofs.Common.{inl, inr, sym, subst, ◌⊎◌}
use Rattle.t1_core.specs.Card.{number_after, saving}

-- the terminal asked for RESYNCH, or is dead
abbrev pub IsBegun : Waits → Type 0
IsBegun idle = ⊥
IsBegun (ack field rest) = ⊥
IsBegun (answer field) = ⊥
IsBegun (more joined) = ⊥
IsBegun (ifs n) = ⊥
IsBegun (resynch asked) = Unit {0}
IsBegun dead = Unit {0}

-- it is in an exchange, or asked for RESYNCH after one
abbrev pub IsExchange : Waits → Type 0
IsExchange idle = ⊥
IsExchange (ack field rest) = Unit {0}
IsExchange (answer field) = Unit {0}
IsExchange (more joined) = Unit {0}
IsExchange (ifs n) = ⊥
IsExchange (resynch asked) = Unit {0}
IsExchange dead = Unit {0}

abbrev pub Awaiting : TerminalState → Number → Type 0
Awaiting t = λ n. t.expected ≡ n

-- ---- what comes to the terminal changes neither, but for an I-block and the response to RESYNCH

abbrev pub KeepsAwaiting : Came → Type 0
KeepsAwaiting (got (Info number goes_on) inf) = ⊥
KeepsAwaiting (got (Ready number fault) inf) = Unit {0}
KeepsAwaiting (got (Request s) inf) = Unit {0}
KeepsAwaiting (got (Response Resynch) inf) = ⊥
KeepsAwaiting (got (Response Ifs) inf) = Unit {0}
KeepsAwaiting (got (Response Abort) inf) = Unit {0}
KeepsAwaiting (got (Response Wtx) inf) = Unit {0}
KeepsAwaiting damaged = Unit {0}
KeepsAwaiting invalid = Unit {0}
KeepsAwaiting quiet = Unit {0}

abbrev pub AwaitsSame : TerminalState → TerminalStep → Type 0
AwaitsSame t (Ok step) = step.1.expected ≡ t.expected
AwaitsSame t (Err fault) = Unit {0}

awaits_if : (t : TerminalState) (b : Bool) (x y : TerminalStep) → AwaitsSame t x → AwaitsSame t y
    → AwaitsSame t (if b then x else y)
awaits_if t true x y h k = h
awaits_if t false x y h k = k

awaits_fails : (t : TerminalState) (b : Parts) → AwaitsSame t (fails t b)
awaits_fails t b = awaits_if t (nat_lt t.failures most_repeats) _ _ refl refl

awaits_exchange : (t : TerminalState) (came : Came) → KeepsAwaiting came → AwaitsSame t (in_exchange t came)
awaits_exchange t (got (Info number goes_on) inf) h = absurd h
awaits_exchange t (got (Ready number fault) inf) h = awaits_fails t _
awaits_exchange t (got (Request Resynch) inf) h = awaits_fails t _
awaits_exchange t (got (Request Ifs) inf) h = refl
awaits_exchange t (got (Request Abort) inf) h = awaits_fails t _
awaits_exchange t (got (Request Wtx) inf) h = refl
awaits_exchange t (got (Response s) inf) h = awaits_fails t _
awaits_exchange t damaged h = awaits_fails t _
awaits_exchange t invalid h = awaits_fails t _
awaits_exchange t quiet h = awaits_fails t _

awaits_resynch : (t : TerminalState) (asked : ℕ) (came : Came) → KeepsAwaiting came
    → AwaitsSame t (in_resynch t asked came)
awaits_resynch t asked (got (Info number goes_on) inf) h = absurd h
awaits_resynch t asked (got (Ready number fault) inf) h = awaits_if t (nat_lt asked most_resynchs) _ _ refl refl
awaits_resynch t asked (got (Request s) inf) h = awaits_if t (nat_lt asked most_resynchs) _ _ refl refl
awaits_resynch t asked (got (Response Resynch) inf) h = absurd h
awaits_resynch t asked (got (Response Ifs) inf) h = awaits_if t (nat_lt asked most_resynchs) _ _ refl refl
awaits_resynch t asked (got (Response Abort) inf) h = awaits_if t (nat_lt asked most_resynchs) _ _ refl refl
awaits_resynch t asked (got (Response Wtx) inf) h = awaits_if t (nat_lt asked most_resynchs) _ _ refl refl
awaits_resynch t asked damaged h = awaits_if t (nat_lt asked most_resynchs) _ _ refl refl
awaits_resynch t asked invalid h = awaits_if t (nat_lt asked most_resynchs) _ _ refl refl
awaits_resynch t asked quiet h = awaits_if t (nat_lt asked most_resynchs) _ _ refl refl

awaits_ifs : (t : TerminalState) (n : ℕ) (came : Came) → AwaitsSame t (in_ifs t n came)
awaits_ifs t n (got (Response Ifs) inf) = awaits_if t (carried inf == n) _ _ refl (awaits_fails t _)
awaits_ifs t n (got (Info number goes_on) inf) = awaits_fails t _
awaits_ifs t n (got (Ready number fault) inf) = awaits_fails t _
awaits_ifs t n (got (Request s) inf) = awaits_fails t _
awaits_ifs t n (got (Response Resynch) inf) = awaits_fails t _
awaits_ifs t n (got (Response Abort) inf) = awaits_fails t _
awaits_ifs t n (got (Response Wtx) inf) = awaits_fails t _
awaits_ifs t n damaged = awaits_fails t _
awaits_ifs t n invalid = awaits_fails t _
awaits_ifs t n quiet = awaits_fails t _

awaits_ack : (t : TerminalState) (field rest : List ℕ) (came : Came) → KeepsAwaiting came
    → AwaitsSame t (in_ack t field rest came)
awaits_ack t field rest (got (Ready number fault) inf) h =
    awaits_if t (same number t.number) _ _ (awaits_fails t _) refl
awaits_ack t field rest (got (Info number goes_on) inf) h = absurd h
awaits_ack t field rest (got (Request s) inf) h = awaits_exchange t (got (Request s) inf) h
awaits_ack t field rest (got (Response s) inf) h = awaits_fails t _
awaits_ack t field rest damaged h = awaits_fails t _
awaits_ack t field rest invalid h = awaits_fails t _
awaits_ack t field rest quiet h = awaits_fails t _

awaits_answer : (t : TerminalState) (field : List ℕ) (came : Came) → KeepsAwaiting came
    → AwaitsSame t (in_answer t field came)
awaits_answer t field (got (Ready number fault) inf) h =
    awaits_if t (same number t.number) _ _ (awaits_fails t _) (awaits_fails t _)
awaits_answer t field (got (Info number goes_on) inf) h = absurd h
awaits_answer t field (got (Request s) inf) h = awaits_exchange t (got (Request s) inf) h
awaits_answer t field (got (Response s) inf) h = awaits_fails t _
awaits_answer t field damaged h = awaits_fails t _
awaits_answer t field invalid h = awaits_fails t _
awaits_answer t field quiet h = awaits_fails t _

awaits_more : (t : TerminalState) (joined : List ℕ) (came : Came) → KeepsAwaiting came
    → AwaitsSame t (in_more t joined came)
awaits_more t joined (got (Ready number fault) inf) h = awaits_fails t _
awaits_more t joined (got (Info number goes_on) inf) h = absurd h
awaits_more t joined (got (Request s) inf) h = awaits_exchange t (got (Request s) inf) h
awaits_more t joined (got (Response s) inf) h = awaits_fails t _
awaits_more t joined damaged h = awaits_fails t _
awaits_more t joined invalid h = awaits_fails t _
awaits_more t joined quiet h = awaits_fails t _

awaits_came : (waits : Waits) (t : TerminalState) (came : Came) → KeepsAwaiting came
    → AwaitsSame t (terminal_came t waits came)
awaits_came idle t came h = tt
awaits_came (ack field rest) t came h = awaits_ack t field rest came h
awaits_came (answer field) t came h = awaits_answer t field came h
awaits_came (more joined) t came h = awaits_more t joined came h
awaits_came (ifs n) t came h = awaits_ifs t n came
awaits_came (resynch asked) t came h = awaits_resynch t asked came h
awaits_came dead t came h = tt

pub terminal_awaits : (t : TerminalState) (came : Came) → KeepsAwaiting came
    → AwaitsSame t (terminal_turn t (takes came))
terminal_awaits t came h = awaits_came t.waits t came h

-- ---- RESYNCH goes on until it is answered

abbrev pub IsAnewCame : Came → Type 0
IsAnewCame (got (Info number goes_on) inf) = ⊥
IsAnewCame (got (Ready number fault) inf) = ⊥
IsAnewCame (got (Request s) inf) = ⊥
IsAnewCame (got (Response Resynch) inf) = Unit {0}
IsAnewCame (got (Response Ifs) inf) = ⊥
IsAnewCame (got (Response Abort) inf) = ⊥
IsAnewCame (got (Response Wtx) inf) = ⊥
IsAnewCame damaged = ⊥
IsAnewCame invalid = ⊥
IsAnewCame quiet = ⊥

abbrev pub BegunIn : TerminalStep → Type 0
BegunIn (Ok step) = IsBegun step.1.waits
BegunIn (Err fault) = Unit {0}

begun_if : (b : Bool) (x y : TerminalStep) → BegunIn x → BegunIn y → BegunIn (if b then x else y)
begun_if true x y h k = h
begun_if false x y h k = k

begun_resynch : (t : TerminalState) (asked : ℕ) (came : Came) → (IsAnewCame came → ⊥)
    → BegunIn (in_resynch t asked came)
begun_resynch t asked (got (Response Resynch) inf) h = absurd (h tt)
begun_resynch t asked (got (Info number goes_on) inf) h = begun_if (nat_lt asked most_resynchs) _ _ tt tt
begun_resynch t asked (got (Ready number fault) inf) h = begun_if (nat_lt asked most_resynchs) _ _ tt tt
begun_resynch t asked (got (Request s) inf) h = begun_if (nat_lt asked most_resynchs) _ _ tt tt
begun_resynch t asked (got (Response Ifs) inf) h = begun_if (nat_lt asked most_resynchs) _ _ tt tt
begun_resynch t asked (got (Response Abort) inf) h = begun_if (nat_lt asked most_resynchs) _ _ tt tt
begun_resynch t asked (got (Response Wtx) inf) h = begun_if (nat_lt asked most_resynchs) _ _ tt tt
begun_resynch t asked damaged h = begun_if (nat_lt asked most_resynchs) _ _ tt tt
begun_resynch t asked invalid h = begun_if (nat_lt asked most_resynchs) _ _ tt tt
begun_resynch t asked quiet h = begun_if (nat_lt asked most_resynchs) _ _ tt tt

begun_came : (waits : Waits) (t : TerminalState) (came : Came) → (IsAnewCame came → ⊥) → IsBegun waits
    → BegunIn (terminal_came t waits came)
begun_came idle t came h b = absurd b
begun_came (ack field rest) t came h b = absurd b
begun_came (answer field) t came h b = absurd b
begun_came (more joined) t came h b = absurd b
begun_came (ifs n) t came h b = absurd b
begun_came (resynch asked) t came h b = begun_resynch t asked came h
begun_came dead t came h b = tt

pub terminal_begun : (t : TerminalState) (came : Came) → (IsAnewCame came → ⊥) → IsBegun t.waits
    → BegunIn (terminal_turn t (takes came))
terminal_begun t came h b = begun_came t.waits t came h b

-- ---- what the terminal does when its waiting time ended

abbrev pub IsDead : Waits → Type 0
IsDead idle = ⊥
IsDead (ack field rest) = ⊥
IsDead (answer field) = ⊥
IsDead (more joined) = ⊥
IsDead (ifs n) = ⊥
IsDead (resynch asked) = ⊥
IsDead dead = Unit {0}

abbrev pub AfterQuietTurn : TerminalTurn → Waits → Type 0
AfterQuietTurn (Sends b) waits = IsAfterQuiet b.pcb
AfterQuietTurn Answered waits = ⊥
AfterQuietTurn IfsSet waits = ⊥
AfterQuietTurn GivenUp waits = ⊥
AfterQuietTurn Dead waits = IsDead waits

abbrev pub QuietStep : TerminalState → TerminalStep → Type 0
QuietStep t (Ok step) = (IsExchange t.waits → IsExchange step.1.waits) × AfterQuietTurn step.0 step.1.waits
QuietStep t (Err fault) = Unit {0}

quiet_if : (t : TerminalState) (b : Bool) (x y : TerminalStep) → QuietStep t x → QuietStep t y
    → QuietStep t (if b then x else y)
quiet_if t true x y h k = h
quiet_if t false x y h k = k

quiet_fails : (t : TerminalState) (b : Parts) → IsAfterQuiet b.pcb → QuietStep t (fails t b)
quiet_fails t b h = quiet_if t (nat_lt t.failures most_repeats) _ _ ((λ e. e), h) ((λ e. tt), tt)

quiet_came : (waits : Waits) (t : TerminalState) → QuietStep t (terminal_came t waits quiet)
quiet_came idle t = tt
quiet_came (ack field rest) t = quiet_fails t _ tt
quiet_came (answer field) t = quiet_fails t _ tt
quiet_came (more joined) t = quiet_fails t _ tt
quiet_came (ifs n) t = quiet_fails t _ tt
quiet_came (resynch asked) t = quiet_if t (nat_lt asked most_resynchs) _ _ ((λ e. tt), tt) ((λ e. tt), tt)
quiet_came dead t = tt

pub terminal_quiet : (t : TerminalState) → QuietStep t (terminal_turn t (takes quiet))
terminal_quiet t = quiet_came t.waits t

-- ---- a call of the application

call_if : (waits : Waits) (t : TerminalState) (step : TerminalStep) → AwaitsSame t step
    → AwaitsSame t (if_idle waits step)
call_if idle t step h = h
call_if dead t step h = tt
call_if (ack field rest) t step h = tt
call_if (answer field) t step h = tt
call_if (more joined) t step h = tt
call_if (ifs n) t step h = tt
call_if (resynch asked) t step h = tt

pub call_awaits : (t : TerminalState) (input : TerminalInput) → IsTerminalCall input
    → AwaitsSame t (terminal_turn t input)
call_awaits t (transmit m) h = call_if t.waits t _ (awaits_if t (nat_le (length m) t.limits.command) _ _ refl tt)
call_awaits t (ask_size n) h = call_if t.waits t _ (awaits_if t (is_reserved n) _ _ tt refl)
call_awaits t (takes came) h = absurd h

-- ---- the block under way

-- what a block of the terminal may be
pub record ToCard (t : TerminalState) (c : CardState) (b : Parts) : Type 0 where
  pub due : Due (Awaiting t) (IsBegun t.waits) (IsExchange t.waits) c b.pcb
  pub own : (inf : List ℕ) → CardOwns c.saved c.waits → t.expected ≡ c.number
      → AsksOwn c.number (got b.pcb inf) × IsAfterQuiet b.pcb
  pub anew : (inf : List ℕ) → IsCommand c.waits → IsBegun t.waits → AsksAnew (got b.pcb inf) × IsAfterQuiet b.pcb
  pub ready : (inf : List ℕ) → IsCommand c.waits → IsExchange t.waits
      → (c.saved ≡ None) ⊎ (t.expected ≡ c.number → ⊥) → IsAfterQuiet b.pcb → AsksReady c (got b.pcb inf)
  pub request : (inf : List ℕ) (asked : CardRequest) → c.waits ≡ asking asked → IsAfterQuiet b.pcb
      → AsksRequest (got b.pcb inf)

-- and one of the card
pub record ToTerminal (t : TerminalState) (c : CardState) (b : Parts) : Type 0 where
  pub within : IsWithin c.ifsd b.pcb b.inf
  pub own : IsCardInfo b.pcb → t.expected ≡ c.number
  pub anew : IsAnew b.pcb → IsBegun t.waits

abbrev pub CardKnown : UnderWay → TerminalState → CardState → Type 0
CardKnown nothing t c = Unit {0}
CardKnown (to_card b) t c = ToCard t c b
CardKnown (to_terminal b) t c = ToTerminal t c b

after_saved : {A : Type 0} (saved : Option (List ℕ)) (c : Number) → IsOwnSaved saved → number_after saved c ≡ c → A
after_saved None c own h = absurd own
after_saved (Some field) c own h = differs c h

was_taken : (saved : Option (List ℕ)) (c : Number) → (saved ≡ None) ⊎ (number_after saved c ≡ c → ⊥)
was_taken None c = inl refl
was_taken (Some field) c = inr (λ h. differs c h)

other_not : (c : Number) → same (other c) c ≡ false
other_not Zero = refl
other_not One = refl

saved_ready : (saved : Option (List ℕ)) (c : Number) → (saved ≡ None) ⊎ (same (number_after saved c) c ≡ false)
saved_ready None c = inl refl
saved_ready (Some field) c = inr (other_not c)

abbrev Asks : CardWaits → Type 0
Asks (command joined) = ⊥
Asks host = ⊥
Asks (reply field rest) = ⊥
Asks (asking asked) = Unit {0}

asks_not : {A : Type 0} (waits : CardWaits) (asked : CardRequest) → (Asks waits → ⊥) → waits ≡ asking asked → A
asks_not waits asked h is = absurd (h (subst Asks (sym is) tt))

sent_exchange : (field rest : List ℕ) → IsExchange (waiting field rest)
sent_exchange field [] = tt
sent_exchange field (x ∷ rest) = tt

sent_begun : {A : Type 0} (field rest : List ℕ) → IsBegun (waiting field rest) → A
sent_begun field [] h = absurd h
sent_begun field (x ∷ rest) h = absurd h

ear_begun : {A : Type 0} (ear : Ear) → IsBegun (ear_waits ear) → A
ear_begun (first field) h = absurd h
ear_begun (further joined) h = absurd h

card_waits_not : (field rest : List ℕ) → Asks (card_waiting field rest) → ⊥
card_waits_not field [] h = h
card_waits_not field (x ∷ rest) h = h

some_saved : {A : Type 0} (field : List ℕ) → ◌≡◌ {A = Option (List ℕ)} (Some field) None → A
some_saved field h = absurd (subst IsOwnSaved h tt)

reply_ready : {A : Type 0} (field rest : List ℕ) (c : Number) → IsCommand (card_waiting field rest)
    → (saving None field rest ≡ None) ⊎ (c ≡ c → ⊥) → A
reply_ready field [] c now (inl h) = some_saved field h
reply_ready field [] c now (inr h) = absurd (h refl)
reply_ready field (x ∷ rest) c now h = absurd now

pub card_known : {P : Type 0} {kt kc : Limits} (l : Link) → Good P kt kc l
    → CardKnown l.under_way l.terminal l.card
card_known l (at_rest u ok) = tt
card_known l (size_asked {s = s} {c = c} {saved = saved} u ok) = record {
  due = tt;
  own = λ inf own h. after_saved saved c own h;
  anew = λ inf now h. absurd h;
  ready = λ inf now h taken quiet_now. absurd h;
  request = λ inf asked is quiet_now. asks_not (command []) asked (λ h. h) is;
}
card_known l (size_taken u ok) = record { within = tt; own = λ h. absurd h; anew = λ h. absurd h }
card_known l (size_doubted u ok) = record { within = tt; own = λ h. absurd h; anew = λ h. absurd h }
card_known l (asks_resynch w u nh ok) = record {
  due = tt;
  own = λ inf own h. (tt, tt);
  anew = λ inf now h. (tt, tt);
  ready = λ inf now h taken quiet_now. tt;
  request = λ inf asked is quiet_now. tt;
}
card_known l (resynched u ok) = record { within = tt; own = λ h. absurd h; anew = λ h. tt }
card_known l (resynch_doubted w (Info number goes_on) u nh plain ok) = absurd plain
card_known l (resynch_doubted w (Ready number fault) u nh plain ok) =
    record { within = tt; own = λ h. absurd h; anew = λ h. absurd h }
card_known l (resynch_doubted w (Request kind) u nh plain ok) =
    record { within = tt; own = λ h. absurd h; anew = λ h. absurd h }
card_known l (resynch_doubted w (Response kind) u nh plain ok) = absurd plain
card_known l (over w u nh ok) = tt
card_known l (sends joined field rest {s = s} {c = c} u e p q ok) = record {
  due = (tt, sent_exchange field rest, was_taken l.card.saved c);
  own = λ inf own h. after_saved l.card.saved c own h;
  anew = λ inf now h. sent_begun field rest h;
  ready = λ inf now h taken quiet_now. absurd quiet_now;
  request = λ inf asked is quiet_now. absurd quiet_now;
}
card_known l (sends_asked joined field rest {s = s} {c = c} u e p q ok) = record {
  due = tt;
  own = λ inf own h. after_saved l.card.saved c own h;
  anew = λ inf now h. sent_begun field rest h;
  ready = λ inf now h taken quiet_now. saved_ready l.card.saved c;
  request = λ inf asked is quiet_now. tt;
}
card_known l (sends_doubted joined field rest u e p q ok) =
    record { within = tt; own = λ h. absurd h; anew = λ h. absurd h }
card_known l (taken_asked u e p ok) = record {
  due = tt;
  own = λ inf own h. absurd own;
  anew = λ inf now h. absurd h;
  ready = λ inf now h taken quiet_now. inl refl;
  request = λ inf asked is quiet_now. tt;
}
card_known l (taken_told u e p ok) = record { within = tt; own = λ h. absurd h; anew = λ h. absurd h }
card_known l (served u ok) = tt
card_known l (size_wanted u ok) = record { within = tt; own = λ h. absurd h; anew = λ h. absurd h }
card_known l (size_given u ok) = record {
  due = tt;
  own = λ inf own h. absurd own;
  anew = λ inf now h. absurd now;
  ready = λ inf now h taken quiet_now. absurd now;
  request = λ inf asked is quiet_now. absurd quiet_now;
}
card_known l (size_missed u ok) = record {
  due = tt;
  own = λ inf own h. absurd own;
  anew = λ inf now h. absurd now;
  ready = λ inf now h taken quiet_now. absurd now;
  request = λ inf asked is quiet_now. tt;
}
card_known l (time_wanted u ok) = record { within = tt; own = λ h. absurd h; anew = λ h. absurd h }
card_known l (time_given u ok) = record {
  due = tt;
  own = λ inf own h. absurd own;
  anew = λ inf now h. absurd now;
  ready = λ inf now h taken quiet_now. absurd now;
  request = λ inf asked is quiet_now. absurd quiet_now;
}
card_known l (time_missed u ok) = record {
  due = tt;
  own = λ inf own h. absurd own;
  anew = λ inf now h. absurd now;
  ready = λ inf now h taken quiet_now. absurd now;
  request = λ inf asked is quiet_now. tt;
}
card_known l (replying ear field rest u e p q ok) =
    record { within = q; own = λ h. refl; anew = λ h. absurd h }
card_known l (replies_asked ear field rest {c = c} u e p q ok) = record {
  due = tt;
  own = λ inf own h. (same_one c, tt);
  anew = λ inf now h. ear_begun ear h;
  ready = λ inf now h taken quiet_now. reply_ready field rest c now taken;
  request = λ inf asked is quiet_now. tt;
}
card_known l (replies_doubted ear field rest u e p q ok) =
    record { within = tt; own = λ h. absurd h; anew = λ h. absurd h }
card_known l (joined_told {c = c} u e p ok) = record {
  due = tt;
  own = λ inf own h. differs c h;
  anew = λ inf now h. absurd h;
  ready = λ inf now h taken quiet_now. absurd now;
  request = λ inf asked is quiet_now. tt;
}
card_known l (joined_doubted u e p ok) = record { within = tt; own = λ h. absurd h; anew = λ h. absurd h }

-- a dead terminal accepts no call
dead_if : {A : Type 0} (waits : Waits) (step : TerminalStep) → IsOk (if_idle waits step) → IsDead waits → A
dead_if idle step ok h = absurd h
dead_if dead step ok h = absurd ok
dead_if (ack field rest) step ok h = absurd h
dead_if (answer field) step ok h = absurd h
dead_if (more joined) step ok h = absurd h
dead_if (ifs n) step ok h = absurd h
dead_if (resynch asked) step ok h = absurd h

pub dead_calls : {A : Type 0} (t : TerminalState) (input : TerminalInput) → IsTerminalCall input
    → IsOk (terminal_turn t input) → IsDead t.waits → A
dead_calls t (transmit m) h ok = dead_if t.waits _ ok
dead_calls t (ask_size n) h ok = dead_if t.waits _ ok
dead_calls t (takes came) h ok = absurd h

pub begun_not_rest : {A : Type 0} (waits : Waits) (step : TerminalStep) → IsOk (if_idle waits step) → IsBegun waits → A
begun_not_rest idle step ok h = absurd h
begun_not_rest dead step ok h = absurd ok
begun_not_rest (ack field rest) step ok h = absurd h
begun_not_rest (answer field) step ok h = absurd h
begun_not_rest (more joined) step ok h = absurd h
begun_not_rest (ifs n) step ok h = absurd h
begun_not_rest (resynch asked) step ok h = absurd ok

pub begun_calls : {A : Type 0} (t : TerminalState) (input : TerminalInput) → IsTerminalCall input
    → IsOk (terminal_turn t input) → IsBegun t.waits → A
begun_calls t (transmit m) h ok = begun_not_rest t.waits _ ok
begun_calls t (ask_size n) h ok = begun_not_rest t.waits _ ok
begun_calls t (takes came) h ok = absurd h
