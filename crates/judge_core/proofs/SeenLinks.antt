-- What is known of the block under way between a terminal and a card of `t1_core`.
use Rattle.std.proofs.Common.{ap, true≢false, ◌≡◌, ℕ, ◌+◌, List, [], ◌∷◌, ◌++◌, length, refl}
use Rattle.std.specs.Prelude.{Bool, true, false, ◌&&◌, ◌==◌, if◌then◌else◌, nat_le, nat_lt, Option, Some, None, Ok, Err}
use Rattle.t1_core.specs.Came.{Came, got, damaged, invalid, quiet, same, carried}
use Rattle.t1_core.specs.Terminal.{is_reserved, Limits, TerminalState, TerminalStep, Waits, idle, ack, answer, more, ifs, resynch, dead, fails, joins, in_exchange, in_ack, in_answer, in_more, in_ifs, in_resynch, terminal_came, terminal_turn, takes, waiting, most_repeats, most_resynchs}
use Rattle.t1_core.specs.Card.{CardInput, if_host, replies, more_time, ask_ifs, CardRequest, CardState, CardStep, Waits as CardWaits, command, host, reply, asking, size, time, card_came, card_turn, in_asking, in_command, in_either, in_reply, joins as card_joins, sends_saved, takes as card_takes, waiting as card_waiting}
use Rattle.block_core.specs.Block.{Parts, other}
use Rattle.block_core.specs.declared.pcb.S.TheVariants.{Resynch, Ifs, Abort, Wtx}
use Rattle.block_core.specs.declared.pcb.Number.{Number}
use Rattle.block_core.specs.declared.pcb.Number.TheVariants.{Zero, One}
use Rattle.judge_core.specs.Missed.{IsWithin}
use Rattle.judge_core.proofs.OpenTerminals.{AsksAgain, IsOwnWaits}
use Rattle.judge_core.proofs.Terminals.{IsBusy, IsInfo, IsOk}
use Rattle.judge_core.proofs.Cards.{IsCall as IsCardCall, AwaitsBlock, IsOk as CardIsOk}
use Rattle.block_core.specs.declared.pcb.Pcb.TheVariants.{Info, Ready, Request, Response}
use Rattle.t1_core.specs.Link.{Link, UnderWay, nothing, to_card, to_terminal}
use Rattle.t1_core.proofs.Good.{Good, at_rest, size_asked, size_taken, size_doubted, asks_resynch, resynched, resynch_doubted, over, sends, sends_asked, sends_doubted, taken_asked, taken_told, served, size_wanted, size_given, size_missed, time_wanted, time_given, time_missed, replying, replies_asked, replies_doubted, joined_told, joined_doubted, Ear, ear_number, ear_waits, first, further}
use Rattle.judge_core.proofs.SeenTerminals as terminals
use Rattle.judge_core.proofs.SeenCards as cards

-- a block of the terminal: its address, where it is sent, its length, and that an I-block is the next one to the card
pub record FromTerminal (t : TerminalState) (c : CardState) (b : Parts) : Type 0 where
  pub nad : b.nad ≡ 0
  pub talks : terminals.TalksIn b.pcb t.waits
  pub within : IsWithin t.ifsc b.pcb b.inf
  pub lags : IsInfo ⊥ b.pcb → c.expected ≡ t.number

-- a block of the card: a card that didn't take the terminal's I-block asks for it
pub record FromCard (t : TerminalState) (c : CardState) (b : Parts) : Type 0 where
  pub nad : b.nad ≡ 0
  pub talks : cards.TalksIn b.pcb c.waits
  pub asks : (inf : List ℕ) → IsOwnWaits t.waits → c.expected ≡ t.number → AsksAgain t.number (got b.pcb inf)

abbrev pub Known : UnderWay → TerminalState → CardState → Type 0
Known nothing t c = Unit {0}
Known (to_card b) t c = FromTerminal t c b
Known (to_terminal b) t c = FromCard t c b

talk_waiting : (field rest : List ℕ) → terminals.IsTalk (waiting field rest)
talk_waiting field [] = tt
talk_waiting field (octet ∷ rest) = tt

card_talk_waiting : (field rest : List ℕ) → cards.IsTalk (card_waiting field rest)
card_talk_waiting field [] = tt
card_talk_waiting field (octet ∷ rest) = tt

pub same_one : (x : Number) → same x x ≡ true
same_one Zero = refl
same_one One = refl

pub differs : {T : Type 0} (x : Number) → other x ≡ x → T
differs Zero h = absurd (true≢false (ap (λ (n : Number). same n One) h))
differs One h = absurd (true≢false (ap (λ (n : Number). same n Zero) h))

ear_asks : (ear : Ear) (s : Number) {T : Type 0} → IsOwnWaits (ear_waits ear) → ear_number s ear ≡ s → T
ear_asks (first field) s own h = differs s h
ear_asks (further joined) s own h = absurd own

pub known : {P : Type 0} {kt kc : Limits} (l : Link) → Good P kt kc l
    → Known l.under_way l.terminal l.card
known l (at_rest u ok) = tt
known l (size_asked u ok) = record { nad = refl; talks = tt; within = tt; lags = λ h. absurd h }
known l (size_taken u ok) = record { nad = refl; talks = tt; asks = λ inf own h. absurd own }
known l (size_doubted u ok) = record { nad = refl; talks = tt; asks = λ inf own h. absurd own }
known l (asks_resynch w u nh ok) = record { nad = refl; talks = tt; within = tt; lags = λ h. absurd h }
known l (resynched u ok) = record { nad = refl; talks = tt; asks = λ inf own h. absurd own }
known l (resynch_doubted w (Info number goes_on) u nh plain ok) = absurd plain
known l (resynch_doubted w (Ready number fault) u nh plain ok) =
    record { nad = refl; talks = tt; asks = λ inf own h. absurd own }
known l (resynch_doubted w (Request kind) u nh plain ok) =
    record { nad = refl; talks = tt; asks = λ inf own h. absurd own }
known l (resynch_doubted w (Response kind) u nh plain ok) = absurd plain
known l (over w u nh ok) = tt
known l (sends joined field rest u e p q ok) =
    record { nad = refl; talks = talk_waiting field rest; within = q; lags = λ h. refl }
known l (sends_asked joined field rest u e p q ok) =
    record { nad = refl; talks = tt; within = tt; lags = λ h. absurd h }
known l (sends_doubted joined field rest {s = s} u e p q ok) =
    record { nad = refl; talks = tt; asks = λ inf own h. same_one s }
known l (taken_asked u e p ok) = record { nad = refl; talks = tt; within = tt; lags = λ h. absurd h }
known l (taken_told {s = s} u e p ok) = record { nad = refl; talks = tt; asks = λ inf own h. differs s h }
known l (served u ok) = tt
known l (size_wanted {s = s} u ok) = record { nad = refl; talks = tt; asks = λ inf own h. differs s h }
known l (size_given u ok) = record { nad = refl; talks = tt; within = tt; lags = λ h. absurd h }
known l (size_missed u ok) = record { nad = refl; talks = tt; within = tt; lags = λ h. absurd h }
known l (time_wanted {s = s} u ok) = record { nad = refl; talks = tt; asks = λ inf own h. differs s h }
known l (time_given u ok) = record { nad = refl; talks = tt; within = tt; lags = λ h. absurd h }
known l (time_missed u ok) = record { nad = refl; talks = tt; within = tt; lags = λ h. absurd h }
known l (replying ear field rest {s = s} u e p q ok) =
    record { nad = refl; talks = card_talk_waiting field rest; asks = λ inf own h. ear_asks ear s own h }
known l (replies_asked ear field rest u e p q ok) =
    record { nad = refl; talks = tt; within = tt; lags = λ h. absurd h }
known l (replies_doubted ear field rest {s = s} u e p q ok) =
    record { nad = refl; talks = tt; asks = λ inf own h. ear_asks ear s own h }
known l (joined_told u e p ok) = record { nad = refl; talks = tt; within = tt; lags = λ h. absurd h }
known l (joined_doubted u e p ok) = record { nad = refl; talks = tt; asks = λ inf own h. absurd own }

-- ---- an end that awaits a block takes whatever comes

terminal_if : (b : Bool) (x y : TerminalStep) → IsOk x → IsOk y → IsOk (if b then x else y)
terminal_if true x y h k = h
terminal_if false x y h k = k

fails_ok : (t : TerminalState) (b : Parts) → IsOk (fails t b)
fails_ok t b = terminal_if (nat_lt t.failures most_repeats) _ _ tt tt

joins_ok : (t : TerminalState) (joined : List ℕ) (goes_on : Bool) → IsOk (joins t joined goes_on)
joins_ok t joined true = tt
joins_ok t joined false = tt

in_exchange_ok : (t : TerminalState) (came : Came) → IsOk (in_exchange t came)
in_exchange_ok t (got (Info number goes_on) inf) = fails_ok t _
in_exchange_ok t (got (Ready number fault) inf) = fails_ok t _
in_exchange_ok t (got (Request Resynch) inf) = fails_ok t _
in_exchange_ok t (got (Request Ifs) inf) = tt
in_exchange_ok t (got (Request Abort) inf) = fails_ok t _
in_exchange_ok t (got (Request Wtx) inf) = tt
in_exchange_ok t (got (Response s) inf) = fails_ok t _
in_exchange_ok t damaged = fails_ok t _
in_exchange_ok t invalid = fails_ok t _
in_exchange_ok t quiet = fails_ok t _

in_ack_ok : (t : TerminalState) (field rest : List ℕ) (came : Came) → IsOk (in_ack t field rest came)
in_ack_ok t field rest (got (Ready number fault) inf) =
    terminal_if (same number t.number) _ _ (fails_ok t _) tt
in_ack_ok t field rest (got (Info number goes_on) inf) = in_exchange_ok t (got (Info number goes_on) inf)
in_ack_ok t field rest (got (Request s) inf) = in_exchange_ok t (got (Request s) inf)
in_ack_ok t field rest (got (Response s) inf) = in_exchange_ok t (got (Response s) inf)
in_ack_ok t field rest damaged = in_exchange_ok t damaged
in_ack_ok t field rest invalid = in_exchange_ok t invalid
in_ack_ok t field rest quiet = in_exchange_ok t quiet

in_answer_ok : (t : TerminalState) (field : List ℕ) (came : Came) → IsOk (in_answer t field came)
in_answer_ok t field (got (Ready number fault) inf) =
    terminal_if (same number t.number) _ _ (fails_ok t _) (fails_ok t _)
in_answer_ok t field (got (Info number goes_on) inf) =
    terminal_if (same number t.expected && nat_le (length inf) t.limits.answer) _ _
    (joins_ok (record t { number = other t.number }) inf goes_on)
    (in_exchange_ok t (got (Info number goes_on) inf))
in_answer_ok t field (got (Request s) inf) = in_exchange_ok t (got (Request s) inf)
in_answer_ok t field (got (Response s) inf) = in_exchange_ok t (got (Response s) inf)
in_answer_ok t field damaged = in_exchange_ok t damaged
in_answer_ok t field invalid = in_exchange_ok t invalid
in_answer_ok t field quiet = in_exchange_ok t quiet

in_more_ok : (t : TerminalState) (joined : List ℕ) (came : Came) → IsOk (in_more t joined came)
in_more_ok t joined (got (Ready number fault) inf) = fails_ok t _
in_more_ok t joined (got (Info number goes_on) inf) =
    terminal_if (same number t.expected && nat_le (length joined + length inf) t.limits.answer) _ _
    (joins_ok t (joined ++ inf) goes_on)
    (in_exchange_ok t (got (Info number goes_on) inf))
in_more_ok t joined (got (Request s) inf) = in_exchange_ok t (got (Request s) inf)
in_more_ok t joined (got (Response s) inf) = in_exchange_ok t (got (Response s) inf)
in_more_ok t joined damaged = in_exchange_ok t damaged
in_more_ok t joined invalid = in_exchange_ok t invalid
in_more_ok t joined quiet = in_exchange_ok t quiet

in_ifs_ok : (t : TerminalState) (size : ℕ) (came : Came) → IsOk (in_ifs t size came)
in_ifs_ok t n (got (Response Ifs) inf) = terminal_if (carried inf == n) _ _ tt (fails_ok t _)
in_ifs_ok t n (got (Info number goes_on) inf) = fails_ok t _
in_ifs_ok t n (got (Ready number fault) inf) = fails_ok t _
in_ifs_ok t n (got (Request s) inf) = fails_ok t _
in_ifs_ok t n (got (Response Resynch) inf) = fails_ok t _
in_ifs_ok t n (got (Response Abort) inf) = fails_ok t _
in_ifs_ok t n (got (Response Wtx) inf) = fails_ok t _
in_ifs_ok t n damaged = fails_ok t _
in_ifs_ok t n invalid = fails_ok t _
in_ifs_ok t n quiet = fails_ok t _

in_resynch_ok : (t : TerminalState) (asked : ℕ) (came : Came) → IsOk (in_resynch t asked came)
in_resynch_ok t asked (got (Response Resynch) inf) = tt
in_resynch_ok t asked (got (Info number goes_on) inf) = terminal_if (nat_lt asked most_resynchs) _ _ tt tt
in_resynch_ok t asked (got (Ready number fault) inf) = terminal_if (nat_lt asked most_resynchs) _ _ tt tt
in_resynch_ok t asked (got (Request s) inf) = terminal_if (nat_lt asked most_resynchs) _ _ tt tt
in_resynch_ok t asked (got (Response Ifs) inf) = terminal_if (nat_lt asked most_resynchs) _ _ tt tt
in_resynch_ok t asked (got (Response Abort) inf) = terminal_if (nat_lt asked most_resynchs) _ _ tt tt
in_resynch_ok t asked (got (Response Wtx) inf) = terminal_if (nat_lt asked most_resynchs) _ _ tt tt
in_resynch_ok t asked damaged = terminal_if (nat_lt asked most_resynchs) _ _ tt tt
in_resynch_ok t asked invalid = terminal_if (nat_lt asked most_resynchs) _ _ tt tt
in_resynch_ok t asked quiet = terminal_if (nat_lt asked most_resynchs) _ _ tt tt

terminal_came_ok : (waits : Waits) (t : TerminalState) (came : Came) → IsBusy waits → IsOk (terminal_came t waits came)
terminal_came_ok idle t came h = absurd h
terminal_came_ok (ack field rest) t came h = in_ack_ok t field rest came
terminal_came_ok (answer field) t came h = in_answer_ok t field came
terminal_came_ok (more joined) t came h = in_more_ok t joined came
terminal_came_ok (ifs n) t came h = in_ifs_ok t n came
terminal_came_ok (resynch asked) t came h = in_resynch_ok t asked came
terminal_came_ok dead t came h = absurd h

pub terminal_takes_ok : (t : TerminalState) (came : Came) → IsBusy t.waits → IsOk (terminal_turn t (takes came))
terminal_takes_ok t came h = terminal_came_ok t.waits t came h

card_if : (b : Bool) (x y : CardStep) → CardIsOk x → CardIsOk y → CardIsOk (if b then x else y)
card_if true x y h k = h
card_if false x y h k = k

card_joins_ok : (c : CardState) (joined : List ℕ) (goes_on : Bool) → CardIsOk (card_joins c joined goes_on)
card_joins_ok c joined true = tt
card_joins_ok c joined false = tt

saved_ok : (c : CardState) (saved : Option (List ℕ)) (is_own : Bool) → CardIsOk (sends_saved c saved is_own)
saved_ok c None true = tt
saved_ok c None false = tt
saved_ok c (Some field) true = tt
saved_ok c (Some field) false = tt

in_either_ok : (c : CardState) (came : Came) → CardIsOk (in_either c came)
in_either_ok c (got (Info number goes_on) inf) = tt
in_either_ok c (got (Ready number fault) inf) = tt
in_either_ok c (got (Request Resynch) inf) = tt
in_either_ok c (got (Request Ifs) inf) = tt
in_either_ok c (got (Request Abort) inf) = tt
in_either_ok c (got (Request Wtx) inf) = tt
in_either_ok c (got (Response s) inf) = tt
in_either_ok c damaged = tt
in_either_ok c invalid = tt
in_either_ok c quiet = tt

in_command_ok : (c : CardState) (joined : List ℕ) (came : Came) → CardIsOk (in_command c joined came)
in_command_ok c joined (got (Info number goes_on) inf) =
    card_if (same number c.expected && nat_le (length joined + length inf) c.limits.command) _ _
    (card_joins_ok c (joined ++ inf) goes_on) tt
in_command_ok c joined (got (Ready number fault) inf) = saved_ok c c.saved (same number c.number)
in_command_ok c joined (got (Request s) inf) = in_either_ok c (got (Request s) inf)
in_command_ok c joined (got (Response s) inf) = tt
in_command_ok c joined damaged = tt
in_command_ok c joined invalid = tt
in_command_ok c joined quiet = tt

in_reply_ok : (c : CardState) (field rest : List ℕ) (came : Came) → CardIsOk (in_reply c field rest came)
in_reply_ok c field rest (got (Ready number fault) inf) = card_if (same number c.number) _ _ tt tt
in_reply_ok c field rest (got (Info number goes_on) inf) = tt
in_reply_ok c field rest (got (Request s) inf) = in_either_ok c (got (Request s) inf)
in_reply_ok c field rest (got (Response s) inf) = tt
in_reply_ok c field rest damaged = tt
in_reply_ok c field rest invalid = tt
in_reply_ok c field rest quiet = tt

in_asking_ok : (c : CardState) (asked : CardRequest) (came : Came) → CardIsOk (in_asking c asked came)
in_asking_ok c (size n) (got (Response Ifs) inf) = card_if (carried inf == n) _ _ tt tt
in_asking_ok c (time n) (got (Response Wtx) inf) = card_if (carried inf == n) _ _ tt tt
in_asking_ok c (size n) (got (Response Resynch) inf) = tt
in_asking_ok c (size n) (got (Response Abort) inf) = tt
in_asking_ok c (size n) (got (Response Wtx) inf) = tt
in_asking_ok c (time n) (got (Response Resynch) inf) = tt
in_asking_ok c (time n) (got (Response Ifs) inf) = tt
in_asking_ok c (time n) (got (Response Abort) inf) = tt
in_asking_ok c (size n) (got (Info number goes_on) inf) = tt
in_asking_ok c (time n) (got (Info number goes_on) inf) = tt
in_asking_ok c (size n) (got (Ready number fault) inf) = tt
in_asking_ok c (time n) (got (Ready number fault) inf) = tt
in_asking_ok c (size n) (got (Request s) inf) = tt
in_asking_ok c (time n) (got (Request s) inf) = tt
in_asking_ok c (size n) damaged = tt
in_asking_ok c (time n) damaged = tt
in_asking_ok c (size n) invalid = tt
in_asking_ok c (time n) invalid = tt
in_asking_ok c (size n) quiet = tt
in_asking_ok c (time n) quiet = tt

card_came_ok : (waits : CardWaits) (c : CardState) (came : Came) → AwaitsBlock waits → CardIsOk (card_came c waits came)
card_came_ok host c came h = absurd h
card_came_ok (command joined) c (got (Request Resynch) inf) h = tt
card_came_ok (command joined) c (got (Info number goes_on) inf) h =
    in_command_ok c joined (got (Info number goes_on) inf)
card_came_ok (command joined) c (got (Ready number fault) inf) h = in_command_ok c joined (got (Ready number fault) inf)
card_came_ok (command joined) c (got (Request Ifs) inf) h = tt
card_came_ok (command joined) c (got (Request Abort) inf) h = tt
card_came_ok (command joined) c (got (Request Wtx) inf) h = tt
card_came_ok (command joined) c (got (Response s) inf) h = tt
card_came_ok (command joined) c damaged h = tt
card_came_ok (command joined) c invalid h = tt
card_came_ok (command joined) c quiet h = tt
card_came_ok (reply field rest) c (got (Request Resynch) inf) h = tt
card_came_ok (reply field rest) c (got (Info number goes_on) inf) h = tt
card_came_ok (reply field rest) c (got (Ready number fault) inf) h =
    in_reply_ok c field rest (got (Ready number fault) inf)
card_came_ok (reply field rest) c (got (Request Ifs) inf) h = tt
card_came_ok (reply field rest) c (got (Request Abort) inf) h = tt
card_came_ok (reply field rest) c (got (Request Wtx) inf) h = tt
card_came_ok (reply field rest) c (got (Response s) inf) h = tt
card_came_ok (reply field rest) c damaged h = tt
card_came_ok (reply field rest) c invalid h = tt
card_came_ok (reply field rest) c quiet h = tt
card_came_ok (asking asked) c (got (Request Resynch) inf) h = tt
card_came_ok (asking asked) c (got (Info number goes_on) inf) h = in_asking_ok c asked (got (Info number goes_on) inf)
card_came_ok (asking asked) c (got (Ready number fault) inf) h = in_asking_ok c asked (got (Ready number fault) inf)
card_came_ok (asking asked) c (got (Request Ifs) inf) h = in_asking_ok c asked (got (Request Ifs) inf)
card_came_ok (asking asked) c (got (Request Abort) inf) h = in_asking_ok c asked (got (Request Abort) inf)
card_came_ok (asking asked) c (got (Request Wtx) inf) h = in_asking_ok c asked (got (Request Wtx) inf)
card_came_ok (asking asked) c (got (Response s) inf) h = in_asking_ok c asked (got (Response s) inf)
card_came_ok (asking asked) c damaged h = in_asking_ok c asked damaged
card_came_ok (asking asked) c invalid h = in_asking_ok c asked invalid
card_came_ok (asking asked) c quiet h = in_asking_ok c asked quiet

pub card_takes_ok : (c : CardState) (came : Came) → AwaitsBlock c.waits → CardIsOk (card_turn c (card_takes came))
card_takes_ok c came h = card_came_ok c.waits c came h

-- ---- a card that takes neither an I-block nor RESYNCH expects what it did

abbrev pub KeepsExpected : Came → Type 0
KeepsExpected (got (Info number goes_on) inf) = ⊥
KeepsExpected (got (Ready number fault) inf) = Unit {0}
KeepsExpected (got (Request Resynch) inf) = ⊥
KeepsExpected (got (Request Ifs) inf) = Unit {0}
KeepsExpected (got (Request Abort) inf) = Unit {0}
KeepsExpected (got (Request Wtx) inf) = Unit {0}
KeepsExpected (got (Response s) inf) = Unit {0}
KeepsExpected damaged = Unit {0}
KeepsExpected invalid = Unit {0}
KeepsExpected quiet = Unit {0}

abbrev pub ExpectsSame : CardState → CardStep → Type 0
ExpectsSame c (Ok step) = step.1.expected ≡ c.expected
ExpectsSame c (Err fault) = Unit {0}

expects_if : (c : CardState) (b : Bool) (x y : CardStep) → ExpectsSame c x → ExpectsSame c y
    → ExpectsSame c (if b then x else y)
expects_if c true x y h k = h
expects_if c false x y h k = k

expects_saved : (c : CardState) (saved : Option (List ℕ)) (is_own : Bool) → ExpectsSame c (sends_saved c saved is_own)
expects_saved c None true = refl
expects_saved c None false = refl
expects_saved c (Some field) true = refl
expects_saved c (Some field) false = refl

expects_asking : (c : CardState) (asked : CardRequest) (came : Came) → KeepsExpected came
    → ExpectsSame c (in_asking c asked came)
expects_asking c (size n) (got (Response Ifs) inf) h = expects_if c (carried inf == n) _ _ refl refl
expects_asking c (time n) (got (Response Wtx) inf) h = expects_if c (carried inf == n) _ _ refl refl
expects_asking c (size n) (got (Response Resynch) inf) h = refl
expects_asking c (size n) (got (Response Abort) inf) h = refl
expects_asking c (size n) (got (Response Wtx) inf) h = refl
expects_asking c (time n) (got (Response Resynch) inf) h = refl
expects_asking c (time n) (got (Response Ifs) inf) h = refl
expects_asking c (time n) (got (Response Abort) inf) h = refl
expects_asking c asked (got (Info number goes_on) inf) h = absurd h
expects_asking c (size n) (got (Ready number fault) inf) h = refl
expects_asking c (time n) (got (Ready number fault) inf) h = refl
expects_asking c (size n) (got (Request s) inf) h = refl
expects_asking c (time n) (got (Request s) inf) h = refl
expects_asking c (size n) damaged h = refl
expects_asking c (time n) damaged h = refl
expects_asking c (size n) invalid h = refl
expects_asking c (time n) invalid h = refl
expects_asking c (size n) quiet h = refl
expects_asking c (time n) quiet h = refl

expects_came : (waits : CardWaits) (c : CardState) (came : Came) → KeepsExpected came
    → ExpectsSame c (card_came c waits came)
expects_came host c came h = tt
expects_came waits c (got (Info number goes_on) inf) h = absurd h
expects_came waits c (got (Request Resynch) inf) h = absurd h
expects_came (command joined) c (got (Ready number fault) inf) h = expects_saved c c.saved (same number c.number)
expects_came (command joined) c (got (Request Ifs) inf) h = refl
expects_came (command joined) c (got (Request Abort) inf) h = refl
expects_came (command joined) c (got (Request Wtx) inf) h = refl
expects_came (command joined) c (got (Response s) inf) h = refl
expects_came (command joined) c damaged h = refl
expects_came (command joined) c invalid h = refl
expects_came (command joined) c quiet h = refl
expects_came (reply field rest) c (got (Ready number fault) inf) h =
    expects_if c (same number c.number) _ _ refl refl
expects_came (reply field rest) c (got (Request Ifs) inf) h = refl
expects_came (reply field rest) c (got (Request Abort) inf) h = refl
expects_came (reply field rest) c (got (Request Wtx) inf) h = refl
expects_came (reply field rest) c (got (Response s) inf) h = refl
expects_came (reply field rest) c damaged h = refl
expects_came (reply field rest) c invalid h = refl
expects_came (reply field rest) c quiet h = refl
expects_came (asking asked) c (got (Ready number fault) inf) h =
    expects_asking c asked (got (Ready number fault) inf) h
expects_came (asking asked) c (got (Request Ifs) inf) h = expects_asking c asked (got (Request Ifs) inf) h
expects_came (asking asked) c (got (Request Abort) inf) h = expects_asking c asked (got (Request Abort) inf) h
expects_came (asking asked) c (got (Request Wtx) inf) h = expects_asking c asked (got (Request Wtx) inf) h
expects_came (asking asked) c (got (Response s) inf) h = expects_asking c asked (got (Response s) inf) h
expects_came (asking asked) c damaged h = expects_asking c asked damaged h
expects_came (asking asked) c invalid h = expects_asking c asked invalid h
expects_came (asking asked) c quiet h = expects_asking c asked quiet h

pub card_expects : (c : CardState) (came : Came) → KeepsExpected came → ExpectsSame c (card_turn c (card_takes came))
card_expects c came h = expects_came c.waits c came h

-- nor does a call of its host change that
expects_host : (waits : CardWaits) (c : CardState) (step : CardStep) → ExpectsSame c step
    → ExpectsSame c (if_host waits step)
expects_host host c step h = h
expects_host (command joined) c step h = tt
expects_host (reply field rest) c step h = tt
expects_host (asking asked) c step h = tt

pub call_expects : (c : CardState) (input : CardInput) → IsCardCall input → ExpectsSame c (card_turn c input)
call_expects c (replies octets) h =
    expects_host c.waits c _ (expects_if c (nat_le (length octets) c.limits.answer) _ _ refl tt)
call_expects c (more_time n) h = expects_host c.waits c _ refl
call_expects c (ask_ifs n) h = expects_host c.waits c _ (expects_if c (is_reserved n) _ _ tt refl)
call_expects c (card_takes came) h = absurd h
