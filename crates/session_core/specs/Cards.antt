-- The session of a card: its line, the card of T=1 above it, and its host. The clauses are those of ISO/IEC
-- 7816-3:2006.
use Rattle.std.specs.Prelude.{◌≡◌, ℕ, ◌+◌, List, take, Bool, true, false, ◌||◌, not, nat_lt, min, Result, Ok, Err}
use Rattle.t1_core.specs.Came.{class_of}
use Rattle.t1_core.specs.Card.{CardState, CardInput, Waits, asking, takes, replies, card_turn, turn_of, state_after}
use Rattle.t1_core.specs.CardViews.{owed}
use Rattle.t1_core.specs.Put.{IsCardPut}
use Rattle.t1_core.specs.declared.turns.EncodedCardTurn.{EncodedCardTurn}
use Rattle.t1_core.specs.declared.turns.EncodedCardTurn.TheVariants as turn
use Rattle.t1_core.specs.declared.turns.CardFault.{CardFault}
use Rattle.line_core.specs.Bursts.{handed}
use Rattle.line_core.specs.Service.{wrong_length}
use Rattle.session_core.specs.declared.event.Next.{Next}
use Rattle.session_core.specs.declared.event.Next.TheVariants.{Heard, Quiet}
use Rattle.session_core.specs.declared.progress.Rules.{Rules}
use Rattle.session_core.specs.declared.lines.Line.{Line}
use Rattle.session_core.specs.declared.lines.Start.{Start}
use Rattle.session_core.specs.declared.lines.Start.TheVariants.{Exchange, Talk}
use Rattle.session_core.specs.declared.action.Action.{Action}
use Rattle.session_core.specs.declared.action.Action.TheVariants.{Asked}
use Rattle.session_core.specs.Wire.{Doing, Step, ruled, forever, handed_over, serves}
use Rattle.session_core.specs.Lines.{IsMoved, started}
use Rattle.session_core.specs.Actions.{action_of, count_of}
use Rattle.session_core.specs.Terminals.{IsStill, IsSent, IsOver}

-- The end begins to send a block. Then it waits without a limit.
abbrev pub answering : Start → Rules → Doing → List ℕ → ℕ → Step
answering start rules p burst now = started start (ruled rules) (record p { first = forever }) burst now

-- The session after a turn of its card, whose host owes the reply to so many octets.
abbrev pub IsTurned : EncodedCardTurn → ℕ → Start → Rules → Doing → List ℕ → ℕ → Line → ℕ → ℕ → Action → Type 0
IsTurned (turn.Send count) command start rules p burst now line own own_after action =
    (own_after ≡ count) × IsSent (answering start rules p burst now) rules count line action
IsTurned turn.Asked command start rules p burst now line own own_after action =
    IsOver rules p burst line own own_after action (Asked command)

-- the same for a turn that may be refused
abbrev pub AfterTurn : Result EncodedCardTurn CardFault → ℕ → Start → Rules → Doing → List ℕ → ℕ → Line → ℕ → ℕ
    → Result Action CardFault → Type 0
AfterTurn (Ok turn) command start rules p burst now line own own_after result =
    (action : Action) × (result ≡ Ok action) × IsTurned turn command start rules p burst now line own own_after action
AfterTurn (Err fault) command start rules p burst now line own own_after result =
    (result ≡ Err fault) × IsStill rules p burst line × (own_after ≡ own)

-- how many octets the command has that the host owes the reply to
abbrev pub asked_about : CardState → ℕ
asked_about c = count_of (owed c c.waits)

-- The card takes an input, and the session does what its turn says.
pub record TurnsTo (c : CardState) (input : CardInput) (start : Start) (rules : Rules) (p : Doing) (burst : List ℕ)
    (now : ℕ) (c_after : CardState) (line : Line) (own own_after : ℕ) (out out_after : List ℕ)
    (result : Result Action CardFault) : Type 0 where
  pub acted : Result EncodedCardTurn CardFault
  pub put : IsCardPut (turn_of (card_turn c input)) out out_after acted
  pub state : c_after ≡ state_after c (card_turn c input)
  pub after : AfterTurn acted (asked_about c_after) start rules p burst now line own own_after result

-- the card waits for the response to a request of its host
abbrev pub is_asking : Waits → Bool
is_asking (asking request) = true
is_asking waits = false

-- How many requests of the host about the present command were granted. A command that the card didn't ask about is a
-- new one.
abbrev pub granted_after : Bool → ℕ → ℕ
granted_after true granted = min (granted + 1) forever
granted_after false granted = 0

-- A message of fewer than four octets isn't a command (ISO/IEC 7816-4, 5.1). Its host gets it only if the setup says so.
abbrev pub is_for_host : Bool → ℕ → Bool
is_for_host takes_short count = takes_short || not (nat_lt count 4)

-- The card owes a reply. Its host is asked, or the session replies for it: 6700, wrong length (ISO/IEC 7816-4, 5.1.3).
abbrev pub Asks : Bool → CardState → Rules → Doing → List ℕ → ℕ → CardState → Line → ℕ → ℕ → List ℕ → List ℕ
    → Result Action CardFault → Type 0
Asks true c rules p burst now c_after line own own_after out out_after result =
    (c_after ≡ c) × IsStill rules p burst line × (own_after ≡ own) × (out_after ≡ out)
    × (result ≡ Ok (Asked (asked_about c)))
Asks false c rules p burst now c_after line own own_after out out_after result =
    TurnsTo c (replies wrong_length) Exchange rules p burst now c_after line own own_after out out_after result

-- what the card gets from a step of its line that ends a burst
abbrev pub heard_in : CardState → List ℕ → CardInput
heard_in c burst = takes (class_of c.ifsc (take handed burst))

-- The card took a burst, and its turn is this. It sends a block, or its host has to reply, or the burst is refused.
abbrev pub IsHeard : Result EncodedCardTurn CardFault → CardState → Bool → Bool → ℕ → ℕ → Rules → Doing → List ℕ → ℕ
    → CardState → Line → ℕ → ℕ → List ℕ → List ℕ → Result Action CardFault → Type 0
IsHeard (Ok (turn.Send count)) c was_asking takes_short granted granted_new rules p burst now c_after line own
    own_after out out_after result =
    (c_after ≡ c) × (granted_new ≡ granted) × (out_after ≡ out) × (own_after ≡ count) × (action : Action)
    × (result ≡ Ok action) × IsSent (answering Talk rules p burst now) rules count line action
IsHeard (Ok turn.Asked) c was_asking takes_short granted granted_new rules p burst now c_after line own own_after out
    out_after result =
    (granted_new ≡ granted_after was_asking granted)
    × Asks (is_for_host takes_short (asked_about c)) c rules p burst now c_after line own own_after out out_after result
IsHeard (Err fault) c was_asking takes_short granted granted_new rules p burst now c_after line own own_after out
    out_after result =
    (c_after ≡ c) × (granted_new ≡ granted) × (out_after ≡ out) × IsStill rules p burst line × (own_after ≡ own)
    × (result ≡ Err fault)

pub record Hears (c : CardState) (takes_short : Bool) (granted granted_new : ℕ) (rules : Rules) (p : Doing)
    (burst : List ℕ) (now : ℕ) (c_after : CardState) (line : Line) (own own_after : ℕ) (out out_after : List ℕ)
    (result : Result Action CardFault) : Type 0 where
  pub acted : Result EncodedCardTurn CardFault
  pub out_between : List ℕ
  pub put : IsCardPut (turn_of (card_turn c (heard_in c burst))) out out_between acted
  pub after : IsHeard acted (state_after c (card_turn c (heard_in c burst))) (is_asking c.waits) takes_short granted
      granted_new rules p burst now c_after line own own_after out_between out_after result

-- The line said what is next. The card takes a burst. It waits without a limit, so a wait never ends without octets, but
-- if the caller says so, it waits again.
abbrev pub IsStepped : Next → Step → Rules → CardState → Bool → ℕ → ℕ → ℕ → CardState → Line → ℕ → ℕ → List ℕ
    → List ℕ → Result Action CardFault → Type 0
IsStepped Heard step rules c takes_short granted granted_new now c_after line own own_after out out_after result =
    Hears c takes_short granted granted_new rules step.progress
    (handed_over step.progress.is_spoiled step.burst) now c_after line own own_after out out_after result
IsStepped Quiet step rules c takes_short granted granted_new now c_after line own own_after out out_after result =
    (c_after ≡ c) × (granted_new ≡ granted) × (own_after ≡ own) × (out_after ≡ out) × (action : Action)
    × (result ≡ Ok action)
    × IsSent (serves (ruled rules) (record step.progress { first = forever }) step.burst now) rules own line action
IsStepped next step rules c takes_short granted granted_new now c_after line own own_after out out_after result =
    (c_after ≡ c) × (granted_new ≡ granted) × (own_after ≡ own) × (out_after ≡ out) × IsMoved step rules line
    × (result ≡ Ok (action_of next own))
