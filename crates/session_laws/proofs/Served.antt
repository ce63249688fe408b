-- The turns of a card's loop, from what its calls ensure.
use Rattle.std.proofs.Common.{◌≡◌, ◌<◌, ◌≤◌, ◌+◌, ℕ, List, [], ◌∷◌, ◌++◌, length, take, Bool, Some, Result, Ok, Err, refl, sym, subst, arith, length-append}
use Rattle.std.proofs.lemmas.List.{append-nil, append_assoc}
use Rattle.t1_core.specs.Card.{CardState, card_turn, turn_of}
use Rattle.t1_core.specs.CardViews.{owed}
use Rattle.t1_core.specs.Put.{IsCardPut}
use Rattle.t1_core.specs.declared.turns.CardTurn.{CardTurn}
use Rattle.t1_core.specs.declared.turns.CardTurn.TheVariants as own_turn
use Rattle.t1_core.specs.declared.turns.EncodedCardTurn.{EncodedCardTurn}
use Rattle.t1_core.specs.declared.turns.CardFault.{CardFault}
use Rattle.line_core.specs.Bursts.{HasHeard}
use Rattle.line_core.specs.Timed.{Sound, Sounds, came, deaf, said, unsaid}
use Rattle.line_core.specs.Service.{Event, Happens}
use Rattle.session_core.specs.declared.progress.Rules.{Rules}
use Rattle.session_core.specs.declared.lines.Line.{Line}
use Rattle.session_core.specs.declared.lines.Start.TheVariants.{Exchange}
use Rattle.session_core.specs.declared.action.Action.{Action}
use Rattle.session_core.specs.declared.action.Action.TheVariants as action
use Rattle.session_core.specs.Wire.{ruled, seen, forever}
use Rattle.session_core.specs.Wire as wire
use Rattle.session_core.specs.Lines.{stepped}
use Rattle.session_core.specs.Cards.{TurnsTo, AfterTurn, IsStepped}
use Rattle.session_laws.specs.declared.host.HostTurn.{HostTurn}
use Rattle.session_laws.specs.Hosts.{input_by, event_at, is_first}
use Rattle.session_laws.specs.Running.{IsAsked, event_of, octets_of}
use Rattle.session_laws.specs.Serving.{Placed, events_by, IsLineTurn, IsHostTurn, none, by_line, by_host, IsBegun, Ran, IsDoing, burst_refused, turn_refused, Stopped}
use Rattle.session_laws.proofs.Runs.{no-sounds, then-sounds}
use Rattle.session_laws.proofs.Services.{IsAt}

pub no-acts : {A : Type 0} (served : A → List Event → Type 0) → Happens served served []
no-acts served first before h = subst (served first) (sym (append-nil before)) h

pub then-acts : {A : Type 0} (old now new : A → List Event → Type 0) (acts after : List Event)
    → Happens old now acts → Happens now new after → Happens old new (acts ++ after)
then-acts old now new acts after f g first before h =
    subst (new first) (append_assoc before acts after) (g first (before ++ acts) (f first before h))

unfoldable pub begun-ran : {A B : Type 0} (takes_short : Bool) (heard : A → List Sound → Type 0)
    (served : B → List Event → Type 0) (card : CardState) (line : Line) (first : Placed) → IsBegun card line first
    → Ran takes_short heard heard served served card line [] first
begun-ran takes_short heard served card line first begun = record {
  first = first;
  begun = begun;
  sounds = [];
  adds = no-sounds heard;
  acts = [];
  acted = no-acts served;
  turns = none;
}

-- what the line makes of an event with this number and these octets
abbrev pub IsSteppedBy : Bool → Placed → ℕ → List ℕ → List ℕ → CardState → Line → ℕ → ℕ → List ℕ
    → Result Action CardFault → Type 0
IsSteppedBy takes_short before event octets burst card line granted own out result =
    IsStepped (stepped event (ruled before.line.rules) (seen before.line.progress) burst octets 0
    (take before.own before.out)).next
    (stepped event (ruled before.line.rules) (seen before.line.progress) burst octets 0 (take before.own before.out))
    before.line.rules before.card takes_short before.granted granted 0 card line before.own own before.out out result

-- the session takes short messages if it did at first
pub step-of : (before : Placed) (sound : Sound) (event : ℕ) (octets burst : List ℕ) (card : CardState) (line : Line)
    (granted own : ℕ) (out : List ℕ) (result : Result Action CardFault) (now at_first : Bool) → event ≡ event_of sound
    → octets ≡ octets_of sound → now ≡ at_first
    → IsSteppedBy now before event octets burst card line granted own out result
    → IsSteppedBy at_first before (event_of sound) (octets_of sound) burst card line granted own out result
step-of before sound event octets burst card line granted own out result now at_first is same kept h =
    subst (λ (o : List ℕ). IsSteppedBy at_first before (event_of sound) o burst card line granted own out result) same
    (subst (λ (n : ℕ). IsSteppedBy at_first before n octets burst card line granted own out result) is
    (subst (λ (b : Bool). IsSteppedBy b before event octets burst card line granted own out result) kept h))

unfoldable pub line-ran : {A B : Type 0} (takes_short : Bool) (old now new : A → List Sound → Type 0)
    (before_host host : B → List Event → Type 0) (card : CardState) (line : Line) (events : List Event)
    (before : Placed) (sound : Sound) (after : Placed)
    → Ran takes_short old now before_host host card line events before → Sounds now new (sound ∷ [])
    → (turn : IsLineTurn takes_short before sound after)
    → Ran takes_short old new before_host host card line (events ++ events_by takes_short before sound turn.burst) after
line-ran takes_short old now new before_host host card line events before sound after ran adds turn = record {
  first = ran.first;
  begun = ran.begun;
  sounds = ran.sounds ++ sound ∷ [];
  adds = then-sounds old now new ran.sounds (sound ∷ []) ran.adds adds;
  acts = ran.acts;
  acted = ran.acted;
  turns = by_line ran.sounds events ran.acts before sound after ran.turns turn;
}

unfoldable pub host-ran : {A B : Type 0} (takes_short : Bool) (old new : A → List Sound → Type 0)
    (before_host host after_host : B → List Event → Type 0) (card : CardState) (line : Line) (events : List Event)
    (before : Placed) (command answer : List ℕ) (turn : HostTurn) (after : Placed)
    → Ran takes_short old new before_host host card line events before
    → Happens host after_host (event_at (is_first before.granted) command answer turn ∷ [])
    → IsHostTurn before command answer turn after
    → Ran takes_short old new before_host after_host card line
    (events ++ event_at (is_first before.granted) command answer turn ∷ []) after
host-ran takes_short old new before_host host after_host card line events before command answer turn after ran acted
    called =
    let act : Event = event_at (is_first before.granted) command answer turn in record {
      first = ran.first;
      begun = ran.begun;
      sounds = ran.sounds;
      adds = ran.adds;
      acts = ran.acts ++ act ∷ [];
      acted = then-acts before_host host after_host ran.acts (act ∷ []) ran.acted acted;
      turns = by_host ran.sounds events ran.acts before command answer turn after ran.turns called;
    }

-- ---- how many turns the loop made, and how many are left

pub none-counted : (most : ℕ) → 0 + 0 + most ≡ most
none-counted most = omega arith

pub line-counted : (sounds : List Sound) (sound : Sound) (acts : List Event) (left most : ℕ)
    → length sounds + length acts + (1 + left) ≡ most → length (sounds ++ sound ∷ []) + length acts + left ≡ most
line-counted sounds sound acts left most counted = rw (length-append sounds (sound ∷ [])) (omega (arith, counted))

pub host-counted : (sounds : List Sound) (acts : List Event) (act : Event) (left most : ℕ)
    → length sounds + length acts + (1 + left) ≡ most → length sounds + length (acts ++ act ∷ []) + left ≡ most
host-counted sounds acts act left most counted = rw (length-append acts (act ∷ [])) (omega (arith, counted))

-- a turn that was left has been made
pub made-so-far : (sounds : List Sound) (sound : Sound) (acts : List Event) (most left : ℕ)
    → length sounds + length acts + left ≡ most → 0 < left → length (sounds ++ sound ∷ []) + length acts ≤ most
made-so-far sounds sound acts most left counted some =
    rw (length-append sounds (sound ∷ [])) (omega (arith, counted, some))

-- a silence after a wait without a limit
pub silent-of : (next : Action) (out : List ℕ) (sound : Sound) → IsAsked next out sound
    → next ≡ action.Wait forever → event_of sound ≡ 3 → sound ≡ came forever []
silent-of next out (came limit []) asked_for is silent =
    let same : limit ≡ forever = subst (λ (a : Action). IsAsked a out (came limit [])) is asked_for in rw same refl
silent-of next out (came limit (octet ∷ octets)) asked_for is silent = absurd (omega (arith, silent))
silent-of next out (deaf limit fault) asked_for is silent = absurd (omega (arith, silent))
silent-of next out (said octets) asked_for is silent = absurd (omega (arith, silent))
silent-of next out (unsaid octets fault) asked_for is silent = absurd (omega (arith, silent))

-- a host that is asked owes the reply to its command
pub owes-command : (takes_short : Bool) (c0 : CardState) (events : List Event) (s : Placed) (count : ℕ)
    → IsAt takes_short c0 events s → s.next ≡ action.Asked count
    → owed s.card s.card.waits ≡ Some s.card.command
owes-command takes_short c0 events s count at is =
    let asked_for : IsDoing takes_short (action.Asked count) s at.served.doing =
    subst (λ (a : Action). IsDoing takes_short a s at.served.doing) is at.served.is in
    asked_for.1

-- ---- a refusal

pub line-stopped : {A B : Type 0} (takes_short : Bool) (old now new : A → List Sound → Type 0)
    (before_host host : B → List Event → Type 0) (card : CardState) (line : Line) (most : ℕ) (fault : CardFault)
    (events : List Event) (before : Placed) (sound : Sound) (burst : List ℕ) (granted own : ℕ) (out : List ℕ)
    (card_after : CardState) (line_after : Line)
    → (ran : Ran takes_short old now before_host host card line events before)
    → length ran.sounds + length ran.acts < most → Sounds now new (sound ∷ []) → IsAsked before.next before.out sound
    → HasHeard before.line.framer burst
    → IsSteppedBy takes_short before (event_of sound) (octets_of sound) burst card_after line_after granted own out
    (Err fault)
    → Stopped takes_short old new before_host host card line most fault
line-stopped takes_short old now new before_host host card line most fault events before sound burst granted own out
    card_after line_after ran few adds asked_for heard stepped_so = record {
      first = ran.first;
      begun = ran.begun;
      sounds = ran.sounds;
      events = events;
      acts = ran.acts;
      before = before;
      turns = ran.turns;
      few = few;
      last_sounds = sound ∷ [];
      last_acts = [];
      refused = burst_refused sound burst granted own out card_after line_after asked_for heard stepped_so;
      adds = then-sounds old now new ran.sounds (sound ∷ []) ran.adds adds;
      acted = subst (λ (acts : List Event). Happens before_host host acts) (sym (append-nil ran.acts)) ran.acted;
    }

pub err-same : (a b : CardFault) (x : Result Action CardFault) → x ≡ Err a → x ≡ Err b → a ≡ b
err-same a b x e f = cc

pub refused-by : (turn : Result CardTurn CardFault) (acted : Result EncodedCardTurn CardFault) (command : ℕ)
    (rules : Rules) (p : wire.Doing) (burst out out_after : List ℕ) (line : Line) (own own_after : ℕ)
    (fault : CardFault) → IsCardPut turn out out_after acted
    → AfterTurn acted command Exchange rules p burst 0 line own own_after (Err fault) → turn ≡ Err fault
refused-by (Ok (own_turn.Send block)) acted command rules p burst out out_after line own own_after fault
    (count, is, placed) after =
    let now_after = subst (λ (x : Result EncodedCardTurn CardFault).
    AfterTurn x command Exchange rules p burst 0 line own own_after (Err fault)) is after in
    let bad : Err fault ≡ Ok now_after.0 = now_after.1 in cc
refused-by (Ok own_turn.Asked) acted command rules p burst out out_after line own own_after fault (is, kept) after =
    let now_after = subst (λ (x : Result EncodedCardTurn CardFault).
    AfterTurn x command Exchange rules p burst 0 line own own_after (Err fault)) is after in
    let bad : Err fault ≡ Ok now_after.0 = now_after.1 in cc
refused-by (Err inner) acted command rules p burst out out_after line own own_after fault (is, kept) after =
    let now_after = subst (λ (x : Result EncodedCardTurn CardFault).
    AfterTurn x command Exchange rules p burst 0 line own own_after (Err fault)) is after in
    rw (err-same fault inner (Err fault) refl now_after.0) refl

pub host-stopped : {A B : Type 0} (takes_short : Bool) (old new : A → List Sound → Type 0)
    (before_host host after_host : B → List Event → Type 0) (card : CardState) (line : Line) (most : ℕ)
    (fault : CardFault) (events : List Event) (before : Placed) (answer : List ℕ) (turn : HostTurn) (burst : List ℕ)
    (own : ℕ) (out : List ℕ) (card_after : CardState) (line_after : Line)
    → (ran : Ran takes_short old new before_host host card line events before)
    → length ran.sounds + length ran.acts < most → Happens host after_host
    (event_at (is_first before.granted) before.card.command answer turn ∷ [])
    → TurnsTo before.card (input_by answer turn) Exchange before.line.rules (seen before.line.progress) burst 0
    card_after
    line_after before.own own before.out out (Err fault)
    → Stopped takes_short old new before_host after_host card line most fault
host-stopped takes_short old new before_host host after_host card line most fault events before answer turn burst own
    out card_after line_after ran few acted turns = let act : Event =
    event_at (is_first before.granted) before.card.command answer turn in record {
      first = ran.first;
      begun = ran.begun;
      sounds = ran.sounds;
      events = events;
      acts = ran.acts;
      before = before;
      turns = ran.turns;
      few = few;
      last_sounds = [];
      last_acts = act ∷ [];
      refused = turn_refused answer turn
          (refused-by (turn_of (card_turn before.card (input_by answer turn))) turns.acted _ _ _ _ _ _ _ _ _ fault
          turns.put
          turns.after);
      adds = subst (λ (sounds : List Sound). Sounds old new sounds) (sym (append-nil ran.sounds)) ran.adds;
      acted = then-acts before_host host after_host ran.acts (act ∷ []) ran.acted acted;
    }
