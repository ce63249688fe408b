-- The events of a card's session are a run of the card's table.
use Rattle.std.proofs.Common.{◌≡◌, ℕ, ◌+◌, ◌-◌, List, [], ◌∷◌, ◌++◌, length, take, Bool, true, false, not, if◌then◌else◌, Some, Result, Ok, Err, refl, sym, ap, subst, ◌∙◌, arith}
use Rattle.std.proofs.lemmas.List.{append-nil, append_assoc}
use Rattle.block_core.specs.Block.{Parts, spelling}
use Rattle.t1_core.specs.Card.{CardState, CardInput, Waits, host, asking, replies, card_turn, turn_of, state_after, if_host, sends_next, request_block, size as of_size, time as of_time}
use Rattle.t1_core.specs.CardViews.{owed}
use Rattle.t1_core.specs.Put.{IsCardPut}
use Rattle.t1_core.proofs.Told.{tells}
use Rattle.t1_core.specs.declared.turns.CardTurn.{CardTurn}
use Rattle.t1_core.specs.declared.turns.CardTurn.TheVariants as own_turn
use Rattle.t1_core.specs.declared.turns.EncodedCardTurn.{EncodedCardTurn}
use Rattle.t1_core.specs.declared.turns.EncodedCardTurn.TheVariants as put
use Rattle.t1_core.specs.declared.turns.CardFault.{CardFault}
use Rattle.t1_core.specs.declared.turns.CardFault.TheVariants.{TooLong, Reserved}
use Rattle.line_core.specs.Bursts.{handed}
use Rattle.line_core.specs.Line.{block as arrived}
use Rattle.line_core.specs.Timed.{Sound, came as piece, deaf, said, unsaid}
use Rattle.line_core.specs.Service.{Event, came, asked, requested, sent, unsent, is_new, wrong_length, IsReplyFor, Gets, Doing, hears, says, asks, Ending, ServesFor, doing_of, doing_by, doing_after, left_after}
use Rattle.line_core.proofs.Replying.{waits-for-host}
use Rattle.session_core.specs.declared.event.Next.{Next}
use Rattle.session_core.specs.declared.event.Next.TheVariants.{Send, Wait, Heard, Quiet}
use Rattle.session_core.specs.declared.progress.Phase.{Phase}
use Rattle.session_core.specs.declared.progress.Rules.{Rules}
use Rattle.session_core.specs.declared.lines.Line.{Line}
use Rattle.session_core.specs.declared.lines.Start.{Start}
use Rattle.session_core.specs.declared.lines.Start.TheVariants.{Exchange}
use Rattle.session_core.specs.declared.action.Action.{Action}
use Rattle.session_core.specs.declared.action.Action.TheVariants as action
use Rattle.session_core.specs.Wire.{Step, ruled, seen, handed_over}
use Rattle.session_core.specs.Wire as wire
use Rattle.session_core.specs.Lines.{IsMoved}
use Rattle.session_core.specs.Actions.{action_of, count_of}
use Rattle.session_core.specs.Cards.{TurnsTo, AfterTurn, Asks, IsHeard, IsStepped, heard_in, is_asking, granted_after, is_for_host, asked_about}
use Rattle.session_laws.specs.declared.host.HostTurn.{HostTurn}
use Rattle.session_laws.specs.declared.host.HostTurn.TheVariants.{Reply, MoreTime, AskIfs}
use Rattle.session_laws.specs.Ending.{HasBurst}
use Rattle.session_laws.specs.Hosts.{input_by, event_at, is_first}
use Rattle.session_laws.specs.Running.{IsAsked}
use Rattle.session_laws.specs.Serving.{Placed, step_by, replied_for, stepped_as, events_by, for_host, IsLineTurn, IsHostTurn, Turns, none, by_line, by_host, IsBegun, Ran, is_unsent, IsToHear, IsDoing, Begins, IsServed}
use Rattle.session_laws.proofs.Links.{front}
use Rattle.session_laws.proofs.Phases.{StaysUnsent, StaysHearing, Unsent, Hearing, begins-unsent, talks-unsent, serves-hearing, on-sent-hearing, on-failed-unsent, on-failed-hearing, on-silent-unsent, on-silent-hearing, on-came-unsent, on-came-hearing}

-- ---- events

pub then-event : (takes_short : Bool) (c0 : CardState) (events : List Event) (doing : Doing) (c : CardState)
    (event : Event) (next : Doing) (after : CardState) → Begins takes_short c0 events doing c
    → ((most : ℕ) (more : List Event) (ending : Ending) (left : CardState)
    → ServesFor takes_short most next after more ending left
    → (least : ℕ) × ServesFor takes_short least doing c (event ∷ more) ending left)
    → Begins takes_short c0 (events ++ event ∷ []) next after
then-event takes_short c0 events doing c event next after begins rule = record {
  follows = λ most more ending left run.
      let one = rule most more ending left run in
      let all_of = begins.follows one.0 (event ∷ more) ending left one.1 in (
        all_of.0,
        subst (λ (e : List Event). ServesFor takes_short all_of.0 hears c0 e ending left)
            (sym (append_assoc events (event ∷ []) more)) all_of.1,
      );
}

pub then-sent : (takes_short : Bool) (c0 : CardState) (events : List Event) (told : Parts) (c : CardState)
    (octets : List ℕ) → octets ≡ spelling told → Begins takes_short c0 events (says told) c
    → Begins takes_short c0 (events ++ sent octets ∷ []) hears c
then-sent takes_short c0 events told c octets e begins =
    then-event takes_short c0 events (says told) c (sent octets) hears c begins
    (λ most more ending left run. (most, (e, run)))

pub one-more : (most : ℕ) → most + 1 - 1 ≡ most
one-more most = omega arith

pub then-came : (takes_short : Bool) (c0 : CardState) (events : List Event) (c : CardState) (octets : List ℕ)
    → Begins takes_short c0 events hears c
    → Begins takes_short c0 (events ++ came (arrived octets) ∷ []) (doing_after c (arrived octets))
    (left_after c (arrived octets))
then-came takes_short c0 events c octets begins =
    then-event takes_short c0 events hears c (came (arrived octets)) _ _ begins
    (λ most more ending left run. (
      most + 1,
      (
        omega arith,
        subst (λ (n : ℕ). ServesFor takes_short n (doing_after c (arrived octets)) (left_after c (arrived octets)) more
            ending left) (sym (one-more most)) run,
      ),
    ))

-- the host replies, or another replies for it
pub then-asked : (takes_short : Bool) (c0 : CardState) (events : List Event) (new : Bool) (c : CardState)
    (octets answer : List ℕ) → octets ≡ c.command → IsReplyFor takes_short octets answer
    → Begins takes_short c0 events (asks new) c
    → Begins takes_short c0 (events ++ asked new octets answer ∷ []) (doing_by c (replies answer))
    (state_after c (card_turn c (replies answer)))
then-asked takes_short c0 events new c octets answer e fits begins =
    then-event takes_short c0 events (asks new) c (asked new octets answer) _ _ begins
    (λ most more ending left run. (most, (refl, e, fits, run)))

own-reply : (takes_short : Bool) (octets answer : List ℕ) → Gets takes_short octets
    → IsReplyFor takes_short octets answer
own-reply true octets answer gets = tt
own-reply false octets answer gets = λ short. let bad : true ≡ false = sym short ∙ gets in cc

-- the reply for it
given-reply : (takes_short : Bool) (octets : List ℕ) → IsReplyFor takes_short octets wrong_length
given-reply true octets = tt
given-reply false octets = λ short. refl

-- the host takes its turn
pub then-turned : (takes_short : Bool) (c0 : CardState) (events : List Event) (new : Bool) (c : CardState)
    (octets answer : List ℕ) (turn : HostTurn) → octets ≡ c.command → Gets takes_short octets
    → Begins takes_short c0 events (asks new) c
    → Begins takes_short c0 (events ++ event_at new octets answer turn ∷ []) (doing_by c (input_by answer turn))
    (state_after c (card_turn c (input_by answer turn)))
then-turned takes_short c0 events new c octets answer Reply e gets begins =
    then-asked takes_short c0 events new c octets answer e (own-reply takes_short octets answer gets) begins
then-turned takes_short c0 events new c octets answer (MoreTime n) e gets begins =
    then-event takes_short c0 events (asks new) c _ _ _ begins
    (λ most more ending left run. (most, (refl, e, gets, run)))
then-turned takes_short c0 events new c octets answer (AskIfs n) e gets begins =
    then-event takes_short c0 events (asks new) c _ _ _ begins
    (λ most more ending left run. (most, (refl, e, gets, run)))

-- ---- where the session stands

pub record IsAt (takes_short : Bool) (c0 : CardState) (events : List Event) (s : Placed) : Type 0 where
  pub served : IsServed takes_short c0 events s
  pub burst : HasBurst s.line

-- the session has this to do next, by a run of the card's table
pub at-run : (takes_short : Bool) (c0 : CardState) (events : List Event) (doing : Doing) (s : Placed)
    → IsDoing takes_short s.next s doing → Begins takes_short c0 events doing s.card → HasBurst s.line
    → IsAt takes_short c0 events s
at-run takes_short c0 events doing s is begins burst = record {
  served = record {
    doing = doing;
    is = is;
    begins = begins;
  };
  burst = burst;
}

pub same-ok : (a b : Action) (x : Result Action CardFault) → x ≡ Ok a → x ≡ Ok b → a ≡ b
same-ok a b x e f = cc

pub ok-or-not : (a : Action) (fault : CardFault) (x : Result Action CardFault) → x ≡ Ok a → x ≡ Err fault → ⊥
ok-or-not a fault x e f = cc

pub moved-burst : (step : Step) (rules : Rules) (line : Line) → IsMoved step rules line → HasBurst line
moved-burst step rules line moved = (_, moved.burst_is)

pub sends-doing : (takes_short : Bool) (next : Next) (phase : Phase) (count : ℕ) (s : Placed) (told : Parts)
    → StaysUnsent next phase → (seen s.line.progress).phase ≡ phase → count ≡ s.own → take s.own s.out ≡ spelling told
    → IsDoing takes_short (action_of next count) s (says told)
sends-doing takes_short Send phase count s told stays e own same = (own, (told, refl, same))
sends-doing takes_short (Wait time) phase count s told stays e own same =
    subst (λ (b : Bool). IsToHear b (take s.own s.out) (says told)) (sym (ap is_unsent e ∙ stays)) (told, refl, same)
sends-doing takes_short Heard phase count s told stays e own same = absurd stays
sends-doing takes_short Quiet phase count s told stays e own same = absurd stays
sends-doing takes_short next phase count s told stays e own same = tt

pub hears-doing : (takes_short : Bool) (next : Next) (phase : Phase) (count : ℕ) (s : Placed)
    → StaysHearing next phase → (seen s.line.progress).phase ≡ phase
    → IsDoing takes_short (action_of next count) s hears
hears-doing takes_short Send phase count s stays e = absurd stays
hears-doing takes_short (Wait time) phase count s stays e =
    subst (λ (b : Bool). IsToHear b (take s.own s.out) hears) (sym (ap is_unsent e ∙ stays)) refl
hears-doing takes_short next phase count s stays e = tt

-- the session sends a told, or is about to
pub sent-at : (takes_short : Bool) (step : Step) (rules : Rules) (count : ℕ) (c0 : CardState) (events : List Event)
    (told : Parts) (s : Placed) → Unsent step → IsMoved step rules s.line → s.next ≡ action_of step.next count
    → count ≡ s.own → take s.own s.out ≡ spelling told → Begins takes_short c0 events (says told) s.card
    → IsAt takes_short c0 events s
sent-at takes_short step rules count c0 events told s stays moved is own same run =
    at-run takes_short c0 events (says told) s
    (subst (λ (a : Action). IsDoing takes_short a s (says told)) (sym is)
    (sends-doing takes_short step.next step.progress.phase count s told stays.stays
    (ap (λ (p : wire.Doing). p.phase) moved.progress) own same)) run (moved-burst step rules s.line moved)

-- the session hears
pub heard-at : (takes_short : Bool) (step : Step) (rules : Rules) (count : ℕ) (c0 : CardState) (events : List Event)
    (s : Placed) → Hearing step → IsMoved step rules s.line → s.next ≡ action_of step.next count
    → Begins takes_short c0 events hears s.card → IsAt takes_short c0 events s
heard-at takes_short step rules count c0 events s stays moved is run =
    at-run takes_short c0 events hears s
    (subst (λ (a : Action). IsDoing takes_short a s hears) (sym is)
    (hears-doing takes_short step.next step.progress.phase count s stays.stays
    (ap (λ (p : wire.Doing). p.phase) moved.progress))) run (moved-burst step rules s.line moved)

-- ---- the reply

-- the host owes a reply only to its command
pub owed-command : (c : CardState) (w : Waits) (octets : List ℕ) → owed c w ≡ Some octets → octets ≡ c.command
owed-command c host octets e = cc
owed-command c (asking request) octets e = cc
owed-command c w octets e = cc

-- The turn Asked leaves the card with its host's reply to come.
pub waits-after : (c : CardState) (input : CardInput) → turn_of (card_turn c input) ≡ Ok own_turn.Asked
    → (state_after c (card_turn c input)).waits ≡ host
waits-after c input e = waits-for-host c (card_turn c input) (λ next is. tells.host c next input is) e

pub owed-then : (c : CardState) → c.waits ≡ host → owed c c.waits ≡ Some c.command
owed-then c e = ap (owed c) e

pub about-then : (c : CardState) → c.waits ≡ host → asked_about c ≡ length c.command
about-then c e = ap count_of (owed-then c e)

-- the host gets a message
gets-for : (takes_short : Bool) (octets : List ℕ) → is_for_host takes_short (length octets) ≡ true
    → Gets takes_short octets
gets-for true octets e = tt
gets-for false octets e = grind (arith, e)

for-gets : (takes_short : Bool) (octets : List ℕ) → Gets takes_short octets
    → is_for_host takes_short (length octets) ≡ true
for-gets true octets e = refl
for-gets false octets e = ap not e

-- a call of the host is never followed by its turn
never-replied : (w : Waits) (b : Bool) (c : CardState) (octets : List ℕ)
    → turn_of (if_host w (if b then sends_next c octets else Err TooLong)) ≡ Ok own_turn.Asked → ⊥
never-replied host true c octets e = cc
never-replied host false c octets e = cc
never-replied w b c octets e = cc

never-granted : (w : Waits) (c : CardState) (told : Parts)
    → turn_of (if_host w (Ok (own_turn.Send told, c))) ≡ Ok own_turn.Asked → ⊥
never-granted host c told e = cc
never-granted w c told e = cc

never-set : (w : Waits) (b : Bool) (c : CardState) (told : Parts)
    → turn_of (if_host w (if b then Err Reserved else Ok (own_turn.Send told, c))) ≡ Ok own_turn.Asked → ⊥
never-set host true c told e = cc
never-set host false c told e = cc
never-set w b c told e = cc

pub never-asked : (c : CardState) (answer : List ℕ) (turn : HostTurn)
    → turn_of (card_turn c (input_by answer turn)) ≡ Ok own_turn.Asked → ⊥
never-asked c answer Reply e = never-replied c.waits _ c answer e
never-asked c answer (MoreTime n) e = never-granted c.waits _ (request_block (of_time n)) e
never-asked c answer (AskIfs n) e = never-set c.waits _ _ (request_block (of_size n)) e

-- the session counts no requests about a new command
first-granted : (w : Waits) (granted : ℕ) → is_first (granted_after (is_asking w) granted) ≡ is_new w
first-granted (asking request) granted = grind arith
first-granted w granted = refl

abbrev pub after-as : (acted wanted : Result EncodedCardTurn CardFault) (owing : ℕ) (start : Start) (rules : Rules)
    (p : wire.Doing) (burst : List ℕ) (own : ℕ) (s : Placed) → acted ≡ wanted
    → AfterTurn acted owing start rules p burst 0 s.line own s.own (Ok s.next)
    → AfterTurn wanted owing start rules p burst 0 s.line own s.own (Ok s.next)
after-as acted wanted owing start rules p burst own s e after =
    subst (λ (x : Result EncodedCardTurn CardFault).
    AfterTurn x owing start rules p burst 0 s.line own s.own (Ok s.next)) e after

pub turned-at : (takes_short : Bool) (w : Waits) (turn : Result CardTurn CardFault)
    (acted : Result EncodedCardTurn CardFault) (c0 : CardState) (events : List Event) (owing own : ℕ) (rules : Rules)
    (p : wire.Doing) (burst out : List ℕ) (s : Placed)
    → (turn ≡ Ok own_turn.Asked → ⊥) → Begins takes_short c0 events (doing_of w turn) s.card
    → IsCardPut turn out s.out acted → AfterTurn acted owing Exchange rules p burst 0 s.line own s.own (Ok s.next)
    → IsAt takes_short c0 events s
turned-at takes_short w (Ok (own_turn.Send told)) acted c0 events owing own rules p burst out s never run
    (count, is, placed) after =
    let now_after : AfterTurn (Ok (put.Send count)) owing Exchange rules p burst 0 s.line own s.own (Ok s.next) =
    after-as acted _ owing Exchange rules p burst own s is after in
    sent-at takes_short _ rules count c0 events told s (begins-unsent (ruled rules) _ burst 0) now_after.2.1.moved
    (same-ok s.next now_after.0 (Ok s.next) refl now_after.1 ∙ now_after.2.1.action_is) (sym now_after.2.0)
    (ap (λ (n : ℕ). take n s.out) now_after.2.0 ∙ front told out s.out count placed) run
turned-at takes_short w (Ok own_turn.Asked) acted c0 events owing own rules p burst out s never run put after =
    absurd (never refl)
turned-at takes_short w (Err fault) acted c0 events owing own rules p burst out s never run (is, kept) after =
    let now_after : AfterTurn (Err fault) owing Exchange rules p burst 0 s.line own s.own (Ok s.next) =
    after-as acted _ owing Exchange rules p burst own s is after in
    absurd (ok-or-not s.next fault (Ok s.next) refl now_after.0)

pub called-at : (takes_short : Bool) (c0 : CardState) (events : List Event) (c : CardState) (answer : List ℕ)
    (turn : HostTurn) (rules : Rules) (p : wire.Doing) (burst : List ℕ) (own : ℕ) (out : List ℕ) (s : Placed)
    → Begins takes_short c0 events (doing_by c (input_by answer turn))
    (state_after c (card_turn c (input_by answer turn)))
    → TurnsTo c (input_by answer turn) Exchange rules p burst 0 s.card s.line own s.own out s.out (Ok s.next)
    → IsAt takes_short c0 events s
called-at takes_short c0 events c answer turn rules p burst own out s run turns =
    turned-at takes_short c.waits (turn_of (card_turn c (input_by answer turn))) turns.acted c0 events _ own rules p
    burst out s (never-asked c answer turn)
    (subst (λ (left : CardState). Begins takes_short c0 events (doing_by c (input_by answer turn)) left)
    (sym turns.state) run) turns.put turns.after

-- ---- a burst

-- the host gets the message, or the session replies for it
pub asked-at : (takes_short b new : Bool) (c0 : CardState) (events : List Event) (c : CardState) (rules : Rules)
    (p : wire.Doing) (burst : List ℕ) (own : ℕ) (out : List ℕ) (s : Placed) → c.waits ≡ host
    → is_for_host takes_short (asked_about c) ≡ b → is_first s.granted ≡ new
    → Begins takes_short c0 events (asks new) c
    → Asks b c rules p burst 0 s.card s.line own s.own out s.out (Ok s.next)
    → IsAt takes_short c0 (events ++ (if b then [] else (asked new c.command wrong_length ∷ []))) s
asked-at takes_short true new c0 events c rules p burst own out s waits e first run (same, still, own_is, out_is, is) =
    subst (λ (all_of : List Event). IsAt takes_short c0 all_of s) (sym (append-nil events))
    (at-run takes_short c0 events (asks new) s
    (subst (λ (a : Action). IsDoing takes_short a s (asks new))
    (sym (same-ok s.next (action.Asked (asked_about c)) (Ok s.next) refl is))
    (subst (λ (left : CardState). (asks new ≡ asks (is_first s.granted)) × (owed left left.waits ≡ Some left.command)
    × Gets takes_short left.command) (sym same) (
      ap asks (sym first),
      owed-then c waits,
      gets-for takes_short c.command (ap (is_for_host takes_short) (sym (about-then c waits)) ∙ e),
    )))
    (subst (λ (left : CardState). Begins takes_short c0 events (asks new) left) (sym same) run)
    (moved-burst _ rules s.line still))
asked-at takes_short false new c0 events c rules p burst own out s waits e first run turns =
    called-at takes_short c0 _ c wrong_length Reply rules p burst own out s
    (then-asked takes_short c0 events new c c.command wrong_length refl (given-reply takes_short c.command) run) turns

pub taken-at : (takes_short : Bool) (w : Waits) (turn : Result CardTurn CardFault)
    (acted : Result EncodedCardTurn CardFault) (c0 : CardState) (events : List Event) (c : CardState) (granted : ℕ)
    (rules : Rules) (p : wire.Doing) (burst : List ℕ) (own : ℕ) (out between : List ℕ) (s : Placed)
    → (turn ≡ Ok own_turn.Asked → c.waits ≡ host) → Begins takes_short c0 events (doing_of w turn) c
    → IsCardPut turn out between acted
    → IsHeard acted c (is_asking w) takes_short granted s.granted rules p burst 0 s.card s.line own s.own between s.out
    (Ok s.next)
    → IsAt takes_short c0 (events ++ replied_for takes_short w turn c) s
taken-at takes_short w (Ok (own_turn.Send told)) acted c0 events c granted rules p burst own out between s waits run
    (count, is, placed) heard =
    let (same, kept, out_is, own_is, a, a_is, sent_so) = subst (λ (x : Result EncodedCardTurn CardFault).
    IsHeard x c (is_asking w) takes_short granted s.granted rules p burst 0 s.card s.line own s.own between s.out
    (Ok s.next)) is heard in
    subst (λ (all_of : List Event). IsAt takes_short c0 all_of s) (sym (append-nil events))
    (sent-at takes_short _ rules count c0 events told s (talks-unsent (ruled rules) _ burst 0) sent_so.moved
    (same-ok s.next a (Ok s.next) refl a_is ∙ sent_so.action_is) (sym own_is)
    (ap (λ (n : ℕ). take n s.out) own_is ∙ ap (take count) out_is ∙ front told out between count placed)
    (subst (λ (left : CardState). Begins takes_short c0 events (says told) left) (sym same) run))
taken-at takes_short w (Ok own_turn.Asked) acted c0 events c granted rules p burst own out between s waits run
    (is, kept) heard =
    let now_heard = subst (λ (x : Result EncodedCardTurn CardFault).
    IsHeard x c (is_asking w) takes_short granted s.granted rules p burst 0 s.card s.line own s.own between s.out
    (Ok s.next)) is heard in
    asked-at takes_short (is_for_host takes_short (asked_about c)) (is_new w) c0 events c rules p burst own between s
    (waits refl) refl (ap is_first now_heard.0 ∙ first-granted w granted) run now_heard.1
taken-at takes_short w (Err fault) acted c0 events c granted rules p burst own out between s waits run (is, kept)
    heard =
    let (same, granted_is, out_is, still, own_is, bad) = subst (λ (x : Result EncodedCardTurn CardFault).
    IsHeard x c (is_asking w) takes_short granted s.granted rules p burst 0 s.card s.line own s.own between s.out
    (Ok s.next)) is heard in
    absurd (ok-or-not s.next fault (Ok s.next) refl bad)

-- ---- a step

-- of a session that hears
pub hearing-at : (takes_short : Bool) (next : Next) (step : Step) (c0 : CardState) (events : List Event)
    (before after : Placed) → Begins takes_short c0 events hears before.card → step.next ≡ next → Hearing step
    → IsStepped next step before.line.rules before.card takes_short before.granted after.granted 0
    after.card after.line before.own after.own before.out after.out (Ok after.next)
    → IsAt takes_short c0 (events ++ stepped_as takes_short next step before.card) after
hearing-at takes_short Heard step c0 events before after run e stays hears_so =
    subst (λ (all_of : List Event). IsAt takes_short c0 all_of after)
    (append_assoc events (came (arrived (take handed (handed_over step.progress.is_spoiled step.burst))) ∷ []) _)
    (taken-at takes_short before.card.waits _ hears_so.acted c0 _ _ _ _ _ _ _ _ _ after
    (λ asks. waits-after before.card (heard_in before.card (handed_over step.progress.is_spoiled step.burst)) asks)
    (then-came takes_short c0 events before.card (take handed (handed_over step.progress.is_spoiled step.burst)) run)
    hears_so.put hears_so.after)
hearing-at takes_short Quiet step c0 events before after run e stays (same, kept, own_is, out_is, a, a_is, sent_so) =
    subst (λ (all_of : List Event). IsAt takes_short c0 all_of after) (sym (append-nil events))
    (heard-at takes_short _ before.line.rules before.own c0 events after (serves-hearing _ _ step.burst 0) sent_so.moved
    (same-ok after.next a (Ok after.next) refl a_is ∙ sent_so.action_is)
    (subst (λ (left : CardState). Begins takes_short c0 events hears left) (sym same) run))
hearing-at takes_short next step c0 events before after run e stays stepped =
    subst (λ (all_of : List Event). IsAt takes_short c0 all_of after) (sym (append-nil events))
    (heard-at takes_short step before.line.rules before.own c0 events after stays stepped.4
    (same-ok after.next (action_of next before.own) (Ok after.next) refl stepped.5
    ∙ ap (λ (n : Next). action_of n before.own) (sym e))
    (subst (λ (left : CardState). Begins takes_short c0 events hears left) (sym stepped.0) run))

-- of a session whose told isn't sent yet
pub unsent-at : (takes_short : Bool) (next : Next) (step : Step) (c0 : CardState) (events : List Event) (told : Parts)
    (before after : Placed) → Begins takes_short c0 events (says told) before.card
    → take before.own before.out ≡ spelling told → step.next ≡ next → Unsent step
    → IsStepped next step before.line.rules before.card takes_short before.granted after.granted 0
    after.card after.line before.own after.own before.out after.out (Ok after.next)
    → IsAt takes_short c0 (events ++ stepped_as takes_short next step before.card) after
unsent-at takes_short Heard step c0 events told before after run same_out e stays stepped =
    absurd (subst (λ (n : Next). StaysUnsent n step.progress.phase) e stays.stays)
unsent-at takes_short Quiet step c0 events told before after run same_out e stays stepped =
    absurd (subst (λ (n : Next). StaysUnsent n step.progress.phase) e stays.stays)
unsent-at takes_short next step c0 events told before after run same_out e stays stepped =
    subst (λ (all_of : List Event). IsAt takes_short c0 all_of after) (sym (append-nil events))
    (sent-at takes_short step before.line.rules before.own c0 events told after stays stepped.4
    (same-ok after.next (action_of next before.own) (Ok after.next) refl stepped.5
    ∙ ap (λ (n : Next). action_of n before.own) (sym e)) (sym stepped.2)
    (ap (λ (n : ℕ). take n after.out) stepped.2 ∙ ap (take before.own) stepped.3 ∙ same_out)
    (subst (λ (left : CardState). Begins takes_short c0 events (says told) left) (sym stepped.0) run))

-- a session that waits
pub waited-at : (takes_short b : Bool) (doing : Doing) (step : Step) (c0 : CardState) (events : List Event)
    (before after : Placed) → IsToHear b (take before.own before.out) doing → (b ≡ true → Unsent step)
    → (b ≡ false → Hearing step) → Begins takes_short c0 events doing before.card
    → IsStepped step.next step before.line.rules before.card takes_short before.granted after.granted 0
    after.card after.line before.own after.own before.out after.out (Ok after.next)
    → IsAt takes_short c0 (events ++ stepped_as takes_short step.next step before.card) after
waited-at takes_short true doing step c0 events before after (told, is, same) f g run stepped =
    unsent-at takes_short step.next step c0 events told before after
    (subst (λ (d : Doing). Begins takes_short c0 events d before.card) is run) same refl (f refl) stepped
waited-at takes_short false doing step c0 events before after is f g run stepped =
    hearing-at takes_short step.next step c0 events before after
    (subst (λ (d : Doing). Begins takes_short c0 events d before.card) is run) refl (g refl) stepped

-- ---- a turn of the loop

pub line-turn : (takes_short : Bool) (next : Action) (sound : Sound) (c0 : CardState) (events : List Event)
    (doing : Doing) (before after : Placed) (turn : IsLineTurn takes_short before sound after)
    → IsAsked next before.out sound → IsDoing takes_short next before doing
    → Begins takes_short c0 events doing before.card
    → IsAt takes_short c0 (events ++ events_by takes_short before sound turn.burst) after
line-turn takes_short (action.Send count) (said octets) c0 events doing before after turn asked_for
    (own_is, (told, is, same)) run =
    subst (λ (all_of : List Event). IsAt takes_short c0 all_of after) (append_assoc events (sent octets ∷ []) _)
    (hearing-at takes_short _ (step_by before (said octets) turn.burst) c0 (events ++ sent octets ∷ []) before after
    (then-sent takes_short c0 events told before.card octets
    (asked_for ∙ ap (λ (n : ℕ). take n before.out) own_is ∙ same)
    (subst (λ (d : Doing). Begins takes_short c0 events d before.card) is run))
    refl (on-sent-hearing _ _ turn.burst 0 _) turn.stepped_so)
line-turn takes_short (action.Send count) (unsaid octets fault) c0 events doing before after turn asked_for
    (own_is, (told, is, same)) run =
    unsent-at takes_short _ (step_by before (unsaid octets fault) turn.burst) c0 events told before after
    (subst (λ (d : Doing). Begins takes_short c0 events d before.card) is run) same refl
    (on-failed-unsent _ _ turn.burst) turn.stepped_so
line-turn takes_short (action.Wait time) (piece limit []) c0 events doing before after turn asked_for is run =
    waited-at takes_short _ doing (step_by before (piece limit []) turn.burst) c0 events before after is
    (λ e. on-silent-unsent _ _ turn.burst 0 _ e) (λ e. on-silent-hearing _ _ turn.burst 0 _ e) run turn.stepped_so
line-turn takes_short (action.Wait time) (piece limit (octet ∷ octets)) c0 events doing before after turn asked_for
    is run =
    waited-at takes_short _ doing (step_by before (piece limit (octet ∷ octets)) turn.burst) c0 events before after is
    (λ e. on-came-unsent _ _ turn.burst octet octets false 0 _ e)
    (λ e. on-came-hearing _ _ turn.burst octet octets false 0 _ e) run turn.stepped_so
line-turn takes_short (action.Wait time) (deaf limit fault) c0 events doing before after turn asked_for is run =
    waited-at takes_short _ doing (step_by before (deaf limit fault) turn.burst) c0 events before after is
    (λ e. on-failed-unsent _ _ turn.burst) (λ e. on-failed-hearing _ _ turn.burst) run turn.stepped_so
line-turn takes_short next sound c0 events doing before after turn asked_for is run = absurd asked_for

pub host-turn : (takes_short : Bool) (c0 : CardState) (events : List Event) (octets answer : List ℕ) (turn : HostTurn)
    (before after : Placed) → IsHostTurn before octets answer turn after → IsAt takes_short c0 events before
    → IsAt takes_short c0 (events ++ event_at (is_first before.granted) octets answer turn ∷ []) after
host-turn takes_short c0 events octets answer turn before after called at =
    let is : IsDoing takes_short (action.Asked called.count) before at.served.doing =
    subst (λ (a : Action). IsDoing takes_short a before at.served.doing) called.asked_for at.served.is in
    let same : octets ≡ before.card.command = owed-command before.card before.card.waits octets called.owes in
    called-at takes_short c0 _ before.card answer turn _ _ called.burst before.own before.out after
    (then-turned takes_short c0 events (is_first before.granted) before.card octets answer turn same
    (subst (λ (command : List ℕ). Gets takes_short command) (sym same) is.2)
    (subst (λ (d : Doing). Begins takes_short c0 events d before.card) is.0 at.served.begins)) called.called

-- ---- all turns

pub begun-at : (takes_short : Bool) (card : CardState) (line : Line) (first : Placed) → IsBegun card line first
    → IsAt takes_short card [] first
begun-at takes_short card line first begun =
    heard-at takes_short _ line.rules 0 card [] first (serves-hearing _ _ begun.burst 0) begun.begun.moved
    begun.begun.action_is
    (subst (λ (left : CardState). Begins takes_short card [] hears left) (sym begun.card_is)
    (record { follows = λ most more ending left run. (most, run) }))

pub all-at : (takes_short : Bool) (c0 : CardState) (first : Placed) (sounds : List Sound) (events acts : List Event)
    (last : Placed) → IsAt takes_short c0 [] first → Turns takes_short first sounds events acts last
    → IsAt takes_short c0 events last
all-at takes_short c0 first sounds events acts last at none = at
all-at takes_short c0 first sounds events acts last at
    (by_line heard before_events before_acts before sound after turns turn) =
    let now_at = all-at takes_short c0 first heard before_events before_acts before at turns in
    line-turn takes_short before.next sound c0 before_events now_at.served.doing before after turn turn.asked_for
    now_at.served.is now_at.served.begins
all-at takes_short c0 first sounds events acts last at
    (by_host heard before_events before_acts before octets answer turn after turns called) =
    host-turn takes_short c0 before_events octets answer turn before after called
    (all-at takes_short c0 first heard before_events before_acts before at turns)

pub ran-at : {A B : Type 0} (takes_short : Bool) (old new : A → List Sound → Type 0)
    (old_host new_host : B → List Event → Type 0) (card : CardState) (line : Line) (events : List Event)
    (last : Placed) → Ran takes_short old new old_host new_host card line events last
    → IsAt takes_short card events last
ran-at takes_short old new old_host new_host card line events last ran =
    all-at takes_short card ran.first ran.sounds events ran.acts last
    (begun-at takes_short card line ran.first ran.begun) ran.turns

-- ---- the events at the host

kept-append : (b : Bool) (event : Event) (all_of xs ys : List Event) → all_of ≡ xs ++ ys
    → (if b then (event ∷ all_of) else all_of) ≡ (if b then (event ∷ xs) else xs) ++ ys
kept-append true event all_of xs ys e = ap (λ (list : List Event). event ∷ list) e
kept-append false event all_of xs ys e = e

for-host-append : (takes_short : Bool) (xs ys : List Event)
    → for_host takes_short (xs ++ ys) ≡ for_host takes_short xs ++ for_host takes_short ys
for-host-append takes_short [] ys = refl
for-host-append takes_short (asked new octets answer ∷ xs) ys =
    kept-append (is_for_host takes_short (length octets)) (asked new octets answer) _ _ _
    (for-host-append takes_short xs ys)
for-host-append takes_short (requested new octets request ∷ xs) ys =
    ap (λ (list : List Event). requested new octets request ∷ list) (for-host-append takes_short xs ys)
for-host-append takes_short (came arrival ∷ xs) ys = for-host-append takes_short xs ys
for-host-append takes_short (sent octets ∷ xs) ys = for-host-append takes_short xs ys
for-host-append takes_short (unsent octets fault ∷ xs) ys = for-host-append takes_short xs ys

-- what the session replies for the host is no event at the host
never-told : (takes_short b new : Bool) (c : CardState) → is_for_host takes_short (length c.command) ≡ b
    → for_host takes_short (if b then [] else (asked new c.command wrong_length ∷ [])) ≡ []
never-told takes_short true new c e = refl
never-told takes_short false new c e = rw e refl

replied-none : (takes_short : Bool) (w : Waits) (turn : Result CardTurn CardFault) (c : CardState)
    → (turn ≡ Ok own_turn.Asked → c.waits ≡ host) → for_host takes_short (replied_for takes_short w turn c) ≡ []
replied-none takes_short w (Ok (own_turn.Send told)) c waits = refl
replied-none takes_short w (Ok own_turn.Asked) c waits =
    never-told takes_short (is_for_host takes_short (asked_about c)) (is_new w) c
    (ap (is_for_host takes_short) (sym (about-then c (waits refl))))
replied-none takes_short w (Err fault) c waits = refl

stepped-none : (takes_short : Bool) (next : Next) (step : Step) (c : CardState)
    → for_host takes_short (stepped_as takes_short next step c) ≡ []
stepped-none takes_short Heard step c =
    replied-none takes_short c.waits _ _
    (λ asks. waits-after c (heard_in c (handed_over step.progress.is_spoiled step.burst)) asks)
stepped-none takes_short next step c = refl

line-none : (takes_short : Bool) (before : Placed) (sound : Sound) (burst : List ℕ)
    → for_host takes_short (events_by takes_short before sound burst) ≡ []
line-none takes_short before (said octets) burst = stepped-none takes_short _ _ before.card
line-none takes_short before (unsaid octets fault) burst = stepped-none takes_short _ _ before.card
line-none takes_short before (piece limit octets) burst = stepped-none takes_short _ _ before.card
line-none takes_short before (deaf limit fault) burst = stepped-none takes_short _ _ before.card

host-kept : (takes_short new : Bool) (octets answer : List ℕ) (turn : HostTurn)
    → is_for_host takes_short (length octets) ≡ true
    → for_host takes_short (event_at new octets answer turn ∷ []) ≡ event_at new octets answer turn ∷ []
host-kept takes_short new octets answer Reply gets = rw gets refl
host-kept takes_short new octets answer (MoreTime n) gets = refl
host-kept takes_short new octets answer (AskIfs n) gets = refl

-- the message of the host's turn is one that it gets
gets-octets : (takes_short : Bool) (c0 : CardState) (events : List Event) (octets answer : List ℕ) (turn : HostTurn)
    (before after : Placed) → IsHostTurn before octets answer turn after → IsAt takes_short c0 events before
    → is_for_host takes_short (length octets) ≡ true
gets-octets takes_short c0 events octets answer turn before after called at =
    let is : IsDoing takes_short (action.Asked called.count) before at.served.doing =
    subst (λ (a : Action). IsDoing takes_short a before at.served.doing) called.asked_for at.served.is in
    ap (λ (command : List ℕ). is_for_host takes_short (length command))
    (owed-command before.card before.card.waits octets called.owes) ∙ for-gets takes_short before.card.command is.2

acts-for-host : (takes_short : Bool) (c0 : CardState) (first : Placed) (sounds : List Sound)
    (events acts : List Event) (last : Placed) → IsAt takes_short c0 [] first
    → Turns takes_short first sounds events acts last → acts ≡ for_host takes_short events
acts-for-host takes_short c0 first sounds events acts last at none = refl
acts-for-host takes_short c0 first sounds events acts last at (by_line heard before_events before_acts before sound
    after turns turn) =
    sym (for-host-append takes_short before_events (events_by takes_short before sound turn.burst)
    ∙ ap (λ (list : List Event). for_host takes_short before_events ++ list)
    (line-none takes_short before sound turn.burst)
    ∙ append-nil (for_host takes_short before_events)
    ∙ sym (acts-for-host takes_short c0 first heard before_events before_acts before at turns))
acts-for-host takes_short c0 first sounds events acts last at (by_host heard before_events before_acts before octets
    answer turn after turns called) =
    let act : Event = event_at (is_first before.granted) octets answer turn in
    let now_at = all-at takes_short c0 first heard before_events before_acts before at turns in
    sym (for-host-append takes_short before_events (act ∷ [])
    ∙ ap (λ (list : List Event). for_host takes_short before_events ++ list)
    (host-kept takes_short (is_first before.granted) octets answer turn
    (gets-octets takes_short c0 before_events octets answer turn before after called now_at))
    ∙ ap (λ (list : List Event). list ++ act ∷ [])
    (sym (acts-for-host takes_short c0 first heard before_events before_acts before at turns)))

pub ran-acts : {A B : Type 0} (takes_short : Bool) (old new : A → List Sound → Type 0)
    (old_host new_host : B → List Event → Type 0) (card : CardState) (line : Line) (events : List Event)
    (last : Placed) → (ran : Ran takes_short old new old_host new_host card line events last)
    → ran.acts ≡ for_host takes_short events
ran-acts takes_short old new old_host new_host card line events last ran =
    acts-for-host takes_short card ran.first ran.sounds events ran.acts last
    (begun-at takes_short card line ran.first ran.begun) ran.turns
