-- Both loops over one line are calls of `exchange` and of `serve` (line_core).
use Rattle.std.proofs.Common.{ℕ, List, [], ◌∷◌, ◌++◌, refl, sym, subst}
use Rattle.std.proofs.lemmas.List.{append-nil}
use Rattle.t1_core.specs.Terminal.{TerminalState, TerminalInput, Limits, takes, terminal_turn, turn_of, state_after, terminal_with}
use Rattle.t1_core.specs.Card.{CardState, card_with}
use Rattle.line_core.specs.Line.{Talk}
use Rattle.line_core.specs.Exchange.{Runs, next_of}
use Rattle.line_core.specs.Service.{Event, Doing, hears, used_up, ServesFor}
use Rattle.line_core.specs.Joined as joined
use Rattle.line_core.specs.Joined.{Call, IsCall, HaveRun, talks_of, events_of, events_in}
use Rattle.t1_core.specs.Came.{quiet}
use Rattle.line_core.specs.Exchange.{Ending}
use Rattle.session_core.specs.Terminals.{asking_resynch}
use Rattle.session_laws.proofs.Anew.{Begun, all-anew}
use Rattle.session_laws.specs.Together.{IsExchanged, HaveExchanged, IsListening, LoopsAnew, new_ends, after_resynch, AlwaysTwoEnds, AlwaysMatched, AlwaysInOrder, AlwaysPatient, AlwaysOnce}

-- a call's run, with what the call says of it
pub run-of : (t : TerminalState) (call : Call) → IsExchanged t call
    → Runs call.most (next_of (turn_of (terminal_turn t call.input))) (state_after t (terminal_turn t call.input))
    (talks_of call.trips) call.ending call.left
run-of t call is =
    subst (λ (talks : List Talk). Runs call.most (next_of (turn_of (terminal_turn t call.input)))
    (state_after t (terminal_turn t call.input)) talks call.ending call.left) is.talks
    (subst (λ (most : ℕ). Runs most (next_of (turn_of (terminal_turn t call.input)))
    (state_after t (terminal_turn t call.input)) is.run.talks call.ending call.left) is.most is.run.runs)

pub have-run : (t : TerminalState) (calls : List Call) (last : TerminalState) → HaveExchanged t calls last
    → HaveRun t calls last
have-run t [] last is = is
have-run t (call ∷ calls) last (first, more) =
    (first.input, run-of t call first, have-run call.left calls last more)

-- a card that listens has served what came
pub has-served : (first : CardState) (events : List Event) (last : CardState) → (is : IsListening first events last)
    → (least : ℕ) × ServesFor is.takes_short least hears first events used_up last
has-served first events last is =
    let now : ServesFor is.takes_short 0 is.served.doing is.placed.card [] used_up is.placed.card =
    subst (λ (doing : Doing). ServesFor is.takes_short 0 doing is.placed.card [] used_up is.placed.card)
    (sym is.listens)
    (refl, refl, refl) in
    let all = is.served.begins.follows 0 [] used_up is.placed.card now in (
      all.0,
      subst (λ (card : CardState). ServesFor is.takes_short all.0 hears first events used_up card) is.is
          (subst (λ (list : List Event). ServesFor is.takes_short all.0 hears first list used_up is.placed.card)
          (append-nil events)
          all.1),
    )

-- after RESYNCH both ends are new, and the card serves the calls that follow
begun-anew : (of_terminal of_card : Limits) (ifsc : ℕ) (before : CardState) (opening : Call) (calls : List Call)
    (t : TerminalState) (c : CardState) → (loops : LoopsAnew of_terminal of_card ifsc before opening calls t c)
    → Begun loops.served.takes_short of_terminal of_card ifsc opening.left (events_in calls) c
begun-anew of_terminal of_card ifsc before opening calls t c loops =
    let is = loops.resynched in
    let first : TerminalState = asking_resynch (terminal_with of_terminal ifsc) in
    let run = run-of first opening is.exchanged in
    let served = has-served before (events_of opening.trips ++ events_in calls) c loops.served in
    all-anew loops.served.takes_short of_terminal of_card ifsc 1 opening.most opening.trips (events_in calls) c
    opening.left served.0 before
    (subst (λ (ending : Ending). Runs opening.most (next_of (turn_of (terminal_turn first (takes quiet))))
    (state_after first (terminal_turn first (takes quiet))) (talks_of opening.trips) ending opening.left) is.answered
    (subst (λ (input : TerminalInput). Runs opening.most (next_of (turn_of (terminal_turn first input)))
    (state_after first (terminal_turn first input)) (talks_of opening.trips) opening.ending opening.left) is.asked run))
    served.1 loops.limits loops.first

pub always-two-ends : AlwaysTwoEnds
always-two-ends of_terminal of_card ifsc calls t c (after_resynch before opening loops) =
    let begun = begun-anew of_terminal of_card ifsc before opening calls t c loops in record {
      size = loops.size;
      run = have-run (terminal_with of_terminal ifsc) calls t
          (subst (λ (first : TerminalState). HaveExchanged first calls t) begun.terminal loops.exchanged);
      served = (loops.served.takes_short, begun.least, used_up, c, begun.serves, refl);
      events = sym (append-nil (events_in calls));
    }
always-two-ends of_terminal of_card ifsc calls t c (new_ends loops) =
    let served = has-served (card_with of_card ifsc) (events_in calls) c loops.served in record {
      size = loops.size;
      run = have-run (terminal_with of_terminal ifsc) calls t loops.exchanged;
      served = (loops.served.takes_short, served.0, used_up, c, served.1, refl);
      events = sym (append-nil (events_in calls));
    }

pub always-matched : AlwaysTwoEnds → joined.AlwaysMatched → AlwaysMatched
always-matched two matched of_terminal of_card ifsc calls t c loops =
    matched of_terminal of_card ifsc calls (events_in calls ∷ []) t c (two of_terminal of_card ifsc calls t c loops)

pub always-in-order : AlwaysTwoEnds → joined.AlwaysInOrder → AlwaysInOrder
always-in-order two in_order of_terminal of_card ifsc calls t c loops =
    in_order of_terminal of_card ifsc calls (events_in calls ∷ []) t c (two of_terminal of_card ifsc calls t c loops)

pub always-patient : AlwaysTwoEnds → joined.AlwaysPatientCalls → AlwaysPatient
always-patient two patient limits ifsc calls t c loops =
    patient limits ifsc calls (events_in calls ∷ []) t c (two limits limits ifsc calls t c loops)

pub always-once : AlwaysTwoEnds → joined.AlwaysOnce → AlwaysOnce
always-once two once of_terminal of_card ifsc call command t c is loops =
    let first : TerminalState = terminal_with of_terminal ifsc in
    let ends = two of_terminal of_card ifsc (call ∷ []) t c loops in
    let served = ends.served in
    once of_terminal of_card ifsc command call.most call.trips call.ending call.left served.0 served.1 served.2 served.3
    ends.size
    (subst IsCall is ends.run.0)
    (subst (λ (input : TerminalInput). Runs call.most (next_of (turn_of (terminal_turn first input)))
    (state_after first (terminal_turn first input)) (talks_of call.trips) call.ending call.left) is ends.run.1)
    (subst (λ (events : List Event). ServesFor served.0 served.1 hears (card_with of_card ifsc) events served.2
    served.3)
    (append-nil (events_of call.trips)) served.4)
