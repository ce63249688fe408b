-- One command over a line with two ends is given to the host at most once.
use Rattle.std.proofs.Common.{◌≡◌, ◌⊎◌, ℕ, List, [], ◌∷◌, Option, Some, None, Ok, Err, IsSome, refl, ap, inl, inr}
use Rattle.std.proofs.lemmas.List.{append-nil}
use Rattle.t1_core.specs.Terminal.{TerminalState, TerminalStep, transmit, terminal_turn, turn_of, state_after, terminal_with}
use Rattle.t1_core.specs.Link.{Exchange, answered, unanswered, given_up, command_of}
use Rattle.t1_core.specs.Promises.{Matches}
use Rattle.line_core.specs.Line.{Talk}
use Rattle.line_core.specs.Exchange.{Ending, done, given_up as is_given_up, dead, line_failed, used_up, refused, Runs, next_of}
use Rattle.line_core.specs.Joined.{Trip, talks_of, events_of, Call, begun, ended, services_of, AlwaysMatched, WasGiven, IsOnce, AlwaysOnce}
use Rattle.line_core.proofs.Answered as with_answer

none-given : (m : List ℕ) (hs : List Exchange) → Matches [] hs → WasGiven m hs
none-given m [] h = tt
none-given m (service ∷ hs) h = absurd h

one-given : (m : List ℕ) (service : Exchange) (hs : List Exchange)
    → Matches [] (service ∷ hs) ⊎ ((command_of service ≡ m) × Matches [] hs) → WasGiven m (service ∷ hs)
one-given m service [] (inl never) = absurd never
one-given m service [] (inr (is, none)) = is
one-given m service (other ∷ hs) (inl never) = absurd never
one-given m service (other ∷ hs) (inr (is, never)) = absurd never

without-answer : (m : List ℕ) (hs : List Exchange) → Matches (unanswered m ∷ []) hs → WasGiven m hs
without-answer m [] h = tt
without-answer m (service ∷ hs) h = one-given m service hs h

gave-up : (m : List ℕ) (hs : List Exchange) → Matches (given_up m ∷ []) hs → WasGiven m hs
gave-up m [] h = tt
gave-up m (service ∷ hs) h = one-given m service hs h

with-reply : (m a : List ℕ) (hs : List Exchange) → Matches (answered m a ∷ []) hs → hs ≡ answered m a ∷ []
with-reply m a [] h = absurd h
with-reply m a (service ∷ []) h = ap (λ (x : Exchange). x ∷ []) h.0
with-reply m a (service ∷ (other ∷ hs)) h = absurd h.1

once : (m : List ℕ) (ending : Ending) (a : Option (List ℕ)) (hs : List Exchange) → (ending ≡ done → IsSome a)
    → Matches (ended ending a (unanswered m ∷ [])) hs → IsOnce m ending a hs
once m done (Some a) hs some h = with-reply m a hs h
once m done None hs some h = let never : IsSome {T = List ℕ} None = some refl in cc
once m is_given_up a hs some h = gave-up m hs h
once m dead a hs some h = gave-up m hs h
once m (line_failed fault) a hs some h = without-answer m hs h
once m used_up a hs some h = without-answer m hs h
once m (refused fault) a hs some h = without-answer m hs h

once-by : (m : List ℕ) (t left : TerminalState) (step : TerminalStep) (most : ℕ) (trips : List Trip) (ending : Ending)
    (hs : List Exchange) → Runs most (next_of (turn_of step)) (state_after t step) (talks_of trips) ending left
    → (ending ≡ done → IsSome left.answered) → Matches (ended ending left.answered (begun (transmit m) step [])) hs
    → IsOnce m ending left.answered hs
once-by m t left (Ok step) most trips ending hs run some h = once m ending left.answered hs some h
once-by m t left (Err fault) most [] ending hs (is, e) some h = rw is (none-given m hs (rw is at h))
once-by m t left (Err fault) most (trip ∷ trips) ending hs never some h = absurd never

-- what the law of all calls says of one
pub always-once : AlwaysMatched → AlwaysOnce
always-once matched kt kc ifsc m most trips ending left takes_short most_heard end c small octets run served =
    let t : TerminalState = terminal_with kt ifsc in
    let call : Call = record { input = transmit m; most = most; trips = trips; ending = ending; left = left } in
    let same = matched kt kc ifsc (call ∷ []) (events_of trips ∷ []) left c (record {
      size = small;
      run = (octets, run, refl);
      served = (takes_short, most_heard, end, c, served, refl);
      events = refl;
    }) in
    let any : Unit {0} → List Talk → Type 0 = λ x talks. Unit {0} in
    let some : ending ≡ done → IsSome left.answered = λ is.
    with_answer.answered any any most t left m (Ok tt) (talks_of trips, λ x before h. tt, rw is at run) in
    once-by m t left (terminal_turn t (transmit m)) most trips ending (services_of (events_of trips) []) run some
    (rw append-nil at same)
