-- How a session goes on by an event, and ends.
use Rattle.std.proofs.Common.{subst, OnOk, ◌≡◌, ◌≢◌, ◌<◌, ◌≤◌, ◌+◌, ◌-◌, ◌∙◌, ℕ, zero, suc, List, [], ◌∷◌, Option, Some, None, Result, Ok, Err, refl, sym, ap, arith}
use Rattle.t1_core.specs.Link as link
use Rattle.t1_core.specs.declared.turns.TerminalTurn.TheVariants.{Send, Answered, IfsSet, GivenUp, Dead}
use Rattle.t1_core.specs.declared.turns.CardTurn.TheVariants.{Send as Sends, Asked}
use Rattle.exchange_core.specs.Recording.{Recording, IfNotMemory, recorded}
use Rattle.exchange_core.specs.declared.event.EventFault.{EventFault}
use Rattle.exchange_core.specs.declared.event.EventFault.TheVariants.{NothingUnderWay, Terminal as AtTerminal, Card as AtCard, Memory}
use Rattle.exchange_core.specs.declared.event.LastTurn.{LastTurn}
use Rattle.exchange_core.specs.declared.event.LastTurn.TheVariants.{Nothing, Terminal, Card}
use Rattle.program_words.specs.declared.session.Pair.{Pair}
use Rattle.program_words.specs.declared.session.Session.{Session}
use Rattle.exchange_text.specs.declared.line.Line.{Line}
use Rattle.exchange_text.specs.Exchange.{ExchangeParts}
use Rattle.exchange_core.specs.Replay.{IsFound}
use Rattle.simulator.specs.declared.fault.SimulationFault.{SimulationFault}
use Rattle.simulator.specs.declared.fault.SimulationFault.TheVariants.{Refused, TooLarge, Memory as NoMemory}
use Rattle.simulator.proofs.Ending.{too-few}
use Rattle.simulator.proofs.Long.{too-long}
use Rattle.simulator.specs.Simulation.{IfTooLarge, IsSimulated, WhereTooLarge, most_events, Next, Place, begins, exchange_of, further, new_recording, next, onward, opens, simulated, start}

-- ---- the blocks that are sent

abbrev place-of : Place → Next → Place
place-of at None = at
place-of at (Some step) = step.1

begins-few : (at : Place) (pairs : List Pair) → (place-of at (begins at pairs)).sent ≤ at.sent + 1
begins-few at [] = omega arith
begins-few at (pair ∷ left) = omega arith

opens-few : (at : Place) (size : Option ℕ) → (place-of at (opens at size)).sent ≤ at.sent + 1
opens-few at None = begins-few at at.left
opens-few at (Some size) = omega arith

next-few : (s : Session) (at : Place) (last : LastTurn) → (place-of at (next s at last)).sent ≤ at.sent + 1
next-few s at Nothing = opens-few at s.ifsd
next-few s at (Terminal (Send block)) = omega arith
next-few s at (Terminal Answered) = begins-few at at.left
next-few s at (Terminal IfsSet) = begins-few at at.left
next-few s at (Terminal GivenUp) = begins-few at at.left
next-few s at (Terminal Dead) = omega arith
next-few s at (Card (Sends block)) = omega arith
next-few s at (Card Asked) = omega arith

-- an event sends at most one block
pub sent-few : (s : Session) (at after : Place) (last : LastTurn) (event : link.Event)
    → next s at last ≡ Some (event, after) → after.sent ≤ at.sent + 1
sent-few s at after last event e = rw (ap (place-of at) e) at (next-few s at last)

-- ---- events

one-event : (most done : ℕ) (s : Session) (at : Place) (r : Recording) → done < most
    → simulated (most - done) s at r ≡ further (simulated (most - (done + 1)) s) r (next s at r.last)
unfolding simulated
one-event most done s at r lt =
    let e : most - done ≡ suc (most - (done + 1)) = omega arith in
    rw e refl

-- an event happens
pub goes-on : (most done : ℕ) (s : Session) (at after : Place) (r new : Recording) (event : link.Event) → done < most
    → next s at r.last ≡ Some (event, after) → recorded r event ≡ Ok new
    → simulated (most - done) s at r ≡ simulated (most - (done + 1)) s after new
goes-on most done s at after r new event lt n e =
    one-event most done s at r lt
    ∙ ap (further (simulated (most - (done + 1)) s) r) n
    ∙ ap (onward (simulated (most - (done + 1)) s after) r) e

-- nothing is left
pub ends : (most done : ℕ) (s : Session) (at : Place) (r : Recording) → done < most
    → next s at r.last ≡ None → simulated (most - done) s at r ≡ Some r
ends most done s at r lt n = one-event most done s at r lt ∙ ap (further (simulated (most - (done + 1)) s) r) n

-- an event is refused
pub stops : (most done : ℕ) (s : Session) (at after : Place) (r : Recording) (event : link.Event) (fault : EventFault)
    → done < most
    → next s at r.last ≡ Some (event, after) → recorded r event ≡ Err fault → simulated (most - done) s at r ≡ Some r
stops most done s at after r event fault lt n e =
    one-event most done s at r lt
    ∙ ap (further (simulated (most - (done + 1)) s) r) n
    ∙ ap (onward (simulated (most - (done + 1)) s after) r) e

-- no event more may happen
pub runs-out : (most done : ℕ) (s : Session) (at : Place) (r : Recording) → most ≤ done
    → simulated (most - done) s at r ≡ None
unfolding simulated
runs-out most done s at r le =
    let e : most - done ≡ zero = omega arith in
    rw e refl

-- what is said of each fault but memory is so where the fault isn't memory
pub not-memory : (fault : EventFault) (P : Type 0) → fault ≢ Memory → IfNotMemory fault P → P
not-memory NothingUnderWay P other h = h
not-memory (AtTerminal fault) P other h = h
not-memory (AtCard fault) P other h = h
not-memory Memory P other h = absurd (other refl)

-- what is said of a success may be changed for what follows from it
pub on-ok : {A E : Type 0} (r : Result A E) {P Q : Type 0} → (P → Q) → OnOk r P → OnOk r Q
on-ok (Ok x) f h = f h
on-ok (Err e) f h = tt

-- ---- the whole session

abbrev Empty : Recording → List ℕ → Type 0
Empty r atr = (r.atr ≡ atr) × (r.lines ≡ []) × (r.last ≡ Nothing)

new-is : (r : Recording) (atr : List ℕ) → Empty r atr → r ≡ new_recording atr r.ifsc
new-is r atr (a, l, n) =
    ap (λ (x : List ℕ). record { atr = x; ifsc = r.ifsc; lines = r.lines; last = r.last }) a
    ∙ ap (λ (x : List Line). record { atr = atr; ifsc = r.ifsc; lines = x; last = r.last }) l
    ∙ ap (λ (x : LastTurn). record { atr = atr; ifsc = r.ifsc; lines = []; last = x }) n

module _ (most : ℕ) (s : Session) (atr : List ℕ) (same : atr ≡ s.atr) (r : Recording) (empty : Empty r atr)
    (found : IsFound atr (Ok r.ifsc)) where
  begun : r ≡ new_recording s.atr r.ifsc
  begun = new-is r atr empty ∙ ap (λ (x : List ℕ). new_recording x r.ifsc) same

  is-found : IsFound s.atr (Ok r.ifsc)
  is-found = subst (λ (x : List ℕ). IsFound x (Ok r.ifsc)) same found

  -- where the run ends, the session comes to the exchange of its last record
  pub made : (final : Recording) (e : ExchangeParts) → simulated most s (start s) r ≡ Some final → e ≡ exchange_of final
      → IsSimulated most s (Ok e)
  made final e h is = (r.ifsc, final, is-found, (most, sym (ap (simulated most s (start s)) begun) ∙ h), is)

  -- and where it had no end in time, the session is too large
  pub not-made : (fault : SimulationFault) → IfTooLarge fault (simulated most s (start s) r ≡ None)
      → IsSimulated most s (Err fault)
  not-made (Refused name) h = absurd h
  not-made TooLarge h = (
    r.ifsc,
    is-found,
    λ final ends.
        too-long most s r.ifsc final (sym (ap (simulated most s (start s)) begun) ∙ h) ends,
  )
  not-made NoMemory h = tt

  -- then more events were to happen
  pub enough : (fault : SimulationFault) → IfTooLarge fault (simulated most s (start s) r ≡ None)
      → WhereTooLarge fault (most < most_events s)
  enough (Refused name) h = tt
  enough TooLarge h = too-few most s r.ifsc is-found (sym (ap (simulated most s (start s)) begun) ∙ h)
  enough NoMemory h = tt
