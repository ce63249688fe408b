-- RESYNCH was asked for some times, and not answered so far.
use Rattle.std.proofs.Common.{◌≡◌, ◌≤◌, ℕ, ◌+◌, List, [], ◌∷◌, ◌++◌, length, map, All, append_assoc, refl}
use Rattle.std.proofs.lemmas.List.{map-append, length-append}
use Rattle.std.proofs.lemmas.List.Elements.{All-append, All-nil, All-cons}
use Rattle.std.specs.declared.io.Error.{Error}
use Rattle.line_core.specs.declared.line.Received.{Received}
use Rattle.line_core.specs.declared.line.Received.TheVariants.{Octets, Nothing}
use Rattle.line_core.specs.Line.{Arrival, failure, Talk, Adds, arrived}
use Rattle.line_core.specs.Exchange.{Ending, done, dead, line_failed}
use Rattle.line_core.specs.Resynch.{asked, answered, IsUnanswered, Asks}

-- so many times, and what came each time
pub record Unanswered {A : Type 0} (first now : A → List Talk → Type 0) (times : ℕ) : Type 0 where
  pub before : List Arrival
  pub count : length before ≡ times
  pub unanswered : All IsUnanswered before
  pub adds : Adds first now (map asked before)

-- the talks with one more
adds-on : {A : Type 0} (first now after : A → List Talk → Type 0) (before : List Arrival) (arrival : Arrival)
    → Adds first now (map asked before) → Adds now after (asked arrival ∷ [])
    → Adds first after (map asked (before ++ arrival ∷ []))
adds-on first now after before arrival adds next =
    λ once earlier h. rw (map-append asked before (arrival ∷ []), ← append_assoc)
    (next once (earlier ++ map asked before) (adds once earlier h))

-- one more, which is no answer
pub asks-on : {A : Type 0} (first now after : A → List Talk → Type 0) (times : ℕ) (arrival : Arrival)
    → IsUnanswered arrival → Adds now after (asked arrival ∷ []) → Unanswered first now times
    → Unanswered first after (times + 1)
asks-on first now after times arrival is next u = record {
  before = u.before ++ arrival ∷ [];
  count = rw (length-append u.before (arrival ∷ []), u.count) refl;
  unanswered = All-append IsUnanswered u.before (arrival ∷ []) u.unanswered
      (All-cons IsUnanswered arrival [] is (All-nil IsUnanswered));
  adds = adds-on first now after u.before arrival u.adds next;
}

-- How it ends, with an answer, with a failure of the line, or without either.
abbrev pub IsAsked : {A : Type 0} (first now : A → List Talk → Type 0) (most : ℕ) (ending : Ending) → Type 0
IsAsked first now most ending = (talks : List Talk) × Adds first now talks × Asks most talks ending

pub ends-answered : {A : Type 0} (first now after : A → List Talk → Type 0) (times most : ℕ) → times + 1 ≤ most
    → Adds now after (asked answered ∷ []) → Unanswered first now times → IsAsked first after most done
ends-answered first now after times most few next u = (
  map asked (u.before ++ answered ∷ []),
  adds-on first now after u.before answered u.adds next,
  record { before = u.before; unanswered = u.unanswered; last = (rw u.count few, refl) },
)

pub ends-failed : {A : Type 0} (first now after : A → List Talk → Type 0) (times most : ℕ) (fault : Error)
    → times + 1 ≤ most → Adds now after (asked (failure fault) ∷ []) → Unanswered first now times
    → IsAsked first after most (line_failed fault)
ends-failed first now after times most fault few next u = (
  map asked (u.before ++ failure fault ∷ []),
  adds-on first now after u.before (failure fault) u.adds next,
  record { before = u.before; unanswered = u.unanswered; last = (rw u.count few, refl) },
)

pub ends-unanswered : {A : Type 0} (first now : A → List Talk → Type 0) (times most : ℕ) → times ≡ most
    → Unanswered first now times → IsAsked first now most dead
ends-unanswered first now times most all u = (
  map asked u.before,
  u.adds,
  record { before = u.before; unanswered = u.unanswered; last = (rw u.count all, refl) },
)

-- what isn't the answer, whatever came
pub no-answer : (heard : Received) (room : List ℕ) → (arrived heard room ≡ answered → ⊥)
    → IsUnanswered (arrived heard room)
no-answer (Octets count) room other = other
no-answer Nothing room other = tt
