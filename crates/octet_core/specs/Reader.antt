-- What a reader does that is fed the octets of one value in pieces: a block, an answer to reset or a chain.
--
-- HasTaken state t says that t may be the octets that a reader has taken since it was new. An encoding begins with
-- them, and the reader keeps no refusal. A refusal that it keeps is a place, counted from the first octet ever fed, and
-- a reason.
use Rattle.std.specs.Prelude.{◌≡◌, ◌≤◌, ◌↔◌, ℕ, Bool, true, false, IsTrue, List, ◌++◌, length, take, Option, Some, None, Result, Ok, Err, IfOk, OnOk, IfErr}
use Rattle.octet_core.specs.declared.stop.Stop.{Stop}
use Rattle.octet_core.specs.declared.stop.Stop.TheVariants.{Short, At}
use Rattle.octet_core.specs.declared.stop.Refusal.{Refusal}
use Rattle.octet_core.specs.Grammar.{self_ended, RefusesAt}

module _ {V R State : Type 0} (S : V → List ℕ → Type 0) (Reason : R → List ℕ → Type 0)
    (HasTaken : State → List ℕ → Type 0) (refusal_of : State → Option (Refusal R)) where
  -- what the reader returns for a piece: how many octets it took and whether it is done, or a refusal
  pub record IsFed (old new : State) (piece : List ℕ) (result : Result (ℕ × Bool) (Stop R)) : Type 0 where
    -- what it takes follows what it took before, and is the front of the piece
    pub taken : IfOk result (λ x. (x.0 ≤ length piece)
        × ((t : List ℕ) → HasTaken old t → HasTaken new (t ++ take x.0 piece)))
    -- it is done if and only if all that it took is an encoding
    pub done : IfOk result (λ x. (t : List ℕ) → HasTaken old t → IsTrue x.1 ↔ ((v : V) × S v (t ++ take x.0 piece)))
    -- if it isn't done, it took the whole piece
    pub whole : IfOk result (λ x. x.1 ≡ false → x.0 ≡ length piece)
    -- if it was done before, it takes nothing and says so again
    pub full : (t : List ℕ) (v : V) → HasTaken old t → S v t → (result ≡ Ok (0, true)) × (new ≡ old)
    -- a refusal is the verdict on all octets fed, never that they are short
    pub refused : IfErr result (λ stop. (t : List ℕ) → HasTaken old t → RefusesAt self_ended S Reason (t ++ piece) stop)
    pub kept : IfErr result (λ stop. (refusal : Refusal R) × (refusal_of new ≡ Some refusal)
        × (stop ≡ At refusal.place refusal.reason))
    -- a refusal that was kept is repeated, and nothing changes
    pub repeated : (refusal : Refusal R) → refusal_of old ≡ Some refusal
        → (result ≡ Err (At refusal.place refusal.reason)) × (new ≡ old)

  -- what the reader returns when no more octets come
  pub record IsFinished (state : State) (result : Result Unit (Stop R)) : Type 0 where
    pub done : OnOk result ((t : List ℕ) → HasTaken state t → (v : V) × S v t)
    -- all that it took isn't an encoding yet
    pub short : IfErr result (λ stop. refusal_of state ≡ None → (t : List ℕ) → HasTaken state t
        → (stop ≡ Short (length t)) × ((v : V) → S v t → ⊥))
    pub repeated : (refusal : Refusal R) → refusal_of state ≡ Some refusal
        → result ≡ Err (At refusal.place refusal.reason)
    -- some list was taken if there is no refusal, so what holds for each list says something of every reader
    pub some_taken : refusal_of state ≡ None → (t : List ℕ) × HasTaken state t
