-- A session that begins with RESYNCH, if the card can't be reset (ISO/IEC 7816-3, clause 11.6.3.2).
use Rattle.std.specs.Prelude.{◌≡◌, ◌≤◌, ℕ, ◌+◌, List, [], ◌∷◌, ◌++◌, length, map, All, Bool, true, false, Result, Ok, Err}
use Rattle.block_core.specs.Block.{spelling}
use Rattle.block_core.specs.declared.pcb.S.TheVariants.{Resynch}
use Rattle.t1_core.specs.Came.{request, response}
use Rattle.line_core.specs.declared.fault.TransceiveFault.{TransceiveFault}
use Rattle.line_core.specs.Line.{Arrival, block, nothing, failure, Talk}
use Rattle.line_core.specs.Exchange.{Ending, done, given_up, dead, line_failed, used_up, refused, ending_of}

-- the card's answer
abbrev pub answered : Arrival
answered = block (spelling (response Resynch []))

-- RESYNCH was asked for, and this came
abbrev pub asked : Arrival → Talk
asked arrival = record { sent = spelling (request Resynch []); waiting = 1; arrival = arrival }

-- the line didn't fail, and what came isn't the answer to RESYNCH
abbrev pub IsUnanswered : Arrival → Type 0
IsUnanswered (block octets) = block octets ≡ answered → ⊥
IsUnanswered nothing = Unit {0}
IsUnanswered (failure fault) = ⊥

-- How the talks end after these arrivals, none of which was the answer: with the answer, with a failure of the line, or
-- after `most` requests without either.
abbrev pub IsLast : ℕ → List Arrival → List Talk → Ending → Type 0
IsLast most before talks done = (length before + 1 ≤ most) × (talks ≡ map asked (before ++ answered ∷ []))
IsLast most before talks (line_failed fault) =
    (length before + 1 ≤ most) × (talks ≡ map asked (before ++ failure fault ∷ []))
IsLast most before talks dead = (length before ≡ most) × (talks ≡ map asked before)
IsLast most before talks given_up = ⊥
IsLast most before talks used_up = ⊥
IsLast most before talks (refused fault) = ⊥

-- RESYNCH is asked for until the card answers, at most `most` times, and nothing else is sent.
pub record Asks (most : ℕ) (talks : List Talk) (ending : Ending) : Type 0 where
  pub before : List Arrival
  pub unanswered : All IsUnanswered before
  pub last : IsLast most before talks ending

-- whether the card answered, as an ending
abbrev pub told_of : Result Bool TransceiveFault → Ending
told_of (Ok true) = done
told_of (Ok false) = dead
told_of (Err fault) = ending_of {A = Bool} (Err fault)
