-- Verdicts as C has them, and octets that are put into a buffer of the caller.
use Rattle.std.specs.Prelude.{◌≡◌, ℕ, ◌≤◌, List, [], ◌∷◌, ◌++◌, length, drop, nat_le, if◌then◌else◌, Bool, true, false, Result, Ok, Err}
use Rattle.octet_core.specs.declared.stop.Stop.{Stop}
use Rattle.octet_core.specs.declared.stop.Stop.TheVariants.{Short, At}
use Rattle.c_lent.specs.declared.verdict.Verdict.{Verdict}

-- this many octets were accepted or written
abbrev pub ok_at : ℕ → Verdict
ok_at place = record { status = 0; reason = 0; place = place }

-- out of memory
abbrev pub no_memory : Verdict
no_memory = record { status = 3; reason = 0; place = 0 }

-- an argument is out of its range, or a buffer has less than this room
abbrev pub wrong_argument : ℕ → Verdict
wrong_argument room = record { status = 4; reason = 0; place = room }

-- two known values have the same tag
abbrev pub twice_known : Verdict
twice_known = record { status = 5; reason = 0; place = 0 }

-- C's verdict for a refusal, with these numbers of the reasons
abbrev pub told : {R : Type 0} → (R → ℕ) → Stop R → Verdict
told number (Short place) = record { status = 1; reason = 0; place = place }
told number (At place reason) = record { status = 2; reason = number reason; place = place }

-- the whole piece was taken, and more octets must come
abbrev pub more_at : ℕ → Verdict
more_at count = record { status = 6; reason = 0; place = count }

-- C's verdict for the result of a feed
abbrev pub told_fed : {R : Type 0} → (R → ℕ) → Result (ℕ × Bool) (Stop R) → Verdict
told_fed number (Ok (n, true)) = ok_at n
told_fed number (Ok (n, false)) = more_at n
told_fed number (Err stop) = told number stop

-- C's verdict for the result of a reader after its last octet
abbrev pub told_end : {R : Type 0} → (R → ℕ) → Result (Unit {0}) (Stop R) → Verdict
told_end number (Ok x) = ok_at 0
told_end number (Err stop) = told number stop

-- the status is SHORT or AT
abbrev pub IsRefusal : Verdict → Type 0
IsRefusal v = (1 ≤ v.status) × (v.status ≤ 2)

-- the verdict is that of a refusal of this kind
abbrev pub Tells : {R : Type 0} → (R → ℕ) → (Stop R → Type 0) → Verdict → Type 0
Tells {R} number Refuses v = (stop : Stop R) × (v ≡ told number stop) × Refuses stop

-- the verdict on putting these octets, or parts, into a buffer
abbrev pub put_verdict : {A : Type 0} → List A → List A → Verdict
put_verdict given buffer = if nat_le (length given) (length buffer) then ok_at (length given) else wrong_argument
    (length given)

-- the buffer after that: these at its front, or unchanged if it is too small
abbrev pub put_into : {A : Type 0} → List A → List A → List A
put_into given buffer = if nat_le (length given) (length buffer) then given ++ drop (length given) buffer else buffer

-- the array after as many of these as fit are put into it
abbrev pub filled : {A : Type 0} → List A → List A → List A
filled [] array = array
filled (x ∷ given) [] = []
filled (x ∷ given) (y ∷ array) = x ∷ filled given array

-- octets of this kind are put into a buffer
pub record Puts (Spells : List ℕ → Type 0) (old new : List ℕ) (v : Verdict) : Type 0 where
  pub octets : List ℕ
  pub spells : Spells octets
  pub verdict : v ≡ put_verdict octets old
  pub buffer : new ≡ put_into octets old
