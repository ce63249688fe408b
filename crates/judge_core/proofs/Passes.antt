-- A block that some course permits is permitted.
use Rattle.std.proofs.Common.{inl, inr, true≢false, ◌≡◌, ◌⊎◌, ℕ, ◌≤◌, List, length, take, refl, sym, ap, ◌∙◌, subst, arith, tests}
use Rattle.std.specs.Prelude.{Bool, true, false, ◌&&◌, ◌==◌, if◌then◌else◌, Option, Some, None, Ok, Err, nat_le, bytes_eq}
use Rattle.std.proofs.lemmas.Slice.Eq.{bytes_eq-Decides}
use Rattle.std.proofs.lemmas.List.{length-take}
use Rattle.std.proofs.lemmas.Bool.Decides.{nat_tests}
use Rattle.block_core.specs.Block.{other}
use Rattle.block_core.specs.declared.pcb.Number.{Number}
use Rattle.block_core.specs.declared.pcb.Number.TheVariants.{Zero, One}
use Rattle.block_core.specs.declared.pcb.S.TheVariants.{Resynch, Ifs, Abort, Wtx}
use Rattle.block_core.specs.declared.pcb.Pcb.{Pcb}
use Rattle.block_core.specs.declared.pcb.Pcb.TheVariants.{Info, Ready, Request, Response}
use Rattle.t1_core.specs.Came.{Came, got, damaged, invalid, quiet, same, carried}
use Rattle.judge_core.specs.declared.end.Pending.TheVariants.{Settled}
use Rattle.judge_core.specs.declared.end.Owed.{Owed}
use Rattle.judge_core.specs.declared.end.Owed.TheVariants.{Correction, SameRequest}
use Rattle.judge_core.specs.declared.end.End.{End}
use Rattle.judge_core.specs.declared.end.After.{After}
use Rattle.judge_core.specs.declared.courses.Heard.{Heard}
use Rattle.judge_core.specs.declared.courses.Heard.TheVariants.{Beginning, Whole, Perhaps, Broken, Nothing}
use Rattle.judge_core.specs.declared.courses.Verdict.{Verdict}
use Rattle.judge_core.specs.declared.courses.Verdict.TheVariants.{Permitted, Unseen, Deviates}
use Rattle.judge_core.specs.declared.courses.Judged.{Judged}
use Rattle.judge_core.specs.declared.end.Asked.{Asked}
use Rattle.judge_core.specs.Ends.{after, answers, hears, hears_ready}
use Rattle.judge_core.specs.Sends.{Sent, sends}
use Rattle.judge_core.specs.Watched.{Watched, heard_of}
use Rattle.judge_core.specs.Courses.{attempted, by_damage, chosen, first_course, got_none, got_whole, judges}
use Rattle.judge_core.proofs.Agree.{Agree, agree}

abbrev pub Course : End → Heard → After → Type 0
Course e heard due = (got_whole e heard ≡ Some due) ⊎ (got_none e heard ≡ Some due)

-- what a verdict is that is no deviation: damage that nobody saw is needed only where nobody knows what came
abbrev pub Doubts : Heard → Type 0
Doubts Beginning = ⊥
Doubts (Whole pcb octet) = ⊥
Doubts (Perhaps pcb octet) = Unit {0}
Doubts Broken = ⊥
Doubts Nothing = ⊥

abbrev pub Fine : Heard → Verdict → Type 0
Fine heard Permitted = Unit {0}
Fine heard Unseen = Doubts heard
Fine heard (Deviates broken owed) = ⊥

-- the judge lets the block pass, and goes on from this end
abbrev pub Passes : Heard → Judged → End → Type 0
Passes heard judged e = Fine heard judged.verdict × (judged.«end» ≡ e)

by_whole : (heard : Heard) (due : After) (pcb : Pcb) (octet : ℕ) (y : Option Sent) (e : End)
    → Passes heard (chosen heard due pcb octet (Some (Ok e)) y) e
by_whole heard due pcb octet y e = (tt, refl)

damaged_fine : (heard : Heard) → Fine heard (by_damage heard)
damaged_fine Beginning = tt
damaged_fine (Whole pcb octet) = tt
damaged_fine (Perhaps pcb octet) = tt
damaged_fine Broken = tt
damaged_fine Nothing = tt

by_none : (heard : Heard) (due : After) (pcb : Pcb) (octet : ℕ) (x : Option Sent) (e : End) → Agree x (Some (Ok e))
    → Passes heard (chosen heard due pcb octet x (Some (Ok e))) e
by_none heard due pcb octet None e h = (damaged_fine heard, refl)
by_none heard due pcb octet (Some (Err r)) e h = (damaged_fine heard, refl)
by_none heard due pcb octet (Some (Ok f)) e h = (tt, h)

attempt : (x : Option After) (due : After) (last : List ℕ) (pcb : Pcb) (inf : List ℕ) (e : End)
    → x ≡ Some due → sends due.«end» due.owed last pcb inf ≡ Ok e → attempted x last pcb inf ≡ Some (Ok e)
attempt x due last pcb inf e h k = ap (λ o. attempted o last pcb inf) h ∙ ap Some k

pub passes : (e : End) (heard : Heard) (last : List ℕ) (pcb : Pcb) (inf : List ℕ) (due : After) (e1 : End)
    → Course e heard due → sends due.«end» due.owed last pcb inf ≡ Ok e1
    → Passes heard (judges e heard last pcb inf) e1
passes e heard last pcb inf due e1 (inl h) k =
    let first = first_course e (got_whole e heard) (got_none e heard) in
    let none = attempted (got_none e heard) last pcb inf in
    subst (λ x. Passes heard (chosen heard first pcb (carried inf) x none) e1)
    (sym (attempt (got_whole e heard) due last pcb inf e1 h k)) (by_whole heard first pcb (carried inf) none e1)
passes e heard last pcb inf due e1 (inr h) k =
    let first = first_course e (got_whole e heard) (got_none e heard) in
    let whole = attempted (got_whole e heard) last pcb inf in
    let same_end = attempt (got_none e heard) due last pcb inf e1 h k in
    subst (λ y. Passes heard (chosen heard first pcb (carried inf) whole y) e1) (sym same_end)
    (by_none heard first pcb (carried inf) whole e1
    (subst (λ y. Agree whole y) same_end (agree e heard last pcb inf)))

-- ---- how a block that came, or damage, is seen

-- It is seen what came, or only which block was sent.
pub data View : Type 0 where
  certain : View
  maybe : (pcb : Pcb) (octet : ℕ) → View

abbrev pub heard_at : View → Came → Heard
heard_at certain came = heard_of came
heard_at (maybe sent octet) (got pcb inf) = Perhaps pcb (carried inf)
heard_at (maybe sent octet) damaged = Perhaps sent octet
heard_at (maybe sent octet) invalid = Perhaps sent octet
heard_at (maybe sent octet) quiet = Perhaps sent octet

pub whole_at : (view : View) (e : End) (pcb : Pcb) (inf : List ℕ)
    → got_whole e (heard_at view (got pcb inf)) ≡ Some (hears e pcb (carried inf))
whole_at certain e pcb inf = refl
whole_at (maybe sent octet) e pcb inf = refl

abbrev pub IsBroken : Came → Type 0
IsBroken (got pcb inf) = ⊥
IsBroken damaged = Unit {0}
IsBroken invalid = Unit {0}
IsBroken quiet = Unit {0}

-- an end that waits for no response
pub broken_at : (view : View) (came : Came) (e : End) → IsBroken came
    → got_none (record e { asked = None; known = true }) (heard_at view came)
    ≡ Some (after (record e { asked = None; known = true }) Correction)
broken_at view (got pcb inf) e h = absurd h
broken_at certain damaged e h = refl
broken_at certain invalid e h = refl
broken_at certain quiet e h = refl
broken_at (maybe sent octet) damaged e h = refl
broken_at (maybe sent octet) invalid e h = refl
broken_at (maybe sent octet) quiet e h = refl

-- one that waits for a response: its repeats may be counted anew
abbrev pub Fewer : End → Heard → Type 0
Fewer e heard = (n : ℕ) × (n ≤ e.tries) × (got_none e heard ≡ Some (after (record e { tries = n }) SameRequest))

fewer : (b : Bool) (e : End) → (n : ℕ) × (n ≤ e.tries)
    × (Some (after (if b then record e { tries = 0 } else e) SameRequest) ≡ Some
    (after (record e { tries = n }) SameRequest))
fewer true e = (0, omega arith, refl)
fewer false e = (e.tries, omega arith, refl)

pub asking_at : (view : View) (came : Came) (e : End) (asked : Asked) → IsBroken came
    → Fewer (record e { asked = Some asked; known = true }) (heard_at view came)
asking_at view (got pcb inf) e asked h = absurd h
asking_at certain damaged e asked h = (e.tries, omega arith, refl)
asking_at certain invalid e asked h = (e.tries, omega arith, refl)
asking_at certain quiet e asked h = (e.tries, omega arith, refl)
asking_at (maybe sent octet) damaged e asked h =
    fewer (answers asked sent octet) (record e { asked = Some asked; known = true })
asking_at (maybe sent octet) invalid e asked h =
    fewer (answers asked sent octet) (record e { asked = Some asked; known = true })
asking_at (maybe sent octet) quiet e asked h =
    fewer (answers asked sent octet) (record e { asked = Some asked; known = true })

-- no end of a link asks for ABORT
abbrev pub NoAbort : Pcb → Type 0
NoAbort (Info number more) = Unit {0}
NoAbort (Ready number fault) = Unit {0}
NoAbort (Request Resynch) = Unit {0}
NoAbort (Request Ifs) = Unit {0}
NoAbort (Request Abort) = ⊥
NoAbort (Request Wtx) = Unit {0}
NoAbort (Response s) = Unit {0}

-- ---- tests

pub is_then : {A : Type 0} (b : Bool) (x y : A) → b ≡ true → (if b then x else y) ≡ x
is_then true x y h = refl
is_then false x y h = absurd (true≢false (sym h))

pub is_else : {A : Type 0} (b : Bool) (x y : A) → b ≡ false → (if b then x else y) ≡ y
is_else false x y h = refl
is_else true x y h = absurd (true≢false h)

pub first_of_both : (a b : Bool) → (a && b) ≡ true → a ≡ true
first_of_both true b h = refl
first_of_both false b h = h

pub same_next : (x : Number) → same x (other x) ≡ false
same_next Zero = refl
same_next One = refl

pub same_other : (x y : Number) → same x y ≡ true → same x (other y) ≡ false
same_other Zero Zero h = refl
same_other One One h = refl
same_other Zero One h = absurd (true≢false (sym h))
same_other One Zero h = absurd (true≢false (sym h))

pub differs_other : (x y : Number) → same x y ≡ false → same x (other y) ≡ true
differs_other Zero One h = refl
differs_other One Zero h = refl
differs_other Zero Zero h = absurd (true≢false h)
differs_other One One h = absurd (true≢false h)

pub same_self : (x : Number) → same x x ≡ true
same_self Zero = refl
same_self One = refl

pub equal_self : (n : ℕ) → (n == n) ≡ true
equal_self n = search (tests, arith)

pub bytes_self : (xs : List ℕ) → bytes_eq xs xs ≡ true
bytes_self xs = (bytes_eq-Decides xs xs).1 refl

pub with_test : {A : Type 0} (P : A → Type 0) (b : Bool) (x y : A) → (b ≡ true → P x) → (b ≡ false → P y)
    → P (if b then x else y)
with_test P true x y h k = h refl
with_test P false x y h k = k refl

-- ---- what both ends share

-- What isn't told by the state: the sizes are at least those of the engine.
pub record Spare (ifsc first_ifsc : ℕ) : Type 0 where
  pub before : Owed
  pub room : ℕ
  pub first : ℕ
  pub largest : ℕ
  pub room_ok : ifsc ≤ room
  pub first_ok : first_ifsc ≤ first

abbrev pub watched : End → Heard → List ℕ → Watched
watched e heard last = record { «end» = e; heard = heard; last = last }

-- what no end asks for doesn't come
abbrev pub PlainCame : Came → Type 0
PlainCame (got pcb inf) = NoAbort pcb
PlainCame damaged = Unit {0}
PlainCame invalid = Unit {0}
PlainCame quiet = Unit {0}

pub fits_size : (n : ℕ) (octets : List ℕ) (room : ℕ) → n ≤ room → nat_le (length (take n octets)) room ≡ true
fits_size n octets room h = grind (arith, nat_tests, length-take n octets)

pub settled_ready : (e : End) (b : Bool) → hears_ready (record e { aborted = false }) Settled b ≡ after
    (record e { aborted = false }) Correction
settled_ready e true = refl
settled_ready e false = refl
