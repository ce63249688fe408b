-- The table of PCBs tells their octets apart, and the computed tests of a field say what is defined of it.
use Rattle.std.proofs.Common.{◌≡◌, ℕ, ◌<◌, ◌≤◌, List, [], ◌∷◌, length, refl, sym, ap, ◌∙◌, arith, inl, inr, ◌⊎◌, Option, Some, None, Bool, true, false, IsTrue, nat_lt, nat_le, rules}
use Rattle.std.specs.Prelude.{◌&&◌, ◌==◌}
use Rattle.std.proofs.lemmas.Bool.Decides.{eqb_tells}
use Rattle.octet_core.proofs.Lists.{never, both_left, both_right}
use Rattle.block_core.specs.Block.{Suits, IsSize, pcb_octet, supervisory_len}
use Rattle.block_core.specs.Computed.{all_pcbs, pcb_among, suits, suits_about}
use Rattle.block_core.specs.declared.pcb.Number.TheVariants.{Zero, One}
use Rattle.block_core.specs.declared.pcb.Fault.TheVariants.{Free, Redundancy, Other}
use Rattle.block_core.specs.declared.pcb.S.{S}
use Rattle.block_core.specs.declared.pcb.S.TheVariants.{Resynch, Ifs, Abort, Wtx}
use Rattle.block_core.specs.declared.pcb.Pcb.{Pcb}
use Rattle.block_core.specs.declared.pcb.Pcb.TheVariants.{Info, Ready, Request, Response}

-- the control octets are told apart
pub back : (p : Pcb) → pcb_among all_pcbs (pcb_octet p) ≡ Some p
back (Info Zero false) = refl
back (Info Zero true) = refl
back (Info One false) = refl
back (Info One true) = refl
back (Ready Zero Free) = refl
back (Ready Zero Redundancy) = refl
back (Ready Zero Other) = refl
back (Ready One Free) = refl
back (Ready One Redundancy) = refl
back (Ready One Other) = refl
back (Request Resynch) = refl
back (Request Ifs) = refl
back (Request Abort) = refl
back (Request Wtx) = refl
back (Response Resynch) = refl
back (Response Ifs) = refl
back (Response Abort) = refl
back (Response Wtx) = refl

some_is : (p q : Pcb) → Some p ≡ Some q → p ≡ q
some_is p q e = cc

-- one octet is of one PCB
pub pcb-back : (p q : Pcb) → pcb_octet p ≡ pcb_octet q → p ≡ q
pcb-back p q e = some_is p q (sym (back p) ∙ ap (pcb_among all_pcbs) e ∙ back q)

-- what is found among PCBs has the octet
pub among_octet : (ps : List Pcb) (x : ℕ) (p : Pcb) → pcb_among ps x ≡ Some p → pcb_octet p ≡ x
among_octet [] x p e = cc
among_octet (q ∷ ps) x p e =
    elim (eqb_tells (pcb_octet q) x) [
      | inl h ↦
          let t : pcb_among (q ∷ ps) x ≡ Some q = rw h.0 refl in
          let this : Some q ≡ Some p = sym t ∙ e in
          let is : q ≡ p = cc in
          ap pcb_octet (sym is) ∙ h.1
      | inr h ↦ among_octet ps x p (let t : pcb_among (q ∷ ps) x ≡ pcb_among ps x = rw h.0 refl in sym t ∙ e)
    ]

-- an octet that isn't found is of none
pub among_none : (x : ℕ) (p : Pcb) → pcb_among all_pcbs x ≡ None → pcb_octet p ≡ x → ⊥
among_none x p e is = let some : Some p ≡ None = sym (back p) ∙ ap (pcb_among all_pcbs) is ∙ e in cc

-- whether the octet is of a PCB
pub pcb-known : (x : ℕ) → ((p : Pcb) × (pcb_octet p ≡ x)) ⊎ ((p : Pcb) → pcb_octet p ≡ x → ⊥)
pcb-known x = known (pcb_among all_pcbs x) refl
  where
    known : (o : Option Pcb) → pcb_among all_pcbs x ≡ o
        → ((p : Pcb) × (pcb_octet p ≡ x)) ⊎ ((p : Pcb) → pcb_octet p ≡ x → ⊥)
    known None e = inr (λ p is. among_none x p e is)
    known (Some p) e = inl (p, among_octet all_pcbs x p e)

-- ---- tests of numbers, and of a field

le_by : (a b : ℕ) → IsTrue (nat_le a b) → a ≤ b
le_by a b h = search (rules, h)

by_le : (a b : ℕ) → a ≤ b → IsTrue (nat_le a b)
by_le a b h = search (rules, h)

-- what a test says, and the other way round
pub lt_by : (a b : ℕ) → IsTrue (nat_lt a b) → a < b
lt_by a b h = search (rules, h)

-- a number that is less than the other passes that test
pub by_lt : (a b : ℕ) → a < b → IsTrue (nat_lt a b)
by_lt a b h = search (rules, h)

-- numbers that the test of equality lets through are the same
pub eq_by : (a b : ℕ) → IsTrue (a == b) → a ≡ b
eq_by a b h = search (rules, h)

-- and it lets through those that are
pub by_eq : (a b : ℕ) → a ≡ b → IsTrue (a == b)
by_eq a b h = search (rules, h)

about_true : (kind : S) (inf : List ℕ) → IsTrue (suits_about kind inf)
    → (length inf ≡ supervisory_len kind) × IsSize kind inf
about_true Resynch [] h = (refl, tt)
about_true Resynch (x ∷ inf) h = never h
about_true Abort [] h = (refl, tt)
about_true Abort (x ∷ inf) h = never h
about_true Ifs [] h = never h
about_true Ifs (x ∷ []) h = (
  refl,
  (
    le_by 1 x (both_left (nat_le 1 x) (nat_le x 254) h),
    le_by x 254 (both_right (nat_le 1 x) (nat_le x 254) h),
  ),
)
about_true Ifs (x ∷ y ∷ inf) h = never h
about_true Wtx [] h = never h
about_true Wtx (x ∷ []) h = (refl, tt)
about_true Wtx (x ∷ y ∷ inf) h = never h

-- both tests hold
pub both_of : (a b : Bool) → IsTrue a → IsTrue b → IsTrue (a && b)
both_of true b p q = q
both_of false b p q = p

true_about : (kind : S) (inf : List ℕ) → (length inf ≡ supervisory_len kind) × IsSize kind inf
    → IsTrue (suits_about kind inf)
true_about Resynch [] h = refl
true_about Resynch (x ∷ inf) h = absurd (omega (arith, h.0))
true_about Abort [] h = refl
true_about Abort (x ∷ inf) h = absurd (omega (arith, h.0))
true_about Ifs [] h = absurd (omega (arith, h.0))
true_about Ifs (x ∷ []) h = both_of (nat_le 1 x) (nat_le x 254) (by_le 1 x h.1.0) (by_le x 254 h.1.1)
true_about Ifs (x ∷ y ∷ inf) h = absurd (omega (arith, h.0))
true_about Wtx [] h = absurd (omega (arith, h.0))
true_about Wtx (x ∷ []) h = refl
true_about Wtx (x ∷ y ∷ inf) h = absurd (omega (arith, h.0))

-- a field that the test lets through suits the PCB
pub suits_true : (size : ℕ) (p : Pcb) (inf : List ℕ) → IsTrue (suits size p inf) → Suits size p inf
suits_true size (Info number more) inf h = le_by (length inf) size h
suits_true size (Ready number fault) inf h = search (rules, h)
suits_true size (Request kind) inf h = about_true kind inf h
suits_true size (Response kind) inf h = about_true kind inf h

-- and the test lets through each that does
pub true_suits : (size : ℕ) (p : Pcb) (inf : List ℕ) → Suits size p inf → IsTrue (suits size p inf)
true_suits size (Info number more) inf h = by_le (length inf) size h
true_suits size (Ready number fault) inf h = search (rules, h)
true_suits size (Request kind) inf h = true_about kind inf h
true_suits size (Response kind) inf h = true_about kind inf h
