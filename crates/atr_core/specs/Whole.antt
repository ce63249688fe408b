-- A whole answer to reset, read in one pass: what each step reads from the front of octets.
use Rattle.std.specs.Prelude.{◌≡◌, ℕ, ◌+◌, ◌-◌, ◌%◌, ◌<◌, ◌≤◌, ◌++◌, List, length, take, drop, Bool, if◌then◌else◌, Option, Some, None, option_to_list}
use Rattle.std.specs.List.{AllByRecursion}
use Rattle.octet_core.specs.Octets.{xor_of}
use Rattle.atr_core.specs.declared.atr.Interface.{Interface}
use Rattle.atr_core.specs.declared.atr.Indicated.{Indicated}
use Rattle.atr_core.specs.Atr.{announcing, goes_on, octets_of, td_octets, needs_tck}

-- the bytes that the octet announces, whether a TD follows, and the rest of the octets after the bytes
pub record IsSection (octet : ℕ) (octets : List ℕ) (bytes : Interface) (td : Bool) (rest : List ℕ) : Type 0 where
  pub told : announcing bytes td (octet % 16) ≡ octet
  pub is : octets ≡ octets_of bytes ++ rest

-- the TDs at the front of the octets, none if td is false, and the rest of the octets after the bytes of the
-- last
pub record AreTds (td : Bool) (octets : List ℕ) (indicated : List Indicated) (rest : List ℕ) : Type 0 where
  pub some : goes_on indicated ≡ td
  pub protocols : AllByRecursion (λ x. x.protocol < 16) indicated
  pub is : octets ≡ td_octets indicated ++ rest

-- the TDs read so far, and the TDs that are read next, are all of them
pub record AreTdsSoFar (td : Bool) (octets : List ℕ) (indicated : List Indicated) (more : Bool) (rest : List ℕ) : Type 0
  where
    pub protocols : AllByRecursion (λ x. x.protocol < 16) indicated
    pub some : (xs : List Indicated) → goes_on xs ≡ more → goes_on (indicated ++ xs) ≡ td
    pub is : (xs : List Indicated) (left : List ℕ) → goes_on xs ≡ more → rest ≡ td_octets xs ++ left
        → octets ≡ td_octets (indicated ++ xs) ++ left

-- TCK after the octets that it checks, if it is needed
abbrev pub tck_after : Bool → List ℕ → Option ℕ
tck_after needed checked = if needed then Some (xor_of checked) else None

-- an answer has `count` octets: `from` are those from T0 on, and `tck` is the rest of `from` after the
-- historical bytes
pub record IsEnded (from tck : List ℕ) (needed : Bool) (count : ℕ) : Type 0 where
  pub left : List ℕ
  pub is : tck ≡ option_to_list (tck_after needed (take (length from - length tck) from)) ++ left
  pub counted : count + length left ≡ 1 + length from
  pub most : count ≤ 33

-- ---- the steps of a pass that keeps no parts

-- some bytes are the section
abbrev pub HasSection : ℕ → List ℕ → Bool → List ℕ → Type 0
HasSection octet octets td rest = (bytes : Interface) × IsSection octet octets bytes td rest

-- some TDs are these, and `needed` says whether they require a TCK
abbrev pub HasTds : Bool → List ℕ → Bool → List ℕ → Type 0
HasTds td octets needed rest = (indicated : List Indicated) × AreTds td octets indicated rest
    × (needed ≡ needs_tck indicated)

-- some TDs are those read so far, and `needed` says whether they require a TCK
abbrev pub HasTdsSoFar : Bool → List ℕ → Bool → Bool → List ℕ → Type 0
HasTdsSoFar td octets needed more rest = (indicated : List Indicated) × AreTdsSoFar td octets indicated more rest
    × (needed ≡ needs_tck indicated)

-- the octets after T0 begin with the bytes that T0 announces, and then TDs; `more` says whether another TD follows
pub record HasHead (t0 : ℕ) (after : List ℕ) (needed more : Bool) (rest : List ℕ) : Type 0 where
  pub td : Bool
  pub tds : List ℕ
  pub first : HasSection t0 after td tds
  pub others : HasTdsSoFar td tds needed more rest

-- the octets from T0 on have such a head up to a place, if they reach that place
abbrev pub HasHeadBefore : ℕ → List ℕ → Bool → Bool → ℕ → Type 0
HasHeadBefore t0 from needed more place = place ≤ length from
    → HasHead t0 (drop 1 from) needed more (drop place from)
