-- How groups are read, one octet after another.
use Rattle.std.proofs.Common.{◌≡◌, ◌<◌, ◌∙◌, ◌++◌, ◌==◌, ◌&&◌, ◌||◌, not, ℕ, List, [], ◌∷◌, Bool, true, false, Option, Some, None, IfSome, refl, ap, sym, subst, append_assoc, append-nil, length, arith, if◌then◌else◌}
use Rattle.dumps.specs.Characters.{groups, is_pair, joined_to, octet_at, step}

-- what a step says of the groups of a text
abbrev pub after_step : Bool → List ℕ → Option (Option ℕ × List ℕ) → List ℕ × List ℕ
after_step joins text (Some (None, more)) = groups joins true more
after_step joins text (Some (Some octet, more)) = joined_to (octet ∷ []) (groups joins false more)
after_step joins text None = ([], text)

one-tested : (blank joins : Bool) (x : ℕ)
    → (let t : List ℕ × List ℕ = ([], []) in if blank then t else ([], x ∷ [])) ≡ after_step joins (x ∷ [])
    (if blank then Some (None, []) else None)
one-tested true joins x = refl
one-tested false joins x = refl

two-tested : (blank pair joins : Bool) (x y : ℕ) (more : List ℕ)
    → (if blank then groups joins true (y ∷ more)
    else (if pair then joined_to (octet_at x y ∷ []) (groups joins false more) else ([], x ∷ y ∷ more)))
    ≡ after_step joins (x ∷ y ∷ more)
    (if blank then Some (None, y ∷ more) else (if pair then Some (Some (octet_at x y), more) else None))
two-tested true pair joins x y more = refl
two-tested false true joins x y more = refl
two-tested false false joins x y more = refl

none-tested : (blank joins : Bool) → (let t : List ℕ × List ℕ = ([], []) in t) ≡ after_step joins []
    (if blank && false then Some (None, []) else None)
none-tested true joins = refl
none-tested false joins = refl

pub groups-step : (joins spaced : Bool) (text : List ℕ)
    → groups joins spaced text ≡ after_step joins text (step joins spaced text)
groups-step joins spaced [] = none-tested (not spaced) joins
groups-step joins spaced (x ∷ []) = one-tested (not spaced && x == 32) joins x
groups-step joins spaced (x ∷ y ∷ more) =
    two-tested (not spaced && x == 32) ((spaced || joins) && is_pair x y) joins x y more

-- ---- a step is shorter

one-shorter : (blank : Bool) (x : ℕ) → IfSome {T = Option ℕ × List ℕ} (if blank then Some (None, []) else None)
    (λ s. length s.1 < length (x ∷ []))
one-shorter true x = omega arith
one-shorter false x = tt

two-shorter : (blank pair : Bool) (x y : ℕ) (more : List ℕ) → IfSome {T = Option ℕ × List ℕ}
    (if blank then Some (None, y ∷ more) else (if pair then Some (Some (octet_at x y), more) else None))
    (λ s. length s.1 < length (x ∷ y ∷ more))
two-shorter true pair x y more = omega arith
two-shorter false true x y more = omega arith
two-shorter false false x y more = tt

none-shorter : (blank : Bool) → IfSome {T = Option ℕ × List ℕ} (if blank && false then Some (None, []) else None)
    (λ s. length s.1 < 0)
none-shorter true = tt
none-shorter false = tt

step-shorter : (joins spaced : Bool) (text : List ℕ) → IfSome (step joins spaced text)
    (λ s. length s.1 < length text)
step-shorter joins spaced [] = none-shorter (not spaced)
step-shorter joins spaced (x ∷ []) = one-shorter (not spaced && x == 32) x
step-shorter joins spaced (x ∷ y ∷ more) =
    two-shorter (not spaced && x == 32) ((spaced || joins) && is_pair x y) x y more

-- ---- octets so far, and the groups that are left

-- an octet was read, and is after those before
pub octet-read : (octets longer : List ℕ) (octet : ℕ) (joins spaced : Bool) (text more : List ℕ)
    (all : List ℕ × List ℕ) → step joins spaced text ≡ Some (Some octet, more) → longer ≡ octets ++ octet ∷ []
    → joined_to octets (groups joins spaced text) ≡ all → joined_to longer (groups joins false more) ≡ all
octet-read octets longer octet joins spaced text more all e is kept =
    let now : groups joins spaced text ≡ joined_to (octet ∷ []) (groups joins false more) =
    groups-step joins spaced text ∙ ap (after_step joins text) e in
    let both : joined_to longer (groups joins false more) ≡ joined_to octets (groups joins spaced text) =
    rw (is, now, append_assoc) refl in both ∙ kept

-- a blank was read
pub blank-read : (octets : List ℕ) (joins spaced : Bool) (text more : List ℕ)
    (all : List ℕ × List ℕ) → step joins spaced text ≡ Some (None, more)
    → joined_to octets (groups joins spaced text) ≡ all → joined_to octets (groups joins true more) ≡ all
blank-read octets joins spaced text more all e kept =
    let now : groups joins spaced text ≡ groups joins true more =
    groups-step joins spaced text ∙ ap (after_step joins text) e in
    ap (joined_to octets) (sym now) ∙ kept

-- no group is left
pub none-read : (octets : List ℕ) (joins spaced : Bool) (text : List ℕ) (all : List ℕ × List ℕ)
    → step joins spaced text ≡ None → joined_to octets (groups joins spaced text) ≡ all → (octets, text) ≡ all
none-read octets joins spaced text all e kept =
    let now : groups joins spaced text ≡ ([], text) = groups-step joins spaced text ∙ ap (after_step joins text) e in
    let both : joined_to octets ([], text) ≡ (octets, text) = ap (λ (o : List ℕ). (o, text)) (append-nil octets) in
    sym both ∙ ap (joined_to octets) (sym now) ∙ kept

-- what is left is shorter
pub read-shorter : (joins spaced : Bool) (text more : List ℕ) (octet : Option ℕ)
    → step joins spaced text ≡ Some (octet, more) → length more < length text
read-shorter joins spaced text more octet e =
    subst (λ (s : Option (Option ℕ × List ℕ)). IfSome s (λ t. length t.1 < length text)) e
    (step-shorter joins spaced text)
