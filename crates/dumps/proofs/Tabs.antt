-- How gdb's octets are read, one after another.
use Rattle.std.proofs.Common.{◌≡◌, ◌<◌, ◌∙◌, ◌++◌, ◌==◌, ◌&&◌, ℕ, List, [], ◌∷◌, Bool, true, false, Option, Some, None, IfSome, refl, ap, sym, subst, append_assoc, append-nil, length, arith, if◌then◌else◌}
use Rattle.dumps.specs.Characters.{is_pair, joined_to, octet_at}
use Rattle.dumps.specs.Editor.{tab_octet, tabbed}

-- what the first octet says of those of a text
abbrev after_tab : List ℕ → Option (ℕ × List ℕ) → List ℕ × List ℕ
after_tab text (Some (octet, more)) = joined_to (octet ∷ []) (tabbed more)
after_tab text None = ([], text)

tested : (b : Bool) (octet : ℕ) (more text : List ℕ)
    → (if b then joined_to (octet ∷ []) (tabbed more) else ([], text))
    ≡ after_tab text (if b then Some (octet, more) else None)
tested true octet more text = refl
tested false octet more text = refl

tabbed-step : (text : List ℕ) → tabbed text ≡ after_tab text (tab_octet text)
tabbed-step [] = refl
tabbed-step (t ∷ []) = refl
tabbed-step (t ∷ z ∷ []) = refl
tabbed-step (t ∷ z ∷ m ∷ []) = refl
tabbed-step (t ∷ z ∷ m ∷ x ∷ []) = refl
tabbed-step (t ∷ z ∷ m ∷ x ∷ y ∷ more) =
    tested (t == 9 && (z == 48 && (m == 120 && is_pair x y))) (octet_at x y) more (t ∷ z ∷ m ∷ x ∷ y ∷ more)

shorter-tested : (b : Bool) (octet : ℕ) (t z m x y : ℕ) (more : List ℕ)
    → IfSome {T = ℕ × List ℕ} (if b then Some (octet, more) else None)
    (λ s. length s.1 < length (t ∷ z ∷ m ∷ x ∷ y ∷ more))
shorter-tested true octet t z m x y more = omega arith
shorter-tested false octet t z m x y more = tt

octet-shorter : (text : List ℕ) → IfSome (tab_octet text) (λ s. length s.1 < length text)
octet-shorter [] = tt
octet-shorter (t ∷ []) = tt
octet-shorter (t ∷ z ∷ []) = tt
octet-shorter (t ∷ z ∷ m ∷ []) = tt
octet-shorter (t ∷ z ∷ m ∷ x ∷ []) = tt
octet-shorter (t ∷ z ∷ m ∷ x ∷ y ∷ more) =
    shorter-tested (t == 9 && (z == 48 && (m == 120 && is_pair x y))) (octet_at x y) t z m x y more

-- an octet was read, and is after those before
pub tab-read : (octets longer : List ℕ) (octet : ℕ) (text more : List ℕ) (all : List ℕ × List ℕ)
    → tab_octet text ≡ Some (octet, more) → longer ≡ octets ++ octet ∷ [] → joined_to octets (tabbed text) ≡ all
    → joined_to longer (tabbed more) ≡ all
tab-read octets longer octet text more all e is kept =
    let now : tabbed text ≡ joined_to (octet ∷ []) (tabbed more) = tabbed-step text ∙ ap (after_tab text) e in
    let both : joined_to longer (tabbed more) ≡ joined_to octets (tabbed text) = rw (is, now, append_assoc) refl in
    both ∙ kept

-- none is left
pub tab-none : (octets : List ℕ) (text : List ℕ) (all : List ℕ × List ℕ) → tab_octet text ≡ None
    → joined_to octets (tabbed text) ≡ all → (octets, text) ≡ all
tab-none octets text all e kept =
    let now : tabbed text ≡ ([], text) = tabbed-step text ∙ ap (after_tab text) e in
    let both : joined_to octets ([], text) ≡ (octets, text) = ap (λ (o : List ℕ). (o, text)) (append-nil octets) in
    sym both ∙ ap (joined_to octets) (sym now) ∙ kept

-- what is left is shorter
pub tab-shorter : (text more : List ℕ) (octet : ℕ) → tab_octet text ≡ Some (octet, more)
    → length more < length text
tab-shorter text more octet e = subst (λ (s : Option (ℕ × List ℕ)). IfSome s (λ t. length t.1 < length text)) e
    (octet-shorter text)
