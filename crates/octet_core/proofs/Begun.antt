-- What begins a spelling, for any grammar.
use Rattle.std.proofs.Common.{◌≡◌, ℕ, zero, suc, ◌+◌, ◌<◌, ◌≤◌, List, [], ◌∷◌, ◌++◌, length, take, drop, refl, sym, ap, subst, ◌∙◌, append_assoc, arith, inl, inr}
use Rattle.std.proofs.lemmas.List.{take-append-drop}
use Rattle.std.proofs.Math.Seq.{take-length, take-append_seam}
use Rattle.std.proofs.lemmas.List.{append-nil, length-append, take-append-le}
use Rattle.std.proofs.lemmas.Bool.{cases_lt}
use Rattle.octet_core.proofs.Lists.{nil_of}
use Rattle.octet_core.specs.Grammar.{Begins, Accepts, Ending, self_ended, IsStuck, IsShort}

-- the first k of the first n octets are the first k
pub take_take : (k n : ℕ) (b : List ℕ) → k ≤ n → take k (take n b) ≡ take k b
take_take zero n b h = refl
take_take (suc k) zero b h = absurd (omega arith)
take_take (suc k) (suc n) [] h = refl
take_take (suc k) (suc n) (x ∷ b) h = ap (λ (l : List ℕ). x ∷ l) (take_take k n b (omega arith))

module _ {V : Type 0} (S : V → List ℕ → Type 0) where
  -- what is in front of octets that begin a spelling begins it too
  pub begins-front : (x y : List ℕ) → Begins S (x ++ y) → Begins S x
  begins-front x y h = (h.0, y ++ h.1, subst (S h.0) (append_assoc x y h.1) h.2)

  -- fewer octets begin a spelling where more do
  pub begins-take : (k n : ℕ) (b : List ℕ) → k ≤ n → Begins S (take n b) → Begins S (take k b)
  begins-take k n b le h =
      let parts : take n b ≡ take k b ++ drop k (take n b) =
      sym (take-append-drop k (take n b)) ∙ ap (λ (l : List ℕ). l ++ drop k (take n b)) (take_take k n b le) in
      begins-front (take k b) (drop k (take n b)) (subst (Begins S) parts h)

  -- a spelling begins itself
  pub spelled-begins : (v : V) (b : List ℕ) → S v b → Begins S b
  spelled-begins v b h = (v, [], subst (S v) (sym (append-nil b)) h)

  -- where no spelling goes on, a shorter one is all that could be accepted
  pub none-stuck : (b : List ℕ) (p : ℕ) → (Begins S (take (p + 1) b) → ⊥)
      → ((v : V) (n : ℕ) → Accepts self_ended S b v n → p < n) → (v : V) (n : ℕ) → Accepts self_ended S b v n → ⊥
  none-stuck b p stuck long v n a =
      let lt : p < n = long v n a in
      stuck (begins-take (p + 1) n b (omega arith) (spelled-begins v (take n b) a.1))

  -- what is spelled is accepted, whatever follows
  pub spelled-accepted : (v : V) (b more : List ℕ) → S v b → Accepts self_ended S (b ++ more) v (length b)
  spelled-accepted v b more h = (omega (arith, length-append b more), subst (S v) (sym (take-append_seam b more)) h)

-- where what is accepted is one value and one length, no spelling is another's or begins it
pub spelled-apart : {V : Type 0} (S T : V → List ℕ → Type 0)
    → ((b : List ℕ) (v w : V) (n m : ℕ) → Accepts self_ended S b v n → Accepts self_ended T b w m → (v ≡ w) × (n ≡ m))
    → (v w : V) (b more : List ℕ) → S v b → T w (b ++ more) → (v ≡ w) × (more ≡ [])
spelled-apart S T one v w b more h g =
    let whole : Accepts self_ended T (b ++ more) w (length (b ++ more)) =
    (omega arith, subst (T w) (sym (take-length (b ++ more))) g) in
    let both = one (b ++ more) v w (length b) (length (b ++ more)) (spelled-accepted S v b more h) whole in
    (both.0, nil_of more (omega (arith, both.1, length-append b more)))

-- ---- one verdict

module _ {V : Type 0} (S : V → List ℕ → Type 0) where
  -- nothing goes on where nothing goes on from fewer octets
  pub stuck-more : (p q : ℕ) (b : List ℕ) → p < q → Begins S (take q b) → (Begins S (take (p + 1) b) → ⊥) → ⊥
  stuck-more p q b lt begun stuck = stuck (begins-take S (p + 1) q b (omega arith) begun)

  -- there is one place at which a grammar refuses
  pub one-place : (e : Ending) (b : List ℕ) (p q : ℕ) → IsStuck e S b p → IsStuck e S b q → p ≡ q
  one-place e b p q h g =
      elim (cases_lt p q) [
        | inl lt ↦ absurd (stuck-more p q b lt g.begun h.stuck)
        | inr le ↦ elim (cases_lt q p) [
          | inl lt ↦ absurd (stuck-more q p b lt h.begun g.stuck)
          | inr ge ↦ omega arith
        ]
      ]

  -- what is short is not refused at a place
  pub short-not-stuck : (e : Ending) (b : List ℕ) (p q : ℕ) → IsShort e S b p → IsStuck e S b q → ⊥
  short-not-stuck e b p q h g = g.stuck (begins-take S (q + 1) (length b) b (omega (arith, g.inside))
      (subst (Begins S) (sym (take-length b)) h.begun))

  -- a refused input stays refused, at the same place, whatever follows
  pub stuck-append : (b more : List ℕ) (p : ℕ) → IsStuck self_ended S b p → IsStuck self_ended S (b ++ more) p
  stuck-append b more p h =
      let inside : p < length (b ++ more) = omega (arith, h.inside, length-append b more) in
      let front : (n : ℕ) → n ≤ length b → take n (b ++ more) ≡ take n b = λ n le. take-append-le n b more le in
      let begun : Begins S (take p (b ++ more)) = subst (Begins S) (sym (front p (omega (arith, h.inside)))) h.begun in
      let stuck : Begins S (take (p + 1) (b ++ more)) → ⊥ =
      λ g. h.stuck (subst (Begins S) (front (p + 1) (omega (arith, h.inside))) g) in
      record {
        none = λ v n a. elim (cases_lt p n) [
          | inl lt ↦ stuck-more p n (b ++ more) lt (spelled-begins S v (take n (b ++ more)) a.1) stuck
          | inr le ↦ h.none v n (omega (arith, h.inside, le), subst (S v) (front n (omega (arith, h.inside, le))) a.1)
        ];
        inside = inside;
        begun = begun;
        stuck = stuck;
      }
