-- What a reader answers, for any grammar whose octets say where a value ends.
use Rattle.std.proofs.Common.{◌≡◌, ℕ, ◌+◌, List, [], ◌∷◌, ◌++◌, length, take, drop, refl, sym, ap, subst, ◌∙◌, append_assoc, arith, inl, inr}
use Rattle.std.proofs.lemmas.Bool.{cases_lt}
use Rattle.std.proofs.lemmas.List.{length-append, length-drop, take-append-drop, take-append-le}
use Rattle.std.proofs.Math.Seq.{take-length, take-append_seam}
use Rattle.octet_core.specs.Grammar.{self_ended, Begins, Accepts, IsShort, RefusesAt}
use Rattle.octet_core.specs.declared.stop.Stop.TheVariants.{At}
use Rattle.octet_core.proofs.Begun.{spelled-apart, spelled-begins, stuck-append}

-- a refusal stands, whatever follows
pub refuses-append : {V R : Type 0} (S : V → List ℕ → Type 0) (Reason : R → List ℕ → Type 0) (b more : List ℕ) (p : ℕ)
    (r : R) → RefusesAt self_ended S Reason b (At p r) → RefusesAt self_ended S Reason (b ++ more) (At p r)
refuses-append S Reason b more p r h = (
  stuck-append S b more p h.0,
  subst (Reason r) (sym (take-append-le (p + 1) b more (omega (arith, h.0.inside)))) h.1,
)

-- what begins a spelling and isn't one is short, where no spelling begins another
pub short-of : {V : Type 0} (S : V → List ℕ → Type 0)
    → ((b : List ℕ) (v w : V) (n m : ℕ) → Accepts self_ended S b v n → Accepts self_ended S b w m → (v ≡ w) × (n ≡ m))
    → (b : List ℕ) → Begins S b → ((v : V) → S v b → ⊥) → IsShort self_ended S b (length b)
short-of S one b (w, more, h) not_yet = record {
  none = λ v n a.
      let parts : take n b ++ (drop n b ++ more) ≡ b ++ more =
      sym (append_assoc (take n b) (drop n b) more) ∙ ap (λ (l : List ℕ). l ++ more) (take-append-drop n b) in
      let none : drop n b ++ more ≡ [] = (spelled-apart S S one v w (take n b) (drop n b ++ more) a.1
      (subst (S w) (sym parts) h)).1 in
      let all : n ≡ length b = omega (arith, a.0, ap length none, length-append (drop n b) more, length-drop n b) in
      not_yet v (subst (S v) (ap (λ (k : ℕ). take k b) all ∙ take-length b) a.1);
  end = refl;
  begun = (w, more, h);
}

-- the next octet is refused, where a spelling goes on before it and none after it
pub refused-next : {V R : Type 0} (S : V → List ℕ → Type 0) (Reason : R → List ℕ → Type 0)
    → ((b : List ℕ) (v w : V) (n m : ℕ) → Accepts self_ended S b v n → Accepts self_ended S b w m → (v ≡ w) × (n ≡ m))
    → (b : List ℕ) (x : ℕ) (r : R) → Begins S b → ((v : V) → S v b → ⊥) → (Begins S (b ++ x ∷ []) → ⊥)
    → Reason r (b ++ x ∷ []) → RefusesAt self_ended S Reason (b ++ x ∷ []) (At (length b) r)
refused-next S Reason one b x r begun not_yet stuck reason =
    let all : List ℕ = b ++ x ∷ [] in
    let len : length all ≡ length b + 1 = length-append b (x ∷ []) in
    let whole : take (length b + 1) all ≡ all = ap (λ (k : ℕ). take k all) (sym len) ∙ take-length all in
    let front : take (length b) all ≡ b = take-append_seam b (x ∷ []) in (
      record {
        none = λ v n a. elim (cases_lt (length b) n) [
          | inl lt ↦ stuck (subst (Begins S)
              (ap (λ (k : ℕ). take k all) (let e : n ≡ length b + 1 = omega (arith, len, a.0) in e) ∙ whole)
              (spelled-begins S v (take n all) a.1))
          | inr le ↦ (short-of S one b begun not_yet).none v n (le, subst (S v) (take-append-le n b (x ∷ []) le) a.1)
        ];
        inside = omega (arith, len);
        begun = subst (Begins S) (sym front) begun;
        stuck = λ h. stuck (subst (Begins S) whole h);
      },
      subst (Reason r) (sym whole) reason,
    )
