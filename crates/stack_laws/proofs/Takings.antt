-- A reader that is fed what is spelled in two pieces has taken all of it.
use Rattle.std.proofs.Common.{◌≡◌, ◌⊎◌, inl, inr, ℕ, ◌+◌, List, [], ◌++◌, take, drop, sym, ap, subst, ◌∙◌, append_assoc, Bool, true, false, Option, Result, Ok, Err, refl}
use Rattle.std.proofs.lemmas.List.{append-nil, take-append-drop}
use Rattle.std.proofs.Math.Seq.{take-length}
use Rattle.octet_core.specs.Grammar.{RefusesAt, self_ended}
use Rattle.octet_core.specs.Reader.{IsFed}
use Rattle.octet_core.specs.declared.stop.Refusal.{Refusal}
use Rattle.octet_core.specs.declared.stop.Stop.{Stop}
use Rattle.octet_core.specs.declared.stop.Stop.TheVariants.{Short, At}

module _ {V R State : Type 0} (S : V → List ℕ → Type 0) (Reason : R → List ℕ → Type 0)
    (HasTaken : State → List ℕ → Type 0) (refusal_of : State → Option (Refusal R))
    (one : (v w : V) (b more : List ℕ) → S v b → S w (b ++ more) → (v ≡ w) × (more ≡ [])) where
  -- it has taken all of what v spells
  abbrev pub HasAll : State → V → Type 0
  HasAll state v = (t : List ℕ) × HasTaken state t × S v t

  -- the front of what is spelled isn't refused
  front-not-refused : (v : V) (x y : List ℕ) (stop : Stop R) → S v (x ++ y) → RefusesAt self_ended S Reason x stop → ⊥
  front-not-refused v x y (Short p) h r = r
  front-not-refused v x y (At p reason) h r =
      let parts : x ++ y ≡ take (p + 1) x ++ (drop (p + 1) x ++ y) =
      ap (λ (l : List ℕ). l ++ y) (sym (take-append-drop (p + 1) x))
      ∙ append_assoc (take (p + 1) x) (drop (p + 1) x) y in
      r.0.stuck (v, drop (p + 1) x ++ y, subst (S v) parts h)

  -- after a piece after t, with y to come, it has taken the piece, or all
  step : (old new : State) (t x y : List ℕ) (v : V) (result : Result (ℕ × Bool) (Stop R)) → HasTaken old t
      → S v ((t ++ x) ++ y) → IsFed S Reason HasTaken refusal_of old new x result → HasTaken new (t ++ x) ⊎ HasAll new v
  step old new t x y v (Err stop) h s f = absurd (front-not-refused v (t ++ x) y stop s (f.refused t h))
  step old new t x y v (Ok (n, true)) h s f =
      let w = (f.done t h).0 refl in
      let x-is : x ≡ take n x ++ drop n x = sym (take-append-drop n x) in
      let parts : (t ++ x) ++ y ≡ (t ++ take n x) ++ (drop n x ++ y) =
      ap (λ (l : List ℕ). (t ++ l) ++ y) x-is ∙ ap (λ (l : List ℕ). l ++ y) (sym (append_assoc t (take n x) (drop n x)))
      ∙ append_assoc (t ++ take n x) (drop n x) y in
      let same : w.0 ≡ v = (one w.0 v (t ++ take n x) (drop n x ++ y) w.1 (subst (S v) parts s)).0 in
      inr (t ++ take n x, f.taken.1 t h, subst (λ (u : V). S u (t ++ take n x)) same w.1)
  step old new t x y v (Ok (n, false)) h s f =
      let all : take n x ≡ x = ap (λ (k : ℕ). take k x) (f.whole refl) ∙ take-length x in
      inl (subst (λ (l : List ℕ). HasTaken new (t ++ l)) all (f.taken.1 t h))

  -- a reader that has taken nothing, and is fed what v spells in two pieces, has taken all of it
  pub two-pieces : (old mid new : State) (x y : List ℕ) (v : V) (first second : Result (ℕ × Bool) (Stop R))
      → HasTaken old [] → S v (x ++ y)
      → IsFed S Reason HasTaken refusal_of old mid x first → IsFed S Reason HasTaken refusal_of mid new y second
      → HasAll new v
  two-pieces old mid new x y v first second h s f g =
      elim (step old mid [] x y v first h s f) [
        | inl taken ↦ elim (step mid new x y [] v second taken (subst (S v) (sym (append-nil (x ++ y))) s) g) [
          | inl all ↦ (x ++ y, all, s)
          | inr all ↦ all
        ]
        | inr all ↦ (
          all.0,
          subst (λ (state : State). HasTaken state all.0) (sym (g.full all.0 v all.1 all.2).1) all.1,
          all.2,
        )
      ]
