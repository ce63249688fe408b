-- One verdict, for any grammar.
use Rattle.std.proofs.Common.{◌≡◌, ℕ, zero, suc, ◌+◌, ◌<◌, ◌≤◌, List, [], ◌∷◌, ◌++◌, length, take, get_or, refl, sym, ap, subst, ◌∙◌, inl, inr, ◌⊎◌, arith}
use Rattle.std.proofs.lemmas.Bool.{cases_lt}
use Rattle.std.proofs.lemmas.List.{append-nil, length-append, take_more}
use Rattle.std.proofs.Math.Seq.{take-length, take-append_seam}
use Rattle.octet_core.specs.Octets.{AreOctets}
use Rattle.octet_core.specs.Grammar.{Ending, self_ended, whole, Begins, Accepts, Refuses, RefusesAt, OneVerdict}
use Rattle.octet_core.specs.declared.stop.Stop.{Stop}
use Rattle.octet_core.specs.declared.stop.Stop.TheVariants.{At, Short}
use Rattle.octet_core.proofs.Begun.{begins-take, spelled-begins, stuck-more, one-place, short-not-stuck}
use Rattle.octet_core.proofs.Lists.{octets-take}

-- ---- at most one

-- where a place has one reason, an input has one refusal
pub one_refusal : {V R : Type 0} (e : Ending) (S : V → List ℕ → Type 0) (Reason : R → List ℕ → Type 0)
    → ((r s : R) (c : List ℕ) → Reason r c → Reason s c → r ≡ s) → (b : List ℕ) (s t : Stop R) → Refuses e S Reason b s
    → Refuses e S Reason b t → s ≡ t
one_refusal e S Reason one b (Short p) (Short q) h g = ap Short (h.end ∙ sym g.end)
one_refusal e S Reason one b (Short p) (At q r) h g = absurd (short-not-stuck S e b p q h g.0)
one_refusal e S Reason one b (At p r) (Short q) h g = absurd (short-not-stuck S e b q p g h.0)
one_refusal e S Reason one b (At p r) (At q s) h g =
    let place : p ≡ q = one-place S e b p q h.0 g.0 in
    let reason : r ≡ s = one r s (take (p + 1) b) h.1 (subst (λ (k : ℕ). Reason s (take (k + 1) b)) (sym place) g.1) in
    ap (λ (k : ℕ). At k r) place ∙ ap (At q) reason

-- no input is both accepted and refused
pub not_both : {V R : Type 0} (e : Ending) (S : V → List ℕ → Type 0) (Reason : R → List ℕ → Type 0) (b : List ℕ) (v : V)
    (n : ℕ) (s : Stop R) → Accepts e S b v n → Refuses e S Reason b s → ⊥
not_both e S Reason b v n (Short p) h g = g.none v n h
not_both e S Reason b v n (At p r) h g = g.0.none v n h

-- a refusal at a place is a refusal
pub refuses_at : {V R : Type 0} (e : Ending) (S : V → List ℕ → Type 0) (Reason : R → List ℕ → Type 0) (b : List ℕ)
    (s : Stop R) → RefusesAt e S Reason b s → Refuses e S Reason b s
refuses_at e S Reason b (Short p) h = absurd h
refuses_at e S Reason b (At p r) h = h

-- ---- some, where the caller says where a value ends

module _ {V R : Type 0} (S : V → List ℕ → Type 0) (Reason : R → List ℕ → Type 0) where
  -- where a spelling goes on before an octet, and with the octet there is a reason with which none does, that is the
  -- verdict on the whole input
  pub whole-refused : (b : List ℕ) (n : ℕ) (r : R) → n < length b → Begins S (take n b) → Reason r (take (n + 1) b)
      → (Begins S (take (n + 1) b) → ⊥) → Refuses whole S Reason b (At n r)
  whole-refused b n r inside begun reason stuck = (
    record {
      none = λ v k a. stuck (begins-take S (n + 1) (length b) b (omega arith)
          (subst (Begins S) (sym (take-length b)) (spelled-begins S v b a.1)));
      inside = inside;
      begun = begun;
      stuck = stuck;
    },
    reason,
  )

-- What has to be known of one input of a grammar whose values are whole inputs. Goes n says of the first n octets that a
-- spelling goes on from them: from none one does; from one octet more one does too, or there is a reason, with which
-- none does; and of all octets it is told whether they spell a value. A value is the only one, and so is a reason.
pub record Scan {V R : Type 0} (S : V → List ℕ → Type 0) (Reason : R → List ℕ → Type 0) (b : List ℕ)
    (Goes : ℕ → Type 0) : Type 0 where
  pub one_value : (v w : V) → S v b → S w b → v ≡ w
  pub one_reason : (r s : R) (c : List ℕ) → Reason r c → Reason s c → r ≡ s
  pub stops : (r : R) (c : List ℕ) → Reason r c → Begins S c → ⊥
  pub nothing : Goes 0
  pub next : (n : ℕ) → n < length b → Goes n → Goes (n + 1) ⊎ ((r : R) × Reason r (take (n + 1) b))
  pub begun : (n : ℕ) → n ≤ length b → Goes n → Begins S (take n b)
  pub told : Goes (length b) → ((v : V) × S v b) ⊎ ((v : V) → S v b → ⊥)

module _ {V R : Type 0} (S : V → List ℕ → Type 0) (Reason : R → List ℕ → Type 0) (b : List ℕ) (Goes : ℕ → Type 0)
    (known : Scan S Reason b Goes) where
  -- a spelling goes on from the first n octets, or one of them is refused
  scan : (n : ℕ) → n ≤ length b → Goes n ⊎ ((s : Stop R) × Refuses whole S Reason b s)
  scan zero le = inl known.nothing
  scan (suc n) le =
      let next : n + 1 ≡ suc n = omega arith in
      elim (scan n (omega arith)) [
        | inr stop ↦ inr stop
        | inl goes ↦ elim (known.next n (omega arith) goes) [
          | inl more ↦ inl (subst Goes next more)
          | inr bad ↦ inr (
            At n bad.0,
            whole-refused S Reason b n bad.0 (omega arith) (known.begun n (omega arith) goes)
                bad.1 (known.stops bad.0 (take (n + 1) b) bad.1),
          )
        ]
      ]

  -- all octets spell a value, or are short, or one of them is refused
  scanned : ((v : V) × (n : ℕ) × Accepts whole S b v n) ⊎ ((s : Stop R) × Refuses whole S Reason b s)
  scanned =
      elim (scan (length b) (omega arith)) [
        | inr stop ↦ inr stop
        | inl goes ↦ elim (known.told goes) [
          | inl found ↦ inl (found.0, length b, (refl, found.1))
          | inr none ↦ inr (
            Short (length b),
            record {
              none = λ v n a. none v a.1;
              end = refl;
              begun = subst (Begins S) (take-length b) (known.begun (length b) (omega arith) goes);
            },
          )
        ]
      ]

  -- every input has one verdict
  pub whole_verdict : OneVerdict whole S Reason b
  whole_verdict = record {
    some = scanned;
    one_value = λ v w n m p q. (known.one_value v w p.1 q.1, p.0 ∙ sym q.0);
    not_both = not_both whole S Reason b;
    one_refusal = one_refusal whole S Reason known.one_reason b;
  }

-- ---- some, where the octets say where a value ends

-- what has to be known of a grammar whose octets say where a value ends: one value and one length; one reason, with
-- which nothing goes on; and of octets that spell nothing yet, but that y and more would complete, whether x can stand
-- for y
pub record Steps {V R : Type 0} (S : V → List ℕ → Type 0) (Reason : R → List ℕ → Type 0) : Type 0 where
  pub one_value : (b : List ℕ) (v w : V) (n m : ℕ) → Accepts self_ended S b v n
      → Accepts self_ended S b w m → (v ≡ w) × (n ≡ m)
  pub one_reason : (r s : R) (c : List ℕ) → Reason r c → Reason s c → r ≡ s
  pub stops : (r : R) (c : List ℕ) → Reason r c → Begins S c → ⊥
  pub nothing : Begins S []
  pub next : (c : List ℕ) (x : ℕ) → AreOctets (c ++ x ∷ []) → (w : V) (y : ℕ) (more : List ℕ) → S w (c ++ y ∷ more)
      → Begins S (c ++ x ∷ []) ⊎ ((r : R) × Reason r (c ++ x ∷ []))

module _ {V R : Type 0} (S : V → List ℕ → Type 0) (Reason : R → List ℕ → Type 0) (steps : Steps S Reason) where
  -- no spelling begins another
  prefix_free : (v w : V) (b : List ℕ) (y : ℕ) (more : List ℕ) → S v b → S w (b ++ y ∷ more) → ⊥
  prefix_free v w b y more h g =
      let long : List ℕ = b ++ y ∷ more in
      let p : Accepts self_ended S long v (length b) =
      (omega (arith, length-append b (y ∷ more)), subst (S v) (sym (take-append_seam b (y ∷ more))) h) in
      let q : Accepts self_ended S long w (length long) = (omega arith, subst (S w) (sym (take-length long)) g) in
      omega (arith, (steps.one_value long v w (length b) (length long) p q).1, length-append b (y ∷ more))

  -- from the first n octets on, where no fewer are accepted
  walk : (b : List ℕ) (k n : ℕ) → AreOctets b → n + k ≡ length b
      → ((v : V) (m : ℕ) → m < n → S v (take m b) → ⊥) → Begins S (take n b)
      → ((v : V) × (n : ℕ) × Accepts self_ended S b v n) ⊎ ((s : Stop R) × Refuses self_ended S Reason b s)
  walk b k n octets total before (w, [], h) = inl (w, n, (omega arith, subst (S w) (append-nil (take n b)) h))
  walk b zero n octets total before (w, y ∷ more, h) =
      let all : n ≡ length b = omega arith in
      let here : take n b ≡ b = ap (λ (i : ℕ). take i b) all ∙ take-length b in
      inr (
        Short n,
        record {
          none = λ v m a. elim (cases_lt m n) [
            | inl lt ↦ before v m lt a.1
            | inr le ↦ prefix_free v w (take n b) y more (subst (λ (i : ℕ). S v (take i b)) (omega (arith, a.0)) a.1) h
          ];
          end = all;
          begun = (w, y ∷ more, subst (λ (l : List ℕ). S w (l ++ y ∷ more)) here h);
        },
      )
  walk b (suc k) n octets total before (w, y ∷ more, h) =
      let x : ℕ = get_or b n 0 in
      let inside : n < length b = omega arith in
      let shape : take (n + 1) b ≡ take n b ++ x ∷ [] = take_more b n 0 inside in
      let here : (v : V) (m : ℕ) → m < n + 1 → S v (take m b) → ⊥ = λ v m lt g. elim (cases_lt m n) [
        | inl less ↦ before v m less g
        | inr le ↦ prefix_free v w (take n b) y more (subst (λ (i : ℕ). S v (take i b)) (omega arith) g) h
      ] in
      elim (steps.next (take n b) x (subst AreOctets shape (octets-take (n + 1) b octets)) w y more h) [
        | inl begun ↦ walk b k (n + 1) octets (omega arith) here (subst (Begins S) (sym shape) begun)
        | inr bad ↦
            let reason : Reason bad.0 (take (n + 1) b) = subst (Reason bad.0) (sym shape) bad.1 in
            let stuck : Begins S (take (n + 1) b) → ⊥ = steps.stops bad.0 (take (n + 1) b) reason in
            inr (
              At n bad.0,
              (
                record {
                  none = λ v m a. elim (cases_lt n m) [
                    | inl lt ↦ stuck-more S n m b lt (spelled-begins S v (take m b) a.1) stuck
                    | inr le ↦ here v m (omega arith) a.1
                  ];
                  inside = inside;
                  begun = (w, y ∷ more, h);
                  stuck = stuck;
                },
                reason,
              ),
            )
      ]

  -- every input has one verdict
  pub one_verdict : (b : List ℕ) → AreOctets b → OneVerdict self_ended S Reason b
  one_verdict b octets = record {
    some = walk b (length b) 0 octets (omega arith) (λ v m lt h. omega arith) steps.nothing;
    one_value = steps.one_value b;
    not_both = not_both self_ended S Reason b;
    one_refusal = one_refusal self_ended S Reason steps.one_reason b;
  }
