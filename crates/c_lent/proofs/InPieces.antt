-- A reader that the caller keeps gives the verdict on all octets that it was ever given.
use Rattle.std.proofs.Common.{◌≡◌, ℕ, zero, suc, ◌+◌, ◌-◌, ◌≤◌, ◌<◌, List, [], ◌++◌, length, take, refl, sym, ap, subst, ◌∙◌, arith, ◌⊎◌, inl, inr}
use Rattle.std.proofs.lemmas.Bool.{cases_lt}
use Rattle.std.proofs.lemmas.List.{append-nil, length-append, length-take-le, take-take, take_all, take-append-le}
use Rattle.octet_core.proofs.Begun.{begins-take}
use Rattle.octet_core.proofs.Lists.{octets-append, octets-left, octets-right, octets-take}
use Rattle.octet_core.specs.Grammar.{self_ended, Accepts, Begins, IsStuck, Refuses, OneVerdict}
use Rattle.octet_core.specs.Octets.{AreOctets}
use Rattle.octet_core.specs.declared.stop.Stop.{Stop}
use Rattle.octet_core.specs.declared.stop.Stop.TheVariants.{At, Short}
use Rattle.c_lent.specs.LentReaders.{Answers, Feeds, Holds, Reads, answer_at, kept_at}
use Rattle.c_lent.specs.Verdict.{ok_at}
use Rattle.c_lent.specs.declared.verdict.Verdict.{Verdict}

nil-take : (n : ℕ) → take {A = ℕ} n [] ≡ []
nil-take zero = refl
nil-take (suc n) = refl

nil-kept : {R : Type 0} (s : Stop R) → kept_at [] s ≡ []
nil-kept (Short p) = refl
nil-kept (At p r) = nil-take (p + 1)

-- the first octets of a list go before a piece as those of its front do
front-same : (t held piece : List ℕ) (k : ℕ) → k ≤ length t → held ≡ take k t
    → take k (held ++ piece) ≡ take k (t ++ piece)
front-same t held piece k le held-is =
    ap (λ (l : List ℕ). take k (l ++ piece)) held-is
    ∙ take-append-le k (take k t) piece (omega (arith, length-take-le k t le)) ∙ take-take k k t (omega arith)
    ∙ sym (take-append-le k t piece le)

module _ {V R : Type 0} (S : V → List ℕ → Type 0) (Reason : R → List ℕ → Type 0) (number : R → ℕ) where
  -- what is stuck is stuck where other octets follow
  stuck-same : (x y : List ℕ) (p : ℕ) → p < length y → take (p + 1) x ≡ take (p + 1) y → IsStuck self_ended S x p
      → IsStuck self_ended S y p
  stuck-same x y p lt same h = record {
    none = λ v n a. elim (cases_lt (p + 1) n) [
      | inl more ↦
          h.stuck (subst (Begins S) (sym same)
          (begins-take S (p + 1) n y (omega arith) (v, [], subst (S v) (sym (append-nil (take n y))) a.1)))
      | inr few ↦
          let front : take n y ≡ take n x =
          sym (take-take n (p + 1) y few) ∙ ap (take n) (sym same) ∙ take-take n (p + 1) x few in
          h.none v n (omega (arith, few, h.inside), subst (S v) front a.1)
    ];
    inside = lt;
    begun =
        subst (Begins S) (sym (take-take p (p + 1) x (omega arith)) ∙ ap (take p) same
        ∙ take-take p (p + 1) y (omega arith)) h.begun;
    stuck = λ begun. h.stuck (subst (Begins S) (sym same) begun);
  }

  module _ (b new : List ℕ) (had : ℕ) (v : Verdict) (one : OneVerdict self_ended S Reason b) where
    whole-held : (w : V) (n : ℕ) → Accepts self_ended S b w n → new ≡ take n b → v ≡ ok_at (n - had)
        → Holds S Reason b new × Answers S Reason number b had v
    whole-held w n a kept is = (
      record {
        whole = λ u m c. kept ∙ ap (λ (k : ℕ). take k b) (one.one_value w u n m a c).1;
        stopped = λ s h. absurd (one.not_both w n s a h);
      },
      record {
        whole = λ u m c. is ∙ ap (λ (k : ℕ). ok_at (k - had)) (one.one_value w u n m a c).1;
        stopped = λ s h. absurd (one.not_both w n s a h);
      },
    )

    stopped-held : (s : Stop R) → Refuses self_ended S Reason b s → new ≡ kept_at b s → v ≡ answer_at number had s
        → Holds S Reason b new × Answers S Reason number b had v
    stopped-held s h kept is = (
      record {
        whole = λ u m c. absurd (one.not_both u m s c h);
        stopped = λ t g. kept ∙ ap (kept_at b) (one.one_refusal s t h g);
      },
      record {
        whole = λ u m c. absurd (one.not_both u m s c h);
        stopped = λ t g. is ∙ ap (answer_at number had) (one.one_refusal s t h g);
      },
    )

    read-held : (count : ℕ) → Reads S Reason number b had count v → new ≡ take count b
        → Holds S Reason b new × Answers S Reason number b had v
    read-held count (inl r) kept = whole-held r.value count r.accepts kept r.verdict
    read-held count (inr (inl r)) kept =
        stopped-held (At r.place r.reason) r.refuses (kept ∙ ap (λ (k : ℕ). take k b) r.counted) r.verdict
    read-held count (inr (inr r)) kept =
        stopped-held (Short count) r.short (kept ∙ take_all count b (omega (arith, r.short.end))) r.verdict

  module _ (one : (b : List ℕ) → AreOctets b → OneVerdict self_ended S Reason b) where
    by-verdict : (t held piece new : List ℕ) (v : Verdict) → AreOctets t → AreOctets piece → Holds S Reason t held
        → Feeds S Reason number held piece new v
        → (((w : V) × (n : ℕ) × Accepts self_ended S t w n) ⊎ ((s : Stop R) × Refuses self_ended S Reason t s))
        → Holds S Reason (t ++ piece) new × Answers S Reason number (t ++ piece) (length held) v
    by-verdict t held piece new v ot op h f (inl (w, n, a)) =
        let b : List ℕ = t ++ piece in
        let held-is : held ≡ take n t = h.whole w n a in
        let octets : AreOctets (held ++ piece) =
        octets-append held piece (subst AreOctets (sym held-is) (octets-take n t ot)) op in
        let near = read-held (held ++ piece) new (length held) v (one (held ++ piece) octets) f.count f.reads f.kept in
        let same : take n (held ++ piece) ≡ take n b = front-same t held piece n a.0 held-is in
        let long : length held ≡ n = ap length held-is ∙ length-take-le n t a.0 in
        let all : take n t ≡ take n b = sym (take-append-le n t piece a.0) in
        let here : Accepts self_ended S (held ++ piece) w n =
        (omega (arith, long, length-append held piece), subst (S w) (all ∙ sym same) a.1) in
        whole-held b new (length held) v (one b (octets-append t piece ot op)) w n
        (omega (arith, a.0, length-append t piece), subst (S w) all a.1) (near.0.whole w n here ∙ same)
        (near.1.whole w n here)
    by-verdict t held piece new v ot op h f (inr (Short p, s)) =
        let held-is : held ≡ t = h.stopped (Short p) s in
        read-held (t ++ piece) new (length held) v (one (t ++ piece) (octets-append t piece ot op)) f.count
        (subst (λ (l : List ℕ). Reads S Reason number (l ++ piece) (length held) f.count v) held-is f.reads)
        (f.kept ∙ ap (λ (l : List ℕ). take f.count (l ++ piece)) held-is)
    by-verdict t held piece new v ot op h f (inr (At p r, s)) =
        let b : List ℕ = t ++ piece in
        let k : ℕ = p + 1 in
        let le : k ≤ length t = omega (arith, s.0.inside) in
        let held-is : held ≡ take k t = h.stopped (At p r) s in
        let octets : AreOctets (held ++ piece) =
        octets-append held piece (subst AreOctets (sym held-is) (octets-take k t ot)) op in
        let near = read-held (held ++ piece) new (length held) v (one (held ++ piece) octets) f.count f.reads f.kept in
        let same : take k (held ++ piece) ≡ take k b = front-same t held piece k le held-is in
        let long : length held ≡ k = ap length held-is ∙ length-take-le k t le in
        let all : take k t ≡ take k b = sym (take-append-le k t piece le) in
        let here : Refuses self_ended S Reason (held ++ piece) (At p r) = (
          stuck-same t (held ++ piece) p (omega (arith, long, length-append held piece)) (all ∙ sym same) s.0,
          subst (Reason r) (all ∙ sym same) s.1,
        ) in
        let there : Refuses self_ended S Reason b (At p r) =
        (stuck-same t b p (omega (arith, le, length-append t piece)) all s.0, subst (Reason r) all s.1) in
        stopped-held b new (length held) v (one b (octets-append t piece ot op)) (At p r) there
        (near.0.stopped (At p r) here ∙ same) (near.1.stopped (At p r) here)

    -- however the octets were cut
    pub any-cut : (t held piece new : List ℕ) (v : Verdict) → AreOctets (t ++ piece) → Holds S Reason t held
        → Feeds S Reason number held piece new v
        → Holds S Reason (t ++ piece) new × Answers S Reason number (t ++ piece) (length held) v
    any-cut t held piece new v o h f =
        let ot : AreOctets t = octets-left t piece o in
        by-verdict t held piece new v ot (octets-right t piece o) h f ((one t ot).some)

-- a reader that begins was given no octet
pub begun-holds : {V R : Type 0} (S : V → List ℕ → Type 0) (Reason : R → List ℕ → Type 0) → Holds S Reason [] []
begun-holds S Reason = record { whole = λ w n a. sym (nil-take n); stopped = λ s h. sym (nil-kept s) }
