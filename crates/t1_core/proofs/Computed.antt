-- The class of octets, computed, is the class by their verdict as a block.
use Rattle.std.proofs.Common.{◌≡◌, ◌≢◌, ℕ, suc, ◌+◌, ◌<◌, ◌≤◌, List, [], ◌∷◌, length, take, drop, get_or, refl, sym, ap, subst, ◌∙◌, arith, inl, inr, Option, Some, None, Bool, true, false, IsTrue, nat_lt}
use Rattle.std.specs.Prelude.{◌&&◌, ◌==◌, if◌then◌else◌, slice_index}
use Rattle.std.proofs.lemmas.List.{length-take, length-drop, get_or-take, get_or-drop}
use Rattle.octet_core.specs.Grammar.{self_ended, Accepts, Refuses, Begins}
use Rattle.octet_core.specs.Octets.{AreOctets, xor_of}
use Rattle.octet_core.specs.declared.stop.Stop.TheVariants.{At}
use Rattle.octet_core.proofs.Begun.{begins-take, spelled-begins}
use Rattle.octet_core.proofs.Firsts.{first_holds}
use Rattle.octet_core.proofs.Told.{same}
use Rattle.octet_core.proofs.Lists.{split_same, never, both_left, both_right}
use Rattle.block_core.specs.Block.{Parts, IsBlock, IsReason, IsAboutIfs, FitsLen, Meets, Suits, pcb_octet, spelling, front_of}
use Rattle.block_core.specs.declared.pcb.Pcb.{Pcb}
use Rattle.block_core.specs.declared.reason.BlockReason.TheVariants.{BadPcb, BadLen, OverIfs, BadIfs, BadLrc}
use Rattle.block_core.proofs.Blocks.{octet_of, accepted-len, accepted-inf, none-last, begun-by, fits-of, size-of, stuck-lrc, reason-lrc, found}
use Rattle.block_core.proofs.Goes.{one-verdict}
use Rattle.t1_core.specs.Came.{Came, got, damaged, invalid, IsClass, class_of, class_with}
use Rattle.block_core.specs.Computed.{all_pcbs, pcb_among, suits}
use Rattle.block_core.proofs.Computed.{pcb-back, among_octet, among_none, suits_true, true_suits, both_of, eq_by, by_eq, lt_by, by_lt}

-- ---- the tests that the class computes

by_test : (P : Came → Type 0) (test : Bool) (x y : Came) → (IsTrue test → P x) → ((IsTrue test → ⊥) → P y)
    → P (if test then x else y)
by_test P true x y then_so else_so = then_so refl
by_test P false x y then_so else_so = else_so (λ h. never h)

-- ---- the octets before the check octet

-- the field is after three octets
field_is : (b : List ℕ) → 3 ≤ length b → drop 3 (take (get_or b 2 0 + 3) b) ≡ take (get_or b 2 0) (drop 3 b)
field_is [] le = absurd (omega arith)
field_is (a ∷ []) le = absurd (omega arith)
field_is (a ∷ c ∷ []) le = absurd (omega arith)
field_is (a ∷ c ∷ l ∷ rest) le =
    let steps : l + 3 ≡ suc (suc (suc l)) = omega arith in
    ap (λ (k : ℕ). drop 3 (take k (a ∷ c ∷ l ∷ rest))) steps

-- what begins a block up to its check octet has the control octet and the field of that block
begun-suits : (size n : ℕ) (b : List ℕ) (p : Pcb) → n ≡ get_or b 2 0 + 3 → n < length b → pcb_octet p ≡ get_or b 1 0
    → Begins (IsBlock size) (take n b) → Suits size p (drop 3 (take n b))
begun-suits size n b p n-is lt e h =
    let v : Parts = h.0 in
    let pcb-is : v.pcb ≡ p = pcb-back v.pcb p
    (octet_of b h.1 (spelling v) n 1 (omega arith) h.2.is (omega arith) ∙ sym e) in
    let len-is : length v.inf ≡ get_or b 2 0 = octet_of b h.1 (spelling v) n 2 (omega arith) h.2.is (omega arith) in
    let front-len : length (take n b) ≡ length (front_of v) = omega (arith, length-take n b, len-is) in
    let front = split_same (take n b) (front_of v) h.1 (xor_of (front_of v) ∷ []) front-len h.2.is in
    let inf-is : drop 3 (take n b) ≡ v.inf = ap (λ (l : List ℕ). drop 3 l) front.0 in
    rw inf-is (subst (λ (q : Pcb). Suits size q v.inf) pcb-is h.2.proper.suits)

begun-pcb : (size n : ℕ) (b : List ℕ) → 3 ≤ n → n < length b → Begins (IsBlock size) (take n b)
    → (p : Pcb) × (pcb_octet p ≡ get_or b 1 0)
begun-pcb size n b least lt h = (h.0.pcb, octet_of b h.1 (spelling h.0) n 1 (omega arith) h.2.is (omega arith))

-- ---- what is invalid

-- where the octets before the check octet begin no block, no check octet is wrong
not_damaged : (size n place : ℕ) (b : List ℕ) → n ≡ get_or b 2 0 + 3
    → (n < length b → Begins (IsBlock size) (take n b) → ⊥)
    → Refuses self_ended (IsBlock size) (IsReason size) b (At place BadLrc) → ⊥
not_damaged size n place b n-is none h =
    let front : List ℕ = take (place + 1) b in
    let meets : Meets size front BadLrc =
    first_holds (BadPcb ∷ BadLen ∷ OverIfs ∷ BadIfs ∷ BadLrc ∷ []) (Meets size front) BadLrc h.1 in
    let len : length front ≡ place + 1 = omega (arith, length-take (place + 1) b, h.0.inside) in
    let two : get_or front 2 0 ≡ get_or b 2 0 = get_or-take (place + 1) b 2 0 (omega (arith, meets.0, len)) in
    let here : place ≡ n = omega (arith, meets.0, len, two, n-is) in
    none (omega (arith, here, h.0.inside)) (subst (λ (k : ℕ). Begins (IsBlock size) (take k b)) here h.0.begun)

not_accepted : (size n : ℕ) (b : List ℕ) (v : Parts) (m : ℕ) → n ≡ get_or b 2 0 + 3
    → (n < length b → Begins (IsBlock size) (take n b) → ⊥) → Accepts self_ended (IsBlock size) b v m → ⊥
not_accepted size n b v m n-is none a =
    let m-is : m ≡ n + 1 = omega (arith, n-is, accepted-len size b v m a, accepted-inf size b v m a) in
    none (omega (arith, m-is, a.0)) (begins-take (IsBlock size) n m b (omega (arith, m-is))
    (spelled-begins (IsBlock size) v (take m b) a.1))

invalid_class : (size n : ℕ) (b : List ℕ) → size ≤ 254 → AreOctets b → n ≡ get_or b 2 0 + 3
    → (n < length b → Begins (IsBlock size) (take n b) → ⊥) → IsClass size b invalid
invalid_class size n b small octets n-is none =
    elim (one-verdict size b small octets).some [
      | inl a ↦ absurd (not_accepted size n b a.0 a.1 n-is none a.2)
      | inr s ↦ inl (
        s.0,
        s.1,
        λ place e.
            not_damaged size n place b n-is none (subst (Refuses self_ended (IsBlock size) (IsReason size) b) e s.1),
      )
    ]

-- ---- where the octets before the check octet begin a block

-- the field has the length that the third octet says, and suits the control octet
record Suited (size n : ℕ) (b : List ℕ) (p : Pcb) : Type 0 where
  octets : AreOctets b
  end : n ≡ get_or b 2 0 + 3
  inside : n < length b
  octet : pcb_octet p ≡ get_or b 1 0
  suits : Suits size p (drop 3 (take n b))

field-of : (size n : ℕ) (b : List ℕ) (p : Pcb) → Suited size n b p → drop 3 (take n b) ≡ take (get_or b 2 0) (drop 3 b)
field-of size n b p w = ap (λ (k : ℕ). drop 3 (take k b)) w.end ∙ field_is b (omega (arith, w.end, w.inside))

field-len : (size n : ℕ) (b : List ℕ) (p : Pcb) → Suited size n b p → length (drop 3 (take n b)) ≡ get_or b 2 0
field-len size n b p w = omega (arith, length-drop 3 (take n b), length-take n b, w.end, w.inside)

fits : (size n : ℕ) (b : List ℕ) (p : Pcb) → Suited size n b p → FitsLen size p (get_or b 2 0)
fits size n b p w = subst (λ (k : ℕ). FitsLen size p k) (field-len size n b p w)
    (fits-of size p (drop 3 (take n b)) w.suits)

sized : (size n : ℕ) (b : List ℕ) (p : Pcb) → Suited size n b p → IsAboutIfs p
    → (1 ≤ get_or b 3 0) × (get_or b 3 0 ≤ 254)
sized size n b p w about =
    let of = size-of size p (drop 3 (take n b)) about w.suits in
    let first : get_or (drop 3 (take n b)) 0 0 ≡ get_or b 3 0 =
    get_or-drop 3 (take n b) 0 0 ∙ get_or-take n b 3 0 (omega (arith, w.end, field-len size n b p w, of.0)) in
    (omega (arith, first, of.1), omega (arith, first, of.2))

-- with a right check octet they begin with this block
block-of : (size n : ℕ) (b : List ℕ) (p : Pcb) → Suited size n b p → xor_of (take (n + 1) b) ≡ 0
    → Accepts self_ended (IsBlock size) b (record { nad = get_or b 0 0; pcb = p; inf = drop 3 (take n b) }) (n + 1)
block-of size n b p w sum = (
  omega (arith, w.inside),
  found size (n + 1) p b (drop 3 (take n b)) w.octets (omega (arith, w.end)) (omega (arith, w.inside))
      (field-of size n b p w) w.octet (fits size n b p w) (sized size n b p w) sum,
)

-- with a wrong one it is refused
damaged-of : (size n : ℕ) (b : List ℕ) (p : Pcb) → Suited size n b p → xor_of (take (n + 1) b) ≢ 0
    → Refuses self_ended (IsBlock size) (IsReason size) b (At n BadLrc)
damaged-of size n b p w bad =
    let end : n + 1 ≡ get_or b 2 0 + 4 = omega (arith, w.end) in
    let inside : n + 1 ≤ length b = omega (arith, w.inside) in
    let stuck : Begins (IsBlock size) (take (n + 1) b) → ⊥ = stuck-lrc size (n + 1) b end inside bad in (
      record {
        none = none-last size (n + 1) b end stuck;
        inside = w.inside;
        begun = begun-by size n p b w.octets (omega (arith, w.end)) (omega (arith, w.inside)) (omega (arith, w.end))
            w.octet (fits size n b p w) (λ about lt. sized size n b p w about);
        stuck = stuck;
      },
      reason-lrc size (n + 1) b p end inside w.octet (fits size n b p w) bad,
    )

got-of : (size n : ℕ) (b : List ℕ) (p : Pcb) (v : Parts) → n + 1 ≡ length b → v.nad ≡ 0
    → Accepts self_ended (IsBlock size) b v (n + 1) → IsClass size b (got v.pcb v.inf)
got-of size n b p v all zero a =
    subst (λ (k : ℕ). Accepts self_ended (IsBlock size) b (record { nad = k; pcb = v.pcb; inf = v.inf }) (length b))
    zero
    (subst (λ (k : ℕ). Accepts self_ended (IsBlock size) b v k) all a)

whole-of : (size n : ℕ) (b : List ℕ) (p : Pcb) → Suited size n b p → xor_of (take (n + 1) b) ≡ 0
    → IsClass size b (if (length b == n + 1) && (slice_index b 0 == 0) then got p (drop 3 (take n b)) else invalid)
whole-of size n b p w sum =
    let v : Parts = record { nad = get_or b 0 0; pcb = p; inf = drop 3 (take n b) } in
    let a : Accepts self_ended (IsBlock size) b v (n + 1) = block-of size n b p w sum in
    let all = length b == n + 1 in
    let zero_nad = slice_index b 0 == 0 in
    by_test (IsClass size b) (all && zero_nad) (got p (drop 3 (take n b))) invalid
    (λ h. got-of size n b p v (sym (eq_by (length b) (n + 1) (both_left all zero_nad h)))
    (eq_by (slice_index b 0) 0 (both_right all zero_nad h)) a)
    (λ h. inr (
      v,
      n + 1,
      a,
      elim (same (slice_index b 0) 0) [
        | inr ne ↦ inl ne
        | inl e ↦ inr (λ whole. h (both_of all zero_nad (by_eq (length b) (n + 1) (sym whole))
            (by_eq (slice_index b 0) 0 e)))
      ],
    ))

-- ---- the class

with-pcb : (size n : ℕ) (b : List ℕ) → size ≤ 254 → AreOctets b → n ≡ get_or b 2 0 + 3 → (o : Option Pcb)
    → pcb_among all_pcbs (get_or b 1 0) ≡ o → IsClass size b (class_with size b n o)
with-pcb size n b small octets end None e =
    invalid_class size n b small octets end
    (λ lt begun. let p = begun-pcb size n b (omega (arith, end)) lt begun in among_none (get_or b 1 0) p.0 e p.1)
with-pcb size n b small octets end (Some p) e =
    let octet : pcb_octet p ≡ get_or b 1 0 = among_octet all_pcbs (get_or b 1 0) p e in
    let inside = nat_lt n (length b) in
    let suited = suits size p (drop 3 (take n b)) in
    by_test (IsClass size b) (inside && suited) _ invalid
    (λ h.
    let w : Suited size n b p = record {
      octets = octets;
      end = end;
      inside = lt_by n (length b) (both_left inside suited h);
      octet = octet;
      suits = suits_true size p (drop 3 (take n b)) (both_right inside suited h);
    } in
    by_test (IsClass size b) (xor_of (take (n + 1) b) == 0) _ damaged
    (λ sum. whole-of size n b p w (eq_by (xor_of (take (n + 1) b)) 0 sum))
    (λ bad. (n, damaged-of size n b p w (λ z. bad (by_eq (xor_of (take (n + 1) b)) 0 z)))))
    (λ h. invalid_class size n b small octets end (λ lt begun. h (both_of inside suited (by_lt n (length b) lt)
    (true_suits size p (drop 3 (take n b)) (begun-suits size n b p end lt octet begun)))))

-- octets have the class that is computed, where the size is at most 254
pub computed : (size : ℕ) (b : List ℕ) → size ≤ 254 → AreOctets b → IsClass size b (class_of size b)
computed size b small octets = with-pcb size (slice_index b 2 + 3) b small octets refl
    (pcb_among all_pcbs (slice_index b 1)) refl
