-- Where a block goes on, and that every input has one verdict.
use Rattle.std.proofs.Common.{◌≡◌, ℕ, ◌+◌, ◌<◌, ◌≤◌, List, [], ◌∷◌, ◌++◌, length, take, drop, get_or, refl, sym, ap, subst, ◌∙◌, arith, inl, inr, ◌⊎◌}
use Rattle.std.proofs.lemmas.Bool.{cases_lt}
use Rattle.std.proofs.lemmas.List.{length-append, get_or_append_left}
use Rattle.std.proofs.Math.Seq.{take-length}
use Rattle.octet_core.specs.Grammar.{Begins, OneVerdict, self_ended}
use Rattle.octet_core.specs.Octets.{AreOctets, xor_of}
use Rattle.octet_core.proofs.Begun.{spelled-begins}
use Rattle.octet_core.proofs.Firsts.{first_once, first_holds}
use Rattle.octet_core.proofs.Told.{Dec, same}
use Rattle.octet_core.proofs.Verdicts.{Steps, one_verdict}
use Rattle.block_core.specs.Block.{Parts, IsBlock, FitsLen, IsLenFault, IsAboutIfs, IsBadLen, IsInfo, Meets, IsReason, pcb_octet, supervisory_len, front_of}
use Rattle.block_core.specs.declared.pcb.S.TheVariants.{Ifs}
use Rattle.block_core.specs.declared.pcb.Pcb.{Pcb}
use Rattle.block_core.specs.declared.pcb.Pcb.TheVariants.{Info, Ready, Request, Response}
use Rattle.block_core.specs.declared.reason.BlockReason.{BlockReason}
use Rattle.block_core.specs.declared.reason.BlockReason.TheVariants.{BadPcb, BadLen, OverIfs, BadIfs, BadLrc}
use Rattle.block_core.proofs.Computed.{pcb-back, pcb-known}
use Rattle.block_core.proofs.Blocks.{fits-of, size-of, begun-lt2, begun-two, begun-from, begun-all, stuck-pcb, stuck-len, stuck-size, stuck-lrc, reason-pcb, reason-len, reason-size, reason-lrc, found, one-accepted}

-- ---- what can be told of an octet

fits-or : (ifs : ℕ) (p : Pcb) (len : ℕ) → FitsLen ifs p len ⊎ ((r : BlockReason) × IsLenFault ifs p len r)
fits-or ifs (Info number more) len =
    elim (cases_lt ifs len) [
      | inr le ↦ inl le
      | inl lt ↦ elim (same len 255) [ inl e ↦ inr (BadLen, e) | inr ne ↦ inr (OverIfs, (tt, ne, lt)) ]
    ]
fits-or ifs (Ready number fault) len = elim (same len 0) [ inl e ↦ inl e | inr ne ↦ inr (BadLen, ne) ]
fits-or ifs (Request s) len = elim (same len (supervisory_len s)) [ inl e ↦ inl e | inr ne ↦ inr (BadLen, ne) ]
fits-or ifs (Response s) len = elim (same len (supervisory_len s)) [ inl e ↦ inl e | inr ne ↦ inr (BadLen, ne) ]

about-told : (p : Pcb) → Dec (IsAboutIfs p)
about-told p =
    elim (same (pcb_octet p) (pcb_octet (Request Ifs))) [
      | inl e ↦ inl (inl (pcb-back p (Request Ifs) e))
      | inr ne ↦ elim (same (pcb_octet p) (pcb_octet (Response Ifs))) [
        | inl e ↦ inl (inr (pcb-back p (Response Ifs) e))
        | inr me ↦ inr (λ h. elim h [ inl e ↦ ne (ap pcb_octet e) | inr e ↦ me (ap pcb_octet e) ])
      ]
    ]

-- ---- what begins a spelling

-- the kind, the length and the first octet of the field that a spelling tells
record Told (ifs a c l : ℕ) (s : List ℕ) : Type 0 where
  kind : Pcb
  octet : pcb_octet kind ≡ c
  fits : FitsLen ifs kind l
  within : length s ≤ l + 1
  sized : 1 < length s → IsAboutIfs kind → (1 ≤ get_or s 0 0) × (get_or s 0 0 ≤ 254)

told : (ifs a c l : ℕ) (s : List ℕ) (w : Parts) → IsBlock ifs w (a ∷ c ∷ l ∷ s) → Told ifs a c l s
told ifs a c l s w h =
    let sum : ℕ = xor_of (front_of w) in
    let len : l ≡ length w.inf = ap (λ (t : List ℕ). get_or t 2 0) h.is in
    let field : s ≡ w.inf ++ sum ∷ [] = ap (drop 3) h.is in
    record {
      kind = w.pcb;
      octet = sym (ap (λ (t : List ℕ). get_or t 1 0) h.is);
      fits = subst (λ (n : ℕ). FitsLen ifs w.pcb n) (sym len) (fits-of ifs w.pcb w.inf h.proper.suits);
      within = omega (arith, ap length field, length-append w.inf (sum ∷ []), len);
      sized = λ lt about.
          let size = size-of ifs w.pcb w.inf about h.proper.suits in
          let first : get_or s 0 0 ≡ get_or w.inf 0 0 = ap (λ (t : List ℕ). get_or t 0 0) field
          ∙ get_or_append_left w.inf (sum ∷ []) 0 0 (omega (arith, size.0)) in
          (omega (arith, first, size.1), omega (arith, first, size.2));
    }

-- ---- one octet more

abbrev Goes : ℕ → List ℕ → Type 0
Goes ifs b = Begins (IsBlock ifs) b ⊎ ((r : BlockReason) × IsReason ifs r b)

-- an octet of the field, or the check sum
goes-field : (ifs : ℕ) (p : Pcb) (b : List ℕ) → AreOctets b → 4 ≤ length b → length b ≤ get_or b 2 0 + 4
    → pcb_octet p ≡ get_or b 1 0 → FitsLen ifs p (get_or b 2 0)
    → (IsAboutIfs p → (1 ≤ get_or b 3 0) × (get_or b 3 0 ≤ 254)) → Goes ifs b
goes-field ifs p b octets least most e fits size =
    elim (cases_lt (length b) (get_or b 2 0 + 4)) [
      | inl lt ↦ inl (begun-all ifs p b octets (omega arith) (omega arith) e fits (λ about pos. size about))
      | inr le ↦
          let full : length b ≡ get_or b 2 0 + 4 = omega arith in
          let all : take (length b) b ≡ b = take-length b in
          elim (same (xor_of b) 0) [
            | inl zero_sum ↦
                let inf : List ℕ = take (get_or b 2 0) (drop 3 b) in
                let v : Parts = record { nad = get_or b 0 0; pcb = p; inf = inf } in
                inl (spelled-begins (IsBlock ifs) v b (subst (IsBlock ifs v) all
                (found ifs (length b) p b inf octets full (omega arith) refl e fits size (ap xor_of all ∙ zero_sum))))
            | inr bad ↦ inr (
              BadLrc,
              subst (IsReason ifs BadLrc) all
                  (reason-lrc ifs (length b) b p full (omega arith) e fits (λ z. bad (ap xor_of (sym all) ∙ z))),
            )
          ]
    ]

next : (ifs : ℕ) (c : List ℕ) (x : ℕ) → AreOctets (c ++ x ∷ []) → (w : Parts) (y : ℕ) (more : List ℕ)
    → IsBlock ifs w (c ++ y ∷ more) → Goes ifs (c ++ x ∷ [])
next ifs [] x octets w y more h = inl (begun-lt2 ifs (x ∷ []) octets (omega arith))
next ifs (a ∷ []) x octets w y more h =
    elim (pcb-known x) [
      | inl p ↦ inl (begun-two ifs p.0 (a ∷ x ∷ []) octets (omega arith) p.1)
      | inr unknown ↦ inr (BadPcb, reason-pcb ifs (a ∷ x ∷ []) (omega arith) unknown)
    ]
next ifs (a ∷ c ∷ []) x octets w y more h =
    let e : pcb_octet w.pcb ≡ c = sym (ap (λ (t : List ℕ). get_or t 1 0) h.is) in
    let b : List ℕ = a ∷ c ∷ x ∷ [] in
    elim (fits-or ifs w.pcb x) [
      | inl fits ↦ inl (begun-from ifs 0 w.pcb b octets (omega arith) (omega arith) e fits
          (λ about pos. absurd (omega arith)))
      | inr fault ↦ inr (fault.0, reason-len ifs b w.pcb fault.0 (omega arith) e fault.1)
    ]
next ifs (a ∷ c ∷ l ∷ []) x octets w y more h =
    let t : Told ifs a c l (y ∷ more) = told ifs a c l (y ∷ more) w h in
    let b : List ℕ = a ∷ c ∷ l ∷ x ∷ [] in
    let sized : (IsAboutIfs t.kind → (1 ≤ x) × (x ≤ 254)) → Goes ifs b =
    λ size. goes-field ifs t.kind b octets (omega arith) (omega arith) t.octet t.fits size in
    elim (about-told t.kind) [
      | inr not_so ↦ sized (λ about. absurd (not_so about))
      | inl about ↦ elim (same x 0) [
        | inl z ↦ inr (BadIfs, reason-size ifs b t.kind (omega arith) t.octet about (inl z))
        | inr nz ↦ elim (same x 255) [
          | inl z ↦ inr (BadIfs, reason-size ifs b t.kind (omega arith) t.octet about (inr z))
          | inr nf ↦ sized (λ g. let small : x < 256 = octets 3 in (omega arith, omega arith))
        ]
      ]
    ]
next ifs (a ∷ c ∷ l ∷ z ∷ s) x octets w y more h =
    let t : Told ifs a c l (z ∷ (s ++ y ∷ more)) = told ifs a c l (z ∷ (s ++ y ∷ more)) w h in
    goes-field ifs t.kind (a ∷ c ∷ l ∷ z ∷ (s ++ x ∷ [])) octets (omega (arith, length-append s (x ∷ [])))
    (omega (arith, length-append s (x ∷ []), length-append s (y ∷ more), t.within)) t.octet t.fits
    (λ about. t.sized (omega (arith, length-append s (y ∷ more))) about)

-- ---- where a line of the table is met, no block goes on

all-of : (n : ℕ) (b : List ℕ) → length b ≡ n → b ≡ take n b
all-of n b e = sym (take-length b) ∙ ap (λ (k : ℕ). take k b) e

bad-of : (p : Pcb) (len : ℕ) → IsInfo p → len ≡ 255 → IsBadLen p len
bad-of (Info number more) len info e = e
bad-of (Ready number fault) len info e = absurd info
bad-of (Request s) len info e = absurd info
bad-of (Response s) len info e = absurd info

-- octets that meet a line of the table begin no block, where the information size is 254 at most
pub meets-stuck : (ifs : ℕ) (b : List ℕ) (r : BlockReason) → ifs ≤ 254 → Meets ifs b r → Begins (IsBlock ifs) b → ⊥
meets-stuck ifs b BadPcb small m h = stuck-pcb ifs b (omega (arith, m.0)) m.1
    (subst (Begins (IsBlock ifs)) (all-of 2 b m.0) h)
meets-stuck ifs b BadLen small m h = stuck-len ifs b m.1 BadLen small (omega (arith, m.0)) m.2 m.3
    (subst (Begins (IsBlock ifs)) (all-of 3 b m.0) h)
meets-stuck ifs b OverIfs small m h =
    let begun : Begins (IsBlock ifs) (take 3 b) = subst (Begins (IsBlock ifs)) (all-of 3 b m.0) h in
    elim (same (get_or b 2 0) 255) [
      | inl e ↦ stuck-len ifs b m.1 BadLen small (omega (arith, m.0)) m.2 (bad-of m.1 (get_or b 2 0) m.3 e) begun
      | inr ne ↦ stuck-len ifs b m.1 OverIfs small (omega (arith, m.0)) m.2 (m.3, ne, m.4) begun
    ]
meets-stuck ifs b BadIfs small m h =
    let begun : Begins (IsBlock ifs) (take 4 b) = subst (Begins (IsBlock ifs)) (all-of 4 b m.0) h in
    elim m.1 [
      | inl e ↦ stuck-size ifs b (Request Ifs) (omega (arith, m.0)) e (inl refl) m.2 begun
      | inr e ↦ stuck-size ifs b (Response Ifs) (omega (arith, m.0)) e (inr refl) m.2 begun
    ]
meets-stuck ifs b BadLrc small m h =
    let all : b ≡ take (length b) b = sym (take-length b) in
    stuck-lrc ifs (length b) b m.0 (omega arith) (λ z. m.1 (ap xor_of all ∙ z)) (subst (Begins (IsBlock ifs)) all h)

-- what has to be known of blocks so that every input has one verdict, for information sizes of 254 at most
pub steps : (ifs : ℕ) → ifs ≤ 254 → Steps (IsBlock ifs) (IsReason ifs)
steps ifs small = record {
  one_value = one-accepted ifs ifs;
  one_reason = λ r s c. first_once (BadPcb ∷ BadLen ∷ OverIfs ∷ BadIfs ∷ BadLrc ∷ []) (Meets ifs c) r s;
  stops = λ r c reason. meets-stuck ifs c r small
      (first_holds (BadPcb ∷ BadLen ∷ OverIfs ∷ BadIfs ∷ BadLrc ∷ []) (Meets ifs c) r reason);
  nothing = begun-lt2 ifs [] (λ i. omega arith) (omega arith);
  next = next ifs;
}

-- every input has one verdict
pub one-verdict : (ifs : ℕ) (b : List ℕ) → ifs ≤ 254 → AreOctets b
    → OneVerdict self_ended (IsBlock ifs) (IsReason ifs) b
one-verdict ifs b small octets = one_verdict (IsBlock ifs) (IsReason ifs) (steps ifs small) b octets
