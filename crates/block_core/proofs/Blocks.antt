-- What begins a block, and where nothing does.
use Rattle.std.proofs.Common.{◌≡◌, ◌≢◌, ℕ, suc, ◌+◌, ◌-◌, ◌<◌, ◌≤◌, List, [], ◌∷◌, ◌++◌, length, take, drop, get_or, refl, sym, ap, subst, ◌∙◌, append_assoc, arith, inl, inr, ◌⊎◌, Option, Some, None, false, bit_xor}
use Rattle.std.proofs.lemmas.List.{take_more, append-nil, length-append, length-take, get_or-take, get_or_append_left, get_or_past, length-replicate, get_or-replicate}
use Rattle.std.proofs.Math.ListN.{replicate}
use Rattle.std.proofs.Math.Seq.{get_or-append_right, take-length, take-append_seam}
use Rattle.std.specs.Int.Bits.{xor_self, xor_assoc, xor_zero_l, xor_zero_r}
use Rattle.std.proofs.lemmas.Bool.{cases_lt}
use Rattle.std.proofs.lemmas.List.Sums.{fold-append}
use Rattle.octet_core.specs.Grammar.{Begins, Accepts, self_ended, IsFirst}
use Rattle.octet_core.specs.Octets.{AreOctets, xor_of}
use Rattle.block_core.specs.Block.{Parts, IsBlock, IsProper, Suits, FitsLen, IsLenFault, IsAboutIfs, IsBadLen, IsInfo, IsReason, pcb_octet, supervisory_len, spelling, front_of}
use Rattle.block_core.specs.declared.pcb.Number.TheVariants.{Zero}
use Rattle.block_core.specs.declared.pcb.S.TheVariants.{Resynch, Ifs, Abort, Wtx}
use Rattle.block_core.specs.declared.pcb.Pcb.{Pcb}
use Rattle.block_core.specs.declared.pcb.Pcb.TheVariants.{Info, Ready, Request, Response}
use Rattle.block_core.specs.declared.reason.BlockReason.{BlockReason}
use Rattle.block_core.specs.declared.reason.BlockReason.TheVariants.{BadPcb, BadLen, OverIfs, BadIfs, BadLrc}
use Rattle.octet_core.proofs.Begun.{begins-front, spelled-begins, none-stuck}
use Rattle.octet_core.proofs.Lists.{nil_of, octets-take}
use Rattle.block_core.specs.Computed.{all_pcbs, pcb_among}
use Rattle.block_core.proofs.Computed.{back, pcb-back}

-- ---- spellings

-- a block has 4 octets besides its field
pub spelling-len : (v : Parts) → length (spelling v) ≡ length v.inf + 4
spelling-len v = omega (arith, length-append v.inf (xor_of (front_of v) ∷ []))

-- the exclusive-or of all octets of a block is 0
pub spelling-xor : (v : Parts) → xor_of (spelling v) ≡ 0
spelling-xor v = fold-append bit_xor 0 (front_of v) (xor_of (front_of v) ∷ []) ∙ xor_self (xor_of (front_of v))

-- an octet of what begins a spelling
pub octet_of : (b more t : List ℕ) (n k : ℕ) → n ≤ length b → take n b ++ more ≡ t → k < n → get_or t k 0 ≡ get_or b k 0
octet_of b more t n k le e lt =
    let inside : k < length (take n b) = omega (arith, length-take n b) in
    sym (ap (λ (x : List ℕ). get_or x k 0) e) ∙ get_or_append_left (take n b) more 0 k inside ∙ get_or-take n b k 0 lt

-- how long what is accepted is
pub accepted-len : (ifs : ℕ) (b : List ℕ) (v : Parts) (n : ℕ) → Accepts self_ended (IsBlock ifs) b v n
    → n ≡ length v.inf + 4
accepted-len ifs b v n a = omega (arith, spelling-len v, ap length a.1.is, length-take n b, a.0)

-- where a block is accepted, the octet at place 2 is the length of its field
pub accepted-inf : (ifs : ℕ) (b : List ℕ) (v : Parts) (n : ℕ) → Accepts self_ended (IsBlock ifs) b v n
    → get_or b 2 0 ≡ length v.inf
accepted-inf ifs b v n a =
    let lt : 2 < n = omega (arith, accepted-len ifs b v n a) in
    sym (get_or-take n b 2 0 lt) ∙ ap (λ (x : List ℕ). get_or x 2 0) a.1.is

-- where no block goes on after one of the first four octets, none is accepted
pub none-early : (ifs : ℕ) (b : List ℕ) (p : ℕ) → p < 4 → (Begins (IsBlock ifs) (take (p + 1) b) → ⊥)
    → (v : Parts) (n : ℕ) → Accepts self_ended (IsBlock ifs) b v n → ⊥
none-early ifs b p lt stuck = none-stuck (IsBlock ifs) b p stuck (λ v n a. omega (arith, accepted-len ifs b v n a))

-- where the octets up to the LRC that LEN names spell no block, none is accepted
pub none-last : (ifs n : ℕ) (b : List ℕ) → n ≡ get_or b 2 0 + 4 → (Begins (IsBlock ifs) (take n b) → ⊥)
    → (v : Parts) (m : ℕ) → Accepts self_ended (IsBlock ifs) b v m → ⊥
none-last ifs n b n-is stuck v m a =
    let same : m ≡ n = omega (arith, accepted-len ifs b v m a, accepted-inf ifs b v m a) in
    stuck (subst (λ (k : ℕ). Begins (IsBlock ifs) (take k b)) same (spelled-begins (IsBlock ifs) v (take m b) a.1))

-- ---- what begins a block

-- a field suits a PCB that its length fits, where an information size is from 1 to 254
pub suits-of : (ifs : ℕ) (p : Pcb) (inf : List ℕ) → FitsLen ifs p (length inf)
    → (IsAboutIfs p → (1 ≤ get_or inf 0 0) × (get_or inf 0 0 ≤ 254)) → Suits ifs p inf
suits-of ifs (Info number more) inf fits size = fits
suits-of ifs (Ready number fault) inf fits size = fits
suits-of ifs (Request Resynch) inf fits size = (fits, tt)
suits-of ifs (Request Ifs) inf fits size = (fits, size (inl refl))
suits-of ifs (Request Abort) inf fits size = (fits, tt)
suits-of ifs (Request Wtx) inf fits size = (fits, tt)
suits-of ifs (Response Resynch) inf fits size = (fits, tt)
suits-of ifs (Response Ifs) inf fits size = (fits, size (inr refl))
suits-of ifs (Response Abort) inf fits size = (fits, tt)
suits-of ifs (Response Wtx) inf fits size = (fits, tt)

-- the field that goes on with ones
abbrev filled : List ℕ → ℕ → List ℕ
filled part len = part ++ replicate (len - length part) 1

filled-len : (part : List ℕ) (len : ℕ) → length part ≤ len → length (filled part len) ≡ len
filled-len part len le = omega (
  arith,
  length-append part (replicate (len - length part) 1),
  length-replicate {A = ℕ} (len - length part) 1,
)

ones-small : (n i : ℕ) → get_or (replicate n 1) i 0 < 256
ones-small n i =
    elim (cases_lt i n) [
      | inl lt ↦ rw (get_or-replicate {A = ℕ} n i 1 0 lt) (omega arith)
      | inr le ↦ rw (get_or_past {X = ℕ} (replicate n 1) i 0 (omega (arith, length-replicate {A = ℕ} n 1)))
          (omega arith)
    ]

filled-octets : (part : List ℕ) (len : ℕ) → AreOctets part → AreOctets (filled part len)
filled-octets part len h i =
    elim (cases_lt i (length part)) [
      | inl lt ↦ rw (get_or_append_left part (replicate (len - length part) 1) 0 i lt) (h i)
      | inr le ↦ rw (get_or-append_right part (replicate (len - length part) 1) i 0 le)
          (ones-small (len - length part) (i - length part))
    ]

filled-size : (part : List ℕ) (len : ℕ) → 1 ≤ len → (0 < length part → (1 ≤ get_or part 0 0) × (get_or part 0 0 ≤ 254))
    → (1 ≤ get_or (filled part len) 0 0) × (get_or (filled part len) 0 0 ≤ 254)
filled-size [] len pos h =
    let e : get_or (replicate (len - 0) 1) 0 0 ≡ 1 = get_or-replicate {A = ℕ} (len - 0) 0 1 0 (omega arith) in
    (omega (arith, e), omega (arith, e))
filled-size (x ∷ part) len pos h = h (omega arith)

-- the length that fits a PCB about information sizes is 1
pub len-about : (ifs : ℕ) (p : Pcb) (len : ℕ) → IsAboutIfs p → FitsLen ifs p len → len ≡ 1
len-about ifs p len about fits =
    elim about [
      | inl e ↦ subst (λ (q : Pcb). FitsLen ifs q len) e fits
      | inr e ↦ subst (λ (q : Pcb). FitsLen ifs q len) e fits
    ]

-- a size is neither 0 nor 255
abbrev pub IsSized : List ℕ → Type 0
IsSized part = 0 < length part → (1 ≤ get_or part 0 0) × (get_or part 0 0 ≤ 254)

-- NAD, PCB, LEN and the first octets of a field begin a block, where LEN fits PCB
-- and an information size that is there is from 1 to 254
pub begun-part : (ifs a len : ℕ) (p : Pcb) (part : List ℕ) → a < 256 → AreOctets part → length part ≤ len
    → FitsLen ifs p len → (IsAboutIfs p → IsSized part) → Begins (IsBlock ifs) (a ∷ pcb_octet p ∷ len ∷ part)
begun-part ifs a len p part small octets le fits size =
    let inf : List ℕ = filled part len in
    let len-is : length inf ≡ len = filled-len part len le in
    let v : Parts = record { nad = a; pcb = p; inf = inf } in
    let sum : List ℕ = xor_of (front_of v) ∷ [] in
    let proper : IsProper ifs v = record {
      nad = small;
      octets = filled-octets part len octets;
      suits = suits-of ifs p inf (subst (λ (n : ℕ). FitsLen ifs p n) (sym len-is) fits)
          (λ about. filled-size part len (omega (arith, len-about ifs p len about fits)) (size about));
    } in
    let joined : part ++ (replicate (len - length part) 1 ++ sum) ≡ inf ++ sum =
    sym (append_assoc part (replicate (len - length part) 1) sum) in (
      v,
      replicate (len - length part) 1 ++ sum,
      record {
        proper = proper;
        is = ap (λ (t : List ℕ). a ∷ pcb_octet p ∷ len ∷ t) joined
            ∙ ap (λ (n : ℕ). a ∷ pcb_octet p ∷ n ∷ (inf ++ sum)) (sym len-is);
      },
    )

-- what has no control octet yet
pub begun-lt2 : (ifs : ℕ) (b : List ℕ) → AreOctets b → length b < 2 → Begins (IsBlock ifs) b
begun-lt2 ifs [] h lt = begins-front (IsBlock ifs) [] (0 ∷ 0 ∷ 0 ∷ [])
    (begun-part ifs 0 0 (Info Zero false) [] (omega arith) h (omega arith) (omega arith)
    (λ about. elim about [ inl e ↦ absurd (cc) | inr e ↦ absurd (cc) ]))
begun-lt2 ifs (a ∷ []) h lt = begins-front (IsBlock ifs) (a ∷ []) (0 ∷ 0 ∷ [])
    (begun-part ifs a 0 (Info Zero false) [] (h 0) (λ i. omega arith) (omega arith) (omega arith)
    (λ about. elim about [ inl e ↦ absurd (cc) | inr e ↦ absurd (cc) ]))
begun-lt2 ifs (a ∷ c ∷ rest) h lt = absurd (omega arith)

abbrev least_len : Pcb → ℕ
least_len (Info number more) = 0
least_len (Ready number fault) = 0
least_len (Request s) = supervisory_len s
least_len (Response s) = supervisory_len s

least-fits : (ifs : ℕ) (p : Pcb) → FitsLen ifs p (least_len p)
least-fits ifs (Info number more) = omega arith
least-fits ifs (Ready number fault) = refl
least-fits ifs (Request s) = refl
least-fits ifs (Response s) = refl

-- two octets begin a block where the second is a PCB
pub begun-two : (ifs : ℕ) (p : Pcb) (b : List ℕ) → AreOctets b → 2 ≤ length b → pcb_octet p ≡ get_or b 1 0
    → Begins (IsBlock ifs) (take 2 b)
begun-two ifs p [] h le e = absurd (omega arith)
begun-two ifs p (a ∷ []) h le e = absurd (omega arith)
begun-two ifs p (a ∷ c ∷ rest) h le e =
    subst (λ (x : ℕ). Begins (IsBlock ifs) (a ∷ x ∷ [])) e
    (begins-front (IsBlock ifs) (a ∷ pcb_octet p ∷ []) (least_len p ∷ [])
    (begun-part ifs a (least_len p) p [] (h 0) (λ i. omega arith) (omega arith) (least-fits ifs p)
    (λ about lt. absurd (omega arith))))

-- what has a length, and of the field as much as there is
pub begun-from : (ifs k : ℕ) (p : Pcb) (b : List ℕ) → AreOctets b → 3 ≤ length b → k ≤ get_or b 2 0
    → pcb_octet p ≡ get_or b 1 0 → FitsLen ifs p (get_or b 2 0)
    → (IsAboutIfs p → 0 < k → (1 ≤ get_or b 3 0) × (get_or b 3 0 ≤ 254)) → Begins (IsBlock ifs) (take (3 + k) b)
begun-from ifs k p [] h le kle e fits size = absurd (omega arith)
begun-from ifs k p (a ∷ []) h le kle e fits size = absurd (omega arith)
begun-from ifs k p (a ∷ c ∷ []) h le kle e fits size = absurd (omega arith)
begun-from ifs k p (a ∷ c ∷ len ∷ rest) h le kle e fits size =
    let shape : take (3 + k) (a ∷ c ∷ len ∷ rest) ≡ a ∷ c ∷ len ∷ take k rest = let n-is : 3 + k ≡ suc (suc (suc k)) =
    omega arith in ap (λ (n : ℕ). take n (a ∷ c ∷ len ∷ rest)) n-is in
    rw shape (subst (λ (x : ℕ). Begins (IsBlock ifs) (a ∷ x ∷ len ∷ take k rest)) e
    (begun-part ifs a len p (take k rest) (h 0) (octets-take k rest (λ i. h (suc (suc (suc i)))))
    (omega (arith, length-take k rest)) fits
    (λ about pos. let lt : 0 < k = omega (arith, length-take k rest) in
    rw (get_or-take k rest 0 0 lt) (size about lt))))

-- the same, by how many octets
pub begun-by : (ifs n : ℕ) (p : Pcb) (b : List ℕ) → AreOctets b → 3 ≤ n → n ≤ length b → n ≤ 3 + get_or b 2 0
    → pcb_octet p ≡ get_or b 1 0 → FitsLen ifs p (get_or b 2 0)
    → (IsAboutIfs p → 3 < n → (1 ≤ get_or b 3 0) × (get_or b 3 0 ≤ 254)) → Begins (IsBlock ifs) (take n b)
begun-by ifs n p b h least inside le e fits size =
    let n-is : 3 + (n - 3) ≡ n = omega arith in
    rw (← n-is) (begun-from ifs (n - 3) p b h (omega arith) (omega arith) e fits
    (λ about pos. size about (omega arith)))

-- octets that end before the LRC begin a block where PCB and LEN, and an information size that is there, suit
pub begun-all : (ifs : ℕ) (p : Pcb) (b : List ℕ) → AreOctets b → 3 ≤ length b → length b ≤ 3 + get_or b 2 0
    → pcb_octet p ≡ get_or b 1 0 → FitsLen ifs p (get_or b 2 0)
    → (IsAboutIfs p → 3 < length b → (1 ≤ get_or b 3 0) × (get_or b 3 0 ≤ 254)) → Begins (IsBlock ifs) b
begun-all ifs p b h least le e fits size =
    subst (Begins (IsBlock ifs)) (take-length b) (begun-by ifs (length b) p b h least (omega arith) le e fits size)

-- ---- where nothing goes on

-- no block goes on after a second octet that is no PCB
pub stuck-pcb : (ifs : ℕ) (b : List ℕ) → 2 ≤ length b → ((p : Pcb) → pcb_octet p ≡ get_or b 1 0 → ⊥)
    → Begins (IsBlock ifs) (take 2 b) → ⊥
stuck-pcb ifs b le unknown h = unknown h.0.pcb (octet_of b h.1 (spelling h.0) 2 1 le h.2.is (omega arith))

-- the length of a field that suits its PCB fits it
pub fits-of : (ifs : ℕ) (p : Pcb) (inf : List ℕ) → Suits ifs p inf → FitsLen ifs p (length inf)
fits-of ifs (Info number more) inf h = h
fits-of ifs (Ready number fault) inf h = h
fits-of ifs (Request s) inf h = h.0
fits-of ifs (Response s) inf h = h.0

fault-fits : (ifs : ℕ) (p : Pcb) (len : ℕ) (r : BlockReason) → ifs ≤ 254 → FitsLen ifs p len
    → IsLenFault ifs p len r → ⊥
fault-fits ifs p len BadPcb le fits fault = fault
fault-fits ifs (Info number more) len BadLen le fits fault = omega arith
fault-fits ifs (Ready number f) len BadLen le fits fault = fault fits
fault-fits ifs (Request s) len BadLen le fits fault = fault fits
fault-fits ifs (Response s) len BadLen le fits fault = fault fits
fault-fits ifs (Info number more) len OverIfs le fits fault = omega arith
fault-fits ifs (Ready number f) len OverIfs le fits fault = fault.0
fault-fits ifs (Request s) len OverIfs le fits fault = fault.0
fault-fits ifs (Response s) len OverIfs le fits fault = fault.0
fault-fits ifs p len BadIfs le fits fault = fault
fault-fits ifs p len BadLrc le fits fault = fault

-- the kind and the length that a spelling has after three octets
pcb_is : (ifs : ℕ) (b : List ℕ) (n : ℕ) (p : Pcb) (v : Parts) (more : List ℕ) → 3 ≤ n → n ≤ length b
    → pcb_octet p ≡ get_or b 1 0 → take n b ++ more ≡ spelling v → v.pcb ≡ p
pcb_is ifs b n p v more least le e is = pcb-back v.pcb p (octet_of b more (spelling v) n 1 le is (omega arith) ∙ sym e)

-- no block goes on after a LEN that is wrong for its PCB, where the information size is 254 at most
pub stuck-len : (ifs : ℕ) (b : List ℕ) (p : Pcb) (r : BlockReason) → ifs ≤ 254 → 3 ≤ length b
    → pcb_octet p ≡ get_or b 1 0 → IsLenFault ifs p (get_or b 2 0) r → Begins (IsBlock ifs) (take 3 b) → ⊥
stuck-len ifs b p r small le e fault h =
    let v : Parts = h.0 in
    let pcb-is : v.pcb ≡ p = pcb_is ifs b 3 p v h.1 (omega arith) le e h.2.is in
    let len-is : length v.inf ≡ get_or b 2 0 = octet_of b h.1 (spelling v) 3 2 le h.2.is (omega arith) in
    let fits : FitsLen ifs v.pcb (length v.inf) = fits-of ifs v.pcb v.inf h.2.proper.suits in
    fault-fits ifs p (get_or b 2 0) r small
    (subst (λ (q : Pcb). FitsLen ifs q (get_or b 2 0)) pcb-is (subst (λ (n : ℕ). FitsLen ifs v.pcb n) len-is fits))
    fault

-- a field that suits a PCB about information sizes is one octet from 1 to 254
pub size-of : (ifs : ℕ) (p : Pcb) (inf : List ℕ) → IsAboutIfs p → Suits ifs p inf
    → (length inf ≡ 1) × (1 ≤ get_or inf 0 0) × (get_or inf 0 0 ≤ 254)
size-of ifs p inf about suits =
    elim about [
      | inl e ↦ let s = subst (λ (q : Pcb). Suits ifs q inf) e suits in (s.0, s.1.0, s.1.1)
      | inr e ↦ let s = subst (λ (q : Pcb). Suits ifs q inf) e suits in (s.0, s.1.0, s.1.1)
    ]

-- no block goes on after an information size of 0 or 255
pub stuck-size : (ifs : ℕ) (b : List ℕ) (p : Pcb) → 4 ≤ length b → pcb_octet p ≡ get_or b 1 0 → IsAboutIfs p
    → ((get_or b 3 0 ≡ 0) ⊎ (get_or b 3 0 ≡ 255)) → Begins (IsBlock ifs) (take 4 b) → ⊥
stuck-size ifs b p le e about bad h =
    let v : Parts = h.0 in
    let pcb-is : v.pcb ≡ p = pcb_is ifs b 4 p v h.1 (omega arith) le e h.2.is in
    let size = size-of ifs p v.inf about (subst (λ (q : Pcb). Suits ifs q v.inf) pcb-is h.2.proper.suits) in
    let first : get_or (v.inf ++ xor_of (front_of v) ∷ []) 0 0 ≡ get_or b 3 0 =
    octet_of b h.1 (spelling v) 4 3 le h.2.is (omega arith) in
    let own : get_or (v.inf ++ xor_of (front_of v) ∷ []) 0 0 ≡ get_or v.inf 0 0 =
    get_or_append_left v.inf (xor_of (front_of v) ∷ []) 0 0 (omega (arith, size.0)) in
    elim bad [
      | inl z ↦ omega (arith, size.1, size.2, first, own, z)
      | inr z ↦ omega (arith, size.1, size.2, first, own, z)
    ]

-- octets up to the LRC that LEN names, whose exclusive-or is not 0, begin no block
pub stuck-lrc : (ifs n : ℕ) (b : List ℕ) → n ≡ get_or b 2 0 + 4 → n ≤ length b → xor_of (take n b) ≢ 0
    → Begins (IsBlock ifs) (take n b) → ⊥
stuck-lrc ifs n b n-is le bad h =
    let v : Parts = h.0 in
    let len-is : length v.inf ≡ get_or b 2 0 = octet_of b h.1 (spelling v) n 2 le h.2.is (omega arith) in
    let more-is : h.1 ≡ [] = nil_of h.1 (omega
    (arith, length-append (take n b) h.1, length-take n b, spelling-len v, ap length h.2.is)) in
    let all : take n b ≡ spelling v = sym (append-nil (take n b)) ∙ ap (λ (m : List ℕ). take n b ++ m) (sym more-is)
    ∙ h.2.is in
    bad (ap xor_of all ∙ spelling-xor v)

-- ---- reasons

-- where the second octet is no PCB, that is the reason
pub reason-pcb : (ifs : ℕ) (b : List ℕ) → 2 ≤ length b → ((p : Pcb) → pcb_octet p ≡ get_or b 1 0 → ⊥)
    → IsReason ifs BadPcb (take 2 b)
unfolding IsFirst
reason-pcb ifs b le unknown = inl (
  (
    omega (arith, length-take 2 b),
    λ p e. unknown p (e ∙ get_or-take 2 b 1 0 (omega arith)),
  ),
  refl,
)

info-bad : (p : Pcb) (len : ℕ) → IsInfo p → IsBadLen p len → len ≡ 255
info-bad (Info number more) len info bad = bad
info-bad (Ready number f) len info bad = absurd info
info-bad (Request s) len info bad = absurd info
info-bad (Response s) len info bad = absurd info

-- where LEN is wrong for its PCB, the reason is what is wrong with it
pub reason-len : (ifs : ℕ) (b : List ℕ) (p : Pcb) (r : BlockReason) → 3 ≤ length b → pcb_octet p ≡ get_or b 1 0
    → IsLenFault ifs p (get_or b 2 0) r → IsReason ifs r (take 3 b)
unfolding IsFirst
reason-len ifs b p BadPcb le e fault = absurd fault
reason-len ifs b p BadLen le e fault =
    let one : get_or (take 3 b) 1 0 ≡ get_or b 1 0 = get_or-take 3 b 1 0 (omega arith) in
    let two : get_or (take 3 b) 2 0 ≡ get_or b 2 0 = get_or-take 3 b 2 0 (omega arith) in
    inr (
      λ m. omega (arith, m.0, length-take 3 b),
      inl ((omega (arith, length-take 3 b), p, e ∙ sym one, subst (IsBadLen p) (sym two) fault), refl),
    )
reason-len ifs b p OverIfs le e fault =
    let one : get_or (take 3 b) 1 0 ≡ get_or b 1 0 = get_or-take 3 b 1 0 (omega arith) in
    let two : get_or (take 3 b) 2 0 ≡ get_or b 2 0 = get_or-take 3 b 2 0 (omega arith) in
    inr (
      λ m. omega (arith, m.0, length-take 3 b),
      inr (
        λ m.
            let same : m.1 ≡ p = pcb-back m.1 p (m.2 ∙ one ∙ sym e) in
            fault.1 (sym two ∙ info-bad p (get_or (take 3 b) 2 0) fault.0
            (subst (λ (q : Pcb). IsBadLen q (get_or (take 3 b) 2 0)) same m.3)),
        inl ((omega (arith, length-take 3 b), p, e ∙ sym one, fault.0, omega (arith, two, fault.2)), refl),
      ),
    )
reason-len ifs b p BadIfs le e fault = absurd fault
reason-len ifs b p BadLrc le e fault = absurd fault

about-octet : (p : Pcb) (x : ℕ) → IsAboutIfs p → pcb_octet p ≡ x
    → (pcb_octet (Request Ifs) ≡ x) ⊎ (pcb_octet (Response Ifs) ≡ x)
about-octet p x about e =
    elim about [
      | inl h ↦ inl (ap pcb_octet (sym h) ∙ e)
      | inr h ↦ inr (ap pcb_octet (sym h) ∙ e)
    ]

octet-about : (p : Pcb) (x : ℕ) → pcb_octet p ≡ x
    → (pcb_octet (Request Ifs) ≡ x) ⊎ (pcb_octet (Response Ifs) ≡ x) → IsAboutIfs p
octet-about p x e known =
    elim known [
      | inl h ↦ inl (pcb-back p (Request Ifs) (e ∙ sym h))
      | inr h ↦ inr (pcb-back p (Response Ifs) (e ∙ sym h))
    ]

-- where an information size is 0 or 255, that is the reason
pub reason-size : (ifs : ℕ) (b : List ℕ) (p : Pcb) → 4 ≤ length b → pcb_octet p ≡ get_or b 1 0 → IsAboutIfs p
    → ((get_or b 3 0 ≡ 0) ⊎ (get_or b 3 0 ≡ 255)) → IsReason ifs BadIfs (take 4 b)
unfolding IsFirst
reason-size ifs b p le e about bad =
    let len : length (take 4 b) ≡ 4 = omega (arith, length-take 4 b) in
    let one : get_or (take 4 b) 1 0 ≡ get_or b 1 0 = get_or-take 4 b 1 0 (omega arith) in
    let three : get_or (take 4 b) 3 0 ≡ get_or b 3 0 = get_or-take 4 b 3 0 (omega arith) in
    inr (
      λ m. omega (arith, m.0, len),
      inr (
        λ m. omega (arith, m.0, len),
        inr (
          λ m. omega (arith, m.0, len),
          inl (
            (
              len,
              about-octet p (get_or (take 4 b) 1 0) about (e ∙ sym one),
              elim bad [ inl z ↦ inl (three ∙ z) | inr z ↦ inr (three ∙ z) ],
            ),
            refl,
          ),
        ),
      ),
    )

-- and the reason there is the LRC, where PCB and LEN fit
pub reason-lrc : (ifs n : ℕ) (b : List ℕ) (p : Pcb) → n ≡ get_or b 2 0 + 4 → n ≤ length b → pcb_octet p ≡ get_or b 1 0
    → FitsLen ifs p (get_or b 2 0) → xor_of (take n b) ≢ 0 → IsReason ifs BadLrc (take n b)
unfolding IsFirst
reason-lrc ifs n b p n-is le e fits bad =
    let len : length (take n b) ≡ n = omega (arith, length-take n b) in
    let one : get_or (take n b) 1 0 ≡ get_or b 1 0 = get_or-take n b 1 0 (omega arith) in
    let two : get_or (take n b) 2 0 ≡ get_or b 2 0 = get_or-take n b 2 0 (omega arith) in
    inr (
      λ m. omega (arith, m.0, len),
      inr (
        λ m. omega (arith, m.0, len),
        inr (
          λ m. omega (arith, m.0, len),
          inr (
            λ m. omega (
              arith,
              m.0,
              len,
              len-about ifs p (get_or b 2 0) (octet-about p (get_or (take n b) 1 0) (e ∙ sym one) m.1) fits,
            ),
            inl ((omega (arith, len, two), bad), refl),
          ),
        ),
      ),
    )

-- ---- what is accepted

-- two numbers whose exclusive-or is 0 are the same
pub xor-zero : (a b : ℕ) → bit_xor a b ≡ 0 → b ≡ a
xor-zero a b h = sym (xor_zero_l b) ∙ ap (λ (x : ℕ). bit_xor x b) (sym (xor_self a)) ∙ xor_assoc a a b
    ∙ ap (bit_xor a) h ∙ xor_zero_r a

-- the block of three octets, a field and its check sum
pub found : (ifs n : ℕ) (p : Pcb) (b inf : List ℕ) → AreOctets b → n ≡ get_or b 2 0 + 4 → n ≤ length b
    → inf ≡ take (get_or b 2 0) (drop 3 b) → pcb_octet p ≡ get_or b 1 0 → FitsLen ifs p (get_or b 2 0)
    → (IsAboutIfs p → (1 ≤ get_or b 3 0) × (get_or b 3 0 ≤ 254)) → xor_of (take n b) ≡ 0
    → IsBlock ifs (record { nad = get_or b 0 0; pcb = p; inf = inf }) (take n b)
found ifs n p [] inf h n-is le inf-is e fits size sum = absurd (omega arith)
found ifs n p (a ∷ []) inf h n-is le inf-is e fits size sum = absurd (omega arith)
found ifs n p (a ∷ c ∷ []) inf h n-is le inf-is e fits size sum = absurd (omega arith)
found ifs n p (a ∷ c ∷ l ∷ rest) inf h n-is le inf-is e fits size sum =
    let b : List ℕ = a ∷ c ∷ l ∷ rest in
    let last : ℕ = get_or rest l 0 in
    let steps : n ≡ suc (suc (suc (l + 1))) = omega arith in
    let inside : l < length rest = omega arith in
    let inf-len : length inf ≡ l = omega (arith, ap length inf-is, length-take l rest) in
    let shape : take n b ≡ a ∷ c ∷ l ∷ (take l rest ++ last ∷ []) =
    ap (λ (k : ℕ). take k b) steps ∙ ap (λ (t : List ℕ). a ∷ c ∷ l ∷ t) (take_more rest l 0 inside) in
    let v : Parts = record { nad = a; pcb = p; inf = inf } in
    let fronts : take n b ≡ front_of v ++ last ∷ [] = shape ∙ cc (e, inf-len, inf-is) in
    let zero-sum : bit_xor (xor_of (front_of v)) last ≡ 0 =
    sym (fold-append bit_xor 0 (front_of v) (last ∷ [])) ∙ ap xor_of (sym fronts) ∙ sum in
    let is : take n b ≡ spelling v = fronts
    ∙ ap (λ (x : ℕ). front_of v ++ x ∷ []) (xor-zero (xor_of (front_of v)) last zero-sum) in
    let octets : AreOctets inf = subst AreOctets (sym inf-is) (octets-take l rest (λ i. h (suc (suc (suc i))))) in
    let suits : Suits ifs p inf = suits-of ifs p inf (subst (λ (k : ℕ). FitsLen ifs p k) (sym inf-len) fits) (λ about.
    let one : l ≡ 1 = len-about ifs p l about fits in
    let first : get_or inf 0 0 ≡ get_or rest 0 0 =
    ap (λ (t : List ℕ). get_or t 0 0) inf-is ∙ get_or-take l rest 0 0 (omega arith) in
    rw first (size about)) in
    record { proper = record { nad = h 0; octets = octets; suits = suits }; is = is }

-- ---- one value

-- the parts of a spelling
parts_of : List ℕ → Option Pcb → Parts
parts_of b None = record { nad = 0; pcb = Info Zero false; inf = [] }
parts_of b (Some p) = record { nad = get_or b 0 0; pcb = p; inf = take (get_or b 2 0) (drop 3 b) }

parts-back : (v : Parts) → parts_of (spelling v) (pcb_among all_pcbs (get_or (spelling v) 1 0)) ≡ v
unfolding parts_of
parts-back v = rw (back v.pcb) (ap (λ (inf : List ℕ). record { nad = v.nad; pcb = v.pcb; inf = inf })
    (take-append_seam v.inf (xor_of (front_of v) ∷ [])))

-- what is accepted under two information sizes is one block and one length
pub one-accepted : (i j : ℕ) (b : List ℕ) (v w : Parts) (n m : ℕ) → Accepts self_ended (IsBlock i) b v n
    → Accepts self_ended (IsBlock j) b w m → (v ≡ w) × (n ≡ m)
one-accepted i j b v w n m p q =
    let same : n ≡ m = omega (
      arith,
      accepted-len i b v n p,
      accepted-inf i b v n p,
      accepted-len j b w m q,
      accepted-inf j b w m q,
    ) in
    let text : spelling v ≡ spelling w = sym p.1.is ∙ ap (λ (k : ℕ). take k b) same ∙ q.1.is in
    (sym (parts-back v) ∙ ap (λ (t : List ℕ). parts_of t (pcb_among all_pcbs (get_or t 1 0))) text ∙ parts-back w, same)
