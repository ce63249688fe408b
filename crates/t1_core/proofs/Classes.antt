-- A block that arrives whole is its own class.
use Rattle.std.proofs.Common.{inl, inr, ⊎_elim, [], ◌∷◌, sym, refl, ◌≡◌, ◌≢◌, ℕ, ◌≤◌, List, length, take, ap, subst, arith}
use Rattle.std.proofs.lemmas.List.{take_all}
use Rattle.octet_core.proofs.Firsts.{first_once}
use Rattle.octet_core.proofs.Verdicts.{one_refusal, not_both}
use Rattle.octet_core.specs.Grammar.{self_ended, Accepts, Refuses}
use Rattle.block_core.specs.Block.{Parts, IsProper, IsBlock, IsReason, Meets, spelling}
use Rattle.octet_core.specs.declared.stop.Stop.{Stop}
use Rattle.octet_core.specs.declared.stop.Stop.TheVariants.{At}
use Rattle.block_core.specs.declared.pcb.Pcb.{Pcb}
use Rattle.block_core.specs.declared.reason.BlockReason.{BlockReason}
use Rattle.block_core.specs.declared.reason.BlockReason.TheVariants.{BadPcb, BadLen, OverIfs, BadIfs, BadLrc}
use Rattle.t1_core.specs.Came.{Came, got, damaged, invalid, quiet, IsClass}

at_address : (size : ℕ) (b : Parts) (n : ℕ) → b.nad ≡ n → IsProper size b → (length (spelling b) ≤ length (spelling b))
    × IsBlock size (record { nad = n; pcb = b.pcb; inf = b.inf }) (take (length (spelling b)) (spelling b))
at_address size b n e proper =
    subst (λ m. (length (spelling b) ≤ length (spelling b))
    × IsBlock size (record { nad = m; pcb = b.pcb; inf = b.inf }) (take (length (spelling b)) (spelling b))) e
    (omega arith, record { proper = proper; is = take_all (length (spelling b)) (spelling b) (omega arith) })

-- the octets of a block with node address 0 are that block to a receiver that it suits
pub whole-class : (size : ℕ) (b : Parts) → b.nad ≡ 0 → IsProper size b → IsClass size (spelling b) (got b.pcb b.inf)
whole-class size b e proper = at_address size b 0 e proper

-- the law of block_core: what is accepted is one value and one length
abbrev pub OneAccepted : Type 0
OneAccepted = (i j : ℕ) (b : List ℕ) (v w : Parts) (n m : ℕ) → Accepts self_ended (IsBlock i) b v n
    → Accepts self_ended (IsBlock j) b w m → (v ≡ w) × (n ≡ m)

-- A whole block has no other class.
pub only-class : (one : OneAccepted) (size : ℕ) (b : List ℕ) (pcb : Pcb) (inf : List ℕ) (c : Came)
    → IsClass size b (got pcb inf) → IsClass size b c → c ≡ got pcb inf
only-class one size b pcb inf (got p i) h k = ap (λ (v : Parts). got v.pcb v.inf) (one size size b _ _ _ _ k h).0
only-class one size b pcb inf damaged h k =
    absurd (not_both self_ended (IsBlock size) (IsReason size) b _ _ (At k.0 BadLrc) h k.1)
only-class one size b pcb inf invalid h (inl k) =
    absurd (not_both self_ended (IsBlock size) (IsReason size) b _ _ k.0 h k.1)
only-class one size b pcb inf invalid h (inr k) =
    let same = one size size b _ _ _ _ k.2 h in
    ⊎_elim (λ (x : k.0.nad ≢ 0). absurd (x (ap (λ (v : Parts). v.nad) same.0)))
    (λ (x : k.1 ≢ length b). absurd (x same.1)) k.3
only-class one size b pcb inf quiet h k = absurd k

-- ---- a refusal is one

one_reason : (size : ℕ) (r s : BlockReason) (front : List ℕ) → IsReason size r front → IsReason size s front → r ≡ s
one_reason size r s front = first_once (BadPcb ∷ BadLen ∷ OverIfs ∷ BadIfs ∷ BadLrc ∷ []) (Meets size front) r s

one_stop : (size : ℕ) (b : List ℕ) (s t : Stop BlockReason) → Refuses self_ended (IsBlock size) (IsReason size) b s
    → Refuses self_ended (IsBlock size) (IsReason size) b t → s ≡ t
one_stop size = one_refusal self_ended (IsBlock size) (IsReason size) (one_reason size)

damaged_only : (size : ℕ) (b : List ℕ) → IsClass size b damaged → IsClass size b invalid → ⊥
damaged_only size b h (inl k) = k.2 h.0 (one_stop size b k.0 (At h.0 BadLrc) k.1 h.1)
damaged_only size b h (inr k) = not_both self_ended (IsBlock size) (IsReason size) b _ _ (At h.0 BadLrc) k.2 h.1

-- Octets have one class.
pub only-one : (one : OneAccepted) (size : ℕ) (b : List ℕ) (c d : Came) → IsClass size b c → IsClass size b d → c ≡ d
only-one one size b c (got pcb inf) h k = only-class one size b pcb inf c k h
only-one one size b (got pcb inf) damaged h k = sym (only-class one size b pcb inf damaged h k)
only-one one size b (got pcb inf) invalid h k = sym (only-class one size b pcb inf invalid h k)
only-one one size b damaged damaged h k = refl
only-one one size b damaged invalid h k = absurd (damaged_only size b h k)
only-one one size b invalid damaged h k = absurd (damaged_only size b k h)
only-one one size b invalid invalid h k = refl
only-one one size b c quiet h k = absurd k
only-one one size b quiet d h k = absurd h
