-- What a reader has taken of a piece so far.
use Rattle.std.proofs.Common.{◌≡◌, ◌≤◌, ◌<◌, ◌+◌, ◌-◌, ◌++◌, ◌∷◌, [], List, ℕ, take, drop, length, get_or, subst, sym, ap, ◌∙◌, arith, append_assoc, refl, zero, suc}
use Rattle.std.proofs.lemmas.List.{take-append-drop, length-drop, take_all}
use Rattle.octet_core.specs.Grammar.{RefusesAt, IsFirst, whole}
use Rattle.octet_core.specs.declared.stop.Stop.TheVariants.{At}
use Rattle.tlv_core.specs.declared.reason.TlvReason.{TlvReason}
use Rattle.tlv_core.specs.Tree.{Tree, End}
use Rattle.tlv_core.specs.Forest.{IsForest}
use Rattle.tlv_core.specs.Reasons.{Kept, HasTaken, IsReason, IsIdle, tlv_reasons}
use Rattle.tlv_core.specs.Steps.{IsWrongAfter}
use Rattle.tlv_core.proofs.Stands.{Nothing}
use Rattle.std.specs.Prelude.{◌↔◌}
use Rattle.octet_core.specs.Grammar.{IsShort}
use Rattle.octet_core.proofs.Lists.{nil_of}
use Rattle.tlv_core.proofs.Taken.{taken_of, held_idle}
use Rattle.tlv_core.proofs.Advances.{refuses_next}

-- so many octets of the piece are taken after all that was taken before, and then this is kept
pub record Fed (before now : Kept) (piece : List ℕ) (taken : ℕ) : Type 0 where
  pub within : taken ≤ length piece
  pub limit : now.max ≡ before.max
  pub stands : (b : List ℕ) → HasTaken b before → HasTaken (b ++ take taken piece) now

nothing_of : (m : ℕ) → take {A = ℕ} m [] ≡ []
nothing_of zero = refl
nothing_of (suc m) = refl

-- the first n items and the m after them are the first n + m
pub take_taken_more : (n m : ℕ) (l : List ℕ) → take n l ++ take m (drop n l) ≡ take (n + m) l
take_taken_more zero m l = let e : m ≡ zero + m = omega arith in ap (λ (k : ℕ). take k l) e
take_taken_more (suc n) m [] = nothing_of m ∙ sym (nothing_of (suc n + m))
take_taken_more (suc n) m (x ∷ l) = let e : suc (n + m) ≡ suc n + m =
    omega arith in ap (λ (k : List ℕ). x ∷ k) (take_taken_more n m l) ∙ ap (λ (k : ℕ). take k (x ∷ l)) e

-- the rest of a slice
pub rest_of : (piece : List ℕ) (taken : ℕ) → take (length piece - taken) (drop taken piece) ≡ drop taken piece
rest_of piece taken = take_all (length piece - taken) (drop taken piece) (omega (arith, length-drop taken piece))

-- n octets more are taken, of the rest of the piece
pub fed_more : (before now after : Kept) (piece rest : List ℕ) (taken n : ℕ) → Fed before now piece taken
    → rest ≡ drop taken piece → n ≤ length rest → after.max ≡ now.max
    → ((b : List ℕ) → HasTaken b now → HasTaken (b ++ take n rest) after) → Fed before after piece (taken + n)
fed_more before now after piece rest taken n fed is le limit step =
    record {
      within = omega (arith, fed.within, ap length is, length-drop taken piece);
      limit = limit ∙ fed.limit;
      stands = λ b h.
          let more = step (b ++ take taken piece) (fed.stands b h) in
          subst (λ (l : List ℕ). HasTaken l after)
          (append_assoc b (take taken piece) (take n rest)
          ∙ ap (λ (l : List ℕ). b ++ (take taken piece ++ take n l)) is
          ∙ ap (λ (l : List ℕ). b ++ l) (take_taken_more taken n piece)) more;
    }

-- some octets stand for it, as before and those of the piece
pub fed_some : (before now : Kept) (piece : List ℕ) (taken : ℕ) (own : Kept) → own ≡ before → Fed before now piece taken
    → ((b : List ℕ) × HasTaken b own) → (b : List ℕ) × HasTaken b now
fed_some before now piece taken own is fed (b, h) = (b ++ take taken piece, fed.stands b (subst (HasTaken b) is h))

-- where octets of the piece are left, there is a first one
pub first_left : (taken : ℕ) (piece rest : List ℕ) → taken < length piece → rest ≡ drop taken piece → (more : List ℕ)
    × (rest ≡ get_or rest 0 0 ∷ more)
first_left taken piece [] lt is = absurd (omega (arith, ap length is, length-drop taken piece))
first_left taken piece (x ∷ more) lt is = (more, refl)

-- the first octet that is left is refused
pub fed_refused : (before now : Kept) (piece rest : List ℕ) (taken : ℕ) (r : TlvReason) (b : List ℕ)
    → Fed before now piece taken → taken < length piece → rest ≡ drop taken piece → now.value_left ≡ 0
    → IsFirst tlv_reasons (IsWrongAfter now (get_or rest 0 0)) r → HasTaken b before
    → RefusesAt whole (IsForest before.max) (IsReason before.max) (b ++ piece) (At now.count r)
fed_refused before now piece rest taken r b fed lt is idle first h =
    let left = first_left taken piece rest lt is in
    let x = get_or rest 0 0 in
    let all : (b ++ take taken piece) ++ x ∷ left.0 ≡ b ++ piece =
    append_assoc b (take taken piece) (x ∷ left.0)
    ∙ ap (λ (l : List ℕ). b ++ (take taken piece ++ l)) (sym left.1 ∙ is)
    ∙ ap (λ (l : List ℕ). b ++ l) (take-append-drop taken piece) in
    let refused = refuses_next (b ++ take taken piece) now x left.0 r idle first (fed.stands b h) in
    subst (λ (m : ℕ). RefusesAt whole (IsForest m) (IsReason m) (b ++ piece) (At now.count r)) fed.limit
    (subst (λ (l : List ℕ). RefusesAt whole (IsForest now.max) (IsReason now.max) l (At now.count r)) all refused)

-- ---- the verdict at the end

-- where nothing is under way, the octets are a forest
pub idle_end : (b : List ℕ) (k : Kept) → HasTaken b k → IsIdle k → (t : Tree) × IsForest k.max t b
idle_end b k h idle = (held_idle b k h).1 idle

-- where something is, they are short
pub busy_end : (b : List ℕ) (k : Kept) → HasTaken b k → (IsIdle k → ⊥) → IsShort whole (IsForest k.max) b k.count
busy_end b k h busy = record { none = λ t n a. busy ((held_idle b k h).0 (t, a.1)); end = sym h.count; begun = h.begun }

-- ---- the beginning

-- with what is kept at first, octets were taken exactly where they are none
pub nothing_taken : (max : ℕ) (k : Kept) → k ≡ record { max = max; count = 0; rooms = []; header = []; value_left = 0 }
    → (b : List ℕ) → HasTaken b k ↔ (b ≡ [])
nothing_taken max k is b = (
  λ h. nil_of b (omega (arith, h.count, ap (λ (j : Kept). j.count) is)),
  λ e.
      let none : HasTaken [] (record { max = max; count = 0; rooms = []; header = []; value_left = 0 }) =
      taken_of max [] [] Nothing (omega arith) (record { done = End; proper = tt; is = refl }) (omega arith)
      (omega arith) in
      subst (λ (l : List ℕ). HasTaken l k) (sym e) (subst (HasTaken []) (sym is) none),
)
