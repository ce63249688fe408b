-- What a block is to its receiver, whole and changed.
use Rattle.std.proofs.Common.{◌≡◌, ℕ, ◌+◌, ◌-◌, List, [], ◌∷◌, ◌++◌, length, take, drop, get_or, refl, sym, ap, ◌∙◌, arith, true, false, bit_xor, Bool, nat_lt}
use Rattle.std.specs.Prelude.{◌&&◌, ◌==◌, if◌then◌else◌}
use Rattle.std.proofs.Math.Seq.{take-append_seam, take-length, get_or-append_seam}
use Rattle.std.proofs.lemmas.List.{length-append}
use Rattle.std.specs.Int.Bits.{xor_self, xor_assoc, xor_zero_l}
use Rattle.std.proofs.lemmas.List.Sums.{fold-append}
use Rattle.octet_core.specs.Octets.{xor_of}
use Rattle.block_core.specs.Block.{Parts, Suits, pcb_octet, spelling, front_of}
use Rattle.block_core.specs.declared.pcb.Pcb.{Pcb}
use Rattle.t1_core.specs.Came.{Came, got, damaged, invalid, IsClass, class_of, class_with}
use Rattle.block_core.specs.Computed.{suits}
use Rattle.block_core.proofs.Computed.{back, true_suits, both_of, by_lt, by_eq}
use Rattle.t1_core.specs.Link.{Event, damages, spoils}
use Rattle.block_core.proofs.Blocks.{spelling-xor}
use Rattle.exchange_text.specs.Exchange.{arrived}
use Rattle.exchange_core.specs.Recording.{damaged_octets, arrival_of, arrival_event, change_event}
use Rattle.exchange_core.specs.declared.carrying.Change.{Change}
use Rattle.exchange_core.specs.declared.carrying.Change.TheVariants.{Kept, Damaged, Spoilt}

-- ---- a front and a check octet

abbrev front : ℕ → Pcb → List ℕ → List ℕ
front nad p inf = nad ∷ pcb_octet p ∷ length inf ∷ inf

abbrev octets : ℕ → Pcb → List ℕ → ℕ → List ℕ
octets nad p inf last = front nad p inf ++ last ∷ []

-- what the tests of the class give
classed : (fits is_sum ends is_own : Bool) (p : Pcb) (field inf : List ℕ) → fits ≡ true → ends ≡ true → field ≡ inf
    → (if fits then (if is_sum then (if ends && is_own then got p field else invalid) else damaged) else invalid)
    ≡ (if is_sum then (if is_own then got p inf else invalid) else damaged)
classed true is_sum true is_own p field inf e f g = rw g refl
classed true is_sum false is_own p field inf e f g = cc
classed false is_sum ends is_own p field inf e f g = cc

class-front : (size nad last : ℕ) (p : Pcb) (inf : List ℕ) → Suits size p inf
    → class_of size (octets nad p inf last)
    ≡ (if xor_of (octets nad p inf last) == 0 then (if nad == 0 then got p inf else invalid) else damaged)
class-front size nad last p inf h =
    let b : List ℕ = octets nad p inf last in
    let len : length b ≡ length inf + 4 = omega (arith, length-append inf (last ∷ [])) in
    let n-is : length inf + 3 ≡ length (front nad p inf) = omega arith in
    let field : drop 3 (take (length inf + 3) b) ≡ inf = ap (λ (k : ℕ). drop 3 (take k b)) n-is
    ∙ ap (λ (l : List ℕ). drop 3 l) (take-append_seam (front nad p inf) (last ∷ [])) in
    let all-is : length inf + 3 + 1 ≡ length b = omega (arith, len) in
    let all : take (length inf + 3 + 1) b ≡ b = ap (λ (k : ℕ). take k b) all-is ∙ take-length b in
    let longer : nat_lt (length inf + 3) (length b) ≡ true = by_lt (length inf + 3) (length b) (omega (arith, len)) in
    let suited : suits size p (drop 3 (take (length inf + 3) b)) ≡ true =
    ap (λ (l : List ℕ). suits size p l) field ∙ true_suits size p inf h in
    ap (λ x. class_with size b (length inf + 3) x) (back p)
    ∙ ap (λ (l : List ℕ).
    if nat_lt (length inf + 3) (length b) && suits size p (drop 3 (take (length inf + 3) b))
    then (if xor_of l == 0
    then (if (length b == length inf + 3 + 1) && (nad == 0) then got p (drop 3 (take (length inf + 3) b)) else invalid)
    else damaged)
    else invalid) all
    ∙ classed (nat_lt (length inf + 3) (length b) && suits size p (drop 3 (take (length inf + 3) b))) (xor_of b == 0)
    (length b == length inf + 3 + 1) (nad == 0) p (drop 3 (take (length inf + 3) b)) inf
    (both_of (nat_lt (length inf + 3) (length b)) (suits size p (drop 3 (take (length inf + 3) b))) longer suited)
    (by_eq (length b) (length inf + 3 + 1) (omega (arith, len))) field

pick : (sum nad : ℕ) (x y z : Came) → sum ≡ 0 → nad ≡ 0 → (if sum == 0 then (if nad == 0 then x else y) else z) ≡ x
pick sum nad x y z e f = rw (e, f) refl

pick-other : (sum : ℕ) (y z : Came) → sum ≡ 0 → (if sum == 0 then y else z) ≡ y
pick-other sum y z e = rw e refl

pick-last : (sum : ℕ) (y z : Came) → sum ≡ 1 → (if sum == 0 then y else z) ≡ z
pick-last sum y z e = rw e refl

pub damaged-sum : (b : List ℕ) → xor_of (b ++ bit_xor (xor_of b) 1 ∷ []) ≡ 1
damaged-sum b =
    fold-append bit_xor 0 b (bit_xor (xor_of b) 1 ∷ []) ∙ sym (xor_assoc (xor_of b) (xor_of b) 1)
    ∙ ap (λ (x : ℕ). bit_xor x 1) (xor_self (xor_of b)) ∙ xor_zero_l 1

-- ---- the block under way

-- what its receiver takes it for
abbrev pub came_of : Change → Parts → Came
came_of Kept v = got v.pcb v.inf
came_of Damaged v = damaged
came_of Spoilt v = invalid

-- a block that is taken has node address 0, and suits its receiver
taken-nad : (size : ℕ) (v : Parts) → IsClass size (spelling v) (got v.pcb v.inf) → v.nad ≡ 0
taken-nad size v h = ap (λ (b : List ℕ). get_or b 0 0) (sym (take-length (spelling v)) ∙ h.1.is)

-- what arrives of a block, whole or changed, is taken for this, where the whole block is taken for itself
pub came : (size : ℕ) (v : Parts) (change : Change) → IsClass size (spelling v) (got v.pcb v.inf)
    → class_of size (arrived (spelling v) (arrival_of change v)) ≡ came_of change v
came size v Kept h =
    class-front size v.nad (xor_of (front_of v)) v.pcb v.inf h.1.proper.suits
    ∙ pick (xor_of (spelling v)) v.nad (got v.pcb v.inf) invalid damaged (spelling-xor v) (taken-nad size v h)
came size v Damaged h =
    class-front size v.nad (bit_xor (xor_of (front_of v)) 1) v.pcb v.inf h.1.proper.suits
    ∙ pick-last (xor_of (damaged_octets v)) (if v.nad == 0 then got v.pcb v.inf else invalid) damaged
    (damaged-sum (front_of v))
came size v Spoilt h =
    let w : Parts = record { nad = 1; pcb = v.pcb; inf = v.inf } in
    class-front size 1 (xor_of (front_of w)) v.pcb v.inf h.1.proper.suits
    ∙ pick-other (xor_of (spelling w)) invalid damaged (spelling-xor w)

-- its line tells what happened to it
own : (nad : ℕ) (x y : Event) → nad ≡ 0 → (if nad == 0 then x else y) ≡ x
own nad x y e = rw e refl

-- the line of a block under way tells the event that made the change
pub told-change : (size : ℕ) (v : Parts) (change : Change) → IsClass size (spelling v) (got v.pcb v.inf)
    → arrival_event (arrival_of change v) ≡ change_event change
told-change size v Kept h = refl
told-change size v Damaged h = own v.nad damages spoils (taken-nad size v h)
told-change size v Spoilt h = refl

-- ---- the octets of a damaged block

-- all octets but the last, and the last one changed
pub damaged-is : (v : Parts) (b : List ℕ) → b ≡ spelling v
    → take (length b - 1) b ++ bit_xor (get_or b (length b - 1) 0) 1 ∷ [] ≡ damaged_octets v
damaged-is v b e =
    let sum : ℕ = xor_of (front_of v) in
    let same-length : length b ≡ length (spelling v) = ap (λ (l : List ℕ). length l) e in
    let len : length b - 1 ≡ length (front_of v) = omega (arith, same-length, length-append v.inf (sum ∷ [])) in
    let before : take (length b - 1) b ≡ front_of v =
    ap (λ (k : ℕ). take k b) len ∙ ap (λ (l : List ℕ). take (length (front_of v)) l) e
    ∙ take-append_seam (front_of v) (sum ∷ []) in
    let last : get_or b (length b - 1) 0 ≡ sum =
    ap (λ (k : ℕ). get_or b k 0) len ∙ ap (λ (l : List ℕ). get_or l (length (front_of v)) 0) e
    ∙ get_or-append_seam (front_of v) sum [] 0 in
    ap (λ (l : List ℕ). l ++ bit_xor (get_or b (length b - 1) 0) 1 ∷ []) before
    ∙ ap (λ (x : ℕ). front_of v ++ bit_xor x 1 ∷ []) last
