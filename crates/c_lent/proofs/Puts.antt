-- Octets that are put into a buffer after those before.
use Rattle.std.proofs.Common.{◌≡◌, ℕ, ◌+◌, ◌≤◌, [], ◌∷◌, ◌++◌, List, length, take, drop, set, suc, refl, sym, ap, ◌∙◌, arith, append_assoc}
use Rattle.std.proofs.lemmas.List.{length-take, drop-drop}
use Rattle.std.proofs.Math.Seq.{take-append_seam, drop-append-add}
use Rattle.chain_core.proofs.Writes.{part-all}
use Rattle.std.proofs.Common.{◌<◌, Bool}
use Rattle.std.specs.Prelude.{if◌then◌else◌}
use Rattle.std.proofs.lemmas.Bool.{le-leb, lt-leb}
use Rattle.c_lent.specs.Verdict.{put_verdict, put_into, filled, ok_at, wrong_argument}

module _ (all p rest old out : List ℕ) (i : ℕ) (inside : i ≤ length all) (left : drop i all ≡ p ++ rest)
    (so_far : out ≡ take i all ++ drop i old) where
  front : length (take i all) ≡ i
  front = omega (arith, length-take i all)

  before : take i out ≡ take i all
  before = ap (take i) so_far ∙ ap (λ (k : ℕ). take k (take i all ++ drop i old)) (sym front)
      ∙ take-append_seam (take i all) (drop i old)

  after : drop (i + length p) out ≡ drop (length p) (drop i old)
  after = ap (drop (i + length p)) so_far ∙ ap (λ (k : ℕ). drop (k + length p) (take i all ++ drop i old)) (sym front)
      ∙ drop-append-add (take i all) (drop i old) (length p)

  -- the next octets come after them
  pub put-more : take i out ++ (p ++ drop (i + length p) out) ≡ take (i + length p) all ++ drop (i + length p) old
  put-more =
      ap (λ (l : List ℕ). l ++ (p ++ drop (i + length p) out)) before
      ∙ ap (λ (l : List ℕ). take i all ++ (p ++ l)) (after ∙ drop-drop (length p) i old)
      ∙ sym (append_assoc (take i all) p (drop (i + length p) old))
      ∙ ap (λ (l : List ℕ). l ++ drop (i + length p) old) (sym (part-all all p rest i inside left))

-- what is put where there is room, and where there isn't
pub verdict-fits : {A : Type 0} (given buffer : List A) → length given ≤ length buffer
    → put_verdict given buffer ≡ ok_at (length given)
verdict-fits given buffer h = ap (λ (b : Bool). if b then ok_at (length given) else wrong_argument (length given))
    (le-leb (length given) (length buffer) h)

-- where there is too little room, C is told how much is needed
pub verdict-lacks : {A : Type 0} (given buffer : List A) → length buffer < length given
    → put_verdict given buffer ≡ wrong_argument (length given)
verdict-lacks given buffer h = ap (λ (b : Bool). if b then ok_at (length given) else wrong_argument (length given))
    (lt-leb (length given) (length buffer) h)

-- where there is room, the buffer holds what was put in, and what was after it
pub buffer-fits : {A : Type 0} (given buffer : List A) → length given ≤ length buffer → put_into given buffer ≡ given
    ++ drop (length given) buffer
buffer-fits given buffer h = ap (λ (b : Bool). if b then given ++ drop (length given) buffer else buffer)
    (le-leb (length given) (length buffer) h)

-- where there is too little, it stays
pub buffer-lacks : {A : Type 0} (given buffer : List A) → length buffer < length given → put_into given buffer ≡ buffer
buffer-lacks given buffer h = ap (λ (b : Bool). if b then given ++ drop (length given) buffer else buffer)
    (lt-leb (length given) (length buffer) h)

filled-more : {A : Type 0} (given array : List A) (x : A) → length given < length array
    → set (filled given array) (length given) x ≡ filled (given ++ x ∷ []) array
filled-more [] [] x lt = absurd (omega (arith, lt))
filled-more [] (y ∷ array) x lt = refl
filled-more (z ∷ given) [] x lt = absurd (omega (arith, lt))
filled-more {A} (z ∷ given) (y ∷ array) x lt =
    ap (λ (l : List A). z ∷ l) (filled-more given array x (omega (arith, lt)))

filled-full : {A : Type 0} (given array : List A) (x : A) → length array ≤ length given
    → filled given array ≡ filled (given ++ x ∷ []) array
filled-full [] [] x le = refl
filled-full [] (y ∷ array) x le = absurd (omega (arith, le))
filled-full (z ∷ given) [] x le = refl
filled-full {A} (z ∷ given) (y ∷ array) x le =
    ap (λ (l : List A). z ∷ l) (filled-full given array x (omega (arith, le)))

length-filled : {A : Type 0} (given array : List A) → length (filled given array) ≡ length array
length-filled [] array = refl
length-filled (x ∷ given) [] = refl
length-filled (x ∷ given) (y ∷ array) = ap suc (length-filled given array)

filled-fits : {A : Type 0} (given array : List A) → length given ≤ length array → filled given array ≡ given
    ++ drop (length given) array
filled-fits [] array le = refl
filled-fits (x ∷ given) [] le = absurd (omega (arith, le))
filled-fits {A} (x ∷ given) (y ∷ array) le = ap (λ (l : List A). x ∷ l) (filled-fits given array (omega (arith, le)))

-- where there is room for all, they are put into the array
pub filled-put : {A : Type 0} (given array : List A) → length given ≤ length array
    → filled given array ≡ put_into given array
filled-put given array le = filled-fits given array le ∙ sym (buffer-fits given array le)

-- so many were put into an array as far as it has room, and one more comes
module _ {A : Type 0} (given old out now : List A) (i : ℕ) (x : A) (so_far : out ≡ filled given old)
    (number : i ≡ length given) where
  size : length out ≡ length old
  size = ap length so_far ∙ length-filled given old

  -- it is put there where there is room
  pub put-next : i < length out → now ≡ set out i x → now ≡ filled (given ++ x ∷ []) old
  put-next lt is = is ∙ ap (λ (l : List A). set l i x) so_far ∙ ap (λ (n : ℕ). set (filled given old) n x) number
      ∙ filled-more given old x (omega (arith, size, number, lt))

  -- and is left out where there is none
  pub left-out : length out ≤ i → now ≡ out → now ≡ filled (given ++ x ∷ []) old
  left-out le is = is ∙ so_far ∙ filled-full given old x (omega (arith, size, number, le))
