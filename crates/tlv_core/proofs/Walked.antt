-- The parts that a walk over octets has given.
use Rattle.std.proofs.Common.{◌≡◌, ℕ, ◌+◌, ◌-◌, ◌<◌, ◌≤◌, List, [], ◌∷◌, ◌++◌, length, zero, suc, take, drop, get_or, refl, sym, ap, subst, ◌∙◌, arith, append-nil, append_assoc}
use Rattle.std.specs.Prelude.{Option, Some, None}
use Rattle.std.proofs.lemmas.List.{length-take, length-drop, take_more, take_all, take-append-drop}
use Rattle.octet_core.specs.Octets.{AreOctets}
use Rattle.octet_core.specs.Grammar.{Refuses, IsFirst, IsShort, whole}
use Rattle.octet_core.specs.declared.stop.Stop.TheVariants.{At}
use Rattle.octet_core.proofs.Lists.{octets-take, octets-drop}
use Rattle.tlv_core.specs.declared.header.ObjectHeader.{ObjectHeader}
use Rattle.tlv_core.specs.declared.header.Next.{Next}
use Rattle.tlv_core.specs.declared.header.Next.TheVariants as next
use Rattle.tlv_core.specs.declared.reason.TlvReason.{TlvReason}
use Rattle.tlv_core.specs.Tree.{End}
use Rattle.tlv_core.specs.Forest.{IsForest}
use Rattle.tlv_core.specs.Parts.{Placed, preorder}
use Rattle.tlv_core.specs.Reasons.{Kept, HasTaken, IsIdle, IsReason, tlv_reasons}
use Rattle.tlv_core.specs.Tag.{constructed_bit}
use Rattle.tlv_core.specs.Header.{object_in}
use Rattle.tlv_core.specs.Steps.{after_octet, entered, after_next, after_run, IsStep, IsWrongAfter}
use Rattle.tlv_core.specs.Grown.{Opened, ValueSoFar, AreOpen, HasGrown}
use Rattle.tlv_core.specs.Flat.{placed_from, placed_in, placed_list, placed, HasGiven, AreAllParts}
use Rattle.tlv_core.proofs.Stands.{Nothing}
use Rattle.tlv_core.proofs.Taken.{taken_of}
use Rattle.tlv_core.proofs.Fed.{take_taken_more, busy_end}
use Rattle.tlv_core.proofs.Advances.{take_taken, skip_taken, refuses_next}
use Rattle.tlv_core.proofs.Grows.{idle_grown, none_under}
use Rattle.tlv_core.proofs.Flattening.{Grew, placed_next, octet_grew, run_grew}

split_at : (b : List ℕ) (i : ℕ) → i < length b → b ≡ take i b ++ get_or b i 0 ∷ drop (i + 1) b
split_at b i lt = sym (take-append-drop (i + 1) b) ∙ ap (λ (l : List ℕ). l ++ drop (i + 1) b) (take_more b i 0 lt)
    ∙ append_assoc (take i b) (get_or b i 0 ∷ []) (drop (i + 1) b)

-- before the first octet
pub given_none : (max : ℕ) (k : Kept) (b : List ℕ)
    → k ≡ record { max = max; count = 0; rooms = []; header = []; value_left = 0 } → HasGiven b k []
given_none max k b is =
    subst (λ (l : Kept). HasGiven b l []) (sym is)
    (record {
      within = omega arith;
      taken = taken_of max [] [] Nothing (omega arith) (record { done = End; proper = tt; is = refl }) (omega arith)
          (omega arith);
      tree = record { opened = []; list = End; value = None };
      grown = record { opened = refl; proper = tt; under = refl };
      are = refl;
    })

-- what grew, with its parts
pub given_grew : (b : List ℕ) (k : Kept) (now : List ℕ) (all parts : List Placed) → k.count ≤ length b
    → now ≡ take k.count b → HasTaken now k → Grew now k all → parts ≡ all → HasGiven b k parts
given_grew b k now all parts le is taken g e =
    record {
      within = le;
      taken = subst (λ (l : List ℕ). HasTaken l k) is taken;
      tree = g.tree;
      grown = subst (λ (l : List ℕ). HasGrown l k g.tree) is g.grown;
      are = e ∙ sym g.placed_is;
    }

-- a run of a value gives no part
pub given_run : (b : List ℕ) (k : Kept) (parts : List Placed) (m : ℕ) → AreOctets b → 0 < m → m ≤ k.value_left
    → m ≤ length b - k.count → HasGiven b k parts → HasGiven b (after_run k m) parts
given_run b k parts m octets some le fits h =
    let add = take m (drop k.count b) in
    let len : length add ≡ m = omega (arith, length-take m (drop k.count b), length-drop k.count b) in
    let add_octets : AreOctets add = octets-take m (drop k.count b) (octets-drop k.count b octets) in
    given_grew b (after_run k m) (take k.count b ++ add) (placed h.tree) parts (omega (arith, h.within))
    (take_taken_more k.count m b) (skip_taken (take k.count b) k m add len add_octets some le h.taken)
    (run_grew (take k.count b) k m add h.tree h.taken len add_octets some le h.grown) h.are

entered_count : (k : Kept) (n bit : ℕ) → (entered k n bit).count ≡ k.count
entered_count k zero bit = refl
entered_count k (suc n) zero = refl
entered_count k (suc n) (suc bit) = refl

-- an octet counts as one, whatever it makes of the header
pub after_count : (k : Kept) (next : Next) → (after_next k next).count ≡ k.count + 1
after_count k next.Filler = refl
after_count k (next.Under longer) = refl
after_count k (next.Object o) = entered_count (after_octet k []) o.len (constructed_bit o.tag)

-- an octet gives the object whose header it makes whole
pub given_octet : (b : List ℕ) (k : Kept) (parts : List Placed) (next : Next) → k.count < length b → k.value_left ≡ 0
    → IsStep k (get_or b k.count 0) next → HasGiven b k parts
    → HasGiven b (after_next k next) (parts ++ placed_next (1 + length k.rooms) (k.count + 1) next)
given_octet b k parts next lt z step h =
    let x = get_or b k.count 0 in
    let more = placed_next (1 + length k.rooms) (k.count + 1) next in
    let count = after_count k next in
    let is : take k.count b ++ x ∷ [] ≡ take (after_next k next).count b =
    sym (take_more b k.count 0 lt) ∙ ap (λ (n : ℕ). take n b) (sym count) in
    given_grew b (after_next k next) (take k.count b ++ x ∷ []) (placed h.tree ++ more) (parts ++ more)
    (omega arith) is
    (take_taken (take k.count b) k x next z step h.taken)
    (octet_grew (take k.count b) k x next h.tree h.taken z step h.grown)
    (ap (λ (l : List Placed). l ++ more) h.are)

-- the same depth, place and header
pub same_placed : (d e p q : ℕ) (o r : ObjectHeader) → d ≡ e → p ≡ q → o ≡ r → placed_from d p o ≡ placed_from e q r
same_placed d e p q o r depth place header =
    ap (λ (x : ℕ). placed_from x p o) depth ∙ ap (λ (x : ℕ). placed_from e x o) place
    ∙ ap (λ (x : ObjectHeader). placed_from e q x) header

some_none : (o : ObjectHeader) → Some o ≡ None → ⊥
some_none o e = cc

same_some : (p o : ObjectHeader) → Some p ≡ Some o → p ≡ o
same_some p o e = cc

-- where an octet makes the header of an object whole, that one is given
pub next_object : (d count : ℕ) (next : Next) (o : ObjectHeader) → object_in next ≡ Some o
    → placed_next d count next ≡ placed_from d count o ∷ []
next_object d count next.Filler o is = absurd (some_none o (sym is))
next_object d count (next.Under longer) o is = absurd (some_none o (sym is))
next_object d count (next.Object p) o is =
    ap (λ (q : ObjectHeader). placed_from d count q ∷ []) (same_some p o is)

-- each other octet that may come gives none
pub next_other : (d count : ℕ) (next : Next) → object_in next ≡ None → placed_next d count next ≡ []
next_other d count next.Filler is = refl
next_other d count (next.Under longer) is = refl
next_other d count (next.Object o) is = absurd (some_none o is)

-- an octet is refused at its place, for the first line of the table that it meets
pub given_refused : (b : List ℕ) (k : Kept) (parts : List Placed) (r : TlvReason) → k.count < length b
    → k.value_left ≡ 0 → IsFirst tlv_reasons (IsWrongAfter k (get_or b k.count 0)) r → HasGiven b k parts
    → Refuses whole (IsForest k.max) (IsReason k.max) b (At k.count r)
given_refused b k parts r lt z first h =
    let x = get_or b k.count 0 in
    subst (λ (l : List ℕ). Refuses whole (IsForest k.max) (IsReason k.max) l (At k.count r))
    (sym (split_at b k.count lt)) (refuses_next (take k.count b) k x (drop (k.count + 1) b) r z first h.taken)

-- ---- the end

none_open_of : (opened : List Opened) (rooms inner b : List ℕ) → AreOpen 1 opened rooms inner b → rooms ≡ []
    → opened ≡ []
none_open_of [] rooms inner b h e = refl
none_open_of (o ∷ opened) [] inner b h e = absurd h
none_open_of (o ∷ opened) (room ∷ rooms) inner b h e = absurd (omega (arith, ap length e))

-- where nothing is under way at the end, the octets are a forest, and all its parts were given
pub given_all : (b : List ℕ) (k : Kept) (parts : List Placed) → HasGiven b k parts → length b ≤ k.count → IsIdle k
    → AreAllParts k.max b parts
given_all b k parts h le idle =
    let g = h.tree in
    let all : take k.count b ≡ b = take_all k.count b le in
    let none = none_open_of g.opened k.rooms _ (take k.count b) h.grown.opened idle.0 in
    let value = none_under (1 + length k.rooms) g.value k.header k.value_left h.grown.under idle.2 in
    record {
      tree = g.list;
      forest = subst (IsForest k.max g.list) all (idle_grown (take k.count b) k g h.taken h.grown idle);
      are = h.are ∙ ap (λ (l : List Opened). placed_in 1 0 l (placed_list g.list g.value)) none
          ∙ ap (λ (v : Option ValueSoFar). placed_list g.list v 1 0) value ∙ append-nil (preorder 1 0 g.list);
    }

-- where something is, the octets are short
pub given_short : (b : List ℕ) (k : Kept) (parts : List Placed) → HasGiven b k parts → length b ≤ k.count
    → (IsIdle k → ⊥) → IsShort whole (IsForest k.max) b k.count
given_short b k parts h le busy =
    let all : take k.count b ≡ b = take_all k.count b le in
    subst (λ (l : List ℕ). IsShort whole (IsForest k.max) l k.count) all
    (busy_end (take k.count b) k h.taken busy)
