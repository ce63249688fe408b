-- Lists that are filled with known values as C gives them.
use Rattle.std.proofs.Common.{◌≡◌, ℕ, ◌+◌, ◌-◌, ◌<◌, ◌≤◌, List, [], ◌∷◌, ◌++◌, length, take, drop, map, get_or, refl, sym, ap, ◌∙◌, arith, append_assoc, Bool, true, false, Result, Ok, Err, IfOk, IfErr}
use Rattle.std.specs.Prelude.{Option, Some, None, IfSome, IfNone, is_some, slice_get, if◌then◌else◌, ◌==◌}
use Rattle.std.proofs.lemmas.List.{length-append, length-replicate, length-drop, length-take, length-map, get_or-map, drop-map, drop-drop, take_all}
use Rattle.std.proofs.Math.Seq.{take-append_seam, drop-append-add}
use denote.Bor.{Bor}
use Rattle.octet_core.specs.Grammar.{whole, Refuses}
use Rattle.octet_core.specs.declared.stop.Stop.{Stop}
use Rattle.octet_core.specs.declared.stop.Stop.TheVariants.{Short, At}
use Rattle.octet_core.specs.declared.format.Format.{Format}
use Rattle.octet_core.specs.declared.format.Format.TheVariants.{Numeric, CompressedNumeric, Other}
use Rattle.tlv_core.specs.Dol.{IsDol, IsDolReason}
use Rattle.tlv_core.specs.Tag.{constructed_bit}
use Rattle.tlv_core.specs.Fill.{fitted, part_of, entry_part, filled, known_for, HasDuplicate}
use Rattle.tlv_core.specs.declared.known.Known.{Known}
use Rattle.tlv_core.specs.declared.reason.DolReason.{DolReason}
use Rattle.tlv_core.proofs.Entries.{Entry, one_dol}
use Rattle.tlv_core.proofs.Knowns.{filled_append, twice, once_more}
use Rattle.c_lent.specs.Verdict.{ok_at}
use Rattle.c_lent.specs.Parts.{tag_of}
use Rattle.c_lent.specs.Fill.{known_seen, Fills, AreFilled}
use Rattle.c_lent.specs.declared.verdict.Verdict.{Verdict}
use Rattle.c_lent.specs.declared.parts.CKnown.{CKnown}
use Rattle.c_lent.proofs.Puts.{verdict-fits, buffer-fits}

-- ---- how long a part is

length-fitted : (format : Format) (n : ℕ) (value : List ℕ) → length (fitted format n value) ≡ n
length-fitted Numeric n value = simp (length-append, length-replicate, length-drop) (omega arith)
length-fitted CompressedNumeric n value = simp (length-append, length-replicate, length-take) (omega arith)
length-fitted Other n value = simp (length-append, length-replicate, length-take) (omega arith)

length-part : (n : ℕ) (known : Option Known) → length (part_of n known) ≡ n
length-part n None = length-replicate n 0
length-part n (Some k) = length-fitted k.format n k.value

length-either : (b : Bool) (n : ℕ) (x y : List ℕ) → length x ≡ n → length y ≡ n → length (if b then x else y) ≡ n
length-either true n x y e f = e
length-either false n x y e f = f

-- the part of an entry has the listed length
pub length-entry : (known : List Known) (e : Entry) → length (entry_part known e) ≡ e.1
length-entry known e = length-either (constructed_bit e.0 == 1) e.1 _ _ (length-replicate e.1 0)
    (length-part e.1 (known_for e.0 known))

-- the parts of one entry more are longer by it
pub length-more : (known : List Known) (given : List Entry) (e : Entry) → length (filled known (given ++ e ∷ []))
    ≡ length (filled known given) + e.1
length-more known given e = ap length (filled_append known given e)
    ∙ length-append (filled known given) (entry_part known e)
    ∙ ap (λ (n : ℕ). length (filled known given) + n) (length-entry known e)

-- ---- what was put twice

-- the octets that were counted first are those that are put
pub fills-put : (list : List ℕ) (known : List Known) (old new before after : List ℕ) (count : ℕ)
    (r : Result ℕ (Stop DolReason)) (v : Verdict) → AreFilled list known before after count
    → IfOk r (AreFilled list known old new) → IfErr r (Refuses whole IsDol IsDolReason list)
    → (HasDuplicate known → ⊥) → count ≤ length old → v ≡ ok_at count → Fills list known old new v
fills-put list known old new before after count (Ok n) v first second err unique room is =
    let same : second.entries ≡ first.entries = one_dol second.entries first.entries list second.spells first.spells in
    let octets : filled known second.entries ≡ filled known first.entries = ap (filled known) same in
    let number : n ≡ count = second.number ∙ ap length octets ∙ sym first.number in
    let fits : length (filled known first.entries) ≤ length old = omega (arith, room, first.number) in
    record {
      entries = first.entries;
      spells = first.spells;
      unique = unique;
      verdict = is ∙ ap ok_at first.number ∙ sym (verdict-fits (filled known first.entries) old fits);
      buffer = second.buffer (omega (arith, number, room))
          ∙ ap (λ (l : List ℕ). l ++ drop n old) octets
          ∙ ap (λ (k : ℕ). filled known first.entries ++ drop k old) (number ∙ first.number)
          ∙ sym (buffer-fits (filled known first.entries) old fits);
    }
fills-put list known old new before after count (Err (Short place)) v first ok short unique room is =
    absurd (short.none first.entries (length list) (refl, first.spells))
fills-put list known old new before after count (Err (At place reason)) v first ok stuck unique room is =
    absurd (stuck.0.none first.entries (length list) (refl, first.spells))

-- ---- known values

-- the values after the first n
rest-seen : (known : List CKnown) (n : ℕ) → map known_seen (take (length known - n) (drop n known))
    ≡ drop n (map known_seen known)
rest-seen known n =
    ap (map known_seen) (take_all (length known - n) (drop n known) (omega (arith, length-drop n known)))
    ∙ sym (drop-map known_seen n known)

found-is : (o : Option (Bor CKnown)) (known : Option Known) → IfSome o (λ one. known ≡ Some (known_seen one.now))
    → IfNone o (known ≡ None) → is_some known ≡ is_some o
found-is None known some none = ap is_some none
found-is (Some one) known some none = ap is_some some

-- what is found with the tag of the value at a place in the values after it
module _ (known : List CKnown) (place : ℕ) (d : CKnown) (tag : List ℕ) (o : Option (Bor CKnown))
    (inside : place < length known) (tag-is : tag ≡ tag_of (get_or known place d).tag)
    (some : IfSome o (λ one. known_for tag (map known_seen (take (length known - (place + 1)) (drop (place + 1) known)))
    ≡ Some (known_seen one.now)))
    (none : IfNone o (known_for tag (map known_seen (take (length known - (place + 1)) (drop (place + 1) known))) ≡
    None))
  where
    abbrev all : List Known
    all = map known_seen known

    abbrev x : Known
    x = known_seen (get_or known place d)

    few : place < length all
    few = omega (arith, inside, length-map known known_seen)

    at : x ≡ get_or all place x
    at = sym (get_or-map known_seen known place d x inside)

    found : is_some (known_for x.tag (drop (place + 1) all)) ≡ is_some o
    found = ap (λ (l : List Known). is_some (known_for x.tag l)) (sym (rest-seen known (place + 1)))
        ∙ ap (λ (t : List ℕ). is_some (known_for t
        (map known_seen (take (length known - (place + 1)) (drop (place + 1) known))))) (sym tag-is)
        ∙ found-is o _ some none

    -- where there is one, a tag is known twice
    pub again : is_some o ≡ true → HasDuplicate (map known_seen known)
    again is = twice all place x few at (found ∙ is)

    -- where there is none, the tag is known once
    pub not-again : is_some o ≡ false
        → ((i : ℕ) (k : Known) → i < place → slice_get (map known_seen known) i ≡ Some k
        → known_for k.tag (drop (i + 1) (map known_seen known)) ≡ None)
        → (i : ℕ) (k : Known) → i < place + 1 → slice_get (map known_seen known) i ≡ Some k
        → known_for k.tag (drop (i + 1) (map known_seen known)) ≡ None
    not-again is before = once_more all place x few at (found ∙ is) before

-- ---- one entry more

-- the part of an entry is put after those before it
pub put-entry : (known : List Known) (given : List Entry) (e : Entry) (old out : List ℕ) (count : ℕ)
    → count ≡ length (filled known given) → out ≡ filled known given ++ drop count old
    → take count out ++ (entry_part known e ++ drop (count + e.1) out)
    ≡ filled known (given ++ e ∷ []) ++ drop (count + e.1) old
put-entry known given e old out count number is =
    let before : List ℕ = filled known given in
    let part : List ℕ = entry_part known e in
    let front : take count out ≡ before = ap (take count) is ∙ ap (λ (n : ℕ). take n (before ++ drop count old)) number
    ∙ take-append_seam before (drop count old) in
    let rest : drop (count + e.1) out ≡ drop (count + e.1) old =
    ap (drop (count + e.1)) is ∙ ap (λ (n : ℕ). drop (n + e.1) (before ++ drop count old)) number
    ∙ drop-append-add before (drop count old) e.1 ∙ drop-drop e.1 count old in
    ap (λ (l : List ℕ). l ++ (part ++ drop (count + e.1) out)) front
    ∙ ap (λ (l : List ℕ). before ++ (part ++ l)) rest
    ∙ sym (append_assoc before part (drop (count + e.1) old))
    ∙ ap (λ (l : List ℕ). l ++ drop (count + e.1) old) (sym (filled_append known given e))
