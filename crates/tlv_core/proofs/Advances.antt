-- The steps of a check: an octet of a header or a filler, a run of a value, and an octet that is refused.
use Rattle.std.proofs.Common.{◌≡◌, ◌⊎◌, ℕ, ◌+◌, ◌-◌, ◌<◌, ◌≤◌, List, [], ◌∷◌, ◌++◌, length, take, refl, sym, ap, subst, ◌∙◌, inl, inr, arith, suc, zero, append-nil, append_assoc, length-append}
use Rattle.std.proofs.lemmas.Bool.{cases_lt, cases_eq}
use Rattle.octet_core.specs.Octets.{AreOctets}
use Rattle.octet_core.specs.Grammar.{IsFirst, Begins, RefusesAt, whole}
use Rattle.octet_core.proofs.Lists.{octets-append}
use Rattle.tlv_core.specs.declared.form.Form.{Form}
use Rattle.tlv_core.specs.declared.header.Header.{Header}
use Rattle.tlv_core.specs.declared.header.Next.{Next}
use Rattle.tlv_core.specs.declared.header.Next.TheVariants as next
use Rattle.tlv_core.specs.declared.reason.TlvReason.{TlvReason}
use Rattle.tlv_core.specs.Tag.{IsTag, constructed_bit, header_of}
use Rattle.tlv_core.specs.Form.{capacity}
use Rattle.tlv_core.specs.Tree.{Tree, End, Filler, Primitive}
use Rattle.tlv_core.specs.Forest.{spelling, IsObject, IsForest, deepest}
use Rattle.tlv_core.specs.Header.{header_octets, IsWell, header_need, next_need}
use Rattle.tlv_core.specs.Reasons.{EndsIn, Opens, Kept, HasTaken, room_of, IsWrong, IsReason, IsBegun, EndsInHeader, tlv_reasons}
use Rattle.tlv_core.specs.Steps.{spent, after_octet, entered, after_next, after_run, IsStep, IsWrongAfter}
use Rattle.tlv_core.proofs.Numbers.{octets_nil}
use Rattle.octet_core.specs.declared.stop.Stop.TheVariants.{At}
use Rattle.std.proofs.Math.Seq.{take-append_seam}
use Rattle.tlv_core.specs.declared.header.Header.TheVariants as header
use Rattle.tlv_core.proofs.One.{header_not_zero}
use Rattle.tlv_core.proofs.Refused.{refused}
use Rattle.tlv_core.proofs.Verdict.{partial_not_zero, reason_meets}
use Rattle.tlv_core.proofs.Stands.{Under, Nothing, First, Second, Tagged, Sized, Valued, IsUnder, IsHeader, under_octets, under_need, FitsIn, fits_need, opens_depth, of_zeros, bit_cases}
use Rattle.tlv_core.proofs.Completion.{under_begun}
use Rattle.tlv_core.proofs.Taken.{kept_at, Held, held_of}
use Rattle.tlv_core.proofs.Taking.{under_of, octets_under, well_under, need_under, some_need, kept_under, held_header, held_count, shallow_at, ends_more, taken_item, taken_under, taken_open}

-- ---- an octet of a header

-- all that is known where an octet of a header comes
pub record Before (b : List ℕ) (k : Kept) (x : ℕ) (next : Next) : Type 0 where
  pub held : Held b k
  pub header : under_octets held.under ≡ k.header
  pub is_header : IsHeader held.under
  pub room : next_need next < room_of (k.max - length b) k.rooms

-- all this follows from what was taken, where no value is under way and the octet may come
pub before_of : (b : List ℕ) (k : Kept) (x : ℕ) (next : Next) → HasTaken b k → k.value_left ≡ 0 → IsStep k x next
    → Before b k x next
before_of b k x next h z step =
    let s = held_of b k h in
    let under = held_header k (1 + length k.rooms) k.max (length b) k.rooms s.under s.ok s.is z in
    record {
      held = s;
      header = sym under.header;
      is_header = under.is_header;
      room = subst (λ (n : ℕ). next_need next < room_of (k.max - n) k.rooms) (held_count b k s) step.room;
    }

-- the list stands at one of the depths of objects
pub depth_of : (b : List ℕ) (k : Kept) (x : ℕ) (next : Next) (p : Before b k x next) → IsStep k x next
    → (x ≡ 0 → k.header ≡ [] → ⊥) → 1 + length k.rooms ≤ deepest
depth_of b k x next p step object =
    shallow_at (1 + length k.rooms) p.held.under p.held.ok p.is_header (λ empty.
    let none : k.header ≡ [] = sym p.header ∙ empty in
    let most : 1 + length k.rooms ≤ 17 = opens_depth k.rooms 1 (under_octets p.held.under) b (omega arith) p.held.opens
    in
    elim (cases_eq (length k.rooms) 16) [
      | inl full ↦ absurd (object (step.shallow none full) none)
      | inr room ↦ omega arith
    ])

is_header_of : (longer : Header) → IsHeader (under_of longer)
is_header_of header.Nothing = tt
is_header_of (header.First first) = tt
is_header_of (header.Second first second) = tt
is_header_of (header.Tagged tag) = tt
is_header_of (header.Sized tag form read number) = tt

-- a part of a header is one
pub begun_of : (longer : Header) → IsWell longer → IsBegun (header_octets longer)
begun_of longer well = subst IsBegun (octets_under longer)
    (under_begun (under_of longer) 1 (well_under longer 1 well (omega arith)) (is_header_of longer))

zero_of : (h : List ℕ) (x : ℕ) → x ≡ 0 → h ≡ [] → h ++ x ∷ [] ≡ 0 ∷ []
zero_of h x z empty = ap (λ (l : List ℕ). l ++ x ∷ []) empty ∙ ap (λ (y : ℕ). y ∷ []) z

-- the octet 00 alone is no part of a header
pub not_filler : (h : List ℕ) (x : ℕ) (longer : Header) → IsWell longer → header_octets longer ≡ h ++ x ∷ [] → x ≡ 0
    → h ≡ [] → ⊥
not_filler h x longer well e z empty = partial_not_zero (header_octets longer) [] (inl (begun_of longer well))
    (e ∙ zero_of h x z empty)

-- nor is it the header of an object
pub object_not_filler : (h : List ℕ) (x : ℕ) (tag : List ℕ) (form : Form) (n : ℕ) → IsTag tag → header_of tag form n ≡ h
    ++ x ∷ [] → x ≡ 0 → h ≡ [] → ⊥
object_not_filler h x tag form n is_tag e z empty =
    header_not_zero tag form n [] [] is_tag (append-nil (header_of tag form n) ∙ e ∙ zero_of h x z empty)

not_empty : (h : List ℕ) (x : ℕ) (l : List ℕ) → l ≡ h ++ x ∷ [] → l ≡ [] → ⊥
not_empty h x l e n = omega (arith, ap length (sym e ∙ n), length-append h (x ∷ []))

filler_taken : (b : List ℕ) (k : Kept) (x : ℕ) → Before b k x next.Filler → (k.header ≡ []) × (x ≡ 0)
    → HasTaken (b ++ x ∷ []) (after_next k next.Filler)
filler_taken b k x p e = taken_item b k 1 (x ∷ []) p.held (Filler End) refl (omega (arith, p.room)) tt
    (ap (λ (l : List ℕ). l ++ x ∷ []) p.header ∙ zero_of k.header x e.1 e.0)

under_taken : (b : List ℕ) (k : Kept) (x : ℕ) (longer : Header) → Before b k x (next.Under longer) → IsWell longer
    × (header_octets longer ≡ k.header ++ x ∷ []) → 1 + length k.rooms ≤ deepest
    → HasTaken (b ++ x ∷ []) (after_next k (next.Under longer))
under_taken b k x longer p e deep =
    let u = under_of longer in
    let need_is : under_need u ≡ header_need longer = need_under longer e.0 in
    let some : 0 < header_need longer = some_need longer e.0 (not_empty k.header x (header_octets longer) e.1) in
    let octets : under_octets p.held.under ++ x ∷ [] ≡ under_octets u =
    ap (λ (l : List ℕ). l ++ x ∷ []) p.header ∙ sym e.1 ∙ sym (octets_under longer) in
    subst (HasTaken (b ++ x ∷ [])) (kept_under k.max (k.count + 1) (spent 1 k.rooms) longer)
    (taken_under b k 1 (x ∷ []) p.held u refl (omega (arith, need_is, p.room)) (omega (arith, need_is))
    (well_under longer (1 + length k.rooms) e.0 deep)
    (λ v ends. ends_more (1 + length k.rooms) x (under_octets p.held.under) (under_octets u) v ends octets))

-- the object as it is to be
abbrev IsHeaderOf : Kept → ℕ → List ℕ → Form → ℕ → Type 0
IsHeaderOf k x tag form n = IsTag tag × (n < capacity form) × (header_of tag form n ≡ k.header ++ x ∷ [])

object_taken : (b : List ℕ) (k : Kept) (x : ℕ) (tag : List ℕ) (form : Form) (n bit : ℕ)
    → Before b k x (next.Object (record { tag = tag; form = form; len = n })) → IsHeaderOf k x tag form n
    → 1 + length k.rooms ≤ deepest → constructed_bit tag ≡ bit → (bit ≡ 0) ⊎ (bit ≡ 1)
    → HasTaken (b ++ x ∷ []) (entered (after_octet k []) n bit)
object_taken b k x tag form zero bit p e deep is either =
    let o = of_zeros (1 + length k.rooms) tag form 0 deep e.0 e.1 in
    let octets : under_octets p.held.under ++ x ∷ [] ≡ spelling o.list =
    ap (λ (l : List ℕ). l ++ x ∷ []) p.header ∙ sym e.2 ∙ sym (append-nil (header_of tag form 0)) ∙ sym o.is in
    taken_item b k 1 (x ∷ []) p.held o.list refl (omega (arith, p.room)) o.proper octets
object_taken b k x tag form (suc n) zero p e deep is either =
    let u = Valued tag form [] (suc n) in
    let plus : suc n ≡ 0 + suc n = omega arith in
    let octets : under_octets p.held.under ++ x ∷ [] ≡ under_octets u =
    ap (λ (l : List ℕ). l ++ x ∷ []) p.header ∙ sym e.2 ∙ ap (header_of tag form) plus
    ∙ sym (append-nil (header_of tag form (0 + suc n))) in
    let object : IsObject (1 + length k.rooms) 0 tag form (suc n) =
    record { depth = deep; is_tag = e.0; is_bit = is; fits = e.1 } in
    taken_under b k 1 (x ∷ []) p.held u refl (omega (arith, p.room)) (omega arith)
    (subst (IsObject (1 + length k.rooms) 0 tag form) plus object, octets_nil, omega arith)
    (λ v ends. ends_more (1 + length k.rooms) x (under_octets p.held.under) (under_octets u) v ends octets)
object_taken b k x tag form (suc n) (suc bit) p e deep is either =
    let one : suc bit ≡ 1 = elim either [ inl z ↦ absurd (omega arith) | inr o ↦ o ] in
    let octets : under_octets p.held.under ++ x ∷ [] ≡ header_of tag form (suc n) =
    ap (λ (l : List ℕ). l ++ x ∷ []) p.header ∙ sym e.2 in
    taken_open b k x p.held tag form (suc n) (omega arith) p.room
    (record { depth = deep; is_tag = e.0; is_bit = is ∙ one; fits = e.1 }) octets

next_taken : (b : List ℕ) (k : Kept) (x : ℕ) (next : Next) → HasTaken b k → k.value_left ≡ 0 → IsStep k x next
    → HasTaken (b ++ x ∷ []) (after_next k next)
next_taken b k x next.Filler h z step = filler_taken b k x (before_of b k x next.Filler h z step) step.follows
next_taken b k x (next.Under longer) h z step =
    let p = before_of b k x (next.Under longer) h z step in
    under_taken b k x longer p step.follows
    (depth_of b k x (next.Under longer) p step (not_filler k.header x longer step.follows.0 step.follows.1))
next_taken b k x (next.Object o) h z step =
    let p = before_of b k x (next.Object o) h z step in
    object_taken b k x o.tag o.form o.len (constructed_bit o.tag) p step.follows
    (depth_of b k x (next.Object o) p step
    (object_not_filler k.header x o.tag o.form o.len step.follows.0 step.follows.2)) refl (bit_cases o.tag)

-- an octet that may come is taken, where no value is under way
pub take_taken : (b : List ℕ) (k : Kept) (x : ℕ) (next : Next) → k.value_left ≡ 0 → IsStep k x next → HasTaken b k
    → HasTaken (b ++ x ∷ []) (after_next k next)
take_taken b k x next z step h = next_taken b k x next h z step

-- ---- a run of a value

part_of : (d m : ℕ) (tag : List ℕ) (form : Form) (value add v : List ℕ) (left : ℕ) → length add ≡ m → m ≤ left
    → EndsIn d (under_octets (Valued tag form value left)) v
    → EndsIn d (under_octets (Valued tag form (value ++ add) (left - m))) (v ++ add)
part_of d m tag form value add v left len le ends =
    let same : length value + left ≡ length (value ++ add) + (left - m) = omega (arith, length-append value add) in
    record {
      done = ends.done;
      proper = ends.proper;
      is = ap (λ (l : List ℕ). l ++ add) ends.is
          ∙ append_assoc (spelling ends.done) (header_of tag form (length value + left) ++ value) add
          ∙ ap (λ (l : List ℕ). spelling ends.done ++ l)
          (append_assoc (header_of tag form (length value + left)) value add)
          ∙ ap (λ (n : ℕ). spelling ends.done ++ (header_of tag form n ++ (value ++ add))) same;
    }

run_taken : (b : List ℕ) (k : Kept) (m : ℕ) (add : List ℕ) (s : Held b k) (u : Under) → s.under ≡ u → length add ≡ m
    → AreOctets add → 0 < m → m ≤ k.value_left → HasTaken (b ++ add) (after_run k m)
run_taken b k m add s Nothing e len octets some le =
    absurd (omega (arith, ap (λ (j : Kept). j.value_left) (s.is ∙ ap (kept_at k.max (length b) k.rooms) e)))
run_taken b k m add s (First x) e len octets some le =
    absurd (omega (arith, ap (λ (j : Kept). j.value_left) (s.is ∙ ap (kept_at k.max (length b) k.rooms) e)))
run_taken b k m add s (Second x y) e len octets some le =
    absurd (omega (arith, ap (λ (j : Kept). j.value_left) (s.is ∙ ap (kept_at k.max (length b) k.rooms) e)))
run_taken b k m add s (Tagged tag) e len octets some le =
    absurd (omega (arith, ap (λ (j : Kept). j.value_left) (s.is ∙ ap (kept_at k.max (length b) k.rooms) e)))
run_taken b k m add s (Sized tag form more) e len octets some le =
    absurd (omega (arith, ap (λ (j : Kept). j.value_left) (s.is ∙ ap (kept_at k.max (length b) k.rooms) e)))
run_taken b k m add s (Valued tag form value left) e len octets some le =
    let left_is : k.value_left ≡ left = ap (λ (j : Kept). j.value_left) (s.is ∙ ap (kept_at k.max (length b) k.rooms) e)
    in
    let ok : IsUnder (1 + length k.rooms) (Valued tag form value left) = subst (IsUnder (1 + length k.rooms)) e s.ok in
    let fits : left ≤ room_of (k.max - length b) k.rooms =
    fits_need k.rooms (k.max - length b) left
    (subst (λ (w : Under). FitsIn (k.max - length b) k.rooms (under_need w)) e s.fits) in
    let header_is : k.header ≡ [] = ap (λ (j : Kept). j.header) (s.is ∙ ap (kept_at k.max (length b) k.rooms) e) in
    let done : HasTaken (b ++ add) (record
    { max = k.max; count = k.count + m; rooms = spent m k.rooms; header = []; value_left = k.value_left - m })
    → HasTaken (b ++ add) (after_run k m) =
    subst (λ (l : List ℕ). HasTaken (b ++ add)
    (record {
      max = k.max;
      count = k.count + m;
      rooms = spent m k.rooms;
      header = l;
      value_left =
          k.value_left - m;
    })) (sym header_is) in
    let all : AreOctets (value ++ add) = octets-append value add ok.1 octets in
    let total : (j : ℕ) → m ≤ j → length value + j ≡ length (value ++ add) + (j - m) =
    λ j h. omega (arith, length-append value add) in
    elim (cases_lt m left) [
      | inl lt ↦
          let rest : left - m ≡ k.value_left - m = omega arith in
          let ok' : IsUnder (1 + length k.rooms) (Valued tag form (value ++ add) (left - m)) =
          (subst (IsObject (1 + length k.rooms) 0 tag form) (total left (omega arith)) ok.0, all, omega arith) in
          let inner : (v : List ℕ) → EndsIn (1 + length k.rooms) (under_octets s.under) v
          → EndsIn (1 + length k.rooms) (under_octets (Valued tag form (value ++ add) (left - m))) (v ++ add) =
          λ v ends.
          part_of (1 + length k.rooms) m tag form value add v left len (omega arith)
          (subst (λ (w : Under). EndsIn (1 + length k.rooms) (under_octets w) v) e ends) in
          done
          (
          subst (λ (n : ℕ). HasTaken (b ++ add)
          (record { max = k.max; count = k.count + m; rooms = spent m k.rooms; header = []; value_left = n })) rest
          (taken_under b k m add s (Valued tag form (value ++ add) (left - m)) len (omega arith) (omega arith) ok'
          inner)
          )
      | inr ge ↦
          let last : m ≡ left = omega (arith, left_is) in
          let rest : 0 ≡ k.value_left - m = omega (arith, left_is) in
          let full : length value + left ≡ length (value ++ add) = omega (arith, length-append value add) in
          let item : Tree = Primitive tag form (value ++ add) End in
          let octets_is : under_octets s.under ++ add ≡ spelling item =
          ap (λ (w : Under). under_octets w ++ add) e
          ∙ append_assoc (header_of tag form (length value + left)) value add
          ∙ ap (λ (n : ℕ). header_of tag form n ++ (value ++ add)) full
          ∙ ap (λ (l : List ℕ). header_of tag form (length (value ++ add)) ++ l) (sym (append-nil (value ++ add))) in
          done
          (
          subst (λ (n : ℕ). HasTaken (b ++ add)
          (record { max = k.max; count = k.count + m; rooms = spent m k.rooms; header = []; value_left = n })) rest
          (taken_item b k m add s item len (omega arith)
          (subst (IsObject (1 + length k.rooms) 0 tag form) full ok.0, all, tt) octets_is)
          )
    ]

-- a run of the value under way is taken, where as many octets of it are still to come
pub skip_taken : (b : List ℕ) (k : Kept) (m : ℕ) (add : List ℕ) → length add ≡ m → AreOctets add → 0 < m
    → m ≤ k.value_left → HasTaken b k → HasTaken (b ++ add) (after_run k m)
skip_taken b k m add len octets some le h = let s =
    held_of b k h in run_taken b k m add s s.under refl len octets some le

-- ---- an octet that is refused

-- the first line of the table that the next octet meets is its reason, where no value is under way
pub refused_taken : (b : List ℕ) (k : Kept) (x : ℕ) (r : TlvReason) → k.value_left ≡ 0
    → IsFirst tlv_reasons (IsWrongAfter k x) r → HasTaken b k → IsReason k.max r (b ++ x ∷ [])
refused_taken b k x r z first h =
    let s = held_of b k h in
    let under = held_header k (1 + length k.rooms) k.max (length b) k.rooms s.under s.ok s.is z in
    let count : k.count ≡ length b = held_count b k s in
    let ends : EndsInHeader (b ++ x ∷ []) =
    record {
      before = b;
      octet = x;
      rooms = k.rooms;
      header = k.header;
      is = refl;
      opens =
          subst (λ (l : List ℕ). Opens 1 k.rooms l b) (sym under.header) s.opens;
      begun =
          subst IsBegun (sym under.header) (under_begun s.under (1 + length k.rooms) s.ok under.is_header);
    } in (
      ends,
      subst (λ (n : ℕ). IsFirst tlv_reasons (IsWrong (length k.rooms) (room_of (k.max - n) k.rooms) k.header x) r)
          count first,
    )

-- where b was taken, and the next octet is refused, that is the verdict on all that begins so
pub refuses_next : (b : List ℕ) (k : Kept) (x : ℕ) (more : List ℕ) (r : TlvReason) → k.value_left ≡ 0
    → IsFirst tlv_reasons (IsWrongAfter k x) r → HasTaken b k
    → RefusesAt whole (IsForest k.max) (IsReason k.max) (b ++ x ∷ more) (At k.count r)
refuses_next b k x more r z first h =
    let reason : IsReason k.max r (b ++ x ∷ []) = refused_taken b k x r z first h in
    let all = b ++ x ∷ more in
    let split_at : all ≡ (b ++ x ∷ []) ++ more = sym (append_assoc b (x ∷ []) more) in
    let place : k.count ≡ length b = sym h.count in
    let before_is : take k.count all ≡ b = ap (λ (n : ℕ). take n all) place ∙ take-append_seam b (x ∷ more) in
    let with_is : take (k.count + 1) all ≡ b ++ x ∷ [] =
    ap (take (k.count + 1)) split_at ∙ ap (λ (n : ℕ). take n ((b ++ x ∷ []) ++ more))
    (omega (arith, length-append b (x ∷ []))) ∙ take-append_seam (b ++ x ∷ []) more in
    let stuck : Begins (IsForest k.max) (b ++ x ∷ []) → ⊥ =
    refused k.max (b ++ x ∷ []) r (reason_meets k.max r (b ++ x ∷ []) reason) in (
      record {
        none = λ t n a. stuck (t, more, subst (IsForest k.max t) split_at a.1);
        inside = omega (arith, length-append b (x ∷ more));
        begun = subst (Begins (IsForest k.max)) (sym before_is) h.begun;
        stuck = subst (λ (l : List ℕ). Begins (IsForest k.max) l → ⊥) (sym with_is) stuck;
      },
      subst (IsReason k.max r) (sym with_is) reason,
    )
