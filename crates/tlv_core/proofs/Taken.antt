-- What a check keeps is what its octets leave open.
use Rattle.std.proofs.Common.{◌≡◌, ℕ, ◌+◌, ◌-◌, ◌≤◌, List, [], ◌∷◌, ◌++◌, length, refl, sym, ap, subst, ◌∙◌, inl, inr, arith, zero, suc, append-nil, length-append}
use Rattle.std.specs.Prelude.{◌↔◌}
use Rattle.octet_core.specs.Octets.{AreOctets}
use Rattle.octet_core.specs.Grammar.{Begins}
use Rattle.tlv_core.specs.Tag.{constructed_bit, header_of}
use Rattle.tlv_core.specs.Form.{further}
use Rattle.tlv_core.specs.Tree.{Tree}
use Rattle.tlv_core.specs.Forest.{spelling, IsProper, IsForest}
use Rattle.tlv_core.specs.Reasons.{OpensOne, Opens, IsBegun, Kept, IsValuePart, IsKept, HasTaken, IsIdle}
use Rattle.tlv_core.specs.Laws.{TakenLaws}
use Rattle.tlv_core.proofs.One.{header_one, header_not_nil}
use Rattle.tlv_core.proofs.Stands.{Under, Nothing, First, Second, Tagged, Sized, Valued, IsUnder, under_octets, under_need, FitsIn, opens_depth}
use Rattle.tlv_core.proofs.Completion.{under_begun, stands_of, begins_none}
use Rattle.tlv_core.proofs.Verdict.{IsPartial, IsOpenTail, same_done, open_tail, begun_not_object, stands_begins}
use Rattle.tlv_core.proofs.Spelled.{octets-begins}

-- ---- what is under way, as it is kept

value_tail : (d n : ℕ) (last : List ℕ) → IsValuePart d (suc n) last → IsOpenTail last
value_tail d n last v = record {
  tag = v.tag;
  form = v.form;
  n = length v.value + suc n;
  value = v.value;
  is_tag =
      v.object.is_tag;
  fits = v.object.fits;
  less = omega arith;
  is = v.is;
}

kept_partial : (d : ℕ) (header : List ℕ) (left : ℕ) (last : List ℕ) → IsKept d header left last → IsPartial last
kept_partial d header zero last k = inl (subst IsBegun (sym k.1) k.0)
kept_partial d header (suc n) last k = inr (value_tail d n last k.1)

-- a tail of an open constructed object is nothing that is kept
not_kept : (d e room : ℕ) (value b : List ℕ) (o : OpensOne d room value b) (header : List ℕ) (left : ℕ) (last : List ℕ)
    → IsKept e header left last → last ≡ header_of o.tag o.form (length value + room) ++ value → ⊥
not_kept d e room value b o header zero last k q =
    begun_not_object last (subst IsBegun (sym k.1) k.0) o.tag o.form (length value + room) value o.object.is_tag
    o.object.fits q
not_kept d e room value b o header (suc n) last k q =
    let v = k.1 in
    let same = header_one v.tag o.tag v.form o.form (length v.value + suc n) (length value + room) v.value value
    v.object.is_tag o.object.is_tag v.object.fits o.object.fits (sym v.is ∙ q) in
    absurd (omega (arith, ap constructed_bit same.tags, v.object.is_bit, o.object.is_bit))

one_opened : (rooms rooms' : List ℕ) (d e e' : ℕ) (h h' : List ℕ) (n n' : ℕ) (last last' b : List ℕ)
    → Opens d rooms last b → Opens d rooms' last' b → IsKept e h n last → IsKept e' h' n' last' → (rooms ≡ rooms')
    × (last ≡ last')
one_opened [] [] d e e' h h' n n' last last' b o o' k k' = (
  refl,
  (same_done o.done o'.done d d last last' o.proper o'.proper (kept_partial e h n last k)
      (kept_partial e' h' n' last' k') (sym o.is ∙ o'.is)).1,
)
one_opened [] (room ∷ rooms) d e e' h h' n n' last last' b o o' k k' =
    let p = o'.1 in
    let same = same_done o.done p.done d d last (header_of p.tag p.form (length o'.0 + room) ++ o'.0) o.proper p.proper
    (kept_partial e h n last k) (inr (open_tail d room o'.0 b p)) (sym o.is ∙ p.is) in
    absurd (not_kept d e room o'.0 b p h n last k same.1)
one_opened (room ∷ rooms) [] d e e' h h' n n' last last' b o o' k k' =
    let p = o.1 in
    let same = same_done o'.done p.done d d last' (header_of p.tag p.form (length o.0 + room) ++ o.0) o'.proper p.proper
    (kept_partial e' h' n' last' k') (inr (open_tail d room o.0 b p)) (sym o'.is ∙ p.is) in
    absurd (not_kept d e' room o.0 b p h' n' last' k' same.1)
one_opened (room ∷ rooms) (room' ∷ rooms') d e e' h h' n n' last last' b o o' k k' =
    let p = o.1 in
    let p' = o'.1 in
    let same = same_done p.done p'.done d d (header_of p.tag p.form (length o.0 + room) ++ o.0)
    (header_of p'.tag p'.form (length o'.0 + room') ++ o'.0) p.proper p'.proper (inr (open_tail d room o.0 b p))
    (inr (open_tail d room' o'.0 b p')) (sym p.is ∙ p'.is) in
    let one = header_one p.tag p'.tag p.form p'.form (length o.0 + room) (length o'.0 + room') o.0 o'.0 p.object.is_tag
    p'.object.is_tag p.object.fits p'.object.fits same.1 in
    let values : o'.0 ≡ o.0 = sym one.rests in
    let room_is : room ≡ room' = omega (arith, one.lengths, ap length values) in
    let inner = one_opened rooms rooms' (d + 1) e e' h h' n n' last last' o.0 o.2
    (subst (λ (v : List ℕ). Opens (d + 1) rooms' last' v) values o'.2) k k' in
    let rooms_is : rooms ≡ rooms' = inner.0 in
    (ap (λ (r : ℕ). r ∷ rooms) room_is ∙ ap (λ (l : List ℕ). room' ∷ l) rooms_is, inner.1)

one_kept : (d e : ℕ) (h h' : List ℕ) (n n' : ℕ) (last : List ℕ) → IsKept d h n last → IsKept e h' n' last → (h ≡ h')
    × (n ≡ n')
one_kept d e h h' zero zero last k k' = (sym k.1 ∙ k'.1, refl)
one_kept d e h h' zero (suc n) last k k' = let v =
    k'.1 in absurd (begun_not_object last (subst IsBegun (sym k.1) k.0) v.tag v.form (length v.value + suc n) v.value
    v.object.is_tag v.object.fits v.is)
one_kept d e h h' (suc n) zero last k k' = let v =
    k.1 in absurd (begun_not_object last (subst IsBegun (sym k'.1) k'.0) v.tag v.form (length v.value + suc n) v.value
    v.object.is_tag v.object.fits v.is)
one_kept d e h h' (suc n) (suc n') last k k' =
    let v = k.1 in
    let w = k'.1 in
    let same = header_one v.tag w.tag v.form w.form (length v.value + suc n) (length w.value + suc n') v.value w.value
    v.object.is_tag w.object.is_tag v.object.fits w.object.fits (sym v.is ∙ w.is) in
    (k.0 ∙ sym k'.0, omega (arith, same.lengths, ap length same.rests))

one_taken : (b : List ℕ) (k l : Kept) → k.max ≡ l.max → HasTaken b k → HasTaken b l → k ≡ l
one_taken b k l max h g =
    let opened = one_opened k.rooms l.rooms 1 (1 + length k.rooms) (1 + length l.rooms) k.header l.header k.value_left
    l.value_left h.last g.last b h.opens g.opens h.kept g.kept in
    let last : g.last ≡ h.last = sym opened.1 in
    let kept = one_kept (1 + length k.rooms) (1 + length l.rooms) k.header l.header k.value_left l.value_left h.last
    h.kept (subst (λ (t : List ℕ). IsKept (1 + length l.rooms) l.header l.value_left t) last g.kept) in
    let count : k.count ≡ l.count = sym h.count ∙ g.count in
    let rooms : k.rooms ≡ l.rooms = opened.0 in
    let header : k.header ≡ l.header = kept.0 in
    let left : k.value_left ≡ l.value_left = kept.1 in
    ap (λ (x : ℕ). record { max = x; count = k.count; rooms = k.rooms; header = k.header; value_left = k.value_left })
    max
    ∙ ap (λ (x : ℕ). record { max = l.max; count = x; rooms = k.rooms; header = k.header; value_left = k.value_left })
    count
    ∙ ap (λ (x : List ℕ). record {
      max = l.max;
      count = l.count;
      rooms = x;
      header = k.header;
      value_left =
          k.value_left;
    }) rooms
    ∙ ap (λ (x : List ℕ). record {
      max = l.max;
      count = l.count;
      rooms = l.rooms;
      header = x;
      value_left =
          k.value_left;
    }) header
    ∙ ap (λ (x : ℕ). record { max = l.max; count = l.count; rooms = l.rooms; header = l.header; value_left = x }) left

-- ---- the end

nil_kept : (d : ℕ) (h : List ℕ) (n : ℕ) (last : List ℕ) → IsKept d h n last → last ≡ [] → (h ≡ []) × (n ≡ 0)
nil_kept d h zero last k e = (sym k.1 ∙ e, refl)
nil_kept d h (suc n) last k e = let v = k.1 in
    absurd (header_not_nil v.tag v.form (length v.value + suc n) v.value v.object.is_tag (sym v.is ∙ e))

kept_nil : (d : ℕ) (h : List ℕ) (n : ℕ) (last : List ℕ) → IsKept d h n last → h ≡ [] → n ≡ 0 → last ≡ []
kept_nil d h zero last k e z = k.1 ∙ e
kept_nil d h (suc n) last k e z = absurd (omega arith)

forest_idle : (rooms : List ℕ) (h : List ℕ) (n : ℕ) (last b : List ℕ) (t : Tree) → Opens 1 rooms last b
    → IsKept (1 + length rooms) h n last → IsProper 1 t → b ≡ spelling t → (rooms ≡ []) × (h ≡ []) × (n ≡ 0)
forest_idle [] h n last b t o k ht e =
    let same = same_done t o.done 1 1 [] last ht o.proper (inl (under_begun Nothing 1 (omega arith) tt))
    (kept_partial (1 + 0) h n last k) (append-nil (spelling t) ∙ sym e ∙ o.is) in
    let parts = nil_kept (1 + 0) h n last k (sym same.1) in
    (refl, parts.0, parts.1)
forest_idle (room ∷ rooms) h n last b t o k ht e =
    let p = o.1 in
    let same = same_done t p.done 1 1 [] (header_of p.tag p.form (length o.0 + room) ++ o.0) ht p.proper
    (inl (under_begun Nothing 1 (omega arith) tt)) (inr (open_tail 1 room o.0 b p))
    (append-nil (spelling t) ∙ sym e ∙ p.is) in
    absurd (header_not_nil p.tag p.form (length o.0 + room) o.0 p.object.is_tag (sym same.1))

idle_forest : (max : ℕ) (rooms : List ℕ) (h : List ℕ) (n : ℕ) (last b : List ℕ) → length b ≤ max → Opens 1 rooms last b
    → IsKept (1 + length rooms) h n last → rooms ≡ [] → h ≡ [] → n ≡ 0 → (t : Tree) × IsForest max t b
idle_forest max [] h n last b le o k r e z = (
  o.done,
  record {
    proper = o.proper;
    is =
        o.is ∙ ap (λ (l : List ℕ). spelling o.done ++ l) (kept_nil (1 + 0) h n last k e z)
        ∙ append-nil (spelling o.done);
    size = le;
  },
)
idle_forest max (room ∷ rooms) h n last b le o k r e z = cc

begun_size : (max : ℕ) (b : List ℕ) → Begins (IsForest max) b → length b ≤ max
begun_size max b h = omega (arith, h.2.size, length-append b h.1)

-- ---- from where octets stand

-- what is kept after so many octets, with this under way
abbrev pub kept_at : ℕ → ℕ → List ℕ → Under → Kept
kept_at max count rooms Nothing = record { max = max; count = count; rooms = rooms; header = []; value_left = 0 }
kept_at max count rooms (First x) = record { max = max; count = count; rooms = rooms; header = x ∷ []; value_left = 0 }
kept_at max count rooms (Second x y) = record
    { max = max; count = count; rooms = rooms; header = x ∷ y ∷ []; value_left = 0 }
kept_at max count rooms (Tagged tag) = record { max = max; count = count; rooms = rooms; header = tag; value_left = 0 }
kept_at max count rooms (Sized tag form more) =
    record { max = max; count = count; rooms = rooms; header = tag ++ (128 + further form) ∷ more; value_left = 0 }
kept_at max count rooms (Valued tag form value left) =
    record { max = max; count = count; rooms = rooms; header = []; value_left = left }

-- octets that begin a forest are taken, and what they leave open is kept
pub taken_at : (max : ℕ) (b rooms : List ℕ) (u : Under) → Begins (IsForest max) b → Opens 1 rooms (under_octets u) b
    → IsUnder (1 + length rooms) u → HasTaken b (kept_at max (length b) rooms u)
taken_at max b rooms Nothing h o ok = record
    { begun = h; count = refl; last = []; opens = o; kept = (under_begun Nothing (1 + length rooms) ok tt, refl) }
taken_at max b rooms (First x) h o ok = record
    { begun = h; count = refl; last = x ∷ []; opens = o; kept = (under_begun (First x) (1 + length rooms) ok tt, refl) }
taken_at max b rooms (Second x y) h o ok =
    record {
      begun = h;
      count = refl;
      last = x ∷ y ∷ [];
      opens = o;
      kept =
          (under_begun (Second x y) (1 + length rooms) ok tt, refl);
    }
taken_at max b rooms (Tagged tag) h o ok =
    record {
      begun = h;
      count = refl;
      last = tag;
      opens = o;
      kept =
          (under_begun (Tagged tag) (1 + length rooms) ok tt, refl);
    }
taken_at max b rooms (Sized tag form more) h o ok =
    record {
      begun = h;
      count = refl;
      last = tag ++ (128 + further form) ∷ more;
      opens = o;
      kept =
          (under_begun (Sized tag form more) (1 + length rooms) ok tt, refl);
    }
taken_at max b rooms (Valued tag form value zero) h o ok = absurd (omega (arith, ok.2))
taken_at max b rooms (Valued tag form value (suc n)) h o ok =
    record {
      begun = h;
      count = refl;
      last = header_of tag form (length value + suc n) ++ value;
      opens = o;
      kept = (refl, record { tag = tag; form = form; value = value; octets = ok.1; object = ok.0; is = refl });
    }

kept_max : (max count : ℕ) (rooms : List ℕ) (u : Under) → (kept_at max count rooms u).max ≡ max
kept_max max count rooms Nothing = refl
kept_max max count rooms (First x) = refl
kept_max max count rooms (Second x y) = refl
kept_max max count rooms (Tagged tag) = refl
kept_max max count rooms (Sized tag form more) = refl
kept_max max count rooms (Valued tag form value left) = refl

-- ---- and back

-- What a check keeps, with the octets that it has taken: all that its next octet needs.
pub record Held (b : List ℕ) (k : Kept) : Type 0 where
  pub size : length b ≤ k.max
  pub under : Under
  pub opens : Opens 1 k.rooms (under_octets under) b
  pub ok : IsUnder (1 + length k.rooms) under
  pub fits : FitsIn (k.max - length b) k.rooms (under_need under)
  pub is : k ≡ kept_at k.max (length b) k.rooms under

held_at : (max : ℕ) (b : List ℕ) (u : Under) (rooms : List ℕ) → length b ≤ max → Opens 1 rooms (under_octets u) b
    → IsUnder (1 + length rooms) u → FitsIn (max - length b) rooms (under_need u)
    → Held b (kept_at max (length b) rooms u)
held_at max b Nothing rooms le o ok fits =
    record { size = le; under = Nothing; opens = o; ok = ok; fits = fits; is = refl }
held_at max b (First x) rooms le o ok fits =
    record { size = le; under = First x; opens = o; ok = ok; fits = fits; is = refl }
held_at max b (Second x y) rooms le o ok fits =
    record { size = le; under = Second x y; opens = o; ok = ok; fits = fits; is = refl }
held_at max b (Tagged tag) rooms le o ok fits =
    record { size = le; under = Tagged tag; opens = o; ok = ok; fits = fits; is = refl }
held_at max b (Sized tag form more) rooms le o ok fits =
    record { size = le; under = Sized tag form more; opens = o; ok = ok; fits = fits; is = refl }
held_at max b (Valued tag form value left) rooms le o ok fits =
    record { size = le; under = Valued tag form value left; opens = o; ok = ok; fits = fits; is = refl }

-- so it is with each check that has taken octets
pub held_of : (b : List ℕ) (k : Kept) → HasTaken b k → Held b k
held_of b k h =
    let s = stands_of k.max b (octets-begins k.max b h.begun) (begins_none k.max b h.begun) in
    let at = kept_at k.max (length b) s.1.rooms s.1.under in
    let one : k ≡ at = one_taken b k at (sym (kept_max k.max (length b) s.1.rooms s.1.under)) h
    (taken_at k.max b s.1.rooms s.1.under h.begun s.1.opens s.1.ok) in
    subst (Held b) (sym one) (held_at k.max b s.1.under s.1.rooms s.0 s.1.opens s.1.ok s.1.fits)

-- what stands so has been taken
pub taken_of : (max : ℕ) (b rooms : List ℕ) (u : Under) → length b ≤ max → Opens 1 rooms (under_octets u) b
    → IsUnder (1 + length rooms) u → FitsIn (max - length b) rooms (under_need u)
    → HasTaken b (kept_at max (length b) rooms u)
taken_of max b rooms u le o ok fits = taken_at max b rooms u
    (stands_begins max b le (record { rooms = rooms; under = u; opens = o; ok = ok; fits = fits })) o ok

-- they are a forest exactly where nothing is under way
pub held_idle : (b : List ℕ) (k : Kept) → HasTaken b k → ((t : Tree) × IsForest k.max t b) ↔ IsIdle k
held_idle b k h = (
  λ f. forest_idle k.rooms k.header k.value_left h.last b f.0 h.opens h.kept f.1.proper f.1.is,
  λ i. idle_forest k.max k.rooms k.header k.value_left h.last b (begun_size k.max b h.begun) h.opens h.kept i.0 i.1 i.2,
)

-- the laws of what a check keeps hold of all octets
pub taken_laws : (max : ℕ) (b : List ℕ) → AreOctets b → TakenLaws max b
taken_laws max b octets =
    record {
      some = λ h. let s = stands_of max b octets (begins_none max b h) in (
        kept_at max (length b) s.1.rooms s.1.under,
        kept_max max (length b) s.1.rooms s.1.under,
        taken_at max b s.1.rooms s.1.under h s.1.opens s.1.ok,
      );
      one = one_taken b;
      idle = held_idle b;
      most = λ k h. let o = opens_depth k.rooms 1 h.last b (omega arith) h.opens in omega arith;
    }
