-- How many more octets a forest needs at least: no forest has fewer, and some forest has as many.
use Rattle.std.proofs.Common.{◌≡◌, ℕ, zero, suc, ◌+◌, ◌-◌, ◌≤◌, List, [], ◌∷◌, ◌++◌, length, refl, sym, ap, ◌∙◌, arith}
use Rattle.std.proofs.lemmas.List.{append-nil, append_assoc, length-append}
use Rattle.octet_core.specs.Octets.{AreOctets}
use Rattle.tlv_core.specs.Number.{zeros}
use Rattle.tlv_core.specs.Form.{further}
use Rattle.tlv_core.specs.Tag.{header_of}
use Rattle.tlv_core.specs.Tree.{Tree}
use Rattle.tlv_core.specs.Forest.{IsForest, IsProper, spelling}
use Rattle.tlv_core.specs.Reasons.{HasTaken, IsBegun, IsKept, Kept, Opens, need}
use Rattle.tlv_core.proofs.Completion.{begins_none, stands_of}
use Rattle.tlv_core.proofs.Needs.{need-long, need_after-more, need_in-more}
use Rattle.tlv_core.proofs.Stands.{need-tag}
use Rattle.tlv_core.proofs.One.{constructed_first, primitive_first, skip}
use Rattle.tlv_core.proofs.Refused.{need_comes}
use Rattle.tlv_core.proofs.Spelled.{octets-begins}
use Rattle.tlv_core.proofs.Stands.{First, FitsIn, IsUnder, Nothing, Second, Sized, Tagged, Under, Valued, complete, repair, under_need}
use Rattle.tlv_core.proofs.Taken.{kept_at, taken_at, taken_laws}
use Rattle.shortfall.specs.Least.{IsLeast}
use Rattle.shortfall.specs.Forest.{open_rest, rest_after}

-- ---- no forest has fewer octets

-- the last item of a list, and those before it
last-of : (x : ℕ) (l : List ℕ) → (front : List ℕ) × (y : ℕ) × (x ∷ l ≡ front ++ y ∷ [])
last-of x [] = ([], x, refl)
last-of x (z ∷ l) =
    let r = last-of z l in
    (x ∷ r.0, r.1, ap (λ (k : List ℕ). x ∷ k) r.2)

header-fewer : (d : ℕ) (h : List ℕ) (t : Tree) (more : List ℕ) → IsBegun h → IsProper d t → spelling t ≡ h ++ more
    → need h ≤ length more
header-fewer d [] t more begun ht e = omega arith
header-fewer d (x ∷ h) t more begun ht e =
    let r = last-of x h in
    let front : IsBegun r.0 = record {
      tag = begun.tag;
      form = begun.form;
      n = begun.n;
      next = r.1;
      more = begun.next ∷ begun.more;
      is_tag = begun.is_tag;
      fits = begun.fits;
      is = sym (append_assoc r.0 (r.1 ∷ []) (begun.next ∷ begun.more))
          ∙ ap (λ (l : List ℕ). l ++ begun.next ∷ begun.more) (sym r.2) ∙ begun.is;
    } in
    omega (
      arith,
      ap need r.2,
      need_comes t d r.0 more r.1 ht front
          (e ∙ ap (λ (l : List ℕ). l ++ more) r.2 ∙ append_assoc r.0 (r.1 ∷ []) more),
    )

regrouped : (b a h v more : List ℕ) → b ≡ a ++ (h ++ v) → b ++ more ≡ a ++ (h ++ (v ++ more))
regrouped b a h v more e = ap (λ (l : List ℕ). l ++ more) e ∙ simp append_assoc

last-fewer : (d : ℕ) (header : List ℕ) (left : ℕ) (last : List ℕ) (t : Tree) (more : List ℕ) → IsKept d header left last
    → IsProper d t → spelling t ≡ last ++ more → need header + left ≤ length more
last-fewer d header zero last t more k ht e =
    omega (arith, header-fewer d header t more k.0 ht (e ∙ ap (λ (l : List ℕ). l ++ more) k.1))
last-fewer d header (suc n) last t more k ht e =
    let v = k.1 in
    let whole = length v.value + suc n in
    let f = primitive_first t d v.tag v.form whole (v.value ++ more) v.object.is_tag v.object.is_bit v.object.fits ht
    (e ∙ ap (λ (l : List ℕ). l ++ more) v.is ∙ append_assoc (header_of v.tag v.form whole) v.value more) in
    omega (
      arith,
      ap need k.0,
      f.len,
      ap length f.more_is,
      length-append v.value more,
      length-append f.value (spelling f.rest),
    )

fewer : (rooms header : List ℕ) (left : ℕ) (last b : List ℕ) (t : Tree) (more : List ℕ) → Opens 1 rooms last b
    → IsKept (1 + length rooms) header left last → IsProper 1 t → b ++ more ≡ spelling t
    → rest_after rooms header left ≤ length more
fewer [] header left last b t more o k ht e =
    let after = skip o.done t 1 1 (last ++ more) o.proper ht
    (sym e ∙ ap (λ (l : List ℕ). l ++ more) o.is ∙ append_assoc (spelling o.done) last more) in
    last-fewer 1 header left last after.left more k after.proper after.is
fewer (room ∷ rooms) header left last b t more opens k ht e =
    let value = opens.0 in
    let o = opens.1 in
    let n = length value + room in
    let after = skip o.done t 1 1 (header_of o.tag o.form n ++ (value ++ more)) o.proper ht
    (sym e ∙ regrouped b (spelling o.done) (header_of o.tag o.form n) value more o.is) in
    let f = constructed_first after.left 1 o.tag o.form n (value ++ more) o.object.is_tag o.object.is_bit
    o.object.fits after.proper after.is in
    omega (
      arith,
      f.len,
      ap length f.more_is,
      length-append value more,
      length-append (spelling f.nodes) (spelling f.rest),
    )

taken-fewer : (k : Kept) (b : List ℕ) (h : HasTaken b k) (t : Tree) (more : List ℕ) → IsForest k.max t (b ++ more)
    → open_rest k ≤ length more
taken-fewer k b h t more g =
    fewer k.rooms k.header k.value_left h.last b t more h.opens h.kept g.proper g.is

-- ---- and some forest has so many

-- the rest of the outermost open object, or what is needed if none is open
abbrev rest_of : List ℕ → Under → ℕ
rest_of [] u = under_need u
rest_of (room ∷ rooms) u = room

need-of : (d : ℕ) (u : Under) (max count : ℕ) (rooms : List ℕ) → IsUnder d u
    → need (kept_at max count rooms u).header + (kept_at max count rooms u).value_left ≡ under_need u
need-of d Nothing max count rooms ok = refl
need-of d (First x) max count rooms ok = omega (arith, need-long x [] ok.2)
need-of d (Second x y) max count rooms ok =
    omega (arith, need-long x (y ∷ []) ok.2, need_after-more y [] (omega (arith, ok.3)))
need-of d (Tagged tag) max count rooms ok =
    omega (arith, ap need (sym (append-nil tag)) ∙ need-tag tag [] ok.1)
need-of d (Sized tag form more) max count rooms ok = omega (
  arith,
  need-tag tag ((128 + further form) ∷ more) ok.1 ∙ need_in-more (further form) more,
)
need-of d (Valued tag form value left) max count rooms ok = omega arith

kept-max : (u : Under) (max count : ℕ) (rooms : List ℕ) → (kept_at max count rooms u).max ≡ max
kept-max Nothing max count rooms = refl
kept-max (First x) max count rooms = refl
kept-max (Second x y) max count rooms = refl
kept-max (Tagged tag) max count rooms = refl
kept-max (Sized tag form more) max count rooms = refl
kept-max (Valued tag form value left) max count rooms = refl

kept-rooms : (u : Under) (max count : ℕ) (rooms : List ℕ) → (kept_at max count rooms u).rooms ≡ rooms
kept-rooms Nothing max count rooms = refl
kept-rooms (First x) max count rooms = refl
kept-rooms (Second x y) max count rooms = refl
kept-rooms (Tagged tag) max count rooms = refl
kept-rooms (Sized tag form more) max count rooms = refl
kept-rooms (Valued tag form value left) max count rooms = refl

by-rooms : (rooms header : List ℕ) (left : ℕ) (u : Under) → need header + left ≡ under_need u
    → rest_after rooms header left ≡ rest_of rooms u
by-rooms [] header left u e = e
by-rooms (room ∷ rooms) header left u e = refl

rest-is : (d : ℕ) (u : Under) (max count : ℕ) (rooms : List ℕ) → IsUnder d u
    → open_rest (kept_at max count rooms u) ≡ rest_of rooms u
rest-is d u max count rooms ok =
    let k = kept_at max count rooms u in
    ap (λ (l : List ℕ). rest_after l k.header k.value_left) (kept-rooms u max count rooms)
    ∙ by-rooms rooms k.header k.value_left u (need-of d u max count rooms ok)

fits-rest : (rooms : List ℕ) (u : Under) (left : ℕ) → FitsIn left rooms (under_need u)
    → FitsIn (rest_of rooms u) rooms (under_need u)
fits-rest [] u left fits = omega arith
fits-rest (room ∷ rooms) u left fits = (omega arith, fits.1)

rest-most : (rooms : List ℕ) (u : Under) (left : ℕ) → FitsIn left rooms (under_need u) → rest_of rooms u ≤ left
rest-most [] u left fits = fits
rest-most (room ∷ rooms) u left fits = fits.0

enough : (k : Kept) (b : List ℕ) → HasTaken b k → (t : Tree) × (more : List ℕ) × (length more ≡ open_rest k)
    × IsForest k.max t (b ++ more)
enough k b h =
    let octets : AreOctets b = octets-begins k.max b h.begun in
    let stands = stands_of k.max b octets (begins_none k.max b h.begun) in
    let s = stands.1 in
    let other = kept_at k.max (length b) s.rooms s.under in
    let same : k ≡ other = (taken_laws k.max b octets).one k other (sym (kept-max s.under k.max (length b) s.rooms)) h
    (taken_at k.max b s.rooms s.under h.begun s.opens s.ok) in
    let rest = rest_of s.rooms s.under in
    let least : open_rest k ≡ rest =
    ap open_rest same ∙ rest-is (1 + length s.rooms) s.under k.max (length b) s.rooms s.ok in
    let c = complete s.rooms 1 rest s.under b s.opens s.ok (fits-rest s.rooms s.under (k.max - length b) s.fits) in
    let more = repair s.under ++ zeros c.count in
    let is : b ++ more ≡ spelling c.list = sym (c.is ∙ append_assoc b (repair s.under) (zeros c.count)) in
    let forest : IsForest k.max c.list (b ++ more) = record {
      proper = c.proper;
      is = is;
      size = omega (
        arith,
        ap length is,
        c.size,
        rest-most s.rooms s.under (k.max - length b) s.fits,
        stands.0,
      );
    } in (
      c.list,
      more,
      omega (
        arith,
        taken-fewer k b h c.list more forest,
        least,
        ap length is,
        c.size,
        length-append b more,
      ),
      forest,
    )

pub forest_is_least : (b : List ℕ) (k : Kept) → HasTaken b k → IsLeast (IsForest k.max) b (open_rest k)
forest_is_least b k h = record { fewer = taken-fewer k b h; enough = enough k b h }
