-- Some octets lead a check to its places exactly where these numbers say so.
use Rattle.std.proofs.Common.{◌≡◌, ◌≢◌, ℕ, ◌+◌, ◌-◌, ◌%◌, ◌<◌, ◌≤◌, List, [], ◌∷◌, ◌++◌, length, take, get_or, refl, sym, ap, subst, ◌∙◌, inl, inr, arith, zero, suc, append-nil, length-append, cond, Bool, nat_lt}
use borrow.Author.Tests.{lt-ltb, le-ltb}
use Rattle.std.proofs.lemmas.Bool.{cases_lt, cases_eq}
use Rattle.std.proofs.lemmas.List.{length-take, take_more}
use Rattle.tlv_core.specs.declared.form.Form.{Form}
use Rattle.tlv_core.specs.declared.form.Form.TheVariants.{One, Two, Three, Four, Five}
use Rattle.tlv_core.specs.declared.header.Header.{Header}
use Rattle.tlv_core.specs.declared.header.Header.TheVariants as header
use Rattle.tlv_core.specs.declared.lent.LentCheck.{LentCheck}
use Rattle.tlv_core.specs.Form.{further, capacity}
use Rattle.tlv_core.specs.Tag.{IsTag, header_of}
use Rattle.tlv_core.specs.Tree.{End}
use Rattle.tlv_core.specs.Forest.{spelling}
use Rattle.tlv_core.specs.Header.{header_octets, IsWell, IsNext, next_need}
use Rattle.tlv_core.specs.declared.header.Next.{Next}
use Rattle.tlv_core.specs.declared.reason.TlvReason.{TlvReason}
use Rattle.tlv_core.specs.declared.reason.TlvReason.TheVariants.{TooDeep, TagSecond, TagLong, LengthForm, Overrun, TooLong}
use Rattle.tlv_core.specs.Reasons.{Kept, HasTaken, Opens, IsWrong, need, room_of}
use Rattle.tlv_core.specs.Number.{zeros, high_first}
use Rattle.tlv_core.specs.Open.{AreEnds, AreNested, rooms_to}
use Rattle.tlv_core.specs.Lent as places
use Rattle.tlv_core.specs.Lent.{AreInRange, ends_at}
use Rattle.tlv_core.specs.Led.{value_from, inner_from, inner_at, room_at, IsAtHeader, IsInValue, CanCome}
use Rattle.tlv_core.proofs.Ends.{length-rooms}
use Rattle.tlv_core.proofs.Listed.{length-header}
use Rattle.tlv_core.proofs.Needs.{need-long, need_after-more, need_in-more}
use Rattle.tlv_core.proofs.Refusals.{need_header, next_right, need_is}
use Rattle.tlv_core.proofs.Stands.{Under, Nothing, First, Second, Tagged, Sized, Valued, under_octets, under_need, IsUnder, IsHeader, FitsIn, fits_need, fillers, spelling-fillers, proper-fillers, length-zeros, octets-zeros, need-tag}
use Rattle.tlv_core.proofs.Taken.{kept_at, held_of, taken_of}
use Rattle.tlv_core.proofs.Taking.{under_of, octets_under, well_under, need_under, kept_under}

apart : (a b : ℕ) → a < b → a ≢ b
apart a b lt = λ e. omega arith

-- ---- where a value can begin

-- the place where a value that ends at `end` begins, after a header of one tag octet in this form
record Begins (place end : ℕ) : Type 0 where
  form : Form
  is : value_from place end ≡ place + 2 + further form
  fits : end - value_from place end < capacity form

less-is : (n most a b : ℕ) → n < most → cond (nat_lt n most) a b ≡ a
less-is n most a b lt = ap (λ (t : Bool). cond t a b) (lt-ltb n most lt)

more-is : (n most a b : ℕ) → most ≤ n → cond (nat_lt n most) a b ≡ b
more-is n most a b le = ap (λ (t : Bool). cond t a b) (le-ltb n most le)

-- which of the four it is
pub data Where (place end : ℕ) : Type 0 where
  in_one : end < place + 130 → value_from place end ≡ place + 2 → Where place end
  in_two : place + 130 ≤ end → end < place + 259 → value_from place end ≡ place + 3 → Where place end
  in_three : place + 259 ≤ end → end < place + 65540 → value_from place end ≡ place + 4 → Where place end
  in_four : place + 65540 ≤ end → value_from place end ≡ place + 5 → Where place end

where_is : (place end : ℕ) → Where place end
where_is place end =
    let three : ℕ = cond (nat_lt end (place + 65540)) (place + 4) (place + 5) in
    let two : ℕ = cond (nat_lt end (place + 259)) (place + 3) three in
    elim (cases_lt end (place + 130)) [
      | inl lt ↦ in_one lt (less-is end (place + 130) (place + 2) two lt)
      | inr le ↦ elim (cases_lt end (place + 259)) [
        | inl lt ↦ in_two le lt (more-is end (place + 130) (place + 2) two le
            ∙ less-is end (place + 259) (place + 3) three lt)
        | inr more ↦ elim (cases_lt end (place + 65540)) [
          | inl lt ↦ in_three more lt (more-is end (place + 130) (place + 2) two le
              ∙ more-is end (place + 259) (place + 3) three more
              ∙ less-is end (place + 65540) (place + 4) (place + 5) lt)
          | inr most ↦ in_four most (more-is end (place + 130) (place + 2) two le
              ∙ more-is end (place + 259) (place + 3) three more
              ∙ more-is end (place + 65540) (place + 4) (place + 5) most)
        ]
      ]
    ]

begins : (place end : ℕ) → end < 16777216 → Begins place end
begins place end lt = elim (where_is place end) [
  | in_one less is ↦ record { form = One; is = omega (arith, is); fits = omega (arith, less, is) }
  | in_two more less is ↦ record { form = Two; is = omega (arith, is); fits = omega (arith, less, is) }
  | in_three more less is ↦ record { form = Three; is = omega (arith, is); fits = omega (arith, less, is) }
  | in_four more is ↦ record { form = Four; is = omega (arith, is); fits = omega (arith, lt, is) }
]

least-by : (place end s more most : ℕ) → Where place end → place + 2 + more ≤ s → end - s < most
    → (more ≡ 0 → most ≡ 128) → (more ≡ 1 → most ≡ 256) → (more ≡ 2 → most ≡ 65536)
    → value_from place end ≤ s
least-by place end s more most (in_one less is) le lt one two three = omega (arith, is, le)
least-by place end s more most (in_two over less is) le lt one two three = elim (cases_eq more 0) [
  | inl e ↦ omega (arith, is, le, lt, one e, over)
  | inr ne ↦ omega (arith, is, le)
]
least-by place end s more most (in_three over less is) le lt one two three = elim (cases_eq more 0) [
  | inl e ↦ omega (arith, is, le, lt, one e, over)
  | inr ne ↦ elim (cases_eq more 1) [
    | inl e ↦ omega (arith, is, le, lt, two e, over)
    | inr other ↦ omega (arith, is, le)
  ]
]
least-by place end s more most (in_four over is) le lt one two three = elim (cases_eq more 0) [
  | inl e ↦ omega (arith, is, le, lt, one e, over)
  | inr ne ↦ elim (cases_eq more 1) [
    | inl e ↦ omega (arith, is, le, lt, two e, over)
    | inr ne2 ↦ elim (cases_eq more 2) [
      | inl e ↦ omega (arith, is, le, lt, three e, over)
      | inr other ↦ omega (arith, is, le)
    ]
  ]
]

-- no value begins earlier
least : (place end s : ℕ) (form : Form) → place + 2 + further form ≤ s → end - s < capacity form
    → value_from place end ≤ s
least place end s One le lt =
    least-by place end s 0 128 (where_is place end) le lt (λ e. refl) (λ e. absurd (omega arith))
    (λ e. absurd (omega arith))
least place end s Two le lt =
    least-by place end s 1 256 (where_is place end) le lt (λ e. absurd (omega arith)) (λ e. refl)
    (λ e. absurd (omega arith))
least place end s Three le lt =
    least-by place end s 2 65536 (where_is place end) le lt (λ e. absurd (omega arith)) (λ e. absurd (omega arith))
    (λ e. refl)
least place end s Four le lt =
    least-by place end s 3 16777216 (where_is place end) le lt (λ e. absurd (omega arith)) (λ e. absurd (omega arith))
    (λ e. absurd (omega arith))
least place end s Five le lt =
    least-by place end s 4 4294967296 (where_is place end) le lt (λ e. absurd (omega arith)) (λ e. absurd (omega arith))
    (λ e. absurd (omega arith))

-- ends after the octets that came, below the largest length
abbrev AreBelow : ℕ → List ℕ → Type 0
AreBelow count [] = Unit {0}
AreBelow count (e ∷ ends) = (count < e) × (e < 16777216) × AreBelow count ends

value-later : (place later end : ℕ) → end < 16777216 → place ≤ later → value_from place end ≤ value_from later end
value-later place later end lt le =
    let b = begins later end lt in
    least place end (value_from later end) b.form (omega (arith, b.is, le)) b.fits

inner-later : (place later count : ℕ) (ends : List ℕ) → AreBelow count ends → place ≤ later
    → inner_from place ends ≤ inner_from later ends
inner-later place later count [] below le = le
inner-later place later count (e ∷ ends) below le =
    inner-later (value_from place e) (value_from later e) count ends below.2 (value-later place later e below.1 le)

below-of : (max count : ℕ) (ends : List ℕ) → max ≤ 1048576 → AreEnds max count ends → AreBelow count ends
below-of max count [] most ahead = tt
below-of max count (e ∷ ends) most ahead =
    let first = ahead 0 (omega arith) in
    (first.0, omega (arith, first.1, most), below-of max count ends most (λ i lt. ahead (suc i) (omega arith)))

-- ---- octets that leave objects open which end at these places

record Opened (d place count : ℕ) (ends last : List ℕ) : Type 0 where
  octets : List ℕ
  count_is : place + length octets ≡ count
  opens : Opens d (rooms_to count ends) last octets

opened : (d place count : ℕ) (ends last : List ℕ) → AreBelow count ends → inner_from place ends + length last ≤ count
    → d + length ends ≤ 17 → Opened d place count ends last
opened d place count [] last below le deep =
    let k : ℕ = count - place - length last in
    record {
      octets = spelling (fillers k) ++ last;
      count_is = omega (
        arith,
        length-append (spelling (fillers k)) last,
        ap length (spelling-fillers k),
        length-zeros k,
        le,
      );
      opens = record { done = fillers k; proper = proper-fillers k d; is = refl };
    }
opened d place count (e ∷ ends) last below le deep =
    let s : ℕ = value_from place e in
    let b = begins place e below.1 in
    let inner = opened (d + 1) s count ends last below.2 le (omega (arith, deep)) in
    let n : ℕ = length inner.octets + (e - count) in
    let header : List ℕ = header_of (32 ∷ []) b.form n in
    let fits : n < capacity b.form = omega (arith, b.fits, inner.count_is, below.0) in
    record {
      octets = header ++ inner.octets;
      count_is = omega (
        arith,
        length-append header inner.octets,
        length-header (32 ∷ []) b.form n,
        inner.count_is,
        b.is,
      );
      opens = (
        inner.octets,
        record {
          done = End;
          proper = tt;
          tag = 32 ∷ [];
          form = b.form;
          object = record {
            depth = omega (arith, deep);
            is_tag = (omega arith, omega arith, apart (32 % 32) 31 (omega arith));
            is_bit = refl;
            fits = fits;
          };
          open_yet = omega (arith, below.0);
          is = refl;
        },
        inner.opens,
      );
    }

-- and whatever octets leave them open have come that far
opened-from : (d place count : ℕ) (ends last b : List ℕ) → AreBelow count ends → Opens d (rooms_to count ends) last b
    → place + length b ≡ count → inner_from place ends + length last ≤ count
opened-from d place count [] last b below o is =
    omega (arith, is, ap length o.is, length-append (spelling o.done) last)
opened-from d place count (e ∷ ends) last b below o is =
    let value : List ℕ = o.0 in
    let one = o.1 in
    let n : ℕ = length value + (e - count) in
    let s : ℕ = count - length value in
    let header : List ℕ = header_of one.tag one.form n in
    let long : length b ≡ length (spelling one.done) + (length one.tag + 1 + further one.form + length value) =
    omega (
      arith,
      ap length one.is,
      length-append (spelling one.done) (header ++ value),
      length-append header value,
      length-header one.tag one.form n,
    ) in
    let some : 1 ≤ length one.tag = tag-some one.tag one.object.is_tag in
    let first : value_from place e ≤ s = least place e s one.form (omega (arith, long, is, some))
    (omega (arith, one.object.fits, long, is, below.0)) in
    let rest : inner_from s ends + length last ≤ count =
    opened-from (d + 1) s count ends last value below.2 o.2 (omega (arith, long, is)) in
    omega (arith, rest, inner-later (value_from place e) s count ends below.2 first)
  where
    tag-some : (tag : List ℕ) → IsTag tag → 1 ≤ length tag
    tag-some [] h = absurd h
    tag-some (x ∷ more) h = omega arith

-- ---- what is under way

-- what is needed fits the rooms, where the ends are nested
fits-ends : (max count k : ℕ) (ends : List ℕ) → AreEnds max count ends → AreNested ends
    → k ≤ room_of (max - count) (rooms_to count ends) → FitsIn (max - count) (rooms_to count ends) k
fits-ends max count k [] ahead nested le = le
fits-ends max count k (e ∷ ends) ahead nested le =
    let first = ahead 0 (omega arith) in (
      omega (arith, first.1),
      fits-ends e count k ends
          (λ i lt. ((ahead (suc i) (omega arith)).0, before ends e i lt nested)) (λ i lt. nested (suc i) (omega arith))
          le,
    )
  where
    before : (l : List ℕ) (e i : ℕ) → i < length l → AreNested (e ∷ l) → get_or l i 0 ≤ e
    before l e zero lt h = h 0 (omega arith)
    before l e (suc i) lt h = omega (arith, h (suc i) (omega arith), before l e i (omega arith) h)

-- ---- from the numbers to the octets

under-ok : (h : Header) (level : ℕ) → IsWell h → level ≤ 16 → (h ≢ header.Nothing → level < 16)
    → IsUnder (1 + level) (under_of h)
under-ok header.Nothing level well most shallow = omega arith
under-ok (header.First x) level well most shallow =
    well_under (header.First x) (1 + level) well (omega (arith, shallow (λ e. cc)))
under-ok (header.Second x y) level well most shallow =
    well_under (header.Second x y) (1 + level) well (omega (arith, shallow (λ e. cc)))
under-ok (header.Tagged tag) level well most shallow =
    well_under (header.Tagged tag) (1 + level) well (omega (arith, shallow (λ e. cc)))
under-ok (header.Sized tag form read number) level well most shallow =
    well_under (header.Sized tag form read number) (1 + level) well (omega (arith, shallow (λ e. cc)))

level-is : (p : LentCheck) → AreInRange p → length (ends_at p) ≤ 16
level-is p range = omega (arith, length-take p.level p.ends, range.levels)

header-led : (p : LentCheck) → AreInRange p → p.value_left ≡ 0 → IsAtHeader p
    → (b : List ℕ) × HasTaken b (places.kept_at p)
header-led p range idle at =
    let ends : List ℕ = ends_at p in
    let rooms : List ℕ = rooms_to p.count ends in
    let u : Under = under_of p.header in
    let size : length (under_octets u) ≡ length (header_octets p.header) = ap length (octets_under p.header) in
    let o = opened 1 0 p.count ends (under_octets u) (below-of p.max p.count ends range.limit range.ahead)
    (omega (arith, at.begun, size)) (omega (arith, level-is p range)) in
    let count : length o.octets ≡ p.count = omega (arith, o.count_is) in
    let ok : IsUnder (1 + length rooms) u =
    under-ok p.header (length rooms) range.well (omega (arith, level-is p range, length-rooms p.count ends))
    (λ some. omega (
      arith,
      range.shallow some,
      length-rooms p.count ends,
      length-take p.level p.ends,
    )) in
    let fits : FitsIn (p.max - p.count) rooms (under_need u) =
    fits-ends p.max p.count (under_need u) ends range.ahead range.nested
    (omega (arith, at.need, need_under p.header range.well)) in
    let taken : HasTaken o.octets (kept_at p.max (length o.octets) rooms u) =
    taken_of p.max o.octets rooms u (omega (arith, count, range.within)) o.opens ok
    (subst (λ (n : ℕ). FitsIn (p.max - n) rooms (under_need u)) (sym count) fits) in
    let same : kept_at p.max (length o.octets) rooms u ≡ places.kept_at p =
    ap (λ (n : ℕ). kept_at p.max n rooms u) count ∙ kept_under p.max p.count rooms p.header
    ∙ ap (λ (n : ℕ). record
    { max = p.max; count = p.count; rooms = rooms; header = header_octets p.header; value_left = n }) (sym idle) in
    (o.octets, subst (HasTaken o.octets) same taken)

value-led : (p : LentCheck) → AreInRange p → 0 < p.value_left → IsInValue p
    → (b : List ℕ) × HasTaken b (places.kept_at p)
value-led p range some at =
    let ends : List ℕ = ends_at p in
    let rooms : List ℕ = rooms_to p.count ends in
    let end : ℕ = p.count + p.value_left in
    let v = begins (inner_at p) end (omega (arith, range.within, range.limit)) in
    let k : ℕ = p.count - value_from (inner_at p) end in
    let value : List ℕ = zeros k in
    let u : Under = Valued (1 ∷ []) v.form value p.value_left in
    let n : ℕ = length value + p.value_left in
    let last : List ℕ = header_of (1 ∷ []) v.form n ++ value in
    let long : length last ≡ 2 + further v.form + k = omega (
      arith,
      length-append (header_of (1 ∷ []) v.form n) value,
      length-header (1 ∷ []) v.form n,
      length-zeros k,
    ) in
    let o = opened 1 0 p.count ends last (below-of p.max p.count ends range.limit range.ahead)
    (omega (arith, long, v.is, at.begun)) (omega (arith, level-is p range)) in
    let count : length o.octets ≡ p.count = omega (arith, o.count_is) in
    let ok : IsUnder (1 + length rooms) u = (
      record {
        depth = omega (arith, length-rooms p.count ends, at.shallow);
        is_tag = (omega arith, omega arith, apart (1 % 32) 31 (omega arith));
        is_bit = refl;
        fits = omega (arith, v.fits, length-zeros k, at.begun);
      },
      octets-zeros k,
      some,
    ) in
    let fits : FitsIn (p.max - p.count) rooms p.value_left =
    fits-ends p.max p.count p.value_left ends range.ahead range.nested at.need in
    let taken : HasTaken o.octets (kept_at p.max (length o.octets) rooms u) =
    taken_of p.max o.octets rooms u (omega (arith, count, range.within)) o.opens ok
    (subst (λ (m : ℕ). FitsIn (p.max - m) rooms p.value_left) (sym count) fits) in
    let same : kept_at p.max (length o.octets) rooms u ≡ places.kept_at p =
    ap (λ (m : ℕ). kept_at p.max m rooms u) count
    ∙ ap (λ (h : List ℕ). record
    { max = p.max; count = p.count; rooms = rooms; header = h; value_left = p.value_left })
    (sym (ap header_octets at.none)) in
    (o.octets, subst (HasTaken o.octets) same taken)

-- places in range lead back to octets, where these can have come to them
pub come-led : (p : LentCheck) → AreInRange p → CanCome p → (b : List ℕ) × HasTaken b (places.kept_at p)
come-led p range come = elim (cases_eq p.value_left 0) [
  | inl idle ↦ header-led p range idle (come.0 idle)
  | inr some ↦ let ne : p.value_left ≢ 0 = some in let more : 0 < p.value_left = omega arith in
      value-led p range more (come.1 more)
]

-- ---- from the octets to the numbers

under-needs : (u : Under) (d : ℕ) → IsUnder d u → IsHeader u → need (under_octets u) ≡ under_need u
under-needs Nothing d ok h = refl
under-needs (First x) d ok h = need-long x [] ok.2
under-needs (Second x y) d ok h = need-long x (y ∷ []) ok.2 ∙ need_after-more y [] (omega (arith, ok.3))
under-needs (Tagged tag) d ok h = ap need (sym (append-nil tag)) ∙ need-tag tag [] ok.1
under-needs (Sized tag form more) d ok h =
    need-tag tag ((128 + further form) ∷ more) ok.1 ∙ need_in-more (further form) more
under-needs (Valued tag form value left) d ok h = absurd h

nothing-of : (h : Header) → IsWell h → header_octets h ≡ [] → h ≡ header.Nothing
nothing-of header.Nothing well e = refl
nothing-of (header.First x) well e = absurd (omega (arith, ap length e))
nothing-of (header.Second x y) well e = absurd (omega (arith, ap length e))
nothing-of (header.Tagged []) well e = absurd well
nothing-of (header.Tagged (x ∷ tag)) well e = absurd (omega (arith, ap length e))
nothing-of (header.Sized tag form read number) well e = absurd (omega (
  arith,
  ap length e,
  length-append tag
      ((128 + further form) ∷ high_first read number),
))

-- what is held with the octets b, of places whose count they have
record Reached (p : LentCheck) (u : Under) : Type 0 where
  octets : List ℕ
  long : length octets ≡ p.count
  opens : Opens 1 (rooms_to p.count (ends_at p)) (under_octets u) octets
  ok : IsUnder (1 + length (rooms_to p.count (ends_at p))) u
  room : under_need u ≤ room_at p
  is : places.kept_at p ≡ kept_at p.max p.count (rooms_to p.count (ends_at p)) u

inner-reached : (p : LentCheck) (u : Under) → AreInRange p → Reached p u
    → inner_at p + length (under_octets u) ≤ p.count
inner-reached p u range r =
    opened-from 1 0 p.count (ends_at p) (under_octets u) r.octets
    (below-of p.max p.count (ends_at p) range.limit range.ahead) r.opens (omega (arith, r.long))

header-reached : (p : LentCheck) (u : Under) → AreInRange p → Reached p u → header_octets p.header ≡ under_octets u
    → IsHeader u → IsAtHeader p
header-reached p u range r e h = record {
  begun = omega (arith, inner-reached p u range r, ap length e);
  need = omega (
    arith,
    r.room,
    under-needs u (1 + length (rooms_to p.count (ends_at p))) r.ok h,
    ap need e,
    need_header p.header range.well,
  );
}

reached-by : (p : LentCheck) (u : Under) → AreInRange p → Reached p u → CanCome p
reached-by p Nothing range r = (
  λ idle. header-reached p Nothing range r (ap (λ (k : Kept). k.header) r.is) tt,
  λ some. absurd (omega (arith, some, ap (λ (k : Kept). k.value_left) r.is)),
)
reached-by p (First x) range r = (
  λ idle. header-reached p (First x) range r (ap (λ (k : Kept). k.header) r.is) tt,
  λ some. absurd (omega (arith, some, ap (λ (k : Kept). k.value_left) r.is)),
)
reached-by p (Second x y) range r = (
  λ idle. header-reached p (Second x y) range r (ap (λ (k : Kept). k.header) r.is) tt,
  λ some. absurd (omega (arith, some, ap (λ (k : Kept). k.value_left) r.is)),
)
reached-by p (Tagged tag) range r = (
  λ idle. header-reached p (Tagged tag) range r (ap (λ (k : Kept). k.header) r.is) tt,
  λ some. absurd (omega (arith, some, ap (λ (k : Kept). k.value_left) r.is)),
)
reached-by p (Sized tag form more) range r = (
  λ idle. header-reached p (Sized tag form more) range r (ap (λ (k : Kept). k.header) r.is) tt,
  λ some. absurd (omega (arith, some, ap (λ (k : Kept). k.value_left) r.is)),
)
reached-by p (Valued tag form value left) range r =
    let left-is : p.value_left ≡ left = ap (λ (k : Kept). k.value_left) r.is in
    let n : ℕ = length value + left in
    let s : ℕ = p.count - length value in
    let inner = inner-reached p (Valued tag form value left) range r in
    let long : length (header_of tag form n ++ value) ≡ length tag + 1 + further form + length value =
    omega (arith, length-append (header_of tag form n) value, length-header tag form n) in
    let first : value_from (inner_at p) (p.count + p.value_left) ≤ s =
    least (inner_at p) (p.count + p.value_left) s form
    (omega (arith, inner, long, some-tag tag r.ok.0.is_tag))
    (omega (arith, r.ok.0.fits, left-is, inner, long)) in (
      λ idle. absurd (omega (arith, idle, left-is, r.ok.2)),
      λ some. record {
        none = nothing-of p.header range.well (ap (λ (k : Kept). k.header) r.is);
        shallow = omega (arith, r.ok.0.depth, length-rooms p.count (ends_at p));
        begun = omega (arith, first);
        need = omega (arith, r.room, left-is);
      },
    )
  where
    some-tag : (tag : List ℕ) → IsTag tag → 1 ≤ length tag
    some-tag [] h = absurd h
    some-tag (x ∷ more) h = omega arith

-- places in range to which some octets lead are among those
pub led-come : (p : LentCheck) → AreInRange p → ((b : List ℕ) × HasTaken b (places.kept_at p)) → CanCome p
led-come p range (b, taken) =
    let rooms : List ℕ = rooms_to p.count (ends_at p) in
    let h = held_of b (places.kept_at p) taken in
    let long : length b ≡ p.count = taken.count in
    reached-by p h.under range (record {
      octets = b;
      long = long;
      opens = h.opens;
      ok = h.ok;
      room = fits_need rooms (p.max - p.count) (under_need h.under)
          (subst (λ (n : ℕ). FitsIn (p.max - n) rooms (under_need h.under)) long h.fits);
      is = h.is ∙ ap (λ (n : ℕ). kept_at p.max n rooms h.under) long;
    })

-- ---- where the innermost list can begin

inner-append : (place : ℕ) (ends : List ℕ) (e : ℕ)
    → inner_from place (ends ++ e ∷ []) ≡ value_from (inner_from place ends) e
inner-append place [] e = refl
inner-append place (f ∷ ends) e = inner-append (value_from place f) ends e

-- after one end more
pub inner-more : (place i : ℕ) (ends : List ℕ) → i < length ends
    → inner_from place (take (i + 1) ends) ≡ value_from (inner_from place (take i ends)) (get_or ends i 0)
inner-more place i ends lt =
    ap (inner_from place) (take_more ends i 0 lt) ∙ inner-append place (take i ends) (get_or ends i 0)

-- ---- what an octet can be refused for

-- an octet that may come isn't refused
pub step-right : (h : Header) (x : ℕ) (next : Next) (level room : ℕ) (r : TlvReason) → IsWell h
    → IsNext (header_octets h) x next → (header_octets h ≡ [] → level ≡ 16 → x ≡ 0) → next_need next < room
    → IsWrong level room (header_octets h) x r → ⊥
step-right h x next level room TooDeep well follows shallow fits w = w.2 (shallow w.0 w.1)
step-right h x next level room TagSecond well follows shallow fits w = (next_right h x next well follows).second w
step-right h x next level room TagLong well follows shallow fits w = (next_right h x next well follows).third w
step-right h x next level room LengthForm well follows shallow fits w = (next_right h x next well follows).length_form w
step-right h x next level room Overrun well follows shallow fits w =
    omega (arith, w.1, need_is (header_octets h) x next follows, fits)
step-right h x next level room TooLong well follows shallow fits w =
    omega (arith, w.1, need_is (header_octets h) x next follows, fits)
