-- A forest begins with octets exactly where none of them meets a reason, and then zeros complete them.
use Rattle.std.proofs.Common.{◌≡◌, ◌≢◌, ℕ, ◌+◌, ◌-◌, ◌<◌, ◌≤◌, List, [], ◌∷◌, ◌++◌, length, get_or, take, drop, refl, sym, ap, subst, ◌∙◌, inl, inr, ◌⊎◌, arith, rules, zero, suc, append-nil, append_assoc, length-append, length-take}
use Rattle.std.proofs.lemmas.Bool.{cases_lt, cases_eq}
use Rattle.std.proofs.lemmas.List.{take_more, take-append-drop, take_all}
use Rattle.octet_core.specs.Octets.{AreOctets}
use Rattle.tlv_core.specs.Number.{number_of, high_first, zeros}
use Rattle.octet_core.specs.Grammar.{Begins}
use Rattle.tlv_core.specs.Tag.{IsLong, header_of}
use Rattle.tlv_core.specs.Form.{form_of, form_back, further}
use Rattle.tlv_core.specs.Tree.{End}
use Rattle.tlv_core.specs.Forest.{spelling, IsObject, IsForest}
use Rattle.tlv_core.specs.Reasons.{Opens, IsBegun, need, room_of, BeginsLength, IsWrong, EndsInHeader}
use Rattle.tlv_core.specs.Laws.{MeetsNone, EndsInLong, IsCompletedBy, Completion}
use Rattle.tlv_core.specs.declared.form.Form.{Form}
use Rattle.tlv_core.specs.declared.form.Form.TheVariants.{One}
use Rattle.tlv_core.specs.declared.reason.TlvReason.{TlvReason}
use Rattle.tlv_core.specs.declared.reason.TlvReason.TheVariants.{TooDeep, TagSecond, TagLong, LengthForm, Overrun, TooLong}
use Rattle.tlv_core.proofs.Forms.{form_cases, field-one, capacity-one}
use Rattle.octet_core.proofs.Lists.{octets-append, regroup}
use Rattle.tlv_core.proofs.Numbers.{pow256}
use Rattle.tlv_core.proofs.One.{head_of}
use Rattle.tlv_core.proofs.Refused.{refused, needs_one}
use Rattle.tlv_core.proofs.Stands.{Under, Nothing, First, Second, Tagged, Sized, Valued, under_octets, IsUnder, under_need, repair, IsHeader, FitsIn, fits_need, fits_room, Stands, step, complete, Allowed, field_more, octets-zeros, length-zeros}

-- ---- a part of a header is one

one_zero : (k : ℕ) → 0 < k → zeros k ≡ 0 ∷ zeros (k - 1)
one_zero zero lt = absurd (omega arith)
one_zero (suc k) lt = let e : k ≡ suc k - 1 = omega arith in ap (λ (n : ℕ). 0 ∷ zeros n) e

-- what is under way before an octet of a header is a part of one
pub under_begun : (u : Under) (d : ℕ) → IsUnder d u → IsHeader u → IsBegun (under_octets u)
under_begun Nothing d ok h = record {
  tag = 1 ∷ [];
  form = One;
  n = 0;
  next = 1;
  more = 0 ∷ [];
  is_tag =
      search rules;
  fits = omega arith;
  is = refl;
}
under_begun (First x) d ok h = record {
  tag = x ∷ 1 ∷ [];
  form = One;
  n = 0;
  next = 1;
  more = 0 ∷ [];
  is_tag =
      (ok.1, ok.2, omega arith, omega arith);
  fits = omega arith;
  is = refl;
}
under_begun (Second x y) d ok h = record {
  tag = x ∷ y ∷ 0 ∷ [];
  form = One;
  n = 0;
  next = 0;
  more = 0 ∷ [];
  is_tag =
      (ok.1, ok.2, ok.3, ok.4, omega arith);
  fits = omega arith;
  is = refl;
}
under_begun (Tagged tag) d ok h = record {
  tag = tag;
  form = One;
  n = 0;
  next = 0;
  more = [];
  is_tag = ok.1;
  fits =
      omega arith;
  is = refl;
}
under_begun (Sized tag form more) d ok h =
    let k = further form - length more in
    let all = more ++ zeros k in
    let len : length all ≡ further form = omega (arith, length-append more (zeros k), length-zeros k, ok.2) in
    let field = field_more form all len (omega (arith, ok.2)) (octets-append more (zeros k) ok.3 (octets-zeros k)) in
    record {
      tag = tag;
      form = form;
      n = number_of all;
      next = 0;
      more = zeros (k - 1);
      is_tag = ok.1;
      fits = field.0;
      is = append_assoc tag ((128 + further form) ∷ more) (0 ∷ zeros (k - 1))
          ∙ ap (λ (l : List ℕ). tag ++ (128 + further form) ∷ (more ++ l)) (sym (one_zero k (omega (arith, ok.2))))
          ∙ ap (λ (l : List ℕ). tag ++ l) (sym field.1);
    }
under_begun (Valued tag form value left) d ok h = absurd h

-- ---- what meets no reason is allowed

-- no length field begins with 80, nor with an octet that counts no form's octets
pub not_begins : (x k : ℕ) → x ≡ 128 + k → (k ≡ 0) ⊎ (further (form_of k) ≢ k) → BeginsLength x → ⊥
not_begins x k e bad h =
    elim (form_cases h.0) [
      | inl one ↦ omega (arith, head_of (sym (field-one h.0 h.1 one) ∙ h.4), capacity-one h.0 one, h.3)
      | inr long ↦
          let same : k ≡ further h.0 = omega (arith, head_of (sym (long.field h.1) ∙ h.4)) in
          elim bad [
            | inl none ↦ omega (arith, long.some)
            | inr other ↦ other (ap (λ (j : ℕ). further (form_of j)) same ∙ ap further (form_back h.0) ∙ sym same)
          ]
    ]

begins_form : (x : ℕ) (form : Form) → 0 < further form → x ≡ 128 + further form → BeginsLength x
begins_form x form some e =
    elim (form_cases form) [
      | inl one ↦ absurd (omega (arith, ap further one))
      | inr long ↦ (
        form,
        0,
        high_first (further form) 0,
        omega (arith, long.capacity_is, pow256 (further form)),
        long.field 0 ∙ ap (λ (y : ℕ). y ∷ high_first (further form) 0) (sym e),
      )
    ]

-- a length field begins with the octet, or none does
pub begins_cases : (x : ℕ) → BeginsLength x ⊎ (BeginsLength x → ⊥)
begins_cases x =
    elim (cases_lt x 128) [
      | inl lt ↦ inl (One, x, [], lt, refl)
      | inr le ↦
          let k = x - 128 in
          let is : x ≡ 128 + k = omega arith in
          elim (cases_eq k 0) [
            | inl none ↦ inr (not_begins x k is (inl none))
            | inr some ↦ elim (cases_eq (further (form_of k)) k) [
              | inl same ↦ inl (begins_form x (form_of k) (omega arith) (omega arith))
              | inr other ↦ inr (not_begins x k is (inr other))
            ]
          ]
    ]

no_room : (left : ℕ) (rooms h : List ℕ) (x : ℕ)
    → ((r : TlvReason) → IsWrong (length rooms) (room_of left rooms) h x r → ⊥)
    → room_of left rooms < 1 + need (h ++ x ∷ []) → ⊥
no_room left [] h x none lt = none TooLong (refl, lt)
no_room left (room ∷ rooms) h x none lt = none Overrun (omega arith, lt)

allowed : (left : ℕ) (rooms h : List ℕ) (x : ℕ)
    → ((r : TlvReason) → IsWrong (length rooms) (room_of left rooms) h x r → ⊥)
    → Allowed (1 + length rooms) (room_of left rooms) h x
allowed left rooms h x none =
    record {
      deep = λ empty deep. elim (cases_eq x 0) [ inl z ↦ z | inr nz ↦ absurd (none TooDeep (empty, omega arith, nz)) ];
      second = λ awaits bad. none TagSecond (awaits, bad);
      third = λ awaits. elim (cases_lt x 128) [ inl lt ↦ lt | inr le ↦ absurd (none TagLong (awaits, le)) ];
      length_form = λ tag. elim (begins_cases x) [ inl b ↦ b | inr nb ↦ absurd (none LengthForm (tag, nb)) ];
      room_left = elim (cases_lt (room_of left rooms) (1 + need (h ++ x ∷ [])))
          [ inl lt ↦ absurd (no_room left rooms h x none lt) | inr le ↦ le ];
    }

-- ---- every octet leads on

some_room : (u : Under) (d left : ℕ) (rooms : List ℕ) (x : ℕ) → IsUnder d u → FitsIn left rooms (under_need u)
    → (IsHeader u → Allowed d (room_of left rooms) (under_octets u) x) → 1 ≤ left
some_room Nothing d left rooms x ok fits a = omega (arith, (a tt).room_left, fits_room rooms left 0 fits)
some_room (First y) d left rooms x ok fits a = omega (arith, fits_need rooms left 2 fits, fits_room rooms left 2 fits)
some_room (Second y z) d left rooms x ok fits a =
    omega (arith, fits_need rooms left 2 fits, fits_room rooms left 2 fits)
some_room (Tagged tag) d left rooms x ok fits a =
    omega (arith, fits_need rooms left 1 fits, fits_room rooms left 1 fits)
some_room (Sized tag form more) d left rooms x ok fits a =
    omega (arith, (a tt).room_left, fits_room rooms left (under_need (Sized tag form more)) fits)
some_room (Valued tag form value k) d left rooms x ok fits a =
    omega (arith, fits_need rooms left k fits, fits_room rooms left k fits, ok.2)

-- one octet that meets no reason
pub stands_more : (n max : ℕ) (b : List ℕ) → AreOctets b → n < length b → n ≤ max → (s : Stands 1 (max - n) (take n b))
    → (IsHeader s.under → (r : TlvReason)
    → IsWrong (length s.rooms) (room_of (max - n) s.rooms) (under_octets s.under) (get_or b n 0) r → ⊥)
    → (suc n ≤ max) × Stands 1 (max - suc n) (take (suc n) b)
stands_more n max b octets lt le s none =
    let x = get_or b n 0 in
    let more : take (n + 1) b ≡ take n b ++ x ∷ [] = take_more b n 0 lt in
    let header : IsHeader s.under → Allowed (1 + length s.rooms) (room_of (max - n) s.rooms) (under_octets s.under) x =
    λ h. allowed (max - n) s.rooms (under_octets s.under) x (none h) in
    let room : 1 ≤ max - n = some_room s.under (1 + length s.rooms) (max - n) s.rooms x s.ok s.fits header in
    let after = step s.rooms 1 (max - n) s.under (take n b) x (omega arith) s.opens s.ok s.fits (octets n) header in
    let left : max - n - 1 ≡ max - suc n = omega arith in
    let next : n + 1 ≡ suc n = omega arith in (
      omega arith,
      subst (λ (k : ℕ). Stands 1 k (take (suc n) b)) left
          (subst (λ (l : List ℕ). Stands 1 (max - n - 1) l) (sym more ∙ ap (λ (k : ℕ). take k b) next) after),
    )

-- the octet at place n, after what stands so
abbrev pub ends_in_header : (n max : ℕ) (b : List ℕ) → n < length b → (s : Stands 1 (max - n) (take n b))
    → IsHeader s.under → EndsInHeader (take (n + 1) b)
ends_in_header n max b lt s h = record {
  before = take n b;
  octet = get_or b n 0;
  rooms = s.rooms;
  header =
      under_octets s.under;
  is = take_more b n 0 lt;
  opens = s.opens;
  begun =
      under_begun s.under (1 + length s.rooms) s.ok h;
}

-- where no octet meets a reason, the first n are within the limit, and leave open what fits
pub stands_all : (n max : ℕ) (b : List ℕ) → AreOctets b → MeetsNone max b → n ≤ length b → (n ≤ max)
    × Stands 1 (max - n) (take n b)
stands_all zero max b octets none le = (
  omega arith,
  record {
    rooms = [];
    under = Nothing;
    opens = record { done = End; proper = tt; is = refl };
    ok =
        omega arith;
    fits = omega arith;
  },
)
stands_all (suc n) max b octets none le =
    let before = stands_all n max b octets none (omega arith) in
    let s = before.1 in
    let count : length (take n b) ≡ n = omega (arith, length-take n b) in
    stands_more n max b octets (omega arith) before.0 s
    (λ h r w. none n r (omega arith) (
      ends_in_header n max b (omega arith) s h,
      subst (λ (k : ℕ). IsWrong (length s.rooms) (room_of (max - k) s.rooms) (under_octets s.under) (get_or b n 0) r)
          (sym count) w,
    ))

-- and so do all of them
pub stands_of : (max : ℕ) (b : List ℕ) → AreOctets b → MeetsNone max b → (length b ≤ max) × Stands 1 (max - length b) b
stands_of max b octets none =
    let s = stands_all (length b) max b octets none (omega arith) in
    (s.0, subst (λ (l : List ℕ). Stands 1 (max - length b) l) (take_all (length b) b (omega arith)) s.1)

-- ---- the law

-- what is left open is completed by zeros, after 01 where a first tag octet awaits a second
pub completed : (max : ℕ) (b : List ℕ) (s : Stands 1 (max - length b) b) → length b ≤ max
    → IsCompletedBy max b (repair s.under)
completed max b s le =
    let c = complete s.rooms 1 (max - length b) s.under b s.opens s.ok s.fits in
    (c.list, c.count, record { proper = c.proper; is = sym c.is; size = omega (arith, c.size, ap length c.is) })

-- a forest begins with octets of which none meets a reason
pub none_begins : (max : ℕ) (b : List ℕ) → AreOctets b → MeetsNone max b → Begins (IsForest max) b
none_begins max b octets none =
    let s = stands_of max b octets none in
    let c = completed max b s.1 s.0 in
    (c.0, repair s.1.under ++ zeros c.1, subst (IsForest max c.0) (append_assoc b (repair s.1.under) (zeros c.1)) c.2)

-- and no octet of what begins a forest meets one
pub begins_none : (max : ℕ) (b : List ℕ) → Begins (IsForest max) b → MeetsNone max b
begins_none max b h i r lt m =
    let parts : take (i + 1) b ++ drop (i + 1) b ≡ b = take-append-drop (i + 1) b in
    refused max (take (i + 1) b) r m (
      h.0,
      drop (i + 1) b ++ h.1,
      subst (IsForest max h.0) (ap (λ (l : List ℕ). l ++ h.1) (sym parts)
          ∙ append_assoc (take (i + 1) b) (drop (i + 1) b) h.1) h.2,
    )

-- a first tag octet is taken back, and each room is one more
pub take_back : (rooms : List ℕ) (d x : ℕ) (b : List ℕ) → Opens d rooms (x ∷ []) b → (before : List ℕ) × (more : List ℕ)
    × (b ≡ before ++ x ∷ []) × Opens d more [] before
take_back [] d x b opens = (
  spelling opens.done,
  [],
  opens.is,
  record { done = opens.done; proper = opens.proper; is = sym (append-nil (spelling opens.done)) },
)
take_back (room ∷ rooms) d x b opens =
    let o = opens.1 in
    let r = take_back rooms (d + 1) x opens.0 opens.2 in
    let n = length opens.0 + room in
    let same : n ≡ length r.0 + (room + 1) = omega (arith, ap length r.2, length-append r.0 (x ∷ [])) in
    let header = header_of o.tag o.form n in
    let before = spelling o.done ++ (header ++ r.0) in (
      before,
      (room + 1) ∷ r.1,
      o.is ∙ ap (λ (l : List ℕ). spelling o.done ++ (header ++ l)) r.2
          ∙ sym (regroup (spelling o.done) header r.0 (x ∷ [])),
      (
        r.0,
        record {
          done = o.done;
          proper = o.proper;
          tag = o.tag;
          form = o.form;
          object = subst (λ (m : ℕ). IsObject d 1 o.tag o.form m) same o.object;
          open_yet = omega arith;
          is = ap (λ (m : ℕ). spelling o.done ++ (header_of o.tag o.form m ++ r.0)) same;
        },
        r.3,
      ),
    )

ends_in_long : (max d : ℕ) (b : List ℕ) (x : ℕ) (rooms : List ℕ) → Opens 1 rooms (x ∷ []) b → IsLong x → EndsInLong b
ends_in_long max d b x rooms opens long =
    let r = take_back rooms 1 x b opens in
    record { before = r.0; octet = x; rooms = r.1; is = r.2; opens = r.3; long = long }

plain : (max : ℕ) (b : List ℕ) → IsCompletedBy max b [] → (EndsInLong b → IsCompletedBy max b (1 ∷ []))
    × ((EndsInLong b → ⊥) → IsCompletedBy max b [])
plain max b c = (
  λ e. absurd (needs_one max c.1 b c.0 e
      (subst (λ (l : List ℕ). IsForest max c.0 (l ++ zeros c.1)) (append-nil b) c.2)),
  λ _. c,
)

either : (max : ℕ) (b : List ℕ) (u : Under) (d : ℕ) (rooms : List ℕ) → Opens 1 rooms (under_octets u) b → IsUnder d u
    → IsCompletedBy max b (repair u) → (EndsInLong b → IsCompletedBy max b (1 ∷ []))
    × ((EndsInLong b → ⊥) → IsCompletedBy max b [])
either max b Nothing d rooms opens ok c = plain max b c
either max b (First x) d rooms opens ok c = (λ _. c, λ not. absurd (not (ends_in_long max d b x rooms opens ok.2)))
either max b (Second x y) d rooms opens ok c = plain max b c
either max b (Tagged tag) d rooms opens ok c = plain max b c
either max b (Sized tag form more) d rooms opens ok c = plain max b c
either max b (Valued tag form value left) d rooms opens ok c = plain max b c

-- the law of completion holds of all octets
pub completion : (max : ℕ) (b : List ℕ) → AreOctets b → Completion max b
completion max b octets = (
  (begins_none max b, none_begins max b octets),
  λ begins.
      let s = stands_of max b octets (begins_none max b begins) in
      either max b s.1.under (1 + length s.1.rooms) s.1.rooms s.1.opens s.1.ok (completed max b s.1 s.0),
)
