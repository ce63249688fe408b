-- The first line of the table that a refused octet meets.
use Rattle.std.proofs.Common.{◌≡◌, ℕ, ◌+◌, ◌-◌, ◌*◌, ◌^◌, ◌<◌, ◌≤◌, List, [], ◌∷◌, ◌++◌, length, refl, sym, ap, subst, ◌∙◌, inl, inr, arith, append-nil, append_assoc, length-append, zero, suc, cond, eqb, Bool}
use borrow.Author.Tests.{eq-eqb, ne_eqb}
use Rattle.std.proofs.lemmas.Bool.{cases_eq}
use Rattle.octet_core.specs.Grammar.{IsFirst}
use Rattle.tlv_core.specs.declared.form.Form.{Form}
use Rattle.tlv_core.specs.declared.header.Header.{Header}
use Rattle.tlv_core.specs.declared.header.Header.TheVariants as header
use Rattle.tlv_core.specs.declared.header.Next.{Next}
use Rattle.tlv_core.specs.declared.header.Next.TheVariants as next
use Rattle.tlv_core.specs.declared.reason.TlvReason.{TlvReason}
use Rattle.tlv_core.specs.declared.reason.TlvReason.TheVariants.{TooDeep, TagSecond, TagLong, LengthForm, Overrun, TooLong}
use Rattle.tlv_core.specs.Number.{high_first, zeros, number_of}
use Rattle.tlv_core.specs.Form.{further, capacity}
use Rattle.tlv_core.specs.Tag.{IsTag, length_field}
use Rattle.tlv_core.specs.Forest.{spelling}
use Rattle.tlv_core.specs.Header.{header_octets, IsWell, IsNext, header_need, next_need}
use Rattle.tlv_core.specs.Reasons.{need, need_in_length, AwaitsSecond, AwaitsThird, IsBegun, IsWrong, tlv_reasons, octet_reasons}
use Rattle.tlv_core.proofs.Forms.{form_cases, field-one, capacity-one}
use Rattle.tlv_core.proofs.Numbers.{length-high_first, number-high_first}
use Rattle.tlv_core.proofs.Needs.{need_in-one, need_in-more, need-long, need_after-more}
use Rattle.tlv_core.proofs.Refused.{Bottom, wrong}
use Rattle.tlv_core.proofs.Stands.{need-tag, of_zeros, complete_under, under_octets, repair}
use Rattle.tlv_core.proofs.Taking.{under_of, octets_under, well_under}
use Rattle.tlv_core.proofs.Advances.{begun_of}

-- where an object would be too deep, that line is the first
pub first_deep : (level room : ℕ) (h : List ℕ) (x : ℕ) → IsWrong level room h x TooDeep
    → IsFirst tlv_reasons (IsWrong level room h x) TooDeep
unfolding IsFirst
first_deep level room h x w = inl (w, refl)

-- else the first of the lines on octets that the octet meets is the first of all
pub first_octet : (level room : ℕ) (h : List ℕ) (x : ℕ) (r : TlvReason) → (IsWrong level room h x TooDeep → ⊥)
    → IsFirst octet_reasons (IsWrong 0 0 h x) r → IsFirst tlv_reasons (IsWrong level room h x) r
unfolding IsFirst
first_octet level room h x r deep first =
    inr (
      deep,
      elim first [
        | inl a ↦ inl a
        | inr a ↦ inr (
          a.0,
          elim a.1 [
            | inl b ↦ inl b
            | inr b ↦ inr (b.0, elim b.1 [ inl c ↦ inl c | inr c ↦ absurd c.1 ])
          ],
        )
      ],
    )

-- ---- what makes a header meets none of the lines on octets

-- a list begins with the octets up to this one
bottom_of : (h : List ℕ) (x : ℕ) (next : Next) → IsNext h x next → (h ≡ [] → x ≡ 0 → ⊥) → (more : List ℕ)
    × Bottom 1 (1 + length more) h x more
bottom_of h x next.Filler is some = absurd (some is.0 is.1)
bottom_of h x (next.Under longer) is some =
    let c = complete_under 1 (under_of longer) (well_under longer 1 is.0 (omega arith)) in
    let more = repair (under_of longer) ++ zeros c.count in
    let spelled : spelling c.list ≡ h ++ x ∷ more =
    c.is ∙ append_assoc (under_octets (under_of longer)) (repair (under_of longer)) (zeros c.count)
    ∙ ap (λ (l : List ℕ). l ++ more) (octets_under longer ∙ is.1) ∙ append_assoc h (x ∷ []) more in (
      more,
      record {
        list = c.list;
        more = more;
        proper = c.proper;
        is = spelled;
        size = omega arith;
        after =
            [];
        all_is = sym (append-nil more);
      },
    )
bottom_of h x (next.Object o) is some =
    let z = of_zeros 1 o.tag o.form o.len (omega arith) is.0 is.1 in
    let more = zeros o.len in
    let spelled : spelling z.list ≡ h ++ x ∷ more =
    z.is ∙ ap (λ (l : List ℕ). l ++ more) is.2 ∙ append_assoc h (x ∷ []) more in (
      more,
      record {
        list = z.list;
        more = more;
        proper = z.proper;
        is = spelled;
        size = omega arith;
        after =
            [];
        all_is = sym (append-nil more);
      },
    )

-- the octet x after h meets none of the lines on octets
pub record MeetsNoOctet (h : List ℕ) (x : ℕ) : Type 0 where
  pub second : IsWrong 0 0 h x TagSecond → ⊥
  pub third : IsWrong 0 0 h x TagLong → ⊥
  pub length_form : IsWrong 0 0 h x LengthForm → ⊥

empty_none : (h : List ℕ) (x : ℕ) → h ≡ [] → MeetsNoOctet h x
empty_none h x e = record {
  second = λ w. subst AwaitsSecond e w.0;
  third = λ w. subst AwaitsThird e w.0;
  length_form =
      λ w. subst IsTag e w.0;
}

next_none : (h : List ℕ) (x : ℕ) (next : Next) → IsBegun h → IsNext h x next → (h ≡ [] → x ≡ 0 → ⊥) → MeetsNoOctet h x
next_none h x next begun is some =
    let b = bottom_of h x next is some in
    record {
      second = wrong 1 0 (1 + length b.0) h x TagSecond refl b.1 begun;
      third = wrong 1 0 (1 + length b.0) h x TagLong refl b.1 begun;
      length_form = wrong 1 0 (1 + length b.0) h x LengthForm refl b.1 begun;
    }

-- so it is with each octet that makes something of a header
pub next_right : (before : Header) (x : ℕ) (next : Next) → IsWell before → IsNext (header_octets before) x next
    → MeetsNoOctet (header_octets before) x
next_right before x next.Filler well is = empty_none (header_octets before) x is.0
next_right header.Nothing x (next.Under longer) well is = empty_none [] x refl
next_right header.Nothing x (next.Object o) well is = empty_none [] x refl
next_right (header.First a) x (next.Under longer) well is =
    next_none (a ∷ []) x (next.Under longer) (begun_of (header.First a) well) is (λ e z. cc)
next_right (header.First a) x (next.Object o) well is =
    next_none (a ∷ []) x (next.Object o) (begun_of (header.First a) well) is (λ e z. cc)
next_right (header.Second a b) x (next.Under longer) well is =
    next_none (a ∷ b ∷ []) x (next.Under longer) (begun_of (header.Second a b) well) is (λ e z. cc)
next_right (header.Second a b) x (next.Object o) well is =
    next_none (a ∷ b ∷ []) x (next.Object o) (begun_of (header.Second a b) well) is (λ e z. cc)
next_right (header.Tagged g) x (next.Under longer) well is =
    next_none g x (next.Under longer) (begun_of (header.Tagged g) well) is (λ e z. subst IsTag e well)
next_right (header.Tagged g) x (next.Object o) well is =
    next_none g x (next.Object o) (begun_of (header.Tagged g) well) is (λ e z. subst IsTag e well)
next_right (header.Sized g f read number) x (next.Under longer) well is =
    next_none (g ++ (128 + further f) ∷ high_first read number) x (next.Under longer)
    (begun_of (header.Sized g f read number) well) is
    (λ e z. absurd (omega (arith, ap length e, length-append g ((128 + further f) ∷ high_first read number))))
next_right (header.Sized g f read number) x (next.Object o) well is =
    next_none (g ++ (128 + further f) ∷ high_first read number) x (next.Object o)
    (begun_of (header.Sized g f read number) well) is
    (λ e z. absurd (omega (arith, ap length e, length-append g ((128 + further f) ∷ high_first read number))))

-- ---- what must still come

-- as many octets must still come of a header as its octets need
pub need_header : (longer : Header) → IsWell longer → need (header_octets longer) ≡ header_need longer
need_header header.Nothing well = refl
need_header (header.First a) well = need-long a [] well.1
need_header (header.Second a b) well = need-long a (b ∷ []) well.1 ∙ need_after-more b [] (omega (arith, well.2))
need_header (header.Tagged g) well = ap need (sym (append-nil g)) ∙ need-tag g [] well
need_header (header.Sized g f read number) well =
    need-tag g ((128 + further f) ∷ high_first read number) well.0 ∙ need_in-more (further f) (high_first read number)
    ∙ ap (λ (j : ℕ). (further f - j) + number_of (high_first read number) * 256 ^ (further f - j))
    (length-high_first read number)
    ∙ ap (λ (n : ℕ). (further f - read) + n * 256 ^ (further f - read)) (number-high_first read number well.2)

none_left : (n k : ℕ) → k ≡ 0 → k + n * 256 ^ k ≡ n
none_left n zero e = omega arith
none_left n (suc k) e = absurd (omega arith)

need_field : (form : Form) (n : ℕ) → n < capacity form → need_in_length (length_field form n) ≡ n
need_field form n lt =
    elim (form_cases form) [
      | inl one ↦ ap need_in_length (field-one form n one) ∙ need_in-one n (omega (arith, capacity-one form one))
      | inr long ↦
          let f = further form in
          let below : n < 256 ^ f = omega (arith, long.capacity_is) in
          ap need_in_length (long.field n) ∙ need_in-more f (high_first f n)
          ∙ ap (λ (j : ℕ). (f - j) + number_of (high_first f n) * 256 ^ (f - j)) (length-high_first f n)
          ∙ ap (λ (m : ℕ). (f - f) + m * 256 ^ (f - f)) (number-high_first f n below)
          ∙ none_left n (f - f) (omega arith)
    ]

-- as many octets must come after the octet as what it makes of the header needs
pub need_is : (h : List ℕ) (x : ℕ) (next : Next) → IsNext h x next → need (h ++ x ∷ []) ≡ next_need next
need_is h x next.Filler is = ap need (ap (λ (l : List ℕ). l ++ x ∷ []) is.0 ∙ ap (λ (y : ℕ). y ∷ []) is.1)
need_is h x (next.Under longer) is = ap need (sym is.1) ∙ need_header longer is.0
need_is h x (next.Object o) is = ap need (sym is.2) ∙ need-tag o.tag (length_field o.form o.len) is.0
    ∙ need_field o.form o.len is.1

-- ---- the lines on room

-- where no line above is met, an object is open and there is no room, this line is the first
pub first_overrun : (level room : ℕ) (h : List ℕ) (x : ℕ) → (IsWrong level room h x TooDeep → ⊥) → MeetsNoOctet h x
    → 0 < level → room ≤ need (h ++ x ∷ []) → IsFirst tlv_reasons (IsWrong level room h x) Overrun
unfolding IsFirst
first_overrun level room h x deep none some le =
    inr (deep, inr (none.second, inr (none.third, inr (none.length_form, inl ((some, omega arith), refl)))))

-- and where no object is open, the line on the whole is
pub first_long : (level room : ℕ) (h : List ℕ) (x : ℕ) → (IsWrong level room h x TooDeep → ⊥) → MeetsNoOctet h x
    → level ≡ 0 → room ≤ need (h ++ x ∷ []) → IsFirst tlv_reasons (IsWrong level room h x) TooLong
unfolding IsFirst
first_long level room h x deep none empty le =
    inr (
      deep,
      inr (
        none.second,
        inr (
          none.third,
          inr (none.length_form, inr (λ w. omega (arith, w.0), inl ((empty, omega arith), refl))),
        ),
      ),
    )

-- so the line is that on the whole, or on an object, as none or some is open
pub first_room : (ends level room : ℕ) (h : List ℕ) (x : ℕ) → level ≡ ends → (IsWrong level room h x TooDeep → ⊥)
    → MeetsNoOctet h x → room ≤ need (h ++ x ∷ [])
    → IsFirst tlv_reasons (IsWrong level room h x) (cond (eqb ends 0) TooLong Overrun)
first_room ends level room h x same deep none le =
    elim (cases_eq ends 0) [
      | inl empty ↦ subst (λ (b : Bool). IsFirst tlv_reasons (IsWrong level room h x) (cond b TooLong Overrun))
          (sym (eq-eqb ends 0 empty)) (first_long level room h x deep none (omega arith) le)
      | inr some ↦ subst (λ (b : Bool). IsFirst tlv_reasons (IsWrong level room h x) (cond b TooLong Overrun))
          (sym (ne_eqb ends 0 some)) (first_overrun level room h x deep none (omega arith) le)
    ]
