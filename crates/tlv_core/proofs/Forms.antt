-- What is known of the forms of length fields. The proofs by cases on the forms stand here alone.
use Rattle.std.proofs.Common.{◌≡◌, ℕ, ◌+◌, ◌^◌, ◌<◌, ◌≤◌, [], ◌∷◌, length, refl, sym, ap, subst, ◌∙◌, inl, inr, ◌⊎◌, arith, cond, ltb, Bool}
use borrow.Author.Tests.{lt-ltb, le-ltb}
use Rattle.std.proofs.lemmas.Bool.{cases_lt}
use Rattle.tlv_core.specs.Number.{high_first}
use Rattle.tlv_core.specs.Form.{further, capacity, form_of, form_back, shortest}
use Rattle.tlv_core.specs.Tag.{length_field}
use Rattle.tlv_core.specs.declared.form.Form.{Form}
use Rattle.tlv_core.specs.declared.form.Form.TheVariants.{One, Two, Three, Four, Five}
use Rattle.octet_core.specs.Octets.{AreOctets}
use Rattle.octet_core.proofs.Lists.{octets-cons}
use Rattle.tlv_core.proofs.Numbers.{length-high_first, octets_nil, octets-high_first, pow_up}

-- a form whose first octet counts the others
pub record IsLongForm (form : Form) : Type 0 where
  pub some : 0 < further form
  pub capacity_is : capacity form ≡ 256 ^ further form
  pub field : (n : ℕ) → length_field form n ≡ (128 + further form) ∷ high_first (further form) n

-- ---- by cases

-- a form is that of one octet, or its first octet counts the others
pub form_cases : (form : Form) → (form ≡ One) ⊎ IsLongForm form
form_cases One = inl refl
form_cases Two = inr (record { some = omega arith; capacity_is = refl; field = λ n. refl })
form_cases Three = inr (record { some = omega arith; capacity_is = refl; field = λ n. refl })
form_cases Four = inr (record { some = omega arith; capacity_is = refl; field = λ n. refl })
form_cases Five = inr (record { some = omega arith; capacity_is = refl; field = λ n. refl })

-- no form has more octets than the last
pub last_form : (form : Form) → further form ≤ further Five
last_form One = omega arith
last_form Two = omega arith
last_form Three = omega arith
last_form Four = omega arith
last_form Five = omega arith

-- ---- from these

-- forms with as many further octets are one
pub further_one : (f g : Form) → further f ≡ further g → f ≡ g
further_one f g e = sym (form_back f) ∙ ap form_of e ∙ form_back g

-- in the form of one octet the length field is the length itself
pub field-one : (form : Form) (n : ℕ) → form ≡ One → length_field form n ≡ n ∷ []
field-one form n e = ap (λ (f : Form). length_field f n) e

-- this form can say the lengths below 128
pub capacity-one : (form : Form) → form ≡ One → capacity form ≡ 128
capacity-one form e = ap capacity e

-- a length field has one octet more than its further ones
pub length-field : (form : Form) (n : ℕ) → length (length_field form n) ≡ 1 + further form
length-field form n =
    elim (form_cases form) [
      | inl one ↦ omega (arith, ap length (field-one form n one), ap further one)
      | inr long ↦ omega (arith, ap length (long.field n), length-high_first (further form) n)
    ]

-- a form of more octets can say what one of fewer can
pub capacity_up : (f g : Form) → further f ≤ further g → capacity f ≤ capacity g
capacity_up f g le =
    elim (form_cases f) [
      | inl one ↦ elim (form_cases g) [
        | inl same ↦ omega (arith, capacity-one f one, capacity-one g same)
        | inr long ↦ omega (arith, capacity-one f one, long.capacity_is, pow_up 1 (further g) long.some)
      ]
      | inr long ↦ elim (form_cases g) [
        | inl one ↦ absurd (omega (arith, long.some, ap further one))
        | inr more ↦ omega (arith, long.capacity_is, more.capacity_is, pow_up (further f) (further g) le)
      ]
    ]

-- a form that can say what f can't has more octets
above : (f form : Form) (n : ℕ) → capacity f ≤ n → n < capacity form → further f < further form
above f form n le lt =
    elim (cases_lt (further f) (further form)) [
      | inl h ↦ h
      | inr h ↦ absurd (omega (arith, capacity_up form f h))
    ]

chosen : (n : ℕ) (f other : Form) → n < capacity f → cond (ltb n (capacity f)) f other ≡ f
chosen n f other lt = ap (λ (b : Bool). cond b f other) (lt-ltb n (capacity f) lt)

passed : (n : ℕ) (f other : Form) → capacity f ≤ n → cond (ltb n (capacity f)) f other ≡ other
passed n f other le = ap (λ (b : Bool). cond b f other) (le-ltb n (capacity f) le)

-- what the form chosen for n has to be
abbrev IsBest : ℕ → Form → Form → Type 0
IsBest n form f = (n < capacity f) × (further f ≤ further form)

best_four : (form : Form) (n : ℕ) → n < capacity form → capacity Three ≤ n
    → IsBest n form (cond (ltb n (capacity Four)) Four Five)
best_four form n lt le =
    elim (cases_lt n (capacity Four)) [
      | inl h ↦ subst (IsBest n form) (sym (chosen n Four Five h)) (h, above Three form n le lt)
      | inr h ↦
          let most : further Four < further form = above Four form n h lt in
          let room : n < capacity Five = omega (arith, lt, capacity_up form Five (last_form form)) in
          subst (IsBest n form) (sym (passed n Four Five h)) (room, most)
    ]

best_three : (form : Form) (n : ℕ) → n < capacity form → capacity Two ≤ n
    → IsBest n form (cond (ltb n (capacity Three)) Three (cond (ltb n (capacity Four)) Four Five))
best_three form n lt le =
    let other : Form = cond (ltb n (capacity Four)) Four Five in
    elim (cases_lt n (capacity Three)) [
      | inl h ↦ subst (IsBest n form) (sym (chosen n Three other h)) (h, above Two form n le lt)
      | inr h ↦ subst (IsBest n form) (sym (passed n Three other h)) (best_four form n lt h)
    ]

best_two : (form : Form) (n : ℕ) → n < capacity form → capacity One ≤ n
    → IsBest n form (cond (ltb n (capacity Two)) Two
    (cond (ltb n (capacity Three)) Three (cond (ltb n (capacity Four)) Four Five)))
best_two form n lt le =
    let other : Form = cond (ltb n (capacity Three)) Three (cond (ltb n (capacity Four)) Four Five) in
    elim (cases_lt n (capacity Two)) [
      | inl h ↦ subst (IsBest n form) (sym (chosen n Two other h)) (h, above One form n le lt)
      | inr h ↦ subst (IsBest n form) (sym (passed n Two other h)) (best_three form n lt h)
    ]

-- the shortest form can say n, and no form that can has fewer octets
pub best : (form : Form) (n : ℕ) → n < capacity form → (n < capacity (shortest n))
    × (further (shortest n) ≤ further form)
best form n lt =
    let other : Form = cond (ltb n (capacity Two)) Two
    (cond (ltb n (capacity Three)) Three (cond (ltb n (capacity Four)) Four Five)) in
    elim (cases_lt n (capacity One)) [
      | inl h ↦ subst (IsBest n form) (sym (chosen n One other h)) (h, omega arith)
      | inr h ↦ subst (IsBest n form) (sym (passed n One other h)) (best_two form n lt h)
    ]

octets-one : (n : ℕ) → n < 256 → AreOctets (n ∷ [])
octets-one n lt = octets-cons n [] lt octets_nil

-- a length field is octets
pub octets-field : (form : Form) (n : ℕ) → n < capacity form → AreOctets (length_field form n)
octets-field form n lt =
    elim (form_cases form) [
      | inl one ↦ subst AreOctets (sym (field-one form n one)) (octets-one n (omega (arith, capacity-one form one)))
      | inr long ↦
          subst AreOctets (sym (long.field n))
          (octets-cons (128 + further form) (high_first (further form) n) (omega (arith, last_form form))
          (octets-high_first (further form) n (omega (arith, long.capacity_is))))
    ]
