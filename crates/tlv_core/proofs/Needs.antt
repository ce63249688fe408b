-- The least number of octets that must still come is right: no header and value have fewer.
use Rattle.std.proofs.Common.{inl, inr, ◌≡◌, ◌≢◌, ℕ, ◌+◌, ◌*◌, ◌-◌, ◌%◌, ◌^◌, ◌<◌, ◌≤◌, List, [], ◌∷◌, ◌++◌, length, refl, sym, ap, subst, ◌∙◌, arith, zero, suc, length-append, cond, Bool}
use borrow.Author.Tests.{lt-ltb, le-ltb, eq-eqb, ne_eqb}
use Rattle.std.proofs.lemmas.Nat.{pow-add}
use Rattle.tlv_core.specs.Number.{number_of, high_first}
use Rattle.tlv_core.specs.Tag.{IsTag, IsLong, length_field, header_of}
use Rattle.tlv_core.specs.Form.{further, capacity}
use Rattle.tlv_core.specs.Reasons.{need, need_after_one, need_after_two, need_in_length}
use Rattle.tlv_core.specs.declared.form.Form.{Form}
use Rattle.tlv_core.proofs.Forms.{form_cases, field-one, capacity-one, length-field}
use Rattle.tlv_core.proofs.Numbers.{length-high_first, number-high_first}
use Rattle.tlv_core.proofs.One.{head_of, tail_of}

-- ---- what need computes to

-- after a filler nothing is needed
pub need-zero : (more : List ℕ) → need (0 ∷ more) ≡ 0
need-zero more = refl

-- after a tag octet that no other follows, the length field says what is needed
pub need-short : (x : ℕ) (more : List ℕ) → 0 < x → x % 32 ≢ 31 → need (x ∷ more) ≡ need_in_length more
need-short zero more lt ne = absurd (omega arith)
need-short (suc x) more lt ne = ap (λ (b : Bool). cond b (need_after_one more) (need_in_length more))
    (ne_eqb (suc x % 32) 31 ne)

-- a first tag octet that others follow isn't 00
pub long_positive : (x : ℕ) → IsLong x → 0 < x
long_positive zero h = let long : 0 % 32 ≡ 31 = h in omega (arith, long)
long_positive (suc x) h = omega arith

-- after such an octet, the octets that follow it say what is needed
pub need-long : (x : ℕ) (more : List ℕ) → IsLong x → need (x ∷ more) ≡ need_after_one more
need-long zero more h = let long : 0 % 32 ≡ 31 = h in absurd (omega (arith, long))
need-long (suc x) more h = ap (λ (b : Bool). cond b (need_after_one more) (need_in_length more))
    (eq-eqb (suc x % 32) 31 h)

-- after a second tag octet below 128, the length field does
pub need_after-last : (y : ℕ) (more : List ℕ) → y < 128 → need_after_one (y ∷ more) ≡ need_in_length more
need_after-last y more lt = ap (λ (b : Bool). cond b (need_in_length more) (need_after_two more)) (lt-ltb y 128 lt)

-- after any other second octet, a third follows
pub need_after-more : (y : ℕ) (more : List ℕ) → 128 ≤ y → need_after_one (y ∷ more) ≡ need_after_two more
need_after-more y more le = ap (λ (b : Bool). cond b (need_in_length more) (need_after_two more)) (le-ltb y 128 le)

-- a length field of one octet needs what it says
pub need_in-one : (n : ℕ) → n < 128 → need_in_length (n ∷ []) ≡ n
need_in-one n lt = ap (λ (b : Bool). cond b n ((n - 128 - 0) + 0 * 256 ^ (n - 128 - 0))) (lt-ltb n 128 lt)

-- a longer one needs its octets that are left, and the least length that it can say with them
pub need_in-more : (k : ℕ) (more : List ℕ)
    → need_in_length ((128 + k) ∷ more) ≡ (k - length more) + number_of more * 256 ^ (k - length more)
need_in-more k more =
    let left : 128 + k - 128 - length more ≡ k - length more = omega arith in
    ap (λ (b : Bool). cond b (128 + k) ((128 + k - 128 - length more) + number_of more * 256 ^
    (128 + k - 128 - length more))) (le-ltb (128 + k) 128 (omega arith))
    ∙ ap (λ (m : ℕ). m + number_of more * 256 ^ m) left

-- ---- least

-- in joined octets, the first ones count 256 times as much for each of those after them
pub number-append : (a b : List ℕ) → number_of (a ++ b) ≡ number_of a * 256 ^ length b + number_of b
number-append [] b = omega arith
number-append (x ∷ a) b =
    let rest = number-append a b in
    let power : 256 ^ length (a ++ b) ≡ 256 ^ length a * 256 ^ length b =
    ap (λ (n : ℕ). 256 ^ n) (length-append a b) ∙ pow-add 256 (length a) (length b) in
    ap (λ (p : ℕ). x * p + number_of (a ++ b)) power ∙ ap (λ (m : ℕ). x * (256 ^ length a * 256 ^ length b) + m) rest
    ∙ omega arith

need_high : (k n : ℕ) (a m : List ℕ) → n < 256 ^ k → high_first k n ≡ a ++ m
    → need_in_length ((128 + k) ∷ a) ≤ length m + n
need_high k n a m lt e =
    let len : k ≡ length a + length m = sym (length-high_first k n) ∙ ap length e ∙ length-append a m in
    let number : n ≡ number_of a * 256 ^ length m + number_of m =
    sym (number-high_first k n lt) ∙ ap number_of e ∙ number-append a m in
    let left : k - length a ≡ length m = omega arith in
    let is : need_in_length ((128 + k) ∷ a) ≡ length m + number_of a * 256 ^ length m =
    need_in-more k a ∙ ap (λ (j : ℕ). j + number_of a * 256 ^ j) left in
    omega (arith, is, number)

-- a length field has an octet
pub field_positive : (form : Form) (n : ℕ) → 1 ≤ length (length_field form n)
field_positive form n = omega (arith, length-field form n)

need_one : (n y : ℕ) (a m : List ℕ) → n < 128 → n ≡ y → length a ≡ 0 → need_in_length (y ∷ a) ≤ length m + n
need_one n y [] m lt e h = omega (arith, need_in-one y (omega arith))
need_one n y (z ∷ a) m lt e h = absurd (omega arith)

need_field_one : (n : ℕ) (a m : List ℕ) → n < 128 → n ∷ [] ≡ a ++ m → need_in_length a ≤ length m + n
need_field_one n [] m lt e = omega (arith, ap length e)
need_field_one n (y ∷ a) m lt e =
    let nothing : length (a ++ m) ≡ 0 = sym (ap length (tail_of e)) in
    need_one n y a m lt (head_of e) (omega (arith, nothing, length-append a m))

need_field_long : (k n : ℕ) (a m : List ℕ) → n < 256 ^ k → (128 + k) ∷ high_first k n ≡ a ++ m
    → need_in_length a ≤ length m + n
need_field_long k n [] m lt e = omega (arith, ap length e)
need_field_long k n (y ∷ a) m lt e = subst (λ (z : ℕ). need_in_length (z ∷ a) ≤ length m + n) (head_of e)
    (need_high k n a m lt (tail_of e))

need_field : (form : Form) (n : ℕ) (a m : List ℕ) → n < capacity form → length_field form n ≡ a ++ m
    → need_in_length a ≤ length m + n
need_field form n a m lt e =
    elim (form_cases form) [
      | inl one ↦ need_field_one n a m (omega (arith, capacity-one form one)) (sym (field-one form n one) ∙ e)
      | inr long ↦ need_field_long (further form) n a m (omega (arith, long.capacity_is)) (sym (long.field n) ∙ e)
    ]

-- a part of a header that is not empty needs no more than comes
pub need_header : (tag : List ℕ) (form : Form) (n x : ℕ) (a m : List ℕ) → IsTag tag → n < capacity form
    → header_of tag form n ≡ x ∷ a ++ m → need (x ∷ a) ≤ length m + n
need_header [] form n x a m h lt e = absurd h
need_header (t ∷ []) form n x a m h lt e =
    let same : t ≡ x = head_of e in
    let is : need (x ∷ a) ≡ need_in_length a =
    subst (λ (z : ℕ). need (z ∷ a) ≡ need_in_length a) same (need-short t a h.0 h.2) in
    omega (arith, is, need_field form n a m lt (tail_of e))
need_header (t ∷ u ∷ []) form n x [] m h lt e =
    let same : t ≡ x = head_of e in
    let is : need (x ∷ []) ≡ 2 = subst (λ (z : ℕ). need (z ∷ []) ≡ 2) same (need-long t [] h.1) in
    omega (arith, is, ap length (tail_of e), field_positive form n)
need_header (t ∷ u ∷ []) form n x (y ∷ a) m h lt e =
    let same : t ≡ x = head_of e in
    let second : u ≡ y = head_of (tail_of e) in
    let is : need (x ∷ y ∷ a) ≡ need_in_length a =
    subst (λ (z : ℕ). need (z ∷ y ∷ a) ≡ need_in_length a) same
    (need-long t (y ∷ a) h.1 ∙ need_after-last y a (omega arith)) in
    omega (arith, is, need_field form n a m lt (tail_of (tail_of e)))
need_header (t ∷ u ∷ v ∷ []) form n x [] m h lt e =
    let same : t ≡ x = head_of e in
    let is : need (x ∷ []) ≡ 2 = subst (λ (z : ℕ). need (z ∷ []) ≡ 2) same (need-long t [] h.1) in
    omega (arith, is, ap length (tail_of e))
need_header (t ∷ u ∷ v ∷ []) form n x (y ∷ []) m h lt e =
    let same : t ≡ x = head_of e in
    let second : u ≡ y = head_of (tail_of e) in
    let is : need (x ∷ y ∷ []) ≡ 2 = subst (λ (z : ℕ). need (z ∷ y ∷ []) ≡ 2) same
    (need-long t (y ∷ []) h.1 ∙ need_after-more y [] (omega arith)) in
    omega (arith, is, ap length (tail_of (tail_of e)), field_positive form n)
need_header (t ∷ u ∷ v ∷ []) form n x (y ∷ z ∷ a) m h lt e =
    let same : t ≡ x = head_of e in
    let second : u ≡ y = head_of (tail_of e) in
    let is : need (x ∷ y ∷ z ∷ a) ≡ need_in_length a =
    subst (λ (w : ℕ). need (w ∷ y ∷ z ∷ a) ≡ need_in_length a) same
    (need-long t (y ∷ z ∷ a) h.1 ∙ need_after-more y (z ∷ a) (omega arith)) in
    omega (arith, is, need_field form n a m lt (tail_of (tail_of (tail_of e))))
need_header (t ∷ u ∷ v ∷ w ∷ more) form n x a m h lt e = absurd h
