-- What one octet makes of a header.
use Rattle.std.proofs.Common.{◌≡◌, ℕ, ◌+◌, ◌*◌, ◌/◌, ◌%◌, ◌^◌, ◌<◌, ◌≤◌, List, [], ◌∷◌, ◌++◌, refl, sym, ap, subst, ◌∙◌, inl, inr, arith, suc, zero, append_assoc}
use Rattle.std.proofs.lemmas.Nat.{pow-add, div-mul-add, mod-mul-add, div-add-mod', mod_below}
use Rattle.octet_core.specs.Grammar.{IsFirst}
use Rattle.tlv_core.specs.declared.form.Form.{Form}
use Rattle.tlv_core.specs.declared.reason.TlvReason.TheVariants.{TagSecond, TagLong, LengthForm}
use Rattle.tlv_core.specs.declared.tag_part.TagPart.{TagPart}
use Rattle.tlv_core.specs.declared.tag_part.TagPart.TheVariants as part
use Rattle.tlv_core.specs.declared.header.Header.{Header}
use Rattle.tlv_core.specs.declared.header.Next.TheVariants as next
use Rattle.tlv_core.specs.TagPart.{part_octets, IsTagPart}
use Rattle.tlv_core.specs.Header.{header_octets, header_from, IsWell, IsNext}
use Rattle.tlv_core.specs.Number.{high_first}
use Rattle.tlv_core.specs.Form.{further, capacity}
use Rattle.tlv_core.specs.Tag.{IsTag, IsLong, header_of}
use Rattle.tlv_core.specs.Reasons.{AwaitsSecond, AwaitsThird, BeginsLength, IsWrong, octet_reasons}
use Rattle.tlv_core.proofs.Numbers.{pow256, pow_suc, pow_up}
use Rattle.tlv_core.proofs.Forms.{form_cases}

-- ---- the line of the table

-- a second tag octet whose low seven bits are all 0 meets that line first
pub first_second : (x y : ℕ) → IsLong x → y % 128 ≡ 0 → IsFirst octet_reasons (IsWrong 0 0 (x ∷ []) y) TagSecond
unfolding IsFirst
first_second x y long zeros = inl ((long, zeros), refl)

-- a third tag octet with bit 8 set meets that line first
pub first_third : (x y z : ℕ) → IsLong x → 128 ≤ y → 128 ≤ z
    → IsFirst octet_reasons (IsWrong 0 0 (x ∷ y ∷ []) z) TagLong
unfolding IsFirst
first_third x y z long more third = inr (λ w. w.0, inl (((long, more), third), refl))

-- a whole tag awaits no tag octet
tag_not_second : (tag : List ℕ) → IsTag tag → AwaitsSecond tag → ⊥
tag_not_second [] h w = w
tag_not_second (x ∷ []) h w = h.2 w
tag_not_second (x ∷ y ∷ tag) h w = w

tag_not_third : (tag : List ℕ) → IsTag tag → AwaitsThird tag → ⊥
tag_not_third [] h w = w
tag_not_third (x ∷ []) h w = w
tag_not_third (x ∷ y ∷ []) h w = omega (arith, h.3, w.1)
tag_not_third (x ∷ y ∷ z ∷ tag) h w = w

-- after a tag, an octet that begins no length field meets that line first
pub first_length : (tag : List ℕ) (x : ℕ) → IsTag tag → (BeginsLength x → ⊥)
    → IsFirst octet_reasons (IsWrong 0 0 tag x) LengthForm
unfolding IsFirst
first_length tag x h none = inr (
  λ w. tag_not_second tag h w.0,
  inr (λ w. tag_not_third tag h w.0, inl ((h, none), refl)),
)

-- ---- a length of several octets

-- fewer than four octets say a number that has room for one more octet
pub number_small : (read number : ℕ) → read < 4 → number < 256 ^ read → number < 2 ^ 24
number_small read number lt h = omega (arith, pow_up read 3 (omega arith))

mul-lt : (a b c : ℕ) → a < b → 0 < c → a * c < b * c
mul-lt a b c h pos = grind arith

-- one octet more
pub number_next : (read number x : ℕ) → number < 256 ^ read → x < 256 → number * 256 + x < 256 ^ (read + 1)
number_next read number x h lt = let e : read + 1 ≡ suc read =
    omega arith in omega (arith, pow_suc read, ap (λ (k : ℕ). 256 ^ k) e)

-- the octets of a number, and one octet more
high_first-suc : (read number x : ℕ) → number < 256 ^ read → x < 256
    → high_first (suc read) (number * 256 + x) ≡ high_first read number ++ x ∷ []
high_first-suc zero number x h lt = let none : number ≡ 0 = omega arith in let is : (number * 256 + x) / 1 ≡ x =
    omega arith in ap (λ (y : ℕ). y ∷ []) is
high_first-suc (suc k) number x h lt =
    let p = 256 ^ k in
    let q = number / p in
    let r = number % p in
    let pos : 0 < p = pow256 k in
    let parts : q * p + r ≡ number = div-add-mod' number p in
    let small : r < p = mod_below number p pos in
    let low : r * 256 + x < 256 ^ suc k = omega (arith, pow_suc k) in
    let scaled : q * 256 ^ suc k ≡ q * (p * 256) = ap (λ (z : ℕ). q * z) (pow_suc k) in
    let all : number * 256 + x ≡ q * 256 ^ suc k + (r * 256 + x) = omega (arith, scaled, parts) in
    let high : (number * 256 + x) / 256 ^ suc k ≡ q =
    ap (λ (n : ℕ). n / 256 ^ suc k) all ∙ div-mul-add q (256 ^ suc k) (r * 256 + x) low in
    let rest : (number * 256 + x) % 256 ^ suc k ≡ r * 256 + x =
    ap (λ (n : ℕ). n % 256 ^ suc k) all ∙ mod-mul-add q (256 ^ suc k) (r * 256 + x) low in
    ap (λ (y : ℕ). y ∷ high_first (suc k) ((number * 256 + x) % 256 ^ suc k)) high
    ∙ ap (λ (n : ℕ). q ∷ high_first (suc k) n) rest ∙ ap (λ (l : List ℕ). q ∷ l) (high_first-suc k r x small lt)

-- the octets of a number and one octet more are those of the longer number
pub high_first-next : (read number x : ℕ) → number < 256 ^ read → x < 256
    → high_first (read + 1) (number * 256 + x) ≡ high_first read number ++ x ∷ []
high_first-next read number x h lt = let e : read + 1 ≡ suc read =
    omega arith in ap (λ (k : ℕ). high_first k (number * 256 + x)) e ∙ high_first-suc read number x h lt

-- a part of a length field, and one octet more
pub field_next : (tag : List ℕ) (form : Form) (read number x : ℕ) → number < 256 ^ read → x < 256
    → tag ++ (128 + further form) ∷ high_first (read + 1) (number * 256 + x) ≡
    (tag ++ (128 + further form) ∷ high_first read number) ++ x ∷ []
field_next tag form read number x h lt =
    ap (λ (l : List ℕ). tag ++ (128 + further form) ∷ l) (high_first-next read number x h lt)
    ∙ sym (append_assoc tag ((128 + further form) ∷ high_first read number) (x ∷ []))

-- the last octet of a length field
pub field_last : (tag : List ℕ) (form : Form) (read number x : ℕ) → read + 1 ≡ further form → number < 256 ^ read
    → x < 256
    → (number * 256 + x < capacity form) ×
    (header_of tag form (number * 256 + x) ≡ (tag ++ (128 + further form) ∷ high_first read number) ++ x ∷ [])
field_last tag form read number x last h lt =
    elim (form_cases form) [
      | inl one ↦ absurd (omega (arith, ap further one))
      | inr long ↦
          let below : number * 256 + x < 256 ^ (read + 1) = number_next read number x h lt in
          let power : 256 ^ (read + 1) ≡ 256 ^ further form = ap (λ (k : ℕ). 256 ^ k) last in (
            omega (arith, below, power, long.capacity_is),
            ap (λ (l : List ℕ). tag ++ l) (long.field (number * 256 + x))
                ∙ ap (λ (k : ℕ). tag ++ (128 + further form) ∷ high_first k (number * 256 + x)) (sym last)
                ∙ field_next tag form read number x h lt,
          )
    ]

-- a number of so many octets fills the field with zeros
pub number_fits : (read left number : ℕ) → read + left ≤ 4 → number < 256 ^ read → number * 256 ^ left < 2 ^ 32
number_fits read left number le h =
    let power : 256 ^ (read + left) ≡ 256 ^ read * 256 ^ left = pow-add 256 read left in
    omega (arith, mul-lt number (256 ^ read) (256 ^ left) h (pow256 left), power, pow_up (read + left) 4 le)

-- a part of a tag is a part of a header
pub part_well : (p : TagPart) → IsTagPart p → IsWell (header_from p) × (header_octets (header_from p) ≡ part_octets p)
part_well part.Nothing h = (tt, refl)
part_well (part.First a) h = (h, refl)
part_well (part.Second a b) h = (h, refl)
part_well (part.Tagged g) h = (h, refl)

-- so what is made of its octets is what comes next
pub part_next : (h : List ℕ) (x : ℕ) (p : TagPart) (longer : Header) → IsTagPart p → part_octets p ≡ h ++ x ∷ []
    → longer ≡ header_from p → IsNext h x (next.Under longer)
part_next h x p longer part q e =
    let well = part_well p part in
    subst (λ (k : Header). IsNext h x (next.Under k)) (sym e) (well.0, well.1 ∙ q)
