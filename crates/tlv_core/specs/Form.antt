-- The forms of a length field (EMV 4.3 Book 3, Annex B; ISO/IEC 7816-4, clause 5.2.2).
use Rattle.std.specs.Prelude.{◌≡◌, ℕ, ◌^◌, refl, nat_lt, cond, zero, suc}
use Rattle.std.specs.Coded.{Coded, code_by, coded_ℕ}
use Rattle.tlv_core.specs.declared.form.Form.{Form}
use Rattle.tlv_core.specs.declared.form.Form.TheVariants.{One, Two, Three, Four, Five}

-- the number of octets after the first one
abbrev pub further : Form → ℕ
further One = 0
further Two = 1
further Three = 2
further Four = 3
further Five = 4

-- the form with this many octets after the first one
abbrev pub form_of : ℕ → Form
form_of zero = One
form_of (suc zero) = Two
form_of (suc (suc zero)) = Three
form_of (suc (suc (suc zero))) = Four
form_of (suc (suc (suc (suc n)))) = Five

-- the least length that is too large for a form
abbrev pub capacity : Form → ℕ
capacity One = 128
capacity form = 256 ^ further form

-- the shortest form that the length n fits
abbrev pub shortest : ℕ → Form
shortest n =
    cond (nat_lt n (capacity One)) One (cond (nat_lt n (capacity Two)) Two
    (cond (nat_lt n (capacity Three)) Three (cond (nat_lt n (capacity Four)) Four Five)))

-- the form with as many octets after the first one is the form itself
pub form_back : (form : Form) → form_of (further form) ≡ form
form_back One = refl
form_back Two = refl
form_back Three = refl
form_back Four = refl
form_back Five = refl

-- contracts tell forms apart by the number of octets after the first one
abbrev pub form_code : Coded Form
form_code = code_by ℕ coded_ℕ further form_of form_back
