-- No octets spell two answers to reset, and no spelling begins another.
use Rattle.std.proofs.Common.{◌≡◌, ℕ, ◌+◌, ◌*◌, ◌<◌, ◌≤◌, ◌++◌, List, [], ◌∷◌, length, drop, refl, sym, ap, ◌∙◌, arith, Option, None, Some, option_to_list, append_assoc, Bool, true, false}
use Rattle.std.proofs.lemmas.List.{append-nil, length-drop, length-append, take-append-drop}
use Rattle.std.specs.List.{AllByRecursion}
use Rattle.octet_core.specs.Grammar.{Accepts, self_ended}
use Rattle.octet_core.proofs.Lists.{head_is, tail_is, split_same}
use Rattle.atr_core.specs.declared.atr.Convention.{Convention}
use Rattle.atr_core.specs.declared.atr.Convention.TheVariants.{Direct, Inverse}
use Rattle.atr_core.specs.declared.atr.Interface.{Interface}
use Rattle.atr_core.specs.declared.atr.Indicated.{Indicated}
use Rattle.atr_core.specs.Atr.{AtrParts, ts_of, bit_of, td_bit, goes_on, announcing, octets_of, interface_octets, up_to_td, EndsInTd, tck_of, checked_octets, spelling, HasNibbles, IsAtr}

-- 1 where a byte stands, 0 where none does
unfoldable pub present : Option ℕ → ℕ
present None = 0
present (Some x) = 1

-- it is 1 at most
pub present-most : (o : Option ℕ) → present o ≤ 1
unfolding present
present-most None = omega arith
present-most (Some x) = omega arith

-- the bit that announces a byte has its weight where the byte stands, else 0
pub bit_of-present : (o : Option ℕ) (weight : ℕ) → bit_of o weight ≡ present o * weight
unfolding present
bit_of-present None weight = omega arith
bit_of-present (Some x) weight = omega arith

-- 1 where a TD follows, 0 where none does
unfoldable pub td_of : Bool → ℕ
td_of false = 0
td_of true = 1

-- it is 1 at most
pub td_of-most : (x : Bool) → td_of x ≤ 1
unfolding td_of
td_of-most false = omega arith
td_of-most true = omega arith

-- the bit that announces a TD is 128 where one follows, else 0
pub td_bit-td_of : (x : Bool) → td_bit x ≡ td_of x * 128
unfolding td_of
td_bit-td_of false = refl
td_bit-td_of true = refl

td_back : (x y : Bool) → td_of x ≡ td_of y → x ≡ y
unfolding td_of
td_back false false e = refl
td_back false true e = absurd (omega arith)
td_back true false e = absurd (omega arith)
td_back true true e = refl

-- two announcing octets tell the same
pub record TellSame (f g : Interface) (x y : Bool) (k l : ℕ) : Type 0 where
  pub ta : present f.ta ≡ present g.ta
  pub tb : present f.tb ≡ present g.tb
  pub tc : present f.tc ≡ present g.tc
  pub td : x ≡ y
  pub low : k ≡ l

bits : (a b c d k e f g h l : ℕ) → a ≤ 1 → b ≤ 1 → c ≤ 1 → d ≤ 1 → e ≤ 1 → f ≤ 1 → g ≤ 1 → h ≤ 1 → k < 16 → l < 16
    → a * 16 + b * 32 + c * 64 + d * 128 + k ≡ e * 16 + f * 32 + g * 64 + h * 128 + l → (a ≡ e) × (b ≡ f) × (c ≡ g)
    × (d ≡ h) × (k ≡ l)
bits a b c d k e f g h l pa pb pc pd pe pf pg ph pk pl is =
    (omega arith, omega arith, omega arith, omega arith, omega arith)

-- announcing octets that are the same tell the same, where their low nibbles are below 16
pub announcing-back : (f g : Interface) (x y : Bool) (k l : ℕ) → k < 16 → l < 16 → announcing f x k ≡ announcing g y l
    → TellSame f g x y k l
announcing-back f g x y k l pk pl is =
    let same = bits (present f.ta) (present f.tb) (present f.tc) (td_of x) k (present g.ta) (present g.tb)
    (present g.tc) (td_of y) l
    (present-most f.ta) (present-most f.tb) (present-most f.tc) (td_of-most x) (present-most g.ta) (present-most g.tb)
    (present-most g.tc) (td_of-most y) pk pl
    (omega (
      arith,
      is,
      bit_of-present f.ta 16,
      bit_of-present f.tb 32,
      bit_of-present f.tc 64,
      td_bit-td_of x,
      bit_of-present g.ta 16,
      bit_of-present g.tb 32,
      bit_of-present g.tc 64,
      td_bit-td_of y,
    )) in
    record { ta = same.0; tb = same.1; tc = same.2; td = td_back x y same.3; low = same.4 }

option-split : (a b : Option ℕ) (s t : List ℕ) → present a ≡ present b → option_to_list a ++ s ≡ option_to_list b ++ t
    → (a ≡ b) × (s ≡ t)
unfolding present
option-split None None s t p e = (refl, e)
option-split None (Some y) s t p e = absurd (omega arith)
option-split (Some x) None s t p e = absurd (omega arith)
option-split (Some x) (Some y) s t p e = (ap Some (head_is x y s t e), tail_is x y s t e)

join : (f : Interface) (s : List ℕ) → octets_of f ++ s ≡ option_to_list f.ta
    ++ (option_to_list f.tb ++ (option_to_list f.tc ++ s))
join f s = append_assoc (option_to_list f.ta ++ option_to_list f.tb) (option_to_list f.tc) s
    ∙ append_assoc (option_to_list f.ta) (option_to_list f.tb) (option_to_list f.tc ++ s)

-- where the same of TA, TB and TC stand, octets that are the same have the same bytes, and the same after them
pub octets_of-split : (f g : Interface) (s t : List ℕ) → present f.ta ≡ present g.ta → present f.tb ≡ present g.tb
    → present f.tc ≡ present g.tc → octets_of f ++ s ≡ octets_of g ++ t → (f ≡ g) × (s ≡ t)
octets_of-split f g s t pa pb pc e =
    let one = option-split f.ta g.ta (option_to_list f.tb ++ (option_to_list f.tc ++ s))
    (option_to_list g.tb ++ (option_to_list g.tc ++ t)) pa (sym (join f s) ∙ e ∙ join g t) in
    let two = option-split f.tb g.tb (option_to_list f.tc ++ s) (option_to_list g.tc ++ t) pb one.1 in
    let three = option-split f.tc g.tc s t pc two.1 in
    (λ i. record { ta = one.0 i; tb = two.0 i; tc = three.0 i }, three.1)

differ : false ≡ true → ⊥
differ e = cc

interface-split : (f g : Interface) (xs ys : List Indicated) (s t : List ℕ) → AllByRecursion (λ x. x.protocol < 16) xs
    → AllByRecursion (λ x. x.protocol < 16) ys
    → present f.ta ≡ present g.ta → present f.tb ≡ present g.tb → present f.tc ≡ present g.tc → goes_on xs ≡ goes_on ys
    → interface_octets f xs ++ s ≡ interface_octets g ys ++ t → (f ≡ g) × (xs ≡ ys) × (s ≡ t)
interface-split f g [] [] s t p q pa pb pc pd e = let h = octets_of-split f g s t pa pb pc e in (h.0, refl, h.1)
interface-split f g [] (y ∷ ys) s t p q pa pb pc pd e = absurd (differ pd)
interface-split f g (x ∷ xs) [] s t p q pa pb pc pd e = absurd (differ (sym pd))
interface-split f g (x ∷ xs) (y ∷ ys) s t p q pa pb pc pd e =
    let a : ℕ = announcing x.bytes (goes_on xs) x.protocol in
    let b : ℕ = announcing y.bytes (goes_on ys) y.protocol in
    let u : List ℕ = interface_octets x.bytes xs ++ s in
    let v : List ℕ = interface_octets y.bytes ys ++ t in
    let front = octets_of-split f g (a ∷ u) (b ∷ v) pa pb pc
    (sym (append_assoc (octets_of f) (a ∷ interface_octets x.bytes xs) s) ∙ e
    ∙ append_assoc (octets_of g) (b ∷ interface_octets y.bytes ys) t) in
    let told = announcing-back x.bytes y.bytes (goes_on xs) (goes_on ys) x.protocol y.protocol p.0 q.0
    (head_is a b u v front.1) in
    let rest = interface-split x.bytes y.bytes xs ys s t p.1 q.1 told.ta told.tb told.tc told.td
    (tail_is a b u v front.1) in
    (front.0, λ i. (record { protocol = told.low i; bytes = rest.0 i }) ∷ rest.1 i, rest.2)

ts-back : (c d : Convention) → ts_of c ≡ ts_of d → c ≡ d
ts-back Direct Direct e = refl
ts-back Direct Inverse e = absurd (omega arith)
ts-back Inverse Direct e = absurd (omega arith)
ts-back Inverse Inverse e = refl

-- TS, all that TCK checks, and what follows them
pub checked-split : (v w : AtrParts) (s t : List ℕ) → HasNibbles v → HasNibbles w
    → ts_of v.convention ∷ checked_octets v ++ s ≡ ts_of w.convention ∷ checked_octets w ++ t → (v ≡ w) × (s ≡ t)
checked-split v w s t p q e =
    let a : ℕ = announcing v.first (goes_on v.indicated) (length v.historical) in
    let b : ℕ = announcing w.first (goes_on w.indicated) (length w.historical) in
    let after_v : List ℕ = interface_octets v.first v.indicated ++ (v.historical ++ s) in
    let after_w : List ℕ = interface_octets w.first w.indicated ++ (w.historical ++ t) in
    let whole_v : ts_of v.convention ∷ checked_octets v ++ s ≡ ts_of v.convention ∷ a ∷ after_v =
    ap (λ (l : List ℕ). ts_of v.convention ∷ a ∷ l)
    (append_assoc (interface_octets v.first v.indicated) v.historical s) in
    let whole_w : ts_of w.convention ∷ checked_octets w ++ t ≡ ts_of w.convention ∷ b ∷ after_w =
    ap (λ (l : List ℕ). ts_of w.convention ∷ b ∷ l)
    (append_assoc (interface_octets w.first w.indicated) w.historical t) in
    let both : ts_of v.convention ∷ a ∷ after_v ≡ ts_of w.convention ∷ b ∷ after_w = sym whole_v ∙ e ∙ whole_w in
    let ts : v.convention ≡ w.convention =
    ts-back v.convention w.convention
    (head_is (ts_of v.convention) (ts_of w.convention) (a ∷ after_v) (b ∷ after_w) both) in
    let then : a ∷ after_v ≡ b ∷ after_w =
    tail_is (ts_of v.convention) (ts_of w.convention) (a ∷ after_v) (b ∷ after_w) both in
    let told = announcing-back v.first w.first (goes_on v.indicated) (goes_on w.indicated) (length v.historical)
    (length w.historical) p.historical q.historical (head_is a b after_v after_w then) in
    let mid = interface-split v.first w.first v.indicated w.indicated (v.historical ++ s) (w.historical ++ t)
    p.protocols q.protocols told.ta told.tb told.tc told.td (tail_is a b after_v after_w then) in
    let ends = split_same v.historical w.historical s t told.low mid.2 in
    (λ i. record { convention = ts i; first = mid.0 i; indicated = mid.1 i; historical = ends.0 i }, ends.1)

-- what two spellings with what follows them have in common
pub spelling-split : (v w : AtrParts) (s t : List ℕ) → HasNibbles v → HasNibbles w → spelling v ++ s ≡ spelling w ++ t
    → (v ≡ w) × (s ≡ t)
spelling-split v w s t p q e =
    let tck_v : List ℕ = option_to_list (tck_of v) in
    let tck_w : List ℕ = option_to_list (tck_of w) in
    let parts = checked-split v w (tck_v ++ s) (tck_w ++ t) p q
    (ap (λ (l : List ℕ). ts_of v.convention ∷ l) (sym (append_assoc (checked_octets v) tck_v s)) ∙ e
    ∙ ap (λ (l : List ℕ). ts_of w.convention ∷ l) (append_assoc (checked_octets w) tck_w t)) in
    let tcks : tck_v ≡ tck_w = ap (λ (x : AtrParts). option_to_list (tck_of x)) parts.0 in
    (parts.0, (split_same tck_v tck_w s t (ap length tcks) parts.1).1)

-- no octets spell two answers, and no spelling begins another
pub one-spelled : (v w : AtrParts) (b more : List ℕ) → IsAtr v b → IsAtr w (b ++ more) → (v ≡ w) × (more ≡ [])
one-spelled v w b more p q =
    let h = spelling-split v w more [] p.proper.nibbles q.proper.nibbles
    (ap (λ (l : List ℕ). l ++ more) (sym p.is) ∙ q.is ∙ sym (append-nil (spelling w))) in
    (h.0, h.1)

-- what is accepted is one value and one length
pub one-accepted : (b : List ℕ) (v w : AtrParts) (n m : ℕ) → Accepts self_ended IsAtr b v n
    → Accepts self_ended IsAtr b w m → (v ≡ w) × (n ≡ m)
one-accepted b v w n m p q =
    let h = spelling-split v w (drop n b) (drop m b) p.1.proper.nibbles q.1.proper.nibbles
    (ap (λ (l : List ℕ). l ++ drop n b) (sym p.1.is) ∙ take-append-drop n b ∙ sym (take-append-drop m b)
    ∙ ap (λ (l : List ℕ). l ++ drop m b) q.1.is) in
    (h.0, omega (arith, p.0, q.0, length-drop n b, length-drop m b, ap length h.1))

-- ---- a TCK ends no octets that end in a TD

apart : (f g : Interface) (xs ys : List Indicated) (td x : ℕ) (s : List ℕ) → AllByRecursion (λ z. z.protocol < 16) xs
    → AllByRecursion (λ z. z.protocol < 16) ys
    → present f.ta ≡ present g.ta → present f.tb ≡ present g.tb → present f.tc ≡ present g.tc → goes_on xs ≡ true
    → interface_octets f xs ++ (s ++ x ∷ []) ≡ up_to_td g ys td → ⊥
apart f g [] ys td x s p q pa pb pc pd e = differ pd
apart f g (w ∷ xs) [] td x s p q pa pb pc pd e =
    let a : ℕ = announcing w.bytes (goes_on xs) w.protocol in
    let u : List ℕ = interface_octets w.bytes xs ++ (s ++ x ∷ []) in
    let front = octets_of-split f g (a ∷ u) (td ∷ []) pa pb pc
    (sym (append_assoc (octets_of f) (a ∷ interface_octets w.bytes xs) (s ++ x ∷ [])) ∙ e) in
    omega (
      arith,
      ap length front.1,
      length-append (interface_octets w.bytes xs) (s ++ x ∷ []),
      length-append s (x ∷ []),
    )
apart f g (w ∷ xs) (y ∷ ys) td x s p q pa pb pc pd e =
    let a : ℕ = announcing w.bytes (goes_on xs) w.protocol in
    let b : ℕ = announcing y.bytes true y.protocol in
    let u : List ℕ = interface_octets w.bytes xs ++ (s ++ x ∷ []) in
    let v : List ℕ = up_to_td y.bytes ys td in
    let front = octets_of-split f g (a ∷ u) (b ∷ v) pa pb pc
    (sym (append_assoc (octets_of f) (a ∷ interface_octets w.bytes xs) (s ++ x ∷ [])) ∙ e) in
    let told = announcing-back w.bytes y.bytes (goes_on xs) true w.protocol y.protocol p.0 q.0 (head_is a b u v front.1)
    in
    apart w.bytes y.bytes xs ys td x s p.1 q.1 told.ta told.tb told.tc told.td (tail_is a b u v front.1)

-- after all that TCK checks, no octet is a TD
pub no-td : (a : AtrParts) (tck k td : ℕ) (xs : List Indicated) → HasNibbles a
    → EndsInTd (ts_of a.convention ∷ checked_octets a ++ tck ∷ []) k xs td → ⊥
no-td a tck k td xs nibbles h =
    let first : ℕ = announcing a.first (goes_on a.indicated) (length a.historical) in
    let rest : List ℕ = interface_octets a.first a.indicated ++ (a.historical ++ tck ∷ []) in
    let told : ℕ = announcing h.first true k in
    let up : List ℕ = up_to_td h.first xs td in
    let shape : ts_of a.convention ∷ first ∷ rest ≡ ts_of h.convention ∷ told ∷ up =
    ap (λ (l : List ℕ). ts_of a.convention ∷ first ∷ l)
    (sym (append_assoc (interface_octets a.first a.indicated) a.historical (tck ∷ []))) ∙ h.is in
    let after : first ∷ rest ≡ told ∷ up =
    tail_is (ts_of a.convention) (ts_of h.convention) (first ∷ rest) (told ∷ up) shape in
    let same = announcing-back a.first h.first (goes_on a.indicated) true (length a.historical) k nibbles.historical
    h.few (head_is first told rest up after) in
    apart a.first h.first a.indicated xs td tck a.historical nibbles.protocols h.protocols same.ta same.tb same.tc
    same.td (tail_is first told rest up after)
