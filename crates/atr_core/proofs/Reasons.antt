-- Where octets meet a line of the table of reasons, no answer to reset goes on.
use Rattle.std.proofs.Common.{◌≡◌, ◌≢◌, ℕ, ◌+◌, ◌/◌, ◌%◌, ◌<◌, ◌≤◌, ◌++◌, List, [], ◌∷◌, length, refl, sym, ap, subst, ◌∙◌, arith, Option, None, Some, option_to_list, append_assoc, Bool, true, false, not, ◌||◌, ◌==◌, if◌then◌else◌, IsTrue, count_ones}
use Rattle.std.proofs.lemmas.List.{length-append}
use Rattle.std.specs.List.{AllByRecursion}
use Rattle.octet_core.specs.Octets.{xor_of}
use Rattle.octet_core.specs.Grammar.{Begins}
use Rattle.octet_core.proofs.Lists.{head_is, tail_is, never}
use Rattle.atr_core.specs.declared.atr.Convention.{Convention}
use Rattle.atr_core.specs.declared.atr.Convention.TheVariants.{Direct, Inverse}
use Rattle.atr_core.specs.declared.atr.Interface.{Interface}
use Rattle.atr_core.specs.declared.atr.Indicated.{Indicated}
use Rattle.atr_core.specs.declared.reason.AtrReason.{AtrReason}
use Rattle.atr_core.specs.declared.reason.AtrReason.TheVariants.{BadTs, TooLong, BadTck}
use Rattle.atr_core.specs.Atr.{AtrParts, ts_of, bit_of, td_bit, goes_on, announcing, octets_of, interface_octets, up_to_td, EndsInTd, needs_tck, tck_of, checked_octets, HasNibbles, IsAtr, Meets}
use Rattle.atr_core.proofs.Unique.{present, td_of, announcing-back, octets_of-split, checked-split, bit_of-present, td_bit-td_of}

not_ts : (x : ℕ) (c : Convention) → x ≢ 0x3B → x ≢ 0x3F → x ≡ ts_of c → ⊥
not_ts x Direct a b e = a e
not_ts x Inverse a b e = b e

-- no answer begins with an octet that is no TS
pub bad_ts-stuck : (b : List ℕ) → Meets b BadTs → Begins IsAtr b → ⊥
bad_ts-stuck [] m h = omega (arith, m.0)
bad_ts-stuck (x ∷ b) m h = not_ts x h.0.convention m.1 m.2
    (head_is x (ts_of h.0.convention) (b ++ h.1) (checked_octets h.0 ++ option_to_list (tck_of h.0)) h.2.is)

tck_stands : (a : AtrParts) → IsTrue (needs_tck a.indicated)
    → option_to_list (tck_of a) ≡ xor_of (checked_octets a) ∷ []
tck_stands a h = ap (λ (t : Bool). option_to_list (if t then Some (xor_of (checked_octets a)) else None)) h

-- no answer goes on after a wrong TCK
pub bad_tck-stuck : (b : List ℕ) → Meets b BadTck → Begins IsAtr b → ⊥
bad_tck-stuck b m h =
    let a : AtrParts = m.0 in
    let v : AtrParts = h.0 in
    let before : ts_of a.convention ∷ checked_octets a ++ (m.1 ∷ h.1) ≡ ts_of v.convention ∷ checked_octets v
    ++ option_to_list (tck_of v) =
    ap (λ (l : List ℕ). ts_of a.convention ∷ l) (sym (append_assoc (checked_octets a) (m.1 ∷ []) h.1))
    ∙ ap (λ (l : List ℕ). l ++ h.1) (sym m.4) ∙ h.2.is in
    let parts = checked-split a v (m.1 ∷ h.1) (option_to_list (tck_of v)) m.2 h.2.proper.nibbles before in
    let own : option_to_list (tck_of v) ≡ xor_of (checked_octets a) ∷ [] =
    ap (λ (x : AtrParts). option_to_list (tck_of x)) (sym parts.0) ∙ tck_stands a m.3 in
    m.5 (head_is m.1 (xor_of (checked_octets a)) h.1 [] (parts.1 ∙ own))

-- ---- the least total

-- an announcing octet has as many ones in its high nibble as it announces octets
pub ones-of : (a b c : Option ℕ) (t : Bool) (low : ℕ) → low < 16
    → count_ones ((bit_of a 0x10 + bit_of b 0x20 + bit_of c 0x40 + td_bit t + low) / 16) ≡ present a + present b +
    present c + td_of t
unfolding present td_of lib.Count.ones
ones-of None None None false low lt = let n : (0 + 0 + 0 + 0 + low) / 16 ≡ 0 = omega arith in ap count_ones n
ones-of None None None true low lt = let n : (0 + 0 + 0 + 128 + low) / 16 ≡ 8 = omega arith in ap count_ones n
ones-of None None (Some z) false low lt = let n : (0 + 0 + 64 + 0 + low) / 16 ≡ 4 = omega arith in ap count_ones n
ones-of None None (Some z) true low lt = let n : (0 + 0 + 64 + 128 + low) / 16 ≡ 12 = omega arith in ap count_ones n
ones-of None (Some y) None false low lt = let n : (0 + 32 + 0 + 0 + low) / 16 ≡ 2 = omega arith in ap count_ones n
ones-of None (Some y) None true low lt = let n : (0 + 32 + 0 + 128 + low) / 16 ≡ 10 = omega arith in ap count_ones n
ones-of None (Some y) (Some z) false low lt = let n : (0 + 32 + 64 + 0 + low) / 16 ≡ 6 = omega arith in ap count_ones n
ones-of None (Some y) (Some z) true low lt = let n : (0 + 32 + 64 + 128 + low) / 16 ≡ 14 =
    omega arith in ap count_ones n
ones-of (Some x) None None false low lt = let n : (16 + 0 + 0 + 0 + low) / 16 ≡ 1 = omega arith in ap count_ones n
ones-of (Some x) None None true low lt = let n : (16 + 0 + 0 + 128 + low) / 16 ≡ 9 = omega arith in ap count_ones n
ones-of (Some x) None (Some z) false low lt = let n : (16 + 0 + 64 + 0 + low) / 16 ≡ 5 = omega arith in ap count_ones n
ones-of (Some x) None (Some z) true low lt = let n : (16 + 0 + 64 + 128 + low) / 16 ≡ 13 =
    omega arith in ap count_ones n
ones-of (Some x) (Some y) None false low lt = let n : (16 + 32 + 0 + 0 + low) / 16 ≡ 3 = omega arith in ap count_ones n
ones-of (Some x) (Some y) None true low lt = let n : (16 + 32 + 0 + 128 + low) / 16 ≡ 11 =
    omega arith in ap count_ones n
ones-of (Some x) (Some y) (Some z) false low lt = let n : (16 + 32 + 64 + 0 + low) / 16 ≡ 7 =
    omega arith in ap count_ones n
ones-of (Some x) (Some y) (Some z) true low lt = let n : (16 + 32 + 64 + 128 + low) / 16 ≡ 15 =
    omega arith in ap count_ones n

-- a byte that stands is one octet, and one that doesn't is none
pub one : (o : Option ℕ) → length (option_to_list o) ≡ present o
unfolding present
one None = refl
one (Some x) = refl

-- the bytes are as many octets as there are of TA, TB and TC
pub octets_of-length : (i : Interface) → length (octets_of i) ≡ present i.ta + present i.tb + present i.tc
octets_of-length i = omega (
  arith,
  length-append (option_to_list i.ta ++ option_to_list i.tb) (option_to_list i.tc),
  length-append (option_to_list i.ta) (option_to_list i.tb),
  one i.ta,
  one i.tb,
  one i.tc,
)

interface-least : (i : Interface) (xs : List Indicated)
    → present i.ta + present i.tb + present i.tc + td_of (goes_on xs) ≤ length (interface_octets i xs)
unfolding td_of
interface-least i [] = omega (arith, octets_of-length i)
interface-least i (x ∷ xs) = omega (
  arith,
  octets_of-length i,
  length-append (octets_of i) (announcing x.bytes (goes_on xs) x.protocol ∷ interface_octets x.bytes xs),
)

-- what goes on after a TD
record GoesOn (td : ℕ) (more s : List ℕ) (zs xs : List Indicated) : Type 0 where
  next : Indicated
  after : List Indicated
  small : next.protocol < 16
  told : td ≡ announcing next.bytes (goes_on after) next.protocol
  goes : more ≡ interface_octets next.bytes after ++ s
  needs : needs_tck zs ≡ (needs_tck xs || (not (next.protocol == 0) || needs_tck after))

or-assoc : (a b c : Bool) → (a || (b || c)) ≡ ((a || b) || c)
or-assoc false b c = refl
or-assoc true b c = refl

td-after : (f g : Interface) (zs xs : List Indicated) (td : ℕ) (s more : List ℕ)
    → AllByRecursion (λ z. z.protocol < 16) zs → AllByRecursion (λ z. z.protocol < 16) xs
    → present f.ta ≡ present g.ta → present f.tb ≡ present g.tb → present f.tc ≡ present g.tc → goes_on zs ≡ true
    → interface_octets f zs ++ s ≡ up_to_td g xs td ++ more → GoesOn td more s zs xs
td-after f g [] xs td s more p q pa pb pc pd e = never pd
td-after f g (z ∷ zs) [] td s more p q pa pb pc pd e =
    let a : ℕ = announcing z.bytes (goes_on zs) z.protocol in
    let u : List ℕ = interface_octets z.bytes zs ++ s in
    let front = octets_of-split f g (a ∷ u) (td ∷ more) pa pb pc
    (sym (append_assoc (octets_of f) (a ∷ interface_octets z.bytes zs) s) ∙ e
    ∙ append_assoc (octets_of g) (td ∷ []) more) in
    record {
      next = z;
      after = zs;
      small = p.0;
      told = sym (head_is a td u more front.1);
      goes =
          sym (tail_is a td u more front.1);
      needs = refl;
    }
td-after f g (z ∷ zs) (x ∷ xs) td s more p q pa pb pc pd e =
    let a : ℕ = announcing z.bytes (goes_on zs) z.protocol in
    let b : ℕ = announcing x.bytes true x.protocol in
    let u : List ℕ = interface_octets z.bytes zs ++ s in
    let v : List ℕ = up_to_td x.bytes xs td ++ more in
    let front = octets_of-split f g (a ∷ u) (b ∷ v) pa pb pc
    (sym (append_assoc (octets_of f) (a ∷ interface_octets z.bytes zs) s) ∙ e
    ∙ append_assoc (octets_of g) (b ∷ up_to_td x.bytes xs td) more) in
    let told = announcing-back z.bytes x.bytes (goes_on zs) true z.protocol x.protocol p.0 q.0 (head_is a b u v front.1)
    in
    let rest = td-after z.bytes x.bytes zs xs td s more p.1 q.1 told.ta told.tb told.tc told.td
    (tail_is a b u v front.1) in
    let last : Bool = not (rest.next.protocol == 0) || needs_tck rest.after in
    record {
      next = rest.next;
      after = rest.after;
      small = rest.small;
      told = rest.told;
      goes = rest.goes;
      needs = (λ i. not (told.low i == 0) || rest.needs i) ∙ or-assoc (not (x.protocol == 0)) (needs_tck xs) last;
    }

-- a TCK is counted only where one stands
counted : (xs last rest : Bool) (x : ℕ) → (if last || xs then 1 else 0) ≤ length
    (option_to_list (if xs || (last || rest) then Some x else None))
counted false false false x = omega arith
counted false false true x = omega arith
counted false true rest x = omega arith
counted true false rest x = omega arith
counted true true rest x = omega arith

-- the low nibble of an announcing octet is the number that was given, where that is below 16
pub low-is : (i : Interface) (t : Bool) (low : ℕ) → low < 16 → announcing i t low % 16 ≡ low
low-is i t low lt = omega (
  arith,
  bit_of-present i.ta 16,
  bit_of-present i.tb 32,
  bit_of-present i.tc 64,
  td_bit-td_of t,
)

-- no answer goes on after a TD with which it must have more than 33 octets
pub too_long-stuck : (b : List ℕ) → Meets b TooLong → Begins IsAtr b → ⊥
too_long-stuck b m h =
    let k : ℕ = m.0 in
    let xs : List Indicated = m.1 in
    let td : ℕ = m.2 in
    let ends : EndsInTd b k xs td = m.3 in
    let v : AtrParts = h.0 in
    let more : List ℕ = h.1 in
    let nibbles : HasNibbles v = h.2.proper.nibbles in
    let s : List ℕ = v.historical ++ option_to_list (tck_of v) in
    let first : ℕ = announcing v.first (goes_on v.indicated) (length v.historical) in
    let told : ℕ = announcing ends.first true k in
    let rest : List ℕ = interface_octets v.first v.indicated ++ s in
    let up : List ℕ = up_to_td ends.first xs td ++ more in
    let shape : ts_of v.convention ∷ first ∷ rest ≡ ts_of ends.convention ∷ told ∷ up =
    ap (λ (l : List ℕ). ts_of v.convention ∷ first ∷ l)
    (sym (append_assoc (interface_octets v.first v.indicated) v.historical (option_to_list (tck_of v))))
    ∙ sym h.2.is ∙ ap (λ (l : List ℕ). l ++ more) ends.is in
    let after : first ∷ rest ≡ told ∷ up =
    tail_is (ts_of v.convention) (ts_of ends.convention) (first ∷ rest) (told ∷ up) shape in
    let same = announcing-back v.first ends.first (goes_on v.indicated) true (length v.historical) k nibbles.historical
    ends.few (head_is first told rest up after) in
    let on = td-after v.first ends.first v.indicated xs td s more nibbles.protocols ends.protocols same.ta same.tb
    same.tc same.td (tail_is first told rest up after) in
    let y : Indicated = on.next in
    let ones : count_ones (td / 16) ≡ present y.bytes.ta + present y.bytes.tb + present y.bytes.tc + td_of
    (goes_on on.after) =
    ap (λ (n : ℕ). count_ones (n / 16)) on.told
    ∙ ones-of y.bytes.ta y.bytes.tb y.bytes.tc (goes_on on.after) y.protocol on.small in
    let low : td % 16 ≡ y.protocol = ap (λ (n : ℕ). n % 16) on.told
    ∙ low-is y.bytes (goes_on on.after) y.protocol on.small in
    let tck : (if not (td % 16 == 0) || needs_tck xs then 1 else 0) ≤ length (option_to_list (tck_of v)) =
    subst (λ (n : ℕ). (if not (n == 0) || needs_tck xs then 1 else 0) ≤ length (option_to_list (tck_of v))) (sym low)
    (subst (λ (t : Bool). (if not (y.protocol == 0) || needs_tck xs then 1 else 0) ≤ length
    (option_to_list (if t then Some (xor_of (checked_octets v)) else None))) (sym on.needs)
    (counted (needs_tck xs) (not (y.protocol == 0)) (needs_tck on.after) (xor_of (checked_octets v)))) in
    let long : length more ≡ length (interface_octets y.bytes on.after) + length s =
    ap length on.goes ∙ length-append (interface_octets y.bytes on.after) s in
    omega (
      arith,
      m.4,
      h.2.proper.most,
      ap length h.2.is,
      length-append b more,
      long,
      length-append v.historical (option_to_list (tck_of v)),
      interface-least y.bytes on.after,
      ones,
      tck,
      same.low,
    )

-- octets that meet a line of the table begin no answer
pub meets-stuck : (b : List ℕ) (r : AtrReason) → Meets b r → Begins IsAtr b → ⊥
meets-stuck b BadTs m h = bad_ts-stuck b m h
meets-stuck b TooLong m h = too_long-stuck b m h
meets-stuck b BadTck m h = bad_tck-stuck b m h
