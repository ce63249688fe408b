-- Octets after which more of an answer to reset must come: how an answer goes on from them, and what is refused there.
use Rattle.std.proofs.Common.{◌≡◌, ℕ, suc, ◌+◌, ◌-◌, ◌<◌, ◌≤◌, ◌++◌, List, [], ◌∷◌, length, take, drop, get_or, refl, sym, ap, subst, ◌∙◌, arith, Option, None, Some, option_to_list, append_assoc, Bool, true, false, ◌||◌, IsTrue, IfNone, inl, inr}
use Rattle.std.proofs.lemmas.Bool.{cases_lt}
use Rattle.std.proofs.lemmas.List.{length-append, append-nil, length-replicate, length-take, take_more, take-append-drop}
use Rattle.std.proofs.Math.ListN.{replicate}
use Rattle.std.specs.List.{AllByRecursion}
use Rattle.octet_core.specs.Octets.{AreOctets, xor_of}
use Rattle.octet_core.specs.Grammar.{Begins, Accepts, IsStuck, IsShort, self_ended}
use Rattle.octet_core.proofs.Lists.{octets-cons, octets-append, zeros-octets}
use Rattle.octet_core.proofs.Begun.{take_take, none-stuck}
use Rattle.octet_core.proofs.Firsts.{first_holds}
use Rattle.atr_core.specs.declared.atr.Convention.{Convention}
use Rattle.atr_core.specs.declared.atr.Convention.TheVariants.{Direct}
use Rattle.atr_core.specs.declared.atr.Interface.{Interface}
use Rattle.atr_core.specs.declared.atr.Indicated.{Indicated}
use Rattle.atr_core.specs.declared.reason.AtrReason.{AtrReason}
use Rattle.atr_core.specs.declared.reason.AtrReason.TheVariants.{BadTs, TooLong, BadTck}
use Rattle.atr_core.specs.declared.announced.Announced.{Announced}
use Rattle.atr_core.specs.declared.partial.Partial.{Partial}
use Rattle.atr_core.specs.declared.partial.Phase.{Phase}
use Rattle.atr_core.specs.declared.partial.Phase.TheVariants as phase
use Rattle.atr_core.specs.Atr.{count_of, AtrParts, ts_of, announcing, goes_on, octets_of, up_to_td, interface_octets, needs_tck, tck_of, checked_octets, IsProper, IsAtr, IsReason, Meets}
use Rattle.atr_core.specs.Partial.{HeaderParts, TailParts, HoldsIn, taken_in, is_end, heading, tailing, bare_of, or_awaited, told, filled, is_announced, awaited_count, first_under, tds_under, from_t0, header_checked, header_taken, HeaderHolds, tail_checked, tail_taken, TailHolds, TailAwaits, Holds, is_whole, taken_of}
use Rattle.atr_core.proofs.Unique.{one-spelled}
use Rattle.atr_core.proofs.Reasons.{meets-stuck}
use Rattle.atr_core.proofs.Lengths.{spelling-length, tck-length}
use Rattle.atr_core.proofs.Built.{encoded}
use Rattle.atr_core.proofs.Goes.{bare, tail_of, goes-tail, goes-mid, interface-mid}
use Rattle.atr_core.proofs.Partials.{needs-push, protocols-push, needs-same, protocols-same}

-- more octets make an answer of them
abbrev pub Unfinished : List ℕ → Type 0
Unfinished c = (w : AtrParts) × (y : ℕ) × (more : List ℕ) × IsAtr w (c ++ y ∷ more)

go-on : (v : AtrParts) (c rest : List ℕ) → IsProper v → AreOctets (checked_octets v) → c
    ++ rest ≡ ts_of v.convention ∷ checked_octets v ++ option_to_list (tck_of v) → 0 < length rest → Unfinished c
go-on v c [] proper octets is some = absurd (omega arith)
go-on v c (y ∷ more) proper octets is some = (v, y, more, encoded v (c ++ y ∷ more) proper octets is)

-- ---- TS

-- an answer with no interface bytes and no historical bytes
from-ts : (c : Convention) → IsAtr (bare_of c) (ts_of c ∷ 0 ∷ [])
from-ts c = encoded (bare_of c) (ts_of c ∷ 0 ∷ [])
    (record { nibbles = record { protocols = tt; historical = omega arith }; most = omega arith })
    (octets-cons 0 [] (omega arith) (λ i. omega arith)) refl

-- ---- interface bytes

-- 0 for each interface byte that is awaited
record Awaiting (a b c : Option ℕ) (x y z : Bool) : Type 0 where
  rest : List ℕ
  is : octets_of (record { ta = or_awaited x a; tb = or_awaited y b; tc = or_awaited z c }) ≡ octets_of
      (record { ta = a; tb = b; tc = c }) ++ rest
  octets : AreOctets rest
  count : length rest ≡ count_of x + count_of y + count_of z

nothing : AreOctets []
nothing i = omega arith

zero_octet : (l : List ℕ) → AreOctets l → AreOctets (0 ∷ l)
zero_octet l h = octets-cons 0 l (omega arith) h

awaited_octets : (z : Bool) → AreOctets (option_to_list (or_awaited z None))
awaited_octets false = nothing
awaited_octets true = zero_octet [] nothing

awaited_length : (z : Bool) → length (option_to_list (or_awaited z None)) ≡ count_of z
awaited_length false = refl
awaited_length true = refl

awaiting : (a b c : Option ℕ) (x y z : Bool) → (IsTrue x → (a ≡ None) × (b ≡ None) × (c ≡ None))
    → (IsTrue y → (b ≡ None) × (c ≡ None)) → (IsTrue z → c ≡ None) → Awaiting a b c x y z
awaiting a b c false false false p q r = record
    { rest = []; is = sym (append-nil (octets_of (record { ta = a; tb = b; tc = c }))); octets = nothing; count = refl }
awaiting a b None false false true p q r =
    record {
      rest = 0 ∷ [];
      is = ap (λ (l : List ℕ). l ++ 0 ∷ [])
          (sym (append-nil (option_to_list a ++ option_to_list b)));
      octets = zero_octet [] nothing;
      count = refl;
    }
awaiting a b (Some w) false false true p q r = absurd (let e : Some w ≡ None = r refl in cc)
awaiting None None None false true z p q r =
    record {
      rest = 0 ∷ option_to_list (or_awaited z None);
      is = refl;
      octets =
          zero_octet (option_to_list (or_awaited z None)) (awaited_octets z);
      count = omega (arith, awaited_length z);
    }
awaiting (Some v) None None false true z p q r =
    record {
      rest = 0 ∷ option_to_list (or_awaited z None);
      is = refl;
      octets =
          zero_octet (option_to_list (or_awaited z None)) (awaited_octets z);
      count = omega (arith, awaited_length z);
    }
awaiting a (Some w) c false true z p q r = absurd (let e : Some w ≡ None = (q refl).0 in cc)
awaiting a None (Some w) false true z p q r = absurd (let e : Some w ≡ None = (q refl).1 in cc)
awaiting None None None true y z p q r =
    let middle : List ℕ = option_to_list (or_awaited y None) in
    let last : List ℕ = option_to_list (or_awaited z None) in
    record {
      rest = 0 ∷ middle ++ last;
      is = refl;
      octets = zero_octet (middle ++ last) (octets-append middle last (awaited_octets y) (awaited_octets z));
      count = omega (arith, awaited_length y, awaited_length z, length-append middle last);
    }
awaiting (Some w) b c true y z p q r = absurd (let e : Some w ≡ None = (p refl).0 in cc)
awaiting None (Some w) c true y z p q r = absurd (let e : Some w ≡ None = (p refl).1 in cc)
awaiting None None (Some w) true y z p q r = absurd (let e : Some w ≡ None = (p refl).2 in cc)

td_zeros : Bool → List ℕ
td_zeros false = []
td_zeros true = 0 ∷ []

td_zeros-octets : (t : Bool) → AreOctets (td_zeros t)
unfolding td_zeros
td_zeros-octets false = nothing
td_zeros-octets true = zero_octet [] nothing

td_zeros-length : (t : Bool) → length (td_zeros t) ≡ count_of t
unfolding td_zeros
td_zeros-length false = refl
td_zeros-length true = refl

interface-tail : (f : Interface) (t : Bool) → interface_octets f (tail_of t) ≡ octets_of f ++ td_zeros t
unfolding tail_of bare td_zeros
interface-tail f false = sym (append-nil (octets_of f))
interface-tail f true = refl

needs-tail : (zs : List Indicated) (t : Bool) → needs_tck (zs ++ tail_of t) ≡ needs_tck zs
unfolding tail_of bare
needs-tail zs false = ap needs_tck (append-nil zs)
needs-tail zs true = needs-push zs (record { protocol = 0; bytes = record { ta = None; tb = None; tc = None } })

protocols-end : (zs : List Indicated) (t : Bool) → AllByRecursion (λ z. z.protocol < 16) zs
    → AllByRecursion (λ z. z.protocol < 16) (zs ++ tail_of t)
unfolding tail_of bare
protocols-end zs false p = subst (AllByRecursion (λ z. z.protocol < 16)) (sym (append-nil zs)) p
protocols-end zs true p = protocols-push zs
    (record { protocol = 0; bytes = record { ta = None; tb = None; tc = None } }) p (omega arith)

-- with 0 for what is awaited, and for the TD that is
header-goes : (u : Option ℕ) (first : Interface) (xs : List Indicated) (f : Interface) (l : Announced) (k : ℕ)
    (rest : List ℕ) → IfNone u (xs ≡ []) → octets_of (filled f l) ≡ octets_of f ++ rest
    → announcing (first_under u first (filled f l)) (goes_on (tds_under u xs (filled f l) ++ tail_of l.td)) k ∷
    interface_octets (first_under u first (filled f l)) (tds_under u xs (filled f l) ++ tail_of l.td)
    ≡ from_t0 u first xs f l k ++ (rest ++ td_zeros l.td)
header-goes None first xs f l k rest none is =
    let g : Interface = filled f l in
    (λ i. announcing g (goes_on (none i ++ tail_of l.td)) k ∷ interface_octets g (none i ++ tail_of l.td))
    ∙ (λ i. announcing g (goes-tail l.td i) k ∷ interface-tail g l.td i)
    ∙ ap (λ (b : List ℕ). told f l k ∷ b ++ td_zeros l.td) is
    ∙ ap (λ (b : List ℕ). told f l k ∷ b) (append_assoc (octets_of f) rest (td_zeros l.td))
header-goes (Some p) first xs f l k rest none is =
    let g : Interface = filled f l in
    let n : Indicated = record { protocol = p; bytes = g } in
    let ys : List Indicated = tail_of l.td in
    let all : (xs ++ n ∷ []) ++ ys ≡ xs ++ n ∷ ys = append_assoc xs (n ∷ []) ys in
    let a : ℕ = announcing first true k in
    let up : List ℕ = up_to_td first xs (told f l p) in
    (λ i. announcing first (goes_on (all i)) k ∷ interface_octets first (all i))
    ∙ (λ i. announcing first (goes-mid xs n ys i) k ∷ interface-mid first xs n ys i)
    ∙ (λ i. a ∷ (up_to_td first xs (announcing g (goes-tail l.td i) p) ++ interface-tail g l.td i))
    ∙ ap (λ (b : List ℕ). a ∷ (up ++ (b ++ td_zeros l.td))) is
    ∙ ap (λ (b : List ℕ). a ∷ (up ++ b)) (append_assoc (octets_of f) rest (td_zeros l.td))
    ∙ ap (λ (b : List ℕ). a ∷ b) (sym (append_assoc up (octets_of f) (rest ++ td_zeros l.td)))

some-awaited : (a b c d : Bool) → (((a || b) || c) || d) ≡ true → 0 < count_of a + count_of b + count_of c + count_of d
some-awaited false false false false e = absurd (cc)
some-awaited false false false true e = omega arith
some-awaited false false true d e = omega arith
some-awaited false true c d e = omega arith
some-awaited true b c d e = omega arith

header-goes-on : (h : HeaderParts) → HeaderHolds h → is_announced h.awaited ≡ true → Unfinished (header_taken h)
header-goes-on h holds awaits =
    let l : Announced = h.awaited in
    let g : Interface = filled h.bytes l in
    let a : Awaiting h.bytes.ta h.bytes.tb h.bytes.tc l.ta l.tb l.tc =
    awaiting h.bytes.ta h.bytes.tb h.bytes.tc l.ta l.tb l.tc holds.ordered.ta holds.ordered.tb holds.ordered.tc in
    let before : List Indicated = tds_under h.under h.indicated g in
    let tds : List Indicated = before ++ tail_of l.td in
    let first : Interface = first_under h.under h.first g in
    let zeros : List ℕ = replicate h.historical_len 0 in
    let k : length zeros ≡ h.historical_len = length-replicate {A = ℕ} h.historical_len 0 in
    let v : AtrParts = record { convention = h.convention; first = first; indicated = tds; historical = zeros } in
    let more : List ℕ = a.rest ++ td_zeros l.td in
    let tck : List ℕ = option_to_list (tck_of v) in
    let goes : announcing first (goes_on tds) h.historical_len ∷ interface_octets first tds ≡ header_checked h ++ more =
    header-goes h.under h.first h.indicated h.bytes l h.historical_len a.rest holds.none a.is in
    let checked : checked_octets v ≡ (header_checked h ++ more) ++ zeros =
    (λ i. announcing first (goes_on tds) (k i) ∷ interface_octets first tds ++ zeros)
    ∙ ap (λ (b : List ℕ). b ++ zeros) goes in
    let more-octets : AreOctets more = octets-append a.rest (td_zeros l.td) a.octets (td_zeros-octets l.td) in
    let octets : AreOctets (checked_octets v) =
    subst AreOctets (sym checked) (octets-append (header_checked h ++ more) zeros
    (octets-append (header_checked h) more (λ i. holds.octets (suc i)) more-octets) (zeros-octets h.historical_len))
    in
    let needs : needs_tck tds ≡ h.tck = needs-tail before l.td ∙ needs-same h.under h.indicated g h.bytes
    ∙ sym holds.tck in
    let need : count_of (needs_tck tds) ≡ count_of h.tck = ap count_of needs in
    let count : length more ≡ awaited_count l =
    omega (arith, length-append a.rest (td_zeros l.td), a.count, td_zeros-length l.td) in
    let proper : IsProper v = record {
      nibbles = record {
        protocols = protocols-end before l.td
            (protocols-same h.under h.indicated h.bytes g holds.protocols);
        historical =
            omega (arith, k, holds.few);
      };
      most = omega (
        arith,
        spelling-length v,
        k,
        need,
        count,
        ap length goes,
        length-append (header_checked h) more,
        holds.count,
        holds.most,
      );
    } in
    let is : header_taken h ++ (more ++ (zeros ++ tck)) ≡ ts_of h.convention ∷ checked_octets v ++ tck =
    ap (λ (b : List ℕ). ts_of h.convention ∷ b)
    (sym (ap (λ (b : List ℕ). b ++ tck) checked ∙ append_assoc (header_checked h ++ more) zeros tck
    ∙ append_assoc (header_checked h) more (zeros ++ tck))) in
    go-on v (header_taken h) (more ++ (zeros ++ tck)) proper octets is
    (omega (arith, length-append more (zeros ++ tck), count, some-awaited l.ta l.tb l.tc l.td awaits))

-- ---- historical bytes and TCK

tail-goes-on : (t : TailParts) → TailHolds t → TailAwaits t → Unfinished (tail_taken t)
tail-goes-on t holds awaits =
    let left : ℕ = t.historical_len - length t.historical in
    let zeros : List ℕ = replicate left 0 in
    let hist : List ℕ = t.historical ++ zeros in
    let tds : List Indicated = t.indicated in
    let inter : List ℕ = interface_octets t.first tds in
    let n : length zeros ≡ left = length-replicate {A = ℕ} left 0 in
    let k : length hist ≡ t.historical_len = omega (arith, length-append t.historical zeros, n, holds.within) in
    let v : AtrParts = record { convention = t.convention; first = t.first; indicated = tds; historical = hist } in
    let tck : List ℕ = option_to_list (tck_of v) in
    let checked : checked_octets v ≡ tail_checked t ++ zeros =
    (λ i. announcing t.first (goes_on tds) (k i) ∷ inter ++ hist)
    ∙ ap (λ (b : List ℕ). announcing t.first (goes_on tds) t.historical_len ∷ b)
    (sym (append_assoc inter t.historical zeros)) in
    let octets : AreOctets (checked_octets v) =
    subst AreOctets (sym checked) (octets-append (tail_checked t) zeros (λ i. holds.octets (suc i))
    (zeros-octets left)) in
    let need : count_of (needs_tck tds) ≡ count_of t.tck = ap count_of (sym holds.tck) in
    let proper : IsProper v = record {
      nibbles = record { protocols = holds.protocols; historical = omega (arith, k, holds.few) };
      most = omega (arith, spelling-length v, k, need, holds.most);
    } in
    let is : tail_taken t ++ (zeros ++ tck) ≡ ts_of t.convention ∷ checked_octets v ++ tck =
    ap (λ (b : List ℕ). ts_of t.convention ∷ b)
    (sym (ap (λ (b : List ℕ). b ++ tck) checked ∙ append_assoc (tail_checked t) zeros tck)) in
    go-on v (tail_taken t) (zeros ++ tck) proper octets is
    (omega (
      arith,
      length-append zeros tck,
      n,
      awaits,
      holds.within,
      need,
      tck-length (needs_tck tds) (xor_of (checked_octets v)),
    ))

-- ---- all stages

goes-on-in : (a : AtrParts) (s : Phase) → HoldsIn a s → is_end s ≡ false → Unfinished (taken_in a s)
goes-on-in a phase.Start h unended = (bare_of Direct, ts_of Direct, 0 ∷ [], from-ts Direct)
goes-on-in a (phase.Opened c) h unended = (bare_of c, 0, [], from-ts c)
goes-on-in a (phase.Header d) h unended = header-goes-on (heading a d) h.0 h.1
goes-on-in a (phase.Tail t) h unended = tail-goes-on (tailing a t) h.0 h.1
goes-on-in a phase.Whole h unended = absurd (cc)

-- after what has come more must, unless it is all
pub goes-on : (p : Partial) → Holds p → is_whole p ≡ false → Unfinished (taken_of p)
goes-on p h unended = goes-on-in p.atr p.phase h unended

-- what a longer spelling begins with is none
unspelled : (c : List ℕ) (v : AtrParts) (n : ℕ) → n ≤ length c → Unfinished c → IsAtr v (take n c) → ⊥
unspelled c v n le u h =
    let split : c ++ u.1 ∷ u.2 ≡ take n c ++ (drop n c ++ u.1 ∷ u.2) =
    ap (λ (l : List ℕ). l ++ u.1 ∷ u.2) (sym (take-append-drop n c))
    ∙ append_assoc (take n c) (drop n c) (u.1 ∷ u.2) in
    let one = one-spelled v u.0 (take n c) (drop n c ++ u.1 ∷ u.2) h (subst (IsAtr u.0) split u.3) in
    omega (arith, ap length one.1, length-append (drop n c) (u.1 ∷ u.2))

-- where more must come, the next octet is refused if it meets a line of the table
pub refused-at : (b : List ℕ) (p : ℕ) (r : AtrReason) (x : ℕ) → p < length b → x ≡ get_or b p 0 → Unfinished (take p b)
    → IsReason r (take p b ++ x ∷ []) → IsStuck self_ended IsAtr b p × IsReason r (take (p + 1) b)
refused-at b p r x inside x-is u reason =
    let shape : take p b ++ x ∷ [] ≡ take (p + 1) b =
    ap (λ (z : ℕ). take p b ++ z ∷ []) x-is ∙ sym (take_more b p 0 inside) in
    let here : IsReason r (take (p + 1) b) = subst (IsReason r) shape reason in
    let stuck : Begins IsAtr (take (p + 1) b) → ⊥ =
    meets-stuck (take (p + 1) b) r (first_holds (BadTs ∷ TooLong ∷ BadTck ∷ []) (Meets (take (p + 1) b)) r here) in
    let long : (v : AtrParts) (n : ℕ) → Accepts self_ended IsAtr b v n → p < n = λ v n a. elim (cases_lt p n) [
      | inl lt ↦ lt
      | inr le ↦ absurd (unspelled (take p b) v n (omega (arith, le, length-take p b)) u
          (subst (IsAtr v) (sym (take_take n p b le)) a.1))
    ] in (
      record { none = none-stuck IsAtr b p stuck long; inside = inside; begun = (u.0, u.1 ∷ u.2, u.3); stuck = stuck },
      here,
    )

-- octets after which more must come are short at their end
pub short : (b : List ℕ) → Unfinished b → IsShort self_ended IsAtr b (length b)
short b u = record { none = λ v n a. unspelled b v n a.0 u a.1; end = refl; begun = (u.0, u.1 ∷ u.2, u.3) }
