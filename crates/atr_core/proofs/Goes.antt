-- Where an answer to reset goes on, and that every input has one verdict.
use Rattle.std.proofs.Common.{◌≡◌, ℕ, suc, ◌+◌, ◌/◌, ◌%◌, ◌<◌, ◌≤◌, ◌++◌, List, [], ◌∷◌, length, refl, sym, ap, subst, ◌∙◌, arith, None, Some, option_to_list, append_assoc, Bool, true, false, not, ◌||◌, ◌==◌, if◌then◌else◌, IsTrue, count_ones, inl, inr, ◌⊎◌}
use Rattle.std.proofs.lemmas.Bool.{cases_lt}
use Rattle.std.proofs.lemmas.List.{length-append, append-nil, length-replicate}
use Rattle.std.proofs.Math.ListN.{replicate}
use Rattle.std.specs.List.{AllByRecursion}
use Rattle.octet_core.specs.Octets.{AreOctets, xor_of}
use Rattle.octet_core.specs.Grammar.{Begins, OneVerdict, self_ended, IsFirst}
use Rattle.octet_core.proofs.Lists.{head_is, tail_is, cut_at, octets-cons, octets-append, octets-left, octets-right, zeros-octets}
use Rattle.octet_core.proofs.Begun.{begins-front}
use Rattle.octet_core.proofs.Firsts.{first_once, first_holds}
use Rattle.octet_core.proofs.Told.{same}
use Rattle.octet_core.proofs.Verdicts.{Steps, one_verdict}
use Rattle.atr_core.specs.declared.atr.Convention.{Convention}
use Rattle.atr_core.specs.declared.atr.Convention.TheVariants.{Direct, Inverse}
use Rattle.atr_core.specs.declared.atr.Interface.{Interface}
use Rattle.atr_core.specs.declared.atr.Indicated.{Indicated}
use Rattle.atr_core.specs.declared.reason.AtrReason.{AtrReason}
use Rattle.atr_core.specs.declared.reason.AtrReason.TheVariants.{BadTs, TooLong, BadTck}
use Rattle.atr_core.specs.Atr.{count_of, AtrParts, ts_of, goes_on, announcing, octets_of, interface_octets, up_to_td, EndsInTd, needs_tck, tck_of, checked_octets, spelling, least_total, HasNibbles, IsAtr, Meets, IsReason}
use Rattle.atr_core.proofs.Unique.{td_of-most, present, td_of, no-td, one-accepted}
use Rattle.atr_core.proofs.Reasons.{octets_of-length, ones-of, low-is, meets-stuck}
use Rattle.atr_core.proofs.Lengths.{spelling-length, few-bytes}
use Rattle.atr_core.proofs.Built.{spelling-octets}
use Rattle.atr_core.proofs.Places.{Changed, AtTd, Beyond, place, announcing-alike, Announces, announces}

-- ---- spellings

-- octets of an answer, and all that follows them, begin one
made : (v : AtrParts) (b rest : List ℕ) → HasNibbles v → AreOctets (checked_octets v) → length (spelling v) ≤ 33 → b
    ++ rest ≡ spelling v → Begins IsAtr b
made v b rest nibbles octets most e =
    let all : AreOctets (spelling v) = spelling-octets v octets in (
      v,
      rest,
      record {
        proper = record { nibbles = nibbles; most = most };
        octets = subst AreOctets (sym e) all;
        is =
            e;
      },
    )

-- the octets up to x, which stands somewhere between T0 and TCK
standing : (v : AtrParts) (ts t0 : ℕ) (r rest : List ℕ) (x : ℕ) → HasNibbles v → ts ≡ ts_of v.convention
    → t0 ≡ announcing v.first (goes_on v.indicated) (length v.historical)
    → interface_octets v.first v.indicated ++ v.historical ≡ r ++ x ∷ rest → AreOctets (ts ∷ t0 ∷ (r ++ x ∷ []))
    → AreOctets rest → length (spelling v) ≤ 33 → Begins IsAtr (ts ∷ t0 ∷ (r ++ x ∷ []))
standing v ts t0 r rest x nibbles ts-is t0-is is octets rest-octets most =
    let tck : List ℕ = option_to_list (tck_of v) in
    let front : AreOctets (r ++ x ∷ []) = λ i. octets (suc (suc i)) in
    let joined : (r ++ x ∷ []) ++ rest ≡ r ++ x ∷ rest = append_assoc r (x ∷ []) rest in
    let body : (r ++ x ∷ []) ++ (rest ++ tck) ≡ (interface_octets v.first v.indicated ++ v.historical) ++ tck =
    append_assoc r (x ∷ []) (rest ++ tck) ∙ sym (ap (λ (l : List ℕ). l ++ tck) is ∙ append_assoc r (x ∷ rest) tck) in
    let back : t0 ∷ ((r ++ x ∷ []) ++ rest) ≡ checked_octets v =
    (λ i. t0-is i ∷ joined i) ∙ ap (λ (l : List ℕ).
    announcing v.first (goes_on v.indicated) (length v.historical) ∷ l) (sym is) in
    made v (ts ∷ t0 ∷ (r ++ x ∷ [])) (rest ++ tck) nibbles
    (subst AreOctets back (octets-cons t0 ((r ++ x ∷ []) ++ rest) (octets 1)
    (octets-append (r ++ x ∷ []) rest front rest-octets))) most
    (λ i. ts-is i ∷ t0-is i ∷ body i)

-- ---- a TD that may be announced: one that announces nothing, for T=0

-- a TD for T=0 with no bytes after it
unfoldable pub bare : Indicated
bare = record { protocol = 0; bytes = record { ta = None; tb = None; tc = None } }

-- that TD where one is announced, and none where none is
unfoldable pub tail_of : Bool → List Indicated
tail_of false = []
tail_of true = bare ∷ []

-- it follows where it is announced
pub goes-tail : (t : Bool) → goes_on (tail_of t) ≡ t
unfolding tail_of
goes-tail false = refl
goes-tail true = refl

needs-tail : (t : Bool) → needs_tck (tail_of t) ≡ false
unfolding tail_of bare
needs-tail false = refl
needs-tail true = refl

-- its protocol fits into the low nibble
pub protocols-tail : (t : Bool) → AllByRecursion (λ z. z.protocol < 16) (tail_of t)
unfolding tail_of bare
protocols-tail false = tt
protocols-tail true = (omega arith, tt)

length-tail : (g : Interface) (t : Bool) → length (interface_octets g (tail_of t)) ≡ length (octets_of g) + td_of t
unfolding tail_of bare td_of
length-tail g false = omega arith
length-tail g true = omega (arith, length-append (octets_of g) (0 ∷ []))

octets-tail : (g : Interface) (t : Bool) → AreOctets (octets_of g) → AreOctets (interface_octets g (tail_of t))
unfolding tail_of bare
octets-tail g false h = h
octets-tail g true h = octets-append (octets_of g) (0 ∷ []) h (octets-cons 0 [] (omega arith) (λ i. omega arith))

-- ---- TS and T0

begun-ts : (c : Convention) → Begins IsAtr (ts_of c ∷ [])
begun-ts c =
    let v : AtrParts = record {
      convention = c;
      first = record { ta = None; tb = None; tc = None };
      indicated =
          [];
      historical = [];
    } in
    made v (ts_of c ∷ []) (0 ∷ []) (record { protocols = tt; historical = omega arith })
    (octets-cons 0 [] (omega arith) (λ i. omega arith)) (omega arith) refl

goes-ts : (x : ℕ) → Begins IsAtr (x ∷ []) ⊎ ((r : AtrReason) × IsReason r (x ∷ []))
unfolding IsFirst
goes-ts x =
    elim (same x 0x3B) [
      | inl e ↦ inl (subst (λ (z : ℕ). Begins IsAtr (z ∷ [])) (sym e) (begun-ts Direct))
      | inr nd ↦ elim (same x 0x3F) [
        | inl e ↦ inl (subst (λ (z : ℕ). Begins IsAtr (z ∷ [])) (sym e) (begun-ts Inverse))
        | inr ni ↦ inr (BadTs, inl ((omega arith, nd, ni), refl))
      ]
    ]

begun-t0 : (c : Convention) (ts x : ℕ) → ts ≡ ts_of c → x < 256 → Begins IsAtr (ts ∷ x ∷ [])
begun-t0 c ts x ts-is lt =
    let d : Announces x = announces x lt in
    let ys : List Indicated = tail_of d.td in
    let hist : List ℕ = replicate d.low 0 in
    let count : length hist ≡ d.low = length-replicate {A = ℕ} d.low 0 in
    let v : AtrParts = record { convention = c; first = d.bytes; indicated = ys; historical = hist } in
    let rest : List ℕ = interface_octets d.bytes ys ++ hist in
    let told : x ≡ announcing d.bytes (goes_on ys) (length hist) =
    sym ((λ i. announcing d.bytes (goes-tail d.td i) (count i)) ∙ d.is) in
    let none : count_of (needs_tck ys) ≡ 0 = ap count_of (needs-tail d.td) in
    made v (ts ∷ x ∷ []) (rest ++ option_to_list (tck_of v))
    (record { protocols = protocols-tail d.td; historical = omega (arith, count, d.small) })
    (octets-cons (announcing d.bytes (goes_on ys) (length hist)) rest (subst (λ (n : ℕ). n < 256) told lt)
    (octets-append (interface_octets d.bytes ys) hist (octets-tail d.bytes d.td d.octets) (zeros-octets d.low)))
    (omega (
      arith,
      spelling-length v,
      none,
      count,
      d.small,
      length-tail d.bytes d.td,
      few-bytes d.bytes,
      td_of-most d.td,
    ))
    (λ i. ts-is i ∷ told i ∷ (rest ++ option_to_list (tck_of v)))

-- ---- after T0

abbrev Goes : List ℕ → Type 0
Goes b = Begins IsAtr b ⊎ ((r : AtrReason) × IsReason r b)

-- what is known of an answer of which octets up to y are at hand
record Known (w : AtrParts) (ts t0 : ℕ) (r : List ℕ) (y : ℕ) (more : List ℕ) : Type 0 where
  nibbles : HasNibbles w
  most : length (spelling w) ≤ 33
  ts-is : ts ≡ ts_of w.convention
  t0-is : t0 ≡ announcing w.first (goes_on w.indicated) (length w.historical)
  shape : interface_octets w.first w.indicated ++ (w.historical ++ option_to_list (tck_of w)) ≡ r ++ y ∷ more
  octets : AreOctets more

known : (w : AtrParts) (ts t0 : ℕ) (r : List ℕ) (y : ℕ) (more : List ℕ) → IsAtr w (ts ∷ t0 ∷ (r ++ y ∷ more))
    → Known w ts t0 r y more
known w ts t0 r y more h =
    let first : ℕ = announcing w.first (goes_on w.indicated) (length w.historical) in
    let tck : List ℕ = option_to_list (tck_of w) in
    let body : List ℕ = (interface_octets w.first w.indicated ++ w.historical) ++ tck in
    let after : t0 ∷ (r ++ y ∷ more) ≡ first ∷ body =
    tail_is ts (ts_of w.convention) (t0 ∷ (r ++ y ∷ more)) (first ∷ body) h.is in
    record {
      nibbles = h.proper.nibbles;
      most = h.proper.most;
      ts-is = head_is ts (ts_of w.convention) (t0 ∷ (r ++ y ∷ more)) (first ∷ body) h.is;
      t0-is = head_is t0 first (r ++ y ∷ more) body after;
      shape = sym (tail_is t0 first (r ++ y ∷ more) body after
          ∙ append_assoc (interface_octets w.first w.indicated) w.historical tck);
      octets = octets-right (y ∷ []) more (octets-right r (y ∷ more) (λ i. h.octets (suc (suc i))));
    }

goes-byte : (w : AtrParts) (ts t0 : ℕ) (r : List ℕ) (y x : ℕ) (more : List ℕ) → Known w ts t0 r y more
    → AreOctets (ts ∷ t0 ∷ (r ++ x ∷ []))
    → Changed w.first w.indicated (w.historical ++ option_to_list (tck_of w)) r x more
    → Begins IsAtr (ts ∷ t0 ∷ (r ++ x ∷ []))
goes-byte w ts t0 r y x more k octets c =
    let hist : List ℕ = w.historical in
    let tck : List ℕ = option_to_list (tck_of w) in
    let v : AtrParts = record { convention = w.convention; first = c.first; indicated = c.indicated; historical = hist }
    in
    let told : announcing c.first (goes_on c.indicated) (length hist) ≡ announcing w.first (goes_on w.indicated)
    (length hist) =
    ap (λ (t : Bool). announcing c.first t (length hist)) c.goes
    ∙ announcing-alike c.first w.first (goes_on w.indicated) (length hist) c.ta c.tb c.tc in
    let all : AreOctets (c.rest ++ (hist ++ tck)) = subst AreOctets c.after k.octets in
    let need : count_of (needs_tck c.indicated) ≡ count_of (needs_tck w.indicated) = ap count_of c.needs in
    standing v ts t0 r (c.rest ++ hist) x (record { protocols = c.protocols; historical = k.nibbles.historical })
    k.ts-is (k.t0-is ∙ sym told)
    (ap (λ (l : List ℕ). l ++ hist) c.is ∙ append_assoc r (x ∷ c.rest) hist) octets
    (octets-append c.rest hist (octets-left c.rest (hist ++ tck) all)
    (octets-left hist tck (octets-right c.rest (hist ++ tck) all)))
    (omega (
      arith,
      k.most,
      spelling-length v,
      spelling-length w,
      need,
      ap length c.is,
      length-append r (x ∷ c.rest),
      ap length k.shape,
      length-append (interface_octets w.first w.indicated) (hist ++ tck),
      length-append r (y ∷ more),
      ap length c.after,
      length-append c.rest (hist ++ tck),
    ))

-- ---- a TD

-- where this TD is among them, one follows
pub goes-mid : (xs : List Indicated) (n : Indicated) (ys : List Indicated) → goes_on (xs ++ n ∷ ys) ≡ true
goes-mid [] n ys = refl
goes-mid (x ∷ xs) n ys = refl

-- the interface bytes are all up to this TD, and then those after it
pub interface-mid : (f : Interface) (xs : List Indicated) (n : Indicated) (ys : List Indicated)
    → interface_octets f (xs ++ n ∷ ys) ≡ up_to_td f xs (announcing n.bytes (goes_on ys) n.protocol)
    ++ interface_octets n.bytes ys
interface-mid f [] n ys = sym (append_assoc (octets_of f) (announcing n.bytes (goes_on ys) n.protocol ∷ [])
    (interface_octets n.bytes ys))
interface-mid f (x ∷ xs) n ys =
    let up : List ℕ = up_to_td x.bytes xs (announcing n.bytes (goes_on ys) n.protocol) in
    (λ i. octets_of f ++ announcing x.bytes (goes-mid xs n ys i) x.protocol ∷ interface-mid x.bytes xs n ys i)
    ∙ sym (append_assoc (octets_of f) (announcing x.bytes true x.protocol ∷ up) (interface_octets n.bytes ys))

-- all protocols fit into the low nibble where that of this TD does, and those before and after it
pub protocols-mid : (xs : List Indicated) (n : Indicated) (ys : List Indicated)
    → AllByRecursion (λ z. z.protocol < 16) xs → n.protocol < 16 → AllByRecursion (λ z. z.protocol < 16) ys
    → AllByRecursion (λ z. z.protocol < 16) (xs ++ n ∷ ys)
protocols-mid [] n ys p q r = (q, r)
protocols-mid (x ∷ xs) n ys p q r = (p.0, protocols-mid xs n ys p.1 q r)

or-swap : (a b c : Bool) → (a || (b || c)) ≡ (b || (a || c))
or-swap false b c = refl
or-swap true false c = refl
or-swap true true c = refl

-- where no TD after this one needs TCK, it is needed for this one or for one before it
pub needs-mid : (xs : List Indicated) (n : Indicated) (ys : List Indicated) → needs_tck ys ≡ false
    → needs_tck (xs ++ n ∷ ys) ≡ (not (n.protocol == 0) || needs_tck xs)
needs-mid [] n ys none = ap (λ (t : Bool). not (n.protocol == 0) || t) none
needs-mid (x ∷ xs) n ys none = ap (λ (t : Bool). not (x.protocol == 0) || t) (needs-mid xs n ys none)
    ∙ or-swap (not (x.protocol == 0)) (not (n.protocol == 0)) (needs_tck xs)

goes-td : (w : AtrParts) (ts t0 : ℕ) (r : List ℕ) (y x : ℕ) (more : List ℕ) → Known w ts t0 r y more
    → AreOctets w.historical → AreOctets (ts ∷ t0 ∷ (r ++ x ∷ [])) → x < 256 → AtTd w.first w.indicated r
    → Goes (ts ∷ t0 ∷ (r ++ x ∷ []))
unfolding IsFirst
goes-td w ts t0 r y x more k hist-octets octets lt td =
    let b : List ℕ = ts ∷ t0 ∷ (r ++ x ∷ []) in
    let d : Announces x = announces x lt in
    let ys : List Indicated = tail_of d.td in
    let n : Indicated = record { protocol = d.low; bytes = d.bytes } in
    let ind : List Indicated = td.before ++ n ∷ ys in
    let hist : List ℕ = w.historical in
    let left : List ℕ = interface_octets d.bytes ys in
    let v : AtrParts = record { convention = w.convention; first = w.first; indicated = ind; historical = hist } in
    let told : announcing d.bytes (goes_on ys) d.low ≡ x =
    ap (λ (t : Bool). announcing d.bytes t d.low) (goes-tail d.td) ∙ d.is in
    let t0-td : t0 ≡ announcing w.first true (length hist) =
    k.t0-is ∙ ap (λ (t : Bool). announcing w.first t (length hist)) td.goes in
    let t0-is : t0 ≡ announcing w.first (goes_on ind) (length hist) =
    t0-td ∙ ap (λ (t : Bool). announcing w.first t (length hist)) (sym (goes-mid td.before n ys)) in
    let octets-is : interface_octets w.first ind ≡ (r ++ x ∷ []) ++ left =
    interface-mid w.first td.before n ys ∙ ap (λ (z : ℕ). up_to_td w.first td.before z ++ left) told
    ∙ ap (λ (l : List ℕ). l ++ left) (sym (td.is x)) in
    let is : interface_octets w.first ind ++ hist ≡ r ++ x ∷ (left ++ hist) =
    ap (λ (l : List ℕ). l ++ hist) octets-is ∙ append_assoc (r ++ x ∷ []) left hist
    ∙ append_assoc r (x ∷ []) (left ++ hist) in
    let low : x % 16 ≡ d.low = ap (λ (z : ℕ). z % 16) (sym d.is) ∙ low-is d.bytes d.td d.low d.small in
    let ones : count_ones (x / 16) ≡ present d.bytes.ta + present d.bytes.tb + present d.bytes.tc + td_of d.td =
    ap (λ (z : ℕ). count_ones (z / 16)) (sym d.is) ∙ ones-of d.bytes.ta d.bytes.tb d.bytes.tc d.td d.low d.small in
    let needs : needs_tck ind ≡ (not (x % 16 == 0) || needs_tck td.before) =
    needs-mid td.before n ys (needs-tail d.td) ∙ ap (λ (z : ℕ). not (z == 0) || needs_tck td.before) (sym low) in
    let need : count_of (needs_tck ind) ≡ count_of (not (x % 16 == 0) || needs_tck td.before) = ap count_of needs in
    let total : length (spelling v) ≡ least_total (length b) (length hist) td.before x =
    omega (
      arith,
      spelling-length v,
      need,
      ap length octets-is,
      length-append (r ++ x ∷ []) left,
      length-append r (x ∷ []),
      length-tail d.bytes d.td,
      octets_of-length d.bytes,
      ones,
    ) in
    elim (cases_lt 33 (least_total (length b) (length hist) td.before x)) [
      | inl over ↦ inr (
        TooLong,
        inr (
          λ m. omega (arith, m.0, length-append r (x ∷ [])),
          inl (
            (
              length hist,
              td.before,
              x,
              record {
                few = k.nibbles.historical;
                protocols = td.protocols;
                convention = w.convention;
                first =
                    w.first;
                is = λ i. k.ts-is i ∷ t0-td i ∷ td.is x i;
              },
              over,
            ),
            refl,
          ),
        ),
      )
      | inr le ↦ inl (standing v ts t0 r (left ++ hist) x
          (record {
            protocols = protocols-mid td.before n ys td.protocols d.small (protocols-tail d.td);
            historical =
                k.nibbles.historical;
          }) k.ts-is t0-is is octets
          (octets-append left hist (octets-tail d.bytes d.td d.octets) hist-octets) (omega (arith, total, le)))
    ]

-- ---- historical bytes and TCK

tck-one : (t : Bool) (z : ℕ) (k : List ℕ) (y : ℕ) (more : List ℕ) → option_to_list (if t then Some z else None) ≡ k
    ++ y ∷ more → IsTrue t × (k ≡ []) × (y ≡ z)
tck-one false z k y more e = absurd (omega (arith, ap length e, length-append k (y ∷ more)))
tck-one true z [] y more e = (refl, refl, sym (head_is z y [] more e))
tck-one true z (a ∷ k) y more e = absurd (omega (arith, ap length e, length-append k (y ∷ more)))

goes-past : (w : AtrParts) (ts t0 : ℕ) (r : List ℕ) (y x : ℕ) (more : List ℕ) → IsAtr w (ts ∷ t0 ∷ (r ++ y ∷ more))
    → Known w ts t0 r y more → AreOctets (ts ∷ t0 ∷ (r ++ x ∷ []))
    → Beyond w.first w.indicated (w.historical ++ option_to_list (tck_of w)) r y more → Goes (ts ∷ t0 ∷ (r ++ x ∷ []))
unfolding IsFirst
goes-past w ts t0 r y x more h k octets p =
    let b : List ℕ = ts ∷ t0 ∷ (r ++ x ∷ []) in
    let inter : List ℕ = interface_octets w.first w.indicated in
    let hist : List ℕ = w.historical in
    let tck : List ℕ = option_to_list (tck_of w) in
    elim (cut_at hist tck p.past y more p.left) [
      | inl c ↦
          let fresh : List ℕ = p.past ++ x ∷ c.0 in
          let v : AtrParts = record {
            convention = w.convention;
            first = w.first;
            indicated = w.indicated;
            historical =
                fresh;
          } in
          let count : length fresh ≡ length hist =
          omega (arith, ap length c.1, length-append p.past (y ∷ c.0), length-append p.past (x ∷ c.0)) in
          let is : inter ++ fresh ≡ r ++ x ∷ c.0 =
          sym (append_assoc inter p.past (x ∷ c.0)) ∙ ap (λ (l : List ℕ). l ++ x ∷ c.0) (sym p.front) in
          inl (standing v ts t0 r c.0 x (record
          { protocols = k.nibbles.protocols; historical = omega (arith, count, k.nibbles.historical) }) k.ts-is
          (k.t0-is ∙ ap (λ (n : ℕ). announcing w.first (goes_on w.indicated) n) (sym count)) is octets
          (octets-left c.0 tck (subst AreOctets c.2 k.octets))
          (omega (arith, k.most, spelling-length v, spelling-length w, count)))
      | inr c ↦
          let sum : ℕ = xor_of (checked_octets w) in
          let one = tck-one (needs_tck w.indicated) sum c.0 y more c.2 in
          let r-is : r ≡ inter ++ hist = p.front
          ∙ ap (λ (l : List ℕ). inter ++ l) (c.1 ∙ ap (λ (l : List ℕ). hist ++ l) one.1 ∙ append-nil hist) in
          let is : b ≡ ts_of w.convention ∷ checked_octets w ++ x ∷ [] =
          λ i. k.ts-is i ∷ k.t0-is i ∷ (r-is i ++ x ∷ []) in
          elim (same x y) [
            | inl e ↦ inl (
              w,
              more,
              subst (IsAtr w)
                  (ap (λ (l : List ℕ). ts ∷ t0 ∷ l)
                  (sym (append_assoc r (x ∷ []) more ∙ ap (λ (z : ℕ). r ++ z ∷ more) e))) h,
            )
            | inr ne ↦ inr (
              BadTck,
              inr (
                λ m. omega (arith, m.0, length-append r (x ∷ [])),
                inr (
                  λ m. no-td w x m.0 m.2 m.1 k.nibbles (subst (λ (l : List ℕ). EndsInTd l m.0 m.1 m.2) is m.3),
                  inl ((w, x, k.nibbles, one.0, is, λ e. ne (e ∙ sym one.2)), refl),
                ),
              ),
            )
          ]
    ]

historical-octets : (w : AtrParts) (b : List ℕ) → IsAtr w b → AreOctets w.historical
historical-octets w b h =
    let inter : List ℕ = interface_octets w.first w.indicated in
    let tck : List ℕ = option_to_list (tck_of w) in
    let all : AreOctets (spelling w) = subst AreOctets h.is h.octets in
    let body : AreOctets ((inter ++ w.historical) ++ tck) = λ i. all (suc (suc i)) in
    octets-right inter w.historical (octets-left (inter ++ w.historical) tck body)

next : (c : List ℕ) (x : ℕ) → AreOctets (c ++ x ∷ []) → (w : AtrParts) (y : ℕ) (more : List ℕ) → IsAtr w (c ++ y ∷ more)
    → Goes (c ++ x ∷ [])
next [] x octets w y more h = goes-ts x
next (ts ∷ []) x octets w y more h =
    inl (begun-t0 w.convention ts x (head_is ts (ts_of w.convention) (y ∷ more)
    (checked_octets w ++ option_to_list (tck_of w)) h.is) (octets 1))
next (ts ∷ t0 ∷ r) x octets w y more h =
    let k : Known w ts t0 r y more = known w ts t0 r y more h in
    elim (place w.first w.indicated (w.historical ++ option_to_list (tck_of w)) r y more k.nibbles.protocols k.shape) [
      | inl change ↦ inl (goes-byte w ts t0 r y x more k octets (change x))
      | inr other ↦ elim other [
        | inl td ↦ goes-td w ts t0 r y x more k (historical-octets w ((ts ∷ t0 ∷ r) ++ y ∷ more) h) octets
            (octets-right (ts ∷ t0 ∷ r) (x ∷ []) octets 0) td
        | inr past ↦ goes-past w ts t0 r y x more h k octets past
      ]
    ]

-- what has to be known of answers to reset so that every input has one verdict
pub steps : Steps IsAtr IsReason
steps = record {
  one_value = one-accepted;
  one_reason = λ r s c. first_once (BadTs ∷ TooLong ∷ BadTck ∷ []) (Meets c) r s;
  stops = λ r c reason. meets-stuck c r (first_holds (BadTs ∷ TooLong ∷ BadTck ∷ []) (Meets c) r reason);
  nothing = begins-front IsAtr [] (ts_of Direct ∷ []) (begun-ts Direct);
  next = next;
}

-- every input has one verdict
pub one-verdict : (b : List ℕ) → AreOctets b → OneVerdict self_ended IsAtr IsReason b
one-verdict = one_verdict IsAtr IsReason steps
