-- How many more octets an answer to reset needs at least: no answer has fewer, and some answer has as many.
use Rattle.std.proofs.Common.{◌≡◌, ℕ, suc, ◌+◌, ◌-◌, ◌%◌, ◌<◌, ◌≤◌, List, [], ◌∷◌, ◌++◌, length, take, get_or, refl, sym, ap, subst, ◌∙◌, arith, Bool, true, false, inl, inr, Option, Some, None}
use Rattle.std.specs.Prelude.{◌||◌, ◌==◌, ◌⊎◌, not, option_to_list, if◌then◌else◌}
use Rattle.std.proofs.lemmas.Bool.{cases_lt}
use Rattle.std.proofs.lemmas.Bool.Decides.{nat_tests}
use Rattle.std.proofs.lemmas.List.{append_assoc, length-append}
use Rattle.std.proofs.Math.Seq.{drop-append_seam}
use Rattle.std.specs.List.{AllByRecursion}
use Rattle.octet_core.specs.Grammar.{Begins}
use Rattle.octet_core.specs.Octets.{AreOctets, xor_of}
use Rattle.octet_core.proofs.Lists.{octets-append, octets-cons, octets-left, octets-right, octets-take, tail_is, head_is, zeros-octets, xor-octet}
use Rattle.atr_core.specs.declared.atr.Convention.{Convention}
use Rattle.atr_core.specs.declared.atr.Convention.TheVariants.{Direct, Inverse}
use Rattle.atr_core.specs.declared.atr.Interface.{Interface}
use Rattle.atr_core.specs.declared.atr.Indicated.{Indicated}
use Rattle.atr_core.specs.Atr.{AtrParts, IsAtr, announcing, checked_octets, count_of, bit_of, goes_on, interface_octets, needs_tck, octets_of, spelling, tck_of, ts_of}
use Rattle.atr_core.specs.Partial.{no_bytes}
use Rattle.shortfall.specs.Least.{IsLeast}
use Rattle.shortfall.specs.Atr.{announces_td, atr_from, atr_least, bytes_of}
use Rattle.shortfall.proofs.Apdus.{fill}
use Rattle.shortfall.proofs.Atrs.{from-within, from-after, from-last}

-- ---- what T0 or a TD announces

count-bytes : (ta tb tc : Option ℕ) (td : Bool) (low : ℕ) → low < 16
    → bytes_of (announcing (record { ta = ta; tb = tb; tc = tc }) td low)
    ≡ length (octets_of (record { ta = ta; tb = tb; tc = tc }))
count-bytes None None None false low lt = omega arith
count-bytes None None None true low lt = omega arith
count-bytes None None (Some c) false low lt = omega arith
count-bytes None None (Some c) true low lt = omega arith
count-bytes None (Some b) None false low lt = omega arith
count-bytes None (Some b) None true low lt = omega arith
count-bytes None (Some b) (Some c) false low lt = omega arith
count-bytes None (Some b) (Some c) true low lt = omega arith
count-bytes (Some a) None None false low lt = omega arith
count-bytes (Some a) None None true low lt = omega arith
count-bytes (Some a) None (Some c) false low lt = omega arith
count-bytes (Some a) None (Some c) true low lt = omega arith
count-bytes (Some a) (Some b) None false low lt = omega arith
count-bytes (Some a) (Some b) None true low lt = omega arith
count-bytes (Some a) (Some b) (Some c) false low lt = omega arith
count-bytes (Some a) (Some b) (Some c) true low lt = omega arith

low-of : (ta tb tc : Option ℕ) (td : Bool) (low : ℕ) → low < 16
    → announcing (record { ta = ta; tb = tb; tc = tc }) td low % 16 ≡ low
low-of None None None false low lt = omega arith
low-of None None None true low lt = omega arith
low-of None None (Some c) false low lt = omega arith
low-of None None (Some c) true low lt = omega arith
low-of None (Some b) None false low lt = omega arith
low-of None (Some b) None true low lt = omega arith
low-of None (Some b) (Some c) false low lt = omega arith
low-of None (Some b) (Some c) true low lt = omega arith
low-of (Some a) None None false low lt = omega arith
low-of (Some a) None None true low lt = omega arith
low-of (Some a) None (Some c) false low lt = omega arith
low-of (Some a) None (Some c) true low lt = omega arith
low-of (Some a) (Some b) None false low lt = omega arith
low-of (Some a) (Some b) None true low lt = omega arith
low-of (Some a) (Some b) (Some c) false low lt = omega arith
low-of (Some a) (Some b) (Some c) true low lt = omega arith

bit-most : (o : Option ℕ) (weight : ℕ) → bit_of o weight ≤ weight
bit-most None weight = omega arith
bit-most (Some byte) weight = omega arith

at_most : (x : ℕ) → x < 128 → announces_td x ≡ false
at_most x lt = grind (arith, nat_tests)

at_least : (x : ℕ) → 128 ≤ x → announces_td x ≡ true
at_least x le = grind (arith, nat_tests)

says-td : (bytes : Interface) (td : Bool) (low : ℕ) → low < 16 → announces_td (announcing bytes td low) ≡ td
says-td bytes false low lt = at_most (announcing bytes false low)
    (omega (arith, bit-most bytes.ta 16, bit-most bytes.tb 32, bit-most bytes.tc 64))
says-td bytes true low lt = at_least (announcing bytes true low) (omega arith)

-- the octets after T0, or after a TD, need this
says : (bytes : Interface) (td : Bool) (low : ℕ) (k : ℕ) (tck : Bool) (b : List ℕ) → low < 16
    → atr_from (bytes_of (announcing bytes td low)) (announces_td (announcing bytes td low)) k tck b
    ≡ atr_from (length (octets_of bytes)) td k tck b
says bytes td low k tck b lt =
    ap (λ (n : ℕ). atr_from n (announces_td (announcing bytes td low)) k tck b)
    (count-bytes bytes.ta bytes.tb bytes.tc td low lt)
    ∙ ap (λ (t : Bool). atr_from (length (octets_of bytes)) t k tck b) (says-td bytes td low lt)

-- whether TCK is due after a TD of this protocol
abbrev offers : ℕ → Bool
offers protocol = not (protocol == 0)

or-assoc : (p q r : Bool) → ((p || q) || r) ≡ (p || (q || r))
or-assoc true q r = refl
or-assoc false q r = refl

or-none : (p : Bool) → (p || false) ≡ p
or-none true = refl
or-none false = refl

count-or : (p q : Bool) → count_of p ≤ count_of (p || q)
count-or true q = omega arith
count-or false q = omega arith

-- ---- no answer has fewer octets

-- the octets after the bytes of T0 or of a TD, from its next TD on
next : (x : Indicated) (xs : List Indicated) (bytes : Interface) (tail : List ℕ)
    → interface_octets bytes (x ∷ xs) ++ tail
    ≡ octets_of bytes ++ (announcing x.bytes (goes_on xs) x.protocol ∷ (interface_octets x.bytes xs ++ tail))
next x xs bytes tail =
    append_assoc (octets_of bytes) (announcing x.bytes (goes_on xs) x.protocol ∷ interface_octets x.bytes xs) tail

-- what comes of these octets, after the bytes
cut : (b more front : List ℕ) (t : ℕ) (rest : List ℕ) → length front < length b → b ++ more ≡ front ++ t ∷ rest
    → (c : List ℕ) × (b ≡ front ++ t ∷ c) × (c ++ more ≡ rest)
cut [] more front t rest lt e = absurd (omega arith)
cut (y ∷ b) more [] t rest lt e =
    let first : y ≡ t = head_is y t (b ++ more) rest e in
    (b, ap (λ (k : ℕ). k ∷ b) first, tail_is y t (b ++ more) rest e)
cut (y ∷ b) more (z ∷ front) t rest lt e =
    let first : y ≡ z = head_is y z (b ++ more) (front ++ t ∷ rest) e in
    let r = cut b more front t rest (omega arith) (tail_is y z (b ++ more) (front ++ t ∷ rest) e) in
    (r.0, λ i. first i ∷ r.1 i, r.2)

-- after whole bytes and a TD
after-td : (bytes x : Interface) (td : Bool) (protocol k : ℕ) (tck : Bool) (c : List ℕ) → protocol < 16
    → atr_from (length (octets_of bytes)) true k tck (octets_of bytes ++ announcing x td protocol ∷ c)
    ≡ atr_from (length (octets_of x)) td k (tck || offers protocol) c
after-td bytes x td protocol k tck c lt =
    let a = announcing x td protocol in
    let all = octets_of bytes in
    from-after (length all) true k tck (all ++ a ∷ c) (omega (arith, length-append all (a ∷ c)))
    ∙ ap (atr_from 0 true k tck) (drop-append_seam all (a ∷ c))
    ∙ ap (λ (p : ℕ). atr_from (bytes_of a) (announces_td a) k (tck || not (p == 0)) c)
    (low-of x.ta x.tb x.tc td protocol lt)
    ∙ says x td protocol k (tck || offers protocol) c lt

fewer : (xs : List Indicated) (bytes : Interface) (tail : List ℕ) (k : ℕ) (tck : Bool) (b more : List ℕ)
    → AllByRecursion (λ x. x.protocol < 16) xs → b ++ more ≡ interface_octets bytes xs ++ tail
    → length tail ≡ k + count_of (tck || needs_tck xs)
    → atr_from (length (octets_of bytes)) (goes_on xs) k tck b ≤ length more
fewer [] bytes tail k tck b more all e len = omega (
  arith,
  from-last (length (octets_of bytes)) k tck b,
  ap length e,
  length-append b more,
  length-append (octets_of bytes) tail,
  len,
  ap count_of (or-none tck),
)
fewer (x ∷ xs) bytes tail k tck b more all e len =
    let front = octets_of bytes in
    let a = announcing x.bytes (goes_on xs) x.protocol in
    let rest = interface_octets x.bytes xs ++ tail in
    elim (cases_lt (length front) (length b)) [
      | inl lt ↦
          let r = cut b more front a rest lt (e ∙ next x xs bytes tail) in
          let same : atr_from (length front) true k tck b
          ≡ atr_from (length (octets_of x.bytes)) (goes_on xs) k (tck || offers x.protocol) r.0 =
          ap (atr_from (length front) true k tck) r.1
          ∙ after-td bytes x.bytes (goes_on xs) x.protocol k tck r.0 all.0 in
          let due = len ∙ ap (λ (t : Bool). k + count_of t) (sym (or-assoc tck (offers x.protocol) (needs_tck xs))) in
          omega (arith, same, fewer xs x.bytes tail k (tck || offers x.protocol) r.0 more all.1 r.2 due)
      | inr le ↦ omega (
        arith,
        from-within (length front) k tck b le,
        ap length (e ∙ next x xs bytes tail),
        length-append b more,
        length-append front (a ∷ rest),
        length-append (interface_octets x.bytes xs) tail,
        len,
        count-or tck (needs_tck (x ∷ xs)),
      )
    ]

-- ---- and some answer has so many

-- A shorter answer: its TDs, the octets after b up to its historical bytes, and how many there are with these and TCK.
record Shorter (xs : List Indicated) (bytes : Interface) (k : ℕ) (tck : Bool) (b : List ℕ) : Type 0 where
  inds : List Indicated
  rest : List ℕ
  is : b ++ rest ≡ interface_octets bytes inds
  count : length rest + k + count_of (tck || needs_tck inds)
      ≡ atr_from (length (octets_of bytes)) (goes_on xs) k tck b
  on : goes_on inds ≡ goes_on xs
  protocols : AllByRecursion (λ x. x.protocol < 16) inds
  octets : AreOctets rest
  shorter : length (interface_octets bytes inds) + count_of (tck || needs_tck inds)
      ≤ length (interface_octets bytes xs) + count_of (tck || needs_tck xs)

-- the last TD of a shorter answer, which announces nothing and offers T=0
abbrev last-td : Indicated
last-td = record { protocol = 0; bytes = no_bytes }

-- the octets end before a TD that is due
ends-early : (x : Indicated) (xs : List Indicated) (bytes : Interface) (tail : List ℕ) (k : ℕ) (tck : Bool)
    (b more : List ℕ) → AreOctets more → b ++ more ≡ interface_octets bytes (x ∷ xs) ++ tail
    → length b ≤ length (octets_of bytes) → Shorter (x ∷ xs) bytes k tck b
ends-early x xs bytes tail k tck b more o e le =
    let front = octets_of bytes in
    let a = announcing x.bytes (goes_on xs) x.protocol in
    let rest = interface_octets x.bytes xs ++ tail in
    let n = length front - length b in
    let part = take n more in
    let filled : b ++ part ≡ front = fill b more front (a ∷ rest) le (e ∙ next x xs bytes tail) in
    let parted : length part ≡ n = omega (arith, ap length filled, length-append b part, le) in
    let none = ap count_of (or-none tck) in
    record {
      inds = last-td ∷ [];
      rest = part ++ 0 ∷ [];
      is = sym (append_assoc b part (0 ∷ [])) ∙ ap (λ (l : List ℕ). l ++ 0 ∷ []) filled;
      count = omega (arith, length-append part (0 ∷ []), parted, from-within (length front) k tck b le, none);
      on = refl;
      protocols = (omega arith, tt);
      octets = octets-append part (0 ∷ []) (octets-take n more o) (zeros-octets 1);
      shorter = omega (
        arith,
        length-append front (0 ∷ []),
        length-append front (a ∷ interface_octets x.bytes xs),
        none,
        count-or tck (needs_tck (x ∷ xs)),
      );
    }

way : (xs : List Indicated) (bytes : Interface) (tail : List ℕ) (k : ℕ) (tck : Bool) (b more : List ℕ)
    → AllByRecursion (λ x. x.protocol < 16) xs → AreOctets more → b ++ more ≡ interface_octets bytes xs ++ tail
    → length tail ≡ k + count_of (tck || needs_tck xs)
    → (length more ≡ atr_from (length (octets_of bytes)) (goes_on xs) k tck b) ⊎ Shorter xs bytes k tck b
way [] bytes tail k tck b more all o e len = inl (omega (
  arith,
  from-last (length (octets_of bytes)) k tck b,
  ap length e,
  length-append b more,
  length-append (octets_of bytes) tail,
  len,
  ap count_of (or-none tck),
))
way (x ∷ xs) bytes tail k tck b more all o e len =
    let front = octets_of bytes in
    let a = announcing x.bytes (goes_on xs) x.protocol in
    let rest = interface_octets x.bytes xs ++ tail in
    elim (cases_lt (length front) (length b)) [
      | inl lt ↦
          let r = cut b more front a rest lt (e ∙ next x xs bytes tail) in
          let later : Bool = tck || offers x.protocol in
          let same : atr_from (length front) true k tck b
          ≡ atr_from (length (octets_of x.bytes)) (goes_on xs) k later r.0 =
          ap (atr_from (length front) true k tck) r.1
          ∙ after-td bytes x.bytes (goes_on xs) x.protocol k tck r.0 all.0 in
          let due = len ∙ ap (λ (t : Bool). k + count_of t) (sym (or-assoc tck (offers x.protocol) (needs_tck xs))) in
          elim (way xs x.bytes tail k later r.0 more all.1 o r.2 due) [
            | inl w ↦ inl (w ∙ sym same)
            | inr s ↦
                let mine = ap count_of (or-assoc tck (offers x.protocol) (needs_tck s.inds)) in
                let its = ap count_of (or-assoc tck (offers x.protocol) (needs_tck xs)) in
                inr (record {
                  inds = x ∷ s.inds;
                  rest = s.rest;
                  is = ap (λ (l : List ℕ). l ++ s.rest) r.1 ∙ append_assoc front (a ∷ r.0) s.rest
                      ∙ ap (λ (l : List ℕ). front ++ a ∷ l) s.is
                      ∙ ap (λ (t : Bool). front ++ announcing x.bytes t x.protocol ∷ interface_octets x.bytes s.inds)
                      (sym s.on);
                  count = omega (arith, s.count, same, mine);
                  on = refl;
                  protocols = (all.0, s.protocols);
                  octets = s.octets;
                  shorter = omega (
                    arith,
                    s.shorter,
                    mine,
                    its,
                    length-append front
                        (announcing x.bytes (goes_on s.inds) x.protocol ∷ interface_octets x.bytes s.inds),
                    length-append front (a ∷ interface_octets x.bytes xs),
                  );
                })
          ]
      | inr le ↦ inr (ends-early x xs bytes tail k tck b more o e le)
    ]

-- ---- from TS on

tck-length : (t : Bool) (n : ℕ) → length (option_to_list (if t then Some n else None)) ≡ count_of t
tck-length true n = refl
tck-length false n = refl

tck-octets : (t : Bool) (n : ℕ) → n < 256 → AreOctets (option_to_list (if t then Some n else None))
tck-octets true n lt = octets-cons n [] lt (zeros-octets 0)
tck-octets false n lt = zeros-octets 0

-- what comes after the interface bytes
abbrev tail_of : AtrParts → List ℕ
tail_of a = a.historical ++ option_to_list (tck_of a)

tail-length : (a : AtrParts) → length (tail_of a) ≡ length a.historical + count_of (needs_tck a.indicated)
tail-length a = omega (
  arith,
  length-append a.historical (option_to_list (tck_of a)),
  tck-length (needs_tck a.indicated) (xor_of (checked_octets a)),
)

-- the octets of an answer by its parts
spelled : (a : AtrParts) → spelling a
    ≡ ts_of a.convention ∷ announcing a.first (goes_on a.indicated) (length a.historical)
    ∷ (interface_octets a.first a.indicated ++ tail_of a)
spelled a =
    ap (λ (l : List ℕ). ts_of a.convention ∷ announcing a.first (goes_on a.indicated) (length a.historical) ∷ l)
    (append_assoc (interface_octets a.first a.indicated) a.historical (option_to_list (tck_of a)))

-- what an answer of which T0 has come needs
from-t0 : (a : AtrParts) (t0 : ℕ) (b : List ℕ) → length a.historical < 16
    → t0 ≡ announcing a.first (goes_on a.indicated) (length a.historical)
    → atr_from (bytes_of t0) (announces_td t0) (t0 % 16) false b
    ≡ atr_from (length (octets_of a.first)) (goes_on a.indicated) (length a.historical) false b
from-t0 a t0 b few e =
    let k = length a.historical in
    let on = goes_on a.indicated in
    ap (λ (x : ℕ). atr_from (bytes_of x) (announces_td x) (x % 16) false b) e
    ∙ ap (λ (n : ℕ). atr_from (bytes_of (announcing a.first on k)) (announces_td (announcing a.first on k)) n false b)
    (low-of a.first.ta a.first.tb a.first.tc on k few)
    ∙ says a.first on k k false b few

answer-fewer : (b : List ℕ) (a : AtrParts) (more : List ℕ) → IsAtr a (b ++ more) → atr_least b ≤ length more
answer-fewer [] a more h = omega (arith, ap length (h.is ∙ spelled a))
answer-fewer (ts ∷ []) a more h = omega (arith, ap length (h.is ∙ spelled a))
answer-fewer (ts ∷ t0 ∷ b) a more h =
    let e = h.is ∙ spelled a in
    let few = h.proper.nibbles.historical in
    let rest = tail_is t0 (announcing a.first (goes_on a.indicated) (length a.historical)) (b ++ more)
    (interface_octets a.first a.indicated ++ tail_of a)
    (tail_is ts (ts_of a.convention) (t0 ∷ (b ++ more))
    (announcing a.first (goes_on a.indicated) (length a.historical)
    ∷ (interface_octets a.first a.indicated ++ tail_of a)) e) in
    omega (
      arith,
      from-t0 a t0 b few (ap (λ (l : List ℕ). get_or l 1 0) e),
      fewer a.indicated a.first (tail_of a) (length a.historical) false b more h.proper.nibbles.protocols rest
          (tail-length a),
    )

abbrev AnswerEnough : List ℕ → Type 0
AnswerEnough b = (a : AtrParts) × (more : List ℕ) × (length more ≡ atr_least b) × IsAtr a (b ++ more)

ts-octet : (c : Convention) → ts_of c < 256
ts-octet Direct = omega arith
ts-octet Inverse = omega arith

-- an answer of TS and T0 alone
abbrev shortest : Convention → AtrParts
shortest c = record { convention = c; first = no_bytes; indicated = []; historical = [] }

shortest-is : (c : Convention) → IsAtr (shortest c) (ts_of c ∷ 0 ∷ [])
shortest-is c = record {
  proper = record { nibbles = record { protocols = tt; historical = omega arith }; most = omega arith };
  octets = octets-cons (ts_of c) (0 ∷ []) (ts-octet c) (zeros-octets 1);
  is = refl;
}

-- the shorter answer
completed : (a : AtrParts) (ts t0 : ℕ) (b more : List ℕ) → IsAtr a (ts ∷ t0 ∷ (b ++ more))
    → Shorter a.indicated a.first (length a.historical) false b → AnswerEnough (ts ∷ t0 ∷ b)
completed a ts t0 b more h s =
    let e = h.is ∙ spelled a in
    let first : ts ≡ ts_of a.convention = ap (λ (l : List ℕ). get_or l 0 0) e in
    let second : t0 ≡ announcing a.first (goes_on a.indicated) (length a.historical) =
    ap (λ (l : List ℕ). get_or l 1 0) e in
    let w : AtrParts = record {
      convention = a.convention;
      first = a.first;
      indicated = s.inds;
      historical = a.historical;
    } in
    let mine : t0 ≡ announcing w.first (goes_on w.indicated) (length w.historical) =
    second ∙ ap (λ (t : Bool). announcing a.first t (length a.historical)) (sym s.on) in
    let front : AreOctets (ts ∷ t0 ∷ b) = octets-left (ts ∷ t0 ∷ b) more h.octets in
    let inside : AreOctets (interface_octets w.first w.indicated) =
    subst AreOctets s.is (octets-append b s.rest (λ i. front (suc (suc i))) s.octets) in
    let all : AreOctets (interface_octets a.first a.indicated ++ tail_of a) =
    (λ i. subst AreOctets e h.octets (suc (suc i))) in
    let hist : AreOctets a.historical =
    octets-left a.historical (option_to_list (tck_of a))
    (octets-right (interface_octets a.first a.indicated) (tail_of a) all) in
    let checked : AreOctets (checked_octets w) =
    octets-cons (announcing w.first (goes_on w.indicated) (length w.historical))
    (interface_octets w.first w.indicated ++ w.historical) (omega (arith, mine, front 1))
    (octets-append (interface_octets w.first w.indicated) w.historical inside hist) in
    let tail : AreOctets (tail_of w) =
    octets-append w.historical (option_to_list (tck_of w)) hist
    (tck-octets (needs_tck w.indicated) (xor_of (checked_octets w)) (xor-octet (checked_octets w) checked)) in
    let is : (ts ∷ t0 ∷ b) ++ (s.rest ++ tail_of w) ≡ spelling w =
    (λ i. first i ∷ mine i ∷ (b ++ (s.rest ++ tail_of w)))
    ∙ ap (λ (l : List ℕ). ts_of w.convention ∷ announcing w.first (goes_on w.indicated) (length w.historical) ∷ l)
    (sym (append_assoc b s.rest (tail_of w)) ∙ ap (λ (l : List ℕ). l ++ tail_of w) s.is)
    ∙ sym (spelled w) in
    let most : length (spelling w) ≤ 33 = omega (
      arith,
      ap length (spelled w),
      ap length (spelled a),
      length-append (interface_octets w.first w.indicated) (tail_of w),
      length-append (interface_octets a.first a.indicated) (tail_of a),
      tail-length w,
      tail-length a,
      s.shorter,
      h.proper.most,
    ) in (
      w,
      s.rest ++ tail_of w,
      omega (
        arith,
        length-append s.rest (tail_of w),
        tail-length w,
        s.count,
        from-t0 a t0 b h.proper.nibbles.historical second,
      ),
      record {
        proper = record {
          nibbles = record { protocols = s.protocols; historical = h.proper.nibbles.historical };
          most = most;
        };
        octets = octets-append (ts ∷ t0 ∷ b) (s.rest ++ tail_of w) front
            (octets-append s.rest (tail_of w) s.octets tail);
        is = is;
      },
    )

answer-enough : (b more : List ℕ) (a : AtrParts) → IsAtr a (b ++ more) → AnswerEnough b
answer-enough [] more a h = (shortest Direct, ts_of Direct ∷ 0 ∷ [], refl, shortest-is Direct)
answer-enough (ts ∷ []) more a h =
    let first : ts_of a.convention ≡ ts = sym (ap (λ (l : List ℕ). get_or l 0 0) (h.is ∙ spelled a)) in (
      shortest a.convention,
      0 ∷ [],
      refl,
      subst (λ (x : ℕ). IsAtr (shortest a.convention) (x ∷ 0 ∷ [])) first (shortest-is a.convention),
    )
answer-enough (ts ∷ t0 ∷ b) more a h =
    let e = h.is ∙ spelled a in
    let second : t0 ≡ announcing a.first (goes_on a.indicated) (length a.historical) =
    ap (λ (l : List ℕ). get_or l 1 0) e in
    let rest = tail_is t0 (announcing a.first (goes_on a.indicated) (length a.historical)) (b ++ more)
    (interface_octets a.first a.indicated ++ tail_of a)
    (tail_is ts (ts_of a.convention) (t0 ∷ (b ++ more))
    (announcing a.first (goes_on a.indicated) (length a.historical)
    ∷ (interface_octets a.first a.indicated ++ tail_of a)) e) in
    elim (way a.indicated a.first (tail_of a) (length a.historical) false b more h.proper.nibbles.protocols
    (octets-right (ts ∷ t0 ∷ b) more h.octets) rest (tail-length a)) [
      | inl w ↦ (a, more, w ∙ sym (from-t0 a t0 b h.proper.nibbles.historical second), h)
      | inr s ↦ completed a ts t0 b more h s
    ]

pub atr_is_least : (b : List ℕ) → Begins IsAtr b → IsLeast IsAtr b (atr_least b)
atr_is_least b h = record { fewer = answer-fewer b; enough = answer-enough b h.1 h.0 h.2 }
