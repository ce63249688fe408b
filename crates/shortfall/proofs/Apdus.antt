-- How many more octets a command or a response needs at least.
use Rattle.std.proofs.Common.{◌≡◌, ℕ, zero, suc, ◌+◌, ◌-◌, ◌*◌, ◌/◌, ◌%◌, ◌<◌, ◌≤◌, List, [], ◌∷◌, ◌++◌, length, take, drop, replicate, get_or, refl, sym, ap, ◌∙◌, arith, inl, inr}
use Rattle.std.proofs.lemmas.Bool.{cases_lt}
use Rattle.std.proofs.lemmas.Bool.Decides.{eqb_tells}
use Rattle.std.proofs.lemmas.List.{append-nil, length-append, length-take, length-drop, length-replicate, take-append-drop}
use Rattle.std.proofs.Math.Seq.{take-append_seam}
use Rattle.octet_core.specs.Grammar.{Begins}
use Rattle.octet_core.specs.Octets.{AreOctets}
use Rattle.octet_core.proofs.Lists.{head_is, tail_is, split_same, octets-append, octets-left, octets-right, octets-take, zeros-octets}
use Rattle.apdu_core.specs.declared.command.Body.{Body}
use Rattle.apdu_core.specs.declared.command.Body.TheVariants.{Empty, ShortLe, ShortPart, ShortBoth, LongLe, LongPart, LongBoth}
use Rattle.apdu_core.specs.Command.{CommandParts, IsCommand, FitsFields, IsCount, body_octets, short_of, long_of}
use Rattle.apdu_core.specs.Response.{ResponseParts, IsResponse}
use Rattle.apdu_core.proofs.Reasons.{pair-of}
use Rattle.apdu_core.proofs.Unique.{long-same}
use Rattle.shortfall.specs.Least.{IsLeast}
use Rattle.shortfall.specs.Apdu.{body_least, command_least, part_least, response_least}

-- ---- no command has fewer octets

-- the first octet of a list
abbrev first : List ℕ → ℕ
first l = get_or l 0 0

part-fewer : (n : ℕ) (rest : List ℕ) (m : ℕ) → n ≤ length rest + m → (length rest ≡ n + 1 → 1 ≤ m)
    → part_least n rest ≤ m
part-fewer n rest m le one =
    elim (eqb_tells (length rest) (n + 1)) [ inl h ↦ rw h.0 (one h.1) | inr h ↦ rw h.0 (omega arith) ]

short-least : (x y : ℕ) (b : List ℕ) → body_least (suc x ∷ y ∷ b) ≡ suc x - length (y ∷ b)
short-least x y b =
    elim (eqb_tells (suc x) 0) [ inl h ↦ absurd (omega (arith, h.1)) | inr h ↦ rw h.0 refl ]

body-fewer : (body : Body) (b more : List ℕ) → FitsFields body → b ++ more ≡ body_octets body
    → body_least b ≤ length more
body-fewer body [] more h e = omega arith
body-fewer body (x ∷ []) more h e = omega arith
body-fewer Empty (x ∷ y ∷ b) more h e = absurd (omega (arith, ap length e))
body-fewer (ShortLe le) (x ∷ y ∷ b) more h e = absurd (omega (arith, ap length e))
body-fewer (ShortPart part) (zero ∷ y ∷ b) more h e = absurd (omega (arith, h.0, ap first e))
body-fewer (ShortPart part) (suc x ∷ y ∷ b) more h e =
    omega (arith, short-least x y b, ap first e, ap length e, length-append b more)
body-fewer (ShortBoth part le) (zero ∷ y ∷ b) more h e = absurd (omega (arith, h.0.0, ap first e))
body-fewer (ShortBoth part le) (suc x ∷ y ∷ b) more h e =
    omega (
      arith,
      short-least x y b,
      ap first e,
      ap length e,
      length-append b more,
      length-append part (short_of le),
    )
body-fewer (LongLe le) (suc x ∷ y ∷ b) more h e = absurd (omega (arith, ap first e))
body-fewer (LongLe le) (zero ∷ y ∷ []) more h e = omega (arith, ap length e)
body-fewer (LongLe le) (zero ∷ y ∷ z ∷ []) more h e = omega arith
body-fewer (LongLe le) (zero ∷ y ∷ z ∷ u ∷ b) more h e = absurd (omega (arith, ap length e))
body-fewer (LongPart part) (suc x ∷ y ∷ b) more h e = absurd (omega (arith, ap first e))
body-fewer (LongPart part) (zero ∷ y ∷ []) more h e = omega (arith, ap length e)
body-fewer (LongPart part) (zero ∷ y ∷ z ∷ []) more h e = omega arith
body-fewer (LongPart part) (zero ∷ y ∷ z ∷ u ∷ b) more h e =
    let high : y ≡ length part / 256 % 256 = ap (λ (l : List ℕ). get_or l 1 0) e in
    let low : z ≡ length part % 256 = ap (λ (l : List ℕ). get_or l 2 0) e in
    let n : y * 256 + z ≡ length part = omega (arith, high, low, long-same (length part) h.1) in
    part-fewer (y * 256 + z) (u ∷ b) (length more) (omega (arith, n, ap length e, length-append b more))
    (λ one. omega (arith, one, n, ap length e, length-append b more))
body-fewer (LongBoth part le) (suc x ∷ y ∷ b) more h e = absurd (omega (arith, ap first e))
body-fewer (LongBoth part le) (zero ∷ y ∷ []) more h e =
    omega (arith, ap length e, length-append part (long_of le))
body-fewer (LongBoth part le) (zero ∷ y ∷ z ∷ []) more h e = omega arith
body-fewer (LongBoth part le) (zero ∷ y ∷ z ∷ u ∷ b) more h e =
    let high : y ≡ length part / 256 % 256 = ap (λ (l : List ℕ). get_or l 1 0) e in
    let low : z ≡ length part % 256 = ap (λ (l : List ℕ). get_or l 2 0) e in
    let n : y * 256 + z ≡ length part = omega (arith, high, low, long-same (length part) h.0.1) in
    let long = length-append part (long_of le) in
    part-fewer (y * 256 + z) (u ∷ b) (length more) (omega (arith, n, ap length e, length-append b more, long))
    (λ one. omega (arith, one, n, ap length e, length-append b more, long))

header-length : (v : CommandParts) (b : List ℕ) → IsCommand v b → length b ≡ 4 + length (body_octets v.body)
header-length v b h = omega (arith, ap length h.is, h.proper.header, length-append v.header (body_octets v.body))

-- after a header comes the body
body-of : (v : CommandParts) (p q r s : ℕ) (b more : List ℕ) → IsCommand v (p ∷ q ∷ r ∷ s ∷ (b ++ more))
    → b ++ more ≡ body_octets v.body
body-of v p q r s b more h =
    (split_same (p ∷ q ∷ r ∷ s ∷ []) v.header (b ++ more) (body_octets v.body) (sym h.proper.header) h.is).1

command-fewer : (b : List ℕ) (v : CommandParts) (more : List ℕ) → IsCommand v (b ++ more)
    → command_least b ≤ length more
command-fewer [] v more h = omega (arith, header-length v more h)
command-fewer (p ∷ []) v more h = omega (arith, header-length v (p ∷ more) h)
command-fewer (p ∷ q ∷ []) v more h = omega (arith, header-length v (p ∷ q ∷ more) h)
command-fewer (p ∷ q ∷ r ∷ []) v more h = omega (arith, header-length v (p ∷ q ∷ r ∷ more) h)
command-fewer (p ∷ q ∷ r ∷ s ∷ b) v more h =
    body-fewer v.body b more h.proper.fits (body-of v p q r s b more h)

-- ---- and some command has so many

-- a body that begins with these octets, and has as many more
record BodyEnough (b : List ℕ) : Type 0 where
  body : Body
  more : List ℕ
  fits : FitsFields body
  octets : AreOctets more
  count : length more ≡ body_least b
  is : b ++ more ≡ body_octets body

-- a Le whose octet is x
short-some : (x : ℕ) → x < 256 → (n : ℕ) × (IsCount n 256) × (x ∷ [] ≡ short_of n)
short-some zero lt = (256, (omega arith, omega arith), refl)
short-some (suc x) lt =
    let e : suc x ≡ suc x % 256 = omega arith in
    (suc x, (omega arith, omega arith), ap (λ (k : ℕ). k ∷ []) e)

-- a Le whose octets are y and z
long-some : (y z : ℕ) → y < 256 → z < 256 → (n : ℕ) × (IsCount n 65536) × (y ∷ z ∷ [] ≡ long_of n)
long-some y z py pz =
    elim (cases_lt 0 (y * 256 + z)) [
      | inl lt ↦
          let high : y ≡ (y * 256 + z) / 256 % 256 = omega arith in
          let low : z ≡ (y * 256 + z) % 256 = omega arith in
          (y * 256 + z, (lt, omega arith), λ i. high i ∷ low i ∷ [])
      | inr le ↦
          let high : y ≡ 0 = omega arith in
          let low : z ≡ 0 = omega arith in
          (65536, (omega arith, omega arith), λ i. high i ∷ low i ∷ [])
    ]

-- what is missing of the first of two joined lists
pub fill : (a c part tail : List ℕ) → length a ≤ length part → a ++ c ≡ part ++ tail
    → a ++ take (length part - length a) c ≡ part
fill [] c part tail le e =
    let all : length part - 0 ≡ length part = omega arith in
    ap (λ (n : ℕ). take n c) all ∙ ap (take (length part)) e ∙ take-append_seam part tail
fill (x ∷ a) c [] tail le e = absurd (omega arith)
fill (x ∷ a) c (y ∷ part) tail le e =
    let same : length (y ∷ part) - length (x ∷ a) ≡ length part - length a = omega arith in
    let rest = fill a c part tail (omega arith) (tail_is x y (a ++ c) (part ++ tail) e) in
    let front : x ≡ y = head_is x y (a ++ c) (part ++ tail) e in
    ap (λ (n : ℕ). x ∷ (a ++ take n c)) same ∙ (λ i. front i ∷ rest i)

short-enough : (body : Body) (x y : ℕ) (b more : List ℕ) → FitsFields body → AreOctets more
    → (suc x ∷ y ∷ b) ++ more ≡ body_octets body → BodyEnough (suc x ∷ y ∷ b)
short-enough Empty x y b more h o e = absurd (omega (arith, ap length e))
short-enough (ShortLe le) x y b more h o e = absurd (omega (arith, ap length e))
short-enough (ShortPart part) x y b more h o e = record {
  body = ShortPart part;
  more = more;
  fits = h;
  octets = o;
  count = omega (arith, short-least x y b, ap first e, ap length e, length-append b more);
  is = e;
}
short-enough (ShortBoth part le) x y b more h o e =
    let least = short-least x y b in
    let n : suc x ≡ length part = ap first e in
    let long = length-append part (short_of le) in
    let all = ap length e in
    elim (cases_lt (length part) (length (y ∷ b))) [
      | inl lt ↦ record {
        body = ShortBoth part le;
        more = more;
        fits = h;
        octets = o;
        count = omega (arith, least, n, all, long, length-append b more);
        is = e;
      }
      | inr ge ↦ record {
        body = ShortPart part;
        more = take (length part - length (y ∷ b)) more;
        fits = h.0;
        octets = octets-take (length part - length (y ∷ b)) more o;
        count =
            omega (arith, least, n, all, long, length-append b more, length-take (length part - length (y ∷ b)) more);
        is = ap (λ (k : ℕ). k ∷ ((y ∷ b) ++ take (length part - length (y ∷ b)) more)) n
            ∙ ap (λ (l : List ℕ). length part ∷ l)
            (fill (y ∷ b) more part (short_of le) ge
            (tail_is (suc x) (length part) ((y ∷ b) ++ more) (part ++ short_of le) e));
      }
    ]
short-enough (LongLe le) x y b more h o e = absurd (omega (arith, ap first e))
short-enough (LongPart part) x y b more h o e = absurd (omega (arith, ap first e))
short-enough (LongBoth part le) x y b more h o e = absurd (omega (arith, ap first e))

part-count : (n : ℕ) (rest : List ℕ) (m : ℕ) → length rest + m ≡ n → m ≡ part_least n rest
part-count n rest m e =
    elim (eqb_tells (length rest) (n + 1)) [ inl h ↦ absurd (omega (arith, h.1)) | inr h ↦ rw h.0 (omega arith) ]

part-both : (n : ℕ) (rest : List ℕ) (m : ℕ) → length rest + m ≡ n + 2 → n < length rest → m ≡ part_least n rest
part-both n rest m e lt =
    elim (eqb_tells (length rest) (n + 1)) [
      | inl h ↦ rw h.0 (omega (arith, h.1))
      | inr h ↦ rw h.0 (omega (arith, h.1))
    ]

long-enough : (body : Body) (y z u : ℕ) (b more : List ℕ) → FitsFields body → AreOctets more
    → (0 ∷ y ∷ z ∷ u ∷ b) ++ more ≡ body_octets body → BodyEnough (0 ∷ y ∷ z ∷ u ∷ b)
long-enough Empty y z u b more h o e = absurd (omega (arith, ap length e))
long-enough (ShortLe le) y z u b more h o e = absurd (omega (arith, ap length e))
long-enough (ShortPart part) y z u b more h o e = absurd (omega (arith, h.0, ap first e))
long-enough (ShortBoth part le) y z u b more h o e = absurd (omega (arith, h.0.0, ap first e))
long-enough (LongLe le) y z u b more h o e = absurd (omega (arith, ap length e))
long-enough (LongPart part) y z u b more h o e =
    let high : y ≡ length part / 256 % 256 = ap (λ (l : List ℕ). get_or l 1 0) e in
    let low : z ≡ length part % 256 = ap (λ (l : List ℕ). get_or l 2 0) e in
    let n : y * 256 + z ≡ length part = omega (arith, high, low, long-same (length part) h.1) in
    record {
      body = LongPart part;
      more = more;
      fits = h;
      octets = o;
      count = part-count (y * 256 + z) (u ∷ b) (length more) (omega (arith, n, ap length e, length-append b more));
      is = e;
    }
long-enough (LongBoth part le) y z u b more h o e =
    let high : y ≡ length part / 256 % 256 = ap (λ (l : List ℕ). get_or l 1 0) e in
    let low : z ≡ length part % 256 = ap (λ (l : List ℕ). get_or l 2 0) e in
    let n : y * 256 + z ≡ length part = omega (arith, high, low, long-same (length part) h.0.1) in
    let long = length-append part (long_of le) in
    elim (cases_lt (length part) (length (u ∷ b))) [
      | inl lt ↦ record {
        body = LongBoth part le;
        more = more;
        fits = h;
        octets = o;
        count = part-both (y * 256 + z) (u ∷ b) (length more)
            (omega (arith, n, ap length e, length-append b more, long)) (omega (arith, n, lt));
        is = e;
      }
      | inr ge ↦
          let k = length part - length (u ∷ b) in
          record {
            body = LongPart part;
            more = take k more;
            fits = h.0;
            octets = octets-take k more o;
            count = part-count (y * 256 + z) (u ∷ b) (length (take k more))
                (omega (arith, n, ap length e, length-append b more, long, length-take k more, ge));
            is = (λ i. 0 ∷ high i ∷ low i ∷ ((u ∷ b) ++ take k more))
                ∙ ap (λ (l : List ℕ). 0 ∷ (long_of (length part) ++ l))
                (fill (u ∷ b) more part (long_of le) ge
                (split_same (0 ∷ y ∷ z ∷ []) (0 ∷ long_of (length part)) ((u ∷ b) ++ more) (part ++ long_of le) refl
                e).1);
          }
    ]

body-enough : (body : Body) (b more : List ℕ) → FitsFields body → AreOctets b → AreOctets more
    → b ++ more ≡ body_octets body → BodyEnough b
body-enough body [] more h p o e = record {
  body = Empty;
  more = [];
  fits = tt;
  octets = zeros-octets 0;
  count = refl;
  is = refl;
}
body-enough body (x ∷ []) more h p o e =
    let n = short-some x (p 0) in
    record { body = ShortLe n.0; more = []; fits = n.1; octets = zeros-octets 0; count = refl; is = n.2 }
body-enough body (zero ∷ y ∷ []) more h p o e =
    let n = long-some y 0 (p 1) (omega arith) in
    record {
      body = LongLe n.0;
      more = 0 ∷ [];
      fits = n.1;
      octets = zeros-octets 1;
      count = refl;
      is = ap (λ (l : List ℕ). 0 ∷ l) n.2;
    }
body-enough body (zero ∷ y ∷ z ∷ []) more h p o e =
    let n = long-some y z (p 1) (p 2) in
    record {
      body = LongLe n.0;
      more = [];
      fits = n.1;
      octets = zeros-octets 0;
      count = refl;
      is = ap (λ (l : List ℕ). 0 ∷ l) n.2;
    }
body-enough body (zero ∷ y ∷ z ∷ u ∷ b) more h p o e = long-enough body y z u b more h o e
body-enough body (suc x ∷ y ∷ b) more h p o e = short-enough body x y b more h o e

abbrev CommandEnough : List ℕ → Type 0
CommandEnough b = (v : CommandParts) × (more : List ℕ) × (length more ≡ command_least b) × IsCommand v (b ++ more)

-- a header that is completed by zeros
header-enough : (b : List ℕ) (n : ℕ) → AreOctets b → n ≡ command_least b → length b + n ≡ 4 → CommandEnough b
header-enough b n o is all =
    let len = length-replicate {A = ℕ} n 0 in
    let long = length-append b (replicate n 0) in (
      record { header = b ++ replicate n 0; body = Empty },
      replicate n 0,
      omega (arith, len, is),
      record {
        proper = record { header = omega (arith, len, long, all); fits = tt };
        octets = octets-append b (replicate n 0) o (zeros-octets n);
        is = sym (append-nil (b ++ replicate n 0));
      },
    )

command-enough : (b more : List ℕ) (v : CommandParts) → IsCommand v (b ++ more) → CommandEnough b
command-enough [] more v h = header-enough [] 4 (zeros-octets 0) refl refl
command-enough (p ∷ []) more v h = header-enough (p ∷ []) 3 (octets-left (p ∷ []) more h.octets) refl refl
command-enough (p ∷ q ∷ []) more v h =
    header-enough (p ∷ q ∷ []) 2 (octets-left (p ∷ q ∷ []) more h.octets) refl refl
command-enough (p ∷ q ∷ r ∷ []) more v h =
    header-enough (p ∷ q ∷ r ∷ []) 1 (octets-left (p ∷ q ∷ r ∷ []) more h.octets) refl refl
command-enough (p ∷ q ∷ r ∷ s ∷ b) more v h =
    let header : List ℕ = p ∷ q ∷ r ∷ s ∷ [] in
    let all : AreOctets (header ++ b) = octets-left (header ++ b) more h.octets in
    let o : AreOctets more = octets-right (header ++ b) more h.octets in
    let e = body-enough v.body b more h.proper.fits (octets-right header b all) o (body-of v p q r s b more h) in (
      record { header = header; body = e.body },
      e.more,
      e.count,
      record {
        proper = record { header = refl; fits = e.fits };
        octets = octets-append (header ++ b) e.more all e.octets;
        is = ap (λ (l : List ℕ). p ∷ q ∷ r ∷ s ∷ l) e.is;
      },
    )

pub command_is_least : (b : List ℕ) → Begins IsCommand b → IsLeast IsCommand b (command_least b)
command_is_least b h = record { fewer = command-fewer b; enough = command-enough b h.1 h.0 h.2 }

-- ---- responses

response-length : (v : ResponseParts) (b : List ℕ) → IsResponse v b → length b ≡ length v.part + 2
response-length v b h = omega (arith, ap length h.is, length-append v.part (v.sw1 ∷ v.sw2 ∷ []))

response-fewer : (b : List ℕ) (v : ResponseParts) (more : List ℕ) → IsResponse v (b ++ more)
    → response_least b ≤ length more
response-fewer b v more h = omega (arith, response-length v (b ++ more) h, length-append b more)

abbrev ResponseEnough : List ℕ → Type 0
ResponseEnough b = (v : ResponseParts) × (more : List ℕ) × (length more ≡ response_least b) × IsResponse v (b ++ more)

-- two octets or more end in SW1 and SW2
response-itself : (b : List ℕ) → AreOctets b → 2 ≤ length b → length b ≤ 65538 → ResponseEnough b
response-itself b o two le =
    let left : List ℕ = drop (length b - 2) b in
    let count : length left ≡ 2 = omega (arith, length-drop (length b - 2) b, two) in
    let ends = pair-of left count in
    let part : List ℕ = take (length b - 2) b in (
      record { part = part; sw1 = ends.0; sw2 = ends.1 },
      [],
      omega (arith, two),
      record {
        proper = record { part = omega (arith, length-take (length b - 2) b, le) };
        octets = octets-append b [] o (zeros-octets 0);
        is = append-nil b ∙ sym (take-append-drop (length b - 2) b) ∙ ap (λ (l : List ℕ). part ++ l) ends.2;
      },
    )

response-enough : (b more : List ℕ) (v : ResponseParts) → IsResponse v (b ++ more) → ResponseEnough b
response-enough [] more v h = (
  record { part = []; sw1 = 0; sw2 = 0 },
  0 ∷ 0 ∷ [],
  refl,
  record { proper = record { part = omega arith }; octets = zeros-octets 2; is = refl },
)
response-enough (x ∷ []) more v h = (
  record { part = []; sw1 = x; sw2 = 0 },
  0 ∷ [],
  refl,
  record {
    proper = record { part = omega arith };
    octets = octets-append (x ∷ []) (0 ∷ []) (octets-left (x ∷ []) more h.octets) (zeros-octets 1);
    is = refl;
  },
)
response-enough (x ∷ y ∷ b) more v h =
    response-itself (x ∷ y ∷ b) (octets-left (x ∷ y ∷ b) more h.octets) (omega arith)
    (omega (arith, response-length v ((x ∷ y ∷ b) ++ more) h, h.proper.part, length-append b more))

pub response_is_least : (b : List ℕ) → Begins IsResponse b → IsLeast IsResponse b (response_least b)
response_is_least b h = record { fewer = response-fewer b; enough = response-enough b h.1 h.0 h.2 }
