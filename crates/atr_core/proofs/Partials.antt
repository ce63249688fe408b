-- What the octets are that have come of an answer to reset.
use Rattle.std.proofs.Common.{◌≡◌, ◌≢◌, ℕ, suc, ◌+◌, ◌/◌, ◌%◌, ◌<◌, ◌≤◌, ◌++◌, List, [], ◌∷◌, length, refl, sym, ap, subst, ◌∙◌, arith, Option, None, Some, option_to_list, append_assoc, Bool, true, false, not, ◌||◌, ◌==◌, if◌then◌else◌, IfNone, count_ones, bit_xor, inl, inr, MatchBool, Ok}
use mir.Val.{bool_byte}
use Rattle.std.proofs.lemmas.List.{length-append, append-nil}
use Rattle.std.specs.List.{AllByRecursion, fold}
use Rattle.octet_core.specs.Octets.{AreOctets, xor_of}
use Rattle.octet_core.specs.Grammar.{IsFirst}
use Rattle.octet_core.proofs.Lists.{octets-cons, octets-append, tail_is}
use Rattle.atr_core.specs.declared.atr.Interface.{Interface}
use Rattle.atr_core.specs.declared.atr.Indicated.{Indicated}
use Rattle.atr_core.specs.declared.reason.AtrReason.TheVariants.{TooLong, BadTck}
use Rattle.atr_core.specs.declared.announced.Announced.{Announced}
use Rattle.atr_core.specs.Atr.{count_of, AtrParts, ts_of, announcing, goes_on, octets_of, up_to_td, interface_octets, needs_tck, tck_of, checked_octets, EndsInTd, HasNibbles, IsProper, IsAtr, IsReason}
use Rattle.atr_core.specs.Partial.{HeaderParts, TailParts, closed, or_awaited, told, filled, no_bytes, Announces, awaits_byte, is_announced, AwaitsTd, awaited_count, InOrder, Puts, first_under, tds_under, first_of, tds_of, from_t0, header_checked, header_taken, HeaderHolds, tail_checked, tail_taken, parts_of, TailHolds, TailAwaits, TailEnds, IsTailStep}
use Rattle.atr_core.proofs.Unique.{present, td_of, no-td}
use Rattle.atr_core.proofs.Reasons.{ones-of}
use Rattle.atr_core.proofs.Lengths.{spelling-length}
use Rattle.atr_core.proofs.Built.{encoded}
use Rattle.atr_core.proofs.Goes.{protocols-mid, needs-mid, interface-mid}

xor_from : (sum x : ℕ) (b : List ℕ) → fold bit_xor sum (b ++ x ∷ []) ≡ bit_xor (fold bit_xor sum b) x
xor_from sum x [] = refl
xor_from sum x (y ∷ b) = xor_from (bit_xor sum y) x b

-- one octet more
pub xor_of-push : (b : List ℕ) (x : ℕ) → xor_of (b ++ x ∷ []) ≡ bit_xor (xor_of b) x
xor_of-push b x = xor_from 0 x b

-- octets and one octet more are octets
pub octets-push : (b : List ℕ) (x : ℕ) → AreOctets b → x < 256 → AreOctets (b ++ x ∷ [])
octets-push b x h lt = octets-append b (x ∷ []) h (octets-cons x [] lt (λ i. omega arith))

-- ---- TDs

-- with one TD more, TCK is needed for it or for one before it
pub needs-push : (xs : List Indicated) (n : Indicated)
    → needs_tck (xs ++ n ∷ []) ≡ (not (n.protocol == 0) || needs_tck xs)
needs-push xs n = needs-mid xs n [] refl

-- and all protocols fit into the low nibble where its own does, and those before it
pub protocols-push : (xs : List Indicated) (n : Indicated) → AllByRecursion (λ z. z.protocol < 16) xs → n.protocol < 16
    → AllByRecursion (λ z. z.protocol < 16) (xs ++ n ∷ [])
protocols-push xs n p q = protocols-mid xs n [] p q tt

protocols-front : (xs : List Indicated) (n : Indicated) → AllByRecursion (λ z. z.protocol < 16) (xs ++ n ∷ [])
    → AllByRecursion (λ z. z.protocol < 16) xs × (n.protocol < 16)
protocols-front [] n p = (tt, p.0)
protocols-front (x ∷ xs) n p = let rest = protocols-front xs n p.1 in ((p.0, rest.0), rest.1)

-- whether TCK is needed is the same whatever bytes come now
pub needs-same : (u : Option ℕ) (xs : List Indicated) (f g : Interface)
    → needs_tck (tds_under u xs f) ≡ needs_tck (tds_under u xs g)
needs-same None xs f g = refl
needs-same (Some p) xs f g = needs-push xs (record { protocol = p; bytes = f })
    ∙ sym (needs-push xs (record { protocol = p; bytes = g }))

-- and where all protocols fit into the low nibble, they do whatever bytes come now
pub protocols-same : (u : Option ℕ) (xs : List Indicated) (f g : Interface)
    → AllByRecursion (λ z. z.protocol < 16) (tds_under u xs f)
    → AllByRecursion (λ z. z.protocol < 16) (tds_under u xs g)
protocols-same None xs f g p = p
protocols-same (Some n) xs f g p =
    let parts = protocols-front xs (record { protocol = n; bytes = f }) p in
    protocols-push xs (record { protocol = n; bytes = g }) parts.0 parts.1

-- ---- an interface byte comes

-- an interface byte that comes is one octet more from T0 on
pub from_t0-byte : (u : Option ℕ) (first : Interface) (xs : List Indicated) (f g : Interface) (l m : Announced)
    (k x : ℕ) → ((low : ℕ) → told g m low ≡ told f l low) → octets_of g ≡ octets_of f ++ x ∷ []
    → from_t0 u first xs g m k ≡ from_t0 u first xs f l k ++ x ∷ []
from_t0-byte None first xs f g l m k x same is = λ i. same k i ∷ is i
from_t0-byte (Some p) first xs f g l m k x same is =
    let a : ℕ = announcing first true k in
    (λ i. a ∷ (up_to_td first xs (same p i) ++ is i))
    ∙ ap (λ (b : List ℕ). a ∷ b) (sym (append_assoc (up_to_td first xs (told f l p)) (octets_of f) (x ∷ [])))

-- so it is one more of all that have come
pub byte-taken : (h : HeaderParts) (g : Interface) (m : Announced) (x s n : ℕ) → Puts h.bytes h.awaited x g m
    → header_taken (record h { bytes = g; awaited = m; sum = s; count = n }) ≡ header_taken h ++ x ∷ []
byte-taken h g m x s n p = ap (λ (b : List ℕ). ts_of h.convention ∷ b)
    (from_t0-byte h.under h.first h.indicated h.bytes g h.awaited m h.historical_len x p.same p.octets)

-- and the fields agree with the octets also after it
pub byte-holds : (h : HeaderParts) (g : Interface) (m : Announced) (x : ℕ) → HeaderHolds h → x < 256
    → Puts h.bytes h.awaited x g m
    → HeaderHolds (record h { bytes = g; awaited = m; sum = bit_xor h.sum x; count = h.count + 1 })
byte-holds h g m x holds lt p =
    let more = from_t0-byte h.under h.first h.indicated h.bytes g h.awaited m h.historical_len x p.same p.octets
    in
    let taken = byte-taken h g m x (bit_xor h.sum x) (h.count + 1) p in
    record {
      few = holds.few;
      protocols = protocols-same h.under h.indicated h.bytes g holds.protocols;
      none = holds.none;
      blank = holds.blank;
      ordered = p.ordered;
      tck = holds.tck ∙ needs-same h.under h.indicated h.bytes g;
      octets = subst AreOctets (sym taken) (octets-push (header_taken h) x holds.octets lt);
      sum = ap (λ (s : ℕ). bit_xor s x) holds.sum ∙ sym (xor_of-push (header_checked h) x) ∙ ap xor_of (sym more);
      count = omega (arith, holds.count, ap length taken, length-append (header_taken h) (x ∷ []));
      most = omega (arith, holds.most, p.count);
    }

-- ---- the bytes of T0 or a TD have all come

all : (f : Interface) (a b c : Bool) → ((a || b) || c) ≡ false
    → filled f (record { ta = a; tb = b; tc = c; td = false }) ≡ f
all f false false false e = refl
all f false false true e = absurd (cc)
all f false true c e = absurd (cc)
all f true b c e = absurd (cc)

-- where no byte is awaited, the bytes are those that have come
pub filled-all : (f : Interface) (l : Announced) → awaits_byte l ≡ false → filled f l ≡ f
filled-all f l e = all f l.ta l.tb l.tc e

up-push : (f : Interface) (xs : List Indicated) (n : Indicated) (x : ℕ)
    → up_to_td f (xs ++ n ∷ []) x ≡ (up_to_td f xs (announcing n.bytes true n.protocol) ++ octets_of n.bytes) ++ x ∷ []
up-push f [] n x =
    ap (λ (l : List ℕ). octets_of f ++ l) refl
    ∙ sym (append_assoc (octets_of f) (announcing n.bytes true n.protocol ∷ octets_of n.bytes) (x ∷ []))
    ∙ ap (λ (l : List ℕ). l ++ x ∷ []) (sym
    (append_assoc (octets_of f) (announcing n.bytes true n.protocol ∷ []) (octets_of n.bytes)))
up-push f (y ∷ xs) n x =
    let a : ℕ = announcing y.bytes true y.protocol in
    let u : List ℕ = up_to_td y.bytes xs (announcing n.bytes true n.protocol) in
    ap (λ (l : List ℕ). octets_of f ++ a ∷ l) (up-push y.bytes xs n x)
    ∙ sym (append_assoc (octets_of f) (a ∷ (u ++ octets_of n.bytes)) (x ∷ []))
    ∙ ap (λ (l : List ℕ). l ++ x ∷ []) (sym (append_assoc (octets_of f) (a ∷ u) (octets_of n.bytes)))

-- T0, and all up to the TD x that follows
pub td-follows : (u : Option ℕ) (first : Interface) (xs : List Indicated) (f : Interface) (l : Announced) (k x : ℕ)
    → IfNone u (xs ≡ []) → awaits_byte l ≡ false → l.td ≡ true
    → announcing (first_under u first f) true k ∷ up_to_td (first_under u first f) (tds_under u xs f) x ≡ from_t0 u
    first xs f l k ++ x ∷ []
td-follows None first xs f l k x none e t =
    (λ i. announcing f true k ∷ up_to_td f (none i) x)
    ∙ sym (λ i. announcing (filled-all f l e i) (t i) k ∷ (octets_of f ++ x ∷ []))
td-follows (Some p) first xs f l k x none e t =
    let same : told f l p ≡ announcing f true p = (λ i. announcing (filled-all f l e i) (t i) p) in
    ap (λ (b : List ℕ). announcing first true k ∷ b) (up-push first xs (record { protocol = p; bytes = f }) x)
    ∙ ap (λ (z : ℕ). announcing first true k ∷ ((up_to_td first xs z ++ octets_of f) ++ x ∷ [])) (sym same)

up-least : (f : Interface) (xs : List Indicated) (td : ℕ) → length xs + 1 ≤ length (up_to_td f xs td)
up-least f [] td = omega (arith, length-append (octets_of f) (td ∷ []))
up-least f (y ∷ xs) td = omega (
  arith,
  up-least y.bytes xs td,
  length-append (octets_of f) (announcing y.bytes true y.protocol ∷ up_to_td y.bytes xs td),
)

-- T0 and all up to a TD are as many whatever the TD is
up-length : (f : Interface) (xs : List Indicated) (x y : ℕ) → length (up_to_td f xs x) ≡ length (up_to_td f xs y)
up-length f [] x y = omega (arith, length-append (octets_of f) (x ∷ []), length-append (octets_of f) (y ∷ []))
up-length f (n ∷ xs) x y = omega (
  arith,
  up-length n.bytes xs x y,
  length-append (octets_of f) (announcing n.bytes true n.protocol ∷ up_to_td n.bytes xs x),
  length-append (octets_of f) (announcing n.bytes true n.protocol ∷ up_to_td n.bytes xs y),
)

few-tds : (u : Option ℕ) (first : Interface) (xs : List Indicated) (f : Interface) (l : Announced) (k : ℕ)
    → IfNone u (xs ≡ []) → 1 + length (from_t0 u first xs f l k) ≤ 33 → length xs < 31
few-tds None first xs f l k none le = omega (arith, ap length none)
few-tds (Some p) first xs f l k none le =
    omega (arith, le, up-least first xs (told f l p), length-append (up_to_td first xs (told f l p)) (octets_of f))

-- one TD more has room
pub td-room : (h : HeaderParts) → HeaderHolds h → length h.indicated < 31
td-room h holds = few-tds h.under h.first h.indicated h.bytes h.awaited h.historical_len holds.none
    (omega (arith, holds.count, holds.most))

-- ---- a TD comes

flag-present : (b : Bool) → present (or_awaited b None) ≡ count_of b
unfolding present
flag-present false = refl
flag-present true = refl

flag-td : (b : Bool) → td_of b ≡ count_of b
unfolding td_of
flag-td false = refl
flag-td true = refl

-- as many octets are awaited as the high nibble has bits
pub announced-count : (m : Announced) (x : ℕ) → Announces m x → count_ones (x / 16) ≡ awaited_count m
announced-count m x is =
    ap (λ (z : ℕ). count_ones (z / 16)) (sym is)
    ∙ ones-of (or_awaited m.ta None) (or_awaited m.tb None) (or_awaited m.tc None) m.td (x % 16) (omega arith)
    ∙ (λ i. flag-present m.ta i + flag-present m.tb i + flag-present m.tc i + flag-td m.td i)

-- where no byte has come, none is out of order
pub fresh : (g : Interface) (m : Announced) → g ≡ no_bytes → InOrder g m
fresh g m e =
    let a : g.ta ≡ None = ap (λ (f : Interface). f.ta) e in
    let b : g.tb ≡ None = ap (λ (f : Interface). f.tb) e in
    let c : g.tc ≡ None = ap (λ (f : Interface). f.tc) e in
    record { ta = λ _. (a, b, c); tb = λ _. (b, c); tc = λ _. c }

-- a TD that comes where one is awaited is one octet more of those that have come
pub td-taken : (h : HeaderParts) (g : Interface) (m : Announced) (x : ℕ) (tck : Bool) (s n : ℕ) → HeaderHolds h
    → AwaitsTd h.awaited → g ≡ no_bytes → Announces m x
    → header_taken (record h {
      first = first_of h;
      indicated = tds_of h;
      under =
          Some (x % 16);
      bytes = g;
      awaited = m;
      tck = tck;
      sum = s;
      count = n;
    }) ≡ header_taken h ++ x ∷ []
td-taken h g m x tck s n holds awaits none told-is =
    let a : ℕ = announcing (first_of h) true h.historical_len in
    let is : told g m (x % 16) ≡ x = ap (λ (f : Interface). told f m (x % 16)) none ∙ told-is in
    (λ i. ts_of h.convention ∷ a ∷ (up_to_td (first_of h) (tds_of h) (is i) ++ octets_of (none i)))
    ∙ ap (λ (l : List ℕ). ts_of h.convention ∷ a ∷ l) (append-nil (up_to_td (first_of h) (tds_of h) x))
    ∙ ap (λ (l : List ℕ). ts_of h.convention ∷ l)
    (td-follows h.under h.first h.indicated h.bytes h.awaited h.historical_len x holds.none awaits.0 awaits.1)

-- and the fields agree with the octets also after it, where the answer can have 33 octets at most
pub td-holds : (h : HeaderParts) (g : Interface) (m : Announced) (x : ℕ) (tck : Bool) → HeaderHolds h
    → AwaitsTd h.awaited
    → x < 256 → g ≡ no_bytes → Announces m x → tck ≡ (not (x % 16 == 0) || h.tck)
    → h.count + 1 + count_ones (x / 16) + h.historical_len + count_of tck ≤ 33
    → HeaderHolds (record h {
      first = first_of h;
      indicated = tds_of h;
      under =
          Some (x % 16);
      bytes = g;
      awaited = m;
      tck = tck;
      sum = bit_xor h.sum x;
      count = h.count + 1;
    })
td-holds h g m x tck holds awaits lt none told-is tck-is most =
    let taken = td-taken h g m x tck (bit_xor h.sum x) (h.count + 1) holds awaits none told-is in
    let n : Indicated = record { protocol = x % 16; bytes = g } in
    let checked : announcing (first_of h) true h.historical_len ∷ up_to_td (first_of h) (tds_of h) (told g m (x % 16))
    ++ octets_of g ≡ header_checked h ++ x ∷ [] =
    tail_is (ts_of h.convention) (ts_of h.convention)
    (announcing (first_of h) true h.historical_len ∷ up_to_td (first_of h) (tds_of h) (told g m (x % 16))
    ++ octets_of g) (header_checked h ++ x ∷ []) taken in
    record {
      few = holds.few;
      protocols = protocols-push (tds_of h) n holds.protocols (omega arith);
      none = tt;
      blank = holds.blank;
      ordered = fresh g m none;
      tck = tck-is ∙ ap (λ (t : Bool). not (x % 16 == 0) || t) holds.tck ∙ sym (needs-push (tds_of h) n);
      octets = subst AreOctets (sym taken) (octets-push (header_taken h) x holds.octets lt);
      sum = ap (λ (s : ℕ). bit_xor s x) holds.sum ∙ sym (xor_of-push (header_checked h) x) ∙ ap xor_of (sym checked);
      count = omega (arith, holds.count, ap length taken, length-append (header_taken h) (x ∷ []));
      most = omega (arith, most, announced-count m x told-is);
    }

some : (u : Option ℕ) (first : Interface) (xs : List Indicated) (f : Interface) (l : Announced) (k : ℕ)
    → 1 ≤ length (from_t0 u first xs f l k)
some None first xs f l k = omega arith
some (Some p) first xs f l k = omega arith

-- where it can't, the reason is that the answer is too long
pub td-refused : (h : HeaderParts) (x : ℕ) → HeaderHolds h → AwaitsTd h.awaited
    → 33 < h.count + 1 + count_ones (x / 16) + h.historical_len + count_of (not (x % 16 == 0) || h.tck)
    → IsReason TooLong (header_taken h ++ x ∷ [])
unfolding IsFirst
td-refused h x holds awaits over =
    let b : List ℕ = header_taken h ++ x ∷ [] in
    let is : b ≡ ts_of h.convention ∷ announcing (first_of h) true h.historical_len ∷ up_to_td (first_of h) (tds_of h) x
    =
    ap (λ (l : List ℕ). ts_of h.convention ∷ l)
    (sym (td-follows h.under h.first h.indicated h.bytes h.awaited h.historical_len x holds.none awaits.0
    awaits.1)) in
    let ends : EndsInTd b h.historical_len (tds_of h) x =
    record { few = holds.few; protocols = holds.protocols; convention = h.convention; first = first_of h; is = is }
    in
    let count : length b ≡ h.count + 1 = omega (arith, holds.count, length-append (header_taken h) (x ∷ [])) in
    let tck : count_of (not (x % 16 == 0) || h.tck) ≡ count_of (not (x % 16 == 0) || needs_tck (tds_of h)) =
    ap (λ (t : Bool). count_of (not (x % 16 == 0) || t)) holds.tck in
    inr (
      λ m. omega (
        arith,
        m.0,
        length-append (header_checked h) (x ∷ []),
        some h.under h.first h.indicated h.bytes h.awaited h.historical_len,
      ),
      inl ((h.historical_len, tds_of h, x, ends, omega (arith, over, count, tck)), refl),
    )

-- a flag as a byte is 1 where it is set, and 0 where it isn't
pub byte-count : (b : Bool) → bool_byte b ≡ count_of b
byte-count false = refl
byte-count true = refl

-- bytes of which neither TA, TB nor TC stands are none
pub bare : (f : Interface) → f.ta ≡ None → f.tb ≡ None → f.tc ≡ None → f ≡ no_bytes
bare f a b c = λ i. record { ta = a i; tb = b i; tc = c i }

-- ---- all interface bytes have come

goes-push : (xs : List Indicated) (n : Indicated) → goes_on (xs ++ n ∷ []) ≡ true
goes-push [] n = refl
goes-push (x ∷ xs) n = refl

-- where nothing is awaited, T0 and the interface bytes are the octets that have come from T0 on
pub all-come : (u : Option ℕ) (first : Interface) (xs : List Indicated) (f : Interface) (l : Announced) (k : ℕ)
    → IfNone u (xs ≡ []) → awaits_byte l ≡ false → l.td ≡ false
    → announcing (first_under u first f) (goes_on (tds_under u xs f)) k ∷ interface_octets (first_under u first f)
    (tds_under u xs f) ≡ from_t0 u first xs f l k
all-come None first xs f l k none e t =
    (λ i. announcing f (goes_on (none i)) k ∷ interface_octets f (none i))
    ∙ sym (λ i. announcing (filled-all f l e i) (t i) k ∷ octets_of f)
all-come (Some p) first xs f l k none e t =
    let n : Indicated = record { protocol = p; bytes = f } in
    let same : told f l p ≡ announcing f false p = (λ i. announcing (filled-all f l e i) (t i) p) in
    (λ i. announcing first (goes-push xs n i) k ∷ interface-mid first xs n [] i)
    ∙ ap (λ (z : ℕ). announcing first true k ∷ up_to_td first xs z ++ octets_of f) (sym same)

-- the octets after the last interface byte
unfoldable pub ended : HeaderParts → TailParts
ended h = record {
  convention = h.convention;
  first = first_of h;
  indicated = tds_of h;
  historical = h.historical;
  historical_len = h.historical_len;
  tck = h.tck;
  sum = h.sum;
}

both : (a b : Bool) → (a || b) ≡ false → (a ≡ false) × (b ≡ false)
both false false e = (refl, refl)
both false true e = absurd (cc)
both true b e = absurd (cc)

none-announced : (l : Announced) → is_announced l ≡ false → (awaits_byte l ≡ false) × (l.td ≡ false)
none-announced l e = both (awaits_byte l) l.td e

-- where nothing is awaited, the octets from T0 on stay the same when the historical bytes begin
pub end-checked : (h : HeaderParts) → HeaderHolds h → is_announced h.awaited ≡ false
    → tail_checked (ended h) ≡ header_checked h
unfolding ended
end-checked h holds none =
    let parts = none-announced h.awaited none in
    let front : List ℕ = announcing (first_of h) (goes_on (tds_of h)) h.historical_len ∷ interface_octets (first_of h)
    (tds_of h) in
    ap (λ (l : List ℕ). front ++ l) holds.blank ∙ append-nil front
    ∙ all-come h.under h.first h.indicated h.bytes h.awaited h.historical_len holds.none parts.0 parts.1

-- so do all that have come
pub end-taken : (h : HeaderParts) → HeaderHolds h → is_announced h.awaited ≡ false
    → tail_taken (ended h) ≡ header_taken h
unfolding ended
end-taken h holds none = ap (λ (l : List ℕ). ts_of h.convention ∷ l) (end-checked h holds none)

-- and the fields agree with the octets also then
pub end-holds : (h : HeaderParts) → HeaderHolds h → is_announced h.awaited ≡ false → TailHolds (ended h)
unfolding ended
end-holds h holds none =
    let taken = end-taken h holds none in
    let inter : List ℕ = interface_octets (first_of h) (tds_of h) in
    record {
      few = holds.few;
      within = omega (arith, ap length holds.blank);
      protocols = holds.protocols;
      tck = holds.tck;
      octets = subst AreOctets (sym taken) holds.octets;
      sum = holds.sum ∙ ap xor_of (sym (end-checked h holds none));
      most = omega (
        arith,
        holds.most,
        holds.count,
        ap length taken,
        ap length holds.blank,
        length-append inter h.historical,
      );
    }

-- the answer with the bytes that come now is no longer than the octets that have come, and TCK
length-closed : (u : Option ℕ) (first : Interface) (xs : List Indicated) (f : Interface) (l : Announced) (k : ℕ)
    → IfNone u (xs ≡ [])
    → length (from_t0 u first xs f l k) ≡ 1 + length (interface_octets (first_under u first f) (tds_under u xs f))
length-closed None first xs f l k none = omega (arith, ap (λ (z : List Indicated). length (interface_octets f z)) none)
length-closed (Some p) first xs f l k none =
    let n : Indicated = record { protocol = p; bytes = f } in
    omega (
      arith,
      ap length (interface-mid first xs n []),
      length-append (up_to_td first xs (told f l p)) (octets_of f),
      length-append (up_to_td first xs (announcing f false p)) (octets_of f),
      up-length first xs (told f l p) (announcing f false p),
    )

-- so it has a spelling, of at most 33 octets
pub closed-proper : (h : HeaderParts) → HeaderHolds h → IsProper (closed h)
closed-proper h holds =
    let same : count_of h.tck ≡ count_of (needs_tck (tds_of h)) = ap count_of holds.tck in
    record {
      nibbles = record { protocols = holds.protocols; historical = omega (arith, ap length holds.blank) };
      most = omega (
        arith,
        holds.count,
        holds.most,
        spelling-length (closed h),
        same,
        ap length holds.blank,
        length-closed h.under h.first h.indicated h.bytes h.awaited h.historical_len holds.none,
      );
    }

-- ---- historical bytes and TCK

-- a historical byte that comes is one octet more from T0 on
pub historical-taken : (t : TailParts) (v : List ℕ) (x s : ℕ) → v ≡ t.historical ++ x ∷ []
    → tail_checked (record t { historical = v; sum = s }) ≡ tail_checked t ++ x ∷ []
historical-taken t v x s e =
    let front : List ℕ = announcing t.first (goes_on t.indicated) t.historical_len ∷ interface_octets t.first
    t.indicated in
    ap (λ (l : List ℕ). front ++ l) e ∙ sym (append_assoc front t.historical (x ∷ []))

-- and the fields agree with the octets also after it, where one more was to come
pub historical-holds : (t : TailParts) (v : List ℕ) (x : ℕ) → TailHolds t → length t.historical < t.historical_len
    → x < 256 → v ≡ t.historical ++ x ∷ []
    → TailHolds (record t { historical = v; sum = bit_xor t.sum x })
historical-holds t v x holds less lt e =
    let more = historical-taken t v x (bit_xor t.sum x) e in
    record {
      few = holds.few;
      within = omega (arith, less, ap length e, length-append t.historical (x ∷ []));
      protocols = holds.protocols;
      tck = holds.tck;
      octets = subst AreOctets (sym (ap (λ (l : List ℕ). ts_of t.convention ∷ l) more))
          (octets-push (tail_taken t) x holds.octets lt);
      sum = ap (λ (s : ℕ). bit_xor s x) holds.sum ∙ sym (xor_of-push (tail_checked t) x) ∙ ap xor_of (sym more);
      most = holds.most;
    }

-- the answer with it is proper
pub historical-proper : (t : TailParts) (x : ℕ) → TailHolds t → length t.historical < t.historical_len
    → IsProper (record (parts_of t) { historical = t.historical ++ x ∷ [] })
historical-proper t x holds less =
    let same : count_of t.tck ≡ count_of (needs_tck t.indicated) = ap count_of holds.tck in
    record {
      nibbles = record {
        protocols = holds.protocols;
        historical = omega (arith, holds.few, less, length-append t.historical (x ∷ []));
      };
      most = omega (
        arith,
        holds.most,
        less,
        spelling-length (record (parts_of t) { historical = t.historical ++ x ∷ [] }),
        length-append t.historical (x ∷ []),
        same,
      );
    }

-- once all historical bytes have come
pub all-checked : (t : TailParts) → length t.historical ≡ t.historical_len
    → checked_octets (parts_of t) ≡ tail_checked t
all-checked t e = ap (λ (k : ℕ). announcing t.first (goes_on t.indicated) k ∷ interface_octets t.first
    t.indicated ++ t.historical) e

-- once all historical bytes have come, their number and the protocols fit into the low nibbles
pub tail-nibbles : (t : TailParts) → TailHolds t → length t.historical ≡ t.historical_len → HasNibbles (parts_of t)
tail-nibbles t holds e = record { protocols = holds.protocols; historical = omega (arith, holds.few, e) }

-- so the answer has a spelling, of at most 33 octets
pub tail-proper : (t : TailParts) → TailHolds t → length t.historical ≡ t.historical_len → IsProper (parts_of t)
tail-proper t holds e =
    let same : count_of t.tck ≡ count_of (needs_tck t.indicated) = ap count_of holds.tck in
    record { nibbles = tail-nibbles t holds e; most = omega (arith, holds.most, spelling-length (parts_of t), e, same) }

-- where TCK is to come, an octet that isn't the exclusive-or of those from T0 on is a wrong one
pub tck-refused : (t : TailParts) (x : ℕ) → TailHolds t → length t.historical ≡ t.historical_len → t.tck ≡ true
    → x ≢ t.sum → IsReason BadTck (tail_taken t ++ x ∷ [])
unfolding IsFirst
tck-refused t x holds e tck differs =
    let a : AtrParts = parts_of t in
    let nibbles : HasNibbles a = tail-nibbles t holds e in
    let is : tail_taken t ++ x ∷ [] ≡ ts_of a.convention ∷ checked_octets a ++ x ∷ [] =
    ap (λ (l : List ℕ). ts_of t.convention ∷ l ++ x ∷ []) (sym (all-checked t e)) in
    inr (
      λ m. omega (arith, m.0, length-append (tail_checked t) (x ∷ [])),
      inr (
        λ m. no-td a x m.0 m.2 m.1 nibbles (subst (λ (l : List ℕ). EndsInTd l m.0 m.1 m.2) is m.3),
        inl (
          (
            a,
            x,
            nibbles,
            sym holds.tck
                ∙ tck,
            is,
            λ same. differs (same ∙ ap xor_of (all-checked t e) ∙ sym holds.sum),
          ),
          refl,
        ),
      ),
    )

-- and with the octet that is, they are a whole answer
pub tck-taken : (t : TailParts) (x : ℕ) → TailHolds t → length t.historical ≡ t.historical_len → t.tck ≡ true
    → x ≡ t.sum → IsAtr (parts_of t) (tail_taken t ++ x ∷ [])
tck-taken t x holds e tck same =
    let a : AtrParts = parts_of t in
    let sum : x ≡ xor_of (checked_octets a) = same ∙ holds.sum ∙ ap xor_of (sym (all-checked t e)) in
    let needs : needs_tck a.indicated ≡ true = sym holds.tck ∙ tck in
    let stands : option_to_list (tck_of a) ≡ xor_of (checked_octets a) ∷ [] =
    ap (λ (b : Bool). option_to_list (if b then Some (xor_of (checked_octets a)) else None)) needs in
    encoded a (tail_taken t ++ x ∷ []) (tail-proper t holds e)
    (subst AreOctets (sym (all-checked t e)) (λ i. holds.octets (suc i)))
    ((λ i. ts_of t.convention ∷ (sym (all-checked t e) i ++ sum i ∷ []))
    ∙ ap (λ (l : List ℕ). ts_of t.convention ∷ checked_octets a ++ l) (sym stands))

-- where no TCK is to come
tail-whole : (t : TailParts) → TailHolds t → length t.historical ≡ t.historical_len → t.tck ≡ false
    → IsAtr (parts_of t) (tail_taken t)
tail-whole t holds e tck =
    let a : AtrParts = parts_of t in
    let needs : needs_tck a.indicated ≡ false = sym holds.tck ∙ tck in
    let none : option_to_list (tck_of a) ≡ [] =
    ap (λ (b : Bool). option_to_list (if b then Some (xor_of (checked_octets a)) else None)) needs in
    encoded a (tail_taken t) (tail-proper t holds e)
    (subst AreOctets (sym (all-checked t e)) (λ i. holds.octets (suc i)))
    (ap (λ (l : List ℕ). ts_of t.convention ∷ l) (sym (all-checked t e) ∙ sym (append-nil (checked_octets a)))
    ∙ ap (λ (l : List ℕ). ts_of t.convention ∷ checked_octets a ++ l) (sym none))

-- the octets with the one that came, told apart by whether more must come
pub tail-step : (octets : List ℕ) (t : TailParts) (b : Bool) → TailHolds t → tail_taken t ≡ octets
    → MatchBool b (TailAwaits t) (TailEnds t) → IsTailStep octets t (Ok (not b))
tail-step octets t true holds is awaits = (holds, awaits, is)
tail-step octets t false holds is ends = (
  holds,
  ends.0,
  subst (IsAtr (parts_of t)) is (tail-whole t holds ends.0 ends.1),
)

counted-true : (b : Bool) → 1 ≤ count_of b → b ≡ true
counted-true false le = absurd (omega arith)
counted-true true le = refl

-- where all historical bytes have come and more is awaited, it is TCK
pub tck-awaited : (t : TailParts) → TailHolds t → TailAwaits t → t.historical_len ≤ length t.historical
    → (length t.historical ≡ t.historical_len) × (t.tck ≡ true)
tck-awaited t holds awaits le = (omega (arith, le, holds.within), counted-true t.tck (omega (arith, awaits, le)))
