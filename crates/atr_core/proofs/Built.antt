-- The spelling of an answer to reset, put together part by part.
use Rattle.std.proofs.Common.{◌≡◌, ℕ, ◌+◌, ◌<◌, ◌≤◌, ◌++◌, List, [], ◌∷◌, length, refl, sym, ap, ◌∙◌, arith, Bool, true, false, not, ◌==◌, slice_index_or, None, Some, option_to_list, subst, if◌then◌else◌, bit_xor}
use Rattle.std.specs.List.{fold}
use Rattle.std.proofs.lemmas.List.Sums.{fold-append}
use Rattle.std.proofs.lemmas.List.{length-append, append-nil}
use Rattle.std.proofs.lemmas.Bool.Decides.{nat_tests}
use Rattle.octet_core.specs.Octets.{AreOctets, xor_of}
use Rattle.octet_core.proofs.Lists.{octets-cons, octets-append, xor-octet}
use Rattle.atr_core.specs.declared.atr.Convention.{Convention}
use Rattle.atr_core.specs.declared.atr.Convention.TheVariants.{Direct, Inverse}
use Rattle.atr_core.specs.declared.atr.Interface.{Interface}
use Rattle.atr_core.specs.declared.atr.Indicated.{Indicated}
use Rattle.atr_core.specs.Atr.{AtrParts, IsProper, IsAtr, ts_of, announcing, goes_on, octets_of, td_octets, interface_octets, needs_tck, tck_of, checked_octets, spelling}

-- the interface bytes are those after T0, and then each TD with those after it
pub interface-td : (f : Interface) (xs : List Indicated) → interface_octets f xs ≡ octets_of f ++ td_octets xs
interface-td f [] = sym (append-nil (octets_of f))
interface-td f (x ∷ xs) = ap (λ (l : List ℕ). octets_of f ++ announcing x.bytes (goes_on xs) x.protocol ∷ l)
    (interface-td x.bytes xs)

-- a TD follows where the list of TDs isn't empty
pub goes_on-is : (xs : List Indicated) → not (length xs == 0) ≡ goes_on xs
goes_on-is [] = refl
goes_on-is (x ∷ xs) = grind (arith, nat_tests)

-- the TD that a list without one is read to have
abbrev pub none_td : Indicated
none_td = record { protocol = 0; bytes = record { ta = None; tb = None; tc = None } }

-- the first TD and its bytes have room where all have
pub td-room : (old start : List ℕ) (xs all : List Indicated) → 0 < length xs → old ++ td_octets xs ≡ start
    ++ td_octets all → length start + length (td_octets all) ≤ 32
    → length old + 1 + length (octets_of (slice_index_or xs 0 none_td).bytes) ≤ 32
td-room old start [] all some whole room = absurd (omega arith)
td-room old start (x ∷ xs) all some whole room =
    omega (
      arith,
      ap length whole,
      length-append old (td_octets (x ∷ xs)),
      length-append start (td_octets all),
      length-append (octets_of x.bytes) (td_octets xs),
    )

-- T0, the bytes after it, the TDs with theirs and the historical bytes, one after another, are what TCK checks
pub checked-built : (a : AtrParts) (n o p q r : List ℕ) (t0 : ℕ) → n ≡ [] → o ≡ n ++ t0 ∷ [] → p ≡ o
    ++ octets_of a.first → q ≡ p ++ td_octets a.indicated → r ≡ q ++ a.historical
    → t0 ≡ announcing a.first (goes_on a.indicated) (length a.historical) → r ≡ checked_octets a
checked-built a n o p q r t0 hn ho hp hq hr ht =
    let t : ℕ = announcing a.first (goes_on a.indicated) (length a.historical) in
    let start : o ≡ t ∷ [] = ho ∙ ap (λ (l : List ℕ). l ++ t0 ∷ []) hn ∙ ap (λ (z : ℕ). z ∷ []) ht in
    let third : p ≡ t ∷ octets_of a.first = hp ∙ ap (λ (l : List ℕ). l ++ octets_of a.first) start in
    let fourth : q ≡ t ∷ interface_octets a.first a.indicated =
    hq ∙ ap (λ (l : List ℕ). l ++ td_octets a.indicated) third
    ∙ ap (λ (l : List ℕ). t ∷ l) (sym (interface-td a.first a.indicated)) in
    hr ∙ ap (λ (l : List ℕ). l ++ a.historical) fourth

-- the exclusive-or of T0, the bytes after it, the TDs with theirs and the historical bytes, one after another, is that
-- of what TCK checks
pub sum-built : (a : AtrParts) (t0 s u r : ℕ) → t0 ≡ announcing a.first (goes_on a.indicated) (length a.historical)
    → s ≡ fold bit_xor t0 (octets_of a.first) → u ≡ fold bit_xor s (td_octets a.indicated)
    → r ≡ fold bit_xor u a.historical → r ≡ xor_of (checked_octets a)
sum-built a t0 s u r ht hs hu hr =
    let t : ℕ = announcing a.first (goes_on a.indicated) (length a.historical) in
    let second : s ≡ fold bit_xor t (octets_of a.first) = hs ∙ ap (λ (z : ℕ). fold bit_xor z (octets_of a.first)) ht in
    let third : u ≡ fold bit_xor t (interface_octets a.first a.indicated) =
    hu ∙ ap (λ (z : ℕ). fold bit_xor z (td_octets a.indicated)) second
    ∙ sym (fold-append bit_xor t (octets_of a.first) (td_octets a.indicated))
    ∙ ap (fold bit_xor t) (sym (interface-td a.first a.indicated)) in
    hr ∙ ap (λ (z : ℕ). fold bit_xor z a.historical) third
    ∙ sym (fold-append bit_xor t (interface_octets a.first a.indicated) a.historical)

-- what TCK checks has room after TS
pub checked-room : (a : AtrParts) → IsProper a → 1 + length (checked_octets a) + length (option_to_list (tck_of a)) ≤ 33
checked-room a h = omega (arith, h.most, length-append (checked_octets a) (option_to_list (tck_of a)))

-- T0, the bytes after it, the TDs with theirs and the historical bytes are 32 octets at most
pub front-room : (a : AtrParts) → IsProper a
    → 1 + length (octets_of a.first) + length (td_octets a.indicated) + length a.historical ≤ 32
front-room a h =
    omega (
      arith,
      checked-room a h,
      length-append (interface_octets a.first a.indicated) a.historical,
      ap length (interface-td a.first a.indicated),
      length-append (octets_of a.first) (td_octets a.indicated),
    )

tck-octets : (t : Bool) (x : ℕ) → x < 256 → AreOctets (option_to_list (if t then Some x else None))
tck-octets false x lt = λ i. omega arith
tck-octets true x lt = octets-cons x [] lt (λ i. omega arith)

ts-octet : (c : Convention) → ts_of c < 256
ts-octet Direct = omega arith
ts-octet Inverse = omega arith

-- where all that TCK checks are octets, so are TS and TCK
pub spelling-octets : (v : AtrParts) → AreOctets (checked_octets v) → AreOctets (spelling v)
spelling-octets v octets =
    octets-cons (ts_of v.convention) (checked_octets v ++ option_to_list (tck_of v)) (ts-octet v.convention)
    (octets-append (checked_octets v) (option_to_list (tck_of v)) octets
    (tck-octets (needs_tck v.indicated) (xor_of (checked_octets v)) (xor-octet (checked_octets v) octets)))

-- TS, what TCK checks, and TCK where one stands
pub encoded : (a : AtrParts) (b : List ℕ) → IsProper a → AreOctets (checked_octets a)
    → b ≡ ts_of a.convention ∷ checked_octets a ++ option_to_list (tck_of a) → IsAtr a b
encoded a b h octets is = record { proper = h; octets = subst AreOctets (sym is) (spelling-octets a octets); is = is }

-- TS and the octets that were put together from T0 on are TS and what TCK checks
pub front-built : (a : AtrParts) (n o p from_t0 part : List ℕ) (ts : ℕ) (convention : Convention) → n ≡ [] → o ≡ n
    ++ ts ∷ [] → p ≡ o ++ part → part ≡ from_t0 → from_t0 ≡ checked_octets a
    → ts ≡ ts_of convention → convention ≡ a.convention → p ≡ ts_of a.convention ∷ checked_octets a
front-built a n o p from_t0 part ts convention hn ho hp hs hc ht hv =
    let start : o ≡ ts_of a.convention ∷ [] =
    ho ∙ ap (λ (l : List ℕ). l ++ ts ∷ []) hn ∙ ap (λ (z : ℕ). z ∷ []) (ht ∙ ap ts_of hv) in
    hp ∙ ap (λ (l : List ℕ). l ++ part) start ∙ ap (λ (l : List ℕ). ts_of a.convention ∷ l) (hs ∙ hc)
