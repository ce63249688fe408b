-- A whole answer to reset, read in one pass: the parts that were read are those of the answer with which the octets begin.
use Rattle.std.proofs.Common.{◌≡◌, ℕ, ◌+◌, ◌-◌, ◌%◌, ◌<◌, ◌≤◌, ◌++◌, List, [], ◌∷◌, length, take, drop, get_or, refl, sym, ap, ◌∙◌, arith, Option, Some, None, option_to_list, append_assoc, Bool, true, false, not, ◌||◌, ◌==◌}
use Rattle.std.proofs.lemmas.List.{append-nil, length-append, length-take, length-drop, drop-drop, drop_more, take-append-drop}
use Rattle.std.proofs.Math.Seq.{take-append_seam, take-length}
use Rattle.octet_core.specs.Octets.{AreOctets}
use Rattle.octet_core.specs.Grammar.{Accepts, self_ended}
use Rattle.octet_core.proofs.Lists.{octets-take}
use Rattle.atr_core.specs.declared.atr.Convention.{Convention}
use Rattle.atr_core.specs.declared.atr.Interface.{Interface}
use Rattle.atr_core.specs.declared.atr.Indicated.{Indicated}
use Rattle.atr_core.specs.declared.announced.Announced.{Announced}
use Rattle.atr_core.specs.Atr.{AtrParts, ts_of, bit_of, count_of, goes_on, td_bit, announcing, octets_of, interface_octets, td_octets, needs_tck, tck_of, checked_octets, spelling, IsAtr}
use Rattle.atr_core.specs.Partial.{or_awaited, Announces}
use Rattle.atr_core.specs.Whole.{IsSection, AreTds, AreTdsSoFar, IsEnded, HasSection, HasTds, HasTdsSoFar, HasHead, HasHeadBefore, tck_after}
use Rattle.atr_core.proofs.Built.{interface-td}
use Rattle.atr_core.proofs.Partials.{protocols-push, needs-push}

-- octets as the first one and those after it, as a pattern has them
pub first-and-rest : (l : List ℕ) → 1 ≤ length l → l ≡ get_or l 0 0 ∷ take (length l - 1) (drop 1 l)
first-and-rest [] some = absurd (omega arith)
first-and-rest (x ∷ xs) some = ap (λ (s : List ℕ). x ∷ s)
    (sym (ap (λ (n : ℕ). take n xs) (omega arith) ∙ take-length xs))

-- ---- the TDs

-- before a TD is read, those read next are all of them
pub no-td-yet : (td : Bool) (octets : List ℕ) → AreTdsSoFar td octets [] td octets
no-td-yet td octets = record { protocols = tt; some = λ xs e. e; is = λ xs left e h. h }

-- a TD that is read next, with the bytes after it, is one more of those so far
pub one-td-more : (td : Bool) (octets : List ℕ) (ys : List Indicated) (more : Bool) (rest : List ℕ) (x : ℕ)
    (after : List ℕ) (bytes : Interface) (next : Bool) (left : List ℕ) → AreTdsSoFar td octets ys more rest
    → more ≡ true → rest ≡ x ∷ after → IsSection x after bytes next left
    → AreTdsSoFar td octets (ys ++ (record { protocol = x % 16; bytes = bytes }) ∷ []) next left
one-td-more td octets ys more rest x after bytes next left so stands is section =
    let n : Indicated = record { protocol = x % 16; bytes = bytes } in
    let joined : (xs : List Indicated) → (ys ++ n ∷ []) ++ xs ≡ ys ++ n ∷ xs = λ xs. append_assoc ys (n ∷ []) xs in
    let whole : (xs : List Indicated) (end : List ℕ) → goes_on xs ≡ next → left ≡ td_octets xs ++ end
    → rest ≡ td_octets (n ∷ xs) ++ end = λ xs end e h.
    is ∙ (λ i. sym section.told i ∷ section.is i)
    ∙ (λ i. announcing bytes (sym e i) (x % 16) ∷ octets_of bytes ++ h i)
    ∙ ap (λ (s : List ℕ). announcing bytes (goes_on xs) (x % 16) ∷ s)
    (sym (append_assoc (octets_of bytes) (td_octets xs) end)) in
    record {
      protocols = protocols-push ys n so.protocols (omega arith);
      some = λ xs e. ap goes_on (joined xs) ∙ so.some (n ∷ xs) (sym stands);
      is = λ xs end e h. so.is (n ∷ xs) end (sym stands) (whole xs end e h)
          ∙ ap (λ (l : List Indicated). td_octets l ++ end) (sym (joined xs));
    }

-- where no TD follows, those so far are all of them
pub all-tds : (td : Bool) (octets : List ℕ) (ys : List Indicated) (more : Bool) (rest : List ℕ)
    → AreTdsSoFar td octets ys more rest → more ≡ false → AreTds td octets ys rest
all-tds td octets ys more rest so none = record {
  some = ap goes_on (sym (append-nil ys)) ∙ so.some [] (sym none);
  protocols = so.protocols;
  is = so.is [] rest (sym none) refl ∙ ap (λ (l : List Indicated). td_octets l ++ rest) (append-nil ys);
}

-- ---- the whole answer

front : (a b : List ℕ) → take (length (a ++ b) - length b) (a ++ b) ≡ a
front a b = ap (λ (n : ℕ). take n (a ++ b)) (omega (arith, length-append a b)) ∙ take-append_seam a b

-- the octets from T0 on, up to TCK
checked-read : (a : AtrParts) (t0 : ℕ) (td : Bool) (after tds tail tck : List ℕ) → IsSection t0 after a.first td tds
    → AreTds td tds a.indicated tail → tail ≡ a.historical ++ tck
    → length a.historical ≡ t0 % 16 → t0 ∷ after ≡ checked_octets a ++ tck
checked-read a t0 td after tds tail tck section indicated historical count =
    let inter : List ℕ = interface_octets a.first a.indicated in
    let told : t0 ≡ announcing a.first (goes_on a.indicated) (length a.historical) =
    sym section.told ∙ (λ i. announcing a.first (sym indicated.some i) (sym count i)) in
    let bytes : after ≡ inter ++ tail =
    section.is ∙ ap (λ (s : List ℕ). octets_of a.first ++ s) indicated.is
    ∙ sym (append_assoc (octets_of a.first) (td_octets a.indicated) tail)
    ∙ ap (λ (s : List ℕ). s ++ tail) (sym (interface-td a.first a.indicated)) in
    λ i. told i ∷ (bytes ∙ ap (λ (s : List ℕ). inter ++ s) historical ∙ sym (append_assoc inter a.historical tck)) i

-- the parts that were read one after another are those of the answer with which the octets begin
pub whole-read : (a : AtrParts) (octets from after tds tail tck : List ℕ) (ts t0 : ℕ) (td needed : Bool) (count : ℕ)
    → AreOctets octets → octets ≡ ts ∷ from → from ≡ t0 ∷ after
    → ts_of a.convention ≡ ts → IsSection t0 after a.first td tds → AreTds td tds a.indicated tail → tail ≡ a.historical
    ++ tck → length a.historical ≡ t0 % 16 → needed ≡ needs_tck a.indicated
    → IsEnded from tck needed count → Accepts self_ended IsAtr octets a count
whole-read a octets from after tds tail tck ts t0 td needed count are octets-is from-is convention section indicated
    historical few needs ended =
    let left : List ℕ = ended.left in
    let from-t0 : from ≡ checked_octets a ++ tck =
    from-is ∙ checked-read a t0 td after tds tail tck section indicated historical few in
    let checked-is : take (length from - length tck) from ≡ checked_octets a =
    ap (λ (s : List ℕ). take (length s - length tck) s) from-t0 ∙ front (checked_octets a) tck in
    let end : tck ≡ option_to_list (tck_of a) ++ left =
    ended.is ∙ (λ i. option_to_list (tck_after (needs i) (checked-is i)) ++ left) in
    let all : octets ≡ spelling a ++ left =
    octets-is ∙ (λ i. sym convention i ∷ from-t0 i)
    ∙ ap (λ (s : List ℕ). ts_of a.convention ∷ checked_octets a ++ s) end
    ∙ ap (λ (s : List ℕ). ts_of a.convention ∷ s)
    (sym (append_assoc (checked_octets a) (option_to_list (tck_of a)) left)) in
    let n : count ≡ length (spelling a) =
    omega (arith, ended.counted, ap length octets-is, ap length all, length-append (spelling a) left) in
    let spelled : take count octets ≡ spelling a =
    ap (λ (k : ℕ). take k octets) n ∙ ap (λ (s : List ℕ). take (length (spelling a)) s) all
    ∙ take-append_seam (spelling a) left in (
      omega (arith, ended.counted, ap length octets-is),
      record {
        proper = record {
          nibbles = record { protocols = indicated.protocols; historical = omega (arith, few) };
          most =
              omega (arith, n, ended.most);
        };
        octets = octets-take count octets are;
        is = spelled;
      },
    )

-- ---- where no part is kept

-- the first octet, where it is there
abbrev first-where : Bool → List ℕ → Option ℕ
first-where true l = Some (get_or l 0 0)
first-where false l = None

one-byte : (b : Bool) (l : List ℕ) → count_of b ≤ length l → l ≡ option_to_list (first-where b l) ++ drop (count_of b) l
one-byte true [] some = absurd (omega arith)
one-byte true (x ∷ l) some = refl
one-byte false l some = refl

told-byte : (b : Bool) (l : List ℕ) (weight : ℕ) → bit_of (first-where b l) weight ≡ bit_of (or_awaited b None) weight
told-byte true l weight = refl
told-byte false l weight = refl

-- what an octet announces is there
pub section-there : (octet : ℕ) (announced : Announced) (octets rest : List ℕ) → Announces announced octet
    → count_of announced.ta + count_of announced.tb + count_of announced.tc ≤ length octets
    → rest ≡ drop (count_of announced.ta + count_of announced.tb + count_of announced.tc) octets
    → HasSection octet octets announced.td rest
section-there octet announced octets rest announces some is =
    let a : ℕ = count_of announced.ta in let b : ℕ = count_of announced.tb in let c : ℕ = count_of announced.tc in
    let second : List ℕ = drop a octets in
    let third : List ℕ = drop b second in
    let bytes : Interface = record {
      ta = first-where announced.ta octets;
      tb = first-where announced.tb second;
      tc =
          first-where announced.tc third;
    } in
    let ta : List ℕ = option_to_list bytes.ta in let tb : List ℕ = option_to_list bytes.tb in let tc : List ℕ =
    option_to_list bytes.tc in
    let end : drop c third ≡ rest = ap (λ (l : List ℕ). drop c l) (drop-drop b a octets) ∙ drop-drop c (a + b) octets
    ∙ ap (λ (n : ℕ). drop n octets) (omega arith) ∙ sym is in
    let two : length second ≡ length octets - a = length-drop a octets in
    let three : length third ≡ length second - b = length-drop b second in (
      bytes,
      record {
        told = (λ i. told-byte announced.ta octets 0x10 i + told-byte announced.tb second 0x20 i + told-byte
            announced.tc third 0x40 i + td_bit announced.td + octet % 16) ∙ announces;
        is = one-byte announced.ta octets (omega (arith, some))
            ∙ ap (λ (l : List ℕ). ta ++ l) (one-byte announced.tb second (omega (arith, some, two)))
            ∙ sym (append_assoc ta tb third)
            ∙ ap (λ (l : List ℕ). (ta ++ tb) ++ l)
            (one-byte announced.tc third (omega (arith, some, two, three)) ∙ ap (λ (l : List ℕ). tc ++ l) end)
            ∙ sym (append_assoc (ta ++ tb) tc rest);
      },
    )

-- before a TD is passed, those passed next are all of them, and TCK isn't needed yet
pub no-td-skipped : (td : Bool) (octets : List ℕ) → HasTdsSoFar td octets false td octets
no-td-skipped td octets = ([], no-td-yet td octets, refl)

either-first : (a b : Bool) → (a || b) ≡ (b || a)
either-first false false = refl
either-first false true = refl
either-first true false = refl
either-first true true = refl

-- a TD that is passed next is one more of those so far, and makes TCK needed unless its protocol is T=0
pub one-td-skipped : (td : Bool) (octets : List ℕ) (needed more : Bool) (rest : List ℕ) (x : ℕ) (after : List ℕ)
    (later next : Bool) (left : List ℕ) → HasTdsSoFar td octets needed more rest
    → more ≡ true → rest ≡ x ∷ after → HasSection x after next left → later ≡ (needed || not (x % 16 == 0))
    → HasTdsSoFar td octets later next left
one-td-skipped td octets needed more rest x after later next left so stands is section later-is =
    let n : Indicated = record { protocol = x % 16; bytes = section.0 } in (
      so.0 ++ n ∷ [],
      one-td-more td octets so.0 more rest x after section.0 next left so.1 stands is section.1,
      later-is ∙ either-first needed (not (x % 16 == 0)) ∙ ap (λ (b : Bool). not (x % 16 == 0) || b) so.2
          ∙ sym (needs-push so.0 n),
    )

-- where no TD follows, those passed so far are all of them
pub all-skipped : (td : Bool) (octets : List ℕ) (needed more : Bool) (rest : List ℕ)
    → HasTdsSoFar td octets needed more rest → more ≡ false → HasTds td octets needed rest
all-skipped td octets needed more rest so none = (so.0, all-tds td octets so.0 more rest so.1 none, so.2)

-- what T0 announces is there before this place
pub head-there : (t0 count : ℕ) (announced : Announced) (from : List ℕ) → Announces announced t0
    → count ≡ count_of announced.ta + count_of announced.tb + count_of announced.tc
    → HasHeadBefore t0 from false announced.td (1 + count)
head-there t0 count announced from announces counted inside = record {
  td = announced.td;
  tds = drop (1 + count) from;
  first = section-there t0 announced (drop 1 from) (drop (1 + count) from) announces
      (omega (arith, counted, inside, length-drop 1 from))
      (sym (drop-drop count 1 from) ∙ ap (λ (k : ℕ). drop k (drop 1 from)) counted);
  others = no-td-skipped announced.td (drop (1 + count) from);
}

-- with a TD at this place, what it announces is there before a later one
pub head-more : (t0 : ℕ) (from : List ℕ) (needed more : Bool) (place x count : ℕ) (announced : Announced)
    → HasHeadBefore t0 from needed more place → more ≡ true → place < length from → x ≡ get_or from place 0
    → Announces announced x → count ≡ count_of announced.ta + count_of announced.tb + count_of announced.tc
    → HasHeadBefore t0 from (needed || not (x % 16 == 0)) announced.td (place + (1 + count))
head-more t0 from needed more place x count announced before stands here is announces counted inside =
    let so : HasHead t0 (drop 1 from) needed more (drop place from) = before (omega (arith, here)) in
    let left : List ℕ = drop (place + (1 + count)) from in
    let next : List ℕ = drop (place + 1) from in
    let left-is : left ≡ drop count next = ap (λ (k : ℕ). drop k from)
    (let e : place + (1 + count) ≡ place + 1 + count = omega arith in e) ∙ sym (drop-drop count (place + 1) from) in
    record {
      td = so.td;
      tds = so.tds;
      first = so.first;
      others = one-td-skipped so.td so.tds needed more (drop place from) x next (needed || not (x % 16 == 0))
          announced.td left so.others stands
          (drop_more from place 0 here ∙ ap (λ (y : ℕ). y ∷ next) (sym is))
          (section-there x announced next left announces
          (omega (arith, counted, inside, length-drop (place + 1) from))
          (left-is ∙ ap (λ (k : ℕ). drop k next) counted)) refl;
    }

-- octets of which each part was passed begin with an answer of so many octets
pub whole-passed : (convention : Convention) (octets from after tds tail tck : List ℕ) (ts t0 : ℕ) (td needed : Bool)
    (count : ℕ) → AreOctets octets → octets ≡ ts ∷ from → from ≡ t0 ∷ after
    → ts_of convention ≡ ts → HasSection t0 after td tds → HasTds td tds needed tail → t0 % 16 ≤ length tail
    → tck ≡ drop (t0 % 16) tail
    → IsEnded from tck needed count → (v : AtrParts) × Accepts self_ended IsAtr octets v count
whole-passed convention octets from after tds tail tck ts t0 td needed count are octets-is from-is opened section
    indicated few tck-is ended =
    let a : AtrParts = record {
      convention = convention;
      first = section.0;
      indicated = indicated.0;
      historical =
          take (t0 % 16) tail;
    } in (
      a,
      whole-read a octets from after tds tail tck ts t0 td needed count are octets-is from-is opened section.1
          indicated.1
          (sym (take-append-drop (t0 % 16) tail) ∙ ap (λ (l : List ℕ). take (t0 % 16) tail ++ l) (sym tck-is))
          (omega (arith, length-take (t0 % 16) tail, few)) indicated.2 ended,
    )
