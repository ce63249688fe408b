-- The places at which open objects end, and their rooms.
use Rattle.std.proofs.Common.{◌≡◌, ℕ, ◌+◌, ◌-◌, ◌<◌, ◌≤◌, List, [], ◌∷◌, ◌++◌, length, take, get_or, refl, sym, ap, subst, ◌∙◌, inl, inr, arith, zero, suc, cond, Bool, true, nat_lt}
use Rattle.std.specs.Prelude.{Some}
use Rattle.std.specs.List.{prefix_len}
use borrow.Author.Tests.{lt-ltb, le-ltb, ltb-true}
use Rattle.std.proofs.lemmas.Bool.{cases_lt}
use Rattle.std.proofs.lemmas.List.{get_or_append_left, get_or_push, length-append, get_or-take, length-take}
use Rattle.std.proofs.lemmas.List.Sums.{take_while-cons, prefix_len_passes, prefix_len-le-length}
use Rattle.std.proofs.Common.{◌≢◌}
use Rattle.tlv_core.specs.declared.header.Header.{Header}
use Rattle.tlv_core.specs.declared.header.Header.TheVariants as header
use Rattle.tlv_core.specs.declared.header.Next.{Next}
use Rattle.tlv_core.specs.declared.header.Next.TheVariants as next
use Rattle.tlv_core.specs.declared.header.ObjectHeader.{ObjectHeader}
use Rattle.tlv_core.specs.Header.{header_octets, header_in, object_in, IsWell, IsWellNext, IsNext}
use Rattle.tlv_core.specs.Reasons.{Kept, room_of}
use Rattle.tlv_core.specs.Steps.{spent, after_octet, after_next}
use Rattle.tlv_core.proofs.Advances.{not_filler, object_not_filler}
use Rattle.tlv_core.specs.Open.{AreEnds, AreNested, AreFrom, rooms_to, open_after}
use Rattle.tlv_core.proofs.Steps.{spent-more, spent-last}

-- an object that ends later is open yet
pub open-more : (count e : ℕ) (ends : List ℕ) → count < e → open_after count (e ∷ ends) ≡ e ∷ open_after count ends
open-more count e ends lt = take_while-cons (λ end. nat_lt count end) e ends
    ∙ ap (λ (b : Bool). cond b (e ∷ open_after count ends) []) (lt-ltb count e lt)

-- one whose end is reached is not, nor any inside it
pub open-last : (count e : ℕ) (ends : List ℕ) → e ≤ count → open_after count (e ∷ ends) ≡ []
open-last count e ends le = take_while-cons (λ end. nat_lt count end) e ends
    ∙ ap (λ (b : Bool). cond b (e ∷ open_after count ends) []) (le-ltb count e le)

-- the rooms of the objects that are open after m octets more
pub rooms-open : (count m : ℕ) (ends : List ℕ)
    → rooms_to (count + m) (open_after (count + m) ends) ≡ spent m (rooms_to count ends)
rooms-open count m [] = refl
rooms-open count m (e ∷ ends) =
    elim (cases_lt (count + m) e) [
      | inl lt ↦
          let room : e - (count + m) ≡ (e - count) - m = omega arith in
          ap (rooms_to (count + m)) (open-more (count + m) e ends lt)
          ∙ ap (λ (r : ℕ). r ∷ rooms_to (count + m) (open_after (count + m) ends)) room
          ∙ ap (λ (l : List ℕ). ((e - count) - m) ∷ l) (rooms-open count m ends)
          ∙ sym (spent-more m (e - count) (rooms_to count ends) (omega arith))
      | inr le ↦ ap (rooms_to (count + m)) (open-last (count + m) e ends le)
          ∙ sym (spent-last m (e - count) (rooms_to count ends) (omega arith))
    ]

-- an end n octets after the count adds a room of n
pub rooms-push : (count n : ℕ) (ends : List ℕ) → rooms_to count (ends ++ (count + n) ∷ []) ≡ rooms_to count ends
    ++ n ∷ []
rooms-push count n [] = let e : count + n - count ≡ n = omega arith in ap (λ (r : ℕ). r ∷ []) e
rooms-push count n (e ∷ ends) = ap (λ (l : List ℕ). (e - count) ∷ l) (rooms-push count n ends)

-- there are as many rooms as ends
pub length-rooms : (count : ℕ) (ends : List ℕ) → length (rooms_to count ends) ≡ length ends
length-rooms count [] = refl
length-rooms count (e ∷ ends) = ap suc (length-rooms count ends)

-- the innermost of the first places
pub room-at : (left count k : ℕ) (places : List ℕ) → k < length places
    → get_or places k 0 - count ≡ room_of left (rooms_to count (take (suc k) places))
room-at left count k [] inside = absurd (omega arith)
room-at left count zero (e ∷ places) inside = refl
room-at left count (suc k) (e ∷ []) inside = absurd (omega arith)
room-at left count (suc k) (e ∷ f ∷ places) inside = room-at (e - count) count k (f ∷ places) (omega arith)

-- ---- within the limit

-- objects that are open after another count end after it, within the limit
pub ends-open : (max count now : ℕ) (ends : List ℕ) → AreEnds max count ends → AreEnds max now (open_after now ends)
ends-open max count now ends h i lt =
    let p : ℕ → Bool = λ end. nat_lt now end in
    let inside : i < prefix_len p ends = omega (arith, length-take (prefix_len p ends) ends) in
    let same : get_or (open_after now ends) i 0 ≡ get_or ends i 0 = get_or-take (prefix_len p ends) ends i 0 inside in
    let passes : nat_lt now (get_or ends i 0) ≡ true = prefix_len_passes p ends i 0 inside in
    let old = h i (omega (arith, prefix_len-le-length p ends)) in
    (omega (arith, same, ltb-true now (get_or ends i 0) passes), omega (arith, same, old.1))

-- one end more may come, after the count and within the limit
pub ends-push : (max count e : ℕ) (ends : List ℕ) → AreEnds max count ends → count < e → e ≤ max
    → AreEnds max count (ends ++ e ∷ [])
ends-push max count e ends h lt le i inside =
    elim (cases_lt i (length ends)) [
      | inl before ↦ let same = get_or_append_left ends (e ∷ []) 0 i before in let old =
          h i before in (omega (arith, same, old.0), omega (arith, same, old.1))
      | inr at ↦
          let last : length ends ≡ i = omega (arith, length-append ends (e ∷ [])) in
          let same = get_or_push ends e 0 i last in
          (omega arith, omega arith)
    ]

inner_room : (max count e : ℕ) (ends : List ℕ) → AreEnds max count ends → e ≤ max
    → room_of (e - count) (rooms_to count ends) ≤ max - count
inner_room max count e [] h le = omega arith
inner_room max count e (f ∷ ends) h le = inner_room max count f ends (λ i lt. h (suc i) (omega arith))
    (h 0 (omega arith)).1

-- the room is within the limit
pub room-within : (max count : ℕ) (ends : List ℕ) → AreEnds max count ends → count ≤ max
    → room_of (max - count) (rooms_to count ends) ≤ max - count
room-within max count [] h le = omega arith
room-within max count (e ∷ ends) h le = let first =
    h 0 (omega arith) in omega (arith, first.1, inner_room max count e ends (λ i lt. h (suc i) (omega arith)) first.1)

-- ---- each inside the one before

nested-tail : (e : ℕ) (ends : List ℕ) → AreNested (e ∷ ends) → AreNested ends
nested-tail e ends h i lt = h (suc i) (omega arith)

-- the outermost n of nested ends are nested
pub nested-take : (n : ℕ) (ends : List ℕ) → AreNested ends → AreNested (take n ends)
nested-take n ends h i lt =
    let inside : suc i < n = omega (arith, length-take n ends) in
    let within : suc i < length ends = omega (arith, length-take n ends) in
    omega (
      arith,
      get_or-take n ends i 0 (omega arith),
      get_or-take n ends (suc i) 0 inside,
      h i within,
    )

-- and so are the ends of objects that are open yet
pub nested-now : (count : ℕ) (ends now : List ℕ) → AreNested ends → now ≡ open_after count ends → AreNested now
nested-now count ends now h e =
    subst AreNested (sym e) (nested-take (prefix_len (λ end. nat_lt count end) ends) ends h)

-- where none ends before a place, none of those open yet does
pub from-now : (place count : ℕ) (ends now : List ℕ) → AreFrom place ends → now ≡ open_after count ends
    → AreFrom place now
from-now place count ends now h e =
    subst (AreFrom place) (sym e)
    (λ i lt.
    let n = prefix_len (λ end. nat_lt count end) ends in
    omega (
      arith,
      get_or-take n ends i 0 (omega (arith, length-take n ends)),
      h i (omega (arith, length-take n ends)),
    ))

-- an end that is no later than the others is nested in them
pub nested-push : (e : ℕ) (ends : List ℕ) → AreNested ends → AreFrom e ends → AreNested (ends ++ e ∷ [])
nested-push e ends h from i lt =
    elim (cases_lt (suc i) (length ends)) [
      | inl before ↦
          let same = get_or_append_left ends (e ∷ []) 0 i (omega arith) in
          let next = get_or_append_left ends (e ∷ []) 0 (suc i) before in
          omega (arith, same, next, h i before)
      | inr at ↦
          let last : length ends ≡ suc i = omega (arith, length-append ends (e ∷ [])) in
          let next = get_or_push ends e 0 (suc i) last in
          let same = get_or_append_left ends (e ∷ []) 0 i (omega arith) in
          omega (arith, next, same, from i (omega arith))
    ]

-- what fits into the room ends no later than any open object
pub from-room : (max count left : ℕ) (ends : List ℕ) → AreEnds max count ends → AreNested ends
    → AreFrom (count + room_of left (rooms_to count ends)) ends
from-room max count left [] h nested i lt = absurd (omega arith)
from-room max count left (e ∷ []) h nested i lt =
    let first = (h 0 (omega arith)).0 in
    let at : i ≡ 0 = omega arith in
    subst (λ (k : ℕ). count + (e - count) ≤ get_or (e ∷ []) k 0) (sym at) (omega (arith, first))
from-room max count left (e ∷ f ∷ ends) h nested zero lt =
    omega (
      arith,
      nested 0 (omega arith),
      from-room max count (e - count) (f ∷ ends) (λ k lt. h (suc k) (omega arith)) (nested-tail e (f ∷ ends) nested)
          0 (omega arith),
    )
from-room max count left (e ∷ f ∷ ends) h nested (suc i) lt =
    from-room max count (e - count) (f ∷ ends) (λ k lt. h (suc k) (omega arith)) (nested-tail e (f ∷ ends) nested) i
    (omega arith)

-- what doesn't end before a place doesn't end before an earlier one
pub from-less : (place more : ℕ) (ends : List ℕ) → place ≤ more → AreFrom more ends → AreFrom place ends
from-less place more ends le h i lt = omega (arith, le, h i lt)

-- and what ends no later than they fits into the room
pub from-fits : (place count left : ℕ) (ends : List ℕ) → AreFrom place ends → place - count ≤ left
    → place - count ≤ room_of left (rooms_to count ends)
from-fits place count left [] from le = le
from-fits place count left (e ∷ ends) from le =
    from-fits place count (e - count) ends (λ i lt. from (suc i) (omega arith)) (omega (arith, from 0 (omega arith)))

-- all of them are open
pub ends-all : (max count : ℕ) (ends : List ℕ) → AreEnds max count ends → open_after count ends ≡ ends
ends-all max count [] h = refl
ends-all max count (e ∷ ends) h = open-more count e ends (h 0 (omega arith)).0
    ∙ ap (λ (l : List ℕ). e ∷ l) (ends-all max count ends (λ i lt. h (suc i) (omega arith)))

-- ---- what is kept

-- what is kept, field by field
abbrev pub kept : ℕ → ℕ → List ℕ → List ℕ → ℕ → Kept
kept max count rooms h left = record { max = max; count = count; rooms = rooms; header = h; value_left = left }

-- with equal rooms, what is kept is the same
pub same_rooms : (max count left : ℕ) (h l m : List ℕ) → l ≡ m → kept max count l h left ≡ kept max count m h left
same_rooms max count left h l m e = ap (λ (r : List ℕ). kept max count r h left) e

-- and so it is with as many octets of a value to come
pub same_left : (max count : ℕ) (rooms h : List ℕ) (left now : ℕ) → left ≡ now
    → kept max count rooms h left ≡ kept max count rooms h now
same_left max count rooms h left now e = ap (λ (n : ℕ). kept max count rooms h n) e

-- after m octets more, with the ends of objects that are open yet
pub same_open : (max count m left limit place : ℕ) (h ends now : List ℕ) → limit ≡ max → place ≡ count + m
    → now ≡ open_after (count + m) ends
    → kept limit place (rooms_to place now) h left ≡ kept max (count + m) (spent m (rooms_to count ends)) h left
same_open max count m left limit place h ends now limit_is place_is e =
    ap (λ (n : ℕ). kept n place (rooms_to place now) h left) limit_is
    ∙ ap (λ (n : ℕ). kept max n (rooms_to n now) h left) place_is
    ∙ same_rooms max (count + m) left h (rooms_to (count + m) now) (spent m (rooms_to count ends))
    (ap (rooms_to (count + m)) e ∙ rooms-open count m ends)

-- objects that are open after m octets more end after these, within the limit
pub ends-now : (max count m : ℕ) (ends now : List ℕ) → AreEnds max count ends → now ≡ open_after (count + m) ends
    → AreEnds max (count + m) now
ends-now max count m ends now h e = subst (AreEnds max (count + m)) (sym e) (ends-open max count (count + m) ends h)

-- no more objects are open than were before
pub fewer-now : (now ends : List ℕ) (count : ℕ) → now ≡ open_after count ends → length now ≤ length ends
fewer-now now ends count e = omega (arith, ap length e, length-take (prefix_len (λ end. nat_lt count end) ends) ends)

-- ---- an octet is allowed only where there is room for an object

-- an octet that isn't a filler comes only where fewer than 16 objects are open
pub shallow_next : (before : Header) (x level : ℕ) (follow : Next) → IsWell before
    → (before ≢ header.Nothing → level < 16) → IsNext (header_octets before) x follow
    → (header_octets before ≡ [] → 16 ≤ level → x ≡ 0) → follow ≢ next.Filler → level < 16
shallow_next before x level next.Filler well old is step some = absurd (some refl)
shallow_next header.Nothing x level (next.Under longer) well old is step some =
    elim (cases_lt level 16) [
      | inl lt ↦ lt
      | inr ge ↦ absurd (not_filler [] x longer is.0 is.1 (step refl ge) refl)
    ]
shallow_next header.Nothing x level (next.Object o) well old is step some =
    elim (cases_lt level 16) [
      | inl lt ↦ lt
      | inr ge ↦ absurd (object_not_filler [] x o.tag o.form o.len is.0 is.2 (step refl ge) refl)
    ]
shallow_next (header.First a) x level follow well old is step some = old (λ e. cc)
shallow_next (header.Second a b) x level follow well old is step some = old (λ e. cc)
shallow_next (header.Tagged g) x level follow well old is step some = old (λ e. cc)
shallow_next (header.Sized g f read number) x level follow well old is step some = old (λ e. cc)

-- ---- what an octet makes of the header

-- where a header is under way then, the octet was no filler
pub some_header : (follow : Next) → header_in follow ≢ header.Nothing → follow ≢ next.Filler
some_header next.Filler h e = h refl
some_header (next.Under longer) h e = cc
some_header (next.Object o) h e = cc

-- the header under way is of the kind that is said, where what comes next is
pub well_header : (follow : Next) → IsWellNext follow → IsWell (header_in follow)
well_header next.Filler h = tt
well_header (next.Under longer) h = h
well_header (next.Object o) h = tt

-- the header of an object is whole only where that is what the octet made
pub some_object : (follow : Next) (o : ObjectHeader) → object_in follow ≡ Some o → follow ≡ next.Object o
some_object next.Filler o e = cc
some_object (next.Under longer) o e = cc
some_object (next.Object p) o e = let same : p ≡ o = cc in ap next.Object same

-- where none is whole, the octet is counted, and the header under way is kept
pub after-none : (k : Kept) (follow : Next) → ((o : ObjectHeader) → object_in follow ≡ Some o → ⊥)
    → after_next k follow ≡ after_octet k (header_octets (header_in follow))
after-none k next.Filler none = refl
after-none k (next.Under longer) none = refl
after-none k (next.Object o) none = absurd (none o refl)

-- the first octet of a list that isn't empty, as a list
pub take_one : (l : List ℕ) → 0 < length l → take 1 l ≡ get_or l 0 0 ∷ []
take_one [] lt = absurd (omega arith)
take_one (x ∷ l) lt = refl
