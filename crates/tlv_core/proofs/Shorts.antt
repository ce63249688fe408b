-- Objects with a short header, taken at once.
use Rattle.std.proofs.Common.{◌≡◌, ℕ, ◌+◌, ◌-◌, ◌<◌, ◌≤◌, List, [], ◌∷◌, ◌++◌, length, take, drop, refl, sym, ap, subst, ◌∙◌, arith, Bool, true, false, cond, zero, suc, append-nil, inl, inr}
use Rattle.std.proofs.Common.{◌*◌, ◌^◌, bit_and, w32}
use Rattle.std.specs.Int.{to_le_bytes}
use Rattle.std.proofs.lemmas.Nat.{and_mask, le_bytes_4}
use Rattle.std.specs.Prelude.{◌/◌, ◌%◌, ◌↔◌, IsTrue, slice_index}
use Rattle.std.proofs.lemmas.Bool.{false≢true}
use Rattle.std.proofs.lemmas.List.{length-take, length-drop, take-take}
use Rattle.std.proofs.Math.Seq.{take-add}
use Rattle.octet_core.specs.Octets.{AreOctets}
use Rattle.octet_core.proofs.Lists.{octets-take, octets-drop}
use Rattle.tlv_core.specs.declared.form.Form.{Form}
use Rattle.tlv_core.specs.Form.{capacity, further}
use Rattle.tlv_core.specs.declared.short.ShortHeader.{ShortHeader}
use Rattle.tlv_core.specs.declared.short.ShortLength.{ShortLength}
use Rattle.tlv_core.specs.Tag.{IsTag, constructed_bit, header_of}
use Rattle.tlv_core.specs.TagView.{IsWholeTag}
use Rattle.tlv_core.specs.Tree.{End, Primitive, Constructed}
use Rattle.tlv_core.specs.Forest.{spelling, IsObject, deepest}
use Rattle.tlv_core.specs.Reasons.{Kept, HasTaken, room_of}
use Rattle.tlv_core.specs.Short.{IsShort, IsShortLength, MayCome, taken_of, whole_of, opened, after_short}
use Rattle.tlv_core.specs.Steps.{spent}
use Rattle.tlv_core.specs.Open.{AreFrom, rooms_to, open_after}
use Rattle.tlv_core.proofs.Ends.{kept, rooms-open, rooms-push}
use Rattle.tlv_core.proofs.Counting.{open_pushed, open_reached}
use Rattle.tlv_core.proofs.Stands.{under_octets, bit_cases}
use Rattle.tlv_core.proofs.Taken.{Held, held_of}
use Rattle.tlv_core.proofs.Taking.{held_count, held_header, taken_item, opens_object}

-- what is kept after m octets more, with these rooms
abbrev after : Kept → ℕ → List ℕ → Kept
after k m rooms = record { max = k.max; count = k.count + m; rooms = rooms; header = []; value_left = 0 }

-- nothing is under way
record Ready (b : List ℕ) (k : Kept) : Type 0 where
  held : Held b k
  none : under_octets held.under ≡ []

ready : (b : List ℕ) (k : Kept) → HasTaken b k → k.header ≡ [] → k.value_left ≡ 0 → Ready b k
ready b k h empty z =
    let s = held_of b k h in
    let under = held_header k (1 + length k.rooms) k.max (length b) k.rooms s.under s.ok s.is z in
    record { held = s; none = sym under.header ∙ empty }

-- the octets of a primitive object
pub primitive_spelled : (octets : List ℕ) (m n : ℕ) (tag : List ℕ) (form : Form) → m + n ≤ length octets
    → take m octets ≡ header_of tag form n
    → take (m + n) octets ≡ spelling (Primitive tag form (take n (drop m octets)) End)
primitive_spelled octets m n tag form inside is =
    let value : List ℕ = take n (drop m octets) in
    let len : length value ≡ n = omega (arith, length-take n (drop m octets), length-drop m octets) in
    take-add m n octets ∙ ap (λ (l : List ℕ). l ++ value) (is ∙ ap (header_of tag form) (sym len))
    ∙ ap (λ (l : List ℕ). header_of tag form (length value) ++ l) (sym (append-nil value))

primitive_taken : (b octets : List ℕ) (k : Kept) (m n : ℕ) (tag : List ℕ) (form : Form) → Ready b k → AreOctets octets
    → 1 + length k.rooms ≤ deepest → IsTag tag → constructed_bit tag ≡ 0 → n < capacity form → m + n ≤ length octets
    → take m octets ≡ header_of tag form n
    → m + n ≤ room_of (k.max - k.count) k.rooms
    → HasTaken (b ++ take (m + n) octets) (after k (m + n) (spent (m + n) k.rooms ++ []))
primitive_taken b octets k m n tag form r are deep is_tag bit small inside is room =
    let value : List ℕ = take n (drop m octets) in
    let len : length value ≡ n = omega (arith, length-take n (drop m octets), length-drop m octets) in
    let object : IsObject (1 + length k.rooms) 0 tag form n =
    record { depth = deep; is_tag = is_tag; is_bit = bit; fits = small } in
    let whole : under_octets r.held.under ++ take (m + n) octets ≡ spelling (Primitive tag form value End) =
    ap (λ (l : List ℕ). l ++ take (m + n) octets) r.none ∙ primitive_spelled octets m n tag form inside is in
    subst (λ (l : List ℕ). HasTaken (b ++ take (m + n) octets) (after k (m + n) l))
    (sym (append-nil (spent (m + n) k.rooms)))
    (
    taken_item b k (m + n) (take (m + n) octets) r.held (Primitive tag form value End)
    (omega (arith, length-take (m + n) octets))
    (subst (λ (c : ℕ). m + n ≤ room_of (k.max - c) k.rooms) (held_count b k r.held) room) (
      subst (IsObject (1 + length k.rooms) 0 tag form) (sym len) object,
      octets-take n (drop m octets) (octets-drop m octets are),
      tt,
    ) whole
    )

entered_taken : (b octets : List ℕ) (k : Kept) (m n : ℕ) (tag : List ℕ) (form : Form) → Ready b k
    → 1 + length k.rooms ≤ deepest → IsTag tag → constructed_bit tag ≡ 1 → n < capacity form → m ≤ length octets
    → take m octets ≡ header_of tag form n
    → m + n ≤ room_of (k.max - k.count) k.rooms
    → HasTaken (b ++ take m octets) (after k m (spent m k.rooms ++ opened true n))
entered_taken b octets k m zero tag form r deep is_tag bit small inside is room =
    let object : IsObject (1 + length k.rooms) 1 tag form 0 =
    record { depth = deep; is_tag = is_tag; is_bit = bit; fits = small } in
    let whole : under_octets r.held.under ++ take m octets ≡ spelling (Constructed tag form End End) =
    ap (λ (l : List ℕ). l ++ take m octets) r.none ∙ is ∙ sym (append-nil (header_of tag form 0)) in
    subst (λ (l : List ℕ). HasTaken (b ++ take m octets) (after k m l)) (sym (append-nil (spent m k.rooms)))
    (
    taken_item b k m (take m octets) r.held (Constructed tag form End End) (omega (arith, length-take m octets))
    (omega (arith, subst (λ (c : ℕ). m + 0 ≤ room_of (k.max - c) k.rooms) (held_count b k r.held) room))
    (object, tt, tt) whole
    )
entered_taken b octets k m (suc n) tag form r deep is_tag bit small inside is room =
    let object : IsObject (1 + length k.rooms) 1 tag form (suc n) =
    record { depth = deep; is_tag = is_tag; is_bit = bit; fits = small } in
    opens_object b k m (take m octets) r.held tag form (suc n) (omega (arith, length-take m octets)) (omega arith)
    (subst (λ (c : ℕ). m + suc n ≤ room_of (k.max - c) k.rooms) (held_count b k r.held) room) object
    (ap (λ (l : List ℕ). l ++ take m octets) r.none ∙ is)

by_kind : (b octets : List ℕ) (k : Kept) (m n : ℕ) (c : Bool) (tag : List ℕ) (form : Form) → Ready b k
    → AreOctets octets → 1 + length k.rooms ≤ deepest → IsTag tag → constructed_bit tag ≡ cond c 1 0 → n < capacity form
    → cond c m (m + n) ≤ length octets → take m octets ≡ header_of tag form n
    → m + n ≤ room_of (k.max - k.count) k.rooms
    → HasTaken (b ++ take (cond c m (m + n)) octets)
    (after k (cond c m (m + n)) (spent (cond c m (m + n)) k.rooms ++ opened c n))
by_kind b octets k m n true tag form r are deep is_tag bit small inside is room =
    entered_taken b octets k m n tag form r deep is_tag bit small inside is room
by_kind b octets k m n false tag form r are deep is_tag bit small inside is room =
    primitive_taken b octets k m n tag form r are deep is_tag bit small inside is room

-- an object with a short header is taken, whole or its header, where it fits
pub short_taken : (b octets : List ℕ) (k : Kept) (o : ShortHeader) → MayCome k octets o → AreOctets octets
    → HasTaken b k → HasTaken (b ++ take (taken_of o) octets) (after_short k o)
short_taken b octets k o may are h =
    let short = may.short in
    by_kind b octets k o.header o.len o.is_constructed o.tag o.form (ready b k h may.nothing may.idle) are
    (omega (arith, may.shallow)) short.is_tag short.bit short.fits may.here short.is may.room

-- ---- what is kept then

-- after m octets, with one object more that is open
kept_opened : (max count m n len : ℕ) (c : Bool) (ends now more : List ℕ) → now ≡ open_after (count + m) ends
    → more ≡ now ++ (count + m + n) ∷ [] → opened c len ≡ n ∷ []
    → kept max (count + m) (rooms_to (count + m) more) [] 0 ≡ kept max (count + m)
    (spent m (rooms_to count ends) ++ opened c len) [] 0
kept_opened max count m n len c ends now more now_is more_is is =
    ap (λ (rooms : List ℕ). kept max (count + m) rooms [] 0)
    (
    ap (rooms_to (count + m)) more_is ∙ rooms-push (count + m) n now
    ∙ ap (λ (l : List ℕ). l ++ n ∷ []) (ap (rooms_to (count + m)) now_is ∙ rooms-open count m ends)
    ∙ ap (λ (l : List ℕ). spent m (rooms_to count ends) ++ l) (sym is)
    )

-- or with none
kept_passed : (max count m n : ℕ) (c : Bool) (ends now : List ℕ) → now ≡ open_after (count + m) ends
    → opened c n ≡ [] → kept max (count + m) (rooms_to (count + m) now) [] 0 ≡ kept max (count + m)
    (spent m (rooms_to count ends) ++ opened c n) [] 0
kept_passed max count m n c ends now now_is none =
    ap (λ (rooms : List ℕ). kept max (count + m) rooms [] 0)
    (ap (rooms_to (count + m)) now_is ∙ rooms-open count m ends ∙ sym (append-nil (spent m (rooms_to count ends)))
    ∙ ap (λ (l : List ℕ). spent m (rooms_to count ends) ++ l) (sym none))

-- an end that is reached once so many octets were taken is that of an object that is not open; else it is
kept_by_kind : (max count h len : ℕ) (c : Bool) (ends now : List ℕ) → AreFrom (count + (h + len)) ends
    → now ≡ open_after (count + cond c h (h + len)) (ends ++ (count + (h + len)) ∷ [])
    → kept max (count + cond c h (h + len)) (rooms_to (count + cond c h (h + len)) now) [] 0 ≡ kept max
    (count + cond c h (h + len))
    (spent (cond c h (h + len)) (rooms_to count ends) ++ opened c len) [] 0
kept_by_kind max count h len false ends now from is =
    kept_passed max count (h + len) len false ends now
    (is ∙ open_reached (count + (h + len)) (count + (h + len)) ends (omega arith)) refl
kept_by_kind max count h zero true ends now from is =
    kept_passed max count h 0 true ends now (is ∙ open_reached (count + h) (count + (h + 0)) ends (omega arith)) refl
kept_by_kind max count h (suc n) true ends now from is =
    let more : count + (h + suc n) ≡ count + h + suc n = omega arith in
    kept_opened max count h (suc n) (suc n) true ends (open_after (count + h) ends) now refl
    (
    is ∙ open_pushed (count + h) (count + (h + suc n)) ends from (omega arith)
    ∙ ap (λ (e : ℕ). open_after (count + h) ends ++ e ∷ []) more
    ) refl

-- what is kept once an object with a short header was entered
pub kept_short : (max count m c t w : ℕ) (o : ShortHeader) (ends now : List ℕ) → AreFrom (count + whole_of o) ends
    → m ≡ max → c ≡ count + t → t ≡ taken_of o → w ≡ whole_of o
    → now ≡ open_after (count + t) (ends ++ (count + w) ∷ [])
    → kept m c (rooms_to c now) [] 0 ≡ after_short (kept max count (rooms_to count ends) [] 0) o
kept_short max count m c t w o ends now from m_is c_is t_is w_is is =
    let place : c ≡ count + taken_of o = c_is ∙ ap (λ (n : ℕ). count + n) t_is in
    ap (λ (n : ℕ). kept n c (rooms_to c now) [] 0) m_is ∙ ap (λ (n : ℕ). kept max n (rooms_to n now) [] 0) place
    ∙ kept_by_kind max count o.header o.len o.is_constructed ends now from
    (is ∙ ap (λ (n : ℕ). open_after (count + n) (ends ++ (count + w) ∷ [])) t_is
    ∙ ap (λ (n : ℕ). open_after (count + taken_of o) (ends ++ (count + n) ∷ [])) w_is)

header_first : (c : Bool) (h n : ℕ) → h ≤ cond c h (h + n)
header_first true h n = omega arith
header_first false h n = omega arith

-- what is taken has the header
pub header_taken : (o : ShortHeader) → o.header ≤ taken_of o
header_taken o = header_first o.is_constructed o.header o.len

kind_within : (c : Bool) (h n : ℕ) → cond c h (h + n) ≤ h + n
kind_within true h n = omega arith
kind_within false h n = omega arith

-- of what is taken none is more than the object has
pub taken_within : (o : ShortHeader) → taken_of o ≤ whole_of o
taken_within o = kind_within o.is_constructed o.header o.len

-- ---- the header at the front of octets

-- bit 6 of the tag is that of the first octet
bit_of : (octets : List ℕ) (t : ℕ) (c : Bool) → 0 < t → IsTag (take t octets)
    → IsTrue c ↔ (slice_index octets 0 / 32 % 2 ≡ 1) → constructed_bit (take t octets) ≡ cond c 1 0
bit_of octets zero c some is_tag e = absurd (omega arith)
bit_of [] (suc t) c some is_tag e = absurd is_tag
bit_of (x ∷ octets) (suc t) true some is_tag e = e.0 refl
bit_of (x ∷ octets) (suc t) false some is_tag e =
    elim (bit_cases (x ∷ take t octets)) [
      | inl none ↦ none
      | inr one ↦ absurd (false≢true (e.1 one))
    ]

-- a tag and a length field are a header
pub joined : (octets : List ℕ) (t m : ℕ) (c : Bool) (l : ShortLength) → IsTag (take t octets) → 0 < t
    → t ≤ length octets → m ≡ t + (1 + further l.form)
    → IsTrue c ↔ (slice_index octets 0 / 32 % 2 ≡ 1) → IsShortLength (drop t octets) l
    → IsShort octets
    (record { tag = take t octets; form = l.form; header = m; is_constructed = c; len = l.len })
joined octets t m c l is_tag some inside more e h =
    record {
      is_tag = is_tag;
      longer = omega (arith, more, length-take t octets);
      within = omega (arith, more, h.within, length-drop t octets);
      fits = h.fits;
      is = ap (λ (n : ℕ). take n octets) more ∙ take-add t (1 + further l.form) octets
          ∙ ap (λ (rest : List ℕ). take t octets ++ rest) h.is;
      bit = bit_of octets t c some is_tag e;
    }

-- a header at the front of octets, with zeros after them, is theirs where they have all of it
pub at_front : (octets front : List ℕ) (o : ShortHeader) → take (length octets) front ≡ take 8 octets
    → length front ≤ 8 → o.header ≤ length octets → IsShort front o → IsShort octets o
at_front octets front o same few inside h =
    let alike : (n : ℕ) → n ≤ o.header → take n front ≡ take n octets =
    λ n le. sym (take-take n (length octets) front (omega (arith, le)))
    ∙ ap (take n) same ∙ take-take n 8 octets (omega (arith, le, h.within)) in
    record {
      is_tag = h.is_tag;
      longer = h.longer;
      within = inside;
      fits = h.fits;
      is = sym (alike o.header (omega arith)) ∙ h.is;
      bit = h.bit;
    }

first_three : (front : List ℕ) → 3 ≤ length front
    → slice_index front 0 ∷ slice_index front 1 ∷ slice_index front 2 ∷ [] ≡ take 3 front
first_three [] le = absurd (omega arith)
first_three (x ∷ []) le = absurd (omega arith)
first_three (x ∷ y ∷ []) le = absurd (omega arith)
first_three (x ∷ y ∷ z ∷ more) le = refl

-- a tag is among the first three octets
pub tag_in_front : (front : List ℕ) (t : ℕ) → 3 ≤ length front → t ≤ 3
    → take t (slice_index front 0 ∷ slice_index front 1 ∷ slice_index front 2 ∷ []) ≡ take t front
tag_in_front front t three few = ap (take t) (first_three front three) ∙ take-take t 3 front few

-- ---- the tag that is made of three octets and a count

-- what is kept of them is a whole tag, and it is that tag
pub record IsMade (l r : List ℕ) (count : ℕ) : Type 0 where
  pub whole : IsWholeTag (record { octets = slice_index r 0 ∷ slice_index r 1 ∷ slice_index r 2 ∷ []; count = count })
  pub same : take count (slice_index r 0 ∷ slice_index r 1 ∷ slice_index r 2 ∷ []) ≡ take count l

-- four octets of which the last is 0
bounded : (a b c : ℕ) → a < 256 → b < 256 → c < 256 → AreOctets (a ∷ b ∷ c ∷ 0 ∷ [])
bounded a b c a' b' c' zero = a'
bounded a b c a' b' c' (suc zero) = b'
bounded a b c a' b' c' (suc (suc zero)) = c'
bounded a b c a' b' c' (suc (suc (suc zero))) = omega arith
bounded a b c a' b' c' (suc (suc (suc (suc i)))) = omega arith

-- they are those of a number, the lowest first
octets_of_word : (a b c m : ℕ) → a < 256 → b < 256 → c < 256 → m ≡ a + b * 256 + c * 65536
    → to_le_bytes w32 m ≡ a ∷ b ∷ c ∷ 0 ∷ []
octets_of_word a b c m a' b' c' is =
    le_bytes_4 (a ∷ b ∷ c ∷ 0 ∷ []) m refl (bounded a b c a' b' c') (omega arith)

-- a mask of so many octets keeps the lowest of a number
abbrev kept_of : ℕ → ℕ → ℕ
kept_of n k = bit_and n ((1 * 2 ^ (8 * k)) % 4294967296 - 1)

keeps_one : (n k : ℕ) → k ≡ 1 → kept_of n k ≡ n % 256
keeps_one n k is = ap (kept_of n) is ∙ and_mask n 8

keeps_two : (n k : ℕ) → k ≡ 2 → kept_of n k ≡ n % 65536
keeps_two n k is = ap (kept_of n) is ∙ and_mask n 16

keeps_three : (n k : ℕ) → k ≡ 3 → kept_of n k ≡ n % 16777216
keeps_three n k is = ap (kept_of n) is ∙ and_mask n 24

-- so it is where the mask keeps the octets of the tag
pub tag_made : (x y z count k n : ℕ) (r : List ℕ) → x < 256 → y < 256 → z < 256 → count ≤ 3 → k ≡ count
    → IsTag (take count (x ∷ y ∷ z ∷ [])) → n ≡ x + y * 256 + z * 65536 → r ≡ to_le_bytes w32 (kept_of n k)
    → IsMade (x ∷ y ∷ z ∷ []) r count
tag_made x y z zero k n r x' y' z' few at is word made = absurd is
tag_made x y z (suc zero) k n r x' y' z' few at is word made =
    let kept : kept_of n k ≡ x = omega (arith, keeps_one n k at) in
    let octets : r ≡ x ∷ 0 ∷ 0 ∷ 0 ∷ [] = made ∙ octets_of_word x 0 0 (kept_of n k) x' (omega arith) (omega arith)
    (omega arith) in
    subst (λ (r : List ℕ). IsMade (x ∷ y ∷ z ∷ []) r 1) (sym octets)
    (record { whole = record { tag = is; count = refl; octets = refl }; same = refl })
tag_made x y z (suc (suc zero)) k n r x' y' z' few at is word made =
    let kept : kept_of n k ≡ x + y * 256 = omega (arith, keeps_two n k at) in
    let octets : r ≡ x ∷ y ∷ 0 ∷ 0 ∷ [] = made ∙ octets_of_word x y 0 (kept_of n k) x' y' (omega arith) (omega arith) in
    subst (λ (r : List ℕ). IsMade (x ∷ y ∷ z ∷ []) r 2) (sym octets)
    (record { whole = record { tag = is; count = refl; octets = refl }; same = refl })
tag_made x y z (suc (suc (suc zero))) k n r x' y' z' few at is word made =
    let kept : kept_of n k ≡ x + y * 256 + z * 65536 = omega (arith, keeps_three n k at) in
    let octets : r ≡ x ∷ y ∷ z ∷ 0 ∷ [] = made ∙ octets_of_word x y z (kept_of n k) x' y' z' (omega arith) in
    subst (λ (r : List ℕ). IsMade (x ∷ y ∷ z ∷ []) r 3) (sym octets)
    (record { whole = record { tag = is; count = refl; octets = refl }; same = refl })
tag_made x y z (suc (suc (suc (suc count)))) k n r x' y' z' few at is word made = absurd (omega arith)
