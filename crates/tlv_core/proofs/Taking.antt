-- What a check keeps after one more octet, or after a run of a value, is what these octets leave open.
use Rattle.std.proofs.Common.{◌≡◌, ℕ, ◌+◌, ◌*◌, ◌-◌, ◌^◌, ◌<◌, ◌≤◌, List, [], ◌∷◌, ◌++◌, length, refl, sym, ap, subst, ◌∙◌, arith, append-nil, append_assoc, length-append}
use Rattle.tlv_core.specs.declared.form.Form.{Form}
use Rattle.tlv_core.specs.declared.header.Header.{Header}
use Rattle.tlv_core.specs.declared.header.Header.TheVariants as header
use Rattle.tlv_core.specs.Number.{number_of, high_first}
use Rattle.tlv_core.specs.Form.{further}
use Rattle.tlv_core.specs.Tag.{header_of}
use Rattle.tlv_core.specs.Tree.{Tree, End}
use Rattle.tlv_core.specs.Forest.{spelling, IsProper, IsObject, deepest}
use Rattle.tlv_core.specs.Header.{header_octets, IsWell, header_need}
use Rattle.tlv_core.specs.Reasons.{EndsIn, Opens, Kept, HasTaken, room_of}
use Rattle.tlv_core.specs.Steps.{spent}
use Rattle.tlv_core.proofs.Numbers.{length-high_first, number-high_first, octets-high_first}
use Rattle.tlv_core.proofs.One.{join}
use Rattle.tlv_core.proofs.Stands.{Under, Nothing, First, Second, Tagged, Sized, Valued, IsUnder, IsHeader, under_octets, under_need, FitsIn, fits_room, opens_depth, spelling-join, proper-join}
use Rattle.tlv_core.proofs.Steps.{fits_more, spent-length, spent-fits, fits_down, opens_by, opens_whole}
use Rattle.tlv_core.proofs.Taken.{kept_at, Held, taken_of}

-- ---- a header of the code

-- a header of the code, as it is under way
abbrev pub under_of : Header → Under
under_of header.Nothing = Nothing
under_of (header.First first) = First first
under_of (header.Second first second) = Second first second
under_of (header.Tagged tag) = Tagged tag
under_of (header.Sized tag form read number) = Sized tag form (high_first read number)

-- it has the same octets
pub octets_under : (longer : Header) → under_octets (under_of longer) ≡ header_octets longer
octets_under header.Nothing = refl
octets_under (header.First first) = refl
octets_under (header.Second first second) = refl
octets_under (header.Tagged tag) = refl
octets_under (header.Sized tag form read number) = refl

-- it is of the kind that is said, at each depth of objects
pub well_under : (longer : Header) (d : ℕ) → IsWell longer → d ≤ deepest → IsUnder d (under_of longer)
well_under header.Nothing d h le = omega arith
well_under (header.First first) d h le = (le, h.0, h.1)
well_under (header.Second first second) d h le = (le, h.0, h.1, h.2, h.3)
well_under (header.Tagged tag) d h le = (le, h)
well_under (header.Sized tag form read number) d h le =
    (le, h.0, omega (arith, length-high_first read number, h.1), octets-high_first read number h.2)

-- as many octets must still come of it
pub need_under : (longer : Header) → IsWell longer → under_need (under_of longer) ≡ header_need longer
need_under header.Nothing h = refl
need_under (header.First first) h = refl
need_under (header.Second first second) h = refl
need_under (header.Tagged tag) h = refl
need_under (header.Sized tag form read number) h =
    ap (λ (j : ℕ). (further form - j) + number_of (high_first read number) * 256 ^ (further form - j))
    (length-high_first read number)
    ∙ ap (λ (n : ℕ). (further form - read) + n * 256 ^ (further form - read)) (number-high_first read number h.2)

-- some must, where it isn't empty
pub some_need : (longer : Header) → IsWell longer → (header_octets longer ≡ [] → ⊥) → 0 < header_need longer
some_need header.Nothing h some = absurd (some refl)
some_need (header.First first) h some = omega arith
some_need (header.Second first second) h some = omega arith
some_need (header.Tagged tag) h some = omega arith
some_need (header.Sized tag form read number) h some = omega (arith, h.1)

-- with it under way its octets are kept as the part of a header, and no octet of a value is to come
pub kept_under : (max count : ℕ) (rooms : List ℕ) (longer : Header)
    → kept_at max count rooms (under_of longer) ≡ record
    { max = max; count = count; rooms = rooms; header = header_octets longer; value_left = 0 }
kept_under max count rooms header.Nothing = refl
kept_under max count rooms (header.First first) = refl
kept_under max count rooms (header.Second first second) = refl
kept_under max count rooms (header.Tagged tag) = refl
kept_under max count rooms (header.Sized tag form read number) = refl

-- ---- what is under way before an octet of a header

-- what is under way is the part of a header that is kept, and an octet of a header is to come next
pub record HeldHeader (k : Kept) (u : Under) : Type 0 where
  pub header : k.header ≡ under_octets u
  pub is_header : IsHeader u

-- so it is where no octet of a value is to come
pub held_header : (k : Kept) (d max count : ℕ) (rooms : List ℕ) (u : Under) → IsUnder d u
    → k ≡ kept_at max count rooms u → k.value_left ≡ 0 → HeldHeader k u
held_header k d max count rooms Nothing ok e z = record { header = ap (λ (j : Kept). j.header) e; is_header = tt }
held_header k d max count rooms (First x) ok e z = record { header = ap (λ (j : Kept). j.header) e; is_header = tt }
held_header k d max count rooms (Second x y) ok e z = record { header = ap (λ (j : Kept). j.header) e; is_header = tt }
held_header k d max count rooms (Tagged tag) ok e z = record { header = ap (λ (j : Kept). j.header) e; is_header = tt }
held_header k d max count rooms (Sized tag form more) ok e z =
    record { header = ap (λ (j : Kept). j.header) e; is_header = tt }
held_header k d max count rooms (Valued tag form value left) ok e z =
    absurd (omega (arith, ok.2, ap (λ (j : Kept). j.value_left) e))

kept_count : (max count : ℕ) (rooms : List ℕ) (u : Under) → (kept_at max count rooms u).count ≡ count
kept_count max count rooms Nothing = refl
kept_count max count rooms (First x) = refl
kept_count max count rooms (Second x y) = refl
kept_count max count rooms (Tagged tag) = refl
kept_count max count rooms (Sized tag form more) = refl
kept_count max count rooms (Valued tag form value left) = refl

-- as many octets are counted as were taken
pub held_count : (b : List ℕ) (k : Kept) (s : Held b k) → k.count ≡ length b
held_count b k s = ap (λ (j : Kept). j.count) s.is ∙ kept_count k.max (length b) k.rooms s.under

-- where an octet of a header comes, the list stands at one of the depths of objects, unless it is a filler
pub shallow_at : (d : ℕ) (u : Under) → IsUnder d u → IsHeader u → (under_octets u ≡ [] → d ≤ deepest) → d ≤ deepest
shallow_at d Nothing ok h deep = deep refl
shallow_at d (First x) ok h deep = ok.0
shallow_at d (Second x y) ok h deep = ok.0
shallow_at d (Tagged tag) ok h deep = ok.0
shallow_at d (Sized tag form more) ok h deep = ok.0
shallow_at d (Valued tag form value left) ok h deep = absurd h

-- ---- an octet of a header

-- the innermost list, after octets more
ends_with : (d : ℕ) (add last next v : List ℕ) → EndsIn d last v → last ++ add ≡ next → EndsIn d next (v ++ add)
ends_with d add last next v ends e = record {
  done = ends.done;
  proper = ends.proper;
  is =
      ap (λ (l : List ℕ). l ++ add) ends.is ∙ append_assoc (spelling ends.done) last add
      ∙ ap (λ (l : List ℕ). spelling ends.done ++ l) e;
}

-- the innermost list ends in what it ended in, and one octet more
pub ends_more : (d x : ℕ) (last next v : List ℕ) → EndsIn d last v → last ++ x ∷ [] ≡ next → EndsIn d next (v ++ x ∷ [])
ends_more d x last next v ends e = ends_with d (x ∷ []) last next v ends e

-- the innermost list, where the octets complete an item
ends_item : (d : ℕ) (last add v : List ℕ) (item : Tree) → EndsIn d last v → IsProper d item → last
    ++ add ≡ spelling item → EndsIn d [] (v ++ add)
ends_item d last add v item ends proper e =
    record {
      done = join ends.done item;
      proper = proper-join ends.done item d ends.proper proper;
      is = ap (λ (l : List ℕ). l ++ add) ends.is ∙ append_assoc (spelling ends.done) last add
          ∙ ap (λ (l : List ℕ). spelling ends.done ++ l) e ∙ sym (spelling-join ends.done item)
          ∙ sym (append-nil (spelling (join ends.done item)));
    }

-- what was taken, with its count
counted : (max n : ℕ) (b rooms : List ℕ) (u : Under) → length b ≡ n → HasTaken b (kept_at max (length b) rooms u)
    → HasTaken b (kept_at max n rooms u)
counted max n b rooms u e h = subst (λ (c : ℕ). HasTaken b (kept_at max c rooms u)) e h

-- an item is whole
pub taken_item : (b : List ℕ) (k : Kept) (m : ℕ) (add : List ℕ) (s : Held b k) (item : Tree) → length add ≡ m
    → m ≤ room_of (k.max - length b) k.rooms → IsProper (1 + length k.rooms) item → under_octets s.under
    ++ add ≡ spelling item
    → HasTaken (b ++ add) (record {
      max = k.max;
      count = k.count + m;
      rooms = spent m k.rooms;
      header = [];
      value_left =
          0;
    })
taken_item b k m add s item len le proper e =
    let left = k.max - length b in
    let fits : FitsIn left k.rooms m = fits_more left k.rooms (under_need s.under) m s.fits le in
    let opens : Opens 1 (spent m k.rooms) [] (b ++ add) =
    opens_whole k.rooms 1 m left m (under_octets s.under) b add len fits (omega arith)
    (λ v ends. ends_item (1 + length k.rooms) (under_octets s.under) add v item ends proper e) s.opens in
    let total : length (b ++ add) ≡ k.count + m = omega (arith, length-append b add, held_count b k s) in
    let within : m ≤ left = omega (arith, le, fits_room k.rooms left m fits) in
    let after : FitsIn (left - m) (spent m k.rooms) 0 =
    spent-fits m left 0 k.rooms (subst (FitsIn left k.rooms) (omega arith) fits) in
    let left_is : left - m ≡ k.max - length (b ++ add) = omega (arith, length-append b add) in
    counted k.max (k.count + m) (b ++ add) (spent m k.rooms) Nothing total
    (taken_of k.max (b ++ add) (spent m k.rooms) Nothing (omega (arith, length-append b add, s.size)) opens
    (omega (arith, opens_depth (spent m k.rooms) 1 [] (b ++ add) (omega arith) opens))
    (subst (λ (n : ℕ). FitsIn n (spent m k.rooms) 0) left_is after))

-- something longer is under way in the innermost list
pub taken_under : (b : List ℕ) (k : Kept) (m : ℕ) (add : List ℕ) (s : Held b k) (u : Under) → length add ≡ m
    → m + under_need u ≤ room_of (k.max - length b) k.rooms → 0 < under_need u → IsUnder (1 + length k.rooms) u
    → ((v : List ℕ) → EndsIn (1 + length k.rooms) (under_octets s.under) v
    → EndsIn (1 + length k.rooms) (under_octets u) (v ++ add))
    → HasTaken (b ++ add) (kept_at k.max (k.count + m) (spent m k.rooms) u)
taken_under b k m add s u len le some ok ends =
    let left = k.max - length b in
    let fits : FitsIn left k.rooms (m + under_need u) =
    fits_more left k.rooms (under_need s.under) (m + under_need u) s.fits le in
    let opens : Opens 1 (spent m k.rooms ++ []) (under_octets u) (b ++ add) =
    opens_by k.rooms 1 m left (under_need u) (under_octets s.under) b add [] (under_octets u) len some fits ends
    s.opens in
    let total : length (b ++ add) ≡ k.count + m = omega (arith, length-append b add, held_count b k s) in
    let within : m ≤ left = omega (arith, le, fits_room k.rooms left (m + under_need u) fits) in
    let after : FitsIn (left - m) (spent m k.rooms) (under_need u) = spent-fits m left (under_need u) k.rooms fits in
    let left_is : left - m ≡ k.max - length (b ++ add) = omega (arith, length-append b add) in
    let depth : length k.rooms ≡ length (spent m k.rooms) =
    sym (spent-length m left (under_need u) k.rooms some fits) in
    counted k.max (k.count + m) (b ++ add) (spent m k.rooms) u total
    (
    taken_of k.max (b ++ add) (spent m k.rooms) u (omega (arith, length-append b add, s.size))
    (subst (λ (l : List ℕ). Opens 1 l (under_octets u) (b ++ add)) (append-nil (spent m k.rooms)) opens)
    (subst (λ (n : ℕ). IsUnder (1 + n) u) depth ok)
    (subst (λ (n : ℕ). FitsIn n (spent m k.rooms) (under_need u)) left_is after)
    )

-- an object is open in the innermost list
pub opens_object : (b : List ℕ) (k : Kept) (m : ℕ) (add : List ℕ) (s : Held b k) (tag : List ℕ) (form : Form) (n : ℕ)
    → length add ≡ m → 0 < n → m + n ≤ room_of (k.max - length b) k.rooms → IsObject (1 + length k.rooms) 1 tag form n
    → under_octets s.under ++ add ≡ header_of tag form n
    → HasTaken (b ++ add) (record {
      max = k.max;
      count = k.count + m;
      rooms = spent m k.rooms ++ n ∷ [];
      header =
          [];
      value_left = 0;
    })
opens_object b k m add s tag form n len some le object e =
    let left = k.max - length b in
    let fits : FitsIn left k.rooms (m + n) = fits_more left k.rooms (under_need s.under) (m + n) s.fits le in
    let plus : n ≡ 0 + n = omega arith in
    let inner : (v : List ℕ) → EndsIn (1 + length k.rooms) (under_octets s.under) v
    → Opens (1 + length k.rooms) (n ∷ []) [] (v ++ add) = λ v ends.
    let more = ends_with (1 + length k.rooms) add (under_octets s.under) (header_of tag form n) v ends e in (
      [],
      record {
        done = more.done;
        proper = more.proper;
        tag = tag;
        form = form;
        object = subst (λ (j : ℕ). IsObject (1 + length k.rooms) 1 tag form j) plus object;
        open_yet = some;
        is = more.is ∙ ap (λ (l : List ℕ). spelling more.done ++ l)
            (ap (header_of tag form) plus ∙ sym (append-nil (header_of tag form (0 + n))));
      },
      record { done = End; proper = tt; is = refl },
    ) in
    let opens : Opens 1 (spent m k.rooms ++ n ∷ []) [] (b ++ add) =
    opens_by k.rooms 1 m left n (under_octets s.under) b add (n ∷ []) [] len some fits inner s.opens in
    let total : length (b ++ add) ≡ k.count + m = omega (arith, length-append b add, held_count b k s) in
    let within : m ≤ left = omega (arith, le, fits_room k.rooms left (m + n) fits) in
    let after : FitsIn (left - m) (spent m k.rooms ++ n ∷ []) 0 =
    fits_down (left - m) n (spent m k.rooms) (spent-fits m left n k.rooms fits) in
    let left_is : left - m ≡ k.max - length (b ++ add) = omega (arith, length-append b add) in
    counted k.max (k.count + m) (b ++ add) (spent m k.rooms ++ n ∷ []) Nothing total
    (
    taken_of k.max (b ++ add) (spent m k.rooms ++ n ∷ []) Nothing (omega (arith, length-append b add, s.size)) opens
    (omega (arith, opens_depth (spent m k.rooms ++ n ∷ []) 1 [] (b ++ add) (omega arith) opens))
    (subst (λ (j : ℕ). FitsIn j (spent m k.rooms ++ n ∷ []) 0) left_is after)
    )

-- and so it is where one octet completes its header
pub taken_open : (b : List ℕ) (k : Kept) (x : ℕ) (s : Held b k) (tag : List ℕ) (form : Form) (n : ℕ) → 0 < n
    → n < room_of (k.max - length b) k.rooms → IsObject (1 + length k.rooms) 1 tag form n → under_octets s.under
    ++ x ∷ [] ≡ header_of tag form n
    → HasTaken (b ++ x ∷ []) (record {
      max = k.max;
      count = k.count + 1;
      rooms = spent 1 k.rooms ++ n ∷ [];
      header =
          [];
      value_left = 0;
    })
taken_open b k x s tag form n some le object e =
    opens_object b k 1 (x ∷ []) s tag form n refl some (omega arith) object e
